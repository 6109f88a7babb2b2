-- A turn of a trial leaves each slot on something, and the trial followed; so does its last one.
use Rattle.std.proofs.Common.{nat_lt, ◌+◌, Bool, true, false, ◌≡◌, ◌≢◌, inl, inr, ℕ, true, false, Option, None, Some, IfSome, slice_index_or, refl, sym, ap, subst, ◌∙◌}
use Rattle.rec_core.proofs.Common.{place_of, target_of, is_green, LeadsToVisible, State, slot_at, word_at, visible, Trying, Machine, Work, Op, Core, sight, IsKept}
use Rattle.rec_word.specs.Word.{target_bits}
use Rattle.rec_word.specs.declared.op.Op.TheVariants.{LoadChild}
use Rattle.rec_trial.specs.declared.phase.Phase.TheVariants as trial_at
use Rattle.rec_trial.specs.Trial as trials
use Rattle.rec_trial.specs.Trial.{is_due, learnt_at, next_of, pointed, settled, took_of}
use Rattle.rec_trial.proofs.Course.{Course, learnt, learnt_course}
use Rattle.rec_trial.proofs.Deletion.{Loads, Seen, seen, with_load}
use Rattle.rec_trial.proofs.Moving.{settled_is_due}
use Rattle.rec_trial.proofs.Learning.{busy_phase}
use Rattle.rec_trial.proofs.Running.{due_op}
use Rattle.rec_trial.proofs.Runs.{idle_or_busy, node_seen, took_busy}
use Rattle.std.proofs.lemmas.Bool.{false≢true}
use Rattle.std.specs.Prelude.{is_some}
use Rattle.rec_trial.proofs.Views.{view}
use Rattle.rec_trial.proofs.Visible.{visible_leads}
use Rattle.rec_collector.specs.Kept as collector_kept
use Rattle.rec_core.proofs.Trying.{loaded_leads}
use Rattle.rec_core.proofs.Turns.{now_at}
use Rattle.rec_prompt.specs.Cover.{Covers, IsCovered, IsPending}
use Rattle.rec_prompt.proofs.Clears.{heeds_leaders}
use Rattle.rec_prompt.proofs.Ended.{ended_covers, member_or_held}
use Rattle.rec_prompt.proofs.Followed.{AreBlackened, AreMarked, IsFollowed}
use Rattle.rec_prompt.proofs.Hanging.{leaders_count, LeadersCount}
use Rattle.rec_prompt.proofs.Heeding.{FoundIn, Heeds, heeds_covers}
use Rattle.rec_prompt.proofs.Learnt.{loads_more}
use Rattle.rec_prompt.proofs.Tried.{IsPlainTarget, learnt_heeds, Tries, tries_settled}

-- where no trial is at work nothing comes next
idle_none : (k : Machine) → k.phase ≡ trial_at.Idle → next_of k ≡ None
unfolding next_of
idle_none k e = ap (λ p. trials.op_at p k) e

-- the next field is loaded in the same phase
same_phase : (m : Machine) (b : Bool) → (trials.advanced_if b m).phase ≡ m.phase
same_phase m true = refl
same_phase m false = refl

pub none_idle : (k : Machine) → next_of k ≡ None → k.phase ≡ trial_at.Idle
none_idle k none = elim (idle_or_busy k) [ inl idle ↦ idle | inr busy ↦ absurd (false≢true (sym (ap is_some none) ∙ busy)) ]

module _ (v : Core) (m : Machine) (kept : IsKept true v) (at : v.collector.phase ≡ Trying m) (place : ℕ) (named : ◌≡◌ {A = Option Op} (next_of m) (Some (LoadChild place))) (f : IsFollowed (sight v) (IsPending v) v.collector.counts m) (c : IsCovered v) where
  abbrev s : State
  s = v.collector.counts

  abbrev word : ℕ
  word = slice_index_or v.words place 0

  abbrev first : Work
  first = record { machine = m; counts = s }

  abbrev pub after : Work
  after = took_of first (visible s word)

  now : collector_kept.IsTrying v.collector m
  now = now_at v (Trying m) kept at

  fields : m.fields ≡ v.config.fields
  fields = now.fields ∙ kept.collector.fields

  leads : LeadsToVisible s (visible s word)
  leads = visible_leads s word (loaded_leads v m kept at place named)

  plain : IsPlainTarget s (target_of (visible s word))
  plain = go (target_of (visible s word)) leads
    where
      go : (t : Option ℕ) → IfSome t (λ x. ((slot_at s x).released ≡ false) × (is_green (slot_at s x).colour ≡ false)) → IsPlainTarget s t
      go None h = tt
      go (Some x) h = h.1

  -- the load
  abbrev l : Seen
  l = seen m.phase (view first) (target_bits (visible s word))

  abbrev ls : Loads
  ls = with_load m.phase l f.ls

  here : word ≡ word_at (sight v) l.node l.field
  here =
      let node : m.slot ≡ l.node = f.node ∙ node_seen first m.phase in
      let loads : place_of m.slot m.field m.fields ≡ place = same_place (place_of m.slot m.field m.fields) place (sym (due_op m now.busy) ∙ named) in
      ap (λ n. slice_index_or v.words n 0) (sym loads ∙ ap (λ n. place_of n m.field m.fields) node ∙ ap (place_of l.node m.field) fields)
    where
      same_place : (a b : ℕ) → ◌≡◌ {A = Option Op} (Some (LoadChild a)) (Some (LoadChild b)) → a ≡ b
      same_place a b e = cc

  more : AreMarked (sight v) (IsPending v) s ls.marks × AreBlackened (sight v) (IsPending v) ls.blacks
  more = loads_more (sight v) (IsPending v) s word l here refl m.phase f.ls f.marks f.blacks

  learns : Course v.config.fields f.before (learnt first (visible s word)) ls
  learns = learnt_course first f.course f.due now.busy (visible s word) leads

  heeds : Heeds s (learnt first (visible s word)).counts
  heeds = learnt_heeds m.phase s (target_of (visible s word)) plain

  abbrev then : Work
  then = pointed (settled (learnt first (visible s word)))

  is_then : after ≡ then
  is_then = took_busy first (visible s word) now.busy

  goes : Course v.config.fields f.before then ls × Tries v.config.fields f.before s ls then
  goes = tries_settled v.config.fields f.before s ls (learnt first (visible s word)) learns heeds (λ e. busy_phase m (sym (same_phase m (nat_lt (m.field + 1) m.fields)) ∙ e) now.busy)

  alive : LeadersCount (sight v) s
  alive = leaders_count v kept

  -- the counts of slots don't change, nor which are Green
  same_count : (w : Work) → Course v.config.fields f.before w ls → (x : ℕ) → (slot_at w.counts x).count ≡ (slot_at s x).count
  same_count w d x = ap (λ (g : ℕ → ℕ). g x) d.same.count ∙ sym (ap (λ (g : ℕ → ℕ). g x) f.course.same.count)

  marks_then : (w : State) → Heeds s w → AreMarked (sight v) (IsPending v) w ls.marks
  marks_then w h n g x within some led = elim (more.0 n g x within some led) [
    | inl hit ↦ inl hit
    | inr rest ↦ elim rest [ inl green ↦ inr (inl (h.greens x ∙ green)) | inr trail ↦ inr (inr trail) ]
  ]

  -- where it has come to
  pub record HasTried (u : Work) : Type 0 where
    pub leaders : LeadersCount (sight v) u.counts
    pub covers : Covers (sight v) (IsPending v) u.counts
    pub follows : next_of u.machine ≢ None → IsFollowed (sight v) (IsPending v) u.counts u.machine
    -- it is over with each slot found or on a path from what is pending, and nothing but the marks is dropped
    pub found : next_of u.machine ≡ None → FoundIn (sight v) (IsPending v) u.counts
    pub gone : (x : ℕ) → (slot_at s x).released ≡ true → (slot_at u.counts x).released ≡ true

  has_tried : Tries v.config.fields f.before s ls then → HasTried then
  has_tried (Tries.goes h busy_) = record {
    leaders = heeds_leaders (sight v) s then.counts h alive;
    covers = heeds_covers (sight v) (IsPending v) s then.counts (heeds_leaders (sight v) s then.counts h alive) h c;
    follows = λ busy. record { before = f.before; ls = ls; course = goes.0; due = settled_is_due (learnt first (visible s word)); node = refl; marks = marks_then then.counts h; blacks = more.1 };
    found = λ none. absurd (busy_ (none_idle then.machine none));
    gone = h.gone;
  }
  has_tried (Tries.ends w h d inv roots all idle is) = record {
    leaders = λ from x led. let there = alive from x led in (there.0, ap (λ (t : State). is_green (slot_at t from).colour) is ∙ h.greens from ∙ there.1);
    covers = subst (Covers (sight v) (IsPending v)) (sym is) (ended_covers v kept f.before ls w inv all (same_count w d) h.greens (d.rest.zeros ∙ sym f.course.rest.zeros ∙ now.zeros) roots (marks_then w.counts h) more.1 (heeds_covers (sight v) (IsPending v) s w.counts (heeds_leaders (sight v) s w.counts h alive) h c));
    follows = λ busy. absurd (busy (idle_none then.machine idle));
    found = λ none. subst (FoundIn (sight v) (IsPending v)) (sym is) (λ x taken plain_. elim (member_or_held v kept f.before ls w inv all (same_count w d) h.greens (d.rest.zeros ∙ sym f.course.rest.zeros ∙ now.zeros) roots (marks_then w.counts h) more.1 (heeds_covers (sight v) (IsPending v) s w.counts (heeds_leaders (sight v) s w.counts h alive) h c) x taken plain_) [ inl member ↦ inl (inr member) | inr held ↦ inr held ]);
    gone = λ x was. ap (λ (t : State). (slot_at t x).released) is ∙ h.gone x was;
  }

  pub trialled : HasTried after
  trialled = subst HasTried (sym is_then) (has_tried goes.1)

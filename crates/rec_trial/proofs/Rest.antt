-- What a trial leaves of the counts beside the slots: roots, sets, zeros and the free list.
use Rattle.std.proofs.Common.{◌≡◌, ℕ, suc, ◌-◌, ◌<◌, ◌≤◌, Bool, true, false, cond, Some, List, [], ◌∷◌, ◌++◌, length, refl, sym, ap, ◌∙◌, arith, append_assoc}
use Rattle.std.specs.List.{concat}
use Rattle.std.proofs.lemmas.List.{length-set, length-map, length-append}
use Rattle.rec_counts.specs.declared.slot.Slot.{Slot}
use Rattle.rec_trial.specs.Moves.{whitened, joined_if}
use Rattle.std.proofs.Math.ListN.{set}
use Rattle.rec_trial.proofs.Common.{Orange, State, slot_at, with_slot, without_root, Phase, Marking, released_among, Work}
use Rattle.rec_trial.proofs.Learning.{Learnt, takes_one, marks, blackens, joins}
use Rattle.rec_trial.proofs.Moving.{Moved, scan_begins, root_freed, root_marked, root_passed, scan_passes, scan_blackens, collect_begins, set_passes, set_begins, ends, tried_slot}
use Rattle.rec_trial.proofs.Views.{concat_member, length_member, concat_new}

-- after marking there are no roots
abbrev pub no_roots_at : Phase → List ℕ → Type 0
no_roots_at Marking roots = Unit {0}
no_roots_at _ roots = roots ≡ []

-- what came of the lists since the trial began
pub record RestOf (before : State) (p : Phase) (now_slots : List Slot) (now_zeros now_roots : List ℕ) (now_sets : List (List ℕ)) (now_free : List ℕ) : Type 0 where
  pub slots : length now_slots ≡ length before.slots
  pub zeros : now_zeros ≡ before.zeros
  pub no_roots : no_roots_at p now_roots
  pub few : length now_sets ≤ length (concat now_sets)
  pub free : now_free ++ released_among before now_roots ≡ before.free ++ released_among before before.roots

abbrev pub Rest : State → Phase → State → Type 0
Rest before p s = RestOf before p s.slots s.zeros s.roots s.sets s.free

-- a slot is written
rest_set : {before : State} {p : Phase} {slots : List Slot} {zeros roots : List ℕ} {sets : List (List ℕ)} {free : List ℕ} → RestOf before p slots zeros roots sets free → (x : ℕ) (v : Slot) → RestOf before p (set slots x v) zeros roots sets free
rest_set {slots = slots} r x v = record { slots = length-set slots x v ∙ r.slots; zeros = r.zeros; no_roots = r.no_roots; few = r.few; free = r.free }

joined_length : (s : State) (x : ℕ) → length (joined_if true s x).slots ≡ length s.slots
joined_length s x =
    let v : Slot = record (slot_at s x) { colour = Orange } in
    length-set (with_slot s x v).slots x (record (slot_at (with_slot s x v) x) { buffered = true; set = Some (length s.sets - 1) })
    ∙ length-set s.slots x v

-- a member more, in a last set that may have none yet
rest_joined : {before : State} {p : Phase} (s : State) (x : ℕ) (sets : List (List ℕ)) → 0 < length sets → length sets ≤ suc (length (concat sets)) → Rest before p s → Rest before p (joined_if true (record s { sets = sets }) x)
rest_joined s x sets some few r = record {
  slots = joined_length (record s { sets = sets }) x ∙ r.slots;
  zeros = r.zeros;
  no_roots = r.no_roots;
  few = omega (arith, length_member sets x, ap length (concat_member sets x some), length-append (concat sets) (x ∷ []), few);
  free = r.free;
}

-- a word
pub learnt_rest : {before s t : State} {p : Phase} {code : ℕ} → Learnt s p code t → Rest before p s → Rest before p t
learnt_rest (takes_one x l g) r = rest_set r x _
learnt_rest (marks x l green g) r = rest_set (rest_set r x _) x _
learnt_rest (blackens x l g) r = rest_set r x _
learnt_rest {s = s} (joins x l some g) r = rest_joined s x s.sets some (omega (arith, r.few)) r
learnt_rest _ r = r

-- a root leaves, and goes to the free list where it was released
listed : (before s : State) (x : ℕ) (xs : List ℕ) (out : Bool) → (slot_at before x).released ≡ out → cond out (s.free ++ x ∷ []) s.free ++ released_among before xs ≡ s.free ++ released_among before (x ∷ xs)
listed before s x xs true e = rw e (append_assoc s.free (x ∷ []) (released_among before xs))
listed before s x xs false e = rw e refl

rest_left : {before : State} (s : State) (x : ℕ) (xs : List ℕ) → s.roots ≡ x ∷ xs → (out : Bool) → (slot_at before x).released ≡ out → Rest before Marking s → Rest before Marking (record (without_root (x ∷ xs) s) { free = cond out (s.free ++ x ∷ []) s.free })
rest_left {before} s x xs here out e r = record {
  slots = length-set s.slots x (record (slot_at s x) { buffered = false }) ∙ r.slots;
  zeros = r.zeros;
  no_roots = tt;
  few = r.few;
  free = listed before s x xs out e ∙ ap (λ rs. s.free ++ released_among before rs) (sym here) ∙ r.free;
}

-- a move
pub moved_rest : {before : State} {w v : Work} {p : Phase} → Moved w p v → ((x : ℕ) → (slot_at w.counts x).released ≡ (slot_at before x).released) → Rest before p w.counts → Rest before v.machine.phase v.counts
moved_rest (scan_begins e) same r = record { slots = r.slots; zeros = r.zeros; no_roots = e; few = r.few; free = r.free }
moved_rest {w = w} (root_freed x xs e o) same r = rest_left w.counts x xs e true (sym (same x) ∙ o) r
moved_rest {w = w} (root_marked x xs e o k) same r = rest_set (rest_left w.counts x xs e false (sym (same x) ∙ o) r) x _
moved_rest {w = w} (root_passed x xs e o k) same r = rest_left w.counts x xs e false (sym (same x) ∙ o) r
moved_rest {w = w} (scan_blackens l g c) same r = rest_set r (tried_slot w) _
moved_rest {w = w} (collect_begins l) same r = record { slots = length-map w.counts.slots whitened ∙ r.slots; zeros = r.zeros; no_roots = r.no_roots; few = r.few; free = r.free }
moved_rest {w = w} (set_begins l h) same r = rest_joined w.counts (tried_slot w) (w.counts.sets ++ [] ∷ []) (omega (arith, length-append w.counts.sets ([] ∷ []))) (omega (arith, length-append w.counts.sets ([] ∷ []), ap length (concat_new w.counts.sets), r.few)) r
moved_rest (ends l) same r = record { slots = r.slots; zeros = r.zeros; no_roots = r.no_roots; few = r.few; free = r.free }
moved_rest (scan_passes l h) same r = r
moved_rest (set_passes l h) same r = r

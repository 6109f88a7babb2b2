-- What a trial promises on words that do not change.
use Rattle.std.proofs.Common.{◌≡◌, ℕ, suc, ◌+◌, ◌-◌, ◌<◌, ◌≤◌, false, eqb, Some, List, [], ◌∷◌, map, refl, sym, ap, ◌∙◌, arith, ◌⊎◌, inl, inr, cond}
use Rattle.std.proofs.lemmas.Bool.Decides.{nat_tests}
use Rattle.rec_trial.proofs.Common.{target_of, is_slot, predecessor, target_bits, State, slot_at, one, is_green, is_white, Run, run_of}
use Rattle.rec_counts.specs.Lists as in_counts
use Rattle.rec_word.specs.Load.{Load}
use Rattle.rec_trial.specs.Still.{AreStill, IsReached, IsHeld, IsExact, TrialIsExact, rest, visible_words}
use Rattle.rec_trial.specs.Still as still
use Rattle.rec_trial.specs.Tried.{members}
use Rattle.rec_trial.proofs.Course.{first_view}
use Rattle.rec_trial.proofs.Deletion.{Seen}
use Rattle.rec_trial.proofs.Done.{all_of, within_of, no_white_left}
use Rattle.rec_trial.proofs.Holding.{named, loaded, edges, Finished, Over, Reached, Hot}
use Rattle.rec_trial.proofs.Holding as law
use Rattle.rec_trial.proofs.Marks.{edge_split}
use Rattle.rec_trial.proofs.Readings.{code_some, codes, fields_read, leads_code}
use Rattle.rec_trial.proofs.Runs.{Told, told_run, seen_of, seen_in}
use Rattle.rec_trial.proofs.Totals.{nonzero, total, total_below, same, times, occurs, first_whole}
use Rattle.rec_trial.proofs.Views.{bits_suc, view}
use Rattle.rec_trial.proofs.Visible.{led_where_seen, seen_leads, seen_where_led}
use Rattle.rec_trial.proofs.Whole.{is_over, over_of}

-- a load of a field of a node led to another
record Edge (word : ℕ → ℕ → ℕ) (n x : ℕ) (ls : List Seen) : Type 0 where
  field : ℕ
  leads : target_of (word n field) ≡ Some x
  was_loaded : 0 < loaded n field ls

edge_from : (word : ℕ → ℕ → ℕ) (n x : ℕ) (loads : List Load) → AreStill word loads → 0 < edges n x (map seen_of loads) → Edge word n x (map seen_of loads)
edge_from word n x [] t h = absurd (omega arith)
edge_from word n x (l ∷ loads) t h = go (edge_split n x (seen_of l) (map seen_of loads) h) (edge_from word n x loads t.1)
  where
    go : ((n ≡ l.slot) × (suc x ≡ target_bits l.word)) ⊎ (0 < edges n x (map seen_of loads)) → (0 < edges n x (map seen_of loads) → Edge word n x (map seen_of loads)) → Edge word n x (map seen_of (l ∷ loads))
    go (inl q) r = record { field = l.field; leads = ap (λ k. target_of (word k l.field)) q.0 ∙ ap target_of (sym t.0) ∙ ap predecessor (sym q.1) ∙ bits_suc x; was_loaded = grind (arith, nat_tests, q.0) }
    go (inr k) r = let e : Edge word n x (map seen_of loads) = r k in record { field = e.field; leads = e.leads; was_loaded = omega (arith, e.was_loaded) }

named_from : (word : ℕ → ℕ → ℕ) (n g x : ℕ) (loads : List Load) → AreStill word loads → codes word n g ≡ suc x → loaded n g (map seen_of loads) ≤ named x (map seen_of loads)
named_from word n g x [] t q = omega arith
named_from word n g x (l ∷ loads) t q = omega (arith, named_from word n g x loads t.1 q, here (codes word) l.slot l.field (target_bits l.word) (ap target_bits t.0) q)
  where
    here : (code : ℕ → ℕ → ℕ) (a b c : ℕ) → c ≡ code a b → code n g ≡ suc x → cond (eqb n a) (same g b) 0 ≤ same (suc x) c
    here code a b c e q = grind (arith, nat_tests)

named_sum : (word : ℕ → ℕ → ℕ) (x : ℕ) (loads : List Load) → AreStill word loads → named x (map seen_of loads) ≡ total (λ l. same (suc x) (codes word l.node l.field)) (map seen_of loads)
named_sum word x [] t = refl
named_sum word x (l ∷ loads) t = omega (arith, ap (λ k. same (suc x) (target_bits k)) t.0, named_sum word x loads t.1)

-- no slot on such a path is Green
pub reached_other : {fields : ℕ} {word : ℕ → ℕ → ℕ} {s : State} {x : ℕ} → IsReached fields word s x → is_green (slot_at s x).colour ≡ false
reached_other (still.IsReached.seed k) = ap is_green k.purple
reached_other (still.IsReached.along p g l q other) = other

module _ (fields : ℕ) (word : ℕ → ℕ → ℕ) (before : State) (r : Run) (marked work : List ℕ) (f : Finished (first_view fields before) (record (view r.work) { marked = marked; work = work }) (seen_in r)) (tm : AreStill (visible_words before word) r.marking) (tb : AreStill (visible_words before word) r.blackening) where
  abbrev sees : ℕ → ℕ → ℕ
  sees = visible_words before word

  width : (view r.work).fields ≡ fields
  width = f.kept.fields

  -- a field of a marked slot leads to a marked slot or a Green one
  closed : (n g x : ℕ) → 0 < times n marked → g < fields → target_of (word n g) ≡ Some x → is_green (slot_at before x).colour ≡ false → 0 < times x marked
  closed n g x h l q other =
      let is_named : 0 < named x (map seen_of r.marking) = omega (arith, all_of f.marks_all n g (omega (arith, l, width)), named_from sees n g x r.marking tm (code_some (codes sees n g) x (seen_where_led before (word n g) x other q))) in
      nonzero (times x marked) (λ z. omega (arith, f.fresh x z, is_named))

  reached_of : {x : ℕ} → Reached (first_view fields before) (map seen_of r.marking) x → IsReached fields word before x
  reached_of (law.Reached.seed {x} k) = still.IsReached.seed (record { root = omega (arith, occurs x before.roots, k.root); purple = k.is_purple; unreleased = k.live })
  reached_of (law.Reached.along {n} {x} p h) =
      let d : Edge sees n x (map seen_of r.marking) = edge_from sees n x r.marking tm h in
      let led = led_where_seen before (word n d.field) x d.leads in
      still.IsReached.along (reached_of p) d.field (omega (arith, width, within_of f.marks_all n d.field d.was_loaded)) led.0 led.1

  marked_of : {x : ℕ} → IsReached fields word before x → 0 < times x marked
  marked_of (still.IsReached.seed {x} k) = f.seeds x (record { root = omega (arith, occurs x before.roots, k.root); is_purple = k.purple; live = k.unreleased })
  marked_of (still.IsReached.along {n} {x} p g l q other) = closed n g x (marked_of p) l q other

  rest_is : (x : ℕ) → 0 < times x marked → (view r.work).cyclic x ≡ rest fields word marked before x
  rest_is x h =
      let leads : (n g : ℕ) → one (is_slot x (target_of (word n g))) ≡ same (suc x) (codes sees n g) = λ n g. ap one (sym (seen_leads before (word n g) x (f.no_green x h))) ∙ leads_code x (codes sees n g) in
      let a : (view r.work).cyclic x ≡ (view r.work).count x - total (λ n. total_below (λ g. same (suc x) (codes sees n g)) (view r.work).fields) marked = omega (arith, f.rest x h, named_sum sees x r.marking tm, f.marks_all.swept (λ n g. same (suc x) (codes sees n g)), first_whole (λ n. total_below (λ g. same (suc x) (codes sees n g)) (view r.work).fields) marked) in
      let b : (view r.work).cyclic x ≡ (view r.work).count x - total (λ n. total_below (λ g. same (suc x) (codes sees n g)) fields) marked = rw width at a in
      omega (arith, b, ap (λ (g : ℕ → ℕ). g x) f.kept.count, fields_read fields (λ n g. is_slot x (target_of (word n g))) (λ n g. same (suc x) (codes sees n g)) leads marked)

  -- a marked slot is black or a member
  black_or_member : (x : ℕ) → 0 < times x marked → 1 ≡ times x work + times x (members r.work.counts)
  black_or_member x h = fit (times x work) (times x (members r.work.counts)) (f.parts x) (f.once x) h (no_white_left f x h)
    where
      fit : {m : ℕ} (w j : ℕ) → m ≡ one (is_white ((view r.work).colour x)) + w + j → m ≤ 1 → 0 < m → is_white ((view r.work).colour x) ≡ false → 1 ≡ w + j
      fit w j a b k c = grind arith

  held_of : {x : ℕ} → Hot marked (view r.work).cyclic (map seen_of r.blackening) x → IsHeld fields word marked before x
  held_of (law.Hot.warm {x} h p) = still.IsHeld.rests (omega (arith, occurs x marked, h)) (omega (arith, rest_is x h))
  held_of (law.Hot.along {n} {x} p h) =
      let d : Edge sees n x (map seen_of r.blackening) = edge_from sees n x r.blackening tb h in
      let led = led_where_seen before (word n d.field) x d.leads in
      still.IsHeld.along (held_of p) d.field (omega (arith, width, within_of f.blacks_all n d.field d.was_loaded)) led.0 led.1

  worked_of : {x : ℕ} → IsHeld fields word marked before x → 0 < times x work
  worked_of (still.IsHeld.rests {x} m p) =
      let h : 0 < times x marked = omega (arith, occurs x marked, m) in
      nonzero (times x work) (λ z. omega (arith, z, rest_is x h, f.rest x h, f.enough x (omega (arith, z, black_or_member x h)), p))
  worked_of (still.IsHeld.along {n} {x} p g l q other) =
      let marked_here : 0 < times n marked = omega (arith, f.parts n, worked_of p) in
      let is_named : 0 < named x (map seen_of r.blackening) = omega (arith, all_of f.blacks_all n g (omega (arith, l, width)), worked_of p, named_from sees n g x r.blackening tb (code_some (codes sees n g) x (seen_where_led before (word n g) x other q))) in
      omega (arith, black_or_member x (closed n g x marked_here l q other), f.unnamed x is_named)

  is_exact : IsExact fields word before r marked
  is_exact = record {
    marked_reached = λ x m. reached_of (f.reached x (omega (arith, occurs x marked, m)));
    reached_marked = λ x p. omega (arith, occurs x marked, marked_of p);
    members_unheld = λ x m p. omega (arith, occurs x (members r.work.counts), m, worked_of p, f.parts x, f.once x);
    unheld_members = λ x m none.
        let h : 0 < times x marked = omega (arith, occurs x marked, m) in
        nonzero (in_counts.times x (members r.work.counts)) (λ z. none (held_of (f.hot x (omega (arith, z, occurs x (members r.work.counts), black_or_member x h)))));
  }

pub whole_exact : (fields : ℕ) (word : ℕ → ℕ → ℕ) (before : State) (words : List ℕ) → TrialIsExact fields word before words
whole_exact fields word before words f k a h tm tb =
    let r : Run = run_of fields before words in
    let t : Told fields before r = told_run fields before words f k a in
    let o : Over (first_view fields before) (view r.work) (seen_in r) = over_of fields before r t h in
    (o.marked, is_over fields before r t k o h, is_exact fields word before r o.marked o.work o.end tm tb)

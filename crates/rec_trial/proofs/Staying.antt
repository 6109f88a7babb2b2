-- The field behind the last one that was loaded is due in any case where it is one of the same slot: learning takes nothing off the list
-- at work.
use Rattle.std.proofs.Common.{◌≡◌, ℕ, ◌+◌, ◌-◌, ◌<◌, Bool, true, false, Option, None, Some, List, [], ◌∷◌, ◌++◌, length, get_or, refl, sym, ap, subst, ◌∙◌, arith}
use Rattle.std.specs.Prelude.{nat_lt, slice_index_or as item_at}
use Rattle.std.proofs.lemmas.Bool.{lt-ltb}
use Rattle.std.proofs.lemmas.List.{get_or-set_same, get_or_append_left, length-append}
use Rattle.rec_counts.specs.Groups.{last_set, with_member}
use Rattle.rec_trial.specs.Moves.{blackened_if, joined_if, one_off, touched_if}
use Rattle.rec_trial.specs.Trial.{IsHere}
use Rattle.rec_trial.proofs.Common.{State, slot_at, is_gray, is_white, Phase, Idle, Marking, Scanning, Collecting, IsAtWork, Machine, Work, advanced, advanced_if, is_due, is_due_at, learnt_at, list_of, pointed, run_of, settled}
use Rattle.rec_trial.proofs.Learning.{some_set}
use Rattle.rec_trial.proofs.Midway.{at_work_due, at_work_told}
use Rattle.rec_trial.proofs.Moving.{settled_at_once}
use Rattle.rec_trial.proofs.Places.{ltb_yes}
use Rattle.rec_trial.proofs.Views.{length_member}

-- the slot in this place of a list is there
abbrev StandsAt : List ℕ → (k x : ℕ) → Type 0
StandsAt xs k x = (nat_lt k (length xs) ≡ true) × (x ≡ item_at xs k 0)

grown : (xs : List ℕ) (y k x : ℕ) → StandsAt xs k x → StandsAt (xs ++ y ∷ []) k x
grown xs y k x h =
    let l : k < length xs = ltb_yes k (length xs) h.0 in
    (lt-ltb k (length (xs ++ y ∷ [])) (omega (arith, l, length-append xs (y ∷ []))), h.1 ∙ sym (get_or_append_left xs (y ∷ []) 0 k l))

last_member : (sets : List (List ℕ)) (y : ℕ) → 0 < length sets → last_set (with_member sets y) ≡ last_set sets ++ y ∷ []
last_member sets y some =
    ap (λ (n : ℕ). item_at (with_member sets y) (n - 1) []) (length_member sets y)
    ∙ get_or-set_same sets (length sets - 1) (last_set sets ++ y ∷ []) [] (omega (arith, some))

joined : (s : State) (y k x : ℕ) (white : Bool) → StandsAt (last_set s.sets) k x → StandsAt (last_set (joined_if white s y).sets) k x
joined s y k x false h = h
joined s y k x true h =
    let some : 0 < length s.sets = some_set s.sets (omega (arith, ltb_yes k (length (last_set s.sets)) h.0)) in
    subst (λ (xs : List ℕ). StandsAt xs k x) (sym (last_member s.sets y some)) (grown (last_set s.sets) y k x h)

marked : (s : State) (y k x : ℕ) (gray : Bool) → StandsAt s.marked k x → StandsAt (one_off (touched_if gray s y) y).marked k x
marked s y k x true h = h
marked s y k x false h = grown s.marked y k x h

blackened : (s : State) (y k x : ℕ) (gray : Bool) → StandsAt s.work k x → StandsAt (blackened_if gray s y).work k x
blackened s y k x false h = h
blackened s y k x true h = grown s.work y k x h

-- a field of the machine's slot is due still, once a target is learnt
pub learnt_here : (phase : Phase) (s : State) (m : Machine) (target : Option ℕ) → IsHere phase s m → IsHere phase (learnt_at phase s target) m
learnt_here Idle s m target h = h
learnt_here Marking s m None h = h
learnt_here Marking s m (Some y) h = marked s y m.done m.slot (is_gray (slot_at s y).colour) h
learnt_here Scanning s m None h = h
learnt_here Scanning s m (Some y) h = blackened s y m.done m.slot (is_gray (slot_at s y).colour) h
learnt_here Collecting s m None h = h
learnt_here Collecting s m (Some y) h = joined s y m.done m.slot (is_white (slot_at s y).colour) h

-- a trial at work names the slot that is due
pub at_work_here : (m : Machine) (s : State) → IsAtWork m s → IsHere m.phase s m
at_work_here m s a = (
  at_work_due m s a,
  subst (λ (w : Work). w.machine.slot ≡ get_or (list_of w.machine.phase w.counts) w.machine.done 0) (sym a.is) (at_work_told m s a).node,
)

-- the next field of the same slot comes next
pub next_field_due : (m : Machine) (s : State) → IsHere m.phase s m → nat_lt (m.field + 1) m.fields ≡ true → ◌≡◌ {A = Work} (record { machine = record m { field = m.field + 1 }; counts = s }) (pointed (settled (record { machine = advanced m; counts = s })))
next_field_due m s here more =
    let n : Machine = record m { field = m.field + 1 } in
    let w : Work = record { machine = n; counts = s } in
    let moved : advanced m ≡ n = ap (λ b. advanced_if b m) more in
    ap (λ (x : ℕ). record { machine = record n { slot = x }; counts = s }) here.1
    ∙ ap pointed (sym (settled_at_once w here.0))
    ∙ ap (λ (k : Machine). pointed (settled (record { machine = k; counts = s }))) (sym moved)

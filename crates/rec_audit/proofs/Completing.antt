-- Lines that may stand so are the beginning of a journal in form.
use Rattle.std.proofs.Common.{◌≡◌, ◌<◌, ◌≤◌, ◌+◌, ◌-◌, ◌^◌, ℕ, zero, suc, Bool, true, false, cond, nat_lt, List, [], ◌∷◌, ◌++◌, get_or, replicate, Some, inl, inr, refl, sym, ap, ◌∙◌, subst, arith, append_assoc, append-nil}
use Rattle.std.proofs.lemmas.Bool.{cases_lt}
use Rattle.std.proofs.lemmas.Bool.Decides.{nat_tests}
use Rattle.std.proofs.lemmas.List.{length-replicate}
use Rattle.std.proofs.lemmas.List.Elements.{All-cons, All-nil, All-replicate}
use Rattle.rec_audit.specs.declared.kind.Kind.{Kind}
use Rattle.rec_audit.specs.declared.kind.Kind.TheVariants.{Title, Heap, Epoch, Put, Born, Snap, Out, Free, Sweep, End}
use Rattle.rec_audit.specs.declared.form.Stage.{Stage}
use Rattle.rec_audit.specs.declared.form.Stage.TheVariants as stages
use Rattle.rec_audit.specs.declared.form.Form.{Form}
use Rattle.rec_audit.specs.Lines.{Line, AreNumbers}
use Rattle.rec_audit.specs.Form.{IsInForm, MayStand, Stand, form_of, heap_in, heap_of, is_heap, is_numbering, leads_to, next_block, number_behind, stage_behind}
use Rattle.rec_audit.proofs.Knowing.{heap_more, next_more, stage_more}
use Rattle.rec_audit.proofs.Forming.{stand_more}
use Rattle.rec_audit.specs.Journal.{line_of}

-- ---- lines, from the first on

grown : (P : List Line → Type 0) → P [] → ((lines : List Line) (line : Line) → P lines → P (lines ++ line ∷ [])) → (lines : List Line) → P lines
grown P none more lines = go [] lines none
  where
    go : (done rest : List Line) → P done → P (done ++ rest)
    go done [] p = subst P (sym (append-nil done)) p
    go done (x ∷ xs) p = subst P (append_assoc done (x ∷ []) xs) (go (done ++ x ∷ []) xs (more done x p))

stand_front : (lines : List Line) (line : Line) → Stand (lines ++ line ∷ []) → Stand lines
stand_front lines line stand before l after e = stand before l (after ++ line ∷ []) (ap (λ t. t ++ line ∷ []) e ∙ append_assoc before (l ∷ after) (line ∷ []))

stand_last : (lines : List Line) (line : Line) → Stand (lines ++ line ∷ []) → MayStand (form_of lines) line
stand_last lines line stand = stand lines line [] refl

-- ---- what holds where lines stand so

-- within a block the next block's number is that of a later one, and a mutator's number fits
abbrev IsOrderlyAt : Stage → ℕ → Type 0
IsOrderlyAt (stages.Part t) next = (t < 2 ^ 64) × (1 ≤ next) × (next ≤ 16777216)
IsOrderlyAt stages.Steps next = (1 ≤ next) × (next ≤ 16777216)
IsOrderlyAt stages.Title next = Unit {0}
IsOrderlyAt stages.Heap next = Unit {0}
IsOrderlyAt stages.Between next = Unit {0}

orderly_step : (f : Form) (m : ℕ) (k : Kind) (ns : List ℕ) → MayStand f (line_of k ns) → m < 2 ^ 64 → IsOrderlyAt f.stage f.next → IsOrderlyAt (leads_to m k (get_or ns 0 0)) (cond (is_numbering k) (number_behind k ns) f.next)
orderly_step f m Title ns stands fits is = tt
orderly_step f m Heap ns stands fits is = tt
orderly_step f m Epoch ns stands fits is = (omega arith, omega arith, omega (arith, stands.numbers.number, stands.numbers.most))
orderly_step f m Put ns stands fits is = subst (λ (s : Stage). IsOrderlyAt s f.next) (sym stands.stage) is
orderly_step f m Born ns stands fits is = subst (λ (s : Stage). IsOrderlyAt s f.next) (sym stands.stage) is
orderly_step f m Snap ns stands fits is = at (nat_lt (get_or ns 0 0) m) refl (subst (λ (s : Stage). IsOrderlyAt s f.next) (sym stands.stage) is)
  where
    tested : (a b : ℕ) → nat_lt a b ≡ true → a < b
    tested a b e = grind (arith, nat_tests)

    at : (b : Bool) → nat_lt (get_or ns 0 0) m ≡ b → (get_or ns 0 0 < 2 ^ 64) × (1 ≤ f.next) × (f.next ≤ 16777216) → IsOrderlyAt (cond b (stages.Part (get_or ns 0 0 + 1)) stages.Steps) f.next
    at true e h = (omega (arith, tested (get_or ns 0 0) m e, fits), h.1, h.2)
    at false e h = (h.1, h.2)
orderly_step f m Out ns stands fits is = subst (λ (s : Stage). IsOrderlyAt s f.next) (sym stands.stage) is
orderly_step f m Free ns stands fits is = subst (λ (s : Stage). IsOrderlyAt s f.next) (sym stands.stage) is
orderly_step f m Sweep ns stands fits is = subst (λ (s : Stage). IsOrderlyAt s f.next) (sym stands.stage) is
orderly_step f m End ns stands fits is = tt

mutators_step : (f : Form) (k : Kind) (ns : List ℕ) → MayStand f (line_of k ns) → f.heap.mutators < 2 ^ 64 → (cond (is_heap k) (heap_in (Some (line_of k ns))) f.heap).mutators < 2 ^ 64
mutators_step f Heap ns stands fits = omega (arith, stands.numbers.mutators.most)
mutators_step f Title ns stands fits = fits
mutators_step f Epoch ns stands fits = fits
mutators_step f Put ns stands fits = fits
mutators_step f Born ns stands fits = fits
mutators_step f Snap ns stands fits = fits
mutators_step f Out ns stands fits = fits
mutators_step f Free ns stands fits = fits
mutators_step f Sweep ns stands fits = fits
mutators_step f End ns stands fits = fits

record IsOrderly (lines : List Line) : Type 0 where
  mutators : (heap_of lines).mutators < 2 ^ 64
  block : IsOrderlyAt (stage_behind lines) (next_block lines)

orderly : (lines : List Line) → Stand lines → IsOrderly lines
orderly = grown (λ lines. Stand lines → IsOrderly lines) (λ stand. record { mutators = omega arith; block = tt }) step
  where
    step : (lines : List Line) (line : Line) → (Stand lines → IsOrderly lines) → Stand (lines ++ line ∷ []) → IsOrderly (lines ++ line ∷ [])
    step lines line is stand = at (is (stand_front lines line stand)) (stand_last lines line stand)
      where
        at : IsOrderly lines → MayStand (form_of lines) line → IsOrderly (lines ++ line ∷ [])
        at old stands =
            let fits : (heap_of (lines ++ line ∷ [])).mutators < 2 ^ 64 = subst (λ h. h.mutators < 2 ^ 64) (sym (heap_more lines line)) (mutators_step (form_of lines) line.kind line.numbers stands old.mutators) in
            record {
              mutators = fits;
              block =
                  subst (λ (s : Stage). IsOrderlyAt s (next_block (lines ++ line ∷ []))) (sym (stage_more lines line))
                  (subst (λ (n : ℕ). IsOrderlyAt (leads_to (heap_of (lines ++ line ∷ [])).mutators line.kind (get_or line.numbers 0 0)) n) (sym (next_more lines line))
                  (orderly_step (form_of lines) (heap_of (lines ++ line ∷ [])).mutators line.kind line.numbers stands fits old.block));
            }

-- ---- the lines that are missing

abbrev GoesOnWhole : List Line → Type 0
GoesOnWhole lines = (more : List Line) × IsInForm (lines ++ more)

-- what is missing behind a line more
behind_one : (lines : List Line) (line : Line) → GoesOnWhole (lines ++ line ∷ []) → GoesOnWhole lines
behind_one lines line more = (line ∷ more.0, subst IsInForm (append_assoc lines (line ∷ []) more.0) more.1)

nothing_missing : (lines : List Line) → Stand lines → stage_behind lines ≡ stages.Between → GoesOnWhole lines
nothing_missing lines stand whole = ([], subst IsInForm (sym (append-nil lines)) (record { stand = stand; whole = whole }))

end_missing : (lines : List Line) → Stand lines → stage_behind lines ≡ stages.Steps → 1 ≤ next_block lines → next_block lines ≤ 16777216 → GoesOnWhole lines
end_missing lines stand stage some most =
    let line : Line = line_of End ((next_block lines - 1) ∷ []) in
    let may : MayStand (form_of lines) line =
    record {
      stage = sym stage;
      numbers = record { one = refl; number = omega arith };
      fits = All-cons (λ n. n < 2 ^ 64) (next_block lines - 1) [] (omega arith) (All-nil (λ n. n < 2 ^ 64));
    }
    in
    behind_one lines line (nothing_missing (lines ++ line ∷ []) (stand_more lines line stand may) (stage_more lines line))

-- a snapshot of null registers
abbrev snapshot : List Line → ℕ → Line
snapshot lines t = line_of Snap (t ∷ replicate (heap_of lines).registers 0)

may_snap : (lines : List Line) (t : ℕ) → stage_behind lines ≡ stages.Part t → t < 2 ^ 64 → MayStand (form_of lines) (snapshot lines t)
may_snap lines t stage fits =
    record {
      stage = sym stage;
      numbers = record { count = omega (arith, length-replicate {A = ℕ} (heap_of lines).registers 0); held = All-replicate (λ n. n ≤ (heap_of lines).slots) (heap_of lines).registers 0 (omega arith) };
      fits = All-cons (λ n. n < 2 ^ 64) t (replicate (heap_of lines).registers 0) fits (All-replicate (λ n. n < 2 ^ 64) (heap_of lines).registers 0 (omega arith));
    }

stage_snap : (lines : List Line) (t : ℕ) → stage_behind (lines ++ snapshot lines t ∷ []) ≡ cond (nat_lt t (heap_of lines).mutators) (stages.Part (t + 1)) stages.Steps
stage_snap lines t = stage_more lines (snapshot lines t) ∙ ap (λ h. cond (nat_lt t h.mutators) (stages.Part (t + 1)) stages.Steps) (heap_more lines (snapshot lines t))

is_below : (a b : ℕ) → a < b → nat_lt a b ≡ true
is_below a b lt = grind (arith, nat_tests)

is_past : (a b : ℕ) → b ≤ a → nat_lt a b ≡ false
is_past a b past = grind (arith, nat_tests)

in_block : (lines : List Line) (t : ℕ) → Stand lines → stage_behind lines ≡ stages.Part t → (t < 2 ^ 64) × (1 ≤ next_block lines) × (next_block lines ≤ 16777216)
in_block lines t stand stage = subst (λ (s : Stage). IsOrderlyAt s (next_block lines)) stage (orderly lines stand).block

stand_snap : (lines : List Line) (t : ℕ) → Stand lines → stage_behind lines ≡ stages.Part t → Stand (lines ++ snapshot lines t ∷ [])
stand_snap lines t stand stage = stand_more lines (snapshot lines t) stand (may_snap lines t stage (in_block lines t stand stage).0)

-- the last mutator's snapshot, and the end
last_snap : (lines : List Line) (t : ℕ) → Stand lines → stage_behind lines ≡ stages.Part t → (heap_of lines).mutators ≤ t → GoesOnWhole lines
last_snap lines t stand stage past =
    let block = in_block lines t stand stage in
    let next : next_block (lines ++ snapshot lines t ∷ []) ≡ next_block lines = next_more lines (snapshot lines t) in
    let some : 1 ≤ next_block lines = block.1 in
    let most : next_block lines ≤ 16777216 = block.2 in
    behind_one lines (snapshot lines t)
    (end_missing (lines ++ snapshot lines t ∷ []) (stand_snap lines t stand stage) (stage_snap lines t ∙ ap (λ b. cond b (stages.Part (t + 1)) stages.Steps) (is_past t (heap_of lines).mutators past)) (omega arith) (omega arith))

-- the snapshots of this mutator and those behind it, and the end
snaps_missing : (fuel : ℕ) (lines : List Line) (t : ℕ) → (heap_of lines).mutators ≤ t + fuel → Stand lines → stage_behind lines ≡ stages.Part t → GoesOnWhole lines
snaps_missing zero lines t enough stand stage = last_snap lines t stand stage (omega arith)
snaps_missing (suc fuel) lines t enough stand stage =
    elim (cases_lt t (heap_of lines).mutators) [
      | inl lt ↦
          behind_one lines (snapshot lines t)
          (snaps_missing fuel (lines ++ snapshot lines t ∷ []) (t + 1)
          (subst (λ h. h.mutators ≤ t + 1 + fuel) (sym (heap_more lines (snapshot lines t))) (omega arith))
          (stand_snap lines t stand stage)
          (stage_snap lines t ∙ ap (λ b. cond b (stages.Part (t + 1)) stages.Steps) (is_below t (heap_of lines).mutators lt)))
      | inr past ↦ last_snap lines t stand stage past
    ]

heap_missing : (lines : List Line) → Stand lines → stage_behind lines ≡ stages.Heap → GoesOnWhole lines
heap_missing lines stand stage =
    let line : Line = line_of Heap (1 ∷ 1 ∷ 1 ∷ 1 ∷ 1 ∷ []) in
    let may : MayStand (form_of lines) line =
    record {
      stage = sym stage;
      numbers = record { five = refl; slots = record { some = omega arith; most = omega arith }; fields = record { some = omega arith; most = omega arith }; registers = record { some = omega arith; most = omega arith }; mutators = record { some = omega arith; most = omega arith }; first = record { some = omega arith; most = omega arith } };
      fits = one (1 ∷ 1 ∷ 1 ∷ 1 ∷ []) (one (1 ∷ 1 ∷ 1 ∷ []) (one (1 ∷ 1 ∷ []) (one (1 ∷ []) (one [] (All-nil (λ n. n < 2 ^ 64))))));
    }
    in
    behind_one lines line (nothing_missing (lines ++ line ∷ []) (stand_more lines line stand may) (stage_more lines line))
  where
    one : (ns : List ℕ) → AreNumbers ns → AreNumbers (1 ∷ ns)
    one ns all = All-cons (λ n. n < 2 ^ 64) 1 ns (omega arith) all

title_missing : (lines : List Line) → Stand lines → stage_behind lines ≡ stages.Title → GoesOnWhole lines
title_missing lines stand stage =
    let line : Line = line_of Title (1 ∷ []) in
    let may : MayStand (form_of lines) line = record { stage = sym stage; numbers = record { one = refl; version = refl }; fits = All-cons (λ n. n < 2 ^ 64) 1 [] (omega arith) (All-nil (λ n. n < 2 ^ 64)) } in
    behind_one lines line (heap_missing (lines ++ line ∷ []) (stand_more lines line stand may) (stage_more lines line))

pub completed : (lines : List Line) → Stand lines → GoesOnWhole lines
completed lines stand = at (stage_behind lines) refl (orderly lines stand).block
  where
    at : (s : Stage) → stage_behind lines ≡ s → IsOrderlyAt s (next_block lines) → GoesOnWhole lines
    at stages.Title is block = title_missing lines stand is
    at stages.Heap is block = heap_missing lines stand is
    at stages.Between is block = nothing_missing lines stand is
    at (stages.Part t) is block = snaps_missing (heap_of lines).mutators lines t (omega arith) stand is
    at stages.Steps is block = end_missing lines stand is block.0 block.1

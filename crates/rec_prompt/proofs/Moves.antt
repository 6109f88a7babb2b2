-- What was lost stays forgotten over the moves of a run, until it is freed; and where collections end among them.
use Rattle.std.proofs.Common.{◌≡◌, inl, inr, ℕ, true, false, List, [], ◌∷◌, ◌++◌, refl, sym, ◌∙◌, ◌+◌}
use Rattle.std.proofs.lemmas.Bool.{cases_Bool, false≢true}
use Rattle.rec_core.proofs.Common.{Core, IsKept, AllFit, Fits, Move, after_move, after_moves, sight}
use Rattle.rec_model.specs.Reach.{is_in}
use Rattle.rec_model.proofs.Members.{is_in-cases, is_in-right, not_in-left}
use Rattle.rec_core.proofs.Runs.{move_kept, moves_kept}
use Rattle.rec_prompt.specs.Prompt.{freed_in, freed_over}
use Rattle.rec_prompt.proofs.Forgets.{Forgets}
use Rattle.rec_prompt.proofs.Mutators.{begun_forgets, step_forgets}
use Rattle.rec_prompt.proofs.Turns.{turn_forgets}
use Rattle.rec_prompt.specs.Lost.{IsLost}
use Rattle.rec_prompt.proofs.Begun.{starts_forgetting}

-- the same slots, told in another way
same_lost : (late : ℕ) (first : Core) (lost also : ℕ → Type 0) (v : Core) → ((slot : ℕ) → lost slot → also slot) → ((slot : ℕ) → also slot → lost slot) → Forgets late first lost v → Forgets late first also v
same_lost late first lost also v to from f = record {
  taken = λ slot gone. f.taken slot (from slot gone);
  registers = λ t r slot is names gone. f.registers t r slot is names (from slot gone);
  fields = λ place slot leads gone. to _ (f.fields place slot leads (from slot gone));
  still = λ place slot leads gone. f.still place slot leads (from slot gone);
  logs = λ t slot is late_ gone. f.logs t slot is late_ (from slot gone);
  boxes = λ t slot is late_ gone. f.boxes t slot is late_ (from slot gone);
  newer = λ i slot below late_ gone. f.newer i slot below late_ (from slot gone);
  older = λ i slot below late_ gone. f.older i slot below late_ (from slot gone);
}

-- a move frees one slot at most; the others stay forgotten
move_forgets : (late : ℕ) (first : Core) (lost : ℕ → Type 0) (v : Core) (m : Move) → IsKept true v → Fits v m → Forgets late first lost v → Forgets late first (λ slot. lost slot × (is_in slot (freed_in v m) ≡ false)) (after_move v m)
move_forgets late first lost v (Move.Begins t work from) kept fits f = same_lost late first lost _ (after_move v (Move.Begins t work from)) (λ slot gone. (gone, refl)) (λ slot gone. gone.0) (begun_forgets late first lost v t work from kept fits.0 fits.1 f)
move_forgets late first lost v (Move.Steps t) kept fits f = same_lost late first lost _ (after_move v (Move.Steps t)) (λ slot gone. (gone, refl)) (λ slot gone. gone.0) (step_forgets v t kept fits.0 fits.1 late first lost f)
move_forgets late first lost v Move.Turns kept fits f = turn_forgets late first lost v kept f
move_forgets late first lost v Move.Offers kept fits f = same_lost late first lost _ (after_move v Move.Offers) (λ slot gone. (gone, refl)) (λ slot gone. gone.0) (record {
  taken = f.taken;
  registers = f.registers;
  fields = f.fields;
  still = f.still;
  logs = f.logs;
  boxes = f.boxes;
  newer = f.newer;
  older = f.older;
})

-- what is in neither list
in_neither : (slot : ℕ) (xs ys : List ℕ) → is_in slot xs ≡ false → is_in slot ys ≡ false → is_in slot (xs ++ ys) ≡ false
in_neither slot xs ys a b = elim (cases_Bool (is_in slot (xs ++ ys))) [
  | inl there ↦ elim (is_in-cases slot xs ys there) [
    | inl left ↦ absurd (false≢true (sym a ∙ left))
    | inr right ↦ absurd (false≢true (sym b ∙ right))
  ]
  | inr not_there ↦ not_there
]

pub not_second : (slot : ℕ) (xs ys : List ℕ) → is_in slot (xs ++ ys) ≡ false → is_in slot ys ≡ false
not_second slot xs ys none = elim (cases_Bool (is_in slot ys)) [
  | inl there ↦ absurd (false≢true (sym none ∙ is_in-right slot xs ys there))
  | inr not_there ↦ not_there
]

moves_forget : (late : ℕ) (first : Core) (lost : ℕ → Type 0) (v : Core) (ms : List Move) → IsKept true v → AllFit v ms → Forgets late first lost v → Forgets late first (λ slot. lost slot × (is_in slot (freed_over v ms) ≡ false)) (after_moves v ms)
moves_forget late first lost v [] kept fit f = same_lost late first lost _ v (λ slot gone. (gone, refl)) (λ slot gone. gone.0) f
moves_forget late first lost v (m ∷ ms) kept fit f =
    let one : List ℕ = freed_in v m in
    let rest : List ℕ = freed_over (after_move v m) ms in
    same_lost late first _ (λ slot. lost slot × (is_in slot (one ++ rest) ≡ false)) (after_moves v (m ∷ ms)) (λ slot gone. (gone.0.0, in_neither slot one rest gone.0.1 gone.1)) (λ slot gone. ((gone.0, not_in-left slot one rest gone.1), not_second slot one rest gone.1))
    (moves_forget late first (λ slot. lost slot × (is_in slot (freed_in v m) ≡ false)) (after_move v m) ms (move_kept v m kept fit.0) fit.1 (move_forgets late first lost v m kept fit.0 f))

-- What was lost in a state and isn't freed by the end of the moves.
abbrev pub lost_over : Core → List Move → ℕ → Type 0
lost_over v ms slot = IsLost (sight v) slot × (is_in slot (freed_over v ms) ≡ false)

-- A heap keeps what it keeps over moves, and has forgotten what was lost before them.
pub record HasForgotten (v : Core) (ms : List Move) : Type 0 where
  pub f : Forgets (v.epoch + 1) v (lost_over v ms) (after_moves v ms)
  pub kept_then : IsKept true (after_moves v ms)

pub forgotten : (v : Core) (ms : List Move) → IsKept true v → AllFit v ms → HasForgotten v ms
forgotten v ms kept fit = record { f = moves_forget (v.epoch + 1) v (IsLost (sight v)) v ms kept fit (starts_forgetting v kept); kept_then = moves_kept v ms kept fit }

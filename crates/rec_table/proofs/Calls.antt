-- The rule at the calls.
use Rattle.std.proofs.Common.{◌≡◌, ◌⊎◌, inl, inr, ℕ, sym, ap}
use Rattle.rec_table.proofs.Common.{written, Op}
use Rattle.rec_word.specs.declared.op.Op.TheVariants as ops

-- a load
abbrev pub IsLoad : Op → Type 0
IsLoad op = ((x : ℕ) × op ≡ ops.LoadField x) ⊎ (((x : ℕ) × op ≡ ops.LoadHeader x) ⊎ ((op ≡ ops.LoadEpoch) ⊎ (((x : ℕ) × op ≡ ops.LoadCross x) ⊎ (op ≡ ops.LoadFreed))))

pub load_leaves : (op : Op) → IsLoad op → (n : ℕ) → n ≡ written op n
load_leaves op (inl (x, e)) n = ap (λ (o : Op). written o n) (sym e)
load_leaves op (inr (inl (x, e))) n = ap (λ (o : Op). written o n) (sym e)
load_leaves op (inr (inr (inl e))) n = ap (λ (o : Op). written o n) (sym e)
load_leaves op (inr (inr (inr (inl (x, e))))) n = ap (λ (o : Op). written o n) (sym e)
load_leaves op (inr (inr (inr (inr e)))) n = ap (λ (o : Op). written o n) (sym e)

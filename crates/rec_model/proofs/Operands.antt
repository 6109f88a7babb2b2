-- Who has as many registers and fields may be asked the same.
use Rattle.std.proofs.Common.{◌≡◌, ℕ, subst}
use Rattle.rec_model.specs.declared.command.Cmd.{Cmd}
use Rattle.rec_model.specs.Operands.{HasOperands}

pub operands_same : {registers fields more_registers more_fields : ℕ} (cmd : Cmd) → registers ≡ more_registers → fields ≡ more_fields → HasOperands registers fields cmd → HasOperands more_registers more_fields cmd
operands_same {registers} {fields} {more_registers} cmd r f has = subst (λ n. HasOperands more_registers n cmd) f (subst (λ n. HasOperands n fields cmd) r has)

-- No call past the last value of the count is listed.
use Rattle.std.proofs.Common.{◌+◌, arith, sym}
use Rattle.std.proofs.lemmas.Bool.{false≢true}
use Rattle.std.proofs.lemmas.List.{get_or_read}
use Rattle.rec_io.proofs.calls.is_next_listed.Goals as goal

pub returns-in-None : goal.returns-in-None
returns-in-None c = (λ listed. absurd (false≢true listed), λ n. absurd (c.in-None.ensures (omega (arith, get_or_read c.args.fails.now n.0 (c.args.made + 1) n.1 (sym n.2) 0, c.type_inv.fails n.0))))

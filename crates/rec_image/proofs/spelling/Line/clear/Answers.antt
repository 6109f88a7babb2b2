-- Nothing is behind the last byte.
use Rattle.std.proofs.Common.{arith}
use Rattle.rec_image.proofs.Written.{past_end}
use Rattle.rec_image.proofs.spelling.Line.clear.Goals as goal

pub returns : goal.returns
returns c = past_end 1024 c.self.inside.bytes (omega (arith, c.self.told))

-- So many are added.
use Rattle.std.proofs.Common.{◌≡◌, ◌++◌, None, replicate}
use Rattle.rec_image.proofs.objects.add_nulls.Given as goal

abbrev pub invariant-loop : goal.invariant-loop
invariant-loop l = l.targets.items ≡ l.fn.targets.items ++ replicate l.counter None

-- The contract of `go_on`: the next field of the same slot comes next; after its last one the slot is emptied, and the next zero is released.
use Rattle.std.proofs.Common.{◌<◌, arith, sym, subst}
use Rattle.rec_release.specs.Release.{IsReady}
use Rattle.rec_release.proofs.Keeping.{next_field, ready_emptied}
use Rattle.rec_release.proofs.release.go_on.Goals as goal

pub release_next-requires : goal.release_next-requires
release_next-requires c = record { ready = subst IsReady (sym c.empty.ensures) (ready_emptied c.args.counts.now c.args.at.slot c.requires.held.released c.requires.ready) }

pub returns-clause-field : goal.returns-clause-field
returns-clause-field c =
    let some : 0 < c.args.fields = omega (arith, c.requires.field) in
    next_field c.args.fields c.empty.new.counts c.release_next.result c.release_next.ensures.first some

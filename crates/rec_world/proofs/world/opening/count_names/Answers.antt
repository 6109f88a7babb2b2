-- One name more.
use Rattle.std.proofs.Common.{ℕ, ◌<◌, None, get_or, length, arith}
use Rattle.std.proofs.lemmas.List.Elements.{All-get_or}
use Rattle.rec_core.specs.Objects.{IsOneOf}
use Rattle.rec_world.proofs.Openings.{held_few, held_more, room_for}
use Rattle.rec_world.proofs.world.opening.count_names.Goals as goal

pub count_name-requires-clause-room : goal.count_name-requires-clause-room
count_name-requires-clause-room c =
    let many : ℕ = length c.args.counts.now in
    room_for many c.loop-name.counts (get_or c.args.names.now c.loop-name.name-index None) (All-get_or (IsOneOf many) c.args.names.now c.loop-name.name-index None c.loop-name-test.true c.requires.targets)
    (λ n below. omega (arith, c.loop-name.invariant n (omega (arith, below, c.loop-name.auto.counts)), c.requires.room n below, held_few n c.args.names.now c.loop-name.name-index c.loop-name-test.true))

pub loop-name-preserved : goal.loop-name-preserved
loop-name-preserved c = λ n there.
    let below : n < length c.loop-name.counts = omega (arith, there, c.count_name.auto.counts) in
    omega (arith, c.count_name.ensures n below, c.loop-name.invariant n below, held_more n c.args.names.now c.loop-name.name-index c.loop-name-test.true)

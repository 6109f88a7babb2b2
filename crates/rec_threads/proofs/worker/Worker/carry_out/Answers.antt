-- The contract of `Worker::carry_out`: carries out the commands, each behind the gate and a poll, and notes what is told.
use Rattle.std.proofs.Common.{◌≡◌, ◌+◌, ◌<◌, ℕ, List, [], ◌∷◌, ◌++◌, length, slice_index_or, take, sym, subst, arith}
use Rattle.std.proofs.lemmas.List.{length-take-le, take_all, take_more}
use Rattle.std.proofs.lemmas.Grind.{flat_map-append}
use Rattle.rec_model.specs.declared.command.Cmd.{Cmd}
use Rattle.rec_mutator.specs.declared.work.Work.{Work}
use Rattle.rec_table.specs.Views.{mutator_now}
use Rattle.rec_threads.specs.Done.{HasMade, polled_before, turn}
use Rattle.rec_threads.proofs.Works.{made_none, made_on, none_before, operands_kept, stays, still_own}
use Rattle.rec_threads.proofs.worker.Worker.carry_out.Goals as goal

pub loop-index-init : goal.loop-index-init
loop-index-init g c = made_none c.args.self.now

pub go_on-requires-clause-own : goal.go_on-requires-clause-own
go_on-requires-clause-own g c = still_own c.args.heap.now c.args.self.now.mutator c.loop-index.self.mutator c.loop-index.invariant.mutator c.requires.own

pub go_on-requires-clause-room : goal.go_on-requires-clause-room
go_on-requires-clause-room g c =
    let many : length (take c.loop-index.index c.args.commands.now) ≡ c.loop-index.index = length-take-le c.loop-index.index c.args.commands.now (omega arith) in
    let room = c.loop-index.invariant.room in
    let enough = c.requires.room in
    omega (arith, many, room, enough)

pub go_on-requires-clause-valid : goal.go_on-requires-clause-valid
go_on-requires-clause-valid g c =
    let so_far : List Cmd = take c.loop-index.index c.args.commands.now in
    let left = stays so_far (polled_before so_far) c.args.self.now c.loop-index.self c.loop-index.invariant (none_before c.args.commands.now c.loop-index.index c.requires.leaves_last (omega arith)) in
    operands_kept (mutator_now c.args.self.now.mutator) (mutator_now c.loop-index.self.mutator) c.loop-index.invariant.sizes left _ (c.requires.valid c.loop-index.index _ (omega arith))

-- one command more
more : (cmds : List Cmd) (i : ℕ) (d : Cmd) → i < length cmds → take i cmds ++ slice_index_or cmds i d ∷ [] ≡ take (i + 1) cmds
more cmds i d lt = sym (take_more cmds i d lt)

pub loop-index-preserved : goal.loop-index-preserved
loop-index-preserved g c =
    let so_far : List Cmd = take c.loop-index.index c.args.commands.now in
    let cmd : Cmd = slice_index_or c.args.commands.now c.loop-index.index _ in
    subst (λ (done : List Cmd). HasMade done (polled_before done) c.args.self.now c.go_on.new.self) (more c.args.commands.now c.loop-index.index _ (omega arith))
    (subst (λ (done : List Work). HasMade (so_far ++ cmd ∷ []) done c.args.self.now c.go_on.new.self) (sym (flat_map-append turn so_far (cmd ∷ [])))
    (made_on so_far (cmd ∷ []) (polled_before so_far) (turn cmd) c.args.self.now c.loop-index.self c.go_on.new.self c.loop-index.invariant c.go_on.ensures))

pub returns : goal.returns
returns g c = subst (λ (done : List Cmd). HasMade done (polled_before done) c.args.self.now c.loop-index.self) (take_all c.loop-index.index c.args.commands.now (omega arith)) c.loop-index.invariant

-- Behind a step of the collector the mutator for which it waits polls just where it has made all its commands.
use Rattle.std.proofs.Common.{◌≡◌, ℕ, ◌-◌, ◌≤◌, Some, List, [], length, slice_index_or, refl, sym, ap, subst, ◌∙◌, arith}
use Rattle.std.specs.List.{slice_get}
use Rattle.std.proofs.lemmas.Option.{get_or_from_slice_get}
use Rattle.rec_model.specs.declared.command.Cmd.{Cmd}
use Rattle.rec_collector.specs.declared.phase.Phase.{Phase}
use Rattle.rec_collector.specs.declared.phase.Phase.TheVariants.{Looking}
use Rattle.rec_collector.specs.declared.turn.Turn.{Turn}
use Rattle.rec_collector.specs.declared.turn.Turn.TheVariants.{Waiting}
use Rattle.rec_core.specs.Core.{Core}
use Rattle.rec_core.specs.Turn.{TurnHasCause}
use Rattle.rec_settle.specs.Collecting.{Follows, HasStepped}
use Rattle.rec_settle.proofs.Waiting.{has_polled, others_idle, polled_behind}
use Rattle.rec_script.specs.Script.{ScriptContents}
use Rattle.rec_play.specs.Moves.{IsSpent}
use Rattle.rec_play.specs.Run.{commands_of}
use Rattle.rec_play.proofs.Due.{commands_are, is_of_script}
use Rattle.rec_play.proofs.There.{polled_there}
use Rattle.rec_play.proofs.player.follow.Goals as goal

-- its commands
theirs : (script : ScriptContents) (t : ℕ) (cmds : List Cmd) → 1 ≤ t → slice_get script.commands (t - 1) ≡ Some cmds → commands_of script t ≡ cmds
theirs script t cmds some is = commands_are script t some ∙ get_or_from_slice_get script.commands (t - 1) cmds [] is

pub poll-requires-clause-mutator : goal.poll-requires-clause-mutator
poll-requires-clause-mutator c = (c.requires.awaited c.in-Waiting.mutator c.in-Waiting.is).0

-- it hasn't left, so it may poll
pub poll-requires-clause-present : goal.poll-requires-clause-present
poll-requires-clause-present c = (c.requires.awaited c.in-Waiting.mutator c.in-Waiting.is).1

-- its number is small
pub bounds-made-from : goal.bounds-made-from
bounds-made-from c = omega (arith, (is_of_script c.args.script.now c.args.world.now c.in-Waiting.mutator c.requires.goes.config (c.requires.awaited c.in-Waiting.mutator c.in-Waiting.is).0).1, c.requires.few, c.from.ensures)

pub returns-then-made-from-clause-stepped : goal.returns-then-made-from-clause-stepped
returns-then-made-from-clause-stepped c = λ before turn.
    subst (λ (t : Turn). HasStepped (IsSpent c.args.script.now c.args.made.now) before t c.poll.new.self) (sym c.in-Waiting.is)
    (polled_behind (IsSpent c.args.script.now c.args.made.now) before c.args.world.now c.poll.new.self c.in-Waiting.mutator
    (omega (arith, ap length (theirs c.args.script.now c.in-Waiting.mutator c.commands.result.now (c.requires.awaited c.in-Waiting.mutator c.in-Waiting.is).0.0 c.commands.ensures.value), c.if-made-from.true, ap (λ n. slice_index_or c.args.made.now (n - 1) 0) c.from.ensures))
    turn.turned c.requires.kept (subst (TurnHasCause before c.args.world.now) c.in-Waiting.is turn.cause)
    (has_polled c.args.world.now c.poll.new.self c.in-Waiting.mutator c.poll.result c.poll.ensures.worked c.poll.ensures.polled.quiet c.poll.ensures.polled.idle c.poll.ensures.polled.crossed c.poll.ensures.polled.none c.poll.ensures.polled.some))

pub returns-else-made-from-clause-stepped : goal.returns-else-made-from-clause-stepped
returns-else-made-from-clause-stepped c = λ before turn.
    let m = c.in-Waiting.mutator in
    let cause : TurnHasCause before c.args.world.now (Waiting m) = subst (TurnHasCause before c.args.world.now) c.in-Waiting.is turn.cause in
    subst (λ (t : Turn). HasStepped (IsSpent c.args.script.now c.args.made.now) before t c.args.world.now) (sym c.in-Waiting.is)
    (record {
      cause = subst (λ (x : Core). TurnHasCause before x (Waiting m)) turn.turned cause;
      follows = Follows.rests
          (λ t waiting spent.
          let looks : ◌≡◌ {A = Phase} (Looking m) (Looking t) = sym cause.0 ∙ waiting.looks in
          let one : m ≡ t = cc in
          let its : IsSpent c.args.script.now c.args.made.now m = subst (IsSpent c.args.script.now c.args.made.now) (sym one) spent in
          omega (arith, its, ap length (theirs c.args.script.now m c.commands.result.now (c.requires.awaited m c.in-Waiting.is).0.0 c.commands.ensures.value), c.if-made-from.false, ap (λ n. slice_index_or c.args.made.now (n - 1) 0) c.from.ensures))
          turn.turned;
    })

-- mutators are numbered from 1
pub overflow_sub-from : goal.overflow_sub-from
overflow_sub-from c = omega (arith, (c.requires.awaited c.in-Waiting.mutator c.in-Waiting.is).0.0, c.from.ensures)

pub commands-requires-clause-some : goal.commands-requires-clause-some
commands-requires-clause-some c = (is_of_script c.args.script.now c.args.world.now c.in-Waiting.mutator c.requires.goes.config (c.requires.awaited c.in-Waiting.mutator c.in-Waiting.is).0).0

pub commands-requires-clause-most : goal.commands-requires-clause-most
commands-requires-clause-most c = (is_of_script c.args.script.now c.args.world.now c.in-Waiting.mutator c.requires.goes.config (c.requires.awaited c.in-Waiting.mutator c.in-Waiting.is).0).1

pub poll-requires-clause-idle : goal.poll-requires-clause-idle
poll-requires-clause-idle c = c.requires.goes.idle c.in-Waiting.mutator (c.requires.awaited c.in-Waiting.mutator c.in-Waiting.is).0

pub returns-then-made-from-clause-requested : goal.returns-then-made-from-clause-requested
returns-then-made-from-clause-requested c = c.poll.ensures.polled.quiet.requested

pub returns-then-made-from-clause-kept : goal.returns-then-made-from-clause-kept
returns-then-made-from-clause-kept c = c.poll.ensures.kept

pub returns-else-made-from-clause-requested : goal.returns-else-made-from-clause-requested
returns-else-made-from-clause-requested c = refl

pub returns-else-made-from-clause-kept : goal.returns-else-made-from-clause-kept
returns-else-made-from-clause-kept c = c.requires.kept

pub returns-then-made-from-clause-goes : goal.returns-then-made-from-clause-goes
returns-then-made-from-clause-goes c = record {
  config = c.poll.ensures.polled.quiet.config ∙ c.requires.goes.config;
  idle = others_idle c.args.world.now c.poll.new.self c.in-Waiting.mutator c.poll.ensures.polled.quiet.config c.poll.ensures.polled.quiet.others c.poll.ensures.polled.idle c.requires.goes.idle;
  present = polled_there c.args.script.now c.args.made.now c.in-Waiting.mutator c.args.world.now c.poll.new.self c.poll.ensures.polled.quiet.others c.poll.ensures.polled.left c.requires.goes.present;
}

pub returns-else-made-from-clause-goes : goal.returns-else-made-from-clause-goes
returns-else-made-from-clause-goes c = c.requires.goes

pub returns-in_default : goal.returns-in_default
returns-in_default c = record {
  stepped = λ before turn. record { cause = subst (λ (x : Core). TurnHasCause before x c.args.turn) turn.turned turn.cause; follows = Follows.rests (λ t waits spent. c.in_default.not-Waiting t (turn.waiting t waits.looks waits.behind)) turn.turned };
  requested = refl;
  goes = c.requires.goes;
  kept = c.requires.kept;
}

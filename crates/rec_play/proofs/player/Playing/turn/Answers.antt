-- A turn of the rule was made, or none is left.
use Rattle.std.proofs.Common.{◌≡◌, ℕ, ◌+◌, ◌-◌, ◌<◌, List, [], ◌∷◌, slice_index_or, slice_set, length, refl, sym, ap, subst, ◌∙◌, arith}
use Rattle.std.proofs.lemmas.Bool.{true≢false}
use Rattle.std.proofs.lemmas.Result.{IfOk-from_err}
use Rattle.rec_settle.specs.Collecting.{HasStepped}
use Rattle.rec_settle.proofs.Goes.{if_err}
use Rattle.rec_play.specs.InsidePlaying.{player}
use Rattle.rec_play.specs.Moves.{AreDue, AreThere, Carries, IsSpent, MayGoOn, Player, made_by}
use Rattle.rec_play.specs.Numbers.{config_of}
use Rattle.rec_play.specs.Playing.{to_come}
use Rattle.rec_play.specs.Run.{HasCommand, commands_of}
use Rattle.rec_play.proofs.Due.{commands_are, due_made, due_stepped, few_mutators, next_turn}
use Rattle.rec_play.proofs.There.{made_there}
use Rattle.rec_play.proofs.player.Playing.turn.Goals as goal

pub overflow_add-made : goal.overflow_add-made
overflow_add-made g c =
    let m = c.in-Some-Mutator.mutator in
    let n : HasCommand c.self.inside.script.now m (made_by c.self.inside.made m)
    = next_turn (player c.self.inside) c.self.invariant c.next_turn.new.self m (c.in-Some-Mutator.ensures.turn ∙ ap (λ a. a ∷ to_come c.next_turn.new.self) c.in-Some-Mutator.field-0-is) in
    let few = (c.self.invariant.valid.commands (m - 1) [] (omega (arith, n.some, n.most))).few in
    omega (arith, few, n.next, ap length (commands_are c.self.inside.script.now m n.some), ap (λ i. slice_index_or c.self.inside.made (i - 1) 0) c.from.ensures)

-- nothing is shown of a command
pub returns-in-Some-Mutator-clause-shown : goal.returns-in-Some-Mutator-clause-shown
returns-in-Some-Mutator-clause-shown g c = g.met.W.Watch.none_shown c.args.watch.now

pub invariant_of-self : goal.invariant_of-self
invariant_of-self g c =
    let p : Player = player c.self.inside in
    subst (λ n. AreDue (record p { rest = c.next_turn.new.self; made = slice_set p.made (n - 1) (slice_index_or p.made (n - 1) 0 + 1) })) (sym c.from.ensures)
    (due_made p c.self.invariant c.next_turn.new.self c.in-Some-Mutator.mutator (c.in-Some-Mutator.ensures.turn ∙ ap (λ a. a ∷ to_come c.next_turn.new.self) c.in-Some-Mutator.field-0-is))

pub overflow_sub-made : goal.overflow_sub-made
overflow_sub-made g c =
    let n : HasCommand c.self.inside.script.now c.in-Some-Mutator.mutator (made_by c.self.inside.made c.in-Some-Mutator.mutator)
    = next_turn (player c.self.inside) c.self.invariant c.next_turn.new.self c.in-Some-Mutator.mutator (c.in-Some-Mutator.ensures.turn ∙ ap (λ a. a ∷ to_come c.next_turn.new.self) c.in-Some-Mutator.field-0-is) in
    omega (arith, n.some, c.from.ensures)

pub bounds-self-inside-from : goal.bounds-self-inside-from
bounds-self-inside-from g c =
    let n : HasCommand c.self.inside.script.now c.in-Some-Mutator.mutator (made_by c.self.inside.made c.in-Some-Mutator.mutator)
    = next_turn (player c.self.inside) c.self.invariant c.next_turn.new.self c.in-Some-Mutator.mutator (c.in-Some-Mutator.ensures.turn ∙ ap (λ a. a ∷ to_come c.next_turn.new.self) c.in-Some-Mutator.field-0-is) in
    omega (arith, n.some, n.most, few_mutators c.self.inside.script.now c.self.invariant.valid, c.from.ensures)

pub give_turn-cmd-requires-clause-next : goal.give_turn-cmd-requires-clause-next
give_turn-cmd-requires-clause-next g c =
    let n : HasCommand c.self.inside.script.now c.in-Some-Mutator.mutator (made_by c.self.inside.made c.in-Some-Mutator.mutator)
    = next_turn (player c.self.inside) c.self.invariant c.next_turn.new.self c.in-Some-Mutator.mutator (c.in-Some-Mutator.ensures.turn ∙ ap (λ a. a ∷ to_come c.next_turn.new.self) c.in-Some-Mutator.field-0-is) in
    subst (λ x. HasCommand c.self.inside.script.now c.in-Some-Mutator.mutator (slice_index_or c.self.inside.made (x - 1) 0)) (sym c.from.ensures) n

pub give_turn-cmd-requires-clause-config : goal.give_turn-cmd-requires-clause-config
give_turn-cmd-requires-clause-config g c = subst (λ (q : Player). c.args.world.now.config ≡ config_of q.script) (sym c.self.view_is) c.requires.config

pub give_turn-cmd-requires-clause-idle : goal.give_turn-cmd-requires-clause-idle
give_turn-cmd-requires-clause-idle g c = c.requires.idle

pub give_turn-cmd-requires-clause-present : goal.give_turn-cmd-requires-clause-present
give_turn-cmd-requires-clause-present g c =
    let n : HasCommand c.self.inside.script.now c.in-Some-Mutator.mutator (made_by c.self.inside.made c.in-Some-Mutator.mutator)
    = next_turn (player c.self.inside) c.self.invariant c.next_turn.new.self c.in-Some-Mutator.mutator (c.in-Some-Mutator.ensures.turn ∙ ap (λ a. a ∷ to_come c.next_turn.new.self) c.in-Some-Mutator.field-0-is) in
    (subst (λ (q : Player). AreThere q.script q.made c.args.world.now) (sym c.self.view_is) c.requires.present) c.in-Some-Mutator.mutator n.next

pub turn_collector-requires-clause-few : goal.turn_collector-requires-clause-few
turn_collector-requires-clause-few g c = few_mutators c.self.inside.script.now c.self.invariant.valid

pub returns-in_err-turn-in-Some-Collector-clause-shown : goal.returns-in_err-turn-in-Some-Collector-clause-shown
returns-in_err-turn-in-Some-Collector-clause-shown g c = IfOk-from_err c.from_residual.result _ c.from_residual.ensures.0

pub returns-in_err-turn-in-Some-Collector-clause-unshown : goal.returns-in_err-turn-in-Some-Collector-clause-unshown
returns-in_err-turn-in-Some-Collector-clause-unshown g c = if_err c.from_residual.result c.in_err-turn-in-Some-Collector.ensures.unshown

pub returns-in_err-turn-in-Some-Collector-clause-rose : goal.returns-in_err-turn-in-Some-Collector-clause-rose
returns-in_err-turn-in-Some-Collector-clause-rose g c = if_err c.from_residual.result c.in_err-turn-in-Some-Collector.ensures.rose

pub returns-in_err-turn-in-Some-Collector-clause-never_falls : goal.returns-in_err-turn-in-Some-Collector-clause-never_falls
returns-in_err-turn-in-Some-Collector-clause-never_falls g c = c.turn_collector.ensures.never_falls

pub returns-in_ok-turn-in-Some-Collector-clause-never_falls : goal.returns-in_ok-turn-in-Some-Collector-clause-never_falls
returns-in_ok-turn-in-Some-Collector-clause-never_falls g c = c.turn_collector.ensures.never_falls

pub returns-in_ok-turn-in-Some-Collector-clause-shown : goal.returns-in_ok-turn-in-Some-Collector-clause-shown
returns-in_ok-turn-in-Some-Collector-clause-shown g c = c.in_ok-turn-in-Some-Collector.ensures.shown

pub returns-in_err-turn-in-Some-Collector-clause-script : goal.returns-in_err-turn-in-Some-Collector-clause-script
returns-in_err-turn-in-Some-Collector-clause-script g c = ap (λ (q : Player). q.script) c.self.view_is

pub returns-in_err-turn-in-Some-Collector-clause-due : goal.returns-in_err-turn-in-Some-Collector-clause-due
returns-in_err-turn-in-Some-Collector-clause-due g c = subst AreDue c.self.view_is c.self.invariant

pub returns-in_ok-turn-in-Some-Collector-clause-script : goal.returns-in_ok-turn-in-Some-Collector-clause-script
returns-in_ok-turn-in-Some-Collector-clause-script g c = ap (λ (q : Player). q.script) c.self.view_is

pub returns-in_ok-turn-in-Some-Collector-clause-due : goal.returns-in_ok-turn-in-Some-Collector-clause-due
returns-in_ok-turn-in-Some-Collector-clause-due g c = subst AreDue c.self.view_is c.self.invariant

pub returns-in-Some-Mutator-clause-script : goal.returns-in-Some-Mutator-clause-script
returns-in-Some-Mutator-clause-script g c = ap (λ (q : Player). q.script) c.self.view_is

pub returns-in-Some-Mutator-clause-due : goal.returns-in-Some-Mutator-clause-due
returns-in-Some-Mutator-clause-due g c = subst AreDue c.self.view_is c.self.invariant

pub returns-in-None-clause-script : goal.returns-in-None-clause-script
returns-in-None-clause-script g c = ap (λ (q : Player). q.script) c.self.view_is

pub returns-in-None-clause-due : goal.returns-in-None-clause-due
returns-in-None-clause-due g c = subst AreDue c.self.view_is c.self.invariant

pub returns-in-Some-Mutator-clause-never_falls : goal.returns-in-Some-Mutator-clause-never_falls
returns-in-Some-Mutator-clause-never_falls g c = omega arith

pub returns-in-None-clause-shown : goal.returns-in-None-clause-shown
returns-in-None-clause-shown g c = g.met.W.Watch.none_shown c.args.watch.now

pub returns-in-None-clause-never_falls : goal.returns-in-None-clause-never_falls
returns-in-None-clause-never_falls g c = omega arith

pub invariant_of-self-in_err-turn-in-Some-Collector : goal.invariant_of-self-in_err-turn-in-Some-Collector
invariant_of-self-in_err-turn-in-Some-Collector g c = due_stepped (player c.self.inside) c.self.invariant c.next_turn.new.self (c.in-Some-Collector.ensures.turn ∙ ap (λ a. a ∷ to_come c.next_turn.new.self) c.in-Some-Collector.field-0-is)

pub invariant_of-self-in-Some-Collector : goal.invariant_of-self-in-Some-Collector
invariant_of-self-in-Some-Collector g c = due_stepped (player c.self.inside) c.self.invariant c.next_turn.new.self (c.in-Some-Collector.ensures.turn ∙ ap (λ a. a ∷ to_come c.next_turn.new.self) c.in-Some-Collector.field-0-is)

pub invariant_of-self-in-None : goal.invariant_of-self-in-None
invariant_of-self-in-None g c = subst (λ r. AreDue (record (player c.self.inside) { rest = r })) (sym (c.in-None.ensures.stays refl)) c.self.invariant

pub returns-in_err-turn-in-Some-Collector-clause-refused : goal.returns-in_err-turn-in-Some-Collector-clause-refused
returns-in_err-turn-in-Some-Collector-clause-refused g c = if_err c.from_residual.result (ap (λ (q : Player). to_come q.rest) (sym c.self.view_is) ∙ c.in-Some-Collector.ensures.turn ∙ ap (λ a. a ∷ to_come c.next_turn.new.self) c.in-Some-Collector.field-0-is, c.in_err-turn-in-Some-Collector.ensures.refused)

pub returns-in_err-turn-in-Some-Collector-clause-goes : goal.returns-in_err-turn-in-Some-Collector-clause-goes
returns-in_err-turn-in-Some-Collector-clause-goes g c = c.turn_collector.ensures.goes

pub returns-in_ok-turn-in-Some-Collector-clause-goes : goal.returns-in_ok-turn-in-Some-Collector-clause-goes
returns-in_ok-turn-in-Some-Collector-clause-goes g c = c.turn_collector.ensures.goes

-- the others go on as before, and it is there until its last command
pub returns-in-Some-Mutator-clause-goes : goal.returns-in-Some-Mutator-clause-goes
returns-in-Some-Mutator-clause-goes g c =
    let m = c.in-Some-Mutator.mutator in
    let script = c.self.inside.script.now in
    let made : List ℕ = c.self.inside.made in
    let n : HasCommand script m (made_by made m)
    = next_turn (player c.self.inside) c.self.invariant c.next_turn.new.self m (c.in-Some-Mutator.ensures.turn ∙ ap (λ a. a ∷ to_come c.next_turn.new.self) c.in-Some-Mutator.field-0-is) in
    record {
      config = c.give_turn-cmd.ensures.config;
      idle = c.give_turn-cmd.ensures.idle;
      present = subst (λ x. AreThere script (slice_set made (x - 1) (slice_index_or made (x - 1) 0 + 1)) c.give_turn-cmd.new.world) (sym c.from.ensures)
          (made_there script made m c.args.world.now c.give_turn-cmd.new.world n.some (omega (arith, n.some, n.most, few_mutators script c.self.invariant.valid, c.self.invariant.long)) c.give_turn-cmd.ensures.others
          (λ more. c.give_turn-cmd.ensures.present (subst (λ x. slice_index_or made (x - 1) 0 + 1 < length (commands_of script m)) (sym c.from.ensures) more))
          (subst (λ (q : Player). AreThere q.script q.made c.args.world.now) (sym c.self.view_is) c.requires.present));
    }

pub returns-in-None-clause-goes : goal.returns-in-None-clause-goes
returns-in-None-clause-goes g c = record {
  config = subst (λ (q : Player). c.args.world.now.config ≡ config_of q.script) (sym c.self.view_is) c.requires.config;
  idle = c.requires.idle;
  present = subst (λ (q : Player). AreThere q.script q.made c.args.world.now) (sym c.self.view_is) c.requires.present;
}

pub returns-in_err-turn-in-Some-Collector-clause-turned : goal.returns-in_err-turn-in-Some-Collector-clause-turned
returns-in_err-turn-in-Some-Collector-clause-turned g c = IfOk-from_err c.from_residual.result _ c.from_residual.ensures.0

pub returns-in_ok-turn-in-Some-Collector-clause-turned : goal.returns-in_ok-turn-in-Some-Collector-clause-turned
returns-in_ok-turn-in-Some-Collector-clause-turned g c = record {
  told = record {
    turn_so = ap (λ (q : Player). to_come q.rest) (sym c.self.view_is) ∙ c.in-Some-Collector.ensures.turn ∙ ap (λ a. a ∷ to_come c.next_turn.new.self) c.in-Some-Collector.field-0-is;
    is = c.in_ok-turn-in-Some-Collector.ensures.seen;
    steps = subst (λ (q : Player). HasStepped (IsSpent q.script q.made) c.args.world.now c.in_ok-turn-in-Some-Collector.turn c.turn_collector.new.world) c.self.view_is c.in_ok-turn-in-Some-Collector.ensures.stepped;
    made = ap (λ (q : Player). q.made) c.self.view_is;
    requested = c.turn_collector.ensures.requested;
  };
  ended = λ none. absurd (true≢false none);
  stays = λ none. absurd (true≢false none);
}

pub returns-in-Some-Mutator-clause-turned : goal.returns-in-Some-Mutator-clause-turned
returns-in-Some-Mutator-clause-turned g c = record {
  told = record {
    turn = ap (λ (q : Player). to_come q.rest) (sym c.self.view_is) ∙ c.in-Some-Mutator.ensures.turn ∙ ap (λ a. a ∷ to_come c.next_turn.new.self) c.in-Some-Mutator.field-0-is;
    carries = subst (λ (q : Player). Carries q.script c.in-Some-Mutator.mutator (made_by q.made c.in-Some-Mutator.mutator) c.args.world.now c.give_turn-cmd.result.0 c.give_turn-cmd.result.1 c.give_turn-cmd.new.world) c.self.view_is
        (subst (λ n. Carries c.self.inside.script.now c.in-Some-Mutator.mutator (slice_index_or c.self.inside.made (n - 1) 0) c.args.world.now c.give_turn-cmd.result.0 c.give_turn-cmd.result.1 c.give_turn-cmd.new.world) c.from.ensures c.give_turn-cmd.ensures.carried);
    made = ap (λ n. slice_set c.self.inside.made (n - 1) (slice_index_or c.self.inside.made (n - 1) 0 + 1)) c.from.ensures ∙ ap (λ (q : Player). slice_set q.made (c.in-Some-Mutator.mutator - 1) (made_by q.made c.in-Some-Mutator.mutator + 1)) c.self.view_is;
    requested = c.give_turn-cmd.ensures.requested;
  };
  ended = λ none. absurd (true≢false none);
  stays = λ none. absurd (true≢false none);
}

pub returns-in-None-clause-turned : goal.returns-in-None-clause-turned
returns-in-None-clause-turned g c = record {
  told = tt;
  ended = λ none. ap (λ (q : Player). to_come q.rest) (sym c.self.view_is) ∙ c.in-None.ensures.ended refl;
  stays = λ none. (ap (λ r. record (player c.self.inside) { rest = r }) (c.in-None.ensures.stays refl) ∙ c.self.view_is, refl);
}

pub turn_collector-requires-clause-goes : goal.turn_collector-requires-clause-goes
turn_collector-requires-clause-goes g c = subst (λ (q : Player). MayGoOn q.script q.made c.args.world.now) (sym c.self.view_is) c.requires

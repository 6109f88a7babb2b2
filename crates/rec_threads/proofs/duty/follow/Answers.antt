-- The contract of `follow`: what the thread of a mutator's worker does.
use Rattle.std.proofs.Common.{rules, ◌≡◌, ℕ, ◌++◌, [], List, MatchBool, None, length, replicate, true, sym, subst, false, ◌≤◌}
use Rattle.std.proofs.lemmas.List.{append-nil}
use Rattle.rec_model.specs.declared.command.Cmd.{Cmd}
use Rattle.rec_mutator.specs.declared.work.Work.TheVariants as works
use Rattle.rec_script.specs.Script.{ScriptContents}
use Rattle.rec_table.specs.Views.{MutatorView, IsMutatorOf}
use Rattle.rec_threads.specs.Done.{HasDone, HasMade, HasMadeAll, HasStayed, driving_rule, own_commands, polled_before}
use Rattle.rec_threads.specs.declared.worker.Worker.{Worker}
use Rattle.rec_threads.proofs.Crews.{numbered, own_are}
use Rattle.rec_threads.proofs.Works.{all_operands, made_on}
use Rattle.rec_threads.proofs.duty.follow.Goals as goal

pub returns-clause-done : goal.returns-clause-done
returns-clause-done g c =
    let script : ScriptContents = c.args.script.now in
    let cmds : List Cmd = c.commands-commands.result.now in
    let own : own_commands script c.args.worker ≡ cmds = own_are script c.args.worker c.number.result cmds c.number.ensures.number c.commands-commands.ensures.value in
    let polls : ℕ = c.attend-over.result.polls in
    let now : Worker = c.attend-over.new.self in
    let yes : c.await_orders-orders.result.value ≡ true = search rules in
    let both : HasMade (cmds ++ []) (driving_rule cmds polls) c.args.worker now =
    made_on cmds [] (polled_before cmds) (replicate polls works.Poll) c.args.worker c.carry_out.new.self now c.carry_out.ensures c.attend-over.ensures.made in
    let all : HasMade cmds (driving_rule cmds polls) c.args.worker now = subst (λ (made : List Cmd). HasMade made (driving_rule cmds polls) c.args.worker now) (append-nil cmds) both in
    let done : HasDone (own_commands script c.args.worker) c.args.worker now =
    record { polls = polls; few = c.attend-over.ensures.few; gone = c.attend-over.ensures.gone; made = subst (λ (made : List Cmd). HasMade made (driving_rule made polls) c.args.worker now) (sym own) all } in
    let stayed : HasStayed script c.args.worker now c.attend-over.result.over = record { done = done; ended = c.attend-over.ensures.ended } in
    subst (λ b. MatchBool b (HasStayed script c.args.worker now c.attend-over.result.over) (now ≡ c.args.worker)) (sym yes) stayed

pub begin-requires : goal.begin-requires
begin-requires g c = c.await_orders-orders.ensures

pub returns-then-not-begin-clause-orders : goal.returns-then-not-begin-clause-orders
returns-then-not-begin-clause-orders g c = c.await_orders-orders.ensures

pub returns-then-not-begin-clause-done : goal.returns-then-not-begin-clause-done
returns-then-not-begin-clause-done g c =
    let no : c.await_orders-orders.result.value ≡ false = search rules in
    subst (λ b. MatchBool b (HasStayed c.args.script.now c.args.worker c.args.worker None) (c.args.worker ≡ c.args.worker)) (sym no) (λ i. c.args.worker)

pub commands-commands-requires-clause-some : goal.commands-commands-requires-clause-some
commands-commands-requires-clause-some g c = (numbered c.args.heap.now c.args.script.now c.args.worker c.number.result c.number.ensures.number c.requires.ready).0

pub commands-commands-requires-clause-most : goal.commands-commands-requires-clause-most
commands-commands-requires-clause-most g c = (numbered c.args.heap.now c.args.script.now c.args.worker c.number.result c.number.ensures.number c.requires.ready).1

pub carry_out-requires-clause-own : goal.carry_out-requires-clause-own
carry_out-requires-clause-own g c κs within = c.requires.ready.ready.own

pub carry_out-requires-clause-room : goal.carry_out-requires-clause-room
carry_out-requires-clause-room g c κs within =
    let cmds : List Cmd = c.commands-commands.result.now in
    let own : own_commands c.args.script.now c.args.worker ≡ cmds = own_are c.args.script.now c.args.worker c.number.result cmds c.number.ensures.number c.commands-commands.ensures.value in
    subst (λ (cs : List Cmd). length cs ≤ c.args.worker.journal.room) own c.requires.ready.ready.room

pub carry_out-requires-clause-valid : goal.carry_out-requires-clause-valid
carry_out-requires-clause-valid g c κs within =
    let script : ScriptContents = c.args.script.now in
    let cmds : List Cmd = c.commands-commands.result.now in
    let own : own_commands script c.args.worker ≡ cmds = own_are script c.args.worker c.number.result cmds c.number.ensures.number c.commands-commands.ensures.value in
    all_operands c.args.heap.now script _ c.args.worker cmds c.requires.ready.ready own c.commands-commands.ensures.valid.in_range

pub carry_out-requires-clause-leaves_last : goal.carry_out-requires-clause-leaves_last
carry_out-requires-clause-leaves_last g c κs within = c.commands-commands.ensures.valid.leaves_last

pub carry_out-requires-clause-few : goal.carry_out-requires-clause-few
carry_out-requires-clause-few g c κs within = c.commands-commands.ensures.valid.few

pub tell_done-requires : goal.tell_done-requires
tell_done-requires g c =
    let script : ScriptContents = c.args.script.now in
    let cmds : List Cmd = c.commands-commands.result.now in
    let own : own_commands script c.args.worker ≡ cmds = own_are script c.args.worker c.number.result cmds c.number.ensures.number c.commands-commands.ensures.value in
    let made : HasMade (own_commands script c.args.worker) (polled_before (own_commands script c.args.worker)) c.args.worker c.carry_out.new.self =
    subst (λ (cs : List Cmd). HasMade cs (polled_before cs) c.args.worker c.carry_out.new.self) (sym own) c.carry_out.ensures in
    subst (λ (x : ScriptContents × Worker). HasMadeAll x.0 x.1 c.carry_out.new.self) (λ i. (sym c.requires.script i, sym c.of-was.ensures i)) made

pub attend-over-requires : goal.attend-over-requires
attend-over-requires g c = subst (λ (m : MutatorView). IsMutatorOf c.args.heap.now m) (sym c.carry_out.ensures.mutator) c.requires.ready.ready.own

pub returns-clause-orders : goal.returns-clause-orders
returns-clause-orders g c = c.await_orders-orders.ensures

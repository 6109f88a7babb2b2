-- The run of all turns, as it was noted and shown.
use Rattle.std.proofs.Common.{◌≡◌, ℕ, List, ◌-◌, ◌<◌, ◌++◌, ◌∷◌, [], slice_index_or, slice_set, refl, sym, ap, subst, ◌∙◌, arith}
use Rattle.std.proofs.lemmas.List.{append-nil}
use Rattle.std.proofs.lemmas.Result.{IfOk-from_err}
use Rattle.rec_io.proofs.Faults.{rose_since}
use Rattle.rec_model.specs.declared.command.Cmd.{Cmd}
use Rattle.rec_model.specs.declared.told.Told.{Told}
use Rattle.rec_core.specs.Core.{Core}
use Rattle.rec_core.specs.Worked.{AreIdle}
use Rattle.rec_order.specs.Naming.{Naming, first_naming}
use Rattle.rec_world.specs.Journal.{Notes}
use Rattle.rec_world.specs.Order.{Turns}
use Rattle.rec_world.specs.World.{IsWorld}
use Rattle.rec_script.specs.Script.{ScriptContents, IsScript}
use Rattle.rec_play.specs.declared.moves.Move.{Move}
use Rattle.rec_play.specs.declared.moves.Move.TheVariants.{Command, Step}
use Rattle.rec_play.specs.Moves.{AreThere, Makes, MakesCommand, Player}
use Rattle.rec_play.specs.Played.{config_of}
use Rattle.rec_play.specs.Playing.{to_come}
use Rattle.rec_play.specs.Start.{names_at}
use Rattle.rec_play.specs.Shown.{IsShownTo, first_player, told_shown}
use Rattle.rec_play.proofs.Rounds.{Between, HasRoom, all_played, command_made, has_room, journal_is, legally, notes_at, order_made, run_stopped, start, step_made}
use Rattle.rec_core.proofs.Shows.{shows_none, shows_then}
use Rattle.rec_play.proofs.Shows.{command_told, fewer_come, move_made, none_left, player_is, shown_more, shows_told}
use Rattle.rec_settle.proofs.Goes.{if_err}
use Rattle.rec_play.proofs.whole.play_watched.Goals as goal

pub loop-made-init : goal.loop-made-init
loop-made-init g c =
    let first : Player = first_player c.args.script.now c.args.seed c.args.turns in
    let is : c.start-playing.result ≡ first = player_is c.start-playing.result first.script first.rest first.made c.start-playing.ensures.script c.start-playing.ensures.rest c.start-playing.ensures.made in
    let each : (named : Naming) → Between c.args.script.now c.args.world.now named c.args.seed c.args.turns c.args.world.now c.args.journals.now c.args.order.now c.start-playing.result = λ named. start c.args.script.now c.args.world.now named c.args.seed c.args.turns c.args.journals.now c.args.order.now c.start-playing.result
    (subst IsScript c.start-playing.ensures.script c.start-playing.ensures.due.valid) c.requires.begins c.epoch-epoch.ensures.kept
    c.requires.notes.ready
    c.requires.notes.order c.requires.notes.room c.start-playing.ensures.script c.start-playing.ensures.rest c.start-playing.ensures.made in
    record {
      between = each first_naming;
      each = each;
      shown = ([], subst (λ p. IsShownTo first c.args.world.now [] p c.args.world.now) (sym is) IsShownTo.begins, g.met.W.Watch.none_shown c.args.watch.now, shows_none c.args.world.now);
      never_falls = omega arith;
    }

pub note-requires : goal.note-requires
note-requires g c =
    let makes : MakesCommand c.loop-made.playing c.next_watched.new.self c.loop-made.world c.next_watched.new.world c.in-Command.mutator c.in-Command.cmd c.in-Command.told
    = command_told c.loop-made.playing c.next_watched.new.self c.loop-made.world c.next_watched.new.world c.in_ok-made.field-0 c.in-Some.made c.in-Command.mutator c.in-Command.cmd c.in-Command.told c.in-Some.is c.in-Command.is c.in_ok-made.ensures.turned.told in
    let r : HasRoom c.args.script.now c.loop-made.journals c.loop-made.order c.in-Command.mutator
    = has_room c.args.script.now c.args.world.now first_naming c.args.seed c.args.turns c.loop-made.world c.next_watched.new.world c.loop-made.journals c.loop-made.order c.loop-made.playing c.next_watched.new.self
    c.in-Command.mutator c.in-Command.cmd c.in-Command.told c.loop-made.invariant.between makes in
    subst (λ (j : Notes). 0 < j.room) (sym (journal_is c.loop-made.journals c.from.result c.in-Command.mutator c.index-journals-from.result c.from.ensures r.some r.there)) r.journal_room

pub note-requires-in-Command : goal.note-requires-in-Command
note-requires-in-Command g c =
    let makes : MakesCommand c.loop-made.playing c.next_watched.new.self c.loop-made.world c.next_watched.new.world c.in-Command.mutator c.in-Command.cmd c.in-Command.told
    = command_told c.loop-made.playing c.next_watched.new.self c.loop-made.world c.next_watched.new.world c.in_ok-made.field-0 c.in-Some.made c.in-Command.mutator c.in-Command.cmd c.in-Command.told c.in-Some.is c.in-Command.is c.in_ok-made.ensures.turned.told in
    (has_room c.args.script.now c.args.world.now first_naming c.args.seed c.args.turns c.loop-made.world c.next_watched.new.world c.loop-made.journals c.loop-made.order c.loop-made.playing c.next_watched.new.self
    c.in-Command.mutator c.in-Command.cmd c.in-Command.told c.loop-made.invariant.between makes).order_room

pub loop-made-preserved-in-Command : goal.loop-made-preserved-in-Command
loop-made-preserved-in-Command g c =
    let makes : MakesCommand c.loop-made.playing c.next_watched.new.self c.loop-made.world c.next_watched.new.world c.in-Command.mutator c.in-Command.cmd c.in-Command.told
    = command_told c.loop-made.playing c.next_watched.new.self c.loop-made.world c.next_watched.new.world c.in_ok-made.field-0 c.in-Some.made c.in-Command.mutator c.in-Command.cmd c.in-Command.told c.in-Some.is c.in-Command.is c.in_ok-made.ensures.turned.told in
    let r : HasRoom c.args.script.now c.loop-made.journals c.loop-made.order c.in-Command.mutator
    = has_room c.args.script.now c.args.world.now first_naming c.args.seed c.args.turns c.loop-made.world c.next_watched.new.world c.loop-made.journals c.loop-made.order c.loop-made.playing c.next_watched.new.self
    c.in-Command.mutator c.in-Command.cmd c.in-Command.told c.loop-made.invariant.between makes in
    let journal : slice_index_or c.loop-made.journals (c.from.result - 1) c.index-journals-from.result ≡ notes_at c.loop-made.journals (c.in-Command.mutator - 1)
    = journal_is c.loop-made.journals c.from.result c.in-Command.mutator c.index-journals-from.result c.from.ensures r.some r.there in
    let so = c.loop-made.invariant.shown in
    let each : (named : Naming) → Between c.args.script.now c.args.world.now named c.args.seed c.args.turns c.next_watched.new.world (slice_set c.loop-made.journals (c.from.result - 1) c.note.new.self) c.note-in-Command.new.self c.next_watched.new.self =
    λ named. subst (λ n. Between c.args.script.now c.args.world.now named c.args.seed c.args.turns c.next_watched.new.world (slice_set c.loop-made.journals (n - 1) c.note.new.self) c.note-in-Command.new.self c.next_watched.new.self) (sym c.from.ensures)
    (command_made c.args.script.now c.args.world.now named c.args.seed c.args.turns c.loop-made.world c.next_watched.new.world c.loop-made.journals c.loop-made.order c.loop-made.playing c.next_watched.new.self
    c.in-Command.mutator c.in-Command.cmd c.in-Command.told (c.loop-made.invariant.each named) makes c.note.new.self c.note-in-Command.new.self
    (c.note.ensures.lines ∙ ap (λ (j : Notes). j.lines ++ (c.in-Command.cmd, c.in-Command.told) ∷ []) journal) (c.note.ensures.room ∙ ap (λ (j : Notes). j.room - 1) journal)
    c.note-in-Command.ensures.list c.note-in-Command.ensures.room c.next_watched.ensures.script c.next_watched.ensures.due.1.long c.next_watched.ensures.kept c.next_watched.ensures.goes.idle c.next_watched.ensures.goes.present
    (c.next_watched.ensures.goes.config ∙ ap config_of (c.next_watched.ensures.script ∙ c.loop-made.invariant.between.of))) in
    record {
      between = each first_naming;
      each = each;
      shown = (
        so.0 ++ told_shown c.loop-made.world c.in_ok-made.field-0,
        shown_more (first_player c.args.script.now c.args.seed c.args.turns) c.args.world.now so.0 c.loop-made.playing c.next_watched.new.self c.loop-made.world c.next_watched.new.world c.in_ok-made.field-0 so.1 c.in_ok-made.ensures.turned.told c.in_ok-made.ensures.turned.stays,
        g.met.W.Watch.shown_then c.args.watch.now c.loop-made.watch c.next_watched.new.watch so.0 (told_shown c.loop-made.world c.in_ok-made.field-0) so.2 c.in_ok-made.ensures.shown,
        shows_then c.args.world.now c.loop-made.world c.next_watched.new.world so.0 (told_shown c.loop-made.world c.in_ok-made.field-0) so.3 (shows_told c.args.script.now c.args.world.now first_naming c.args.seed c.args.turns c.loop-made.world c.next_watched.new.world c.loop-made.journals c.loop-made.order c.loop-made.playing c.next_watched.new.self c.in_ok-made.field-0 c.loop-made.invariant.between c.in_ok-made.ensures.turned.told c.in_ok-made.ensures.turned.stays),
      );
      never_falls = omega (arith, c.loop-made.invariant.never_falls, c.next_watched.ensures.never_falls);
    }

-- a move that is no command is a step
stepped : (script : ScriptContents) (first : Core) (named : Naming) (seed turns : ℕ) (before after : Core) (journals : List Notes) (noted : Turns) (p q : Player) (move : Move) → ((t : ℕ) (cmd : Cmd) (told : Told) → move ≡ Command t cmd told → ⊥) → Makes p q before after move
    → q.script ≡ p.script → IsWorld after → AreIdle after → AreThere q.script q.made after → after.config ≡ config_of script → Between script first named seed turns before journals noted p → Between script first named seed turns after journals noted q
stepped script first named seed turns before after journals noted p q (Command t cmd told) other makes same kept idle present config so = absurd (other t cmd told refl)
stepped script first named seed turns before after journals noted p q (Step seen turn) other makes same kept idle present config so = step_made script first named seed turns before after journals noted p q seen turn makes same kept idle present config so

pub loop-made-preserved : goal.loop-made-preserved
loop-made-preserved g c =
    let so = c.loop-made.invariant.shown in
    let each : (named : Naming) → Between c.args.script.now c.args.world.now named c.args.seed c.args.turns c.next_watched.new.world c.loop-made.journals c.loop-made.order c.next_watched.new.self =
    λ named. stepped c.args.script.now c.args.world.now named c.args.seed c.args.turns c.loop-made.world c.next_watched.new.world c.loop-made.journals c.loop-made.order c.loop-made.playing c.next_watched.new.self
    c.in-Some.made c.in_default-made.not-Command (move_made c.loop-made.playing c.next_watched.new.self c.loop-made.world c.next_watched.new.world c.in_ok-made.field-0 c.in-Some.made c.in-Some.is c.in_ok-made.ensures.turned.told)
    c.next_watched.ensures.script c.next_watched.ensures.kept c.next_watched.ensures.goes.idle c.next_watched.ensures.goes.present
    (c.next_watched.ensures.goes.config ∙ ap config_of (c.next_watched.ensures.script ∙ c.loop-made.invariant.between.of)) (c.loop-made.invariant.each named) in
    record {
      between = each first_naming;
      each = each;
      shown = (
        so.0 ++ told_shown c.loop-made.world c.in_ok-made.field-0,
        shown_more (first_player c.args.script.now c.args.seed c.args.turns) c.args.world.now so.0 c.loop-made.playing c.next_watched.new.self c.loop-made.world c.next_watched.new.world c.in_ok-made.field-0 so.1 c.in_ok-made.ensures.turned.told c.in_ok-made.ensures.turned.stays,
        g.met.W.Watch.shown_then c.args.watch.now c.loop-made.watch c.next_watched.new.watch so.0 (told_shown c.loop-made.world c.in_ok-made.field-0) so.2 c.in_ok-made.ensures.shown,
        shows_then c.args.world.now c.loop-made.world c.next_watched.new.world so.0 (told_shown c.loop-made.world c.in_ok-made.field-0) so.3 (shows_told c.args.script.now c.args.world.now first_naming c.args.seed c.args.turns c.loop-made.world c.next_watched.new.world c.loop-made.journals c.loop-made.order c.loop-made.playing c.next_watched.new.self c.in_ok-made.field-0 c.loop-made.invariant.between c.in_ok-made.ensures.turned.told c.in_ok-made.ensures.turned.stays),
      );
      never_falls = omega (arith, c.loop-made.invariant.never_falls, c.next_watched.ensures.never_falls);
    }

pub returns-in_err-made-clause-refused : goal.returns-in_err-made-clause-refused
returns-in_err-made-clause-refused g c =
    let so = c.loop-made.invariant.shown in
    if_err c.from_residual.result
    (record {
      shown = (
        so.0,
        record { player = c.loop-made.playing; before = c.loop-made.world; so = so.1; later = to_come c.next_watched.new.self.rest; next = c.in_err-made.ensures.refused.0; stopped = c.in_err-made.ensures.refused.1 },
        subst (λ xs. g.W.Watch.WasShown c.args.watch.now xs c.next_watched.new.watch) (append-nil so.0) (g.met.W.Watch.shown_then c.args.watch.now c.loop-made.watch c.next_watched.new.watch so.0 [] so.2 c.in_err-made.ensures.unshown),
      );
      stopped = λ named.
          run_stopped c.args.script.now c.args.world.now named c.args.seed c.args.turns c.loop-made.world c.loop-made.journals c.loop-made.order c.loop-made.playing (to_come c.next_watched.new.self.rest) c.next_watched.new.world c.in_err-made.ensures.refused.0
          c.in_err-made.ensures.refused.1 (c.loop-made.invariant.each named);
    })

pub returns-clause-played : goal.returns-clause-played
returns-clause-played g c = λ at same is.
    let here : Between c.args.script.now at.world (names_at at) c.args.seed c.args.turns c.loop-made.world c.loop-made.journals c.loop-made.order c.loop-made.playing =
    subst (λ w. Between c.args.script.now w (names_at at) c.args.seed c.args.turns c.loop-made.world c.loop-made.journals c.loop-made.order c.loop-made.playing) (sym same) (c.loop-made.invariant.each (names_at at)) in
    let so : Between c.args.script.now at.world (names_at at) c.args.seed c.args.turns c.next_watched.new.world c.loop-made.journals c.loop-made.order c.loop-made.playing =
    subst (λ w. Between c.args.script.now at.world (names_at at) c.args.seed c.args.turns w c.loop-made.journals c.loop-made.order c.loop-made.playing) (sym (none_left c.in_ok-made.field-0 c.in_default.is c.in_ok-made.ensures.turned.stays).1) here in
    let none : to_come c.loop-made.playing.rest ≡ [] = none_left c.in_ok-made.field-0 c.in_default.is c.in_ok-made.ensures.turned.ended in
    let law = legally c.args.script.now at c.args.seed c.args.turns c.next_watched.new.world c.loop-made.journals c.loop-made.order c.loop-made.playing none is so in
    (so.events, all_played c.args.script.now at c.args.seed c.args.turns c.next_watched.new.world c.loop-made.journals c.loop-made.order c.loop-made.playing none is so, (so.names.number, law.stands), law.made)

pub returns-clause-order : goal.returns-clause-order
returns-clause-order g c =
    order_made c.args.script.now c.args.world.now first_naming c.args.seed c.args.turns c.loop-made.world c.loop-made.journals c.loop-made.order c.loop-made.playing (none_left c.in_ok-made.field-0 c.in_default.is c.in_ok-made.ensures.turned.ended) c.loop-made.invariant.between

pub returns-clause-shown : goal.returns-clause-shown
returns-clause-shown g c =
    let so = c.loop-made.invariant.shown in (
      so.0 ++ told_shown c.loop-made.world c.in_ok-made.field-0,
      record {
        last = c.next_watched.new.self;
        so = shown_more (first_player c.args.script.now c.args.seed c.args.turns) c.args.world.now so.0 c.loop-made.playing c.next_watched.new.self c.loop-made.world c.next_watched.new.world c.in_ok-made.field-0 so.1 c.in_ok-made.ensures.turned.told c.in_ok-made.ensures.turned.stays;
        ended = ap (λ (p : Player). to_come p.rest) (none_left c.in_ok-made.field-0 c.in_default.is c.in_ok-made.ensures.turned.stays).0 ∙ none_left c.in_ok-made.field-0 c.in_default.is c.in_ok-made.ensures.turned.ended;
      },
      g.met.W.Watch.shown_then c.args.watch.now c.loop-made.watch c.next_watched.new.watch so.0 (told_shown c.loop-made.world c.in_ok-made.field-0) so.2 c.in_ok-made.ensures.shown,
      shows_then c.args.world.now c.loop-made.world c.next_watched.new.world so.0 (told_shown c.loop-made.world c.in_ok-made.field-0) so.3 (shows_told c.args.script.now c.args.world.now first_naming c.args.seed c.args.turns c.loop-made.world c.next_watched.new.world c.loop-made.journals c.loop-made.order c.loop-made.playing c.next_watched.new.self c.in_ok-made.field-0 c.loop-made.invariant.between c.in_ok-made.ensures.turned.told c.in_ok-made.ensures.turned.stays),
    )

pub next_watched-requires : goal.next_watched-requires
next_watched-requires g c = record {
  config = c.loop-made.invariant.between.config ∙ ap config_of (sym c.loop-made.invariant.between.of);
  idle = c.loop-made.invariant.between.idle;
  present = c.loop-made.invariant.between.present;
}

pub returns-in_err-made-clause-played : goal.returns-in_err-made-clause-played
returns-in_err-made-clause-played g c = IfOk-from_err c.from_residual.result _ c.from_residual.ensures.0

pub returns-in_err-made-clause-order : goal.returns-in_err-made-clause-order
returns-in_err-made-clause-order g c = IfOk-from_err c.from_residual.result _ c.from_residual.ensures.0

pub returns-in_err-made-clause-epochs : goal.returns-in_err-made-clause-epochs
returns-in_err-made-clause-epochs g c = IfOk-from_err c.from_residual.result _ c.from_residual.ensures.0

pub returns-in_err-made-clause-shown : goal.returns-in_err-made-clause-shown
returns-in_err-made-clause-shown g c = IfOk-from_err c.from_residual.result _ c.from_residual.ensures.0

pub returns-in_err-made-clause-rose : goal.returns-in_err-made-clause-rose
returns-in_err-made-clause-rose g c = if_err c.from_residual.result (rose_since (g.W.Watch.refused c.args.watch.now) (g.W.Watch.refused c.loop-made.watch) (g.W.Watch.refused c.next_watched.new.watch) c.loop-made.invariant.never_falls c.in_err-made.ensures.rose)

pub returns-in_err-made-clause-config : goal.returns-in_err-made-clause-config
returns-in_err-made-clause-config g c = c.next_watched.ensures.goes.config ∙ ap config_of (c.next_watched.ensures.script ∙ c.loop-made.invariant.between.of)

pub returns-in_err-made-clause-idle : goal.returns-in_err-made-clause-idle
returns-in_err-made-clause-idle g c = c.next_watched.ensures.goes.idle

pub returns-in_err-made-clause-kept : goal.returns-in_err-made-clause-kept
returns-in_err-made-clause-kept g c = c.next_watched.ensures.kept

pub returns-in_err-made-clause-never_falls : goal.returns-in_err-made-clause-never_falls
returns-in_err-made-clause-never_falls g c = omega (arith, c.loop-made.invariant.never_falls, c.next_watched.ensures.never_falls)

pub returns-clause-config : goal.returns-clause-config
returns-clause-config g c = c.next_watched.ensures.goes.config ∙ ap config_of (c.next_watched.ensures.script ∙ c.loop-made.invariant.between.of)

pub returns-clause-idle : goal.returns-clause-idle
returns-clause-idle g c = c.next_watched.ensures.goes.idle

pub returns-clause-kept : goal.returns-clause-kept
returns-clause-kept g c = c.next_watched.ensures.kept

pub returns-clause-never_falls : goal.returns-clause-never_falls
returns-clause-never_falls g c = omega (arith, c.loop-made.invariant.never_falls, c.next_watched.ensures.never_falls)

pub loop-made-smaller-in-Command : goal.loop-made-smaller-in-Command
loop-made-smaller-in-Command g c = fewer_come c.loop-made.playing c.next_watched.new.self c.loop-made.world c.next_watched.new.world c.in-Some.made (move_made c.loop-made.playing c.next_watched.new.self c.loop-made.world c.next_watched.new.world c.in_ok-made.field-0 c.in-Some.made c.in-Some.is c.in_ok-made.ensures.turned.told)

pub loop-made-smaller : goal.loop-made-smaller
loop-made-smaller g c = fewer_come c.loop-made.playing c.next_watched.new.self c.loop-made.world c.next_watched.new.world c.in-Some.made (move_made c.loop-made.playing c.next_watched.new.self c.loop-made.world c.next_watched.new.world c.in_ok-made.field-0 c.in-Some.made c.in-Some.is c.in_ok-made.ensures.turned.told)

pub returns-clause-epochs : goal.returns-clause-epochs
returns-clause-epochs g c = omega (arith, c.loop-made.invariant.between.epochs, ap (λ (x : Core). x.epoch) (none_left c.in_ok-made.field-0 c.in_default.is c.in_ok-made.ensures.turned.stays).1)

pub overflow_sub-from : goal.overflow_sub-from
overflow_sub-from g c =
    let makes : MakesCommand c.loop-made.playing c.next_watched.new.self c.loop-made.world c.next_watched.new.world c.in-Command.mutator c.in-Command.cmd c.in-Command.told
    = command_told c.loop-made.playing c.next_watched.new.self c.loop-made.world c.next_watched.new.world c.in_ok-made.field-0 c.in-Some.made c.in-Command.mutator c.in-Command.cmd c.in-Command.told c.in-Some.is c.in-Command.is c.in_ok-made.ensures.turned.told in
    let r : HasRoom c.args.script.now c.loop-made.journals c.loop-made.order c.in-Command.mutator
    = has_room c.args.script.now c.args.world.now first_naming c.args.seed c.args.turns c.loop-made.world c.next_watched.new.world c.loop-made.journals c.loop-made.order c.loop-made.playing c.next_watched.new.self
    c.in-Command.mutator c.in-Command.cmd c.in-Command.told c.loop-made.invariant.between makes in
    omega (arith, r.some, c.from.ensures)

pub bounds-journals-from : goal.bounds-journals-from
bounds-journals-from g c =
    let makes : MakesCommand c.loop-made.playing c.next_watched.new.self c.loop-made.world c.next_watched.new.world c.in-Command.mutator c.in-Command.cmd c.in-Command.told
    = command_told c.loop-made.playing c.next_watched.new.self c.loop-made.world c.next_watched.new.world c.in_ok-made.field-0 c.in-Some.made c.in-Command.mutator c.in-Command.cmd c.in-Command.told c.in-Some.is c.in-Command.is c.in_ok-made.ensures.turned.told in
    let r : HasRoom c.args.script.now c.loop-made.journals c.loop-made.order c.in-Command.mutator
    = has_room c.args.script.now c.args.world.now first_naming c.args.seed c.args.turns c.loop-made.world c.next_watched.new.world c.loop-made.journals c.loop-made.order c.loop-made.playing c.next_watched.new.self
    c.in-Command.mutator c.in-Command.cmd c.in-Command.told c.loop-made.invariant.between makes in
    omega (arith, r.some, r.there, c.from.ensures)

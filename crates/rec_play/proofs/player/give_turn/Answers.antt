-- The mutator polled and made its next command.
use Rattle.std.proofs.Common.{◌≡◌, ◌+◌, ◌-◌, ◌<◌, List, [], length, ap, subst, ◌∙◌, ◌≤◌, sym}
use Rattle.std.specs.List.{slice_get}
use Rattle.std.proofs.lemmas.Option.{slice_get-get_or, get_or_from_slice_get}
use Rattle.rec_model.specs.declared.command.Cmd.{Cmd}
use Rattle.rec_settle.proofs.Waiting.{others_idle}
use Rattle.rec_play.specs.Run.{commands_of}
use Rattle.rec_play.proofs.Due.{commands_are}
use Rattle.rec_play.proofs.Going.{told_why}
use Rattle.rec_play.proofs.Named.{names_go}
use Rattle.rec_play.proofs.There.{stays_on}
use Rattle.rec_play.proofs.player.give_turn.Goals as goal

pub returns-clause-carried : goal.returns-clause-carried
returns-clause-carried c =
    let cmds : List Cmd = c.commands.result.now in
    let own : commands_of c.args.script.now c.args.t ≡ cmds = commands_are c.args.script.now c.args.t c.requires.next.some ∙ get_or_from_slice_get c.args.script.now.commands (c.args.t - 1) cmds [] c.commands.ensures.value in
    let next : c.args.made < length cmds = subst (λ (xs : List Cmd). c.args.made < length xs) own c.requires.next.next in
    let (slot, seen, lowest) = c.command-told.ensures.changes.seen in
    let why = told_why c.args.script.now c.poll.new.self c.command-told.new.self c.args.t _ c.command-told.result c.poll.ensures.kept (c.poll.ensures.polled.quiet.config ∙ c.requires.config) c.requires.next.some c.requires.next.most c.poll.ensures.polled.idle
    (c.poll.ensures.polled.left ∙ c.requires.present) (c.commands.ensures.valid.in_range c.args.made _ next) c.command-told.ensures.worked c.command-told.ensures.answer in
    record {
      next = ap (λ xs. slice_get xs c.args.made) own ∙ slice_get-get_or cmds c.args.made _ next;
      polled = c.poll.new.self;
      poll = c.poll.ensures.worked;
      command = c.command-told.ensures.worked;
      answer = c.command-told.ensures.answer;
      not_yet = why.not_yet;
      full = why.full;
      names = names_go c.args.world.now c.poll.new.self c.command-told.new.self slot c.args.t _ c.command-told.result c.poll.ensures.polled.quiet.seen seen lowest;
    }

-- no command follows the one by which it leaves
pub returns-clause-present : goal.returns-clause-present
returns-clause-present c = λ more.
    let cmds : List Cmd = c.commands.result.now in
    let own : commands_of c.args.script.now c.args.t ≡ cmds = commands_are c.args.script.now c.args.t c.requires.next.some ∙ get_or_from_slice_get c.args.script.now.commands (c.args.t - 1) cmds [] c.commands.ensures.value in
    let next : c.args.made < length cmds = subst (λ (xs : List Cmd). c.args.made < length xs) own c.requires.next.next in
    let later : c.args.made + 1 < length cmds = subst (λ (xs : List Cmd). c.args.made + 1 < length xs) own more in
    c.command-told.ensures.stays.left ∙ stays_on cmds c.args.made _ c.command-told.result.answer c.commands.ensures.valid.leaves_last (slice_get-get_or cmds c.args.made _ next) later

pub returns-clause-others : goal.returns-clause-others
returns-clause-others c = λ s other some. c.command-told.ensures.stays.others s other some ∙ c.poll.ensures.polled.quiet.others s other some

pub returns-clause-idle : goal.returns-clause-idle
returns-clause-idle c =
    others_idle c.poll.new.self c.command-told.new.self c.args.t c.command-told.ensures.stays.config c.command-told.ensures.stays.others c.command-told.ensures.stays.idle
    (others_idle c.args.world.now c.poll.new.self c.args.t c.poll.ensures.polled.quiet.config c.poll.ensures.polled.quiet.others c.poll.ensures.polled.idle c.requires.idle)

pub commands-requires-clause-some : goal.commands-requires-clause-some
commands-requires-clause-some c = c.requires.next.some

pub commands-requires-clause-most : goal.commands-requires-clause-most
commands-requires-clause-most c = c.requires.next.most

pub bounds-commands-made : goal.bounds-commands-made
bounds-commands-made c =
    let cmds : List Cmd = c.commands.result.now in
    let own : commands_of c.args.script.now c.args.t ≡ cmds = commands_are c.args.script.now c.args.t c.requires.next.some ∙ get_or_from_slice_get c.args.script.now.commands (c.args.t - 1) cmds [] c.commands.ensures.value in
    subst (λ (xs : List Cmd). c.args.made < length xs) own c.requires.next.next

pub poll-requires-clause-mutator : goal.poll-requires-clause-mutator
poll-requires-clause-mutator c = (c.requires.next.some, subst (λ config. c.args.t ≤ config.mutators) (sym c.requires.config) c.requires.next.most)

pub poll-requires-clause-present : goal.poll-requires-clause-present
poll-requires-clause-present c = c.requires.present

pub poll-requires-clause-idle : goal.poll-requires-clause-idle
poll-requires-clause-idle c = c.requires.idle c.args.t (c.requires.next.some, subst (λ config. c.args.t ≤ config.mutators) (sym c.requires.config) c.requires.next.most)

pub command-told-requires-clause-present : goal.command-told-requires-clause-present
command-told-requires-clause-present c = c.poll.ensures.polled.left ∙ c.requires.present

pub command-told-requires-clause-idle : goal.command-told-requires-clause-idle
command-told-requires-clause-idle c = c.poll.ensures.polled.idle

pub returns-clause-config : goal.returns-clause-config
returns-clause-config c = c.command-told.ensures.stays.config ∙ c.poll.ensures.polled.quiet.config ∙ c.requires.config

pub returns-clause-kept : goal.returns-clause-kept
returns-clause-kept c = c.command-told.ensures.kept

pub returns-clause-requested : goal.returns-clause-requested
returns-clause-requested c = c.command-told.ensures.stays.requested ∙ c.poll.ensures.polled.quiet.requested

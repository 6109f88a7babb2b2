-- The contract of `Script::add`: a command more for the last mutator.
use Rattle.std.proofs.Common.{◌<◌, length, map, sym, subst}
use Rattle.rec_script.specs.Script.{ScriptContents, Allows, HasLeft, IsCommand, last_commands}
use Rattle.rec_script.proofs.Mutators.{one_command_more}
use Rattle.rec_script.proofs.script.Script.add.Goals as goal

pub invariant_of-self-2 : goal.invariant_of-self-2
invariant_of-self-2 c =
    one_command_more c.self.inside.version c.self.inside.slots c.self.inside.fields c.self.inside.registers (map (λ v. v.items) c.self.inside.earlier.items) c.self.inside.last.items c.push.new.self.items c.args.cmd c.self.invariant
    (subst (λ (v : ScriptContents). Allows v.version c.args.cmd) (sym c.self.view_is) c.requires.allowed)
    (subst (λ (v : ScriptContents). IsCommand v.registers v.fields c.args.cmd) (sym c.self.view_is) c.requires.in_range)
    (subst (λ (v : ScriptContents). length (last_commands v.commands) < 200000) (sym c.self.view_is) c.requires.room)
    (subst (λ (v : ScriptContents). ¬ HasLeft (last_commands v.commands)) (sym c.self.view_is) c.requires.stays)
    c.in_ok-push.ensures.items

pub returns-clause-valid : goal.returns-clause-valid
returns-clause-valid c =
    one_command_more c.self.inside.version c.self.inside.slots c.self.inside.fields c.self.inside.registers (map (λ v. v.items) c.self.inside.earlier.items) c.self.inside.last.items c.push.new.self.items c.args.cmd c.self.invariant
    (subst (λ (v : ScriptContents). Allows v.version c.args.cmd) (sym c.self.view_is) c.requires.allowed)
    (subst (λ (v : ScriptContents). IsCommand v.registers v.fields c.args.cmd) (sym c.self.view_is) c.requires.in_range)
    (subst (λ (v : ScriptContents). length (last_commands v.commands) < 200000) (sym c.self.view_is) c.requires.room)
    (subst (λ (v : ScriptContents). ¬ HasLeft (last_commands v.commands)) (sym c.self.view_is) c.requires.stays)
    c.in_ok-push.ensures.items

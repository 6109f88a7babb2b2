-- What the fields of a `Script` stand for.
use Rattle.std.specs.Prelude.{[], ◌∷◌, ◌++◌, map}
use Rattle.rec_script.specs.declared.script.Script.TheInside.{Inside}
use Rattle.rec_script.specs.Script.{ScriptContents}

-- the last mutator's commands stand apart, as they grow
abbrev pub contents : Inside → ScriptContents
contents s = record { version = s.version; slots = s.slots; fields = s.fields; registers = s.registers; commands = map (λ v. v.items) s.earlier.items ++ s.last.items ∷ [] }

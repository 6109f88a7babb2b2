-- Commands whose numbers fit a byte.
use Rattle.std.specs.Prelude.{ℕ, Option, Some, None, Bool, true, ◌&&◌, nat_lt, if◌then◌else◌}
use Rattle.rec_model.specs.declared.command.Cmd.{Cmd}
use Rattle.rec_model.specs.declared.command.Cmd.TheVariants as commands

abbrev pub byte : ℕ → Bool
byte n = nat_lt n 256

-- whether each register and field of the command fits a byte
abbrev is_narrow : Cmd → Bool
is_narrow (commands.New reg label) = byte reg
is_narrow (commands.Leaf reg label) = byte reg
is_narrow (commands.Null reg) = byte reg
is_narrow (commands.Copy dst src) = byte dst && byte src
is_narrow (commands.Get dst src f) = byte dst && byte src && byte f
is_narrow (commands.Put src f val) = byte src && byte f && byte val
is_narrow (commands.Value reg) = byte reg
is_narrow (commands.Same a b) = byte a && byte b
is_narrow commands.Leave = true
is_narrow commands.Park = true
is_narrow commands.Unpark = true

-- the command, where they do
abbrev pub narrow : Cmd → Option Cmd
narrow cmd = if is_narrow cmd then Some cmd else None

-- What an atomic operation leaves in a word.
use Rattle.std.specs.Prelude.{ℕ, ◌+◌, ◌%◌, ◌^◌, ◌==◌, if◌then◌else◌}
use Rattle.rec_word.specs.Looked.{left_by, looked}
use Rattle.rec_word.specs.declared.atom.Atom.{Atom}
use Rattle.rec_word.specs.declared.atom.Atom.TheVariants.{Load, Exchange, CompareExchange, Add, Look}

-- the word that stands there afterwards, where this one was found; a sum goes round at its greatest value; a look leaves what it
-- comes to
abbrev pub leaves : Atom → ℕ → ℕ
leaves Load found = found
leaves (Exchange new) found = new
leaves (CompareExchange expected new) found = if found == expected then new else found
leaves (Add amount) found = (found + amount) % 2 ^ 64
leaves (Look epoch) found = left_by (looked epoch found) found

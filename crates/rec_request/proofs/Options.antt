-- What an option's text says is what its row says.
use Rattle.std.proofs.Common.{◌≡◌, ℕ, Option, None, Some, subst, sym, ◌∙◌}
use Rattle.clap.specs.Words.{rows_of, first_value, first_of, Text}
use Rattle.clap.specs.declared.parser.matches.Found.{Found}
use Rattle.clap.proofs.WalkLemmas.{first_value-rows}
use Rattle.rec_request.specs.CommandLine.{Says}

-- from the text to the row
pub by_row : (f : Found) (id : Text) (text : Option Text) (default most n : ℕ) → text ≡ first_value f id → Says text default most n → Says (first_of id (rows_of f)) default most n
by_row f id text default most n is says = subst (λ t. Says t default most n) (is ∙ first_value-rows f id) says

-- from the row to the text
pub by_text : (f : Found) (id : Text) (text : Option Text) (default most n : ℕ) → text ≡ first_value f id → Says (first_of id (rows_of f)) default most n → Says text default most n
by_text f id text default most n is says = subst (λ t. Says t default most n) (sym (is ∙ first_value-rows f id)) says

-- an option says one number
pub says_once : (text : Option Text) (default most m n : ℕ) → Says text default most m → Says text default most n → m ≡ n
says_once None default most m n one two = one ∙ sym two
says_once (Some text) default most m n one two = one.1 ∙ sym two.1

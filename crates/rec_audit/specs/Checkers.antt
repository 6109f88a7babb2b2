-- What the checker knows of the lines that it has read.
use Rattle.std.specs.Prelude.{◌≡◌, ℕ, ◌++◌, ◌∷◌, [], List, length, count_by}
use Rattle.rec_audit.specs.declared.checker.Checker.{Checker}
use Rattle.rec_audit.specs.Lines.{Line, text_of, text_of_line}
use Rattle.rec_audit.specs.Form.{form_of}
use Rattle.rec_audit.specs.Graph.{is_free}
use Rattle.rec_audit.specs.Graphs.{IsGraphOf, IsSized, slots_of}
use Rattle.rec_audit.specs.Verdicts.{AreClean}

-- its graph is of its heap
pub record IsReady (c : Checker) : Type 0 where
  pub sized : IsSized c.graph
  pub size : slots_of c.graph ≡ c.form.heap.slots

-- none of the lines is at fault, and it stands behind them
pub record Knows (lines : List Line) (c : Checker) : Type 0 where
  pub clean : AreClean lines
  pub form : c.form ≡ form_of lines
  pub graph : IsGraphOf lines c.graph
  pub sets : c.sets ≡ count_by (λ line. is_free line.kind) lines

-- the line at the front of the bytes was taken
pub record Takes (lines : List Line) (bytes rest : List ℕ) (c : Checker) : Type 0 where
  pub line : Line
  pub text : bytes ≡ text_of_line line ++ rest
  pub knows : Knows (lines ++ line ∷ []) c

-- what was read of some bytes: so many lines
pub record HasRead (bytes rest : List ℕ) (number : ℕ) (c : Checker) : Type 0 where
  pub lines : List Line
  pub text : bytes ≡ text_of lines ++ rest
  pub count : number ≡ length lines
  pub knows : Knows lines c

-- The contract of `with_operands`: the command like this one with the operands that a line has behind its first word.
use Rattle.std.proofs.Common.{◌≡◌, ℕ, List, Result, Ok, Err, sym, ap, subst, ◌∙◌}
use Rattle.std.proofs.lemmas.Result.{IfOk-from_err, IfOk-weaker}
use Rattle.std.specs.Result.{IfErr, IsErrAnd}
use Rattle.rec_model.specs.declared.command.Cmd.{Cmd}
use Rattle.rec_script.specs.Lines.{words}
use Rattle.rec_script.specs.Operands.{AreMisread}
use Rattle.rec_script.specs.declared.error.Kind.{Kind}
use Rattle.rec_script.specs.Script.{limits_of, word_of}
use Rattle.rec_script.proofs.command.with_operands.Goals as goal

-- an error that is passed on says what is wrong with the operands of this command
misread : (r : Result Cmd Kind) (stop : Kind) (count registers fields : ℕ) (operands : List (List ℕ)) (named this : Cmd) → IsErrAnd r (λ e. e ≡ stop) → named ≡ this → AreMisread count (limits_of registers fields this) operands stop →
    IfErr r (λ kind. AreMisread count (limits_of registers fields named) operands kind)
misread (Ok x) stop count registers fields operands named this gives is h = tt
misread (Err e) stop count registers fields operands named this gives is h =
    subst (λ (kind : Kind). AreMisread count (limits_of registers fields named) operands kind) (sym gives)
    (subst (λ (c : Cmd). AreMisread count (limits_of registers fields c) operands stop) (sym is) h)

pub returns-in_err-reg-in-New-clause-word : goal.returns-in_err-reg-in-New-clause-word
returns-in_err-reg-in-New-clause-word c = IfOk-from_err c.from_residual.result _ c.from_residual.ensures.0

pub returns-in_err-reg-in-New-clause-right : goal.returns-in_err-reg-in-New-clause-right
returns-in_err-reg-in-New-clause-right c = IfOk-from_err c.from_residual.result _ c.from_residual.ensures.0

pub returns-in_err-reg-in-New-clause-in_range : goal.returns-in_err-reg-in-New-clause-in_range
returns-in_err-reg-in-New-clause-in_range c = IfOk-from_err c.from_residual.result _ c.from_residual.ensures.0

pub returns-in_err-reg-in-New-clause-room : goal.returns-in_err-reg-in-New-clause-room
returns-in_err-reg-in-New-clause-room c = IfOk-from_err c.from_residual.result _ c.from_residual.ensures.0

pub returns-in_err-reg-in-New-clause-wrong : goal.returns-in_err-reg-in-New-clause-wrong
returns-in_err-reg-in-New-clause-wrong c =
    misread c.from_residual.result c.in_err-reg-in-New.field-0.0 c.args.count c.args.registers c.args.fields (words c.args.rest.now) c.args.named _ c.from_residual.ensures.1 c.in-New.is c.in_err-reg-in-New.ensures.wrong

pub returns-in_ok-reg-in-New-clause-word : goal.returns-in_ok-reg-in-New-clause-word
returns-in_ok-reg-in-New-clause-word c = ap word_of (sym c.in-New.is)

pub returns-in_ok-reg-in-New-clause-right : goal.returns-in_ok-reg-in-New-clause-right
returns-in_ok-reg-in-New-clause-right c = c.in_ok-reg-in-New.ensures.right

pub returns-in_ok-reg-in-New-clause-in_range : goal.returns-in_ok-reg-in-New-clause-in_range
returns-in_ok-reg-in-New-clause-in_range c = (c.in_ok-reg-in-New.ensures.below.0, c.in_ok-reg-in-New.ensures.below.1)

pub returns-in_ok-reg-in-New-clause-room : goal.returns-in_ok-reg-in-New-clause-room
returns-in_ok-reg-in-New-clause-room c = c.in_ok-reg-in-New.ensures.below.2

pub returns-in_err-reg-in-Leaf-clause-word : goal.returns-in_err-reg-in-Leaf-clause-word
returns-in_err-reg-in-Leaf-clause-word c = IfOk-from_err c.from_residual-in_err-reg-in-Leaf.result _ c.from_residual-in_err-reg-in-Leaf.ensures.0

pub returns-in_err-reg-in-Leaf-clause-right : goal.returns-in_err-reg-in-Leaf-clause-right
returns-in_err-reg-in-Leaf-clause-right c = IfOk-from_err c.from_residual-in_err-reg-in-Leaf.result _ c.from_residual-in_err-reg-in-Leaf.ensures.0

pub returns-in_err-reg-in-Leaf-clause-in_range : goal.returns-in_err-reg-in-Leaf-clause-in_range
returns-in_err-reg-in-Leaf-clause-in_range c = IfOk-from_err c.from_residual-in_err-reg-in-Leaf.result _ c.from_residual-in_err-reg-in-Leaf.ensures.0

pub returns-in_err-reg-in-Leaf-clause-room : goal.returns-in_err-reg-in-Leaf-clause-room
returns-in_err-reg-in-Leaf-clause-room c = IfOk-from_err c.from_residual-in_err-reg-in-Leaf.result _ c.from_residual-in_err-reg-in-Leaf.ensures.0

pub returns-in_err-reg-in-Leaf-clause-wrong : goal.returns-in_err-reg-in-Leaf-clause-wrong
returns-in_err-reg-in-Leaf-clause-wrong c =
    misread c.from_residual-in_err-reg-in-Leaf.result c.in_err-reg-in-Leaf.field-0.0 c.args.count c.args.registers c.args.fields (words c.args.rest.now) c.args.named _ c.from_residual-in_err-reg-in-Leaf.ensures.1 c.in-Leaf.is c.in_err-reg-in-Leaf.ensures.wrong

pub returns-in_ok-reg-in-Leaf-clause-word : goal.returns-in_ok-reg-in-Leaf-clause-word
returns-in_ok-reg-in-Leaf-clause-word c = ap word_of (sym c.in-Leaf.is)

pub returns-in_ok-reg-in-Leaf-clause-right : goal.returns-in_ok-reg-in-Leaf-clause-right
returns-in_ok-reg-in-Leaf-clause-right c = c.in_ok-reg-in-Leaf.ensures.right

pub returns-in_ok-reg-in-Leaf-clause-in_range : goal.returns-in_ok-reg-in-Leaf-clause-in_range
returns-in_ok-reg-in-Leaf-clause-in_range c = (c.in_ok-reg-in-Leaf.ensures.below.0, c.in_ok-reg-in-Leaf.ensures.below.1)

pub returns-in_ok-reg-in-Leaf-clause-room : goal.returns-in_ok-reg-in-Leaf-clause-room
returns-in_ok-reg-in-Leaf-clause-room c = c.in_ok-reg-in-Leaf.ensures.below.2

pub returns-in_err-reg-in-Null-clause-word : goal.returns-in_err-reg-in-Null-clause-word
returns-in_err-reg-in-Null-clause-word c = IfOk-from_err c.from_residual-in_err-reg-in-Null.result _ c.from_residual-in_err-reg-in-Null.ensures.0

pub returns-in_err-reg-in-Null-clause-right : goal.returns-in_err-reg-in-Null-clause-right
returns-in_err-reg-in-Null-clause-right c = IfOk-from_err c.from_residual-in_err-reg-in-Null.result _ c.from_residual-in_err-reg-in-Null.ensures.0

pub returns-in_err-reg-in-Null-clause-in_range : goal.returns-in_err-reg-in-Null-clause-in_range
returns-in_err-reg-in-Null-clause-in_range c = IfOk-from_err c.from_residual-in_err-reg-in-Null.result _ c.from_residual-in_err-reg-in-Null.ensures.0

pub returns-in_err-reg-in-Null-clause-room : goal.returns-in_err-reg-in-Null-clause-room
returns-in_err-reg-in-Null-clause-room c = IfOk-from_err c.from_residual-in_err-reg-in-Null.result _ c.from_residual-in_err-reg-in-Null.ensures.0

pub returns-in_err-reg-in-Null-clause-wrong : goal.returns-in_err-reg-in-Null-clause-wrong
returns-in_err-reg-in-Null-clause-wrong c =
    misread c.from_residual-in_err-reg-in-Null.result c.in_err-reg-in-Null.field-0.0 c.args.count c.args.registers c.args.fields (words c.args.rest.now) c.args.named _ c.from_residual-in_err-reg-in-Null.ensures.1 c.in-Null.is c.in_err-reg-in-Null.ensures.wrong

pub returns-in_ok-reg-in-Null-clause-word : goal.returns-in_ok-reg-in-Null-clause-word
returns-in_ok-reg-in-Null-clause-word c = ap word_of (sym c.in-Null.is)

pub returns-in_ok-reg-in-Null-clause-right : goal.returns-in_ok-reg-in-Null-clause-right
returns-in_ok-reg-in-Null-clause-right c = c.in_ok-reg-in-Null.ensures.right

pub returns-in_ok-reg-in-Null-clause-in_range : goal.returns-in_ok-reg-in-Null-clause-in_range
returns-in_ok-reg-in-Null-clause-in_range c = (c.in_ok-reg-in-Null.ensures.below.0, tt)

pub returns-in_ok-reg-in-Null-clause-room : goal.returns-in_ok-reg-in-Null-clause-room
returns-in_ok-reg-in-Null-clause-room c = c.in_ok-reg-in-Null.ensures.below.1

pub returns-in_err-dst-in-Copy-clause-word : goal.returns-in_err-dst-in-Copy-clause-word
returns-in_err-dst-in-Copy-clause-word c = IfOk-from_err c.from_residual-in_err-dst-in-Copy.result _ c.from_residual-in_err-dst-in-Copy.ensures.0

pub returns-in_err-dst-in-Copy-clause-right : goal.returns-in_err-dst-in-Copy-clause-right
returns-in_err-dst-in-Copy-clause-right c = IfOk-from_err c.from_residual-in_err-dst-in-Copy.result _ c.from_residual-in_err-dst-in-Copy.ensures.0

pub returns-in_err-dst-in-Copy-clause-in_range : goal.returns-in_err-dst-in-Copy-clause-in_range
returns-in_err-dst-in-Copy-clause-in_range c = IfOk-from_err c.from_residual-in_err-dst-in-Copy.result _ c.from_residual-in_err-dst-in-Copy.ensures.0

pub returns-in_err-dst-in-Copy-clause-room : goal.returns-in_err-dst-in-Copy-clause-room
returns-in_err-dst-in-Copy-clause-room c = IfOk-from_err c.from_residual-in_err-dst-in-Copy.result _ c.from_residual-in_err-dst-in-Copy.ensures.0

pub returns-in_err-dst-in-Copy-clause-wrong : goal.returns-in_err-dst-in-Copy-clause-wrong
returns-in_err-dst-in-Copy-clause-wrong c =
    misread c.from_residual-in_err-dst-in-Copy.result c.in_err-dst-in-Copy.field-0.0 c.args.count c.args.registers c.args.fields (words c.args.rest.now) c.args.named _ c.from_residual-in_err-dst-in-Copy.ensures.1 c.in-Copy.is c.in_err-dst-in-Copy.ensures.wrong

pub returns-in_ok-dst-in-Copy-clause-word : goal.returns-in_ok-dst-in-Copy-clause-word
returns-in_ok-dst-in-Copy-clause-word c = ap word_of (sym c.in-Copy.is)

pub returns-in_ok-dst-in-Copy-clause-right : goal.returns-in_ok-dst-in-Copy-clause-right
returns-in_ok-dst-in-Copy-clause-right c = c.in_ok-dst-in-Copy.ensures.right

pub returns-in_ok-dst-in-Copy-clause-in_range : goal.returns-in_ok-dst-in-Copy-clause-in_range
returns-in_ok-dst-in-Copy-clause-in_range c = ((c.in_ok-dst-in-Copy.ensures.below.0, c.in_ok-dst-in-Copy.ensures.below.1), tt)

pub returns-in_ok-dst-in-Copy-clause-room : goal.returns-in_ok-dst-in-Copy-clause-room
returns-in_ok-dst-in-Copy-clause-room c = c.in_ok-dst-in-Copy.ensures.below.2

pub returns-in_err-reg-in-Value-clause-word : goal.returns-in_err-reg-in-Value-clause-word
returns-in_err-reg-in-Value-clause-word c = IfOk-from_err c.from_residual-in_err-reg-in-Value.result _ c.from_residual-in_err-reg-in-Value.ensures.0

pub returns-in_err-reg-in-Value-clause-right : goal.returns-in_err-reg-in-Value-clause-right
returns-in_err-reg-in-Value-clause-right c = IfOk-from_err c.from_residual-in_err-reg-in-Value.result _ c.from_residual-in_err-reg-in-Value.ensures.0

pub returns-in_err-reg-in-Value-clause-in_range : goal.returns-in_err-reg-in-Value-clause-in_range
returns-in_err-reg-in-Value-clause-in_range c = IfOk-from_err c.from_residual-in_err-reg-in-Value.result _ c.from_residual-in_err-reg-in-Value.ensures.0

pub returns-in_err-reg-in-Value-clause-room : goal.returns-in_err-reg-in-Value-clause-room
returns-in_err-reg-in-Value-clause-room c = IfOk-from_err c.from_residual-in_err-reg-in-Value.result _ c.from_residual-in_err-reg-in-Value.ensures.0

pub returns-in_err-reg-in-Value-clause-wrong : goal.returns-in_err-reg-in-Value-clause-wrong
returns-in_err-reg-in-Value-clause-wrong c =
    misread c.from_residual-in_err-reg-in-Value.result c.in_err-reg-in-Value.field-0.0 c.args.count c.args.registers c.args.fields (words c.args.rest.now) c.args.named _ c.from_residual-in_err-reg-in-Value.ensures.1 c.in-Value.is c.in_err-reg-in-Value.ensures.wrong

pub returns-in_ok-reg-in-Value-clause-word : goal.returns-in_ok-reg-in-Value-clause-word
returns-in_ok-reg-in-Value-clause-word c = ap word_of (sym c.in-Value.is)

pub returns-in_ok-reg-in-Value-clause-right : goal.returns-in_ok-reg-in-Value-clause-right
returns-in_ok-reg-in-Value-clause-right c = c.in_ok-reg-in-Value.ensures.right

pub returns-in_ok-reg-in-Value-clause-in_range : goal.returns-in_ok-reg-in-Value-clause-in_range
returns-in_ok-reg-in-Value-clause-in_range c = (c.in_ok-reg-in-Value.ensures.below.0, tt)

pub returns-in_ok-reg-in-Value-clause-room : goal.returns-in_ok-reg-in-Value-clause-room
returns-in_ok-reg-in-Value-clause-room c = c.in_ok-reg-in-Value.ensures.below.1

pub returns-in_err-a-in-Same-clause-word : goal.returns-in_err-a-in-Same-clause-word
returns-in_err-a-in-Same-clause-word c = IfOk-from_err c.from_residual-in_err-a-in-Same.result _ c.from_residual-in_err-a-in-Same.ensures.0

pub returns-in_err-a-in-Same-clause-right : goal.returns-in_err-a-in-Same-clause-right
returns-in_err-a-in-Same-clause-right c = IfOk-from_err c.from_residual-in_err-a-in-Same.result _ c.from_residual-in_err-a-in-Same.ensures.0

pub returns-in_err-a-in-Same-clause-in_range : goal.returns-in_err-a-in-Same-clause-in_range
returns-in_err-a-in-Same-clause-in_range c = IfOk-from_err c.from_residual-in_err-a-in-Same.result _ c.from_residual-in_err-a-in-Same.ensures.0

pub returns-in_err-a-in-Same-clause-room : goal.returns-in_err-a-in-Same-clause-room
returns-in_err-a-in-Same-clause-room c = IfOk-from_err c.from_residual-in_err-a-in-Same.result _ c.from_residual-in_err-a-in-Same.ensures.0

pub returns-in_err-a-in-Same-clause-wrong : goal.returns-in_err-a-in-Same-clause-wrong
returns-in_err-a-in-Same-clause-wrong c =
    misread c.from_residual-in_err-a-in-Same.result c.in_err-a-in-Same.field-0.0 c.args.count c.args.registers c.args.fields (words c.args.rest.now) c.args.named _ c.from_residual-in_err-a-in-Same.ensures.1 c.in-Same.is c.in_err-a-in-Same.ensures.wrong

pub returns-in_ok-a-in-Same-clause-word : goal.returns-in_ok-a-in-Same-clause-word
returns-in_ok-a-in-Same-clause-word c = ap word_of (sym c.in-Same.is)

pub returns-in_ok-a-in-Same-clause-right : goal.returns-in_ok-a-in-Same-clause-right
returns-in_ok-a-in-Same-clause-right c = c.in_ok-a-in-Same.ensures.right

pub returns-in_ok-a-in-Same-clause-in_range : goal.returns-in_ok-a-in-Same-clause-in_range
returns-in_ok-a-in-Same-clause-in_range c = ((c.in_ok-a-in-Same.ensures.below.0, c.in_ok-a-in-Same.ensures.below.1), tt)

pub returns-in_ok-a-in-Same-clause-room : goal.returns-in_ok-a-in-Same-clause-room
returns-in_ok-a-in-Same-clause-room c = c.in_ok-a-in-Same.ensures.below.2

pub returns-in_err-no_operands-in-Leave-clause-word : goal.returns-in_err-no_operands-in-Leave-clause-word
returns-in_err-no_operands-in-Leave-clause-word c = IfOk-from_err c.from_residual-in_err-no_operands-in-Leave.result _ c.from_residual-in_err-no_operands-in-Leave.ensures.0

pub returns-in_err-no_operands-in-Leave-clause-right : goal.returns-in_err-no_operands-in-Leave-clause-right
returns-in_err-no_operands-in-Leave-clause-right c = IfOk-from_err c.from_residual-in_err-no_operands-in-Leave.result _ c.from_residual-in_err-no_operands-in-Leave.ensures.0

pub returns-in_err-no_operands-in-Leave-clause-in_range : goal.returns-in_err-no_operands-in-Leave-clause-in_range
returns-in_err-no_operands-in-Leave-clause-in_range c = IfOk-from_err c.from_residual-in_err-no_operands-in-Leave.result _ c.from_residual-in_err-no_operands-in-Leave.ensures.0

pub returns-in_err-no_operands-in-Leave-clause-room : goal.returns-in_err-no_operands-in-Leave-clause-room
returns-in_err-no_operands-in-Leave-clause-room c = IfOk-from_err c.from_residual-in_err-no_operands-in-Leave.result _ c.from_residual-in_err-no_operands-in-Leave.ensures.0

pub returns-in_err-no_operands-in-Leave-clause-wrong : goal.returns-in_err-no_operands-in-Leave-clause-wrong
returns-in_err-no_operands-in-Leave-clause-wrong c =
    misread c.from_residual-in_err-no_operands-in-Leave.result c.in_err-no_operands-in-Leave.field-0.0 c.args.count c.args.registers c.args.fields (words c.args.rest.now) c.args.named _ c.from_residual-in_err-no_operands-in-Leave.ensures.1 c.in-Leave.is c.in_err-no_operands-in-Leave.ensures.wrong

pub returns-in_ok-no_operands-in-Leave-clause-word : goal.returns-in_ok-no_operands-in-Leave-clause-word
returns-in_ok-no_operands-in-Leave-clause-word c = ap word_of (sym c.in-Leave.is)

pub returns-in_ok-no_operands-in-Leave-clause-right : goal.returns-in_ok-no_operands-in-Leave-clause-right
returns-in_ok-no_operands-in-Leave-clause-right c = c.in_ok-no_operands-in-Leave.ensures.right

pub returns-in_ok-no_operands-in-Leave-clause-room : goal.returns-in_ok-no_operands-in-Leave-clause-room
returns-in_ok-no_operands-in-Leave-clause-room c = c.in_ok-no_operands-in-Leave.ensures.room

pub returns-in-Get-clause-right : goal.returns-in-Get-clause-right
returns-in-Get-clause-right c = c.get.ensures.right

pub returns-in-Get-clause-in_range : goal.returns-in-Get-clause-in_range
returns-in-Get-clause-in_range c = c.get.ensures.in_range

pub returns-in-Get-clause-room : goal.returns-in-Get-clause-room
returns-in-Get-clause-room c = c.get.ensures.room

pub returns-in-Get-clause-word : goal.returns-in-Get-clause-word
returns-in-Get-clause-word c = IfOk-weaker c.get.result _ _ (λ cmd h. h ∙ ap word_of (sym c.in-Get.is)) c.get.ensures.word

pub returns-in-Get-clause-wrong : goal.returns-in-Get-clause-wrong
returns-in-Get-clause-wrong c =
    subst (λ (named : Cmd). IfErr c.get.result (λ kind. AreMisread c.args.count (limits_of c.args.registers c.args.fields named) (words c.args.rest.now) kind)) (sym c.in-Get.is) c.get.ensures.wrong

pub returns-in-Put-clause-right : goal.returns-in-Put-clause-right
returns-in-Put-clause-right c = c.put.ensures.right

pub returns-in-Put-clause-in_range : goal.returns-in-Put-clause-in_range
returns-in-Put-clause-in_range c = c.put.ensures.in_range

pub returns-in-Put-clause-room : goal.returns-in-Put-clause-room
returns-in-Put-clause-room c = c.put.ensures.room

pub returns-in-Put-clause-word : goal.returns-in-Put-clause-word
returns-in-Put-clause-word c = IfOk-weaker c.put.result _ _ (λ cmd h. h ∙ ap word_of (sym c.in-Put.is)) c.put.ensures.word

pub returns-in-Put-clause-wrong : goal.returns-in-Put-clause-wrong
returns-in-Put-clause-wrong c =
    subst (λ (named : Cmd). IfErr c.put.result (λ kind. AreMisread c.args.count (limits_of c.args.registers c.args.fields named) (words c.args.rest.now) kind)) (sym c.in-Put.is) c.put.ensures.wrong

pub birth-requires-clause-few : goal.birth-requires-clause-few
birth-requires-clause-few c = c.requires.few

pub birth-requires-clause-registers : goal.birth-requires-clause-registers
birth-requires-clause-registers c = c.requires.registers

pub birth-requires-in-Leaf-clause-few : goal.birth-requires-in-Leaf-clause-few
birth-requires-in-Leaf-clause-few c = c.requires.few

pub birth-requires-in-Leaf-clause-registers : goal.birth-requires-in-Leaf-clause-registers
birth-requires-in-Leaf-clause-registers c = c.requires.registers

pub register-requires-clause-few : goal.register-requires-clause-few
register-requires-clause-few c = c.requires.few

pub register-requires-clause-registers : goal.register-requires-clause-registers
register-requires-clause-registers c = c.requires.registers

pub register-requires-in-Value-clause-few : goal.register-requires-in-Value-clause-few
register-requires-in-Value-clause-few c = c.requires.few

pub register-requires-in-Value-clause-registers : goal.register-requires-in-Value-clause-registers
register-requires-in-Value-clause-registers c = c.requires.registers

pub two_registers-requires-clause-few : goal.two_registers-requires-clause-few
two_registers-requires-clause-few c = c.requires.few

pub two_registers-requires-clause-registers : goal.two_registers-requires-clause-registers
two_registers-requires-clause-registers c = c.requires.registers

pub two_registers-requires-in-Same-clause-few : goal.two_registers-requires-in-Same-clause-few
two_registers-requires-in-Same-clause-few c = c.requires.few

pub two_registers-requires-in-Same-clause-registers : goal.two_registers-requires-in-Same-clause-registers
two_registers-requires-in-Same-clause-registers c = c.requires.registers

pub get-requires-clause-few : goal.get-requires-clause-few
get-requires-clause-few c = c.requires.few

pub get-requires-clause-registers : goal.get-requires-clause-registers
get-requires-clause-registers c = c.requires.registers

pub get-requires-clause-fields : goal.get-requires-clause-fields
get-requires-clause-fields c = c.requires.fields

pub put-requires-clause-few : goal.put-requires-clause-few
put-requires-clause-few c = c.requires.few

pub put-requires-clause-registers : goal.put-requires-clause-registers
put-requires-clause-registers c = c.requires.registers

pub put-requires-clause-fields : goal.put-requires-clause-fields
put-requires-clause-fields c = c.requires.fields

pub no_operands-requires : goal.no_operands-requires
no_operands-requires c = c.requires.few

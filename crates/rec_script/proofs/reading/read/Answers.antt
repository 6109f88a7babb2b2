-- The contract of `read`: the script that the bytes spell.
use Rattle.std.proofs.Common.{◌≡◌, ◌+◌, ℕ, List, length, sym, ap, subst, ◌∙◌, Err}
use Rattle.std.proofs.lemmas.Bool.{eqb-true}
use Rattle.std.proofs.lemmas.Result.{err_from_is_err_and}
use Rattle.rec_script.specs.declared.error.ScriptError.{ScriptError}
use Rattle.rec_script.specs.declared.error.ScriptError.TheVariants.{Bad}
use Rattle.rec_script.specs.Lines.{lines}
use Rattle.rec_script.proofs.Regrouping.{same_script}
use Rattle.rec_script.proofs.Refusing.{refused_no_text}
use Rattle.rec_script.proofs.Faults.{told_both, told_error}
use Rattle.rec_script.proofs.Endings.{read_on, refused_first, ended, refused_open, no_lines}
use Rattle.rec_script.specs.declared.draft.Draft.{Draft}
use Rattle.rec_script.specs.Drafts.{so_far, IsTaken, IsWrongFirst}
use Rattle.rec_script.proofs.reading.read.Goals as goal

pub returns-in_err-rest-in-Ok-None-clause-refused : goal.returns-in_err-rest-in-Ok-None-clause-refused
returns-in_err-rest-in-Ok-None-clause-refused c = λ line kind e.
    let so = c.loop-rest.invariant in
    let left : c.take_spaced.new.self ≡ c.loop-rest.draft = (rw c.in-Ok-None.field-0-is at c.in-Ok-None.ensures).left in
    let p = err_from_is_err_and c.from_residual.result c.from_residual.ensures.1 in
    let is : p.0 ≡ Bad line kind = told_error p.0 (Bad line kind) (sym p.1 ∙ e) in
    let was : c.in_err-rest-in-Ok-None.field-0.0 ≡ Bad line kind = sym p.2 ∙ is in
    let h = c.in_err-rest-in-Ok-None.ensures.refused line kind (ap (λ (x : ScriptError). Err x) was) in
    refused_first c.loop-rest.draft c.args.bytes.now c.loop-rest.number line (lines c.loop-rest.rest.now) kind c.if-bytes-gt-MOST_BYTES.false so.draft so.spelt so.utf8 so.others
    (h.0, subst (λ (d : Draft). IsWrongFirst (lines c.loop-rest.rest.now) (so_far d) kind) left h.1)

pub returns-in_err-rest-in-Ok-None-clause-none : goal.returns-in_err-rest-in-Ok-None-clause-none
returns-in_err-rest-in-Ok-None-clause-none c = λ line kind e. refused_no_text c.args.bytes.now line kind (returns-in_err-rest-in-Ok-None-clause-refused c line kind e)

pub loop-rest-preserved : goal.loop-rest-preserved
loop-rest-preserved c =
    let left : c.take_spaced.new.self ≡ c.loop-rest.draft = (rw c.in-Ok-None.field-0-is at c.in-Ok-None.ensures).left in
    let behind : List ℕ = c.in_ok-rest-in-Ok-None.rest.now in
    let P : Draft → Type 0 = λ d. IsTaken c.loop-rest.rest.now behind (so_far d) (so_far c.take_words.new.self) in
    read_on c.args.bytes.now c.loop-rest.rest.now behind c.loop-rest.draft c.take_words.new.self c.loop-rest.number c.loop-rest.invariant
    (subst P left c.in_ok-rest-in-Ok-None.ensures.taken) c.in_ok-rest-in-Ok-None.ensures.valid

pub loop-rest-preserved-in-Ok-Some : goal.loop-rest-preserved-in-Ok-Some
loop-rest-preserved-in-Ok-Some c =
    read_on c.args.bytes.now c.loop-rest.rest.now c.in-Ok-Some.behind.now c.loop-rest.draft c.take_spaced.new.self c.loop-rest.number c.loop-rest.invariant
    (rw c.in-Ok-Some.field-0-is at c.in-Ok-Some.ensures).taken c.in-Ok-Some.ensures.valid

pub returns-in-Ok-clause-found : goal.returns-in-Ok-clause-found
returns-in-Ok-clause-found c =
    let none : length c.loop-rest.rest.now ≡ 0 = eqb-true (length c.loop-rest.rest.now) 0 (sym c.loop-rest-test.ensures) in
    let h = ended c.loop-rest.draft (lines c.args.bytes.now) (lines c.loop-rest.rest.now) c.loop-rest.number (no_lines c.loop-rest.rest.now none) c.loop-rest.invariant.others c.loop-rest.invariant.within c.loop-rest.invariant.spelt c.loop-rest.invariant.utf8 in
    (c.in-Ok.ensures.whole.0, c.if-bytes-gt-MOST_BYTES.false, record { utf8 = h.utf8; counted_are = sym h.spelt ∙ c.in-Ok.ensures.whole.1; limits = c.in-Ok.ensures.whole.0 })

pub returns-in-Ok-clause-only : goal.returns-in-Ok-clause-only
returns-in-Ok-clause-only c = λ other spells.
    same_script other c.in-Ok.script spells.limits c.in-Ok.ensures.whole.0 (sym spells.counted_are ∙ (returns-in-Ok-clause-found c).2.counted_are)

pub returns-in-Err-close-clause-refused : goal.returns-in-Err-close-clause-refused
returns-in-Err-close-clause-refused c = λ line kind e.
    let none : length c.loop-rest.rest.now ≡ 0 = eqb-true (length c.loop-rest.rest.now) 0 (sym c.loop-rest-test.ensures) in
    let h = ended c.loop-rest.draft (lines c.args.bytes.now) (lines c.loop-rest.rest.now) c.loop-rest.number (no_lines c.loop-rest.rest.now none) c.loop-rest.invariant.others c.loop-rest.invariant.within c.loop-rest.invariant.spelt c.loop-rest.invariant.utf8 in
    let (at, same) = told_both (c.loop-rest.number + 1) line c.in-Err-close.kind kind e in
    refused_open c.loop-rest.draft c.args.bytes.now c.loop-rest.number line kind c.in-Err-close.kind c.if-bytes-gt-MOST_BYTES.false c.loop-rest.invariant.draft h c.in-Err-close.ensures.open same at

pub returns-in-Err-close-clause-none : goal.returns-in-Err-close-clause-none
returns-in-Err-close-clause-none c = λ line kind e. refused_no_text c.args.bytes.now line kind (returns-in-Err-close-clause-refused c line kind e)

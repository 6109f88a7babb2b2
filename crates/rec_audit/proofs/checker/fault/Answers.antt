-- The contract of `fault`: the rule by which a line that may stand is at fault.
use Rattle.std.proofs.Common.{◌<◌, ℕ, nat_lt, refl, sym, ap, ◌∙◌, subst, arith}
use Rattle.std.specs.List.{All}
use Rattle.std.proofs.lemmas.Bool.{false≢true}
use Rattle.rec_audit.specs.declared.kind.Kind.TheVariants.{Put, Free}
use Rattle.rec_audit.proofs.Telling.{numbers_of, stamp_fault, put_clean, free_clean, other_clean, some_target}
use Rattle.rec_audit.proofs.checker.fault.Goals as goal

pub bounds-numbers-2 : goal.bounds-numbers-2
bounds-numbers-2 c = let n = numbers_of c.args.form c.args.kind Put c.args.numbers.now c.in-Put.is c.requires.stands in omega (arith, n.four)

pub returns-then-new-eq0-clause-none : goal.returns-then-new-eq0-clause-none
returns-then-new-eq0-clause-none c = λ lines is. put_clean lines c.args.kind c.args.numbers.now c.in-Put.is (λ target opened. false≢true (sym (ap (λ n. nat_lt 0 n) c.if-new-eq0.true) ∙ target))

pub returns-then-has_opened-clause-found : goal.returns-then-has_opened-clause-found
returns-then-has_opened-clause-found c = λ lines is. stamp_fault lines c.args.kind c.args.numbers.now c.in-Put.is (some_target _ c.if-new-eq0.false) (sym (c.has_opened.ensures lines is) ∙ c.if-has_opened.true)

pub returns-else-has_opened-clause-none : goal.returns-else-has_opened-clause-none
returns-else-has_opened-clause-none c = λ lines is. put_clean lines c.args.kind c.args.numbers.now c.in-Put.is (λ target opened. false≢true (sym c.if-has_opened.false ∙ c.has_opened.ensures lines is ∙ opened))

pub reaches-requires-clause-within : goal.reaches-requires-clause-within
reaches-requires-clause-within c =
    let n = numbers_of c.args.form c.args.kind Free c.args.numbers.now c.in-Free.is c.requires.stands in
    subst (λ (k : ℕ). All (λ m. m < k) c.args.numbers.now) (sym c.requires.size) n.slots

pub returns-then-found-clause-found : goal.returns-then-found-clause-found
returns-then-found-clause-found c = λ lines is. record { kind = c.in-Free.is; reached = c.in_ok-found-in-Free.ensures.reached lines is c.if-found.true }

pub returns-else-found-clause-none : goal.returns-else-found-clause-none
returns-else-found-clause-none c = λ lines is. free_clean lines c.args.kind c.args.numbers.now c.in-Free.is (c.in_ok-found-in-Free.ensures.unreached lines is c.if-found.false)

pub returns-in_default : goal.returns-in_default
returns-in_default c = record { sized = c.requires.sized; size = refl; graph = λ lines is. is; found = tt; none = λ lines is. other_clean lines c.args.kind c.args.numbers.now c.in_default.not-Put c.in_default.not-Free }

-- The contract of `longer`: a command whose name has more than three letters, behind the first four.
use Rattle.std.proofs.Common.{◌≡◌, ℕ, Bool, List, ◌++◌, true, nat_eq, sym, ap, ◌∙◌}
use Rattle.std.proofs.lemmas.Option.{IfSome_then}
use Rattle.std.specs.Cmp.Lexicographic.{pointwise, same_text}
use Rattle.rec_script.proofs.spaced.longer.Goals as goal

-- what begins with a name that is these letters begins with them
lettered : (same : Bool) (name letters rest line : List ℕ) → same ≡ true → same ≡ pointwise nat_eq name letters → letters ++ rest ≡ line → name ++ rest ≡ line
lettered same name letters rest line tested is h = ap (λ (front : List ℕ). front ++ rest) (same_text name letters (sym tested ∙ is)) ∙ h

pub null-requires : goal.null-requires
null-requires c = c.requires.registers

pub copy-requires : goal.copy-requires
copy-requires c = c.requires.registers

pub value-requires : goal.value-requires
value-requires c = c.requires.registers

pub same-requires : goal.same-requires
same-requires c = c.requires.registers

pub leaf-requires : goal.leaf-requires
leaf-requires c = c.requires.registers

pub returns-then-eq-clause-found : goal.returns-then-eq-clause-found
returns-then-eq-clause-found c = IfSome_then c.null.result c.null.ensures.found (λ x. lettered c.eq.result c.args.name.now _ c.args.rest.now _ c.if-eq.true c.eq.ensures)

pub returns-then-eq-clause-in_range : goal.returns-then-eq-clause-in_range
returns-then-eq-clause-in_range c = c.null.ensures.in_range

pub returns-then-eq-clause-allowed : goal.returns-then-eq-clause-allowed
returns-then-eq-clause-allowed c = c.null.ensures.allowed c.args.version c.requires.version.some

pub returns-then-eq-2-clause-found : goal.returns-then-eq-2-clause-found
returns-then-eq-2-clause-found c = IfSome_then c.copy.result c.copy.ensures.found (λ x. lettered c.eq-else-eq.result c.args.name.now _ c.args.rest.now _ c.if-eq-2.true c.eq-else-eq.ensures)

pub returns-then-eq-2-clause-in_range : goal.returns-then-eq-2-clause-in_range
returns-then-eq-2-clause-in_range c = c.copy.ensures.in_range

pub returns-then-eq-2-clause-allowed : goal.returns-then-eq-2-clause-allowed
returns-then-eq-2-clause-allowed c = c.copy.ensures.allowed c.args.version c.requires.version.some

pub returns-then-eq-3-clause-found : goal.returns-then-eq-3-clause-found
returns-then-eq-3-clause-found c = IfSome_then c.value.result c.value.ensures.found (λ x. lettered c.eq-else-eq-2.result c.args.name.now _ c.args.rest.now _ c.if-eq-3.true c.eq-else-eq-2.ensures)

pub returns-then-eq-3-clause-in_range : goal.returns-then-eq-3-clause-in_range
returns-then-eq-3-clause-in_range c = c.value.ensures.in_range

pub returns-then-eq-3-clause-allowed : goal.returns-then-eq-3-clause-allowed
returns-then-eq-3-clause-allowed c = c.value.ensures.allowed c.args.version c.requires.version.some

pub returns-then-eq-4-clause-found : goal.returns-then-eq-4-clause-found
returns-then-eq-4-clause-found c = IfSome_then c.same.result c.same.ensures.found (λ x. lettered c.eq-else-eq-3.result c.args.name.now _ c.args.rest.now _ c.if-eq-4.true c.eq-else-eq-3.ensures)

pub returns-then-eq-4-clause-in_range : goal.returns-then-eq-4-clause-in_range
returns-then-eq-4-clause-in_range c = c.same.ensures.in_range

pub returns-then-eq-4-clause-allowed : goal.returns-then-eq-4-clause-allowed
returns-then-eq-4-clause-allowed c = c.same.ensures.allowed c.args.version c.requires.version.some

pub returns-then-eq-5-clause-found : goal.returns-then-eq-5-clause-found
returns-then-eq-5-clause-found c = IfSome_then c.leaf.result c.leaf.ensures.found (λ x. lettered c.eq-then-version-ge2.result c.args.name.now _ c.args.rest.now _ c.if-eq-5.true c.eq-then-version-ge2.ensures)

pub returns-then-eq-5-clause-in_range : goal.returns-then-eq-5-clause-in_range
returns-then-eq-5-clause-in_range c = c.leaf.ensures.in_range

pub returns-then-eq-5-clause-allowed : goal.returns-then-eq-5-clause-allowed
returns-then-eq-5-clause-allowed c = c.leaf.ensures.allowed c.args.version c.if-version-ge2.true

-- The contract of `spaced_command`: a command at the front, spaced, and what is behind its line.
use Rattle.std.proofs.Common.{◌≡◌, ℕ, Bool, List, ◌++◌, true, nat_eq, take, drop, sym, ap, ◌∙◌}
use Rattle.std.proofs.lemmas.List.{take-append-drop}
use Rattle.std.proofs.lemmas.Option.{IfSome_then}
use Rattle.std.specs.Cmp.Lexicographic.{pointwise, same_text}
use Rattle.rec_script.proofs.spaced.spaced_command.Goals as goal

-- what is split behind its fourth byte is both parts
joined : (bytes name rest : List ℕ) → name ≡ take 4 bytes → rest ≡ drop 4 bytes → bytes ≡ name ++ rest
joined bytes name rest first second = rw (first, second) (sym (take-append-drop 4 bytes))

-- bytes whose first four are these letters, and whose others are this line
lettered : (bytes name rest : List ℕ) (same : Bool) (letters line : List ℕ) → name ≡ take 4 bytes → rest ≡ drop 4 bytes
    → same ≡ true → same ≡ pointwise nat_eq name letters → rest ≡ line → bytes ≡ letters ++ line
lettered bytes name rest same letters line first second tested is h =
    joined bytes name rest first second ∙ ap (λ (front : List ℕ). front ++ rest) (same_text name letters (sym tested ∙ is)) ∙ ap (λ (behind : List ℕ). letters ++ behind) h

pub birth-requires : goal.birth-requires
birth-requires c = c.requires.registers

pub longer-requires-clause-version : goal.longer-requires-clause-version
longer-requires-clause-version c = c.requires.version

pub longer-requires-clause-registers : goal.longer-requires-clause-registers
longer-requires-clause-registers c = c.requires.registers

pub returns-in-Some-three_operands-clause-found : goal.returns-in-Some-three_operands-clause-found
returns-in-Some-three_operands-clause-found c =
    lettered c.args.bytes.now c.in-Some.name.now c.in-Some.rest.now c.eq.result _ _ c.in-Some.ensures.cases.0 c.in-Some.ensures.cases.1 c.if-eq.true c.eq.ensures c.in-Some-three_operands.ensures.found

pub returns-in-Some-three_operands-clause-in_range : goal.returns-in-Some-three_operands-clause-in_range
returns-in-Some-three_operands-clause-in_range c = (c.in-Some-three_operands.ensures.below, tt)

pub returns-in-Some-three_operands-clause-allowed : goal.returns-in-Some-three_operands-clause-allowed
returns-in-Some-three_operands-clause-allowed c = c.requires.version.some

pub returns-in-Some-three_operands-2-clause-found : goal.returns-in-Some-three_operands-2-clause-found
returns-in-Some-three_operands-2-clause-found c =
    lettered c.args.bytes.now c.in-Some.name.now c.in-Some.rest.now c.eq-else-eq.result _ _ c.in-Some.ensures.cases.0 c.in-Some.ensures.cases.1 c.if-eq-2.true c.eq-else-eq.ensures c.in-Some-three_operands-2.ensures.found

pub returns-in-Some-three_operands-2-clause-in_range : goal.returns-in-Some-three_operands-2-clause-in_range
returns-in-Some-three_operands-2-clause-in_range c = (c.in-Some-three_operands-2.ensures.below, tt)

pub returns-in-Some-three_operands-2-clause-allowed : goal.returns-in-Some-three_operands-2-clause-allowed
returns-in-Some-three_operands-2-clause-allowed c = c.requires.version.some

pub returns-in-Some-birth-clause-found : goal.returns-in-Some-birth-clause-found
returns-in-Some-birth-clause-found c =
    lettered c.args.bytes.now c.in-Some.name.now c.in-Some.rest.now c.eq-else-eq-2.result _ _ c.in-Some.ensures.cases.0 c.in-Some.ensures.cases.1 c.if-eq-3.true c.eq-else-eq-2.ensures c.in-Some-birth.ensures.found

pub returns-in-Some-birth-clause-in_range : goal.returns-in-Some-birth-clause-in_range
returns-in-Some-birth-clause-in_range c = c.in-Some-birth.ensures.below

pub returns-in-Some-birth-clause-allowed : goal.returns-in-Some-birth-clause-allowed
returns-in-Some-birth-clause-allowed c = c.requires.version.some

pub returns-else-eq-3-clause-found : goal.returns-else-eq-3-clause-found
returns-else-eq-3-clause-found c =
    let front = joined c.args.bytes.now c.in-Some.name.now c.in-Some.rest.now c.in-Some.ensures.cases.0 c.in-Some.ensures.cases.1 in
    IfSome_then c.longer.result c.longer.ensures.found (λ x h. front ∙ h)

pub returns-else-eq-3-clause-in_range : goal.returns-else-eq-3-clause-in_range
returns-else-eq-3-clause-in_range c = c.longer.ensures.in_range c.args.fields

pub returns-else-eq-3-clause-allowed : goal.returns-else-eq-3-clause-allowed
returns-else-eq-3-clause-allowed c = c.longer.ensures.allowed

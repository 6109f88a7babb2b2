-- The image ends behind the line `end` that was found, or it is all.
use Rattle.std.proofs.Common.{◌≡◌, ◌≢◌, ◌∙◌, ◌++◌, Bor, ◌<◌, ◌≤◌, ◌==◌, true, false, None, Option, Some, ℕ, List, ap, get_or, length, sym, subst, arith}
use Rattle.std.specs.Option.{MatchOption, is_some}
use Rattle.std.proofs.lemmas.Bool.{false≢true}
use Rattle.rec_image.specs.Image.{end_line}
use Rattle.rec_image.proofs.Pieces.{found_piece, match_then, no_piece}
use Rattle.rec_run.proofs.Cutting.{found_nowhere, found_there, sought_first, sought_further}
use Rattle.rec_run.proofs.resuming.image_length.Goals as goal
use Rattle.rec_run.proofs.resuming.image_length.Goals.{After-is_some}

-- what a match says of a value that is there
some_of : {X : Type 0} (P : Type 0) (Q : X → Type 0) (o : Option X) → MatchOption o P Q → is_some o ≡ true → (x : X) × Q x
some_of P Q None m there = absurd (false≢true there)
some_of P Q (Some x) m there = (x, m)

-- and where none is
none_of : {X : Type 0} (P : Type 0) (Q : X → Type 0) (o : Option X) → MatchOption o P Q → is_some o ≡ false → P
none_of P Q None m none = m
none_of P Q (Some x) m none = absurd (false≢true (sym none))

-- whether a line `end` begins there
abbrev Begins : List ℕ → Bor (List ℕ) → Type 0
Begins rest behind = rest ≡ end_line ++ behind.now

abbrev BeginsNone : List ℕ → Type 0
BeginsNone rest = (t : List ℕ) → rest ≢ end_line ++ t

matched : (c : After-is_some) → MatchOption c.strip_prefix.result (BeginsNone c.split_at.result.1.now) (Begins c.split_at.result.1.now)
matched c = match_then c.strip_prefix.result c.strip_prefix.ensures.cases (no_piece end_line c.split_at.result.1.now) (λ x q. found_piece end_line c.split_at.result.1.now q.0 ∙ ap (λ (xs : List ℕ). end_line ++ xs) (sym q.1))

pub loop-at-init : goal.loop-at-init
loop-at-init c = sought_first c.args.bytes.now

pub returns-then-is_some-clause-cut : goal.returns-then-is_some-clause-cut
returns-then-is_some-clause-cut c =
    let rest : List ℕ = c.split_at.result.1.now in
    let (behind, is) = some_of (BeginsNone rest) (Begins rest) c.strip_prefix.result (matched (goal.at.returns-then-is_some-clause-cut c).After-is_some) (sym c.is_some.ensures ∙ c.if-is_some.true) in
    found_there c.args.bytes.now behind.now c.loop-at.at c.loop-at.invariant (omega (arith, c.loop-at-test.true)) (sym c.split_at.ensures.back ∙ is)

pub loop-at-preserved : goal.loop-at-preserved
loop-at-preserved c =
    let n : ℕ = c.line_length.result in
    let rest : List ℕ = c.split_at.result.1.now in
    let back = c.split_at.ensures.back in
    let other : BeginsNone rest = none_of (BeginsNone rest) (Begins rest) c.strip_prefix.result (matched (goal.at.loop-at-preserved c).After-is_some) (sym c.is_some.ensures ∙ c.if-is_some.false) in
    sought_further c.args.bytes.now c.loop-at.at n c.loop-at.invariant (omega (arith, c.loop-at-test.true)) (λ behind is. other behind (back ∙ is))
    (subst (λ (xs : List ℕ). n ≤ length xs) back c.line_length.ensures.within)
    (subst (λ (xs : List ℕ). (k : ℕ) → k < n → (get_or xs k 0 == 10) ≡ false) back c.line_length.ensures.before)
    (subst (λ (xs : List ℕ). n < length xs → (get_or xs n 0 == 10) ≡ true) back c.line_length.ensures.behind)

pub returns-clause-cut : goal.returns-clause-cut
returns-clause-cut c = found_nowhere c.args.bytes.now c.loop-at.at c.loop-at.invariant (omega (arith, c.loop-at-test.false))

-- The contract of `add_to_script`: a script with one line more that counts, of this first word and what is behind it.
use Rattle.std.proofs.Common.{◌≡◌, ◌≤◌, ◌<◌, ℕ, List, [], ◌∷◌, ◌++◌, Result, Ok, Err, refl, sym, ap, subst, ◌∙◌}
use Rattle.std.specs.Result.{IfOk, IsErrAnd, MatchResult}
use Rattle.rec_model.specs.declared.limits.TheConstants.{MOST_COMMANDS}
use Rattle.rec_script.specs.Lines.{words}
use Rattle.rec_script.specs.Script.{Allows, Fits, IsBadCommand, IsCommand, IsVersion, most_mutators, spelled}
use Rattle.rec_script.specs.declared.error.Kind.TheVariants.{BadCommand}
use Rattle.rec_script.proofs.Commands.{is_not}
use Rattle.rec_script.proofs.Faults.{told, fits_command}
use Rattle.rec_script.proofs.draft.add_to_script.Goals as goal

-- what holds of a value holds of it where an error became another
kept : {T D E : Type 0} (Q : D → E → Type 0) (P : T → Type 0) (r : Result T D) (q : Result T E) → MatchResult r (λ x. q ≡ Ok x) (λ d. IsErrAnd q (Q d)) → IfOk r P → IfOk q P
kept Q P (Ok x) q is h = subst (λ y. IfOk y P) (sym is) h
kept Q P (Err d) (Err e) is h = tt
kept Q P (Err d) (Ok x) is h = absurd is

-- one line more, said in another way
reworded : {T E : Type 0} (r : Result T E) (new old : List (List (List ℕ))) (line other : List (List ℕ)) → other ≡ line → IfOk r (λ x. new ≡ old ++ line ∷ []) → IfOk r (λ x. new ≡ old ++ other ∷ [])
reworded r new old line other same h = subst (λ (l : List (List ℕ)). IfOk r (λ x. new ≡ old ++ l ∷ [])) (sym same) h

pub returns-then-mutators-most_mutators-clause-refused : goal.returns-then-mutators-most_mutators-clause-refused
returns-then-mutators-most_mutators-clause-refused c = λ line kind e.
    told (Fits (spelled c.args.script.now) (c.args.word.now ∷ words c.args.rest.now)) c.bad.result c.args.number line _ kind c.bad.ensures e
    (Fits.too_many_mutators c.args.script.now c.mutators.ensures.valid refl (c.is_mutator.ensures.0 c.if-is_mutator.true) (sym c.mutators.ensures.value ∙ c.if-mutators-most_mutators.true ∙ c.most_mutators.ensures ∙ ap most_mutators c.version.ensures.value))

pub returns-then-has_left-clause-refused : goal.returns-then-has_left-clause-refused
returns-then-has_left-clause-refused c = λ line kind e.
    told (Fits (spelled c.args.script.now) (c.args.word.now ∷ words c.args.rest.now)) c.bad-then-has_left.result c.args.number line _ kind c.bad-then-has_left.ensures e
    (Fits.bad_command c.args.script.now BadCommand c.has_left.ensures.valid refl (is_not _ _ c.is_mutator.ensures c.if-is_mutator.false) (IsBadCommand.gone (c.has_left.ensures.value.0 c.if-has_left.true)))

pub returns-in-Err-clause-refused : goal.returns-in-Err-clause-refused
returns-in-Err-clause-refused c = λ line kind e.
    told (Fits (spelled c.args.script.now) (c.args.word.now ∷ words c.args.rest.now)) c.bad-in-Err.result c.args.number line _ kind c.bad-in-Err.ensures e
    (fits_command c.args.script.now c.version-2.result c.registers.result c.fields.result c.last.result (c.args.word.now ∷ words c.args.rest.now) _ c.registers.ensures.valid c.version-2.ensures.value c.registers.ensures.value c.fields.ensures.value c.last.ensures.value
    (is_not _ _ c.is_mutator.ensures c.if-is_mutator.false) (is_not _ _ c.has_left.ensures.value c.if-has_left.false) c.in-Err.ensures.wrong)

pub returns-then-mutators-most_mutators-clause-valid : goal.returns-then-mutators-most_mutators-clause-valid
returns-then-mutators-most_mutators-clause-valid c = c.mutators.ensures.valid

pub returns-then-is_mutator-clause-valid : goal.returns-then-is_mutator-clause-valid
returns-then-is_mutator-clause-valid c = c.add_mutator.ensures.valid

pub returns-then-has_left-clause-valid : goal.returns-then-has_left-clause-valid
returns-then-has_left-clause-valid c = c.has_left.ensures.valid

pub command-requires-clause-version : goal.command-requires-clause-version
command-requires-clause-version c = subst IsVersion (sym c.version-2.ensures.value) c.version-2.ensures.valid.version

pub command-requires-clause-few : goal.command-requires-clause-few
command-requires-clause-few c = c.last.ensures.most

pub command-requires-clause-registers : goal.command-requires-clause-registers
command-requires-clause-registers c = subst (λ (n : ℕ). n ≤ 64) (sym c.registers.ensures.value) c.registers.ensures.valid.heap.most_registers

pub command-requires-clause-fields : goal.command-requires-clause-fields
command-requires-clause-fields c = subst (λ (n : ℕ). n ≤ 16) (sym c.fields.ensures.value) c.fields.ensures.valid.heap.most_fields

pub returns-in-Err-clause-valid : goal.returns-in-Err-clause-valid
returns-in-Err-clause-valid c = c.last.ensures.valid

pub add-requires-clause-allowed : goal.add-requires-clause-allowed
add-requires-clause-allowed c = subst (λ (n : ℕ). Allows n c.in-Ok.cmd) c.version-2.ensures.value c.in-Ok.ensures.allowed

pub add-requires-clause-in_range : goal.add-requires-clause-in_range
add-requires-clause-in_range c =
    subst (λ (n : ℕ). IsCommand n c.args.script.now.fields c.in-Ok.cmd) c.registers.ensures.value
    (subst (λ (n : ℕ). IsCommand c.registers.result n c.in-Ok.cmd) c.fields.ensures.value c.in-Ok.ensures.in_range)

pub add-requires-clause-room : goal.add-requires-clause-room
add-requires-clause-room c = subst (λ (n : ℕ). n < MOST_COMMANDS) c.last.ensures.value c.in-Ok.ensures.room

pub add-requires-clause-stays : goal.add-requires-clause-stays
add-requires-clause-stays c = is_not _ _ c.has_left.ensures.value c.if-has_left.false

pub returns-clause-valid : goal.returns-clause-valid
returns-clause-valid c = c.add.ensures.valid

pub returns-then-is_mutator-clause-more : goal.returns-then-is_mutator-clause-more
returns-then-is_mutator-clause-more c =
    kept _ _ c.add_mutator.result c.map_err.result c.map_err.ensures.cases
    (reworded c.add_mutator.result (spelled c.add_mutator.new.self) (spelled c.args.script.now) _ _ (c.is_mutator.ensures.0 c.if-is_mutator.true) c.add_mutator.ensures.more)

pub returns-clause-more : goal.returns-clause-more
returns-clause-more c =
    kept _ _ c.add.result c.map_err-2.result c.map_err-2.ensures.cases
    (reworded c.add.result (spelled c.add.new.self) (spelled c.args.script.now) _ _ c.in-Ok.ensures.right c.add.ensures.more)

-- The contract of `read_after`: the mutators that bytes spell behind a heap that is told before.
use Rattle.std.proofs.Common.{◌≡◌, ◌==◌, ◌<◌, ◌+◌, ◌∙◌, ℕ, zero, suc, false, Err, length, ap, arith, subst, sym}
use Rattle.std.proofs.lemmas.Bool.{eqb-true, false≢true}
use Rattle.rec_script.specs.declared.error.Kind.{Kind}
use Rattle.rec_script.specs.declared.error.ScriptError.{ScriptError}
use Rattle.rec_script.specs.declared.error.ScriptError.TheVariants.{Bad}
use Rattle.rec_script.specs.declared.error.Kind.TheVariants.{TooManyMutators}
use Rattle.rec_script.specs.Behind.{BeginsMutator, IsRefusedBehind, Numbers, SpellsMutators, mutators_in}
use Rattle.rec_script.specs.Lines.{lines}
use Rattle.rec_script.specs.Script.{IsNeed, most_mutators}
use Rattle.rec_script.specs.Drafts.{so_far}
use Rattle.rec_script.proofs.Behinds.{read_further, refused_end, refused_mutator, refused_none, refused_words, spells_closed, third}
use Rattle.rec_script.proofs.Faults.{no_error, no_line, told_both, told_error}
use Rattle.rec_script.proofs.Endings.{no_lines}
use Rattle.rec_script.proofs.behind.read_after.Goals as goal
use Rattle.rec_script.proofs.behind.read_after.Goals.{In-Ok-close, else-from-mutators-via-then-from-mutators+else-begins_mutator, else-from-mutators-via-else-from-mutators}

-- a byte is left
some_left : (n : ℕ) → false ≡ (n == 0) → 0 < n
some_left zero h = absurd (false≢true h)
some_left (suc n) h = omega arith

pub begins_mutator-requires : goal.begins_mutator-requires
begins_mutator-requires c = some_left _ c.loop-rest-test.ensures

pub take_words-requires-clause-draft : goal.take_words-requires-clause-draft
take_words-requires-clause-draft c = c.loop-rest.invariant.draft

pub take_words-requires-clause-some : goal.take_words-requires-clause-some
take_words-requires-clause-some c = some_left _ c.loop-rest-test.ensures

pub close-requires : goal.close-requires
close-requires c = c.loop-rest.invariant.draft

pub returns-in-Ok-fill-clause-refused : goal.returns-in-Ok-fill-clause-refused
returns-in-Ok-fill-clause-refused c = λ number kind e. absurd (no_error _ _ e)

pub returns-in-Ok-fill-clause-none : goal.returns-in-Ok-fill-clause-none
returns-in-Ok-fill-clause-none c = λ number kind e. absurd (no_error _ _ e)

pub returns-in-Err-fill-clause-refused : goal.returns-in-Err-fill-clause-refused
returns-in-Err-fill-clause-refused c = λ number kind e. absurd (no_line _ _ e)

pub returns-in-Err-fill-clause-none : goal.returns-in-Err-fill-clause-none
returns-in-Err-fill-clause-none c = λ number kind e. absurd (no_line _ _ e)

pub returns-then-begins_mutator-clause-refused : goal.returns-then-begins_mutator-clause-refused
returns-then-begins_mutator-clause-refused c = λ number kind e.
    let h : Numbers = record { slots = c.args.slots; fields = c.args.fields; registers = c.args.registers; mutators = c.args.mutators } in
    let (at, same) = told_both (c.args.line + c.loop-rest.number + 1) number TooManyMutators kind e in
    let full : mutators_in c.loop-rest.draft ≡ c.args.mutators = omega (arith, c.mutators.ensures, c.from.ensures) in
    subst (λ (k : Kind). IsRefusedBehind h c.args.bytes.now c.args.line number k) same
    (refused_mutator h c.args.bytes.now c.loop-rest.rest.now c.loop-rest.draft c.loop-rest.number c.args.line number c.requires.some c.loop-rest.invariant at (c.begins_mutator.ensures.0 c.if-begins_mutator.true) full)

pub returns-then-begins_mutator-clause-none : goal.returns-then-begins_mutator-clause-none
returns-then-begins_mutator-clause-none c = λ number kind e.
    refused_none (record { slots = c.args.slots; fields = c.args.fields; registers = c.args.registers; mutators = c.args.mutators }) c.args.bytes.now c.args.line number kind (returns-then-begins_mutator-clause-refused c number kind e)

pub returns-in-Err-clause-refused : goal.returns-in-Err-clause-refused
returns-in-Err-clause-refused c = λ number kind e.
    let h : Numbers = record { slots = c.args.slots; fields = c.args.fields; registers = c.args.registers; mutators = c.args.mutators } in
    let was : c.in-Err.error ≡ Bad number kind = told_error c.in-Err.error (Bad number kind) e in
    let wrong = c.in-Err.ensures.refused number kind (ap (λ (x : ScriptError). Err x) was) in
    refused_words h c.args.bytes.now c.loop-rest.rest.now c.loop-rest.draft c.loop-rest.number c.args.line number kind c.requires.some c.loop-rest.invariant wrong.0 wrong.1

pub returns-in-Err-clause-none : goal.returns-in-Err-clause-none
returns-in-Err-clause-none c = λ number kind e.
    refused_none (record { slots = c.args.slots; fields = c.args.fields; registers = c.args.registers; mutators = c.args.mutators }) c.args.bytes.now c.args.line number kind (returns-in-Err-clause-refused c number kind e)

pub loop-rest-preserved : goal.loop-rest-preserved
loop-rest-preserved c =
    let h : Numbers = record { slots = c.args.slots; fields = c.args.fields; registers = c.args.registers; mutators = c.args.mutators } in
    let fewer : BeginsMutator (lines c.loop-rest.rest.now) → mutators_in c.loop-rest.draft < c.args.mutators
    = λ begins. elim c.else-from-mutators.branch [
      | else-from-mutators-via-then-from-mutators+else-begins_mutator w ↦ absurd (false≢true (sym w.if-begins_mutator.false ∙ w.begins_mutator.ensures.1 begins))
      | else-from-mutators-via-else-from-mutators w ↦ omega (arith, c.mutators.ensures, c.from.ensures, c.loop-rest.invariant.mutators, w.if-from-mutators.false)
    ] in
    read_further h c.args.bytes.now c.loop-rest.rest.now c.in-Ok.behind.now c.loop-rest.draft c.take_words.new.self c.loop-rest.number c.requires.some c.loop-rest.invariant c.in-Ok.ensures.taken c.in-Ok.ensures.valid fewer

-- what was read spells the script that it is closed to
spells : (c : In-Ok-close) → SpellsMutators (record { slots = c.args.slots; fields = c.args.fields; registers = c.args.registers; mutators = c.args.mutators }) (lines c.args.bytes.now) c.in-Ok-close.script
spells c =
    let h : Numbers = record { slots = c.args.slots; fields = c.args.fields; registers = c.args.registers; mutators = c.args.mutators } in
    let none : length c.loop-rest.rest.now ≡ 0 = eqb-true (length c.loop-rest.rest.now) 0 (sym c.loop-rest-test.ensures) in
    spells_closed h c.args.bytes.now c.loop-rest.rest.now c.loop-rest.draft c.loop-rest.number c.in-Ok-close.script c.loop-rest.invariant (no_lines c.loop-rest.rest.now none) c.in-Ok-close.ensures.whole.0 c.in-Ok-close.ensures.whole.1

pub fill-requires-clause-few : goal.fill-requires-clause-few
fill-requires-clause-few c = (spells c).few

pub fill-requires-clause-most : goal.fill-requires-clause-most
fill-requires-clause-most c =
    let h : Numbers = record { slots = c.args.slots; fields = c.args.fields; registers = c.args.registers; mutators = c.args.mutators } in
    omega (arith, ap most_mutators (third h (lines c.args.bytes.now) c.in-Ok-close.script (spells c)), c.requires.most)

pub returns-in-Ok-fill-clause-found : goal.returns-in-Ok-fill-clause-found
returns-in-Ok-fill-clause-found c = (c.in-Ok-close.script, spells (goal.at.returns-in-Ok-fill-clause-found c).In-Ok-close, c.in-Ok-fill.ensures)

pub returns-in-Err-close-clause-refused : goal.returns-in-Err-close-clause-refused
returns-in-Err-close-clause-refused c = λ number kind e.
    let h : Numbers = record { slots = c.args.slots; fields = c.args.fields; registers = c.args.registers; mutators = c.args.mutators } in
    let none : length c.loop-rest.rest.now ≡ 0 = eqb-true (length c.loop-rest.rest.now) 0 (sym c.loop-rest-test.ensures) in
    let (at, same) = told_both (c.args.line + c.loop-rest.number + 1) number c.in-Err-close.kind kind e in
    refused_end h c.args.bytes.now c.loop-rest.rest.now c.loop-rest.draft c.loop-rest.number c.args.line number kind c.requires.some c.loop-rest.invariant (no_lines c.loop-rest.rest.now none) (subst (IsNeed (so_far c.loop-rest.draft)) same c.in-Err-close.ensures.open) at

pub returns-in-Err-close-clause-none : goal.returns-in-Err-close-clause-none
returns-in-Err-close-clause-none c = λ number kind e.
    refused_none (record { slots = c.args.slots; fields = c.args.fields; registers = c.args.registers; mutators = c.args.mutators }) c.args.bytes.now c.args.line number kind (returns-in-Err-close-clause-refused c number kind e)

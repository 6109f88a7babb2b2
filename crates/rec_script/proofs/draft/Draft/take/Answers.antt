-- The contract of `Draft::take`: takes a line.
use Rattle.std.proofs.Common.{[], ◌∷◌}
use Rattle.rec_script.specs.Lines.{words}
use Rattle.rec_script.specs.Script.{IsFault}
use Rattle.rec_script.specs.Drafts.{so_far}
use Rattle.rec_script.proofs.Commands.{is_not}
use Rattle.rec_script.proofs.Faults.{no_error, told, fault_of_words}
use Rattle.rec_script.proofs.Plainness.{utf8_of_words, taken_utf8}
use Rattle.rec_script.proofs.draft.Draft.take.Goals as goal

pub returns-in_default-clause-utf8 : goal.returns-in_default-clause-utf8
returns-in_default-clause-utf8 c = utf8_of_words c.args.line.now [] c.in_default.ensures.none tt

pub returns-then-word-eq35-clause-refused : goal.returns-then-word-eq35-clause-refused
returns-then-word-eq35-clause-refused c = λ at kind e.
    told (IsFault (so_far c.args.self.now) c.args.line.now) c.bad.result c.args.number at _ kind c.bad.ensures e
    (IsFault.not_utf8 (is_not _ _ c.is_utf8.ensures c.if-is_utf8.false))

pub returns-in-Ok-clause-utf8 : goal.returns-in-Ok-clause-utf8
returns-in-Ok-clause-utf8 c = taken_utf8 c.add.new.self (so_far c.args.self.now) c.args.line.now (c.in-Some.word.now ∷ words c.in-Some.rest.now) c.in-Ok.ensures.valid c.in-Ok.ensures.more c.in-Some.ensures.some

pub returns-then-is_utf8-2-clause-refused : goal.returns-then-is_utf8-2-clause-refused
returns-then-is_utf8-2-clause-refused c = λ at kind e.
    let h = c.in-Err.ensures.refused at kind e in
    (h.0, fault_of_words (so_far c.args.self.now) c.args.line.now c.in-Some.word.now (words c.in-Some.rest.now) kind (c.is_utf8-in-Err.ensures.0 c.if-is_utf8-2.true) c.in-Some.ensures.some c.if-word-eq35.false h.1)

pub returns-else-is_utf8-2-clause-refused : goal.returns-else-is_utf8-2-clause-refused
returns-else-is_utf8-2-clause-refused c = λ at kind e.
    told (IsFault (so_far c.args.self.now) c.args.line.now) c.bad-else-is_utf8-2.result c.args.number at _ kind c.bad-else-is_utf8-2.ensures e
    (IsFault.not_utf8 (is_not _ _ c.is_utf8-in-Err.ensures c.if-is_utf8-2.false))

pub returns-then-is_utf8-clause-utf8 : goal.returns-then-is_utf8-clause-utf8
returns-then-is_utf8-clause-utf8 c = c.is_utf8.ensures.0 c.if-is_utf8.true

pub add-requires : goal.add-requires
add-requires c = c.requires

pub returns-in-Ok-clause-valid : goal.returns-in-Ok-clause-valid
returns-in-Ok-clause-valid c = c.in-Ok.ensures.valid

pub returns-in_default-clause-valid : goal.returns-in_default-clause-valid
returns-in_default-clause-valid c = c.requires

pub returns-then-is_utf8-clause-valid : goal.returns-then-is_utf8-clause-valid
returns-then-is_utf8-clause-valid c = c.requires

pub returns-in_default-clause-refused : goal.returns-in_default-clause-refused
returns-in_default-clause-refused c = λ at kind e. absurd (no_error _ _ e)

pub returns-then-is_utf8-clause-refused : goal.returns-then-is_utf8-clause-refused
returns-then-is_utf8-clause-refused c = λ at kind e. absurd (no_error _ _ e)

pub returns-in-Ok-clause-refused : goal.returns-in-Ok-clause-refused
returns-in-Ok-clause-refused c = λ at kind e. absurd (no_error _ _ e)

-- The contract of `Draft::add`: takes a line that counts, of this first word and what is behind it.
use Rattle.std.proofs.Common.{◌∷◌, subst}
use Rattle.rec_script.specs.Lines.{words}
use Rattle.rec_script.specs.Script.{Fits}
use Rattle.rec_script.specs.Drafts.{IsDraft, so_far}
use Rattle.rec_script.proofs.Commands.{is_not}
use Rattle.rec_script.proofs.Faults.{no_error, told, fits_nothing, fits_header, fits_sized, fits_whole}
use Rattle.rec_script.proofs.draft.Draft.add.Goals as goal

pub returns-in_default-clause-refused : goal.returns-in_default-clause-refused
returns-in_default-clause-refused c = λ line kind e.
    told (Fits (so_far c.args.self.now) (c.args.word.now ∷ words c.args.rest.now)) c.bad.result c.args.number line _ kind c.bad.ensures e
    (fits_nothing c.args.self.now (c.args.word.now ∷ words c.args.rest.now) c.in-Nothing.is c.in_default.ensures.none)

pub returns-in_default-read_heap-clause-refused : goal.returns-in_default-read_heap-clause-refused
returns-in_default-read_heap-clause-refused c = λ line kind e.
    told (Fits (so_far c.args.self.now) (c.args.word.now ∷ words c.args.rest.now)) c.bad-in_default-read_heap.result c.args.number line _ kind c.bad-in_default-read_heap.ensures e
    (fits_header c.args.self.now _ (c.args.word.now ∷ words c.args.rest.now) c.in-Header.is c.requires c.in_default-read_heap.ensures.none)

pub returns-then-not-is_mutator-clause-refused : goal.returns-then-not-is_mutator-clause-refused
returns-then-not-is_mutator-clause-refused c = λ line kind e.
    told (Fits (so_far c.args.self.now) (c.args.word.now ∷ words c.args.rest.now)) c.bad-then-not-is_mutator.result c.args.number line _ kind c.bad-then-not-is_mutator.ensures e
    (fits_sized c.args.self.now _ _ (c.args.word.now ∷ words c.args.rest.now) c.in-Sized.is c.requires (is_not _ _ c.is_mutator.ensures c.if-not-is_mutator.true))

pub returns-in-Whole-clause-refused : goal.returns-in-Whole-clause-refused
returns-in-Whole-clause-refused c = λ line kind e.
    let h = c.add_to_script.ensures.refused line kind e in
    (h.0, fits_whole c.args.self.now _ (c.args.word.now ∷ words c.args.rest.now) kind c.in-Whole.is h.1)

pub open-script-requires-clause-version : goal.open-script-requires-clause-version
open-script-requires-clause-version c = (subst IsDraft c.in-Sized.is c.requires).0

pub open-script-requires-clause-heap : goal.open-script-requires-clause-heap
open-script-requires-clause-heap c = (subst IsDraft c.in-Sized.is c.requires).1

pub returns-in-Some-clause-valid : goal.returns-in-Some-clause-valid
returns-in-Some-clause-valid c = c.in-Some.ensures.known

pub returns-in-Some-read_heap-clause-valid : goal.returns-in-Some-read_heap-clause-valid
returns-in-Some-read_heap-clause-valid c = (subst IsDraft c.in-Header.is c.requires, c.in-Some-read_heap.ensures.limits)

pub returns-in-Some-clause-refused : goal.returns-in-Some-clause-refused
returns-in-Some-clause-refused c = λ line kind e. absurd (no_error _ _ e)

pub returns-in-Some-read_heap-clause-refused : goal.returns-in-Some-read_heap-clause-refused
returns-in-Some-read_heap-clause-refused c = λ line kind e. absurd (no_error _ _ e)

pub returns-else-not-is_mutator-clause-refused : goal.returns-else-not-is_mutator-clause-refused
returns-else-not-is_mutator-clause-refused c = λ line kind e. absurd (no_error _ _ e)

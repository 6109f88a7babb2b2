-- A mutator of a heap of bare words, and one of a heap of dated words.
use Rattle.std.specs.Prelude.{false}
use Rattle.rec_word.specs.Bare.{bare}
use Rattle.rec_log.specs.Words.{buffer_by}
use Rattle.rec_log.specs.declared.contents.Contents.{Contents}
use Rattle.rec_model.specs.declared.told.Told.{Told}
use Rattle.rec_mutator.specs.Private.{Private}
use Rattle.rec_mutator.specs.declared.made.Made.{Made}
use Rattle.rec_mutator.specs.declared.made.Made.TheVariants as makes
use Rattle.rec_mutator.specs.declared.phase.Phase.{Phase}
use Rattle.rec_mutator.specs.declared.phase.Phase.TheVariants.{Finished}

-- the buffer with bare words
abbrev pub bare_buffer : Contents → Contents
bare_buffer b = buffer_by bare b

-- what is told with bare words
abbrev pub bare_told : Told → Told
bare_told told = record told { saw = bare told.saw; left = bare told.left }

abbrev pub bare_made : Made → Made
bare_made (makes.Answered told) = makes.Answered (bare_told told)
bare_made (makes.Crossed epoch) = makes.Crossed epoch

abbrev pub bare_phase : Phase → Phase
bare_phase (Finished work made) = Finished work (bare_made made)
bare_phase phase = phase

-- the mutator as it is in a heap of bare words
abbrev pub bare_private : Private → Private
bare_private p = record p { log = bare_buffer p.log; phase = bare_phase p.phase; dates = false }

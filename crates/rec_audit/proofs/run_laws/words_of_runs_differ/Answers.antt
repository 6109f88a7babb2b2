-- The stamps of what is put rise along it.
use Rattle.rec_audit.specs.Journal.{journal}
use Rattle.rec_audit.specs.Keeping.{behind_steps, first_place}
use Rattle.rec_audit.specs.Runs.{heap_for}
use Rattle.rec_audit.proofs.Rising.{from_epoch, journal_rises, no_stamp_fault}
use Rattle.rec_audit.proofs.Runs.{run_keeps}
use Rattle.rec_audit.proofs.run_laws.words_of_runs_differ.Goals as goal

pub returns : goal.returns
returns c = λ config shown end before line after is shows split.
    let keeps = run_keeps config shown end is shows in
    no_stamp_fault (from_epoch config.first_epoch) (from_epoch (behind_steps (first_place (heap_for config)) shown).next) (journal (heap_for config) shown) before after line (journal_rises (heap_for config) shown keeps.keep keeps.stamped) split

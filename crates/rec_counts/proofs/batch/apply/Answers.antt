-- The contract of `apply`: counts a batch.
use Rattle.std.proofs.Common.{◌≡◌, Bool, List, refl, arith}
use Rattle.rec_log.specs.declared.contents.Contents.{Contents}
use Rattle.rec_counts.specs.Counts.{State}
use Rattle.rec_counts.specs.Batch.{applied, batch, IsApplied, IsCovered}
use Rattle.rec_counts.specs.Targets.{told_buffers}
use Rattle.rec_counts.proofs.Touching.{taken_times}
use Rattle.rec_counts.proofs.Told.{told_covered}
use Rattle.rec_counts.proofs.Whole.{is_applied, applied_count}
use Rattle.rec_counts.proofs.batch.apply.Goals as goal

pub count_batch-requires : goal.count_batch-requires
count_batch-requires c =
    let steady : Bool = c.args.steady in
    let newer : List Contents = c.args.newer.now in
    let older : List Contents = c.args.older.now in
    let covered : IsCovered c.args.counts.now (told_buffers steady newer older) (told_buffers steady older newer) = told_covered steady c.args.counts.now newer older c.requires.alike c.requires.covered in
    record {
      told = record { alike = c.requires.alike; in_range = λ x l. omega (arith, c.requires.covered.in_range x l, c.requires.covered.born x l) };
      fits = covered.fits;
      covered = λ x. omega (arith, taken_times x (told_buffers steady older newer), covered.covered x);
      zeros = c.requires.zeros;
    }

pub returns : goal.returns
unfolding batch
returns c =
    let steady : Bool = c.args.steady in
    let s : State = c.args.counts.now in
    let newer : List Contents = c.args.newer.now in
    let older : List Contents = c.args.older.now in
    let e : c.count_batch.new.self ≡ applied steady s newer older = c.count_batch.ensures in
    let is : IsApplied steady s newer older (applied steady s newer older) = is_applied steady s newer older c.requires.zeros c.requires.alike c.requires.covered in
    rw e (record { batch = is; count = λ x. applied_count steady s newer older c.requires.alike is x; order = refl })

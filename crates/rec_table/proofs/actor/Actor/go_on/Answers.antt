-- The contract of `Actor::go_on`: makes the steps of a work that is under way, to its end.
use Rattle.std.proofs.Common.{◌≡◌, ◌++◌, ◌∙◌, None, Some, refl, ap, sym}
use Rattle.rec_table.proofs.Common.{KeepsSizes, beats, MutatorView, told, mutator_now, HasScanned, saw_all}
use Rattle.rec_mutator.specs.declared.work.Work.{Work}
use Rattle.rec_table.proofs.Answering.{busy_still, path_on, path_slots}
use Rattle.rec_table.proofs.Beats.{told_both}
use Rattle.rec_table.proofs.Making.{keeps_on, works_after}
use Rattle.rec_table.proofs.actor.Actor.go_on.Goals as goal

pub loop-made-init : goal.loop-made-init
loop-made-init c = record {
  is = refl;
  work = c.requires.work;
  told = c.requires.told;
  path = λ start p log same path. path;
  grows = λ log works. works;
  same = record { number = refl; slots = refl; fields = refl; registers = refl; capacity = refl; parked = refl };
}

pub scan-requires-clause-busy : goal.scan-requires-clause-busy
scan-requires-clause-busy c = busy_still (mutator_now c.loop-made.self) c.args.work c.loop-made.invariant.work (λ m e. c.in_default.not-Some m (c.answer.ensures.answer ∙ e))

-- the record after a scan is what its list makes up
went : (h h' : MutatorView) (scanned : HasScanned h h') → mutator_now h' ≡ told (mutator_now h) (saw_all scanned.words)
went h h' scanned = ap mutator_now scanned.grows ∙ told_both h.opened h.log (saw_all scanned.words)

pub loop-made-preserved : goal.loop-made-preserved
loop-made-preserved c =
    let i = c.loop-made.invariant in
    let s = c.scan.ensures in
    let e = c.step.ensures in
    let same : KeepsSizes (mutator_now c.loop-made.self) (mutator_now c.step.new.self) = keeps_on (mutator_now c.loop-made.self) (mutator_now c.scan.new.self) (mutator_now c.step.new.self) s.same e.same in
    record {
      is = e.grows ∙ (λ k. record (s.scanned.grows k) { log = c.scan.new.self.log ++ beats None c.step.result }) ∙ (λ k. record (i.is k) { log = sym (ap (λ (h : MutatorView). h.log) e.grows) k });
      work = e.work ∙ s.work ∙ i.work;
      told = e.told;
      path = λ start p log works path.
          path_on start p (mutator_now c.loop-made.self) (mutator_now c.scan.new.self) (mutator_now c.step.new.self) log c.loop-made.self.log c.scan.new.self.log c.step.new.self.log s.scanned.words c.step.result (i.path start p log works path)
          s.busy (s.work ∙ i.work ∙ ap (λ (w : Work). Some w) (sym works)) (ap (λ (h : MutatorView). h.log) s.scanned.grows) s.scanned.learns (went c.loop-made.self c.scan.new.self s.scanned) (ap (λ (h : MutatorView). h.log) e.grows) e.machine e.between
          (s.same.slots ∙ path_slots start p (mutator_now c.loop-made.self) log c.loop-made.self.log (i.path start p log works path)) e.learns s.scanned.steps e.steps;
      grows = λ log works. works_after c.args.work log c.loop-made.self c.scan.new.self c.step.new.self c.step.result s.scanned (ap (λ (h : MutatorView). h.log) e.grows) (i.grows log works);
      same = keeps_on (mutator_now c.args.self.now) (mutator_now c.loop-made.self) (mutator_now c.step.new.self) i.same same;
    }

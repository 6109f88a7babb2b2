-- A started heap's mutators are its own.
use Rattle.std.proofs.Common.{◌≡◌, ◌+◌, ◌%◌, All, refl, subst, sym, arith, IfOk, IfErr}
use Rattle.std.proofs.lemmas.Result.{IfOk-weaker}
use Rattle.rec_table.proofs.Common.{Core, IsWorld, MutatorView, IsMutatorOf}
use Rattle.rec_core.specs.Worked.{AreIdle}
use Rattle.rec_world.specs.Parts.{AreParts}
use Rattle.rec_table.specs.Views.{IsCollectorOf}
use Rattle.rec_table.proofs.heap.Heap.start.Goals as goal

pub returns-in-Ok-clause-mutators : goal.returns-in-Ok-clause-mutators
returns-in-Ok-clause-mutators c =
    IfOk-weaker c.run.result _ _ (λ r m. record {
      all = m.0;
      each = λ k d lt. subst (λ (x : MutatorView). IsMutatorOf r.0 x × (x.number ≡ k + 1)) (sym (m.1 k d lt)) ((refl, (omega arith, omega (arith, lt, m.0)), refl), refl);
    }) c.run.ensures.mutators

pub run-requires : goal.run-requires
run-requires c =
    let same : c.of-was.result.value ≡ c.args.world = c.of-was.ensures in
    record {
      world = subst IsWorld (sym same) c.into_parts-parts.ensures.kept;
      parts = subst (λ (w : Core). AreParts w c.into_parts-parts.result) (sym same) c.into_parts-parts.ensures.parts;
      idle = subst AreIdle (sym same) c.requires.idle;
      home = subst (λ (w : Core). All (λ word. word % 2 ≡ 0) w.crossing) (sym same) c.requires.home;
      boxes = c.in-Ok.ensures.boxes;
      mutators = c.in-Ok.ensures.mutators;
    }

pub returns-in-Ok-clause-started : goal.returns-in-Ok-clause-started
returns-in-Ok-clause-started c = subst (λ (w : Core). IfOk c.run.result (λ r. r.0.world ≡ w)) c.of-was.ensures c.run.ensures.started

pub returns-in-Ok-clause-fresh : goal.returns-in-Ok-clause-fresh
returns-in-Ok-clause-fresh c = IfOk-weaker c.run.result _ _ (λ r m. m.1) c.run.ensures.mutators

pub returns-in-Ok-clause-collector : goal.returns-in-Ok-clause-collector
returns-in-Ok-clause-collector c = IfOk-weaker c.run.result _ _ (λ r m. (subst (IsCollectorOf r.0) (sym m) ((refl, refl), refl, refl), m)) c.run.ensures.collector

pub returns-in-Ok-clause-refused : goal.returns-in-Ok-clause-refused
returns-in-Ok-clause-refused c = subst (λ (w : Core). IfErr c.run.result (λ r. r.0 ≡ w)) c.of-was.ensures c.run.ensures.refused

pub of_parts-requires : goal.of_parts-requires
of_parts-requires c = (c.args.world, (c.into_parts-parts.ensures.kept, c.into_parts-parts.ensures.parts))

pub returns-clause-refused : goal.returns-clause-refused
returns-clause-refused c = c.of_parts.ensures.made c.args.world c.into_parts-parts.ensures.kept c.into_parts-parts.ensures.parts

-- What stopping promises, from the run of all lists.
use Rattle.std.proofs.Common.{◌≡◌, List, length, map, Some, Result, Ok, Err, sym, ap, ◌∙◌, subst, false}
use Rattle.std.specs.Option.{IfSome}
use Rattle.std.specs.Result.{IfOk, result_ok}
use Rattle.std.proofs.lemmas.List.{length-map}
use Rattle.rec_table.proofs.Common.{Core, fit_first, moves_kept, AllFit, after_moves, IsKept, gathered_all, boxes_out, AreMutatorsOf, CollectorView, MutatorView, PutsBack, Started, Beat}
use Rattle.rec_core.specs.Worked.{AreIdle}
use Rattle.rec_table.specs.Ends.{Interleaves, IsStopped}
use Rattle.rec_table.proofs.Journals.{lists_legal}
use Rattle.rec_table.proofs.Named.{run_names_freed}
use Rattle.rec_table.proofs.Safe.{safe}

pub stopped : (s : Started) (g h : CollectorView) (hs : List MutatorView) (w : Core) → IsKept false s.world → AreIdle s.world → g.opened ≡ s.world.collector → AreMutatorsOf s hs → PutsBack g h
    → Interleaves s.world h.collecting.log (map (λ (m : MutatorView). m.log) hs) w → IsStopped s.world g.collecting.log (map (λ (m : MutatorView). m.log) hs) w
stopped s g h hs w kept idle opened mutators back run =
    let lists : List (List Beat) = map (λ (m : MutatorView). m.log) hs in
    let many : length lists ≡ s.world.config.mutators = length-map hs (λ (m : MutatorView). m.log) ∙ mutators.all in
    record {
      returned = back.returned;
      once = back.once;
      home = λ none. back.home (ap (λ p. boxes_out (gathered_all p g.collecting.log)) opened ∙ none);
      run = record {
        run = run.run;
        fit = run.fit;
        offerless = run.offerless;
        ends = run.ends;
        collector = ap (λ (x : CollectorView). x.collecting.log) (sym back.grows) ∙ run.collector;
        mutators = run.mutators;
      };
      order = λ heap number unfreed stands are. lists_legal s.world heap number unfreed run.run lists kept idle stands are run.fit many run.mutators;
      named = λ heap number unfreed stands are.
          run_names_freed s.world heap number unfreed run.run g.collecting.log back.returned kept idle stands are run.fit run.offerless
          (ap (λ (x : CollectorView). x.collecting.log) (sym back.grows) ∙ run.collector) back.once (λ none. back.home (ap (λ p. boxes_out (gathered_all p g.collecting.log)) opened ∙ none));
      always = λ before after is. safe (after_moves s.world before) (moves_kept s.world before kept (fit_first s.world before after (subst (AllFit s.world) (sym is) run.fit)));
    }

-- what is known of a stop's world, where it was taken out of the answer and the refusal left out
pub was_some : {T E : Type 0} (r : Result T E) (P : T → Type 0) (x : T) → result_ok r ≡ Some x → IfOk r P → P x
was_some (Ok y) P x is held = subst (λ o. IfSome o P) is held
was_some (Err e) P x is held = cc

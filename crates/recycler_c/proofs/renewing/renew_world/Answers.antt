-- The contract of `renew_world`: where it doesn't begin anew, the heap is the one that rested.
use Rattle.std.proofs.Common.{◌≡◌, ◌%◌, ◌∙◌, All, Some, refl, sym, ap, subst}
use Rattle.rec_core.specs.Core.{Core}
use Rattle.rec_core.specs.Worked.{AreIdle}
use Rattle.rec_world.specs.World.{IsWorld}
use Rattle.recycler_c.specs.declared.end.End.TheVariants as ends
use Rattle.recycler_c.proofs.Renews.{not_renewed}
use Rattle.recycler_c.proofs.renewing.renew_world.Goals as goal

pub renew-requires : goal.renew-requires
renew-requires c = c.into_world-world.ensures.idle

pub of-requires-clause-idle : goal.of-requires-clause-idle
of-requires-clause-idle c = c.in-Ok.ensures.idle

pub of-requires-clause-kept : goal.of-requires-clause-kept
of-requires-clause-kept c = c.in-Ok.ensures.kept

pub of-requires-in-Err-clause-kept : goal.of-requires-in-Err-clause-kept
of-requires-in-Err-clause-kept c = subst (λ (w : Core). IsWorld w) (sym c.in-Err.ensures.unchanged) c.into_world-world.ensures.kept

pub of-requires-in-Err-clause-idle : goal.of-requires-in-Err-clause-idle
of-requires-in-Err-clause-idle c = subst (λ (w : Core). AreIdle w) (sym c.in-Err.ensures.unchanged) c.into_world-world.ensures.idle

pub of-requires-in-Err-clause-home : goal.of-requires-in-Err-clause-home
of-requires-in-Err-clause-home c = subst (λ (w : Core). All (λ word. word % 2 ≡ 0) w.crossing) (sym c.in-Err.ensures.unchanged) c.into_world-world.ensures.home

pub returns-in-Ok : goal.returns-in-Ok
returns-in-Ok c = λ t.
    record {
      before = c.into_world-world.result;
      was = ap Some (sym c.into_world-world.ensures.world);
      after = c.in-Ok.new;
      is = ap Some c.of.ensures;
      renewed = c.in-Ok.ensures.renewed;
      settled = c.in-Ok.ensures.settled;
      teller = refl;
    }

pub returns-in-Err : goal.returns-in-Err
returns-in-Err c = λ t. not_renewed c.args.slots (Some (ends.Resting c.args.resting t)) (Some (ends.Resting c.of-in-Err.result t)) c.in-Err.error c.unrenewed.result
    (record { world = c.into_world-world.result; is = ap Some (sym c.into_world-world.ensures.world); cause = c.in-Err.ensures.refused })
    (ap (λ (w : Core). Some (ends.Resting w t)) (c.of-in-Err.ensures ∙ c.in-Err.ensures.unchanged ∙ c.into_world-world.ensures.world))
    c.unrenewed.ensures

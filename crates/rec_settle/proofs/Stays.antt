-- What stays while settling collects: the registers, the births, and whatever heap stands for what is seen. What is swept is counted.
use Rattle.std.proofs.Common.{◌≡◌, ℕ, ◌+◌, ◌≤◌, length, refl, sym, ap, subst, ◌∙◌, arith, false}
use Rattle.rec_model.specs.Heap.{Heap}
use Rattle.rec_model.specs.Sight.{Sight, StandsBy}
use Rattle.rec_collector.specs.Kept.{swept_at}
use Rattle.rec_collector.specs.Private.{Private}
use Rattle.rec_collector.specs.declared.phase.Phase.{Phase}
use Rattle.rec_collector.specs.declared.phase.Phase.TheVariants.{Sweeping, Closing}
use Rattle.rec_core.specs.Core.{Core, sight}
use Rattle.rec_core.specs.Kept.{IsKept}
use Rattle.rec_core.specs.Moves.{turned}
use Rattle.rec_settle.specs.Quiet.{AreQuiet}
use Rattle.rec_core.specs.Swept.{swept}
use Rattle.rec_core.proofs.BareRuns.{turned_keeps}
use Rattle.rec_core.proofs.TurnCases.{Awaits, TurnCase}
use Rattle.rec_core.proofs.Reach.{keeps_stands_by}
use Rattle.rec_core.proofs.Swept.{preparation_sweeps, test_sweeps, trial_sweeps}
use Rattle.rec_settle.proofs.Rest.BareRest.{turn_is}
use Rattle.rec_core.proofs.Turns.{now_at}
use Rattle.rec_settle.specs.Collecting.{IsAmid, IsCollection}
use Rattle.rec_settle.proofs.Amid.{quiet_amid}

-- What a turn leaves of the births, and that it takes no sweep back.
record TurnStays (w v : Core) : Type 0 where
  made : v.made ≡ w.made
  freed : w.collector.freed ≤ v.collector.freed

turn_stays : (w v : Core) → TurnCase w v → TurnStays w v
turn_stays w v turn = go turn
  where
    same : (x : Core) → v ≡ x → x.made ≡ w.made → w.collector.freed ≤ x.collector.freed → TurnStays w v
    same x is made freed = subst (TurnStays w) (sym is) (record { made = made; freed = freed })

    go : TurnCase w v → TurnStays w v
    go (TurnCase.spent phase last is) = same _ is refl (omega arith)
    go (TurnCase.requests next phase present is) = same _ is refl (omega arith)
    go (TurnCase.waits t there phase word is) = same _ is refl (omega arith)
    go (TurnCase.gathers t there phase word is) = same _ is refl (omega arith)
    go (TurnCase.gives_back t next there phase present is) = same _ is refl (omega arith)
    go (TurnCase.applies _ q answer (Awaits.alone phase more left) on is) = same _ is refl (omega (arith, test_sweeps on))
    go (TurnCase.applies _ q answer (Awaits.last t there phase left) on is) = same _ is refl (omega (arith, test_sweeps on))
    go (TurnCase.releases m a q answer phase at on is) = same _ is refl (omega (arith, test_sweeps on))
    go (TurnCase.frees m a q answer phase at on is) = same _ is refl (omega (arith, test_sweeps on))
    go (TurnCase.tries m place q answer phase named on is) = same _ is refl (omega (arith, trial_sweeps on))
    go (TurnCase.prepares m a q answer phase at on is) = same _ is refl (omega (arith, preparation_sweeps on))
    go (TurnCase.begins_sweep phase is) = same _ is refl (omega arith)
    go (TurnCase.sweeps n slot next phase which is) = same _ is refl (omega arith)
    go (TurnCase.ends_sweep n phase is) = same _ is refl (omega arith)

-- What stays from one heap to a later one; and how many slots were swept meanwhile is the difference of the two numbers.
pub record Stays (before after : Core) : Type 0 where
  pub registers : (sight after).registers ≡ (sight before).registers
  pub stands : (heap : Heap) (number : ℕ → ℕ) → StandsBy heap (sight before) number → StandsBy heap (sight after) number
  pub made : after.made ≡ before.made
  pub freed : before.collector.freed ≤ after.collector.freed

pub stays_same : (w : Core) → Stays w w
stays_same w = record { registers = refl; stands = λ heap number h. h; made = refl; freed = omega arith }

pub stays_then : {w u v : Core} → Stays w u → Stays u v → Stays w v
stays_then a b = record {
  registers = b.registers ∙ a.registers;
  stands = λ heap number h. b.stands heap number (a.stands heap number h);
  made = b.made ∙ a.made;
  freed = omega (arith, a.freed, b.freed);
}

-- a turn
stays_turned : (w : Core) → IsKept false w → Stays w (turned w)
stays_turned w kept =
    let stays = turn_stays w (turned w) (turn_is w kept) in
    let keeps = turned_keeps w kept in
    record { registers = keeps.registers; stands = λ heap number h. keeps_stands_by heap (sight w) (sight (turned w)) number keeps h; made = stays.made; freed = stays.freed }

-- In the midst of a collection, all that it swept is what its sweep tells.
record StaysAmid (before w : Core) : Type 0 where
  stays : Stays before w
  sweeps : w.collector.freed + swept before ≡ before.collector.freed + swept w

stays_amid : (first : ℕ) (before w : Core) → IsKept false before → AreQuiet first before → IsAmid before w → StaysAmid before w
stays_amid first before w kept quiet (IsAmid.here _ is) = subst (StaysAmid before) (sym is) (record { stays = stays_same before; sweeps = refl })
stays_amid first before w kept quiet (IsAmid.turns u _ path is cause) =
    let h = stays_amid first before u kept quiet path in
    let amid = quiet_amid first before u kept quiet path in
    record { stays = stays_then h.stays (subst (Stays u) (sym is) (stays_turned u amid.kept)); sweeps = omega (arith, h.sweeps, cause.2) }
stays_amid first before w kept quiet (IsAmid.polls u _ t path awaited polled) =
    let h = stays_amid first before u kept quiet path in
    let seen : sight w ≡ sight u = polled.quiet.seen in
    let freed : w.collector.freed ≡ u.collector.freed = ap (λ (c : Private). c.freed) polled.quiet.collector in
    let told : swept w ≡ swept u = ap (λ (c : Private). swept (record u { collector = c })) polled.quiet.collector in
    record {
      stays = stays_then h.stays (record {
        registers = ap (λ (s : Sight). s.registers) seen;
        stands = λ heap number by. subst (λ s. StandsBy heap s number) (sym seen) by;
        made = polled.quiet.made;
        freed = omega (arith, freed);
      });
      sweeps = omega (arith, h.sweeps, freed, told);
    }

-- a sweep frees as many slots as there are, at most
few_swept : (w : Core) → IsKept false w → swept w ≤ w.config.slots
few_swept w kept = go w.collector.phase refl
  where
    slots : length w.collector.counts.slots ≡ w.config.slots
    slots = kept.collector.slots

    go : (phase : Phase) → w.collector.phase ≡ phase → swept w ≤ w.config.slots
    go (Sweeping due n) is = omega (arith, ap swept_at is, (now_at w (Sweeping due n) kept is).0.left, slots)
    go (Closing n) is = omega (arith, ap swept_at is, (now_at w (Closing n) kept is).0.left, slots)
    go _ is = omega (arith, ap swept_at is)

-- Once it is complete: a collection sweeps as many slots as there are, at most.
pub record StaysAfter (before after : Core) : Type 0 where
  pub stays : Stays before after
  pub few : after.collector.freed ≤ before.collector.freed + before.config.slots

pub stays_after : (first : ℕ) (before after : Core) → IsKept false before → AreQuiet first before → IsCollection before after → StaysAfter before after
stays_after first before after kept quiet c =
    let h = stays_amid first before c.last kept quiet c.path in
    let amid = quiet_amid first before c.last kept quiet c.path in
    let slots : c.last.config.slots ≡ before.config.slots = ap (λ x. x.slots) amid.config in
    record {
      stays = stays_then h.stays (subst (Stays c.last) (sym c.turns) (stays_turned c.last amid.kept));
      few = omega (arith, h.sweeps, c.complete.4, few_swept c.last amid.kept, slots);
    }

-- Settling comes to a settled heap, from every state of a run in which no mutator works.
use Rattle.std.proofs.Common.{◌≡◌, ℕ, ◌+◌, ◌*◌, ◌^◌, ◌<◌, ◌≤◌, refl, sym, ap, subst, ◌∙◌, arith, false}
use Rattle.std.proofs.Math.Nat.{mul-le-mul_right}
use Rattle.rec_collector.specs.Kept.{under_way}
use Rattle.rec_collector.specs.declared.phase.Phase.TheVariants.{Idle}
use Rattle.rec_collector.proofs.Landing.{under_way_most}
use Rattle.rec_core.specs.Core.{Core}
use Rattle.rec_core.specs.Kept.{IsKept}
use Rattle.rec_core.specs.Moves.{offering}
use Rattle.rec_settle.specs.Quiet.{AreQuiet}
use Rattle.rec_settle.specs.Resting.{Round}
use Rattle.rec_core.specs.Settled.{IsSettled}
use Rattle.rec_core.proofs.BareRuns.{offering_kept}
use Rattle.rec_settle.proofs.Rest.BareRest.{RestsBehind, rests_offered, settled_behind}
use Rattle.rec_settle.proofs.Rest.QuietTurns.{quiet_begun}
use Rattle.rec_settle.proofs.Rest.Rounds.{busy_way}
use Rattle.rec_settle.specs.Collecting.{AreIdle, IsCollection, Finishes, IsSettling}
use Rattle.rec_settle.proofs.Amid.{quiet_after, rests_after}
use Rattle.rec_settle.proofs.Stays.{Stays, stays_after, stays_same, stays_then}

-- the epoch that is requested where no collection is under way
idle_epoch : (w : Core) → IsKept false w → w.collector.phase ≡ Idle → w.config.first_epoch + w.collector.collections ≡ w.epoch
idle_epoch w kept idle = omega (arith, kept.collector.begun, ap under_way idle)

-- A collection ends where no other is under way, an epoch on, but where it was under way as it began.
pub collection_epoch : (before after : Core) → IsKept false before → AreIdle before → IsCollection before after → after.epoch + under_way before.collector.phase ≡ before.epoch + 1
collection_epoch before after kept idle c =
    let next = quiet_after (before.epoch + 1) before after kept (quiet_begun before kept idle) c in
    omega (arith, kept.collector.begun, idle_epoch after next.kept c.complete.2, next.collections, ap (λ x. x.first_epoch) next.config)

-- So the epoch tells whether it was.
pub was_busy : (before after : Core) → IsKept false before → AreIdle before → IsCollection before after → after.epoch ≡ before.epoch → before.collector.phase ≡ Idle → ⊥
was_busy before after kept idle c same none = omega (arith, collection_epoch before after kept idle c, same, ap under_way none)

-- to offer every slot changes nothing else
pub offering_quiet : (first : ℕ) (w : Core) → AreQuiet first w → AreQuiet first (offering w)
offering_quiet first w quiet t is = let own = quiet t is in record { idle = own.idle; gone = own.gone; log = own.log; box = own.box; newer = own.newer; older = own.older }

-- Where a part of settling has come to: no collection is under way, and mutators did nothing since a first epoch. So many collections
-- were completed, and what stays stayed.
pub record HasCollected (first number : ℕ) (before after : Core) : Type 0 where
  pub kept : IsKept false after
  pub quiet : AreQuiet first after
  pub idle : after.collector.phase ≡ Idle
  pub config : after.config ≡ before.config
  pub collections : after.collector.collections ≡ before.collector.collections + number
  pub stays : Stays before after
  pub few : after.collector.freed ≤ before.collector.freed + number * before.config.slots

-- one collection more
collected_more : (first number : ℕ) (before w after : Core) → IsKept false w → AreQuiet first w → w.config ≡ before.config → w.collector.collections ≡ before.collector.collections + number → Stays before w
    → w.collector.freed ≤ before.collector.freed + number * before.config.slots → IsCollection w after → HasCollected first (number + 1) before after
collected_more first number before w after kept quiet config collections stays few c =
    let next = quiet_after first w after kept quiet c in
    let more = stays_after first w after kept quiet c in
    let slots : w.config.slots ≡ before.config.slots = ap (λ x. x.slots) config in
    record {
      kept = next.kept;
      quiet = next.quiet;
      idle = c.complete.2;
      config = next.config ∙ config;
      collections = omega (arith, next.collections, collections);
      stays = stays_then stays more.stays;
      few = omega (arith, more.few, few, slots, mul_more number before.config.slots);
    }
  where
    mul_more : (n k : ℕ) → (n + 1) * k ≡ n * k + k
    mul_more n k = omega arith

-- the collection of the requested epoch is complete
finished : (first : ℕ) (before after : Core) → IsKept false before → AreQuiet first before → Finishes before after → HasCollected first (1 + under_way before.collector.phase) before after
finished first before after kept quiet (Finishes.one idle c) =
    subst (λ n. HasCollected first n before after) (sym (ap (λ p. 1 + under_way p) idle)) (collected_more first 0 before before after kept quiet refl (omega arith) (stays_same before) (omega arith) c)
finished first before after kept quiet (Finishes.two w busy c d) =
    let h = collected_more first 0 before before w kept quiet refl (omega arith) (stays_same before) (omega arith) c in
    let one : 1 + 1 ≡ 1 + under_way before.collector.phase = ap (λ n. 1 + n) (sym (busy_way before.collector.phase busy)) in
    subst (λ n. HasCollected first n before after) one (collected_more first 1 before w after h.kept h.quiet h.config h.collections h.stays h.few d)

-- What settling comes to.
pub record EndsSettling (before after : Core) : Type 0 where
  pub all : HasCollected (before.epoch + 1) (3 + under_way before.collector.phase) before after
  pub epoch : after.epoch ≡ before.epoch + 3
  pub settled : IsSettled after

-- from a world in which no mutator works
module _ (before : Core) (kept : IsKept false before) (idle : AreIdle before) where
  -- the collection of the requested epoch is complete
  pub one : (collected : Core) → Finishes before collected → HasCollected (before.epoch + 1) (1 + under_way before.collector.phase) before collected
  one collected finishes = finished (before.epoch + 1) before collected kept (quiet_begun before kept idle) finishes

  -- and the one whose trial is offered every slot
  pub two : (collected tried : Core) → Finishes before collected → IsCollection (offering collected) tried → HasCollected (before.epoch + 1) (1 + under_way before.collector.phase + 1) before tried
  two collected tried finishes tries =
      let h = one collected finishes in
      collected_more (before.epoch + 1) (1 + under_way before.collector.phase) before (offering collected) tried (offering_kept collected h.kept) (offering_quiet (before.epoch + 1) collected h.quiet) h.config h.collections
      (stays_then h.stays (record { registers = refl; stands = λ heap number s. s; made = refl; freed = omega arith })) h.few tries

-- Settling to its end.
module _ (before after : Core) (kept : IsKept false before) (idle : AreIdle before) (settling : IsSettling before after) where
  abbrev first : ℕ
  first = before.epoch + 1

  abbrev collected : Core
  collected = settling.collected

  abbrev tried : Core
  tried = settling.tried

  abbrev way : ℕ
  way = under_way before.collector.phase

  one_ : HasCollected first (1 + way) before collected
  one_ = one before kept idle collected settling.finishes

  two_ : HasCollected first (1 + way + 1) before tried
  two_ = two before kept idle collected tried settling.finishes settling.tries

  -- and the one that frees its sets
  three : HasCollected first (1 + way + 1 + 1) before after
  three = collected_more first (1 + way + 1) before tried after two_.kept two_.quiet two_.config two_.collections two_.stays two_.few settling.frees

  begun : before.config.first_epoch + before.collector.collections + way ≡ before.epoch
  begun = kept.collector.begun

  epoch_one : collected.epoch ≡ before.epoch + 1
  epoch_one = omega (arith, idle_epoch collected one_.kept one_.idle, one_.collections, ap (λ c. c.first_epoch) one_.config, begun)

  epoch_two : tried.epoch ≡ before.epoch + 2
  epoch_two = omega (arith, idle_epoch tried two_.kept two_.idle, two_.collections, ap (λ c. c.first_epoch) two_.config, begun)

  epoch_three : after.epoch ≡ before.epoch + 3
  epoch_three = omega (arith, idle_epoch after three.kept three.idle, three.collections, ap (λ c. c.first_epoch) three.config, begun)

  tried_rests : RestsBehind Round.Second tried Idle
  tried_rests = rests_after first Round.First (offering collected) (offering_kept collected one_.kept) (offering_quiet first collected one_.quiet) one_.idle (omega (arith, epoch_one)) (λ is. cc)
      (subst (RestsBehind Round.First (offering collected)) (sym one_.idle) (rests_offered collected one_.kept)) tried settling.tries

  all_rests : RestsBehind Round.Over after Idle
  all_rests = rests_after first Round.Second tried two_.kept two_.quiet two_.idle (omega (arith, epoch_two)) (λ is. cc) (subst (RestsBehind Round.Second tried) (sym two_.idle) tried_rests) after settling.frees

  pub settling_settles : EndsSettling before after
  settling_settles = record {
    all = subst (λ n. HasCollected first n before after) (let sum : 1 + way + 1 + 1 ≡ 3 + way = omega arith in sum) three;
    epoch = epoch_three;
    settled = settled_behind first after three.quiet three.idle (omega (arith, epoch_three)) all_rests;
  }

-- What four collections sweep fits a number of 32 bits.
pub few_freed : (before after : Core) → IsKept false before → EndsSettling before after → after.collector.freed < before.collector.freed + 2 ^ 32
few_freed before after kept h =
    let some : 3 + under_way before.collector.phase ≤ 4 = omega (arith, under_way_most before.collector.phase) in
    let most : (3 + under_way before.collector.phase) * before.config.slots ≤ 4 * before.config.slots = mul-le-mul_right before.config.slots some in
    omega (arith, h.all.few, most, kept.config.few_slots)

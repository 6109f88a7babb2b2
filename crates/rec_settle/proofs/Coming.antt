-- A turn of settling leads on, and nearer to its end.
use Rattle.std.proofs.Common.{◌≡◌, ◌⊎◌, inl, inr, ℕ, ◌+◌, ◌*◌, ◌<◌, ◌≤◌, ◌==◌, Bool, true, false, if◌then◌else◌, refl, sym, ap, subst, ◌∙◌, arith}
use Rattle.std.proofs.Math.Nat.{mul-le-mul_right}
use Rattle.std.proofs.lemmas.Bool.{cases_eq, eq-eqb, ne_eqb}
use Rattle.rec_collector.specs.Kept.{under_way}
use Rattle.rec_collector.specs.Private.{Private}
use Rattle.rec_collector.specs.declared.phase.Phase.{Phase}
use Rattle.rec_collector.specs.declared.phase.Phase.TheVariants.{Idle}
use Rattle.rec_collector.specs.declared.turn.Turn.{Turn}
use Rattle.rec_collector.specs.declared.turn.Turn.TheVariants as answers
use Rattle.rec_collector.proofs.Landing.{under_way_most}
use Rattle.rec_core.specs.Core.{Core}
use Rattle.rec_core.specs.Kept.{IsKept}
use Rattle.rec_core.specs.Moves.{offering, turned}
use Rattle.rec_core.specs.declared.config.Config.{Config}
use Rattle.rec_settle.proofs.Rest.QuietTurns.{quiet_begun}
use Rattle.rec_settle.proofs.Rest.Rounds.{busy_way}
use Rattle.rec_core.specs.Turn.{TurnHasCause}
use Rattle.rec_world.specs.World.{IsWorld}
use Rattle.rec_world.proofs.Calls.{world_kept}
use Rattle.rec_settle.specs.Collecting.{AreIdle, Anyone, Finishes, Follows, HasStepped, IsAmid, IsCollection, waits_at}
use Rattle.rec_settle.specs.Left.{collections_left, left_in, left_of, most_turns}
use Rattle.rec_settle.specs.Stages.{HasCome, IsFinishing, Settles, begun, offered, stage_after, stage_turned}
use Rattle.rec_settle.specs.declared.turns.Settling.{Settling}
use Rattle.rec_settle.specs.declared.turns.Settling.TheVariants.{Finishing, Offering, Trying, Freeing, Settled}
use Rattle.rec_settle.proofs.Amid.{IsQuietAfter, quiet_after, quiet_amid}
use Rattle.rec_settle.proofs.Settles.{HasCollected, collection_epoch, offering_quiet, one, two, was_busy}
use Rattle.rec_settle.proofs.Waiting.{few_waits, moved_nearer, polled_nearer}
use Rattle.rec_core.proofs.BareRuns.{offering_kept}

-- a stage in which a collection is under way, or begins with the next turn
abbrev Collects : Settling → Type 0
Collects Offering = ⊥
Collects Settled = ⊥
Collects _ = Unit {0}

-- where settling goes on, one is once every slot is offered that is to be
begun_collects : (s : Settling) → (s ≡ Settled → ⊥) → Collects (begun s)
begun_collects Settled on = absurd (on refl)
begun_collects _ on = tt

-- a turn that completes no collection
abbrev IsShort : Turn → Type 0
IsShort (answers.Collected epoch freed) = ⊥
IsShort _ = Unit {0}

-- leaves the collection on its way
amid_on : (start w v : Core) (turn : Turn) → IsShort turn → IsAmid start w → HasStepped Anyone w turn v → IsAmid start v
amid_on start w v turn short path steps = go turn short steps.follows steps.cause
  where
    go : (turn : Turn) → IsShort turn → Follows Anyone w v → TurnHasCause w (turned w) turn → IsAmid start v
    go answers.Moved short (Follows.polls t awaited same done polled) cause = absurd (omega (arith, cause.0, ap (λ (x : Core). x.collector.turns) same))
    go answers.Moved short (Follows.rests left is) cause = IsAmid.turns w v path is (subst (λ (x : Core). TurnHasCause w x answers.Moved) (sym is) cause)
    go (answers.Waiting s) short (Follows.polls t awaited same done polled) cause = IsAmid.polls w v t path awaited polled
    go (answers.Waiting s) short (Follows.rests left is) cause = subst (IsAmid start) (sym (is ∙ cause.2)) path
    go answers.EpochsSpent short (Follows.polls t awaited same done polled) cause = IsAmid.polls w v t path awaited polled
    go answers.EpochsSpent short (Follows.rests left is) cause = subst (IsAmid start) (sym (is ∙ cause.2)) path
    go (answers.Collected epoch freed) short follows cause = absurd short

-- nobody polls behind one that completes a collection
collected_is : (w v : Core) (epoch freed : ℕ) → HasStepped Anyone w (answers.Collected epoch freed) v → v ≡ turned w
collected_is w v epoch freed steps = go steps.follows
  where
    go : Follows Anyone w v → v ≡ turned w
    go (Follows.polls t awaited same done polled) = absurd (omega (arith, steps.cause.3, ap (λ (x : Core). x.collector.collections) same))
    go (Follows.rests left is) = is

collected_so : (w v : Core) (epoch freed : ℕ) → HasStepped Anyone w (answers.Collected epoch freed) v → TurnHasCause w v (answers.Collected epoch freed)
collected_so w v epoch freed steps = subst (λ (x : Core). TurnHasCause w x (answers.Collected epoch freed)) (sym (collected_is w v epoch freed steps)) steps.cause

-- and it does
collected_on : (start w v : Core) (epoch freed : ℕ) → HasStepped Anyone w (answers.Collected epoch freed) v → IsAmid start w → IsCollection start v
collected_on start w v epoch freed steps path =
    record { last = w; path = path; turns = collected_is w v epoch freed steps; epoch = epoch; swept = freed; complete = collected_so w v epoch freed steps }

-- settling goes on in its collection
settles_on : (s : Settling) (first w v : Core) → Collects s → ((start : Core) → IsAmid start w → IsAmid start v) → Settles s first w → Settles s first v
settles_on (Finishing requested) first w v collects on (same, IsFinishing.one _ path) = (same, IsFinishing.one v (on first path))
settles_on (Finishing requested) first w v collects on (same, IsFinishing.two mid _ busy whole path) = (same, IsFinishing.two mid v busy whole (on mid path))
settles_on Trying first w v collects on h = record { collected = h.collected; finishes = h.finishes; path = on (offering h.collected) h.path }
settles_on Freeing first w v collects on h = record { collected = h.collected; finishes = h.finishes; tried = h.tried; tries = h.tries; path = on h.tried h.path }
settles_on Offering first w v collects on h = absurd collects
settles_on Settled first w v collects on h = absurd collects

-- no collection is under way, or one is
idle_or_busy : (phase : Phase) → (phase ≡ Idle) ⊎ (under_way phase ≡ 1)
idle_or_busy Idle = inl refl
idle_or_busy _ = inr refl

-- the collection of the requested epoch is complete, or the one that was under way before it
first_complete : (requested : ℕ) (first v : Core) → IsKept false first → AreIdle first → requested ≡ first.epoch → IsCollection first v → Settles (stage_after (Finishing requested) v.epoch) first v
first_complete requested first v kept idle same whole = elim (cases_eq v.epoch requested) [
  | inl is ↦
      let P : Bool → Type 0 = λ b. Settles (if b then Finishing requested else Offering) first v in
      subst P (sym (eq-eqb v.epoch requested is)) (same, IsFinishing.two v v (was_busy first v kept idle whole (is ∙ same)) whole (IsAmid.here v refl))
  | inr other ↦
      let P : Bool → Type 0 = λ b. Settles (if b then Finishing requested else Offering) first v in
      let epoch : v.epoch + under_way first.collector.phase ≡ first.epoch + 1 = collection_epoch first v kept idle whole in
      subst P (sym (ne_eqb v.epoch requested other)) (elim (idle_or_busy first.collector.phase) [
        | inl idle ↦ Finishes.one idle whole
        | inr busy ↦ absurd (other (omega (arith, epoch, busy, same)))
      ])
]

second_complete : (requested : ℕ) (first mid v : Core) → IsKept false first → AreIdle first → requested ≡ first.epoch → (first.collector.phase ≡ Idle → ⊥) → IsCollection first mid → IsCollection mid v
    → Settles (stage_after (Finishing requested) v.epoch) first v
second_complete requested first mid v kept idle same busy earlier whole =
    let P : Bool → Type 0 = λ b. Settles (if b then Finishing requested else Offering) first v in
    let next = quiet_after (first.epoch + 1) first mid kept (quiet_begun first kept idle) earlier in
    let epoch : mid.epoch + under_way first.collector.phase ≡ first.epoch + 1 = collection_epoch first mid kept idle earlier in
    let later : v.epoch + under_way mid.collector.phase ≡ mid.epoch + 1 = collection_epoch mid v next.kept (λ t is. (next.quiet t is).idle) whole in
    let at_rest : under_way mid.collector.phase ≡ 0 = ap under_way earlier.complete.2 in
    subst P (sym (ne_eqb v.epoch requested (λ is. omega (arith, is, same, epoch, later, busy_way first.collector.phase busy, at_rest)))) (Finishes.two mid busy earlier whole)

-- settling goes on to its next stage
settles_next : (s : Settling) (first w v : Core) → Collects s → IsKept false first → AreIdle first → ((start : Core) → IsAmid start w → IsCollection start v) → Settles s first w → Settles (stage_after s v.epoch) first v
settles_next (Finishing requested) first w v collects kept idle whole (same, IsFinishing.one _ path) = first_complete requested first v kept idle same (whole first path)
settles_next (Finishing requested) first w v collects kept idle whole (same, IsFinishing.two mid _ busy earlier path) = second_complete requested first mid v kept idle same busy earlier (whole mid path)
settles_next Trying first w v collects kept idle whole h = record { collected = h.collected; finishes = h.finishes; tried = v; tries = whole (offering h.collected) h.path; path = IsAmid.here v refl }
settles_next Freeing first w v collects kept idle whole h = record { collected = h.collected; finishes = h.finishes; tried = h.tried; tries = h.tries; frees = whole h.tried h.path }
settles_next Offering first w v collects kept idle whole h = absurd collects
settles_next Settled first w v collects kept idle whole h = absurd collects

-- how many collections more than epochs before it a stage has behind it
abbrev behind : Settling → ℕ
behind Trying = 1
behind Freeing = 2
behind _ = 0

behind_few : (s : Settling) → behind s ≤ 2
behind_few Trying = omega arith
behind_few Freeing = omega arith
behind_few _ = omega arith

-- as many in the midst of a collection as at its beginning
amid_same : (first : Core) (number epoch : ℕ) (start v : Core) → HasCollected epoch number first start → IsAmid start v → v.config.first_epoch + v.collector.collections ≡ first.config.first_epoch + first.collector.collections + number
amid_same first number epoch start v h path =
    let amid = quiet_amid epoch start v h.kept h.quiet path in
    omega (arith, amid.collections, h.collections, ap (λ (c : Config). c.first_epoch) amid.config, ap (λ (c : Config). c.first_epoch) h.config)

-- in each stage no more collections are completed than epochs were requested before it
few_completed : (s : Settling) (first w : Core) → Collects s → IsKept false first → AreIdle first → Settles s first w → w.config.first_epoch + w.collector.collections ≤ first.epoch + behind s
few_completed (Finishing requested) first w collects kept idle (same, IsFinishing.one _ path) =
    let amid = quiet_amid (first.epoch + 1) first w kept (quiet_begun first kept idle) path in
    omega (arith, amid.collections, ap (λ (c : Config). c.first_epoch) amid.config, kept.collector.begun)
few_completed (Finishing requested) first w collects kept idle (same, IsFinishing.two mid _ busy whole path) =
    let h : IsQuietAfter (first.epoch + 1) first mid = quiet_after (first.epoch + 1) first mid kept (quiet_begun first kept idle) whole in
    let amid = quiet_amid (first.epoch + 1) mid w h.kept h.quiet path in
    omega (arith, amid.collections, h.collections, ap (λ (c : Config). c.first_epoch) amid.config, ap (λ (c : Config). c.first_epoch) h.config, kept.collector.begun, busy_way first.collector.phase busy)
few_completed Trying first w collects kept idle h =
    let c = one first kept idle h.collected h.finishes in
    let amid = quiet_amid (first.epoch + 1) (offering h.collected) w (offering_kept h.collected c.kept) (offering_quiet (first.epoch + 1) h.collected c.quiet) h.path in
    omega (arith, amid.collections, c.collections, ap (λ (c : Config). c.first_epoch) amid.config, ap (λ (c : Config). c.first_epoch) c.config, kept.collector.begun)
few_completed Freeing first w collects kept idle h =
    omega (arith, amid_same first (1 + under_way first.collector.phase + 1) (first.epoch + 1) h.tried w (two first kept idle h.collected h.tried h.finishes h.tries) h.path, kept.collector.begun)
few_completed Offering first w collects kept idle h = absurd collects
few_completed Settled first w collects kept idle h = absurd collects

same_left : (s : Settling) (w v : Core) → v.config ≡ w.config → v.collector.collections ≡ w.collector.collections → collections_left s v ≡ collections_left s w
same_left (Finishing requested) w v config same = omega (arith, ap (λ (c : Config). c.first_epoch) config, same)
same_left Offering w v config same = refl
same_left Trying w v config same = refl
same_left Freeing w v config same = refl
same_left Settled w v config same = refl

-- a collection more is complete
one_less : (s : Settling) (w v : Core) (epoch : ℕ) → Collects s → v.config ≡ w.config → v.collector.collections ≡ w.collector.collections + 1 → ((requested : ℕ) → s ≡ Finishing requested → w.config.first_epoch + w.collector.collections ≤ requested)
    → collections_left (stage_after s epoch) v + 1 ≤ collections_left s w
one_less (Finishing requested) w v epoch collects config more few = go (epoch == requested)
  where
    go : (b : Bool) → collections_left (if b then Finishing requested else Offering) v + 1 ≤ collections_left (Finishing requested) w
    go true = omega (arith, few requested refl, more, ap (λ (c : Config). c.first_epoch) config)
    go false = omega (arith, few requested refl)
one_less Trying w v epoch collects config more few = omega arith
one_less Freeing w v epoch collects config more few = omega arith
one_less Offering w v epoch collects config more few = absurd collects
one_less Settled w v epoch collects config more few = absurd collects

-- what a turn of settling comes to
pub record GoesOn (first : Core) (s : Settling) (w : Core) (next : Settling) (v : Core) : Type 0 where
  pub comes : HasCome first next v
  pub nearer : left_in next v < left_in s w

-- A turn was made, in a collection.
module _ (first : Core) (s : Settling) (w v : Core) (collects : Collects s) (come : HasCome first s w) (before : IsWorld w) (after : IsWorld v) (config : v.config ≡ w.config) where
  kept : IsKept false first
  kept = world_kept first come.kept

  few : w.config.first_epoch + w.collector.collections ≤ first.epoch + behind s
  few = few_completed s first w collects kept come.idle come.settles

  -- it came nearer to the end of the collection
  less : left_of v < left_of w → v.collector.collections ≡ w.collector.collections → left_in s v < left_in s w
  less nearer same =
      let product : collections_left s v * most_turns v.config ≡ collections_left s w * most_turns w.config
      = ap (λ n. n * most_turns v.config) (same_left s w v config same) ∙ ap (λ c. collections_left s w * most_turns c) config in
      omega (arith, product, nearer)

  nearer_on : (turn : Turn) → IsShort turn → Follows Anyone w v → TurnHasCause w (turned w) turn → left_in s v < left_in s w
  nearer_on answers.Moved short (Follows.polls t awaited same done it) cause = absurd (omega (arith, cause.0, ap (λ (x : Core). x.collector.turns) same))
  nearer_on answers.Moved short (Follows.rests left at) cause =
      let moved : TurnHasCause w v answers.Moved = subst (λ (x : Core). TurnHasCause w x answers.Moved) (sym at) cause in
      less (moved_nearer w v (world_kept w before) (world_kept v after) config moved) moved.1
  nearer_on (answers.Waiting s) short (Follows.polls t awaited same done it) cause = less (polled_nearer w v t (world_kept v after) awaited it) (ap (λ (c : Private). c.collections) it.quiet.collector)
  nearer_on (answers.Waiting s) short (Follows.rests left at) cause = absurd (left s (record { looks = cause.0; behind = cause.1 }) tt)
  nearer_on answers.EpochsSpent short follows cause = absurd (omega (arith, cause.1, few, behind_few s, (world_kept w before).collector.begun, ap under_way cause.0, come.left))
  nearer_on (answers.Collected epoch freed) short follows cause = absurd short

  short_on : (turn : Turn) → IsShort turn → HasStepped Anyone w turn v → GoesOn first s w s v
  short_on turn short steps = record {
    comes = record { idle = come.idle; kept = come.kept; left = come.left; settles = settles_on s first w v collects (λ start path. amid_on start w v turn short path steps) come.settles };
    nearer = nearer_on turn short steps.follows steps.cause;
  }

  nearer_next : (epoch freed : ℕ) → TurnHasCause w v (answers.Collected epoch freed) → left_in (stage_after s v.epoch) v < left_in s w
  nearer_next epoch freed done =
      let next : Settling = stage_after s v.epoch in
      let fewer : collections_left next v + 1 ≤ collections_left s w = one_less s w v v.epoch collects config done.3 finishing in
      let product : (collections_left next v + 1) * most_turns v.config ≤ collections_left s w * most_turns v.config = mul-le-mul_right (most_turns v.config) fewer in
      let same : collections_left s w * most_turns v.config ≡ collections_left s w * most_turns w.config = ap (λ c. collections_left s w * most_turns c) config in
      let waits : waits_at v v.collector.phase ≡ 0 = ap (waits_at v) done.2 in
      omega (arith, grows (collections_left next v) (most_turns v.config), product, same, waits)
    where
      grows : (n m : ℕ) → n * m + m ≡ (n + 1) * m
      grows n m = omega arith

      finishing : (requested : ℕ) → s ≡ Finishing requested → w.config.first_epoch + w.collector.collections ≤ requested
      finishing requested at =
          let settles : Settles (Finishing requested) first w = subst (λ x. Settles x first w) at come.settles in
          omega (arith, few, ap behind at, settles.0)

  collect_on : (turn : Turn) → HasStepped Anyone w turn v → GoesOn first s w (stage_turned s turn v.epoch) v
  collect_on answers.Moved steps = short_on answers.Moved tt steps
  collect_on (answers.Waiting t) steps = short_on (answers.Waiting t) tt steps
  collect_on answers.EpochsSpent steps = short_on answers.EpochsSpent tt steps
  collect_on (answers.Collected epoch freed) steps = record {
    comes = record { idle = come.idle; kept = come.kept; left = come.left; settles = settles_next s first w v collects kept come.idle (λ start path. collected_on start w v epoch freed steps path) come.settles };
    nearer = nearer_next epoch freed (collected_so w v epoch freed steps);
  }

-- every slot is offered
offered_come : (first : Core) (s : Settling) (w : Core) → HasCome first s w → HasCome first (begun s) (offered s w)
offered_come first Offering w come = record { idle = come.idle; kept = come.kept; left = come.left; settles = record { collected = w; finishes = come.settles; path = IsAmid.here (offering w) refl } }
offered_come first (Finishing requested) w come = come
offered_come first Trying w come = come
offered_come first Freeing w come = come
offered_come first Settled w come = come

-- which leaves as many turns, and the heap's numbers
offered_left : (s : Settling) (w : Core) → left_in (begun s) (offered s w) ≡ left_in s w
offered_left Offering w = refl
offered_left _ w = refl

pub offered_config : (s : Settling) (w : Core) → (offered s w).config ≡ w.config
offered_config Offering w = refl
offered_config _ w = refl

-- A turn of settling was made.
pub goes_on : (first : Core) (s : Settling) (w v : Core) (turn : Turn) → (s ≡ Settled → ⊥) → HasCome first s w → IsWorld (offered s w) → IsWorld v → v.config ≡ (offered s w).config → HasStepped Anyone (offered s w) turn v
    → GoesOn first s w (stage_turned (begun s) turn v.epoch) v
goes_on first s w v turn on come before after config steps =
    let h = collect_on first (begun s) (offered s w) v (begun_collects s on) (offered_come first s w come) before after config turn steps in
    record { comes = h.comes; nearer = omega (arith, h.nearer, offered_left s w) }

-- Where it begins, five collections have more turns.
pub first_left : (w : Core) → IsKept false w → left_in (Finishing w.epoch) w < 5 * most_turns w.config
first_left w kept =
    let few : collections_left (Finishing w.epoch) w ≤ 4 = omega (arith, kept.collector.begun, under_way_most w.collector.phase) in
    let product : collections_left (Finishing w.epoch) w * most_turns w.config ≤ 4 * most_turns w.config = mul-le-mul_right (most_turns w.config) few in
    omega (arith, product, few_waits w w.collector.phase)

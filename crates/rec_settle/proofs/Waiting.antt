-- A collection ends: each turn that goes on counts, and a mutator that was waited for lets the collector turn once it has polled.
use Rattle.std.proofs.Common.{◌≡◌, ◌≢◌, ◌↔◌, inl, inr, ℕ, ◌+◌, ◌*◌, ◌<◌, ◌≤◌, ◌==◌, if◌then◌else◌, Bool, true, false, Option, None, Some, length, refl, sym, ap, subst, ◌∙◌, arith}
use Rattle.std.proofs.lemmas.Bool.{cases_eq, cond-true, cond-false, eq-eqb, false≢true, ne_eqb}
use Rattle.rec_word.specs.Mailbox.{crossing_word}
use Rattle.rec_word.specs.declared.mailbox.Mailbox.TheVariants.{Retired}
use Rattle.rec_mutator.specs.Private.{is_busy}
use Rattle.rec_mutator.specs.declared.work.Work.TheVariants as works
use Rattle.rec_collector.specs.Kept.{limit_of}
use Rattle.rec_collector.specs.Private.{Private}
use Rattle.rec_collector.specs.declared.phase.Phase.{Phase}
use Rattle.rec_collector.specs.declared.phase.Phase.TheVariants.{Looking}
use Rattle.rec_collector.specs.declared.turn.Turn.TheVariants as answers
use Rattle.rec_collector.proofs.Always.{within_limit}
use Rattle.rec_core.specs.Config.{IsMutator}
use Rattle.rec_core.specs.Core.{Core, mutator, opened, box, crossing_of}
use Rattle.rec_core.specs.Kept.{Handshake, IsHandshake, IsKept}
use Rattle.rec_core.specs.Moves.{turned}
use Rattle.rec_core.specs.Worked.{IsWorked}
use Rattle.rec_core.specs.declared.config.Config.{Config}
use Rattle.rec_core.proofs.BareRuns.{opened_kept}
use Rattle.rec_core.proofs.Runs.{looked_is}
use Rattle.rec_core.proofs.Actors.{idle_here}
use Rattle.rec_core.proofs.Gathering.{looked_due}
use Rattle.rec_core.specs.Turn.{TurnHasCause}
use Rattle.rec_world.specs.World.{IsCrossed, IsQuiet, IsWorld}
use Rattle.rec_world.proofs.Calls.{world_kept}
use Rattle.rec_settle.specs.Collecting.{AreIdle, Follows, HasPolled, HasStepped, IsAwaited, turns_of, waits_at}
use Rattle.rec_settle.specs.Left.{left_of}

-- the turns of a collection are limited
few_turns : (w : Core) → IsKept false w → w.collector.turns ≤ turns_of w.config
unfolding turns_of
few_turns w kept =
    let first : IsKept false (opened w.config) = opened_kept w.config kept.config in
    subst (λ n. w.collector.turns ≤ n) (same_limit w.collector (opened w.config).collector (kept.collector.slots ∙ sym first.collector.slots) (kept.collector.fields ∙ sym first.collector.fields) (kept.collector.mutators ∙ sym first.collector.mutators))
    (within_limit w.collector kept.collector.machine)
  where
    same_limit : (c d : Private) → length c.counts.slots ≡ length d.counts.slots → c.fields ≡ d.fields → length c.newer ≡ length d.newer → limit_of c ≡ limit_of d
    same_limit c d slots fields mutators =
        ap (λ n. 6 * (n * c.fields) + 2 * n + 3 * length c.newer + 16) slots
        ∙ ap (λ n. 6 * (length d.counts.slots * n) + 2 * length d.counts.slots + 3 * length c.newer + 16) fields
        ∙ ap (λ n. 6 * (length d.counts.slots * d.fields) + 2 * length d.counts.slots + 3 * n + 16) mutators

-- the collector waits for one mutator at most
pub few_waits : (w : Core) (phase : Phase) → waits_at w phase ≤ 1
few_waits w (Looking t) = go (crossing_of w t == crossing_word w.epoch Retired)
  where
    go : (b : Bool) → (if b then 0 else 1) ≤ 1
    go true = omega arith
    go false = omega arith
few_waits w _ = omega arith

-- what is left of a collection is less after a turn that goes on
pub moved_nearer : (w v : Core) → IsKept false w → IsKept false v → v.config ≡ w.config → TurnHasCause w v answers.Moved → left_of v < left_of w
moved_nearer w v before after config cause =
    let same : turns_of v.config ≡ turns_of w.config = ap turns_of config in
    omega (arith, same, cause.0, few_turns w before, few_turns v after, few_waits v v.collector.phase)

-- all are idle where the others' records stay
pub others_idle : (before after : Core) (t : ℕ) → after.config ≡ before.config → ((s : ℕ) → s ≢ t → 1 ≤ s → mutator after s ≡ mutator before s)
    → is_busy (mutator after t) ≡ false → AreIdle before → AreIdle after
others_idle before after t config stay idle all s there =
    let was : IsMutator before.config s = subst (λ c. IsMutator c s) config there in
    elim (cases_eq s t) [
      | inl is ↦ subst (λ n. is_busy (mutator after n) ≡ false) (sym is) idle
      | inr other ↦ ap is_busy (stay s other was.0) ∙ all s was
    ]

-- whoever is waited for is a mutator
awaited : (w v : Core) (t : ℕ) → IsKept false w → TurnHasCause w v (answers.Waiting t) → IsAwaited w t
awaited w v t kept cause = record { there = looked_is w (Looking t) kept cause.0; waits = record { looks = cause.0; behind = cause.1 } }

-- what a poll leaves
pub has_polled : (w v : Core) (t : ℕ) (crossed : Option ℕ) → IsWorked w t works.Poll v → IsQuiet w v t → is_busy (mutator v t) ≡ false → IsCrossed w v t crossed → (crossed ≡ None) ↔ (w.epoch ≡ (mutator w t).epoch) → ((epoch : ℕ) → crossed ≡ Some epoch → epoch ≡ w.epoch)
    → HasPolled w t v
has_polled w v t None worked quiet idle crossed none some = record { worked = worked; quiet = quiet; idle = idle; epoch = crossed.0 ∙ sym (none.0 refl) }
has_polled w v t (Some e) worked quiet idle crossed none some = record { worked = worked; quiet = quiet; idle = idle; epoch = crossed.1 ∙ some e refl }

-- The collector waited for a mutator that had nothing else to do, and it polled.
pub polled_behind : (done : ℕ → Type 0) (w u v : Core) (t : ℕ) → done t → u ≡ turned w → IsWorld u → TurnHasCause w u (answers.Waiting t) → HasPolled u t v → HasStepped done w (answers.Waiting t) v
polled_behind done w u v t nothing is world cause polled =
    let kept : IsKept false w = subst (IsKept false) cause.2 (world_kept u world) in
    record {
      cause = subst (λ (x : Core). TurnHasCause w x (answers.Waiting t)) is cause;
      follows = Follows.polls t (awaited w u t kept cause) (sym is ∙ cause.2) nothing (subst (λ (x : Core). HasPolled x t v) cause.2 polled);
    }

-- Once a mutator that was waited for has polled, its mailbox is handed over.
polled_over : (w v : Core) (t : ℕ) → IsKept false v → IsAwaited w t → HasPolled w t v → crossing_of v t ≡ crossing_word v.epoch Retired
polled_over w v t kept awaits polled =
    let is : IsMutator v.config t = subst (λ (c : Config). IsMutator c t) (sym polled.quiet.config) awaits.there in
    let phase : v.collector.phase ≡ Looking t = ap (λ (c : Private). c.phase) polled.quiet.collector ∙ awaits.waits.looks in
    let here : (mutator v t).epoch ≡ v.epoch = polled.epoch ∙ sym polled.quiet.requested in
    go (looked_due v t kept is phase) here
  where
    go : IsHandshake v.config v.epoch (mutator v t) (crossing_of v t) (box v t) Handshake.Due → (mutator v t).epoch ≡ v.epoch → crossing_of v t ≡ crossing_word v.epoch Retired
    go (inl behind) here = absurd (omega (arith, behind.epoch, here))
    go (inr (inl crossing)) here = absurd (false≢true (sym (idle_here (mutator v t).phase polled.idle) ∙ crossing.phase))
    go (inr (inr (crossed, last))) here = crossed.word

-- so less is left
pub polled_nearer : (w v : Core) (t : ℕ) → IsKept false v → IsAwaited w t → HasPolled w t v → left_of v < left_of w
polled_nearer w v t kept awaits polled =
    let phase : v.collector.phase ≡ Looking t = ap (λ (c : Private). c.phase) polled.quiet.collector ∙ awaits.waits.looks in
    let now : waits_at v v.collector.phase ≡ 0 = ap (waits_at v) phase ∙ cond-true (crossing_of v t == crossing_word v.epoch Retired) 0 1 (eq-eqb (crossing_of v t) (crossing_word v.epoch Retired) (polled_over w v t kept awaits polled)) in
    let earlier : waits_at w w.collector.phase ≡ 1 = ap (waits_at w) awaits.waits.looks ∙ cond-false (crossing_of w t == crossing_word w.epoch Retired) 0 1 (ne_eqb (crossing_of w t) (crossing_word w.epoch Retired) awaits.waits.behind) in
    omega (arith, now, earlier, ap turns_of polled.quiet.config, ap (λ (c : Private). c.turns) polled.quiet.collector)

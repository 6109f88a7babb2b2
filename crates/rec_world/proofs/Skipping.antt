-- A scan that skips slots which are taken makes the steps that probe them.
use Rattle.std.proofs.Common.{◌≡◌, ◌≢◌, inl, inr, None, ℕ, zero, suc, ◌+◌, ◌-◌, ◌<◌, ◌≤◌, if◌then◌else◌, Bool, true, List, length, slice_index_or, slice_set, arith, refl, sym, ap, subst, ◌∙◌, false}
use Rattle.std.proofs.lemmas.Bool.{cases_lt, ne_eqb}
use Rattle.std.proofs.lemmas.List.{set-set, set-get_or}
use Rattle.rec_world.proofs.Common.{Contents, next_of, Private, is_busy, work_of, answer_of, slot_behind, took_of, step_of, swapped_of, left_of, skipped_to, skipped_at, IsAhead, cell, IsMutator, Core, cells_of, sight, mutator, with_mutator, box, nobody, Move, stepped, performed, found_by, IsShaped, IsWorld}
use Rattle.rec_word.specs.declared.op.Op.{Op}
use Rattle.rec_word.specs.declared.op.Op.TheVariants as ops
use Rattle.rec_model.specs.Sight.{IsTaken}
use Rattle.rec_mutator.specs.declared.phase.Phase.{Phase}
use Rattle.rec_mutator.specs.declared.phase.Phase.TheVariants.{Idle, Begun, Scanning, Scanned, Storing, Crossing, Swapping, Giving, Leaving, Retiring, Parting, Finished, Passing}
use Rattle.rec_mutator.proofs.Around.{behind_first}
use Rattle.rec_mutator.proofs.Skips.{skipped_next, skipped_none, skipped_further, skipped_alone, skipped_busy}
use Rattle.rec_mutator.proofs.Refusals.{at_phase}
use Rattle.rec_mutator.proofs.Polls.{busy_none}
use Rattle.rec_core.specs.Kept.{IsKept}
use Rattle.rec_core.specs.Unfinished.{HasFound, Waits}
use Rattle.rec_core.specs.Worked.{StepsTo}
use Rattle.rec_core.specs.declared.config.Config.{Config}
use Rattle.rec_core.proofs.Runs.{move_stays}
use Rattle.rec_core.proofs.Showing.{mutator_left}
use Rattle.rec_core.proofs.Steps.{actor_of}
use Rattle.rec_core.proofs.Unfinished.{work_stays, steps_counted, waited, mutator_there}
use Rattle.rec_world.proofs.Calls.{world_kept, moved_world, mutator_read}
use Rattle.rec_word.specs.Header.{header_word}

-- the mutator's scan has made so many probes, and so comes to this slot where it began with slot 0
abbrev pub skipping : Core → (t slot : ℕ) → Core
skipping w t slot = with_mutator w t (skipped_to (mutator w t) slot)

-- a claim of a taken slot changes the mutator alone
claim_fails : (w : Core) (t slot claimed : ℕ) (q r : Private) → slice_index_or w.headers slot 0 ≢ 0
    → performed (with_mutator w t q) t (ops.ClaimHeader slot claimed) (slice_index_or w.headers slot 0) r (box w t) ≡ with_mutator w t r
claim_fails w t slot claimed q r taken =
    let header : ℕ = slice_index_or w.headers slot 0 in
    let make : List ℕ → List Private → List Contents → ℕ → Core = λ hs ms bs n. record w { headers = hs; mutators = ms; boxes = bs; made = n } in
    let mutators : List Private = slice_set (slice_set w.mutators (t - 1) q) (t - 1) r in
    let boxes : List Contents = slice_set w.boxes (t - 1) (box w t) in
    ap (λ (b : Bool). make (slice_set w.headers slot (if b then claimed else header)) mutators boxes (w.made + (if b then 1 else 0))) (ne_eqb header 0 taken)
    ∙ ap (λ hs. make hs mutators boxes (w.made + 0)) (set-get_or w.headers slot 0)
    ∙ ap (λ ms. make w.headers ms boxes (w.made + 0)) (set-set w.mutators (t - 1) q r)
    ∙ ap (λ bs. make w.headers (slice_set w.mutators (t - 1) r) bs (w.made + 0)) (set-get_or w.boxes (t - 1) _)
    ∙ ap (make w.headers (slice_set w.mutators (t - 1) r) w.boxes) (omega arith)

module _ (w : Core) (t : ℕ) (kept : IsKept false w) (is : IsMutator w.config t) (reg label : ℕ) (leaf : Bool) (before at : ℕ) (scans : (mutator w t).phase ≡ Scanning reg label leaf before at) (first : (mutator w t).from ≡ 0) where
  many : (mutator w t).slots ≡ w.config.slots
  many = (actor_of w t kept is).own.slots

  -- one slot more
  one_more : (slot : ℕ) → at ≤ slot → slot < w.config.slots → IsTaken (sight w) slot → skipping w t (slot + 1) ≡ stepped (skipping w t slot) t
  unfolding step_of
  one_more slot ahead there taken =
      let v : Core = skipping w t slot in
      let q : Private = skipped_to (mutator w t) slot in
      let r : Private = skipped_to (mutator w t) (slot + 1) in
      let header : ℕ = slice_index_or w.headers slot 0 in
      let claim : Op = ops.ClaimHeader slot (header_word leaf label) in
      let within : slot < (mutator w t).slots = omega (arith, many, there) in
      let make : Op → ℕ → Private → Core = λ op found m. performed v t op found (step_of m found (box w t)) (left_of (took_of m found) (box w t)) in
      let left : mutator v t ≡ q = mutator_left w t q kept is in
      let names : next_of (mutator v t) ≡ claim = ap next_of left ∙ skipped_next (mutator w t) reg label leaf before at scans slot within
      ∙ ap (λ n. ops.ClaimHeader n (header_word leaf label)) (ap (λ n. slot_behind (mutator w t).slots n slot) first ∙ behind_first (mutator w t).slots slot within) in
      let finds : found_by v t ≡ header = ap (cell (cells_of v)) names in
      let further : took_of q header ≡ r = skipped_further (mutator w t) reg label leaf before at scans slot header ahead within (λ e. omega (arith, e, taken)) in
      let alone = skipped_alone (mutator w t) reg label leaf before at scans (slot + 1) (box w t) in
      sym (
      ap (make (next_of (mutator v t)) (found_by v t)) left
      ∙ ap (λ op. make op (found_by v t) q) names
      ∙ ap (λ n. make claim n q) finds
      ∙ ap (λ m. performed v t claim header (swapped_of m (box w t)) (left_of m (box w t))) further
      ∙ ap (λ m. performed v t claim header m (left_of r (box w t))) alone.0
      ∙ ap (performed v t claim header r) alone.1
      ∙ claim_fails w t slot (header_word leaf label) q r (λ e. omega (arith, e, taken))
      )

  -- so many slots more
  many_more : (n : ℕ) → at < w.config.slots → at + n ≤ w.config.slots → ((s : ℕ) → s < at + n → IsTaken (sight w) s) → StepsTo w t (skipping w t (at + n))
  many_more zero there few taken =
      let none : at + 0 ≡ at = omega arith in
      StepsTo.here (skipping w t (at + 0)) (
      ap (skipping w t) none ∙ ap (with_mutator w t) (skipped_none (mutator w t) reg label leaf before at scans (omega (arith, many, there)))
      ∙ ap (λ ms. let x : Core = record w { mutators = ms } in x) (set-get_or w.mutators (t - 1) nobody)
      )
  many_more (suc n) there few taken =
      let more : at + suc n ≡ at + n + 1 = omega arith in
      StepsTo.further (skipping w t (at + n)) (skipping w t (at + suc n)) (many_more n there (omega (arith, few)) (λ s below. taken s (omega (arith, below))))
      (ap is_busy (mutator_left w t (skipped_to (mutator w t) (at + n)) kept is) ∙ skipped_busy (mutator w t) reg label leaf before at scans (at + n))
      (ap (skipping w t) more ∙ one_more (at + n) (omega arith) (omega (arith, few)) (taken (at + n) (omega arith)))

-- what skips nothing stays
stays : (w : Core) (t slot : ℕ) → skipped_to (mutator w t) slot ≡ mutator w t → StepsTo w t (skipping w t slot)
stays w t slot same = StepsTo.here (skipping w t slot) (ap (with_mutator w t) same ∙ ap (λ ms. let x : Core = record w { mutators = ms } in x) (set-get_or w.mutators (t - 1) nobody))

skip_path_at : (w : Core) (t slot : ℕ) (phase : Phase) → IsKept false w → IsMutator w.config t → (mutator w t).phase ≡ phase → HasFound w (mutator w t).from phase → IsAhead phase slot → slot ≤ w.config.slots
    → ((s : ℕ) → s < slot → IsTaken (sight w) s) → StepsTo w t (skipping w t slot)
unfolding skipped_to skipped_at
skip_path_at w t slot (Scanning reg label leaf before at) kept is scans found ahead few taken =
    let own = (actor_of w t kept is).own in
    let there : at < (mutator w t).slots = (at_phase (mutator w t) (Scanning reg label leaf before at) own.machine scans).1 in
    let ends : at + (slot - at) ≡ slot = omega (arith, ahead) in
    subst (λ n. StepsTo w t (skipping w t n)) ends
    (many_more w t kept is reg label leaf before at scans found.0 (slot - at) (omega (arith, own.slots, there)) (omega (arith, ends, few)) (λ s below. taken s (omega (arith, ends, below))))
skip_path_at w t slot Idle kept is phase found ahead few taken = stays w t slot (ap (skipped_at (mutator w t) slot) phase)
skip_path_at w t slot (Begun work) kept is phase found ahead few taken = stays w t slot (ap (skipped_at (mutator w t) slot) phase)
skip_path_at w t slot (Scanned reg label leaf before) kept is phase found ahead few taken = stays w t slot (ap (skipped_at (mutator w t) slot) phase)
skip_path_at w t slot (Storing src f val at) kept is phase found ahead few taken = stays w t slot (ap (skipped_at (mutator w t) slot) phase)
skip_path_at w t slot Crossing kept is phase found ahead few taken = stays w t slot (ap (skipped_at (mutator w t) slot) phase)
skip_path_at w t slot Swapping kept is phase found ahead few taken = stays w t slot (ap (skipped_at (mutator w t) slot) phase)
skip_path_at w t slot Giving kept is phase found ahead few taken = stays w t slot (ap (skipped_at (mutator w t) slot) phase)
skip_path_at w t slot Leaving kept is phase found ahead few taken = stays w t slot (ap (skipped_at (mutator w t) slot) phase)
skip_path_at w t slot Retiring kept is phase found ahead few taken = stays w t slot (ap (skipped_at (mutator w t) slot) phase)
skip_path_at w t slot Parting kept is phase found ahead few taken = stays w t slot (ap (skipped_at (mutator w t) slot) phase)
skip_path_at w t slot (Finished work made) kept is phase found ahead few taken = stays w t slot (ap (skipped_at (mutator w t) slot) phase)
skip_path_at w t slot (Passing passage) kept is phase found ahead few taken = stays w t slot (ap (skipped_at (mutator w t) slot) phase)

-- skips past taken slots are steps
skip_path : (w : Core) (t slot : ℕ) → IsKept false w → IsMutator w.config t → HasFound w (mutator w t).from (mutator w t).phase → IsAhead (mutator w t).phase slot → slot ≤ w.config.slots
    → ((s : ℕ) → s < slot → IsTaken (sight w) s) → StepsTo w t (skipping w t slot)
skip_path w t slot kept is found ahead few taken = skip_path_at w t slot (mutator w t).phase kept is refl found ahead few taken

-- a scan has passed taken slots alone, so a free slot is ahead of it, and so is the end
free_ahead : (w : Core) (t slot : ℕ) → IsKept false w → IsMutator w.config t → HasFound w (mutator w t).from (mutator w t).phase → slot ≤ w.config.slots
    → (slot < w.config.slots → slice_index_or w.headers slot 0 ≡ 0) → IsAhead (mutator w t).phase slot
free_ahead w t slot kept is found few free = go (mutator w t).phase refl found
  where
    go : (phase : Phase) → (mutator w t).phase ≡ phase → HasFound w (mutator w t).from phase → IsAhead phase slot
    go (Scanning reg label leaf before at) scans its_found =
        let own = (actor_of w t kept is).own in
        let there : at < (mutator w t).slots = (at_phase (mutator w t) (Scanning reg label leaf before at) own.machine scans).1 in
        elim (cases_lt slot at) [
          | inl behind ↦ absurd (omega (arith, its_found.2 slot behind, free (omega (arith, behind, there, own.slots))))
          | inr ahead ↦ ahead
        ]
    go _ phase its_found = tt

-- steps lead from a world to a world
pub path_world : (w : Core) (t : ℕ) (v : Core) → IsWorld w → IsMutator w.config t → StepsTo w t v → IsWorld v × IsMutator v.config t
path_world w t v world is (StepsTo.here _ same) = (subst IsWorld (sym same) world, subst (λ (x : Core). IsMutator x.config t) (sym same) is)
path_world w t v world is (StepsTo.further u _ path busy steps) =
    let there = path_world w t u world is path in
    let fits : IsMutator u.config t × (is_busy (mutator u t) ≡ true) = (there.1, busy) in (
      subst IsWorld (sym steps) (moved_world u (Move.Steps t) there.0 fits),
      subst (λ (x : Core). IsMutator x.config t) (sym steps) (subst (λ (x : Config). IsMutator x t) (sym (move_stays u (Move.Steps t))) there.1),
    )

-- first these steps and then those
pub path_both : (w : Core) (t : ℕ) (v u : Core) → StepsTo w t v → StepsTo v t u → StepsTo w t u
path_both w t v u first (StepsTo.here _ same) = subst (StepsTo w t) (sym same) first
path_both w t v u first (StepsTo.further x _ path busy steps) = StepsTo.further x u (path_both w t v x first path) busy steps

-- no step is unmade, and the work stays
pub path_counts : (w : Core) (t : ℕ) (v : Core) → IsWorld w → IsMutator w.config t → StepsTo w t v → ((mutator w t).steps ≤ (mutator v t).steps) × (work_of (mutator v t) ≡ work_of (mutator w t))
path_counts w t v world is (StepsTo.here _ same) = (
  subst (λ (x : Core). (mutator w t).steps ≤ (mutator x t).steps) (sym same) (omega arith),
  ap (λ (x : Core). work_of (mutator x t)) same,
)
path_counts w t v world is (StepsTo.further u _ path busy steps) =
    let there = path_world w t u world is path in
    let before = path_counts w t u world is path in
    let counted : (mutator v t).steps ≡ (mutator u t).steps + 1 = ap (λ (x : Core). (mutator x t).steps) steps ∙ steps_counted u t (world_kept u there.0) there.1 busy in (
      omega (arith, before.0, counted),
      ap (λ (x : Core). work_of (mutator x t)) steps ∙ work_stays u t (world_kept u there.0) there.1 busy ∙ before.1,
    )

-- steps after which the work goes on finished nothing
pub path_waits : (before w : Core) (t : ℕ) (v : Core) → IsWorld w → IsMutator w.config t → Waits before w t → StepsTo w t v → is_busy (mutator v t) ≡ true → Waits before v t
path_waits before w t v world is waits (StepsTo.here _ same) goes = subst (λ (x : Core). Waits before x t) (sym same) waits
path_waits before w t v world is waits (StepsTo.further u _ path busy steps) goes =
    let there = path_world w t u world is path in
    waited before u v t (world_kept u there.0) there.1 busy (path_waits before w t u world is waits path busy) steps (busy_none (mutator v t).phase goes)

-- what a skip leaves
pub skipping_is : (w : Core) (t i slot : ℕ) (p new : Private) → IsShaped w → IsMutator w.config t → i ≡ t → p ≡ slice_index_or w.mutators (i - 1) p → new ≡ skipped_to p slot
    → ◌≡◌ {A = Core} (record w { mutators = slice_set w.mutators (i - 1) new }) (skipping w t slot)
skipping_is w t i slot p new shaped is at read skips =
    let make : ℕ → Private → Core = λ n x. record w { mutators = slice_set w.mutators (n - 1) x } in
    ap (λ n. make n new) at ∙ ap (make t) (skips ∙ ap (λ x. skipped_to x slot) (mutator_read w t i p shaped is at read))

-- what is known of a skip to the lowest free slot, or to the end where no slot is free
pub record MaySkip (w : Core) (t slot : ℕ) : Type 0 where
  pub few : slot ≤ (mutator w t).slots
  pub ahead : IsAhead (mutator w t).phase slot
  pub path : StepsTo w t (skipping w t slot)

pub may_skip : (w : Core) (t slot : ℕ) → IsKept false w → IsMutator w.config t → HasFound w (mutator w t).from (mutator w t).phase → slot ≤ length w.headers → ((s : ℕ) → s < slot → 0 < slice_index_or w.headers s 0)
    → (slot < length w.headers → slice_index_or w.headers slot 0 ≡ 0) → MaySkip w t slot
may_skip w t slot kept is found few taken free =
    let own = (actor_of w t kept is).own in
    let within : slot ≤ w.config.slots = omega (arith, few, kept.headers) in
    let ahead : IsAhead (mutator w t).phase slot = free_ahead w t slot kept is found within (λ there. free (omega (arith, there, kept.headers))) in
    record { few = omega (arith, within, own.slots); ahead = ahead; path = skip_path w t slot kept is found ahead within taken }

-- What is known where a step of a work has finished nothing, and where a skip came behind it.
pub record GoesOn (before v : Core) (t : ℕ) : Type 0 where
  pub world : IsWorld v
  pub is : IsMutator v.config t
  pub waits : Waits before v t
  pub found : HasFound v (mutator v t).from (mutator v t).phase

-- a machine that goes on has found what its scan says
pub found_of : (before v : Core) (t : ℕ) → Waits before v t → HasFound v (mutator v t).from (mutator v t).phase
found_of before v t (Waits.works only found since) = found
found_of before v t (Waits.holds phase still epoch) = subst (HasFound v (mutator v t).from) (sym phase) tt
found_of before v t (Waits.parts phase gone) = subst (HasFound v (mutator v t).from) (sym phase) tt

pub goes_on : (before w v : Core) (t : ℕ) → IsWorld w → IsMutator before.config t → Waits before w t → is_busy (mutator w t) ≡ true → v ≡ stepped w t → answer_of (mutator v t) ≡ None → GoesOn before v t
goes_on before w v t world is waits busy steps none =
    let here : IsMutator w.config t = mutator_there before w t waits is in
    let v_waits : Waits before v t = waited before w v t (world_kept w world) here busy waits steps none in
    record {
      world = subst IsWorld (sym steps) (moved_world w (Move.Steps t) world (here, busy));
      is = mutator_there before v t v_waits is;
      waits = v_waits;
      found = found_of before v t v_waits;
    }

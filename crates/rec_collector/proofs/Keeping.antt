-- What every machine keeps holds after every step, by the phase: while an epoch is requested and the buffers of the mutators are
-- gathered, and on a turn that works on the parts.
use Rattle.std.proofs.Common.{◌≡◌, ℕ, ◌+◌, ◌*◌, ◌^◌, true, false, Bool, cond, if◌then◌else◌, Option, None, Some, refl, arith, sym, ◌∙◌, ap, subst, List}
use Rattle.std.proofs.lemmas.Bool.{eqb-false}
use Rattle.rec_collector.proofs.Common.{HaveLeft, batch_next, behind, gathering_on, MayGatherBehind, next_present, noted, requested, Contents, IsWork, IsSized, IsGiven, IsGivenAt, IsAt, IsMachine, IsTold, swept_at, under_way, KeepsSizes, IsGathering, IsSweeping, Private, parts_of, moved, swapped_at, took_at, came, came_turn, ended_if, took_of, turn_at, turn_of, step_of, swapped_of, Phase, Idle, Looking, Swapping, Returning, Releasing, Freeing, Trying, Preparing, Sweeping, Closing, Opening, worked, Next, followed, with_freed, with_released, zeros_released, told}
use Rattle.rec_word.specs.Looked.{looked}
use Rattle.rec_word.specs.declared.looked.Looked.{Looked}
use Rattle.rec_word.specs.declared.looked.Looked.TheVariants.{Takes, Crosses, Waits}
use Rattle.rec_counts.specs.Batch.{applied, IsCovered}
use Rattle.rec_release.proofs.Kept.{sweep_kept}
use Rattle.rec_collector.specs.Given.{IsFreeingIn, IsLookGiven}
use Rattle.rec_collector.specs.Works.{MayFree, MayWork}
use Rattle.rec_collector.specs.Next.{is_spent}
use Rattle.rec_collector.specs.Took.{after_look, crossed_for}
use Rattle.rec_collector.specs.declared.turn.Turn.{Turn}
use Rattle.rec_collector.specs.Step.{IsBetween}
use Rattle.rec_collector.proofs.Gathering.{batch_keeps, crossed_gathers, crossed_keeps, joined_keeps, next_keeps, noted_gathers, noted_keeps, requested_gathers, requested_keeps}
use Rattle.rec_collector.proofs.Landing.{freed_at, landed, landed_keeps, landed_sizes, Lands, machine_on, now_at, told_at, under_way_at, work_none, work_on}
use Rattle.rec_collector.proofs.Following.{followed_lands, freed_has, released_has}
use Rattle.rec_collector.proofs.Trying.{prepared_lands, took_prepared, took_tried, tried_lands}
use Rattle.rec_collector.proofs.Steps.{gathers_between, same_swapped, took_between}
use Rattle.rec_collector.proofs.Sweeping.{ended_keeps, opening_keeps, sweeping_keeps}
use Rattle.rec_release.specs.Sweep.{swept}
use Rattle.rec_release.specs.Sweep as sweeps
use Rattle.rec_trial.specs.Rules.{visible}
use Rattle.rec_trial.proofs.Visible.{visible_leads}

-- the buffer of a mailbox that is held is swapped
pub swap_keeps : (p : Private) (t : ℕ) (box : Contents) → IsSized p.registers p.capacity box → IsMachine p → p.phase ≡ Swapping t → IsMachine (swapped_at p box (Swapping t))
unfolding swapped_at
swap_keeps p t box z k e =
    joined_keeps p t (2 * t) box z k (now_at p (Swapping t) k e) (omega arith) (under_way_at p (Swapping t) k e) (omega (arith, freed_at p (Swapping t) k e)) (omega (arith, told_at p (Swapping t) k e))

-- what follows a word that works on the parts lands
pub work_lands : (p : Private) (word : ℕ) (phase : Phase) → IsMachine p → p.phase ≡ phase → IsGivenAt p word phase → IsWork phase → Lands p (worked (parts_of p) word phase)
unfolding IsGivenAt
work_lands p word (Releasing m) k e g at_work = followed_lands p (with_released m (parts_of p) word) (released_has p m word k e g)
work_lands p word (Freeing m) k e g at_work = followed_lands p (with_freed m (parts_of p) word) (freed_has p m word k e g)
work_lands p word (Trying m) k e g at_work = tried_lands p (parts_of p) _ (took_tried p m (visible p.counts word) k e (visible_leads p.counts word g))
work_lands p word (Preparing m) k e g at_work = prepared_lands p (parts_of p) _ (took_prepared p m word k e)
work_lands p word _ k e g at_work = absurd at_work

work_keeps : (p : Private) (word : ℕ) (phase : Phase) → IsMachine p → p.phase ≡ phase → IsGivenAt p word phase → IsWork phase → IsMachine (landed p (worked (parts_of p) word phase))
work_keeps p word phase k e g at_work =
    landed_keeps p (worked (parts_of p) word phase) k (omega (arith, under_way_at p phase k e, way phase at_work)) (omega (arith, freed_at p phase k e, none phase at_work)) (work_on (parts_of p) word phase at_work) (work_none (parts_of p) word phase at_work) (work_lands p word phase k e g at_work)
  where
    way : (phase : Phase) → IsWork phase → under_way phase ≡ 1
    way Idle a = absurd a
    way _ a = refl

    none : (phase : Phase) → IsWork phase → swept_at phase ≡ 0
    none (Sweeping due n) a = absurd a
    none (Closing n) a = absurd a
    none _ a = refl

-- what a word may be where a machine is at work, and what it is given to
may_work : (p : Private) (word : ℕ) (phase : Phase) → IsMachine p → p.phase ≡ phase → IsWork phase → IsGivenAt p word phase → MayWork (parts_of p) word phase
unfolding IsGivenAt
may_work p word (Releasing m) k e at_work g = let a : IsAt p (Releasing m) = now_at p (Releasing m) k e in (record { clearing = a.clearing; exchanged = a.exchanged; exchanges = a.exchanges; few = omega (arith, told_at p (Releasing m) k e, k.collections, k.epoch) }, g)
may_work p word (Freeing m) k e at_work g = let a : IsAt p (Freeing m) = now_at p (Freeing m) k e in (record { clearing = a.clearing; exchanged = a.exchanged; exchanges = a.exchanges; few = omega (arith, told_at p (Freeing m) k e, k.collections, k.epoch) }, g)
may_work p word (Trying m) k e at_work g = let a : IsAt p (Trying m) = now_at p (Trying m) k e in (a.busy, a.kept, g)
may_work p word (Preparing m) k e at_work g = let a : IsAt p (Preparing m) = now_at p (Preparing m) k e in (a.busy, a.kept, g)
may_work p word _ k e at_work g = absurd at_work

-- and what the freeing of a set may be given to
pub may_free : (p : Private) (phase : Phase) → IsMachine p → p.phase ≡ phase → IsFreeingIn phase → MayFree (parts_of p) phase
may_free p (Freeing m) k e f = let a : IsAt p (Freeing m) = now_at p (Freeing m) k e in record { clearing = a.clearing; exchanged = a.exchanged; exchanges = a.exchanges; few = omega (arith, told_at p (Freeing m) k e, k.collections, k.epoch) }
may_free p _ k e f = absurd f

-- what is learnt and answered then
pub work_took : (p : Private) (word : ℕ) (phase : Phase) → IsWork phase → (came p (worked (parts_of p) word phase) ≡ took_at p word phase) × (came_turn p.epoch (worked (parts_of p) word phase).phase ≡ turn_at p word phase)
unfolding took_at turn_at
work_took p word (Releasing m) w = (refl, refl)
work_took p word (Freeing m) w = (refl, refl)
work_took p word (Trying m) w = (refl, refl)
work_took p word (Preparing m) w = (refl, refl)
work_took p word _ w = absurd w

-- the batch as its call tells it
pub batch_follows : (p : Private) (n : Next) (newer older : List Contents) → n ≡ followed (zeros_released false (record (parts_of p) { counts = applied p.policy.steady p.counts newer older })) → newer ≡ p.newer → older ≡ p.older → n ≡ batch_next p
batch_follows p n newer older e f g =
    e ∙ ap (λ (b : List Contents). followed (zeros_released false (record (parts_of p) { counts = applied p.policy.steady p.counts b older }))) f
    ∙ ap (λ (b : List Contents). followed (zeros_released false (record (parts_of p) { counts = applied p.policy.steady p.counts p.newer b }))) g

-- what a word may be, by the phase
pub asked : (p now : Private) (word : ℕ) (phase : Phase) → p ≡ now → p.phase ≡ phase → IsGiven now word → IsGivenAt now word phase
unfolding IsGiven
asked p now word phase v e g = subst (IsGivenAt now word) (ap (λ (q : Private). q.phase) (sym v) ∙ e) g

-- and what is learnt
pub learnt : (p now : Private) (word : ℕ) (q : Private) (turn : Turn) (phase : Phase) → p ≡ now → p.phase ≡ phase → q ≡ took_at now word phase → turn ≡ turn_at now word phase → (q ≡ took_of now word) × (turn ≡ turn_of now word)
unfolding took_of turn_of
learnt p now word q turn phase v e took told =
    let f : now.phase ≡ phase = ap (λ (r : Private). r.phase) (sym v) ∙ e in
    (took ∙ sym (ap (took_at now word) f), told ∙ sym (ap (turn_at now word) f))

-- a turn on the parts, as its calls tell: it came to `n`, which is what follows
module _ (p now : Private) (word : ℕ) (phase : Phase) (n : Next) (k : IsMachine p) (v : p ≡ now) (e : now.phase ≡ phase) (g : IsGivenAt now word phase) (at_work : IsWork phase) (is : n ≡ worked (parts_of p) word phase) where
  abbrev at : p.phase ≡ phase
  at = ap (λ (q : Private). q.phase) v ∙ e

  abbrev given : IsGivenAt p word phase
  given = subst (λ (q : Private). IsGivenAt q word phase) (sym v) g

  pub turned_keeps : IsMachine (landed p n)
  turned_keeps = subst (λ (m : Next). IsMachine (landed p m)) (sym is) (work_keeps p word phase k at given at_work)

  turned : (q : Private) (turn : Turn) → q ≡ ended_if n.phase (landed p n) → turn ≡ came_turn p.epoch n.phase → KeepsSizes (landed p n) q → (q ≡ took_at now word phase) × (turn ≡ turn_at now word phase) × KeepsSizes now q
  turned q turn ends answers sizes = (
    ends ∙ ap (came p) is ∙ (work_took p word phase at_work).0 ∙ ap (λ (r : Private). took_at r word phase) v,
    answers ∙ ap (λ (m : Next). came_turn p.epoch m.phase) is ∙ (work_took p word phase at_work).1 ∙ ap (λ (r : Private). turn_at r word phase) v,
    subst (λ (r : Private). KeepsSizes r q) v (landed_sizes p q n (subst (Lands p) (sym is) (work_lands p word phase k at given at_work)) sizes),
  )

-- of a machine that its fields make up, and of the machine at work in it
module _ (p now : Private) (word : ℕ) (k : IsMachine p) (v : p ≡ now) (works : IsWork now.phase) (gives : IsGivenAt now word now.phase) where
  seen_works : IsWork p.phase
  seen_works = subst (λ (q : Private). IsWork q.phase) (sym v) works

  seen_given : IsGivenAt p word p.phase
  seen_given = subst (λ (q : Private). IsGivenAt q word q.phase) (sym v) gives

  pub may_seen : MayWork (parts_of p) word p.phase
  may_seen = may_work p word p.phase k refl seen_works seen_given

  -- what it comes to next
  pub seen_keeps : (n : Next) → n ≡ worked (parts_of p) word p.phase → IsMachine (landed p n)
  seen_keeps n is = turned_keeps p p word p.phase n k refl refl seen_given seen_works is

  pub seen_turned : (n : Next) → n ≡ worked (parts_of p) word p.phase → (q : Private) (turn : Turn) → q ≡ ended_if n.phase (landed p n) → turn ≡ came_turn p.epoch n.phase → KeepsSizes (landed p n) q
      → (q ≡ took_at now word now.phase) × (turn ≡ turn_at now word now.phase) × KeepsSizes now q
  seen_turned n is q turn ends answers sizes =
      subst (λ (x : Private). (q ≡ took_at x word x.phase) × (turn ≡ turn_at x word x.phase) × KeepsSizes x q) v (turned p p word p.phase n k refl refl seen_given seen_works is q turn ends answers sizes)

-- where nothing is to be swept, the collection is complete
ended_if_keeps : (p : Private) (phase : Phase) → IsMachine p → p.phase ≡ phase → IsMachine (ended_if phase p)
ended_if_keeps p (Closing n) k e = ended_keeps p n k e
ended_if_keeps p _ k e = k

-- a turn that works on the parts
pub came_keeps : (p : Private) (n : Next) → IsMachine (landed p n) → IsMachine (came p n)
came_keeps p n k = ended_if_keeps (landed p n) n.phase k refl

-- the next mutator follows, or the batch
behind_keeps : (p : Private) (t : ℕ) → IsMachine p → MayGatherBehind p t → IsMachine (behind p t)
behind_keeps p t k g = go (next_present p.left t) refl
  where
    go : (next : Option ℕ) → next_present p.left t ≡ next → IsMachine (gathering_on p next)
    go None none = came_keeps p (batch_next p) (batch_keeps p t k g none)
    go (Some next) found = next_keeps p t next k g found

idle_keeps : (p : Private) → IsMachine p → p.phase ≡ Idle → (HaveLeft p.left 0 → IsCovered p.counts p.newer p.older) → IsMachine (if is_spent p then p else behind (requested p) 0)
idle_keeps p k e g = go (is_spent p) refl
  where
    go : (b : Bool) → is_spent p ≡ b → IsMachine (cond b p (behind (requested p) 0))
    go true s = k
    go false s = behind_keeps (requested p) 0 (requested_keeps p k e (eqb-false (p.epoch + 1) (2 ^ 24) s)) (requested_gathers p k e g)

-- a look at a mutator's crossing word: its mailbox is held, or the collector crosses for it
look_keeps : (p : Private) (t : ℕ) (l : Looked) → IsMachine p → p.phase ≡ Looking t → IsLookGiven p t l → IsMachine (after_look p t l)
look_keeps p t (Takes new) k e g =
    let a : IsAt p (Looking t) = now_at p (Looking t) k e in
    machine_on p p.epoch p.counts p.freed (Swapping t) k k.epoch (under_way_at p (Looking t) k e) (freed_at p (Looking t) k e) k.counts (told_at p (Looking t) k e)
    (record { gathering = record { rest = a.rest; first = a.first; there = a.there; spares = a.spares; turns = omega (arith, a.turns, a.first) }; present = a.present })
look_keeps p t (Crosses new) k e g = behind_keeps (crossed_for p t) t (crossed_keeps p t k e) (crossed_gathers p t k e g)
look_keeps p t Waits k e g = k

-- what is learnt
took_keeps_at : (p : Private) (word : ℕ) (phase : Phase) → IsMachine p → p.phase ≡ phase → IsGivenAt p word phase → IsMachine (took_at p word phase)
unfolding took_at IsGivenAt sweeps.took_of
took_keeps_at p word Idle k e g = idle_keeps p k e g
took_keeps_at p word (Looking t) k e g = look_keeps p t (looked p.epoch word) k e g
took_keeps_at p word (Swapping t) k e g = absurd g
took_keeps_at p word (Returning t) k e g = behind_keeps (noted p t) t (noted_keeps p t k e) (noted_gathers p t k e g)
took_keeps_at p word Opening k e g = opening_keeps p k e
took_keeps_at p word (Sweeping due n) k e g = sweeping_keeps p due n word k e (sweep_kept p.counts due k.counts)
took_keeps_at p word (Closing n) k e g = ended_keeps p n k e
took_keeps_at p word phase k e g = came_keeps p (worked (parts_of p) word phase) (work_keeps p word phase k e g tt)

-- a whole step: where a mailbox is held, its buffer is swapped
kept_at : (p : Private) (word : ℕ) (box : Contents) (phase : Phase) → IsMachine p → p.phase ≡ phase → IsBetween phase → IsGivenAt p word phase → IsSized p.registers p.capacity box → IsMachine (swapped_of (took_at p word phase) box)
unfolding took_at swapped_of IsGivenAt
kept_at p word box (Swapping t) k e b g z = absurd b
kept_at p word box (Looking t) k e b g z = go (looked p.epoch word) g
  where
    go : (l : Looked) → IsLookGiven p t l → IsMachine (swapped_of (after_look p t l) box)
    go (Takes new) g = swap_keeps (moved p (Swapping t)) t box z (look_keeps p t (Takes new) k e g) refl
    go (Crosses new) g =
        let q : Private = behind (crossed_for p t) t in
        subst IsMachine (sym (same_swapped q box q.phase refl (gathers_between (crossed_for p t) (next_present p.left t)))) (look_keeps p t (Crosses new) k e g)
    go Waits g = subst IsMachine (sym (same_swapped p box (Looking t) e tt)) k
kept_at p word box phase k e b g z =
    let q : Private = took_at p word phase in
    subst IsMachine (sym (same_swapped q box q.phase refl (took_between p word phase e b (λ t. λ q. cc)))) (took_keeps_at p word phase k e g)

pub machine_kept : (p : Private) (word : ℕ) (box : Contents) → IsMachine p → IsBetween p.phase → IsGiven p word → IsSized p.registers p.capacity box → IsMachine (step_of p word box)
unfolding step_of took_of IsGiven
machine_kept p word box k between given sized = kept_at p word box p.phase k refl between given sized

module _ (p : Private) (b : Bool) where
  gathering_kept : (t given_back made : ℕ) → IsGathering p t given_back made → IsGathering (record p { offers = b }) t given_back made
  gathering_kept t given_back made g = record { rest = g.rest; first = g.first; there = g.there; spares = g.spares; turns = g.turns }

  sweeping_on : (swept made : ℕ) → IsSweeping p swept made → IsSweeping (record p { offers = b }) swept made
  sweeping_on swept made s = record { before = s.before; left = s.left; turns = s.turns }

  at_on : (phase : Phase) → IsAt p phase → IsAt (record p { offers = b }) phase
  at_on Idle a = a
  at_on (Releasing m) a = record { clearing = record { fields = a.clearing.fields; busy = a.clearing.busy; tidy = a.clearing.tidy; release = a.clearing.release; work = a.clearing.work }; exchanged = a.exchanged; exchanges = record { gone = a.exchanges.gone; are = a.exchanges.are; few = a.exchanges.few }; turns = a.turns }
  at_on (Freeing m) a = record { clearing = record { fields = a.clearing.fields; busy = a.clearing.busy; tidy = a.clearing.tidy; freeing = a.clearing.freeing }; exchanged = a.exchanged; exchanges = record { gone = a.exchanges.gone; are = a.exchanges.are; few = a.exchanges.few }; turns = a.turns }
  at_on (Trying m) a = record { fields = a.fields; on_trial = a.on_trial; busy = a.busy; turns = a.turns }
  at_on (Preparing m) a = record { fields = a.fields; preparation = a.preparation; busy = a.busy; turns = a.turns }
  at_on Opening a = (sweeping_on 0 0 a.0, a.1)
  at_on (Sweeping due n) a = (sweeping_on n _ a.0, a.1, a.2)
  at_on (Closing n) a = (sweeping_on n _ a.0, a.1)
  at_on (Looking t) a = record { gathering = gathering_kept _ _ _ a.gathering; present = a.present }
  at_on (Swapping t) a = record { gathering = gathering_kept _ _ _ a.gathering; present = a.present }
  at_on (Returning t) a = gathering_kept _ _ _ a

  told_on : (phase : Phase) → IsTold p phase → IsTold (record p { offers = b }) phase
  told_on Idle t = t
  told_on _ t = t

  pub offers_kept : IsMachine p → IsMachine (record p { offers = b })
  offers_kept k = record {
    epoch = k.epoch;
    collections = k.collections;
    freed = k.freed;
    some_fields = k.some_fields;
    few_fields = k.few_fields;
    rows = k.rows;
    left = k.left;
    counts = k.counts;
    told = told_on p.phase k.told;
    postponed = k.postponed;
    now = at_on p.phase k.now;
  }

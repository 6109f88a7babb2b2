-- A work that begins, and its first step.
use Rattle.std.proofs.Common.{◌≡◌, ◌-◌, ◌+◌, ℕ, List, Some, None, Option, true, false, map, length, slice_index_or, slice_set, arith, refl, sym, ap, subst, ◌∙◌}
use Rattle.std.specs.Option.{is_none}
use Rattle.std.proofs.lemmas.List.{set-set, get_or_default}
use Rattle.rec_world.proofs.Common.{Contents, next_of, Private, is_busy, work_of, answer_of, begun_of, took_of, step_of, left_of, Cells, cell, with_cell, births_of, IsMutator, IsWork, HasLabel, Core, cells_of, mutator, nobody, Move, Fits, begun, stepped, core, IsWhole, held, IsWorld, IsFinished}
use Rattle.rec_word.specs.Op.{written}
use Rattle.rec_mutator.specs.declared.made.Made.{Made}
use Rattle.rec_mutator.specs.declared.work.Work.{Work}
use Rattle.rec_core.specs.Kept.{IsKept}
use Rattle.rec_core.specs.Preconditions.{MayStep}
use Rattle.rec_core.specs.Worked.{StepsTo}
use Rattle.rec_core.proofs.Showing.{mutator_left}
use Rattle.rec_core.proofs.Unfinished.{waits_none, work_stays, step_busy}
use Rattle.rec_core.proofs.Words.{may_step}
use Rattle.rec_world.specs.declared.world.World.TheInside.{Inside}
use Rattle.rec_world.proofs.Calls.{Ready, ready, mutator_read, moved_world, own_work, world_kept, begun_found}
use Rattle.rec_world.proofs.OneStep.{made_step_is}
use Rattle.rec_world.proofs.Skipping.{GoesOn, goes_on, path_both, path_waits}

-- the mutator that began
began : (w : Core) (t : ℕ) (work : Work) → IsKept false w → IsMutator w.config t → mutator (begun w t work) t ≡ begun_of (mutator w t) work 0
began w t work kept is = mutator_left w t (begun_of (mutator w t) work 0) kept is

-- it is busy, with this work
began_busy : (w : Core) (t : ℕ) (work : Work) → IsKept false w → IsMutator w.config t → is_busy (mutator (begun w t work) t) ≡ true
unfolding begun_of
began_busy w t work kept is = ap is_busy (began w t work kept is)

pub began_work : (w : Core) (t : ℕ) (work : Work) → IsKept false w → IsMutator w.config t → work_of (mutator (begun w t work) t) ≡ Some work
unfolding begun_of
began_work w t work kept is = ap work_of (began w t work kept is)

-- what is known of a world in which a work may begin, and of its first step
pub record MayBegin (inside : Inside) (t : ℕ) (work : Work) : Type 0 where
  pub was : Ready inside t
  pub world : IsWorld (begun (core inside) t work)
  pub kept : IsKept false (begun (core inside) t work)
  pub busy : is_busy (mutator (begun (core inside) t work) t) ≡ true
  pub began : mutator (begun (core inside) t work) t ≡ begun_of (mutator (core inside) t) work 0
  pub may : MayStep (begun (core inside) t work) t
  pub fits : Fits (core inside) (Move.Begins t work 0)

pub may_begin : (inside : Inside) (old : Core) (t : ℕ) (work : Work) → IsWhole inside → core inside ≡ old → IsMutator old.config t → (mutator old t).left ≡ false → IsWork old.config work → is_busy (mutator old t) ≡ false → HasLabel work → MayBegin inside t work
may_begin inside old t work whole view is present fits idle label =
    let was : Ready inside t = ready inside old t whole view is in
    let w : Core = core inside in
    let its_work : IsWork w.config work = subst (λ (x : Core). IsWork x.config work) (sym view) fits in
    let may : Fits w (Move.Begins t work 0) = (was.is, ap (λ (x : Core). is_busy (mutator x t)) view ∙ idle, ap (λ (x : Core). (mutator x t).left) view ∙ present, own_work w t work was.kept was.is its_work, label, was.kept.config.some_slots) in
    let world : IsWorld (begun w t work) = moved_world w (Move.Begins t work 0) whole.world may in
    let kept : IsKept false (begun w t work) = world_kept (begun w t work) world in
    let busy : is_busy (mutator (begun w t work) t) ≡ true = began_busy w t work was.kept was.is in
    record { was = was; world = world; kept = kept; busy = busy; began = began w t work was.kept was.is; may = may_step (begun w t work) t kept was.is busy; fits = may }

-- the machine that began is the mutator
pub began_read : (inside : Inside) (t i : ℕ) (work : Work) (p q : Private) → IsWhole inside → MayBegin inside t work → i ≡ t → p ≡ slice_index_or (core inside).mutators (i - 1) p → q ≡ begun_of p work 0
    → q ≡ mutator (begun (core inside) t work) t
began_read inside t i work p q whole may at read begins =
    begins ∙ ap (λ x. begun_of x work 0) (mutator_read (core inside) t i p whole.world.shaped may.was.is at read) ∙ sym may.began

-- the machine that began, as it is read again
began_again : (inside : Inside) (t i : ℕ) (work : Work) (q : Private) → MayBegin inside t work → i ≡ t → q ≡ mutator (begun (core inside) t work) t → q ≡ slice_index_or (begun (core inside) t work).mutators (i - 1) q
began_again inside t i work q may at read =
    let b : Core = begun (core inside) t work in
    let many : length b.mutators ≡ (core inside).config.mutators = may.world.shaped.mutators in
    read ∙ get_or_default b.mutators (t - 1) nobody q (omega (arith, many, may.was.is.0, may.was.is.1)) ∙ ap (λ n. slice_index_or b.mutators (n - 1) q) (sym at)

-- what the first step leaves
pub first_step_is : (inside : Inside) (t i births : ℕ) (work : Work) (q new : Private) (mailbox left : Option Contents) (cells : Cells)
    → MayBegin inside t work → i ≡ t → q ≡ mutator (begun (core inside) t work) t → mailbox ≡ slice_index_or inside.boxes.items (i - 1) mailbox
    → new ≡ step_of q (cell (cells_of (core inside)) (next_of q)) (held mailbox) → cells ≡ with_cell (cells_of (core inside)) (next_of q) (written (next_of q) (cell (cells_of (core inside)) (next_of q)))
    → left ≡ Some (left_of (took_of q (cell (cells_of (core inside)) (next_of q))) (held mailbox)) → births ≡ births_of (next_of q) (cell (cells_of (core inside)) (next_of q))
    → ◌≡◌ {A = Core} (record (core inside) { headers = cells.headers; words = cells.words; epoch = cells.epoch; freed = cells.freed; crossing = cells.crossing; mutators = slice_set (core inside).mutators (i - 1) new; boxes = map held (slice_set inside.boxes.items (i - 1) left); made = inside.made + births })
    (stepped (begun (core inside) t work) t)
first_step_is inside t i births work q new mailbox left cells may at read its_box makes leaves gives counts =
    let w : Core = core inside in
    let make : List Private → Core = λ ms. record w { headers = cells.headers; words = cells.words; epoch = cells.epoch; freed = cells.freed; crossing = cells.crossing; mutators = ms; boxes = map held (slice_set inside.boxes.items (i - 1) left); made = inside.made + births } in
    ap make (sym (set-set w.mutators (i - 1) (begun_of (mutator w t) work 0) new) ∙ ap (λ n. slice_set (slice_set w.mutators (n - 1) (begun_of (mutator w t) work 0)) (i - 1) new) at)
    ∙ made_step_is (begun w t work) t i births inside.boxes.items q new mailbox left cells may.world.shaped may.was.is refl may.was.boxed at (began_again inside t i work q may at read) its_box makes leaves gives counts

-- a work that was finished by its first step
pub finished_first : (w v : Core) (t : ℕ) (work : Work) (made : Made) → IsKept false w → IsMutator w.config t → IsWorld (begun w t work) → v ≡ stepped (begun w t work) t → answer_of (mutator v t) ≡ Some made → IsFinished (begun w t work) t made v
finished_first w v t work made kept is world steps answer =
    let b : Core = begun w t work in
    record { last = b; path = StepsTo.here b refl; waits = waits_none b t (begun_found w t work kept is); busy = began_busy w t work kept is; work = refl; world = world; steps = steps; answer = answer }

-- a work whose first step finished nothing
pub first_goes_on : (w v : Core) (t : ℕ) (work : Work) → IsKept false w → IsMutator w.config t → IsWorld (begun w t work) → v ≡ stepped (begun w t work) t → answer_of (mutator v t) ≡ None → GoesOn (begun w t work) v t
first_goes_on w v t work kept is world steps none =
    let b : Core = begun w t work in
    goes_on b b v t world is (waits_none b t (begun_found w t work kept is)) (began_busy w t work kept is) steps none

-- it goes on
pub first_busy : (w v : Core) (t : ℕ) (work : Work) → IsKept false w → IsMutator w.config t → IsWorld (begun w t work) → v ≡ stepped (begun w t work) t → answer_of (mutator v t) ≡ None → is_busy (mutator v t) ≡ true
first_busy w v t work kept is world steps none =
    let b : Core = begun w t work in
    ap (λ (x : Core). is_busy (mutator x t)) steps ∙ step_busy b t (world_kept b world) is (began_busy w t work kept is) ∙ ap (λ (x : Core). is_none (answer_of (mutator x t))) (sym steps) ∙ ap is_none none

-- and is finished by later ones
pub finished_later : (w v u : Core) (t : ℕ) (work : Work) (made : Made) → IsKept false w → IsMutator w.config t → IsWorld (begun w t work) → v ≡ stepped (begun w t work) t → GoesOn (begun w t work) v t
    → IsFinished v t made u → IsFinished (begun w t work) t made u
finished_later w v u t work made kept is world steps on f =
    let b : Core = begun w t work in
    let busy : is_busy (mutator b t) ≡ true = began_busy w t work kept is in
    record {
      last = f.last;
      path = path_both b t v f.last (StepsTo.further b v (StepsTo.here b refl) busy steps) f.path;
      waits = path_waits b v t f.last on.world on.is on.waits f.path f.busy;
      busy = f.busy;
      work = f.work ∙ ap (λ (x : Core). work_of (mutator x t)) steps ∙ work_stays b t (world_kept b world) is busy;
      world = f.world;
      steps = f.steps;
      answer = f.answer;
    }

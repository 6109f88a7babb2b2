-- What the fields of a world become in a call is what the definitions say of the core that they make up.
use Rattle.std.proofs.Common.{◌≡◌, ◌≢◌, inl, inr, ℕ, ◌+◌, ◌-◌, ◌*◌, ◌^◌, ◌<◌, ◌≤◌, ◌==◌, if◌then◌else◌, All, List, Option, None, Some, Bool, true, false, slice_index_or, slice_set, length, map, replicate, refl, sym, ap, subst, ◌∙◌, arith}
use Rattle.std.specs.List.{sum_by}
use Rattle.std.specs.Option.{IsSome}
use Rattle.std.proofs.lemmas.Bool.{cases_eq}
use Rattle.std.proofs.Math.ListN.{get_or-map}
use Rattle.std.proofs.lemmas.List.{get_or_default, get_or-replicate, get_or-set_same, get_or-set_other, length-set, length-map, length-replicate, map-set}
use Rattle.std.proofs.lemmas.List.Elements.{All-from_get_or}
use Rattle.std.proofs.lemmas.List.Sums.{sum_by-le}
use Rattle.std.proofs.Math.Nat.{mul-le-mul}
use Rattle.rec_world.proofs.Common.{Contents, next_of, Private, is_busy, IsValid, begun_of, took_of, step_of, swapped_of, left_of, Cells, cell, with_cell, births_of, IsMutator, IsWork, Core, cells_of, mutator, box, nobody, spare_of, Move, after_move, Fits, begun, stepped, found_by, looked_at, core, IsWhole, held, IsShaped, IsWorld, IsFinished}
use Rattle.rec_word.specs.Op.{written}
use Rattle.rec_word.specs.declared.op.Op.{Op}
use Rattle.rec_word.specs.declared.op.Op.TheVariants as ops
use Rattle.rec_model.proofs.Operands.{operands_same}
use Rattle.rec_mutator.specs.Causes.{gives_back}
use Rattle.rec_mutator.specs.declared.made.Made.{Made}
use Rattle.rec_mutator.specs.declared.phase.Phase as phases
use Rattle.rec_mutator.specs.declared.phase.Phase.TheVariants.{Begun, Parting}
use Rattle.rec_mutator.specs.declared.work.Work.{Work}
use Rattle.rec_mutator.specs.declared.work.Work.TheVariants as works
use Rattle.rec_collector.specs.Private as collectors
use Rattle.rec_core.specs.Kept.{IsKept, entries_made}
use Rattle.rec_core.specs.Pending.{epoch_at}
use Rattle.rec_core.specs.Unfinished.{HasFound}
use Rattle.rec_core.specs.Worked.{StepsTo, IsWorked}
use Rattle.rec_core.specs.declared.config.Config.{Config}
use Rattle.rec_core.proofs.BareRuns.{end_kept, move_kept}
use Rattle.rec_core.proofs.Runs.{looked_is, run_more}
use Rattle.rec_core.proofs.Showing.{mutator_left}
use Rattle.rec_core.proofs.Steps.{actor_of}
use Rattle.rec_core.proofs.Turns.{numbered}
use Rattle.rec_world.specs.declared.world.World.TheInside.{Inside}

-- a world keeps what every heap with its collector keeps
pub world_kept : (w : Core) → IsWorld w → IsKept false w
world_kept w world = end_kept w world.shaped.config world.run

-- what such a heap keeps tells of its words and registers
pub shaped_of : (w : Core) → IsKept false w → IsShaped w
shaped_of w kept =
    record {
      config = kept.config;
      headers = kept.headers;
      mutators = kept.mutators.many;
      registers = λ t is. (actor_of w t kept is).own.registers;
      slots = kept.collector.slots;
      labels = kept.labels;
      epoch = subst (λ n. n < 2 ^ 24) kept.collector.epoch kept.collector.machine.epoch;
      sound = kept.sound;
    }

-- every move leaves a world
pub moved_world : (w : Core) (m : Move) → IsWorld w → Fits w m → IsWorld (after_move w m)
moved_world w m world fits = record { shaped = shaped_of (after_move w m) (move_kept w m (world_kept w world) fits); run = run_more w m world.run fits }

-- a mutator that was read from the list
pub mutator_read : (w : Core) (t i : ℕ) (p : Private) → IsShaped w → IsMutator w.config t → i ≡ t → p ≡ slice_index_or w.mutators (i - 1) p → p ≡ mutator w t
mutator_read w t i p shaped is at read =
    let all : length w.mutators ≡ w.config.mutators = shaped.mutators in
    read ∙ ap (λ n. slice_index_or w.mutators (n - 1) p) at ∙ get_or_default w.mutators (t - 1) p nobody (omega (arith, is.0, is.1))

-- a work that fits the heap fits the mutator
pub own_work : (w : Core) (t : ℕ) (work : Work) → IsKept false w → IsMutator w.config t → IsWork w.config work → IsValid (mutator w t) work
own_work w t (works.Command cmd) kept is fits = let own = (actor_of w t kept is).own in operands_same cmd (sym own.registers) (sym own.fields) fits
own_work w t works.Poll kept is fits = tt

-- what the begin of a work leaves
pub begun_is : (w : Core) (t i : ℕ) (work : Work) (p new : Private) → IsShaped w → IsMutator w.config t → i ≡ t → p ≡ slice_index_or w.mutators (i - 1) p → new ≡ begun_of p work 0
    → ◌≡◌ {A = Core} (record w { mutators = slice_set w.mutators (i - 1) new }) (begun w t work)
begun_is w t i work p new shaped is at read begins =
    let make : ℕ → Private → Core = λ n x. record w { mutators = slice_set w.mutators (n - 1) x } in
    ap (λ n. make n new) at ∙ ap (make t) (begins ∙ ap (λ x. begun_of x work 0) (mutator_read w t i p shaped is at read))

-- a mailbox that was read from those of a world
pub box_read : (boxes : List (Option Contents)) (t i : ℕ) (mailbox : Option Contents) → i ≡ t → t - 1 < length boxes → mailbox ≡ slice_index_or boxes (i - 1) mailbox → held mailbox ≡ slice_index_or (map held boxes) (t - 1) (collectors.blank 0 0)
box_read boxes t i mailbox at there read =
    ap held (read ∙ ap (λ n. slice_index_or boxes (n - 1) mailbox) at ∙ get_or_default boxes (t - 1) mailbox None there) ∙ sym (get_or-map held boxes (t - 1) None)

-- it is home
pub box_home : (boxes : List (Option Contents)) (i : ℕ) (mailbox : Option Contents) → ((j : ℕ) → j < length boxes → IsSome (slice_index_or boxes j None)) → i < length boxes → mailbox ≡ slice_index_or boxes i mailbox → IsSome mailbox
box_home boxes i mailbox home there read = subst IsSome (sym (read ∙ get_or_default boxes i mailbox None there)) (home i there)

-- with one that is home replaced by another that is, all are home
pub home_again : (boxes : List (Option Contents)) (i : ℕ) (x : Option Contents) → IsSome x → ((j : ℕ) → j < length boxes → IsSome (slice_index_or boxes j None)) → (j : ℕ) → j < length (slice_set boxes i x) → IsSome (slice_index_or (slice_set boxes i x) j None)
home_again boxes i x some home j there =
    let within : j < length boxes = subst (λ n. j < n) (length-set boxes i x) there in
    elim (cases_eq i j) [
      | inl same ↦ subst IsSome (sym (ap (λ n. slice_index_or (slice_set boxes n x) j None) same ∙ get_or-set_same boxes j x None within)) some
      | inr other ↦ subst IsSome (sym (get_or-set_other boxes i j x None (λ same. other (sym same)))) (home j within)
    ]

-- there is a mailbox for each mutator
boxes_many : (w : Core) (t : ℕ) (boxes : List (Option Contents)) → IsKept false w → IsMutator w.config t → w.boxes ≡ map held boxes → t - 1 < length boxes
boxes_many w t boxes kept is same =
    let many : length boxes ≡ w.config.mutators = sym (ap (λ (bs : List Contents). length bs) same ∙ rw length-map refl) ∙ kept.mutators.mailboxes in
    omega (arith, is.0, is.1)

-- a mutator has made no more entries than fit all epochs
few_entries : (w : Core) (t : ℕ) → IsKept false w → IsMutator w.config t → entries_made w.config (mutator w t) ≤ 2 ^ 58
few_entries w t kept is =
    let a = actor_of w t kept is in
    let p : Private = mutator w t in
    let epoch : epoch_at p < 2 ^ 25 = small p.phase in
    let capacity : p.log.capacity ≡ w.config.log_entries = a.own.capacity in
    let few : length p.log.entries ≤ p.log.capacity = a.log.few in
    let most : w.config.log_entries ≤ 262143 = kept.config.few_log_entries in
    let all : (epoch_at p - w.config.first_epoch) * w.config.log_entries ≤ 2 ^ 25 * 262143 = mul-le-mul {n₂ = 2 ^ 25} {m₂ = 262143} (omega (arith, epoch)) most in
    omega arith
  where
    small : (phase : phases.Phase) → (if gives_back phase then (mutator w t).epoch + 1 else (mutator w t).epoch) < 2 ^ 25
    small phase = go (gives_back phase) (actor_of w t kept is).own.machine.epoch
      where
        go : (b : Bool) → (mutator w t).epoch ≤ 2 ^ 24 → (if b then (mutator w t).epoch + 1 else (mutator w t).epoch) < 2 ^ 25
        go true few = omega arith
        go false few = omega arith

-- so a birth more is counted
pub made_small : (w : Core) → IsKept false w → w.made + 1 < 2 ^ 64
made_small w kept =
    let each : All (λ (p : Private). entries_made w.config p ≤ 2 ^ 58) w.mutators
    = All-from_get_or (λ (p : Private). entries_made w.config p ≤ 2 ^ 58) w.mutators nobody (λ i there. subst (λ n. entries_made w.config (slice_index_or w.mutators n nobody) ≤ 2 ^ 58) (let same : i + 1 - 1 ≡ i = omega arith in same) (few_entries w (i + 1) kept (numbered w i kept (subst (λ n. i < n) kept.mutators.many there)))) in
    let all : sum_by (entries_made w.config) w.mutators ≤ length w.mutators * 2 ^ 58 = sum_by-le (entries_made w.config) (2 ^ 58) w.mutators each in
    let many : length w.mutators ≡ w.config.mutators = kept.mutators.many in
    let few : w.config.mutators ≤ 63 = kept.config.few_mutators in
    let made : w.made ≤ w.config.slots + sum_by (entries_made w.config) w.mutators = kept.made in
    let slots : w.config.slots ≤ 65535 = kept.config.few_slots in
    let product : length w.mutators * 2 ^ 58 ≤ 63 * 2 ^ 58 = mul-le-mul {n₂ = 63} {m₂ = 2 ^ 58} (omega arith) (omega arith) in
    omega arith

-- an operation makes one birth at most
pub births_few : (op : Op) (found : ℕ) → births_of op found ≤ 1
births_few (ops.ClaimHeader slot header) found = go (found == 0)
  where
    go : (b : Bool) → (if b then 1 else 0) ≤ 1
    go true = omega arith
    go false = omega arith
births_few _ found = omega arith

-- what a step leaves
pub stepped_is : (w : Core) (t i : ℕ) (boxes : List (Option Contents)) (op : Op) (found births : ℕ) (p q : Private) (mailbox left : Option Contents) (taken new : Private) (cells : Cells)
    → IsShaped w → IsMutator w.config t → w.boxes ≡ map held boxes → t - 1 < length boxes → i ≡ t
    → p ≡ slice_index_or w.mutators (i - 1) p → q ≡ slice_index_or w.mutators (i - 1) q → mailbox ≡ slice_index_or boxes (i - 1) mailbox
    → op ≡ next_of p → found ≡ cell (cells_of w) op → cells ≡ with_cell (cells_of w) op (written op found)
    → taken ≡ took_of q found → new ≡ swapped_of taken (held mailbox) → left ≡ Some (left_of taken (held mailbox)) → births ≡ births_of op found
    → ◌≡◌ {A = Core} (record w { headers = cells.headers; words = cells.words; epoch = cells.epoch; freed = cells.freed; crossing = cells.crossing; mutators = slice_set w.mutators (i - 1) new; boxes = map held (slice_set boxes (i - 1) left); made = w.made + births }) (stepped w t)
unfolding step_of
stepped_is w t i boxes op found births p q mailbox left taken new cells shaped is same there at read read_again its_box names finds leaves learns swaps gives counts =
    let make : ℕ → Cells → Private → List Contents → ℕ → Core
    = λ n x y b k. record w { headers = x.headers; words = x.words; epoch = x.epoch; freed = x.freed; crossing = x.crossing; mutators = slice_set w.mutators (n - 1) y; boxes = b; made = w.made + k } in
    let m : Private = mutator w t in
    let its_op : op ≡ next_of m = names ∙ ap next_of (mutator_read w t i p shaped is at read) in
    let its_word : found ≡ found_by w t = finds ∙ ap (cell (cells_of w)) its_op in
    let learnt : taken ≡ took_of m (found_by w t) = learns ∙ ap (λ x. took_of x found) (mutator_read w t i q shaped is at read_again) ∙ ap (took_of m) its_word in
    let was : held mailbox ≡ box w t = box_read boxes t i mailbox at there its_box ∙ ap (λ (bs : List Contents). slice_index_or bs (t - 1) (collectors.blank 0 0)) (sym same) in
    let its_new : new ≡ step_of m (found_by w t) (box w t) = swaps ∙ ap (λ x. swapped_of x (held mailbox)) learnt ∙ ap (swapped_of (took_of m (found_by w t))) was in
    let its_left : left ≡ Some (left_of (took_of m (found_by w t)) (box w t)) = gives ∙ ap (λ x. Some (left_of x (held mailbox))) learnt ∙ ap (λ b. Some (left_of (took_of m (found_by w t)) b)) was in
    let boxed : map held (slice_set boxes (i - 1) left) ≡ slice_set w.boxes (t - 1) (left_of (took_of m (found_by w t)) (box w t))
    = ap (λ n. map held (slice_set boxes (n - 1) left)) at ∙ ap (λ x. map held (slice_set boxes (t - 1) x)) its_left ∙ map-set held boxes (t - 1) (Some (left_of (took_of m (found_by w t)) (box w t)))
    ∙ ap (λ bs. slice_set bs (t - 1) (left_of (took_of m (found_by w t)) (box w t))) (sym same) in
    let its_cells : cells ≡ with_cell (cells_of w) (next_of m) (written (next_of m) (found_by w t)) = leaves ∙ ap (λ o. with_cell (cells_of w) o (written o found)) its_op ∙ ap (λ n. with_cell (cells_of w) (next_of m) (written (next_of m) n)) its_word in
    let its_births : births ≡ births_of (next_of m) (found_by w t) = counts ∙ ap (λ o. births_of o found) its_op ∙ ap (births_of (next_of m)) its_word in
    ap (λ n. make n cells new (map held (slice_set boxes (i - 1) left)) births) at
    ∙ ap (λ x. make t x new (map held (slice_set boxes (i - 1) left)) births) its_cells
    ∙ ap (λ y. make t (with_cell (cells_of w) (next_of m) (written (next_of m) (found_by w t))) y (map held (slice_set boxes (i - 1) left)) births) its_new
    ∙ ap (λ b. make t (with_cell (cells_of w) (next_of m) (written (next_of m) (found_by w t))) (step_of m (found_by w t) (box w t)) b births) boxed
    ∙ ap (λ k. make t (with_cell (cells_of w) (next_of m) (written (next_of m) (found_by w t))) (step_of m (found_by w t) (box w t)) (slice_set w.boxes (t - 1) (left_of (took_of m (found_by w t)) (box w t))) k) its_births

-- every mailbox is home
pub opened_home : (config : Config) (boxes : List (Option Contents)) → boxes ≡ replicate config.mutators (Some (spare_of config)) → (i : ℕ) → i < length boxes → IsSome (slice_index_or boxes i None)
opened_home config boxes are i there =
    let many : length boxes ≡ config.mutators = ap (λ (bs : List (Option Contents)). length bs) are ∙ length-replicate config.mutators (Some (spare_of config)) in
    subst IsSome (sym (ap (λ (bs : List (Option Contents)). slice_index_or bs i None) are ∙ get_or-replicate config.mutators i (Some (spare_of config)) None (omega (arith, there)))) refl

-- a work that was begun has found nothing yet
pub begun_found : (w : Core) (t : ℕ) (work : Work) → IsKept false w → IsMutator w.config t → HasFound (begun w t work) (mutator (begun w t work) t).from (mutator (begun w t work) t).phase
unfolding begun_of
begun_found w t work kept is = subst (λ (p : Private). HasFound (begun w t work) p.from p.phase) (sym (mutator_left w t (begun_of (mutator w t) work 0) kept is)) refl

-- nor taken a mailbox
pub begun_takes_none : (w : Core) (t : ℕ) (work : Work) → IsKept false w → IsMutator w.config t → (mutator (begun w t work) t).phase ≢ Parting
unfolding begun_of
begun_takes_none w t work kept is parts =
    let not_so : ◌≡◌ {A = phases.Phase} (Begun work) Parting = sym (ap (λ (p : Private). p.phase) (mutator_left w t (begun_of (mutator w t) work 0) kept is)) ∙ parts in
    (cc)

-- what the last state before the end of a work keeps
pub finished_kept : (w b v : Core) (t : ℕ) (work : Work) (made : Made) → b ≡ begun w t work → (f : IsFinished b t made v) → IsKept false f.last
finished_kept w b v t work made begins f = world_kept f.last f.world

-- a work that was begun and finished was made to its end
pub worked : (w b v : Core) (t : ℕ) (work : Work) (made : Made) → b ≡ begun w t work → IsFinished b t made v → is_busy (mutator v t) ≡ false → IsWorked w t work v
worked w b v t work made begins f idle = record { last = f.last; path = subst (λ (x : Core). StepsTo x t f.last) begins f.path; busy = f.busy; steps = f.steps; idle = idle }

-- the machine that was replaced is the mutator then
pub machine_left : (w : Core) (t i : ℕ) (q : Private) → IsKept false w → IsMutator w.config t → i ≡ t → slice_index_or (slice_set w.mutators (i - 1) q) (t - 1) nobody ≡ q
machine_left w t i q kept is at = ap (λ n. slice_index_or (slice_set w.mutators (n - 1) q) (t - 1) nobody) at ∙ mutator_left w t q kept is

-- what is known of a world, and of a mutator of it
pub record Ready (inside : Inside) (t : ℕ) : Type 0 where
  pub kept : IsKept false (core inside)
  pub is : IsMutator (core inside).config t
  pub boxed : t - 1 < length inside.boxes.items

pub ready : (inside : Inside) (old : Core) (t : ℕ) → IsWhole inside → core inside ≡ old → IsMutator old.config t → Ready inside t
ready inside old t whole view is =
    let its : IsMutator (core inside).config t = subst (λ (x : Core). IsMutator x.config t) (sym view) is in
    let kept : IsKept false (core inside) = world_kept (core inside) whole.world in
    record { kept = kept; is = its; boxed = boxes_many (core inside) t inside.boxes.items kept its refl }

-- the same of a world of which no mutator is asked
pub record ReadyToTurn (inside : Inside) : Type 0 where
  pub kept : IsKept false (core inside)
  pub is : IsMutator (core inside).config (looked_at (core inside).collector.phase)
  pub boxed : looked_at (core inside).collector.phase - 1 < length inside.boxes.items

pub ready_to_turn : (inside : Inside) → IsWhole inside → ReadyToTurn inside
ready_to_turn inside whole =
    let kept : IsKept false (core inside) = world_kept (core inside) whole.world in
    let is : IsMutator (core inside).config (looked_at (core inside).collector.phase) = looked_is (core inside) (core inside).collector.phase kept refl in
    record { kept = kept; is = is; boxed = boxes_many (core inside) (looked_at (core inside).collector.phase) inside.boxes.items kept is refl }

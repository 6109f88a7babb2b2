-- Every move of a heap with its collector keeps what every such heap keeps, and so does every run.
use Rattle.std.proofs.Common.{◌≡◌, ◌≢◌, ℕ, ◌+◌, ◌-◌, ◌^◌, ◌<◌, ◌==◌, if◌then◌else◌, true, false, Option, None, Some, IfSome, List, [], ◌∷◌, ◌++◌, flat_map, length, slice_index_or, refl, sym, ap, subst, ◌∙◌, arith, Bool}
use Rattle.std.proofs.lemmas.Bool.{cond-true, cond-false, eq-eqb, eqb-false, ne_eqb}
use Rattle.std.proofs.lemmas.Grind.{flat_map-append}
use Rattle.std.proofs.lemmas.List.{get_or-set_other, length-set}
use Rattle.rec_collector.proofs.Plain.{plain_given}
use Rattle.rec_core.proofs.Common.{IsConfig, place_of, target_of, Op, Contents, slot_at, At, Member, LeadsToUnreleased, begun_of, IsBetween, step_of, turn_of, buffer_at, noted, HaveLeft, Phase, Idle, Looking, Swapping, Returning, Releasing, Freeing, Trying, Preparing, cell, IsMutator, Core, cells_of, box, mutator, nobody, opened, IsKept, looked_at, found_by, turned, Move, after_move, after_moves, Fits, AllFit, EndsRun, RunsFrom, Config}
use Rattle.rec_core.proofs.PlainWords.{found_small}
use Rattle.rec_word.specs.declared.op.Op.TheVariants as ops
use Rattle.rec_release.specs.CycleFree.{op_at as freeing_op_at, next_of as freeing_next}
use Rattle.rec_release.specs.Release.{op_at as release_op_at, next_of as release_next}
use Rattle.rec_mutator.specs.Took as mutators_took
use Rattle.rec_collector.specs.Given.{IsGivenAt, IsGiven, IsSized}
use Rattle.rec_collector.specs.Kept as collector_kept
use Rattle.rec_collector.specs.Next.{is_spent, next_of, next_at}
use Rattle.rec_collector.specs.Step.{Step}
use Rattle.rec_collector.proofs.Keeping.{machine_kept}
use Rattle.rec_collector.proofs.Steps.{step_made}
use Rattle.rec_core.specs.Run.{by_actor, Every, maker, over, steps_of}
use Rattle.rec_core.specs.Run as step
use Rattle.rec_core.proofs.Applying.{covered}
use Rattle.rec_core.proofs.Crossings.{step_kept, begun_kept}
use Rattle.rec_core.proofs.Freeing as freeing
use Rattle.rec_core.proofs.Gathering.{awaits_kept}
use Rattle.rec_core.proofs.Offering.{offering_kept}
use Rattle.rec_core.proofs.Opened.{first_labels, first_objects}
use Rattle.rec_core.specs.Objects.{Objects, AreObjects, HaveLabels, first_object}
use Rattle.rec_core.specs.Core.{opened_from}
use Rattle.rec_core.proofs.Preparing.{loads_due, seen_there}
use Rattle.rec_core.proofs.Releasing as releasing
use Rattle.rec_core.proofs.Trying.{loads_child, loaded_leads}
use Rattle.rec_core.proofs.Taken as taken
use Rattle.rec_core.proofs.Turning.{mutator_at, some_op, rule_kept, turn_case, turned_mutators}
use Rattle.rec_core.proofs.TurnCases.{Awaits, giving_back, requesting}
use Rattle.rec_core.proofs.Turns.{now_at}

-- the mailbox that the collector looks at next is that of a mutator
pub looked_is : {dated : Bool} → (w : Core) (phase : Phase) → IsKept dated w → w.collector.phase ≡ phase → IsMutator w.config (looked_at phase)
looked_is w (Looking t) kept is = let now = now_at w (Looking t) kept is in mutator_at w t (Looking t) kept is (now.first, now.there)
looked_is w _ kept is = (omega arith, kept.config.some_mutators)

-- and it is of this heap's size
pub sized_is : {dated : Bool} → (w : Core) → IsKept dated w → IsSized w.collector.registers w.collector.capacity (box w (looked_at w.collector.phase))
sized_is w kept =
    let actor = kept.mutators.each (looked_at w.collector.phase) (looked_is w w.collector.phase kept refl) in
    (actor.mailbox.snapshot ∙ sym kept.collector.registers, actor.mailbox.capacity ∙ sym kept.collector.capacity)

-- a mark of the mutator whose mailbox is given back says nothing of those behind
still_gone : (w : Core) (t : ℕ) → 0 < t → HaveLeft w.collector.left t → HaveLeft (noted w.collector t).left t
still_gone w t some gone u behind there =
    get_or-set_other w.collector.left (t - 1) (u - 1) (buffer_at w.collector.newer (t - 1)).last false (λ e. absurd (omega (arith, e, behind, some)))
    ∙ gone u behind (omega (arith, there, length-set w.collector.left (t - 1) (buffer_at w.collector.newer (t - 1)).last))

-- the word that the collector finds is one that it may be given, by phase
given_at : (w : Core) (op : Op) (phase : Phase) → IsKept true w → w.collector.phase ≡ phase → ◌≡◌ {A = Option Op} (next_at w.collector phase) (Some op) → IsGivenAt w.collector (cell (cells_of w) op) phase
unfolding IsGivenAt next_at release_next freeing_next
given_at w op (Swapping t) kept is named = subst IsBetween is kept.collector.between
given_at w op Idle kept is named = λ gone. covered (requesting w) (length w.collector.newer) (awaits_kept w _ kept (Awaits.alone is more gone)) refl
  where
    more : w.epoch + 1 ≢ 2 ^ 24
    more last = (elim (is_spent w.collector) as (λ b. is_spent w.collector ≡ b → ◌≡◌ {A = Option Op} (if b then None else Some (ops.StoreEpoch (w.collector.epoch + 1))) (Some op) → ⊥) [
      | true ↦ λ spent some. let not_so : ◌≡◌ {A = Option Op} None (Some op) = some in cc
      | false ↦ λ spent some. eqb-false (w.collector.epoch + 1) (2 ^ 24) spent (ap (λ n. n + 1) kept.collector.epoch ∙ last)
    ]) refl named
given_at w op (Returning t) kept is named = λ gone.
    let now = now_at w (Returning t) kept is in
    let there : IsMutator w.config t = mutator_at w t (Returning t) kept is (now.first, now.there) in
    covered (giving_back w t) (length w.collector.newer) (awaits_kept w _ kept (Awaits.last t there is (still_gone w t now.first gone))) refl
given_at w op (Releasing m) kept is named = go m.at refl
  where
    go : (x : Option At) → m.at ≡ x → IfSome (target_of (cell (cells_of w) op)) (λ slot. 0 < (slot_at w.collector.counts slot).count)
    go None at = let not_so : ◌≡◌ {A = Option Op} (Some op) None = sym named ∙ ap (release_op_at m.fields) at in absurd (cc)
    go (Some a) at =
        let place : ℕ = place_of a.slot a.field w.config.fields in
        let fields : m.fields ≡ w.config.fields = (now_at w (Releasing m) kept is).clearing.fields ∙ kept.collector.fields in
        let its : op ≡ ops.ClearField place = some_op op (ops.ClearField place) (sym named ∙ ap (release_op_at m.fields) at ∙ ap (λ n. Some (ops.ClearField (place_of a.slot a.field n))) fields) in
        let found : cell (cells_of w) op ≡ slice_index_or w.words place 0 = ap (cell (cells_of w)) its in
        subst (λ n. IfSome (target_of n) (λ slot. 0 < (slot_at w.collector.counts slot).count)) (sym found) (taken.counted_word w a.slot a.field (releasing.may_empty w m a kept is at))
given_at w op (Freeing m) kept is named = go m.at refl
  where
    go : (x : Option Member) → m.at ≡ x → IfSome (target_of (cell (cells_of w) op)) (λ slot. 0 < (slot_at w.collector.counts slot).count)
    go None at = let not_so : ◌≡◌ {A = Option Op} (Some op) None = sym named ∙ ap (freeing_op_at m.fields) at in absurd (cc)
    go (Some a) at =
        let place : ℕ = place_of a.slot a.field w.config.fields in
        let fields : m.fields ≡ w.config.fields = (now_at w (Freeing m) kept is).clearing.fields ∙ kept.collector.fields in
        let its : op ≡ ops.ClearField place = some_op op (ops.ClearField place) (sym named ∙ ap (freeing_op_at m.fields) at ∙ ap (λ n. Some (ops.ClearField (place_of a.slot a.field n))) fields) in
        let found : cell (cells_of w) op ≡ slice_index_or w.words place 0 = ap (cell (cells_of w)) its in
        subst (λ n. IfSome (target_of n) (λ slot. 0 < (slot_at w.collector.counts slot).count)) (sym found) (taken.counted_word w a.slot a.field (freeing.empties w m a kept is at).may_empty)
given_at w op (Trying m) kept is named =
    let (place, its) = loads_child m op (sym named) in
    subst (λ o. LeadsToUnreleased w.collector.counts (cell (cells_of w) o)) (sym its) (loaded_leads w m kept is place (named ∙ ap (λ o. Some o) its))
given_at w op (Preparing m) kept is named =
    let (a, at, due) = loads_due m op named in
    let place : ℕ = place_of a.member.slot a.member.field w.config.fields in
    let fields : m.fields ≡ w.config.fields = (now_at w (Preparing m) kept is).fields ∙ kept.collector.fields in
    let its : op ≡ ops.LoadChild place = due ∙ ap (λ n. ops.LoadChild (place_of a.member.slot a.member.field n)) fields in
    let found : cell (cells_of w) op ≡ slice_index_or w.words place 0 = ap (cell (cells_of w)) its in
    subst (λ n. IfSome (target_of n) (λ slot. slot < length w.collector.counts.slots)) (sym found) (seen_there w m kept is a at)
given_at w op (Looking t) kept is named =
    plain_given w.collector (cell (cells_of w) op) t (found_small w t kept is op (cell (cells_of w) op) (sym named) refl)
given_at w op _ kept is named = tt

pub given_is : (w : Core) (op : Op) → IsKept true w → ◌≡◌ {A = Option Op} (next_of w.collector) (Some op) → IsGiven w.collector (cell (cells_of w) op)
unfolding IsGiven next_of
given_is w op kept named = given_at w op w.collector.phase kept refl named

-- an operation of the collector is carried out by the rules of its step
pub rule_of : (w : Core) (op : Op) → IsKept true w → ◌≡◌ {A = Option Op} (next_of w.collector) (Some op)
    → Step w.collector (cell (cells_of w) op) (box w (looked_at w.collector.phase)) (Some op) (step_of w.collector (cell (cells_of w) op) (box w (looked_at w.collector.phase))) (turn_of w.collector (cell (cells_of w) op))
rule_of w op kept named =
    let word : ℕ = cell (cells_of w) op in
    let b : Contents = box w (looked_at w.collector.phase) in
    subst (λ (x : Option Op). Step w.collector word b x (step_of w.collector word b) (turn_of w.collector word)) named (step_made w.collector word b kept.collector.machine kept.collector.between (given_is w op kept named))

-- the collector's turn
pub turned_kept : (w : Core) → IsKept true w → IsKept true (turned w)
turned_kept w kept = turn_case w (λ o v. IsKept true v) (λ none. kept) (λ op named.
    let word : ℕ = cell (cells_of w) op in
    let b : Contents = box w (looked_at w.collector.phase) in
    let machine : collector_kept.IsMachine (step_of w.collector word b) = machine_kept w.collector word b kept.collector.machine kept.collector.between (given_is w op kept named) (sized_is w kept) in
    rule_kept w op word (step_of w.collector word b) (turn_of w.collector word) (record { kept = kept; found = refl; machine = machine }) (rule_of w op kept named))

-- a move
pub move_kept : (w : Core) (m : Move) → IsKept true w → Fits w m → IsKept true (after_move w m)
move_kept w (Move.Begins t work from) kept fits = begun_kept w t work from kept fits.0 fits.1 fits.2 fits.3 fits.4 fits.5
move_kept w (Move.Steps t) kept fits = step_kept w t kept fits.0 fits.1
move_kept w Move.Turns kept fits = turned_kept w kept
move_kept w Move.Offers kept fits = offering_kept w kept

-- some moves
pub moves_kept : (w : Core) (ms : List Move) → IsKept true w → AllFit w ms → IsKept true (after_moves w ms)
moves_kept w [] kept fit = kept
moves_kept w (m ∷ ms) kept fit = moves_kept (after_move w m) ms (move_kept w m kept fit.0) fit.1

-- where the moves of two lists lead, one after the other
pub after_both : (w : Core) (ms ns : List Move) → after_moves w (ms ++ ns) ≡ after_moves (after_moves w ms) ns
after_both w [] ns = refl
after_both w (m ∷ ms) ns = after_both (after_move w m) ms ns

-- they fit so
pub fit_both : (w : Core) (ms ns : List Move) → AllFit w ms → AllFit (after_moves w ms) ns → AllFit w (ms ++ ns)
fit_both w [] ns fit more = more
fit_both w (m ∷ ms) ns fit more = (fit.0, fit_both (after_move w m) ms ns fit.1 more)

-- and the first of them do
pub fit_first : (w : Core) (ms ns : List Move) → AllFit w (ms ++ ns) → AllFit w ms
fit_first w [] ns fit = tt
fit_first w (m ∷ ms) ns fit = (fit.0, fit_first (after_move w m) ms ns fit.1)

-- so are all of both, where all of each are
pub every_both : (P : Move → Type 0) (ms ns : List Move) → Every P ms → Every P ns → Every P (ms ++ ns)
every_both P [] ns all more = more
every_both P (m ∷ ms) ns all more = (all.0, every_both P ms ns all.1 more)

-- their steps
steps_both : (w : Core) (ms ns : List Move) → steps_of w (ms ++ ns) ≡ steps_of w ms ++ steps_of (after_moves w ms) ns
steps_both w [] ns = refl
steps_both w (m ∷ ms) ns = let s : step.Step = record { before = w; move = m } in ap (λ (ss : List step.Step). s ∷ ss) (steps_both (after_move w m) ms ns)

-- and what a function of one step comes to over them
pub over_both : {A : Type 0} (f : Core → Move → List A) (w : Core) (ms ns : List Move) → over f w (ms ++ ns) ≡ over f w ms ++ over f (after_moves w ms) ns
over_both {A = A} f w ms ns =
    let of_step : step.Step → List A = λ s. f s.before s.move in
    ap (flat_map of_step) (steps_both w ms ns) ∙ flat_map-append of_step (steps_of w ms) (steps_of (after_moves w ms) ns)

-- what an actor's own move gives, and another's
pub own_gives : {A : Type 0} (x : ℕ) (f : Core → Move → List A) (w : Core) (m : Move) → maker m ≡ x → by_actor x f w m ≡ f w m
own_gives x f w m own = cond-true (maker m == x) (f w m) [] (eq-eqb (maker m) x own)

pub other_gives : {A : Type 0} (x : ℕ) (f : Core → Move → List A) (w : Core) (m : Move) → maker m ≢ x → by_actor x f w m ≡ []
other_gives x f w m other = cond-false (maker m == x) (f w m) [] (ne_eqb (maker m) x other)

-- every move keeps the numbers of the heap
pub move_stays : (w : Core) (m : Move) → (after_move w m).config ≡ w.config
move_stays w Move.Turns = turn_case w (λ o v. v.config ≡ w.config) (λ none. refl) (λ op named. refl)
move_stays w _ = refl

-- so do all
pub config_after : (w : Core) (ms : List Move) → (after_moves w ms).config ≡ w.config
config_after w [] = refl
config_after w (m ∷ ms) = config_after (after_move w m) ms ∙ move_stays w m

-- a move of another leaves a mutator
pub mutator_stays : (w : Core) (m : Move) (x : ℕ) → Fits w m → IsMutator w.config x → maker m ≢ x → mutator (after_move w m) x ≡ mutator w x
mutator_stays w (Move.Begins t work from) x fits is other = get_or-set_other w.mutators (t - 1) (x - 1) (begun_of (mutator w t) work from) nobody (λ e. other (omega (arith, e, fits.0.0, is.0)))
mutator_stays w (Move.Steps t) x fits is other = get_or-set_other w.mutators (t - 1) (x - 1) (mutators_took.step_of (mutator w t) (found_by w t) (box w t)) nobody (λ e. other (omega (arith, e, fits.0.0, is.0)))
mutator_stays w Move.Turns x fits is other = ap (λ ps. slice_index_or ps (x - 1) nobody) (turned_mutators w)
mutator_stays w Move.Offers x fits is other = refl

-- a run that ends there goes on with a move that fits
pub run_more : (w : Core) (m : Move) → EndsRun w → Fits w m → EndsRun (after_move w m)
run_more w m (start, moves, run) fits = (
  start,
  moves ++ m ∷ [],
  record {
    starts = run.starts;
    fit = fit_both start moves (m ∷ []) run.fit (subst (λ v. Fits v m) (sym run.ends) fits, tt);
    ends = after_both start moves (m ∷ []) ∙ ap (λ v. after_move v m) run.ends;
  },
)

-- an opening from objects is the end of the run without moves
pub run_opened_from : (config : Config) (o : Objects) → AreObjects config o → HaveLabels o.nodes → EndsRun (opened_from config o)
run_opened_from config o are labels = (opened_from config o, [], record { starts = (o, are, labels, refl); fit = tt; ends = refl })

-- so is that with one object
pub run_opened : (config : Config) → IsConfig config → EndsRun (opened config)
run_opened config is = run_opened_from config (first_object config) (first_objects config is) (first_labels config)

-- a run began as a heap is opened with the numbers of its end, from objects
pub run_opens : (w : Core) → EndsRun w → (o : Objects) × AreObjects w.config o × HaveLabels o.nodes × RunsFrom (opened_from w.config o) w
run_opens w (start, moves, run) =
    let (o, are, labels, opens) = run.starts in
    let numbers : start.config ≡ w.config = sym (config_after start moves) ∙ ap (λ (v : Core). v.config) run.ends in
    let same : start ≡ opened_from w.config o = opens ∙ ap (λ config. opened_from config o) numbers in
    (o, subst (λ (config : Config). AreObjects config o) numbers are, labels, (moves, subst (λ v. AllFit v moves) same run.fit, ap (λ v. after_moves v moves) (sym same) ∙ run.ends))

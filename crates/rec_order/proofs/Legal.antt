-- Every run has a legal order.
use Rattle.std.proofs.Common.{◌≡◌, inl, inr, ℕ, ◌-◌, ◌<◌, ◌≤◌, zero, suc, List, [], ◌∷◌, ◌++◌, Option, Some, false, length, slice_index_or, replicate, map, refl, sym, ap, subst, ◌∙◌, arith}
use Rattle.std.specs.List.{filter_map}
use Rattle.std.proofs.lemmas.Bool.{cases_eq, cases_lt}
use Rattle.std.proofs.lemmas.List.{length-replicate, get_or_past, length-map}
use Rattle.std.proofs.lemmas.List.Elements.{filter_map-append}
use Rattle.std.proofs.Math.ListN.{get_or-map}
use Rattle.rec_word.specs.declared.op.Op.{Op}
use Rattle.rec_word.specs.declared.op.Op.TheVariants as ops
use Rattle.rec_model.specs.Heap.{Heap}
use Rattle.rec_model.specs.LegalOrder.{Line, Event, Limits, Moment, line_by, IsLegalOrder}
use Rattle.rec_model.specs.Sight.{Sight, IsTaken, StandsBy}
use Rattle.rec_model.specs.Unfreed.{AreUnfreed}
use Rattle.rec_model.specs.Explained.{with_number}
use Rattle.rec_model.proofs.Growing.{legal_empty}
use Rattle.rec_model.proofs.Unfreed.{taken_or_free, taken_within}
use Rattle.rec_mutator.specs.Private.{Private, is_busy_at}
use Rattle.rec_mutator.specs.declared.phase.Phase.{Phase}
use Rattle.rec_mutator.specs.declared.phase.Phase.TheVariants as at
use Rattle.rec_collector.specs.Next.{next_of}
use Rattle.rec_core.specs.RunAnswers.{told_in, told_in_all}
use Rattle.rec_core.specs.Core.{Core, sight, mutator, nobody, log_length}
use Rattle.rec_core.specs.Kept.{IsKept}
use Rattle.rec_core.specs.Moves.{Move, AllFit, after_move, after_moves}
use Rattle.rec_order.specs.Naming.{Naming, named_after, naming_of}
use Rattle.rec_order.specs.Events.{swept_by, events_in, events_of}
use Rattle.rec_order.specs.Legal.{limits_of, moment_of, AreIdle, AreJournals, HasLegalOrder}
use Rattle.rec_order.proofs.Orders.{HasOrder, moves_order}
use Rattle.rec_model.proofs.Standing.{with_number-same, with_number-other}
use Rattle.rec_order.proofs.Steps.{Meets}
use Rattle.rec_core.specs.declared.config.Config.{Config}
use Rattle.rec_core.proofs.Runs.{config_after}

-- Each object in one of the first slots has that slot as its home.
has_homes : (w : Sight) (number : ℕ → ℕ) → ((s t : ℕ) → IsTaken w s → IsTaken w t → number s ≡ number t → s ≡ t) → (bound : ℕ) → (home : ℕ → ℕ) × ((s : ℕ) → s < bound → IsTaken w s → home (number s) ≡ s)
has_homes w number apart zero = (number, λ s below taken. absurd (omega (arith, below)))
has_homes w number apart (suc bound) =
    let (home, so) = has_homes w number apart bound in
    elim (taken_or_free w bound) [
      | inl here ↦ (
        with_number home (number bound) bound,
        λ s below taken. elim (cases_eq s bound) [
          | inl same ↦ ap (λ x. with_number home (number bound) bound (number x)) same ∙ with_number-same home (number bound) bound ∙ sym same
          | inr other ↦ with_number-other home (number bound) bound (number s) (λ same. other (apart s bound taken here same)) ∙ so s (omega (arith, below, other)) taken
        ],
      )
      | inr none ↦ (
        home,
        λ s below taken. elim (cases_eq s bound) [
          | inl same ↦ absurd (none (subst (IsTaken w) same taken))
          | inr other ↦ so s (omega (arith, below, other)) taken
        ],
      )
    ]

-- a mutator without work has met nothing
idle_meets : (limits : Limits) (start : Moment) (events : List Event) (home : ℕ → ℕ) (next t from : ℕ) (phase : Phase) → is_busy_at phase ≡ false → Meets limits start events home next t from phase
idle_meets limits start events home next t from (at.Scanning reg label leaf before probed) idle = cc
idle_meets limits start events home next t from (at.Scanned reg label leaf before) idle = cc
idle_meets limits start events home next t from _ idle = tt

-- empty journals
no_lines : (many i : ℕ) → [] ≡ slice_index_or (replicate {A = List Line} many []) i []
no_lines zero i = refl
no_lines (suc many) zero = refl
no_lines (suc many) (suc i) = no_lines many i

-- The order before the first move.
starts : (w : Core) (heap : Heap) (number : ℕ → ℕ) (unfreed : List ℕ) → IsKept false w → AreIdle w → StandsBy heap (sight w) number → AreUnfreed (sight w) number unfreed
    → HasOrder (limits_of w.config) (moment_of w heap unfreed) [] w (naming_of heap number)
starts w heap number unfreed kept idle stands are =
    let (home, homes) = has_homes (sight w) number stands.one_to_one (length w.headers) in (
      replicate w.config.mutators [],
      home,
      record {
        legal = legal_empty (limits_of w.config) (moment_of w heap unfreed) (replicate w.config.mutators []) (λ t some. no_lines w.config.mutators (t - 1));
        stands = record {
          stands = stands;
          next = refl;
          unfreed = are;
          marks = refl;
          frees = λ _. refl;
          homes = λ s taken. homes s (taken_within (sight w) s taken) taken;
        };
        meets = λ t is. idle_meets (limits_of w.config) (moment_of w heap unfreed) [] home (length heap.objects) t (mutator w t).from (mutator w t).phase (idle t is);
        stamps = λ i v d there left. cc;
        done = λ t is.
            let same : slice_index_or (map (λ (p : Private). length p.log.entries) w.mutators) (t - 1) 0 ≡ log_length w t = get_or-map (λ (p : Private). length p.log.entries) w.mutators (t - 1) nobody in
            omega (arith, same);
        logs = length-map w.mutators (λ (p : Private). length p.log.entries) ∙ kept.mutators.many;
        journals = length-replicate w.config.mutators [];
      },
    )

-- the lines of a mutator are those of the answers alone
pub swept_lines : (t : ℕ) (n : Naming) (op : Option Op) → filter_map (line_by t) (swept_by n op) ≡ []
swept_lines t n (Some ops.AddFreed) = refl
swept_lines t n (Some (ops.FreeHeader slot)) = refl
swept_lines t n _ = refl

-- the lines of a mutator are those of the answers of one move
lines_in : (t : ℕ) (n : Naming) (w : Core) (m : Move) → filter_map (line_by t) (events_in n w m) ≡ filter_map (line_by t) (told_in w m)
lines_in t n w Move.Turns = swept_lines t n (next_of w.collector)
lines_in t n w _ = refl

-- and of all moves
pub lines_of : (t : ℕ) (n : Naming) (w : Core) (ms : List Move) → filter_map (line_by t) (events_of n w ms) ≡ filter_map (line_by t) (told_in_all w ms)
lines_of t n w [] = refl
lines_of t n w (m ∷ ms) =
    filter_map-append (line_by t) (events_in n w m) (events_of (named_after n w m) (after_move w m) ms)
    ∙ (λ i. lines_in t n w m i ++ lines_of t (named_after n w m) (after_move w m) ms i)
    ∙ sym (filter_map-append (line_by t) (told_in w m) (told_in_all (after_move w m) ms))

-- a legal order of some journals is one of all that have the same lines
same_journals : (limits : Limits) (start : Moment) (events : List Event) (lines journals : List (List Line)) (many : ℕ) → length lines ≡ many → length journals ≡ many
    → ((t : ℕ) → 1 ≤ t → t ≤ many → slice_index_or journals (t - 1) [] ≡ filter_map (line_by t) events) → IsLegalOrder limits start lines events → IsLegalOrder limits start journals events
same_journals limits start events lines journals many first second own legal =
    record {
      own = λ t some. elim (cases_lt (t - 1) many) [
        | inl within ↦ sym (own t some (omega (arith, some, within)))
        | inr past ↦ legal.own t some ∙ get_or_past lines (t - 1) [] (omega (arith, past, first)) ∙ sym (get_or_past journals (t - 1) [] (omega (arith, past, second)))
      ];
      numbered = λ i t line is. ((legal.numbered i t line is).0, subst (λ x. t ≤ x) (first ∙ sym second) (legal.numbered i t line is).1);
      fits = legal.fits;
      busy = legal.busy;
      stamped = legal.stamped;
    }

-- The order of a run.
pub run_legal : (w : Core) (heap : Heap) (number : ℕ → ℕ) (unfreed : List ℕ) (moves : List Move) (journals : List (List Line)) → IsKept false w → AreIdle w → StandsBy heap (sight w) number → AreUnfreed (sight w) number unfreed
    → AllFit w moves → AreJournals w moves journals → HasLegalOrder w heap number unfreed moves journals
run_legal w heap number unfreed moves journals kept idle stands are fit told =
    let limits : Limits = limits_of w.config in
    let start : Moment = moment_of w heap unfreed in
    let n : Naming = naming_of heap number in
    let (lines, home, so) = moves_order limits start [] w n moves refl kept fit (starts w heap number unfreed kept idle stands are) in
    let config : (after_moves w moves).config ≡ w.config = config_after w moves in
    record {
      legal = same_journals limits start (events_of n w moves) lines journals w.config.mutators (so.journals ∙ ap (λ (c : Config). c.mutators) config) told.one_each
          (λ t some most. told.lines t (some, most) ∙ sym (lines_of t n w moves)) so.legal;
      ends = record { stands = so.stands.stands; next = so.stands.next; unfreed = so.stands.unfreed; marks = so.stands.marks };
    }

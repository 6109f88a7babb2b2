-- What every heap keeps holds behind every move, of dated words and of bare ones; and what a heap of bare words takes over from the one of
-- dated words that stands behind it.
use Rattle.std.proofs.Common.{◌≡◌, Bool, true, false, ℕ, ◌<◌, List, [], ◌∷◌, Option, Some, IfSome, length, refl, sym, ap, subst, ◌∙◌}
use Rattle.rec_word.specs.Bare.{bare_in, bare_op}
use Rattle.rec_word.specs.Looked.{looked}
use Rattle.rec_word.specs.Op.{cell_of}
use Rattle.rec_word.specs.declared.looked.Looked.{Looked}
use Rattle.rec_word.specs.declared.looked.Looked.TheVariants.{Takes, Crosses, Waits}
use Rattle.rec_word.specs.Word.{target_of}
use Rattle.rec_word.specs.declared.cell.Cell.{Cell}
use Rattle.rec_word.specs.declared.cell.Cell.TheVariants as words
use Rattle.rec_word.specs.declared.op.Op.{Op}
use Rattle.rec_word.specs.declared.op.Op.TheVariants as ops
use Rattle.rec_word.proofs.Bare.{target_of_bare}
use Rattle.rec_log.specs.declared.contents.Contents.{Contents}
use Rattle.rec_model.specs.Sight.{IsTaken, Reaches}
use Rattle.rec_mutator.specs.Private.{is_busy}
use Rattle.rec_counts.specs.Batch.{IsCovered}
use Rattle.rec_counts.specs.Counts.{slot_at}
use Rattle.rec_collector.specs.Bare as collectors_bare
use Rattle.rec_collector.specs.Given.{IsGiven, IsGivenAt, IsLookGiven}
use Rattle.rec_collector.specs.Next.{next_at, next_of}
use Rattle.rec_collector.specs.Private as collectors
use Rattle.rec_collector.specs.Shown.{HasTaken, Shown}
use Rattle.rec_collector.specs.Step.{Step}
use Rattle.rec_collector.specs.Took.{crossed_for, step_of, turn_of}
use Rattle.rec_collector.specs.declared.phase.Phase.{Phase}
use Rattle.rec_collector.specs.declared.phase.Phase.TheVariants.{Idle, Looking, Swapping, Returning, Releasing, Freeing, Trying, Preparing, Opening, Sweeping, Closing}
use Rattle.rec_collector.proofs.Bare as collecting
use Rattle.rec_collector.proofs.Steps.{step_made}
use Rattle.rec_core.specs.Bare.{bare_core}
use Rattle.rec_core.specs.Cells.{cell}
use Rattle.rec_core.specs.Config.{IsConfig, IsMutator}
use Rattle.rec_core.specs.Core.{Core, box, cells_of, mutator, opened, sight}
use Rattle.rec_core.specs.Kept.{IsKept}
use Rattle.rec_core.specs.Moves.{AllFit, EndsRun, Fits, Move, after_move, after_moves, looked_at, offering, stepped, turned}
use Rattle.rec_core.specs.Preconditions.{MayTurn}
use Rattle.rec_core.specs.Reach.{KeepsReached}
use Rattle.rec_core.specs.Shown.{Shows}
use Rattle.rec_core.specs.Swept.{IsSweep}
use Rattle.rec_core.specs.Turn.{seen_at, step_seen}
use Rattle.rec_core.specs.declared.config.Config.{Config}
use Rattle.rec_core.proofs.Bare.{found_bare}
use Rattle.rec_core.proofs.BareKept.{kept_bare}
use Rattle.rec_core.proofs.BareSeen.{keeps_bare, reached_too, sweep_bare, turned_behind}
use Rattle.rec_core.proofs.Dated.{Explains, end_explained, move_explained}
use Rattle.rec_core.proofs.Reach as seen
use Rattle.rec_core.proofs.Runs as dated_runs
use Rattle.rec_core.proofs.Swept as swept
use Rattle.rec_core.proofs.Turning.{turn_case}
use Rattle.rec_core.proofs.Words.{may_turn_given}

-- ---- the heap behind

-- the heap of dated words behind a kept one
pub explained : (w : Core) → IsKept false w → (v : Core) × Explains v w
explained w kept =
    let (v, same, is) = kept.behind in
    (v, record { bare = same; kept = record { whole = is.dated_whole; held = is.dated_held; behind = tt } })

-- and where such a heap stands behind, a heap is kept
pub bared : (v w : Core) → Explains v w → IsKept false w
bared v w e = subst (IsKept false) e.bare (kept_bare v e.kept)

-- a state that some run ends in keeps it, which has the numbers of its start
pub end_kept : (w : Core) → IsConfig w.config → EndsRun w → IsKept false w
end_kept w is run = let (v, e) = end_explained w is run in bared v w e

-- as it is opened
pub opened_kept : (config : Config) → IsConfig config → IsKept false (opened config)
opened_kept config is = end_kept (opened config) is (dated_runs.run_opened config is)

-- ---- moves

-- a move
pub move_kept : {dated : Bool} → (w : Core) (m : Move) → IsKept dated w → Fits w m → IsKept dated (after_move w m)
move_kept {dated = true} w m kept fits = dated_runs.move_kept w m kept fits
move_kept {dated = false} w m kept fits = let (v, e) = explained w kept in bared (after_move v m) (after_move w m) (move_explained v w m e fits).1

-- some moves
pub moves_kept : {dated : Bool} → (w : Core) (ms : List Move) → IsKept dated w → AllFit w ms → IsKept dated (after_moves w ms)
moves_kept w [] kept fit = kept
moves_kept w (m ∷ ms) kept fit = moves_kept (after_move w m) ms (move_kept w m kept fit.0) fit.1

-- the collector's turn
pub turned_kept : {dated : Bool} → (w : Core) → IsKept dated w → IsKept dated (turned w)
turned_kept w kept = move_kept w Move.Turns kept tt

-- a step of a mutator
pub step_kept : {dated : Bool} → (w : Core) (t : ℕ) → IsKept dated w → IsMutator w.config t → is_busy (mutator w t) ≡ true → IsKept dated (stepped w t)
step_kept w t kept is busy = move_kept w (Move.Steps t) kept (is, busy)

-- that all slots are to be offered
pub offering_kept : {dated : Bool} → (w : Core) → IsKept dated w → IsKept dated (offering w)
offering_kept w kept = move_kept w Move.Offers kept tt

-- the moves of which a watch is shown this
pub shows_kept : {dated : Bool} → (w v : Core) (shown : List Shown) → IsKept dated w → Shows w shown v → IsKept dated v
shows_kept {dated = dated} w v shown kept s = subst (IsKept dated) s.ends (moves_kept w s.moves kept s.fit)

-- ---- what the collector may be given

target_in : (c : Cell) (word : ℕ) → target_of (bare_in c word) ≡ target_of word
target_in (words.Field place) word = target_of_bare word
target_in (words.Header slot) word = refl
target_in words.Epoch word = refl
target_in words.Freed word = refl
target_in (words.Crossing t) word = refl

look_given : (c : collectors.Private) (t : ℕ) (l : Looked) → IsLookGiven c t l → IsLookGiven (collectors_bare.bare_private c) t l
look_given c t (Takes new) is = tt
look_given c t (Crosses new) is = λ gone.
    subst (λ (q : collectors.Private). IsCovered c.counts q.newer (collectors_bare.bare_buffers c.older)) (sym (collecting.crossed_bare c t)) (collecting.covered_bare c.counts (crossed_for c t).newer c.older (is gone))
look_given c t Waits is = tt

given_at : (c : collectors.Private) (word : ℕ) (op : Op) (phase : Phase) → ◌≡◌ {A = Option Op} (next_at c phase) (Some op) → IsGivenAt c word phase → IsGivenAt (collectors_bare.bare_private c) (bare_in (cell_of op) word) phase
unfolding IsGivenAt next_at
given_at c word op Idle named is = λ gone. collecting.covered_bare c.counts c.newer c.older (is gone)
given_at c word op (Swapping t) named is = is
given_at c word op (Returning t) named is = λ gone. collecting.covered_bare c.counts c.newer c.older (is gone)
given_at c word op (Releasing m) named is = subst (λ x. IfSome x (λ slot. 0 < (slot_at c.counts slot).count)) (sym (target_in (cell_of op) word)) is
given_at c word op (Freeing m) named is = subst (λ x. IfSome x (λ slot. 0 < (slot_at c.counts slot).count)) (sym (target_in (cell_of op) word)) is
given_at c word op (Trying m) named is = subst (λ x. IfSome x (λ slot. (slot_at c.counts slot).released ≡ false)) (sym (target_in (cell_of op) word)) is
given_at c word op (Preparing m) named is = subst (λ x. IfSome x (λ slot. slot < length c.counts.slots)) (sym (target_in (cell_of op) word)) is
given_at c word op (Looking t) named is =
    let its : ops.LookBox t c.epoch ≡ op = cc in
    subst (λ o. IsLookGiven (collectors_bare.bare_private c) t (looked c.epoch (bare_in (cell_of o) word))) its (look_given c t (looked c.epoch word) is)
given_at c word op Opening named is = tt
given_at c word op (Sweeping due swept) named is = tt
given_at c word op (Closing swept) named is = tt

given_bare : (c : collectors.Private) (word : ℕ) (op : Op) → ◌≡◌ {A = Option Op} (next_of c) (Some op) → IsGiven c word → IsGiven (collectors_bare.bare_private c) (bare_in (cell_of op) word)
unfolding IsGiven next_of
given_bare c word op named is = given_at c word op c.phase named is

-- the word that the collector finds is one that it may be given
pub given_is : {dated : Bool} → (w : Core) (op : Op) → IsKept dated w → ◌≡◌ {A = Option Op} (next_of w.collector) (Some op) → IsGiven w.collector (cell (cells_of w) op)
given_is {dated = true} w op kept named = dated_runs.given_is w op kept named
given_is {dated = false} w op kept named =
    let (v, e) = explained w kept in
    let its : ◌≡◌ {A = Option Op} (next_of v.collector) (Some op) = sym (collecting.next_bare v.collector) ∙ (ap (λ (u : Core). next_of u.collector) e.bare ∙ named) in
    let none : bare_op op ≡ op = collecting.puts_none v.collector op its in
    let finds : cell (cells_of (bare_core v)) op ≡ bare_in (cell_of op) (cell (cells_of v) op) = ap (cell (cells_of (bare_core v))) (sym none) ∙ found_bare (cells_of v) op in
    subst (λ (u : Core). IsGiven u.collector (cell (cells_of u) op)) e.bare
    (subst (IsGiven (collectors_bare.bare_private v.collector)) (sym finds) (given_bare v.collector (cell (cells_of v) op) op its (dated_runs.given_is v op e.kept its)))

-- an operation of the collector is carried out by the rules of its step
pub rule_of : {dated : Bool} → (w : Core) (op : Op) → IsKept dated w → ◌≡◌ {A = Option Op} (next_of w.collector) (Some op)
    → Step w.collector (cell (cells_of w) op) (box w (looked_at w.collector.phase)) (Some op) (step_of w.collector (cell (cells_of w) op) (box w (looked_at w.collector.phase))) (turn_of w.collector (cell (cells_of w) op))
rule_of w op kept named =
    let word : ℕ = cell (cells_of w) op in
    let b : Contents = box w (looked_at w.collector.phase) in
    subst (λ (x : Option Op). Step w.collector word b x (step_of w.collector word b) (turn_of w.collector word)) named (step_made w.collector word b kept.collector.machine kept.collector.between (given_is w op kept named))

-- behind a turn the collector has taken what is seen of it
pub turn_taken : {dated : Bool} → (w : Core) → IsKept dated w → IfSome (step_seen w) (λ seen. HasTaken seen.0 seen.1 (turned w).collector)
turn_taken w kept =
    turn_case w (λ o v. IfSome (seen_at w o) (λ seen. HasTaken seen.0 seen.1 v.collector)) (λ none. tt)
    (λ op named. record {
      before = w.collector;
      box = box w (looked_at w.collector.phase);
      turn = turn_of w.collector (cell (cells_of w) op);
      step = rule_of w op kept named;
      kept = kept.collector.machine;
      given = given_is w op kept named;
    })

-- the collector may make its next turn
pub may_turn : {dated : Bool} → (w : Core) → IsKept dated w → IfSome (next_of w.collector) (MayTurn w)
may_turn w kept = may_turn_given w kept (λ op named. given_is w op kept named)

-- ---- what a turn leaves of what registers reach, and what it frees

-- what a register reaches is taken, and not released
pub reached_stays : {dated : Bool} → (w : Core) → IsKept dated w → (slot : ℕ) → Reaches (sight w) slot → IsTaken (sight w) slot × ((slot_at w.collector.counts slot).released ≡ false)
reached_stays {dated = true} w kept = seen.reached_stays w kept
reached_stays {dated = false} w kept =
    let (v, e) = explained w kept in
    subst (λ (u : Core). (slot : ℕ) → Reaches (sight u) slot → IsTaken (sight u) slot × ((slot_at u.collector.counts slot).released ≡ false)) e.bare (λ slot from. seen.reached_stays v e.kept slot (reached_too v slot from))

pub turned_keeps : {dated : Bool} → (w : Core) → IsKept dated w → KeepsReached (sight w) (sight (turned w))
turned_keeps {dated = true} w kept = seen.turned_keeps w kept
turned_keeps {dated = false} w kept =
    let (v, e) = explained w kept in
    let is : bare_core (turned v) ≡ turned w = turned_behind v w e in
    subst (λ (u : Core). KeepsReached (sight w) (sight u)) is (subst (λ (u : Core). KeepsReached (sight u) (sight (bare_core (turned v)))) e.bare (keeps_bare v (turned v) (seen.turned_keeps v e.kept)))

pub turned_sweeps : {dated : Bool} → (w : Core) → IsKept dated w → IsSweep w (turned w)
turned_sweeps {dated = true} w kept = swept.turned_sweeps w kept
turned_sweeps {dated = false} w kept =
    let (v, e) = explained w kept in
    let is : bare_core (turned v) ≡ turned w = turned_behind v w e in
    subst (λ (u : Core). IsSweep w u) is (subst (λ (u : Core). IsSweep u (bare_core (turned v))) e.bare (sweep_bare v (turned v) (swept.turned_sweeps v e.kept)))

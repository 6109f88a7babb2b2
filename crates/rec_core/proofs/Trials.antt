-- When another trial begins: the epoch of the last trial never falls, and where it is the same no trial began.
use Rattle.std.proofs.Common.{◌≡◌, ℕ, ◌-◌, ◌≤◌, true, Option, List, [], ◌∷◌, sym, ap, ◌∙◌, arith}
use Rattle.rec_core.proofs.Common.{noted, requested, Op, Contents, is_busy, Begun, Phase, Idle, Turn, cell, IsMutator, Core, cells_of, mutator, IsKept, AllFit, Fits, Move, after_move, after_moves, stepped, turned, turned_by}
use Rattle.rec_release.specs.Sweep as sweeps
use Rattle.rec_collector.specs.Private as collectors
use Rattle.rec_collector.specs.Step as collectors_step
use Rattle.rec_collector.specs.Took.{crossed_for}
use Rattle.rec_collector.specs.Touched.{tried_at}
use Rattle.rec_collector.proofs.Touched.{prepares_late, tries_late}
use Rattle.rec_core.specs.Loads.{IsSameTrial, tried_in}
use Rattle.rec_core.proofs.Runs.{move_kept, rule_of}
use Rattle.rec_core.proofs.Turning.{turn_case}

-- no other trial begins over these moves
abbrev pub BeginsNoTrial : Core → List Move → Type 0
BeginsNoTrial w [] = Unit {0}
BeginsNoTrial w (m ∷ ms) = (tried_in (after_move w m) ≡ tried_in w) × BeginsNoTrial (after_move w m) ms

-- the requested epoch of the collector is that of its heap
pub tried_of : (w : Core) → IsKept true w → tried_at w.collector.epoch w.collector.phase ≡ tried_in w
tried_of w kept = ap (λ n. tried_at n w.collector.phase) kept.collector.epoch

-- a step of a mutator leaves it
step_tried : (w : Core) (t : ℕ) → IsKept true w → IsMutator w.config t → is_busy (mutator w t) ≡ true → tried_in (stepped w t) ≡ tried_in w
step_tried w t kept is busy = sym (tried_of (stepped w t) (move_kept w (Move.Steps t) kept (is, busy))) ∙ tried_of w kept

-- what goes on to a phase
goes_tried : {r q : collectors.Private} {turn : Turn} {next : Phase} → collectors_step.GoesOn r q turn next → tried_at q.epoch q.phase ≡ tried_at r.epoch next
goes_tried g = ap (λ (x : collectors.Private). tried_at x.epoch x.phase) g.after

ends_tried : {r q : collectors.Private} {turn : Turn} {swept : ℕ} → collectors_step.Ends r q turn swept → tried_at q.epoch q.phase ≡ r.epoch
ends_tried e = ap (λ (x : collectors.Private). tried_at x.epoch x.phase) e.after

-- the last trial was made in the requested epoch, or in the one before
tried_least : (requested : ℕ) (phase : Phase) → requested - 1 ≤ tried_at requested phase
tried_least requested Idle = omega arith
tried_least requested _ = omega arith

clears_tried : (p q : collectors.Private) (turn : Turn) {b : Begun} → collectors_step.ClearsOn p q turn b → p.epoch - 1 ≤ tried_at q.epoch q.phase
clears_tried p q turn (collectors_step.ClearsOn.works phase at g) = omega (arith, goes_tried g, tried_least p.epoch phase)
clears_tried p q turn (collectors_step.ClearsOn.tests c none some tested on) = clears_tried p q turn on
clears_tried p q turn (collectors_step.ClearsOn.tries none empty due on) = omega (arith, tries_late p q _ _ turn on)
clears_tried p q turn (collectors_step.ClearsOn.waits none empty off on) = omega (arith, prepares_late p q _ _ turn on)

swept_tried : {swept requested : ℕ} {w : sweeps.Work} {next : Phase} → collectors_step.IsNext swept w next → tried_at requested next ≡ requested
swept_tried {requested = requested} (collectors_step.IsNext.more busy is) = ap (tried_at requested) is
swept_tried {requested = requested} (collectors_step.IsNext.last done is) = ap (tried_at requested) is

-- the epoch of the last trial never falls
step_rises : {p q : collectors.Private} {word : ℕ} {b : Contents} {op : Option Op} {turn : Turn} → collectors_step.Step p word b op q turn → tried_at p.epoch p.phase ≤ tried_at q.epoch q.phase
step_rises (collectors_step.Step.spent at last none is t) = omega (arith, ap (λ (x : collectors.Private). tried_at x.epoch x.phase) is)
step_rises {p} (collectors_step.Step.request next at more is n g) = omega (arith, ap (tried_at p.epoch) at, goes_tried g)
step_rises {p} {q} (collectors_step.Step.request_alone at more is gone on) = omega (arith, ap (tried_at p.epoch) at, clears_tried (requested p) q _ on)
step_rises (collectors_step.Step.wait t at other is same turn) = omega (arith, ap (λ (x : collectors.Private). tried_at x.epoch x.phase) same)
step_rises {p} (collectors_step.Step.gather t at crossed is g) = omega (arith, ap (tried_at p.epoch) at, goes_tried g)
step_rises {p} (collectors_step.Step.cross_for t next at crosses is n g) = omega (arith, ap (tried_at p.epoch) at, goes_tried g)
step_rises {p} {q} (collectors_step.Step.cross_for_last t at crosses is gone on) = omega (arith, ap (tried_at p.epoch) at, clears_tried (crossed_for p t) q _ on)
step_rises {p} (collectors_step.Step.give_back t next at is n g) = omega (arith, ap (tried_at p.epoch) at, goes_tried g)
step_rises {p} {q} (collectors_step.Step.apply t at is gone on) = omega (arith, ap (tried_at p.epoch) at, clears_tried (noted p t) q _ on)
step_rises {p} {q} (collectors_step.Step.release m at is on) = omega (arith, ap (tried_at p.epoch) at, clears_tried p q _ on)
step_rises {p} {q} (collectors_step.Step.freeing m at is on) = omega (arith, ap (tried_at p.epoch) at, clears_tried p q _ on)
step_rises {p} {q} (collectors_step.Step.trial m at is on) = omega (arith, ap (tried_at p.epoch) at, tries_late p q _ _ _ on)
step_rises {p} {q} (collectors_step.Step.preparation m at is on) = omega (arith, ap (tried_at p.epoch) at, prepares_late p q _ _ _ on)
step_rises {p} (collectors_step.Step.begin_sweep at is g) = omega (arith, ap (tried_at p.epoch) at, goes_tried g)
step_rises {p} (collectors_step.Step.sweep due swept u next at is took follows g) = omega (arith, ap (tried_at p.epoch) at, goes_tried g, swept_tried {requested = p.epoch} follows)
step_rises {p} (collectors_step.Step.end_sweep swept at is e) = omega (arith, ap (tried_at p.epoch) at, ends_tried e)

turn_rises : (w : Core) → IsKept true w → IsKept true (turned w) → tried_in w ≤ tried_in (turned w)
turn_rises w kept later = turn_case w (λ o v. IsKept true v → tried_in w ≤ tried_in v) (λ none later. omega arith)
    (λ op named later. omega (arith, step_rises (rule_of w op kept named), tried_of w kept, tried_of (turned_by w op (cell (cells_of w) op)) later)) later

move_rises : (w : Core) (m : Move) → IsKept true w → Fits w m → tried_in w ≤ tried_in (after_move w m)
move_rises w (Move.Steps t) kept fits = omega (arith, step_tried w t kept fits.0 fits.1)
move_rises w Move.Turns kept fits = turn_rises w kept (move_kept w Move.Turns kept fits)
move_rises w _ kept fits = omega arith

moves_rise : (w : Core) (ms : List Move) → IsKept true w → AllFit w ms → tried_in w ≤ tried_in (after_moves w ms)
moves_rise w [] kept fit = omega arith
moves_rise w (m ∷ ms) kept fit = omega (arith, move_rises w m kept fit.0, moves_rise (after_move w m) ms (move_kept w m kept fit.0) fit.1)

-- so where it is the same at the end, no move begins another trial
pub no_trial : (w : Core) (ms : List Move) → IsKept true w → AllFit w ms → IsSameTrial w (after_moves w ms) → BeginsNoTrial w ms
no_trial w [] kept fit same = tt
no_trial w (m ∷ ms) kept fit same =
    let v : Core = after_move w m in
    let here : tried_in v ≡ tried_in w = omega (arith, move_rises w m kept fit.0, moves_rise v ms (move_kept w m kept fit.0) fit.1, same) in
    (here, no_trial v ms (move_kept w m kept fit.0) fit.1 (same ∙ sym here))

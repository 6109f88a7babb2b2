-- Marked slots that are passed: the moves that look at them and leave them as they are, made together.
use Rattle.std.proofs.Common.{◌≡◌, ℕ, ◌+◌, ◌-◌, ◌<◌, ◌≤◌, false, zero, suc, length, refl, sym, ap, subst, ◌∙◌, arith}
use Rattle.std.specs.Prelude.{slice_index_or as item_at}
use Rattle.std.proofs.lemmas.Bool.{lt-ltb}
use Rattle.rec_trial.specs.Moves.{blackened_if}
use Rattle.rec_trial.specs.Trial.{IsPassed}
use Rattle.rec_trial.proofs.Common.{State, Phase, Idle, Marking, Scanning, Collecting, Machine, Work, collect_moved, is_due, moved_at, moves_left, scan_moved, set_begun_if}
use Rattle.rec_trial.proofs.Midway.{OnTheWay, moved_on}

-- the machine has looked at one more
abbrev further_by_one : Work → Work
further_by_one w = record { machine = record (w.machine) { tried = w.machine.tried + 1 }; counts = w.counts }

passed_moves : (w : Work) → IsPassed w.machine.phase w.counts w.machine.tried → moved_at w.machine.phase w ≡ further_by_one w
passed_moves w h = go w.machine.phase refl h
  where
    go : (p : Phase) → w.machine.phase ≡ p → IsPassed p w.counts w.machine.tried → moved_at p w ≡ further_by_one w
    go Idle e h = absurd h
    go Marking e h = absurd h
    go Scanning e h =
        ap (λ b. scan_moved b w) (lt-ltb w.machine.tried (length w.counts.marked) h.0)
        ∙ ap (λ b. record { machine = record (w.machine) { phase = Scanning; tried = w.machine.tried + 1 }; counts = blackened_if b w.counts (item_at w.counts.marked w.machine.tried 0) }) h.1
        ∙ ap (λ (p : Phase). record { machine = record (w.machine) { phase = p; tried = w.machine.tried + 1 }; counts = w.counts }) (sym e)
    go Collecting e h =
        ap (λ b. collect_moved b w) (lt-ltb w.machine.tried (length w.counts.marked) h.0)
        ∙ ap (λ b. set_begun_if b w (item_at w.counts.marked w.machine.tried 0)) h.1
        ∙ ap (λ (p : Phase). record { machine = record (w.machine) { phase = p; tried = w.machine.tried + 1 }; counts = w.counts }) (sym e)

passed_on : (n : ℕ) (first w : Work) → OnTheWay first w → is_due w ≡ false → ((i : ℕ) → w.machine.tried ≤ i → i < w.machine.tried + n → IsPassed w.machine.phase w.counts i) → (t : ℕ) → t ≡ w.machine.tried + n → OnTheWay first (record { machine = record (w.machine) { tried = t }; counts = w.counts })
passed_on zero first w o d h t e =
    let same : w.machine.tried ≡ t = omega (arith, e) in
    subst (λ k. OnTheWay first (record { machine = record (w.machine) { tried = k }; counts = w.counts })) same o
passed_on (suc n) first w o d h t e =
    let moved : OnTheWay first (further_by_one w) = subst (λ (v : Work). OnTheWay first v) (passed_moves w (h w.machine.tried (omega arith) (omega arith))) (moved_on first w o d) in
    passed_on n first (further_by_one w) moved d (λ i l u. h i (omega (arith, l)) (omega (arith, u))) t (omega (arith, e))

-- where marked slots are passed the trial is on its way still, and nothing is due yet
pub passes : (first : Work) (m n : Machine) (s : State) → OnTheWay first (record { machine = m; counts = s }) → is_due (record { machine = m; counts = s }) ≡ false → n ≡ record m { tried = n.tried } → m.tried ≤ n.tried → ((i : ℕ) → m.tried ≤ i → i < n.tried → IsPassed m.phase s i) →
    OnTheWay first (record { machine = n; counts = s }) × (is_due (record { machine = n; counts = s }) ≡ false)
passes first m n s o d same further passed = (
  subst (λ (k : Machine). OnTheWay first (record { machine = k; counts = s })) (sym same) (passed_on (n.tried - m.tried) first (record { machine = m; counts = s }) o d (λ i l u. passed i l (omega (arith, u, further))) n.tried (omega (arith, further))),
  ap (λ (k : Machine). is_due (record { machine = k; counts = s })) same ∙ d,
)

-- and there are no more moves left than before
pub no_more_left : (m n : Machine) (s : State) → n ≡ record m { tried = n.tried } → m.tried ≤ n.tried → moves_left n.phase (record { machine = n; counts = s }) ≤ moves_left m.phase (record { machine = m; counts = s })
no_more_left m n s same further = subst (λ (k : Machine). moves_left k.phase (record { machine = k; counts = s }) ≤ moves_left m.phase (record { machine = m; counts = s })) (sym same) (go m.phase)
  where
    go : (p : Phase) → moves_left p (record { machine = record m { tried = n.tried }; counts = s }) ≤ moves_left p (record { machine = m; counts = s })
    go Idle = omega arith
    go Marking = omega arith
    go Scanning = omega (arith, further)
    go Collecting = omega (arith, further)

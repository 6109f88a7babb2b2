-- Runs of a trial.
use Rattle.std.proofs.Common.{◌≡◌, ℕ, ◌+◌, IsSome, Option, Some, refl, sym, subst}
use Rattle.std.proofs.lemmas.Bool.{false≢true}
use Rattle.rec_word.specs.Place.{place_of}
use Rattle.rec_word.specs.declared.op.Op.{Op}
use Rattle.rec_word.specs.declared.op.Op.TheVariants.{LoadChild}
use Rattle.rec_trial.specs.Loaded.{Ran}
use Rattle.rec_trial.specs.Rules.{LeadsToUnreleased}
use Rattle.rec_trial.specs.Trial.{op_at}
use Rattle.rec_trial.proofs.Common.{Machine, Work, Phase, Idle, Marking, Scanning, Collecting, next_of, took_of, visible}

-- what comes next is the load of the due field
pub due_op : (m : Machine) → IsSome (next_of m) → ◌≡◌ {A = Option Op} (next_of m) (Some (LoadChild (place_of m.slot m.field m.fields)))
unfolding next_of
due_op m b = go m.phase b
  where
    go : (p : Phase) → IsSome (op_at p m) → ◌≡◌ {A = Option Op} (op_at p m) (Some (LoadChild (place_of m.slot m.field m.fields)))
    go Idle b = absurd (false≢true b)
    go Marking b = refl
    go Scanning b = refl
    go Collecting b = refl

-- in the same phase something comes next still
pub busy_still : (m n : Machine) → m.phase ≡ n.phase → IsSome (next_of m) → IsSome (next_of n)
unfolding next_of
busy_still m n e b = subst (λ p. IsSome (op_at p n)) e (go m.phase b)
  where
    go : (p : Phase) → IsSome (op_at p m) → IsSome (op_at p n)
    go Idle b = b
    go Marking b = refl
    go Scanning b = refl
    go Collecting b = refl

-- one word more
pub ran_more : (first w v : Work) (n word : ℕ) → Ran first n w → IsSome (next_of w.machine) → LeadsToUnreleased w.counts word → v ≡ took_of w (visible w.counts word) → Ran first (n + 1) v
ran_more first w v n word r b l is = subst (λ (u : Work). Ran first (n + 1) u) (sym is) (Ran.more n w word r b l)

-- The steps of parking and unparking: they follow their rules, keep sizes and work, and come back to where they began.
use Rattle.std.proofs.Common.{◌≡◌, inl, inr, ℕ, ◌+◌, Bool, true, false, refl, sym, ap, subst, ◌∙◌}
use Rattle.std.proofs.lemmas.Bool.{cases_Bool}
use Rattle.rec_word.specs.Mailbox.{holds}
use Rattle.rec_word.specs.declared.shift.Shift.TheVariants as shifts
use Rattle.rec_log.specs.declared.contents.Contents.{Contents}
use Rattle.rec_mutator.specs.Next.{next_at, next_of}
use Rattle.rec_mutator.specs.Parking.{berth_left_at, berth_left_of, berthed_at, berthed_of, passage_of, IsPassing, Passes}
use Rattle.rec_mutator.specs.Private.{KeepsSizes, Private, work_at, work_of}
use Rattle.rec_mutator.specs.Took.{awoken, passed, took_at, took_of, IsFound, FindsShift}
use Rattle.rec_mutator.specs.declared.passage.Passage.{Passage}
use Rattle.rec_mutator.specs.declared.passage.Passage.TheVariants.{Parks, Holds, Deposits, Unparks, Reopens, Frees}
use Rattle.rec_mutator.specs.declared.phase.Phase.{Phase}
use Rattle.rec_mutator.specs.declared.phase.Phase.TheVariants.{Passing}

-- sizes and work stay, whatever the mark that the mutator is parked, and the step counts
abbrev Counts : (p q : Private) → Type 0
Counts p q = KeepsSizes p (record q { parked = p.parked }) × (work_of q ≡ work_of p) × (q.steps ≡ p.steps + 1)

awoken_counts : (p : Private) (word : ℕ) (deposit : Bool) → p.phase ≡ Passing Unparks → Counts p (awoken p word deposit)
awoken_counts p word true is = (record { number = refl; slots = refl; fields = refl; registers = refl; capacity = refl; parked = refl }, sym (ap work_at is), refl)
awoken_counts p word false is = (record { number = refl; slots = refl; fields = refl; registers = refl; capacity = refl; parked = refl }, sym (ap work_at is), refl)

passed_counts : (p : Private) (word : ℕ) (passage : Passage) → p.phase ≡ Passing passage → Counts p (passed p word passage)
passed_counts p word Parks is = (record { number = refl; slots = refl; fields = refl; registers = refl; capacity = refl; parked = refl }, sym (ap work_at is), refl)
passed_counts p word Holds is = (record { number = refl; slots = refl; fields = refl; registers = refl; capacity = refl; parked = refl }, sym (ap work_at is), refl)
passed_counts p word Deposits is = (record { number = refl; slots = refl; fields = refl; registers = refl; capacity = refl; parked = refl }, sym (ap work_at is), refl)
passed_counts p word Unparks is = awoken_counts p word (holds word) is
passed_counts p word Reopens is = (record { number = refl; slots = refl; fields = refl; registers = refl; capacity = refl; parked = refl }, sym (ap work_at is), refl)
passed_counts p word Frees is = (record { number = refl; slots = refl; fields = refl; registers = refl; capacity = refl; parked = refl }, sym (ap work_at is), refl)

-- what is learnt of the word, by a step that keeps sizes and work, and counts
pub record Learns (p : Private) (word : ℕ) (q : Private) : Type 0 where
  pub took : q ≡ took_of p word
  pub same : KeepsSizes p (record q { parked = p.parked })
  pub work : work_of q ≡ work_of p
  pub steps : q.steps ≡ p.steps + 1

-- what is learnt by a machine whose phase this is
pub learns_passage : (p q : Private) (word : ℕ) (passage : Passage) → p.phase ≡ Passing passage → q ≡ took_at p word (Passing passage) → Learns p word q
unfolding took_of took_at
learns_passage p q word passage is took =
    let counts : Counts p q = subst (Counts p) (sym took) (passed_counts p word passage is) in
    record { took = took ∙ sym (ap (took_at p word) is); same = counts.0; work = counts.1; steps = counts.2 }

-- what unparking finds
pub found_parked : {p : Private} {word : ℕ} → p.phase ≡ Passing Unparks → IsFound p (next_of p) word → FindsShift p shifts.Unpark word
unfolding next_of next_at
found_parked {p = p} {word = word} is found = subst (λ (x : Phase). IsFound p (next_at p x) word) is found

-- a step of unparking, by whether the deposit is there
unpark_made : (p : Private) (word : ℕ) (berth : Contents) → p.phase ≡ Passing Unparks → Passes p word berth (next_of p) (passage_of p word berth) (berth_left_of (took_of p word) berth)
unfolding next_of next_at took_of took_at passage_of berthed_of berthed_at berth_left_of berth_left_at
unpark_made p word berth is = elim (cases_Bool (holds word)) [
  | inl held ↦
      Passes.takes_back held
      (record {
        phase = is;
        operation = ap (next_at p) is;
        after = ap (λ x. berthed_of (took_at p word x) berth) is ∙ ap (λ b. berthed_of (awoken p word b) berth) held;
      })
      (ap (λ x. berth_left_of (took_at p word x) berth) is ∙ ap (λ b. berth_left_of (awoken p word b) berth) held)
  | inr free ↦
      Passes.unparks free
      (record {
        phase = is;
        operation = ap (next_at p) is;
        after = ap (λ x. berthed_of (took_at p word x) berth) is ∙ ap (λ b. berthed_of (awoken p word b) berth) free;
      })
      (ap (λ x. berth_left_of (took_at p word x) berth) is ∙ ap (λ b. berth_left_of (awoken p word b) berth) free)
]

-- a step of parking or unparking, by how far it has come
passage_at : (p : Private) (word : ℕ) (berth : Contents) (passage : Passage) → p.phase ≡ Passing passage → IsPassing (Passing passage) → Passes p word berth (next_of p) (passage_of p word berth) (berth_left_of (took_of p word) berth)
unfolding next_of next_at took_of took_at passage_of berthed_of berthed_at berth_left_of berth_left_at
passage_at p word berth Parks is between =
    Passes.deposits (record { phase = is; operation = ap (next_at p) is; after = ap (λ x. berthed_of (took_at p word x) berth) is }) (ap (λ x. berth_left_of (took_at p word x) berth) is)
passage_at p word berth Holds is between = absurd between
passage_at p word berth Deposits is between =
    Passes.parks (record { phase = is; operation = ap (next_at p) is; after = ap (λ x. berthed_of (took_at p word x) berth) is }) (ap (λ x. berth_left_of (took_at p word x) berth) is)
passage_at p word berth Unparks is between = unpark_made p word berth is
passage_at p word berth Reopens is between = absurd between
passage_at p word berth Frees is between =
    Passes.frees (record { phase = is; operation = ap (next_at p) is; after = ap (λ x. berthed_of (took_at p word x) berth) is }) (ap (λ x. berth_left_of (took_at p word x) berth) is)

-- a mutator that parks or unparks is somewhere on its way
passing : (phase : Phase) → IsPassing phase → (passage : Passage) × (phase ≡ Passing passage)
passing (Passing passage) is = (passage, refl)
passing _ is = absurd is

-- every step of it follows a rule
pub passage_made : (p : Private) (word : ℕ) (berth : Contents) → IsPassing p.phase → Passes p word berth (next_of p) (passage_of p word berth) (berth_left_of (took_of p word) berth)
passage_made p word berth is =
    let on = passing p.phase is in
    passage_at p word berth on.0 on.1 (subst IsPassing on.1 is)

-- Each test of a set is counted, nothing else counts one, and the numbers of slots and fields stay, while slots are released and sets are
-- freed and tested.
use Rattle.std.proofs.Common.{◌≡◌, ℕ, ◌<◌, Bool, true, IfSome, IsSome, length, refl, ◌∙◌, ap, ◌+◌, ◌≤◌, arith}
use Rattle.rec_collector.proofs.Common.{State, slot_at, emptied, KeepsMost, with_freed, with_released, Parts, Begun, last_tested, zeros_released, counted_by, tested, told, Passed, Touched, Held}
use Rattle.rec_word.specs.Word.{target_of}
use Rattle.rec_release.specs.Release.{started_of as zeros_started}
use Rattle.rec_release.proofs.Keeping.{emptied_length, emptied_sets, next_length, next_sets}
use Rattle.rec_collector.proofs.Goings.{freed_by, freed_listed, freed_off, last_by, last_refused, released_by, released_off, last_sets, refurbished_many, tested_all, released_most, freed_most, with_counts}
use Rattle.rec_release.proofs.Giving.{given_many}
use Rattle.rec_collector.specs.declared.sets.Sets.{Sets}
use Rattle.rec_collector.specs.declared.verdict.Verdict.{Verdict}
use Rattle.rec_release.specs.CycleFree as frees
use Rattle.rec_release.specs.Release as releases

-- what comes out of a field leads to a slot that is counted
abbrev pub Counted : State → (word : ℕ) → Type 0
Counted s word = IfSome (target_of word) (λ slot. 0 < (slot_at s slot).count)

-- one set more was tested
counted_told : (verdict : Verdict) (sets : Sets) → told (counted_by verdict sets) ≡ told sets + 1
counted_told Passed sets = omega arith
counted_told Touched sets = omega arith
counted_told Held sets = omega arith

-- the sets that were tested and those that are left
abbrev told_and_left : Parts → ℕ
told_and_left w = told w.sets + length w.counts.sets

-- the numbers of slots and fields and of postponed trials and the policy stay, and no set is lost
pub record KeepsTold (w v : Parts) : Type 0 where
  pub slots : length v.counts.slots ≡ length w.counts.slots
  pub fields : v.fields ≡ w.fields
  pub policy : v.policy ≡ w.policy
  pub postponed : v.postponed ≡ w.postponed
  pub told : told_and_left v ≡ told_and_left w

pub told_on : {w v u : Parts} → KeepsTold w v → KeepsTold v u → KeepsTold w u
told_on k l = record { slots = l.slots ∙ k.slots; fields = l.fields ∙ k.fields; policy = l.policy ∙ k.policy; postponed = l.postponed ∙ k.postponed; told = l.told ∙ k.told }

-- so it is where neither the sets nor the number of slots change
pub same_told : (w : Parts) (t : State) → length t.slots ≡ length w.counts.slots → t.sets ≡ w.counts.sets → KeepsTold w (with_counts w t)
same_told w t slots sets = record { slots = slots; fields = refl; policy = refl; postponed = refl; told = ap (λ xss. told w.sets + length xss) sets }

pub zeros_told : (lowers : Bool) (w : Parts) → KeepsTold w (zeros_released lowers w).parts
unfolding zeros_started
zeros_told lowers w = same_told w _ (next_length w.counts) (next_sets w.counts)

pub released_told : (m : releases.Machine) (w : Parts) (word : ℕ) → IsSome m.at → KeepsTold w (with_released m w word).parts
released_told m w word busy = released_by (λ b. KeepsTold w b.parts) m w word busy (λ a e l. same_told w _ n.slots n.sets)
    (λ a e l. let u : State = emptied s a.slot in same_told w _ (next_length u ∙ emptied_length s a.slot ∙ n.slots) (next_sets u ∙ emptied_sets s a.slot ∙ n.sets))
  where
    s : State
    s = released_off m w word

    n : KeepsMost w.counts s
    n = released_most m w word

pub freed_told : (m : frees.Machine) (w : Parts) (word : ℕ) → IsSome m.at → KeepsTold w (with_freed m w word).parts
freed_told m w word busy = freed_by (λ b. KeepsTold w b.parts) m w word busy (λ a e l. off) (λ a e l k. off) (λ a e l k. told_on listed (zeros_told true (freed_listed w word)))
  where
    n : KeepsMost w.counts (freed_off w word)
    n = freed_most w word

    off : KeepsTold w (with_counts w (freed_off w word))
    off = same_told w _ n.slots n.sets

    listed : KeepsTold w (freed_listed w word)
    listed = same_told w _ n.slots n.sets

-- the test of a set, and of sets
pub last_told : (w : Parts) → 0 < length w.counts.sets → KeepsTold w (last_tested w).parts
last_told w some = record {
  slots = last_by (λ b. length b.parts.counts.slots ≡ length w.counts.slots) w (λ e. given_many w.counts) (λ verdict. (zeros_told true (last_refused verdict w)).slots ∙ refurbished_many w.counts);
  fields = last_by (λ b. b.parts.fields ≡ w.fields) w (λ e. refl) (λ verdict. refl);
  policy = last_by (λ b. b.parts.policy ≡ w.policy) w (λ e. refl) (λ verdict. refl);
  postponed = last_by (λ b. b.parts.postponed ≡ w.postponed) w (λ e. refl) (λ verdict. refl);
  told = let counted : told (last_tested w).parts.sets ≡ told w.sets + 1 = last_by (λ b. told b.parts.sets ≡ told w.sets + 1) w (λ e. counted_told Passed w.sets) (λ verdict. counted_told verdict w.sets) in omega (arith, counted, last_sets w some);
}

pub tested_told : (n : ℕ) (b : Begun) → n ≤ length b.parts.counts.sets → KeepsTold b.parts (tested n b).parts
tested_told n b l = tested_all (λ c. KeepsTold b.parts c.parts) (λ w some k. told_on k (last_told w some)) n b l (same_told b.parts b.parts.counts refl refl)

-- A machine as it is opened.
use Rattle.std.proofs.Common.{◌≡◌, ℕ, ◌*◌, ◌^◌, ◌<◌, false, Option, None, List, All, length, replicate, refl, arith, sym, ap, ◌∙◌, inr}
use Rattle.std.proofs.lemmas.Bool.{false≢true}
use Rattle.std.proofs.lemmas.List.{get_or-replicate, length-map, length-replicate}
use Rattle.rec_counts.proofs.Opening.{each_opened, unreleased_from}
use Rattle.rec_counts.specs.Colour.{is_gray, is_white, is_orange}
use Rattle.rec_counts.specs.Counts.{opened as opened_counts, IsKept as IsKeptCounts}
use Rattle.rec_trial.specs.Trial.{next_of}
use Rattle.rec_collector.proofs.Common.{Black, Slot, State, slot_at, times-nil, AreTried, IsMachine, blank, opened, retired}
use Rattle.rec_collector.proofs.Outside.{none_outside}
use Rattle.rec_collector.specs.declared.policy.Policy.{Policy}
use Rattle.rec_collector.proofs.Rows.{length-rows, row_sized, rows_sized}
use Rattle.rec_collector.specs.Private.{retired_rows}
use Rattle.rec_collector.specs.Rows.{rows_of}

-- a machine that is opened where each of the first slots has a count, and each mutator its registers, is one
pub opened_keeps : (slots fields registers mutators capacity epoch : ℕ) (policy : Policy) (counts : List ℕ) (held : List (Option ℕ)) → 0 < fields → fields < 2 ^ 8 → 0 < mutators → mutators < 2 ^ 8 → epoch < 2 ^ 24
    → All (λ count. 0 < count) counts → length held ≡ mutators * registers
    → IsKeptCounts (opened_counts slots counts) → IsMachine (opened slots fields registers mutators capacity epoch policy counts held)
unfolding next_of
opened_keeps slots fields registers mutators capacity epoch policy counts held f few m small e some size k =
    let s : State = opened_counts slots counts in
    let newer : length (replicate mutators (blank registers capacity)) ≡ mutators = length-replicate mutators (blank registers capacity) in
    let older : length (retired_rows registers mutators capacity held) ≡ mutators = length-map (rows_of registers mutators held) (λ own. retired own capacity) ∙ length-rows registers mutators held in
    let black : (x : ℕ) → (slot_at s x).colour ≡ Black = each_opened (λ (v : Slot). v.colour ≡ Black) (λ count. 0 < count) slots counts (λ count _. refl) refl refl some in
    let alone : (x : ℕ) → (slot_at s x).set ≡ None = each_opened (λ (v : Slot). v.set ≡ None) (λ count. 0 < count) slots counts (λ count _. refl) refl refl some in
    let tried : AreTried 0 s = record {
      untried = record { marked = refl; no_gray = λ x. ap is_gray (black x); no_white = λ x. ap is_white (black x) };
      apart = λ x o. absurd (false≢true (sym (ap is_orange (black x)) ∙ ap is_orange o));
      counted = each_opened (λ (v : Slot). v.released ≡ false → 0 < v.count) (λ count. 0 < count) slots counts (λ count positive r. positive) (λ r. omega arith) (λ r. absurd (false≢true (sym r))) some;
      zeros = refl;
      roots = inr refl;
      work = refl;
      listed = λ x l r. absurd (false≢true (sym (unreleased_from slots counts x l) ∙ r));
      unbuffered = λ x h. absurd (omega (arith, h, times-nil x));
    } in
    record {
      epoch = e;
      collections = omega arith;
      freed = omega arith;
      some_fields = f;
      few_fields = few;
      rows = record {
        mutators = omega (arith, m, newer);
        few = omega (arith, small, newer);
        both = older ∙ sym newer;
        newer = row_sized registers capacity mutators (blank registers capacity) (length-replicate registers None, refl);
        older = rows_sized registers mutators capacity held size;
      };
      left = length-replicate mutators false ∙ sym newer;
      counts = k;
      told = omega arith;
      postponed = omega arith;
      now = (
        record {
          prepared = record { tried = tried; outside = none_outside fields s refl alone };
          free = refl;
        },
        λ i from l. get_or-replicate mutators i (blank registers capacity) (blank 0 0) (omega (arith, l, newer)),
        refl,
      );
    }

-- From a batch to the next trial: what holds where a set is tested, and that a trial can begin once no set is left.
use Rattle.std.proofs.Common.{◌≡◌, ◌≢◌, ℕ, zero, suc, ◌-◌, ◌*◌, ◌<◌, ◌≤◌, true, cond, leb, is_some, Option, None, Some, List, [], ◌++◌, length, slice_get, refl, arith, sym, ◌∙◌, ap, subst, inl, inr}
use Rattle.std.specs.List.{concat}
use Rattle.std.proofs.lemmas.Bool.{cases_Bool, cases_lt}
use Rattle.std.proofs.lemmas.List.{length-append, nil_from_length}
use Rattle.rec_collector.proofs.Common.{Orange, State, IsKept, slot_at, one, times, times-append, times-nil, given_up, IsReady, IsRefusable, LastRefurbished, fields_left, freeing_left, HasExchanged, IsCleared, IsTidy, IsListed, Parts, freeing_at, Begun, last_tested, tested, verdict_of, zeros_released, Phase, Freeing, Passed}
use Rattle.rec_counts.specs.Groups.{last_set}
use Rattle.rec_counts.proofs.Front.{nothing_first}
use Rattle.rec_release.proofs.Giving.{given_is_work, given_many, given_released}
use Rattle.rec_release.proofs.Kept.{given_kept}
use Rattle.rec_word.specs.declared.member.Member.{Member}
use Rattle.rec_word.specs.Walk.{first_member}
use Rattle.rec_word.proofs.Walks.{first_none}
use Rattle.rec_sigma.specs.Settling.{refurbished_of}
use Rattle.rec_sigma.proofs.Kept.{refurbished_kept}
use Rattle.rec_sigma.proofs.Renewals.{refurbished_last, released_after, same_released, zeros_after}
use Rattle.rec_collector.specs.Zeros.{AreCounted}
use Rattle.rec_collector.specs.declared.verdict.Verdict.{Verdict}
use Rattle.rec_collector.proofs.Exchanging.{members_left}
use Rattle.rec_collector.proofs.Goings.{last_by, last_given, last_refused, last_sets, still, tested_all}
use Rattle.rec_collector.proofs.Judging.{last_freeable, last_refusable}
use Rattle.rec_collector.proofs.Tidy.{tidy_given, tidy_refurbished}
use Rattle.rec_collector.proofs.Clearing.{zeros_clear, Clears}
use Rattle.rec_release.specs.CycleFree as frees
use Rattle.rec_trial.specs.Rules as trials

-- the last set passed its tests, and is given up
given_clears : (w : Parts) (n : ℕ) → 0 < length w.counts.sets → verdict_of w.counts (length w.counts.sets - 1) ≡ Passed → Clears (still w) n → Clears (last_given w) n
given_clears w n some passed c = go (first_member (slice_get ms 0)) refl
  where
    s : State
    s = w.counts

    ms : List ℕ
    ms = last_set s.sets

    f : frees.IsFreeable s
    f = last_freeable w some passed c.counts c.clearing

    k : IsKept (given_up s)
    k = given_kept s some c.clearing.work c.counts

    tidy : IsTidy w.fields (given_up s) None
    tidy = tidy_given s c.counts f c.clearing.tidy

    at_work : frees.IsAtWork (record { fields = w.fields; at = first_member (slice_get ms 0) }) (given_up s)
    at_work = given_is_work s w.fields c.wide c.counts f

    exchanged : (phase : Option Phase) → fields_left (last_given w).parts phase ≤ length ms * w.fields → HasExchanged (last_given w).parts phase n
    exchanged phase left = record {
      gone = ms ++ c.exchanges.gone;
      are = λ x. omega (arith, given_released s x c.counts f, c.exchanges.are x, times-append x ms c.exchanges.gone, ap (λ i. one (leb i x)) (given_many s));
      few = omega (arith, left, ap (λ i. i * w.fields) (length-append ms c.exchanges.gone), c.exchanges.few);
    }

    go : (at : Option Member) → first_member (slice_get ms 0) ≡ at → Clears (record { parts = (last_given w).parts; phase = freeing_at (record { fields = w.fields; at = at }) at }) n
    go None e = record {
      wide = c.wide;
      counts = k;
      clearing = record { tidy = tidy; ready = at_work.ready; zeros = c.clearing.zeros; work = ap (λ ws. ws ++ ms) f.work ∙ nothing_first ms (first_none (slice_get ms 0) e) };
      exchanges = exchanged None (omega arith);
    }
    go (Some a) e = record {
      wide = c.wide;
      counts = k;
      clearing = record { fields = refl; busy = refl; tidy = tidy; freeing = subst (λ o. frees.IsAtWork (record { fields = w.fields; at = o }) (given_up s)) e at_work };
      exchanges = exchanged (Some (Freeing (record { fields = w.fields; at = Some a }))) (subst (λ o. freeing_left w.fields (given_up s).work o ≤ length ms * w.fields) e (members_left w.fields ms (given_up s).work (slice_get ms 0) refl (ap (λ ws. ws ++ ms) f.work)));
    }

-- or it was refused, and is refurbished
pub refurbished_ready : (w : Parts) → 0 < length w.counts.sets → IsKept w.counts → IsCleared w → IsReady (refurbished_of w.counts)
refurbished_ready w some k c =
    let s : State = w.counts in
    let t : State = refurbished_of s in
    let f : IsRefusable s = last_refusable w some k c in
    let r : LastRefurbished s t = refurbished_last s k f in
    record {
      zeros = zeros_after s (last_set s.sets) (slice_get (last_set s.sets) 0) t r (refurbished_kept s f k).zeros_once c.ready.zeros;
      free = released_after s (last_set s.sets) (slice_get (last_set s.sets) 0) t r c.ready.free;
    }

refused_clears : (verdict : Verdict) (w : Parts) (n : ℕ) → 0 < length w.counts.sets → Clears (still w) n → Clears (zeros_released true (last_refused verdict w)) n
refused_clears verdict w n some c =
    let s : State = w.counts in
    let t : State = refurbished_of s in
    let f : IsRefusable s = last_refusable w some c.counts c.clearing in
    let r : LastRefurbished s t = refurbished_last s c.counts f in
    zeros_clear true (last_refused verdict w) n c.wide (refurbished_kept s f c.counts) (tidy_refurbished s t c.counts f c.clearing.ready r c.clearing.tidy) (refurbished_ready w some c.counts c.clearing) (r.work ∙ f.work)
    (record { gone = c.exchanges.gone; are = λ x. omega (arith, c.exchanges.are x, ap one (same_released r x), ap (λ i. one (leb i x)) r.many); few = c.exchanges.few })

-- the last set is tested, and sets are
pub last_clear : (n : ℕ) (w : Parts) → 0 < length w.counts.sets → Clears (still w) n → Clears (last_tested w) n
last_clear n w some c = last_by (λ b. Clears b n) w (λ e. given_clears w n some e c) (λ verdict. refused_clears verdict w n some c)

pub tested_clear : (count n : ℕ) (b : Begun) → count ≤ length b.parts.counts.sets → Clears b n → Clears (tested count b) n
tested_clear count n b l c = tested_all (λ d. Clears d n) (last_clear n) count b l c

-- where nothing has begun after as many tests as there were sets, no set is left
pub ends_after : (n : ℕ) (b : Begun) → length b.parts.counts.sets ≡ n → (tested n b).phase ≡ None → (tested n b).parts.counts.sets ≡ []
unfolding tested
ends_after zero b e none = nil_from_length b.parts.counts.sets e
ends_after (suc n) b e none = go b.phase refl none (ends_after n (last_tested b.parts) (omega (arith, e, last_sets b.parts (omega (arith, e)))))
  where
    go : (o : Option Phase) → b.phase ≡ o → (cond (is_some o) b (tested n (last_tested b.parts))).phase ≡ None → ((tested n (last_tested b.parts)).phase ≡ None → (tested n (last_tested b.parts)).parts.counts.sets ≡ []) → (cond (is_some o) b (tested n (last_tested b.parts))).parts.counts.sets ≡ []
    go (Some phase) f i next = let not_so : ◌≡◌ {A = Option Phase} (Some phase) None = sym f ∙ i in absurd (cc)
    go None f i next = next i

-- once no set is left a trial can begin
pub clear_ready : (w : Parts) → IsKept w.counts → IsCleared w → w.counts.sets ≡ [] → trials.IsReady w.counts
clear_ready w k c none = record {
  sets = none;
  marked = c.untried.marked;
  work = c.work;
  no_gray = c.untried.no_gray;
  no_white = c.untried.no_white;
  unlisted = λ x root r. elim (cases_lt 0 (times x w.counts.free)) [
    | inl l ↦ absurd (omega (arith, root, k.buffers x, ap one (c.unbuffered x l)))
    | inr l ↦ omega (arith, l)
  ];
}

-- and no slot is Orange
pub clear_uncoloured : (w : Parts) → IsKept w.counts → IsCleared w → w.counts.sets ≡ [] → (x : ℕ) → (slot_at w.counts x).colour ≢ Orange
clear_uncoloured w k c none x o = absurd (omega (arith, (c.apart x o).member, ap (λ sets. times x (concat sets)) none, times-nil x))

-- each slot that isn't released has a count
pub clear_counted : (w : Parts) → IsKept w.counts → IsCleared w → w.counts.sets ≡ [] → AreCounted w.counts
clear_counted w k c none x r = elim (cases_lt 0 (slot_at w.counts x).count) [
  | inl l ↦ l
  | inr l ↦ absurd (omega (arith, c.all_zeros x r (omega (arith, l)) (clear_uncoloured w k c none x), ap (times x) c.zeros, times-nil x))
]

-- and every released slot is in the free list or waits in the root buffer
pub clear_listed : (w : Parts) → IsKept w.counts → IsCleared w → w.counts.sets ≡ [] → IsListed w.counts
clear_listed w k c none = record {
  listed = λ x l r. elim (cases_Bool (slot_at w.counts x).buffered) [
    | inl b ↦ omega (arith, k.buffers x, ap (λ sets. times x (concat sets)) none, times-nil x, ap one b)
    | inr b ↦ omega (arith, c.listed x l r b, ap (times x) (c.work), times-nil x)
  ];
  only = c.ready.free;
  unbuffered = c.unbuffered;
}

-- From a batch to the next trial: what holds where a word came out of a member of the set that is freed.
use Rattle.std.proofs.Common.{◌≡◌, ℕ, ◌+◌, ◌-◌, ◌*◌, ◌<◌, ◌≤◌, true, None, Some, length, refl, arith, ◌∙◌, ap, subst, inl, inr}
use Rattle.std.proofs.lemmas.Bool.{cases_lt}
use Rattle.rec_collector.proofs.Common.{State, IsKept, times, times-append, IsReady, freeing_left, HasExchanged, IsFreeing, IsTidy, with_freed, Parts, Freeing}
use Rattle.rec_word.specs.Word.{target_of}
use Rattle.rec_release.proofs.Freeing.{off_work}
use Rattle.rec_release.proofs.Kept.{off_kept, members_listed}
use Rattle.rec_word.specs.declared.member.Member.{Member}
use Rattle.rec_word.specs.Walk.{IsOf}
use Rattle.rec_collector.proofs.Counting.{Counted}
use Rattle.rec_collector.proofs.Exchanging.{exchanged_as}
use Rattle.rec_collector.proofs.Goings.{field_behind, freed_by, freed_last, freed_listed, freed_most, freed_off, freed_on, member_behind}
use Rattle.rec_collector.proofs.Tidy.{tidy_listed, tidy_off}
use Rattle.rec_collector.proofs.Clearing.{zeros_clear, Clears}
use Rattle.rec_release.specs.CycleFree as frees

-- all members go to the free list
pub listed_ready : (m : frees.Machine) (s : State) → frees.IsAtWork m s → IsReady (frees.listed s)
listed_ready m s on = record {
  zeros = record { once = on.ready.zeros.once; none = on.ready.zeros.none; unreleased = on.ready.zeros.unreleased };
  free = λ x l. elim (cases_lt 0 (times x s.free)) [
    | inl f ↦ on.ready.free x f
    | inr f ↦ on.released x (omega (arith, l, f, times-append x s.free s.work))
  ];
}

-- a word came out of a field of a member of the set that is freed
module _ (m : frees.Machine) (w : Parts) (word n : ℕ) (counted : Counted w.counts word) (c : IsFreeing w m) (k : IsKept w.counts) (h : HasExchanged w (Some (Freeing m)) n) (a : Member) (e : m.at ≡ Some a) where
  abbrev off : State
  off = freed_off w word

  open (freed_most w word) use {free as still_free, released as still_released, slots as still_slots, work as still_work}

  at_work : frees.IsAtWork (record { fields = m.fields; at = Some a }) w.counts
  at_work = subst (λ o. frees.IsAtWork (record { fields = m.fields; at = o }) w.counts) e c.freeing

  off_at_work : frees.IsAtWork (record { fields = m.fields; at = Some a }) off
  off_at_work = off_work m.fields w.counts (target_of word) a at_work

  tidy : IsTidy w.fields off None
  tidy = tidy_off true w.counts (target_of word) None counted c.freeing.ready c.freeing.released c.tidy

  kept : IsKept off
  kept = off_kept true w.counts (target_of word) counted c.freeing.ready.zeros k

  many_left : freeing_left w.fields w.counts.work m.at ≡ (length w.counts.work - (a.index + 1)) * w.fields + (w.fields - a.field)
  many_left = ap (freeing_left w.fields w.counts.work) e

  same_work : length off.work ≡ length w.counts.work
  same_work = ap length still_work

  -- another field comes next
  on_clears : 0 < w.fields → (b : Member) → b.field < m.fields → IsOf off.work b → freeing_left w.fields off.work (Some b) + 1 ≤ freeing_left w.fields w.counts.work m.at → Clears (freed_on m w word b) (n + 1)
  on_clears wide b field of left = record {
    wide = wide;
    counts = kept;
    clearing = record { fields = c.fields; busy = refl; tidy = tidy; freeing = record { field = field; held = of; unlisted = off_at_work.unlisted; released = off_at_work.released; ready = off_at_work.ready } };
    exchanges = exchanged_as w off n (n + 1) still_slots still_released (omega (arith, left)) h;
  }

  ends_clear : 0 < w.fields → Clears (freed_last w word) (n + 1)
  ends_clear wide =
      zeros_clear true (freed_listed w word) (n + 1) wide (members_listed off (λ x t. ap (times x) still_free ∙ c.freeing.unlisted x (subst (λ xs. 0 < times x xs) still_work t)) kept) (tidy_listed off tidy) (listed_ready (record { fields = m.fields; at = Some a }) off off_at_work) refl
      (exchanged_as w (frees.listed off) n (n + 1) still_slots still_released (omega (arith, at_work.field, c.fields, many_left)) h)

pub freed_clears : (m : frees.Machine) (w : Parts) (word n : ℕ) → Counted w.counts word → Clears (record { parts = w; phase = Some (Freeing m) }) n → Clears (with_freed m w word) (n + 1)
freed_clears m w word n counted c = freed_by (λ b. Clears b (n + 1)) m w word c.clearing.busy
    (λ a e l.
    let of : IsOf (freed_off w word).work a = (off_at_work m w word n counted c.clearing c.counts c.exchanges a e).held in
    on_clears m w word n counted c.clearing c.counts c.exchanges a e c.wide (field_behind a) l (record { index = of.index; slot = of.slot })
    (omega (arith, l, c.clearing.fields, many_left m w word n counted c.clearing c.counts c.exchanges a e, ap (λ i. (i - (a.index + 1)) * w.fields) (same_work m w word n counted c.clearing c.counts c.exchanges a e))))
    (λ a e l i.
    let field : a.field < m.fields = (at_work m w word n counted c.clearing c.counts c.exchanges a e).field in
    let step : length w.counts.work - (a.index + 1) ≡ length (freed_off w word).work - (a.index + 1 + 1) + 1 = omega (arith, i, same_work m w word n counted c.clearing c.counts c.exchanges a e) in
    on_clears m w word n counted c.clearing c.counts c.exchanges a e c.wide (member_behind (freed_off w word).work a) (omega (arith, field)) (record { index = i; slot = refl })
    (omega (arith, field, c.clearing.fields, many_left m w word n counted c.clearing c.counts c.exchanges a e, ap (λ j. j * w.fields) step)))
    (λ a e l i. ends_clear m w word n counted c.clearing c.counts c.exchanges a e c.wide)

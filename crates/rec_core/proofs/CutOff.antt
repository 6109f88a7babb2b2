-- Nothing leads to what was given up, and to what is freed: told of the heap of dated words, and of the bare one.
use Rattle.std.proofs.Common.{◌≡◌, inl, inr, Bool, true, false, not, ℕ, ◌+◌, ◌-◌, ◌<◌, ◌==◌, List, Option, Some, length, slice_index_or, refl, sym, ap, subst, ◌∙◌, arith}
use Rattle.std.specs.List.{sum_by}
use Rattle.std.proofs.lemmas.Bool.{cases_lt, eq-eqb}
use Rattle.std.proofs.lemmas.Bool.Decides.{nat_tests}
use Rattle.std.proofs.lemmas.List.Sums.{sum_by-le-sum_by}
use Rattle.rec_core.proofs.Common.{Core, Dated, Freeing, IsKept, Op, Phase, Reaches, epoch_of, home, is_at, is_member_of, is_node, names, node_of, only_if, one_if_same, one_if_self, only_if_le, only_if_self, pending, place_of, sight, slot_at, sum_at, targets_of, times, get_or-le-sum_at}
use Rattle.rec_word.specs.declared.op.Op.TheVariants as ops
use Rattle.rec_model.specs.Accounted.{late, named, names_unreleased, put_late, touches}
use Rattle.rec_model.specs.Heap.{roots}
use Rattle.rec_model.specs.Reach.{is_in}
use Rattle.rec_model.specs.References.{IsInReach, opened_to}
use Rattle.rec_model.proofs.Consequences.{registers_in_reach}
use Rattle.rec_model.proofs.Counted.{opened_from}
use Rattle.rec_model.proofs.Ledgers.{epoch_after}
use Rattle.rec_model.proofs.Reaching.{target_in_reach}
use Rattle.rec_model.proofs.Seen.{field_target}
use Rattle.rec_model.proofs.Weights.{only_if_lt, only_if-le}
use Rattle.rec_model.proofs.Within.{all_reached}
use Rattle.rec_counts.specs.Slot as slots
use Rattle.rec_collector.specs.Bare as collectors_bare
use Rattle.rec_collector.specs.Next.{next_of}
use Rattle.rec_collector.specs.Private as collectors
use Rattle.rec_collector.specs.Shown.{passed_in, passed_of}
use Rattle.rec_collector.proofs.Bare as collecting
use Rattle.rec_core.specs.Bare.{bare_core}
use Rattle.rec_core.specs.CutOff.{IsClear, IsCutOff}
use Rattle.rec_core.specs.Freed.{IsForgotten, Passes, TestsSets}
use Rattle.rec_core.proofs.BareSeen.{reached_too, registers_bare, targets_bare}
use Rattle.rec_core.proofs.Dated.{Explains}
use Rattle.rec_core.proofs.Freed.{freed_is_forgotten, given_up_are_gone, passed_are_garbage, shown_is_gone}
use Rattle.rec_core.proofs.Moves.{home_of}
use Rattle.rec_core.proofs.Reach.{sight_is}
use Rattle.rec_core.proofs.Steps.{slot_there}

not_so : (b : Bool) → (b ≡ true → ⊥) → b ≡ false
not_so true none = absurd (none refl)
not_so false none = refl

-- ---- the heap of dated words

-- a slot that no register is counted for is named by none
unrooted : (v : Core) (slot : ℕ) → IsKept true v → sum_by (is_node (slot + 1)) (pending v).registers ≡ 0 → is_in slot (roots (sight v).registers) ≡ false
unrooted v slot kept none = not_so (is_in slot (roots (sight v).registers)) (λ there.
    let (epoch, holds) = (sight_is v kept.whole).registers slot there in
    absurd (omega (arith, none, holds, sum_by-le-sum_by (is_at epoch (slot + 1)) (is_node (slot + 1)) (pending v).registers (λ (d : Dated). only_if-le (epoch == d.epoch) (one_if_same (slot + 1) d.node)))))

-- what leads to it from a slot that isn't given up is counted
led_from : (v : Core) (slot source : ℕ) → IsKept true v → source < v.config.slots → (slot_at v.collector.counts source).released ≡ false → sum_at (names_unreleased v.config.fields (pending v).released (slot + 1)) v.words ≡ 0 → is_in slot (targets_of (sight v) source) ≡ false
led_from v slot source kept there unreleased none = not_so (is_in slot (targets_of (sight v) source)) (λ leads.
    let (f, within, inside, node) = field_target (sight v) source slot leads in
    let place : ℕ = place_of source f v.config.fields in
    let home_is : home v.config.fields place ≡ source + 1 = home_of source f v.config.fields within in
    let live : (pending v).released (home v.config.fields place) ≡ false = ap (pending v).released home_is ∙ (ap (λ s. s.released) (slot_there v kept source there) ∙ unreleased) in
    let weight : Bool → ℕ → ℕ = λ b n. only_if (not b) (one_if_same (slot + 1) n) in
    let counted : names_unreleased v.config.fields (pending v).released (slot + 1) place (slice_index_or v.words place 0) ≡ one_if_same (slot + 1) (slot + 1) = (λ i. weight (live i) (node i)) in
    absurd (omega (arith, none, counted, one_if_self (slot + 1), get_or-le-sum_at (names_unreleased v.config.fields (pending v).released (slot + 1)) v.words place 0 inside)))

-- and so is what leads to it from any slot
led_from_any : (v : Core) (slot source : ℕ) → sum_at (names (slot + 1)) v.words ≡ 0 → is_in slot (targets_of (sight v) source) ≡ false
led_from_any v slot source none = not_so (is_in slot (targets_of (sight v) source)) (λ leads.
    let (f, within, inside, node) = field_target (sight v) source slot leads in
    let place : ℕ = place_of source f v.config.fields in
    let counted : names (slot + 1) place (slice_index_or v.words place 0) ≡ one_if_same (slot + 1) (slot + 1) = ap (one_if_same (slot + 1)) node in
    absurd (omega (arith, none, counted, one_if_self (slot + 1), get_or-le-sum_at (names (slot + 1)) v.words place 0 inside)))

cut_off : (v : Core) (slot : ℕ) → IsKept true v → named (pending v) (slot + 1) ≡ 0 → IsCutOff v slot
cut_off v slot kept none = record {
  registers = unrooted v slot kept (omega (arith, none));
  fields = λ source there unreleased. led_from v slot source kept there unreleased (omega (arith, none));
}

clear : (v : Core) (slot : ℕ) → IsKept true v → IsForgotten v slot → IsClear v slot
clear v slot kept f = record {
  registers = unrooted v slot kept (omega (arith, f.unnamed));
  fields = λ source. led_from_any v slot source (omega (arith, f.unnamed));
  in_roots = f.roots;
  in_sets = f.sets;
  in_marked = f.marked;
  in_work = f.work;
  in_zeros = f.zeros;
  in_free = f.free;
}

-- ---- the heap of bare words

cut_off_bare : (v : Core) (slot : ℕ) → IsCutOff v slot → IsCutOff (bare_core v) slot
cut_off_bare v slot c = record {
  registers = ap (λ rss. is_in slot (roots rss)) (registers_bare v) ∙ c.registers;
  fields = λ source there unreleased. ap (is_in slot) (targets_bare v source) ∙ c.fields source there unreleased;
}

clear_bare : (v : Core) (slot : ℕ) → IsClear v slot → IsClear (bare_core v) slot
clear_bare v slot c = record {
  registers = ap (λ rss. is_in slot (roots rss)) (registers_bare v) ∙ c.registers;
  fields = λ source. ap (is_in slot) (targets_bare v source) ∙ c.fields source;
  in_roots = c.in_roots;
  in_sets = c.in_sets;
  in_marked = c.in_marked;
  in_work = c.in_work;
  in_zeros = c.in_zeros;
  in_free = c.in_free;
}

-- ---- the heap behind which such a one stands

pub given_up_is_cut_off : (v w : Core) (slot : ℕ) → Explains v w → slot < w.config.slots → (slot_at w.collector.counts slot).released ≡ true → IsCutOff w slot
given_up_is_cut_off v w slot e = subst (λ (u : Core). slot < u.config.slots → (slot_at u.collector.counts slot).released ≡ true → IsCutOff u slot) e.bare
    (λ there released. cut_off_bare v slot (cut_off v slot e.kept ((given_up_are_gone v e.kept).released slot there released).unnamed))

pub passed_bare : (c : collectors.Private) (phase : Phase) → passed_in (collectors_bare.bare_private c) phase ≡ passed_in c phase
passed_bare c (Freeing m) = refl
passed_bare c _ = refl

pub shown_is_cut_off : (v w : Core) (members : List ℕ) (slot : ℕ) → Explains v w → ◌≡◌ {A = Option (List ℕ)} (passed_of w.collector) (Some members) → 0 < times slot members → IsCutOff w slot
shown_is_cut_off v w members slot e = subst (λ (u : Core). ◌≡◌ {A = Option (List ℕ)} (passed_of u.collector) (Some members) → 0 < times slot members → IsCutOff u slot) e.bare
    (λ passed member. cut_off_bare v slot (cut_off v slot e.kept (shown_is_gone v members slot e.kept (sym (passed_bare v.collector v.collector.phase) ∙ passed) member).unnamed))

pub freed_is_clear : (v w : Core) (slot : ℕ) → Explains v w → ◌≡◌ {A = Option Op} (next_of w.collector) (Some (ops.FreeHeader slot)) → IsClear w slot
freed_is_clear v w slot e = subst (λ (u : Core). ◌≡◌ {A = Option Op} (next_of u.collector) (Some (ops.FreeHeader slot)) → IsClear u slot) e.bare
    (λ named. clear_bare v slot (clear v slot e.kept (freed_is_forgotten v slot e.kept (sym (collecting.next_bare v.collector) ∙ named))))

-- ---- sets that passed

-- what stands in a field of a node in reach is in reach
loaded_in_reach : (v : Core) (place : ℕ) → IsKept true v → place < length v.words → IsInReach (pending v) (pending v).applied (home v.config.fields place) → 0 < node_of (slice_index_or v.words place 0)
    → IsInReach (pending v) (pending v).applied (node_of (slice_index_or v.words place 0))
loaded_in_reach v place kept inside reached some =
    let applied : ℕ = (pending v).applied in
    let word : ℕ = slice_index_or v.words place 0 in
    let node : ℕ = node_of word in
    let weight : ℕ → ℕ → ℕ = λ i u. one_if_same node (node_of u) in
    elim (cases_lt applied (epoch_of word)) [
      | inl late_word ↦
          kept.accounted.held applied (omega arith) kept.accounted.epochs.behind node some (omega (
            arith,
            kept.accounted.late weight,
            get_or-le-sum_at (late applied weight) v.words place 0 inside,
            only_if_lt applied (epoch_of word) (weight place word) late_word,
            one_if_self node,
            sum_by-le-sum_by (put_late applied weight) (touches v.config.fields applied node) (pending v).writes (λ x. grind (arith, nat_tests)),
          ))
      | inr early ↦
          target_in_reach (pending v) applied (home v.config.fields place) node some reached (omega (
            arith,
            get_or-le-sum_at (opened_from v.config.fields applied (home v.config.fields place) node) v.words place 0 inside,
            only_if_le (epoch_of word) applied (one_if_same node node) early,
            one_if_self node,
            only_if_self (home v.config.fields place) (opened_to applied node place word),
          ))
    ]

-- what a register reaches is in the reach of the epoch of the last batch
reached_in_reach : (v : Core) (slot : ℕ) → IsKept true v → Reaches (sight v) slot → IsInReach (pending v) (pending v).applied (slot + 1)
reached_in_reach v slot kept = all_reached (λ x. IsInReach (pending v) (pending v).applied (x + 1)) (roots (sight v).registers) (targets_of (sight v)) at_root at_target slot
  where
    at_root : (x : ℕ) → is_in x (roots (sight v).registers) ≡ true → IsInReach (pending v) (pending v).applied (x + 1)
    at_root x there =
        let (epoch, holds) = (sight_is v kept.whole).registers x there in
        registers_in_reach (pending v) kept.accounted (pending v).applied epoch (x + 1) (omega arith) (epoch_after (pending v) epoch (x + 1) kept.accounted.epochs holds) (omega arith) holds

    at_target : (m n : ℕ) → Reaches (sight v) m → IsInReach (pending v) (pending v).applied (m + 1) → is_in n (targets_of (sight v) m) ≡ true → IsInReach (pending v) (pending v).applied (n + 1)
    at_target m n from reached there =
        let (f, within, inside, node) = field_target (sight v) m n there in
        let place : ℕ = place_of m f v.config.fields in
        let here : home v.config.fields place ≡ m + 1 = home_of m f v.config.fields within in
        subst (IsInReach (pending v) (pending v).applied) node (loaded_in_reach v place kept inside (subst (IsInReach (pending v) (pending v).applied) (sym here) reached) (omega (arith, node)))

is_member : (v : Core) (number slot : ℕ) → (slot_at v.collector.counts slot).set ≡ Some number → is_member_of v.collector.counts number (slot + 1) ≡ true
is_member v number slot set =
    let at : slot + 1 - 1 ≡ slot = omega arith in
    ap (λ n. slots.is_in number (slot_at v.collector.counts n).set) at ∙ (ap (slots.is_in number) set ∙ eq-eqb number number refl)

pub passes_behind : (v : Core) (number : ℕ) → Passes (bare_core v) number → Passes v number
passes_behind v number p = record { there = p.there; orange = p.orange; none = p.none }

pub passed_are_unreached : (v w : Core) (number slot : ℕ) → Explains v w → TestsSets w.collector.phase → Passes w number → (slot_at w.collector.counts slot).set ≡ Some number → Reaches (sight w) slot → ⊥
passed_are_unreached v w number slot e = subst (λ (u : Core). TestsSets u.collector.phase → Passes u number → (slot_at u.collector.counts slot).set ≡ Some number → Reaches (sight u) slot → ⊥) e.bare
    (λ tests passes set from. (passed_are_garbage v number e.kept tests (passes_behind v number passes)).unreached (slot + 1) (is_member v number slot set) (reached_in_reach v slot e.kept (reached_too v slot from)))

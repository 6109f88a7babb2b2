-- What registers reach is neither freed nor given up, and no turn of the collector changes it.
use Rattle.std.proofs.Common.{◌≡◌, ◌≢◌, inl, inr, ℕ, ◌+◌, ◌<◌, ◌==◌, Bool, true, false, if◌then◌else◌, Option, None, Some, List, [], ◌∷◌, length, map, option_map, slice_index_or, slice_set, refl, sym, ap, subst, ◌∙◌, arith}
use Rattle.std.specs.List.{sum_by}
use Rattle.std.proofs.lemmas.Bool.{cases_lt, cases_eq, ne_eqb, cond-false, false≢true, true≢false}
use Rattle.std.proofs.lemmas.List.{get_or-set_other, get_or-set_same, set-get_or, get_or_past, length-set}
use Rattle.std.proofs.lemmas.List.Sums.{sum_by-cons}
use Rattle.rec_core.proofs.Common.{place_of, target_of, Op, is_dead, is_node, Dated, is_at, counted_by_formula, Sight, IsTaken, Reaches, StandsBy, field_of, targets_of, one_if_same, reached_is_taken, only_if_self, slot_at, At, Member, Private, IsBetween, Phase, Idle, Looking, Swapping, Returning, Releasing, Freeing, Trying, Preparing, Opening, Sweeping, Closing, cell, with_cell, Core, cells_of, sight, mutator, Handshake, IsKept, IsKeptBy, stepped, turned, turned_at, pending, IsHeaderOf}
use Rattle.rec_word.specs.Op.{written}
use Rattle.rec_word.specs.declared.op.Op.TheVariants as ops
use Rattle.rec_model.specs.Heap.{Heap, roots, object}
use Rattle.rec_model.specs.Reach.{is_in, named}
use Rattle.rec_model.specs.References.{count_formula}
use Rattle.rec_model.specs.Reach.IsReached.{root, child}
use Rattle.rec_model.specs.Seen.{IsSightOf}
use Rattle.rec_model.proofs.Seen.{reached_taken}
use Rattle.rec_model.proofs.Within.{all_reached}
use Rattle.rec_model.proofs.Words.{words_of-set_other}
use Rattle.rec_release.specs.CycleFree.{op_at as freeing_op_at, next_of as freeing_next}
use Rattle.rec_release.specs.Release.{op_at as release_op_at, next_of as release_next}
use Rattle.rec_release.specs.Sweep.{next_of as sweep_next}
use Rattle.rec_mutator.specs.Next.{next_of as mutator_next}
use Rattle.rec_collector.specs.Next.{is_spent, next_of, next_at}
use Rattle.rec_core.specs.Reach.{KeepsReached}
use Rattle.rec_core.proofs.Freeing as freeing
use Rattle.rec_core.proofs.Preparing.{loads_due}
use Rattle.rec_core.proofs.Releasing as releasing
use Rattle.rec_core.proofs.Steps.{slot_there}
use Rattle.rec_core.proofs.Sweeping.{root_named, due_released}
use Rattle.rec_core.proofs.Trying.{loads_child}
use Rattle.rec_core.proofs.Turns.{now_at}
use Rattle.rec_core.proofs.Turning.{some_op, turn_case}
use Rattle.rec_core.proofs.Words.{IsOwnOp, own_next}

-- what is named is named in some epoch
some_epoch : (n : ℕ) (ds : List Dated) → 0 < sum_by (is_node n) ds → (epoch : ℕ) × (0 < sum_by (is_at epoch n) ds)
some_epoch n [] more = absurd (omega (arith, more))
some_epoch n (d ∷ ds) more = elim (cases_lt 0 (one_if_same n d.node)) [
  | inl here ↦ (d.epoch, omega (arith, sum_by-cons (is_at d.epoch n) d ds, only_if_self d.epoch (one_if_same n d.node), here))
  | inr none ↦
      let later = some_epoch n ds (omega (arith, more, sum_by-cons (is_node n) d ds, none)) in
      (later.0, omega (arith, later.1, sum_by-cons (is_at later.0 n) d ds))
]

-- the accounts are those of what is seen
pub sight_is : {stands : (t : ℕ) → Handshake} (w : Core) → IsKeptBy true stands w → IsSightOf (sight w) (pending w)
sight_is w kept = record { fields = refl; words = refl; registers = λ slot there. some_epoch (slot + 1) (pending w).registers (root_named w slot kept there) }

-- what a register reaches is neither free nor given up
alive : (w : Core) → IsKept true w → (slot : ℕ) → Reaches (sight w) slot → is_dead (pending w) (slot + 1) ≡ false
alive w kept = reached_taken (sight w) (pending w) kept.accounted (sight_is w kept.whole)

-- what is taken is a slot that is there
taken_there : (w : Core) (slot : ℕ) → IsKept true w → IsTaken (sight w) slot → slot < w.config.slots
taken_there w slot kept taken = elim (cases_lt slot w.config.slots) [
  | inl there ↦ there
  | inr past ↦
      let headers : length w.headers ≡ w.config.slots = kept.headers in
      absurd (omega (arith, taken, get_or_past w.headers slot 0 (omega (arith, past, headers))))
]

pub reached_stays : (w : Core) → IsKept true w → (slot : ℕ) → Reaches (sight w) slot → IsTaken (sight w) slot × ((slot_at w.collector.counts slot).released ≡ false)
reached_stays w kept slot from =
    let taken : IsTaken (sight w) slot = reached_is_taken (sight w) kept.sound slot from in
    let there = taken_there w slot kept taken in
    (taken, ap (λ s. s.released) (sym (slot_there w kept slot there)) ∙ unreleased ((pending w).free (slot + 1)) ((pending w).released (slot + 1)) (alive w kept slot from))
  where
    unreleased : (free released : Bool) → (if free then true else released) ≡ false → released ≡ false
    unreleased true released is = absurd (false≢true (sym is))
    unreleased false released is = is

-- so what is released isn't reached
pub released_unreached : (w : Core) (x slot : ℕ) → IsKept true w → (slot_at w.collector.counts x).released ≡ true → Reaches (sight w) slot → slot ≢ x
released_unreached w x slot kept released from same =
    let stays = (reached_stays w kept slot from).1 in
    true≢false (sym released ∙ ap (λ s. (slot_at w.collector.counts s).released) (sym same) ∙ stays)

-- nothing changed
keeps_all : (s : Sight) → KeepsReached s s
keeps_all s = record { fields = refl; registers = refl; reached = λ slot from. (refl, refl); others = λ slot. inl refl }

-- a field of a slot that isn't reached
keeps_others_field : (w : Core) (x f : ℕ) → IsKept true w → f < w.config.fields → (slot_at w.collector.counts x).released ≡ true → KeepsReached (sight w) (sight (record w { words = slice_set w.words (place_of x f w.config.fields) 0 }))
keeps_others_field w x f kept within released =
    record {
      fields = refl;
      registers = refl;
      reached = λ slot from. (refl, words_of-set_other (sight w) x f 0 slot within (released_unreached w x slot kept released from));
      others = λ slot. inl refl;
    }

-- the header of a slot that isn't reached
keeps_others_header : (w : Core) (x : ℕ) → IsKept true w → (slot_at w.collector.counts x).released ≡ true → KeepsReached (sight w) (sight (record w { headers = slice_set w.headers x 0 }))
keeps_others_header w x kept released =
    record {
      fields = refl;
      registers = refl;
      reached = λ slot from. let other = released_unreached w x slot kept released from in (get_or-set_other w.headers x slot 0 0 other, refl);
      others = λ slot. elim (cases_eq slot x) [
        | inl same ↦ inr (zeroed slot same)
        | inr other ↦ inl (get_or-set_other w.headers x slot 0 0 other)
      ];
    }
  where
    zeroed : (slot : ℕ) → slot ≡ x → slice_index_or (slice_set w.headers x 0) slot 0 ≡ 0
    zeroed slot same = elim (cases_lt slot (length w.headers)) [
      | inl there ↦ ap (λ i. slice_index_or (slice_set w.headers i 0) slot 0) (sym same) ∙ get_or-set_same w.headers slot 0 0 there
      | inr past ↦ get_or_past (slice_set w.headers x 0) slot 0 (omega (arith, past, length-set w.headers x 0))
    ]

-- a field that is loaded keeps its word
load_keeps : (w : Core) (op : Op) (place : ℕ) → op ≡ ops.LoadChild place → KeepsReached (sight w) (sight (turned_at w (Some op)))
load_keeps w op place its = subst (λ o. KeepsReached (sight w) (sight (turned_at w (Some o)))) (sym its) (subst (λ ws. KeepsReached (sight w) (sight (record w { words = ws }))) (sym (set-get_or w.words place 0)) (keeps_all (sight w)))

-- What the collector's next operation does to what is seen, by phase.
turned_at_keeps : (w : Core) (op : Op) (phase : Phase) → IsKept true w → w.collector.phase ≡ phase → ◌≡◌ {A = Option Op} (next_at w.collector phase) (Some op) → KeepsReached (sight w) (sight (turned_at w (Some op)))
unfolding next_at release_next freeing_next sweep_next
turned_at_keeps w op Idle kept is named = subst (λ o. KeepsReached (sight w) (sight (turned_at w (Some o)))) (sym (stored (is_spent w.collector) named)) (keeps_all (sight w))
  where
    stored : (spent : Bool) → ◌≡◌ {A = Option Op} (if spent then None else Some (ops.StoreEpoch (w.collector.epoch + 1))) (Some op) → op ≡ ops.StoreEpoch (w.collector.epoch + 1)
    stored true none = let not_so : ◌≡◌ {A = Option Op} (Some op) None = sym none in absurd (cc)
    stored false some = some_op op (ops.StoreEpoch (w.collector.epoch + 1)) (sym some)
turned_at_keeps w op (Looking t) kept is named = subst (λ o. KeepsReached (sight w) (sight (turned_at w (Some o)))) (sym (some_op op (ops.LookBox t w.collector.epoch) (sym named))) (keeps_all (sight w))
turned_at_keeps w op (Swapping t) kept is named = absurd (subst IsBetween is kept.collector.between)
turned_at_keeps w op (Returning t) kept is named = subst (λ o. KeepsReached (sight w) (sight (turned_at w (Some o)))) (sym (some_op op (ops.ReturnBox t w.collector.epoch) (sym named))) (keeps_all (sight w))
turned_at_keeps w op (Releasing m) kept is named = go m.at refl
  where
    go : (x : Option At) → m.at ≡ x → KeepsReached (sight w) (sight (turned_at w (Some op)))
    go None at = let not_so : ◌≡◌ {A = Option Op} (Some op) None = sym named ∙ ap (release_op_at m.fields) at in absurd (cc)
    go (Some a) at =
        let fields : m.fields ≡ w.config.fields = (now_at w (Releasing m) kept is).clearing.fields ∙ kept.collector.fields in
        let its : op ≡ ops.ClearField (place_of a.slot a.field w.config.fields) = some_op op (ops.ClearField (place_of a.slot a.field w.config.fields)) (sym named ∙ ap (release_op_at m.fields) at ∙ ap (λ n. Some (ops.ClearField (place_of a.slot a.field n))) fields) in
        subst (λ o. KeepsReached (sight w) (sight (turned_at w (Some o)))) (sym its) (keeps_others_field w a.slot a.field kept (releasing.may_empty w m a kept is at).within (releasing.may_empty w m a kept is at).released)
turned_at_keeps w op (Freeing m) kept is named = go m.at refl
  where
    go : (x : Option Member) → m.at ≡ x → KeepsReached (sight w) (sight (turned_at w (Some op)))
    go None at = let not_so : ◌≡◌ {A = Option Op} (Some op) None = sym named ∙ ap (freeing_op_at m.fields) at in absurd (cc)
    go (Some a) at =
        let fields : m.fields ≡ w.config.fields = (now_at w (Freeing m) kept is).clearing.fields ∙ kept.collector.fields in
        let its : op ≡ ops.ClearField (place_of a.slot a.field w.config.fields) = some_op op (ops.ClearField (place_of a.slot a.field w.config.fields)) (sym named ∙ ap (freeing_op_at m.fields) at ∙ ap (λ n. Some (ops.ClearField (place_of a.slot a.field n))) fields) in
        subst (λ o. KeepsReached (sight w) (sight (turned_at w (Some o)))) (sym its) (keeps_others_field w a.slot a.field kept (freeing.empties w m a kept is at).may_empty.within (freeing.empties w m a kept is at).may_empty.released)
turned_at_keeps w op (Trying m) kept is named = let (place, its) = loads_child m op (sym named) in load_keeps w op place its
turned_at_keeps w op (Preparing m) kept is named = let (a, at, its) = loads_due m op named in load_keeps w op (place_of a.member.slot a.member.field m.fields) its
turned_at_keeps w op Opening kept is named = subst (λ o. KeepsReached (sight w) (sight (turned_at w (Some o)))) (sym (some_op op ops.AddFreed (sym named))) (keeps_all (sight w))
turned_at_keeps w op (Sweeping None n) kept is named = let not_so : ◌≡◌ {A = Option Op} (Some op) None = sym named in absurd (cc)
turned_at_keeps w op (Sweeping (Some x) n) kept is named =
    let its : op ≡ ops.FreeHeader x = some_op op (ops.FreeHeader x) (sym named) in
    subst (λ o. KeepsReached (sight w) (sight (turned_at w (Some o)))) (sym its) (keeps_others_header w x kept (due_released w n x kept is))
turned_at_keeps w op (Closing n) kept is named = subst (λ o. KeepsReached (sight w) (sight (turned_at w (Some o)))) (sym (some_op op ops.AddFreed (sym named))) (keeps_all (sight w))

-- A turn of the collector keeps what registers reach.
pub turned_keeps : (w : Core) → IsKept true w → KeepsReached (sight w) (sight (turned w))
unfolding next_of
turned_keeps w kept = turn_case w (λ o v. KeepsReached (sight w) (sight v)) (λ none. keeps_all (sight w)) (λ op named. turned_at_keeps w op w.collector.phase kept refl named)

-- nothing more is reached
reached_before : (v w : Sight) → KeepsReached w v → (s : ℕ) → Reaches v s → Reaches w s
reached_before v w keeps =
    all_reached (Reaches w) (roots v.registers) (targets_of v) (λ n there. root n (sym (ap (λ rs. is_in n (roots rs)) keeps.registers) ∙ there))
    (λ m n from before there. child m n before (sym (ap (λ ws. is_in n (named (map target_of ws))) (keeps.reached m before).1) ∙ there))

-- Whatever heap that never frees stood for what was seen stands for it still, by the same numbers.
pub keeps_stands_by : (heap : Heap) (before after : Sight) (number : ℕ → ℕ) → KeepsReached before after → StandsBy heap before number → StandsBy heap after number
keeps_stands_by heap before after number keeps by =
    let header : (s : ℕ) → IsTaken after s → slice_index_or after.headers s 0 ≡ slice_index_or before.headers s 0 = λ s taken. elim (keeps.others s) [ inl same ↦ same | inr none ↦ absurd (omega (arith, taken, none)) ] in
    let was : (s : ℕ) → IsTaken after s → IsTaken before s = λ s taken. subst (λ n. 0 < n) (header s taken) taken in
    record {
      one_to_one = λ s t s_taken t_taken same. by.one_to_one s t (was s s_taken) (was t t_taken) same;
      there = λ s taken. by.there s (was s taken);
      header = λ s taken. subst (IsHeaderOf (object heap (number s)).leaf (object heap (number s)).label) (sym (header s taken)) (by.header s (was s taken));
      registers = by.registers ∙ ap (map (map (option_map number))) (sym keeps.registers);
      fields = λ s later. let from = reached_before after before keeps s later in by.fields s from ∙ ap (map (field_of number)) (sym (keeps.reached s from).1);
    }

-- after an operation of a mutator a taken slot has the header that it had: a claim of it fails
taken_keeps : (w : Core) (p : Private) (op : Op) (slot : ℕ) → IsOwnOp p op → IsTaken (sight w) slot → slice_index_or (with_cell (cells_of w) op (written op (cell (cells_of w) op))).headers slot 0 ≡ slice_index_or w.headers slot 0
taken_keeps w p (ops.ClaimHeader s claimed) slot f taken = elim (cases_eq slot s) [
  | inl same ↦
      let found : slice_index_or w.headers s 0 ≢ 0 = λ none. omega (arith, taken, ap (λ i. slice_index_or w.headers i 0) same, none) in
      let stays : written (ops.ClaimHeader s claimed) (slice_index_or w.headers s 0) ≡ slice_index_or w.headers s 0 = cond-false (slice_index_or w.headers s 0 == 0) claimed (slice_index_or w.headers s 0) (ne_eqb (slice_index_or w.headers s 0) 0 found) in
      ap (λ xs. slice_index_or xs slot 0) (ap (slice_set w.headers s) stays ∙ set-get_or w.headers s 0)
  | inr other ↦ get_or-set_other w.headers s slot (written (ops.ClaimHeader s claimed) (slice_index_or w.headers s 0)) 0 other
]
taken_keeps w p (ops.LoadHeader s) slot f taken = ap (λ xs. slice_index_or xs slot 0) (set-get_or w.headers s 0)
taken_keeps w p (ops.FreeHeader s) slot f taken = absurd f
taken_keeps w p _ slot f taken = refl

-- No step of a mutator claims or frees a slot that is taken.
pub steps_keep_taken : (w : Core) (t slot : ℕ) → IsTaken (sight w) slot → slice_index_or (stepped w t).headers slot 0 ≡ slice_index_or w.headers slot 0
steps_keep_taken w t slot taken = taken_keeps w (mutator w t) (mutator_next (mutator w t)) slot (own_next (mutator w t)) taken

-- The true count of a slot is the count formula of its node, at the epoch of the last batch.
pub counted_so : (w : Core) (slot : ℕ) → IsKept true w → slot < w.config.slots → (slot_at w.collector.counts slot).count ≡ count_formula (pending w) (pending w).applied (slot + 1)
counted_so w slot kept there = ap (λ s. s.count) (sym (slot_there w kept slot there)) ∙ counted_by_formula (pending w) kept.accounted (slot + 1) (omega arith)

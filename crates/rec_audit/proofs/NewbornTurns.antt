-- Each birth that no batch has told yet is kept by each turn of the collector, unless its batch tells it.
use Rattle.std.proofs.Common.{◌≡◌, ◌≢◌, ◌⊎◌, inl, inr, ℕ, ◌-◌, ◌<◌, ◌==◌, Bool, true, false, Option, None, Some, List, length, slice_index_or, slice_set, refl, sym, ap, subst, ◌∙◌, arith}
use Rattle.rec_core.specs.Pending.{has_batched}
use Rattle.std.specs.List.{Contains}
use Rattle.std.proofs.lemmas.Bool.{cases_eq, cases_lt, cond-false, false≢true, ne_eqb}
use Rattle.std.proofs.lemmas.List.{get_or-set_other, get_or-set_same, get_or_past, length-set}
use Rattle.rec_mutator.specs.declared.work.Work.{Work}
use Rattle.rec_core.specs.Moves.{begun_from, offering}
use Rattle.rec_core.proofs.Steps.{in_list}
use Rattle.rec_core.proofs.Common.{begun_of, nobody, Private, crossing_word, Retired, Op, Contents, blank, buffer_at, Phase, Idle, Looking, Returning, Turn, cell, IsMutator, Core, cells_of, mutator, box, IsKept, looked_at, left_by, turned_by}
use Rattle.rec_word.specs.declared.op.Op.TheVariants as ops
use Rattle.rec_log.specs.declared.entry.Entry.TheVariants as entries
use Rattle.rec_collector.specs.Private as collectors
use Rattle.rec_collector.specs.Shown.{Batch, batch_made}
use Rattle.rec_collector.specs.Step.{NamesWord, Step}
use Rattle.rec_audit.proofs.Journalled.{StandsIn}
use Rattle.rec_audit.proofs.Newborn.{IsUntold, none_in}
use Rattle.rec_core.proofs.Runs.{looked_is}
use Rattle.rec_core.proofs.PlainWords.{crosses_none, waits_other}
use Rattle.rec_core.proofs.Turns.{now_at}
use Rattle.rec_core.proofs.Turning.{parts_of_turn}

module _ {dated : Bool} (w : Core) (op : Op) (kept : IsKept dated w) where
  open w use {collector as c}
  open (parts_of_turn w op) use {found, its_box, q, v}

  -- a birth of the batch that this turn applied, or one that is still to be told
  pub data IsTold (batch : Option Batch) (slot : ℕ) : Type 0 where
    still : IsUntold v slot → IsTold batch slot
    told : (b : Batch) (leaf : Bool) → batch ≡ Some b → StandsIn b.newer (entries.Born slot leaf) → IsTold batch slot

  -- a mailbox stays, or its buffer is gathered
  pub box_after : (t : ℕ) → IsMutator w.config t → (box v t ≡ box w t) ⊎ ((c.phase ≡ Looking t) × (found ≡ crossing_word c.epoch Retired))
  box_after t is = elim (cases_eq t (looked_at c.phase)) [
    | inr apart ↦ inl (get_or-set_other w.boxes (looked_at c.phase - 1) (t - 1) (left_by c found its_box c.phase) (blank 0 0) (λ e. apart (omega (arith, e, is.0, (looked_is w c.phase kept refl).0))))
    | inl same ↦
        let at : t - 1 ≡ looked_at c.phase - 1 = ap (λ n. n - 1) same in
        let there : looked_at c.phase - 1 < length w.boxes = (let many : length w.boxes ≡ w.config.mutators = kept.mutators.mailboxes in let looked = looked_is w c.phase kept refl in omega (arith, looked.0, looked.1)) in
        let here : box v t ≡ left_by c found its_box c.phase = ap (λ n. slice_index_or (slice_set w.boxes (looked_at c.phase - 1) (left_by c found its_box c.phase)) n (blank 0 0)) at ∙ get_or-set_same w.boxes (looked_at c.phase - 1) (left_by c found its_box c.phase) (blank 0 0) there in
        by c.phase refl (here ∙ sym refl) same
  ]
    where
      by : (phase : Phase) → c.phase ≡ phase → box v t ≡ left_by c found its_box c.phase → t ≡ looked_at c.phase → (box v t ≡ box w t) ⊎ ((c.phase ≡ Looking t) × (found ≡ crossing_word c.epoch Retired))
      by (Looking u) at here same =
          let its : t ≡ u = same ∙ ap looked_at at in
          elim (cases_eq found (crossing_word c.epoch Retired)) [
            | inl retired ↦ inr (at ∙ ap Looking (sym its), retired)
            | inr other ↦ inl (here ∙ ap (left_by c found its_box) at ∙ cond-false (found == crossing_word c.epoch Retired) (collectors.spare c) its_box (ne_eqb found (crossing_word c.epoch Retired) other) ∙ ap (box w) (sym same))
          ]
      by phase at here same = inl (here ∙ ap (left_by c found its_box) at ∙ ap (box w) (sym same))

  -- where no mailbox is gathered, they all stay
  in_mailbox : (batch : Option Batch) (slot t : ℕ) (leaf : Bool) → IsMutator w.config t → ((c.phase ≡ Looking t) × (found ≡ crossing_word c.epoch Retired) → ⊥) → Contains (box w t).entries (entries.Born slot leaf) → IsTold batch slot
  in_mailbox batch slot t leaf is none e = elim (box_after t is) [
    | inl same ↦ IsTold.still (IsUntold.in_box t leaf is (subst (λ (b : Contents). Contains b.entries (entries.Born slot leaf)) (sym same) e))
    | inr takes ↦ absurd (none takes)
  ]

  -- a turn that leaves the newer buffers and gathers none, in a gathering
  waits_on : (batch : Option Batch) (slot : ℕ) → q.newer ≡ c.newer → has_batched q.phase ≡ false → ((t : ℕ) → (c.phase ≡ Looking t) × (found ≡ crossing_word c.epoch Retired) → ⊥) → IsUntold w slot → IsTold batch slot
  waits_on batch slot newer waits none (IsUntold.in_log t leaf is e) = IsTold.still (IsUntold.in_log t leaf is e)
  waits_on batch slot newer waits none (IsUntold.in_box t leaf is e) = in_mailbox batch slot t leaf is (none t) e
  waits_on batch slot newer waits none (IsUntold.gathered t leaf is before e) = IsTold.still (IsUntold.gathered t leaf is waits (subst (λ (row : List Contents). Contains (buffer_at row (t - 1)).entries (entries.Born slot leaf)) (sym newer) e))

  -- a turn on a batch that was applied before
  works_on : (batch : Option Batch) (slot : ℕ) → has_batched c.phase ≡ true → ((t : ℕ) → (c.phase ≡ Looking t) × (found ≡ crossing_word c.epoch Retired) → ⊥) → IsUntold w slot → IsTold batch slot
  works_on batch slot works none (IsUntold.in_log t leaf is e) = IsTold.still (IsUntold.in_log t leaf is e)
  works_on batch slot works none (IsUntold.in_box t leaf is e) = in_mailbox batch slot t leaf is (none t) e
  works_on batch slot works none (IsUntold.gathered t leaf is before e) = absurd (false≢true (sym before ∙ works))

  -- a turn that applies one
  applies_it : (epoch slot : ℕ) → ((t : ℕ) → (c.phase ≡ Looking t) × (found ≡ crossing_word c.epoch Retired) → ⊥) → IsUntold w slot → IsTold (Some (record { epoch = epoch; newer = c.newer })) slot
  applies_it epoch slot none (IsUntold.in_log t leaf is e) = IsTold.still (IsUntold.in_log t leaf is e)
  applies_it epoch slot none (IsUntold.in_box t leaf is e) = in_mailbox (Some (record { epoch = epoch; newer = c.newer })) slot t leaf is (none t) e
  applies_it epoch slot none (IsUntold.gathered t leaf is before e) =
      IsTold.told (record { epoch = epoch; newer = c.newer }) leaf refl (t - 1, (let many : length c.newer ≡ w.config.mutators = kept.collector.mutators in omega (arith, is.0, is.1)), e)

  -- a turn that gathers one
  gathers_it : (u slot : ℕ) → c.phase ≡ Looking u → q.newer ≡ slice_set c.newer (u - 1) its_box → has_batched q.phase ≡ false → IsUntold w slot → IsTold None slot
  gathers_it u slot looks newer waits (IsUntold.in_log t leaf is e) = IsTold.still (IsUntold.in_log t leaf is e)
  gathers_it u slot looks newer waits (IsUntold.in_box t leaf is e) = elim (box_after t is) [
    | inl same ↦ IsTold.still (IsUntold.in_box t leaf is (subst (λ (b : Contents). Contains b.entries (entries.Born slot leaf)) (sym same) e))
    | inr takes ↦
        let its : u ≡ t = ap looked_at (sym looks ∙ takes.0) in
        let b : its_box ≡ box w t = ap (λ phase. box w (looked_at phase)) takes.0 in
        let there : t - 1 < length c.newer = (let many : length c.newer ≡ w.config.mutators = kept.collector.mutators in omega (arith, is.0, is.1)) in
        let here : buffer_at q.newer (t - 1) ≡ box w t = ap (λ row. buffer_at row (t - 1)) (newer ∙ ap (λ n. slice_set c.newer (n - 1) its_box) its) ∙ get_or-set_same c.newer (t - 1) its_box (blank 0 0) there ∙ b in
        IsTold.still (IsUntold.gathered t leaf is waits (subst (λ (x : Contents). Contains x.entries (entries.Born slot leaf)) (sym here) e))
  ]
  gathers_it u slot looks newer waits (IsUntold.gathered t leaf is before e) = elim (cases_eq t u) [
    | inr other ↦
        let first : 0 < u = (now_at w (Looking u) kept looks).first in
        let apart : (t - 1) ≢ (u - 1) = λ same. other (omega (arith, same, is.0, first)) in
        let stays : buffer_at q.newer (t - 1) ≡ buffer_at c.newer (t - 1) = ap (λ row. buffer_at row (t - 1)) newer ∙ get_or-set_other c.newer (u - 1) (t - 1) its_box (blank 0 0) apart in
        IsTold.still (IsUntold.gathered t leaf is waits (subst (λ (x : Contents). Contains x.entries (entries.Born slot leaf)) (sym stays) e))
    | inl same ↦
        let now = now_at w (Looking u) kept looks in
        let spare : buffer_at c.newer (t - 1) ≡ collectors.spare c = now.spares (t - 1) (omega (arith, same)) (let many : length c.newer ≡ w.config.mutators = kept.collector.mutators in omega (arith, is.0, is.1)) in
        absurd (none_in (entries.Born slot leaf) (buffer_at c.newer (t - 1)).entries (ap (λ (x : Contents). x.entries) spare) e)
  ]

  -- no mailbox is looked at in another phase
  unlooked : (phase : Phase) → c.phase ≡ phase → ((t : ℕ) → phase ≡ Looking t → ⊥) → (t : ℕ) → (c.phase ≡ Looking t) × (found ≡ crossing_word c.epoch Retired) → ⊥
  unlooked phase at other t takes = other t (sym at ∙ takes.0)

  pub turned_told : {turn : Turn} (s : Step c found its_box (Some op) q turn) (slot : ℕ) → IsUntold w slot → IsTold (batch_made s) slot
  turned_told (Step.spent idle last is same answer) slot u = absurd (let no : ◌≡◌ {A = Option Op} (Some op) None = is in cc)
  turned_told (Step.request next idle more is present g) slot u = waits_on None slot (ap (λ (x : collectors.Private). x.newer) g.after) (ap (λ (x : collectors.Private). has_batched x.phase) g.after) (unlooked Idle idle (λ t e. cc)) u
  turned_told (Step.request_alone idle more is alone on) slot u = applies_it c.epoch slot (unlooked Idle idle (λ t e. cc)) u
  turned_told (Step.cross_for t next looks crosses is present g) slot u = absurd (crosses_none w t kept looks op found is refl crosses)
  turned_told (Step.cross_for_last t looks crosses is left on) slot u = absurd (crosses_none w t kept looks op found is refl crosses)
  turned_told (Step.wait t looks stays is same answer) slot u = waits_on None slot (ap (λ (x : collectors.Private). x.newer) same) (ap (λ (x : collectors.Private). has_batched x.phase) same ∙ ap has_batched looks) (λ s takes. waits_other w t kept looks op found is refl stays takes.1) u
  turned_told (Step.gather t looks word_is is g) slot u = gathers_it t slot looks (ap (λ (x : collectors.Private). x.newer) g.after) (ap (λ (x : collectors.Private). has_batched x.phase) g.after) u
  turned_told (Step.give_back t next returning is present g) slot u = waits_on None slot (ap (λ (x : collectors.Private). x.newer) g.after) (ap (λ (x : collectors.Private). has_batched x.phase) g.after) (unlooked (Returning t) returning (λ s e. cc)) u
  turned_told (Step.apply t returning is left on) slot u = applies_it (c.epoch - 1) slot (unlooked (Returning t) returning (λ s e. cc)) u
  turned_told (Step.release m releasing is on) slot u = works_on None slot (ap has_batched releasing) (unlooked _ releasing (λ s e. cc)) u
  turned_told (Step.freeing m freeing is on) slot u = works_on None slot (ap has_batched freeing) (unlooked _ freeing (λ s e. cc)) u
  turned_told (Step.trial m trying is on) slot u = works_on None slot (ap has_batched trying) (unlooked _ trying (λ s e. cc)) u
  turned_told (Step.preparation m preparing is on) slot u = works_on None slot (ap has_batched preparing) (unlooked _ preparing (λ s e. cc)) u
  turned_told (Step.begin_sweep opening is g) slot u = works_on None slot (ap has_batched opening) (unlooked _ opening (λ s e. cc)) u
  turned_told (Step.sweep due swept x phase sweeping is which next g) slot u = works_on None slot (ap has_batched sweeping) (unlooked _ sweeping (λ s e. cc)) u
  turned_told (Step.end_sweep swept closing is e) slot u = works_on None slot (ap has_batched closing) (unlooked _ closing (λ s e. cc)) u

-- ---- headers

-- what is taken after an operation of the collector was taken before, and isn't the slot that it swept
pub turned_taken : (w : Core) (op : Op) (slots fields mutators : ℕ) → NamesWord slots fields mutators op → (s : ℕ) → 0 < slice_index_or (turned_by w op (cell (cells_of w) op)).headers s 0 → (0 < slice_index_or w.headers s 0) × ((x : ℕ) → op ≡ ops.FreeHeader x → s ≢ x)
turned_taken w (ops.FreeHeader x) slots fields mutators names s some = elim (cases_eq s x) [
  | inl same ↦ absurd (gone same)
  | inr other ↦ (subst (λ n. 0 < n) (get_or-set_other w.headers x s 0 0 other) some, λ y e same. other (same ∙ swept_of e))
]
  where
    gone : s ≡ x → ⊥
    gone same = elim (cases_lt x (length w.headers)) [
      | inl there ↦ (let none : slice_index_or (slice_set w.headers x 0) s 0 ≡ 0 = ap (λ n. slice_index_or (slice_set w.headers x 0) n 0) same ∙ get_or-set_same w.headers x 0 0 there in omega (arith, some, none))
      | inr past ↦ (let none : slice_index_or (slice_set w.headers x 0) s 0 ≡ 0 = get_or_past (slice_set w.headers x 0) s 0 (omega (arith, past, same, length-set w.headers x 0)) in omega (arith, some, none))
    ]

    swept_of : {y : ℕ} → ops.FreeHeader x ≡ ops.FreeHeader y → y ≡ x
    swept_of e = cc
turned_taken w (ops.StoreEpoch e) slots fields mutators names s some = (some, λ x is. absurd (cc))
turned_taken w (ops.LookBox t e) slots fields mutators names s some = (some, λ x is. absurd (cc))
turned_taken w (ops.ReturnBox t e) slots fields mutators names s some = (some, λ x is. absurd (cc))
turned_taken w (ops.LoadChild place) slots fields mutators names s some = (some, λ x is. absurd (cc))
turned_taken w (ops.ClearField place) slots fields mutators names s some = (some, λ x is. absurd (cc))
turned_taken w ops.AddFreed slots fields mutators names s some = (some, λ x is. absurd (cc))
turned_taken w _ slots fields mutators names s some = absurd names

-- ---- other moves

-- a work that begins keeps them, and so does the offer of all slots
pub begun_untold : {dated : Bool} → (w : Core) (t : ℕ) (work : Work) (from : ℕ) → IsKept dated w → IsMutator w.config t → (slot : ℕ) → IsUntold w slot → IsUntold (begun_from w t work from) slot
unfolding begun_of
begun_untold w t work from kept is slot (IsUntold.in_log s leaf there c) = elim (cases_eq s t) [
  | inl same ↦
      let here : mutator (begun_from w t work from) s ≡ begun_of (mutator w t) work from = ap (λ n. slice_index_or (slice_set w.mutators (t - 1) (begun_of (mutator w t) work from)) (n - 1) nobody) same ∙ get_or-set_same w.mutators (t - 1) (begun_of (mutator w t) work from) nobody (in_list w t kept is) in
      IsUntold.in_log s leaf there (subst (λ (x : Private). Contains x.log.entries (entries.Born slot leaf)) (sym here) (subst (λ n. Contains (mutator w n).log.entries (entries.Born slot leaf)) same c))
  | inr other ↦
      let apart : (s - 1) ≢ (t - 1) = λ e. other (omega (arith, e, is.0, there.0)) in
      IsUntold.in_log s leaf there (subst (λ (x : Private). Contains x.log.entries (entries.Born slot leaf)) (sym (get_or-set_other w.mutators (t - 1) (s - 1) (begun_of (mutator w t) work from) nobody apart)) c)
]
begun_untold w t work from kept is slot (IsUntold.in_box s leaf there c) = IsUntold.in_box s leaf there c
begun_untold w t work from kept is slot (IsUntold.gathered s leaf there waits c) = IsUntold.gathered s leaf there waits c

pub offering_untold : (w : Core) (slot : ℕ) → IsUntold w slot → IsUntold (offering w) slot
offering_untold w slot (IsUntold.in_log t leaf is c) = IsUntold.in_log t leaf is c
offering_untold w slot (IsUntold.in_box t leaf is c) = IsUntold.in_box t leaf is c
offering_untold w slot (IsUntold.gathered t leaf is waits c) = IsUntold.gathered t leaf is waits c

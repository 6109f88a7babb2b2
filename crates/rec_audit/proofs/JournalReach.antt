-- What a journal tells of references and roots at the epoch of the last batch is so of the accounts.
use Rattle.std.proofs.Common.{◌≡◌, inl, inr, ℕ, zero, suc, ◌+◌, ◌-◌, ◌*◌, ◌/◌, ◌%◌, ◌<◌, ◌≤◌, Bool, true, Option, None, Some, List, [], ◌∷◌, length, replicate, slice_index_or, refl, sym, ap, ◌∙◌, arith}
use Rattle.std.specs.List.{Contains, sum_by, zip}
use Rattle.std.proofs.lemmas.Bool.{cases_lt, false≢true}
use Rattle.std.proofs.lemmas.Bool.Decides.{nat_tests}
use Rattle.std.proofs.Math.Nat.{div-add-mod, mod-lt, mul_comm, mul-le-mul_right}
use Rattle.std.proofs.lemmas.List.{get_or-replicate, get_or_past}
use Rattle.std.proofs.lemmas.List.Sums.{get_or-le-sum_by, sum_by-cons, sum_by-le-sum_by}
use Rattle.rec_core.proofs.Common.{place_of, words_of, word_in, epoch_of, node_of, home, Write, Dated, dated, dated_birth, is_at, is_from, get_or-le-sum_at, Entry, blank, buffer_at, Phase, Idle, Looking, Swapping, Returning, Core, mutator, box, nobody, IsKept, epoch_at, Filed, births_in, dated_names, pending, applied_at}
use Rattle.rec_log.specs.declared.entry.Entry.TheVariants as entries
use Rattle.rec_model.specs.Accounted.{touches}
use Rattle.rec_model.specs.References.{IsInReach}
use Rattle.rec_core.specs.Core.{sight}
use Rattle.rec_model.proofs.Counted.{closed_out_of, edge_sum, opened_from}
use Rattle.rec_model.proofs.Ledgers.{node_of_null}
use Rattle.rec_model.proofs.Reaching.{root_in_reach, target_in_reach}
use Rattle.rec_core.specs.Pending.{writes_of, has_batched}
use Rattle.rec_audit.proofs.Journalled.{StandsIn, applied_in, box_later, log_later}
use Rattle.rec_audit.proofs.Lasting.{Lasts, closes}
use Rattle.rec_audit.proofs.Newborn.{IsUntold, none_in}
use Rattle.rec_core.proofs.Sums.{box_share, buffers_sum, log_share, share}

-- ---- references

edge_of_word : (w : Core) (place word epoch : ℕ) → slice_index_or w.words place 0 ≡ word → 0 < node_of word → epoch_of word ≤ epoch → 0 < edge_sum (pending w) epoch (home w.config.fields place) (node_of word)
edge_of_word w place word epoch is target early = elim (cases_lt place (length w.words)) [
  | inl there ↦ omega (
    arith,
    get_or-le-sum_at (opened_from w.config.fields epoch (home w.config.fields place) (node_of word)) w.words place 0 there,
    ap (opened_from w.config.fields epoch (home w.config.fields place) (node_of word) place) is,
    one w.config.fields epoch place word early,
  )
  | inr past ↦ (let none : word ≡ 0 = sym is ∙ get_or_past w.words place 0 past in absurd (omega (arith, target, ap node_of none, node_of_null)))
]
  where
    one : (fields epoch place word : ℕ) → epoch_of word ≤ epoch → opened_from fields epoch (home fields place) (node_of word) place word ≡ 1
    one fields epoch place word early = grind (arith, nat_tests)

edge_of_write : (w : Core) (place word epoch : ℕ) → 0 < sum_by (closes (record { place = place; word = word; epoch = epoch })) (writes_of w) → epoch_of word ≤ epoch → 0 < edge_sum (pending w) epoch (home w.config.fields place) (node_of word)
edge_of_write w place word epoch some early = omega (arith, some, sum_by-le-sum_by (closes (record { place = place; word = word; epoch = epoch })) (closed_out_of w.config.fields epoch (home w.config.fields place) (node_of word)) (writes_of w) (λ x. less w.config.fields epoch place word early x))
  where
    less : (fields epoch place word : ℕ) → epoch_of word ≤ epoch → (x : Write) → closes (record { place = place; word = word; epoch = epoch }) x ≤ closed_out_of fields epoch (home fields place) (node_of word) x
    less fields epoch place word early x = grind (arith, nat_tests)

-- a word that lasts, and was put up to the epoch, leads from what is in reach to what is
pub leads_on : (w : Core) (place word : ℕ) → Lasts w [] (record { place = place; word = word; epoch = applied_in w }) → 0 < node_of word → epoch_of word ≤ applied_in w → IsInReach (pending w) (applied_in w) (home w.config.fields place) → IsInReach (pending w) (applied_in w) (node_of word)
leads_on w place word (inl stands) target early from = target_in_reach (pending w) (applied_in w) (home w.config.fields place) (node_of word) target from (edge_of_word w place word (applied_in w) stands target early)
leads_on w place word (inr (inl replaced)) target early from = target_in_reach (pending w) (applied_in w) (home w.config.fields place) (node_of word) target from (edge_of_write w place word (applied_in w) replaced early)
leads_on w place word (inr (inr gone)) target early from = absurd (let below = gone.1 in omega arith)

-- ---- births and snapshots

pub birth_weighs : (g : Dated → ℕ) (epoch : ℕ) (es : List Entry) (slot : ℕ) (leaf : Bool) → Contains es (entries.Born slot leaf) → g (dated_birth epoch (slot + 1) leaf) ≤ sum_by g (births_in epoch es)
birth_weighs g epoch [] slot leaf c = absurd (let below = c.1 in omega arith)
birth_weighs g epoch (entries.Put p n o ∷ es) slot leaf (zero, below, there) = absurd (cc)
birth_weighs g epoch (entries.Put p n o ∷ es) slot leaf (suc k, below, there) = birth_weighs g epoch es slot leaf (k, omega arith, there)
birth_weighs g epoch (entries.Born s l ∷ es) slot leaf (zero, below, there) =
    let its : Entry → Dated = λ e. birth_of (dated_birth epoch (s + 1) l) e in
    let same : g (dated_birth epoch (s + 1) l) ≡ g (dated_birth epoch (slot + 1) leaf) = ap (λ e. g (its e)) there in
    omega (arith, same, sum_by-cons g (dated_birth epoch (s + 1) l) (births_in epoch es))
  where
    birth_of : Dated → Entry → Dated
    birth_of d (entries.Put a b c) = d
    birth_of d (entries.Born a b) = dated_birth epoch (a + 1) b
birth_weighs g epoch (entries.Born s l ∷ es) slot leaf (suc k, below, there) = omega (arith, sum_by-cons g (dated_birth epoch (s + 1) l) (births_in epoch es), birth_weighs g epoch es slot leaf (k, omega arith, there))

names_weigh : (g : Dated → ℕ) (epoch : ℕ) (xs : List (Option ℕ)) (r slot : ℕ) → slice_index_or xs r None ≡ Some slot → g (dated epoch (slot + 1)) ≤ sum_by g (dated_names epoch xs)
names_weigh g epoch [] r slot is = absurd (cc)
names_weigh g epoch (None ∷ xs) zero slot is = absurd (cc)
names_weigh g epoch (None ∷ xs) (suc r) slot is = names_weigh g epoch xs r slot is
names_weigh g epoch (Some x ∷ xs) zero slot is = (let same : x ≡ slot = cc in omega (arith, ap (λ n. g (dated epoch (n + 1))) same, sum_by-cons g (dated epoch (x + 1)) (dated_names epoch xs)))
names_weigh g epoch (Some x ∷ xs) (suc r) slot is = omega (arith, sum_by-cons g (dated epoch (x + 1)) (dated_names epoch xs), names_weigh g epoch xs r slot is)

pub zip_weighs : {X Y : Type 0} (f : X × Y → ℕ) (xs : List X) (ys : List Y) (i : ℕ) (d : X) (e : Y) → i < length xs → i < length ys → f (slice_index_or xs i d, slice_index_or ys i e) ≤ sum_by f (zip xs ys)
zip_weighs f [] ys i d e there here = absurd (omega arith)
zip_weighs f (x ∷ xs) [] i d e there here = absurd (omega arith)
zip_weighs f (x ∷ xs) (y ∷ ys) zero d e there here = omega (arith, sum_by-cons f (x, y) (zip xs ys))
zip_weighs f (x ∷ xs) (y ∷ ys) (suc i) d e there here = omega (arith, sum_by-cons f (x, y) (zip xs ys), zip_weighs f xs ys i d e (omega arith) (omega arith))

-- while a batch is worked on its epoch is that of the newer buffers
pub worked_epoch : (epoch : ℕ) (phase : Phase) → has_batched phase ≡ true → applied_at epoch phase ≡ epoch - 1
worked_epoch epoch Idle works = absurd (false≢true works)
worked_epoch epoch (Looking t) works = absurd (false≢true works)
worked_epoch epoch (Swapping t) works = absurd (false≢true works)
worked_epoch epoch (Returning t) works = absurd (false≢true works)
worked_epoch epoch phase works = refl

-- the births that buffers tell
abbrev pub tells_births : Filed → List Dated
tells_births b = births_in b.epoch b.buffer.entries

abbrev pub tells_names : Filed → List Dated
tells_names b = dated_names b.epoch b.buffer.snapshot

-- whether a birth is this slot's, in the epoch that is applied or a later one
abbrev pub born_late : Core → (slot : ℕ) → Dated → ℕ
born_late w slot = is_from (applied_in w) (slot + 1)

pub from_birth : (w : Core) (slot epoch : ℕ) (leaf : Bool) → applied_in w ≤ epoch → born_late w slot (dated_birth epoch (slot + 1) leaf) ≡ 1
from_birth w slot epoch leaf late = one (applied_in w) epoch (slot + 1) leaf late
  where
    one : (a e n : ℕ) (leaf : Bool) → a ≤ e → is_from a n (dated_birth e n leaf) ≡ 1
    one a e n leaf late = grind (arith, nat_tests)

module _ (w : Core) (kept : IsKept true w) (slot : ℕ) where
  -- a birth that a batch told, or that none has told yet, is one of the epoch or a later one
  pub batch_root : (leaf : Bool) → has_batched w.collector.phase ≡ true → StandsIn w.collector.newer (entries.Born slot leaf) → IsInReach (pending w) (applied_in w) (slot + 1)
  batch_root leaf works (i, below, c) =
      let epoch : applied_in w ≡ w.epoch - 1 = worked_epoch w.epoch w.collector.phase works in
      root_in_reach (pending w) (applied_in w) (slot + 1) (omega arith)
      (omega (
        arith,
        buffers_sum (born_late w slot) tells_births w,
        get_or-le-sum_by (share (born_late w slot) tells_births (w.epoch - 1)) w.collector.newer i (blank 0 0) below,
        birth_weighs (born_late w slot) (w.epoch - 1) (buffer_at w.collector.newer i).entries slot leaf c,
        from_birth w slot (w.epoch - 1) leaf (omega (arith, epoch)),
      ))

  pub untold_root : has_batched w.collector.phase ≡ true → IsUntold w slot → IsInReach (pending w) (applied_in w) (slot + 1)
  untold_root works (IsUntold.in_log t leaf is c) = elim (log_later w t kept is) [
    | inr none ↦ absurd (none_in (entries.Born slot leaf) (mutator w t).log.entries none c)
    | inl later ↦ root_in_reach (pending w) (applied_in w) (slot + 1) (omega arith) (omega (
      arith,
      buffers_sum (born_late w slot) tells_births w,
      get_or-le-sum_by (log_share (born_late w slot) tells_births) w.mutators (t - 1) nobody (let many : length w.mutators ≡ w.config.mutators = kept.mutators.many in omega (arith, is.0, is.1)),
      birth_weighs (born_late w slot) (epoch_at (mutator w t)) (mutator w t).log.entries slot leaf c,
      from_birth w slot (epoch_at (mutator w t)) leaf (omega (arith, later)),
    ))
  ]
  untold_root works (IsUntold.in_box t leaf is c) = elim (box_later w t kept is) [
    | inr none ↦ absurd (none_in (entries.Born slot leaf) (box w t).entries none c)
    | inl later ↦ root_in_reach (pending w) (applied_in w) (slot + 1) (omega arith) (omega (
      arith,
      buffers_sum (born_late w slot) tells_births w,
      zip_weighs (box_share (born_late w slot) tells_births) w.mutators w.boxes (t - 1) nobody (blank 0 0) (let many : length w.mutators ≡ w.config.mutators = kept.mutators.many in omega (arith, is.0, is.1)) (let many : length w.boxes ≡ w.config.mutators = kept.mutators.mailboxes in omega (arith, is.0, is.1)),
      birth_weighs (born_late w slot) (epoch_at (mutator w t) - 1) (box w t).entries slot leaf c,
      from_birth w slot (epoch_at (mutator w t) - 1) leaf (omega (arith, later)),
    ))
  ]
  untold_root works (IsUntold.gathered t leaf is waits c) = absurd (false≢true (sym waits ∙ works))

  -- what a snapshot of the batch names
  pub snapshot_root : (i r : ℕ) → has_batched w.collector.phase ≡ true → i < length w.collector.newer → slice_index_or (buffer_at w.collector.newer i).snapshot r None ≡ Some slot → IsInReach (pending w) (applied_in w) (slot + 1)
  snapshot_root i r works below names =
      let epoch : applied_in w ≡ w.epoch - 1 = worked_epoch w.epoch w.collector.phase works in
      let g : Dated → ℕ = is_at (applied_in w) (slot + 1) in
      root_in_reach (pending w) (applied_in w) (slot + 1) (omega arith)
      (omega (
        arith,
        buffers_sum g tells_names w,
        get_or-le-sum_by (share g tells_names (w.epoch - 1)) w.collector.newer i (blank 0 0) below,
        names_weigh g (w.epoch - 1) (buffer_at w.collector.newer i).snapshot r slot names,
        one (applied_in w) (w.epoch - 1) (slot + 1) epoch,
      ))
    where
      one : (a e n : ℕ) → a ≡ e → is_at a n (dated e n) ≡ 1
      one a e n same = grind (arith, nat_tests)

-- the fields of a free slot are null
pub free_word : (w : Core) (place : ℕ) → IsKept true w → slice_index_or w.headers (place / w.config.fields) 0 ≡ 0 → slice_index_or w.words place 0 ≡ 0
free_word w place kept free = elim (cases_lt slot (length w.headers)) [
  | inl there ↦
      let null : words_of (sight w) slot ≡ replicate w.config.fields 0 = kept.sound.free slot there (λ taken. omega (arith, taken, free)) in
      ap (λ n. slice_index_or w.words n 0) (sym split) ∙ sym (word_in (sight w) slot f inside) ∙ ap (λ ws. slice_index_or ws f 0) null ∙ get_or-replicate w.config.fields f 0 0 inside
  | inr past ↦
      let places : length w.words ≡ length w.headers * w.config.fields = kept.sound.places in
      get_or_past w.words place 0 (omega (arith, places, split, mul-le-mul_right w.config.fields past))
]
  where
    slot : ℕ
    slot = place / w.config.fields

    f : ℕ
    f = place % w.config.fields

    some : 0 < w.config.fields
    some = kept.config.some_fields

    inside : place % w.config.fields < w.config.fields
    inside = mod-lt place some

    split : place_of (place / w.config.fields) (place % w.config.fields) w.config.fields ≡ place
    split = omega (arith, div-add-mod place w.config.fields, mul_comm w.config.fields (place / w.config.fields))

-- What a later write replaced was of a slot in reach.
pub replaced_home : (w : Core) (place word : ℕ) → IsKept true w → 0 < sum_by (closes (record { place = place; word = word; epoch = applied_in w + 1 })) (writes_of w) → IsInReach (pending w) (applied_in w) (home w.config.fields place)
replaced_home w place word kept some =
    let node : ℕ = home w.config.fields place in
    kept.accounted.held (applied_in w) (omega arith) kept.accounted.epochs.behind node (omega arith)
    (omega (arith, some, sum_by-le-sum_by (closes (record { place = place; word = word; epoch = applied_in w + 1 })) (touches w.config.fields (applied_in w) node) (writes_of w) (λ x. less w.config.fields (applied_in w) place word x)))
  where
    less : (fields epoch place word : ℕ) (x : Write) → closes (record { place = place; word = word; epoch = epoch + 1 }) x ≤ touches fields epoch (home fields place) x
    less fields epoch place word x = grind (arith, nat_tests)

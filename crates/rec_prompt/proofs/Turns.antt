-- A turn of the collector names nothing that is forgotten.
use Rattle.std.proofs.Common.{◌≡◌, ◌⊎◌, inl, inr, ℕ, ◌+◌, ◌-◌, ◌/◌, ◌%◌, ◌<◌, ◌≤◌, ◌==◌, if◌then◌else◌, true, false, Bool, List, [], ◌∷◌, Option, None, Some, IfSome, length, map, replicate, slice_index_or, slice_set, refl, sym, ap, subst, ◌∙◌, arith}
use Rattle.std.proofs.Math.ListN.{get_or-map}
use Rattle.std.proofs.Math.Nat.{mod-lt, div-add-mod, mul_comm, mul-le-mul_right}
use Rattle.std.proofs.lemmas.Bool.{cases_lt, false≢true}
use Rattle.std.proofs.lemmas.List.{length-set, get_or-set_same, get_or-set_other, get_or_past, get_or-replicate, length-replicate, set-get_or}
use Rattle.rec_core.proofs.Common.{crossing_word, Retired, Spare, WithMutator, place_of, target_of, Op, IsTaken, word_in, Contents, Parts, with_parts, buffer_at, PreparesOn, TriesOn, ClearsOn, Begun, cleared, noted, requested, Phase, Idle, Looking, Turn, cell, with_cell, IsMutator, Core, cells_of, box, mutator, sight, crossing_of, IsKept, left_by, looked_at, turned, turned_by, epoch_at}
use Rattle.rec_word.specs.Op.{written}
use Rattle.rec_word.specs.declared.op.Op.TheVariants as ops
use Rattle.rec_model.specs.Reach.{is_in}
use Rattle.rec_model.proofs.Members.{is_in-cons, is_in-head}
use Rattle.rec_model.proofs.Unfreed.{taken_or_free}
use Rattle.rec_sigma.specs.Prepare as preps
use Rattle.rec_trial.specs.Trial as trials
use Rattle.rec_collector.specs.Kept.{under_way}
use Rattle.rec_collector.specs.Next.{next_of}
use Rattle.rec_collector.specs.Private as collectors
use Rattle.rec_collector.specs.Step as step
use Rattle.rec_collector.specs.Took.{step_of}
use Rattle.rec_collector.proofs.Always.{names_word}
use Rattle.rec_core.proofs.Actors.{crossed_here}
use Rattle.rec_core.proofs.Gathering.{looked_due}
use Rattle.rec_core.proofs.Runs.{rule_of, turned_kept}
use Rattle.rec_core.proofs.Shapes.{same_boxes}
use Rattle.rec_core.proofs.PlainWords.{crosses_none, takes_retired}
use Rattle.rec_core.proofs.Turning.{mutator_at, some_op, turn_case}
use Rattle.rec_core.proofs.Turns.{now_at}
use Rattle.rec_prompt.specs.Prompt.{freed_by}
use Rattle.rec_prompt.proofs.Forgets.{counted, Forgets, IsClean, empty_clean, set_or}

-- What a turn does to the collector's buffers: nothing, or it completes a collection, and then the newer ones are the older ones, or it
-- gathers one.
pub data Rows (p q : collectors.Private) : Type 0 where
  kept_rows : q.newer ≡ p.newer → q.older ≡ p.older → q.collections ≡ p.collections → Rows p q
  turned_rows : q.newer ≡ map cleared p.older → q.older ≡ p.newer → q.collections ≡ p.collections + 1 → q.phase ≡ Idle → Rows p q

-- the same from a record with these buffers
pub rows_as : {p r q : collectors.Private} → r.newer ≡ p.newer → r.older ≡ p.older → r.collections ≡ p.collections → Rows r q → Rows p q
rows_as newer older many (Rows.kept_rows a b c) = Rows.kept_rows (a ∙ newer) (b ∙ older) (c ∙ many)
rows_as newer older many (Rows.turned_rows a b c d) = Rows.turned_rows (a ∙ ap (map cleared) older) (b ∙ newer) (c ∙ ap (λ n. n + 1) many) d

goes_rows : (p q : collectors.Private) (w : Parts) (turn : Turn) (next : Phase) → step.GoesOn (with_parts p w) q turn next → Rows p q
goes_rows p q w turn next g = Rows.kept_rows (ap (λ (x : collectors.Private). x.newer) g.after) (ap (λ (x : collectors.Private). x.older) g.after) (ap (λ (x : collectors.Private). x.collections) g.after)

ends_rows : (p q : collectors.Private) (w : Parts) (turn : Turn) (swept : ℕ) → step.Ends (with_parts p w) q turn swept → Rows p q
ends_rows p q w turn swept e = Rows.turned_rows (ap (λ (x : collectors.Private). x.newer) e.after) (ap (λ (x : collectors.Private). x.older) e.after) (ap (λ (x : collectors.Private). x.collections) e.after) (ap (λ (x : collectors.Private). x.phase) e.after)

pub prepares_rows : (p q : collectors.Private) (w : Parts) (v : preps.Work) (turn : Turn) → PreparesOn p w v q turn → Rows p q
prepares_rows p q w v turn (PreparesOn.more busy g) = goes_rows p q (record w { counts = v.counts }) turn _ g
prepares_rows p q w v turn (PreparesOn.sweeps_next done some g) = goes_rows p q (record w { counts = v.counts }) turn _ g
prepares_rows p q w v turn (PreparesOn.completes done none e) = ends_rows p q (record w { counts = v.counts }) turn _ e

pub tries_rows : (p q : collectors.Private) (w : Parts) (v : trials.Work) (turn : Turn) → TriesOn p w v q turn → Rows p q
tries_rows p q w v turn (TriesOn.more busy g) = goes_rows p q (record w { counts = v.counts }) turn _ g
tries_rows p q w v turn (TriesOn.prepares done on) = prepares_rows p q _ _ turn on

pub clears_rows : (p q : collectors.Private) (turn : Turn) {b : Begun} → ClearsOn p q turn b → Rows p q
clears_rows p q turn {b} (ClearsOn.works phase at g) = goes_rows p q b.parts turn _ g
clears_rows p q turn (ClearsOn.tests c none some tested on) = clears_rows p q turn on
clears_rows p q turn (ClearsOn.tries none empty due on) = tries_rows p q _ _ turn on
clears_rows p q turn (ClearsOn.waits none empty off on) = prepares_rows p q _ _ turn on

-- what a mailbox that the collector looks at is left with
left_or : (c : collectors.Private) (found : ℕ) (b : Contents) (phase : Phase) → (left_by c found b phase ≡ b) ⊎ (left_by c found b phase ≡ collectors.spare c)
left_or c found b (Looking t) = elim (found == crossing_word c.epoch Retired) as (λ (x : Bool). ((if x then collectors.spare c else b) ≡ b) ⊎ ((if x then collectors.spare c else b) ≡ collectors.spare c)) [ true ↦ inr refl | false ↦ inl refl ]
left_or c found b _ = inl refl

-- a field that leads somewhere is a taken slot's
pub leads_from_taken : {dated : Bool} → (u : Core) → IsKept dated u → (place slot : ℕ) → target_of (slice_index_or u.words place 0) ≡ Some slot → IsTaken (sight u) (place / u.config.fields)
leads_from_taken u kept place slot leads = elim (taken_or_free (sight u) (place / u.config.fields)) [
  | inl taken ↦ taken
  | inr free ↦ absurd (nowhere (place / u.config.fields) (place % u.config.fields) here (mod-lt place kept.config.some_fields) free)
]
  where
    here : place_of (place / u.config.fields) (place % u.config.fields) u.config.fields ≡ place
    here = ap (λ k. k + place % u.config.fields) (mul_comm (place / u.config.fields) u.config.fields) ∙ div-add-mod place u.config.fields

    null : slice_index_or u.words place 0 ≡ 0 → ⊥
    null zero = let not_so : ◌≡◌ {A = Option ℕ} None (Some slot) = sym (ap target_of zero) ∙ leads in cc

    zeros : (f : ℕ) → ◌≡◌ {A = ℕ} (slice_index_or (replicate u.config.fields 0) f 0) 0
    zeros f = elim (cases_lt f u.config.fields) [
      | inl inside ↦ get_or-replicate u.config.fields f 0 0 inside
      | inr past ↦ let many : length (replicate {A = ℕ} u.config.fields 0) ≡ u.config.fields = length-replicate u.config.fields 0 in get_or_past (replicate {A = ℕ} u.config.fields 0) f 0 (omega (arith, past, many))
    ]

    nowhere : (x f : ℕ) → place_of x f u.config.fields ≡ place → f < u.config.fields → (IsTaken (sight u) x → ⊥) → ⊥
    nowhere x f at within free = elim (cases_lt x (length u.headers)) [
      | inl below ↦ null (sym (ap (λ n. slice_index_or u.words n 0) at) ∙ sym (word_in (sight u) x f within) ∙ ap (λ ws. slice_index_or ws f 0) (kept.sound.free x below free) ∙ zeros f)
      | inr past ↦ null (get_or_past u.words place 0 (omega (arith, at, kept.sound.places, mul-le-mul_right u.config.fields past)))
    ]

-- what one operation of the collector does to a header
op_headers : (v u : Core) (op : Op) (slot slots fields mutators : ℕ) → u.headers ≡ (with_cell (cells_of v) op (written op (cell (cells_of v) op))).headers → step.NamesWord slots fields mutators op → is_in slot (freed_by (Some op)) ≡ false
    → slice_index_or u.headers slot 0 ≡ slice_index_or v.headers slot 0
op_headers v u (ops.StoreEpoch e) slot slots fields mutators is names free = ap (λ hs. slice_index_or hs slot 0) is
op_headers v u (ops.LookBox t e) slot slots fields mutators is names free = ap (λ hs. slice_index_or hs slot 0) is
op_headers v u (ops.ReturnBox t e) slot slots fields mutators is names free = ap (λ hs. slice_index_or hs slot 0) is
op_headers v u (ops.LoadChild x) slot slots fields mutators is names free = ap (λ hs. slice_index_or hs slot 0) is
op_headers v u (ops.ClearField x) slot slots fields mutators is names free = ap (λ hs. slice_index_or hs slot 0) is
op_headers v u (ops.FreeHeader x) slot slots fields mutators is names free = ap (λ hs. slice_index_or hs slot 0) is ∙ get_or-set_other v.headers x slot 0 0 (λ same. false≢true (sym free ∙ ap (λ n. is_in slot (n ∷ [])) (sym same) ∙ is_in-head slot []))
op_headers v u ops.AddFreed slot slots fields mutators is names free = ap (λ hs. slice_index_or hs slot 0) is
op_headers v u _ slot slots fields mutators is names free = absurd names

-- a slot that it frees holds no object
pub op_frees : (v u : Core) (op : Op) (slot : ℕ) → u.headers ≡ (with_cell (cells_of v) op (written op (cell (cells_of v) op))).headers → is_in slot (freed_by (Some op)) ≡ true → IsTaken (sight u) slot → ⊥
op_frees v u (ops.FreeHeader x) slot is freed taken = elim (is_in-cons slot x [] freed) [
  | inl same ↦ elim (set_or v.headers x 0 slot 0) [
    | inr null ↦ omega (arith, taken, ap (λ hs. slice_index_or hs slot 0) is, null)
    | inl other ↦ elim (cases_lt x (length v.headers)) [
      | inl below ↦ omega (arith, taken, ap (λ hs. slice_index_or hs slot 0) is, ap (λ n. slice_index_or (slice_set v.headers x 0) n 0) (sym same), get_or-set_same v.headers x 0 0 below)
      | inr past ↦ omega (arith, taken, ap (λ hs. slice_index_or hs slot 0) is, other, get_or_past v.headers slot 0 (omega (arith, past, same)))
    ]
  ]
  | inr none ↦ false≢true none
]
op_frees v u _ slot is freed taken = absurd (false≢true freed)

-- and what it does to the word in a field
op_leads : (v u : Core) (op : Op) (place slot slots fields mutators : ℕ) → u.words ≡ (with_cell (cells_of v) op (written op (cell (cells_of v) op))).words → step.NamesWord slots fields mutators op → target_of (slice_index_or u.words place 0) ≡ Some slot
    → target_of (slice_index_or v.words place 0) ≡ Some slot
op_leads v u (ops.StoreEpoch e) place slot slots fields mutators is names leads = sym (ap (λ ws. target_of (slice_index_or ws place 0)) is) ∙ leads
op_leads v u (ops.LookBox t e) place slot slots fields mutators is names leads = sym (ap (λ ws. target_of (slice_index_or ws place 0)) is) ∙ leads
op_leads v u (ops.ReturnBox t e) place slot slots fields mutators is names leads = sym (ap (λ ws. target_of (slice_index_or ws place 0)) is) ∙ leads
op_leads v u (ops.LoadChild x) place slot slots fields mutators is names leads = sym (ap (λ ws. target_of (slice_index_or ws place 0)) (is ∙ set-get_or v.words x 0)) ∙ leads
op_leads v u (ops.ClearField x) place slot slots fields mutators is names leads = elim (set_or v.words x 0 place 0) [
  | inl other ↦ sym (ap target_of (ap (λ ws. slice_index_or ws place 0) is ∙ other)) ∙ leads
  | inr null ↦ let not_so : ◌≡◌ {A = Option ℕ} None (Some slot) = sym (ap target_of (ap (λ ws. slice_index_or ws place 0) is ∙ null)) ∙ leads in absurd (cc)
]
op_leads v u (ops.FreeHeader x) place slot slots fields mutators is names leads = sym (ap (λ ws. target_of (slice_index_or ws place 0)) is) ∙ leads
op_leads v u ops.AddFreed place slot slots fields mutators is names leads = sym (ap (λ ws. target_of (slice_index_or ws place 0)) is) ∙ leads
op_leads v u _ place slot slots fields mutators is names leads = absurd names

-- A turn of the collector with an operation.
module _ (late : ℕ) (first : Core) (lost : ℕ → Type 0) (v : Core) (op : Op) (kept : IsKept true v) (named : ◌≡◌ {A = Option Op} (next_of v.collector) (Some op)) (after : IsKept true (turned_by v op (cell (cells_of v) op))) (f : Forgets late first lost v) where
  open v use {collector as c}

  abbrev found : ℕ
  found = cell (cells_of v) op

  abbrev its_box : Contents
  its_box = box v (looked_at c.phase)

  abbrev q : collectors.Private
  q = step_of c found its_box

  abbrev u : Core
  u = turned_by v op found

  names : step.NamesWord (length c.counts.slots) c.fields (length c.newer) op
  names = subst (λ (o : Option Op). IfSome o (step.NamesWord (length c.counts.slots) c.fields (length c.newer))) named (names_word c kept.collector.machine)

  -- what is lost and isn't freed by this turn
  abbrev left : ℕ → Type 0
  left slot = lost slot × (is_in slot (freed_by (Some op)) ≡ false)

  -- an empty mailbox of the collector's is clean
  spare_of_own : (slot : ℕ) (b : Contents) → b ≡ collectors.spare c → IsClean slot b
  spare_of_own slot b is = empty_clean slot c.registers b (ap (λ (x : Contents). x.entries) is) (ap (λ (x : Contents). x.snapshot) is)

  boxes_clean : (t slot : ℕ) → IsMutator v.config t → late + 1 ≤ epoch_at (mutator v t) → lost slot → IsClean slot (box u t)
  boxes_clean t slot is from gone = elim (left_or c found its_box c.phase) [
    | inl same ↦
        let kept_boxes : u.boxes ≡ v.boxes = ap (slice_set v.boxes (looked_at c.phase - 1)) same ∙ same_boxes v (looked_at c.phase) in
        subst (λ (bs : List Contents). IsClean slot (slice_index_or bs (t - 1) (collectors.blank 0 0))) (sym kept_boxes) (f.boxes t slot is from gone)
    | inr spare ↦ elim (set_or v.boxes (looked_at c.phase - 1) (left_by c found its_box c.phase) (t - 1) (collectors.blank 0 0)) [
      | inl other ↦ subst (IsClean slot) (sym other) (f.boxes t slot is from gone)
      | inr own ↦ spare_of_own slot (box u t) (own ∙ spare)
    ]
  ]

  cleared_clean : (i slot : ℕ) (row : List Contents) → IsClean slot (buffer_at (map cleared row) i)
  cleared_clean i slot row = subst (IsClean slot) (sym (get_or-map cleared row i (collectors.blank 0 0))) (empty_clean slot (length (buffer_at row i).snapshot) (cleared (buffer_at row i)) refl refl)

  -- the newer and the older buffers are clean, where late enough
  abbrev AreClean : Type 0
  AreClean = ((i slot : ℕ) → i < length q.newer → late ≤ counted u → lost slot → IsClean slot (buffer_at q.newer i)) × ((i slot : ℕ) → i < length q.older → late + 1 ≤ counted u → lost slot → IsClean slot (buffer_at q.older i))

  rows_clean : Rows c q → AreClean
  rows_clean (Rows.kept_rows newer older many) = (
    λ i slot below from gone. subst (λ (bs : List Contents). IsClean slot (buffer_at bs i)) (sym newer) (f.newer i slot (subst (λ (bs : List Contents). i < length bs) newer below) (omega (arith, from, many)) gone),
    λ i slot below from gone. subst (λ (bs : List Contents). IsClean slot (buffer_at bs i)) (sym older) (f.older i slot (subst (λ (bs : List Contents). i < length bs) older below) (omega (arith, from, many)) gone),
  )
  rows_clean (Rows.turned_rows newer older many idle) = (
    λ i slot below from gone. subst (λ (bs : List Contents). IsClean slot (buffer_at bs i)) (sym newer) (cleared_clean i slot c.older),
    λ i slot below from gone. subst (λ (bs : List Contents). IsClean slot (buffer_at bs i)) (sym older) (f.newer i slot (subst (λ (bs : List Contents). i < length bs) older below) (omega (arith, from, many)) gone),
  )

  -- a mailbox is gathered
  gathered_clean : (t : ℕ) → c.phase ≡ Looking t → crossing_of v t ≡ crossing_word v.epoch Retired → q.newer ≡ slice_set c.newer (t - 1) its_box → q.older ≡ c.older → q.collections ≡ c.collections → AreClean
  gathered_clean t at crossed newer older many = (
    λ i slot below from gone. elim (set_or c.newer (t - 1) its_box i (collectors.blank 0 0)) [
      | inl other ↦ subst (IsClean slot) (sym (ap (λ (bs : List Contents). buffer_at bs i) newer ∙ other)) (f.newer i slot (subst (λ n. i < n) (ap length newer ∙ length-set c.newer (t - 1) its_box) below) (omega (arith, from, many)) gone)
      | inr own ↦ subst (IsClean slot) (sym (ap (λ (bs : List Contents). buffer_at bs i) newer ∙ own ∙ ap (λ phase. box v (looked_at phase)) at)) (f.boxes t slot is (omega (arith, from, many, epoch, begun, way)) gone)
    ],
    λ i slot below from gone. subst (λ (bs : List Contents). IsClean slot (buffer_at bs i)) (sym older) (f.older i slot (subst (λ (bs : List Contents). i < length bs) older below) (omega (arith, from, many)) gone),
  )
    where
      is : IsMutator v.config t
      is = let now = now_at v (Looking t) kept at in mutator_at v t (Looking t) kept at (now.first, now.there)

      begun : v.config.first_epoch + c.collections + under_way c.phase ≡ v.epoch
      begun = kept.collector.begun

      way : under_way c.phase ≡ 1
      way = ap under_way at

      epoch : epoch_at (mutator v t) ≡ v.epoch
      epoch = elim (looked_due v t kept is at) [
        | inl behind ↦ let word : crossing_of v t ≡ crossing_word (mutator v t).epoch Spare = behind.word in absurd (omega (arith, word, crossed))
        | inr others ↦ elim others [
          | inl crosses ↦ let word : crossing_of v t ≡ crossing_word v.epoch WithMutator = crosses.word in absurd (omega (arith, word, crossed))
          | inr done ↦ crossed_here done.0
        ]
      ]

  clean : {turn : Turn} → step.Step c found its_box (Some op) q turn → AreClean
  clean (step.Step.spent at last none is turn) = let n : ◌≡◌ {A = Option Op} (Some op) None = none in absurd (cc)
  clean (step.Step.request next at more is n g) = rows_clean (Rows.kept_rows (ap (λ (x : collectors.Private). x.newer) g.after) (ap (λ (x : collectors.Private). x.older) g.after) (ap (λ (x : collectors.Private). x.collections) g.after))
  clean (step.Step.request_alone at more is gone on) = rows_clean (rows_as refl refl refl (clears_rows (requested c) q _ on))
  clean (step.Step.cross_for t next at crosses is n g) = absurd (crosses_none v t kept at op found is refl crosses)
  clean (step.Step.cross_for_last t at crosses is gone on) = absurd (crosses_none v t kept at op found is refl crosses)
  clean (step.Step.wait t at other is same turn) = rows_clean (Rows.kept_rows (ap (λ (x : collectors.Private). x.newer) same) (ap (λ (x : collectors.Private). x.older) same) (ap (λ (x : collectors.Private). x.collections) same))
  clean (step.Step.gather t at takes is g) =
      let crossed : found ≡ crossing_word c.epoch Retired = takes_retired v t kept at op found is refl takes in
      let epoch : c.epoch ≡ v.epoch = kept.collector.epoch in
      let word : crossing_of v t ≡ found = sym (ap (cell (cells_of v)) (some_op op (ops.LookBox t c.epoch) is)) in
      gathered_clean t at (word ∙ crossed ∙ ap (λ n. crossing_word n Retired) epoch) (ap (λ (x : collectors.Private). x.newer) g.after) (ap (λ (x : collectors.Private). x.older) g.after) (ap (λ (x : collectors.Private). x.collections) g.after)
  clean (step.Step.give_back t next at is n g) = rows_clean (Rows.kept_rows (ap (λ (x : collectors.Private). x.newer) g.after) (ap (λ (x : collectors.Private). x.older) g.after) (ap (λ (x : collectors.Private). x.collections) g.after))
  clean (step.Step.apply t at is gone on) = rows_clean (rows_as refl refl refl (clears_rows (noted c t) q _ on))
  clean (step.Step.release m at is on) = rows_clean (clears_rows c q _ on)
  clean (step.Step.freeing m at is on) = rows_clean (clears_rows c q _ on)
  clean (step.Step.trial m at is on) = rows_clean (tries_rows c q _ _ _ on)
  clean (step.Step.preparation m at is on) = rows_clean (prepares_rows c q _ _ _ on)
  clean (step.Step.begin_sweep at is g) = rows_clean (Rows.kept_rows (ap (λ (x : collectors.Private). x.newer) g.after) (ap (λ (x : collectors.Private). x.older) g.after) (ap (λ (x : collectors.Private). x.collections) g.after))
  clean (step.Step.sweep due swept w next at is took follows g) = rows_clean (Rows.kept_rows (ap (λ (x : collectors.Private). x.newer) g.after) (ap (λ (x : collectors.Private). x.older) g.after) (ap (λ (x : collectors.Private). x.collections) g.after))
  clean (step.Step.end_sweep swept at is e) = rows_clean (Rows.turned_rows (ap (λ (x : collectors.Private). x.newer) e.after) (ap (λ (x : collectors.Private). x.older) e.after) (ap (λ (x : collectors.Private). x.collections) e.after) (ap (λ (x : collectors.Private). x.phase) e.after))

  leads : (place slot : ℕ) → target_of (slice_index_or u.words place 0) ≡ Some slot → target_of (slice_index_or v.words place 0) ≡ Some slot
  leads place slot there = op_leads v u op place slot (length c.counts.slots) c.fields (length c.newer) refl names there

  -- what leads to something isn't freed
  unfreed : (place slot : ℕ) → target_of (slice_index_or u.words place 0) ≡ Some slot → is_in (place / v.config.fields) (freed_by (Some op)) ≡ false
  unfreed place slot there = go (is_in (place / v.config.fields) (freed_by (Some op))) refl
    where
      go : (b : Bool) → is_in (place / v.config.fields) (freed_by (Some op)) ≡ b → b ≡ false
      go false e = refl
      go true e = absurd (op_frees v u op (place / v.config.fields) refl e (leads_from_taken u after place slot there))

  op_forgets : Forgets late first left u
  op_forgets =
      let rows = clean (rule_of v op kept named) in
      record {
        taken = λ slot gone. (let was : IsTaken (sight v) slot = f.taken slot gone.0 in omega (arith, was, op_headers v u op slot (length c.counts.slots) c.fields (length c.newer) refl names gone.1));
        registers = λ t r slot is names_ gone. f.registers t r slot is names_ gone.0;
        fields = λ place slot there gone. (f.fields place slot (leads place slot there) gone.0, unfreed place slot there);
        still = λ place slot there gone. f.still place slot (leads place slot there) gone.0;
        logs = λ t slot is from gone. f.logs t slot is from gone.0;
        boxes = λ t slot is from gone. boxes_clean t slot is from gone.0;
        newer = λ i slot below from gone. rows.0 i slot below from gone.0;
        older = λ i slot below from gone. rows.1 i slot below from gone.0;
      }

-- A turn of the collector.
pub turn_forgets : (late : ℕ) (first : Core) (lost : ℕ → Type 0) (v : Core) → IsKept true v → Forgets late first lost v → Forgets late first (λ slot. lost slot × (is_in slot (freed_by (next_of v.collector)) ≡ false)) (turned v)
turn_forgets late first lost v kept f = turn_case v (λ o u. IsKept true u → Forgets late first (λ slot. lost slot × (is_in slot (freed_by o) ≡ false)) u) (λ none after. none_forgets) (λ op named after. op_forgets late first lost v op kept named after f) (turned_kept v kept)
  where
    none_forgets : Forgets late first (λ slot. lost slot × (is_in slot (freed_by None) ≡ false)) v
    none_forgets = record {
      taken = λ slot gone. f.taken slot gone.0;
      registers = λ t r slot is names gone. f.registers t r slot is names gone.0;
      fields = λ place slot there gone. (f.fields place slot there gone.0, refl);
      still = λ place slot there gone. f.still place slot there gone.0;
      logs = λ t slot is from gone. f.logs t slot is from gone.0;
      boxes = λ t slot is from gone. f.boxes t slot is from gone.0;
      newer = λ i slot below from gone. f.newer i slot below from gone.0;
      older = λ i slot below from gone. f.older i slot below from gone.0;
    }

-- In a heap of dated words each word's date is the epoch that its stamp tells: of the words in fields, and of those in buffers.
use Rattle.std.proofs.Common.{◌≡◌, inl, inr, Bool, true, false, if◌then◌else◌, ℕ, zero, suc, ◌+◌, ◌-◌, ◌*◌, ◌^◌, ◌≤◌, ◌<◌, ◌==◌, IfSome, Option, None, Some, List, [], ◌∷◌, ◌++◌, length, replicate, slice_index_or, slice_set, refl, sym, ap, subst, ◌∙◌, arith}
use Rattle.std.specs.List.{All, sum_by}
use Rattle.std.proofs.lemmas.Bool.{cases_eq, cases_lt, cond-false, eq-eqb, eqb-true, ne_eqb}
use Rattle.std.proofs.lemmas.List.{get_or-set_other, get_or-set_same, get_or_past, length-set, set-get_or}
use Rattle.std.proofs.lemmas.List.Elements.{All-head, All-tail}
use Rattle.rec_core.proofs.Common.{AllFit, Core, Fits, IsConfig, IsKept, IsMutator, IsStart, IsTarget, Move, Op, Write, after_move, after_moves, cell, cells_of, epoch_of, is_busy, mutator, stamp_of, stepped, turned, turned_by, whole_made, with_cell, writes_of}
use Rattle.rec_word.specs.Op.{written}
use Rattle.rec_word.specs.declared.op.Op.TheVariants as ops
use Rattle.rec_word.specs.declared.stamps.Stamp.{Stamp}
use Rattle.rec_word.proofs.Packing.{stamp_of-packed}
use Rattle.rec_collector.specs.Step as collectors_step
use Rattle.rec_collector.proofs.Always.{names_word}
use Rattle.rec_audit.specs.ByStamps.{stamp_epoch}
use Rattle.rec_core.specs.Core.{box, heap_from_by}
use Rattle.rec_core.specs.Moves.{EndsRun, found_by}
use Rattle.rec_core.specs.Objects.{AreObjects, HaveLabels, Objects, early_stamp, early_word, early_words}
use Rattle.rec_core.proofs.BareOpened.{heap_from_bare}
use Rattle.rec_core.proofs.Dated.{Explains, moves_explained}
use Rattle.rec_core.proofs.EarlyWords.{early_epoch, early_is}
use Rattle.rec_audit.proofs.Lasting.{begun_less, op_less, step_logs, step_sums}
use Rattle.rec_core.proofs.OpenedFrom.{opened_from_kept, pending_begins}
use Rattle.rec_core.proofs.OpenedFromSeen.{all_targets, few_fields}
use Rattle.rec_core.proofs.Runs.{config_after, move_kept}
use Rattle.rec_core.proofs.Steps.{actor_of}
use Rattle.rec_core.proofs.Turning.{turn_case}
use Rattle.rec_core.specs.declared.config.Config.{Config}

-- the date of the word is the epoch that its stamp tells
abbrev pub IsDatedSo : (word : ℕ) → Type 0
IsDatedSo word = epoch_of word ≡ stamp_epoch word

-- counted where it isn't
abbrev pub misdated : (word : ℕ) → ℕ
misdated word = if epoch_of word == stamp_epoch word then 0 else 1

abbrev pub misdates : Write → ℕ
misdates x = misdated x.new + misdated x.old

dated_none : (word : ℕ) → IsDatedSo word → misdated word ≡ 0
dated_none word same = ap (λ b. if b then 0 else 1) (eq-eqb (epoch_of word) (stamp_epoch word) same)

pub none_dated : (word : ℕ) → misdated word ≡ 0 → IsDatedSo word
none_dated word none = go (epoch_of word == stamp_epoch word) refl none
  where
    weighs : Bool → ℕ
    weighs b = if b then 0 else 1

    go : (b : Bool) → epoch_of word == stamp_epoch word ≡ b → weighs b ≡ 0 → IsDatedSo word
    go true is none = eqb-true (epoch_of word) (stamp_epoch word) is
    go false is none = absurd (omega (arith, none))

-- so are the words in all fields and in all writes
pub record AreDatedSo (v : Core) : Type 0 where
  pub words : (place : ℕ) → IsDatedSo (slice_index_or v.words place 0)
  pub writes : sum_by misdates (writes_of v) ≡ 0

null_dated : IsDatedSo 0
unfolding epoch_of
null_dated = refl

-- a field that is set to such a word, and the others
set_dated : (words : List ℕ) (at word place : ℕ) → ((place : ℕ) → IsDatedSo (slice_index_or words place 0)) → IsDatedSo word → IsDatedSo (slice_index_or (slice_set words at word) place 0)
set_dated words at word place all is = elim (cases_eq place at) [
  | inl same ↦ subst (λ n. IsDatedSo (slice_index_or (slice_set words at word) n 0)) (sym same) (elim (cases_lt at (length words)) [
    | inl there ↦ subst IsDatedSo (sym (get_or-set_same words at word 0 there)) is
    | inr past ↦ subst IsDatedSo (sym (get_or_past (slice_set words at word) at 0 (omega (arith, past, length-set words at word)))) null_dated
  ])
  | inr other ↦ subst IsDatedSo (sym (get_or-set_other words at place word 0 other)) (all place)
]

-- ---- moves

module _ (v : Core) (t : ℕ) (kept : IsKept true v) (is : IsMutator v.config t) (busy : is_busy (mutator v t) ≡ true) (all : AreDatedSo v) where
  -- the word that is put
  new_dated : (new : ℕ) → epoch_of new ≡ (mutator v t).epoch → (stamp_of new).epoch ≡ (mutator v t).epoch → (stamp_of new).writer ≡ (mutator v t).number → IsDatedSo new
  new_dated new date epoch writer =
      let own = (actor_of v t kept is).own in
      let some : (stamp_of new).writer == 0 ≡ false = ne_eqb (stamp_of new).writer 0 (λ none. omega (arith, none, writer, own.number, is.0)) in
      date ∙ (sym epoch ∙ sym (cond-false ((stamp_of new).writer == 0) 0 (stamp_of new).epoch some))

  step_dated : AreDatedSo (stepped v t)
  step_dated =
      let actor = actor_of v t kept is in
      let whole = whole_made (mutator v t) (found_by v t) (box v t) busy actor.own.between in
      elim (step_logs actor.own.dates actor.own.machine whole.own whole.mailbox) [
        | inl plain ↦ record {
          words = λ place. subst (λ ws. IsDatedSo (slice_index_or ws place 0)) (sym (plain.words (cells_of v) refl)) (all.words place);
          writes = omega (arith, step_sums v t kept is busy misdates, plain.same misdates, all.writes);
        }
        | inr put ↦ (
            let new : IsDatedSo put.new = new_dated put.new put.stamp put.stamped put.writer in
            let found : found_by v t ≡ slice_index_or v.words put.place 0 = ap (cell (cells_of v)) put.operation in
            let old : IsDatedSo (found_by v t) = subst IsDatedSo (sym found) (all.words put.place) in
            record {
              words = λ place. subst (λ (o : Op). IsDatedSo (slice_index_or (with_cell (cells_of v) o (written o (cell (cells_of v) o))).words place 0)) (sym put.operation) (set_dated v.words put.place put.new place all.words new);
              writes = omega (arith, step_sums v t kept is busy misdates, put.more misdates, all.writes, dated_none put.new new, dated_none (found_by v t) old);
            }
            )
      ]

-- what an operation of the collector leaves in fields
op_dated : (v u : Core) (op : Op) (slots fields mutators : ℕ) → u.words ≡ (with_cell (cells_of v) op (written op (cell (cells_of v) op))).words → collectors_step.NamesWord slots fields mutators op
    → ((place : ℕ) → IsDatedSo (slice_index_or v.words place 0)) → (place : ℕ) → IsDatedSo (slice_index_or u.words place 0)
op_dated v u (ops.StoreEpoch e) slots fields mutators is names all place = subst (λ ws. IsDatedSo (slice_index_or ws place 0)) (sym is) (all place)
op_dated v u (ops.LookBox t e) slots fields mutators is names all place = subst (λ ws. IsDatedSo (slice_index_or ws place 0)) (sym is) (all place)
op_dated v u (ops.ReturnBox t e) slots fields mutators is names all place = subst (λ ws. IsDatedSo (slice_index_or ws place 0)) (sym is) (all place)
op_dated v u (ops.LoadChild x) slots fields mutators is names all place = subst (λ ws. IsDatedSo (slice_index_or ws place 0)) (sym (is ∙ set-get_or v.words x 0)) (all place)
op_dated v u (ops.ClearField x) slots fields mutators is names all place = subst (λ ws. IsDatedSo (slice_index_or ws place 0)) (sym is) (set_dated v.words x 0 place all null_dated)
op_dated v u (ops.FreeHeader x) slots fields mutators is names all place = subst (λ ws. IsDatedSo (slice_index_or ws place 0)) (sym is) (all place)
op_dated v u ops.AddFreed slots fields mutators is names all place = subst (λ ws. IsDatedSo (slice_index_or ws place 0)) (sym is) (all place)
op_dated v u _ slots fields mutators is names all place = absurd names

turn_dated : (v : Core) → IsKept true v → AreDatedSo v → AreDatedSo (turned v)
turn_dated v kept all = turn_case v (λ o u. AreDatedSo u) (λ none. all) (λ op named.
    let names : collectors_step.NamesWord (length v.collector.counts.slots) v.collector.fields (length v.collector.newer) op
    = subst (λ (o : Option Op). IfSome o (collectors_step.NamesWord (length v.collector.counts.slots) v.collector.fields (length v.collector.newer))) named (names_word v.collector kept.collector.machine) in
    record {
      words = op_dated v (turned_by v op (cell (cells_of v) op)) op (length v.collector.counts.slots) v.collector.fields (length v.collector.newer) refl names all.words;
      writes = omega (arith, op_less v op kept named misdates, all.writes);
    })

pub move_dated : (v : Core) (m : Move) → IsKept true v → Fits v m → AreDatedSo v → AreDatedSo (after_move v m)
move_dated v (Move.Begins t work from) kept fits all = record { words = all.words; writes = omega (arith, begun_less v t work from kept fits.0 misdates, all.writes) }
move_dated v (Move.Steps t) kept fits all = step_dated v t kept fits.0 fits.1 all
move_dated v Move.Turns kept fits all = turn_dated v kept all
move_dated v Move.Offers kept fits all = record { words = all.words; writes = all.writes }

pub moves_dated : (v : Core) (ms : List Move) → IsKept true v → AllFit v ms → AreDatedSo v → AreDatedSo (after_moves v ms)
moves_dated v [] kept fit all = all
moves_dated v (m ∷ ms) kept fit all = moves_dated (after_move v m) ms (move_kept v m kept fit.0) fit.1 (move_dated v m kept fit.0 all)

-- ---- openings

nulls_dated : (n place : ℕ) → IsDatedSo (slice_index_or (replicate n 0) place 0)
nulls_dated zero place = null_dated
nulls_dated (suc n) zero = null_dated
nulls_dated (suc n) (suc place) = nulls_dated n place

early_dated : (p : ℕ) (x : Option ℕ) → p < 2 ^ 42 → IsTarget x → IsDatedSo (early_word p x)
early_dated p None small is = null_dated
early_dated p (Some slot) small is =
    early_epoch p (Some slot) small is ∙ sym (ap (λ (s : Stamp). if s.writer == 0 then 0 else s.epoch) (stamp_of-packed (Some slot) (early_stamp p) is (early_is p small)))

all_early_dated : (p : ℕ) (xs : List (Option ℕ)) (n place : ℕ) → p + length xs ≤ 2 ^ 42 → All IsTarget xs → IsDatedSo (slice_index_or (early_words p xs ++ replicate n 0) place 0)
all_early_dated p [] n place few all = nulls_dated n place
all_early_dated p (x ∷ xs) n zero few all = early_dated p x (omega arith) (All-head IsTarget x xs all)
all_early_dated p (x ∷ xs) n (suc place) few all = all_early_dated (p + 1) xs n place (omega arith) (All-tail IsTarget x xs all)

pub opened_from_dated : (config : Config) (o : Objects) → IsConfig config → AreObjects config o → HaveLabels o.nodes → AreDatedSo (heap_from_by true config o)
opened_from_dated config o is are labels = record {
  words = λ place. all_early_dated 0 o.fields ((config.slots - length o.nodes) * config.fields) place (few_fields config o is are labels) (all_targets config o is are labels);
  writes = (pending_begins config o is are labels).writes misdates;
}

-- ---- runs

-- the dated start behind a start
start_dated : (start : Core) → IsConfig start.config → IsStart start → (v : Core) × Explains v start × AreDatedSo v
start_dated start is (o, are, labels, opens) =
    (heap_from_by true start.config o, record { bare = heap_from_bare start.config o is are labels ∙ sym opens; kept = opened_from_kept start.config o is are labels }, opened_from_dated start.config o is are labels)

-- and the dated end behind an end
pub end_dated : (w : Core) → IsConfig w.config → EndsRun w → (v : Core) × Explains v w × AreDatedSo v
end_dated w is (start, moves, run) =
    let (v, e, all) = start_dated start (subst IsConfig (ap (λ (u : Core). u.config) (sym run.ends) ∙ config_after start moves) is) run.starts in
    let made = moves_explained v start moves e run.fit in
    (after_moves v moves, subst (Explains (after_moves v moves)) run.ends made.1, moves_dated v moves e.kept made.0 all)

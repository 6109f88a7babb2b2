-- A field of a slot that was given up is emptied: its word came out, and its target is lowered or decremented.
use Rattle.std.proofs.Common.{◌≡◌, ◌⊎◌, inl, inr, ℕ, ◌+◌, ◌-◌, ◌<◌, ◌==◌, Bool, true, Option, None, Some, IfSome, List, length, slice_index_or, refl, sym, ap, subst, ◌∙◌, arith, slice_set}
use Rattle.std.proofs.lemmas.Bool.{false≢true, cases_eq, cases_lt, eq-eqb, cases_Bool}
use Rattle.std.proofs.lemmas.List.{get_or-set_same, get_or-set_other, get_or_past, length-set, get_or-replicate, set-get_or}
use Rattle.rec_core.proofs.Common.{stand_at, place_of, target_of, IsAccounted, HasUncountedReleased, names, Clears, AccountMove, node_of, home, Pending, IsTaken, IsSound, one_if_same, clearing_covered, move_uncounted, move_accounted, write_sound, word_in, get_or-le-sum_at, one_if_self, State, slot_at, times, Slot, taken_off, parts_of, Phase, Core, sight, SetsTest, IsLeft, IsLeftOf, IsKept, code, pending, is_leaf}
use Rattle.rec_model.proofs.CollectorMoves.{free_unnamed}
use Rattle.rec_counts.specs.Rest.{AreZeros}
use Rattle.rec_release.proofs.TakenOff.{KeepsMost, off_most}
use Rattle.rec_release.proofs.Kept.{off_kept}
use Rattle.rec_core.proofs.TurnCases.{word_at, words_without}
use Rattle.rec_core.proofs.Counts.{slot_in, accounts_with, clears, counted_slot}
use Rattle.rec_core.proofs.CyclesLess.{less_taken_off}
use Rattle.rec_core.proofs.CyclesTest.{sets_test_taken}
use Rattle.rec_core.proofs.Landed.{landed_pending, applied_pending, begun_freeing, begun_release}
use Rattle.rec_core.proofs.Landings.{IsUnswept}
use Rattle.rec_core.proofs.Moves.{code_target, home_of}
use Rattle.rec_core.proofs.Places.{place_within}
use Rattle.rec_core.proofs.Turns.{phase_moves, stands_as}
use Rattle.rec_core.proofs.Zeros.{HasCome}

-- the place of a field that the collector empties, the word there, and the words without it
pub record Emptied : Type 0 where
  pub place : ℕ
  pub word : ℕ
  pub words : List ℕ

abbrev pub emptied_at : Core → (slot field : ℕ) → Emptied
emptied_at w slot field = record { place = place_of slot field w.config.fields; word = word_at w slot field; words = words_without w slot field }

-- a field may be emptied: it is one of a slot that was given up, and no sweep runs
pub record MayEmpty (w : Core) (slot field : ℕ) : Type 0 where
  pub kept : IsKept true w
  pub unswept : IsUnswept w.epoch w.collector.phase
  pub below : slot < w.config.slots
  pub within : field < w.config.fields
  pub released : (slot_at w.collector.counts slot).released ≡ true

module _ (w : Core) (slot field : ℕ) (may : MayEmpty w slot field) where
  open w use {collector as c}
  open may use {kept, unswept as phase, below, within, released}
  open (emptied_at w slot field) use {place, word, words}
  open may.kept use {headers, collector.{slots}}

  pub inside : place < length w.words
  inside = place_within w.config.fields (length w.headers) (length w.words) slot field kept.sound.places (omega (arith, below, headers)) within

  at_home : home w.config.fields place ≡ slot + 1
  at_home = home_of slot field w.config.fields within

  home_released : (slot_in c.counts (home w.config.fields place)).released ≡ true
  home_released = ap (λ (n : ℕ). (slot_in c.counts n).released) at_home ∙ ap (λ (v : Slot). v.released) (counted_slot c.counts slot (omega (arith, below, slots))) ∙ released

  -- what the word leads to is counted
  counted_target : (x : ℕ) → target_of word ≡ Some x → 0 < (slot_at c.counts x).count
  counted_target x is =
      let node : node_of word ≡ x + 1 = sym (code_target word) ∙ ap code is in
      let own : one_if_same (x + 1) (node_of word) ≡ 1 = ap (one_if_same (x + 1)) node ∙ one_if_self (x + 1) in
      elim (cases_lt x w.config.slots) [
        | inl there ↦ omega (arith, clearing_covered (pending w) kept.accounted place (x + 1) inside home_released (omega arith), own, ap (λ (v : Slot). v.count) (counted_slot c.counts x (omega (arith, there, slots))))
        | inr past ↦
            let free : (pending w).free (x + 1) ≡ true = ap (λ n. n == 0) (get_or_past w.headers (x + 1 - 1) 0 (omega (arith, headers))) ∙ eq-eqb 0 0 refl in
            absurd (omega (arith, free_unnamed (pending w) (x + 1) kept.accounted (omega arith) free, get_or-le-sum_at (names (x + 1)) w.words place 0 inside, own))
      ]

  pub counted_word : IfSome (target_of word) (λ x. 0 < (slot_at c.counts x).count)
  counted_word = go (target_of word) refl
    where
      go : (o : Option ℕ) → target_of word ≡ o → IfSome o (λ x. 0 < (slot_at c.counts x).count)
      go None target = tt
      go (Some x) target = counted_target x target

  -- a released slot is taken
  taken : IsTaken (sight w) slot
  taken = elim (cases_eq (slice_index_or w.headers slot 0) 0) [
    | inl none ↦
        let one : slot + 1 - 1 ≡ slot = omega arith in
        let free : (pending w).free (slot + 1) ≡ true = ap (λ (n : ℕ). slice_index_or w.headers n 0 == 0) one ∙ eq-eqb (slice_index_or w.headers slot 0) 0 none in
        absurd (false≢true (sym (kept.accounted.apart (slot + 1) (omega arith) free) ∙ ap (λ (n : ℕ). (slot_in c.counts n).released) (sym at_home) ∙ home_released))
    | inr some ↦ omega arith
  ]

  sound : IsSound (sight (record w { words = words }))
  sound = elim (cases_Bool (is_leaf (slice_index_or w.headers slot 0))) [
    | inl leaf ↦ subst (λ ws. IsSound (record (sight w) { words = ws })) (sym (same_words leaf)) kept.sound
    | inr unmarked ↦ write_sound (sight w) slot field 0 within taken unmarked (λ n is. null_leads n is) kept.sound
  ]
    where
      -- a leaf has nothing to lose
      same_words : is_leaf (slice_index_or w.headers slot 0) ≡ true → words ≡ w.words
      same_words leaf =
          let none : slice_index_or w.words place 0 ≡ 0 = sym (word_in (sight w) slot field within) ∙ ap (λ ws. slice_index_or ws field 0) (kept.sound.leaves slot leaf) ∙ get_or-replicate w.config.fields field 0 0 within in
          ap (slice_set w.words place) (sym none) ∙ set-get_or w.words place 0

      null_leads : (n : ℕ) → target_of 0 ≡ Some n → IsTaken (sight w) n
      null_leads n is = let none : target_of 0 ≡ None = refl in let not_so : ◌≡◌ {A = Option ℕ} None (Some n) = sym none ∙ is in absurd (cc)

  -- the field is empty
  pub own_empty : slice_index_or words place 0 ≡ 0
  own_empty = get_or-set_same w.words place 0 0 inside

  -- the word of every other field stays
  pub still_empty : (x f : ℕ) → slice_index_or w.words (place_of x f w.config.fields) 0 ≡ 0 → slice_index_or words (place_of x f w.config.fields) 0 ≡ 0
  still_empty x f none = elim (cases_eq (place_of x f w.config.fields) place) [
    | inl same ↦ ap (λ n. slice_index_or words n 0) same ∙ own_empty
    | inr other ↦ get_or-set_other w.words place (place_of x f w.config.fields) 0 0 other ∙ none
  ]

  same_then : pending w ≡ accounts_with (applied_pending w) w.words c.counts
  same_then = ap (λ (n : ℕ). let q : Pending = record (pending w) { applied = n } in q) phase.applied

  -- the counts then
  abbrev pub off : Bool → State
  off lowers = taken_off lowers c.counts (target_of word)

  pub most : (lowers : Bool) → KeepsMost c.counts (off lowers)
  most lowers = off_most lowers c.counts (target_of word)

  rule : (lowers : Bool) → Clears (accounts_with (applied_pending w) w.words c.counts) (accounts_with (applied_pending w) words (off lowers)) place
  rule lowers = clears lowers (applied_pending w) c.counts place (omega (arith, kept.config.some_epoch, kept.collector.begun, phase.way)) inside home_released counted_target

  accounted : IsAccounted (accounts_with (applied_pending w) w.words c.counts)
  accounted = subst IsAccounted same_then kept.accounted

  -- what is released stays uncounted
  pub off_uncounted : (lowers : Bool) → HasUncountedReleased (pending w) → HasUncountedReleased (landed_pending w words (off lowers))
  off_uncounted lowers before = move_uncounted (AccountMove.clearing (rule lowers)) accounted (subst HasUncountedReleased same_then before)

  pub off_accounted : (lowers : Bool) → IsAccounted (landed_pending w words (off lowers))
  off_accounted lowers = move_accounted (AccountMove.clearing (rule lowers)) accounted

  -- what is still to be emptied, where this was begun
  abbrev IsLeftBy : (lowers : Bool) → Option Phase → Type 0
  IsLeftBy lowers begun =
      (x f : ℕ) → x < w.config.slots → f < w.config.fields → (slot_at (off lowers) x).released ≡ true → IsLeft (begun_release begun) x f ⊎ (IsLeftOf (off lowers).work (begun_freeing begun) x f ⊎ (slice_index_or words (place_of x f w.config.fields) 0 ≡ 0))

  -- where the collection has come to, if this was begun
  pub off_comes : (lowers : Bool) (begun : Option Phase) → (begun_freeing begun ≡ None → HasUncountedReleased (landed_pending w words (off lowers))) → AreZeros c.counts → SetsTest (pending w) c.counts → IsLeftBy lowers begun
      → HasCome w w.crossing words (record { parts = record (parts_of c) { counts = off lowers }; phase = begun })
  off_comes lowers begun uncounted zeros tests left =
      record {
        landed = record {
          stands = stand_at c.left c.phase;
          kept = kept.whole;
          way = phase.way;
          still = phase.still;
          older = phase.older;
          mutators = phase_moves kept.mutators (λ s there. stands_as c.left s (sym (phase.stands s)));
          accounted = off_accounted lowers;
          uncounted = uncounted;
          sound = sound;
          greens = λ x green. kept.greens x (sym ((most lowers).green x) ∙ green);
          many_words = length-set w.words place 0;
          slots = (most lowers).slots ∙ slots;
          fields = kept.collector.fields;
          policy = kept.collector.policy;
          counts = off_kept lowers c.counts (target_of word) counted_word zeros kept.collector.machine.counts;
          listed = λ x there. (most lowers).released x ∙ kept.collector.listed x (subst (λ xs. 0 < times x xs) (most lowers).free there);
          emptied = left;
        };
        tests = sets_test_taken (accounts_with (applied_pending w) w.words c.counts) (landed_pending w words (off lowers)) c.counts (off lowers) place (rule lowers) (less_taken_off lowers c.counts (target_of word)) accounted
            (subst (λ q. SetsTest q c.counts) same_then tests);
      }

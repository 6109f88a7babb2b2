-- What the collector loaded stays a reference, or was replaced.
use Rattle.std.proofs.Common.{◌≡◌, ◌≢◌, inl, inr, ℕ, ◌+◌, ◌<◌, ◌≤◌, eqb, leb, List, [], ◌∷◌, length, sum_by, refl, sym, subst, arith}
use Rattle.std.proofs.lemmas.Bool.Decides.{nat_tests}
use Rattle.std.proofs.lemmas.Bool.{cases_eq}
use Rattle.rec_model.proofs.Common.{only_if, one_if_same, sum_at, HasSameSums, HasSameSumsAt, node_of, epoch_of, home, Pending, word_in, opened_to, closed_in, closed_at, references_at, ReplacesAt, Puts, AccountMove, is_late_word, HasEpochs}
use Rattle.rec_model.specs.Moves.AccountMove.{put, register, birth, crossing, leaving, request, batch, release, clearing, freeing, dropping}
use Rattle.rec_model.specs.Sets.{HasLoaded, with_load, IsAfterLoads, early, replaced_early}
use Rattle.rec_model.proofs.Sums.{get_or-le-sum_at, sum_at_same, sum_by_same}
use Rattle.rec_model.proofs.Weights.{only_if-le, only_if_le, not_lt_from_none, none_if_differs}
use Rattle.rec_model.proofs.Places.{sum_at_only}
use Rattle.rec_model.proofs.Ledgers.{node_of_null, epoch_after}

-- counted at one place, where the word names the node
abbrev pub at_place : (p node place word : ℕ) → ℕ
at_place p node place word = only_if (eqb p place) (one_if_same node (node_of word))

-- the references of an epoch from one place to a node, as sums over all places
abbrev pub place_sum : Pending → (epoch p node : ℕ) → ℕ
place_sum w epoch p node = sum_at (early epoch (at_place p node)) w.words + sum_by (replaced_early epoch (at_place p node)) w.writes

pub closed_sum : (w : Pending) (epoch p node : ℕ) → sum_by (replaced_early epoch (at_place p node)) w.writes ≡ closed_at w epoch p node
closed_sum w epoch p node = sum_by_same (replaced_early epoch (at_place p node)) (closed_in epoch p node) w.writes (λ e. grind (arith, nat_tests))

pub place_sum_is : (w : Pending) (epoch p node : ℕ) → p < length w.words → place_sum w epoch p node ≡ references_at w epoch p node
place_sum_is w epoch p node inside =
    omega (
      arith,
      closed_sum w epoch p node,
      sum_at_only (opened_to epoch node) w.words p 0 inside,
      sum_at_same (λ i word. only_if (eqb p i) (opened_to epoch node i word)) (early epoch (at_place p node)) w.words (λ i word. grind (arith, nat_tests)),
    )

-- what has the same sums, or one element replaced, is as long
sum_at_ones : {X : Type 0} (xs : List X) → sum_at (λ i x. 1) xs ≡ length xs
sum_at_ones [] = refl
sum_at_ones (x ∷ xs) = omega (arith, sum_at_ones xs)

pub same_length : {X : Type 0} (xs ys : List X) → HasSameSumsAt xs ys → length ys ≡ length xs
same_length xs ys same = omega (arith, same (λ i x. 1), sum_at_ones xs, sum_at_ones ys)

pub replaced_length : {X : Type 0} (xs ys : List X) (p : ℕ) (old new : X) → ReplacesAt xs p old new ys → length ys ≡ length xs
replaced_length xs ys p old new replaces = omega (arith, replaces (λ i x. 1), sum_at_ones xs, sum_at_ones ys)

-- where nothing was loaded
pub nothing_loaded : (w : Pending) → HasLoaded w (λ place. 0)
nothing_loaded w p z inside pos = omega (arith, none_if_differs z (node_of 0) (omega (arith, pos, node_of_null)))

-- where no reference of the next batch's epoch goes, what was loaded stays one
loaded_stays : (w v : Pending) (load : ℕ → ℕ) → v.applied ≡ w.applied → length v.words ≡ length w.words → ((p z : ℕ) → 0 < z → place_sum w (w.applied + 1) p z ≤ place_sum v (w.applied + 1) p z) → HasLoaded w load → HasLoaded v load
loaded_stays w v load applied long grows h p z inside pos =
    let there : p < length w.words = omega (arith, inside, long) in
    subst (λ a. one_if_same z (node_of (load p)) ≤ references_at v (a + 1) p z) (sym applied) (omega (arith, h p z there pos, grows p z pos, place_sum_is w (w.applied + 1) p z there, place_sum_is v (w.applied + 1) p z inside))

loaded_alike : (w v : Pending) (load : ℕ → ℕ) → v.applied ≡ w.applied → HasSameSumsAt w.words v.words → HasSameSums w.writes v.writes → HasLoaded w load → HasLoaded v load
loaded_alike w v load applied words writes = loaded_stays w v load applied (same_length w.words v.words words) (λ p z pos. omega (arith, words (early (w.applied + 1) (at_place p z)), writes (replaced_early (w.applied + 1) (at_place p z))))

loaded_put : (w v : Pending) (load : ℕ → ℕ) (epoch place new : ℕ) → Puts w v epoch place new → HasEpochs w → HasLoaded w load → HasLoaded v load
loaded_put w v load epoch place new s ep =
    let a : ℕ = w.applied + 1 in
    let after : w.applied < epoch = epoch_after w epoch (home w.fields place) ep s.source in
    loaded_stays w v load s.epochs.applied (replaced_length w.words v.words place (word_in w place) new s.words) (λ p z pos. omega (
      arith,
      s.words (early a (at_place p z)),
      s.writes (replaced_early a (at_place p z)),
      only_if_le a (epoch_of new) (early a (at_place p z) place (word_in w place)) (omega (arith, s.stamp, after)),
    ))

-- the moves that leave what was loaded a reference
pub move_loaded : {w v : Pending} (load : ℕ → ℕ) → (m : AccountMove w v) → IsAfterLoads m → HasEpochs w → HasLoaded w load → HasLoaded v load
move_loaded {w} {v} load (put {epoch} {place} {new} s) _ ep h = loaded_put w v load epoch place new s ep h
move_loaded {w} {v} load (register s) _ ep h = loaded_alike w v load s.epochs.applied s.words s.logs.writes h
move_loaded {w} {v} load (birth s) _ ep h = loaded_alike w v load s.epochs.applied s.words s.writes h
move_loaded {w} {v} load (crossing s) _ ep h = loaded_alike w v load s.epochs.applied s.words s.writes h
move_loaded {w} {v} load (leaving s) _ ep h = loaded_alike w v load s.epochs.applied s.words s.logs.writes h
move_loaded {w} {v} load (request s) _ ep h = loaded_alike w v load s.applied s.words s.logs.writes h
move_loaded load (batch s) after ep h = absurd after
move_loaded {w} {v} load (release s) _ ep h = loaded_alike w v load s.epochs.applied s.words s.logs.writes h
move_loaded load (clearing s) after ep h = absurd after
move_loaded {w} {v} load (freeing s) _ ep h = loaded_alike w v load s.epochs.applied s.words s.logs.writes h
move_loaded {w} {v} load (dropping s) _ ep h =
    loaded_stays w v load s.epochs.applied (same_length w.words v.words s.words) (λ p z pos. omega (arith, s.words (early (w.applied + 1) (at_place p z)), s.writes.1 (replaced_early (w.applied + 1) (at_place p z)) (λ e l. grind (arith, nat_tests)))) h

-- a word that is loaded is such a reference, once all mutators are past the applied epoch
pub load_loaded : (w : Pending) (load : ℕ → ℕ) (p : ℕ) → HasEpochs w → w.applied + 1 ≡ w.requested → p < length w.words → HasLoaded w load → HasLoaded w (with_load load p (word_in w p))
load_loaded w load p ep done inside h q z there pos =
    elim (cases_eq q p) [
      | inr other ↦ omega (arith, h q z there pos, unchanged other)
      | inl same ↦ subst (λ k. one_if_same z (node_of (with_load load p (word_in w p) k)) ≤ references_at w (w.applied + 1) k z) (sym same) (omega (arith, changed, only_if_le (epoch_of (word_in w p)) (w.applied + 1) (one_if_same z (node_of (word_in w p))) young))
    ]
  where
    young : epoch_of (word_in w p) ≤ w.applied + 1
    young = omega (arith, done, not_lt_from_none w.requested (epoch_of (word_in w p)) (omega (arith, ep.words, get_or-le-sum_at (is_late_word w.requested) w.words p 0 inside)))

    unchanged : q ≢ p → one_if_same z (node_of (with_load load p (word_in w p) q)) ≡ one_if_same z (node_of (load q))
    unchanged other = grind (arith, nat_tests)

    changed : one_if_same z (node_of (with_load load p (word_in w p) p)) ≡ one_if_same z (node_of (word_in w p))
    changed = grind (arith, nat_tests)

-- where a field has another target than the word that was loaded from it, that word was replaced
pub loaded_replaced : (w : Pending) (load : ℕ → ℕ) (p z : ℕ) → p < length w.words → 0 < z → node_of (word_in w p) ≢ z → HasLoaded w load → one_if_same z (node_of (load p)) ≤ closed_at w (w.applied + 1) p z
loaded_replaced w load p z inside pos other h =
    let differs : z ≢ node_of (word_in w p) = λ e. other (sym e) in
    omega (arith, h p z inside pos, none_if_differs z (node_of (word_in w p)) differs, only_if-le (leb (epoch_of (word_in w p)) (w.applied + 1)) (one_if_same z (node_of (word_in w p))))

-- and it stays so
replaced_stays : (w v : Pending) (p z : ℕ) → v.applied ≡ w.applied → closed_at w (w.applied + 1) p z ≤ closed_at v (w.applied + 1) p z → closed_at w (w.applied + 1) p z ≤ closed_at v (v.applied + 1) p z
replaced_stays w v p z applied grows = subst (λ a. closed_at w (w.applied + 1) p z ≤ closed_at v (a + 1) p z) (sym applied) grows

pub move_replaced : {w v : Pending} (p z : ℕ) → (m : AccountMove w v) → IsAfterLoads m → closed_at w (w.applied + 1) p z ≤ closed_at v (v.applied + 1) p z
move_replaced {w} {v} p z (put s) _ = replaced_stays w v p z s.epochs.applied (omega (arith, s.writes (closed_in (w.applied + 1) p z)))
move_replaced {w} {v} p z (register s) _ = replaced_stays w v p z s.epochs.applied (omega (arith, s.logs.writes (closed_in (w.applied + 1) p z)))
move_replaced {w} {v} p z (birth s) _ = replaced_stays w v p z s.epochs.applied (omega (arith, s.writes (closed_in (w.applied + 1) p z)))
move_replaced {w} {v} p z (crossing s) _ = replaced_stays w v p z s.epochs.applied (omega (arith, s.writes (closed_in (w.applied + 1) p z)))
move_replaced {w} {v} p z (leaving s) _ = replaced_stays w v p z s.epochs.applied (omega (arith, s.logs.writes (closed_in (w.applied + 1) p z)))
move_replaced {w} {v} p z (request s) _ = replaced_stays w v p z s.applied (omega (arith, s.logs.writes (closed_in (w.applied + 1) p z)))
move_replaced p z (batch s) after = absurd after
move_replaced {w} {v} p z (release s) _ = replaced_stays w v p z s.epochs.applied (omega (arith, s.logs.writes (closed_in (w.applied + 1) p z)))
move_replaced p z (clearing s) after = absurd after
move_replaced {w} {v} p z (freeing s) _ = replaced_stays w v p z s.epochs.applied (omega (arith, s.logs.writes (closed_in (w.applied + 1) p z)))
move_replaced {w} {v} p z (dropping s) _ = replaced_stays w v p z s.epochs.applied (omega (arith, s.writes.1 (closed_in (w.applied + 1) p z) (λ e l. grind (arith, nat_tests))))

-- What the collector's list makes up is its record.
use Rattle.std.proofs.Common.{◌≡◌, ◌≢◌, ℕ, ◌+◌, false, cond, eqb, eq-eqb, ne_eqb, List, [], ◌∷◌, ◌++◌, Option, Some, None, refl, sym, ap, ◌∙◌, subst, arith}
use mathlib.Core.Logic.{dite}
use native.Mathlib.Decide.{ℕ_discrete}
use Rattle.rec_word.specs.Mailbox.{crossing_word}
use Rattle.rec_word.specs.declared.mailbox.Mailbox.TheVariants.{Retired}
use Rattle.rec_collector.specs.Given as given
use Rattle.rec_collector.specs.Next.{next_of}
use Rattle.rec_collector.specs.Private.{Private, spare}
use Rattle.rec_collector.specs.Step.{IsBetween}
use Rattle.rec_collector.specs.Took.{took_of, step_of, left_of, left_at}
use Rattle.rec_collector.specs.declared.phase.Phase.{Phase}
use Rattle.rec_collector.specs.declared.phase.Phase.TheVariants.{Looking, Swapping}
use Rattle.rec_core.specs.Run.{by_actor}
use Rattle.std.proofs.lemmas.List.Sums.{fold-append}
use Rattle.rec_table.proofs.Common.{Op, Contents, Core, cells_of, box, IsKept, Move, after_move, after_moves, AllFit, Fits, looked_at, left_by, turned_at, other_gives, cell, move_kept, beats_in, beats_of, looked, turn_at, gathered, gathered_all, OffersNone, Offerless, Beat, Saw, Took}
use Rattle.rec_core.proofs.PlainWords.{FindsPlain, finds_plain}
use Rattle.rec_world.proofs.Mailboxes.{collector_stays}
use Rattle.rec_world.proofs.Turnings.{gathers_so}

pub gathered_both : (c : Private) (cs bs : List Beat) → gathered_all c (cs ++ bs) ≡ gathered_all (gathered_all c cs) bs
gathered_both = fold-append gathered

-- a mailbox whose buffer was swapped holds a spare
pub leaves_spare : (c : Private) (b : Contents) (t : ℕ) → c.phase ≡ Swapping t → left_of c b ≡ spare c
unfolding left_of left_at
leaves_spare c b t is = ap (left_at c b) is

-- where whatever lies in the mailbox stays there, no buffer is swapped
not_swapping : (c : Private) (word : ℕ) → IsBetween c.phase → FindsPlain c word → ((b : Contents) → left_by c word b c.phase ≡ b) → given.IsSwapping (took_of c word).phase → ⊥
not_swapping c word between plain stays = by (took_of c word).phase refl
  where
    by : (phase : Phase) → (took_of c word).phase ≡ phase → given.IsSwapping phase → ⊥
    by (Swapping t) is swaps =
        let same : spare (took_of c word) ≡ record (spare (took_of c word)) { capacity = (spare (took_of c word)).capacity + 1 } =
        sym (leaves_spare (took_of c word) (record (spare (took_of c word)) { capacity = (spare (took_of c word)).capacity + 1 }) t is)
        ∙ gathers_so c word (record (spare (took_of c word)) { capacity = (spare (took_of c word)).capacity + 1 }) between plain
        ∙ stays (record (spare (took_of c word)) { capacity = (spare (took_of c word)).capacity + 1 }) in
        let more : (spare (took_of c word)).capacity ≡ (spare (took_of c word)).capacity + 1 = ap (λ (b : Contents). b.capacity) same in
        omega (arith, more)
    by _ is swaps = swaps

learns_alone : (c : Private) (word : ℕ) (b : Contents) → IsBetween c.phase → FindsPlain c word → ((d : Contents) → left_by c word d c.phase ≡ d) → step_of c word b ≡ took_of c word
unfolding step_of
learns_alone c word b between plain stays = sym (collector_stays (took_of c word) b (not_swapping c word between plain stays))

-- what the collector's turn records makes up what it learns
looked_makes : (w : Core) (word : ℕ) (phase : Phase) → IsKept false w → FindsPlain w.collector word → w.collector.phase ≡ phase → step_of w.collector word (box w (looked_at phase)) ≡ gathered w.collector (looked w word phase)
looked_makes w word (Looking t) kept plain is = dite (ℕ_discrete word (crossing_word w.collector.epoch Retired))
    (λ (e : word ≡ crossing_word w.collector.epoch Retired). sym (ap (λ b. gathered w.collector (cond b (Took word (box w t)) (Saw word))) (eq-eqb word (crossing_word w.collector.epoch Retired) e)))
    (λ (ne : word ≢ crossing_word w.collector.epoch Retired).
    let miss : eqb word (crossing_word w.collector.epoch Retired) ≡ false = ne_eqb word (crossing_word w.collector.epoch Retired) ne in
    learns_alone w.collector word (box w t) kept.collector.between plain (λ d. ap (left_by w.collector word d) is ∙ ap (λ b. cond b (spare w.collector) d) miss)
    ∙ sym (ap (λ b. gathered w.collector (cond b (Took word (box w t)) (Saw word))) miss))
looked_makes w word (Swapping t) kept plain is = absurd (subst IsBetween is kept.collector.between)
looked_makes w word _ kept plain is = learns_alone w.collector word (box w 1) kept.collector.between plain (λ d. ap (left_by w.collector word d) is)

turn_makes : (w : Core) (x : Option Op) → IsKept false w → ◌≡◌ {A = Option Op} (next_of w.collector) x → (turned_at w x).collector ≡ gathered_all w.collector (turn_at w x)
turn_makes w None kept named = refl
turn_makes w (Some op) kept named = looked_makes w (cell (cells_of w) op) w.collector.phase kept (finds_plain w op kept named) refl

-- so it is after a move that does not offer the slots
pub collected_in : (w : Core) (m : Move) → IsKept false w → Fits w m → OffersNone m → (after_move w m).collector ≡ gathered_all w.collector (by_actor 0 beats_in w m)
collected_in w (Move.Begins t work from) kept fits none = ap (gathered_all w.collector) (sym (other_gives 0 beats_in w (Move.Begins t work from) (λ e. omega (arith, e, fits.0.0))))
collected_in w (Move.Steps t) kept fits none = ap (gathered_all w.collector) (sym (other_gives 0 beats_in w (Move.Steps t) (λ e. omega (arith, e, fits.0.0))))
collected_in w Move.Turns kept fits none = turn_makes w (next_of w.collector) kept refl
collected_in w Move.Offers kept fits none = absurd none

-- and after a run of such moves
pub collector_after : (w : Core) (ms : List Move) → IsKept false w → AllFit w ms → Offerless ms → (after_moves w ms).collector ≡ gathered_all w.collector (beats_of 0 w ms)
collector_after w [] kept fit none = refl
collector_after w (m ∷ ms) kept fit none =
    collector_after (after_move w m) ms (move_kept w m kept fit.0) fit.1 none.1
    ∙ ap (λ c. gathered_all c (beats_of 0 (after_move w m) ms)) (collected_in w m kept fit.0 none.0)
    ∙ sym (gathered_both w.collector (by_actor 0 beats_in w m) (beats_of 0 (after_move w m) ms))

-- What makes a turn of the collector on the table one.
use Rattle.std.proofs.Common.{◌≡◌, ℕ, Option, None, Some, refl, sym, ap, subst, ◌∙◌}
use Rattle.rec_table.proofs.Common.{Op, cell, Core, cells_of, turned, IsWorld, gathered, CollectorView, collector_now, collecting_more, word_of, Beat}
use Rattle.rec_collector.specs.Causes.{HasCause}
use Rattle.rec_collector.specs.Kept.{IsMachine}
use Rattle.rec_collector.specs.Next.{next_of}
use Rattle.rec_collector.specs.Private.{Private}
use Rattle.rec_collector.specs.Took.{took_of, turn_of}
use Rattle.rec_collector.specs.declared.turn.Turn.{Turn}
use Rattle.rec_collector.specs.declared.turn.Turn.TheVariants as turns
use Rattle.rec_collector.proofs.Steps.{has_cause}
use Rattle.rec_core.specs.Turn.{IsTurn, told_at, turn_told}
use Rattle.rec_core.proofs.Turn.{turn_is_one}
use Rattle.rec_table.specs.Turn.{MakesTurn}

-- a world's turn, with the answer that was told
told : (w : Core) (answer : Turn) → IsWorld w → turn_told w ≡ answer → IsTurn w (turned w) answer
told w answer world is = subst (IsTurn w (turned w)) is (turn_is_one w world.shaped.config world.run)

caused : (p : Private) (answer : Turn) → IsMachine p → (word : ℕ) → answer ≡ turn_of p word → HasCause p word (took_of p word) answer
caused p answer machine word is = subst (HasCause p word (took_of p word)) (sym is) (has_cause p word machine)

-- without an operation
pub makes_none : (g : CollectorView) → IsMachine (collector_now g) → ◌≡◌ {A = Option Op} (next_of (collector_now g)) None → MakesTurn g g turns.EpochsSpent
makes_none g machine none = record {
  spent = λ _. (refl, refl);
  turned = λ op is. let not_so : ◌≡◌ {A = Option Op} None (Some op) = sym none ∙ is in absurd (cc);
  cause = caused (collector_now g) turns.EpochsSpent machine;
  same = refl;
  turn = λ w world same _. told w turns.EpochsSpent world (ap (λ (p : Private). told_at w (next_of p)) same ∙ ap (told_at w) none);
}

-- with one, by what its beat tells
pub makes_one : (g g' : CollectorView) (op : Op) (b : Beat) (answer : Turn) → IsMachine (collector_now g) → ◌≡◌ {A = Option Op} (next_of (collector_now g)) (Some op)
    → g' ≡ record g { collecting = collecting_more g.collecting b } → collector_now g' ≡ gathered (collector_now g) b → answer ≡ turn_of (collector_now g) (word_of b) → MakesTurn g g' answer
makes_one g g' op b answer machine named grows now is = record {
  spent = λ none. let not_so : ◌≡◌ {A = Option Op} None (Some op) = sym none ∙ named in absurd (cc);
  turned = λ _ _. (b, grows, now, is);
  cause = caused (collector_now g) answer machine;
  same = grows ∙ (λ k. record g { collecting = record g.collecting { log = (sym grows k).collecting.log } });
  turn = λ w world same finds.
      let its : ◌≡◌ {A = Option Op} (next_of w.collector) (Some op) = ap next_of same ∙ named in
      let word : word_of b ≡ cell (cells_of w) op = finds op b its (ap (λ (x : CollectorView). x.collecting) grows) in
      told w answer world (ap (told_at w) its ∙ ap (λ (p : Private). turn_of p (cell (cells_of w) op)) same ∙ ap (turn_of (collector_now g)) (sym word) ∙ sym is);
}

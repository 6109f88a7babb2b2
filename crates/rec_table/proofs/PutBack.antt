-- A mailbox that the collector holds is given back by its next turn.
use Rattle.std.proofs.Common.{◌≡◌, ℕ, [], ◌∷◌, length, Option, None, Some, refl, sym, ap, ◌∙◌, subst, arith}
use Rattle.rec_table.proofs.Common.{Op, Contents, with_parts, gathered, CollectorView, PutsBack, collector_now, IsReturnOp, NotLooking, boxes_at, boxes_out, collecting_more, Beat, Begins, Saw, Took}
use Rattle.rec_collector.specs.Followed.{Next}
use Rattle.rec_collector.specs.Next.{next_of}
use Rattle.rec_collector.specs.Present.{next_present}
use Rattle.rec_collector.specs.Private.{Private}
use Rattle.rec_collector.specs.Step.{IsBetween}
use Rattle.rec_collector.specs.Took.{batch_next, behind, ended_if, gathering_on, moved, noted, step_of, swapped_at, swapped_of, took_at, took_of}
use Rattle.rec_collector.specs.declared.phase.Phase.{Phase}
use Rattle.rec_collector.specs.declared.phase.Phase.TheVariants.{Closing, Returning, Swapping}
use Rattle.rec_table.proofs.Collects.{gathered_both}
use Rattle.rec_table.proofs.Gathering.{Kind, kind, lone_boxes, looking_boxes, returns_at}

-- where the next operation is another one, it holds none
pub none_held : (p : Private) (op : Op) → IsBetween p.phase → ◌≡◌ {A = Option Op} (next_of p) (Some op) → (IsReturnOp op → ⊥) → boxes_out p ≡ []
none_held p op between named not = by (kind p op between named)
  where
    by : Kind p op → boxes_out p ≡ []
    by (Kind.at_box t phase o) = looking_boxes p t phase
    by (Kind.gives_box t phase o) = absurd (not (subst IsReturnOp (sym o) tt))
    by (Kind.lone phase o) = lone_boxes p p.phase phase

pub returning_looks_none : (p : Private) (op : Op) → IsBetween p.phase → ◌≡◌ {A = Option Op} (next_of p) (Some op) → IsReturnOp op → NotLooking p.phase
returning_looks_none p op between named is = let (t, phase, o) = returns_at p op between named is in subst NotLooking (sym phase) tt

returning_holds : (p : Private) (op : Op) → IsBetween p.phase → ◌≡◌ {A = Option Op} (next_of p) (Some op) → IsReturnOp op → boxes_out p ≡ [] → ⊥
returning_holds p op between named is none =
    let (t, phase, o) = returns_at p op between named is in
    let bad : 1 ≡ 0 = ap length (sym (ap (boxes_at p) phase) ∙ none) in
    absurd (omega (arith, bad))

-- such a turn requests no epoch, whatever it found
pub ended_epoch : (phase : Phase) (c : Private) → (ended_if phase c).epoch ≡ c.epoch
ended_epoch (Closing swept) c = refl
ended_epoch _ c = refl

pub behind_epoch : (c : Private) (t : ℕ) → (behind c t).epoch ≡ c.epoch
behind_epoch c t = go (next_present c.left t)
  where
    go : (next : Option ℕ) → (gathering_on c next).epoch ≡ c.epoch
    go None = let n : Next = batch_next c in ended_epoch n.phase (moved (with_parts c n.parts) n.phase)
    go (Some next) = refl

took_returning : (c : Private) (t word : ℕ) → c.phase ≡ Returning t → (took_of c word).epoch ≡ c.epoch
unfolding took_of took_at
took_returning c t word is = ap (λ f. (took_at c word f).epoch) is ∙ behind_epoch (noted c t) t

pub swapped_epoch : (c : Private) (buffer : Contents) → (swapped_of c buffer).epoch ≡ c.epoch
unfolding swapped_of swapped_at
swapped_epoch c buffer = go c.phase
  where
    go : (phase : Phase) → (swapped_at c buffer phase).epoch ≡ c.epoch
    go (Swapping t) = refl
    go _ = refl

returning_epoch : (c : Private) (t : ℕ) (b : Beat) → c.phase ≡ Returning t → (gathered c b).epoch ≡ c.epoch
unfolding step_of
returning_epoch c t (Begins start) is = refl
returning_epoch c t (Saw word) is = took_returning c t word is
returning_epoch c t (Took word buffer) is = swapped_epoch (took_of c word) buffer ∙ took_returning c t word is

pub puts_back : (g h : CollectorView) (op : Op) (b : Beat) → IsBetween (collector_now g).phase → ◌≡◌ {A = Option Op} (next_of (collector_now g)) (Some op) → IsReturnOp op → h ≡ record g { collecting = collecting_more g.collecting b } → PutsBack g h
puts_back g h op b between named is grows = record {
  returned = b ∷ [];
  grows = grows;
  once = omega arith;
  home = λ none. absurd (returning_holds (collector_now g) op between named is none);
  requests_none =
      (let (t, phase, o) = returns_at (collector_now g) op between named is in
      ap (λ (x : CollectorView). (collector_now x).epoch) grows ∙ ap (λ (c : Private). c.epoch) (gathered_both g.opened g.collecting.log (b ∷ [])) ∙ returning_epoch (collector_now g) t b phase);
}

-- A mailbox that is home holds a buffer, and where nobody holds it nothing is swapped.
use Rattle.std.proofs.Common.{◌≡◌, ℕ, Option, None, Some, refl, sym, ap, ◌∙◌}
use Rattle.std.specs.Option.{IsSome}
use Rattle.std.proofs.lemmas.Bool.{false≢true}
use Rattle.rec_world.proofs.Common.{Contents, Private, swapped_of, left_of, left_at, IsSwapping, held}
use Rattle.rec_mutator.specs.declared.phase.Phase as phases
use Rattle.rec_mutator.specs.declared.phase.Phase.TheVariants as at
use Rattle.rec_mutator.specs.Took.{swapped_at}
use Rattle.rec_collector.specs.Given as collector_given
use Rattle.rec_collector.specs.Private as collectors
use Rattle.rec_collector.specs.Took as collector_took
use Rattle.rec_collector.specs.declared.phase.Phase.{Phase}
use Rattle.rec_collector.specs.declared.phase.Phase.TheVariants.{Swapping}

-- a mailbox that is home
pub held_some : (x : Option Contents) → IsSome x → x ≡ Some (held x)
held_some (Some b) is = refl
held_some None is = absurd (false≢true is)

-- where the mutator holds its mailbox, its log is left there
pub left_log : (p : Private) (b : Contents) → IsSwapping p.phase → left_of p b ≡ p.log
unfolding left_of left_at
left_log p b is = go p.phase is
  where
    go : (phase : phases.Phase) → IsSwapping phase → left_at p b phase ≡ p.log
    go at.Swapping is = refl
    go at.Retiring is = refl
    go _ is = absurd is

-- where it doesn't, both stay
pub machine_stays : (p : Private) (b : Contents) → (IsSwapping p.phase → ⊥) → p ≡ swapped_of p b
unfolding swapped_of swapped_at
machine_stays p b not = go p.phase not
  where
    go : (phase : phases.Phase) → (IsSwapping phase → ⊥) → p ≡ swapped_at p b phase
    go at.Swapping none = absurd (none tt)
    go at.Retiring none = absurd (none tt)
    go _ none = refl

left_box : (p : Private) (b : Contents) → (IsSwapping p.phase → ⊥) → left_of p b ≡ b
unfolding left_of left_at
left_box p b not = go p.phase not
  where
    go : (phase : phases.Phase) → (IsSwapping phase → ⊥) → left_at p b phase ≡ b
    go at.Swapping none = absurd (none tt)
    go at.Retiring none = absurd (none tt)
    go _ none = refl

pub mailbox_stays : (p : Private) (x : Option Contents) → IsSome x → (IsSwapping p.phase → ⊥) → x ≡ Some (left_of p (held x))
mailbox_stays p x home not = held_some x home ∙ ap (λ b. Some b) (sym (left_box p (held x) not))

-- where the collector holds none, it stays
pub collector_stays : (c : collectors.Private) (b : Contents) → (collector_given.IsSwapping c.phase → ⊥) → c ≡ collector_took.swapped_of c b
unfolding collector_took.swapped_of collector_took.swapped_at
collector_stays c b not = go c.phase not
  where
    go : (phase : Phase) → (collector_given.IsSwapping phase → ⊥) → c ≡ collector_took.swapped_at c b phase
    go (Swapping t) none = absurd (none tt)
    go _ none = refl

-- a spare is left where it holds one, and else what was there
pub collector_leaves : (c : collectors.Private) (b : Contents) → (collector_given.IsSwapping c.phase → ⊥) → collector_took.left_of c b ≡ b
unfolding collector_took.left_of collector_took.left_at
collector_leaves c b not = go c.phase not
  where
    go : (phase : Phase) → (collector_given.IsSwapping phase → ⊥) → collector_took.left_at c b phase ≡ b
    go (Swapping t) none = absurd (none tt)
    go _ none = refl

pub gathered_stays : (c : collectors.Private) (x : Option Contents) → IsSome x → (collector_given.IsSwapping c.phase → ⊥) → x ≡ Some (collector_took.left_of c (held x))
gathered_stays c x home not = held_some x home ∙ ap (λ b. Some b) (sym (collector_leaves c (held x) not))

-- whose mailbox it holds, that one waits to be swapped
pub held_swaps : (phase : Phase) (t : ℕ) → collector_given.swapping_for phase ≡ Some t → collector_given.IsSwapping phase
held_swaps (Swapping t) u is = tt
held_swaps _ u is = let not_so : ◌≡◌ {A = Option ℕ} None (Some u) = is in absurd (cc)

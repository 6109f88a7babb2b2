-- Where nobody parks crossing words have 32 bits: a look takes what was retired or waits, and the collector crosses for nobody.
use Rattle.std.proofs.Common.{◌≡◌, ℕ, ◌^◌, ◌<◌, ◌==◌, Bool, true, false, cond, if◌then◌else◌, refl, ap, subst, sym, ◌∙◌}
use Rattle.rec_word.specs.Looked.{looked}
use Rattle.rec_word.specs.Mailbox.{crossing_word}
use Rattle.rec_word.specs.declared.looked.Looked.{Looked}
use Rattle.rec_word.specs.declared.looked.Looked.TheVariants.{Takes, Waits}
use Rattle.rec_word.specs.declared.mailbox.Mailbox.TheVariants.{Retired, WithCollector}
use Rattle.rec_word.proofs.Looks.{plain_looked}
use Rattle.rec_collector.specs.Given.{IsLookGiven}
use Rattle.rec_collector.specs.Took.{after_look, look_turn}
use Rattle.rec_collector.specs.declared.turn.Turn.TheVariants.{Moved, Waiting}
use Rattle.rec_collector.proofs.Common.{Looking, moved, Private, Swapping, took_at, turn_at}

module _ (p : Private) (word t : ℕ) (small : word < 2 ^ 32) where
  -- what comes of such a look, by whether it finds what was retired
  abbrev plain_look : Bool → Looked
  plain_look there = cond there (Takes (crossing_word p.epoch WithCollector)) Waits

  pub plain_took : took_at p word (Looking t) ≡ (if word == crossing_word p.epoch Retired then moved p (Swapping t) else p)
  unfolding took_at
  plain_took = ap (after_look p t) (plain_looked p.epoch word small) ∙ go (word == crossing_word p.epoch Retired)
    where
      go : (there : Bool) → after_look p t (plain_look there) ≡ cond there (moved p (Swapping t)) p
      go true = refl
      go false = refl

  pub plain_turn : turn_at p word (Looking t) ≡ (if word == crossing_word p.epoch Retired then Moved else Waiting t)
  unfolding turn_at
  plain_turn = ap (look_turn p t) (plain_looked p.epoch word small) ∙ go (word == crossing_word p.epoch Retired)
    where
      go : (there : Bool) → look_turn p t (plain_look there) ≡ cond there Moved (Waiting t)
      go true = refl
      go false = refl

  pub plain_given : IsLookGiven p t (looked p.epoch word)
  plain_given = subst (IsLookGiven p t) (sym (plain_looked p.epoch word small)) (go (word == crossing_word p.epoch Retired))
    where
      go : (there : Bool) → IsLookGiven p t (plain_look there)
      go true = tt
      go false = tt

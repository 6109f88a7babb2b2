-- Every mailbox is home.
use Rattle.std.proofs.Common.{◌≡◌, ◌≢◌, ◌↔◌, ℕ, ◌%◌, ◌<◌, Bool, true, false, List, length, refl, sym, ap, subst, ◌∙◌, rules, tests}
use Rattle.std.specs.Bool.{IsTrue, MatchBool}
use Rattle.std.specs.List.{All, AllWithin, HoldsAt}
use Rattle.std.proofs.lemmas.Bool.{false≢true}
use Rattle.std.proofs.lemmas.Iterator.{YieldsList-from_slice, cases_from_all}
use Rattle.std.proofs.lemmas.Iterator.Search.{true_from_All}
use Rattle.std.proofs.lemmas.List.Elements.{All-from_all_within}
use Rattle.rec_world.proofs.Common.{Core}
use Rattle.rec_world.proofs.world.World.boxes_home.Goals as goal

abbrev IsHome : ℕ → Type 0
IsHome word = word % 2 ≡ 0

abbrev IsAway : ℕ → Type 0
IsAway word = word % 2 ≢ 0

all_home : (told : Bool) (words now : List ℕ) → words ≡ now → MatchBool told (AllWithin IsHome words 0 (length words)) ((k : ℕ) × (k < length words) × HoldsAt IsAway words k) → IsTrue told ↔ All IsHome now
all_home true words now are cases = (λ is. subst (All IsHome) are (All-from_all_within IsHome words cases), λ home. refl)
all_home false words now are cases = (λ is. absurd (false≢true is), λ home. true_from_All IsHome IsAway false words (λ word at away. away at) cases (subst (All IsHome) (sym are) home))

pub returns : goal.returns
returns c =
    all_home c.all.result c.crossing.result.now c.args.self.now.crossing (c.crossing.ensures ∙ ap (λ (w : Core). w.crossing) c.self.view_is)
    (cases_from_all _ _ _ IsHome IsAway c.all.ensures.ran (YieldsList-from_slice c.crossing.result.now c.iter.ensures.rest) (λ word q called. search (rules, tests)) (λ word q called. search (rules, tests)))

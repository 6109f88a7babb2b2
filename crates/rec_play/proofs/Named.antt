-- The naming goes on over a command.
use Rattle.std.proofs.Common.{◌≡◌, ℕ, ◌<◌, Bool, true, false, List, slice_index_or, length, refl, sym, ap, subst, ◌∙◌, arith}
use Rattle.std.proofs.lemmas.List.{get_or-set_same}
use Rattle.rec_model.specs.declared.command.Cmd.{Cmd}
use Rattle.rec_model.specs.declared.told.Told.{Told}
use Rattle.rec_model.specs.LegalOrder.{is_birth}
use Rattle.rec_model.specs.Sight.{Sight, IsTaken}
use Rattle.rec_core.specs.Core.{Core, sight}
use Rattle.rec_core.specs.StepAnswers.{sight_told}
use Rattle.rec_order.specs.Naming.{Naming, NamesGoOn, born_in}
use Rattle.rec_order.proofs.Stands.{birth_headers}
use Rattle.rec_world.specs.World.{IsLowestFree}

-- the slot of a birth is taken then
born_taken : (w : Sight) (slot t : ℕ) (cmd : Cmd) (told : Told) → is_birth (cmd, told) ≡ true → slot < length w.headers → IsTaken (sight_told w slot t cmd told) slot
born_taken w slot t cmd told birth there =
    let (header, some, left) = birth_headers w slot t cmd told birth in
    subst (λ n. 0 < n) (sym (ap (λ (hs : List ℕ). slice_index_or hs slot 0) left ∙ get_or-set_same w.headers slot header 0 there)) some

-- How the naming goes on over a poll and the command behind it.
pub names_go : (before mid after : Core) (slot t : ℕ) (cmd : Cmd) (told : Told) → sight mid ≡ sight before → sight after ≡ sight_told (sight mid) slot t cmd told
    → (is_birth (cmd, told) ≡ true → IsLowestFree (sight mid) slot) → (n : Naming) → (k : Naming) × NamesGoOn before after (cmd, told) n k
names_go before mid after slot t cmd told still seen lowest n = go (is_birth (cmd, told)) refl
  where
    go : (b : Bool) → is_birth (cmd, told) ≡ b → (k : Naming) × NamesGoOn before after (cmd, told) n k
    go true birth = (
      born_in n slot,
      NamesGoOn.born slot birth
          (λ taken. let was : IsTaken (sight mid) slot = subst (λ (x : Sight). IsTaken x slot) (sym still) taken in omega (arith, was, (lowest birth).free))
          (subst (λ (x : Sight). IsTaken x slot) (sym seen) (born_taken (sight mid) slot t cmd told birth (lowest birth).there)),
    )
    go false unborn = (n, NamesGoOn.same unborn)

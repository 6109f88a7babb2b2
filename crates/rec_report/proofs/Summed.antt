-- The lines of a summary.
use Rattle.std.proofs.Common.{◌≡◌, ℕ, ◌<◌, List, [], ◌∷◌, ◌++◌, length, map, refl, sym, ◌∙◌, ap, append_assoc, arith}
use Rattle.std.proofs.lemmas.List.{length-map}
use Rattle.rec_model.specs.Listing.{Row, slot_row, ListsSlots}
use Rattle.rec_model.specs.Sight.{NumbersSlots}
use Rattle.rec_world.specs.Numbering.{Numbered}
use Rattle.rec_world.specs.World.{Core, sight}
use Rattle.rec_report.specs.Summary.{answers_line}

-- the second line is made from eleven numbers
pub answers_line-same : (version : ℕ) (f g : ℕ → ℕ) → ((at : ℕ) → at < 11 → f at ≡ g at) → answers_line version f ≡ answers_line version g
answers_line-same version f g same =
    rw (
      same 0 (omega arith),
      same 1 (omega arith),
      same 2 (omega arith),
      same 3 (omega arith),
      same 4 (omega arith),
      same 5 (omega arith),
      same 6 (omega arith),
      same 7 (omega arith),
      same 8 (omega arith),
      same 9 (omega arith),
      same 10 (omega arith),
    ) refl

-- four lines one after the other, behind what there was
pub four_lines : (old one two three four : List (List ℕ)) (a b c d : List ℕ) → one ≡ old ++ a ∷ [] → two ≡ one ++ b ∷ [] → three ≡ two ++ c ∷ [] → four ≡ three ++ d ∷ [] → four ≡ old ++ a ∷ b ∷ c ∷ d ∷ []
four_lines old one two three four a b c d f g h i = rw (i, h, g, f) (simp append_assoc refl)

-- as many live objects as the listing has rows
pub counted : (w : Core) (n : Numbered) (list : List ℕ) → NumbersSlots (sight w) n.list → list ≡ n.list → (rows : List Row) × ListsSlots (sight w) rows × (length list ≡ length rows)
counted w n list numbers same = (map (slot_row (sight w) n.list) n.list, (n.list, numbers, refl), ap length same ∙ sym (length-map n.list (slot_row (sight w) n.list)))

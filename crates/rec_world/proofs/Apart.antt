-- What a world is taken apart into, and that its parts make it up again.
use Rattle.std.proofs.Common.{◌≡◌, ℕ, ◌*◌, ◌<◌, List, [], ◌∷◌, zero, suc, Option, None, Some, length, map, slice_index_or, refl, sym, ap, ◌∙◌, subst, arith}
use Rattle.std.specs.Option.{IsSome}
use Rattle.rec_world.proofs.Common.{Contents, Cells, Core, cells_of, held, IsWorld}
use Rattle.rec_core.specs.Row.{cells_of_row}
use Rattle.rec_world.proofs.Row.{cells_row}
use Rattle.rec_world.specs.Parts.{AreParts}
use Rattle.rec_world.specs.declared.parts.Parts.{Parts}
use Rattle.rec_world.proofs.Mailboxes.{held_some}

-- mailboxes that are all home, and what they hold
pub all_home : (boxes : List (Option Contents)) → ((j : ℕ) → j < length boxes → IsSome (slice_index_or boxes j None)) → boxes ≡ map (λ (b : Contents). Some b) (map held boxes)
all_home [] home = refl
all_home (x ∷ boxes) home = λ i. held_some x (home 0 (omega arith)) i ∷ all_home boxes (λ j there. home (suc j) (omega (arith, there))) i

home_held : (boxes : List Contents) → map held (map (λ (b : Contents). Some b) boxes) ≡ boxes
home_held [] = refl
home_held (b ∷ boxes) = ap (λ (bs : List Contents). b ∷ bs) (home_held boxes)

home_some : (boxes : List Contents) (j : ℕ) → j < length (map (λ (b : Contents). Some b) boxes) → IsSome (slice_index_or (map (λ (b : Contents). Some b) boxes) j None)
home_some [] j there = absurd (omega (arith, there))
home_some (b ∷ boxes) zero there = refl
home_some (b ∷ boxes) (suc j) there = home_some boxes j (omega (arith, there))

module _ (w : Core) (parts : Parts) (world : IsWorld w) (are : AreParts w parts) where
  -- the row holds the shared words
  words_are : cells_of_row (parts.config.slots * parts.config.fields) parts.config.slots parts.row.items ≡ cells_of w
  words_are =
      let slots : parts.config.slots ≡ length w.headers = ap (λ config. config.slots) are.config ∙ sym world.shaped.headers in
      let places : parts.config.slots * parts.config.fields ≡ length w.words =
      (λ i. slots i * (are.config i).fields) ∙ sym world.shaped.sound.places in
      (λ i. cells_of_row (places i) (slots i) (are.row i)) ∙ cells_row (cells_of w)

  -- and the parts make up the world
  pub made_up : (memory : Cells) → memory ≡ cells_of_row (parts.config.slots * parts.config.fields) parts.config.slots parts.row.items
      → ◌≡◌ {A = Core} (record {
        config = parts.config;
        headers = memory.headers;
        words = memory.words;
        epoch = memory.epoch;
        freed = memory.freed;
        crossing = memory.crossing;
        boxes = map held parts.boxes.items;
        mutators = parts.machines.items;
        collector = parts.collector;
        made = parts.made;
      }) w
  made_up memory is =
      let cells : memory ≡ cells_of w = is ∙ words_are in
      let boxes : map held parts.boxes.items ≡ w.boxes = ap (map held) are.boxes ∙ home_held w.boxes in
      λ i. record {
        config = are.config i;
        headers = (cells i).headers;
        words = (cells i).words;
        epoch = (cells i).epoch;
        freed = (cells i).freed;
        crossing = (cells i).crossing;
        boxes = boxes i;
        mutators = are.machines i;
        collector = are.collector i;
        made = are.made i;
      }

  pub parts_home : (j : ℕ) → j < length parts.boxes.items → IsSome (slice_index_or parts.boxes.items j None)
  parts_home = subst (λ (bs : List (Option Contents)). (j : ℕ) → j < length bs → IsSome (slice_index_or bs j None)) (sym are.boxes) (home_some w.boxes)

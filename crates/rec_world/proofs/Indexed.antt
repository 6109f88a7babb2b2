-- An operation's word is at its number in the row, and what is written there is the operation's.
use Rattle.std.proofs.Common.{◌≡◌, ℕ, ◌+◌, ◌-◌, ◌<◌, ◌≤◌, List, ◌++◌, length, get_or, set, take, replicate, length-set, refl, sym, ap, subst, ◌∙◌, arith}
use Rattle.std.specs.Vec.{with_item}
use Rattle.std.proofs.lemmas.List.{get_or_default, set-get_or, take_all}
use Rattle.rec_world.proofs.Common.{Cells, IsWithin, with_cell}
use Rattle.rec_word.specs.Op.{cell_of, written}
use Rattle.rec_word.specs.declared.cell.Cell.{Cell}
use Rattle.rec_word.specs.declared.cell.Cell.TheVariants.{Field, Header, Epoch, Freed, Crossing}
use Rattle.rec_word.specs.declared.op.Op.{Op}
use Rattle.rec_core.specs.Cells.{with_word}
use Rattle.rec_core.specs.Row.{row, index_of, cells_of_row}
use Rattle.rec_world.proofs.Row.{in_row, left_at, slots_are}
use Rattle.rec_world.specs.Indexed.{cells, Finds, IsLaidOut, IsNoHeader}
use Rattle.rec_world.specs.declared.memory.Memory.TheInside.{Inside}

-- a write of a word that is no header leaves the headers
headers_stay : (c : Cells) (at : Cell) (x : ℕ) → IsNoHeader at → (with_word c at x).headers ≡ c.headers
headers_stay c (Header slot) x none = absurd none
headers_stay c (Field place) x none = refl
headers_stay c Epoch x none = refl
headers_stay c Freed x none = refl
headers_stay c (Crossing t) x none = refl

module _ (m : Inside) (laid : IsLaidOut m) where
  -- the row is long enough, with a header for each slot
  pub long : m.layout.places + m.layout.slots + 2 ≤ length m.row.items
  long = omega (arith, laid.layout, laid.long)

  pub headers_many : length (cells m).headers ≡ m.layout.slots
  headers_many = slots_are m.layout.places m.layout.slots m.row.items long

  module _ (now : Cells) (view : cells m ≡ now) (op : Op) (within : IsWithin now op) (i : ℕ) (at : i ≡ index_of m.layout.places m.layout.slots op) where
    is : IsWithin (cells m) op
    is = subst (λ (c : Cells). IsWithin c op) (sym view) within

    -- what a write of the operation's word leaves
    pub written_is : (x : ℕ) → cells_of_row m.layout.places m.layout.slots (set m.row.items i x) ≡ with_cell (cells m) op x
    written_is x = ap (λ n. cells_of_row m.layout.places m.layout.slots (set m.row.items n x)) at ∙ left_at m.layout.places m.layout.slots m.row.items long op x is

    pub left_is : (x found : ℕ) → x ≡ written op found → cells_of_row m.layout.places m.layout.slots (set m.row.items i x) ≡ with_cell now op (written op found)
    left_is x found leaves = written_is x ∙ (λ j. with_cell (view j) op (leaves j))

    -- a load leaves all as it was
    pub loaded_is : (found : ℕ) → written op found ≡ found → found ≡ get_or m.row.items i found → now ≡ with_cell now op (written op found)
    loaded_is found leaves read =
        let there : i < length m.row.items = subst (λ n. n < length m.row.items) (sym at) (in_row m.layout.places m.layout.slots m.row.items long op is) in
        let same : set m.row.items i found ≡ m.row.items = ap (set m.row.items i) (read ∙ get_or_default m.row.items i found 0 there) ∙ set-get_or m.row.items i 0 in
        sym view ∙ ap (cells_of_row m.layout.places m.layout.slots) (sym same) ∙ left_is found found (sym leaves)

    -- the row is laid out as before where the index goes with the headers
    pub laid_again : (x : ℕ) (free : List ℕ) → Finds (with_cell (cells m) op x).headers free → IsLaidOut (record m { row = with_item m.row i x; free = free })
    laid_again x free finds =
        record {
          layout = laid.layout;
          long = omega (arith, laid.long, length-set m.row.items i x);
          few = laid.few;
          free = subst (λ (c : Cells). Finds c.headers free) (sym (written_is x)) finds;
        }

    -- and where it is no header that is written
    pub laid_apart : (there : Cell) → there ≡ cell_of op → IsNoHeader there → (x : ℕ) → IsLaidOut (record m { row = with_item m.row i x })
    laid_apart there names none x = laid_again x m.free (subst (λ (hs : List ℕ). Finds hs m.free) (sym (ap (λ k. (with_word (cells m) k x).headers) (sym names) ∙ headers_stay (cells m) there x none)) laid.free)

-- a row that is filled up to this length
pub filled_up : (n len x many : ℕ) (old now : List ℕ) → old ≡ now → length now ≤ n → n - len ≡ many → take n old ++ replicate (n - len) x ≡ now ++ replicate many x
filled_up n len x many old now is few rest = (λ i. take n (is i) ++ replicate (rest i) x) ∙ ap (λ l. l ++ replicate many x) (take_all n now few)

-- The words of a heap as one row: an operation's word is at its number, and a write there is the operation's.
use Rattle.std.proofs.Common.{◌≡◌, ℕ, zero, suc, ◌+◌, ◌-◌, ◌<◌, ◌≤◌, List, [], ◌∷◌, ◌++◌, length, get_or, set, take, drop, length-set, refl, sym, ap, ◌∙◌, subst, arith}
use Rattle.std.proofs.Math.Seq.{take-append_seam, drop-append_seam, drop-append-add, drop-nil}
use Rattle.std.proofs.lemmas.List.{get_or_append_left, get_or-append-add, set-append_left, length-take-le, length-drop, take-append-drop}
use Rattle.rec_core.proofs.Common.{Op, Cells, IsThere, IsWithin, cell, with_cell, with_word}
use Rattle.rec_word.specs.Op.{cell_of}
use Rattle.rec_word.specs.declared.cell.Cell.{Cell}
use Rattle.rec_word.specs.declared.cell.Cell.TheVariants.{Field, Header, Epoch, Freed, Crossing}
use Rattle.rec_word.specs.declared.op.Op.TheVariants as ops
use Rattle.rec_core.specs.Cells.{word_at}
use Rattle.rec_core.specs.Row.{row, index_at, index_of, cells_of_row}

-- a number behind the first of two lists, read and written
get_behind : (l m : List ℕ) (i j : ℕ) → j ≡ length l + i → get_or (l ++ m) j 0 ≡ get_or m i 0
get_behind l m i j e = ap (λ k. get_or (l ++ m) k 0) e ∙ get_or-append-add l m i 0

set_behind : (l m : List ℕ) (i j x : ℕ) → j ≡ length l + i → set (l ++ m) j x ≡ l ++ set m i x
set_behind [] m i j x e = let same : j ≡ i = omega (arith, e) in ap (λ k. set m k x) same
set_behind (y ∷ l) m i zero x e = absurd (omega arith)
set_behind (y ∷ l) m i (suc j) x e = ap (λ k. y ∷ k) (set_behind l m i j x (omega arith))

drop_behind : (l m : List ℕ) (i j : ℕ) → j ≡ length l + i → drop j (l ++ m) ≡ drop i m
drop_behind l m i j e = ap (λ k. drop k (l ++ m)) e ∙ drop-append-add l m i

-- and behind two numbers
get_third : (a b : ℕ) (l : List ℕ) (i j : ℕ) → j ≡ i + 2 → get_or (a ∷ b ∷ l) j 0 ≡ get_or l i 0
get_third a b l i zero e = absurd (omega arith)
get_third a b l i (suc zero) e = absurd (omega arith)
get_third a b l i (suc (suc j)) e = let same : j ≡ i = omega (arith, e) in ap (λ k. get_or l k 0) same

set_third : (a b : ℕ) (l : List ℕ) (i j x : ℕ) → j ≡ i + 2 → set (a ∷ b ∷ l) j x ≡ a ∷ b ∷ set l i x
set_third a b l i zero x e = absurd (omega arith)
set_third a b l i (suc zero) x e = absurd (omega arith)
set_third a b l i (suc (suc j)) x e = let same : j ≡ i = omega (arith, e) in ap (λ k. a ∷ b ∷ set l k x) same

module _ (cells : Cells) where
  read_header : (slot : ℕ) → slot < length cells.headers → get_or (row cells) (length cells.words + slot) 0 ≡ get_or cells.headers slot 0
  read_header slot lt = get_or-append-add cells.words (cells.headers ++ (cells.epoch ∷ cells.freed ∷ cells.crossing)) slot 0 ∙ get_or_append_left cells.headers (cells.epoch ∷ cells.freed ∷ cells.crossing) 0 slot lt

  read_tail : (i j : ℕ) → j ≡ length cells.words + length cells.headers + i → get_or (row cells) j 0 ≡ get_or (cells.epoch ∷ cells.freed ∷ cells.crossing) i 0
  read_tail i j e =
      get_behind cells.words (cells.headers ++ (cells.epoch ∷ cells.freed ∷ cells.crossing)) (length cells.headers + i) j (omega (arith, e))
      ∙ get_or-append-add cells.headers (cells.epoch ∷ cells.freed ∷ cells.crossing) i 0

  read_crossing : (t : ℕ) → 1 ≤ t → get_or (row cells) (length cells.words + length cells.headers + 1 + t) 0 ≡ get_or cells.crossing (t - 1) 0
  read_crossing t le =
      read_tail (t + 1) (length cells.words + length cells.headers + 1 + t) (omega arith)
      ∙ get_third cells.epoch cells.freed cells.crossing (t - 1) (t + 1) (omega (arith, le))

  -- a word of the heap
  read_at : (cell : Cell) → IsThere cells cell → get_or (row cells) (index_at (length cells.words) (length cells.headers) cell) 0 ≡ word_at cells cell
  read_at (Field place) is = get_or_append_left cells.words _ 0 place is
  read_at (Header slot) is = read_header slot is
  read_at Epoch is = read_tail 0 (length cells.words + length cells.headers) (omega arith)
  read_at Freed is = read_tail 1 (length cells.words + length cells.headers + 1) refl
  read_at (Crossing t) is = read_crossing t is.0

  write_header : (slot x : ℕ) → slot < length cells.headers → set (row cells) (length cells.words + slot) x ≡ row (record cells { headers = set cells.headers slot x })
  write_header slot x lt =
      set_behind cells.words (cells.headers ++ (cells.epoch ∷ cells.freed ∷ cells.crossing)) slot (length cells.words + slot) x refl
      ∙ ap (λ k. cells.words ++ k) (set-append_left cells.headers (cells.epoch ∷ cells.freed ∷ cells.crossing) slot x lt)

  write_tail : (i j x : ℕ) → j ≡ length cells.words + length cells.headers + i → set (row cells) j x ≡ cells.words ++ (cells.headers ++ set (cells.epoch ∷ cells.freed ∷ cells.crossing) i x)
  write_tail i j x e =
      set_behind cells.words (cells.headers ++ (cells.epoch ∷ cells.freed ∷ cells.crossing)) (length cells.headers + i) j x (omega (arith, e))
      ∙ ap (λ k. cells.words ++ k) (set_behind cells.headers (cells.epoch ∷ cells.freed ∷ cells.crossing) i (length cells.headers + i) x refl)

  write_crossing : (t x : ℕ) → 1 ≤ t → set (row cells) (length cells.words + length cells.headers + 1 + t) x ≡ row (record cells { crossing = set cells.crossing (t - 1) x })
  write_crossing t x le =
      write_tail (t + 1) (length cells.words + length cells.headers + 1 + t) x (omega arith)
      ∙ ap (λ k. cells.words ++ (cells.headers ++ k)) (set_third cells.epoch cells.freed cells.crossing (t - 1) (t + 1) x (omega (arith, le)))

  -- and the row with it replaced
  write_at : (cell : Cell) (x : ℕ) → IsThere cells cell → set (row cells) (index_at (length cells.words) (length cells.headers) cell) x ≡ row (with_word cells cell x)
  write_at (Field place) x is = set-append_left cells.words _ place x is
  write_at (Header slot) x is = write_header slot x is
  write_at Epoch x is = write_tail 0 (length cells.words + length cells.headers) x (omega arith)
  write_at Freed x is = write_tail 1 (length cells.words + length cells.headers + 1) x refl
  write_at (Crossing t) x is = write_crossing t x is.0

  -- and it is there
  within_at : (cell : Cell) → IsThere cells cell → index_at (length cells.words) (length cells.headers) cell < length cells.words + length cells.headers + 2 + length cells.crossing
  within_at (Field place) is = omega (arith, is)
  within_at (Header slot) is = omega (arith, is)
  within_at (Crossing t) is = omega (arith, is.0, is.1)
  within_at _ is = omega arith

  -- so it is of the word that an operation names
  there : (op : Op) → IsWithin cells op → IsThere cells (cell_of op)
  there (ops.ClaimHeader slot header) is = is.0
  there _ is = is

  pub row_read : (op : Op) → IsWithin cells op → get_or (row cells) (index_of (length cells.words) (length cells.headers) op) 0 ≡ cell cells op
  row_read op is = read_at (cell_of op) (there op is)

  pub row_write : (op : Op) (x : ℕ) → IsWithin cells op → set (row cells) (index_of (length cells.words) (length cells.headers) op) x ≡ row (with_cell cells op x)
  row_write op x is = write_at (cell_of op) x (there op is)

  pub row_within : (op : Op) → IsWithin cells op → index_of (length cells.words) (length cells.headers) op < length cells.words + length cells.headers + 2 + length cells.crossing
  row_within op is = within_at (cell_of op) (there op is)

-- what a row holds that was laid out
pub cells_row : (c : Cells) → cells_of_row (length c.words) (length c.headers) (row c) ≡ c
cells_row c =
    let tail : List ℕ = c.epoch ∷ c.freed ∷ c.crossing in
    let back : List ℕ = c.headers ++ tail in
    let f : ℕ = length c.words in
    let s : ℕ = length c.headers in
    let words : take f (row c) ≡ c.words = take-append_seam c.words back in
    let headers : take s (drop f (row c)) ≡ c.headers = ap (take s) (drop-append_seam c.words back) ∙ take-append_seam c.headers tail in
    let epoch : get_or (row c) (f + s) 0 ≡ c.epoch = read_tail c 0 (f + s) (omega arith) in
    let freed : get_or (row c) (f + s + 1) 0 ≡ c.freed = read_tail c 1 (f + s + 1) refl in
    let crossing : drop (f + s + 2) (row c) ≡ c.crossing = drop_behind c.words back (s + 2) (f + s + 2) (omega arith) ∙ drop-append-add c.headers tail 2 in
    λ i. record { words = words i; headers = headers i; epoch = epoch i; freed = freed i; crossing = crossing i }

drop_drop : (n m : ℕ) (r : List ℕ) → drop m (drop n r) ≡ drop (n + m) r
drop_drop zero m r = let same : m ≡ 0 + m = omega arith in ap (λ k. drop k r) same
drop_drop (suc n) m [] = drop-nil m ∙ sym (drop-nil (suc n + m))
drop_drop (suc n) m (x ∷ r) = drop_drop n m r ∙ ap (λ k. drop k (x ∷ r)) (let e : suc (n + m) ≡ suc n + m = omega arith in e)

two_first : (n : ℕ) (r : List ℕ) → n + 2 ≤ length r → drop n r ≡ get_or r n 0 ∷ get_or r (n + 1) 0 ∷ drop (n + 2) r
two_first n [] le = absurd (omega arith)
two_first zero (x ∷ []) le = absurd (omega arith)
two_first zero (x ∷ y ∷ r) le = refl
two_first (suc n) (x ∷ r) le =
    two_first n r (omega arith)
    ∙ (λ i. get_or r n 0 ∷ get_or (x ∷ r) ((let e : suc (n + 1) ≡ suc n + 1 = omega arith in e) i) 0 ∷ drop ((let e : suc (n + 2) ≡ suc n + 2 = omega arith in e) i) (x ∷ r))

-- a row is what it holds, laid out
pub row_cells : (f s : ℕ) (r : List ℕ) → f + s + 2 ≤ length r → row (cells_of_row f s r) ≡ r
row_cells f s r le =
    let tail : drop s (drop f r) ≡ get_or r (f + s) 0 ∷ get_or r (f + s + 1) 0 ∷ drop (f + s + 2) r = drop_drop f s r ∙ two_first (f + s) r le in
    ap (λ k. take f r ++ (take s (drop f r) ++ k)) (sym tail) ∙ ap (λ k. take f r ++ k) (take-append-drop s (drop f r)) ∙ take-append-drop f r

words_long : (c : Cells) (cell : Cell) (x : ℕ) → length (with_word c cell x).words ≡ length c.words
words_long c (Field place) x = length-set c.words place x
words_long c _ x = refl

headers_long : (c : Cells) (cell : Cell) (x : ℕ) → length (with_word c cell x).headers ≡ length c.headers
headers_long c (Header slot) x = length-set c.headers slot x
headers_long c _ x = refl

module _ (f s : ℕ) (r : List ℕ) (long : f + s + 2 ≤ length r) where
  places_are : length (cells_of_row f s r).words ≡ f
  places_are = length-take-le f r (omega (arith, long))

  pub slots_are : length (cells_of_row f s r).headers ≡ s
  slots_are = length-take-le s (drop f r) (omega (arith, long, length-drop f r))

  pub in_row : (op : Op) → IsWithin (cells_of_row f s r) op → index_of f s op < length r
  in_row op is =
      let low : index_of f s op < f + s + 2 + length (cells_of_row f s r).crossing = subst (λ (y : ℕ × ℕ). index_of y.0 y.1 op < y.0 + y.1 + 2 + length (cells_of_row f s r).crossing) (λ i. (places_are i, slots_are i)) (row_within (cells_of_row f s r) op is) in
      omega (arith, low, long, length-drop (f + s + 2) r)

  -- and what it leaves there
  pub left_at : (op : Op) (x : ℕ) → IsWithin (cells_of_row f s r) op → cells_of_row f s (set r (index_of f s op) x) ≡ with_cell (cells_of_row f s r) op x
  left_at op x is =
      let c : Cells = cells_of_row f s r in
      let d : Cells = with_cell c op x in
      let laid : set r (index_of f s op) x ≡ row d = (λ i. set (sym (row_cells f s r long) i) (index_of (sym places_are i) (sym slots_are i) op) x) ∙ row_write c op x is in
      ap (cells_of_row f s) laid ∙ (λ i. cells_of_row (sym (words_long c (cell_of op) x ∙ places_are) i) (sym (headers_long c (cell_of op) x ∙ slots_are) i) (row d)) ∙ cells_row d

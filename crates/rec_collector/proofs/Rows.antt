-- Rows of buffers.
use Rattle.std.proofs.Common.{◌≡◌, ℕ, suc, zero, ◌+◌, ◌*◌, ◌<◌, Option, List, [], ◌∷◌, ◌++◌, length, map, take, drop, get_or, set, replicate, refl, arith, sym, ◌∙◌, ap, append_assoc, length-drop}
use Rattle.std.proofs.Math.Nat.{suc-mul}
use Rattle.std.proofs.lemmas.List.{get_or-map, get_or-replicate, length-map, length-replicate, length-take}
use Rattle.rec_collector.proofs.Common.{Contents, IsSized, AreSized, AreSpare, Private, blank, retired, spare, buffer_at, cleared, ended}
use Rattle.rec_collector.specs.Private.{retired_rows}
use Rattle.rec_collector.specs.Rows.{rows_of}

-- the first of these are cleared
abbrev pub cleared_to : List Contents → ℕ → List Contents
cleared_to bs i = map cleared (take i bs) ++ drop i bs

cleared_next : (bs : List Contents) (i : ℕ) (d : Contents) → i < length bs → set (cleared_to bs i) i (cleared (get_or (cleared_to bs i) i d)) ≡ cleared_to bs (suc i)
cleared_next [] i d l = absurd (omega (arith, l))
cleared_next (b ∷ bs) zero d l = refl
cleared_next (b ∷ bs) (suc i) d l = ap (λ xs. cleared b ∷ xs) (cleared_next bs i d (omega (arith, l)))

pub cleared_more : (bs : List Contents) (i : ℕ) (d : Contents) → i < length bs → set (cleared_to bs i) i (cleared (get_or (cleared_to bs i) i d)) ≡ cleared_to bs (i + 1)
cleared_more bs i d l = let e : suc i ≡ i + 1 = omega arith in cleared_next bs i d l ∙ ap (cleared_to bs) e

-- a buffer that is cleared is as large, and is a spare
cleared_spare : (p : Private) (b : Contents) → IsSized p.registers p.capacity b → cleared b ≡ spare p
cleared_spare p b h = rw (h.0, h.1) refl

pub cleared_sized : (p : Private) (bs : List Contents) → AreSized p.registers p.capacity bs → AreSized p.registers p.capacity (map cleared bs)
cleared_sized p bs k = λ i l.
    let m : i < length bs = omega (arith, l, length-map bs cleared) in
    let e : buffer_at (map cleared bs) i ≡ spare p = get_or-map cleared bs i (blank 0 0) (blank 0 0) m ∙ cleared_spare p (buffer_at bs i) (k i m) in
    (ap (λ (b : Contents). length b.snapshot) e ∙ length-replicate p.registers _, ap (λ (b : Contents). b.capacity) e)

pub cleared_spares : (p : Private) (from : ℕ) → AreSized p.registers p.capacity p.older → AreSpare (ended p) from
cleared_spares p from k = λ i f l.
    let m : i < length p.older = omega (arith, l, length-map p.older cleared) in
    get_or-map cleared p.older i (blank 0 0) (blank 0 0) m ∙ cleared_spare p (buffer_at p.older i) (k i m)

-- each of a row that was opened
pub row_sized : (registers capacity n : ℕ) (b : Contents) → IsSized registers capacity b → AreSized registers capacity (replicate n b)
row_sized registers capacity n b k = λ i l.
    let e : buffer_at (replicate n b) i ≡ b = get_or-replicate n i b (blank 0 0) (omega (arith, l, length-replicate n b)) in
    (ap (λ (c : Contents). length c.snapshot) e ∙ k.0, ap (λ (c : Contents). c.capacity) e ∙ k.1)

-- so many rows
pub length-rows : {X : Type 0} (width many : ℕ) (xs : List X) → length (rows_of width many xs) ≡ many
length-rows width zero xs = refl
length-rows width (suc many) xs = ap suc (length-rows width many (drop width xs))

-- as long as the list that is cut is wide enough, each has this width
pub row_width : {X : Type 0} (width many : ℕ) (xs : List X) → length xs ≡ many * width → (i : ℕ) → i < many → length (get_or (rows_of width many xs) i []) ≡ width
row_width width zero xs size i there = absurd (omega arith)
row_width width (suc many) xs size zero there = omega (arith, size, suc-mul many width, length-take width xs)
row_width width (suc many) xs size (suc i) there = row_width width many (drop width xs) (omega (arith, size, suc-mul many width, length-drop width xs)) i (omega arith)

-- buffers with such rows as snapshots are of this size
pub rows_sized : (registers mutators capacity : ℕ) (held : List (Option ℕ)) → length held ≡ mutators * registers → AreSized registers capacity (retired_rows registers mutators capacity held)
rows_sized registers mutators capacity held size = λ i l.
    let there : i < mutators = omega (arith, l, length-map (rows_of registers mutators held) (λ own. retired own capacity), length-rows registers mutators held) in
    let e : buffer_at (retired_rows registers mutators capacity held) i ≡ retired (get_or (rows_of registers mutators held) i []) capacity
    = get_or-map (λ own. retired own capacity) (rows_of registers mutators held) i [] (blank 0 0) (omega (arith, there, length-rows registers mutators held)) in
    (ap (λ (c : Contents). length c.snapshot) e ∙ row_width registers mutators held size i there, ap (λ (c : Contents). c.capacity) e)

-- the next row is filed behind those so far
pub rows_more : (registers capacity more left : ℕ) (rest own others : List (Option ℕ)) (row : List Contents) → more ≡ suc left → own ≡ take registers rest → others ≡ drop registers rest
    → row ++ map (λ own. retired own capacity) (rows_of registers more rest) ≡ (row ++ retired own capacity ∷ []) ++ map (λ own. retired own capacity) (rows_of registers left others)
rows_more registers capacity more left rest own others row is front behind =
    ap (λ n. row ++ map (λ own. retired own capacity) (rows_of registers n rest)) is
    ∙ (λ i. row ++ retired (sym front i) capacity ∷ map (λ own. retired own capacity) (rows_of registers left (sym behind i)))
    ∙ sym (append_assoc row (retired own capacity ∷ []) (map (λ own. retired own capacity) (rows_of registers left others)))

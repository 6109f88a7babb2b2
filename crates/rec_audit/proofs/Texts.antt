-- A text is that of one list of lines.
use Rattle.std.proofs.Common.{◌≡◌, ℕ, ◌<◌, ◌^◌, false, List, [], ◌∷◌, ◌++◌, get_or, drop, refl, sym, ap, ap₂, ◌∙◌, append_assoc}
use Rattle.std.specs.Fmt.{decimal}
use Rattle.std.specs.Char.{is_ascii_digit}
use Rattle.std.specs.Prelude.{◌==◌, if◌then◌else◌}
use Rattle.std.proofs.lemmas.List.{append-nil, append_cancel_left}
use Rattle.std.proofs.lemmas.List.Concat.{flat_map-append}
use Rattle.std.proofs.lemmas.List.Elements.{All-head, All-tail}
use Rattle.rec_audit.specs.declared.kind.Kind.{Kind}
use Rattle.rec_audit.specs.declared.kind.Kind.TheVariants.{Title, Heap, Epoch, Put, Born, Snap, Out, Free, Sweep, End}
use Rattle.rec_audit.specs.Lines.{Line, AreNumbers, name_of, numerals, text_of_line}
use Rattle.rec_io.proofs.Numerals.{same_numeral}

-- the numbers of a line from one of its places on, and its end
abbrev pub ended : List ℕ → List ℕ → List ℕ
ended ns rest = numerals ns ++ 10 ∷ rest

-- no text begins with a space and with an end
space_end : (word rest : List ℕ) → 32 ∷ word ≡ 10 ∷ rest → ⊥
space_end word rest e = let same : 32 ≡ 10 = ap (λ (t : List ℕ). get_or t 0 0) e in cc

-- numerals that this text has with an end behind them are numerals and an end that the other one has
pub record HasEnded (bytes rest : List ℕ) : Type 0 where
  pub numbers : List ℕ
  pub fit : AreNumbers numbers
  pub text : bytes ≡ ended numbers rest

abbrev pub LeavesTexts : List ℕ → List ℕ → Type 0
LeavesTexts bytes left = (ns rest : List ℕ) → AreNumbers ns → bytes ≡ ended ns rest → HasEnded left rest

-- neither a space nor an end is a digit
ended_apart : (ns rest : List ℕ) → is_ascii_digit (get_or (ended ns rest) 0 0) ≡ false
ended_apart [] rest = refl
ended_apart (n ∷ ns) rest = refl

ended-cons : (n : ℕ) (ns rest : List ℕ) → ended (n ∷ ns) rest ≡ 32 ∷ (decimal n ++ ended ns rest)
ended-cons n ns rest = ap (λ (t : List ℕ). 32 ∷ t) (append_assoc (decimal n) (numerals ns) (10 ∷ rest))

-- a space with no numeral behind it
pub no_more : (bytes left word : List ℕ) → LeavesTexts bytes left → left ≡ 32 ∷ word → ((n : ℕ) (rest : List ℕ) → n < 2 ^ 64 → is_ascii_digit (get_or rest 0 0) ≡ false → word ≡ decimal n ++ rest → ⊥)
    → (ns rest : List ℕ) → AreNumbers ns → bytes ≡ ended ns rest → ⊥
no_more bytes left word leaves space none ns rest fit is = at (leaves ns rest fit is).numbers (leaves ns rest fit is).fit (leaves ns rest fit is).text
  where
    at : (ms : List ℕ) → AreNumbers ms → left ≡ ended ms rest → ⊥
    at [] fits text = space_end word rest (sym space ∙ text)
    at (m ∷ ms) fits text =
        let e : 32 ∷ word ≡ 32 ∷ (decimal m ++ ended ms rest) = sym space ∙ text ∙ ended-cons m ms rest in
        none m (ended ms rest) (All-head (λ n. n < 2 ^ 64) m ms fits) (ended_apart ms rest) (ap (drop 1) e)

-- a space and a numeral were read
pub one_read : (bytes left word next : List ℕ) (n : ℕ) → n < 2 ^ 64 → LeavesTexts bytes left → left ≡ 32 ∷ word → word ≡ decimal n ++ next → is_ascii_digit (get_or next 0 0) ≡ false → LeavesTexts bytes next
one_read bytes left word next n below leaves space numeral apart ns rest fit is = at (leaves ns rest fit is).numbers (leaves ns rest fit is).fit (leaves ns rest fit is).text
  where
    at : (ms : List ℕ) → AreNumbers ms → left ≡ ended ms rest → HasEnded next rest
    at [] fits text = absurd (space_end word rest (sym space ∙ text))
    at (m ∷ ms) fits text =
        let e : 32 ∷ word ≡ 32 ∷ (decimal m ++ ended ms rest) = sym space ∙ text ∙ ended-cons m ms rest in
        record {
          numbers = ms;
          fit = All-tail (λ n. n < 2 ^ 64) m ms fits;
          text = (same_numeral n m next (ended ms rest) below (All-head (λ n. n < 2 ^ 64) m ms fits) apart (ended_apart ms rest) (sym numeral ∙ ap (drop 1) e)).1;
        }

-- neither a space nor an end
pub no_end : (bytes left : List ℕ) → LeavesTexts bytes left → ((word : List ℕ) → left ≡ 32 ∷ word → ⊥) → ((rest : List ℕ) → left ≡ 10 ∷ rest → ⊥) → (ns rest : List ℕ) → AreNumbers ns → bytes ≡ ended ns rest → ⊥
no_end bytes left leaves no-space no-lf ns rest fit is = at (leaves ns rest fit is).numbers (leaves ns rest fit is).text
  where
    at : (ms : List ℕ) → left ≡ ended ms rest → ⊥
    at [] text = no-lf rest text
    at (m ∷ ms) text = no-space (decimal m ++ ended ms rest) (text ∙ ended-cons m ms rest)

-- the numerals with one more
pub numerals_push : (bytes left word next ns : List ℕ) (n : ℕ) → bytes ≡ numerals ns ++ left → left ≡ 32 ∷ word → word ≡ decimal n ++ next → bytes ≡ numerals (ns ++ n ∷ []) ++ next
numerals_push bytes left word next ns n read space numeral =
    let all : numerals (ns ++ n ∷ []) ≡ numerals ns ++ ((32 ∷ decimal n) ++ []) = flat_map-append (λ (n : ℕ). 32 ∷ decimal n) ns (n ∷ []) in
    read
    ∙ ap (λ (t : List ℕ). numerals ns ++ t) (space ∙ ap (λ (t : List ℕ). 32 ∷ t) numeral)
    ∙ sym (append_assoc (numerals ns) (32 ∷ decimal n) next)
    ∙ ap (λ (t : List ℕ). (numerals ns ++ t) ++ next) (sym (append-nil (32 ∷ decimal n)))
    ∙ ap (λ (t : List ℕ). t ++ next) (sym all)

-- ---- lines

-- two letters tell a kind
abbrev kind_by : ℕ → ℕ → Kind
kind_by c d =
    if c == 114 then Title else
    if c == 104 then Heap else
    if c == 112 then Put else
    if c == 98 then Born else
    if c == 111 then Out else
    if c == 102 then Free else
    if d == 112 then Epoch else
    if c == 101 then End else
    if d == 110 then Snap else
    Sweep

told : (kind : Kind) (rest : List ℕ) → kind_by (get_or (name_of kind ++ rest) 0 0) (get_or (name_of kind ++ rest) 1 0) ≡ kind
told Title rest = refl
told _ rest = refl

-- no name begins with another one
same_kind : (k l : Kind) (r s : List ℕ) → name_of k ++ r ≡ name_of l ++ s → k ≡ l
same_kind k l r s e = sym (told k r) ∙ ap (λ (t : List ℕ). kind_by (get_or t 0 0) (get_or t 1 0)) e ∙ told l s

-- one text has one line's numbers at its front
same_numbers : (ms ns r s : List ℕ) → AreNumbers ms → AreNumbers ns → ended ms r ≡ ended ns s → (ms ≡ ns) × (r ≡ s)
same_numbers [] [] r s left right e = (refl, ap (drop 1) e)
same_numbers [] (n ∷ ns) r s left right e = absurd (space_end (decimal n ++ ended ns s) r (sym (e ∙ ended-cons n ns s)))
same_numbers (m ∷ ms) [] r s left right e = absurd (space_end (decimal m ++ ended ms r) s (sym (ended-cons m ms r) ∙ e))
same_numbers (m ∷ ms) (n ∷ ns) r s left right e =
    let here = same_numeral m n (ended ms r) (ended ns s) (All-head (λ n. n < 2 ^ 64) m ms left) (All-head (λ n. n < 2 ^ 64) n ns right) (ended_apart ms r) (ended_apart ns s) (ap (drop 1) (sym (ended-cons m ms r) ∙ e ∙ ended-cons n ns s)) in
    let more = same_numbers ms ns r s (All-tail (λ n. n < 2 ^ 64) m ms left) (All-tail (λ n. n < 2 ^ 64) n ns right) here.1 in
    (ap₂ (λ x xs. x ∷ xs) here.0 more.0, more.1)

-- the text of a line, and what is behind it
pub line_text : (line : Line) (rest : List ℕ) → text_of_line line ++ rest ≡ name_of line.kind ++ ended line.numbers rest
line_text line rest = append_assoc (name_of line.kind) (numerals line.numbers ++ 10 ∷ []) rest ∙ ap (λ (t : List ℕ). name_of line.kind ++ t) (append_assoc (numerals line.numbers) (10 ∷ []) rest)

-- one text has one line at its front
pub same_line : (l m : Line) (r s : List ℕ) → AreNumbers l.numbers → AreNumbers m.numbers → text_of_line l ++ r ≡ text_of_line m ++ s → (l ≡ m) × (r ≡ s)
same_line l m r s left right e =
    let text : name_of l.kind ++ ended l.numbers r ≡ name_of m.kind ++ ended m.numbers s = sym (line_text l r) ∙ e ∙ line_text m s in
    let kind : l.kind ≡ m.kind = same_kind l.kind m.kind (ended l.numbers r) (ended m.numbers s) text in
    let behind : ended l.numbers r ≡ ended m.numbers s = append_cancel_left (name_of m.kind) (ended l.numbers r) (ended m.numbers s) (ap (λ (k : Kind). name_of k ++ ended l.numbers r) (sym kind) ∙ text) in
    let numbers = same_numbers l.numbers m.numbers r s left right behind in
    (both l.kind m.kind l.numbers m.numbers kind numbers.0, numbers.1)
  where
    both : (k j : Kind) (ms ns : List ℕ) → k ≡ j → ms ≡ ns → let l : Line = record { kind = k; numbers = ms } in l ≡ record { kind = j; numbers = ns }
    both k j ms ns e f = ap (λ (x : Kind). let l : Line = record { kind = x; numbers = ms } in l) e ∙ ap (λ (xs : List ℕ). let l : Line = record { kind = j; numbers = xs } in l) f

-- no name stands there
pub no_kind : (bytes : List ℕ) → ((kind : Kind) (rest : List ℕ) → bytes ≡ name_of kind ++ rest → ⊥) → (line : Line) (rest : List ℕ) → AreNumbers line.numbers → bytes ≡ text_of_line line ++ rest → ⊥
no_kind bytes none line rest fit is = none line.kind (ended line.numbers rest) (is ∙ line_text line rest)

-- nor numbers behind the name
pub no_numbers : (bytes left : List ℕ) (kind : Kind) → bytes ≡ name_of kind ++ left → ((ns rest : List ℕ) → AreNumbers ns → left ≡ ended ns rest → ⊥) → (line : Line) (rest : List ℕ) → AreNumbers line.numbers → bytes ≡ text_of_line line ++ rest → ⊥
no_numbers bytes left kind name none line rest fit is =
    let text : name_of kind ++ left ≡ name_of line.kind ++ ended line.numbers rest = sym name ∙ is ∙ line_text line rest in
    let same : kind ≡ line.kind = same_kind kind line.kind left (ended line.numbers rest) text in
    none line.numbers rest fit (append_cancel_left (name_of kind) left (ended line.numbers rest) (text ∙ ap (λ (k : Kind). name_of k ++ ended line.numbers rest) (sym same)))

-- Text that is written piece by piece.
use Rattle.std.proofs.Common.{◌≡◌, ◌∙◌, ℕ, ◌+◌, ◌<◌, ◌≤◌, ◌^◌, List, [], ◌∷◌, ◌++◌, length, map, take, get_or, decimal, Option, arith, sym, ap, append_assoc, append-nil}
use Rattle.std.specs.List.{flat_map, enumerate_from}
use Rattle.std.proofs.lemmas.Fmt.{length-decimal-le}
use Rattle.std.proofs.lemmas.List.{map-append, take_more, length-take-le}
use Rattle.std.proofs.lemmas.Grind.{flat_map-append}
use Rattle.rec_log.specs.declared.contents.Contents.{Contents}
use Rattle.rec_log.specs.declared.entry.Entry.{Entry}
use Rattle.rec_audit.specs.declared.form.Heap.{Heap}
use Rattle.rec_audit.specs.declared.kind.Kind.TheVariants.{Title, Heap as HeapLine}
use Rattle.rec_audit.specs.Lines.{Line, numerals, text_of, text_of_line}
use Rattle.rec_audit.specs.Journal.{HasNoted, entry_line, heap_numbers, line_of, part_lines, parts_lines, register_number}
use Rattle.rec_model.proofs.Counted.{enumerate_from-push}

-- a number of 64 bits has at most 20 digits
pub twenty_digits : (n : ℕ) → n < 2 ^ 64 → length (decimal n) ≤ 20
twenty_digits n small = length-decimal-le 20 n (omega arith) (omega arith) small

-- the text of lines, and of more behind them
text_more : (lines more : List Line) → text_of (lines ++ more) ≡ text_of lines ++ text_of more
text_more lines more = flat_map-append text_of_line lines more

-- the part of one mutator more
part_more : (buffers : List Contents) (i : ℕ) (d : Contents) → i < length buffers → parts_lines (take (i + 1) buffers) ≡ parts_lines (take i buffers) ++ part_lines (i + 1) (get_or buffers i d)
part_more buffers i d lt =
    let f : ℕ × Contents → List Line = λ p. part_lines p.0 p.1 in
    let size : length (take i buffers) ≡ i = length-take-le i buffers (omega arith) in
    let next : 1 + length (take i buffers) ≡ i + 1 = omega arith in
    ap parts_lines (take_more buffers i d lt)
    ∙ ap (flat_map f) (enumerate_from-push 1 (take i buffers) (get_or buffers i d))
    ∙ flat_map-append f (enumerate_from 1 (take i buffers)) ((1 + length (take i buffers), get_or buffers i d) ∷ [])
    ∙ ap (λ ls. parts_lines (take i buffers) ++ ls) (append-nil (part_lines (1 + length (take i buffers)) (get_or buffers i d)))
    ∙ ap (λ k. parts_lines (take i buffers) ++ part_lines k (get_or buffers i d)) next

pub parts_more : (before text more : List ℕ) (buffers : List Contents) (i : ℕ) (d : Contents) → i < length buffers → text ≡ before ++ text_of (parts_lines (take i buffers)) → more ≡ text ++ text_of (part_lines (i + 1) (get_or buffers i d)) → more ≡ before ++ text_of (parts_lines (take (i + 1) buffers))
parts_more before text more buffers i d lt is e =
    let part : List Line = part_lines (i + 1) (get_or buffers i d) in
    e
    ∙ ap (λ t. t ++ text_of part) is
    ∙ append_assoc before (text_of (parts_lines (take i buffers))) (text_of part)
    ∙ ap (λ t. before ++ t) (sym (text_more (parts_lines (take i buffers)) part) ∙ ap text_of (sym (part_more buffers i d lt)))

-- lines behind lines
pub behind_lines : (before text more : List ℕ) (lines others : List Line) → text ≡ before ++ text_of lines → more ≡ text ++ text_of others → more ≡ before ++ text_of (lines ++ others)
behind_lines before text more lines others is e =
    e ∙ ap (λ t. t ++ text_of others) is ∙ append_assoc before (text_of lines) (text_of others) ∙ ap (λ t. before ++ t) (sym (text_more lines others))

-- a line is the text of lines that are one
pub one_line : (before more : List ℕ) (line : Line) → more ≡ before ++ text_of_line line → more ≡ before ++ text_of (line ∷ [])
one_line before more line e = e ∙ ap (λ t. before ++ t) (sym (append-nil (text_of_line line)))

-- four parts one after the other
pub four_parts : (before one two three four : List ℕ) (a b c d : List Line) → one ≡ before ++ text_of a → two ≡ one ++ text_of b → three ≡ two ++ text_of c → four ≡ three ++ text_of d → four ≡ before ++ text_of (a ++ (b ++ (c ++ d)))
four_parts before one two three four a b c d e f g h =
    behind_lines before one four a (b ++ (c ++ d)) e (behind_lines one two four b (c ++ d) f (behind_lines two three four c d g h))

-- pieces of text, and the next one behind them
grows : {X : Type 0} (text_so : List X → List ℕ) → ((xs ys : List X) → text_so (xs ++ ys) ≡ text_so xs ++ text_so ys) → (before text more : List ℕ) (xs : List X) (i : ℕ) (d : X) → i < length xs
    → text ≡ before ++ text_so (take i xs) → more ≡ text ++ text_so (get_or xs i d ∷ []) → more ≡ before ++ text_so (take (i + 1) xs)
grows text_so joins before text more xs i d lt is e =
    let next : List ℕ = text_so (get_or xs i d ∷ []) in
    e
    ∙ ap (λ t. t ++ next) is
    ∙ append_assoc before (text_so (take i xs)) next
    ∙ ap (λ t. before ++ t) (sym (joins (take i xs) (get_or xs i d ∷ [])) ∙ ap text_so (sym (take_more xs i d lt)))

pub numerals_more : (before text more ns : List ℕ) (i d : ℕ) → i < length ns → text ≡ before ++ numerals (take i ns) → more ≡ text ++ 32 ∷ decimal (get_or ns i d) → more ≡ before ++ numerals (take (i + 1) ns)
numerals_more before text more ns i d lt is e =
    let joins : (ms rest : List ℕ) → numerals (ms ++ rest) ≡ numerals ms ++ numerals rest = λ ms rest. flat_map-append (λ (n : ℕ). 32 ∷ decimal n) ms rest in
    grows numerals joins before text more ns i d lt is (e ∙ ap (λ t. text ++ t) (sym (append-nil (32 ∷ decimal (get_or ns i d)))))

pub registers_more : (before text more : List ℕ) (rs : List (Option ℕ)) (i : ℕ) (d : Option ℕ) → i < length rs → text ≡ before ++ numerals (map register_number (take i rs)) → more ≡ text ++ 32 ∷ decimal (register_number (get_or rs i d)) → more ≡ before ++ numerals (map register_number (take (i + 1) rs))
registers_more before text more rs i d lt is e =
    let numbers : List (Option ℕ) → List ℕ = λ held. numerals (map register_number held) in
    let joins : (ms rest : List (Option ℕ)) → numbers (ms ++ rest) ≡ numbers ms ++ numbers rest
    = λ ms rest. ap numerals (map-append register_number ms rest) ∙ flat_map-append (λ (n : ℕ). 32 ∷ decimal n) (map register_number ms) (map register_number rest) in
    grows numbers joins before text more rs i d lt is (e ∙ ap (λ t. text ++ t) (sym (append-nil (32 ∷ decimal (register_number (get_or rs i d))))))

pub entries_more : (before text more : List ℕ) (mutator : ℕ) (es : List Entry) (i : ℕ) (d : Entry) → i < length es → text ≡ before ++ text_of (map (entry_line mutator) (take i es)) → more ≡ text ++ text_of_line (entry_line mutator (get_or es i d))
    → more ≡ before ++ text_of (map (entry_line mutator) (take (i + 1) es))
entries_more before text more mutator es i d lt is e =
    let told : List Entry → List ℕ = λ some. text_of (map (entry_line mutator) some) in
    let joins : (some rest : List Entry) → told (some ++ rest) ≡ told some ++ told rest
    = λ some rest. ap text_of (map-append (entry_line mutator) some rest) ∙ text_more (map (entry_line mutator) some) (map (entry_line mutator) rest) in
    grows told joins before text more es i d lt is (e ∙ ap (λ t. text ++ t) (sym (append-nil (text_of_line (entry_line mutator (get_or es i d))))))

-- a journal without steps
pub opened : (heap : Heap) (one two : List ℕ) → one ≡ text_of_line (line_of Title (1 ∷ [])) → two ≡ one ++ text_of_line (line_of HeapLine (heap_numbers heap)) → HasNoted heap [] two
opened heap one two title sizes =
    behind_lines [] one two (line_of Title (1 ∷ []) ∷ []) (line_of HeapLine (heap_numbers heap) ∷ []) (one_line [] one (line_of Title (1 ∷ [])) title) (one_line one two (line_of HeapLine (heap_numbers heap)) sizes)

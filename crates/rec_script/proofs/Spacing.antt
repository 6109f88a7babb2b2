-- Commands that are spelled with one space between each two words.
use Rattle.std.proofs.Common.{◌≡◌, ℕ, zero, suc, ◌+◌, ◌-◌, ◌*◌, ◌^◌, ◌<◌, ◌≤◌, true, false, Bool, cond, List, [], ◌∷◌, ◌++◌, length, get_or, take, drop, map, refl, sym, ap, ◌∙◌, arith, append_assoc, length-append}
use Rattle.std.specs.Prelude.{filter}
use Rattle.std.specs.Fmt.{decimal}
use Rattle.std.specs.Int.{IsInRange}
use Rattle.std.specs.List.{AllByRecursion}
use Rattle.std.specs.Str.Parse.{digits_value}
use Rattle.std.proofs.lemmas.Bool.{ne_eqb}
use Rattle.std.proofs.lemmas.Bool.Decides.{nat_tests}
use Rattle.std.proofs.lemmas.Fmt.{decimal_digit, decimal_nonempty}
use Rattle.std.proofs.lemmas.List.{drop_more}
use Rattle.rec_model.specs.declared.command.Cmd.{Cmd}
use Rattle.rec_model.specs.declared.command.Cmd.TheVariants.{New, Leaf, Null, Copy, Get, Put, Value, Same, Leave, Park, Unpark}
use Rattle.rec_script.specs.Lines.{is_end, is_blank, in_front, cut, without_cr, lines, is_some_word, words, is_counted, spaced}
use Rattle.rec_script.specs.Script.{IsCommand, command_line}
use Rattle.rec_script.specs.Drafts.{IsTaken}
use Rattle.rec_script.proofs.Cuts.{cut_none, no_cr, some_word}
use Rattle.rec_io.proofs.Numerals.{digits_of, found_numeral, one_more, tail}
use Rattle.rec_script.proofs.Plainness.{plain_command, utf8_of_words}
use Rattle.rec_script.proofs.Regrouping.{AreSmall}

-- ---- numerals

-- one digit in front of a byte is the numeral of its number
pub short_front : (bytes : List ℕ) (value end : ℕ) → 2 ≤ length bytes → IsInRange 48 57 (get_or bytes 0 0) → value ≡ get_or bytes 0 0 - 48 → get_or bytes 1 0 ≡ end → bytes ≡ decimal value ++ end ∷ take (length bytes - 2) (drop 2 bytes)
short_front [] value end two digit is at = absurd (omega arith)
short_front (c ∷ []) value end two digit is at = absurd (omega arith)
short_front (c ∷ d ∷ cs) value end two digit is at =
    let same : c ≡ 48 + value = omega (arith, digit.0, is) in
    let one : decimal value ≡ (48 + value) ∷ [] = decimal_digit value (omega (arith, digit.1, is)) in
    ap (λ (b : ℕ). c ∷ b ∷ cs) at
    ∙ ap (λ (b : ℕ). b ∷ end ∷ cs) same
    ∙ ap (λ (t : List ℕ). t ++ end ∷ cs) (sym one)
    ∙ ap (λ (t : List ℕ). decimal value ++ end ∷ t) (sym (tail (c ∷ d ∷ cs) 2))

-- and so are two
pub two_front : (bytes : List ℕ) (value end : ℕ) → 3 ≤ length bytes → IsInRange 48 57 (get_or bytes 0 0) → IsInRange 48 57 (get_or bytes 1 0) → (get_or bytes 0 0 ≡ 48 → ⊥) → value ≡ 10 * (get_or bytes 0 0 - 48) + (get_or bytes 1 0 - 48) → get_or bytes 2 0 ≡ end
    → bytes ≡ decimal value ++ end ∷ take (length bytes - 3) (drop 3 bytes)
two_front bytes value end three tens ones front is at =
    let one : 10 * 0 + (get_or bytes 0 0 - 48) ≡ digits_value 10 (take 1 bytes) = one_more bytes 0 0 (get_or bytes 0 0) (omega arith) refl refl tens in
    let two : 10 * (get_or bytes 0 0 - 48) + (get_or bytes 1 0 - 48) ≡ digits_value 10 (take 2 bytes) = one_more bytes 1 (get_or bytes 0 0 - 48) (get_or bytes 1 0) (omega arith) (omega (arith, one)) refl ones in
    found_numeral bytes 2 value (omega arith) (omega arith) front (both bytes tens ones) (is ∙ two) (omega (arith, is, tens.1, ones.1))
    ∙ ap (λ (t : List ℕ). decimal value ++ t) (tail bytes 2 ∙ drop_more bytes 2 0 (omega arith) ∙ ap (λ (b : ℕ). b ∷ drop 3 bytes) at ∙ ap (λ (t : List ℕ). end ∷ t) (sym (tail bytes 3)))
  where
    both : (bytes : List ℕ) → IsInRange 48 57 (get_or bytes 0 0) → IsInRange 48 57 (get_or bytes 1 0) → (k : ℕ) → k < 2 → IsInRange 48 57 (get_or bytes k 0)
    both bytes tens ones zero lt = tens
    both bytes tens ones (suc zero) lt = ones
    both bytes tens ones (suc (suc k)) lt = absurd (omega arith)

-- ---- words

-- each byte is past this one
abbrev ArePast : ℕ → List ℕ → Type 0
ArePast b bs = AllByRecursion (λ c. b < c) bs

abbrev IsWord : List ℕ → Type 0
IsWord word = (0 < length word) × ArePast 32 word

abbrev pub AreWords : List (List ℕ) → Type 0
AreWords ws = AllByRecursion IsWord ws

past_append : (b : ℕ) (xs ys : List ℕ) → ArePast b xs → ArePast b ys → ArePast b (xs ++ ys)
past_append b [] ys left right = right
past_append b (x ∷ xs) ys left right = (left.0, past_append b xs ys left.1 right)

past_at : (b : ℕ) (xs : List ℕ) (k : ℕ) → ArePast b xs → k < length xs → b < get_or xs k 0
past_at b [] k past lt = absurd (omega arith)
past_at b (x ∷ xs) zero past lt = past.0
past_at b (x ∷ xs) (suc k) past lt = past_at b xs k past.1 (omega arith)

past_less : (xs : List ℕ) → ArePast 32 xs → ArePast 31 xs
past_less [] past = tt
past_less (x ∷ xs) past = (omega (arith, past.0), past_less xs past.1)

-- the line of the words, without its LF
abbrev pub joined : List (List ℕ) → List ℕ
joined [] = []
joined (word ∷ []) = word
joined (word ∷ next ∷ more) = word ++ 32 ∷ joined (next ∷ more)

pub as_joined : (ws : List (List ℕ)) (rest : List ℕ) → spaced ws rest ≡ joined ws ++ 10 ∷ rest
as_joined [] rest = refl
as_joined (word ∷ []) rest = refl
as_joined (word ∷ next ∷ more) rest =
    ap (λ (t : List ℕ). word ++ 32 ∷ t) (as_joined (next ∷ more) rest)
    ∙ sym (append_assoc word (32 ∷ joined (next ∷ more)) (10 ∷ rest))

past_joined : (ws : List (List ℕ)) → AreWords ws → ArePast 31 (joined ws)
past_joined [] are = tt
past_joined (word ∷ []) are = past_less word are.0.1
past_joined (word ∷ next ∷ more) are = past_append 31 word (32 ∷ joined (next ∷ more)) (past_less word are.0.1) (omega arith, past_joined (next ∷ more) are.1)

no_end : (c : ℕ) → 31 < c → is_end c ≡ false
no_end c past = ne_eqb c 10 (λ e. omega arith)

no_blank : (c : ℕ) → 32 < c → is_blank c ≡ false
no_blank c past = grind (arith, nat_tests)

-- bytes past one that is cut at are the first piece
cut_behind : (cuts : ℕ → Bool) (b : ℕ) → ((c : ℕ) → b < c → cuts c ≡ false) → (cs : List ℕ) (end : ℕ) (more : List ℕ) → ArePast b cs → cuts end ≡ true → cut cuts (cs ++ end ∷ more) ≡ cs ∷ cut cuts more
cut_behind cuts b none [] end more past at = ap (λ (t : Bool). cond t ([] ∷ cut cuts more) (in_front end (cut cuts more))) at
cut_behind cuts b none (c ∷ cs) end more past at =
    ap (λ (t : Bool). cond t ([] ∷ cut cuts (cs ++ end ∷ more)) (in_front c (cut cuts (cs ++ end ∷ more)))) (none c past.0)
    ∙ ap (in_front c) (cut_behind cuts b none cs end more past.1 at)

-- the words are on the first line
pub first_line : (ws : List (List ℕ)) (rest : List ℕ) → AreWords ws → lines (spaced ws rest) ≡ joined ws ∷ lines rest
first_line ws rest are =
    let past : ArePast 31 (joined ws) = past_joined ws are in
    ap lines (as_joined ws rest)
    ∙ ap (map without_cr) (cut_behind is_end 31 no_end (joined ws) 10 rest past refl)
    ∙ ap (λ (t : List ℕ). t ∷ lines rest) (no_cr (joined ws) (λ some e. omega (arith, past_at 31 (joined ws) (length (joined ws) - 1) past (omega arith))))

-- and they are its words
pub words_joined : (ws : List (List ℕ)) → AreWords ws → words (joined ws) ≡ ws
words_joined [] are = refl
words_joined (word ∷ []) are =
    ap (filter is_some_word) (cut_none is_blank word are.0.0 (λ k lt. no_blank (get_or word k 0) (past_at 32 word k are.0.1 lt)))
    ∙ ap (λ (t : Bool). cond t (word ∷ []) []) (some_word word are.0.0)
words_joined (word ∷ next ∷ more) are =
    ap (filter is_some_word) (cut_behind is_blank 32 no_blank word 32 (joined (next ∷ more)) are.0.1 refl)
    ∙ ap (λ (t : Bool). cond t (word ∷ words (joined (next ∷ more))) (words (joined (next ∷ more)))) (some_word word are.0.0)
    ∙ ap (λ (t : List (List ℕ)). word ∷ t) (words_joined (next ∷ more) are.1)

-- ---- commands

pub numeral_word : (n : ℕ) → n < 2 ^ 64 → IsWord (decimal n)
numeral_word n fits = (decimal_nonempty n fits, from (decimal n) (digits_of n fits))
  where
    from : (ds : List ℕ) → ((i : ℕ) → i < length ds → IsInRange 48 57 (get_or ds i 0)) → ArePast 32 ds
    from [] digits = tt
    from (d ∷ ds) digits = (omega (arith, (digits 0 (omega arith)).0), from ds (λ i lt. digits (suc i) (omega arith)))

pub command_words : (registers fields : ℕ) (cmd : Cmd) → AreSmall registers fields → IsCommand registers fields cmd → AreWords (command_line cmd)
command_words registers fields (New reg label) h is = ((omega arith, (omega arith, (omega arith, (omega arith, tt)))), (numeral_word reg (omega (arith, h.registers_fit, is.0)), (numeral_word label (omega (arith, is.1)), tt)))
command_words registers fields (Leaf reg label) h is = ((omega arith, (omega arith, (omega arith, (omega arith, (omega arith, tt))))), (numeral_word reg (omega (arith, h.registers_fit, is.0)), (numeral_word label (omega (arith, is.1)), tt)))
command_words registers fields (Null reg) h is = ((omega arith, (omega arith, (omega arith, (omega arith, (omega arith, tt))))), (numeral_word reg (omega (arith, h.registers_fit, is.0)), tt))
command_words registers fields (Copy dst src) h is = ((omega arith, (omega arith, (omega arith, (omega arith, (omega arith, tt))))), (numeral_word dst (omega (arith, h.registers_fit, is.0.0)), (numeral_word src (omega (arith, h.registers_fit, is.0.1)), tt)))
command_words registers fields (Get dst src field) h is = ((omega arith, (omega arith, (omega arith, (omega arith, tt)))), (numeral_word dst (omega (arith, h.registers_fit, is.0.0)), (numeral_word src (omega (arith, h.registers_fit, is.0.1)), (numeral_word field (omega (arith, h.fields_fit, is.0.2)), tt))))
command_words registers fields (Put src field val) h is = ((omega arith, (omega arith, (omega arith, (omega arith, tt)))), (numeral_word src (omega (arith, h.registers_fit, is.0.0)), (numeral_word field (omega (arith, h.fields_fit, is.0.1)), (numeral_word val (omega (arith, h.registers_fit, is.0.2)), tt))))
command_words registers fields (Value reg) h is = ((omega arith, (omega arith, (omega arith, (omega arith, (omega arith, (omega arith, tt)))))), (numeral_word reg (omega (arith, h.registers_fit, is.0)), tt))
command_words registers fields (Same a b) h is = ((omega arith, (omega arith, (omega arith, (omega arith, (omega arith, tt))))), (numeral_word a (omega (arith, h.registers_fit, is.0.0)), (numeral_word b (omega (arith, h.registers_fit, is.0.1)), tt)))
command_words registers fields Leave h is = ((omega arith, (omega arith, (omega arith, (omega arith, (omega arith, (omega arith, tt)))))), tt)
command_words registers fields Park h is = absurd is.0
command_words registers fields Unpark h is = absurd is.0

-- the line of a command counts
counts : (cmd : Cmd) → cond (is_counted (command_line cmd)) (command_line cmd ∷ []) [] ≡ command_line cmd ∷ []
counts (New reg label) = refl
counts _ = refl

-- where a spaced command was added, the first line was taken
pub taken : (registers fields : ℕ) (cmd : Cmd) (bytes rest : List ℕ) (before after : List (List (List ℕ))) → AreSmall registers fields → IsCommand registers fields cmd → bytes ≡ spaced (command_line cmd) rest → after ≡ before ++ command_line cmd ∷ [] → IsTaken bytes rest before after
taken registers fields cmd bytes rest before after small is e more =
    let are : AreWords (command_line cmd) = command_words registers fields cmd small is in
    let same : words (joined (command_line cmd)) ≡ command_line cmd = words_joined (command_line cmd) are in
    record {
      line = joined (command_line cmd);
      first = ap lines e ∙ first_line (command_line cmd) rest are;
      utf8 = utf8_of_words (joined (command_line cmd)) (command_line cmd) same (plain_command registers fields cmd small is);
      more = more ∙ ap (λ (t : List (List (List ℕ))). before ++ t) (sym (ap (λ (ws : List (List ℕ)). cond (is_counted ws) (ws ∷ []) []) same ∙ counts cmd));
      less = omega (arith, ap (length {A = ℕ}) (e ∙ as_joined (command_line cmd) rest), length-append (joined (command_line cmd)) (10 ∷ rest));
    }

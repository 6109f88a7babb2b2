-- What is drawn of a made script, how its text grows, and that it is a script's.
use Rattle.std.proofs.Common.{◌≡◌, ℕ, zero, suc, ◌+◌, ◌*◌, ◌%◌, ◌<◌, ◌≤◌, ◌==◌, Bool, true, false, nat_le, List, [], ◌∷◌, ◌++◌, length, get_or, map, refl, sym, ap, subst, ◌∙◌, arith, append_assoc, length-append}
use Rattle.std.specs.Prelude.{All, codes, if◌then◌else◌}
use Rattle.std.specs.Fmt.{decimal, digits}
use Rattle.std.specs.List.{flat_map, range_with_len}
use Rattle.std.proofs.Math.Nat.{suc-mul}
use Rattle.std.proofs.lemmas.Bool.Decides.{nat_tests}
use Rattle.std.proofs.lemmas.Fmt.{length-decimal-le}
use Rattle.std.proofs.lemmas.Grind.{flat_map-append}
use Rattle.std.proofs.lemmas.List.{append-nil, length-map, map-append}
use Rattle.std.proofs.lemmas.List.Concat.{length-flat_map}
use Rattle.std.proofs.lemmas.List.Elements.{All-append, All-cons, All-head, All-map, All-tail}
use Rattle.std.proofs.lemmas.List.FromFn.{length-map-range_with_len, map-range_with_len_more}
use Rattle.std.proofs.lemmas.List.Sums.{sum_by-le}
use Rattle.rand_pcg.specs.Lcg.{Lcg}
use Rattle.rec_model.specs.declared.command.Cmd.{Cmd}
use Rattle.rec_model.specs.declared.command.Cmd.TheVariants.{New, Null, Copy, Get, Put, Value, Same}
use Rattle.rec_script.specs.Lines.{lines, spaced}
use Rattle.rec_script.specs.Made.{generator_of, after_words, word_after, written, read, field, label, command_in, drawn, after_drawn, after_commands, commands_from, made_commands, made_script, text_of, made_text}
use Rattle.rec_script.specs.Script.{Allows, IsCommand, AreCommands, IsScript, Spells, operands_of, header, heap_line, mutator_line, mutator_lines, command_line}
use Rattle.rec_script.proofs.Leaving.{all_stay}
use Rattle.rec_script.proofs.Written.{spells_its_text}

-- ---- one command

-- a word more
word_more : (n : ℕ) (g here next : Lcg) → here ≡ after_words n g → next ≡ after_words 1 here → next ≡ after_words (suc n) g
unfolding after_words
word_more n g here next so e = e ∙ ap (after_words 1) so

-- the word that comes then
word_here : (n : ℕ) (g here : Lcg) → here ≡ after_words n g → word_after 0 here ≡ word_after n g
unfolding after_words word_after
word_here n g here so = ap (word_after 0) so

-- the command is the one that is drawn, and the generator is behind it
abbrev IsDrawn : (g next : Lcg) → Cmd → Type 0
IsDrawn g next cmd = (cmd ≡ drawn g) × (next ≡ after_drawn g)

drawn_in : (g next : Lcg) (row : ℕ) (cmd : Cmd) → row ≡ word_after 0 g % 16 → cmd ≡ command_in row (word_after 1 g) (word_after 2 g) (word_after 3 g) → next ≡ after_words (1 + length (operands_of cmd)) g → IsDrawn g next cmd
unfolding drawn after_drawn
drawn_in g next row cmd row-is cmd-is next-is =
    let value : cmd ≡ drawn g = cmd-is ∙ ap (λ (n : ℕ). command_in n (word_after 1 g) (word_after 2 g) (word_after 3 g)) row-is in
    (value, next-is ∙ ap (λ (c : Cmd). after_words (1 + length (operands_of c)) g) value)

-- rows of one operand, of two and of three, each read off the next word
pub drawn_one : (row : ℕ) (make : ℕ → Cmd) (f : ℕ → ℕ) (g g₁ g₂ : Lcg) (x : ℕ) → ((a b c : ℕ) → command_in row a b c ≡ make (f a)) → length (operands_of (make x)) ≡ 1
    → row ≡ word_after 0 g % 16 → g₁ ≡ after_words 1 g → x ≡ f (word_after 0 g₁) → g₂ ≡ after_words 1 g₁ → IsDrawn g g₂ (make x)
drawn_one row make f g g₁ g₂ x is one row-is at₁ x-is at₂ =
    drawn_in g g₂ row (make x) row-is
    (ap make (x-is ∙ ap f (word_here 1 g g₁ at₁)) ∙ sym (is (word_after 1 g) (word_after 2 g) (word_after 3 g)))
    (word_more 1 g g₁ g₂ at₁ at₂ ∙ ap (λ (n : ℕ). after_words (1 + n) g) (sym one))

pub drawn_two : (row : ℕ) (make : ℕ → ℕ → Cmd) (f h : ℕ → ℕ) (g g₁ g₂ g₃ : Lcg) (x y : ℕ) → ((a b c : ℕ) → command_in row a b c ≡ make (f a) (h b)) → length (operands_of (make x y)) ≡ 2
    → row ≡ word_after 0 g % 16 → g₁ ≡ after_words 1 g → x ≡ f (word_after 0 g₁) → g₂ ≡ after_words 1 g₁ → y ≡ h (word_after 0 g₂) → g₃ ≡ after_words 1 g₂ → IsDrawn g g₃ (make x y)
drawn_two row make f h g g₁ g₂ g₃ x y is two row-is at₁ x-is at₂ y-is at₃ =
    let second : g₂ ≡ after_words 2 g = word_more 1 g g₁ g₂ at₁ at₂ in
    drawn_in g g₃ row (make x y) row-is
    (ap (λ (n : ℕ). make n y) (x-is ∙ ap f (word_here 1 g g₁ at₁))
    ∙ ap (λ (n : ℕ). make (f (word_after 1 g)) n) (y-is ∙ ap h (word_here 2 g g₂ second))
    ∙ sym (is (word_after 1 g) (word_after 2 g) (word_after 3 g)))
    (word_more 2 g g₂ g₃ second at₃ ∙ ap (λ (n : ℕ). after_words (1 + n) g) (sym two))

pub drawn_three : (row : ℕ) (make : ℕ → ℕ → ℕ → Cmd) (f h j : ℕ → ℕ) (g g₁ g₂ g₃ g₄ : Lcg) (x y z : ℕ) → ((a b c : ℕ) → command_in row a b c ≡ make (f a) (h b) (j c)) → length (operands_of (make x y z)) ≡ 3
    → row ≡ word_after 0 g % 16 → g₁ ≡ after_words 1 g → x ≡ f (word_after 0 g₁) → g₂ ≡ after_words 1 g₁ → y ≡ h (word_after 0 g₂) → g₃ ≡ after_words 1 g₂ → z ≡ j (word_after 0 g₃) → g₄ ≡ after_words 1 g₃ → IsDrawn g g₄ (make x y z)
drawn_three row make f h j g g₁ g₂ g₃ g₄ x y z is three row-is at₁ x-is at₂ y-is at₃ z-is at₄ =
    let second : g₂ ≡ after_words 2 g = word_more 1 g g₁ g₂ at₁ at₂ in
    let third : g₃ ≡ after_words 3 g = word_more 2 g g₂ g₃ second at₃ in
    drawn_in g g₄ row (make x y z) row-is
    (ap (λ (n : ℕ). make n y z) (x-is ∙ ap f (word_here 1 g g₁ at₁))
    ∙ ap (λ (n : ℕ). make (f (word_after 1 g)) n z) (y-is ∙ ap h (word_here 2 g g₂ second))
    ∙ ap (λ (n : ℕ). make (f (word_after 1 g)) (h (word_after 2 g)) n) (z-is ∙ ap j (word_here 3 g g₃ third))
    ∙ sym (is (word_after 1 g) (word_after 2 g) (word_after 3 g)))
    (word_more 3 g g₃ g₄ third at₄ ∙ ap (λ (n : ℕ). after_words (1 + n) g) (sym three))

-- ---- the rows

pub row_new : (row a b c : ℕ) → row ≤ 3 → command_in row a b c ≡ New (written a) (label b)
row_new row a b c le = grind (arith, nat_tests)

pub row_null : (row a b c : ℕ) → row ≡ 4 → command_in row a b c ≡ Null (written a)
row_null row a b c e = ap (λ (n : ℕ). command_in n a b c) e

pub row_copy : (row a b c : ℕ) → 5 ≤ row → row ≤ 6 → command_in row a b c ≡ Copy (written a) (read b)
row_copy row a b c ge le = grind (arith, nat_tests)

pub row_get : (row a b c : ℕ) → 7 ≤ row → row ≤ 9 → command_in row a b c ≡ Get (written a) (read b) (field c)
row_get row a b c ge le = grind (arith, nat_tests)

pub row_put : (row a b c : ℕ) → 10 ≤ row → row ≤ 13 → command_in row a b c ≡ Put (read a) (field b) (read c)
row_put row a b c ge le = grind (arith, nat_tests)

pub row_value : (row a b c : ℕ) → row ≡ 14 → command_in row a b c ≡ Value (read a)
row_value row a b c e = ap (λ (n : ℕ). command_in n a b c) e

pub row_same : (row a b c : ℕ) → 15 ≤ row → command_in row a b c ≡ Same (read a) (read b)
row_same row a b c ge = grind (arith, nat_tests)

-- ---- lengths and limits

-- a command within the limits of the heap, with a short line
abbrev IsMade : Cmd → Type 0
IsMade cmd = Allows 1 cmd × IsCommand 8 2 cmd × (length (spaced (command_line cmd) []) ≤ 10)

digit : (n : ℕ) → n < 8 → length (decimal n) ≤ 1
digit n lt = length-decimal-le 1 n (omega arith) (omega arith) (omega arith)

made_new : (reg number : ℕ) → reg < 8 → number < 1000 → IsMade (New reg number)
made_new reg number r l =
    (omega arith, (r, omega arith), omega (arith, digit reg r, length-decimal-le 3 number (omega arith) (omega arith) (omega arith), length-append (decimal reg) (32 ∷ (decimal number ++ 10 ∷ [])), length-append (decimal number) (10 ∷ [])))

made_null : (reg : ℕ) → reg < 8 → IsMade (Null reg)
made_null reg r = (omega arith, (r, tt), omega (arith, digit reg r, length-append (decimal reg) (10 ∷ [])))

made_copy : (dst src : ℕ) → dst < 8 → src < 8 → IsMade (Copy dst src)
made_copy dst src d s = (omega arith, ((d, s), tt), omega (arith, digit dst d, digit src s, length-append (decimal dst) (32 ∷ (decimal src ++ 10 ∷ [])), length-append (decimal src) (10 ∷ [])))

-- three words of one byte behind a word of three
three_short : (x y z : List ℕ) → length x ≤ 1 → length y ≤ 1 → length z ≤ 1 → length (codes "get " ++ (x ++ 32 ∷ (y ++ 32 ∷ (z ++ 10 ∷ [])))) ≤ 10
three_short x y z xs ys zs = omega (arith, xs, ys, zs, length-append x (32 ∷ (y ++ 32 ∷ (z ++ 10 ∷ []))), length-append y (32 ∷ (z ++ 10 ∷ [])), length-append z (10 ∷ []))

made_get : (dst src number : ℕ) → dst < 8 → src < 8 → number < 2 → IsMade (Get dst src number)
made_get dst src number d s f = (omega arith, ((d, s, f), tt), three_short (decimal dst) (decimal src) (decimal number) (digit dst d) (digit src s) (digit number (omega arith)))

made_put : (src number val : ℕ) → src < 8 → number < 2 → val < 8 → IsMade (Put src number val)
made_put src number val s f v = (omega arith, ((s, f, v), tt), three_short (decimal src) (decimal number) (decimal val) (digit src s) (digit number (omega arith)) (digit val v))

made_value : (reg : ℕ) → reg < 8 → IsMade (Value reg)
made_value reg r = (omega arith, (r, tt), omega (arith, digit reg r, length-append (decimal reg) (10 ∷ [])))

made_same : (a b : ℕ) → a < 8 → b < 8 → IsMade (Same a b)
made_same a b l r = (omega arith, ((l, r), tt), omega (arith, digit a l, digit b r, length-append (decimal a) (32 ∷ (decimal b ++ 10 ∷ [])), length-append (decimal b) (10 ∷ [])))

either : (t : Bool) (x y : Cmd) → IsMade x → IsMade y → IsMade (if t then x else y)
either true x y p q = p
either false x y p q = q

writes : (w : ℕ) → written w < 8
writes w = omega arith

reads : (w : ℕ) → read w < 8
reads w = omega arith

names : (w : ℕ) → field w < 2
names w = omega arith

labels : (w : ℕ) → label w < 1000
labels w = omega arith

made_in : (row a b c : ℕ) → IsMade (command_in row a b c)
made_in row a b c =
    either (nat_le row 3) _ _ (made_new (written a) (label b) (writes a) (labels b))
    (either (row == 4) _ _ (made_null (written a) (writes a))
    (either (nat_le row 6) _ _ (made_copy (written a) (read b) (writes a) (reads b))
    (either (nat_le row 9) _ _ (made_get (written a) (read b) (field c) (writes a) (reads b) (names c))
    (either (nat_le row 13) _ _ (made_put (read a) (field b) (read c) (reads a) (names b) (reads c))
    (either (row == 14) _ _ (made_value (read a) (reads a)) (made_same (read a) (read b) (reads a) (reads b)))))))

made_drawn : (g : Lcg) → IsMade (drawn g)
unfolding drawn
made_drawn g = made_in (word_after 0 g % 16) (word_after 1 g) (word_after 2 g) (word_after 3 g)

all_made : (g : Lcg) (count : ℕ) → All IsMade (commands_from g count)
all_made g count = All-map IsMade (λ i. drawn (after_commands i g)) (range_with_len 0 count) (λ k d lt. made_drawn (after_commands (get_or (range_with_len 0 count) k d) g))

commands_are : (g : Lcg) (count : ℕ) → count ≤ 200000 → AreCommands 1 8 2 (commands_from g count)
commands_are g count few =
    record {
      few = subst (λ (n : ℕ). n ≤ 200000) (sym (length-map-range_with_len (λ i. drawn (after_commands i g)) 0 count)) few;
      leaves_last = all_stay 1 (commands_from g count) (omega arith) (λ k d lt. (all_made g count k d lt).0);
      allowed = λ k d lt. (all_made g count k d lt).0;
      in_range = λ k d lt. (all_made g count k d lt).1;
    }

mutators_are : (seed mutators commands : ℕ) → length (made_commands seed mutators commands) ≡ mutators
unfolding made_commands
mutators_are seed mutators commands = length-map-range_with_len (λ t. commands_from (after_commands (t * commands) (generator_of seed)) commands) 0 mutators

is_script : (seed mutators commands : ℕ) → 1 ≤ mutators → mutators ≤ 8 → commands ≤ 200000 → IsScript (made_script seed mutators commands)
unfolding made_commands
is_script seed mutators commands some most few =
    record {
      version = record { some = omega arith; most = omega arith };
      heap = record { some_slots = omega arith; most_slots = omega arith; some_fields = omega arith; most_fields = omega arith; some_registers = omega arith; most_registers = omega arith };
      some_mutators = subst (λ (n : ℕ). 1 ≤ n) (sym (mutators_are seed mutators commands)) some;
      most_mutators = subst (λ (n : ℕ). n ≤ 8) (sym (mutators_are seed mutators commands)) most;
      commands = All-map (AreCommands 1 8 2) (λ t. commands_from (after_commands (t * commands) (generator_of seed)) commands) (range_with_len 0 mutators) (λ k d lt. commands_are (after_commands (get_or (range_with_len 0 mutators) k d * commands) (generator_of seed)) commands few);
    }

pub spells_made : (seed mutators commands : ℕ) → 1 ≤ mutators → mutators ≤ 8 → commands ≤ 200000 → Spells (lines (made_text seed mutators commands)) (made_script seed mutators commands)
unfolding made_text
spells_made seed mutators commands some most few = spells_its_text (made_script seed mutators commands) (is_script seed mutators commands some most few)

-- ---- how the text grows

text_append : (xs ys : List (List (List ℕ))) → text_of (xs ++ ys) ≡ text_of xs ++ text_of ys
text_append xs ys = flat_map-append (λ line. spaced line []) xs ys

-- the generator after one command more
pub generator_more : (n : ℕ) (g now next : Lcg) → now ≡ after_commands n g → next ≡ after_drawn now → next ≡ after_commands (n + 1) g
unfolding after_commands
generator_more n g now next so e = let one : suc n ≡ n + 1 = omega arith in e ∙ ap after_drawn so ∙ ap (λ (k : ℕ). after_commands k g) one

-- the text after one command more
pub text_more : (n : ℕ) (g now : Lcg) (old text more : List ℕ) (cmd : Cmd) → now ≡ after_commands n g → text ≡ old ++ text_of (map command_line (commands_from g n)) → cmd ≡ drawn now → more ≡ text ++ spaced (command_line cmd) []
    → more ≡ old ++ text_of (map command_line (commands_from g (n + 1)))
text_more n g now old text more cmd so text-is cmd-is more-is =
    let here : List (List (List ℕ)) = map command_line (commands_from g n) in
    let line : List (List ℕ) = command_line (drawn (after_commands n g)) in
    let is : cmd ≡ drawn (after_commands n g) = cmd-is ∙ ap drawn so in
    let commands : commands_from g (n + 1) ≡ commands_from g n ++ drawn (after_commands n g) ∷ [] = map-range_with_len_more (λ i. drawn (after_commands i g)) 0 n n (omega arith) in
    let all : text_of (map command_line (commands_from g (n + 1))) ≡ text_of here ++ spaced line [] =
    ap (λ (cmds : List Cmd). text_of (map command_line cmds)) commands
    ∙ ap text_of (map-append command_line (commands_from g n) (drawn (after_commands n g) ∷ []))
    ∙ text_append here (line ∷ [])
    ∙ ap (λ (t : List ℕ). text_of here ++ t) (append-nil (spaced line []))
    in
    more-is
    ∙ ap (λ (t : List ℕ). t ++ spaced (command_line cmd) []) text-is
    ∙ ap (λ (c : Cmd). (old ++ text_of here) ++ spaced (command_line c) []) is
    ∙ append_assoc old (text_of here) (spaced line [])
    ∙ ap (λ (t : List ℕ). old ++ t) (sym all)

-- the generators behind commands one after the other
after_both : (m n : ℕ) (g : Lcg) → after_commands m (after_commands n g) ≡ after_commands (m + n) g
unfolding after_commands
after_both zero n g = let none : n ≡ 0 + n = omega arith in ap (λ (k : ℕ). after_commands k g) none
after_both (suc m) n g = let next : suc (m + n) ≡ suc m + n = omega arith in ap after_drawn (after_both m n g) ∙ ap (λ (k : ℕ). after_commands k g) next

one_more : (t commands : ℕ) → commands + t * commands ≡ (t + 1) * commands
one_more t commands =
    let one : suc t ≡ t + 1 = omega arith in
    let sum : commands + t * commands ≡ t * commands + commands = omega arith in
    sum ∙ sym (suc-mul t commands) ∙ ap (λ (k : ℕ). k * commands) one

-- the generator after one mutator more
pub mutator_behind : (seed t commands : ℕ) (now next : Lcg) → now ≡ after_commands (t * commands) (generator_of seed) → next ≡ after_commands commands now → next ≡ after_commands ((t + 1) * commands) (generator_of seed)
mutator_behind seed t commands now next so e = e ∙ ap (after_commands commands) so ∙ after_both commands (t * commands) (generator_of seed) ∙ ap (λ (k : ℕ). after_commands k (generator_of seed)) (one_more t commands)

-- the text after one mutator more
pub mutator_more : (seed t commands : ℕ) (now : Lcg) (text named more : List ℕ) → now ≡ after_commands (t * commands) (generator_of seed) → text ≡ made_text seed t commands → named ≡ text ++ codes "mutator\n" → more ≡ named ++ text_of (map command_line (commands_from now commands))
    → more ≡ made_text seed (t + 1) commands
unfolding made_commands made_text
mutator_more seed t commands now text named more so text-is named-is more-is =
    let body : ℕ → List (List (List ℕ)) = λ n. flat_map mutator_lines (made_commands seed n commands) in
    let mine : List Cmd = commands_from (after_commands (t * commands) (generator_of seed)) commands in
    let front : List (List (List ℕ)) = header 1 ∷ heap_line 1024 2 8 ∷ [] in
    let mutators : made_commands seed (t + 1) commands ≡ made_commands seed t commands ++ mine ∷ [] = map-range_with_len_more (λ t. commands_from (after_commands (t * commands) (generator_of seed)) commands) 0 t t (omega arith) in
    let grown : body (t + 1) ≡ body t ++ mutator_lines mine =
    ap (flat_map mutator_lines) mutators
    ∙ flat_map-append mutator_lines (made_commands seed t commands) (mine ∷ [])
    ∙ ap (λ (ls : List (List (List ℕ))). body t ++ ls) (append-nil (mutator_lines mine))
    in
    let all : made_text seed (t + 1) commands ≡ made_text seed t commands ++ text_of (mutator_lines mine) =
    ap (λ (ls : List (List (List ℕ))). text_of (front ++ ls)) grown ∙ text_append (front ++ body t) (mutator_lines mine)
    in
    let line : codes "mutator\n" ++ text_of (map command_line mine) ≡ text_of (mutator_lines mine) = refl in
    more-is
    ∙ ap (λ (t : List ℕ). t ++ text_of (map command_line (commands_from now commands))) named-is
    ∙ append_assoc text (codes "mutator\n") (text_of (map command_line (commands_from now commands)))
    ∙ ap (λ (t : List ℕ). t ++ (codes "mutator\n" ++ text_of (map command_line (commands_from now commands)))) text-is
    ∙ ap (λ (g : Lcg). made_text seed t commands ++ (codes "mutator\n" ++ text_of (map command_line (commands_from g commands)))) so
    ∙ ap (λ (bytes : List ℕ). made_text seed t commands ++ bytes) line
    ∙ sym all

-- ---- how long it is

abbrev IsShort : List (List ℕ) → Type 0
IsShort line = length (spaced line []) ≤ 10

short_lines : (css : List (List Cmd)) → All (λ cmds. All IsMade cmds) css → All IsShort (flat_map mutator_lines css)
short_lines [] are = λ k d lt. absurd (omega arith)
short_lines (cmds ∷ css) are =
    All-append IsShort (mutator_lines cmds) (flat_map mutator_lines css)
    (All-cons IsShort mutator_line (map command_line cmds) (omega arith) (All-map IsShort command_line cmds (λ k d lt. (All-head (λ cmds. All IsMade cmds) cmds css are k d lt).2)))
    (short_lines css (All-tail (λ cmds. All IsMade cmds) cmds css are))

mutators_made : (seed mutators commands : ℕ) → All (λ cmds. All IsMade cmds) (made_commands seed mutators commands)
unfolding made_commands
mutators_made seed mutators commands =
    All-map (λ cmds. All IsMade cmds) (λ t. commands_from (after_commands (t * commands) (generator_of seed)) commands) (range_with_len 0 mutators)
    (λ k d lt. all_made (after_commands (get_or (range_with_len 0 mutators) k d * commands) (generator_of seed)) commands)

-- a mutator has a line of its own and one for each command
mutator_length : (commands : ℕ) (cmds : List Cmd) → length cmds ≤ commands → length (mutator_lines cmds) ≤ 1 + commands
mutator_length commands cmds few = omega (arith, few, length-map cmds command_line)

body_length : (commands : ℕ) (css : List (List Cmd)) → All (AreCommands 1 8 2) css → commands ≡ 200000 → length (flat_map mutator_lines css) ≤ length css * (1 + commands)
body_length commands css are is =
    subst (λ (n : ℕ). n ≤ length css * (1 + commands)) (sym (length-flat_map mutator_lines css))
    (sum_by-le (λ cmds. length (mutator_lines cmds)) (1 + commands) css (λ k d lt. mutator_length commands (get_or css k d) (subst (λ (n : ℕ). length (get_or css k d) ≤ n) (sym is) (are k d lt).few)))

-- the header and the heap have 25 bytes, and no other line more than ten
front_length : length (text_of (header 1 ∷ heap_line 1024 2 8 ∷ [])) ≡ 25
unfolding digits
front_length = refl

made_length : (seed mutators commands : ℕ) → length (made_text seed mutators commands) ≡ 25 + length (text_of (flat_map mutator_lines (made_commands seed mutators commands)))
unfolding made_text
made_length seed mutators commands =
    let front : List (List (List ℕ)) = header 1 ∷ heap_line 1024 2 8 ∷ [] in
    let body : List (List (List ℕ)) = flat_map mutator_lines (made_commands seed mutators commands) in
    ap (length {A = ℕ}) (text_append front body) ∙ length-append (text_of front) (text_of body) ∙ ap (λ (n : ℕ). n + length (text_of body)) front_length

pub short_made : (seed mutators commands : ℕ) → 1 ≤ mutators → mutators ≤ 8 → commands ≤ 200000 → length (made_text seed mutators commands) ≤ 16777216
short_made seed mutators commands some most few =
    let css : List (List Cmd) = made_commands seed mutators commands in
    let body : List (List (List ℕ)) = flat_map mutator_lines css in
    let count : length body ≤ length css * 200001 = body_length 200000 css (is_script seed mutators commands some most few).commands refl in
    let bytes : length (text_of body) ≤ length body * 10 =
    subst (λ (n : ℕ). n ≤ length body * 10) (sym (length-flat_map (λ line. spaced line []) body))
    (sum_by-le (λ line. length (spaced line [])) 10 body (short_lines css (mutators_made seed mutators commands)))
    in
    omega (arith, made_length seed mutators commands, count, bytes, mutators_are seed mutators commands)

-- the text before the first mutator
pub opening_text : (seed commands : ℕ) → made_text seed 0 commands ≡ codes "recycler 1\nheap 1024 2 8\n"
unfolding made_commands made_text digits
opening_text seed commands = refl

pub opening_generator : (seed commands : ℕ) → after_commands (0 * commands) (generator_of seed) ≡ generator_of seed
unfolding after_commands
opening_generator seed commands = let none : 0 * commands ≡ 0 = omega arith in ap (λ (k : ℕ). after_commands k (generator_of seed)) none

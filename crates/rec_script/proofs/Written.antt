-- A script within its limits is spelled by the text of its lines.
use Rattle.std.proofs.Common.{◌≡◌, inl, inr, ℕ, Bool, true, cond, List, [], ◌∷◌, ◌++◌, refl, sym, ap, subst, ◌∙◌, arith, append_assoc}
use Rattle.std.specs.Prelude.{All}
use Rattle.std.specs.List.{flat_map}
use Rattle.std.specs.Str.{IsUtf8}
use Rattle.std.proofs.lemmas.List.Elements.{All-cons, All-head, All-tail, All-weaker}
use Rattle.rec_model.specs.declared.command.Cmd.{Cmd}
use Rattle.rec_model.specs.declared.command.Cmd.TheVariants.{New}
use Rattle.rec_script.specs.Lines.{lines, words, is_counted, counted, spaced, AreUtf8}
use Rattle.rec_script.specs.Made.{text_of}
use Rattle.rec_script.specs.Script.{ScriptContents, IsHeap, IsVersion, IsScript, Spells, header, heap_line, mutator_line, mutator_lines, command_line, spelled}
use Rattle.rec_script.proofs.Plainness.{ArePlain, utf8_of_words, plain_script}
use Rattle.rec_script.proofs.Regrouping.{AreSmall, small}
use Rattle.rec_script.proofs.Spacing.{AreWords, joined, as_joined, first_line, words_joined, numeral_word, command_words}
use Rattle.rec_script.proofs.Stopping.{IsBodyLine, body_lines}

-- the words of a line that counts
abbrev IsLine : List (List ℕ) → Type 0
IsLine line = AreWords line × (is_counted line ≡ true)

-- ---- the lines of a script

header_is : (version : ℕ) → IsVersion version → IsLine (header version)
header_is version is = (((omega arith, (omega arith, (omega arith, (omega arith, (omega arith, (omega arith, (omega arith, (omega arith, (omega arith, tt))))))))), (numeral_word version (omega (arith, is.most)), tt)), refl)

heap_is : (s f r : ℕ) → IsHeap s f r → IsLine (heap_line s f r)
heap_is s f r h =
    (((omega arith, (omega arith, (omega arith, (omega arith, (omega arith, tt))))), (numeral_word s (omega (arith, h.most_slots)), (numeral_word f (omega (arith, h.most_fields)), (numeral_word r (omega (arith, h.most_registers)), tt)))), refl)

mutator_is : IsLine mutator_line
mutator_is = (((omega arith, (omega arith, (omega arith, (omega arith, (omega arith, (omega arith, (omega arith, (omega arith, tt)))))))), tt), refl)

command_counts : (cmd : Cmd) → is_counted (command_line cmd) ≡ true
command_counts (New reg label) = refl
command_counts _ = refl

body_is : (version registers fields : ℕ) → AreSmall registers fields → (line : List (List ℕ)) → IsBodyLine version registers fields line → IsLine line
body_is version registers fields h line (inl e) = subst IsLine (sym e) mutator_is
body_is version registers fields h line (inr is) = subst IsLine (sym is.3) (command_words registers fields is.0 h is.2, command_counts is.0)

lines_are : (contents : ScriptContents) → IsScript contents → All IsLine (spelled contents)
lines_are contents script =
    All-cons IsLine (header contents.version) (heap_line contents.slots contents.fields contents.registers ∷ flat_map mutator_lines contents.commands) (header_is contents.version script.version)
    (All-cons IsLine (heap_line contents.slots contents.fields contents.registers) (flat_map mutator_lines contents.commands) (heap_is contents.slots contents.fields contents.registers script.heap)
    (All-weaker (IsBodyLine contents.version contents.registers contents.fields) IsLine (body_is contents.version contents.registers contents.fields (small contents.slots contents.fields contents.registers script.heap)) (flat_map mutator_lines contents.commands) (body_lines contents.version contents.registers contents.fields contents.commands script.commands)))

-- ---- their text

-- a line in front of others
in_front_of : (line : List (List ℕ)) (rest : List ℕ) → spaced line [] ++ rest ≡ spaced line rest
in_front_of line rest =
    ap (λ (t : List ℕ). t ++ rest) (as_joined line [])
    ∙ append_assoc (joined line) (10 ∷ []) rest
    ∙ sym (as_joined line rest)

-- the lines are read again from their text
record AreRead (ws : List (List (List ℕ))) : Type 0 where
  pub utf8 : AreUtf8 (lines (text_of ws))
  pub same : counted (lines (text_of ws)) ≡ ws

are_read : (ws : List (List (List ℕ))) → All IsLine ws → All ArePlain ws → AreRead ws
are_read [] are plain = record { utf8 = λ k d lt. absurd (omega arith); same = refl }
are_read (line ∷ ws) are plain =
    let more : AreRead ws = are_read ws (All-tail IsLine line ws are) (All-tail ArePlain line ws plain) in
    let is : IsLine line = All-head IsLine line ws are in
    let cut : lines (text_of (line ∷ ws)) ≡ joined line ∷ lines (text_of ws) = ap lines (in_front_of line (text_of ws)) ∙ first_line line (text_of ws) is.0 in
    let found : words (joined line) ≡ line = words_joined line is.0 in
    record {
      utf8 = subst AreUtf8 (sym cut) (All-cons IsUtf8 (joined line) (lines (text_of ws)) (utf8_of_words (joined line) line found (All-head ArePlain line ws plain)) more.utf8);
      same =
          ap counted cut
          ∙ ap (λ (found : List (List ℕ)). cond (is_counted found) (found ∷ counted (lines (text_of ws))) (counted (lines (text_of ws)))) found
          ∙ ap (λ (t : Bool). cond t (line ∷ counted (lines (text_of ws))) (counted (lines (text_of ws)))) is.1
          ∙ ap (λ (rest : List (List (List ℕ))). line ∷ rest) more.same;
    }

pub spells_its_text : (contents : ScriptContents) → IsScript contents → Spells (lines (text_of (spelled contents))) contents
spells_its_text contents script =
    let read : AreRead (spelled contents) = are_read (spelled contents) (lines_are contents script) (plain_script contents script) in
    record { utf8 = read.utf8; counted_are = read.same; limits = script }

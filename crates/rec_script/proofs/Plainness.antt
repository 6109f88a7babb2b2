-- A line of plain words is UTF-8, and so are the lines of a script that count.
use Rattle.std.proofs.Common.{◌≡◌, inl, inr, ℕ, zero, suc, ◌^◌, ◌<◌, Bool, true, false, cond, List, [], ◌∷◌, ◌++◌, get_or, refl, sym, subst, arith}
use Rattle.std.specs.Prelude.{All, filter}
use Rattle.std.specs.List.{flat_map, AllByRecursion}
use Rattle.std.specs.Fmt.{decimal}
use Rattle.std.specs.Str.{IsUtf8}
use Rattle.std.proofs.lemmas.Bool.Decides.{nat_tests}
use Rattle.std.proofs.lemmas.Fmt.{IsAscii-decimal}
use Rattle.std.proofs.lemmas.Str.{IsUtf8-from_ascii}
use Rattle.std.proofs.lemmas.List.Elements.{All-cons, All-weaker}
use Rattle.rec_model.specs.declared.command.Cmd.{Cmd}
use Rattle.rec_model.specs.declared.command.Cmd.TheVariants.{New, Leaf, Null, Copy, Get, Put, Value, Same, Leave, Park, Unpark}
use Rattle.rec_script.specs.declared.draft.Draft.{Draft}
use Rattle.rec_script.specs.declared.draft.Draft.TheVariants.{Nothing, Header, Sized, Whole}
use Rattle.rec_script.specs.Lines.{is_blank, in_front, cut, is_some_word, words}
use Rattle.rec_script.specs.Script.{ScriptContents, IsCommand, IsHeap, IsVersion, IsScript, header, heap_line, mutator_line, mutator_lines, command_line, spelled}
use Rattle.rec_script.specs.Drafts.{so_far, IsDraft}
use Rattle.rec_script.proofs.Regrouping.{AreSmall, small}
use Rattle.rec_script.proofs.Stopping.{IsBodyLine, body_lines, all_at}

-- each byte is of ASCII
abbrev IsPlain : List ℕ → Type 0
IsPlain bs = AllByRecursion (λ b. b < 128) bs

abbrev pub ArePlain : List (List ℕ) → Type 0
ArePlain ws = AllByRecursion IsPlain ws

pub ascii : (bs : List ℕ) → IsPlain bs → IsUtf8 bs
ascii bs h = IsUtf8-from_ascii bs (below bs h)
  where
    below : (bs : List ℕ) → IsPlain bs → (i : ℕ) → get_or bs i 0 < 128
    below [] h i = omega arith
    below (b ∷ bs) h zero = h.0
    below (b ∷ bs) h (suc i) = below bs h.1 i

-- ---- lines of plain words

small_blank : (c : ℕ) → is_blank c ≡ true → c < 128
small_blank c e = grind (arith, nat_tests)

in_front_plain : (c : ℕ) (ps : List (List ℕ)) → ArePlain (in_front c ps) → (c < 128) × ArePlain ps
in_front_plain c [] h = (h.0.0, tt)
in_front_plain c (p ∷ ps) h = (h.0.0, (h.0.1, h.1))

plain_step : (c : ℕ) (ps : List (List ℕ)) (b : Bool) → is_blank c ≡ b → ArePlain (cond b ([] ∷ ps) (in_front c ps)) → (c < 128) × ArePlain ps
plain_step c ps true e h = (small_blank c e, h.1)
plain_step c ps false e h = in_front_plain c ps h

plain_cut : (cs : List ℕ) → ArePlain (cut is_blank cs) → IsPlain cs
plain_cut [] h = tt
plain_cut (c ∷ cs) h = let on = plain_step c (cut is_blank cs) (is_blank c) refl h in (on.0, plain_cut cs on.1)

plain_pieces : (ps : List (List ℕ)) → ArePlain (filter is_some_word ps) → ArePlain ps
plain_pieces [] h = tt
plain_pieces ([] ∷ ps) h = (tt, plain_pieces ps h)
plain_pieces ((c ∷ w) ∷ ps) h = (h.0, plain_pieces ps h.1)

pub utf8_of_words : (line : List ℕ) (ws : List (List ℕ)) → words line ≡ ws → ArePlain ws → IsUtf8 line
utf8_of_words line ws e h = ascii line (plain_cut line (plain_pieces (cut is_blank line) (subst ArePlain (sym e) h)))

-- ---- lines of a script

plain_decimal : (n : ℕ) → n < 2 ^ 64 → IsPlain (decimal n)
plain_decimal n fits = from (decimal n) (IsAscii-decimal n fits)
  where
    from : (bs : List ℕ) → ((i : ℕ) → get_or bs i 0 < 128) → IsPlain bs
    from [] h = tt
    from (b ∷ bs) h = (h 0, from bs (λ i. h (suc i)))

plain_header : (version : ℕ) → IsVersion version → ArePlain (header version)
plain_header version is = ((omega arith, (omega arith, (omega arith, (omega arith, (omega arith, (omega arith, (omega arith, (omega arith, tt)))))))), (plain_decimal version (omega (arith, is.most)), tt))

plain_heap : (s f r : ℕ) → IsHeap s f r → ArePlain (heap_line s f r)
plain_heap s f r h = ((omega arith, (omega arith, (omega arith, (omega arith, tt)))), (plain_decimal s (omega (arith, h.most_slots)), (plain_decimal f (omega (arith, h.most_fields)), (plain_decimal r (omega (arith, h.most_registers)), tt))))

pub plain_mutator : ArePlain mutator_line
plain_mutator = ((omega arith, (omega arith, (omega arith, (omega arith, (omega arith, (omega arith, (omega arith, tt))))))), tt)

pub plain_command : (registers fields : ℕ) (cmd : Cmd) → AreSmall registers fields → IsCommand registers fields cmd → ArePlain (command_line cmd)
plain_command registers fields (New reg label) h is = ((omega arith, (omega arith, (omega arith, tt))), (plain_decimal reg (omega (arith, h.registers_fit, is.0)), (plain_decimal label (omega (arith, is.1)), tt)))
plain_command registers fields (Leaf reg label) h is = ((omega arith, (omega arith, (omega arith, (omega arith, tt)))), (plain_decimal reg (omega (arith, h.registers_fit, is.0)), (plain_decimal label (omega (arith, is.1)), tt)))
plain_command registers fields (Null reg) h is = ((omega arith, (omega arith, (omega arith, (omega arith, tt)))), (plain_decimal reg (omega (arith, h.registers_fit, is.0)), tt))
plain_command registers fields (Copy dst src) h is = ((omega arith, (omega arith, (omega arith, (omega arith, tt)))), (plain_decimal dst (omega (arith, h.registers_fit, is.0.0)), (plain_decimal src (omega (arith, h.registers_fit, is.0.1)), tt)))
plain_command registers fields (Get dst src field) h is = ((omega arith, (omega arith, (omega arith, tt))), (plain_decimal dst (omega (arith, h.registers_fit, is.0.0)), (plain_decimal src (omega (arith, h.registers_fit, is.0.1)), (plain_decimal field (omega (arith, h.fields_fit, is.0.2)), tt))))
plain_command registers fields (Put src field val) h is = ((omega arith, (omega arith, (omega arith, tt))), (plain_decimal src (omega (arith, h.registers_fit, is.0.0)), (plain_decimal field (omega (arith, h.fields_fit, is.0.1)), (plain_decimal val (omega (arith, h.registers_fit, is.0.2)), tt))))
plain_command registers fields (Value reg) h is = ((omega arith, (omega arith, (omega arith, (omega arith, (omega arith, tt))))), (plain_decimal reg (omega (arith, h.registers_fit, is.0)), tt))
plain_command registers fields (Same a b) h is = ((omega arith, (omega arith, (omega arith, (omega arith, tt)))), (plain_decimal a (omega (arith, h.registers_fit, is.0.0)), (plain_decimal b (omega (arith, h.registers_fit, is.0.1)), tt)))
plain_command registers fields Leave h is = ((omega arith, (omega arith, (omega arith, (omega arith, (omega arith, tt))))), tt)
plain_command registers fields Park h is = absurd is.0
plain_command registers fields Unpark h is = absurd is.0

plain_body : (version registers fields : ℕ) → AreSmall registers fields → (line : List (List ℕ)) → IsBodyLine version registers fields line → ArePlain line
plain_body version registers fields h line (inl e) = subst ArePlain (sym e) plain_mutator
plain_body version registers fields h line (inr is) = subst ArePlain (sym is.3) (plain_command registers fields is.0 h is.2)

pub plain_script : (contents : ScriptContents) → IsScript contents → All ArePlain (spelled contents)
plain_script contents script =
    All-cons ArePlain (header contents.version) (heap_line contents.slots contents.fields contents.registers ∷ flat_map mutator_lines contents.commands) (plain_header contents.version script.version)
    (All-cons ArePlain (heap_line contents.slots contents.fields contents.registers) (flat_map mutator_lines contents.commands) (plain_heap contents.slots contents.fields contents.registers script.heap)
    (All-weaker (IsBodyLine contents.version contents.registers contents.fields) ArePlain (plain_body contents.version contents.registers contents.fields (small contents.slots contents.fields contents.registers script.heap)) (flat_map mutator_lines contents.commands) (body_lines contents.version contents.registers contents.fields contents.commands script.commands)))

none_plain : All ArePlain []
none_plain = λ k d lt. absurd (omega arith)

plain_draft : (d : Draft) → IsDraft d → All ArePlain (so_far d)
plain_draft Nothing is = none_plain
plain_draft (Header version) is = All-cons ArePlain (header version) [] (plain_header version is) none_plain
plain_draft (Sized version heap) is = All-cons ArePlain (header version) (heap_line heap.slots heap.fields heap.registers ∷ []) (plain_header version is.0) (All-cons ArePlain (heap_line heap.slots heap.fields heap.registers) [] (plain_heap heap.slots heap.fields heap.registers is.1) none_plain)
plain_draft (Whole script) is = plain_script script is

-- a line that a draft took is UTF-8
pub taken_utf8 : (d : Draft) (before : List (List (List ℕ))) (line : List ℕ) (ws : List (List ℕ)) → IsDraft d → so_far d ≡ before ++ ws ∷ [] → words line ≡ ws → IsUtf8 line
taken_utf8 d before line ws is e same = utf8_of_words line ws same (all_at ArePlain before ws [] (subst (λ (t : List (List (List ℕ))). All ArePlain t) e (plain_draft d is)))

-- Lines that spell the beginning of a script are continued by some lines.
use Rattle.std.proofs.Common.{◌≡◌, ℕ, List, [], ◌∷◌, ◌++◌, sym, ap, subst, ◌∙◌, arith, append_assoc, append-nil}
use Rattle.std.specs.Prelude.{codes}
use Rattle.std.specs.Fmt.{decimal}
use Rattle.std.specs.Str.{IsUtf8}
use Rattle.std.proofs.lemmas.Fmt.{decimal_digit}
use Rattle.std.proofs.lemmas.List.{append-nil}
use Rattle.std.proofs.lemmas.List.Elements.{All-push}
use Rattle.rec_script.specs.declared.draft.Draft.{Draft}
use Rattle.rec_script.specs.declared.draft.Draft.TheVariants.{Nothing, Header, Sized, Whole}
use Rattle.rec_script.specs.Lines.{words, counted, AreUtf8}
use Rattle.rec_script.specs.Script.{ScriptContents, IsHeap, IsVersion, AreCommands, IsScript, Spells, Continues, header, heap_line, spelled}
use Rattle.rec_script.specs.Drafts.{so_far, IsDraft}
use Rattle.rec_script.proofs.Mutators.{many_mutators, no_commands}
use Rattle.rec_script.proofs.Stopping.{counted-append}
use Rattle.rec_script.proofs.Plainness.{ascii}

-- lines that are continued with one more are continued
pub continues_before : (before : List (List ℕ)) (line : List ℕ) → Continues (before ++ line ∷ []) → Continues before
continues_before before line on = (line ∷ on.0, on.1, subst (λ (t : List (List ℕ)). Spells t on.1) (append_assoc before (line ∷ []) on.0) on.2)

whole : (before : List (List ℕ)) (contents : ScriptContents) → IsScript contents → AreUtf8 before → counted before ≡ spelled contents → Continues before
whole before contents script utf8 e = (
  [],
  contents,
  record {
    utf8 = subst (λ (t : List (List ℕ)). AreUtf8 t) (sym (append-nil before)) utf8;
    counted_are = ap counted (append-nil before) ∙ e;
    limits = script;
  },
)

-- a line more
more : (before : List (List ℕ)) (line : List ℕ) (spelt : List (List (List ℕ))) → counted before ≡ spelt → counted (before ++ line ∷ []) ≡ spelt ++ counted (line ∷ [])
more before line spelt e = counted-append before (line ∷ []) ∙ ap (λ (t : List (List (List ℕ))). t ++ counted (line ∷ [])) e

sized : (before : List (List ℕ)) (v s f r : ℕ) → IsVersion v → IsHeap s f r → AreUtf8 before → counted before ≡ header v ∷ heap_line s f r ∷ [] → Continues before
sized before v s f r version heap utf8 e =
    let script : IsScript (record { version = v; slots = s; fields = f; registers = r; commands = [] ∷ [] }) = record {
      version = version;
      heap = heap;
      some_mutators = omega arith;
      most_mutators = omega (arith, many_mutators v);
      commands = All-push (AreCommands v r f) [] [] (λ k d lt. absurd (omega arith)) (no_commands v r f);
    } in
    continues_before before (codes "mutator")
    (whole (before ++ codes "mutator" ∷ []) (record { version = v; slots = s; fields = f; registers = r; commands = [] ∷ [] }) script (All-push IsUtf8 before (codes "mutator") utf8 (ascii (codes "mutator") (omega arith, (omega arith, (omega arith, (omega arith, (omega arith, (omega arith, (omega arith, tt)))))))))
    (more before (codes "mutator") (header v ∷ heap_line s f r ∷ []) e))

one : decimal 1 ≡ 49 ∷ []
one = decimal_digit 1 (omega arith)

first_header : header 1 ≡ words (codes "recycler 1")
first_header = ap (λ (d : List ℕ). codes "recycler" ∷ d ∷ []) one

least_heap : heap_line 1 1 1 ≡ words (codes "heap 1 1 1")
least_heap = ap (λ (d : List ℕ). codes "heap" ∷ d ∷ d ∷ d ∷ []) one

headed : (before : List (List ℕ)) (v : ℕ) → IsVersion v → AreUtf8 before → counted before ≡ header v ∷ [] → Continues before
headed before v version utf8 e =
    continues_before before (codes "heap 1 1 1")
    (sized (before ++ codes "heap 1 1 1" ∷ []) v 1 1 1 version (record { some_slots = omega arith; most_slots = omega arith; some_fields = omega arith; most_fields = omega arith; some_registers = omega arith; most_registers = omega arith })
    (All-push IsUtf8 before (codes "heap 1 1 1") utf8 (ascii (codes "heap 1 1 1") (omega arith, (omega arith, (omega arith, (omega arith, (omega arith, (omega arith, (omega arith, (omega arith, (omega arith, (omega arith, tt))))))))))))
    (more before (codes "heap 1 1 1") (header v ∷ []) e ∙ ap (λ (h : List (List ℕ)). header v ∷ h ∷ []) (sym least_heap)))

empty : (before : List (List ℕ)) → AreUtf8 before → counted before ≡ [] → Continues before
empty before utf8 e =
    continues_before before (codes "recycler 1")
    (headed (before ++ codes "recycler 1" ∷ []) 1 (record { some = omega arith; most = omega arith }) (All-push IsUtf8 before (codes "recycler 1") utf8 (ascii (codes "recycler 1") (omega arith, (omega arith, (omega arith, (omega arith, (omega arith, (omega arith, (omega arith, (omega arith, (omega arith, (omega arith, tt)))))))))))) (more before (codes "recycler 1") [] e ∙ ap (λ (h : List (List ℕ)). h ∷ []) (sym first_header)))

-- what a draft stands for is continued
pub continues : (d : Draft) (before : List (List ℕ)) → IsDraft d → AreUtf8 before → so_far d ≡ counted before → Continues before
continues Nothing before is utf8 e = empty before utf8 (sym e)
continues (Header version) before is utf8 e = headed before version is utf8 (sym e)
continues (Sized version heap) before is utf8 e = sized before version heap.slots heap.fields heap.registers is.0 is.1 utf8 (sym e)
continues (Whole script) before is utf8 e = whole before script is utf8 (sym e)

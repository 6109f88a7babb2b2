-- What is told of a line is what is wrong with it behind the lines so far.
use Rattle.std.proofs.Common.{◌≡◌, ◌≢◌, ℕ, List, ◌∷◌, length, get_or, Result, Ok, Err, refl, sym, ap, subst, ◌∙◌}
use Rattle.std.specs.Prelude.{not}
use Rattle.std.specs.Str.{IsUtf8}
use Rattle.std.proofs.lemmas.Bool.{ne_eqb}
use Rattle.rec_model.specs.declared.command.Cmd.{Cmd}
use Rattle.rec_script.specs.declared.error.Kind.{Kind}
use Rattle.rec_script.specs.declared.error.Kind.TheVariants.{NoHeader, BadHeap, NoMutator}
use Rattle.rec_script.specs.declared.error.ScriptError.{ScriptError}
use Rattle.rec_script.specs.declared.error.ScriptError.TheVariants.{Bad, NoMemory}
use Rattle.rec_script.specs.declared.heap.Heap.{Heap}
use Rattle.rec_script.specs.declared.draft.Draft.{Draft}
use Rattle.rec_script.specs.declared.draft.Draft.TheVariants.{Nothing, Header, Sized, Whole}
use Rattle.rec_script.specs.Lines.{words, is_counted}
use Rattle.rec_script.specs.Script.{ScriptContents, IsHeap, IsVersion, IsScript, header, heap_line, mutator_line, spelled, HasLeft, last_commands, IsBadCommand, Fits, IsFault, IsNeed}
use Rattle.rec_script.specs.Drafts.{so_far, IsDraft}

-- an answer that is a value is no error, and that memory ran out is told of no line
pub no_error : {T : Type 0} (x : T) (e : ScriptError) → ◌≡◌ {A = Result T ScriptError} (Ok x) (Err e) → ⊥
no_error x e is = cc

pub no_line : {T : Type 0} (line : ℕ) (kind : Kind) → ◌≡◌ {A = Result T ScriptError} (Err NoMemory) (Err (Bad line kind)) → ⊥
no_line line kind is = cc

-- an answer that is an error is that error
pub told_error : {T : Type 0} (found named : ScriptError) → ◌≡◌ {A = Result T ScriptError} (Err found) (Err named) → found ≡ named
told_error found named e = cc

-- and of a line and a kind each is the one that was made
pub told_both : {T : Type 0} (number line : ℕ) (made kind : Kind) → ◌≡◌ {A = Result T ScriptError} (Err (Bad number made)) (Err (Bad line kind)) → (line ≡ number) × (made ≡ kind)
told_both number line made kind e = (cc, cc)

-- an error that is told is the one that was made
pub told : {T : Type 0} (P : Kind → Type 0) (r : ScriptError) (number line : ℕ) (named kind : Kind) → r ≡ Bad number named → ◌≡◌ {A = Result T ScriptError} (Err r) (Err (Bad line kind)) → P named → (line ≡ number) × P kind
told P r number line named kind made e h =
    let same : named ≡ kind = cc in
    let at : line ≡ number = cc in
    (at, subst P same h)

-- ---- needs

pub need_nothing : (d : Draft) → d ≡ Nothing → IsNeed (so_far d) NoHeader
need_nothing d e = subst (λ (v : Draft). IsNeed (so_far v) NoHeader) (sym e) (IsNeed.of_header refl)

pub need_header : (d : Draft) (version : ℕ) → d ≡ Header version → IsDraft d → IsNeed (so_far d) BadHeap
need_header d version e is = subst (λ (v : Draft). IsNeed (so_far v) BadHeap) (sym e) (IsNeed.of_heap version (subst IsDraft e is) refl)

pub need_sized : (d : Draft) (version : ℕ) (heap : Heap) → d ≡ Sized version heap → IsDraft d → IsNeed (so_far d) NoMutator
need_sized d version heap e is =
    let so = subst IsDraft e is in
    subst (λ (v : Draft). IsNeed (so_far v) NoMutator) (sym e) (IsNeed.of_mutator version heap.slots heap.fields heap.registers so.0 so.1 refl)

-- ---- the words of a line

pub fits_nothing : (d : Draft) (line : List (List ℕ)) → d ≡ Nothing → ((version : ℕ) → IsVersion version → line ≢ header version) → Fits (so_far d) line NoHeader
fits_nothing d line e other = subst (λ (v : Draft). Fits (so_far v) line NoHeader) (sym e) (Fits.no_header refl other)

pub fits_header : (d : Draft) (version : ℕ) (line : List (List ℕ)) → d ≡ Header version → IsDraft d → ((slots fields registers : ℕ) → IsHeap slots fields registers → line ≢ heap_line slots fields registers) → Fits (so_far d) line BadHeap
fits_header d version line e is other = subst (λ (v : Draft). Fits (so_far v) line BadHeap) (sym e) (Fits.bad_heap version (subst IsDraft e is) refl other)

pub fits_sized : (d : Draft) (version : ℕ) (heap : Heap) (line : List (List ℕ)) → d ≡ Sized version heap → IsDraft d → line ≢ mutator_line → Fits (so_far d) line NoMutator
fits_sized d version heap line e is other =
    let so = subst IsDraft e is in
    subst (λ (v : Draft). Fits (so_far v) line NoMutator) (sym e) (Fits.no_mutator version heap.slots heap.fields heap.registers so.0 so.1 refl other)

pub fits_whole : (d : Draft) (script : ScriptContents) (line : List (List ℕ)) (kind : Kind) → d ≡ Whole script → Fits (spelled script) line kind → Fits (so_far d) line kind
fits_whole d script line kind e h = subst (λ (v : Draft). Fits (so_far v) line kind) (sym e) h

pub fits_command : (contents : ScriptContents) (version registers fields count : ℕ) (line : List (List ℕ)) (kind : Kind) → IsScript contents → version ≡ contents.version → registers ≡ contents.registers → fields ≡ contents.fields → count ≡ length (last_commands contents.commands)
    → line ≢ mutator_line → ¬ HasLeft (last_commands contents.commands) → ((cmds : List Cmd) → length cmds ≡ count → ¬ HasLeft cmds → IsBadCommand version registers fields cmds line kind) → Fits (spelled contents) line kind
fits_command contents version registers fields count line kind script v-is r-is f-is count-is other stays h =
    let cmds : List Cmd = last_commands contents.commands in
    Fits.bad_command contents kind script refl other
    (subst (λ (n : ℕ). IsBadCommand contents.version contents.registers n cmds line kind) f-is
    (subst (λ (n : ℕ). IsBadCommand contents.version n fields cmds line kind) r-is
    (subst (λ (n : ℕ). IsBadCommand n registers fields cmds line kind) v-is (h cmds (sym count-is) stays))))

-- ---- a line

pub fault_of_words : (before : List (List (List ℕ))) (line word : List ℕ) (more : List (List ℕ)) (kind : Kind) → IsUtf8 line → words line ≡ word ∷ more → get_or word 0 0 ≢ 35 → Fits before (word ∷ more) kind → IsFault before line kind
fault_of_words before line word more kind utf8 e other h =
    IsFault.bad_words kind utf8 (ap is_counted e ∙ ap not (ne_eqb (get_or word 0 0) 35 other)) (subst (λ (t : List (List ℕ)). Fits before t kind) (sym e) h)

-- What a command does to registers, headers and words is what asking gives, whatever heap stood before, and objects keep their numbers.
use Rattle.std.proofs.Common.{◌≡◌, inl, inr, ℕ, ◌<◌, ◌==◌, [], Option, None, Some, Bool, true, false, not, slice_index_or, length, map, replicate, refl, sym, ap, subst, ◌∙◌, arith}
use Rattle.std.specs.Option.{option_map, is_some}
use Rattle.std.proofs.Math.ListN.{get_or-map}
use Rattle.std.proofs.lemmas.Bool.{eq-eqb, eqb-true, true≢false}
use Rattle.std.proofs.lemmas.Bool.Decides.{same_from_decides}
use Rattle.std.proofs.lemmas.Option.{same_Some}
use Rattle.rec_model.proofs.Common.{target_of, named, Heap, Field, Object, object, field, born, register, with_register, with_field, with_object, without_registers, Sight, IsTaken, words_of, targets_of, word_at, Reaches, field_of, StandsBy, IsSound, sight_with_register, sight_with_word, sight_with_header, sight_without_registers}
use Rattle.rec_word.specs.Header.{is_leaf, label_of, IsHeaderOf}
use Rattle.rec_model.specs.declared.command.Cmd.{Cmd}
use Rattle.rec_model.specs.declared.command.Cmd.TheVariants as commands
use Rattle.rec_model.specs.declared.answer.Answer.{Answer}
use Rattle.rec_model.specs.declared.answer.Answer.TheVariants as answers
use Rattle.rec_model.specs.declared.told.Told.{Told}
use Rattle.rec_model.specs.Reach.IsReached.{root, child}
use Rattle.rec_model.specs.Asking.{allocation, Asked, asked, asks, answered, refused, AnswersAs, LeavesWord, IsTold, null_or_object, got, put, value, same, yes_or_no, is_done, refuses_new, plain, put_to, WritesLeaf}
use Rattle.rec_model.specs.Explained.{IsExplained, GoesOnBy, with_number}
use Rattle.rec_model.proofs.Leaving.{leave_stands}
use Rattle.rec_model.proofs.Names.{register_root, named_at}
use Rattle.rec_model.proofs.Words.{named-nulls, null_fields}
use Rattle.rec_model.proofs.Standing.{MayName, taken_is_other, reached_is_taken, register_stands, register_names, field_agrees, word_in, with_number-same, object_born, birth_stands, birth_numbers, write_stands}

-- where headers stay, the numbers stay
numbers_stay : (heap : Heap) (before after : Sight) (number : ℕ → ℕ) (next : ℕ) → after.headers ≡ before.headers → StandsBy heap after number → GoesOnBy heap before after number number next
numbers_stay heap before after number next same by =
    let header : (s : ℕ) → slice_index_or after.headers s 0 ≡ slice_index_or before.headers s 0 = λ s. ap (λ hs. slice_index_or hs s 0) same in
    record {
      stands = by;
      kept = λ s taken. (subst (λ n. 0 < n) (sym (header s)) taken, refl);
      born = λ s taken free. absurd (free (subst (λ n. 0 < n) (header s) taken));
    }

-- a register that is null, on both sides
null_register : (heap : Heap) (w : Sight) (number : ℕ → ℕ) (t r : ℕ) → StandsBy heap w number → register w.registers t r ≡ None → register heap.registers t r ≡ None
null_register heap w number t r by is = register_names heap w number t r by ∙ ap (option_map number) is

-- a register that names an object, on both sides
some_register : (heap : Heap) (w : Sight) (number : ℕ → ℕ) (t r slot : ℕ) → StandsBy heap w number → register w.registers t r ≡ Some slot → register heap.registers t r ≡ Some (number slot)
some_register heap w number t r slot by is = register_names heap w number t r by ∙ ap (option_map number) is

-- what was told is what asking gives, where asking gives this and headers stay
told_by : (w : Sight) (heap : Heap) (number : ℕ → ℕ) (t : ℕ) (cmd : Cmd) (told : Told) (next : Asked) (after : Sight) → asked w.fields heap t cmd told ≡ next
    → AnswersAs cmd next.answer told.answer → told.saw ≡ next.saw → LeavesWord heap t cmd told → (told.answer ≡ answers.NoField → WritesLeaf heap t cmd) → after.headers ≡ w.headers → StandsBy next.heap after number
    → IsTold w.fields heap t cmd told × ((later : ℕ → ℕ) × GoesOnBy (asked w.fields heap t cmd told).heap w after number later (length heap.objects))
told_by w heap number t cmd told next after is answer saw left no_field same by = (
  record {
    answer = subst (λ (x : Asked). AnswersAs cmd x.answer told.answer) (sym is) answer;
    saw = saw ∙ ap (λ (x : Asked). x.saw) (sym is);
    left = left;
    no_field = no_field;
  },
  (number, numbers_stay (asked w.fields heap t cmd told).heap w after number (length heap.objects) same (subst (λ (x : Asked). StandsBy x.heap after number) (sym is) by)),
)

-- a register that becomes null
pub null_explained : (w : Sight) (t reg : ℕ) → IsExplained w t (commands.Null reg) (plain answers.Done) (sight_with_register w t reg None)
null_explained w t reg heap number by =
    told_by w heap number t (commands.Null reg) (plain answers.Done) (answered (with_register heap t reg None) answers.Done 0) (sight_with_register w t reg None) refl refl refl refl (λ is. cc) refl
    (register_stands heap w number t reg None (λ n is. cc) by)

-- a register that becomes what another is
pub copy_explained : (w : Sight) (t dst src : ℕ) → IsExplained w t (commands.Copy dst src) (plain answers.Done) (sight_with_register w t dst (register w.registers t src))
copy_explained w t dst src heap number by =
    let named : Option ℕ = register w.registers t src in
    let become : Option ℕ → Asked = λ x. answered (with_register heap t dst x) answers.Done 0 in
    told_by w heap number t (commands.Copy dst src) (plain answers.Done) (become (option_map number named)) (sight_with_register w t dst named)
    (ap become (register_names heap w number t src by)) refl refl refl (λ is. cc) refl
    (register_stands heap w number t dst named (λ n there. inl (root n (register_root w.registers t src n there))) by)

-- a read through a null register
pub get_of_null : (w : Sight) (t dst src f : ℕ) → register w.registers t src ≡ None → IsExplained w t (commands.Get dst src f) (plain answers.NoObject) w
get_of_null w t dst src f is heap number by =
    told_by w heap number t (commands.Get dst src f) (plain answers.NoObject) (answered heap answers.NoObject 0) w
    (ap (got heap t dst f) (null_register heap w number t src by is)) refl refl refl (λ is. cc) refl by

-- a read tells no lack of a field
finds_field : (x : Option ℕ) → null_or_object x ≡ answers.NoField → ⊥
finds_field None is = cc
finds_field (Some n) is = cc

-- a numbering keeps what is null null
null_or_object-map : (number : ℕ → ℕ) (x : Option ℕ) → null_or_object x ≡ null_or_object (option_map number x)
null_or_object-map number None = refl
null_or_object-map number (Some n) = refl

is_some-map : (number : ℕ → ℕ) (x : Option ℕ) → is_some x ≡ is_some (option_map number x)
is_some-map number None = refl
is_some-map number (Some n) = refl

-- what a field of what is reached names is reached
target_reached : (w : Sight) (slot f n : ℕ) → f < w.fields → Reaches w slot → target_of (word_at w slot f) ≡ Some n → Reaches w n
target_reached w slot f n in_range from is =
    child slot n from (named_at (map target_of (words_of w slot)) f n (get_or-map target_of (words_of w slot) f 0 ∙ ap target_of (word_in w slot f in_range) ∙ is))

-- a read of a field
pub get_explained : (w : Sight) (t dst src f slot : ℕ) → f < w.fields → register w.registers t src ≡ Some slot
    → IsExplained w t (commands.Get dst src f) (record { answer = null_or_object (target_of (word_at w slot f)); saw = word_at w slot f; left = 0 }) (sight_with_register w t dst (target_of (word_at w slot f)))
get_explained w t dst src f slot in_range is heap number by =
    let word : ℕ = word_at w slot f in
    let from : Reaches w slot = root slot (register_root w.registers t src slot is) in
    let read : Field → Asked = λ x. answered (with_register heap t dst x.target) (null_or_object x.target) x.word in
    told_by w heap number t (commands.Get dst src f) (record { answer = null_or_object (target_of word); saw = word; left = 0 }) (read (field_of number word)) (sight_with_register w t dst (target_of word))
    (ap (got heap t dst f) (some_register heap w number t src slot by is) ∙ ap read (field_agrees heap w number slot f by from in_range))
    (null_or_object-map number (target_of word)) refl refl (λ is. absurd (finds_field (target_of word) is)) refl
    (register_stands heap w number t dst (target_of word) (λ n there. inl (target_reached w slot f n in_range from there)) by)

-- a write through a null register
pub put_of_null : (w : Sight) (t src f val : ℕ) → register w.registers t src ≡ None → IsExplained w t (commands.Put src f val) (plain answers.NoObject) w
put_of_null w t src f val is heap number by =
    told_by w heap number t (commands.Put src f val) (plain answers.NoObject) (answered heap answers.NoObject 0) w
    (ap (put heap f (register heap.registers t val) false 0) (null_register heap w number t src by is)) refl refl refl (λ is. cc) refl by

-- a write that finds no room in the log
pub put_refused : (w : Sight) (t src f val slot : ℕ) → register w.registers t src ≡ Some slot → IsExplained w t (commands.Put src f val) (plain answers.LogFull) w
put_refused w t src f val slot is heap number by =
    told_by w heap number t (commands.Put src f val) (plain answers.LogFull) (refused heap) w
    (ap (put heap f (register heap.registers t val) false 0) (some_register heap w number t src slot by is)) refl refl refl (λ is. cc) refl by

-- a write into a leaf
pub put_into_leaf : (w : Sight) (t src f val slot : ℕ) → IsSound w → register w.registers t src ≡ Some slot → is_leaf (slice_index_or w.headers slot 0) ≡ true → IsExplained w t (commands.Put src f val) (plain answers.NoField) w
put_into_leaf w t src f val slot sound is marked heap number by =
    let taken : IsTaken w slot = sound.registers slot (register_root w.registers t src slot is) in
    let leaf : (object heap (number slot)).leaf ≡ true = sym (by.header slot taken).leaf ∙ marked in
    told_by w heap number t (commands.Put src f val) (plain answers.NoField) (refused heap) w
    (ap (put heap f (register heap.registers t val) false 0) (some_register heap w number t src slot by is)) refl refl refl (λ told. (number slot, some_register heap w number t src slot by is, leaf)) refl by

-- a write of a field
pub put_explained : (w : Sight) (t src f val slot word : ℕ) → IsSound w → f < w.fields → register w.registers t src ≡ Some slot → is_leaf (slice_index_or w.headers slot 0) ≡ false → target_of word ≡ register w.registers t val
    → IsExplained w t (commands.Put src f val) (record { answer = answers.Done; saw = word_at w slot f; left = word }) (sight_with_word w slot f word)
put_explained w t src f val slot word sound in_range is unmarked names heap number by =
    let from : Reaches w slot = root slot (register_root w.registers t src slot is) in
    let target : register heap.registers t val ≡ option_map number (target_of word) = register_names heap w number t val by ∙ ap (option_map number) (sym names) in
    let unmarked_there : (object heap (number slot)).leaf ≡ false = sym (by.header slot (reached_is_taken w sound slot from)).leaf ∙ unmarked in
    let write : Option ℕ → Asked = λ x. answered (with_field heap (number slot) f (record { target = x; word = word })) answers.Done (field heap (number slot) f).word in
    told_by w heap number t (commands.Put src f val) (record { answer = answers.Done; saw = word_at w slot f; left = word }) (write (option_map number (target_of word))) (sight_with_word w slot f word)
    (ap (put heap f (register heap.registers t val) true word) (some_register heap w number t src slot by is) ∙ ap (λ b. put_to heap (number slot) f (register heap.registers t val) word (not b)) unmarked_there ∙ ap write target)
    refl
    (sym (ap (λ (x : Field). x.word) (field_agrees heap w number slot f by from in_range)))
    (is_some-map number (target_of word) ∙ ap is_some (sym target))
    (λ told. cc)
    refl
    (write_stands heap w number slot f word sound in_range from (λ n there. root n (register_root w.registers t val n (sym names ∙ there))) by)

-- what an allocation that is made leaves
bears : (fields : ℕ) (heap : Heap) (t reg label : ℕ) (leaf : Bool)
    → (asked fields heap t (allocation leaf reg label) (plain answers.Done)).heap ≡ with_register (with_object heap (born leaf fields label)) t reg (Some (length heap.objects))
bears fields heap t reg label true = refl
bears fields heap t reg label false = refl

-- and that it is made is what asking gives
bears_told : (fields : ℕ) (heap : Heap) (t reg label : ℕ) (leaf : Bool) → IsTold fields heap t (allocation leaf reg label) (plain answers.Done)
bears_told fields heap t reg label true = record { answer = refl; saw = refl; left = refl; no_field = λ is. cc }
bears_told fields heap t reg label false = record { answer = refl; saw = refl; left = refl; no_field = λ is. cc }

-- a birth in a free slot
pub birth_explained : (w : Sight) (t reg label slot header : ℕ) (leaf : Bool) → IsSound w → slot < length w.headers → slice_index_or w.headers slot 0 ≡ 0 → IsHeaderOf leaf label header
    → IsExplained w t (allocation leaf reg label) (plain answers.Done) (sight_with_register (sight_with_header w slot header) t reg (Some slot))
birth_explained w t reg label slot header leaf sound in_range free its heap number by =
    let next : ℕ → ℕ = with_number number slot (length heap.objects) in
    let grown : Heap = with_object heap (born leaf w.fields label) in
    let after : Sight = sight_with_header w slot header in
    let is : next slot ≡ length heap.objects = with_number-same number slot (length heap.objects) in
    let nulls : words_of w slot ≡ replicate w.fields 0 = sound.free slot in_range (λ taken. taken_is_other w slot slot free taken refl) in
    let fields : (object grown (next slot)).fields ≡ map (field_of next) (words_of after slot)
    = ap (λ n. (object grown n).fields) is ∙ ap (λ (x : Object). x.fields) (object_born heap (born leaf w.fields label)) ∙ null_fields next w.fields ∙ ap (map (field_of next)) (sym nulls) in
    let none : targets_of after slot ≡ [] = ap (λ ws. named (map target_of ws)) nulls ∙ named-nulls w.fields in
    let may : MayName grown after next (Some slot) = λ n there. inr (subst (λ s. ((object grown (next s)).fields ≡ map (field_of next) (words_of after s)) × (targets_of after s ≡ [])) (same_Some slot n there) (fields, none)) in (
      bears_told w.fields heap t reg label leaf,
      (
        next,
        birth_numbers (asked w.fields heap t (allocation leaf reg label) (plain answers.Done)).heap w number slot header (length heap.objects) t reg (Some slot) free
            (subst (λ (h : Heap). StandsBy h (sight_with_register after t reg (Some slot)) next) (sym (bears w.fields heap t reg label leaf))
            (subst (λ n. StandsBy (with_register grown t reg (Some n)) (sight_with_register after t reg (Some slot)) next) is
            (register_stands grown after next t reg (Some slot) may (birth_stands heap w number leaf slot label header sound in_range free its by)))),
      ),
    )

-- an allocation that is refused
pub birth_refused : (w : Sight) (t reg label : ℕ) (leaf : Bool) (answer : Answer) → refuses_new answer ≡ true → is_done answer ≡ false → IsExplained w t (allocation leaf reg label) (plain answer) w
birth_refused w t reg label true answer refuses undone heap number by =
    told_by w heap number t (commands.Leaf reg label) (plain answer) (refused heap) w
    (ap (λ made. asks w.fields heap t (commands.Leaf reg label) made 0) undone) refuses refl refl (λ is. absurd (true≢false (sym refuses ∙ ap refuses_new is))) refl by
birth_refused w t reg label false answer refuses undone heap number by =
    told_by w heap number t (commands.New reg label) (plain answer) (refused heap) w
    (ap (λ made. asks w.fields heap t (commands.New reg label) made 0) undone) refuses refl refl (λ is. absurd (true≢false (sym refuses ∙ ap refuses_new is))) refl by

-- the label of a null register
pub value_of_null : (w : Sight) (t reg : ℕ) → register w.registers t reg ≡ None → IsExplained w t (commands.Value reg) (plain answers.NoObject) w
value_of_null w t reg is heap number by =
    told_by w heap number t (commands.Value reg) (plain answers.NoObject) (answered heap answers.NoObject 0) w
    (ap (λ x. answered heap (value heap x) 0) (null_register heap w number t reg by is)) refl refl refl (λ is. cc) refl by

-- the label of an object
pub value_explained : (w : Sight) (t reg slot : ℕ) → IsSound w → register w.registers t reg ≡ Some slot
    → IsExplained w t (commands.Value reg) (plain (answers.Value (label_of (slice_index_or w.headers slot 0)))) w
value_explained w t reg slot sound is heap number by =
    let from : Reaches w slot = root slot (register_root w.registers t reg slot is) in
    let its : IsHeaderOf (object heap (number slot)).leaf (object heap (number slot)).label (slice_index_or w.headers slot 0) = by.header slot (reached_is_taken w sound slot from) in
    let same : label_of (slice_index_or w.headers slot 0) ≡ (object heap (number slot)).label = omega (arith, its.label) in
    told_by w heap number t (commands.Value reg) (plain (answers.Value (label_of (slice_index_or w.headers slot 0)))) (answered heap (answers.Value (object heap (number slot)).label) 0) w
    (ap (λ x. answered heap (value heap x) 0) (some_register heap w number t reg slot by is)) (ap answers.Value same) refl refl (λ is. cc) refl by

-- the numbering keeps apart what two registers name
same_numbered : (heap : Heap) (w : Sight) (number : ℕ → ℕ) (t a b : ℕ) (x y : Option ℕ) → IsSound w → StandsBy heap w number
    → register w.registers t a ≡ x → register w.registers t b ≡ y → same x y ≡ same (option_map number x) (option_map number y)
same_numbered heap w number t a b None None sound by x-is y-is = refl
same_numbered heap w number t a b None (Some n) sound by x-is y-is = refl
same_numbered heap w number t a b (Some m) None sound by x-is y-is = refl
same_numbered heap w number t a b (Some m) (Some n) sound by x-is y-is =
    let taken-m = sound.registers m (register_root w.registers t a m x-is) in
    let taken-n = sound.registers n (register_root w.registers t b n y-is) in
    same_from_decides (m == n) (number m == number n) (eqb-true m n, eq-eqb m n)
    (λ is. by.one_to_one m n taken-m taken-n (eqb-true (number m) (number n) is), λ is. eq-eqb (number m) (number n) (ap number is))

-- a comparison tells no lack of a field
compares : (b : Bool) → yes_or_no b ≡ answers.NoField → ⊥
compares true is = cc
compares false is = cc

-- a comparison of two registers
pub same_explained : (w : Sight) (t a b : ℕ) → IsSound w
    → IsExplained w t (commands.Same a b) (plain (yes_or_no (same (register w.registers t a) (register w.registers t b)))) w
same_explained w t a b sound heap number by =
    let x : Option ℕ = register w.registers t a in
    let y : Option ℕ = register w.registers t b in
    let tell : Option ℕ → Option ℕ → Asked = λ m n. answered heap (yes_or_no (same m n)) 0 in
    told_by w heap number t (commands.Same a b) (plain (yes_or_no (same x y))) (tell (option_map number x) (option_map number y)) w
    (ap (λ m. tell m (register heap.registers t b)) (register_names heap w number t a by) ∙ ap (tell (option_map number x)) (register_names heap w number t b by))
    (ap yes_or_no (same_numbered heap w number t a b x y sound by refl refl)) refl refl (λ is. absurd (compares (same x y) is)) refl by

-- a mutator that leaves
pub leave_explained : (w : Sight) (t : ℕ) → IsExplained w t commands.Leave (plain answers.Done) (sight_without_registers w t)
leave_explained w t heap number by =
    told_by w heap number t commands.Leave (plain answers.Done) (answered (without_registers heap t) answers.Done 0) (sight_without_registers w t) refl refl refl refl (λ is. cc) refl
    (leave_stands heap w number t by)

-- one that doesn't leave yet
pub leave_refused : (w : Sight) (t : ℕ) → IsExplained w t commands.Leave (plain answers.NotYet) w
leave_refused w t heap number by = told_by w heap number t commands.Leave (plain answers.NotYet) (refused heap) w refl refl refl refl (λ is. cc) refl by

-- a mutator that parks or goes on behind that: the heap stays
pub park_explained : (w : Sight) (t : ℕ) → IsExplained w t commands.Park (plain answers.Done) w
park_explained w t heap number by = told_by w heap number t commands.Park (plain answers.Done) (answered heap answers.Done 0) w refl refl refl refl (λ is. cc) refl by

pub unpark_explained : (w : Sight) (t : ℕ) → IsExplained w t commands.Unpark (plain answers.Done) w
unpark_explained w t heap number by = told_by w heap number t commands.Unpark (plain answers.Done) (answered heap answers.Done 0) w refl refl refl refl (λ is. cc) refl by

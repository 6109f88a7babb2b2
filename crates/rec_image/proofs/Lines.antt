-- Reading a line at the front: where it is found, and where none is.
use Rattle.std.proofs.Common.{Result, Ok, Err, ◌≡◌, ℕ, zero, suc, ◌+◌, ◌<◌, ◌≤◌, List, [], ◌∷◌, ◌++◌, Option, None, Some, All, length, get_or, drop, refl, sym, ap, subst, ◌∙◌, arith, length-append, append_assoc, append-nil}
use Rattle.std.specs.Prelude.{codes, IfNone, IfOk, IfSome}
use Rattle.std.specs.Fmt.{decimal}
use Rattle.std.specs.List.{flat_map}
use Rattle.std.proofs.lemmas.Grind.{flat_map-append}
use Rattle.std.proofs.lemmas.List.{drop_more}
use Rattle.std.proofs.lemmas.List.Elements.{All-push, All-get_or}
use Rattle.rec_model.specs.Reach.{named}
use Rattle.rec_model.specs.declared.limits.TheConstants.{MOST_FIELDS, MOST_MUTATORS, MOST_REGISTERS, MOST_SLOTS}
use Rattle.rec_report.specs.Text.{line_feed}
use Rattle.rec_image.specs.declared.meeting.Meeting.{Meeting}
use Rattle.rec_io.specs.Text.{EndsNumeral}
use Rattle.rec_image.specs.Drafts.{AreRead, AreRegistersRead, AreUnread, meets, meets_all}
use Rattle.rec_image.specs.Image.{AreRegisters, IsOneOf, IsSized, heap_line, registers_line, word}
use Rattle.rec_image.proofs.Prefixes.{words_end, feed_ends}
use Rattle.rec_model.proofs.Named.{named-append}

-- i of the words are read
pub record AreReading (count slots i : ℕ) (bytes rest : List ℕ) (before after : List (Option ℕ)) (met now : Meeting) : Type 0 where
  pub words : List (Option ℕ)
  pub number : length words ≡ i
  pub places : All (IsOneOf slots) words
  pub line : bytes ≡ flat_map word words ++ rest
  pub more : after ≡ before ++ words
  pub meeting : now ≡ meets_all met (named words)
  pub left : (own : List (Option ℕ)) (t : List ℕ) → length own ≡ count → All (IsOneOf slots) own → bytes ≡ flat_map word own ++ 10 ∷ t → rest ≡ flat_map word (drop i own) ++ 10 ∷ t

pub meets-append : (m : Meeting) (xs ys : List ℕ) → meets_all m (xs ++ ys) ≡ meets_all (meets_all m xs) ys
meets-append m [] ys = refl
meets-append m (x ∷ xs) ys = meets-append (meets m x) xs ys

-- the words that are left begin with the next one
next_left : (slots i : ℕ) (own : List (Option ℕ)) (t rest : List ℕ) → i < length own → All (IsOneOf slots) own → rest ≡ flat_map word (drop i own) ++ 10 ∷ t
    → IsOneOf slots (get_or own i None) × EndsNumeral (flat_map word (drop (i + 1) own) ++ 10 ∷ t) × (rest ≡ word (get_or own i None) ++ (flat_map word (drop (i + 1) own) ++ 10 ∷ t))
next_left slots i own t rest within places e = (
  All-get_or (IsOneOf slots) own i None within places,
  words_end (drop (i + 1) own) (10 ∷ t) (feed_ends t),
  e ∙ ap (λ (xs : List (Option ℕ)). flat_map word xs ++ 10 ∷ t) (drop_more own i None within) ∙ append_assoc (word (get_or own i None)) (flat_map word (drop (i + 1) own)) (10 ∷ t),
)

pub reading_next : (count slots i : ℕ) (bytes rest behind : List ℕ) (before after more : List (Option ℕ)) (met now later : Meeting) (x : Option ℕ) → i < count → AreReading count slots i bytes rest before after met now
    → rest ≡ word x ++ behind → IsOneOf slots x → ((y : Option ℕ) (t : List ℕ) → IsOneOf slots y → EndsNumeral t → rest ≡ word y ++ t → (y ≡ x) × (t ≡ behind))
    → more ≡ after ++ x ∷ [] → later ≡ meets_all now (named (x ∷ [])) → AreReading count slots (i + 1) bytes behind before more met later
reading_next count slots i bytes rest behind before after more met now later x within so e place only added met_now = record {
  words = so.words ++ x ∷ [];
  number = omega (arith, length-append so.words (x ∷ []), so.number);
  places = All-push (IsOneOf slots) so.words x so.places place;
  line = so.line ∙ ap (λ (bs : List ℕ). flat_map word so.words ++ bs) e
      ∙ sym (append_assoc (flat_map word so.words) (word x) behind)
      ∙ ap (λ (bs : List ℕ). (flat_map word so.words ++ bs) ++ behind) (sym (append-nil (word x)))
      ∙ ap (λ (bs : List ℕ). bs ++ behind) (sym (flat_map-append word so.words (x ∷ [])));
  more = added ∙ ap (λ (xs : List (Option ℕ)). xs ++ x ∷ []) so.more ∙ append_assoc before so.words (x ∷ []);
  meeting = met_now ∙ ap (λ (m : Meeting). meets_all m (named (x ∷ []))) so.meeting ∙ sym (meets-append met (named so.words) (named (x ∷ []))) ∙ ap (meets_all met) (sym (named-append so.words (x ∷ [])));
  left = λ own t size places is.
      let next = next_left slots i own t rest (omega arith) places (so.left own t size places is) in
      sym (only (get_or own i None) (flat_map word (drop (i + 1) own) ++ 10 ∷ t) next.0 next.1 next.2).1;
}

pub no_next : (count slots i : ℕ) (bytes rest : List ℕ) (before after : List (Option ℕ)) (met now : Meeting) → i < count → AreReading count slots i bytes rest before after met now → ((y : Option ℕ) (t : List ℕ) → IsOneOf slots y → EndsNumeral t → rest ≡ word y ++ t → ⊥) → AreUnread count slots bytes
no_next count slots i bytes rest before after met now within so none = λ own t size places e.
    let next = next_left slots i own t rest (omega arith) places (so.left own t size places e) in
    none (get_or own i None) (flat_map word (drop (i + 1) own) ++ 10 ∷ t) next.0 next.1 next.2

pub no_feed : (count slots i : ℕ) (bytes rest : List ℕ) (before after : List (Option ℕ)) (met now : Meeting) → i ≡ count → AreReading count slots i bytes rest before after met now → ((t : List ℕ) → rest ≡ 10 ∷ t → ⊥) → AreUnread count slots bytes
no_feed count slots i bytes rest before after met now all so none = λ own t size places e.
    none t (so.left own t size places e ∙ ap (λ (xs : List (Option ℕ)). flat_map word xs ++ 10 ∷ t) (all_dropped own i (omega arith)))
  where
    all_dropped : (xs : List (Option ℕ)) (k : ℕ) → length xs ≤ k → drop k xs ≡ []
    all_dropped [] zero h = refl
    all_dropped [] (suc k) h = refl
    all_dropped (x ∷ xs) zero h = absurd (omega arith)
    all_dropped (x ∷ xs) (suc k) h = all_dropped xs k (omega arith)

-- ---- the line of a mutator
registers_cut : (own : List (Option ℕ)) (t : List ℕ) → registers_line own ++ t ≡ codes "registers" ++ (flat_map word own ++ 10 ∷ t)
registers_cut own t = ap (λ (bs : List ℕ). codes "registers" ++ bs) (append_assoc (flat_map word own) line_feed t)

pub registers_found : {X E : Type 0} (r : Result (Option X) E) (now : X → List ℕ) (slots registers : ℕ) (bytes rest : List ℕ) (before after : List (Option ℕ)) (met later : Meeting) → bytes ≡ codes "registers" ++ rest
    → IfOk r (λ found. IfSome found (λ x. AreRead registers slots rest (now x) before after met later)) → IfOk r (λ found. IfSome found (λ x. AreRegistersRead slots registers bytes (now x) before after met later))
registers_found (Err e) now slots registers bytes rest before after met later e' read = tt
registers_found (Ok None) now slots registers bytes rest before after met later e read = tt
registers_found (Ok (Some x)) now slots registers bytes rest before after met later e read = record {
  own = read.words;
  are = record { number = read.number; places = read.places };
  line = e ∙ ap (λ (bs : List ℕ). codes "registers" ++ bs) read.line ∙ sym (registers_cut read.words (now x));
  more = read.more;
  meeting = read.meeting;
}

pub registers_none : {X E : Type 0} (r : Result (Option X) E) (slots registers : ℕ) (bytes rest : List ℕ) → bytes ≡ codes "registers" ++ rest
    → IfOk r (λ found. IfNone found (AreUnread registers slots rest)) → IfOk r (λ found. IfNone found ((own : List (Option ℕ)) (t : List ℕ) → AreRegisters slots registers own → bytes ≡ registers_line own ++ t → ⊥))
registers_none (Err e) slots registers bytes rest e' none = tt
registers_none (Ok (Some x)) slots registers bytes rest e none = tt
registers_none (Ok None) slots registers bytes rest e none = λ own t are is. none own t are.number are.places (ap (drop 9) (sym e ∙ is ∙ registers_cut own t))

-- ---- the line of the heap
heap_cut : (slots fields registers mutators : ℕ) (t : List ℕ)
    → heap_line slots fields registers mutators ++ t ≡ codes "heap " ++ (decimal slots ++ 32 ∷ (decimal fields ++ 32 ∷ (decimal registers ++ 32 ∷ (decimal mutators ++ 10 ∷ t))))
heap_cut slots fields registers mutators t =
    let last : List ℕ = decimal mutators ++ line_feed in
    ap (λ (bs : List ℕ). codes "heap " ++ bs) (append_assoc (decimal slots) (32 ∷ (decimal fields ++ 32 ∷ (decimal registers ++ 32 ∷ last))) t
    ∙ ap (λ (bs : List ℕ). decimal slots ++ 32 ∷ bs) (append_assoc (decimal fields) (32 ∷ (decimal registers ++ 32 ∷ last)) t
    ∙ ap (λ (bs : List ℕ). decimal fields ++ 32 ∷ bs) (append_assoc (decimal registers) (32 ∷ last) t
    ∙ ap (λ (bs : List ℕ). decimal registers ++ 32 ∷ bs) (append_assoc (decimal mutators) line_feed t))))

pub heap_found : (slots fields registers mutators : ℕ) (bytes one two three : List ℕ) → bytes ≡ codes "heap " ++ one → one ≡ decimal slots ++ 32 ∷ (decimal fields ++ 32 ∷ two)
    → two ≡ decimal registers ++ 32 ∷ (decimal mutators ++ 10 ∷ three) → bytes ≡ heap_line slots fields registers mutators ++ three
heap_found slots fields registers mutators bytes one two three a b c =
    a ∙ ap (λ (bs : List ℕ). codes "heap " ++ bs) (b ∙ ap (λ (bs : List ℕ). decimal slots ++ 32 ∷ (decimal fields ++ 32 ∷ bs)) c) ∙ sym (heap_cut slots fields registers mutators three)

pub heap_sized : (slots fields registers mutators most : ℕ) → most ≡ MOST_MUTATORS → (1 ≤ slots) × (slots ≤ MOST_SLOTS) × (1 ≤ fields) × (fields ≤ MOST_FIELDS)
    → (1 ≤ registers) × (registers ≤ MOST_REGISTERS) × (1 ≤ mutators) × (mutators ≤ most) → IsSized slots fields registers mutators
heap_sized slots fields registers mutators most is front back = record {
  heap = record { some_slots = front.0; most_slots = front.1; some_fields = front.2; most_fields = front.3; some_registers = back.0; most_registers = back.1 };
  some_mutators = back.2;
  most_mutators = subst (λ (n : ℕ). mutators ≤ n) is back.3;
}

abbrev NoHeap : List ℕ → Type 0
NoHeap bytes = (slots fields registers mutators : ℕ) (t : List ℕ) → IsSized slots fields registers mutators → bytes ≡ heap_line slots fields registers mutators ++ t → ⊥

pub no_heap : {X : Type 0} (r : Option X) (bytes : List ℕ) → r ≡ None → ((t : List ℕ) → bytes ≡ codes "heap " ++ t → ⊥) → IfNone r (NoHeap bytes)
no_heap {X} r bytes is none = subst (λ (x : Option X). IfNone x (NoHeap bytes)) (sym is) (λ slots fields registers mutators t sized e. none (drop 5 (heap_line slots fields registers mutators ++ t)) e)

pub no_heap_sizes : {X : Type 0} (r : Option X) (bytes one : List ℕ) → r ≡ None → bytes ≡ codes "heap " ++ one
    → ((m n : ℕ) (t : List ℕ) → 1 ≤ m → m ≤ MOST_SLOTS → 1 ≤ n → n ≤ MOST_FIELDS → one ≡ decimal m ++ 32 ∷ (decimal n ++ 32 ∷ t) → ⊥) → IfNone r (NoHeap bytes)
no_heap_sizes {X} r bytes one is front none = subst (λ (x : Option X). IfNone x (NoHeap bytes)) (sym is) (λ slots fields registers mutators t sized e.
    none slots fields (decimal registers ++ 32 ∷ (decimal mutators ++ 10 ∷ t)) sized.heap.some_slots sized.heap.most_slots sized.heap.some_fields sized.heap.most_fields
    (ap (drop 5) (sym front ∙ e ∙ heap_cut slots fields registers mutators t)))

pub no_heap_rest : {X : Type 0} (r : Option X) (first second most : ℕ) (bytes one two : List ℕ) → r ≡ None → bytes ≡ codes "heap " ++ one → most ≡ MOST_MUTATORS
    → ((m n : ℕ) (t : List ℕ) → 1 ≤ m → m ≤ MOST_SLOTS → 1 ≤ n → n ≤ MOST_FIELDS → one ≡ decimal m ++ 32 ∷ (decimal n ++ 32 ∷ t) → (m ≡ first) × (n ≡ second) × (t ≡ two))
    → ((m n : ℕ) (t : List ℕ) → 1 ≤ m → m ≤ MOST_REGISTERS → 1 ≤ n → n ≤ most → two ≡ decimal m ++ 32 ∷ (decimal n ++ 10 ∷ t) → ⊥) → IfNone r (NoHeap bytes)
no_heap_rest {X} r first second most bytes one two is front greatest only none = subst (λ (x : Option X). IfNone x (NoHeap bytes)) (sym is) (λ slots fields registers mutators t sized e.
    let rest : decimal registers ++ 32 ∷ (decimal mutators ++ 10 ∷ t) ≡ two
    = (only slots fields (decimal registers ++ 32 ∷ (decimal mutators ++ 10 ∷ t)) sized.heap.some_slots sized.heap.most_slots sized.heap.some_fields sized.heap.most_fields
    (ap (drop 5) (sym front ∙ e ∙ heap_cut slots fields registers mutators t))).2 in
    none registers mutators t sized.heap.some_registers sized.heap.most_registers sized.some_mutators (subst (λ (n : ℕ). mutators ≤ n) (sym greatest) sized.most_mutators) (sym rest))

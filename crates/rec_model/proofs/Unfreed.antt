-- The unfreed objects: how many there are, and which they are after a command and after a slot is freed.
use Rattle.std.proofs.Common.{◌≡◌, ◌≢◌, ◌⊎◌, inl, inr, ℕ, ◌+◌, ◌<◌, ◌≤◌, ◌==◌, zero, suc, List, [], ◌∷◌, ◌++◌, true, false, if◌then◌else◌, filter, not, slice_index_or, slice_set, length, refl, sym, ap, subst, ◌∙◌, arith}
use Rattle.std.proofs.lemmas.Bool.{cases_Bool, cases_lt, false≢true}
use Rattle.std.proofs.lemmas.List.{get_or_past, get_or-set_same, get_or-set_other}
use Rattle.rec_model.proofs.Common.{is_in, IsDistinct, Heap, Sight, IsTaken, StandsBy}
use Rattle.rec_model.specs.declared.command.Cmd.{Cmd}
use Rattle.rec_model.specs.declared.told.Told.{Told}
use Rattle.rec_model.specs.Asking.{asked}
use Rattle.rec_model.specs.Explained.{GoesOnBy}
use Rattle.rec_model.specs.LegalOrder.{is_birth}
use Rattle.rec_model.specs.Unfreed.{AreUnfreed}
use Rattle.rec_model.proofs.Births.{births}
use Rattle.rec_model.proofs.Members.{is_in-left, is_in-right, is_in-head, is_in-tail, is_in-cases, is_in-cons, IsDistinct-push, distinct_below, distinct_within, is_in-without, without-is_in, IsDistinct-without}

-- a slot is taken, or isn't
pub taken_or_free : (w : Sight) (s : ℕ) → IsTaken w s ⊎ (IsTaken w s → ⊥)
taken_or_free w s = elim (cases_lt 0 (slice_index_or w.headers s 0)) [ inl taken ↦ inl taken | inr none ↦ inr (λ taken. omega arith) ]

-- a taken slot is one of the slots
pub taken_within : (w : Sight) (s : ℕ) → IsTaken w s → s < length w.headers
taken_within w s taken = elim (cases_lt s (length w.headers)) [
  | inl there ↦ there
  | inr past ↦ absurd (let none : slice_index_or w.headers s 0 ≡ 0 = get_or_past w.headers s 0 past in omega arith)
]

-- the slots of some objects, each in one of its own
record AreSlotsOf (w : Sight) (number : ℕ → ℕ) (ns slots : List ℕ) : Type 0 where
  as_many : length slots ≡ length ns
  apart : IsDistinct slots
  holds : (s : ℕ) → is_in s slots ≡ true → IsTaken w s × (is_in (number s) ns ≡ true)

slots_of : (w : Sight) (number : ℕ → ℕ) (ns : List ℕ) → IsDistinct ns → ((n : ℕ) → is_in n ns ≡ true → (s : ℕ) × IsTaken w s × (number s ≡ n)) → (slots : List ℕ) × AreSlotsOf w number ns slots
slots_of w number [] d taken = ([], record { as_many = refl; apart = tt; holds = λ s there. absurd (false≢true there) })
slots_of w number (n ∷ ns) d taken =
    let (slots, so) = slots_of w number ns d.1 (λ m there. taken m (is_in-tail m n ns there)) in
    let (s, s_taken, s_is) = taken n (is_in-head n ns) in (
      s ∷ slots,
      record {
        as_many = let many : length slots ≡ length ns = so.as_many in omega arith;
        apart = (
          elim (cases_Bool (is_in s slots)) [
            | inr none ↦ none
            | inl there ↦ absurd (false≢true (sym d.0 ∙ ap (λ m. is_in m ns) (sym s_is) ∙ (so.holds s there).1))
          ],
          so.apart,
        );
        holds = λ r there. elim (is_in-cons r s slots there) [
          | inl is ↦ (
            subst (IsTaken w) is s_taken,
            subst (λ m. is_in m (n ∷ ns) ≡ true) (sym s_is ∙ ap number is) (is_in-head n ns),
          )
          | inr later ↦ ((so.holds r later).0, is_in-tail (number r) n ns (so.holds r later).1)
        ];
      },
    )

-- Where some slot isn't taken, fewer objects than slots are unfreed.
pub fewer_unfreed : (w : Sight) (number : ℕ → ℕ) (unfreed : List ℕ) (slot : ℕ) → slot < length w.headers → (IsTaken w slot → ⊥) → AreUnfreed w number unfreed → length unfreed < length w.headers
fewer_unfreed w number unfreed slot in_range open_slot are =
    let (slots, so) = slots_of w number unfreed are.distinct are.taken in
    let many : length slots ≡ length unfreed = so.as_many in
    let apart : is_in slot slots ≡ false = elim (cases_Bool (is_in slot slots)) [ inr none ↦ none | inl there ↦ absurd (open_slot (so.holds slot there).0) ] in
    let below : (s : ℕ) → is_in s (slot ∷ slots) ≡ true → s < length w.headers = λ s there. elim (is_in-cons s slot slots there) [
      | inl is ↦ subst (λ n. n < length w.headers) is in_range
      | inr later ↦ taken_within w s (so.holds s later).0
    ] in
    let fit : length (slot ∷ slots) ≤ length w.headers = distinct_below (slot ∷ slots) (length w.headers) (apart, so.apart) below in
    omega arith

-- the objects of the first slots
record AreNumbersOf (number : ℕ → ℕ) (bound : ℕ) (ns : List ℕ) : Type 0 where
  as_many : length ns ≡ bound
  apart : IsDistinct ns
  named : (n : ℕ) → is_in n ns ≡ true → (s : ℕ) × (s < bound) × (number s ≡ n)

numbers_of : (w : Sight) (number : ℕ → ℕ) (bound : ℕ) → ((s : ℕ) → s < bound → IsTaken w s) → ((s t : ℕ) → IsTaken w s → IsTaken w t → number s ≡ number t → s ≡ t) → (ns : List ℕ) × AreNumbersOf number bound ns
numbers_of w number zero taken one_to_one = ([], record { as_many = refl; apart = tt; named = λ n there. absurd (false≢true there) })
numbers_of w number (suc bound) taken one_to_one =
    let (ns, so) = numbers_of w number bound (λ s below. taken s (omega arith)) one_to_one in (
      number bound ∷ ns,
      record {
        as_many = let many : length ns ≡ bound = so.as_many in omega arith;
        apart = (
          elim (cases_Bool (is_in (number bound) ns)) [
            | inr none ↦ none
            | inl there ↦
                let (s, below, is) = so.named (number bound) there in
                absurd (let same : s ≡ bound = one_to_one s bound (taken s (omega arith)) (taken bound (omega arith)) is in omega arith)
          ],
          so.apart,
        );
        named = λ n there. elim (is_in-cons n (number bound) ns there) [
          | inl is ↦ (bound, omega arith, is)
          | inr later ↦ let (s, below, is) = so.named n later in (s, omega arith, is)
        ];
      },
    )

-- no more objects than slots are unfreed
most_unfreed : (w : Sight) (number : ℕ → ℕ) (unfreed : List ℕ) → AreUnfreed w number unfreed → length unfreed ≤ length w.headers
most_unfreed w number unfreed are =
    let (slots, so) = slots_of w number unfreed are.distinct are.taken in
    let many : length slots ≡ length unfreed = so.as_many in
    let fit : length slots ≤ length w.headers = distinct_below slots (length w.headers) so.apart (λ s there. taken_within w s (so.holds s there).0) in
    omega arith

-- Where all slots are taken, as many objects as slots are unfreed.
pub all_unfreed : (heap : Heap) (w : Sight) (number : ℕ → ℕ) (unfreed : List ℕ) → StandsBy heap w number → ((s : ℕ) → s < length w.headers → IsTaken w s) → AreUnfreed w number unfreed → length unfreed ≡ length w.headers
all_unfreed heap w number unfreed stands taken are =
    let (ns, so) = numbers_of w number (length w.headers) taken stands.one_to_one in
    let many : length ns ≡ length w.headers = so.as_many in
    let least : length ns ≤ length unfreed = distinct_within ns unfreed so.apart (λ n there. let (s, below, is) = so.named n there in subst (λ m. is_in m unfreed ≡ true) is (are.there s (taken s below))) in
    let most : length unfreed ≤ length w.headers = most_unfreed w number unfreed are in
    omega arith

-- where nothing is born, the unfreed objects stay
unborn_stay : (heap : Heap) (before after : Sight) (number later : ℕ → ℕ) (next : ℕ) (unfreed : List ℕ) → length heap.objects ≡ next → GoesOnBy heap before after number later next
    → AreUnfreed before number unfreed → AreUnfreed after later unfreed
unborn_stay heap before after number later next unfreed none on are =
    record {
      distinct = are.distinct;
      there = λ s s_taken. elim (taken_or_free before s) [
        | inl old ↦ subst (λ n. is_in n unfreed ≡ true) (sym (on.kept s old).1) (are.there s old)
        | inr new ↦ absurd (
            let below : later s < length heap.objects = on.stands.there s s_taken in
            let is : later s ≡ next = on.born s s_taken new in
            omega arith)
      ];
      taken = λ n there. let (s, s_taken, is) = are.taken n there in (s, (on.kept s s_taken).0, (on.kept s s_taken).1 ∙ is);
    }

-- where an object is born, it joins them
born_joins : (heap : Heap) (before after : Sight) (number later : ℕ → ℕ) (next : ℕ) (unfreed : List ℕ) → ((s : ℕ) → IsTaken before s → number s < next) → GoesOnBy heap before after number later next
    → (s : ℕ) × IsTaken after s × (later s ≡ next) → AreUnfreed before number unfreed → AreUnfreed after later (unfreed ++ next ∷ [])
born_joins heap before after number later next unfreed below on (slot, slot_taken, slot_is) are =
    record {
      distinct = IsDistinct-push unfreed next are.distinct (elim (cases_Bool (is_in next unfreed)) [
        | inr none ↦ none
        | inl there ↦
            let (s, s_taken, is) = are.taken next there in
            absurd (let lower : number s < next = below s s_taken in omega arith)
      ]);
      there = λ s s_taken. elim (taken_or_free before s) [
        | inl old ↦ is_in-left (later s) unfreed (next ∷ []) (subst (λ n. is_in n unfreed ≡ true) (sym (on.kept s old).1) (are.there s old))
        | inr new ↦ is_in-right (later s) unfreed (next ∷ []) (subst (λ n. is_in n (next ∷ []) ≡ true) (sym (on.born s s_taken new)) (is_in-head next []))
      ];
      taken = λ n there. elim (is_in-cases n unfreed (next ∷ []) there) [
        | inl old ↦ let (s, s_taken, is) = are.taken n old in (s, (on.kept s s_taken).0, (on.kept s s_taken).1 ∙ is)
        | inr new ↦ elim (is_in-cons n next [] new) [
          | inl is ↦ (slot, slot_taken, slot_is ∙ is)
          | inr none ↦ absurd (false≢true none)
        ]
      ];
    }

-- After a command a birth joins the unfreed objects, and otherwise they stay, where the birth is in a slot.
pub unfreed_after : (fields : ℕ) (heap : Heap) (before after : Sight) (number later : ℕ → ℕ) (t : ℕ) (cmd : Cmd) (told : Told) (unfreed : List ℕ) → StandsBy heap before number
    → GoesOnBy (asked fields heap t cmd told).heap before after number later (length heap.objects)
    → (is_birth (cmd, told) ≡ true → (s : ℕ) × IsTaken after s × (later s ≡ length heap.objects))
    → AreUnfreed before number unfreed → AreUnfreed after later (if is_birth (cmd, told) then unfreed ++ length heap.objects ∷ [] else unfreed)
unfreed_after fields heap before after number later t cmd told unfreed by on in_slot are =
    let next : ℕ = length heap.objects in
    let grown : length (asked fields heap t cmd told).heap.objects ≡ next + (if is_birth (cmd, told) then 1 else 0) = births fields heap t cmd told in
    elim (is_birth (cmd, told)) as (λ b. is_birth (cmd, told) ≡ b → AreUnfreed after later (if b then unfreed ++ next ∷ [] else unfreed)) [
      | true ↦ λ birth. born_joins (asked fields heap t cmd told).heap before after number later next unfreed by.there on (in_slot birth) are
      | false ↦ λ birth.
          unborn_stay (asked fields heap t cmd told).heap before after number later next unfreed
          (let more : next + (if is_birth (cmd, told) then 1 else 0) ≡ next + 0 = ap (λ b. next + (if b then 1 else 0)) birth in omega arith) on are
    ] refl

-- After a slot is freed, its object isn't unfreed any more.
pub unfreed_after_free : (heap : Heap) (before after : Sight) (number : ℕ → ℕ) (slot : ℕ) (unfreed : List ℕ) → StandsBy heap before number → IsTaken before slot
    → after.headers ≡ slice_set before.headers slot 0 → AreUnfreed before number unfreed → AreUnfreed after number (filter (λ m. not (m == number slot)) unfreed)
unfreed_after_free heap before after number slot unfreed by slot_taken headers are =
    let there : slot < length before.headers = taken_within before slot slot_taken in
    let own : slice_index_or after.headers slot 0 ≡ 0 = ap (λ hs. slice_index_or hs slot 0) headers ∙ get_or-set_same before.headers slot 0 0 there in
    let rest : (s : ℕ) → s ≢ slot → slice_index_or after.headers s 0 ≡ slice_index_or before.headers s 0 = λ s other. ap (λ hs. slice_index_or hs s 0) headers ∙ get_or-set_other before.headers slot s 0 0 other in
    let apart : (s : ℕ) → IsTaken after s → s ≢ slot = λ s taken is. let same : slice_index_or after.headers s 0 ≡ slice_index_or after.headers slot 0 = ap (λ n. slice_index_or after.headers n 0) is in omega arith in
    record {
      distinct = IsDistinct-without (number slot) unfreed are.distinct;
      there = λ s taken.
          let old : IsTaken before s = subst (λ n. 0 < n) (rest s (apart s taken)) taken in
          without-is_in (number s) (number slot) unfreed (λ same. apart s taken (by.one_to_one s slot old slot_taken same)) (are.there s old);
      taken = λ n left.
          let (old, other) = is_in-without n (number slot) unfreed left in
          let (s, s_taken, is) = are.taken n old in
          (s, subst (λ n. 0 < n) (sym (rest s (λ same. other (sym is ∙ ap number same)))) s_taken, is);
    }

-- Where no header changes, the unfreed objects stay.
pub unfreed_same : (before after : Sight) (number : ℕ → ℕ) (unfreed : List ℕ) → after.headers ≡ before.headers → AreUnfreed before number unfreed → AreUnfreed after number unfreed
unfreed_same before after number unfreed headers are =
    record {
      distinct = are.distinct;
      there = λ s taken. are.there s (subst (λ hs. 0 < slice_index_or hs s 0) headers taken);
      taken = λ n there. let (s, taken, is) = are.taken n there in (s, subst (λ hs. 0 < slice_index_or hs s 0) (sym headers) taken, is);
    }

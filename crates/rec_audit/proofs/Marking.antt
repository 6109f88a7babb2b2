-- Marks: what one more leaves, and some more.
use Rattle.std.proofs.Common.{◌≡◌, ◌<◌, ◌≤◌, ◌+◌, ℕ, Bool, true, false, ◌||◌, ◌==◌, List, [], ◌∷◌, ◌++◌, length, get_or, set, take, replicate, refl, sym, ap, ◌∙◌, subst, arith, ⊎_elim, ◌⊎◌, length-set, append-nil, inl, inr, cond, not, filter}
use Rattle.std.specs.List.{range_with_len}
use Rattle.std.proofs.lemmas.List.FromFn.{map-range_with_len_more}
use Rattle.std.proofs.lemmas.List.Elements.{filter-append}
use Rattle.std.proofs.lemmas.Bool.{cases_eq, cases_lt, eq-eqb, ne_eqb, or_cases, false≢true}
use Rattle.std.proofs.lemmas.List.{length-replicate, map-id, take_more, get_or-take, get_or-set_same, get_or-set_other, take_at, take-take, take_all, get_or_past, get_or-replicate, length_push}
use Rattle.std.proofs.Math.Bool.{or_assoc, or-false, or-true}
use Rattle.rec_model.specs.Reach.{is_in, IsReached}
use Rattle.rec_model.specs.Reach.IsReached.{root, child}
use Rattle.rec_model.proofs.Numbered.{closed_has_reached}
use Rattle.rec_model.specs.Numbering.{IsDistinct}
use Rattle.rec_model.proofs.Members.{IsDistinct-push, distinct_below, is_in-cases, is_in-cons, is_in-append, is_in-at}
use Rattle.rec_audit.specs.declared.reach.Marks.{Marks}
use Rattle.rec_audit.specs.declared.references.Edge.{Edge}
use Rattle.rec_audit.specs.States.{IsMarking, MarksMore}
use Rattle.rec_audit.specs.Walks.{ArePruned, IsClosedTo, live_in}
use Rattle.rec_audit.proofs.Pruning.{pruned_none}

is_in-one : (n m : ℕ) → is_in n (m ∷ []) ≡ (m == n)
is_in-one n m = or-false (m == n)

-- there are no more marked slots than slots
pub few_marked : (m : Marks) → IsMarking m → length m.order.items ≤ length m.marked.items
few_marked m marking = distinct_below m.order.items (length m.marked.items) marking.distinct marking.within

-- no slot is marked
pub none_marked : (m : Marks) (n : ℕ) → m.marked.items ≡ replicate n false → m.order.items ≡ [] → IsMarking m
none_marked m n marked order =
    record {
      within = λ slot there. absurd (false≢true (sym (ap (is_in slot) order) ∙ there));
      listed = λ slot. ap (λ (t : List Bool). get_or t slot false) marked ∙ all slot ∙ sym (ap (is_in slot) order);
      distinct = subst IsDistinct (sym order) tt;
    }
  where
    all : (slot : ℕ) → get_or (replicate n false) slot false ≡ false
    all slot = ⊎_elim (λ lt. get_or-replicate n slot false false lt) (λ past. get_or_past (replicate n false) slot false (omega (arith, length-replicate n false))) (cases_lt slot n)

-- no more were
pub more_none : (m : Marks) → IsMarking m → MarksMore m m []
more_none m marking = record { marking = marking; size = refl; longer = omega arith; front = take_all (length m.order.items) m.order.items (omega arith); has = λ slot. sym (or-false (is_in slot m.order.items)) }

-- some more, and then some more
pub more_both : (l m n : Marks) (xs ys : List ℕ) → MarksMore l m xs → MarksMore m n ys → MarksMore l n (xs ++ ys)
more_both l m n xs ys left right =
    record {
      marking = right.marking;
      size = right.size ∙ left.size;
      longer = omega (arith, left.longer, right.longer);
      front =
          sym (take-take (length l.order.items) (length m.order.items) n.order.items left.longer)
          ∙ ap (take (length l.order.items)) right.front
          ∙ left.front;
      has = λ slot.
          right.has slot
          ∙ ap (λ b. b || is_in slot ys) (left.has slot)
          ∙ or_assoc (is_in slot l.order.items) (is_in slot xs) (is_in slot ys)
          ∙ ap (λ b. is_in slot l.order.items || b) (sym (is_in-append slot xs ys));
    }

-- a slot that is marked already
pub more_marked : (m : Marks) (slot : ℕ) → IsMarking m → get_or m.marked.items slot false ≡ true → MarksMore m m (slot ∷ [])
more_marked m slot marking marked =
    record {
      marking = marking;
      size = refl;
      longer = omega arith;
      front = take_all (length m.order.items) m.order.items (omega arith);
      has = λ other. ap (λ b. b) (has other);
    }
  where
    has : (other : ℕ) → is_in other m.order.items ≡ (is_in other m.order.items || is_in other (slot ∷ []))
    has other =
        elim (cases_eq slot other) [
          | inl same ↦
              let there : is_in other m.order.items ≡ true = ap (λ s. is_in s m.order.items) (sym same) ∙ sym (marking.listed slot) ∙ marked in
              there ∙ sym (ap (λ b. b || is_in other (slot ∷ [])) there)
          | inr apart ↦ sym (ap (λ b. is_in other m.order.items || b) (is_in-one other slot ∙ ne_eqb slot other apart) ∙ or-false (is_in other m.order.items))
        ]

-- and one that isn't
pub more_one : (m n : Marks) (slot : ℕ) → IsMarking m → slot < length m.marked.items → get_or m.marked.items slot false ≡ false → n.marked.items ≡ set m.marked.items slot true → n.order.items ≡ m.order.items ++ slot ∷ [] → MarksMore m n (slot ∷ [])
more_one m n slot marking within free marked order =
    record {
      marking = record {
        within = λ other there. subst (λ (k : ℕ). other < k) (sym size) (inside other (sym (ap (is_in other) order) ∙ there));
        listed = λ other. ap (λ (t : List Bool). get_or t other false) marked ∙ listed other ∙ sym (ap (is_in other) order);
        distinct = subst IsDistinct (sym order) (IsDistinct-push m.order.items slot marking.distinct (sym (marking.listed slot) ∙ free));
      };
      size = size;
      longer = omega (arith, ap (length {A = ℕ}) order, length_push m.order.items slot);
      front = ap (take (length m.order.items)) order ∙ take_at m.order.items (slot ∷ []) (length m.order.items) refl;
      has = λ other. ap (is_in other) order ∙ is_in-append other m.order.items (slot ∷ []);
    }
  where
    size : length n.marked.items ≡ length m.marked.items
    size = ap (length {A = Bool}) marked ∙ length-set m.marked.items slot true

    inside : (other : ℕ) → is_in other (m.order.items ++ slot ∷ []) ≡ true → other < length m.marked.items
    inside other there =
        elim (is_in-cases other m.order.items (slot ∷ []) there) [
          | inl old ↦ marking.within other old
          | inr new ↦ elim (is_in-cons other slot [] new) [ inl same ↦ subst (λ (k : ℕ). k < length m.marked.items) same within | inr none ↦ absurd (false≢true none) ]
        ]

    listed : (other : ℕ) → get_or (set m.marked.items slot true) other false ≡ is_in other (m.order.items ++ slot ∷ [])
    listed other =
        elim (cases_eq slot other) [
          | inl same ↦
              ap (λ (k : ℕ). get_or (set m.marked.items slot true) k false) (sym same)
              ∙ get_or-set_same m.marked.items slot true false within
              ∙ sym (is_in-append other m.order.items (slot ∷ []) ∙ ap (λ b. is_in other m.order.items || b) (is_in-one other slot ∙ ap (λ k. slot == k) (sym same) ∙ eq-eqb slot slot refl) ∙ or-true (is_in other m.order.items))
          | inr apart ↦
              get_or-set_other m.marked.items slot other true false (λ e. apart (sym e))
              ∙ marking.listed other
              ∙ sym (is_in-append other m.order.items (slot ∷ []) ∙ ap (λ b. is_in other m.order.items || b) (is_in-one other slot ∙ ne_eqb slot other apart) ∙ or-false (is_in other m.order.items))
        ]

-- ---- the slots that aren't taken

range_more : (n : ℕ) → range_with_len 0 (n + 1) ≡ range_with_len 0 n ++ n ∷ []
range_more n =
    sym (map-id (range_with_len 0 (n + 1)))
    ∙ map-range_with_len_more (λ (k : ℕ). k) 0 n n (omega arith)
    ∙ ap (λ (t : List ℕ). t ++ n ∷ []) (map-id (range_with_len 0 n))

abbrev free_to : List Bool → ℕ → List ℕ
free_to taken n = filter (λ slot. not (get_or taken slot false)) (range_with_len 0 n)

free_more : (taken : List Bool) (n : ℕ) → free_to taken (n + 1) ≡ free_to taken n ++ cond (not (get_or taken n false)) (n ∷ []) []
free_more taken n = ap (filter (λ slot. not (get_or taken slot false))) (range_more n) ∙ filter-append (λ slot. not (get_or taken slot false)) (range_with_len 0 n) (n ∷ [])

-- one more slot, which isn't taken
pub free_more_yes : (l m n : Marks) (taken : List Bool) (i : ℕ) → get_or taken i false ≡ false → MarksMore l m (free_to taken i) → MarksMore m n (i ∷ []) → MarksMore l n (free_to taken (i + 1))
free_more_yes l m n taken i free left right =
    subst (λ (t : List ℕ). MarksMore l n t) (sym (free_more taken i ∙ ap (λ b. free_to taken i ++ cond (not b) (i ∷ []) []) free)) (more_both l m n (free_to taken i) (i ∷ []) left right)

-- or which is
pub free_more_no : (l m : Marks) (taken : List Bool) (i : ℕ) → get_or taken i false ≡ true → MarksMore l m (free_to taken i) → MarksMore l m (free_to taken (i + 1))
free_more_no l m taken i taken-is left =
    subst (λ (t : List ℕ). MarksMore l m t) (sym (free_more taken i ∙ ap (λ b. free_to taken i ++ cond (not b) (i ∷ []) []) taken-is ∙ append-nil (free_to taken i))) left

-- ---- following references

-- What is marked behind so many slots of the order: the slots that were marked before, all of it reached from these, and with
-- each of so many slots where its live references lead. From the first ones it was marked before.
pub record IsFollowing (dead : ℕ → Bool) (old now : List (List Edge)) (start : ℕ) (m n : Marks) (i : ℕ) : Type 0 where
  pub marking : IsMarking n
  pub size : length n.marked.items ≡ length m.marked.items
  pub upto : i ≤ length n.order.items
  pub longer : length m.order.items ≤ length n.order.items
  pub front : take (length m.order.items) n.order.items ≡ m.order.items
  pub pruned : ArePruned dead old now
  pub kept : (s : ℕ) → is_in s m.order.items ≡ true → is_in s n.order.items ≡ true
  pub sound : (s : ℕ) → is_in s n.order.items ≡ true → IsReached m.order.items (live_in dead old) s
  pub closed : IsClosedTo start m.order.items (live_in dead old) → (p s : ℕ) → is_in p (take i n.order.items) ≡ true → is_in s (live_in dead old p) ≡ true → is_in s n.order.items ≡ true

pub follow_none : (dead : ℕ → Bool) (old : List (List Edge)) (start : ℕ) (m : Marks) → start ≤ length m.order.items → IsMarking m → IsFollowing dead old old start m m start
follow_none dead old start m upto marking =
    record {
      marking = marking;
      size = refl;
      upto = upto;
      longer = omega arith;
      front = take_all (length m.order.items) m.order.items (omega arith);
      pruned = pruned_none dead old;
      kept = λ s there. there;
      sound = λ s there. root s there;
      closed = λ closed p s there leads. closed p s there leads;
    }

-- a test or another one holds
pub or_left : (a b : Bool) → a ≡ true → (a || b) ≡ true
or_left a b is = ap (λ c. c || b) is

pub or_right : (a b : Bool) → b ≡ true → (a || b) ≡ true
or_right a b is = ap (λ c. a || c) is ∙ or-true a

pub follow_more : (dead : ℕ → Bool) (old now new : List (List Edge)) (start : ℕ) (m n o : Marks) (i slot : ℕ) → i < length n.order.items → slot ≡ get_or n.order.items i 0 → IsFollowing dead old now start m n i → ArePruned dead old new → MarksMore n o (live_in dead old slot) → IsFollowing dead old new start m o (i + 1)
follow_more dead old now new start m n o i slot within is follows pruned more =
    record {
      marking = more.marking;
      size = more.size ∙ follows.size;
      upto = omega (arith, more.longer);
      longer = omega (arith, follows.longer, more.longer);
      front = sym (take-take (length m.order.items) (length n.order.items) o.order.items follows.longer) ∙ ap (take (length m.order.items)) more.front ∙ follows.front;
      pruned = pruned;
      kept = λ s there. more.has s ∙ or_left (is_in s n.order.items) (is_in s (live_in dead old slot)) (follows.kept s there);
      sound = λ s there.
          elim (or_cases (is_in s n.order.items) (is_in s (live_in dead old slot)) (sym (more.has s) ∙ there)) [
            | inl old ↦ follows.sound s old
            | inr new ↦ child slot s (follows.sound slot (ap (λ (k : ℕ). is_in k n.order.items) is ∙ is_in-at n.order.items i within)) new
          ];
      closed = λ closed p s there leads. more.has s ∙ from closed p s (is_in-cases p (take i n.order.items) (slot ∷ []) (sym (ap (is_in p) front) ∙ there)) leads;
    }
  where
    same : take i o.order.items ≡ take i n.order.items
    same = sym (take-take i (length n.order.items) o.order.items (omega arith)) ∙ ap (take i) more.front

    here : get_or o.order.items i 0 ≡ slot
    here = sym (get_or-take (length n.order.items) o.order.items i 0 within) ∙ ap (λ (t : List ℕ). get_or t i 0) more.front ∙ sym is

    front : take (i + 1) o.order.items ≡ take i n.order.items ++ slot ∷ []
    front = take_more o.order.items i 0 (omega (arith, more.longer)) ∙ ap (λ (t : List ℕ). t ++ get_or o.order.items i 0 ∷ []) same ∙ ap (λ (k : ℕ). take i n.order.items ++ k ∷ []) here

    from : IsClosedTo start m.order.items (live_in dead old) → (p s : ℕ) → (is_in p (take i n.order.items) ≡ true) ⊎ (is_in p (slot ∷ []) ≡ true) → is_in s (live_in dead old p) ≡ true → (is_in s n.order.items || is_in s (live_in dead old slot)) ≡ true
    from closed p s (inl before) leads = or_left (is_in s n.order.items) (is_in s (live_in dead old slot)) (follows.closed closed p s before leads)
    from closed p s (inr new) leads =
        or_right (is_in s n.order.items) (is_in s (live_in dead old slot))
        (elim (is_in-cons p slot [] new) [ inl same ↦ ap (λ (k : ℕ). is_in s (live_in dead old k)) same ∙ leads | inr none ↦ absurd (false≢true none) ])

-- behind all of them, what is marked is what is reached
pub follow_all : (dead : ℕ → Bool) (old now : List (List Edge)) (start : ℕ) (m n : Marks) (i : ℕ) → length n.order.items ≤ i → IsFollowing dead old now start m n i → IsClosedTo start m.order.items (live_in dead old) → (s : ℕ) → (is_in s n.order.items ≡ true → IsReached m.order.items (live_in dead old) s) × (IsReached m.order.items (live_in dead old) s → is_in s n.order.items ≡ true)
follow_all dead old now start m n i past follows closed s = (
  follows.sound s,
  closed_has_reached m.order.items (live_in dead old) n.order.items follows.kept
      (λ p t there leads. follows.closed closed p t (ap (is_in p) (take_all i n.order.items past) ∙ there) leads) s,
)

-- a slot of the order is one of the heap
pub slot_within : (n : Marks) (i slot : ℕ) → IsMarking n → i < length n.order.items → slot ≡ get_or n.order.items i 0 → slot < length n.marked.items
slot_within n i slot marking within is = marking.within slot (ap (λ (k : ℕ). is_in k n.order.items) is ∙ is_in-at n.order.items i within)

-- Preparations, move by move and word by word: a word is taken off, the next member is at work, the next set is begun.
use Rattle.std.proofs.Common.{◌≡◌, ℕ, ◌+◌, ◌-◌, ◌<◌, ◌≤◌, Bool, true, false, ◌&&◌, Option, Some, None, List, [], ◌∷◌, ◌++◌, length, map, drop, get_or, refl, arith, sym, ◌∙◌, ap, subst, inl, inr, append_assoc, drop-cons, add-one}
use Rattle.std.specs.List.{concat}
use Rattle.std.proofs.lemmas.List.{append-nil, length-drop, map-append}
use Rattle.std.proofs.lemmas.List.Concat.{flat_map-append}
use Rattle.std.proofs.lemmas.Bool.{cases_lt}
use Rattle.rec_word.specs.Place.{place_of, places_from, places_of}
use Rattle.rec_word.specs.Word.{target_of, is_slot}
use Rattle.rec_word.specs.declared.member.Member.{Member}
use Rattle.rec_word.specs.Load.{Load, place_loaded}
use Rattle.rec_word.specs.Walk.{behind, places_left, IsOf}
use Rattle.rec_word.proofs.Given.{given_by}
use Rattle.rec_word.proofs.Walks.{behind_left, behind_stands, first_stands, Stands}
use Rattle.rec_counts.specs.declared.slot.Slot.{Slot}
use Rattle.rec_counts.specs.Counts.{State, IsKept, slot_at}
use Rattle.rec_counts.specs.Lists.{one, times}
use Rattle.rec_counts.specs.Slot.{is_in}
use Rattle.rec_counts.proofs.Times.{times-nil}
use Rattle.rec_sigma.specs.declared.at.At.{At}
use Rattle.rec_sigma.specs.Prepare.{begun_at, begun_behind, first_of, gone_on, Work, Next, members_of, renewed, renewed_if, taken_off, next_set, work_of, took_of, started_of, IsHeld, IsAtWork, Machine}
use Rattle.rec_sigma.specs.Prepared.{seen, KeepsOthers, Prepared, PreparedTo, HasPrepared, loaded_at}
use Rattle.rec_sigma.proofs.Cyclics.{member_set, off_cyclic, off_others, other_set, others_on, others_same, own_set, renewed_others, renewed_slot, seen-nil, seen_push, set_either, Tells}

-- the item at a place, and what stands behind it
record Behind {A : Type 0} (xs : List A) (n : ℕ) (d y : A) (ys : List A) : Type 0 where
  in_range : n < length xs
  item : get_or xs n d ≡ y
  rest : drop (n + 1) xs ≡ ys

item_behind : {A : Type 0} (xs : List A) (n : ℕ) (d y : A) (ys : List A) → drop n xs ≡ y ∷ ys → Behind xs n d y ys
item_behind xs n d y ys e =
    let l : n < length xs = omega (arith, ap length e, length-drop n xs) in
    let f : get_or xs n d ∷ drop (n + 1) xs ≡ y ∷ ys = ap (λ m. get_or xs n d ∷ drop m xs) (add-one n) ∙ sym (drop-cons xs n d l) ∙ e in
    record { in_range = l; item = cc; rest = cc }

-- what is held depends on the sets alone
held_still : (s t : State) (a : At) → t.sets ≡ s.sets → IsHeld s a → IsHeld t a
held_still s t a e h = record { set = subst (λ sets. a.set < length sets) (sym e) h.set; member = subst (λ sets. IsOf (get_or sets a.set []) a.member) (sym e) h.member }

-- the first of these sets that has a member is at work
first_is : (s : State) (fields : ℕ) → 0 < fields → (rest : List (List ℕ)) (n : ℕ) → drop n s.sets ≡ rest → IsAtWork (record { fields = fields; at = first_of n rest }) s
first_is s fields f [] n e = record { field = tt; held = tt }
first_is s fields f ([] ∷ rest) n e = first_is s fields f rest (n + 1) (item_behind s.sets n [] [] rest e).rest
first_is s fields f ((x ∷ xs) ∷ rest) n e =
    let b : Behind s.sets n [] (x ∷ xs) rest = item_behind s.sets n [] (x ∷ xs) rest e in
    record { field = f; held = record { set = b.in_range; member = subst (λ ms. IsOf ms (record { index = 0; slot = x; field = 0 })) (sym b.item) (first_stands fields (x ∷ xs) f).member } }

pub next_set_is : (s : State) (number fields : ℕ) → 0 < fields → IsAtWork (work_of fields (next_set s number)).machine (next_set s number).counts
next_set_is s number fields f = go (first_of number (drop number s.sets)) (first_is s fields f (drop number s.sets) number refl)
  where
    go : (at : Option At) → IsAtWork (record { fields = fields; at = at }) s → IsAtWork (record { fields = fields; at = at }) (begun_at s at)
    go None h = h
    go (Some a) h = record { field = h.field; held = held_still s (begun_at s (Some a)) a refl h.held }

-- the set of a slot stays
set_kept : {fields : ℕ} {before : State} {begun : ℕ} {left : List ℕ} {after : State} {loads : List Load} → Prepared fields before begun left after loads → (x : ℕ) → (slot_at after x).set ≡ (slot_at before x).set
set_kept p x = ap (λ (v : Slot). v.set) (p.others.slots x)

-- what tells afterwards told before
pub told_before : {fields : ℕ} {before : State} {begun : ℕ} {left : List ℕ} {after : State} {loads : List Load} → Prepared fields before begun left after loads → Tells after → Tells before
told_before p k = λ number x. ap (λ sets. times x (get_or sets number [])) (sym p.others.sets) ∙ k number x ∙ ap (λ o. one (is_in number o)) (set_kept p x)

none_taken : (b : Bool) → one (b && false) ≡ 0
none_taken true = refl
none_taken false = refl

-- a word more was loaded, from a field of a member of this set, and is taken off
loaded_on : (fields : ℕ) (before : State) (set slot field : ℕ) (left : List ℕ) (after : State) (loads : List Load) (word : ℕ) → (slot_at before slot).set ≡ Some set → Prepared fields before (set + 1) (place_of slot field fields ∷ left) after loads →
    Prepared fields before (set + 1) left (taken_off set after (target_of word)) (loads ++ record { slot = slot; field = field; word = word } ∷ [])
loaded_on fields before set slot field left after loads word m p =
    let t : Option ℕ = target_of word in
    let l : Load = record { slot = slot; field = field; word = word } in
    let now : State = taken_off set after t in
    let off : (x : ℕ) (o : Option ℕ) → (slot_at before x).set ≡ o → (slot_at now x).cyclic ≡ (slot_at after x).cyclic - one (is_slot x t && is_in set o) =
    λ x o e. off_cyclic set after t x ∙ ap (λ q. (slot_at after x).cyclic - one (is_slot x t && is_in set q)) (set_kept p x ∙ e) in
    let less : (number x : ℕ) → (slot_at before x).set ≡ Some number → (slot_at now x).cyclic ≡ (slot_at after x).cyclic - one (is_slot x t && is_in number (Some set)) =
    λ number x e. off x (Some number) e ∙ ap (λ b. (slot_at after x).cyclic - one (is_slot x t && b)) (set_either set number) in
    let more : (number x : ℕ) → seen before number (loads ++ l ∷ []) x ≡ seen before number loads x + one (is_slot x t && is_in number (Some set)) =
    λ number x. seen_push before number loads l x ∙ ap (λ o. seen before number loads x + one (is_slot x t && is_in number o)) m in
    let none : (number x : ℕ) → set + 1 ≤ number → one (is_slot x t && is_in number (Some set)) ≡ 0 =
    λ number x b. ap (λ c. one (is_slot x t && c)) (other_set number set (λ d. absurd (omega (arith, b, d)))) ∙ none_taken (is_slot x t) in
    record {
      places = ap (λ ps. ps ++ left) (map-append (place_loaded fields) loads (l ∷ [])) ∙ append_assoc (map (place_loaded fields) loads) (place_of slot field fields ∷ []) left ∙ p.places;
      members = λ number x b e. omega (arith, less number x e, more number x, p.members number x b e);
      later = λ number x b e. omega (arith, less number x e, none number x b, p.later number x b e);
      unset = λ x e. omega (arith, off x None e, none_taken (is_slot x t), p.unset x e);
      unseen = λ number x b. omega (arith, more number x, none number x b, p.unseen number x b);
      others = others_on p.others (off_others set after t);
    }

-- a set without members needs nothing
skipped_on : (fields : ℕ) (before : State) (number : ℕ) (left : List ℕ) (after : State) (loads : List Load) → Tells before → members_of before number ≡ [] → Prepared fields before number left after loads →
    Prepared fields before (number + 1) left after loads
skipped_on fields before number left after loads k empty p =
    let nobody : (x : ℕ) → (slot_at before x).set ≡ Some number → 0 < 0 = λ x e. omega (arith, times-nil x, ap (times x) empty, k number x, ap (λ o. one (is_in number o)) e, ap one (own_set number)) in
    record {
      places = p.places;
      members = λ n x b e. elim (cases_lt n number) [
        | inl l ↦ p.members n x l e
        | inr l ↦ let q : n ≡ number = omega (arith, b, l) in absurd (omega (arith, nobody x (e ∙ ap Some q)))
      ];
      later = λ n x b e. p.later n x (omega (arith, b)) e;
      unset = p.unset;
      unseen = λ n x b. p.unseen n x (omega (arith, b));
      others = p.others;
    }

-- a set is begun
begun_on : (fields : ℕ) (before : State) (number : ℕ) (left : List ℕ) (after : State) (loads : List Load) → Prepared fields before number left after loads →
    Prepared fields before (number + 1) left (renewed after number) loads
begun_on fields before number left after loads p =
    let now : State = renewed after number in
    let cyc : (x : ℕ) (o : Option ℕ) → (slot_at before x).set ≡ o → (slot_at now x).cyclic ≡ (renewed_if (is_in number o) (slot_at after x)).cyclic =
    λ x o e. ap (λ (v : Slot). v.cyclic) (renewed_slot after number x) ∙ ap (λ q. (renewed_if (is_in number q) (slot_at after x)).cyclic) (set_kept p x ∙ e) in
    let same : (n x : ℕ) → (slot_at before x).set ≡ Some n → is_in number (Some n) ≡ false → (slot_at now x).cyclic ≡ (slot_at after x).cyclic =
    λ n x e f. cyc x (Some n) e ∙ ap (λ b. (renewed_if b (slot_at after x)).cyclic) f in
    record {
      places = p.places;
      members = λ n x b e. elim (cases_lt n number) [
        | inl l ↦ same n x e (other_set number n (λ d. absurd (omega (arith, l, d)))) ∙ p.members n x l e
        | inr l ↦ let q : n ≡ number = omega (arith, b, l) in
            let a : (slot_at now x).cyclic ≡ (slot_at after x).count = cyc x (Some number) (e ∙ ap Some q) ∙ ap (λ b. (renewed_if b (slot_at after x)).cyclic) (own_set number) in
            omega (arith, a, ap (λ (v : Slot). v.count) (p.others.slots x), p.unseen n x l)
      ];
      later = λ n x b e. same n x e (other_set number n (λ d. absurd (omega (arith, b, d)))) ∙ p.later n x (omega (arith, b)) e;
      unset = λ x e. cyc x None e ∙ p.unset x e;
      unseen = λ n x b. p.unseen n x (omega (arith, b));
      others = others_on p.others (renewed_others after number);
    }

first_on : (rest : List (List ℕ)) (fields : ℕ) (before : State) (n : ℕ) (after : State) (loads : List Load) → Tells before → drop n before.sets ≡ rest → n ≤ length before.sets → Prepared fields before n (places_of fields (concat rest)) after loads →
    PreparedTo fields before (first_of n rest) (begun_at after (first_of n rest)) loads
first_on [] fields before n after loads k e l p =
    let q : length before.sets ≡ n = omega (arith, l, ap length e, length-drop n before.sets) in
    rw q p
first_on ([] ∷ rest) fields before n after loads k e l p =
    let b : Behind before.sets n [] [] rest = item_behind before.sets n [] [] rest e in
    first_on rest fields before (n + 1) after loads k b.rest (omega (arith, b.in_range)) (skipped_on fields before n (places_of fields (concat rest)) after loads k b.item p)
first_on ((x ∷ xs) ∷ rest) fields before n after loads k e l p =
    let b : Behind before.sets n [] (x ∷ xs) rest = item_behind before.sets n [] (x ∷ xs) rest e in
    rw (ap (λ ys. (places_from fields x 0 ++ places_of fields (drop 1 ys)) ++ places_of fields (concat (drop (n + 1) before.sets))) b.item ∙ ap (λ yss. places_of fields (x ∷ xs) ++ places_of fields (concat yss)) b.rest ∙ sym (flat_map-append (λ slot. places_from fields slot 0) (x ∷ xs) (concat rest))) (begun_on fields before n (places_of fields (concat ((x ∷ xs) ∷ rest))) after loads p)

-- the next set that has a member is begun
next_set_on : (fields : ℕ) (before : State) (n : ℕ) (after : State) (loads : List Load) → Tells before → n ≤ length before.sets → Prepared fields before n (places_of fields (concat (drop n before.sets))) after loads →
    PreparedTo fields before (next_set after n).at (next_set after n).counts loads
next_set_on fields before n after loads k l p = subst (λ sets. PreparedTo fields before (first_of n (drop n sets)) (begun_at after (first_of n (drop n sets))) loads) (sym p.others.sets) (first_on (drop n before.sets) fields before n after loads k refl l p)

-- the field behind is due, or the next set is begun
behind_on : (at : Option Member) (fields : ℕ) (before : State) (number : ℕ) (after : State) (loads : List Load) → Tells before → number < length before.sets →
    Prepared fields before (number + 1) (places_left fields (members_of before number) at ++ places_of fields (concat (drop (number + 1) before.sets))) after loads → PreparedTo fields before (begun_behind after number at).at (begun_behind after number at).counts loads
behind_on None fields before number after loads k l p = next_set_on fields before (number + 1) after loads k (omega (arith, l)) p
behind_on (Some a) fields before number after loads k l p = p

-- nothing is loaded yet
prepared_none : (fields : ℕ) (s : State) → Prepared fields s 0 (places_of fields (concat s.sets)) s []
prepared_none fields s = record {
  places = refl;
  members = λ n x b e. absurd (omega (arith, b));
  later = λ n x b e. refl;
  unset = λ x e. refl;
  unseen = λ n x b. seen-nil s n x;
  others = others_same s;
}

-- a word that was loaded leaves the member at work where it stands
pub held_off : (s : State) (a : At) (t : Option ℕ) → IsHeld s a → IsHeld (taken_off a.set s t) a
held_off s a t h = held_still s (taken_off a.set s t) a (off_others a.set s t).sets h

-- what comes behind it
pub gone_is : (fields : ℕ) (s : State) (a : At) → a.member.field < fields → IsHeld s a → IsAtWork (work_of fields (gone_on fields s a)).machine (gone_on fields s a).counts
gone_is fields s a f h = go (behind fields (members_of s a.set) a.member) (behind_stands fields (members_of s a.set) a.member f h.member)
  where
    go : (at : Option Member) → Stands fields (members_of s a.set) at → IsAtWork (work_of fields (begun_behind s a.set at)).machine (begun_behind s a.set at).counts
    go None b = next_set_is s (a.set + 1) fields (omega (arith, f))
    go (Some m) b = record { field = b.field; held = record { set = h.set; member = b.member } }

-- the set of the member at work
pub held_set : (s : State) (a : At) → Tells s → IsHeld s a → (slot_at s a.member.slot).set ≡ Some a.set
held_set s a k h = ap (λ x. (slot_at s x).set) h.member.slot ∙ member_set s a.set a.member.index k h.member.index

-- a preparation begins with the first set that has a member
pub started_is : (m : Machine) (s : State) → started_of m s ≡ work_of m.fields (next_set s 0)
unfolding started_of
started_is m s = refl

-- what a preparation came to
pub record Came (fields : ℕ) (before : State) (w : Work) (loads : List Load) : Type 0 where
  pub fields_kept : w.machine.fields ≡ fields
  pub work : IsAtWork w.machine w.counts
  pub law : PreparedTo fields before w.machine.at w.counts loads

-- a preparation that has begun
pub came_first : (fields : ℕ) (before : State) → 0 < fields → Tells before → Came fields before (work_of fields (next_set before 0)) []
came_first fields before f k = record {
  fields_kept = refl;
  work = next_set_is before 0 fields f;
  law = next_set_on fields before 0 before [] k (omega arith) (prepared_none fields before);
}

-- one word more, with this field due
pub came_more : (fields : ℕ) (before : State) (a : At) (after : State) (loads : List Load) (word : ℕ) → Tells before → a.member.field < fields → IsHeld after a → PreparedTo fields before (Some a) after loads →
    Came fields before (work_of fields (gone_on fields (taken_off a.set after (target_of word)) a)) (loads ++ loaded_at (Some a) word)
came_more fields before a after loads word k f h p =
    let ms : List ℕ = members_of before a.set in
    let rest : List ℕ = places_of fields (concat (drop (a.set + 1) before.sets)) in
    let b : IsHeld before a = held_still after before a (sym p.others.sets) h in
    let now : State = taken_off a.set after (target_of word) in
    let q : Prepared fields before (a.set + 1) (places_left fields ms (behind fields ms a.member) ++ rest) now (loads ++ loaded_at (Some a) word) =
    loaded_on fields before a.set a.member.slot a.member.field (places_left fields ms (behind fields ms a.member) ++ rest) after loads word (held_set before a k b) (subst (λ ps. Prepared fields before (a.set + 1) (ps ++ rest) after loads) (behind_left fields ms a.member f) p) in
    record {
      fields_kept = refl;
      work = gone_is fields now a f (held_off after a (target_of word) h);
      law = subst (λ sets. (let n : Next = begun_behind now a.set (behind fields (members_of (record before { sets = sets }) a.set) a.member) in PreparedTo fields before n.at n.counts (loads ++ loaded_at (Some a) word))) (sym q.others.sets) (behind_on (behind fields ms a.member) fields before a.set now (loads ++ loaded_at (Some a) word) k b.set q);
    }

came_at : (at : Option At) (w : Work) (fields : ℕ) (before : State) (loads : List Load) (word : ℕ) → w ≡ work_of fields (record { at = at; counts = w.counts }) → Tells before → Came fields before w loads → Came fields before (took_of w word) (loads ++ loaded_at at word)
unfolding took_of
came_at None w fields before loads word e k c = rw (append-nil loads, e) (subst (λ v. Came fields before v loads) e c)
came_at (Some a) w fields before loads word e k c =
    let d : Came fields before (work_of fields (record { at = Some a; counts = w.counts })) loads = subst (λ v. Came fields before v loads) e c in
    subst (λ v. Came fields before (took_of v word) (loads ++ loaded_at (Some a) word)) (sym e) (came_more fields before a w.counts loads word k d.work.field d.work.held d.law)

-- one word more
pub came_on : (fields : ℕ) (before : State) (w : Work) (loads : List Load) (word : ℕ) → Tells before → Came fields before w loads → Came fields before (took_of w word) (loads ++ loaded_at w.machine.at word)
came_on fields before w loads word k c = came_at w.machine.at w fields before loads word (ap (λ n. work_of n (record { at = w.machine.at; counts = w.counts })) c.fields_kept) k c

-- a whole preparation
pub whole_preparation : (fields : ℕ) (before : State) (words : List ℕ) → 0 < fields → IsKept before → HasPrepared fields before words
unfolding started_of
whole_preparation fields before words f k =
    (given_by took_of (λ (w : Work) word. loaded_at w.machine.at word) (Came fields before) (λ w loads word c. came_on fields before w loads word k.numbers c) words _ [] (came_first fields before f k.numbers)).law

-- what is learnt, where a field is due
pub took_some : (fields : ℕ) (a : At) (s : State) (word : ℕ) → took_of (work_of fields (record { at = Some a; counts = s })) word ≡ work_of fields (gone_on fields (taken_off a.set s (target_of word)) a)
unfolding took_of
took_some fields a s word = refl

-- nothing but cyclic counts changes
begun_others : (s : State) (at : Option At) → KeepsOthers s (begun_at s at)
begun_others s None = others_same s
begun_others s (Some a) = renewed_others s a.set

pub next_set_others : (s : State) (number : ℕ) → KeepsOthers s (next_set s number).counts
next_set_others s number = begun_others s (first_of number (drop number s.sets))

behind_others : (at : Option Member) (s : State) (number : ℕ) → KeepsOthers s (begun_behind s number at).counts
behind_others None s number = next_set_others s (number + 1)
behind_others (Some a) s number = others_same s

-- so a word leaves the others
pub more_others : (fields : ℕ) (a : At) (s : State) (word : ℕ) → KeepsOthers s (gone_on fields (taken_off a.set s (target_of word)) a).counts
more_others fields a s word =
    let off : State = taken_off a.set s (target_of word) in
    others_on (off_others a.set s (target_of word)) (behind_others (behind fields (members_of off a.set) a.member) off a.set)

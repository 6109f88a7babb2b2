-- Releases, move by move and word by word: a reference is taken off, a slot is emptied, the next zero is released.
use Rattle.std.proofs.Common.{◌≡◌, ℕ, ◌+◌, ◌<◌, ◌≤◌, Bool, true, false, eqb, ltb, cond, not, lit<, IsNone, Option, None, Some, IfSome, List, [], ◌∷◌, ◌++◌, length, take, refl, arith, sym, ◌∙◌, ap, subst, inl, inr, append_assoc, fold}
use Rattle.std.proofs.lemmas.List.{append-nil, length_push, flat_map_more}
use Rattle.std.proofs.lemmas.List.Elements.{filter-append}
use Rattle.std.proofs.lemmas.Bool.{cases_Bool, false≢true, ltb-true, ltb-false}
use Rattle.std.proofs.lemmas.Bool.Decides.{eqb_tells}
use Rattle.rec_word.specs.Place.{place_of, places_from, places_of}
use Rattle.rec_word.specs.Word.{target_of}
use Rattle.rec_word.proofs.FieldPlaces.{places_step, places_end}
use Rattle.rec_counts.specs.declared.slot.Slot.{Slot}
use Rattle.rec_counts.specs.Colour.{is_green}
use Rattle.rec_counts.specs.Counts.{State, slot_at, with_slot}
use Rattle.rec_counts.specs.Lists.{one, times}
use Rattle.rec_counts.proofs.Keeping.{field_kept}
use Rattle.rec_counts.proofs.Times.{inside_push, times-nil, times_push}
use Rattle.rec_release.specs.declared.at.At.{At}
use Rattle.rec_release.specs.Release.{Work, emptied, gone_on, listed_if, next_from, next_of, without_first, with_next, took_of, started_of, IsAtWork, IsHeld, IsReady}
use Rattle.rec_release.specs.Released.{Released, HasReleased, exchanged, place_due, with_fields}
use Rattle.rec_word.specs.Load.{given}
use Rattle.rec_word.proofs.Given.{given-nil, given-cons}
use Rattle.rec_release.specs.TakenOff.{taken_off, Keeps}
use Rattle.rec_release.proofs.Keeping.{each_next, first_released, first_zero, held_off, listed_ready, next_work, none_left, work_last, work_next, work_on, FirstZero}
use Rattle.rec_release.proofs.Orange.{last_keeps, off_keeps}
use Rattle.rec_release.proofs.TakenOff.{leading-nil, leading_push, off_count, off_most, ready_off, KeepsMost}

-- slots of which something differs are two
unlike : (f : ℕ → Bool) (x y : ℕ) → (f x ≡ f y → ⊥) → one (eqb x y) ≡ 0
unlike f x y d = elim (eqb_tells x y) [ inl q ↦ absurd (d (ap f q.1)) | inr q ↦ ap one q.0 ]

-- a field was exchanged, and what came out is taken off
taken_on : (lowers : Bool) (fields : ℕ) (before : State) (a : At) (after : State) (words from slots : List ℕ) (word : ℕ) → a.field < fields → Released fields before (Some a) after words from slots →
    Released fields before (Some (record { slot = a.slot; field = a.field + 1 })) (taken_off lowers after (target_of word)) (words ++ word ∷ []) (from ++ place_of a.slot a.field fields ∷ []) slots
taken_on lowers fields before a after words from slots word l r =
    let t : Option ℕ = target_of word in
    let k : KeepsMost after (taken_off lowers after t) = off_most lowers after t in
    let h : IsHeld (taken_off lowers after t) a = held_off lowers after t a r.held in
    let z = k.zeros in
    record {
      places = append_assoc from (place_of a.slot a.field fields ∷ []) (places_from fields a.slot (a.field + 1)) ∙ ap (λ ps. from ++ ps) (sym (places_step fields a.slot a.field l)) ∙ r.places;
      each = omega (arith, length_push words word, length_push from (place_of a.slot a.field fields), r.each);
      counts = λ x. omega (arith, off_count lowers after t x, r.counts x, leading_push x words word);
      zeros = (r.zeros.0 ++ z.0, ap (λ zs. slots ++ zs) z.1 ∙ sym (append_assoc slots after.zeros z.0) ∙ ap (λ zs. zs ++ z.0) r.zeros.1 ∙ append_assoc before.zeros r.zeros.0 z.0);
      released = λ x. ap one (k.released x) ∙ r.released x;
      none = λ x m. omega (arith, off_count lowers after t x, r.none x m);
      waiting = λ x b. ap (times x) k.free ∙ elim (cases_Bool (slot_at after x).buffered) [
        | inl e ↦ r.waiting x e
        | inr e ↦ elim (cases_Bool (slot_at after x).released) [
          | inl u ↦ absurd (false≢true (sym e ∙ sym (k.buffered x u) ∙ b))
          | inr u ↦ omega (arith, r.free x e, r.released x, ap one u, unlike (λ y. (slot_at after y).released) x a.slot (λ q. false≢true (sym u ∙ q ∙ r.held.released)))
        ]
      ];
      free = λ x b. ap (λ f. times x f + one (eqb x a.slot)) k.free ∙ r.free x (k.unbuffered x b);
      green = λ x. k.green x ∙ r.green x;
      held = record { in_range = h.in_range; released = h.released; unlisted = h.unlisted };
      ready = ready_off lowers after t r.ready;
    }

-- all fields of the slot at work were exchanged, and it is emptied
emptied_on : (fields : ℕ) (before : State) (a : At) (after : State) (words from slots : List ℕ) → fields ≤ a.field → Released fields before (Some a) after words from slots → Released fields before None (emptied after a.slot) words from slots
emptied_on fields before a after words from slots l r = go (slot_at after a.slot).buffered refl
  where
    relisted : (free : List ℕ) → IsReady (record after { free = free }) → ((x : ℕ) → (slot_at after x).buffered ≡ true → times x free ≡ times x after.free) → ((x : ℕ) → (slot_at after x).buffered ≡ false → times x free ≡ times x after.free + one (eqb x a.slot)) →
        Released fields before None (record after { free = free }) words from slots
    relisted free k b u = record {
      places = ap (λ ps. from ++ ps) (sym (places_end fields a.slot a.field l)) ∙ r.places;
      each = r.each;
      counts = r.counts;
      zeros = r.zeros;
      released = r.released;
      none = r.none;
      waiting = λ x h. b x h ∙ r.waiting x h;
      free = λ x h. omega (arith, u x h, r.free x h);
      green = r.green;
      held = tt;
      ready = k;
    }

    go : (b : Bool) → (slot_at after a.slot).buffered ≡ b → Released fields before None (listed_if b after a.slot) words from slots
    go true e = relisted after.free r.ready (λ x h. refl) (λ x h. omega (arith, unlike (λ y. (slot_at after y).buffered) x a.slot (λ q. false≢true (sym h ∙ q ∙ e))))
    go false e = relisted (after.free ++ a.slot ∷ []) (listed_ready false after a.slot r.held.released r.ready)
        (λ x h. omega (arith, times_push x after.free a.slot, unlike (λ y. (slot_at after y).buffered) x a.slot (λ q. false≢true (sym e ∙ sym q ∙ h))))
        (λ x h. times_push x after.free a.slot)

-- A zero is released, and this field of it comes next: all of its fields from there on are still to be exchanged.
zero_on : (z : ℕ) (zs : List ℕ) (fields field : ℕ) (before after : State) (words from slots : List ℕ) → after.zeros ≡ z ∷ zs → IsReady after
    → places_of fields (with_fields before (slots ++ z ∷ [])) ≡ places_of fields (with_fields before slots) ++ places_from fields z field → Released fields before None after words from slots
    → Released fields before (Some (record { slot = z; field = field })) (without_first (z ∷ zs) after) words from (slots ++ z ∷ [])
zero_on z zs fields field before after words from slots e ready p r =
    let first : FirstZero after z zs = first_zero after z zs e ready in
    let w = next_work 1 false after (z ∷ zs) e (lit< tt) ready in
    let v : Slot = record (slot_at after z) { released = true } in
    let count : (x : ℕ) → (slot_at (with_slot after z v) x).count ≡ (slot_at after x).count = λ x. field_kept (λ (u : Slot). u.count) after.slots z v refl x in
    let buffered : (x : ℕ) → (slot_at (with_slot after z v) x).buffered ≡ (slot_at after x).buffered = λ x. field_kept (λ (u : Slot). u.buffered) after.slots z v refl x in
    record {
      places = ap (λ ps. ps ++ places_from fields z field) (sym (append-nil from) ∙ r.places) ∙ sym p;
      each = r.each;
      counts = λ x. count x ∙ r.counts x;
      zeros = (r.zeros.0, append_assoc slots (z ∷ []) zs ∙ ap (λ ys. slots ++ ys) (sym e) ∙ r.zeros.1);
      released = λ x. omega (arith, first_released z zs after e ready.zeros x, r.released x, times_push x slots z);
      none = inside_push (λ x. (slot_at (with_slot after z v) x).count ≡ 0) slots z (count z ∙ first.none) (λ x h. count x ∙ r.none x h);
      waiting = λ x b. r.waiting x (sym (buffered x) ∙ b);
      free = λ x b. omega (arith, r.free x (sym (buffered x) ∙ b), times_push x slots z);
      green = λ x. field_kept (λ (u : Slot). is_green u.colour) after.slots z v refl x ∙ r.green x;
      held = record { in_range = w.held.in_range; released = w.held.released; unlisted = w.held.unlisted };
      ready = w.ready;
    }

-- the places of a Green slot, and of any other
places_green : (fields z : ℕ) (before : State) (slots : List ℕ) → is_green (slot_at before z).colour ≡ true → places_of fields (with_fields before (slots ++ z ∷ [])) ≡ places_of fields (with_fields before slots) ++ places_from fields z fields
places_green fields z before slots g =
    let none : with_fields before (z ∷ []) ≡ [] = ap (λ b. cond (not b) (z ∷ []) []) g in
    ap (places_of fields) (filter-append (λ x. not (is_green (slot_at before x).colour)) slots (z ∷ []) ∙ ap (λ zs. with_fields before slots ++ zs) none ∙ append-nil (with_fields before slots))
    ∙ sym (ap (λ ps. places_of fields (with_fields before slots) ++ ps) (places_end fields z fields (omega arith)) ∙ append-nil (places_of fields (with_fields before slots)))

places_other : (fields z : ℕ) (before : State) (slots : List ℕ) → is_green (slot_at before z).colour ≡ false → places_of fields (with_fields before (slots ++ z ∷ [])) ≡ places_of fields (with_fields before slots) ++ places_from fields z 0
places_other fields z before slots g =
    let one_more : with_fields before (z ∷ []) ≡ z ∷ [] = ap (λ b. cond (not b) (z ∷ []) []) g in
    ap (places_of fields) (filter-append (λ x. not (is_green (slot_at before x).colour)) slots (z ∷ []) ∙ ap (λ zs. with_fields before slots ++ zs) one_more)
    ∙ sym (flat_map_more (λ slot. places_from fields slot 0) [] (with_fields before slots) z)

-- a release with this field due
abbrev pub at_work : (fields : ℕ) (lowers : Bool) → Option At → State → Work
at_work fields lowers at s = record { machine = record { fields = fields; at = at; lowers = lowers }; counts = s }

-- what a release came to, as its parts
pub record Came (fields : ℕ) (lowers : Bool) (before : State) (w : Work) (words from : List ℕ) : Type 0 where
  pub at : Option At
  pub counts : State
  pub is : w ≡ at_work fields lowers at counts
  pub due : IfSome at (λ (a : At). a.field < fields)
  pub slots : List ℕ
  pub law : Released fields before at counts words from slots

-- the next zero is released, if there is one
next_on : (fields : ℕ) (lowers : Bool) (before after : State) (words from slots : List ℕ) → 0 < fields → Released fields before None after words from slots → Came fields lowers before (with_next fields lowers after) words from
next_on fields lowers before after words from slots f r =
    let n : (more : List ℕ) × Released fields before (next_from after.zeros after).at (next_from after.zeros after).counts words from more
    = each_next (λ at u. (more : List ℕ) × Released fields before at u words from more)
    (λ u z zs e k g h. (
      h.0 ++ z ∷ [],
      emptied_on fields before (record { slot = z; field = fields }) (without_first (z ∷ zs) u) words from (h.0 ++ z ∷ []) (omega arith)
          (zero_on z zs fields fields before u words from h.0 e k (places_green fields z before h.0 (sym (h.1.green z) ∙ g)) h.1),
    ))
    (λ u z zs e k g h. (h.0 ++ z ∷ [], zero_on z zs fields 0 before u words from h.0 e k (places_other fields z before h.0 (sym (h.1.green z) ∙ g)) h.1))
    after.zeros after refl r.ready (slots, r) in
    record { at = (next_from after.zeros after).at; counts = (next_from after.zeros after).counts; is = refl; due = (work_next fields lowers after f r.ready).field; slots = n.0; law = n.1 }

-- a release that has begun
pub came_first : (fields : ℕ) (lowers : Bool) (before : State) → 0 < fields → IsReady before → Came fields lowers before (with_next fields lowers before) [] []
came_first fields lowers before f k = next_on fields lowers before before [] [] [] f (record {
  places = refl;
  each = refl;
  counts = λ x. omega (arith, leading-nil x);
  zeros = ([], sym (append-nil before.zeros));
  released = λ x. omega (arith, times-nil x);
  none = λ x h. absurd (omega (arith, h, times-nil x));
  waiting = λ x b. refl;
  free = λ x b. omega (arith, times-nil x);
  green = λ x. refl;
  held = tt;
  ready = k;
})

came_if : (b : Bool) (fields : ℕ) (lowers : Bool) (before : State) (a : At) (s : State) (words from slots : List ℕ) → ltb (a.field + 1) fields ≡ b → a.field < fields → Released fields before (Some (record { slot = a.slot; field = a.field + 1 })) s words from slots →
    Came fields lowers before (cond b (at_work fields lowers (Some (record { slot = a.slot; field = a.field + 1 })) s) (with_next fields lowers (emptied s a.slot))) words from
came_if true fields lowers before a s words from slots t l r = record { at = Some (record { slot = a.slot; field = a.field + 1 }); counts = s; is = refl; due = ltb-true (a.field + 1) fields t; slots = slots; law = r }
came_if false fields lowers before a s words from slots t l r =
    next_on fields lowers before (emptied s a.slot) words from slots (omega (arith, l)) (emptied_on fields before (record { slot = a.slot; field = a.field + 1 }) s words from slots (ltb-false (a.field + 1) fields t) r)

-- one word more
pub came_more : (fields : ℕ) (lowers : Bool) (before : State) (a : At) (after : State) (words from slots : List ℕ) (word : ℕ) → a.field < fields → Released fields before (Some a) after words from slots →
    Came fields lowers before (gone_on fields lowers a (taken_off lowers after (target_of word))) (words ++ word ∷ []) (from ++ take 1 (places_from fields a.slot a.field))
came_more fields lowers before a after words from slots word l r =
    rw (places_step fields a.slot a.field l) (came_if (ltb (a.field + 1) fields) fields lowers before a _ _ _ slots refl l (taken_on lowers fields before a after words from slots word l r))

-- what is learnt, where a field is due
pub took_some : (fields : ℕ) (lowers : Bool) (a : At) (s : State) (word : ℕ) → took_of (at_work fields lowers (Some a) s) word ≡ gone_on fields lowers a (taken_off lowers s (target_of word))
unfolding took_of
took_some fields lowers a s word = refl

-- where the work is done, no word is taken in
idle_exchanges : (fields : ℕ) (lowers : Bool) (s : State) (words : List ℕ) → exchanged (at_work fields lowers None s) words ≡ []
unfolding given took_of
idle_exchanges fields lowers s [] = refl
idle_exchanges fields lowers s (word ∷ words) = idle_exchanges fields lowers s words

idle_stays : (fields : ℕ) (lowers : Bool) (s : State) (words : List ℕ) → fold took_of (at_work fields lowers None s) words ≡ at_work fields lowers None s
unfolding took_of
idle_stays fields lowers s [] = refl
idle_stays fields lowers s (word ∷ words) = idle_stays fields lowers s words

-- the first of the places goes with the first word
one_first : (P : (words from : List ℕ) → Type 0) (words from more due rest : List ℕ) (word place : ℕ) → due ≡ place ∷ rest → P ((words ++ word ∷ []) ++ take (length rest) more) ((from ++ place ∷ []) ++ rest) → P (words ++ take (length due) (word ∷ more)) (from ++ due)
one_first P words from more due rest word place e p =
    subst (λ ds. P (words ++ take (length ds) (word ∷ more)) (from ++ ds)) (sym e) (subst (λ ws. P ws (from ++ place ∷ rest)) (append_assoc words (word ∷ []) (take (length rest) more)) (subst (P ((words ++ word ∷ []) ++ take (length rest) more)) (append_assoc from (place ∷ []) rest) p))

came_by : (more : List ℕ) (fields : ℕ) (lowers : Bool) (before : State) (at : Option At) (s : State) (words from slots : List ℕ) → IfSome at (λ (a : At). a.field < fields) → Released fields before at s words from slots →
    (let w : Work = at_work fields lowers at s in Came fields lowers before (fold took_of w more) (words ++ take (length (exchanged w more)) more) (from ++ exchanged w more))
came_by [] fields lowers before at s words from slots d r =
    rw (given-nil took_of (λ (v : Work) word. place_due v.machine) (at_work fields lowers at s), append-nil words, append-nil from) (record { at = at; counts = s; is = refl; due = d; slots = slots; law = r })
came_by (word ∷ more) fields lowers before None s words from slots d r =
    rw (idle_exchanges fields lowers s (word ∷ more), idle_stays fields lowers s (word ∷ more), append-nil words, append-nil from) (record { at = None; counts = s; is = refl; due = d; slots = slots; law = r })
came_by (word ∷ more) fields lowers before (Some a) s words from slots d r =
    let w : Work = at_work fields lowers (Some a) s in
    let p : take 1 (places_from fields a.slot a.field) ≡ place_of a.slot a.field fields ∷ [] = ap (take 1) (places_step fields a.slot a.field d) in
    let c = came_more fields lowers before a s words from slots word d r in
    let v : Work = at_work fields lowers c.at c.counts in
    let is : took_of w word ≡ v = took_some fields lowers a s word ∙ c.is in
    let due : exchanged w (word ∷ more) ≡ place_of a.slot a.field fields ∷ exchanged v more =
    given-cons took_of (λ (u : Work) due. place_due u.machine) w word more ∙ ap (λ ps. ps ++ exchanged (took_of w word) more) p ∙ ap (λ (u : Work). place_of a.slot a.field fields ∷ exchanged u more) is in
    one_first (Came fields lowers before (fold took_of w (word ∷ more))) words from more (exchanged w (word ∷ more)) (exchanged v more) word (place_of a.slot a.field fields) due
    (subst (λ (u : Work). Came fields lowers before (fold took_of u more) ((words ++ word ∷ []) ++ take (length (exchanged v more)) more) ((from ++ place_of a.slot a.field fields ∷ []) ++ exchanged v more)) (sym is)
    (came_by more fields lowers before c.at c.counts (words ++ word ∷ []) (from ++ place_of a.slot a.field fields ∷ []) c.slots c.due
    (subst (λ ps. Released fields before c.at c.counts (words ++ word ∷ []) (from ++ ps) c.slots) p c.law)))

-- a whole release
pub whole_release : (fields : ℕ) (lowers : Bool) (before : State) (words : List ℕ) → 0 < fields → IsReady before → HasReleased fields lowers before words
unfolding started_of
whole_release fields lowers before words f k =
    let w : Work = with_next fields lowers before in
    let b = came_first fields lowers before f k in
    let c : Came fields lowers before (fold took_of w words) (take (length (exchanged w words)) words) (exchanged w words) = rw b.is (came_by words fields lowers before b.at b.counts [] [] b.slots b.due b.law) in
    (c.slots, subst (λ (v : Work). Released fields before v.machine.at v.counts (take (length (exchanged w words)) words) (exchanged w words) c.slots) (sym c.is) c.law)

-- what a word leaves, as its call tells
pub record Goes (fields : ℕ) (lowers : Bool) (s : State) (w : Work) : Type 0 where
  pub kept : IsAtWork w.machine w.counts
  pub done : IsNone (next_of w.machine) → w.counts.zeros ≡ []
  pub keeps : Keeps lowers s w.counts

goes_if : (b lowers : Bool) (fields : ℕ) (a : At) (s : State) (t : Option ℕ) → ltb (a.field + 1) fields ≡ b → IsAtWork (record { fields = fields; at = Some a; lowers = lowers }) s → IfSome t (λ x. 0 < (slot_at s x).count) →
    Goes fields lowers s (cond b (at_work fields lowers (Some (record { slot = a.slot; field = a.field + 1 })) (taken_off lowers s t)) (with_next fields lowers (emptied (taken_off lowers s t) a.slot)))
unfolding next_of
goes_if true lowers fields a s t l k h = record { kept = work_on fields lowers a s t k (ltb-true (a.field + 1) fields l); done = λ n. cc; keeps = off_keeps lowers s t h }
goes_if false lowers fields a s t l k h =
    record { kept = work_last fields lowers a s t k; done = none_left fields lowers (emptied (taken_off lowers s t) a.slot); keeps = last_keeps lowers s t a.slot k.held.released k.ready h }

pub goes_on : (fields : ℕ) (lowers : Bool) (a : At) (s : State) (t : Option ℕ) → IsAtWork (record { fields = fields; at = Some a; lowers = lowers }) s → IfSome t (λ x. 0 < (slot_at s x).count) → Goes fields lowers s (gone_on fields lowers a (taken_off lowers s t))
goes_on fields lowers a s t k h = goes_if (ltb (a.field + 1) fields) lowers fields a s t refl k h

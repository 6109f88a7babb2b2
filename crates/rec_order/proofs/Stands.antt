-- What the last moment of an order shows of the heap, and what it shows after each kind of move.
use Rattle.std.proofs.Common.{◌≡◌, inl, inr, ℕ, ◌+◌, ◌%◌, ◌<◌, Bool, true, false, if◌then◌else◌, length, slice_index_or, slice_set, refl, sym, ap, subst, ◌∙◌, arith}
use Rattle.std.proofs.lemmas.Bool.{cases_eq, false≢true}
use Rattle.std.proofs.lemmas.List.{get_or-set_same, get_or-set_other}
use Rattle.rec_word.specs.Header.{header_word}
use Rattle.rec_model.specs.declared.command.Cmd.{Cmd}
use Rattle.rec_model.specs.declared.command.Cmd.TheVariants as commands
use Rattle.rec_model.specs.declared.told.Told.{Told}
use Rattle.rec_model.specs.Asking.{asked, is_done, IsTold}
use Rattle.rec_model.specs.Explained.{GoesOnBy, with_number}
use Rattle.rec_model.specs.Heap.{Heap}
use Rattle.rec_model.specs.LegalOrder.{Limits, Moment, after_answer, after as moment_after, is_birth, Fits}
use Rattle.rec_model.specs.LegalOrder.Event.{Frees, Marks}
use Rattle.rec_model.specs.Sight.{Sight, IsTaken, Reaches, StandsBy, IsSound}
use Rattle.rec_model.specs.Unfreed.{AreUnfreed}
use Rattle.rec_model.proofs.Births.{births}
use Rattle.rec_model.proofs.Lives.{unreached_is_dead}
use Rattle.rec_model.proofs.Standing.{taken_is_other}
use Rattle.rec_model.proofs.Unfreed.{taken_or_free, unfreed_after, unfreed_after_free, unfreed_same}
use Rattle.rec_core.specs.Core.{Core, sight}
use Rattle.rec_core.specs.StepAnswers.{IsDecided, IsBirthplace, sight_told, sight_with_birth}
use Rattle.rec_core.specs.Swept.{swept}
use Rattle.rec_order.specs.Naming.{Naming, born_in}
use Rattle.rec_order.proofs.Agreement.{agree_goes_on}
use Rattle.rec_model.proofs.Standing.{with_number-same, with_number-other}
use Rattle.rec_collector.specs.Kept.{swept_at}

-- The moment's heap stands for the world by this naming, and the unfreed objects are those in taken slots; marks are counted as
-- the world counts them; a sweep that has freed a slot has freed an object since the last mark; and each object that is unfreed is
-- in its home.
pub record Stands (w : Core) (m : Moment) (n : Naming) (home : ℕ → ℕ) : Type 0 where
  pub stands : StandsBy m.heap (sight w) n.number
  pub next : n.next ≡ length m.heap.objects
  pub unfreed : AreUnfreed (sight w) n.number m.unfreed
  pub marks : m.marks ≡ w.freed
  pub frees : 0 < swept w → m.frees ≡ true
  pub homes : (s : ℕ) → IsTaken (sight w) s → home (n.number s) ≡ s

-- a move that nobody sees
pub stands_unseen : (w v : Core) (m : Moment) (n : Naming) (home : ℕ → ℕ) → sight v ≡ sight w → v.freed ≡ w.freed → (0 < swept v → 0 < swept w) → Stands w m n home → Stands v m n home
stands_unseen w v m n home seen freed less so =
    record {
      stands = subst (λ (s : Sight). StandsBy m.heap s n.number) (sym seen) so.stands;
      next = so.next;
      unfreed = subst (λ (s : Sight). AreUnfreed s n.number m.unfreed) (sym seen) so.unfreed;
      marks = so.marks ∙ sym freed;
      frees = λ some. so.frees (less some);
      homes = subst (λ (x : Sight). (s : ℕ) → IsTaken x s → home (n.number s) ≡ s) (sym seen) so.homes;
    }

-- a turn of the collector that changes no header
stands_same : (w v : Core) (m k : Moment) (n : Naming) (home : ℕ → ℕ) → StandsBy m.heap (sight v) n.number → v.headers ≡ w.headers → k.heap ≡ m.heap → k.unfreed ≡ m.unfreed → k.marks ≡ v.freed
    → (0 < swept v → k.frees ≡ true) → Stands w m n home → Stands v k n home
stands_same w v m k n home stands headers heap unfreed marks frees so =
    record {
      stands = subst (λ (h : Heap). StandsBy h (sight v) n.number) (sym heap) stands;
      next = so.next ∙ ap (λ (h : Heap). length h.objects) (sym heap);
      unfreed = subst (AreUnfreed (sight v) n.number) (sym unfreed) (unfreed_same (sight w) (sight v) n.number m.unfreed headers so.unfreed);
      marks = marks;
      frees = frees;
      homes = λ s taken. so.homes s (subst (λ hs. 0 < slice_index_or hs s 0) headers taken);
    }

-- a turn that rests
pub stands_rested : (w v : Core) (m : Moment) (n : Naming) (home : ℕ → ℕ) → StandsBy m.heap (sight v) n.number → v.headers ≡ w.headers → v.freed ≡ w.freed → (0 < swept v → 0 < swept w)
    → Stands w m n home → Stands v m n home
stands_rested w v m n home stands headers freed less so = stands_same w v m m n home stands headers refl refl (so.marks ∙ sym freed) (λ some. so.frees (less some)) so

-- a turn that begins or ends a sweep
pub marks_fit : (limits : Limits) (w : Core) (m : Moment) (n : Naming) (home : ℕ → ℕ) → (w.freed % 2 ≡ 1 → 0 < swept w) → Stands w m n home → Fits limits m Marks
marks_fit limits w m n home freed_one so odd = so.frees (freed_one (ap (λ x. x % 2) (sym so.marks) ∙ odd))

-- after the mark
pub stands_marked : (limits : Limits) (w v : Core) (m : Moment) (n : Naming) (home : ℕ → ℕ) → StandsBy m.heap (sight v) n.number → v.headers ≡ w.headers → v.freed ≡ w.freed + 1 → swept v ≡ 0
    → Stands w m n home → Stands v (moment_after limits m Marks) n home
stands_marked limits w v m n home stands headers freed none so =
    stands_same w v m (moment_after limits m Marks) n home stands headers refl refl (ap (λ x. x + 1) so.marks ∙ sym freed) (λ some. absurd (omega (arith, some, none))) so

-- a turn that frees a slot
pub frees_fit : (limits : Limits) (w : Core) (m : Moment) (n : Naming) (home : ℕ → ℕ) (slot : ℕ) → IsSound (sight w) → IsTaken (sight w) slot → (Reaches (sight w) slot → ⊥) → w.freed % 2 ≡ 1
    → Stands w m n home → Fits limits m (Frees (n.number slot))
frees_fit limits w m n home slot sound taken out odd so = (
  so.unfreed.there slot taken,
  unreached_is_dead m.heap (sight w) n.number so.stands slot sound taken out,
  ap (λ x. x % 2) so.marks ∙ odd,
)

-- after the freeing
pub stands_freed : (limits : Limits) (w v : Core) (m : Moment) (n : Naming) (home : ℕ → ℕ) (slot : ℕ) → StandsBy m.heap (sight v) n.number → IsTaken (sight w) slot → v.headers ≡ slice_set w.headers slot 0 → v.freed ≡ w.freed
    → ((s : ℕ) → IsTaken (sight v) s → IsTaken (sight w) s) → Stands w m n home → Stands v (moment_after limits m (Frees (n.number slot))) n home
stands_freed limits w v m n home slot stands taken headers freed was so =
    record {
      stands = stands;
      next = so.next;
      unfreed = unfreed_after_free m.heap (sight w) (sight v) n.number slot m.unfreed so.stands taken headers so.unfreed;
      marks = so.marks ∙ sym freed;
      frees = λ _. refl;
      homes = λ s now. so.homes s (was s now);
    }

birth_header : (w : Sight) (slot t reg label : ℕ) (leaf done : Bool) → done ≡ true → (header : ℕ) × (0 < header) × ((if done then sight_with_birth w t reg slot (header_word leaf label) else w).headers ≡ slice_set w.headers slot header)
birth_header w slot t reg label leaf done birth = (header_word leaf label, omega arith, ap (λ (b : Bool). (if b then sight_with_birth w t reg slot (header_word leaf label) else w).headers) birth)

-- the header that a birth leaves
pub birth_headers : (w : Sight) (slot t : ℕ) (cmd : Cmd) (told : Told) → is_birth (cmd, told) ≡ true → (header : ℕ) × (0 < header) × ((sight_told w slot t cmd told).headers ≡ slice_set w.headers slot header)
birth_headers w slot t (commands.New reg label) told birth = birth_header w slot t reg label false (is_done told.answer) birth
birth_headers w slot t (commands.Leaf reg label) told birth = birth_header w slot t reg label true (is_done told.answer) birth
birth_headers w slot t _ told birth = cc

-- the slot of a birth is taken then
pub born_taken : (w v : Core) (slot t : ℕ) (cmd : Cmd) (told : Told) → length w.headers ≡ w.config.slots → is_birth (cmd, told) ≡ true → IsBirthplace w t slot → sight v ≡ sight_told (sight w) slot t cmd told → IsTaken (sight v) slot
born_taken w v slot t cmd told headers birth place seen =
    let (header, some, left) = birth_headers (sight w) slot t cmd told birth in
    let now : v.headers ≡ slice_set w.headers slot header = ap (λ (x : Sight). x.headers) seen ∙ left in
    let is : slice_index_or v.headers slot 0 ≡ header = ap (λ hs. slice_index_or hs slot 0) now ∙ get_or-set_same w.headers slot header 0 (subst (λ x. slot < x) (sym headers) place.there) in
    omega (arith, is, some)

-- How the naming and the homes go on with an answer: a birth in this slot, or none.
pub data NamesOn (w : Core) (t : ℕ) (cmd : Cmd) (told : Told) (v : Core) (n : Naming) (home : ℕ → ℕ) : Naming → (ℕ → ℕ) → Type 0 where
  born : (slot : ℕ) → is_birth (cmd, told) ≡ true → IsBirthplace w t slot → sight v ≡ sight_told (sight w) slot t cmd told → NamesOn w t cmd told v n home (born_in n slot) (with_number home n.next slot)
  same : is_birth (cmd, told) ≡ false → NamesOn w t cmd told v n home n home

module _ (limits : Limits) (w v : Core) (m : Moment) (n : Naming) (home : ℕ → ℕ) (t : ℕ) (cmd : Cmd) (told : Told) (same_fields : limits.fields ≡ w.config.fields) (headers : length w.headers ≡ w.config.slots)
    (sound : IsSound (sight v)) (collector : v.collector ≡ w.collector) (said : IsDecided w t cmd told v) (so : Stands w m n home) where
  -- what asking gives, and the heap that then stands for the world
  pub explained : IsTold limits.fields m.heap t cmd told × ((later : ℕ → ℕ) × GoesOnBy (asked limits.fields m.heap t cmd told).heap (sight w) (sight v) n.number later (length m.heap.objects))
  explained =
      subst (λ x. IsTold x m.heap t cmd told × ((later : ℕ → ℕ) × GoesOnBy (asked x m.heap t cmd told).heap (sight w) (sight v) n.number later (length m.heap.objects)))
      (sym same_fields) (said.explained m.heap n.number so.stands)

  -- the objects that there are then
  grown : length (asked limits.fields m.heap t cmd told).heap.objects ≡ length m.heap.objects + (if is_birth (cmd, told) then 1 else 0)
  grown = births limits.fields m.heap t cmd told

  -- where an object was born, the slot that holds one anew is its own
  born_here : (slot s : ℕ) → is_birth (cmd, told) ≡ true → sight v ≡ sight_told (sight w) slot t cmd told → IsTaken (sight v) s → (IsTaken (sight w) s → ⊥) → s ≡ slot
  born_here slot s birth seen taken new = elim (cases_eq s slot) [
    | inl is ↦ is
    | inr other ↦
        let (header, some, left) = birth_headers (sight w) slot t cmd told birth in
        let now : v.headers ≡ slice_set w.headers slot header = ap (λ (x : Sight). x.headers) seen ∙ left in
        absurd (new (subst (λ x. 0 < x) (ap (λ hs. slice_index_or hs s 0) now ∙ get_or-set_other w.headers slot s header 0 other) taken))
  ]

  -- after an answer
  pub stands_answered : (k : Naming) (homes : ℕ → ℕ) → NamesOn w t cmd told v n home k homes → Stands v (after_answer limits m t (cmd, told)) k homes
  stands_answered k homes (NamesOn.born slot birth place seen) =
      let later : ℕ → ℕ = explained.1.0 in
      let on : GoesOnBy (asked limits.fields m.heap t cmd told).heap (sight w) (sight v) n.number later (length m.heap.objects) = explained.1.1 in
      let agree : (s : ℕ) → IsTaken (sight v) s → later s ≡ with_number n.number slot n.next s = λ s taken. elim (taken_or_free (sight w) s) [
        | inl old ↦ (on.kept s old).1 ∙ sym (with_number-other n.number slot n.next s (taken_is_other (sight w) slot s place.free old))
        | inr new ↦ on.born s taken new ∙ sym so.next ∙ sym (with_number-same n.number slot n.next) ∙ ap (with_number n.number slot n.next) (sym (born_here slot s birth seen taken new))
      ] in
      let goes : GoesOnBy (asked limits.fields m.heap t cmd told).heap (sight w) (sight v) n.number (with_number n.number slot n.next) (length m.heap.objects)
      = agree_goes_on (asked limits.fields m.heap t cmd told).heap (sight w) (sight v) n.number later (with_number n.number slot n.next) (length m.heap.objects) sound agree on in
      record {
        stands = goes.stands;
        next = let more : length (asked limits.fields m.heap t cmd told).heap.objects ≡ length m.heap.objects + 1 = grown ∙ ap (λ (b : Bool). length m.heap.objects + (if b then 1 else 0)) birth in ap (λ x. x + 1) so.next ∙ sym more;
        unfreed = unfreed_after limits.fields m.heap (sight w) (sight v) n.number (with_number n.number slot n.next) t cmd told m.unfreed so.stands goes
            (λ _. (slot, born_taken w v slot t cmd told headers birth place seen, with_number-same n.number slot n.next ∙ so.next)) so.unfreed;
        marks = so.marks ∙ sym said.freed;
        frees = λ some. so.frees (subst (λ c. 0 < swept_at c.phase) collector some);
        homes = λ s taken. elim (taken_or_free (sight w) s) [
          | inl old ↦
              let here : with_number n.number slot n.next s ≡ n.number s = with_number-other n.number slot n.next s (taken_is_other (sight w) slot s place.free old) in
              let below : n.number s < length m.heap.objects = so.stands.there s old in
              let next_is : n.next ≡ length m.heap.objects = so.next in
              ap (with_number home n.next slot) here ∙ with_number-other home n.next slot (n.number s) (λ same. omega (arith, below, next_is, same)) ∙ so.homes s old
          | inr new ↦
              let is : s ≡ slot = born_here slot s birth seen taken new in
              ap (λ x. with_number home n.next slot (with_number n.number slot n.next x)) is ∙ ap (with_number home n.next slot) (with_number-same n.number slot n.next) ∙ with_number-same home n.next slot ∙ sym is
        ];
      }
  stands_answered k homes (NamesOn.same unborn) =
      let later : ℕ → ℕ = explained.1.0 in
      let on : GoesOnBy (asked limits.fields m.heap t cmd told).heap (sight w) (sight v) n.number later (length m.heap.objects) = explained.1.1 in
      let few : length (asked limits.fields m.heap t cmd told).heap.objects ≡ length m.heap.objects + 0 = grown ∙ ap (λ (b : Bool). length m.heap.objects + (if b then 1 else 0)) unborn in
      let none : (s : ℕ) → IsTaken (sight v) s → (IsTaken (sight w) s → ⊥) → ⊥ = λ s taken new.
      let below : later s < length (asked limits.fields m.heap t cmd told).heap.objects = on.stands.there s taken in
      let is : later s ≡ length m.heap.objects = on.born s taken new in
      omega (arith, below, is, few) in
      let was : (s : ℕ) → IsTaken (sight v) s → IsTaken (sight w) s = λ s taken. elim (taken_or_free (sight w) s) [ inl old ↦ old | inr new ↦ absurd (none s taken new) ] in
      let goes : GoesOnBy (asked limits.fields m.heap t cmd told).heap (sight w) (sight v) n.number n.number (length m.heap.objects)
      = agree_goes_on (asked limits.fields m.heap t cmd told).heap (sight w) (sight v) n.number later n.number (length m.heap.objects) sound (λ s taken. (on.kept s (was s taken)).1) on in
      record {
        stands = goes.stands;
        next = so.next ∙ sym (omega (arith, few));
        unfreed = unfreed_after limits.fields m.heap (sight w) (sight v) n.number n.number t cmd told m.unfreed so.stands goes (λ birth. absurd (false≢true (sym unborn ∙ birth))) so.unfreed;
        marks = so.marks ∙ sym said.freed;
        frees = λ some. so.frees (subst (λ c. 0 < swept_at c.phase) collector some);
        homes = λ s taken. so.homes s (was s taken);
      }

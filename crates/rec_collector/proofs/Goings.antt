-- What a word that came out makes of the parts, and what the test of a set makes of them, by cases.
use Rattle.std.proofs.Common.{◌≡◌, ℕ, zero, suc, ◌+◌, ◌-◌, ◌<◌, ◌≤◌, min, Bool, true, false, cond, ltb, is_some, Option, None, Some, IsSome, List, [], ◌∷◌, length, get_or, slice_get, refl, arith, sym, ◌∙◌, ap, subst}
use Rattle.std.proofs.lemmas.List.{length-map, length-set, length-take}
use Rattle.std.proofs.lemmas.Bool.{false≢true, ltb-true, ltb-false}
use Rattle.rec_collector.proofs.Common.{State, slot_at, out_of_set, emptied, with_next, KeepsMost, off_most, coloured, fate_at, relieved, with_freed, with_released, Parts, Begun, counted_by, last_tested, tested, tested_as, verdict_of, with_freeing, with_release, zeros_released, Phase, Freeing, Releasing, Passed, Touched, Held}
use Rattle.rec_word.specs.Word.{target_of}
use Rattle.rec_counts.specs.Groups.{earlier_sets, last_set}
use Rattle.rec_release.specs.CycleFree as frees
use Rattle.rec_release.specs.CycleFree.{started_of as freeing_started, took_of as freed_of}
use Rattle.rec_release.specs.Release as releases
use Rattle.rec_release.specs.Release.{started_of as zeros_started, took_of as released_of}
use Rattle.rec_release.specs.TakenOff.{taken_off}
use Rattle.rec_release.specs.declared.at.At.{At}
use Rattle.rec_word.specs.declared.member.Member.{Member}
use Rattle.rec_word.specs.Walk as walks
use Rattle.rec_release.proofs.Keeping.{next_sets}
use Rattle.rec_sigma.specs.declared.fate.Fate.{Fate}
use Rattle.rec_sigma.specs.declared.fate.Fate.TheVariants.{Free}
use Rattle.rec_sigma.specs.Settling.{refurbished_of, settled, settled_all}
use Rattle.rec_sigma.proofs.Renewals.{dropped}
use Rattle.rec_collector.specs.declared.verdict.Verdict.{Verdict}

-- nothing is at work, or something is
none_some : {A : Type 0} {P : Type 0} (o : Option A) → o ≡ None → IsSome o → P
none_some o e s = absurd (false≢true (sym (ap is_some e) ∙ s))

-- the counts once the reference that came out is taken off, in a release and in the freeing of a set
abbrev pub released_off : releases.Machine → Parts → (word : ℕ) → State
released_off m w word = taken_off m.lowers w.counts (target_of word)

abbrev pub freed_off : Parts → (word : ℕ) → State
freed_off w word = taken_off true w.counts (target_of word)

-- what it leaves
pub released_most : (m : releases.Machine) (w : Parts) (word : ℕ) → KeepsMost w.counts (released_off m w word)
released_most m w word = off_most m.lowers w.counts (target_of word)

pub freed_most : (w : Parts) (word : ℕ) → KeepsMost w.counts (freed_off w word)
freed_most w word = off_most true w.counts (target_of word)

-- the parts with these counts
abbrev pub with_counts : Parts → State → Parts
with_counts w s = record w { counts = s }

-- nothing was begun
abbrev pub still : Parts → Begun
still w = record { parts = w; phase = None }

-- the next of the zeros is
abbrev pub next_begun : (fields : ℕ) (lowers : Bool) → Parts → Begun
next_begun fields lowers w = with_release w (with_next fields lowers w.counts)

-- the release goes on with the next field of its slot
abbrev pub released_more : releases.Machine → Parts → (word : ℕ) → At → Begun
released_more m w word a =
    record { parts = with_counts w (released_off m w word); phase = Some (Releasing (record { fields = m.fields; at = Some (record { slot = a.slot; field = a.field + 1 }); lowers = m.lowers })) }

-- or its slot is emptied, and the next of the zeros is released
abbrev pub released_emptied : releases.Machine → Parts → (word : ℕ) → At → Parts
released_emptied m w word a = with_counts w (emptied (released_off m w word) a.slot)

abbrev pub released_last : releases.Machine → Parts → (word : ℕ) → At → Begun
released_last m w word a = next_begun m.fields m.lowers (released_emptied m w word a)

pub released_by : (P : Begun → Type 0) (m : releases.Machine) (w : Parts) (word : ℕ) → IsSome m.at →
    ((a : At) → m.at ≡ Some a → a.field + 1 < m.fields → P (released_more m w word a)) →
    ((a : At) → m.at ≡ Some a → m.fields ≤ a.field + 1 → P (released_last m w word a)) → P (with_released m w word)
unfolding released_of
released_by P m w word busy more last =
    (elim m.at as (λ at. m.at ≡ at → P (with_release w (releases.took_at (record { machine = m; counts = w.counts }) word at))) [ None ↦ λ e. none_some m.at e busy | Some a ↦ λ e. gone a e (ltb (a.field + 1) m.fields) refl ]) refl
  where
    gone : (a : At) → m.at ≡ Some a → (b : Bool) → ltb (a.field + 1) m.fields ≡ b →
        P (with_release w (cond b (record { machine = record { fields = m.fields; at = Some (record { slot = a.slot; field = a.field + 1 }); lowers = m.lowers }; counts = released_off m w word }) (with_next m.fields m.lowers (emptied (released_off m w word) a.slot))))
    gone a e true f = more a e (ltb-true (a.field + 1) m.fields f)
    gone a e false f = last a e (ltb-false (a.field + 1) m.fields f)

-- the freeing goes on with this field
abbrev pub freed_on : frees.Machine → Parts → (word : ℕ) → Member → Begun
freed_on m w word b = record { parts = with_counts w (freed_off w word); phase = Some (Freeing (record { fields = m.fields; at = Some b })) }

-- the next field of its member, and the first of the next member
abbrev pub field_behind : Member → Member
field_behind a = record { index = a.index; slot = a.slot; field = a.field + 1 }

abbrev pub member_behind : List ℕ → Member → Member
member_behind work a = record { index = a.index + 1; slot = get_or work (a.index + 1) 0; field = 0 }

-- or it ends, and the zeros are released
abbrev pub freed_listed : Parts → (word : ℕ) → Parts
freed_listed w word = with_counts w (frees.listed (freed_off w word))

abbrev pub freed_last : Parts → (word : ℕ) → Begun
freed_last w word = zeros_released true (freed_listed w word)

pub freed_by : (P : Begun → Type 0) (m : frees.Machine) (w : Parts) (word : ℕ) → IsSome m.at →
    ((a : Member) → m.at ≡ Some a → a.field + 1 < m.fields → P (freed_on m w word (field_behind a))) →
    ((a : Member) → m.at ≡ Some a → m.fields ≤ a.field + 1 → a.index + 1 < length (freed_off w word).work → P (freed_on m w word (member_behind (freed_off w word).work a))) →
    ((a : Member) → m.at ≡ Some a → m.fields ≤ a.field + 1 → length (freed_off w word).work ≤ a.index + 1 → P (freed_last w word)) → P (with_freed m w word)
unfolding freed_of
freed_by P m w word busy more next last =
    (elim m.at as (λ at. m.at ≡ at → P (relieved w (frees.took_at (record { machine = m; counts = w.counts }) word at))) [ None ↦ λ e. none_some m.at e busy | Some a ↦ λ e. gone a e (ltb (a.field + 1) m.fields) refl ]) refl
  where
    off : State
    off = freed_off w word

    member : (a : Member) → m.at ≡ Some a → m.fields ≤ a.field + 1 → (b : Bool) → ltb (a.index + 1) (length off.work) ≡ b → P (relieved w (frees.work_of m.fields (frees.listed_behind off (walks.next_member_if b off.work a))))
    member a e l true f = next a e l (ltb-true (a.index + 1) (length off.work) f)
    member a e l false f = last a e l (ltb-false (a.index + 1) (length off.work) f)

    gone : (a : Member) → m.at ≡ Some a → (b : Bool) → ltb (a.field + 1) m.fields ≡ b → P (relieved w (frees.work_of m.fields (frees.listed_behind off (walks.else_member (walks.next_field_if b a) off.work a))))
    gone a e true f = more a e (ltb-true (a.field + 1) m.fields f)
    gone a e false f = member a e (ltb-false (a.field + 1) m.fields f) (ltb (a.index + 1) (length off.work)) refl

-- the last set passed its tests and is given up, or it was refused and is refurbished
abbrev pub last_given : Parts → Begun
last_given w =
    with_freeing (record w { sets = counted_by Passed w.sets }) (record { machine = record { fields = w.fields; at = walks.first_member (slice_get (last_set w.counts.sets) 0) }; counts = frees.given_up w.counts })

abbrev pub last_refused : Verdict → Parts → Parts
last_refused verdict w = record w { counts = refurbished_of w.counts; sets = counted_by verdict w.sets }

pub last_by : (P : Begun → Type 0) (w : Parts) → (verdict_of w.counts (length w.counts.sets - 1) ≡ Passed → P (last_given w)) → ((verdict : Verdict) → P (zeros_released true (last_refused verdict w))) → P (last_tested w)
unfolding last_tested freeing_started
last_by P w passed refused =
    (elim (verdict_of w.counts (length w.counts.sets - 1)) as (λ v. verdict_of w.counts (length w.counts.sets - 1) ≡ v → P (tested_as v w)) [ Passed ↦ λ e. passed e | Touched ↦ λ e. refused Touched | Held ↦ λ e. refused Held ]) refl

-- the sets, and the number of slots, of a state in which all members of the last set got their places
all_same : (first : Option ℕ) (xs : List ℕ) (s : State) → ((settled_all first xs s).sets ≡ s.sets) × (length (settled_all first xs s).slots ≡ length s.slots)
all_same first [] s = (refl, refl)
all_same first (x ∷ xs) s =
    let f : Fate = fate_at s first x in
    let more = all_same first xs (settled f s x) in
    (more.0 ∙ (one f).0, more.1 ∙ (one f).1)
  where
    one : (f : Fate) → ((settled f s x).sets ≡ s.sets) × (length (settled f s x).slots ≡ length s.slots)
    one Free = (refl, refl)
    one f = (refl, length-set s.slots x (coloured f (slot_at s x)))

refurbished_sets : (s : State) → (refurbished_of s).sets ≡ earlier_sets s.sets
unfolding refurbished_of
refurbished_sets s = (all_same (slice_get (last_set s.sets) 0) (last_set s.sets) (dropped s)).0

pub refurbished_many : (s : State) → length (refurbished_of s).slots ≡ length s.slots
unfolding refurbished_of
refurbished_many s = (all_same (slice_get (last_set s.sets) 0) (last_set s.sets) (dropped s)).1 ∙ length-map s.slots (out_of_set (length s.sets - 1))

-- the release of the zeros leaves the sets and the number of slots
zeros_sets : (lowers : Bool) (w : Parts) → (zeros_released lowers w).parts.counts.sets ≡ w.counts.sets
unfolding zeros_started
zeros_sets lowers w = next_sets w.counts

-- the test of the last set leaves the sets before it
pub last_sets : (w : Parts) → 0 < length w.counts.sets → length (last_tested w).parts.counts.sets + 1 ≡ length w.counts.sets
last_sets w some = last_by (λ b. length b.parts.counts.sets + 1 ≡ length w.counts.sets) w (λ e. omega (arith, some, fewer))
    (λ verdict. omega (arith, some, fewer, ap length (zeros_sets true (last_refused verdict w) ∙ refurbished_sets w.counts)))
  where
    fewer : length (earlier_sets w.counts.sets) ≡ min (length w.counts.sets - 1) (length w.counts.sets)
    fewer = length-take (length w.counts.sets - 1) w.counts.sets

-- a slot that is emptied stays, and so does the work list
pub emptied_same : (s : State) (y : ℕ) → ((x : ℕ) → slot_at (emptied s y) x ≡ slot_at s x) × ((emptied s y).work ≡ s.work)
emptied_same s y = elim (slot_at s y).buffered as (λ b. ((x : ℕ) → slot_at (releases.listed_if b s y) x ≡ slot_at s x) × ((releases.listed_if b s y).work ≡ s.work)) [ true ↦ (λ x. refl, refl) | false ↦ (λ x. refl, refl) ]

-- what the test of a set keeps, the tests of sets keep
pub tested_all : (P : Begun → Type 0) → ((w : Parts) → 0 < length w.counts.sets → P (still w) → P (last_tested w)) → (n : ℕ) (b : Begun) → n ≤ length b.parts.counts.sets → P b → P (tested n b)
unfolding tested
tested_all P step zero b l p = p
tested_all P step (suc n) b l p = go b.phase refl (λ e. tested_all P step n (last_tested b.parts) (omega (arith, l, last_sets b.parts (omega (arith, l)))) (step b.parts (omega (arith, l)) (subst (λ o. P (record { parts = b.parts; phase = o })) e p)))
  where
    go : (o : Option Phase) → b.phase ≡ o → (b.phase ≡ None → P (tested n (last_tested b.parts))) → P (cond (is_some o) b (tested n (last_tested b.parts)))
    go None e next = next e
    go (Some phase) e next = p

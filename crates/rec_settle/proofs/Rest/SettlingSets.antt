-- Where the words of the sets lead that a trial found.
use Rattle.std.proofs.Common.{◌≡◌, inl, inr, ℕ, ◌-◌, ◌*◌, ◌/◌, ◌%◌, ◌<◌, ◌≤◌, Bool, true, false, not, eqb, cond, Option, Some, None, List, [], ◌∷◌, length, get_or, refl, sym, ap, ◌∙◌, arith, IsNone, sum_by, ◌||◌}
use Rattle.std.specs.List.{count_by, range_with_len}
use Rattle.std.proofs.lemmas.Bool.Decides.{eqb_tells}
use Rattle.std.proofs.lemmas.Bool.{eq-eqb}
use Rattle.std.proofs.lemmas.List.Sums.{sum_by-cons}
use Rattle.std.proofs.lemmas.Nat.{div-add-mod'}
use Rattle.std.proofs.Math.Nat.{mod-lt}
use Rattle.rec_core.proofs.Common.{place_of, places_from, target_of, is_slot, sum_by_same, sum_by-map, sum_by-flat_map, State, slot_at, one, times, is_orange, is_green, no_set, some_set, times-nil, Load, stays}
use Rattle.rec_settle.specs.Resting.{AreLeaves}
use Rattle.rec_settle.specs.Settling.{offered_slots, IsOffered, IsGarbage, LeadsToEarlier, LeadsFromMembers, leading, heap_sum, AreEmptied, LeadBack}
use Rattle.rec_counts.specs.declared.colour.Colour.{Colour}
use Rattle.rec_counts.specs.declared.colour.Colour.TheVariants.{Orange}
use Rattle.rec_counts.specs.Counts.{IsKept}
use Rattle.rec_trial.specs.Loaded.{Run}
use Rattle.rec_trial.specs.Promised.{IsTrial}
use Rattle.rec_trial.specs.Still.{AreStill, IsExact, references, visible_words}
use Rattle.rec_trial.specs.Still as still
use Rattle.rec_trial.specs.Tried.{IsOver, is_of, loaded, edges, members}
use Rattle.rec_trial.specs.Trial.{next_of}
use Rattle.rec_settle.specs.Settling.{word_in}
use Rattle.rec_settle.proofs.Rest.SettlingFinds.{all_greened, garbage_unheld, times_offered, trial_finds_garbage, offered_inside, offered_where}
use Rattle.rec_settle.proofs.Rest.SettlingSums.{sum_at_same-from_get_or, sum_of_slots}
use Rattle.rec_trial.proofs.Visible.{seen_where_led}

-- what leads to a slot passes the test
leads_yes : (x : ℕ) (target : Option ℕ) → target ≡ Some x → is_slot x target ≡ true
leads_yes x target e = ap (is_slot x) e ∙ eq-eqb x x refl

-- a field that leads there was loaded no more often than words of its slot that lead there
edge_of : (word : ℕ → ℕ → ℕ) (n g x : ℕ) (loads : List Load) → AreStill word loads → target_of (word n g) ≡ Some x → loaded n g loads ≤ edges n x loads
unfolding loaded edges
edge_of word n g x [] a t = omega arith
edge_of word n g x (l ∷ loads) a t =
    omega (
      arith,
      sum_by-cons (λ k. one (is_of n g k)) l loads,
      sum_by-cons (λ (k : Load). one (cond (eqb n k.slot) (is_slot x (target_of k.word)) false)) l loads,
      edge_of word n g x loads a.1 t,
      here,
    )
  where
    leads : n ≡ l.slot → g ≡ l.field → is_slot x (target_of l.word) ≡ true
    leads p q = leads_yes x (target_of l.word) (ap target_of (a.0 ∙ ap (λ k. word k l.field) (sym p) ∙ ap (word n) (sym q)) ∙ t)

    here : one (is_of n g l) ≤ one (cond (eqb n l.slot) (is_slot x (target_of l.word)) false)
    here = elim (eqb_tells n l.slot) [
      | inl p ↦ elim (eqb_tells g l.field) [
        | inl q ↦ rw (p.0, leads p.1 q.1, q.0) (omega arith)
        | inr q ↦ rw (p.0, q.0) (omega arith)
      ]
      | inr p ↦ rw p.0 (omega arith)
    ]

-- Words between sets lead from later sets to earlier ones.
words_lead_to_earlier_sets : (fields : ℕ) (before : State) (words : List ℕ) (r : Run) (word : (slot field : ℕ) → ℕ) → IsTrial fields before words r → IsNone (next_of r.work.machine) → AreStill word r.collecting → LeadsToEarlier fields word r.work.counts
words_lead_to_earlier_sets fields before words r word t none c n g x i j below from to is_i is_j leads =
    let w = t.whole none in
    let o : IsOver fields before r w.0 = w.1 in
    o.none_later n x i j (omega (arith, edge_of word n g x r.collecting c leads, o.collecting n g below, from)) to is_i is_j

-- Of the slots that are not released, members alone lead to members.
only_members_lead_to_members : (fields : ℕ) (before : State) (words : List ℕ) (r : Run) (word : (slot field : ℕ) → ℕ) (holds : ℕ → ℕ) → IsTrial fields before words r → IsNone (next_of r.work.machine) → AreStill (visible_words before word) r.marking → AreStill (visible_words before word) r.blackening → IsOffered fields word holds before → LeadsFromMembers fields word r.work.counts
only_members_lead_to_members fields before words r word holds t none m b a n g x below unreleased leads to =
    let e = t.exact word none m b in
    let other : is_green (slot_at before x).colour ≡ false = ((trial_finds_garbage fields before words r word holds t none m b a).only x to).other in
    let exact : IsExact fields word before r e.0 = e.2 in
    exact.unheld_members n (all_greened word holds e.1 exact a n (offered_where (slot_at before n) (sym (t.careful.released n) ∙ unreleased) (a.other n g x below leads))) (λ p. exact.members_unheld x to (still.IsHeld.along p g below leads other))

-- The number of fields of such slots that lead to one, as a sum over the words of the heap.
pub references_in_words : (fields : ℕ) (words : List ℕ) (s : State) (x : ℕ) → 0 < fields → length words ≡ length s.slots * fields → AreEmptied fields words [] s → AreLeaves fields words s
    → references fields (word_in fields words) (offered_slots s) x ≡ heap_sum words x
references_in_words fields words s x some long empty leaves =
    let word : ℕ → ℕ → ℕ = word_in fields words in
    let f : ℕ → ℕ = λ p. leading x (get_or words p 0) in
    let ns : List ℕ = offered_slots s in
    sum_by_same (λ n. count_by (λ g. is_slot x (target_of (word n g))) (range_with_len 0 fields)) (λ n. sum_by f (places_from fields n 0)) ns row
    ∙ sym (sum_by-flat_map f (λ n. places_from fields n 0) ns)
    ∙ sum_of_slots f fields ns words (length s.slots) some long (offered_inside s)
    ∙ sum_at_same-from_get_or (λ p (w : ℕ). times (p / fields) ns * f p) (λ p w. leading x w) words 0 (λ p l. there p l (stays (slot_at s (p / fields))) refl)
  where
    row : (n : ℕ) → count_by (λ g. is_slot x (target_of (word_in fields words n g))) (range_with_len 0 fields) ≡ sum_by (λ p. leading x (get_or words p 0)) (places_from fields n 0)
    row n =
        let all : fields ≡ fields - 0 = omega arith in
        sum_by_same (λ g. one (is_slot x (target_of (word_in fields words n g)))) (λ g. leading x (get_or words (place_of n g fields) 0)) (range_with_len 0 fields) (λ g. refl)
        ∙ ap (λ k. sum_by (λ g. leading x (get_or words (place_of n g fields) 0)) (range_with_len 0 k)) all
        ∙ sym (sum_by-map (λ p. leading x (get_or words p 0)) (λ g. place_of n g fields) (range_with_len 0 (fields - 0)))

    dead : (p : ℕ) → p < length words → (r : Bool) → (slot_at s (p / fields)).released ≡ r → stays (slot_at s (p / fields)) ≡ true → target_of (get_or words p 0) ≡ None
    dead p l true r e = empty p l r (times-nil p)
    dead p l false r e = leaves p l (sym (ap (λ b. b || is_green (slot_at s (p / fields)).colour) r) ∙ e)

    there : (p : ℕ) → p < length words → (b : Bool) → stays (slot_at s (p / fields)) ≡ b → times (p / fields) (offered_slots s) * leading x (get_or words p 0) ≡ leading x (get_or words p 0)
    there p l true e =
        let t : target_of (get_or words p 0) ≡ None = dead p l (slot_at s (p / fields)).released refl e in
        let z : leading x (get_or words p 0) ≡ 0 = ap (λ o. one (is_slot x o)) t in
        rw z (omega arith)
    there p l false e = rw (times_offered s (p / fields) ∙ ap (λ b. one (not b)) e) (omega arith)

-- what is Orange
orange_of : (c : Colour) → 0 < one (is_orange c) → c ≡ Orange
orange_of Orange h = refl
orange_of _ h = absurd (omega arith)

-- a member is in a set
member_some : (s : State) (x : ℕ) → IsKept s → 0 < times x (members s) → (slot_at s x).set ≡ None → ⊥
member_some s x k m e = absurd (omega (arith, m, no_set k x e))

module _ (fields : ℕ) (before : State) (words : List ℕ) (heap : List ℕ) (r : Run) (holds : ℕ → ℕ) (t : IsTrial fields before words r) (none : IsNone (next_of r.work.machine)) (marks : AreStill (visible_words before (word_in fields heap)) r.marking) (blacks : AreStill (visible_words before (word_in fields heap)) r.blackening) (finds : AreStill (visible_words before (word_in fields heap)) r.collecting) (a : IsOffered fields (word_in fields heap) holds before) (kept : IsKept r.work.counts) (long : length heap ≡ length before.slots * fields) (empty : AreEmptied fields heap [] before)
    (leaves : AreLeaves fields heap before) where
  abbrev after : State
  after = r.work.counts

  field_within : (p : ℕ) → p % fields < fields
  field_within p = mod-lt p t.wide

  there : (p : ℕ) → word_in fields heap (p / fields) (p % fields) ≡ get_or heap p 0
  there p = ap (λ q. get_or heap q 0) (div-add-mod' p fields)

  is_member : (x i : ℕ) → (slot_at after x).set ≡ Some i → 0 < times x (members after)
  is_member x i e = some_set kept x i e

  -- a member was garbage, so it isn't Green
  garbage : (x i : ℕ) → (slot_at after x).set ≡ Some i → IsGarbage fields (word_in fields heap) holds before x
  garbage x i e = (trial_finds_garbage fields before words r (word_in fields heap) holds t none marks blacks a).only x (is_member x i e)

  leads_in : (p x : ℕ) → target_of (get_or heap p 0) ≡ Some x → target_of (word_in fields heap (p / fields) (p % fields)) ≡ Some x
  leads_in p x h = ap target_of (there p) ∙ h

  -- So once a trial is over that was offered every slot, its sets lead back.
  pub found_lead_back : LeadBack fields heap [] r.work.counts
  found_lead_back =
      let w = t.whole none in
      let o : IsOver fields before r w.0 = w.1 in
      record {
        orange = λ x i e. orange_of (slot_at after x).colour (omega (arith, o.members_orange x, is_member x i e));
        unreleased = λ x i e. t.careful.released x ∙ t.careful.sets_unreleased x (is_member x i e);
        emptied = λ p l e z. empty p l (sym (t.careful.released (p / fields)) ∙ e) z;
        earlier = λ p x i j l e f h. words_lead_to_earlier_sets fields before words r (visible_words before (word_in fields heap)) t none finds (p / fields) (p % fields) x i j (field_within p) (is_member (p / fields) i e) (is_member x j f) e f (seen_where_led before (word_in fields heap (p / fields) (p % fields)) x (garbage x j f).other (leads_in p x h));
        members = λ p x j l u e f h. member_some after (p / fields) kept (only_members_lead_to_members fields before words r (word_in fields heap) holds t none marks blacks a (p / fields) (p % fields) x (field_within p) u (leads_in p x h) (is_member x j f)) e;
      }

  -- And the count of a member is the number of fields that lead to it.
  pub found_counts : (x i : ℕ) → (slot_at r.work.counts x).set ≡ Some i → (slot_at r.work.counts x).count ≡ heap_sum heap x
  found_counts x i e =
      let g : IsGarbage fields (word_in fields heap) holds before x = garbage x i e in
      omega (arith, t.careful.counts x, a.counted x (offered_where (slot_at before x) g.unreleased g.other), garbage_unheld fields (word_in fields heap) holds before x g, references_in_words fields heap before x t.wide long empty leaves)

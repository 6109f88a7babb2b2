-- As long as the members of a set that waits for its tests are all Orange, each is pending, or on a path of fields within the set from
-- its first member. That is so from the trial on that found the set, in any state of any run.
use Rattle.std.proofs.Common.{◌≡◌, ◌≢◌, ◌⊎◌, inl, inr, ℕ, zero, suc, ◌+◌, ◌-◌, ◌<◌, ◌≤◌, nat_lt, true, false, Bool, Option, None, Some, IfSome, List, [], ◌∷◌, ◌++◌, length, slice_get, slice_index_or, refl, sym, ap, subst, ◌∙◌, arith}
use Rattle.std.specs.List.{concat}
use Rattle.std.proofs.lemmas.Bool.{cases_eq, cases_lt, false≢true, ltb-true, ne_eqb}
use Rattle.std.proofs.lemmas.List.{get_or_past, get_or-append-add, get_or_append_left, get_or-set_other, get_or-set_same, length-append}
use Rattle.rec_core.proofs.Common.{State, slot_at, with_slot, one, times, times-nil, Slot, Sight}
use Rattle.rec_counts.specs.declared.colour.Colour.{Colour}
use Rattle.rec_counts.specs.declared.colour.Colour.TheVariants.{Black, Purple, Gray, White, Orange, Green}
use Rattle.rec_counts.specs.Colour.{is_gray, is_orange, is_white}
use Rattle.rec_counts.specs.Counts.{without_root}
use Rattle.rec_counts.specs.Groups.{last_set}
use Rattle.rec_counts.proofs.Keeping.{map_at}
use Rattle.rec_counts.proofs.Times.{times_at, times_part, times_push}
use Rattle.rec_release.proofs.TakenOff.{written}
use Rattle.rec_sigma.specs.Judged.{AreOrange}
use Rattle.rec_sigma.specs.Prepare.{members_of}
use Rattle.rec_trial.specs.declared.phase.Phase.{Phase}
use Rattle.rec_trial.specs.declared.phase.Phase.TheVariants.{Idle, Marking, Scanning, Collecting}
use Rattle.rec_trial.specs.Moves.{all_whitened, blackened_if, dropped, dropped_if, has_rest, joined_if, marked_by, one_off, scanned_by, touched, touched_if, whitened, whitened_if, with_new_set}
use Rattle.rec_trial.specs.Trial.{collect_moved, is_due, is_due_at, learnt_at, moved_at, pointed, roots_moved, scan_moved, set_begun_if, settled, Work}
use Rattle.rec_trial.proofs.Course.{Course, first_view, moved_course}
use Rattle.rec_trial.proofs.Deletion.{Loads}
use Rattle.rec_trial.proofs.Holding.{inv_at, WhileCollecting}
use Rattle.rec_trial.proofs.Moving.{settled_by}
use Rattle.rec_trial.proofs.Totals.{occurs}
use Rattle.rec_trial.proofs.Views.{concat_new, view}
use Rattle.rec_prompt.specs.Lost.{Leads}
use Rattle.rec_prompt.proofs.Fading.{Fades, fades_alike, fades_on, fades_same, fades_written}

-- the slot is the first member, or pending, or on a path of fields of members from such a one
pub data Within (w : Sight) (pending : ℕ → Type 0) (members : List ℕ) : (slot : ℕ) → Type 0 where
  first : {slot : ℕ} → slice_get members 0 ≡ Some slot → Within w pending members slot
  late : {slot : ℕ} → pending slot → Within w pending members slot
  behind : {from slot : ℕ} → Within w pending members from → 0 < times from members → Leads w from slot → Within w pending members slot

-- each member of each set is, as long as all members of the set are Orange
abbrev pub AreBacked : (w : Sight) (pending : ℕ → Type 0) → State → Type 0
AreBacked w pending s = (k : ℕ) → AreOrange s k → (x : ℕ) → 0 < times x (members_of s k) → Within w pending (members_of s k) x

-- a member stays so where what is pending is so still, and a field leads where it led or the target is pending
within_stays : (w u : Sight) (before after : ℕ → Type 0) (members : List ℕ) → ((x : ℕ) → 0 < times x members → before x → after x)
    → ((from x : ℕ) → 0 < times from members → 0 < times x members → Leads w from x → Leads u from x ⊎ after x)
    → (x : ℕ) → 0 < times x members → Within w before members x → Within u after members x
within_stays w u before after members more edge x member (Within.first is) = Within.first is
within_stays w u before after members more edge x member (Within.late is) = Within.late (more x member is)
within_stays w u before after members more edge x member (Within.behind {from = from} path there leads) = elim (edge from x there member leads) [
  | inl still ↦ Within.behind (within_stays w u before after members more edge from there path) there still
  | inr is ↦ Within.late is
]

pub backed_stays : (w u : Sight) (before after : ℕ → Type 0) (s t : State) → Fades s t
    → ((k : ℕ) → AreOrange t k → (x : ℕ) → 0 < times x (members_of t k) → before x → after x)
    → ((k : ℕ) → AreOrange t k → (from x : ℕ) → 0 < times from (members_of t k) → 0 < times x (members_of t k) → Leads w from x → Leads u from x ⊎ after x)
    → AreBacked w before s → AreBacked u after t
backed_stays w u before after s t f more edge b k orange x member = elim (f.sets k) [
  | inr none ↦ absurd (omega (arith, member, ap (times x) none, times-nil x))
  | inl same ↦
      let was : AreOrange s k = λ y there. f.oranges y (orange y (omega (arith, there, ap (times y) same))) in
      within_stays w u before after (members_of t k) (more k orange) (edge k orange) x member (subst (λ (xs : List ℕ). Within w before xs x) (sym same) (b k was x (omega (arith, member, ap (times x) same))))
]

-- the same words, and what is pending is so still
pub backed_more : (w : Sight) (before after : ℕ → Type 0) (s t : State) → Fades s t → ((x : ℕ) → before x → after x) → AreBacked w before s → AreBacked w after t
backed_more w before after s t f more = backed_stays w w before after s t f (λ k orange x member is. more x is) (λ k orange from x there member leads. inl leads)

pub backed_fades : (w : Sight) (pending : ℕ → Type 0) (s t : State) → Fades s t → AreBacked w pending s → AreBacked w pending t
backed_fades w pending s t f = backed_more w pending pending s t f (λ x is. is)

-- where there is no set
pub none_backed : (w : Sight) (pending : ℕ → Type 0) (s : State) → s.sets ≡ [] → AreBacked w pending s
none_backed w pending s none k orange x member = absurd (omega (arith, member, ap (λ (xss : List (List ℕ)). times x (slice_index_or xss k [])) none, ap (times x) (get_or_past [] k [] (omega arith)), times-nil x))

-- ---- a trial

-- a set begins
fades_new_set : (s : State) → Fades s (with_new_set s)
fades_new_set s = record {
  sets = λ k. elim (cases_lt k (length s.sets)) [
    | inl inside ↦ inl (get_or_append_left s.sets ([] ∷ []) [] k inside)
    | inr past ↦ inr (let at : length s.sets + (k - length s.sets) ≡ k = omega (arith, past) in ap (λ n. slice_index_or (s.sets ++ [] ∷ []) n []) (sym at) ∙ get_or-append-add s.sets ([] ∷ []) (k - length s.sets) [] ∙ none (k - length s.sets))
  ];
  oranges = λ x is. is;
}
  where
    none : (n : ℕ) → ◌≡◌ {A = List ℕ} (slice_index_or ([] ∷ []) n []) []
    none zero = refl
    none (suc n) = get_or_past [] n [] (omega arith)

-- one member more
first_grown : (xs : List ℕ) (x y : ℕ) → slice_get xs 0 ≡ Some y → slice_get (xs ++ x ∷ []) 0 ≡ Some y
first_grown [] x y is = absurd (cc)
first_grown (z ∷ xs) x y is = is

within_grown : (w : Sight) (pending : ℕ → Type 0) (xs : List ℕ) (x y : ℕ) → Within w pending xs y → Within w pending (xs ++ x ∷ []) y
within_grown w pending xs x y (Within.first is) = Within.first (first_grown xs x y is)
within_grown w pending xs x y (Within.late is) = Within.late is
within_grown w pending xs x y (Within.behind {from = from} path there leads) = Within.behind (within_grown w pending xs x from path) (omega (arith, there, times_push from xs x)) leads

-- A White slot joins the last set: it is the first there, or a field of a member leads to it.
data Joins (w : Sight) (s : State) (x : ℕ) : Type 0 where
  begins : last_set s.sets ≡ [] → Joins w s x
  follows : (n : ℕ) → 0 < times n (last_set s.sets) → Leads w n x → Joins w s x

module _ (w : Sight) (pending : ℕ → Type 0) (s : State) (x : ℕ) (some : 0 < length s.sets) (fresh : times x (concat s.sets) ≡ 0) (joins : Joins w s x) where
  abbrev t : State
  t = joined_if true s x

  abbrev last : ℕ
  last = length s.sets - 1

  colour_then : (y : ℕ) → y ≢ x → (slot_at t y).colour ≡ Orange → (slot_at s y).colour ≡ Orange
  colour_then y other is =
      let u : State = with_slot s x (record (slot_at s x) { colour = Orange }) in
      elim (written u x (record (slot_at u x) { buffered = true; set = Some (length u.sets - 1) }) y) [
        | inl own ↦ absurd (other own.0)
        | inr same ↦ elim (written s x (record (slot_at s x) { colour = Orange }) y) [
          | inl own ↦ absurd (other own.0)
          | inr still ↦ sym (ap (λ (v : Slot). v.colour) (same ∙ still)) ∙ is
        ]
      ]

  no_member : (k : ℕ) → times x (members_of s k) ≡ 0
  no_member k = omega (arith, fresh, times_part x s.sets k)

  grown : members_of t last ≡ last_set s.sets ++ x ∷ []
  grown = get_or-set_same s.sets last (last_set s.sets ++ x ∷ []) [] (omega (arith, some))

  were_orange : (k : ℕ) → ((y : ℕ) → times y (members_of s k) ≤ times y (members_of t k)) → AreOrange t k → AreOrange s k
  were_orange k fewer orange y there = elim (cases_eq y x) [
    | inl own ↦ absurd (omega (arith, there, ap (λ n. times n (members_of s k)) own, no_member k))
    | inr other ↦ colour_then y other (orange y (omega (arith, there, fewer y)))
  ]

  backed_joined : AreBacked w pending s → AreBacked w pending t
  backed_joined b k orange y member = elim (cases_eq k last) [
    | inr other ↦
        let same : members_of t k ≡ members_of s k = get_or-set_other s.sets last k (last_set s.sets ++ x ∷ []) [] other in
        subst (λ (xs : List ℕ). Within w pending xs y) (sym same) (b k (were_orange k (λ z. omega (arith, ap (times z) same)) orange) y (omega (arith, member, ap (times y) same)))
    | inl here ↦
        let at : members_of t k ≡ last_set s.sets ++ x ∷ [] = ap (members_of t) here ∙ grown in
        let was : AreOrange s last = were_orange last (λ z. omega (arith, ap (times z) grown, times_push z (last_set s.sets) x)) (subst (AreOrange t) here orange) in
        subst (λ (xs : List ℕ). Within w pending xs y) (sym at) (elim (cases_eq y x) [
          | inr older ↦ within_grown w pending (last_set s.sets) x y (b last was y (omega (arith, member, ap (times y) at, times_push y (last_set s.sets) x, ap one (ne_eqb y x older))))
          | inl own ↦ subst (Within w pending (last_set s.sets ++ x ∷ [])) (sym own) (by_source joins was)
        ])
  ]
    where
      by_source : Joins w s x → AreOrange s last → Within w pending (last_set s.sets ++ x ∷ []) x
      by_source (Joins.begins none) was = Within.first (ap (λ (xs : List ℕ). slice_get (xs ++ x ∷ []) 0) none)
      by_source (Joins.follows n there leads) was = Within.behind (within_grown w pending (last_set s.sets) x n (b last was n there)) (omega (arith, there, times_push n (last_set s.sets) x)) leads

-- marking
fades_touched : (b : Bool) (s : State) (x : ℕ) → Fades s (touched_if b s x)
fades_touched true s x = fades_same s
fades_touched false s x = fades_written s (touched_if false s x) x (record (slot_at s x) { colour = Gray; cyclic = (slot_at s x).count }) refl refl (λ is. absurd (cc))

fades_marked : (s : State) (target : Option ℕ) → Fades s (marked_by s target)
fades_marked s None = fades_same s
fades_marked s (Some x) = fades_on (fades_touched (is_gray (slot_at s x).colour) s x) (fades_written (touched s x) (one_off (touched s x) x) x (record (slot_at (touched s x) x) { cyclic = (slot_at (touched s x) x).cyclic - 1 }) refl refl (λ is. is))

fades_dropped : (s : State) (x : ℕ) (xs : List ℕ) → Fades s (dropped (without_root (x ∷ xs) s) x)
fades_dropped s x xs = fades_on out (go (slot_at u x).released (slot_at u x).colour)
  where
    u : State
    u = without_root (x ∷ xs) s

    out : Fades s u
    out = fades_written s u x (record (slot_at s x) { buffered = false }) refl refl (λ is. is)

    go : (b : Bool) (c : Colour) → Fades u (dropped_if b c u x)
    go true c = fades_alike u (dropped_if true c u x) refl (λ y. refl)
    go false Purple = fades_touched false u x
    go false Black = fades_same u
    go false Gray = fades_same u
    go false White = fades_same u
    go false Orange = fades_same u
    go false Green = fades_same u

-- scanning
fades_blackened : (b : Bool) (s : State) (x : ℕ) → Fades s (blackened_if b s x)
fades_blackened false s x = fades_same s
fades_blackened true s x = fades_written s (blackened_if true s x) x (record (slot_at s x) { colour = Black }) refl refl (λ is. absurd (cc))

fades_scanned : (s : State) (target : Option ℕ) → Fades s (scanned_by s target)
fades_scanned s None = fades_same s
fades_scanned s (Some x) = fades_blackened (is_gray (slot_at s x).colour) s x

fades_whitened : (s : State) → Fades s (all_whitened s)
fades_whitened s = record { sets = λ k. inl refl; oranges = λ x is. go (is_gray (slot_at s x).colour) (slot_at s x) (sym (ap (λ (v : Slot). v.colour) (map_at whitened refl s.slots x)) ∙ is) }
  where
    go : (b : Bool) (v : Slot) → (whitened_if b v).colour ≡ Orange → v.colour ≡ Orange
    go true v is = absurd (cc)
    go false v is = is

-- a White slot is no member
module _ (fields : ℕ) (before : State) (ls : Loads) where
  white_fresh : (v : Work) → WhileCollecting (first_view fields before) (view v) ls → (x : ℕ) → is_white (slot_at v.counts x).colour ≡ true → times x (concat v.counts.sets) ≡ 0
  white_fresh v inv x white = omega (arith, inv.oranges x, occurs x (concat v.counts.sets), ap one (not_orange (slot_at v.counts x).colour white))
    where
      not_orange : (c : Colour) → is_white c ≡ true → is_orange c ≡ false
      not_orange White is = refl
      not_orange _ is = absurd (false≢true is)

  module _ (w : Sight) (pending : ℕ → Type 0) where
    -- a move without a load
    backed_moved : (v : Work) → Course fields before v ls → AreBacked w pending v.counts → (phase : Phase) → v.machine.phase ≡ phase → AreBacked w pending (moved_at phase v).counts
    backed_moved v c b Idle at = b
    backed_moved v c b Marking at = go v.counts.roots
      where
        go : (rs : List ℕ) → AreBacked w pending (roots_moved rs v).counts
        go [] = b
        go (x ∷ xs) = backed_fades w pending v.counts (dropped (without_root (x ∷ xs) v.counts) x) (fades_dropped v.counts x xs) b
    backed_moved v c b Scanning at = go (nat_lt v.machine.tried (length v.counts.marked))
      where
        go : (more : Bool) → AreBacked w pending (scan_moved more v).counts
        go true = let x : ℕ = slice_index_or v.counts.marked v.machine.tried 0 in backed_fades w pending v.counts (blackened_if (has_rest (slot_at v.counts x)) v.counts x) (fades_blackened (has_rest (slot_at v.counts x)) v.counts x) b
        go false = backed_fades w pending v.counts (all_whitened v.counts) (fades_whitened v.counts) b
    backed_moved v c b Collecting at = go (nat_lt v.machine.tried (length v.counts.marked))
      where
        inv : WhileCollecting (first_view fields before) (view v) ls
        inv = subst (λ p. inv_at p (first_view fields before) (view v) ls) at c.inv

        x : ℕ
        x = slice_index_or v.counts.marked v.machine.tried 0

        n : State
        n = with_new_set v.counts

        found : (white : Bool) → is_white (slot_at v.counts x).colour ≡ white → AreBacked w pending (set_begun_if white v x).counts
        found true is = backed_joined w pending n x (omega (arith, length-append v.counts.sets ([] ∷ []))) (omega (arith, white_fresh v inv x is, ap (times x) (concat_new v.counts.sets)))
            (Joins.begins (let many : length v.counts.sets + 0 ≡ length n.sets - 1 = omega (arith, length-append v.counts.sets ([] ∷ [])) in ap (λ k. slice_index_or n.sets k []) (sym many) ∙ get_or-append-add v.counts.sets ([] ∷ []) 0 []))
            (backed_fades w pending v.counts n (fades_new_set v.counts) b)
        found false is = b

        go : (more : Bool) → AreBacked w pending (collect_moved more v).counts
        go true = found (is_white (slot_at v.counts x).colour) refl
        go false = b

    -- the moves up to the next load, or to the end
    pub backed_settled : (v : Work) → Course fields before v ls → AreBacked w pending v.counts → AreBacked w pending (pointed (settled v)).counts
    backed_settled v c b = (settled_by (λ (x : Work). Course fields before x ls × AreBacked w pending x.counts) (λ x both due. (moved_course x both.0 due, backed_moved x both.0 both.1 x.machine.phase refl)) v (c, b)).1

    -- a word that was loaded from the slot at work, and leads there
    pub backed_learnt : (v : Work) (phase : Phase) → v.machine.phase ≡ phase → Course fields before v ls → is_due v ≡ true → (node : ℕ) → (phase ≡ Collecting → node ≡ slice_index_or (last_set v.counts.sets) v.machine.done 0)
        → (target : Option ℕ) → (phase ≡ Collecting → IfSome target (Leads w node)) → AreBacked w pending v.counts → AreBacked w pending (learnt_at phase v.counts target)
    backed_learnt v Idle at c due node is target leads b = b
    backed_learnt v Marking at c due node is target leads b = backed_fades w pending v.counts (marked_by v.counts target) (fades_marked v.counts target) b
    backed_learnt v Scanning at c due node is target leads b = backed_fades w pending v.counts (scanned_by v.counts target) (fades_scanned v.counts target) b
    backed_learnt v Collecting at c due node is None leads b = b
    backed_learnt v Collecting at c due node is (Some x) leads b = go (is_white (slot_at v.counts x).colour) refl
      where
        inv : WhileCollecting (first_view fields before) (view v) ls
        inv = subst (λ p. inv_at p (first_view fields before) (view v) ls) at c.inv

        inside : v.machine.done < length (last_set v.counts.sets)
        inside = ltb-true v.machine.done (length (last_set v.counts.sets)) (ap (λ p. is_due_at p v.machine.done v.counts) (sym at) ∙ due)

        there : 0 < times node (last_set v.counts.sets)
        there = omega (arith, times_at (last_set v.counts.sets) v.machine.done inside, ap (λ k. times k (last_set v.counts.sets)) (is refl))

        some : 0 < length v.counts.sets
        some = elim (cases_lt 0 (length v.counts.sets)) [
          | inl more ↦ more
          | inr none ↦ absurd (omega (arith, inside, ap length (get_or_past v.counts.sets (length v.counts.sets - 1) [] (omega (arith, none)))))
        ]

        go : (white : Bool) → is_white (slot_at v.counts x).colour ≡ white → AreBacked w pending (joined_if white v.counts x)
        go true white = backed_joined w pending v.counts x some (white_fresh v inv x white) (Joins.follows node there (leads refl)) b
        go false white = b

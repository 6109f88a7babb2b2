-- Slots at opening that have given counts.
use Rattle.std.proofs.Common.{◌≡◌, ℕ, suc, zero, ◌+◌, ◌-◌, ◌<◌, ◌≤◌, ◌^◌, false, Option, None, List, [], ◌∷◌, ◌++◌, All, length, map, get_or, replicate, refl, arith, sym, subst, ◌∙◌, ap, inl, inr, append_assoc, length-append}
use Rattle.std.proofs.lemmas.Bool.{cases_lt}
use Rattle.std.proofs.lemmas.List.{get_or_past, get_or-replicate, length-map, length-replicate, replicate-append-replicate}
use Rattle.std.proofs.lemmas.List.Elements.{All-cons, All-head, All-nil, All-tail}
use Rattle.rec_counts.specs.declared.slot.Slot.{Slot}
use Rattle.rec_counts.specs.Counts.{counted, counted_slots, opened, slot_at}
use Rattle.rec_counts.specs.Kept.{Kept}
use Rattle.rec_counts.specs.Lists.{one}
use Rattle.rec_counts.specs.Slot.{absent, fresh, is_in}
use Rattle.rec_counts.proofs.Times.{once_none, times-nil}

-- as many as there are
pub length-counted : (slots : ℕ) (counts : List ℕ) → length counts ≤ slots → length (counted_slots slots counts) ≡ slots
length-counted slots counts few = omega (arith, length-append (map counted counts) (replicate (slots - length counts) fresh), length-map counts counted, length-replicate (slots - length counts) fresh)

-- one fresh slot more
pub fresh_more : (counts : List ℕ) (i : ℕ) → length counts ≤ i → (map counted counts ++ replicate (i - length counts) fresh) ++ fresh ∷ [] ≡ map counted counts ++ replicate (i + 1 - length counts) fresh
fresh_more counts i few =
    let next : i - length counts + 1 ≡ i + 1 - length counts = omega arith in
    append_assoc (map counted counts) (replicate (i - length counts) fresh) (fresh ∷ [])
    ∙ ap (λ (vs : List Slot). map counted counts ++ vs) (replicate-append-replicate (i - length counts) 1 fresh ∙ ap (λ m. replicate m fresh) next)

-- what holds of each count's slot, of a fresh one and past the last, holds of all
each_counted : (P : Slot → Type 0) (Q : ℕ → Type 0) (more : ℕ) (counts : List ℕ) → ((count : ℕ) → Q count → P (counted count)) → P fresh → P absent → All Q counts → (x : ℕ) → P (get_or (map counted counts ++ replicate more fresh) x absent)
each_counted P Q more [] own new past all x = elim (cases_lt x more) [
  | inl there ↦ subst P (sym (get_or-replicate more x fresh absent there)) new
  | inr behind ↦ subst P (sym (get_or_past (replicate more fresh) x absent (subst (λ n. n ≤ x) (sym (length-replicate more fresh)) behind))) past
]
each_counted P Q more (count ∷ counts) own new past all zero = own count (All-head Q count counts all)
each_counted P Q more (count ∷ counts) own new past all (suc x) = each_counted P Q more counts own new past (All-tail Q count counts all) x

pub each_opened : (P : Slot → Type 0) (Q : ℕ → Type 0) (slots : ℕ) (counts : List ℕ) → ((count : ℕ) → Q count → P (counted count)) → P fresh → P absent → All Q counts → (x : ℕ) → P (slot_at (opened slots counts) x)
each_opened P Q slots counts = each_counted P Q (slots - length counts) counts

-- no slot is released
pub unreleased_from : (slots : ℕ) (counts : List ℕ) (x : ℕ) → x < length (opened slots counts).slots → (slot_at (opened slots counts) x).released ≡ false
unreleased_from slots counts x there = go counts x there
  where
    go : (ns : List ℕ) (y : ℕ) → y < length (map counted ns ++ replicate (slots - length counts) fresh) → (get_or (map counted ns ++ replicate (slots - length counts) fresh) y absent).released ≡ false
    go [] y inside = ap (λ (v : Slot). v.released) (get_or-replicate (slots - length counts) y fresh absent (omega (arith, inside, length-replicate (slots - length counts) fresh)))
    go (n ∷ ns) zero inside = refl
    go (n ∷ ns) (suc y) inside = go ns y (omega arith)

-- what no count changes
each_same : {A : Type 0} (f : Slot → A) (a : A) (slots : ℕ) (counts : List ℕ) → ((count : ℕ) → f (counted count) ≡ a) → f fresh ≡ a → f absent ≡ a → (x : ℕ) → f (get_or (counted_slots slots counts) x absent) ≡ a
each_same f a slots counts own new past = each_counted (λ (v : Slot). f v ≡ a) (λ (n : ℕ). n ≡ n) (slots - length counts) counts (λ count _. own count) new past (all_same counts)
  where
    all_same : (ns : List ℕ) → All (λ (n : ℕ). n ≡ n) ns
    all_same [] = All-nil (λ (n : ℕ). n ≡ n)
    all_same (n ∷ ns) = All-cons (λ (k : ℕ). k ≡ k) n ns refl (all_same ns)

-- all that always holds
pub keep_from : (n : ℕ) (counts : List ℕ) → length counts ≤ n → n < 2 ^ 16 → Kept (counted_slots n counts) [] [] [] [] [] []
keep_from n counts few small = record {
  buffers = λ y. rw (times-nil y) (sym (ap one (each_same (λ (w : Slot). w.buffered) false n counts (λ count. refl) refl refl y)));
  numbers = λ i y. rw (times-nil y) (sym (ap (λ (o : Option ℕ). one (is_in i o)) (each_same (λ (w : Slot). w.set) None n counts (λ count. refl) refl refl y)));
  few_sets = omega arith;
  marked_once = once_none _;
  work_once = once_none _;
  zeros_once = once_none _;
  free_once = once_none _;
  few_slots = omega (arith, length-counted n counts few);
}

-- the slot of a count, and one behind them
pub counted_at : (slots : ℕ) (counts : List ℕ) (x : ℕ) (d : Slot) → x < length counts → get_or (counted_slots slots counts) x d ≡ counted (get_or counts x 0)
counted_at slots counts x d there = go counts x there
  where
    go : (ns : List ℕ) (y : ℕ) → y < length ns → get_or (map counted ns ++ replicate (slots - length counts) fresh) y d ≡ counted (get_or ns y 0)
    go [] y inside = absurd (omega arith)
    go (n ∷ ns) zero inside = refl
    go (n ∷ ns) (suc y) inside = go ns y (omega arith)

pub fresh_behind : (slots : ℕ) (counts : List ℕ) (x : ℕ) → length counts ≤ x → get_or (counted_slots slots counts) x fresh ≡ fresh
fresh_behind slots counts x behind = go counts x behind
  where
    go : (ns : List ℕ) (y : ℕ) → length ns ≤ y → get_or (map counted ns ++ replicate (slots - length counts) fresh) y fresh ≡ fresh
    go [] y past = elim (cases_lt y (slots - length counts)) [
      | inl there ↦ get_or-replicate (slots - length counts) y fresh fresh there
      | inr over ↦ get_or_past (replicate (slots - length counts) fresh) y fresh (subst (λ n. n ≤ y) (sym (length-replicate (slots - length counts) fresh)) over)
    ]
    go (n ∷ ns) zero past = absurd (omega arith)
    go (n ∷ ns) (suc y) past = go ns y (omega arith)

-- What a trial left, and what preparation loaded, over the moves that come before the next batch.
use Rattle.std.proofs.Common.{◌≡◌, ◌≢◌, ◌⊎◌, inl, inr, ℕ, ◌+◌, ◌-◌, ◌<◌, ◌≤◌, Bool, true, false, ltb, eqb, cond, Option, None, Some, List, [], ◌∷◌, ◌++◌, length, get_or, set, refl, sym, ap, subst, ◌∙◌, arith}
use Rattle.std.specs.List.{concat}
use Rattle.std.proofs.lemmas.Bool.Decides.{eqb_tells}
use Rattle.std.proofs.lemmas.List.{length-set, get_or-set_same, get_or-set_other, get_or_past}
use Rattle.std.proofs.lemmas.Bool.{cases_eq, cases_lt, false≢true, true≢false}
use Rattle.std.proofs.lemmas.Option.{none-some}
use Rattle.rec_core.proofs.Common.{place_of, only_if, one_if_same, sum_at, node_of, home, Pending, AccountMove, IsAccounted, HasLoaded, with_load, IsAfterLoads, IsMarked, seen_in, sum_at_same, none_if_differs, State, slot_at, times, Slot, absent, is_in, times-nil, move_fields, Load, place_loaded, KeepsOthers, loaded_at, is_member, is_member_of, word_loaded, word_seen, SetsStand, SetsWait}
use Rattle.rec_model.specs.Pending.{word_in}
use Rattle.rec_model.specs.References.{references_at}
use Rattle.rec_model.specs.Moves.AccountMove.{put, register, birth, crossing, leaving, request, batch, release, clearing, freeing, dropping}
use Rattle.rec_model.proofs.Ledgers.{node_of_null}
use Rattle.rec_model.proofs.Loading.{same_length, replaced_length, nothing_loaded, move_loaded, load_loaded, move_replaced}
use Rattle.rec_sigma.specs.declared.at.At.{At}

-- how many places,
move_places : {w v : Pending} → (m : AccountMove w v) → IsAfterLoads m → length v.words ≡ length w.words
move_places {w} {v} (put {epoch} {place} {new} s) _ = replaced_length w.words v.words place (word_in w place) new s.words
move_places {w} {v} (register s) _ = same_length w.words v.words s.words
move_places {w} {v} (birth s) _ = same_length w.words v.words s.words
move_places {w} {v} (crossing s) _ = same_length w.words v.words s.words
move_places {w} {v} (leaving s) _ = same_length w.words v.words s.words
move_places {w} {v} (request s) _ = same_length w.words v.words s.words
move_places (batch s) after = absurd after
move_places {w} {v} (release s) _ = same_length w.words v.words s.words
move_places (clearing s) after = absurd after
move_places {w} {v} (freeing s) _ = same_length w.words v.words s.words
move_places {w} {v} (dropping s) _ = same_length w.words v.words s.words

-- what places weigh, whatever stands there,
move_weight : {w v : Pending} (weight : ℕ → ℕ) → (m : AccountMove w v) → IsAfterLoads m → sum_at (λ p (word : ℕ). weight p) v.words ≡ sum_at (λ p (word : ℕ). weight p) w.words
move_weight weight (put s) _ = omega (arith, s.words (λ p word. weight p))
move_weight weight (register s) _ = s.words (λ p word. weight p)
move_weight weight (birth s) _ = s.words (λ p word. weight p)
move_weight weight (crossing s) _ = s.words (λ p word. weight p)
move_weight weight (leaving s) _ = s.words (λ p word. weight p)
move_weight weight (request s) _ = s.words (λ p word. weight p)
move_weight weight (batch s) after = absurd after
move_weight weight (release s) _ = s.words (λ p word. weight p)
move_weight weight (clearing s) after = absurd after
move_weight weight (freeing s) _ = s.words (λ p word. weight p)
move_weight weight (dropping s) _ = s.words (λ p word. weight p)

-- and the count of a node that isn't given up
move_count : {w v : Pending} (z : ℕ) → (m : AccountMove w v) → IsAfterLoads m → 0 < z → w.released z ≡ false → v.count z ≡ w.count z
move_count z (put s) _ pos alive = s.slots.count z pos
move_count z (register s) _ pos alive = s.slots.count z pos
move_count z (birth s) _ pos alive = s.count z pos
move_count z (crossing s) _ pos alive = s.slots.count z pos
move_count z (leaving s) _ pos alive = s.slots.count z pos
move_count z (request s) _ pos alive = s.slots.count z pos
move_count z (batch s) after pos alive = absurd after
move_count z (release s) _ pos alive = s.count z pos
move_count z (clearing s) after pos alive = absurd after
move_count {w} z (freeing {node} s) _ pos alive = omega (arith, s.counts z pos, none_if_differs z node (λ e. true≢false (sym s.was_released ∙ sym (ap w.released e) ∙ alive)))
move_count z (dropping s) _ pos alive = s.slots.count z pos

-- the word that marking loaded, where it names this node
abbrev naming : (z : ℕ) (mark : ℕ → ℕ) → ℕ → ℕ
naming z mark p = cond (eqb z (node_of (mark p))) (mark p) 0

-- what marking loaded of one node, as words that were loaded
naming_loaded : (w : Pending) (mark : ℕ → ℕ) (z : ℕ) → ((p : ℕ) → p < length w.words → one_if_same z (node_of (mark p)) ≤ references_at w (w.applied + 1) p z) → HasLoaded w (naming z mark)
naming_loaded w mark z h p y inside pos = elim (eqb_tells z (node_of (mark p))) [
  | inl q ↦ rw q.0 (elim (cases_eq y z) [
    | inl e ↦ subst (λ k. one_if_same k (node_of (mark p)) ≤ references_at w (w.applied + 1) p k) (sym e) (h p inside)
    | inr other ↦ omega (arith, none_if_differs y (node_of (mark p)) (λ e. other (e ∙ sym q.1)))
  ])
  | inr q ↦ rw q.0 (omega (arith, none_if_differs y (node_of 0) (omega (arith, pos, node_of_null))))
]

naming_self : (mark : ℕ → ℕ) (z p : ℕ) → one_if_same z (node_of (mark p)) ≤ one_if_same z (node_of (naming z mark p))
naming_self mark z p = elim (eqb_tells z (node_of (mark p))) [
  | inl q ↦ rw (q.0, q.0) (omega arith)
  | inr q ↦ omega (arith, none_if_differs z (node_of (mark p)) q.1)
]

-- what a trial left stays so over the moves before the next batch, where no member is given up
marked_moved : {w v : Pending} (member : ℕ → Bool) (mark : ℕ → ℕ) (m : AccountMove w v) → IsAfterLoads m → IsAccounted w → ((node : ℕ) → 0 < node → member node ≡ true → w.released node ≡ false) → IsMarked w member mark → IsMarked v member mark
marked_moved {w} {v} member mark m after i alive t = record {
  stands = λ p z inside pos is. omega (arith, naming_self mark z p, move_loaded (naming z mark) m after i.epochs (naming_loaded w mark z (λ q there. t.stands q z there pos is)) p z inside pos);
  counted = λ z pos is. omega (arith, t.counted z pos is, move_count z m after pos (alive z pos is), move_weight (λ p. one_if_same z (node_of (mark p))) m after);
  blackened = λ p z inside pos is out.
      let there : p < length w.words = omega (arith, inside, move_places m after) in
      let outside : member (home w.fields p) ≡ false = subst (λ f. member (home f p) ≡ false) (move_fields m) out in
      omega (arith, t.blackened p z there pos is outside, move_replaced p z m after);
}

-- so does what was marked by these loads
marks_moved : {w v : Pending} (member : ℕ → Bool) (marking : List Load) (m : AccountMove w v) → IsAfterLoads m → IsAccounted w → ((node : ℕ) → 0 < node → member node ≡ true → w.released node ≡ false) → IsMarked w member (word_loaded w.fields marking) → IsMarked v member (word_loaded v.fields marking)
marks_moved {w} {v} member marking m after i alive h = subst (λ f. IsMarked v member (word_loaded f marking)) (sym (move_fields m)) (marked_moved member (word_loaded w.fields marking) m after i alive h)

-- the same members by another test
marked_alike : {w : Pending} (member alike : ℕ → Bool) (mark : ℕ → ℕ) → ((node : ℕ) → 0 < node → alike node ≡ member node) → IsMarked w member mark → IsMarked w alike mark
marked_alike {w} member alike mark e t = record {
  stands = λ p z inside pos is. t.stands p z inside pos (sym (e z pos) ∙ is);
  counted = λ z pos is. t.counted z pos (sym (e z pos) ∙ is);
  blackened = λ p z inside pos is out. t.blackened p z inside pos (sym (e z pos) ∙ is) (sym (e (home w.fields p) (omega arith)) ∙ out);
}

-- the members of the same sets
same_members : (w : Pending) (s t : State) (mark : ℕ → ℕ) → t.sets ≡ s.sets → IsMarked w (is_member s) mark → IsMarked w (is_member t) mark
same_members w s t mark e = marked_alike (is_member s) (is_member t) mark (λ node _. ap (λ sets. ltb 0 (times (node - 1) (concat sets))) e)

-- preparation begins with what the trial left
pub sets_stand_begun : (w : Pending) (s t : State) (marking : List Load) → KeepsOthers s t → IsMarked w (is_member s) (word_loaded w.fields marking) → SetsStand w t []
sets_stand_begun w s t marking k marked = record {
  marking = marking;
  marked = same_members w s t (word_loaded w.fields marking) k.sets marked;
  loaded = nothing_loaded w;
}

-- it goes on over the moves before the next batch
pub sets_stand_moved : {w v : Pending} (s : State) (loads : List Load) (m : AccountMove w v) → IsAfterLoads m → IsAccounted w → ((node : ℕ) → 0 < node → is_member s node ≡ true → w.released node ≡ false) → SetsStand w s loads → SetsStand v s loads
sets_stand_moved {w} {v} s loads m after i alive h = record {
  marking = h.marking;
  marked = marks_moved (is_member s) h.marking m after i alive h.marked;
  loaded = subst (λ f. HasLoaded v (word_seen f loads)) (sym (move_fields m)) (move_loaded (word_seen w.fields loads) m after i.epochs h.loaded);
}

-- one word more was seen: it is what was seen before, or the new one at its place
seen_more : (fields : ℕ) (loads : List Load) (l : Load) (p : ℕ)
    → (word_seen fields (loads ++ l ∷ []) p ≡ word_seen fields loads p) ⊎ (word_seen fields (loads ++ l ∷ []) p ≡ with_load (word_seen fields loads) (place_loaded fields l) l.word p)
seen_more fields [] l p = inr refl
seen_more fields (m ∷ loads) l p = go (eqb p (place_loaded fields m)) (seen_more fields loads l p)
  where
    new : ℕ
    new = word_seen fields (loads ++ l ∷ []) p

    old : ℕ
    old = word_seen fields loads p

    go : (b : Bool) → (new ≡ old) ⊎ (new ≡ cond (eqb p (place_loaded fields l)) l.word old)
        → (cond b m.word new ≡ cond b m.word old) ⊎ (cond b m.word new ≡ cond (eqb p (place_loaded fields l)) l.word (cond b m.word old))
    go true h = inl refl
    go false h = h

-- a field is loaded, once all mutators are past the applied epoch
pub sets_stand_loaded : (w : Pending) (s t : State) (loads : List Load) (a : At) → IsAccounted w → w.applied + 1 ≡ w.requested → place_of a.member.slot a.member.field w.fields < length w.words → KeepsOthers s t → SetsStand w s loads
    → SetsStand w t (loads ++ loaded_at (Some a) (word_in w (place_of a.member.slot a.member.field w.fields)))
sets_stand_loaded w s t loads a i done within k h = record {
  marking = h.marking;
  marked = same_members w s t (word_loaded w.fields h.marking) k.sets h.marked;
  loaded = λ p z inside pos. elim (seen_more w.fields loads l p) [
    | inl e ↦ rw e (h.loaded p z inside pos)
    | inr e ↦ rw e (load_loaded w (word_seen w.fields loads) place i.epochs done within h.loaded p z inside pos)
  ];
}
  where
    place : ℕ
    place = place_of a.member.slot a.member.field w.fields

    l : Load
    l = record { slot = a.member.slot; field = a.member.field; word = word_in w place }

-- sets wait over the moves before the next batch
pub sets_wait_moved : {w v : Pending} (s : State) (m : AccountMove w v) → IsAfterLoads m → IsAccounted w → ((node : ℕ) → 0 < node → is_member s node ≡ true → w.released node ≡ false) → SetsWait w s → SetsWait v s
sets_wait_moved {w} {v} s m after i alive h = record {
  marking = h.marking;
  marked = marks_moved (is_member s) h.marking m after i alive h.marked;
  loads = h.loads;
  loaded = subst (λ f. HasLoaded v (word_seen f h.loads)) (sym (move_fields m)) (move_loaded (word_seen w.fields h.loads) m after i.epochs h.loaded);
  counted = λ number x is. subst (λ f. (slot_at s x).cyclic ≡ (slot_at s x).count - sum_at (seen_in f (is_member_of s number) (word_seen f h.loads) (x + 1)) v.words) (sym (move_fields m))
      (omega (arith, h.counted number x is, move_weight (λ p. only_if (is_member_of s number (home w.fields p)) (one_if_same (x + 1) (node_of (word_seen w.fields h.loads p)))) m after));
}

-- slots change that are in no set, and come to none
pub record KeepsMembers (s t : State) : Type 0 where
  pub sets : t.sets ≡ s.sets
  pub members : (number x : ℕ) → (slot_at s x).set ≡ Some number → slot_at t x ≡ slot_at s x
  pub others : (x : ℕ) → (slot_at s x).set ≡ None → (slot_at t x).set ≡ None

-- that holds where one slot in no set changes
pub slot_keeps_members : (s t : State) (x : ℕ) (v : Slot) → t.slots ≡ set s.slots x v → t.sets ≡ s.sets → (slot_at s x).set ≡ None → v.set ≡ None → KeepsMembers s t
slot_keeps_members s t x v slots sets was is = record {
  sets = sets;
  members = λ number y e. elim (cases_eq y x) [
    | inl q ↦ absurd (none-some number (sym (ap (λ z. (slot_at s z).set) q ∙ was) ∙ e))
    | inr other ↦ apart y other
  ];
  others = λ y e. elim (cases_eq y x) [
    | inl q ↦ ap (λ z. (slot_at t z).set) q ∙ here
    | inr other ↦ ap (λ (u : Slot). u.set) (apart y other) ∙ e
  ];
}
  where
    apart : (y : ℕ) → y ≢ x → slot_at t y ≡ slot_at s y
    apart y other = ap (λ vs. get_or vs y absent) slots ∙ get_or-set_other s.slots x y v absent other

    here : (slot_at t x).set ≡ None
    here = elim (cases_lt x (length s.slots)) [
      | inl inside ↦ ap (λ vs. (get_or vs x absent).set) slots ∙ ap (λ (u : Slot). u.set) (get_or-set_same s.slots x v absent inside) ∙ is
      | inr past ↦ ap (λ vs. (get_or vs x absent).set) slots ∙ ap (λ (u : Slot). u.set) (get_or_past (set s.slots x v) x absent (omega (arith, past, length-set s.slots x v)))
    ]

-- so each slot stays in its set
keeps_set : (s t : State) → KeepsMembers s t → (x : ℕ) → (slot_at t x).set ≡ (slot_at s x).set
keeps_set s t k x = go (slot_at s x).set refl
  where
    go : (o : Option ℕ) → (slot_at s x).set ≡ o → (slot_at t x).set ≡ (slot_at s x).set
    go None e = k.others x e ∙ sym e
    go (Some number) e = ap (λ v. v.set) (k.members number x e)

-- sets wait while others change
sets_wait_kept : (w : Pending) (s t : State) → KeepsMembers s t → SetsWait w s → SetsWait w t
sets_wait_kept w s t k h = record {
  marking = h.marking;
  marked = same_members w s t (word_loaded w.fields h.marking) k.sets h.marked;
  loads = h.loads;
  loaded = h.loaded;
  counted = λ number x is.
      let was : (slot_at s x).set ≡ Some number = sym (keeps_set s t k x) ∙ is in
      let count : (slot_at t x).count ≡ (slot_at s x).count = ap (λ v. v.count) (k.members number x was) in
      let cyclic : (slot_at t x).cyclic ≡ (slot_at s x).cyclic = ap (λ v. v.cyclic) (k.members number x was) in
      omega (arith, h.counted number x was, count, cyclic, same_sum number x);
}
  where
    same_sum : (number x : ℕ) → sum_at (seen_in w.fields (is_member_of t number) (word_seen w.fields h.loads) (x + 1)) w.words ≡ sum_at (seen_in w.fields (is_member_of s number) (word_seen w.fields h.loads) (x + 1)) w.words
    same_sum number x = sum_at_same (seen_in w.fields (is_member_of t number) (word_seen w.fields h.loads) (x + 1)) (seen_in w.fields (is_member_of s number) (word_seen w.fields h.loads) (x + 1)) w.words
        (λ p word. ap (λ o. only_if (is_in number o) (one_if_same (x + 1) (node_of (word_seen w.fields h.loads p)))) (keeps_set s t k (home w.fields p - 1)))

-- both at once, as a slot is swept
pub sets_wait_swept : {w v : Pending} (s t : State) (m : AccountMove w v) → IsAfterLoads m → IsAccounted w → ((node : ℕ) → 0 < node → is_member s node ≡ true → w.released node ≡ false) → KeepsMembers s t → SetsWait w s → SetsWait v t
sets_wait_swept {w} {v} s t m after i alive k h = sets_wait_kept v s t k (sets_wait_moved s m after i alive h)

-- no sets wait
pub sets_wait_none : (w : Pending) (s : State) → s.sets ≡ [] → ((x : ℕ) → (slot_at s x).set ≡ None) → SetsWait w s
sets_wait_none w s empty none = record {
  marking = [];
  marked = record {
    stands = λ p z inside pos is. absurd (no_member z is);
    counted = λ z pos is. absurd (no_member z is);
    blackened = λ p z inside pos is out. absurd (no_member z is);
  };
  loads = [];
  loaded = nothing_loaded w;
  counted = λ number x is. absurd (none-some number (sym (none x) ∙ is));
}
  where
    no_member : (z : ℕ) → is_member s z ≡ true → ⊥
    no_member z is = false≢true (sym (ap (λ sets. ltb 0 (times (z - 1) (concat sets))) empty ∙ ap (ltb 0) (times-nil (z - 1))) ∙ is)

-- Lists of references that forgot dead ones, and one list of them that is written.
use Rattle.std.proofs.Common.{◌≡◌, ◌<◌, ℕ, Bool, not, List, [], length, get_or, map, set, refl, sym, ap, ◌∙◌, subst, inl, inr, length-set, Vec, Global}
use Rattle.std.specs.List.{All}
use Rattle.std.proofs.lemmas.Bool.{cases_eq}
use Rattle.std.proofs.lemmas.List.{map-set, get_or-map, get_or-set_same, get_or-set_other, length-map}
use Rattle.std.proofs.lemmas.List.Elements.{All-filter}
use Rattle.rec_audit.specs.declared.references.Edge.{Edge}
use Rattle.rec_audit.specs.States.{edges_at, without}
use Rattle.rec_audit.specs.Walks.{ArePruned, AreWithin}
use Rattle.rec_audit.proofs.Grown.{without_both}

abbrev pub inside : List (Vec Edge Global) → List (List Edge)
inside vs = map (λ v. v.items) vs

pub inside_length : (vs : List (Vec Edge Global)) → length (inside vs) ≡ length vs
inside_length vs = length-map vs (λ (v : Vec Edge Global). v.items)

-- one list is written anew, from what it was
pub written_list : (f : List Edge → List Edge) (vs : List (Vec Edge Global)) (slot : ℕ) (v w : Vec Edge Global) → slot < length vs → v ≡ get_or vs slot v → w.items ≡ f v.items → inside (set vs slot w) ≡ set (inside vs) slot (f (edges_at (inside vs) slot))
written_list f vs slot v w within is new =
    map-set (λ (v : Vec Edge Global). v.items) vs slot w
    ∙ ap (set (inside vs) slot) (new ∙ ap f (ap (λ (v : Vec Edge Global). v.items) is ∙ sym (get_or-map (λ (v : Vec Edge Global). v.items) vs slot v [] within)))

pub pruned_none : (dead : ℕ → Bool) (old : List (List Edge)) → ArePruned dead old old
pruned_none dead old = record { size = refl; same = λ slot. refl; within = λ slots within. within }

-- one list more forgot them
pub pruned_more : (dead : ℕ → Bool) (old now : List (List Edge)) (slot : ℕ) → slot < length now → ArePruned dead old now → ArePruned dead old (set now slot (without dead (edges_at now slot)))
pruned_more dead old now slot inner are =
    record {
      size = length-set now slot (without dead (edges_at now slot)) ∙ are.size;
      same = λ other. same other ∙ are.same other;
      within = λ slots within other. all slots (are.within slots within) other;
    }
  where
    new : List (List Edge)
    new = set now slot (without dead (edges_at now slot))

    at : (other : ℕ) → slot ≡ other → edges_at new other ≡ without dead (edges_at now other)
    at other is = ap (λ (k : ℕ). edges_at new k) (sym is) ∙ get_or-set_same now slot (without dead (edges_at now slot)) [] inner ∙ ap (λ (k : ℕ). without dead (edges_at now k)) is

    beside : (other : ℕ) → (slot ≡ other → ⊥) → edges_at new other ≡ edges_at now other
    beside other apart = get_or-set_other now slot other (without dead (edges_at now slot)) [] (λ e. apart (sym e))

    same : (other : ℕ) → without dead (edges_at new other) ≡ without dead (edges_at now other)
    same other =
        elim (cases_eq slot other) [
          | inl is ↦ ap (without dead) (at other is) ∙ without_both dead dead (λ w there. there) (edges_at now other)
          | inr apart ↦ ap (without dead) (beside other apart)
        ]

    all : (slots : ℕ) → AreWithin slots now → AreWithin slots new
    all slots within other =
        elim (cases_eq slot other) [
          | inl is ↦ subst (λ (es : List Edge). All (λ (e : Edge). e.to < slots) es) (sym (at other is)) (All-filter (λ (e : Edge). not (dead e.word)) (λ (e : Edge). e.to < slots) (edges_at now other) (within other))
          | inr apart ↦ subst (λ (es : List Edge). All (λ (e : Edge). e.to < slots) es) (sym (beside other apart)) (within other)
        ]

-- what the list of a slot is behind that
pub pruned_list : (dead : ℕ → Bool) (old now : List (List Edge)) (slot : ℕ) → slot < length now → ArePruned dead old now → edges_at (set now slot (without dead (edges_at now slot))) slot ≡ without dead (edges_at old slot)
pruned_list dead old now slot inner are = get_or-set_same now slot (without dead (edges_at now slot)) [] inner ∙ are.same slot

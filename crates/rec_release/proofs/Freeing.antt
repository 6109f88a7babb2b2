-- The freeing of a set goes on move by move: a reference is taken off, the next member is at work, all are listed.
use Rattle.std.proofs.Common.{◌≡◌, ℕ, ◌+◌, ◌<◌, true, Option, Some, None, List, [], ◌∷◌, ◌++◌, map, refl, arith, sym, ◌∙◌, ap, subst, inl, inr, append_assoc}
use Rattle.std.proofs.lemmas.List.{append-nil, map-append}
use Rattle.std.proofs.lemmas.Bool.{cases_lt}
use Rattle.rec_word.specs.Place.{place_of}
use Rattle.rec_word.specs.Word.{target_of, is_slot}
use Rattle.rec_word.specs.declared.member.Member.{Member}
use Rattle.rec_word.specs.Load.{Load, loaded_at, place_loaded}
use Rattle.rec_word.specs.Walk.{behind, first_in, places_left, IsOf}
use Rattle.rec_word.proofs.Given.{given_by}
use Rattle.rec_word.proofs.Walks.{behind_left, behind_stands, first_left, Stands}
use Rattle.rec_counts.specs.Counts.{State, IsKept}
use Rattle.rec_counts.specs.Groups.{last_set}
use Rattle.rec_counts.specs.Lists.{one, times}
use Rattle.rec_counts.proofs.Times.{times-append, times-nil}
use Rattle.rec_release.specs.CycleFree.{given_up, gone_on, listed, listed_behind, work_of, started_of, took_of, Work, IsAtWork, IsFreeable}
use Rattle.rec_release.specs.Freed.{held_of, listed_of, Freed, FreedTo, HasFreed}
use Rattle.rec_release.specs.Released.{leading}
use Rattle.rec_release.proofs.Giving.{given_count, given_is_work, given_many, given_released, given_work}
use Rattle.rec_release.specs.TakenOff.{taken_off}
use Rattle.rec_release.proofs.TakenOff.{leading-nil, leading_push, off_count, off_most, ready_off, KeepsMost}

-- a reference that came out of this field is taken off
taken_on : (fields : ℕ) (before : State) (members : List ℕ) (a : Member) (left listed held : List ℕ) (after : State) (loads : List Load) (word : ℕ) → Freed fields before members (place_of a.slot a.field fields ∷ left) listed held after loads →
    Freed fields before members left listed held (taken_off true after (target_of word)) (loads ++ loaded_at (Some a) word)
taken_on fields before members a left listed held after loads word r =
    let t : Option ℕ = target_of word in
    let more : List Load = loaded_at (Some a) word in
    let k : KeepsMost after (taken_off true after t) = off_most true after t in
    let ws : (x : ℕ) → leading x (map (λ (l : Load). l.word) (loads ++ more)) ≡ leading x (map (λ (l : Load). l.word) loads) + one (is_slot x t) =
    λ x. ap (leading x) (map-append (λ (l : Load). l.word) loads more) ∙ leading_push x (map (λ (l : Load). l.word) loads) word in
    record {
      places = ap (λ ps. ps ++ left) (map-append (place_loaded fields) loads more) ∙ append_assoc (map (place_loaded fields) loads) (place_of a.slot a.field fields ∷ []) left ∙ r.places;
      counts = λ x. omega (arith, off_count true after t x, r.counts x, ws x);
      released = λ x. ap one (k.released x) ∙ r.released x;
      free = k.free ∙ r.free;
      work = k.work ∙ r.work;
      zeros = (r.zeros.0 ++ k.zeros.0, k.zeros.1 ∙ ap (λ zs. zs ++ k.zeros.0) r.zeros.1 ∙ append_assoc before.zeros r.zeros.0 k.zeros.0);
      sets = k.sets ∙ r.sets;
      marked = k.marked ∙ r.marked;
      many = k.slots ∙ r.many;
    }

-- all members are listed
listed_on : (fields : ℕ) (before : State) (members : List ℕ) (after : State) (loads : List Load) → Freed fields before members [] [] members after loads → Freed fields before members [] members [] (listed after) loads
listed_on fields before members after loads r = record {
  places = r.places;
  counts = r.counts;
  released = r.released;
  free = ap (λ f. f ++ after.work) (r.free ∙ append-nil before.free) ∙ ap (λ ws. before.free ++ ws) r.work;
  work = refl;
  zeros = r.zeros;
  sets = r.sets;
  marked = r.marked;
  many = r.many;
}

-- another field comes next, or all members are listed
behind_on : (at : Option Member) (fields : ℕ) (before : State) (after : State) (loads : List Load) → Freed fields before (last_set before.sets) (places_left fields (last_set before.sets) at) [] (last_set before.sets) after loads →
    FreedTo fields before (listed_behind after at).at (listed_behind after at).counts loads
behind_on None fields before after loads r = listed_on fields before (last_set before.sets) after loads r
behind_on (Some a) fields before after loads r = r

-- what the freeing came to
pub record Came (fields : ℕ) (before : State) (w : Work) (loads : List Load) : Type 0 where
  pub fields_kept : w.machine.fields ≡ fields
  pub work : IsAtWork w.machine w.counts
  pub law : FreedTo fields before w.machine.at w.counts loads

-- the set is given up, and nothing is exchanged yet
pub came_first : (fields : ℕ) (before : State) → 0 < fields → IsKept before → IsFreeable before → Came fields before (work_of fields (record { at = first_in (last_set before.sets); counts = given_up before })) []
came_first fields before l k f = record {
  fields_kept = refl;
  work = given_is_work before fields l k f;
  law = record {
    places = first_left fields (last_set before.sets);
    counts = λ x. omega (arith, given_count before x, leading-nil x);
    released = λ x. given_released before x k f;
    free = rw (none_listed (last_set before.sets)) (sym (append-nil before.free));
    work = rw (all_held (last_set before.sets)) (given_work before f);
    zeros = ([], sym (append-nil before.zeros));
    sets = refl;
    marked = refl;
    many = given_many before;
  };
}
  where
    none_listed : (xs : List ℕ) → listed_of xs (first_in xs) ≡ []
    none_listed [] = refl
    none_listed (x ∷ xs) = refl

    all_held : (xs : List ℕ) → held_of xs (first_in xs) ≡ xs
    all_held [] = refl
    all_held (x ∷ xs) = refl

-- the counts are as the freeing left them, after each move
pub off_work : (fields : ℕ) (s : State) (t : Option ℕ) (a : Member) → IsAtWork (record { fields = fields; at = Some a }) s → IsAtWork (record { fields = fields; at = Some a }) (taken_off true s t)
off_work fields s t a w =
    let k : KeepsMost s (taken_off true s t) = off_most true s t in
    record {
      field = w.field;
      held = subst (λ ws. IsOf ws a) (sym k.work) w.held;
      unlisted = λ x h. ap (times x) k.free ∙ w.unlisted x (subst (λ ws. 0 < times x ws) k.work h);
      released = λ x h. k.released x ∙ w.released x (subst (λ ws. 0 < times x ws) k.work h);
      ready = ready_off true s t w.ready;
    }

pub gone_work : (fields : ℕ) (s : State) (a : Member) → IsAtWork (record { fields = fields; at = Some a }) s → IsAtWork (work_of fields (gone_on fields s a)).machine (gone_on fields s a).counts
gone_work fields s a w = go (behind fields s.work a) (behind_stands fields s.work a w.field w.held)
  where
    go : (at : Option Member) → Stands fields s.work at → IsAtWork (work_of fields (listed_behind s at)).machine (listed_behind s at).counts
    go (Some b) h = record { field = h.field; held = h.member; unlisted = w.unlisted; released = w.released; ready = w.ready }
    go None h = record {
      field = tt;
      held = tt;
      unlisted = λ x h. absurd (omega (arith, h, times-nil x));
      released = λ x h. absurd (omega (arith, h, times-nil x));
      ready = record {
        zeros = record { once = w.ready.zeros.once; none = w.ready.zeros.none; unreleased = w.ready.zeros.unreleased };
        free = λ x h. elim (cases_lt 0 (times x s.free)) [
          | inl l ↦ w.ready.free x l
          | inr l ↦ w.released x (omega (arith, h, l, times-append x s.free s.work))
        ];
      };
    }

-- one word more
pub came_more : (fields : ℕ) (before : State) (a : Member) (after : State) (loads : List Load) (word : ℕ) → IsAtWork (record { fields = fields; at = Some a }) after → FreedTo fields before (Some a) after loads →
    Came fields before (work_of fields (gone_on fields (taken_off true after (target_of word)) a)) (loads ++ loaded_at (Some a) word)
came_more fields before a after loads word w r =
    let ms : List ℕ = last_set before.sets in
    let now : State = taken_off true after (target_of word) in
    let q : Freed fields before ms (places_left fields ms (behind fields ms a)) [] ms now (loads ++ loaded_at (Some a) word) =
    taken_on fields before ms a (places_left fields ms (behind fields ms a)) [] ms after loads word (subst (λ ps. Freed fields before ms ps [] ms after loads) (behind_left fields ms a w.field) r) in
    record {
      fields_kept = refl;
      work = gone_work fields now a (off_work fields after (target_of word) a w);
      law = subst (λ ws. FreedTo fields before (listed_behind now (behind fields ws a)).at (listed_behind now (behind fields ws a)).counts (loads ++ loaded_at (Some a) word)) (sym q.work) (behind_on (behind fields ms a) fields before now (loads ++ loaded_at (Some a) word) q);
    }

came_at : (at : Option Member) (w : Work) (fields : ℕ) (before : State) (loads : List Load) (word : ℕ) → w ≡ work_of fields (record { at = at; counts = w.counts }) → Came fields before w loads → Came fields before (took_of w word) (loads ++ loaded_at at word)
unfolding took_of
came_at None w fields before loads word e c = rw (append-nil loads, e) (subst (λ v. Came fields before v loads) e c)
came_at (Some a) w fields before loads word e c =
    let d : Came fields before (work_of fields (record { at = Some a; counts = w.counts })) loads = subst (λ v. Came fields before v loads) e c in
    subst (λ v. Came fields before (took_of v word) (loads ++ loaded_at (Some a) word)) (sym e) (came_more fields before a w.counts loads word d.work d.law)

came_on : (fields : ℕ) (before : State) (w : Work) (loads : List Load) (word : ℕ) → Came fields before w loads → Came fields before (took_of w word) (loads ++ loaded_at w.machine.at word)
came_on fields before w loads word c = came_at w.machine.at w fields before loads word (ap (λ n. work_of n (record { at = w.machine.at; counts = w.counts })) c.fields_kept) c

-- a whole freeing
pub whole_freeing : (fields : ℕ) (before : State) (words : List ℕ) → 0 < fields → IsKept before → IsFreeable before → HasFreed fields before words
unfolding started_of
whole_freeing fields before words l k f =
    (given_by took_of (λ (w : Work) word. loaded_at w.machine.at word) (Came fields before) (came_on fields before) words _ [] (came_first fields before l k f)).law

-- what is learnt, where a field is due
pub took_some : (fields : ℕ) (a : Member) (s : State) (word : ℕ) → took_of (record { machine = record { fields = fields; at = Some a }; counts = s }) word ≡ work_of fields (gone_on fields (taken_off true s (target_of word)) a)
unfolding took_of
took_some fields a s word = refl

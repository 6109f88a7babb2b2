-- What holds since the batch before the tests of sets, through each move.
use Rattle.std.proofs.Common.{◌≡◌, ◌≢◌, ◌⊎◌, inl, inr, ℕ, ◌+◌, ◌<◌, ◌≤◌, Bool, true, false, not, leb, List, [], ◌∷◌, sum_by, refl, sym, ap, subst, ◌∙◌, arith, length}
use Rattle.std.proofs.lemmas.Bool.Decides.{nat_tests}
use Rattle.std.proofs.lemmas.Bool.{true≢false}
use Rattle.std.proofs.lemmas.List.Sums.{sum_by-le-sum_by, sum_by-cons}
use Rattle.rec_model.proofs.Common.{only_if, one_if_same, node_of, epoch_of, home, Pending, word_in, IsInReach, references_at, Puts, Bears, Applies, Releases, Clears, replaces_in, with_answer}
use Rattle.rec_model.specs.Sets.{HasLoaded, Cleared, early, replaced_early, gone_early, is_unreleased, IsSince, with_members, ReleasesSet}
use Rattle.rec_model.proofs.Sums.{sum_by_same}
use Rattle.rec_model.proofs.Weights.{only_if-le, only_if_le, none_if_other}
use Rattle.rec_model.proofs.Changed.{after_batch, after_birth, after_clearing, after_put, after_register, after_release, after_set, put_alike, birth_alike, batch_alike, release_alike, clearing_alike, set_alike}
use Rattle.rec_model.proofs.Alike.{IsAlike, with_epochs_of}
use Rattle.rec_model.proofs.Loading.{same_length, replaced_length, at_place, place_sum, place_sum_is}
use Rattle.rec_model.proofs.Trials.{null_elsewhere}

-- what holds since the batch sees the lists through their sums alone
module _ (w v u : Pending) (member : ℕ → Bool) (gone : List Cleared) (s : IsAlike w v) where
  with_epochs_since : IsSince w u member gone → IsSince (with_epochs_of w v) u member gone
  with_epochs_since t =
      let a : ℕ = w.applied in
      record {
        next = t.next;
        fields = t.fields;
        places = same_length w.words v.words s.words ∙ t.places;
        kept = λ q z. omega (arith, t.kept q z, s.words (early a q), s.logs.writes (replaced_early a q));
        grown = λ g. omega (arith, t.grown g, s.logs.writes g);
        closed = λ y. omega (arith, t.closed y, s.logs.writes (replaces_in a y));
        given_up = sum_by_same (is_unreleased w.fields v.released) (is_unreleased w.fields w.released) gone (λ g. ap (λ b. only_if (not b) 1) (s.slots.released (home w.fields g.place) (omega arith))) ∙ t.given_up;
        safe = λ z pos is r. t.safe z pos is (sym (s.slots.released z pos) ∙ r);
      }

  since_alike : IsSince w u member gone → IsSince v u member gone
  since_alike t =
      let with_fields : IsSince (record v { applied = w.applied; requested = w.requested }) u member gone = subst (λ f. IsSince (record v { fields = f; applied = w.applied; requested = w.requested }) u member gone) (sym s.epochs.fields) (with_epochs_since t) in
      let with_applied : IsSince (record v { requested = w.requested }) u member gone = subst (λ a. IsSince (record v { applied = a; requested = w.requested }) u member gone) (sym s.epochs.applied) with_fields in
      subst (λ r. IsSince (record v { requested = r }) u member gone) (sym s.epochs.requested) with_applied

-- a batch begins it
pub batch_since : (w v : Pending) (member : ℕ → Bool) → Applies w v → ((z : ℕ) → 0 < z → member z ≡ true → w.released z ≡ false) → IsSince v w member []
batch_since w v member s alive =
    let u : Pending = after_batch w v in
    let since : IsSince u w member [] = record {
      next = refl;
      fields = refl;
      places = refl;
      kept = λ q z. omega arith;
      grown = λ g. omega arith;
      closed = λ y. refl;
      given_up = refl;
      safe = λ z pos is r _. true≢false (sym r ∙ alive z pos is);
    } in
    since_alike u v w member [] (batch_alike w v s) since

module _ (w v u : Pending) (member : ℕ → Bool) (gone : List Cleared) where
  pub put_since : (epoch place new : ℕ) → Puts w v epoch place new → w.applied < epoch → IsSince w u member gone → IsSince v u member gone
  put_since epoch place new s after t =
      let a : ℕ = w.applied in
      let x : Pending = after_put w v in
      let apart : a ≢ epoch_of new = omega (arith, s.stamp, after) in
      let since : IsSince x u member gone = record {
        next = t.next;
        fields = t.fields;
        places = replaced_length w.words v.words place (word_in w place) new s.words ∙ t.places;
        kept = λ q z. omega (arith, t.kept q z, s.words (early a q), s.writes (replaced_early a q), not_early q, only_if_le a (epoch_of new) (early a q place (word_in w place)) (omega (arith, s.stamp, after)));
        grown = λ g. omega (arith, t.grown g, s.writes g);
        closed = λ y. omega (arith, t.closed y, s.writes (replaces_in a y), none_if_other a (epoch_of new) (one_if_same y (node_of (word_in w place))) apart);
        given_up = t.given_up;
        safe = t.safe;
      } in
      since_alike x v u member gone (put_alike w v epoch place new s) since
    where
      not_early : (q : ℕ → ℕ → ℕ) → early w.applied q place new ≡ 0
      not_early q = let late : w.applied < epoch_of new = omega (arith, s.stamp, after) in grind (arith, nat_tests)

  -- where nothing changes but what registers name
  pub registers_since : IsAlike (after_register w v) v → IsSince w u member gone → IsSince v u member gone
  registers_since s t =
      let x : Pending = after_register w v in
      let since : IsSince x u member gone = record {
        next = t.next;
        fields = t.fields;
        places = t.places;
        kept = t.kept;
        grown = t.grown;
        closed = t.closed;
        given_up = t.given_up;
        safe = t.safe;
      } in
      since_alike x v u member gone s since

  pub birth_since : (epoch old node : ℕ) → Bears w v epoch old node → IsSince w u member gone → IsSince v u member gone
  birth_since epoch old node s t =
      let x : Pending = after_birth w v node in
      let since : IsSince x u member gone = record {
        next = t.next;
        fields = t.fields;
        places = t.places;
        kept = t.kept;
        grown = t.grown;
        closed = t.closed;
        given_up = t.given_up;
        safe = t.safe;
      } in
      since_alike x v u member gone (birth_alike w v epoch old node s) since

  pub clearing_since : (place : ℕ) → Clears w v place → IsSince w u member gone → IsSince v u member (record { place = place; word = word_in w place } ∷ gone)
  clearing_since place s t =
      let a : ℕ = w.applied in
      let x : Pending = after_clearing w v in
      let out : Cleared = record { place = place; word = word_in w place } in
      let since : IsSince x u member (out ∷ gone) = record {
        next = t.next;
        fields = t.fields;
        places = replaced_length w.words v.words place (word_in w place) 0 s.words ∙ t.places;
        kept = λ q z. omega (arith, t.kept q z, s.words (early a q), z place, only_if-le (leb (epoch_of 0) a) (q place 0), sum_by-cons (gone_early a q) out gone);
        grown = t.grown;
        closed = t.closed;
        given_up = omega (arith, t.given_up, sum_by-cons (is_unreleased w.fields w.released) out gone, ap (λ b. only_if (not b) 1) s.was_released);
        safe = t.safe;
      } in
      since_alike x v u member (out ∷ gone) (clearing_alike w v place s) since

  released_or : (released : ℕ → Bool) (x z : ℕ) → with_answer released x true z ≡ true → (released z ≡ true) ⊎ (z ≡ x)
  released_or released x z d = grind (arith, nat_tests)

  pub release_since : (node : ℕ) → Releases w v node → (member node ≡ true → IsInReach u u.applied node → ⊥) → IsSince w u member gone → IsSince v u member gone
  release_since node s away t =
      let x : Pending = after_release w v node in
      let since : IsSince x u member gone = record {
        next = t.next;
        fields = t.fields;
        places = t.places;
        kept = t.kept;
        grown = t.grown;
        closed = t.closed;
        given_up = omega (arith, t.given_up, sum_by-le-sum_by (is_unreleased w.fields (with_answer w.released node true)) (is_unreleased w.fields w.released) gone (λ g. grind (arith, nat_tests)));
        safe = λ z pos is r. elim (released_or w.released node z r) [ inl e ↦ t.safe z pos is e | inr e ↦ subst (λ k. member k ≡ true → IsInReach u u.applied k → ⊥) (sym e) away is ];
      } in
      since_alike x v u member gone (release_alike w v node s) since

  of_set_or : (released chosen : ℕ → Bool) (z : ℕ) → with_members released chosen z ≡ true → (released z ≡ true) ⊎ (chosen z ≡ true)
  of_set_or released chosen z d = grind (arith, nat_tests)

  pub set_since : (chosen : ℕ → Bool) → ReleasesSet w v chosen → ((z : ℕ) → IsInReach u u.applied z → chosen z ≡ true → ⊥) → IsSince w u member gone → IsSince v u member gone
  set_since chosen s away t =
      let x : Pending = after_set w v chosen in
      let since : IsSince x u member gone = record {
        next = t.next;
        fields = t.fields;
        places = t.places;
        kept = t.kept;
        grown = t.grown;
        closed = t.closed;
        given_up = omega (arith, t.given_up, sum_by-le-sum_by (is_unreleased w.fields (with_members w.released chosen)) (is_unreleased w.fields w.released) gone (λ g. grind (arith, nat_tests)));
        safe = λ z pos is r reached. elim (of_set_or w.released chosen z r) [ inl e ↦ t.safe z pos is e reached | inr e ↦ away z reached e ];
      } in
      since_alike x v u member gone (set_alike w v chosen s) since

-- what the collector loaded before the batch is a reference while the field's node isn't given up
pub loaded_stands : (w u : Pending) (member : ℕ → Bool) (gone : List Cleared) (load : ℕ → ℕ) → IsSince w u member gone → HasLoaded u load → (p z : ℕ) → p < length w.words → 0 < z → w.released (home w.fields p) ≡ false → one_if_same z (node_of (load p)) ≤ references_at w w.applied p z
loaded_stands w u member gone load t h p z inside pos unreleased =
    omega (arith, then, t.kept (at_place p z) (λ i. null_elsewhere p z i pos), none, place_sum_is w w.applied p z inside)
  where
    before : p < length u.words
    before = omega (arith, inside, t.places)

    then : one_if_same z (node_of (load p)) ≤ place_sum u w.applied p z
    then = subst (λ a. one_if_same z (node_of (load p)) ≤ place_sum u a p z) t.next (omega (arith, h p z before pos, place_sum_is u (u.applied + 1) p z before))

    taken_out : (g : Cleared) → gone_early w.applied (at_place p z) g ≤ is_unreleased w.fields w.released g
    taken_out g = grind (arith, nat_tests, unreleased)

    none : sum_by (gone_early w.applied (at_place p z)) gone ≡ 0
    none = omega (arith, t.given_up, sum_by-le-sum_by (gone_early w.applied (at_place p z)) (is_unreleased w.fields w.released) gone taken_out)

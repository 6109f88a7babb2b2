-- The contract of `Schedule::next_turn`: whose turn comes next; none where no mutator has commands left.
use Rattle.std.proofs.Common.{◌≡◌, inl, inr, ℕ, ◌+◌, ◌-◌, ◌<◌, ◌≤◌, Some, ◌∷◌, List, slice_index_or, slice_set, length, sym, ap, subst, ◌∙◌, arith}
use Rattle.std.specs.List.{slice_get, slice_index}
use Rattle.std.proofs.lemmas.Option.{slice_get-get_or}
use Rattle.rec_play.specs.declared.schedule.Schedule.TheInside.{Inside}
use Rattle.rec_play.specs.declared.actor.Actor.TheVariants.{Mutator}
use Rattle.rec_play.specs.Inside.{rest}
use Rattle.rec_play.specs.Playing.{Rest, unfinished, to_come}
use Rattle.rec_play.proofs.Unfinished.{IsDue, is_due}
use Rattle.rec_play.proofs.Turns.{Drawn, ended, collector_next, mutator_next, left_stays, zero_or_more}
use Rattle.std.proofs.lemmas.Grind.{common_steps}
use Rattle.rec_play.proofs.schedule.Schedule.next_turn.Goals as goal

-- the fields name the unfinished mutators of the view
names_all : (s : Inside) (now : Rest) → rest s ≡ now → s.unfinished.items ≡ unfinished s.left.items → s.unfinished.items ≡ unfinished now.left
names_all s now is named = named ∙ ap (λ (r : Rest). unfinished r.left) is

-- a place that is drawn is a mutator's or the collector's
drawn_within : (before after : Rest) (place : ℕ) → Drawn before after place → place ≤ length (unfinished before.left)
drawn_within before after place so = elim (zero_or_more before.turns) [
  | inl none ↦ omega (arith, (so.no_more none).0)
  | inr some ↦ omega (arith, (so.drawn some).0)
]

-- the mutator whose turn is drawn
record IsNamed (before after : Rest) (place t : ℕ) : Type 0 where
  pub due : IsDue 1 after.left t
  pub some : 0 < t
  pub number : t ≡ t - 1 + 1
  pub named : slice_get (unfinished before.left) place ≡ Some (t - 1 + 1)
  pub there : t - 1 < length after.left
  pub has : 0 < slice_index after.left (t - 1)

is_named : (before after : Rest) (names : List ℕ) (place : ℕ) → Drawn before after place → names ≡ unfinished after.left → (place ≡ length names → ⊥)
    → IsNamed before after place (slice_index_or names place 0)
is_named before after names place so is_names other =
    let t : ℕ = slice_index_or names place 0 in
    let same : after.left ≡ before.left = left_stays before after place so in
    let count : length names ≡ length (unfinished after.left) = ap length is_names in
    let upper : place ≤ length (unfinished after.left) = subst (λ left. place ≤ length (unfinished left)) (sym same) (drawn_within before after place so) in
    let lower : place < length names = omega arith in
    let is : slice_index_or (unfinished after.left) place 0 ≡ t = ap (λ ts. slice_index_or ts place 0) (sym is_names) in
    let named : slice_get (unfinished after.left) place ≡ Some t = slice_get-get_or (unfinished after.left) place 0 (subst (λ n. place < n) count lower) ∙ ap (λ n. Some n) is in
    let due : IsDue 1 after.left t = is_due 1 after.left place t named in
    let index : due.index ≡ t - 1 = omega (arith, due.is) in
    let number : t ≡ t - 1 + 1 = omega (arith, due.is) in
    record {
      due = due;
      some = omega (arith, due.is);
      number = number;
      named = ap (λ left. slice_get (unfinished left) place) (sym same) ∙ named ∙ ap (λ n. Some n) number;
      there = subst (λ n. n < length after.left) index due.there;
      has = subst (λ n. 0 < slice_index_or after.left n 0) index due.some;
    }

pub returns-then-is_empty-clause-ended : goal.returns-then-is_empty-clause-ended
returns-then-is_empty-clause-ended c _ =
    let none : length c.self.inside.unfinished.items ≡ 0 = grind (arith, common_steps) in
    ended c.args.self.now (sym (ap length (names_all c.self.inside c.args.self.now c.self.view_is c.self.invariant)) ∙ none)

pub returns-then-place-len-clause-turn : goal.returns-then-place-len-clause-turn
returns-then-place-len-clause-turn c =
    let before : Rest = c.args.self.now in
    let after : Rest = c.draw-place.new.self in
    let so : Drawn before after c.draw-place.result = record { drawn = c.draw-place.ensures.drawn; no_more = c.draw-place.ensures.no_more } in
    let some : 0 < length c.self.inside.unfinished.items = grind (arith, common_steps) in
    let busy : 0 < length (unfinished before.left) = subst (λ (ts : List ℕ). 0 < length ts) (names_all c.self.inside before c.self.view_is c.self.invariant) some in
    collector_next before after c.draw-place.result so busy
    (c.if-place-len.true ∙ c.len.ensures.value ∙ ap length (names_all c.self-2.inside after c.self-2.view_is c.self-2.invariant) ∙ ap (λ left. length (unfinished left)) (left_stays before after c.draw-place.result so))

pub overflow_sub-from : goal.overflow_sub-from
overflow_sub-from c =
    let before : Rest = c.args.self.now in
    let after : Rest = c.draw-place.new.self in
    let names : List ℕ = c.self-2.inside.unfinished.items in
    let so : Drawn before after c.draw-place.result = record { drawn = c.draw-place.ensures.drawn; no_more = c.draw-place.ensures.no_more } in
    let it : IsNamed before after c.draw-place.result (slice_index_or names c.draw-place.result 0)
    = is_named before after names c.draw-place.result so (names_all c.self-2.inside after c.self-2.view_is c.self-2.invariant) (λ is. c.if-place-len.false (is ∙ sym c.len.ensures.value)) in
    let from : c.from.result ≡ slice_index_or names c.draw-place.result 0 = c.from.ensures ∙ ap (λ (l : List ℕ). slice_index_or l c.draw-place.result 0) c.deref.ensures.0 in
    omega (arith, it.some, from)

pub take-requires-clause-there : goal.take-requires-clause-there
take-requires-clause-there c =
    let before : Rest = c.args.self.now in
    let after : Rest = c.draw-place.new.self in
    let names : List ℕ = c.self-2.inside.unfinished.items in
    let so : Drawn before after c.draw-place.result = record { drawn = c.draw-place.ensures.drawn; no_more = c.draw-place.ensures.no_more } in
    let it : IsNamed before after c.draw-place.result (slice_index_or names c.draw-place.result 0)
    = is_named before after names c.draw-place.result so (names_all c.self-2.inside after c.self-2.view_is c.self-2.invariant) (λ is. c.if-place-len.false (is ∙ sym c.len.ensures.value)) in
    let from : c.from.result ≡ slice_index_or names c.draw-place.result 0 = c.from.ensures ∙ ap (λ (l : List ℕ). slice_index_or l c.draw-place.result 0) c.deref.ensures.0 in
    subst (λ n. n - 1 < length after.left) (sym from) it.there

pub take-requires-clause-some : goal.take-requires-clause-some
take-requires-clause-some c =
    let before : Rest = c.args.self.now in
    let after : Rest = c.draw-place.new.self in
    let names : List ℕ = c.self-2.inside.unfinished.items in
    let so : Drawn before after c.draw-place.result = record { drawn = c.draw-place.ensures.drawn; no_more = c.draw-place.ensures.no_more } in
    let it : IsNamed before after c.draw-place.result (slice_index_or names c.draw-place.result 0)
    = is_named before after names c.draw-place.result so (names_all c.self-2.inside after c.self-2.view_is c.self-2.invariant) (λ is. c.if-place-len.false (is ∙ sym c.len.ensures.value)) in
    let from : c.from.result ≡ slice_index_or names c.draw-place.result 0 = c.from.ensures ∙ ap (λ (l : List ℕ). slice_index_or l c.draw-place.result 0) c.deref.ensures.0 in
    subst (λ n. 0 < slice_index after.left (n - 1)) (sym from) it.has

pub returns-clause-turn : goal.returns-clause-turn
returns-clause-turn c =
    let before : Rest = c.args.self.now in
    let after : Rest = c.draw-place.new.self in
    let names : List ℕ = c.self-2.inside.unfinished.items in
    let so : Drawn before after c.draw-place.result = record { drawn = c.draw-place.ensures.drawn; no_more = c.draw-place.ensures.no_more } in
    let it : IsNamed before after c.draw-place.result (slice_index_or names c.draw-place.result 0)
    = is_named before after names c.draw-place.result so (names_all c.self-2.inside after c.self-2.view_is c.self-2.invariant) (λ is. c.if-place-len.false (is ∙ sym c.len.ensures.value)) in
    let from : c.from.result ≡ slice_index_or names c.draw-place.result 0 = c.from.ensures ∙ ap (λ (l : List ℕ). slice_index_or l c.draw-place.result 0) c.deref.ensures.0 in
    let u : ℕ = slice_index_or names c.draw-place.result 0 in
    let t : ℕ = slice_index_or c.deref.result.now c.draw-place.result 0 in
    let same : t ≡ u = ap (λ (l : List ℕ). slice_index_or l c.draw-place.result 0) c.deref.ensures.0 in
    let some : 0 < length c.self.inside.unfinished.items = grind (arith, common_steps) in
    let busy : 0 < length (unfinished before.left) = subst (λ (ts : List ℕ). 0 < length ts) (names_all c.self.inside before c.self.view_is c.self.invariant) some in
    mutator_next before after c.draw-place.result (u - 1) so busy it.named
    ∙ ap (λ n. Mutator n ∷ to_come (record after { left = slice_set after.left (u - 1) (slice_index_or after.left (u - 1) 0 - 1) })) (sym (same ∙ it.number))
    ∙ ap (λ n. Mutator t ∷ to_come (record after { left = slice_set after.left (n - 1) (slice_index_or after.left (n - 1) 0 - 1) })) (sym from)
    ∙ ap (λ r. Mutator t ∷ to_come r) (sym c.take.ensures)

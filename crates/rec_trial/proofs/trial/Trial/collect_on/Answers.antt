-- The contract of `Trial::collect_on`: the next marked slot begins a set where it is White; after the last one the trial is over.
use Rattle.std.proofs.Common.{◌≡◌, ◌≢◌, ℕ, Bool, ◌+◌, ◌<◌, ◌≤◌, List, [], length, true, false, arith, refl, sym, ap, subst, ◌∙◌}
use Rattle.std.specs.Prelude.{nat_lt, slice_index_or as item_at}
use Rattle.std.proofs.lemmas.Bool.{lt-ltb, le-ltb}
use Rattle.rec_counts.specs.declared.colour.Colour.TheVariants.{Black, Gray, Green, Orange, Purple, White}
use Rattle.rec_trial.specs.Moves.{cleared}
use Rattle.rec_trial.proofs.Common.{Colour, Collecting, Idle, Machine, State, Work, collect_moved, is_white, set_begun_if, slot_at}
use Rattle.rec_trial.proofs.Conditions.{marked_in_range}
use Rattle.rec_trial.proofs.trial.Trial.collect_on.Goals as goal

not_white : (colour : Colour) → colour ≢ White → is_white colour ≡ false
not_white Black other = refl
not_white Purple other = refl
not_white Gray other = refl
not_white White other = absurd (other refl)
not_white Orange other = refl
not_white Green other = refl

-- what follows where one more is looked at
looked : (white : Bool) (m now : Machine) (s : State) (x : ℕ) → m ≡ now → m.tried < length s.marked → x ≡ item_at s.marked m.tried 0 → is_white (slot_at s x).colour ≡ white →
    set_begun_if white (record { machine = m; counts = s }) x ≡ collect_moved (nat_lt now.tried (length s.marked)) (record { machine = now; counts = s })
looked white m now s x same more is hue =
    let w : Work = record { machine = m; counts = s } in
    ap (λ b. set_begun_if b w x) (sym hue)
    ∙ ap (λ y. set_begun_if (is_white (slot_at s y).colour) w y) is
    ∙ ap (λ b. collect_moved b w) (sym (lt-ltb m.tried (length s.marked) more))
    ∙ ap (λ (n : Machine). collect_moved (nat_lt n.tried (length s.marked)) (record { machine = n; counts = s })) same

-- what follows where none is left
ended : (m now : Machine) (s after : State) → m ≡ now → length s.marked ≤ m.tried → after ≡ cleared s →
    record { machine = record m { phase = Idle }; counts = after } ≡ collect_moved (nat_lt now.tried (length s.marked)) (record { machine = now; counts = s })
ended m now s after same none is =
    ap (λ (t : State). record { machine = record m { phase = Idle }; counts = t }) is
    ∙ ap (λ b. collect_moved b (record { machine = m; counts = s })) (sym (le-ltb m.tried (length s.marked) none))
    ∙ ap (λ (n : Machine). collect_moved (nat_lt n.tried (length s.marked)) (record { machine = n; counts = s })) same

pub colour-requires : goal.colour-requires
colour-requires c = rw c.marked-then-self-marked.ensures (marked_in_range c.args.counts.now c.rules.ensures c.self.inside.tried (omega (arith, c.if-self-marked.true, ap length c.marked.ensures)))

pub begin-requires-clause-in_range : goal.begin-requires-clause-in_range
begin-requires-clause-in_range c = rw c.marked-then-self-marked.ensures (marked_in_range c.args.counts.now c.rules.ensures c.self.inside.tried (omega (arith, c.if-self-marked.true, ap length c.marked.ensures)))

pub begin-requires-clause-white : goal.begin-requires-clause-white
begin-requires-clause-white c = ap is_white (sym c.colour.ensures ∙ c.in-White.is)

pub begin-requires-clause-rules : goal.begin-requires-clause-rules
begin-requires-clause-rules c = c.requires

pub invariant_of-self : goal.invariant_of-self
invariant_of-self c = c.self.invariant

pub invariant_of-self-in_default : goal.invariant_of-self-in_default
invariant_of-self-in_default c = c.self.invariant

pub invariant_of-self-else-self-marked : goal.invariant_of-self-else-self-marked
invariant_of-self-else-self-marked c = c.self.invariant

pub returns-in-White : goal.returns-in-White
returns-in-White c =
    let m : Machine = record { fields = c.self.inside.fields; phase = c.self.inside.phase; tried = c.self.inside.tried; done = c.self.inside.done; slot = c.self.inside.slot; field = c.self.inside.field } in
    let more = subst (λ (xs : List ℕ). c.self.inside.tried < length xs) c.marked.ensures c.if-self-marked.true in
    ap (λ (t : State). record { machine = record m { phase = Collecting; tried = m.tried + 1; done = 0 }; counts = t }) c.begin.ensures
    ∙ looked true m c.args.self.now c.args.counts.now _ c.self.view_is more (ap (λ (xs : List ℕ). item_at xs c.self.inside.tried 0) c.marked-then-self-marked.ensures) (ap is_white (sym c.colour.ensures ∙ c.in-White.is))

pub returns-in_default : goal.returns-in_default
returns-in_default c =
    let m : Machine = record { fields = c.self.inside.fields; phase = c.self.inside.phase; tried = c.self.inside.tried; done = c.self.inside.done; slot = c.self.inside.slot; field = c.self.inside.field } in
    let more = subst (λ (xs : List ℕ). c.self.inside.tried < length xs) c.marked.ensures c.if-self-marked.true in
    looked false m c.args.self.now c.args.counts.now _ c.self.view_is more (ap (λ (xs : List ℕ). item_at xs c.self.inside.tried 0) c.marked-then-self-marked.ensures) (not_white _ (λ is. c.in_default.not-White (c.colour.ensures ∙ is)))

pub returns-else-self-marked : goal.returns-else-self-marked
returns-else-self-marked c =
    let none = subst (λ (xs : List ℕ). length xs ≤ c.self.inside.tried) c.marked.ensures c.if-self-marked.false in
    ended _ c.args.self.now c.args.counts.now _ c.self.view_is none (c.clear_work.ensures ∙ ap (λ (t : State). record t { work = [] }) c.clear_marked.ensures)

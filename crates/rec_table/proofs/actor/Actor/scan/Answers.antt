-- The contract of `Actor::scan`: makes the failing probes that come next, if it makes a scan.
use Rattle.std.proofs.Common.{◌≡◌, ◌<◌, ◌≤◌, ◌+◌, ◌-◌, ◌++◌, ◌%◌, ◌^◌, ℕ, [], fold, length, Option, refl, sym, ap, subst, ◌∙◌, append-nil, arith}
use Rattle.std.proofs.lemmas.List.Elements.{All-nil}
use Rattle.rec_word.specs.declared.op.Op.TheVariants as ops
use Rattle.atomic_table.specs.Table.{Me}
use Rattle.rec_table.proofs.Common.{Private, KeepsSizes, is_busy, work_of, took_of, skipped_to, IsAhead, Contents, IsMutator, Core, mutator, actor_of, world_kept, MutatorView, mutator_view, mutator_now, told, seated_of, hands_at, Passed, ScansFrom, saw_all, Seated, View, Mutates}
use Rattle.rec_table.proofs.Acting.{opened_is}
use Rattle.rec_table.proofs.Making.{keeps_on}
use Rattle.rec_table.proofs.Scanning.{Claims, Ends, claims, claims_slot, ends}
use Rattle.rec_table.proofs.actor.Actor.scan.Goals as goal
use Rattle.rec_table.proofs.actor.Actor.scan.Goals.{After-from}

abbrev key : (c : After-from) → Core
key c = c.args.board.now.table.shared.key.value

abbrev seated : (c : After-from) → Seated
seated c = seated_of c.self.inside.seat.me.0

opened : (c : After-from) → c.self.inside.opened.value ≡ mutator (key c) (seated c).number
opened c = opened_is c.args.board.now.table.shared.table_id c.self.inside.seat.table_id (key c) c.self.inside.opened.value (seated c) c.args.self.now c.self.view_is c.requires.own

claiming : (c : After-from) → Claims c.self.inside.machine c.from.result
claiming c = claims c.self.inside.machine c.from.result c.in-ClaimHeader.field-1 (sym c.next.ensures ∙ c.in-ClaimHeader.is ∙ ap (λ n. ops.ClaimHeader n c.in-ClaimHeader.field-1) (sym c.from.ensures))

-- the scan has made so many probes, and has this slot still to come to
first : (c : After-from) → ((claiming c).probed < c.self.inside.machine.slots) × (c.self.inside.machine.steps ≡ (claiming c).probed + 1) × (c.from.result < c.self.inside.machine.slots)
first c = claims_slot c.self.inside.machine c.from.result c.steps-steps.ensures.kept (claiming c)

probed_is : (c : After-from) → c.steps-steps.result - 1 ≡ (claiming c).probed
probed_is c =
    let counted = (first c).1 in
    omega (arith, counted, c.steps-steps.ensures.steps)

many : (c : After-from) → c.self.inside.machine.slots ≡ c.args.board.now.layout.slots
many c =
    let is : IsMutator (key c).config (seated c).number = subst (λ (n : ℕ). IsMutator (key c).config n) (sym (ap (λ (x : MutatorView). x.number) c.self.view_is)) c.requires.own.1 in
    let kept = world_kept (key c) c.requires.world in
    let own = (actor_of (key c) (seated c).number kept is).own in
    c.self.invariant.3.slots ∙ ap (λ (p : Private). p.slots) (opened c) ∙ own.slots ∙ sym kept.headers ∙ sym c.args.board.now.wide.1

-- the slot is one of the table's
pub finds_free-requires : goal.finds_free-requires
finds_free-requires c =
    let key : Core = c.args.board.now.table.shared.key.value in
    let t : Seated = seated_of c.self.inside.seat.me.0 in
    let opened : c.self.inside.opened.value ≡ mutator key t.number = opened_is c.args.board.now.table.shared.table_id c.self.inside.seat.table_id key c.self.inside.opened.value t c.args.self.now c.self.view_is c.requires.own in
    let is : IsMutator key.config t.number = subst (λ (n : ℕ). IsMutator key.config n) (sym (ap (λ (x : MutatorView). x.number) c.self.view_is)) c.requires.own.1 in
    let kept = world_kept key c.requires.world in
    let own = (actor_of key t.number kept is).own in
    let many : c.self.inside.machine.slots ≡ c.args.board.now.layout.slots = c.self.invariant.3.slots ∙ ap (λ (p : Private). p.slots) opened ∙ own.slots ∙ sym kept.headers ∙ sym c.args.board.now.wide.1 in
    let k : Claims c.self.inside.machine c.in-ClaimHeader.slot = claims c.self.inside.machine c.in-ClaimHeader.slot c.in-ClaimHeader.field-1 (sym c.next.ensures ∙ c.in-ClaimHeader.is) in
    let there = (claims_slot c.self.inside.machine c.in-ClaimHeader.slot c.steps-steps.ensures.kept k).2 in
    omega (arith, many, there)

-- the first step came before the probes
pub overflow_sub-probed : goal.overflow_sub-probed
overflow_sub-probed c =
    let k : Claims c.self.inside.machine c.in-ClaimHeader.slot = claims c.self.inside.machine c.in-ClaimHeader.slot c.in-ClaimHeader.field-1 (sym c.next.ensures ∙ c.in-ClaimHeader.is) in
    let counted = (claims_slot c.self.inside.machine c.in-ClaimHeader.slot c.steps-steps.ensures.kept k).1 in
    omega (arith, counted, c.steps-steps.ensures.steps)

pub first_free-count-requires-clause-seat : goal.first_free-count-requires-clause-seat
first_free-count-requires-clause-seat c =
    let a : After-from = (goal.at.first_free-count-requires-clause-seat c).After-from in
    c.self.invariant.0 ∙ (λ k. (Mutates (seated a), hands_at (seated a).hand c.self.inside.machine.number ((claiming a).phase k)))

pub first_free-count-requires-clause-scan : goal.first_free-count-requires-clause-scan
first_free-count-requires-clause-scan c =
    let a : After-from = (goal.at.first_free-count-requires-clause-scan c).After-from in
    let k = claiming a in
    let lt = (first a).0 in
    let all = many a in
    subst (λ (y : Private × ℕ). ScansFrom y.0 y.1 c.from.result c.args.board.now.layout.slots) (λ j. ((c.self.invariant.1 ∙ ap (λ (p : Private). told p (seated a).log) (opened a)) j, sym (probed_is a) j))
    (record { reg = k.reg; label = k.label; leaf = k.leaf; before = k.before; phase = k.phase; comes = k.comes; many = all; there = omega (arith, lt, all) })

pub first_free-count-requires-clause-slot : goal.first_free-count-requires-clause-slot
first_free-count-requires-clause-slot c =
    let a : After-from = (goal.at.first_free-count-requires-clause-slot c).After-from in
    let there = (first a).2 in
    let all = many a in
    omega (arith, there, all)

pub skip_to-requires-clause-ahead : goal.skip_to-requires-clause-ahead
skip_to-requires-clause-ahead c =
    let a : After-from = (goal.at.skip_to-requires-clause-ahead c).After-from in
    let every = c.first_free-count.ensures.passed.every in
    let low : (claiming a).probed ≤ c.first_free-count.result = omega (arith, every, probed_is a) in
    subst (λ f. IsAhead f c.first_free-count.result) (sym (claiming a).phase) low

pub skip_to-requires-clause-slots : goal.skip_to-requires-clause-slots
skip_to-requires-clause-slots c =
    let a : After-from = (goal.at.skip_to-requires-clause-slots c).After-from in
    let all = many a in
    let few = c.first_free-count.ensures.few in
    omega (arith, all, few)

-- as the machine has made so many probes
ended : (c : After-from) (r : Private) (count : ℕ) (me : Me (Option Contents) View) → (passed : Passed (seated c) (c.steps-steps.result - 1) count me) → count ≤ c.args.board.now.layout.slots → r ≡ skipped_to c.self.inside.machine count → Ends c.self.inside.opened.value c.self.inside.machine r (seated c) me passed.words
ended c r count me passed few skips =
    let all = many c in
    let every = passed.every in
    let its : Passed (seated c) (claiming c).probed count me = record { words = passed.words; taken = passed.taken; every = omega (arith, every, probed_is c); grows = passed.grows } in
    ends c.self.inside.opened.value c.self.inside.machine r (seated c) c.from.result count me c.self.invariant.1 (claiming c) its (first c).0 (omega (arith, all, few)) skips c.self.invariant.2

pub invariant_of-self : goal.invariant_of-self
invariant_of-self c =
    let e = ended (goal.at.invariant_of-self c).After-from c.skip_to.new.self c.first_free-count.result c.first_free-count.new.seat.me c.first_free-count.ensures.passed c.first_free-count.ensures.few c.skip_to.ensures.skipped in
    (e.seat, e.told, e.names, keeps_on c.self.inside.opened.value c.self.inside.machine c.skip_to.new.self c.self.invariant.3 c.skip_to.ensures.same, e.between, c.self.invariant.5 ∙ ap (λ n. n % 2 ^ 64) (sym e.births))

-- its record before
was : (c : After-from) → c.self.inside.machine ≡ mutator_now c.args.self.now
was c = c.self.invariant.1 ∙ ap mutator_now c.self.view_is

pub returns-else-finds_free-clause-scanned : goal.returns-else-finds_free-clause-scanned
returns-else-finds_free-clause-scanned c =
    let a : After-from = (goal.at.returns-else-finds_free-clause-scanned c).After-from in
    let e = ended a c.skip_to.new.self c.first_free-count.result c.first_free-count.new.seat.me c.first_free-count.ensures.passed c.first_free-count.ensures.few c.skip_to.ensures.skipped in
    let s = c.self.inside in
    let passed = c.first_free-count.ensures.passed in
    let new : MutatorView = mutator_view c.first_free-count.new.seat.table_id s.opened.value (seated_of c.first_free-count.new.seat.me.0) in
    let grows : new ≡ record (mutator_view s.seat.table_id s.opened.value (seated_of s.seat.me.0)) { log = (seated_of s.seat.me.0).log ++ saw_all passed.words } =
    λ k. mutator_view (c.first_free-count.ensures.seat.0 k) s.opened.value (seated_of (passed.grows k).0) in
    record {
      words = passed.words;
      taken = passed.taken;
      grows = grows ∙ (λ k. record (c.self.view_is k) { log = (c.self.view_is k).log ++ saw_all passed.words });
      learns = sym e.told ∙ e.learns ∙ ap (λ (p : Private). fold took_of p passed.words) (was a);
      steps = subst (λ (y : Private × Private). y.1.steps ≡ y.0.steps + length passed.words) (λ k. (was a k, e.told k)) e.steps;
    }

pub returns-else-finds_free-clause-steps : goal.returns-else-finds_free-clause-steps
returns-else-finds_free-clause-steps c =
    let a : After-from = (goal.at.returns-else-finds_free-clause-steps c).After-from in
    let e = ended a c.skip_to.new.self c.first_free-count.result c.first_free-count.new.seat.me c.first_free-count.ensures.passed c.first_free-count.ensures.few c.skip_to.ensures.skipped in
    let counted = e.steps in
    subst (λ (y : Private × Private). y.0.steps ≤ y.1.steps) (λ k. (was a k, e.told k)) (omega (arith, counted))

pub returns-else-finds_free-clause-busy : goal.returns-else-finds_free-clause-busy
returns-else-finds_free-clause-busy c =
    let a : After-from = (goal.at.returns-else-finds_free-clause-busy c).After-from in
    let e = ended a c.skip_to.new.self c.first_free-count.result c.first_free-count.new.seat.me c.first_free-count.ensures.passed c.first_free-count.ensures.few c.skip_to.ensures.skipped in
    ap is_busy (sym e.told) ∙ c.skip_to.ensures.busy ∙ ap is_busy (was a) ∙ c.requires.busy

pub returns-else-finds_free-clause-work : goal.returns-else-finds_free-clause-work
returns-else-finds_free-clause-work c =
    let a : After-from = (goal.at.returns-else-finds_free-clause-work c).After-from in
    let e = ended a c.skip_to.new.self c.first_free-count.result c.first_free-count.new.seat.me c.first_free-count.ensures.passed c.first_free-count.ensures.few c.skip_to.ensures.skipped in
    ap work_of (sym e.told) ∙ c.skip_to.ensures.work ∙ ap work_of (was a)

pub returns-else-finds_free-clause-same : goal.returns-else-finds_free-clause-same
returns-else-finds_free-clause-same c =
    let a : After-from = (goal.at.returns-else-finds_free-clause-same c).After-from in
    let e = ended a c.skip_to.new.self c.first_free-count.result c.first_free-count.new.seat.me c.first_free-count.ensures.passed c.first_free-count.ensures.few c.skip_to.ensures.skipped in
    subst (λ (y : Private × Private). KeepsSizes y.0 y.1) (λ k. (was a k, e.told k)) c.skip_to.ensures.same

-- where the next operation claims no header, no probe is made
pub returns-in_default : goal.returns-in_default
returns-in_default c =
    let h : MutatorView = c.args.self.now in
    record {
      scanned = record { words = []; taken = All-nil (λ word. 0 < word); grows = λ k. record h { log = sym (append-nil h.log) k }; learns = refl; steps = omega arith };
      steps = omega arith;
      busy = c.requires.busy;
      work = refl;
      same = record { number = refl; slots = refl; fields = refl; registers = refl; capacity = refl; parked = refl };
    }

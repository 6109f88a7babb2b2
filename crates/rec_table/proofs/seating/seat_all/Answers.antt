-- The contract of `seat_all`: makes a mutator of each machine, in order of number.
use Rattle.std.proofs.Common.{◌≡◌, ◌≢◌, ℕ, suc, ◌+◌, ◌-◌, ◌<◌, ◌≤◌, List, [], ◌∷◌, ◌++◌, false, drop, length, get_or, refl, sym, ap, ◌∙◌, arith, length-append}
use Rattle.std.proofs.Common.{vec_len}
use Rattle.std.proofs.lemmas.Bool.{eqb-true}
use mathlib.Core.Logic.{dite}
use native.Mathlib.Decide.{ℕ_discrete}
use Rattle.std.proofs.Math.Seq.{get_or-append_seam}
use Rattle.std.proofs.lemmas.List.{get_or_append_left}
use Rattle.rec_table.proofs.Common.{Private, is_busy, Core, mutator, nobody, CollectorView, MutatorView, Started, fresh, mutator_now, started}
use Rattle.rec_table.proofs.Lists.{Next, none_left, taken_off}
use Rattle.rec_table.proofs.seating.seat_all.Goals as goal
use Rattle.rec_table.proofs.seating.seat_all.Goals.{After-loop-machines, After-of-opened}

abbrev key : (c : After-of-opened) → Core
key c = c.args.board.now.table.shared.key.value

abbrev heap : (c : After-of-opened) → Started
heap c = started c.args.board.now.table.shared.table_id (key c)

-- how many mutators there are so far
abbrev so_far : (c : After-of-opened) → ℕ
so_far c = length c.loop-machines.mutators.items

next : (c : After-of-opened) → Next c.args.machines.items (so_far c) c.remove-machine.result c.remove-machine.new.self.items
next c =
    let old = c.loop-machines.machines in
    let new = c.remove-machine.new.self in
    taken_off c.args.machines.items old.items new.items (so_far c) c.remove-machine.result c.loop-machines.invariant.rest (omega (arith, c.remove-machine.ensures.len, old.ok.0)) c.remove-machine.ensures.value c.remove-machine.ensures.items

made : (c : After-of-opened) → c.loop-machines.collector.collecting.made ≡ so_far c
made c = ap (λ (g : CollectorView). g.collecting.made) c.loop-machines.invariant.collector

below : (c : After-of-opened) → so_far c < (key c).config.mutators
below c =
    let many = c.requires.world.shaped.mutators in
    let all : length c.args.machines.items ≡ length (key c).mutators = ap length c.requires.machines in
    omega (arith, (next c).there, many, all)

own_machine : (c : After-of-opened) → c.remove-machine.result ≡ mutator (key c) (so_far c + 1)
own_machine c =
    let at_k : so_far c ≡ so_far c + 1 - 1 = omega arith in
    sym ((next c).value nobody) ∙ ap (λ (l : List Private). get_or l (so_far c) nobody) c.requires.machines ∙ ap (λ (n : ℕ). get_or (key c).mutators n nobody) at_k

idle : (c : After-of-opened) → is_busy c.remove-machine.result ≡ false
idle c = ap is_busy (own_machine c) ∙ c.requires.idle (so_far c + 1) (omega arith, omega (arith, below c))

pub loop-machines-init : goal.loop-machines-init
loop-machines-init c =
    let none : length c.args.mutators.now.items ≡ 0 = ap length c.requires.room.0 in
    record {
      rest = ap (λ (n : ℕ). drop n c.args.machines.items) (sym none);
      each = λ k d lt. absurd (omega (arith, none, lt));
      few = omega (arith, none);
      collector = λ i. record c.args.collector.now { collecting = record c.args.collector.now.collecting { made = (c.requires.none ∙ sym none) i } };
      capacity = refl;
      room = c.requires.room.1;
    }

pub seat_next-actor-requires-clause-own : goal.seat_next-actor-requires-clause-own
seat_next-actor-requires-clause-own c = (ap (λ (g : CollectorView). g.table) c.loop-machines.invariant.collector ∙ c.requires.own.0, ap (λ (g : CollectorView). g.opened) c.loop-machines.invariant.collector ∙ c.requires.own.1)

pub seat_next-actor-requires-clause-room : goal.seat_next-actor-requires-clause-room
seat_next-actor-requires-clause-room c = let a : After-of-opened = (goal.at.seat_next-actor-requires-clause-room c).After-of-opened in omega (arith, made a, below a)

pub seat_next-actor-requires-clause-machine : goal.seat_next-actor-requires-clause-machine
seat_next-actor-requires-clause-machine c =
    let a : After-of-opened = (goal.at.seat_next-actor-requires-clause-machine c).After-of-opened in
    (sym c.of-opened.ensures, c.of-opened.ensures ∙ own_machine a ∙ ap (λ (n : ℕ). mutator (key a) (n + 1)) (sym (made a)))

pub seat_next-actor-requires-clause-idle : goal.seat_next-actor-requires-clause-idle
seat_next-actor-requires-clause-idle c = idle (goal.at.seat_next-actor-requires-clause-idle c).After-of-opened

pub of-requires : goal.of-requires
of-requires c =
    let a : After-of-opened = (goal.at.of-requires c).After-of-opened in
    ap (λ (h : MutatorView). is_busy (mutator_now h)) c.seat_next-actor.ensures.actor ∙ ap is_busy c.of-opened.ensures ∙ idle a

pub push_reserved-requires : goal.push_reserved-requires
push_reserved-requires c =
    let a : After-of-opened = (goal.at.push_reserved-requires c).After-of-opened in
    omega (arith, (next a).there, c.loop-machines.invariant.room, c.loop-machines.mutators.ok.0)

pub loop-machines-preserved : goal.loop-machines-preserved
loop-machines-preserved c =
    let a : After-of-opened = (goal.at.loop-machines-preserved c).After-of-opened in
    let n : ℕ = so_far a in
    let i = c.loop-machines.invariant in
    let old : List MutatorView = c.loop-machines.mutators.items in
    let one : MutatorView = c.of.result in
    let its : one ≡ fresh (heap a) (n + 1) = c.of.ensures ∙ c.seat_next-actor.ensures.actor
    ∙ (λ j. record { table = (ap (λ (g : CollectorView). g.table) i.collector ∙ c.requires.own.0) j; number = made a j + 1; opened = (c.of-opened.ensures ∙ own_machine a) j; log = [] }) in
    let items : c.push_reserved.new.self.items ≡ old ++ one ∷ [] = c.push_reserved.ensures.items in
    let long : length c.push_reserved.new.self.items ≡ n + 1 = ap length items ∙ length-append old (one ∷ []) in
    let next_n : suc n ≡ length c.push_reserved.new.self.items = omega (arith, long) in
    record {
      rest = sym (next a).ahead ∙ ap (λ (k : ℕ). drop k c.args.machines.items) next_n;
      each = λ k d lt. ap (λ (l : List MutatorView). get_or l k d) items ∙ dite (ℕ_discrete k n)
          (λ (e : k ≡ n). ap (λ (j : ℕ). get_or (old ++ one ∷ []) j d) e ∙ get_or-append_seam old one [] d ∙ its ∙ ap (λ (j : ℕ). fresh (heap a) (j + 1)) (sym e))
          (λ (ne : k ≢ n). get_or_append_left old (one ∷ []) d k (omega (arith, lt, long, ne)) ∙ i.each k d (omega (arith, lt, long, ne)));
      few = omega (arith, long, (next a).there);
      collector = c.seat_next-actor.ensures.is ∙ (λ j. record (i.collector j) { collecting = record (i.collector j).collecting { made = (i.collector j).collecting.made + 1 } })
          ∙ (λ j. record c.args.collector.now { collecting = record c.args.collector.now.collecting { made = sym long j } });
      capacity = c.remove-machine.ensures.capacity ∙ i.capacity;
      room = omega (arith, i.room, c.push_reserved.ensures.capacity);
    }

over : (c : After-loop-machines) → (length c.args.machines.items ≤ length c.loop-machines.mutators.items) × (c.loop-machines.machines.items ≡ [])
over c =
    let left = c.loop-machines.machines in
    let none : vec_len left ≡ 0 = eqb-true (vec_len left) 0 (sym c.is_empty.ensures ∙ c.loop-machines-test.false) in
    none_left c.args.machines.items left.items (length c.loop-machines.mutators.items) c.loop-machines.invariant.rest (omega (arith, none, left.ok.0))

all : (c : After-loop-machines) → length c.loop-machines.mutators.items ≡ length c.args.machines.items
all c = omega (arith, (over c).0, c.loop-machines.invariant.few)

pub returns-clause-machines : goal.returns-clause-machines
returns-clause-machines c = ((over c).1, c.loop-machines.invariant.capacity)

pub returns-clause-all : goal.returns-clause-all
returns-clause-all c = all c

pub returns-clause-each : goal.returns-clause-each
returns-clause-each c = c.loop-machines.invariant.each

pub returns-clause-collector : goal.returns-clause-collector
returns-clause-collector c = c.loop-machines.invariant.collector ∙ (λ j. record c.args.collector.now { collecting = record c.args.collector.now.collecting { made = all c j } })

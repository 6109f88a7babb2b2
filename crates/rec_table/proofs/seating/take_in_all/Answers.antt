-- The contract of `take_in_all`: takes in the lists of all mutators, in order of number, and gives their machines back.
use Rattle.std.proofs.Common.{◌≡◌, ◌≢◌, ℕ, suc, ◌+◌, ◌%◌, ◌^◌, All, List, [], ◌∷◌, ◌++◌, false, drop, length, map, take, get_or, sym, ap, ◌∙◌, subst, arith, length-append, length-drop, min, length-take}
use mathlib.Core.Logic.{dite}
use native.Mathlib.Decide.{ℕ_discrete}
use Rattle.std.specs.List.{sum_by}
use Rattle.std.proofs.Math.Seq.{get_or-append_seam}
use Rattle.std.proofs.lemmas.Grind.{common_steps}
use Rattle.std.proofs.lemmas.List.{get_or_append_left, map-append, take_all, length-map}
use Rattle.rec_table.proofs.Common.{Private, is_busy, births_told, MutatorView, mutator_now, CollectorView}
use Rattle.rec_table.proofs.Lists.{Next, sum_more, taken_off}
use Rattle.rec_table.proofs.seating.take_in_all.Goals as goal
use Rattle.rec_table.proofs.seating.take_in_all.Goals.{After-take_in-arg-1}

idle_more : (ps : List Private) (p : Private) → All (λ (q : Private). is_busy q ≡ false) ps → is_busy p ≡ false → All (λ (q : Private). is_busy q ≡ false) (ps ++ p ∷ [])
idle_more ps p all one = λ k d lt.
    let long : length (ps ++ p ∷ []) ≡ length ps + 1 = length-append ps (p ∷ []) in
    dite (ℕ_discrete k (length ps))
    (λ (e : k ≡ length ps). ap (λ (j : ℕ). is_busy (get_or (ps ++ p ∷ []) j d)) e ∙ ap is_busy (get_or-append_seam ps p [] d) ∙ one)
    (λ (ne : k ≢ length ps). ap is_busy (get_or_append_left ps (p ∷ []) d k (omega (arith, lt, long, ne))) ∙ all k d (omega (arith, lt, long, ne)))

pub loop-mutators-preserved : goal.loop-mutators-preserved
loop-mutators-preserved c =
    let ms : List MutatorView = c.args.mutators.items in
    let old = c.loop-mutators.mutators in
    let i = c.loop-mutators.invariant in
    let done : List Private = c.loop-mutators.machines.items in
    let d : ℕ = length done in
    let x : MutatorView = c.remove.result in
    let n : Next ms d x c.remove.new.self.items = taken_off ms old.items c.remove.new.self.items d x i.rest (omega (arith, c.remove.ensures.len, old.ok.0)) c.remove.ensures.value c.remove.ensures.items in
    let own : c.into_actor-actor.result ≡ x = c.into_actor-actor.ensures.actor in
    let t = c.take_in-machine.ensures in
    let machine : Private = c.take_in-machine.result.0 in
    let items : c.push_reserved.new.self.items ≡ done ++ machine ∷ [] = c.push_reserved.ensures.items in
    let long : length c.push_reserved.new.self.items ≡ d + 1 = ap length items ∙ length-append done (machine ∷ []) in
    let next_d : suc d ≡ length c.push_reserved.new.self.items = omega (arith, long) in
    let taken : take (length c.push_reserved.new.self.items) ms ≡ take d ms ++ x ∷ [] = ap (λ (k : ℕ). take k ms) (sym next_d) ∙ n.behind in
    let is_machine : machine ≡ mutator_now x = t.machine ∙ ap mutator_now own in
    let added : sum_by (λ (m : MutatorView). births_told m.opened m.log) (take (length c.push_reserved.new.self.items) ms) ≡ sum_by (λ (m : MutatorView). births_told m.opened m.log) (take d ms) + births_told x.opened x.log =
    ap (sum_by (λ (m : MutatorView). births_told m.opened m.log)) taken ∙ sum_more (λ (m : MutatorView). births_told m.opened m.log) (take d ms) x in
    let its : c.take_in-machine.result.1 ≡ births_told x.opened x.log % 2 ^ 64 = t.births ∙ ap (λ (m : MutatorView). births_told m.opened m.log % 2 ^ 64) own in
    let so_far = i.made in
    record {
      rest = sym n.ahead ∙ ap (λ (k : ℕ). drop k ms) next_d;
      machines = items ∙ (λ j. i.machines j ++ is_machine j ∷ []) ∙ sym (map-append mutator_now (take d ms) (x ∷ [])) ∙ ap (map mutator_now) (sym taken);
      idle = subst (λ (l : List Private). All (λ (q : Private). is_busy q ≡ false) l) (sym items) (idle_more done machine i.idle (ap is_busy (t.machine) ∙ c.into_actor-actor.ensures.idle));
      known = t.is
          ∙ (λ j. record (i.known j) { collecting = record (i.known j).collecting { known = (i.known j).collecting.known ++ (own j).log ∷ [] } })
          ∙ (λ j. record c.args.collector.now { collecting = record c.args.collector.now.collecting { known = (sym (map-append (λ (m : MutatorView). m.log) (take d ms) (x ∷ [])) ∙ ap (map (λ (m : MutatorView). m.log)) (sym taken)) j } });
      made = omega (arith, so_far, its, added);
      room = omega (arith, i.room, c.push_reserved.ensures.capacity);
    }

pub returns : goal.returns
returns c =
    let ms : List MutatorView = c.args.mutators.items in
    let i = c.loop-mutators.invariant in
    let d : ℕ = length c.loop-mutators.machines.items in
    let none : length c.loop-mutators.mutators.items ≡ 0 = grind (arith, common_steps) in
    let whole : take d ms ≡ ms = take_all d ms (omega (arith, none, ap length i.rest, length-drop d ms)) in
    record {
      machines = i.machines ∙ ap (map mutator_now) whole;
      idle = i.idle;
      collector = i.known ∙ (λ j. record c.args.collector.now { collecting = record c.args.collector.now.collecting { known = map (λ (m : MutatorView). m.log) (whole j) } });
      made = i.made ∙ ap (λ (l : List MutatorView). (c.args.made + sum_by (λ (m : MutatorView). births_told m.opened m.log) l) % 2 ^ 64) whole;
    }

pub loop-mutators-init : goal.loop-mutators-init
loop-mutators-init c =
    let ms : List MutatorView = c.args.mutators.items in
    let none : length c.args.machines.now.items ≡ 0 = ap length c.requires.room.0 in
    let fits = c.ranges.made.fits in
    let as_it_was : c.args.made ≡ (c.args.made + 0) % 2 ^ 64 = omega (arith, fits) in
    record {
      rest = ap (λ (n : ℕ). drop n ms) (sym none);
      machines = c.requires.room.0 ∙ ap (λ (n : ℕ). map mutator_now (take n ms)) (sym none);
      idle = λ k d lt. absurd (omega (arith, none, lt));
      known = λ i. record c.args.collector.now { collecting = record c.args.collector.now.collecting { known = (c.requires.none ∙ ap (λ (n : ℕ). map (λ (m : MutatorView). m.log) (take n ms)) (sym none)) i } };
      made = as_it_was ∙ ap (λ (n : ℕ). (c.args.made + sum_by (λ (m : MutatorView). births_told m.opened m.log) (take n ms)) % 2 ^ 64) (sym none);
      room = c.requires.room.1;
    }

next : (c : After-take_in-arg-1) → Next c.args.mutators.items (length c.loop-mutators.machines.items) c.remove.result c.remove.new.self.items
next c =
    let old = c.loop-mutators.mutators in
    taken_off c.args.mutators.items old.items c.remove.new.self.items (length c.loop-mutators.machines.items) c.remove.result c.loop-mutators.invariant.rest (omega (arith, c.remove.ensures.len, old.ok.0)) c.remove.ensures.value c.remove.ensures.items

-- it is the next one of the list
own : (c : After-take_in-arg-1) → c.into_actor-actor.result ≡ get_or c.args.mutators.items (length c.loop-mutators.machines.items) c.remove.result
own c = c.into_actor-actor.ensures.actor ∙ sym ((next c).value c.remove.result)

pub take_in-machine-requires-clause-table : goal.take_in-machine-requires-clause-table
take_in-machine-requires-clause-table c =
    let at = c.requires.mutators.each (length c.loop-mutators.machines.items) c.remove.result (next c).there in
    (ap (λ (g : CollectorView). g.table) c.loop-mutators.invariant.known ∙ c.requires.own.0, ap (λ (m : MutatorView). m.table) (own c) ∙ at.0.0)

pub take_in-machine-requires-clause-number : goal.take_in-machine-requires-clause-number
take_in-machine-requires-clause-number c =
    let d : ℕ = length c.loop-mutators.machines.items in
    let at = c.requires.mutators.each d c.remove.result (next c).there in
    let done : List MutatorView = take d c.args.mutators.items in
    let short : length done ≡ min d (length c.args.mutators.items) = length-take d c.args.mutators.items in
    let many : length c.loop-mutators.collector.collecting.known ≡ length done = ap (λ (g : CollectorView). length g.collecting.known) c.loop-mutators.invariant.known ∙ length-map done (λ (m : MutatorView). m.log) in
    let all : d ≡ length c.loop-mutators.collector.collecting.known = omega (arith, many, short, (next c).there) in
    ap (λ (m : MutatorView). m.number) (own c) ∙ at.1 ∙ ap (λ (n : ℕ). n + 1) all

pub take_in-machine-requires-clause-idle : goal.take_in-machine-requires-clause-idle
take_in-machine-requires-clause-idle c = c.into_actor-actor.ensures.idle

pub push_reserved-requires : goal.push_reserved-requires
push_reserved-requires c =
    let a : After-take_in-arg-1 = (goal.at.push_reserved-requires c).After-take_in-arg-1 in
    omega (arith, (next a).there, c.loop-mutators.invariant.room, c.loop-mutators.machines.ok.0)

-- The contract of `look`: looks at the mailbox of mutator `t`.
use Rattle.std.proofs.Common.{◌≡◌, ◌-◌, ℕ, [], ◌∷◌, Some, sym, ap, ◌∙◌}
use Rattle.atomic_table.specs.Table.{rest}
use Rattle.rec_word.specs.Mailbox.{crossing_word}
use Rattle.rec_word.specs.declared.mailbox.Mailbox.TheVariants.{Retired}
use Rattle.std.specs.Option.{is_some}
use Rattle.rec_table.proofs.Common.{collecting_of, collecting_more, Saw, Took, Collects}
use Rattle.rec_collector.specs.Private.{Private}
use Rattle.rec_table.proofs.Making.{first_is}
use Rattle.rec_table.proofs.Gathering.{given_looking, look_hits, look_misses, hit_sized, hit_swaps, hit_turn, miss_turn}
use Rattle.rec_table.proofs.collector.look.Goals as goal

pub find-found-requires-clause-actor : goal.find-found-requires-clause-actor
find-found-requires-clause-actor g c = (c.requires.actor.1, c.requires.actor.0 ∙ c.requires.actor.2)

pub find-found-requires-clause-phase : goal.find-found-requires-clause-phase
find-found-requires-clause-phase g c = (ap (λ (p : Private). p.phase) c.requires.actor.0 ∙ c.requires.phase.0, ap (λ (p : Private). p.epoch) c.requires.actor.0 ∙ c.requires.phase.1)

pub took-turn-requires : goal.took-turn-requires
took-turn-requires g c = given_looking c.args.machine.now c.args.t c.find-found.result c.requires.phase.0 c.find-found.ensures.looked.2

pub slot_mut-mailbox-requires : goal.slot_mut-mailbox-requires
slot_mut-mailbox-requires g c =
    let h = look_hits c.args.machine.now g.W.Turning.actor c.args.t g.W.Turning.number c.args.epoch c.find-found.result c.args.seat.now.me c.find-found.new.seat.me c.requires.seat c.requires.actor.0 c.requires.actor.1 c.requires.phase.1 (c.if-found-crossing.true ∙ c.crossing.ensures) c.find-found.ensures.looked in
    let out : c.find-found.new.seat.me.1 ≡ (c.from.result - 1, Some h.0) ∷ [] = (λ k. (h.1 k).1) ∙ (λ k. (sym c.from.ensures k - 1, Some h.0) ∷ []) in
    (c.find-found.ensures.seat.0 ∙ c.requires.table, (Some h.0, out ∙ (λ k. (c.from.result - 1, Some h.0) ∷ rest (sym out k))))

pub swap_gathered-requires-clause-swapping : goal.swap_gathered-requires-clause-swapping
swap_gathered-requires-clause-swapping g c =
    hit_swaps c.args.machine.now c.took-turn.new.self c.args.t c.find-found.result c.find-found.ensures.looked.2 c.requires.phase.0
    (c.if-found-crossing.true ∙ c.crossing.ensures ∙ ap (λ (e : ℕ). crossing_word e Retired) (sym c.requires.phase.1)) c.took-turn.ensures.took

pub swap_gathered-requires-clause-home : goal.swap_gathered-requires-clause-home
swap_gathered-requires-clause-home g c =
    let h = look_hits c.args.machine.now g.W.Turning.actor c.args.t g.W.Turning.number c.args.epoch c.find-found.result c.args.seat.now.me c.find-found.new.seat.me c.requires.seat c.requires.actor.0 c.requires.actor.1 c.requires.phase.1 (c.if-found-crossing.true ∙ c.crossing.ensures) c.find-found.ensures.looked in
    let out : c.find-found.new.seat.me.1 ≡ (c.from.result - 1, Some h.0) ∷ [] = (λ k. (h.1 k).1) ∙ (λ k. (sym c.from.ensures k - 1, Some h.0) ∷ []) in
    let m_is : c.slot_mut-mailbox.result.now ≡ Some h.0 = first_is (c.from.result - 1) (c.from.result - 1) c.slot_mut-mailbox.result.now (Some h.0) c.find-found.new.seat.me.1 (rest c.find-found.new.seat.me.1) [] c.slot_mut-mailbox.ensures.value out in
    ap is_some m_is

pub swap_gathered-requires-clause-sized : goal.swap_gathered-requires-clause-sized
swap_gathered-requires-clause-sized g c =
    let h = look_hits c.args.machine.now g.W.Turning.actor c.args.t g.W.Turning.number c.args.epoch c.find-found.result c.args.seat.now.me c.find-found.new.seat.me c.requires.seat c.requires.actor.0 c.requires.actor.1 c.requires.phase.1 (c.if-found-crossing.true ∙ c.crossing.ensures) c.find-found.ensures.looked in
    let out : c.find-found.new.seat.me.1 ≡ (c.from.result - 1, Some h.0) ∷ [] = (λ k. (h.1 k).1) ∙ (λ k. (sym c.from.ensures k - 1, Some h.0) ∷ []) in
    let m_is : c.slot_mut-mailbox.result.now ≡ Some h.0 = first_is (c.from.result - 1) (c.from.result - 1) c.slot_mut-mailbox.result.now (Some h.0) c.find-found.new.seat.me.1 (rest c.find-found.new.seat.me.1) [] c.slot_mut-mailbox.ensures.value out in
    hit_sized c.args.machine.now c.took-turn.new.self h.0 c.slot_mut-mailbox.result.now c.took-turn.ensures.same m_is h.2

pub returns-then-found-crossing-clause-turned : goal.returns-then-found-crossing-clause-turned
returns-then-found-crossing-clause-turned g c =
    let h = look_hits c.args.machine.now g.W.Turning.actor c.args.t g.W.Turning.number c.args.epoch c.find-found.result c.args.seat.now.me c.find-found.new.seat.me c.requires.seat c.requires.actor.0 c.requires.actor.1 c.requires.phase.1 (c.if-found-crossing.true ∙ c.crossing.ensures) c.find-found.ensures.looked in
    let out : c.find-found.new.seat.me.1 ≡ (c.from.result - 1, Some h.0) ∷ [] = (λ k. (h.1 k).1) ∙ (λ k. (sym c.from.ensures k - 1, Some h.0) ∷ []) in
    let m_is : c.slot_mut-mailbox.result.now ≡ Some h.0 = first_is (c.from.result - 1) (c.from.result - 1) c.slot_mut-mailbox.result.now (Some h.0) c.find-found.new.seat.me.1 (rest c.find-found.new.seat.me.1) [] c.slot_mut-mailbox.ensures.value out in
    let r = hit_turn c.args.machine.now c.took-turn.new.self c.swap_gathered.new.collector c.args.t c.find-found.result h.0 c.slot_mut-mailbox.result.now c.swap_gathered.new.mailbox c.find-found.ensures.looked.2 c.requires.phase.0
    (c.if-found-crossing.true ∙ c.crossing.ensures ∙ ap (λ (e : ℕ). crossing_word e Retired) (sym c.requires.phase.1)) c.took-turn.ensures.took m_is c.swap_gathered.ensures.collector c.swap_gathered.ensures.mailbox in (
      Took c.find-found.result h.0,
      (λ k. ((h.1 k).0, ((λ j. (c.from.ensures j - 1, c.swap_gathered.new.mailbox) ∷ rest (out j)) ∙ r.1) k)),
      r.0,
      c.took-turn.ensures.turn,
    )

pub returns-then-found-crossing-clause-same : goal.returns-then-found-crossing-clause-same
returns-then-found-crossing-clause-same g c =
    let h = look_hits c.args.machine.now g.W.Turning.actor c.args.t g.W.Turning.number c.args.epoch c.find-found.result c.args.seat.now.me c.find-found.new.seat.me c.requires.seat c.requires.actor.0 c.requires.actor.1 c.requires.phase.1 (c.if-found-crossing.true ∙ c.crossing.ensures) c.find-found.ensures.looked in
    let out : c.find-found.new.seat.me.1 ≡ (c.from.result - 1, Some h.0) ∷ [] = (λ k. (h.1 k).1) ∙ (λ k. (sym c.from.ensures k - 1, Some h.0) ∷ []) in
    let m_is : c.slot_mut-mailbox.result.now ≡ Some h.0 = first_is (c.from.result - 1) (c.from.result - 1) c.slot_mut-mailbox.result.now (Some h.0) c.find-found.new.seat.me.1 (rest c.find-found.new.seat.me.1) [] c.slot_mut-mailbox.ensures.value out in
    let r = hit_turn c.args.machine.now c.took-turn.new.self c.swap_gathered.new.collector c.args.t c.find-found.result h.0 c.slot_mut-mailbox.result.now c.swap_gathered.new.mailbox c.find-found.ensures.looked.2 c.requires.phase.0
    (c.if-found-crossing.true ∙ c.crossing.ensures ∙ ap (λ (e : ℕ). crossing_word e Retired) (sym c.requires.phase.1)) c.took-turn.ensures.took m_is c.swap_gathered.ensures.collector c.swap_gathered.ensures.mailbox in
    r.2

pub returns-then-found-crossing-clause-between : goal.returns-then-found-crossing-clause-between
returns-then-found-crossing-clause-between g c =
    let h = look_hits c.args.machine.now g.W.Turning.actor c.args.t g.W.Turning.number c.args.epoch c.find-found.result c.args.seat.now.me c.find-found.new.seat.me c.requires.seat c.requires.actor.0 c.requires.actor.1 c.requires.phase.1 (c.if-found-crossing.true ∙ c.crossing.ensures) c.find-found.ensures.looked in
    let out : c.find-found.new.seat.me.1 ≡ (c.from.result - 1, Some h.0) ∷ [] = (λ k. (h.1 k).1) ∙ (λ k. (sym c.from.ensures k - 1, Some h.0) ∷ []) in
    let m_is : c.slot_mut-mailbox.result.now ≡ Some h.0 = first_is (c.from.result - 1) (c.from.result - 1) c.slot_mut-mailbox.result.now (Some h.0) c.find-found.new.seat.me.1 (rest c.find-found.new.seat.me.1) [] c.slot_mut-mailbox.ensures.value out in
    let r = hit_turn c.args.machine.now c.took-turn.new.self c.swap_gathered.new.collector c.args.t c.find-found.result h.0 c.slot_mut-mailbox.result.now c.swap_gathered.new.mailbox c.find-found.ensures.looked.2 c.requires.phase.0
    (c.if-found-crossing.true ∙ c.crossing.ensures ∙ ap (λ (e : ℕ). crossing_word e Retired) (sym c.requires.phase.1)) c.took-turn.ensures.took m_is c.swap_gathered.ensures.collector c.swap_gathered.ensures.mailbox in
    r.3

pub returns-else-found-crossing-clause-turned : goal.returns-else-found-crossing-clause-turned
returns-else-found-crossing-clause-turned g c =
    let m = miss_turn c.args.machine.now c.took-turn.new.self c.args.t c.find-found.result c.find-found.ensures.looked.2 c.requires.phase.0 (λ e. c.if-found-crossing.false (e ∙ ap (λ (x : ℕ). crossing_word x Retired) c.requires.phase.1 ∙ sym c.crossing.ensures)) c.took-turn.ensures.took in (
      Saw c.find-found.result,
      look_misses c.args.machine.now g.W.Turning.actor c.args.t g.W.Turning.number c.args.epoch c.find-found.result c.args.seat.now.me c.find-found.new.seat.me c.requires.seat c.requires.actor.0 c.requires.phase.1 (λ e. c.if-found-crossing.false (e ∙ sym c.crossing.ensures)) c.find-found.ensures.looked ∙ (λ k. (Collects (collecting_more (collecting_of c.args.seat.now.me.0) (Saw c.find-found.result)), sym m.0 k)),
      c.took-turn.ensures.took,
      c.took-turn.ensures.turn,
    )

pub returns-else-found-crossing-clause-between : goal.returns-else-found-crossing-clause-between
returns-else-found-crossing-clause-between g c =
    (miss_turn c.args.machine.now c.took-turn.new.self c.args.t c.find-found.result c.find-found.ensures.looked.2 c.requires.phase.0 (λ e. c.if-found-crossing.false (e ∙ ap (λ (x : ℕ). crossing_word x Retired) c.requires.phase.1 ∙ sym c.crossing.ensures)) c.took-turn.ensures.took).1

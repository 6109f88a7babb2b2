-- The contract of `Collector::turn_telling_as`: one turn that tells what it freed.
use Rattle.std.proofs.Common.{ℕ, [], ◌∷◌, ◌++◌, Option, Some, None, sym, ap, ◌∙◌, subst, append-nil, arith, ◌≡◌}
use Rattle.rec_notice.specs.Telling.{told}
use Rattle.rec_table.specs.Telling.{Frees}
use Rattle.rec_table.proofs.Freeing.{sent_before, sent_then, tells_turn}
use Rattle.rec_table.proofs.Common.{IsWorld, CollectorView, Started}
use Rattle.rec_table.specs.Views.{IsCollectorOf}
use Rattle.rec_io.proofs.Faults.{rose_since}
use Rattle.rec_table.proofs.collector.Collector.turn_telling_as.Goals as goal

-- a turn changes nothing of a collector but its list, so it stays the heap's
stays : (h : Started) (before after : CollectorView) → IsCollectorOf h before → after ≡ record before { collecting = record before.collecting { log = after.collecting.log } } → IsCollectorOf h after
stays h before after own same = (
  (ap (λ (g : CollectorView). g.table) same ∙ own.0.0, ap (λ (g : CollectorView). g.opened) same ∙ own.0.1),
  ap (λ (g : CollectorView). g.collecting.made) same ∙ own.1,
  ap (λ (g : CollectorView). g.collecting.known) same ∙ own.2,
)

pub returns-in-Some-freed-clause-told : goal.returns-in-Some-freed-clause-told
returns-in-Some-freed-clause-told g c =
    tells_turn c.args.self.now c.turn_as-turn.new.self c.turn_as-turn.result.0 (Some c.in-Some-freed.label) _ _ c.turn_as-turn.ensures.turn
    (subst (λ (o : Option ℕ). Frees c.args.self.now c.turn_as-turn.new.self o) c.in-Some-freed.is c.turn_as-turn.ensures.freed)
    (c.tell.ensures.told ∙ ap (λ l. l ++ c.in-Some-freed.label ∷ []) c.in_default.ensures.told)

pub returns-in_default-freed-clause-told : goal.returns-in_default-freed-clause-told
returns-in_default-freed-clause-told g c =
    tells_turn c.args.self.now c.turn_as-turn.new.self c.turn_as-turn.result.0 None _ _ c.turn_as-turn.ensures.turn
    (subst (λ (o : Option ℕ). Frees c.args.self.now c.turn_as-turn.new.self o) c.in_default-freed.is c.turn_as-turn.ensures.freed)
    (c.in_default.ensures.told ∙ sym (append-nil (told g.T.Tube.sent c.args.teller.now)))

pub returns-in_default-freed-clause-first : goal.returns-in_default-freed-clause-first
returns-in_default-freed-clause-first g c = sent_before g.T.Tube.sent c.args.teller.now c.offer_kept.new.teller c.in_default.ensures.none c.in_default.ensures.told

pub returns-in-Some-freed-clause-first : goal.returns-in-Some-freed-clause-first
returns-in-Some-freed-clause-first g c = sent_then g.T.Tube.sent c.args.teller.now c.offer_kept.new.teller c.tell.new.self c.in-Some-freed.label c.in_default.ensures.told c.tell.ensures.told

pub returns-in-Some-clause-held : goal.returns-in-Some-clause-held
returns-in-Some-clause-held g c = c.in-Some.ensures.held

pub returns-in-Some-clause-kept : goal.returns-in-Some-clause-kept
returns-in-Some-clause-kept g c = c.in-Some.ensures.kept

pub returns-in-Some-clause-unsent : goal.returns-in-Some-clause-unsent
returns-in-Some-clause-unsent g c = c.in-Some.ensures.unsent

pub returns-in-Some-clause-unturned : goal.returns-in-Some-clause-unturned
returns-in-Some-clause-unturned g c = λ i. c.args.self.now

pub returns-in-Some-clause-refused : goal.returns-in-Some-clause-refused
returns-in-Some-clause-refused g c = c.offer_kept.ensures.refused

pub returns-in-Some-clause-never_falls : goal.returns-in-Some-clause-never_falls
returns-in-Some-clause-never_falls g c = c.offer_kept.ensures.never_falls

pub returns-in-Some-clause-own : goal.returns-in-Some-clause-own
returns-in-Some-clause-own g c = c.requires.own

pub returns-in-Some-clause-same : goal.returns-in-Some-clause-same
returns-in-Some-clause-same g c = c.offer_kept.ensures.same

pub turn_as-turn-requires-clause-own : goal.turn_as-turn-requires-clause-own
turn_as-turn-requires-clause-own g c = (c.requires.own.0.0 ∙ sym c.board.ensures.table, c.requires.own.0.1 ∙ ap (λ w. w.collector) (sym c.board.ensures.world))

pub turn_as-turn-requires-clause-world : goal.turn_as-turn-requires-clause-world
turn_as-turn-requires-clause-world g c = subst IsWorld (sym c.board.ensures.world) c.board.ensures.kept

pub tell-requires : goal.tell-requires
tell-requires g c = c.in_default.ensures.none

pub returns-in-Some-freed-clause-turn : goal.returns-in-Some-freed-clause-turn
returns-in-Some-freed-clause-turn g c = c.turn_as-turn.ensures.turn

pub returns-in-Some-freed-clause-refused : goal.returns-in-Some-freed-clause-refused
returns-in-Some-freed-clause-refused g c = λ kept. rose_since _ _ _ c.offer_kept.ensures.never_falls (c.tell.ensures.rose kept)

pub returns-in-Some-freed-clause-never_falls : goal.returns-in-Some-freed-clause-never_falls
returns-in-Some-freed-clause-never_falls g c = omega (arith, c.offer_kept.ensures.never_falls, c.tell.ensures.never_falls)

pub returns-in-Some-freed-clause-own : goal.returns-in-Some-freed-clause-own
returns-in-Some-freed-clause-own g c = stays c.args.heap.now c.args.self.now c.turn_as-turn.new.self c.requires.own c.turn_as-turn.ensures.turn.same

pub returns-in-Some-freed-clause-same : goal.returns-in-Some-freed-clause-same
returns-in-Some-freed-clause-same g c = g.met.T.Tube.same_later _ _ _ c.offer_kept.ensures.same c.tell.ensures.same

pub returns-in_default-freed-clause-turn : goal.returns-in_default-freed-clause-turn
returns-in_default-freed-clause-turn g c = c.turn_as-turn.ensures.turn

pub returns-in_default-freed-clause-refused : goal.returns-in_default-freed-clause-refused
returns-in_default-freed-clause-refused g c = c.offer_kept.ensures.refused

pub returns-in_default-freed-clause-never_falls : goal.returns-in_default-freed-clause-never_falls
returns-in_default-freed-clause-never_falls g c = c.offer_kept.ensures.never_falls

pub returns-in_default-freed-clause-own : goal.returns-in_default-freed-clause-own
returns-in_default-freed-clause-own g c = stays c.args.heap.now c.args.self.now c.turn_as-turn.new.self c.requires.own c.turn_as-turn.ensures.turn.same

pub returns-in_default-freed-clause-same : goal.returns-in_default-freed-clause-same
returns-in_default-freed-clause-same g c = c.offer_kept.ensures.same

-- The contract of `Machine::end`: the collection is complete: the older buffers become spares, and the newer ones the older.
use Rattle.std.proofs.Common.{◌≡◌, map, ap, sym, ◌∙◌}
use Rattle.std.specs.Vec.{with_items}
use Rattle.std.proofs.lemmas.List.{length-map, with_items_is}
use Rattle.rec_collector.proofs.Common.{Private, cleared}
use Rattle.rec_collector.specs.Inside.{private}
use Rattle.rec_collector.proofs.Sweeping.{ended_keeps}
use Rattle.rec_collector.proofs.machine.Machine.end.Goals as goal

pub invariant_of-self : goal.invariant_of-self
invariant_of-self c =
    let items : (with_items c.self.inside.older (map cleared c.self.inside.older.items)).items ≡ map cleared c.self.inside.older.items = with_items_is c.self.inside.older (map cleared c.self.inside.older.items) (length-map c.self.inside.older.items cleared ∙ sym c.self.inside.older.ok.0) in
    rw (c.swap.ensures.x_after, c.swap.ensures.y_after, c.clear_all.ensures, c.deref_mut.ensures.value, items) (ended_keeps (private c.self.inside) c.args.swept c.self.invariant (ap (λ (p : Private). p.phase) c.self.view_is ∙ c.requires.phase))

pub returns-clause-kept : goal.returns-clause-kept
returns-clause-kept c =
    let items : (with_items c.self.inside.older (map cleared c.self.inside.older.items)).items ≡ map cleared c.self.inside.older.items = with_items_is c.self.inside.older (map cleared c.self.inside.older.items) (length-map c.self.inside.older.items cleared ∙ sym c.self.inside.older.ok.0) in
    rw (c.swap.ensures.x_after, c.swap.ensures.y_after, c.clear_all.ensures, c.deref_mut.ensures.value, items) (ended_keeps (private c.self.inside) c.args.swept c.self.invariant (ap (λ (p : Private). p.phase) c.self.view_is ∙ c.requires.phase))

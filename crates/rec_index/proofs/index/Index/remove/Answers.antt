-- The contract of `Index::remove`: takes a member out.
use Rattle.std.proofs.Common.{ℕ, ◌/◌, List, rules, sym, subst, ◌∙◌}
use Rattle.std.proofs.lemmas.Bool.{false≢true}
use Rattle.rec_index.specs.Sets.{Holds}
use Rattle.rec_index.proofs.Levels.{tells_emptied, tells_still, told_of}
use Rattle.rec_index.proofs.index.Index.remove.Goals as goal
use Rattle.rec_index.proofs.index.Index.remove.Goals.{After-remove}

-- the slot was a member
held : (c : After-remove) → Holds c.self.inside.slots c.from-slot.result
held c =
    subst (λ (set : List ℕ). Holds set c.from-slot.result) (sym c.self.view_is)
    (subst (Holds c.args.self.now) (sym c.from-slot.ensures) c.requires)

pub invariant_of-self : goal.invariant_of-self
invariant_of-self c = record {
  words = tells_emptied c.self.inside.words c.remove-then-remove.new.self c.self.inside.slots c.remove.new.self c.from-slot.result c.self.invariant.words c.remove.ensures.others (c.remove.ensures.empty.0 c.if-remove.true) c.remove-then-remove.ensures.holds;
  groups = tells_emptied c.self.inside.groups c.remove-then-remove-2.new.self c.self.inside.words c.remove-then-remove.new.self _ c.self.invariant.groups c.remove-then-remove.ensures.others (c.remove-then-remove.ensures.empty.0 c.if-remove-2.true) c.remove-then-remove-2.ensures.holds;
  slots_length = search rules;
  words_length = search rules;
  groups_length = search rules;
}

pub invariant_of-self-else-remove-2 : goal.invariant_of-self-else-remove-2
invariant_of-self-else-remove-2 c = record {
  words = tells_emptied c.self.inside.words c.remove-then-remove.new.self c.self.inside.slots c.remove.new.self c.from-slot.result c.self.invariant.words c.remove.ensures.others (c.remove.ensures.empty.0 c.if-remove.true) c.remove-then-remove.ensures.holds;
  groups =
      tells_still c.self.inside.groups c.self.inside.words c.remove-then-remove.new.self (c.from-slot.result / 64) c.self.invariant.groups
      (told_of c.self.inside.words c.self.inside.slots c.from-slot.result c.self.invariant.words (held (goal.at.invariant_of-self-else-remove-2 c).After-remove)) c.remove-then-remove.ensures.others
      (λ empty. false≢true (sym c.if-remove-2.false ∙ c.remove-then-remove.ensures.empty.1 empty));
  slots_length = search rules;
  words_length = search rules;
  groups_length = search rules;
}

pub invariant_of-self-else-remove : goal.invariant_of-self-else-remove
invariant_of-self-else-remove c = record {
  words =
      tells_still c.self.inside.words c.self.inside.slots c.remove.new.self c.from-slot.result c.self.invariant.words
      (held (goal.at.invariant_of-self-else-remove c).After-remove) c.remove.ensures.others (λ empty. false≢true (sym c.if-remove.false ∙ c.remove.ensures.empty.1 empty));
  groups = c.self.invariant.groups;
  slots_length = search rules;
  words_length = search rules;
  groups_length = search rules;
}

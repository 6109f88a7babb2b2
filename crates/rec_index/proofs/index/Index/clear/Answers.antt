-- No level of an emptied index has a member, and each is as long as it was.
use Rattle.std.proofs.Common.{◌≡◌, ℕ, List, length, replicate, ap, ◌∙◌}
use Rattle.rec_index.proofs.Levels.{empty_holds, empty_whole}
use Rattle.rec_index.proofs.index.Index.clear.Goals as goal

-- a cleared level of a known length
cleared : (old new : List ℕ) (n : ℕ) → new ≡ replicate (length old) 0 → length old ≡ n → new ≡ replicate n 0
cleared old new n clears many = clears ∙ ap (λ k. replicate k 0) many

pub invariant_of-self : goal.invariant_of-self
invariant_of-self c =
    empty_whole c.clear.new.self c.clear-2.new.self c.clear-3.new.self
    (cleared c.self.inside.slots c.clear.new.self 1024 c.clear.ensures c.self.invariant.slots_length)
    (cleared c.self.inside.words c.clear-2.new.self 16 c.clear-2.ensures c.self.invariant.words_length)
    (cleared c.self.inside.groups c.clear-3.new.self 1 c.clear-3.ensures c.self.invariant.groups_length)

pub returns : goal.returns
returns c = λ s. empty_holds c.clear.new.self 1024 s (cleared c.self.inside.slots c.clear.new.self 1024 c.clear.ensures c.self.invariant.slots_length)

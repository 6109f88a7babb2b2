-- The contract of `texts_spell_one_script`: the lines of a text spell one script at most.
use Rattle.std.proofs.Common.{sym, ◌∙◌}
use Rattle.rec_script.proofs.Regrouping.{same_script}
use Rattle.rec_script.proofs.laws.texts_spell_one_script.Goals as goal

pub returns : goal.returns
returns c = λ text a b x y. same_script a b x.limits y.limits (sym x.counted_are ∙ y.counted_are)

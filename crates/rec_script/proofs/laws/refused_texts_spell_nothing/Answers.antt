-- The contract of `refused_texts_spell_nothing`: a text that is refused, with whichever line and kind, is no script's.
use Rattle.rec_script.proofs.Refusing.{refused_no_text}
use Rattle.rec_script.proofs.laws.refused_texts_spell_nothing.Goals as goal

pub returns : goal.returns
returns c = refused_no_text

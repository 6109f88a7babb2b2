-- The contract of `Draft::close`: the script, where the lines so far spell one; else the need that stands open.
use Rattle.rec_script.proofs.Faults.{need_nothing, need_header, need_sized}
use Rattle.rec_script.proofs.draft.Draft.close.Goals as goal

pub returns-in-Nothing-clause-open : goal.returns-in-Nothing-clause-open
returns-in-Nothing-clause-open c = need_nothing c.args.self c.in-Nothing.is

pub returns-in-Header-clause-open : goal.returns-in-Header-clause-open
returns-in-Header-clause-open c = need_header c.args.self _ c.in-Header.is c.requires

pub returns-in-Sized-clause-open : goal.returns-in-Sized-clause-open
returns-in-Sized-clause-open c = need_sized c.args.self _ _ c.in-Sized.is c.requires

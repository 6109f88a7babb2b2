-- What the heap behind keeps tells what leads to slots of the heap itself.
use Rattle.rec_core.proofs.CutOff.{freed_is_clear, given_up_is_cut_off, passed_are_unreached, shown_is_cut_off}
use Rattle.rec_core.proofs.Dated.{end_explained}
use Rattle.rec_core.proofs.laws.nothing_leads_to_what_is_given_up.Goals as goal

pub returns-clause-passed : goal.returns-clause-passed
returns-clause-passed c = λ w number slot config run. let (v, e) = end_explained w config run in passed_are_unreached v w number slot e

pub returns-clause-given_up : goal.returns-clause-given_up
returns-clause-given_up c = λ w slot config run. let (v, e) = end_explained w config run in given_up_is_cut_off v w slot e

pub returns-clause-shown : goal.returns-clause-shown
returns-clause-shown c = λ w members slot config run. let (v, e) = end_explained w config run in shown_is_cut_off v w members slot e

pub returns-clause-freed : goal.returns-clause-freed
returns-clause-freed c = λ w slot config run. let (v, e) = end_explained w config run in freed_is_clear v w slot e

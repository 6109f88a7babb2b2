-- The contract of `open_world`: the heap of a script.
use Rattle.std.proofs.Common.{◌∙◌, ap, subst, sym}
use Rattle.rec_core.specs.Core.{Core, opened}
use Rattle.rec_play.specs.Start.{MayBegin}
use Rattle.rec_play.proofs.Opened.{opened_begins}
use Rattle.rec_world.specs.OpenError.{IsRefused}
use Rattle.rec_run.proofs.Opening.{none_wrong}
use Rattle.rec_run.proofs.answer.open_world.Goals as goal

pub unreachable-requires : goal.unreachable-requires
unreachable-requires c = none_wrong c.config_for.result c.in-Err-Config.field-0-0 c.config_for.ensures.valid (subst (IsRefused c.config_for.result) c.in-Err-Config.field-0-is c.in-Err-Config.ensures.refused)

pub returns-in-Ok-clause-first : goal.returns-in-Ok-clause-first
returns-in-Ok-clause-first c = ap (λ (w : Core). w.epoch) (c.in-Ok.ensures.opened ∙ ap opened c.config_for.ensures.config)

pub returns-in-Ok-clause-begins : goal.returns-in-Ok-clause-begins
returns-in-Ok-clause-begins c = subst (MayBegin c.args.script.now) (sym (c.in-Ok.ensures.opened ∙ ap opened c.config_for.ensures.config)) (opened_begins c.args.script.now)

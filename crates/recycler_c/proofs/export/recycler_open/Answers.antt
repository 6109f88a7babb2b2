-- The contract of `recycler_open`: opens a heap at rest, in closed handles.
use Rattle.std.proofs.Common.{refl, subst}
use Rattle.rec_core.specs.declared.config.Config.{Config}
use Rattle.recycler_c.specs.Calls.{Opens, held}
use Rattle.recycler_c.proofs.export.recycler_open.Goals as goal

pub returns-clause-opens : goal.returns-clause-opens
returns-clause-opens c =
    (c.open.result, c.number.ensures, subst (λ (config : Config). Opens config (held c.args.r.now) c.args.r.now.mutators c.open.result c.open.new.collector.owned.held c.open.new.mutators) c.config.ensures c.open.ensures.opens)

pub returns-clause-listener : goal.returns-clause-listener
returns-clause-listener c = refl

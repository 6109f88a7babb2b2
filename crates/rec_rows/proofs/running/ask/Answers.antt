-- A mutator that is asked stays a mutator of its heap.
use Rattle.std.proofs.Common.{◌-◌, ◌∙◌}
use Rattle.rec_rows.proofs.Mutators.{grown_at, own_at, there}
use Rattle.rec_rows.proofs.running.ask.Goals as goal

pub index_mut-mutator-requires : goal.index_mut-mutator-requires
index_mut-mutator-requires c = there _ _ _ c.if-t-lt1.false c.if-len-t.false c.len.ensures

pub command-requires-clause-own : goal.command-requires-clause-own
command-requires-clause-own c = own_at _ c.args.mutators.now.items (c.from-t.result - 1) _ _ c.requires (there _ _ _ c.if-t-lt1.false c.if-len-t.false (c.len.ensures ∙ c.args.mutators.now.ok.0)) c.index_mut-mutator.ensures.value

pub command-requires-clause-valid : goal.command-requires-clause-valid
command-requires-clause-valid c = c.valid.ensures.0 c.if-not-valid.false

pub returns : goal.returns
returns c = grown_at _ c.args.mutators.now.items (c.from-t.result - 1) _ _ _ c.requires (there _ _ _ c.if-t-lt1.false c.if-len-t.false (c.len.ensures ∙ c.args.mutators.now.ok.0)) c.index_mut-mutator.ensures.value c.command.ensures.is

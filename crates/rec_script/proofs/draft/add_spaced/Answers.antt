-- The contract of `add_spaced`: adds the command at the front of the bytes, where it is spaced and there is room for it; gives what is behind its line.
use Rattle.std.proofs.Common.{arith}
use Rattle.rec_script.specs.Script.{spelled}
use Rattle.rec_script.proofs.Regrouping.{AreSmall}
use Rattle.rec_script.proofs.Spacing.{taken}
use Rattle.rec_script.proofs.draft.add_spaced.Goals as goal

pub returns-clause-taken : goal.returns-clause-taken
returns-clause-taken c =
    let small : AreSmall c.registers.result c.fields.result = record {
      registers_fit = omega (arith, c.registers.ensures.value, c.registers.ensures.valid.heap.most_registers);
      fields_fit = omega (arith, c.fields.ensures.value, c.fields.ensures.valid.heap.most_fields);
    } in
    taken c.registers.result c.fields.result c.in-Some.cmd c.args.bytes.now c.in-Some.rest.now (spelled c.args.script.now) (spelled c.add.new.self) small c.in-Some.ensures.in_range c.in-Some.ensures.found c.in_ok-add.ensures.more

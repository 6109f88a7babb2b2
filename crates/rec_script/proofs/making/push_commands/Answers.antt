-- The contract of `push_commands`: adds the lines of so many commands.
use Rattle.std.proofs.Common.{sym, refl}
use Rattle.std.proofs.lemmas.List.{append-nil}
use Rattle.rec_script.specs.Made.{after_commands}
use Rattle.rec_script.proofs.Draws.{generator_more, text_more}
use Rattle.rec_script.proofs.making.push_commands.Goals as goal

pub loop-init : goal.loop-init
unfolding after_commands
loop-init c = record { text = sym (append-nil _); next = refl }

pub loop-preserved : goal.loop-preserved
loop-preserved c = record {
  text = text_more c.loop.counter c.args.generator.now _ _ _ _ _ c.loop.invariant.next c.loop.invariant.text c.draw_command.ensures.0 c.in_ok-push_command.ensures;
  next = generator_more c.loop.counter c.args.generator.now _ _ c.loop.invariant.next c.draw_command.ensures.1;
}

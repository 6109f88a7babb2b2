-- The log and the buffer change places where the mailbox is held.
use Rattle.std.proofs.Common.{Some, refl, sym, ap, ◌∙◌}
use Rattle.std.proofs.lemmas.Bool.{false≢true}
use Rattle.rec_world.proofs.Mailboxes.{left_log, machine_stays, mailbox_stays}
use Rattle.rec_world.proofs.mailbox.swap_own.Goals as goal

pub returns-in-Some-clause-mailbox : goal.returns-in-Some-clause-mailbox
returns-in-Some-clause-mailbox c = ap (λ b. Some b) (c.swap_box.ensures.given ∙ sym (left_log c.args.machine.now _ (c.if-is_swapping.ensures.0 refl)))

pub returns-else-is_swapping-clause-machine : goal.returns-else-is_swapping-clause-machine
returns-else-is_swapping-clause-machine c = machine_stays c.args.machine.now _ (λ is. false≢true (c.if-is_swapping.ensures.1 is))

pub returns-else-is_swapping-clause-mailbox : goal.returns-else-is_swapping-clause-mailbox
returns-else-is_swapping-clause-mailbox c = mailbox_stays c.args.machine.now c.args.mailbox.now c.requires.home (λ is. false≢true (c.if-is_swapping.ensures.1 is))

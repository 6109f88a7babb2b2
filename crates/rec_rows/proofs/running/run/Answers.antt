-- A world is set running where nobody works in it and each mailbox is at home.
use Rattle.rec_rows.proofs.running.run.Goals as goal

pub run_at_rest-requires-clause-idle : goal.run_at_rest-requires-clause-idle
run_at_rest-requires-clause-idle c = c.at_rest.ensures.0 c.if-at_rest.true

pub run_at_rest-requires-clause-home : goal.run_at_rest-requires-clause-home
run_at_rest-requires-clause-home c = c.boxes_home.ensures.0 c.if-boxes_home.true

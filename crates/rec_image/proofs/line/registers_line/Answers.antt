-- The line is its word, and then its registers with the LF.
use Rattle.std.proofs.Common.{◌++◌}
use Rattle.std.specs.List.{flat_map}
use Rattle.rec_report.specs.Text.{line_feed}
use Rattle.rec_image.specs.Image.{word}
use Rattle.rec_image.proofs.Lines.{registers_found, registers_none}
use Rattle.rec_image.proofs.line.registers_line.Goals as goal

pub returns-in_default-clause-none : goal.returns-in_default-clause-none
returns-in_default-clause-none c = λ own t are. c.in_default.ensures ((flat_map word own ++ line_feed) ++ t)

pub returns-clause-found : goal.returns-clause-found
returns-clause-found c = registers_found c.words.result (λ b. b.now) c.args.heap.slots c.args.heap.registers c.args.bytes.now c.in-Some.rest.now _ _ _ _ c.in-Some.ensures c.words.ensures.found

pub returns-clause-none : goal.returns-clause-none
returns-clause-none c = registers_none c.words.result c.args.heap.slots c.args.heap.registers c.args.bytes.now c.in-Some.rest.now c.in-Some.ensures c.words.ensures.none

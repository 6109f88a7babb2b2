-- Nothing is read, so whatever source there is stays as it was.
use Rattle.std.proofs.Common.{rules, ◌≡◌, ◌++◌, ℕ, List, subst}
use Rattle.rec_io.specs.Sink.{Appends}
use Rattle.rec_script.specs.Made.{made_text}
use Rattle.rec_run.proofs.Makings.{wrote_made, wrote_made_front}
use Rattle.rec_run.proofs.alone.write_made.Goals as goal

pub returns-in-Ok-write_text-clause-ends : goal.returns-in-Ok-write_text-clause-ends
returns-in-Ok-write_text-clause-ends g c = λ rest faults.
    let is : c.deref.result.now ≡ made_text c.args.make.seed c.args.make.mutators c.args.make.commands = search rules in
    wrote_made c.args.make rest (g.K.Sink.written c.args.sink.now) (g.K.Sink.written c.write_text.new.sink)
    (subst (λ text. Appends (g.K.Sink.written c.args.sink.now) (g.K.Sink.written c.write_text.new.sink) text) is c.in-Ok-write_text.ensures.written)

pub returns-clause-ends : goal.returns-clause-ends
returns-clause-ends g c = λ rest faults.
    let is : c.deref.result.now ≡ made_text c.args.make.seed c.args.make.mutators c.args.make.commands = search rules in
    let P : List ℕ → Type 0 = λ text. (front back : List ℕ) × (text ≡ front ++ back) × Appends (g.K.Sink.written c.args.sink.now) (g.K.Sink.written c.write_text.new.sink) front in
    (c.in-Err.ensures.fault, wrote_made_front c.args.make rest (g.K.Sink.written c.args.sink.now) (g.K.Sink.written c.write_text.new.sink) (subst P is c.in-Err.ensures.front))

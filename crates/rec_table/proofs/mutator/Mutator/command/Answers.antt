-- The contract of `Mutator::command`: carries out a command, and tells the answer.
use Rattle.std.proofs.Common.{◌≡◌, true, sym, subst}
use Rattle.rec_table.proofs.Common.{IsMutatorOf, MutatorView, mutator_now}
use Rattle.rec_table.specs.Rule.{MayAsk}
use Rattle.rec_table.specs.Straight.{Carried, CarriesIf}
use Rattle.rec_table.proofs.Straight.{carried_told}
use Rattle.rec_table.proofs.mutator.Mutator.command.Goals as goal
use Rattle.rec_table.proofs.mutator.Mutator.command.Goals.{After-straight, After-told, After-by_steps}

-- it went its usual way
went : (c : After-told) → Carried c.args.self.now c.straight.new.self c.args.cmd c.told.result
went c =
    let carried : CarriesIf c.args.self.now c.straight.new.self c.args.cmd true = subst (CarriesIf c.args.self.now c.straight.new.self c.args.cmd) c.if-straight.true c.straight.ensures in
    carried_told c.args.self.now c.straight.new.self c.args.cmd carried.0 c.told.result carried.1 c.told.ensures

-- or nothing happened
stood : (c : After-by_steps) → c.straight.new.self ≡ c.args.self.now
stood c = subst (CarriesIf c.args.self.now c.straight.new.self c.args.cmd) c.if-straight.false c.straight.ensures

made : (c : After-by_steps) → Carried c.args.self.now c.by_steps.new.self c.args.cmd c.by_steps.result
made c =
    let e = c.by_steps.ensures in
    let was : Carried c.straight.new.self c.by_steps.new.self c.args.cmd c.by_steps.result = record { grows = e.grows; is = e.is; answer = e.answer; causes = e.causes; leaves = e.leaves; line = e.line; idle = e.idle; same = e.same } in
    subst (λ (m : MutatorView). Carried m c.by_steps.new.self c.args.cmd c.by_steps.result) (stood c) was

pub told-requires : goal.told-requires
told-requires c =
    let carried : CarriesIf c.args.self.now c.straight.new.self c.args.cmd true = subst (CarriesIf c.args.self.now c.straight.new.self c.args.cmd) c.if-straight.true c.straight.ensures in
    (carried.0, carried.1.answer)

pub by_steps-requires-clause-own : goal.by_steps-requires-clause-own
by_steps-requires-clause-own c = subst (IsMutatorOf c.args.heap.now) (sym (subst (CarriesIf c.args.self.now c.straight.new.self c.args.cmd) c.if-straight.false c.straight.ensures)) c.requires.own

pub by_steps-requires-clause-valid : goal.by_steps-requires-clause-valid
by_steps-requires-clause-valid c = subst (λ (m : MutatorView). MayAsk (mutator_now m) c.args.cmd) (sym (subst (CarriesIf c.args.self.now c.straight.new.self c.args.cmd) c.if-straight.false c.straight.ensures)) c.requires.valid

pub returns-then-straight-clause-grows : goal.returns-then-straight-clause-grows
returns-then-straight-clause-grows c = (went (goal.at.returns-then-straight-clause-grows c).After-told).grows

pub returns-clause-grows : goal.returns-clause-grows
returns-clause-grows c = (made (goal.at.returns-clause-grows c).After-by_steps).grows

pub returns-then-straight-clause-is : goal.returns-then-straight-clause-is
returns-then-straight-clause-is c = (went (goal.at.returns-then-straight-clause-is c).After-told).is

pub returns-clause-is : goal.returns-clause-is
returns-clause-is c = (made (goal.at.returns-clause-is c).After-by_steps).is

pub returns-then-straight-clause-answer : goal.returns-then-straight-clause-answer
returns-then-straight-clause-answer c = (went (goal.at.returns-then-straight-clause-answer c).After-told).answer

pub returns-clause-answer : goal.returns-clause-answer
returns-clause-answer c = (made (goal.at.returns-clause-answer c).After-by_steps).answer

pub returns-then-straight-clause-causes : goal.returns-then-straight-clause-causes
returns-then-straight-clause-causes c = (went (goal.at.returns-then-straight-clause-causes c).After-told).causes

pub returns-clause-causes : goal.returns-clause-causes
returns-clause-causes c = (made (goal.at.returns-clause-causes c).After-by_steps).causes

pub returns-then-straight-clause-leaves : goal.returns-then-straight-clause-leaves
returns-then-straight-clause-leaves c = (went (goal.at.returns-then-straight-clause-leaves c).After-told).leaves

pub returns-clause-leaves : goal.returns-clause-leaves
returns-clause-leaves c = (made (goal.at.returns-clause-leaves c).After-by_steps).leaves

pub returns-then-straight-clause-line : goal.returns-then-straight-clause-line
returns-then-straight-clause-line c = (went (goal.at.returns-then-straight-clause-line c).After-told).line

pub returns-clause-line : goal.returns-clause-line
returns-clause-line c = (made (goal.at.returns-clause-line c).After-by_steps).line

pub returns-then-straight-clause-idle : goal.returns-then-straight-clause-idle
returns-then-straight-clause-idle c = (went (goal.at.returns-then-straight-clause-idle c).After-told).idle

pub returns-clause-idle : goal.returns-clause-idle
returns-clause-idle c = (made (goal.at.returns-clause-idle c).After-by_steps).idle

pub returns-then-straight-clause-same : goal.returns-then-straight-clause-same
returns-then-straight-clause-same c = (went (goal.at.returns-then-straight-clause-same c).After-told).same

pub returns-clause-same : goal.returns-clause-same
returns-clause-same c = (made (goal.at.returns-clause-same c).After-by_steps).same

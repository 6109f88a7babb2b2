-- Settling begins, or too few epochs are left.
use Rattle.std.proofs.Common.{◌≡◌, ◌<◌, Option, None, Some, IfSome, [], ap, subst, ◌∙◌, arith}
use Rattle.rec_settle.specs.Stages.{offered}
use Rattle.rec_play.specs.InsideWalk.{watched}
use Rattle.rec_play.specs.Left.{moves_left}
use Rattle.rec_play.specs.Playing.{to_come}
use Rattle.rec_play.specs.Watched.{Tells, Watched}
use Rattle.rec_play.specs.declared.moves.Move.{Move}
use Rattle.rec_play.specs.declared.stage.Stage.TheVariants.{Playing, Settling}
use Rattle.rec_play.proofs.Walks.{begins, first_nearer, spent, tells_first}
use Rattle.rec_play.proofs.walk.Walk.begin_settling.Goals as goal
use Rattle.rec_play.proofs.walk.Walk.begin_settling.Goals.{After-start}

playing : (c : After-start) → c.self.inside.stage ≡ Playing
playing c = ap (λ (w : Watched). w.stage) c.self.view_is ∙ c.requires.stage

none : (c : After-start) → to_come (watched c.self.inside).rest ≡ []
none c = ap (λ (w : Watched). to_come w.rest) c.self.view_is ∙ c.requires.none

pub invariant_of-self : goal.invariant_of-self
invariant_of-self c =
    let d : After-start = (goal.at.invariant_of-self c).After-start in
    begins (watched c.self.inside) (playing d) c.self.invariant (none d) c.in-Ok.settling (c.in-Ok.ensures.begins c.self.invariant.idle)

pub invariant_of-self-in-Err : goal.invariant_of-self-in-Err
invariant_of-self-in-Err c =
    let d : After-start = (goal.at.invariant_of-self-in-Err c).After-start in
    spent (watched c.self.inside) (playing d) c.self.invariant (none d) c.in-Err.ensures.spent.0

-- what holds of each move gives what follows from it
of_some : (P Q : Move → Type 0) → ((move : Move) → P move → Q move) → (made : Option Move) → IfSome made P → IfSome made Q
of_some P Q gives None holds = tt
of_some P Q gives (Some move) holds = gives move holds

pub returns-in-Ok-clause-told : goal.returns-in-Ok-clause-told
returns-in-Ok-clause-told c =
    let d : After-start = (goal.at.returns-in-Ok-clause-told c).After-start in
    let w : Watched = watched c.self.inside in
    of_some (Tells (record w { stage = Settling c.in-Ok.settling }) c.settle.new.self) (Tells c.args.self.now c.settle.new.self)
    (λ move tells. subst (λ x. Tells x c.settle.new.self move) c.self.view_is
    (tells_first w (playing d) c.self.invariant (none d) c.settle.new.self c.in-Ok.settling move (ap (λ s. offered s w.world) c.in-Ok.ensures.stage) tells))
    c.settle.result c.settle.ensures.told

pub returns-in-Ok-clause-nearer : goal.returns-in-Ok-clause-nearer
returns-in-Ok-clause-nearer c =
    let d : After-start = (goal.at.returns-in-Ok-clause-nearer c).After-start in
    let w : Watched = watched c.self.inside in
    let first = first_nearer w (playing d) c.self.invariant (none d) in
    of_some (λ _. moves_left c.settle.new.self < moves_left (record w { stage = Settling c.in-Ok.settling })) (λ _. moves_left c.settle.new.self < moves_left c.args.self.now)
    (λ move nearer. omega (arith, nearer, first, ap (λ s. moves_left (record w { stage = Settling s })) c.in-Ok.ensures.stage, ap moves_left c.self.view_is))
    c.settle.result c.settle.ensures.nearer

-- A turn of settling was made.
use Rattle.std.proofs.Common.{◌≡◌, IsNone, ap, refl, subst, sym, ◌∙◌, arith}
use Rattle.std.proofs.lemmas.Bool.{false≢true}
use Rattle.rec_settle.specs.declared.turns.Settling as to_settle
use Rattle.rec_settle.specs.declared.turns.Settling.TheVariants.{Settled}
use Rattle.rec_play.specs.InsideWalk.{watched}
use Rattle.rec_play.specs.Left.{moves_left}
use Rattle.rec_play.specs.Watched.{IsDone, IsOver, Tells, Watched}
use Rattle.rec_play.specs.declared.moves.Move.TheVariants.{Step}
use Rattle.rec_play.specs.declared.stage.Stage.TheVariants.{Settling}
use Rattle.rec_play.proofs.Walks.{come_nearer, come_on, come_tells}
use Rattle.rec_play.proofs.walk.Walk.settle.Goals as goal
use Rattle.rec_play.proofs.walk.Walk.settle.Goals.{After-next}

stage : (c : After-next) → c.self.inside.stage ≡ Settling c.args.to
stage c = ap (λ (w : Watched). w.stage) c.self.view_is ∙ c.requires

pub invariant_of-self : goal.invariant_of-self
invariant_of-self c =
    come_on (watched c.self.inside) c.args.to c.next.new.self c.next.new.world (stage (goal.at.invariant_of-self c).After-next) c.self.invariant c.next.ensures.comes c.next.ensures.idle c.next.ensures.config c.next.ensures.kept

pub returns-in-Some-clause-told : goal.returns-in-Some-clause-told
returns-in-Some-clause-told c =
    let w : Watched = watched c.self.inside in
    subst (λ x. Tells x (record w { stage = Settling c.next.new.self; world = c.next.new.world }) (Step c.in-Some.seen c.in-Some.turn)) c.self.view_is
    (come_tells w c.args.to c.next.new.self c.next.new.world (stage (goal.at.returns-in-Some-clause-told c).After-next) c.self.invariant c.in-Some.seen c.in-Some.turn c.in-Some.ensures.stepped c.in-Some.ensures.seen)

pub returns-in-Some-clause-nearer : goal.returns-in-Some-clause-nearer
returns-in-Some-clause-nearer c =
    omega (arith, come_nearer (watched c.self.inside) c.args.to c.next.new.self c.next.new.world (stage (goal.at.returns-in-Some-clause-nearer c).After-next) c.self.invariant c.in-Some.ensures.nearer, ap moves_left c.self.view_is)

-- settling is done in one stage alone
settled : (to : to_settle.Settling) → IsDone to → to ≡ Settled
settled Settled done = refl
settled _ done = absurd done

pub returns-in-Some-clause-stays : goal.returns-in-Some-clause-stays
returns-in-Some-clause-stays c = λ over.
    let is : c.args.to ≡ Settled = settled c.args.to (subst IsOver c.requires over) in
    absurd (false≢true (sym (subst IsNone c.in-Some.is (c.next.ensures.stays is).0)))

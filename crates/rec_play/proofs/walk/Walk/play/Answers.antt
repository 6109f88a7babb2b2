-- A turn of the rule was made.
use Rattle.std.proofs.Common.{◌≡◌, ◌<◌, IfSome, refl, ap, subst, ◌∙◌}
use Rattle.rec_core.specs.Core.{Core}
use Rattle.rec_play.specs.InsideWalk.{watched}
use Rattle.rec_play.specs.Moves.{Player}
use Rattle.rec_play.specs.Left.{moves_left}
use Rattle.rec_play.specs.Playing.{to_come}
use Rattle.rec_play.specs.Watched.{Tells, Watched}
use Rattle.rec_play.specs.declared.stage.Stage.TheVariants.{Playing}
use Rattle.rec_play.proofs.Walks.{turn_made, turn_tells}
use Rattle.rec_play.proofs.walk.Walk.play.Goals as goal
use Rattle.rec_play.proofs.walk.Walk.play.Goals.{After-next}

playing : (c : After-next) → c.self.inside.stage ≡ Playing
playing c = ap (λ (w : Watched). w.stage) c.self.view_is ∙ c.requires

pub invariant_of-self : goal.invariant_of-self
invariant_of-self c =
    turn_made (watched c.self.inside) c.next.new.self c.next.new.world (playing (goal.at.invariant_of-self c).After-next) c.self.invariant c.next.ensures.script c.next.ensures.due.1 c.next.ensures.goes.idle c.next.ensures.goes.present c.next.ensures.goes.config c.next.ensures.kept
    c.in-Some.told c.in-Some.ensures.turned.told

pub returns-in-Some-clause-told : goal.returns-in-Some-clause-told
returns-in-Some-clause-told c =
    let w : Watched = watched c.self.inside in
    subst (λ x. Tells x (record w { script = c.next.new.self.script; rest = c.next.new.self.rest; made = c.next.new.self.made; world = c.next.new.world }) c.in-Some.told) c.self.view_is
    (turn_tells w c.next.new.self c.next.new.world (playing (goal.at.returns-in-Some-clause-told c).After-next) c.self.invariant c.next.ensures.script c.next.ensures.due.1 c.next.ensures.goes.idle c.next.ensures.goes.present c.next.ensures.goes.config c.next.ensures.kept
    c.in-Some.told c.in-Some.ensures.turned.told)

pub next-requires : goal.next-requires
next-requires c = record {
  config = c.self.invariant.config;
  idle = c.self.invariant.idle;
  present = c.self.invariant.present;
}

pub begin_settling-requires-clause-none : goal.begin_settling-requires-clause-none
begin_settling-requires-clause-none c = ap (λ (q : Player). to_come q.rest) (c.in-None.ensures.turned.stays refl).0 ∙ c.in-None.ensures.turned.ended refl

pub returns-in-Some-clause-script : goal.returns-in-Some-clause-script
returns-in-Some-clause-script c = c.next.ensures.script ∙ ap (λ (w : Watched). w.script) c.self.view_is

pub returns-in-Some-clause-rule : goal.returns-in-Some-clause-rule
returns-in-Some-clause-rule c = ap (λ (w : Watched). w.rule) c.self.view_is

pub returns-in-None-clause-script : goal.returns-in-None-clause-script
returns-in-None-clause-script c = c.begin_settling.ensures.script ∙ c.next.ensures.script ∙ ap (λ (w : Watched). w.script) c.self.view_is

pub returns-in-None-clause-rule : goal.returns-in-None-clause-rule
returns-in-None-clause-rule c = c.begin_settling.ensures.rule ∙ ap (λ (w : Watched). w.rule) c.self.view_is

pub returns-in-None-clause-told : goal.returns-in-None-clause-told
returns-in-None-clause-told c =
    let w : Watched = watched c.self.inside in
    let p : Player = c.next.new.self in
    let Q : Watched → Type 0 = λ x. IfSome c.begin_settling.result (Tells x c.begin_settling.new.self) in
    subst Q c.self.view_is
    (subst (λ (q : Player). Q (record w { script = q.script; rest = q.rest; made = q.made })) (c.in-None.ensures.turned.stays refl).0
    (subst (λ (v : Core). Q (record w { script = p.script; rest = p.rest; made = p.made; world = v })) (c.in-None.ensures.turned.stays refl).1 c.begin_settling.ensures.told))

pub returns-in-None-clause-nearer : goal.returns-in-None-clause-nearer
returns-in-None-clause-nearer c =
    let w : Watched = watched c.self.inside in
    let p : Player = c.next.new.self in
    let Q : Watched → Type 0 = λ x. IfSome c.begin_settling.result (λ told. moves_left c.begin_settling.new.self < moves_left x) in
    subst Q c.self.view_is
    (subst (λ (q : Player). Q (record w { script = q.script; rest = q.rest; made = q.made })) (c.in-None.ensures.turned.stays refl).0
    (subst (λ (v : Core). Q (record w { script = p.script; rest = p.rest; made = p.made; world = v })) (c.in-None.ensures.turned.stays refl).1 c.begin_settling.ensures.nearer))

pub returns-in-None-clause-ended : goal.returns-in-None-clause-ended
returns-in-None-clause-ended c = c.begin_settling.ensures.ended

-- The contract of `poll_in`: a poll, where the handle has a mutator.
use Rattle.std.proofs.Common.{Some, ap, refl, sym, ◌∙◌}
use Rattle.recycler_c.specs.Standing.{mutates_in}
use Rattle.recycler_c.specs.declared.end.End.{End}
use Rattle.recycler_c.proofs.Straight.{lacks_polls}
use Rattle.recycler_c.proofs.command.poll_in.Goals as goal

pub returns-in_default : goal.returns-in_default
returns-in_default c = lacks_polls (Some c.args.end.now) c.args.crossed.now c.lacks_mutator.result c.lacks_mutator.ensures

pub returns-then-has_left : goal.returns-then-has_left
returns-then-has_left c = (
  record { mutating = c.in-Mutating.out; is = ap (λ (e : End). mutates_in (Some e)) c.in-Mutating.is; left = sym c.has_left.ensures ∙ c.if-has_left.true },
  ap Some (sym c.in-Mutating.is),
  refl,
)

pub returns : goal.returns
returns c = record {
  before = c.in-Mutating.out;
  was = ap (λ (e : End). mutates_in (Some e)) c.in-Mutating.is;
  after = _;
  is = refl;
  kept = record { heap = refl; is = c.poll-epoch.ensures.is };
  epoch = c.poll-epoch.result;
  grows = c.poll-epoch.ensures.grows;
  answered = c.poll-epoch.ensures.answer;
  cause = c.poll-epoch.ensures.causes;
  left = c.poll-epoch.ensures.left;
  line = c.poll-epoch.ensures.line;
  told_so = c.unwrap_or.ensures;
}

-- The contract of `ask_in`: a command, where the handle has a mutator.
use Rattle.std.proofs.Common.{◌≡◌, Some, ap, refl, sym, subst, ◌∙◌, rules}
use Rattle.rec_model.specs.declared.command.Cmd.{Cmd}
use Rattle.rec_table.specs.Rule.{MayAsk}
use Rattle.rec_table.specs.Views.{mutator_now}
use Rattle.recycler_c.specs.Standing.{mutates_in}
use Rattle.recycler_c.specs.declared.end.End.{End}
use Rattle.rec_table.specs.Straight.{Carried}
use Rattle.rec_table.specs.Views.{IsMutatorOf, Started}
use Rattle.recycler_c.proofs.Straight.{asked_by}
use Rattle.recycler_c.proofs.command.ask_in.Goals as goal

pub returns-then-has_left : goal.returns-then-has_left
returns-then-has_left c = (
  record { mutating = c.in-Mutating.out; is = ap (λ (e : End). mutates_in (Some e)) c.in-Mutating.is; left = sym c.has_left.ensures ∙ c.if-has_left.true },
  ap Some (sym c.in-Mutating.is),
  refl,
)

pub returns-in_default-cmd : goal.returns-in_default-cmd
returns-in_default-cmd c = (
  record {
    mutating = c.in-Mutating.out;
    is = ap (λ (e : End). mutates_in (Some e)) c.in-Mutating.is;
    present = sym c.has_left.ensures ∙ c.if-has_left.false;
    lacks = λ cmd e v. c.in_default-cmd.not-Some cmd e;
  },
  ap Some (sym c.in-Mutating.is),
  refl,
)

pub returns-then-not-can_ask : goal.returns-then-not-can_ask
returns-then-not-can_ask c = (
  record {
    mutating = c.in-Mutating.out;
    is = ap (λ (e : End). mutates_in (Some e)) c.in-Mutating.is;
    present = sym c.has_left.ensures ∙ c.if-has_left.false;
    lacks = λ cmd e v.
        let same : cmd ≡ c.in-Some.cmd = cc in
        let yes = c.can_ask.ensures.1 (subst (λ (x : Cmd). MayAsk (mutator_now c.in-Mutating.out.mutator) x) same (v, sym c.has_left.ensures ∙ c.if-has_left.false)) in
        cc;
  },
  ap Some (sym c.in-Mutating.is),
  refl,
)

pub by_steps-answered-requires-clause-own : goal.by_steps-answered-requires-clause-own
by_steps-answered-requires-clause-own c = subst (λ (s : Started). IsMutatorOf s c.in-Mutating.out.mutator) (sym c.deref.ensures) c.in-Mutating.out.own

pub by_steps-answered-requires-clause-valid : goal.by_steps-answered-requires-clause-valid
by_steps-answered-requires-clause-valid c = c.can_ask.ensures.0 (search rules)

pub returns-else-not-can_ask : goal.returns-else-not-can_ask
returns-else-not-can_ask c =
    let e = c.by_steps-answered.ensures in
    let carried : Carried c.in-Mutating.out.mutator c.by_steps-answered.new.self c.in-Some.cmd c.by_steps-answered.result = record { grows = e.grows; is = e.is; answer = e.answer; causes = e.causes; leaves = e.leaves; line = e.line; idle = e.idle; same = e.same } in (
      c.in-Some.cmd,
      c.in-Some.is,
      asked_by _ c.in-Mutating.out _ c.in-Some.cmd c.by_steps-answered.result _ c.in-Mutating.is (c.can_ask.ensures.0 (search rules)) refl carried c.show_answer.ensures,
    )

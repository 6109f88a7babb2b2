-- The contract of `Machine::took_return`: a mailbox was given back, from which a mutator's last buffer may have come.
use Rattle.std.proofs.Common.{◌≡◌, ℕ, ◌-◌, ◌<◌, Bool, length, get_or, set, arith, ap, sym, subst, ◌∙◌}
use Rattle.std.proofs.lemmas.List.{get_or_default}
use Rattle.rec_log.specs.declared.contents.Contents.{Contents}
use Rattle.rec_collector.proofs.Common.{behind, behind_turn, blank, IsMachine, MayGatherBehind, Private, took_at, turn_at, Returning}
use Rattle.rec_collector.specs.Took.{noted}
use Rattle.rec_collector.proofs.Gathering.{noted_as, noted_gathers, noted_keeps}
use Rattle.rec_collector.proofs.Landing.{now_at}
use Rattle.rec_collector.proofs.machine.Machine.took_return.Goals as goal

-- the mark of the buffer that was read is noted
noted_now : {p now : Private} {t n : ℕ} {item : Contents} {last : Bool} → IsMachine p → p ≡ now → now.phase ≡ Returning t → n ≡ t → item ≡ get_or p.newer (n - 1) item → last ≡ item.last
    → record p { left = set p.left (n - 1) last } ≡ noted now t
noted_now {p = p} {now = now} {t = t} {n = n} {item = item} {last = last} k view phase same read marks =
    let a = now_at p (Returning t) k (ap (λ (q : Private). q.phase) view ∙ phase) in
    let there : n - 1 < length p.newer = omega (arith, a.first, a.there, same) in
    noted_as p now t n last view same (marks ∙ ap (λ (b : Contents). b.last) (read ∙ get_or_default p.newer (n - 1) item (blank 0 0) there))

pub overflow_sub-place : goal.overflow_sub-place
overflow_sub-place c = omega (arith, (now_at c.args.self.now (Returning c.args.mutator) c.rules.ensures c.requires.phase).first, c.from-place.ensures)

pub invariant_of-self : goal.invariant_of-self
invariant_of-self c =
    subst IsMachine (sym (noted_now c.self.invariant c.self.view_is c.requires.phase c.from-place.ensures c.index.ensures c.is_last.ensures))
    (noted_keeps c.args.self.now c.args.mutator c.rules.ensures c.requires.phase)

pub gather_behind-requires : goal.gather_behind-requires
gather_behind-requires c = record {
  gathers = subst (λ (p : Private). MayGatherBehind p c.args.mutator) (sym (noted_now c.self.invariant c.self.view_is c.requires.phase c.from-place.ensures c.index.ensures c.is_last.ensures))
      (noted_gathers c.args.self.now c.args.mutator c.rules.ensures c.requires.phase c.requires.covered);
}

pub returns-clause-took : goal.returns-clause-took
unfolding took_at
returns-clause-took c =
    c.gather_behind.ensures.took
    ∙ ap (λ (p : Private). behind p c.args.mutator) (noted_now c.self.invariant c.self.view_is c.requires.phase c.from-place.ensures c.index.ensures c.is_last.ensures)

pub returns-clause-turn : goal.returns-clause-turn
unfolding turn_at
returns-clause-turn c =
    c.gather_behind.ensures.turn
    ∙ ap (λ (p : Private). behind_turn p c.args.mutator) (noted_now c.self.invariant c.self.view_is c.requires.phase c.from-place.ensures c.index.ensures c.is_last.ensures)

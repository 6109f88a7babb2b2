-- The contract of `Machine::lost`: a scan goes on behind its first probe.
use Rattle.std.proofs.Common.{◌≡◌, ℕ, Bool, false, sym, ap, subst, ◌∙◌}
use Rattle.rec_model.specs.Asking.{allocation}
use Rattle.rec_model.specs.declared.command.Cmd.{Cmd}
use Rattle.rec_mutator.specs.Next.{next_of}
use Rattle.rec_mutator.specs.Private.{Private, HasOperands, is_busy, is_full}
use Rattle.rec_mutator.specs.Took.{begun_of, took_of, IsBetween, IsFound}
use Rattle.rec_mutator.specs.declared.work.Work.TheVariants as works
use Rattle.rec_mutator.proofs.Straight.{found_claim, found_new, scanning, scans_is}
use Rattle.rec_mutator.proofs.machine.Machine.lost.Goals as goal

pub begin-requires-clause-valid : goal.begin-requires-clause-valid
begin-requires-clause-valid c = subst (λ (cmd : Cmd). HasOperands c.args.self.now cmd) (sym c.allocation.ensures) c.requires.valid

-- what the scan begins with
begins : (p q r : Private) (reg label : ℕ) (leaf : Bool) (cmd : Cmd) (from before : ℕ) → is_full p ≡ false → cmd ≡ allocation leaf reg label → q ≡ begun_of p (works.Command cmd) from → r ≡ took_of q before → r ≡ scanning p reg label leaf from before
begins p q r reg label leaf cmd from before room is begun took =
    took ∙ ap (λ (x : Private). took_of x before) (begun ∙ ap (λ (x : Cmd). begun_of p (works.Command x) from) is) ∙ scans_is p reg label leaf from before room

pub took_first-requires-clause-found : goal.took_first-requires-clause-found
took_first-requires-clause-found c =
    let p : Private = c.args.self.now in
    let begun : c.begin.new.self ≡ begun_of p (works.Command (allocation c.args.leaf c.args.reg c.args.label)) c.args.from = c.begin.ensures.begun ∙ ap (λ (x : Cmd). begun_of p (works.Command x) c.args.from) c.allocation.ensures in
    subst (λ (x : Private). IsFound x (next_of x) c.args.before) (sym begun) (found_new p c.args.reg c.args.label c.args.leaf c.args.from c.args.before c.requires.room)

pub took-requires-clause-busy : goal.took-requires-clause-busy
took-requires-clause-busy c =
    ap is_busy (begins c.args.self.now c.begin.new.self c.took_first.new.self c.args.reg c.args.label c.args.leaf c.allocation.result c.args.from c.args.before c.requires.room c.allocation.ensures c.begin.ensures.begun c.took_first.ensures.took)

pub took-requires-clause-between : goal.took-requires-clause-between
took-requires-clause-between c =
    subst (λ (x : Private). IsBetween x.phase) (sym (begins c.args.self.now c.begin.new.self c.took_first.new.self c.args.reg c.args.label c.args.leaf c.allocation.result c.args.from c.args.before c.requires.room c.allocation.ensures c.begin.ensures.begun c.took_first.ensures.took)) tt

pub took-requires-clause-found : goal.took-requires-clause-found
took-requires-clause-found c =
    subst (λ (x : Private). IsFound x (next_of x) c.args.found) (sym (begins c.args.self.now c.begin.new.self c.took_first.new.self c.args.reg c.args.label c.args.leaf c.allocation.result c.args.from c.args.before c.requires.room c.allocation.ensures c.begin.ensures.begun c.took_first.ensures.took))
    (found_claim c.args.self.now c.args.reg c.args.label c.args.leaf c.args.from c.args.before c.args.found)

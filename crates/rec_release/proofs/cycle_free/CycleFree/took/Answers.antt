-- The contract of `CycleFree::took`: learns the word that came out of the field: its target has one reference less.
use Rattle.std.proofs.Common.{◌≡◌, ℕ, ◌++◌, true, Option, Some, IfSome, IsSome, is_some, refl, sym, subst, ap, ◌∙◌}
use Rattle.rec_word.specs.Word.{target_of}
use Rattle.rec_word.specs.declared.member.Member.{Member}
use Rattle.rec_word.specs.Load.{loaded_at}
use Rattle.rec_counts.specs.Counts.{State}
use Rattle.rec_release.specs.CycleFree.{Machine, Next, gone_on, next_of, op_at, took_of, work_of, IsAtWork}
use Rattle.rec_release.specs.Freed.{FreedTo}
use Rattle.rec_release.specs.TakenOff.{taken_off, Keeps}
use Rattle.rec_word.proofs.Given.{works_at, WorksAt}
use Rattle.rec_release.proofs.Freeing.{came_more, gone_work, off_work, took_some}
use Rattle.rec_release.proofs.Orange.{gone_keeps, keeps_orange}
use Rattle.rec_release.proofs.cycle_free.CycleFree.took.Goals as goal
use Rattle.rec_release.proofs.cycle_free.CycleFree.took.Goals.{After-go_on}

works_in : (p : Machine) (fields : ℕ) (at : Option Member) → p ≡ record { fields = fields; at = at } → IsSome (next_of p) → WorksAt at
unfolding next_of
works_in p fields at e busy = works_at (op_at fields) refl at (subst (λ (p : Machine). IsSome (next_of p)) e busy)

pub go_on-requires-clause-busy : goal.go_on-requires-clause-busy
go_on-requires-clause-busy c = ap is_some (works_in c.args.self.now c.self.inside.fields c.self.inside.at (sym c.self.view_is) c.requires.busy).is

works : (c : After-go_on) → WorksAt c.self.inside.at
works c = works_in c.args.self.now c.self.inside.fields c.self.inside.at (sym c.self.view_is) c.requires.busy

machine_was : (c : After-go_on) → c.args.self.now ≡ record { fields = c.self.inside.fields; at = Some (works c).place }
machine_was c = sym c.self.view_is ∙ ap (λ (x : Option Member). record { fields = c.self.inside.fields; at = x }) (works c).is

went : (c : After-go_on) → record { at = c.go_on.new.next; counts = c.go_on.new.counts } ≡ gone_on c.self.inside.fields (taken_off true c.args.counts.now (target_of c.args.word)) (works c).place
went c =
    subst (λ (o : Option Member). IfSome o (λ (x : Member). record { at = c.go_on.new.next; counts = c.go_on.new.counts } ≡ gone_on c.self.inside.fields c.take_off.new.counts x)) (works c).is c.go_on.ensures
    ∙ ap (λ (u : State). gone_on c.self.inside.fields u (works c).place) (c.take_off.ensures ∙ ap (taken_off true c.args.counts.now) c.target.ensures.target)

kept : (c : After-go_on) → IsAtWork (record { fields = c.self.inside.fields; at = c.go_on.new.next }) c.go_on.new.counts
kept c =
    let f : ℕ = c.self.inside.fields in
    let a : Member = (works c).place in
    let k : IsAtWork (record { fields = f; at = Some a }) c.args.counts.now = subst (λ (p : Machine). IsAtWork p c.args.counts.now) (machine_was c) c.requires.kept in
    subst (λ (n : Next). IsAtWork (work_of f n).machine n.counts) (sym (went c)) (gone_work f (taken_off true c.args.counts.now (target_of c.args.word)) a (off_work f c.args.counts.now (target_of c.args.word) a k))

pub invariant_of-self : goal.invariant_of-self
invariant_of-self c = (c.self.invariant.0, (kept c).field)

pub returns : goal.returns
returns c =
    let f : ℕ = c.self.inside.fields in
    let a : Member = (works c).place in
    let s : State = c.args.counts.now in
    let t : Option ℕ = target_of c.args.word in
    let k : IsAtWork (record { fields = f; at = Some a }) s = subst (λ (p : Machine). IsAtWork p s) (machine_was c) c.requires.kept in
    let keeps : Keeps true s c.go_on.new.counts = subst (λ (n : Next). Keeps true s n.counts) (sym (went c)) (gone_keeps f s t a c.requires.counted) in
    record {
      took = ap (work_of f) (went c) ∙ sym (took_some f a s c.args.word) ∙ ap (λ (p : Machine). took_of (record { machine = p; counts = s }) c.args.word) (sym (machine_was c));
      kept = kept c;
      keeps = keeps;
      orange = keeps_orange keeps refl;
      whole = rw (machine_was c) (λ before loads r. subst (λ (n : Next). FreedTo f before n.at n.counts (loads ++ loaded_at (Some a) c.args.word)) (sym (went c)) (came_more f before a s loads c.args.word k r).law);
    }

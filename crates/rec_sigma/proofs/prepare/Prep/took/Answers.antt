-- The contract of `Prep::took`: learns the word that was found in the field: where it leads to a member of the same set, it takes one off that member's cyclic count, not below zero.
use Rattle.std.proofs.Common.{◌≡◌, ℕ, ◌++◌, Option, Some, None, IfSome, IsSome, sym, subst, ap, ◌∙◌}
use Rattle.std.proofs.lemmas.Bool.{false≢true}
use Rattle.rec_word.specs.Word.{target_of}
use Rattle.rec_counts.specs.Counts.{State}
use Rattle.rec_sigma.specs.declared.at.At.{At}
use Rattle.rec_sigma.specs.Prepare.{Machine, Next, gone_on, next_of, taken_off, took_of, work_of, IsAtWork}
use Rattle.rec_sigma.specs.Prepared.{KeepsOthers, PreparedTo, loaded_at}
use Rattle.rec_sigma.proofs.Runs.{came_more, gone_is, held_off, more_others, told_before, took_some}
use Rattle.rec_sigma.proofs.prepare.Prep.took.Goals as goal
use Rattle.rec_sigma.proofs.prepare.Prep.took.Goals.{After-go_on}

pub returns-in_default : goal.returns-in_default
unfolding next_of
returns-in_default c =
    let m : c.args.self.now ≡ record { fields = c.self.inside.fields; at = None } = sym c.self.view_is ∙ ap (λ (x : Option At). record { fields = c.self.inside.fields; at = x }) c.in_default.is in
    absurd (false≢true (subst (λ (p : Machine). IsSome (next_of p)) m c.requires.busy))

machine_was : (c : After-go_on) → c.args.self.now ≡ record { fields = c.self.inside.fields; at = Some c.in-Some.at }
machine_was c = sym c.self.view_is ∙ ap (λ (x : Option At). record { fields = c.self.inside.fields; at = x }) c.in-Some.is

went : (c : After-go_on) → record { at = c.go_on.new.next; counts = c.go_on.new.counts } ≡ gone_on c.self.inside.fields (taken_off c.in-Some.at.set c.args.counts.now (target_of c.args.word)) c.in-Some.at
went c =
    subst (λ (o : Option At). IfSome o (λ (x : At). record { at = c.go_on.new.next; counts = c.go_on.new.counts } ≡ gone_on c.self.inside.fields c.take_off.new.counts x)) c.in-Some.is c.go_on.ensures
    ∙ ap (λ (u : State). gone_on c.self.inside.fields u c.in-Some.at) (c.take_off.ensures ∙ ap (taken_off c.in-Some.at.set c.args.counts.now) c.target.ensures.target)

work : (c : After-go_on) → IsAtWork (record { fields = c.self.inside.fields; at = Some c.in-Some.at }) c.args.counts.now
work c = subst (λ (p : Machine). IsAtWork p c.args.counts.now) (machine_was c) c.requires.kept

kept : (c : After-go_on) → IsAtWork (record { fields = c.self.inside.fields; at = c.go_on.new.next }) c.go_on.new.counts
kept c = subst (λ (n : Next). IsAtWork (work_of c.self.inside.fields n).machine n.counts) (sym (went c)) (gone_is c.self.inside.fields _ c.in-Some.at (work c).field (held_off c.args.counts.now c.in-Some.at (target_of c.args.word) (work c).held))

pub invariant_of-self : goal.invariant_of-self
invariant_of-self c = (c.self.invariant.0, (kept c).field)

pub returns : goal.returns
returns c =
    let f : ℕ = c.self.inside.fields in
    let a : At = c.in-Some.at in
    let s : State = c.args.counts.now in
    record {
      took = ap (work_of f) (went c) ∙ sym (took_some f a s c.args.word) ∙ ap (λ (p : Machine). took_of (record { machine = p; counts = s }) c.args.word) (sym (machine_was c));
      kept = kept c;
      others = subst (λ (n : Next). KeepsOthers s n.counts) (sym (went c)) (more_others f a s c.args.word);
      whole = rw (machine_was c) (λ before loads p. subst (λ (n : Next). PreparedTo f before n.at n.counts (loads ++ loaded_at (Some a) c.args.word)) (sym (went c)) (came_more f before a s loads c.args.word (told_before p c.rules.ensures.numbers) (work c).field (work c).held p).law);
    }

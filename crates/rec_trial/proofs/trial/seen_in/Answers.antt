-- The contract of `seen_in`: the slot to which a word leads that is seen in a phase.
use Rattle.std.proofs.Common.{◌≡◌, Option, ℕ, ap, ◌∙◌}
use Rattle.rec_trial.specs.Rules.{seen_of}
use Rattle.rec_trial.proofs.Common.{target_of, learnt_at, visible}
use Rattle.rec_trial.proofs.Seen.{leads_within, seen_alike, seen_target}
use Rattle.rec_trial.proofs.Visible.{visible_within}
use Rattle.rec_trial.proofs.trial.seen_in.Goals as goal

pub see-requires : goal.see-requires
see-requires c = rw c.target.ensures.target (leads_within c.args.counts.now (target_of c.args.word) c.requires)

pub returns-in-Marking : goal.returns-in-Marking
returns-in-Marking c =
    let e : c.see.result ≡ target_of (visible c.args.counts.now c.args.word) = c.see.ensures ∙ ap (seen_of c.args.counts.now) c.target.ensures.target ∙ seen_target c.args.counts.now c.args.word in
    record {
      in_range = rw e (visible_within c.args.counts.now c.args.word c.requires);
      learnt = ap (λ (t : Option ℕ). learnt_at c.args.phase c.args.counts.now t) e;
    }

pub returns-in_default : goal.returns-in_default
returns-in_default c = record {
  in_range = rw c.target-in_default.ensures.target (leads_within c.args.counts.now (target_of c.args.word) c.requires);
  learnt = ap (λ (t : Option ℕ). learnt_at c.args.phase c.args.counts.now t) c.target-in_default.ensures.target ∙ seen_alike c.args.phase c.in_default.not-Marking c.args.counts.now c.args.word;
}

-- The contract of `Release::took`: learns the word that came out of the field: its target has one reference less.
use Rattle.std.proofs.Common.{◌≡◌, ℕ, ◌++◌, Bool, Option, Some, None, IsSome, [], ◌∷◌, take, sym, subst, ap, ◌∙◌}
use Rattle.std.proofs.lemmas.Bool.{false≢true}
use Rattle.rec_word.specs.Place.{places_from}
use Rattle.rec_word.specs.Word.{target_of}
use Rattle.rec_counts.specs.Counts.{State}
use Rattle.rec_release.specs.declared.at.At.{At}
use Rattle.rec_release.specs.Release.{IsReady, Machine, Work, gone_on, next_of, took_of, IsAtWork}
use Rattle.rec_release.specs.Released.{Released}
use Rattle.rec_release.specs.TakenOff.{taken_off}
use Rattle.rec_release.proofs.Orange.{keeps_orange}
use Rattle.rec_release.proofs.Runs.{at_work, came_more, goes_on, took_some, Goes}
use Rattle.rec_release.proofs.release.Release.took.Goals as goal
use Rattle.rec_release.proofs.TakenOff.{ready_off}

pub returns-in_default : goal.returns-in_default
unfolding next_of
returns-in_default c =
    let m : c.args.self.now ≡ record { fields = c.self.inside.fields; at = None; lowers = c.self.inside.lowers } = sym c.self.view_is ∙ ap (λ (x : Option At). record { fields = c.self.inside.fields; at = x; lowers = c.self.inside.lowers }) c.in_default.is in
    absurd (false≢true (subst (λ (p : Machine). IsSome (next_of p)) m c.requires.busy))

pub go_on-self-inside-requires-clause-ready : goal.go_on-self-inside-requires-clause-ready
go_on-self-inside-requires-clause-ready c = subst IsReady (sym c.take_off.ensures) (ready_off _ _ _ c.requires.kept.ready)

pub returns : goal.returns
returns c =
    let f : ℕ = c.self.inside.fields in
    let b : Bool = c.self.inside.lowers in
    let a : At = c.in-Some.at in
    let s : State = c.args.counts.now in
    let m : c.args.self.now ≡ record { fields = f; at = Some a; lowers = b } = sym c.self.view_is ∙ ap (λ (x : Option At). record { fields = f; at = x; lowers = b }) c.in-Some.is in
    let k : IsAtWork (record { fields = f; at = Some a; lowers = b }) s = subst (λ (p : Machine). IsAtWork p s) m c.requires.kept in
    let v : Work = at_work f b c.go_on-self-inside.result c.go_on-self-inside.new.counts in
    let e : v ≡ gone_on f b a (taken_off b s (target_of c.args.word)) = c.go_on-self-inside.ensures.gone b ∙ ap (λ (u : State). gone_on f b a u) (c.take_off.ensures ∙ ap (taken_off b s) c.target.ensures.target) in
    let g : Goes f b s v = subst (Goes f b s) (sym e) (goes_on f b a s (target_of c.args.word) k c.requires.counted) in
    record {
      took = e ∙ sym (took_some f b a s c.args.word) ∙ ap (λ (p : Machine). took_of (record { machine = p; counts = s }) c.args.word) (sym m);
      kept = g.kept;
      lowers = ap (λ (p : Machine). p.lowers) (sym m);
      done = g.done;
      keeps = g.keeps;
      orange = keeps_orange g.keeps;
      whole = rw m (λ before words from slots r.
          let n = came_more f b before a s words from slots c.args.word k.field r in
          (n.slots, subst (λ (u : Work). Released f before u.machine.at u.counts (words ++ c.args.word ∷ []) (from ++ take 1 (places_from f a.slot a.field)) n.slots) (sym (e ∙ n.is)) n.law));
    }

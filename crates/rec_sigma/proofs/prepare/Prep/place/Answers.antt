-- The contract of `Prep::place`: the place of the field that is loaded next.
use Rattle.std.proofs.Common.{◌≡◌, IsSome, Option, None, Some, sym, subst, ap, ◌∙◌}
use Rattle.std.proofs.lemmas.Bool.{false≢true}
use Rattle.rec_word.specs.declared.op.Op.TheVariants.{LoadChild}
use Rattle.rec_sigma.specs.declared.at.At.{At}
use Rattle.rec_sigma.specs.Prepare.{Machine, next_of}
use Rattle.rec_sigma.proofs.prepare.Prep.place.Goals as goal

pub unreachable-requires : goal.unreachable-requires
unfolding next_of
unreachable-requires c =
    let m : c.args.self.now ≡ record { fields = c.self.inside.fields; at = None } = sym c.self.view_is ∙ ap (λ (x : Option At). record { fields = c.self.inside.fields; at = x }) c.in_default.is in
    absurd (false≢true (subst (λ (p : Machine). IsSome (next_of p)) m c.requires))

pub returns : goal.returns
unfolding next_of
returns c =
    let m : c.args.self.now ≡ record { fields = c.self.inside.fields; at = Some c.in-Some.at } = sym c.self.view_is ∙ ap (λ (x : Option At). record { fields = c.self.inside.fields; at = x }) c.in-Some.is in
    ap next_of m ∙ ap (λ n. Some (LoadChild n)) (sym c.place.ensures.place)

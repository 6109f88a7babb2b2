-- The contract of `CycleFree::place`: the place of the field that is exchanged next.
use Rattle.std.proofs.Common.{◌≡◌, IsSome, Option, None, Some, sym, subst, ap, ◌∙◌}
use Rattle.std.proofs.lemmas.Bool.{false≢true}
use Rattle.rec_word.specs.declared.op.Op.TheVariants.{ClearField}
use Rattle.rec_word.specs.declared.member.Member.{Member}
use Rattle.rec_release.specs.CycleFree.{Machine, next_of}
use Rattle.rec_release.proofs.cycle_free.CycleFree.place.Goals as goal

pub unreachable-requires : goal.unreachable-requires
unfolding next_of
unreachable-requires c =
    let m : c.args.self.now ≡ record { fields = c.self.inside.fields; at = None } = sym c.self.view_is ∙ ap (λ (x : Option Member). record { fields = c.self.inside.fields; at = x }) c.in_default.is in
    absurd (false≢true (subst (λ (p : Machine). IsSome (next_of p)) m c.requires))

pub returns : goal.returns
unfolding next_of
returns c =
    let m : c.args.self.now ≡ record { fields = c.self.inside.fields; at = Some c.in-Some.at } = sym c.self.view_is ∙ ap (λ (x : Option Member). record { fields = c.self.inside.fields; at = x }) c.in-Some.is in
    ap next_of m ∙ ap (λ n. Some (ClearField n)) (sym c.place.ensures.place)

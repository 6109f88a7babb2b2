-- The contract of `lengths_of`: how many commands each mutator has.
use Rattle.std.proofs.Common.{◌≡◌, ◌≤◌, ◌<◌, ◌+◌, ◌-◌, ◌++◌, ◌∷◌, [], ℕ, List, Some, map, slice_index_or, length, take, sym, ap, subst, ◌∙◌, arith}
use Rattle.std.specs.List.{slice_get}
use Rattle.std.proofs.lemmas.List.{length-take-le, take_more, take_all, length-map, get_or-map}
use Rattle.std.proofs.lemmas.Option.{get_or_from_slice_get, slice_get_within}
use Rattle.rec_model.specs.declared.command.Cmd.{Cmd}
use Rattle.rec_model.specs.declared.limits.TheConstants.{MOST_MUTATORS}
use Rattle.rec_play.specs.Played.{lengths_of}
use Rattle.rec_play.proofs.Due.{few_mutators}
use Rattle.rec_play.proofs.opening.lengths_of.Goals as goal

-- one mutator more
more : (all : List (List Cmd)) (i : ℕ) (cmds : List Cmd) (so lengths : List ℕ) → slice_get all (i + 1 - 1) ≡ Some cmds → so ≡ take i (map length all) → lengths ≡ so ++ length cmds ∷ []
    → lengths ≡ take (i + 1) (map length all)
more all i cmds so lengths is so_is lengths_is =
    let named : slice_get all i ≡ Some cmds = ap (slice_get all) (let same : i ≡ i + 1 - 1 = omega arith in same) ∙ is in
    let there : i < length all = slice_get_within all i cmds named in
    let own : slice_index_or (map length all) i 0 ≡ length cmds = get_or-map length all i [] 0 there ∙ ap length (get_or_from_slice_get all i cmds [] named) in
    lengths_is
    ∙ ap (λ xs. xs ++ length cmds ∷ []) so_is
    ∙ ap (λ n. take i (map length all) ++ n ∷ []) (sym own)
    ∙ sym (take_more (map length all) i 0 (subst (λ n. i < n) (sym (length-map all length)) there))

pub push-requires : goal.push-requires
push-requires c =
    let few : length c.args.script.now.commands ≤ MOST_MUTATORS = few_mutators c.args.script.now c.mutators-index-end.ensures.valid in
    let all : length (lengths_of c.args.script.now) ≡ length c.args.script.now.commands = length-map c.args.script.now.commands (length {A = Cmd}) in
    let so : length c.loop-index.lengths.items ≡ length (take c.loop-index.index (lengths_of c.args.script.now)) = ap length c.loop-index.invariant in
    let taken : length (take c.loop-index.index (lengths_of c.args.script.now)) ≡ c.loop-index.index = length-take-le c.loop-index.index (lengths_of c.args.script.now) (omega (arith, all, c.mutators-index-end.ensures.value)) in
    omega (arith, few, so, taken, c.mutators-index-end.ensures.value)

pub loop-index-preserved : goal.loop-index-preserved
loop-index-preserved c =
    more c.args.script.now.commands c.loop-index.index c.commands.result.now c.loop-index.lengths.items c.push.new.self.items c.commands.ensures.value c.loop-index.invariant c.push.ensures.items

pub returns-clause-lengths : goal.returns-clause-lengths
returns-clause-lengths c =
    let end : c.loop-index.index ≡ length c.args.script.now.commands = omega (arith, c.mutators-index-end.ensures.value, c.loop-index.auto.index-end) in
    c.loop-index.invariant ∙ take_all c.loop-index.index (lengths_of c.args.script.now) (omega (arith, length-map c.args.script.now.commands (length {A = Cmd})))

-- A long frontier is cut, and what its chunks lead to and isn't found yet joins as all of it does.
use Rattle.std.proofs.Common.{◌≡◌, ℕ, List, Vec, Global, ◌-◌, true, take, drop, length, ap, subst, ◌∙◌, arith}
use Rattle.std.specs.List.{flat_map}
use Rattle.std.proofs.lemmas.List.{length-drop, take_all}
use Rattle.rec_model.specs.Numbering.{joined}
use Rattle.rec_model.specs.Reach.{is_in}
use Rattle.rec_trace.specs.Children.{all_children, unmet}
use Rattle.rec_trace.proofs.Joining.{children_below, in_part, in_unmet, joined_unmet}
use Rattle.rec_trace.proofs.frontier.follow_in_chunks.Goals as goal

pub gather-requires-clause-frontier : goal.gather-requires-clause-frontier
gather-requires-clause-frontier g c κs within slot there = c.requires.list slot (subst (λ ns. is_in slot ns ≡ true) c.list.ensures.list (in_part c.args.first _ c.list.result.now slot there))

pub meet_chunks-requires : goal.meet_chunks-requires
meet_chunks-requires g c slot there =
    let found : flat_map (λ (v : Vec ℕ Global). v.items) c.deref.result.now ≡ unmet c.args.found.list (all_children c.args.fields.words.now c.args.fields.each (take (length c.list.result.now - c.args.first) (drop c.args.first c.list.result.now)))
    = ap (flat_map (λ (v : Vec ℕ Global). v.items)) c.deref.ensures.value ∙ c.in_ok-chunks.ensures in
    children_below c.args.found.slots c.args.fields.words.now c.args.fields.each _ c.requires.fields slot (in_unmet c.args.found.list _ slot (subst (λ ns. is_in slot ns ≡ true) found there))

pub returns-clause-joined : goal.returns-clause-joined
returns-clause-joined g c =
    let old : List ℕ = c.args.found.list in
    let now : List ℕ = c.list.result.now in
    let first : ℕ = c.args.first in
    let children : List ℕ → List ℕ = all_children c.args.fields.words.now c.args.fields.each in
    let whole : take (length now - first) (drop first now) ≡ drop first old
    = take_all (length now - first) (drop first now) (omega (arith, length-drop first now)) ∙ ap (drop first) c.list.ensures.list in
    c.meet_chunks.ensures.joined
    ∙ ap (joined old) (ap (flat_map (λ (v : Vec ℕ Global). v.items)) c.deref.ensures.value ∙ c.in_ok-chunks.ensures)
    ∙ joined_unmet old old (children (take (length now - first) (drop first now))) (λ n h. h)
    ∙ ap (λ ns. joined old (children ns)) whole

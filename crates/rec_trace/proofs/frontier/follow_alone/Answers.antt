-- Each slot of the frontier is one that there is, and what its fields lead to joins the list.
use Rattle.std.proofs.Common.{◌≡◌, ℕ, List, ◌+◌, ◌-◌, ◌*◌, ◌<◌, ◌≤◌, drop, take, length, map, get_or, arith, sym, subst, ap, ◌∙◌}
use Rattle.rec_word.specs.Word.{target_of}
use Rattle.rec_model.specs.Numbering.{joined}
use Rattle.rec_model.specs.Reach.{named}
use Rattle.rec_trace.specs.Children.{children, all_children}
use Rattle.rec_trace.proofs.Joining.{at_place, fields_there, frontier_left, joined_more, slot_kept, slot_left}
use Rattle.rec_trace.proofs.frontier.follow_alone.Goals as goal

pub of-requires : goal.of-requires
of-requires c =
    let old : List ℕ = c.args.found.list in
    let lt : c.loop-i.i < length old = subst (λ ns. c.loop-i.i < length ns) c.list-i-end.ensures.list c.loop-i-test.true in
    let same : get_or c.list.result.now c.loop-i.i 0 ≡ get_or old c.loop-i.i 0 = ap (λ ns. get_or ns c.loop-i.i 0) c.list.ensures.list ∙ slot_kept old c.loop-i.found.list _ c.loop-i.i c.loop-i.invariant.list lt in
    subst (λ s. s * c.args.fields.each + c.args.fields.each ≤ length c.args.fields.words.now) (sym same)
    (fields_there c.args.found.slots c.args.fields.words.now c.args.fields.each _ c.requires.fields (at_place (λ s. s < c.args.found.slots) old c.requires.list c.loop-i.i 0 lt))

pub loop-i-preserved : goal.loop-i-preserved
loop-i-preserved c =
    let old : List ℕ = c.args.found.list in
    let words : List ℕ = c.args.fields.words.now in
    let each : ℕ = c.args.fields.each in
    let first : ℕ = c.args.first in
    let i : ℕ = c.loop-i.i in
    let from : first ≤ i = c.loop-i.auto.i in
    let lt : i < length old = subst (λ ns. i < length ns) c.list-i-end.ensures.list c.loop-i-test.true in
    let same : get_or c.list.result.now i 0 ≡ get_or (drop first old) (i - first) 0
    = ap (λ ns. get_or ns i 0) c.list.ensures.list ∙ slot_kept old c.loop-i.found.list _ i c.loop-i.invariant.list lt ∙ slot_left old first i from in
    let next : i - first + 1 ≡ i + 1 - first = omega arith in
    record {
      slots = c.meet_fields.ensures.slots ∙ c.loop-i.invariant.slots;
      list = joined_more (children words each) old c.loop-i.found.list c.meet_fields.new.self.list (drop first old) (i - first) 0 c.loop-i.invariant.list (frontier_left old first i from lt)
          (c.meet_fields.ensures.joined ∙ ap (λ ws. joined c.loop-i.found.list (named (map target_of ws))) c.of.ensures ∙ ap (λ s. joined c.loop-i.found.list (children words each s)) same)
          ∙ ap (λ k. joined old (all_children words each (take k (drop first old)))) next;
    }

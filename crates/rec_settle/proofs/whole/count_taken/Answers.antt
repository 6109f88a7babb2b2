-- The contract of `count_taken`: how many slots hold an object.
use Rattle.std.proofs.Common.{◌≡◌, ◌+◌, ◌<◌, ◌≤◌, ℕ, List, length, get_or, nat_lt, count_by, refl, sym, ap, ◌∙◌, arith}
use Rattle.std.proofs.lemmas.Bool.{ltb_from_iff}
use Rattle.std.proofs.lemmas.List.{take_all}
use Rattle.std.proofs.lemmas.List.Sums.{count_by_more_no, count_by_more_yes}
use Rattle.rec_settle.proofs.whole.count_taken.Goals as goal
use Rattle.rec_settle.proofs.whole.count_taken.Goals.{then-taken, else-taken}

pub loop-slot-init : goal.loop-slot-init
loop-slot-init c = refl

pub taken-requires : goal.taken-requires
taken-requires c = omega (arith, c.loop-slot-test.true, c.slots-slot-end.ensures.slots)

pub loop-slot-preserved : goal.loop-slot-preserved
loop-slot-preserved c =
    let hs : List ℕ = c.args.world.now.headers in
    let slot : ℕ = c.loop-slot.slot in
    let all : length hs ≡ c.args.world.now.config.slots = c.slots-slot-end.ensures.kept.shaped.headers in
    let there : slot < length hs = omega (arith, all, c.loop-slot-test.true, c.slots-slot-end.ensures.slots) in
    let is : c.taken.result ≡ nat_lt 0 (get_or hs slot 0) = ltb_from_iff c.taken.ensures in
    elim c.if-taken.branch [
      | then-taken w ↦ w.taken-is ∙ ap (λ (n : ℕ). n + 1) c.loop-slot.invariant ∙ sym (count_by_more_yes (λ header. nat_lt 0 header) hs slot 0 there (sym is ∙ w.if-taken.true))
      | else-taken w ↦ w.taken-is ∙ c.loop-slot.invariant ∙ sym (count_by_more_no (λ header. nat_lt 0 header) hs slot 0 there (sym is ∙ w.if-taken.false))
    ]

pub returns : goal.returns
returns c =
    let all : length c.args.world.now.headers ≡ c.args.world.now.config.slots = c.slots-slot-end.ensures.kept.shaped.headers in
    let le : length c.args.world.now.headers ≤ c.loop-slot.slot = omega (arith, all, c.loop-slot-test.false, c.slots-slot-end.ensures.slots) in
    c.loop-slot.invariant ∙ ap (λ (l : List ℕ). count_by (λ header. nat_lt 0 header) l) (take_all c.loop-slot.slot c.args.world.now.headers le)

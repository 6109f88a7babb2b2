-- A slot without a number isn't listed, so there is room for it, and its number is the list's new length.
use Rattle.std.proofs.Common.{◌+◌, arith, length, ◌<◌, ◌≡◌, get_or, ap}
use Rattle.rec_world.proofs.Numbers.{fewer, holds_pushed, number_read, named_slot}
use Rattle.rec_world.proofs.numbering.Numbering.meet.Goals as goal

pub push_reserved-requires : goal.push_reserved-requires
push_reserved-requires c =
    let within : c.in-Some.slot < length c.self.inside.numbers.items = named_slot _ _ _ _ c.requires c.in-Some.is (ap (λ v. v.slots) c.self.view_is) in
    let zero : get_or c.self.inside.numbers.items c.in-Some.slot 0 ≡ 0 = number_read _ _ _ _ within c.from.ensures c.index.ensures c.if-index-eq0.true in
    let room : length c.self.inside.list.items < length c.self.inside.numbers.items = fewer _ _ _ c.in-Some.slot c.self.invariant within zero in
    omega arith

pub overflow_cast-len : goal.overflow_cast-len
overflow_cast-len c =
    let within : c.in-Some.slot < length c.self.inside.numbers.items = named_slot _ _ _ _ c.requires c.in-Some.is (ap (λ v. v.slots) c.self.view_is) in
    let zero : get_or c.self.inside.numbers.items c.in-Some.slot 0 ≡ 0 = number_read _ _ _ _ within c.from.ensures c.index.ensures c.if-index-eq0.true in
    let room : length c.self.inside.list.items < length c.self.inside.numbers.items = fewer _ _ _ c.in-Some.slot c.self.invariant within zero in
    omega arith

pub invariant_of-self : goal.invariant_of-self
invariant_of-self c =
    let within : c.in-Some.slot < length c.self.inside.numbers.items = named_slot _ _ _ _ c.requires c.in-Some.is (ap (λ v. v.slots) c.self.view_is) in
    let next : c.len.result ≡ length c.self.inside.list.items + 1 = omega arith in
    holds_pushed _ _ _ _ _ _ _ _ _ _ c.self.invariant within c.from.ensures c.index.ensures c.if-index-eq0.true c.push_reserved.ensures.items c.push_reserved.ensures.capacity c.from-then-index-eq0.ensures next

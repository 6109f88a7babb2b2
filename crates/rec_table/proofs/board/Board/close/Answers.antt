-- The contract of `Board::close`: takes the words and the mailboxes off the table.
use Rattle.std.proofs.Common.{◌≡◌, ◌≢◌, ◌≤◌, ◌<◌, ◌+◌, ◌++◌, ◌∷◌, [], ℕ, List, Bool, false, length, take, get_or, set, sym, ap, ◌∙◌, subst, arith, get_or-set_same, get_or-set_other, refl, min, length-take}
use mathlib.Core.Logic.{dite}
use native.Mathlib.Decide.{ℕ_discrete}
use Rattle.std.specs.Mem.Slots.{slots_items, slots_filled, slots_len}
use Rattle.rec_log.specs.declared.contents.Contents.{Contents as Buffer}
use Rattle.std.proofs.Common.{Option}
use Rattle.rec_table.specs.Ends.{IsRunOf}
use Rattle.rec_table.proofs.Ends.{ended, take_one, take_whole}
use Rattle.rec_table.proofs.board.Board.close.Goals as goal

pub loop-i-preserved : goal.loop-i-preserved
loop-i-preserved c =
    let ws : List ℕ = slots_items c.close_with-closed.result.words in
    record {
      items = c.push_reserved.ensures.items ∙ (ap (λ (l : List ℕ). l ++ c.word.result ∷ []) c.loop-i.invariant.items ∙ sym (take_one ws c.loop-i.i c.word.result c.word.ensures));
      room = omega (arith, c.push_reserved.ensures.capacity, c.loop-i.invariant.room);
    }

pub loop-k-preserved : goal.loop-k-preserved
loop-k-preserved c =
    let i = c.loop-k.invariant in
    let k : ℕ = c.loop-k.k in
    let was = c.loop-k.closed.slots in
    let o = c.take.ensures.others in
    let p = c.push_reserved-in-loop-k.ensures in
    let fs : List Bool = slots_filled was in
    let here : k < length fs = omega (arith, i.long, was.ok.1) in
    record {
      items = p.items ∙ (ap (λ (l : List (Option Buffer)). l ++ c.take.result ∷ []) i.items ∙ (sym (take_one (slots_items was) k c.take.result c.take.ensures.value) ∙ ap (λ (l : List (Option Buffer)). take (k + 1) l) (sym o.0)));
      same = o.0 ∙ i.same;
      words = o.3 ∙ i.words;
      long = o.2 ∙ i.long;
      room = omega (arith, i.room, p.capacity);
      full = λ j le lt.
          let ne : j ≢ k = λ e. omega (arith, e) in
          let low : j < slots_len was = omega (arith, o.2) in
          ap (λ (l : List Bool). get_or l j false) o.1 ∙ (get_or-set_other fs k j false false ne ∙ i.full j (omega arith) low);
      none = λ j lt. ap (λ (l : List Bool). get_or l j false) o.1 ∙ dite (ℕ_discrete j k)
          (λ (e : j ≡ k). ap (λ (n : ℕ). get_or (set fs k false) n false) e ∙ get_or-set_same fs k false false here)
          (λ (ne : j ≢ k). get_or-set_other fs k j false false ne ∙ i.none j (omega arith));
    }

pub returns-clause-run : goal.returns-clause-run
returns-clause-run c =
    let key = c.args.self.table.shared.key.value in
    let closed = c.close_with-closed.result in
    let seat = c.stood-machine.result.1 in
    let ws : List ℕ = slots_items closed.words in
    let xs : List (Option Buffer) = slots_items closed.slots in
    let counts = c.close_with-closed.ensures.counts in
    let i = c.loop-k.invariant in
    let run = ended key seat.id seat.me.0 c.args.collector.collecting ws xs c.stood-machine.ensures.seat.1 c.requires.seats.0 c.requires.seats.1 c.close_with-closed.ensures.values.2 in
    let le : length ws ≤ c.loop-i.i = omega (arith, closed.words.ok.0, counts.0, c.word_count-count.ensures) in
    let words : c.loop-i.words.items ≡ ws = c.loop-i.invariant.items ∙ take_whole ws c.loop-i.i le in
    let le' : length (slots_items c.loop-k.closed.slots) ≤ c.loop-k.k = omega (arith, c.loop-k.closed.slots.ok.0, i.long) in
    let boxes : c.loop-k.boxes.items ≡ xs = i.items ∙ (take_whole (slots_items c.loop-k.closed.slots) c.loop-k.k le' ∙ i.same) in
    subst (λ (y : List ℕ × List (Option Buffer)). IsRunOf key c.args.collector.collecting y.0 y.1) (λ j. (sym words j, sym boxes j)) run

pub close_with-closed-requires : goal.close_with-closed-requires
close_with-closed-requires c = c.stood-machine.ensures.seat.0 ∙ c.requires.own.0

pub loop-i-init : goal.loop-i-init
loop-i-init c = record { items = c.requires.room.0; room = omega (arith, c.word_count-count.ensures, c.requires.room.1) }

pub word-requires : goal.word-requires
word-requires c = (omega (arith, c.loop-i-test.true, c.word_count-count.ensures, c.close_with-closed.ensures.counts.0), c.close_with-closed.ensures.values.0)

pub push_reserved-requires : goal.push_reserved-requires
push_reserved-requires c =
    let ws : List ℕ = slots_items c.close_with-closed.result.words in
    let long : length c.loop-i.words.items ≡ min c.loop-i.i (length ws) = ap length c.loop-i.invariant.items ∙ length-take c.loop-i.i ws in
    omega (arith, long, c.loop-i.words.ok.0, c.loop-i.invariant.room, c.loop-i-test.true)

pub loop-k-init : goal.loop-k-init
loop-k-init c = record {
  items = c.requires.room_boxes.0;
  same = refl;
  words = refl;
  long = c.close_with-closed.ensures.counts.1 ∙ sym c.slot_count-slots.ensures;
  room = omega (arith, c.slot_count-slots.ensures, c.requires.room_boxes.1);
  full = c.close_with-closed.ensures.values.1;
  none = λ j lt. absurd (omega (arith, lt));
}

pub take-requires : goal.take-requires
take-requires c =
    let i = c.loop-k.invariant in
    let low : c.loop-k.k < slots_len c.loop-k.closed.slots = omega (arith, c.loop-k-test.true, i.long) in
    (low, i.full c.loop-k.k (omega arith) low)

pub push_reserved-requires-in-loop-k : goal.push_reserved-requires-in-loop-k
push_reserved-requires-in-loop-k c =
    let xs : List (Option Buffer) = slots_items c.loop-k.closed.slots in
    let long : length c.loop-k.boxes.items ≡ min c.loop-k.k (length xs) = ap length c.loop-k.invariant.items ∙ length-take c.loop-k.k xs in
    omega (arith, long, c.loop-k.boxes.ok.0, c.loop-k.invariant.room, c.loop-k-test.true)

pub free-requires : goal.free-requires
free-requires c = λ k lt. c.loop-k.invariant.none k (omega (arith, lt, c.loop-k-test.false, c.loop-k.invariant.long))

pub returns-clause-machine : goal.returns-clause-machine
returns-clause-machine c = c.stood-machine.ensures.machine

-- The contract of `part`: the part of `members` from one of these places up to the next, or to the end.
use Rattle.std.proofs.Common.{◌≡◌, ℕ, ◌+◌, ◌-◌, ◌<◌, ◌≤◌, List, [], length, take, drop, get_or, sym, ◌∙◌, add-one}
use Rattle.std.proofs.lemmas.List.{get_or_default}
use Rattle.rec_counts.specs.Groups.{parts_at, IsRising}
use Rattle.rec_counts.proofs.Parts.{rising_at, parts-at}
use Rattle.rec_counts.proofs.cycle_buffer.part.Goals as goal

bounds : (starts : List ℕ) (n i a b : ℕ) → IsRising starts n → a ≡ get_or starts i n → b ≡ get_or starts (i + 1) n → (a ≤ b) × (b ≤ n)
bounds starts n i a b h e f = rw (e, f, add-one) (rising_at starts n i h)

pub between-requires : goal.between-requires
between-requires c =
    let b : (get_or c.args.starts.now c.args.number 0 ≤ c.place_at-end.result) × (c.place_at-end.result ≤ length c.args.members.now) = bounds c.args.starts.now (length c.args.members.now) c.args.number _ _ c.requires.rising (get_or_default c.args.starts.now c.args.number 0 (length c.args.members.now) c.requires.in_range) c.place_at-end.ensures in
    record { rising = b.0; in_range = b.1 }

the_part : (starts members : List ℕ) (i a b : ℕ) → i < length starts → a ≡ get_or starts i (length members) → b ≡ get_or starts (i + 1) (length members) → take (b - a) (drop a members) ≡ get_or (parts_at starts members) i []
the_part starts members i a b l e f = rw (e, f, add-one) (sym (parts-at starts members i l))

pub returns : goal.returns
returns c = c.between.ensures ∙ the_part c.args.starts.now c.args.members.now c.args.number _ _ c.requires.in_range (get_or_default c.args.starts.now c.args.number 0 (length c.args.members.now) c.requires.in_range) c.place_at-end.ensures

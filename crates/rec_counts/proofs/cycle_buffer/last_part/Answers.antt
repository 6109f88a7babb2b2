-- The contract of `last_part`: the last of the parts of `members` that begin at these places.
use Rattle.std.proofs.Common.{◌≡◌, ℕ, suc, ◌-◌, ◌<◌, ◌≤◌, List, [], length, take, drop, get_or, sym, ap, ◌∙◌, arith}
use Rattle.std.proofs.lemmas.List.{get_or_past}
use Rattle.rec_counts.specs.Groups.{last_set, parts_at, IsRising}
use Rattle.rec_counts.proofs.Parts.{length-parts, parts-at, rising_at}
use Rattle.rec_counts.proofs.cycle_buffer.last_part.Goals as goal

begins_within : (starts : List ℕ) (n i a : ℕ) → IsRising starts n → a ≡ get_or starts i n → a ≤ n
begins_within starts n i a h e = omega (arith, e, (rising_at starts n i h).0, (rising_at starts n i h).1)

pub between-requires : goal.between-requires
between-requires c = record { rising = begins_within c.args.starts.now (length c.args.members.now) _ _ c.requires c.place_at-start.ensures; in_range = omega arith }

the_last : (starts members : List ℕ) (a : ℕ) → 0 < length starts → a ≡ get_or starts (length starts - 1) (length members) → take (length members - a) (drop a members) ≡ last_set (parts_at starts members)
the_last starts members a some e =
    let i : ℕ = length starts - 1 in
    let end : length members ≡ get_or starts (suc i) (length members) = sym (get_or_past starts (suc i) (length members) (omega arith)) in
    ap (λ (k : ℕ). take (length members - k) (drop k members)) e
    ∙ ap (λ (k : ℕ). take (k - get_or starts i (length members)) (drop (get_or starts i (length members)) members)) end
    ∙ sym (parts-at starts members i (omega (arith, some)))
    ∙ ap (λ (k : ℕ). get_or (parts_at starts members) (k - 1) []) (sym (length-parts starts members))

pub returns : goal.returns
returns c = c.between.ensures ∙ the_last c.args.starts.now c.args.members.now c.place_at-start.result (omega arith) c.place_at-start.ensures

-- What a batch adds and takes, read off the collector's buffers, is what the accounts say that it adds and takes.
use Rattle.std.proofs.Common.{◌≡◌, ◌≢◌, inl, inr, ℕ, ◌+◌, ◌-◌, ◌<◌, ◌==◌, List, [], ◌∷◌, suc, Option, None, Some, length, map, slice_index_or, refl, sym, ap, subst, ◌∙◌, arith, true, false, ◌≤◌}
use Rattle.std.specs.List.{All, sum_by}
use Rattle.std.proofs.lemmas.Bool.{cases_eq, eq-eqb, ne_eqb}
use Rattle.std.proofs.lemmas.List.Elements.{All-head, All-tail}
use Rattle.std.proofs.lemmas.List.Sums.{sum_by-cons}
use Rattle.rec_core.proofs.Common.{target_of, is_slot, puts_in, replaces_in, node_of, epoch_of, dated, is_at, dated_birth, only_if, one_if_same, one_if_self, none_if_differs, only_if_self, none_if_other, only_if_le, Contents, Entry, one, new_target, old_target, named, leaf_born, IsMutator, IsMadeIn, IsBufferOf, code, writes_in, births_in, dated_names, Config, is_leaf_from}
use Rattle.rec_log.specs.declared.entry.Entry.TheVariants as entries
use Rattle.rec_counts.proofs.Naming.{named-nil, named-cons}
use Rattle.rec_collector.specs.Private as collectors
use Rattle.rec_core.proofs.Moves.{code_target}

-- what is known of each mutator's buffer is known at each place of their row
pub buffer_there : (config : Config) (epoch : ℕ) (row : List Contents) → length row ≡ config.mutators → ((t : ℕ) → IsMutator config t → IsBufferOf true config epoch (collectors.buffer_at row (t - 1))) → (i : ℕ) → i < length row → IsBufferOf true config epoch (slice_index_or row i (collectors.blank 0 0))
buffer_there config epoch row many each i below =
    let at : i + 1 - 1 ≡ i = omega arith in
    subst (λ n. IsBufferOf true config epoch (slice_index_or row n (collectors.blank 0 0))) at (each (i + 1) (omega arith, omega (arith, many)))

-- one name of a slot is one of its node
pub same_name : (x : ℕ) (target : Option ℕ) → one_if_same (x + 1) (code target) ≡ one (is_slot x target)
same_name x None = none_if_differs (x + 1) 0 (λ e. omega arith)
same_name x (Some y) = elim (cases_eq x y) [
  | inl is ↦ ap (λ n. one_if_same (x + 1) (n + 1)) (sym is) ∙ one_if_self (x + 1) ∙ sym (ap one (eq-eqb x y is))
  | inr other ↦ none_if_differs (x + 1) (y + 1) (λ e. other (omega arith)) ∙ sym (ap one (ne_eqb x y other))
]

-- so of a word
pub same_word : (x word : ℕ) → one_if_same (x + 1) (node_of word) ≡ one (is_slot x (target_of word))
same_word x word = ap (one_if_same (x + 1)) (sym (code_target word)) ∙ same_name x (target_of word)

-- the new targets of a log of this epoch
pub puts_named : (epoch x : ℕ) (es : List Entry) → All (IsMadeIn epoch) es → sum_by (puts_in epoch (x + 1)) (writes_in es) ≡ named x (map new_target es)
puts_named epoch x [] made = sym (named-nil x)
puts_named epoch x (entries.Put place new old ∷ es) made =
    let at : epoch_of new ≡ epoch = All-head (IsMadeIn epoch) (entries.Put place new old) es made in
    let first : puts_in epoch (x + 1) (record { place = place; new = new; old = old }) ≡ one (is_slot x (target_of new))
    = ap (λ n. only_if (epoch == n) (one_if_same (x + 1) (node_of new))) at ∙ only_if_self epoch (one_if_same (x + 1) (node_of new)) ∙ same_word x new in
    omega (arith, sum_by-cons (puts_in epoch (x + 1)) (record { place = place; new = new; old = old }) (writes_in es), named-cons x (target_of new) (map new_target es), first, puts_named epoch x es (All-tail (IsMadeIn epoch) (entries.Put place new old) es made))
puts_named epoch x (entries.Born slot leaf ∷ es) made =
    omega (arith, named-cons x None (map new_target es), puts_named epoch x es (All-tail (IsMadeIn epoch) (entries.Born slot leaf) es made))

-- none of another epoch
puts_none : (epoch other node : ℕ) (es : List Entry) → epoch ≢ other → All (IsMadeIn other) es → sum_by (puts_in epoch node) (writes_in es) ≡ 0
puts_none epoch other node [] apart made = refl
puts_none epoch other node (entries.Put place new old ∷ es) apart made =
    let at : epoch_of new ≡ other = All-head (IsMadeIn other) (entries.Put place new old) es made in
    let first : puts_in epoch node (record { place = place; new = new; old = old }) ≡ 0
    = ap (λ n. only_if (epoch == n) (one_if_same node (node_of new))) at ∙ none_if_other epoch other (one_if_same node (node_of new)) apart in
    omega (arith, sum_by-cons (puts_in epoch node) (record { place = place; new = new; old = old }) (writes_in es), first, puts_none epoch other node es apart (All-tail (IsMadeIn other) (entries.Put place new old) es made))
puts_none epoch other node (entries.Born slot leaf ∷ es) apart made = puts_none epoch other node es apart (All-tail (IsMadeIn other) (entries.Born slot leaf) es made)

-- the replaced targets and the births of a log of this epoch
olds_named : (epoch x : ℕ) (es : List Entry) → All (IsMadeIn epoch) es → sum_by (replaces_in epoch (x + 1)) (writes_in es) + sum_by (is_at epoch (x + 1)) (births_in epoch es) ≡ named x (map old_target es)
olds_named epoch x [] made = sym (named-nil x)
olds_named epoch x (entries.Put place new old ∷ es) made =
    let at : epoch_of new ≡ epoch = All-head (IsMadeIn epoch) (entries.Put place new old) es made in
    let first : replaces_in epoch (x + 1) (record { place = place; new = new; old = old }) ≡ one (is_slot x (target_of old))
    = ap (λ n. only_if (epoch == n) (one_if_same (x + 1) (node_of old))) at ∙ only_if_self epoch (one_if_same (x + 1) (node_of old)) ∙ same_word x old in
    omega (arith, sum_by-cons (replaces_in epoch (x + 1)) (record { place = place; new = new; old = old }) (writes_in es), named-cons x (target_of old) (map old_target es), first, olds_named epoch x es (All-tail (IsMadeIn epoch) (entries.Put place new old) es made))
olds_named epoch x (entries.Born slot leaf ∷ es) made =
    let first : is_at epoch (x + 1) (dated epoch (slot + 1)) ≡ one (is_slot x (Some slot)) = only_if_self epoch (one_if_same (x + 1) (slot + 1)) ∙ same_name x (Some slot) in
    omega (arith, sum_by-cons (is_at epoch (x + 1)) (dated_birth epoch (slot + 1) leaf) (births_in epoch es), named-cons x (Some slot) (map old_target es), first, olds_named epoch x es (All-tail (IsMadeIn epoch) (entries.Born slot leaf) es made))

olds_none : (epoch other node : ℕ) (es : List Entry) → epoch ≢ other → All (IsMadeIn other) es → sum_by (replaces_in epoch node) (writes_in es) + sum_by (is_at epoch node) (births_in other es) ≡ 0
olds_none epoch other node [] apart made = refl
olds_none epoch other node (entries.Put place new old ∷ es) apart made =
    let at : epoch_of new ≡ other = All-head (IsMadeIn other) (entries.Put place new old) es made in
    let first : replaces_in epoch node (record { place = place; new = new; old = old }) ≡ 0
    = ap (λ n. only_if (epoch == n) (one_if_same node (node_of old))) at ∙ none_if_other epoch other (one_if_same node (node_of old)) apart in
    omega (arith, sum_by-cons (replaces_in epoch node) (record { place = place; new = new; old = old }) (writes_in es), first, olds_none epoch other node es apart (All-tail (IsMadeIn other) (entries.Put place new old) es made))
olds_none epoch other node (entries.Born slot leaf ∷ es) apart made =
    let first : is_at epoch node (dated other (slot + 1)) ≡ 0 = none_if_other epoch other (one_if_same node (slot + 1)) apart in
    omega (arith, sum_by-cons (is_at epoch node) (dated_birth other (slot + 1) leaf) (births_in other es), first, olds_none epoch other node es apart (All-tail (IsMadeIn other) (entries.Born slot leaf) es made))

-- the leaves that a log bears, of this epoch or a later one
pub leaves_named : (since epoch x : ℕ) (es : List Entry) → since ≤ epoch → sum_by (is_leaf_from since (x + 1)) (births_in epoch es) ≡ named x (map leaf_born es)
leaves_named since epoch x [] from = sym (named-nil x)
leaves_named since epoch x (entries.Put place new old ∷ es) from = omega (arith, named-cons x None (map leaf_born es), leaves_named since epoch x es from)
leaves_named since epoch x (entries.Born slot true ∷ es) from =
    let first : is_leaf_from since (x + 1) (dated_birth epoch (slot + 1) true) ≡ one (is_slot x (Some slot)) = only_if_le since epoch (one_if_same (x + 1) (slot + 1)) from ∙ same_name x (Some slot) in
    omega (arith, sum_by-cons (is_leaf_from since (x + 1)) (dated_birth epoch (slot + 1) true) (births_in epoch es), named-cons x (Some slot) (map leaf_born es), first, leaves_named since epoch x es from)
leaves_named since epoch x (entries.Born slot false ∷ es) from =
    omega (arith, sum_by-cons (is_leaf_from since (x + 1)) (dated_birth epoch (slot + 1) false) (births_in epoch es), named-cons x None (map leaf_born es), leaves_named since epoch x es from)

-- what a snapshot names
snapshot_named : (epoch x : ℕ) (xs : List (Option ℕ)) → sum_by (is_at epoch (x + 1)) (dated_names epoch xs) ≡ named x xs
snapshot_named epoch x [] = sym (named-nil x)
snapshot_named epoch x (None ∷ xs) = omega (arith, named-cons x None xs, snapshot_named epoch x xs)
snapshot_named epoch x (Some y ∷ xs) =
    let first : is_at epoch (x + 1) (dated epoch (y + 1)) ≡ one (is_slot x (Some y)) = only_if_self epoch (one_if_same (x + 1) (y + 1)) ∙ same_name x (Some y) in
    omega (arith, sum_by-cons (is_at epoch (x + 1)) (dated epoch (y + 1)) (dated_names epoch xs), named-cons x (Some y) xs, first, snapshot_named epoch x xs)

snapshot_none : (epoch other node : ℕ) (xs : List (Option ℕ)) → epoch ≢ other → sum_by (is_at epoch node) (dated_names other xs) ≡ 0
snapshot_none epoch other node [] apart = refl
snapshot_none epoch other node (None ∷ xs) apart = snapshot_none epoch other node xs apart
snapshot_none epoch other node (Some y ∷ xs) apart =
    omega (arith, sum_by-cons (is_at epoch node) (dated other (y + 1)) (dated_names other xs), none_if_other epoch other (one_if_same node (y + 1)) apart, snapshot_none epoch other node xs apart)

-- what a buffer adds to a batch of an epoch, by the accounts
abbrev pub gain : (epoch node : ℕ) → (of : ℕ) → Contents → ℕ
gain epoch node of b = sum_by (puts_in epoch node) (writes_in b.entries) + sum_by (is_at epoch node) (dated_names of b.snapshot)

-- what it takes
abbrev pub loss : (epoch node : ℕ) → (of : ℕ) → Contents → ℕ
loss epoch node of b = sum_by (replaces_in epoch node) (writes_in b.entries) + sum_by (is_at epoch node) (births_in of b.entries) + sum_by (is_at epoch node) (dated_names of b.snapshot)

-- a buffer of the batch's epoch adds what it names newly
pub gain_named : (config : Config) (epoch x : ℕ) (b : Contents) → IsBufferOf true config epoch b → gain epoch (x + 1) epoch b ≡ named x (map new_target b.entries) + named x b.snapshot
gain_named config epoch x b is = omega (arith, puts_named epoch x b.entries is.made, snapshot_named epoch x b.snapshot)

-- one of another epoch adds nothing
pub gain_none : (config : Config) (epoch other node : ℕ) (b : Contents) → epoch ≢ other → IsBufferOf true config other b → gain epoch node other b ≡ 0
gain_none config epoch other node b apart is = omega (arith, puts_none epoch other node b.entries apart is.made, snapshot_none epoch other node b.snapshot apart)

-- and so of what is taken
pub loss_named : (config : Config) (epoch x : ℕ) (b : Contents) → IsBufferOf true config epoch b → loss epoch (x + 1) epoch b ≡ named x (map old_target b.entries) + named x b.snapshot
loss_named config epoch x b is = omega (arith, olds_named epoch x b.entries is.made, snapshot_named epoch x b.snapshot)

pub loss_none : (config : Config) (epoch other node : ℕ) (b : Contents) → epoch ≢ other → IsBufferOf true config other b → loss epoch node other b ≡ 0
loss_none config epoch other node b apart is = omega (arith, olds_none epoch other node b.entries apart is.made, snapshot_none epoch other node b.snapshot apart)

-- sums over rows that agree item by item
pub same_at : {X : Type 0} (f g : X → ℕ) (xs : List X) (d : X) → ((i : ℕ) → i < length xs → f (slice_index_or xs i d) ≡ g (slice_index_or xs i d)) → sum_by f xs ≡ sum_by g xs
same_at f g [] d same = refl
same_at f g (x ∷ xs) d same =
    let first : f x ≡ g x = same 0 (omega arith) in
    let rest : sum_by f xs ≡ sum_by g xs = same_at f g xs d (λ i below. same (suc i) (omega arith)) in
    omega (arith, sum_by-cons f x xs, sum_by-cons g x xs)

pub none_of : {X : Type 0} (f : X → ℕ) (xs : List X) (d : X) → ((i : ℕ) → i < length xs → f (slice_index_or xs i d) ≡ 0) → sum_by f xs ≡ 0
none_of f [] d none = refl
none_of f (x ∷ xs) d none =
    let first : f x ≡ 0 = none 0 (omega arith) in
    let rest : sum_by f xs ≡ 0 = none_of f xs d (λ i below. none (suc i) (omega arith)) in
    omega (arith, sum_by-cons f x xs)

-- a sum of parts is the parts' sums
pub sum_parts : {X : Type 0} (f g : X → ℕ) (xs : List X) → sum_by (λ x. f x + g x) xs ≡ sum_by f xs + sum_by g xs
sum_parts f g [] = refl
sum_parts f g (x ∷ xs) = omega (arith, sum_by-cons (λ y. f y + g y) x xs, sum_by-cons f x xs, sum_by-cons g x xs, sum_parts f g xs)

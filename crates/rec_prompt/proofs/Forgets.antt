-- What a heap has forgotten of the slots that were lost in an earlier state of it and aren't freed yet.
use Rattle.std.proofs.Common.{◌≡◌, ◌⊎◌, inl, inr, ℕ, ◌+◌, ◌/◌, ◌<◌, ◌≤◌, List, [], Option, None, Some, length, replicate, slice_index_or, slice_set, refl, sym, ap, ◌∙◌, arith}
use Rattle.std.specs.List.{sum_by}
use Rattle.std.proofs.lemmas.Bool.{cases_eq, cases_lt}
use Rattle.std.proofs.lemmas.List.{length-set, get_or-set_same, get_or-set_other, get_or_past, get_or-replicate, length-replicate}
use Rattle.rec_core.proofs.Common.{target_of, is_node, one_if_same, node_of, Write, IsTaken, Contents, register, buffer_at, IsMutator, Core, box, mutator, sight, spare_of, writes_in, births_in, epoch_at, code}
use Rattle.rec_core.specs.declared.config.Config.{Config}
use Rattle.rec_core.proofs.Moves.{code_target}

-- an element of a list in which one was set is what it was, or the new one
pub set_or : {X : Type 0} (xs : List X) (i : ℕ) (x : X) (k : ℕ) (d : X) → (slice_index_or (slice_set xs i x) k d ≡ slice_index_or xs k d) ⊎ (slice_index_or (slice_set xs i x) k d ≡ x)
set_or xs i x k d = elim (cases_eq k i) [
  | inr other ↦ inl (get_or-set_other xs i k x d other)
  | inl same ↦ elim (cases_lt i (length xs)) [
    | inl inside ↦ inr (ap (λ n. slice_index_or (slice_set xs i x) n d) same ∙ get_or-set_same xs i x d inside)
    | inr past ↦ inl (get_or_past (slice_set xs i x) k d (omega (arith, past, same, length-set xs i x)) ∙ sym (get_or_past xs k d (omega (arith, past, same))))
  ]
]

-- null registers name nothing
pub null_at : (n k : ℕ) → ◌≡◌ {A = Option ℕ} (slice_index_or (replicate n None) k None) None
null_at n k = elim (cases_lt k n) [
  | inl inside ↦ get_or-replicate n k None None inside
  | inr past ↦ let many : length (replicate {A = Option ℕ} n None) ≡ n = length-replicate n None in get_or_past (replicate n None) k None (omega (arith, past, many))
]

-- a word that names the node of a slot leads to it
pub node_leads : (word slot : ℕ) → node_of word ≡ slot + 1 → target_of word ≡ Some slot
node_leads word slot is = go (target_of word) refl
  where
    go : (t : Option ℕ) → target_of word ≡ t → t ≡ Some slot
    go None e = absurd (omega (arith, is, code_target word, ap code e))
    go (Some m) e = let same : m ≡ slot = omega (arith, is, code_target word, ap code e) in ap Some same

-- No write in the buffer put or replaced a word that leads to the slot, no birth in it is the slot's, and its snapshot doesn't name it.
pub record IsClean (slot : ℕ) (b : Contents) : Type 0 where
  pub put : sum_by (λ (e : Write). one_if_same (slot + 1) (node_of e.new)) (writes_in b.entries) ≡ 0
  pub replaced : sum_by (λ (e : Write). one_if_same (slot + 1) (node_of e.old)) (writes_in b.entries) ≡ 0
  pub births : (epoch : ℕ) → sum_by (is_node (slot + 1)) (births_in epoch b.entries) ≡ 0
  pub snapshot : (r : ℕ) → slice_index_or b.snapshot r None ≡ Some slot → ⊥

-- a buffer without entries, with a null snapshot, is clean
pub empty_clean : (slot n : ℕ) (b : Contents) → b.entries ≡ [] → b.snapshot ≡ replicate n None → IsClean slot b
empty_clean slot n b none null = record {
  put = ap (λ es. sum_by (λ (e : Write). one_if_same (slot + 1) (node_of e.new)) (writes_in es)) none;
  replaced = ap (λ es. sum_by (λ (e : Write). one_if_same (slot + 1) (node_of e.old)) (writes_in es)) none;
  births = λ epoch. ap (λ es. sum_by (is_node (slot + 1)) (births_in epoch es)) none;
  snapshot = λ r names. let not_so : None ≡ Some slot = sym (ap (λ (xs : List (Option ℕ)). slice_index_or xs r None) null ∙ null_at n r) ∙ names in cc;
}

pub spare_clean : (slot : ℕ) (config : Config) (b : Contents) → b ≡ spare_of config → IsClean slot b
spare_clean slot config b is = empty_clean slot config.registers b (ap (λ (x : Contents). x.entries) is) (ap (λ (x : Contents). x.snapshot) is)

-- the collections that are complete, with the epoch of the opening: the epoch of the newer buffers, in a collection
abbrev pub counted : Core → ℕ
counted v = v.config.first_epoch + v.collector.collections

-- Of the slots that were lost in the heap `first` and aren't freed, no register names one, and fields lead to one only from such ones, as
-- they did in `first`. And every buffer of this epoch or a later one is clean of them.
pub record Forgets (late : ℕ) (first : Core) (lost : ℕ → Type 0) (v : Core) : Type 0 where
  pub taken : (slot : ℕ) → lost slot → IsTaken (sight v) slot
  pub registers : (t r slot : ℕ) → IsMutator v.config t → register (mutator v t) r ≡ Some slot → lost slot → ⊥
  pub fields : (place slot : ℕ) → target_of (slice_index_or v.words place 0) ≡ Some slot → lost slot → lost (place / v.config.fields)
  pub still : (place slot : ℕ) → target_of (slice_index_or v.words place 0) ≡ Some slot → lost slot → target_of (slice_index_or first.words place 0) ≡ Some slot
  pub logs : (t slot : ℕ) → IsMutator v.config t → late ≤ epoch_at (mutator v t) → lost slot → IsClean slot (mutator v t).log
  pub boxes : (t slot : ℕ) → IsMutator v.config t → late + 1 ≤ epoch_at (mutator v t) → lost slot → IsClean slot (box v t)
  pub newer : (i slot : ℕ) → i < length v.collector.newer → late ≤ counted v → lost slot → IsClean slot (buffer_at v.collector.newer i)
  pub older : (i slot : ℕ) → i < length v.collector.older → late + 1 ≤ counted v → lost slot → IsClean slot (buffer_at v.collector.older i)

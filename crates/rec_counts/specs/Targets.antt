-- What a buffer names, and how often it names a slot.
use Rattle.std.specs.Prelude.{ℕ, ◌+◌, ◌==◌, Bool, true, false, if◌then◌else◌, Option, None, Some, List, [], ◌∷◌, ◌++◌, map, count_by, sum_by}
use Rattle.rec_word.specs.Word.{target_of, is_slot}
use Rattle.std.specs.List.{filter_map}
use Rattle.rec_log.specs.declared.contents.Contents.{Contents}
use Rattle.rec_log.specs.declared.entry.Entry.{Entry}
use Rattle.rec_log.specs.declared.entry.Entry.TheVariants.{Put, Born}

-- what an entry refers to from now on: a write its new target; a birth was counted when it happened
abbrev pub new_target : Entry → Option ℕ
new_target (Put place new old) = target_of new
new_target (Born slot leaf) = None

-- what an entry no longer refers to: a write the target that it replaced, a birth the slot itself
abbrev pub old_target : Entry → Option ℕ
old_target (Put place new old) = target_of old
old_target (Born slot leaf) = Some slot

-- the leaf that an entry bore, if it bore one
abbrev pub leaf_born : Entry → Option ℕ
leaf_born (Born slot true) = Some slot
leaf_born _ = None

-- what a buffer no longer refers to: what its entries replaced or bore, in order, and then its snapshot
abbrev pub taken_targets : Contents → List (Option ℕ)
taken_targets b = map old_target b.entries ++ b.snapshot

-- the slots among these targets
abbrev pub slots_in : List (Option ℕ) → List ℕ
slots_in targets = filter_map (λ target. target) targets

-- how often the slot stands among these targets
unfoldable pub named : ℕ → List (Option ℕ) → ℕ
named x targets = count_by (is_slot x) targets

-- how often the slot stands among the new targets and in the snapshots
abbrev pub added : ℕ → List Contents → ℕ
added x newer = sum_by (λ (b : Contents). named x (map new_target b.entries) + named x b.snapshot) newer

-- how often the slot stands among the replaced targets, the births and in the snapshots
abbrev pub taken : ℕ → List Contents → ℕ
taken x older = sum_by (λ (b : Contents). named x (map old_target b.entries) + named x b.snapshot) older

-- how often the slot stands among the births of leaves
abbrev pub leaves : ℕ → List Contents → ℕ
leaves x newer = sum_by (λ (b : Contents). named x (map leaf_born b.entries)) newer

-- how often the slot stands among the new targets alone, and in the snapshots alone
abbrev pub written : ℕ → List Contents → ℕ
written x newer = sum_by (λ (b : Contents). named x (map new_target b.entries)) newer

abbrev pub held : ℕ → List Contents → ℕ
held x newer = sum_by (λ (b : Contents). named x b.snapshot) newer

-- What is told of a register: what it names in one snapshot, where it names this in the other one. In a steady heap that is nothing where
-- both are the same.
abbrev pub told_of : (steady : Bool) → (own other : Option ℕ) → Option ℕ
told_of true (Some x) (Some y) = if x == y then None else Some x
told_of steady own other = own

-- what is told of the registers of a mutator, in a heap that isn't steady, and in one that is
abbrev pub told_steadily : (own other : List (Option ℕ)) → List (Option ℕ)
told_steadily [] others = []
told_steadily (x ∷ xs) [] = x ∷ xs
told_steadily (x ∷ xs) (y ∷ ys) = told_of true x y ∷ told_steadily xs ys

abbrev pub told_registers : (steady : Bool) → (own other : List (Option ℕ)) → List (Option ℕ)
told_registers false own other = own
told_registers true own other = told_steadily own other

-- what is told of a buffer beside the mutator's other one: its entries, and what is told of its registers
abbrev pub told_buffer : (steady : Bool) → (own other : Contents) → Contents
told_buffer steady own other = record own { snapshot = told_registers steady own.snapshot other.snapshot }

-- what is told of the buffers of one epoch beside those of the other one
abbrev pub told_each : (own other : List Contents) → List Contents
told_each [] others = []
told_each (b ∷ bs) [] = b ∷ bs
told_each (b ∷ bs) (c ∷ cs) = told_buffer true b c ∷ told_each bs cs

abbrev pub told_buffers : (steady : Bool) → (own other : List Contents) → List Contents
told_buffers false own other = own
told_buffers true own other = told_each own other

-- Each operation that a heap with its collector carries out names one of its words, and finds what its machine may find.
use Rattle.std.proofs.Common.{◌≡◌, ℕ, ◌<◌, ◌≤◌, true, false, Bool, if◌then◌else◌, Option, None, Some, IfSome, [], length, replicate, refl, sym, ap, subst, ◌∙◌, arith}
use Rattle.std.proofs.lemmas.List.{length-replicate}
use Rattle.rec_core.proofs.Common.{Op, Contents, own_word, read_op, write_op, label_op, first_op, begun_op, next_of, next_at, Private, register, is_busy, is_full, NamesSlots, NamesWord, took_of, took_at, retiring, IsSwapping, TakesNone, learnt_made, step_between, IsWithin, IsMutator, Core, cells_of, mutator, box, spare_of, IsKept, found_by, cell}
use Rattle.rec_word.specs.declared.op.Op.TheVariants as ops
use Rattle.rec_model.specs.declared.command.Cmd.{Cmd}
use Rattle.rec_model.specs.declared.command.Cmd.TheVariants as commands
use Rattle.rec_mutator.specs.Took.{letting_go, spare, IsBetween}
use Rattle.rec_mutator.specs.declared.phase.Phase as phases
use Rattle.rec_mutator.specs.declared.phase.Phase.TheVariants as at
use Rattle.rec_mutator.specs.declared.work.Work.{Work}
use Rattle.rec_mutator.specs.declared.work.Work.TheVariants as works
use Rattle.rec_mutator.proofs.Words.{names_word}
use Rattle.rec_collector.specs.Given.{IsGiven}
use Rattle.rec_collector.specs.Next as collector_next
use Rattle.rec_collector.specs.Step as collector_step
use Rattle.rec_collector.proofs.Always as collector_words
use Rattle.rec_core.specs.Preconditions.{MayStep, MayTurn}
use Rattle.rec_core.proofs.Crossings.{behind_of, next_found}
use Rattle.rec_core.proofs.Leaving.{leaving_of}
use Rattle.rec_core.proofs.Runs.{sized_is}
use Rattle.rec_core.proofs.Turning.{turn_case}
use Rattle.rec_core.proofs.Steps.{actor_of, fields_many, register_taken, taken_slot}

-- An operation of this mutator: if of a crossing word, of its own; and none of the collector's.
abbrev pub IsOwnOp : Private → Op → Type 0
IsOwnOp p (ops.LoadCross n) = n ≡ p.number
IsOwnOp p (ops.TakeBox n e) = n ≡ p.number
IsOwnOp p (ops.GiveBox n e) = n ≡ p.number
IsOwnOp p (ops.ShiftBox n shift) = n ≡ p.number
IsOwnOp p (ops.LoadChild place) = ⊥
IsOwnOp p (ops.ClearField place) = ⊥
IsOwnOp p (ops.FreeHeader slot) = ⊥
IsOwnOp p (ops.StoreEpoch e) = ⊥
IsOwnOp p (ops.LookBox n e) = ⊥
IsOwnOp p (ops.ReturnBox n e) = ⊥
IsOwnOp p ops.AddFreed = ⊥
IsOwnOp p _ = Unit {0}

-- what comes next is one
pub own_next : (p : Private) → IsOwnOp p (next_of p)
unfolding next_of next_at
own_next p = by p.phase
  where
    read : (f : ℕ) (x : Option ℕ) → IsOwnOp p (read_op p f x)
    read f None = refl
    read f (Some slot) = tt

    wrote : (x : Option ℕ) (full : Bool) → IsOwnOp p (write_op p x full)
    wrote None full = refl
    wrote (Some slot) true = refl
    wrote (Some slot) false = tt

    labelled : (x : Option ℕ) → IsOwnOp p (label_op p x)
    labelled None = refl
    labelled (Some slot) = tt

    born : (full : Bool) → IsOwnOp p (if full then own_word p else ops.LoadFreed)
    born true = refl
    born false = tt

    first : (cmd : Cmd) → IsOwnOp p (first_op p cmd)
    first (commands.New reg label) = born (is_full p)
    first (commands.Leaf reg label) = born (is_full p)
    first (commands.Get dst src f) = read f (register p src)
    first (commands.Put src f val) = wrote (register p src) (is_full p)
    first (commands.Value reg) = labelled (register p reg)
    first _ = refl

    worked : (work : Work) → IsOwnOp p (begun_op p work)
    worked (works.Command cmd) = first cmd
    worked works.Poll = tt

    by : (phase : phases.Phase) → IsOwnOp p (next_at p phase)
    by (at.Begun work) = worked work
    by (at.Scanning reg label leaf before probed) = tt
    by (at.Scanned reg label leaf before) = tt
    by (at.Storing src f val slot) = tt
    by _ = refl

-- the own crossing word
crossing_within : {dated : Bool} → (w : Core) (t n : ℕ) → IsKept dated w → IsMutator w.config t → n ≡ t → (1 ≤ n) × (n ≤ length w.crossing)
crossing_within w t n kept is own = let all : length w.crossing ≡ w.config.mutators = kept.mutators.words in (omega (arith, is.0, own), omega (arith, is.1, own))

-- what a mutator names is there
own_within : {dated : Bool} → (w : Core) (t : ℕ) (op : Op) → IsKept dated w → IsMutator w.config t → IsOwnOp (mutator w t) op → NamesWord (mutator w t).slots (mutator w t).fields op → IsWithin (cells_of w) op
own_within w t (ops.LoadField place) kept is own names = let o = (actor_of w t kept is).own in subst (λ n. place < n) (fields_many w (mutator w t).slots (mutator w t).fields kept o.slots o.fields) names
own_within w t (ops.SwapField place word) kept is own names = let o = (actor_of w t kept is).own in subst (λ n. place < n) (fields_many w (mutator w t).slots (mutator w t).fields kept o.slots o.fields) names
own_within w t (ops.LoadHeader slot) kept is own names = subst (λ n. slot < n) ((actor_of w t kept is).own.slots ∙ sym kept.headers) names
own_within w t (ops.ClaimHeader slot header) kept is own names = (subst (λ n. slot < n) ((actor_of w t kept is).own.slots ∙ sym kept.headers) names.0, names.1)
own_within w t (ops.LoadCross n) kept is own names = crossing_within w t n kept is (own ∙ (actor_of w t kept is).own.number)
own_within w t (ops.TakeBox n e) kept is own names = crossing_within w t n kept is (own ∙ (actor_of w t kept is).own.number)
own_within w t (ops.GiveBox n e) kept is own names = crossing_within w t n kept is (own ∙ (actor_of w t kept is).own.number)
own_within w t (ops.ShiftBox n shift) kept is own names = crossing_within w t n kept is (own ∙ (actor_of w t kept is).own.number)
own_within w t ops.LoadEpoch kept is own names = tt
own_within w t ops.LoadFreed kept is own names = tt
own_within w t _ kept is own names = absurd own

-- registers name slots of the heap
pub names_slots : {dated : Bool} → (w : Core) (t : ℕ) → IsKept dated w → IsMutator w.config t → NamesSlots (mutator w t)
names_slots w t kept is = λ r slot names. subst (λ n. slot < n) (sym (actor_of w t kept is).own.slots) (taken_slot w kept slot (register_taken w kept t r slot names))

-- a mailbox that waits to be swapped isn't one that doesn't
not_both : (phase : phases.Phase) → IsBetween phase → IsSwapping phase → ⊥
not_both at.Swapping between swaps = between
not_both at.Retiring between swaps = between
not_both _ between swaps = swaps

-- a spare of this heap is one of each of its mutators
spare_own : {dated : Bool} → (w : Core) (t : ℕ) → IsKept dated w → IsMutator w.config t → spare_of w.config ≡ spare (retiring (mutator w t))
spare_own w t kept is =
    let own = (actor_of w t kept is).own in
    let make : ℕ → ℕ → Contents = λ n capacity. record { entries = []; snapshot = replicate n None; capacity = capacity; last = false; still = false } in
    ap (λ n. make n w.config.log_entries) (sym own.registers) ∙ ap (make (length (mutator w t).registers)) (sym own.capacity)

-- what a mutator learns as it takes its mailbox
learns_taken : (p : Private) (word : ℕ) → p.phase ≡ at.Crossing → took_of p word ≡ retiring p
unfolding took_of took_at
learns_taken p word is = ap (took_at p word) is

-- and as it takes it to leave
learns_leaving : (p : Private) (word : ℕ) → p.phase ≡ at.Leaving → took_of p word ≡ letting_go p
unfolding took_of took_at
learns_leaving p word is = ap (took_at p word) is

-- the spare of one that leaves is the same
nulled : (p : Private) → spare (retiring p) ≡ spare (letting_go p)
nulled p =
    let make : ℕ → Contents = λ n. record { entries = []; snapshot = replicate n None; capacity = p.log.capacity; last = false; still = false } in
    ap make (sym (length-replicate (length p.registers) None))

-- A mutator may make its next step.
pub may_step : {dated : Bool} → (w : Core) (t : ℕ) → IsKept dated w → IsMutator w.config t → is_busy (mutator w t) ≡ true → MayStep w t
may_step w t kept is busy =
    let p : Private = mutator w t in
    let own = (actor_of w t kept is).own in
    record {
      within = own_within w t (next_of p) kept is (own_next p) (names_word p own.machine (names_slots w t kept is));
      found = next_found w t kept is busy;
      between = own.between;
      spare = spared p.phase refl own.between;
    }
  where
    none : TakesNone (mutator w t).phase → IsSwapping (took_of (mutator w t) (found_by w t)).phase → box w t ≡ spare (took_of (mutator w t) (found_by w t))
    none takes swaps = absurd (not_both (took_of (mutator w t) (found_by w t)).phase (step_between (learnt_made (mutator w t) (found_by w t) (box w t) busy takes)) swaps)

    spared : (phase : phases.Phase) → (mutator w t).phase ≡ phase → IsBetween phase → IsSwapping (took_of (mutator w t) (found_by w t)).phase → box w t ≡ spare (took_of (mutator w t) (found_by w t))
    spared at.Crossing here between = λ swaps. (behind_of w t kept is here).1.spare ∙ spare_own w t kept is ∙ ap spare (sym (learns_taken (mutator w t) (found_by w t) here))
    spared at.Swapping here between = absurd between
    spared at.Leaving here between = λ swaps. (leaving_of w t kept is here).0 ∙ spare_own w t kept is ∙ nulled (mutator w t) ∙ ap spare (sym (learns_leaving (mutator w t) (found_by w t) here))
    spared at.Retiring here between = absurd between
    spared (at.Passing passage) here between = absurd between
    spared _ here between = none (subst TakesNone (sym here) tt)

-- what the collector names is there
pub collector_within : {dated : Bool} → (w : Core) (op : Op) → IsKept dated w → collector_step.NamesWord (length w.collector.counts.slots) w.collector.fields (length w.collector.newer) op → IsWithin (cells_of w) op
collector_within w (ops.StoreEpoch e) kept names = tt
collector_within w (ops.LookBox t e) kept names = (names.0, subst (λ n. t ≤ n) (kept.collector.mutators ∙ sym kept.mutators.words) names.1)
collector_within w (ops.ReturnBox t e) kept names = (names.0, subst (λ n. t ≤ n) (kept.collector.mutators ∙ sym kept.mutators.words) names.1)
collector_within w (ops.LoadChild place) kept names = subst (λ n. place < n) (fields_many w (length w.collector.counts.slots) w.collector.fields kept kept.collector.slots kept.collector.fields) names
collector_within w (ops.ClearField place) kept names = subst (λ n. place < n) (fields_many w (length w.collector.counts.slots) w.collector.fields kept kept.collector.slots kept.collector.fields) names
collector_within w (ops.FreeHeader slot) kept names = subst (λ n. slot < n) (kept.collector.slots ∙ sym kept.headers) names
collector_within w ops.AddFreed kept names = tt
collector_within w _ kept names = absurd names

-- The collector may make its next turn, where it may be given the word that it finds.
pub may_turn_given : {dated : Bool} → (w : Core) → IsKept dated w → ((op : Op) → ◌≡◌ {A = Option Op} (collector_next.next_of w.collector) (Some op) → IsGiven w.collector (cell (cells_of w) op)) → IfSome (collector_next.next_of w.collector) (MayTurn w)
may_turn_given w kept given = turn_case w (λ o v. IfSome o (collector_step.NamesWord (length w.collector.counts.slots) w.collector.fields (length w.collector.newer)) → IfSome o (MayTurn w)) (λ none names. tt)
    (λ op named names. record { within = collector_within w op kept names; given = given op named; sized = sized_is w kept }) (collector_words.names_word w.collector kept.collector.machine)

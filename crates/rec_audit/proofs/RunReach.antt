-- No member of a set that a run gives up is on a path of its journal's references from a root.
use Rattle.std.proofs.Common.{◌≡◌, ◌≢◌, ◌⊎◌, inl, inr, ℕ, suc, ◌+◌, ◌-◌, ◌/◌, ◌<◌, ◌≤◌, ◌==◌, if◌then◌else◌, not, nat_lt, Bool, true, false, cond, Option, None, Some, List, [], ◌∷◌, filter, map, length, slice_index_or, refl, sym, ap, subst, ◌∙◌, arith}
use Rattle.std.specs.List.{Contains, flat_map, range_with_len}
use Rattle.std.proofs.lemmas.Bool.{cases_lt, eqb-true, false≢true, lt-ltb, not-true}
use Rattle.std.proofs.lemmas.Bool.Decides.{nat_tests}
use Rattle.std.proofs.lemmas.List.Elements.{Contains-append_cases, Contains-append_right}
use Rattle.rec_model.specs.Pending.{epoch_of, home, node_of}
use Rattle.rec_model.specs.Reach.{is_in}
use Rattle.rec_model.specs.References.{IsInReach}
use Rattle.rec_model.proofs.Members.{is_in-cases, is_in-cons}
use Rattle.rec_model.proofs.Within.{all_reached}
use Rattle.rec_word.specs.Word.{target_bits}
use Rattle.rec_log.specs.declared.entry.Entry.TheVariants as entries
use Rattle.rec_counts.specs.Lists.{times}
use Rattle.rec_counts.proofs.Times.{one-same, times-cons}
use Rattle.rec_collector.specs.Private.{buffer_at}
use Rattle.rec_collector.specs.Shown.{passed_in, passed_of}
use Rattle.rec_collector.specs.Touched.{tried_at}
use Rattle.rec_collector.specs.declared.phase.Phase.{Phase}
use Rattle.rec_collector.specs.declared.phase.Phase.TheVariants.{Freeing}
use Rattle.rec_core.specs.Config.{IsMutator}
use Rattle.rec_core.specs.Core.{Core}
use Rattle.rec_core.specs.Kept.{IsKept}
use Rattle.rec_core.specs.Kept as of_core
use Rattle.rec_core.specs.Loads.{tried_in}
use Rattle.rec_audit.specs.Logged.{last_batch}
use Rattle.rec_core.specs.Pending.{applied_at, pending, has_batched}
use Rattle.rec_core.proofs.Freed.{shown_is_gone, shown_is_taken}
use Rattle.rec_audit.proofs.JournalReach.{batch_root, free_word, leads_on, replaced_home, snapshot_root, untold_root, worked_epoch}
use Rattle.rec_audit.proofs.Journalled.{StandsIn, applied_in, replaced_when}
use Rattle.rec_audit.proofs.Lasting.{Lasts, closes}
use Rattle.rec_audit.proofs.Newly.{newer_weighs}
use Rattle.rec_audit.specs.Form.{heap_of, number}
use Rattle.rec_audit.specs.Graph.{HasReached, IsReachedAt, has_target, held, is_dead, is_put, is_taken, named_by, opens, opens_from, roots, target_in, targets, this_block}
use Rattle.rec_audit.specs.Journal.{parts_lines, register_number}
use Rattle.rec_audit.specs.Lines.{Line}
use Rattle.rec_audit.specs.declared.form.Heap.{Heap}
use Rattle.rec_audit.specs.declared.kind.Kind.{Kind}
use Rattle.rec_audit.specs.declared.kind.Kind.TheVariants as kinds
use Rattle.rec_audit.proofs.Blocks.{IsLineOf, each_at, is_late, late_plain, line_is_of}
use Rattle.rec_audit.proofs.Placing.{is_unswept}
use Rattle.rec_audit.proofs.Rising.{both_of}
use Rattle.rec_audit.proofs.RunGraph.{HasBlock, Status, Tells}
use Rattle.rec_audit.proofs.RunTurns.{opens_some}
use Rattle.rec_audit.proofs.Sizes.{tested}

-- ---- members of lists

-- what lines name, a line names
named_member : (n : ℕ) (ls : List Line) → is_in n (flat_map (λ l. named_by l.kind l.numbers) ls) ≡ true → (l : Line) × Contains ls l × (is_in n (named_by l.kind l.numbers) ≡ true)
named_member n [] is = absurd (false≢true is)
named_member n (x ∷ ls) is = elim (is_in-cases n (named_by x.kind x.numbers) (flat_map (λ l. named_by l.kind l.numbers) ls) is) [
  | inl here ↦ (x, (0, omega arith, refl), here)
  | inr later ↦ (let more = named_member n ls later in (more.0, Contains-append_right (x ∷ []) ls more.0 more.1, more.2))
]

-- what a snapshot's numbers hold, a register named
held_member : (n : ℕ) (xs : List (Option ℕ)) → is_in n (held (map register_number xs)) ≡ true → (r : ℕ) × (slice_index_or xs r None ≡ Some n)
held_member n [] is = absurd (false≢true is)
held_member n (None ∷ xs) is = (let more = held_member n xs is in (suc more.0, more.1))
held_member n (Some x ∷ xs) is =
    let some : nat_lt 0 (x + 1) ≡ true = lt-ltb 0 (x + 1) (omega arith) in
    let less : x + 1 - 1 ≡ x = omega arith in
    let out : is_in n (x ∷ held (map register_number xs)) ≡ true
    = ap (λ m. is_in n (m ∷ held (map register_number xs))) (sym less)
    ∙ sym (ap (λ b. is_in n (map (λ m. m - 1) (cond b ((x + 1) ∷ filter (λ m. nat_lt 0 m) (map register_number xs)) (filter (λ m. nat_lt 0 m) (map register_number xs))))) some)
    ∙ is in
    elim (is_in-cons n x (held (map register_number xs)) out) [
      | inl same ↦ (0, ap (λ m. Some m) same)
      | inr later ↦ (let more = held_member n xs later in (suc more.0, more.1))
    ]

-- what is left by a test passes it
filter_member : (p : ℕ → Bool) (n : ℕ) (xs : List ℕ) → is_in n (filter p xs) ≡ true → p n ≡ true
filter_member p n [] is = absurd (false≢true is)
filter_member p n (x ∷ xs) is = go (p x) refl (filter_member p n xs) is
  where
    go : (b : Bool) → p x ≡ b → (is_in n (filter p xs) ≡ true → p n ≡ true) → is_in n (cond b (x ∷ filter p xs) (filter p xs)) ≡ true → p n ≡ true
    go true e rest there = elim (is_in-cons n x (filter p xs) there) [
      | inl same ↦ subst (λ m. p m ≡ true) same e
      | inr later ↦ rest later
    ]
    go false e rest there = rest there

-- a line that is left by two tests and leads there
pub record LeadsTo (d f : Line → Bool) (n : ℕ) (ls : List Line) : Type 0 where
  pub line : Line
  pub listed : Contains ls line
  pub first : f line ≡ true
  pub second : d line ≡ true
  pub leads : target_in line ≡ n

leads_further : (d f : Line → Bool) (n : ℕ) (x : Line) (ls : List Line) → LeadsTo d f n ls → LeadsTo d f n (x ∷ ls)
leads_further d f n x ls l = record { line = l.line; listed = Contains-append_right (x ∷ []) ls l.line l.listed; first = l.first; second = l.second; leads = l.leads }

pub target_member : (d f : Line → Bool) (n : ℕ) (ls : List Line) → is_in n (map target_in (filter d (filter f ls))) ≡ true → LeadsTo d f n ls
target_member d f n [] is = absurd (false≢true is)
target_member d f n (x ∷ ls) is = go (f x) refl (d x) refl (λ there. leads_further d f n x ls (target_member d f n ls there)) is
  where
    go : (b : Bool) → f x ≡ b → (c : Bool) → d x ≡ c → (is_in n (map target_in (filter d (filter f ls))) ≡ true → LeadsTo d f n (x ∷ ls))
        → is_in n (map target_in (filter d (cond b (x ∷ filter f ls) (filter f ls)))) ≡ true → LeadsTo d f n (x ∷ ls)
    go false e c e2 rest there = rest there
    go true e false e2 rest there = rest (sym (ap (λ b. is_in n (map target_in (cond b (x ∷ filter d (filter f ls)) (filter d (filter f ls))))) e2) ∙ there)
    go true e true e2 rest there =
        elim (is_in-cons n (target_in x) (map target_in (filter d (filter f ls))) (sym (ap (λ b. is_in n (map target_in (cond b (x ∷ filter d (filter f ls)) (filter d (filter f ls))))) e2) ∙ there)) [
          | inl same ↦ record { line = x; listed = (0, omega arith, refl); first = e; second = e2; leads = same }
          | inr later ↦ rest later
        ]

-- a member is there some times
member_times : (n : ℕ) (xs : List ℕ) → is_in n xs ≡ true → 0 < times n xs
member_times n [] is = absurd (false≢true is)
member_times n (x ∷ xs) is = elim (is_in-cons n x xs is) [
  | inl same ↦ subst (λ m. 0 < times n (m ∷ xs)) (sym same) (omega (arith, times-cons n n xs, one-same n))
  | inr later ↦ omega (arith, times-cons n x xs, member_times n xs later)
]

-- ---- the lines of a block

-- a line of what the collector did names nothing
late_names : (k : Kind) (numbers : List ℕ) → is_late k ≡ true → named_by k numbers ≡ []
late_names kinds.Out numbers is = refl
late_names kinds.Free numbers is = refl
late_names kinds.Sweep numbers is = refl
late_names kinds.End numbers is = refl
late_names _ numbers is = absurd (false≢true is)

module _ (ls : List Line) (v : Core) (kept : IsKept true v) (tells : Tells ls v) (works : has_batched v.collector.phase ≡ true) (unswept : is_unswept v.collector.phase ≡ true) (tried : tried_in v ≡ applied_in v) where
  -- the buffers of the batch that is worked on
  newer_are : last_batch v.collector ≡ v.collector.newer
  newer_are = ap (λ b. if b then v.collector.newer else v.collector.older) works

  abbrev InReach : ℕ → Type 0
  InReach n = IsInReach (pending v) (applied_in v) (n + 1)

  -- a slot that is reached, or a free one
  abbrev MayBe : ℕ → Type 0
  MayBe n = InReach n ⊎ (slice_index_or v.headers n 0 ≡ 0)

  batch_epoch : (place new old : ℕ) → StandsIn v.collector.newer (entries.Put place new old) → epoch_of new ≡ applied_in v
  batch_epoch place new old (i, below, c) =
      let at : i + 1 - 1 ≡ i = omega arith in
      let is : IsMutator v.config (i + 1) = (let many : length v.collector.newer ≡ v.config.mutators = kept.collector.mutators in (omega arith, omega arith)) in
      let all = subst (λ n. of_core.IsBufferOf true v.config (v.epoch - 1) (buffer_at v.collector.newer n)) at (kept.collector.newer (i + 1) is) in
      subst (of_core.IsMadeIn (v.epoch - 1)) c.2 (all.made c.0 (entries.Put place new old) c.1) ∙ sym (worked_epoch v.epoch v.collector.phase works)

  -- a reference that a write of the batch closed
  closed_lasts : (place new word : ℕ) → StandsIn v.collector.newer (entries.Put place new word) → Lasts v [] (record { place = place; word = word; epoch = applied_in v })
  closed_lasts place new word c =
      inr (inl (omega (arith, newer_weighs (closes (record { place = place; word = word; epoch = applied_in v })) v place new word c, one place new word (applied_in v) (batch_epoch place new word c))))
    where
      one : (place new word epoch : ℕ) → epoch_of new ≡ epoch → closes (record { place = place; word = word; epoch = epoch }) (record { place = place; new = new; old = word }) ≡ 1
      one place new word epoch at = grind (arith, nat_tests, at)

  -- each line of the block is one of the batch, or of what the collector did
  block_line : (l : Line) → Contains (this_block ls) l → IsLineOf v.collector.newer l ⊎ (is_late l.kind ≡ true)
  block_line l c = go tells.block
    where
      go : HasBlock ls v → IsLineOf v.collector.newer l ⊎ (is_late l.kind ≡ true)
      go (HasBlock.none waits empty) = absurd (false≢true (sym waits ∙ works))
      go (HasBlock.some rest late is) = elim (Contains-append_cases (parts_lines (last_batch v.collector)) rest l (subst (λ xs. Contains xs l) is c)) [
        | inl part ↦ inl (subst (λ row. IsLineOf row l) newer_are (line_is_of (last_batch v.collector) l part))
        | inr after ↦ inr (each_at is_late rest l late after)
      ]

  closing_line : (l : Line) (place word : ℕ) → IsLineOf v.collector.newer l → l.kind ≡ kinds.Put → number 1 l ≡ place → number 3 l ≡ word → Lasts v [] (record { place = place; word = word; epoch = applied_in v })
  closing_line l place word (IsLineOf.of_entry n (entries.Put p new o) c is) put at old =
      let here : p ≡ place = sym (ap (number 1) is) ∙ at in
      let was : o ≡ word = sym (ap (number 3) is) ∙ old in
      subst (λ w. Lasts v [] (record { place = place; word = w; epoch = applied_in v })) was (subst (λ x. Lasts v [] (record { place = x; word = o; epoch = applied_in v })) here (closed_lasts p new o c))
  closing_line l place word (IsLineOf.of_entry n (entries.Born slot leaf) c is) put at old = absurd (let no : kinds.Born ≡ kinds.Put = sym (ap (λ (x : Line). x.kind) is) ∙ put in cc)
  closing_line l place word (IsLineOf.of_snapshot n i below is) put at old = absurd (let no : kinds.Snap ≡ kinds.Put = sym (ap (λ (x : Line). x.kind) is) ∙ put in cc)

  -- a reference of the graph is one of the epoch
  reference_lasts : (l : Line) → Contains ls l → opens l ≡ true → is_dead ls (number 2 l) ≡ false → Lasts v [] (record { place = number 1 l; word = number 2 l; epoch = applied_in v })
  reference_lasts l c opened alive = go (tells.puts l c opened)
    where
      go : Status ls v (number 1 l) (number 2 l) → Lasts v [] (record { place = number 1 l; word = number 2 l; epoch = applied_in v })
      go (Status.dead is) = absurd (false≢true (sym alive ∙ is))
      go (Status.closed x there put at old) = elim (block_line x there) [
        | inl part ↦ closing_line x (number 1 l) (number 2 l) part put at old
        | inr late ↦ absurd (false≢true (sym ((late_plain x.kind late).2) ∙ ap is_put put))
      ]
      go (Status.lasts x) = subst (λ e. Lasts v [] (record { place = number 1 l; word = number 2 l; epoch = e })) tried x

  -- it leads on, also where its slot is free
  reference_leads : (place word m n : ℕ) → Lasts v [] (record { place = place; word = word; epoch = applied_in v }) → word ≢ 0 → node_of word ≡ n + 1 → epoch_of word ≤ applied_in v → place / v.config.fields ≡ m → MayBe m → InReach n
  reference_leads place word m n lasts some leads early at may = subst (IsInReach (pending v) (applied_in v)) leads (leads_on v place word lasts (omega (arith, leads)) early (from lasts may))
    where
      its : home v.config.fields place ≡ m + 1
      its = ap (λ k. k + 1) at

      freed : slice_index_or v.headers m 0 ≡ 0 → slice_index_or v.headers (place / v.config.fields) 0 ≡ 0
      freed none = ap (λ k. slice_index_or v.headers k 0) at ∙ none

      from : Lasts v [] (record { place = place; word = word; epoch = applied_in v }) → MayBe m → IsInReach (pending v) (applied_in v) (home v.config.fields place)
      from y (inl reached) = subst (IsInReach (pending v) (applied_in v)) (sym its) reached
      from (inl stands) (inr none) = absurd (some (sym stands ∙ free_word v place kept (freed none)))
      from (inr (inl replaced)) (inr none) = elim (replaced_when v place word kept replaced) [
        | inl later ↦ replaced_home v place word kept later
        | inr here ↦ absurd (omega (arith, tells.homes unswept place here.0 word here.1, freed none))
      ]
      from (inr (inr out)) (inr none) = absurd (let below = out.1 in omega arith)

  -- ---- roots

  named_root : (n : ℕ) (l : Line) → IsLineOf v.collector.newer l → is_in n (named_by l.kind l.numbers) ≡ true → InReach n
  named_root n l (IsLineOf.of_entry t (entries.Put p new o) c is) there = absurd (false≢true (sym (ap (λ (x : Line). is_in n (named_by x.kind x.numbers)) is) ∙ there))
  named_root n l (IsLineOf.of_entry t (entries.Born slot leaf) c is) there =
      elim (is_in-cons n slot [] (sym (ap (λ (x : Line). is_in n (named_by x.kind x.numbers)) is) ∙ there)) [
        | inl same ↦ subst InReach same (batch_root v kept slot leaf works c)
        | inr none ↦ absurd (false≢true none)
      ]
  named_root n l (IsLineOf.of_snapshot t i below is) there =
      let r = held_member n (buffer_at v.collector.newer i).snapshot (sym (ap (λ (x : Line). is_in n (named_by x.kind x.numbers)) is) ∙ there) in
      snapshot_root v kept n i r.0 works below r.1

  untaken_root : (n : ℕ) → is_taken ls n ≡ false → MayBe n
  untaken_root n untaken = elim (cases_lt 0 (slice_index_or v.headers n 0)) [
    | inr none ↦ inr (omega (arith, none))
    | inl some ↦ elim (tells.taken n some) [
      | inl told ↦ absurd (false≢true (sym untaken ∙ told))
      | inr untold ↦ inl (untold_root v kept n works untold)
    ]
  ]

  at_root : (n : ℕ) → is_in n (roots ls) ≡ true → MayBe n
  at_root n there = elim (is_in-cases n (flat_map (λ (l : Line). named_by l.kind l.numbers) (this_block ls)) (filter (λ slot. not (is_taken ls slot)) (range_with_len 0 (heap_of ls).slots)) there) [
    | inl named ↦
        let l = named_member n (this_block ls) named in
        elim (block_line l.0 l.1) [
          | inl part ↦ inl (named_root n l.0 part l.2)
          | inr late ↦ absurd (false≢true (sym (ap (is_in n) (late_names l.0.kind l.0.numbers late)) ∙ l.2))
        ]
    | inr free ↦ untaken_root n (not-true (is_taken ls n) (filter_member (λ slot. not (is_taken ls slot)) n (range_with_len 0 (heap_of ls).slots) free))
  ]

  at_target : (m n : ℕ) → IsReachedAt ls m → MayBe m → is_in n (targets ls m) ≡ true → MayBe n
  unfolding node_of
  at_target m n reached may there =
      let l = target_member (λ line. not (is_dead ls (number 2 line))) (opens_from (heap_of ls).fields m) n ls there in
      let both = both_of (opens l.line) (number 1 l.line / (heap_of ls).fields == m) l.first in
      let put = both_of (is_put l.line.kind) (has_target (number 2 l.line)) both.0 in
      let fields : (heap_of ls).fields ≡ v.config.fields = ap (λ (h : Heap). h.fields) tells.heap in
      let at : number 1 l.line / v.config.fields ≡ m = ap (λ k. number 1 l.line / k) (sym fields) ∙ eqb-true (number 1 l.line / (heap_of ls).fields) m both.1 in
      let target : 0 < target_bits (number 2 l.line) = tested (target_bits (number 2 l.line)) put.1 in
      let node : target_bits (number 2 l.line) ≡ n + 1 = omega (arith, target, l.leads) in
      inl (reference_leads (number 1 l.line) (number 2 l.line) m n (reference_lasts l.line l.listed both.0 (not-true (is_dead ls (number 2 l.line)) l.second)) (opens_some l.line both.0) node (tells.early l.line l.listed both.0) at may)

  reached_may : (n : ℕ) → IsReachedAt ls n → MayBe n
  reached_may n reached = all_reached MayBe (roots ls) (targets ls) at_root at_target n reached

-- Where a set was shown, what is reached in the journal is in the reach of the epoch, or is a free slot.
pub shown_reach : (ls : List Line) (v : Core) (members : List ℕ) → IsKept true v → Tells ls v → passed_of v.collector ≡ Some members → (slot : ℕ) → IsReachedAt ls slot
    → IsInReach (pending v) (applied_in v) (slot + 1) ⊎ (slice_index_or v.headers slot 0 ≡ 0)
shown_reach ls v members kept tells passed slot reached = go v.collector.phase refl passed
  where
    go : (phase : Phase) → v.collector.phase ≡ phase → passed_in v.collector phase ≡ Some members → IsInReach (pending v) (applied_in v) (slot + 1) ⊎ (slice_index_or v.headers slot 0 ≡ 0)
    go (Freeing m) is shown = reached_may ls v kept tells (ap has_batched is) (ap is_unswept is) (ap (tried_at v.epoch) is ∙ sym (ap (applied_at v.epoch) is)) slot reached
    go _ is shown = absurd (cc)

-- So no member of the set is reached.
pub shown_unreached : (ls : List Line) (v : Core) (members : List ℕ) → IsKept true v → Tells ls v → passed_of v.collector ≡ Some members → HasReached ls members → ⊥
shown_unreached ls v members kept tells passed r =
    let member : 0 < times r.member members = member_times r.member members r.listed in
    elim (shown_reach ls v members kept tells passed r.member r.reached) [
      | inl reached ↦ (shown_is_gone v members r.member kept passed member).unreached (applied_in v) (omega arith) reached
      | inr free ↦ absurd (omega (arith, free, shown_is_taken v members r.member kept passed member))
    ]

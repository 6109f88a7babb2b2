-- What mutators do leaves each slot on something that the collector still has to look at: what a write replaces and what is born is
-- pending, and so is what a register names as its mutator leaves an epoch. A step of a mutator, and the begin of its work, name nothing that
-- is forgotten.
use Rattle.std.proofs.Common.{◌≡◌, ◌≢◌, ◌⊎◌, inl, inr, ℕ, zero, suc, ◌+◌, ◌-◌, ◌<◌, true, false, List, [], ◌∷◌, ◌++◌, Option, None, Some, length, map, replicate, slice_index_or, slice_set, refl, sym, ap, subst, ◌∙◌, arith, ◌/◌, ◌≤◌, Bool}
use Rattle.std.proofs.lemmas.Bool.{cases_Bool, cases_eq, cases_lt, eq-eqb, false≢true}
use Rattle.std.proofs.lemmas.List.{get_or-set_same, get_or-set_other, get_or_past, map-append}
use Rattle.rec_core.proofs.Common.{place_of, target_of, is_green, Op, slot_at, IsTaken, Contents, Private, is_busy, word_for, next_of, left_of, took_of, whole_made, begun_of, named, old_target, IsMutator, Core, cell, cells_of, box, mutator, nobody, sight, spare_of, IsKept, begun_from, found_by, stepped, crossing_of, with_cell, one, code, epoch_at, has_let_go, Holds, Machine, pending, register, State, is_node, one_if_same, none_if_differs, node_of, Write, buffer_at, writes_in, births_in, offering}
use Rattle.rec_core.specs.declared.config.Config.{Config}
use Rattle.rec_counts.proofs.Naming.{named-append, named-cons, named-nil}
use Rattle.rec_word.specs.Header.{header_word}
use Rattle.rec_word.specs.Op.{written}
use Rattle.rec_log.specs.declared.entry.Entry.{Entry}
use Rattle.rec_mutator.specs.Took.{step_of, nulls_of}
use Rattle.rec_mutator.specs.declared.work.Work.{Work}
use Rattle.rec_core.proofs.Actors.{crossing_due, leaving_home, epoch_here, idle_here}
use Rattle.rec_core.proofs.Steps.{actor_of, in_list, stand_of, stays_here}
use Rattle.rec_prompt.specs.Cover.{IsCovered, IsListed, IsPending, takes}
use Rattle.rec_prompt.specs.Cover.Hangs.{later, listed}
use Rattle.rec_prompt.specs.Lost.{Leads}
use Rattle.rec_prompt.proofs.Forgets.{set_or, counted, Forgets, IsClean, node_leads, null_at, spare_clean}
use Rattle.rec_core.proofs.Moves.{has_register, home_of}
use Rattle.rec_core.proofs.Rules.{leads_to}
use Rattle.rec_model.proofs.Consequences.{registers_in_reach}
use Rattle.rec_model.proofs.Ledgers.{epoch_after}
use Rattle.rec_model.proofs.Names.{named_at}
use Rattle.rec_model.specs.Reach.{is_in}
use Rattle.rec_trial.proofs.Course.{Course}
use Rattle.rec_prompt.proofs.Followed.{IsFollowed}
use Rattle.rec_prompt.proofs.Hanging.{carried, IsHung, leaders_count, Trails, trails_stay}
use Rattle.rec_prompt.proofs.Pended.{reach_trails}
use Rattle.rec_prompt.proofs.Sees.{Bears, Keeps, Puts, Retires, Sees, seen_step, Finds}
use Rattle.rec_core.proofs.Shapes.{LeavesWords}
use Rattle.std.specs.List.{sum_by}
use Rattle.rec_core.proofs.Reach.{steps_keep_taken}
use Rattle.rec_core.proofs.Sums.{births_more, births_same, writes_more, writes_same}
use Rattle.std.proofs.lemmas.Option.{same_Some}
use Rattle.rec_model.specs.Reach as reach
use Rattle.rec_word.specs.declared.op.Op.TheVariants as ops
use Rattle.rec_log.specs.declared.entry.Entry.TheVariants as entries
use Rattle.rec_collector.specs.Private as collectors

-- a log with one entry more takes off what it took off, and what the entry refers to no longer
takes_more : (slot : ℕ) (b : Contents) (entry : Entry) → takes slot (record b { entries = b.entries ++ entry ∷ [] }) ≡ takes slot b + named slot (old_target entry ∷ [])
takes_more slot b entry = omega (arith, ap (named slot) (map-append old_target b.entries (entry ∷ [])), named-append slot (map old_target b.entries) (old_target entry ∷ []))

-- one that refers to the slot no longer takes one off it
takes_one : (slot : ℕ) (target : Option ℕ) → target ≡ Some slot → 0 < named slot (target ∷ [])
takes_one slot target is = subst (λ (x : Option ℕ). 0 < named slot (x ∷ [])) (sym is) (omega (arith, named-cons slot (Some slot) [], ap one (eq-eqb slot slot refl)))

-- a snapshot that names nothing takes nothing off
unnamed : (slot : ℕ) (xs : List (Option ℕ)) → reach.named xs ≡ [] → named slot xs ≡ 0
unnamed slot [] none = named-nil slot
unnamed slot (None ∷ xs) none = omega (arith, named-cons slot None xs, unnamed slot xs none)
unnamed slot (Some x ∷ xs) none = absurd (cc)

-- nor does a spare
pub nulls_take : (slot n : ℕ) → named slot (replicate {A = Option ℕ} n None) ≡ 0
nulls_take slot zero = named-nil slot
nulls_take slot (suc n) = omega (arith, named-cons slot None (replicate n None), nulls_take slot n)

pub spare_takes : (slot : ℕ) (config : Config) (b : Contents) → b ≡ spare_of config → takes slot b ≡ 0
spare_takes slot config b is = ap (takes slot) is ∙ omega (arith, named-nil slot, nulls_take slot config.registers)

-- What a move of a mutator leaves: what was pending is so still, a word that no longer leads where it led has its target pending, one that
-- leads somewhere anew leads to what is on a path from what was pending, and what holds an object anew is pending.
pub record Hides (v u : Core) : Type 0 where
  pub config : u.config ≡ v.config
  pub collector : u.collector ≡ v.collector
  pub pending : (x : ℕ) → IsPending v x → IsPending u x
  pub fields : (place x : ℕ) → target_of (slice_index_or v.words place 0) ≡ Some x → (target_of (slice_index_or u.words place 0) ≡ Some x) ⊎ IsPending u x
  pub back : (place x : ℕ) → target_of (slice_index_or u.words place 0) ≡ Some x → (target_of (slice_index_or v.words place 0) ≡ Some x) ⊎ Trails (sight v) (IsPending v) x
  pub taken : (x : ℕ) → IsTaken (sight u) x → IsTaken (sight v) x ⊎ IsPending u x

-- A mutator begins a work.
pub begun_hides : (v : Core) (t : ℕ) (work : Work) (from : ℕ) → IsMutator v.config t → IsKept true v → Hides v (begun_from v t work from)
unfolding begun_of
begun_hides v t work from is kept = record { config = refl; collector = refl; pending = goes (begun_of (mutator v t) work from) refl; fields = λ place x leads. inl leads; back = λ place x leads. inl leads; taken = λ x there. inl there }
  where
    goes : (q : Private) → q.log ≡ (mutator v t).log → (x : ℕ) → IsPending v x → IsPending (record v { mutators = slice_set v.mutators (t - 1) q }) x
    goes q same x (IsPending.log i some) = IsPending.log i (elim (cases_eq i (t - 1)) [
      | inl own ↦ subst (λ (p : Private). 0 < takes x p.log) (sym (ap (λ n. slice_index_or (slice_set v.mutators (t - 1) q) n nobody) own ∙ get_or-set_same v.mutators (t - 1) q nobody (in_list v t kept is)))
          (subst (λ (b : Contents). 0 < takes x b) (ap (λ n. (slice_index_or v.mutators n nobody).log) own ∙ sym same) some)
      | inr other ↦ subst (λ (p : Private). 0 < takes x p.log) (sym (get_or-set_other v.mutators (t - 1) i q nobody other)) some
    ])
    goes q same x (IsPending.mailbox i some) = IsPending.mailbox i some
    goes q same x (IsPending.newer i some) = IsPending.newer i some
    goes q same x (IsPending.older early i some) = IsPending.older early i some

-- a clean buffer whose entries and snapshot are these
clean_as : (slot : ℕ) (a b : Contents) → b.entries ≡ a.entries → ((r : ℕ) → slice_index_or b.snapshot r None ≡ Some slot → ⊥) → IsClean slot a → IsClean slot b
clean_as slot a b same none c = record {
  put = ap (λ es. sum_by (λ (e : Write). one_if_same (slot + 1) (node_of e.new)) (writes_in es)) same ∙ c.put;
  replaced = ap (λ es. sum_by (λ (e : Write). one_if_same (slot + 1) (node_of e.old)) (writes_in es)) same ∙ c.replaced;
  births = λ epoch. ap (λ es. sum_by (is_node (slot + 1)) (births_in epoch es)) same ∙ c.births epoch;
  snapshot = none;
}

-- a buffer with one entry more
clean_with_birth : (slot : ℕ) (b : Contents) (other : ℕ) (leaf : Bool) → other ≢ slot → IsClean slot b → IsClean slot (record b { entries = b.entries ++ entries.Born other leaf ∷ [] })
clean_with_birth slot b other leaf apart c = record {
  put = writes_same (λ (e : Write). one_if_same (slot + 1) (node_of e.new)) b.entries other leaf ∙ c.put;
  replaced = writes_same (λ (e : Write). one_if_same (slot + 1) (node_of e.old)) b.entries other leaf ∙ c.replaced;
  births = λ epoch. omega (arith, births_more (is_node (slot + 1)) epoch b.entries other leaf, c.births epoch, none_if_differs (slot + 1) (other + 1) (λ e. apart (omega (arith, e))));
  snapshot = c.snapshot;
}

clean_with_write : (slot : ℕ) (b : Contents) (place new old : ℕ) → (target_of new ≡ Some slot → ⊥) → (target_of old ≡ Some slot → ⊥) → IsClean slot b → IsClean slot (record b { entries = b.entries ++ entries.Put place new old ∷ [] })
clean_with_write slot b place new old other apart c = record {
  put = omega (arith, writes_more (λ (e : Write). one_if_same (slot + 1) (node_of e.new)) b.entries place new old, c.put, none_if_differs (slot + 1) (node_of new) (λ e. other (node_leads new slot (sym e))));
  replaced = omega (arith, writes_more (λ (e : Write). one_if_same (slot + 1) (node_of e.old)) b.entries place new old, c.replaced, none_if_differs (slot + 1) (node_of old) (λ e. apart (node_leads old slot (sym e))));
  births = λ epoch. births_same (is_node (slot + 1)) epoch b.entries place new old ∙ c.births epoch;
  snapshot = c.snapshot;
}

-- The one mutator is this now, this is in its mailbox, and the collector and all else of the others is as it was.
record Changes (v u : Core) (t : ℕ) (q : Private) (left : Contents) : Type 0 where
  config : u.config ≡ v.config
  own : mutator u t ≡ q
  own_box : box u t ≡ left
  others : (s : ℕ) → IsMutator v.config s → s ≢ t → (mutator u s ≡ mutator v s) × (box u s ≡ box v s)
  collector : u.collector ≡ v.collector

-- And nothing in it names what is forgotten.
record Names (late : ℕ) (lost : ℕ → Type 0) (v u : Core) (q : Private) (left : Contents) : Type 0 where
  registers : (r slot : ℕ) → register q r ≡ Some slot → lost slot → ⊥
  log : (slot : ℕ) → late ≤ epoch_at q → lost slot → IsClean slot q.log
  mailbox : (slot : ℕ) → late + 1 ≤ epoch_at q → lost slot → IsClean slot left
  words : (place slot : ℕ) → target_of (slice_index_or u.words place 0) ≡ Some slot → lost slot → target_of (slice_index_or v.words place 0) ≡ Some slot
  taken : (slot : ℕ) → lost slot → IsTaken (sight u) slot

changes_forget : (late : ℕ) (first : Core) (lost : ℕ → Type 0) (v u : Core) (t : ℕ) (q : Private) (left : Contents) → IsMutator v.config t → Changes v u t q left → Names late lost v u q left → Forgets late first lost v → Forgets late first lost u
changes_forget late first lost v u t q left is c n f = record {
  taken = n.taken;
  registers = λ s r slot there names gone. elim (cases_eq s t) [
    | inl same ↦ n.registers r slot (sym (ap (λ (p : Private). register p r) (ap (mutator u) same ∙ c.own)) ∙ names) gone
    | inr other ↦ f.registers s r slot (before s there) (sym (ap (λ (p : Private). register p r) (c.others s (before s there) other).0) ∙ names) gone
  ];
  fields = λ place slot leads gone. subst (λ k. lost (place / k.fields)) (sym c.config) (f.fields place slot (n.words place slot leads gone) gone);
  still = λ place slot leads gone. f.still place slot (n.words place slot leads gone) gone;
  logs = λ s slot there from gone. elim (cases_eq s t) [
    | inl same ↦
        let at : mutator u s ≡ q = ap (mutator u) same ∙ c.own in
        subst (λ (p : Private). IsClean slot p.log) (sym at) (n.log slot (omega (arith, from, ap epoch_at at)) gone)
    | inr other ↦
        let at = (c.others s (before s there) other).0 in
        subst (λ (p : Private). IsClean slot p.log) (sym at) (f.logs s slot (before s there) (omega (arith, from, ap epoch_at at)) gone)
  ];
  boxes = λ s slot there from gone. elim (cases_eq s t) [
    | inl same ↦
        let at : mutator u s ≡ q = ap (mutator u) same ∙ c.own in
        subst (IsClean slot) (sym (ap (box u) same ∙ c.own_box)) (n.mailbox slot (omega (arith, from, ap epoch_at at)) gone)
    | inr other ↦
        let at = c.others s (before s there) other in
        subst (IsClean slot) (sym at.1) (f.boxes s slot (before s there) (omega (arith, from, ap epoch_at at.0)) gone)
  ];
  newer = λ i slot below from gone. subst (λ (x : collectors.Private). IsClean slot (buffer_at x.newer i)) (sym c.collector) (f.newer i slot (subst (λ (x : collectors.Private). i < length x.newer) c.collector below) (omega (arith, from, same_count)) gone);
  older = λ i slot below from gone. subst (λ (x : collectors.Private). IsClean slot (buffer_at x.older i)) (sym c.collector) (f.older i slot (subst (λ (x : collectors.Private). i < length x.older) c.collector below) (omega (arith, from, same_count)) gone);
}
  where
    before : (s : ℕ) → IsMutator u.config s → IsMutator v.config s
    before s there = subst (λ k. IsMutator k s) c.config there

    same_count : counted u ≡ counted v
    same_count = ap (λ (k : Config). k.first_epoch + u.collector.collections) c.config ∙ ap (λ (x : collectors.Private). v.config.first_epoch + x.collections) c.collector

-- A mutator begins a work.
pub begun_forgets : (late : ℕ) (first : Core) (lost : ℕ → Type 0) (v : Core) (t : ℕ) (work : Work) (from : ℕ) → IsKept true v → IsMutator v.config t → is_busy (mutator v t) ≡ false → Forgets late first lost v → Forgets late first lost (begun_from v t work from)
unfolding begun_of
begun_forgets late first lost v t work from kept is idle f =
    let p : Private = mutator v t in
    let q : Private = begun_of p work from in
    let same : epoch_at q ≡ epoch_at p = sym (epoch_here p (idle_here p.phase idle)) in
    changes_forget late first lost v (begun_from v t work from) t q (box v t) is
    (record {
      config = refl;
      own = get_or-set_same v.mutators (t - 1) q nobody (in_list v t kept is);
      own_box = refl;
      others = λ s there other. (get_or-set_other v.mutators (t - 1) (s - 1) q nobody (λ e. other (omega (arith, e, is.0, there.0))), refl);
      collector = refl;
    })
    (record {
      registers = λ r slot names gone. f.registers t r slot is names gone;
      log = λ slot late_ gone. f.logs t slot is (omega (arith, late_, same)) gone;
      mailbox = λ slot late_ gone. f.boxes t slot is (omega (arith, late_, same)) gone;
      words = λ place slot leads gone. leads;
      taken = f.taken;
    })
    f

-- A mutator makes a step.
module _ (v : Core) (t : ℕ) (kept : IsKept true v) (is : IsMutator v.config t) (busy : is_busy (mutator v t) ≡ true) where
  abbrev p : Private
  p = mutator v t

  abbrev word : ℕ
  word = found_by v t

  abbrev op : Op
  op = next_of p

  abbrev q : Private
  q = step_of p word (box v t)

  abbrev left : Contents
  left = left_of (took_of p word) (box v t)

  abbrev u : Core
  u = stepped v t

  own_log : mutator u t ≡ q
  own_log = get_or-set_same v.mutators (t - 1) q nobody (in_list v t kept is)

  own_box : box u t ≡ left
  own_box = let boxes : length v.boxes ≡ v.config.mutators = kept.mutators.mailboxes in get_or-set_same v.boxes (t - 1) left (collectors.blank 0 0) (omega (arith, boxes, is.0, is.1))

  -- what its log takes off is pending, and what its mailbox does
  by_log : (x : ℕ) → 0 < takes x q.log → IsPending u x
  by_log x some = IsPending.log (t - 1) (subst (λ (r : Private). 0 < takes x r.log) (sym own_log) some)

  by_box : (x : ℕ) → 0 < takes x left → IsPending u x
  by_box x some = IsPending.mailbox (t - 1) (subst (λ (b : Contents). 0 < takes x b) (sym own_box) some)

  -- What was pending is so still, where that holds of its own log and mailbox.
  still_pending : ((x : ℕ) → 0 < takes x p.log → IsPending u x) → ((x : ℕ) → 0 < takes x (box v t) → IsPending u x) → (x : ℕ) → IsPending v x → IsPending u x
  still_pending of_log of_box x (IsPending.log i some) = elim (cases_eq i (t - 1)) [
    | inl own ↦ of_log x (subst (λ n. 0 < takes x (slice_index_or v.mutators n nobody).log) own some)
    | inr other ↦ IsPending.log i (subst (λ (r : Private). 0 < takes x r.log) (sym (get_or-set_other v.mutators (t - 1) i q nobody other)) some)
  ]
  still_pending of_log of_box x (IsPending.mailbox i some) = elim (cases_eq i (t - 1)) [
    | inl own ↦ of_box x (subst (λ n. 0 < takes x (slice_index_or v.boxes n (collectors.blank 0 0))) own some)
    | inr other ↦ IsPending.mailbox i (subst (λ (b : Contents). 0 < takes x b) (sym (get_or-set_other v.boxes (t - 1) i left (collectors.blank 0 0) other)) some)
  ]
  still_pending of_log of_box x (IsPending.newer i some) = IsPending.newer i some
  still_pending of_log of_box x (IsPending.older early i some) = IsPending.older early i some

  same_box : left ≡ box v t → (x : ℕ) → 0 < takes x (box v t) → IsPending u x
  same_box same x some = by_box x (subst (λ (b : Contents). 0 < takes x b) (sym same) some)

  hides : ((x : ℕ) → IsPending v x → IsPending u x) → ((place x : ℕ) → target_of (slice_index_or v.words place 0) ≡ Some x → (target_of (slice_index_or u.words place 0) ≡ Some x) ⊎ IsPending u x)
      → ((place x : ℕ) → target_of (slice_index_or u.words place 0) ≡ Some x → (target_of (slice_index_or v.words place 0) ≡ Some x) ⊎ Trails (sight v) (IsPending v) x) → ((x : ℕ) → IsTaken (sight u) x → IsTaken (sight v) x ⊎ IsPending u x) → Hides v u
  hides pending fields back taken = record { config = refl; collector = refl; pending = pending; fields = fields; back = back; taken = taken }

  -- the words stay, unless the step puts one
  same_words : LeavesWords word op → (place x : ℕ) → target_of (slice_index_or v.words place 0) ≡ Some x → (target_of (slice_index_or u.words place 0) ≡ Some x) ⊎ IsPending u x
  same_words leaves place x leads = inl (ap (λ ws. target_of (slice_index_or ws place 0)) (leaves (cells_of v) refl) ∙ leads)

  words_back : LeavesWords word op → (place x : ℕ) → target_of (slice_index_or u.words place 0) ≡ Some x → (target_of (slice_index_or v.words place 0) ≡ Some x) ⊎ Trails (sight v) (IsPending v) x
  words_back leaves place x leads = inl (sym (ap (λ ws. target_of (slice_index_or ws place 0)) (leaves (cells_of v) refl)) ∙ leads)

  -- a slot holds an object, unless the step claims it
  same_headers : u.headers ≡ v.headers → (x : ℕ) → IsTaken (sight u) x → IsTaken (sight v) x ⊎ IsPending u x
  same_headers same x taken = inl (subst (λ hs. 0 < slice_index_or hs x 0) same taken)

  -- the collector's own are the same, and a slot that wasn't claimed held an object before
  by_keeps : Keeps p word (box v t) op q left → Hides v u
  by_keeps k = hides (still_pending (λ x some. by_log x (subst (λ (b : Contents). 0 < takes x b) (sym k.log) some)) (same_box k.mailbox)) (same_words k.words) (words_back k.words) (same_headers (k.headers (cells_of v) refl))

  by_birth : Bears p word (box v t) op q left → Hides v u
  by_birth b = hides (still_pending (λ x some. by_log x (omega (arith, some, more x))) (same_box b.mailbox)) (same_words leaves) (words_back leaves)
      (λ x taken. elim (cases_eq x b.slot) [
        | inl same ↦ inr (by_log x (omega (arith, more x, takes_one x (Some b.slot) (ap Some (sym same)))))
        | inr other ↦ inl (subst (λ n. 0 < n) (header x other) taken)
      ])
    where
      leaves : LeavesWords word op
      leaves = subst (LeavesWords word) (sym b.operation) (λ cells e. refl)

      more : (x : ℕ) → takes x q.log ≡ takes x p.log + named x (Some b.slot ∷ [])
      more x = ap (takes x) b.log ∙ takes_more x p.log (entries.Born b.slot b.leaf)

      header : (x : ℕ) → x ≢ b.slot → slice_index_or u.headers x 0 ≡ slice_index_or v.headers x 0
      header x other =
          ap (λ (o : Op). slice_index_or (with_cell (cells_of v) o (written o word)).headers x 0) b.operation
          ∙ get_or-set_other v.headers b.slot x (written (ops.ClaimHeader b.slot (header_word b.leaf b.label)) word) 0 other

  by_put : Puts p word (box v t) op q left → Hides v u
  by_put k = hides (still_pending (λ x some. by_log x (omega (arith, some, more x))) (same_box k.mailbox)) edge back_ (same_headers (ap (λ (o : Op). (with_cell (cells_of v) o (written o word)).headers) k.operation))
    where
      place : ℕ
      place = place_of k.slot k.field p.fields

      new : ℕ
      new = word_for p k.val

      more : (x : ℕ) → takes x q.log ≡ takes x p.log + named x (target_of word ∷ [])
      more x = ap (takes x) k.log ∙ takes_more x p.log (entries.Put place new word)

      here : word ≡ slice_index_or v.words place 0
      here = ap (cell (cells_of v)) k.operation

      after_words : u.words ≡ slice_set v.words place new
      after_words = ap (λ (o : Op). (with_cell (cells_of v) o (written o word)).words) k.operation

      edge : (i x : ℕ) → target_of (slice_index_or v.words i 0) ≡ Some x → (target_of (slice_index_or u.words i 0) ≡ Some x) ⊎ IsPending u x
      edge i x leads = elim (cases_eq i place) [
        | inl same ↦ inr (by_log x (omega (arith, more x, takes_one x (target_of word) (ap target_of (here ∙ ap (λ n. slice_index_or v.words n 0) (sym same)) ∙ leads))))
        | inr other ↦ inl (ap target_of (ap (λ ws. slice_index_or ws i 0) after_words ∙ get_or-set_other v.words place i new 0 other) ∙ leads)
      ]

      -- what a register names is on a path from what is pending
      named_trails : (x : ℕ) → register p k.val ≡ Some x → Trails (sight v) (IsPending v) x
      named_trails x names = reach_trails v kept.whole x (registers_in_reach (pending v) kept.accounted (pending v).applied (epoch_at p) (x + 1) (omega arith) (epoch_after (pending v) (epoch_at p) (x + 1) kept.accounted.epochs holds) (omega arith) holds)
        where
          within : k.val < length p.registers
          within = elim (cases_lt k.val (length p.registers)) [
            | inl below ↦ below
            | inr past ↦ let not_so : ◌≡◌ {A = Option ℕ} None (Some x) = sym (get_or_past p.registers k.val None past) ∙ names in absurd (cc)
          ]

          held : has_let_go p ≡ false
          held = elim (cases_Bool (has_let_go p)) [
            | inr no_ ↦ no_
            | inl gone ↦ absurd (false≢true (ap (is_in x) (sym ((actor_of v t kept is).let_go gone).registers) ∙ named_at p.registers k.val x names))
          ]

          holds : Holds (pending v) (epoch_at p) (x + 1)
          holds = subst (Holds (pending v) (epoch_at p)) (ap code names) (has_register v t k.val (in_list v t kept is) held within)

      back_ : (i x : ℕ) → target_of (slice_index_or u.words i 0) ≡ Some x → (target_of (slice_index_or v.words i 0) ≡ Some x) ⊎ Trails (sight v) (IsPending v) x
      back_ i x leads = elim (set_or v.words place new i 0) [
        | inl other ↦ inl (sym (ap target_of (ap (λ ws. slice_index_or ws i 0) after_words ∙ other)) ∙ leads)
        | inr own ↦ inr (named_trails x (sym (leads_to v t k.val kept is (stays_here v t kept is busy) k.room) ∙ sym (ap target_of (ap (λ ws. slice_index_or ws i 0) after_words ∙ own)) ∙ leads))
      ]

  by_crossing : Retires p word (box v t) op q left → Hides v u
  by_crossing k = hides (still_pending of_log (λ x some. absurd (omega (arith, some, spare_takes x v.config (box v t) home)))) (same_words k.words) (words_back k.words) (same_headers (k.headers (cells_of v) refl))
    where
      home : box v t ≡ spare_of v.config
      home =
          let stays = stays_here v t kept is busy in
          let handshake = (actor_of v t kept is).handshake in
          elim k.takes [
            | inl crossing ↦ (crossing_due v.config v.epoch p (crossing_of v t) (box v t) (stand_of v t) stays crossing handshake).1.spare
            | inr leaving ↦ (leaving_home v.config v.epoch p (crossing_of v t) (box v t) (stand_of v t) stays leaving handshake).0
          ]

      of_log : (x : ℕ) → 0 < takes x p.log → IsPending u x
      of_log x some = by_box x (omega (arith, some, unnamed x p.log.snapshot (actor_of v t kept is).unwritten, ap (λ es. named x (map old_target es)) k.entries))

  by_step : Sees p word (box v t) op q left → Hides v u
  by_step (Sees.keeps k) = by_keeps k
  by_step (Sees.bears b) = by_birth b
  by_step (Sees.puts k) = by_put k
  by_step (Sees.retires k) = by_crossing k

  pub step_hides : Hides v u
  step_hides = let actor = actor_of v t kept is in let whole = whole_made p word (box v t) busy actor.own.between in by_step (seen_step actor.own.machine whole.own whole.mailbox)

  -- Nor does it name anything that is forgotten.
  module _ (late : ℕ) (first : Core) (lost : ℕ → Type 0) (f : Forgets late first lost v) where
    -- a field of a slot that a register names leads to nothing that is forgotten
    held_field : (r held field slot : ℕ) → register p r ≡ Some held → field < p.fields → target_of (slice_index_or v.words (place_of held field p.fields) 0) ≡ Some slot → lost slot → ⊥
    held_field r held field slot names within leads gone =
        let fields : p.fields ≡ v.config.fields = (actor_of v t kept is).own.fields in
        let place : ℕ = place_of held field v.config.fields in
        let here : place / v.config.fields + 1 ≡ held + 1 = home_of held field v.config.fields (omega (arith, within, fields)) in
        let source : place / v.config.fields ≡ held = omega (arith, here) in
        f.registers t r held is names (subst lost source (f.fields place slot (subst (λ n. target_of (slice_index_or v.words (place_of held field n) 0) ≡ Some slot) fields leads) gone))

    found : (slot : ℕ) → Finds p op word slot → lost slot → ⊥
    found slot (Finds.had r names) gone = f.registers t r slot is names gone
    found slot (Finds.loaded src field held names within loads leads) gone =
        let here : word ≡ slice_index_or v.words (place_of held field p.fields) 0 = ap (cell (cells_of v)) loads in
        held_field src held field slot names within (ap target_of (sym here) ∙ leads) gone

    taken : (slot : ℕ) → lost slot → IsTaken (sight u) slot
    taken slot gone = let was : IsTaken (sight v) slot = f.taken slot gone in omega (arith, was, steps_keep_taken v t slot was)

    plain : LeavesWords word op → (place slot : ℕ) → target_of (slice_index_or u.words place 0) ≡ Some slot → lost slot → target_of (slice_index_or v.words place 0) ≡ Some slot
    plain leaves place slot leads gone = sym (ap (λ ws. target_of (slice_index_or ws place 0)) (leaves (cells_of v) refl)) ∙ leads

    null_names : {registers : List (Option ℕ)} (r slot : ℕ) → registers ≡ nulls_of p → slice_index_or registers r None ≡ Some slot → ⊥
    null_names r slot null names = let not_so : ◌≡◌ {A = Option ℕ} None (Some slot) = sym (ap (λ (xs : List (Option ℕ)). slice_index_or xs r None) null ∙ null_at (length p.registers) r) ∙ names in cc

    kept_names : Keeps p word (box v t) op q left → Names late lost v u q left
    kept_names k = record {
      registers = λ r slot names gone. elim k.registers [
        | inl same ↦ f.registers t r slot is (sym (ap (λ (xs : List (Option ℕ)). slice_index_or xs r None) same) ∙ names) gone
        | inr some ↦ elim (set_or p.registers some.0 some.1 r None) [
          | inl other ↦ f.registers t r slot is (sym (ap (λ (xs : List (Option ℕ)). slice_index_or xs r None) some.2 ∙ other) ∙ names) gone
          | inr own ↦ found slot (some.3 slot (sym (ap (λ (xs : List (Option ℕ)). slice_index_or xs r None) some.2 ∙ own) ∙ names)) gone
        ]
      ];
      log = λ slot from gone. subst (IsClean slot) (sym k.log) (f.logs t slot is (omega (arith, from, k.epoch)) gone);
      mailbox = λ slot from gone. subst (IsClean slot) (sym k.mailbox) (f.boxes t slot is (omega (arith, from, k.epoch)) gone);
      words = plain k.words;
      taken = taken;
    }

    born_names : Bears p word (box v t) op q left → Names late lost v u q left
    born_names b =
        let free : slice_index_or v.headers b.slot 0 ≡ 0 = sym (ap (cell (cells_of v)) b.operation) ∙ b.free in
        let apart : (slot : ℕ) → lost slot → b.slot ≢ slot = λ slot gone same. (let was : IsTaken (sight v) slot = f.taken slot gone in absurd (omega (arith, was, free, ap (λ n. slice_index_or v.headers n 0) same))) in
        record {
          registers = λ r slot names gone. elim (set_or p.registers b.reg (Some b.slot) r None) [
            | inl other ↦ f.registers t r slot is (sym (ap (λ (xs : List (Option ℕ)). slice_index_or xs r None) b.registers ∙ other) ∙ names) gone
            | inr own ↦ apart slot gone (same_Some b.slot slot (sym (ap (λ (xs : List (Option ℕ)). slice_index_or xs r None) b.registers ∙ own) ∙ names))
          ];
          log = λ slot from gone. subst (IsClean slot) (sym b.log) (clean_with_birth slot p.log b.slot b.leaf (apart slot gone) (f.logs t slot is (omega (arith, from, b.epoch)) gone));
          mailbox = λ slot from gone. subst (IsClean slot) (sym b.mailbox) (f.boxes t slot is (omega (arith, from, b.epoch)) gone);
          words = plain (subst (LeavesWords word) (sym b.operation) (λ cells e. refl));
          taken = taken;
        }

    put_names : Puts p word (box v t) op q left → Names late lost v u q left
    put_names k =
        let place : ℕ = place_of k.slot k.field p.fields in
        let new : ℕ = word_for p k.val in
        let here : word ≡ slice_index_or v.words place 0 = ap (cell (cells_of v)) k.operation in
        let after : u.words ≡ slice_set v.words place new = ap (λ (o : Op). (with_cell (cells_of v) o (written o word)).words) k.operation in
        let leads_there : target_of new ≡ register p k.val = leads_to v t k.val kept is (stays_here v t kept is busy) k.room in
        record {
          registers = λ r slot names gone. f.registers t r slot is (sym (ap (λ (xs : List (Option ℕ)). slice_index_or xs r None) k.registers) ∙ names) gone;
          log = λ slot from gone. subst (IsClean slot) (sym k.log) (clean_with_write slot p.log place new word (λ leads. f.registers t k.val slot is (sym leads_there ∙ leads) gone) (λ leads. held_field k.src k.slot k.field slot k.held k.within (ap target_of (sym here) ∙ leads) gone) (f.logs t slot is (omega (arith, from, k.epoch)) gone));
          mailbox = λ slot from gone. subst (IsClean slot) (sym k.mailbox) (f.boxes t slot is (omega (arith, from, k.epoch)) gone);
          words = λ i slot leads gone. elim (set_or v.words place new i 0) [
            | inl other ↦ sym (ap target_of (ap (λ ws. slice_index_or ws i 0) after ∙ other)) ∙ leads
            | inr own ↦ absurd (f.registers t k.val slot is (sym leads_there ∙ sym (ap target_of (ap (λ ws. slice_index_or ws i 0) after ∙ own)) ∙ leads) gone)
          ];
          taken = taken;
        }

    retired_names : Retires p word (box v t) op q left → Names late lost v u q left
    retired_names k = record {
      registers = λ r slot names gone. elim k.registers [
        | inl same ↦ f.registers t r slot is (sym (ap (λ (xs : List (Option ℕ)). slice_index_or xs r None) same) ∙ names) gone
        | inr null ↦ null_names r slot null names
      ];
      log = λ slot from gone. spare_clean slot v.config q.log (k.log ∙ home);
      mailbox = λ slot from gone. clean_as slot p.log left k.entries (λ r names. elim k.snapshot [
        | inl same ↦ f.registers t r slot is (sym (ap (λ (xs : List (Option ℕ)). slice_index_or xs r None) same) ∙ names) gone
        | inr null ↦ null_names r slot null names
      ]) (f.logs t slot is (omega (arith, from, k.epoch)) gone);
      words = plain k.words;
      taken = taken;
    }
      where
        home : box v t ≡ spare_of v.config
        home =
            let stays = stays_here v t kept is busy in
            let handshake = (actor_of v t kept is).handshake in
            elim k.takes [
              | inl crossing ↦ (crossing_due v.config v.epoch p (crossing_of v t) (box v t) (stand_of v t) stays crossing handshake).1.spare
              | inr leaving ↦ (leaving_home v.config v.epoch p (crossing_of v t) (box v t) (stand_of v t) stays leaving handshake).0
            ]

    names : Sees p word (box v t) op q left → Names late lost v u q left
    names (Sees.keeps k) = kept_names k
    names (Sees.bears b) = born_names b
    names (Sees.puts k) = put_names k
    names (Sees.retires k) = retired_names k

    pub step_forgets : Forgets late first lost u
    step_forgets =
        let actor = actor_of v t kept is in
        let whole = whole_made p word (box v t) busy actor.own.between in
        let boxes : length v.boxes ≡ v.config.mutators = kept.mutators.mailboxes in
        changes_forget late first lost v u t q left is
        (record {
          config = refl;
          own = get_or-set_same v.mutators (t - 1) q nobody (in_list v t kept is);
          own_box = get_or-set_same v.boxes (t - 1) left (collectors.blank 0 0) (omega (arith, boxes, is.0, is.1));
          others = λ s there other. (
            get_or-set_other v.mutators (t - 1) (s - 1) q nobody (λ e. other (omega (arith, e, is.0, there.0))),
            get_or-set_other v.boxes (t - 1) (s - 1) left (collectors.blank 0 0) (λ e. other (omega (arith, e, is.0, there.0))),
          );
          collector = refl;
        })
        (names (seen_step actor.own.machine whole.own whole.mailbox))
        f

-- ---- so each slot hangs on something still, and a trial is followed still

-- all slots are to be offered
pub offering_pends : (v : Core) (x : ℕ) → IsPending v x → IsPending (offering v) x
offering_pends v x (IsPending.log j some) = IsPending.log j some
offering_pends v x (IsPending.mailbox j some) = IsPending.mailbox j some
offering_pends v x (IsPending.newer j some) = IsPending.newer j some
offering_pends v x (IsPending.older early j some) = IsPending.older early j some

-- a field leads where it led, or what it led to is pending
pub hides_leads : (v u : Core) → Hides v u → (m n : ℕ) → Leads (sight v) m n → Leads (sight u) m n ⊎ IsPending u n
hides_leads v u h m n (field, within, leads) = elim (h.fields (place_of m field v.config.fields) n leads) [
  | inl still ↦ inl (field, subst (λ (k : Config). field < k.fields) (sym h.config) within, subst (λ (k : Config). target_of (slice_index_or u.words (place_of m field k.fields) 0) ≡ Some n) (sym h.config) still)
  | inr some ↦ inr some
]

pub hides_covers : (v u : Core) → IsKept true u → Hides v u → IsCovered v → IsCovered u
hides_covers v u after h c slot taken plain = elim (h.taken slot taken) [
  | inr born ↦ later born
  | inl was ↦ carried (sight v) (sight u) (IsPending v) (IsPending u) v.collector.counts u.collector.counts (leaders_count u after)
      (λ x some taken_ plain_. later (h.pending x some))
      (λ x list taken_ plain_. listed (subst (λ (k : collectors.Private). IsListed k.counts x) (sym h.collector) list))
      (edges_hidden v u h)
      slot (c slot was (sym (ap (λ (k : collectors.Private). is_green (slot_at k.counts slot).colour) h.collector) ∙ plain)) taken plain
]
  where
    edges_hidden : (v u : Core) → Hides v u → (m n : ℕ) → Leads (sight v) m n → Leads (sight u) m n ⊎ IsHung (sight u) (IsPending u) u.collector.counts n
    edges_hidden v u h m n leads = elim (hides_leads v u h m n leads) [ inl still ↦ inl still | inr some ↦ inr (λ taken_ plain_. later some) ]

hides_trails : (v u : Core) → Hides v u → (x : ℕ) → Trails (sight v) (IsPending v) x → Trails (sight u) (IsPending u) x
hides_trails v u h = trails_stay (sight v) (sight u) (IsPending v) (IsPending u) h.pending (hides_leads v u h)

pub hides_followed : (v u : Core) (s : State) (m : Machine) → Hides v u → IsFollowed (sight v) (IsPending v) s m → IsFollowed (sight u) (IsPending u) s m
hides_followed v u s m h f = record {
  before = f.before;
  ls = f.ls;
  course = subst (λ (k : Config). Course k.fields f.before (record { machine = m; counts = s }) f.ls) (sym h.config) f.course;
  due = f.due;
  node = f.node;
  marks = λ n g x within there leads.
      let inside : g < v.config.fields = subst (λ (k : Config). g < k.fields) h.config within in
      elim (h.back (place_of n g v.config.fields) x (subst (λ (k : Config). target_of (slice_index_or u.words (place_of n g k.fields) 0) ≡ Some x) h.config leads)) [
        | inl was ↦ elim (f.marks n g x inside there was) [ inl hit ↦ inl hit | inr rest ↦ elim rest [ inl green ↦ inr (inl green) | inr trail ↦ inr (inr (hides_trails v u h x trail)) ] ]
        | inr trail ↦ inr (inr (hides_trails v u h x trail))
      ];
  blacks = λ n g x within hit.
      let inside : g < v.config.fields = subst (λ (k : Config). g < k.fields) h.config within in
      elim (f.blacks n g x inside hit) [
        | inl leads ↦ elim (h.fields (place_of n g v.config.fields) x leads) [ inl still ↦ inl (subst (λ (k : Config). target_of (slice_index_or u.words (place_of n g k.fields) 0) ≡ Some x) (sym h.config) still) | inr some ↦ inr some ]
        | inr some ↦ inr (h.pending x some)
      ];
}

-- a path from what is pending, or from what the collector has otherwise
pub hides_trails_too : (v u : Core) → Hides v u → (own : ℕ → Type 0) → (x : ℕ) → Trails (sight v) (λ y. IsPending v y ⊎ own y) x → Trails (sight u) (λ y. IsPending u y ⊎ own y) x
hides_trails_too v u h own = trails_stay (sight v) (sight u) (λ y. IsPending v y ⊎ own y) (λ y. IsPending u y ⊎ own y) (λ y is. elim is [ inl some ↦ inl (h.pending y some) | inr its ↦ inr its ]) (λ m n (field, within, leads). elim (h.fields (place_of m field v.config.fields) n leads) [
  | inl still ↦ inl (field, subst (λ (k : Config). field < k.fields) (sym h.config) within, subst (λ (k : Config). target_of (slice_index_or u.words (place_of m field k.fields) 0) ≡ Some n) (sym h.config) still)
  | inr some ↦ inr (inl some)
])

-- Each step of a mutator keeps what every heap with its collector keeps.
use Rattle.std.proofs.Common.{◌≡◌, inl, inr, ℕ, ◌+◌, ◌-◌, ◌*◌, ◌^◌, ◌<◌, ◌≤◌, false, List, [], ◌∷◌, ◌++◌, Option, None, Some, length, slice_index_or, slice_set, refl, sym, ap, subst, ◌∙◌, arith, length-append, add-zero, Bool, true}
use Rattle.std.proofs.lemmas.Bool.{false≢true, cases_eq}
use Rattle.std.proofs.lemmas.List.{length-set, get_or-set_same, get_or-set_other}
use Rattle.std.proofs.lemmas.List.Elements.{All-set}
use Rattle.std.proofs.lemmas.Option.{same_Some}
use Rattle.rec_core.proofs.Common.{Retired, Spare, WithCollector, WithMutator, place_of, target_of, Op, Loads, AccountMove, node_of, epoch_of, Holds, Sight, IsTaken, IsSound, word_at, sight_with_header, sight_with_word, register_sound, birth_sound, write_sound, Contents, Entry, Private, register, word_for, IsMachine, IsStore, probe_of, slot_behind, Step, Decides, HasRoom, TakesNone, cell, IsMutator, HasLabel, Core, cells_of, sight, mutator, box, crossing_of, with_mutator, HasLabelAt, HasPassed, HasLearnt, entries_made, IsKept, IsActor, IsHeader, performed, code, epoch_at, has_let_go, pending, header_word, is_leaf}
use Rattle.rec_word.specs.Mailbox.{mailbox_of}
use Rattle.rec_word.specs.declared.mailbox.Mailbox.{Mailbox}
use Rattle.rec_word.specs.declared.op.Op.TheVariants as ops
use Rattle.rec_model.specs.declared.answer.Answer.TheVariants as answers_
use Rattle.rec_model.specs.declared.command.Cmd.TheVariants as commands
use Rattle.rec_log.specs.declared.entry.Entry.TheVariants as entries
use Rattle.rec_model.specs.Asking.{plain, allocation}
use Rattle.rec_mutator.specs.Causes.{gives_back}
use Rattle.rec_mutator.specs.Step.{IsUncollected}
use Rattle.rec_mutator.specs.Took.{is_uncollected_in}
use Rattle.rec_mutator.specs.declared.phase.Phase as phases
use Rattle.rec_mutator.specs.declared.phase.Phase.TheVariants as at
use Rattle.rec_mutator.specs.declared.work.Work.TheVariants as works
use Rattle.rec_mutator.proofs.Around.{behind_below}
use Rattle.rec_mutator.proofs.Refusals.{at_phase}
use Rattle.rec_core.proofs.Actors.{one_entry, epoch_here, mailbox_told}
use Rattle.rec_mutator.proofs.LogStamps.{word_date, word_target}
use Rattle.rec_mutator.specs.Private.{HasStamp}
use Rattle.rec_core.proofs.Moves.{code_target, home_of, has_register, put_moves, birth_moves}
use Rattle.rec_core.proofs.Places.{place_within}
use Rattle.rec_core.proofs.Shapes.{after_cross, after_field, after_header, after_epoch, after_freed, after_probe, after_swap, after_claim}
use Rattle.rec_core.proofs.Steps.{Makes, stand_of, actor_of, in_list, register_taken, target_taken, taken_slot, held_stays, emptied_stays, changed_kept, moved_accounts, answers, answered_actor, unchanged, sets, goes_on, about_to_cross, registers_stay, registers_set, Answers}
use Rattle.rec_word.proofs.Headers.{header_is, header_taken}

-- a mutator that puts dated words puts them in its own epoch
pub epoch_of_put : (p : Private) (val : ℕ) → IsMachine p → HasStamp p → HasRoom p → p.dates ≡ true → epoch_of (word_for p val) ≡ p.epoch
unfolding epoch_of
epoch_of_put p val m stamp room dates = word_date p val m stamp room dates

-- a field's word, where its place was reckoned by the mutator
pub word_found : {dated : Bool} → (w : Core) (t word slot f : ℕ) (op : Op) → IsKept dated w → IsMutator w.config t → word ≡ cell (cells_of w) op → op ≡ ops.LoadField (place_of slot f (mutator w t).fields) → word ≡ word_at (sight w) slot f
word_found w t word slot f op kept is found at = found ∙ ap (cell (cells_of w)) at ∙ ap (λ n. slice_index_or w.words (place_of slot f n) 0) (actor_of w t kept is).own.fields

-- a field of a taken slot is one of the words
place_there : {dated : Bool} → (w : Core) (slot f : ℕ) → IsKept dated w → slot < w.config.slots → f < w.config.fields → place_of slot f w.config.fields < length w.words
place_there w slot f kept below in_range =
    let headers : length w.headers ≡ w.config.slots = kept.headers in
    place_within w.config.fields (length w.headers) (length w.words) slot f kept.sound.places (omega arith) in_range

-- what a register names is held
names_held : (w : Core) (t r slot : ℕ) → IsKept true w → IsMutator w.config t → has_let_go (mutator w t) ≡ false → r < length (mutator w t).registers → register (mutator w t) r ≡ Some slot → Holds (pending w) (epoch_at (mutator w t)) (slot + 1)
names_held w t r slot kept is held within names = subst (Holds (pending w) (epoch_at (mutator w t))) (ap code names) (has_register w t r (in_list w t kept is) held within)

-- the entry that a write made is one of its log's epoch
-- the word that a write leaves leads to what the register names
pub leads_to : {dated : Bool} → (w : Core) (t val : ℕ) → IsKept dated w → IsMutator w.config t → (mutator w t).left ≡ false → HasRoom (mutator w t) → target_of (word_for (mutator w t) val) ≡ register (mutator w t) val
leads_to w t val kept is stays room =
    let p : Private = mutator w t in
    let machine = (actor_of w t kept is).own.machine in
    word_target p val machine (machine.stamped stays) room

module _ {w : Core} {t word : ℕ} {op : Op} {q : Private} (m : Makes w t word op q) where
  abbrev p : Private
  p = mutator w t

  abbrev actor : IsActor true w.config w.epoch (stand_of w t) t p (crossing_of w t) (box w t)
  actor = actor_of w t m.kept m.is

  -- the entries of an answer are more than before
  entries_grow : (registers : List (Option ℕ)) (more : List Entry) → Answers m registers (p.log.entries ++ more) → entries_made w.config p + length more ≤ entries_made w.config q
  entries_grow registers more a =
      let made : (e : ℕ) → Contents → ℕ = λ e b. (e - w.config.first_epoch) * w.config.log_entries + length b.entries in
      let same : entries_made w.config q ≡ made (epoch_at p) (record p.log { entries = p.log.entries ++ more }) = ap (λ e. made e q.log) a.same ∙ ap (made (epoch_at p)) a.log in
      omega (arith, same, length-append p.log.entries more)

  -- a write of a field
  puts : (src f val slot : ℕ) → is_leaf (slice_index_or w.headers slot 0) ≡ false
      → Decides p op q (commands.Put src f val) (at.Storing src f val slot) (ops.SwapField (place_of slot f p.fields) (word_for p val)) p.registers
      (p.log.entries ++ entries.Put (place_of slot f p.fields) (word_for p val) word ∷ []) (record { answer = answers_.Done; saw = word; left = word_for p val })
      → IsKept true (record (with_mutator w t q) { words = slice_set w.words (place_of slot f w.config.fields) (word_for p val) })
  puts src f val slot unmarked d =
      let fields : p.fields ≡ w.config.fields = actor.own.fields in
      let store : IsStore p src f val slot = (at_phase p (at.Storing src f val slot) actor.own.machine d.phase).0 in
      let names : register p src ≡ Some slot = store.source in
      let operands = store.operands in
      let from : src < length p.registers = operands.0 in
      let own_range : f < p.fields = operands.1 in
      let of : val < length p.registers = operands.2 in
      let in_range : f < w.config.fields = omega arith in
      let taken : IsTaken (sight w) slot = register_taken w m.kept t src slot names in
      let below : slot < w.config.slots = taken_slot w m.kept slot taken in
      let place : ℕ = place_of slot f w.config.fields in
      let left : ℕ = word_for p val in
      let is_word : word ≡ slice_index_or w.words place 0 = m.found ∙ ap (cell (cells_of w)) d.operation ∙ ap (λ n. slice_index_or w.words (place_of slot f n) 0) fields in
      let a = answers refl m (decided_at fields is_word d) in
      let free : length p.log.entries < p.log.capacity = store.room in
      let room : HasRoom p = λ full. omega (arith, free, full) in
      let here : epoch_at p ≡ p.epoch = epoch_here p a.here in
      let in_epoch : epoch_of left ≡ epoch_at p = epoch_of_put p val actor.own.machine store.stamp room actor.own.dates ∙ sym here in
      let leads : target_of left ≡ register p val = leads_to w t val m.kept m.is a.stays room in
      let node : node_of left ≡ code (register p val) = sym (code_target left) ∙ ap code leads in
      let there : t - 1 < length w.mutators = in_list w t m.kept m.is in
      let holds : Holds (pending w) (epoch_at p) (slot + 1) = names_held w t src slot m.kept m.is a.held from names in
      subst (λ (n : ℕ). IsKept true (record (with_mutator w t q) { words = slice_set w.words place left; made = n })) (add-zero w.made)
      (changed_kept w t q w.headers (slice_set w.words place left) 0 m.kept m.is (answered_actor a (one_entry w.config (epoch_at p) p.log _ actor.log free in_epoch)) refl m.kept.labels
      (emptied_stays w slot f left m.kept in_range (held_stays w t slot m.kept below holds)) (a.learnt w.config.slots w.freed w.headers) (λ s is. refl)
      (let more = entries_grow p.registers _ a in omega (arith, more)) a.left
      (subst (λ (rss : List (List (Option ℕ))). IsSound (record (sight_with_word (sight w) slot f left) { registers = rss })) (sym (registers_stay w t q a.registers_are))
      (write_sound (sight w) slot f left in_range taken unmarked (λ n is. register_taken w m.kept t val n (sym leads ∙ is)) m.kept.sound))
      (moved_accounts w _ m.kept (AccountMove.put (put_moves w t place left slot val q there (place_there w slot f m.kept below in_range) (home_of slot f w.config.fields in_range) holds
      (λ some. subst (Holds (pending w) (epoch_at p)) (sym node) (has_register w t val there a.held of)) in_epoch (a.holds ∙ sym a.held) a.registers_are a.same a.log)) tt tt))
    where
      decided_at : p.fields ≡ w.config.fields → word ≡ slice_index_or w.words (place_of slot f w.config.fields) 0
          → Decides p op q (commands.Put src f val) (at.Storing src f val slot) (ops.SwapField (place_of slot f p.fields) (word_for p val)) p.registers
          (p.log.entries ++ entries.Put (place_of slot f p.fields) (word_for p val) word ∷ []) (record { answer = answers_.Done; saw = word; left = word_for p val })
          → Decides p op q (commands.Put src f val) (at.Storing src f val slot) (ops.SwapField (place_of slot f p.fields) (word_for p val)) p.registers
          (p.log.entries ++ entries.Put (place_of slot f w.config.fields) (word_for p val) (slice_index_or w.words (place_of slot f w.config.fields) 0) ∷ []) (record { answer = answers_.Done; saw = word; left = word_for p val })
      decided_at fields found is =
          let P : ℕ → ℕ → Type 0 = λ n x. Decides p op q (commands.Put src f val) (at.Storing src f val slot) (ops.SwapField (place_of slot f p.fields) (word_for p val)) p.registers
          (p.log.entries ++ entries.Put (place_of slot f n) (word_for p val) x ∷ []) (record { answer = answers_.Done; saw = word; left = word_for p val }) in
          subst (P w.config.fields) found (subst (λ n. P n word) fields is)

  -- a birth in a free slot
  births : (reg label : ℕ) (leaf : Bool) (before probed slot : ℕ) → word ≡ 0 → slice_index_or w.headers slot 0 ≡ 0 → slot < w.config.slots → label < 2 ^ 32
      → Decides p op q (allocation leaf reg label) (at.Scanning reg label leaf before probed) (ops.ClaimHeader slot (header_word leaf label)) (slice_set p.registers reg (Some slot)) (p.log.entries ++ entries.Born slot leaf ∷ []) (plain answers_.Done)
      → IsKept true (record (with_mutator w t q) { headers = slice_set w.headers slot (header_word leaf label); made = w.made + 1 })
  births reg label leaf before probed slot free empty below fits d =
      let scan = (at_phase p (at.Scanning reg label leaf before probed) actor.own.machine d.phase).0 in
      let within : reg < length p.registers = scan.register in
      let room : length p.log.entries < p.log.capacity = scan.room in
      let headers : length w.headers ≡ w.config.slots = kept_headers in
      let inside : slot < length w.headers = omega arith in
      let a = answers refl m d in
      let seen : Sight = sight_with_header (sight w) slot (header_word leaf label) in
      let taken : IsTaken seen slot = (let is : slice_index_or (slice_set w.headers slot (header_word leaf label)) slot 0 ≡ header_word leaf label = get_or-set_same w.headers slot (header_word leaf label) 0 inside in omega (arith, is)) in
      changed_kept w t q (slice_set w.headers slot (header_word leaf label)) w.words 1 m.kept m.is (answered_actor a (one_entry w.config (epoch_at p) p.log _ actor.log room tt)) (length-set w.headers slot (header_word leaf label))
      (All-set IsHeader w.headers slot (header_word leaf label) (λ _. header_taken leaf label fits) m.kept.labels) m.kept.collector (a.learnt w.config.slots w.freed (slice_set w.headers slot (header_word leaf label))) (still slot (header_word leaf label) empty)
      (entries_grow (slice_set p.registers reg (Some slot)) (entries.Born slot leaf ∷ []) a) a.left
      (subst (λ (rss : List (List (Option ℕ))). IsSound (record seen { registers = rss })) (sym (registers_set w t reg (Some slot) q a.registers_are))
      (register_sound seen t reg (Some slot) (λ n is. subst (IsTaken seen) (same_Some slot n is) taken) (birth_sound (sight w) slot (header_word leaf label) inside empty m.kept.sound)))
      (moved_accounts w _ m.kept (AccountMove.birth (birth_moves w t reg slot label leaf q (header_is leaf label fits) (in_list w t m.kept m.is) a.held a.holds within inside empty a.registers_are a.same a.log)) tt tt)
    where
      kept_headers : length w.headers ≡ w.config.slots
      kept_headers = m.kept.headers

      still : (x header : ℕ) → slice_index_or w.headers x 0 ≡ 0 → (s : ℕ) → 0 < slice_index_or w.headers s 0 → slice_index_or (slice_set w.headers x header) s 0 ≡ slice_index_or w.headers s 0
      still x header free s some = get_or-set_other w.headers x s header 0 (λ same. omega (arith, some, free, ap (λ n. slice_index_or w.headers n 0) same))

-- what is known of a scan's slot
pub scanned : {dated : Bool} → (w : Core) (t : ℕ) (phase : phases.Phase) → IsKept dated w → IsMutator w.config t → (mutator w t).phase ≡ phase → HasLearnt w.config.slots w.headers w.freed (mutator w t).from phase
scanned w t phase kept is at = subst (HasLearnt w.config.slots w.headers w.freed (mutator w t).from) at (kept.learnt t is)

-- a probe's word
pub probe_found : (w : Core) (word slot header : ℕ) (op : Op) → word ≡ cell (cells_of w) op → op ≡ ops.ClaimHeader slot header → word ≡ slice_index_or w.headers slot 0
probe_found w word slot header op found at = found ∙ ap (cell (cells_of w)) at

-- the slot that a scan of a kept heap has come to
pub probes : {dated : Bool} → (w : Core) (t probed : ℕ) → IsKept dated w → IsMutator w.config t → (probe_of (mutator w t) probed ≡ slot_behind w.config.slots (mutator w t).from probed) × (probe_of (mutator w t) probed < w.config.slots)
probes w t probed kept is =
    let at : probe_of (mutator w t) probed ≡ slot_behind w.config.slots (mutator w t).from probed = ap (λ n. slot_behind n (mutator w t).from probed) (actor_of w t kept is).own.slots in
    (at, subst (λ n. n < w.config.slots) (sym at) (behind_below w.config.slots (mutator w t).from probed kept.config.some_slots))

-- a scan that passes a taken slot has passed it
passes : (w : Core) (from before probed : ℕ) → HasPassed w.config.slots w.headers w.freed from before probed → 0 < slice_index_or w.headers (slot_behind w.config.slots from probed) 0 → HasPassed w.config.slots w.headers w.freed from before (probed + 1)
passes w from before probed is taken = (
  is.0,
  λ same even count below. elim (cases_eq count probed) [
    | inl here ↦ subst (λ n. 0 < slice_index_or w.headers (slot_behind w.config.slots from n) 0) (sym here) taken
    | inr other ↦ is.1 same even count (omega arith)
  ],
)

passed_on : {dated : Bool} → (w : Core) (t reg label : ℕ) (leaf : Bool) (before probed : ℕ) → IsKept dated w → IsMutator w.config t → (mutator w t).phase ≡ at.Scanning reg label leaf before probed → 0 < slice_index_or w.headers (probe_of (mutator w t) probed) 0
    → HasPassed w.config.slots w.headers w.freed (mutator w t).from before (probed + 1)
passed_on w t reg label leaf before probed kept is phase taken =
    passes w (mutator w t).from before probed (scanned w t (at.Scanning reg label leaf before probed) kept is phase) (subst (λ n. 0 < slice_index_or w.headers n 0) (probes w t probed kept is).0 taken)

-- the label of a scan
pub label_at : {dated : Bool} → (w : Core) (t : ℕ) (phase : phases.Phase) → IsKept dated w → IsMutator w.config t → (mutator w t).phase ≡ phase → HasLabelAt phase
label_at w t phase kept is at = subst HasLabelAt at (actor_of w t kept is).own.label

begun_label : (reg label : ℕ) (leaf : Bool) → HasLabel (works.Command (allocation leaf reg label)) → label < 2 ^ 32
begun_label reg label true fits = fits
begun_label reg label false fits = fits

-- a crossing word of a mutator that may leave says that no log of its own is to be collected
is_collected : (word : ℕ) (mailbox : Mailbox) → mailbox_of word ≡ mailbox → (IsUncollected word → ⊥) → is_uncollected_in mailbox ≡ false
is_collected word Retired told collected = absurd (collected (inl told))
is_collected word WithCollector told collected = absurd (collected (inr told))
is_collected word Spare told collected = refl
is_collected word WithMutator told collected = refl

-- every step that takes no mailbox and gives none back
pub performed_kept : {w : Core} {t word : ℕ} {op : Op} {q : Private} → gives_back (mutator w t).phase ≡ false → Makes w t word op q → Step (mutator w t) word (box w t) op q → IsKept true (performed w t op word q (box w t))
performed_kept {w = w} {t = t} {word = word} {op = op} {q = q} here m (Step.null reg d) =
    after_cross (IsKept true) w t _ word q op d.operation m.found (sets reg None refl m (at_phase (mutator w t) _ (actor m).own.machine d.phase).0 (λ slot e. cc) (λ some. absurd (omega arith)) d)
performed_kept {w = w} {t = t} {word = word} {op = op} {q = q} here m (Step.copy dst src d) =
    let operands = (at_phase (mutator w t) _ (actor m).own.machine d.phase).0 in
    after_cross (IsKept true) w t _ word q op d.operation m.found
    (sets dst (register (mutator w t) src) refl m operands.0 (λ slot e. register_taken w m.kept t src slot e) (λ some. inl (has_register w t src (in_list w t m.kept m.is) (answers refl m d).held operands.1)) d)
performed_kept {w = w} {t = t} {word = word} {op = op} {q = q} here m (Step.compare a b d) = after_cross (IsKept true) w t _ word q op d.operation m.found (unchanged refl m d)
performed_kept {w = w} {t = t} {word = word} {op = op} {q = q} here m (Step.park d) = after_cross (IsKept true) w t _ word q op d.operation m.found (unchanged refl m d)
performed_kept {w = w} {t = t} {word = word} {op = op} {q = q} here m (Step.unpark d) = after_cross (IsKept true) w t _ word q op d.operation m.found (unchanged refl m d)
performed_kept {w = w} {t = t} {word = word} {op = op} {q = q} here m (Step.get_of_null dst src f names d) = after_cross (IsKept true) w t _ word q op d.operation m.found (unchanged refl m d)
performed_kept {w = w} {t = t} {word = word} {op = op} {q = q} here m (Step.get dst src f slot names d) =
    let p : Private = mutator w t in
    let fields : p.fields ≡ w.config.fields = (actor m).own.fields in
    let operands = (at_phase p (at.Begun (works.Command (commands.Get dst src f))) (actor m).own.machine d.phase).0 in
    let own_range : f < p.fields = operands.2 in
    let in_range : f < w.config.fields = omega arith in
    let taken : IsTaken (sight w) slot = register_taken w m.kept t src slot names in
    let below : slot < w.config.slots = taken_slot w m.kept slot taken in
    let is_word : word ≡ word_at (sight w) slot f = word_found w t word slot f op m.kept m.is m.found d.operation in
    let place : ℕ = place_of slot f w.config.fields in
    let loads : Loads (pending w) (epoch_at p) (code (target_of word)) = record {
      place = place;
      inside = place_there w slot f m.kept below in_range;
      source = subst (Holds (pending w) (epoch_at p)) (sym (home_of slot f w.config.fields in_range)) (names_held w t src slot m.kept m.is (answers refl m d).held operands.1 names);
      target = code_target word ∙ ap node_of is_word;
    } in
    after_field (IsKept true) w t _ word q op d.operation m.found
    (sets dst (target_of word) refl m operands.0 (λ n e. target_taken w m.kept slot f n in_range taken (ap target_of (sym is_word) ∙ e)) (λ some. inr loads) d)
performed_kept {w = w} {t = t} {word = word} {op = op} {q = q} here m (Step.put_of_null src f val names d) = after_cross (IsKept true) w t _ word q op d.operation m.found (unchanged refl m d)
performed_kept {w = w} {t = t} {word = word} {op = op} {q = q} here m (Step.put_refused src f val slot names full d) = after_cross (IsKept true) w t _ word q op d.operation m.found (unchanged refl m d)
performed_kept {w = w} {t = t} {word = word} {op = op} {q = q} here m (Step.put_into_leaf src f val slot names room leaf d) = after_header (IsKept true) w t _ word q op d.operation m.found (unchanged refl m d)
performed_kept {w = w} {t = t} {word = word} {op = op} {q = q} here m (Step.put_begins src f val slot names room unmarked g) =
    let header : word ≡ slice_index_or w.headers slot 0 = m.found ∙ ap (cell (cells_of w)) g.operation in
    after_header (IsKept true) w t _ word q op g.operation m.found (goes_on refl m refl (λ mailbox is. tt) tt (sym (ap is_leaf header) ∙ unmarked) g)
performed_kept {w = w} {t = t} {word = word} {op = op} {q = q} here m (Step.put src f val slot d) =
    let fields : (mutator w t).fields ≡ w.config.fields = (actor m).own.fields in
    after_swap (IsKept true) w t _ _ word q op d.operation
    (subst (λ n. IsKept true (record (with_mutator w t q) { words = slice_set w.words (place_of slot f n) (word_for (mutator w t) val) })) (sym fields) (puts m src f val slot (scanned w t (at.Storing src f val slot) m.kept m.is d.phase) d))
performed_kept {w = w} {t = t} {word = word} {op = op} {q = q} here m (Step.value_of_null reg names d) = after_cross (IsKept true) w t _ word q op d.operation m.found (unchanged refl m d)
performed_kept {w = w} {t = t} {word = word} {op = op} {q = q} here m (Step.value reg slot names d) = after_header (IsKept true) w t _ word q op d.operation m.found (unchanged refl m d)
performed_kept {w = w} {t = t} {word = word} {op = op} {q = q} here m (Step.new_refused reg label leaf full d) = after_cross (IsKept true) w t _ word q op d.operation m.found (unchanged refl m d)
performed_kept {w = w} {t = t} {word = word} {op = op} {q = q} here m (Step.new_begins reg label leaf room g) =
    let freed : word ≡ w.freed = m.found ∙ ap (cell (cells_of w)) g.operation in
    after_freed (IsKept true) w t word q op g.operation m.found (goes_on refl m refl (λ mailbox is. tt) (begun_label reg label leaf (label_at w t _ m.kept m.is g.phase)) (omega (arith, freed), λ _ _ count below. absurd (omega arith)) g)
performed_kept {w = w} {t = t} {word = word} {op = op} {q = q} here m (Step.new_wins reg label leaf before probed free d) =
    let slot : ℕ = probe_of (mutator w t) probed in
    let there : slot < w.config.slots = (probes w t probed m.kept m.is).1 in
    let header : slice_index_or w.headers slot 0 ≡ 0 = sym (probe_found w word slot (header_word leaf label) op m.found d.operation) ∙ free in
    after_claim (IsKept true) w t slot (header_word leaf label) word q op d.operation free (births m reg label leaf before probed slot free header there (label_at w t (at.Scanning reg label leaf before probed) m.kept m.is d.phase) d)
performed_kept {w = w} {t = t} {word = word} {op = op} {q = q} here m (Step.new_goes_on reg label leaf before probed taken more g) =
    let slot : ℕ = probe_of (mutator w t) probed in
    let header : word ≡ slice_index_or w.headers slot 0 = probe_found w word slot (header_word leaf label) op m.found g.operation in
    after_probe (IsKept true) w t slot (header_word leaf label) word q op g.operation m.found taken
    (goes_on refl m refl (λ mailbox is. tt) (label_at w t (at.Scanning reg label leaf before probed) m.kept m.is g.phase) (passed_on w t reg label leaf before probed m.kept m.is g.phase (omega arith)) g)
performed_kept {w = w} {t = t} {word = word} {op = op} {q = q} here m (Step.new_finds_none reg label leaf before probed taken last g) =
    let slot : ℕ = probe_of (mutator w t) probed in
    let header : word ≡ slice_index_or w.headers slot 0 = probe_found w word slot (header_word leaf label) op m.found g.operation in
    let slots : (mutator w t).slots ≡ w.config.slots = (actor m).own.slots in
    let all : probed + 1 ≡ w.config.slots = last ∙ slots in
    after_probe (IsKept true) w t slot (header_word leaf label) word q op g.operation m.found taken
    (goes_on refl m refl (λ mailbox is. tt) tt (subst (HasPassed w.config.slots w.headers w.freed (mutator w t).from before) all (passed_on w t reg label leaf before probed m.kept m.is g.phase (omega arith))) g)
performed_kept {w = w} {t = t} {word = word} {op = op} {q = q} here m (Step.new_is_full reg label leaf before still d) = after_freed (IsKept true) w t word q op d.operation m.found (unchanged refl m d)
performed_kept {w = w} {t = t} {word = word} {op = op} {q = q} here m (Step.new_is_busy reg label leaf before moves d) = after_freed (IsKept true) w t word q op d.operation m.found (unchanged refl m d)
performed_kept {w = w} {t = t} {word = word} {op = op} {q = q} here m (Step.leave_refused uncollected d) = after_cross (IsKept true) w t _ word q op d.operation m.found (unchanged refl m d)
performed_kept {w = w} {t = t} {word = word} {op = op} {q = q} here m (Step.leave_begins collected g) =
    let own_word : word ≡ crossing_of w t = m.found ∙ ap (cell (cells_of w)) g.operation ∙ ap (λ n. slice_index_or w.crossing (n - 1) 0) (actor m).own.number in
    after_cross (IsKept true) w t _ word q op g.operation m.found (goes_on refl m refl (λ mailbox is. is_collected word mailbox (ap mailbox_of (own_word ∙ is) ∙ mailbox_told w.epoch mailbox) collected) tt tt g)
performed_kept {w = w} {t = t} here m (Step.leave l) = absurd (subst TakesNone l.phase m.none)
performed_kept {w = w} {t = t} here m (Step.leave_ends l) = absurd (false≢true (sym here ∙ ap gives_back l.phase))
performed_kept {w = w} {t = t} {word = word} {op = op} {q = q} here m (Step.poll_stays own g) = after_epoch (IsKept true) w t word q op g.operation m.found (goes_on refl m refl (λ mailbox is. tt) tt tt g)
performed_kept {w = w} {t = t} {word = word} {op = op} {q = q} here m (Step.poll_crosses other g) = after_epoch (IsKept true) w t word q op g.operation m.found (about_to_cross m other g)
performed_kept here m (Step.take_box c) = absurd (subst TakesNone c.phase m.none)
performed_kept here m (Step.give_box c) = absurd (false≢true (sym here ∙ ap gives_back c.phase))

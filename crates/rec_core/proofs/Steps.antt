-- A step of a mutator keeps what every heap with its collector keeps, rule by rule.
use Rattle.std.proofs.Common.{◌≡◌, ◌≢◌, ◌⊎◌, inl, inr, ℕ, ◌+◌, ◌-◌, ◌*◌, ◌<◌, ◌≤◌, if◌then◌else◌, Bool, true, false, List, [], Option, None, Some, length, map, slice_index_or, slice_set, refl, sym, ap, subst, ◌∙◌, arith, add-zero}
use Rattle.std.specs.List.{All, sum_by}
use Rattle.std.proofs.Math.ListN.{get_or-map}
use Rattle.std.proofs.Math.Seq.{map-set_same}
use Rattle.std.proofs.lemmas.Bool.{false≢true, cases_eq, cases_lt}
use Rattle.std.proofs.lemmas.List.{map-set, get_or-set_same, get_or-set_other, get_or_past, get_or_default}
use Rattle.std.proofs.lemmas.List.Sums.{sum_by-set}
use Rattle.std.proofs.lemmas.Nat.{same_from_place}
use Rattle.rec_core.proofs.Common.{crossing_word, Spare, place_of, target_of, Op, IsAccounted, HasUncountedReleased, is_dead, AccountMove, Loads, Pending, Holds, IsAfterLoads, IsAmongTests, IsTaken, IsSound, word_at, words_of, registers_name_the_taken, move_uncounted, move_accounted, register_sound, word_in, Contents, Entry, slot_at, absent, fresh, Slot, Private, register, IsStore, is_busy, slot_behind, Returning, Step, Decides, GoesOn, IsFound, TakesNone, cell, IsMutator, Core, cells_of, sight, mutator, box, crossing_of, nobody, with_mutator, HasCyclesAt, IsSettledIn, HasLabelAt, Handshake, IsHandshake, IsHeldAt, stand_at, IsOwn, IsBufferOf, IsActor, HasCollector, HasLearnt, HaveLearnt, entries_made, freeing_due, IsKept, IsHeader, code, epoch_at, has_let_go, slot_of, pending, Config, is_leaf}
use Rattle.rec_word.specs.declared.op.Op.TheVariants as ops
use Rattle.rec_word.specs.declared.mailbox.Mailbox.{Mailbox}
use Rattle.rec_model.specs.Heap.{registers_of, register as register_in, set_register}
use Rattle.rec_model.specs.Reach.{named}
use Rattle.rec_model.specs.declared.command.Cmd.{Cmd}
use Rattle.rec_model.specs.declared.told.Told.{Told}
use Rattle.rec_model.proofs.Names.{register_root, named_at}
use Rattle.rec_mutator.specs.Causes.{gives_back}
use Rattle.rec_mutator.specs.declared.phase.Phase as phases
use Rattle.rec_mutator.specs.declared.phase.Phase.TheVariants as at
use Rattle.rec_mutator.specs.declared.work.Work.TheVariants as works
use Rattle.rec_word.proofs.Headers.{leaf_taken}
use Rattle.rec_collector.specs.Kept as collector_kept
use Rattle.rec_collector.specs.Private as collectors
use Rattle.rec_collector.specs.declared.phase.Phase.{Phase}
use Rattle.rec_core.proofs.Actors.{busy_stays, idle_of, own_stepped, epoch_here, not_parting, holds_registers, behind_due, actor_stays, mutator_changes}
use Rattle.rec_core.proofs.Cycling.{cycles_moved, machine_alive}
use Rattle.rec_mutator.proofs.Machines.{IsBox}
use Rattle.rec_core.proofs.Moves.{same_pending, register_moves}
use Rattle.rec_mutator.proofs.Refusals.{at_phase}

-- A step of mutator `t` that takes no mailbox, of a heap with its collector.
pub record Makes (w : Core) (t : ℕ) (word : ℕ) (op : Op) (q : Private) : Type 0 where
  pub kept : IsKept true w
  pub is : IsMutator w.config t
  pub none : TakesNone (mutator w t).phase
  pub busy : is_busy (mutator w t) ≡ true
  pub found : word ≡ cell (cells_of w) op
  pub may : IsFound (mutator w t) op word
  pub step : Step (mutator w t) word (box w t) op q

-- where a mutator stands
abbrev pub stand_of : Core → (t : ℕ) → Handshake
stand_of w t = stand_at w.collector.left w.collector.phase t

-- what is known of a mutator
pub actor_of : {dated : Bool} → (w : Core) (t : ℕ) → IsKept dated w → IsMutator w.config t → IsActor dated w.config w.epoch (stand_of w t) t (mutator w t) (crossing_of w t) (box w t)
actor_of w t kept is = kept.mutators.each t is

-- one that isn't finished with its work hasn't left
pub stays_here : {dated : Bool} → (w : Core) (t : ℕ) → IsKept dated w → IsMutator w.config t → is_busy (mutator w t) ≡ true → (mutator w t).left ≡ false
stays_here w t kept is busy = busy_stays (actor_of w t kept is).own busy

-- it is one of the list
pub in_list : {dated : Bool} → (w : Core) (t : ℕ) → IsKept dated w → IsMutator w.config t → t - 1 < length w.mutators
in_list w t kept is = let many : length w.mutators ≡ w.config.mutators = kept.mutators.many in omega (arith, is.0, is.1)

-- what its mailbox holds is as large as its log
pub its_box : {dated : Bool} → (w : Core) (t : ℕ) → IsKept dated w → IsMutator w.config t → IsBox (mutator w t) (box w t)
its_box w t kept is =
    let a = actor_of w t kept is in
    record { snapshot = a.mailbox.snapshot ∙ sym a.own.registers; capacity = a.mailbox.capacity ∙ sym a.own.capacity; entries = a.mailbox.few }

-- what is seen of a mutator's registers
pub own_registers : (w : Core) (t : ℕ) → registers_of (sight w).registers t ≡ (mutator w t).registers
own_registers w t = get_or-map (λ (p : Private). p.registers) w.mutators (t - 1) nobody

pub own_register : (w : Core) (t r : ℕ) → register_in (sight w).registers t r ≡ register (mutator w t) r
own_register w t r = ap (λ (rs : List (Option ℕ)). slice_index_or rs r None) (own_registers w t)

-- what a register names is taken
pub register_taken : {dated : Bool} → (w : Core) → IsKept dated w → (t r slot : ℕ) → register (mutator w t) r ≡ Some slot → IsTaken (sight w) slot
register_taken w kept t r slot is = kept.sound.registers slot (register_root (sight w).registers t r slot (own_register w t r ∙ is))

-- what a field of a taken slot leads to is taken
pub target_taken : {dated : Bool} → (w : Core) → IsKept dated w → (slot f n : ℕ) → f < w.config.fields → IsTaken (sight w) slot → target_of (word_at (sight w) slot f) ≡ Some n → IsTaken (sight w) n
target_taken w kept slot f n in_range taken is =
    kept.sound.fields slot n taken (named_at (map target_of (words_of (sight w) slot)) f n (get_or-map target_of (words_of (sight w) slot) f 0 ∙ ap target_of (word_in (sight w) slot f in_range) ∙ is))

-- a taken slot is a slot
pub taken_slot : {dated : Bool} → (w : Core) → IsKept dated w → (slot : ℕ) → IsTaken (sight w) slot → slot < w.config.slots
taken_slot w kept slot taken =
    let headers : length w.headers ≡ w.config.slots = kept.headers in
    elim (cases_lt slot (length w.headers)) [
      | inl below ↦ omega arith
      | inr past ↦ let is : slice_index_or w.headers slot 0 ≡ 0 = get_or_past w.headers slot 0 past in absurd (omega arith)
    ]

-- what is kept of a slot that is there, whatever stands past the last one
pub slot_there : {dated : Bool} → (w : Core) → IsKept dated w → (slot : ℕ) → slot < w.config.slots → slot_of w (slot + 1) ≡ slot_at w.collector.counts slot
slot_there w kept slot below =
    let many : length w.collector.counts.slots ≡ w.config.slots = kept.collector.slots in
    let at : slot + 1 - 1 ≡ slot = omega arith in
    ap (λ (n : ℕ). slice_index_or w.collector.counts.slots n fresh) at ∙ get_or_default w.collector.counts.slots slot fresh absent (omega arith)

-- the words of all fields
pub fields_many : {dated : Bool} → (w : Core) (slots fields : ℕ) → IsKept dated w → slots ≡ w.config.slots → fields ≡ w.config.fields → slots * fields ≡ length w.words
fields_many w slots fields kept s f =
    let headers : length w.headers ≡ w.config.slots = kept.headers in
    ap (λ n. n * fields) s ∙ ap (λ n. w.config.slots * n) f ∙ ap (λ n. n * w.config.fields) (sym headers) ∙ sym kept.sound.places

-- what is held isn't given up
pub held_stays : (w : Core) (t slot : ℕ) → IsKept true w → slot < w.config.slots → Holds (pending w) (epoch_at (mutator w t)) (slot + 1) → (slot_at w.collector.counts slot).released ≡ false
held_stays w t slot kept below holds =
    let alive : is_dead (pending w) (slot + 1) ≡ false = registers_name_the_taken (pending w) kept.accounted (epoch_at (mutator w t)) (slot + 1) (omega arith) holds in
    ap (λ (s : Slot). s.released) (sym (slot_there w kept slot below)) ∙ unreleased ((pending w).free (slot + 1)) ((pending w).released (slot + 1)) alive
  where
    unreleased : (free released : Bool) → (if free then true else released) ≡ false → released ≡ false
    unreleased true released is = absurd (false≢true (sym is))
    unreleased false released is = is

-- a field that is written isn't one that was emptied, as it is a held slot's
pub emptied_stays : (w : Core) (slot f new : ℕ) → IsKept true w → f < w.config.fields → (slot_at w.collector.counts slot).released ≡ false → HasCollector true w.config w.epoch (slice_set w.words (place_of slot f w.config.fields) new) w.collector
emptied_stays w slot f new kept in_range unreleased =
    let c = kept.collector in
    record {
      machine = c.machine;
      between = c.between;
      slots = c.slots;
      fields = c.fields;
      registers = c.registers;
      capacity = c.capacity;
      policy = c.policy;
      mutators = c.mutators;
      epoch = c.epoch;
      begun = c.begun;
      newer = c.newer;
      older = c.older;
      listed = c.listed;
      emptied = λ x g below within released. elim (c.emptied x g below within released) [
        | inl left ↦ inl left
        | inr (inl left) ↦ inr (inl left)
        | inr (inr none) ↦
            let other : place_of x g w.config.fields ≢ place_of slot f w.config.fields
            = λ same. false≢true (sym unreleased ∙ ap (λ (n : ℕ). (slot_at w.collector.counts n).released) (sym (same_from_place x g slot f w.config.fields within in_range same).0) ∙ released) in
            inr (inr (get_or-set_other w.words (place_of slot f w.config.fields) (place_of x g w.config.fields) new 0 other ∙ none))
      ];
    }

-- the scans of all mutators, where one goes on
pub learnt_stays : (w : Core) (t : ℕ) (q : Private) (headers : List ℕ) → IsKept true w → IsMutator w.config t → HasLearnt w.config.slots headers w.freed q.from q.phase
    → ((s : ℕ) → 0 < slice_index_or w.headers s 0 → slice_index_or headers s 0 ≡ slice_index_or w.headers s 0) → HaveLearnt w.config headers w.freed (slice_set w.mutators (t - 1) q)
learnt_stays w t q headers kept is learnt still s there = elim (cases_eq s t) [
  | inl same ↦
      let here : slice_index_or (slice_set w.mutators (t - 1) q) (s - 1) nobody ≡ q
      = ap (λ n. slice_index_or (slice_set w.mutators (t - 1) q) (n - 1) nobody) same ∙ get_or-set_same w.mutators (t - 1) q nobody (in_list w t kept is) in
      subst (λ (p : Private). HasLearnt w.config.slots headers w.freed p.from p.phase) (sym here) learnt
  | inr other ↦
      let apart : (s - 1) ≢ (t - 1) = λ e. other (omega (arith, is.0, there.0)) in
      subst (λ (p : Private). HasLearnt w.config.slots headers w.freed p.from p.phase) (sym (get_or-set_other w.mutators (t - 1) (s - 1) q nobody apart)) (grown (mutator w s).from (mutator w s).phase refl (kept.learnt s there))
]
  where
    more : (z : ℕ) → 0 < slice_index_or w.headers z 0 → 0 < slice_index_or headers z 0
    more z some = omega (arith, some, still z some)

    grown : (from : ℕ) (phase : phases.Phase) → (mutator w s).phase ≡ phase → HasLearnt w.config.slots w.headers w.freed from phase → HasLearnt w.config.slots headers w.freed from phase
    grown from (at.Scanning reg label leaf before probed) here is = (is.0, λ same even count below. more (slot_behind w.config.slots from count) (is.1 same even count below))
    grown from (at.Scanned reg label leaf before) here is = (is.0, λ same even count below. more (slot_behind w.config.slots from count) (is.1 same even count below))
    grown from (at.Storing src f val slot) here is =
        let store : IsStore (mutator w s) src f val slot = (at_phase (mutator w s) (at.Storing src f val slot) (actor_of w s kept there).own.machine here).0 in
        ap is_leaf (still slot (register_taken w kept s src slot store.source)) ∙ is
    grown from _ here is = tt

-- what the entries that were made come to, where one mutator goes on
pub entries_stay : (w : Core) (t births : ℕ) (q : Private) → IsKept true w → IsMutator w.config t → entries_made w.config (mutator w t) + births ≤ entries_made w.config q → w.made + births ≤ w.config.slots + sum_by (entries_made w.config) (slice_set w.mutators (t - 1) q)
entries_stay w t births q kept is more = omega (arith, kept.made, more, sum_by-set (entries_made w.config) w.mutators (t - 1) q nobody (in_list w t kept is))

-- While a mailbox is held, the buffer that was taken from it is marked just where its mutator has left, whatever a mutator does that leaves
-- at most where its own mailbox isn't held.
pub held_after : (w v : Core) (t : ℕ) (q : Private) → IsKept true w → IsMutator w.config t → v.collector ≡ w.collector → v.mutators ≡ slice_set w.mutators (t - 1) q → (w.collector.phase ≡ Returning t → q.left ≡ (mutator w t).left) → IsHeldAt v v.collector.phase
held_after w v t q kept is same mutators left =
    subst (λ (c : collectors.Private). IsHeldAt (record v { collector = c }) c.phase) (sym same) (go w.collector.phase refl kept.held)
  where
    at_same : (u : ℕ) → w.collector.phase ≡ Returning u → u ≡ t → (mutator v u).left ≡ (mutator w u).left
    at_same u phase own =
        let own_left : (mutator v t).left ≡ (mutator w t).left
        = ap (λ (ps : List Private). (slice_index_or ps (t - 1) nobody).left) mutators ∙ ap (λ (p : Private). p.left) (get_or-set_same w.mutators (t - 1) q nobody (in_list w t kept is)) ∙ left (phase ∙ ap Returning own) in
        subst (λ n. (mutator v n).left ≡ (mutator w n).left) (sym own) own_left

    at_other : (u : ℕ) → w.collector.phase ≡ Returning u → u ≢ t → (mutator v u).left ≡ (mutator w u).left
    at_other u phase other =
        let first : 0 < u = (subst (collector_kept.IsAt w.collector) phase kept.collector.machine.now).first in
        let apart : (u - 1) ≢ (t - 1) = λ e. other (omega (arith, first, is.0)) in
        ap (λ (ps : List Private). (slice_index_or ps (u - 1) nobody).left) mutators ∙ ap (λ (p : Private). p.left) (get_or-set_other w.mutators (t - 1) (u - 1) q nobody apart)

    go : (phase : Phase) → w.collector.phase ≡ phase → IsHeldAt w phase → IsHeldAt (record v { collector = w.collector }) phase
    go (Returning u) phase held = (held.0, held.1 ∙ sym (elim (cases_eq u t) [ inl own ↦ at_same u phase own | inr other ↦ at_other u phase other ]))
    go _ phase held = tt

-- what is to be accounted for after a step of a mutator
pub record HasAccounts (w : Core) (v : Pending) : Type 0 where
  pub accounted : IsAccounted v
  pub uncounted : freeing_due w.collector.phase ≡ None → HasUncountedReleased v
  pub cycles : HasCyclesAt v w.collector w.collector.phase

-- A heap in which a mutator has moved, with headers, words and births, is kept where each part of it is.
pub changed_kept : (w : Core) (t : ℕ) (q : Private) (headers words : List ℕ) (births : ℕ) → IsKept true w → IsMutator w.config t → IsActor true w.config w.epoch (stand_of w t) t q (crossing_of w t) (box w t)
    → length headers ≡ length w.headers → All IsHeader headers → HasCollector true w.config w.epoch words w.collector
    → HasLearnt w.config.slots headers w.freed q.from q.phase → ((s : ℕ) → 0 < slice_index_or w.headers s 0 → slice_index_or headers s 0 ≡ slice_index_or w.headers s 0)
    → entries_made w.config (mutator w t) + births ≤ entries_made w.config q → q.left ≡ (mutator w t).left
    → IsSound (sight (record (with_mutator w t q) { headers = headers; words = words }))
    → HasAccounts w (pending (record (with_mutator w t q) { headers = headers; words = words; made = w.made + births }))
    → IsKept true (record (with_mutator w t q) { headers = headers; words = words; made = w.made + births })
changed_kept w t q headers words births kept is actor same labels collector learnt still entries left sound accounts =
    record {
      whole = record {
        config = kept.config;
        headers = same ∙ kept.headers;
        labels = labels;
        mutators = mutator_changes t q kept.mutators is actor;
        collector = collector;
        sweeps = kept.sweeps;
        learnt = learnt_stays w t q headers kept is learnt still;
        made = entries_stay w t births q kept is entries;
        sound = sound;
        greens = λ x green. ap is_leaf (still x (leaf_taken (slice_index_or w.headers x 0) (kept.greens x green))) ∙ kept.greens x green;
        accounted = accounts.accounted;
        uncounted = accounts.uncounted;
        cycles = accounts.cycles;
      };
      held = held_after w (record (with_mutator w t q) { headers = headers; words = words; made = w.made + births }) t q kept is refl refl (λ _. left);
      behind = tt;
    }

-- the registers of all mutators stay, if those of the one do
pub registers_stay : (w : Core) (t : ℕ) (q : Private) → q.registers ≡ (mutator w t).registers → map (λ (p : Private). p.registers) (slice_set w.mutators (t - 1) q) ≡ (sight w).registers
registers_stay w t q same = map-set_same (λ (p : Private). p.registers) w.mutators (t - 1) q nobody same

-- one register is changed, if it is of the one
pub registers_set : (w : Core) (t r : ℕ) (x : Option ℕ) (q : Private) → q.registers ≡ slice_set (mutator w t).registers r x
    → map (λ (p : Private). p.registers) (slice_set w.mutators (t - 1) q) ≡ set_register (sight w).registers t r x
registers_set w t r x q is =
    let set_own : List (Option ℕ) → List (List (Option ℕ)) = λ rs. slice_set (sight w).registers (t - 1) rs in
    map-set (λ (p : Private). p.registers) w.mutators (t - 1) q ∙ ap set_own (is ∙ ap (λ rs. slice_set rs r x) (sym (own_registers w t)))

-- the accounts after a move
pub moved_accounts : (w : Core) (v : Pending) → IsKept true w → (move : AccountMove (pending w) v) → IsAfterLoads move → IsAmongTests move → HasAccounts w v
moved_accounts w v kept move after among = record {
  accounted = move_accounted move kept.accounted;
  uncounted = λ unfreed. move_uncounted move kept.accounted (kept.uncounted unfreed);
  cycles = cycles_moved w.collector w.collector.phase move after (λ _. among) kept.accounted (machine_alive w.collector w.collector.phase kept.collector.machine kept.collector.machine.now) kept.cycles;
}

-- all that is pending stayed
pub stayed_accounts : (w : Core) (v : Pending) → IsKept true w → v ≡ pending w → HasAccounts w v
stayed_accounts w v kept same = subst (HasAccounts w) (sym same) (record { accounted = kept.accounted; uncounted = kept.uncounted; cycles = kept.cycles })

-- no more entries where epoch and log stay
pub same_entries : (config : Config) (p q : Private) → epoch_at q ≡ epoch_at p → q.log ≡ p.log → entries_made config p + 0 ≤ entries_made config q
same_entries config p q epoch log =
    let made : (e : ℕ) → Contents → ℕ = λ e b. (e - config.first_epoch) * config.log_entries + length b.entries in
    let same : entries_made config q ≡ entries_made config p = ap (λ e. made e q.log) epoch ∙ ap (made (epoch_at p)) log in
    omega (arith, same)

-- A step that changes nothing but how far a work has come.
pub quiet_kept : (w : Core) (t : ℕ) (q : Private) → IsKept true w → IsMutator w.config t → (mutator w t).left ≡ false → gives_back (mutator w t).phase ≡ false → gives_back q.phase ≡ false → q.epoch ≡ (mutator w t).epoch → q.left ≡ (mutator w t).left
    → IsActor true w.config w.epoch (stand_of w t) t q (crossing_of w t) (box w t) → q.log ≡ (mutator w t).log → q.registers ≡ (mutator w t).registers → HasLearnt w.config.slots w.headers w.freed q.from q.phase
    → IsKept true (with_mutator w t q)
quiet_kept w t q kept is stays here next epoch left actor log registers learnt =
    let same : epoch_at q ≡ epoch_at (mutator w t) = epoch_here q next ∙ epoch ∙ sym (epoch_here (mutator w t) here) in
    let held : has_let_go q ≡ has_let_go (mutator w t) = holds_registers q (left ∙ stays) (not_parting q.phase next) ∙ sym (holds_registers (mutator w t) stays (not_parting (mutator w t).phase here)) in
    subst (λ (n : ℕ). IsKept true (record (with_mutator w t q) { made = n })) (add-zero w.made)
    (changed_kept w t q w.headers w.words 0 kept is actor refl kept.labels kept.collector learnt (λ s taken. refl) (same_entries w.config (mutator w t) q same log) left
    (subst (λ (rss : List (List (Option ℕ))). IsSound (record (sight w) { registers = rss })) (sym (registers_stay w t q registers)) kept.sound)
    (stayed_accounts w _ kept (same_pending w t q log held registers same)))

-- a settled phase that a scan is no part of
abbrev IsAnswered : phases.Phase → Type 0
IsAnswered (at.Finished work made) = Unit {0}
IsAnswered _ = ⊥

answered_parts : (slots freed from : ℕ) (headers : List ℕ) (phase : phases.Phase) → IsAnswered phase → ((mailbox : Mailbox) → IsSettledIn mailbox phase) × HasLabelAt phase × HasLearnt slots headers freed from phase × (gives_back phase ≡ false)
answered_parts slots freed from headers (at.Finished work made) is = (λ mailbox. tt, tt, tt, refl)
answered_parts slots freed from headers _ is = absurd is

-- what is known after an answer
pub record Answers {w : Core} {t word : ℕ} {op : Op} {q : Private} (m : Makes w t word op q) (registers : List (Option ℕ)) (entries : List Entry) : Type 0 where
  pub stays : (mutator w t).left ≡ false
  pub here : gives_back (mutator w t).phase ≡ false
  pub next : gives_back q.phase ≡ false
  pub settled : (mailbox : Mailbox) → IsSettledIn mailbox q.phase
  pub learnt : (slots freed : ℕ) (headers : List ℕ) → HasLearnt slots headers freed q.from q.phase
  pub own : IsOwn true w.config t q
  pub epoch : q.epoch ≡ (mutator w t).epoch
  pub left : q.left ≡ (mutator w t).left
  pub same : epoch_at q ≡ epoch_at (mutator w t)
  pub held : has_let_go (mutator w t) ≡ false
  pub holds : has_let_go q ≡ false
  pub registers_are : q.registers ≡ registers
  pub log : q.log ≡ record (mutator w t).log { entries = entries }

pub answers : {w : Core} {t word : ℕ} {op : Op} {q : Private} {cmd : Cmd} {at : phases.Phase} {its_op : Op} {registers : List (Option ℕ)} {entries : List Entry} {told : Told}
    → gives_back at ≡ false → (m : Makes w t word op q) → Decides (mutator w t) op q cmd at its_op registers entries told → Answers m registers entries
answers {w = w} {t = t} {q = q} gives m d =
    let stays : (mutator w t).left ≡ false = stays_here w t m.kept m.is m.busy in
    let here : gives_back (mutator w t).phase ≡ false = ap gives_back d.phase ∙ gives in
    let done : IsAnswered q.phase = subst (λ (x : Private). IsAnswered x.phase) (sym d.after) tt in
    let parts = answered_parts 0 0 0 [] q.phase done in
    let next : gives_back q.phase ≡ false = parts.3 in
    let epoch : q.epoch ≡ (mutator w t).epoch = ap (λ (x : Private). x.epoch) d.after in
    let left : q.left ≡ (mutator w t).left = ap (λ (x : Private). x.left) d.after in
    record {
      stays = stays;
      here = here;
      next = next;
      settled = parts.0;
      learnt = λ slots freed headers. (answered_parts slots freed q.from headers q.phase done).2;
      own = own_stepped (actor_of w t m.kept m.is).own (its_box w t m.kept m.is) m.may m.step parts.1 (idle_of (mutator w t) q stays left);
      epoch = epoch;
      left = left;
      same = epoch_here q next ∙ epoch ∙ sym (epoch_here (mutator w t) here);
      held = holds_registers (mutator w t) stays (not_parting (mutator w t).phase here);
      holds = holds_registers q (left ∙ stays) (not_parting q.phase next);
      registers_are = ap (λ (x : Private). x.registers) d.after;
      log = ap (λ (x : Private). x.log) d.after;
    }

-- an actor after an answer that leaves its log
pub answered_actor : {w : Core} {t word : ℕ} {op : Op} {q : Private} {m : Makes w t word op q} {registers : List (Option ℕ)} {entries : List Entry} → Answers m registers entries
    → IsBufferOf true w.config (epoch_at (mutator w t)) (record (mutator w t).log { entries = entries }) → IsActor true w.config w.epoch (stand_of w t) t q (crossing_of w t) (box w t)
answered_actor {w = w} {t = t} {q = q} {m = m} a buffer =
    let actor = actor_of w t m.kept m.is in
    actor_stays actor a.own a.stays a.here a.next (λ mailbox _. a.settled mailbox) a.epoch a.left (subst (IsBufferOf true w.config (epoch_at (mutator w t))) (sym a.log) buffer)
    (ap (λ (b : Contents). named b.snapshot) a.log ∙ actor.unwritten) (ap (λ (b : Contents). b.last) a.log ∙ actor.unmarked)

-- an answer that changes no register and no log
pub unchanged : {w : Core} {t word : ℕ} {op : Op} {q : Private} {cmd : Cmd} {at : phases.Phase} {its_op : Op} {told : Told}
    → gives_back at ≡ false → (m : Makes w t word op q) → Decides (mutator w t) op q cmd at its_op (mutator w t).registers (mutator w t).log.entries told → IsKept true (with_mutator w t q)
unchanged {w = w} {t = t} {q = q} gives m d =
    let a = answers gives m d in
    let actor = actor_of w t m.kept m.is in
    quiet_kept w t q m.kept m.is a.stays a.here a.next a.epoch a.left (answered_actor a actor.log) a.log a.registers_are (a.learnt w.config.slots w.freed w.headers)

-- an answer that sets a register to null, to what the mutator holds, or to what it finds in a field
pub sets : {w : Core} {t word : ℕ} {op : Op} {q : Private} {cmd : Cmd} {at : phases.Phase} {its_op : Op} {told : Told} (r : ℕ) (x : Option ℕ)
    → gives_back at ≡ false → (m : Makes w t word op q) → r < length (mutator w t).registers → ((slot : ℕ) → x ≡ Some slot → IsTaken (sight w) slot)
    → (0 < code x → Holds (pending w) (epoch_at (mutator w t)) (code x) ⊎ Loads (pending w) (epoch_at (mutator w t)) (code x))
    → Decides (mutator w t) op q cmd at its_op (slice_set (mutator w t).registers r x) (mutator w t).log.entries told → IsKept true (with_mutator w t q)
sets {w = w} {t = t} {q = q} r x gives m within may value d =
    let a = answers gives m d in
    let actor = actor_of w t m.kept m.is in
    subst (λ (n : ℕ). IsKept true (record (with_mutator w t q) { made = n })) (add-zero w.made)
    (changed_kept w t q w.headers w.words 0 m.kept m.is (answered_actor a actor.log) refl m.kept.labels m.kept.collector (a.learnt w.config.slots w.freed w.headers) (λ s taken. refl) (same_entries w.config (mutator w t) q a.same a.log) a.left
    (subst (λ (rss : List (List (Option ℕ))). IsSound (record (sight w) { registers = rss })) (sym (registers_set w t r x q a.registers_are)) (register_sound (sight w) t r x may m.kept.sound))
    (moved_accounts w _ m.kept (AccountMove.register (register_moves w t r x q (in_list w t m.kept m.is) a.held a.holds within a.registers_are a.log a.same value)) tt tt))

-- a step after which the work goes on, in a phase that is settled wherever its crossing word says that the mailbox is
pub goes_on : {w : Core} {t word : ℕ} {op : Op} {q : Private} {at : phases.Phase} {its_op : Op} {next_phase : phases.Phase}
    → gives_back at ≡ false → (m : Makes w t word op q) → gives_back next_phase ≡ false → ((mailbox : Mailbox) → crossing_of w t ≡ crossing_word w.epoch mailbox → IsSettledIn mailbox next_phase)
    → HasLabelAt next_phase → HasLearnt w.config.slots w.headers w.freed (mutator w t).from next_phase → GoesOn (mutator w t) op q at its_op next_phase → IsKept true (with_mutator w t q)
goes_on {w = w} {t = t} {q = q} gives m gives_none settled label learnt g =
    let stays : (mutator w t).left ≡ false = stays_here w t m.kept m.is m.busy in
    let here : gives_back (mutator w t).phase ≡ false = ap gives_back g.phase ∙ gives in
    let phase = ap (λ (x : Private). x.phase) g.after in
    let next : gives_back q.phase ≡ false = ap gives_back phase ∙ gives_none in
    let epoch : q.epoch ≡ (mutator w t).epoch = ap (λ (x : Private). x.epoch) g.after in
    let left : q.left ≡ (mutator w t).left = ap (λ (x : Private). x.left) g.after in
    let log : q.log ≡ (mutator w t).log = ap (λ (x : Private). x.log) g.after in
    let actor = actor_of w t m.kept m.is in
    let own : IsOwn true w.config t q = own_stepped actor.own (its_box w t m.kept m.is) m.may m.step (subst HasLabelAt (sym phase) label) (idle_of (mutator w t) q stays left) in
    quiet_kept w t q m.kept m.is stays here next epoch left
    (actor_stays actor own stays here next (λ mailbox is. subst (IsSettledIn mailbox) (sym phase) (settled mailbox is)) epoch left (subst (IsBufferOf true w.config (epoch_at (mutator w t))) (sym log) actor.log)
    (ap (λ (b : Contents). named b.snapshot) log ∙ actor.unwritten) (ap (λ (b : Contents). b.last) log ∙ actor.unmarked))
    log (ap (λ (x : Private). x.registers) g.after) (subst (λ (x : Private). HasLearnt w.config.slots w.headers w.freed x.from x.phase) (sym g.after) learnt)

-- a poll that found the next epoch: the mutator is about to cross, and its mailbox is home with a spare
pub about_to_cross : {w : Core} {t word : ℕ} {op : Op} {q : Private} → (m : Makes w t word op q) → word ≢ (mutator w t).epoch → GoesOn (mutator w t) op q (at.Begun works.Poll) ops.LoadEpoch at.Crossing → IsKept true (with_mutator w t q)
about_to_cross {w = w} {t = t} {word = word} {q = q} m other g =
    let actor = actor_of w t m.kept m.is in
    let stays : (mutator w t).left ≡ false = stays_here w t m.kept m.is m.busy in
    let here : gives_back (mutator w t).phase ≡ false = ap gives_back g.phase in
    let phase : q.phase ≡ at.Crossing = ap (λ (x : Private). x.phase) g.after in
    let epoch : q.epoch ≡ (mutator w t).epoch = ap (λ (x : Private). x.epoch) g.after in
    let left : q.left ≡ (mutator w t).left = ap (λ (x : Private). x.left) g.after in
    let log : q.log ≡ (mutator w t).log = ap (λ (x : Private). x.log) g.after in
    let next : gives_back q.phase ≡ false = ap gives_back phase in
    let own : IsOwn true w.config t q = own_stepped actor.own (its_box w t m.kept m.is) m.may m.step (subst HasLabelAt (sym phase) tt) (idle_of (mutator w t) q stays left) in
    let late : (mutator w t).epoch ≢ w.epoch = λ same. other (m.found ∙ ap (cell (cells_of w)) g.operation ∙ sym same) in
    let (due, behind) = behind_due w.config w.epoch (mutator w t) (crossing_of w t) (box w t) (stand_of w t) stays here late actor.handshake in
    let same : epoch_at q ≡ epoch_at (mutator w t) = epoch_here q next ∙ epoch ∙ sym (epoch_here (mutator w t) here) in
    quiet_kept w t q m.kept m.is stays here next epoch left
    (record {
      own = own;
      log = subst (λ (e : ℕ). IsBufferOf true w.config e q.log) (sym same) (subst (IsBufferOf true w.config (epoch_at (mutator w t))) (sym log) actor.log);
      unwritten = ap (λ (b : Contents). named b.snapshot) log ∙ actor.unwritten;
      unmarked = ap (λ (b : Contents). b.last) log ∙ actor.unmarked;
      let_go = λ gone. absurd (false≢true (sym (holds_registers q (left ∙ stays) (not_parting q.phase next)) ∙ gone));
      mailbox = subst (λ (e : ℕ). IsBufferOf true w.config (e - 1) (box w t)) (sym same) actor.mailbox;
      handshake = subst (IsHandshake w.config w.epoch q (crossing_of w t) (box w t)) (sym due)
          (inl (record { epoch = ap (λ n. n + 1) epoch ∙ behind.epoch; word = behind.word ∙ ap (λ n. crossing_word n Spare) (sym epoch); here = next; stays = left ∙ behind.stays; spare = behind.spare }));
    })
    log (ap (λ (x : Private). x.registers) g.after) (subst (HasLearnt w.config.slots w.headers w.freed q.from) (sym phase) tt)

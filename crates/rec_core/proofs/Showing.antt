-- What a step of a mutator shows, rule by rule: it decides a command, or finishes a poll, or the work goes on.
use Rattle.std.proofs.Common.{◌≡◌, ◌%◌, ◌≢◌, inl, inr, ℕ, ◌+◌, ◌-◌, ◌<◌, ◌≤◌, if◌then◌else◌, false, true, Bool, List, [], ◌∷◌, ◌++◌, Option, None, Some, IfSome, length, slice_index_or, slice_set, refl, sym, ap, subst, ◌∙◌, arith, add-zero}
use Rattle.std.proofs.lemmas.Bool.{false≢true, cases_eq}
use Rattle.std.proofs.lemmas.List.{get_or-set_same, get_or-set_other, length_push}
use Rattle.rec_core.proofs.Common.{place_of, target_of, stamp_of, Op, Sight, IsTaken, word_at, sight_with_register, sight_with_word, sight_with_header, Contents, Entry, Private, word_for, is_busy, is_busy_at, work_of, work_at, answer_of, answer_at, IsStore, probe_of, slot_behind, Step, Decides, GoesOn, HasRoom, next_of, took_of, left_of, TakesNone, step_made, learnt_made, step_between, cell, IsMutator, Core, cells_of, sight, mutator, with_mutator, log_length, box, nobody, IsKept, performed, stepped, found_by, header_word, is_leaf, label_of}
use Rattle.rec_word.specs.declared.stamps.Stamp.{Stamp}
use Rattle.rec_model.specs.Asking.{allocation, is_done, null_or_object, plain, refuses_new, same, yes_or_no}
use Rattle.rec_model.specs.Explained.{IsExplained}
use Rattle.rec_model.specs.Heap.{register}
use Rattle.rec_model.specs.LegalOrder.{is_birth, word_left}
use Rattle.rec_model.specs.Sight.{sight_without_registers}
use Rattle.rec_model.specs.declared.answer.Answer.{Answer}
use Rattle.rec_model.specs.declared.answer.Answer.TheVariants as answers
use Rattle.rec_model.specs.declared.command.Cmd.{Cmd}
use Rattle.rec_model.specs.declared.command.Cmd.TheVariants as commands
use Rattle.rec_model.specs.declared.told.Told.{Told}
use Rattle.rec_model.proofs.Answered.{null_explained, copy_explained, same_explained, get_of_null, get_explained, put_of_null, put_refused, put_into_leaf, put_explained, birth_explained, birth_refused, value_of_null, value_explained, leave_explained, leave_refused, park_explained, unpark_explained}
use Rattle.rec_log.specs.declared.entry.Entry.TheVariants as entries_
use Rattle.rec_mutator.specs.Causes.{HasCause, is_refusal, gives_back}
use Rattle.rec_mutator.specs.Private.{register as register_of}
use Rattle.rec_mutator.specs.Took.{moved, nulls_of, step_of, IsBetween}
use Rattle.rec_mutator.specs.declared.made.Made.{Made}
use Rattle.rec_mutator.specs.declared.made.Made.TheVariants as makes
use Rattle.rec_mutator.specs.declared.phase.Phase as phases
use Rattle.rec_mutator.specs.declared.phase.Phase.TheVariants as at
use Rattle.rec_mutator.specs.declared.work.Work.TheVariants as works
use Rattle.rec_mutator.proofs.Around.{all_round, behind_first}
use Rattle.rec_mutator.proofs.Refusals.{answer_cause, read_made, compare_made, at_phase}
use Rattle.rec_core.specs.StepAnswers.{IsBirthplace, IsFilled, may_answer, entries_after, sight_told, sight_with_birth, sight_after_get, sight_after_put, Leaves, IsDecided, IsShown, IsShownAs, IsShownAt, probed_at}
use Rattle.rec_core.specs.Unfinished.{OnlyWorks, IsQuiet, HasFound, HasLetGo}
use Rattle.rec_core.proofs.Crossings.{takes, left_same}
use Rattle.rec_core.proofs.Leaving.{IsStayingIn, leaves_or_stays, shown_as, lets_go, leaves_at_last, parting_keeps, leaving_of, registers_leave}
use Rattle.rec_mutator.proofs.LogStamps.{word_stamp}
use Rattle.rec_core.proofs.Rules.{word_found, probe_found, scanned, leads_to, label_at, probes}
use Rattle.rec_core.proofs.Shapes.{after_cross, after_field, after_header, after_epoch, after_freed, after_probe, after_swap, after_claim, after_take, after_give}
use Rattle.rec_core.proofs.Steps.{actor_of, in_list, own_register, registers_stay, registers_set, stays_here}
use Rattle.rec_word.proofs.Headers.{header_is}

-- a command after which the mutator's log has what it had, and perhaps an entry more: it doesn't leave by it
abbrev pub IsStaying : Cmd → Answer → Type 0
IsStaying commands.Leave answers.Done = ⊥
IsStaying _ _ = Unit {0}

-- What is said of a step that isn't one of leaving, after which mutator `t` is `q`: it decides a command, and a refusal changes nothing
-- but the work; or the work goes on; or the mutator holds its mailbox now; or a poll finishes, in the same epoch or in the next one.
pub data Says (w : Core) (t : ℕ) (q : Private) (v : Core) : Type 0 where
  decided : (cmd : Cmd) (told : Told) → work_of (mutator w t) ≡ Some (works.Command cmd) → answer_of q ≡ Some (makes.Answered told) → IsDecided w t cmd told v
      → IsStaying cmd told.answer → (is_refusal told.answer ≡ true → OnlyWorks w v t) → Says w t q v
  going : answer_of q ≡ None → OnlyWorks w v t → (HasFound w (mutator w t).from (mutator w t).phase → HasFound w q.from q.phase) → Says w t q v
  holding : answer_of q ≡ None → q.phase ≡ at.Giving → IsQuiet w v t → q.epoch ≡ (mutator w t).epoch → Says w t q v
  stayed : answer_of q ≡ Some (makes.Crossed None) → work_of (mutator w t) ≡ Some works.Poll → gives_back (mutator w t).phase ≡ false → OnlyWorks w v t → Says w t q v
  crossed : answer_of q ≡ Some (makes.Crossed (Some ((mutator w t).epoch + 1))) → work_of (mutator w t) ≡ Some works.Poll → (mutator w t).phase ≡ at.Giving → IsQuiet w v t
      → q.epoch ≡ (mutator w t).epoch + 1 → q.log ≡ (mutator w t).log → Says w t q v

-- what is known of a step
record Finds (w : Core) (t : ℕ) (word : ℕ) (op : Op) : Type 0 where
  pub dated : Bool
  pub kept : IsKept dated w
  pub is : IsMutator w.config t
  pub stays : (mutator w t).left ≡ false
  pub found : word ≡ cell (cells_of w) op

-- the mutator that made the step, whatever else it left
pub mutator_left : {dated : Bool} → (w : Core) (t : ℕ) (q : Private) → IsKept dated w → IsMutator w.config t → slice_index_or (slice_set w.mutators (t - 1) q) (t - 1) nobody ≡ q
mutator_left w t q kept is = get_or-set_same w.mutators (t - 1) q nobody (in_list w t kept is)

-- every other mutator
pub mutator_other : (ms : List Private) (t s : ℕ) (q : Private) → 1 ≤ t → s ≢ t → 1 ≤ s → slice_index_or (slice_set ms (t - 1) q) (s - 1) nobody ≡ slice_index_or ms (s - 1) nobody
mutator_other ms t s q first other some = get_or-set_other ms (t - 1) (s - 1) q nobody (λ same. other (omega arith))

-- what is seen where no register changed
saw_same : (w : Core) (t : ℕ) (q : Private) → q.registers ≡ (mutator w t).registers → sight (with_mutator w t q) ≡ sight w
saw_same w t q stays = ap (λ (rss : List (List (Option ℕ))). let s : Sight = record (sight w) { registers = rss } in s) (registers_stay w t q stays)

-- and where one was set
saw_set : (w : Core) (t r : ℕ) (x : Option ℕ) (q : Private) → q.registers ≡ slice_set (mutator w t).registers r x → sight (with_mutator w t q) ≡ sight_with_register (sight w) t r x
saw_set w t r x q is = ap (λ (rss : List (List (Option ℕ))). let s : Sight = record (sight w) { registers = rss } in s) (registers_set w t r x q is)

-- and where all became null
saw_nulls : (w : Core) (t : ℕ) (q : Private) → q.registers ≡ nulls_of (mutator w t) → sight (with_mutator w t q) ≡ sight_without_registers (sight w) t
saw_nulls w t q null = ap (λ (rss : List (List (Option ℕ))). let s : Sight = record (sight w) { registers = rss } in s) (registers_leave w t q null)

-- the registers that a decision leaves
registers_left : {p : Private} {op : Op} {q : Private} {cmd : Cmd} {phase : phases.Phase} {its_op : Op} {registers : List (Option ℕ)} {entries : List Entry} {told : Told}
    → Decides p op q cmd phase its_op registers entries told → q.registers ≡ registers
registers_left d = ap (λ (x : Private). x.registers) d.after

-- nothing but the work of a mutator changed, if nothing but the phase and the count of its steps did
only_works : {dated : Bool} → (w : Core) (t : ℕ) (q : Private) (phase : phases.Phase) → IsKept dated w → IsMutator w.config t → q ≡ moved (mutator w t) phase → OnlyWorks w (with_mutator w t q) t
only_works w t q phase kept is after =
    let here : mutator (with_mutator w t q) t ≡ q = mutator_left w t q kept is in
    let P : Private → Type 0 = λ x. x ≡ record (mutator w t) { from = x.from; phase = x.phase; steps = x.steps } in
    record { others = ap (with_mutator w t) (sym here); own = subst P (sym (here ∙ after)) refl }

-- A state `v` in which mutator `t` alone is another: `q`, whose log has these entries.
record IsLeft (w : Core) (t : ℕ) (q : Private) (entries : List Entry) (v : Core) : Type 0 where
  pub mutators : v.mutators ≡ slice_set w.mutators (t - 1) q
  pub entries_left : q.log.entries ≡ entries
  pub epoch : q.epoch ≡ (mutator w t).epoch
  pub requested : v.epoch ≡ w.epoch
  pub freed : v.freed ≡ w.freed

-- what a decision leaves
left_by : {w : Core} {t : ℕ} {op : Op} {q : Private} {cmd : Cmd} {phase : phases.Phase} {its_op : Op} {registers : List (Option ℕ)} {entries : List Entry} {told : Told} (v : Core)
    → Decides (mutator w t) op q cmd phase its_op registers entries told → v.mutators ≡ slice_set w.mutators (t - 1) q → v.epoch ≡ w.epoch → v.freed ≡ w.freed → IsLeft w t q entries v
left_by v d mutators requested freed =
    record { mutators = mutators; entries_left = ap (λ (x : Private). x.log.entries) d.after; epoch = ap (λ (x : Private). x.epoch) d.after; requested = requested; freed = freed }

-- what is told of an answer by what is seen, of the births, the entries and the word left
record IsTelling (w : Core) (t : ℕ) (cmd : Cmd) (told : Told) (entries : List Entry) (made slot : ℕ) (after : Sight) : Type 0 where
  pub explained : IsExplained (sight w) t cmd told after
  pub leaves : Leaves w t cmd told after slot
  pub kind : may_answer cmd told.answer ≡ true
  pub full : told.answer ≡ answers.Full → IsFilled w
  pub births : made ≡ w.made + (if is_birth (cmd, told) then 1 else 0)
  pub entered : length entries ≡ entries_after cmd told.answer (log_length w t)
  pub stamp : IfSome (word_left cmd told) (λ word. stamp_of word ≡ record { writer = t; epoch = (mutator w t).epoch; index = log_length w t })

-- then it is decided
decides : {w : Core} {t word : ℕ} {op : Op} {q : Private} {cmd : Cmd} {told : Told} {entries : List Entry} {slot : ℕ} {after : Sight} (v : Core)
    → Finds w t word op → IsLeft w t q entries v → sight v ≡ after → IsTelling w t cmd told entries v.made slot after → IsDecided w t cmd told v
decides {w = w} {t = t} {q = q} {cmd = cmd} {told = told} {slot = slot} v m left saw tells =
    let here : mutator v t ≡ q = ap (λ ms. slice_index_or ms (t - 1) nobody) left.mutators ∙ mutator_left w t q m.kept m.is in
    record {
      explained = subst (IsExplained (sight w) t cmd told) (sym saw) tells.explained;
      leaves = (slot, subst (λ (s : Sight). Leaves w t cmd told s slot) (sym saw) tells.leaves);
      kind = tells.kind;
      full = tells.full;
      made = tells.births;
      logged = ap (λ (p : Private). length p.log.entries) here ∙ ap (λ (es : List Entry). length es) left.entries_left ∙ tells.entered;
      stamp = tells.stamp;
      epoch = ap (λ (p : Private). p.epoch) here ∙ left.epoch;
      requested = left.requested;
      freed = left.freed;
    }

-- an answer that makes no birth and no log entry
tells : {w : Core} {t : ℕ} {cmd : Cmd} {told : Told} {after : Sight} → IsExplained (sight w) t cmd told after → after ≡ sight_told (sight w) 0 t cmd told → may_answer cmd told.answer ≡ true
    → (told.answer ≡ answers.Full → IsFilled w) → is_birth (cmd, told) ≡ false → word_left cmd told ≡ None → entries_after cmd told.answer (log_length w t) ≡ log_length w t + 0 → IsTelling w t cmd told (mutator w t).log.entries w.made 0 after
tells {w = w} {t = t} {cmd = cmd} {told = told} explained seen kind full no_birth no_word no_entry =
    record {
      explained = explained;
      leaves = record { seen = seen; birth = λ is. absurd (false≢true (sym no_birth ∙ is)) };
      kind = kind;
      full = full;
      births = sym (add-zero w.made) ∙ ap (λ (born : Bool). w.made + (if born then 1 else 0)) (sym no_birth);
      entered = sym (add-zero (log_length w t)) ∙ sym no_entry;
      stamp = subst (λ (x : Option ℕ). IfSome x (λ word. stamp_of word ≡ record { writer = t; epoch = (mutator w t).epoch; index = log_length w t })) (sym no_word) tt;
    }

-- an allocation that is refused makes no log entry, whether a leaf was asked for or not
refused_entries : (leaf : Bool) (reg label : ℕ) (answer : Answer) (before : ℕ) → is_done answer ≡ false → entries_after (allocation leaf reg label) answer before ≡ before + 0
refused_entries leaf reg label answers.Done before undone = absurd (false≢true (sym undone))
refused_entries true reg label _ before undone = refl
refused_entries false reg label _ before undone = refl

-- and the mutator that allocates stays
allocation_stays : (leaf : Bool) (reg label : ℕ) (answer : Answer) → IsStaying (allocation leaf reg label) answer
allocation_stays true reg label answer = tt
allocation_stays false reg label answer = tt

-- nor a birth,
refused_telling : {w : Core} {t : ℕ} {answer : Answer} (leaf : Bool) (reg label : ℕ) → refuses_new answer ≡ true → is_done answer ≡ false → (answer ≡ answers.Full → IsFilled w)
    → IsTelling w t (allocation leaf reg label) (plain answer) (mutator w t).log.entries w.made 0 (sight w)
refused_telling {w = w} {t = t} {answer = answer} true reg label refuses undone full =
    tells (birth_refused (sight w) t reg label true answer refuses undone) (rw undone refl) (rw undone refuses) full (rw undone refl) refl (refused_entries true reg label answer (log_length w t) undone)
refused_telling {w = w} {t = t} {answer = answer} false reg label refuses undone full =
    tells (birth_refused (sight w) t reg label false answer refuses undone) (rw undone refl) (rw undone refuses) full (rw undone refl) refl (refused_entries false reg label answer (log_length w t) undone)

-- and one that is made makes one of each
birth_telling : {w : Core} {t slot : ℕ} {entries : List Entry} (leaf : Bool) (reg label : ℕ) → IsExplained (sight w) t (allocation leaf reg label) (plain answers.Done) (sight_with_birth (sight w) t reg slot (header_word leaf label))
    → IsBirthplace w t slot → length entries ≡ log_length w t + 1 → IsTelling w t (allocation leaf reg label) (plain answers.Done) entries (w.made + 1) slot (sight_with_birth (sight w) t reg slot (header_word leaf label))
birth_telling true reg label explained place entered =
    record { explained = explained; leaves = record { seen = refl; birth = λ _. place }; kind = refl; full = λ is. cc; births = refl; entered = entered; stamp = tt }
birth_telling false reg label explained place entered =
    record { explained = explained; leaves = record { seen = refl; birth = λ _. place }; kind = refl; full = λ is. cc; births = refl; entered = entered; stamp = tt }

-- an answer that is no refusal
done : {w : Core} {t : ℕ} {op : Op} {q : Private} {cmd : Cmd} {phase : phases.Phase} {its_op : Op} {registers : List (Option ℕ)} {entries : List Entry} {told : Told} {v : Core}
    → work_at phase ≡ Some (works.Command cmd) → IsStaying cmd told.answer → Decides (mutator w t) op q cmd phase its_op registers entries told → is_refusal told.answer ≡ false → IsDecided w t cmd told v → Says w t q v
done {cmd = cmd} {told = told} work stays d made said = Says.decided cmd told (ap work_at d.phase ∙ work) (ap answer_of d.after) said stays (λ is. absurd (false≢true (sym made ∙ is)))

-- a step that decides, with the mutator replaced alone, and no entry
decides_here : {w : Core} {t word : ℕ} {op : Op} {q : Private} {cmd : Cmd} {phase : phases.Phase} {its_op : Op} {registers : List (Option ℕ)} {told : Told} {after : Sight}
    → Finds w t word op → Decides (mutator w t) op q cmd phase its_op registers (mutator w t).log.entries told → sight (with_mutator w t q) ≡ after
    → IsTelling w t cmd told (mutator w t).log.entries w.made 0 after → IsDecided w t cmd told (with_mutator w t q)
decides_here {w = w} {t = t} {q = q} m d saw telling = decides (with_mutator w t q) m (left_by (with_mutator w t q) d refl refl refl) saw telling

-- an answer that is a refusal
refuses : {w : Core} {t word : ℕ} {op : Op} {q : Private} {cmd : Cmd} {phase : phases.Phase} {its_op : Op} {told : Told}
    → work_at phase ≡ Some (works.Command cmd) → IsStaying cmd told.answer → Finds w t word op → Decides (mutator w t) op q cmd phase its_op (mutator w t).registers (mutator w t).log.entries told
    → IsTelling w t cmd told (mutator w t).log.entries w.made 0 (sight w) → Says w t q (with_mutator w t q)
refuses {w = w} {t = t} {q = q} {cmd = cmd} {told = told} work stays m d telling =
    Says.decided cmd told (ap work_at d.phase ∙ work) (ap answer_of d.after) (decides_here m d (saw_same w t q (registers_left d)) telling) stays (λ _. only_works w t q _ m.kept m.is d.after)

-- a step after which the work goes on
going_on : {w : Core} {t word : ℕ} {op : Op} {q : Private} {phase : phases.Phase} {its_op : Op} {next_phase : phases.Phase}
    → Finds w t word op → answer_at next_phase ≡ None → (HasFound w (mutator w t).from phase → HasFound w (mutator w t).from next_phase) → GoesOn (mutator w t) op q phase its_op next_phase → Says w t q (with_mutator w t q)
going_on {w = w} {t = t} {q = q} m none finds g =
    Says.going (ap answer_of g.after ∙ none) (only_works w t q _ m.kept m.is g.after)
    (λ was. subst (λ (x : Private). HasFound w x.from x.phase) (sym g.after) (finds (subst (HasFound w (mutator w t).from) g.phase was)))

-- a probe that fails tells one slot more
one_more : (w : Core) (slot : ℕ) → slice_index_or w.headers slot 0 ≢ 0 → ((s : ℕ) → s < slot → IsTaken (sight w) s) → (s : ℕ) → s < slot + 1 → IsTaken (sight w) s
one_more w slot taken lower s below = elim (cases_eq s slot) [
  | inl same ↦ subst (IsTaken (sight w)) (sym same) (let some : slice_index_or w.headers slot 0 ≢ 0 = taken in omega (arith, some))
  | inr other ↦ lower s (omega (arith, other))
]

-- a scan that began with slot 0 probes the slots in order
pub in_order : {dated : Bool} → (w : Core) (t reg label : ℕ) (leaf : Bool) (before probed : ℕ) → IsKept dated w → IsMutator w.config t → (mutator w t).phase ≡ at.Scanning reg label leaf before probed → (mutator w t).from ≡ 0 → probe_of (mutator w t) probed ≡ probed
in_order w t reg label leaf before probed kept is phase first =
    ap (λ n. slot_behind (mutator w t).slots n probed) first ∙ behind_first (mutator w t).slots probed (at_phase (mutator w t) (at.Scanning reg label leaf before probed) (actor_of w t kept is).own.machine phase).1

-- a crossing goes on with another buffer, crossing word and mailbox, which nobody sees
quiet : (w : Core) (t : ℕ) (q : Private) (crossing : List ℕ) (boxes : List Contents) → 1 ≤ t → q.registers ≡ (mutator w t).registers → IsQuiet w (record (with_mutator w t q) { crossing = crossing; boxes = boxes }) t
quiet w t q crossing boxes first stays =
    record { seen = saw_same w t q stays; others = λ s other some. mutator_other w.mutators t s q first other some; collector = refl; freed = refl; requested = refl; made = refl; config = refl }

-- every step that isn't one of leaving
says : {w : Core} {t word : ℕ} {op : Op} {q : Private} → IsStayingIn (mutator w t).phase → Finds w t word op → Step (mutator w t) word (box w t) op q → Says w t q (performed w t op word q (box w t))
says {w = w} {t = t} {word = word} {op = op} {q = q} stays m (Step.null reg d) =
    after_cross (Says w t q) w t _ word q op d.operation m.found
    (done refl tt d refl (decides_here m d (saw_set w t reg None q (registers_left d)) (tells (null_explained (sight w) t reg) refl refl (λ is. cc) refl refl refl)))
says {w = w} {t = t} {word = word} {op = op} {q = q} stays m (Step.copy dst src d) =
    let named : Option ℕ = register (sight w).registers t src in
    let registers : q.registers ≡ slice_set (mutator w t).registers dst named = registers_left d ∙ ap (slice_set (mutator w t).registers dst) (sym (own_register w t src)) in
    after_cross (Says w t q) w t _ word q op d.operation m.found
    (done refl tt d refl (decides_here m d (saw_set w t dst named q registers) (tells (copy_explained (sight w) t dst src) refl refl (λ is. cc) refl refl refl)))
says {w = w} {t = t} {word = word} {op = op} {q = q} stays m (Step.compare a b d) =
    let p : Private = mutator w t in
    let equal : Bool = same (register_of p a) (register_of p b) in
    let made : is_refusal (yes_or_no equal) ≡ false = compare_made equal in
    let is_equal : same (register (sight w).registers t a) (register (sight w).registers t b) ≡ equal
    = ap (λ (x : Option ℕ). same x (register (sight w).registers t b)) (own_register w t a) ∙ ap (same (register_of p a)) (own_register w t b) in
    after_cross (Says w t q) w t _ word q op d.operation m.found
    (done refl tt d made (decides_here m d (saw_same w t q (registers_left d))
    (tells (subst (λ (e : Bool). IsExplained (sight w) t (commands.Same a b) (plain (yes_or_no e)) (sight w)) is_equal (same_explained (sight w) t a b m.kept.sound))
    refl refl (λ is. absurd (false≢true (sym made ∙ ap is_refusal is))) refl refl refl)))
says {w = w} {t = t} {word = word} {op = op} {q = q} stays m (Step.park d) =
    after_cross (Says w t q) w t _ word q op d.operation m.found
    (done refl tt d refl (decides_here m d (saw_same w t q (registers_left d)) (tells (park_explained (sight w) t) refl refl (λ is. cc) refl refl refl)))
says {w = w} {t = t} {word = word} {op = op} {q = q} stays m (Step.unpark d) =
    after_cross (Says w t q) w t _ word q op d.operation m.found
    (done refl tt d refl (decides_here m d (saw_same w t q (registers_left d)) (tells (unpark_explained (sight w) t) refl refl (λ is. cc) refl refl refl)))
says {w = w} {t = t} {word = word} {op = op} {q = q} stays m (Step.get_of_null dst src f names d) =
    let there : register (sight w).registers t src ≡ None = own_register w t src ∙ names in
    after_cross (Says w t q) w t _ word q op d.operation m.found
    (refuses refl tt m d (tells (get_of_null (sight w) t dst src f there) (ap (λ (x : Option ℕ). sight_after_get (sight w) t dst x (target_of 0)) (sym there)) refl (λ is. cc) refl refl refl))
says {w = w} {t = t} {word = word} {op = op} {q = q} stays m (Step.get dst src f slot names d) =
    let p : Private = mutator w t in
    let own = (actor_of w t m.kept m.is).own in
    let fields : p.fields ≡ w.config.fields = own.fields in
    let own_range : f < p.fields = (at_phase p (at.Begun (works.Command (commands.Get dst src f))) own.machine d.phase).0.2 in
    let in_range : f < w.config.fields = omega arith in
    let there : register (sight w).registers t src ≡ Some slot = own_register w t src ∙ names in
    let is_word : word ≡ word_at (sight w) slot f = word_found w t word slot f op m.kept m.is m.found d.operation in
    let made : is_refusal (null_or_object (target_of word)) ≡ false = read_made (target_of word) in
    let told : ℕ → Told = λ n. record { answer = null_or_object (target_of n); saw = n; left = 0 } in
    after_field (Says w t q) w t _ word q op d.operation m.found
    (done refl tt d made (decides_here m d (saw_set w t dst (target_of word) q (registers_left d))
    (tells (subst (λ n. IsExplained (sight w) t (commands.Get dst src f) (told n) (sight_with_register (sight w) t dst (target_of n))) (sym is_word) (get_explained (sight w) t dst src f slot in_range there))
    (ap (λ (x : Option ℕ). sight_after_get (sight w) t dst x (target_of word)) (sym there)) refl (λ is. absurd (false≢true (sym made ∙ ap is_refusal is))) refl refl refl)))
says {w = w} {t = t} {word = word} {op = op} {q = q} stays m (Step.put_of_null src f val names d) =
    let there : register (sight w).registers t src ≡ None = own_register w t src ∙ names in
    after_cross (Says w t q) w t _ word q op d.operation m.found
    (refuses refl tt m d (tells (put_of_null (sight w) t src f val there) (ap (λ (x : Option ℕ). sight_after_put (sight w) f x false 0) (sym there)) refl (λ is. cc) refl refl refl))
says {w = w} {t = t} {word = word} {op = op} {q = q} stays m (Step.put_refused src f val slot names full d) =
    let there : register (sight w).registers t src ≡ Some slot = own_register w t src ∙ names in
    after_cross (Says w t q) w t _ word q op d.operation m.found
    (refuses refl tt m d (tells (put_refused (sight w) t src f val slot there) (ap (λ (x : Option ℕ). sight_after_put (sight w) f x false 0) (sym there)) refl (λ is. cc) refl refl refl))
says {w = w} {t = t} {word = word} {op = op} {q = q} stays m (Step.put_into_leaf src f val slot names room leaf d) =
    let there : register (sight w).registers t src ≡ Some slot = own_register w t src ∙ names in
    let is_word : word ≡ slice_index_or w.headers slot 0 = m.found ∙ ap (cell (cells_of w)) d.operation in
    after_header (Says w t q) w t _ word q op d.operation m.found
    (refuses refl tt m d (tells (put_into_leaf (sight w) t src f val slot m.kept.sound there (sym (ap is_leaf is_word) ∙ leaf)) (ap (λ (x : Option ℕ). sight_after_put (sight w) f x false 0) (sym there)) refl (λ is. cc) refl refl refl))
says {w = w} {t = t} {word = word} {op = op} {q = q} stays m (Step.put_begins src f val slot names room unmarked g) =
    after_header (Says w t q) w t _ word q op g.operation m.found (going_on m refl (λ _. tt) g)
says {w = w} {t = t} {word = word} {op = op} {q = q} stays m (Step.put src f val slot d) =
    let p : Private = mutator w t in
    let own = (actor_of w t m.kept m.is).own in
    let store : IsStore p src f val slot = (at_phase p (at.Storing src f val slot) own.machine d.phase).0 in
    let names : register_of p src ≡ Some slot = store.source in
    let room : HasRoom p = λ full. omega (arith, store.room, full) in
    let unmarked = scanned w t (at.Storing src f val slot) m.kept m.is d.phase in
    let fields : p.fields ≡ w.config.fields = own.fields in
    let own_range : f < p.fields = store.operands.1 in
    let in_range : f < w.config.fields = omega arith in
    let left : ℕ = word_for p val in
    let is_word : word ≡ word_at (sight w) slot f = m.found ∙ ap (cell (cells_of w)) d.operation ∙ ap (λ n. slice_index_or w.words (place_of slot f n) 0) fields in
    let there : register (sight w).registers t src ≡ Some slot = own_register w t src ∙ names in
    let leads : target_of left ≡ register (sight w).registers t val = leads_to w t val m.kept m.is m.stays room ∙ sym (own_register w t val) in
    let after : Sight = sight_with_word (sight w) slot f left in
    let told : ℕ → Told = λ n. record { answer = answers.Done; saw = n; left = left } in
    let v : Core = record (with_mutator w t q) { words = slice_set w.words (place_of slot f w.config.fields) left } in
    let saw : sight v ≡ after = ap (λ (rss : List (List (Option ℕ))). let s : Sight = record after { registers = rss } in s) (registers_stay w t q (registers_left d)) in
    let stamped : stamp_of left ≡ record { writer = t; epoch = p.epoch; index = log_length w t } = word_stamp p val own.machine (own.machine.stamped m.stays) room ∙ ap (λ n. let s : Stamp = record { writer = n; epoch = p.epoch; index = length p.log.entries } in s) own.number in
    let telling : IsTelling w t (commands.Put src f val) (told word) (p.log.entries ++ entries_.Put (place_of slot f p.fields) left word ∷ []) w.made 0 after
    = record {
      explained = subst (λ n. IsExplained (sight w) t (commands.Put src f val) (told n) after) (sym is_word) (put_explained (sight w) t src f val slot left m.kept.sound in_range there unmarked leads);
      leaves = record { seen = ap (λ (x : Option ℕ). sight_after_put (sight w) f x true left) (sym there); birth = λ is. absurd (false≢true is) };
      kind = refl;
      full = λ is. cc;
      births = sym (add-zero w.made);
      entered = length_push p.log.entries _;
      stamp = stamped;
    } in
    after_swap (Says w t q) w t _ _ word q op d.operation
    (subst (λ n. Says w t q (record (with_mutator w t q) { words = slice_set w.words (place_of slot f n) left })) (sym fields) (done refl tt d refl (decides v m (left_by v d refl refl refl) saw telling)))
says {w = w} {t = t} {word = word} {op = op} {q = q} stays m (Step.value_of_null reg names d) =
    let there : register (sight w).registers t reg ≡ None = own_register w t reg ∙ names in
    after_cross (Says w t q) w t _ word q op d.operation m.found (refuses refl tt m d (tells (value_of_null (sight w) t reg there) refl refl (λ is. cc) refl refl refl))
says {w = w} {t = t} {word = word} {op = op} {q = q} stays m (Step.value reg slot names d) =
    let there : register (sight w).registers t reg ≡ Some slot = own_register w t reg ∙ names in
    let is_word : word ≡ slice_index_or w.headers slot 0 = m.found ∙ ap (cell (cells_of w)) d.operation in
    after_header (Says w t q) w t _ word q op d.operation m.found
    (done refl tt d refl (decides_here m d (saw_same w t q (registers_left d))
    (tells (subst (λ n. IsExplained (sight w) t (commands.Value reg) (plain (answers.Value (label_of n))) (sight w)) (sym is_word) (value_explained (sight w) t reg slot m.kept.sound there)) refl refl (λ is. cc) refl refl refl)))
says {w = w} {t = t} {word = word} {op = op} {q = q} stays m (Step.new_refused reg label leaf full d) =
    after_cross (Says w t q) w t _ word q op d.operation m.found (refuses refl (allocation_stays leaf reg label _) m d (refused_telling leaf reg label refl refl (λ is. cc)))
says {w = w} {t = t} {word = word} {op = op} {q = q} stays m (Step.new_begins reg label leaf room g) =
    let freed : word ≡ w.freed = m.found ∙ ap (cell (cells_of w)) g.operation in
    after_freed (Says w t q) w t word q op g.operation m.found (going_on m refl (λ first. (first, freed, λ s below. absurd (omega (arith, below)))) g)
says {w = w} {t = t} {word = word} {op = op} {q = q} stays m (Step.new_wins reg label leaf before probed free d) =
    let p : Private = mutator w t in
    let slot : ℕ = probe_of p probed in
    let headers : length w.headers ≡ w.config.slots = m.kept.headers in
    let there : slot < w.config.slots = (probes w t probed m.kept m.is).1 in
    let header : slice_index_or w.headers slot 0 ≡ 0 = sym (probe_found w word slot (header_word leaf label) op m.found d.operation) ∙ free in
    let grown : Sight = sight_with_header (sight w) slot (header_word leaf label) in
    let v : Core = record (with_mutator w t q) { headers = slice_set w.headers slot (header_word leaf label); made = w.made + 1 } in
    let after : Sight = sight_with_register grown t reg (Some slot) in
    let saw : sight v ≡ after = ap (λ (rss : List (List (Option ℕ))). let s : Sight = record grown { registers = rss } in s) (registers_set w t reg (Some slot) q (registers_left d)) in
    let explained : IsExplained (sight w) t (allocation leaf reg label) (plain answers.Done) after
    = birth_explained (sight w) t reg label slot (header_word leaf label) leaf m.kept.sound (omega arith) header (header_is leaf label (label_at w t (at.Scanning reg label leaf before probed) m.kept m.is d.phase)) in
    let telling : IsTelling w t (allocation leaf reg label) (plain answers.Done) (p.log.entries ++ entries_.Born slot leaf ∷ []) (w.made + 1) slot after
    = birth_telling leaf reg label explained (record { there = there; free = header; probed = ap (probed_at p) d.phase }) (length_push p.log.entries _) in
    after_claim (Says w t q) w t slot (header_word leaf label) word q op d.operation free (done refl (allocation_stays leaf reg label answers.Done) d refl (decides v m (left_by v d refl refl refl) saw telling))
says {w = w} {t = t} {word = word} {op = op} {q = q} stays m (Step.new_goes_on reg label leaf before probed taken more g) =
    let slot : ℕ = probe_of (mutator w t) probed in
    let its : word ≡ slice_index_or w.headers slot 0 = probe_found w word slot (header_word leaf label) op m.found g.operation in
    after_probe (Says w t q) w t slot (header_word leaf label) word q op g.operation m.found taken (going_on m refl (λ found. (found.0, found.1, one_more w probed (λ is. taken (its ∙ ap (λ n. slice_index_or w.headers n 0) (in_order w t reg label leaf before probed m.kept m.is g.phase found.0) ∙ is)) found.2)) g)
says {w = w} {t = t} {word = word} {op = op} {q = q} stays m (Step.new_finds_none reg label leaf before probed taken last g) =
    let slot : ℕ = probe_of (mutator w t) probed in
    let own = (actor_of w t m.kept m.is).own in
    let its : word ≡ slice_index_or w.headers slot 0 = probe_found w word slot (header_word leaf label) op m.found g.operation in
    let all : probed + 1 ≡ w.config.slots = last ∙ own.slots in
    after_probe (Says w t q) w t slot (header_word leaf label) word q op g.operation m.found taken
    (going_on m refl (λ found. (found.1, λ s below. one_more w probed (λ is. taken (its ∙ ap (λ n. slice_index_or w.headers n 0) (in_order w t reg label leaf before probed m.kept m.is g.phase found.0) ∙ is)) found.2 s (omega (arith, below)))) g)
says {w = w} {t = t} {word = word} {op = op} {q = q} stays m (Step.new_is_full reg label leaf before still d) =
    let freed : word ≡ w.freed = m.found ∙ ap (cell (cells_of w)) d.operation in
    let own = (actor_of w t m.kept m.is).own in
    let passed = scanned w t (at.Scanned reg label leaf before) m.kept m.is d.phase in
    let filled : before ≡ w.freed → before % 2 ≡ 0 → IsFilled w = λ same even. all_round (IsTaken (sight w)) w.config.slots (mutator w t).from (subst (λ n. (mutator w t).from < n) own.slots own.machine.from) (passed.1 same even) in
    after_freed (Says w t q) w t word q op d.operation m.found
    (refuses refl (allocation_stays leaf reg label _) m d (refused_telling leaf reg label refl refl (λ is. filled (still.1 ∙ freed) still.0)))
says {w = w} {t = t} {word = word} {op = op} {q = q} stays m (Step.new_is_busy reg label leaf before moves d) =
    after_freed (Says w t q) w t word q op d.operation m.found (refuses refl (allocation_stays leaf reg label _) m d (refused_telling leaf reg label refl refl (λ is. cc)))
says {w = w} {t = t} {word = word} {op = op} {q = q} stays m (Step.leave_refused uncollected d) =
    after_cross (Says w t q) w t _ word q op d.operation m.found (refuses refl tt m d (tells (leave_refused (sight w) t) refl refl (λ is. cc) refl refl refl))
says {w = w} {t = t} {word = word} {op = op} {q = q} stays m (Step.leave_begins collected g) = after_cross (Says w t q) w t _ word q op g.operation m.found (going_on m refl (λ _. tt) g)
says stays m (Step.leave l) = absurd (subst IsStayingIn l.phase stays)
says stays m (Step.leave_ends l) = absurd (subst IsStayingIn l.phase stays)
says {w = w} {t = t} {word = word} {op = op} {q = q} stays m (Step.poll_stays own g) =
    after_epoch (Says w t q) w t word q op g.operation m.found (Says.stayed (ap answer_of g.after) (ap work_at g.phase) (ap gives_back g.phase) (only_works w t q _ m.kept m.is g.after))
says {w = w} {t = t} {word = word} {op = op} {q = q} stays m (Step.poll_crosses other g) =
    after_epoch (Says w t q) w t word q op g.operation m.found (going_on m refl (λ _. tt) g)
says {w = w} {t = t} {word = word} {op = op} {q = q} stays m (Step.take_box c) =
    after_take (Says w t q) w t _ _ word q (box w t) op c.operation
    (Says.holding (ap answer_of c.after) (ap (λ (x : Private). x.phase) c.after) (quiet w t q _ _ m.is.0 (ap (λ (x : Private). x.registers) c.after)) (ap (λ (x : Private). x.epoch) c.after))
says {w = w} {t = t} {word = word} {op = op} {q = q} stays m (Step.give_box c) =
    after_give (Says w t q) w t _ _ word q op c.operation
    (Says.crossed (ap answer_of c.after) (ap work_at c.phase) c.phase (quiet w t q _ _ m.is.0 (ap (λ (x : Private). x.registers) c.after)) (ap (λ (x : Private). x.epoch) c.after) (ap (λ (x : Private). x.log) c.after))

-- a step that takes the own mailbox
takes_says : {dated : Bool} → (w : Core) (t : ℕ) → IsKept dated w → IsMutator w.config t → (mutator w t).phase ≡ at.Crossing → Says w t (step_of (mutator w t) (found_by w t) (box w t)) (stepped w t)
takes_says w t kept is phase =
    let p : Private = mutator w t in
    let q : Private = step_of p (found_by w t) (box w t) in
    let c = takes p (found_by w t) (box w t) phase in
    after_take (Says w t q) w t p.number (p.epoch + 1) (found_by w t) q (left_of (took_of p (found_by w t)) (box w t)) (next_of p) c.operation
    (Says.holding (ap answer_of c.after) (ap (λ (x : Private). x.phase) c.after) (quiet w t q _ _ is.0 (ap (λ (x : Private). x.registers) c.after)) (ap (λ (x : Private). x.epoch) c.after))

-- a step that takes none
here_says : {dated : Bool} → (w : Core) (t : ℕ) → IsKept dated w → IsMutator w.config t → is_busy (mutator w t) ≡ true → IsStayingIn (mutator w t).phase → TakesNone (mutator w t).phase → Says w t (step_of (mutator w t) (found_by w t) (box w t)) (stepped w t)
here_says w t kept is busy stays none =
    let p : Private = mutator w t in
    let word : ℕ = found_by w t in
    let between : IsBetween (took_of p word).phase = step_between (learnt_made p word (box w t) busy none) in
    subst (λ (b : Contents). Says w t (step_of p word (box w t)) (performed w t (next_of p) word (step_of p word (box w t)) b)) (sym (left_same (took_of p word) (box w t) between))
    (says stays (record { dated = _; kept = kept; is = is; stays = stays_here w t kept is busy; found = refl }) (step_made p word (box w t) busy (actor_of w t kept is).own.between))

-- the mutator after its step
pub stepped_mutator : {dated : Bool} → (w : Core) (t : ℕ) → IsKept dated w → IsMutator w.config t → mutator (stepped w t) t ≡ step_of (mutator w t) (found_by w t) (box w t)
stepped_mutator w t kept is = mutator_left w t (step_of (mutator w t) (found_by w t) (box w t)) kept is

-- What is said of the next step of a mutator, if it isn't one of leaving.
pub step_says : {dated : Bool} → (w : Core) (t : ℕ) → IsKept dated w → IsMutator w.config t → is_busy (mutator w t) ≡ true → IsStayingIn (mutator w t).phase → Says w t (mutator (stepped w t) t) (stepped w t)
step_says w t kept is busy stays =
    subst (λ (q : Private). Says w t q (stepped w t)) (sym (stepped_mutator w t kept is)) (go (mutator w t).phase refl stays (actor_of w t kept is).own.between)
  where
    here : (phase : phases.Phase) → (mutator w t).phase ≡ phase → TakesNone phase → Says w t (step_of (mutator w t) (found_by w t) (box w t)) (stepped w t)
    here phase its none = here_says w t kept is busy stays (subst TakesNone (sym its) none)

    go : (phase : phases.Phase) → (mutator w t).phase ≡ phase → IsStayingIn phase → IsBetween phase → Says w t (step_of (mutator w t) (found_by w t) (box w t)) (stepped w t)
    go at.Idle its staying between = here at.Idle its tt
    go (at.Begun work) its staying between = here (at.Begun work) its tt
    go (at.Scanning reg label leaf before probed) its staying between = here (at.Scanning reg label leaf before probed) its tt
    go (at.Scanned reg label leaf before) its staying between = here (at.Scanned reg label leaf before) its tt
    go (at.Storing src f val slot) its staying between = here (at.Storing src f val slot) its tt
    go at.Crossing its staying between = takes_says w t kept is its
    go at.Swapping its staying between = absurd between
    go at.Giving its staying between = here at.Giving its tt
    go at.Leaving its staying between = absurd staying
    go at.Retiring its staying between = absurd between
    go at.Parting its staying between = absurd staying
    go (at.Finished work made) its staying between = here (at.Finished work made) its tt
    go (at.Passing passage) its staying between = absurd between

-- The step that takes the mailbox of a mutator that leaves decides that: its registers are null, and its log is the spare from there.
pub leaving_decided : {dated : Bool} → (w : Core) (t : ℕ) → IsKept dated w → IsMutator w.config t → (mutator w t).phase ≡ at.Leaving → IsDecided w t commands.Leave (plain answers.Done) (stepped w t)
leaving_decided w t kept is phase =
    let p : Private = mutator w t in
    let word : ℕ = found_by w t in
    let q : Private = step_of p word (box w t) in
    let l = lets_go p word (box w t) phase in
    let after : Sight = sight_without_registers (sight w) t in
    let entries : q.log.entries ≡ [] = ap (λ (x : Private). x.log.entries) l.after ∙ ap (λ (b : Contents). b.entries) (leaving_of w t kept is phase).0 in
    let saw : sight (with_mutator w t q) ≡ after = saw_nulls w t q (ap (λ (x : Private). x.registers) l.after) in
    let telling : IsTelling w t commands.Leave (plain answers.Done) [] w.made 0 after
    = record {
      explained = leave_explained (sight w) t;
      leaves = record { seen = refl; birth = λ is. absurd (false≢true is) };
      kind = refl;
      full = λ is. cc;
      births = sym (add-zero w.made);
      entered = refl;
      stamp = tt;
    } in
    let m : Finds w t word (next_of p) = record { dated = _; kept = kept; is = is; stays = stays_here w t kept is (ap is_busy_at phase); found = refl } in
    after_take (IsDecided w t commands.Leave (plain answers.Done)) w t p.number (p.epoch + 1) word q (left_of (took_of p word) (box w t)) (next_of p) l.operation
    (decides _ m (record { mutators = refl; entries_left = entries; epoch = ap (λ (x : Private). x.epoch) l.after; requested = refl; freed = refl }) saw telling)

-- It lets the registers go, and changes nothing else that is seen.
pub leaving_says : {dated : Bool} → (w : Core) (t : ℕ) → IsKept dated w → IsMutator w.config t → (mutator w t).phase ≡ at.Leaving → ((mutator (stepped w t) t).phase ≡ at.Parting) × HasLetGo w (stepped w t) t
leaving_says w t kept is phase =
    let p : Private = mutator w t in
    let word : ℕ = found_by w t in
    let q : Private = step_of p word (box w t) in
    let l = lets_go p word (box w t) phase in
    let own = leaving_of w t kept is phase in
    let here : slice_index_or (slice_set w.mutators (t - 1) q) (t - 1) nobody ≡ q = mutator_left w t q kept is in
    let P : Core → Type 0 = λ v. ((mutator v t).phase ≡ at.Parting) × HasLetGo w v t in
    after_take P w t p.number (p.epoch + 1) word q (left_of (took_of p word) (box w t)) (next_of p) l.operation (
      ap (λ (x : Private). x.phase) (here ∙ l.after),
      record {
        home = own.1;
        seen = saw_nulls w t q (ap (λ (x : Private). x.registers) l.after);
        log = ap (λ (x : Private). x.log) (here ∙ l.after) ∙ own.0;
        epoch = ap (λ (x : Private). x.epoch) (here ∙ l.after);
        others = λ s other some. mutator_other w.mutators t s q is.0 other some;
        collector = refl;
        freed = refl;
        requested = refl;
        made = refl;
        config = refl;
      },
    )

-- What the step shows that gives it back: the answer, and nothing else. The mutator has left then, and is in the next epoch.
pub record Parts (w : Core) (t : ℕ) (q : Private) (v : Core) : Type 0 where
  pub answer : answer_of q ≡ Some (makes.Answered (plain answers.Done))
  pub quiet : IsQuiet w v t
  pub log : q.log ≡ (mutator w t).log
  pub epoch : q.epoch ≡ (mutator w t).epoch + 1
  pub left : q.left ≡ true

-- it does
pub parting_says : {dated : Bool} → (w : Core) (t : ℕ) → IsKept dated w → IsMutator w.config t → (mutator w t).phase ≡ at.Parting → Parts w t (mutator (stepped w t) t) (stepped w t)
parting_says w t kept is phase =
    let p : Private = mutator w t in
    let word : ℕ = found_by w t in
    let q : Private = step_of p word (box w t) in
    let l = leaves_at_last p word (box w t) phase in
    let P : Core → Type 0 = λ v. Parts w t q v in
    subst (λ (x : Private). Parts w t x (stepped w t)) (sym (stepped_mutator w t kept is))
    (subst (λ (b : Contents). Parts w t q (performed w t (next_of p) word q b)) (sym (parting_keeps p word (box w t) phase))
    (after_give P w t p.number (p.epoch + 1) word q (next_of p) l.operation
    (record {
      answer = ap answer_of l.after;
      quiet = quiet w t q _ _ is.0 (ap (λ (x : Private). x.registers) l.after);
      log = ap (λ (x : Private). x.log) l.after;
      epoch = ap (λ (x : Private). x.epoch) l.after;
      left = ap (λ (x : Private). x.left) l.after;
    })))

-- why a step that answers a command refuses it, if it does
pub step_caused : {dated : Bool} → (w : Core) (t : ℕ) (cmd : Cmd) (told : Told) → IsKept dated w → IsMutator w.config t → is_busy (mutator w t) ≡ true → work_of (mutator w t) ≡ Some (works.Command cmd)
    → answer_of (mutator (stepped w t) t) ≡ Some (makes.Answered told) → HasCause (mutator w t) (mutator (stepped w t) t) cmd (found_by w t) told.answer
step_caused w t cmd told kept is busy work answer =
    let own = (actor_of w t kept is).own in
    let here : mutator (stepped w t) t ≡ step_of (mutator w t) (found_by w t) (box w t) = stepped_mutator w t kept is in
    subst (λ (q : Private). HasCause (mutator w t) q cmd (found_by w t) told.answer) (sym here)
    (answer_cause (mutator w t) (found_by w t) (box w t) cmd told own.machine (record { busy = busy; between = own.between; work = work; answer = ap answer_of (sym here) ∙ answer }))

-- nothing is seen of what only works
pub works_sight : (w v : Core) (t : ℕ) → OnlyWorks w v t → sight v ≡ sight w
works_sight w v t only = ap sight only.others ∙ saw_same w t (mutator v t) (ap (λ (p : Private). p.registers) only.own)

-- A step of a mutator shows what it has to.
pub step_shown : {dated : Bool} → (w : Core) (t : ℕ) → IsKept dated w → IsMutator w.config t → is_busy (mutator w t) ≡ true → IsShown w t (answer_of (mutator (stepped w t) t)) (stepped w t)
step_shown w t kept is busy = elim (leaves_or_stays (mutator w t).phase) [
  | inl leaving ↦ at_phase_shown leaving (leaving_decided w t kept is leaving)
  | inr (inl parting) ↦
      let parts = parting_says w t kept is parting in
      at_phase_shown parting (parts.answer, parts.quiet.seen, step_caused w t commands.Leave (plain answers.Done) kept is busy (ap work_at parting) parts.answer)
  | inr (inr stays) ↦ shown_as w t (mutator w t).phase (answer_of (mutator (stepped w t) t)) (stepped w t) stays (go (step_says w t kept is busy stays))
]
  where
    at_phase_shown : {phase : phases.Phase} → (mutator w t).phase ≡ phase → IsShownAt w t phase (answer_of (mutator (stepped w t) t)) (stepped w t) → IsShown w t (answer_of (mutator (stepped w t) t)) (stepped w t)
    at_phase_shown its shown = subst (λ x. IsShownAt w t x (answer_of (mutator (stepped w t) t)) (stepped w t)) (sym its) shown

    unseen : (x : Option Made) → answer_of (mutator (stepped w t) t) ≡ x → IsShownAs w t x (stepped w t) → IsShownAs w t (answer_of (mutator (stepped w t) t)) (stepped w t)
    unseen x its shown = subst (λ (y : Option Made). IsShownAs w t y (stepped w t)) (sym its) shown

    go : Says w t (mutator (stepped w t) t) (stepped w t) → IsShownAs w t (answer_of (mutator (stepped w t) t)) (stepped w t)
    go (Says.decided cmd told work answer said staying refused) = unseen (Some (makes.Answered told)) answer (cmd, work, said, step_caused w t cmd told kept is busy work answer)
    go (Says.going answer only found) = unseen None answer (works_sight w (stepped w t) t only)
    go (Says.holding answer phase still epoch) = unseen None answer still.seen
    go (Says.stayed answer work here only) = unseen (Some (makes.Crossed None)) answer (works_sight w (stepped w t) t only)
    go (Says.crossed answer work phase still epoch log) = unseen (Some (makes.Crossed (Some ((mutator w t).epoch + 1)))) answer still.seen

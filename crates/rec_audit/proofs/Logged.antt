-- The buffers of every run are their mutators' own: through each step of a mutator.
use Rattle.std.proofs.Common.{◌≡◌, ◌≢◌, inl, inr, Bool, ℕ, ◌+◌, ◌-◌, ◌*◌, ◌^◌, ◌<◌, ◌≤◌, Option, None, Some, List, [], ◌∷◌, ◌++◌, true, length, replicate, slice_index_or, slice_set, refl, sym, ap, subst, ◌∙◌, arith, length-append, false}
use Rattle.std.proofs.lemmas.Bool.{cases_eq, cases_lt}
use Rattle.std.proofs.lemmas.List.{get_or-append_right, get_or-replicate, get_or-set_other, get_or-set_same, get_or_append_left, get_or_past, length-replicate, length-set}
use Rattle.rec_core.proofs.Common.{header_word, target_bits, stamp_of, place_of, Op, Contents, Entry, Private, register, is_busy, Step, Decides, GoesOn, blank, IsMutator, Core, cells_of, mutator, box, nobody, IsKept, found_by}
use Rattle.rec_core.specs.declared.config.Config.{Config}
use Rattle.rec_word.specs.Bare.{dated_word}
use Rattle.rec_word.specs.Op.{cell_of, written}
use Rattle.rec_word.specs.Word.{low_bits, packed, IsStamp}
use Rattle.rec_word.specs.declared.cell.Cell.{Cell}
use Rattle.rec_word.specs.declared.cell.Cell.TheVariants as words
use Rattle.rec_word.specs.declared.op.Op.TheVariants as ops
use Rattle.rec_word.specs.declared.stamps.Stamp.{Stamp}
use Rattle.rec_word.proofs.FieldPlaces.{place_within}
use Rattle.rec_model.specs.declared.command.Cmd.{Cmd}
use Rattle.rec_model.specs.declared.told.Told.{Told}
use Rattle.rec_log.specs.declared.entry.Entry.TheVariants as entries
use Rattle.rec_mutator.specs.Next.{next_of}
use Rattle.rec_mutator.specs.Private.{next_stamp, probe_of, word_for}
use Rattle.rec_mutator.specs.Step.{Crosses, HasLeft, LeavesBox, LetsGo}
use Rattle.rec_mutator.specs.Took.{left_of, step_of, took_of}
use Rattle.rec_mutator.specs.declared.phase.Phase as phases
use Rattle.rec_mutator.proofs.Around.{behind_below}
use Rattle.rec_mutator.proofs.LogStamps.{word_stamp}
use Rattle.rec_mutator.proofs.Refusals.{at_phase}
use Rattle.rec_mutator.proofs.Steps.{whole_made}
use Rattle.rec_core.specs.Cells.{Cells, cell, with_cell, with_word}
use Rattle.rec_audit.specs.Logged.{HasOwnBuffers, IsFieldWord, IsOwnBuffer, IsOwnEntry}
use Rattle.rec_core.specs.Moves.{stepped}
use Rattle.rec_core.proofs.Steps.{actor_of, register_taken, taken_slot}

-- ---- words

pub null_word : (config : Config) → IsFieldWord config 0
null_word config = record { leads = omega arith; fits = omega arith }

abbrev AreFieldWords : Config → List ℕ → Type 0
AreFieldWords config xs = (place : ℕ) → IsFieldWord config (slice_index_or xs place 0)

set_words : (config : Config) (xs : List ℕ) (place word : ℕ) → AreFieldWords config xs → IsFieldWord config word → AreFieldWords config (slice_set xs place word)
set_words config xs place word all is = λ other. elim (cases_eq other place) [
  | inr apart ↦ subst (IsFieldWord config) (sym (get_or-set_other xs place other word 0 apart)) (all other)
  | inl same ↦ elim (cases_lt place (length xs)) [
    | inl there ↦ subst (IsFieldWord config) (sym (ap (λ n. slice_index_or (slice_set xs place word) n 0) same ∙ get_or-set_same xs place word 0 there)) is
    | inr past ↦ subst (IsFieldWord config) (sym (get_or_past (slice_set xs place word) other 0 (omega (arith, same, past, length-set xs place word)))) (null_word config)
  ]
]

cell_words : (config : Config) (cells : Cells) (cell : Cell) (word : ℕ) → AreFieldWords config cells.words → ((place : ℕ) → cell ≡ words.Field place → IsFieldWord config word) → AreFieldWords config (with_word cells cell word).words
cell_words config cells (words.Field place) word all is = set_words config cells.words place word all (is place refl)
cell_words config cells (words.Header slot) word all is = all
cell_words config cells words.Epoch word all is = all
cell_words config cells words.Freed word all is = all
cell_words config cells (words.Crossing t) word all is = all

-- an operation writes no word into a field but such a one
abbrev pub WritesWord : Config → Op → Type 0
WritesWord config (ops.SwapField place word) = IsFieldWord config word
WritesWord config _ = Unit {0}

pub written_words : (config : Config) (cells : Cells) (op : Op) → WritesWord config op → AreFieldWords config cells.words → AreFieldWords config (with_cell cells op (written op (cell cells op))).words
written_words config cells (ops.LoadField place) is all = set_words config cells.words place (slice_index_or cells.words place 0) all (all place)
written_words config cells (ops.SwapField place word) is all = set_words config cells.words place word all is
written_words config cells (ops.LoadChild place) is all = set_words config cells.words place (slice_index_or cells.words place 0) all (all place)
written_words config cells (ops.ClearField place) is all = set_words config cells.words place 0 all (null_word config)
written_words config cells op is all = cell_words config cells (cell_of op) (written op (cell cells op)) all (λ place e. absurd (cc))

-- ---- buffers

none_held : (n r slot : ℕ) → slice_index_or {A = Option ℕ} (replicate n None) r None ≡ Some slot → ⊥
none_held n r slot is = elim (cases_lt r n) [
  | inl below ↦ (let none : slice_index_or {A = Option ℕ} (replicate n None) r None ≡ None = get_or-replicate n r None None below in let no : ◌≡◌ {A = Option ℕ} None (Some slot) = sym none ∙ is in cc)
  | inr past ↦ (let none : slice_index_or {A = Option ℕ} (replicate n None) r None ≡ None = get_or_past (replicate n None) r None (omega (arith, past, length-replicate {A = Option ℕ} n None)) in let no : ◌≡◌ {A = Option ℕ} None (Some slot) = sym none ∙ is in cc)
]

-- a spare has no entries, and names nothing
pub blank_own : (config : Config) (t registers capacity : ℕ) → IsOwnBuffer config t (blank registers capacity)
blank_own config t registers capacity = record { entries = λ index d below. absurd (omega arith); held = λ r slot is. absurd (none_held registers r slot is) }

-- one entry more
more_own : (config : Config) (t : ℕ) (b : Contents) (entry : Entry) → IsOwnBuffer config t b → IsOwnEntry config t (length b.entries) entry → IsOwnBuffer config t (record b { entries = b.entries ++ entry ∷ [] })
more_own config t b entry own is = record {
  entries = λ index d below. elim (cases_lt index (length b.entries)) [
    | inl before ↦ subst (IsOwnEntry config t index) (sym (get_or_append_left b.entries (entry ∷ []) d index before)) (own.entries index d before)
    | inr past ↦
        let last : index ≡ length b.entries = omega (arith, below, past, length-append b.entries (entry ∷ [])) in
        let none : index - length b.entries ≡ 0 = omega arith in
        subst (λ n. IsOwnEntry config t n (slice_index_or (b.entries ++ entry ∷ []) index d)) (sym last)
        (subst (IsOwnEntry config t (length b.entries)) (sym (get_or-append_right b.entries (entry ∷ []) (length b.entries) index d refl past ∙ ap (λ k. slice_index_or (entry ∷ []) k d) none)) is)
  ];
  held = own.held;
}

-- ---- the steps of a mutator

-- what a step does to words and to the log
record DoesOwn (config : Config) (t : ℕ) (op : Op) (q : Private) : Type 0 where
  word : WritesWord config op
  log : IsOwnBuffer config t q.log

decided : {config : Config} {t : ℕ} {p : Private} {op : Op} {q : Private} {cmd : Cmd} {at : phases.Phase} {its_op : Op} {registers : List (Option ℕ)} {entries : List Entry} {told : Told}
    → WritesWord config its_op → IsOwnBuffer config t (record p.log { entries = entries }) → Decides p op q cmd at its_op registers entries told → DoesOwn config t op q
decided {config = config} {t = t} word log d = record { word = subst (WritesWord config) (sym d.operation) word; log = subst (IsOwnBuffer config t) (sym (ap (λ (x : Private). x.log) d.after)) log }

goes : {config : Config} {t : ℕ} {p : Private} {op : Op} {q : Private} {at : phases.Phase} {its_op : Op} {next : phases.Phase} → WritesWord config its_op → IsOwnBuffer config t p.log → GoesOn p op q at its_op next → DoesOwn config t op q
goes {config = config} {t = t} word log g = record { word = subst (WritesWord config) (sym g.operation) word; log = subst (IsOwnBuffer config t) (sym (ap (λ (x : Private). x.log) g.after)) log }

crosses : {config : Config} {t : ℕ} {p : Private} {op : Op} {q : Private} {at : phases.Phase} {its_op : Op} {epoch : ℕ} {b : Contents} {next : phases.Phase} → WritesWord config its_op → IsOwnBuffer config t b → Crosses p op q at its_op epoch b next → DoesOwn config t op q
crosses {config = config} {t = t} word log c = record { word = subst (WritesWord config) (sym c.operation) word; log = subst (IsOwnBuffer config t) (sym (ap (λ (x : Private). x.log) c.after)) log }

leaves : {config : Config} {t : ℕ} {p : Private} {op : Op} {q : Private} {b : Contents} → IsOwnBuffer config t b → LetsGo p op q b → DoesOwn config t op q
leaves {config = config} {t = t} log l = record { word = subst (WritesWord config) (sym l.operation) tt; log = subst (IsOwnBuffer config t) (sym (ap (λ (x : Private). x.log) l.after)) log }

left : {config : Config} {t : ℕ} {p : Private} {op : Op} {q : Private} → IsOwnBuffer config t p.log → HasLeft p op q → DoesOwn config t op q
left {config = config} {t = t} log l = record { word = subst (WritesWord config) (sym l.operation) tt; log = subst (IsOwnBuffer config t) (sym (ap (λ (x : Private). x.log) l.after)) log }

-- a packed word is one of the heap
packed_word : (config : Config) (target : Option ℕ) (stamp : Stamp) → IsStamp stamp → low_bits target ≤ config.slots → config.slots ≤ 65535 → IsFieldWord config (packed target stamp)
packed_word config target stamp is leads few =
    let small : low_bits target ≤ 65535 = omega arith in
    record { leads = bits (low_bits target) (is.writer) (is.epoch) (is.index) small leads; fits = fits (low_bits target) is.writer is.epoch is.index small }
  where
    bits : (n : ℕ) → stamp.writer < 2 ^ 6 → stamp.epoch < 2 ^ 24 → stamp.index < 2 ^ 18 → n ≤ 65535 → n ≤ config.slots → target_bits (n + stamp.epoch * 2 ^ 16 + stamp.writer * 2 ^ 40 + stamp.index * 2 ^ 46) ≤ config.slots
    bits n a b c few most = grind arith

    fits : (n : ℕ) → stamp.writer < 2 ^ 6 → stamp.epoch < 2 ^ 24 → stamp.index < 2 ^ 18 → n ≤ 65535 → n + stamp.epoch * 2 ^ 16 + stamp.writer * 2 ^ 40 + stamp.index * 2 ^ 46 < 2 ^ 64
    fits n a b c few = omega arith

-- what a register names is below the slots
low_of : (config : Config) (x : Option ℕ) → ((slot : ℕ) → x ≡ Some slot → slot < config.slots) → low_bits x ≤ config.slots
low_of config None below = omega arith
low_of config (Some slot) below = let h : slot < config.slots = below slot refl in omega arith

-- what is known of a mutator whose step it is, and of the word that it finds
record Acts (w : Core) (t : ℕ) : Type 0 where
  kept : IsKept false w
  is : IsMutator w.config t
  own : HasOwnBuffers w

-- what a register names is a slot
names_slot : (w : Core) (t r slot : ℕ) → IsKept false w → register (mutator w t) r ≡ Some slot → slot < w.config.slots
names_slot w t r slot kept names = taken_slot w kept slot (register_taken w kept t r slot names)

-- a write
put_does : (w : Core) (t src f val slot word : ℕ) (op : Op) (q : Private) {told : Told} {cmd : Cmd} → Acts w t → IsFieldWord w.config word
    → Decides (mutator w t) op q cmd (phases.TheVariants.Storing src f val slot) (ops.SwapField (place_of slot f (mutator w t).fields) (word_for (mutator w t) val)) (mutator w t).registers ((mutator w t).log.entries ++ entries.Put (place_of slot f (mutator w t).fields) (word_for (mutator w t) val) word ∷ []) told
    → DoesOwn w.config t op q
put_does w t src f val slot word op q a found d =
    let p : Private = mutator w t in
    let actor = actor_of w t a.kept a.is in
    let store = (at_phase p _ actor.own.machine d.phase).0 in
    let few : w.config.slots ≤ 65535 = a.kept.config.few_slots in
    let log : length p.log.entries < p.log.capacity = store.room in
    let most : p.log.capacity ≤ 2 ^ 18 = actor.own.machine.capacity in
    let stamp : stamp_of (word_for p val) ≡ next_stamp p = word_stamp p val actor.own.machine store.stamp (λ full. absurd (omega arith)) in
    let packs : IsFieldWord w.config (packed (register p val) (next_stamp p)) = packed_word w.config (register p val) (next_stamp p) (record { writer = actor.own.machine.number; epoch = store.stamp; index = omega arith }) (low_of w.config (register p val) (λ s names. names_slot w t val s a.kept names)) few in
    let new : IsFieldWord w.config (word_for p val) = subst (λ b. IsFieldWord w.config (dated_word b p.epoch (packed (register p val) (next_stamp p)))) (sym actor.own.dates) packs in
    decided {p = p} new
    (more_own w.config t p.log (entries.Put (place_of slot f p.fields) (word_for p val) word) (a.own.logs t a.is)
    (record {
      within = subst (λ n. place_of slot f n < w.config.slots * w.config.fields) (sym actor.own.fields) (place_within w.config.slots w.config.fields slot f (names_slot w t src slot a.kept store.source) (subst (λ n. f < n) actor.own.fields store.operands.1));
      puts = new;
      finds = found;
      writer = ap (λ (s : Stamp). s.writer) stamp ∙ actor.own.number;
      number = ap (λ (s : Stamp). s.index) stamp;
    }))
    d

-- a birth
birth_does : (w : Core) (t reg label before probed : ℕ) (leaf : Bool) (op : Op) (q : Private) {told : Told} {cmd : Cmd} {registers : List (Option ℕ)} → Acts w t
    → Decides (mutator w t) op q cmd (phases.TheVariants.Scanning reg label leaf before probed) (ops.ClaimHeader (probe_of (mutator w t) probed) (header_word leaf label)) registers ((mutator w t).log.entries ++ entries.Born (probe_of (mutator w t) probed) leaf ∷ []) told
    → DoesOwn w.config t op q
birth_does w t reg label before probed leaf op q a d =
    let p : Private = mutator w t in
    let actor = actor_of w t a.kept a.is in
    decided {p = p} tt
    (more_own w.config t p.log (entries.Born (probe_of p probed) leaf) (a.own.logs t a.is) (subst (λ n. probe_of p probed < n) actor.own.slots (behind_below p.slots p.from probed actor.own.machine.first_slot)))
    d

-- each rule
step_does : (w : Core) (t word : ℕ) (op : Op) (q : Private) → Acts w t → ((place new : ℕ) → op ≡ ops.SwapField place new → IsFieldWord w.config word) → Step (mutator w t) word (box w t) op q → DoesOwn w.config t op q
step_does w t word op q a found (Step.null reg d) = decided tt (a.own.logs t a.is) d
step_does w t word op q a found (Step.copy dst src d) = decided tt (a.own.logs t a.is) d
step_does w t word op q a found (Step.compare x y d) = decided tt (a.own.logs t a.is) d
step_does w t word op q a found (Step.park d) = decided tt (a.own.logs t a.is) d
step_does w t word op q a found (Step.unpark d) = decided tt (a.own.logs t a.is) d
step_does w t word op q a found (Step.get_of_null dst src f names d) = decided tt (a.own.logs t a.is) d
step_does w t word op q a found (Step.get dst src f slot names d) = decided tt (a.own.logs t a.is) d
step_does w t word op q a found (Step.put_of_null src f val names d) = decided tt (a.own.logs t a.is) d
step_does w t word op q a found (Step.put_refused src f val slot names full d) = decided tt (a.own.logs t a.is) d
step_does w t word op q a found (Step.put_into_leaf src f val slot names room leaf d) = decided tt (a.own.logs t a.is) d
step_does w t word op q a found (Step.put_begins src f val slot names room leaf g) = goes tt (a.own.logs t a.is) g
step_does w t word op q a found (Step.put src f val slot d) = put_does w t src f val slot word op q a (found _ _ d.operation) d
step_does w t word op q a found (Step.value_of_null reg names d) = decided tt (a.own.logs t a.is) d
step_does w t word op q a found (Step.value reg slot names d) = decided tt (a.own.logs t a.is) d
step_does w t word op q a found (Step.new_refused reg label leaf full d) = decided tt (a.own.logs t a.is) d
step_does w t word op q a found (Step.new_begins reg label leaf room g) = goes tt (a.own.logs t a.is) g
step_does w t word op q a found (Step.new_wins reg label leaf before probed free d) = birth_does w t reg label before probed leaf op q a d
step_does w t word op q a found (Step.new_goes_on reg label leaf before probed taken more g) = goes tt (a.own.logs t a.is) g
step_does w t word op q a found (Step.new_finds_none reg label leaf before probed taken last g) = goes tt (a.own.logs t a.is) g
step_does w t word op q a found (Step.new_is_full reg label leaf before still d) = decided tt (a.own.logs t a.is) d
step_does w t word op q a found (Step.new_is_busy reg label leaf before moves d) = decided tt (a.own.logs t a.is) d
step_does w t word op q a found (Step.leave_refused uncollected d) = decided tt (a.own.logs t a.is) d
step_does w t word op q a found (Step.leave_begins collected g) = goes tt (a.own.logs t a.is) g
step_does w t word op q a found (Step.leave l) = leaves (a.own.boxes t a.is) l
step_does w t word op q a found (Step.leave_ends l) = left (a.own.logs t a.is) l
step_does w t word op q a found (Step.poll_stays own g) = goes tt (a.own.logs t a.is) g
step_does w t word op q a found (Step.poll_crosses other g) = goes tt (a.own.logs t a.is) g
step_does w t word op q a found (Step.take_box c) = crosses tt (a.own.boxes t a.is) c
step_does w t word op q a found (Step.give_box c) = crosses tt (a.own.logs t a.is) c

-- what it leaves in the mailbox
step_leaves : (w : Core) (t : ℕ) (b : Contents) → Acts w t → LeavesBox (mutator w t) (box w t) b → IsOwnBuffer w.config t b
step_leaves w t b a (LeavesBox.retires phase is) =
    subst (IsOwnBuffer w.config t) (sym is) (record { entries = (a.own.logs t a.is).entries; held = λ r slot names. names_slot w t r slot a.kept names })
step_leaves w t b a (LeavesBox.lets_go phase is) =
    subst (IsOwnBuffer w.config t) (sym is) (record { entries = (a.own.logs t a.is).entries; held = λ r slot names. absurd (none_held (length (mutator w t).registers) r slot names) })
step_leaves w t b a (LeavesBox.keeps none is) = subst (IsOwnBuffer w.config t) (sym is) (a.own.boxes t a.is)

-- one of a list of a mutator each is replaced
pub each_set : {X : Type 0} (P : ℕ → X → Type 0) (config : Config) (xs : List X) (t : ℕ) (x d : X) → IsMutator config t → length xs ≡ config.mutators → ((s : ℕ) → IsMutator config s → P s (slice_index_or xs (s - 1) d)) → P t x
    → (s : ℕ) → IsMutator config s → P s (slice_index_or (slice_set xs (t - 1) x) (s - 1) d)
each_set P config xs t x d is many all own = λ s there. elim (cases_eq s t) [
  | inl same ↦
      let at : s - 1 ≡ t - 1 = ap (λ n. n - 1) same in
      let here : slice_index_or (slice_set xs (t - 1) x) (s - 1) d ≡ x = ap (λ n. slice_index_or (slice_set xs (t - 1) x) n d) at ∙ get_or-set_same xs (t - 1) x d (omega (arith, is.0, is.1, many)) in
      subst (P s) (sym here) (subst (λ n. P n x) (sym same) own)
  | inr other ↦
      let apart : (s - 1) ≢ (t - 1) = λ e. other (omega (arith, e, is.0, there.0)) in
      subst (P s) (sym (get_or-set_other xs (t - 1) (s - 1) x d apart)) (all s there)
]

-- a step of a mutator
pub stepped_own : (w : Core) (t : ℕ) → IsKept false w → HasOwnBuffers w → IsMutator w.config t → is_busy (mutator w t) ≡ true → HasOwnBuffers (stepped w t)
stepped_own w t kept own is busy =
    let p : Private = mutator w t in
    let word : ℕ = found_by w t in
    let a : Acts w t = record { kept = kept; is = is; own = own } in
    let whole = whole_made p word (box w t) busy (actor_of w t kept is).own.between in
    let found : (place new : ℕ) → next_of p ≡ ops.SwapField place new → IsFieldWord w.config word
    = λ place new e. subst (IsFieldWord w.config) (sym (ap (cell (cells_of w)) e)) (own.words place) in
    let does : DoesOwn w.config t (next_of p) (step_of p word (box w t)) = step_does w t word (next_of p) (step_of p word (box w t)) a found whole.own in
    record {
      words = written_words w.config (cells_of w) (next_of p) does.word own.words;
      logs = each_set (λ s (x : Private). IsOwnBuffer w.config s x.log) w.config w.mutators t (step_of p word (box w t)) nobody is kept.mutators.many own.logs does.log;
      boxes = each_set (λ s (x : Contents). IsOwnBuffer w.config s x) w.config w.boxes t (left_of (took_of p word) (box w t)) (blank 0 0) is kept.mutators.mailboxes own.boxes (step_leaves w t (left_of (took_of p word) (box w t)) a whole.mailbox);
      newer = own.newer;
    }

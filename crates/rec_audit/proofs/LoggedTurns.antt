-- The buffers of every run are their mutators' own: through each turn of the collector, and so through all moves.
use Rattle.std.proofs.Common.{◌≡◌, ◌⊎◌, inl, inr, ℕ, suc, ◌-◌, ◌*◌, ◌<◌, ◌==◌, if◌then◌else◌, true, false, Option, Some, IfSome, List, [], ◌∷◌, map, length, replicate, slice_index_or, slice_set, refl, sym, ap, subst, ◌∙◌, arith}
use Rattle.std.proofs.Math.ListN.{get_or-map}
use Rattle.std.proofs.lemmas.Bool.{cases_lt}
use Rattle.std.proofs.lemmas.List.{get_or-replicate, get_or_past, length-replicate}
use Rattle.rec_core.proofs.Common.{crossing_word, Retired, Op, Contents, Parts, Begun, cleared, blank, buffer_at, ClearsOn, TriesOn, PreparesOn, Phase, Looking, Turn, IsMutator, Core, cells_of, box, mutator, nobody, spare_of, opened, IsKept, looked_at, left_by, turned, turned_by, Move, after_move, after_moves, Fits, AllFit, IsConfig}
use Rattle.rec_core.specs.declared.config.Config.{Config}
use Rattle.rec_word.specs.declared.op.Op.TheVariants as ops
use Rattle.rec_mutator.specs.Private as mutators
use Rattle.rec_mutator.specs.Took as mutators_took
use Rattle.rec_sigma.specs.Prepare as preps
use Rattle.rec_trial.specs.Trial as trials
use Rattle.rec_collector.specs.Next as collector_next
use Rattle.rec_collector.specs.Private as collectors
use Rattle.rec_collector.specs.Step.{Ends, GoesOn, NamesWord, Step}
use Rattle.rec_collector.specs.Took as collector_took
use Rattle.rec_collector.proofs.Always as collector_words
use Rattle.rec_core.specs.Cells.{cell}
use Rattle.rec_audit.specs.Logged.{HasOwnBuffers, IsFieldWord, IsOwnBuffer}
use Rattle.rec_audit.proofs.Logged.{WritesWord, blank_own, each_set, null_word, stepped_own, written_words}
use Rattle.rec_core.proofs.Opened.{mutator_opened, words_opened}
use Rattle.rec_core.proofs.BareRuns.{move_kept, rule_of}
use Rattle.rec_core.proofs.PlainWords.{CrossesNone, none_crossed}
use Rattle.rec_core.proofs.Runs.{looked_is}
use Rattle.rec_core.proofs.Turning.{turn_case}

-- ---- the newer buffers

-- they stay, or they are the older ones, cleared
abbrev KeepsNewer : (p q : collectors.Private) → Type 0
KeepsNewer p q = (q.newer ≡ p.newer) ⊎ (q.newer ≡ map cleared p.older)

going_newer : (p : collectors.Private) {r q : collectors.Private} {turn : Turn} {next : Phase} → r.newer ≡ p.newer → GoesOn r q turn next → KeepsNewer p q
going_newer p same g = inl (ap (λ (x : collectors.Private). x.newer) g.after ∙ same)

ending_newer : (p : collectors.Private) {r q : collectors.Private} {turn : Turn} {swept : ℕ} → r.older ≡ p.older → Ends r q turn swept → KeepsNewer p q
ending_newer p same e = inr (ap (λ (x : collectors.Private). x.newer) e.after ∙ ap (map cleared) same)

prepares_newer : (p q : collectors.Private) (turn : Turn) (w : Parts) (v : preps.Work) → PreparesOn p w v q turn → KeepsNewer p q
prepares_newer p q turn w v (PreparesOn.more due on) = going_newer p refl on
prepares_newer p q turn w v (PreparesOn.sweeps_next none some on) = going_newer p refl on
prepares_newer p q turn w v (PreparesOn.completes none free on) = ending_newer p refl on

tries_newer : (p q : collectors.Private) (turn : Turn) (w : Parts) (v : trials.Work) → TriesOn p w v q turn → KeepsNewer p q
tries_newer p q turn w v (TriesOn.more due on) = going_newer p refl on
tries_newer p q turn w v (TriesOn.prepares none on) = prepares_newer p q turn _ _ on

clears_newer : (p q : collectors.Private) (turn : Turn) (b : Begun) → ClearsOn p q turn b → KeepsNewer p q
clears_newer p q turn b (ClearsOn.works phase is on) = going_newer p refl on
clears_newer p q turn b (ClearsOn.tests c none some test on) = clears_newer p q turn c on
clears_newer p q turn b (ClearsOn.tries none sets due on) = tries_newer p q turn _ _ on
clears_newer p q turn b (ClearsOn.waits none sets off on) = prepares_newer p q turn _ _ on

-- they stay, one is gathered, or the collection is complete
data HasNewer (p q : collectors.Private) (b : Contents) : Type 0 where
  keeps : KeepsNewer p q → HasNewer p q b
  gathers : (t : ℕ) → p.phase ≡ Looking t → q.newer ≡ slice_set p.newer (t - 1) b → HasNewer p q b

step_newer : {p q : collectors.Private} {word : ℕ} {b : Contents} {op : Option Op} {turn : Turn} → CrossesNone p word → Step p word b op q turn → HasNewer p q b
step_newer {p} none (Step.spent idle last is same answer) = HasNewer.keeps (inl (ap (λ (x : collectors.Private). x.newer) same))
step_newer {p} {q} none (Step.request next idle more is present g) = HasNewer.keeps (going_newer p refl g)
step_newer {p} {q} none (Step.request_alone idle more is alone on) = HasNewer.keeps (clears_newer (collector_took.requested p) q _ _ on)
step_newer {p} none (Step.wait t looks other is same answer) = HasNewer.keeps (inl (ap (λ (x : collectors.Private). x.newer) same))
step_newer {p} none (Step.gather t looks word_is is g) = HasNewer.gathers t looks (ap (λ (x : collectors.Private). x.newer) g.after)
step_newer none (Step.cross_for t next looks crosses is present g) = absurd (none t _ looks crosses)
step_newer none (Step.cross_for_last t looks crosses is left on) = absurd (none t _ looks crosses)
step_newer {p} none (Step.give_back t next returning is present g) = HasNewer.keeps (going_newer p refl g)
step_newer {p} {q} none (Step.apply t returning is left on) = HasNewer.keeps (clears_newer (collector_took.noted p t) q _ _ on)
step_newer {p} {q} none (Step.release m releasing is on) = HasNewer.keeps (clears_newer p q _ _ on)
step_newer {p} {q} none (Step.freeing m freeing is on) = HasNewer.keeps (clears_newer p q _ _ on)
step_newer {p} {q} none (Step.trial m trying is on) = HasNewer.keeps (tries_newer p q _ _ _ on)
step_newer {p} {q} none (Step.preparation m preparing is on) = HasNewer.keeps (prepares_newer p q _ _ _ on)
step_newer {p} none (Step.begin_sweep opening is g) = HasNewer.keeps (going_newer p refl g)
step_newer {p} none (Step.sweep due swept w phase sweeping is which next g) = HasNewer.keeps (going_newer p refl g)
step_newer {p} none (Step.end_sweep swept closing is e) = HasNewer.keeps (ending_newer p refl e)

-- a cleared buffer is a spare
cleared_own : (config : Config) (t : ℕ) (b : Contents) → IsOwnBuffer config t (cleared b)
cleared_own config t b =
    let own : IsOwnBuffer config t (blank (length b.snapshot) b.capacity) = blank_own config t (length b.snapshot) b.capacity in
    record { entries = own.entries; held = own.held }

cleared_at : (config : Config) (t : ℕ) (bs : List Contents) (i : ℕ) → IsOwnBuffer config t (buffer_at (map cleared bs) i)
cleared_at config t bs i = elim (cases_lt i (length bs)) [
  | inl there ↦ subst (IsOwnBuffer config t) (sym (get_or-map_within bs i there)) (cleared_own config t (buffer_at bs i))
  | inr past ↦ subst (IsOwnBuffer config t) (sym (get_or_past (map cleared bs) i (blank 0 0) (omega (arith, past, many bs)))) (blank_own config t 0 0)
]
  where
    get_or-map_within : (xs : List Contents) (k : ℕ) → k < length xs → buffer_at (map cleared xs) k ≡ cleared (buffer_at xs k)
    get_or-map_within xs k there = get_or-map cleared xs k (blank 0 0)

    many : (xs : List Contents) → length (map cleared xs) ≡ length xs
    many [] = refl
    many (x ∷ xs) = ap suc (many xs)

-- ---- a turn

-- no operation of the collector puts a word into a field
writes_none : (config : Config) (slots fields mutators : ℕ) (op : Op) → NamesWord slots fields mutators op → WritesWord config op
writes_none config slots fields mutators (ops.SwapField place word) names = absurd names
writes_none config slots fields mutators op names = tt

turned_own : (w : Core) → IsKept false w → HasOwnBuffers w → HasOwnBuffers (turned w)
turned_own w kept own = turn_case w (λ o v. IfSome o (NamesWord (length w.collector.counts.slots) w.collector.fields (length w.collector.newer)) → HasOwnBuffers v) (λ none names. own) by (collector_words.names_word w.collector kept.collector.machine)
  where
    c : collectors.Private
    c = w.collector

    b : Contents
    b = box w (looked_at c.phase)

    gathered : (word : ℕ) (q : collectors.Private) → HasNewer c q b → (t : ℕ) → IsMutator w.config t → IsOwnBuffer w.config t (buffer_at q.newer (t - 1))
    gathered word q (HasNewer.keeps (inl same)) t there = subst (λ (bs : List Contents). IsOwnBuffer w.config t (buffer_at bs (t - 1))) (sym same) (own.newer t there)
    gathered word q (HasNewer.keeps (inr ends)) t there = subst (λ (bs : List Contents). IsOwnBuffer w.config t (buffer_at bs (t - 1))) (sym ends) (cleared_at w.config t c.older (t - 1))
    gathered word q (HasNewer.gathers u looks takes) t there =
        let is : IsMutator w.config u = looked_is w (Looking u) kept looks in
        let its : b ≡ box w u = ap (λ phase. box w (looked_at phase)) looks in
        subst (λ (bs : List Contents). IsOwnBuffer w.config t (buffer_at bs (t - 1))) (sym takes) (each_set (λ s (x : Contents). IsOwnBuffer w.config s x) w.config c.newer u b (blank 0 0) is kept.collector.mutators own.newer (subst (IsOwnBuffer w.config u) (sym its) (own.boxes u is)) t there)

    left_own : (word t : ℕ) (phase : Phase) → IsOwnBuffer w.config t (box w (looked_at phase)) → IsOwnBuffer w.config t (left_by c word (box w (looked_at phase)) phase)
    left_own word t (Looking u) is = elim (word == crossing_word c.epoch Retired) as (λ x. IsOwnBuffer w.config t (if x then collectors.spare c else box w u)) [ true ↦ blank_own w.config t c.registers c.capacity | false ↦ is ]
    left_own word t _ is = is

    by : (op : Op) → ◌≡◌ {A = Option Op} (collector_next.next_of w.collector) (Some op) → NamesWord (length w.collector.counts.slots) w.collector.fields (length w.collector.newer) op → HasOwnBuffers (turned_by w op (cell (cells_of w) op))
    by op named names =
        let word : ℕ = cell (cells_of w) op in
        let t : ℕ = looked_at c.phase in
        let is : IsMutator w.config t = looked_is w c.phase kept refl in
        record {
          words = written_words w.config (cells_of w) op (writes_none w.config _ _ _ op names) own.words;
          logs = own.logs;
          boxes = each_set (λ s (x : Contents). IsOwnBuffer w.config s x) w.config w.boxes t (left_by c word b c.phase) (blank 0 0) is kept.mutators.mailboxes own.boxes (left_own word t c.phase (own.boxes t is));
          newer = gathered word (collector_took.step_of c word b) (step_newer (none_crossed w op kept named) (rule_of w op kept named));
        }

-- ---- moves

pub move_own : (w : Core) (m : Move) → IsKept false w → Fits w m → HasOwnBuffers w → HasOwnBuffers (after_move w m)
unfolding mutators_took.begun_of
move_own w (Move.Begins t work from) kept fits own = record {
  words = own.words;
  logs = each_set (λ s (x : mutators.Private). IsOwnBuffer w.config s x.log) w.config w.mutators t (mutators_took.begun_of (mutator w t) work from) nobody fits.0 kept.mutators.many own.logs (own.logs t fits.0);
  boxes = own.boxes;
  newer = own.newer;
}
move_own w (Move.Steps t) kept fits own = stepped_own w t kept own fits.0 fits.1
move_own w Move.Turns kept fits own = turned_own w kept own
move_own w Move.Offers kept fits own = record { words = own.words; logs = own.logs; boxes = own.boxes; newer = own.newer }

pub moves_own : (w : Core) (ms : List Move) → IsKept false w → AllFit w ms → HasOwnBuffers w → HasOwnBuffers (after_moves w ms)
moves_own w [] kept fit own = own
moves_own w (m ∷ ms) kept fit own = moves_own (after_move w m) ms (move_kept w m kept fit.0) fit.1 (move_own w m kept fit.0 own)

-- ---- openings

opened_buffers : (config : Config) (t n : ℕ) (b : Contents) → IsOwnBuffer config t b → IsOwnBuffer config t (buffer_at (replicate n b) (t - 1))
opened_buffers config t n b is = elim (cases_lt (t - 1) n) [
  | inl there ↦ subst (IsOwnBuffer config t) (sym (get_or-replicate n (t - 1) b (blank 0 0) there)) is
  | inr past ↦ subst (IsOwnBuffer config t) (sym (get_or_past (replicate n b) (t - 1) (blank 0 0) (omega (arith, past, length-replicate n b)))) (blank_own config t 0 0)
]

opened_words : (config : Config) (n place : ℕ) → IsFieldWord config (slice_index_or (replicate n 0) place 0)
opened_words config n place = elim (cases_lt place n) [
  | inl there ↦ subst (IsFieldWord config) (sym (get_or-replicate n place 0 0 there)) (null_word config)
  | inr past ↦ subst (IsFieldWord config) (sym (get_or_past (replicate n 0) place 0 (omega (arith, past, length-replicate {A = ℕ} n 0)))) (null_word config)
]

pub opened_own : (config : Config) → IsConfig config → HasOwnBuffers (opened config)
opened_own config is = record {
  words = λ place. subst (λ ws. IsFieldWord config (slice_index_or ws place 0)) (sym (words_opened config is)) (opened_words config (config.slots * config.fields) place);
  logs = λ t there. subst (λ (p : mutators.Private). IsOwnBuffer config t p.log) (sym (mutator_opened config is t there)) (blank_own config t config.registers config.log_entries);
  boxes = λ t there. opened_buffers config t config.mutators (spare_of config) (blank_own config t config.registers config.log_entries);
  newer = λ t there. opened_buffers config t config.mutators (blank config.registers config.log_entries) (blank_own config t config.registers config.log_entries);
}

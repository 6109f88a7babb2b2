-- What turns of the collector have in common: spares and what they add to sums, what is known in a phase, and mutators that stand where
-- they stood.
use Rattle.std.proofs.Common.{◌≡◌, ◌≢◌, ◌⊎◌, inl, inr, ℕ, ◌+◌, ◌-◌, ◌<◌, if◌then◌else◌, Bool, true, List, length, slice_index_or, slice_set, refl, sym, ap, subst, ◌∙◌, arith}
use Rattle.std.specs.List.{sum_by, zip}
use Rattle.std.proofs.lemmas.Bool.{cases_eq}
use Rattle.std.proofs.lemmas.List.{length-set, get_or-set_same, get_or-set_other}
use Rattle.rec_core.proofs.Common.{place_of, Drops, Write, Dated, Pending, Contents, slot_at, Private, Phase, IsMutator, Core, spare_of, nobody, HasCyclesAt, IsLeft, IsLeftOf, Handshake, IsHandshake, IsActor, HasMutators, HasCollector, has_left, IsKept, IsKeptBy, freeing_due, release_due, Filed, writes_in, births_in, dated_names, epoch_at, pending, slot_of, Config}
use Rattle.rec_collector.specs.Private as collectors
use Rattle.rec_collector.specs.Kept as collector_kept
use Rattle.rec_core.proofs.Batches.{none_of}
use Rattle.rec_core.proofs.Cycling.{AreAliveAt, machine_alive}
use Rattle.rec_core.proofs.Moves.{spare_names}
use Rattle.rec_core.proofs.Sums.{share, box_share, zip_sum-none}

-- a spare of the collector is one of the heap
pub its_spare : {dated : Bool} → {config : Config} {requested : ℕ} {words : List ℕ} {c : collectors.Private} → HasCollector dated config requested words c → collectors.spare c ≡ spare_of config
its_spare {config = config} {c = c} k = ap (λ (n : ℕ). collectors.blank n c.capacity) k.registers ∙ ap (collectors.blank config.registers) k.capacity

-- what a spare adds to sums
pub record AddsNothing {Y : Type 0} (g : Y → ℕ) (f : Filed → List Y) (config : Config) : Type 0 where
  pub nothing : (epoch : ℕ) → share g f epoch (spare_of config) ≡ 0

pub writes_nothing : (config : Config) (g : Write → ℕ) → AddsNothing g (λ (b : Filed). writes_in b.buffer.entries) config
writes_nothing config g = record { nothing = λ epoch. refl }

pub births_nothing : (config : Config) (g : Dated → ℕ) → AddsNothing g (λ (b : Filed). births_in b.epoch b.buffer.entries) config
births_nothing config g = record { nothing = λ epoch. refl }

pub snapshots_nothing : (config : Config) (g : Dated → ℕ) → AddsNothing g (λ (b : Filed). dated_names b.epoch b.buffer.snapshot) config
snapshots_nothing config g = record { nothing = λ epoch. ap (sum_by g) (spare_names config epoch) }

-- a row of spares adds nothing
pub spare_row : {Y : Type 0} (g : Y → ℕ) (f : Filed → List Y) (config : Config) (epoch : ℕ) (row : List Contents) → AddsNothing g f config → ((i : ℕ) → i < length row → slice_index_or row i (collectors.blank 0 0) ≡ spare_of config) → sum_by (share g f epoch) row ≡ 0
spare_row g f config epoch row nothing spares = none_of (share g f epoch) row (collectors.blank 0 0) (λ i below. ap (share g f epoch) (spares i below) ∙ nothing.nothing epoch)

-- so do mailboxes with spares, of whatever epoch their mutators are
pub spare_boxes : {Y : Type 0} (g : Y → ℕ) (f : Filed → List Y) (config : Config) (mutators : List Private) (boxes : List Contents) → AddsNothing g f config
    → ((i : ℕ) → i < length boxes → slice_index_or boxes i (collectors.blank 0 0) ≡ spare_of config) → sum_by (box_share g f) (zip mutators boxes) ≡ 0
spare_boxes g f config mutators boxes nothing spares = zip_sum-none (box_share g f) mutators boxes nobody (collectors.blank 0 0) none
  where
    none : (i : ℕ) → i < length mutators → i < length boxes → box_share g f (slice_index_or mutators i nobody, slice_index_or boxes i (collectors.blank 0 0)) ≡ 0
    none i _ here = let epoch : ℕ = epoch_at (slice_index_or mutators i nobody) - 1 in ap (share g f epoch) (spares i here) ∙ nothing.nothing epoch

-- the collector's machine in its phase
pub now_in : {dated : Bool} → {stands : (t : ℕ) → Handshake} (w : Core) (phase : Phase) → IsKeptBy dated stands w → w.collector.phase ≡ phase → collector_kept.IsAt w.collector phase
now_in w phase kept is = subst (collector_kept.IsAt w.collector) is kept.collector.machine.now

pub now_at : {dated : Bool} → (w : Core) (phase : Phase) → IsKept dated w → w.collector.phase ≡ phase → collector_kept.IsAt w.collector phase
now_at w phase kept is = now_in w phase kept.whole is

-- what is known of the sets in that phase
pub cycles_in : {stands : (t : ℕ) → Handshake} (w : Core) (phase : Phase) → IsKeptBy true stands w → w.collector.phase ≡ phase → HasCyclesAt (pending w) w.collector phase
cycles_in w phase kept is = subst (HasCyclesAt (pending w) w.collector) is kept.cycles

-- and that no member of theirs is given up before the next batch
pub alive_in : {stands : (t : ℕ) → Handshake} (w : Core) (phase : Phase) → IsKeptBy true stands w → w.collector.phase ≡ phase → AreAliveAt (λ node. (slot_of w node).released) w.collector.counts phase
alive_in w phase kept is = machine_alive w.collector phase kept.collector.machine (now_in w phase kept is)

-- which fields of slots that were given up are still to be emptied, in that phase
pub emptied_in : {dated : Bool} → {stands : (t : ℕ) → Handshake} (w : Core) (phase : Phase) → IsKeptBy dated stands w → w.collector.phase ≡ phase → (x f : ℕ) → x < w.config.slots → f < w.config.fields → (slot_at w.collector.counts x).released ≡ true
    → IsLeft (release_due phase) x f ⊎ (IsLeftOf w.collector.counts.work (freeing_due phase) x f ⊎ (slice_index_or w.words (place_of x f w.config.fields) 0 ≡ 0))
emptied_in w phase kept is x f below within released =
    subst (λ (p : Phase). IsLeft (release_due p) x f ⊎ (IsLeftOf w.collector.counts.work (freeing_due p) x f ⊎ (slice_index_or w.words (place_of x f w.config.fields) 0 ≡ 0))) is (kept.collector.emptied x f below within released)

-- a mutator's number, by its place
pub numbered : {dated : Bool} → (w : Core) (i : ℕ) → IsKept dated w → i < w.config.mutators → IsMutator w.config (i + 1)
numbered w i kept below = (omega arith, omega arith)

-- a turn that moves what is pending and loses nothing
pub same_drops : (p q : Pending) → ((weight : Write → ℕ) → sum_by weight q.writes ≡ sum_by weight p.writes) → ((weight : Dated → ℕ) → sum_by weight q.births ≡ sum_by weight p.births) → ((weight : Dated → ℕ) → sum_by weight q.snapshots ≡ sum_by weight p.snapshots)
    → Drops p (record p { writes = q.writes; births = q.births; snapshots = q.snapshots })
same_drops p q writes births snapshots = record {
  writes = (λ weight. omega (arith, writes weight), λ weight _. writes weight);
  births = (λ weight. omega (arith, births weight), λ weight _ _. births weight);
  snapshots = (λ weight. omega (arith, snapshots weight), λ weight _ _. snapshots weight);
  words = λ weight. refl;
  registers = λ weight. refl;
  epochs = record { fields = refl; applied = refl; requested = refl };
  slots = record { count = λ x _. refl; free = λ x _. refl; released = λ x _. refl; leaf = λ x _. refl };
}

-- all mutators, where the collector changes one's crossing word and mailbox, and each other one stands where it stood
pub collector_moves : {config : Config} {requested : ℕ} {stands next : (t : ℕ) → Handshake} {mutators : List Private} {crossing : List ℕ} {boxes : List Contents} (t word : ℕ) (b : Contents)
    → HasMutators true config requested stands mutators crossing boxes → IsMutator config t
    → IsActor true config requested (next t) t (slice_index_or mutators (t - 1) nobody) word b
    → ((s : ℕ) → IsMutator config s → s ≢ t → next s ≡ stands s)
    → HasMutators true config requested next mutators (slice_set crossing (t - 1) word) (slice_set boxes (t - 1) b)
collector_moves {config = config} {requested = requested} {stands = stands} {next = next} {mutators = mutators} {crossing = crossing} {boxes = boxes} t word b m is own others =
    let words : length crossing ≡ config.mutators = m.words in
    let mailboxes : length boxes ≡ config.mutators = m.mailboxes in
    record {
      many = m.many;
      words = length-set crossing (t - 1) word ∙ words;
      mailboxes = length-set boxes (t - 1) b ∙ mailboxes;
      each = λ s there. elim (cases_eq s t) [
        | inl same ↦
            let word_is : slice_index_or (slice_set crossing (t - 1) word) (s - 1) 0 ≡ word = ap (λ n. slice_index_or (slice_set crossing (t - 1) word) (n - 1) 0) same ∙ get_or-set_same crossing (t - 1) word 0 (omega (arith, is.0, is.1)) in
            let box_is : slice_index_or (slice_set boxes (t - 1) b) (s - 1) (collectors.blank 0 0) ≡ b = ap (λ n. slice_index_or (slice_set boxes (t - 1) b) (n - 1) (collectors.blank 0 0)) same ∙ get_or-set_same boxes (t - 1) b (collectors.blank 0 0) (omega (arith, is.0, is.1)) in
            subst (λ (x : ℕ). IsActor true config requested (next s) s (slice_index_or mutators (s - 1) nobody) x (slice_index_or (slice_set boxes (t - 1) b) (s - 1) (collectors.blank 0 0))) (sym word_is)
            (subst (λ (x : Contents). IsActor true config requested (next s) s (slice_index_or mutators (s - 1) nobody) word x) (sym box_is)
            (subst (λ (n : ℕ). IsActor true config requested (next n) n (slice_index_or mutators (n - 1) nobody) word b) (sym same) own))
        | inr other ↦
            let apart : (s - 1) ≢ (t - 1) = λ e. other (omega (arith, is.0, there.0)) in
            let a = m.each s there in
            subst (λ (x : ℕ). IsActor true config requested (next s) s (slice_index_or mutators (s - 1) nobody) x (slice_index_or (slice_set boxes (t - 1) b) (s - 1) (collectors.blank 0 0))) (sym (get_or-set_other crossing (t - 1) (s - 1) word 0 apart))
            (subst (λ (x : Contents). IsActor true config requested (next s) s (slice_index_or mutators (s - 1) nobody) (slice_index_or crossing (s - 1) 0) x) (sym (get_or-set_other boxes (t - 1) (s - 1) b (collectors.blank 0 0) apart))
            (record {
              own = a.own;
              log = a.log;
              unwritten = a.unwritten;
              unmarked = a.unmarked;
              let_go = a.let_go;
              mailbox = a.mailbox;
              handshake = subst (IsHandshake config requested (slice_index_or mutators (s - 1) nobody) (slice_index_or crossing (s - 1) 0) (slice_index_or boxes (s - 1) (collectors.blank 0 0))) (sym (others s there other)) a.handshake;
            }))
      ];
    }

-- a mutator stands where it stood, whether the collector knows that it has left or not
pub stands_as : (left : List Bool) (s : ℕ) {a b : Handshake} → a ≡ b → (if has_left left s then Handshake.Gone else a) ≡ (if has_left left s then Handshake.Gone else b)
stands_as left s same = ap (λ stand. if has_left left s then Handshake.Gone else stand) same

-- all mutators, where each stands where it stood
pub phase_moves : {config : Config} {requested : ℕ} {stands next : (t : ℕ) → Handshake} {mutators : List Private} {crossing : List ℕ} {boxes : List Contents}
    → HasMutators true config requested stands mutators crossing boxes → ((s : ℕ) → IsMutator config s → next s ≡ stands s) → HasMutators true config requested next mutators crossing boxes
phase_moves {config = config} {requested = requested} {mutators = mutators} {crossing = crossing} {boxes = boxes} m same =
    record {
      many = m.many;
      words = m.words;
      mailboxes = m.mailboxes;
      each = λ s there.
          let a = m.each s there in
          record {
            own = a.own;
            log = a.log;
            unwritten = a.unwritten;
            unmarked = a.unmarked;
            let_go = a.let_go;
            mailbox = a.mailbox;
            handshake = subst (IsHandshake config requested (slice_index_or mutators (s - 1) nobody) (slice_index_or crossing (s - 1) 0) (slice_index_or boxes (s - 1) (collectors.blank 0 0))) (sym (same s there)) a.handshake;
          };
    }

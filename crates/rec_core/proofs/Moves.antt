-- What the steps of a mutator are to the accounts of its heap: moves of registers, writes, births and crossings.
use Rattle.std.proofs.Common.{◌≡◌, ◌⊎◌, inl, inr, ℕ, ◌+◌, ◌-◌, ◌<◌, ◌==◌, ◌≢◌, Bool, false, true, zero, suc, List, [], ◌∷◌, ◌++◌, Option, None, Some, length, map, slice_index_or, slice_set, refl, sym, ap, subst, ◌∙◌, arith}
use Rattle.std.specs.List.{sum_by, flat_map, zip}
use Rattle.std.proofs.Math.Seq.{map-set_same}
use Rattle.std.proofs.lemmas.Bool.{eq-eqb, ne_eqb, cases_eq, cond-true, cond-false}
use Rattle.std.proofs.lemmas.List.{get_or-set_same, get_or-set_other}
use Rattle.std.proofs.lemmas.List.Sums.{get_or-le-sum_by, sum_by-append, sum_by-set}
use Rattle.std.proofs.lemmas.Nat.{div-mul-add}
use Rattle.rec_core.proofs.Common.{place_of, target_of, KeepsEpochs, KeepsSlots, Puts, Registers, Bears, Crosses, Drops, Loads, with_answer, node_of, epoch_of, home, Dated, dated, Pending, is_at, Holds, one_if_same, sum_at-set, sum_by-map, sum_by-flat_map, only_if_self, one_if_self, Contents, Private, register, Core, mutator, box, spare_of, nobody, with_mutator, Filed, filed, code, writes_in, births_in, dated_names, dated_all, dated_registers, has_let_go, epoch_at, filed_box, buffers, snapshots_of, registers_of, older_at, pending, Config, header_word, is_leaf, IsHeaderOf}
use Rattle.rec_model.specs.Moves.{LetsGo}
use Rattle.rec_model.specs.Reach.{named}
use Rattle.rec_log.specs.declared.entry.Entry.TheVariants as entries
use Rattle.rec_model.proofs.Opened.{named-nones}
use Rattle.rec_mutator.specs.Took.{nulls_of}
use Rattle.rec_core.proofs.Sums.{share, log_share, box_share, zip-first_same, zip_sum-first_same, buffers_sum, own_sum, registers_sum, dated_gone, dated_held, dated_as, dated_same, register_sum, writes_more, writes_same, births_more, births_same, names_most, names_all}

-- the node of a word is that of its target
pub code_target : (word : ℕ) → code (target_of word) ≡ node_of word
unfolding node_of
code_target word = grind arith

-- the slot of a field's place
pub home_of : (slot f fields : ℕ) → f < fields → home fields (place_of slot f fields) ≡ slot + 1
home_of slot f fields below = ap (λ n. n + 1) (div-mul-add slot fields f below)

-- the register of a mutator that holds its registers is among all
pub has_register : (w : Core) (t r : ℕ) → t - 1 < length w.mutators → has_let_go (mutator w t) ≡ false → r < length (mutator w t).registers → Holds (pending w) (epoch_at (mutator w t)) (code (register (mutator w t) r))
has_register w t r there held within =
    let p : Private = mutator w t in
    let e : ℕ = epoch_at p in
    let weight : Dated → ℕ = is_at e (code (register p r)) in
    omega (
      arith,
      sum_by-flat_map weight dated_registers w.mutators,
      get_or-le-sum_by (λ (q : Private). sum_by weight (dated_registers q)) w.mutators (t - 1) nobody there,
      ap (sum_by weight) (dated_held p held),
      sum_by-map weight (λ (x : Option ℕ). dated e (code x)) p.registers,
      get_or-le-sum_by (λ (x : Option ℕ). weight (dated e (code x))) p.registers r None within,
      only_if_self e (one_if_same (code (register p r)) (code (register p r))),
      one_if_self (code (register p r)),
    )

-- a mutator with the same log, in the same epoch, leaves all buffers as they are
same_buffers : (w : Core) (t : ℕ) (q : Private) → q.log ≡ (mutator w t).log → epoch_at q ≡ epoch_at (mutator w t) → buffers (with_mutator w t q) ≡ buffers w
same_buffers w t q log epoch =
    let file : Private → Filed = λ p. filed (epoch_at p) p.log in
    let same : file q ≡ file (mutator w t) = ap (λ (e : ℕ). filed e q.log) epoch ∙ ap (filed (epoch_at (mutator w t))) log in
    let boxes : (ps : List Private) → List Filed = λ ps. map filed_box (zip ps w.boxes) in
    let rest : List Filed = map (filed (w.epoch - 1)) w.collector.newer ++ map (filed (older_at w.epoch w.collector.phase)) w.collector.older in
    ap (λ (logs : List Filed). logs ++ (boxes (slice_set w.mutators (t - 1) q) ++ rest)) (map-set_same file w.mutators (t - 1) q nobody same)
    ∙ ap (λ (bs : List Filed). map file w.mutators ++ (bs ++ rest)) (zip-first_same filed_box w.mutators w.boxes (t - 1) q nobody (λ b. ap (λ (e : ℕ). filed (e - 1) b) epoch))

-- a mutator whose log, registers and epoch stay leaves all that is pending as it is, if it lets go of no register
pub same_pending : (w : Core) (t : ℕ) (q : Private) → q.log ≡ (mutator w t).log → has_let_go q ≡ has_let_go (mutator w t) → q.registers ≡ (mutator w t).registers → epoch_at q ≡ epoch_at (mutator w t)
    → pending (with_mutator w t q) ≡ pending w
same_pending w t q log held registers epoch = rw (same_buffers w t q log epoch, flat_map_set_same dated_registers w.mutators (t - 1) q (dated_same (mutator w t) q held epoch registers)) refl
  where
    flat_map_set_same : {Y : Type 0} (f : Private → List Y) (ps : List Private) (i : ℕ) (x : Private) → f x ≡ f (slice_index_or ps i nobody) → flat_map f (slice_set ps i x) ≡ flat_map f ps
    flat_map_set_same f [] i x same = refl
    flat_map_set_same f (p ∷ ps) zero x same = ap (λ ys. ys ++ flat_map f ps) same
    flat_map_set_same f (p ∷ ps) (suc i) x same = ap (λ ys. f p ++ ys) (flat_map_set_same f ps i x same)

-- the numbers of a heap stay
stays : (w : Core) (t : ℕ) (q : Private) → KeepsEpochs (pending w) (pending (with_mutator w t q)) × KeepsSlots (pending w) (pending (with_mutator w t q))
stays w t q = (record { fields = refl; applied = refl; requested = refl }, record { count = λ x _. refl; free = λ x _. refl; released = λ x _. refl; leaf = λ x _. refl })

-- A register of mutator t changes: to null, to what it holds, or to what it finds in a field.
pub register_moves : (w : Core) (t r : ℕ) (x : Option ℕ) (q : Private) → t - 1 < length w.mutators → has_let_go (mutator w t) ≡ false → has_let_go q ≡ false → r < length (mutator w t).registers → q.registers ≡ slice_set (mutator w t).registers r x → q.log ≡ (mutator w t).log
    → epoch_at q ≡ epoch_at (mutator w t) → (0 < code x → Holds (pending w) (epoch_at (mutator w t)) (code x) ⊎ Loads (pending w) (epoch_at (mutator w t)) (code x)) → Registers (pending w) (pending (with_mutator w t q)) (epoch_at (mutator w t)) (code (register (mutator w t) r)) (code x)
register_moves w t r x q there held holds within registers log epoch value =
    let p : Private = mutator w t in
    let e : ℕ = epoch_at p in
    let same : buffers (with_mutator w t q) ≡ buffers w = same_buffers w t q log epoch in
    record {
      had = has_register w t r there held within;
      value = value;
      registers = λ weight. omega (
        arith,
        registers_sum weight w.mutators (t - 1) q there,
        register_sum weight e p.registers r x within,
        ap (sum_by weight) (dated_held p held),
        ap (sum_by weight) (dated_as q e (slice_set p.registers r x) holds epoch registers),
      );
      words = λ weight. refl;
      logs = record {
        writes = λ weight. ap (λ (bs : List Filed). sum_by weight (flat_map (λ (b : Filed). writes_in b.buffer.entries) bs)) same;
        births = λ weight. ap (λ (bs : List Filed). sum_by weight (flat_map (λ (b : Filed). births_in b.epoch b.buffer.entries) bs)) same;
        snapshots = λ weight. ap (λ (bs : List Filed). sum_by weight (flat_map (λ (b : Filed). dated_names b.epoch b.buffer.snapshot) bs)) same;
      };
      epochs = (stays w t q).0;
      slots = (stays w t q).1;
    }

-- what one log less and another more do to a sum over all buffers
log_sum : {Y : Type 0} (g : Y → ℕ) (f : Filed → List Y) (w : Core) (t : ℕ) (q : Private) → t - 1 < length w.mutators → epoch_at q ≡ epoch_at (mutator w t)
    → sum_by g (flat_map f (buffers (with_mutator w t q))) + log_share g f (mutator w t) ≡ sum_by g (flat_map f (buffers w)) + log_share g f q
log_sum g f w t q there epoch = omega (
  arith,
  buffers_sum g f (with_mutator w t q),
  buffers_sum g f w,
  sum_by-set (log_share g f) w.mutators (t - 1) q nobody there,
  zip_sum-first_same (box_share g f) w.mutators w.boxes (t - 1) q nobody (λ b. ap (λ (e : ℕ). share g f (e - 1) b) epoch),
)

-- the registers stay, and the epoch
same_registers : (w : Core) (t : ℕ) (q : Private) → t - 1 < length w.mutators → has_let_go q ≡ has_let_go (mutator w t) → q.registers ≡ (mutator w t).registers → epoch_at q ≡ epoch_at (mutator w t)
    → (weight : Dated → ℕ) → sum_by weight (registers_of (with_mutator w t q)) ≡ sum_by weight (registers_of w)
same_registers w t q there held registers epoch weight = omega (arith, registers_sum weight w.mutators (t - 1) q there, ap (sum_by weight) (dated_same (mutator w t) q held epoch registers))

-- Mutator t exchanges the word in a field of a node that it holds, and logs it.
pub put_moves : (w : Core) (t place new slot val : ℕ) (q : Private) → t - 1 < length w.mutators → place < length w.words → home w.config.fields place ≡ slot + 1
    → Holds (pending w) (epoch_at (mutator w t)) (slot + 1) → (0 < node_of new → Holds (pending w) (epoch_at (mutator w t)) (node_of new)) → epoch_of new ≡ epoch_at (mutator w t)
    → has_let_go q ≡ has_let_go (mutator w t) → q.registers ≡ (mutator w t).registers → epoch_at q ≡ epoch_at (mutator w t)
    → q.log ≡ record (mutator w t).log { entries = (mutator w t).log.entries ++ entries.Put place new (slice_index_or w.words place 0) ∷ [] }
    → Puts (pending w) (pending (record (with_mutator w t q) { words = slice_set w.words place new })) (epoch_at (mutator w t)) place new
put_moves w t place new slot val q there inside at source target stamp held registers epoch log =
    let p : Private = mutator w t in
    let old : ℕ = slice_index_or w.words place 0 in
    let e : ℕ = epoch_at p in
    let file : Filed = filed (epoch_at q) q.log in
    let own : file ≡ filed e (record p.log { entries = p.log.entries ++ entries.Put place new old ∷ [] }) = ap (λ (n : ℕ). filed n q.log) epoch ∙ ap (filed e) log in
    record {
      inside = inside;
      source = subst (Holds (pending w) e) (sym at) source;
      target = target;
      stamp = stamp;
      words = λ weight. sum_at-set weight w.words place new 0 inside;
      writes = λ weight. omega (arith, log_sum weight (λ (b : Filed). writes_in b.buffer.entries) w t q there epoch, writes_more weight p.log.entries place new old, ap (λ (b : Filed). sum_by weight (writes_in b.buffer.entries)) own);
      births = λ weight. omega (arith, log_sum weight (λ (b : Filed). births_in b.epoch b.buffer.entries) w t q there epoch, births_same weight e p.log.entries place new old, ap (λ (b : Filed). sum_by weight (births_in b.epoch b.buffer.entries)) own);
      snapshots = λ weight. omega (arith, log_sum weight (λ (b : Filed). dated_names b.epoch b.buffer.snapshot) w t q there epoch, ap (λ (b : Filed). sum_by weight (dated_names b.epoch b.buffer.snapshot)) own);
      registers = same_registers w t q there held registers epoch;
      epochs = record { fields = refl; applied = refl; requested = refl };
      slots = record { count = λ x _. refl; free = λ x _. refl; released = λ x _. refl; leaf = λ x _. refl };
    }

-- a header that was set tells of its slot, and each other is as it was
header_set : (headers : List ℕ) (slot header : ℕ) (tells : ℕ → Bool) (answer : Bool) → slot < length headers → tells header ≡ answer → (node : ℕ) → 0 < node
    → tells (slice_index_or (slice_set headers slot header) (node - 1) 0) ≡ with_answer (λ (n : ℕ). tells (slice_index_or headers (n - 1) 0)) (slot + 1) answer node
header_set headers slot header tells answer there told node pos =
    let test : ℕ → Bool = λ n. tells (slice_index_or headers (n - 1) 0) in
    let found : ℕ → Bool = λ n. tells (slice_index_or (slice_set headers slot header) n 0) in
    elim (cases_eq node (slot + 1)) [
      | inl is ↦
          let at : node - 1 ≡ slot = omega arith in
          let set : found slot ≡ answer = ap tells (get_or-set_same headers slot header 0 there) ∙ told in
          ap found at ∙ set ∙ sym (cond-true (node == slot + 1) answer (test node) (eq-eqb node (slot + 1) is))
      | inr other ↦
          let apart : (node - 1) ≢ slot = λ is. other (omega arith) in
          ap tells (get_or-set_other headers slot (node - 1) header 0 apart) ∙ sym (cond-false (node == slot + 1) answer (test node) (ne_eqb node (slot + 1) other))
    ]

-- Mutator t takes a free slot for a new object, lets a register name it, and logs it.
pub birth_moves : (w : Core) (t r slot label : ℕ) (leaf : Bool) (q : Private) → IsHeaderOf leaf label (header_word leaf label) → t - 1 < length w.mutators → has_let_go (mutator w t) ≡ false → has_let_go q ≡ false → r < length (mutator w t).registers → slot < length w.headers → slice_index_or w.headers slot 0 ≡ 0
    → q.registers ≡ slice_set (mutator w t).registers r (Some slot) → epoch_at q ≡ epoch_at (mutator w t) → q.log ≡ record (mutator w t).log { entries = (mutator w t).log.entries ++ entries.Born slot leaf ∷ [] }
    → Bears (pending w) (pending (record (with_mutator w t q) { headers = slice_set w.headers slot (header_word leaf label); made = w.made + 1 })) (epoch_at (mutator w t)) (code (register (mutator w t) r)) (slot + 1)
birth_moves w t r slot label leaf q header there held holds within inside free registers epoch log =
    let p : Private = mutator w t in
    let e : ℕ = epoch_at p in
    let file : Filed = filed (epoch_at q) q.log in
    let own : file ≡ filed e (record p.log { entries = p.log.entries ++ entries.Born slot leaf ∷ [] }) = ap (λ (n : ℕ). filed n q.log) epoch ∙ ap (filed e) log in
    record {
      had = has_register w t r there held within;
      is_node = omega arith;
      was_free = (let at : slot + 1 - 1 ≡ slot = omega arith in ap (λ (n : ℕ). slice_index_or w.headers n 0 == 0) at ∙ eq-eqb (slice_index_or w.headers slot 0) 0 free);
      leaf = leaf;
      births = λ weight. omega (arith, log_sum weight (λ (b : Filed). births_in b.epoch b.buffer.entries) w t q there epoch, births_more weight e p.log.entries slot leaf, ap (λ (b : Filed). sum_by weight (births_in b.epoch b.buffer.entries)) own);
      registers = λ weight. omega (
        arith,
        registers_sum weight w.mutators (t - 1) q there,
        register_sum weight e p.registers r (Some slot) within,
        ap (sum_by weight) (dated_held p held),
        ap (sum_by weight) (dated_as q e (slice_set p.registers r (Some slot)) holds epoch registers),
      );
      words = λ weight. refl;
      writes = λ weight. omega (arith, log_sum weight (λ (b : Filed). writes_in b.buffer.entries) w t q there epoch, writes_same weight p.log.entries slot leaf, ap (λ (b : Filed). sum_by weight (writes_in b.buffer.entries)) own);
      snapshots = λ weight. omega (arith, log_sum weight (λ (b : Filed). dated_names b.epoch b.buffer.snapshot) w t q there epoch, ap (λ (b : Filed). sum_by weight (dated_names b.epoch b.buffer.snapshot)) own);
      epochs = record { fields = refl; applied = refl; requested = refl };
      count = λ x _. refl;
      free = header_set w.headers slot (header_word leaf label) (λ n. n == 0) false inside (ne_eqb (header_word leaf label) 0 (λ e. omega (arith, e)));
      released = λ x _. refl;
      leaves = header_set w.headers slot (header_word leaf label) is_leaf leaf inside header.leaf;
    }

-- the spare buffer names nothing
pub spare_names : (config : Config) (epoch : ℕ) → dated_names epoch (spare_of config).snapshot ≡ []
spare_names config epoch = ap (map (λ (slot : ℕ). dated epoch (slot + 1))) (named-nones config.registers)

-- Mutator t leaves its epoch for the requested one: its registers are written as a snapshot into its log, which goes into its
-- mailbox, and the spare there becomes its log. Null in the snapshot is left out of the accounts afterwards.
module _ (w : Core) (t : ℕ) (q : Private) (b : Contents) (crossing : List ℕ) (there : t - 1 < length w.mutators) (boxed : t - 1 < length w.boxes) where
  abbrev before_crossing : Private
  before_crossing = mutator w t

  abbrev after_crossing : Core
  after_crossing = record (with_mutator w t q) { boxes = slice_set w.boxes (t - 1) b; crossing = crossing }

  -- the accounts with what is null in the snapshot
  abbrev amid_crossing : (epoch : ℕ) → Pending
  amid_crossing epoch = record (pending after_crossing) { snapshots = snapshots_of w ++ dated_all epoch before_crossing.registers }

  crossing_snapshots : (epoch : ℕ) → epoch_at q - 1 ≡ epoch → named before_crossing.log.snapshot ≡ [] → box w t ≡ spare_of w.config → q.log ≡ spare_of w.config → b ≡ record before_crossing.log { snapshot = before_crossing.registers }
      → (weight : Dated → ℕ) → sum_by weight (snapshots_of after_crossing) ≡ sum_by weight (snapshots_of w) + sum_by weight (dated_names epoch before_crossing.registers)
  crossing_snapshots epoch last unwritten spare own left weight = omega (
    arith,
    own_sum weight (λ (f : Filed). dated_names f.epoch f.buffer.snapshot) w t q b there boxed,
    ap (λ (ns : List ℕ). sum_by weight (map (λ (slot : ℕ). dated (epoch_at before_crossing) (slot + 1)) ns)) unwritten,
    ap (λ (c : Contents). sum_by weight (dated_names (epoch_at before_crossing - 1) c.snapshot)) spare,
    ap (sum_by weight) (spare_names w.config (epoch_at before_crossing - 1)),
    ap (λ (c : Contents). sum_by weight (dated_names (epoch_at q) c.snapshot)) own,
    ap (sum_by weight) (spare_names w.config (epoch_at q)),
    ap (λ (c : Contents). sum_by weight (dated_names (epoch_at q - 1) c.snapshot)) left,
    ap (λ (e : ℕ). sum_by weight (dated_names e before_crossing.registers)) last,
  )

  pub crossing_amid : (epoch : ℕ) → epoch + 1 ≡ w.epoch → (pending w).applied < epoch → epoch_at before_crossing ≡ epoch → epoch_at q ≡ epoch + 1 → has_let_go before_crossing ≡ false → has_let_go q ≡ false
      → q.registers ≡ before_crossing.registers → box w t ≡ spare_of w.config → q.log ≡ spare_of w.config → b ≡ record before_crossing.log { snapshot = before_crossing.registers } → Crosses (pending w) (amid_crossing epoch) epoch (map code before_crossing.registers)
  crossing_amid epoch asked unapplied is next held holds registers spare own left =
      let last : epoch_at q - 1 ≡ epoch = omega (arith, next) in
      let dates : (weight : Dated → ℕ) (e : ℕ) → sum_by weight (dated_all e before_crossing.registers) ≡ sum_by (λ x. weight (dated e x)) (map code before_crossing.registers)
      = λ weight e. sum_by-map weight (λ (x : Option ℕ). dated e (code x)) before_crossing.registers ∙ sym (sum_by-map (λ x. weight (dated e x)) code before_crossing.registers) in
      record {
        asked = asked;
        unapplied = unapplied;
        snapshots = λ weight. omega (arith, sum_by-append weight (snapshots_of w) (dated_all epoch before_crossing.registers), dates weight epoch);
        registers = λ weight. omega (
          arith,
          registers_sum weight w.mutators (t - 1) q there,
          dates weight epoch,
          dates weight (epoch + 1),
          ap (sum_by weight) (dated_as before_crossing epoch before_crossing.registers held is refl),
          ap (sum_by weight) (dated_as q (epoch + 1) before_crossing.registers holds next registers),
        );
        words = λ weight. refl;
        writes = λ weight. omega (
          arith,
          own_sum weight (λ (f : Filed). writes_in f.buffer.entries) w t q b there boxed,
          ap (λ (c : Contents). sum_by weight (writes_in c.entries)) spare,
          ap (λ (c : Contents). sum_by weight (writes_in c.entries)) own,
          ap (λ (c : Contents). sum_by weight (writes_in c.entries)) left,
        );
        births = λ weight. omega (
          arith,
          own_sum weight (λ (f : Filed). births_in f.epoch f.buffer.entries) w t q b there boxed,
          ap (λ (c : Contents). sum_by weight (births_in (epoch_at before_crossing - 1) c.entries)) spare,
          ap (λ (c : Contents). sum_by weight (births_in (epoch_at q) c.entries)) own,
          ap (λ (c : Contents). sum_by weight (births_in (epoch_at q - 1) c.entries)) left,
          ap (λ (e : ℕ). sum_by weight (births_in e before_crossing.log.entries)) last,
          ap (λ (e : ℕ). sum_by weight (births_in e before_crossing.log.entries)) is,
        );
        epochs = record { fields = refl; applied = refl; requested = refl };
        slots = record { count = λ x _. refl; free = λ x _. refl; released = λ x _. refl; leaf = λ x _. refl };
      }

  pub crossing_drops : (epoch : ℕ) → epoch_at q - 1 ≡ epoch → named before_crossing.log.snapshot ≡ [] → box w t ≡ spare_of w.config → q.log ≡ spare_of w.config → b ≡ record before_crossing.log { snapshot = before_crossing.registers }
      → Drops (amid_crossing epoch) (pending after_crossing)
  crossing_drops epoch last unwritten spare own left =
      record {
        writes = (λ weight. omega arith, λ weight _. refl);
        births = (λ weight. omega arith, λ weight _ _. refl);
        snapshots = (
          λ weight. omega (
            arith,
            crossing_snapshots epoch last unwritten spare own left weight,
            sum_by-append weight (snapshots_of w) (dated_all epoch before_crossing.registers),
            names_most weight epoch before_crossing.registers,
          ),
          λ weight _ null. omega (
            arith,
            crossing_snapshots epoch last unwritten spare own left weight,
            sum_by-append weight (snapshots_of w) (dated_all epoch before_crossing.registers),
            names_all weight epoch before_crossing.registers null,
          ),
        );
        words = λ weight. refl;
        registers = λ weight. refl;
        epochs = record { fields = refl; applied = refl; requested = refl };
        slots = record { count = λ x _. refl; free = λ x _. refl; released = λ x _. refl; leaf = λ x _. refl };
      }

  -- One that leaves names nothing in its snapshot, and its registers are null: so its registers are left out, and all else stays.
  pub leaving_moves : (epoch : ℕ) → epoch_at before_crossing ≡ epoch → epoch_at q ≡ epoch + 1 → has_let_go q ≡ true → named before_crossing.log.snapshot ≡ [] → box w t ≡ spare_of w.config → q.log ≡ spare_of w.config
      → b ≡ record before_crossing.log { snapshot = nulls_of before_crossing; last = true } → LetsGo (pending w) (pending after_crossing)
  leaving_moves epoch is next gone unwritten spare own left =
      let last : epoch_at q - 1 ≡ epoch_at before_crossing = omega (arith, next, is) in
      record {
        registers = λ weight. omega (arith, registers_sum weight w.mutators (t - 1) q there, ap (sum_by weight) (dated_gone q gone));
        words = λ weight. refl;
        logs = record {
          writes = λ weight. omega (
            arith,
            own_sum weight (λ (f : Filed). writes_in f.buffer.entries) w t q b there boxed,
            ap (λ (c : Contents). sum_by weight (writes_in c.entries)) spare,
            ap (λ (c : Contents). sum_by weight (writes_in c.entries)) own,
            ap (λ (c : Contents). sum_by weight (writes_in c.entries)) left,
          );
          births = λ weight. omega (
            arith,
            own_sum weight (λ (f : Filed). births_in f.epoch f.buffer.entries) w t q b there boxed,
            ap (λ (c : Contents). sum_by weight (births_in (epoch_at before_crossing - 1) c.entries)) spare,
            ap (λ (c : Contents). sum_by weight (births_in (epoch_at q) c.entries)) own,
            ap (λ (c : Contents). sum_by weight (births_in (epoch_at q - 1) c.entries)) left,
            ap (λ (e : ℕ). sum_by weight (births_in e before_crossing.log.entries)) last,
          );
          snapshots = λ weight. omega (
            arith,
            own_sum weight (λ (f : Filed). dated_names f.epoch f.buffer.snapshot) w t q b there boxed,
            ap (λ (ns : List ℕ). sum_by weight (map (λ (slot : ℕ). dated (epoch_at before_crossing) (slot + 1)) ns)) unwritten,
            ap (λ (c : Contents). sum_by weight (dated_names (epoch_at before_crossing - 1) c.snapshot)) spare,
            ap (sum_by weight) (spare_names w.config (epoch_at before_crossing - 1)),
            ap (λ (c : Contents). sum_by weight (dated_names (epoch_at q) c.snapshot)) own,
            ap (sum_by weight) (spare_names w.config (epoch_at q)),
            ap (λ (c : Contents). sum_by weight (dated_names (epoch_at q - 1) c.snapshot)) left,
            ap (λ (ns : List ℕ). sum_by weight (map (λ (slot : ℕ). dated (epoch_at q - 1) (slot + 1)) ns)) (named-nones (length before_crossing.registers)),
          );
        };
        epochs = record { fields = refl; applied = refl; requested = refl };
        slots = record { count = λ x _. refl; free = λ x _. refl; released = λ x _. refl; leaf = λ x _. refl };
      }

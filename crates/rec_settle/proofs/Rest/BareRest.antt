-- What holds of a heap at rest, of dated words and of bare ones.
use Rattle.std.proofs.Common.{◌≡◌, Bool, true, false, ℕ, ◌+◌, ◌-◌, ◌<◌, ◌≤◌, ◌==◌, if◌then◌else◌, List, [], ◌∷◌, Option, count_by, sum_by, map, slice_index_or, refl, sym, ap, subst, ◌∙◌, arith}
use Rattle.std.proofs.lemmas.List.Sums.{sum_by-cons}
use Rattle.rec_word.specs.Bare.{bare}
use Rattle.rec_word.specs.Word.{is_slot, target_of}
use Rattle.rec_word.proofs.Bare.{target_of_bare}
use Rattle.rec_log.specs.Words.{buffer_by, entry_by}
use Rattle.rec_log.specs.declared.contents.Contents.{Contents}
use Rattle.rec_log.specs.declared.entry.Entry.{Entry}
use Rattle.rec_model.specs.Sight.{Sight}
use Rattle.rec_counts.specs.Lists.{one}
use Rattle.rec_counts.specs.Targets.{named}
use Rattle.rec_mutator.specs.Private.{Private, is_busy}
use Rattle.rec_mutator.specs.declared.work.Work.{Work}
use Rattle.rec_mutator.specs.declared.work.Work.TheVariants as works
use Rattle.rec_mutator.proofs.Bare.{busy_bare}
use Rattle.rec_collector.specs.Kept.{under_way}
use Rattle.rec_collector.specs.Private as collectors
use Rattle.rec_collector.specs.Private.{buffer_at}
use Rattle.rec_collector.specs.declared.phase.Phase.{Phase}
use Rattle.rec_collector.specs.declared.phase.Phase.TheVariants.{Idle}
use Rattle.rec_collector.proofs.Bare.{buffer_bare}
use Rattle.rec_core.specs.Bare.{bare_core}
use Rattle.rec_core.specs.Config.{IsMutator}
use Rattle.rec_core.specs.Core.{Core, box, mutator, sight}
use Rattle.rec_core.specs.Kept.{IsKept}
use Rattle.rec_core.specs.Moves.{Fits, Move, begun, offering, stepped, turned}
use Rattle.rec_settle.specs.Quiet.{AreQuiet, IsQuietOf, IsRetired}
use Rattle.rec_settle.specs.Resting.{RestsIn, Round, TurnsTo, epochs_before, holds, next_round}
use Rattle.rec_core.specs.Settled.{IsSettled, registers_holding}
use Rattle.rec_core.specs.Unfinished.{IsQuiet}
use Rattle.rec_core.specs.Worked.{IsWorked, StepsTo}
use Rattle.rec_core.specs.declared.config.Config.{Config}
use Rattle.rec_core.proofs.Bare.{box_bare, mutator_bare}
use Rattle.rec_core.proofs.BareRuns.{bared, explained, rule_of}
use Rattle.rec_core.proofs.BareSeen.{reached_bare, reached_too, registers_bare, turned_behind, words_alike}
use Rattle.rec_core.proofs.Dated.{Explains, move_explained}
use Rattle.rec_core.proofs.Runs as dated_runs
use Rattle.rec_core.proofs.Runs.{move_stays}
use Rattle.rec_settle.proofs.Rest.QuietCounts.{idle_count}
use Rattle.rec_settle.proofs.Rest.QuietPolls.{polled_words}
use Rattle.rec_settle.proofs.Rest.QuietTurns as turns
use Rattle.rec_settle.proofs.Rest.Rested.{settled}
use Rattle.rec_settle.proofs.Rest.RestingSeen.{rests_seen}
use Rattle.rec_settle.proofs.Rest.Rounds as rounds
use Rattle.rec_settle.proofs.Rest.TurnRules.{turn_by}
use Rattle.rec_core.proofs.TurnCases.{TurnCase}

-- Every turn is one of the rules.
pub turn_is : {dated : Bool} → (w : Core) → IsKept dated w → TurnCase w (turned w)
turn_is w kept = turn_by w kept (λ op named. rule_of w op kept named)

-- ---- mutators at rest

none_mapped : (es : List Entry) → map (entry_by bare) es ≡ [] → es ≡ []
none_mapped [] none = refl
none_mapped (e ∷ es) none = let not_so : ◌≡◌ {A = List Entry} (entry_by bare e ∷ map (entry_by bare) es) [] = none in absurd (cc)

retired_bare : (registers : List (Option ℕ)) (b : Contents) → IsRetired registers b → IsRetired registers (buffer_by bare b)
retired_bare registers b r = record { entries = ap (map (entry_by bare)) r.entries; snapshot = r.snapshot }

retired_there : (registers : List (Option ℕ)) (b : Contents) → IsRetired registers (buffer_by bare b) → IsRetired registers b
retired_there registers b r = record { entries = none_mapped b.entries r.entries; snapshot = r.snapshot }

-- by the records that are there
retired_as : {registers held : List (Option ℕ)} {b c : Contents} → registers ≡ held → b ≡ c → IsRetired registers b → IsRetired held c
retired_as {registers} {held} {b} {c} same is r = subst (λ rs. IsRetired rs c) same (subst (IsRetired registers) is r)

quiet_bare : (first : ℕ) (v : Core) → AreQuiet first v → AreQuiet first (bare_core v)
quiet_bare first v q t is =
    let k : IsQuietOf first v t = q t is in
    let own = mutator_bare v t in
    let registers : (mutator v t).registers ≡ (mutator (bare_core v) t).registers = sym (ap (λ (p : Private). p.registers) own) in
    record {
      idle = ap is_busy own ∙ (busy_bare (mutator v t) ∙ k.idle);
      gone = λ left. subst (λ (p : Private). p.epoch ≤ first) (sym own) (k.gone (sym (ap (λ (p : Private). p.left) own) ∙ left));
      log = λ from. ap (λ (p : Private). p.log.entries) own ∙ ap (map (entry_by bare)) (k.log (subst (λ (p : Private). first ≤ p.epoch) own from));
      box = λ into early waits. retired_as registers (sym (box_bare v t)) (retired_bare (mutator v t).registers (box v t) (k.box into early waits));
      newer = λ early has. retired_as registers (sym (buffer_bare v.collector.newer (t - 1))) (retired_bare (mutator v t).registers (buffer_at v.collector.newer (t - 1)) (k.newer early has));
      older = λ from. retired_as registers (sym (buffer_bare v.collector.older (t - 1))) (retired_bare (mutator v t).registers (buffer_at v.collector.older (t - 1)) (k.older from));
    }

quiet_there : (first : ℕ) (v : Core) → AreQuiet first (bare_core v) → AreQuiet first v
quiet_there first v q t is =
    let k : IsQuietOf first (bare_core v) t = q t is in
    let own = mutator_bare v t in
    let registers : (mutator (bare_core v) t).registers ≡ (mutator v t).registers = ap (λ (p : Private). p.registers) own in
    record {
      idle = sym (ap is_busy own ∙ busy_bare (mutator v t)) ∙ k.idle;
      gone = λ left. subst (λ (p : Private). p.epoch ≤ first) own (k.gone (ap (λ (p : Private). p.left) own ∙ left));
      log = λ from. none_mapped (mutator v t).log.entries (sym (ap (λ (p : Private). p.log.entries) own) ∙ k.log (subst (λ (p : Private). first ≤ p.epoch) (sym own) from));
      box = λ into early waits. retired_there (mutator v t).registers (box v t) (retired_as registers (box_bare v t) (k.box into early waits));
      newer = λ early has. retired_there (mutator v t).registers (buffer_at v.collector.newer (t - 1)) (retired_as registers (buffer_bare v.collector.newer (t - 1)) (k.newer early has));
      older = λ from. retired_there (mutator v t).registers (buffer_at v.collector.older (t - 1)) (retired_as registers (buffer_bare v.collector.older (t - 1)) (k.older from));
    }

-- A turn of the collector leaves the mutators at rest.
pub quiet_turned : {dated : Bool} → (first : ℕ) (w : Core) → IsKept dated w → AreQuiet first w → AreQuiet first (turned w)
quiet_turned {dated = true} first w kept q = turns.quiet_turned first w (turned w) kept (dated_runs.turned_kept w kept) (turn_is w kept) q
quiet_turned {dated = false} first w kept q =
    let (v, e) = explained w kept in
    let rests : AreQuiet first v = quiet_there first v (subst (AreQuiet first) (sym e.bare) q) in
    subst (AreQuiet first) (turned_behind v w e) (quiet_bare first (turned v) (turns.quiet_turned first v (turned v) e.kept (dated_runs.turned_kept v e.kept) (turn_is v e.kept) rests))

-- ---- a poll of the heap is one of the heap behind it

steps_behind : (v u : Core) (t : ℕ) → Explains v u → IsMutator u.config t → (w : Core) → StepsTo u t w → (y : Core) × Explains y w × StepsTo v t y × (w.config ≡ u.config)
steps_behind v u t e is _ (StepsTo.here w same) = (v, subst (Explains v) (sym same) e, StepsTo.here v refl, ap (λ (x : Core). x.config) same)
steps_behind v u t e is _ (StepsTo.further x w path busy same) =
    let (y, f, steps, config) = steps_behind v u t e is x path in
    let next = move_explained y x (Move.Steps t) f (subst (λ (c : Config). IsMutator c t) (sym config) is, busy) in
    (stepped y t, subst (Explains (stepped y t)) (sym same) next.1, StepsTo.further y (stepped y t) steps next.0.1 refl, ap (λ (z : Core). z.config) same ∙ (move_stays x (Move.Steps t) ∙ config))

worked_behind : (v u w : Core) (t : ℕ) (work : Work) → Explains v u → Fits u (Move.Begins t work 0) → IsWorked u t work w → (y : Core) × Explains y w × IsWorked v t work y
worked_behind v u w t work e fits done =
    let first : Explains (begun v t work) (begun u t work) = (move_explained v u (Move.Begins t work 0) e fits).1 in
    let (y, f, steps, config) = steps_behind (begun v t work) (begun u t work) t first fits.0 done.last done.path in
    let next = move_explained y done.last (Move.Steps t) f (subst (λ (c : Config). IsMutator c t) (sym config) fits.0, done.busy) in
    let after : Explains (stepped y t) w = subst (Explains (stepped y t)) (sym done.steps) next.1 in
    let idle : is_busy (mutator (stepped y t) t) ≡ false
    = sym (ap is_busy (mutator_bare (stepped y t) t) ∙ busy_bare (mutator (stepped y t) t)) ∙ (ap (λ (x : Core). is_busy (mutator x t)) after.bare ∙ done.idle) in
    (stepped y t, after, record { last = y; path = steps; busy = next.0.1; steps = refl; idle = idle })

-- nothing of the collector changes meanwhile
path_collector : (before : Core) (t : ℕ) (w : Core) → StepsTo before t w → w.collector ≡ before.collector
path_collector before t _ (StepsTo.here w same) = ap (λ (x : Core). x.collector) same
path_collector before t _ (StepsTo.further u w path busy same) = ap (λ (x : Core). x.collector) same ∙ path_collector before t u path

worked_collector : (v w : Core) (t : ℕ) (work : Work) → IsWorked v t work w → w.collector ≡ v.collector
worked_collector v w t work done = ap (λ (x : Core). x.collector) done.steps ∙ path_collector (begun v t work) t done.last done.path

-- ---- what is known of the collector of the heap behind, in a round of settling

pub record RestsBehind (r : Round) (w : Core) (phase : Phase) : Type 0 where
  pub behind : Core
  pub explains : Explains behind w
  pub rests : RestsIn r behind behind.words behind.collector phase

-- what a turn of such a round made of it
pub data TurnsBehind (r : Round) (w v : Core) : Type 0 where
  goes_on : v.collector.collections ≡ w.collector.collections → RestsBehind r v v.collector.phase → TurnsBehind r w v
  completes : v.collector.collections ≡ w.collector.collections + 1 → v.collector.phase ≡ Idle → RestsBehind (next_round r) v Idle → TurnsBehind r w v

module _ (first : ℕ) (w : Core) (quiet : AreQuiet first w) where
  pub rests_turned : (r : Round) → first + epochs_before r + under_way w.collector.phase ≤ w.epoch + 1 → (r ≡ Round.Over → ⊥) → RestsBehind r w w.collector.phase → TurnsBehind r w (turned w)
  rests_turned r late some h =
      go (rounds.rests_turned first v e.kept (quiet_there first v (subst (AreQuiet first) (sym e.bare) quiet)) r (subst (λ (u : Core). first + epochs_before r + under_way u.collector.phase ≤ u.epoch + 1) (sym e.bare) late) some
      (subst (λ (u : Core). RestsIn r v v.words v.collector u.collector.phase) (sym e.bare) h.rests))
    where
      v : Core
      v = h.behind

      e : Explains v w
      e = h.explains

      is : bare_core (turned v) ≡ turned w
      is = turned_behind v w e

      next : Explains (turned v) (turned w)
      next = (move_explained v w Move.Turns e tt).1

      go : TurnsTo r v (turned v) → TurnsBehind r w (turned w)
      go (TurnsTo.goes_on stays rests) = TurnsBehind.goes_on
          (subst (λ (u : Core). u.collector.collections ≡ w.collector.collections) is (subst (λ (u : Core). (turned v).collector.collections ≡ u.collector.collections) e.bare stays))
          (record { behind = turned v; explains = next; rests = subst (λ (u : Core). RestsIn r (turned v) (turned v).words (turned v).collector u.collector.phase) is rests })
      go (TurnsTo.completes more idle rests) = TurnsBehind.completes
          (subst (λ (u : Core). u.collector.collections ≡ w.collector.collections + 1) is (subst (λ (u : Core). (turned v).collector.collections ≡ u.collector.collections + 1) e.bare more))
          (subst (λ (u : Core). u.collector.phase ≡ Idle) is idle)
          (record { behind = turned v; explains = next; rests = rests })

-- every slot is offered
pub rests_offered : (w : Core) → IsKept false w → RestsBehind Round.First (offering w) Idle
rests_offered w kept = let (v, e) = explained w kept in record { behind = offering v; explains = (move_explained v w Move.Offers e tt).1; rests = refl }

-- a poll leaves what is known
pub rests_polled : (first : ℕ) (r : Round) (u w : Core) (t : ℕ) → AreQuiet first u → IsMutator u.config t → (mutator u t).left ≡ false → IsWorked u t works.Poll w → IsQuiet u w t
    → RestsBehind r u u.collector.phase → RestsBehind r w w.collector.phase
rests_polled first r u w t quiet is stays worked same h =
    let v : Core = h.behind in
    let e : Explains v u = h.explains in
    let fits : Fits u (Move.Begins t works.Poll 0) = (is, (quiet t is).idle, stays, tt, tt, (bared v u e).config.some_slots) in
    let (y, f, done) = worked_behind v u w t works.Poll e fits worked in
    let own : Fits v (Move.Begins t works.Poll 0) = (move_explained v u (Move.Begins t works.Poll 0) e fits).0 in
    let words : y.words ≡ v.words = polled_words first v y t e.kept own.0 own.2 done (quiet_there first v (subst (AreQuiet first) (sym e.bare) quiet)) in
    let collector : y.collector ≡ v.collector = worked_collector v y t works.Poll done in
    let config : y.config ≡ v.config = ap (λ (x : Core). x.config) f.bare ∙ (same.config ∙ sym (ap (λ (x : Core). x.config) e.bare)) in
    let seen : sight (bare_core y) ≡ sight (bare_core v) = ap sight f.bare ∙ (same.seen ∙ sym (ap sight e.bare)) in
    let held : holds (sight y) ≡ holds (sight v)
    = (let regs : (sight y).registers ≡ (sight v).registers = sym (registers_bare y) ∙ (ap (λ (s : Sight). s.registers) seen ∙ registers_bare v) in
    let heads : y.headers ≡ v.headers = ap (λ (s : Sight). s.headers) seen in
    λ i slot. sum_by (named slot) (regs i) + one (slice_index_or (heads i) slot 1 == 0)) in
    let over : RestsIn r y v.words v.collector u.collector.phase = rests_seen r v y config held v.words v.collector u.collector.phase h.rests in
    let phase : u.collector.phase ≡ w.collector.phase = ap (λ (c : collectors.Private). c.phase) (sym same.collector) in
    record {
      behind = y;
      explains = f;
      rests = subst (λ ws. RestsIn r y ws y.collector w.collector.phase) (sym words) (subst (λ (c : collectors.Private). RestsIn r y v.words c w.collector.phase) (sym collector) (subst (RestsIn r y v.words v.collector) phase over));
    }

-- ---- a settled heap

settled_bare : (v : Core) → IsSettled v → IsSettled (bare_core v)
settled_bare v s = record {
  collected = λ slot. (λ taken. reached_bare v slot ((s.collected slot).0 taken), λ from. (s.collected slot).1 (reached_too v slot from));
  counted = λ slot taken.
      let registers : registers_holding (bare_core v) slot ≡ registers_holding v slot = ap (sum_by (count_by (is_slot slot))) (registers_bare v) in
      omega (arith, s.counted slot taken, words_alike slot v.words, registers);
}

-- Where no collection is under way and the rounds are over, the heap is settled.
pub settled_behind : (first : ℕ) (w : Core) → AreQuiet first w → w.collector.phase ≡ Idle → first < w.epoch → RestsBehind Round.Over w Idle → IsSettled w
settled_behind first w quiet idle late h =
    let v : Core = h.behind in
    let e : Explains v w = h.explains in
    let rests : AreQuiet first v = quiet_there first v (subst (AreQuiet first) (sym e.bare) quiet) in
    let at : v.collector.phase ≡ Idle = subst (λ (u : Core). u.collector.phase ≡ Idle) (sym e.bare) idle in
    let past : first < v.epoch = subst (λ (u : Core). first < u.epoch) (sym e.bare) late in
    subst IsSettled e.bare (settled_bare v (settled v e.kept at h.rests (idle_count first v e.kept rests at past)))

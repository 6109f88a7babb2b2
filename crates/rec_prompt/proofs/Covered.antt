-- The laws of what hangs on something: of the heap's own words, by the heap of dated words behind it.
use Rattle.std.proofs.Common.{◌≡◌, ℕ, ◌+◌, ◌≤◌, true, List, [], map, slice_index_or, refl, sym, ap, subst, ◌∙◌, arith}
use Rattle.rec_core.specs.Moves.{IsNoTurn}
use Rattle.std.proofs.Math.ListN.{get_or-map}
use Rattle.rec_core.proofs.Common.{place_of, target_of, IsTaken, Reaches, Contents, Private, named, AllFit, Core, Fits, Idle, IsConfig, IsKept, IsStart, Move, Trying, after_move, after_moves, nobody, sight, EndsRun}
use Rattle.rec_word.specs.Bare.{bare}
use Rattle.rec_word.proofs.Bare.{target_of_bare}
use Rattle.rec_log.specs.Words.{buffer_by}
use Rattle.rec_mutator.specs.Bare as mutators
use Rattle.rec_collector.specs.Private as collectors
use Rattle.rec_collector.proofs.Bare.{old_bare}
use Rattle.rec_core.specs.Bare.{bare_core}
use Rattle.rec_core.specs.Core.{opened_from}
use Rattle.rec_core.proofs.BareSeen.{reached_too}
use Rattle.rec_core.proofs.Dated.{Explains, end_explained, move_explained, moves_explained}
use Rattle.rec_core.proofs.OpenedFromSeen.{seen_settled}
use Rattle.rec_core.proofs.Runs.{config_after, move_kept}
use Rattle.rec_prompt.specs.Cover.{Hangs, IsCovered, IsPending, takes, touched_sets}
use Rattle.rec_prompt.specs.Cover.Hangs.{later, listed, behind}
use Rattle.rec_prompt.proofs.Backed.{HasBacked, moves_backed}
use Rattle.rec_prompt.proofs.Backing.{none_backed}
use Rattle.rec_prompt.proofs.Mutators.{begun_hides, hides_covers, step_hides}
use Rattle.rec_prompt.proofs.Turned.{IsWatched}
use Rattle.rec_prompt.proofs.Watched.{moves_watched, offering_covers, opened_watched}

-- a buffer with bare words takes off what it takes off with dated ones
takes_bare : (slot : ℕ) (b : Contents) → takes slot (buffer_by bare b) ≡ takes slot b
takes_bare slot b = ap (λ ts. named slot ts + named slot b.snapshot) (old_bare b.entries)

row_bare : (slot i : ℕ) (bs : List Contents) → takes slot (slice_index_or (map (buffer_by bare) bs) i (collectors.blank 0 0)) ≡ takes slot (slice_index_or bs i (collectors.blank 0 0))
row_bare slot i bs = ap (takes slot) (get_or-map (buffer_by bare) bs i (collectors.blank 0 0)) ∙ takes_bare slot (slice_index_or bs i (collectors.blank 0 0))

log_bare : (slot i : ℕ) (ps : List Private) → takes slot (slice_index_or (map mutators.bare_private ps) i nobody).log ≡ takes slot (slice_index_or ps i nobody).log
log_bare slot i ps = ap (λ (p : Private). takes slot p.log) (get_or-map mutators.bare_private ps i nobody) ∙ takes_bare slot (slice_index_or ps i nobody).log

-- the same is pending
pending_to : (v : Core) (slot : ℕ) → IsPending v slot → IsPending (bare_core v) slot
pending_to v slot (IsPending.log i some) = IsPending.log i (omega (arith, some, log_bare slot i v.mutators))
pending_to v slot (IsPending.mailbox i some) = IsPending.mailbox i (omega (arith, some, row_bare slot i v.boxes))
pending_to v slot (IsPending.newer i some) = IsPending.newer i (omega (arith, some, row_bare slot i v.collector.newer))
pending_to v slot (IsPending.older early i some) = IsPending.older early i (omega (arith, some, row_bare slot i v.collector.older))

pending_from : (v : Core) (slot : ℕ) → IsPending (bare_core v) slot → IsPending v slot
pending_from v slot (IsPending.log i some) = IsPending.log i (omega (arith, some, log_bare slot i v.mutators))
pending_from v slot (IsPending.mailbox i some) = IsPending.mailbox i (omega (arith, some, row_bare slot i v.boxes))
pending_from v slot (IsPending.newer i some) = IsPending.newer i (omega (arith, some, row_bare slot i v.collector.newer))
pending_from v slot (IsPending.older early i some) = IsPending.older early i (omega (arith, some, row_bare slot i v.collector.older))

-- the same leads, and so the same hangs on it
word_bare : (v : Core) (place : ℕ) → target_of (slice_index_or (map bare v.words) place 0) ≡ target_of (slice_index_or v.words place 0)
word_bare v place = ap target_of (get_or-map bare v.words place 0) ∙ target_of_bare (slice_index_or v.words place 0)

hangs_to : (v : Core) (slot : ℕ) → Hangs (sight v) (IsPending v) v.collector.counts slot → Hangs (sight (bare_core v)) (IsPending (bare_core v)) v.collector.counts slot
hangs_to v slot (later is) = later (pending_to v slot is)
hangs_to v slot (listed is) = listed is
hangs_to v slot (behind {from = from} path (f, within, leads)) = behind (hangs_to v from path) (f, within, word_bare v (place_of from f v.config.fields) ∙ leads)

hangs_from : (v : Core) (slot : ℕ) → Hangs (sight (bare_core v)) (IsPending (bare_core v)) v.collector.counts slot → Hangs (sight v) (IsPending v) v.collector.counts slot
hangs_from v slot (later is) = later (pending_from v slot is)
hangs_from v slot (listed is) = listed is
hangs_from v slot (behind {from = from} path (f, within, leads)) = behind (hangs_from v from path) (f, within, sym (word_bare v (place_of from f v.config.fields)) ∙ leads)

covered_to : (v : Core) → IsCovered v → IsCovered (bare_core v)
covered_to v c slot taken plain = hangs_to v slot (c slot taken plain)

covered_from : (v : Core) → IsCovered (bare_core v) → IsCovered v
covered_from v c slot taken plain = hangs_from v slot (c slot taken plain)

-- of a heap, and of the one behind it
pub covered_here : (v w : Core) → Explains v w → IsCovered v → IsCovered w
covered_here v w e c = subst IsCovered e.bare (covered_to v c)

pub covered_behind : (v w : Core) → Explains v w → IsCovered w → IsCovered v
covered_behind v w e c = covered_from v (subst IsCovered (sym e.bare) c)

-- Mutators hide nothing.
pub mutators_cover : (w : Core) (m : Move) → IsConfig w.config → EndsRun w → Fits w m → IsNoTurn m → IsCovered w → IsCovered (after_move w m)
mutators_cover w m config run fits calm c =
    let (v, e) = end_explained w config run in
    let one = move_explained v w m e fits in
    covered_here (after_move v m) (after_move w m) one.1 (go m one.0 calm (move_kept v m e.kept one.0) (covered_behind v w e c) e.kept)
  where
    go : {v : Core} (m : Move) → Fits v m → IsNoTurn m → IsKept true (after_move v m) → IsCovered v → IsKept true v → IsCovered (after_move v m)
    go {v} (Move.Begins t work from) fits_ calm_ after cover kept = hides_covers v (after_move v (Move.Begins t work from)) after (begun_hides v t work from fits_.0 kept) cover
    go {v} (Move.Steps t) fits_ calm_ after cover kept = hides_covers v (after_move v (Move.Steps t)) after (step_hides v t kept fits_.0 fits_.1) cover
    go {v} Move.Turns fits_ calm_ after cover kept = absurd calm_
    go {v} Move.Offers fits_ calm_ after cover kept = offering_covers v cover

-- a heap as it is opened has no set, so behind each heap of a run stands one whose sets are backed
pub opened_backed : {start : Core} (v : Core) → IsStart start → Explains v start → HasBacked v
opened_backed {start} v (o, are, labels, opens) e =
    let is : bare_core v ≡ opened_from start.config o = e.bare ∙ opens in
    none_backed (sight v) (IsPending v) v.collector.counts (ap (λ (x : Core). x.collector.counts.sets) is)

pub backed_behind : (w : Core) → IsConfig w.config → EndsRun w → (v : Core) × Explains v w × HasBacked v
backed_behind w config (start, moves, run) =
    let its : IsConfig start.config = subst IsConfig (ap (λ (v : Core). v.config) (sym run.ends) ∙ config_after start moves) config in
    let (v, e) = end_explained start its (start, [], record { starts = run.starts; fit = tt; ends = refl }) in
    let all = moves_explained v start moves e run.fit in
    (after_moves v moves, subst (Explains (after_moves v moves)) run.ends all.1, moves_backed v moves e.kept all.0 (opened_backed v run.starts e))

-- From a state between two collections, as long as no set more is refused of which a member was touched.
pub between_covers : (w : Core) (moves : List Move) → IsConfig w.config → EndsRun w → w.collector.phase ≡ Idle → AllFit w moves → touched_sets (after_moves w moves) ≡ touched_sets w → IsCovered w → IsCovered (after_moves w moves)
between_covers w moves config run idle fit same c =
    let (v, e, b) = backed_behind w config run in
    let all = moves_explained v w moves e fit in
    let at : v.collector.phase ≡ Idle = ap (λ (x : Core). x.collector.phase) e.bare ∙ idle in
    let first : IsWatched v = record { covers = covered_behind v w e c; follows = λ m trying. (let n : Idle ≡ Trying m = sym at ∙ trying in absurd (cc)) } in
    let few : touched_sets (after_moves v moves) ≤ touched_sets v = omega (arith, same, ap touched_sets e.bare, ap touched_sets all.1.bare) in
    covered_here (after_moves v moves) (after_moves w moves) all.1 (moves_watched v moves e.kept all.0 b first few).covers

-- So from the opening on.
pub run_covers : (w : Core) → IsConfig w.config → EndsRun w → touched_sets w ≡ 0 → IsCovered w
run_covers w config (start, moves, run) none =
    let its : IsConfig start.config = subst IsConfig (ap (λ (v : Core). v.config) (sym run.ends) ∙ config_after start moves) config in
    let (v, e) = end_explained start its (start, [], record { starts = run.starts; fit = tt; ends = refl }) in
    let all = moves_explained v start moves e run.fit in
    subst IsCovered run.ends (covered_here (after_moves v moves) (after_moves start moves) all.1 (moves_watched v moves e.kept all.0 (opened_backed v run.starts e) (first v its run.starts e) (omega (arith, none, ap touched_sets run.ends, ap touched_sets all.1.bare))).covers)
  where
    first : {start : Core} (v : Core) → IsConfig start.config → IsStart start → Explains v start → IsWatched v
    first {start} v its (o, are, labels, opens) e =
        let is : bare_core v ≡ opened_from start.config o = e.bare ∙ opens in
        opened_watched v e.kept (ap (λ (x : Core). x.collector.phase) is) (λ slot taken.
        let there : IsTaken (sight (opened_from start.config o)) slot = subst (λ (x : Core). IsTaken (sight x) slot) is taken in
        reached_too v slot (subst (λ (x : Core). Reaches (sight x) slot) (sym is) (((seen_settled start.config o its are labels).collected slot).0 there)))

-- Each slot hangs on something in every state of every run, as long as no set is refused of which a member was touched.
use Rattle.std.proofs.Common.{◌≡◌, ◌⊎◌, inl, inr, ℕ, ◌+◌, ◌<◌, ◌≤◌, true, List, [], ◌∷◌, slice_index_or, sym, ap, subst, ◌∙◌, arith}
use Rattle.rec_core.proofs.Common.{place_of, IsTaken, Reaches, Trying, Idle, AllFit, Core, Fits, IsKept, Move, after_move, after_moves, sight, offering, pending}
use Rattle.rec_model.specs.Heap.{roots}
use Rattle.rec_model.specs.Reach.{is_in}
use Rattle.rec_model.proofs.Consequences.{registers_in_reach}
use Rattle.rec_model.proofs.Ledgers.{epoch_after}
use Rattle.rec_model.proofs.Seen.{field_target}
use Rattle.rec_model.proofs.Within.{all_reached}
use Rattle.rec_collector.specs.Private as collectors
use Rattle.rec_core.proofs.Reach.{sight_is}
use Rattle.rec_core.proofs.Runs.{move_kept, rule_of, turned_kept}
use Rattle.rec_core.proofs.Turning.{turn_case}
use Rattle.rec_prompt.specs.Cover.{IsCovered, IsPending}
use Rattle.rec_prompt.proofs.Backed.{HasBacked, move_backed}
use Rattle.rec_prompt.proofs.Clears.{IsGrown, refused, touched}
use Rattle.rec_prompt.proofs.Followed.{IsFollowed}
use Rattle.rec_prompt.proofs.Forgets.{node_leads}
use Rattle.rec_prompt.proofs.Hanging.{Trails, trails_hang}
use Rattle.rec_prompt.proofs.Mutators.{begun_hides, hides_covers, hides_followed, Hides, offering_pends, step_hides}
use Rattle.rec_prompt.proofs.Pended.{reach_trails}
use Rattle.rec_prompt.proofs.Turned.{by_rule, covers_more, followed_more, IsWatched, rule_grown}

-- What registers reach is on a path of fields from what is pending.
pub reached_trails : (v : Core) → IsKept true v → (slot : ℕ) → Reaches (sight v) slot → Trails (sight v) (IsPending v) slot
reached_trails v kept = all_reached (Trails (sight v) (IsPending v)) (roots (sight v).registers) _ at_root
    (λ m n from path there. let (f, within, inside, node) = field_target (sight v) m n there in Trails.along path (f, within, node_leads (slice_index_or v.words (place_of m f v.config.fields) 0) n node))
  where
    at_root : (slot : ℕ) → is_in slot (roots (sight v).registers) ≡ true → Trails (sight v) (IsPending v) slot
    at_root slot there =
        let (epoch, holds) = (sight_is v kept.whole).registers slot there in
        reach_trails v kept.whole slot (registers_in_reach (pending v) kept.accounted (pending v).applied epoch (slot + 1) (omega arith) (epoch_after (pending v) epoch (slot + 1) kept.accounted.epochs holds) (omega arith) holds)

-- a heap as it is opened is watched, since registers reach all that it has
pub opened_watched : (v : Core) → IsKept true v → v.collector.phase ≡ Idle → ((slot : ℕ) → IsTaken (sight v) slot → Reaches (sight v) slot) → IsWatched v
opened_watched v kept idle reached = record {
  covers = λ slot taken plain. trails_hang (sight v) (IsPending v) v.collector.counts slot (reached_trails v kept slot (reached slot taken));
  follows = λ m at. let n : Idle ≡ Trying m = sym idle ∙ at in absurd (cc);
}

-- a move of a mutator
hides_watched : (v u : Core) → IsKept true u → Hides v u → IsWatched v → IsWatched u
hides_watched v u after h i = record {
  covers = hides_covers v u after h i.covers;
  follows = λ m at. subst (λ (k : collectors.Private). IsFollowed (sight u) (IsPending u) k.counts m) (sym h.collector) (hides_followed v u v.collector.counts m h (i.follows m (sym (ap (λ (k : collectors.Private). k.phase) h.collector) ∙ at)));
}

pub offering_covers : (v : Core) → IsCovered v → IsCovered (offering v)
offering_covers v c = covers_more (sight v) (IsPending v) (IsPending (offering v)) v.collector.counts (offering_pends v) c

offering_watched : (v : Core) → IsWatched v → IsWatched (offering v)
offering_watched v i = record {
  covers = offering_covers v i.covers;
  follows = λ m at. followed_more (sight v) (IsPending v) (IsPending (offering v)) v.collector.counts m (offering_pends v) (i.follows m at);
}

-- a move leaves each slot on something, or refuses a set
pub move_watched : (v : Core) (m : Move) → IsKept true v → Fits v m → HasBacked v → IsWatched v → IsWatched (after_move v m) ⊎ (touched v.collector.sets < touched (after_move v m).collector.sets)
move_watched v (Move.Begins t work from) kept fits b i = inl (hides_watched v (after_move v (Move.Begins t work from)) (move_kept v (Move.Begins t work from) kept fits) (begun_hides v t work from fits.0 kept) i)
move_watched v (Move.Steps t) kept fits b i = inl (hides_watched v (after_move v (Move.Steps t)) (move_kept v (Move.Steps t) kept fits) (step_hides v t kept fits.0 fits.1) i)
move_watched v Move.Offers kept fits b i = inl (offering_watched v i)
move_watched v Move.Turns kept fits b i = turn_case v (λ o u. IsKept true u → IsWatched u ⊎ (touched v.collector.sets < touched u.collector.sets)) (λ none after. inl i) (λ op named after. by_rule v op kept after i b (rule_of v op kept named)) (turned_kept v kept)

-- and no set that was refused is refused no more
pub move_grown : (v : Core) (m : Move) → IsKept true v → Fits v m → IsGrown v.collector.sets (after_move v m).collector.sets
move_grown v (Move.Begins t work from) kept fits = (omega arith, omega arith)
move_grown v (Move.Steps t) kept fits = (omega arith, omega arith)
move_grown v Move.Offers kept fits = (omega arith, omega arith)
move_grown v Move.Turns kept fits = turn_case v (λ o u. IsGrown v.collector.sets u.collector.sets) (λ none. (omega arith, omega arith)) (λ op named. rule_grown v op (rule_of v op kept named))

pub moves_grown : (v : Core) (ms : List Move) → IsKept true v → AllFit v ms → IsGrown v.collector.sets (after_moves v ms).collector.sets
moves_grown v [] kept fit = (omega arith, omega arith)
moves_grown v (m ∷ ms) kept fit = let first = move_grown v m kept fit.0 in let rest = moves_grown (after_move v m) ms (move_kept v m kept fit.0) fit.1 in (omega (arith, first.0, rest.0), omega (arith, first.1, rest.1))

pub move_refused : (v : Core) (m : Move) → IsKept true v → Fits v m → refused v.collector.sets ≤ refused (after_move v m).collector.sets
move_refused v m kept fit = let grown = move_grown v m kept fit in omega (arith, grown.0, grown.1)

pub moves_refused : (v : Core) (ms : List Move) → IsKept true v → AllFit v ms → refused v.collector.sets ≤ refused (after_moves v ms).collector.sets
moves_refused v ms kept fit = let grown = moves_grown v ms kept fit in omega (arith, grown.0, grown.1)

pub moves_watched : (v : Core) (ms : List Move) → IsKept true v → AllFit v ms → HasBacked v → IsWatched v → touched (after_moves v ms).collector.sets ≤ touched v.collector.sets → IsWatched (after_moves v ms)
moves_watched v [] kept fit b i few = i
moves_watched v (m ∷ ms) kept fit b i few =
    let after : IsKept true (after_move v m) = move_kept v m kept fit.0 in
    elim (move_watched v m kept fit.0 b i) [
      | inl there ↦ moves_watched (after_move v m) ms after fit.1 (move_backed v m kept fit.0 b) there (omega (arith, few, (move_grown v m kept fit.0).0))
      | inr more ↦ absurd (omega (arith, few, more, (moves_grown (after_move v m) ms after fit.1).0))
    ]

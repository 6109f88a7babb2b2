-- What the collector loads from fields leads where the words of the heap of dated words behind lead: outside counts are read off either run.
use Rattle.std.proofs.Common.{◌≡◌, ℕ, ◌+◌, ◌-◌, ◌≤◌, ◌&&◌, cond, Option, None, Some, List, [], ◌∷◌, ◌++◌, map, true, refl, sym, ap, subst, ◌∙◌}
use Rattle.std.specs.List.{concat, sum_by}
use Rattle.std.proofs.Math.ListN.{get_or-map}
use Rattle.std.proofs.lemmas.List.{map-append}
use Rattle.std.proofs.lemmas.List.Sums.{sum_by-cons}
use Rattle.rec_core.proofs.Common.{AllFit, Core, IsKept, Load, Move, Op, State, after_move, after_moves, is_in, is_slot, places_of, seen, slot_at, target_of, turned}
use Rattle.rec_word.specs.Bare.{bare}
use Rattle.rec_word.specs.declared.op.Op.TheVariants as ops
use Rattle.rec_word.proofs.Bare.{target_of_bare}
use Rattle.rec_collector.specs.Next.{next_of}
use Rattle.rec_collector.specs.Outside.{HasSets, IsOutside, lost}
use Rattle.rec_collector.specs.Touched.{IsOrangeIn}
use Rattle.rec_collector.proofs.Bare as collecting
use Rattle.rec_core.specs.Bare.{bare_core}
use Rattle.rec_core.specs.Freed.{Passes}
use Rattle.rec_core.specs.Loads.{BeginsPreparing, IsSameTrial, Loaded, fields_loaded, load_of, loaded_by, loaded_in, loaded_over}
use Rattle.rec_core.proofs.Bare.{move_bare}
use Rattle.rec_core.proofs.CutOff.{passes_behind}
use Rattle.rec_core.proofs.Dated.{Explains, moves_explained}
use Rattle.rec_core.proofs.Outside.{run_outside, run_passed, run_places}
use Rattle.rec_core.proofs.Runs.{move_kept}
use Rattle.rec_core.proofs.Trials.{no_trial}
use Rattle.rec_collector.specs.Given.{IsPreparingIn}

-- what was loaded, without dates
abbrev load_bare : Loaded → Loaded
load_bare l = record l { word = bare l.word }

loads_bare : (v : Core) (op : Option Op) → loaded_by (bare_core v) op ≡ map load_bare (loaded_by v op)
loads_bare v None = refl
loads_bare v (Some (ops.LoadChild place)) = ap (λ (word : ℕ). record { place = place; word = word; epoch = v.epoch } ∷ []) (get_or-map bare v.words place 0)
loads_bare v (Some _) = refl

loaded_bare : (v : Core) (m : Move) → loaded_in (bare_core v) m ≡ map load_bare (loaded_in v m)
loaded_bare v Move.Turns = ap (loaded_by (bare_core v)) (collecting.next_bare v.collector) ∙ loads_bare v (next_of v.collector)
loaded_bare v _ = refl

all_loaded_bare : (v : Core) (ms : List Move) → IsKept true v → AllFit v ms → loaded_over (bare_core v) ms ≡ map load_bare (loaded_over v ms)
all_loaded_bare v [] kept fit = refl
all_loaded_bare v (m ∷ ms) kept fit =
    let first : loaded_in (bare_core v) m ≡ map load_bare (loaded_in v m) = loaded_bare v m in
    let rest : loaded_over (bare_core (after_move v m)) ms ≡ map load_bare (loaded_over (after_move v m) ms) = all_loaded_bare (after_move v m) ms (move_kept v m kept fit.0) fit.1 in
    ap (λ (u : Core). loaded_in (bare_core v) m ++ loaded_over u ms) (move_bare v m kept fit.0)
    ∙ ((λ i. first i ++ rest i) ∙ sym (map-append load_bare (loaded_in v m) (loaded_over (after_move v m) ms)))

same_places : (loads : List Loaded) → map (λ (l : Loaded). l.place) (map load_bare loads) ≡ map (λ (l : Loaded). l.place) loads
same_places [] = refl
same_places (l ∷ loads) = ap (λ ns. l.place ∷ ns) (same_places loads)

-- the same words are seen to lead to a slot
module _ (s : State) (number n x : ℕ) where
  abbrev weighs : Load → ℕ
  weighs l = cond (is_slot x (target_of l.word) && is_in number (slot_at s l.slot).set) 1 0

  weighs_same : (loads : List Loaded) → sum_by weighs (fields_loaded n (map load_bare loads)) ≡ sum_by weighs (fields_loaded n loads)
  weighs_same [] = refl
  weighs_same (l ∷ loads) =
      let leads : target_of (bare l.word) ≡ target_of l.word = target_of_bare l.word in
      let own : Load = load_of n l in
      let first : weighs (load_of n (load_bare l)) ≡ weighs own = ap (λ (t : Option ℕ). cond (is_slot x t && is_in number (slot_at s own.slot).set) 1 0) leads in
      sum_by-cons weighs (load_of n (load_bare l)) (fields_loaded n (map load_bare loads))
      ∙ ((λ i. first i + weighs_same loads i) ∙ sym (sum_by-cons weighs own (fields_loaded n loads)))

  seen_same : (loads : List Loaded) → seen s number (fields_loaded n (map load_bare loads)) x ≡ seen s number (fields_loaded n loads) x
  unfolding seen
  seen_same loads = weighs_same loads

-- ---- outside counts

-- a preparation began with this state, and they are of the moves since
pub record AreOfRun (n : ℕ) (t : Core) : Type 0 where
  pub places : (moves : List Move) → AllFit t moves → IsSameTrial t (after_moves t moves) → HasSets (after_moves t moves).collector.phase → map (λ (l : Loaded). l.place) (loaded_over t moves) ≡ places_of n (concat t.collector.counts.sets)
  pub passed : (moves : List Move) → AllFit t moves → IsSameTrial t (after_moves t moves) → HasSets (after_moves t moves).collector.phase → (number x : ℕ) → Passes (after_moves t moves) number → (slot_at (after_moves t moves).collector.counts x).set ≡ Some number
      → (slot_at (after_moves t moves).collector.counts x).count ≤ seen t.collector.counts number (fields_loaded n (loaded_over t moves)) x
  pub members : (moves : List Move) → AllFit t moves → IsSameTrial t (after_moves t moves) → HasSets (after_moves t moves).collector.phase → (number x : ℕ) → IsOrangeIn (after_moves t moves).collector.counts number x
      → IsOutside t.collector.counts (after_moves t moves).collector.counts (fields_loaded n (loaded_over t moves)) number x

of_dated : (v : Core) → IsKept true v → BeginsPreparing v → AreOfRun v.config.fields (turned v)
of_dated v kept begins =
    let later : IsKept true (turned v) = move_kept v Move.Turns kept tt in
    record {
      places = λ moves fit same has. run_places v moves kept begins fit (no_trial (turned v) moves later fit same) has;
      passed = λ moves fit same has number x. run_passed v moves kept begins fit (no_trial (turned v) moves later fit same) has number x;
      members = λ moves fit same has number x. run_outside v moves kept begins fit (no_trial (turned v) moves later fit same) has number x;
    }

module _ (n : ℕ) (t : Core) (kept : IsKept true t) (are : AreOfRun n t) (moves : List Move) (fit : AllFit (bare_core t) moves) where
  abbrev made : AllFit t moves × Explains (after_moves t moves) (after_moves (bare_core t) moves)
  made = moves_explained t (bare_core t) moves (record { bare = refl; kept = kept }) fit

  abbrev end : Core
  end = after_moves t moves

  loads_are : loaded_over (bare_core t) moves ≡ map load_bare (loaded_over t moves)
  loads_are = all_loaded_bare t moves kept made.0

  places_bare : IsSameTrial (bare_core t) (after_moves (bare_core t) moves) → HasSets (after_moves (bare_core t) moves).collector.phase → map (λ (l : Loaded). l.place) (loaded_over (bare_core t) moves) ≡ places_of n (concat t.collector.counts.sets)
  places_bare = subst (λ (u : Core). IsSameTrial (bare_core t) u → HasSets u.collector.phase → map (λ (l : Loaded). l.place) (loaded_over (bare_core t) moves) ≡ places_of n (concat t.collector.counts.sets)) made.1.bare
      (λ same has. ap (map (λ (l : Loaded). l.place)) loads_are ∙ (same_places (loaded_over t moves) ∙ are.places moves made.0 same has))

  seen_are : (number x : ℕ) → seen t.collector.counts number (fields_loaded n (loaded_over (bare_core t) moves)) x ≡ seen t.collector.counts number (fields_loaded n (loaded_over t moves)) x
  seen_are number x = ap (λ (ls : List Loaded). seen t.collector.counts number (fields_loaded n ls) x) loads_are ∙ seen_same t.collector.counts number n x (loaded_over t moves)

  passed_bare : IsSameTrial (bare_core t) (after_moves (bare_core t) moves) → HasSets (after_moves (bare_core t) moves).collector.phase → (number x : ℕ) → Passes (after_moves (bare_core t) moves) number
      → (slot_at (after_moves (bare_core t) moves).collector.counts x).set ≡ Some number → (slot_at (after_moves (bare_core t) moves).collector.counts x).count ≤ seen t.collector.counts number (fields_loaded n (loaded_over (bare_core t) moves)) x
  passed_bare = subst (λ (u : Core). IsSameTrial (bare_core t) u → HasSets u.collector.phase → (number x : ℕ) → Passes u number → (slot_at u.collector.counts x).set ≡ Some number → (slot_at u.collector.counts x).count ≤ seen t.collector.counts number (fields_loaded n (loaded_over (bare_core t) moves)) x) made.1.bare
      (λ same has number x passes set. subst (λ k. (slot_at end.collector.counts x).count ≤ k) (sym (seen_are number x)) (are.passed moves made.0 same has number x (passes_behind end number passes) set))

  members_bare : IsSameTrial (bare_core t) (after_moves (bare_core t) moves) → HasSets (after_moves (bare_core t) moves).collector.phase → (number x : ℕ) → IsOrangeIn (after_moves (bare_core t) moves).collector.counts number x
      → IsOutside t.collector.counts (after_moves (bare_core t) moves).collector.counts (fields_loaded n (loaded_over (bare_core t) moves)) number x
  members_bare = subst (λ (u : Core). IsSameTrial (bare_core t) u → HasSets u.collector.phase → (number x : ℕ) → IsOrangeIn u.collector.counts number x → IsOutside t.collector.counts u.collector.counts (fields_loaded n (loaded_over (bare_core t) moves)) number x) made.1.bare
      (λ same has number x orange.
      let i : IsOutside t.collector.counts end.collector.counts (fields_loaded n (loaded_over t moves)) number x = are.members moves made.0 same has number x orange in
      record {
        member = i.member;
        fewer = i.fewer;
        cyclic = i.cyclic ∙ ap (λ k. (slot_at t.collector.counts x).count - k - lost t.collector.counts end.collector.counts x) (sym (seen_are number x));
      })

of_bare : (n : ℕ) (t : Core) → IsKept true t → AreOfRun n t → AreOfRun n (bare_core t)
of_bare n t kept are = record {
  places = places_bare n t kept are;
  passed = passed_bare n t kept are;
  members = members_bare n t kept are;
}

pub of_own_run : (v w : Core) → Explains v w → BeginsPreparing w → AreOfRun w.config.fields (turned w)
of_own_run v w e = subst (λ (u : Core). BeginsPreparing u → AreOfRun u.config.fields (turned u)) e.bare (λ begins.
    let same : turned (bare_core v) ≡ bare_core (turned v) = move_bare v Move.Turns e.kept tt in
    let began : BeginsPreparing v = (begins.0, subst (λ (u : Core). IsPreparingIn u.collector.phase) same begins.1) in
    subst (AreOfRun v.config.fields) (sym same) (of_bare v.config.fields (turned v) (move_kept v Move.Turns e.kept tt) (of_dated v e.kept began)))

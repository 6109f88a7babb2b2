-- The law: what is lost and behind no cycle is freed by the end of the second collection.
use Rattle.std.proofs.Common.{◌≡◌, ◌⊎◌, inl, inr, ℕ, ◌+◌, ◌/◌, ◌%◌, ◌<◌, ◌≤◌, true, List, [], ◌∷◌, ◌++◌, slice_index_or, refl, sym, ap, subst, ◌∙◌, arith}
use Rattle.std.proofs.Math.ListN.{get_or-map}
use Rattle.std.proofs.Math.Nat.{mod-lt, div-add-mod, mul_comm}
use Rattle.std.proofs.lemmas.Bool.{cases_Bool, cases_lt}
use Rattle.rec_core.proofs.Common.{place_of, target_of, Core, sight, IsKept, Idle, AllFit, Move, after_move, after_moves, turned, EndsRun, Fits, IsConfig, Turn}
use Rattle.rec_model.specs.Reach.{is_in}
use Rattle.rec_collector.specs.Kept.{under_way}
use Rattle.rec_collector.proofs.Bare.{next_bare}
use Rattle.rec_collector.specs.declared.turn.Turn.TheVariants as turns
use Rattle.rec_word.specs.Bare.{bare}
use Rattle.rec_word.proofs.Bare.{target_of_bare}
use Rattle.rec_core.specs.Bare.{bare_core}
use Rattle.rec_core.specs.Turn.{TurnHasCause, turn_told}
use Rattle.rec_core.proofs.BareSeen.{reached_bare}
use Rattle.rec_core.proofs.Dated.{Explains, end_explained, move_explained, moves_explained}
use Rattle.rec_core.proofs.Runs.{config_after, fit_first, move_stays, over_both, run_more}
use Rattle.rec_core.proofs.Turn.{turn_is_one}
use Rattle.rec_model.proofs.Members.{is_in-left}
use Rattle.rec_core.proofs.Steps.{taken_slot}
use Rattle.rec_prompt.specs.Lost.{IsBehindNoCycle, IsLost, Leads, LeadsOn}
use Rattle.rec_prompt.specs.Lost.LeadsOn.{step, further}
use Rattle.rec_prompt.specs.Prompt.{Complete, IsFreed, freed_by, freed_in, freed_over}
use Rattle.rec_prompt.proofs.Chains.{none_lost}
use Rattle.rec_prompt.proofs.Counts.{led_to}
use Rattle.rec_prompt.proofs.Forgets.{counted}
use Rattle.rec_prompt.proofs.Moves.{forgotten, lost_over}
use Rattle.rec_collector.proofs.Landing.{under_way_most}

-- Of a heap of dated words: between two collections, two epochs on.
module _ (v : Core) (ms : List Move) (slot : ℕ) (kept : IsKept true v) (fit : AllFit v ms) (idle : (after_moves v ms).collector.phase ≡ Idle) (past : v.epoch + 2 ≤ counted (after_moves v ms)) (gone : IsLost (sight v) slot) (none : IsBehindNoCycle (sight v) slot) where
  open (forgotten v ms kept fit) use {f, kept_then}

  led : (x : ℕ) → lost_over v ms x → (y : ℕ) × lost_over v ms y × Leads (sight v) y x
  led x is =
      let (place, leads) = led_to (v.epoch + 1) v (lost_over v ms) (after_moves v ms) kept_then idle f (omega (arith, past)) x is in
      let fields : ℕ = v.config.fields in
      let same : (after_moves v ms).config.fields ≡ fields = ap (λ k. k.fields) (config_after v ms) in
      let here : place_of (place / fields) (place % fields) fields ≡ place = ap (λ k. k + place % fields) (mul_comm (place / fields) fields) ∙ div-add-mod place fields in (
        place / fields,
        subst (λ n. lost_over v ms (place / n)) same (f.fields place x leads is),
        (place % fields, mod-lt place kept.config.some_fields, ap (λ n. target_of (slice_index_or v.words n 0)) here ∙ f.still place x leads is),
      )

  is_freed : is_in slot (freed_over v ms) ≡ true
  is_freed = elim (cases_Bool (is_in slot (freed_over v ms))) [
    | inl freed ↦ freed
    | inr unfreed ↦ absurd (none_lost (sight v) (lost_over v ms) v.config.slots (λ x is. taken_slot v kept x is.0.taken) led slot none (gone, unfreed))
  ]

-- ---- the heap itself

-- a field leads where it leads in the heap of dated words behind
pub leads_bare : (v : Core) (from to : ℕ) → Leads (sight v) from to → Leads (sight (bare_core v)) from to
leads_bare v from to (field, within, leads) = (field, within, ap target_of (get_or-map bare v.words (place_of from field v.config.fields) 0) ∙ target_of_bare (slice_index_or v.words (place_of from field v.config.fields) 0) ∙ leads)

leads_on_bare : (v : Core) (from to : ℕ) → LeadsOn (sight v) from to → LeadsOn (sight (bare_core v)) from to
leads_on_bare v from to (step one) = step (leads_bare v from to one)
leads_on_bare v from to (further path one) = further (leads_on_bare v from _ path) (leads_bare v _ to one)

pub lost_behind : (v : Core) (slot : ℕ) → IsLost (sight (bare_core v)) slot → IsLost (sight v) slot
lost_behind v slot gone = record { taken = gone.taken; unreached = λ from. gone.unreached (reached_bare v slot from) }

no_cycle_behind : (v : Core) (slot : ℕ) → IsBehindNoCycle (sight (bare_core v)) slot → IsBehindNoCycle (sight v) slot
no_cycle_behind v slot none other back there = none other (leads_on_bare v other other back) (leads_on_bare v other slot there)

-- the same slots are freed
freed_bare : (v : Core) (m : Move) → freed_in (bare_core v) m ≡ freed_in v m
freed_bare v Move.Turns = ap freed_by (next_bare v.collector)
freed_bare v (Move.Begins t work from) = refl
freed_bare v (Move.Steps t) = refl
freed_bare v Move.Offers = refl

pub freed_behind : (v w : Core) (ms : List Move) → Explains v w → AllFit w ms → freed_over w ms ≡ freed_over v ms
freed_behind v w [] e fit = refl
freed_behind v w (m ∷ ms) e fit =
    let one : freed_in w m ≡ freed_in v m = ap (λ (x : Core). freed_in x m) (sym e.bare) ∙ freed_bare v m in
    let rest : freed_over (after_move w m) ms ≡ freed_over (after_move v m) ms = freed_behind (after_move v m) (after_move w m) ms (move_explained v w m e fit.0).1 fit.1 in
    (λ i. one i ++ rest i)

-- a move completes a collection, and then none is under way, or completes none
completes : (w : Core) (m : Move) → IsConfig w.config → EndsRun w → Fits w m → ((after_move w m).collector.collections ≡ w.collector.collections) ⊎ (((after_move w m).collector.collections ≡ w.collector.collections + 1) × ((after_move w m).collector.phase ≡ Idle))
completes w (Move.Begins t work from) config run fits = inl refl
completes w (Move.Steps t) config run fits = inl refl
completes w Move.Offers config run fits = inl refl
completes w Move.Turns config run fits = go (turn_told w) (turn_is_one w config run).cause
  where
    go : (turn : Turn) → TurnHasCause w (turned w) turn → ((turned w).collector.collections ≡ w.collector.collections) ⊎ (((turned w).collector.collections ≡ w.collector.collections + 1) × ((turned w).collector.phase ≡ Idle))
    go turns.Moved cause = inl cause.1
    go (turns.Waiting t) cause = inl (ap (λ (x : Core). x.collector.collections) cause.2)
    go (turns.Collected epoch freed) cause = inr (cause.3, cause.2)
    go turns.EpochsSpent cause = inl (ap (λ (x : Core). x.collector.collections) cause.2)

-- moves over which this many collections are complete come to a state between two collections where just as many are
pub record IsBetween (w : Core) (ms : List Move) (collections : ℕ) : Type 0 where
  pub first : List Move
  pub second : List Move
  pub both : first ++ second ≡ ms
  pub idle : (after_moves w first).collector.phase ≡ Idle
  pub complete : (after_moves w first).collector.collections ≡ collections

-- with a move in front
one_before : (w : Core) (m : Move) (ms : List Move) (collections : ℕ) → IsBetween (after_move w m) ms collections → IsBetween w (m ∷ ms) collections
one_before w m ms collections rest = record { first = m ∷ rest.first; second = rest.second; both = ap (λ (xs : List Move). m ∷ xs) rest.both; idle = rest.idle; complete = rest.complete }

pub comes_between : (w : Core) (ms : List Move) (collections : ℕ) → IsConfig w.config → EndsRun w → AllFit w ms → w.collector.collections < collections → collections ≤ (after_moves w ms).collector.collections → IsBetween w ms collections
comes_between w [] collections config run fit less enough = absurd (omega (arith, less, enough))
comes_between w (m ∷ ms) collections config run fit less enough =
    let later : (after_move w m).collector.collections < collections → IsBetween (after_move w m) ms collections
    = λ more. comes_between (after_move w m) ms collections (subst IsConfig (sym (move_stays w m)) config) (run_more w m run fit.0) fit.1 more enough in
    elim (completes w m config run fit.0) [
      | inl same ↦ one_before w m ms collections (later (omega (arith, less, same)))
      | inr ended ↦ elim (cases_lt (after_move w m).collector.collections collections) [
        | inl more ↦ one_before w m ms collections (later more)
        | inr done ↦ record { first = m ∷ []; second = ms; both = refl; idle = ended.1; complete = omega (arith, done, ended.0, less) }
      ]
    ]

-- from a state, over moves that come to one where so many collections are complete
freed_by_then : (w : Core) (ms : List Move) (slot more : ℕ) → IsConfig w.config → EndsRun w → AllFit w ms → under_way w.collector.phase + 2 ≤ more → w.collector.collections + more ≤ (after_moves w ms).collector.collections → IsLost (sight w) slot → IsBehindNoCycle (sight w) slot
    → is_in slot (freed_over w ms) ≡ true
freed_by_then w ms slot more config run fit enough complete gone none =
    let at = comes_between w ms (w.collector.collections + more) config run fit (omega (arith, enough)) complete in
    let fits : AllFit w at.first = fit_first w at.first at.second (subst (AllFit w) (sym at.both) fit) in
    let (v, e) = end_explained w config run in
    let all = moves_explained v w at.first e fits in
    let u : Core = after_moves v at.first in
    let idle : u.collector.phase ≡ Idle = ap (λ (x : Core). x.collector.phase) all.1.bare ∙ at.idle in
    let counts : u.collector.collections ≡ w.collector.collections + more = ap (λ (x : Core). x.collector.collections) all.1.bare ∙ at.complete in
    let before : v.collector.collections ≡ w.collector.collections = ap (λ (x : Core). x.collector.collections) e.bare in
    let way : under_way v.collector.phase ≡ under_way w.collector.phase = ap (λ (x : Core). under_way x.collector.phase) e.bare in
    let same : u.config.first_epoch ≡ v.config.first_epoch = ap (λ k. k.first_epoch) (config_after v at.first) in
    let begun : v.config.first_epoch + v.collector.collections + under_way v.collector.phase ≡ v.epoch = e.kept.collector.begun in
    let freed : is_in slot (freed_over v at.first) ≡ true = is_freed v at.first slot e.kept all.0 idle (omega (arith, enough, counts, before, way, same, begun))
    (lost_behind v slot (subst (λ (x : Core). IsLost (sight x) slot) (sym e.bare) gone)) (no_cycle_behind v slot (subst (λ (x : Core). IsBehindNoCycle (sight x) slot) (sym e.bare) none)) in
    let there : is_in slot (freed_over w at.first) ≡ true = ap (is_in slot) (freed_behind v w at.first e fits) ∙ freed in
    subst (λ (xs : List Move). is_in slot (freed_over w xs) ≡ true) at.both
    (ap (is_in slot) (over_both freed_in w at.first at.second) ∙ is_in-left slot (freed_over w at.first) (freed_over (after_moves w at.first) at.second) there)

pub freed_idle : (w : Core) (ms : List Move) (slot : ℕ) → IsConfig w.config → EndsRun w → w.collector.phase ≡ Idle → AllFit w ms → Complete 2 w ms → IsLost (sight w) slot → IsBehindNoCycle (sight w) slot → IsFreed w ms slot
freed_idle w ms slot config run idle fit complete gone none = freed_by_then w ms slot 2 config run fit (omega (arith, ap under_way idle)) complete gone none

pub freed_under_way : (w : Core) (ms : List Move) (slot : ℕ) → IsConfig w.config → EndsRun w → AllFit w ms → Complete 3 w ms → IsLost (sight w) slot → IsBehindNoCycle (sight w) slot → IsFreed w ms slot
freed_under_way w ms slot config run fit complete gone none = freed_by_then w ms slot 3 config run fit (omega (arith, under_way_most w.collector.phase)) complete gone none

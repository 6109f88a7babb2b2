-- The law of garbage cycles: what is lost is freed by the end of the first collection, from the third on, that refuses no set.
use Rattle.std.proofs.Common.{◌≡◌, inl, inr, ℕ, ◌+◌, ◌/◌, ◌%◌, ◌<◌, ◌≤◌, true, false, Some, List, [], ◌∷◌, ◌++◌, length, slice_index_or, refl, sym, ap, subst, ◌∙◌, arith}
use Rattle.std.proofs.Math.Nat.{mod-lt, div-add-mod, mul_comm}
use Rattle.std.proofs.lemmas.Bool.{cases_Bool, false≢true}
use Rattle.std.proofs.lemmas.List.{append_assoc}
use Rattle.rec_core.proofs.Common.{after_move, place_of, target_of, is_green, slot_at, AllFit, Core, EndsRun, Idle, IsConfig, IsKept, Move, Trying, after_move, after_moves, sight}
use Rattle.rec_model.specs.Reach.{is_in}
use Rattle.rec_model.proofs.Members.{is_in-left, is_in-right, not_in-left}
use Rattle.rec_collector.specs.Kept.{under_way}
use Rattle.rec_collector.proofs.Following.{none_released}
use Rattle.rec_core.specs.Bare.{bare_core}
use Rattle.rec_core.proofs.Dated.{Explains, end_explained, moves_explained}
use Rattle.rec_core.proofs.Runs.{after_both, config_after, fit_first, moves_kept, over_both, run_more}
use Rattle.rec_core.proofs.Steps.{taken_slot}
use Rattle.rec_core.proofs.Turns.{now_at}
use Rattle.rec_prompt.specs.Cover.{IsCovered, IsPending, refused_sets, touched_sets}
use Rattle.rec_prompt.specs.Lost.{IsLost, Leads}
use Rattle.rec_prompt.specs.Prompt.{Complete, freed_in, freed_over, IsFreed}
use Rattle.rec_prompt.proofs.Clears.{IsGrown, refused, touched}
use Rattle.rec_prompt.proofs.Counts.{led_to}
use Rattle.rec_prompt.proofs.Forgets.{counted}
use Rattle.rec_prompt.proofs.Turned.{IsWatched}
use Rattle.rec_prompt.proofs.Covered.{backed_behind, covered_behind, run_covers}
use Rattle.rec_prompt.proofs.Heeding.{FoundIn}
use Rattle.rec_prompt.proofs.Found.{before_tests, has_found, IsNear}
use Rattle.rec_prompt.proofs.Hanging.{leaders_count}
use Rattle.rec_prompt.proofs.Moves.{forgotten, lost_over, not_second}
use Rattle.rec_prompt.proofs.Prompt.{comes_between, freed_behind, lost_behind}
use Rattle.rec_prompt.proofs.Stays.{stays_lost, still_led, still_lost}
use Rattle.rec_prompt.proofs.Third.{lost_found, moves_stand, Stands}
use Rattle.rec_prompt.proofs.Watched.{moves_grown}

-- the later ones of moves that fit
fit_rest : (w : Core) (ms ns : List Move) → AllFit w (ms ++ ns) → AllFit (after_moves w ms) ns
fit_rest w [] ns fit = fit
fit_rest w (m ∷ ms) ns fit = fit_rest (after_move w m) ms ns fit.1

-- Over moves from a state, with a state between two collections amid, two epochs on, and one more collection complete at their end.
module _ (v : Core) (first rest : List Move) (kept : IsKept true v) (fit : AllFit v (first ++ rest)) (always : v.config.policy.least_roots ≡ 0) (since : ℕ) (st : Stands since v) (later : since < (after_moves v first).collector.collections)
    (idle : (after_moves v first).collector.phase ≡ Idle) (past : v.epoch + 2 ≤ counted (after_moves v first)) (end_idle : (after_moves (after_moves v first) rest).collector.phase ≡ Idle)
    (more : (after_moves v first).collector.collections < (after_moves (after_moves v first) rest).collector.collections) (few : refused (after_moves (after_moves v first) rest).collector.sets ≤ refused (after_moves v first).collector.sets)
    (calm : touched (after_moves (after_moves v first) rest).collector.sets ≤ touched v.collector.sets) where
  abbrev u : Core
  u = after_moves v first

  abbrev end : Core
  end = after_moves u rest

  fit_u : AllFit v first
  fit_u = fit_first v first rest fit

  fit_end : AllFit u rest
  fit_end = fit_rest v first rest fit

  kept_u : IsKept true u
  kept_u = moves_kept v first kept fit_u

  kept_end : IsKept true end
  kept_end = moves_kept u rest kept_u fit_end

  always_u : u.config.policy.least_roots ≡ 0
  always_u = ap (λ k. k.policy.least_roots) (config_after v first) ∙ always

  to_u : Stands since u
  to_u = (moves_stand since v first kept always fit_u (omega (arith, calm, (moves_grown u rest kept_u fit_end).0)) st).0

  to_end : (n x : ℕ) → is_in x (freed_over u rest) ≡ false → IsNear n u.collector x → IsNear n end.collector x
  to_end = elim (moves_stand since u rest kept_u always_u fit_end (omega (arith, calm, (moves_grown v first kept fit_u).0)) to_u).1 [ inl near ↦ near | inr more ↦ absurd (omega (arith, few, more)) ]

  -- what isn't freed over all is freed over neither part
  unfreed : (x : ℕ) → is_in x (freed_over v (first ++ rest)) ≡ false → (is_in x (freed_over v first) ≡ false) × (is_in x (freed_over u rest) ≡ false)
  unfreed x none =
      let both : is_in x (freed_over v first ++ freed_over u rest) ≡ false = ap (is_in x) (sym (over_both freed_in v first rest)) ∙ none in
      (not_in-left x (freed_over v first) (freed_over u rest) both, not_second x (freed_over v first) (freed_over u rest) both)

  -- a slot that is lost and isn't freed is taken at the end, and not released
  unreleased : (x : ℕ) → is_in x (freed_over v (first ++ rest)) ≡ false → IsLost (sight v) x → (slot_at end.collector.counts x).released ≡ false
  unreleased x none gone =
      let parts = unfreed x none in
      let lost_u : IsLost (sight u) x = still_lost v first kept fit_u x (gone, parts.0) in
      let f = forgotten u rest kept_u fit_end in
      let many : length end.collector.counts.slots ≡ end.config.slots = kept_end.collector.slots in
      none_released (now_at end Idle kept_end end_idle).0 x (omega (arith, many, taken_slot end kept_end x (f.f.taken x (lost_u, parts.1))))

  found_u : FoundIn (sight u) (IsPending u) u.collector.counts
  found_u = elim (to_u.found (ap has_found idle)) [ inl soon ↦ absurd (omega (arith, soon.1, later)) | inr was ↦ was ]

  -- one that isn't Green amid them is freed
  plain_freed : (x : ℕ) → is_in x (freed_over v (first ++ rest)) ≡ false → IsLost (sight v) x → is_green (slot_at u.collector.counts x).colour ≡ false → ⊥
  plain_freed x none gone plain =
      let parts = unfreed x none in
      let f = forgotten v first kept fit_u in
      let own = lost_found v (v.epoch + 1) (lost_over v first) u kept_u idle f.f (omega (arith, past)) found_u x (gone, parts.0) plain in
      elim (to_end u.collector.collections x parts.1 (inl (ap before_tests idle, refl, own))) [
        | inl near ↦ omega (arith, near.1, more)
        | inr released ↦ false≢true (sym (unreleased x none gone) ∙ released)
      ]

  -- so is a Green one, since nothing that isn't Green leads to it any more
  pub all_freed : (x : ℕ) → is_in x (freed_over v (first ++ rest)) ≡ false → IsLost (sight v) x → ⊥
  all_freed x none gone = elim (cases_Bool (is_green (slot_at u.collector.counts x).colour)) [
    | inr plain ↦ plain_freed x none gone plain
    | inl green ↦
        let parts = unfreed x none in
        let lost_u : lost_over u rest x = (still_lost v first kept fit_u x (gone, parts.0), parts.1) in
        let f = forgotten v (first ++ rest) kept fit in
        let same : after_moves v (first ++ rest) ≡ end = after_both v first rest in
        let (place, leads) = led_to (v.epoch + 1) v (lost_over v (first ++ rest)) (after_moves v (first ++ rest)) f.kept_then (ap (λ (k : Core). k.collector.phase) same ∙ end_idle) f.f
        (omega (arith, past, more, ap counted same, ap (λ (k : Core). k.config.first_epoch) same, ap (λ k. k.first_epoch) (config_after u rest))) x (gone, none) in
        let fields : ℕ = v.config.fields in
        let width : (after_moves v (first ++ rest)).config.fields ≡ fields = ap (λ k. k.fields) (config_after v (first ++ rest)) in
        let from : ℕ = place / fields in
        let lost_from : lost_over v (first ++ rest) from = subst (λ n. lost_over v (first ++ rest) (place / n)) width (f.f.fields place x leads (gone, none)) in
        let here : place_of from (place % fields) fields ≡ place = ap (λ k. k + place % fields) (mul_comm from fields) ∙ div-add-mod place fields in
        let wide : end.config.fields ≡ fields = ap (λ k. k.fields) (config_after u rest ∙ config_after v first) in
        let leads_end : Leads (sight end) from x = (place % fields, subst (λ n. place % fields < n) (sym wide) (mod-lt place kept.config.some_fields), subst (λ (k : Core). target_of (slice_index_or k.words (place_of from (place % fields) end.config.fields) 0) ≡ Some x) same (ap (λ n. target_of (slice_index_or (after_moves v (first ++ rest)).words n 0)) (ap (place_of from (place % fields)) wide ∙ here) ∙ leads)) in
        let at_u = still_led u rest kept_u fit_end from x lost_u leads_end in
        plain_freed from lost_from.1 lost_from.0 (leaders_count u kept_u from x at_u.1).1
  ]

-- ---- the heap itself

-- no set that was refused is refused no more
run_grown : (w : Core) (ms : List Move) → IsConfig w.config → EndsRun w → AllFit w ms → IsGrown w.collector.sets (after_moves w ms).collector.sets
run_grown w ms config run fit =
    let (v, e) = end_explained w config run in
    let all = moves_explained v w ms e fit in
    let grown = moves_grown v ms e.kept all.0 in (
      omega (arith, grown.0, ap (λ (x : Core). x.collector.sets.delta) e.bare, ap (λ (x : Core). x.collector.sets.delta) all.1.bare),
      omega (arith, grown.1, ap (λ (x : Core). x.collector.sets.sigma) e.bare, ap (λ (x : Core). x.collector.sets.sigma) all.1.bare),
    )

-- a run goes on
run_on : (w : Core) (ms : List Move) → EndsRun w → AllFit w ms → EndsRun (after_moves w ms)
run_on w [] run fit = run
run_on w (m ∷ ms) run fit = run_on (after_move w m) ms (run_more w m run fit.0) fit.1

-- from a state, over moves that come to one between two collections where so many are complete, and then over a collection that refuses no set
freed_by_last : (w : Core) (first rest : List Move) (slot : ℕ) → IsConfig w.config → EndsRun w → (v : Core) → Explains v w → Stands w.collector.collections v → w.config.policy.least_roots ≡ 0 → AllFit w (first ++ rest) → (after_moves w first).collector.phase ≡ Idle → w.collector.collections + under_way w.collector.phase + 2 ≤ (after_moves w first).collector.collections
    → touched_sets (after_moves (after_moves w first) rest) ≡ touched_sets w → refused_sets (after_moves (after_moves w first) rest) ≡ refused_sets (after_moves w first) → Complete 1 (after_moves w first) rest → IsLost (sight w) slot → IsFreed w (first ++ rest) slot
freed_by_last w first rest slot config run v e st always fit idle enough calm none complete gone =
    let x : Core = after_moves w first in
    let fit_x : AllFit w first = fit_first w first rest fit in
    let config_x : IsConfig x.config = subst IsConfig (sym (config_after w first)) config in
    let run_x : EndsRun x = run_on w first run fit_x in
    let fit_on : AllFit x rest = fit_rest w first rest fit in
    let at = comes_between x rest (x.collector.collections + 1) config_x run_x fit_on (omega arith) complete in
    let joined : (first ++ at.first) ++ at.second ≡ first ++ rest = append_assoc first at.first at.second ∙ ap (λ (ms : List Move). first ++ ms) at.both in
    let fits : AllFit w ((first ++ at.first) ++ at.second) = subst (AllFit w) (sym joined) fit in
    let parts : AllFit w (first ++ at.first) = fit_first w (first ++ at.first) at.second fits in
    let fit_at : AllFit x (at.first ++ at.second) = subst (AllFit x) (sym at.both) fit_on in
    let end : after_moves x rest ≡ after_moves (after_moves x at.first) at.second = ap (after_moves x) (sym at.both) ∙ after_both x at.first at.second in
    let to_end = run_grown (after_moves x at.first) at.second (subst IsConfig (sym (config_after x at.first)) config_x) (run_on x at.first run_x (fit_first x at.first at.second fit_at)) (fit_rest x at.first at.second fit_at) in
    let both = moves_explained v w (first ++ at.first) e parts in
    let one = moves_explained v w first e fit_x in
    let u : Core = after_moves v first in
    let end_is : after_moves v (first ++ at.first) ≡ after_moves u at.first = after_both v first at.first in
    let end_bare : bare_core (after_moves u at.first) ≡ after_moves x at.first = ap bare_core (sym end_is) ∙ both.1.bare ∙ after_both w first at.first in
    let few : refused (after_moves u at.first).collector.sets ≤ refused u.collector.sets = omega (arith, ap refused_sets end_bare, ap refused_sets one.1.bare, to_end.0, to_end.1, ap refused_sets end, none) in
    let same : touched (after_moves u at.first).collector.sets ≤ touched v.collector.sets = omega (arith, ap touched_sets end_bare, ap touched_sets e.bare, to_end.0, ap touched_sets end, calm) in
    let begun : v.config.first_epoch + v.collector.collections + under_way v.collector.phase ≡ v.epoch = e.kept.collector.begun in
    let way : under_way v.collector.phase ≡ under_way w.collector.phase = ap (λ (k : Core). under_way k.collector.phase) e.bare in
    let before : v.collector.collections ≡ w.collector.collections = ap (λ (k : Core). k.collector.collections) e.bare in
    let amid_many : u.collector.collections ≡ x.collector.collections = ap (λ (k : Core). k.collector.collections) one.1.bare in
    let end_many : (after_moves u at.first).collector.collections ≡ x.collector.collections + 1 = ap (λ (k : Core). k.collector.collections) end_bare ∙ at.complete in
    let same_first : u.config.first_epoch ≡ v.config.first_epoch = ap (λ k. k.first_epoch) (config_after v first) in
    let lost : IsLost (sight v) slot = lost_behind v slot (subst (λ (k : Core). IsLost (sight k) slot) (sym e.bare) gone) in
    let freed : is_in slot (freed_over v (first ++ at.first)) ≡ true = elim (cases_Bool (is_in slot (freed_over v (first ++ at.first)))) [
      | inl freed_ ↦ freed_
      | inr unfreed_ ↦ absurd (all_freed v first at.first e.kept both.0 (ap (λ (k : Core). k.config.policy.least_roots) e.bare ∙ always) w.collector.collections st (omega (arith, amid_many, enough))
          (ap (λ (k : Core). k.collector.phase) one.1.bare ∙ idle) (omega (arith, begun, way, before, amid_many, same_first, enough)) (ap (λ (k : Core). k.collector.phase) end_bare ∙ at.idle) (omega (arith, amid_many, end_many)) few same slot unfreed_ lost)
    ] in
    subst (λ (ms : List Move). is_in slot (freed_over w ms) ≡ true) joined (ap (is_in slot) (over_both freed_in w (first ++ at.first) at.second) ∙ is_in-left slot (freed_over w (first ++ at.first)) (freed_over (after_moves w (first ++ at.first)) at.second) (ap (is_in slot) (freed_behind v w (first ++ at.first) e parts) ∙ freed))

-- where each slot hangs on something
covered_stands : (w : Core) → IsConfig w.config → EndsRun w → w.collector.phase ≡ Idle → IsCovered w → (v : Core) × Explains v w × Stands w.collector.collections v
covered_stands w config run idle cover =
    let (v, e, b) = backed_behind w config run in
    let at : v.collector.phase ≡ Idle = ap (λ (x : Core). x.collector.phase) e.bare ∙ idle in
    let watched : IsWatched v = record { covers = covered_behind v w e cover; follows = λ m trying. (let n : Idle ≡ Trying m = sym at ∙ trying in absurd (cc)) } in
    (v, e, record { watched = watched; backed = b; found = λ found. inl (ap before_tests at, ap (λ (x : Core). x.collector.collections) e.bare) })

-- Behind two collections any one that refuses no set frees it.
pub cycles_last : (w : Core) (first rest : List Move) (slot : ℕ) → IsConfig w.config → EndsRun w → w.config.policy.least_roots ≡ 0 → w.collector.phase ≡ Idle → AllFit w (first ++ rest) → IsCovered w → Complete 2 w first → (after_moves w first).collector.phase ≡ Idle → touched_sets (after_moves (after_moves w first) rest) ≡ touched_sets w → refused_sets (after_moves (after_moves w first) rest) ≡ refused_sets (after_moves w first) → Complete 1 (after_moves w first) rest → IsLost (sight w) slot → IsFreed w (first ++ rest) slot
cycles_last w first rest slot config run always idle fit cover enough amid calm none complete gone =
    let (v, e, st) = covered_stands w config run idle cover in
    freed_by_last w first rest slot config run v e st always fit amid (omega (arith, enough, ap under_way idle)) calm none complete gone

-- so three collections are enough that refuse no set
pub cycles_idle : (w : Core) (ms : List Move) (slot : ℕ) → IsConfig w.config → EndsRun w → w.config.policy.least_roots ≡ 0 → w.collector.phase ≡ Idle → AllFit w ms → IsCovered w → refused_sets (after_moves w ms) ≡ refused_sets w → Complete 3 w ms → IsLost (sight w) slot → IsFreed w ms slot
cycles_idle w ms slot config run always idle fit cover none complete gone =
    let at = comes_between w ms (w.collector.collections + 2) config run fit (omega arith) (omega (arith, complete)) in
    let fits : AllFit w (at.first ++ at.second) = subst (AllFit w) (sym at.both) fit in
    let fit_x : AllFit w at.first = fit_first w at.first at.second fits in
    let x : Core = after_moves w at.first in
    let end : after_moves w ms ≡ after_moves x at.second = ap (after_moves w) (sym at.both) ∙ after_both w at.first at.second in
    let to_x = run_grown w at.first config run fit_x in
    let from_x = run_grown x at.second (subst IsConfig (sym (config_after w at.first)) config) (run_on w at.first run fit_x) (fit_rest w at.first at.second fits) in
    subst (λ (ns : List Move). IsFreed w ns slot) at.both (cycles_last w at.first at.second slot config run always idle fits cover (omega (arith, at.complete)) at.idle
    (omega (arith, to_x.0, to_x.1, from_x.0, from_x.1, none, ap refused_sets end)) (omega (arith, to_x.0, to_x.1, from_x.0, from_x.1, none, ap refused_sets end)) (omega (arith, complete, at.complete, ap (λ (k : Core). k.collector.collections) end)) gone)

pub cycles_run : (w : Core) (ms : List Move) (slot : ℕ) → IsConfig w.config → EndsRun w → w.config.policy.least_roots ≡ 0 → w.collector.phase ≡ Idle → AllFit w ms → touched_sets w ≡ 0 → refused_sets (after_moves w ms) ≡ refused_sets w → Complete 3 w ms → IsLost (sight w) slot → IsFreed w ms slot
cycles_run w ms slot config run always idle fit none same complete gone = cycles_idle w ms slot config run always idle fit (run_covers w config run none) same complete gone

-- a collection that is under way ends first
pub cycles_under_way : (w : Core) (ms : List Move) (slot : ℕ) → IsConfig w.config → EndsRun w → w.config.policy.least_roots ≡ 0 → AllFit w ms → touched_sets w ≡ 0 → refused_sets (after_moves w ms) ≡ refused_sets w → Complete 4 w ms → IsLost (sight w) slot → IsFreed w ms slot
cycles_under_way w ms slot config run always fit none same complete gone =
    let at = comes_between w ms (w.collector.collections + 1) config run fit (omega arith) (omega (arith, complete)) in
    let fits : AllFit w (at.first ++ at.second) = subst (AllFit w) (sym at.both) fit in
    let fit_u : AllFit w at.first = fit_first w at.first at.second fits in
    let u : Core = after_moves w at.first in
    let end : after_moves w ms ≡ after_moves u at.second = ap (after_moves w) (sym at.both) ∙ after_both w at.first at.second in
    let config_u : IsConfig u.config = subst IsConfig (sym (config_after w at.first)) config in
    let run_u : EndsRun u = run_on w at.first run fit_u in
    let fit_rest_ : AllFit u at.second = fit_rest w at.first at.second fits in
    let to_u = run_grown w at.first config run fit_u in
    let from_u = run_grown u at.second config_u run_u fit_rest_ in
    let over_all : is_in slot (freed_over w at.first ++ freed_over u at.second) ≡ true → IsFreed w ms slot = λ freed. subst (λ (xs : List Move). is_in slot (freed_over w xs) ≡ true) at.both (ap (is_in slot) (over_both freed_in w at.first at.second) ∙ freed) in
    elim (cases_Bool (is_in slot (freed_over w at.first))) [
      | inl freed ↦ over_all (is_in-left slot (freed_over w at.first) (freed_over u at.second) freed)
      | inr unfreed ↦ over_all (is_in-right slot (freed_over w at.first) (freed_over u at.second) (cycles_run u at.second slot config_u run_u (ap (λ k. k.policy.least_roots) (config_after w at.first) ∙ always) at.idle fit_rest_
          (omega (arith, none, to_u.0, to_u.1, from_u.0, from_u.1, same, ap refused_sets end)) (omega (arith, to_u.0, to_u.1, from_u.0, from_u.1, same, ap refused_sets end))
          (omega (arith, complete, at.complete, ap (λ (x : Core). x.collector.collections) end)) (stays_lost w at.first config run fit_u slot (record { lost = gone; unfreed = unfreed }))))
    ]

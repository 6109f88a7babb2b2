-- Orange members and their outside counts, over the moves of a run.
use Rattle.std.proofs.Common.{◌≡◌, ◌⊎◌, inl, inr, ℕ, ◌+◌, ◌/◌, ◌%◌, ◌<◌, ◌≤◌, Bool, true, false, cond, Option, None, Some, IfSome, List, [], ◌∷◌, ◌++◌, map, slice_index_or, refl, sym, ap, subst, ◌∙◌, arith, append_assoc}
use Rattle.std.specs.List.{concat}
use Rattle.std.proofs.Math.Nat.{div-add-mod, mul_comm}
use Rattle.std.proofs.lemmas.List.{append-nil, map-append}
use Rattle.std.proofs.lemmas.Nat.{div-mul-add, mod-mul-add}
use Rattle.rec_word.specs.declared.op.Op.TheVariants as ops
use Rattle.rec_counts.specs.Counts.{IsKept as IsKeptCounts}
use Rattle.rec_release.specs.CycleFree.{op_at as freeing_op_at, next_of as freeing_next}
use Rattle.rec_release.specs.Release.{op_at as release_op_at, next_of as release_next}
use Rattle.rec_release.specs.Sweep.{op_at as sweep_op_at, next_of as sweep_next}
use Rattle.rec_release.specs.declared.at.At as releases
use Rattle.rec_sigma.specs.declared.at.At.{At}
use Rattle.rec_sigma.specs.Prepare as preps
use Rattle.rec_sigma.proofs.Cyclics.{seen-nil}
use Rattle.rec_sigma.proofs.Runs.{Came, came_first, came_on, started_is}
use Rattle.rec_trial.specs.Trial as trials
use Rattle.rec_collector.specs.Given.{IsGiven, IsPreparingIn, IsTryingIn}
use Rattle.rec_collector.specs.Next.{next_of, next_at, is_spent}
use Rattle.rec_collector.specs.Outside.{HasSets, IsOutside}
use Rattle.rec_collector.specs.Private as collectors
use Rattle.rec_collector.specs.Touched.{IsOrangeIn, named_by, tried_at, WasUntouched}
use Rattle.rec_collector.proofs.Touched.{begins_on, has_on, loads_on, LoadsOn, outside_later, untouched, untouched_on, untouched_same}
use Rattle.rec_core.specs.Freed.{Passes}
use Rattle.rec_core.specs.Loads.{BeginsPreparing, fields_loaded, load_of, Loaded, loaded_by, loaded_in, loaded_over, named_by_op, named_in, named_over, tried_in}
use Rattle.rec_core.specs.Run.{Step, steps_of}
use Rattle.rec_core.proofs.CyclesTest.{none_of}
use Rattle.rec_core.proofs.Landed.{HasLanded}
use Rattle.rec_core.proofs.Trials.{BeginsNoTrial, tried_of}
use Rattle.rec_core.proofs.Preparing.{loads_due}
use Rattle.rec_core.proofs.Runs.{given_is, move_kept, move_stays, moves_kept}
use Rattle.rec_core.proofs.Turning.{turn_case, parts_of_turn}
use Rattle.std.proofs.lemmas.List.Sums.{sum_by-cons}
use Rattle.rec_core.proofs.Common.{place_of, places_of, Op, State, slot_at, one, times, is_in, Slot, one-same, set_there, Member, members_of, Load, place_loaded, PreparedTo, loaded_at, places_left, seen, sets_begun, prep_started, new_prep, parts_of, step_of, Phase, Idle, Releasing, Freeing, Trying, Preparing, Sweeping, still, cell, Core, cells_of, box, IsKept, AllFit, Fits, Move, after_move, after_moves, looked_at, turned, turned_at, turned_by, Config, visible}
use Rattle.rec_core.proofs.Trying.{loads_child, trying_lands}
use Rattle.rec_core.proofs.Turns.{now_at}

-- a turn with an operation, up to the next trial
module _ (w : Core) (op : Op) (kept : IsKept true w) (later : IsKept true (turned_by w op (cell (cells_of w) op))) (named : ◌≡◌ {A = Option Op} (next_of w.collector) (Some op)) where
  open w use {collector as c}
  open (parts_of_turn w op) use {found, its_box, v}

  its_given : IsGiven c found
  its_given = given_is w op kept named

  same_trial : tried_in v ≡ tried_in w → tried_at v.collector.epoch v.collector.phase ≡ tried_at c.epoch c.phase
  same_trial same = tried_of v later ∙ same ∙ sym (tried_of w kept)

  op_untouched : (number x : ℕ) → HasSets c.phase → tried_in v ≡ tried_in w → IsOrangeIn v.collector.counts number x → WasUntouched c.counts v.collector.counts number x (named_by c found x)
  op_untouched number x has same o = untouched c found its_box number x kept.collector.machine kept.collector.between its_given has (same_trial same) o

  op_has : HasSets c.phase → tried_in v ≡ tried_in w → HasSets v.collector.phase
  op_has has same = has_on c found its_box kept.collector.machine kept.collector.between its_given has (same_trial same)

-- each turn
turn_untouched : (w : Core) (number x : ℕ) → IsKept true w → IsKept true (turned w) → HasSets w.collector.phase → tried_in (turned w) ≡ tried_in w → IsOrangeIn (turned w).collector.counts number x → WasUntouched w.collector.counts (turned w).collector.counts number x (named_by_op w (next_of w.collector) x)
turn_untouched w number x kept later has same o =
    turn_case w (λ y v. IsKept true v → tried_in v ≡ tried_in w → IsOrangeIn v.collector.counts number x → WasUntouched w.collector.counts v.collector.counts number x (named_by_op w y x)) (λ none later same o. untouched_same o)
    (λ op named later same o. op_untouched w op kept later named number x has same o) later same o

turn_has : (w : Core) → IsKept true w → IsKept true (turned w) → HasSets w.collector.phase → tried_in (turned w) ≡ tried_in w → HasSets (turned w).collector.phase
turn_has w kept later has same = turn_case w (λ o v. IsKept true v → tried_in v ≡ tried_in w → HasSets v.collector.phase) (λ none later same. has) (λ op named later same. op_has w op kept later named has same) later same

-- each move
move_untouched : (w : Core) (m : Move) (number x : ℕ) → IsKept true w → Fits w m → HasSets w.collector.phase → tried_in (after_move w m) ≡ tried_in w → IsOrangeIn (after_move w m).collector.counts number x → WasUntouched w.collector.counts (after_move w m).collector.counts number x (named_in w m x)
move_untouched w Move.Turns number x kept fits has same o = turn_untouched w number x kept (move_kept w Move.Turns kept fits) has same o
move_untouched w _ number x kept fits has same o = untouched_same o

move_has : (w : Core) (m : Move) → IsKept true w → Fits w m → HasSets w.collector.phase → tried_in (after_move w m) ≡ tried_in w → HasSets (after_move w m).collector.phase
move_has w Move.Turns kept fits has same = turn_has w kept (move_kept w Move.Turns kept fits) has same
move_has w _ kept fits has same = has

-- all moves
pub all_untouched : (w : Core) (ms : List Move) (number x : ℕ) → IsKept true w → HasSets w.collector.phase → AllFit w ms → BeginsNoTrial w ms → IsOrangeIn (after_moves w ms).collector.counts number x → WasUntouched w.collector.counts (after_moves w ms).collector.counts number x (named_over w ms x)
all_untouched w [] number x kept has fit within o = untouched_same o
all_untouched w (m ∷ ms) number x kept has fit within o =
    let rest = all_untouched (after_move w m) ms number x (move_kept w m kept fit.0) (move_has w m kept fit.0 has within.0) fit.1 within.1 o in
    let named : Step → ℕ = λ s. named_in s.before s.move x in
    untouched_on (named_over w (m ∷ ms) x) (move_untouched w m number x kept fit.0 has within.0 rest.orange) rest (sum_by-cons named (record { before = w; move = m }) (steps_of (after_move w m) ms))

-- what the run has loaded since the preparation of these sets began: the preparation goes on, or is done
data Stage (fields : ℕ) (before : State) (w : Core) (loads : List Load) : Type 0 where
  loading : (m : preps.Machine) → w.collector.phase ≡ Preparing m → Came fields before (record { machine = m; counts = w.collector.counts }) loads → Stage fields before w loads
  done : HasSets w.collector.phase → map (place_loaded fields) loads ≡ places_of fields (concat before.sets)
      → ((number x : ℕ) → IsOrangeIn w.collector.counts number x → IsOutside before w.collector.counts loads number x) → Stage fields before w loads

-- where sets wait or are tested, no field is loaded
loads_none : (c : collectors.Private) (place : ℕ) (phase : Phase) → HasSets phase → ◌≡◌ {A = Option Op} (next_at c phase) (Some (ops.LoadChild place)) → ⊥
unfolding next_at release_next freeing_next sweep_next
loads_none c place Idle has named = go (is_spent c) named
  where
    go : (b : Bool) → ◌≡◌ {A = Option Op} (cond b None (Some (ops.StoreEpoch (c.epoch + 1)))) (Some (ops.LoadChild place)) → ⊥
    go true named = cc
    go false named = cc
loads_none c place (Releasing m) has named = go m.at named
  where
    go : (x : Option releases.At) → ◌≡◌ {A = Option Op} (release_op_at m.fields x) (Some (ops.LoadChild place)) → ⊥
    go None named = cc
    go (Some a) named = cc
loads_none c place (Freeing m) has named = go m.at named
  where
    go : (x : Option Member) → ◌≡◌ {A = Option Op} (freeing_op_at m.fields x) (Some (ops.LoadChild place)) → ⊥
    go None named = cc
    go (Some a) named = cc
loads_none c place (Trying m) has named = has
loads_none c place (Preparing m) has named = has
loads_none c place (Sweeping due n) has named = go due named
  where
    go : (x : Option ℕ) → ◌≡◌ {A = Option Op} (sweep_op_at x) (Some (ops.LoadChild place)) → ⊥
    go None named = cc
    go (Some a) named = cc
loads_none c place _ has named = cc

loaded_none : (w : Core) (x : Option Op) → ((place : ℕ) → ◌≡◌ {A = Option Op} x (Some (ops.LoadChild place)) → ⊥) → loaded_by w x ≡ []
loaded_none w None n = refl
loaded_none w (Some (ops.LoadChild place)) n = absurd (n place refl)
loaded_none w (Some _) n = refl

none_loaded : (w : Core) → HasSets w.collector.phase → loaded_in w Move.Turns ≡ []
unfolding next_of
none_loaded w has = loaded_none w (next_of w.collector) (λ place named. loads_none w.collector place w.collector.phase has named)

-- a preparation that is done leaves each member its outside count
done_members : (fields : ℕ) (before s : State) (loads : List Load) → IsKeptCounts before → PreparedTo fields before None s loads → (number x : ℕ) → IsOrangeIn s number x → IsOutside before s loads number x
done_members fields before s loads k p number x o =
    let was : (slot_at before x).set ≡ Some number = ap (λ (v : Slot). v.set) (sym (p.others.slots x)) ∙ o.0 in
    let same : (slot_at s x).count ≡ (slot_at before x).count = ap (λ (v : Slot). v.count) (p.others.slots x) in
    record { member = was; fewer = omega (arith, same); cyclic = omega (arith, p.members number x (set_there before number x k was) was, same) }

-- a preparation that took in a word goes on, or is done
stage_of : (fields : ℕ) (before : State) (v : Core) (loads : List Load) (u : preps.Work) → IsKeptCounts before → LoadsOn u v.collector → Came fields before u loads → Stage fields before v loads
stage_of fields before v loads u k on came = go on.goes
  where
    here : Came fields before (record { machine = u.machine; counts = v.collector.counts }) loads
    here = subst (λ s. Came fields before (record { machine = u.machine; counts = s }) loads) (sym on.counts) came

    go : (v.collector.phase ≡ Preparing u.machine) ⊎ (HasSets v.collector.phase × (u.machine.at ≡ None)) → Stage fields before v loads
    go (inl at) = Stage.loading u.machine at here
    go (inr (has, over)) =
        let p : PreparedTo fields before None v.collector.counts loads = subst (λ (a : Option At). PreparedTo fields before a v.collector.counts loads) over here.law in
        Stage.done has (sym (append-nil (map (place_loaded fields) loads)) ∙ p.places) (done_members fields before v.collector.counts loads k p)

-- a word more is loaded
load_same : (w : Core) (op : Op) (a : At) (fields : ℕ) → op ≡ ops.LoadChild (place_of a.member.slot a.member.field fields) → a.member.field < fields → loaded_at (Some a) (cell (cells_of w) op) ≡ fields_loaded fields (loaded_by w (Some op))
load_same w op a fields its below =
    let place : ℕ = place_of a.member.slot a.member.field fields in
    let word : ℕ = slice_index_or w.words place 0 in
    let of : ℕ → ℕ → List Load = λ slot field. record { slot = slot; field = field; word = word } ∷ [] in
    ap (λ o. loaded_at (Some a) (cell (cells_of w) o)) its
    ∙ (ap (λ n. of n a.member.field) (sym (div-mul-add a.member.slot fields a.member.field below)) ∙ ap (of (place / fields)) (sym (mod-mul-add a.member.slot fields a.member.field below)))
    ∙ ap (λ o. fields_loaded fields (loaded_by w (Some o))) (sym its)

-- a turn
module _ (w : Core) (before : State) (loads : List Load) (tells : IsKeptCounts before) (kept : IsKept true w) (later : IsKept true (turned w)) (same : tried_in (turned w) ≡ tried_in w) where
  open w use {config.{fields}}

  abbrev more : List Load
  more = loads ++ fields_loaded fields (loaded_in w Move.Turns)

  done_on : HasSets w.collector.phase → map (place_loaded fields) loads ≡ places_of fields (concat before.sets) → ((number x : ℕ) → IsOrangeIn w.collector.counts number x → IsOutside before w.collector.counts loads number x) → Stage fields before (turned w) more
  done_on has places members =
      let none : more ≡ loads = ap (λ ls. loads ++ fields_loaded fields ls) (none_loaded w has) ∙ append-nil loads in
      subst (Stage fields before (turned w)) (sym none)
      (Stage.done (turn_has w kept later has same) places (λ number x o. let u = turn_untouched w number x kept later has same o in outside_later (members number x u.orange) u))

  loading_on : (m : preps.Machine) → w.collector.phase ≡ Preparing m → Came fields before (record { machine = m; counts = w.collector.counts }) loads → Stage fields before (turned w) more
  unfolding next_of next_at
  loading_on m at came = turn_case w (λ y v. Stage fields before v (loads ++ fields_loaded fields (loaded_by w y))) (λ none. subst (Stage fields before w) (sym (append-nil loads)) (Stage.loading m at came)) (λ op named.
      let c : collectors.Private = w.collector in
      let word : ℕ = cell (cells_of w) op in
      let u : preps.Work = preps.took_of (record { machine = m; counts = c.counts }) word in
      let on : LoadsOn u (step_of c word (box w (looked_at c.phase))) = loads_on c m word (box w (looked_at c.phase)) kept.collector.machine kept.collector.between (given_is w op kept named) at in
      let (a, due, its) = loads_due m op (ap (next_at c) (sym at) ∙ named) in
      let its_fields : m.fields ≡ fields = came.fields_kept in
      let below : a.member.field < fields = subst (λ n. a.member.field < n) its_fields (subst (λ (o : Option At). IfSome o (λ (b : At). b.member.field < m.fields)) due (now_at w (Preparing m) kept at).kept.field) in
      let further : List Load = loads ++ loaded_at m.at word in
      let whole : further ≡ loads ++ fields_loaded fields (loaded_by w (Some op)) = ap (λ o. loads ++ loaded_at o word) due ∙ ap (λ ls. loads ++ ls) (load_same w op a fields (its ∙ ap (λ n. ops.LoadChild (place_of a.member.slot a.member.field n)) its_fields) below) in
      let took : Came fields before u further = came_on fields before (record { machine = m; counts = c.counts }) loads word tells.numbers came in
      subst (Stage fields before (turned_by w op word)) whole (stage_of fields before (turned_by w op word) further u tells on took))

  turn_stage : Stage fields before w loads → Stage fields before (turned w) more
  turn_stage (Stage.loading m at came) = loading_on m at came
  turn_stage (Stage.done has places members) = done_on has places members

-- where nothing is loaded
still_stage : (fields : ℕ) (before : State) (v : Core) (loads : List Load) → Stage fields before v loads → Stage fields before v (loads ++ [])
still_stage fields before v loads s = subst (Stage fields before v) (sym (append-nil loads)) s

-- only what a stage says of the collector counts
alike_stage : {fields : ℕ} {before : State} {w v : Core} {loads : List Load} → v.collector.phase ≡ w.collector.phase → v.collector.counts ≡ w.collector.counts → Stage fields before w loads → Stage fields before v loads
alike_stage {fields} {before} {w} {v} {loads} phase counts (Stage.loading m at came) =
    Stage.loading m (phase ∙ at) (subst (λ s. Came fields before (record { machine = m; counts = s }) loads) (sym counts) came)
alike_stage {fields} {before} {w} {v} {loads} phase counts (Stage.done has places members) =
    Stage.done (subst HasSets (sym phase) has) places (subst (λ s. (number x : ℕ) → IsOrangeIn s number x → IsOutside before s loads number x) (sym counts) members)

move_stage : (w : Core) (m : Move) (before : State) (loads : List Load) → IsKeptCounts before → IsKept true w → Fits w m → tried_in (after_move w m) ≡ tried_in w → Stage w.config.fields before w loads → Stage w.config.fields before (after_move w m) (loads ++ fields_loaded w.config.fields (loaded_in w m))
move_stage w Move.Turns before loads tells kept fits same s = turn_stage w before loads tells kept (move_kept w Move.Turns kept fits) same s
move_stage w m before loads tells kept fits same s = still_stage w.config.fields before (after_move w m) loads (alike_stage refl refl s)

-- all moves
moves_stage : (w : Core) (ms : List Move) (before : State) (loads : List Load) → IsKeptCounts before → IsKept true w → AllFit w ms → BeginsNoTrial w ms → Stage w.config.fields before w loads → Stage w.config.fields before (after_moves w ms) (loads ++ fields_loaded w.config.fields (loaded_over w ms))
moves_stage w [] before loads tells kept fit within s = still_stage w.config.fields before w loads s
moves_stage w (m ∷ ms) before loads tells kept fit within s =
    let v : Core = after_move w m in
    let fields : ℕ = w.config.fields in
    let same : v.config.fields ≡ fields = ap (λ (c : Config). c.fields) (move_stays w m) in
    let first : List Load = fields_loaded fields (loaded_in w m) in
    let rest : List Load = fields_loaded fields (loaded_over v ms) in
    let one : Stage fields before v (loads ++ first) = move_stage w m before loads tells kept fit.0 within.0 s in
    let on : Stage fields before (after_moves v ms) ((loads ++ first) ++ rest)
    = subst (λ n. Stage n before (after_moves v ms) ((loads ++ first) ++ fields_loaded n (loaded_over v ms))) same
    (moves_stage v ms before (loads ++ first) tells (move_kept w m kept fit.0) fit.1 within.1 (subst (λ n. Stage n before v (loads ++ first)) (sym same) one)) in
    let joined : (loads ++ first) ++ rest ≡ loads ++ fields_loaded fields (loaded_in w m ++ loaded_over v ms)
    = append_assoc loads first rest ∙ ap (λ ls. loads ++ ls) (sym (map-append (λ (l : Loaded). load_of fields l) (loaded_in w m) (loaded_over v ms))) in
    subst (Stage fields before (after_moves v ms)) joined on

-- the preparation of sets begins: nothing is loaded yet, and the counts are those of its beginning
renewed : (fields : ℕ) (b s : State) (at : Option At) → PreparedTo fields b at s [] → PreparedTo fields s at s []
renewed fields b s at p = record {
  places = subst (λ sets. places_left fields sets at ≡ places_of fields (concat sets)) (sym p.others.sets) p.places;
  members = λ number x l is.
      let was : (slot_at b x).set ≡ Some number = ap (λ (v : Slot). v.set) (sym (p.others.slots x)) ∙ is in
      let count : (slot_at s x).count ≡ (slot_at b x).count = ap (λ (v : Slot). v.count) (p.others.slots x) in
      omega (arith, p.members number x (subst (λ sets. number < sets_begun sets at) p.others.sets l) was, seen-nil b number x, seen-nil s number x, count);
  later = λ number x l is. refl;
  unset = λ x is. refl;
  unseen = λ number x l. seen-nil s number x;
  others = record { slots = λ x. refl; many = refl; roots = refl; sets = refl; marked = refl; work = refl; zeros = refl; free = refl };
}

-- the machine that is at work
trying_in : (phase : Phase) → IsTryingIn phase → (m : trials.Machine) × (phase ≡ Trying m)
trying_in (Trying m) is = (m, refl)
trying_in _ is = absurd is

preparing_in : (phase : Phase) → IsPreparingIn phase → (m : preps.Machine) × (phase ≡ Preparing m)
preparing_in (Preparing m) is = (m, refl)
preparing_in _ is = absurd is

begun_stage : (w : Core) → IsKept true w → IsKept true (turned w) → BeginsPreparing w → Stage w.config.fields (turned w).collector.counts (turned w) []
unfolding next_of next_at
begun_stage w kept later begins =
    let (m, at) = trying_in w.collector.phase begins.0 in
    let (prep, next) = preparing_in (turned w).collector.phase begins.1 in
    go m prep at (next_of w.collector) refl later next
  where
    go : (m : trials.Machine) (prep : preps.Machine) → w.collector.phase ≡ Trying m → (y : Option Op) → next_of w.collector ≡ y → IsKept true (turned_at w y) → (turned_at w y).collector.phase ≡ Preparing prep → Stage w.config.fields (turned_at w y).collector.counts (turned_at w y) []
    go m prep at None none later next = let e : Trying m ≡ Preparing prep = sym at ∙ next in absurd (cc)
    go m prep at (Some op) named later next =
        let c : collectors.Private = w.collector in
        let word : ℕ = cell (cells_of w) op in
        let fields : ℕ = w.config.fields in
        let tried : ℕ → State = λ n. (trials.took_of (record { machine = m; counts = c.counts }) (visible c.counts n)).counts in
        let s : State = tried word in
        let u : preps.Work = prep_started (record (parts_of c) { counts = s }) in
        let q : collectors.Private = step_of c word (box w (looked_at c.phase)) in
        let on : LoadsOn u q = begins_on c m prep word (box w (looked_at c.phase)) kept.collector.machine kept.collector.between (given_is w op kept named) at next in
        let (place, its) = loads_child m op (sym (ap (next_at c) (sym at) ∙ named)) in
        let lands : HasLanded w w.crossing w.words (still (record (parts_of c) { counts = tried (slice_index_or w.words place 0) })) = trying_lands w m kept at place (ap (next_at c) (sym at) ∙ named ∙ ap (λ o. Some o) its) in
        let counts : IsKeptCounts s = subst (λ o. IsKeptCounts (tried (cell (cells_of w) o))) (sym its) lands.counts in
        let wide : c.fields ≡ fields = kept.collector.fields in
        let first : Came c.fields s (preps.work_of c.fields (preps.next_set s 0)) [] = came_first c.fields s (subst (λ n. 0 < n) (sym wide) kept.config.some_fields) counts.numbers in
        let begun : Came fields s u [] = subst (λ n. Came n s u []) wide (subst (λ (v : preps.Work). Came c.fields s v []) (sym (started_is (new_prep c.fields) s)) first) in
        let law : PreparedTo fields q.counts u.machine.at u.counts [] = subst (λ t. PreparedTo fields t u.machine.at u.counts []) (sym on.counts) (renewed fields s u.counts u.machine.at begun.law) in
        stage_of fields q.counts (turned_by w op word) [] u later.collector.machine.counts on (record { fields_kept = begun.fields_kept; work = begun.work; law = law })

-- so it is of the moves since a preparation began
since_begun : (w : Core) (ms : List Move) → IsKept true w → BeginsPreparing w → AllFit (turned w) ms → BeginsNoTrial (turned w) ms → Stage w.config.fields (turned w).collector.counts (after_moves (turned w) ms) (fields_loaded w.config.fields (loaded_over (turned w) ms))
since_begun w ms kept begins fit within =
    let later : IsKept true (turned w) = move_kept w Move.Turns kept tt in
    let same : (turned w).config.fields ≡ w.config.fields = ap (λ (c : Config). c.fields) (move_stays w Move.Turns) in
    subst (λ n. Stage n (turned w).collector.counts (after_moves (turned w) ms) (fields_loaded n (loaded_over (turned w) ms))) same
    (moves_stage (turned w) ms (turned w).collector.counts [] later.collector.machine.counts later fit within (subst (λ n. Stage n (turned w).collector.counts (turned w) []) (sym same) (begun_stage w kept later begins)))

-- the place of what was loaded
load_place : (fields : ℕ) (loads : List Loaded) → map (place_loaded fields) (fields_loaded fields loads) ≡ map (λ (l : Loaded). l.place) loads
load_place n [] = refl
load_place n (l ∷ loads) =
    let at : place_of (l.place / n) (l.place % n) n ≡ l.place = ap (λ k. k + l.place % n) (mul_comm (l.place / n) n) ∙ div-add-mod l.place n in
    ap (λ k. k ∷ map (place_loaded n) (fields_loaded n loads)) at ∙ ap (λ ks. l.place ∷ ks) (load_place n loads)

module _ (w : Core) (ms : List Move) (kept : IsKept true w) (begins : BeginsPreparing w) (fit : AllFit (turned w) ms) (within : BeginsNoTrial (turned w) ms) (has : HasSets (after_moves (turned w) ms).collector.phase) where
  abbrev end : Core
  end = after_moves (turned w) ms

  abbrev all : List Load
  all = fields_loaded w.config.fields (loaded_over (turned w) ms)

  pub run_places : map (λ (l : Loaded). l.place) (loaded_over (turned w) ms) ≡ places_of w.config.fields (concat (turned w).collector.counts.sets)
  run_places = go (since_begun w ms kept begins fit within)
    where
      go : Stage w.config.fields (turned w).collector.counts end all → map (λ (l : Loaded). l.place) (loaded_over (turned w) ms) ≡ places_of w.config.fields (concat (turned w).collector.counts.sets)
      go (Stage.loading m at came) = absurd (subst HasSets at has)
      go (Stage.done has places members) = sym (load_place w.config.fields (loaded_over (turned w) ms)) ∙ places

  pub run_outside : (number x : ℕ) → IsOrangeIn end.collector.counts number x → IsOutside (turned w).collector.counts end.collector.counts all number x
  run_outside number x o = go (since_begun w ms kept begins fit within)
    where
      go : Stage w.config.fields (turned w).collector.counts end all → IsOutside (turned w).collector.counts end.collector.counts all number x
      go (Stage.loading m at came) = absurd (subst HasSets at has)
      go (Stage.done has places members) = members number x o

  -- a set that passes both tests has no more references than words that lead to its members from within
  pub run_passed : (number x : ℕ) → Passes end number → (slot_at end.collector.counts x).set ≡ Some number → (slot_at end.collector.counts x).count ≤ seen (turned w).collector.counts number all x
  run_passed number x p is =
      let s : State = end.collector.counts in
      let later : IsKept true end = moves_kept (turned w) ms (move_kept w Move.Turns kept tt) fit in
      let there : 0 < times x (members_of s number) = omega (arith, later.collector.machine.counts.numbers number x, ap (λ o. one (is_in number o)) is, one-same number) in
      let i = run_outside number x (is, p.orange x there) in
      let none : (slot_at s x).cyclic ≡ 0 = none_of (λ y. (slot_at s y).cyclic) (members_of s number) x there p.none in
      omega (arith, i.fewer, i.cyclic, none)

-- The run of a script is one, and so is its settling: each turn makes just one heap of the heap before it.
use Rattle.std.proofs.Common.{◌≡◌, ◌⊎◌, inl, inr, ℕ, ◌+◌, true, false, Option, Some, List, [], ◌∷◌, ◌++◌, length, refl, sym, ap, subst, ◌∙◌, arith}
use Rattle.std.specs.List.{slice_get}
use Rattle.std.proofs.lemmas.Bool.{false≢true}
use Rattle.std.proofs.lemmas.List.{length_push, same_from_push}
use Rattle.rec_word.specs.Mailbox.{crossing_word}
use Rattle.rec_word.specs.declared.mailbox.Mailbox.TheVariants.{Retired}
use Rattle.rec_model.specs.declared.command.Cmd.{Cmd}
use Rattle.rec_model.specs.LegalOrder.{Event}
use Rattle.rec_model.specs.Numbering.{times}
use Rattle.rec_model.specs.declared.told.Told.{Told}
use Rattle.rec_mutator.specs.Private.{is_busy}
use Rattle.rec_mutator.specs.declared.work.Work.{Work}
use Rattle.rec_mutator.specs.declared.work.Work.TheVariants as works
use Rattle.rec_collector.specs.declared.phase.Phase.{Phase}
use Rattle.rec_collector.specs.declared.phase.Phase.TheVariants.{Idle, Looking, Returning, Releasing, Freeing, Trying, Preparing, Opening, Sweeping, Closing}
use Rattle.rec_collector.specs.declared.turn.Turn.TheVariants as answers
use Rattle.rec_core.specs.Core.{Core, mutator, crossing_of}
use Rattle.rec_core.specs.Kept.{IsKept}
use Rattle.rec_core.specs.Moves.{begun, offering, stepped, turned}
use Rattle.rec_settle.specs.Quiet.{AreQuiet}
use Rattle.rec_core.specs.Worked.{AreIdle, IsWorked, StepsTo, WaitsFor}
use Rattle.rec_core.proofs.BareRuns.{offering_kept}
use Rattle.rec_settle.proofs.Rest.QuietTurns.{quiet_begun}
use Rattle.rec_settle.proofs.Rest.BareRest.{turn_is}
use Rattle.rec_core.proofs.TurnCases.{Awaits, TurnCase}
use Rattle.rec_order.specs.Naming.{Naming}
use Rattle.rec_core.specs.Turn.{TurnHasCause}
use Rattle.rec_script.specs.Script.{ScriptContents}
use Rattle.rec_settle.specs.Collecting.{Finishes, HasPolled, IsAmid, IsAwaited, IsCollection, IsSettling}
use Rattle.rec_settle.proofs.Amid.{quiet_after, quiet_amid}
use Rattle.rec_settle.proofs.Settles.{offering_quiet, one, two}
use Rattle.rec_play.specs.declared.actor.Actor.{Actor}
use Rattle.rec_play.specs.declared.actor.Actor.TheVariants.{Mutator, Collector}
use Rattle.rec_play.specs.Playing.{mutators_of}
use Rattle.rec_play.specs.Run.{EndsTurn, IsPlayedRun, IsTurnOf, commands_of, made_in}
use Rattle.rec_play.proofs.Going.{turns_are_lines}
use Rattle.rec_play.proofs.Rounds.{acts_named}

-- the heaps to which steps lead
data Path (R : Core → Core → Type 0) (start : Core) : Core → Type 0 where
  here : (w : Core) → w ≡ start → Path R start w
  further : (w v : Core) → Path R start w → R w v → Path R start v

-- a path is empty, or begins with a step
begins : (R : Core → Core → Type 0) (start w : Core) → Path R start w → (w ≡ start) ⊎ ((x : Core) × R start x × Path R x w)
begins R start w (Path.here _ is) = inl is
begins R start w (Path.further u _ path step) = begins_then (begins R start u path)
  where
    begins_then : (u ≡ start) ⊎ ((x : Core) × R start x × Path R x u) → (w ≡ start) ⊎ ((x : Core) × R start x × Path R x w)
    begins_then (inl same) = inr (w, subst (λ x. R x w) same step, Path.here w refl)
    begins_then (inr (x, first, later)) = inr (x, first, Path.further u w later step)

-- Steps that each lead to just one heap,
module _ (R : Core → Core → Type 0) (once : (w v u : Core) → R w v → R w u → v ≡ u) where
  -- lead over the end of one path to that of the other,
  ordered : (start v u : Core) → Path R start v → Path R start u → Path R v u ⊎ Path R u v
  ordered start v u p (Path.here _ is) = inr (subst (λ x. Path R x v) (sym is) p)
  ordered start v u p (Path.further x _ path step) = go (ordered start v x p path)
    where
      after : (v ≡ x) ⊎ ((y : Core) × R x y × Path R y v) → Path R v u ⊎ Path R u v
      after (inl same) = inl (Path.further x u (Path.here x (sym same)) step)
      after (inr (y, first, later)) = inr (subst (λ z. Path R z v) (once x y u first step) later)

      go : Path R v x ⊎ Path R x v → Path R v u ⊎ Path R u v
      go (inl on) = inl (Path.further x u on step)
      go (inr on) = after (begins R x v on)

  -- and so to just one from which none goes on.
  end_once : (start v u : Core) → ((x : Core) → R v x → ⊥) → ((x : Core) → R u x → ⊥) → Path R start v → Path R start u → v ≡ u
  end_once start v u end end' p q = go (ordered start v u p q)
    where
      none : (w x : Core) → ((y : Core) → R w y → ⊥) → (x ≡ w) ⊎ ((y : Core) × R w y × Path R y x) → x ≡ w
      none w x stops (inl same) = same
      none w x stops (inr (y, first, later)) = absurd (stops y first)

      go : Path R v u ⊎ Path R u v → v ≡ u
      go (inl on) = sym (none v u end (begins R v u on))
      go (inr on) = none u v end' (begins R u v on)

-- a step of a mutator that is busy
abbrev Steps : ℕ → Core → Core → Type 0
Steps t w v = (is_busy (mutator w t) ≡ true) × (v ≡ stepped w t)

steps_path : (t : ℕ) (w v : Core) → StepsTo w t v → Path (Steps t) w v
steps_path t w v (StepsTo.here _ is) = Path.here v is
steps_path t w v (StepsTo.further u _ path busy is) = Path.further u v (steps_path t w u path) (busy, is)

-- A work that is made to its end leaves one state.
worked_once : (before : Core) (t : ℕ) (work : Work) (v u : Core) → IsWorked before t work v → IsWorked before t work u → v ≡ u
worked_once before t work v u a b = end_once (Steps t) (λ w x y p q. p.1 ∙ sym q.1) (begun before t work) v u (stop v a.idle) (stop u b.idle) (path v a) (path u b)
  where
    path : (x : Core) (done : IsWorked before t work x) → Path (Steps t) (begun before t work) x
    path x done = Path.further done.last x (steps_path t (begun before t work) done.last done.path) (done.busy, done.steps)

    stop : (x : Core) → is_busy (mutator x t) ≡ false → (y : Core) → Steps t x y → ⊥
    stop x idle y step = false≢true (sym idle ∙ step.0)

-- the collector waits for one mutator
waits_once : (w : Core) (t s : ℕ) → WaitsFor w t → WaitsFor w s → t ≡ s
waits_once w t s a b = let looks : ◌≡◌ {A = Phase} (Looking t) (Looking s) = sym a.looks ∙ b.looks in cc

-- a mutator's turn leaves one heap
turn_once : (script : ScriptContents) (e f : List Event) (t : ℕ) (cmd cmd' : Cmd) (told told' : Told) (before v u : Core) → made_in e t ≡ made_in f t → IsTurnOf script e t cmd told before v → IsTurnOf script f t cmd' told' before u → v ≡ u
turn_once script e f t cmd cmd' told told' before v u made a b =
    let next : ◌≡◌ {A = Option Cmd} (Some cmd) (Some cmd') = sym a.next ∙ ap (slice_get (commands_of script t)) made ∙ b.next in
    let same : cmd ≡ cmd' = cc in
    let polled : a.polled ≡ b.polled = worked_once before t works.Poll a.polled b.polled a.poll b.poll in
    worked_once b.polled t (works.Command cmd') v u (subst (λ (c : Cmd). IsWorked b.polled t (works.Command c) v) same (subst (λ (x : Core). IsWorked x t (works.Command cmd) v) polled a.command)) b.command

-- and so does the collector's
ends_once : (script : ScriptContents) (e f : ℕ → ℕ) (before mid v u : Core) → ((t : ℕ) → e t ≡ f t) → EndsTurn script e before mid v → EndsTurn script f before mid u → v ≡ u
ends_once script e f before mid v u same (EndsTurn.polls t waits spent poll) (EndsTurn.polls s waits' spent' poll') =
    worked_once mid t works.Poll v u poll (subst (λ n. IsWorked mid n works.Poll u) (waits_once before s t waits' waits) poll')
ends_once script e f before mid v u same (EndsTurn.polls t waits spent poll) (EndsTurn.rests left is) = absurd (omega (arith, spent, same t, left t waits))
ends_once script e f before mid v u same (EndsTurn.rests left is) (EndsTurn.polls t waits spent poll) = absurd (omega (arith, spent, same t, left t waits))
ends_once script e f before mid v u same (EndsTurn.rests left is) (EndsTurn.rests left' is') = is ∙ sym is'

-- a list that ends is not empty
no_push : (xs : List Actor) (a : Actor) → [] ≡ xs ++ a ∷ [] → ⊥
no_push xs a is = omega (arith, ap length is, length_push xs a)

-- a mutator has made as many commands as it had turns
made_named : (script : ScriptContents) (first : Core) (names : Naming) (acted : List Actor) (events : List Event) (n : Naming) (w : Core) → IsPlayedRun script first names acted events n w → (t : ℕ) → made_in events t ≡ times t (mutators_of acted)
made_named script first names acted events n w run t = sym (turns_are_lines t events) ∙ ap (times t) (acts_named script first names acted events n w run)

-- The same turns, from the same heap on, come to the same heap, whichever objects its slots hold.
same_run : (script : ScriptContents) (start : Core) (a b : Naming) (xs ys : List Actor) (e f : List Event) (n k : Naming) (v u : Core) → xs ≡ ys → IsPlayedRun script start a xs e n v → IsPlayedRun script start b ys f k u → v ≡ u
same_run script start a b _ _ _ _ _ _ _ _ same IsPlayedRun.starts IsPlayedRun.starts = refl
same_run script start a b _ _ _ _ _ _ _ _ same IsPlayedRun.starts (IsPlayedRun.turn ys f m k before u s cmd told run is names) = absurd (no_push ys (Mutator s) same)
same_run script start a b _ _ _ _ _ _ _ _ same IsPlayedRun.starts (IsPlayedRun.collects ys f k before u run ends) = absurd (no_push ys Collector same)
same_run script start a b _ _ _ _ _ _ _ _ same (IsPlayedRun.turn xs e m n before v t cmd told run is names) IsPlayedRun.starts = absurd (no_push xs (Mutator t) (sym same))
same_run script start a b _ _ _ _ _ _ _ _ same (IsPlayedRun.collects xs e n before v run ends) IsPlayedRun.starts = absurd (no_push xs Collector (sym same))
same_run script start a b _ _ _ _ _ _ _ _ same (IsPlayedRun.turn xs e m n before v t cmd told run is names) (IsPlayedRun.collects ys f k before' u run' ends) =
    let (first, last) = same_from_push xs ys (Mutator t) Collector same in cc
same_run script start a b _ _ _ _ _ _ _ _ same (IsPlayedRun.collects xs e n before v run ends) (IsPlayedRun.turn ys f m k before' u s cmd told run' is names) =
    let (first, last) = same_from_push xs ys Collector (Mutator s) same in cc
same_run script start a b _ _ _ _ _ _ _ _ same (IsPlayedRun.turn xs e m n before v t cmd told run is names) (IsPlayedRun.turn ys f l k before' u s cmd' told' run' is' names') =
    let (first, last) = same_from_push xs ys (Mutator t) (Mutator s) same in
    let one : t ≡ s = cc in
    let earlier : before' ≡ before = sym (same_run script start a b xs ys e f m l before before' first run run') in
    let made : made_in e t ≡ made_in f t = made_named script start a xs e m before run t ∙ ap (λ zs. times t (mutators_of zs)) first ∙ sym (made_named script start b ys f l before' run' t) in
    turn_once script e f t cmd cmd' told told' before v u made is (subst (λ (x : Core). IsTurnOf script f t cmd' told' x u) earlier (subst (λ x. IsTurnOf script f x cmd' told' before' u) (sym one) is'))
same_run script start a b _ _ _ _ _ _ _ _ same (IsPlayedRun.collects xs e n before v run ends) (IsPlayedRun.collects ys f k before' u run' ends') =
    let (first, last) = same_from_push xs ys Collector Collector same in
    let earlier : before' ≡ before = sym (same_run script start a b xs ys e f n k before before' first run run') in
    let made : (t : ℕ) → made_in e t ≡ made_in f t = λ t. made_named script start a xs e n before run t ∙ ap (λ zs. times t (mutators_of zs)) first ∙ sym (made_named script start b ys f k before' run' t) in
    ends_once script (made_in e) (made_in f) before (turned before) v u made ends (subst (λ (x : Core). EndsTurn script (made_in f) x (turned x) u) earlier ends')

pub run_once : (script : ScriptContents) (start : Core) (a b : Naming) (actors : List Actor) (e f : List Event) (n k : Naming) (v u : Core) → IsPlayedRun script start a actors e n v → IsPlayedRun script start b actors f k u → v ≡ u
run_once script start a b actors e f n k v u run run' = same_run script start a b actors actors e f n k v u refl run run'

-- where the collector waits, its turn changes nothing
waits_still : (w : Core) (t : ℕ) → IsKept false w → WaitsFor w t → turned w ≡ w
waits_still w t kept waits = go (turn_is w kept)
  where
    other : (p : Phase) → w.collector.phase ≡ p → ◌≡◌ {A = Phase} (Looking t) p
    other p is = sym waits.looks ∙ is

    go : TurnCase w (turned w) → turned w ≡ w
    go (TurnCase.spent phase last is) = is
    go (TurnCase.waits s there phase word is) = is
    go (TurnCase.requests next phase present is) = absurd (let no : ◌≡◌ {A = Phase} (Looking t) Idle = other Idle phase in cc)
    go (TurnCase.gathers s there phase word is) =
        let looks : ◌≡◌ {A = Phase} (Looking t) (Looking s) = other (Looking s) phase in
        let same : s ≡ t = cc in
        absurd (waits.behind (subst (λ n. crossing_of w n ≡ crossing_word w.epoch Retired) same word))
    go (TurnCase.gives_back s next there phase present is) = absurd (let no : ◌≡◌ {A = Phase} (Looking t) (Returning s) = other (Returning s) phase in cc)
    go (TurnCase.applies _ q turn (Awaits.alone phase more left) on is) = absurd (let no : ◌≡◌ {A = Phase} (Looking t) Idle = other Idle phase in cc)
    go (TurnCase.applies _ q turn (Awaits.last s there phase left) on is) = absurd (let no : ◌≡◌ {A = Phase} (Looking t) (Returning s) = other (Returning s) phase in cc)
    go (TurnCase.releases m a q turn phase at on is) = absurd (let no : ◌≡◌ {A = Phase} (Looking t) (Releasing m) = other (Releasing m) phase in cc)
    go (TurnCase.frees m a q turn phase at on is) = absurd (let no : ◌≡◌ {A = Phase} (Looking t) (Freeing m) = other (Freeing m) phase in cc)
    go (TurnCase.tries m place q turn phase named on is) = absurd (let no : ◌≡◌ {A = Phase} (Looking t) (Trying m) = other (Trying m) phase in cc)
    go (TurnCase.prepares m a q turn phase at on is) = absurd (let no : ◌≡◌ {A = Phase} (Looking t) (Preparing m) = other (Preparing m) phase in cc)
    go (TurnCase.begins_sweep phase is) = absurd (let no : ◌≡◌ {A = Phase} (Looking t) Opening = other Opening phase in cc)
    go (TurnCase.sweeps n slot next phase which is) = absurd (let no : ◌≡◌ {A = Phase} (Looking t) (Sweeping (Some slot) n) = other (Sweeping (Some slot) n) phase in cc)
    go (TurnCase.ends_sweep n phase is) = absurd (let no : ◌≡◌ {A = Phase} (Looking t) (Closing n) = other (Closing n) phase in cc)

-- one move of a collection of settling
data Goes (w v : Core) : Type 0 where
  turns : v ≡ turned w → TurnHasCause w v answers.Moved → Goes w v
  polls : (t : ℕ) → IsAwaited w t → HasPolled w t v → Goes w v

-- leads to one state
goes_once : (w v u : Core) → IsKept false w → Goes w v → Goes w u → v ≡ u
goes_once w v u kept (Goes.turns is cause) (Goes.turns is' cause') = is ∙ sym is'
goes_once w v u kept (Goes.turns is cause) (Goes.polls t awaited polled) = absurd (omega (arith, cause.0, ap (λ (x : Core). x.collector.turns) (is ∙ waits_still w t kept awaited.waits)))
goes_once w v u kept (Goes.polls t awaited polled) (Goes.turns is cause) = absurd (omega (arith, cause.0, ap (λ (x : Core). x.collector.turns) (is ∙ waits_still w t kept awaited.waits)))
goes_once w v u kept (Goes.polls t awaited polled) (Goes.polls s awaited' polled') =
    worked_once w t works.Poll v u polled.worked (subst (λ n. IsWorked w n works.Poll u) (waits_once w s t awaited'.waits awaited.waits) polled'.worked)

-- no collection goes on from its last turn
no_more : (start v : Core) (c : IsCollection start v) → IsKept false c.last → (x : Core) → Goes c.last x → ⊥
no_more start v c kept x (Goes.turns is cause) = omega (arith, c.complete.3, cause.1, ap (λ (w : Core). w.collector.collections) (c.turns ∙ sym is))
no_more start v c kept x (Goes.polls t awaited polled) = omega (arith, c.complete.3, ap (λ (w : Core). w.collector.collections) (c.turns ∙ waits_still c.last t kept awaited.waits))

-- a move of a heap that is kept
abbrev GoesKept : Core → Core → Type 0
GoesKept w v = IsKept false w × Goes w v

-- A collection that mutators don't take part in leaves one state.
collection_once : (first : ℕ) (start v u : Core) → IsKept false start → AreQuiet first start → IsCollection start v → IsCollection start u → v ≡ u
collection_once first start v u kept quiet a b =
    a.turns
    ∙ ap turned (end_once GoesKept (λ w x y p q. goes_once w x y p.0 p.1 q.1) start a.last b.last (λ x g. no_more start v a g.0 x g.1) (λ x g. no_more start u b g.0 x g.1) (path a.last a.path) (path b.last b.path))
    ∙ sym b.turns
  where
    path : (w : Core) → IsAmid start w → Path GoesKept start w
    path w (IsAmid.here _ is) = Path.here w is
    path w (IsAmid.turns x _ before is cause) = Path.further x w (path x before) ((quiet_amid first start x kept quiet before).kept, Goes.turns is cause)
    path w (IsAmid.polls x _ t before awaited polled) = Path.further x w (path x before) ((quiet_amid first start x kept quiet before).kept, Goes.polls t awaited polled)

finishes_once : (first : ℕ) (start v u : Core) → IsKept false start → AreQuiet first start → Finishes start v → Finishes start u → v ≡ u
finishes_once first start v u kept quiet (Finishes.one idle c) (Finishes.one idle' c') = collection_once first start v u kept quiet c c'
finishes_once first start v u kept quiet (Finishes.one idle c) (Finishes.two w busy c' d') = absurd (busy idle)
finishes_once first start v u kept quiet (Finishes.two w busy c d) (Finishes.one idle c') = absurd (busy idle)
finishes_once first start v u kept quiet (Finishes.two w busy c d) (Finishes.two x busy' c' d') =
    let mid = quiet_after first start w kept quiet c in
    let same : x ≡ w = collection_once first start x w kept quiet c' c in
    collection_once first w v u mid.kept mid.quiet d (subst (λ y. IsCollection y u) same d')

pub settling_once : (start v u : Core) → IsKept false start → AreIdle start → IsSettling start v → IsSettling start u → v ≡ u
settling_once start v u kept idle a b =
    let first : ℕ = start.epoch + 1 in
    let c = one start kept idle a.collected a.finishes in
    let t = two start kept idle a.collected a.tried a.finishes a.tries in
    let collected : b.collected ≡ a.collected = finishes_once first start b.collected a.collected kept (quiet_begun start kept idle) b.finishes a.finishes in
    let tried : b.tried ≡ a.tried =
    collection_once first (offering a.collected) b.tried a.tried (offering_kept a.collected c.kept) (offering_quiet first a.collected c.quiet) (subst (λ w. IsCollection (offering w) b.tried) collected b.tries) a.tries in
    collection_once first a.tried v u t.kept t.quiet a.frees (subst (λ w. IsCollection w u) tried b.frees)

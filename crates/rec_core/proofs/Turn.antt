-- A turn of a heap that keeps what every heap keeps is one, with the answer that its machine gives.
use Rattle.std.proofs.Common.{◌≡◌, ◌≢◌, ℕ, ◌+◌, ◌-◌, ◌^◌, ◌<◌, ◌≤◌, ◌==◌, if◌then◌else◌, List, Option, None, Some, Bool, false, IsNone, map, slice_set, refl, sym, ap, subst, ◌∙◌, arith, true}
use Rattle.std.proofs.lemmas.Bool.{eq-eqb, ne_eqb}
use Rattle.std.proofs.lemmas.List.{set-get_or}
use Rattle.rec_core.proofs.Common.{crossing_word, Retired, WithCollector, Op, Contents, step_of, turn_of, turn_at, Phase, Idle, Looking, Swapping, Turn, cell, IsMutator, Core, cells_of, box, crossing_of, sight, IsKept, Move, looked_at, left_by, collected, turned, turned_at, EndsRun, Config}
use Rattle.rec_word.specs.Looked.{looked}
use Rattle.rec_word.specs.Op.{written}
use Rattle.rec_word.specs.declared.looked.Looked.TheVariants.{Waits}
use Rattle.rec_word.proofs.Looks.{plain_look_leaves, plain_waits}
use Rattle.rec_collector.proofs.Plain.{plain_took, plain_turn}
use Rattle.rec_core.proofs.PlainWords.{looked_small}
use Rattle.rec_word.specs.declared.op.Op.TheVariants as ops
use Rattle.rec_collector.specs.Causes.{HasCause}
use Rattle.rec_collector.specs.Kept.{swept_at, under_way}
use Rattle.rec_collector.specs.Next.{next_of, next_at}
use Rattle.rec_collector.specs.Private as collectors
use Rattle.rec_collector.specs.Took.{took_of, took_at, swapped_of, swapped_at}
use Rattle.rec_collector.specs.declared.turn.Turn.TheVariants as turns
use Rattle.rec_collector.proofs.Landing.{under_way_most}
use Rattle.rec_collector.proofs.Steps.{has_cause, spends}
use Rattle.rec_core.specs.Turn.{TurnHasCause, IsTurn, turn_told, told_at}
use Rattle.rec_core.proofs.Freed.{freed_is_forgotten, given_up_are_gone}
use Rattle.rec_core.proofs.Gathering.{awaited_stays}
use Rattle.rec_core.proofs.Reach.{turned_keeps, keeps_stands_by}
use Rattle.rec_core.proofs.Runs.{looked_is, move_stays, run_more, turned_kept}
use Rattle.rec_core.proofs.Shapes.{same_boxes}
use Rattle.rec_core.proofs.Swept.{turned_sweeps}
use Rattle.rec_core.proofs.Turning.{some_op, turned_mutators}
use Rattle.rec_word.specs.Bare.{bare_in, bare_op}
use Rattle.rec_word.specs.Op.{cell_of}
use Rattle.rec_mutator.specs.Bare as mutators_bare
use Rattle.rec_mutator.specs.Private.{Private}
use Rattle.rec_collector.specs.Bare as collectors_bare
use Rattle.rec_collector.proofs.Bare as collecting
use Rattle.rec_core.specs.Bare.{bare_core}
use Rattle.rec_core.specs.Config.{IsConfig}
use Rattle.rec_core.specs.Reach.{KeepsReached}
use Rattle.rec_core.proofs.Bare.{found_bare, mutator_bare}
use Rattle.rec_core.proofs.BareSeen.{keeps_bare, sweep_bare, turned_behind}
use Rattle.rec_core.proofs.Dated.{end_explained}

-- the swap of a mailbox changes no number of the collector
record KeepsNumbers (p q : collectors.Private) : Type 0 where
  pub turns : q.turns ≡ p.turns
  pub collections : q.collections ≡ p.collections
  pub freed : q.freed ≡ p.freed
  pub swept : swept_at q.phase ≡ swept_at p.phase

swapped_keeps : (p : collectors.Private) (b : Contents) → KeepsNumbers p (swapped_of p b)
unfolding swapped_of swapped_at
swapped_keeps p b = go p.phase refl
  where
    same : KeepsNumbers p p
    same = record { turns = refl; collections = refl; freed = refl; swept = refl }

    go : (phase : Phase) → p.phase ≡ phase → KeepsNumbers p (swapped_at p b phase)
    go (Swapping t) is = record { turns = refl; collections = refl; freed = refl; swept = sym (ap swept_at is) }
    go _ is = same

-- nor does it happen at rest
swapped_idle : (p : collectors.Private) (b : Contents) → p.phase ≡ Idle → swapped_of p b ≡ p
unfolding swapped_of swapped_at
swapped_idle p b is = ap (swapped_at p b) is

-- the word of a mailbox that is looked at
looks : (w : Core) (t : ℕ) (op : Op) → w.collector.phase ≡ Looking t → ◌≡◌ {A = Option Op} (next_of w.collector) (Some op) → op ≡ ops.LookBox t w.collector.epoch
unfolding next_of next_at
looks w t op is named = sym (some_op (ops.LookBox t w.collector.epoch) op (sym (ap (next_at w.collector) is) ∙ named))

looked_word : (w : Core) (t : ℕ) (op : Op) → w.collector.phase ≡ Looking t → ◌≡◌ {A = Option Op} (next_of w.collector) (Some op) → cell (cells_of w) op ≡ crossing_of w t
looked_word w t op is named = ap (cell (cells_of w)) (looks w t op is named)

-- a turn that waits changes nothing
waits_same : (w : Core) (t : ℕ) (op : Op) → w.collector.phase ≡ Looking t → ◌≡◌ {A = Option Op} (next_of w.collector) (Some op) → crossing_of w t ≢ crossing_word w.collector.epoch Retired → crossing_of w t < 2 ^ 32 → turned w ≡ w
unfolding step_of swapped_of swapped_at took_of next_of next_at
waits_same w t op is named other small =
    let c : collectors.Private = w.collector in
    let word : ℕ = crossing_of w t in
    let no : (word == crossing_word c.epoch Retired) ≡ false = ne_eqb word (crossing_word c.epoch Retired) other in
    let named_so : ◌≡◌ {A = Option Op} (next_of c) (Some (ops.LookBox t c.epoch)) = ap (next_at c) is in
    let kept_word : written (ops.LookBox t c.epoch) word ≡ word = plain_look_leaves t c.epoch word small ∙ ap (λ b. if b then crossing_word c.epoch WithCollector else word) no in
    let same_words : slice_set w.crossing (t - 1) (written (ops.LookBox t c.epoch) word) ≡ w.crossing = ap (slice_set w.crossing (t - 1)) kept_word ∙ set-get_or w.crossing (t - 1) 0 in
    let learnt : took_of c word ≡ c = ap (took_at c word) is ∙ plain_took c word t small ∙ ap (λ (b : Bool). let d : collectors.Private = (if b then record c { phase = Swapping t; turns = c.turns + 1 } else c) in d) no in
    let stays : step_of c word (box w t) ≡ c = ap (λ x. swapped_of x (box w t)) learnt ∙ ap (swapped_at c (box w t)) is in
    let left : left_by c word (box w t) (Looking t) ≡ box w t = ap (λ (b : Bool). if b then collectors.spare c else box w t) no in
    let boxes : slice_set w.boxes (t - 1) (left_by c word (box w t) (Looking t)) ≡ w.boxes = ap (slice_set w.boxes (t - 1)) left ∙ same_boxes w t in
    let make : List ℕ → List Contents → collectors.Private → Core = λ crossing bs d. record w { crossing = crossing; boxes = bs; collector = d } in
    let looked : Phase → Core = λ phase. collected w (ops.LookBox t c.epoch) word (step_of c word (box w (looked_at phase))) (left_by c word (box w (looked_at phase)) phase) in
    ap (turned_at w) named_so ∙ at_phase
    ∙ ap (λ x. make x (slice_set w.boxes (t - 1) (left_by c word (box w t) (Looking t))) (step_of c word (box w t))) same_words ∙ ap (λ x. make w.crossing x (step_of c word (box w t))) boxes ∙ ap (λ x. make w.crossing w.boxes x) stays
  where
    at_phase : turned_at w (Some (ops.LookBox t w.collector.epoch)) ≡ record w {
      crossing = slice_set w.crossing (t - 1) (written (ops.LookBox t w.collector.epoch) (crossing_of w t));
      boxes = slice_set w.boxes (t - 1) (left_by w.collector (crossing_of w t) (box w t) (Looking t));
      collector = step_of w.collector (crossing_of w t) (box w t);
    }
    at_phase = ap (λ (phase : Phase). let v : Core = record w {
      crossing = slice_set w.crossing (t - 1) (written (ops.LookBox t w.collector.epoch) (crossing_of w t));
      boxes = slice_set w.boxes (looked_at phase - 1) (left_by w.collector (crossing_of w t) (box w (looked_at phase)) phase);
      collector = step_of w.collector (crossing_of w t) (box w (looked_at phase));
    } in v) is

-- the collector after its turn
collector_left : (w : Core) (op : Op) → ◌≡◌ {A = Option Op} (next_of w.collector) (Some op) → (turned w).collector ≡ step_of w.collector (cell (cells_of w) op) (box w (looked_at w.collector.phase))
collector_left w op named = ap (λ (x : Option Op). (turned_at w x).collector) named

-- why a turn with an operation answers this
caused : (w : Core) (op : Op) (taken : collectors.Private) (turn : Turn) → IsKept true w → IsKept true (turned w) → ◌≡◌ {A = Option Op} (next_of w.collector) (Some op) → taken ≡ took_of w.collector (cell (cells_of w) op)
    → HasCause w.collector (cell (cells_of w) op) taken turn → (turn ≡ turns.EpochsSpent → ⊥) → TurnHasCause w (turned w) turn
unfolding step_of
caused w op taken turns.Moved kept later named learns cause none =
    let b : Contents = box w (looked_at w.collector.phase) in
    let left : (turned w).collector ≡ swapped_of taken b = collector_left w op named ∙ ap (λ x. swapped_of x b) (sym learns) in
    let keeps : KeepsNumbers taken (turned w).collector = subst (KeepsNumbers taken) (sym left) (swapped_keeps taken b) in
    (keeps.turns ∙ cause.0, keeps.collections ∙ cause.1, ap (λ n. n + swept_at w.collector.phase) keeps.freed ∙ cause.2 ∙ ap (λ n. w.collector.freed + n) (sym keeps.swept))
caused w op taken (turns.Waiting t) kept later named learns cause none =
    let small : crossing_of w t < 2 ^ 32 = looked_small w t kept cause.0 in
    let stays : looked w.collector.epoch (crossing_of w t) ≡ Waits = ap (looked w.collector.epoch) (sym (looked_word w t op cause.0 named)) ∙ cause.1 in
    let other : crossing_of w t ≢ crossing_word w.collector.epoch Retired = plain_waits w.collector.epoch (crossing_of w t) small stays in
    (cause.0, λ is. other (is ∙ ap (λ n. crossing_word n Retired) (sym kept.collector.epoch)), waits_same w t op cause.0 named other small)
caused w op taken (turns.Collected epoch freed) kept later named learns cause none =
    let b : Contents = box w (looked_at w.collector.phase) in
    let left : (turned w).collector ≡ taken = collector_left w op named ∙ ap (λ x. swapped_of x b) (sym learns) ∙ swapped_idle taken b cause.2 in
    (cause.0 ∙ ap (λ (c : collectors.Private). c.epoch) (sym left) ∙ later.collector.epoch, cause.1, ap (λ (c : collectors.Private). c.phase) left ∙ cause.2, ap (λ (c : collectors.Private). c.collections) left ∙ cause.3, ap (λ (c : collectors.Private). c.freed) left ∙ cause.4)
caused w op taken turns.EpochsSpent kept later named learns cause none = absurd (none refl)

-- one epoch more is requested at most
requests_few : (w v : Core) (turn : Turn) → IsKept true w → IsKept true v → v.config ≡ w.config → TurnHasCause w v turn → v.epoch ≤ w.epoch + 1
requests_few w v turns.Moved kept later same cause =
    let before : w.config.first_epoch + w.collector.collections + under_way w.collector.phase ≡ w.epoch = kept.collector.begun in
    let after : v.config.first_epoch + v.collector.collections + under_way v.collector.phase ≡ v.epoch = later.collector.begun in
    let first : v.config.first_epoch ≡ w.config.first_epoch = ap (λ (c : Config). c.first_epoch) same in
    let one : under_way v.collector.phase ≤ 1 = under_way_most v.collector.phase in
    omega (arith, cause.1)
requests_few w v (turns.Waiting t) kept later same cause = subst (λ n. n ≤ w.epoch + 1) (sym (ap (λ (x : Core). x.epoch) cause.2)) (omega arith)
requests_few w v (turns.Collected epoch freed) kept later same cause =
    let before : w.config.first_epoch + w.collector.collections + under_way w.collector.phase ≡ w.epoch = kept.collector.begun in
    let after : v.config.first_epoch + v.collector.collections + under_way v.collector.phase ≡ v.epoch = later.collector.begun in
    let first : v.config.first_epoch ≡ w.config.first_epoch = ap (λ (c : Config). c.first_epoch) same in
    let none : under_way v.collector.phase ≡ 0 = ap under_way cause.2 in
    omega (arith, cause.3)
requests_few w v turns.EpochsSpent kept later same cause = subst (λ n. n ≤ w.epoch + 1) (sym (ap (λ (x : Core). x.epoch) cause.2)) (omega arith)

-- with or without an operation
told_cause : (w : Core) → IsKept true w → IsKept true (turned w) → TurnHasCause w (turned w) (turn_told w)
unfolding next_of next_at
told_cause w kept later = go (next_of w.collector) refl
  where
    c : collectors.Private
    c = w.collector

    go : (x : Option Op) → next_of c ≡ x → TurnHasCause w (turned_at w x) (told_at w x)
    go None none =
        let is = subst (HasCause c 0 (took_of c 0)) (spends c 0 kept.collector.machine (subst (λ (o : Option Op). IsNone o) (sym none) refl)) (has_cause c 0 kept.collector.machine) in
        (is.0, ap (λ n. n + 1) (sym kept.collector.epoch) ∙ is.1, refl)
    go (Some op) named =
        let word : ℕ = cell (cells_of w) op in
        let cause : HasCause c word (took_of c word) (turn_of c word) = has_cause c word kept.collector.machine in
        let more : turn_of c word ≡ turns.EpochsSpent → ⊥ = λ spent.
        let is = subst (HasCause c word (took_of c word)) spent cause in
        let none : ◌≡◌ {A = Option Op} (next_of c) None = ap (next_at c) is.0 ∙ ap (λ (b : Bool). if b then None else Some (ops.StoreEpoch (c.epoch + 1))) (eq-eqb (c.epoch + 1) (2 ^ 24) is.1) in
        let not_so : ◌≡◌ {A = Option Op} (Some op) None = sym named ∙ none in
        cc in
        subst (λ (x : Core). TurnHasCause w x (turn_of c word)) (ap (turned_at w) named) (caused w op (took_of c word) (turn_of c word) kept later named refl cause more)

-- who hasn't crossed is waited for
told_waiting : (w : Core) (t : ℕ) → IsKept true w → w.collector.phase ≡ Looking t → crossing_of w t ≢ crossing_word w.epoch Retired → turn_told w ≡ turns.Waiting t
unfolding next_of next_at turn_of
told_waiting w t kept looks other =
    let c : collectors.Private = w.collector in
    let no : (crossing_of w t == crossing_word c.epoch Retired) ≡ false = ne_eqb (crossing_of w t) (crossing_word c.epoch Retired) (λ is. other (is ∙ ap (λ n. crossing_word n Retired) kept.collector.epoch)) in
    ap (λ (phase : Phase). told_at w (next_at c phase)) looks ∙ ap (turn_at c (crossing_of w t)) looks ∙ plain_turn c (crossing_of w t) t (looked_small w t kept looks) ∙ ap (λ (b : Bool). if b then turns.Moved else turns.Waiting t) no

-- where the epochs are spent, that is told
told_spent : (w : Core) → IsKept true w → w.collector.phase ≡ Idle → w.epoch + 1 ≡ 2 ^ 24 → turn_told w ≡ turns.EpochsSpent
unfolding next_of next_at
told_spent w kept idle last =
    let c : collectors.Private = w.collector in
    ap (λ (phase : Phase). told_at w (next_at c phase)) idle
    ∙ ap (λ (b : Bool). told_at w (if b then None else Some (ops.StoreEpoch (c.epoch + 1)))) (eq-eqb (c.epoch + 1) (2 ^ 24) (ap (λ n. n + 1) kept.collector.epoch ∙ last))

-- no birth is counted
pub turned_made : (w : Core) → (turned w).made ≡ w.made
turned_made w = go (next_of w.collector)
  where
    go : (x : Option Op) → (turned_at w x).made ≡ w.made
    go None = refl
    go (Some op) = refl

-- ---- the turn of a heap, by that of the heap of dated words behind it

cause_bare : (w v : Core) (turn : Turn) → TurnHasCause w v turn → TurnHasCause (bare_core w) (bare_core v) turn
cause_bare w v turns.Moved cause = cause
cause_bare w v (turns.Waiting t) cause = (cause.0, cause.1, ap bare_core cause.2)
cause_bare w v (turns.Collected epoch freed) cause = cause
cause_bare w v turns.EpochsSpent cause = (cause.0, cause.1, ap bare_core cause.2)

told_bare : (v : Core) → turn_told (bare_core v) ≡ turn_told v
told_bare v = ap (told_at (bare_core v)) (collecting.next_bare v.collector) ∙ go (next_of v.collector) refl
  where
    go : (x : Option Op) → ◌≡◌ {A = Option Op} (next_of v.collector) x → told_at (bare_core v) x ≡ told_at v x
    go None named = refl
    go (Some op) named =
        let none : bare_op op ≡ op = collecting.puts_none v.collector op named in
        let finds : cell (cells_of (bare_core v)) op ≡ bare_in (cell_of op) (cell (cells_of v) op) = ap (cell (cells_of (bare_core v))) (sym none) ∙ found_bare (cells_of v) op in
        ap (turn_of (collectors_bare.bare_private v.collector)) finds ∙ collecting.turn_bare v.collector (cell (cells_of v) op) op named

turn_behind : (v : Core) → IsKept true v → EndsRun (bare_core (turned v)) → bare_core (turned v) ≡ turned (bare_core v) → IsTurn (bare_core v) (bare_core (turned v)) (turn_told v)
turn_behind v kept run is =
    let after : IsKept true (turned v) = turned_kept v kept in
    let same : (turned v).config ≡ v.config = move_stays v Move.Turns in
    let cause : TurnHasCause v (turned v) (turn_told v) = told_cause v kept after in
    let keeps : KeepsReached (sight (bare_core v)) (sight (bare_core (turned v))) = keeps_bare v (turned v) (turned_keeps v kept) in
    record {
      turned = is;
      cause = cause_bare v (turned v) (turn_told v) cause;
      waiting = λ t. told_waiting v t kept;
      spent = told_spent v kept;
      awaited = λ t is.
          let waits : TurnHasCause v (turned v) (turns.Waiting t) = subst (TurnHasCause v (turned v)) is cause in
          subst (λ (c : Config). IsMutator c t) (sym same) (looked_is v (Looking t) kept waits.0);
      present = λ t is.
          let waits : TurnHasCause v (turned v) (turns.Waiting t) = subst (TurnHasCause v (turned v)) is cause in
          ap (λ (p : Private). p.left) (mutator_bare v t) ∙ awaited_stays v t kept (looked_is v (Looking t) kept waits.0) (record { looks = waits.0; behind = waits.1 });
      reached = keeps;
      stands = λ heap number. keeps_stands_by heap (sight (bare_core v)) (sight (bare_core (turned v))) number keeps;
      sweep = sweep_bare v (turned v) (turned_sweeps v kept);
      gone = (turned v, refl, given_up_are_gone (turned v) after);
      forgotten = (v, refl, λ slot. freed_is_forgotten v slot kept);
      requested = requests_few v (turned v) (turn_told v) kept after same cause;
      mutators = ap (map mutators_bare.bare_private) (turned_mutators v);
      config = same;
      made = turned_made v;
      run = run;
    }

-- The turn of a heap that some run ends in.
pub turn_is_one : (w : Core) → IsConfig w.config → EndsRun w → IsTurn w (turned w) (turn_told w)
turn_is_one w config run =
    let (v, e) = end_explained w config run in
    let next : EndsRun (turned w) = run_more w Move.Turns run tt in
    let is : bare_core (turned v) ≡ turned w = turned_behind v w e in
    let one : IsTurn (bare_core v) (bare_core (turned v)) (turn_told v) = turn_behind v e.kept (subst EndsRun (sym is) next) (is ∙ ap turned (sym e.bare)) in
    let told : turn_told v ≡ turn_told w = sym (told_bare v) ∙ ap turn_told e.bare in
    subst (IsTurn w (turned w)) told (subst (λ (u : Core). IsTurn w u (turn_told v)) is (subst (λ (u : Core). IsTurn u (bare_core (turned v)) (turn_told v)) e.bare one))

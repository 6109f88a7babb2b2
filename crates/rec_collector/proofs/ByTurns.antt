-- Each word for the machine that is at work is found by a turn.
use Rattle.std.proofs.Common.{◌≡◌, ℕ, ◌+◌, ◌<◌, Option, None, Some, IsSome, IfSome, length, refl, sym, ap, subst, ◌∙◌, arith}
use Rattle.std.proofs.lemmas.List.{length-set}
use Rattle.rec_word.specs.Word.{target_of}
use Rattle.rec_word.specs.declared.op.Op.TheVariants.{FreeHeader}
use Rattle.rec_release.specs.CycleFree as frees
use Rattle.rec_release.specs.Sweep as sweeps
use Rattle.rec_release.proofs.Kept.{sweep_kept}
use Rattle.rec_sigma.specs.Prepare as preps
use Rattle.rec_trial.specs.Rules.{LeadsToUnreleased, visible}
use Rattle.rec_trial.specs.Trial as trials
use Rattle.rec_collector.proofs.Common.{Op, State, Next, IsGiven, IsGivenAt, IsMachine, IsWork, KeepsSizes, Private, parts_of, Phase, Freeing, Trying, Preparing, Sweeping, followed, prepared, relieved, slot_at, swept_phase, swept_clean, took_at, took_of, tried, turn_at, turn_of, worked}
use Rattle.rec_collector.specs.Given.{IsLooped}
use Rattle.rec_collector.specs.Inside.{private}
use Rattle.rec_collector.specs.Next.{next_at, next_of}
use Rattle.rec_collector.specs.declared.machine.Machine.TheInside.{Inside}
use Rattle.rec_collector.specs.Running.{FreeingRuns, PreparingRuns, Runs, SweepingRuns, Turned, TryingRuns, swept_on}
use Rattle.rec_collector.specs.declared.turn.Turn.{Turn}
use Rattle.rec_collector.specs.declared.turn.Turn.TheVariants.{Moved}
use Rattle.rec_collector.proofs.Answering.{begun_follows, more_freed, more_prepared, more_tried}
use Rattle.rec_collector.proofs.Goings.{with_counts}
use Rattle.rec_collector.proofs.Keeping.{came_keeps, turned_keeps, work_lands, work_took}
use Rattle.rec_collector.proofs.Landing.{landed, landed_sizes}
use Rattle.rec_collector.proofs.Running.{ended_sizes, midway, run_more, same_sizes, sizes_on}
use Rattle.rec_collector.proofs.Sweeping.{same_machine, slot_due, sweeping_keeps, sweeps_more}

pub some_next : (due : Option Op) (op : Op) → due ≡ Some op → IsSome due
some_next due op e = subst (λ (o : Option Op). IsSome o) (sym e) refl

-- while something is due the machine is at work, and its next operation is the one that is due
module _ (stands : ℕ → Private → Turn → Type 0) (p : Private) (n : ℕ) (due : Option Op) (phase : Phase) (counts : State) (next : Next) (op : Op) (r : Runs stands p n due phase counts next) (named : due ≡ Some op) where
  abbrev at : r.now ≡ midway p n phase counts
  at = (r.busy (some_next due op named)).0

  pub run_stands : stands n r.now Moved
  run_stands = subst (λ (t : Turn). stands n r.now t) (r.busy (some_next due op named)).1 r.stood

  pub run_loops : IsLooped phase → IsLooped r.now.phase
  run_loops l = subst (λ (x : Private). IsLooped x.phase) (sym at) l

  run_op : next_at (midway p n phase counts) phase ≡ due → next_of r.now ≡ Some op
  unfolding next_of
  run_op is = ap (λ (x : Private). next_at x x.phase) at ∙ is ∙ named

  run_given : (word : ℕ) → IsGiven r.now word → IsGivenAt (midway p n phase counts) word phase
  unfolding IsGiven
  run_given word g = subst (λ (x : Private). IsGivenAt x word x.phase) at g

module _ (stands after : ℕ → Private → Turn → Type 0) (p : Private) (n : ℕ) where
  -- a trial learns a word
  module _ (w : trials.Work) (op : Op) (r : TryingRuns stands p n w) (named : ◌≡◌ {A = Option Op} (trials.next_of w.machine) (Some op)) where
    pub trying_op : next_of r.now ≡ Some op
    unfolding next_at
    trying_op = run_op stands p n (trials.next_of w.machine) (Trying w.machine) w.counts (tried (parts_of p) w) op r named refl

    pub trying_given : (word : ℕ) → IsGiven r.now word → LeadsToUnreleased w.counts word
    unfolding IsGivenAt
    trying_given word g = run_given stands p n (trials.next_of w.machine) (Trying w.machine) w.counts (tried (parts_of p) w) op r named word g

    pub trying_more : (word : ℕ) → IsGiven r.now word → after (n + 1) (took_of r.now word) (turn_of r.now word) → TryingRuns after p (n + 1) (trials.took_of w (visible w.counts word))
    unfolding tried
    trying_more word g s =
        let v : trials.Work = trials.took_of w (visible w.counts word) in
        run_more stands after p n op (trials.next_of w.machine) (trials.next_of v.machine) (Trying w.machine) (Trying v.machine) w.counts v.counts (tried (parts_of p) w) (tried (parts_of p) v) word r (some_next (trials.next_of w.machine) op named) tt tt g refl
        (λ b. sym (more_tried (parts_of p) v b)) s

  -- a preparation does
  module _ (w : preps.Work) (op : Op) (r : PreparingRuns stands p n w) (named : ◌≡◌ {A = Option Op} (preps.next_of w.machine) (Some op)) where
    pub preparing_op : next_of r.now ≡ Some op
    unfolding next_at
    preparing_op = run_op stands p n (preps.next_of w.machine) (Preparing w.machine) w.counts (prepared (parts_of p) w) op r named refl

    pub preparing_given : (word : ℕ) → IsGiven r.now word → IfSome (target_of word) (λ slot. slot < length w.counts.slots)
    unfolding IsGivenAt
    preparing_given word g = run_given stands p n (preps.next_of w.machine) (Preparing w.machine) w.counts (prepared (parts_of p) w) op r named word g

    pub preparing_more : (word : ℕ) → IsGiven r.now word → after (n + 1) (took_of r.now word) (turn_of r.now word) → PreparingRuns after p (n + 1) (preps.took_of w word)
    unfolding prepared
    preparing_more word g s =
        let v : preps.Work = preps.took_of w word in
        run_more stands after p n op (preps.next_of w.machine) (preps.next_of v.machine) (Preparing w.machine) (Preparing v.machine) w.counts v.counts (prepared (parts_of p) w) (prepared (parts_of p) v) word r (some_next (preps.next_of w.machine) op named) tt tt g refl
        (λ b. sym (more_prepared (parts_of p) v b)) s

  -- the freeing of a set does
  module _ (w : frees.Work) (op : Op) (r : FreeingRuns stands p n w) (named : ◌≡◌ {A = Option Op} (frees.next_of w.machine) (Some op)) where
    pub freeing_op : next_of r.now ≡ Some op
    unfolding next_at
    freeing_op = run_op stands p n (frees.next_of w.machine) (Freeing w.machine) w.counts (followed (relieved (parts_of p) w)) op r named refl

    pub freeing_given : (word : ℕ) → IsGiven r.now word → IfSome (target_of word) (λ slot. 0 < (slot_at w.counts slot).count)
    unfolding IsGivenAt
    freeing_given word g = run_given stands p n (frees.next_of w.machine) (Freeing w.machine) w.counts (followed (relieved (parts_of p) w)) op r named word g

    pub freeing_more : (word : ℕ) → IsGiven r.now word → after (n + 1) (took_of r.now word) (turn_of r.now word) → FreeingRuns after p (n + 1) (frees.took_of w word)
    freeing_more word g s =
        let v : frees.Work = frees.took_of w word in
        run_more stands after p n op (frees.next_of w.machine) (frees.next_of v.machine) (Freeing w.machine) (Freeing v.machine) w.counts v.counts (followed (relieved (parts_of p) w)) (followed (relieved (parts_of p) v)) word r (some_next (frees.next_of w.machine) op named) tt tt g refl
        (λ b. sym (begun_follows (with_counts (parts_of p) v.counts) (Freeing v.machine) ∙ ap followed (more_freed (parts_of p) v b))) s

  -- and a sweep frees a header
  module _ (w : sweeps.Work) (x : ℕ) (r : SweepingRuns stands p n w) (named : ◌≡◌ {A = Option Op} (sweeps.next_of w.due) (Some (FreeHeader x))) where
    due_is : (due : Option ℕ) → ◌≡◌ {A = Option Op} (sweeps.next_of due) (Some (FreeHeader x)) → due ≡ Some x
    unfolding sweeps.next_of
    due_is None e = cc
    due_is (Some y) e = cc

    sweep_at : r.now ≡ record p { phase = Sweeping w.due (r.swept + n); counts = w.counts; freed = p.freed + n; turns = p.turns + n }
    sweep_at =
        let e : swept_phase (r.swept + n) w.due ≡ Sweeping w.due (r.swept + n) = ap (swept_phase (r.swept + n)) (due_is w.due named) ∙ ap (λ (o : Option ℕ). Sweeping o (r.swept + n)) (sym (due_is w.due named)) in
        r.is ∙ (λ i. record p { phase = e i; counts = w.counts; freed = p.freed + n; turns = p.turns + n })

    pub sweeping_loops : IsLooped r.now.phase
    sweeping_loops = subst (λ (q : Private). IsLooped q.phase) (sym sweep_at) tt

    pub sweeping_op : next_of r.now ≡ Some (FreeHeader x)
    unfolding next_of next_at
    sweeping_op = ap (λ (q : Private). next_at q q.phase) sweep_at ∙ named

    module _ (word : ℕ) where
      abbrev behind : sweeps.Work
      behind = sweeps.took_of w word

      sweep_took : took_of r.now word ≡ swept_on p r.swept (n + 1) behind
      unfolding took_of took_at
      sweep_took =
          let e : r.swept + n + 1 ≡ r.swept + (n + 1) = omega arith in
          let f : p.freed + n + 1 ≡ p.freed + (n + 1) = omega arith in
          let t : p.turns + n + 1 ≡ p.turns + (n + 1) = omega arith in
          ap (λ (q : Private). took_at q word q.phase) sweep_at ∙ (λ i. record p { phase = swept_phase (e i) behind.due; counts = behind.counts; freed = f i; turns = t i })

      sweep_turn : turn_of r.now word ≡ Moved
      unfolding turn_of turn_at
      sweep_turn = ap (λ (q : Private). turn_at q word q.phase) sweep_at

      sweep_machine : IsMachine (took_of r.now word)
      unfolding took_of sweeps.took_of
      sweep_machine =
          let e : r.now.phase ≡ Sweeping w.due (r.swept + n) = ap (λ (q : Private). q.phase) sweep_at in
          subst (λ (f : Phase). IsMachine (took_at r.now word f)) (sym e) (sweeping_keeps r.now w.due (r.swept + n) word r.machine e (sweep_kept r.now.counts w.due r.machine.counts))

      sweep_many : length behind.counts.slots ≡ length w.counts.slots
      unfolding sweeps.took_of
      sweep_many = ap (λ (o : Option ℕ). length (sweeps.took_at w o).counts.slots) (due_is w.due named) ∙ length-set w.counts.slots x (swept_clean (slot_at w.counts x))

      pub sweeping_more : IsGiven r.now word → after (n + 1) (took_of r.now word) (turn_of r.now word) → SweepingRuns after p (n + 1) (sweeps.took_of w word)
      sweeping_more g s = record {
        due = r.due;
        swept = r.swept;
        from = r.from;
        now = took_of r.now word;
        is = sweep_took;
        turned = subst (λ (t : Turn). Turned p (n + 1) (took_of r.now word) t) sweep_turn (Turned.more n r.now word r.turned g);
        machine = sweep_machine;
        sizes = subst (KeepsSizes p) (sym sweep_took) (sizes_on {b = swept_on p r.swept n w} {d = swept_on p r.swept (n + 1) behind} (subst (KeepsSizes p) r.is r.sizes) (record { slots = sweep_many; fields = refl; registers = refl; capacity = refl; policy = refl; mutators = refl }));
        stood = subst (λ (t : Turn). after (n + 1) (took_of r.now word) t) sweep_turn s;
      }

swept_sizes : (p : Private) (due : Option ℕ) (n word : ℕ) → KeepsSizes p (took_at p word (Sweeping due n))
unfolding took_at sweeps.took_of
swept_sizes p None n word = record { slots = refl; fields = refl; registers = refl; capacity = refl; policy = refl; mutators = refl }
swept_sizes p (Some x) n word = record { slots = length-set p.counts.slots x (swept_clean (slot_at p.counts x)); fields = refl; registers = refl; capacity = refl; policy = refl; mutators = refl }

-- what a turn keeps that works on the parts, and one of a sweep
keeps_work : (p : Private) (word : ℕ) (phase : Phase) → IsWork phase → p.phase ≡ phase → IsMachine p → IsGivenAt p word phase → IsMachine (took_at p word phase) × KeepsSizes p (took_at p word phase)
keeps_work p word phase w e k g =
    let n : Next = worked (parts_of p) word phase in
    let lands : IsMachine (landed p n) = turned_keeps p p word phase n k refl e g w refl in
    let took = (work_took p word phase w).0 in (
      subst IsMachine took (came_keeps p n lands),
      subst (KeepsSizes p) took (sizes_on (landed_sizes p (landed p n) n (work_lands p word phase k e g w) (same_sizes (landed p n))) (ended_sizes (landed p n) n.phase lands)),
    )

pub loop_keeps : (p : Private) (word : ℕ) → IsLooped p.phase → IsMachine p → IsGiven p word → IsMachine (took_of p word) × KeepsSizes p (took_of p word)
unfolding took_of IsGiven sweeps.took_of
loop_keeps p word l k g = go p.phase refl l g
  where
    go : (phase : Phase) → p.phase ≡ phase → IsLooped phase → IsGivenAt p word phase → IsMachine (took_at p word phase) × KeepsSizes p (took_at p word phase)
    go (Freeing m) e l g = keeps_work p word (Freeing m) tt e k g
    go (Trying m) e l g = keeps_work p word (Trying m) tt e k g
    go (Preparing m) e l g = keeps_work p word (Preparing m) tt e k g
    go (Sweeping due n) e l g = (sweeping_keeps p due n word k e (sweep_kept p.counts due k.counts), swept_sizes p due n word)
    go _ e l g = absurd l

-- a sweep goes on as a run begins
begins_at : (stands : ℕ → Private → Turn → Type 0) (q : Private) (due : Option ℕ) (swept : ℕ) → IsMachine q → q.phase ≡ Sweeping due swept → stands 0 q Moved → SweepingRuns stands q 0 (record { due = due; counts = q.counts })
begins_at stands q due swept k at s =
    let e : swept ≡ swept + 0 = omega arith in
    let f : q.freed ≡ q.freed + 0 = omega arith in
    let t : q.turns ≡ q.turns + 0 = omega arith in
    let phase : q.phase ≡ swept_phase (swept + 0) due = at ∙ sweeps_more swept due (slot_due q due swept k at) ∙ ap (λ n. swept_phase n due) e in
    record {
      due = due;
      swept = swept;
      from = at;
      now = q;
      is = λ i. record q { phase = phase i; freed = f i; turns = t i };
      turned = Turned.none;
      machine = k;
      sizes = same_sizes q;
      stood = s;
    }

pub sweep_begins : {i j : Inside} (stands : ℕ → Private → Turn → Type 0) (p start : Private) (due : Option ℕ) (swept : ℕ) → i ≡ j → private j ≡ p → start ≡ p → IsMachine (private j) → i.phase ≡ Sweeping due swept → stands 0 p Moved → SweepingRuns stands start 0 (record { due = due; counts = (private i).counts })
sweep_begins {i} {j} stands p start due swept e v f k at s =
    let is : private i ≡ p = ap private e ∙ v in
    subst (λ (x : Private). SweepingRuns stands x 0 (record { due = due; counts = (private i).counts })) (is ∙ sym f)
    (begins_at stands (private i) due swept (same_machine e k) at (subst (λ (x : Private). stands 0 x Moved) (sym is) s))

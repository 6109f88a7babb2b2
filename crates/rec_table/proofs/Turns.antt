-- A turn of the collector keeps the rule.
use Rattle.std.proofs.Common.{◌≡◌, ◌≢◌, ⊎_elim, ℕ, ◌+◌, ◌-◌, ◌*◌, ◌%◌, ◌^◌, ◌<◌, ◌≤◌, ◌==◌, if◌then◌else◌, Bool, true, false, true≢false, cond, eqb, eq-eqb, ne_eqb, List, [], ◌∷◌, ◌++◌, length, get_or, set, Option, Some, IfSome, refl, sym, ap, ◌∙◌, subst, arith, append-nil, get_or-set_other}
use mathlib.Core.Logic.{dite}
use native.Mathlib.Decide.{ℕ_discrete}
use mathlib.Core.Option as maybe
use mathlib.Core.Option.{some, none}
use lib.ListN.{get_elem?}
use Rattle.std.proofs.lemmas.List.{set-get_or}
use Rattle.atomic_table.specs.Table.{State, Step, keeps, takes, gives, stepped}
use Rattle.atomic_table.proofs.Lists.{set_again}
use Rattle.rec_table.proofs.Common.{written, Op, Contents, blank, IsMutator, Core, cells_of, mutator, box, crossing_of, IsKept, IsHandshake, Move, after_moves, looked_at, left_by, turned, turned_at, cell, IsWorld, world_kept, actor_of, may_turn, gives_back, is_busy_at, beats_of, looked, turn_at, gathered_all, OffersNone, Kind, Grows, Operates, operation, performed, step_in, steps_in, turned_by, row, index_of, Holds, TurnedBy, LookedBy, GlancedBy, ReturnedBy, Beat, Saw, Took, CollectorSeat, View, Collects, Mutates, Spent, after_both, config_after, every_both, fit_both, over_both}
use Rattle.rec_word.specs.Mailbox.{crossing_word}
use Rattle.rec_word.specs.declared.mailbox.Mailbox.TheVariants.{Retired, Spare, WithCollector, WithMutator}
use Rattle.rec_word.specs.declared.op.Op.TheVariants as ops
use Rattle.rec_mutator.specs.declared.phase.Phase as phases
use Rattle.rec_mutator.specs.declared.phase.Phase.TheVariants as at
use Rattle.rec_collector.specs.Given.{IsGiven, IsSized}
use Rattle.rec_collector.specs.Next.{next_of, next_at}
use Rattle.rec_collector.specs.Private.{Private, spare}
use Rattle.rec_collector.specs.declared.phase.Phase.{Phase}
use Rattle.rec_collector.specs.declared.phase.Phase.TheVariants.{Looking, Returning}
use Rattle.rec_model.specs.Sight.{IsTaken}
use Rattle.rec_core.specs.Core.{sight, spare_of}
use Rattle.rec_core.specs.Kept.{HasCrossed}
use Rattle.rec_core.specs.Preconditions.{MayTurn}
use Rattle.rec_core.specs.declared.config.Config.{Config}
use Rattle.rec_core.proofs.Actors.{giving_crosses}
use Rattle.rec_word.proofs.Looks.{plain_look_leaves, plain_returned}
use Rattle.rec_core.proofs.Crossings.{held_stands}
use Rattle.rec_core.proofs.PlainWords.{looked_small}
use Rattle.rec_core.proofs.Steps.{stand_of, stays_here}
use Rattle.rec_core.proofs.Turning.{some_op}
use Rattle.rec_core.proofs.Turns.{its_spare}
use Rattle.rec_core.proofs.Shapes.{same_boxes}
use Rattle.rec_table.specs.Homes.{homes_of}
use Rattle.rec_table.specs.Rule.{Fits}
use Rattle.rec_world.proofs.Row.{row_read, row_write}
use Rattle.rec_core.proofs.BareRuns.{turned_sweeps}
use Rattle.rec_core.specs.Swept.{IsSweep, SweepsNothing}
use Rattle.rec_core.specs.Kept.{IsHeader}
use Rattle.rec_word.specs.Header.{IsTakenHeader}
use Rattle.std.proofs.lemmas.List.Elements.{All-get_or}
use Rattle.rec_table.proofs.Beats.{beats_both, world_after}
use Rattle.rec_table.proofs.Boxes.{homes_set, homes_at, home_even, home_odd, even_zero, even_two, odd_three}
use Rattle.rec_table.proofs.Collects.{collector_after}
use Rattle.rec_table.proofs.Operations.{glances_due, glances_early, tries_look}
use Rattle.rec_table.proofs.Steps.{IsPlainOp, plain_crossing, places_after, slots_after, fits_set}

looks_op : (c : Private) (t : ℕ) → c.phase ≡ Looking t → ◌≡◌ {A = Option Op} (next_of c) (Some (ops.LookBox t c.epoch))
unfolding next_of next_at
looks_op c t is = ap (next_at c) is

-- who gives a mailbox back is at work
gives_busy : (phase : phases.Phase) → gives_back phase ≡ true → is_busy_at phase ≡ true
gives_busy at.Giving is = refl
gives_busy at.Parting is = refl
gives_busy _ is = absurd (true≢false (sym is))

-- the crossing word of a mutator that has its mailbox out says so
out_word : (w : Core) (x : ℕ) → IsKept false w → IsMutator w.config x → gives_back (mutator w x).phase ≡ true → (into : ℕ) × (crossing_of w x ≡ crossing_word into WithMutator)
out_word w x kept is giving =
    ⊎_elim (λ due. (w.epoch, due.1.word)) (λ ahead. (w.epoch + 1, ahead.1.word))
    (giving_crosses w.config w.epoch (mutator w x) (crossing_of w x) (box w x) (stand_of w x) (stays_here w x kept is (gives_busy (mutator w x).phase giving)) giving (actor_of w x kept is).handshake)

-- a turn changes no mailbox of a mutator that has it out
hand_kept : (w : Core) (op : Op) (x : ℕ) → IsKept false w → IsMutator w.config x → ◌≡◌ {A = Option Op} (next_of w.collector) (Some op) → gives_back (mutator w x).phase ≡ true → box (turned_at w (Some op)) x ≡ box w x
hand_kept w op x kept is named giving = by w.collector.phase refl
  where
    still : (phase : Phase) → w.collector.phase ≡ phase → left_by w.collector (cell (cells_of w) op) (box w (looked_at phase)) phase ≡ box w (looked_at phase) → box (turned_at w (Some op)) x ≡ box w x
    still phase at_phase same =
        ap (λ (f : Phase). get_or (set w.boxes (looked_at f - 1) (left_by w.collector (cell (cells_of w) op) (box w (looked_at f)) f)) (x - 1) (blank 0 0)) at_phase
        ∙ ap (λ b. get_or (set w.boxes (looked_at phase - 1) b) (x - 1) (blank 0 0)) same
        ∙ ap (λ l. get_or l (x - 1) (blank 0 0)) (same_boxes w (looked_at phase))

    by : (phase : Phase) → w.collector.phase ≡ phase → box (turned_at w (Some op)) x ≡ box w x
    by (Looking t) at_phase = dite (ℕ_discrete (x - 1) (t - 1))
        (λ (e : x - 1 ≡ t - 1).
        let its : op ≡ ops.LookBox t w.collector.epoch = some_op op (ops.LookBox t w.collector.epoch) (sym named ∙ looks_op w.collector t at_phase) in
        let (into, out) = out_word w x kept is giving in
        let found : cell (cells_of w) op ≡ crossing_word into WithMutator = ap (cell (cells_of w)) its ∙ ap (λ i. get_or w.crossing i 0) (sym e) ∙ out in
        let miss : cell (cells_of w) op ≢ crossing_word w.collector.epoch Retired = λ hit. omega (arith, hit, found) in
        still (Looking t) at_phase (ap (λ b. cond b (spare w.collector) (box w t)) (ne_eqb (cell (cells_of w) op) (crossing_word w.collector.epoch Retired) miss)))
        (λ (ne : x - 1 ≢ t - 1).
        ap (λ (f : Phase). get_or (set w.boxes (looked_at f - 1) (left_by w.collector (cell (cells_of w) op) (box w (looked_at f)) f)) (x - 1) (blank 0 0)) at_phase
        ∙ get_or-set_other w.boxes (t - 1) (x - 1) (left_by w.collector (cell (cells_of w) op) (box w t) (Looking t)) (blank 0 0) ne)
    by phase at_phase = still phase at_phase refl

mutator_beats : (key : Core) (run : List Move) (x : ℕ) → 1 ≤ x → beats_of x key run ≡ beats_of x key (run ++ Move.Turns ∷ [])
mutator_beats key run x le =
    let now : Core = after_moves key run in
    sym (beats_both x key run (Move.Turns ∷ []) ∙ ap (λ b. beats_of x key run ++ (cond b (turn_at now (next_of now.collector)) [] ++ [])) (ne_eqb 0 x (λ e. omega (arith, e, le))) ∙ append-nil (beats_of x key run))

-- What is known as the collector makes a turn.
record Here (key : Core) (s : State (Option Contents) View) (h : Holds key s) (c : CollectorSeat) (p : Private) (op : Op) : Type 0 where
  world : IsWorld (after_moves key h.run)
  is : (after_moves key h.run).collector ≡ p
  named : ◌≡◌ {A = Option Op} (next_of (after_moves key h.run).collector) (Some op)
  found : get_or s.words (index_of (length key.words) (length key.headers) op) 0 ≡ cell (cells_of (after_moves key h.run)) op
  words : (x : ℕ) → x ≡ written op (get_or s.words (index_of (length key.words) (length key.headers) op) 0)
      → set s.words (index_of (length key.words) (length key.headers) op) x ≡ row (cells_of (turned_at (after_moves key h.run) (Some op)))
  may : MayTurn (after_moves key h.run) op
  beats : (b : Beat) → b ≡ looked (after_moves key h.run) (cell (cells_of (after_moves key h.run)) op) (after_moves key h.run).collector.phase
      → c.log ++ b ∷ [] ≡ beats_of 0 key (h.run ++ Move.Turns ∷ [])

here_at : (key : Core) (s : State (Option Contents) View) (h : Holds key s) (id : ℕ) (c : CollectorSeat) (p : Private) (op : Op)
    → get_elem? s.views id ≡ some (Collects c) → p ≡ gathered_all key.collector c.log → ◌≡◌ {A = Option Op} (next_of p) (Some op) → Here key s h c p op
here_at key s h id c p op fit is_p next =
    let now : Core = after_moves key h.run in
    let mine = h.each id (Collects c) fit in
    let kept : IsKept false key = world_kept key h.world in
    let world : IsWorld now = world_after key h.run h.world h.fit in
    let is : now.collector ≡ p = collector_after key h.run kept h.fit h.offerless ∙ ap (gathered_all key.collector) (sym mine.3) ∙ sym is_p in
    let named : ◌≡◌ {A = Option Op} (next_of now.collector) (Some op) = ap next_of is ∙ next in
    let may : MayTurn now op = subst (λ (x : Option Op). IfSome x (MayTurn now)) named (may_turn now (world_kept now world)) in
    let i : ℕ = index_of (length key.words) (length key.headers) op in
    let at_i : index_of (length (cells_of now).words) (length (cells_of now).headers) op ≡ i = λ j. index_of (places_after key h.run kept h.fit j) (slots_after key h.run kept h.fit j) op in
    let found : get_or s.words i 0 ≡ cell (cells_of now) op = (λ j. get_or (h.words j) (sym at_i j) 0) ∙ row_read (cells_of now) op may.within in
    record {
      world = world;
      is = is;
      named = named;
      found = found;
      words = λ x e. (λ j. set (h.words j) (sym at_i j) ((e ∙ ap (written op) found) j)) ∙ row_write (cells_of now) op (written op (cell (cells_of now) op)) may.within;
      may = may;
      beats = λ b e. (λ j. mine.3 j ++ e j ∷ [])
          ∙ ap (λ (x : Option Op). beats_of 0 key h.run ++ (turn_at now x ++ [])) (sym named)
          ∙ sym (beats_both 0 key h.run (Move.Turns ∷ []));
    }

-- that turn alone is made
grows_by : (key : Core) (s : State (Option Contents) View) (h : Holds key s) (c : CollectorSeat) (p : Private) (op : Op) (f : ℕ → ℕ) (run' : List Move)
    → Here key s h c p op → ((n : ℕ) → f n ≡ written op n) → run' ≡ h.run ++ Move.Turns ∷ []
    → Grows key (operation (Collects c) Kind.Turns (index_of (length key.words) (length key.headers) op) f (get_or s.words (index_of (length key.words) (length key.headers) op) 0)) h.run run'
grows_by key s h c p op f run' here does more =
    let now : Core = after_moves key h.run in
    record {
      moves = more;
      steps = (
        op,
        ap (steps_in key) more
            ∙ over_both step_in key h.run (Move.Turns ∷ [])
            ∙ ap (λ (x : Option Op). steps_in key h.run ++ (turned_by now x ++ [])) here.named
            ∙ (λ j. steps_in key h.run ++ performed 0 op (sym here.found j) ∷ []),
        (refl, does),
      );
    }

-- the rule after the turn, with these mailboxes at home
turns_on : (key : Core) (s : State (Option Contents) View) (h : Holds key s) (id : ℕ) (c : CollectorSeat) (p : Private) (op : Op) (z : ℕ) (homes' : List (maybe.Option (Option Contents))) (b : Beat)
    → get_elem? s.views id ≡ some (Collects c) → (here : Here key s h c p op)
    → z ≡ written op (get_or s.words (index_of (length key.words) (length key.headers) op) 0)
    → homes' ≡ homes_of (turned_at (after_moves key h.run) (Some op)).crossing (turned_at (after_moves key h.run) (Some op)).boxes
    → b ≡ looked (after_moves key h.run) (cell (cells_of (after_moves key h.run)) op) (after_moves key h.run).collector.phase
    → (h' : Holds key (record { words = set s.words (index_of (length key.words) (length key.headers) op) z; homes = homes'; views = set s.views id (Collects (record c { log = c.log ++ b ∷ [] })) }))
    × (h'.run ≡ h.run ++ Move.Turns ∷ [])
turns_on key s h id c p op z homes' b fit here does homes_are beat_is =
    let now : Core = after_moves key h.run in
    let kept : IsKept false now = world_kept now here.world in
    let mine = h.each id (Collects c) fit in
    let run' : List Move = h.run ++ Move.Turns ∷ [] in
    let ends : after_moves key run' ≡ turned_at now (Some op) = after_both key h.run (Move.Turns ∷ []) ∙ ap (turned_at now) here.named in
    let others : (j : ℕ) (v : View) → j ≢ id → Fits key h.run h.made h.gone h.owner j v → Fits key run' h.made h.gone h.owner j v
    = λ j v ne f. other j v ne mine.0 ends kept here.named f in (
      record {
        run = run';
        made = h.made;
        gone = h.gone;
        owner = h.owner;
        world = h.world;
        fit = fit_both key h.run (Move.Turns ∷ []) h.fit (tt, tt);
        offerless = every_both OffersNone h.run (Move.Turns ∷ []) h.offerless (tt, tt);
        words = here.words z does ∙ ap (λ (x : Core). row (cells_of x)) (sym ends);
        homes = homes_are ∙ ap (λ (x : Core). homes_of x.crossing x.boxes) (sym ends);
        order = h.order;
        room = h.room;
        fresh = λ k le. sym (mutator_beats key h.run k (omega (arith, le))) ∙ h.fresh k le;
        each = fits_set key run' h.made h.gone h.owner s.views id (Collects (record c { log = c.log ++ b ∷ [] }))
            (λ j v ne e. others j v ne (h.each j v e))
            (mine.0, mine.1, mine.2, here.beats b beat_is, λ k lt. mine.4 k lt ∙ mutator_beats key h.run (k + 1) (omega arith));
      },
      refl,
    )
  where
    other : (j : ℕ) (v : View) → j ≢ id → id ≡ 0 → after_moves key (h.run ++ Move.Turns ∷ []) ≡ turned_at (after_moves key h.run) (Some op) → IsKept false (after_moves key h.run)
        → ◌≡◌ {A = Option Op} (next_of (after_moves key h.run).collector) (Some op) → Fits key h.run h.made h.gone h.owner j v → Fits key (h.run ++ Move.Turns ∷ []) h.made h.gone h.owner j v
    other j (Collects d) ne first ends kept named f = absurd (ne (f.0 ∙ sym first))
    other j (Mutates u) ne first ends kept named f =
        let now : Core = after_moves key h.run in
        let is : IsMutator now.config u.number = subst (λ (x : Config). IsMutator x u.number) (sym (config_after key h.run)) (omega (arith, f.1), omega (arith, f.2, h.room)) in (
          f.0,
          f.1,
          f.2,
          f.3 ∙ mutator_beats key h.run u.number (omega (arith, f.1)),
          subst (λ (x : Core). gives_back (mutator x u.number).phase ≡ true → u.hand ≡ box x u.number) (sym ends)
              (λ giving. f.4 giving ∙ sym (hand_kept now op u.number kept is named giving)),
        )
    other j Spent ne first ends kept named f = tt

plain_boxes : (w : Core) (op : Op) → IsKept false w → (left_by w.collector (cell (cells_of w) op) (box w (looked_at w.collector.phase)) w.collector.phase ≡ box w (looked_at w.collector.phase)) → (turned_at w (Some op)).boxes ≡ w.boxes
plain_boxes w op kept same = ap (set w.boxes (looked_at w.collector.phase - 1)) same ∙ same_boxes w (looked_at w.collector.phase)

-- A slot that is freed next is there, and it is taken.
pub freed_taken : (w : Core) (slot : ℕ) → IsSweep w (turned w) → ◌≡◌ {A = Option Op} (next_of w.collector) (Some (ops.FreeHeader slot)) → (slot < length w.headers) × IsTaken (sight w) slot
freed_taken w slot (IsSweep.rests names h f s) frees = absurd (subst SweepsNothing frees names)
freed_taken w slot (IsSweep.marks names h f o s) frees = let not_so : ◌≡◌ {A = Option Op} (Some ops.AddFreed) (Some (ops.FreeHeader slot)) = sym names ∙ frees in absurd (cc)
freed_taken w slot (IsSweep.frees x names below taken unreached odd h f) frees =
    let same : x ≡ slot = let one : ◌≡◌ {A = Option Op} (Some (ops.FreeHeader x)) (Some (ops.FreeHeader slot)) = sym names ∙ frees in cc in
    subst (λ i. (i < length w.headers) × IsTaken (sight w) i) same (below, taken)

finds_header : (w : Core) (op : Op) (p : Private) (n slot : ℕ) → IsKept false w → w.collector ≡ p → n ≡ cell (cells_of w) op → ◌≡◌ {A = Option Op} (next_of p) (Some op) → ◌≡◌ {A = Option Op} (next_of p) (Some (ops.FreeHeader slot)) → IsTakenHeader n
finds_header w op p n slot kept is found next frees =
    let its : op ≡ ops.FreeHeader slot = some_op op (ops.FreeHeader slot) (sym next ∙ frees) in
    let there = freed_taken w slot (turned_sweeps w kept) (ap next_of is ∙ frees) in
    subst IsTakenHeader (sym (found ∙ ap (cell (cells_of w)) its)) (All-get_or IsHeader w.headers slot 0 there.0 kept.labels there.1)

-- a turn that takes no mailbox and gives none back
pub turns : (key : Core) (slots id : ℕ) (c : CollectorSeat) (hs : List (ℕ × Option Contents)) (p : Private) (op : Op) (f : ℕ → ℕ) (st : Step (Option Contents))
    → p ≡ gathered_all key.collector c.log → ◌≡◌ {A = Option Op} (next_of p) (Some op) → IsPlainOp op
    → ((w : Core) (n : ℕ) → w.collector ≡ p → looked w n w.collector.phase ≡ Saw n)
    → ((w : Core) (n : ℕ) → w.collector ≡ p → left_by w.collector n (box w (looked_at w.collector.phase)) w.collector.phase ≡ box w (looked_at w.collector.phase))
    → ((n : ℕ) → f n ≡ written op n)
    → Operates key Kind.Turns slots id (Collects c, hs) (index_of (length key.words) (length key.headers) op) f (TurnedBy p st (Collects c, hs))
turns key slots id c hs p op f st is_p next plain sees stays does s h len at_id fit =
    let here : Here key s h c p op = here_at key s h id c p op at_id is_p next in
    let now : Core = after_moves key h.run in
    let n : ℕ = get_or s.words (index_of (length key.words) (length key.headers) op) 0 in
    let boxes : (turned_at now (Some op)).boxes ≡ now.boxes = plain_boxes now op (world_kept now here.world) (stays now (cell (cells_of now) op) here.is) in
    let crossing : (turned_at now (Some op)).crossing ≡ now.crossing = plain_crossing (cells_of now) op plain in
    let after = turns_on key s h id c p op (f n) s.homes (Saw n) at_id here (does n) (h.homes ∙ (λ j. homes_of (sym crossing j) (sym boxes j))) (ap (λ k. Saw k) here.found ∙ sym (sees now (cell (cells_of now) op) here.is)) in (
      Collects (record c { log = c.log ++ Saw n ∷ [] }),
      keeps,
      tt,
      after.0,
      grows_by key s h c p op f after.0.run here does after.1,
      (refl, subst (λ (q : Private). IsGiven q n) here.is (subst (IsGiven now.collector) (sym here.found) here.may.given), λ slot frees. finds_header now op p n slot (world_kept now here.world) here.is here.found next frees),
    )

pub returns_op : (c : Private) (t : ℕ) → c.phase ≡ Returning t → ◌≡◌ {A = Option Op} (next_of c) (Some (ops.ReturnBox t c.epoch))
unfolding next_of next_at
returns_op c t is = ap (next_at c) is

-- the mailbox that is given back next is held, with a spare
pub held_so : (w : Core) (t : ℕ) → IsKept false w → IsMutator w.config t → w.collector.phase ≡ Returning t → HasCrossed w.epoch (mutator w t) (crossing_of w t) WithCollector × (box w t ≡ spare_of w.config)
held_so w t kept is at_phase =
    subst (IsHandshake w.config w.epoch (mutator w t) (crossing_of w t) (box w t)) (held_stands w t kept at_phase) (actor_of w t kept is).handshake

-- what a compare-exchange for a mailbox that is home with what was retired leaves
abbrev pub tried : (epoch n : ℕ) → ℕ
tried epoch n = if n == crossing_word epoch Retired then crossing_word epoch WithCollector else n

-- it leaves what the look leaves of the word compared with
due_left : (t epoch : ℕ) → epoch < 2 ^ 24 → crossing_word epoch WithCollector ≡ written (ops.LookBox t epoch) (crossing_word epoch Retired)
due_left t epoch few =
    let small : crossing_word epoch Retired < 2 ^ 32 = omega (arith, few) in
    sym (plain_look_leaves t epoch (crossing_word epoch Retired) small ∙ ap (λ (b : Bool). cond b (crossing_word epoch WithCollector) (crossing_word epoch Retired)) (eq-eqb (crossing_word epoch Retired) (crossing_word epoch Retired) refl))

-- a look at the mailbox of mutator t
pub looks : (key : Core) (slots id t : ℕ) (c : CollectorSeat) (p : Private) (f : ℕ → ℕ) (st : Step (Option Contents))
    → p ≡ gathered_all key.collector c.log → p.phase ≡ Looking t → ((n : ℕ) → f n ≡ tried p.epoch n)
    → Operates key (Kind.Tries (crossing_word p.epoch Retired)) slots id (Collects c, []) (index_of (length key.words) (length key.headers) (ops.LookBox t p.epoch)) f (LookedBy p t st (Collects c, []))
looks key slots id t c p f st is_p phase does s h len at_id fit =
    let op : Op = ops.LookBox t p.epoch in
    let here : Here key s h c p op = here_at key s h id c p op at_id is_p (looks_op p t phase) in
    let now : Core = after_moves key h.run in
    let kept : IsKept false now = world_kept now here.world in
    let n : ℕ = get_or s.words (index_of (length key.words) (length key.headers) op) 0 in
    let word : ℕ = cell (cells_of now) op in
    let at_phase : now.collector.phase ≡ Looking t = ap (λ (q : Private). q.phase) here.is ∙ phase in
    let epoch : now.collector.epoch ≡ p.epoch = ap (λ (q : Private). q.epoch) here.is in
    let words_many = kept.mutators.words in
    let boxes_many = kept.mutators.mailboxes in
    let low : t - 1 < length now.crossing = omega (arith, here.may.within.0, here.may.within.1) in
    let low_box : t - 1 < length now.boxes = omega (arith, low, words_many, boxes_many) in
    let plain_word : word < 2 ^ 32 = looked_small now t kept at_phase in
    let plain : n < 2 ^ 32 = subst (λ (k : ℕ). k < 2 ^ 32) (sym here.found) plain_word in
    let few : p.epoch < 2 ^ 24 = subst (λ (q : Private). q.epoch < 2 ^ 24) here.is kept.collector.machine.epoch in
    let does_found : f n ≡ written op n = does n ∙ sym (plain_look_leaves t p.epoch n plain) in
    let tries : (k : ℕ) → f k ≡ (if k == crossing_word p.epoch Retired then written op (crossing_word p.epoch Retired) else k) = λ k. does k ∙ ap (λ (x : ℕ). if k == crossing_word p.epoch Retired then x else k) (due_left t p.epoch few) in
    dite (ℕ_discrete n (crossing_word p.epoch Retired))
    (λ (hit : n ≡ crossing_word p.epoch Retired).
    let b : Contents = box now t in
    let hits : eqb word (crossing_word now.collector.epoch Retired) ≡ true = eq-eqb word (crossing_word now.collector.epoch Retired) (sym here.found ∙ hit ∙ ap (λ e. crossing_word e Retired) (sym epoch)) in
    let writes : written op word ≡ crossing_word p.epoch WithCollector = plain_look_leaves t p.epoch word plain_word ∙ ap (λ x. cond x (crossing_word p.epoch WithCollector) word) (eq-eqb word (crossing_word p.epoch Retired) (sym here.found ∙ hit)) in
    let left : left_by now.collector word b (Looking t) ≡ spare now.collector = ap (λ x. cond x (spare now.collector) b) hits in
    let boxes : (turned_at now (Some op)).boxes ≡ set now.boxes (t - 1) (spare now.collector) =
    ap (λ (g : Phase). set now.boxes (looked_at g - 1) (left_by now.collector word (box now (looked_at g)) g)) at_phase ∙ ap (set now.boxes (t - 1)) left in
    let home : get_elem? s.homes (t - 1) ≡ some (some (Some b)) =
    ap (λ l. get_elem? l (t - 1)) h.homes ∙ homes_at now.crossing now.boxes (t - 1) (blank 0 0) low low_box
    ∙ ap (λ k. some k) (home_even word b (ap (λ k. k % 2) (sym here.found ∙ hit) ∙ even_two p.epoch)) in
    let homes' : set s.homes (t - 1) none ≡ homes_of (turned_at now (Some op)).crossing (turned_at now (Some op)).boxes =
    ap (λ l. set l (t - 1) none) h.homes
    ∙ ap (set (homes_of now.crossing now.boxes) (t - 1)) (sym (home_odd (crossing_word p.epoch WithCollector) (spare now.collector) (odd_three p.epoch)))
    ∙ sym (homes_set now.crossing now.boxes (t - 1) (crossing_word p.epoch WithCollector) (spare now.collector))
    ∙ (λ j. homes_of (set now.crossing (t - 1) (sym writes j)) (sym boxes j)) in
    let beat : Took n b ≡ looked now word now.collector.phase = sym (ap (looked now word) at_phase ∙ ap (λ x. cond x (Took word b) (Saw word)) hits ∙ ap (λ k. Took k b) (sym here.found)) in
    let sized : IsSized p.registers p.capacity b = subst (λ (q : Private). IsSized q.registers q.capacity b) here.is (subst (λ (g : Phase). IsSized now.collector.registers now.collector.capacity (box now (looked_at g))) at_phase here.may.sized) in
    let after = turns_on key s h id c p op (f n) (set s.homes (t - 1) none) (Took n b) at_id here does_found homes' beat in (
      Collects (record c { log = c.log ++ Took n b ∷ [] }),
      takes (t - 1) (Some b),
      home,
      after.0,
      tries_look key (Collects c) (index_of (length key.words) (length key.headers) op) n (crossing_word p.epoch Retired) f op h.run after.0.run tries does_found (grows_by key s h c p op (written op) after.0.run here (λ k. refl) after.1),
      ((λ e. (b, refl, sized)), (λ ne. absurd (ne hit)), plain),
    ))
    (λ (miss : n ≢ crossing_word p.epoch Retired).
    let misses : eqb word (crossing_word now.collector.epoch Retired) ≡ false = ne_eqb word (crossing_word now.collector.epoch Retired) (λ e. miss (here.found ∙ e ∙ ap (λ x. crossing_word x Retired) epoch)) in
    let writes : written op word ≡ word = plain_look_leaves t p.epoch word plain_word ∙ ap (λ x. cond x (crossing_word p.epoch WithCollector) word) (ne_eqb word (crossing_word p.epoch Retired) (λ e. miss (here.found ∙ e))) in
    let boxes : (turned_at now (Some op)).boxes ≡ now.boxes =
    ap (λ (g : Phase). set now.boxes (looked_at g - 1) (left_by now.collector word (box now (looked_at g)) g)) at_phase ∙ ap (λ x. set now.boxes (t - 1) (cond x (spare now.collector) (box now t))) misses ∙ same_boxes now t in
    let crossing : (turned_at now (Some op)).crossing ≡ now.crossing = ap (set now.crossing (t - 1)) writes ∙ set-get_or now.crossing (t - 1) 0 in
    let beat : Saw n ≡ looked now word now.collector.phase = sym (ap (looked now word) at_phase ∙ ap (λ x. cond x (Took word (box now t)) (Saw word)) misses ∙ ap (λ k. Saw k) (sym here.found)) in
    let after = turns_on key s h id c p op (f n) s.homes (Saw n) at_id here does_found (h.homes ∙ (λ j. homes_of (sym crossing j) (sym boxes j))) beat in (
      Collects (record c { log = c.log ++ Saw n ∷ [] }),
      keeps,
      tt,
      after.0,
      tries_look key (Collects c) (index_of (length key.words) (length key.headers) op) n (crossing_word p.epoch Retired) f op h.run after.0.run tries does_found (grows_by key s h c p op (written op) after.0.run here (λ k. refl) after.1),
      ((λ e. absurd (miss e)), (λ ne. refl), plain),
    ))

-- A glance is a load: a look that takes no mailbox, or no turn at all.
pub glances : (key : Core) (slots id t : ℕ) (c : CollectorSeat) (p : Private) (st : Step (Option Contents)) → p ≡ gathered_all key.collector c.log → p.phase ≡ Looking t
    → Operates key Kind.Glances slots id (Collects c, []) (index_of (length key.words) (length key.headers) (ops.LookBox t p.epoch)) (λ n. n) (GlancedBy p t st (Collects c, []))
glances key slots id t c p st is_p phase s h len at_id fit =
    let op : Op = ops.LookBox t p.epoch in
    let i : ℕ = index_of (length key.words) (length key.headers) op in
    let n : ℕ = get_or s.words i 0 in
    let epoch : crossing_word p.epoch Retired ≡ crossing_word (after_moves key h.run).collector.epoch Retired = ap (λ (q : Private). crossing_word q.epoch Retired) (sym (here_at key s h id c p op at_id is_p (looks_op p t phase)).is) in
    dite (ℕ_discrete n (crossing_word p.epoch Retired))
    (λ (hit : n ≡ crossing_word p.epoch Retired).
    let same = subst (λ (u : State (Option Contents) View). (h' : Holds key u) × Grows key (operation (Collects c) Kind.Glances i (λ k. k) n) h.run h'.run)
    (λ j. let u : State (Option Contents) View = record { words = sym (set-get_or s.words i 0) j; homes = s.homes; views = sym (set_again s.views id (Collects c) at_id) j } in u) (h, glances_due key (Collects c) i n h.run (hit ∙ epoch)) in (
      Collects c,
      keeps,
      tt,
      same.0,
      same.1,
      ((λ ne. absurd (ne hit)), (λ e. refl)),
    ))
    (λ (miss : n ≢ crossing_word p.epoch Retired).
    let all = looks key slots id t c p (tried p.epoch) st is_p phase (λ k. refl) s h len at_id fit in
    let same : tried p.epoch n ≡ n = ap (λ b. cond b (crossing_word p.epoch WithCollector) n) (ne_eqb n (crossing_word p.epoch Retired) miss) in
    let after = subst (λ z. (h' : Holds key (stepped s i z id [] all.0 all.1)) × Grows key (operation (Collects c) Kind.Glances i (λ k. k) n) h.run h'.run) same (all.3, glances_early key (Collects c) i n (crossing_word p.epoch Retired) (tried p.epoch) h.run all.3.run (λ e. miss (e ∙ sym epoch)) same all.4) in (
      all.0,
      all.1,
      all.2,
      after.0,
      after.1,
      ((λ ne. all.5), (λ e. absurd (miss e))),
    ))

-- the mailbox of mutator t is given back with a spare
pub returns_box : (key : Core) (slots id t : ℕ) (c : CollectorSeat) (p : Private) (f : ℕ → ℕ) (st : Step (Option Contents))
    → p ≡ gathered_all key.collector c.log → p.phase ≡ Returning t → ((n : ℕ) → f n ≡ written (ops.ReturnBox t p.epoch) n)
    → Operates key Kind.Turns slots id (Collects c, (t - 1, Some (spare p)) ∷ []) (index_of (length key.words) (length key.headers) (ops.ReturnBox t p.epoch)) f (ReturnedBy p st (Collects c, (t - 1, Some (spare p)) ∷ []))
returns_box key slots id t c p f st is_p phase does s h len at_id fit =
    let op : Op = ops.ReturnBox t p.epoch in
    let here : Here key s h c p op = here_at key s h id c p op at_id is_p (returns_op p t phase) in
    let now : Core = after_moves key h.run in
    let kept : IsKept false now = world_kept now here.world in
    let n : ℕ = get_or s.words (index_of (length key.words) (length key.headers) op) 0 in
    let word : ℕ = cell (cells_of now) op in
    let at_phase : now.collector.phase ≡ Returning t = ap (λ (q : Private). q.phase) here.is ∙ phase in
    let words_many = kept.mutators.words in
    let is : IsMutator now.config t = (here.may.within.0, omega (arith, here.may.within.1, words_many)) in
    let held = held_so now t kept is at_phase in
    let epoch : now.epoch ≡ p.epoch = sym kept.collector.epoch ∙ ap (λ (q : Private). q.epoch) here.is in
    let few : p.epoch < 2 ^ 24 = subst (λ (q : Private). q.epoch < 2 ^ 24) here.is kept.collector.machine.epoch in
    let writes : written op word ≡ crossing_word p.epoch Spare = ap (written op) (held.0.word ∙ ap (λ e. crossing_word e WithCollector) epoch) ∙ plain_returned t p.epoch (omega (arith, few)) in
    let b_is : box now t ≡ spare p = held.1 ∙ sym (its_spare kept.collector) ∙ ap spare here.is in
    let boxes : (turned_at now (Some op)).boxes ≡ set now.boxes (t - 1) (spare p) =
    ap (λ (g : Phase). set now.boxes (looked_at g - 1) (left_by now.collector word (box now (looked_at g)) g)) at_phase ∙ same_boxes now 1 ∙ sym (same_boxes now t) ∙ ap (set now.boxes (t - 1)) b_is in
    let homes' : set s.homes (t - 1) (some (Some (spare p))) ≡ homes_of (turned_at now (Some op)).crossing (turned_at now (Some op)).boxes =
    ap (λ l. set l (t - 1) (some (Some (spare p)))) h.homes
    ∙ ap (set (homes_of now.crossing now.boxes) (t - 1)) (sym (home_even (crossing_word p.epoch Spare) (spare p) (even_zero p.epoch)))
    ∙ sym (homes_set now.crossing now.boxes (t - 1) (crossing_word p.epoch Spare) (spare p))
    ∙ (λ j. homes_of (set now.crossing (t - 1) (sym writes j)) (sym boxes j)) in
    let beat : Saw n ≡ looked now word now.collector.phase = sym (ap (looked now word) at_phase ∙ ap (λ k. Saw k) (sym here.found)) in
    let after = turns_on key s h id c p op (f n) (set s.homes (t - 1) (some (Some (spare p)))) (Saw n) at_id here (does n) homes' beat in (
      Collects (record c { log = c.log ++ Saw n ∷ [] }),
      gives,
      tt,
      after.0,
      grows_by key s h c p op f after.0.run here does after.1,
      (refl, subst (λ (q : Private). IsGiven q n) here.is (subst (IsGiven now.collector) (sym here.found) here.may.given)),
    )

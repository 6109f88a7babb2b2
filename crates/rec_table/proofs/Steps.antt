-- A mutator's step that takes no mailbox keeps the rule.
use Rattle.std.proofs.Common.{◌≡◌, ◌≢◌, ⊎_elim, ℕ, ◌+◌, ◌-◌, ◌*◌, ◌<◌, ◌≤◌, Bool, true, false, true≢false, cond, eqb, eq-eqb, ne_eqb, List, [], ◌∷◌, ◌++◌, length, get_or, set, Option, Some, None, refl, sym, ap, ◌∙◌, subst, arith, append-nil, get_or-set_same, get_or-set_other}
use mathlib.Core.Option as maybe
use mathlib.Core.Option.{some}
use lib.ListN.{get_elem?}
use Rattle.atomic_table.specs.Table.{State, Step, keeps}
use Rattle.atomic_table.proofs.Lists.{at_set}
use Rattle.rec_word.specs.Header.{is_leaf}
use Rattle.rec_word.specs.declared.op.Op.TheVariants as ops
use Rattle.rec_model.specs.declared.command.Cmd.{Cmd}
use Rattle.rec_model.specs.declared.command.Cmd.TheVariants as commands
use Rattle.rec_mutator.specs.Next.{next_of, next_at, read_op, write_op, label_op, new_op}
use Rattle.rec_mutator.specs.Step.{NamesSlots}
use Rattle.rec_model.specs.Asking.{plain as plain_told}
use Rattle.rec_mutator.specs.declared.phase.Phase as phases
use Rattle.rec_mutator.specs.declared.phase.Phase.TheVariants as at
use Rattle.rec_mutator.specs.declared.work.Work.TheVariants as works
use Rattle.rec_model.specs.declared.answer.Answer.TheVariants as answers
use Rattle.rec_mutator.specs.declared.made.Made.TheVariants as makes
use Rattle.rec_mutator.proofs.Steps.{TakesNone, here_same, learnt_made, step_between}
use Rattle.rec_collector.specs.Private as collectors
use Rattle.rec_core.specs.Preconditions.{MayStep}
use Rattle.rec_core.specs.declared.config.Config.{Config}
use Rattle.rec_core.proofs.Crossings.{left_same}
use Rattle.std.proofs.lemmas.List.{set-get_or}
use Rattle.rec_mutator.specs.Took.{is_uncollected, leaving_by}
use Rattle.rec_table.proofs.Common.{written, Op, Contents, Private, is_busy, is_full, register, probe_of, begun_of, took_of, took_at, read_by, allowed_by, written_by, answered, moved, born_in, spare, left_of, step_of, IsFound, IsMutator, Core, cells_of, mutator, nobody, box, IsKept, Move, AllFit, after_moves, found_by, stepped, begun_from, Cells, IsWithin, cell, with_cell, IsWorld, world_kept, moved_world, actor_of, in_list, fields_many, may_step, names_slots, beats_of, told, learnt, gives_back, OffersNone, Offerless, Kind, Performed, Adds, Grows, Operates, moves_of, operation, performed, step_in, steps_in, row, index_of, Holds, ready, MayGo, beats, longer, MadeBy, Begins, Saw, Seated, View, Collects, Mutates, Spent, after_both, config_after, every_both, fit_both, moves_kept, over_both}
use Rattle.rec_table.specs.Homes.{homes_of}
use Rattle.rec_table.specs.Rule.{Fits}
pub use Rattle.rec_table.specs.Straight.{IsPlainOp}
use Rattle.rec_table.specs.declared.start.Start.{Start}
use Rattle.rec_world.proofs.Row.{row_read, row_write}
use Rattle.rec_table.proofs.Beats.{beats_both, world_after, mutator_after, step_same}
use Rattle.rec_mutator.proofs.Straight.{begun_busy}

-- the state in which the step is made
abbrev pub before : Core → (t : ℕ) → Option Start → Core
before w t None = w
before w t (Some start) = begun_from w t start.work start.from

ready_is : (w : Core) (t : ℕ) (wk : Option Start) → IsKept false w → IsMutator w.config t → mutator (before w t wk) t ≡ ready (mutator w t) wk
ready_is w t None kept is = refl
ready_is w t (Some start) kept is = get_or-set_same w.mutators (t - 1) (begun_of (mutator w t) start.work start.from) nobody (in_list w t kept is)

-- a slot of the mutator is one of the heap
starts : (w : Core) (t from : ℕ) → IsKept false w → IsMutator w.config t → from < (mutator w t).slots → from < w.config.slots
starts w t from kept is there = subst (λ n. from < n) (actor_of w t kept is).own.slots there

before_world : (w : Core) (t : ℕ) (wk : Option Start) → IsWorld w → IsMutator w.config t → MayGo (mutator w t) wk → IsWorld (before w t wk)
before_world w t None world is may = world
before_world w t (Some start) world is may = moved_world w (Move.Begins t start.work start.from) world (is, may.0, may.1, may.2, may.3, starts w t start.from (world_kept w world) is may.4)

before_busy : (w : Core) (t : ℕ) (wk : Option Start) → IsKept false w → IsMutator w.config t → MayGo (mutator w t) wk → is_busy (mutator (before w t wk) t) ≡ true
before_busy w t None kept is may = may
before_busy w t (Some start) kept is may = ap is_busy (ready_is w t (Some start) kept is) ∙ begun_busy (mutator w t) start.work start.from

before_config : (w : Core) (t : ℕ) (wk : Option Start) → (before w t wk).config ≡ w.config
before_config w t None = refl
before_config w t (Some start) = refl

before_cells : (w : Core) (t : ℕ) (wk : Option Start) → cells_of (before w t wk) ≡ cells_of w
before_cells w t None = refl
before_cells w t (Some start) = refl

before_boxes : (w : Core) (t : ℕ) (wk : Option Start) → (before w t wk).boxes ≡ w.boxes
before_boxes w t None = refl
before_boxes w t (Some start) = refl

all_fit : (w : Core) (t : ℕ) (wk : Option Start) → IsWorld w → IsMutator w.config t → MayGo (mutator w t) wk → AllFit w (moves_of t wk)
all_fit w t None world is may = ((is, may), tt)
all_fit w t (Some start) world is may =
    let kept : IsKept false w = world_kept w world in
    ((is, may.0, may.1, may.2, may.3, starts w t start.from kept is may.4), ((is, before_busy w t (Some start) kept is may), tt))

after_is : (w : Core) (t : ℕ) (wk : Option Start) → after_moves w (moves_of t wk) ≡ stepped (before w t wk) t
after_is w t None = refl
after_is w t (Some start) = refl

own_beats : (w : Core) (t : ℕ) (wk : Option Start) → beats_of t w (moves_of t wk) ≡ beats wk (found_by (before w t wk) t)
own_beats w t None = ap (λ b. cond b (Saw (found_by w t) ∷ []) [] ++ []) (eq-eqb t t refl)
own_beats w t (Some start) = ap (λ b. cond b (Begins start ∷ []) [] ++ (cond b (Saw (found_by (begun_from w t start.work start.from) t) ∷ []) [] ++ [])) (eq-eqb t t refl)

own_steps : (w : Core) (t : ℕ) (wk : Option Start) → steps_in w (moves_of t wk) ≡ performed t (next_of (mutator (before w t wk) t)) (found_by (before w t wk) t) ∷ []
own_steps w t None = refl
own_steps w t (Some start) = refl

no_beats : (w : Core) (t x : ℕ) (wk : Option Start) → t ≢ x → beats_of x w (moves_of t wk) ≡ []
no_beats w t x None ne = ap (λ b. cond b (Saw (found_by w t) ∷ []) [] ++ []) (ne_eqb t x ne)
no_beats w t x (Some start) ne = ap (λ b. cond b (Begins start ∷ []) [] ++ (cond b (Saw (found_by (begun_from w t start.work start.from) t) ∷ []) [] ++ [])) (ne_eqb t x ne)

moves_offerless : (t : ℕ) (wk : Option Start) → Offerless (moves_of t wk)
moves_offerless t None = (tt, tt)
moves_offerless t (Some start) = (tt, (tt, tt))

-- a phase in which no step moves a mailbox
abbrev pub IsPlain : phases.Phase → Type 0
IsPlain at.Crossing = ⊥
IsPlain at.Swapping = ⊥
IsPlain at.Giving = ⊥
IsPlain at.Leaving = ⊥
IsPlain at.Retiring = ⊥
IsPlain at.Parting = ⊥
IsPlain (at.Passing passage) = ⊥
IsPlain _ = Unit {0}

pub plain_next : (p : Private) → IsPlain p.phase → IsPlainOp (next_of p)
unfolding next_of next_at
plain_next p plain = by p.phase plain
  where
    read : (f : ℕ) (x : Option ℕ) → IsPlainOp (read_op p f x)
    read f None = tt
    read f (Some slot) = tt

    wrote : (x : Option ℕ) (full : Bool) → IsPlainOp (write_op p x full)
    wrote None full = tt
    wrote (Some slot) true = tt
    wrote (Some slot) false = tt

    labelled : (x : Option ℕ) → IsPlainOp (label_op p x)
    labelled None = tt
    labelled (Some slot) = tt

    new : (full : Bool) → IsPlainOp (new_op p full)
    new true = tt
    new false = tt

    by : (phase : phases.Phase) → IsPlain phase → IsPlainOp (next_at p phase)
    by (at.Begun (works.Command (commands.New reg label))) is = new (is_full p)
    by (at.Begun (works.Command (commands.Leaf reg label))) is = new (is_full p)
    by (at.Begun (works.Command (commands.Get dst src f))) is = read f (register p src)
    by (at.Begun (works.Command (commands.Put src f val))) is = wrote (register p src) (is_full p)
    by (at.Begun (works.Command (commands.Value reg))) is = labelled (register p reg)
    by at.Crossing is = absurd is
    by at.Swapping is = absurd is
    by at.Giving is = absurd is
    by at.Leaving is = absurd is
    by at.Retiring is = absurd is
    by at.Parting is = absurd is
    by (at.Passing passage) is = absurd is
    by _ is = tt

pub plain_crossing : (cells : Cells) (op : Op) → IsPlainOp op → (with_cell cells op (written op (cell cells op))).crossing ≡ cells.crossing
plain_crossing cells (ops.LoadCross t) is = set-get_or cells.crossing (t - 1) 0
plain_crossing cells (ops.TakeBox t e) is = absurd is
plain_crossing cells (ops.GiveBox t e) is = absurd is
plain_crossing cells (ops.LookBox t e) is = absurd is
plain_crossing cells (ops.ReturnBox t e) is = absurd is
plain_crossing cells (ops.ShiftBox t shift) is = absurd is
plain_crossing cells _ is = refl

pub plain_takes_none : (phase : phases.Phase) → IsPlain phase → TakesNone phase
plain_takes_none at.Crossing is = absurd is
plain_takes_none at.Swapping is = absurd is
plain_takes_none at.Giving is = absurd is
plain_takes_none at.Leaving is = absurd is
plain_takes_none at.Retiring is = absurd is
plain_takes_none (at.Passing passage) is = absurd is
plain_takes_none _ is = tt

-- such a step leaves every mailbox where it is
plain_homes : (w : Core) (t : ℕ) → is_busy (mutator w t) ≡ true → IsPlain (mutator w t).phase → homes_of (stepped w t).crossing (stepped w t).boxes ≡ homes_of w.crossing w.boxes
plain_homes w t busy plain =
    let p : Private = mutator w t in
    let b : Contents = box w t in
    let left : left_of (took_of p (found_by w t)) b ≡ b = left_same (took_of p (found_by w t)) b (step_between (learnt_made p (found_by w t) b busy (plain_takes_none p.phase plain))) in
    let crossing : (stepped w t).crossing ≡ w.crossing = plain_crossing (cells_of w) (next_of p) (plain_next p plain) in
    let boxes : (stepped w t).boxes ≡ w.boxes = ap (λ x. set w.boxes (t - 1) x) left ∙ set-get_or w.boxes (t - 1) (collectors.blank 0 0) in
    λ i. homes_of (crossing i) (boxes i)

-- the lengths of the rows stay
pub places_after : (w : Core) (ms : List Move) → IsKept false w → AllFit w ms → length (after_moves w ms).words ≡ length w.words
places_after w ms kept fit =
    let v : Core = after_moves w ms in
    let config : v.config ≡ w.config = config_after w ms in
    sym (fields_many v v.config.slots v.config.fields (moves_kept w ms kept fit) refl refl)
    ∙ ap (λ (c : Config). c.slots * c.fields) config
    ∙ fields_many w w.config.slots w.config.fields kept refl refl

pub slots_after : (w : Core) (ms : List Move) → IsKept false w → AllFit w ms → length (after_moves w ms).headers ≡ length w.headers
slots_after w ms kept fit = (moves_kept w ms kept fit).headers ∙ ap (λ (c : Config). c.slots) (config_after w ms) ∙ sym kept.headers

-- the fits of all views after the view of one has changed
pub fits_set : (key : Core) (run : List Move) (made gone : ℕ) (owner : ℕ → ℕ) (views : List View) (id : ℕ) (w : View)
    → ((j : ℕ) (v : View) → j ≢ id → get_elem? views j ≡ some v → Fits key run made gone owner j v)
    → Fits key run made gone owner id w
    → (j : ℕ) (v : View) → get_elem? (set views id w) j ≡ some v → Fits key run made gone owner j v
fits_set key run made gone owner views id w others mine j v e =
    ⊎_elim
    (λ (x : (j ≡ id) × (w ≡ v)). subst (λ (y : ℕ × View). Fits key run made gone owner y.0 y.1) (λ i. (sym x.0 i, x.1 i)) mine)
    (λ (x : (j ≢ id) × (get_elem? views j ≡ some v)). others j v x.0 x.1)
    (at_set views id j w v e)

other_beats : (key : Core) (run : List Move) (t x : ℕ) (wk : Option Start) → t ≢ x → beats_of x key run ≡ beats_of x key (run ++ moves_of t wk)
other_beats key run t x wk ne =
    sym (beats_both x key run (moves_of t wk) ∙ ap (λ l. beats_of x key run ++ l) (no_beats (after_moves key run) t x wk ne) ∙ append-nil (beats_of x key run))

-- a step of t leaves another mutator's record and mailbox
else_private : (l : List Private) (t x : ℕ) (q d : Private) → t ≢ x → 1 ≤ t → 1 ≤ x → get_or (set l (t - 1) q) (x - 1) d ≡ get_or l (x - 1) d
else_private l t x q d ne a b = get_or-set_other l (t - 1) (x - 1) q d (λ e. ne (omega (arith, e)))

else_box : (l : List Contents) (t x : ℕ) (q d : Contents) → t ≢ x → 1 ≤ t → 1 ≤ x → get_or (set l (t - 1) q) (x - 1) d ≡ get_or l (x - 1) d
else_box l t x q d ne a b = get_or-set_other l (t - 1) (x - 1) q d (λ e. ne (omega (arith, e)))

before_else : (w : Core) (t x : ℕ) (wk : Option Start) → t ≢ x → 1 ≤ t → 1 ≤ x → mutator (before w t wk) x ≡ mutator w x
before_else w t x None ne a b = refl
before_else w t x (Some start) ne a b = else_private w.mutators t x (begun_of (mutator w t) start.work start.from) nobody ne a b

-- the hand of another
hand_stays : (now : Core) (t x : ℕ) (wk : Option Start) (hand : Contents) → t ≢ x → 1 ≤ t → 1 ≤ x → (gives_back (mutator now x).phase ≡ true → hand ≡ box now x)
    → gives_back (mutator (stepped (before now t wk) t) x).phase ≡ true → hand ≡ box (stepped (before now t wk) t) x
hand_stays now t x wk hand ne a b f giving =
    let v : Core = before now t wk in
    let same : mutator (stepped v t) x ≡ mutator now x = else_private v.mutators t x (step_of (mutator v t) (found_by v t) (box v t)) nobody ne a b ∙ before_else now t x wk ne a b in
    f (ap (λ (p : Private). gives_back p.phase) (sym same) ∙ giving)
    ∙ ap (λ l. get_or l (x - 1) (collectors.blank 0 0)) (sym (before_boxes now t wk))
    ∙ sym (else_box v.boxes t x (left_of (took_of (mutator v t) (found_by v t)) (box v t)) (collectors.blank 0 0) ne a b)

-- another's view, after a step of t
fits_on : (key : Core) (run : List Move) (made gone : ℕ) (owner : ℕ → ℕ) (t : ℕ) (wk : Option Start) (id j : ℕ) → owner t ≡ id → gone < t → j ≢ id
    → (v : View) → Fits key run made gone owner j v → Fits key (run ++ moves_of t wk) made gone owner j v
fits_on key run made gone owner t wk id j own low ne (Collects c) f =
    (f.0, f.1, f.2, f.3 ∙ other_beats key run t 0 wk (λ e. omega (arith, e)), λ k lt. f.4 k lt ∙ other_beats key run t (k + 1) wk (λ e. omega (arith, e)))
fits_on key run made gone owner t wk id j own low ne (Mutates u) f =
    let apart : t ≢ u.number = λ e. ne (sym f.0 ∙ ap owner (sym e) ∙ own) in
    let ends : after_moves key (run ++ moves_of t wk) ≡ stepped (before (after_moves key run) t wk) t = after_both key run (moves_of t wk) ∙ after_is (after_moves key run) t wk in (
      f.0,
      f.1,
      f.2,
      f.3 ∙ other_beats key run t u.number wk apart,
      subst (λ (c : Core). gives_back (mutator c u.number).phase ≡ true → u.hand ≡ box c u.number) (sym ends)
          (hand_stays (after_moves key run) t u.number wk u.hand apart (omega arith) (omega (arith, f.1)) f.4),
    )
fits_on key run made gone owner t wk id j own low ne Spent f = tt

-- What is known as mutator t makes a step: `now` is the end of the run so far, and `v` the state in which the step is made.
pub record Here (key : Core) (s : State (Option Contents) View) (h : Holds key s) (t : Seated) (wk : Option Start) (p : Private) (op : Op) : Type 0 where
  pub goes : MayGo (mutator (after_moves key h.run) t.number) wk
  pub now_world : IsWorld (after_moves key h.run)
  pub now_here : IsMutator (after_moves key h.run).config t.number
  pub world : IsWorld (before (after_moves key h.run) t.number wk)
  pub here : IsMutator (before (after_moves key h.run) t.number wk).config t.number
  pub busy : is_busy (mutator (before (after_moves key h.run) t.number wk) t.number) ≡ true
  pub is : mutator (before (after_moves key h.run) t.number wk) t.number ≡ ready p wk
  pub found : get_or s.words (index_of (length key.words) (length key.headers) op) 0 ≡ found_by (before (after_moves key h.run) t.number wk) t.number
  pub words : (x : ℕ) → x ≡ written op (get_or s.words (index_of (length key.words) (length key.headers) op) 0)
      → set s.words (index_of (length key.words) (length key.headers) op) x ≡ row (cells_of (stepped (before (after_moves key h.run) t.number wk) t.number))
  pub homes : s.homes ≡ homes_of (before (after_moves key h.run) t.number wk).crossing (before (after_moves key h.run) t.number wk).boxes
  pub may : IsFound (ready p wk) op (get_or s.words (index_of (length key.words) (length key.headers) op) 0)
  pub learns : mutator (stepped (before (after_moves key h.run) t.number wk) t.number) t.number ≡ learnt (ready p wk) (Saw (get_or s.words (index_of (length key.words) (length key.headers) op) 0))
  pub names : NamesSlots (learnt (ready p wk) (Saw (get_or s.words (index_of (length key.words) (length key.headers) op) 0)))

pub here_at : (key : Core) (s : State (Option Contents) View) (h : Holds key s) (id : ℕ) (t : Seated) (wk : Option Start) (p : Private) (op : Op)
    → get_elem? s.views id ≡ some (Mutates t) → p ≡ told (mutator key t.number) t.log → MayGo p wk → op ≡ next_of (ready p wk) → Here key s h t wk p op
here_at key s h id t wk p op fit is_p may is_op =
    let x : ℕ = t.number in
    let now : Core = after_moves key h.run in
    let mine = h.each id (Mutates t) fit in
    let there : IsMutator key.config x = (omega (arith, mine.1), omega (arith, mine.2, h.room)) in
    let kept : IsKept false key = world_kept key h.world in
    let world : IsWorld now = world_after key h.run h.world h.fit in
    let here : IsMutator now.config x = subst (λ (c : Config). IsMutator c x) (sym (config_after key h.run)) there in
    let actor : mutator now x ≡ p = mutator_after key h.run x kept h.fit there ∙ (ap (told (mutator key x)) (sym mine.3) ∙ sym is_p) in
    let goes : MayGo (mutator now x) wk = subst (λ (q : Private). MayGo q wk) (sym actor) may in
    let v : Core = before now x wk in
    let v_world : IsWorld v = before_world now x wk world here goes in
    let v_here : IsMutator v.config x = subst (λ (c : Config). IsMutator c x) (sym (before_config now x wk)) here in
    let v_busy : is_busy (mutator v x) ≡ true = before_busy now x wk (world_kept now world) here goes in
    let v_is : mutator v x ≡ ready p wk = ready_is now x wk (world_kept now world) here ∙ ap (λ q. ready q wk) actor in
    let v_op : next_of (mutator v x) ≡ op = ap next_of v_is ∙ sym is_op in
    let steps_ : MayStep v x = may_step v x (world_kept v v_world) v_here v_busy in
    let within : IsWithin (cells_of v) op = subst (IsWithin (cells_of v)) v_op steps_.within in
    let cells : cells_of v ≡ cells_of now = before_cells now x wk in
    let i : ℕ = index_of (length key.words) (length key.headers) op in
    let n : ℕ = get_or s.words i 0 in
    let words : s.words ≡ row (cells_of v) = h.words ∙ ap row (sym cells) in
    let places : length (cells_of v).words ≡ length key.words = ap (λ (c : Cells). length c.words) cells ∙ places_after key h.run kept h.fit in
    let headers : length (cells_of v).headers ≡ length key.headers = ap (λ (c : Cells). length c.headers) cells ∙ slots_after key h.run kept h.fit in
    let at_i : index_of (length (cells_of v).words) (length (cells_of v).headers) op ≡ i = λ j. index_of (places j) (headers j) op in
    let found : n ≡ cell (cells_of v) op = (λ j. get_or (words j) (sym at_i j) 0) ∙ row_read (cells_of v) op within in
    let found' : n ≡ found_by v x = found ∙ ap (cell (cells_of v)) (sym v_op) in
    let u : Core = stepped v x in
    let u_world : IsWorld u = moved_world v (Move.Steps x) v_world (v_here, v_busy) in
    let u_is : mutator u x ≡ learnt (ready p wk) (Saw n) =
    get_or-set_same v.mutators (x - 1) (step_of (mutator v x) (found_by v x) (box v x)) nobody (in_list v x (world_kept v v_world) v_here)
    ∙ step_same v x (world_kept v v_world) v_here v_busy
    ∙ (λ j. learnt (v_is j) (Saw (sym found' j))) in
    record {
      goes = goes;
      now_world = world;
      now_here = here;
      world = v_world;
      here = v_here;
      busy = v_busy;
      is = v_is;
      found = found';
      words = λ z e. (λ j. set (words j) (sym at_i j) ((e ∙ ap (written op) found) j))
          ∙ row_write (cells_of v) op (written op (cell (cells_of v) op)) within
          ∙ ap (λ o. row (with_cell (cells_of v) o (written o (cell (cells_of v) o)))) (sym v_op);
      homes = h.homes ∙ (λ j. homes_of (sym cells j).crossing (sym (before_boxes now x wk) j));
      may = subst (λ (q : Private). IsFound q op n) v_is (subst (λ (o : Op). IsFound (mutator v x) o n) v_op (subst (IsFound (mutator v x) (next_of (mutator v x))) (sym found') steps_.found));
      learns = u_is;
      names = subst NamesSlots u_is (names_slots u x (world_kept u u_world) v_here);
    }

adds_one : (key : Core) (t : Seated) (wk : Option Start) (f : ℕ → ℕ) (found : ℕ) (op : Op) (was now : List Performed) → now ≡ was ++ performed t.number op found ∷ [] → ((n : ℕ) → f n ≡ written op n)
    → Adds key (operation (Mutates t) (Kind.Steps wk) (index_of (length key.words) (length key.headers) op) f found) (moves_of t.number wk) was now
adds_one key t None f found op was now more does = (op, more, (refl, does))
adds_one key t (Some start) f found op was now more does = (op, more, (refl, does))

-- that step alone is made, with the work that begins
pub grows_by : (key : Core) (s : State (Option Contents) View) (h : Holds key s) (t : Seated) (wk : Option Start) (p : Private) (op : Op) (f : ℕ → ℕ) (run' : List Move)
    → Here key s h t wk p op → op ≡ next_of (ready p wk) → ((n : ℕ) → f n ≡ written op n) → run' ≡ h.run ++ moves_of t.number wk
    → Grows key (operation (Mutates t) (Kind.Steps wk) (index_of (length key.words) (length key.headers) op) f (get_or s.words (index_of (length key.words) (length key.headers) op) 0)) h.run run'
grows_by key s h t wk p op f run' here is_op does more =
    let x : ℕ = t.number in
    let now : Core = after_moves key h.run in
    let its : next_of (mutator (before now x wk) x) ≡ op = ap next_of here.is ∙ sym is_op in
    record {
      moves = more;
      steps = adds_one key t wk f (get_or s.words (index_of (length key.words) (length key.headers) op) 0) op (steps_in key h.run) (steps_in key run')
          (ap (steps_in key) more
          ∙ over_both step_in key h.run (moves_of x wk)
          ∙ ap (λ l. steps_in key h.run ++ l) (own_steps now x wk ∙ (λ j. performed x (its j) (sym here.found j) ∷ [])))
          does;
    }

-- the rule after the step, with these mailboxes at home
pub goes_on : (key : Core) (s : State (Option Contents) View) (h : Holds key s) (id : ℕ) (t : Seated) (wk : Option Start) (p : Private) (op : Op) (z : ℕ) (homes' : List (maybe.Option (Option Contents))) (hand : Contents)
    → get_elem? s.views id ≡ some (Mutates t) → (here : Here key s h t wk p op)
    → z ≡ written op (get_or s.words (index_of (length key.words) (length key.headers) op) 0)
    → homes' ≡ homes_of (stepped (before (after_moves key h.run) t.number wk) t.number).crossing (stepped (before (after_moves key h.run) t.number wk) t.number).boxes
    → (gives_back (mutator (stepped (before (after_moves key h.run) t.number wk) t.number) t.number).phase ≡ true → hand ≡ box (stepped (before (after_moves key h.run) t.number wk) t.number) t.number)
    → (h' : Holds key (record { words = set s.words (index_of (length key.words) (length key.headers) op) z; homes = homes'; views = set s.views id (Mutates (record t { log = t.log ++ beats wk (get_or s.words (index_of (length key.words) (length key.headers) op) 0); hand = hand })) }))
    × (h'.run ≡ h.run ++ moves_of t.number wk)
goes_on key s h id t wk p op z homes' hand fit here does homes_are holds_it =
    let x : ℕ = t.number in
    let now : Core = after_moves key h.run in
    let mine = h.each id (Mutates t) fit in
    let v : Core = before now x wk in
    let n : ℕ = get_or s.words (index_of (length key.words) (length key.headers) op) 0 in
    let ms : List Move = moves_of x wk in
    let run' : List Move = h.run ++ ms in
    let ends : after_moves key run' ≡ stepped v x = after_both key h.run ms ∙ after_is now x wk in
    let longer_ : t.log ++ beats wk n ≡ beats_of x key run' =
    (λ j. mine.3 j ++ beats wk (here.found j)) ∙ (ap (λ l. beats_of x key h.run ++ l) (sym (own_beats now x wk)) ∙ sym (beats_both x key h.run ms)) in
    let t' : Seated = record t { log = t.log ++ beats wk n; hand = hand } in (
      record {
        run = run';
        made = h.made;
        gone = h.gone;
        owner = h.owner;
        world = h.world;
        fit = fit_both key h.run ms h.fit (all_fit now x wk here.now_world here.now_here here.goes);
        offerless = every_both OffersNone h.run ms h.offerless (moves_offerless x wk);
        words = here.words z does ∙ ap (λ (c : Core). row (cells_of c)) (sym ends);
        homes = homes_are ∙ ap (λ (c : Core). homes_of c.crossing c.boxes) (sym ends);
        order = h.order;
        room = h.room;
        fresh = λ k le. sym (other_beats key h.run x k wk (λ e. omega (arith, e, mine.2))) ∙ h.fresh k le;
        each = fits_set key run' h.made h.gone h.owner s.views id (Mutates t')
            (λ j u ne e. fits_on key h.run h.made h.gone h.owner x wk id j mine.0 mine.1 ne u (h.each j u e))
            (mine.0, mine.1, mine.2, longer_, subst (λ (c : Core). gives_back (mutator c x).phase ≡ true → hand ≡ box c x) (sym ends) holds_it);
      },
      refl,
    )

-- what a step that moves no mailbox leads to isn't a phase in which one is given back
not_giving : (p : Private) (word : ℕ) (phase : phases.Phase) → IsPlain phase → gives_back (took_at p word phase).phase ≡ false
unfolding took_at
not_giving p word phase plain = by phase plain
  where
    new : (q r : Private) (b : Bool) → gives_back q.phase ≡ false → gives_back r.phase ≡ false → gives_back (cond b q r).phase ≡ false
    new q r true a b = a
    new q r false a b = b

    read : (cmd : Cmd) (dst : ℕ) (x : Option ℕ) → gives_back (read_by p cmd dst word x).phase ≡ false
    read cmd dst None = refl
    read cmd dst (Some slot) = refl

    allowed : (src f val slot : ℕ) (leaf : Bool) → gives_back (allowed_by p src f val slot leaf).phase ≡ false
    allowed src f val slot true = refl
    allowed src f val slot false = refl

    wrote : (src f val : ℕ) (x : Option ℕ) (full : Bool) → gives_back (written_by p src f val word x full).phase ≡ false
    wrote src f val None full = refl
    wrote src f val (Some slot) true = refl
    wrote src f val (Some slot) false = allowed src f val slot (is_leaf word)

    leaving : (b : Bool) → gives_back (leaving_by p b).phase ≡ false
    leaving true = refl
    leaving false = refl

    goes : (b : Bool) (x y : phases.Phase) → gives_back x ≡ false → gives_back y ≡ false → gives_back (cond b x y) ≡ false
    goes true x y a c = a
    goes false x y a c = c

    by : (at_phase : phases.Phase) → IsPlain at_phase → gives_back (took_at p word at_phase).phase ≡ false
    by (at.Begun (works.Command (commands.New reg label))) is = new (answered p (commands.New reg label) (plain_told answers.LogFull)) (moved p (at.Scanning reg label false word 0)) (is_full p) refl refl
    by (at.Begun (works.Command (commands.Leaf reg label))) is = new (answered p (commands.Leaf reg label) (plain_told answers.LogFull)) (moved p (at.Scanning reg label true word 0)) (is_full p) refl refl
    by (at.Begun (works.Command (commands.Get dst src f))) is = read (commands.Get dst src f) dst (register p src)
    by (at.Begun (works.Command (commands.Put src f val))) is = wrote src f val (register p src) (is_full p)
    by (at.Begun works.Poll) is = goes (eqb word p.epoch) (at.Finished works.Poll (makes.Crossed None)) at.Crossing refl refl
    by (at.Scanning reg label leaf before_ probed) is =
        new (born_in p reg label leaf (probe_of p probed)) (moved p (cond (eqb (probed + 1) p.slots) (at.Scanned reg label leaf before_) (at.Scanning reg label leaf before_ (probed + 1)))) (eqb word 0) refl
        (goes (eqb (probed + 1) p.slots) (at.Scanned reg label leaf before_) (at.Scanning reg label leaf before_ (probed + 1)) refl refl)
    by at.Crossing is = absurd is
    by at.Swapping is = absurd is
    by at.Giving is = absurd is
    by at.Leaving is = absurd is
    by at.Retiring is = absurd is
    by at.Parting is = absurd is
    by (at.Passing passage) is = absurd is
    by (at.Begun (works.Command commands.Leave)) is = leaving (is_uncollected word)
    by _ is = refl

pub left_plain : (p : Private) (word : ℕ) → IsPlain p.phase → is_busy p ≡ true → gives_back (learnt p (Saw word)).phase ≡ false
unfolding took_of
left_plain p word plain busy = ap (λ (q : Private). gives_back q.phase) (here_same p word (spare (took_of p word)) busy (plain_takes_none p.phase plain)) ∙ not_giving p word p.phase plain

pub steps : (key : Core) (slots id : ℕ) (t : Seated) (hs : List (ℕ × Option Contents)) (wk : Option Start) (p : Private) (op : Op) (f : ℕ → ℕ) (st : Step (Option Contents))
    → p ≡ told (mutator key t.number) t.log → MayGo p wk → IsPlain (ready p wk).phase → op ≡ next_of (ready p wk) → ((n : ℕ) → f n ≡ written op n)
    → Operates key (Kind.Steps wk) slots id (Mutates t, hs) (index_of (length key.words) (length key.headers) op) f (MadeBy p wk st (Mutates t, hs))
steps key slots id t hs wk p op f st is_p may plain is_op does s h len at_id fit =
    let x : ℕ = t.number in
    let here : Here key s h t wk p op = here_at key s h id t wk p op at_id is_p may is_op in
    let v : Core = before (after_moves key h.run) x wk in
    let n : ℕ = get_or s.words (index_of (length key.words) (length key.headers) op) 0 in
    let plain' : IsPlain (mutator v x).phase = subst (λ (q : Private). IsPlain q.phase) (sym here.is) plain in
    let never : gives_back (mutator (stepped v x) x).phase ≡ true → t.hand ≡ box (stepped v x) x = λ giving.
    absurd (true≢false (sym giving ∙ ap (λ (q : Private). gives_back q.phase) here.learns ∙ left_plain (ready p wk) n plain (ap is_busy (sym here.is) ∙ here.busy))) in
    let after = goes_on key s h id t wk p op (f n) s.homes t.hand at_id here (does n) (here.homes ∙ sym (plain_homes v x here.busy plain')) never in (
      Mutates (longer t (beats wk n)),
      keeps,
      tt,
      after.0,
      grows_by key s h t wk p op f after.0.run here is_op does after.1,
      (refl, subst (λ (o : Op). IsFound (ready p wk) o n) is_op here.may, here.names),
    )

-- Turns of the collector in a run.
use Rattle.std.proofs.Common.{◌≡◌, ℕ, ◌+◌, ◌-◌, Option, None, Some, IfSome, List, slice_set, refl, sym, ap, subst, ◌∙◌, arith}
use Rattle.std.proofs.lemmas.List.{set-get_or}
use Rattle.rec_word.specs.Op.{written}
use Rattle.rec_word.specs.declared.op.Op.{Op}
use Rattle.rec_collector.specs.Given.{IsGiven, IsLooped}
use Rattle.rec_collector.specs.Next.{next_of}
use Rattle.rec_collector.specs.Private as collectors
use Rattle.rec_collector.specs.Step.{IsBetween}
use Rattle.rec_collector.specs.Took.{step_of, took_of, turn_of}
use Rattle.rec_collector.specs.declared.phase.Phase.{Phase}
use Rattle.rec_collector.specs.declared.phase.Phase.TheVariants.{Freeing, Trying, Preparing, Sweeping}
use Rattle.rec_collector.specs.declared.turn.Turn.{Turn}
use Rattle.rec_collector.specs.declared.turn.Turn.TheVariants.{Moved}
use Rattle.rec_core.specs.Preconditions.{MayTurn}
use Rattle.rec_core.specs.Turn.{IsTurn, told_at, turn_told}
use Rattle.rec_core.proofs.BareRuns.{may_turn}
use Rattle.rec_core.proofs.Turn.{turn_is_one}
use Rattle.rec_world.proofs.Common.{Cells, Contents, Core, IsWorld, Move, box, cell, cells_of, left_by, looked_at, turned, turned_at, with_cell}
use Rattle.rec_world.specs.Turning.{HasTurned, Stands, with_turned}
use Rattle.rec_world.proofs.Calls.{moved_world, world_kept}
use Rattle.rec_world.proofs.Mailboxes.{collector_stays}
use Rattle.rec_world.proofs.Turnings.{looks_for, none_swaps}

-- what a world's turn is
pub turn_of_world : (w : Core) → IsWorld w → IsTurn w (turned w) (turn_told w)
turn_of_world w world = turn_is_one w world.shaped.config world.run

-- in a phase with a loop of its own no mailbox is looked at
loops_look : (phase : Phase) → IsLooped phase → (looks_for phase ≡ None) × (looked_at phase ≡ 1)
loops_look (Freeing m) l = (refl, refl)
loops_look (Trying m) l = (refl, refl)
loops_look (Preparing m) l = (refl, refl)
loops_look (Sweeping due n) l = (refl, refl)
loops_look _ l = absurd l

loops_leave : (c : collectors.Private) (word : ℕ) (b : Contents) (phase : Phase) → IsLooped phase → left_by c word b phase ≡ b
loops_leave c word b (Freeing m) l = refl
loops_leave c word b (Trying m) l = refl
loops_leave c word b (Preparing m) l = refl
loops_leave c word b (Sweeping due n) l = refl
loops_leave c word b _ l = absurd l

-- so a turn leaves the mailboxes
pub loop_turned : (w : Core) (op : Op) → IsBetween w.collector.phase → IsLooped w.collector.phase → ◌≡◌ {A = Option Op} (next_of w.collector) (Some op)
    → turned w ≡ with_turned w (with_cell (cells_of w) op (written op (cell (cells_of w) op))) (took_of w.collector (cell (cells_of w) op))
unfolding step_of
loop_turned w op between l named =
    let c : collectors.Private = w.collector in
    let found : ℕ = cell (cells_of w) op in
    let b : Contents = box w (looked_at c.phase) in
    let looks = loops_look c.phase l in
    let q : collectors.Private = took_of c found in
    let make : List Contents → collectors.Private → Core = λ boxes x. record (with_turned w (with_cell (cells_of w) op (written op found)) x) { boxes = boxes } in
    let learns : step_of c found b ≡ q = sym (collector_stays q b (none_swaps c found between looks.0)) in
    let left : slice_set w.boxes (looked_at c.phase - 1) (left_by c found b c.phase) ≡ w.boxes
    = ap (slice_set w.boxes (looked_at c.phase - 1)) (loops_leave c found b c.phase l) ∙ set-get_or w.boxes (looked_at c.phase - 1) (collectors.blank 0 0) in
    ap (turned_at w) named ∙ ap (λ boxes. make boxes (step_of c found b)) left ∙ ap (make w.boxes) learns

module _ (first : Core) (c : Cells) (n : ℕ) (p : collectors.Private) (op : Op) (s : Stands first c n p Moved) (l : IsLooped p.phase) (named : ◌≡◌ {A = Option Op} (next_of p) (Some op)) where
  abbrev w : Core
  w = with_turned first c p

  pub run_may : MayTurn w op
  run_may = subst (λ (x : Option Op). IfSome x (MayTurn w)) named (may_turn w (world_kept w s.world))

  -- one turn more
  pub stands_on : (after : Cells) (word : ℕ) → word ≡ cell c op → after ≡ with_cell c op (written op word) → IsGiven p word × Stands first after (n + 1) (took_of p word) (turn_of p word)
  stands_on after word found leaves =
      let left : turned w ≡ with_turned first after (took_of p word)
      = loop_turned w op (world_kept w s.world).collector.between l named ∙ (λ i. with_turned first (with_cell c op (written op (sym found i))) (took_of p (sym found i))) ∙ (λ i. with_turned first (sym leaves i) (took_of p word)) in
      let told : turn_told w ≡ turn_of p word = ap (told_at w) named ∙ ap (turn_of p) (sym found) in (
        subst (IsGiven p) (sym found) run_may.given,
        record {
          world = subst IsWorld left (moved_world w Move.Turns s.world tt);
          turned = HasTurned.more n w (with_turned first after (took_of p word)) (turn_of p word) s.turned (subst (λ (x : Core × Turn). IsTurn w x.0 x.1) (λ i. (left i, told i)) (turn_of_world w s.world));
        },
      )

-- one turn
pub turned_once : (w v : Core) (answer : Turn) → IsTurn w v answer → HasTurned w 1 v answer
turned_once w v answer turn = HasTurned.more 0 w v answer HasTurned.none turn

-- turns behind others that all moved
pub turned_both : (w u v : Core) (m n : ℕ) (answer : Turn) → HasTurned w m u Moved → HasTurned u n v answer → HasTurned w (m + n) v answer
turned_both w u _ m _ _ before HasTurned.none = subst (λ k. HasTurned w k u Moved) (omega arith) before
turned_both w u v m _ answer before (HasTurned.more n a _ _ moved turn) = subst (λ k. HasTurned w k v answer) (omega arith) (HasTurned.more (m + n) a v answer (turned_both w u a m n Moved before moved) turn)

-- each heap in a run is one
pub turned_world : (w v : Core) (n : ℕ) (answer : Turn) → IsWorld w → HasTurned w n v answer → IsWorld v
turned_world w _ _ _ world HasTurned.none = world
turned_world w v _ _ world (HasTurned.more n u _ _ moved turn) = subst IsWorld (sym turn.turned) (moved_world u Move.Turns (turned_world w u n Moved world moved) tt)

-- A run of the collector's turns on the table.
use Rattle.std.proofs.Common.{◌≡◌, ◌≢◌, ℕ, ◌+◌, ◌-◌, ◌≤◌, Option, Some, [], ◌∷◌, ◌++◌, refl, sym, ap, subst, ◌∙◌, arith}
use Rattle.atomic_table.specs.Seated.{TableId}
use Rattle.atomic_table.specs.Table.{Me}
use Rattle.rec_collector.specs.Given.{IsGiven, IsLooped}
use Rattle.rec_collector.specs.Kept.{IsMachine, KeepsSizes}
use Rattle.rec_collector.specs.Kind.{HasLoop, kind_of}
use Rattle.rec_collector.specs.Next.{next_of}
use Rattle.rec_collector.specs.Private.{Private}
use Rattle.rec_collector.specs.Took.{took_of, turn_of}
use Rattle.rec_collector.specs.declared.phase.Phase.{Phase}
use Rattle.rec_collector.specs.declared.phase.Phase.TheVariants.{Freeing, Trying, Preparing, Sweeping}
use Rattle.rec_collector.specs.declared.turn.Turn.{Turn}
use Rattle.rec_collector.specs.declared.turn.Turn.TheVariants as turns
use Rattle.rec_collector.proofs.ByTurns.{loop_keeps}
use Rattle.rec_collector.proofs.Running.{sizes_on}
use Rattle.rec_table.proofs.Common.{Op, Contents, Core, CollectorView, collector_view, collecting_of, collecting_more, boxes_at, boxes_out, NotLooking, Saw, CollectorSeat, View, Collects}
use Rattle.rec_table.specs.TurnRuns.{Made, Stands}
use Rattle.rec_table.specs.Turn.{MakesSome, MakesTurn, MakesTurns, MovesTo}
use Rattle.rec_table.proofs.Gathering.{turn_log, turn_end, lone_out}
use Rattle.rec_table.proofs.Freeing.{frees_on}
use Rattle.rec_table.proofs.Turn.{makes_one}

-- turns that all moved
made_moves : (first v : CollectorView) (n : ℕ) (turn : Turn) → Made first v n turn → turn ≡ turns.Moved → MovesTo first n v
made_moves first v n turn Made.none is = MovesTo.none
made_moves first v n turn (Made.more m u x t moves makes) is = MovesTo.more m u v moves (subst (λ (answer : Turn). MakesTurn u v answer) is makes)

-- so many turns behind others
moves_both : (first u v : CollectorView) (m n : ℕ) → MovesTo first m u → MovesTo u n v → MovesTo first (m + n) v
moves_both first u v m n before MovesTo.none = subst (λ k. MovesTo first k u) (omega arith) before
moves_both first u v m n before (MovesTo.more k a b moves makes) = subst (λ i. MovesTo first i v) (omega arith) (MovesTo.more (m + k) a v (moves_both first u a m k before moves) makes)

pub made_some : (first u v : CollectorView) (from n most : ℕ) (turn : Turn) → MovesTo first from u → Made u v n turn → turn ≡ turns.Moved → from + n ≤ most → MakesSome first v (from + n) most turn
made_some first u v from n most turn before made is few = MakesSome.moved is few (moves_both first u v from n before (made_moves u v n turn made is))

pub made_ended : (first u v : CollectorView) (from n most : ℕ) (turn : Turn) → MovesTo first from u → Made u v n turn → turn ≢ turns.Moved → from + n ≤ most → MakesSome first v (from + (n - 1)) most turn
made_ended first u v from n most turn before Made.none other few = absurd (other refl)
made_ended first u v from n most turn before (Made.more m a b t moves makes) other few =
    subst (λ k. MakesSome first v (from + k) most turn) (omega arith) (MakesSome.ended a (omega (arith, few)) (moves_both first u a from m before moves) makes other)

-- one more turn that moved
pub moves_one : (first a b : CollectorView) (moves : ℕ) (answer : Turn) → MovesTo first moves a → MakesTurn a b answer → answer ≡ turns.Moved → MovesTo first (moves + 1) b
moves_one first a b moves answer m t is = MovesTo.more moves a b m (subst (λ (x : Turn). MakesTurn a b x) is t)

-- turns that moved
pub some_moved : (first after : CollectorView) (moves most : ℕ) (answer : Turn) → MakesSome first after moves most answer → answer ≡ turns.Moved → MovesTo first moves after × (moves ≤ most)
some_moved first after moves most answer (MakesSome.moved e few m) is = (m, few)
some_moved first after moves most answer (MakesSome.ended last fewer m t other) is = absurd (other is)

-- turns behind which one came to something else
pub some_ended : (first after : CollectorView) (moves most : ℕ) (answer : Turn) → MakesSome first after moves most answer → answer ≢ turns.Moved → MakesTurns first after most answer
some_ended first after moves most answer (MakesSome.moved e few m) other = absurd (other e)
some_ended first after moves most answer (MakesSome.ended last fewer m t o) other = MakesTurns.ended moves last fewer m t other

-- in a phase with a loop no mailbox is looked at, and none is held
pub loops_look : (phase : Phase) → IsLooped phase → NotLooking phase
loops_look (Freeing m) l = tt
loops_look (Trying m) l = tt
loops_look (Preparing m) l = tt
loops_look (Sweeping due n) l = tt
loops_look _ l = absurd l

pub loops_out : (p : Private) (phase : Phase) → IsLooped phase → boxes_at p phase ≡ []
loops_out p (Freeing m) l = refl
loops_out p (Trying m) l = refl
loops_out p (Preparing m) l = refl
loops_out p (Sweeping due n) l = refl
loops_out p _ l = absurd l

pub kinds_loop : (phase : Phase) → HasLoop (kind_of phase) → IsLooped phase
kinds_loop (Freeing m) l = tt
kinds_loop (Trying m) l = tt
kinds_loop (Preparing m) l = tt
kinds_loop (Sweeping due n) l = tt
kinds_loop _ l = absurd l

module _ (z : TableId) (key : Core) (start : CollectorSeat) (table : TableId) (me : Me (Option Contents) View) (n : ℕ) (p : Private) (op : Op) (s : Stands z key start table me n p turns.Moved) (l : IsLooped p.phase) (named : ◌≡◌ {A = Option Op} (next_of p) (Some op)) where
  -- one turn more
  pub stands_on : (table' : TableId) (me' : Me (Option Contents) View) (word : ℕ) → table' ≡ table → me' ≡ (Collects (collecting_more (collecting_of me.0) (Saw word)), []) → IsGiven p word → Stands z key start table' me' (n + 1) (took_of p word) (turn_of p word)
  stands_on table' me' word t view g =
      let c : CollectorSeat = collecting_of me.0 in
      let q : Private = took_of p word in
      let next = loop_keeps p word l s.kept g in
      let out = lone_out p q word s.between (loops_look p.phase l) refl in
      let seated : me' ≡ (Collects (collecting_more c (Saw word)), boxes_out q) = view ∙ (λ k. (Collects (collecting_more c (Saw word)), sym out.0 k)) in
      let u : CollectorView = collector_view z key.collector c in
      let v : CollectorView = collector_view z key.collector (collecting_of me'.0) in
      let e = turn_end z z key.collector p q c (Saw word) me' u refl refl s.is refl seated in
      let makes = makes_one u v op (Saw word) (turn_of p word) (subst IsMachine s.is s.kept) (ap next_of (sym s.is) ∙ named) e.0 e.1 (ap (λ (x : Private). turn_of x word) s.is) in
      record {
        world = s.world;
        table = t ∙ s.table;
        me = seated ∙ (λ k. (Collects (collecting_of (sym view k).0), boxes_out q));
        same = (λ k. collecting_of (view k).0) ∙ (λ k. record (s.same k) { log = c.log ++ Saw word ∷ [] }) ∙ (λ k. record start { log = (collecting_of (sym view k).0).log });
        is = turn_log key.collector p q c (Saw word) me' s.is refl seated;
        kept = next.0;
        sizes = sizes_on s.sizes next.1;
        between = out.1;
        made = Made.more n u v (turn_of p word) (made_moves (collector_view z key.collector start) u n turns.Moved s.made refl) makes;
        frees = frees_on key (collector_view z key.collector start) u v (turn_of p word) p op word s.frees makes (λ k. collecting_of (view k).0) s.is
            (turn_log key.collector p q c (Saw word) me' s.is refl seated) l named;
      }

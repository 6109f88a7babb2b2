-- A heap that is stopped before any actor moved is the world that was started.
use Rattle.std.proofs.Common.{◌≡◌, ℕ, zero, suc, ◌+◌, ◌-◌, ◌%◌, ◌<◌, All, Bool, cond, eqb, eq-eqb, ne_eqb, Option, Some, None, List, [], ◌∷◌, ◌++◌, length, map, slice_index_or, refl, sym, ◌∙◌, subst, arith}
use Rattle.rec_collector.specs.Next as collector_next
use Rattle.rec_core.specs.Config.{IsMutator}
use Rattle.rec_core.specs.Core.{Core}
use Rattle.rec_core.specs.Moves.{Move, AllFit, after_moves, begun_from, stepped, turned, turned_at, found_by}
use Rattle.rec_word.specs.declared.op.Op.{Op}
use Rattle.rec_table.proofs.Closing.{none_out_where_even}
use Rattle.rec_table.specs.Beats.{beats_of, turn_at, Offerless}
use Rattle.rec_table.specs.Ends.{IsStopped}
use Rattle.rec_table.specs.Views.{MutatorView}
use Rattle.rec_table.specs.declared.views.Beat.{Beat}
use Rattle.rec_table.specs.declared.views.Beat.TheVariants.{Begins, Saw}
use Rattle.rec_world.proofs.Calls.{world_kept}
use Rattle.rec_world.specs.World.{IsWorld}

some_beat : (b : Beat) (bs : List Beat) → b ∷ bs ≡ [] → ⊥
some_beat b bs e = cc

-- a mutator's move stands in its own list
own_beat : (t : ℕ) (b : Beat) (bs : List Beat) → cond (eqb t t) (b ∷ []) [] ++ bs ≡ [] → ⊥
own_beat t b bs e = some_beat b bs (subst (λ (v : Bool). cond v (b ∷ []) [] ++ bs ≡ []) (eq-eqb t t refl) e)

-- and the collector's in none of theirs
theirs : (k : ℕ) (cs bs : List Beat) → cond (eqb 0 (k + 1)) cs [] ++ bs ≡ [] → bs ≡ []
theirs k cs bs e = subst (λ (v : Bool). cond v cs [] ++ bs ≡ []) (ne_eqb 0 (k + 1) (λ z. omega arith)) e

-- a turn that records nothing does nothing
idle_turn : (w : Core) (o : Option Op) (bs : List Beat) → turn_at w o ++ bs ≡ [] → (turned_at w o ≡ w) × (bs ≡ [])
idle_turn w None bs e = (refl, e)
idle_turn w (Some op) bs e = absurd (some_beat _ bs e)

-- where a mutator's move stands in the list with its number
numbered : (t : ℕ) (w : Core) (ms : List Move) → IsMutator w.config t → ((k : ℕ) → k < w.config.mutators → beats_of (k + 1) w ms ≡ []) → beats_of t w ms ≡ []
numbered t w ms there each =
    let back : t - 1 + 1 ≡ t = omega (arith, there.0) in
    subst (λ (x : ℕ). beats_of x w ms ≡ []) back (each (t - 1) (omega (arith, there.0, there.1)))

-- a run of which no list tells
no_moves : (w : Core) (ms : List Move) → AllFit w ms → Offerless ms → beats_of 0 w ms ≡ [] → ((k : ℕ) → k < w.config.mutators → beats_of (k + 1) w ms ≡ []) → after_moves w ms ≡ w
no_moves w [] fit off none each = refl
no_moves w (Move.Begins t work from ∷ ms) fit off none each =
    absurd (own_beat t (Begins (record { work = work; from = from })) (beats_of t (begun_from w t work from) ms) (numbered t w (Move.Begins t work from ∷ ms) fit.0.0 each))
no_moves w (Move.Steps t ∷ ms) fit off none each =
    absurd (own_beat t (Saw (found_by w t)) (beats_of t (stepped w t) ms) (numbered t w (Move.Steps t ∷ ms) fit.0.0 each))
no_moves w (Move.Turns ∷ ms) fit off none each =
    let idle = idle_turn w (collector_next.next_of w.collector) (beats_of 0 (turned w) ms) none in
    let same : turned w ≡ w = idle.0 in
    no_moves (turned w) ms fit.1 off.1 idle.1 (λ k lt. theirs k (turn_at w (collector_next.next_of w.collector)) (beats_of (k + 1) (turned w) ms) (each k (subst (λ (v : Core). k < v.config.mutators) same lt))) ∙ same
no_moves w (Move.Offers ∷ ms) fit off none each = absurd off.0

pub still : (key : Core) (lists : List (List Beat)) (w : Core) → IsWorld key → All (λ word. word % 2 ≡ 0) key.crossing → ((k : ℕ) → slice_index_or lists k [] ≡ []) →
    IsStopped key [] lists w → w ≡ key
still key lists w is even none s =
    let back : s.returned ≡ [] = s.home (none_out_where_even key (world_kept key is) even) in
    sym s.run.ends ∙ no_moves key s.run.run s.run.fit s.run.offerless (sym s.run.collector ∙ back) (λ k lt. sym (s.run.mutators k lt) ∙ none k)

-- lists of mutators that have told nothing
pub no_logs : (ms : List MutatorView) → ((k : ℕ) (e : MutatorView) → k < length ms → (slice_index_or ms k e).log ≡ []) → (k : ℕ) → slice_index_or (map (λ m. m.log) ms) k [] ≡ []
no_logs [] h k = refl
no_logs (m ∷ ms) h zero = h 0 m (omega arith)
no_logs (m ∷ ms) h (suc k) = no_logs ms (λ j e lt. h (suc j) e (omega (arith, lt))) k

-- A turn requests at most one epoch more.
use Rattle.std.proofs.Common.{◌≡◌, ℕ, ◌+◌, ◌≤◌, ◌==◌, Bool, true, false, if◌then◌else◌, [], ◌∷◌, ◌++◌, Option, None, Some, inl, inr, length, refl, sym, ap, ◌∙◌, arith, append_assoc}
use Rattle.std.proofs.lemmas.List.{append-nil, length-append}
use Rattle.rec_word.specs.Looked.{looked}
use Rattle.rec_word.specs.declared.looked.Looked.{Looked}
use Rattle.rec_word.specs.declared.looked.Looked.TheVariants.{Takes, Crosses, Waits}
use Rattle.rec_collector.specs.Took.{after_look, crossed_for}
use Rattle.rec_collector.specs.Followed.{Next, worked}
use Rattle.rec_collector.specs.Next.{is_spent, next_of}
use Rattle.rec_collector.specs.Private.{Private, parts_of, with_parts}
use Rattle.rec_collector.specs.Took.{behind, came, moved, noted, requested, step_of, took_at, took_of}
use Rattle.rec_collector.specs.declared.turn.Turn.{Turn}
use Rattle.rec_collector.specs.declared.phase.Phase.{Phase}
use Rattle.rec_collector.specs.declared.phase.Phase.TheVariants.{Idle, Looking, Swapping, Returning, Opening, Sweeping, Closing}
use Rattle.rec_word.specs.Mailbox.{crossing_word}
use Rattle.rec_word.specs.declared.mailbox.Mailbox.TheVariants.{Retired}
use Rattle.rec_word.specs.declared.op.Op.{Op}
use Rattle.rec_table.specs.Beats.{gathered}
use Rattle.rec_table.specs.Views.{CollectorView, collector_now}
use Rattle.rec_table.specs.Rule.{collecting_more}
use Rattle.rec_table.specs.Turn.{MakesTurn}
use Rattle.rec_table.proofs.PutBack.{behind_epoch, ended_epoch, swapped_epoch}
use Rattle.rec_threads.specs.Done.{HasTurned, TurnsTo}
use Rattle.rec_table.specs.declared.views.Beat.{Beat}
use Rattle.rec_table.specs.declared.views.Beat.TheVariants.{Begins, Saw, Took}

came_epoch : (p : Private) (n : Next) → (came p n).epoch ≤ p.epoch + 1
came_epoch p n = let e : (came p n).epoch ≡ p.epoch = ended_epoch n.phase (moved (with_parts p n.parts) n.phase) in omega (arith, e)

either_rises : (b : Bool) (p q r : Private) → q.epoch ≤ p.epoch + 1 → r.epoch ≤ p.epoch + 1 → (if b then q else r).epoch ≤ p.epoch + 1
either_rises true p q r x y = x
either_rises false p q r x y = y

look_rises : (p : Private) (t : ℕ) (l : Looked) → (after_look p t l).epoch ≤ p.epoch + 1
look_rises p t (Takes new) = omega arith
look_rises p t (Crosses new) = let e : (behind (crossed_for p t) t).epoch ≡ p.epoch = behind_epoch (crossed_for p t) t in omega (arith, e)
look_rises p t Waits = omega arith

took_rises : (p : Private) (word : ℕ) (phase : Phase) → (took_at p word phase).epoch ≤ p.epoch + 1
unfolding took_at
took_rises p word Idle = let e : (behind (requested p) 0).epoch ≡ p.epoch + 1 = behind_epoch (requested p) 0 in either_rises (is_spent p) p p (behind (requested p) 0) (omega arith) (omega (arith, e))
took_rises p word (Looking t) = look_rises p t (looked p.epoch word)
took_rises p word (Swapping t) = omega arith
took_rises p word (Returning t) = let e : (behind (noted p t) t).epoch ≡ p.epoch = behind_epoch (noted p t) t in omega (arith, e)
took_rises p word Opening = omega arith
took_rises p word (Sweeping due swept) = omega arith
took_rises p word (Closing swept) = omega arith
took_rises p word phase = came_epoch p (worked (parts_of p) word phase)

took_epoch : (p : Private) (word : ℕ) → (took_of p word).epoch ≤ p.epoch + 1
unfolding took_of
took_epoch p word = took_rises p word p.phase

gathered_epoch : (p : Private) (b : Beat) → (gathered p b).epoch ≤ p.epoch + 1
unfolding step_of
gathered_epoch p (Begins start) = omega arith
gathered_epoch p (Saw word) = took_epoch p word
gathered_epoch p (Took word b) = let e = swapped_epoch (took_of p word) b in let t = took_epoch p word in omega (arith, e, t)

-- none yet
pub no_turn : (g : CollectorView) → HasTurned 0 g g
no_turn g = record {
  path = TurnsTo.none;
  beats = [];
  grows = λ i. record g { collecting = record g.collecting { log = sym (append-nil g.collecting.log) i } };
  each = inl refl;
  requested = omega arith;
}

pub at_most : (turns : ℕ) (g g' : CollectorView) (so : HasTurned turns g g') → length so.beats ≤ turns
at_most turns g g' so = elim so.each [
  | inl all ↦ omega (arith, all)
  | inr spent ↦ spent.1
]

-- One turn more.
pub one_turn : (turns : ℕ) (g a b : CollectorView) (answer : Turn) → HasTurned turns g a → MakesTurn a b answer → HasTurned (turns + 1) g b
one_turn turns g a b answer so one = by (next_of (collector_now a)) refl
  where
    by : (next : Option Op) → next_of (collector_now a) ≡ next → HasTurned (turns + 1) g b
    by None e =
        let same : b ≡ a = (one.spent e).0 in
        let few : length so.beats ≤ turns = at_most turns g a so in
        record {
          path = TurnsTo.more turns a b answer so.path one;
          beats = so.beats;
          grows = same ∙ so.grows;
          each = inr (ap (λ (x : CollectorView). next_of (collector_now x)) same ∙ e, omega (arith, few));
          requested = let r = so.requested in let n : (collector_now b).epoch ≡ (collector_now a).epoch = ap (λ (x : CollectorView). (collector_now x).epoch) same in omega (arith, r, n);
        }
    by (Some op) e =
        let (beat, more, now, told) = one.turned op e in
        let collecting : (record g.collecting { log = (g.collecting.log ++ so.beats) ++ beat ∷ [] }) ≡ (record g.collecting { log = g.collecting.log ++ (so.beats ++ beat ∷ []) }) = λ i. record g.collecting { log = append_assoc g.collecting.log so.beats (beat ∷ []) i } in
        let many : length (so.beats ++ beat ∷ []) ≡ length so.beats + 1 = length-append so.beats (beat ∷ []) in
        record {
          path = TurnsTo.more turns a b answer so.path one;
          beats = so.beats ++ beat ∷ [];
          grows = more ∙ (λ i. record (so.grows i) { collecting = collecting_more (so.grows i).collecting beat }) ∙ (λ i. record g { collecting = collecting i });
          each = elim so.each [
            | inl all ↦ inl (omega (arith, all, many))
            | inr none ↦ let bad : ◌≡◌ {A = Option Op} None (Some op) = sym none.0 ∙ e in cc
          ];
          requested =
              let r = so.requested in
              let n : (collector_now b).epoch ≡ (gathered (collector_now a) beat).epoch = ap (λ (p : Private). p.epoch) now in
              let o = gathered_epoch (collector_now a) beat in
              omega (arith, r, n, o);
        }

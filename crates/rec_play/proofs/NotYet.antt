-- Which turn of a played run told an answer NotYet.
use Rattle.std.proofs.Common.{◌≡◌, inl, inr, ℕ, ◌<◌, List, [], ◌∷◌, ◌++◌, Some, length, take, refl, sym, ap, subst, ◌∙◌, arith, append_assoc}
use Rattle.std.specs.List.{slice_get}
use Rattle.std.proofs.Math.Seq.{take-append_seam}
use Rattle.std.proofs.lemmas.List.{take-append-le}
use Rattle.std.proofs.lemmas.Option.{slice_get_within}
use Rattle.rec_model.specs.LegalOrder.{Line, Event}
use Rattle.rec_model.specs.declared.answer.Answer.TheVariants as answers
use Rattle.rec_model.proofs.Growing.{get_cases}
use Rattle.rec_collector.specs.Next.{next_of}
use Rattle.rec_core.specs.Core.{Core}
use Rattle.rec_order.specs.Events.{swept_by}
use Rattle.rec_order.specs.Naming.{Naming}
use Rattle.rec_order.proofs.Refused.{answered_in, swept_silent}
use Rattle.rec_script.specs.Script.{ScriptContents}
use Rattle.rec_play.specs.Awaited.{IsAwaitedTurn}
use Rattle.rec_play.specs.Run.{IsPlayedRun}
use Rattle.rec_play.specs.declared.actor.Actor.{Actor}

-- turns more leave what a turn told
turns_more : (script : ScriptContents) (first : Core) (named : Naming) (acted : List Actor) (events told : List Event) (actor : Actor) (i t : ℕ) (line : Line) → i < length events → IsAwaitedTurn script first named acted events i t line → IsAwaitedTurn script first named (acted ++ actor ∷ []) (events ++ told) i t line
turns_more script first named acted events told actor i t line early so = record {
  earlier = so.earlier;
  later = so.later ++ actor ∷ [];
  all = ap (λ turns. turns ++ actor ∷ []) so.all ∙ append_assoc so.earlier (Actor.Mutator t ∷ so.later) (actor ∷ []);
  told = so.told;
  place = so.place ∙ sym (take-append-le i events told (omega (arith, early)));
  names = so.names;
  from = so.from;
  to = so.to;
  run = so.run;
  turn = so.turn;
  awaited = so.awaited;
}

-- In a played run a turn of the mutator told it.
pub turn_told : (script : ScriptContents) (first : Core) (named : Naming) (acted : List Actor) (events : List Event) (n : Naming) (w : Core) → IsPlayedRun script first named acted events n w
    → (i t : ℕ) (line : Line) → slice_get events i ≡ Some (Event.Answers t line) → line.1.answer ≡ answers.NotYet → IsAwaitedTurn script first named acted events i t line
turn_told script first named _ _ _ _ IsPlayedRun.starts i t line there refused = absurd (omega (arith, slice_get_within [] i (Event.Answers t line) there))
turn_told script first named _ _ _ _ (IsPlayedRun.turn acted events n k from to s cmd told run is names) i t line there refused = elim (get_cases events (Event.Answers s (cmd, told)) i (Event.Answers t line) there) [
  | inl before ↦ turns_more script first named acted events (Event.Answers s (cmd, told) ∷ []) (Actor.Mutator s) i t line (slice_get_within events i (Event.Answers t line) before) (turn_told script first named acted events n from run i t line before refused)
  | inr last ↦
      let one : ◌≡◌ {A = ℕ × Line} (s, (cmd, told)) (t, line) = ap (answered_in (t, line)) last.1 in
      subst (λ (x : ℕ × Line). IsAwaitedTurn script first named (acted ++ Actor.Mutator s ∷ []) (events ++ Event.Answers s (cmd, told) ∷ []) i x.0 x.1) one
      (record {
        earlier = acted;
        later = [];
        all = refl;
        told = events;
        place = sym (take-append_seam events (Event.Answers s (cmd, told) ∷ [])) ∙ ap (λ m. take m (events ++ Event.Answers s (cmd, told) ∷ [])) (sym last.0);
        names = n;
        from = from;
        to = to;
        run = run;
        turn = is;
        awaited = is.not_yet.0 (ap (λ (x : ℕ × Line). x.1.1.answer) one ∙ refused);
      })
]
turn_told script first named _ _ _ _ (IsPlayedRun.collects acted events n from to run ends) i t line there refused =
    let before : slice_get events i ≡ Some (Event.Answers t line) = swept_silent n (next_of from.collector) t line events i there in
    turns_more script first named acted events (swept_by n (next_of from.collector)) Actor.Collector i t line (slice_get_within events i (Event.Answers t line) before) (turn_told script first named acted events n from run i t line before refused)

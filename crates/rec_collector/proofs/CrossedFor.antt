-- The collector waits for no parked mutator, takes its deposit, and crosses for it where it left none.
use Rattle.std.proofs.Common.{◌≡◌, ◌≢◌, ℕ, ◌+◌, ◌-◌, ◌^◌, ◌<◌, Bool, true, false, Option, None, Some, length, slice_set, refl, arith, sym, ap, subst, ◌∙◌}
use Rattle.std.proofs.lemmas.List.{get_or-set_same}
use Rattle.rec_word.specs.Looked.{looked, LooksByTable}
use Rattle.rec_word.specs.Mailbox.{crossing_with}
use Rattle.rec_word.specs.declared.looked.Looked.{Looked}
use Rattle.rec_word.specs.declared.looked.Looked.TheVariants.{Takes, Crosses}
use Rattle.rec_word.specs.declared.mailbox.Mailbox.TheVariants.{Spare, WithCollector}
use Rattle.rec_word.proofs.Looks.{looks_by_table}
use Rattle.rec_log.specs.declared.contents.Contents.{Contents}
use Rattle.rec_collector.specs.CrossedFor.{IsCrossedFor}
use Rattle.rec_collector.specs.Shown.{applied_newer}
use Rattle.rec_collector.specs.Took.{after_look, crossed_for, look_turn, stilled}
use Rattle.rec_collector.specs.declared.turn.Turn.TheVariants.{Waiting}
use Rattle.rec_collector.proofs.Common.{batch_next, behind, blank, buffer_at, came_turn, ended_if, gathering_on, gathering_turn, IsAt, IsMachine, Looking, moved, next_present, Parts, Phase, Private, Returning, step_of, swapped_at, swapped_of, Swapping, took_at, took_of, turn_at, turn_of, Closing, with_parts}
use Rattle.rec_collector.proofs.Landing.{batch_phase, now_at}
use Rattle.rec_collector.proofs.Presence.{next_some}
use Rattle.rec_collector.proofs.Steps.{gathers_between, same_swapped}

-- the look, by what the table has of it
table : (p : Private) (before : ℕ) → IsMachine p → before + 1 ≡ p.epoch → LooksByTable before p.epoch
table p before k follows = let few : p.epoch < 2 ^ 24 = k.epoch in looks_by_table before p.epoch follows (omega (arith, few))

-- a turn that goes on answers no wait
came_waits : (epoch u : ℕ) (phase : Phase) → came_turn epoch phase ≢ Waiting u
came_waits epoch u (Closing swept) e = cc
came_waits epoch u _ e = cc

gathering_waits : (p : Private) (u : ℕ) (next : Option ℕ) → gathering_turn p next ≢ Waiting u
gathering_waits p u None e = came_waits p.epoch u (batch_next p).phase e
gathering_waits p u (Some next) e = cc

pub waits_for_none : (p : Private) (t u before : ℕ) (held : Bool) → IsMachine p → p.phase ≡ Looking t → before + 1 ≡ p.epoch → turn_of p (crossing_with before Spare held true) ≢ Waiting u
unfolding turn_of turn_at
waits_for_none p t u before held k is follows = λ waits. go held (sym (ap (turn_at p (crossing_with before Spare held true)) is) ∙ waits)
  where
    at : LooksByTable before p.epoch
    at = table p before k follows

    deposited : (l : Looked) → l ≡ Takes (crossing_with p.epoch WithCollector false true) → look_turn p t l ≢ Waiting u
    deposited l e waits = let q : look_turn p t (Takes (crossing_with p.epoch WithCollector false true)) ≡ Waiting u = ap (look_turn p t) (sym e) ∙ waits in cc

    crossed : (l : Looked) → l ≡ Crosses (crossing_with p.epoch Spare false true) → look_turn p t l ≢ Waiting u
    crossed l e waits = gathering_waits (crossed_for p t) u (next_present p.left t) (ap (look_turn p t) (sym e) ∙ waits)

    go : (held : Bool) → look_turn p t (looked p.epoch (crossing_with before Spare held true)) ≢ Waiting u
    go true waits = deposited _ at.deposit waits
    go false waits = crossed _ at.parked waits

-- what a step makes of the look
stepped : (p : Private) (t word : ℕ) (box : Contents) (l : Looked) → p.phase ≡ Looking t → looked p.epoch word ≡ l → step_of p word box ≡ swapped_of (after_look p t l) box
unfolding step_of took_of took_at
stepped p t word box l is e = ap (λ f. swapped_of (took_at p word f) box) is ∙ ap (λ (x : Looked). swapped_of (after_look p t x) box) e

pub takes_deposits : (p : Private) (t before : ℕ) (deposit : Contents) → IsMachine p → p.phase ≡ Looking t → before + 1 ≡ p.epoch
    → step_of p (crossing_with before Spare true true) deposit ≡ record p { phase = Returning t; turns = p.turns + 1; newer = slice_set p.newer (t - 1) deposit }
unfolding swapped_of swapped_at
takes_deposits p t before deposit k is follows = stepped p t (crossing_with before Spare true true) deposit (Takes (crossing_with p.epoch WithCollector false true)) is (table p before k follows).deposit

-- the collection went on behind the mutator, from this record
record WentBehind (r q : Private) (t : ℕ) : Type 0 where
  behind_it : (next : ℕ) → q.phase ≡ Looking next → t < next
  none_held : (u : ℕ) → q.phase ≢ Swapping u
  newer : applied_newer q ≡ r.newer

goes_behind : (r : Private) (t : ℕ) → WentBehind r (behind r t) t
goes_behind r t = go (next_present r.left t) refl
  where
    ends : Phase → Type 0
    ends f = (w : Parts) → WentBehind r (ended_if f (moved (with_parts r w) f)) t

    last : ends (batch_next r).phase
    last = batch_phase ends (λ m w. record { behind_it = λ next e. absurd (cc); none_held = λ u e. cc; newer = refl }) (λ w. record { behind_it = λ next e. absurd (cc); none_held = λ u e. cc; newer = refl })
        (λ w. record { behind_it = λ next e. absurd (cc); none_held = λ u e. cc; newer = refl }) (λ m w. record { behind_it = λ next e. absurd (cc); none_held = λ u e. cc; newer = refl })
        (λ m w. record { behind_it = λ next e. absurd (cc); none_held = λ u e. cc; newer = refl }) (λ m w. record { behind_it = λ next e. absurd (cc); none_held = λ u e. cc; newer = refl }) r

    go : (next : Option ℕ) → next_present r.left t ≡ next → WentBehind r (gathering_on r next) t
    go None found = last (batch_next r).parts
    go (Some next) found = record {
      behind_it = λ other e. let same : Looking next ≡ Looking other = e in let number : next ≡ other = cc in subst (λ n. t < n) number (next_some r.left t next found).behind;
      none_held = λ u e. cc;
      newer = refl;
    }

pub crosses : (p : Private) (t before : ℕ) (box : Contents) → IsMachine p → p.phase ≡ Looking t → before + 1 ≡ p.epoch → IsCrossedFor p (step_of p (crossing_with before Spare false true) box) t
crosses p t before box k is follows = subst (λ q. IsCrossedFor p q t) (sym (made ∙ same_swapped (behind r t) box (behind r t).phase refl (gathers_between r (next_present p.left t)))) (record {
  behind = b.behind_it;
  none_held = b.none_held;
  entries = ap (λ (x : Contents). x.entries) written ∙ ap (λ (x : Contents). x.entries) (a.spares (t - 1) (omega arith) here);
  snapshot = ap (λ (x : Contents). x.snapshot) written;
  marked = ap (λ (x : Contents). x.still) written;
})
  where
    r : Private
    r = crossed_for p t

    a : IsAt p (Looking t)
    a = now_at p (Looking t) k is

    here : t - 1 < length p.newer
    here = omega (arith, a.first, a.there)

    made : step_of p (crossing_with before Spare false true) box ≡ swapped_of (behind r t) box
    made = stepped p t (crossing_with before Spare false true) box (Crosses (crossing_with p.epoch Spare false true)) is (table p before k follows).parked

    b : WentBehind r (behind r t) t
    b = goes_behind r t

    still : Contents
    still = stilled (buffer_at p.newer (t - 1)) (buffer_at p.older (t - 1))

    written : buffer_at (applied_newer (behind r t)) (t - 1) ≡ still
    written = ap (λ bs. buffer_at bs (t - 1)) b.newer ∙ get_or-set_same p.newer (t - 1) still (blank 0 0) here

-- Commands in straight code, and handles without a mutator.
use Rattle.std.proofs.Common.{◌≡◌, ℕ, Bool, true, false, Option, Some, None, if◌then◌else◌, refl, sym, ap, subst, ◌∙◌}
use Rattle.std.specs.Arc.{arc_value}
use Rattle.rec_model.specs.declared.answer.Answer.{Answer}
use Rattle.rec_model.specs.Asking.{allocation}
use Rattle.rec_model.specs.declared.command.Cmd.{Cmd}
use Rattle.rec_model.specs.declared.command.Cmd.TheVariants as commands
use Rattle.rec_mutator.specs.Private.{Private}
use Rattle.recycler_c.specs.Narrow.{byte, narrow}
use Rattle.rec_model.specs.declared.told.Told.{Told}
use Rattle.rec_table.specs.Rule.{MayAsk}
use Rattle.rec_table.specs.Straight.{Carried, Carries}
use Rattle.rec_table.specs.Views.{mutator_now}
use Rattle.recycler_c.specs.Calls.{Asks, HasAsked, LacksMutator, Polls, Tries}
use Rattle.recycler_c.specs.Shown.{asked_of}
use Rattle.recycler_c.specs.Standing.{mutates_in}
use Rattle.recycler_c.specs.declared.code.Code.{Code}
use Rattle.recycler_c.specs.declared.code.Code.TheVariants as codes
use Rattle.recycler_c.specs.declared.end.End.{End}
use Rattle.recycler_c.specs.declared.end.End.TheVariants as ends
use Rattle.recycler_c.specs.declared.end.Mutating.{Mutating}
use Rattle.recycler_c.specs.declared.told.Asked.{Asked}

-- What a mutator carried out, and C is told.
pub asked_by : (end : End) (out out' : Mutating) (cmd : Cmd) (answer : Told) (told : Asked) → end ≡ ends.Mutating out → MayAsk (mutator_now out.mutator) cmd → arc_value out'.heap ≡ arc_value out.heap → Carried out.mutator out'.mutator cmd answer → told ≡ asked_of answer.answer
    → HasAsked (Some end) cmd (Some (ends.Mutating out')) told
asked_by end out out' cmd answer told is may heap carried shown = record {
  before = out;
  was = ap (λ (e : End). mutates_in (Some e)) is;
  valid = may;
  after = out';
  is = refl;
  kept = record { heap = heap; is = carried.is };
  answer = answer;
  grows = carried.grows;
  answered = carried.answer;
  causes = carried.causes;
  leaves = carried.leaves;
  line = carried.line;
  told_so = shown;
}

pub asked_so : (end : End) (out out' : Mutating) (cmd : Cmd) (answer : Answer) (told : Asked) → end ≡ ends.Mutating out → MayAsk (mutator_now out.mutator) cmd → arc_value out'.heap ≡ arc_value out.heap → Carries out.mutator out'.mutator cmd answer → told ≡ asked_of answer
    → HasAsked (Some end) cmd (Some (ends.Mutating out')) told
asked_so end out out' cmd answer told is may heap carries shown = asked_by end out out' cmd carries.told told is may heap carries.carried (shown ∙ ap asked_of (sym carries.answers))

-- the handle holds that end again
pub tried : (h h' : Option End) (w w' : End) (asked : Option Cmd) (told told' : Asked) (b : Bool) → h ≡ Some w → h' ≡ Some w' → b ≡ true → Tries (Some w) asked told b (Some w') told' → Asks h asked told codes.Ok h' told'
tried h h' w w' asked told told' b was is done tries = subst (λ (x : Bool × Option End × Option End). Tries x.1 asked told x.0 x.2 told') (λ i. (done i, sym was i, sym is i)) tries

-- where nothing happened, what is asked then is asked of the same
pub untried : (h h' h'' : Option End) (w w' : End) (asked : Option Cmd) (told told' told'' : Asked) (b : Bool) (code : Code) → h ≡ Some w → h' ≡ Some w' → b ≡ false → Tries (Some w) asked told b (Some w') told' → Asks h' asked told' code h'' told''
    → Asks h asked told code h'' told''
untried h h' h'' w w' asked told told' told'' b code was is done tries asks =
    let stood : ◌≡◌ {A = Option End} (Some w') (Some w) × (told' ≡ told) = subst (λ (x : Bool). Tries (Some w) asked told x (Some w') told') done tries in
    subst (λ (x : Option End × Asked). Asks x.0 asked x.1 code h'' told'') (λ i. ((is ∙ stood.0 ∙ sym was) i, stood.1 i)) asks

pub lacks_polls : (h : Option End) (crossed : ℕ) (code : Code) → LacksMutator h code → Polls h crossed code h crossed
lacks_polls h crossed codes.Ok lacks = absurd lacks
lacks_polls h crossed codes.Left lacks = absurd lacks
lacks_polls h crossed codes.Closed lacks = (lacks, refl, refl)
lacks_polls h crossed codes.Rests lacks = (lacks, refl, refl)
lacks_polls h crossed codes.Other lacks = (lacks, refl, refl)
lacks_polls h crossed _ lacks = absurd lacks

-- an allocation of a narrow register
abbrev births : (leaf : Bool) (label : ℕ) → Option ℕ → Option Cmd
births leaf label None = None
births leaf label (Some reg) = Some (allocation leaf reg label)

narrowed_by : (leaf : Bool) (reg r label : ℕ) (b : Bool) → ◌≡◌ {A = Option ℕ} (if b then Some reg else None) (Some r) → ◌≡◌ {A = Option Cmd} (if b then Some (allocation leaf reg label) else None) (Some (allocation leaf r label))
narrowed_by leaf reg r label true is = ap (births leaf label) is
narrowed_by leaf reg r label false is = ap (births leaf label) is

pub narrowed : (leaf : Bool) (reg r label : ℕ) (o : Option ℕ) → o ≡ (if byte reg then Some reg else None) → o ≡ Some r → narrow (allocation leaf reg label) ≡ Some (allocation leaf r label)
narrowed true reg r label o by is = narrowed_by true reg r label (byte reg) (sym by ∙ is)
narrowed false reg r label o by is = narrowed_by false reg r label (byte reg) (sym by ∙ is)

-- a leaf is asked for as an object with fields is
pub may_bear : (p : Private) (leaf : Bool) (reg label : ℕ) → MayAsk p (commands.New reg label) → MayAsk p (allocation leaf reg label)
may_bear p true reg label may = may
may_bear p false reg label may = may

-- In a heap of dated words the epoch of a word's stamp is its date, of each word that was put by a write which a buffer holds.
use Rattle.std.proofs.Common.{◌≡◌, ℕ, ◌≤◌, ◌==◌, Bool, true, false, if◌then◌else◌, refl, ap, arith}
use Rattle.std.specs.List.{sum_by}
use Rattle.std.proofs.lemmas.Bool.{eq-eqb, eqb-true}
use Rattle.rec_core.proofs.Common.{Core, IsConfig, IsKept, Fits, Move, after_move, Write, epoch_of, stamp_of}
use Rattle.rec_core.specs.declared.config.Config.{Config}
use Rattle.rec_log.specs.declared.entry.Entry.TheVariants as entries
use Rattle.rec_core.specs.Core.{heap_by}
use Rattle.rec_core.specs.Pending.{writes_of}
use Rattle.rec_audit.proofs.Journalled.{StandsIn}
use Rattle.rec_audit.proofs.Lasting.{begun_less, op_less, step_less}
use Rattle.rec_audit.proofs.Newly.{newer_weighs}
use Rattle.rec_core.specs.Objects.{first_object}
use Rattle.rec_core.proofs.Opened.{first_labels, first_objects}
use Rattle.rec_core.proofs.OpenedFrom.{pending_begins}
use Rattle.rec_core.proofs.Turning.{turn_case}

-- a write whose word has another epoch in its stamp than its date
abbrev misdated : Write → ℕ
misdated x = if epoch_of x.new == (stamp_of x.new).epoch then 0 else 1

dated_well : (place new old : ℕ) → epoch_of new ≡ (stamp_of new).epoch → misdated (record { place = place; new = new; old = old }) ≡ 0
dated_well place new old same = ap (λ b. if b then 0 else 1) (eq-eqb (epoch_of new) (stamp_of new).epoch same)

-- none is there
abbrev pub IsStamped : Core → Type 0
IsStamped v = sum_by misdated (writes_of v) ≡ 0

move_less : (v : Core) (m : Move) → IsKept true v → Fits v m → sum_by misdated (writes_of (after_move v m)) ≤ sum_by misdated (writes_of v)
move_less v (Move.Begins t work from) kept fits = begun_less v t work from kept fits.0 misdated
move_less v (Move.Steps t) kept fits = step_less v t kept fits.0 fits.1 misdated dated_well
move_less v Move.Turns kept fits = turn_case v (λ o u. sum_by misdated (writes_of u) ≤ sum_by misdated (writes_of v)) (λ none. omega arith) (λ op named. op_less v op kept named misdated)
move_less v Move.Offers kept fits = omega arith

pub move_stamped : (v : Core) (m : Move) → IsKept true v → Fits v m → IsStamped v → IsStamped (after_move v m)
move_stamped v m kept fits none = omega (arith, move_less v m kept fits, none)

pub opened_stamped : (config : Config) → IsConfig config → IsStamped (heap_by true config)
opened_stamped config is = (pending_begins config (first_object config) is (first_objects config is) (first_labels config)).writes misdated

-- so it is in the buffers that the collector gathered last
pub stamp_is : (v : Core) (place new old : ℕ) → IsStamped v → StandsIn v.collector.newer (entries.Put place new old) → epoch_of new ≡ (stamp_of new).epoch
stamp_is v place new old none stands = go (epoch_of new == (stamp_of new).epoch) refl
  where
    few : misdated (record { place = place; new = new; old = old }) ≤ sum_by misdated (writes_of v)
    few = newer_weighs misdated v place new old stands

    go : (b : Bool) → epoch_of new == (stamp_of new).epoch ≡ b → epoch_of new ≡ (stamp_of new).epoch
    go true is = eqb-true (epoch_of new) (stamp_of new).epoch is
    go false is =
        let weighs : Bool → ℕ = λ c. if c then 0 else 1 in
        let one : misdated (record { place = place; new = new; old = old }) ≡ 1 = ap weighs is in
        absurd (omega (arith, few, none, one))

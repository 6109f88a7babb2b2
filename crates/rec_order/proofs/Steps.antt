-- What a step of a mutator does to a scan, to the naming, to the stamps that are left behind, and to the log.
use Rattle.std.proofs.Common.{◌≡◌, ◌≢◌, ℕ, ◌+◌, ◌<◌, ◌==◌, List, [], ◌∷◌, ◌++◌, Option, Some, Bool, true, false, if◌then◌else◌, length, slice_index_or, refl, sym, ap, subst, ◌∙◌, arith}
use Rattle.rec_word.specs.Header.{header_word}
use Rattle.rec_word.specs.declared.op.Op.{Op}
use Rattle.rec_word.specs.declared.op.Op.TheVariants as ops
use Rattle.rec_log.specs.declared.contents.Contents.{Contents}
use Rattle.rec_model.specs.declared.command.Cmd.{Cmd}
use Rattle.rec_model.specs.declared.told.Told.{Told}
use Rattle.rec_model.specs.LegalOrder.{Event, Limits, Moment, after_all, is_by, is_birth}
use Rattle.rec_model.specs.Sight.{IsTaken}
use Rattle.rec_mutator.specs.Next.{next_of, next_at}
use Rattle.rec_mutator.specs.Private.{Private, is_busy, probe_of, slot_behind}
use Rattle.rec_mutator.specs.Step.{Step, Decides}
use Rattle.rec_mutator.specs.Took.{step_of}
use Rattle.rec_mutator.specs.declared.phase.Phase.{Phase}
use Rattle.rec_mutator.specs.declared.phase.Phase.TheVariants as at
use Rattle.rec_mutator.proofs.Steps.{step_made}
use Rattle.rec_core.specs.Cells.{cell, births_of}
use Rattle.rec_core.specs.Config.{IsMutator}
use Rattle.rec_core.specs.Core.{Core, sight, cells_of, mutator, box}
use Rattle.rec_core.specs.Kept.{IsKept}
use Rattle.rec_core.specs.Moves.{Move, found_by, stepped}
use Rattle.rec_core.specs.StepAnswers.{IsDecided, IsBirthplace, probed_at}
use Rattle.rec_core.proofs.Showing.{stepped_mutator}
use Rattle.rec_core.proofs.Steps.{actor_of}
use Rattle.rec_order.specs.Naming.{Naming, born_in, named_by, named_after}
use Rattle.rec_order.proofs.Scans.{HasMet, met_begins, met_more, met_grows, met_born}
use Rattle.rec_order.proofs.Stands.{Stands, NamesOn}
use Rattle.rec_log.specs.declared.entry.Entry.{Entry}
use Rattle.rec_model.specs.Explained.{with_number}

-- what a scan has met, by phase
abbrev pub Meets : Limits → Moment → List Event → (home : ℕ → ℕ) → (next t from : ℕ) → Phase → Type 0
Meets limits start events home next t from (at.Scanning reg label leaf before probed) = HasMet limits start events home next t from before probed
Meets limits start events home next t from (at.Scanned reg label leaf before) = HasMet limits start events home next t from before limits.slots
Meets limits start events home next t from _ = Unit {0}

-- an event that isn't the mutator's
pub meets_grows : (limits : Limits) (start : Moment) (events : List Event) (home : ℕ → ℕ) (next t from : ℕ) (e : Event) (phase : Phase) → is_by t e ≡ false
    → Meets limits start events home next t from phase → Meets limits start (events ++ e ∷ []) home next t from phase
meets_grows limits start events home next t from e (at.Scanning reg label leaf before probed) other has = met_grows limits start events home next t from before probed e other has
meets_grows limits start events home next t from e (at.Scanned reg label leaf before) other has = met_grows limits start events home next t from before limits.slots e other has
meets_grows limits start events home next t from e _ other has = tt

-- a birth
pub meets_born : (limits : Limits) (start : Moment) (events : List Event) (home : ℕ → ℕ) (next t from place : ℕ) (phase : Phase)
    → Meets limits start events home next t from phase → Meets limits start events (with_number home next place) (next + 1) t from phase
meets_born limits start events home next t from place (at.Scanning reg label leaf before probed) has = met_born limits start events home next t from before probed place has
meets_born limits start events home next t from place (at.Scanned reg label leaf before) has = met_born limits start events home next t from before limits.slots place has
meets_born limits start events home next t from place _ has = tt

-- A step of the mutator's own scan that answers nothing.
module _ (limits : Limits) (start : Moment) (events : List Event) (w : Core) (n : Naming) (home : ℕ → ℕ) (t : ℕ) (same_slots : limits.slots ≡ w.config.slots) (so : Stands w (after_all limits start events) n home) where
  abbrev MeetsAt : (from : ℕ) → Phase → Type 0
  MeetsAt from phase = Meets limits start events home n.next t from phase

  -- a probe that found a header met the object of that slot
  probe_meets : (from before probed slot put word : ℕ) (op : Op) → slot ≡ slot_behind limits.slots from probed → op ≡ ops.ClaimHeader slot put → word ≡ cell (cells_of w) op → word ≢ 0 → HasMet limits start events home n.next t from before probed
      → HasMet limits start events home n.next t from before (probed + 1)
  probe_meets from before probed slot put word op there its found some has =
      let header : word ≡ slice_index_or w.headers slot 0 = found ∙ ap (cell (cells_of w)) its in
      let taken : IsTaken (sight w) slot = omega (arith, header, some) in
      let below : n.number slot < length (after_all limits start events).heap.objects = so.stands.there slot taken in
      let next : n.next ≡ length (after_all limits start events).heap.objects = so.next in
      met_more limits start events home n.next t from before probed (n.number slot) (so.homes slot taken ∙ there) (omega (arith, below, next)) (so.unfreed.there slot taken) has

  module _ (p : Private) (word : ℕ) (b : Contents) (op : Op) (q : Private) (many : p.slots ≡ w.config.slots) (found : word ≡ cell (cells_of w) op) (has : Meets limits start events home n.next t p.from p.phase) where
    decided : {cmd : Cmd} {phase : Phase} {its_op : Op} {registers : List (Option ℕ)} {entries : List Entry} {told : Told} → Decides p op q cmd phase its_op registers entries told
        → Meets limits start events home n.next t q.from q.phase
    decided d = subst (λ (x : Private). Meets limits start events home n.next t x.from x.phase) (sym d.after) tt

    pub meets_step : Step p word b op q → Meets limits start events home n.next t q.from q.phase
    meets_step (Step.null reg d) = decided d
    meets_step (Step.copy dst src d) = decided d
    meets_step (Step.compare x y d) = decided d
    meets_step (Step.park d) = decided d
    meets_step (Step.unpark d) = decided d
    meets_step (Step.get_of_null dst src f names d) = decided d
    meets_step (Step.get dst src f slot names d) = decided d
    meets_step (Step.put_of_null src f val names d) = decided d
    meets_step (Step.put_refused src f val slot names full d) = decided d
    meets_step (Step.put_into_leaf src f val slot names room leaf d) = decided d
    meets_step (Step.put_begins src f val slot names room unmarked g) = subst (λ (x : Private). Meets limits start events home n.next t x.from x.phase) (sym g.after) tt
    meets_step (Step.put src f val slot d) = decided d
    meets_step (Step.value_of_null reg names d) = decided d
    meets_step (Step.value reg slot names d) = decided d
    meets_step (Step.new_refused reg label leaf full d) = decided d
    meets_step (Step.new_begins reg label leaf room g) =
        subst (λ (x : Private). Meets limits start events home n.next t x.from x.phase) (sym g.after)
        (met_begins limits start events home n.next t p.from word (so.marks ∙ sym (found ∙ ap (cell (cells_of w)) g.operation)))
    meets_step (Step.new_wins reg label leaf before probed free d) = decided d
    meets_step (Step.new_goes_on reg label leaf before probed taken more g) =
        subst (λ (x : Private). Meets limits start events home n.next t x.from x.phase) (sym g.after)
        (probe_meets p.from before probed (probe_of p probed) (header_word leaf label) word op (ap (λ n. slot_behind n p.from probed) (many ∙ sym same_slots)) g.operation found taken (subst (MeetsAt p.from) g.phase has))
    meets_step (Step.new_finds_none reg label leaf before probed taken last g) =
        subst (λ (x : Private). Meets limits start events home n.next t x.from x.phase) (sym g.after)
        (subst (HasMet limits start events home n.next t p.from before) (last ∙ many ∙ sym same_slots) (probe_meets p.from before probed (probe_of p probed) (header_word leaf label) word op (ap (λ n. slot_behind n p.from probed) (many ∙ sym same_slots)) g.operation found taken (subst (MeetsAt p.from) g.phase has)))
    meets_step (Step.new_is_full reg label leaf before still d) = decided d
    meets_step (Step.new_is_busy reg label leaf before moves d) = decided d
    meets_step (Step.leave_refused uncollected d) = subst (λ (x : Private). Meets limits start events home n.next t x.from x.phase) (sym d.after) tt
    meets_step (Step.leave_begins collected g) = subst (λ (x : Private). Meets limits start events home n.next t x.from x.phase) (sym g.after) tt
    meets_step (Step.leave l) = subst (λ (x : Private). Meets limits start events home n.next t x.from x.phase) (sym l.after) tt
    meets_step (Step.leave_ends l) = subst (λ (x : Private). Meets limits start events home n.next t x.from x.phase) (sym l.after) tt
    meets_step (Step.poll_stays own g) = subst (λ (x : Private). Meets limits start events home n.next t x.from x.phase) (sym g.after) tt
    meets_step (Step.poll_crosses other g) = subst (λ (x : Private). Meets limits start events home n.next t x.from x.phase) (sym g.after) tt
    meets_step (Step.take_box c) = subst (λ (x : Private). Meets limits start events home n.next t x.from x.phase) (sym c.after) tt
    meets_step (Step.give_box c) = subst (λ (x : Private). Meets limits start events home n.next t x.from x.phase) (sym c.after) tt

-- the mutator's own scan, over a step of the world
pub own_meets : (limits : Limits) (start : Moment) (events : List Event) (w : Core) (n : Naming) (home : ℕ → ℕ) (t : ℕ) → limits.slots ≡ w.config.slots → Stands w (after_all limits start events) n home
    → IsKept false w → IsMutator w.config t → is_busy (mutator w t) ≡ true → Meets limits start events home n.next t (mutator w t).from (mutator w t).phase → Meets limits start events home n.next t (mutator (stepped w t) t).from (mutator (stepped w t) t).phase
own_meets limits start events w n home t same_slots so kept is busy has =
    let own = (actor_of w t kept is).own in
    subst (λ (x : Private). Meets limits start events home n.next t x.from x.phase) (sym (stepped_mutator w t kept is))
    (meets_step limits start events w n home t same_slots so (mutator w t) (found_by w t) (box w t) (next_of (mutator w t)) (step_of (mutator w t) (found_by w t) (box w t)) own.slots refl has
    (step_made (mutator w t) (found_by w t) (box w t) busy own.between))

-- The naming.
-- an operation that is no birth leaves it
unborn_names : (n : Naming) (op : Op) (found : ℕ) → births_of op found ≡ 0 → named_by n op found ≡ n
unborn_names n (ops.ClaimHeader slot header) found none = go (found == 0) none
  where
    go : (b : Bool) → ◌≡◌ {A = ℕ} (if b then 1 else 0) 0 → (if b then born_in n slot else n) ≡ n
    go true not = absurd (omega (arith, not))
    go false not = refl
unborn_names n _ found none = refl

-- nor does a step that counts no birth
pub same_names : (n : Naming) (w : Core) (t : ℕ) → (stepped w t).made ≡ w.made → named_after n w (Move.Steps t) ≡ n
same_names n w t made =
    unborn_names n (next_of (mutator w t)) (found_by w t) (let same : w.made + births_of (next_of (mutator w t)) (found_by w t) ≡ w.made = made in omega (arith, same))

-- a scan claims the slot to which it has come
claims_at : (p : Private) (slot : ℕ) → probed_at p p.phase ≡ Some slot → (header : ℕ) × (next_of p ≡ ops.ClaimHeader slot header)
unfolding next_of next_at
claims_at p slot probed = go p.phase probed
  where
    go : (phase : Phase) → probed_at p phase ≡ Some slot → (header : ℕ) × (next_at p phase ≡ ops.ClaimHeader slot header)
    go (at.Scanning reg label leaf before probed) is = let same : probe_of p probed ≡ slot = cc in (header_word leaf label, ap (λ x. ops.ClaimHeader x (header_word leaf label)) same)
    go _ is = cc

-- how the naming and the homes go on with a step that answers
pub step_names : (w : Core) (t : ℕ) (cmd : Cmd) (told : Told) (n : Naming) (home : ℕ → ℕ) → IsDecided w t cmd told (stepped w t)
    → (homes : ℕ → ℕ) × NamesOn w t cmd told (stepped w t) n home (named_after n w (Move.Steps t)) homes
step_names w t cmd told n home said = go (is_birth (cmd, told)) refl
  where
    made : births_of (next_of (mutator w t)) (found_by w t) ≡ (if is_birth (cmd, told) then 1 else 0)
    made = let all : w.made + births_of (next_of (mutator w t)) (found_by w t) ≡ w.made + (if is_birth (cmd, told) then 1 else 0) = said.made in omega (arith, all)

    go : (b : Bool) → is_birth (cmd, told) ≡ b → (homes : ℕ → ℕ) × NamesOn w t cmd told (stepped w t) n home (named_by n (next_of (mutator w t)) (found_by w t)) homes
    go false unborn =
        let none : births_of (next_of (mutator w t)) (found_by w t) ≡ 0 = made ∙ ap (λ (b : Bool). if b then 1 else 0) unborn in
        let P : Naming → Type 0 = λ k. NamesOn w t cmd told (stepped w t) n home k home in
        (home, subst P (sym (unborn_names n (next_of (mutator w t)) (found_by w t) none)) (NamesOn.same unborn))
    go true birth =
        let (slot, leaves) = said.leaves in
        let place : IsBirthplace w t slot = leaves.birth birth in
        let (label, claims) = claims_at (mutator w t) slot place.probed in
        let found : found_by w t ≡ 0 = ap (cell (cells_of w)) claims ∙ place.free in
        let here : named_by n (next_of (mutator w t)) (found_by w t) ≡ born_in n slot
        = ap (λ o. named_by n o (found_by w t)) claims ∙ ap (λ x. if x == 0 then born_in n slot else n) found in
        let P : Naming → Type 0 = λ k. NamesOn w t cmd told (stepped w t) n home k (with_number home n.next slot) in
        (with_number home n.next slot, subst P (sym here) (NamesOn.born slot birth place leaves.seen))

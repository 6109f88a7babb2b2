-- The objects are the one with which a heap is opened.
use Rattle.std.proofs.Common.{◌≡◌, ℕ, zero, suc, ◌-◌, ◌<◌, List, Option, None, Some, [], ◌∷◌, false, replicate, set, rules, sym, ap, ◌∙◌, subst, arith}
use Rattle.std.specs.List.{repeat}
use Rattle.std.specs.Result.{IfOk}
use Rattle.std.proofs.lemmas.List.Elements.{same_from_all_zip}
use Rattle.rec_core.specs.Core.{Core, opened_from}
use Rattle.rec_core.specs.Objects.{AreObjects, Objects, first_object, first_registers}
use Rattle.rec_core.proofs.Opened.{first_objects}
use Rattle.rec_world.proofs.world.opening.open_with_one.Goals as goal
use Rattle.rec_world.proofs.world.opening.open_with_one.Goals.{After-as_slice-2}

-- register 0 is set in a row of null registers
first_row : (n : ℕ) → 0 < n → set (replicate n None) 0 (Some 0) ≡ first_registers n
first_row zero some = absurd (omega (arith, some))
first_row (suc n) some = let less : n ≡ suc n - 1 = omega arith in ap (λ m. Some 0 ∷ replicate m None) less

objects_are : (c : After-as_slice-2) → ◌≡◌ {A = Objects} (record { nodes = (0, false) ∷ []; fields = c.as_slice.result.now; registers = c.as_slice-2.result.now }) (first_object c.args.config)
objects_are c =
    let fields : c.as_slice.result.now ≡ replicate c.args.config.fields None = c.as_slice.ensures.value ∙ c.in_ok-fields.ensures.items_if_clones_equal (search rules) in
    let own : c.deref.result.now ≡ first_registers c.args.config.registers
    = c.deref.ensures.value ∙ ap (λ (xs : List (Option ℕ)). set xs 0 (Some 0)) (c.in_ok-own.ensures.items_if_clones_equal (search rules)) ∙ first_row c.args.config.registers c.requires.some_registers in
    let clones : c.in_ok-registers.registers.items ≡ repeat c.args.config.mutators c.deref.result.now
    = same_from_all_zip _ (repeat c.args.config.mutators c.deref.result.now) c.in_ok-registers.registers.items c.in_ok-registers.ensures.items (search rules) in
    let registers : c.as_slice-2.result.now ≡ repeat c.args.config.mutators (first_registers c.args.config.registers)
    = c.as_slice-2.ensures.value ∙ clones ∙ ap (λ (xs : List (Option ℕ)). repeat c.args.config.mutators xs) own in
    (λ i. let o : Objects = record { nodes = (0, false) ∷ []; fields = fields i; registers = registers i } in o)

pub open_objects-requires-clause-objects : goal.open_objects-requires-clause-objects
open_objects-requires-clause-objects c = subst (AreObjects c.args.config) (sym (objects_are c)) (first_objects c.args.config c.requires)

pub returns-clause-opened : goal.returns-clause-opened
returns-clause-opened c =
    subst (λ (o : Objects). IfOk c.open_objects.result (λ (world : Core). world ≡ opened_from c.args.config o)) (objects_are (goal.at.returns-clause-opened c).After-as_slice-2) c.open_objects.ensures.opened

-- Registers and fields name slots, so they can be numbered.
use Rattle.std.proofs.Common.{◌≡◌, ◌*◌, length, sym, ap, subst, ◌∙◌}
use Rattle.rec_world.proofs.Common.{Core, sight, core}
use Rattle.rec_model.specs.Sight.{NumbersSlots}
use Rattle.rec_world.specs.Numbering.{NamesBelow, sight_of}
use Rattle.rec_world.proofs.Names.{names_below}
use Rattle.rec_world.proofs.world.World.number.Goals as goal

pub fill-requires : goal.fill-requires
fill-requires c =
    let w : Core = core c.self.inside in
    let slots : c.args.numbering.now.slots ≡ c.self.inside.config.slots = c.requires.slots ∙ ap (λ (s : Core). s.config.slots) (sym c.self.view_is) in
    let names : NamesBelow (sight_of (sight w).registers c.self.inside.memory.words c.self.inside.config.fields) c.args.numbering.now.slots = rw slots (names_below w c.self.invariant.world.shaped) in
    record {
      places = ap length c.words.ensures ∙ c.self.invariant.world.shaped.sound.places ∙ ap (λ n. n * c.self.inside.config.fields) (c.self.invariant.world.shaped.headers ∙ sym slots);
      names = rw (c.deref.ensures.value, c.words.ensures) names;
    }

pub returns-clause-numbers : goal.returns-clause-numbers
returns-clause-numbers c =
    let w : Core = core c.self.inside in
    let names : NumbersSlots (sight_of (sight w).registers c.self.inside.memory.words c.self.inside.config.fields) c.fill.new.self.list = rw (← c.deref.ensures.value, ← c.words.ensures) c.fill.ensures.numbers in
    subst (λ (s : Core). NumbersSlots (sight s) c.fill.new.self.list) c.self.view_is (record { order = names.order; reached = names.reached })

-- How many commands of each mutator are made, and how many turns of its are to come.
use Rattle.std.proofs.Common.{◌≡◌, inl, inr, ℕ, ◌+◌, ◌-◌, ◌<◌, ◌≤◌, ◌==◌, zero, suc, Some, List, [], ◌∷◌, ◌++◌, if◌then◌else◌, slice_index_or, slice_set, length, replicate, refl, sym, ap, subst, ◌∙◌, arith}
use Rattle.std.specs.List.{slice_get}
use Rattle.std.proofs.lemmas.Bool.{cases_eq, cases_lt, eq-eqb, ne_eqb}
use Rattle.std.proofs.lemmas.Bool.Decides.{nat_tests}
use Rattle.std.proofs.lemmas.List.{length-map, length-set, get_or-map, get_or-replicate, get_or-set_same, get_or-set_other, get_or_past}
use Rattle.std.proofs.lemmas.List.Elements.{filter_map-append}
use Rattle.std.proofs.lemmas.Option.{slice_get_within}
use Rattle.rec_model.specs.declared.command.Cmd.{Cmd}
use Rattle.rec_model.specs.declared.limits.TheConstants.{MOST_MUTATORS}
use Rattle.rec_model.specs.Numbering.{times}
use Rattle.rec_model.proofs.Counted.{times-cons}
use Rattle.rec_core.specs.Config.{IsMutator}
use Rattle.rec_core.specs.Core.{Core}
use Rattle.rec_core.specs.declared.config.Config.{Config}
use Rattle.rec_script.specs.Script.{ScriptContents, IsScript, most_mutators}
use Rattle.rec_play.specs.declared.actor.Actor.{Actor}
use Rattle.rec_play.specs.declared.actor.Actor.TheVariants.{Mutator, Collector}
use Rattle.rec_play.specs.Moves.{AreDue, IsSpent, Player, made_by}
use Rattle.rec_play.specs.Numbers.{config_of}
use Rattle.rec_play.specs.Played.{lengths_of}
use Rattle.rec_play.specs.Playing.{IsOrderFor, Rest, generator_of, mutators_of, number_of_actor, order, all_turns, to_come}
use Rattle.rec_play.specs.Run.{HasCommand, commands_of}
use Rattle.rec_play.proofs.Orders.{order_comes, order_names}

-- a script has no more mutators than a heap can have
pub few_mutators : (script : ScriptContents) → IsScript script → length script.commands ≤ MOST_MUTATORS
few_mutators script is = omega (arith, is.most_mutators, most_allowed)
  where
    most_allowed : most_mutators script.version ≤ MOST_MUTATORS
    most_allowed = grind (arith, nat_tests)

-- a mutator of the heap is one of the script
pub is_of_script : (script : ScriptContents) (w : Core) (t : ℕ) → w.config ≡ config_of script → IsMutator w.config t → (1 ≤ t) × (t ≤ length script.commands)
is_of_script script w t config is = subst (λ (c : Config). IsMutator c t) config is

-- a mutator's commands, by its index
pub commands_are : (script : ScriptContents) (t : ℕ) → 0 < t → commands_of script t ≡ slice_index_or script.commands (t - 1) []
commands_are script zero some = absurd (omega (arith, some))
commands_are script (suc i) some = ap (λ n. slice_index_or script.commands n []) (let same : i ≡ suc i - 1 = omega arith in same)

-- whoever has a command is one of the script's mutators
pub has_next : (script : ScriptContents) (t m : ℕ) → m < length (commands_of script t) → HasCommand script t m
has_next script zero m within = absurd (omega (arith, within))
has_next script (suc i) m within = record {
  some = omega arith;
  most = elim (cases_lt i (length script.commands)) [
    | inl there ↦ omega (arith, there)
    | inr past ↦ absurd (omega (arith, within, ap (length {A = Cmd}) (get_or_past script.commands i [] past)))
  ];
  next = within;
}

pub has_command : (script : ScriptContents) (t m : ℕ) (cmd : Cmd) → slice_get (commands_of script t) m ≡ Some cmd → HasCommand script t m
has_command script t m cmd is = has_next script t m (slice_get_within (commands_of script t) m cmd is)

-- how many commands a mutator has
pub lengths_at : (script : ScriptContents) (t : ℕ) → 1 ≤ t → t ≤ length script.commands → slice_index_or (lengths_of script) (t - 1) 0 ≡ length (commands_of script t)
lengths_at script t some most = get_or-map (length {A = Cmd}) script.commands (t - 1) [] 0 (omega (arith, some, most)) ∙ ap length (sym (commands_are script t some))

-- a mutator that comes first has a turn more to come
times_first : (t s : ℕ) (comes later : List Actor) → comes ≡ Mutator s ∷ later → times t (mutators_of comes) ≡ (if s == t then 1 else 0) + times t (mutators_of later)
times_first t s comes later is = ap (λ actors. times t (mutators_of actors)) is ∙ times-cons t s (mutators_of later)

-- none is made at the start
pub none_made : (t : ℕ) → made_by (replicate MOST_MUTATORS 0) t ≡ 0
none_made t = elim (cases_lt (t - 1) MOST_MUTATORS) [ inl there ↦ get_or-replicate MOST_MUTATORS (t - 1) 0 0 there | inr past ↦ get_or_past (replicate MOST_MUTATORS 0) (t - 1) 0 past ]

-- Before the first turn all are to come.
pub due_first : (script : ScriptContents) (seed turns : ℕ) (p : Player) → IsScript script → p.script ≡ script → p.rest ≡ record { left = lengths_of script; generator = generator_of seed; turns = turns } → p.made ≡ replicate MOST_MUTATORS 0 → AreDue p
due_first script seed turns p valid same rest none =
    let names : IsOrderFor (lengths_of script) (order (lengths_of script) seed turns) = order_names (lengths_of script) seed turns in
    let comes : mutators_of (to_come p.rest) ≡ order (lengths_of script) seed turns = ap (λ r. mutators_of (to_come r)) rest ∙ order_comes (lengths_of script) seed turns in
    record {
      valid = subst IsScript (sym same) valid;
      long = ap length none;
      each = λ t some. omega (arith, ap (λ made. made_by made t) none ∙ none_made t, ap (times t) comes, names.each t some, ap (λ s. slice_index_or (lengths_of s) (t - 1) 0) same);
      nobody = ap (times 0) comes ∙ names.nobody;
    }

-- in the middle
module _ (p : Player) (due : AreDue p) (rest : Rest) where
  -- a mutator's turn comes, and it has a command left
  pub next_turn : (t : ℕ) → to_come p.rest ≡ Mutator t ∷ to_come rest → HasCommand p.script t (made_by p.made t)
  next_turn t comes =
      let more : times t (mutators_of (to_come p.rest)) ≡ 1 + times t (mutators_of (to_come rest)) = times_first t t (to_come p.rest) (to_come rest) comes ∙ ap (λ b. (if b then 1 else 0) + times t (mutators_of (to_come rest))) (eq-eqb t t refl) in
      let some : 1 ≤ t = at_least t (omega (arith, more)) in
      let within : t - 1 < length (lengths_of p.script) = elim (cases_lt (t - 1) (length (lengths_of p.script))) [
        | inl there ↦ there
        | inr past ↦ absurd (omega (arith, more, due.each t some, get_or_past (lengths_of p.script) (t - 1) 0 past))
      ] in
      let most : t ≤ length p.script.commands = omega (arith, some, within, length-map p.script.commands (length {A = Cmd})) in
      record { some = some; most = most; next = omega (arith, more, due.each t some, lengths_at p.script t some most) }
    where
      at_least : (t : ℕ) → 0 < times t (mutators_of (to_come p.rest)) → 1 ≤ t
      at_least zero some = absurd (omega (arith, some, due.nobody))
      at_least (suc t) some = omega arith

  -- and makes it
  pub due_made : (t : ℕ) → to_come p.rest ≡ Mutator t ∷ to_come rest → AreDue (record p { rest = rest; made = slice_set p.made (t - 1) (made_by p.made t + 1) })
  due_made t comes =
      let next : HasCommand p.script t (made_by p.made t) = next_turn t comes in
      let made : List ℕ = slice_set p.made (t - 1) (made_by p.made t + 1) in
      record {
        valid = due.valid;
        long = length-set p.made (t - 1) (made_by p.made t + 1) ∙ due.long;
        each = λ s some. elim (cases_eq t s) [
          | inl same ↦
              let P : ℕ → Type 0 = λ x. made_by made x + times x (mutators_of (to_come rest)) ≡ slice_index_or (lengths_of p.script) (x - 1) 0 in
              let mine : made_by made t ≡ made_by p.made t + 1 = get_or-set_same p.made (t - 1) (made_by p.made t + 1) 0 (omega (arith, next.some, next.most, few_mutators p.script due.valid, due.long)) in
              subst P same (omega (arith, mine, due.each t next.some, times_first t t (to_come p.rest) (to_come rest) comes, ap {B = ℕ} (λ b. if b then 1 else 0) (eq-eqb t t refl)))
          | inr other ↦
              let stays : made_by made s ≡ made_by p.made s = get_or-set_other p.made (t - 1) (s - 1) (made_by p.made t + 1) 0 (λ at. other (omega (arith, at, next.some, some))) in
              omega (arith, stays, due.each s some, times_first s t (to_come p.rest) (to_come rest) comes, ap {B = ℕ} (λ b. if b then 1 else 0) (ne_eqb t s other))
        ];
        nobody = omega (arith, due.nobody, times_first 0 t (to_come p.rest) (to_come rest) comes);
      }

  -- the collector's turn comes
  pub due_stepped : to_come p.rest ≡ Collector ∷ to_come rest → AreDue (record p { rest = rest })
  due_stepped comes =
      let same : mutators_of (to_come p.rest) ≡ mutators_of (to_come rest) = ap mutators_of comes in
      record { valid = due.valid; long = due.long; each = λ t some. ap (λ ts. made_by p.made t + times t ts) (sym same) ∙ due.each t some; nobody = ap (times 0) (sym same) ∙ due.nobody }

-- where none is to come, all commands are made
pub all_made : (p : Player) → AreDue p → to_come p.rest ≡ [] → (t : ℕ) → 1 ≤ t → t ≤ length p.script.commands → IsSpent p.script p.made t
all_made p due none t some most = omega (arith, due.each t some, ap (λ later. times t (mutators_of later)) none, lengths_at p.script t some most)

-- the order of the turns made and those to come
pub order_is : (lengths : List ℕ) (seed turns : ℕ) (acted comes : List Actor) → acted ++ comes ≡ all_turns lengths seed turns → mutators_of acted ++ mutators_of comes ≡ order lengths seed turns
order_is lengths seed turns acted comes all = sym (filter_map-append number_of_actor acted comes) ∙ ap mutators_of all ∙ order_comes lengths seed turns

-- Journals and orders as they are opened, and the numbers of a heap.
use Rattle.std.proofs.Common.{◌≡◌, inl, inr, ℕ, ◌+◌, ◌-◌, ◌<◌, ◌≤◌, zero, suc, List, [], ◌∷◌, ◌++◌, Some, slice_index_or, length, map, take, sym, ap, subst, ◌∙◌, arith}
use Rattle.std.specs.List.{slice_get, sum, All, Any}
use Rattle.std.proofs.lemmas.Bool.{cases_lt}
use Rattle.std.proofs.lemmas.List.{take_more, take_all, length-map, get_or-map, get_or_past}
use Rattle.std.proofs.lemmas.List.Elements.{All-from_get_or, All-get_or}
use Rattle.std.proofs.lemmas.List.Sums.{sum_by-append, sum_by-cons}
use Rattle.std.proofs.lemmas.Option.{get_or_from_slice_get, slice_get-get_or, slice_get_within}
use Rattle.rec_collector.specs.Private.{plain}
use Rattle.rec_model.specs.declared.command.Cmd.{Cmd}
use Rattle.rec_core.specs.Config.{IsConfig}
use Rattle.rec_core.specs.declared.config.Config.{Config}
use Rattle.rec_world.specs.Journal.{Notes, no_notes}
use Rattle.rec_script.specs.Script.{ScriptContents, IsScript}
use Rattle.rec_play.specs.Played.{AreReady, config_of, longest, log_room}
use Rattle.rec_play.proofs.Due.{few_mutators}

-- a mutator's commands fit its log
pub fits_longest : (all : List (List Cmd)) (i : ℕ) → length (slice_index_or all i []) ≤ longest all
fits_longest [] i = omega arith
fits_longest (cmds ∷ all) zero = omega arith
fits_longest (cmds ∷ all) (suc i) = let rest : length (slice_index_or all i []) ≤ longest all = fits_longest all i in omega arith

-- an empty journal with this room
abbrev pub journal_with : ℕ → Notes
journal_with room = record { lines = []; room = room }

-- one mutator more
pub lengths_more : (all : List (List Cmd)) (i : ℕ) (cmds : List Cmd) → slice_get all (i + 1 - 1) ≡ Some cmds → take (i + 1) (map length all) ≡ take i (map length all) ++ length cmds ∷ []
lengths_more all i cmds is =
    let named : slice_get all i ≡ Some cmds = ap (slice_get all) (let same : i ≡ i + 1 - 1 = omega arith in same) ∙ is in
    let there : i < length all = slice_get_within all i cmds named in
    let own : slice_index_or (map length all) i 0 ≡ length cmds = get_or-map length all i [] 0 there ∙ ap length (get_or_from_slice_get all i cmds [] named) in
    take_more (map length all) i 0 (subst (λ n. i < n) (sym (length-map all length)) there) ∙ ap (λ n. take i (map length all) ++ n ∷ []) own

-- the sum with one mutator more
pub sum_more : (ns : List ℕ) (n : ℕ) → sum (ns ++ n ∷ []) ≡ sum ns + n
sum_more ns n = sum_by-append (λ m. m) ns (n ∷ []) ∙ ap (λ k. sum ns + k) (sum_by-cons (λ m. m) n [] ∙ add_zero n)
  where
    add_zero : (m : ℕ) → m + 0 ≡ m
    add_zero m = omega arith

-- all of them
pub lengths_all : (all : List (List Cmd)) (i : ℕ) → length all ≤ i → take i (map length all) ≡ map length all
lengths_all all i past = take_all i (map length all) (subst (λ n. n ≤ i) (sym (length-map all length)) past)

-- journals with room for the commands are ready
pub ready : (all : List (List Cmd)) → AreReady all (map journal_with (map length all))
ready all =
    let many : length (map journal_with (map length all)) ≡ length all = length-map (map length all) journal_with ∙ length-map all length in
    let at : (i : ℕ) → i < length all → slice_index_or (map journal_with (map length all)) i no_notes ≡ journal_with (length (slice_index_or all i [])) = λ i there.
    get_or-map journal_with (map length all) i 0 no_notes (subst (λ n. i < n) (sym (length-map all length)) there) ∙ ap journal_with (get_or-map length all i [] 0 there) in
    record {
      one_each = many;
      empty = All-from_get_or (λ (j : Notes). j.lines ≡ []) (map journal_with (map length all)) no_notes (λ i there. ap (λ (j : Notes). j.lines) (at i (subst (λ n. i < n) many there)));
      room = λ i. elim (cases_lt i (length all)) [
        | inl there ↦ let is : (slice_index_or (map journal_with (map length all)) i no_notes).room ≡ length (slice_index_or all i []) = ap (λ (j : Notes). j.room) (at i there) in omega arith
        | inr past ↦ let none : length (slice_index_or all i []) ≡ 0 = ap length (get_or_past all i [] past) in omega arith
      ];
    }

-- the greatest number of commands
longest_within : (all : List (List Cmd)) (most : ℕ) → ((i : ℕ) → i < length all → length (slice_index_or all i []) ≤ most) → longest all ≤ most
longest_within [] most bound = omega arith
longest_within (cmds ∷ all) most bound =
    let own : length cmds ≤ most = bound 0 (omega arith) in
    let rest : longest all ≤ most = longest_within all most (λ i there. bound (suc i) (omega arith)) in
    omega arith

pub longest_is : (all : List (List Cmd)) (most : ℕ) → All (λ cmds. length cmds ≤ most) all → Any (λ cmds. length cmds ≡ most) all → longest all ≡ most
longest_is all most bound (k, found, there, is, most_is) =
    let within : longest all ≤ most = longest_within all most (λ i i_there. All-get_or (λ (cmds : List Cmd). length cmds ≤ most) all i [] i_there bound) in
    let same : slice_index_or all k [] ≡ found = get_or_from_slice_get all k found [] (slice_get-get_or all k found there ∙ ap (λ (cmds : List Cmd). Some cmds) is) in
    let long : length (slice_index_or all k []) ≡ most = ap length same ∙ most_is in
    let fits : length (slice_index_or all k []) ≤ longest all = fits_longest all k in
    omega arith

-- the heap's numbers
pub config_is : (script : ScriptContents) (slots fields registers mutators room : ℕ) → slots ≡ script.slots → fields ≡ script.fields → registers ≡ script.registers → mutators ≡ length script.commands → room ≡ log_room script
    → ◌≡◌ {A = Config} (record { slots = slots; fields = fields; registers = registers; mutators = mutators; log_entries = room; first_epoch = 1; policy = plain }) (config_of script)
config_is script slots fields registers mutators room s f r m l = cc

-- a script's numbers are those of a heap
pub script_config : (script : ScriptContents) → IsScript script → IsConfig (config_of script)
script_config script is =
    let entries : longest script.commands ≤ 200000 = longest_within script.commands 200000 (λ i within. (is.commands i [] within).few) in
    record {
      some_slots = is.heap.some_slots;
      few_slots = is.heap.most_slots;
      some_fields = is.heap.some_fields;
      few_fields = is.heap.most_fields;
      some_registers = is.heap.some_registers;
      few_registers = is.heap.most_registers;
      some_mutators = is.some_mutators;
      few_mutators = few_mutators script is;
      some_log_entries = omega arith;
      few_log_entries = omega arith;
      some_epoch = omega arith;
      few_epochs = omega arith;
    }

-- Behind a line that is wrong no lines make a script's text.
use Rattle.std.proofs.Common.{◌≡◌, ◌≢◌, ◌⊎◌, inl, inr, ℕ, suc, ◌^◌, ◌<◌, ◌≤◌, Bool, true, cond, List, [], ◌∷◌, ◌++◌, length, get_or, drop, map, refl, sym, ap, subst, ◌∙◌, arith, append_assoc}
use Rattle.std.specs.Prelude.{All, filter}
use Rattle.std.specs.List.{flat_map}
use Rattle.std.specs.Fmt.{decimal}
use Rattle.std.specs.Str.{IsUtf8}
use Rattle.std.proofs.lemmas.List.{map-append}
use Rattle.std.proofs.lemmas.List.Elements.{All-head, All-tail, All-cons, All-append, All-map, filter-append}
use Rattle.rec_model.specs.declared.command.Cmd.{Cmd}
use Rattle.rec_model.specs.declared.command.Cmd.TheVariants.{New, Leaf, Null, Copy, Get, Put, Value, Same, Leave, Park, Unpark}
use Rattle.rec_script.specs.declared.error.Kind.{Kind}
use Rattle.rec_script.specs.Lines.{words, is_counted, counted, AreUtf8}
use Rattle.rec_script.specs.Script.{ScriptContents, IsCommand, Allows, AreCommands, IsScript, Continues, mutator_line, mutator_lines, command_line, word_of, operands_of, limits_of, HasLeft, LeavesLast, most_mutators, last_commands, spelled, IsShaped, IsWrong, AreWrong, IsBadCommand, Fits, IsFault}
use Rattle.rec_script.proofs.Numerals.{same_number}
use Rattle.rec_script.proofs.Commands.{same_limits}
use Rattle.rec_script.proofs.Regrouping.{Groups, grouped, command_of, no_mutator_shape, regroup, glue, regroup_mutators, regrouped, glue_length, glue_last, glue_gone, small, same_version, same_heap, SameHeap, behind_heap}

-- ---- lines that count

pub counted-append : (xs ys : List (List ℕ)) → counted (xs ++ ys) ≡ counted xs ++ counted ys
counted-append xs ys = ap (filter is_counted) (map-append words xs ys) ∙ filter-append is_counted (map words xs) (map words ys)

pub counted_at : (before : List (List ℕ)) (line : List ℕ) (after : List (List ℕ)) → is_counted (words line) ≡ true → counted ((before ++ line ∷ []) ++ after) ≡ counted before ++ words line ∷ counted after
counted_at before line after counts =
    ap counted (append_assoc before (line ∷ []) after)
    ∙ counted-append before (line ∷ after)
    ∙ ap (λ (b : Bool). counted before ++ cond b (words line ∷ counted after) (counted after)) counts

pub all_at : {X : Type 0} (P : X → Type 0) (xs : List X) (x : X) (ys : List X) → All P (xs ++ x ∷ ys) → P x
all_at P [] x ys h = All-head P x ys h
all_at P (z ∷ xs) x ys h = all_at P xs x ys (All-tail P z (xs ++ x ∷ ys) h)

-- ---- lines of a script behind its heap

-- the line of a mutator, or of a command of the version in range
abbrev pub IsBodyLine : (version registers fields : ℕ) → List (List ℕ) → Type 0
IsBodyLine version registers fields line = (line ≡ mutator_line) ⊎ ((cmd : Cmd) × Allows version cmd × IsCommand registers fields cmd × (line ≡ command_line cmd))

pub body_lines : (v r f : ℕ) (css : List (List Cmd)) → All (AreCommands v r f) css → All (IsBodyLine v r f) (flat_map mutator_lines css)
body_lines v r f [] are = λ k d lt. absurd (omega arith)
body_lines v r f (cmds ∷ css) are =
    All-append (IsBodyLine v r f) (mutator_lines cmds) (flat_map mutator_lines css)
    (All-cons (IsBodyLine v r f) mutator_line (map command_line cmds) (inl refl) (All-map (IsBodyLine v r f) command_line cmds (λ k d lt. inr (get_or cmds k d, (All-head (AreCommands v r f) cmds css are).allowed k d lt, (All-head (AreCommands v r f) cmds css are).in_range k d lt, refl))))
    (body_lines v r f css (All-tail (AreCommands v r f) cmds css are))

-- ---- right operands aren't wrong

abbrev AreRight : List (ℕ × Kind) → List ℕ → Type 0
AreRight [] [] = Unit {0}
AreRight [] (n ∷ ns) = ⊥
AreRight (limit ∷ limits) [] = ⊥
AreRight (limit ∷ limits) (n ∷ ns) = ((n < limit.0) × (n < 2 ^ 32)) × AreRight limits ns

not_wrong : (limit : ℕ × Kind) (n : ℕ) (kind : Kind) → n < limit.0 → n < 2 ^ 32 → IsWrong limit (decimal n) kind → ⊥
not_wrong limit n kind below fits (inl none) = none.1 n (fits, refl)
not_wrong limit n kind below fits (inr past) = omega (arith, same_number (decimal n) n past.0 (fits, refl) past.1, past.2)

none_wrong : (limits : List (ℕ × Kind)) (ns : List ℕ) (kind : Kind) → AreRight limits ns → AreWrong limits (map decimal ns) kind → ⊥
none_wrong [] [] kind right wrong = wrong
none_wrong [] (n ∷ ns) kind right wrong = right
none_wrong (limit ∷ limits) [] kind right wrong = right
none_wrong (limit ∷ limits) (n ∷ ns) kind right (inl here) = not_wrong limit n kind right.0.0 right.0.1 here
none_wrong (limit ∷ limits) (n ∷ ns) kind right (inr behind) = none_wrong limits ns kind right.1 behind.1

-- the operands of a command in range are right
right_operands : (r f : ℕ) (cmd : Cmd) → r ≤ 64 → f ≤ 16 → IsCommand r f cmd → AreRight (limits_of r f cmd) (operands_of cmd)
right_operands r f (New reg label) most-r most-f is = ((is.0, omega (arith, is.0)), ((is.1, is.1), tt))
right_operands r f (Leaf reg label) most-r most-f is = ((is.0, omega (arith, is.0)), ((is.1, is.1), tt))
right_operands r f (Null reg) most-r most-f is = ((is.0, omega (arith, is.0)), tt)
right_operands r f (Copy dst src) most-r most-f is = ((is.0.0, omega (arith, is.0.0)), ((is.0.1, omega (arith, is.0.1)), tt))
right_operands r f (Get dst src field) most-r most-f is = ((is.0.0, omega (arith, is.0.0)), ((is.0.1, omega (arith, is.0.1)), ((is.0.2, omega (arith, is.0.2)), tt)))
right_operands r f (Put src field val) most-r most-f is = ((is.0.0, omega (arith, is.0.0)), ((is.0.1, omega (arith, is.0.1)), ((is.0.2, omega (arith, is.0.2)), tt)))
right_operands r f (Value reg) most-r most-f is = ((is.0, omega (arith, is.0)), tt)
right_operands r f (Same a b) most-r most-f is = ((is.0.0, omega (arith, is.0.0)), ((is.0.1, omega (arith, is.0.1)), tt))
right_operands r f Leave most-r most-f is = tt
right_operands r f Park most-r most-f is = tt
right_operands r f Unpark most-r most-f is = tt

-- ---- a script's text has no such line

-- what a script says where another one is spelled in front of a line
pub record Behind (mine : ScriptContents) (line : List (List ℕ)) (rest : List (List (List ℕ))) (other : ScriptContents) : Type 0 where
  pub version : mine.version ≡ other.version
  pub heaps : SameHeap mine.slots mine.fields mine.registers other.slots other.fields other.registers
  pub body : flat_map mutator_lines mine.commands ++ line ∷ rest ≡ flat_map mutator_lines other.commands
  pub groups : glue mine.commands (regroup (line ∷ rest)) ≡ grouped [] other.commands

pub behind : (mine : ScriptContents) (line : List (List ℕ)) (rest : List (List (List ℕ))) (other : ScriptContents) → IsScript mine → IsScript other → spelled mine ++ line ∷ rest ≡ spelled other → Behind mine line rest other
behind mine line rest other is-mine is-other e =
    let body : flat_map mutator_lines mine.commands ++ line ∷ rest ≡ flat_map mutator_lines other.commands = ap behind_heap e in
    record {
      version = same_version mine.version other.version is-mine.version is-other.version (ap (λ (t : List (List (List ℕ))). get_or t 0 []) e);
      heaps = same_heap mine.slots mine.fields mine.registers other.slots other.fields other.registers is-mine.heap is-other.heap (ap (λ (t : List (List (List ℕ))). get_or t 1 []) e);
      body = body;
      groups =
          sym (regroup_mutators mine.version mine.registers mine.fields mine.commands (line ∷ rest) (small mine.slots mine.fields mine.registers is-mine.heap) is-mine.commands)
          ∙ ap regroup body
          ∙ regrouped other.version other.registers other.fields other.commands (small other.slots other.fields other.registers is-other.heap) is-other.commands;
    }

-- the line behind a script is of its continuation's body
pub body_line : (mine : ScriptContents) (line : List (List ℕ)) (rest : List (List (List ℕ))) (other : ScriptContents) → IsScript other → Behind mine line rest other → IsBodyLine mine.version mine.registers mine.fields line
body_line mine line rest other is-other b =
    let all = body_lines other.version other.registers other.fields other.commands is-other.commands in
    let here : IsBodyLine other.version other.registers other.fields line = all_at (IsBodyLine other.version other.registers other.fields) (flat_map mutator_lines mine.commands) line rest (subst (λ (t : List (List (List ℕ))). All (IsBodyLine other.version other.registers other.fields) t) (sym b.body) all) in
    subst (λ (v : ℕ). IsBodyLine v mine.registers mine.fields line) (sym b.version)
    (subst (λ (r : ℕ). IsBodyLine other.version r mine.fields line) (sym b.heaps.registers) (subst (λ (f : ℕ). IsBodyLine other.version other.registers f line) (sym b.heaps.fields) here))

-- no mutator follows as many as the version allows
no_further : (mine : ScriptContents) (line : List (List ℕ)) (rest : List (List (List ℕ))) (other : ScriptContents) → IsScript other → Behind mine line rest other → line ≡ mutator_line → length mine.commands ≡ most_mutators mine.version → ⊥
no_further mine line rest other is-other b is full =
    let count : length (glue mine.commands (regroup (line ∷ rest))).behind ≡ length other.commands = ap (λ (g : Groups). length g.behind) b.groups in
    let one : length (regroup (line ∷ rest)).behind ≡ suc (length (regroup rest).behind) = ap (λ (t : List (List ℕ)). length (regroup (t ∷ rest)).behind) is in
    omega (arith, glue_length mine.commands (regroup (line ∷ rest)), is-other.most_mutators, ap most_mutators b.version)

-- a line of a command's shape is one command
one_command : (line : List (List ℕ)) (rest : List (List (List ℕ))) (cmd : Cmd) → IsShaped line cmd → length (regroup (line ∷ rest)).front ≡ suc (length (regroup rest).front)
one_command line rest cmd shape =
    ap (λ (t : Bool). length (cond t (grouped [] ((regroup rest).front ∷ (regroup rest).behind)) (grouped (command_of line ∷ (regroup rest).front) (regroup rest).behind)).front) (no_mutator_shape line cmd shape)

no_more_commands : (mine : ScriptContents) (line : List (List ℕ)) (rest : List (List (List ℕ))) (other : ScriptContents) (cmd : Cmd) → IsScript mine → IsScript other → Behind mine line rest other → IsShaped line cmd → length (last_commands mine.commands) ≡ 200000 → ⊥
no_more_commands mine line rest other cmd is-mine is-other b shape full =
    let few : All (λ c. length c ≤ 200000) other.commands = λ k d lt. (is-other.commands k d lt).few in
    let all : All (λ c. length c ≤ 200000) (glue mine.commands (regroup (line ∷ rest))).behind = subst (λ (g : Groups). All (λ c. length c ≤ 200000) g.behind) (sym b.groups) few in
    omega (arith, glue_last mine.commands (regroup (line ∷ rest)) is-mine.some_mutators all, one_command line rest cmd shape)

-- nobody has left who has a command behind
no_command_behind : (mine : ScriptContents) (line : List (List ℕ)) (rest : List (List (List ℕ))) (other : ScriptContents) (cmd : Cmd) → IsScript mine → IsScript other → Behind mine line rest other → IsShaped line cmd → HasLeft (last_commands mine.commands) → ⊥
no_command_behind mine line rest other cmd is-mine is-other b shape gone =
    let last : All LeavesLast other.commands = λ k d lt. (is-other.commands k d lt).leaves_last in
    let all : All LeavesLast (glue mine.commands (regroup (line ∷ rest))).behind = subst (λ (g : Groups). All LeavesLast g.behind) (sym b.groups) last in
    omega (arith, glue_gone mine.commands (regroup (line ∷ rest)) all gone, one_command line rest cmd shape)

no_bad_operand : (mine : ScriptContents) (line : List (List ℕ)) (cmd : Cmd) (kind : Kind) → IsScript mine → IsShaped line cmd → AreWrong (limits_of mine.registers mine.fields cmd) (drop 1 line) kind
    → (other : Cmd) → IsCommand mine.registers mine.fields other → line ≡ command_line other → ⊥
no_bad_operand mine line cmd kind is-mine shape wrong other is e =
    let same : word_of cmd ≡ word_of other = sym shape.0 ∙ ap (λ (t : List (List ℕ)). get_or t 0 []) e in
    none_wrong (limits_of mine.registers mine.fields other) (operands_of other) kind (right_operands mine.registers mine.fields other is-mine.heap.most_registers is-mine.heap.most_fields is)
    (subst (λ (t : List (List ℕ)). AreWrong (limits_of mine.registers mine.fields other) (drop 1 t) kind) e
    (subst (λ (ls : List (ℕ × Kind)). AreWrong ls (drop 1 line) kind) (same_limits mine.registers mine.fields cmd other same) wrong))

no_bad_command : (mine : ScriptContents) (line : List (List ℕ)) (rest : List (List (List ℕ))) (other : ScriptContents) (kind : Kind) → IsScript mine → IsScript other → Behind mine line rest other → line ≢ mutator_line → IsBadCommand mine.version mine.registers mine.fields (last_commands mine.commands) line kind → ⊥
no_bad_command mine line rest other _ is-mine is-other b no-mutator (IsBadCommand.gone gone) = elim (body_line mine line rest other is-other b) [
  | inl is ↦ no-mutator is
  | inr is ↦ no_command_behind mine line rest other is.0 is-mine is-other b (ap (λ (t : List (List ℕ)). get_or t 0 []) is.3, ap length is.3) gone
]
no_bad_command mine line rest other _ is-mine is-other b no-mutator (IsBadCommand.unknown none) = elim (body_line mine line rest other is-other b) [
  | inl is ↦ no-mutator is
  | inr is ↦ none is.0 is.1 (ap (λ (t : List (List ℕ)). get_or t 0 []) is.3, ap length is.3)
]
no_bad_command mine line rest other _ is-mine is-other b no-mutator (IsBadCommand.too_many cmd stays allowed shape full) = no_more_commands mine line rest other cmd is-mine is-other b shape full
no_bad_command mine line rest other kind is-mine is-other b no-mutator (IsBadCommand.operand cmd _ stays allowed shape room wrong) = elim (body_line mine line rest other is-other b) [
  | inl is ↦ no-mutator is
  | inr is ↦ no_bad_operand mine line cmd kind is-mine shape wrong is.0 is.2 is.3
]

first_mutator : (line : List (List ℕ)) (rest : List (List (List ℕ))) (css : List (List Cmd)) → 1 ≤ length css → line ∷ rest ≡ flat_map mutator_lines css → line ≡ mutator_line
first_mutator line rest [] some e = absurd (omega arith)
first_mutator line rest (cmds ∷ css) some e = ap (λ (t : List (List (List ℕ))). get_or t 0 []) e

-- no script is spelled with a line that is wrong
pub nothing_fits : (before : List (List (List ℕ))) (line : List (List ℕ)) (rest : List (List (List ℕ))) (kind : Kind) (other : ScriptContents) → IsScript other → before ++ line ∷ rest ≡ spelled other → Fits before line kind → ⊥
nothing_fits before line rest _ other is-other e (Fits.no_header none wrong) = wrong other.version is-other.version (ap (λ (t : List (List (List ℕ))). get_or t 0 []) (sym (ap (λ (b : List (List (List ℕ))). b ++ line ∷ rest) none) ∙ e))
nothing_fits before line rest _ other is-other e (Fits.bad_heap v is-version one wrong) =
    wrong other.slots other.fields other.registers is-other.heap (ap (λ (t : List (List (List ℕ))). get_or t 1 []) (sym (ap (λ (b : List (List (List ℕ))). b ++ line ∷ rest) one) ∙ e))
nothing_fits before line rest _ other is-other e (Fits.no_mutator v s f r is-version heap two wrong) =
    wrong (first_mutator line rest other.commands is-other.some_mutators (ap behind_heap (sym (ap (λ (b : List (List (List ℕ))). b ++ line ∷ rest) two) ∙ e)))
nothing_fits before line rest _ other is-other e (Fits.too_many_mutators mine is-mine spelt is full) =
    no_further mine line rest other is-other (behind mine line rest other is-mine is-other (sym (ap (λ (b : List (List (List ℕ))). b ++ line ∷ rest) spelt) ∙ e)) is full
nothing_fits before line rest kind other is-other e (Fits.bad_command mine _ is-mine spelt no-mutator bad) =
    no_bad_command mine line rest other kind is-mine is-other (behind mine line rest other is-mine is-other (sym (ap (λ (b : List (List (List ℕ))). b ++ line ∷ rest) spelt) ∙ e)) no-mutator bad

-- no lines behind a fault make a script's text
pub stops : (before : List (List ℕ)) (line : List ℕ) (kind : Kind) → IsFault (counted before) line kind → Continues (before ++ line ∷ []) → ⊥
stops before line _ (IsFault.not_utf8 none) on =
    none (all_at IsUtf8 before line on.0 (subst (λ (t : List (List ℕ)). AreUtf8 t) (append_assoc before (line ∷ []) on.0) on.2.utf8))
stops before line kind (IsFault.bad_words _ utf8 counts fits) on =
    nothing_fits (counted before) (words line) (counted on.0) kind on.1 on.2.limits (sym (counted_at before line on.0 counts) ∙ on.2.counted_are) fits

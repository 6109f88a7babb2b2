-- The lines behind the heap say the mutators and their commands in one way.
use Rattle.std.proofs.Common.{◌≡◌, ℕ, ◌+◌, ◌^◌, ◌<◌, ◌≤◌, ◌==◌, Bool, false, cond, List, [], ◌∷◌, ◌++◌, length, get_or, map, refl, sym, ap, ◌∙◌, arith, append_assoc, length-append}
use Rattle.std.specs.Prelude.{All}
use Rattle.std.specs.List.{flat_map}
use Rattle.std.specs.Fmt.{decimal}
use Rattle.std.specs.Str.Parse.{digits_value}
use Rattle.std.proofs.lemmas.Fmt.{decimal_is_IsNumeral}
use Rattle.std.proofs.lemmas.List.{append-nil}
use Rattle.std.proofs.lemmas.List.Elements.{All-head, All-tail}
use Rattle.std.proofs.lemmas.Option.{none-some}
use Rattle.rec_model.specs.declared.command.Cmd.{Cmd}
use Rattle.rec_model.specs.declared.command.Cmd.TheVariants.{New, Leaf, Null, Copy, Get, Put, Value, Same, Leave, Park, Unpark}
use Rattle.rec_script.specs.Script.{ScriptContents, IsCommand, IsHeap, IsVersion, AreCommands, IsScript, header, heap_line, mutator_lines, command_line, word_of, HasLeft, LeavesLast, last_commands, spelled, IsShaped}
use Rattle.rec_script.proofs.Commands.{letters, choose}
use Rattle.rec_script.proofs.Leaving.{none_behind}

-- numbers of registers and fields that numerals can name
pub record AreSmall (registers fields : ℕ) : Type 0 where
  pub registers_fit : registers < 2 ^ 64
  pub fields_fit : fields < 2 ^ 64

pub small : (s f r : ℕ) → IsHeap s f r → AreSmall r f
small s f r h = record { registers_fit = omega (arith, h.most_registers); fields_fit = omega (arith, h.most_fields) }

-- the number of the word at a place
abbrev number_at : List (List ℕ) → ℕ → ℕ
number_at line i = digits_value 10 (get_or line i [])

value : (n : ℕ) → n < 2 ^ 64 → digits_value 10 (decimal n) ≡ n
value n fits = (decimal_is_IsNumeral n fits).1

-- the command that a line says, read back
abbrev pub command_of : List (List ℕ) → Cmd
command_of line =
    choose (get_or line 0 [])
    (New (number_at line 1) (number_at line 2))
    (Leaf (number_at line 1) (number_at line 2))
    (Null (number_at line 1))
    (Copy (number_at line 1) (number_at line 2))
    (Get (number_at line 1) (number_at line 2) (number_at line 3))
    (Put (number_at line 1) (number_at line 2) (number_at line 3))
    (Value (number_at line 1))
    (Same (number_at line 1) (number_at line 2))
    Leave
    Park
    Unpark

command_again : (registers fields : ℕ) (cmd : Cmd) → AreSmall registers fields → IsCommand registers fields cmd → command_of (command_line cmd) ≡ cmd
command_again r f (New reg label) h is = ap (λ (n : ℕ). New n (digits_value 10 (decimal label))) (value reg (omega (arith, h.registers_fit, is.0))) ∙ ap (λ (n : ℕ). New reg n) (value label (omega (arith, is.1)))
command_again r f (Leaf reg label) h is = ap (λ (n : ℕ). Leaf n (digits_value 10 (decimal label))) (value reg (omega (arith, h.registers_fit, is.0))) ∙ ap (λ (n : ℕ). Leaf reg n) (value label (omega (arith, is.1)))
command_again r f (Null reg) h is = ap Null (value reg (omega (arith, h.registers_fit, is.0)))
command_again r f (Copy dst src) h is = ap (λ (n : ℕ). Copy n (digits_value 10 (decimal src))) (value dst (omega (arith, h.registers_fit, is.0.0))) ∙ ap (λ (n : ℕ). Copy dst n) (value src (omega (arith, h.registers_fit, is.0.1)))
command_again r f (Get dst src field) h is =
    ap (λ (n : ℕ). Get n (digits_value 10 (decimal src)) (digits_value 10 (decimal field))) (value dst (omega (arith, h.registers_fit, is.0.0)))
    ∙ ap (λ (n : ℕ). Get dst n (digits_value 10 (decimal field))) (value src (omega (arith, h.registers_fit, is.0.1)))
    ∙ ap (λ (n : ℕ). Get dst src n) (value field (omega (arith, h.fields_fit, is.0.2)))
command_again r f (Put src field val) h is =
    ap (λ (n : ℕ). Put n (digits_value 10 (decimal field)) (digits_value 10 (decimal val))) (value src (omega (arith, h.registers_fit, is.0.0)))
    ∙ ap (λ (n : ℕ). Put src n (digits_value 10 (decimal val))) (value field (omega (arith, h.fields_fit, is.0.1)))
    ∙ ap (λ (n : ℕ). Put src field n) (value val (omega (arith, h.registers_fit, is.0.2)))
command_again r f (Value reg) h is = ap Value (value reg (omega (arith, h.registers_fit, is.0)))
command_again r f (Same a b) h is = ap (λ (n : ℕ). Same n (digits_value 10 (decimal b))) (value a (omega (arith, h.registers_fit, is.0.0))) ∙ ap (λ (n : ℕ). Same a n) (value b (omega (arith, h.registers_fit, is.0.1)))
command_again r f Leave h is = refl
command_again r f Park h is = absurd is.0
command_again r f Unpark h is = absurd is.0

-- a line begins with the letters of `mutator`
abbrev is_mutator : List (List ℕ) → Bool
is_mutator line = letters (get_or line 0 []) == 28021

no_mutator_word : (cmd : Cmd) → letters (word_of cmd) == 28021 ≡ false
no_mutator_word (New reg label) = refl
no_mutator_word _ = refl

-- a command's shape is no mutator's line
pub no_mutator_shape : (line : List (List ℕ)) (cmd : Cmd) → IsShaped line cmd → is_mutator line ≡ false
no_mutator_shape line cmd shape = ap (λ (w : List ℕ). letters w == 28021) shape.0 ∙ no_mutator_word cmd

-- commands at the front, and the mutators behind them
pub record Groups : Type 0 where
  pub front : List Cmd
  pub behind : List (List Cmd)

abbrev pub grouped : List Cmd → List (List Cmd) → Groups
grouped front behind = record { front = front; behind = behind }

-- lines grouped by mutators
abbrev pub regroup : List (List (List ℕ)) → Groups
regroup [] = grouped [] []
regroup (line ∷ more) = cond (is_mutator line) (grouped [] ((regroup more).front ∷ (regroup more).behind)) (grouped (command_of line ∷ (regroup more).front) (regroup more).behind)

-- mutators in front of groups
abbrev pub glue : List (List Cmd) → Groups → Groups
glue [] g = g
glue (cmds ∷ more) g = grouped [] ((cmds ++ (glue more g).front) ∷ (glue more g).behind)

regroup_commands : (r f : ℕ) (cmds : List Cmd) (more : List (List (List ℕ))) → AreSmall r f → All (IsCommand r f) cmds → regroup (map command_line cmds ++ more) ≡ grouped (cmds ++ (regroup more).front) (regroup more).behind
regroup_commands r f [] more h is = refl
regroup_commands r f (cmd ∷ cmds) more h is =
    let on = regroup_commands r f cmds more h (All-tail (IsCommand r f) cmd cmds is) in
    let again = command_again r f cmd h (All-head (IsCommand r f) cmd cmds is) in
    let lines : List (List (List ℕ)) = map command_line cmds ++ more in
    ap (λ (b : Bool). cond b (grouped [] ((regroup lines).front ∷ (regroup lines).behind)) (grouped (command_of (command_line cmd) ∷ (regroup lines).front) (regroup lines).behind)) (no_mutator_word cmd)
    ∙ ap (λ (c : Cmd). grouped (c ∷ (regroup lines).front) (regroup lines).behind) again
    ∙ ap (λ (g : Groups). grouped (cmd ∷ g.front) g.behind) on

-- the lines of mutators in front of others
pub regroup_mutators : (v r f : ℕ) (css : List (List Cmd)) (more : List (List (List ℕ))) → AreSmall r f → All (AreCommands v r f) css → regroup (flat_map mutator_lines css ++ more) ≡ glue css (regroup more)
regroup_mutators v r f [] more h are = refl
regroup_mutators v r f (cmds ∷ css) more h are =
    let rest : List (List (List ℕ)) = flat_map mutator_lines css ++ more in
    ap (λ (t : List (List (List ℕ))). grouped [] ((regroup t).front ∷ (regroup t).behind)) (append_assoc (map command_line cmds) (flat_map mutator_lines css) more)
    ∙ ap (λ (g : Groups). grouped [] (g.front ∷ g.behind)) (regroup_commands r f cmds rest h (All-head (AreCommands v r f) cmds css are).in_range)
    ∙ ap (λ (g : Groups). grouped [] ((cmds ++ g.front) ∷ g.behind)) (regroup_mutators v r f css more h (All-tail (AreCommands v r f) cmds css are))

-- groups without commands at the front
glue_nothing : (css : List (List Cmd)) → glue css (grouped [] []) ≡ grouped [] css
glue_nothing [] = refl
glue_nothing (cmds ∷ css) =
    ap (λ (g : Groups). grouped [] ((cmds ++ g.front) ∷ g.behind)) (glue_nothing css) ∙ ap (λ (c : List Cmd). grouped [] (c ∷ css)) (append-nil cmds)

pub glue_length : (css : List (List Cmd)) (g : Groups) → length (glue css g).behind ≡ length css + length g.behind
glue_length [] g = omega arith
glue_length (cmds ∷ css) g = omega (arith, glue_length css g)

-- commands behind the last mutator are its own
pub glue_last : (css : List (List Cmd)) (g : Groups) → 1 ≤ length css → All (λ c. length c ≤ 200000) (glue css g).behind → length (last_commands css) + length g.front ≤ 200000
glue_last [] g some few = absurd (omega arith)
glue_last (cmds ∷ []) g some few = omega (arith, length-append cmds g.front, All-head (λ c. length c ≤ 200000) (cmds ++ g.front) g.behind few)
glue_last (cmds ∷ more ∷ css) g some few = glue_last (more ∷ css) g (omega arith) (All-tail (λ c. length c ≤ 200000) (cmds ++ (glue (more ∷ css) g).front) (glue (more ∷ css) g).behind few)

-- and there are none where it has left
pub glue_gone : (css : List (List Cmd)) (g : Groups) → All LeavesLast (glue css g).behind → HasLeft (last_commands css) → length g.front ≡ 0
glue_gone [] g are gone = absurd (none-some Leave gone)
glue_gone (cmds ∷ []) g are gone = none_behind cmds g.front (All-head LeavesLast (cmds ++ g.front) g.behind are) gone
glue_gone (cmds ∷ more ∷ css) g are gone = glue_gone (more ∷ css) g (All-tail LeavesLast (cmds ++ (glue (more ∷ css) g).front) (glue (more ∷ css) g).behind are) gone

-- the lines of mutators are grouped as they were
pub regrouped : (v r f : ℕ) (css : List (List Cmd)) → AreSmall r f → All (AreCommands v r f) css → regroup (flat_map mutator_lines css) ≡ grouped [] css
regrouped v r f css h are = ap regroup (sym (append-nil (flat_map mutator_lines css))) ∙ regroup_mutators v r f css [] h are ∙ glue_nothing css

-- ---- heaps

pub record SameHeap (s f r s' f' r' : ℕ) : Type 0 where
  pub slots : s ≡ s'
  pub fields : f ≡ f'
  pub registers : r ≡ r'

pub same_heap : (s f r s' f' r' : ℕ) → IsHeap s f r → IsHeap s' f' r' → heap_line s f r ≡ heap_line s' f' r' → SameHeap s f r s' f' r'
same_heap s f r s' f' r' h h' e = record {
  slots = sym (value s (omega (arith, h.most_slots))) ∙ ap (λ (t : List (List ℕ)). digits_value 10 (get_or t 1 [])) e ∙ value s' (omega (arith, h'.most_slots));
  fields = sym (value f (omega (arith, h.most_fields))) ∙ ap (λ (t : List (List ℕ)). digits_value 10 (get_or t 2 [])) e ∙ value f' (omega (arith, h'.most_fields));
  registers = sym (value r (omega (arith, h.most_registers))) ∙ ap (λ (t : List (List ℕ)). digits_value 10 (get_or t 3 [])) e ∙ value r' (omega (arith, h'.most_registers));
}

-- headers of one version are alike
pub same_version : (v v' : ℕ) → IsVersion v → IsVersion v' → header v ≡ header v' → v ≡ v'
same_version v v' is is' e = sym (value v (omega (arith, is.most))) ∙ ap (λ (t : List (List ℕ)). digits_value 10 (get_or t 1 [])) e ∙ value v' (omega (arith, is'.most))

-- what is behind the first two lines
abbrev pub behind_heap : List (List (List ℕ)) → List (List (List ℕ))
behind_heap [] = []
behind_heap (a ∷ []) = []
behind_heap (a ∷ b ∷ more) = more

-- two scripts that are spelled alike are one
pub same_script : (a b : ScriptContents) → IsScript a → IsScript b → spelled a ≡ spelled b → a ≡ b
same_script a b is-a is-b e =
    let version : a.version ≡ b.version = same_version a.version b.version is-a.version is-b.version (ap (λ (t : List (List (List ℕ))). get_or t 0 []) e) in
    let heaps = same_heap a.slots a.fields a.registers b.slots b.fields b.registers is-a.heap is-b.heap (ap (λ (t : List (List (List ℕ))). get_or t 1 []) e) in
    let groups : grouped [] a.commands ≡ grouped [] b.commands =
    sym (regrouped a.version a.registers a.fields a.commands (small a.slots a.fields a.registers is-a.heap) is-a.commands)
    ∙ ap (λ (t : List (List (List ℕ))). regroup (behind_heap t)) e
    ∙ regrouped b.version b.registers b.fields b.commands (small b.slots b.fields b.registers is-b.heap) is-b.commands in
    let made : ℕ → ℕ → ℕ → ℕ → List (List Cmd) → ScriptContents = λ v s f r c. record { version = v; slots = s; fields = f; registers = r; commands = c } in
    ap (λ (v : ℕ). made v a.slots a.fields a.registers a.commands) version
    ∙ ap (λ (s : ℕ). made b.version s a.fields a.registers a.commands) heaps.slots
    ∙ ap (λ (f : ℕ). made b.version b.slots f a.registers a.commands) heaps.fields
    ∙ ap (λ (r : ℕ). made b.version b.slots b.fields r a.commands) heaps.registers
    ∙ ap (λ (g : Groups). made b.version b.slots b.fields b.registers g.behind) groups

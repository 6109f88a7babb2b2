-- The mutators of a script, of which the last one stands apart.
use Rattle.std.proofs.Common.{◌≡◌, ℕ, zero, suc, ◌+◌, ◌<◌, ◌≤◌, List, [], ◌∷◌, ◌++◌, length, get_or, map, Some, inl, inr, refl, sym, ap, subst, ◌∙◌, arith, length-append}
use Rattle.std.specs.Prelude.{All, Any, slice_get}
use Rattle.std.proofs.lemmas.Bool.{cases_lt}
use Rattle.std.proofs.lemmas.Bool.Decides.{nat_tests}
use Rattle.std.proofs.lemmas.Option.{none-some, same_Some}
use Rattle.std.proofs.lemmas.List.Elements.{All-push}
use Rattle.rec_model.specs.declared.command.Cmd.{Cmd}
use Rattle.rec_script.specs.Script.{ScriptContents, Allows, HasLeft, IsCommand, LeavesLast, AreCommands, IsScript, last_commands, most_mutators}
use Rattle.rec_script.proofs.Leaving.{nobody, stays_before}
use Rattle.rec_model.proofs.Members.{All-last, All-earlier}

-- each version allows eight mutators
pub many_mutators : (version : ℕ) → 8 ≤ most_mutators version
many_mutators version = grind (arith, nat_tests)

-- a mutator without commands is within the limits
pub no_commands : (v r f : ℕ) → AreCommands v r f []
no_commands v r f = record { few = omega arith; leaves_last = nobody; allowed = λ k d lt. absurd (omega arith); in_range = λ k d lt. absurd (omega arith) }

pub last_of : (earlier : List (List Cmd)) (last : List Cmd) → last_commands (earlier ++ last ∷ []) ≡ last
last_of [] last = refl
last_of (c ∷ []) last = refl
last_of (c ∷ d ∷ cs) last = last_of (d ∷ cs) last

-- the last mutator's commands are within their limits
pub last_within : (contents : ScriptContents) (earlier : List (List Cmd)) (last : List Cmd) → IsScript contents → contents.commands ≡ earlier ++ last ∷ [] → AreCommands contents.version contents.registers contents.fields last
last_within contents earlier last script e = All-last (AreCommands contents.version contents.registers contents.fields) earlier last (subst (λ (t : List (List Cmd)). All (AreCommands contents.version contents.registers contents.fields) t) e script.commands)

-- one command more is within the limits
pub one_command_more : (v s f r : ℕ) (earlier : List (List Cmd)) (last more : List Cmd) (cmd : Cmd) → IsScript (record { version = v; slots = s; fields = f; registers = r; commands = earlier ++ last ∷ [] }) → Allows v cmd → IsCommand r f cmd → length (last_commands (earlier ++ last ∷ [])) < 200000 → ¬ HasLeft (last_commands (earlier ++ last ∷ [])) → more ≡ last ++ cmd ∷ []
    → IsScript (record { version = v; slots = s; fields = f; registers = r; commands = earlier ++ more ∷ [] })
one_command_more v s f r earlier last more cmd script its in-range room stays e =
    let within : AreCommands v r f last = All-last (AreCommands v r f) earlier last script.commands in
    let few : length more ≤ 200000 = omega (arith, ap (length {A = Cmd}) (last_of earlier last), ap (length {A = Cmd}) e, length-append last (cmd ∷ [])) in
    let grown : AreCommands v r f more = record {
      few = few;
      leaves_last = subst LeavesLast (sym e) (stays_before last cmd within.leaves_last (λ gone. stays (subst HasLeft (sym (last_of earlier last)) gone)));
      allowed = subst (λ (t : List Cmd). All (Allows v) t) (sym e) (All-push (Allows v) last cmd within.allowed its);
      in_range = subst (λ (t : List Cmd). All (IsCommand r f) t) (sym e) (All-push (IsCommand r f) last cmd within.in_range in-range);
    } in
    record {
      version = script.version;
      heap = script.heap;
      some_mutators = omega (arith, length-append earlier (more ∷ []));
      most_mutators = omega (arith, script.most_mutators, length-append earlier (more ∷ []), length-append earlier (last ∷ []));
      commands = All-push (AreCommands v r f) earlier more (All-earlier (AreCommands v r f) earlier last script.commands) grown;
    }

-- one mutator more, without commands, is within the limits
pub one_mutator_more : (v s f r : ℕ) (earlier grown : List (List Cmd)) (last fresh : List Cmd) → IsScript (record { version = v; slots = s; fields = f; registers = r; commands = earlier ++ last ∷ [] }) → length (earlier ++ last ∷ []) < most_mutators v → grown ≡ earlier ++ last ∷ [] → fresh ≡ []
    → IsScript (record { version = v; slots = s; fields = f; registers = r; commands = grown ++ fresh ∷ [] })
one_mutator_more v s f r earlier grown last fresh script room e none =
    record {
      version = script.version;
      heap = script.heap;
      some_mutators = omega (arith, length-append grown (fresh ∷ []));
      most_mutators = omega (arith, room, ap (length {A = List Cmd}) e, length-append grown (fresh ∷ []));
      commands = All-push (AreCommands v r f) grown fresh (subst (λ (css : List (List Cmd)). All (AreCommands v r f) css) (sym e) script.commands) (subst (AreCommands v r f) (sym none) (no_commands v r f));
    }

-- and so are the earlier ones with one that has no commands
pub last_emptied : (v s f r : ℕ) (earlier : List (List Cmd)) (last fresh : List Cmd) → IsScript (record { version = v; slots = s; fields = f; registers = r; commands = earlier ++ last ∷ [] }) → fresh ≡ [] → IsScript (record { version = v; slots = s; fields = f; registers = r; commands = earlier ++ fresh ∷ [] })
last_emptied v s f r earlier last fresh script none =
    record {
      version = script.version;
      heap = script.heap;
      some_mutators = omega (arith, length-append earlier (fresh ∷ []));
      most_mutators = omega (arith, script.most_mutators, length-append earlier (fresh ∷ []), length-append earlier (last ∷ []));
      commands = All-push (AreCommands v r f) earlier fresh (All-earlier (AreCommands v r f) earlier last script.commands) (subst (AreCommands v r f) (sym none) (no_commands v r f));
    }

-- ---- the commands of one mutator

at : {X : Type 0} (xs : List X) (i : ℕ) (x : X) → slice_get xs i ≡ Some x → (i < length xs) × ((d : X) → get_or xs i d ≡ x)
at [] i x e = absurd (none-some x e)
at (y ∷ ys) zero x e = (omega arith, λ d. same_Some y x e)
at (y ∷ ys) (suc i) x e = let on = at ys i x e in (omega (arith, on.0), on.1)

pub earlier_at : {X : Type 0} (f : X → List Cmd) (earlier : List X) (last : List Cmd) (i : ℕ) (x : X) → i < length earlier → x ≡ get_or earlier i x → get_or (map f earlier ++ last ∷ []) i [] ≡ f x
earlier_at f [] last i x lt e = absurd (omega arith)
earlier_at f (y ∷ ys) last zero x lt e = ap f (sym e)
earlier_at f (y ∷ ys) last (suc i) x lt e = earlier_at f ys last i x (omega arith) e

pub last_at : (xs : List (List Cmd)) (last : List Cmd) (i : ℕ) → i ≡ length xs → slice_get (xs ++ last ∷ []) i ≡ Some last
last_at [] last zero e = refl
last_at [] last (suc i) e = absurd (omega arith)
last_at (x ∷ xs) last zero e = absurd (omega arith)
last_at (x ∷ xs) last (suc i) e = last_at xs last i (omega arith)

-- ---- the longest one

pub longest_so_far : (css : List (List Cmd)) (t longest next : ℕ) (cmds : List Cmd) → slice_get css t ≡ Some cmds → longest ≤ next → length cmds ≤ next → ((k : ℕ) → k < t → length (get_or css k []) ≤ longest) → (k : ℕ) → k < t + 1 → length (get_or css k []) ≤ next
longest_so_far css t longest next cmds e more long bound k lt = elim (cases_lt k t) [
  | inl below ↦ omega (arith, bound k below)
  | inr ge ↦
      let same : k ≡ t = omega arith in
      omega (arith, ap (length {A = Cmd}) (ap (λ (j : ℕ). get_or css j []) same ∙ (at css t cmds e).1 []))
]

pub reached_at : (css : List (List Cmd)) (t next : ℕ) (cmds : List Cmd) → slice_get css t ≡ Some cmds → length cmds ≡ next → Any (λ cmds. length cmds ≡ next) css
reached_at css t next cmds e same = let is = at css t cmds e in (t, cmds, is.0, is.1 cmds, same)

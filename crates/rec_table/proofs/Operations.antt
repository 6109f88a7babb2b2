-- What an operation makes of the run, and that it keeps the rule.
use Rattle.std.proofs.Common.{◌≡◌, ◌≢◌, ℕ, ◌==◌, if◌then◌else◌, Bool, eq-eqb, ne_eqb, Option, None, List, [], ◌∷◌, ◌++◌, get_or, refl, sym, ap, ◌∙◌, subst, append-nil}
use Rattle.atomic_table.specs.Table.{State, Me, Allows}
use Rattle.rec_table.proofs.Common.{written, Op, Contents, Core, Move, after_moves, Kind, Operation, Adds, AreMade, Grows, Operates, Ran, Runs, Stays, actor_at, moves_made, operation, steps_in, View}
use Rattle.rec_word.specs.Mailbox.{crossing_word}
use Rattle.rec_word.specs.declared.mailbox.Mailbox.TheVariants.{Retired}

-- Such an operation keeps the rule, and is the last one of those that made the run.
pub allows : (key : Core) (kind : Kind) (slots id : ℕ) (me : Me (Option Contents) View) (i : ℕ) (f : ℕ → ℕ) (tells : ℕ → Me (Option Contents) View → Type 0) → Operates key kind slots id me i f tells → Allows (Runs key) slots id me i f tells
allows key kind slots id me i f tells operates s r len at_id fit =
    let all = operates s r.holds len at_id fit in
    let o : Operation = operation me.0 kind i f (get_or s.words i 0) in
    (all.0, all.1, all.2, record { holds = all.3; operations = r.operations ++ o ∷ []; ran = Ran.next r.operations o r.holds.run all.3.run r.ran all.4 }, all.5)

-- no operation is needed for other views
pub stays : (key : Core) (s : State (Option Contents) View) (r : Runs key s) (views : List View) → Stays key s r.holds views → Runs key (record { words = s.words; homes = s.homes; views = views })
stays key s r views still = record { holds = still.0; operations = r.operations; ran = subst (Ran key r.operations) (sym still.1) r.ran }

-- Each step of the run was made by one operation.
each_made : (key : Core) (os : List Operation) (run : List Move) → Ran key os run → AreMade key os (steps_in key run)
each_made key os run Ran.opens = AreMade.opens
each_made key os run (Ran.next before o was now ran g) = by (moves_made (after_moves key was) o) g.steps (each_made key before was ran)
  where
    by : (ms : List Move) → Adds key o ms (steps_in key was) (steps_in key now) → AreMade key before (steps_in key was) → AreMade key (before ++ o ∷ []) (steps_in key now)
    by [] same all = subst (AreMade key (before ++ o ∷ [])) (sym same) (AreMade.idle before o (steps_in key was) all)
    by (m ∷ ms) (op, more, is) all = subst (AreMade key (before ++ o ∷ [])) (sym more) (AreMade.step before o (steps_in key was) op all is)

pub all_made : (key : Core) (s : State (Option Contents) View) (r : Runs key s) → AreMade key r.operations (steps_in key r.holds.run)
all_made key s r = each_made key r.operations r.holds.run r.ran

-- the moves are known
grows : (key : Core) (o : Operation) (run run' ms : List Move) → moves_made (after_moves key run) o ≡ ms → run' ≡ run ++ ms → Adds key o ms (steps_in key run) (steps_in key run') → Grows key o run run'
grows key o run run' ms is more adds = record {
  moves = more ∙ ap (λ l. run ++ l) (sym is);
  steps = subst (λ (l : List Move). Adds key o l (steps_in key run) (steps_in key run')) (sym is) adds;
}

-- A load makes nothing, or the step that it stands for.
module _ (key : Core) (v : View) (i found : ℕ) where
  pub passes_free : (run : List Move) → found ≡ 0 → Grows key (operation v Kind.Passes i (λ n. n) found) run run
  passes_free run free = grows key (operation v Kind.Passes i (λ n. n) found) run run [] (ap (λ (b : Bool). if b then [] else Move.Steps (actor_at v) ∷ []) (eq-eqb found 0 free)) (sym (append-nil run)) refl

  pub passes_taken : (op : Op) (run run' : List Move) → found ≢ 0 → written op found ≡ found → Grows key (operation v (Kind.Steps None) i (written op) found) run run' → Grows key (operation v Kind.Passes i (λ n. n) found) run run'
  passes_taken op run run' taken same g =
      let (its, more, (at, does)) = g.steps in
      grows key (operation v Kind.Passes i (λ n. n) found) run run' (Move.Steps (actor_at v) ∷ []) (ap (λ (b : Bool). if b then [] else Move.Steps (actor_at v) ∷ []) (ne_eqb found 0 taken)) g.moves
      (its, more, (at, ((λ n. refl), sym (does found) ∙ same)))

  pub glances_due : (run : List Move) → found ≡ crossing_word (after_moves key run).collector.epoch Retired → Grows key (operation v Kind.Glances i (λ n. n) found) run run
  glances_due run due = grows key (operation v Kind.Glances i (λ n. n) found) run run [] (ap (λ (b : Bool). if b then [] else Move.Turns ∷ []) (eq-eqb found (crossing_word (after_moves key run).collector.epoch Retired) due)) (sym (append-nil run)) refl

  -- a look by comparing makes the look's turn
  pub tries_look : (expected : ℕ) (f : ℕ → ℕ) (op : Op) (run run' : List Move) → ((n : ℕ) → f n ≡ (if n == expected then written op expected else n)) → f found ≡ written op found
      → Grows key (operation v Kind.Turns i (written op) found) run run' → Grows key (operation v (Kind.Tries expected) i f found) run run'
  tries_look expected f op run run' tries same g =
      let (its, more, (at, does)) = g.steps in
      grows key (operation v (Kind.Tries expected) i f found) run run' (Move.Turns ∷ []) refl g.moves
      (its, more, (at, ((λ n. tries n ∙ ap (λ (x : ℕ). if n == expected then x else n) (does expected)), same ∙ does found)))

  pub glances_early : (expected : ℕ) (f : ℕ → ℕ) (run run' : List Move) → found ≢ crossing_word (after_moves key run).collector.epoch Retired → f found ≡ found → Grows key (operation v (Kind.Tries expected) i f found) run run'
      → Grows key (operation v Kind.Glances i (λ n. n) found) run run'
  glances_early expected f run run' early same g =
      let (its, more, (at, (tries, does))) = g.steps in
      grows key (operation v Kind.Glances i (λ n. n) found) run run' (Move.Turns ∷ []) (ap (λ (b : Bool). if b then [] else Move.Turns ∷ []) (ne_eqb found (crossing_word (after_moves key run).collector.epoch Retired) early)) g.moves
      (its, more, (at, ((λ n. refl), sym does ∙ same)))

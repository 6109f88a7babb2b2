-- What a run's journal reaches where a set is given up is what the run reaches there, and what is free.
use Rattle.std.proofs.Common.{◌≡◌, inl, inr, ℕ, ◌<◌, ◌≤◌, ◌==◌, ◌&&◌, Bool, true, false, Option, None, Some, IfSome, List, [], ◌∷◌, ◌++◌, length, refl, sym, ap, subst, ◌∙◌, arith, append-nil, append_assoc}
use Rattle.rec_core.specs.Pending.{has_batched}
use Rattle.std.specs.List.{flat_map, sum_by}
use Rattle.std.proofs.lemmas.Bool.{cases_eq, cases_lt, ne_eqb}
use Rattle.std.proofs.lemmas.List.Concat.{flat_map-append}
use Rattle.std.proofs.lemmas.List.Sums.{sum_by-cons}
use Rattle.rec_word.specs.Bare.{bare_in}
use Rattle.rec_word.specs.Op.{cell_of}
use Rattle.rec_word.specs.declared.op.Op.{Op}
use Rattle.rec_model.specs.Sums.{only_if}
use Rattle.rec_collector.specs.Bare as collectors_bare
use Rattle.rec_collector.specs.Next.{next_of}
use Rattle.rec_collector.specs.Shown.{Shown, batch_of, passed_in, passed_of, shown_of}
use Rattle.rec_collector.specs.Step.{NamesWord}
use Rattle.rec_collector.specs.declared.phase.Phase.{Phase}
use Rattle.rec_collector.specs.declared.phase.Phase.TheVariants.{Freeing}
use Rattle.rec_collector.proofs.Always.{names_word}
use Rattle.rec_collector.proofs.Bare as collecting
use Rattle.rec_core.specs.Bare.{Behind, bare_core}
use Rattle.rec_core.specs.Cells.{cell}
use Rattle.rec_core.specs.Config.{IsConfig}
use Rattle.rec_core.specs.Core.{Core, cells_of, heap_by, opened}
use Rattle.rec_core.specs.Kept.{IsKept}
use Rattle.rec_core.specs.Moves.{AllFit, Move, after_moves, turned, turned_at, turned_by}
use Rattle.rec_core.specs.Shown.{Shows, shown_behind, shown_over, turn_shown}
use Rattle.rec_core.specs.Turn.{seen_at}
use Rattle.rec_core.specs.declared.config.Config.{Config}
use Rattle.rec_core.proofs.BareSeen.{turned_behind}
use Rattle.rec_core.proofs.Dated.{Explains, moves_explained}
use Rattle.rec_core.proofs.Opened.{opened_kept}
use Rattle.rec_core.proofs.Runs.{move_kept}
use Rattle.rec_core.proofs.Shows.{shows_one, shows_then}
use Rattle.rec_audit.specs.Form.{number}
use Rattle.rec_audit.specs.Graph.{has_target, is_put, opens}
use Rattle.rec_audit.specs.Journal.{batch_lines, completed_lines, journal, lines_of, op_lines, opening_lines, passed_lines}
use Rattle.rec_audit.specs.Keeping.{behind_steps, first_place}
use Rattle.rec_audit.specs.Lines.{Line}
use Rattle.rec_audit.specs.Runs.{ReachesAsRun, heap_for}
use Rattle.rec_audit.proofs.Balance.{puts}
use Rattle.rec_audit.proofs.BalanceTurns.{turned_balance}
use Rattle.rec_audit.proofs.BareJournal.{shown_bare, work_beside}
use Rattle.rec_audit.proofs.Runs.{passed_same}
use Rattle.rec_audit.proofs.Bared.{Alike, reached_less}
use Rattle.rec_audit.proofs.Covered.{covered_all, marks}
use Rattle.rec_audit.proofs.Covering.{Covers, moves_cover, opening_covers}
use Rattle.rec_audit.proofs.Rising.{Rises, from_epoch, journal_rises, number_of, rises_split}
use Rattle.rec_audit.proofs.RunAnswers.{beside_run, first_explained, whole_run}
use Rattle.rec_audit.proofs.RunClean.{behind_is}
use Rattle.rec_audit.proofs.RunGraph.{Tells}
use Rattle.rec_audit.proofs.RunReach.{shown_reach}
use Rattle.rec_audit.proofs.RunTurns.{turned_tells}
use Rattle.rec_audit.proofs.Runs.{run_keeps}
use Rattle.rec_audit.proofs.Untold.{turned_untaken}

-- ---- no word is put twice

marks_none : (b : ℕ) (l : Line) → (opens l ≡ true → number 2 l ≡ b → ⊥) → puts (marks b) l ≡ 0
marks_none b l other = go (is_put l.kind) (has_target (number 2 l)) other
  where
    go : (x y : Bool) → ((x && y) ≡ true → number 2 l ≡ b → ⊥) → only_if x (only_if y (only_if (number 2 l == b) 1)) ≡ 0
    go true true other = ap (λ t. only_if t 1) (ne_eqb (number 2 l) b (other refl))
    go true false other = refl
    go false y other = refl

marks_few : (b : ℕ) (l : Line) → puts (marks b) l ≤ 1
marks_few b l = go (is_put l.kind) (has_target (number 2 l)) (number 2 l == b)
  where
    go : (x y z : Bool) → only_if x (only_if y (only_if z 1)) ≤ 1
    go true true true = omega arith
    go true true false = omega arith
    go true false z = omega arith
    go false y z = omega arith

rises_past : (k m b : ℕ) (lines : List Line) → Rises k lines m → number_of b < k → sum_by (puts (marks b)) lines ≡ 0
rises_past k m b [] r below = refl
rises_past k m b (l ∷ lines) r below =
    let more : k ≤ r.0 = r.1 in
    omega (
      arith,
      sum_by-cons (puts (marks b)) l lines,
      marks_none b l (λ opened same. (let from : k ≤ number_of (number 2 l) = (r.2 opened).0 in omega (arith, from, below, ap number_of same))),
      rises_past r.0 m b lines r.3 (omega (arith, below, more)),
    )

rises_once : (k m b : ℕ) (lines : List Line) → Rises k lines m → sum_by (puts (marks b)) lines ≤ 1
rises_once k m b [] r = omega arith
rises_once k m b (l ∷ lines) r = elim (cases_lt 0 (puts (marks b) l)) [
  | inr none ↦ omega (arith, sum_by-cons (puts (marks b)) l lines, none, rises_once r.0 m b lines r.3)
  | inl here ↦
      let parts = of_line (is_put l.kind) (has_target (number 2 l)) here in
      let opened : opens l ≡ true = ap (λ x. x && has_target (number 2 l)) parts.0 ∙ parts.1 in
      let below : number_of (number 2 l) < r.0 = (r.2 opened).1 in
      omega (arith, sum_by-cons (puts (marks b)) l lines, marks_few b l, rises_past r.0 m b lines r.3 (omega (arith, below, ap number_of parts.2)))
]
  where
    of_line : (x y : Bool) → 0 < only_if x (only_if y (only_if (number 2 l == b) 1)) → (x ≡ true) × (y ≡ true) × (number 2 l ≡ b)
    of_line true true weighs = (
      refl,
      refl,
      elim (cases_eq (number 2 l) b) [
        | inl same ↦ same
        | inr other ↦ absurd (omega (arith, weighs, ap (λ t. only_if t 1) (ne_eqb (number 2 l) b other)))
      ],
    )
    of_line true false weighs = absurd (omega (arith, weighs))
    of_line false y weighs = absurd (omega (arith, weighs))

-- so in the journal up to a step's operation
journal_once : (config : Config) (moves : List Move) (step : Shown) → IsConfig config → AllFit (opened config) moves → turn_shown (after_moves (opened config) moves) ≡ step ∷ [] → (b : ℕ)
    → sum_by (puts (marks b)) (journal (heap_for config) (shown_over (opened config) moves) ++ (batch_lines step.batch ++ op_lines step.op step.word)) ≤ 1
journal_once config moves step is fit shown b =
    let w : Core = after_moves (opened config) moves in
    let first : List Shown = shown_over (opened config) moves in
    let so_far : Shows (opened config) (shown_over (opened config) moves) (after_moves (opened config) moves) = record { moves = moves; fit = fit; ends = refl; is = refl } in
    let one : Shows w (step ∷ []) (turned w) = subst (λ xs. Shows w xs (turned w)) shown (shows_one w Move.Turns tt) in
    let all : Shows (opened config) (first ++ step ∷ []) (turned w) = shows_then (opened config) w (turned w) first (step ∷ []) so_far one in
    let keeps = run_keeps config (first ++ step ∷ []) (turned w) is all in
    let m : ℕ = from_epoch (behind_steps (first_place (heap_for config)) (first ++ step ∷ [])).next in
    let rises : Rises (from_epoch config.first_epoch) (journal (heap_for config) (first ++ step ∷ [])) m = journal_rises (heap_for config) (first ++ step ∷ []) keeps.keep keeps.stamped in
    let front : List Line = journal (heap_for config) first in
    let xs : List Line = batch_lines step.batch in
    let os : List Line = op_lines step.op step.word in
    let rest : List Line = passed_lines step.passed ++ completed_lines step.completed in
    let cut : journal (heap_for config) (first ++ step ∷ []) ≡ (front ++ (xs ++ os)) ++ rest
    = ap (λ ts. opening_lines (heap_for config) ++ ts) (flat_map-append lines_of first (step ∷ []) ∙ ap (λ ts. flat_map lines_of first ++ ts) (append-nil (lines_of step) ∙ sym (append_assoc xs os rest)))
    ∙ sym (append_assoc (opening_lines (heap_for config)) (flat_map lines_of first) ((xs ++ os) ++ rest))
    ∙ sym (append_assoc front (xs ++ os) rest) in
    let split = rises_split (from_epoch config.first_epoch) m (front ++ (xs ++ os)) rest (subst (λ ts. Rises (from_epoch config.first_epoch) ts m) cut rises) in
    rises_once (from_epoch config.first_epoch) split.0 b (front ++ (xs ++ os)) split.1

-- ---- the step that gives a set up

passed_freeing : (v : Core) (members : List ℕ) → passed_of v.collector ≡ Some members → has_batched v.collector.phase ≡ true
passed_freeing v members passed = go v.collector.phase refl passed
  where
    go : (phase : Phase) → v.collector.phase ≡ phase → passed_in v.collector phase ≡ Some members → has_batched v.collector.phase ≡ true
    go (Freeing m) is shown = ap has_batched is
    go _ is shown = absurd (cc)

reaches_at : (u : Core) (ls bs : List Line) (step : Shown) (members : List ℕ) → IsKept true u → Tells ls u → Covers ls u → Alike ls bs
    → ((b : ℕ) → sum_by (puts (marks b)) (bs ++ (batch_lines step.batch ++ op_lines step.op step.word)) ≤ 1) → turn_shown (bare_core u) ≡ step ∷ [] → step.passed ≡ Some members
    → Behind (turned (bare_core u)) (λ v. ReachesAsRun v (bs ++ (batch_lines step.batch ++ op_lines step.op step.word)))
reaches_at u ls bs step members kept tells covers alike once shown passed = go (next_of u.collector) refl
  where
    go : (o : Option Op) → ◌≡◌ {A = Option Op} (next_of u.collector) o → Behind (turned (bare_core u)) (λ v. ReachesAsRun v (bs ++ (batch_lines step.batch ++ op_lines step.op step.word)))
    go None named =
        let none : turn_shown (bare_core u) ≡ [] = ap (λ (o : Option Op). shown_behind (turned (bare_core u)) (seen_at (bare_core u) o)) (collecting.next_bare u.collector ∙ named) in
        absurd (let no : [] ≡ step ∷ [] = sym none ∙ shown in cc)
    go (Some op) named =
        let word : ℕ = cell (cells_of u) op in
        let x : Core = turned_by u op word in
        let is : turned u ≡ x = ap (turned_at u) named in
        let still : IsKept true x = subst (IsKept true) is (move_kept u Move.Turns kept tt) in
        let names : NamesWord (length u.collector.counts.slots) u.collector.fields (length u.collector.newer) op = subst (λ (o : Option Op). IfSome o (NamesWord (length u.collector.counts.slots) u.collector.fields (length u.collector.newer))) named (names_word u.collector kept.collector.machine) in
        let xs : List Line = batch_lines (batch_of op x.collector) in
        let os : List Line = op_lines op word in
        let told : Tells (ls ++ (xs ++ os)) x = subst (λ ts. Tells ts x) (ap (λ ts. ts ++ os) (behind_is ls (batch_of op x.collector)) ∙ append_assoc ls xs os) (turned_tells ls u op kept named still names tells) in
        let first : Covers ((ls ++ xs) ++ os) x = record { balance = turned_balance ls u op kept named still names covers.balance; untaken = turned_untaken ls u op kept named still names covers.untaken } in
        let covering : Covers (ls ++ (xs ++ os)) x = subst (λ ts. Covers ts x) (append_assoc ls xs os) first in
        let its : Shown = shown_of op (bare_in (cell_of op) word) (collectors_bare.bare_private x.collector) in
        let bare_is : turn_shown (bare_core u) ≡ its ∷ [] = shown_bare u op kept named ∙ ap (λ (y : Core). shown_of op (bare_in (cell_of op) word) (collectors_bare.bare_private y.collector) ∷ []) is in
        let both : step ∷ [] ≡ its ∷ [] = sym shown ∙ bare_is in
        let same : step ≡ its = cc in
        let lines_as : Shown → List Line = λ y. bs ++ (batch_lines y.batch ++ op_lines y.op y.word) in
        let beside : Alike (ls ++ (xs ++ os)) (lines_as its) = work_beside op word x.collector ls bs alike in
        let passes : passed_of x.collector ≡ Some members = sym (passed_same x.collector x.collector.phase) ∙ (ap (λ (y : Shown). y.passed) (sym same) ∙ passed) in
        let few : (b : ℕ) → sum_by (puts (marks b)) (lines_as its) ≤ 1 = subst (λ (y : Shown). (b : ℕ) → sum_by (puts (marks b)) (lines_as y) ≤ 1) same once in (
          x,
          ap bare_core (sym is) ∙ turned_behind u (bare_core u) (record { bare = refl; kept = kept }),
          subst (λ (y : Shown). ReachesAsRun x (lines_as y)) (sym same) (record {
            within = λ slot reached. shown_reach (ls ++ (xs ++ os)) x members still told passes slot (reached_less (ls ++ (xs ++ os)) (lines_as its) beside slot reached);
            whole = λ slot below reached. covered_all (ls ++ (xs ++ os)) (lines_as its) x still told covering beside (passed_freeing x members passes) few slot below reached;
          }),
        )

pub reaches_as_run : (config : Config) (moves : List Move) (step : Shown) (members : List ℕ) → IsConfig config → AllFit (opened config) moves → turn_shown (after_moves (opened config) moves) ≡ step ∷ [] → step.passed ≡ Some members
    → Behind (turned (after_moves (opened config) moves)) (λ v. ReachesAsRun v (journal (heap_for config) (shown_over (opened config) moves) ++ (batch_lines step.batch ++ op_lines step.op step.word)))
reaches_as_run config moves step members is fit shown passed =
    let all = moves_explained (heap_by true config) (opened config) moves (first_explained config is) fit in
    let u : Core = after_moves (heap_by true config) moves in
    let e : Explains u (after_moves (opened config) moves) = all.1 in
    let bs : List Line = journal (heap_for config) (shown_over (opened config) moves) in
    subst (λ (w : Core). Behind (turned w) (λ v. ReachesAsRun v (bs ++ (batch_lines step.batch ++ op_lines step.op step.word)))) e.bare
    (reaches_at u _ bs step members e.kept (whole_run config moves is fit).tells (moves_cover (opening_lines (heap_for config)) (heap_by true config) moves (opened_kept config is) all.0 (opening_covers config is)) (beside_run config moves is fit).alike
    (journal_once config moves step is fit shown) (ap turn_shown e.bare ∙ shown) passed)

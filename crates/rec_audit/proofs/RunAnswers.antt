-- No line of a run's journal is at fault, so it is answered yes.
use Rattle.std.proofs.Common.{◌≡◌, ℕ, ◌≤◌, true, false, Option, None, Some, IfSome, List, [], ◌∷◌, ◌++◌, length, refl, sym, ap, subst, ◌∙◌, append_assoc}
use Rattle.rec_core.specs.Pending.{has_batched}
use Rattle.std.specs.List.{flat_map}
use Rattle.rec_word.specs.declared.op.Op.{Op}
use Rattle.rec_collector.specs.Next.{next_of}
use Rattle.rec_collector.specs.Shown.{Shown, batch_of, passed_of, shown_of}
use Rattle.rec_collector.specs.Step.{NamesWord}
use Rattle.rec_collector.proofs.Always.{names_word}
use Rattle.rec_core.specs.Cells.{cell}
use Rattle.rec_core.specs.Config.{IsConfig}
use Rattle.rec_core.specs.Core.{Core, cells_of, heap_by, opened}
use Rattle.rec_core.specs.Kept.{IsKept}
use Rattle.rec_core.specs.Moves.{AllFit, Move, after_moves, turned, turned_by}
use Rattle.rec_core.specs.Shown.{Shows, shown_behind, shown_over, turn_shown}
use Rattle.rec_core.specs.Turn.{seen_at}
use Rattle.rec_core.specs.declared.config.Config.{Config}
use Rattle.rec_core.proofs.Runs.{move_kept}
use Rattle.rec_word.specs.Bare.{bare_in}
use Rattle.rec_word.specs.Op.{cell_of}
use Rattle.rec_collector.specs.Bare as collectors_bare
use Rattle.rec_collector.proofs.Bare as collecting
use Rattle.rec_core.specs.Bare.{Behind, bare_core}
use Rattle.rec_core.specs.Moves.{turned_at}
use Rattle.rec_core.proofs.BareSeen.{turned_behind}
use Rattle.rec_core.proofs.Dated.{Explains, moves_explained}
use Rattle.rec_core.proofs.Opened.{heap_bare, opened_kept}
use Rattle.rec_audit.proofs.BareJournal.{Beside, moves_beside, opening_alike, shown_bare, work_beside}
use Rattle.rec_audit.proofs.Bared.{Alike, reached_less}
use Rattle.rec_audit.proofs.RunClean.{Clear, Goes, behind_is, clear_both, clear_plain, clear_split, is_kept, moves_go, opening_tells}
use Rattle.rec_audit.specs.Graph.{IsReachedAt}
use Rattle.rec_audit.specs.Journal.{batch_lines, journal, lines_of, op_lines, opening_lines, sets_passed}
use Rattle.rec_audit.specs.Lines.{Line, text_of}
use Rattle.rec_audit.specs.Runs.{IsReachedIn, heap_for}
use Rattle.rec_audit.specs.Verdicts.{HasReachFault, IsVerdict}
use Rattle.rec_audit.specs.declared.verdict.Verdict.TheVariants.{Yes}
use Rattle.rec_audit.specs.Keeping.{Place, behind_steps, first_place}
use Rattle.rec_audit.proofs.Rising.{from_epoch, journal_rises, no_stamp_fault}
use Rattle.rec_audit.proofs.RunGraph.{Tells}
use Rattle.rec_audit.proofs.RunReach.{shown_reach}
use Rattle.rec_audit.proofs.Runs.{are_numbers, run_keeps, passed_same}
use Rattle.rec_audit.proofs.RunTurns.{turned_tells}
use Rattle.rec_audit.proofs.Sets.{answered}

-- ---- the run of dated words behind a run

pub first_explained : (config : Config) → IsConfig config → Explains (heap_by true config) (opened config)
first_explained config is = record { bare = heap_bare config is; kept = opened_kept config is }

pub whole_run : (config : Config) (moves : List Move) → IsConfig config → AllFit (opened config) moves → Goes (opening_lines (heap_for config)) (flat_map lines_of (shown_over (heap_by true config) moves)) (after_moves (heap_by true config) moves)
whole_run config moves is fit = moves_go (opening_lines (heap_for config)) (heap_by true config) moves (opened_kept config is) (moves_explained (heap_by true config) (opened config) moves (first_explained config is) fit).0 (opening_tells config is)

pub beside_run : (config : Config) (moves : List Move) → IsConfig config → AllFit (opened config) moves
    → Beside (opening_lines (heap_for config)) (flat_map lines_of (shown_over (heap_by true config) moves)) (opening_lines (heap_for config)) (flat_map lines_of (shown_over (opened config) moves))
beside_run config moves is fit = moves_beside (heap_by true config) (opened config) moves (opening_lines (heap_for config)) (opening_lines (heap_for config)) (first_explained config is) fit (opening_alike (heap_for config))

-- ---- the journal

journal_clear : (config : Config) (shown : List Shown) (end : Core) → IsConfig config → Shows (opened config) shown end → Clear [] (journal (heap_for config) shown)
journal_clear config shown end is s =
    let opening : List Line = opening_lines (heap_for config) in
    let bares : Clear opening (flat_map lines_of (shown_over (opened config) s.moves)) = (beside_run config s.moves is s.fit).clear (whole_run config s.moves is s.fit).clear in
    clear_both [] opening (flat_map lines_of shown) (clear_plain is_kept [] opening refl (refl, (refl, tt))) (subst (λ xs. Clear opening (flat_map lines_of xs)) (sym s.is) bares)

pub no_reach_fault : (config : Config) (shown : List Shown) (end : Core) (before : List Line) (line : Line) (after : List Line) → IsConfig config → Shows (opened config) shown end → journal (heap_for config) shown ≡ before ++ line ∷ after → HasReachFault before line → ⊥
no_reach_fault config shown end before line after is s split fault = clear_split [] (journal (heap_for config) shown) before after line (journal_clear config shown end is s) split fault

-- what is reached where a set is given up is in the reach of the epoch of the heap behind, or is a free slot
reach_at : (u : Core) (ls bs : List Line) (step : Shown) (members : List ℕ) (slot : ℕ) → IsKept true u → Tells ls u → Alike ls bs → turn_shown (bare_core u) ≡ step ∷ [] → step.passed ≡ Some members
    → IsReachedAt (bs ++ (batch_lines step.batch ++ op_lines step.op step.word)) slot → Behind (turned (bare_core u)) (λ v. IsReachedIn v slot)
reach_at u ls bs step members slot kept tells alike shown passed reached = go (next_of u.collector) refl
  where
    go : (o : Option Op) → ◌≡◌ {A = Option Op} (next_of u.collector) o → Behind (turned (bare_core u)) (λ v. IsReachedIn v slot)
    go None named =
        let none : turn_shown (bare_core u) ≡ [] = ap (λ (o : Option Op). shown_behind (turned (bare_core u)) (seen_at (bare_core u) o)) (collecting.next_bare u.collector ∙ named) in
        absurd (let no : [] ≡ step ∷ [] = sym none ∙ shown in cc)
    go (Some op) named =
        let word : ℕ = cell (cells_of u) op in
        let x : Core = turned_by u op word in
        let is : turned u ≡ x = ap (turned_at u) named in
        let still : IsKept true x = subst (IsKept true) is (move_kept u Move.Turns kept tt) in
        let names : NamesWord (length u.collector.counts.slots) u.collector.fields (length u.collector.newer) op = subst (λ (o : Option Op). IfSome o (NamesWord (length u.collector.counts.slots) u.collector.fields (length u.collector.newer))) named (names_word u.collector kept.collector.machine) in
        let told : Tells (ls ++ (batch_lines (batch_of op x.collector) ++ op_lines op word)) x
        = subst (λ ts. Tells ts x) (ap (λ ts. ts ++ op_lines op word) (behind_is ls (batch_of op x.collector)) ∙ append_assoc ls (batch_lines (batch_of op x.collector)) (op_lines op word)) (turned_tells ls u op kept named still names tells) in
        let its : Shown = shown_of op (bare_in (cell_of op) word) (collectors_bare.bare_private x.collector) in
        let bare_is : turn_shown (bare_core u) ≡ its ∷ [] = shown_bare u op kept named ∙ ap (λ (y : Core). shown_of op (bare_in (cell_of op) word) (collectors_bare.bare_private y.collector) ∷ []) is in
        let both : step ∷ [] ≡ its ∷ [] = sym shown ∙ bare_is in
        let same : step ≡ its = cc in
        let beside = work_beside op word x.collector ls bs alike in
        let passes : passed_of x.collector ≡ Some members = sym (passed_same x.collector x.collector.phase) ∙ (ap (λ (y : Shown). y.passed) (sym same) ∙ passed) in
        let from : IsReachedAt (bs ++ (batch_lines its.batch ++ op_lines its.op its.word)) slot = subst (λ (y : Shown). IsReachedAt (bs ++ (batch_lines y.batch ++ op_lines y.op y.word)) slot) same reached in
        (x, ap bare_core (sym is) ∙ turned_behind u (bare_core u) (record { bare = refl; kept = kept }), shown_reach (ls ++ (batch_lines (batch_of op x.collector) ++ op_lines op word)) x members still told passes slot (reached_less _ _ beside slot from))

pub reach_is_of_run : (config : Config) (moves : List Move) (step : Shown) (members : List ℕ) (slot : ℕ) → IsConfig config → AllFit (opened config) moves → turn_shown (after_moves (opened config) moves) ≡ step ∷ [] → step.passed ≡ Some members
    → IsReachedAt (journal (heap_for config) (shown_over (opened config) moves) ++ (batch_lines step.batch ++ op_lines step.op step.word)) slot
    → Behind (turned (after_moves (opened config) moves)) (λ v. IsReachedIn v slot)
reach_is_of_run config moves step members slot is fit shown passed reached =
    let all = moves_explained (heap_by true config) (opened config) moves (first_explained config is) fit in
    let u : Core = after_moves (heap_by true config) moves in
    let e : Explains u (after_moves (opened config) moves) = all.1 in
    subst (λ (w : Core). Behind (turned w) (λ v. IsReachedIn v slot)) e.bare
    (reach_at u _ _ step members slot e.kept (whole_run config moves is fit).tells (beside_run config moves is fit).alike (ap turn_shown e.bare ∙ shown) passed reached)

pub run_answered : (config : Config) (shown : List Shown) (end : Core) → IsConfig config → Shows (opened config) shown end → has_batched end.collector.phase ≡ false → length (text_of (journal (heap_for config) shown)) ≤ 16777216 → IsVerdict (text_of (journal (heap_for config) shown)) (Yes (sets_passed shown))
run_answered config shown end is s idle short =
    let keeps = run_keeps config shown end is s in
    answered (heap_for config) shown (are_numbers config is) keeps.keep (ap (λ (at : Place). at.working) keeps.ends ∙ idle)
    (λ before line after split. record {
      stamp = no_stamp_fault (from_epoch config.first_epoch) (from_epoch (behind_steps (first_place (heap_for config)) shown).next) (journal (heap_for config) shown) before after line (journal_rises (heap_for config) shown keeps.keep keeps.stamped) split;
      reach = no_reach_fault config shown end before line after is s split;
    })
    short

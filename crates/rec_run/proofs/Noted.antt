-- The text of an audit that was open, with the steps of two runs behind each other, and what is to be said of it.
use Rattle.std.proofs.Common.{◌≡◌, ◌∙◌, ℕ, ◌≤◌, Option, Some, List, [], ◌++◌, length, option_map, subst, sym, ap}
use Rattle.std.specs.List.{flat_map}
use Rattle.std.proofs.lemmas.Grind.{flat_map-append}
use Rattle.rec_collector.specs.Shown.{Shown}
use Rattle.rec_core.specs.Config.{IsConfig}
use Rattle.rec_core.specs.Core.{Core, opened}
use Rattle.rec_core.specs.Pending.{has_batched}
use Rattle.rec_core.specs.Shown.{Shows}
use Rattle.rec_core.specs.declared.config.Config.{Config}
use Rattle.rec_core.proofs.Shows.{shows_then}
use Rattle.rec_model.specs.declared.limits.TheConstants.{MOST_BYTES}
use Rattle.rec_settle.specs.Collecting.{IsCollection}
use Rattle.rec_audit.specs.declared.form.Heap.{Heap}
use Rattle.rec_audit.specs.Journal.{HasNoted, journal, lines_of, opening_lines, sets_passed}
use Rattle.rec_audit.specs.Lines.{text_of, text_of_line}
use Rattle.rec_audit.specs.Runs.{heap_for}
use Rattle.rec_audit.specs.Verdicts.{IsVerdict}
use Rattle.rec_audit.specs.declared.verdict.Verdict.TheVariants.{Yes}
use Rattle.rec_audit.proofs.RunAnswers.{run_answered as of_runs}
use Rattle.rec_run.specs.Audited.{GoesOn, noted_then}

-- it is the journal of all of them
pub noted_both : (heap : Heap) (text : List ℕ) (a b c : Option (List ℕ)) (first later : List Shown) → HasNoted heap [] text → a ≡ Some text → GoesOn a first b → GoesOn b later c
    → c ≡ Some (text_of (journal heap (first ++ later)))
noted_both heap text a b c first later opens is e f =
    noted_then a b c first later e f
    ∙ ap (option_map (λ t. t ++ text_of (flat_map lines_of (first ++ later)))) is
    ∙ ap Some (ap (λ t. t ++ text_of (flat_map lines_of (first ++ later))) opens
    ∙ sym (flat_map-append text_of_line (opening_lines heap) (flat_map lines_of (first ++ later))))

-- Behind a collection none is left open: so the journal of a run that ends there is answered yes, unless it is too long.
pub run_answered : (config : Config) (amid tried end : Core) (first later : List Shown) (text : List ℕ) → IsConfig config → Shows (opened config) first amid → Shows amid later end → IsCollection tried end
    → text ≡ text_of (journal (heap_for config) (first ++ later)) → length text ≤ MOST_BYTES → IsVerdict text (Yes (sets_passed (first ++ later)))
run_answered config amid tried end first later text is f g last written =
    let (one, freed, idle, many, all) = last.complete in
    subst (λ (t : List ℕ). length t ≤ MOST_BYTES → IsVerdict t (Yes (sets_passed (first ++ later)))) (sym written)
    (of_runs config (first ++ later) end is (shows_then (opened config) amid end first later f g) (ap has_batched idle))

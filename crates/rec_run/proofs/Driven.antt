-- What a running heap leaves as it is stopped, of whose mutators each carried out a script's commands.
use Rattle.std.proofs.Common.{◌≡◌, false, ℕ, ◌+◌, ◌<◌, ◌≤◌, suc, List, [], ◌∷◌, ◌++◌, length, map, slice_index_or, refl, sym, ap, subst, ◌∙◌, arith}
use Rattle.std.proofs.Math.ListN.{get_or-map}
use Rattle.std.proofs.lemmas.List.{length-append}
use Rattle.rec_model.specs.declared.command.Cmd.{Cmd}
use Rattle.rec_model.specs.LegalOrder.{Line, Event}
use Rattle.rec_model.specs.Sight.{StandsBy}
use Rattle.rec_model.specs.Unfreed.{AreUnfreed}
use Rattle.rec_core.specs.Config.{IsConfig}
use Rattle.rec_core.specs.Core.{Core, mutator, opened, sight}
use Rattle.rec_core.specs.Kept.{IsKept}
use Rattle.rec_core.specs.Moves.{Move, AllFit, after_moves}
use Rattle.rec_order.specs.Events.{events_of}
use Rattle.rec_order.specs.Legal.{HasLegalOrder}
use Rattle.rec_order.specs.Naming.{Naming, named_after_all}
use Rattle.rec_order.proofs.Refused.{full_told, not_yet_told}
use Rattle.rec_world.specs.Journal.{Notes, no_notes}
use Rattle.rec_core.proofs.BareRuns.{opened_kept}
use Rattle.rec_table.specs.Beats.{beats_of}
use Rattle.rec_table.specs.Ends.{Interleaves, IsStopped}
use Rattle.rec_table.specs.Views.{MutatorView, Started, fresh, mutator_now}
use Rattle.rec_table.specs.Journals.{Tells, journal, journals_from}
use Rattle.rec_table.specs.declared.views.Beat.{Beat}
use Rattle.rec_threads.specs.Done.{HasDone, HaveDone, begun, commands_at, worker_at}
use Rattle.rec_script.specs.Script.{ScriptContents}
use Rattle.rec_play.specs.Played.{config_of, last_moment, lines_of}
use Rattle.rec_play.specs.Start.{IsStartOf, Start, moment_at, names_at, opening_of}
use Rattle.rec_play.proofs.Opened.{IsPlayedLegally, opened_starts, ordered_legally}
use Rattle.rec_play.proofs.Room.{no_log_full}
use Rattle.rec_run.specs.Headline.{AreExplained}
use Rattle.rec_run.specs.Making.{HasRun, KeepsRule}
use Rattle.rec_request.specs.declared.request.How.TheVariants as hows
use Rattle.rec_run.proofs.Outcomes.{explained}

-- where each mutator's list tells its journal's lines, the lists tell the journals
journals_are : (w : Core) (k : ℕ) (ms : List MutatorView) (js : List Notes) → length js ≡ length ms
    → ((i : ℕ) (d : MutatorView) → i < length ms → journal (mutator w (k + i + 1)) (slice_index_or ms i d).log ≡ (slice_index_or js i no_notes).lines)
    → journals_from w k (map (λ (m : MutatorView). m.log) ms) ≡ lines_of js
journals_are w k [] [] long each = refl
journals_are w k [] (j ∷ js) long each = absurd (omega (arith, long))
journals_are w k (m ∷ ms) [] long each = absurd (omega (arith, long))
journals_are w k (m ∷ ms) (j ∷ js) long each =
    let here : k + 1 ≡ k + 0 + 1 = omega arith in
    let first : journal (mutator w (k + 1)) m.log ≡ j.lines = ap (λ n. journal (mutator w n) m.log) here ∙ each 0 m (omega arith) in
    ap (λ (l : List Line). l ∷ journals_from w (k + 1) (map (λ (h : MutatorView). h.log) ms)) first
    ∙ ap (λ (ls : List (List Line)). j.lines ∷ ls)
    (journals_are w (k + 1) ms js (omega (arith, long)) (λ i d lt.
    let on : k + 1 + i + 1 ≡ k + suc i + 1 = omega arith in
    ap (λ n. journal (mutator w n) (slice_index_or ms i d).log) on ∙ each (suc i) d (omega (arith, lt))))

-- where each journal has its mutator's commands, the journals have the script's
commands_are : (cs : List (List Cmd)) (js : List Notes) → length js ≡ length cs
    → ((i : ℕ) → i < length cs → map (λ (line : Line). line.0) (slice_index_or js i no_notes).lines ≡ commands_at cs i)
    → map (map (λ (line : Line). line.0)) (lines_of js) ≡ cs
commands_are [] [] long each = refl
commands_are [] (j ∷ js) long each = absurd (omega (arith, long))
commands_are (c ∷ cs) [] long each = absurd (omega (arith, long))
commands_are (c ∷ cs) (j ∷ js) long each =
    ap (λ (l : List Cmd). l ∷ map (map (λ (line : Line). line.0)) (lines_of js)) (each 0 (omega arith))
    ∙ ap (λ (ls : List (List Cmd)). c ∷ ls) (commands_are cs js (omega (arith, long)) (λ i lt. each (suc i) (omega (arith, lt))))

-- A heap that was started as a script's opening, with fresh mutators and empty journals: what its mutators did and what stopping left.
pub record WasDriven (script : ScriptContents) (s : Started) (ms ms' : List MutatorView) (js js' : List Notes) (collected : List Beat) (world : Core) : Type 0 where
  pub opens : s.world ≡ opened (config_of script)
  pub config : IsConfig (config_of script)
  pub all : length ms ≡ length script.commands
  pub one_each : length js ≡ length ms
  pub fresh_all : (k : ℕ) (d : MutatorView) → k < length ms → slice_index_or ms k d ≡ fresh s (k + 1)
  pub empty : (k : ℕ) → k < length js → (slice_index_or js k no_notes).lines ≡ []
  pub turns : length collected ≤ 10000000
  pub done : HaveDone script.commands ms js ms' js'
  pub stopped : IsStopped s.world collected (map (λ (m : MutatorView). m.log) ms') world

module _ (script : ScriptContents) (s : Started) (ms ms' : List MutatorView) (js js' : List Notes) (collected : List Beat) (world : Core) (was : WasDriven script s ms ms' js js' collected world) where
  -- what the worker of a mutator did
  did : (k : ℕ) (d : MutatorView) → k < length ms → HasDone (commands_at script.commands k) (worker_at ms js k d) (worker_at ms' js' k d)
  did k d lt = was.done.each k d lt

  -- its journal has just the lines that were told
  noted : (k : ℕ) (d : MutatorView) (lt : k < length ms) → (slice_index_or js' k no_notes).lines ≡ (did k d lt).made.lines
  noted k d lt = (did k d lt).made.noted ∙ ap (λ (ls : List Line). ls ++ (did k d lt).made.lines) (was.empty k (let one_each = was.one_each in omega (arith, lt, one_each)))

  -- and these are the ones that its list tells
  tells : (k : ℕ) (d : MutatorView) → k < length ms' → journal (mutator s.world (0 + k + 1)) (slice_index_or ms' k d).log ≡ (slice_index_or js' k no_notes).lines
  tells k d lt' =
      let many : length ms' ≡ length ms = was.done.mutators_all in
      let lt : k < length ms = omega (arith, lt', many) in
      let told : Tells (mutator_now (slice_index_or ms k d)) (slice_index_or ms k d).log (slice_index_or ms' k d).log (did k d lt).made.lines = (did k d lt).made.told in
      let new : slice_index_or ms k d ≡ fresh s (k + 1) = was.fresh_all k d lt in
      let grows : (slice_index_or ms' k d).log ≡ told.beats = told.grows ∙ ap (λ (m : MutatorView). m.log ++ told.beats) new in
      let number : 0 + k + 1 ≡ k + 1 = omega arith in
      ap (λ n. journal (mutator s.world n) (slice_index_or ms' k d).log) number
      ∙ ap (journal (mutator s.world (k + 1))) grows
      ∙ ap (λ (m : MutatorView). journal (mutator_now m) told.beats) (sym new)
      ∙ told.tells
      ∙ sym (noted k d lt)

  lines_are : journals_from s.world 0 (map (λ (m : MutatorView). m.log) ms') ≡ lines_of js'
  lines_are =
      let journals_all = was.done.journals_all in
      let mutators_all = was.done.mutators_all in
      let one_each = was.one_each in
      journals_are s.world 0 ms' js' (omega (arith, journals_all, mutators_all, one_each)) tells

  -- the journals have the script's commands
  commands_kept : map (map (λ (line : Line). line.0)) (lines_of js') ≡ script.commands
  commands_kept =
      let journals_all = was.done.journals_all in
      let one_each = was.one_each in
      let all = was.all in
      commands_are script.commands js' (omega (arith, journals_all, one_each, all)) (λ i lt.
      let there : i < length ms = omega (arith, lt, all) in
      ap (map (λ (line : Line). line.0)) (noted i (fresh s 1) there) ∙ (did i (fresh s 1) there).made.commands)

  abbrev lists : List (List Beat)
  lists = map (λ (m : MutatorView). m.log) ms'

  -- each mutator kept the driving rule
  ruled : (k : ℕ) → k < length script.commands → KeepsRule (commands_at script.commands k) (slice_index_or lists k [])
  ruled k lt =
      let all = was.all in
      let here : k < length ms = omega (arith, lt, all) in
      let d : MutatorView = fresh s 1 in
      let done : HasDone (commands_at script.commands k) (worker_at ms js k d) (worker_at ms' js' k d) = did k d here in
      let list : slice_index_or lists k [] ≡ done.made.told.beats =
      get_or-map (λ (m : MutatorView). m.log) ms' k d ∙ done.made.told.grows ∙ ap (λ (m : MutatorView). m.log ++ done.made.told.beats) (was.fresh_all k d here) in
      record { polls = done.polls; few = done.few; begins = ap begun list ∙ done.made.begins }

  abbrev moves : List Move
  moves = was.stopped.run.run

  ends : after_moves (opened (config_of script)) moves ≡ world
  ends = ap (λ w. after_moves w moves) (sym was.opens) ∙ was.stopped.run.ends

  -- the run has the lists of all, from the script's opening on
  abbrev interleaved : Interleaves (opened (config_of script)) (collected ++ was.stopped.returned) lists world
  interleaved = record {
    run = moves;
    fit = subst (λ w. AllFit w moves) was.opens was.stopped.run.fit;
    offerless = was.stopped.run.offerless;
    ends = ends;
    collector = was.stopped.run.collector ∙ ap (λ w. beats_of 0 w moves) was.opens;
    mutators = λ k lt. was.stopped.run.mutators k (subst (λ w. k < w.config.mutators) (sym was.opens) lt) ∙ ap (λ w. beats_of (k + 1) w moves) was.opens;
  }

  kept : IsKept false (opened (config_of script))
  kept = opened_kept (config_of script) was.config

  legally : IsPlayedLegally script (opening_of script) world (lines_of js') (events_of (names_at (opening_of script)) (opened (config_of script)) moves) (named_after_all (names_at (opening_of script)) (opened (config_of script)) moves)
  legally =
      let start : Start = opening_of script in
      let is : IsStartOf script start = opened_starts script was.config in
      let order : HasLegalOrder s.world start.heap start.number start.unfreed moves (journals_from s.world 0 (map (λ (m : MutatorView). m.log) ms'))
      = was.stopped.order start.heap start.number start.unfreed (subst (λ w. StandsBy start.heap (sight w) start.number) (sym was.opens) is.stands)
      (subst (λ w. AreUnfreed (sight w) start.number start.unfreed) (sym was.opens) is.unfreed) in
      ordered_legally script start is world moves (lines_of js') (subst (λ w. HasLegalOrder w start.heap start.number start.unfreed moves (lines_of js')) was.opens
      (subst (HasLegalOrder s.world start.heap start.number start.unfreed moves) lines_are order)) ends

  abbrev events : List Event
  events = events_of (names_at (opening_of script)) (opened (config_of script)) moves

  abbrev names : Naming
  names = named_after_all (names_at (opening_of script)) (opened (config_of script)) moves

  pub was_driven : (events : List Event) × AreExplained script (moment_at script (opening_of script)) (lines_of js') events
      × HasRun script (opening_of script) hows.Threads (lines_of js') events world × (world.made ≡ length (last_moment script (opening_of script) events).heap.objects)
  was_driven = (
    events,
    explained script (moment_at script (opening_of script)) (lines_of js') events commands_kept legally.legal (no_log_full script (opening_of script) (lines_of js') events commands_kept legally.legal),
    record {
      names = names;
      stands = legally.stands;
      unfreed = legally.unfreed;
      steps = record {
        collected = collected ++ was.stopped.returned;
        lists = lists;
        interleaved = interleaved;
        turns = let once = was.stopped.once in let most = was.turns in let both = length-append collected was.stopped.returned in omega (arith, once, most, both);
        ruled = ruled;
        told = ap (λ w. journals_from w 0 lists) (sym was.opens) ∙ lines_are;
        tells = refl;
        named = refl;
        not_yet = not_yet_told (names_at (opening_of script)) (opened (config_of script)) moves kept interleaved.fit;
        full = full_told (names_at (opening_of script)) (opened (config_of script)) moves kept interleaved.fit;
      };
    },
    legally.made,
  )

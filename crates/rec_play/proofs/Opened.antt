-- The played run has the legal order of its moves; and the opening of a script is a start.
use Rattle.std.proofs.Common.{◌≡◌, ℕ, ◌+◌, ◌-◌, ◌<◌, List, [], ◌∷◌, Option, slice_index_or, length, map, replicate, refl, sym, ap, subst, ◌∙◌, arith}
use Rattle.std.specs.List.{filter_map}
use Rattle.rec_model.specs.Heap.{opening}
use Rattle.rec_model.specs.LegalOrder.{Line, Event, Limits, Moment, after_all, line_by, IsLegalOrder}
use Rattle.rec_model.specs.Sight.{Sight, StandsBy}
use Rattle.rec_model.specs.Unfreed.{AreUnfreed}
use Rattle.rec_model.proofs.Opened.{opening_number, opening_stands_by, opening_unfreed}
use Rattle.rec_mutator.specs.Private.{Private}
use Rattle.rec_core.specs.Config.{IsConfig, IsMutator}
use Rattle.rec_core.specs.Core.{Core, mutator, sight, opened, holding_mutator, holding_mutators, opened_from}
use Rattle.rec_core.specs.Objects.{Objects, first_object, rows_of}
use Rattle.rec_core.specs.Moves.{Move, after_moves}
use Rattle.rec_core.specs.declared.config.Config.{Config}
use Rattle.rec_collector.proofs.Rows.{length-rows}
use Rattle.rec_core.proofs.Opened.{sight_opened}
use Rattle.rec_core.proofs.Seated.{holding_at}
use Rattle.rec_order.specs.Naming.{Naming, named_after_all}
use Rattle.rec_order.specs.Events.{events_of}
use Rattle.rec_order.specs.Legal.{limits_of, moment_of, HasLegalOrder}
use Rattle.rec_order.proofs.Legal.{run_legal, lines_of}
use Rattle.rec_order.proofs.Runs.{moves_made}
use Rattle.rec_script.specs.Script.{ScriptContents}
use Rattle.rec_play.specs.Played.{config_of, last_moment}
use Rattle.rec_play.specs.Played as played
use Rattle.rec_play.proofs.Going.{Went}
use Rattle.rec_play.specs.Start.{IsStartOf, MayBegin, Start, moment_at, names_at, opening_of}
use Rattle.rec_mutator.specs.Private.{is_busy}

-- logs are empty as a heap is opened from objects
done_holding : (config : Config) (t : ℕ) (rows : List (List (Option ℕ))) → map (λ (p : Private). length p.log.entries) (holding_mutators config t rows) ≡ replicate (length rows) 0
done_holding config t [] = refl
done_holding config t (held ∷ rows) = ap (λ (ns : List ℕ). 0 ∷ ns) (done_holding config (t + 1) rows)

-- a script may be played on such a heap
pub opened_from_begins : (script : ScriptContents) (o : Objects) → MayBegin script (opened_from (config_of script) o)
opened_from_begins script o = record {
  config = refl;
  idle = λ t there. ap is_busy (one_of t there);
  present = λ t there. ap (λ (p : Private). p.left) (one_of t there);
  logs = done_holding config 1 rows ∙ ap (λ n. replicate n 0) many;
  unswept = refl;
}
  where
    config : Config
    config = config_of script

    rows : List (List (Option ℕ))
    rows = rows_of config.registers config.mutators o.registers

    many : length rows ≡ config.mutators
    many = length-rows config.registers config.mutators o.registers

    one_of : (t : ℕ) → IsMutator config t → mutator (opened_from config o) t ≡ holding_mutator config (1 + (t - 1)) (slice_index_or rows (t - 1) [])
    one_of t (some, most) = holding_at config 1 rows (t - 1) (omega (arith, some, most, many))

-- and so on its opening
pub opened_begins : (script : ScriptContents) → MayBegin script (opened (config_of script))
opened_begins script = opened_from_begins script (first_object (config_of script))

-- for which the opening heap stands
pub opened_starts : (script : ScriptContents) → IsConfig (config_of script) → IsStartOf script (opening_of script)
opened_starts script is = record {
  begins = opened_begins script;
  stands = subst (λ (s : Sight). StandsBy (opening script.fields script.registers (length script.commands)) s opening_number) (sym (sight_opened (config_of script) is))
      (opening_stands_by script.slots script.fields script.registers (length script.commands) is.some_slots);
  unfreed = subst (λ (s : Sight). AreUnfreed s opening_number (0 ∷ [])) (sym (sight_opened (config_of script) is))
      (opening_unfreed script.slots script.fields script.registers (length script.commands));
  made = refl;
}

-- what is played has a legal order, and its heap stands for the world
pub record IsPlayedLegally (script : ScriptContents) (start : Start) (world : Core) (lines : List (List Line)) (events : List Event) (n : Naming) : Type 0 where
  pub legal : IsLegalOrder (played.limits_of script) (moment_at script start) lines events
  pub stands : StandsBy (last_moment script start events).heap (sight world) n.number
  pub unfreed : AreUnfreed (sight world) n.number (last_moment script start events).unfreed
  pub made : world.made ≡ length (last_moment script start events).heap.objects

-- a run begins at that moment
moment_is : (script : ScriptContents) (start : Start) → MayBegin script start.world → moment_of start.world start.heap start.unfreed ≡ moment_at script start
moment_is script start begins =
    ap (λ n. let m : Moment = record (moment_of start.world start.heap start.unfreed) { marks = n } in m) begins.unswept
    ∙ ap (λ ns. let m : Moment = record (moment_at script start) { done = ns } in m) begins.logs

-- a legal order of the moves of a run from a start is one from its moment, and its heap stands for the world at the end
pub ordered_legally : (script : ScriptContents) (start : Start) → IsStartOf script start → (world : Core) (moves : List Move) (lines : List (List Line)) → HasLegalOrder start.world start.heap start.number start.unfreed moves lines
    → after_moves start.world moves ≡ world
    → IsPlayedLegally script start world lines (events_of (names_at start) start.world moves) (named_after_all (names_at start) start.world moves)
ordered_legally script start is world moves lines all leads =
    let first : Core = start.world in
    let events : List Event = events_of (names_at start) first moves in
    let n : Naming = named_after_all (names_at start) first moves in
    let limits : limits_of first.config ≡ played.limits_of script = ap limits_of is.begins.config in
    let moment : moment_of first start.heap start.unfreed ≡ moment_at script start = moment_is script start is.begins in
    let ends : Moment = after_all (limits_of first.config) (moment_of first start.heap start.unfreed) events in
    let last : ends ≡ last_moment script start events =
    ap (λ l. after_all l (moment_of first start.heap start.unfreed) events) limits ∙ ap (λ m. after_all (played.limits_of script) m events) moment in
    let counted : n.next + first.made ≡ length start.heap.objects + (after_moves first moves).made = moves_made (names_at start) first moves in
    let next : n.next ≡ length ends.heap.objects = all.ends.next in
    let same : world.made ≡ (after_moves first moves).made = ap (λ (w : Core). w.made) (sym leads) in
    record {
      legal = subst (λ m. IsLegalOrder (played.limits_of script) m lines events) moment (subst (λ (l : Limits). IsLegalOrder l (moment_of first start.heap start.unfreed) lines events) limits all.legal);
      stands = subst (λ (m : Moment). StandsBy m.heap (sight world) n.number) last (subst (λ (w : Core). StandsBy ends.heap (sight w) n.number) leads all.ends.stands);
      unfreed = subst (λ (m : Moment). AreUnfreed (sight world) n.number m.unfreed) last (subst (λ (w : Core). AreUnfreed (sight w) n.number ends.unfreed) leads all.ends.unfreed);
      made = subst (λ (m : Moment). world.made ≡ length m.heap.objects) last (omega (arith, counted, next, same, is.made));
    }

-- by the law of every run
pub played_legally : (script : ScriptContents) (start : Start) (world : Core) (lines : List (List Line)) (events : List Event) (n : Naming) → IsStartOf script start → length lines ≡ length script.commands
    → ((t : ℕ) → 0 < t → filter_map (line_by t) events ≡ slice_index_or lines (t - 1) []) → Went script start.world (names_at start) events n world → IsPlayedLegally script start world lines events n
played_legally script start world lines events n is one_each own so =
    let first : Core = start.world in
    let all : HasLegalOrder first start.heap start.number start.unfreed so.run.moves lines
    = run_legal first start.heap start.number start.unfreed so.run.moves lines so.kept is.begins.idle is.stands is.unfreed so.run.fit
    (record {
      one_each = one_each ∙ sym (ap (λ (c : Config). c.mutators) is.begins.config);
      lines = λ t there. sym (own t there.0) ∙ ap (filter_map (line_by t)) (sym so.run.tells) ∙ lines_of t (names_at start) first so.run.moves;
    }) in
    subst (λ es. IsPlayedLegally script start world lines es n) so.run.tells
    (subst (IsPlayedLegally script start world lines (events_of (names_at start) first so.run.moves)) so.run.names (ordered_legally script start is world so.run.moves lines all so.run.ends))

-- The run so far, as moves of the heap that tell the same, and a turn more.
use Rattle.std.proofs.Common.{◌≡◌, inl, inr, ℕ, ◌+◌, ◌-◌, ◌<◌, ◌≤◌, ◌==◌, List, [], ◌∷◌, ◌++◌, Option, None, Some, Bool, true, false, if◌then◌else◌, slice_index_or, length, map, take, refl, sym, ap, subst, ◌∙◌, arith}
use Rattle.std.specs.List.{slice_get, filter_map, cons_option}
use Rattle.std.proofs.lemmas.Bool.{cases_eq, eq-eqb, ne_eqb}
use Rattle.std.proofs.lemmas.List.{append-nil, length_push, map_push, take_more}
use Rattle.std.proofs.lemmas.List.Elements.{All-get_or, filter_map-append}
use Rattle.std.proofs.lemmas.List.Sums.{sum_by-cons}
use Rattle.std.proofs.lemmas.Option.{get_or_from_slice_get, slice_get_within}
use Rattle.rec_word.specs.declared.op.Op.{Op}
use Rattle.rec_word.specs.declared.op.Op.TheVariants as ops
use Rattle.rec_model.specs.declared.command.Cmd.{Cmd}
use Rattle.rec_model.specs.declared.told.Told.{Told}
use Rattle.rec_model.specs.LegalOrder.{actor, actors, Line, Event, line_by}
use Rattle.rec_model.specs.LegalOrder.Event.{Answers, Frees, Marks}
use Rattle.rec_model.specs.Numbering.{times}
use Rattle.rec_model.specs.Sight.{Sight, IsTaken}
use Rattle.rec_model.proofs.Operands.{operands_same}
use Rattle.rec_mutator.specs.Private.{Private, HasOperands, answer_of, is_busy, work_of}
use Rattle.rec_mutator.specs.declared.made.Made.TheVariants as makes
use Rattle.rec_mutator.specs.declared.work.Work.TheVariants as works
use Rattle.rec_collector.specs.Next.{next_of}
use Rattle.rec_core.specs.Config.{IsMutator, HasLabel}
use Rattle.rec_core.specs.Core.{Core, sight, mutator}
use Rattle.rec_core.specs.Kept.{IsKept}
use Rattle.rec_core.specs.Moves.{Move, begun as begun_in, turned}
use Rattle.rec_core.specs.Worked.{AreIdle, IsWorked}
use Rattle.rec_core.specs.declared.config.Config.{Config}
use Rattle.rec_core.proofs.Gathering.{awaited_stays}
use Rattle.rec_core.proofs.Leaving.{IsStayingIn, polls_stay}
use Rattle.rec_core.proofs.Runs.{config_after}
use Rattle.rec_core.specs.Shown.{Shows}
use Rattle.rec_core.proofs.Shows.{shows_then}
use Rattle.rec_world.proofs.Shows.{shows_worked}
use Rattle.rec_core.proofs.Steps.{actor_of}
use Rattle.rec_order.specs.Events.{swept_by}
use Rattle.rec_order.specs.Naming.{Naming, NamesGoOn}
use Rattle.rec_order.proofs.Legal.{swept_lines}
use Rattle.rec_order.proofs.Refused.{IsRefusedBy, step_refused}
use Rattle.rec_order.proofs.Runs.{Runs, runs_both, runs_one, commanded_runs, polled_runs}
use Rattle.rec_world.specs.World.{IsWorld}
use Rattle.rec_world.proofs.Beginnings.{began_work}
use Rattle.rec_world.proofs.Calls.{moved_world, world_kept}
use Rattle.rec_world.proofs.Commands.{stays_after}
use Rattle.rec_world.proofs.Skipping.{path_counts, path_world}
use Rattle.rec_script.specs.Script.{ScriptContents, AreCommands, IsCommand, IsScript}
use Rattle.rec_settle.specs.Collecting.{Follows}
use Rattle.rec_play.specs.Moves.{Carries}
use Rattle.rec_play.specs.Played.{config_of}
use Rattle.rec_play.specs.Run.{HasCommand, commands_of, made_in}
use Rattle.rec_play.proofs.Due.{commands_are, has_command}

-- a command more is a line more of its mutator
pub line_own : (events : List Event) (t : ℕ) (line : Line) → filter_map (line_by t) (events ++ Answers t line ∷ []) ≡ filter_map (line_by t) events ++ line ∷ []
line_own events t line =
    filter_map-append (line_by t) events (Answers t line ∷ [])
    ∙ ap (λ b. filter_map (line_by t) events ++ cons_option (if b then Some line else None) []) (eq-eqb t t refl)

-- and no other's
pub line_other : (events : List Event) (t s : ℕ) (line : Line) → (t ≡ s → ⊥) → filter_map (line_by s) (events ++ Answers t line ∷ []) ≡ filter_map (line_by s) events
line_other events t s line other =
    filter_map-append (line_by s) events (Answers t line ∷ [])
    ∙ ap (λ b. filter_map (line_by s) events ++ cons_option (if b then Some line else None) []) (ne_eqb t s other)
    ∙ append-nil (filter_map (line_by s) events)

-- what a turn of the collector sweeps is no line
pub line_swept : (events : List Event) (n : Naming) (w : Core) (s : ℕ) → filter_map (line_by s) (events ++ swept_by n (next_of w.collector)) ≡ filter_map (line_by s) events
line_swept events n w s =
    filter_map-append (line_by s) events (swept_by n (next_of w.collector))
    ∙ ap (λ ls. filter_map (line_by s) events ++ ls) (swept_lines s n (next_of w.collector)) ∙ append-nil (filter_map (line_by s) events)

-- what a turn sweeps is no answer
swept_actors : (n : Naming) (op : Option Op) → actors (swept_by n op) ≡ []
swept_actors n (Some ops.AddFreed) = refl
swept_actors n (Some (ops.FreeHeader slot)) = refl
swept_actors n _ = refl

-- the mutators that were answered, after a turn of the collector
pub actors_swept : (events : List Event) (n : Naming) (w : Core) → actors (events ++ swept_by n (next_of w.collector)) ≡ actors events
actors_swept events n w = filter_map-append actor events (swept_by n (next_of w.collector)) ∙ ap (λ ts. actors events ++ ts) (swept_actors n (next_of w.collector)) ∙ append-nil (actors events)

-- Moves from this heap on, whose slots hold these objects, tell these events, and each mutator's first commands were answered.
pub record Went (script : ScriptContents) (first : Core) (named : Naming) (events : List Event) (n : Naming) (world : Core) : Type 0 where
  pub valid : IsScript script
  pub config : first.config ≡ config_of script
  pub kept : IsKept false first
  pub run : Runs first world events named n
  pub commands : (t : ℕ) → map (λ (line : Line). line.0) (filter_map (line_by t) events) ≡ take (made_in events t) (commands_of script t)

-- Before the first turn.
pub begun : (script : ScriptContents) (first : Core) (named : Naming) → IsScript script → first.config ≡ config_of script → IsKept false first → Went script first named [] named first
begun script first named is config kept = record { valid = is; config = config; kept = kept; run = record { moves = []; fit = tt; ends = refl; tells = refl; names = refl }; commands = λ t. refl }

runs_config : (script : ScriptContents) (first w : Core) (events : List Event) (m n : Naming) → first.config ≡ config_of script → Runs first w events m n → w.config ≡ config_of script
runs_config script first w events m n config run = ap (λ (x : Core). x.config) (sym run.ends) ∙ config_after first run.moves ∙ config

-- operands in range are those of a mutator
operands : (script : ScriptContents) (p : Private) (cmd : Cmd) → length p.registers ≡ script.registers → p.fields ≡ script.fields → IsCommand script.registers script.fields cmd → HasOperands p cmd × HasLabel (works.Command cmd)
operands script p cmd registers fields is = (operands_same cmd (sym registers) (sym fields) is.0, is.1)

-- a mutator's next command has operands in range
next_in_range : (script : ScriptContents) (t m : ℕ) (cmd : Cmd) → IsScript script → slice_get (commands_of script t) m ≡ Some cmd → IsCommand script.registers script.fields cmd
next_in_range script t m cmd is next =
    let there : HasCommand script t m = has_command script t m cmd next in
    let cmds : List Cmd = slice_index_or script.commands (t - 1) [] in
    let its : slice_get cmds m ≡ Some cmd = ap (λ cs. slice_get cs m) (sym (commands_are script t there.some)) ∙ next in
    let all : AreCommands script.version script.registers script.fields cmds =
    All-get_or (AreCommands script.version script.registers script.fields) script.commands (t - 1) [] (omega (arith, there.some, there.most)) is.commands in
    subst (IsCommand script.registers script.fields) (get_or_from_slice_get cmds m cmd cmd its) (All-get_or (IsCommand script.registers script.fields) cmds m cmd (slice_get_within cmds m cmd its) all.in_range)

-- the mutators' first commands, one more
commands_more : (script : ScriptContents) (events : List Event) (t : ℕ) (cmd : Cmd) (told : Told) → slice_get (commands_of script t) (made_in events t) ≡ Some cmd
    → ((s : ℕ) → map (λ (line : Line). line.0) (filter_map (line_by s) events) ≡ take (made_in events s) (commands_of script s))
    → (s : ℕ) → map (λ (line : Line). line.0) (filter_map (line_by s) (events ++ Answers t (cmd, told) ∷ [])) ≡ take (made_in (events ++ Answers t (cmd, told) ∷ []) s) (commands_of script s)
commands_more script events t cmd told next so s = elim (cases_eq t s) [
  | inl same ↦
      let P : ℕ → Type 0 = λ x. map (λ (line : Line). line.0) (filter_map (line_by x) (events ++ Answers t (cmd, told) ∷ [])) ≡ take (made_in (events ++ Answers t (cmd, told) ∷ []) x) (commands_of script x) in
      let cmds : List Cmd = commands_of script t in
      let mine : List Line = filter_map (line_by t) events in
      let here : filter_map (line_by t) (events ++ Answers t (cmd, told) ∷ []) ≡ mine ++ (cmd, told) ∷ [] = line_own events t (cmd, told) in
      subst P same
      (ap (map (λ (line : Line). line.0)) here
      ∙ map_push (λ (line : Line). line.0) mine (cmd, told)
      ∙ ap (λ (xs : List Cmd). xs ++ cmd ∷ []) (so t)
      ∙ ap (λ (c : Cmd). take (length mine) cmds ++ c ∷ []) (sym (get_or_from_slice_get cmds (length mine) cmd cmd next))
      ∙ sym (take_more cmds (length mine) cmd (slice_get_within cmds (length mine) cmd next))
      ∙ ap (λ n. take n cmds) (sym (ap length here ∙ length_push mine (cmd, told))))
  | inr other ↦
      let stays : filter_map (line_by s) (events ++ Answers t (cmd, told) ∷ []) ≡ filter_map (line_by s) events = line_other events t s (cmd, told) other in
      ap (map (λ (line : Line). line.0)) stays ∙ so s ∙ ap (λ (xs : List Line). take (length xs) (commands_of script s)) (sym stays)
]

-- a mutator of the script is one of the heap
is_mutator : (script : ScriptContents) (world : Core) (t : ℕ) → world.config ≡ config_of script → 0 < t → t ≤ length script.commands → IsMutator world.config t
is_mutator script world t config some most = subst (λ (c : Config). IsMutator c t) (sym config) (some, most)

-- the naming goes on over a command and the poll before it
names_from : (before mid after : Core) (line : Line) (n k : Naming) → sight mid ≡ sight before → NamesGoOn mid after line n k → NamesGoOn before after line n k
names_from before mid after line n k seen (NamesGoOn.born slot birth free taken) = NamesGoOn.born slot birth (λ was. free (subst (λ (x : Sight). IsTaken x slot) (sym seen) was)) taken
names_from before mid after line n k seen (NamesGoOn.same unborn) = NamesGoOn.same unborn

-- a poll of a world leaves one, and by it the mutator doesn't leave
polled_world : (w v : Core) (t : ℕ) → IsWorld w → IsMutator w.config t → is_busy (mutator w t) ≡ false → (mutator w t).left ≡ false → IsWorked w t works.Poll v → IsWorld v × ((mutator v t).left ≡ false)
polled_world w v t world is idle present done =
    let b : Core = begun_in w t works.Poll in
    let u : Core = done.last in
    let begins : IsWorld b = moved_world w (Move.Begins t works.Poll 0) world (is, idle, present, tt, tt, world.shaped.config.some_slots) in
    let (last, there) = path_world b t u begins is done.path in
    let kept : IsKept false u = world_kept u last in
    let work : work_of (mutator u t) ≡ Some works.Poll = (path_counts b t u begins is done.path).1 ∙ began_work w t works.Poll (world_kept w world) is in
    let stays : IsStayingIn (mutator u t).phase = polls_stay (mutator u t).phase work in (
      subst IsWorld (sym done.steps) (moved_world u (Move.Steps t) last (there, done.busy)),
      stays_after u v t kept there done.busy stays done.steps,
    )

-- A command of a world is told NotYet just where its last step is the first one of leaving and finds a log that is still to be collected,
-- and Full only where every slot is taken at its last step.
pub told_why : (script : ScriptContents) (w v : Core) (t : ℕ) (cmd : Cmd) (told : Told) → IsWorld w → w.config ≡ config_of script → 0 < t → t ≤ length script.commands → is_busy (mutator w t) ≡ false → (mutator w t).left ≡ false
    → IsCommand script.registers script.fields cmd → (done : IsWorked w t (works.Command cmd) v) → answer_of (mutator v t) ≡ Some (makes.Answered told) → IsRefusedBy done.last t cmd told
told_why script w v t cmd told world config some most idle present command done answered =
    let is : IsMutator w.config t = is_mutator script w t config some most in
    let kept : IsKept false w = world_kept w world in
    let own = (actor_of w t kept is).own in
    let (valid, label) = operands script (mutator w t) cmd (own.registers ∙ ap (λ (c : Config). c.registers) config) (own.fields ∙ ap (λ (c : Config). c.fields) config) command in
    let b : Core = begun_in w t (works.Command cmd) in
    let u : Core = done.last in
    let begins : IsWorld b = moved_world w (Move.Begins t (works.Command cmd) 0) world (is, idle, present, valid, label, world.shaped.config.some_slots) in
    let (last, there) = path_world b t u begins is done.path in
    let work : work_of (mutator u t) ≡ Some (works.Command cmd) = (path_counts b t u begins is done.path).1 ∙ began_work w t (works.Command cmd) kept is in
    step_refused u t cmd told (world_kept u last) there done.busy work (ap (λ (x : Core). answer_of (mutator x t)) (sym done.steps) ∙ answered)

-- A command more, behind a poll.
pub went_command : (script : ScriptContents) (first : Core) (named : Naming) (events : List Event) (n : Naming) (before after : Core) (t : ℕ) (cmd : Cmd) (told : Told) → IsWorld before → AreIdle before → (mutator before t).left ≡ false → Carries script t (made_in events t) before cmd told after → Went script first named events n before
    → (k : Naming) × NamesGoOn before after (cmd, told) n k × Went script first named (events ++ Answers t (cmd, told) ∷ []) k after
went_command script first named events n before after t cmd told world idle present carries so =
    let there : HasCommand script t (made_in events t) = has_command script t (made_in events t) cmd carries.next in
    let mid : Core = carries.polled in
    let is : IsMutator before.config t = is_mutator script before t (runs_config script first before events named n so.config so.run) there.some there.most in
    let (poll, seen) = polled_runs before mid t n (world_kept before world) is (idle t is) present carries.poll in
    let polled : Runs first mid events named n = subst (λ es. Runs first mid es named n) (append-nil events) (runs_both first before mid events [] named n n so.run poll) in
    let config : mid.config ≡ config_of script = runs_config script first mid events named n so.config polled in
    let (world_mid, present_mid) = polled_world before mid t world is (idle t is) present carries.poll in
    let kept : IsKept false mid = world_kept mid world_mid in
    let is_mid : IsMutator mid.config t = is_mutator script mid t config there.some there.most in
    let own = (actor_of mid t kept is_mid).own in
    let (valid, label) = operands script (mutator mid t) cmd (own.registers ∙ ap (λ (c : Config). c.registers) config) (own.fields ∙ ap (λ (c : Config). c.fields) config) (next_in_range script t (made_in events t) cmd so.valid carries.next) in
    let (k, names, run) = commanded_runs mid after t cmd told n kept is_mid carries.poll.idle present_mid valid label carries.command carries.answer in (
      k,
      names_from before mid after (cmd, told) n k seen names,
      record {
        valid = so.valid;
        config = so.config;
        kept = so.kept;
        run = runs_both first mid after events (Answers t (cmd, told) ∷ []) named n k polled run;
        commands = commands_more script events t cmd told carries.next so.commands;
      },
    )

-- A watch is shown nothing of a command and of the poll before it.
pub shows_command : (script : ScriptContents) (made t : ℕ) (before after : Core) (cmd : Cmd) (told : Told) → IsScript script → before.config ≡ config_of script → IsWorld before → AreIdle before → (mutator before t).left ≡ false → Carries script t made before cmd told after
    → Shows before [] after
shows_command script made t before after cmd told valid config world idle present carries =
    let there : HasCommand script t made = has_command script t made cmd carries.next in
    let mid : Core = carries.polled in
    let is : IsMutator before.config t = is_mutator script before t config there.some there.most in
    let poll : Shows before [] mid = shows_worked before mid t works.Poll (world_kept before world) is (idle t is) present tt tt carries.poll in
    let config_mid : mid.config ≡ config_of script = ap (λ (x : Core). x.config) (sym poll.ends) ∙ config_after before poll.moves ∙ config in
    let (world_mid, present_mid) = polled_world before mid t world is (idle t is) present carries.poll in
    let kept : IsKept false mid = world_kept mid world_mid in
    let is_mid : IsMutator mid.config t = is_mutator script mid t config_mid there.some there.most in
    let own = (actor_of mid t kept is_mid).own in
    let (fits, label) = operands script (mutator mid t) cmd (own.registers ∙ ap (λ (c : Config). c.registers) config_mid) (own.fields ∙ ap (λ (c : Config). c.fields) config_mid) (next_in_range script t made cmd valid carries.next) in
    shows_then before mid after [] [] poll (shows_worked mid after t (works.Command cmd) kept is_mid carries.poll.idle present_mid fits label carries.command)

-- A turn of the collector more, and the poll that follows it.
pub went_step : (script : ScriptContents) (first : Core) (named : Naming) (done : ℕ → Type 0) (events : List Event) (n : Naming) (before after : Core) → IsKept false before → AreIdle before → Follows done before after → Went script first named events n before
    → Went script first named (events ++ swept_by n (next_of before.collector)) n after
went_step script first named done events n before after kept idle follows so = record {
  valid = so.valid;
  config = so.config;
  kept = so.kept;
  run = go follows;
  commands = λ t. ap (map (λ (line : Line). line.0)) (line_swept events n before t) ∙ so.commands t ∙ ap (λ (xs : List Line). take (length xs) (commands_of script t)) (sym (line_swept events n before t));
}
  where
    told : List Event
    told = swept_by n (next_of before.collector)

    step : (x : Core) → x ≡ turned before → Runs first x (events ++ told) named n
    step x is = runs_both first before x events told named n n so.run (runs_one before x Move.Turns n tt is)

    go : Follows done before after → Runs first after (events ++ told) named n
    go (Follows.rests left is) = step after is
    go (Follows.polls t awaited same spent polled) =
        let (poll, seen) = polled_runs before after t n kept awaited.there (idle t awaited.there) (awaited_stays before t kept awaited.there awaited.waits) polled.worked in
        subst (λ es. Runs first after es named n) (append-nil (events ++ told)) (runs_both first before after (events ++ told) [] named n n (step before (sym same)) poll)

-- a turn is a line of its mutator
turns_of_one : (t s : ℕ) (line : Line) (order : List ℕ) (lines : List Line) → times t order ≡ length lines
    → times t (s ∷ order) ≡ length (cons_option (if s == t then Some line else None) lines)
turns_of_one t s line order lines so = sum_by-cons (λ m. if m == t then 1 else 0) s order ∙ one_of (s == t)
  where
    one_of : (b : Bool) → (if b then 1 else 0) + times t order ≡ length (cons_option (if b then Some line else None) lines)
    one_of true = omega (arith, so)
    one_of false = omega (arith, so)

-- a mutator has as many turns as lines
pub turns_are_lines : (t : ℕ) (events : List Event) → times t (actors events) ≡ length (filter_map (line_by t) events)
turns_are_lines t [] = refl
turns_are_lines t (Answers s line ∷ events) = turns_of_one t s line (actors events) (filter_map (line_by t) events) (turns_are_lines t events)
turns_are_lines t (Frees n ∷ events) = turns_are_lines t events
turns_are_lines t (Marks ∷ events) = turns_are_lines t events

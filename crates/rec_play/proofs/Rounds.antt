-- The played run between two turns: what was played, what is to come, and what room is left.
use Rattle.std.proofs.Common.{◌≡◌, inl, inr, ℕ, ◌+◌, ◌-◌, ◌<◌, ◌≤◌, zero, suc, false, Option, List, [], ◌∷◌, ◌++◌, Some, slice_index_or, slice_set, length, map, replicate, refl, sym, ap, subst, ◌∙◌, arith}
use Rattle.std.specs.List.{slice_get, filter_map, sum}
use Rattle.std.proofs.lemmas.Bool.{cases_eq, cases_lt}
use Rattle.std.proofs.lemmas.List.{append-nil, append_assoc, length_push, length-map, length-append, length-set, take_all, get_or-set_same, get_or-set_other, get_or-map, get_or_past, ext_get_or}
use Rattle.std.proofs.lemmas.List.Elements.{All-get_or, filter_map-append}
use Rattle.std.proofs.lemmas.Option.{slice_get-get_or, get_or_from_slice_get}
use Rattle.rec_word.specs.declared.op.Op.{Op}
use Rattle.rec_model.specs.declared.command.Cmd.{Cmd}
use Rattle.rec_model.specs.declared.limits.TheConstants.{MOST_MUTATORS}
use Rattle.rec_model.specs.declared.told.Told.{Told}
use Rattle.rec_model.specs.LegalOrder.{actor, actors, Line, Event, line_by}
use Rattle.rec_model.specs.LegalOrder.Event.{Answers}
use Rattle.rec_model.specs.Numbering.{times}
use Rattle.rec_mutator.specs.declared.work.Work.TheVariants as works
use Rattle.rec_collector.specs.Next.{next_of}
use Rattle.rec_collector.specs.declared.phase.Phase.TheVariants.{Looking}
use Rattle.rec_collector.specs.declared.turn.Turn.{Turn}
use Rattle.rec_core.specs.Core.{Core, mutator}
use Rattle.rec_core.specs.Kept.{IsKept}
use Rattle.rec_core.specs.Moves.{turned}
use Rattle.rec_core.specs.Worked.{AreIdle, IsWorked}
use Rattle.rec_core.proofs.Runs.{looked_is}
use Rattle.rec_order.specs.Events.{swept_by}
use Rattle.rec_order.specs.Naming.{Naming, NamesGoOn}
use Rattle.rec_world.specs.Journal.{Notes, no_notes}
use Rattle.rec_world.specs.Order.{Turns}
use Rattle.rec_world.specs.World.{IsWorld}
use Rattle.rec_world.proofs.Calls.{world_kept}
use Rattle.rec_script.specs.Script.{ScriptContents, IsScript}
use Rattle.rec_settle.specs.Collecting.{Follows}
use Rattle.rec_play.specs.declared.actor.Actor.{Actor}
use Rattle.rec_play.specs.declared.actor.Actor.TheVariants.{Mutator, Collector}
use Rattle.rec_play.specs.Moves.{AreThere, Carries, IsSpent, MakesCommand, MakesStep, Player, made_by}
use Rattle.rec_play.specs.Played.{AreReady, IsPlayed, IsStopped, config_of, lengths_of, lines_of}
use Rattle.rec_play.specs.Start.{IsStartOf, MayBegin, Start, names_at}
use Rattle.rec_play.specs.Playing.{all_turns, generator_of, mutators_of, number_of_actor, order, to_come}
use Rattle.rec_play.specs.Run.{HasCommand, IsPlayedRun, EndsTurn, commands_of, made_in}
use Rattle.rec_play.proofs.Due.{commands_are, few_mutators, has_command, is_of_script, lengths_at, none_made, order_is}
use Rattle.rec_play.proofs.Going.{Went, actors_swept, begun, line_other, line_own, line_swept, turns_are_lines, went_command, went_step}
use Rattle.rec_play.proofs.Opened.{IsPlayedLegally, played_legally}
use Rattle.rec_play.proofs.Room.{no_log_full}
use Rattle.rec_play.proofs.Orders.{order_names, order_length, collectors, collectors_few}
use Rattle.rec_play.proofs.There.{begun_there}

-- each mutator has made as many commands as were answered
abbrev AreCounted : ScriptContents → (made : List ℕ) → List Event → Type 0
AreCounted script made events = (t : ℕ) → 1 ≤ t → t ≤ length script.commands → made_by made t ≡ made_in events t

-- A command more is counted.
pub counted_more : (script : ScriptContents) (made : List ℕ) (events : List Event) (t : ℕ) (line : Line) → 1 ≤ t → t - 1 < length made → AreCounted script made events
    → AreCounted script (slice_set made (t - 1) (made_by made t + 1)) (events ++ Answers t line ∷ [])
counted_more script made events t line first there so s some most = elim (cases_eq t s) [
  | inl same ↦
      let P : ℕ → Type 0 = λ x. made_by (slice_set made (t - 1) (made_by made t + 1)) x ≡ made_in (events ++ Answers t line ∷ []) x in
      let mine : made_by (slice_set made (t - 1) (made_by made t + 1)) t ≡ made_by made t + 1 = get_or-set_same made (t - 1) (made_by made t + 1) 0 there in
      let longer : made_in (events ++ Answers t line ∷ []) t ≡ made_in events t + 1 = ap length (line_own events t line) ∙ length_push (filter_map (line_by t) events) line in
      subst P same (omega (arith, mine, longer, so t first (subst (λ x. x ≤ length script.commands) (sym same) most)))
  | inr other ↦
      let stays : made_by (slice_set made (t - 1) (made_by made t + 1)) s ≡ made_by made s = get_or-set_other made (t - 1) (s - 1) (made_by made t + 1) 0 (λ at. other (omega (arith, at, first, some))) in
      stays ∙ so s some most ∙ sym (ap length (line_other events t s line other))
]

-- The run goes on with a command,
pub run_made : (script : ScriptContents) (first : Core) (named : Naming) (made : List ℕ) (acted : List Actor) (events : List Event) (n k : Naming) (before after : Core) (t : ℕ) (cmd : Cmd) (told : Told) → AreCounted script made events
    → Carries script t (made_by made t) before cmd told after → NamesGoOn before after (cmd, told) n k → IsPlayedRun script first named acted events n before
    → IsPlayedRun script first named (acted ++ Mutator t ∷ []) (events ++ Answers t (cmd, told) ∷ []) k after
run_made script first named made acted events n k before after t cmd told counted carries names run =
    let there : HasCommand script t (made_by made t) = has_command script t (made_by made t) cmd carries.next in
    IsPlayedRun.turn acted events n k before after t cmd told run
    (record {
      next = subst (λ m. slice_get (commands_of script t) m ≡ Some cmd) (counted t there.some there.most) carries.next;
      polled = carries.polled;
      poll = carries.poll;
      command = carries.command;
      answer = carries.answer;
      not_yet = carries.not_yet;
      full = carries.full;
    })
    names

-- and with a step of the collector.
pub run_stepped : (script : ScriptContents) (first : Core) (named : Naming) (made : List ℕ) (acted : List Actor) (events : List Event) (n : Naming) (before after : Core) → before.config ≡ config_of script → IsKept false before → AreCounted script made events
    → Follows (IsSpent script made) before after → IsPlayedRun script first named acted events n before → IsPlayedRun script first named (acted ++ Collector ∷ []) (events ++ swept_by n (next_of before.collector)) n after
run_stepped script first named made acted events n before after config kept counted follows run = IsPlayedRun.collects acted events n before after run (go follows)
  where
    go : Follows (IsSpent script made) before after → EndsTurn script (made_in events) before (turned before) after
    go (Follows.polls t awaited same spent polled) =
        let (some, most) = is_of_script script before t config awaited.there in
        EndsTurn.polls t awaited.waits (subst (λ m. length (commands_of script t) ≤ m) (counted t some most) spent) (subst (λ (x : Core). IsWorked x t works.Poll after) (sym same) polled.worked)
    go (Follows.rests left is) =
        EndsTurn.rests
        (λ t waits.
        let (some, most) = is_of_script script before t config (looked_is before (Looking t) kept waits.looks) in
        elim (cases_lt (made_in events t) (length (commands_of script t))) [
          | inl less ↦ less
          | inr all ↦ absurd (left t waits (subst (λ m. length (commands_of script t) ≤ m) (sym (counted t some most)) all))
        ]) is

-- The answers of a run stand in the order of its turns.
pub acts_named : (script : ScriptContents) (first : Core) (named : Naming) (acted : List Actor) (events : List Event) (n : Naming) (w : Core) → IsPlayedRun script first named acted events n w → actors events ≡ mutators_of acted
acts_named script first named _ _ _ _ IsPlayedRun.starts = refl
acts_named script first named _ _ _ _ (IsPlayedRun.turn acted events n k before after t cmd told run is names) =
    filter_map-append actor events (Answers t (cmd, told) ∷ []) ∙ ap (λ ts. ts ++ t ∷ []) (acts_named script first named acted events n before run) ∙ sym (filter_map-append number_of_actor acted (Mutator t ∷ []))
acts_named script first named _ _ _ _ (IsPlayedRun.collects acted events n before after run ends) =
    actors_swept events n before ∙ acts_named script first named acted events n before run ∙ sym (filter_map-append number_of_actor acted (Collector ∷ []) ∙ append-nil (mutators_of acted))

-- the notes of a mutator, by its index
abbrev pub notes_at : List Notes → ℕ → Notes
notes_at journals i = slice_index_or journals i no_notes

-- the journal at an index is the mutator's
pub journal_is : (journals : List Notes) (index t : ℕ) (d : Notes) → index ≡ t → 0 < t → t ≤ length journals → slice_index_or journals (index - 1) d ≡ notes_at journals (t - 1)
journal_is journals index t d same some there =
    ap (λ n. slice_index_or journals (n - 1) d) same
    ∙ get_or_from_slice_get journals (t - 1) (notes_at journals (t - 1)) d (slice_get-get_or journals (t - 1) no_notes (omega arith))

-- what was played so far, what is to come, and what room is left
pub record Between (script : ScriptContents) (first : Core) (named : Naming) (seed turns : ℕ) (world : Core) (journals : List Notes) (noted : Turns) (p : Player) : Type 0 where
  pub of : p.script ≡ script
  pub kept : IsWorld world
  pub idle : AreIdle world
  pub present : AreThere p.script p.made world
  pub long : length p.made ≡ MOST_MUTATORS
  pub config : world.config ≡ config_of script
  -- the turns so far, and the run that they make up
  pub acted : List Actor
  pub all : acted ++ to_come p.rest ≡ all_turns (lengths_of script) seed turns
  pub events : List Event
  pub names : Naming
  pub run : IsPlayedRun script first named acted events names world
  pub went : Went script first named events names world
  pub counted : AreCounted script p.made events
  -- the journals and the order tell it
  pub one_each : length journals ≡ length script.commands
  pub lines : (t : ℕ) → 0 < t → filter_map (line_by t) events ≡ (notes_at journals (t - 1)).lines
  pub order_so : noted.list ≡ mutators_of acted
  pub journal_room : (t : ℕ) → length (commands_of script t) ≤ (notes_at journals (t - 1)).room + made_in events t
  pub order_room : sum (lengths_of script) ≤ noted.room + length noted.list
  -- each turn of the collector that is to come may request one epoch more
  pub epochs : world.epoch + collectors (to_come p.rest) ≤ first.epoch + turns

-- Before the first turn.
pub start : (script : ScriptContents) (first : Core) (named : Naming) (seed turns : ℕ) (journals : List Notes) (noted : Turns) (p : Player) → IsScript script → MayBegin script first → IsWorld first
    → AreReady script.commands journals → noted.list ≡ [] → sum (lengths_of script) ≤ noted.room
    → p.script ≡ script → p.rest ≡ record { left = lengths_of script; generator = generator_of seed; turns = turns } → p.made ≡ replicate MOST_MUTATORS 0
    → Between script first named seed turns first journals noted p
start script first named seed turns journals noted p valid begins world ready none room of rest made =
    record {
      of = of;
      kept = world;
      idle = begins.idle;
      present = subst (λ (s : ScriptContents). AreThere s p.made first) (sym of) (begun_there script p.made first begins);
      long = ap length made;
      config = begins.config;
      acted = [];
      all = ap to_come rest;
      events = [];
      names = named;
      run = IsPlayedRun.starts;
      went = begun script first named valid begins.config (world_kept first world);
      counted = λ t some most. ap (λ ns. made_by ns t) made ∙ none_made t;
      one_each = ready.one_each;
      lines = λ t some. sym (elim (cases_lt (t - 1) (length journals)) [
        | inl there ↦ All-get_or (λ (j : Notes). j.lines ≡ []) journals (t - 1) no_notes there ready.empty
        | inr past ↦ ap (λ (j : Notes). j.lines) (get_or_past journals (t - 1) no_notes past)
      ]);
      order_so = none;
      journal_room = room_for;
      order_room = omega (arith, room);
      epochs = let few : collectors (to_come p.rest) ≤ turns = subst (λ r. collectors (to_come r) ≤ turns) (sym rest) (collectors_few (lengths_of script) seed turns) in omega (arith, few);
    }
  where
    room_for : (t : ℕ) → length (commands_of script t) ≤ (notes_at journals (t - 1)).room + 0
    room_for zero = omega arith
    room_for (suc i) = subst (λ n. length (slice_index_or script.commands i []) ≤ (notes_at journals n).room + 0) (let same : i ≡ suc i - 1 = omega arith in same) (omega (arith, ready.room i))

-- the mutator whose turn was made, and the room to note it
pub record HasRoom (script : ScriptContents) (journals : List Notes) (noted : Turns) (t : ℕ) : Type 0 where
  pub some : 0 < t
  pub there : t ≤ length journals
  pub journal_room : 0 < (notes_at journals (t - 1)).room
  pub order_room : 0 < noted.room

-- A mutator's turn was made.
module _ (script : ScriptContents) (first : Core) (named : Naming) (seed turns : ℕ) (before after : Core) (journals : List Notes) (noted : Turns) (p q : Player) (t : ℕ) (cmd : Cmd) (told : Told)
    (so : Between script first named seed turns before journals noted p) (makes : MakesCommand p q before after t cmd told) where
  carries : Carries script t (made_by p.made t) before cmd told after
  carries = subst (λ s. Carries s t (made_by p.made t) before cmd told after) so.of makes.carries

  there : HasCommand script t (made_by p.made t)
  there = has_command script t (made_by p.made t) cmd carries.next

  counted : made_by p.made t ≡ made_in so.events t
  counted = so.counted t there.some there.most

  -- there is room to note it
  pub has_room : HasRoom script journals noted t
  has_room =
      let long : length (mutators_of so.acted ++ mutators_of (to_come p.rest)) ≡ sum (lengths_of script) = ap length (order_is (lengths_of script) seed turns so.acted (to_come p.rest) so.all) ∙ order_length (lengths_of script) seed turns in
      let more : length (mutators_of (to_come p.rest)) ≡ suc (length (mutators_of (to_come q.rest))) = ap (λ actors. length (mutators_of actors)) makes.turn in
      record {
        some = there.some;
        there = omega (arith, there.most, so.one_each);
        journal_room = omega (arith, so.journal_room t, there.next, counted);
        order_room = omega (arith, so.order_room, ap length so.order_so, long, more, length-append (mutators_of so.acted) (mutators_of (to_come p.rest)));
      }

  -- It was noted.
  pub command_made : (notes : Notes) (more : Turns) → notes.lines ≡ (notes_at journals (t - 1)).lines ++ (cmd, told) ∷ [] → notes.room ≡ (notes_at journals (t - 1)).room - 1
      → more.list ≡ noted.list ++ t ∷ [] → more.room ≡ noted.room - 1 → q.script ≡ p.script → length q.made ≡ MOST_MUTATORS → IsWorld after → AreIdle after → AreThere q.script q.made after → after.config ≡ config_of script → Between script first named seed turns after (slice_set journals (t - 1) notes) more q
  command_made notes more line room list less same long kept idle present config =
      let stays : (mutator before t).left ≡ false = subst (λ (s : ScriptContents). AreThere s p.made before) so.of so.present t there.next in
      let (k, names, went) = went_command script first named so.events so.names before after t cmd told so.kept so.idle stays (subst (λ m. Carries script t m before cmd told after) counted carries) so.went in
      let index : t - 1 < length journals = omega (arith, there.some, there.most, so.one_each) in
      let mine : made_in (so.events ++ Answers t (cmd, told) ∷ []) t ≡ made_in so.events t + 1 = ap length (line_own so.events t (cmd, told)) ∙ length_push (filter_map (line_by t) so.events) (cmd, told) in
      let here : notes_at (slice_set journals (t - 1) notes) (t - 1) ≡ notes = get_or-set_same journals (t - 1) notes no_notes index in
      let room_for : HasRoom script journals noted t = has_room in
      record {
        of = same ∙ so.of;
        kept = kept;
        idle = idle;
        present = present;
        long = long;
        config = config;
        acted = so.acted ++ Mutator t ∷ [];
        all = append_assoc so.acted (Mutator t ∷ []) (to_come q.rest) ∙ ap (λ later. so.acted ++ later) (sym makes.turn) ∙ so.all;
        events = so.events ++ Answers t (cmd, told) ∷ [];
        names = k;
        run = run_made script first named p.made so.acted so.events so.names k before after t cmd told so.counted carries names so.run;
        went = went;
        counted = subst (λ made. AreCounted script made (so.events ++ Answers t (cmd, told) ∷ [])) (sym makes.made) (counted_more script p.made so.events t (cmd, told) there.some (omega (arith, there.some, there.most, few_mutators script so.went.valid, so.long)) so.counted);
        one_each = length-set journals (t - 1) notes ∙ so.one_each;
        lines = λ s some. elim (cases_eq t s) [
          | inl at ↦
              let P : ℕ → Type 0 = λ x. filter_map (line_by x) (so.events ++ Answers t (cmd, told) ∷ []) ≡ (notes_at (slice_set journals (t - 1) notes) (x - 1)).lines in
              subst P at (line_own so.events t (cmd, told) ∙ ap (λ ls. ls ++ (cmd, told) ∷ []) (so.lines t there.some) ∙ sym line ∙ ap (λ (j : Notes). j.lines) (sym here))
          | inr other ↦
              line_other so.events t s (cmd, told) other ∙ so.lines s some
              ∙ ap (λ (j : Notes). j.lines) (sym (get_or-set_other journals (t - 1) (s - 1) notes no_notes (λ at. other (omega (arith, at, there.some, some)))))
        ];
        order_so = list ∙ ap (λ ts. ts ++ t ∷ []) so.order_so ∙ sym (filter_map-append number_of_actor so.acted (Mutator t ∷ []));
        journal_room = λ s. elim (cases_eq (t - 1) (s - 1)) [
          | inl at ↦ rooms s at
          | inr other ↦
              subst (λ (j : Notes). length (commands_of script s) ≤ j.room + made_in (so.events ++ Answers t (cmd, told) ∷ []) s) (sym (get_or-set_other journals (t - 1) (s - 1) notes no_notes (λ at. other (sym at))))
              (omega (arith, so.journal_room s, ap length (line_other so.events t s (cmd, told) (λ at. other (ap (λ n. n - 1) at)))))
        ];
        order_room = omega (arith, so.order_room, room_for.order_room, less, ap length list, length_push noted.list t);
        epochs = omega (arith, so.epochs, ap collectors makes.turn, makes.requested);
      }
    where
      rooms : (s : ℕ) → t - 1 ≡ s - 1 → length (commands_of script s) ≤ (notes_at (slice_set journals (t - 1) notes) (s - 1)).room + made_in (so.events ++ Answers t (cmd, told) ∷ []) s
      rooms zero at = omega arith
      rooms (suc i) at =
          let P : ℕ → Type 0 = λ x. length (commands_of script x) ≤ (notes_at (slice_set journals (t - 1) notes) (x - 1)).room + made_in (so.events ++ Answers t (cmd, told) ∷ []) x in
          let here : notes_at (slice_set journals (t - 1) notes) (t - 1) ≡ notes = get_or-set_same journals (t - 1) notes no_notes (omega (arith, there.some, there.most, so.one_each)) in
          let longer : made_in (so.events ++ Answers t (cmd, told) ∷ []) t ≡ made_in so.events t + 1 = ap length (line_own so.events t (cmd, told)) ∙ length_push (filter_map (line_by t) so.events) (cmd, told) in
          subst P (let same : t ≡ suc i = omega (arith, at, there.some) in same)
          (subst (λ (j : Notes). length (commands_of script t) ≤ j.room + made_in (so.events ++ Answers t (cmd, told) ∷ []) t) (sym here) (omega (arith, so.journal_room t, has_room.journal_room, room, longer)))

-- A turn of the collector was made.
pub step_made : (script : ScriptContents) (first : Core) (named : Naming) (seed turns : ℕ) (before after : Core) (journals : List Notes) (noted : Turns) (p q : Player) (seen : Option (Op × ℕ)) (turn : Turn) → MakesStep p q before after seen turn
    → q.script ≡ p.script → IsWorld after → AreIdle after → AreThere q.script q.made after → after.config ≡ config_of script → Between script first named seed turns before journals noted p → Between script first named seed turns after journals noted q
step_made script first named seed turns before after journals noted p q seen turn makes same world idle present config so =
    let follows : Follows (IsSpent script p.made) before after = subst (λ s. Follows (IsSpent s p.made) before after) so.of makes.steps.follows in
    let kept : IsKept false before = world_kept before so.kept in
    record {
      of = same ∙ so.of;
      kept = world;
      idle = idle;
      present = present;
      long = ap length makes.made ∙ so.long;
      config = config;
      acted = so.acted ++ Collector ∷ [];
      all = append_assoc so.acted (Collector ∷ []) (to_come q.rest) ∙ ap (λ later. so.acted ++ later) (sym makes.turn_so) ∙ so.all;
      events = so.events ++ swept_by so.names (next_of before.collector);
      names = so.names;
      run = run_stepped script first named p.made so.acted so.events so.names before after so.config kept so.counted follows so.run;
      went = went_step script first named (IsSpent script p.made) so.events so.names before after kept so.idle follows so.went;
      counted = λ t some most. ap (λ made. made_by made t) makes.made ∙ so.counted t some most ∙ sym (ap length (line_swept so.events so.names before t));
      one_each = so.one_each;
      lines = λ t some. line_swept so.events so.names before t ∙ so.lines t some;
      order_so = so.order_so ∙ sym (filter_map-append number_of_actor so.acted (Collector ∷ []) ∙ append-nil (mutators_of so.acted));
      journal_room = λ t. omega (arith, so.journal_room t, ap length (line_swept so.events so.names before t));
      order_room = so.order_room;
      epochs = omega (arith, so.epochs, ap collectors makes.turn_so, makes.requested);
    }

-- the lines of a journal
lines_at : (journals : List Notes) (i : ℕ) → slice_index_or (lines_of journals) i [] ≡ (notes_at journals i).lines
lines_at journals i = elim (cases_lt i (length journals)) [
  | inl there ↦ get_or-map (λ (j : Notes). j.lines) journals i no_notes [] there
  | inr past ↦
      get_or_past (lines_of journals) i [] (subst (λ n. n ≤ i) (sym (length-map journals (λ (j : Notes). j.lines))) past)
      ∙ sym (ap (λ (j : Notes). j.lines) (get_or_past journals i no_notes past))
]

-- A step of the collector was made, and nothing behind it.
pub run_stopped : (script : ScriptContents) (first : Core) (named : Naming) (seed turns : ℕ) (world : Core) (journals : List Notes) (noted : Turns) (p : Player) (later : List Actor) (after : Core) → to_come p.rest ≡ Collector ∷ later → after ≡ turned world
    → Between script first named seed turns world journals noted p → IsStopped script first named seed turns (lines_of journals) noted.list after
run_stopped script first named seed turns world journals noted p later after next is so =
    record {
      acted = so.acted;
      later = later;
      all = ap (λ t. so.acted ++ t) (sym next) ∙ so.all;
      events = so.events;
      names = so.names;
      before = world;
      run = so.run;
      stopped = is;
      one_each = length-map journals (λ (j : Notes). j.lines) ∙ so.one_each;
      lines = λ t some. so.lines t some ∙ sym (lines_at journals (t - 1));
      order_so = so.order_so;
    }

-- After the last turn.
module _ (script : ScriptContents) (first : Core) (named : Naming) (seed turns : ℕ) (world : Core) (journals : List Notes) (noted : Turns) (p : Player) (none : to_come p.rest ≡ []) (so : Between script first named seed turns world journals noted p) where
  -- the order is the rule's
  named_all : mutators_of so.acted ≡ order (lengths_of script) seed turns
  named_all = sym (append-nil (mutators_of so.acted)) ∙ ap (λ later. mutators_of so.acted ++ mutators_of later) (sym none) ∙ order_is (lengths_of script) seed turns so.acted (to_come p.rest) so.all

  pub order_made : noted.list ≡ order (lengths_of script) seed turns
  order_made = so.order_so ∙ named_all

  -- all commands were made
  all_commands : (t : ℕ) → 1 ≤ t → t ≤ length script.commands → made_in so.events t ≡ length (commands_of script t)
  all_commands t some most =
      sym (turns_are_lines t so.events) ∙ ap (times t) (acts_named script first named so.acted so.events so.names world so.run ∙ named_all) ∙ (order_names (lengths_of script) seed turns).each t some ∙ lengths_at script t some most

  one_each : length (lines_of journals) ≡ length script.commands
  one_each = length-map journals (λ (j : Notes). j.lines) ∙ so.one_each

  -- the lines of a mutator are those of its journal
  own : (t : ℕ) → 0 < t → filter_map (line_by t) so.events ≡ slice_index_or (lines_of journals) (t - 1) []
  own t some = so.lines t some ∙ sym (lines_at journals (t - 1))

  commands : map (map (λ (line : Line). line.0)) (lines_of journals) ≡ script.commands
  commands =
      ext_get_or [] (map (map (λ (line : Line). line.0)) (lines_of journals)) script.commands (length-map (lines_of journals) (map (λ (line : Line). line.0)) ∙ one_each)
      (λ i within.
      let there : i < length (lines_of journals) = omega (arith, within, length-map (lines_of journals) (map (λ (line : Line). line.0))) in
      let same : i ≡ i + 1 - 1 = omega arith in
      get_or-map (map (λ (line : Line). line.0)) (lines_of journals) i [] [] there
      ∙ ap (λ n. map (λ (line : Line). line.0) (slice_index_or (lines_of journals) n [])) same
      ∙ ap (map (λ (line : Line). line.0)) (sym (own (i + 1) (omega arith)))
      ∙ so.went.commands (i + 1)
      ∙ take_all (made_in so.events (i + 1)) (commands_of script (i + 1)) (omega (arith, all_commands (i + 1) (omega arith) (omega (arith, there, one_each))))
      ∙ commands_are script (i + 1) (omega arith)
      ∙ ap (λ n. slice_index_or script.commands n []) (sym same))

-- And from a start that stands for the first heap.
module _ (script : ScriptContents) (at : Start) (seed turns : ℕ) (world : Core) (journals : List Notes) (noted : Turns) (p : Player) (none : to_come p.rest ≡ []) (is : IsStartOf script at)
    (so : Between script at.world (names_at at) seed turns world journals noted p) where
  pub legally : IsPlayedLegally script at world (lines_of journals) so.events so.names
  legally = played_legally script at world (lines_of journals) so.events so.names is (one_each script at.world (names_at at) seed turns world journals noted p none so)
      (own script at.world (names_at at) seed turns world journals noted p none so) so.went

  pub all_played : IsPlayed script at seed turns (lines_of journals) so.events world
  all_played =
      let so_commands : map (map (λ (line : Line). line.0)) (lines_of journals) ≡ script.commands = commands script at.world (names_at at) seed turns world journals noted p none so in
      record {
        commands = so_commands;
        legal = legally.legal;
        in_order = acts_named script at.world (names_at at) so.acted so.events so.names world so.run ∙ named_all script at.world (names_at at) seed turns world journals noted p none so;
        names = so.names;
        run = subst (λ actors. IsPlayedRun script at.world (names_at at) actors so.events so.names world) (sym (append-nil so.acted) ∙ ap (λ later. so.acted ++ later) (sym none) ∙ so.all) so.run;
        stands = legally.stands;
        unfreed = legally.unfreed;
        no_log_full = no_log_full script at (lines_of journals) so.events so_commands legally.legal;
      }

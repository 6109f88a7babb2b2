-- A walk goes on by the turns of its run, and then of settling.
use Rattle.std.proofs.Common.{◌≡◌, inl, inr, ℕ, ◌+◌, ◌<◌, ◌≤◌, [], ◌∷◌, ◌++◌, Option, length, replicate, refl, sym, ap, subst, ◌∙◌, arith}
use Rattle.std.proofs.lemmas.List.{append-nil, append_assoc}
use Rattle.rec_word.specs.declared.word.TheConstants.{LAST_EPOCH}
use Rattle.rec_word.specs.declared.op.Op.{Op}
use Rattle.rec_model.specs.declared.limits.TheConstants.{MOST_MUTATORS}
use Rattle.rec_model.specs.LegalOrder.Event.{Answers}
use Rattle.rec_collector.specs.Next.{next_of}
use Rattle.rec_collector.specs.declared.turn.Turn.{Turn}
use Rattle.rec_core.specs.Core.{Core, opened}
use Rattle.rec_core.specs.Worked.{AreIdle}
use Rattle.rec_order.specs.Events.{swept_by}
use Rattle.rec_order.specs.Naming.{first_naming}
use Rattle.rec_core.specs.Turn.{step_seen}
use Rattle.rec_world.specs.World.{IsWorld}
use Rattle.rec_world.proofs.Calls.{world_kept}
use Rattle.rec_script.specs.Script.{ScriptContents}
use Rattle.rec_settle.specs.Collecting.{Anyone, Follows, HasStepped}
use Rattle.rec_settle.specs.Left.{left_in}
use Rattle.rec_settle.specs.Stages as settling
use Rattle.rec_settle.specs.Stages.{HasCome}
use Rattle.rec_settle.specs.declared.turns.Settling as to_settle
use Rattle.rec_settle.specs.declared.turns.Settling.TheVariants.{Finishing}
use Rattle.rec_settle.proofs.Coming.{first_left, offered_config}
use Rattle.rec_play.specs.Left.{left_at, moves_left}
use Rattle.rec_play.specs.Moves.{AreDue, AreThere, IsSpent, Makes, Player, made_by}
use Rattle.rec_play.specs.Numbers.{config_of}
use Rattle.rec_play.specs.Played.{lengths_of}
use Rattle.rec_play.specs.Playing.{Rest, generator_of, to_come}
use Rattle.rec_play.specs.Run.{HasCommand, IsPlayedRun, made_in}
use Rattle.rec_play.specs.Watched.{HasPlayed, IsSettlingAt, IsAt, IsPlaying, IsWatched, Tells, Watched, offered, player_of}
use Rattle.rec_play.specs.declared.actor.Actor.TheVariants.{Mutator, Collector}
use Rattle.rec_play.specs.declared.moves.Move.{Move}
use Rattle.rec_play.specs.declared.moves.Move.TheVariants.{Command, Step}
use Rattle.rec_play.specs.declared.stage.Stage.TheVariants.{Playing, Settling, EpochsSpent}
use Rattle.rec_play.proofs.Due.{all_made, few_mutators, has_command, is_of_script, none_made}
use Rattle.rec_play.proofs.Going.{line_swept}
use Rattle.rec_play.proofs.Rounds.{counted_more, run_made, run_stepped}
use Rattle.rec_play.proofs.Opened.{opened_begins}
use Rattle.rec_play.proofs.There.{begun_there, spent_there}

-- while the rule gives turns
playing_of : (w : Watched) → w.stage ≡ Playing → IsWatched w → IsPlaying w
playing_of w playing is = subst (λ s. IsAt s w) playing is.at

-- A turn of the rule was made.
module _ (w : Watched) (q : Player) (world : Core) (playing : w.stage ≡ Playing) (is : IsWatched w) (same : q.script ≡ w.script) (due : AreDue q) (idle : AreIdle world) (present : AreThere q.script q.made world) (config : world.config ≡ config_of q.script) (kept : IsWorld world) where
  abbrev next : Watched
  next = record w { script = q.script; rest = q.rest; made = q.made; world = world }

  so : IsPlaying w
  so = playing_of w playing is

  -- the run that the turns make up goes on so
  played_on : (move : Move) → Makes (player_of w) q w.world world move → IsPlaying (record w { rest = q.rest; made = q.made; world = world })
  played_on (Command t cmd told) makes =
      let there : HasCommand w.script t (made_by w.made t) = has_command w.script t (made_by w.made t) cmd makes.carries.next in
      let (k, names) = makes.carries.names so.names in
      record {
        acted = so.acted ++ Mutator t ∷ [];
        all = append_assoc so.acted (Mutator t ∷ []) (to_come q.rest) ∙ ap (λ later. so.acted ++ later) (sym makes.turn) ∙ so.all;
        events = so.events ++ Answers t (cmd, told) ∷ [];
        names = k;
        run = run_made w.script (opened (config_of w.script)) first_naming w.made so.acted so.events so.names k w.world world t cmd told so.counted makes.carries names so.run;
        counted = subst (λ made. (s : ℕ) → 1 ≤ s → s ≤ length w.script.commands → made_by made s ≡ made_in (so.events ++ Answers t (cmd, told) ∷ []) s) (sym makes.made)
            (counted_more w.script w.made so.events t (cmd, told) there.some (omega (arith, there.some, there.most, few_mutators w.script is.due.valid, is.due.long)) so.counted);
      }
  played_on (Step seen turn) makes = record {
    acted = so.acted ++ Collector ∷ [];
    all = append_assoc so.acted (Collector ∷ []) (to_come q.rest) ∙ ap (λ later. so.acted ++ later) (sym makes.turn_so) ∙ so.all;
    events = so.events ++ swept_by so.names (next_of w.world.collector);
    names = so.names;
    run = run_stepped w.script (opened (config_of w.script)) first_naming w.made so.acted so.events so.names w.world world is.config (world_kept w.world is.kept) so.counted makes.steps.follows so.run;
    counted = λ t some most. ap (λ made. made_by made t) makes.made ∙ so.counted t some most ∙ sym (ap length (line_swept so.events so.names w.world t));
  }

  pub turn_made : (move : Move) → Makes (player_of w) q w.world world move → IsWatched next
  turn_made move makes =
      let now : IsPlaying (record w { rest = q.rest; made = q.made; world = world }) = played_on move makes in
      subst (λ s. AreDue (record { script = s; rest = q.rest; made = q.made }) → AreThere s q.made world → world.config ≡ config_of s → IsWatched (record w { script = s; rest = q.rest; made = q.made; world = world })) (sym same)
      (λ due present config. record {
        at = subst (λ s. IsAt s (record w { rest = q.rest; made = q.made; world = world })) (sym playing) now;
        rule = is.rule;
        due = due;
        idle = idle;
        present = present;
        config = config;
        kept = kept;
      }) due present config

  -- and it is told
  pub turn_tells : (move : Move) → Makes (player_of w) q w.world world move → Tells w next move
  turn_tells (Command t cmd told) makes = record { playing = playing; makes = record { turn = makes.turn; carries = makes.carries; made = makes.made; requested = makes.requested } }
  turn_tells (Step seen turn) makes = record {
    turn_so = λ _. inl makes.turn_so;
    is = subst (λ s. seen ≡ step_seen (offered s w.world)) (sym playing) makes.is;
    steps = subst (λ s. HasStepped (IsSpent w.script w.made) (offered s w.world) turn world) (sym playing) makes.steps;
    made = makes.made;
  }

-- The rule has no turn left.
module _ (w : Watched) (playing : w.stage ≡ Playing) (is : IsWatched w) (none : to_come w.rest ≡ []) where
  has_played : HasPlayed w w.world
  has_played =
      let so : IsPlaying w = playing_of w playing is in
      record {
        events = so.events;
        names = so.names;
        run = subst (λ acted. IsPlayedRun w.script (opened (config_of w.script)) first_naming acted so.events so.names w.world) (sym (append-nil so.acted) ∙ ap (λ later. so.acted ++ later) (sym none) ∙ so.all) so.run;
        all = all_made (player_of w) is.due none;
      }

  -- Settling begins,
  pub begins : (to : to_settle.Settling) → HasCome w.world to w.world → IsWatched (record w { stage = Settling to })
  begins to come = record {
    at = record { played = w.world; so = record { events = has_played.events; names = has_played.names; run = has_played.run; all = has_played.all }; come = come };
    rule = is.rule;
    due = is.due;
    idle = is.idle;
    present = is.present;
    config = is.config;
    kept = is.kept;
  }

  -- which is told as a step that no turn of the rule comes before,
  pub tells_first : (v : Watched) (to : to_settle.Settling) (move : Move) → settling.offered to w.world ≡ w.world → Tells (record w { stage = Settling to }) v move → Tells w v move
  tells_first v to (Command t cmd told) same h = absurd (let no : Settling to ≡ Playing = h.playing in cc)
  tells_first v to (Step seen turn) same h = record {
    turn_so = λ _. inr none;
    is = subst (λ s. seen ≡ step_seen (offered s w.world)) (sym playing) (h.is ∙ ap step_seen same);
    steps = subst (λ s. HasStepped (IsSpent w.script w.made) (offered s w.world) turn v.world) (sym playing) (subst (λ (x : Core). HasStepped (IsSpent w.script w.made) x turn v.world) same h.steps);
    made = h.made;
  }

  -- and nearer to the end;
  pub first_nearer : moves_left (record w { stage = Settling (Finishing w.world.epoch) }) < moves_left w
  first_nearer = omega (arith, first_left w.world (world_kept w.world is.kept), ap (λ s. left_at s w) playing)

  -- or too few epochs are left.
  pub spent : LAST_EPOCH < w.world.epoch + 4 → IsWatched (record w { stage = EpochsSpent })
  spent few = record {
    at = record { so = record { events = has_played.events; names = has_played.names; run = has_played.run; all = has_played.all }; few = few };
    rule = is.rule;
    due = is.due;
    idle = is.idle;
    present = is.present;
    config = is.config;
    kept = is.kept;
  }

-- A turn of settling was made.
module _ (w : Watched) (to next : to_settle.Settling) (world : Core) (stage : w.stage ≡ Settling to) (is : IsWatched w) where
  came : IsSettlingAt w to
  came = subst (λ s. IsAt s w) stage is.at

  pub come_on : ((first : Core) → HasCome first to w.world → HasCome first next world) → AreIdle world → world.config ≡ w.world.config → IsWorld world → IsWatched (record w { stage = Settling next; world = world })
  come_on goes idle config kept = record {
    at = record { played = came.played; so = record { events = came.so.events; names = came.so.names; run = came.so.run; all = came.so.all }; come = goes came.played came.come };
    rule = is.rule;
    due = is.due;
    idle = idle;
    present = spent_there w.script w.made world came.so.all;
    config = config ∙ is.config;
    kept = kept;
  }

  pub come_nearer : ((first : Core) → HasCome first to w.world → left_in next world < left_in to w.world) → moves_left (record w { stage = Settling next; world = world }) < moves_left w
  come_nearer nearer = omega (arith, nearer came.played came.come, ap (λ s. left_at s w) stage)

  -- Whoever polls has no command left.
  pub come_tells : (seen : Option (Op × ℕ)) (turn : Turn) → HasStepped Anyone (settling.offered to w.world) turn world → seen ≡ step_seen (settling.offered to w.world) → Tells w (record w { stage = Settling next; world = world }) (Step seen turn)
  come_tells seen turn steps is_seen = record {
    turn_so = λ playing. absurd (let no : Settling to ≡ Playing = sym stage ∙ playing in cc);
    is = subst (λ s. seen ≡ step_seen (offered s w.world)) (sym stage) is_seen;
    steps = subst (λ s. HasStepped (IsSpent w.script w.made) (offered s w.world) turn world) (sym stage) (record { cause = steps.cause; follows = follows steps.follows });
    made = refl;
  }
    where
      follows : Follows Anyone (settling.offered to w.world) world → Follows (IsSpent w.script w.made) (settling.offered to w.world) world
      follows (Follows.polls t awaited same done polled) =
          let (some, most) = is_of_script w.script (settling.offered to w.world) t (offered_config to w.world ∙ is.config) awaited.there in
          Follows.polls t awaited same (came.so.all t some most) polled
      follows (Follows.rests left same) = Follows.rests (λ t waits spent. left t waits tt) same

-- A walk is opened.
pub opens : (script : ScriptContents) (seed turns : ℕ) (w : Watched) → w.script ≡ script → w.stage ≡ Playing → w.rule ≡ record { left = lengths_of script; generator = generator_of seed; turns = turns }
    → w.rest ≡ record { left = lengths_of script; generator = generator_of seed; turns = turns } → w.made ≡ replicate MOST_MUTATORS 0 → w.world ≡ opened (config_of script) → AreDue (player_of w) → AreIdle w.world → IsWorld w.world → IsWatched w
opens script seed turns w of stage rule rest made world due idle kept = record {
  at = subst (λ s. IsAt s w) (sym stage) first;
  rule = record { seed = seed; turns = turns; is = rule ∙ ap (λ s. let r : Rest = record { left = lengths_of s; generator = generator_of seed; turns = turns } in r) (sym of) };
  due = due;
  idle = idle;
  present = subst (λ (s : ScriptContents). AreThere s w.made w.world) (sym of) (subst (AreThere script w.made) (sym world) (begun_there script w.made (opened (config_of script)) (opened_begins script)));
  config = ap (λ (x : Core). x.config) world ∙ ap config_of (sym of);
  kept = kept;
}
  where
    first : IsPlaying w
    first = record {
      acted = [];
      all = ap to_come (rest ∙ sym rule);
      events = [];
      names = first_naming;
      run = subst (λ s. IsPlayedRun s (opened (config_of s)) first_naming [] [] first_naming w.world) (sym of) (subst (IsPlayedRun script (opened (config_of script)) first_naming [] [] first_naming) (sym world) IsPlayedRun.starts);
      counted = λ t some most. ap (λ ns. made_by ns t) made ∙ none_made t;
    }

-- The order of a run so far, and one move more.
use Rattle.std.proofs.Common.{◌≡◌, ◌≢◌, inl, inr, ℕ, ◌+◌, ◌-◌, ◌<◌, ◌≤◌, List, [], ◌∷◌, ◌++◌, Option, None, Some, Bool, true, false, if◌then◌else◌, length, slice_index_or, refl, sym, ap, subst, ◌∙◌, arith, append_assoc}
use Rattle.std.specs.List.{slice_get}
use Rattle.std.proofs.lemmas.Bool.{cases_eq, ne_eqb}
use Rattle.std.proofs.lemmas.List.{append-nil, length-set, get_or-set_same, get_or-set_other}
use Rattle.rec_word.specs.Word.{stamp_of}
use Rattle.rec_word.specs.declared.op.Op.{Op}
use Rattle.rec_word.specs.declared.op.Op.TheVariants as ops
use Rattle.rec_word.specs.declared.stamps.Stamp.{Stamp}
use Rattle.rec_model.specs.declared.command.Cmd.{Cmd}
use Rattle.rec_model.specs.declared.command.Cmd.TheVariants as commands
use Rattle.rec_model.specs.declared.answer.Answer.{Answer}
use Rattle.rec_model.specs.declared.answer.Answer.TheVariants as answers
use Rattle.rec_model.specs.declared.told.Told.{Told}
use Rattle.rec_model.specs.Asking.{is_done, plain}
use Rattle.rec_model.specs.LegalOrder.{Line, Event, Limits, Moment, after, after_all, after_answer, bump, is_by, word_left, left_by, IsLegalOrder}
use Rattle.rec_model.specs.LegalOrder.Event.{Answers, Frees, Marks}
use Rattle.rec_model.specs.Sight.{IsTaken, StandsBy}
use Rattle.rec_model.proofs.Growing.{MayCome, legal_grows, frees_may_come, marks_may_come, after_all-grow, get_cases, with_line}
use Rattle.rec_mutator.specs.Causes.{HasCause, gives_back}
use Rattle.rec_mutator.specs.Private.{Private, is_busy, work_of, answer_of, answer_at}
use Rattle.rec_mutator.specs.Took.{begun_of}
use Rattle.rec_mutator.specs.declared.made.Made.{Made}
use Rattle.rec_mutator.specs.declared.made.Made.TheVariants as makes
use Rattle.rec_mutator.specs.declared.phase.Phase.{Phase}
use Rattle.rec_mutator.specs.declared.phase.Phase.TheVariants as at
use Rattle.rec_mutator.specs.declared.work.Work.{Work}
use Rattle.rec_mutator.specs.declared.work.Work.TheVariants as works
use Rattle.rec_mutator.proofs.Refusals.{leaving_cause}
use Rattle.rec_collector.specs.Next.{next_of}
use Rattle.rec_core.specs.RunAnswers.{answered_by, told_by}
use Rattle.rec_core.specs.Config.{IsMutator}
use Rattle.rec_core.specs.Core.{Core, sight, mutator, nobody, log_length}
use Rattle.rec_core.specs.Kept.{IsKept}
use Rattle.rec_core.specs.Moves.{Move, Fits, AllFit, after_move, after_moves, found_by, stepped, turned, begun_from, offering}
use Rattle.rec_core.specs.Pending.{epoch_at}
use Rattle.rec_core.specs.StepAnswers.{IsDecided, entries_after}
use Rattle.rec_core.specs.Swept.{SweepsNothing, IsSweep}
use Rattle.rec_core.specs.Swept.IsSweep.{rests, marks, frees}
use Rattle.rec_core.specs.declared.config.Config.{Config}
use Rattle.rec_core.proofs.Actors.{epoch_here}
use Rattle.rec_core.proofs.Asked.{begun_sight}
use Rattle.rec_core.proofs.Reach.{keeps_stands_by}
use Rattle.rec_core.proofs.Runs.{move_stays}
use Rattle.rec_core.proofs.Leaving.{IsStayingIn, leaves_or_stays, told_as}
use Rattle.rec_core.proofs.Showing.{IsStaying, Says, step_says, step_caused, leaving_decided, mutator_other}
use Rattle.rec_core.proofs.Steps.{in_list}
use Rattle.rec_core.proofs.BareRuns.{move_kept, turned_keeps, turned_sweeps}
use Rattle.rec_core.proofs.Turning.{turned_mutators}
use Rattle.rec_order.specs.Naming.{Naming, named_after, named_after_all}
use Rattle.rec_order.specs.Events.{swept_by, events_in, events_of}
use Rattle.rec_order.specs.Legal.{limits_of}
use Rattle.rec_order.proofs.Stamps.{HasEntry, Advances, IsUntold, IsSilent, entry_stays, untold_same, others_same, commanded_here, finished_here, step_advances, leaving_parts, leaving_advances, going_silent, stayed_silent, holding_silent, crossed_silent, parting_silent, begun_untold}
use Rattle.rec_order.proofs.NextAnswer.{step_may_come}
use Rattle.rec_order.proofs.Stands.{Stands, NamesOn, stands_unseen, stands_rested, stands_marked, stands_freed, stands_answered, marks_fit, frees_fit}
use Rattle.rec_order.proofs.Steps.{Meets, meets_grows, meets_born, own_meets, same_names, step_names}
use Rattle.std.specs.Option.{IfSome}

-- A legal order of what was told so far, what its last moment shows of the world, what each scan has met, and which stamps and
-- entries each mutator has.
pub record Ordered (limits : Limits) (start : Moment) (lines : List (List Line)) (events : List Event) (w : Core) (n : Naming) (home : ℕ → ℕ) : Type 0 where
  pub legal : IsLegalOrder limits start lines events
  pub stands : Stands w (after_all limits start events) n home
  pub meets : (t : ℕ) → IsMutator w.config t → Meets limits start events home n.next t (mutator w t).from (mutator w t).phase
  pub stamps : (i v : ℕ) (d : Event) → slice_get events i ≡ Some d → left_by d ≡ Some v → HasEntry w (stamp_of v)
  pub done : (t : ℕ) → IsMutator w.config t → log_length w t ≤ slice_index_or (after_all limits start events).done (t - 1) 0
  pub logs : length (after_all limits start events).done ≡ w.config.mutators
  pub journals : length lines ≡ w.config.mutators

module _ (limits : Limits) (start : Moment) where
  -- the order so far, with some journals and some homes
  abbrev pub HasOrder : List Event → Core → Naming → Type 0
  HasOrder events w n = (lines : List (List Line)) × (home : ℕ → ℕ) × Ordered limits start lines events w n home

  -- a move that tells nothing
  untold_order : (lines : List (List Line)) (events : List Event) (w v : Core) (n : Naming) (home : ℕ → ℕ) → IsUntold w v → Stands v (after_all limits start events) n home
      → ((t : ℕ) → IsMutator w.config t → Meets limits start events home n.next t (mutator v t).from (mutator v t).phase) → Ordered limits start lines events w n home → Ordered limits start lines events v n home
  untold_order lines events w v n home done stands meets so =
      record {
        legal = so.legal;
        stands = stands;
        meets = λ t is. meets t (subst (λ (c : Config). IsMutator c t) done.config is);
        stamps = λ i word d there left. entry_stays w v (stamp_of word) done.config done.advances (so.stamps i word d there left);
        done = λ t is.
            let old : log_length w t ≤ slice_index_or (after_all limits start events).done (t - 1) 0 = so.done t (subst (λ (c : Config). IsMutator c t) done.config is) in
            let less : log_length v t ≤ log_length w t = done.logged t is.0 in
            omega (arith, old, less);
        logs = so.logs ∙ ap (λ (c : Config). c.mutators) (sym done.config);
        journals = so.journals ∙ ap (λ (c : Config). c.mutators) (sym done.config);
      }

  -- a turn of the collector that tells an event
  told_order : (lines : List (List Line)) (events : List Event) (w v : Core) (n : Naming) (home : ℕ → ℕ) (e : Event) → ((t : ℕ) → is_by t e ≡ false) → left_by e ≡ None
      → (after limits (after_all limits start events) e).done ≡ (after_all limits start events).done → IsLegalOrder limits start lines (events ++ e ∷ []) → v.config ≡ w.config → v.mutators ≡ w.mutators
      → Stands v (after limits (after_all limits start events) e) n home → Ordered limits start lines events w n home → Ordered limits start lines (events ++ e ∷ []) v n home
  told_order lines events w v n home e nobody_ no_word done legal config mutators stands so =
      let untold : IsUntold w v = untold_same w v config mutators in
      let last : after_all limits start (events ++ e ∷ []) ≡ after limits (after_all limits start events) e = after_all-grow limits start events e in
      let same_done : (after_all limits start (events ++ e ∷ [])).done ≡ (after_all limits start events).done = ap (λ (m : Moment). m.done) last ∙ done in
      record {
        legal = legal;
        stands = subst (λ (m : Moment). Stands v m n home) (sym last) stands;
        meets = λ t is.
            let same : mutator v t ≡ mutator w t = ap (λ (ps : List Private). slice_index_or ps (t - 1) nobody) mutators in
            subst (λ (p : Private). Meets limits start (events ++ e ∷ []) home n.next t p.from p.phase) (sym same)
            (meets_grows limits start events home n.next t (mutator w t).from e (mutator w t).phase (nobody_ t) (so.meets t (subst (λ (c : Config). IsMutator c t) config is)));
        stamps = λ i word d there left. elim (get_cases events e i d there) [
          | inl old ↦ entry_stays w v (stamp_of word) untold.config untold.advances (so.stamps i word d old left)
          | inr new ↦ absurd (let none : left_by d ≡ None = ap left_by (sym new.1) ∙ no_word in cc)
        ];
        done = λ t is.
            let old : log_length w t ≤ slice_index_or (after_all limits start events).done (t - 1) 0 = so.done t (subst (λ (c : Config). IsMutator c t) config is) in
            let less : log_length v t ≤ log_length w t = untold.logged t is.0 in
            let same : slice_index_or (after_all limits start (events ++ e ∷ [])).done (t - 1) 0 ≡ slice_index_or (after_all limits start events).done (t - 1) 0 = ap (λ ns. slice_index_or ns (t - 1) 0) same_done in
            omega (arith, old, less, same);
        logs = ap (λ (ns : List ℕ). length ns) same_done ∙ so.logs ∙ ap (λ (c : Config). c.mutators) (sym config);
        journals = so.journals ∙ ap (λ (c : Config). c.mutators) (sym config);
      }

  -- A turn of the collector.
  -- an operation that has no part in a sweep tells nothing
  swept_nothing : (n : Naming) (op : Option Op) → SweepsNothing op → swept_by n op ≡ []
  swept_nothing n (Some ops.AddFreed) nothing = absurd nothing
  swept_nothing n (Some (ops.FreeHeader slot)) nothing = absurd nothing
  swept_nothing n _ nothing = refl

  -- the order over a turn: as the sweep goes
  turn_order : (lines : List (List Line)) (events : List Event) (w : Core) (n : Naming) (home : ℕ → ℕ) → IsKept false w → Ordered limits start lines events w n home
      → Ordered limits start lines (events ++ swept_by n (next_of w.collector)) (turned w) n home
  turn_order lines events w n home kept so = go (turned_sweeps w kept)
    where
      m : Moment
      m = after_all limits start events

      stands : StandsBy (after_all limits start events).heap (sight (turned w)) n.number
      stands = keeps_stands_by (after_all limits start events).heap (sight w) (sight (turned w)) n.number (turned_keeps w kept) so.stands.stands

      was : (s : ℕ) → IsTaken (sight (turned w)) s → IsTaken (sight w) s
      was s now = elim ((turned_keeps w kept).others s) [
        | inl same ↦ subst (λ x. 0 < x) same now
        | inr none ↦ absurd (omega (arith, now, none))
      ]

      config : (turned w).config ≡ w.config
      config = move_stays w Move.Turns

      go : IsSweep w (turned w) → Ordered limits start lines (events ++ swept_by n (next_of w.collector)) (turned w) n home
      go (rests nothing headers freed less) =
          let P : List Event → Type 0 = λ es. Ordered limits start lines es (turned w) n home in
          let none : events ++ swept_by n (next_of w.collector) ≡ events = ap (λ es. events ++ es) (swept_nothing n (next_of w.collector) nothing) ∙ append-nil events in
          subst P (sym none)
          (untold_order lines events w (turned w) n home (untold_same w (turned w) config (turned_mutators w)) (stands_rested w (turned w) (after_all limits start events) n home stands headers freed less so.stands)
          (λ t is. subst (λ (ps : List Private). Meets limits start events home n.next t (slice_index_or ps (t - 1) nobody).from (slice_index_or ps (t - 1) nobody).phase) (sym (turned_mutators w)) (so.meets t is)) so)
      go (marks named headers freed freed_one none) =
          let P : List Event → Type 0 = λ es. Ordered limits start lines (events ++ es) (turned w) n home in
          let told : swept_by n (next_of w.collector) ≡ Marks ∷ [] = ap (swept_by n) named in
          let may : MayCome limits start lines events Marks = marks_may_come limits start lines events (marks_fit limits w (after_all limits start events) n home freed_one so.stands) in
          subst P (sym told)
          (told_order lines events w (turned w) n home Marks (λ t. refl) refl refl (legal_grows limits start lines events Marks may so.legal) config (turned_mutators w)
          (stands_marked limits w (turned w) (after_all limits start events) n home stands headers freed none so.stands) so)
      go (frees slot named there taken out odd headers freed) =
          let P : List Event → Type 0 = λ es. Ordered limits start lines (events ++ es) (turned w) n home in
          let told : swept_by n (next_of w.collector) ≡ Frees (n.number slot) ∷ [] = ap (swept_by n) named in
          let may : MayCome limits start lines events (Frees (n.number slot)) = frees_may_come limits start lines events (n.number slot) (frees_fit limits w (after_all limits start events) n home slot kept.sound taken out odd so.stands) in
          subst P (sym told)
          (told_order lines events w (turned w) n home (Frees (n.number slot)) (λ t. refl) refl refl (legal_grows limits start lines events (Frees (n.number slot)) may so.legal) config (turned_mutators w)
          (stands_freed limits w (turned w) (after_all limits start events) n home slot stands taken headers freed was so.stands) so)

  -- A work that begins.
  begun_order : (lines : List (List Line)) (events : List Event) (w : Core) (n : Naming) (home : ℕ → ℕ) (t : ℕ) (work : Work) (from : ℕ) → IsKept false w → IsMutator w.config t → is_busy (mutator w t) ≡ false
      → Ordered limits start lines events w n home → Ordered limits start lines events (begun_from w t work from) n home
  unfolding begun_of
  begun_order lines events w n home t work from kept is idle so =
      let q : Private = begun_of (mutator w t) work from in
      let here : mutator (begun_from w t work from) t ≡ q = get_or-set_same w.mutators (t - 1) q nobody (in_list w t kept is) in
      untold_order lines events w (begun_from w t work from) n home (begun_untold w t work from is (in_list w t kept is) idle)
      (stands_unseen w (begun_from w t work from) (after_all limits start events) n home (begun_sight w t work from) refl (λ some. some) so.stands)
      (λ s s_is. elim (cases_eq s t) [
        | inl same ↦
            let P : ℕ → Type 0 = λ x. Meets limits start events home n.next x (mutator (begun_from w t work from) x).from (mutator (begun_from w t work from) x).phase in
            subst P (sym same) (subst (λ (p : Private). Meets limits start events home n.next t p.from p.phase) (sym here) tt)
        | inr other ↦ subst (λ (p : Private). Meets limits start events home n.next s p.from p.phase) (sym (mutator_other w.mutators t s q is.0 other s_is.0)) (so.meets s s_is)
      ])
      so

  -- A step of a mutator.
  -- one that decides no command
  silent_order : (lines : List (List Line)) (events : List Event) (w : Core) (n : Naming) (home : ℕ → ℕ) (t : ℕ) → limits ≡ limits_of w.config → IsKept false w → IsMutator w.config t → is_busy (mutator w t) ≡ true → IsSilent w t
      → Ordered limits start lines events w n home → HasOrder (events ++ events_in n w (Move.Steps t)) (stepped w t) (named_after n w (Move.Steps t))
  silent_order lines events w n home t numbers kept is busy done so =
      let P : List Event → Type 0 = λ es. HasOrder es (stepped w t) (named_after n w (Move.Steps t)) in
      let Q : Naming → Type 0 = λ k. HasOrder events (stepped w t) k in
      let none : events ++ told_by t (mutator w t).phase (work_of (mutator w t)) (answer_of (mutator (stepped w t) t)) ≡ events = ap (λ es. events ++ es) done.told ∙ append-nil events in
      subst P (sym none)
      (subst Q (sym (same_names n w t done.made)) (
        lines,
        home,
        untold_order lines events w (stepped w t) n home done.untold (stands_unseen w (stepped w t) (after_all limits start events) n home done.seen done.freed (λ some. some) so.stands)
            (λ s s_is. elim (cases_eq s t) [
              | inl same ↦
                  let R : ℕ → Type 0 = λ x. Meets limits start events home n.next x (mutator (stepped w t) x).from (mutator (stepped w t) x).phase in
                  subst R (sym same) (own_meets limits start events w n home t (ap (λ (l : Limits). l.slots) numbers) so.stands kept is busy (so.meets t is))
              | inr other ↦ subst (λ (p : Private). Meets limits start events home n.next s p.from p.phase) (sym (others_same w t s is.0 other s_is.0)) (so.meets s s_is)
            ])
            so,
      ))

  -- a finished scan meets nothing
  finished_meets : (events : List Event) (home : ℕ → ℕ) (next t from : ℕ) (phase : Phase) (made : Made) → answer_at phase ≡ Some made → Meets limits start events home next t from phase
  finished_meets events home next t from (at.Finished work done) made is = tt
  finished_meets events home next t from _ made is = cc

  -- what another's scan has met goes on with the naming
  names_meets : (events : List Event) (w v : Core) (n k : Naming) (home homes : ℕ → ℕ) (t s from : ℕ) (cmd : Cmd) (told : Told) (phase : Phase) → NamesOn w t cmd told v n home k homes
      → Meets limits start events home n.next s from phase → Meets limits start events homes k.next s from phase
  names_meets events w v n k home homes t s from cmd told phase (NamesOn.born slot birth place seen) has = meets_born limits start events home n.next s from slot phase has
  names_meets events w v n k home homes t s from cmd told phase (NamesOn.same unborn) has = has

  -- the entries that a log has after a command are at most those counted
  few_entries : (cmd : Cmd) (answer : Answer) (before : ℕ) → entries_after cmd answer before ≤ before + (if is_done answer then 1 else 0)
  few_entries (commands.New reg label) answers.Done before = omega arith
  few_entries (commands.Leaf reg label) answers.Done before = omega arith
  few_entries (commands.Put src f val) answers.Done before = omega arith
  few_entries (commands.New reg label) _ before = omega arith
  few_entries (commands.Leaf reg label) _ before = omega arith
  few_entries (commands.Put src f val) _ before = omega arith
  few_entries commands.Leave answers.Done before = omega arith
  few_entries _ _ before = omega arith

  -- and no fewer than before, unless the mutator leaves
  more_entries : (cmd : Cmd) (answer : Answer) (before : ℕ) → IsStaying cmd answer → before ≤ entries_after cmd answer before
  more_entries commands.Leave answers.Done before stays = absurd stays
  more_entries commands.Leave _ before stays = omega arith
  more_entries _ answer before stays = omega arith

  -- a write that leaves a word makes a log entry
  put_entry : (src f val : ℕ) (answer : Answer) (left v before : ℕ) → (if is_done answer then Some left else None) ≡ Some v → entries_after (commands.Put src f val) answer before ≡ before + 1
  put_entry src f val answers.Done left v before leaves = refl
  put_entry src f val _ left v before leaves = cc

  -- and so does any command that leaves a word
  entry_of_word : (cmd : Cmd) (told : Told) (v before : ℕ) → word_left cmd told ≡ Some v → entries_after cmd told.answer before ≡ before + 1
  entry_of_word (commands.Put src f val) told v before leaves = put_entry src f val told.answer told.left v before leaves
  entry_of_word _ told v before leaves = cc

  -- the entries taken as one for each command answered Done
  done_now : (ns : List ℕ) (t : ℕ) (b : Bool) → 0 < t → t ≤ length ns → slice_index_or (if b then bump ns t else ns) (t - 1) 0 ≡ slice_index_or ns (t - 1) 0 + (if b then 1 else 0)
  done_now ns t true some most = get_or-set_same ns (t - 1) (slice_index_or ns (t - 1) 0 + 1) 0 (omega (arith, some, most))
  done_now ns t false some most = omega arith

  -- another mutator's entries stay
  done_other : (ns : List ℕ) (t s : ℕ) (b : Bool) → 0 < t → 0 < s → s ≢ t → slice_index_or (if b then bump ns t else ns) (s - 1) 0 ≡ slice_index_or ns (s - 1) 0
  done_other ns t s true some s_some other = get_or-set_other ns (t - 1) (s - 1) (slice_index_or ns (t - 1) 0 + 1) 0 (λ same. other (omega (arith, some, s_some, same)))
  done_other ns t s false some s_some other = refl

  -- there is a number for each mutator as before
  done_many : (ns : List ℕ) (t : ℕ) (b : Bool) → length (if b then bump ns t else ns) ≡ length ns
  done_many ns t true = length-set ns (t - 1) (slice_index_or ns (t - 1) 0 + 1)
  done_many ns t false = refl

  -- A step that decides a command: the one that answers it, and of a mutator that leaves, the one that takes its mailbox.
  record Decides (w : Core) (t : ℕ) (cmd : Cmd) (told : Told) : Type 0 where
    -- it gives no mailbox back
    pub keeps : gives_back (mutator w t).phase ≡ false
    pub said : IsDecided w t cmd told (stepped w t)
    pub cause : HasCause (mutator w t) (mutator (stepped w t) t) cmd (found_by w t) told.answer
    pub tells : told_by t (mutator w t).phase (work_of (mutator w t)) (answer_of (mutator (stepped w t) t)) ≡ Answers t (cmd, told) ∷ []
    pub advances : (s : ℕ) → 0 < s → Advances w (stepped w t) s
    -- no scan goes on
    pub meets : (events : List Event) (home : ℕ → ℕ) (next : ℕ) → Meets limits start events home next t (mutator (stepped w t) t).from (mutator (stepped w t) t).phase
    -- one that leaves a word is in its own epoch
    pub here : (word : ℕ) → word_left cmd told ≡ Some word → epoch_at (mutator (stepped w t) t) ≡ (mutator w t).epoch

  -- one that answers a command
  answered_decides : (w : Core) (t : ℕ) (cmd : Cmd) (told : Told) → IsKept false w → IsMutator w.config t → is_busy (mutator w t) ≡ true → IsStayingIn (mutator w t).phase
      → work_of (mutator w t) ≡ Some (works.Command cmd) → answer_of (mutator (stepped w t) t) ≡ Some (makes.Answered told) → IsDecided w t cmd told (stepped w t) → IsStaying cmd told.answer → Decides w t cmd told
  answered_decides w t cmd told kept is busy stays work answer said staying =
      let v : Core = stepped w t in
      let logged : log_length v t ≡ entries_after cmd told.answer (log_length w t) = said.logged in
      let more : log_length w t ≤ entries_after cmd told.answer (log_length w t) = more_entries cmd told.answer (log_length w t) staying in
      record {
        keeps = commanded_here (mutator w t) cmd stays work;
        said = said;
        cause = step_caused w t cmd told kept is busy work answer;
        tells = told_as t (mutator w t).phase (work_of (mutator w t)) (answer_of (mutator v t)) stays
            ∙ ap (λ (x : Option Work). answered_by t x (answer_of (mutator v t))) work ∙ ap (answered_by t (Some (works.Command cmd))) answer;
        advances = step_advances w t kept is busy (λ _. omega (arith, logged, more));
        meets = λ events home next. finished_meets events home next t (mutator v t).from (mutator v t).phase (makes.Answered told) answer;
        here = λ word leaves. epoch_here (mutator v t) (finished_here (mutator v t) (makes.Answered told) answer) ∙ said.epoch;
      }

  -- one that takes the mailbox of a mutator that leaves
  leaving_decides : (w : Core) (t : ℕ) → IsKept false w → IsMutator w.config t → is_busy (mutator w t) ≡ true → (mutator w t).phase ≡ at.Leaving → Decides w t commands.Leave (plain answers.Done)
  leaving_decides w t kept is busy phase =
      let v : Core = stepped w t in
      let parting : (mutator v t).phase ≡ at.Parting = leaving_parts w t kept is phase in
      record {
        keeps = ap gives_back phase;
        said = leaving_decided w t kept is phase;
        cause = leaving_cause (mutator w t) (mutator v t) (found_by w t) phase;
        tells = ap (λ (x : Phase). told_by t x (work_of (mutator w t)) (answer_of (mutator v t))) phase;
        advances = leaving_advances w t kept is phase;
        meets = λ events home next. subst (Meets limits start events home next t (mutator v t).from) (sym parting) tt;
        here = λ word leaves. cc;
      }

  -- the order over a step that decides a command
  decided_order : (lines : List (List Line)) (events : List Event) (w : Core) (n : Naming) (home : ℕ → ℕ) (t : ℕ) (cmd : Cmd) (told : Told) → limits ≡ limits_of w.config → IsKept false w → IsKept false (stepped w t) → IsMutator w.config t
      → is_busy (mutator w t) ≡ true → Decides w t cmd told → Ordered limits start lines events w n home → HasOrder (events ++ events_in n w (Move.Steps t)) (stepped w t) (named_after n w (Move.Steps t))
  decided_order lines events w n home t cmd told numbers kept kept_after is busy d so =
      let e : Event = Answers t (cmd, told) in
      let m : Moment = after_all limits start events in
      let v : Core = stepped w t in
      let said : IsDecided w t cmd told v = d.said in
      let (homes, names) = step_names w t cmd told n home said in
      let k : Naming = named_after n w (Move.Steps t) in
      let P : List Event → Type 0 = λ es. HasOrder (events ++ es) v k in
      let last : after_all limits start (events ++ e ∷ []) ≡ after_answer limits m t (cmd, told) = after_all-grow limits start events e in
      let may : MayCome limits start lines events e
      = step_may_come limits start lines events w n home t cmd told numbers kept is d.keeps said d.cause so.stands so.journals kept_after.sound (so.done t is) (so.meets t is) so.stamps in
      let logged : log_length v t ≡ entries_after cmd told.answer (log_length w t) = said.logged in
      let many : t ≤ length m.done = subst (λ x. t ≤ x) (sym so.logs) is.1 in
      subst P (sym d.tells) (
        with_line lines t (cmd, told),
        homes,
        record {
          legal = legal_grows limits start lines events e may so.legal;
          stands = subst (λ (x : Moment). Stands v x k homes) (sym last)
              (stands_answered limits w v m n home t cmd told (ap (λ (l : Limits). l.fields) numbers) kept.headers kept_after.sound refl said so.stands k homes names);
          meets = λ s s_is. elim (cases_eq s t) [
            | inl same ↦
                let R : ℕ → Type 0 = λ x. Meets limits start (events ++ e ∷ []) homes k.next x (mutator v x).from (mutator v x).phase in
                subst R (sym same) (d.meets (events ++ e ∷ []) homes k.next)
            | inr other ↦
                subst (λ (p : Private). Meets limits start (events ++ e ∷ []) homes k.next s p.from p.phase) (sym (others_same w t s is.0 other s_is.0))
                (names_meets (events ++ e ∷ []) w v n k home homes t s (mutator w s).from cmd told (mutator w s).phase names
                (meets_grows limits start events home n.next s (mutator w s).from e (mutator w s).phase (ne_eqb t s (λ same. other (sym same))) (so.meets s s_is)))
          ];
          stamps = λ i word line there left. elim (get_cases events e i line there) [
            | inl old ↦ entry_stays w v (stamp_of word) refl d.advances (so.stamps i word line old left)
            | inr new ↦
                let leaves : word_left cmd told ≡ Some word = ap left_by new.1 ∙ left in
                let mine : stamp_of word ≡ record { writer = t; epoch = (mutator w t).epoch; index = log_length w t } = subst (λ o. IfSome o (λ x. stamp_of x ≡ record { writer = t; epoch = (mutator w t).epoch; index = log_length w t })) leaves said.stamp in
                let entry : entries_after cmd told.answer (log_length w t) ≡ log_length w t + 1 = entry_of_word cmd told word (log_length w t) leaves in
                let now : epoch_at (mutator v t) ≡ (mutator w t).epoch = d.here word leaves in
                let R : Stamp → Type 0 = λ s. HasEntry v s in
                subst R (sym mine) (record { some = is.0; most = is.1; earlier = inr (sym now, omega (arith, logged, entry)) })
          ];
          done = λ s s_is.
              let before : log_length w s ≤ slice_index_or m.done (s - 1) 0 = so.done s s_is in
              let end : slice_index_or (after_all limits start (events ++ e ∷ [])).done (s - 1) 0 ≡ slice_index_or (if is_done told.answer then bump m.done t else m.done) (s - 1) 0 = ap (λ (x : Moment). slice_index_or x.done (s - 1) 0) last in
              elim (cases_eq s t) [
                | inl same ↦
                    let R : ℕ → Type 0 = λ x. log_length v x ≤ slice_index_or (if is_done told.answer then bump m.done t else m.done) (x - 1) 0 in
                    let mine : log_length w t ≤ slice_index_or m.done (t - 1) 0 = so.done t is in
                    let more : slice_index_or (if is_done told.answer then bump m.done t else m.done) (t - 1) 0 ≡ slice_index_or m.done (t - 1) 0 + (if is_done told.answer then 1 else 0) = done_now m.done t (is_done told.answer) is.0 many in
                    let few : entries_after cmd told.answer (log_length w t) ≤ log_length w t + (if is_done told.answer then 1 else 0) = few_entries cmd told.answer (log_length w t) in
                    let here : R t = omega (arith, mine, more, few, logged) in
                    subst (λ x. log_length v s ≤ x) (sym end) (subst R (sym same) here)
                | inr other ↦
                    let stays : log_length v s ≡ log_length w s = ap (λ (p : Private). length p.log.entries) (others_same w t s is.0 other s_is.0) in
                    let more : slice_index_or (if is_done told.answer then bump m.done t else m.done) (s - 1) 0 ≡ slice_index_or m.done (s - 1) 0 = done_other m.done t s (is_done told.answer) is.0 s_is.0 other in
                    omega (arith, before, end, stays, more)
              ];
          logs = ap (λ (x : Moment). length x.done) last ∙ done_many m.done t (is_done told.answer) ∙ so.logs;
          journals = length-set lines (t - 1) (slice_index_or lines (t - 1) [] ++ (cmd, told) ∷ []) ∙ so.journals;
        },
      )

  -- one step, of whatever kind
  step_order : (lines : List (List Line)) (events : List Event) (w : Core) (n : Naming) (home : ℕ → ℕ) (t : ℕ) → limits ≡ limits_of w.config → IsKept false w → IsKept false (stepped w t) → IsMutator w.config t → is_busy (mutator w t) ≡ true
      → Ordered limits start lines events w n home → HasOrder (events ++ events_in n w (Move.Steps t)) (stepped w t) (named_after n w (Move.Steps t))
  step_order lines events w n home t numbers kept kept_after is busy so = elim (leaves_or_stays (mutator w t).phase) [
    | inl leaving ↦ decided_order lines events w n home t commands.Leave (plain answers.Done) numbers kept kept_after is busy (leaving_decides w t kept is busy leaving) so
    | inr (inl parting) ↦ silent_order lines events w n home t numbers kept is busy (parting_silent w t kept is busy parting) so
    | inr (inr stays) ↦ go stays (step_says w t kept is busy stays)
  ]
    where
      go : IsStayingIn (mutator w t).phase → Says w t (mutator (stepped w t) t) (stepped w t) → HasOrder (events ++ events_in n w (Move.Steps t)) (stepped w t) (named_after n w (Move.Steps t))
      go stays (Says.decided cmd told work answer said staying refused) =
          decided_order lines events w n home t cmd told numbers kept kept_after is busy (answered_decides w t cmd told kept is busy stays work answer said staying) so
      go stays (Says.going answer only found) = silent_order lines events w n home t numbers kept is busy (going_silent w t kept is busy stays answer only) so
      go stays (Says.holding answer phase still epoch) = silent_order lines events w n home t numbers kept is busy (holding_silent w t kept is busy stays answer phase still) so
      go stays (Says.stayed answer work here only) = silent_order lines events w n home t numbers kept is busy (stayed_silent w t kept is busy stays answer only) so
      go stays (Says.crossed answer work phase still epoch log) = silent_order lines events w n home t numbers kept is busy (crossed_silent w t kept is busy stays ((mutator w t).epoch + 1) answer still log) so

  -- One move more.
  move_order : (events : List Event) (w : Core) (n : Naming) (m : Move) → limits ≡ limits_of w.config → IsKept false w → Fits w m → HasOrder events w n → HasOrder (events ++ events_in n w m) (after_move w m) (named_after n w m)
  move_order events w n (Move.Begins t work from) numbers kept fits (lines, home, so) =
      let P : List Event → Type 0 = λ es. HasOrder es (begun_from w t work from) n in
      subst P (sym (append-nil events)) (lines, home, begun_order lines events w n home t work from kept fits.0 fits.1 so)
  move_order events w n (Move.Steps t) numbers kept fits (lines, home, so) = step_order lines events w n home t numbers kept (move_kept w (Move.Steps t) kept fits) fits.0 fits.1 so
  move_order events w n Move.Turns numbers kept fits (lines, home, so) = (lines, home, turn_order lines events w n home kept so)
  move_order events w n Move.Offers numbers kept fits (lines, home, so) =
      let P : List Event → Type 0 = λ es. HasOrder es (offering w) n in
      subst P (sym (append-nil events)) (
        lines,
        home,
        untold_order lines events w (offering w) n home (untold_same w (offering w) refl refl) (stands_unseen w (offering w) (after_all limits start events) n home refl refl (λ some. some) so.stands) so.meets so,
      )

  -- Some moves more.
  pub moves_order : (events : List Event) (w : Core) (n : Naming) (ms : List Move) → limits ≡ limits_of w.config → IsKept false w → AllFit w ms → HasOrder events w n
      → HasOrder (events ++ events_of n w ms) (after_moves w ms) (named_after_all n w ms)
  moves_order events w n [] numbers kept fit so =
      let P : List Event → Type 0 = λ es. HasOrder es w n in
      subst P (sym (append-nil events)) so
  moves_order events w n (m ∷ ms) numbers kept fit so =
      let P : List Event → Type 0 = λ es. HasOrder es (after_moves (after_move w m) ms) (named_after_all (named_after n w m) (after_move w m) ms) in
      subst P (append_assoc events (events_in n w m) (events_of (named_after n w m) (after_move w m) ms))
      (moves_order (events ++ events_in n w m) (after_move w m) (named_after n w m) ms (numbers ∙ ap limits_of (sym (move_stays w m))) (move_kept w m kept fit.0) fit.1 (move_order events w n m numbers kept fit.0 so))

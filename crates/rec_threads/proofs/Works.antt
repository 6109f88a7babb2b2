-- What a worker does, put together from polls and commands.
use Rattle.std.proofs.Common.{◌≡◌, ◌≢◌, ℕ, ◌-◌, ◌<◌, ◌||◌, false, Some, List, [], ◌∷◌, ◌++◌, All, length, map, slice_index_or, take, refl, sym, ap, subst, ◌∙◌, arith, append_assoc}
use Rattle.std.specs.List.{list_any}
use Rattle.std.proofs.Math.Bool.{or-false, or_assoc}
use Rattle.std.proofs.lemmas.List.{append-nil, append_cancel_left, get_or-map, get_or-take, length-append, length-map, length-take-le, map-append}
use Rattle.std.proofs.lemmas.List.Folds.{list_any-append, list_any_none}
use Rattle.std.proofs.lemmas.Option.{slice_get-get_or}
use Rattle.std.proofs.lemmas.Grind.{flat_map-append}
use Rattle.rec_model.specs.LegalOrder.{Line}
use Rattle.rec_model.specs.declared.answer.Answer.{Answer}
use Rattle.rec_model.specs.declared.command.Cmd.{Cmd}
use Rattle.rec_model.specs.declared.command.Cmd.TheVariants as commands
use Rattle.rec_model.specs.declared.told.Told.{Told}
use Rattle.rec_model.proofs.Operands.{operands_same}
use Rattle.rec_mutator.specs.Private.{KeepsSizes, Private}
use Rattle.rec_mutator.specs.declared.work.Work.{Work}
use Rattle.rec_mutator.specs.declared.work.Work.TheVariants as works
use Rattle.rec_script.specs.Script.{IsCommand, LeavesLast, ScriptContents}
use Rattle.rec_table.specs.Beats.{told}
use Rattle.rec_table.specs.Views.{MutatorView, Started, IsMutatorOf, Works, mutator_now}
use Rattle.rec_table.specs.Journals.{Tells, journal}
use Rattle.rec_table.specs.Rule.{MayAsk, beats}
use Rattle.rec_table.specs.declared.views.Beat.{Beat}
use Rattle.rec_table.specs.declared.views.Beat.TheVariants.{Saw}
use Rattle.rec_table.proofs.Beats.{told_both}
use Rattle.rec_table.proofs.Journals.{journal_both}
use Rattle.rec_table.proofs.Making.{keeps_on}
use Rattle.rec_world.specs.Journal.{Notes}
use Rattle.rec_world.specs.World.{is_leave_done}
use Rattle.rec_threads.specs.Done.{HasMade, IsReady, IsThereFor, begun, begun_by, commands_at, has_left_by}
use Rattle.rec_threads.specs.declared.worker.Worker.{Worker}

-- a mutator whose list grew is still this heap's
pub still_own : (h : Started) (m n : MutatorView) → n ≡ record m { log = n.log } → IsMutatorOf h m → IsMutatorOf h n
still_own h m n is own = subst (IsMutatorOf h) (sym is) own

-- a list that grew by a work grew by beats that begin this work alone
grown : (work : Work) (log log' : List Beat) → Works work log log' → (bs : List Beat) × (log' ≡ log ++ bs) × (begun bs ≡ work ∷ [])
grown work log log' (Works.first from word) = (beats (Some (record { work = work; from = from })) word, refl, refl)
grown work log log' (Works.then before word works) =
    let (bs, is, one) = grown work log before works in
    (bs ++ Saw word ∷ [], ap (λ (l : List Beat). l ++ Saw word ∷ []) is ∙ append_assoc log bs (Saw word ∷ []), flat_map-append begun_by bs (Saw word ∷ []) ∙ ap (λ (l : List Work). l ++ []) one)

begun_once : (work : Work) (log log' bs : List Beat) → Works work log log' → log' ≡ log ++ bs → begun bs ≡ work ∷ []
begun_once work log log' bs works is =
    let (cs, same, one) = grown work log log' works in
    ap begun (append_cancel_left log bs cs (sym is ∙ same)) ∙ one

abbrev tells_on : (m a b : MutatorView) (xs ys : List Line) → a ≡ record m { log = a.log } → Tells (mutator_now m) m.log a.log xs → Tells (mutator_now a) a.log b.log ys → Tells (mutator_now m) m.log b.log (xs ++ ys)
tells_on m a b xs ys is first then =
    let now : mutator_now a ≡ told (mutator_now m) first.beats = ap mutator_now is ∙ ap (told m.opened) first.grows ∙ told_both m.opened m.log first.beats in
    record {
      beats = first.beats ++ then.beats;
      grows = then.grows ∙ ap (λ (l : List Beat). l ++ then.beats) first.grows ∙ append_assoc m.log first.beats then.beats;
      tells = journal_both (mutator_now m) first.beats then.beats ∙ ap (λ (p : Private). journal (mutator_now m) first.beats ++ journal p then.beats) (sym now) ∙ (λ i. first.tells i ++ then.tells i);
    }

-- what is made first, and what then
pub made_on : (xs ys : List Cmd) (ds es : List Work) (a b d : Worker) → HasMade xs ds a b → HasMade ys es b d → HasMade (xs ++ ys) (ds ++ es) a d
made_on xs ys ds es a b d first then = record {
  lines = first.lines ++ then.lines;
  commands = map-append (λ (line : Line). line.0) first.lines then.lines ∙ (λ i. first.commands i ++ then.commands i);
  noted = then.noted ∙ ap (λ (l : List Line). l ++ then.lines) first.noted ∙ append_assoc a.journal.lines first.lines then.lines;
  room = let many = length-append xs ys in let f = first.room in let t = then.room in omega (arith, many, f, t);
  told = tells_on a.mutator b.mutator d.mutator first.lines then.lines first.mutator first.told then.told;
  begins = flat_map-append begun_by first.told.beats then.told.beats ∙ (λ i. first.begins i ++ then.begins i);
  mutator = then.mutator ∙ (λ i. record (first.mutator i) { log = d.mutator.log });
  sizes = keeps_on (mutator_now a.mutator) (mutator_now b.mutator) (mutator_now d.mutator) first.sizes then.sizes;
  left =
      then.left ∙ ap (λ left. left || list_any has_left_by then.lines) first.left ∙ or_assoc (mutator_now a.mutator).left (list_any has_left_by first.lines) (list_any has_left_by then.lines)
      ∙ ap (λ by. (mutator_now a.mutator).left || by) (sym (list_any-append has_left_by first.lines then.lines));
}

-- nothing is made
pub made_none : (w : Worker) → HasMade [] [] w w
made_none w = record {
  lines = [];
  commands = refl;
  noted = sym (append-nil w.journal.lines);
  room = omega arith;
  told = record { beats = []; grows = sym (append-nil w.mutator.log); tells = refl };
  begins = refl;
  mutator = refl;
  sizes = record { number = refl; slots = refl; fields = refl; registers = refl; capacity = refl; parked = refl };
  left = sym (or-false (mutator_now w.mutator).left);
}

-- a poll
pub polled : (w v : Worker) → v.journal ≡ w.journal → Works works.Poll w.mutator.log v.mutator.log → v.mutator ≡ record w.mutator { log = v.mutator.log } → Tells (mutator_now w.mutator) w.mutator.log v.mutator.log [] → KeepsSizes (mutator_now w.mutator) (mutator_now v.mutator)
    → (mutator_now v.mutator).left ≡ (mutator_now w.mutator).left → HasMade [] (works.Poll ∷ []) w v
polled w v noted poll is tells sizes left = record {
  lines = [];
  commands = refl;
  noted = ap (λ (j : Notes). j.lines) noted ∙ sym (append-nil w.journal.lines);
  room = let r : v.journal.room ≡ w.journal.room = ap (λ (j : Notes). j.room) noted in omega (arith, r);
  told = tells;
  begins = begun_once works.Poll w.mutator.log v.mutator.log tells.beats poll tells.grows;
  mutator = is;
  sizes = sizes;
  left = left ∙ sym (or-false (mutator_now w.mutator).left);
}

-- a command of a mutator that hasn't left, whose line is noted
pub commanded : (cmd : Cmd) (told : Told) (w v : Worker) → v.journal.lines ≡ w.journal.lines ++ (cmd, told) ∷ [] → v.journal.room ≡ w.journal.room - 1 → 0 < w.journal.room → Works (works.Command cmd) w.mutator.log v.mutator.log → v.mutator ≡ record w.mutator { log = v.mutator.log }
    → Tells (mutator_now w.mutator) w.mutator.log v.mutator.log ((cmd, told) ∷ []) → KeepsSizes (mutator_now w.mutator) (mutator_now v.mutator) → (mutator_now w.mutator).left ≡ false → (mutator_now v.mutator).left ≡ is_leave_done cmd told.answer
    → HasMade (cmd ∷ []) (works.Command cmd ∷ []) w v
commanded cmd told w v noted room some work is tells sizes present left = record {
  lines = (cmd, told) ∷ [];
  commands = refl;
  noted = noted;
  room = omega (arith, room, some);
  told = tells;
  begins = begun_once (works.Command cmd) w.mutator.log v.mutator.log tells.beats work tells.grows;
  mutator = is;
  sizes = sizes;
  left = left ∙ sym (or-false (is_leave_done cmd told.answer)) ∙ ap (λ before. before || (is_leave_done cmd told.answer || false)) (sym present);
}

-- by a command other than Leave nobody leaves
stays_by : (cmd : Cmd) (answer : Answer) → cmd ≢ commands.Leave → is_leave_done cmd answer ≡ false
stays_by commands.Leave answer other = absurd (other refl)
stays_by _ answer other = refl

-- so who wasn't to leave by these commands stays as it was
pub stays : (cmds : List Cmd) (done : List Work) (w v : Worker) → HasMade cmds done w v → All (λ cmd. cmd ≢ commands.Leave) cmds → (mutator_now v.mutator).left ≡ (mutator_now w.mutator).left
stays cmds done w v made others = made.left ∙ ap (λ by. (mutator_now w.mutator).left || by) (list_any_none has_left_by made.lines each) ∙ or-false (mutator_now w.mutator).left
  where
    own : List Cmd
    own = map (λ (line : Line). line.0) made.lines

    each : All (λ (line : Line). has_left_by line ≡ false) made.lines
    each k d lt =
        let other : slice_index_or own k d.0 ≢ commands.Leave = subst (All (λ (cmd : Cmd). cmd ≢ commands.Leave)) (sym made.commands) others k d.0 (subst (λ n. k < n) (sym (length-map made.lines (λ (line : Line). line.0))) lt) in
        stays_by (slice_index_or made.lines k d).0 (slice_index_or made.lines k d).1.answer (subst (λ (cmd : Cmd). cmd ≢ commands.Leave) (get_or-map (λ (line : Line). line.0) made.lines k d d.0 lt) other)

-- where only the last of these commands may be Leave, none before it is
pub none_before : (cmds : List Cmd) (i : ℕ) → LeavesLast cmds → i < length cmds → All (λ cmd. cmd ≢ commands.Leave) (take i cmds)
none_before cmds i last within k d lt is =
    let many : length (take i cmds) ≡ i = length-take-le i cmds (omega (arith, within)) in
    let there : k < length cmds = omega (arith, lt, many, within) in
    let same : slice_index_or cmds k d ≡ commands.Leave = sym (get_or-take i cmds k d (omega (arith, lt, many))) ∙ is in
    let ends = last k (slice_get-get_or cmds k d there ∙ ap Some same) in
    absurd (omega (arith, ends, lt, many, within))

-- who has its registers and fields, and hasn't left since, may be asked the same
pub operands_kept : (p q : Private) → KeepsSizes p q → q.left ≡ p.left → (cmd : Cmd) → MayAsk p cmd → MayAsk q cmd
operands_kept p q k left cmd may = (operands_same cmd (sym k.registers) (sym k.fields) may.0, left ∙ may.1)

-- a mutator that is ready may be asked its commands
pub all_operands : (h : Started) (script : ScriptContents) (k : ℕ) (w : Worker) (cmds : List Cmd) → IsReady h script k w → commands_at script.commands k ≡ cmds → All (IsCommand script.registers script.fields) cmds → All (MayAsk (mutator_now w.mutator)) cmds
all_operands h script k w cmds ready own all = λ i d lt. (operands_same _ (sym ready.registers) (sym ready.fields) (all i d lt).0, subst (λ (asked : List Cmd). IsThereFor asked (mutator_now w.mutator)) own ready.present (omega (arith, lt)))

-- Commands in straight code.
use Rattle.std.proofs.Common.{◌≡◌, ℕ, ◌+◌, ◌%◌, ◌^◌, ◌<◌, Bool, true, false, List, [], ◌++◌, Option, Some, None, refl, sym, ap, subst, ◌∙◌, append-nil, arith}
use Rattle.atomic_table.specs.Seated.{TableId}
use Rattle.atomic_table.specs.Table.{Me}
use Rattle.rec_model.specs.declared.command.Cmd.{Cmd}
use Rattle.rec_model.specs.declared.told.Told.{Told}
use Rattle.rec_word.specs.Header.{header_word}
use Rattle.rec_word.specs.declared.op.Op.TheVariants as ops
use Rattle.rec_model.specs.Asking.{allocation}
use Rattle.rec_mutator.specs.Next.{next_of, next_at, new_op}
use Rattle.rec_mutator.specs.Step.{NamesSlots}
use Rattle.rec_mutator.specs.declared.made.Made.{Made}
use Rattle.rec_mutator.specs.declared.made.Made.TheVariants as makes
use Rattle.rec_mutator.specs.declared.phase.Phase.{Phase}
use Rattle.rec_mutator.specs.declared.phase.Phase.TheVariants as at
use Rattle.rec_mutator.specs.declared.work.Work.{Work}
use Rattle.rec_mutator.specs.declared.work.Work.TheVariants as works
use Rattle.rec_mutator.proofs.Around.{behind_near}
use Rattle.rec_mutator.proofs.Steps.{TakesNone, here_same}
use Rattle.rec_mutator.proofs.Straight.{begun_machine, scanning, scans_is, begun_busy}
use Rattle.rec_table.specs.Rule.{MayBegin}
use Rattle.rec_table.specs.Straight.{Bears, Carried, IsPlainOp, Polled, Stands, record_of}
use Rattle.rec_table.specs.declared.start.Start.{Start}
use Rattle.rec_table.proofs.Common.{actor_of, world_kept, IsWorld, Op, Private, IsMachine, KeepsSizes, IsBetween, Contents, is_busy, is_busy_at, is_full, work_of, answer_at, answer_of, begun_of, took_of, spare, IsMutator, Core, mutator, MutatorView, mutator_view, mutator_now, IsOf, Works, told, learnt, ready, MayGo, births_of, births_told, beats, longer, seated_of, hands, me_after, Saw, Beat, Seated, View, Mutates}
use Rattle.rec_table.proofs.Acting.{opened_is, told_beats}
use Rattle.rec_table.proofs.Answering.{Path, answered, begun_slots, path_first, path_on, polled}
use Rattle.rec_table.proofs.Leaving.{leaves, poll_stays}
use Rattle.rec_table.proofs.Lines.{tells}
use Rattle.rec_table.proofs.Making.{begun_work, births_more, counted, keeps_on, learnt_between, learns_word, plain_hand, plain_taken, plain_phase, ready_between, ready_busy, works_first}
use Rattle.rec_table.proofs.Steps.{IsPlain, plain_takes_none}
use Rattle.rec_table.proofs.Within.{there}

-- A step that moves no mailbox leaves the seat so.
pub after_plain : (t : Seated) (q : Private) (wk : Option Start) (word : ℕ) → IsPlain q.phase → me_after t q wk word ≡ (Mutates (longer t (beats wk word)), [])
after_plain t q wk word calm = λ k. (Mutates (record t { log = t.log ++ beats wk word; hand = plain_hand t.hand (took_of q word).log q.phase calm k }), plain_taken q word q.phase calm k)

-- the record that its list makes up then
pub learns_on : (key : Core) (t : Seated) (hs : List (ℕ × Option Contents)) (wk : Option Start) (word : ℕ) → record_of key (Mutates (longer t (beats wk word)), hs) ≡ learnt (ready (told (mutator key t.number) t.log) wk) (Saw word)
learns_on key t hs wk word = told_beats (mutator key t.number) t.log wk word

-- and it stands between two steps again
pub stands_on : (key : Core) (me : Me (Option Contents) View) (wk : Option Start) (op : Op) (word : ℕ) → Stands key me → MayGo (record_of key me) wk → op ≡ next_of (ready (record_of key me) wk) → IsPlainOp op → NamesSlots (learnt (ready (record_of key me) wk) (Saw word))
    → Stands key (Mutates (longer (seated_of me.0) (beats wk word)), [])
stands_on key me wk op word stands may is_op plain names =
    let t : Seated = seated_of me.0 in
    let p : Private = record_of key me in
    let q : Private = ready p wk in
    let u : Seated = longer t (beats wk word) in
    let now : Me (Option Contents) View = (Mutates u, []) in
    let busy : is_busy q ≡ true = ready_busy p wk may in
    let between : IsBetween q.phase = ready_between p wk stands.between in
    let calm : IsPlain q.phase = plain_phase q op is_op between plain in
    let none : TakesNone q.phase = plain_takes_none q.phase calm in
    let learns : record_of key now ≡ learnt q (Saw word) = learns_on key t [] wk word in
    let took : record_of key now ≡ took_of q word = learns ∙ here_same q word (spare (took_of q word)) busy none in
    let l = learns_word q (record_of key now) u word now busy between none took (sym (plain_taken q word q.phase calm)) in
    record {
      owner = stands.owner;
      seat = l.2;
      names = subst NamesSlots (sym learns) names;
      same = subst (KeepsSizes (mutator key t.number)) (sym learns) (keeps_on (mutator key t.number) p (learnt q (Saw word)) stands.same (counted p wk word may stands.between).same);
      between = l.1;
    }

-- An actor stands so between two of its works.
pub record Owns (key : Core) (o m : Private) (me : Me (Option Contents) View) (h : MutatorView) : Type 0 where
  pub opened : o ≡ mutator key (seated_of me.0).number
  pub machine : m ≡ record_of key me
  pub now : mutator_now h ≡ record_of key me
  pub stands : Stands key me

pub owns : (z z' : TableId) (key : Core) (o m : Private) (me : Me (Option Contents) View) (h : MutatorView) → mutator_view z' o (seated_of me.0) ≡ h → IsOf z key h
    → me ≡ (Mutates (seated_of me.0), hands (seated_of me.0) m) → m ≡ told o (seated_of me.0).log → NamesSlots m → KeepsSizes o m → IsBetween m.phase → Owns key o m me h
owns z z' key o m me h view own seat is names same between =
    let t : Seated = seated_of me.0 in
    let opened : o ≡ mutator key t.number = opened_is z z' key o t h view own in
    let machine : m ≡ record_of key me = is ∙ ap (λ (q : Private). told q t.log) opened in
    record {
      opened = opened;
      machine = machine;
      now = sym (ap mutator_now view) ∙ ap (λ (q : Private). told q t.log) opened;
      stands = record {
        owner = subst (λ (n : ℕ). IsMutator key.config n) (sym (ap (λ (x : MutatorView). x.number) view)) own.1;
        seat = seat ∙ (λ k. (Mutates t, hands t (machine k)));
        names = subst NamesSlots machine names;
        same = subst (λ (y : Private × Private). KeepsSizes y.0 y.1) (λ k. (opened k, machine k)) same;
        between = subst (λ (q : Private). IsBetween q.phase) machine between;
      };
    }

-- and isn't parked
pub awake : {key : Core} {o m : Private} {me : Me (Option Contents) View} {h : MutatorView} → IsWorld key → Owns key o m me h → m.parked ≡ false
awake {key = key} {me = me} world owned =
    ap (λ (p : Private). p.parked) owned.machine ∙ owned.stands.same.parked ∙ (actor_of key (seated_of me.0).number (world_kept key world) owned.stands.owner).own.awake

-- With a work that may begin it begins so.
pub record Begins (key : Core) (o m : Private) (me : Me (Option Contents) View) (h : MutatorView) (work : Work) (from : ℕ) : Type 0 where
  pub owned : Owns key o m me h
  pub may : MayBegin m work
  pub low : from < m.slots
  pub begun : IsMachine (begun_of m work from)
  pub goes : MayGo (record_of key me) (Some (record { work = work; from = from }))

pub begins : (key : Core) (o m : Private) (me : Me (Option Contents) View) (h : MutatorView) (work : Work) (from : ℕ) → Owns key o m me h → MayBegin (mutator_now h) work → from ≡ m.from → IsMachine m → Begins key o m me h work from
begins key o m me h work from owned may is machine =
    let its : MayBegin m work = subst (λ (p : Private). MayBegin p work) (owned.now ∙ sym owned.machine) may in
    let low : from < m.slots = subst (λ n. n < m.slots) (sym is) machine.from in
    record {
      owned = owned;
      may = its;
      low = low;
      begun = begun_machine m work from machine its.2 its.1 low;
      goes = subst (λ (p : Private). MayGo p (Some (record { work = work; from = from }))) owned.machine (its.0, its.1, its.2, its.3, low);
    }

-- who has an answer isn't busy
pub answered_idle : (p : Private) (made : Made) → answer_of p ≡ Some made → is_busy p ≡ false
answered_idle p made answer = by p.phase refl
  where
    no : (phase : Phase) → p.phase ≡ phase → answer_at phase ≡ None → is_busy p ≡ false
    no phase e none = let bad : ◌≡◌ {A = Option Made} None (Some made) = sym none ∙ sym (ap answer_at e) ∙ answer in cc

    by : (phase : Phase) → p.phase ≡ phase → is_busy p ≡ false
    by at.Idle e = ap is_busy_at e
    by (at.Finished work m) e = ap is_busy_at e
    by (at.Begun w) e = no (at.Begun w) e refl
    by (at.Scanning reg label leaf b slot) e = no (at.Scanning reg label leaf b slot) e refl
    by (at.Scanned reg label leaf b) e = no (at.Scanned reg label leaf b) e refl
    by (at.Storing src f val slot) e = no (at.Storing src f val slot) e refl
    by at.Crossing e = no at.Crossing e refl
    by at.Swapping e = no at.Swapping e refl
    by at.Giving e = no at.Giving e refl
    by at.Leaving e = no at.Leaving e refl
    by at.Retiring e = no at.Retiring e refl
    by at.Parting e = no at.Parting e refl
    by (at.Passing passage) e = no (at.Passing passage) e refl

-- A command that has made all its steps.
pub carried_path : (h h' : MutatorView) (cmd : Cmd) (from : ℕ) (answer : Told) → (mutator_now h).left ≡ false → Path (record { work = works.Command cmd; from = from }) (mutator_now h) h.log h'.log (mutator_now h') → Works (works.Command cmd) h.log h'.log → h' ≡ record h { log = h'.log }
    → answer_of (mutator_now h') ≡ Some (makes.Answered answer) → is_busy (mutator_now h') ≡ false → KeepsSizes (mutator_now h) (mutator_now h') → Carried h h' cmd answer
carried_path h h' cmd from answer stays path grew is tells_it idle same = record {
  grows = grew;
  is = is;
  answer = tells_it;
  causes = answered (mutator_now h) (mutator_now h') cmd from h.log h'.log answer path tells_it;
  leaves = leaves (mutator_now h) (mutator_now h') cmd from h.log h'.log answer stays path tells_it;
  line = tells (mutator_now h) (mutator_now h') (record { work = works.Command cmd; from = from }) h.log h'.log (makes.Answered answer) path tells_it;
  idle = idle;
  same = same;
}

-- and a poll that has.
pub polled_path : (h h' : MutatorView) (from : ℕ) (epoch : Option ℕ) → Path (record { work = works.Poll; from = from }) (mutator_now h) h.log h'.log (mutator_now h') → Works works.Poll h.log h'.log → h' ≡ record h { log = h'.log }
    → answer_of (mutator_now h') ≡ Some (makes.Crossed epoch) → KeepsSizes (mutator_now h) (mutator_now h') → Polled h h' epoch
polled_path h h' from epoch path grew is tells_it same = record {
  grows = grew;
  is = is;
  answer = tells_it;
  causes = polled (mutator_now h) (mutator_now h') from h.log h'.log epoch path (begun_busy (mutator_now h) works.Poll from) tells_it;
  left = poll_stays (mutator_now h) (mutator_now h') from h.log h'.log path;
  line = tells (mutator_now h) (mutator_now h') (record { work = works.Poll; from = from }) h.log h'.log (makes.Crossed epoch) path tells_it;
  idle = answered_idle (mutator_now h') _ tells_it;
  same = same;
}

-- A work that has made its first step.
pub path_once : (h h' : MutatorView) (work : Work) (from word : ℕ) → MayBegin (mutator_now h) work → from < (mutator_now h).slots → IsBetween (mutator_now h).phase → IsMachine (begun_of (mutator_now h) work from)
    → h' ≡ record h { log = h.log ++ beats (Some (record { work = work; from = from })) word }
    → Path (record { work = work; from = from }) (mutator_now h) h.log h'.log (mutator_now h') × Works work h.log h'.log × (h' ≡ record h { log = h'.log }) × KeepsSizes (mutator_now h) (mutator_now h')
path_once h h' work from word may low between machine grows =
    let start : Start = record { work = work; from = from } in
    let p : Private = mutator_now h in
    let q : Private = mutator_now h' in
    let logs : h'.log ≡ h.log ++ beats (Some start) word = ap (λ (x : MutatorView). x.log) grows in
    let learns : q ≡ learnt (begun_of p work from) (Saw word) = ap mutator_now grows ∙ told_beats h.opened h.log (Some start) word in
    let c = counted p (Some start) word (may.0, may.1, may.2, may.3, low) between in
    let w = works_first h h' work from word grows in (
      path_first start p q h.log h'.log word logs machine (begun_busy p work from) (begun_work p work from) (begun_slots p work from) learns (ap (λ (x : Private). x.steps) learns ∙ c.steps),
      w.0,
      w.1,
      subst (KeepsSizes p) (sym learns) c.same,
    )

-- A command whose first step answers it.
pub carried_once : (h h' : MutatorView) (cmd : Cmd) (from word : ℕ) (answer : Told) → MayBegin (mutator_now h) (works.Command cmd) → from < (mutator_now h).slots → IsBetween (mutator_now h).phase → IsMachine (begun_of (mutator_now h) (works.Command cmd) from)
    → h' ≡ record h { log = h.log ++ beats (Some (record { work = works.Command cmd; from = from })) word } → answer_of (mutator_now h') ≡ Some (makes.Answered answer) → Carried h h' cmd answer
carried_once h h' cmd from word answer may low between machine grows tells_it =
    let once = path_once h h' (works.Command cmd) from word may low between machine grows in
    carried_path h h' cmd from answer may.1 once.0 once.1 once.2 tells_it (answered_idle (mutator_now h') _ tells_it) once.3

-- A poll whose first step answers it,
pub polled_once : (h h' : MutatorView) (from word : ℕ) → MayBegin (mutator_now h) works.Poll → from < (mutator_now h).slots → IsBetween (mutator_now h).phase → IsMachine (begun_of (mutator_now h) works.Poll from)
    → h' ≡ record h { log = h.log ++ beats (Some (record { work = works.Poll; from = from })) word } → answer_of (mutator_now h') ≡ Some (makes.Crossed None) → Polled h h' None
polled_once h h' from word may low between machine grows tells_it =
    let once = path_once h h' works.Poll from word may low between machine grows in
    polled_path h h' from None once.0 once.1 once.2 tells_it once.3

-- A command that is answered by its second step.
pub carried_twice : (h h' : MutatorView) (cmd : Cmd) (from first second : ℕ) (m : Private) (answer : Told) → MayBegin (mutator_now h) (works.Command cmd) → from < (mutator_now h).slots → IsBetween (mutator_now h).phase → IsMachine (begun_of (mutator_now h) (works.Command cmd) from)
    → m ≡ learnt (begun_of (mutator_now h) (works.Command cmd) from) (Saw first) → IsMachine m → is_busy m ≡ true
    → h' ≡ record h { log = (h.log ++ beats (Some (record { work = works.Command cmd; from = from })) first) ++ beats None second } → answer_of (mutator_now h') ≡ Some (makes.Answered answer) → is_busy (mutator_now h') ≡ false → Carried h h' cmd answer
unfolding begun_of
carried_twice h h' cmd from first second m answer may low between machine is machine' busy grows tells_it idle =
    let start : Start = record { work = works.Command cmd; from = from } in
    let p : Private = mutator_now h in
    let b : Private = begun_of p (works.Command cmd) from in
    let q : Private = mutator_now h' in
    let was : List Beat = h.log ++ beats (Some start) first in
    let logs : h'.log ≡ was ++ beats None second = ap (λ (x : MutatorView). x.log) grows in
    let went : told h.opened was ≡ m = told_beats h.opened h.log (Some start) first ∙ sym is in
    let learns : q ≡ learnt m (Saw second) = ap mutator_now grows ∙ told_beats h.opened was None second ∙ ap (λ (x : Private). learnt x (Saw second)) went in
    let c = counted p (Some start) first (may.0, may.1, may.2, may.3, low) between in
    let k = subst (λ (x : Private). KeepsSizes p x) (sym is) c.same in
    let work : work_of m ≡ Some (works.Command cmd) = ap work_of is ∙ c.work ∙ begun_work p (works.Command cmd) from in
    let between' : IsBetween m.phase = subst (λ (x : Private). IsBetween x.phase) (sym is) (learnt_between b first (begun_busy p (works.Command cmd) from) tt) in
    let d = counted m None second busy between' in
    let at_first : Path start p h.log was m = path_first start p m h.log was first refl machine (begun_busy p (works.Command cmd) from) (begun_work p (works.Command cmd) from) (begun_slots p (works.Command cmd) from) is (ap (λ (x : Private). x.steps) is ∙ c.steps) in
    let path : Path start p h.log h'.log q = path_on start p m m q h.log was was h'.log [] second at_first busy work (sym (append-nil was)) refl refl logs machine' between' k.slots learns (omega arith) (ap (λ (x : Private). x.steps) learns ∙ d.steps) in
    let begins : Works (works.Command cmd) h.log was = Works.first from first in
    record {
      grows = subst (Works (works.Command cmd) h.log) (sym logs) (Works.then was second begins);
      is = grows ∙ (λ i. record h { log = sym logs i });
      answer = tells_it;
      causes = answered p q cmd from h.log h'.log answer path tells_it;
      leaves = leaves p q cmd from h.log h'.log answer may.1 path tells_it;
      line = tells p q start h.log h'.log (makes.Answered answer) path tells_it;
      idle = idle;
      same = subst (KeepsSizes p) (sym learns) (keeps_on p m (learnt m (Saw second)) k d.same);
    }

-- What the fields of an actor keep.
abbrev Kept : (o m : Private) (me : Me (Option Contents) View) (births : ℕ) → Type 0
Kept o m me births =
    (me ≡ (Mutates (seated_of me.0), hands (seated_of me.0) m)) × (m ≡ told o (seated_of me.0).log) × NamesSlots m × KeepsSizes o m × IsBetween m.phase × (births ≡ births_told o (seated_of me.0).log % 2 ^ 64)

pub kept_by : (key : Core) (o m : Private) (me : Me (Option Contents) View) (births : ℕ) → o ≡ mutator key (seated_of me.0).number → m ≡ record_of key me → Stands key me → births ≡ births_told o (seated_of me.0).log % 2 ^ 64 → Kept o m me births
kept_by key o m me births opened is stands counted = (
  stands.seat ∙ (λ k. (Mutates (seated_of me.0), hands (seated_of me.0) (sym is k))),
  is ∙ ap (λ (q : Private). told q (seated_of me.0).log) (sym opened),
  subst NamesSlots (sym is) stands.names,
  subst (λ (y : Private × Private). KeepsSizes y.0 y.1) (λ k. (sym opened k, sym is k)) stands.same,
  subst (λ (q : Private). IsBetween q.phase) (sym is) stands.between,
  counted,
)

-- the seat has its number still
number_on : (me me' : Me (Option Contents) View) (bs : List Beat) → me' ≡ (Mutates (longer (seated_of me.0) bs), []) → (seated_of me.0).number ≡ (seated_of me'.0).number
number_on me me' bs at = λ k. (seated_of (sym at k).0).number

pub opened_on : (key : Core) (o : Private) (me me' : Me (Option Contents) View) (bs : List Beat) → o ≡ mutator key (seated_of me.0).number → me' ≡ (Mutates (longer (seated_of me.0) bs), []) → o ≡ mutator key (seated_of me'.0).number
opened_on key o me me' bs opened at = opened ∙ ap (mutator key) (number_on me me' bs at)

-- a step that claims nothing makes no object
pub none_born : (key : Core) (o : Private) (me me' : Me (Option Contents) View) (wk : Option Start) (op : Op) (word births : ℕ) → o ≡ mutator key (seated_of me.0).number → op ≡ next_of (ready (record_of key me) wk) → births_of op word ≡ 0
    → me' ≡ (Mutates (longer (seated_of me.0) (beats wk word)), []) → births ≡ births_told o (seated_of me.0).log % 2 ^ 64 → births ≡ births_told o (seated_of me'.0).log % 2 ^ 64
none_born key o me me' wk op word births opened is none at was =
    let t : Seated = seated_of me.0 in
    let p : Private = record_of key me in
    let none_of : births_of (next_of (ready p wk)) word ≡ 0 = ap (λ (x : Op). births_of x word) (sym is) ∙ none in
    births_more o p t.log wk word births births (ap (λ (q : Private). told q t.log) (sym opened)) was (omega (arith, was, none_of)) ∙ ap (λ (l : List Beat). births_told o l % 2 ^ 64) (λ k. (seated_of (sym at k).0).log)

-- what a machine learns at once of a work's first step is what its list makes up
pub learns_first : (p m m' : Private) (work : Work) (from word : ℕ) → m ≡ p → from ≡ m.from → m' ≡ took_of (begun_of m work m.from) word → m' ≡ learnt (begun_of p work from) (Saw word)
unfolding begun_of
learns_first p m m' work from word same at took =
    took
    ∙ ap (λ (n : ℕ). took_of (begun_of m work n) word) (sym at)
    ∙ ap (λ (q : Private). took_of (begun_of q work from) word) same
    ∙ sym (here_same (begun_of p work from) word (spare (took_of (begun_of p work from) word)) (begun_busy p work from) tt)

-- what clauses see of it then
pub seen_on : (z z' : TableId) (o : Private) (me me' : Me (Option Contents) View) (h : MutatorView) (bs : List Beat) → z' ≡ z → mutator_view z o (seated_of me.0) ≡ h → me' ≡ (Mutates (longer (seated_of me.0) bs), []) → mutator_view z' o (seated_of me'.0) ≡ record h { log = h.log ++ bs }
seen_on z z' o me me' h bs same view at = (λ k. mutator_view (same k) o (seated_of (at k).0)) ∙ (λ k. record (view k) { log = (view k).log ++ bs })

-- and of its second one, where that takes no mailbox
pub learns_second : (q m m' : Private) (word : ℕ) → m ≡ q → is_busy m ≡ true → TakesNone m.phase → m' ≡ took_of m word → m' ≡ learnt q (Saw word)
learns_second q m m' word same busy none took = took ∙ sym (here_same m word (spare (took_of m word)) busy none) ∙ ap (λ (x : Private). learnt x (Saw word)) same

-- The operations of a birth whose first probe wins: the first one is the one that comes next,
pub born_first : (m : Private) (reg label : ℕ) (leaf : Bool) (from : ℕ) → is_full m ≡ false → ops.LoadFreed ≡ next_of (begun_of m (works.Command (allocation leaf reg label)) from)
unfolding next_of next_at begun_of
born_first m reg label true from room = sym (ap (new_op m) room)
born_first m reg label false from room = sym (ap (new_op m) room)

-- and so is the second one
pub born_second : (m : Private) (reg label : ℕ) (leaf : Bool) (from before header : ℕ) → from < m.slots → header ≡ header_word leaf label → ops.ClaimHeader from header ≡ next_of (scanning m reg label leaf from before)
unfolding next_of next_at
born_second m reg label leaf from before header there is =
    let near = behind_near m.slots from 0 (omega (arith, there)) in
    let first : from ≡ (from + 0) % m.slots = omega (arith, near) in
    λ i. ops.ClaimHeader (first i) (is i)

-- the record behind the first one
pub born_mid : (key : Core) (me me' : Me (Option Contents) View) (m : Private) (reg label : ℕ) (leaf : Bool) (from before : ℕ) → m ≡ record_of key me → is_full m ≡ false → record_of key me' ≡ learnt (begun_of (record_of key me) (works.Command (allocation leaf reg label)) from) (Saw before)
    → scanning m reg label leaf from before ≡ record_of key me'
unfolding begun_of
born_mid key me me' m reg label leaf from before same room learns =
    sym (scans_is m reg label leaf from before room)
    ∙ ap (λ (q : Private). took_of (begun_of q (works.Command (allocation leaf reg label)) from) before) same
    ∙ sym (here_same (begun_of (record_of key me) (works.Command (allocation leaf reg label)) from) before (spare (took_of (begun_of (record_of key me) (works.Command (allocation leaf reg label)) from) before)) (begun_busy (record_of key me) (works.Command (allocation leaf reg label)) from) tt)
    ∙ sym learns

-- and behind the second one
pub born_last : (key : Core) (me me' me'' : Me (Option Contents) View) (m m' : Private) (reg label : ℕ) (leaf : Bool) (from before found : ℕ) → m ≡ record_of key me → is_full m ≡ false → record_of key me' ≡ learnt (begun_of (record_of key me) (works.Command (allocation leaf reg label)) from) (Saw before)
    → record_of key me'' ≡ learnt (record_of key me') (Saw found) → m' ≡ took_of (took_of (begun_of m (works.Command (allocation leaf reg label)) from) before) found → m' ≡ record_of key me''
born_last key me me' me'' m m' reg label leaf from before found same room learns further took =
    learns_second (record_of key me') (scanning m reg label leaf from before) m' found (born_mid key me me' m reg label leaf from before same room learns) refl tt (took ∙ ap (λ (q : Private). took_of q found) (scans_is m reg label leaf from before room)) ∙ sym further

-- a claim that was won makes an object
pub one_born : (key : Core) (o : Private) (me me' : Me (Option Contents) View) (op : Op) (word births now : ℕ) → o ≡ mutator key (seated_of me.0).number → op ≡ next_of (record_of key me) → births_of op word ≡ 1
    → me' ≡ (Mutates (longer (seated_of me.0) (beats None word)), []) → births ≡ births_told o (seated_of me.0).log % 2 ^ 64 → now ≡ (births + 1) % 2 ^ 64 → now ≡ births_told o (seated_of me'.0).log % 2 ^ 64
one_born key o me me' op word births now opened is one at was more =
    let t : Seated = seated_of me.0 in
    let p : Private = record_of key me in
    let one_of : births_of (next_of (ready p None)) word ≡ 1 = ap (λ (x : Op). births_of x word) (sym is) ∙ one in
    births_more o p t.log None word births now (ap (λ (q : Private). told q t.log) (sym opened)) was (more ∙ ap (λ n. (births + n) % 2 ^ 64) (sym one_of)) ∙ ap (λ (l : List Beat). births_told o l % 2 ^ 64) (λ k. (seated_of (sym at k).0).log)

-- the list after two steps of a command
abbrev list_twice : MutatorView → Cmd → (from first second : ℕ) → List Beat
list_twice h cmd from first second = (h.log ++ beats (Some (record { work = works.Command cmd; from = from })) first) ++ beats None second

-- A command that has made two steps, and how it goes on from there.
pub path_twice : (h : MutatorView) (cmd : Cmd) (from first second : ℕ) (m : Private) → MayBegin (mutator_now h) (works.Command cmd) → from < (mutator_now h).slots → IsBetween (mutator_now h).phase → IsMachine (begun_of (mutator_now h) (works.Command cmd) from)
    → m ≡ learnt (begun_of (mutator_now h) (works.Command cmd) from) (Saw first) → IsMachine m → is_busy m ≡ true
    → Path (record { work = works.Command cmd; from = from }) (mutator_now h) h.log (list_twice h cmd from first second) (told h.opened (list_twice h cmd from first second)) × KeepsSizes (mutator_now h) (told h.opened (list_twice h cmd from first second))
unfolding begun_of
path_twice h cmd from first second m may low between machine is machine' busy =
    let start : Start = record { work = works.Command cmd; from = from } in
    let p : Private = mutator_now h in
    let b : Private = begun_of p (works.Command cmd) from in
    let was : List Beat = h.log ++ beats (Some start) first in
    let now : List Beat = list_twice h cmd from first second in
    let went : told h.opened was ≡ m = told_beats h.opened h.log (Some start) first ∙ sym is in
    let learns : told h.opened now ≡ learnt m (Saw second) = told_beats h.opened was None second ∙ ap (λ (x : Private). learnt x (Saw second)) went in
    let c = counted p (Some start) first (may.0, may.1, may.2, may.3, low) between in
    let k = subst (λ (x : Private). KeepsSizes p x) (sym is) c.same in
    let work : work_of m ≡ Some (works.Command cmd) = ap work_of is ∙ c.work ∙ begun_work p (works.Command cmd) from in
    let between' : IsBetween m.phase = subst (λ (x : Private). IsBetween x.phase) (sym is) (learnt_between b first (begun_busy p (works.Command cmd) from) tt) in
    let d = counted m None second busy between' in
    let at_first : Path start p h.log was m = path_first start p m h.log was first refl machine (begun_busy p (works.Command cmd) from) (begun_work p (works.Command cmd) from) (begun_slots p (works.Command cmd) from) is (ap (λ (x : Private). x.steps) is ∙ c.steps) in (
      path_on start p m m (told h.opened now) h.log was was now [] second at_first busy work (sym (append-nil was)) refl refl refl machine' between' k.slots learns (omega arith) (ap (λ (x : Private). x.steps) learns ∙ d.steps),
      subst (KeepsSizes p) (sym learns) (keeps_on p m (learnt m (Saw second)) k d.same),
    )

pub works_twice : (h : MutatorView) (cmd : Cmd) (from first second : ℕ) → Works (works.Command cmd) h.log (list_twice h cmd from first second)
works_twice h cmd from first second = Works.then _ second (Works.first from first)

pub idle_born : (h h' : MutatorView) (cmd : Cmd) (b : Bool) → Bears h h' cmd b → is_busy (mutator_now h') ≡ false
idle_born h h' cmd true bears = bears.carried.idle
idle_born h h' cmd false bears = bears.1.idle

-- what a command was answered
abbrev told_in : Told → Option Made → Told
told_in d (Some (makes.Answered told)) = told
told_in d (Some (makes.Crossed epoch)) = d
told_in d None = d

-- what it was answered is what its machine has
pub carried_told : (h h' : MutatorView) (cmd : Cmd) (told told' : Told) → Carried h h' cmd told → answer_of (mutator_now h') ≡ Some (makes.Answered told') → Carried h h' cmd told'
carried_told h h' cmd told told' carried has =
    let same : ◌≡◌ {A = Option Made} (Some (makes.Answered told)) (Some (makes.Answered told')) = sym carried.answer ∙ has in
    subst (Carried h h' cmd) (ap (told_in told) same) carried

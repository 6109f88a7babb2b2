-- What the collector loaded lasts over a move: it stands in its field, was replaced, or was taken out.
use Rattle.std.proofs.Common.{◌≡◌, ◌≢◌, ◌⊎◌, inl, inr, ℕ, ◌+◌, ◌-◌, ◌<◌, ◌≤◌, ◌==◌, if◌then◌else◌, Bool, true, false, leb, Option, None, Some, IfSome, List, [], ◌∷◌, map, length, slice_index_or, slice_set, refl, sym, ap, subst, ◌∙◌, arith}
use Rattle.std.specs.List.{sum_by, zip, Contains}
use Rattle.std.proofs.lemmas.Bool.{cases_eq, cases_lt, cond-true, cond-false, eq-eqb, false≢true, ne_eqb}
use Rattle.std.proofs.lemmas.Bool.Decides.{nat_tests}
use Rattle.std.proofs.lemmas.List.{set-get_or, get_or-set_other}
use Rattle.std.proofs.lemmas.List.Elements.{Contains-append_left, Contains-append_right, Contains-get_or}
use Rattle.std.proofs.lemmas.List.Sums.{sum_by-cons, sum_by-set}
use Rattle.rec_mutator.specs.Step.{TakesBox}
use Rattle.rec_core.proofs.Common.{has_left, noted, requested, crossing_word, Retired, place_of, Op, only_if, epoch_of, Write, Cleared, Contents, Private, is_busy, IsMachine, word_for, IsStore, probe_of, next_of, Step, Decides, GoesOn, LeavesBox, HasRoom, begun_of, left_of, took_of, whole_made, Parts, with_parts, Begun, cleared, Phase, Idle, Looking, Swapping, Returning, Turn, Cells, cell, with_cell, IsMutator, Core, cells_of, mutator, box, nobody, crossing_of, IsBufferOf, IsHandshake, IsKept, Handshake, stand_at, Fits, Move, after_move, begun_from, found_by, left_by, looked_at, offering, stepped, turned, older_at, writes_in, writes_of, header_word, stamp_of}
use Rattle.rec_word.specs.Op.{written}
use Rattle.rec_word.specs.declared.op.Op.TheVariants as ops
use Rattle.rec_model.specs.declared.command.Cmd.{Cmd}
use Rattle.rec_model.specs.declared.told.Told.{Told}
use Rattle.rec_mutator.specs.Took.{step_of}
use Rattle.rec_mutator.specs.declared.phase.Phase as phases
use Rattle.rec_mutator.specs.declared.phase.Phase.TheVariants as at
use Rattle.rec_mutator.specs.declared.work.Work.{Work}
use Rattle.rec_sigma.specs.Prepare as preps
use Rattle.rec_trial.specs.Trial as trials
use Rattle.rec_collector.specs.Kept as collector_kept
use Rattle.rec_collector.specs.Next as collectors_next
use Rattle.rec_collector.specs.Private as collectors
use Rattle.rec_collector.specs.Step as collectors_step
use Rattle.rec_collector.specs.Touched.{tried_at}
use Rattle.rec_collector.proofs.Always.{names_word}
use Rattle.rec_core.specs.Loads.{cleared_by, cleared_in, IsKnown, Loaded, tried_in}
use Rattle.rec_core.proofs.Batches.{none_of}
use Rattle.rec_core.proofs.Landings.{early_writes}
use Rattle.rec_word.specs.declared.stamps.Stamp.{Stamp}
use Rattle.rec_mutator.proofs.LogStamps.{word_stamp}
use Rattle.rec_core.proofs.Rules.{epoch_of_put}
use Rattle.rec_core.proofs.Runs.{rule_of}
use Rattle.rec_core.proofs.PlainWords.{crosses_none, takes_retired, waits_other}
use Rattle.rec_core.proofs.Turning.{turn_case, parts_of_turn}
use Rattle.rec_core.proofs.Actors.{busy_stays}
use Rattle.rec_core.proofs.Steps.{actor_of, in_list}
use Rattle.rec_core.proofs.Sums.{zip_sum-first_same, zip_sum-set, zip_sum-set_second, buffers_sum, writes_more, writes_same}
use Rattle.rec_core.proofs.Turns.{now_at}
use Rattle.rec_core.proofs.Shapes.{same_boxes, LeavesWords, load_leaves, box_stays}
use Rattle.rec_mutator.proofs.Refusals.{at_phase}
use Rattle.rec_core.specs.declared.config.Config.{Config}

-- what the writes in a buffer weigh
abbrev pub wrote : (Write → ℕ) → Contents → ℕ
wrote g b = sum_by g (writes_in b.entries)

-- and those in the mailbox of a mutator
abbrev pub wrote_in_box : (Write → ℕ) → Private × Contents → ℕ
wrote_in_box g own = wrote g own.1

-- what all writes weigh, row by row
pub writes_sum : (g : Write → ℕ) (w : Core) → sum_by g (writes_of w) ≡ sum_by (λ (p : Private). wrote g p.log) w.mutators + (sum_by (wrote_in_box g) (zip w.mutators w.boxes) + (sum_by (wrote g) w.collector.newer + sum_by (wrote g) w.collector.older))
writes_sum g w = buffers_sum g (λ b. writes_in b.buffer.entries) w

-- what becomes of the word in a field
pub data Goes (w v : Core) (gone : List Cleared) (epoch place : ℕ) : Type 0 where
  stays : slice_index_or v.words place 0 ≡ slice_index_or w.words place 0 → Goes w v gone epoch place
  written_over : (new : ℕ) → epoch ≤ epoch_of new → ((g : Write → ℕ) → g (record { place = place; new = new; old = slice_index_or w.words place 0 }) ≤ sum_by g (writes_of v)) → Goes w v gone epoch place
  goes_out : Contains gone (record { place = place; word = slice_index_or w.words place 0 }) → Goes w v gone epoch place

-- what a move does to words and writes: no write of this epoch or a later one is lost
pub record Keeps (w v : Core) (gone : List Cleared) (epoch : ℕ) : Type 0 where
  pub words : (place : ℕ) → Goes w v gone epoch place
  pub writes : (g : Write → ℕ) → ((x : Write) → epoch_of x.new < epoch → g x ≡ 0) → sum_by g (writes_of w) ≤ sum_by g (writes_of v)

-- a write that replaced a word that was loaded
abbrev pub closes : Loaded → Write → ℕ
closes l x = only_if (l.place == x.place) (only_if (l.word == x.old) (only_if (leb l.epoch (epoch_of x.new)) 1))

-- the same as `IsKnown`, by sums
abbrev pub Lasts : Core → List Cleared → Loaded → Type 0
Lasts v gone l = (slice_index_or v.words l.place 0 ≡ l.word) ⊎ ((0 < sum_by (closes l) (writes_of v)) ⊎ Contains gone (record { place = l.place; word = l.word }))

closes_late : (l : Loaded) (x : Write) → epoch_of x.new < l.epoch → closes l x ≡ 0
closes_late l x h = grind (arith, nat_tests)

closes_here : (l : Loaded) (new : ℕ) → l.epoch ≤ epoch_of new → closes l (record { place = l.place; new = new; old = l.word }) ≡ 1
closes_here l new h = grind (arith, nat_tests)

none_gone : (x : Cleared) → Contains [] x → ⊥
none_gone x c = let below = c.1 in omega arith

-- what was loaded lasts over a move
pub lasts_on : (w v : Core) (gone : List Cleared) (l : Loaded) → Keeps w v gone l.epoch → Lasts w [] l → Lasts v gone l
lasts_on w v gone l k (inl here) = go (k.words l.place)
  where
    go : Goes w v gone l.epoch l.place → Lasts v gone l
    go (Goes.stays e) = inl (e ∙ here)
    go (Goes.written_over new late more) =
        let one : closes l (record { place = l.place; new = new; old = slice_index_or w.words l.place 0 }) ≡ 1 = ap (λ o. closes l (record { place = l.place; new = new; old = o })) here ∙ closes_here l new late in
        inr (inl (omega (arith, more (closes l), one)))
    go (Goes.goes_out c) = inr (inr (subst (λ o. Contains gone (record { place = l.place; word = o })) here c))
lasts_on w v gone l k (inr (inl some)) = inr (inl (omega (arith, some, k.writes (closes l) (closes_late l))))
lasts_on w v gone l k (inr (inr c)) = absurd (none_gone _ c)

-- what weighs something has an element that does
pub some_weighs : {X : Type 0} (g : X → ℕ) (xs : List X) → 0 < sum_by g xs → (x : X) × Contains xs x × (0 < g x)
some_weighs g [] h = absurd (omega (arith, h))
some_weighs g (x ∷ xs) h = elim (cases_lt 0 (g x)) [
  | inl some ↦ (x, Contains-append_left (x ∷ []) xs x (Contains-get_or (x ∷ []) 0 x (omega arith)), some)
  | inr none ↦
      let (y, c, some) = some_weighs g xs (omega (arith, h, none, sum_by-cons g x xs)) in
      (y, Contains-append_right (x ∷ []) xs y c, some)
]

pub closes_parts : (l : Loaded) (x : Write) → 0 < closes l x → (x.place ≡ l.place) × (x.old ≡ l.word) × (l.epoch ≤ epoch_of x.new)
closes_parts l x h = (grind (arith, nat_tests), grind (arith, nat_tests), grind (arith, nat_tests))

pub known_lasts : (v : Core) (gone : List Cleared) (l : Loaded) → Lasts v gone l → IsKnown v gone l
known_lasts v gone l (inl e) = IsKnown.stands e
known_lasts v gone l (inr (inl some)) =
    let (x, c, weighs) = some_weighs (closes l) (writes_of v) some in
    let parts = closes_parts l x weighs in
    IsKnown.replaced x c parts.0 parts.1 parts.2
known_lasts v gone l (inr (inr c)) = IsKnown.taken_out c

-- A step of a mutator, told by what it does to words and logs: it leaves the words, and log and mailbox hold the same writes,
pub record IsPlain (op : Op) (word : ℕ) (p q : Private) (box left : Contents) : Type 0 where
  pub words : (cells : Cells) → cell cells op ≡ word → (with_cell cells op (written op word)).words ≡ cells.words
  pub same : (g : Write → ℕ) → wrote g q.log + wrote g left ≡ wrote g p.log + wrote g box

-- or it exchanges a word and logs it.
pub record IsPut (op : Op) (word : ℕ) (p q : Private) (box left : Contents) : Type 0 where
  pub place : ℕ
  pub new : ℕ
  pub operation : op ≡ ops.SwapField place new
  pub stamp : epoch_of new ≡ p.epoch
  pub stamped : (stamp_of new).epoch ≡ p.epoch
  pub writer : (stamp_of new).writer ≡ p.number
  pub here : TakesBox p.phase → ⊥
  pub settled : p.phase ≢ at.Giving
  pub more : (g : Write → ℕ) → wrote g q.log + wrote g left ≡ wrote g p.log + wrote g box + g (record { place = place; new = new; old = word })

module _ {p q : Private} {word : ℕ} {box left : Contents} {op : Op} (leaves : LeavesBox p box left) where
  plain_as : (its_op : Op) → op ≡ its_op → LeavesWords word its_op → (TakesBox p.phase → ⊥) → ((g : Write → ℕ) → wrote g q.log ≡ wrote g p.log) → IsPlain op word p q box left
  plain_as its_op is words other same = record {
    words = subst (LeavesWords word) (sym is) words;
    same = λ g. omega (arith, same g, ap (wrote g) (box_stays leaves other));
  }

  plain_decides : {cmd : Cmd} {phase : phases.Phase} {its_op : Op} {registers : List (Option ℕ)} {told : Told} → Decides p op q cmd phase its_op registers p.log.entries told → LeavesWords word its_op → (TakesBox phase → ⊥) → IsPlain op word p q box left
  plain_decides {its_op = its_op} d words other = plain_as its_op d.operation words (λ e. other (subst TakesBox d.phase e)) (λ g. ap (λ (x : Private). wrote g x.log) d.after)

  plain_goes : {phase next : phases.Phase} {its_op : Op} → GoesOn p op q phase its_op next → LeavesWords word its_op → (TakesBox phase → ⊥) → IsPlain op word p q box left
  plain_goes {its_op = its_op} d words other = plain_as its_op d.operation words (λ e. other (subst TakesBox d.phase e)) (λ g. ap (λ (x : Private). wrote g x.log) d.after)

pub step_logs : {p q : Private} {word : ℕ} {box left : Contents} {op : Op} → p.dates ≡ true → IsMachine p → Step p word box op q → LeavesBox p box left → IsPlain op word p q box left ⊎ IsPut op word p q box left
step_logs some m (Step.null reg d) b = inl (plain_decides b d (λ cells e. refl) (λ e. e))
step_logs some m (Step.copy dst src d) b = inl (plain_decides b d (λ cells e. refl) (λ e. e))
step_logs some m (Step.compare x y d) b = inl (plain_decides b d (λ cells e. refl) (λ e. e))
step_logs some m (Step.park d) b = inl (plain_decides b d (λ cells e. refl) (λ e. e))
step_logs some m (Step.unpark d) b = inl (plain_decides b d (λ cells e. refl) (λ e. e))
step_logs some m (Step.get_of_null dst src f none d) b = inl (plain_decides b d (λ cells e. refl) (λ e. e))
step_logs {word = word} some m (Step.get dst src f slot is d) b = inl (plain_decides b d (load_leaves _ word) (λ e. e))
step_logs some m (Step.put_of_null src f val none d) b = inl (plain_decides b d (λ cells e. refl) (λ e. e))
step_logs some m (Step.put_refused src f val slot is full d) b = inl (plain_decides b d (λ cells e. refl) (λ e. e))
step_logs some m (Step.put_into_leaf src f val slot is room leaf d) b = inl (plain_decides b d (λ cells e. refl) (λ e. e))
step_logs some m (Step.put_begins src f val slot is room unmarked d) b = inl (plain_goes b d (λ cells e. refl) (λ e. e))
step_logs {p} {q} {word} {box} {left} some m (Step.put src f val slot d) b =
    let store : IsStore p src f val slot = (at_phase p (at.Storing src f val slot) m d.phase).0 in
    let room : HasRoom p = λ full. omega (arith, store.room, full) in
    let other : TakesBox p.phase → ⊥ = subst TakesBox d.phase in
    let settled : p.phase ≢ at.Giving = λ e. let x : at.Storing src f val slot ≡ at.Giving = sym d.phase ∙ e in cc in
    inr (record {
      place = place_of slot f p.fields;
      new = word_for p val;
      operation = d.operation;
      stamp = epoch_of_put p val m store.stamp room some;
      stamped = ap (λ (x : Stamp). x.epoch) (word_stamp p val m store.stamp room);
      writer = ap (λ (x : Stamp). x.writer) (word_stamp p val m store.stamp room);
      here = other;
      settled = settled;
      more = λ g. omega (arith, ap (λ (x : Private). wrote g x.log) d.after, writes_more g p.log.entries (place_of slot f p.fields) (word_for p val) word, ap (wrote g) (box_stays b other));
    })
step_logs some m (Step.value_of_null reg none d) b = inl (plain_decides b d (λ cells e. refl) (λ e. e))
step_logs some m (Step.value reg slot is d) b = inl (plain_decides b d (λ cells e. refl) (λ e. e))
step_logs some m (Step.new_refused reg label leaf full d) b = inl (plain_decides b d (λ cells e. refl) (λ e. e))
step_logs some m (Step.new_begins reg label leaf room d) b = inl (plain_goes b d (λ cells e. refl) (λ e. e))
step_logs {p} {q} some m (Step.new_wins reg label leaf before probed free d) b =
    let other : TakesBox p.phase → ⊥ = subst TakesBox d.phase in
    inl (plain_as b (ops.ClaimHeader (probe_of p probed) (header_word leaf label)) d.operation (λ cells e. refl) other (λ g. ap (λ (x : Private). wrote g x.log) d.after ∙ writes_same g p.log.entries (probe_of p probed) leaf))
step_logs some m (Step.new_goes_on reg label leaf before probed taken next d) b = inl (plain_goes b d (λ cells e. refl) (λ e. e))
step_logs some m (Step.new_finds_none reg label leaf before probed taken last d) b = inl (plain_goes b d (λ cells e. refl) (λ e. e))
step_logs some m (Step.new_is_full reg label leaf before still d) b = inl (plain_decides b d (λ cells e. refl) (λ e. e))
step_logs some m (Step.new_is_busy reg label leaf before swept d) b = inl (plain_decides b d (λ cells e. refl) (λ e. e))
step_logs some m (Step.leave_refused uncollected d) b = inl (plain_decides b d (λ cells e. refl) (λ e. e))
step_logs some m (Step.leave_begins collected d) b = inl (plain_goes b d (λ cells e. refl) (λ e. e))
step_logs {p} {q} {word} {box} {left} some m (Step.leave l) b = inl (record {
  words = subst (LeavesWords word) (sym l.operation) (λ cells e. refl);
  same = λ g. omega (arith, ap (λ (x : Private). wrote g x.log) l.after, gives g b);
})
  where
    gives : (g : Write → ℕ) → LeavesBox p box left → wrote g left ≡ wrote g p.log
    gives g (LeavesBox.retires phase is) = ap (wrote g) is
    gives g (LeavesBox.lets_go phase is) = ap (wrote g) is
    gives g (LeavesBox.keeps other is) = absurd (other (subst TakesBox (sym l.phase) tt))
step_logs {p} {q} some m (Step.leave_ends l) b = inl (plain_as b _ l.operation (λ cells e. refl) (subst TakesBox l.phase) (λ g. ap (λ (x : Private). wrote g x.log) l.after))
step_logs some m (Step.poll_stays own d) b = inl (plain_goes b d (λ cells e. refl) (λ e. e))
step_logs some m (Step.poll_crosses other d) b = inl (plain_goes b d (λ cells e. refl) (λ e. e))
step_logs {p} {q} {word} {box} {left} some m (Step.take_box d) b = inl (record {
  words = subst (LeavesWords word) (sym d.operation) (λ cells e. refl);
  same = λ g. omega (arith, ap (λ (x : Private). wrote g x.log) d.after, gives g b);
})
  where
    gives : (g : Write → ℕ) → LeavesBox p box left → wrote g left ≡ wrote g p.log
    gives g (LeavesBox.retires phase is) = ap (wrote g) is
    gives g (LeavesBox.lets_go phase is) = ap (wrote g) is
    gives g (LeavesBox.keeps other is) = absurd (other (subst TakesBox (sym d.phase) tt))
step_logs {p} {q} some m (Step.give_box d) b =
    let other : TakesBox p.phase → ⊥ = subst TakesBox d.phase in
    inl (plain_as b _ d.operation (λ cells e. refl) other (λ g. ap (λ (x : Private). wrote g x.log) d.after))

-- a mutator is behind the requested epoch by one at most, and not at all unless its turn in a gathering is still to come
own_late : (config : Config) (requested : ℕ) (p : Private) (crossing : ℕ) (b : Contents) (stand : Handshake) → p.left ≡ false → IsHandshake config requested p crossing b stand → requested - 1 ≤ p.epoch
own_late config requested p crossing b Handshake.Done present (inl (crossed, there, spare)) = omega (arith, crossed.epoch)
own_late config requested p crossing b Handshake.Done present (inr (inl (crosses, parting))) = omega (arith, crosses.epoch)
own_late config requested p crossing b Handshake.Done present (inr (inr retired)) = omega (arith, retired.epoch)
own_late config requested p crossing b Handshake.Held present h = omega (arith, h.0.epoch)
own_late config requested p crossing b Handshake.Due present (inl behind) = omega (arith, behind.epoch)
own_late config requested p crossing b Handshake.Due present (inr (inl crosses)) = omega (arith, crosses.epoch)
own_late config requested p crossing b Handshake.Due present (inr (inr (crossed, last))) = omega (arith, crossed.epoch)
own_late config requested p crossing b Handshake.Gone present gone = absurd (false≢true (sym present ∙ gone.left))

home_late : (config : Config) (requested : ℕ) (p : Private) (crossing : ℕ) (b : Contents) (gone : Bool) → p.left ≡ false → IsHandshake config requested p crossing b (if gone then Handshake.Gone else Handshake.Done) → requested ≤ p.epoch
home_late config requested p crossing b true present gone = absurd (false≢true (sym present ∙ gone.left))
home_late config requested p crossing b false present (inl (crossed, there, spare)) = omega (arith, crossed.epoch)
home_late config requested p crossing b false present (inr (inl (crosses, parting))) = omega (arith, crosses.epoch)
home_late config requested p crossing b false present (inr (inr retired)) = omega (arith, retired.epoch)

late_at : (config : Config) (requested t : ℕ) (p : Private) (crossing : ℕ) (b : Contents) (left : List Bool) (phase : Phase) → p.left ≡ false → IsHandshake config requested p crossing b (stand_at left phase t) → tried_at requested phase ≤ p.epoch
late_at config requested t p crossing b left (Looking u) present h = own_late config requested p crossing b (stand_at left (Looking u) t) present h
late_at config requested t p crossing b left (Swapping u) present h = own_late config requested p crossing b (stand_at left (Swapping u) t) present h
late_at config requested t p crossing b left (Returning u) present h = own_late config requested p crossing b (stand_at left (Returning u) t) present h
late_at config requested t p crossing b left _ present h = omega (arith, home_late config requested p crossing b (has_left left t) present h)

-- a step of a mutator
module _ (w : Core) (t : ℕ) (kept : IsKept true w) (is : IsMutator w.config t) (busy : is_busy (mutator w t) ≡ true) where
  abbrev p : Private
  p = mutator w t

  abbrev word : ℕ
  word = found_by w t

  abbrev own_box : Contents
  own_box = box w t

  abbrev own : Private
  own = step_of p word own_box

  abbrev left : Contents
  left = left_of (took_of p word) own_box

  pub step_sums : (g : Write → ℕ) → sum_by g (writes_of (stepped w t)) + (wrote g p.log + wrote g own_box) ≡ sum_by g (writes_of w) + (wrote g own.log + wrote g left)
  step_sums g =
      let boxes : length w.boxes ≡ w.config.mutators = kept.mutators.mailboxes in
      omega (
        arith,
        writes_sum g (stepped w t),
        writes_sum g w,
        sum_by-set (λ (x : Private). wrote g x.log) w.mutators (t - 1) own nobody (in_list w t kept is),
        zip_sum-set (wrote_in_box g) w.mutators w.boxes (t - 1) own nobody left (collectors.blank 0 0) (in_list w t kept is) (omega (arith, boxes, is.0, is.1)),
      )

  logged_keeps : IsPlain (next_of p) word p own own_box left ⊎ IsPut (next_of p) word p own own_box left → Keeps w (stepped w t) [] (tried_in w)
  logged_keeps (inl plain) = record {
    words = λ place. Goes.stays (ap (λ ws. slice_index_or ws place 0) (plain.words (cells_of w) refl));
    writes = λ g early. omega (arith, step_sums g, plain.same g);
  }
  logged_keeps (inr put) = record {
    words = λ place. elim (cases_eq place put.place) [
      | inl same ↦
          let found : word ≡ slice_index_or w.words put.place 0 = ap (cell (cells_of w)) put.operation in
          let late : tried_in w ≤ p.epoch = late_at w.config w.epoch t p (crossing_of w t) own_box w.collector.left w.collector.phase (busy_stays (actor_of w t kept is).own busy) (actor_of w t kept is).handshake in
          subst (Goes w (stepped w t) [] (tried_in w)) (sym same) (Goes.written_over put.new (omega (arith, late, put.stamp)) (λ g. omega (arith, step_sums g, put.more g, ap (λ o. g (record { place = put.place; new = put.new; old = o })) found)))
      | inr other ↦ Goes.stays (ap (λ (o : Op). slice_index_or (with_cell (cells_of w) o (written o word)).words place 0) put.operation ∙ get_or-set_other w.words put.place place put.new 0 other)
    ];
    writes = λ g early. omega (arith, step_sums g, put.more g);
  }

  -- of what weighs nothing where the stamp's epoch is the date, a step adds nothing
  pub step_less : (g : Write → ℕ) → ((place new old : ℕ) → epoch_of new ≡ (stamp_of new).epoch → g (record { place = place; new = new; old = old }) ≡ 0) → sum_by g (writes_of (stepped w t)) ≤ sum_by g (writes_of w)
  step_less g none =
      let actor = actor_of w t kept is in
      let whole = whole_made p word own_box busy actor.own.between in
      elim (step_logs actor.own.dates actor.own.machine whole.own whole.mailbox) [
        | inl plain ↦ omega (arith, step_sums g, plain.same g)
        | inr put ↦ omega (arith, step_sums g, put.more g, none put.place put.new word (put.stamp ∙ sym put.stamped))
      ]

  step_keeps : Keeps w (stepped w t) [] (tried_in w)
  step_keeps =
      let actor = actor_of w t kept is in
      let whole = whole_made p word own_box busy actor.own.between in
      let numbered : 0 < p.number = omega (arith, actor.own.number, is.0) in
      logged_keeps (step_logs actor.own.dates actor.own.machine whole.own whole.mailbox)

-- what a turn of the collector does to its buffers: nothing, or the older ones are cleared and become the newer ones
data Rows (p q : collectors.Private) : Type 0 where
  kept_rows : q.newer ≡ p.newer → q.older ≡ p.older → Rows p q
  turned_rows : q.newer ≡ map cleared p.older → q.older ≡ p.newer → Rows p q

-- the same from a record with these buffers
rows_as : {p r q : collectors.Private} → r.newer ≡ p.newer → r.older ≡ p.older → Rows r q → Rows p q
rows_as newer older (Rows.kept_rows a b) = Rows.kept_rows (a ∙ newer) (b ∙ older)
rows_as newer older (Rows.turned_rows a b) = Rows.turned_rows (a ∙ ap (map cleared) older) (b ∙ newer)

goes_rows : (p q : collectors.Private) (w : Parts) (turn : Turn) (next : Phase) → collectors_step.GoesOn (with_parts p w) q turn next → Rows p q
goes_rows p q w turn next g = Rows.kept_rows (ap (λ (x : collectors.Private). x.newer) g.after) (ap (λ (x : collectors.Private). x.older) g.after)

ends_rows : (p q : collectors.Private) (w : Parts) (turn : Turn) (swept : ℕ) → collectors_step.Ends (with_parts p w) q turn swept → Rows p q
ends_rows p q w turn swept e = Rows.turned_rows (ap (λ (x : collectors.Private). x.newer) e.after) (ap (λ (x : collectors.Private). x.older) e.after)

prepares_rows : (p q : collectors.Private) (w : Parts) (v : preps.Work) (turn : Turn) → collectors_step.PreparesOn p w v q turn → Rows p q
prepares_rows p q w v turn (collectors_step.PreparesOn.more busy g) = goes_rows p q (record w { counts = v.counts }) turn _ g
prepares_rows p q w v turn (collectors_step.PreparesOn.sweeps_next done some g) = goes_rows p q (record w { counts = v.counts }) turn _ g
prepares_rows p q w v turn (collectors_step.PreparesOn.completes done none e) = ends_rows p q (record w { counts = v.counts }) turn _ e

tries_rows : (p q : collectors.Private) (w : Parts) (v : trials.Work) (turn : Turn) → collectors_step.TriesOn p w v q turn → Rows p q
tries_rows p q w v turn (collectors_step.TriesOn.more busy g) = goes_rows p q (record w { counts = v.counts }) turn _ g
tries_rows p q w v turn (collectors_step.TriesOn.prepares done on) = prepares_rows p q _ _ turn on

clears_rows : (p q : collectors.Private) (turn : Turn) {b : Begun} → collectors_step.ClearsOn p q turn b → Rows p q
clears_rows p q turn {b} (collectors_step.ClearsOn.works phase at g) = goes_rows p q b.parts turn _ g
clears_rows p q turn (collectors_step.ClearsOn.tests c none some tested on) = clears_rows p q turn on
clears_rows p q turn (collectors_step.ClearsOn.tries none empty due on) = tries_rows p q _ _ turn on
clears_rows p q turn (collectors_step.ClearsOn.waits none empty off on) = prepares_rows p q _ _ turn on

-- cleared buffers have no writes
cleared_none : (g : Write → ℕ) (row : List Contents) → sum_by (wrote g) (map cleared row) ≡ 0
cleared_none g [] = refl
cleared_none g (b ∷ row) = omega (arith, sum_by-cons (wrote g) (cleared b) (map cleared row), cleared_none g row)

-- the older buffers are of an epoch before the one that was requested for the last trial
older_early : (first collections requested : ℕ) (phase : Phase) → 1 ≤ first → first + collections + collector_kept.under_way phase ≡ requested → older_at requested phase < tried_at requested phase
older_early first collections requested Idle some e = omega (arith, e)
older_early first collections requested _ some e = omega (arith, e)

-- what one operation of the collector does to a word
op_goes : (w v : Core) (op : Op) (epoch place slots fields mutators : ℕ) → v.words ≡ (with_cell (cells_of w) op (written op (cell (cells_of w) op))).words → collectors_step.NamesWord slots fields mutators op → Goes w v (cleared_by w (Some op)) epoch place
op_goes w v (ops.StoreEpoch e) epoch place slots fields mutators is names = Goes.stays (ap (λ ws. slice_index_or ws place 0) is)
op_goes w v (ops.LookBox t e) epoch place slots fields mutators is names = Goes.stays (ap (λ ws. slice_index_or ws place 0) is)
op_goes w v (ops.ReturnBox t e) epoch place slots fields mutators is names = Goes.stays (ap (λ ws. slice_index_or ws place 0) is)
op_goes w v (ops.LoadChild x) epoch place slots fields mutators is names = Goes.stays (ap (λ ws. slice_index_or ws place 0) (is ∙ set-get_or w.words x 0))
op_goes w v (ops.ClearField x) epoch place slots fields mutators is names = elim (cases_eq place x) [
  | inl same ↦ subst (Goes w v (cleared_by w (Some (ops.ClearField x))) epoch) (sym same) (Goes.goes_out (Contains-get_or (cleared_by w (Some (ops.ClearField x))) 0 (record { place = x; word = slice_index_or w.words x 0 }) (omega arith)))
  | inr other ↦ Goes.stays (ap (λ ws. slice_index_or ws place 0) is ∙ get_or-set_other w.words x place 0 0 other)
]
op_goes w v (ops.FreeHeader x) epoch place slots fields mutators is names = Goes.stays (ap (λ ws. slice_index_or ws place 0) is)
op_goes w v ops.AddFreed epoch place slots fields mutators is names = Goes.stays (ap (λ ws. slice_index_or ws place 0) is)
op_goes w v _ epoch place slots fields mutators is names = absurd names

-- a turn of the collector
module _ (w : Core) (op : Op) (kept : IsKept true w) (named : ◌≡◌ {A = Option Op} (collectors_next.next_of w.collector) (Some op)) where
  open w use {collector as c}
  open (parts_of_turn w op) use {found, its_box, q, v}

  -- where nothing is gathered the mailboxes stay
  boxes_stay : {phase : Phase} → c.phase ≡ phase → left_by c found its_box phase ≡ its_box → v.boxes ≡ w.boxes
  boxes_stay {phase} at same = ap (slice_set w.boxes (looked_at c.phase - 1)) (ap (left_by c found its_box) at ∙ same) ∙ same_boxes w (looked_at c.phase)

  older_none : (g : Write → ℕ) → ((x : Write) → epoch_of x.new < tried_in w → g x ≡ 0) → sum_by (wrote g) c.older ≡ 0
  older_none g early =
      let both : length c.older ≡ length c.newer = kept.collector.machine.both in
      let many : length c.newer ≡ w.config.mutators = kept.collector.mutators in
      none_of (wrote g) c.older (collectors.blank 0 0) (λ i below.
      let at : i + 1 - 1 ≡ i = omega arith in
      let one : IsBufferOf true w.config (older_at w.epoch c.phase) (slice_index_or c.older i (collectors.blank 0 0)) = subst (λ n. IsBufferOf true w.config (older_at w.epoch c.phase) (slice_index_or c.older n (collectors.blank 0 0))) at (kept.collector.older (i + 1) (omega arith, omega (arith, below, both, many))) in
      early_writes g (older_at w.epoch c.phase) (tried_in w) (slice_index_or c.older i (collectors.blank 0 0)).entries (older_early w.config.first_epoch c.collections w.epoch c.phase kept.config.some_epoch kept.collector.begun) early one.made)

  rows_keep : v.boxes ≡ w.boxes → Rows c q → (g : Write → ℕ) → ((x : Write) → epoch_of x.new < tried_in w → g x ≡ 0) → sum_by g (writes_of w) ≤ sum_by g (writes_of v)
  rows_keep boxes (Rows.kept_rows newer older) g early = omega (arith, writes_sum g v, writes_sum g w, ap (λ bs. sum_by (wrote_in_box g) (zip w.mutators bs)) boxes, ap (sum_by (wrote g)) newer, ap (sum_by (wrote g)) older)
  rows_keep boxes (Rows.turned_rows newer older) g early = omega (arith, writes_sum g v, writes_sum g w, ap (λ bs. sum_by (wrote_in_box g) (zip w.mutators bs)) boxes, ap (sum_by (wrote g)) newer, ap (sum_by (wrote g)) older, cleared_none g c.older, older_none g early)

  -- and nothing more is written
  rows_less : v.boxes ≡ w.boxes → Rows c q → (g : Write → ℕ) → sum_by g (writes_of v) ≤ sum_by g (writes_of w)
  rows_less boxes (Rows.kept_rows newer older) g = omega (arith, writes_sum g v, writes_sum g w, ap (λ bs. sum_by (wrote_in_box g) (zip w.mutators bs)) boxes, ap (sum_by (wrote g)) newer, ap (sum_by (wrote g)) older)
  rows_less boxes (Rows.turned_rows newer older) g = omega (arith, writes_sum g v, writes_sum g w, ap (λ bs. sum_by (wrote_in_box g) (zip w.mutators bs)) boxes, ap (sum_by (wrote g)) newer, ap (sum_by (wrote g)) older, cleared_none g c.older)

  -- a mailbox is gathered: its buffer is one of the newer ones, in the place of a spare
  gathered_keep : (t : ℕ) → c.phase ≡ Looking t → found ≡ crossing_word c.epoch Retired → q.newer ≡ slice_set c.newer (t - 1) its_box → q.older ≡ c.older → (g : Write → ℕ) → sum_by g (writes_of w) ≤ sum_by g (writes_of v)
  gathered_keep t at crossed newer older g =
      let now = now_at w (Looking t) kept at in
      let many : length c.newer ≡ w.config.mutators = kept.collector.mutators in
      let all : length w.mutators ≡ w.config.mutators = kept.mutators.many in
      let boxes : length w.boxes ≡ w.config.mutators = kept.mutators.mailboxes in
      let first : 0 < t = now.first in
      let there : t ≤ length c.newer = now.there in
      let looked : looked_at c.phase ≡ t = ap looked_at at in
      let b : its_box ≡ box w t = ap (box w) looked in
      let left : left_by c found its_box c.phase ≡ collectors.spare c = ap (left_by c found its_box) at ∙ cond-true (found == crossing_word c.epoch Retired) _ _ (eq-eqb found (crossing_word c.epoch Retired) crossed) in
      let filled : v.boxes ≡ slice_set w.boxes (t - 1) (collectors.spare c) = ap (λ n. slice_set w.boxes (n - 1) (left_by c found its_box c.phase)) looked ∙ ap (slice_set w.boxes (t - 1)) left in
      let was : slice_index_or c.newer (t - 1) (collectors.blank 0 0) ≡ collectors.spare c = now.spares (t - 1) (omega arith) (omega (arith, first, there)) in
      omega (
        arith,
        writes_sum g v,
        writes_sum g w,
        ap (λ bs. sum_by (wrote_in_box g) (zip w.mutators bs)) filled,
        ap (sum_by (wrote g)) (newer ∙ ap (slice_set c.newer (t - 1)) b),
        ap (sum_by (wrote g)) older,
        zip_sum-set_second (wrote_in_box g) w.mutators w.boxes (t - 1) nobody (collectors.spare c) (collectors.blank 0 0) (omega (arith, first, there, many, all)) (omega (arith, first, there, many, boxes)),
        sum_by-set (wrote g) c.newer (t - 1) (box w t) (collectors.blank 0 0) (omega (arith, first, there)),
        ap (wrote g) was,
      )

  writes_keep : {turn : Turn} → collectors_step.Step c found its_box (Some op) q turn → (g : Write → ℕ) → ((x : Write) → epoch_of x.new < tried_in w → g x ≡ 0) → sum_by g (writes_of w) ≤ sum_by g (writes_of v)
  writes_keep (collectors_step.Step.spent at last none is turn) = let n : ◌≡◌ {A = Option Op} (Some op) None = none in absurd (cc)
  writes_keep (collectors_step.Step.request next at more is n g) = rows_keep (boxes_stay at refl) (Rows.kept_rows (ap (λ (x : collectors.Private). x.newer) g.after) (ap (λ (x : collectors.Private). x.older) g.after))
  writes_keep (collectors_step.Step.request_alone at more is gone on) = rows_keep (boxes_stay at refl) (rows_as refl refl (clears_rows (requested c) q _ on))
  writes_keep (collectors_step.Step.cross_for t next at crosses is n g) = absurd (crosses_none w t kept at op found is refl crosses)
  writes_keep (collectors_step.Step.cross_for_last t at crosses is gone on) = absurd (crosses_none w t kept at op found is refl crosses)
  writes_keep (collectors_step.Step.wait t at unmoved is same turn) = rows_keep (boxes_stay at (cond-false (found == crossing_word c.epoch Retired) _ _ (ne_eqb found (crossing_word c.epoch Retired) (waits_other w t kept at op found is refl unmoved)))) (Rows.kept_rows (ap (λ (x : collectors.Private). x.newer) same) (ap (λ (x : collectors.Private). x.older) same))
  writes_keep (collectors_step.Step.gather t at takes is g) = λ weight early. gathered_keep t at (takes_retired w t kept at op found is refl takes) (ap (λ (x : collectors.Private). x.newer) g.after) (ap (λ (x : collectors.Private). x.older) g.after) weight
  writes_keep (collectors_step.Step.give_back t next at is n g) = rows_keep (boxes_stay at refl) (Rows.kept_rows (ap (λ (x : collectors.Private). x.newer) g.after) (ap (λ (x : collectors.Private). x.older) g.after))
  writes_keep (collectors_step.Step.apply t at is gone on) = rows_keep (boxes_stay at refl) (rows_as refl refl (clears_rows (noted c t) q _ on))
  writes_keep (collectors_step.Step.release m at is on) = rows_keep (boxes_stay at refl) (clears_rows c q _ on)
  writes_keep (collectors_step.Step.freeing m at is on) = rows_keep (boxes_stay at refl) (clears_rows c q _ on)
  writes_keep (collectors_step.Step.trial m at is on) = rows_keep (boxes_stay at refl) (tries_rows c q _ _ _ on)
  writes_keep (collectors_step.Step.preparation m at is on) = rows_keep (boxes_stay at refl) (prepares_rows c q _ _ _ on)
  writes_keep (collectors_step.Step.begin_sweep at is g) = rows_keep (boxes_stay at refl) (Rows.kept_rows (ap (λ (x : collectors.Private). x.newer) g.after) (ap (λ (x : collectors.Private). x.older) g.after))
  writes_keep (collectors_step.Step.sweep due swept u next at is took follows g) = rows_keep (boxes_stay at refl) (Rows.kept_rows (ap (λ (x : collectors.Private). x.newer) g.after) (ap (λ (x : collectors.Private). x.older) g.after))
  writes_keep (collectors_step.Step.end_sweep swept at is e) = rows_keep (boxes_stay at refl) (Rows.turned_rows (ap (λ (x : collectors.Private). x.newer) e.after) (ap (λ (x : collectors.Private). x.older) e.after))

  gathered_less : (t : ℕ) → c.phase ≡ Looking t → found ≡ crossing_word c.epoch Retired → q.newer ≡ slice_set c.newer (t - 1) its_box → q.older ≡ c.older → (g : Write → ℕ) → sum_by g (writes_of v) ≤ sum_by g (writes_of w)
  gathered_less t at crossed newer older g =
      let now = now_at w (Looking t) kept at in
      let many : length c.newer ≡ w.config.mutators = kept.collector.mutators in
      let all : length w.mutators ≡ w.config.mutators = kept.mutators.many in
      let boxes : length w.boxes ≡ w.config.mutators = kept.mutators.mailboxes in
      let first : 0 < t = now.first in
      let there : t ≤ length c.newer = now.there in
      let looked : looked_at c.phase ≡ t = ap looked_at at in
      let b : its_box ≡ box w t = ap (box w) looked in
      let left : left_by c found its_box c.phase ≡ collectors.spare c = ap (left_by c found its_box) at ∙ cond-true (found == crossing_word c.epoch Retired) _ _ (eq-eqb found (crossing_word c.epoch Retired) crossed) in
      let filled : v.boxes ≡ slice_set w.boxes (t - 1) (collectors.spare c) = ap (λ n. slice_set w.boxes (n - 1) (left_by c found its_box c.phase)) looked ∙ ap (slice_set w.boxes (t - 1)) left in
      let was : slice_index_or c.newer (t - 1) (collectors.blank 0 0) ≡ collectors.spare c = now.spares (t - 1) (omega arith) (omega (arith, first, there)) in
      omega (
        arith,
        writes_sum g v,
        writes_sum g w,
        ap (λ bs. sum_by (wrote_in_box g) (zip w.mutators bs)) filled,
        ap (sum_by (wrote g)) (newer ∙ ap (slice_set c.newer (t - 1)) b),
        ap (sum_by (wrote g)) older,
        zip_sum-set_second (wrote_in_box g) w.mutators w.boxes (t - 1) nobody (collectors.spare c) (collectors.blank 0 0) (omega (arith, first, there, many, all)) (omega (arith, first, there, many, boxes)),
        sum_by-set (wrote g) c.newer (t - 1) (box w t) (collectors.blank 0 0) (omega (arith, first, there)),
        ap (wrote g) was,
      )

  writes_less : {turn : Turn} → collectors_step.Step c found its_box (Some op) q turn → (g : Write → ℕ) → sum_by g (writes_of v) ≤ sum_by g (writes_of w)
  writes_less (collectors_step.Step.spent at last none is turn) = let n : ◌≡◌ {A = Option Op} (Some op) None = none in absurd (cc)
  writes_less (collectors_step.Step.request next at more is n g) = rows_less (boxes_stay at refl) (Rows.kept_rows (ap (λ (x : collectors.Private). x.newer) g.after) (ap (λ (x : collectors.Private). x.older) g.after))
  writes_less (collectors_step.Step.request_alone at more is gone on) = rows_less (boxes_stay at refl) (rows_as refl refl (clears_rows (requested c) q _ on))
  writes_less (collectors_step.Step.cross_for t next at crosses is n g) = absurd (crosses_none w t kept at op found is refl crosses)
  writes_less (collectors_step.Step.cross_for_last t at crosses is gone on) = absurd (crosses_none w t kept at op found is refl crosses)
  writes_less (collectors_step.Step.wait t at unmoved is same turn) = rows_less (boxes_stay at (cond-false (found == crossing_word c.epoch Retired) _ _ (ne_eqb found (crossing_word c.epoch Retired) (waits_other w t kept at op found is refl unmoved)))) (Rows.kept_rows (ap (λ (x : collectors.Private). x.newer) same) (ap (λ (x : collectors.Private). x.older) same))
  writes_less (collectors_step.Step.gather t at takes is g) = λ weight. gathered_less t at (takes_retired w t kept at op found is refl takes) (ap (λ (x : collectors.Private). x.newer) g.after) (ap (λ (x : collectors.Private). x.older) g.after) weight
  writes_less (collectors_step.Step.give_back t next at is n g) = rows_less (boxes_stay at refl) (Rows.kept_rows (ap (λ (x : collectors.Private). x.newer) g.after) (ap (λ (x : collectors.Private). x.older) g.after))
  writes_less (collectors_step.Step.apply t at is gone on) = rows_less (boxes_stay at refl) (rows_as refl refl (clears_rows (noted c t) q _ on))
  writes_less (collectors_step.Step.release m at is on) = rows_less (boxes_stay at refl) (clears_rows c q _ on)
  writes_less (collectors_step.Step.freeing m at is on) = rows_less (boxes_stay at refl) (clears_rows c q _ on)
  writes_less (collectors_step.Step.trial m at is on) = rows_less (boxes_stay at refl) (tries_rows c q _ _ _ on)
  writes_less (collectors_step.Step.preparation m at is on) = rows_less (boxes_stay at refl) (prepares_rows c q _ _ _ on)
  writes_less (collectors_step.Step.begin_sweep at is g) = rows_less (boxes_stay at refl) (Rows.kept_rows (ap (λ (x : collectors.Private). x.newer) g.after) (ap (λ (x : collectors.Private). x.older) g.after))
  writes_less (collectors_step.Step.sweep due swept u next at is took follows g) = rows_less (boxes_stay at refl) (Rows.kept_rows (ap (λ (x : collectors.Private). x.newer) g.after) (ap (λ (x : collectors.Private). x.older) g.after))
  writes_less (collectors_step.Step.end_sweep swept at is e) = rows_less (boxes_stay at refl) (Rows.turned_rows (ap (λ (x : collectors.Private). x.newer) e.after) (ap (λ (x : collectors.Private). x.older) e.after))

  pub op_less : (g : Write → ℕ) → sum_by g (writes_of v) ≤ sum_by g (writes_of w)
  op_less = writes_less (rule_of w op kept named)

  pub op_keeps : Keeps w v (cleared_by w (Some op)) (tried_in w)
  op_keeps =
      let names : collectors_step.NamesWord (length c.counts.slots) c.fields (length c.newer) op = subst (λ (o : Option Op). IfSome o (collectors_step.NamesWord (length c.counts.slots) c.fields (length c.newer))) named (names_word c kept.collector.machine) in
      record {
        words = λ place. op_goes w v op (tried_in w) place (length c.counts.slots) c.fields (length c.newer) refl names;
        writes = writes_keep (rule_of w op kept named);
      }

-- what changes nothing that is loaded
same_keeps : (w v : Core) (epoch : ℕ) → v.words ≡ w.words → ((g : Write → ℕ) → sum_by g (writes_of w) ≤ sum_by g (writes_of v)) → Keeps w v [] epoch
same_keeps w v epoch words writes = record { words = λ place. Goes.stays (ap (λ ws. slice_index_or ws place 0) words); writes = λ g _. writes g }

turn_keeps : (w : Core) → IsKept true w → Keeps w (turned w) (cleared_in w Move.Turns) (tried_in w)
turn_keeps w kept = turn_case w (λ o v. Keeps w v (cleared_by w o) (tried_in w)) (λ none. same_keeps w w (tried_in w) refl (λ g. omega arith)) (λ op named. op_keeps w op kept named)

begun_keeps : (w : Core) (t : ℕ) (work : Work) (from : ℕ) → IsKept true w → IsMutator w.config t → Keeps w (begun_from w t work from) [] (tried_in w)
unfolding begun_of
begun_keeps w t work from kept is = same_keeps w (begun_from w t work from) (tried_in w) refl (λ g. omega (arith, writes_sum g (begun_from w t work from), writes_sum g w, sum_by-set (λ (x : Private). wrote g x.log) w.mutators (t - 1) (begun_of (mutator w t) work from) nobody (in_list w t kept is), zip_sum-first_same (wrote_in_box g) w.mutators w.boxes (t - 1) (begun_of (mutator w t) work from) nobody (λ b. refl)))

pub begun_less : (w : Core) (t : ℕ) (work : Work) (from : ℕ) → IsKept true w → IsMutator w.config t → (g : Write → ℕ) → sum_by g (writes_of (begun_from w t work from)) ≤ sum_by g (writes_of w)
unfolding begun_of
begun_less w t work from kept is g = omega (arith, writes_sum g (begun_from w t work from), writes_sum g w, sum_by-set (λ (x : Private). wrote g x.log) w.mutators (t - 1) (begun_of (mutator w t) work from) nobody (in_list w t kept is), zip_sum-first_same (wrote_in_box g) w.mutators w.boxes (t - 1) (begun_of (mutator w t) work from) nobody (λ b. refl))

-- each move keeps what was loaded
pub move_keeps : (w : Core) (m : Move) → IsKept true w → Fits w m → Keeps w (after_move w m) (cleared_in w m) (tried_in w)
move_keeps w (Move.Begins t work from) kept fits = begun_keeps w t work from kept fits.0
move_keeps w (Move.Steps t) kept fits = step_keeps w t kept fits.0 fits.1
move_keeps w Move.Turns kept fits = turn_keeps w kept
move_keeps w Move.Offers kept fits = same_keeps w (offering w) (tried_in w) refl (λ g. omega arith)

-- A poll leaves the mutators of a heap at rest: the one that crosses hands over a log without writes and births, with its registers as
-- the snapshot.
use Rattle.std.proofs.Common.{◌≡◌, ◌≢◌, inl, inr, ℕ, ◌+◌, ◌-◌, ◌<◌, ◌≤◌, ◌==◌, if◌then◌else◌, Bool, true, false, [], None, Some, length, slice_set, refl, sym, ap, subst, ◌∙◌, arith, add-zero}
use Rattle.std.proofs.lemmas.Bool.{cases_eq, false≢true}
use Rattle.std.proofs.lemmas.List.{set-get_or, get_or-set_same, get_or-set_other}
use Rattle.rec_core.proofs.Common.{crossing_word, Retired, WithMutator, Contents, next_of, next_at, Private, is_busy, is_busy_at, begun_of, took_of, took_at, swapped_of, swapped_at, left_of, left_at, retired, polled, crossed, blank, buffer_at, cell, IsMutator, Core, cells_of, mutator, box, crossing_of, nobody, with_mutator, IsCrossing, IsKept, stand_at, performed, stepped, begun, older_at, Move}
use Rattle.rec_word.specs.declared.op.Op.TheVariants as ops
use Rattle.rec_mutator.specs.Causes.{gives_back}
use Rattle.rec_mutator.specs.Took.{step_of, moved}
use Rattle.rec_mutator.specs.declared.made.Made.TheVariants as makes
use Rattle.rec_mutator.specs.declared.phase.Phase.{Phase}
use Rattle.rec_mutator.specs.declared.phase.Phase.TheVariants.{Begun, Crossing, Giving, Parting, Finished}
use Rattle.rec_mutator.specs.declared.work.Work.TheVariants as works
use Rattle.rec_settle.specs.Quiet.{IsRetired, gathered, IsQuietOf, AreQuiet}
use Rattle.rec_core.specs.Worked.{StepsTo, IsWorked}
use Rattle.rec_core.proofs.Actors.{crossing_due, giving_crosses}
use Rattle.rec_core.proofs.BareRuns.{move_kept, step_kept}

-- with this mutator, its crossing word and this in its mailbox
abbrev with_actor : Core → (t : ℕ) → Private → (word : ℕ) → Contents → Core
with_actor w t p word b = record w { mutators = slice_set w.mutators (t - 1) p; crossing = slice_set w.crossing (t - 1) word; boxes = slice_set w.boxes (t - 1) b }

-- the crossing word and the mailbox stay
same_actor : (w : Core) (t : ℕ) (p : Private) → with_actor w t p (crossing_of w t) (box w t) ≡ with_mutator w t p
same_actor w t p = rw (set-get_or w.crossing (t - 1) 0, set-get_or w.boxes (t - 1) (blank 0 0)) refl

-- what a step makes of a mutator in this phase, with the word that it finds
abbrev found_in : Core → (t : ℕ) → Phase → ℕ
found_in w t phase = cell (cells_of w) (next_at (mutator w t) phase)

abbrev learnt_in : Core → (t : ℕ) → Phase → Private
learnt_in w t phase = took_at (mutator w t) (found_in w t phase) phase

abbrev stepped_in : Core → (t : ℕ) → Phase → Core
stepped_in w t phase = performed w t (next_at (mutator w t) phase) (found_in w t phase) (swapped_of (learnt_in w t phase) (box w t)) (left_of (learnt_in w t phase) (box w t))

-- that of the phase that it is in
step_in : (w : Core) (t : ℕ) (phase : Phase) → (mutator w t).phase ≡ phase → stepped w t ≡ stepped_in w t phase
unfolding next_of took_of step_of
step_in w t phase is = ap (stepped_in w t) is

-- the first step of a poll loads the epoch word
poll_begins : (w : Core) (t : ℕ) → (mutator w t).phase ≡ Begun works.Poll → stepped w t ≡ with_actor w t (polled (mutator w t) w.epoch) (crossing_of w t) (box w t)
unfolding next_at took_at swapped_of swapped_at left_of left_at
poll_begins w t is = step_in w t (Begun works.Poll) is ∙ go (w.epoch == (mutator w t).epoch)
  where
    after : Bool → Private
    after same = moved (mutator w t) (if same then Finished works.Poll (makes.Crossed None) else Crossing)

    go : (same : Bool) → performed w t ops.LoadEpoch w.epoch (swapped_of (after same) (box w t)) (left_of (after same) (box w t)) ≡ with_actor w t (after same) (crossing_of w t) (box w t)
    go true = rw (set-get_or w.crossing (t - 1) 0, add-zero w.made) refl
    go false = rw (set-get_or w.crossing (t - 1) 0, add-zero w.made) refl

-- the second one takes the own mailbox: the retired log is left there
poll_takes : (w : Core) (t : ℕ) → (mutator w t).phase ≡ Crossing → (mutator w t).number ≡ t
    → stepped w t ≡ with_actor w t (moved (record (mutator w t) { log = box w t }) Giving) (crossing_word ((mutator w t).epoch + 1) WithMutator) (retired (mutator w t))
unfolding next_at took_at swapped_of swapped_at left_of left_at
poll_takes w t is number = step_in w t Crossing is ∙ rw (number, add-zero w.made) refl

-- the third one gives it back
poll_gives : (w : Core) (t : ℕ) → (mutator w t).phase ≡ Giving → (mutator w t).number ≡ t
    → stepped w t ≡ with_actor w t (crossed (mutator w t)) (crossing_word ((mutator w t).epoch + 1) Retired) (box w t)
unfolding next_at took_at swapped_of swapped_at left_of left_at
poll_gives w t is number = step_in w t Giving is ∙ rw (number, add-zero w.made) refl

-- the phases of a poll
abbrev IsOfPoll : Phase → Type 0
IsOfPoll (Begun works.Poll) = Unit {0}
IsOfPoll Crossing = Unit {0}
IsOfPoll Giving = Unit {0}
IsOfPoll (Finished work made) = Unit {0}
IsOfPoll _ = ⊥

-- Of a mutator at rest that polls, with its crossing word and its mailbox: as of one that doesn't, and where it is to give back its
-- mailbox, that holds its retired log already.
record IsPolling (first : ℕ) (w : Core) (t : ℕ) (p : Private) (word : ℕ) (b : Contents) : Type 0 where
  polls : IsOfPoll p.phase
  stays : p.left ≡ false
  log : first ≤ p.epoch → p.log.entries ≡ []
  box : (into : ℕ) → first < into → word ≡ crossing_word into Retired → IsRetired p.registers b
  held : first < w.epoch → p.phase ≡ Giving → IsRetired p.registers b
  newer : first < w.epoch → gathered w.collector.phase t ≡ true → IsRetired p.registers (buffer_at w.collector.newer (t - 1))
  older : first ≤ older_at w.epoch w.collector.phase → IsRetired p.registers (buffer_at w.collector.older (t - 1))

-- the others are at rest, while it polls
record PollsOn (dated : Bool) (first : ℕ) (t : ℕ) (w : Core) : Type 0 where
  kept : IsKept dated w
  is : IsMutator w.config t
  others : (s : ℕ) → IsMutator w.config s → s ≢ t → IsQuietOf first w s
  own : IsPolling first w t (mutator w t) (crossing_of w t) (box w t)

-- one whose record, crossing word and mailbox are these polls as they do
polling_as : {first t : ℕ} {w : Core} {p q : Private} {word n : ℕ} {b x : Contents} → q ≡ p → n ≡ word → x ≡ b → IsPolling first w t p word b → IsPolling first w t q n x
polling_as {first} {t} {w} {p} {q} {word} {n} {b} {x} ps ns bs own =
    subst (λ (r : Private). IsPolling first w t r n x) (sym ps) (subst (λ (m : ℕ). IsPolling first w t p m x) (sym ns) (subst (λ (c : Contents). IsPolling first w t p word c) (sym bs) own))

-- of dated words or of bare ones
module _ {dated : Bool} where
  -- One mutator changes, with its crossing word and its mailbox: the others are at rest as before.
  polls_changed : (first t : ℕ) (w : Core) (p : Private) (word : ℕ) (b : Contents) → IsKept dated w → IsMutator w.config t → ((s : ℕ) → IsMutator w.config s → s ≢ t → IsQuietOf first w s)
      → IsKept dated (with_actor w t p word b) → IsPolling first w t p word b → PollsOn dated first t (with_actor w t p word b)
  polls_changed first t w p word b before is quiet kept own =
      let many : length w.mutators ≡ w.config.mutators = before.mutators.many in
      let words : length w.crossing ≡ w.config.mutators = before.mutators.words in
      let boxes : length w.boxes ≡ w.config.mutators = before.mutators.mailboxes in
      let p_is : mutator v t ≡ p = get_or-set_same w.mutators (t - 1) p nobody (omega (arith, many, is.0, is.1)) in
      let word_is : crossing_of v t ≡ word = get_or-set_same w.crossing (t - 1) word 0 (omega (arith, words, is.0, is.1)) in
      let box_is : box v t ≡ b = get_or-set_same w.boxes (t - 1) b (blank 0 0) (omega (arith, boxes, is.0, is.1)) in
      record {
        kept = kept;
        is = is;
        others = λ s there other.
            let apart : (s - 1) ≢ (t - 1) = λ e. other (omega (arith, e, is.0, there.0)) in
            let same_p : mutator v s ≡ mutator w s = get_or-set_other w.mutators (t - 1) (s - 1) p nobody apart in
            let same_word : crossing_of v s ≡ crossing_of w s = get_or-set_other w.crossing (t - 1) (s - 1) word 0 apart in
            let same_box : box v s ≡ box w s = get_or-set_other w.boxes (t - 1) (s - 1) b (blank 0 0) apart in
            quiet_as s same_p same_word same_box (quiet s there other);
        own = polling_as p_is word_is box_is (record { polls = own.polls; stays = own.stays; log = own.log; box = own.box; held = own.held; newer = own.newer; older = own.older });
      }
    where
      v : Core
      v = with_actor w t p word b

      quiet_as : (s : ℕ) → mutator v s ≡ mutator w s → crossing_of v s ≡ crossing_of w s → box v s ≡ box w s → IsQuietOf first w s → IsQuietOf first v s
      quiet_as s same_p same_word same_box k =
          let registers : (mutator w s).registers ≡ (mutator v s).registers = ap (λ (q : Private). q.registers) (sym same_p) in
          record {
            idle = ap is_busy same_p ∙ k.idle;
            gone = λ left. subst (λ (q : Private). q.epoch ≤ first) (sym same_p) (k.gone (sym (ap (λ (q : Private). q.left) same_p) ∙ left));
            log = λ from. ap (λ (q : Private). q.log.entries) same_p ∙ k.log (subst (λ (q : Private). first ≤ q.epoch) same_p from);
            box = λ into early waits. subst (λ rs. IsRetired rs (box v s)) registers (subst (IsRetired (mutator w s).registers) (sym same_box) (k.box into early (sym same_word ∙ waits)));
            newer = λ early has. subst (λ rs. IsRetired rs (buffer_at w.collector.newer (s - 1))) registers (k.newer early has);
            older = λ from. subst (λ rs. IsRetired rs (buffer_at w.collector.older (s - 1))) registers (k.older from);
          }

  -- so after its step
  steps_on : (first t : ℕ) (w : Core) (p : Private) (word : ℕ) (b : Contents) → PollsOn dated first t w → is_busy (mutator w t) ≡ true → stepped w t ≡ with_actor w t p word b
      → IsPolling first w t p word b → PollsOn dated first t (stepped w t)
  steps_on first t w p word b on busy step own =
      subst (PollsOn dated first t) (sym step) (polls_changed first t w p word b on.kept on.is on.others (subst (IsKept dated) step (step_kept w t on.kept on.is busy)) own)

  -- it looks whether an epoch was requested
  on_begun : (first t : ℕ) (w : Core) → PollsOn dated first t w → is_busy (mutator w t) ≡ true → (mutator w t).phase ≡ Begun works.Poll → PollsOn dated first t (stepped w t)
  on_begun first t w on busy begins =
      let own = on.own in
      let same : Bool = w.epoch == (mutator w t).epoch in
      steps_on first t w (polled (mutator w t) w.epoch) (crossing_of w t) (box w t) on busy (poll_begins w t begins)
      (record { polls = polls same; stays = own.stays; log = own.log; box = own.box; held = λ early gives. absurd (held same gives); newer = own.newer; older = own.older })
    where
      polls : (b : Bool) → IsOfPoll (if b then Finished works.Poll (makes.Crossed None) else Crossing)
      polls true = tt
      polls false = tt

      held : (b : Bool) → (if b then Finished works.Poll (makes.Crossed None) else Crossing) ≡ Giving → ⊥
      held true is = cc
      held false is = cc

  -- it takes its mailbox, which is home with a spare
  on_crossing : (first t : ℕ) (w : Core) → PollsOn dated first t w → is_busy (mutator w t) ≡ true → (mutator w t).phase ≡ Crossing → PollsOn dated first t (stepped w t)
  on_crossing first t w on busy crosses =
      let p : Private = mutator w t in
      let own = on.own in
      let behind = (crossing_due w.config w.epoch p (crossing_of w t) (box w t) (stand_at w.collector.left w.collector.phase t) own.stays crosses (on.kept.mutators.each t on.is).handshake).1 in
      let epoch : p.epoch + 1 ≡ w.epoch = behind.epoch in
      steps_on first t w (moved (record p { log = box w t }) Giving) (crossing_word (p.epoch + 1) WithMutator) (retired p) on busy (poll_takes w t crosses (on.kept.mutators.each t on.is).own.number)
      (record {
        polls = tt;
        stays = own.stays;
        log = λ from. ap (λ (b : Contents). b.entries) behind.spare;
        box = λ into early waits. absurd (omega (arith, waits));
        held = λ early gives. record { entries = own.log (omega (arith, early, epoch)); snapshot = refl };
        newer = own.newer;
        older = own.older;
      })

  -- one that is to give its mailbox back is crossing into the requested epoch
  crossing_into : (w : Core) (t : ℕ) → IsKept dated w → IsMutator w.config t → (mutator w t).left ≡ false → (mutator w t).phase ≡ Giving → IsCrossing w.config w.epoch (mutator w t) (crossing_of w t) (box w t)
  crossing_into w t kept is stays gives =
      elim (giving_crosses w.config w.epoch (mutator w t) (crossing_of w t) (box w t) (stand_at w.collector.left w.collector.phase t) stays (ap gives_back gives) (kept.mutators.each t is).handshake) [
        | inl into ↦ into.1
        | inr leaves ↦ absurd (differs (sym gives ∙ leaves.2))
      ]
    where
      differs : Giving ≡ Parting → ⊥
      differs is = cc

  -- it gives it back with the retired log
  on_giving : (first t : ℕ) (w : Core) → PollsOn dated first t w → is_busy (mutator w t) ≡ true → (mutator w t).phase ≡ Giving → PollsOn dated first t (stepped w t)
  on_giving first t w on busy gives =
      let p : Private = mutator w t in
      let own = on.own in
      let crosses = crossing_into w t on.kept on.is own.stays gives in
      let epoch : p.epoch + 1 ≡ w.epoch = crosses.epoch in
      steps_on first t w (crossed p) (crossing_word (p.epoch + 1) Retired) (box w t) on busy (poll_gives w t gives (on.kept.mutators.each t on.is).own.number)
      (record {
        polls = tt;
        stays = own.stays;
        log = λ from. ap (λ (b : Contents). b.entries) crosses.spare;
        box = λ into early waits. own.held (omega (arith, epoch, early, waits)) gives;
        held = λ early is. absurd (finished is);
        newer = own.newer;
        older = own.older;
      })
    where
      finished : Finished works.Poll (makes.Crossed (Some ((mutator w t).epoch + 1))) ≡ Giving → ⊥
      finished is = cc

  -- a step of a poll
  on_step : (first t : ℕ) (w : Core) → PollsOn dated first t w → is_busy (mutator w t) ≡ true → PollsOn dated first t (stepped w t)
  on_step first t w on busy = go (mutator w t).phase refl on.own.polls
    where
      go : (phase : Phase) → (mutator w t).phase ≡ phase → IsOfPoll phase → PollsOn dated first t (stepped w t)
      go (Begun works.Poll) at polls = on_begun first t w on busy at
      go Crossing at polls = on_crossing first t w on busy at
      go Giving at polls = on_giving first t w on busy at
      go (Finished work made) at polls = absurd (false≢true (sym (ap is_busy_at at) ∙ busy))
      go _ at polls = absurd polls

  -- the poll begins
  on_begin : (first t : ℕ) (w : Core) → IsKept dated w → IsMutator w.config t → (mutator w t).left ≡ false → AreQuiet first w → PollsOn dated first t (begun w t works.Poll)
  unfolding begun_of
  on_begin first t w kept is stays quiet =
      let p : Private = begun_of (mutator w t) works.Poll 0 in
      let own = quiet t is in
      let begins : begun w t works.Poll ≡ with_actor w t p (crossing_of w t) (box w t) = sym (same_actor w t p) in
      let kept_so : IsKept dated (with_actor w t p (crossing_of w t) (box w t)) = subst (IsKept dated) begins (move_kept w (Move.Begins t works.Poll 0) kept (is, own.idle, stays, tt, tt, kept.config.some_slots)) in
      subst (PollsOn dated first t) (sym begins) (polls_changed first t w p (crossing_of w t) (box w t) kept is (λ s there other. quiet s there) kept_so
      (record { polls = tt; stays = stays; log = own.log; box = own.box; held = λ early gives. absurd (begun_gives gives); newer = own.newer; older = own.older }))
    where
      begun_gives : Begun works.Poll ≡ Giving → ⊥
      begun_gives is = cc

  -- and goes on, step by step
  on_path : (first t : ℕ) (before w : Core) → PollsOn dated first t before → StepsTo before t w → PollsOn dated first t w
  on_path first t before w on (StepsTo.here _ same) = subst (PollsOn dated first t) (sym same) on
  on_path first t before w on (StepsTo.further u _ path busy step) = subst (PollsOn dated first t) (sym step) (on_step first t u (on_path first t before u on path) busy)

  polled_on : (first : ℕ) (w v : Core) (t : ℕ) → IsKept dated w → IsMutator w.config t → (mutator w t).left ≡ false → IsWorked w t works.Poll v → AreQuiet first w → PollsOn dated first t v
  polled_on first w v t kept is stays worked quiet =
      let last : PollsOn dated first t worked.last = on_path first t (begun w t works.Poll) worked.last (on_begin first t w kept is stays quiet) worked.path in
      subst (PollsOn dated first t) (sym worked.steps) (on_step first t worked.last last worked.busy)

  -- What every heap keeps, a poll keeps.
  pub polled_kept : (first : ℕ) (w v : Core) (t : ℕ) → IsKept dated w → IsMutator w.config t → (mutator w t).left ≡ false → IsWorked w t works.Poll v → AreQuiet first w → IsKept dated v
  polled_kept first w v t kept is stays worked quiet = (polled_on first w v t kept is stays worked quiet).kept

  -- A poll leaves the mutators at rest.
  pub quiet_polled : (first : ℕ) (w v : Core) (t : ℕ) → IsKept dated w → IsMutator w.config t → (mutator w t).left ≡ false → IsWorked w t works.Poll v → AreQuiet first w → AreQuiet first v
  quiet_polled first w v t kept is stays worked quiet s there =
      let on : PollsOn dated first t v = polled_on first w v t kept is stays worked quiet in
      let own : IsQuietOf first v t = record { idle = worked.idle; gone = λ left. absurd (false≢true (sym on.own.stays ∙ left)); log = on.own.log; box = on.own.box; newer = on.own.newer; older = on.own.older } in
      elim (cases_eq s t) [
        | inl same ↦ subst (IsQuietOf first v) (sym same) own
        | inr other ↦ on.others s there other
      ]

  -- Its steps write no field.
  step_words : (first t : ℕ) (w : Core) → PollsOn dated first t w → is_busy (mutator w t) ≡ true → (stepped w t).words ≡ w.words
  step_words first t w on busy = go (mutator w t).phase refl on.own.polls
    where
      number : (mutator w t).number ≡ t
      number = (on.kept.mutators.each t on.is).own.number

      go : (phase : Phase) → (mutator w t).phase ≡ phase → IsOfPoll phase → (stepped w t).words ≡ w.words
      go (Begun works.Poll) at polls = ap (λ (x : Core). x.words) (poll_begins w t at)
      go Crossing at polls = ap (λ (x : Core). x.words) (poll_takes w t at number)
      go Giving at polls = ap (λ (x : Core). x.words) (poll_gives w t at number)
      go (Finished work made) at polls = absurd (false≢true (sym (ap is_busy_at at) ∙ busy))
      go _ at polls = absurd polls

  path_words : (first t : ℕ) (before w : Core) → PollsOn dated first t before → StepsTo before t w → w.words ≡ before.words
  path_words first t before w on (StepsTo.here _ same) = ap (λ (x : Core). x.words) same
  path_words first t before w on (StepsTo.further u _ path busy step) = ap (λ (x : Core). x.words) step ∙ (step_words first t u (on_path first t before u on path) busy ∙ path_words first t before u on path)

  pub polled_words : (first : ℕ) (w v : Core) (t : ℕ) → IsKept dated w → IsMutator w.config t → (mutator w t).left ≡ false → IsWorked w t works.Poll v → AreQuiet first w → v.words ≡ w.words
  polled_words first w v t kept is stays worked quiet =
      let begun_on : PollsOn dated first t (begun w t works.Poll) = on_begin first t w kept is stays quiet in
      let last : PollsOn dated first t worked.last = on_path first t (begun w t works.Poll) worked.last begun_on worked.path in
      ap (λ (x : Core). x.words) worked.steps ∙ (step_words first t worked.last last worked.busy ∙ path_words first t (begun w t works.Poll) worked.last begun_on worked.path)

-- What the crossing word tells of a mutator that parks or unparks, and that it comes back as it was.
use Rattle.std.proofs.Common.{◌≡◌, ◌≢◌, ℕ, ◌+◌, ◌-◌, ◌/◌, ◌%◌, ◌^◌, ◌<◌, ◌==◌, Bool, true, false, if◌then◌else◌, refl, sym, ap, subst, ◌∙◌, arith}
use Rattle.std.proofs.lemmas.Bool.{eq-eqb, eqb-true, false≢true}
use Rattle.rec_word.specs.Mailbox.{epoch_in, holds, is_parked, mailbox_of}
use Rattle.rec_word.specs.Op.{written}
use Rattle.rec_word.specs.declared.mailbox.Mailbox.TheVariants.{Spare, WithMutator, Retired, WithCollector}
use Rattle.rec_word.specs.declared.op.Op.{Op}
use Rattle.rec_word.specs.declared.op.Op.TheVariants as ops
use Rattle.rec_word.specs.declared.shift.Shift.{Shift}
use Rattle.rec_word.specs.declared.shift.Shift.TheVariants as shifts
use Rattle.rec_log.specs.declared.contents.Contents.{Contents}
use Rattle.rec_model.specs.declared.answer.Answer.TheVariants as answers
use Rattle.rec_model.specs.declared.command.Cmd.TheVariants as commands
use Rattle.rec_model.specs.Asking.{plain}
use Rattle.rec_mutator.specs.Next.{next_of}
use Rattle.rec_mutator.specs.Parking.{berthed_at, berthed_of, parked_by, parking_of, passage_of, unparking_of, ComesBack, IsPassing, Passes, TellsParked}
use Rattle.rec_mutator.specs.Private.{IsMachine, IsOnPassage, Private}
use Rattle.rec_mutator.specs.Took.{awoken, nulls_of, retired, took_at, took_of, FindsShift, IsFound}
use Rattle.rec_mutator.specs.declared.made.Made.TheVariants as makes
use Rattle.rec_mutator.specs.declared.passage.Passage.{Passage}
use Rattle.rec_mutator.specs.declared.passage.Passage.TheVariants.{Parks, Frees}
use Rattle.rec_mutator.specs.declared.phase.Phase.TheVariants.{Finished, Passing}
use Rattle.rec_mutator.specs.declared.work.Work.TheVariants as works
use Rattle.rec_mutator.proofs.Passages.{passage_made}
use Rattle.rec_mutator.proofs.Refusals.{at_phase}

-- a bit that isn't set, and one that is
unset : (n : ℕ) → (n == 1) ≡ false → n ≢ 1
unset n is one = false≢true (sym is ∙ eq-eqb n 1 one)

-- what stays of a word: where the past mailbox is, and the epoch
mailbox_same : (x y : ℕ) → x % 4 ≡ y % 4 → mailbox_of x ≡ mailbox_of y
mailbox_same x y same = ap (λ (n : ℕ). if n == 0 then Spare else (if n == 1 then WithMutator else (if n == 2 then Retired else WithCollector))) same

bit_same : (x y : ℕ) → (x / 2 ^ 33) % 2 ≡ (y / 2 ^ 33) % 2 → is_parked x ≡ is_parked y
bit_same x y same = ap (λ (n : ℕ). n == 1) same

-- what each step adds leaves of the word
holding : (w : ℕ) → w < 2 ^ 34 → holds w ≡ false → (is_parked ((w + 2 ^ 32) % 2 ^ 64) ≡ is_parked w) × (epoch_in ((w + 2 ^ 32) % 2 ^ 64) ≡ epoch_in w) × (mailbox_of ((w + 2 ^ 32) % 2 ^ 64) ≡ mailbox_of w)
holding w small free =
    let unheld : (w / 2 ^ 32) % 2 ≢ 1 = unset ((w / 2 ^ 32) % 2) free in
    (bit_same ((w + 2 ^ 32) % 2 ^ 64) w (omega (arith, unheld)), omega arith, mailbox_same ((w + 2 ^ 32) % 2 ^ 64) w (omega arith))

parks_word : (w : ℕ) → w < 2 ^ 34 → is_parked w ≡ false → (is_parked ((w + 2 ^ 33) % 2 ^ 64) ≡ true) × (epoch_in ((w + 2 ^ 33) % 2 ^ 64) ≡ epoch_in w) × (mailbox_of ((w + 2 ^ 33) % 2 ^ 64) ≡ mailbox_of w)
parks_word w small awake =
    let unparked : (w / 2 ^ 33) % 2 ≢ 1 = unset ((w / 2 ^ 33) % 2) awake in
    (eq-eqb (((w + 2 ^ 33) % 2 ^ 64 / 2 ^ 33) % 2) 1 (omega (arith, unparked)), omega arith, mailbox_same ((w + 2 ^ 33) % 2 ^ 64) w (omega arith))

zero_unset : (n : ℕ) → n ≡ 0 → (n == 1) ≡ false
zero_unset n is = ap (λ (m : ℕ). m == 1) is

unparks_word : (w : ℕ) → w < 2 ^ 34 → is_parked w ≡ true
    → (is_parked ((w + (2 ^ 64 - 2 ^ 33)) % 2 ^ 64) ≡ false) × (epoch_in ((w + (2 ^ 64 - 2 ^ 33)) % 2 ^ 64) ≡ epoch_in w) × (mailbox_of ((w + (2 ^ 64 - 2 ^ 33)) % 2 ^ 64) ≡ mailbox_of w)
unparks_word w small parked =
    let set : (w / 2 ^ 33) % 2 ≡ 1 = eqb-true ((w / 2 ^ 33) % 2) 1 parked in
    (zero_unset (((w + (2 ^ 64 - 2 ^ 33)) % 2 ^ 64 / 2 ^ 33) % 2) (omega (arith, set)), omega (arith, set), mailbox_same ((w + (2 ^ 64 - 2 ^ 33)) % 2 ^ 64) w (omega (arith, set)))

frees_word : (w : ℕ) → w < 2 ^ 34 → holds w ≡ true
    → (is_parked ((w + (2 ^ 64 - 2 ^ 32)) % 2 ^ 64) ≡ is_parked w) × (epoch_in ((w + (2 ^ 64 - 2 ^ 32)) % 2 ^ 64) ≡ epoch_in w) × (mailbox_of ((w + (2 ^ 64 - 2 ^ 32)) % 2 ^ 64) ≡ mailbox_of w)
frees_word w small held =
    let set : (w / 2 ^ 32) % 2 ≡ 1 = eqb-true ((w / 2 ^ 32) % 2) 1 held in
    (bit_same ((w + (2 ^ 64 - 2 ^ 32)) % 2 ^ 64) w (omega (arith, set)), omega (arith, set), mailbox_same ((w + (2 ^ 64 - 2 ^ 32)) % 2 ^ 64) w (omega (arith, set)))

-- what is known of a machine so far on its way
on_passage : (p : Private) (passage : Passage) → IsMachine p → p.phase ≡ Passing passage → IsOnPassage p passage
on_passage p passage m is = at_phase p (Passing passage) m is

-- what the word found is, by the addition that comes next
found_shift : (p : Private) (word : ℕ) (op : Op) (shift : Shift) → op ≡ ops.ShiftBox p.number shift → IsFound p op word → FindsShift p shift word
found_shift p word op shift is found = subst (λ (o : Op). IsFound p o word) is found

-- by the rule of the step
told_so : (p : Private) (w : ℕ) (berth : Contents) (op : Op) (q : Private) (left : Contents) → IsMachine p → w < 2 ^ 34 → IsFound p op w → Passes p w berth op q left → TellsParked w (written op w) q
told_so p w berth op q left m small found (Passes.deposits s leaves) =
    let bits = found_shift p w op shifts.Hold s.operation found in
    let word = holding w small bits.says_held in
    let on = on_passage p Parks m s.phase in
    subst (λ (x : Op × Private). TellsParked w (written x.0 w) x.1) (λ i. (sym s.operation i, sym s.after i)) (record { mark = word.0 ∙ bits.says_parked ∙ sym on.parked; own_epoch = word.1 ∙ bits.own_epoch; past = word.2 })
told_so p w berth op q left m small found (Passes.parks s leaves) =
    let bits = found_shift p w op shifts.Park s.operation found in
    let word = parks_word w small bits.says_parked in
    subst (λ (x : Op × Private). TellsParked w (written x.0 w) x.1) (λ i. (sym s.operation i, sym s.after i)) (record { mark = word.0; own_epoch = word.1 ∙ bits.own_epoch; past = word.2 })
told_so p w berth op q left m small found (Passes.takes_back held s leaves) =
    let bits = found_shift p w op shifts.Unpark s.operation found in
    let word = unparks_word w small bits.parked in
    subst (λ (x : Op × Private). TellsParked w (written x.0 w) x.1) (λ i. (sym s.operation i, sym s.after i)) (record { mark = word.0; own_epoch = word.1; past = word.2 })
told_so p w berth op q left m small found (Passes.unparks free s leaves) =
    let bits = found_shift p w op shifts.Unpark s.operation found in
    let word = unparks_word w small bits.parked in
    subst (λ (x : Op × Private). TellsParked w (written x.0 w) x.1) (λ i. (sym s.operation i, sym s.after i)) (record { mark = word.0; own_epoch = word.1; past = word.2 })
told_so p w berth op q left m small found (Passes.frees s leaves) =
    let bits = found_shift p w op shifts.Free s.operation found in
    let word = frees_word w small bits.says_held in
    let on = on_passage p Frees m s.phase in
    subst (λ (x : Op × Private). TellsParked w (written x.0 w) x.1) (λ i. (sym s.operation i, sym s.after i)) (record { mark = word.0 ∙ bits.says_parked ∙ sym on.parked; own_epoch = word.1 ∙ bits.own_epoch; past = word.2 })

pub tells_parked : (p : Private) (word : ℕ) (berth : Contents) → IsMachine p → IsPassing p.phase → word < 2 ^ 34 → IsFound p (next_of p) word → TellsParked word (written (next_of p) word) (passage_of p word berth)
tells_parked p word berth m passing small found = told_so p word berth (next_of p) (passage_of p word berth) _ m small found (passage_made p word berth passing)

-- who parks and unparks comes back
pub comes_back : (p : Private) (first second third fourth : ℕ) (berth : Contents) → p.parked ≡ false → p.log.snapshot ≡ nulls_of p → holds third ≡ true → epoch_in third ≡ p.epoch → ComesBack p first second third fourth berth
unfolding took_of took_at passage_of berthed_of berthed_at parking_of unparking_of
comes_back p first second third fourth berth awake null held epoch = record {
  parked = refl;
  spare_log = refl;
  back =
      ap (λ (deposit : Bool). passage_of (berthed_of (awoken (unparking_of (parked_by p first second berth)) third deposit) (retired p)) fourth berth) held
      ∙ (λ i. record p { epoch = epoch i; parked = sym awake i; log = record p.log { snapshot = sym null i }; phase = Finished (works.Command commands.Unpark) (makes.Answered (plain answers.Done)); steps = 2 });
}

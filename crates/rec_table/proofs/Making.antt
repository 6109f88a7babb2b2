-- The calls of a mutator's step, with or without a mailbox.
use Rattle.std.proofs.Common.{◌≡◌, inl, inr, ℕ, ◌+◌, ◌-◌, ◌%◌, ◌^◌, arith, true, false, true≢false, List, [], ◌∷◌, ◌++◌, length, Option, Some, None, refl, sym, ap, ◌∙◌, subst, append-nil, append_assoc}
use Rattle.atomic_table.specs.Table.{Me, Step, rest}
use Rattle.rec_table.proofs.Common.{written, Op, Contents, Private, is_busy, work_of, KeepsSizes, begun_of, took_of, step_of, swapped_of, swapped_at, spare, left_of, gives_back, TakesBox, IsFound, IsBetween, IsSwapping, births_of, MutatorView, IsTold, Works, HasScanned, saw_all, Beat, Core, mutator, IsOwnOp, own_next, told, learnt, births_told, index_of, Kind, Operates, ready, MayGo, MadeBy, TakenBy, GivenBy, beats, adds, takes_view, seated_of, hands, hands_at, hand_after, taken_by, seated_after, me_after, Saw, Seated, View, Mutates}
use Rattle.rec_word.specs.declared.op.Op.TheVariants as ops
use Rattle.rec_mutator.specs.Next.{next_of, next_at}
use Rattle.rec_mutator.specs.Step.{NamesSlots}
use Rattle.rec_mutator.specs.declared.phase.Phase as phases
use Rattle.rec_mutator.specs.declared.phase.Phase.TheVariants as at
use Rattle.rec_mutator.specs.Took.{took_at}
use Rattle.rec_mutator.specs.declared.work.Work.{Work}
use Rattle.rec_mutator.proofs.Steps.{TakesNone, here_same, step_between, step_made}
use Rattle.rec_mutator.proofs.Sizes.{took_keeps, step_keeps, step_counts}
use Rattle.rec_mutator.specs.Step.{Decides, GoesOn, Crosses, Step as MutatorStep}
use Rattle.rec_model.specs.declared.command.Cmd.{Cmd}
use Rattle.rec_model.specs.declared.told.Told.{Told}
use Rattle.rec_log.specs.declared.entry.Entry.{Entry}
use Rattle.rec_table.specs.declared.start.Start.{Start}
use Rattle.rec_core.proofs.Actors.{idle_here}
use Rattle.rec_world.proofs.Mailboxes.{left_log}
use Rattle.rec_table.proofs.Boxes.{takes_box, back_ends, gives_box, swaps, takes_op}
use Rattle.rec_table.proofs.Calls.{IsLoad}
use Rattle.rec_table.proofs.Acting.{told_beats}
use Rattle.rec_table.proofs.Steps.{steps, IsPlain, IsPlainOp, plain_next, left_plain}

abbrev pub IsTakeOp : Op → Type 0
IsTakeOp (ops.TakeBox t e) = Unit {0}
IsTakeOp _ = ⊥

abbrev pub IsGiveOp : Op → Type 0
IsGiveOp (ops.GiveBox t e) = Unit {0}
IsGiveOp _ = ⊥

not_take : (o : Op) → IsPlainOp o → IsTakeOp o → ⊥
not_take (ops.TakeBox t e) is take = is
not_take _ is take = take

not_give : (o : Op) → IsPlainOp o → IsGiveOp o → ⊥
not_give (ops.GiveBox t e) is give = is
not_give _ is give = give

-- the phase is told by the operation
pub plain_phase : (p : Private) (op : Op) → op ≡ next_of p → IsBetween p.phase → IsPlainOp op → IsPlain p.phase
unfolding next_of next_at
plain_phase p op is between plain_op = by p.phase between (subst IsPlainOp is plain_op)
  where
    by : (phase : phases.Phase) → IsBetween phase → IsPlainOp (next_at p phase) → IsPlain phase
    by at.Crossing b o = o
    by at.Swapping b o = b
    by at.Giving b o = o
    by at.Leaving b o = o
    by at.Retiring b o = b
    by at.Parting b o = o
    by (at.Passing passage) b o = b
    by _ b o = tt

pub taking_phase : (p : Private) (op : Op) → op ≡ next_of p → IsBetween p.phase → IsTakeOp op → TakesBox p.phase
unfolding next_of next_at
taking_phase p op is between take = by p.phase refl between
  where
    no : IsPlain p.phase → ⊥
    no calm = not_take (next_of p) (plain_next p calm) (subst IsTakeOp is take)

    by : (phase : phases.Phase) → p.phase ≡ phase → IsBetween phase → TakesBox phase
    by at.Crossing e b = tt
    by at.Swapping e b = absurd b
    by at.Giving e b = absurd (subst IsTakeOp (is ∙ ap (next_at p) e) take)
    by at.Leaving e b = tt
    by at.Retiring e b = absurd b
    by at.Parting e b = absurd (subst IsTakeOp (is ∙ ap (next_at p) e) take)
    by (at.Passing passage) e b = absurd b
    by _ e b = absurd (no (subst IsPlain (sym e) tt))

pub giving_phase : (p : Private) (op : Op) → op ≡ next_of p → IsBetween p.phase → IsGiveOp op → gives_back p.phase ≡ true
unfolding next_of next_at
giving_phase p op is between give = by p.phase refl between
  where
    no : IsPlain p.phase → ⊥
    no calm = not_give (next_of p) (plain_next p calm) (subst IsGiveOp is give)

    by : (phase : phases.Phase) → p.phase ≡ phase → IsBetween phase → gives_back phase ≡ true
    by at.Crossing e b = absurd (subst IsGiveOp (is ∙ ap (next_at p) e) give)
    by at.Swapping e b = absurd b
    by at.Giving e b = refl
    by at.Leaving e b = absurd (subst IsGiveOp (is ∙ ap (next_at p) e) give)
    by at.Retiring e b = absurd b
    by at.Parting e b = refl
    by (at.Passing passage) e b = absurd b
    by _ e b = absurd (no (subst IsPlain (sym e) tt))

plain_hands : (hand : Contents) (number : ℕ) (phase : phases.Phase) → IsPlain phase → hands_at hand number phase ≡ []
plain_hands hand number at.Giving is = absurd is
plain_hands hand number at.Parting is = absurd is
plain_hands hand number _ is = refl

pub plain_taken : (p : Private) (word : ℕ) (phase : phases.Phase) → IsPlain phase → taken_by p word phase ≡ []
plain_taken p word at.Crossing is = absurd is
plain_taken p word at.Leaving is = absurd is
plain_taken p word _ is = refl

pub plain_hand : (hand x : Contents) (phase : phases.Phase) → IsPlain phase → hand_after hand x phase ≡ hand
plain_hand hand x at.Crossing is = absurd is
plain_hand hand x at.Leaving is = absurd is
plain_hand hand x _ is = refl

-- a plain step
pub allows_plain : (key : Core) (slots id i : ℕ) (me : Me (Option Contents) View) (op : Op) (wk picked : Option Start) (p : Private) (f : ℕ → ℕ) (st : Step (Option Contents))
    → me ≡ (Mutates (seated_of me.0), hands (seated_of me.0) (ready p wk)) → p ≡ told (mutator key (seated_of me.0).number) (seated_of me.0).log → picked ≡ wk → MayGo p wk → IsPlain (ready p wk).phase
    → op ≡ next_of (ready p wk) → i ≡ index_of (length key.words) (length key.headers) op → ((n : ℕ) → f n ≡ written op n)
    → Operates key (Kind.Steps picked) slots id me i f (MadeBy p picked st me)
allows_plain key slots id i me op wk picked p f st is is_p picks may calm is_op at does =
    let t : Seated = seated_of me.0 in
    let all = steps key slots id t (hands t (ready p wk)) wk p op f st is_p may calm is_op does in
    subst (λ (y : Me (Option Contents) View × ℕ × Option Start). Operates key (Kind.Steps y.2) slots id y.0 y.1 f (MadeBy p y.2 st y.0)) (λ k. (sym is k, sym at k, sym picks k)) all

pub made_plain : (t : Seated) (p : Private) (wk picked : Option Start) (word : ℕ) (me me' : Me (Option Contents) View)
    → me ≡ (Mutates t, hands t (ready p wk)) → picked ≡ wk → IsPlain (ready p wk).phase → me' ≡ (adds me.0 (beats picked word), me.1) → me' ≡ me_after t (ready p wk) wk word
made_plain t p wk picked word me me' is picks calm now =
    let q : Private = ready p wk in
    now
    ∙ (λ k. (adds (is k).0 (beats (picks k) word), (is k).1))
    ∙ (λ k. (Mutates (record t { log = t.log ++ beats wk word; hand = sym (plain_hand t.hand (took_of q word).log q.phase calm) k }), (plain_hands t.hand q.number q.phase calm ∙ sym (plain_taken q word q.phase calm)) k))

-- the first step of a work neither takes the mailbox nor gives it back
begun_takes_none : (p : Private) (work : Work) (from : ℕ) → TakesBox (begun_of p work from).phase → ⊥
unfolding begun_of
begun_takes_none p work from takes = takes

begun_gives_none : (p : Private) (work : Work) (from : ℕ) → gives_back (begun_of p work from).phase ≡ false
unfolding begun_of
begun_gives_none p work from = refl

-- what a seat has of a mailbox that it is to take
taking_hands : (hand : Contents) (number : ℕ) (phase : phases.Phase) → TakesBox phase → hands_at hand number phase ≡ []
taking_hands hand number at.Crossing is = refl
taking_hands hand number at.Leaving is = refl
taking_hands hand number _ is = absurd is

taking_hand : (hand retired : Contents) (phase : phases.Phase) → TakesBox phase → hand_after hand retired phase ≡ retired
taking_hand hand retired at.Crossing is = refl
taking_hand hand retired at.Leaving is = refl
taking_hand hand retired _ is = absurd is

taking_taken : (p : Private) (word : ℕ) (phase : phases.Phase) → TakesBox phase → taken_by p word phase ≡ (p.number - 1, Some (spare (took_of p word))) ∷ []
taking_taken p word at.Crossing is = refl
taking_taken p word at.Leaving is = refl
taking_taken p word _ is = absurd is

-- and of one that it is to give back
giving_hands : (hand : Contents) (number : ℕ) (phase : phases.Phase) → gives_back phase ≡ true → hands_at hand number phase ≡ (number - 1, Some hand) ∷ []
giving_hands hand number at.Giving is = refl
giving_hands hand number at.Parting is = refl
giving_hands hand number _ is = absurd (true≢false (sym is))

giving_hand : (hand x : Contents) (phase : phases.Phase) → gives_back phase ≡ true → hand_after hand x phase ≡ hand
giving_hand hand x at.Giving is = refl
giving_hand hand x at.Parting is = refl
giving_hand hand x _ is = absurd (true≢false (sym is))

giving_taken : (p : Private) (word : ℕ) (phase : phases.Phase) → gives_back phase ≡ true → taken_by p word phase ≡ []
giving_taken p word at.Giving is = refl
giving_taken p word at.Parting is = refl
giving_taken p word _ is = absurd (true≢false (sym is))

-- a step that takes the mailbox
pub allows_taking : (key : Core) (slots id i : ℕ) (me : Me (Option Contents) View) (op : Op) (wk : Option Start) (p : Private) (f : ℕ → ℕ) (st : Step (Option Contents))
    → me ≡ (Mutates (seated_of me.0), hands (seated_of me.0) (ready p wk)) → p ≡ told (mutator key (seated_of me.0).number) (seated_of me.0).log → MayGo p wk → TakesBox (ready p wk).phase
    → op ≡ next_of (ready p wk) → i ≡ index_of (length key.words) (length key.headers) op → ((n : ℕ) → f n ≡ written op n)
    → Operates key (Kind.Steps None) slots id me i f (TakenBy p st me)
allows_taking key slots id i me op None p f st is is_p may takes is_op at does =
    let t : Seated = seated_of me.0 in
    let all = takes_box key slots id t p op f st is_p may takes is_op does in
    subst (λ (y : Me (Option Contents) View × ℕ). Operates key (Kind.Steps None) slots id y.0 y.1 f (TakenBy p st y.0)) (λ k. (sym (is ∙ (λ j. (Mutates t, taking_hands t.hand p.number p.phase takes j))) k, sym at k)) all
allows_taking key slots id i me op (Some start) p f st is is_p may takes is_op at does = absurd (begun_takes_none p start.work start.from takes)

pub made_taking : (t : Seated) (p : Private) (op : Op) (wk : Option Start) (st : Step (Option Contents)) (word : ℕ) (me me' : Me (Option Contents) View)
    → me ≡ (Mutates t, hands t (ready p wk)) → TakesBox (ready p wk).phase → op ≡ next_of (ready p wk) → TakenBy p st me word me'
    → (me' ≡ me_after t (ready p wk) wk word) × IsFound (ready p wk) op word × NamesSlots (learnt (ready p wk) (Saw word))
made_taking t p op None st word me me' is takes is_op (now, found, names) = (
  now
      ∙ (λ k. (takes_view (is k).0 (took_of p word).log (beats None word), (p.number - 1, Some (spare (took_of p word))) ∷ (is k).1))
      ∙ (λ k. (Mutates (record t { log = t.log ++ beats None word; hand = sym (taking_hand t.hand (took_of p word).log p.phase takes) k }), (p.number - 1, Some (spare (took_of p word))) ∷ taking_hands t.hand p.number p.phase takes k))
      ∙ (λ k. (Mutates (seated_after t p None word), sym (taking_taken p word p.phase takes) k)),
  subst (λ (o : Op). IsFound p o word) (sym is_op) found,
  names,
)
made_taking t p op (Some start) st word me me' is takes is_op by = absurd (begun_takes_none p start.work start.from takes)

-- a step that gives it back
pub allows_giving : (key : Core) (slots id i : ℕ) (me : Me (Option Contents) View) (op : Op) (wk : Option Start) (p : Private) (f : ℕ → ℕ) (st : Step (Option Contents))
    → me ≡ (Mutates (seated_of me.0), hands (seated_of me.0) (ready p wk)) → p ≡ told (mutator key (seated_of me.0).number) (seated_of me.0).log → MayGo p wk → gives_back (ready p wk).phase ≡ true
    → op ≡ next_of (ready p wk) → i ≡ index_of (length key.words) (length key.headers) op → ((n : ℕ) → f n ≡ written op n)
    → Operates key (Kind.Steps None) slots id me i f (GivenBy p st me)
allows_giving key slots id i me op None p f st is is_p may giving is_op at does =
    let t : Seated = seated_of me.0 in
    let all = gives_box key slots id t p op f st is_p may giving is_op does in
    subst (λ (y : Me (Option Contents) View × ℕ). Operates key (Kind.Steps None) slots id y.0 y.1 f (GivenBy p st y.0)) (λ k. (sym (is ∙ (λ j. (Mutates t, giving_hands t.hand p.number p.phase giving j))) k, sym at k)) all
allows_giving key slots id i me op (Some start) p f st is is_p may giving is_op at does = absurd (true≢false (sym giving ∙ begun_gives_none p start.work start.from))

pub made_giving : (t : Seated) (p : Private) (op : Op) (wk : Option Start) (st : Step (Option Contents)) (word : ℕ) (me me' : Me (Option Contents) View)
    → me ≡ (Mutates t, hands t (ready p wk)) → gives_back (ready p wk).phase ≡ true → op ≡ next_of (ready p wk) → GivenBy p st me word me'
    → (me' ≡ me_after t (ready p wk) wk word) × IsFound (ready p wk) op word × NamesSlots (learnt (ready p wk) (Saw word))
made_giving t p op None st word me me' is giving is_op (now, found, names) = (
  now
      ∙ (λ k. (adds (is k).0 (beats None word), rest (is k).1))
      ∙ (λ k. (Mutates (record t { log = t.log ++ beats None word; hand = sym (giving_hand t.hand (took_of p word).log p.phase giving) k }), rest (giving_hands t.hand p.number p.phase giving k)))
      ∙ (λ k. (Mutates (seated_after t p None word), sym (giving_taken p word p.phase giving) k)),
  subst (λ (o : Op). IsFound p o word) (sym is_op) found,
  names,
)
made_giving t p op (Some start) st word me me' is giving is_op by = absurd (true≢false (sym giving ∙ begun_gives_none p start.work start.from))

pub is_plain_load : (op : Op) → IsLoad op → IsPlainOp op
is_plain_load op (inl (x, e)) = subst IsPlainOp (sym e) tt
is_plain_load op (inr (inl (x, e))) = subst IsPlainOp (sym e) tt
is_plain_load op (inr (inr (inl e))) = subst IsPlainOp (sym e) tt
is_plain_load op (inr (inr (inr (inl (x, e))))) = subst IsPlainOp (sym e) tt
is_plain_load op (inr (inr (inr (inr e)))) = subst IsPlainOp (sym e) tt

-- What is learnt by a step that takes no mailbox.
pub takes_none : (phase : phases.Phase) → IsBetween phase → (TakesBox phase → ⊥) → TakesNone phase
takes_none at.Crossing b never = absurd (never tt)
takes_none at.Swapping b never = b
takes_none at.Leaving b never = absurd (never tt)
takes_none at.Retiring b never = b
takes_none (at.Passing passage) b never = b
takes_none _ b never = tt

none_taken : (p : Private) (word : ℕ) (phase : phases.Phase) → TakesNone phase → taken_by p word phase ≡ []
none_taken p word at.Crossing is = absurd is
none_taken p word at.Leaving is = absurd is
none_taken p word _ is = refl

no_hands : (hand : Contents) (number : ℕ) (phase : phases.Phase) → gives_back phase ≡ false → hands_at hand number phase ≡ []
no_hands hand number at.Giving not = absurd (true≢false not)
no_hands hand number at.Parting not = absurd (true≢false not)
no_hands hand number _ not = refl

never_gives : (p : Private) (word : ℕ) → is_busy p ≡ true → TakesNone p.phase → gives_back (took_of p word).phase ≡ false
never_gives p word busy none = by p.phase refl none
  where
    plain_case : IsPlain p.phase → gives_back (took_of p word).phase ≡ false
    plain_case calm = ap (λ (q : Private). gives_back q.phase) (sym (here_same p word (spare (took_of p word)) busy none)) ∙ left_plain p word calm busy

    by : (phase : phases.Phase) → p.phase ≡ phase → TakesNone phase → gives_back (took_of p word).phase ≡ false
    by at.Crossing e n = absurd n
    by at.Swapping e n = absurd n
    by at.Leaving e n = absurd n
    by at.Retiring e n = absurd n
    by (at.Passing passage) e n = absurd n
    by at.Giving e n = idle_here (took_of p word).phase (back_ends p word (ap gives_back e))
    by at.Parting e n = idle_here (took_of p word).phase (back_ends p word (ap gives_back e))
    by _ e n = plain_case (subst IsPlain (sym e) tt)

-- What each step counts and keeps.
learnt_step : (p : Private) (word : ℕ) → is_busy p ≡ true → IsBetween p.phase → MutatorStep p word (spare (took_of p word)) (next_of p) (learnt p (Saw word))
learnt_step p word busy between = step_made p word (spare (took_of p word)) busy between

learnt_counts : (p : Private) (word : ℕ) → is_busy p ≡ true → IsBetween p.phase → (learnt p (Saw word)).steps ≡ p.steps + 1
learnt_counts p word busy between = step_counts (learnt_step p word busy between)

same_capacity : (p : Private) (word : ℕ) → is_busy p ≡ true → IsBetween p.phase → (took_of p word).log.capacity ≡ p.log.capacity
unfolding took_of took_at
same_capacity p word busy between = by p.phase refl between
  where
    by : (phase : phases.Phase) → p.phase ≡ phase → IsBetween phase → (took_of p word).log.capacity ≡ p.log.capacity
    by at.Crossing e b = ap (λ (f : phases.Phase). (took_at p word f).log.capacity) e
    by at.Swapping e b = absurd b
    by at.Leaving e b = ap (λ (f : phases.Phase). (took_at p word f).log.capacity) e
    by at.Retiring e b = absurd b
    by (at.Passing passage) e b = absurd b
    by _ e b = (took_keeps p word busy (subst TakesNone (sym e) tt)).0.capacity

pub learnt_keeps : (p : Private) (word : ℕ) → is_busy p ≡ true → IsBetween p.phase → KeepsSizes p (learnt p (Saw word)) × (work_of (learnt p (Saw word)) ≡ work_of p)
learnt_keeps p word busy between = step_keeps (same_capacity p word busy between) (learnt_step p word busy between)

-- after it no mailbox waits to be swapped
pub learnt_between : (p : Private) (word : ℕ) → is_busy p ≡ true → IsBetween p.phase → IsBetween (learnt p (Saw word)).phase
learnt_between p word busy between = step_between (learnt_step p word busy between)

-- what the machine and the seat are then
pub learns_word : (p q : Private) (t : Seated) (word : ℕ) (me : Me (Option Contents) View) → is_busy p ≡ true → IsBetween p.phase → TakesNone p.phase → q ≡ took_of p word → me.1 ≡ taken_by p word p.phase
    → (q ≡ learnt p (Saw word)) × IsBetween q.phase × (me ≡ (me.0, hands t q))
learns_word p q t word me busy between none took out = (
  took ∙ sym (here_same p word (spare (took_of p word)) busy none),
  subst (λ (r : Private). IsBetween r.phase) (here_same p word (spare (took_of p word)) busy none ∙ sym took) (learnt_between p word busy between),
  λ k. (me.0, (out ∙ none_taken p word p.phase none ∙ sym (no_hands t.hand (took_of p word).number (took_of p word).phase (never_gives p word busy none)) ∙ ap (hands t) (sym took)) k),
)

-- What is learnt by the step that takes it: the phase in which it is given back then,
abbrev given_phase : phases.Phase → phases.Phase
given_phase at.Swapping = at.Giving
given_phase _ = at.Parting

given_back : (phase : phases.Phase) → gives_back (given_phase phase) ≡ true
given_back at.Swapping = refl
given_back _ = refl

given_between : (phase : phases.Phase) → IsBetween (given_phase phase)
given_between at.Swapping = tt
given_between _ = tt

-- and the log
swapped_is : (q : Private) (b : Contents) → IsSwapping q.phase → swapped_of q b ≡ record q { phase = given_phase q.phase; log = b }
unfolding swapped_of swapped_at
swapped_is q b swaps_it = by q.phase swaps_it
  where
    by : (phase : phases.Phase) → IsSwapping phase → swapped_at q b phase ≡ record q { phase = given_phase phase; log = b }
    by at.Swapping is = refl
    by at.Retiring is = refl
    by _ is = absurd is

step_is : (p : Private) (word : ℕ) (b : Contents) → step_of p word b ≡ swapped_of (took_of p word) b
unfolding step_of
step_is p word b = refl

abbrev pub Boxed : (p r : Private) (mailbox : Option Contents) (t : Seated) (word : ℕ) → Type 0
Boxed p r mailbox t word = (r ≡ learnt p (Saw word)) × KeepsSizes p r × IsBetween r.phase × ((p.number - 1, mailbox) ∷ [] ≡ hands t r)

pub learns_box : (p q r : Private) (b : Contents) (mailbox : Option Contents) (t : Seated) (word : ℕ) → TakesBox p.phase → q ≡ took_of p word → b ≡ spare (took_of p word) → r ≡ swapped_of q b → mailbox ≡ Some (left_of q b)
    → t.hand ≡ hand_after t.hand (took_of p word).log p.phase → KeepsSizes p q → Boxed p r mailbox t word
learns_box p q r b mailbox t word takes took is_b swapped left hand same =
    let at_swap : IsSwapping q.phase = subst (λ (x : Private). IsSwapping x.phase) (sym took) (swaps p word takes) in
    let r_is : r ≡ record q { phase = given_phase q.phase; log = b } = swapped ∙ swapped_is q b at_swap in
    let gives : gives_back r.phase ≡ true = ap (λ (x : Private). gives_back x.phase) r_is ∙ given_back q.phase in
    let hand_is : t.hand ≡ (took_of p word).log = hand ∙ taking_hand t.hand (took_of p word).log p.phase takes in
    let number : r.number ≡ p.number = ap (λ (x : Private). x.number) r_is ∙ same.number in (
      swapped ∙ (λ k. swapped_of (took k) (is_b k)) ∙ sym (step_is p word (spare (took_of p word))),
      record {
        number = number;
        slots = ap (λ (x : Private). x.slots) r_is ∙ same.slots;
        fields = ap (λ (x : Private). x.fields) r_is ∙ same.fields;
        registers = ap (λ (x : Private). length x.registers) r_is ∙ same.registers;
        capacity = ap (λ (x : Private). x.log.capacity) r_is ∙ ap (λ (x : Contents). x.capacity) is_b ∙ ap (λ (x : Private). x.log.capacity) (sym took) ∙ same.capacity;
        parked = ap (λ (x : Private). x.parked) r_is ∙ same.parked;
      },
      subst (λ (x : Private). IsBetween x.phase) (sym r_is) (given_between q.phase),
      (λ k. (sym number k - 1, (left ∙ ap (λ x. Some x) (left_log q b at_swap ∙ ap (λ (x : Private). x.log) took ∙ sym hand_is)) k) ∷ [])
          ∙ sym (giving_hands t.hand r.number r.phase gives),
    )

-- a mutator that neither parks nor unparks adds nothing to its crossing word
abbrev IsShiftOp : Op → Type 0
IsShiftOp (ops.ShiftBox t shift) = Unit {0}
IsShiftOp _ = ⊥

not_shift : (o : Op) → IsPlainOp o → IsShiftOp o → ⊥
not_shift (ops.ShiftBox t shift) is adds = is
not_shift _ is adds = adds

no_shift : (p : Private) → IsBetween p.phase → IsShiftOp (next_of p) → ⊥
unfolding next_of next_at
no_shift p between adds = by p.phase refl between
  where
    by : (phase : phases.Phase) → p.phase ≡ phase → IsBetween phase → ⊥
    by at.Crossing e b = subst IsShiftOp (ap (next_at p) e) adds
    by at.Swapping e b = b
    by at.Giving e b = subst IsShiftOp (ap (next_at p) e) adds
    by at.Leaving e b = subst IsShiftOp (ap (next_at p) e) adds
    by at.Retiring e b = b
    by at.Parting e b = subst IsShiftOp (ap (next_at p) e) adds
    by (at.Passing passage) e b = b
    by _ e b = not_shift (next_of p) (plain_next p (subst IsPlain (sym e) tt)) adds

-- every operation of such a mutator is a load, an exchange, a claim, or one that takes its mailbox or gives it back
pub no_else : (p : Private) (op : Op) → op ≡ next_of p → IsBetween p.phase → (IsLoad op → ⊥) → ((x y : ℕ) → op ≡ ops.SwapField x y → ⊥) → ((x y : ℕ) → op ≡ ops.ClaimHeader x y → ⊥)
    → ((x y : ℕ) → op ≡ ops.TakeBox x y → ⊥) → ((x y : ℕ) → op ≡ ops.GiveBox x y → ⊥) → ⊥
no_else p op is between load swap claim take give = by op (subst (IsOwnOp p) (sym is) (own_next p)) (λ adds. no_shift p between (subst IsShiftOp is adds)) load swap claim take give
  where
    by : (o : Op) → IsOwnOp p o → (IsShiftOp o → ⊥) → (IsLoad o → ⊥) → ((x y : ℕ) → o ≡ ops.SwapField x y → ⊥) → ((x y : ℕ) → o ≡ ops.ClaimHeader x y → ⊥) → ((x y : ℕ) → o ≡ ops.TakeBox x y → ⊥) → ((x y : ℕ) → o ≡ ops.GiveBox x y → ⊥) → ⊥
    by (ops.LoadField x) own n l s c t g = l (inl (x, refl))
    by (ops.SwapField x y) own n l s c t g = s x y refl
    by (ops.LoadHeader x) own n l s c t g = l (inr (inl (x, refl)))
    by ops.LoadEpoch own n l s c t g = l (inr (inr (inl refl)))
    by (ops.LoadCross x) own n l s c t g = l (inr (inr (inr (inl (x, refl)))))
    by (ops.ClaimHeader x y) own n l s c t g = c x y refl
    by ops.LoadFreed own n l s c t g = l (inr (inr (inr (inr refl))))
    by (ops.TakeBox x y) own n l s c t g = t x y refl
    by (ops.GiveBox x y) own n l s c t g = g x y refl
    by (ops.ShiftBox x y) own n l s c t g = n tt
    by _ own n l s c t g = own

pub takes_own : (p : Private) (op : Op) (t e : ℕ) → op ≡ next_of p → IsBetween p.phase → op ≡ ops.TakeBox t e → t ≡ p.number
takes_own p op t e is between takes =
    let same : ops.TakeBox t e ≡ ops.TakeBox p.number (p.epoch + 1) = sym takes ∙ is ∙ takes_op p (taking_phase p op is between (subst IsTakeOp (sym takes) tt)) in cc

pub out_at : (p : Private) (word slot : ℕ) (l : List (ℕ × Option Contents)) → TakesBox p.phase → slot ≡ p.number - 1 → l ≡ taken_by p word p.phase → l ≡ (slot, Some (spare (took_of p word))) ∷ []
out_at p word slot l takes is out = out ∙ taking_taken p word p.phase takes ∙ (λ k. (sym is k, Some (spare (took_of p word))) ∷ [])

first_of : List (ℕ × Option Contents) → Option Contents
first_of [] = None
first_of (x ∷ xs) = x.1

pub first_is : (slot slot' : ℕ) (y z : Option Contents) (l r s : List (ℕ × Option Contents)) → l ≡ (slot, y) ∷ r → l ≡ (slot', z) ∷ s → y ≡ z
unfolding first_of
first_is slot slot' y z l r s a b = ap first_of (sym a ∙ b)

pub taking_takes : (p : Private) (op : Op) → TakesBox p.phase → op ≡ next_of p → ((x y : ℕ) → op ≡ ops.TakeBox x y → ⊥) → ⊥
taking_takes p op takes is_op no_take = no_take p.number (p.epoch + 1) (is_op ∙ takes_op p takes)

-- At the calls of a step.
pub ready_hands : (t : Seated) (p : Private) (wk : Option Start) → MayGo p wk → hands t p ≡ hands t (ready p wk)
ready_hands t p None may = refl
ready_hands t p (Some start) may =
    no_hands t.hand p.number p.phase (idle_here p.phase may.0) ∙ sym (no_hands t.hand (begun_of p start.work start.from).number (begun_of p start.work start.from).phase (begun_gives_none p start.work start.from))

pub ready_between : (p : Private) (wk : Option Start) → IsBetween p.phase → IsBetween (ready p wk).phase
unfolding begun_of
ready_between p None between = between
ready_between p (Some start) between = tt

hand_twice : (hand x : Contents) (phase : phases.Phase) → hand_after hand x phase ≡ hand_after (hand_after hand x phase) x phase
hand_twice hand x at.Idle = refl
hand_twice hand x _ = refl

-- what the seat has between the operation and what is learnt
pub made_out : (t : Seated) (p q : Private) (wk : Option Start) (word : ℕ) (me : Me (Option Contents) View) → me ≡ me_after t q wk word → p ≡ q → me.1 ≡ taken_by p word p.phase
made_out t p q wk word me is same = (λ k. (is k).1) ∙ (λ k. taken_by (sym same k) word (sym same k).phase)

pub made_hand : (t : Seated) (p q : Private) (wk : Option Start) (word : ℕ) (me : Me (Option Contents) View) → me ≡ me_after t q wk word → p ≡ q
    → (seated_of me.0).hand ≡ hand_after (seated_of me.0).hand (took_of p word).log p.phase
made_hand t p q wk word me is same =
    (λ k. (seated_of (is k).0).hand) ∙ hand_twice t.hand (took_of q word).log q.phase ∙ (λ k. hand_after (seated_of (sym is k).0).hand (took_of (sym same k) word).log (sym same k).phase)

pub made_me : (t : Seated) (q m : Private) (wk : Option Start) (word : ℕ) (me me' : Me (Option Contents) View) → me ≡ me_after t q wk word → me' ≡ (me.0, hands (seated_of me.0) m)
    → me' ≡ (Mutates (seated_of me'.0), hands (seated_of me'.0) m)
made_me t q m wk word me me' is now =
    let e : me' ≡ (Mutates (seated_after t q wk word), hands (seated_after t q wk word) m) = now ∙ (λ k. ((is k).0, hands (seated_of (is k).0) m)) in
    e ∙ (λ k. (Mutates (seated_of (sym e k).0), hands (seated_of (sym e k).0) m))

pub made_told : (o p q m : Private) (t : Seated) (wk : Option Start) (word : ℕ) (me me' : Me (Option Contents) View) → p ≡ told o t.log → q ≡ ready p wk → m ≡ learnt q (Saw word)
    → me ≡ me_after t q wk word → me' ≡ (me.0, hands (seated_of me.0) m) → m ≡ told o (seated_of me'.0).log
made_told o p q m t wk word me me' at is learns seat now =
    learns ∙ ap (λ x. learnt x (Saw word)) (is ∙ ap (λ x. ready x wk) at) ∙ sym (told_beats o t.log wk word) ∙ sym ((λ k. told o (seated_of (now k).0).log) ∙ (λ k. told o (seated_of (seat k).0).log))

decided_told : {p : Private} {op : Op} {q : Private} {cmd : Cmd} {phase : phases.Phase} {its_op : Op} {registers : List (Option ℕ)} {entries : List Entry} {answer : Told}
    → Decides p op q cmd phase its_op registers entries answer → IsTold q.phase
decided_told d = subst (λ (x : Private). IsTold x.phase) (sym d.after) tt

going_told : {p : Private} {op : Op} {q : Private} {phase : phases.Phase} {its_op : Op} {next_phase : phases.Phase} → IsTold next_phase → GoesOn p op q phase its_op next_phase → IsTold q.phase
going_told is g = subst (λ (x : Private). IsTold x.phase) (sym g.after) is

crossing_told : {p : Private} {op : Op} {q : Private} {phase : phases.Phase} {its_op : Op} {epoch : ℕ} {log : Contents} {next_phase : phases.Phase}
    → IsTold next_phase → Crosses p op q phase its_op epoch log next_phase → IsTold q.phase
crossing_told is c = subst (λ (x : Private). IsTold x.phase) (sym c.after) is

step_told : {p : Private} {word : ℕ} {b : Contents} {op : Op} {q : Private} → MutatorStep p word b op q → IsTold q.phase
step_told (MutatorStep.null reg d) = decided_told d
step_told (MutatorStep.copy dst src d) = decided_told d
step_told (MutatorStep.compare a b d) = decided_told d
step_told (MutatorStep.park d) = decided_told d
step_told (MutatorStep.unpark d) = decided_told d
step_told (MutatorStep.get_of_null dst src f names d) = decided_told d
step_told (MutatorStep.get dst src f slot names d) = decided_told d
step_told (MutatorStep.put_of_null src f val names d) = decided_told d
step_told (MutatorStep.put_refused src f val slot names full d) = decided_told d
step_told (MutatorStep.put_into_leaf src f val slot names room leaf d) = decided_told d
step_told (MutatorStep.put_begins src f val slot names room leaf g) = going_told tt g
step_told (MutatorStep.put src f val slot d) = decided_told d
step_told (MutatorStep.value_of_null reg names d) = decided_told d
step_told (MutatorStep.value reg slot names d) = decided_told d
step_told (MutatorStep.new_refused reg label leaf full d) = decided_told d
step_told (MutatorStep.new_begins reg label leaf room g) = going_told tt g
step_told (MutatorStep.new_wins reg label leaf before slot free d) = decided_told d
step_told (MutatorStep.new_goes_on reg label leaf before slot taken more g) = going_told tt g
step_told (MutatorStep.new_finds_none reg label leaf before slot taken last g) = going_told tt g
step_told (MutatorStep.new_is_full reg label leaf before still d) = decided_told d
step_told (MutatorStep.new_is_busy reg label leaf before moves d) = decided_told d
step_told (MutatorStep.leave_refused uncollected d) = decided_told d
step_told (MutatorStep.leave_begins collected g) = going_told tt g
step_told (MutatorStep.leave l) = subst (λ (x : Private). IsTold x.phase) (sym l.after) tt
step_told (MutatorStep.leave_ends l) = subst (λ (x : Private). IsTold x.phase) (sym l.after) tt
step_told (MutatorStep.poll_stays own g) = going_told tt g
step_told (MutatorStep.poll_crosses other g) = going_told tt g
step_told (MutatorStep.take_box c) = crossing_told tt c
step_told (MutatorStep.give_box c) = crossing_told tt c

learnt_told : (p : Private) (word : ℕ) → is_busy p ≡ true → IsBetween p.phase → IsTold (learnt p (Saw word)).phase
learnt_told p word busy between = step_told (learnt_step p word busy between)

pub ready_busy : (p : Private) (wk : Option Start) → MayGo p wk → is_busy (ready p wk) ≡ true
unfolding begun_of
ready_busy p None may = may
ready_busy p (Some start) may = refl

pub ready_keeps : (p : Private) (wk : Option Start) → KeepsSizes p (ready p wk)
unfolding begun_of
ready_keeps p None = record { number = refl; slots = refl; fields = refl; registers = refl; capacity = refl; parked = refl }
ready_keeps p (Some start) = record { number = refl; slots = refl; fields = refl; registers = refl; capacity = refl; parked = refl }

-- all of it, of a step that may begin a work first
pub record Counted (p : Private) (wk : Option Start) (word : ℕ) : Type 0 where
  pub steps : (learnt (ready p wk) (Saw word)).steps ≡ (ready p wk).steps + 1
  pub work : work_of (learnt (ready p wk) (Saw word)) ≡ work_of (ready p wk)
  pub same : KeepsSizes p (learnt (ready p wk) (Saw word))
  pub told : IsTold (learnt (ready p wk) (Saw word)).phase

pub counted : (p : Private) (wk : Option Start) (word : ℕ) → MayGo p wk → IsBetween p.phase → Counted p wk word
counted p wk word may between =
    let q : Private = ready p wk in
    let busy : is_busy q ≡ true = ready_busy p wk may in
    let b : IsBetween q.phase = ready_between p wk between in
    let k = learnt_keeps q word busy b in
    let r = ready_keeps p wk in
    record {
      steps = learnt_counts q word busy b;
      work = k.1;
      same = record { number = k.0.number ∙ r.number; slots = k.0.slots ∙ r.slots; fields = k.0.fields ∙ r.fields; registers = k.0.registers ∙ r.registers; capacity = k.0.capacity ∙ r.capacity; parked = k.0.parked ∙ r.parked };
      told = learnt_told q word busy b;
    }

-- Births.
pub births_both : (p : Private) (cs bs : List Beat) → births_told p (cs ++ bs) ≡ births_told p cs + births_told (told p cs) bs
births_both p [] bs = omega arith
births_both p (c ∷ cs) bs = let rest = births_both (learnt p c) cs bs in omega (arith, rest)

births_beats : (p : Private) (wk : Option Start) (word : ℕ) → births_told p (beats wk word) ≡ births_of (next_of (ready p wk)) word
births_beats p None word = omega arith
births_beats p (Some start) word = omega arith

pub births_more : (o p : Private) (log : List Beat) (wk : Option Start) (word now then_ : ℕ) → p ≡ told o log → now ≡ births_told o log % 2 ^ 64 → then_ ≡ (now + births_of (next_of (ready p wk)) word) % 2 ^ 64
    → then_ ≡ births_told o (log ++ beats wk word) % 2 ^ 64
births_more o p log wk word now then_ is was more =
    let all = births_both o log (beats wk word) in
    let one : births_told (told o log) (beats wk word) ≡ births_of (next_of (ready p wk)) word = births_beats (told o log) wk word ∙ ap (λ (q : Private). births_of (next_of (ready q wk)) word) (sym is) in
    omega (arith, was, more, all, one)

-- A work and its steps.
pub begun_work : (p : Private) (work : Work) (from : ℕ) → work_of (begun_of p work from) ≡ Some work
unfolding begun_of
begun_work p work from = refl

pub keeps_on : (a b d : Private) → KeepsSizes a b → KeepsSizes b d → KeepsSizes a d
keeps_on a b d x y = record { number = y.number ∙ x.number; slots = y.slots ∙ x.slots; fields = y.fields ∙ x.fields; registers = y.registers ∙ x.registers; capacity = y.capacity ∙ x.capacity; parked = y.parked ∙ x.parked }

pub works_first : (h h' : MutatorView) (work : Work) (from word : ℕ) → h' ≡ record h { log = h.log ++ beats (Some (record { work = work; from = from })) word } → Works work h.log h'.log × (h' ≡ record h { log = h'.log })
works_first h h' work from word e =
    let logs : h'.log ≡ h.log ++ beats (Some (record { work = work; from = from })) word = ap (λ (x : MutatorView). x.log) e in
    (subst (Works work h.log) (sym logs) (Works.first from word), e ∙ (λ k. record h { log = sym logs k }))

-- failing probes, and one step more
probed : (work : Work) (log was : List Beat) (words : List ℕ) → Works work log was → Works work log (was ++ saw_all words)
probed work log was [] grows = subst (Works work log) (sym (append-nil was)) grows
probed work log was (w ∷ ws) grows = subst (Works work log) (append_assoc was (Saw w ∷ []) (saw_all ws)) (probed work log (was ++ Saw w ∷ []) ws (Works.then was w grows))

pub works_after : (work : Work) (log : List Beat) (l m h' : MutatorView) (word : ℕ) → HasScanned l m → h'.log ≡ m.log ++ beats None word → Works work log l.log → Works work log h'.log
works_after work log l m h' word scanned grows works =
    let passed : m.log ≡ l.log ++ saw_all scanned.words = ap (λ (x : MutatorView). x.log) scanned.grows in
    subst (Works work log) (sym grows) (Works.then m.log word (subst (Works work log) (sym passed) (probed work log l.log scanned.words works)))

-- What is known of a mutator and its mailbox after its step.
use Rattle.std.proofs.Common.{◌≡◌, ◌≢◌, ◌⊎◌, inl, inr, ℕ, ◌+◌, ◌-◌, ◌<◌, ◌==◌, ◌||◌, if◌then◌else◌, Bool, false, true, List, [], ◌∷◌, ◌++◌, None, length, slice_index_or, slice_set, refl, sym, ap, subst, ◌∙◌, arith, length-append, lit<}
use Rattle.std.proofs.lemmas.Bool.{cases_Bool, cases_eq, false≢true}
use Rattle.std.proofs.lemmas.Nat.{mod-mul-add}
use Rattle.std.proofs.lemmas.List.{length-set, set-get_or, get_or-set_same, get_or-set_other, length-replicate}
use Rattle.std.proofs.lemmas.List.Elements.{All-append, All-cons, All-nil}
use Rattle.rec_core.proofs.Common.{crossing_word, Spare, Op, Contents, Entry, Private, KeepsSizes, Step, IsFound, step_between, blank, IsMutator, spare_of, nobody, IsSettledIn, HasLabelAt, IsOwn, IsMadeIn, IsBufferOf, Handshake, HasCrossed, IsBehind, IsCrossing, IsHandshake, IsActor, HasMutators, epoch_at, has_let_go, is_parting, Config}
use Rattle.rec_word.specs.declared.mailbox.Mailbox.{Mailbox}
use Rattle.rec_word.specs.declared.mailbox.Mailbox.TheVariants.{Retired, WithCollector, WithMutator}
use Rattle.rec_word.specs.Mailbox.{mailbox_of}
use Rattle.rec_model.specs.Reach.{named}
use Rattle.rec_mutator.specs.Causes.{gives_back}
use Rattle.rec_mutator.specs.Private.{is_busy, is_busy_at}
use Rattle.rec_mutator.specs.Took.{is_uncollected_in}
use Rattle.rec_mutator.specs.declared.phase.Phase as phases
use Rattle.rec_mutator.specs.declared.phase.Phase.TheVariants as at
use Rattle.rec_mutator.proofs.Sizes.{step_keeps, step_dates}
use Rattle.rec_mutator.proofs.Machines.{IsBox, step_machine}

-- a mutator that isn't finished with its work hasn't left
pub busy_stays : {dated : Bool} → {config : Config} {t : ℕ} {p : Private} → IsOwn dated config t p → is_busy p ≡ true → p.left ≡ false
busy_stays {p = p} own busy = elim (cases_Bool p.left) [ inl left ↦ absurd (false≢true (sym (own.idle left) ∙ busy)) | inr stays ↦ stays ]

-- one that doesn't leave is idle where it has left
pub idle_of : (p q : Private) → p.left ≡ false → q.left ≡ p.left → q.left ≡ true → is_busy q ≡ false
idle_of p q stays same left = absurd (false≢true (sym stays ∙ sym same ∙ left))

-- the machine of a mutator after its step
pub own_stepped : {config : Config} {t : ℕ} {p : Private} {word : ℕ} {box : Contents} {op : Op} {q : Private} → IsOwn true config t p → IsBox p box → IsFound p op word → Step p word box op q → HasLabelAt q.phase → (q.left ≡ true → is_busy q ≡ false) → IsOwn true config t q
own_stepped own sized found step label idle =
    let same : KeepsSizes _ _ = (step_keeps sized.capacity step).0 in
    record {
      number = same.number ∙ own.number;
      slots = same.slots ∙ own.slots;
      fields = same.fields ∙ own.fields;
      registers = same.registers ∙ own.registers;
      capacity = same.capacity ∙ own.capacity;
      machine = step_machine own.machine sized found step;
      between = step_between step;
      label = label;
      idle = idle;
      awake = same.parked ∙ own.awake;
      dates = step_dates step ∙ own.dates;
    }

-- a settled mutator gives no mailbox back
pub settled_here : (mailbox : Mailbox) (phase : phases.Phase) → IsSettledIn mailbox phase → gives_back phase ≡ false
settled_here mailbox at.Crossing is = absurd is
settled_here mailbox at.Swapping is = absurd is
settled_here mailbox at.Giving is = absurd is
settled_here mailbox at.Parting is = absurd is
settled_here mailbox _ is = refl

-- so does one that is idle
pub idle_here : (phase : phases.Phase) → is_busy_at phase ≡ false → gives_back phase ≡ false
idle_here at.Giving idle = absurd (false≢true (sym idle))
idle_here at.Parting idle = absurd (false≢true (sym idle))
idle_here _ idle = refl

-- it is settled, wherever its mailbox is
pub idle_settled : (mailbox : Mailbox) (phase : phases.Phase) → is_busy_at phase ≡ false → IsSettledIn mailbox phase
idle_settled mailbox at.Crossing idle = absurd (false≢true (sym idle))
idle_settled mailbox at.Swapping idle = absurd (false≢true (sym idle))
idle_settled mailbox at.Giving idle = absurd (false≢true (sym idle))
idle_settled mailbox at.Leaving idle = absurd (false≢true (sym idle))
idle_settled mailbox at.Retiring idle = absurd (false≢true (sym idle))
idle_settled mailbox at.Parting idle = absurd (false≢true (sym idle))
idle_settled mailbox _ idle = tt

-- one that gives none back is in its own epoch
pub epoch_here : (p : Private) → gives_back p.phase ≡ false → epoch_at p ≡ p.epoch
epoch_here p here = ap (λ (b : Bool). if b then p.epoch + 1 else p.epoch) here

-- one that does is dated by the next one
pub epoch_next : (p : Private) → gives_back p.phase ≡ true → epoch_at p ≡ p.epoch + 1
epoch_next p gives = ap (λ (b : Bool). if b then p.epoch + 1 else p.epoch) gives

-- one that has crossed is in the requested epoch
pub crossed_here : {requested : ℕ} {p : Private} {crossing : ℕ} {mailbox : Mailbox} → HasCrossed requested p crossing mailbox → epoch_at p ≡ requested
crossed_here {p = p} {mailbox = mailbox} crossed = epoch_here p (settled_here mailbox p.phase crossed.settled) ∙ crossed.epoch

-- one that gives no mailbox back isn't about to have left
pub not_parting : (phase : phases.Phase) → gives_back phase ≡ false → is_parting phase ≡ false
not_parting at.Parting here = absurd (false≢true (sym here))
not_parting _ here = refl

-- a mutator that hasn't left, and isn't about to have, holds its registers
pub holds_registers : (p : Private) → p.left ≡ false → is_parting p.phase ≡ false → has_let_go p ≡ false
holds_registers p stays phase = ap (λ (b : Bool). b || p.left) phase ∙ stays

-- one that has left has let go of them
pub left_let_go : (p : Private) → p.left ≡ true → has_let_go p ≡ true
left_let_go p left = elim (is_parting p.phase) as (λ (b : Bool). (b || p.left) ≡ true) [ true ↦ refl | false ↦ left ]

-- A handshake stays where the mutator stays in its epoch, and goes on to a phase that is settled wherever its mailbox may be.
handshake_stays : (config : Config) (requested : ℕ) (p q : Private) (crossing : ℕ) (box : Contents) (stand : Handshake)
    → p.left ≡ false → gives_back p.phase ≡ false → gives_back q.phase ≡ false → ((mailbox : Mailbox) → crossing ≡ crossing_word requested mailbox → IsSettledIn mailbox q.phase) → q.epoch ≡ p.epoch → q.left ≡ p.left
    → IsHandshake config requested p crossing box stand → IsHandshake config requested q crossing box stand
handshake_stays config requested p q crossing box Handshake.Done stays here next settled epoch left (inl (crossed, there, spare)) =
    inl (record { epoch = epoch ∙ crossed.epoch; word = crossed.word; settled = settled Spare crossed.word }, left ∙ there, spare)
handshake_stays config requested p q crossing box Handshake.Done stays here next settled epoch left (inr (inl (crosses, parting))) = absurd (false≢true (sym here ∙ crosses.phase))
handshake_stays config requested p q crossing box Handshake.Done stays here next settled epoch left (inr (inr retired)) = absurd (false≢true (sym stays ∙ retired.left))
handshake_stays config requested p q crossing box Handshake.Held stays here next settled epoch left is =
    (record { epoch = epoch ∙ is.0.epoch; word = is.0.word; settled = settled WithCollector is.0.word }, is.1)
handshake_stays config requested p q crossing box Handshake.Due stays here next settled epoch left (inl behind) =
    inl (record { epoch = ap (λ n. n + 1) epoch ∙ behind.epoch; word = behind.word ∙ ap (λ n. crossing_word n Spare) (sym epoch); here = next; stays = left ∙ behind.stays; spare = behind.spare })
handshake_stays config requested p q crossing box Handshake.Due stays here next settled epoch left (inr (inl crosses)) = absurd (false≢true (sym here ∙ crosses.phase))
handshake_stays config requested p q crossing box Handshake.Due stays here next settled epoch left (inr (inr (crossed, last))) =
    inr (inr (record { epoch = epoch ∙ crossed.epoch; word = crossed.word; settled = settled Retired crossed.word }, last ∙ sym left))
handshake_stays config requested p q crossing box Handshake.Gone stays here next settled epoch left gone = absurd (false≢true (sym stays ∙ gone.left))

-- a mutator in the epoch before the requested one is due, and its mailbox is home with a spare, unless it is crossing
pub behind_due : (config : Config) (requested : ℕ) (p : Private) (crossing : ℕ) (box : Contents) (stand : Handshake)
    → p.left ≡ false → gives_back p.phase ≡ false → p.epoch ≢ requested → IsHandshake config requested p crossing box stand → (stand ≡ Handshake.Due) × IsBehind config requested p crossing box
behind_due config requested p crossing box Handshake.Done stays here other (inl (crossed, there, spare)) = absurd (other crossed.epoch)
behind_due config requested p crossing box Handshake.Done stays here other (inr (inl (crosses, parting))) = absurd (false≢true (sym here ∙ crosses.phase))
behind_due config requested p crossing box Handshake.Done stays here other (inr (inr retired)) = absurd (false≢true (sym stays ∙ retired.left))
behind_due config requested p crossing box Handshake.Held stays here other is = absurd (other is.0.epoch)
behind_due config requested p crossing box Handshake.Due stays here other (inl behind) = (refl, behind)
behind_due config requested p crossing box Handshake.Due stays here other (inr (inl crosses)) = absurd (false≢true (sym here ∙ crosses.phase))
behind_due config requested p crossing box Handshake.Due stays here other (inr (inr (crossed, last))) = absurd (other crossed.epoch)
behind_due config requested p crossing box Handshake.Gone stays here other gone = absurd (false≢true (sym stays ∙ gone.left))

-- One that is about to take its mailbox to cross is behind.
pub crossing_due : (config : Config) (requested : ℕ) (p : Private) (crossing : ℕ) (box : Contents) (stand : Handshake)
    → p.left ≡ false → p.phase ≡ at.Crossing → IsHandshake config requested p crossing box stand → (stand ≡ Handshake.Due) × IsBehind config requested p crossing box
crossing_due config requested p crossing box stand stays phase h = go stand h
  where
    unsettled : (mailbox : Mailbox) {A : Type 0} → IsSettledIn mailbox p.phase → A
    unsettled mailbox settled = absurd (subst (IsSettledIn mailbox) phase settled)

    go : (stand : Handshake) → IsHandshake config requested p crossing box stand → (stand ≡ Handshake.Due) × IsBehind config requested p crossing box
    go Handshake.Done (inl (crossed, there, spare)) = unsettled Spare crossed.settled
    go Handshake.Done (inr (inl (crosses, parting))) = absurd (false≢true (sym (ap gives_back phase) ∙ crosses.phase))
    go Handshake.Done (inr (inr retired)) = absurd (false≢true (sym stays ∙ retired.left))
    go Handshake.Held is = unsettled WithCollector is.0.settled
    go Handshake.Due (inl behind) = (refl, behind)
    go Handshake.Due (inr (inl crosses)) = absurd (false≢true (sym (ap gives_back phase) ∙ crosses.phase))
    go Handshake.Due (inr (inr (crossed, last))) = unsettled Retired crossed.settled
    go Handshake.Gone gone = absurd (false≢true (sym stays ∙ gone.left))

-- One that holds its mailbox is crossing into the requested epoch, or leaves that.
pub giving_crosses : (config : Config) (requested : ℕ) (p : Private) (crossing : ℕ) (box : Contents) (stand : Handshake)
    → p.left ≡ false → gives_back p.phase ≡ true → IsHandshake config requested p crossing box stand
    → ((stand ≡ Handshake.Due) × IsCrossing config requested p crossing box) ⊎ ((stand ≡ Handshake.Done) × IsCrossing config (requested + 1) p crossing box × (p.phase ≡ at.Parting))
giving_crosses config requested p crossing box stand stays gives h = go stand h
  where
    unsettled : (mailbox : Mailbox) {A : Type 0} → IsSettledIn mailbox p.phase → A
    unsettled mailbox settled = absurd (false≢true (sym (settled_here mailbox p.phase settled) ∙ gives))

    go : (stand : Handshake) → IsHandshake config requested p crossing box stand
        → ((stand ≡ Handshake.Due) × IsCrossing config requested p crossing box) ⊎ ((stand ≡ Handshake.Done) × IsCrossing config (requested + 1) p crossing box × (p.phase ≡ at.Parting))
    go Handshake.Done (inl (crossed, there, spare)) = unsettled Spare crossed.settled
    go Handshake.Done (inr (inl (crosses, parting))) = inr (refl, crosses, parting)
    go Handshake.Done (inr (inr retired)) = absurd (false≢true (sym stays ∙ retired.left))
    go Handshake.Held is = unsettled WithCollector is.0.settled
    go Handshake.Due (inl behind) = absurd (false≢true (sym behind.here ∙ gives))
    go Handshake.Due (inr (inl crosses)) = inl (refl, crosses)
    go Handshake.Due (inr (inr (crossed, last))) = unsettled Retired crossed.settled
    go Handshake.Gone gone = absurd (false≢true (sym stays ∙ gone.left))

-- One that is about to take its mailbox to leave finds it home with a spare, in the requested epoch or in the one before.
pub leaving_home : (config : Config) (requested : ℕ) (p : Private) (crossing : ℕ) (box : Contents) (stand : Handshake)
    → p.left ≡ false → p.phase ≡ at.Leaving → IsHandshake config requested p crossing box stand
    → (box ≡ spare_of config) × (crossing ≡ crossing_word p.epoch Spare) × (((stand ≡ Handshake.Done) × (p.epoch ≡ requested)) ⊎ ((stand ≡ Handshake.Due) × (p.epoch + 1 ≡ requested)))
leaving_home config requested p crossing box stand stays phase h = go stand h
  where
    collected : (mailbox : Mailbox) → IsSettledIn mailbox p.phase → is_uncollected_in mailbox ≡ false
    collected mailbox settled = subst (IsSettledIn mailbox) phase settled

    go : (stand : Handshake) → IsHandshake config requested p crossing box stand
        → (box ≡ spare_of config) × (crossing ≡ crossing_word p.epoch Spare) × (((stand ≡ Handshake.Done) × (p.epoch ≡ requested)) ⊎ ((stand ≡ Handshake.Due) × (p.epoch + 1 ≡ requested)))
    go Handshake.Done (inl (crossed, there, spare)) = (spare, crossed.word ∙ ap (λ n. crossing_word n Spare) (sym crossed.epoch), inl (refl, crossed.epoch))
    go Handshake.Done (inr (inl (crosses, parting))) = absurd (false≢true (sym (ap gives_back phase) ∙ crosses.phase))
    go Handshake.Done (inr (inr retired)) = absurd (false≢true (sym stays ∙ retired.left))
    go Handshake.Held is = absurd (false≢true (sym (collected WithCollector is.0.settled)))
    go Handshake.Due (inl behind) = (behind.spare, behind.word, inr (refl, behind.epoch))
    go Handshake.Due (inr (inl crosses)) = absurd (false≢true (sym (ap gives_back phase) ∙ crosses.phase))
    go Handshake.Due (inr (inr (crossed, last))) = absurd (false≢true (sym (collected Retired crossed.settled)))
    go Handshake.Gone gone = absurd (false≢true (sym stays ∙ gone.left))

-- an actor whose step leaves its log, its epoch and its mailbox
pub actor_stays : {config : Config} {requested : ℕ} {stand : Handshake} {t : ℕ} {p q : Private} {crossing : ℕ} {box : Contents}
    → IsActor true config requested stand t p crossing box → IsOwn true config t q → p.left ≡ false → gives_back p.phase ≡ false → gives_back q.phase ≡ false → ((mailbox : Mailbox) → crossing ≡ crossing_word requested mailbox → IsSettledIn mailbox q.phase) → q.epoch ≡ p.epoch → q.left ≡ p.left
    → IsBufferOf true config (epoch_at p) q.log → named q.log.snapshot ≡ [] → q.log.last ≡ false → IsActor true config requested stand t q crossing box
actor_stays {config = config} {requested = requested} {stand = stand} {t = t} {p = p} {q = q} {crossing = crossing} {box = box} a own stays here next settled epoch left log unwritten unmarked =
    let same : epoch_at q ≡ epoch_at p = epoch_here q next ∙ epoch ∙ sym (epoch_here p here) in
    record {
      own = own;
      log = subst (λ (e : ℕ). IsBufferOf true config e q.log) (sym same) log;
      unwritten = unwritten;
      unmarked = unmarked;
      let_go = λ gone. absurd (false≢true (sym (holds_registers q (left ∙ stays) (not_parting q.phase next)) ∙ gone));
      mailbox = subst (λ (e : ℕ). IsBufferOf true config (e - 1) box) (sym same) a.mailbox;
      handshake = handshake_stays config requested p q crossing box stand stays here next settled epoch left a.handshake;
    }

-- where the mailbox is, by the two bits that say so
abbrev mailbox_by : ℕ → Mailbox
mailbox_by bits = if bits == 0 then Spare else (if bits == 1 then WithMutator else (if bits == 2 then Retired else WithCollector))

-- a crossing word says where its mailbox is
pub mailbox_told : (epoch : ℕ) (mailbox : Mailbox) → mailbox_of (crossing_word epoch mailbox) ≡ mailbox
mailbox_told epoch Spare = ap mailbox_by (mod-mul-add epoch 4 0 (lit< tt))
mailbox_told epoch WithMutator = ap mailbox_by (mod-mul-add epoch 4 1 (lit< tt))
mailbox_told epoch Retired = ap mailbox_by (mod-mul-add epoch 4 2 (lit< tt))
mailbox_told epoch WithCollector = ap mailbox_by (mod-mul-add epoch 4 3 (lit< tt))

-- a log with one entry more
pub one_entry : (config : Config) (epoch : ℕ) (b : Contents) (entry : Entry) → IsBufferOf true config epoch b → length b.entries < b.capacity → IsMadeIn epoch entry → IsBufferOf true config epoch (record b { entries = b.entries ++ entry ∷ [] })
one_entry config epoch b entry is room made =
    let more : length (b.entries ++ entry ∷ []) ≡ length b.entries + 1 = length-append b.entries (entry ∷ []) in
    record {
      snapshot = is.snapshot;
      capacity = is.capacity;
      few = omega arith;
      made = All-append (IsMadeIn epoch) b.entries (entry ∷ []) is.made (All-cons (IsMadeIn epoch) entry [] made (All-nil (IsMadeIn epoch)));
    }

-- a spare buffer is one of any epoch
pub spare_buffer : (config : Config) (epoch : ℕ) → IsBufferOf true config epoch (spare_of config)
spare_buffer config epoch = record { snapshot = length-replicate config.registers None; capacity = refl; few = omega arith; made = All-nil (IsMadeIn epoch) }

-- all mutators, where one is changed with its crossing word and its mailbox
pub others_stay : {config : Config} {requested : ℕ} {stands : (t : ℕ) → Handshake} {mutators : List Private} {crossing : List ℕ} {boxes : List Contents} (t : ℕ) (q : Private) (word : ℕ) (box : Contents)
    → HasMutators true config requested stands mutators crossing boxes → IsMutator config t → IsActor true config requested (stands t) t q word box
    → HasMutators true config requested stands (slice_set mutators (t - 1) q) (slice_set crossing (t - 1) word) (slice_set boxes (t - 1) box)
others_stay {config = config} {requested = requested} {stands = stands} {mutators = mutators} {crossing = crossing} {boxes = boxes} t q word box m is actor =
    let many : length mutators ≡ config.mutators = m.many in
    let words : length crossing ≡ config.mutators = m.words in
    let mailboxes : length boxes ≡ config.mutators = m.mailboxes in
    record {
      many = length-set mutators (t - 1) q ∙ many;
      words = length-set crossing (t - 1) word ∙ words;
      mailboxes = length-set boxes (t - 1) box ∙ mailboxes;
      each = λ s there. elim (cases_eq s t) [
        | inl same ↦
            let p_is : slice_index_or (slice_set mutators (t - 1) q) (s - 1) nobody ≡ q = ap (λ n. slice_index_or (slice_set mutators (t - 1) q) (n - 1) nobody) same ∙ get_or-set_same mutators (t - 1) q nobody (omega (arith, is.0, is.1)) in
            let word_is : slice_index_or (slice_set crossing (t - 1) word) (s - 1) 0 ≡ word = ap (λ n. slice_index_or (slice_set crossing (t - 1) word) (n - 1) 0) same ∙ get_or-set_same crossing (t - 1) word 0 (omega (arith, is.0, is.1)) in
            let box_is : slice_index_or (slice_set boxes (t - 1) box) (s - 1) (blank 0 0) ≡ box = ap (λ n. slice_index_or (slice_set boxes (t - 1) box) (n - 1) (blank 0 0)) same ∙ get_or-set_same boxes (t - 1) box (blank 0 0) (omega (arith, is.0, is.1)) in
            actor_as s p_is word_is box_is (subst (λ (n : ℕ). IsActor true config requested (stands n) n q word box) (sym same) actor)
        | inr other ↦
            let apart : (s - 1) ≢ (t - 1) = λ e. other (omega (arith, is.0, there.0)) in
            actor_as s (get_or-set_other mutators (t - 1) (s - 1) q nobody apart) (get_or-set_other crossing (t - 1) (s - 1) word 0 apart) (get_or-set_other boxes (t - 1) (s - 1) box (blank 0 0) apart) (m.each s there)
      ];
    }
  where
    actor_as : (s : ℕ) {p p2 : Private} {n n2 : ℕ} {b b2 : Contents} → p2 ≡ p → n2 ≡ n → b2 ≡ b → IsActor true config requested (stands s) s p n b → IsActor true config requested (stands s) s p2 n2 b2
    actor_as s {p} {p2} {n} {n2} {b} {b2} ps ns bs a =
        subst (λ (x : Private). IsActor true config requested (stands s) s x n2 b2) (sym ps) (subst (λ (x : ℕ). IsActor true config requested (stands s) s p x b2) (sym ns) (subst (λ (x : Contents). IsActor true config requested (stands s) s p n x) (sym bs) a))

-- where the crossing word and the mailbox stay
pub mutator_changes : {config : Config} {requested : ℕ} {stands : (t : ℕ) → Handshake} {mutators : List Private} {crossing : List ℕ} {boxes : List Contents} (t : ℕ) (q : Private)
    → HasMutators true config requested stands mutators crossing boxes → IsMutator config t → IsActor true config requested (stands t) t q (slice_index_or crossing (t - 1) 0) (slice_index_or boxes (t - 1) (blank 0 0))
    → HasMutators true config requested stands (slice_set mutators (t - 1) q) crossing boxes
mutator_changes {config = config} {requested = requested} {stands = stands} {mutators = mutators} {crossing = crossing} {boxes = boxes} t q m is actor =
    subst (λ (cs : List ℕ). HasMutators true config requested stands (slice_set mutators (t - 1) q) cs boxes) (set-get_or crossing (t - 1) 0)
    (subst (λ (bs : List Contents). HasMutators true config requested stands (slice_set mutators (t - 1) q) (slice_set crossing (t - 1) (slice_index_or crossing (t - 1) 0)) bs) (set-get_or boxes (t - 1) (blank 0 0))
    (others_stay t q (slice_index_or crossing (t - 1) 0) (slice_index_or boxes (t - 1) (blank 0 0)) m is actor))

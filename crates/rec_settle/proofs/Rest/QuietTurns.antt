-- A turn of the collector leaves the mutators of a heap at rest.
use Rattle.std.proofs.Common.{◌≡◌, ◌≢◌, ◌⊎◌, inl, inr, ℕ, ◌+◌, ◌-◌, ◌<◌, ◌≤◌, true, false, Option, None, Some, List, [], ◌∷◌, length, replicate, slice_get, slice_index_or, slice_set, refl, sym, ap, subst, ◌∙◌, arith, Bool}
use Rattle.std.proofs.lemmas.Bool.{cases_eq, cases_lt, cond-true, false≢true, ltb-true, lt-ltb, leb-true, le-leb}
use Rattle.std.proofs.lemmas.List.{length-set, get_or-set_same, get_or-set_other}
use Rattle.rec_core.proofs.Common.{crossing_word, Retired, Spare, WithCollector, WithMutator, Contents, is_busy, IsClearingIn, Parts, blank, buffer_at, spare, with_parts, PreparesOn, TriesOn, ClearsOn, Begun, batched, ended, has_left, moved, noted, requested, zeros_released, Phase, Idle, Looking, Swapping, Returning, Releasing, Freeing, Trying, Preparing, Opening, Sweeping, Closing, Turn, IsMutator, Core, mutator, box, crossing_of, spare_of, Handshake, stand_at, stand_in, IsHandshake, IsKept, IsKeptBy, older_at}
use Rattle.rec_core.specs.declared.config.Config.{Config}
use Rattle.rec_word.specs.declared.mailbox.Mailbox.{Mailbox}
use Rattle.rec_mutator.specs.Private as mutators
use Rattle.rec_sigma.specs.Prepare as preps
use Rattle.rec_trial.specs.Trial as trials
use Rattle.rec_model.specs.Reach.{named}
use Rattle.rec_collector.specs.Kept.{AreSpare, under_way}
use Rattle.rec_collector.specs.Private.{Private}
use Rattle.rec_collector.specs.Step.{GoesOn}
use Rattle.rec_settle.specs.Quiet.{IsRetired, gathered, AreGathered, AreQuiet}
use Rattle.rec_core.proofs.Actors.{left_let_go}
use Rattle.rec_core.proofs.Begun.{applied_lands}
use Rattle.rec_core.proofs.Freeing.{freed_lands}
use Rattle.rec_core.proofs.Landed.{HasCleared}
use Rattle.rec_core.proofs.Releasing.{released_lands}
use Rattle.rec_core.proofs.SetTests.{tested_lands}
use Rattle.rec_core.proofs.TurnCases.{Awaits, crossing_with, words_without, swept_by, TurnCase}
use Rattle.rec_core.proofs.Gathering.{awaits_kept}
use Rattle.rec_core.proofs.Turns.{its_spare, now_at}

-- no mutator is past the epoch behind the requested one, and one that is in that has left
epoch_most : (config : Config) (requested : ℕ) (p : mutators.Private) (crossing : ℕ) (b : Contents) (stand : Handshake) → IsHandshake config requested p crossing b stand → (p.epoch ≤ requested) ⊎ ((p.left ≡ true) × (p.epoch ≡ requested + 1))
epoch_most config requested p crossing b Handshake.Done (inl (crossed, stays, spare)) = let e : p.epoch ≡ requested = crossed.epoch in inl (omega (arith, e))
epoch_most config requested p crossing b Handshake.Done (inr (inl (crosses, parting))) = let e : p.epoch + 1 ≡ requested + 1 = crosses.epoch in inl (omega (arith, e))
epoch_most config requested p crossing b Handshake.Done (inr (inr retired)) = inr (retired.left, retired.epoch)
epoch_most config requested p crossing b Handshake.Held h = let e : p.epoch ≡ requested = h.0.epoch in inl (omega (arith, e))
epoch_most config requested p crossing b Handshake.Due (inl behind) = let e : p.epoch + 1 ≡ requested = behind.epoch in inl (omega (arith, e))
epoch_most config requested p crossing b Handshake.Due (inr (inl crosses)) = let e : p.epoch + 1 ≡ requested = crosses.epoch in inl (omega (arith, e))
epoch_most config requested p crossing b Handshake.Due (inr (inr (crossed, last))) = let e : p.epoch ≡ requested = crossed.epoch in inl (omega (arith, e))
epoch_most config requested p crossing b Handshake.Gone gone = inl gone.past

-- nor is a buffer that waits in its mailbox
waits_most : (config : Config) (requested into : ℕ) (p : mutators.Private) (crossing : ℕ) (b : Contents) (stand : Handshake) → IsHandshake config requested p crossing b stand → crossing ≡ crossing_word into Retired → into ≤ requested + 1
waits_most config requested into p crossing b Handshake.Done (inl (crossed, stays, spare)) waits = let e : crossing ≡ crossing_word requested Spare = crossed.word in absurd (omega (arith, e, waits))
waits_most config requested into p crossing b Handshake.Done (inr (inl (crosses, parting))) waits = let e : crossing ≡ crossing_word (requested + 1) WithMutator = crosses.word in absurd (omega (arith, e, waits))
waits_most config requested into p crossing b Handshake.Done (inr (inr retired)) waits = let e : crossing ≡ crossing_word (requested + 1) Retired = retired.word in omega (arith, e, waits)
waits_most config requested into p crossing b Handshake.Held h waits = let e : crossing ≡ crossing_word requested WithCollector = h.0.word in absurd (omega (arith, e, waits))
waits_most config requested into p crossing b Handshake.Due (inl behind) waits = let e : crossing ≡ crossing_word p.epoch Spare = behind.word in absurd (omega (arith, e, waits))
waits_most config requested into p crossing b Handshake.Due (inr (inl crosses)) waits = let e : crossing ≡ crossing_word requested WithMutator = crosses.word in absurd (omega (arith, e, waits))
waits_most config requested into p crossing b Handshake.Due (inr (inr (crossed, last))) waits = let e : crossing ≡ crossing_word requested Retired = crossed.word in omega (arith, e, waits)
waits_most config requested into p crossing b Handshake.Gone gone waits = let e : crossing ≡ crossing_word p.epoch Spare = gone.word in absurd (omega (arith, e, waits))

-- no older buffer is of a later epoch than the requested one
older_most : (requested : ℕ) (phase : Phase) → older_at requested phase ≤ requested
older_most requested Idle = omega arith
older_most requested (Looking t) = omega arith
older_most requested (Swapping t) = omega arith
older_most requested (Returning t) = omega arith
older_most requested _ = omega arith

-- Where nobody works, nothing of a later epoch than the requested one is there.
pub quiet_begun : {dated : Bool} → (w : Core) → IsKept dated w → ((t : ℕ) → IsMutator w.config t → is_busy (mutator w t) ≡ false) → AreQuiet (w.epoch + 1) w
quiet_begun w kept idle t is =
    let actor = kept.mutators.each t is in
    let stand : Handshake = stand_at w.collector.left w.collector.phase t in
    let most = epoch_most w.config w.epoch (mutator w t) (crossing_of w t) (box w t) stand actor.handshake in
    record {
      idle = idle t is;
      gone = λ left. elim most [ inl before ↦ omega (arith, before) | inr ahead ↦ omega (arith, ahead.1) ];
      log = λ from. elim most [
        | inl before ↦ absurd (omega (arith, from, before))
        | inr ahead ↦ ap (λ (b : Contents). b.entries) (actor.let_go (left_let_go (mutator w t) ahead.0)).log
      ];
      box = λ into early waits. absurd (omega (arith, early, waits_most w.config w.epoch into (mutator w t) (crossing_of w t) (box w t) stand actor.handshake waits));
      newer = λ early. absurd (omega (arith, early));
      older = λ from. absurd (omega (arith, from, older_most w.epoch w.collector.phase));
    }

-- registers that name nothing are all null
all_null : (registers : List (Option ℕ)) → named registers ≡ [] → registers ≡ replicate (length registers) None
all_null [] none = refl
all_null (None ∷ registers) none = ap (λ (rs : List (Option ℕ)). None ∷ rs) (all_null registers none)
all_null (Some x ∷ registers) none = let not_so : ◌≡◌ {A = List ℕ} (x ∷ named registers) [] = none in absurd (cc)

-- where the collector knows that a mutator has left, a spare has what its registers name
gone_retired : (w : Core) (t : ℕ) (b : Contents) → IsKept true w → IsMutator w.config t → has_left w.collector.left t ≡ true → b ≡ spare_of w.config → IsRetired (mutator w t).registers b
gone_retired w t b kept is left same =
    let actor = kept.mutators.each t is in
    let stands : Handshake → Type 0 = IsHandshake w.config w.epoch (mutator w t) (crossing_of w t) (box w t) in
    let gone : stands Handshake.Gone = subst stands (cond-true (has_left w.collector.left t) Handshake.Gone (stand_in w.collector.phase t) left) actor.handshake in
    let registers : (mutator w t).registers ≡ replicate (length (mutator w t).registers) None = all_null (mutator w t).registers (actor.let_go (left_let_go (mutator w t) gone.left)).registers in
    record {
      entries = ap (λ (x : Contents). x.entries) same;
      snapshot = ap (λ (x : Contents). x.snapshot) same ∙ ap (λ (n : ℕ). replicate n None) (sym actor.own.registers) ∙ sym registers;
    }

-- the gathering of a collection is over
abbrev IsPast : Phase → Type 0
IsPast Idle = ⊥
IsPast (Looking t) = ⊥
IsPast (Swapping t) = ⊥
IsPast (Returning t) = ⊥
IsPast _ = Unit {0}

-- then every mailbox was gathered, and the older buffers are those of the epoch before the last
past_gathered : (phase : Phase) → IsPast phase → ((t : ℕ) → gathered phase t ≡ true) × ((requested : ℕ) → older_at requested phase ≡ requested - 2)
past_gathered Idle past = absurd past
past_gathered (Looking t) past = absurd past
past_gathered (Swapping t) past = absurd past
past_gathered (Returning t) past = absurd past
past_gathered _ past = (λ t. refl, λ requested. refl)

-- The collection goes on with the buffers that it has, or it is complete.
data GoesOrEnds (c q : Private) : Type 0 where
  goes : q.newer ≡ c.newer → q.older ≡ c.older → IsPast q.phase → GoesOrEnds c q
  ends : q.older ≡ c.newer → q.phase ≡ Idle → GoesOrEnds c q

-- to this phase
goes_to : {c : Private} {w : Parts} {q : Private} {turn : Turn} (next : Phase) → IsPast next → GoesOn (with_parts c w) q turn next → GoesOrEnds c q
goes_to next past g =
    GoesOrEnds.goes (ap (λ (x : Private). x.newer) g.after) (ap (λ (x : Private). x.older) g.after) (subst IsPast (sym (ap (λ (x : Private). x.phase) g.after)) past)

-- a preparation that came so far
prepares_comes : {c : Private} {w : Parts} {v : preps.Work} {q : Private} {turn : Turn} → PreparesOn c w v q turn → GoesOrEnds c q
prepares_comes {c} {w} {v} (PreparesOn.more left g) = goes_to {w = record w { counts = v.counts }} (Preparing v.machine) tt g
prepares_comes {c} {w} {v} (PreparesOn.sweeps_next none some g) = goes_to {w = record w { counts = v.counts }} Opening tt g
prepares_comes (PreparesOn.completes none empty e) = GoesOrEnds.ends (ap (λ (x : Private). x.older) e.after) (ap (λ (x : Private). x.phase) e.after)

-- a trial
tries_comes : {c : Private} {w : Parts} {v : trials.Work} {q : Private} {turn : Turn} → TriesOn c w v q turn → GoesOrEnds c q
tries_comes {c} {w} {v} (TriesOn.more left g) = goes_to {w = record w { counts = v.counts }} (Trying v.machine) tt g
tries_comes (TriesOn.prepares none on) = prepares_comes on

-- what is begun between a batch and the next trial is a release, or the freeing of a set
clearing_past : (v : Parts) (phase : Phase) → IsClearingIn v (Some phase) → IsPast phase
clearing_past v (Releasing m) clear = tt
clearing_past v (Freeing m) clear = tt
clearing_past v _ clear = absurd clear

-- one of these
clears_comes : {w : Core} {crossing words : List ℕ} {q : Private} {turn : Turn} {b : Begun} → HasCleared w crossing words b → ClearsOn w.collector q turn b → GoesOrEnds w.collector q
clears_comes {w} {crossing} {words} {q} {turn} {b} h (ClearsOn.works phase is g) = goes_to {w = b.parts} phase (clearing_past b.parts phase (subst (IsClearingIn b.parts) is h.clears.clearing)) g
clears_comes {w} {crossing} {words} {q} {turn} {b} h (ClearsOn.tests c none some tested on) =
    clears_comes (tested_lands w crossing words b.parts (subst (λ o. HasCleared w crossing words (record { parts = b.parts; phase = o })) none h) some c tested) on
clears_comes h (ClearsOn.tries none left due on) = tries_comes on
clears_comes h (ClearsOn.waits none left off on) = prepares_comes on

-- Where every mailbox was gathered, and the collection goes on or is complete, the mutators rest. Headers, words and the freed word don't
-- matter.
comes_quiet : (first : ℕ) (w : Core) (headers words : List ℕ) (freed : ℕ) (q : Private) {stands : ℕ → Handshake} → IsKeptBy true stands w → AreGathered w → older_at w.epoch w.collector.phase ≡ w.epoch - 2 → GoesOrEnds w.collector q
    → AreQuiet first w → AreQuiet first (record w { headers = headers; words = words; freed = freed; collector = q })
comes_quiet first w headers words freed q kept all last (GoesOrEnds.goes newer older past) quiet t is =
    let k = quiet t is in
    record {
      idle = k.idle;
      gone = k.gone;
      log = k.log;
      box = k.box;
      newer = λ early has. subst (λ (bs : List Contents). IsRetired (mutator w t).registers (buffer_at bs (t - 1))) (sym newer) (k.newer early (all t is));
      older = λ from. subst (λ (bs : List Contents). IsRetired (mutator w t).registers (buffer_at bs (t - 1))) (sym older) (k.older (omega (arith, from, last, (past_gathered q.phase past).1 w.epoch)));
    }
comes_quiet first w headers words freed q kept all last (GoesOrEnds.ends older idle) quiet t is =
    let k = quiet t is in
    let some : 1 ≤ w.config.first_epoch = kept.config.some_epoch in
    let begun : w.config.first_epoch + w.collector.collections + under_way w.collector.phase ≡ w.epoch = kept.collector.begun in
    let now : older_at w.epoch q.phase ≡ w.epoch - 1 = ap (older_at w.epoch) idle in
    record {
      idle = k.idle;
      gone = k.gone;
      log = k.log;
      box = k.box;
      newer = λ early has. absurd (false≢true (sym (ap (λ phase. gathered phase t) idle) ∙ has));
      older = λ from. subst (λ (bs : List Contents). IsRetired (mutator w t).registers (buffer_at bs (t - 1))) (sym older) (k.newer (omega (arith, from, now, begun, some)) (all t is));
    }

-- whether they have left is known of all mutators
many_left : (w : Core) → IsKept true w → length w.collector.left ≡ w.config.mutators
many_left w kept = let many : length w.collector.newer ≡ w.config.mutators = kept.collector.mutators in kept.collector.machine.left ∙ many

-- what isn't gathered yet is a spare of the heap
spare_there : (w : Core) (from t : ℕ) → IsKept true w → IsMutator w.config t → AreSpare w.collector from → from < t → buffer_at w.collector.newer (t - 1) ≡ spare_of w.config
spare_there w from t kept is spares behind = let many : length w.collector.newer ≡ w.config.mutators = kept.collector.mutators in spares (t - 1) (omega (arith, behind)) (omega (arith, many, is.0, is.1)) ∙ its_spare kept.collector

-- a crossing word that was replaced by one of no waiting mailbox: a word of a waiting one is another mutator's, and was there
other_waits : (w : Core) (t : ℕ) (mailbox : Mailbox) (s into : ℕ) → IsKept true w → IsMutator w.config t → IsMutator w.config s → mailbox ≢ Retired
    → slice_index_or (crossing_with w t mailbox) (s - 1) 0 ≡ crossing_word into Retired → (s ≢ t) × (crossing_of w s ≡ crossing_word into Retired)
other_waits w t mailbox s into kept is there differs waits = elim (cases_eq s t) [
  | inl same ↦
      let many : length w.crossing ≡ w.config.mutators = kept.mutators.words in
      let word : slice_index_or (crossing_with w t mailbox) (s - 1) 0 ≡ crossing_word w.epoch mailbox
      = ap (λ n. slice_index_or (crossing_with w t mailbox) (n - 1) 0) same ∙ get_or-set_same w.crossing (t - 1) (crossing_word w.epoch mailbox) 0 (omega (arith, many, is.0, is.1)) in
      absurd (differs (only mailbox w.epoch (sym word ∙ waits)))
  | inr other ↦
      let apart : (s - 1) ≢ (t - 1) = λ e. other (omega (arith, e, is.0, there.0)) in
      (other, sym (get_or-set_other w.crossing (t - 1) (s - 1) (crossing_word w.epoch mailbox) 0 apart) ∙ waits)
]
  where
    only : (m : Mailbox) (epoch : ℕ) → crossing_word epoch m ≡ crossing_word into Retired → m ≡ Retired
    only Spare epoch same = absurd (omega (arith, same))
    only WithMutator epoch same = absurd (omega (arith, same))
    only Retired epoch same = refl
    only WithCollector epoch same = absurd (omega (arith, same))

-- The next epoch is requested: no mailbox is gathered of it, and those that are passed over have spares.
requested_quiet : (first : ℕ) (w : Core) (phase : Phase) (turns : ℕ) → IsKept true w → w.collector.phase ≡ Idle → older_at (w.epoch + 1) phase ≡ w.epoch - 1
    → ((t : ℕ) → IsMutator w.config t → gathered phase t ≡ true → has_left w.collector.left t ≡ true) → AreQuiet first w
    → AreQuiet first (record w { epoch = w.epoch + 1; collector = record (requested w.collector) { phase = phase; turns = turns } })
requested_quiet first w phase turns kept idle older passed quiet t is =
    let k = quiet t is in
    let last : older_at w.epoch w.collector.phase ≡ w.epoch - 1 = ap (older_at w.epoch) idle in
    record {
      idle = k.idle;
      gone = k.gone;
      log = k.log;
      box = k.box;
      newer = λ early has. gone_retired w t (buffer_at w.collector.newer (t - 1)) kept is (passed t is has) (spare_there w 0 t kept is (now_at w Idle kept idle).1 (omega (arith, is.0)));
      older = λ from. k.older (omega (arith, from, last, older));
    }

-- A mailbox is gathered: the buffer in it is one of the newer ones.
gathers_quiet : (first : ℕ) (w : Core) (t : ℕ) → IsKept true w → IsMutator w.config t → w.collector.phase ≡ Looking t → crossing_of w t ≡ crossing_word w.epoch Retired → AreQuiet first w
    → AreQuiet first (record w {
      crossing = crossing_with w t WithCollector;
      boxes = slice_set w.boxes (t - 1) (spare w.collector);
      collector = moved (record w.collector { newer = slice_set w.collector.newer (t - 1) (box w t) }) (Returning t);
    })
gathers_quiet first w t kept is looks crossed quiet s there =
    let k = quiet s there in
    let many : length w.collector.newer ≡ w.config.mutators = kept.collector.mutators in
    let last : older_at w.epoch w.collector.phase ≡ w.epoch - 2 = ap (older_at w.epoch) looks in
    record {
      idle = k.idle;
      gone = k.gone;
      log = k.log;
      box = λ into early waits.
          let (other, waited) = other_waits w t WithCollector s into kept is there (λ e. cc) waits in
          let apart : (s - 1) ≢ (t - 1) = λ e. other (omega (arith, e, is.0, there.0)) in
          subst (IsRetired (mutator w s).registers) (sym (get_or-set_other w.boxes (t - 1) (s - 1) (spare w.collector) (blank 0 0) apart)) (k.box into early waited);
      newer = λ early has. elim (cases_eq s t) [
        | inl same ↦
            let row : List Contents = slice_set w.collector.newer (t - 1) (box w t) in
            let set_there : buffer_at row (t - 1) ≡ box w t = get_or-set_same w.collector.newer (t - 1) (box w t) (blank 0 0) (omega (arith, many, is.0, is.1)) in
            let at : buffer_at row (s - 1) ≡ box w s = ap (λ n. buffer_at row (n - 1)) same ∙ set_there ∙ ap (box w) (sym same) in
            subst (IsRetired (mutator w s).registers) (sym at) (k.box w.epoch early (ap (crossing_of w) same ∙ crossed))
        | inr other ↦
            let apart : (s - 1) ≢ (t - 1) = λ e. other (omega (arith, e, is.0, there.0)) in
            let before : gathered w.collector.phase s ≡ true = ap (λ phase. gathered phase s) looks ∙ lt-ltb s t (omega (arith, leb-true s t has, other)) in
            subst (IsRetired (mutator w s).registers) (sym (get_or-set_other w.collector.newer (t - 1) (s - 1) (box w t) (blank 0 0) apart)) (k.newer early before)
      ];
      older = λ from. k.older (omega (arith, from, last));
    }

-- It is given back. Those that are passed over behind it have spares.
returned_quiet : (first : ℕ) (w : Core) (t : ℕ) (phase : Phase) (turns : ℕ) → IsKept true w → IsMutator w.config t → w.collector.phase ≡ Returning t → older_at w.epoch phase ≡ w.epoch - 2
    → ((s : ℕ) → IsMutator w.config s → t < s → gathered phase s ≡ true → has_left (noted w.collector t).left s ≡ true) → AreQuiet first w
    → AreQuiet first (record w { crossing = crossing_with w t Spare; collector = record (noted w.collector t) { phase = phase; turns = turns } })
returned_quiet first w t phase turns kept is returns older passed quiet s there =
    let k = quiet s there in
    let last : older_at w.epoch w.collector.phase ≡ w.epoch - 2 = ap (older_at w.epoch) returns in
    record {
      idle = k.idle;
      gone = k.gone;
      log = k.log;
      box = λ into early waits. k.box into early (other_waits w t Spare s into kept is there (λ e. cc) waits).1;
      newer = λ early has. elim (cases_lt t s) [
        | inl behind ↦
            let apart : (s - 1) ≢ (t - 1) = λ e. omega (arith, e, is.0, behind) in
            let left : has_left w.collector.left s ≡ true = sym (get_or-set_other w.collector.left (t - 1) (s - 1) (buffer_at w.collector.newer (t - 1)).last false apart) ∙ passed s there behind has in
            gone_retired w s (buffer_at w.collector.newer (s - 1)) kept there left (spare_there w t s kept there (now_at w (Returning t) kept returns).spares behind)
        | inr before ↦ k.newer early (ap (λ f. gathered f s) returns ∙ le-leb s t before)
      ];
      older = λ from. k.older (omega (arith, from, last, older));
    }

-- Where a turn is to apply the batch, the mutators rest, and nothing is left to gather.
pub awaits_quiet : (first : ℕ) (w u : Core) → IsKept true w → Awaits w u → AreQuiet first w → AreQuiet first u
awaits_quiet first w u kept (Awaits.alone idle more left) quiet =
    requested_quiet first w (Returning (length w.collector.newer)) w.collector.turns kept idle (omega arith) (λ t is _. left t (omega (arith, is.0)) (omega (arith, is.1, many_left w kept))) quiet
awaits_quiet first w u kept (Awaits.last t is returns left) quiet =
    returned_quiet first w t (Returning (length w.collector.newer)) w.collector.turns kept is returns refl
    (λ s there behind _. left s behind (omega (arith, there.1, length-set w.collector.left (t - 1) (buffer_at w.collector.newer (t - 1)).last, many_left w kept))) quiet

pub awaits_gathered : (w u : Core) → IsKept true w → Awaits w u → AreGathered u
awaits_gathered w u kept (Awaits.alone idle more left) t is = le-leb t (length w.collector.newer) (omega (arith, is.1, kept.collector.mutators))
awaits_gathered w u kept (Awaits.last s there returns left) t is = le-leb t (length w.collector.newer) (omega (arith, is.1, kept.collector.mutators))

-- the collection is under way then
pub awaits_way : (w u : Core) → Awaits w u → u.collector.phase ≡ Returning (length u.collector.newer)
awaits_way w u (Awaits.alone idle more left) = refl
awaits_way w u (Awaits.last t is returns left) = refl

-- and in its epoch
pub awaits_epoch : (w u : Core) → Awaits w u → u.epoch + under_way w.collector.phase ≡ w.epoch + 1
awaits_epoch w u (Awaits.alone idle more left) = omega (arith, ap under_way idle)
awaits_epoch w u (Awaits.last t is returns left) = omega (arith, ap under_way returns)

-- A turn of the collector leaves the mutators at rest.
pub quiet_turned : (first : ℕ) (w v : Core) → IsKept true w → IsKept true v → TurnCase w v → AreQuiet first w → AreQuiet first v
quiet_turned first w v kept after turn quiet = go turn
  where
    becomes : (x : Core) → v ≡ x → AreQuiet first x → AreQuiet first v
    becomes x e q = subst (AreQuiet first) (sym e) q

    -- a turn after the gathering
    past : (phase : Phase) → IsPast phase → w.collector.phase ≡ phase → (headers words : List ℕ) (freed : ℕ) (q : Private) → GoesOrEnds w.collector q
        → v ≡ record w { headers = headers; words = words; freed = freed; collector = q } → AreQuiet first v
    past phase is at headers words freed q comes e =
        let known = past_gathered phase is in
        becomes (record w { headers = headers; words = words; freed = freed; collector = q }) e
        (comes_quiet first w headers words freed q kept.whole (λ t _. ap (λ x. gathered x t) at ∙ known.0 t) (ap (older_at w.epoch) at ∙ known.1 w.epoch) comes quiet)

    -- the turn that applies the batch
    applied : (u : Core) (q : Private) (turned : Turn) → Awaits w u → ClearsOn u.collector q turned (zeros_released false (batched u.collector)) → v ≡ record u { collector = q } → AreQuiet first v
    applied u q turned awaits on e =
        let now = awaits_way w u awaits in
        let known = awaits_kept w u kept awaits in
        becomes (record u { collector = q }) e
        (comes_quiet first u u.headers u.words u.freed q known (awaits_gathered w u kept awaits) (ap (older_at u.epoch) now) (clears_comes (applied_lands u (length u.collector.newer) known now) on) (awaits_quiet first w u kept awaits quiet))

    swept : (due : Option ℕ) (n : ℕ) (phase : Phase) → (phase ≡ Sweeping due (n + 1)) ⊎ (phase ≡ Closing (n + 1)) → IsPast phase
    swept due n phase (inl is) = subst IsPast (sym is) tt
    swept due n phase (inr is) = subst IsPast (sym is) tt

    go : TurnCase w v → AreQuiet first v
    go (TurnCase.spent idle last e) = becomes w e quiet
    go (TurnCase.requests next idle present e) =
        becomes _ e (requested_quiet first w (Looking next) (w.collector.turns + 1) kept idle (omega arith) (λ t is has. present.passed t (omega (arith, is.0)) (omega (arith, ltb-true t next has))) quiet)
    go (TurnCase.waits t is looks other e) = becomes w e quiet
    go (TurnCase.gathers t is looks crossed e) = becomes _ e (gathers_quiet first w t kept is looks crossed quiet)
    go (TurnCase.gives_back t next is returns present e) =
        becomes _ e (returned_quiet first w t (Looking next) (w.collector.turns + 1) kept is returns refl (λ s there behind has. present.passed s behind (omega (arith, ltb-true s next has))) quiet)
    go (TurnCase.applies u q turned awaits on e) = applied u q turned awaits on e
    go (TurnCase.releases m a q turned at field on e) = past (Releasing m) tt at w.headers (words_without w a.slot a.field) w.freed q (clears_comes (released_lands w m a kept at field) on) e
    go (TurnCase.frees m a q turned at field on e) = past (Freeing m) tt at w.headers (words_without w a.slot a.field) w.freed q (clears_comes (freed_lands w m a kept at field) on) e
    go (TurnCase.tries m place q turned at loads on e) = past (Trying m) tt at w.headers w.words w.freed q (tries_comes on) e
    go (TurnCase.prepares m a q turned at field on e) = past (Preparing m) tt at w.headers w.words w.freed q (prepares_comes on) e
    go (TurnCase.begins_sweep at e) =
        past Opening tt at w.headers w.words (w.freed + 1) (moved w.collector (Sweeping (slice_get w.collector.counts.free 0) 0)) (GoesOrEnds.goes refl refl tt) e
    go (TurnCase.sweeps n slot next at more e) = past (Sweeping (Some slot) n) tt at (slice_set w.headers slot 0) w.words w.freed (swept_by w.collector slot next) (GoesOrEnds.goes refl refl (swept _ n next more)) e
    go (TurnCase.ends_sweep n at e) = past (Closing n) tt at w.headers w.words (w.freed + 1) (ended w.collector) (GoesOrEnds.ends refl refl) e

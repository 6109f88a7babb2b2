-- Slots are released and sets tested, from a batch, which leaves the counts tidy, to the next trial: what holds after each word, and what
-- follows it.
use Rattle.std.proofs.Common.{◌≡◌, ℕ, ◌<◌, Bool, true, false, Option, None, Some, List, [], refl, arith, sym, ◌∙◌, ap, subst, inl, inr, ◌+◌, ◌*◌, ◌^◌, ◌≤◌, length}
use Rattle.std.specs.List.{concat}
use Rattle.std.proofs.lemmas.List.{get_or_past}
use Rattle.std.proofs.lemmas.Bool.{cases_Bool, cases_lt, false≢true}
use Rattle.rec_collector.proofs.Common.{Contents, Slot, IsKept, State, slot_at, times, absent, times-nil, IsReady, IsTidy, HasExchanged, IsCleared, IsClearingIn, AreResting, IsAtRest, NoneReleased, IsMachine, IsTesting, MayGatherBehind, Parts, followed, makes_trial, next_in, prep_started, put_off, trial_if, AreFew, AreTried, least_after, IsListed, with_freed, with_offers, with_released, going_on, Private, parts_of, tested, told, zeros_released, Begun, batched, Phase, Releasing, Freeing}
use Rattle.rec_counts.specs.Colour.{is_gray, is_white}
use Rattle.rec_counts.specs.Rest.{KeepsRest}
use Rattle.rec_counts.specs.Batch.{applied, AreAlike, IsApplied, IsBatch, IsCovered}
use Rattle.rec_counts.proofs.Whole.{is_applied}
use Rattle.rec_release.specs.TakenOff.{IsMember}
use Rattle.rec_collector.specs.Offered.{KeepsOffered}
use Rattle.rec_collector.proofs.Clearing.{Clears, released_clears, zeros_clear}
use Rattle.rec_collector.proofs.Outside.{Lowers, batch_lowers, batch_same, outside_on, untried_moved}
use Rattle.rec_collector.proofs.Counting.{Counted, KeepsTold, released_told, same_told, tested_told, told_on, zeros_told, freed_told}
use Rattle.rec_collector.proofs.Exchanging.{exchanged_few, none_exchanged}
use Rattle.rec_collector.proofs.Landing.{Fits, Lands, fits_all, now_at, told_at}
use Rattle.rec_collector.proofs.Offering.{where_keeps, where_kept, where_listed, where_ready, where_uncoloured}
use Rattle.rec_collector.proofs.Trying.{counted_on, prepared_lands, started_prepared, started_tried, still_listed, tried_lands}
use Rattle.rec_collector.proofs.Freeing.{freed_clears}
use Rattle.rec_collector.proofs.Goings.{still}
use Rattle.rec_collector.proofs.Postponing.{least_postponed, put_off_where}
use Rattle.rec_collector.specs.declared.policy.Policy.{Policy}
use Rattle.rec_collector.proofs.Testing.{tested_clear, clear_counted, clear_listed, clear_ready, clear_uncoloured, ends_after}
use Rattle.rec_release.specs.CycleFree as frees
use Rattle.rec_release.specs.Release as releases
use Rattle.rec_trial.specs.Trial as trials
use Rattle.rec_collector.specs.Zeros.{AreCounted}
use Rattle.rec_trial.specs.Postponed.{postponed}
use Rattle.rec_trial.proofs.Keeps.{KeepsCounts}
use Rattle.rec_trial.proofs.Postponed.{IsPostponed, none_left, postponed_is, postponed_keeps, waits_field}

-- nothing stands in an empty list
nowhere : {P : Type 0} (xs : List ℕ) (x : ℕ) → xs ≡ [] → 0 < times x xs → P
nowhere xs x e h = absurd (omega (arith, h, ap (times x) e, times-nil x))

-- counts that are tidy stay so, where nothing is at work
pub batched_clear : {fields : ℕ} {s t : State} {newer older : List Contents} → IsBatch s newer older t → NoneReleased s → IsTidy fields s None → AreCounted s → IsReady s → s.work ≡ [] → IsTidy fields t None × IsReady t
batched_clear {fields} {s} {t} b unreleased tidy counted r none =
    let lowers : Lowers s t = batch_lowers b unreleased in
    let released : (x : ℕ) → x < length s.slots → (slot_at s x).released ≡ true → ⊥ = λ x l is. false≢true (sym (unreleased x l) ∙ is) in
    let free : (x : ℕ) → 0 < times x t.free → 0 < times x s.free = λ x l. subst (λ xs. 0 < times x xs) b.rest.free l in (
      record {
        untried = untried_moved s t b.rest.marked lowers tidy.untried;
        apart = λ x o.
            let same : slot_at t x ≡ slot_at s x = (batch_same b unreleased x o).0 in
            let was : IsMember s x = tidy.apart x (ap (λ (v : Slot). v.colour) (sym same) ∙ o) in
            record {
              member = subst (λ xss. 0 < times x (concat xss)) (sym b.rest.sets) was.member;
              no_zero = elim (cases_lt 0 (times x t.zeros)) [ inl l ↦ absurd (omega (arith, b.zeros.none x l, counted x was.unreleased, ap (λ (v : Slot). v.count) same)) | inr l ↦ omega (arith, l) ];
              unreleased = b.rest.released x ∙ was.unreleased;
            };
        all_zeros = λ x u n o. b.all_zeros (λ y v z. absurd (omega (arith, counted y v, z))) x u n;
        outside = outside_on s t lowers tidy.outside;
        listed = λ x l is u. absurd (released x (omega (arith, l, b.rest.slots)) (sym (b.rest.released x) ∙ is));
        unbuffered = λ x l. elim (cases_lt x (length s.slots)) [
          | inl there ↦ absurd (released x there (r.free x (free x l)))
          | inr past ↦ ap (λ (v : Slot). v.buffered) (get_or_past t.slots x absent (omega (arith, past, b.rest.slots)))
        ];
        held = λ x l. nowhere t.work x (b.rest.work ∙ none) l;
      },
      record { zeros = b.zeros; free = λ x l. b.rest.released x ∙ r.free x (free x l) },
    )

-- at rest no slot is released
pub none_released : {least fields : ℕ} {s : State} → AreResting least fields s → NoneReleased s
none_released {least} {fields} {s} a x l = elim (cases_Bool (slot_at s x).released) [
  | inl t ↦ nowhere s.free x a.free (a.listed x l t)
  | inr t ↦ t
]

-- and the counts are tidy
resting_tidy : {least fields : ℕ} {s : State} → AreResting least fields s → IsTidy fields s None
resting_tidy {least} {fields} {s} a = record {
  untried = a.untried;
  apart = a.apart;
  outside = a.outside;
  all_zeros = λ x r n o. absurd (omega (arith, n, a.counted x r));
  listed = λ x l r b. nowhere s.free x a.free (a.listed x l r);
  unbuffered = a.unbuffered;
  held = λ x h. nowhere s.work x a.work h;
}

resting_ready : {least fields : ℕ} {s : State} → AreResting least fields s → IsReady s
resting_ready {least} {fields} {s} a = record {
  zeros = record { once = λ x. omega (arith, ap (times x) a.zeros, times-nil x); none = λ x h. nowhere s.zeros x a.zeros h; unreleased = λ x h. nowhere s.zeros x a.zeros h };
  free = λ x h. nowhere s.free x a.free h;
}

pub resting_cleared : (w : Parts) → IsAtRest w → IsCleared w
resting_cleared w a = record { tidy = resting_tidy a; ready = resting_ready a; zeros = a.zeros; work = a.work }

-- A collection has come to this, and the next set may be tested where nothing has begun.
pub record HasCleared (p : Private) (b : Begun) : Type 0 where
  pub exchanged : ℕ
  pub clears : Clears b exchanged
  pub open clears use *
  pub turns : p.turns ≤ 2 * length p.newer + exchanged
  pub fits : Fits p b.parts
  pub few_told : told b.parts.sets + length b.parts.counts.sets ≤ 2 ^ 16 * p.collections

fits_on : {p : Private} {w v : Parts} → Fits p w → KeepsTold w v → Fits p v
fits_on {p} {w} {v} f k = record { slots = k.slots ∙ f.slots; fields = k.fields ∙ f.fields; policy = k.policy ∙ f.policy; few = omega (arith, f.few, k.postponed, ap (λ (q : Policy). q.most_postponed) k.policy) }

fits_self : (p : Private) → IsMachine p → Fits p (parts_of p)
fits_self p k = record { slots = refl; fields = refl; policy = refl; few = k.postponed }

-- the sets are tested
tested_clears : (p : Private) (b : Begun) → HasCleared p b → HasCleared p (tested (length b.parts.counts.sets) b)
tested_clears p b h =
    let n : ℕ = length b.parts.counts.sets in
    let keeps : KeepsTold b.parts (tested n b).parts = tested_told n b (omega arith) in
    record {
      exchanged = h.exchanged;
      clears = tested_clear n h.exchanged b (omega arith) h.clears;
      turns = h.turns;
      fits = fits_on h.fits keeps;
      few_told = omega (arith, h.few_told, keeps.told);
    }

-- no set is left, and a trial begins
tries_next : (p : Private) (v : Parts) → HasCleared p (still v) → v.counts.sets ≡ [] → Lands p (trial_if true v)
tries_next p v h none =
    let few : h.exchanged ≤ length v.counts.slots * v.fields = exchanged_few v h.exchanged h.counts h.exchanges in
    let w : Parts = with_offers v in
    let keeps : KeepsOffered v.counts w.counts = where_keeps v.offers v.counts in
    tried_lands p w (trials.started_of v.fields w.counts) (
    started_tried p w h.wide (where_ready v.offers v.counts (clear_ready v h.counts h.clearing none)) (where_kept v.offers v.counts h.counts)
    (where_listed v.offers v.counts (clear_listed v h.counts h.clearing none)) (where_uncoloured v.offers v.counts (clear_uncoloured v h.counts h.clearing none))
    (λ x r. omega (arith, keeps.counts x, clear_counted v h.counts h.clearing none x (sym (keeps.rest.released x) ∙ r)))
    (keeps.zeros ∙ h.clearing.zeros) (record { slots = keeps.rest.slots ∙ h.fits.slots; fields = h.fits.fields; policy = h.fits.policy; few = omega arith })
    (omega (arith, h.turns, few, fits_all p v h.fits)) (omega (arith, h.few_told, ap length none))
    )

-- a trial that is postponed leaves too few candidate roots for one
few_left : (v : Parts) (roots : List ℕ) → length roots ≤ length v.counts.roots → makes_trial v ≡ false → AreFew (least_after (v.postponed + 1) v.policy) roots
few_left v roots fewer off = subst (λ least. AreFew least roots) (sym (least_postponed v.postponed v.policy)) (inl (omega (arith, fewer, (put_off_where v off).few)))

-- no set is left, and it is
waits_next : (p : Private) (v : Parts) → HasCleared p (still v) → v.counts.sets ≡ [] → makes_trial v ≡ false → Lands p (trial_if false v)
waits_next p v h none off =
    let few : h.exchanged ≤ length v.counts.slots * v.fields = exchanged_few v h.exchanged h.counts h.exchanges in
    let s : State = v.counts in
    let t : State = postponed v.counts in
    let ready = clear_ready v h.counts h.clearing none in
    let is : IsPostponed s t = postponed_is s h.counts ready in
    let keeps : KeepsCounts s t = postponed_keeps s h.counts ready in
    let places : IsListed t = still_listed s t keeps h.counts is.kept (clear_listed v h.counts h.clearing none) in
    let over : AreTried (least_after (v.postponed + 1) v.policy) t = record {
      untried = record {
        marked = is.waits.marked ∙ h.clearing.untried.marked;
        no_gray = λ x. waits_field is.waits (λ (u : Slot). is_gray u.colour) (λ u. refl) x ∙ h.clearing.untried.no_gray x;
        no_white = λ x. waits_field is.waits (λ (u : Slot). is_white u.colour) (λ u. refl) x ∙ h.clearing.untried.no_white x;
      };
      apart = λ x e. absurd (clear_uncoloured v h.counts h.clearing none x (sym (waits_field is.waits (λ (u : Slot). u.colour) (λ u. refl) x) ∙ e));
      counted = counted_on s t keeps (clear_counted v h.counts h.clearing none);
      zeros = is.waits.zeros ∙ h.clearing.zeros;
      roots = few_left v t.roots is.waits.fewer off;
      work = is.waits.work ∙ h.clearing.work;
      listed = λ x i r. omega (arith, places.listed x i r, none_left s h.counts ready x r);
      unbuffered = places.unbuffered;
    } in
    prepared_lands p (put_off v) (prep_started (put_off v)) (
    started_prepared p (put_off v) h.wide over is.kept (record { slots = is.waits.slots ∙ h.fits.slots; fields = h.fits.fields; policy = h.fits.policy; few = omega (arith, (put_off_where v off).again) })
    (omega (arith, h.turns, few, fits_all p v h.fits)) (omega (arith, h.few_told, ap length (is.waits.sets ∙ none)))
    )

-- a trial begins, or is postponed
trial_next : (p : Private) (v : Parts) (made : Bool) → makes_trial v ≡ made → HasCleared p (still v) → v.counts.sets ≡ [] → Lands p (trial_if made v)
trial_next p v true e h none = tries_next p v h none
trial_next p v false e h none = waits_next p v h none e

-- what was begun goes on
goes_on : (p : Private) (b : Begun) (phase : Phase) → b.phase ≡ Some phase → HasCleared p b → Lands p (next_in phase b.parts)
goes_on p b phase e h = by phase (subst (λ o. IsClearingIn b.parts o) e h.clearing) (subst (λ o. HasExchanged b.parts o h.exchanged) e h.exchanges)
  where
    by : (phase : Phase) → IsClearingIn b.parts (Some phase) → HasExchanged b.parts (Some phase) h.exchanged → Lands p (next_in phase b.parts)
    by (Releasing m) c x = record { counts = h.counts; fits = h.fits; told = omega (arith, h.few_told); now = record { clearing = c; exchanged = h.exchanged; exchanges = x; turns = omega (arith, h.turns) } }
    by (Freeing m) c x = record { counts = h.counts; fits = h.fits; told = omega (arith, h.few_told); now = record { clearing = c; exchanged = h.exchanged; exchanges = x; turns = omega (arith, h.turns) } }
    by _ c x = absurd c

-- what follows
pub followed_lands : (p : Private) (b : Begun) → HasCleared p b → Lands p (followed b)
unfolding followed
followed_lands p b h = go c.phase refl
  where
    c : Begun
    c = tested (length b.parts.counts.sets) b

    t : HasCleared p c
    t = tested_clears p b h

    go : (o : Option Phase) → c.phase ≡ o → Lands p (going_on c.parts o)
    go (Some phase) e = goes_on p c phase e t
    go None e = trial_next p c.parts (makes_trial c.parts) refl (subst (λ o. HasCleared p (record { parts = c.parts; phase = o })) e t) (ends_after (length b.parts.counts.sets) b refl e)

-- a word came out of a field, of a released slot or of a member of the set that is freed
testing_clears : (p : Private) (phase : Phase) → IsMachine p → p.phase ≡ phase → (t : IsTesting p phase) → Clears (record { parts = parts_of p; phase = Some phase }) t.exchanged
testing_clears p phase k e t = record { wide = k.some_fields; counts = k.counts; clearing = t.clearing; exchanges = t.exchanges }

pub released_has : (p : Private) (m : releases.Machine) (word : ℕ) → IsMachine p → p.phase ≡ Releasing m → Counted p.counts word → HasCleared p (with_released m (parts_of p) word)
released_has p m word k e c =
    let a : IsTesting p (Releasing m) = now_at p (Releasing m) k e in
    let keeps : KeepsTold (parts_of p) (with_released m (parts_of p) word).parts = released_told m (parts_of p) word a.clearing.busy in
    record {
      exchanged = a.exchanged + 1;
      clears = released_clears m (parts_of p) word a.exchanged c (testing_clears p (Releasing m) k e a);
      turns = omega (arith, a.turns);
      fits = fits_on (fits_self p k) keeps;
      few_told = omega (arith, told_at p (Releasing m) k e, keeps.told);
    }

pub freed_has : (p : Private) (m : frees.Machine) (word : ℕ) → IsMachine p → p.phase ≡ Freeing m → Counted p.counts word → HasCleared p (with_freed m (parts_of p) word)
freed_has p m word k e c =
    let a : IsTesting p (Freeing m) = now_at p (Freeing m) k e in
    let keeps : KeepsTold (parts_of p) (with_freed m (parts_of p) word).parts = freed_told m (parts_of p) word a.clearing.busy in
    record {
      exchanged = a.exchanged + 1;
      clears = freed_clears m (parts_of p) word a.exchanged c (testing_clears p (Freeing m) k e a);
      turns = omega (arith, a.turns);
      fits = fits_on (fits_self p k) keeps;
      few_told = omega (arith, told_at p (Freeing m) k e, keeps.told);
    }

-- the buffers of both epochs are alike
pub rows_alike : (p : Private) → IsMachine p → AreAlike p.newer p.older
rows_alike p k = record {
  both = k.both;
  registers = λ place l. (k.older place l).0 ∙ sym (k.newer place (omega (arith, l, k.both))).0;
}

-- the zeros of a batch are to be released
pub batch_clears : (steady : Bool) (w : Parts) (newer older : List Contents) → 0 < w.fields → IsKept w.counts → AreAlike newer older → IsCovered w.counts newer older → IsCleared w → NoneReleased w.counts → AreCounted w.counts → Clears (zeros_released false (record w { counts = applied steady w.counts newer older })) 0
batch_clears steady w newer older wide k alike covered c none counted =
    let v : Parts = record w { counts = applied steady w.counts newer older } in
    let b : IsApplied steady w.counts newer older v.counts = is_applied steady w.counts newer older c.zeros alike covered in
    let tidy = batched_clear b none c.tidy counted c.ready c.work in
    zeros_clear false v 0 wide (b.lists k) tidy.0 tidy.1 (b.rest.work ∙ c.work) (none_exchanged v (λ x l. b.rest.released x ∙ none x (omega (arith, l, b.rest.slots))))

pub begun_has : (p : Private) (t : ℕ) → IsMachine p → MayGatherBehind p t → IsCovered p.counts p.newer p.older → HasCleared p (zeros_released false (batched p))
begun_has p t k a c =
    let w : Parts = batched p in
    let rests : KeepsRest p.counts w.counts = (is_applied p.policy.steady p.counts p.newer p.older a.rest.zeros (rows_alike p k) c).rest in
    let keeps : KeepsTold (parts_of p) (zeros_released false w).parts = told_on (same_told (parts_of p) w.counts rests.slots rests.sets) (zeros_told false w) in
    record {
      exchanged = 0;
      clears = batch_clears p.policy.steady (parts_of p) p.newer p.older k.some_fields k.counts (rows_alike p k) c (resting_cleared (parts_of p) a.rest) (none_released a.rest) a.rest.counted;
      turns = omega (arith, a.turns, a.there);
      fits = fits_on (fits_self p k) keeps;
      few_told = omega (arith, a.told, keeps.told);
    }

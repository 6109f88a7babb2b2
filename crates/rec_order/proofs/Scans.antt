-- What a scan has met: for each slot that it passed an object of that slot that was unfreed since the mutator's last event.
use Rattle.std.proofs.Common.{◌≡◌, ◌⊎◌, inl, inr, ℕ, ◌+◌, ◌%◌, ◌<◌, ◌≤◌, true, false, zero, suc, List, [], ◌∷◌, ◌++◌, Some, length, refl, sym, ap, subst, ◌∙◌, arith}
use Rattle.std.specs.List.{slice_get}
use Rattle.std.proofs.lemmas.Bool.{cases_eq, cases_Bool, false≢true, cases_lt}
use Rattle.std.proofs.lemmas.List.{take_all, length_push}
use Rattle.rec_model.specs.LegalOrder.{Line, Event, Limits, Moment, after, after_all, moment, is_by, IsQuiet, BusyFits}
use Rattle.rec_model.specs.LegalOrder.Event.{Answers}
use Rattle.rec_model.specs.Numbering.{IsDistinct}
use Rattle.rec_model.specs.Reach.{is_in}
use Rattle.rec_model.specs.Explained.{with_number}
use Rattle.rec_model.proofs.Growing.{get_cases, moment-grow, moment-last, quiet_grow}
use Rattle.rec_model.proofs.Members.{is_in-cons}
use Rattle.rec_model.proofs.Standing.{with_number-other}
use Rattle.rec_mutator.specs.Private.{slot_behind}
use Rattle.rec_mutator.proofs.Around.{all_round}

-- the moment at the old end
moment-here : (limits : Limits) (start : Moment) (events : List Event) → moment limits start events (length events) ≡ after_all limits start events
moment-here limits start events = let end : length events ≤ length events = omega arith in ap (after_all limits start) (take_all (length events) events end)

-- This was so at some moment since the mutator's last event, or since the start.
pub record Since (limits : Limits) (start : Moment) (events : List Event) (t : ℕ) (P : Moment → Type 0) : Type 0 where
  pub at : ℕ
  pub within : at ≤ length events
  pub quiet : IsQuiet t events at (length events)
  pub holds : P (moment limits start events at)

-- it is so now
since_now : (limits : Limits) (start : Moment) (events : List Event) (t : ℕ) (P : Moment → Type 0) → P (after_all limits start events) → Since limits start events t P
since_now limits start events t P holds =
    record {
      at = length events;
      within = omega arith;
      quiet = λ k d from to is. absurd (omega arith);
      holds = subst P (sym (moment-here limits start events)) holds;
    }

-- and it stays so while the mutator has no event
since_grow : (limits : Limits) (start : Moment) (events : List Event) (t : ℕ) (P : Moment → Type 0) (e : Event) → is_by t e ≡ false → Since limits start events t P → Since limits start (events ++ e ∷ []) t P
since_grow limits start events t P e other since =
    let longer : length (events ++ e ∷ []) ≡ length events + 1 = length_push events e in
    let within : since.at ≤ length events = since.within in
    record {
      at = since.at;
      within = omega arith;
      quiet = λ k d from to is. elim (get_cases events e k d is) [
        | inl old ↦ elim (cases_below k) [
          | inl below ↦ since.quiet k d from below old
          | inr past ↦ absurd (absent events k d past old)
        ]
        | inr last ↦ ap (is_by t) (sym last.1) ∙ other
      ];
      holds = subst P (sym (moment-grow limits start events e since.at within)) since.holds;
    }
  where
    cases_below : (k : ℕ) → (k < length events) ⊎ (length events ≤ k)
    cases_below k = cases_lt k (length events)

    absent : (es : List Event) (k : ℕ) (d : Event) → length es ≤ k → slice_get es k ≡ Some d → ⊥
    absent [] k d past is = cc
    absent (x ∷ es) zero d past is = omega arith
    absent (x ∷ es) (suc k) d past is = absent es k d (omega arith) is

-- What a scan has met in its first probes that began with slot `from` at this freed word, where objects below `next` were born, each in
-- its home.
pub record HasMet (limits : Limits) (start : Moment) (events : List Event) (home : ℕ → ℕ) (next t from before probed : ℕ) : Type 0 where
  pub began : Since limits start events t (λ w. w.marks ≡ before)
  pub met : (count : ℕ) → count < probed → (n : ℕ) × (home n ≡ slot_behind limits.slots from count) × (n < next) × Since limits start events t (λ w. is_in n w.unfreed ≡ true)

-- a scan begins
pub met_begins : (limits : Limits) (start : Moment) (events : List Event) (home : ℕ → ℕ) (next t from before : ℕ) → (after_all limits start events).marks ≡ before → HasMet limits start events home next t from before 0
met_begins limits start events home next t from before marks = record { began = since_now limits start events t (λ w. w.marks ≡ before) marks; met = λ count below. absurd (omega arith) }

-- a probe fails: the slot has an object that is unfreed now
pub met_more : (limits : Limits) (start : Moment) (events : List Event) (home : ℕ → ℕ) (next t from before probed n : ℕ) → home n ≡ slot_behind limits.slots from probed → n < next → is_in n (after_all limits start events).unfreed ≡ true
    → HasMet limits start events home next t from before probed → HasMet limits start events home next t from before (probed + 1)
met_more limits start events home next t from before probed n is below unfreed has =
    record {
      began = has.began;
      met = λ count passed. elim (cases_eq count probed) [
        | inl same ↦ (n, is ∙ ap (slot_behind limits.slots from) (sym same), below, since_now limits start events t (λ w. is_in n w.unfreed ≡ true) unfreed)
        | inr other ↦ has.met count (omega (arith, passed, other))
      ];
    }

-- an event of another mutator, a freeing or a mark
pub met_grows : (limits : Limits) (start : Moment) (events : List Event) (home : ℕ → ℕ) (next t from before probed : ℕ) (e : Event) → is_by t e ≡ false
    → HasMet limits start events home next t from before probed → HasMet limits start (events ++ e ∷ []) home next t from before probed
met_grows limits start events home next t from before probed e other has =
    record {
      began = since_grow limits start events t (λ w. w.marks ≡ before) e other has.began;
      met = λ s passed. let (n, is, below, since) = has.met s passed in (n, is, below, since_grow limits start events t (λ w. is_in n w.unfreed ≡ true) e other since);
    }

-- a birth: the object that is born next has its home in that slot
pub met_born : (limits : Limits) (start : Moment) (events : List Event) (home : ℕ → ℕ) (next t from before probed place : ℕ)
    → HasMet limits start events home next t from before probed → HasMet limits start events (with_number home next place) (next + 1) t from before probed
met_born limits start events home next t from before probed place has =
    record {
      began = has.began;
      met = λ s passed.
          let (n, is, below, since) = has.met s passed in
          (n, with_number-other home next place n (λ same. omega (arith, below, same)) ∙ is, omega (arith, below), since);
    }

-- the objects that were met in the first slots
record AreMet (home : ℕ → ℕ) (P : ℕ → Type 0) (bound : ℕ) (ns : List ℕ) : Type 0 where
  as_many : length ns ≡ bound
  apart : IsDistinct ns
  each : (n : ℕ) → is_in n ns ≡ true → (home n < bound) × P n

-- there are such, where each slot has its object
all_met : (home : ℕ → ℕ) (P : ℕ → Type 0) (bound : ℕ) → ((s : ℕ) → s < bound → (n : ℕ) × (home n ≡ s) × P n) → (ns : List ℕ) × AreMet home P bound ns
all_met home P zero met = ([], record { as_many = refl; apart = tt; each = λ n there. absurd (false≢true there) })
all_met home P (suc bound) met =
    let (ns, so) = all_met home P bound (λ s below. met s (omega arith)) in
    let (n, is, holds) = met bound (omega arith) in (
      n ∷ ns,
      record {
        as_many = let many : length ns ≡ bound = so.as_many in omega arith;
        apart = (
          elim (cases_Bool (is_in n ns)) [
            | inr none ↦ none
            | inl there ↦ absurd (let below : home n < bound = (so.each n there).0 in omega (arith, below, is))
          ],
          so.apart,
        );
        each = λ m there. elim (is_in-cons m n ns there) [
          | inl same ↦ (let here : home m ≡ bound = ap home (sym same) ∙ is in omega arith, subst P same holds)
          | inr later ↦ (let below : home m < bound = (so.each m later).0 in omega arith, (so.each m later).1)
        ];
      },
    )

-- A scan that has met an object in each slot is the evidence of a busy answer that comes now.
pub met_all : (limits : Limits) (start : Moment) (events : List Event) (home : ℕ → ℕ) (next t from before later : ℕ) (line : Line) → from < limits.slots → HasMet limits start events home next t from before limits.slots
    → (before % 2 ≡ 1) ⊎ (before < later) → (after_all limits start events).marks ≡ later → BusyFits limits start (events ++ Answers t line ∷ []) t (length events) before later
met_all limits start events home next t from before later line there has sweep marks =
    let e : Event = Answers t line in
    let i : ℕ = length events in
    let long : length (events ++ e ∷ []) ≡ i + 1 = length_push events e in
    let Met : ℕ → Type 0 = λ s. (n : ℕ) × (home n ≡ s) × Since limits start events t (λ w. is_in n w.unfreed ≡ true) in
    let (ns, so) = all_met home (λ n. Since limits start events t (λ w. is_in n w.unfreed ≡ true)) limits.slots (all_round Met limits.slots from there (λ count passed. let (n, is, below, since) = has.met count passed in (n, is, since))) in
    let last : moment limits start (events ++ e ∷ []) (i + 1) ≡ after limits (after_all limits start events) e = moment-last limits start events e in
    record {
      sweep = sweep;
      began = (has.began.at, has.began.within, quiet_grow t events e has.began.at i (omega arith) has.began.quiet, ap (λ (w : Moment). w.marks) (moment-grow limits start events e has.began.at has.began.within) ∙ has.began.holds);
      ended = (i + 1, omega arith, omega arith, λ k d from to is. absurd (omega arith), ap (λ (w : Moment). w.marks) last ∙ marks);
      taken = (
        ns,
        (let many : length ns ≡ limits.slots = so.as_many in omega arith),
        so.apart,
        λ n there.
            let since : Since limits start events t (λ w. is_in n w.unfreed ≡ true) = (so.each n there).1 in
            (since.at, since.within, quiet_grow t events e since.at i (omega arith) since.quiet, ap (λ (w : Moment). is_in n w.unfreed) (moment-grow limits start events e since.at since.within) ∙ since.holds),
      );
    }

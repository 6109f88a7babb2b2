-- A legal order goes on by one event: an answer, a freeing, or the begin or end of a sweep.
use Rattle.std.proofs.Common.{◌≡◌, ◌⊎◌, inl, inr, ℕ, ◌+◌, ◌-◌, ◌<◌, ◌≤◌, zero, suc, List, [], ◌∷◌, ◌++◌, Option, None, Some, if◌then◌else◌, slice_index_or, slice_set, length, refl, sym, ap, subst, ◌∙◌, arith}
use Rattle.std.specs.List.{slice_get, filter_map, cons_option}
use Rattle.std.proofs.lemmas.Bool.{cases_eq, eq-eqb, ne_eqb}
use Rattle.std.proofs.lemmas.List.{append-nil, take-append-le, take_all, length_push, get_or-set_same, get_or-set_other, length-set}
use Rattle.std.proofs.lemmas.List.Elements.{filter_map-append}
use Rattle.std.proofs.lemmas.Option.{slice_get_within}
use Rattle.rec_model.proofs.Common.{stamp_of, is_in}
use Rattle.rec_model.specs.declared.answer.Answer.TheVariants as answers
use Rattle.rec_model.specs.LegalOrder.{Line, Event, Limits, Moment, after, after_all, moment, Fits, IsQuiet, BusyFits, Stamped, IsLegalOrder, word_left, left_by, line_by}
use Rattle.rec_model.specs.LegalOrder.Event.{Answers, Frees, Marks}

-- an element of a list with one more is an old one, or the new one
pub get_cases : {X : Type 0} (xs : List X) (y : X) (i : ℕ) (z : X) → slice_get (xs ++ y ∷ []) i ≡ Some z → (slice_get xs i ≡ Some z) ⊎ ((i ≡ length xs) × (y ≡ z))
get_cases [] y zero z is = inr (refl, cc)
get_cases [] y (suc i) z is = cc
get_cases (x ∷ xs) y zero z is = inl is
get_cases (x ∷ xs) y (suc i) z is = elim (get_cases xs y i z is) [ inl old ↦ inl old | inr new ↦ inr (ap suc new.0, new.1) ]

-- the moments before and at the old end
pub moment-grow : (limits : Limits) (start : Moment) (events : List Event) (e : Event) (i : ℕ) → i ≤ length events → moment limits start (events ++ e ∷ []) i ≡ moment limits start events i
moment-grow limits start events e i within = ap (after_all limits start) (take-append-le i events (e ∷ []) within)

-- the moment at the old end
moment-end : (limits : Limits) (start : Moment) (events : List Event) (e : Event) → moment limits start (events ++ e ∷ []) (length events) ≡ after_all limits start events
moment-end limits start events e =
    let end : length events ≤ length events = omega arith in
    moment-grow limits start events e (length events) end ∙ ap (after_all limits start) (take_all (length events) events end)

-- the moment after one event more
pub after_all-grow : (limits : Limits) (start : Moment) (events : List Event) (e : Event) → after_all limits start (events ++ e ∷ []) ≡ after limits (after_all limits start events) e
after_all-grow limits start [] e = refl
after_all-grow limits start (d ∷ events) e = after_all-grow limits (after limits start d) events e

-- a mutator stays quiet where it was
pub quiet_grow : (t : ℕ) (events : List Event) (e : Event) (i j : ℕ) → j ≤ length events → IsQuiet t events i j → IsQuiet t (events ++ e ∷ []) i j
quiet_grow t events e i j within quiet k d from to is = elim (get_cases events e k d is) [
  | inl old ↦ quiet k d from to old
  | inr new ↦ absurd (omega arith)
]

-- the evidence of a busy answer stays
busy_grow : (limits : Limits) (start : Moment) (events : List Event) (e : Event) (t i before after : ℕ) → i < length events
    → BusyFits limits start events t i before after → BusyFits limits start (events ++ e ∷ []) t i before after
busy_grow limits start events e t i before after there fits =
    let (b, b_at, b_quiet, b_marks) = fits.began in
    let (f, f_at, f_within, f_quiet, f_marks) = fits.ended in
    let (ns, many, distinct, unfreed) = fits.taken in
    let longer : length (events ++ e ∷ []) ≡ length events + 1 = length_push events e in
    record {
      sweep = fits.sweep;
      began = (b, b_at, quiet_grow t events e b i (omega arith) b_quiet, ap (λ (w : Moment). w.marks) (moment-grow limits start events e b (omega arith)) ∙ b_marks);
      ended = (f, f_at, omega arith, quiet_grow t events e (i + 1) f f_within f_quiet, ap (λ (w : Moment). w.marks) (moment-grow limits start events e f f_within) ∙ f_marks);
      taken = (
        ns,
        many,
        distinct,
        λ n named.
            let (j, j_at, j_quiet, j_there) = unfreed n named in
            (j, j_at, quiet_grow t events e j i (omega arith) j_quiet, ap (λ (w : Moment). is_in n w.unfreed) (moment-grow limits start events e j (omega arith)) ∙ j_there),
      );
    }

-- two answers that are one event
pub same_answer : (s t : ℕ) (j k : Line) → Answers s j ≡ Answers t k → (s ≡ t) × (j ≡ k)
same_answer s t j k is = (cc, cc)

-- the journals with a line more in one of them
abbrev pub with_line : List (List Line) → ℕ → Line → List (List Line)
with_line journals t line = slice_set journals (t - 1) (slice_index_or journals (t - 1) [] ++ line ∷ [])

-- the journals after an event: an answer is a line more
abbrev with_event : List (List Line) → Event → List (List Line)
with_event journals (Answers t line) = with_line journals t line
with_event journals _ = journals

-- there are as many journals as before
journals_stay : (journals : List (List Line)) (e : Event) → length (with_event journals e) ≡ length journals
journals_stay journals (Answers t line) = length-set journals (t - 1) (slice_index_or journals (t - 1) [] ++ line ∷ [])
journals_stay journals (Frees n) = refl
journals_stay journals Marks = refl

-- What an event needs to come after those of a legal order: it fits the last moment, an answer is of a mutator, a busy one has
-- its evidence, and a word left bears its writer's number and a stamp that no word has that was left before.
pub record MayCome (limits : Limits) (start : Moment) (journals : List (List Line)) (events : List Event) (e : Event) : Type 0 where
  pub numbered : (t : ℕ) (line : Line) → e ≡ Answers t line → (0 < t) × (t ≤ length journals)
  pub fits : Fits limits (after_all limits start events) e
  pub busy : (t before after : ℕ) (line : Line) → e ≡ Answers t line → line.1.answer ≡ answers.Busy before after → BusyFits limits start (events ++ e ∷ []) t (length events) before after
  pub writer : (t word : ℕ) (line : Line) → e ≡ Answers t line → word_left line.0 line.1 ≡ Some word → (stamp_of word).writer ≡ t
  pub anew : (i v word : ℕ) (d : Event) → slice_get events i ≡ Some d → left_by d ≡ Some v → left_by e ≡ Some word → stamp_of v ≡ stamp_of word → ⊥

stamps_grow : (limits : Limits) (start : Moment) (journals : List (List Line)) (events : List Event) (e : Event) → MayCome limits start journals events e → Stamped events → Stamped (events ++ e ∷ [])
stamps_grow limits start journals events e may stamped =
    record {
      writer = λ i s word j is leaves. elim (get_cases events e i (Answers s j) is) [
        | inl old ↦ stamped.writer i s word j old leaves
        | inr last ↦ may.writer s word j last.1 leaves
      ];
      distinct = λ i j v w c d i_is v_left j_is w_left stamps. elim (get_cases events e i c i_is) [
        | inl i_old ↦ elim (get_cases events e j d j_is) [
          | inl j_old ↦ stamped.distinct i j v w c d i_old v_left j_old w_left stamps
          | inr j_last ↦ absurd (may.anew i v w c i_old v_left (ap left_by j_last.1 ∙ w_left) stamps)
        ]
        | inr i_last ↦ elim (get_cases events e j d j_is) [
          | inl j_old ↦ absurd (may.anew j w v d j_old w_left (ap left_by i_last.1 ∙ v_left) (sym stamps))
          | inr j_last ↦ i_last.0 ∙ sym j_last.0
        ]
      ];
    }

-- each journal's own lines
own_after_answer : (journals : List (List Line)) (events : List Event) (t : ℕ) (line : Line) → 0 < t → t ≤ length journals
    → ((s : ℕ) → 0 < s → filter_map (line_by s) events ≡ slice_index_or journals (s - 1) [])
    → (s : ℕ) → 0 < s → filter_map (line_by s) (events ++ Answers t line ∷ []) ≡ slice_index_or (with_line journals t line) (s - 1) []
own_after_answer journals events t line positive within own s s_positive = elim (cases_eq t s) [
  | inl same ↦
      filter_map-append (line_by s) events (Answers t line ∷ [])
      ∙ ap (λ b. filter_map (line_by s) events ++ cons_option (if b then Some line else None) []) (eq-eqb t s same)
      ∙ ap (λ ls. ls ++ line ∷ []) (own s s_positive ∙ ap (λ n. slice_index_or journals (n - 1) []) (sym same))
      ∙ sym (get_or-set_same journals (t - 1) (slice_index_or journals (t - 1) [] ++ line ∷ []) [] (omega arith))
      ∙ ap (λ n. slice_index_or (with_line journals t line) (n - 1) []) same
  | inr other ↦
      filter_map-append (line_by s) events (Answers t line ∷ [])
      ∙ ap (λ b. filter_map (line_by s) events ++ cons_option (if b then Some line else None) []) (ne_eqb t s other)
      ∙ append-nil (filter_map (line_by s) events)
      ∙ own s s_positive
      ∙ sym (get_or-set_other journals (t - 1) (s - 1) (slice_index_or journals (t - 1) [] ++ line ∷ []) [] (λ same. other (omega arith)))
]

-- an event that is no answer adds no line
own_stays : (journals : List (List Line)) (events : List Event) (e : Event) (s : ℕ) → line_by s e ≡ None → filter_map (line_by s) events ≡ slice_index_or journals (s - 1) []
    → filter_map (line_by s) (events ++ e ∷ []) ≡ slice_index_or journals (s - 1) []
own_stays journals events e s none own =
    filter_map-append (line_by s) events (e ∷ []) ∙ ap (λ (o : Option Line). filter_map (line_by s) events ++ cons_option o []) none ∙ append-nil (filter_map (line_by s) events) ∙ own

own_grow : (journals : List (List Line)) (events : List Event) (e : Event) → ((t : ℕ) (line : Line) → e ≡ Answers t line → (0 < t) × (t ≤ length journals))
    → ((s : ℕ) → 0 < s → filter_map (line_by s) events ≡ slice_index_or journals (s - 1) [])
    → (s : ℕ) → 0 < s → filter_map (line_by s) (events ++ e ∷ []) ≡ slice_index_or (with_event journals e) (s - 1) []
own_grow journals events (Answers t line) numbered own s some = own_after_answer journals events t line (numbered t line refl).0 (numbered t line refl).1 own s some
own_grow journals events (Frees n) numbered own s some = own_stays journals events (Frees n) s refl (own s some)
own_grow journals events Marks numbered own s some = own_stays journals events Marks s refl (own s some)

-- A legal order goes on by an event that may come.
pub legal_grows : (limits : Limits) (start : Moment) (journals : List (List Line)) (events : List Event) (e : Event) → MayCome limits start journals events e
    → IsLegalOrder limits start journals events → IsLegalOrder limits start (with_event journals e) (events ++ e ∷ [])
legal_grows limits start journals events e may legal =
    record {
      own = own_grow journals events e may.numbered legal.own;
      numbered = λ i s j is.
          let (lower, upper) = elim (get_cases events e i (Answers s j) is) as (λ _. (0 < s) × (s ≤ length journals)) [
            | inl old ↦ legal.numbered i s j old
            | inr last ↦ may.numbered s j last.1
          ] in
          (lower, subst (λ n. s ≤ n) (sym (journals_stay journals e)) upper);
      fits = λ i d is. elim (get_cases events e i d is) [
        | inl old ↦ subst (λ w. Fits limits w d) (sym (moment-grow limits start events e i (let there : i < length events = slice_get_within events i d old in omega arith))) (legal.fits i d old)
        | inr last ↦
            let P : ℕ → Type 0 = λ n. Fits limits (moment limits start (events ++ e ∷ []) n) d in
            let here : Fits limits (after_all limits start events) d = subst (λ x. Fits limits (after_all limits start events) x) last.1 may.fits in
            subst P (sym last.0) (subst (λ w. Fits limits w d) (sym (moment-end limits start events e)) here)
      ];
      busy = λ i s before after j is answer. elim (get_cases events e i (Answers s j) is) [
        | inl old ↦ busy_grow limits start events e s i before after (slice_get_within events i (Answers s j) old) (legal.busy i s before after j old answer)
        | inr last ↦ subst (λ n. BusyFits limits start (events ++ e ∷ []) s n before after) (sym last.0) (may.busy s before after j last.1 answer)
      ];
      stamped = stamps_grow limits start journals events e may legal.stamped;
    }

-- after the last event
pub moment-last : (limits : Limits) (start : Moment) (events : List Event) (e : Event) → moment limits start (events ++ e ∷ []) (length events + 1) ≡ after limits (after_all limits start events) e
moment-last limits start events e =
    let long : length (events ++ e ∷ []) ≡ length events + 1 = length_push events e in
    ap (after_all limits start) (take_all (length events + 1) (events ++ e ∷ []) (omega arith)) ∙ after_all-grow limits start events e

-- a word left bears its writer's number, and a stamp that no word has that was left before
pub record StampsAnew (events : List Event) (t : ℕ) (line : Line) : Type 0 where
  pub writer : (word : ℕ) → word_left line.0 line.1 ≡ Some word → (stamp_of word).writer ≡ t
  pub anew : (i v word : ℕ) (d : Event) → slice_get events i ≡ Some d → left_by d ≡ Some v → word_left line.0 line.1 ≡ Some word → stamp_of v ≡ stamp_of word → ⊥

-- A freeing may come where it fits the last moment.
pub frees_may_come : (limits : Limits) (start : Moment) (journals : List (List Line)) (events : List Event) (n : ℕ) → Fits limits (after_all limits start events) (Frees n)
    → MayCome limits start journals events (Frees n)
frees_may_come limits start journals events n fits =
    record { numbered = λ t line is. cc; fits = fits; busy = λ t before after line is answer. cc; writer = λ t word line is leaves. cc; anew = λ i v word d there left leaves same. cc }

-- The begin or end of a sweep may come where it fits the last moment.
pub marks_may_come : (limits : Limits) (start : Moment) (journals : List (List Line)) (events : List Event) → Fits limits (after_all limits start events) Marks
    → MayCome limits start journals events Marks
marks_may_come limits start journals events fits =
    record { numbered = λ t line is. cc; fits = fits; busy = λ t before after line is answer. cc; writer = λ t word line is leaves. cc; anew = λ i v word d there left leaves same. cc }

-- no line is a legal order of empty journals
pub legal_empty : (limits : Limits) (start : Moment) (journals : List (List Line)) → ((t : ℕ) → 0 < t → [] ≡ slice_index_or journals (t - 1) []) → IsLegalOrder limits start journals []
legal_empty limits start journals empty =
    record {
      own = empty;
      numbered = λ i t line is. cc;
      fits = λ i e is. cc;
      busy = λ i t before after line is answer. cc;
      stamped = record { writer = λ i t word line is leaves. cc; distinct = λ i j v w d e i_is v_left j_is w_left stamps. cc };
    }

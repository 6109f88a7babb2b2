-- No log is ever full: each has room for all commands of its mutator.
use Rattle.std.proofs.Common.{◌≡◌, ◌≢◌, inl, inr, ℕ, ◌+◌, ◌-◌, ◌<◌, ◌≤◌, suc, List, [], ◌∷◌, Some, None, Bool, true, false, if◌then◌else◌, slice_index_or, length, map, refl, sym, ap, subst, ◌∙◌, arith}
use Rattle.std.specs.List.{slice_get, filter_map, cons_option, All}
use Rattle.std.proofs.lemmas.Bool.{cases_eq, cases_lt, eq-eqb, ne_eqb}
use Rattle.std.proofs.lemmas.List.{length-map, length-set, get_or-map, get_or-set_same, get_or-set_other, get_or_past}
use Rattle.std.proofs.lemmas.List.Elements.{All-cons, All-from_get_or, All-nil}
use Rattle.rec_model.specs.declared.command.Cmd.{Cmd}
use Rattle.rec_model.specs.declared.answer.Answer.TheVariants.{LogFull}
use Rattle.rec_model.specs.Asking.{is_done}
use Rattle.rec_model.specs.LegalOrder.{Line, Event, Limits, Moment, Fits, after, bump, line_by, moment, IsLegalOrder}
use Rattle.rec_model.specs.LegalOrder.Event.{Answers, Frees, Marks}
use Rattle.rec_model.proofs.Opened.{nulls_at}
use Rattle.rec_script.specs.Script.{ScriptContents}
use Rattle.rec_play.specs.Played.{limits_of, log_room, longest}
use Rattle.rec_play.specs.Start.{Start, moment_at}
use Rattle.rec_play.proofs.Ready.{fits_longest}

-- the answer is another than that the log is full
abbrev HasRoom : Line → Type 0
HasRoom line = line.1.answer ≢ LogFull

-- a mutator's count of Done answers, after one more of some mutator
bump_own : (ns : List ℕ) (t : ℕ) → slice_index_or (bump ns t) (t - 1) 0 ≤ slice_index_or ns (t - 1) 0 + 1
bump_own ns t = elim (cases_lt (t - 1) (length ns)) [
  | inl there ↦ let is : slice_index_or (bump ns t) (t - 1) 0 ≡ slice_index_or ns (t - 1) 0 + 1 = get_or-set_same ns (t - 1) (slice_index_or ns (t - 1) 0 + 1) 0 there in omega (arith, is)
  | inr past ↦
      let long : length (bump ns t) ≡ length ns = length-set ns (t - 1) (slice_index_or ns (t - 1) 0 + 1) in
      let none : slice_index_or (bump ns t) (t - 1) 0 ≡ 0 = get_or_past (bump ns t) (t - 1) 0 (omega (arith, past, long)) in
      omega (arith, none)
]

-- and after an answer of its own
done_own : (ns : List ℕ) (t : ℕ) (b : Bool) → slice_index_or (if b then bump ns t else ns) (t - 1) 0 ≤ slice_index_or ns (t - 1) 0 + 1
done_own ns t true = bump_own ns t
done_own ns t false = omega arith

-- another's count stays
done_other : (ns : List ℕ) (s t : ℕ) (b : Bool) → 0 < s → 0 < t → s ≢ t → slice_index_or (if b then bump ns s else ns) (t - 1) 0 ≡ slice_index_or ns (t - 1) 0
done_other ns s t true s_some t_some other = get_or-set_other ns (s - 1) (t - 1) (slice_index_or ns (s - 1) 0 + 1) 0 (λ same. other (omega (arith, s_some, t_some, same)))
done_other ns s t false s_some t_some other = refl

-- Over events that fit, a mutator whose Done answers and lines to come are no more than a log holds is never told that it is full.
never_full : (limits : Limits) (t : ℕ) (m : Moment) (events : List Event) → 0 < t → ((i s : ℕ) (line : Line) → slice_get events i ≡ Some (Answers s line) → 0 < s)
    → ((i : ℕ) (e : Event) → slice_get events i ≡ Some e → Fits limits (moment limits m events i) e)
    → slice_index_or m.done (t - 1) 0 + length (filter_map (line_by t) events) ≤ limits.log_entries → All HasRoom (filter_map (line_by t) events)
never_full limits t m [] some numbered fits room = All-nil HasRoom
never_full limits t m (Frees n ∷ events) some numbered fits room = never_full limits t (after limits m (Frees n)) events some (λ i. numbered (suc i)) (λ i. fits (suc i)) room
never_full limits t m (Marks ∷ events) some numbered fits room = never_full limits t (after limits m Marks) events some (λ i. numbered (suc i)) (λ i. fits (suc i)) room
never_full limits t m (Answers s line ∷ events) some numbered fits room = elim (cases_eq s t) [
  | inl same ↦
      let now : slice_index_or (if is_done line.1.answer then bump m.done t else m.done) (t - 1) 0 ≤ slice_index_or m.done (t - 1) 0 + 1 = done_own m.done t (is_done line.1.answer) in
      let its : filter_map (line_by t) (Answers s line ∷ events) ≡ line ∷ filter_map (line_by t) events = ap (λ (b : Bool). cons_option (if b then Some line else None) (filter_map (line_by t) events)) (eq-eqb s t same) in
      let longer : length (filter_map (line_by t) (Answers s line ∷ events)) ≡ suc (length (filter_map (line_by t) events)) = ap (λ (ls : List Line). length ls) its in
      let head : HasRoom line = λ full.
      let spent : limits.log_entries ≤ slice_index_or m.done (s - 1) 0 = (fits 0 (Answers s line) refl).log_full full in
      let own : slice_index_or m.done (s - 1) 0 ≡ slice_index_or m.done (t - 1) 0 = ap (λ x. slice_index_or m.done (x - 1) 0) same in
      omega (arith, spent, own, longer, room) in
      let P : ℕ → Type 0 = λ x. slice_index_or (after limits m (Answers x line)).done (t - 1) 0 + length (filter_map (line_by t) events) ≤ limits.log_entries in
      subst (All HasRoom) (sym its)
      (All-cons HasRoom line (filter_map (line_by t) events) head
      (never_full limits t (after limits m (Answers s line)) events some (λ i. numbered (suc i)) (λ i. fits (suc i)) (subst P (sym same) (omega (arith, now, longer, room)))))
  | inr other ↦
      let stays : slice_index_or (if is_done line.1.answer then bump m.done s else m.done) (t - 1) 0 ≡ slice_index_or m.done (t - 1) 0 = done_other m.done s t (is_done line.1.answer) (numbered 0 s line refl) some other in
      let its : filter_map (line_by t) (Answers s line ∷ events) ≡ filter_map (line_by t) events = ap (λ (b : Bool). cons_option (if b then Some line else None) (filter_map (line_by t) events)) (ne_eqb s t other) in
      let long : length (filter_map (line_by t) (Answers s line ∷ events)) ≡ length (filter_map (line_by t) events) = ap (λ (ls : List Line). length ls) its in
      subst (All HasRoom) (sym its)
      (never_full limits t (after limits m (Answers s line)) events some (λ i. numbered (suc i)) (λ i. fits (suc i)) (omega (arith, stays, long, room)))
]

-- Journals with the script's commands and a legal order tell no full log.
pub no_log_full : (script : ScriptContents) (start : Start) (journals : List (List Line)) (events : List Event) → map (map (λ (line : Line). line.0)) journals ≡ script.commands
    → IsLegalOrder (limits_of script) (moment_at script start) journals events → All (All HasRoom) journals
no_log_full script start journals events commands legal = All-from_get_or (All HasRoom) journals [] each
  where
    long : (i : ℕ) → i < length journals → length (slice_index_or journals i []) ≡ length (slice_index_or script.commands i [])
    long i there =
        sym (length-map (slice_index_or journals i []) (λ (line : Line). line.0))
        ∙ ap (λ (cmds : List Cmd). length cmds) (sym (get_or-map (map (λ (line : Line). line.0)) journals i [] [] there) ∙ ap (λ (all : List (List Cmd)). slice_index_or all i []) commands)

    each : (i : ℕ) → i < length journals → All HasRoom (slice_index_or journals i [])
    each i there =
        let own : filter_map (line_by (suc i)) events ≡ slice_index_or journals i [] = legal.own (suc i) (omega arith) ∙ ap (λ n. slice_index_or journals n []) (let same : suc i - 1 ≡ i = omega arith in same) in
        let none : slice_index_or (moment_at script start).done (suc i - 1) 0 ≡ 0 = nulls_at (length script.commands) (suc i - 1) in
        let many : length (filter_map (line_by (suc i)) events) ≡ length (slice_index_or script.commands i []) = ap (λ (ls : List Line). length ls) own ∙ long i there in
        let most : length (slice_index_or script.commands i []) ≤ longest script.commands = fits_longest script.commands i in
        let room : longest script.commands ≤ log_room script = omega arith in
        subst (All HasRoom) own
        (never_full (limits_of script) (suc i) (moment_at script start) events (omega arith) (λ j s line is. (legal.numbered j s line is).0) legal.fits (omega (arith, none, many, most, room)))

-- A journal has one verdict.
use Rattle.std.proofs.Common.{◌≡◌, ◌+◌, ◌⊎◌, ℕ, Bool, true, false, ◌&&◌, List, [], ◌∷◌, ◌++◌, length, inl, inr, refl, sym, ap, ◌∙◌, subst, arith, append_assoc, append-nil}
use Rattle.std.proofs.lemmas.Bool.{false≢true}
use Rattle.rec_audit.specs.declared.form.Stage.TheVariants as stages
use Rattle.rec_audit.specs.declared.verdict.Rule.{Rule}
use Rattle.rec_audit.specs.declared.verdict.Rule.TheVariants as rules
use Rattle.rec_audit.specs.declared.verdict.Verdict.{Verdict}
use Rattle.rec_audit.specs.declared.verdict.Verdict.TheVariants.{Yes, No}
use Rattle.rec_audit.specs.Lines.{Line, AreNumbers, text_of, text_of_line}
use Rattle.rec_audit.specs.Form.{number, stage_behind}
use Rattle.rec_audit.specs.Graph.{has_target, is_put}
use Rattle.rec_audit.specs.Verdicts.{AreClean, GoesOn, HasFault, HasReachFault, HasStampFault, IsVerdict}
use Rattle.rec_audit.specs.Verdicts.HasFault.{form as unfit, stamp as repeated, reach as reaches}
use Rattle.rec_audit.specs.Verdicts.IsVerdict.{yes, long, no as first_fault}
use Rattle.rec_audit.specs.declared.kind.Kind.TheVariants.{Free}
use Rattle.rec_audit.proofs.Texts.{same_line}
use Rattle.rec_audit.proofs.Telling.{longer}
use Rattle.rec_audit.proofs.Sets.{sets}

-- ---- one text, and lists of lines at its front

abbrev AreFit : List Line → Type 0
AreFit lines = (before : List Line) (line : Line) (after : List Line) → lines ≡ before ++ line ∷ after → AreNumbers line.numbers

fit_head : (l : Line) (lines : List Line) → AreFit (l ∷ lines) → AreNumbers l.numbers
fit_head l lines fit = fit [] l lines refl

fit_tail : (l : Line) (lines : List Line) → AreFit (l ∷ lines) → AreFit lines
fit_tail l lines fit before line after e = fit (l ∷ before) line after (ap (λ t. l ∷ t) e)

fit_of : (lines : List Line) → AreClean lines → AreFit lines
fit_of lines are before line after e = (are.stand before line after e).fits

-- one goes on where the other ends: its next line, and what is behind that
record IsAhead (ls ms : List Line) (r s : List ℕ) : Type 0 where
  line : Line
  more : List Line
  lines : ms ≡ ls ++ line ∷ more
  text : r ≡ text_of_line line ++ (text_of more ++ s)

-- they are the same, or one goes on where the other ends
compared : (ls ms : List Line) (r s : List ℕ) → AreFit ls → AreFit ms → text_of ls ++ r ≡ text_of ms ++ s → ((ls ≡ ms) × (r ≡ s)) ⊎ (IsAhead ls ms r s ⊎ IsAhead ms ls s r)
compared [] [] r s left right e = inl (refl, e)
compared [] (m ∷ ms) r s left right e = inr (inl (record { line = m; more = ms; lines = refl; text = e ∙ append_assoc (text_of_line m) (text_of ms) s }))
compared (l ∷ ls) [] r s left right e = inr (inr (record { line = l; more = ls; lines = refl; text = sym e ∙ append_assoc (text_of_line l) (text_of ls) r }))
compared (l ∷ ls) (m ∷ ms) r s left right e =
    let both = same_line l m (text_of ls ++ r) (text_of ms ++ s) (fit_head l ls left) (fit_head m ms right) (sym (append_assoc (text_of_line l) (text_of ls) r) ∙ e ∙ append_assoc (text_of_line m) (text_of ms) s) in
    behind l m ls ms r s both.0 (compared ls ms r s (fit_tail l ls left) (fit_tail m ms right) both.1)
  where
    behind : (l m : Line) (ls ms : List Line) (r s : List ℕ) → l ≡ m → ((ls ≡ ms) × (r ≡ s)) ⊎ (IsAhead ls ms r s ⊎ IsAhead ms ls s r) → ((l ∷ ls ≡ m ∷ ms) × (r ≡ s)) ⊎ (IsAhead (l ∷ ls) (m ∷ ms) r s ⊎ IsAhead (m ∷ ms) (l ∷ ls) s r)
    behind l m ls ms r s same (inl all) = inl (ap (λ x. x ∷ ls) same ∙ ap (λ t. m ∷ t) all.0, all.1)
    behind l m ls ms r s same (inr (inl more)) = inr (inl (record { line = more.line; more = more.more; lines = ap (λ t. m ∷ t) more.lines ∙ ap (λ x. x ∷ (ls ++ more.line ∷ more.more)) (sym same); text = more.text }))
    behind l m ls ms r s same (inr (inr more)) = inr (inr (record { line = more.line; more = more.more; lines = ap (λ t. l ∷ t) more.lines ∙ ap (λ x. x ∷ (ms ++ more.line ∷ more.more)) same; text = more.text }))

-- ---- a line that goes on and is clean is at no fault

no_fault : (lines : List Line) (line : Line) (more : List Line) (bytes rest : List ℕ) (rule : Rule) → AreClean (lines ++ line ∷ more) → bytes ≡ text_of_line line ++ rest → HasFault lines bytes rule → ⊥
no_fault lines line more bytes rest rules.Long are text fault = elim fault [ ]
no_fault lines line more bytes rest rules.Form are text (unfit none open-is) = none line (record { stands = are.stand lines line more refl; rest = rest; text = text })
no_fault lines line more bytes rest rules.Stamp are text (repeated other goes fault) =
    let same : other ≡ line = (same_line other line goes.rest rest goes.stands.fits (are.stand lines line more refl).fits (sym goes.text ∙ text)).0 in
    (are.clean lines line more refl).stamp (subst (λ (l : Line). HasStampFault lines l) same fault)
no_fault lines line more bytes rest rules.Reach are text (reaches other goes fault) =
    let same : other ≡ line = (same_line other line goes.rest rest goes.stands.fits (are.stand lines line more refl).fits (sym goes.text ∙ text)).0 in
    (are.clean lines line more refl).reach (subst (λ (l : Line). HasReachFault lines l) same fault)

ahead_no_fault : (ls ms : List Line) (r s : List ℕ) (rule : Rule) → IsAhead ls ms r s → AreClean ms → HasFault ls r rule → ⊥
ahead_no_fault ls ms r s rule ahead are fault = no_fault ls ahead.line ahead.more r (text_of ahead.more ++ s) rule (subst AreClean ahead.lines are) ahead.text fault

-- nothing is ahead of an end
nothing_ahead : (ls ms : List Line) (s : List ℕ) → IsAhead ls ms [] s → ⊥
nothing_ahead ls ms s ahead = omega (arith, longer [] (text_of ahead.more ++ s) ahead.line ahead.text)

-- a line has one rule
put_or_free : (line : Line) → line.kind ≡ Free → is_put line.kind ≡ true → ⊥
put_or_free line free put = false≢true (sym (ap is_put free) ∙ put)

put_and : (line : Line) (b : Bool) → (is_put line.kind && b) ≡ true → is_put line.kind ≡ true
put_and line b e = left (is_put line.kind) b e
  where
    left : (a b : Bool) → (a && b) ≡ true → a ≡ true
    left true b e = refl
    left false b e = e

clash : (lines : List Line) (bytes : List ℕ) (line other : Line) → GoesOn lines bytes line → GoesOn lines bytes other → HasStampFault lines line → HasReachFault lines other → ⊥
clash lines bytes line other goes on fault again =
    let same : line ≡ other = (same_line line other goes.rest on.rest goes.stands.fits on.stands.fits (sym goes.text ∙ on.text)).0 in
    put_or_free line (ap (λ (l : Line). l.kind) same ∙ again.kind) (put_and line (has_target (number 2 line)) fault.opens)

one_rule : (lines : List Line) (bytes : List ℕ) (a b : Rule) → HasFault lines bytes a → HasFault lines bytes b → a ≡ b
one_rule lines bytes rules.Long b fault other = elim fault [ ]
one_rule lines bytes rules.Form rules.Long fault other = elim other [ ]
one_rule lines bytes rules.Stamp rules.Long fault other = elim other [ ]
one_rule lines bytes rules.Reach rules.Long fault other = elim other [ ]
one_rule lines bytes rules.Form rules.Form (unfit none end) (unfit other last) = refl
one_rule lines bytes rules.Form rules.Stamp (unfit none end) (repeated line goes fault) = absurd (none line goes)
one_rule lines bytes rules.Form rules.Reach (unfit none end) (reaches line goes fault) = absurd (none line goes)
one_rule lines bytes rules.Stamp rules.Form (repeated line goes fault) (unfit none end) = absurd (none line goes)
one_rule lines bytes rules.Stamp rules.Stamp (repeated line goes fault) (repeated other on again) = refl
one_rule lines bytes rules.Stamp rules.Reach (repeated line goes fault) (reaches other on again) = absurd (clash lines bytes line other goes on fault again)
one_rule lines bytes rules.Reach rules.Form (reaches line goes fault) (unfit none end) = absurd (none line goes)
one_rule lines bytes rules.Reach rules.Stamp (reaches line goes fault) (repeated other on again) = absurd (clash lines bytes other line on goes again fault)
one_rule lines bytes rules.Reach rules.Reach (reaches line goes fault) (reaches other on again) = refl

-- ---- verdicts

yes_or_fault : (ls ms : List Line) (s : List ℕ) (rule : Rule) → AreClean ls → stage_behind ls ≡ stages.Between → AreClean ms → text_of ls ++ [] ≡ text_of ms ++ s → HasFault ms s rule → ⊥
yes_or_fault ls ms s rule left whole right e fault = at (compared ls ms [] s (fit_of ls left) (fit_of ms right) e)
  where
    ends : (lines : List Line) (rule : Rule) → stage_behind lines ≡ stages.Between → HasFault lines [] rule → ⊥
    ends lines rules.Long whole fault = elim fault [ ]
    ends lines rules.Form whole (unfit none end) = end (refl, whole)
    ends lines rules.Stamp whole (repeated line goes fault) = omega (arith, longer [] goes.rest line goes.text)
    ends lines rules.Reach whole (reaches line goes fault) = omega (arith, longer [] goes.rest line goes.text)

    at : ((ls ≡ ms) × ([] ≡ s)) ⊎ (IsAhead ls ms [] s ⊎ IsAhead ms ls s []) → ⊥
    at (inl same) = ends ms rule (ap stage_behind (sym same.0) ∙ whole) (subst (λ (t : List ℕ). HasFault ms t rule) (sym same.1) fault)
    at (inr (inl ahead)) = nothing_ahead ls ms s ahead
    at (inr (inr ahead)) = ahead_no_fault ms ls s [] rule ahead left fault

one_count : (ls ms : List Line) → AreClean ls → AreClean ms → text_of ls ++ [] ≡ text_of ms ++ [] → ls ≡ ms
one_count ls ms left right e =
    elim (compared ls ms [] [] (fit_of ls left) (fit_of ms right) e) [
      | inl same ↦ same.0
      | inr more ↦ elim more [ inl ahead ↦ absurd (nothing_ahead ls ms [] ahead) | inr ahead ↦ absurd (nothing_ahead ms ls [] ahead) ]
    ]

one_place : (ls ms : List Line) (r s : List ℕ) (a b : Rule) → AreClean ls → AreClean ms → text_of ls ++ r ≡ text_of ms ++ s → HasFault ls r a → HasFault ms s b → (ls ≡ ms) × (a ≡ b)
one_place ls ms r s a b left right e fault other = at (compared ls ms r s (fit_of ls left) (fit_of ms right) e)
  where
    at : ((ls ≡ ms) × (r ≡ s)) ⊎ (IsAhead ls ms r s ⊎ IsAhead ms ls s r) → (ls ≡ ms) × (a ≡ b)
    at (inl same) = (same.0, one_rule ms s a b (subst (λ (t : List ℕ). HasFault ms t a) same.1 (subst (λ (l : List Line). HasFault l r a) same.0 fault)) other)
    at (inr (inl ahead)) = absurd (ahead_no_fault ls ms r s a ahead right fault)
    at (inr (inr ahead)) = absurd (ahead_no_fault ms ls s r b ahead left other)

whole_text : (lines : List Line) (bytes : List ℕ) → bytes ≡ text_of lines → text_of lines ++ [] ≡ bytes
whole_text lines bytes is = append-nil (text_of lines) ∙ sym is

pub one_verdict : (bytes : List ℕ) (a b : Verdict) → IsVerdict bytes a → IsVerdict bytes b → a ≡ b
one_verdict bytes a b (yes ls few text clean whole) (yes ms short other right end) = ap (λ (l : List Line). Yes (sets l)) (one_count ls ms clean right (whole_text ls bytes text ∙ sym (whole_text ms bytes other)))
one_verdict bytes a b (yes ls few text clean whole) (long many) = absurd (omega arith)
one_verdict bytes a b (yes ls few text clean whole) (first_fault ms rest rule short other right fault) = absurd (yes_or_fault ls ms rest rule clean whole right (whole_text ls bytes text ∙ other) fault)
one_verdict bytes a b (long many) (yes ms short other right end) = absurd (omega arith)
one_verdict bytes a b (long many) (long more) = refl
one_verdict bytes a b (long many) (first_fault ms rest rule short other right fault) = absurd (omega arith)
one_verdict bytes a b (first_fault ls rest rule few text clean fault) (yes ms short other right end) = absurd (yes_or_fault ms ls rest rule right end clean (whole_text ms bytes other ∙ text) fault)
one_verdict bytes a b (first_fault ls rest rule few text clean fault) (long many) = absurd (omega arith)
one_verdict bytes a b (first_fault ls rest rule few text clean fault) (first_fault ms more next short other right again) =
    let same = one_place ls ms rest more rule next clean right (sym text ∙ other) fault again in
    ap (λ (l : List Line). No (length l + 1) rule) same.0 ∙ ap (λ r. No (length ms + 1) r) same.1

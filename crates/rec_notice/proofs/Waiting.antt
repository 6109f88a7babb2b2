-- Labels that wait are heard, in order.
use Rattle.std.proofs.Common.{◌≡◌, true≢false, ℕ, suc, ◌+◌, ◌≤◌, List, [], ◌∷◌, ◌++◌, length, map, take, Option, Some, None, refl, sym, ap, ◌∙◌, arith, append_assoc, append-nil, length-append}
use Rattle.std.proofs.lemmas.List.{take-append-le}
use mathlib.Core.List.{IsPrefix}
use Rattle.rec_notice.specs.Hearing.{HearsAll}
use Rattle.rec_notice.specs.Ring.{heard_by, waits_for}
use Rattle.rec_notice.specs.declared.listener.Listener.{Listener}

-- where some labels begin a list, the list has their front
front : (labels : List ℕ) (label : ℕ) (later : List ℕ) (n : ℕ) → IsPrefix labels (label ∷ later) → suc n ≤ length labels → (take (suc n) labels ≡ label ∷ take n later) × (n ≤ length later)
front [] label later n begins fits = absurd (omega arith)
front (first ∷ labels) label later n begins fits =
    let here : first ≡ label = cc (begins.1) in
    let rest : labels ++ begins.0 ≡ later = cc (begins.1) in
    let within : n ≤ length labels = omega arith in
    let same : take n (labels ++ begins.0) ≡ take n labels = take-append-le n labels begins.0 within in
    let longer : length later ≡ length labels + length begins.0 = sym (ap length rest) ∙ length-append labels begins.0 in
    (ap (λ x. x ∷ take n labels) here ∙ ap (λ l. label ∷ l) (sym same ∙ ap (take n) rest), omega arith)

-- the answers are the labels that wait, and these are heard
pub record AreHeard (before after : Listener) (answers : List (Option ℕ)) : Type 0 where
  pub each : answers ≡ map (λ label. Some label) (take (length answers) (waits_for before))
  pub heard : heard_by after ≡ heard_by before ++ take (length answers) (waits_for before)

pub are_heard : (answers : List (Option ℕ)) (before after : Listener) → HearsAll before answers after → length answers ≤ length (waits_for before) → AreHeard before after answers
are_heard [] before after all fits = record {
  each = refl;
  heard = ap heard_by all ∙ sym (append-nil (heard_by before));
}
are_heard (None ∷ answers) before after all fits = absurd (true≢false (sym (all.1.waiting (omega arith))))
are_heard (Some label ∷ answers) before after all fits =
    let front_is = front (waits_for before) label (waits_for all.0) (length answers) all.1.first fits in
    let later : AreHeard all.0 after answers = are_heard answers all.0 after all.2 front_is.1 in
    record {
      each = ap (λ l. Some label ∷ l) later.each ∙ ap (map (λ l. Some l)) (sym front_is.0);
      heard = later.heard
          ∙ ap (λ l. l ++ take (length answers) (waits_for all.0)) all.1.heard
          ∙ append_assoc (heard_by before) (label ∷ []) (take (length answers) (waits_for all.0))
          ∙ ap (λ l. heard_by before ++ l) (sym front_is.0);
    }

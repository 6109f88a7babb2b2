-- What a trial promises, from its beginning and from word to word.
use Rattle.std.proofs.Common.{◌≡◌, ℕ, ◌<◌, List, [], ◌∷◌, ◌++◌, refl, sym, ap, subst, ◌∙◌}
use Rattle.rec_trial.proofs.Common.{target_of, is_green, State, slot_at, Run, noted, run_of, IsReady, LeadsToVisible, AllLeadToVisible, Machine, Work, took_of, started_of}
use Rattle.rec_trial.specs.Promised.{IsTrial, unloaded}
use Rattle.rec_trial.proofs.AtWork.{all_lead_more, run_more}
use Rattle.rec_trial.proofs.Exactly.{whole_exact}
use Rattle.rec_trial.proofs.Runs.{noted_work, still_visible}
use Rattle.rec_trial.proofs.Whole.{whole_careful, whole_ends, whole_over}
use Rattle.rec_trial.proofs.Witnesses.{whole_witnessed}

promised : (fields : ℕ) (before : State) (words : List ℕ) → 0 < fields → IsReady before → AllLeadToVisible before words → IsTrial fields before words (run_of fields before words)
promised fields before words f k a = record {
  wide = f;
  ready = k;
  named = a;
  is = refl;
  careful = whole_careful fields before words f k a;
  ends = whole_ends fields before words f k a;
  whole = whole_over fields before words f k a;
  witnessed = whole_witnessed fields before words f k a;
  exact = λ word. whole_exact fields word before words f k a;
}

begun_run : (fields : ℕ) (before : State) → run_of fields before [] ≡ unloaded (started_of fields before)
unfolding run_of
begun_run fields before = refl

pub begun_promised : (fields : ℕ) (before : State) (w : Work) → 0 < fields → IsReady before → w ≡ started_of fields before → IsTrial fields before [] (unloaded w)
begun_promised fields before w f k e =
    subst (λ (r : Run). IsTrial fields before [] r) (begun_run fields before ∙ ap unloaded (sym e)) (promised fields before [] f k tt)

pub took_promised : (fields : ℕ) (before : State) (words : List ℕ) (r : Run) (m : Machine) (s : State) (word : ℕ) → LeadsToVisible s word → ◌≡◌ {A = Work} r.work (record { machine = m; counts = s }) → IsTrial fields before words r → IsTrial fields before (words ++ word ∷ []) (noted r word)
took_promised fields before words r m s word l e t =
    let first : LeadsToVisible before word = still_visible before s (target_of word) (λ x. sym (t.careful.released x) ∙ ap (λ (w : Work). (slot_at w.counts x).released) e) (λ x. sym (t.careful.green x) ∙ ap (λ (w : Work). is_green (slot_at w.counts x).colour) e) l in
    subst (λ (q : Run). IsTrial fields before (words ++ word ∷ []) q) (run_more fields before words word ∙ ap (λ (q : Run). noted q word) (sym t.is)) (promised fields before (words ++ word ∷ []) t.wide t.ready (all_lead_more before words word t.named first))

-- the record goes with the machine
pub took_recorded : (r : Run) (m : Machine) (s : State) (word : ℕ) (n : Machine) (u : State) → ◌≡◌ {A = Work} r.work (record { machine = m; counts = s }) → ◌≡◌ {A = Work} (record { machine = n; counts = u }) (took_of (record { machine = m; counts = s }) word) → ◌≡◌ {A = Work} (noted r word).work (record { machine = n; counts = u })
took_recorded r m s word n u e h = noted_work r word ∙ ap (λ (w : Work). took_of w word) e ∙ sym h

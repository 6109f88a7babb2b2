-- A scan that has ended claimed each header, one after another, and found each taken.
use Rattle.std.proofs.Common.{Bool, true, false, ◌≡◌, inl, inr, ℕ, ◌+◌, ◌<◌, ◌==◌, if◌then◌else◌, List, [], ◌∷◌, length, fold, All, refl, arith, sym, ap, subst, ◌∙◌}
use Rattle.rec_word.specs.Header.{header_word}
use Rattle.rec_word.specs.declared.op.Op.{Op}
use Rattle.rec_word.specs.declared.op.Op.TheVariants.{LoadFreed, ClaimHeader}
use Rattle.std.proofs.lemmas.Bool.{cases_Bool, cases_eq, cond-true, cond-false, eq-eqb, ne_eqb}
use Rattle.std.proofs.lemmas.List.Elements.{All-nil, All-cons}
use Rattle.rec_model.specs.Asking.{allocation}
use Rattle.rec_mutator.specs.Causes.{FoundNone, FoundNoneAt}
use Rattle.rec_mutator.specs.Next.{next_of, next_at, own_word, first_op, new_op}
use Rattle.rec_mutator.specs.Private.{Private, is_full, probe_of}
use Rattle.rec_mutator.specs.Scans.{claims, ops_along, FailsScan, HasScanned}
use Rattle.rec_mutator.specs.Took.{born_in, moved, first_by, new_by, took_at, took_of}
use Rattle.rec_mutator.specs.declared.made.Made.{Made}
use Rattle.rec_mutator.specs.declared.phase.Phase.{Phase}
use Rattle.rec_mutator.specs.declared.phase.Phase.TheVariants.{Begun, Scanning, Scanned, Finished}
use Rattle.rec_mutator.specs.declared.work.Work.{Work}
use Rattle.rec_mutator.specs.declared.work.Work.TheVariants as works

-- the phase is that of a scan that ended
record HasEnded (phase : Phase) (first : ℕ) : Type 0 where
  pub reg : ℕ
  pub label : ℕ
  pub leaf : Bool
  pub is : phase ≡ Scanned reg label leaf first

-- a finished work stays so
finished_stays : (q : Private) (work : Work) (made : Made) → q.phase ≡ Finished work made → (words : List ℕ) → (fold took_of q words).phase ≡ Finished work made
unfolding took_of took_at
finished_stays q work made e [] = e
finished_stays q work made e (w ∷ ws) = finished_stays (took_of q w) work made (ap (λ f. (took_at q w f).phase) e) ws

-- and is no scan
finished_never : {P : Type 0} (q : Private) (work : Work) (made : Made) (first : ℕ) (words : List ℕ) → q.phase ≡ Finished work made → HasEnded (fold took_of q words).phase first → P
finished_never q work made first words e h = let no : Finished work made ≡ Scanned h.reg h.label h.leaf first = sym (finished_stays q work made e words) ∙ h.is in cc

-- the steps of a scan that ended, after so many probes, and the words that they found
record IsRest (q : Private) (header probed before first : ℕ) (found : List ℕ) : Type 0 where
  pub same : before ≡ first
  pub made : ops_along q found ≡ claims header q.slots q.from probed found
  pub every : probed + length found ≡ q.slots
  pub slots : (fold took_of q found).slots ≡ q.slots
  pub taken : All (λ word. 0 < word) found

-- once each slot was probed, no word more was found
ends_here : (q : Private) (reg label : ℕ) (leaf : Bool) (before probed first : ℕ) (found : List ℕ) → q.phase ≡ Scanned reg label leaf before → probed ≡ q.slots → HasEnded (fold took_of q found).phase first → IsRest q (header_word leaf label) probed before first found
unfolding took_of took_at
ends_here q reg label leaf before probed first [] e last h = let is : Scanned reg label leaf before ≡ Scanned h.reg h.label h.leaf first = sym e ∙ h.is in record { same = cc; made = refl; every = omega (arith, last); slots = refl; taken = All-nil (λ word. 0 < word) }
ends_here q reg label leaf before probed first (w ∷ ws) e last h = finished_never (took_of q w) _ _ first ws (ap (λ f. (took_at q w f).phase) e) h

-- after so many probes
scans_on : (found : List ℕ) (q : Private) (reg label : ℕ) (leaf : Bool) (before probed first : ℕ) → q.phase ≡ Scanning reg label leaf before probed → HasEnded (fold took_of q found).phase first → IsRest q (header_word leaf label) probed before first found
unfolding took_of took_at next_of next_at
scans_on [] q reg label leaf before probed first e h = let no : Scanning reg label leaf before probed ≡ Scanned h.reg h.label h.leaf first = sym e ∙ h.is in cc
scans_on (w ∷ ws) q reg label leaf before probed first e h =
    let goes_on : ops_along (took_of q w) ws ≡ claims (header_word leaf label) q.slots q.from (probed + 1) ws → ops_along q (w ∷ ws) ≡ claims (header_word leaf label) q.slots q.from probed (w ∷ ws) = λ rest.
    ap (λ (op : Op). op ∷ ops_along (took_of q w) ws) (ap (next_at q) e) ∙ ap (λ (its : List Op). ClaimHeader (probe_of q probed) (header_word leaf label) ∷ its) rest in
    elim (cases_eq w 0) [
      | inl free ↦
          let won : took_of q w ≡ born_in q reg label leaf (probe_of q probed) = ap (took_at q w) e ∙ cond-true (w == 0) _ _ (eq-eqb w 0 free) in
          finished_never (took_of q w) _ _ first ws (ap (λ (x : Private). x.phase) won) h
      | inr taken ↦
          let lost : took_of q w ≡ moved q (if probed + 1 == q.slots then Scanned reg label leaf before else Scanning reg label leaf before (probed + 1)) = ap (took_at q w) e ∙ cond-false (w == 0) _ _ (ne_eqb w 0 taken) in
          let slots : (took_of q w).slots ≡ q.slots = ap (λ (x : Private). x.slots) lost in
          let from : (took_of q w).from ≡ q.from = ap (λ (x : Private). x.from) lost in
          let same : claims (header_word leaf label) (took_of q w).slots (took_of q w).from (probed + 1) ws ≡ claims (header_word leaf label) q.slots q.from (probed + 1) ws = ap (λ n. claims (header_word leaf label) n (took_of q w).from (probed + 1) ws) slots ∙ ap (λ n. claims (header_word leaf label) q.slots n (probed + 1) ws) from in
          let some : 0 < w = omega (arith, taken) in
          elim (cases_eq (probed + 1) q.slots) [
            | inl last ↦
                let at : (took_of q w).phase ≡ Scanned reg label leaf before = ap (λ (x : Private). x.phase) lost ∙ cond-true (probed + 1 == q.slots) _ _ (eq-eqb (probed + 1) q.slots last) in
                let r : IsRest (took_of q w) (header_word leaf label) (probed + 1) before first ws = ends_here (took_of q w) reg label leaf before (probed + 1) first ws at (last ∙ sym slots) h in
                record { same = r.same; made = goes_on (r.made ∙ same); every = omega (arith, r.every, slots); slots = r.slots ∙ slots; taken = All-cons (λ word. 0 < word) w ws some r.taken }
            | inr more ↦
                let at : (took_of q w).phase ≡ Scanning reg label leaf before (probed + 1) = ap (λ (x : Private). x.phase) lost ∙ cond-false (probed + 1 == q.slots) _ _ (ne_eqb (probed + 1) q.slots more) in
                let r : IsRest (took_of q w) (header_word leaf label) (probed + 1) before first ws = scans_on ws (took_of q w) reg label leaf before (probed + 1) first at h in
                record { same = r.same; made = goes_on (r.made ∙ same); every = omega (arith, r.every, slots); slots = r.slots ∙ slots; taken = All-cons (λ word. 0 < word) w ws some r.taken }
          ]
    ]

-- the first step of an allocation
begins : (p : Private) (word reg label : ℕ) (leaf : Bool) → first_by p word (allocation leaf reg label) ≡ new_by p word reg label leaf (is_full p)
begins p word reg label true = refl
begins p word reg label false = refl

begins_op : (p : Private) (reg label : ℕ) (leaf : Bool) → first_op p (allocation leaf reg label) ≡ new_op p (is_full p)
begins_op p reg label true = refl
begins_op p reg label false = refl

-- the whole scan, from the allocation's first step on
scans : (start p : Private) (before : ℕ) (words : List ℕ) → (s : HasScanned start words p) → HasEnded p.phase before → FailsScan (header_word s.leaf s.label) p.slots start.from before (ops_along start words) words
unfolding took_of took_at next_of next_at
scans start p before [] s h =
    let no : Begun (works.Command (allocation s.leaf s.reg s.label)) ≡ Scanned h.reg h.label h.leaf before = sym s.begun ∙ sym (ap (λ (x : Private). x.phase) s.came) ∙ h.is in
    cc
scans start p before (first ∷ found) s h = elim (cases_Bool (is_full start)) [
  | inl full ↦ finished_never (took_of start first) _ _ before found (ap (λ f. (took_at start first f).phase) s.begun ∙ ap (λ (x : Private). x.phase) (begins start first s.reg s.label s.leaf ∙ cond-true (is_full start) _ _ full)) ended
  | inr room ↦
      let begun : took_of start first ≡ moved start (Scanning s.reg s.label s.leaf first 0) = ap (took_at start first) s.begun ∙ begins start first s.reg s.label s.leaf ∙ cond-false (is_full start) _ _ room in
      let loads : next_of start ≡ LoadFreed = ap (next_at start) s.begun ∙ begins_op start s.reg s.label s.leaf ∙ cond-false (is_full start) (own_word start) LoadFreed room in
      let r : IsRest (took_of start first) (header_word s.leaf s.label) 0 first before found = scans_on found (took_of start first) s.reg s.label s.leaf first 0 before (ap (λ (x : Private). x.phase) begun) ended in
      let slots : (took_of start first).slots ≡ p.slots = sym r.slots ∙ sym (ap (λ (x : Private). x.slots) s.came) in
      let from : (took_of start first).from ≡ start.from = ap (λ (x : Private). x.from) begun in
      record {
        found = found;
        words_are = ap (λ n. n ∷ found) r.same;
        made_are = ap (λ (op : Op). op ∷ ops_along (took_of start first) found) loads ∙ ap (λ (its : List Op). LoadFreed ∷ its) (r.made ∙ ap (λ n. claims (header_word s.leaf s.label) n (took_of start first).from 0 found) slots ∙ ap (λ n. claims (header_word s.leaf s.label) p.slots n 0 found) from);
        every = omega (arith, r.every, r.slots, ap (λ (x : Private). x.slots) s.came);
        taken = r.taken;
      }
]
  where
    ended : HasEnded (fold took_of (took_of start first) found).phase before
    ended = subst (λ (x : Private). HasEnded x.phase before) s.came h

-- where a scan has ended, every probe failed
pub scanned_none : (p : Private) (reg label : ℕ) (leaf : Bool) (before : ℕ) → p.phase ≡ Scanned reg label leaf before → FoundNone p before
scanned_none p reg label leaf before is = record {
  scanned = subst (λ f. FoundNoneAt f before) (sym is) refl;
  every = λ start words s. scans start p before words s (record { reg = reg; label = label; leaf = leaf; is = is });
}

-- A scan on the table: the loads of taken headers are its failing probes.
use Rattle.std.proofs.Common.{◌≡◌, ◌≢◌, ℕ, ◌+◌, ◌-◌, ◌<◌, ◌≤◌, ◌==◌, if◌then◌else◌, arith, append-nil, Bool, true, false, ne_eqb, List, [], ◌∷◌, ◌++◌, length, fold, All, Option, Some, None, refl, sym, ap, ◌∙◌, subst, append_assoc, length-append}
use Rattle.std.proofs.lemmas.List.{map-append}
use Rattle.std.proofs.lemmas.List.Elements.{All-nil, All-cons, All-head, All-tail, All-append}
use Rattle.atomic_table.specs.Table.{Me, Step}
use Rattle.rec_table.proofs.Common.{Op, Contents, Private, IsAt, IsBetween, IsMachine, register, is_full, probe_of, slot_behind, spare, took_of, skipped_to, skipped_at, births_of, Core, mutator, told, learnt, births_told, Kind, Operates, PassedBy, adds, beats, longer, seated_of, hands, hands_at, Passed, ScansFrom, saw_all, Beat, Saw, Seated, View, Mutates}
use Rattle.rec_word.specs.Header.{header_word}
use Rattle.rec_word.specs.declared.op.Op.TheVariants as ops
use Rattle.rec_model.specs.declared.command.Cmd.TheVariants as commands
use Rattle.rec_mutator.specs.Next.{next_of, next_at, begun_op, new_op, read_op, write_op, label_op}
use Rattle.rec_mutator.specs.Step.{NamesSlots}
use Rattle.rec_mutator.specs.declared.phase.Phase as phases
use Rattle.rec_mutator.specs.declared.phase.Phase.TheVariants as at
use Rattle.rec_mutator.specs.declared.work.Work.{Work}
use Rattle.rec_mutator.specs.declared.work.Work.TheVariants as works
use Rattle.rec_mutator.proofs.Around.{behind_below, behind_further, behind_wraps}
use Rattle.rec_mutator.proofs.Skips.{skipped_next, skipped_none, skipped_further, skipped_busy}
use Rattle.rec_mutator.proofs.Steps.{TakesNone, here_same}
use Rattle.rec_table.proofs.Beats.{told_both}
use Rattle.rec_table.proofs.Making.{births_both}
use Rattle.rec_table.proofs.Probes.{probes}
use Rattle.rec_table.proofs.Steps.{IsPlain}

-- Only a scan claims headers.
abbrev IsClaimOp : Op → Type 0
IsClaimOp (ops.ClaimHeader slot header) = Unit {0}
IsClaimOp _ = ⊥

new_claims : (p : Private) (full : Bool) → IsClaimOp (new_op p full) → ⊥
new_claims p true is = is
new_claims p false is = is

begun_claims : (p : Private) (work : Work) → IsClaimOp (begun_op p work) → ⊥
begun_claims p (works.Command (commands.New reg label)) is = new_claims p (is_full p) is
begun_claims p (works.Command (commands.Leaf reg label)) is = new_claims p (is_full p) is
begun_claims p (works.Command (commands.Get dst src f)) is = go (register p src) is
  where
    go : (x : Option ℕ) → IsClaimOp (read_op p f x) → ⊥
    go None x = x
    go (Some slot) x = x
begun_claims p (works.Command (commands.Put src f val)) is = go (register p src) (is_full p) is
  where
    go : (x : Option ℕ) (b : Bool) → IsClaimOp (write_op p x b) → ⊥
    go None b x = x
    go (Some slot) true x = x
    go (Some slot) false x = x
begun_claims p (works.Command (commands.Value reg)) is = go (register p reg) is
  where
    go : (x : Option ℕ) → IsClaimOp (label_op p x) → ⊥
    go None x = x
    go (Some slot) x = x
begun_claims p _ is = is

pub record Claims (p : Private) (slot : ℕ) : Type 0 where
  pub reg : ℕ
  pub label : ℕ
  pub leaf : Bool
  pub before : ℕ
  pub probed : ℕ
  pub phase : p.phase ≡ at.Scanning reg label leaf before probed
  pub comes : slot ≡ probe_of p probed

pub claims : (p : Private) (slot header : ℕ) → next_of p ≡ ops.ClaimHeader slot header → Claims p slot
unfolding next_of next_at
claims p slot header is = by p.phase refl
  where
    no : (phase : phases.Phase) → p.phase ≡ phase → (IsClaimOp (next_at p phase) → ⊥) → Claims p slot
    no phase e never = absurd (never (subst IsClaimOp (sym (sym (ap (next_at p) e) ∙ is)) tt))

    by : (phase : phases.Phase) → p.phase ≡ phase → Claims p slot
    by at.Idle e = no at.Idle e (λ x. x)
    by (at.Begun work) e = no (at.Begun work) e (begun_claims p work)
    by (at.Scanning reg label leaf before probed) e =
        let same : next_at p (at.Scanning reg label leaf before probed) ≡ ops.ClaimHeader slot header = sym (ap (next_at p) e) ∙ is in
        record { reg = reg; label = label; leaf = leaf; before = before; probed = probed; phase = e; comes = cc }
    by (at.Scanned reg label leaf before) e = no (at.Scanned reg label leaf before) e (λ x. x)
    by (at.Storing src f val s) e = no (at.Storing src f val s) e (λ x. x)
    by at.Crossing e = no at.Crossing e (λ x. x)
    by at.Swapping e = no at.Swapping e (λ x. x)
    by at.Giving e = no at.Giving e (λ x. x)
    by at.Leaving e = no at.Leaving e (λ x. x)
    by at.Retiring e = no at.Retiring e (λ x. x)
    by at.Parting e = no at.Parting e (λ x. x)
    by (at.Finished work made) e = no (at.Finished work made) e (λ x. x)
    by (at.Passing passage) e = no (at.Passing passage) e (λ x. x)

pub claims_slot : (p : Private) (slot : ℕ) → IsMachine p → (k : Claims p slot) → (k.probed < p.slots) × (p.steps ≡ k.probed + 1) × (slot < p.slots)
claims_slot p slot machine k =
    let at = subst (IsAt p) k.phase machine.now in
    (at.1, at.2, subst (λ n. n < p.slots) (sym k.comes) (behind_below p.slots p.from k.probed machine.first_slot))

-- steps that found these words led from one record to another, and made no object
record Walks (q : Private) (words : List ℕ) (r : Private) : Type 0 where
  told : told q (saw_all words) ≡ r
  learns : r ≡ fold took_of q words
  births : births_told q (saw_all words) ≡ 0

module _ (p : Private) (reg label : ℕ) (leaf : Bool) (before from : ℕ) (scans : p.phase ≡ at.Scanning reg label leaf before from) where
  came_to : (slot : ℕ) → skipped_to p slot ≡ record p { phase = if slot == p.slots then at.Scanned reg label leaf before else at.Scanning reg label leaf before slot; steps = p.steps + (slot - from) }
  unfolding skipped_to skipped_at
  came_to slot = ap (skipped_at p slot) scans

  there_phase : (slot : ℕ) → slot < p.slots → (skipped_to p slot).phase ≡ at.Scanning reg label leaf before slot
  there_phase slot lt =
      ap (λ (q : Private). q.phase) (came_to slot) ∙ ap (λ (b : Bool). if b then at.Scanned reg label leaf before else at.Scanning reg label leaf before slot) (ne_eqb slot p.slots (λ e. omega (arith, e, lt)))

  probe : (slot word : ℕ) → from ≤ slot → slot < p.slots → word ≢ 0 → learnt (skipped_to p slot) (Saw word) ≡ skipped_to p (slot + 1)
  probe slot word low lt taken =
      let q : Private = skipped_to p slot in
      here_same q word (spare (took_of q word)) (skipped_busy p reg label leaf before from scans slot) (subst TakesNone (sym (there_phase slot lt)) tt) ∙ skipped_further p reg label leaf before from scans slot word low lt taken

  walks : (words : List ℕ) (slot : ℕ) → from ≤ slot → slot + length words ≤ p.slots → All (λ word. 0 < word) words → Walks (skipped_to p slot) words (skipped_to p (slot + length words))
  walks [] slot low le taken = record { told = ap (skipped_to p) (omega arith); learns = ap (skipped_to p) (omega arith); births = refl }
  walks (w ∷ ws) slot low le taken =
      let q : Private = skipped_to p slot in
      let lt : slot < p.slots = omega (arith, le) in
      let some : 0 < w = All-head (λ word. 0 < word) w ws taken in
      let ne : w ≢ 0 = λ e. omega (arith, e, some) in
      let rest = walks ws (slot + 1) (omega (arith, low)) (omega (arith, le)) (All-tail (λ word. 0 < word) w ws taken) in
      let ends : skipped_to p (slot + 1 + length ws) ≡ skipped_to p (slot + length (w ∷ ws)) = ap (skipped_to p) (omega arith) in
      let one : births_of (next_of q) w ≡ 0 = ap (λ (o : Op). births_of o w) (skipped_next p reg label leaf before from scans slot lt) ∙ ap (λ (b : Bool). if b then 1 else 0) (ne_eqb w 0 ne) in
      let more : births_told (learnt q (Saw w)) (saw_all ws) ≡ 0 = ap (λ (r : Private). births_told r (saw_all ws)) (probe slot w low lt ne) ∙ rest.births in
      record {
        told = ap (λ (r : Private). told r (saw_all ws)) (probe slot w low lt ne) ∙ rest.told ∙ ends;
        learns = sym ends ∙ rest.learns ∙ ap (λ (r : Private). fold took_of r ws) (sym (skipped_further p reg label leaf before from scans slot w low lt ne));
        births = omega (arith, one, more);
      }

  -- all words that were passed
  walked : (words : List ℕ) (slot : ℕ) → from < p.slots → from + length words ≡ slot → slot ≤ p.slots → All (λ word. 0 < word) words → Walks p words (skipped_to p slot)
  walked words slot first every le taken =
      subst (λ (y : Private × ℕ). Walks y.0 words (skipped_to p y.1)) (λ k. (skipped_none p reg label leaf before from scans first k, every k)) (walks words from (omega arith) (omega (arith, every, le)) taken)

  -- what the machine is as the scan goes on
  skipped_names : (slot : ℕ) → NamesSlots p → NamesSlots (skipped_to p slot)
  skipped_names slot names = subst NamesSlots (sym (came_to slot)) names

  skipped_steps : (slot : ℕ) → (skipped_to p slot).steps ≡ p.steps + (slot - from)
  skipped_steps slot = ap (λ (q : Private). q.steps) (came_to slot)

  goes_on : (b : Bool) (slot number : ℕ) (hand : Contents) (phase : phases.Phase) → phase ≡ (if b then at.Scanned reg label leaf before else at.Scanning reg label leaf before slot) → IsBetween phase × (hands_at hand number phase ≡ [])
  goes_on true slot number hand phase is = (subst IsBetween (sym is) tt, ap (hands_at hand number) is)
  goes_on false slot number hand phase is = (subst IsBetween (sym is) tt, ap (hands_at hand number) is)

  skipped_rests : (slot : ℕ) (t : Seated) → IsBetween (skipped_to p slot).phase × (hands t (skipped_to p slot) ≡ [])
  skipped_rests slot t = goes_on (slot == p.slots) slot (skipped_to p slot).number t.hand (skipped_to p slot).phase (ap (λ (q : Private). q.phase) (came_to slot))

pub passed_none : (from : ℕ) (me : Me (Option Contents) View) → me ≡ (Mutates (seated_of me.0), []) → Passed (seated_of me.0) from (from + 0) me
passed_none from me own = record {
  words = [];
  taken = λ k d lt. absurd (omega (arith, lt));
  every = omega arith;
  grows = own ∙ (λ i. (Mutates (record (seated_of me.0) { log = sym (append-nil (seated_of me.0).log) i }), []));
}

pub passed_one : (t : Seated) (from slot word : ℕ) (me me' : Me (Option Contents) View) → Passed t from slot me → word ≢ 0 → me' ≡ (adds me.0 (beats None word), me.1) → Passed t from (slot + 1) me'
passed_one t from slot word me me' passed taken now =
    let ws : List ℕ = passed.words in
    let every = passed.every in
    let many = length-append ws (word ∷ []) in
    let logs : (t.log ++ saw_all ws) ++ Saw word ∷ [] ≡ t.log ++ saw_all (ws ++ word ∷ []) =
    append_assoc t.log (saw_all ws) (Saw word ∷ []) ∙ ap (λ (l : List Beat). t.log ++ l) (sym (map-append (λ (n : ℕ). Saw n) ws (word ∷ []))) in
    record {
      words = ws ++ word ∷ [];
      taken = All-append (λ word. 0 < word) ws (word ∷ []) passed.taken (All-cons (λ word. 0 < word) word [] (omega (arith, taken)) (All-nil (λ word. 0 < word)));
      every = omega (arith, every, many);
      grows = now ∙ (λ k. (adds (passed.grows k).0 (beats None word), (passed.grows k).1)) ∙ (λ k. (Mutates (record t { log = logs k }), []));
    }

pub passed_both : (t : Seated) (from slot to : ℕ) (me me' : Me (Option Contents) View) → Passed t from slot me → Passed (seated_of me.0) slot to me' → Passed t from to me'
passed_both t from slot to me me' one two =
    let bs : List Beat = saw_all one.words in
    let cs : List Beat = saw_all two.words in
    let first = one.every in
    let then_ = two.every in
    let many = length-append one.words two.words in
    let logs : (t.log ++ bs) ++ cs ≡ t.log ++ saw_all (one.words ++ two.words) = append_assoc t.log bs cs ∙ ap (λ (l : List Beat). t.log ++ l) (sym (map-append (λ (n : ℕ). Saw n) one.words two.words)) in
    record {
      words = one.words ++ two.words;
      taken = All-append (λ word. 0 < word) one.words two.words one.taken two.taken;
      every = omega (arith, first, then_, many);
      grows = two.grows ∙ (λ k. (Mutates (longer (seated_of (one.grows k).0) cs), [])) ∙ (λ k. (Mutates (record t { log = logs k }), []));
    }

module _ (key : Core) (count probed slot many : ℕ) (t : Seated) (me : Me (Option Contents) View) (passed : Passed t probed count me) (scan : ScansFrom (told (mutator key t.number) t.log) probed slot many) (lt : count < many) where
  -- the record that its list makes up by then
  q : Private
  q = skipped_to (told (mutator key t.number) t.log) count

  few : count < (told (mutator key t.number) t.log).slots
  few = let all = scan.many in omega (arith, lt, all)

  is_q : q ≡ told (mutator key t.number) (longer t (saw_all passed.words)).log
  unfolding q
  is_q =
      let p : Private = told (mutator key t.number) t.log in
      let there = scan.there in
      let all = scan.many in
      let w : Walks p passed.words q = walked p scan.reg scan.label scan.leaf scan.before probed scan.phase passed.words count (omega (arith, there, all)) passed.every (let le = few in omega (arith, le)) passed.taken in
      sym w.told ∙ sym (told_both (mutator key t.number) t.log (saw_all passed.words))

  -- the slot that it comes to is so many slots further on
  pub comes_to : slot + (count - probed) < many → slot + (count - probed) ≡ probe_of (told (mutator key t.number) t.log) count
  comes_to near =
      let p : Private = told (mutator key t.number) t.log in
      let all : p.slots ≡ many = scan.many in
      let here : slot ≡ probe_of p probed = scan.comes in
      let on : probed + (count - probed) ≡ count = (let every = passed.every in omega (arith, every)) in
      let further : slot_behind p.slots p.from (probed + (count - probed)) ≡ slot_behind p.slots p.from probed + (count - probed) = behind_further p.slots p.from probed (count - probed) (omega (arith, near, all, here)) in
      ap (λ n. n + (count - probed)) here ∙ sym further ∙ ap (slot_behind p.slots p.from) on

  -- or the first one, where all up to the last one were probed
  pub comes_round : slot + (count - probed) ≡ many → 0 ≡ probe_of (told (mutator key t.number) t.log) count
  comes_round ends =
      let p : Private = told (mutator key t.number) t.log in
      let all : p.slots ≡ many = scan.many in
      let here : slot ≡ probe_of p probed = scan.comes in
      let on : probed + (count - probed) ≡ count = (let every = passed.every in omega (arith, every)) in
      sym (behind_wraps p.slots p.from probed (count - probed) (omega (arith, ends, all, here))) ∙ ap (slot_behind p.slots p.from) on

  pub scans_on : (next : ℕ) → next ≡ probe_of (told (mutator key t.number) t.log) count → ScansFrom (told (mutator key (seated_of me.0).number) (seated_of me.0).log) count next many
  unfolding q
  scans_on next its =
      let p : Private = told (mutator key t.number) t.log in
      let is : q ≡ told (mutator key (seated_of me.0).number) (seated_of me.0).log = is_q ∙ sym (λ k. told (mutator key (seated_of (passed.grows k).0).number) (seated_of (passed.grows k).0).log) in
      let came = came_to p scan.reg scan.label scan.leaf scan.before probed scan.phase count in
      subst (λ (r : Private). ScansFrom r count next many) is (record {
        reg = scan.reg;
        label = scan.label;
        leaf = scan.leaf;
        before = scan.before;
        phase = there_phase p scan.reg scan.label scan.leaf scan.before probed scan.phase count few;
        comes = its ∙ sym (ap (λ (r : Private). probe_of r count) came);
        many = ap (λ (r : Private). r.slots) came ∙ scan.many;
        there = lt;
      })

  pub allows_pass : (slots id i : ℕ) (st : Step (Option Contents)) → i ≡ length key.words + probe_of (told (mutator key t.number) t.log) count → Operates key Kind.Passes slots id me i (λ n. n) (PassedBy st me)
  unfolding q
  allows_pass slots id i st at =
      let p : Private = told (mutator key t.number) t.log in
      let header : ℕ = header_word scan.leaf scan.label in
      let plain : IsPlain q.phase = subst IsPlain (sym (there_phase p scan.reg scan.label scan.leaf scan.before probed scan.phase count few)) tt in
      let all = probes key slots id (probe_of p count) header (longer t (saw_all passed.words)) [] q (ops.ClaimHeader (probe_of p count) header) st is_q (skipped_busy p scan.reg scan.label scan.leaf scan.before probed scan.phase count) plain
      (sym (skipped_next p scan.reg scan.label scan.leaf scan.before probed scan.phase count few)) refl in
      subst (λ (y : Me (Option Contents) View × ℕ). Operates key Kind.Passes slots id y.0 y.1 (λ n. n) (PassedBy st y.0)) (λ k. (sym passed.grows k, sym at k)) all

-- At the skip: what the machine and the seat are as the scan ends, or comes to a free header.
pub record Ends (o p r : Private) (t : Seated) (me : Me (Option Contents) View) (words : List ℕ) : Type 0 where
  pub seat : me ≡ (Mutates (seated_of me.0), hands (seated_of me.0) r)
  pub told : r ≡ told o (seated_of me.0).log
  pub names : NamesSlots r
  pub between : IsBetween r.phase
  pub births : births_told o (seated_of me.0).log ≡ births_told o t.log
  pub learns : r ≡ fold took_of p words
  pub steps : r.steps ≡ p.steps + length words

pub ends : (o p r : Private) (t : Seated) (slot count : ℕ) (me : Me (Option Contents) View) → p ≡ told o t.log → (k : Claims p slot) → (passed : Passed t k.probed count me) → k.probed < p.slots → count ≤ p.slots → r ≡ skipped_to p count → NamesSlots p → Ends o p r t me passed.words
ends o p r t slot count me is k passed first few skips names =
    let bs : List Beat = saw_all passed.words in
    let w : Walks p passed.words (skipped_to p count) = walked p k.reg k.label k.leaf k.before k.probed k.phase passed.words count first passed.every few passed.taken in
    let log : (seated_of me.0).log ≡ t.log ++ bs = λ j. (seated_of (passed.grows j).0).log in
    let rests = skipped_rests p k.reg k.label k.leaf k.before k.probed k.phase count (seated_of me.0) in
    let none : [] ≡ hands (seated_of me.0) r = sym (ap (hands (seated_of me.0)) skips ∙ rests.1) in
    let all = births_both o t.log bs in
    let born : births_told (told o t.log) bs ≡ 0 = ap (λ (q : Private). births_told q bs) (sym is) ∙ w.births in
    record {
      seat = passed.grows ∙ (λ j. (Mutates (seated_of (sym passed.grows j).0), none j));
      told = skips ∙ sym w.told ∙ ap (λ (q : Private). told q bs) is ∙ sym (told_both o t.log bs) ∙ ap (told o) (sym log);
      names = subst NamesSlots (sym skips) (skipped_names p k.reg k.label k.leaf k.before k.probed k.phase count names);
      between = subst (λ (q : Private). IsBetween q.phase) (sym skips) rests.0;
      births = ap (births_told o) log ∙ (let e : births_told o (t.log ++ bs) ≡ births_told o t.log = omega (arith, all, born) in e);
      learns = skips ∙ w.learns;
      steps =
          let so : r.steps ≡ p.steps + (count - k.probed) = ap (λ (q : Private). q.steps) skips ∙ skipped_steps p k.reg k.label k.leaf k.before k.probed k.phase count in
          let every = passed.every in
          omega (arith, so, every);
    }

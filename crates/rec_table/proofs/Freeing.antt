-- What a turn frees.
use Rattle.std.proofs.Common.{◌≡◌, ℕ, ◌+◌, ◌≤◌, List, [], ◌∷◌, ◌++◌, length, take, Option, None, Some, refl, sym, ap, ◌∙◌, subst, arith, append_assoc, append-nil, length-append}
use Rattle.std.proofs.Math.Seq.{take-append_seam}
use Rattle.rec_table.proofs.Common.{Core, Op, gathered, gathered_all, CollectorView, collector_now, collecting_more, word_of, Beat, Saw}
use Rattle.rec_word.specs.Header.{IsTakenHeader, label_of}
use Rattle.rec_word.specs.declared.op.Op.TheVariants as ops
use Rattle.rec_collector.specs.Next.{next_of}
use Rattle.rec_collector.specs.Followed.{Next, worked}
use Rattle.rec_collector.specs.Given.{IsLooped}
use Rattle.rec_collector.specs.Private.{Private, parts_of, with_parts}
use Rattle.rec_collector.specs.Took.{came, ended_if, moved, took_at, took_of}
use Rattle.rec_collector.specs.declared.phase.Phase.{Phase}
use Rattle.rec_collector.specs.declared.phase.Phase.TheVariants.{Closing, Freeing, Trying, Preparing, Sweeping}
use Rattle.rec_collector.specs.declared.turn.Turn.{Turn}
use Rattle.rec_core.proofs.Freed.{frees_while_sweeping}
use Rattle.rec_core.proofs.Turning.{some_op}
use mathlib.Core.List.{IsPrefix}
use Rattle.rec_notice.specs.Telling.{as_list, told}
use Rattle.rec_notice.specs.declared.teller.Teller.{Teller}
use Rattle.rec_table.specs.Telling.{Frees, IsFreeOp, TellsTurn, TellsTurns, freed_by, freed_by_all, freed_labels}
use Rattle.rec_table.specs.Turn.{MakesTurn}
use Rattle.rec_table.specs.TurnRuns.{FreesBySweeps}

-- the operation frees this slot
abbrev FreesSlot : Op → Type 0
FreesSlot op = (slot : ℕ) × (op ≡ ops.FreeHeader slot)

pub frees_slot : (op : Op) → IsFreeOp op → FreesSlot op
frees_slot (ops.FreeHeader slot) frees = (slot, refl)
frees_slot _ frees = absurd frees

-- and so it looks at no mailbox
pub looks_none : (op : Op) → IsFreeOp op → (t epoch : ℕ) → op ≡ ops.LookBox t epoch → ⊥
looks_none op frees t epoch is = subst IsFreeOp is frees

-- no other operation is one that frees a slot
pub frees_none : (op : Op) (next : Option Op) → ◌≡◌ {A = Option Op} next (Some op) → (IsFreeOp op → ⊥) → (slot : ℕ) → ◌≡◌ {A = Option Op} next (Some (ops.FreeHeader slot)) → ⊥
frees_none op next named other slot is = other (subst IsFreeOp (sym (some_op op (ops.FreeHeader slot) (sym named ∙ is))) tt)

-- such an operation frees no label
pub freed_others : (op : Op) (word : ℕ) → (IsFreeOp op → ⊥) → freed_by (Some op) word ≡ []
freed_others (ops.FreeHeader slot) word other = absurd (other tt)
freed_others _ word other = refl

-- the label of the taken header that a turn found, where it frees a slot, is what it frees
pub frees_found : (g g' : CollectorView) (op : Op) (word : ℕ) (label : Option ℕ) → ◌≡◌ {A = Option Op} (next_of (collector_now g)) (Some op) → g'.collecting ≡ collecting_more g.collecting (Saw word) → (IsFreeOp op → IsTakenHeader word) → as_list label ≡ freed_by (Some op) word → Frees g g' label
frees_found g g' (ops.FreeHeader slot) word None named more taken is = absurd (cc)
frees_found g g' (ops.FreeHeader slot) word (Some label) named more taken is =
    let same : label ≡ label_of word = cc (is) in
    subst (λ (l : ℕ). Frees g g' (Some l)) (sym same) (Frees.slot slot word named more (taken tt))
frees_found g g' op word None named more taken is = Frees.none (frees_none op (next_of (collector_now g)) named (λ frees. frees))
frees_found g g' op word (Some label) named more taken is = absurd (cc)

-- a list of one beat more
freed_more : (p : Private) (log : List Beat) (b : Beat) → freed_by_all p (log ++ b ∷ []) ≡ freed_by_all p log ++ freed_by (next_of (gathered_all p log)) (word_of b)
freed_more p [] b = append-nil (freed_by (next_of p) (word_of b))
freed_more p (x ∷ log) b =
    ap (λ l. freed_by (next_of p) (word_of x) ++ l) (freed_more (gathered p x) log b)
    ∙ sym (append_assoc (freed_by (next_of p) (word_of x)) (freed_by_all (gathered p x) log) (freed_by (next_of (gathered_all (gathered p x) log)) (word_of b)))

-- the list of a turn's beats is one longer
pub labels_more : (g g' : CollectorView) (answer : Turn) (b : Beat) → MakesTurn g g' answer → g'.collecting ≡ collecting_more g.collecting b → freed_labels g' ≡ freed_labels g ++ freed_by (next_of (collector_now g)) (word_of b)
labels_more g g' answer b turn more =
    (λ k. freed_by_all ((turn.same k).opened) (more k).log) ∙ freed_more g.opened g.collecting.log b

-- what was freed since the start grows by what the turn frees
labels_after : (g g' : CollectorView) (answer : Turn) (label : Option ℕ) → MakesTurn g g' answer → Frees g g' label → freed_labels g' ≡ freed_labels g ++ as_list label
labels_after g g' answer label turn (Frees.slot slot word named more header) =
    labels_more g g' answer (Saw word) turn more ∙ ap (λ (o : Option Op). freed_labels g ++ freed_by o word) named
labels_after g g' answer label turn (Frees.none none) = by (next_of (collector_now g)) refl
  where
    by : (next : Option Op) → ◌≡◌ {A = Option Op} (next_of (collector_now g)) next → freed_labels g' ≡ freed_labels g ++ []
    by None named = ap freed_labels (turn.spent named).0 ∙ sym (append-nil (freed_labels g))
    by (Some op) named =
        let (b, grows, now, is) = turn.turned op named in
        labels_more g g' answer b turn (ap (λ (x : CollectorView). x.collecting) grows)
        ∙ ap (λ (o : Option Op). freed_labels g ++ freed_by o (word_of b)) named
        ∙ ap (λ l. freed_labels g ++ l) (freed_others op (word_of b) (λ frees. let s = frees_slot op frees in none s.0 (named ∙ ap (λ (o : Op). Some o) s.1)))

pub tells_turn : (g g' : CollectorView) (answer : Turn) (label : Option ℕ) (was now : List ℕ) → MakesTurn g g' answer → Frees g g' label → now ≡ was ++ as_list label → TellsTurn g g' was now
tells_turn g g' answer label was now turn frees told = record {
  label = label;
  freed = frees;
  told = told;
  all = labels_after g g' answer label turn frees;
}

-- A teller that keeps no label any more has sent all that it was told before.
pub sent_before : {T : Type 0} (sent : T → List ℕ) (old now : Teller T) → now.kept ≡ None → told sent now ≡ told sent old → IsPrefix (told sent old) (sent now.tube)
sent_before sent old now none same =
    ([], append-nil (told sent old) ∙ sym same ∙ ap (λ o. sent now.tube ++ as_list o) none ∙ append-nil (sent now.tube))

-- So has one that is told one label more.
pub sent_then : {T : Type 0} (sent : T → List ℕ) (old mid now : Teller T) (label : ℕ) → told sent mid ≡ told sent old → told sent now ≡ told sent mid ++ label ∷ [] → IsPrefix (told sent old) (sent now.tube)
sent_then sent old mid now label same more = by now.kept (more ∙ ap (λ l. l ++ label ∷ []) same)
  where
    by : (kept : Option ℕ) → sent now.tube ++ as_list kept ≡ told sent old ++ label ∷ [] → IsPrefix (told sent old) (sent now.tube)
    by None is = (label ∷ [], sym is ∙ append-nil (sent now.tube))
    by (Some other) is =
        let many : length (sent now.tube) ≡ length (told sent old) = omega (arith, ap length is, length-append (sent now.tube) (other ∷ []), length-append (told sent old) (label ∷ [])) in
        ([], append-nil (told sent old) ∙ sym (take-append_seam (told sent old) (label ∷ [])) ∙ ap (take (length (told sent old))) (sym is) ∙ ap (λ n. take n (sent now.tube ++ other ∷ [])) (sym many) ∙ take-append_seam (sent now.tube) (other ∷ []))

-- a collection that comes to an end sweeps nothing by that
ended_sweeps : (phase : Phase) (p : Private) → (ended_if phase p).freed ≡ p.freed
ended_sweeps (Closing swept) p = refl
ended_sweeps _ p = refl

came_sweeps : (p : Private) (n : Next) → (came p n).freed ≡ p.freed
came_sweeps p n = ended_sweeps n.phase (moved (with_parts p n.parts) n.phase)

-- no turn of a loop sweeps fewer slots
loop_sweeps : (p : Private) (word : ℕ) → IsLooped p.phase → p.freed ≤ (took_of p word).freed
unfolding took_of took_at
loop_sweeps p word l = go p.phase l
  where
    go : (phase : Phase) → IsLooped phase → p.freed ≤ (took_at p word phase).freed
    go (Freeing m) l = omega (arith, came_sweeps p (worked (parts_of p) word (Freeing m)))
    go (Trying m) l = omega (arith, came_sweeps p (worked (parts_of p) word (Trying m)))
    go (Preparing m) l = omega (arith, came_sweeps p (worked (parts_of p) word (Preparing m)))
    go (Sweeping due n) l = omega arith
    go _ l = absurd l

-- and a turn that frees a slot sweeps it
free_sweeps : (key : Core) (p : Private) (word : ℕ) (op : Op) → ◌≡◌ {A = Option Op} (next_of p) (Some op) → IsFreeOp op → (took_of p word).freed ≡ p.freed + 1
unfolding took_of took_at
free_sweeps key p word op named frees =
    let s = frees_slot op frees in
    let (due, n, is) = frees_while_sweeping (record key { collector = p }) s.0 (named ∙ ap (λ (o : Op). Some o) s.1) in
    ap (λ (phase : Phase). (took_at p word phase).freed) is

pub frees_on : (key : Core) (first u v : CollectorView) (answer : Turn) (p : Private) (op : Op) (word : ℕ) → FreesBySweeps first u → MakesTurn u v answer → v.collecting ≡ collecting_more u.collecting (Saw word) → p ≡ collector_now u → took_of p word ≡ collector_now v → IsLooped p.phase → ◌≡◌ {A = Option Op} (next_of p) (Some op) → FreesBySweeps first v
frees_on key first u v answer p op word frees turn more is now l named =
    let was : p.freed ≡ (collector_now u).freed = ap (λ (x : Private). x.freed) is in
    let then : (took_of p word).freed ≡ (collector_now v).freed = ap (λ (x : Private). x.freed) now in
    let grows : p.freed ≤ (took_of p word).freed = loop_sweeps p word l in
    record {
      grows = omega (arith, frees.grows, was, then, grows);
      none = λ same.
          let stays : (collector_now u).freed ≡ (collector_now first).freed = omega (arith, frees.grows, was, then, grows, same) in
          let other : IsFreeOp op → ⊥ = λ f. absurd (omega (arith, free_sweeps key p word op named f, frees.grows, was, then, same)) in
          labels_more u v answer (Saw word) turn more
          ∙ ap (λ (o : Option Op). freed_labels u ++ freed_by o word) (ap next_of (sym is) ∙ named)
          ∙ ap (λ ls. freed_labels u ++ ls) (freed_others op word other)
          ∙ append-nil (freed_labels u)
          ∙ frees.none stays;
    }

-- no turn tells nothing
pub tells_none : (g : CollectorView) (was : List ℕ) → TellsTurns g g was was
tells_none g was = record { labels = []; told = sym (append-nil was); all = sym (append-nil (freed_labels g)) }

-- and one more tells what it frees
pub tells_more : (a b c : CollectorView) (was mid now : List ℕ) → TellsTurns a b was mid → TellsTurn b c mid now → TellsTurns a c was now
tells_more a b c was mid now some one = record {
  labels = some.labels ++ as_list one.label;
  told = one.told ∙ ap (λ l. l ++ as_list one.label) some.told ∙ append_assoc was some.labels (as_list one.label);
  all = one.all ∙ ap (λ l. l ++ as_list one.label) some.all ∙ append_assoc (freed_labels a) some.labels (as_list one.label);
}

-- turns behind others
pub tells_both : (a b c : CollectorView) (was mid now : List ℕ) → TellsTurns a b was mid → TellsTurns b c mid now → TellsTurns a c was now
tells_both a b c was mid now some others = record {
  labels = some.labels ++ others.labels;
  told = others.told ∙ ap (λ l. l ++ others.labels) some.told ∙ append_assoc was some.labels others.labels;
  all = others.all ∙ ap (λ l. l ++ others.labels) some.all ∙ append_assoc (freed_labels a) some.labels others.labels;
}

-- what was told before all turns is sent, where what was told before the last one is
pub sent_first : (a b : CollectorView) (was mid sent : List ℕ) → TellsTurns a b was mid → IsPrefix mid sent → IsPrefix was sent
sent_first a b was mid sent some begins = (some.labels ++ begins.0, sym (append_assoc was some.labels begins.0) ∙ ap (λ l. l ++ begins.0) (sym some.told) ∙ begins.1)

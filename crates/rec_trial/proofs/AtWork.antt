-- A trial at work, from word to word: what it names, and that it stays one.
use Rattle.std.proofs.Common.{◌≡◌, ℕ, ◌^◌, ◌<◌, true, None, Some, IsSome, List, [], ◌∷◌, ◌++◌, length, get_or, refl, sym, ap, subst, ◌∙◌, arith}
use Rattle.std.specs.List.{concat}
use Rattle.std.proofs.lemmas.List.{length-append}
use Rattle.std.proofs.lemmas.List.Sums.{fold-append}
use Rattle.std.proofs.lemmas.Bool.{false≢true}
use Rattle.rec_trial.proofs.Common.{target_of, State, IsKept, members_once, Phase, Idle, Marking, Scanning, Collecting, Run, IsAtWork, noted, begun, run_of, IsReady, LeadsToVisible, AllLeadToVisible, Machine, Work, NamesPlace, next_of, is_due_at, took_of, started_of}
use Rattle.rec_word.specs.Place.{place_of}
use Rattle.rec_word.specs.declared.op.Op.TheVariants.{LoadChild}
use Rattle.rec_word.proofs.FieldPlaces.{place_within}
use Rattle.rec_counts.specs.Groups.{last_set, earlier_sets}
use Rattle.rec_counts.proofs.Times.{length-once}
use Rattle.rec_trial.proofs.Course.{alive_range, first_view, due_seen, green_same, released_same}
use Rattle.rec_trial.proofs.Deletion.{Deletion, Loads, due_at, queue_at}
use Rattle.rec_trial.proofs.Holding.{inv_at}
use Rattle.rec_trial.proofs.Midway.{at_work_told, at_work_course, at_work_due}
use Rattle.rec_trial.proofs.Places.{ltb_yes}
use Rattle.rec_trial.proofs.Runs.{Told, node_seen, begun_told, noted_work, seen_in, still_visible, told_next}
use Rattle.rec_trial.proofs.Totals.{times, times_here}
use Rattle.rec_trial.proofs.Views.{view, concat_last}

-- the field that is due is one of a marked slot
due_within : (o s : Deletion) (ls : Loads) (p : Phase) → (p ≡ Idle → ⊥) → inv_at p o s ls → due_at p s ≡ true → (0 < times (get_or (queue_at p s) s.at 0) s.marked) × ((x : ℕ) → s.released x ≡ true → times x s.marked ≡ 0) × (s.field < s.fields)
due_within o s ls Idle n i d = absurd (n refl)
due_within o s ls Marking n i d = (times_here s.marked s.at (ltb_yes s.at (length s.marked) d), i.alive, i.place.below)
due_within o s ls Scanning n i d = (omega (arith, i.parts (get_or s.work s.at 0), times_here s.work s.at (ltb_yes s.at (length s.work) d)), i.alive, i.place.below)
due_within o s ls Collecting n i d = (omega (arith, i.parts (get_or s.members s.at 0), times_here s.members s.at (ltb_yes s.at (length s.members) d)), i.alive, i.place.below)

-- the field that is due is the one that comes next
pub named_place : (m : Machine) (p : Phase) (place : ℕ) → m.phase ≡ p → next_of m ≡ Some (LoadChild place) → (p ≡ Idle → ⊥) × (place ≡ place_of m.slot m.field m.fields)
unfolding next_of
named_place m Idle place e h = absurd (none place (rw e at h))
  where
    none : (place : ℕ) → None ≡ Some (LoadChild place) → ⊥
    none place h = cc
named_place m Marking place e h = let k : Some (LoadChild (place_of m.slot m.field m.fields)) ≡ Some (LoadChild place) = rw e at h in (λ q. cc, cc)
named_place m _ place e h = let k : Some (LoadChild (place_of m.slot m.field m.fields)) ≡ Some (LoadChild place) = rw e at h in (λ q. cc, cc)

pub told_place : {fields : ℕ} {before : State} (r : Run) → Told fields before r → NamesPlace (length r.work.counts.slots) r.work.machine
told_place {fields} {before} r t place h =
    let p : Phase = r.work.machine.phase in
    let k = named_place r.work.machine p place refl h in
    let d = due_within (first_view fields before) (view r.work) (seen_in r) p k.0 t.course.inv (sym (due_seen r.work p) ∙ t.due) in
    let x : ℕ = get_or (queue_at p (view r.work)) (view r.work).at 0 in
    let slot : r.work.machine.slot < length r.work.counts.slots = subst (λ n. n < length r.work.counts.slots) (sym (t.node ∙ node_seen r.work p)) (alive_range r.work.counts x (d.1 x) d.0) in
    rw k.1 (place_within (length r.work.counts.slots) r.work.machine.fields r.work.machine.slot r.work.machine.field slot d.2)

pub at_work_place : (m : Machine) (s : State) → IsAtWork m s → NamesPlace (length s.slots) m
at_work_place m s a = subst (λ (w : Work). NamesPlace (length w.counts.slots) w.machine) (sym a.is) (told_place (run_of m.fields a.before a.words) (at_work_told m s a))

-- as many slots as at first
at_work_slots : (m : Machine) (s : State) (a : IsAtWork m s) → length s.slots ≡ length a.before.slots
at_work_slots m s a = (at_work_course m s a).rest.slots

-- a list at work is small
pub small_done : (m : Machine) (s : State) → IsKept s → IsAtWork m s → IsSome (next_of m) → m.done < 2 ^ 16
unfolding next_of
small_done m s k a b = go m.phase refl (at_work_due m s a)
  where
    go : (p : Phase) → m.phase ≡ p → is_due_at p m.done s ≡ true → m.done < 2 ^ 16
    go Idle e d = absurd (false≢true (rw e at b))
    go Marking e d = omega (arith, ltb_yes m.done (length s.marked) d, length-once (length s.slots) s.marked k.marked_once, k.few_slots)
    go Scanning e d = omega (arith, ltb_yes m.done (length s.work) d, length-once (length s.slots) s.work k.work_once, k.few_slots)
    go Collecting e d = omega (arith, ltb_yes m.done (length (last_set s.sets)) d, length-once (length s.slots) (concat s.sets) (members_once k), ap length (concat_last s.sets), length-append (concat (earlier_sets s.sets)) (last_set s.sets), k.few_slots)

pub run_none : (fields : ℕ) (before : State) → (run_of fields before []).work ≡ started_of fields before
unfolding run_of
run_none fields before = refl

-- a trial that began
pub started_at_work : (fields : ℕ) (before : State) (m : Machine) (s : State) → 0 < fields → IsKept before → IsReady before → ◌≡◌ {A = Work} (record { machine = m; counts = s }) (started_of fields before) → IsAtWork m s
started_at_work fields before m s f k r e =
    let t : Told fields before (begun fields before) = begun_told fields before f r in
    let q : m.fields ≡ fields = ap (λ (w : Work). w.machine.fields) e ∙ t.course.same.fields in
    record { wide = rw q f; before = before; words = []; kept = k; ready = r; named = tt; is = e ∙ sym (run_none fields before) ∙ ap (λ n. (run_of n before []).work) (sym q) }

pub started_fields : (fields : ℕ) (before : State) → 0 < fields → IsReady before → (started_of fields before).machine.fields ≡ fields
started_fields fields before f r = (begun_told fields before f r).course.same.fields

pub started_slots : (fields : ℕ) (before : State) (m : Machine) (s : State) → 0 < fields → IsReady before → ◌≡◌ {A = Work} (record { machine = m; counts = s }) (started_of fields before) → length s.slots ≡ length before.slots
started_slots fields before m s f r e = ap (λ (w : Work). length w.counts.slots) e ∙ (begun_told fields before f r).course.rest.slots

-- a trial that learnt a word
pub run_more : (fields : ℕ) (before : State) (words : List ℕ) (word : ℕ) → run_of fields before (words ++ word ∷ []) ≡ noted (run_of fields before words) word
unfolding run_of
run_more fields before words word = fold-append noted (begun fields before) words (word ∷ [])

pub all_lead_more : (s : State) (words : List ℕ) (word : ℕ) → AllLeadToVisible s words → LeadsToVisible s word → AllLeadToVisible s (words ++ word ∷ [])
all_lead_more s [] word a l = (l, tt)
all_lead_more s (w ∷ words) word a l = (a.0, all_lead_more s words word a.1 l)

-- the counts of fields stay
pub took_fields : (m : Machine) (s : State) (a : IsAtWork m s) (word : ℕ) → LeadsToVisible s word → (took_of (record { machine = m; counts = s }) word).machine.fields ≡ m.fields
took_fields m s a word l =
    let r : Run = run_of m.fields a.before a.words in
    let e : took_of (record { machine = m; counts = s }) word ≡ (noted r word).work = ap (λ (w : Work). took_of w word) a.is ∙ sym (noted_work r word) in
    let lead : LeadsToVisible r.work.counts word = subst (λ (w : Work). LeadsToVisible w.counts word) a.is l in
    ap (λ (w : Work). w.machine.fields) e ∙ (told_next r (at_work_told m s a) word lead).course.same.fields

pub took_at_work : (m : Machine) (s : State) (a : IsAtWork m s) (word : ℕ) → LeadsToVisible s word → (n : Machine) (u : State) → ◌≡◌ {A = Work} (record { machine = n; counts = u }) (took_of (record { machine = m; counts = s }) word) → IsAtWork n u
took_at_work m s a word l n u e =
    let r : Run = run_of m.fields a.before a.words in
    let q : n.fields ≡ m.fields = ap (λ (w : Work). w.machine.fields) e ∙ took_fields m s a word l in
    let first : LeadsToVisible a.before word = still_visible a.before s (target_of word) (λ x. sym (released_same (record { machine = m; counts = s }) (at_work_course m s a) x)) (λ x. sym (green_same (record { machine = m; counts = s }) (at_work_course m s a) x)) l in
    record {
      wide = rw q a.wide;
      before = a.before;
      words = a.words ++ word ∷ [];
      kept = a.kept;
      ready = a.ready;
      named = all_lead_more a.before a.words word a.named first;
      is = e ∙ ap (λ (w : Work). took_of w word) a.is ∙ sym (noted_work r word) ∙ ap (λ (v : Run). v.work) (sym (run_more m.fields a.before a.words word)) ∙ ap (λ n. (run_of n a.before (a.words ++ word ∷ [])).work) (sym q);
    }

-- it began on the same counts, and learnt one word more
pub took_before : (m : Machine) (s : State) (a : IsAtWork m s) (word : ℕ) (l : LeadsToVisible s word) (n : Machine) (u : State) (e : ◌≡◌ {A = Work} (record { machine = n; counts = u }) (took_of (record { machine = m; counts = s }) word)) → (took_at_work m s a word l n u e).before ≡ a.before
unfolding took_at_work
took_before m s a word l n u e = refl

pub took_words : (m : Machine) (s : State) (a : IsAtWork m s) (word : ℕ) (l : LeadsToVisible s word) (n : Machine) (u : State) (e : ◌≡◌ {A = Work} (record { machine = n; counts = u }) (took_of (record { machine = m; counts = s }) word)) → (took_at_work m s a word l n u e).words ≡ a.words ++ word ∷ []
unfolding took_at_work
took_words m s a word l n u e = refl

pub took_slots : (m : Machine) (s : State) (a : IsAtWork m s) (word : ℕ) → LeadsToVisible s word → (n : Machine) (u : State) → ◌≡◌ {A = Work} (record { machine = n; counts = u }) (took_of (record { machine = m; counts = s }) word) → length u.slots ≡ length s.slots
unfolding took_at_work
took_slots m s a word l n u e = at_work_slots n u (took_at_work m s a word l n u e) ∙ sym (at_work_slots m s a)

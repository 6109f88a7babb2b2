-- The labels that a collector frees are those of the objects that the legal order frees.
use Rattle.std.proofs.Common.{◌≡◌, ◌≢◌, ℕ, zero, suc, ◌+◌, ◌-◌, ◌<◌, ◌≤◌, Bool, true, false, cond, eqb, not, ◌&&◌, List, [], ◌∷◌, ◌++◌, length, map, get_or, set, Option, None, Some, refl, sym, ap, ◌∙◌, subst, arith, append-nil, append_assoc, get_or-set_same, get_or-set_other}
use mathlib.Core.Logic.{dite}
use native.Mathlib.Decide.{ℕ_discrete}
use Rattle.std.specs.List.{filter_map}
use Rattle.std.proofs.lemmas.Grind.{flat_map-append}
use Rattle.std.proofs.lemmas.List.{get_or_append_left, get_or_push, length_push, length-set, map-append}
use Rattle.rec_table.proofs.Common.{Op, Core, box, cells_of, cell, mutator, sight, IsKept, Move, after_move, after_moves, stepped, AllFit, move_kept, fit_first, other_gives, boxes_at, boxes_out, Offerless, beats_in, beats_of, looked, turn_at, gathered, gathered_all, word_of, Beat, Saw, Took, Fits}
use Rattle.rec_word.specs.Header.{label_of, IsHeaderOf}
use Rattle.rec_word.specs.Mailbox.{crossing_word}
use Rattle.rec_word.specs.declared.mailbox.Mailbox.TheVariants.{Retired}
use Rattle.rec_word.specs.declared.op.Op.TheVariants as ops
use Rattle.rec_model.specs.Asking.{asks, is_done, got, put, put_to, bear, leave}
use Rattle.rec_model.specs.Heap.{Heap, Object, Field, object, nothing, register, born, with_field, with_object}
use Rattle.rec_model.specs.LegalOrder.{Event, Limits, Line, Moment, after, after_all, line_by}
use Rattle.rec_model.specs.Sight.{StandsBy, IsTaken}
use Rattle.rec_model.specs.Unfreed.{AreUnfreed}
use Rattle.rec_model.specs.declared.command.Cmd.{Cmd}
use Rattle.rec_model.specs.declared.command.Cmd.TheVariants as commands
use Rattle.rec_mutator.specs.Private.{work_of, answer_of}
use Rattle.rec_mutator.specs.declared.made.Made.{Made}
use Rattle.rec_mutator.specs.declared.made.Made.TheVariants as makes
use Rattle.rec_mutator.specs.declared.phase.Phase as phases
use Rattle.rec_mutator.specs.declared.phase.Phase.TheVariants as at
use Rattle.rec_mutator.specs.declared.work.Work.{Work}
use Rattle.rec_mutator.specs.declared.work.Work.TheVariants as works
use Rattle.rec_collector.specs.Next.{next_of}
use Rattle.rec_collector.specs.Private.{Private}
use Rattle.rec_collector.specs.declared.phase.Phase.{Phase}
use Rattle.rec_collector.specs.declared.phase.Phase.TheVariants.{Looking, Returning}
use Rattle.rec_core.specs.Run.{by_actor, over}
use Rattle.rec_core.specs.RunAnswers.{answered_by, told_by, told_in_all}
use Rattle.rec_core.specs.Worked.{AreIdle}
use Rattle.rec_core.proofs.BareRuns.{turned_sweeps}
use Rattle.rec_order.specs.Events.{events_in, events_of, swept_by}
use Rattle.rec_order.specs.Legal.{AreJournals, limits_of, moment_of}
use Rattle.rec_order.specs.Naming.{Naming, named_after, named_after_all, naming_of}
use Rattle.rec_order.proofs.Legal.{run_legal}
use Rattle.rec_table.proofs.Collects.{collected_in}
use Rattle.rec_table.proofs.Turns.{freed_taken, returns_op}
use Rattle.rec_table.specs.Named.{NameFreed, freed_in, freed_objects, label_in}
use Rattle.rec_table.specs.Telling.{freed_by, freed_by_all}

-- The heap that never frees keeps each label.
record KeepsLabels (before after : Heap) : Type 0 where
  pub grows : length before.objects ≤ length after.objects
  pub same : (n : ℕ) → n < length before.objects → label_in after n ≡ label_in before n

keeps_all : (before after : Heap) → after.objects ≡ before.objects → KeepsLabels before after
keeps_all before after same = record {
  grows = let longer : length after.objects ≡ length before.objects = ap length same in omega (arith, longer);
  same = λ n within. ap (λ (xs : List Object). (get_or xs n nothing).label) same;
}

keeps_both : (a b c : Heap) → KeepsLabels a b → KeepsLabels b c → KeepsLabels a c
keeps_both a b c first second = record {
  grows = omega (arith, first.grows, second.grows);
  same = λ n within. second.same n (omega (arith, within, first.grows)) ∙ first.same n within;
}

keeps_field : (heap : Heap) (n f : ℕ) (x : Field) → KeepsLabels heap (with_field heap n f x)
keeps_field heap n f x =
    let changed : Object = record (object heap n) { fields = set (object heap n).fields f x } in
    record {
      grows = let same : length (set heap.objects n changed) ≡ length heap.objects = length-set heap.objects n changed in omega (arith, same);
      same = λ k within. dite (ℕ_discrete k n)
          (λ (e : k ≡ n). ap (λ i. (get_or (set heap.objects n changed) i nothing).label) e
          ∙ ap (λ (o : Object). o.label) (get_or-set_same heap.objects n changed nothing (subst (λ i. i < length heap.objects) e within))
          ∙ ap (λ i. (object heap i).label) (sym e))
          (λ (ne : k ≢ n). ap (λ (o : Object). o.label) (get_or-set_other heap.objects n k changed nothing ne));
    }

keeps_object : (heap : Heap) (x : Object) → KeepsLabels heap (with_object heap x)
keeps_object heap x = record {
  grows = let longer = length_push heap.objects x in omega (arith, longer);
  same = λ n within. ap (λ (o : Object). o.label) (get_or_append_left heap.objects (x ∷ []) nothing n within);
}

keeps_got : (heap : Heap) (t dst f : ℕ) (x : Option ℕ) → KeepsLabels heap (got heap t dst f x).heap
keeps_got heap t dst f None = keeps_all heap heap refl
keeps_got heap t dst f (Some n) = keeps_all heap (got heap t dst f (Some n)).heap refl

keeps_put_to : (heap : Heap) (n f : ℕ) (val : Option ℕ) (left : ℕ) (made : Bool) → KeepsLabels heap (put_to heap n f val left made).heap
keeps_put_to heap n f val left true = keeps_field heap n f (record { target = val; word = left })
keeps_put_to heap n f val left false = keeps_all heap heap refl

keeps_put : (heap : Heap) (f : ℕ) (val : Option ℕ) (made : Bool) (left : ℕ) (x : Option ℕ) → KeepsLabels heap (put heap f val made left x).heap
keeps_put heap f val made left None = keeps_all heap heap refl
keeps_put heap f val made left (Some n) = keeps_put_to heap n f val left (made && not (object heap n).leaf)

keeps_bear : (fields : ℕ) (heap : Heap) (t reg label : ℕ) (leaf made : Bool) → KeepsLabels heap (bear fields heap t reg label leaf made).heap
keeps_bear fields heap t reg label leaf true =
    keeps_both heap (with_object heap (born leaf fields label)) (bear fields heap t reg label leaf true).heap (keeps_object heap (born leaf fields label)) (keeps_all (with_object heap (born leaf fields label)) (bear fields heap t reg label leaf true).heap refl)
keeps_bear fields heap t reg label leaf false = keeps_all heap heap refl

keeps_leave : (heap : Heap) (t : ℕ) (made : Bool) → KeepsLabels heap (leave heap t made).heap
keeps_leave heap t true = keeps_all heap (leave heap t true).heap refl
keeps_leave heap t false = keeps_all heap heap refl

keeps_asks : (fields : ℕ) (heap : Heap) (t : ℕ) (cmd : Cmd) (made : Bool) (left : ℕ) → KeepsLabels heap (asks fields heap t cmd made left).heap
keeps_asks fields heap t (commands.New reg label) made left = keeps_bear fields heap t reg label false made
keeps_asks fields heap t (commands.Leaf reg label) made left = keeps_bear fields heap t reg label true made
keeps_asks fields heap t (commands.Null reg) made left = keeps_all heap (asks fields heap t (commands.Null reg) made left).heap refl
keeps_asks fields heap t (commands.Copy dst src) made left = keeps_all heap (asks fields heap t (commands.Copy dst src) made left).heap refl
keeps_asks fields heap t (commands.Get dst src f) made left = keeps_got heap t dst f (register heap.registers t src)
keeps_asks fields heap t (commands.Put src f val) made left = keeps_put heap f (register heap.registers t val) made left (register heap.registers t src)
keeps_asks fields heap t (commands.Value reg) made left = keeps_all heap heap refl
keeps_asks fields heap t (commands.Same a b) made left = keeps_all heap heap refl
keeps_asks fields heap t commands.Park made left = keeps_all heap heap refl
keeps_asks fields heap t commands.Unpark made left = keeps_all heap heap refl
keeps_asks fields heap t commands.Leave made left = keeps_leave heap t made

keeps_event : (limits : Limits) (m : Moment) (e : Event) → KeepsLabels m.heap (after limits m e).heap
keeps_event limits m (Event.Answers t line) = keeps_asks limits.fields m.heap t line.0 (is_done line.1.answer) line.1.left
keeps_event limits m (Event.Frees n) = keeps_all m.heap m.heap refl
keeps_event limits m Event.Marks = keeps_all m.heap m.heap refl

keeps_events : (limits : Limits) (m : Moment) (es : List Event) → KeepsLabels m.heap (after_all limits m es).heap
keeps_events limits m [] = keeps_all m.heap m.heap refl
keeps_events limits m (e ∷ es) =
    keeps_both m.heap (after limits m e).heap (after_all limits (after limits m e) es).heap (keeps_event limits m e) (keeps_events limits (after limits m e) es)

after_both : (limits : Limits) (m : Moment) (es ds : List Event) → after_all limits m (es ++ ds) ≡ after_all limits (after_all limits m es) ds
after_both limits m [] ds = refl
after_both limits m (e ∷ es) ds = after_both limits (after limits m e) es ds

-- the labels that an operation of the collector frees in this world, and those that a move frees
abbrev labels_at : Core → Option Op → List ℕ
labels_at w None = []
labels_at w (Some op) = freed_by (Some op) (cell (cells_of w) op)

abbrev labels_in : Core → Move → List ℕ
labels_in w Move.Turns = labels_at w (next_of w.collector)
labels_in w _ = []

-- an answer frees nothing
none_answered : (t : ℕ) (work : Option Work) (made : Option Made) → freed_objects (answered_by t work made) ≡ []
none_answered t (Some (works.Command cmd)) (Some (makes.Answered told)) = refl
none_answered t _ _ = refl

none_told : (t : ℕ) (phase : phases.Phase) (work : Option Work) (made : Option Made) → freed_objects (told_by t phase work made) ≡ []
none_told t at.Leaving work made = refl
none_told t at.Parting work made = refl
none_told t _ work made = none_answered t work made

-- what a move frees is named by the heap that stands for the world, and by each later one
module _ (w : Core) (n : Naming) (now last : Heap) (kept : IsKept false w) (stands : StandsBy now (sight w) n.number) (keeps : KeepsLabels now last) where
  names_at : (next : Option Op) → ◌≡◌ {A = Option Op} (next_of w.collector) next → labels_at w next ≡ map (label_in last) (freed_objects (swept_by n next))
  names_at (Some (ops.FreeHeader slot)) is =
      let taken : IsTaken (sight w) slot = (freed_taken w slot (turned_sweeps w kept) is).1 in
      let header : IsHeaderOf (object now (n.number slot)).leaf (object now (n.number slot)).label (get_or w.headers slot 0) = stands.header slot taken in
      let here : label_of (get_or w.headers slot 0) ≡ label_in now (n.number slot) = omega (arith, header.label) in
      ap (λ l. l ∷ []) (here ∙ sym (keeps.same (n.number slot) (stands.there slot taken)))
  names_at (Some ops.AddFreed) is = refl
  names_at _ is = refl

  names_in : (m : Move) → labels_in w m ≡ map (label_in last) (freed_objects (events_in n w m))
  names_in Move.Turns = names_at (next_of w.collector) refl
  names_in (Move.Steps t) = ap (map (label_in last)) (sym (none_told t (mutator w t).phase (work_of (mutator w t)) (answer_of (mutator (stepped w t) t))))
  names_in (Move.Begins t work from) = refl
  names_in Move.Offers = refl

-- the heap stands for the world before each move
abbrev StandsAlong : (limits : Limits) (w : Core) (n : Naming) (m : Moment) (ms : List Move) → Type 0
StandsAlong limits w n m ms = (q r : List Move) → q ++ r ≡ ms → StandsBy (after_all limits m (events_of n w q)).heap (sight (after_moves w q)) (named_after_all n w q).number

names_all : (limits : Limits) (w : Core) (n : Naming) (m : Moment) (ms : List Move) → IsKept false w → AllFit w ms → StandsAlong limits w n m ms
    → over labels_in w ms ≡ map (label_in (after_all limits m (events_of n w ms)).heap) (freed_objects (events_of n w ms))
names_all limits w n m [] kept fit along = refl
names_all limits w n m (move ∷ ms) kept fit along =
    let here : List Event = events_in n w move in
    let later : List Event = events_of (named_after n w move) (after_move w move) ms in
    let next : Moment = after_all limits m here in
    let last : Heap = (after_all limits next later).heap in
    let ends : (after_all limits m (here ++ later)).heap ≡ last = ap (λ (x : Moment). x.heap) (after_both limits m here later) in
    let rest : over labels_in (after_move w move) ms ≡ map (label_in last) (freed_objects later) =
    names_all limits (after_move w move) (named_after n w move) next ms (move_kept w move kept fit.0) fit.1
    (λ q r is. subst (λ (x : Moment). StandsBy x.heap (sight (after_moves (after_move w move) q)) (named_after_all (named_after n w move) (after_move w move) q).number)
    (after_both limits m here (events_of (named_after n w move) (after_move w move) q)) (along (move ∷ q) r (ap (λ l. move ∷ l) is))) in
    let first : labels_in w move ≡ map (label_in last) (freed_objects here) =
    names_in w n m.heap last kept (along [] (move ∷ ms) refl) (keeps_both m.heap next.heap last (keeps_events limits m here) (keeps_events limits next later)) move in
    (λ k. first k ++ rest k)
    ∙ sym (map-append (label_in last) (freed_objects here) (freed_objects later))
    ∙ ap (map (label_in last)) (sym (flat_map-append freed_in here later))
    ∙ (λ k. map (label_in (sym ends k)) (freed_objects (here ++ later)))

-- what a list of two parts frees
freed_both : (p : Private) (a b : List Beat) → freed_by_all p (a ++ b) ≡ freed_by_all p a ++ freed_by_all (gathered_all p a) b
freed_both p [] b = refl
freed_both p (x ∷ a) b =
    ap (λ l. freed_by (next_of p) (word_of x) ++ l) (freed_both (gathered p x) a b)
    ∙ sym (append_assoc (freed_by (next_of p) (word_of x)) (freed_by_all (gathered p x) a) (freed_by_all (gathered_all (gathered p x) a) b))

-- the word of what a turn records is the word that it found
looked_word : (w : Core) (word : ℕ) (phase : Phase) → word_of (looked w word phase) ≡ word
looked_word w word (Looking t) = by (eqb word (crossing_word w.collector.epoch Retired))
  where
    by : (hit : Bool) → word_of (cond hit (Took word (box w t)) (Saw word)) ≡ word
    by true = refl
    by false = refl
looked_word w word _ = refl

turn_frees : (w : Core) (next : Option Op) → ◌≡◌ {A = Option Op} (next_of w.collector) next → freed_by_all w.collector (turn_at w next) ≡ labels_at w next
turn_frees w None is = refl
turn_frees w (Some op) is =
    append-nil (freed_by (next_of w.collector) (word_of (looked w (cell (cells_of w) op) w.collector.phase)))
    ∙ (λ k. freed_by (is k) (looked_word w (cell (cells_of w) op) w.collector.phase k))

move_frees : (w : Core) (m : Move) → Fits w m → freed_by_all w.collector (by_actor 0 beats_in w m) ≡ labels_in w m
move_frees w (Move.Begins t work from) fits = ap (freed_by_all w.collector) (other_gives 0 beats_in w (Move.Begins t work from) (λ e. omega (arith, e, fits.0.0)))
move_frees w (Move.Steps t) fits = ap (freed_by_all w.collector) (other_gives 0 beats_in w (Move.Steps t) (λ e. omega (arith, e, fits.0.0)))
move_frees w Move.Turns fits = turn_frees w (next_of w.collector) refl
move_frees w Move.Offers fits = refl

-- the collector's list in a run frees what its moves free
beats_free : (w : Core) (ms : List Move) → IsKept false w → AllFit w ms → Offerless ms → freed_by_all w.collector (beats_of 0 w ms) ≡ over labels_in w ms
beats_free w [] kept fit none = refl
beats_free w (m ∷ ms) kept fit none =
    freed_both w.collector (by_actor 0 beats_in w m) (beats_of 0 (after_move w m) ms)
    ∙ (λ k. move_frees w m fit.0 k ++ freed_by_all (sym (collected_in w m kept fit.0 none.0) k) (beats_of 0 (after_move w m) ms))
    ∙ ap (λ l. labels_in w m ++ l) (beats_free (after_move w m) ms (move_kept w m kept fit.0) fit.1 none.1)

-- So they are the labels of the objects that the order frees.
names_freed : (limits : Limits) (w : Core) (n : Naming) (m : Moment) (ms : List Move) (log : List Beat) → IsKept false w → AllFit w ms → Offerless ms → log ≡ beats_of 0 w ms → StandsAlong limits w n m ms
    → freed_by_all w.collector log ≡ map (label_in (after_all limits m (events_of n w ms)).heap) (freed_objects (events_of n w ms))
names_freed limits w n m ms log kept fit none is along =
    ap (freed_by_all w.collector) is ∙ beats_free w ms kept fit none ∙ names_all limits w n m ms kept fit along

-- journals with the lines that some moves told
lines_up_to : (ℕ → List Line) → (many : ℕ) → List (List Line)
lines_up_to f zero = []
lines_up_to f (suc many) = lines_up_to f many ++ f (many + 1) ∷ []

length_lines : (f : ℕ → List Line) (many : ℕ) → length (lines_up_to f many) ≡ many
unfolding lines_up_to
length_lines f zero = refl
length_lines f (suc many) =
    let more = length_push (lines_up_to f many) (f (many + 1)) in
    let fewer : length (lines_up_to f many) ≡ many = length_lines f many in
    omega (arith, more, fewer)

lines_at : (f : ℕ → List Line) (many t : ℕ) → 1 ≤ t → t ≤ many → get_or (lines_up_to f many) (t - 1) [] ≡ f t
unfolding lines_up_to
lines_at f zero t low high = absurd (omega (arith, low, high))
lines_at f (suc many) t low high =
    let fewer : length (lines_up_to f many) ≡ many = length_lines f many in
    dite (ℕ_discrete t (many + 1))
    (λ (e : t ≡ many + 1). get_or_push (lines_up_to f many) (f (many + 1)) [] (t - 1) (omega (arith, e, fewer)) ∙ ap f (sym e))
    (λ (ne : t ≢ many + 1). get_or_append_left (lines_up_to f many) (f (many + 1) ∷ []) [] (t - 1) (omega (arith, ne, low, high, fewer)) ∙ lines_at f many t low (omega (arith, ne, high)))

journals_of : Core → List Move → List (List Line)
journals_of w moves = lines_up_to (λ t. filter_map (line_by t) (told_in_all w moves)) w.config.mutators

are_journals : (w : Core) (moves : List Move) → AreJournals w moves (journals_of w moves)
unfolding journals_of
are_journals w moves = record {
  one_each = length_lines (λ t. filter_map (line_by t) (told_in_all w moves)) w.config.mutators;
  lines = λ t is. lines_at (λ t. filter_map (line_by t) (told_in_all w moves)) w.config.mutators t is.0 is.1;
}

-- what gives a mailbox back frees nothing
returned_none : (p : Private) (returned : List Beat) → length returned ≤ 1 → (boxes_out p ≡ [] → returned ≡ []) → freed_by_all p returned ≡ []
returned_none p [] once home = refl
returned_none p (b ∷ []) once home = by p.phase refl
  where
    by : (phase : Phase) → p.phase ≡ phase → freed_by (next_of p) (word_of b) ++ [] ≡ []
    by (Returning t) is = ap (λ (o : Option Op). freed_by o (word_of b) ++ []) (returns_op p t is)
    by _ is = absurd (let none : ◌≡◌ {A = List Beat} (b ∷ []) [] = home (ap (boxes_at p) is) in cc)
returned_none p (b ∷ c ∷ bs) once home = absurd (omega (arith, once))

-- And so it is of every run of a running heap, also where a mailbox was given back behind it.
pub run_names_freed : (key : Core) (heap : Heap) (number : ℕ → ℕ) (unfreed : List ℕ) (run : List Move) (log returned : List Beat) → IsKept false key → AreIdle key → StandsBy heap (sight key) number → AreUnfreed (sight key) number unfreed
    → AllFit key run → Offerless run → log ++ returned ≡ beats_of 0 key run → length returned ≤ 1 → (boxes_out (gathered_all key.collector log) ≡ [] → returned ≡ []) → NameFreed key heap number unfreed run (freed_by_all key.collector log)
run_names_freed key heap number unfreed run log returned kept idle stands are fit none is once home =
    sym (append-nil (freed_by_all key.collector log))
    ∙ ap (λ l. freed_by_all key.collector log ++ l) (sym (returned_none (gathered_all key.collector log) returned once home))
    ∙ sym (freed_both key.collector log returned)
    ∙ names_freed (limits_of key.config) key (naming_of heap number) (moment_of key heap unfreed) run (log ++ returned) kept fit none is
    (λ q r parts. (run_legal key heap number unfreed q (journals_of key q) kept idle stands are (fit_first key q r (subst (AllFit key) (sym parts) fit)) (are_journals key q)).ends.stands)

-- The contract of `tell`: a graph is told of a line that may stand.
use Rattle.std.proofs.Common.{◌≢◌, ◌<◌, ◌≤◌, ◌/◌, ℕ, List, get_or, drop, inl, inr, refl, sym, ap, ◌∙◌, subst, arith}
use Rattle.std.specs.List.{All}
use Rattle.std.proofs.lemmas.List.{take_rest}
use Rattle.std.proofs.lemmas.Result.{on_ok_weaker}
use Rattle.rec_audit.specs.declared.kind.Kind.TheVariants.{Title, Heap, Epoch, Put, Born, Snap, Out, Free, Sweep, End}
use Rattle.rec_audit.specs.declared.form.Form.{Form}
use Rattle.rec_audit.specs.Lines.{Line}
use Rattle.rec_audit.specs.Graphs.{slots_of}
use Rattle.rec_audit.proofs.Grown.{IsQuiet, quiet_line, graph_quiet}
use Rattle.rec_audit.proofs.Telling.{numbers_of, heap_kept, heap_told, told_behind, source_within, some_fields}
use Rattle.rec_audit.proofs.checker.tell.Goals as goal
use Rattle.rec_audit.specs.Journal.{line_of}

pub bounds-numbers-0 : goal.bounds-numbers-0
bounds-numbers-0 c = let n = numbers_of c.args.form c.args.kind Heap c.args.numbers.now c.in-Heap.is c.requires.stands in omega (arith, n.five)

pub overflow_cast-numbers : goal.overflow_cast-numbers
overflow_cast-numbers c = let n = numbers_of c.args.form c.args.kind Heap c.args.numbers.now c.in-Heap.is c.requires.stands in omega (arith, n.slots.most)

pub returns-in-Heap-clause-size : goal.returns-in-Heap-clause-size
returns-in-Heap-clause-size c = on_ok_weaker c.renew.result (λ e. e ∙ sym (heap_told c.args.form c.args.kind c.args.numbers.now c.in-Heap.is)) c.renew.ensures.size

pub returns-in-Heap-clause-graph : goal.returns-in-Heap-clause-graph
returns-in-Heap-clause-graph c = on_ok_weaker c.renew.result (λ tells lines stand at is. tells _ (told_behind lines c.args.form c.args.kind c.args.numbers.now c.in-Heap.is c.requires.stands stand at)) c.renew.ensures.graph

pub returns-in-Epoch-clause-size : goal.returns-in-Epoch-clause-size
returns-in-Epoch-clause-size c = on_ok_weaker c.begin_block.result (λ e. e ∙ c.requires.size ∙ sym (heap_kept c.args.form c.args.kind Epoch c.args.numbers.now c.in-Epoch.is refl)) c.begin_block.ensures.size

pub returns-in-Epoch-clause-graph : goal.returns-in-Epoch-clause-graph
returns-in-Epoch-clause-graph c = on_ok_weaker c.begin_block.result (λ tells lines stand at is. tells lines (line_of c.args.kind c.args.numbers.now) is c.in-Epoch.is) c.begin_block.ensures.graph

pub bounds-numbers-1 : goal.bounds-numbers-1
bounds-numbers-1 c = let n = numbers_of c.args.form c.args.kind Put c.args.numbers.now c.in-Put.is c.requires.stands in omega (arith, n.four)

pub bounds-numbers-2 : goal.bounds-numbers-2
bounds-numbers-2 c = let n = numbers_of c.args.form c.args.kind Put c.args.numbers.now c.in-Put.is c.requires.stands in omega (arith, n.four)

pub bounds-numbers-3 : goal.bounds-numbers-3
bounds-numbers-3 c = let n = numbers_of c.args.form c.args.kind Put c.args.numbers.now c.in-Put.is c.requires.stands in omega (arith, n.four)

pub nonzero_div-source : goal.nonzero_div-source
nonzero_div-source c =
    let n = numbers_of c.args.form c.args.kind Put c.args.numbers.now c.in-Put.is c.requires.stands in
    let apart : c.args.form.heap.fields ≢ 0 = some_fields (get_or c.args.numbers.now 1 0) c.args.form.heap.slots c.args.form.heap.fields n.place in
    omega arith

pub put-requires-clause-source : goal.put-requires-clause-source
put-requires-clause-source c =
    let n = numbers_of c.args.form c.args.kind Put c.args.numbers.now c.in-Put.is c.requires.stands in
    let within : get_or c.args.numbers.now 1 0 / c.args.form.heap.fields < slots_of c.args.graph.now = omega (arith, source_within (get_or c.args.numbers.now 1 0) c.args.form.heap.slots c.args.form.heap.fields n.place, c.requires.size) in
    subst (λ (k : ℕ). get_or c.args.numbers.now 1 0 / k < slots_of c.args.graph.now) (sym c.from.ensures) within

pub put-requires-clause-target : goal.put-requires-clause-target
put-requires-clause-target c =
    let n = numbers_of c.args.form c.args.kind Put c.args.numbers.now c.in-Put.is c.requires.stands in
    omega (arith, n.new, c.requires.size)

pub returns-in-Put-clause-size : goal.returns-in-Put-clause-size
returns-in-Put-clause-size c = on_ok_weaker c.put.result (λ e. e ∙ c.requires.size ∙ sym (heap_kept c.args.form c.args.kind Put c.args.numbers.now c.in-Put.is refl)) c.put.ensures.size

pub returns-in-Put-clause-graph : goal.returns-in-Put-clause-graph
returns-in-Put-clause-graph c = on_ok_weaker c.put.result (λ tells lines stand at is. tells lines (line_of c.args.kind c.args.numbers.now) is (record { kind = c.in-Put.is; source-is = ap (λ (f : Form). get_or c.args.numbers.now 1 0 / f.heap.fields) (sym at) ∙ ap (λ (k : ℕ). get_or c.args.numbers.now 1 0 / k) (sym c.from.ensures); new-is = refl; old-is = refl })) c.put.ensures.graph

pub bounds-numbers-1-in-Born : goal.bounds-numbers-1-in-Born
bounds-numbers-1-in-Born c = let n = numbers_of c.args.form c.args.kind Born c.args.numbers.now c.in-Born.is c.requires.stands in omega (arith, n.two)

pub bear-requires-clause-slot : goal.bear-requires-clause-slot
bear-requires-clause-slot c = let n = numbers_of c.args.form c.args.kind Born c.args.numbers.now c.in-Born.is c.requires.stands in omega (arith, n.slot, c.requires.size)

pub returns-in-Born-clause-size : goal.returns-in-Born-clause-size
returns-in-Born-clause-size c = on_ok_weaker c.bear.result (λ e. e ∙ c.requires.size ∙ sym (heap_kept c.args.form c.args.kind Born c.args.numbers.now c.in-Born.is refl)) c.bear.ensures.size

pub returns-in-Born-clause-graph : goal.returns-in-Born-clause-graph
returns-in-Born-clause-graph c = on_ok_weaker c.bear.result (λ tells lines stand at is. tells lines (line_of c.args.kind c.args.numbers.now) is (record { kind = c.in-Born.is; slot-is = refl })) c.bear.ensures.graph

pub slice_bounds-hold-start : goal.slice_bounds-hold-start
slice_bounds-hold-start c = let n = numbers_of c.args.form c.args.kind Snap c.args.numbers.now c.in-Snap.is c.requires.stands in omega (arith, n.count)

pub hold-requires-clause-slots : goal.hold-requires-clause-slots
hold-requires-clause-slots c =
    let n = numbers_of c.args.form c.args.kind Snap c.args.numbers.now c.in-Snap.is c.requires.stands in
    subst (λ (ns : List ℕ). All (λ m. m ≤ slots_of c.args.graph.now) ns) (sym (take_rest c.args.numbers.now 1)) (subst (λ (k : ℕ). All (λ m. m ≤ k) (drop 1 c.args.numbers.now)) (sym c.requires.size) n.held)

pub returns-in-Snap-clause-size : goal.returns-in-Snap-clause-size
returns-in-Snap-clause-size c = on_ok_weaker c.hold.result (λ e. e ∙ c.requires.size ∙ sym (heap_kept c.args.form c.args.kind Snap c.args.numbers.now c.in-Snap.is refl)) c.hold.ensures.size

pub returns-in-Snap-clause-graph : goal.returns-in-Snap-clause-graph
returns-in-Snap-clause-graph c = on_ok_weaker c.hold.result (λ tells lines stand at is. tells lines (line_of c.args.kind c.args.numbers.now) is (record { kind = c.in-Snap.is; held = sym (take_rest c.args.numbers.now 1) })) c.hold.ensures.graph

pub bounds-numbers-1-in-Out : goal.bounds-numbers-1-in-Out
bounds-numbers-1-in-Out c = let n = numbers_of c.args.form c.args.kind Out c.args.numbers.now c.in-Out.is c.requires.stands in omega (arith, n.two)

pub returns-in-Out-clause-size : goal.returns-in-Out-clause-size
returns-in-Out-clause-size c = on_ok_weaker c.take_out.result (λ e. e ∙ c.requires.size ∙ sym (heap_kept c.args.form c.args.kind Out c.args.numbers.now c.in-Out.is refl)) c.take_out.ensures.size

pub returns-in-Out-clause-graph : goal.returns-in-Out-clause-graph
returns-in-Out-clause-graph c = on_ok_weaker c.take_out.result (λ tells lines stand at is. tells lines (line_of c.args.kind c.args.numbers.now) is (record { kind = c.in-Out.is; word-is = refl })) c.take_out.ensures.graph

pub bounds-numbers-0-in-Sweep : goal.bounds-numbers-0-in-Sweep
bounds-numbers-0-in-Sweep c = let n = numbers_of c.args.form c.args.kind Sweep c.args.numbers.now c.in-Sweep.is c.requires.stands in omega (arith, n.one)

pub sweep-requires-clause-slot : goal.sweep-requires-clause-slot
sweep-requires-clause-slot c = let n = numbers_of c.args.form c.args.kind Sweep c.args.numbers.now c.in-Sweep.is c.requires.stands in omega (arith, n.slot, c.requires.size)

pub returns-in-Sweep-clause-size : goal.returns-in-Sweep-clause-size
returns-in-Sweep-clause-size c = on_ok_weaker c.sweep.result (λ e. e ∙ c.requires.size ∙ sym (heap_kept c.args.form c.args.kind Sweep c.args.numbers.now c.in-Sweep.is refl)) c.sweep.ensures.size

pub returns-in-Sweep-clause-graph : goal.returns-in-Sweep-clause-graph
returns-in-Sweep-clause-graph c = on_ok_weaker c.sweep.result (λ tells lines stand at is. tells lines (line_of c.args.kind c.args.numbers.now) is (record { kind = c.in-Sweep.is; slot-is = refl })) c.sweep.ensures.graph

pub returns-in-Title-clause-size : goal.returns-in-Title-clause-size
returns-in-Title-clause-size c =
    elim c.in-Title.is [
      | inl title ↦ c.requires.size ∙ sym (heap_kept c.args.form c.args.kind Title c.args.numbers.now title refl)
      | inr more ↦
          elim more [
            | inl free ↦ c.requires.size ∙ sym (heap_kept c.args.form c.args.kind Free c.args.numbers.now free refl)
            | inr end ↦ c.requires.size ∙ sym (heap_kept c.args.form c.args.kind End c.args.numbers.now end refl)
          ]
    ]

pub returns-in-Title-clause-graph : goal.returns-in-Title-clause-graph
returns-in-Title-clause-graph c = λ lines stand at is.
    let line : Line = line_of c.args.kind c.args.numbers.now in
    let quiet : IsQuiet line =
    elim c.in-Title.is [
      | inl title ↦ quiet_line line Title title refl refl refl refl refl refl refl
      | inr more ↦ elim more [ inl free ↦ quiet_line line Free free refl refl refl refl refl refl refl | inr end ↦ quiet_line line End end refl refl refl refl refl refl refl ]
    ]
    in
    graph_quiet lines line c.args.graph.now quiet is

pub begin_block-requires : goal.begin_block-requires
begin_block-requires c = c.requires.sized

pub put-requires-clause-sized : goal.put-requires-clause-sized
put-requires-clause-sized c = c.requires.sized

pub bear-requires-clause-sized : goal.bear-requires-clause-sized
bear-requires-clause-sized c = c.requires.sized

pub hold-requires-clause-sized : goal.hold-requires-clause-sized
hold-requires-clause-sized c = c.requires.sized

pub take_out-requires : goal.take_out-requires
take_out-requires c = c.requires.sized

pub sweep-requires-clause-sized : goal.sweep-requires-clause-sized
sweep-requires-clause-sized c = c.requires.sized

pub returns-in-Heap-clause-sized : goal.returns-in-Heap-clause-sized
returns-in-Heap-clause-sized c = c.renew.ensures.sized

pub returns-in-Epoch-clause-sized : goal.returns-in-Epoch-clause-sized
returns-in-Epoch-clause-sized c = c.begin_block.ensures.sized

pub returns-in-Put-clause-sized : goal.returns-in-Put-clause-sized
returns-in-Put-clause-sized c = c.put.ensures.sized

pub returns-in-Born-clause-sized : goal.returns-in-Born-clause-sized
returns-in-Born-clause-sized c = c.bear.ensures.sized

pub returns-in-Snap-clause-sized : goal.returns-in-Snap-clause-sized
returns-in-Snap-clause-sized c = c.hold.ensures.sized

pub returns-in-Out-clause-sized : goal.returns-in-Out-clause-sized
returns-in-Out-clause-sized c = c.take_out.ensures.sized

pub returns-in-Sweep-clause-sized : goal.returns-in-Sweep-clause-sized
returns-in-Sweep-clause-sized c = c.sweep.ensures.sized

pub returns-in-Title-clause-sized : goal.returns-in-Title-clause-sized
returns-in-Title-clause-sized c = c.requires.sized

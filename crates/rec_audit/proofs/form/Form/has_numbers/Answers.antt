-- The numbers are tested by the test of their kind.
use Rattle.std.proofs.Common.{◌≡◌, ◌↔◌, ℕ, Bool, List, sym, subst}
use Rattle.std.specs.Bool.{IsTrue}
use Rattle.rec_audit.specs.Form.{HasNumbers}
use Rattle.rec_audit.specs.declared.form.Form.{Form}
use Rattle.rec_audit.specs.declared.kind.Kind.{Kind}
use Rattle.rec_audit.specs.declared.kind.Kind.TheVariants.{Title, Heap, Epoch, Put, Born, Snap, Out, Free, Sweep, End}
use Rattle.rec_audit.proofs.form.Form.has_numbers.Goals as goal

by_kind : (form : Form) (kind other : Kind) (numbers : List ℕ) (told : Bool) → kind ≡ other → IsTrue told ↔ HasNumbers form other numbers → IsTrue told ↔ HasNumbers form kind numbers
by_kind form kind other numbers told is tells = subst (λ (k : Kind). IsTrue told ↔ HasNumbers form k numbers) (sym is) tells

pub returns-in-Title : goal.returns-in-Title
returns-in-Title c = by_kind c.args.self c.args.kind Title c.args.numbers.now c.are_title_numbers.result c.in-Title.is c.are_title_numbers.ensures

pub returns-in-Heap : goal.returns-in-Heap
returns-in-Heap c = by_kind c.args.self c.args.kind Heap c.args.numbers.now c.are_heap_numbers.result c.in-Heap.is c.are_heap_numbers.ensures

pub returns-in-Epoch : goal.returns-in-Epoch
returns-in-Epoch c = by_kind c.args.self c.args.kind Epoch c.args.numbers.now c.are_epoch_numbers.result c.in-Epoch.is c.are_epoch_numbers.ensures

pub returns-in-Put : goal.returns-in-Put
returns-in-Put c = by_kind c.args.self c.args.kind Put c.args.numbers.now c.are_put_numbers.result c.in-Put.is c.are_put_numbers.ensures

pub returns-in-Born : goal.returns-in-Born
returns-in-Born c = by_kind c.args.self c.args.kind Born c.args.numbers.now c.are_born_numbers.result c.in-Born.is c.are_born_numbers.ensures

pub returns-in-Snap : goal.returns-in-Snap
returns-in-Snap c = by_kind c.args.self c.args.kind Snap c.args.numbers.now c.are_snap_numbers.result c.in-Snap.is c.are_snap_numbers.ensures

pub returns-in-Out : goal.returns-in-Out
returns-in-Out c = by_kind c.args.self c.args.kind Out c.args.numbers.now c.are_out_numbers.result c.in-Out.is c.are_out_numbers.ensures

pub returns-in-Free : goal.returns-in-Free
returns-in-Free c = by_kind c.args.self c.args.kind Free c.args.numbers.now c.are_free_numbers.result c.in-Free.is c.are_free_numbers.ensures

pub returns-in-Sweep : goal.returns-in-Sweep
returns-in-Sweep c = by_kind c.args.self c.args.kind Sweep c.args.numbers.now c.are_sweep_numbers.result c.in-Sweep.is c.are_sweep_numbers.ensures

pub returns-in-End : goal.returns-in-End
returns-in-End c = by_kind c.args.self c.args.kind End c.args.numbers.now c.are_end_numbers.result c.in-End.is c.are_end_numbers.ensures

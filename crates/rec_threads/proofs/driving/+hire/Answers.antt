-- The contract of `+hire`: starts a worker for each mutator.
use Rattle.std.proofs.Common.{◌≡◌, ℕ, Bool, MatchBool, length, refl, sym, subst, ap, ◌∙◌, arith, append-nil, vec_capacity}
use Rattle.rec_script.specs.Script.{ScriptContents}
use Rattle.rec_threads.specs.Done.{HasDone, HasStayed, commands_at}
use Rattle.rec_threads.specs.declared.crew.Crew.{Crew}
use Rattle.rec_threads.specs.declared.worker.Worker.{Worker}
use Rattle.rec_threads.proofs.Crews.{all_back, hired_at, none_more, one_more, ordered, reports, rest_ready, stayed_done}
use Rattle.rec_threads.proofs.Lists.{together}
use Rattle.rec_threads.proofs.driving.+hire.Goals as goal

pub hire_one-hired-requires-clause-shared : goal.hire_one-hired-requires-clause-shared
hire_one-hired-requires-clause-shared g t c κs within = c.requires.shared

pub hire-crew-requires-clause-ready : goal.hire-crew-requires-clause-ready
hire-crew-requires-clause-ready g t c κs within =
    let rest : Crew = record c.args.crew { mutators = c.pop.new.self; journals = c.pop-2.new.self } in
    (rest_ready c.args.heap.now c.args.script.now c.args.crew rest (together c.in-Some.mutator c.in-Some-pop.journal) c.in-Some.ensures.items c.in-Some-pop.ensures.items c.requires.ready).0

pub hire-crew-requires-clause-collector : goal.hire-crew-requires-clause-collector
hire-crew-requires-clause-collector g t c κs within = c.requires.collector

pub hire-crew-requires-clause-shared : goal.hire-crew-requires-clause-shared
hire-crew-requires-clause-shared g t c κs within = c.requires.shared

pub hire_one-hired-requires-clause-ready : goal.hire_one-hired-requires-clause-ready
hire_one-hired-requires-clause-ready g t c κs within =
    let rest : Crew = record c.args.crew { mutators = c.pop.new.self; journals = c.pop-2.new.self } in
    let popped = c.in-Some.ensures.len in
    let few = c.requires.ready.few in
    (hired_at c.args.heap.now c.args.script.now (length c.pop.new.self.items) (together c.in-Some.mutator c.in-Some-pop.journal) (omega (arith, popped, few, c.args.crew.mutators.ok.0, c.pop.new.self.ok.0))
    (rest_ready c.args.heap.now c.args.script.now c.args.crew rest (together c.in-Some.mutator c.in-Some-pop.journal) c.in-Some.ensures.items c.in-Some-pop.ensures.items c.requires.ready).1).1

pub hire_one-hired-requires-clause-script : goal.hire_one-hired-requires-clause-script
hire_one-hired-requires-clause-script g t c κs within = c.requires.script

pub hire-crew-requires-clause-script : goal.hire-crew-requires-clause-script
hire-crew-requires-clause-script g t c κs within = c.requires.script

pub begin-requires-clause-script : goal.begin-requires-clause-script
begin-requires-clause-script g t c κs within = c.requires.script

pub returns-clause-ended : goal.returns-clause-ended
returns-clause-ended g t c =
    let rest : Crew = record c.args.crew { mutators = c.pop.new.self; journals = c.pop-2.new.self } in
    let w : Worker = together c.in-Some.mutator c.in-Some-pop.journal in
    let v : Worker = c.report_of-worker.result.worker in
    let k : ℕ = length c.pop.new.self.items in
    let both = rest_ready c.args.heap.now c.args.script.now c.args.crew rest w c.in-Some.ensures.items c.in-Some-pop.ensures.items c.requires.ready in
    let hired = c.hire_one-hired.ensures in
    let report = c.report_of-worker.ensures in
    let script : ScriptContents = c.args.script.now in
    let named = both.1.named in
    let last : MatchBool c.report_of-worker.result.orders.value (HasStayed script w v c.report_of-worker.result.over) (v ≡ w) = reports c.hire_one-hired.result c.report_of-worker.result script w hired.was hired.script report.done hired.done report.ended in
    let done : MatchBool c.report_of-worker.result.orders.value (HasDone (commands_at script.commands k) w v) (v ≡ w) = stayed_done c.report_of-worker.result.orders.value script k w v c.report_of-worker.result.over (omega (arith, named)) last in
    let agreed : MatchBool c.hire-crew.result.1.value (HasDone (commands_at script.commands k) w v) (v ≡ w) = subst (λ (b : Bool). MatchBool b (HasDone (commands_at script.commands k) w v) (v ≡ w)) c.agrees.ensures done in
    one_more c.hire-crew.result.1.value c.args.heap.now c.args.script.now.commands c.args.crew rest c.hire-crew.result.0 c.taken_back.result w v c.in-Some.ensures.items c.in-Some-pop.ensures.items refl both.0.one_each c.hire-crew.ensures.ended agreed
    c.taken_back.ensures.mutators c.taken_back.ensures.journals c.taken_back.ensures.collector

pub taken_back-requires-clause-mutators_room : goal.taken_back-requires-clause-mutators_room
taken_back-requires-clause-mutators_room g t c =
    let rest : Crew = record c.args.crew { mutators = c.pop.new.self; journals = c.pop-2.new.self } in
    let back : length c.hire-crew.result.0.mutators.items ≡ length rest.mutators.items = (all_back c.hire-crew.result.1.value c.args.heap.now c.args.script.now.commands rest c.hire-crew.result.0 c.hire-crew.ensures.ended).0 in
    grind (arith, back, c.in-Some.ensures.len, c.in-Some-pop.ensures.len)

pub taken_back-requires-clause-journals_room : goal.taken_back-requires-clause-journals_room
taken_back-requires-clause-journals_room g t c =
    let rest : Crew = record c.args.crew { mutators = c.pop.new.self; journals = c.pop-2.new.self } in
    let back : length c.hire-crew.result.0.journals.items ≡ length rest.journals.items = (all_back c.hire-crew.result.1.value c.args.heap.now c.args.script.now.commands rest c.hire-crew.result.0 c.hire-crew.ensures.ended).1 in
    grind (arith, back, c.in-Some.ensures.len, c.in-Some-pop.ensures.len)

pub agrees-requires : goal.agrees-requires
agrees-requires g t c =
    let hired = c.hire_one-hired.ensures in
    let report = c.report_of-worker.ensures in
    ordered c.hire_one-hired.result c.report_of-worker.result c.args.signals.now.orders.id hired.signals report.orders hired.orders report.ended ∙ sym c.hire-crew.ensures.orders

pub begin-requires-clause-collector : goal.begin-requires-clause-collector
begin-requires-clause-collector g t c κs within = c.requires.collector

pub returns-in_default-clause-orders : goal.returns-in_default-clause-orders
returns-in_default-clause-orders g t c = c.begin.ensures.orders

pub returns-in_default-clause-ended : goal.returns-in_default-clause-ended
returns-in_default-clause-ended g t c =
    let none = c.in_default.ensures in
    let begun = c.begin.ensures in
    none_more c.begin.result.1.value c.args.heap.now c.args.script.now.commands c.args.crew c.begin.result.0 (omega (arith, none.cases.0, c.args.crew.mutators.ok.0))
    (ap (λ v. v.items) begun.mutators ∙ sym (none.items ∙ append-nil c.pop.new.self.items)) (ap (λ v. v.items) begun.journals) begun.begun

pub returns-in_default-clause-room : goal.returns-in_default-clause-room
returns-in_default-clause-room g t c = (ap (λ v. vec_capacity v) c.begin.ensures.mutators ∙ c.in_default.ensures.capacity, ap (λ v. vec_capacity v) c.begin.ensures.journals)

pub unreachable-requires : goal.unreachable-requires
unreachable-requires g t c =
    let popped = c.in-Some.ensures.len in
    let each = c.requires.ready.one_each in
    omega (arith, popped, each, c.in_default-pop.ensures.cases.0, c.args.crew.mutators.ok.0, c.args.crew.journals.ok.0)

pub returns-clause-orders : goal.returns-clause-orders
returns-clause-orders g t c = c.hire-crew.ensures.orders

pub returns-clause-room : goal.returns-clause-room
returns-clause-room g t c = (c.taken_back.ensures.room.0 ∙ c.hire-crew.ensures.room.0 ∙ c.in-Some.ensures.capacity, c.taken_back.ensures.room.1 ∙ c.hire-crew.ensures.room.1 ∙ c.in-Some-pop.ensures.capacity)

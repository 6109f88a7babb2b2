-- A crew with one worker more.
use Rattle.std.proofs.Common.{◌≡◌, ℕ, ◌-◌, ◌<◌, ◌≤◌, Bool, MatchBool, Option, IfErr, IfOk, Result, Ok, Err, true, false, List, [], ◌∷◌, ◌++◌, Some, length, slice_get, sym, ap, subst, ◌∙◌, arith}
use Rattle.std.proofs.lemmas.Option.{get_or_from_slice_get}
use Rattle.std.specs.declared.thread.PromisedHandle.{PromisedHandle}
use Rattle.rec_model.specs.declared.command.Cmd.{Cmd}
use Rattle.rec_model.specs.declared.limits.TheConstants.{MOST_TURNS}
use Rattle.rec_script.specs.Script.{ScriptContents}
use Rattle.rec_table.specs.Views.{CollectorView, MutatorView, Started, IsCollectorOf, mutator_now}
use Rattle.rec_world.specs.Journal.{Notes}
use Rattle.rec_threads.specs.Done.{AreReady, HasCollected, HasDone, HasEnded, HasStayed, HaveDone, IsHired, IsReady, commands_at, index_of, own_commands}
use Rattle.rec_threads.specs.declared.crew.Crew.{Crew}
use Rattle.rec_threads.specs.declared.duty.Duty.{Duty}
use Rattle.rec_threads.specs.declared.duty.Report.{Report}
use Rattle.rec_threads.specs.declared.signals.Over.{Over}
use Rattle.rec_threads.specs.declared.worker.Worker.{Worker}
use Rattle.rec_threads.proofs.Lists.{done_more, earlier_ready, last_ready}

pub one_more : (b : Bool) (h : Started) (cmds : List (List Cmd)) (crew rest back all : Crew) (w v : Worker) → crew.mutators.items ≡ rest.mutators.items ++ w.mutator ∷ [] → crew.journals.items ≡ rest.journals.items ++ w.journal ∷ [] → rest.collector ≡ crew.collector
    → length rest.journals.items ≡ length rest.mutators.items → HasEnded b h cmds rest back → MatchBool b (HasDone (commands_at cmds (length rest.mutators.items)) w v) (v ≡ w)
    → all.mutators.items ≡ back.mutators.items ++ v.mutator ∷ [] → all.journals.items ≡ back.journals.items ++ v.journal ∷ [] → all.collector ≡ back.collector → HasEnded b h cmds crew all
one_more true h cmds crew rest back all w v ms js col each ended last ms' js' col' = record {
  done = subst (λ (x : List MutatorView × List Notes × List MutatorView × List Notes). HaveDone cmds x.0 x.1 x.2 x.3) (λ i. (sym ms i, sym js i, sym ms' i, sym js' i))
      (done_more cmds rest.mutators.items back.mutators.items rest.journals.items back.journals.items w.mutator v.mutator w.journal v.journal each ended.done last);
  collector = subst (IsCollectorOf h) (sym col') ended.collector;
  collected = subst (λ (x : CollectorView × CollectorView). HasCollected 10000000 x.0 x.1) (λ i. (col i, sym col' i)) ended.collected;
}
one_more false h cmds crew rest back all w v ms js col each ended last ms' js' col' = record {
  mutators = ms' ∙ (λ i. ended.mutators i ++ (last i).mutator ∷ []) ∙ sym ms;
  journals = js' ∙ (λ i. ended.journals i ++ (last i).journal ∷ []) ∙ sym js;
  collector = col' ∙ ended.collector ∙ col;
}

-- Where there is no mutator the collector alone works, and what lies there is as it was.
pub none_more : (b : Bool) (h : Started) (cmds : List (List Cmd)) (crew all : Crew) → length crew.mutators.items ≡ 0 → all.mutators.items ≡ crew.mutators.items → all.journals.items ≡ crew.journals.items
    → MatchBool b (IsCollectorOf h all.collector × HasCollected MOST_TURNS crew.collector all.collector) (all.collector ≡ crew.collector) → HasEnded b h cmds crew all
none_more true h cmds crew all none ms js begun = record {
  done = record { mutators_all = ap length ms; journals_all = ap length js; each = λ k d lt. absurd (omega (arith, lt, none)) };
  collector = begun.0;
  collected = begun.1;
}
none_more false h cmds crew all none ms js begun = record { mutators = ms; journals = js; collector = begun }

-- those before the last one, and the last one
pub rest_ready : (h : Started) (script : ScriptContents) (crew rest : Crew) (w : Worker) → crew.mutators.items ≡ rest.mutators.items ++ w.mutator ∷ [] → crew.journals.items ≡ rest.journals.items ++ w.journal ∷ [] → AreReady h script crew.mutators.items crew.journals.items
    → AreReady h script rest.mutators.items rest.journals.items × IsReady h script (length rest.mutators.items) w
rest_ready h script crew rest w ms js ready =
    let both : AreReady h script (rest.mutators.items ++ w.mutator ∷ []) (rest.journals.items ++ w.journal ∷ []) = subst (λ (x : List MutatorView × List Notes). AreReady h script x.0 x.1) (λ i. (ms i, js i)) ready in
    (earlier_ready h script rest.mutators.items rest.journals.items w.mutator w.journal both, last_ready h script rest.mutators.items rest.journals.items w.mutator w.journal both)

-- a worker of the script's is hired for its own commands
pub hired_at : (h : Started) (script : ScriptContents) (k : ℕ) (w : Worker) → k < length script.commands → IsReady h script k w → (index_of w ≡ k) × IsHired h script w
hired_at h script k w lt ready =
    let named = ready.named in
    let at : index_of w ≡ k = omega (arith, named) in
    (at, record { among = subst (λ n. n < length script.commands) (sym at) lt; ready = subst (λ n. IsReady h script n w) (sym at) ready })

-- and these are what it is given, by its number
pub own_are : (script : ScriptContents) (w : Worker) (number : ℕ) (cmds : List Cmd) → number ≡ (mutator_now w.mutator).number → slice_get script.commands (number - 1) ≡ Some cmds → own_commands script w ≡ cmds
own_are script w number cmds is there = get_or_from_slice_get script.commands (index_of w) cmds [] (ap (λ n. slice_get script.commands (n - 1)) (sym is) ∙ there)

-- a worker's number is one of the script's
pub numbered : (h : Started) (script : ScriptContents) (w : Worker) (number : ℕ) → number ≡ (mutator_now w.mutator).number → IsHired h script w → (1 ≤ number) × (number ≤ length script.commands)
numbered h script w number is hired =
    let named = hired.ready.named in
    let among = hired.among in
    (omega (arith, named, is), omega (arith, named, is, among))

-- What a worker reports at last is what it owes, whether its thread was had or not.
pub reports : (hired : Result (PromisedHandle Report Duty) Report) (report : Report) (script : ScriptContents) (w : Worker) → IfOk hired (λ h. h.promise.was.value ≡ w) → IfOk hired (λ h. h.promise.signals.now.script.value ≡ script)
    → IfOk hired (λ h. MatchBool report.orders.value (HasStayed h.promise.signals.now.script.value h.promise.was.value report.worker report.over) (report.worker ≡ h.promise.was.value))
    → IfErr hired (λ r. MatchBool r.orders.value (HasStayed script w r.worker r.over) (r.worker ≡ w)) → IfErr hired (λ r. report ≡ r)
    → MatchBool report.orders.value (HasStayed script w report.worker report.over) (report.worker ≡ w)
reports (Ok h) report script w was own done _ _ = subst (λ (x : ScriptContents × Worker). MatchBool report.orders.value (HasStayed x.0 x.1 report.worker report.over) (report.worker ≡ x.1)) (λ i. (own i, was i)) done
reports (Err r) report script w _ _ _ done is = subst (λ (x : Report). MatchBool x.orders.value (HasStayed script w x.worker x.over) (x.worker ≡ w)) (sym is) done

-- who stayed has done its commands
pub stayed_done : (b : Bool) (script : ScriptContents) (k : ℕ) (w v : Worker) (over : Option Over) → index_of w ≡ k → MatchBool b (HasStayed script w v over) (v ≡ w) → MatchBool b (HasDone (commands_at script.commands k) w v) (v ≡ w)
stayed_done true script k w v over at stayed = subst (λ n. HasDone (commands_at script.commands n) w v) at stayed.done
stayed_done false script k w v over at same = same

-- as many came back as were sent out
pub all_back : (b : Bool) (h : Started) (cmds : List (List Cmd)) (rest back : Crew) → HasEnded b h cmds rest back → (length back.mutators.items ≡ length rest.mutators.items) × (length back.journals.items ≡ length rest.journals.items)
all_back true h cmds rest back ended = (ended.done.mutators_all, ended.done.journals_all)
all_back false h cmds rest back ended = (ap length ended.mutators, ap length ended.journals)

-- Its orders are those of all, whether its thread was had or not.
pub ordered : (hired : Result (PromisedHandle Report Duty) Report) (report : Report) (id : ℕ) → IfOk hired (λ h. h.promise.signals.now.orders.id ≡ id) → IfOk hired (λ h. report.orders.of ≡ h.promise.signals.now.orders.id) → IfErr hired (λ r. r.orders.of ≡ id) → IfErr hired (λ r. report ≡ r) → report.orders.of ≡ id
ordered (Ok h) report id is of _ _ = of ∙ is
ordered (Err r) report id _ _ of is = ap (λ (x : Report). x.orders.of) is ∙ of

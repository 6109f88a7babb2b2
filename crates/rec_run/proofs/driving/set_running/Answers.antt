-- The crew of a started heap is whole and new, and each mutator may carry out its commands.
use Rattle.std.proofs.Common.{◌≡◌, ◌∙◌, ◌<◌, ℕ, ◌+◌, List, [], length, slice_index_or, sym, ap, arith}
use Rattle.std.proofs.lemmas.List.Elements.{All-get_or}
use Rattle.rec_mutator.specs.Private.{Private}
use Rattle.rec_core.specs.Config.{IsConfig, IsMutator}
use Rattle.rec_core.specs.Core.{Core, mutator, opened, opened_mutator}
use Rattle.rec_core.proofs.Opened.{mutator_opened, registers_many}
use Rattle.rec_world.specs.Journal.{Notes, no_notes}
use Rattle.rec_table.specs.Views.{AreMutatorsOf, MutatorView, Started, fresh, mutator_now}
use Rattle.rec_threads.specs.Done.{IsReady, worker_at}
use Rattle.rec_play.specs.Played.{AreReady, config_of}
use Rattle.rec_script.specs.Script.{ScriptContents}
use Rattle.rec_run.specs.Running.{IsStarted}
use Rattle.rec_run.proofs.driving.set_running.Goals as goal

-- the script's heap was started, with these mutators, which are new, and these journals
module _ (script : ScriptContents) (heap : Started) (ms : List MutatorView) (js : List Notes)
    (config : IsConfig (config_of script)) (opens : heap.world ≡ opened (config_of script)) (all : AreMutatorsOf heap ms)
    (new : (k : ℕ) (d : MutatorView) → k < length ms → slice_index_or ms k d ≡ fresh heap (k + 1)) (journals : AreReady script.commands js) where
  -- there is a mutator for each list of commands
  many : length ms ≡ length script.commands
  many = all.all ∙ ap (λ (w : Core). w.config.mutators) opens

  -- each may carry out its commands
  ready_at : (k : ℕ) (d : MutatorView) → k < length ms → IsReady heap script k (worker_at ms js k d)
  ready_at k d lt =
      let as_many : length ms ≡ length script.commands = many in
      let one_each = journals.one_each in
      let there : IsMutator (config_of script) (k + 1) = (omega arith, omega (arith, lt, as_many)) in
      let is : mutator_now (slice_index_or ms k d) ≡ opened_mutator (config_of script) (k + 1)
      = ap mutator_now (new k d lt) ∙ ap (λ (w : Core). mutator w (k + 1)) opens ∙ mutator_opened (config_of script) config (k + 1) there in
      record {
        own = (all.each k d lt).0;
        number = (all.each k d lt).1;
        named = ap (λ (p : Private). p.number) is;
        registers = ap (λ (p : Private). length p.registers) is ∙ registers_many (config_of script) config;
        fields = ap (λ (p : Private). p.fields) is;
        present = λ some. ap (λ (p : Private). p.left) is;
        empty = All-get_or (λ (j : Notes). j.lines ≡ []) js k no_notes (omega (arith, lt, as_many, one_each)) journals.empty;
        room = journals.room k;
      }

pub returns : goal.returns
returns c =
    let script : ScriptContents = c.args.script.now in
    let is : IsStarted script c.in_ok-heap.heap c.in_ok-heap.mutators.items c.in_ok-heap.collector = c.in_ok-heap.ensures.started in
    let js : List Notes = c.in_ok-journals.journals.items in
    let journals : AreReady script.commands js = c.in_ok-journals.ensures in
    let as_many : length c.in_ok-heap.mutators.items ≡ length script.commands
    = many script c.in_ok-heap.heap c.in_ok-heap.mutators.items js is.config is.opens is.all is.fresh_mutators journals in
    let one_each = journals.one_each in
    record {
      running = record {
        started = is;
        whole = record {
          all = is.all.all;
          script_all = sym (ap (λ (w : Core). w.config.mutators) is.opens);
          ready = record {
            few = omega (arith, as_many);
            one_each = omega (arith, as_many, one_each);
            each = ready_at script c.in_ok-heap.heap c.in_ok-heap.mutators.items js is.config is.opens is.all is.fresh_mutators journals;
          };
          collector = is.own;
        };
      };
    }

-- The heap is started as the script's opening, with mutators and a collector that are new.
use Rattle.std.proofs.Common.{◌≡◌, ℕ, ◌%◌, ◌∙◌, All, sym, ap, subst, arith}
use Rattle.std.proofs.lemmas.List.Elements.{All-replicate}
use Rattle.std.proofs.lemmas.Result.{IfOk-at_ok, IfOk-from_err}
use Rattle.rec_word.specs.Mailbox.{crossing_word}
use Rattle.rec_word.specs.declared.mailbox.Mailbox.TheVariants.{Spare}
use Rattle.rec_core.specs.Core.{Core, opened}
use Rattle.rec_core.specs.Config.{IsConfig}
use Rattle.rec_core.specs.declared.config.Config.{Config}
use Rattle.rec_play.specs.Played.{config_of}
use Rattle.rec_run.proofs.Endings.{each_ok, if_ok_or}
use Rattle.rec_run.proofs.driving.start.Goals as goal

-- no mailbox is with anybody
home_opened : (config : Config) (w : Core) → w ≡ opened config → All (λ word. word % 2 ≡ 0) w.crossing
home_opened config w is =
    subst (λ (w : Core). All (λ word. word % 2 ≡ 0) w.crossing) (sym is) (All-replicate (λ (word : ℕ). word % 2 ≡ 0) config.mutators (crossing_word config.first_epoch Spare) (omega arith))

pub start-requires-clause-idle : goal.start-requires-clause-idle
start-requires-clause-idle c = c.in_ok-world.ensures.begins.idle

pub start-requires-clause-home : goal.start-requires-clause-home
start-requires-clause-home c = home_opened (config_of c.args.script.now) c.in_ok-world.world c.in_ok-world.ensures.opened

pub returns-in_err-world : goal.returns-in_err-world
returns-in_err-world c = record { started = IfOk-from_err c.from_residual.result _ c.from_residual.ensures.0 }

pub returns : goal.returns
returns c =
    record {
      started =
          rw c.or.ensures
          (if_ok_or c.start.result _ _
          (each_ok c.start.result _
          (λ made is. record {
            config = subst (λ (w : Core). IsConfig w.config) c.in_ok-world.ensures.opened c.in_ok-world.ensures.config;
            opens = IfOk-at_ok _ is c.start.ensures.started ∙ c.in_ok-world.ensures.opened;
            all = IfOk-at_ok _ is c.start.ensures.mutators;
            fresh_mutators = IfOk-at_ok _ is c.start.ensures.fresh;
            own = (IfOk-at_ok _ is c.start.ensures.collector).0;
            fresh_collector = (IfOk-at_ok _ is c.start.ensures.collector).1;
          })));
    }

-- What was run, settled and written is the answer.
use Rattle.std.proofs.Common.{◌∙◌, ◌++◌, ℕ, Bool, List, Option, option_map, refl, sym, ap}
use Rattle.std.specs.List.{flat_map}
use Rattle.rec_model.specs.LegalOrder.{Line, actors}
use Rattle.rec_core.specs.Core.{Core}
use Rattle.rec_core.specs.declared.config.Config.{Config}
use Rattle.rec_play.specs.Played.{last_moment, lines_of}
use Rattle.rec_play.specs.Start.{moment_at}
use Rattle.rec_script.specs.Script.{ScriptContents}
use Rattle.rec_world.specs.Order.{Turns}
use Rattle.rec_run.specs.Headline.{Answers, is_summary, is_traced, printed, printed_order}
use Rattle.rec_run.specs.Tracing.{tail_of}
use Rattle.rec_request.specs.declared.request.How.{How}
use Rattle.std.proofs.lemmas.Result.{IfOk-weaker}
use Rattle.rec_run.proofs.Endings.{answers_script}
use Rattle.rec_run.proofs.Outcomes.{in_order, many}
use Rattle.rec_run.proofs.Tails.{tail_is}
use Rattle.rec_run.proofs.answer.answer_outcome.Goals as goal

pub write_text-requires-clause-journals : goal.write_text-requires-clause-journals
write_text-requires-clause-journals g c =
    let o = c.args.outcome.now in
    let (start, is) = c.requires.outcome in
    many c.args.script.now (moment_at c.args.script.now start) (lines_of o.journals.items) is.events o.journals.items refl is.explained.commands ∙ sym (ap (λ (k : Config). k.mutators) (c.settle.ensures.config ∙ is.config))

pub write_text-requires-clause-order : goal.write_text-requires-clause-order
write_text-requires-clause-order g c =
    let o = c.args.outcome.now in
    let (start, is) = c.requires.outcome in
    in_order c.args.script.now (moment_at c.args.script.now start) (lines_of o.journals.items) is.events c.args.how is.explained o.order is.order

pub write_text-requires-clause-room : goal.write_text-requires-clause-room
write_text-requires-clause-room g c = c.requires.outcome.1.explained.no_log_full

pub returns : goal.returns
returns g c = λ start is.
    let script : ScriptContents = c.args.script.now in
    let how : How = c.args.how in
    let o = c.args.outcome.now in
    let journals : List (List Line) = lines_of o.journals.items in
    let world : Core = c.settle.new.world in
    let number : ℕ → ℕ = is.has_run.names.number in
    let (rows, listed, told) = c.in_ok-text.ensures in
    let tail : List ℕ = tail_of c.in_ok-traced.traced c.in-Ok.settled.live in
    IfOk-weaker c.end_text.result _ (λ text. Answers script start how (flat_map (λ line. line) text))
    (λ text whole. answers_script script start how journals is.events o.world world rows (flat_map (λ line. line) text) tail is.explained
    (record { run = is.has_run; settles = c.in-Ok.ensures.done.settles }) c.in-Ok.ensures.done.settled (number, c.settle.ensures.stays.stands (last_moment script start is.events).heap number is.has_run.stands)
    (c.settle.ensures.kept.shaped.headers ∙ ap (λ (k : Config). k.slots) (c.settle.ensures.config ∙ is.config))
    listed
    (tail_is (is_traced how) o.world world c.in-Ok.settled c.in_ok-traced.traced is.idle c.in_ok-traced.ensures c.in-Ok.ensures.done)
    (whole ∙ ap (λ (front : List ℕ). front ++ tail)
    (told ∙ ap (λ (s : Bool). printed script.version s journals (option_map (λ (turns : Turns). turns.list) o.order) rows world.made world) c.wants_summary.ensures
    ∙ ap (λ (order : Option (List ℕ)). printed script.version (is_summary how) journals order rows world.made world) is.order
    ∙ ap (λ (n : ℕ). printed script.version (is_summary how) journals (printed_order how (actors is.events)) rows n world) (c.settle.ensures.stays.made ∙ is.made))))
    c.end_text.ensures

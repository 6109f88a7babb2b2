-- The contract of `find`: the crossing word of mutator `t`, as a turn finds it.
use Rattle.std.proofs.Common.{◌≡◌, ◌==◌, ◌<◌, ℕ, [], sym, ap, ◌∙◌, subst}
use mathlib.Core.Option.{none}
use prog.Atomic.{either}
use Rattle.atomic_table.specs.Table.{step}
use Rattle.rec_table.proofs.Common.{gathered_all, collecting_of, Looks, Collects}
use Rattle.rec_word.specs.Mailbox.{crossing_word}
use Rattle.rec_word.specs.declared.mailbox.Mailbox.TheVariants.{Retired}
use Rattle.rec_table.proofs.Gathering.{allows_glance, allows_look}
use Rattle.rec_table.proofs.collector.find.Goals as goal

pub load-seen-requires : goal.load-seen-requires
load-seen-requires g c = (
  c.requires.table,
  subst (λ (i : ℕ). i < c.args.board.now.table.shared.table_id.words) (sym c.index-word.ensures) c.requires.there,
  allows_glance c.args.board.now.table.shared.key.value _ _ c.index-word.result c.args.seat.now.me c.args.t c.args.epoch g.W.Turning.number g.W.Turning.actor (step c.args.board.now.table.shared.table_id.slots c.index-word.result 0 0 none)
      c.requires.seat c.requires.actor.0 c.requires.actor.1 c.requires.phase.0 c.requires.phase.1 c.index-word.ensures,
)

pub compare_exchange-requires : goal.compare_exchange-requires
compare_exchange-requires g c =
    let same : c.load-seen.new.seat.me ≡ c.args.seat.now.me = c.load-seen.ensures.2.1 (c.if-seen-due.false ∙ c.crossing-due.ensures ∙ ap (λ (e : ℕ). crossing_word e Retired) (sym c.requires.phase.1)) in (
      c.load-seen.ensures.0 ∙ c.requires.table,
      subst (λ (i : ℕ). i < c.args.board.now.table.shared.table_id.words) (sym c.index-word.ensures) c.requires.there,
      allows_look c.args.board.now.table.shared.key.value _ _ c.index-word.result c.load-seen.new.seat.me c.args.t c.args.epoch g.W.Turning.number g.W.Turning.actor (step c.args.board.now.table.shared.table_id.slots c.index-word.result c.crossing-due.result c.crossing.result none)
          (same ∙ c.requires.seat ∙ (λ k. (Collects (collecting_of (sym same k).0), []))) c.requires.actor.0 (c.requires.actor.1 ∙ (λ k. gathered_all c.args.board.now.table.shared.key.value.collector (collecting_of (sym same k).0).log)) c.requires.phase.0 c.requires.phase.1 c.index-word.ensures
          _ (λ n. (λ k. either (n == c.crossing-due.ensures k) (c.crossing.ensures k) n)),
    )

pub returns-then-seen-due-clause-looked : goal.returns-then-seen-due-clause-looked
returns-then-seen-due-clause-looked g c = c.load-seen.ensures.2.0 (λ e. c.if-seen-due.true (e ∙ ap (λ (x : ℕ). crossing_word x Retired) c.requires.phase.1 ∙ sym c.crossing-due.ensures))

pub returns-else-seen-due-clause-looked : goal.returns-else-seen-due-clause-looked
returns-else-seen-due-clause-looked g c =
    let same : c.load-seen.new.seat.me ≡ c.args.seat.now.me = c.load-seen.ensures.2.1 (c.if-seen-due.false ∙ c.crossing-due.ensures ∙ ap (λ (e : ℕ). crossing_word e Retired) (sym c.requires.phase.1)) in
    subst (λ (me : _). Looks g.W.Turning.actor g.W.Turning.number me c.compare_exchange.result c.compare_exchange.new.seat.me) same c.compare_exchange.ensures.2

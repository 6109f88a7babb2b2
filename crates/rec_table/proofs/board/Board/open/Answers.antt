-- The contract of `Board::open`: puts the words and the mailboxes of a world on a table.
use Rattle.std.proofs.Common.{◌≡◌, ◌∙◌, ℕ, ◌+◌, ◌<◌, length, sym, ap, arith, subst, length-append, ◌++◌, ◌∷◌}
use Rattle.rec_table.specs.Rule.{collecting_of}
use Rattle.rec_table.specs.Views.{collector_view}
use Rattle.rec_table.proofs.Seats.{starts}
use Rattle.rec_table.specs.declared.views.View.TheVariants.{Collects}
use Rattle.rec_table.proofs.Common.{Cells, cells_of, row}
use Rattle.rec_table.proofs.board.Board.open.Goals as goal

-- a row has two words more than these, the epoch and what is freed
long_row : (c : Cells) → length (row c) ≡ length c.words + length c.headers + 2 + length c.crossing
long_row c =
    let words = length-append c.words (c.headers ++ (c.epoch ∷ c.freed ∷ c.crossing)) in
    let headers = length-append c.headers (c.epoch ∷ c.freed ∷ c.crossing) in
    omega (arith, words, headers)

pub new-requires : goal.new-requires
new-requires c = starts c.args.was.now.value _ _ c.requires.world c.requires.words c.requires.home

pub returns-in-Ok : goal.returns-in-Ok
returns-in-Ok c =
    let made = c.in-Ok.ensures.ok in
    let opened : c.of-opened.result.value ≡ c.args.was.now.value.collector = c.of-opened.ensures ∙ c.requires.collector.0 in
    record {
      ok = (made.5, c.sat.ensures ∙ (λ i. collector_view (made.2 i) (opened i) (collecting_of ((made.4 i).0))));
      sizes = (made.0, made.1);
      err = tt;
    }

pub sat-requires-clause-seat : goal.sat-requires-clause-seat
sat-requires-clause-seat c =
    let me = c.in-Ok.ensures.ok.4 in
    ((λ i. me i) ∙ (λ i. (Collects (collecting_of (sym me i).0), sym c.requires.collector.1 i)), λ i. (collecting_of (me i).0).log)

pub sat-requires-clause-machine : goal.sat-requires-clause-machine
sat-requires-clause-machine c = (sym c.of-opened.ensures, c.requires.collector.2)

pub invariant_of-result : goal.invariant_of-result
invariant_of-result c = let h = c.in-Ok.ensures.ok in record {
  wide = (
    c.requires.layout.0 ∙ sym (ap (λ s. length s.value.words) h.5),
    c.requires.layout.1 ∙ sym (ap (λ s. length s.value.headers) h.5),
    h.0 ∙ ap length c.requires.words ∙ long_row (cells_of c.args.was.now.value) ∙ (λ i. sym c.requires.layout.0 i + sym c.requires.layout.1 i + 2 + length (sym h.5 i).value.crossing),
    subst (λ (n : ℕ). n < 9223372036854775808) (sym h.0) c.requires.few,
    c.requires.layout.2,
  );
}

pub returns-in-Err-clause-err : goal.returns-in-Err-clause-err
returns-in-Err-clause-err c = (c.in-Err.ensures.err, λ i. c.args.machine)

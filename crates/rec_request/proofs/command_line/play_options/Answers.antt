-- The contract of `play_options`: what the options of `play` ask for, where their numbers are in range.
use Rattle.std.proofs.Common.{◌≡◌, ◌∙◌, true, false, inl, inr, sym, ap, codes}
use Rattle.clap.specs.Words.{found_of}
use Rattle.clap.proofs.WalkLemmas.{first_value-rows}
use Rattle.rec_request.specs.CommandLine.{is_set}
use Rattle.rec_request.proofs.Options.{by_row, by_text}
use Rattle.rec_request.proofs.command_line.play_options.Goals as goal

pub returns-in_err-seed-clause-none : goal.returns-in_err-seed-clause-none
returns-in_err-seed-clause-none c = rw c.from_residual.ensures (λ asked asks. c.in_err-seed.ensures.none asked.seed (by_text (found_of c.args.options.now) (codes "seed") _ _ _ _ c.get_str.ensures asks.seeded))

pub returns-in_err-turns-clause-none : goal.returns-in_err-turns-clause-none
returns-in_err-turns-clause-none c = rw c.from_residual-in_err-turns.ensures (λ asked asks. c.in_err-turns.ensures.none asked.turns (by_text (found_of c.args.options.now) (codes "turns") _ _ _ _ c.get_str-2.ensures asks.limited))

pub returns-then-audit-clause-none : goal.returns-then-audit-clause-none
returns-then-audit-clause-none c = λ play asks. elim c.then-audit.either [
  | inl set ↦
      let no : true ≡ false = sym set ∙ c.is_flag_set-audit.ensures ∙ ap is_set (c.get_str-5.ensures ∙ first_value-rows (found_of c.args.options.now) (codes "audit")) ∙ asks.unaudited in
      cc
  | inr (unset, set) ↦
      let no : true ≡ false = sym set ∙ c.is_flag_set-image.ensures ∙ ap is_set (c.get_str-6.ensures ∙ first_value-rows (found_of c.args.options.now) (codes "image")) ∙ asks.unimaged in
      cc
]

pub returns-clause-some : goal.returns-clause-some
returns-clause-some c =
    record {
      seeded = by_row (found_of c.args.options.now) (codes "seed") _ _ _ _ c.get_str.ensures c.in_ok-seed.ensures.some;
      limited = by_row (found_of c.args.options.now) (codes "turns") _ _ _ _ c.get_str-2.ensures c.in_ok-turns.ensures.some;
      summed = c.is_flag_set-summary.ensures ∙ ap is_set (c.get_str-3.ensures ∙ first_value-rows (found_of c.args.options.now) (codes "summary"));
      traced = c.is_flag_set-trace.ensures ∙ ap is_set (c.get_str-4.ensures ∙ first_value-rows (found_of c.args.options.now) (codes "trace"));
      unaudited = sym (c.is_flag_set-audit.ensures ∙ ap is_set (c.get_str-5.ensures ∙ first_value-rows (found_of c.args.options.now) (codes "audit"))) ∙ c.if-audit.false;
      unimaged = sym (c.is_flag_set-image.ensures ∙ ap is_set (c.get_str-6.ensures ∙ first_value-rows (found_of c.args.options.now) (codes "image"))) ∙ c.if-image.false;
    }

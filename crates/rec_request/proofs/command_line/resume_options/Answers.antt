-- The contract of `resume_options`: what the options of `resume` ask for, where their numbers are in range.
use Rattle.std.proofs.Common.{codes}
use Rattle.clap.specs.Words.{found_of}
use Rattle.rec_request.proofs.Options.{by_row, by_text}
use Rattle.rec_request.proofs.command_line.resume_options.Goals as goal

pub returns-in_err-seed-clause-none : goal.returns-in_err-seed-clause-none
returns-in_err-seed-clause-none c = rw c.from_residual.ensures (λ asked asks. c.in_err-seed.ensures.none asked.seed (by_text (found_of c.args.options.now) (codes "seed") _ _ _ _ c.get_str.ensures asks.seeded))

pub returns-in_err-turns-clause-none : goal.returns-in_err-turns-clause-none
returns-in_err-turns-clause-none c = rw c.from_residual-in_err-turns.ensures (λ asked asks. c.in_err-turns.ensures.none asked.turns (by_text (found_of c.args.options.now) (codes "turns") _ _ _ _ c.get_str-2.ensures asks.limited))

pub returns-clause-some : goal.returns-clause-some
returns-clause-some c =
    record {
      seeded = by_row (found_of c.args.options.now) (codes "seed") _ _ _ _ c.get_str.ensures c.in_ok-seed.ensures.some;
      limited = by_row (found_of c.args.options.now) (codes "turns") _ _ _ _ c.get_str-2.ensures c.in_ok-turns.ensures.some;
    }

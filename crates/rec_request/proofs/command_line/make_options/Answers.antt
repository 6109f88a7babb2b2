-- The contract of `make_options`: what the options of `make` ask for, where their numbers are in range.
use Rattle.std.proofs.Common.{◌≡◌, ◌≢◌, ◌≤◌, codes, arith}
use Rattle.clap.specs.Words.{found_of}
use Rattle.rec_request.proofs.Options.{by_row, by_text, says_once}
use Rattle.rec_request.proofs.command_line.make_options.Goals as goal

pub returns-in_err-seed-clause-none : goal.returns-in_err-seed-clause-none
returns-in_err-seed-clause-none c = rw c.from_residual.ensures (λ asked asks. c.in_err-seed.ensures.none asked.seed (by_text (found_of c.args.options.now) (codes "seed") _ _ _ _ c.get_str.ensures asks.seeded))

pub returns-in_err-mutators-clause-none : goal.returns-in_err-mutators-clause-none
returns-in_err-mutators-clause-none c = rw c.from_residual-in_err-mutators.ensures (λ asked asks. c.in_err-mutators.ensures.none asked.mutators (by_text (found_of c.args.options.now) (codes "mutators") _ _ _ _ c.get_str-2.ensures asks.few))

pub returns-in_err-commands-clause-none : goal.returns-in_err-commands-clause-none
returns-in_err-commands-clause-none c = rw c.from_residual-in_err-commands.ensures (λ asked asks. c.in_err-commands.ensures.none asked.commands (by_text (found_of c.args.options.now) (codes "commands") _ _ _ _ c.get_str-3.ensures asks.limited))

pub returns-then-mutators-eq0-clause-none : goal.returns-then-mutators-eq0-clause-none
returns-then-mutators-eq0-clause-none c = λ asked asks.
    let same : asked.mutators ≡ c.in_ok-mutators.mutators =
    says_once _ 2 8 asked.mutators c.in_ok-mutators.mutators (by_text (found_of c.args.options.now) (codes "mutators") _ 2 8 asked.mutators c.get_str-2.ensures asks.few) c.in_ok-mutators.ensures.some in
    let some : 1 ≤ asked.mutators = asks.some in
    let none : c.in_ok-mutators.mutators ≡ 0 = c.if-mutators-eq0.true in
    omega (arith, same, some, none)

pub returns-clause-some : goal.returns-clause-some
returns-clause-some c =
    record {
      seeded = by_row (found_of c.args.options.now) (codes "seed") _ _ _ _ c.get_str.ensures c.in_ok-seed.ensures.some;
      some = (let some : c.in_ok-mutators.mutators ≢ 0 = c.if-mutators-eq0.false in omega (arith));
      few = by_row (found_of c.args.options.now) (codes "mutators") _ _ _ _ c.get_str-2.ensures c.in_ok-mutators.ensures.some;
      limited = by_row (found_of c.args.options.now) (codes "commands") _ _ _ _ c.get_str-3.ensures c.in_ok-commands.ensures.some;
    }

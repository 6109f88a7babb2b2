-- The contract of `keeping_options`: what the options of `play` ask for, where their numbers are in range and they ask for a journal or an image.
use Rattle.std.proofs.Common.{◌≡◌, ◌∙◌, Bool, true, false, refl, sym, ap, codes}
use mathlib.Core.Bool.{beq}
use Rattle.clap.specs.Words.{found_of}
use Rattle.clap.proofs.WalkLemmas.{first_value-rows}
use Rattle.rec_request.specs.CommandLine.{is_image, is_journal, is_set}
use Rattle.rec_request.specs.declared.request.Kept.{Kept}
use Rattle.rec_request.specs.declared.request.Kept.TheVariants as kepts
use Rattle.rec_request.proofs.Options.{by_row, by_text}
use Rattle.rec_request.proofs.command_line.keeping_options.Goals as goal
use Rattle.rec_request.proofs.command_line.keeping_options.Goals.{then-summary-via-then-summary, then-summary-via-else-summary+then-trace, then-summary-via-else-summary+else-trace+then-audit-image}

-- one thing is kept, and not both
one_kept : (kept : Kept) → is_journal kept ≡ is_image kept → ⊥
one_kept kepts.Journal both = let no : true ≡ false = both in cc
one_kept kepts.Image both = let no : false ≡ true = both in cc

-- of two flags that differ
other_false : (a b : Bool) → beq a b ≡ false → a ≡ true → b ≡ false
other_false true true differ set = differ
other_false true false differ set = refl
other_false false b differ set = let no : false ≡ true = set in absurd (cc)

other_true : (a b : Bool) → beq a b ≡ false → a ≡ false → b ≡ true
other_true false false differ unset = let no : true ≡ false = differ in absurd (cc)
other_true false true differ unset = refl
other_true true b differ unset = let no : true ≡ false = unset in absurd (cc)

-- and of two that are one
same_flags : (a b : Bool) → beq a b ≡ true → a ≡ b
same_flags true true same = refl
same_flags true false same = sym same
same_flags false true same = same
same_flags false false same = refl

pub returns-in_err-seed-clause-none : goal.returns-in_err-seed-clause-none
returns-in_err-seed-clause-none c = rw c.from_residual.ensures (λ asked asks. c.in_err-seed.ensures.none asked.seed (by_text (found_of c.args.options.now) (codes "seed") _ _ _ _ c.get_str.ensures asks.seeded))

pub returns-in_err-turns-clause-none : goal.returns-in_err-turns-clause-none
returns-in_err-turns-clause-none c = rw c.from_residual-in_err-turns.ensures (λ asked asks. c.in_err-turns.ensures.none asked.turns (by_text (found_of c.args.options.now) (codes "turns") _ _ _ _ c.get_str-2.ensures asks.limited))

pub returns-then-summary-clause-none : goal.returns-then-summary-clause-none
returns-then-summary-clause-none c = λ asked asks. elim c.then-summary.branch [
  | then-summary-via-then-summary w ↦
      let no : true ≡ false = sym w.if-summary.true ∙ c.is_flag_set-summary.ensures ∙ ap is_set (c.get_str-3.ensures ∙ first_value-rows (found_of c.args.options.now) (codes "summary")) ∙ asks.unsummed in
      cc
  | then-summary-via-else-summary+then-trace w ↦
      let no : true ≡ false = sym w.if-trace.true ∙ c.is_flag_set-trace.ensures ∙ ap is_set (c.get_str-4.ensures ∙ first_value-rows (found_of c.args.options.now) (codes "trace")) ∙ asks.untraced in
      cc
  | then-summary-via-else-summary+else-trace+then-audit-image w ↦
      one_kept asked.kept
      (sym asks.audited ∙ sym (c.is_flag_set-audit.ensures ∙ ap is_set (c.get_str-5.ensures ∙ first_value-rows (found_of c.args.options.now) (codes "audit"))) ∙ same_flags c.is_flag_set-audit.result c.is_flag_set-image.result w.if-audit-image.true
      ∙ c.is_flag_set-image.ensures ∙ ap is_set (c.get_str-6.ensures ∙ first_value-rows (found_of c.args.options.now) (codes "image")) ∙ asks.imaged)
]

pub returns-then-audit-clause-some : goal.returns-then-audit-clause-some
returns-then-audit-clause-some c =
    record {
      seeded = by_row (found_of c.args.options.now) (codes "seed") _ _ _ _ c.get_str.ensures c.in_ok-seed.ensures.some;
      limited = by_row (found_of c.args.options.now) (codes "turns") _ _ _ _ c.get_str-2.ensures c.in_ok-turns.ensures.some;
      unsummed = sym (c.is_flag_set-summary.ensures ∙ ap is_set (c.get_str-3.ensures ∙ first_value-rows (found_of c.args.options.now) (codes "summary"))) ∙ c.if-summary.false;
      untraced = sym (c.is_flag_set-trace.ensures ∙ ap is_set (c.get_str-4.ensures ∙ first_value-rows (found_of c.args.options.now) (codes "trace"))) ∙ c.if-trace.false;
      audited = sym (c.is_flag_set-audit.ensures ∙ ap is_set (c.get_str-5.ensures ∙ first_value-rows (found_of c.args.options.now) (codes "audit"))) ∙ c.if-audit.true;
      imaged = sym (c.is_flag_set-image.ensures ∙ ap is_set (c.get_str-6.ensures ∙ first_value-rows (found_of c.args.options.now) (codes "image"))) ∙ other_false c.is_flag_set-audit.result c.is_flag_set-image.result c.if-audit-image.false c.if-audit.true;
    }

pub returns-else-audit-clause-some : goal.returns-else-audit-clause-some
returns-else-audit-clause-some c =
    record {
      seeded = by_row (found_of c.args.options.now) (codes "seed") _ _ _ _ c.get_str.ensures c.in_ok-seed.ensures.some;
      limited = by_row (found_of c.args.options.now) (codes "turns") _ _ _ _ c.get_str-2.ensures c.in_ok-turns.ensures.some;
      unsummed = sym (c.is_flag_set-summary.ensures ∙ ap is_set (c.get_str-3.ensures ∙ first_value-rows (found_of c.args.options.now) (codes "summary"))) ∙ c.if-summary.false;
      untraced = sym (c.is_flag_set-trace.ensures ∙ ap is_set (c.get_str-4.ensures ∙ first_value-rows (found_of c.args.options.now) (codes "trace"))) ∙ c.if-trace.false;
      audited = sym (c.is_flag_set-audit.ensures ∙ ap is_set (c.get_str-5.ensures ∙ first_value-rows (found_of c.args.options.now) (codes "audit"))) ∙ c.if-audit.false;
      imaged = sym (c.is_flag_set-image.ensures ∙ ap is_set (c.get_str-6.ensures ∙ first_value-rows (found_of c.args.options.now) (codes "image"))) ∙ other_true c.is_flag_set-audit.result c.is_flag_set-image.result c.if-audit-image.false c.if-audit.false;
    }

-- The next row is opened, and is left no more.
use Rattle.std.proofs.Common.{◌≡◌, ℕ, suc, ◌+◌, ◌-◌, ◌*◌, ◌++◌, ◌∷◌, List, [], length, map, take, drop, ap, sym, ◌∙◌, arith, length-drop}
use Rattle.std.proofs.Math.Nat.{suc-mul}
use Rattle.std.proofs.lemmas.List.{append-nil}
use Rattle.rec_collector.proofs.Common.{Contents, retired}
use Rattle.rec_collector.specs.Rows.{rows_of}
use Rattle.rec_collector.proofs.Rows.{rows_more}
use Rattle.rec_collector.proofs.buffers.open_rows.Goals as goal

pub loop-init : goal.loop-init
loop-init c =
    let opens : ℕ → List Contents = λ n. map (λ own. retired own c.args.capacity) (rows_of c.args.registers n c.args.held.now) in
    let all : c.args.mutators ≡ c.args.mutators - 0 = omega arith in
    record {
      rows = ap opens all ∙ ap (λ row. row ++ opens (c.args.mutators - 0)) (sym c.in_ok-row.ensures.items);
      left = c.requires ∙ ap (λ n. n * c.args.registers) all;
    }

pub split_at-requires : goal.split_at-requires
split_at-requires c =
    let left : ℕ = c.args.mutators - (c.loop.counter + 1) in
    let more : c.args.mutators - c.loop.counter ≡ suc left = omega arith in
    let size : length c.loop.rest.now ≡ left * c.args.registers + c.args.registers = c.loop.invariant.left ∙ ap (λ n. n * c.args.registers) more ∙ suc-mul left c.args.registers in
    omega (arith, size, c.from-in-loop.ensures)

pub open_own-requires : goal.open_own-requires
open_own-requires c = c.split_at.ensures.front_len ∙ c.from-in-loop.ensures

pub returns : goal.returns
returns c =
    let none : c.args.mutators - c.loop.counter ≡ 0 = omega arith in
    sym (c.loop.invariant.rows
    ∙ ap (λ n. c.loop.row.items ++ map (λ own. retired own c.args.capacity) (rows_of c.args.registers n c.loop.rest.now)) none
    ∙ append-nil c.loop.row.items)

pub loop-preserved : goal.loop-preserved
loop-preserved c =
    let left : ℕ = c.args.mutators - (c.loop.counter + 1) in
    let more : c.args.mutators - c.loop.counter ≡ suc left = omega arith in
    let front : c.split_at.result.0.now ≡ take c.args.registers c.loop.rest.now = c.split_at.ensures.front ∙ ap (λ n. take n c.loop.rest.now) c.from-in-loop.ensures in
    let behind : c.split_at.result.1.now ≡ drop c.args.registers c.loop.rest.now = c.split_at.ensures.back ∙ ap (λ n. drop n c.loop.rest.now) c.from-in-loop.ensures in
    let pushed : c.push.new.self.items ≡ c.loop.row.items ++ retired c.split_at.result.0.now c.args.capacity ∷ [] = c.in_ok-push.ensures.items ∙ ap (λ b. c.loop.row.items ++ b ∷ []) c.in_ok-buffer.ensures in
    let rest : List Contents = map (λ own. retired own c.args.capacity) (rows_of c.args.registers left c.split_at.result.1.now) in
    let size : length c.loop.rest.now ≡ left * c.args.registers + c.args.registers = c.loop.invariant.left ∙ ap (λ n. n * c.args.registers) more ∙ suc-mul left c.args.registers in
    record {
      rows = c.loop.invariant.rows
          ∙ rows_more c.args.registers c.args.capacity (c.args.mutators - c.loop.counter) left c.loop.rest.now c.split_at.result.0.now c.split_at.result.1.now c.loop.row.items more front behind
          ∙ ap (λ row. row ++ rest) (sym pushed);
      left = ap length behind ∙ length-drop c.args.registers c.loop.rest.now ∙ omega (arith, size);
    }

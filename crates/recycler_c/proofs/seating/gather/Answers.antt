-- The contract of `gather`: the mutators that are out come home, in order of number.
use Rattle.std.proofs.Common.{◌≡◌, ◌≢◌, ℕ, ◌+◌, ◌<◌, Some, List, [], ◌∷◌, ◌++◌, length, get_or, sym, ap, ◌∙◌, arith, length-append}
use Rattle.std.proofs.Math.Seq.{get_or-append_seam}
use Rattle.std.proofs.lemmas.List.{get_or_append_left}
use mathlib.Core.Logic.{dite}
use native.Mathlib.Decide.{ℕ_discrete}
use Rattle.rec_table.specs.Views.{MutatorView}
use Rattle.recycler_c.specs.Standing.{mutates_in}
use Rattle.recycler_c.specs.declared.end.End.{End}
use Rattle.recycler_c.specs.declared.handle.Handle.{Handle}
use Rattle.recycler_c.proofs.Standings.{read_at, twice_other, twice_same}
use Rattle.recycler_c.proofs.seating.gather.Goals as goal

pub loop-k-preserved : goal.loop-k-preserved
loop-k-preserved c =
    let n : ℕ = c.loop-k.k in
    let i = c.loop-k.invariant in
    let hs : List Handle = c.loop-k.handles in
    let old : List MutatorView = c.loop-k.home.items in
    let one : MutatorView = c.mutator_of.result in
    let g : Handle = c.take-seat.new.self in
    let h : Handle = c.put.new.self in
    let there : n < length hs = omega arith in
    let items : c.push_reserved.new.self.items ≡ old ++ one ∷ [] = c.push_reserved.ensures.items in
    let long : length c.push_reserved.new.self.items ≡ length old + 1 = ap length items ∙ length-append old (one ∷ []) in
    record {
      many = omega (arith, long, i.many);
      capacity = c.push_reserved.ensures.capacity ∙ i.capacity;
      home = λ k d e m lt is. ap (λ (l : List MutatorView). get_or l k e) items ∙ dite (ℕ_discrete k n)
          (λ (same : k ≡ n). ap (λ (j : ℕ). get_or (old ++ one ∷ []) j e) (same ∙ sym i.many) ∙ get_or-append_seam old one [] e
          ∙ c.mutator_of.ensures m (ap (λ (x : End). mutates_in (Some x)) c.replace-out.ensures.value ∙ ap mutates_in (sym c.take-seat.ensures.was)
          ∙ ap mutates_in (sym (read_at hs k n c.index-handles-k.result d same there)) ∙ ap mutates_in (i.others k d (omega (arith, same))) ∙ is))
          (λ (ne : k ≢ n). get_or_append_left old (one ∷ []) e k (omega (arith, lt, ne, i.many)) ∙ i.home k d e m (omega (arith, lt, ne)) is);
      vacant = λ k d lt. dite (ℕ_discrete k n)
          (λ (same : k ≡ n). twice_same hs n k g h d same there ∙ c.put.ensures ∙ ap Some c.replace-out.ensures.after)
          (λ (ne : k ≢ n). twice_other hs n k g h d ne ∙ i.vacant k d (omega (arith, lt, ne)));
      others = λ k d ge. twice_other hs n k g h d (λ same. omega (arith, ge, same)) ∙ i.others k d (omega (arith, ge));
    }

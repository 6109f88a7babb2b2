-- What is seen of a heap of bare words is what is seen of the heap of dated words, but for the words.
use Rattle.std.proofs.Common.{◌≡◌, ℕ, ◌+◌, ◌-◌, ◌*◌, if◌then◌else◌, count_by, List, [], ◌∷◌, Option, drop, map, take, refl, sym, ap, subst, ◌∙◌, arith}
use Rattle.std.proofs.lemmas.List.{drop-map, take-map}
use Rattle.rec_word.specs.Bare.{bare}
use Rattle.rec_word.specs.Word.{is_slot, target_of}
use Rattle.rec_word.proofs.Bare.{target_of_bare}
use Rattle.rec_model.specs.Heap.{roots}
use Rattle.rec_model.specs.Reach.{named, IsReached}
use Rattle.rec_model.specs.Sight.{Reaches, targets_of, words_of}
use Rattle.rec_mutator.specs.Bare as mutators
use Rattle.rec_mutator.specs.Private.{Private}
use Rattle.rec_collector.proofs.Bare as collecting
use Rattle.rec_core.specs.Bare.{bare_core}
use Rattle.rec_core.specs.Core.{Core, sight}
use Rattle.rec_core.specs.Moves.{Move, turned}
use Rattle.rec_core.specs.Reach.{KeepsReached}
use Rattle.rec_core.specs.Swept.{IsSweep, SweepsNothing}
use Rattle.rec_core.proofs.Bare.{move_bare}
use Rattle.rec_core.proofs.Dated.{Explains}
use Rattle.std.proofs.lemmas.List.Sums.{sum_by-cons}

registers_same : (ps : List Private) → map (λ (p : Private). p.registers) (map mutators.bare_private ps) ≡ map (λ (p : Private). p.registers) ps
registers_same [] = refl
registers_same (p ∷ ps) = ap (λ (rss : List (List (Option ℕ))). p.registers ∷ rss) (registers_same ps)

pub registers_bare : (v : Core) → (sight (bare_core v)).registers ≡ (sight v).registers
registers_bare v = registers_same v.mutators

pub words_bare : (v : Core) (slot : ℕ) → words_of (sight (bare_core v)) slot ≡ map bare (words_of (sight v) slot)
words_bare v slot =
    let from : ℕ = slot * v.config.fields in
    let many : ℕ = slot * v.config.fields + v.config.fields - slot * v.config.fields in
    ap (take many) (drop-map bare from v.words) ∙ take-map bare many (drop from v.words)

leads_bare : (words : List ℕ) → map target_of (map bare words) ≡ map target_of words
leads_bare [] = refl
leads_bare (word ∷ words) = let first : target_of (bare word) ≡ target_of word = target_of_bare word in let rest = leads_bare words in (λ i. first i ∷ rest i)

pub targets_bare : (v : Core) (slot : ℕ) → targets_of (sight (bare_core v)) slot ≡ targets_of (sight v) slot
targets_bare v slot = ap (λ ws. named (map target_of ws)) (words_bare v slot) ∙ ap named (leads_bare (words_of (sight v) slot))

-- the same slots are reached
pub reached_too : (v : Core) (slot : ℕ) → Reaches (sight (bare_core v)) slot → Reaches (sight v) slot
reached_too v slot from =
    subst (λ (f : ℕ → List ℕ). IsReached (roots (sight v).registers) f slot) (λ i s. targets_bare v s i) (subst (λ rss. IsReached (roots rss) (targets_of (sight (bare_core v))) slot) (registers_bare v) from)

pub reached_bare : (v : Core) (slot : ℕ) → Reaches (sight v) slot → Reaches (sight (bare_core v)) slot
reached_bare v slot from =
    subst (λ (f : ℕ → List ℕ). IsReached (roots (sight (bare_core v)).registers) f slot) (λ i s. sym (targets_bare v s) i) (subst (λ rss. IsReached (roots rss) (targets_of (sight v)) slot) (sym (registers_bare v)) from)

-- what a move leaves of what registers reach
pub keeps_bare : (v u : Core) → KeepsReached (sight v) (sight u) → KeepsReached (sight (bare_core v)) (sight (bare_core u))
keeps_bare v u k = record {
  fields = k.fields;
  registers = registers_bare u ∙ (k.registers ∙ sym (registers_bare v));
  reached = λ slot from.
      let old = k.reached slot (reached_too v slot from) in
      (old.0, words_bare u slot ∙ (ap (map bare) old.1 ∙ sym (words_bare v slot)));
  others = k.others;
}

-- what a turn sweeps
pub sweep_bare : (w v : Core) → IsSweep w v → IsSweep (bare_core w) (bare_core v)
sweep_bare w v (IsSweep.rests nothing headers freed some) = IsSweep.rests (subst SweepsNothing (sym (collecting.next_bare w.collector)) nothing) headers freed some
sweep_bare w v (IsSweep.marks named headers freed some none) = IsSweep.marks (collecting.next_bare w.collector ∙ named) headers freed some none
sweep_bare w v (IsSweep.frees slot named there taken unreached odd headers freed) = IsSweep.frees slot (collecting.next_bare w.collector ∙ named) there taken (λ from. unreached (reached_too w slot from)) odd headers freed

-- a turn of the heap is the bare one of the heap behind it
pub turned_behind : (v w : Core) → Explains v w → bare_core (turned v) ≡ turned w
turned_behind v w e = sym (move_bare v Move.Turns e.kept tt) ∙ ap turned e.bare

-- as many bare words lead to a slot as words
pub words_alike : (slot : ℕ) (words : List ℕ) → count_by (λ word. is_slot slot (target_of word)) (map bare words) ≡ count_by (λ word. is_slot slot (target_of word)) words
words_alike slot [] = refl
words_alike slot (word ∷ words) =
    let weight : Option ℕ → ℕ = λ t. if is_slot slot t then 1 else 0 in
    omega (
      arith,
      sum_by-cons (λ x. weight (target_of x)) (bare word) (map bare words),
      sum_by-cons (λ x. weight (target_of x)) word words,
      ap weight (target_of_bare word),
      words_alike slot words,
    )

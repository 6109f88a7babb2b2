-- Nobody parks: a crossing word has no bit of parking, so that the collector takes what was retired or waits, and crosses for nobody.
use Rattle.std.proofs.Common.{◌≡◌, ◌≢◌, ℕ, ◌+◌, ◌^◌, ◌<◌, ◌≤◌, Option, Some, Bool, length, inl, inr, refl, sym, ap, subst, ◌∙◌, arith}
use Rattle.rec_core.proofs.Common.{crossing_word, Retired, Spare, WithMutator, WithCollector, Op, Contents, Private, Looking, Returning, cell, Config, IsMutator, Core, cells_of, mutator, box, crossing_of, Handshake, IsHandshake, IsKept}
use Rattle.rec_word.specs.Looked.{looked}
use Rattle.rec_word.specs.declared.looked.Looked.TheVariants.{Takes, Crosses, Waits}
use Rattle.rec_word.specs.declared.mailbox.Mailbox.{Mailbox}
use Rattle.rec_word.specs.declared.op.Op.TheVariants as ops
use Rattle.rec_word.proofs.Looks.{plain_crosses, plain_returned, plain_takes, plain_waits}
use Rattle.rec_word.specs.Op.{written}
use Rattle.rec_collector.specs.Next.{next_at, next_of}
use Rattle.rec_collector.specs.Private as collectors
use Rattle.rec_core.proofs.Crossings.{held_stands}
use Rattle.rec_core.proofs.Turns.{now_at}

small : (epoch : ℕ) (mailbox : Mailbox) → epoch ≤ 2 ^ 24 → crossing_word epoch mailbox < 2 ^ 32
small epoch Spare few = omega (arith, few)
small epoch WithMutator few = omega (arith, few)
small epoch Retired few = omega (arith, few)
small epoch WithCollector few = omega (arith, few)

word_of : (epoch crossing : ℕ) (mailbox : Mailbox) → crossing ≡ crossing_word epoch mailbox → epoch ≤ 2 ^ 24 → crossing < 2 ^ 32
word_of epoch crossing mailbox is few = subst (λ n. n < 2 ^ 32) (sym is) (small epoch mailbox few)

handshake_small : (config : Config) (requested : ℕ) (p : Private) (crossing : ℕ) (b : Contents) (stand : Handshake) → requested < 2 ^ 24 → IsHandshake config requested p crossing b stand → crossing < 2 ^ 32
handshake_small config requested p crossing b Handshake.Done few (inl (crossed, there, spare)) = word_of requested crossing Spare crossed.word (omega (arith, few))
handshake_small config requested p crossing b Handshake.Done few (inr (inl (crosses, parting))) = word_of (requested + 1) crossing WithMutator crosses.word (omega (arith, few))
handshake_small config requested p crossing b Handshake.Done few (inr (inr retired)) = word_of (requested + 1) crossing Retired retired.word (omega (arith, few))
handshake_small config requested p crossing b Handshake.Held few is = word_of requested crossing WithCollector is.0.word (omega (arith, few))
handshake_small config requested p crossing b Handshake.Due few (inl behind) = word_of p.epoch crossing Spare behind.word (omega (arith, few, behind.epoch))
handshake_small config requested p crossing b Handshake.Due few (inr (inl crosses)) = word_of requested crossing WithMutator crosses.word (omega (arith, few))
handshake_small config requested p crossing b Handshake.Due few (inr (inr (crossed, last))) = word_of requested crossing Retired crossed.word (omega (arith, few))
handshake_small config requested p crossing b Handshake.Gone few gone = word_of p.epoch crossing Spare gone.word (omega (arith, few, gone.past))

-- each crossing word has 32 bits
pub crossing_small : {dated : Bool} → (w : Core) (t : ℕ) → IsKept dated w → IsMutator w.config t → crossing_of w t < 2 ^ 32
crossing_small w t kept is =
    let few : w.collector.epoch < 2 ^ 24 = kept.collector.machine.epoch in
    handshake_small w.config w.epoch (mutator w t) (crossing_of w t) (box w t) _ (omega (arith, few, kept.collector.epoch)) (kept.mutators.each t is).handshake

-- so what a look comes to says what it found
module _ {dated : Bool} (w : Core) (t : ℕ) (kept : IsKept dated w) (looks : w.collector.phase ≡ Looking t) where
  pub looked_small : crossing_of w t < 2 ^ 32
  looked_small =
      let now = now_at w (Looking t) kept looks in
      let many : length w.collector.newer ≡ w.config.mutators = kept.collector.mutators in
      crossing_small w t kept (omega (arith, now.first), omega (arith, now.there, many))

  module _ (op : Op) (word : ℕ) (named : ◌≡◌ {A = Option Op} (Some op) (Some (ops.LookBox t w.collector.epoch))) (found : word ≡ cell (cells_of w) op) where
    found_word : word ≡ crossing_of w t
    found_word = let its : op ≡ ops.LookBox t w.collector.epoch = cc in found ∙ ap (cell (cells_of w)) its

    pub found_small : word < 2 ^ 32
    found_small = subst (λ n. n < 2 ^ 32) (sym found_word) looked_small

    pub takes_retired : {new : ℕ} → looked w.collector.epoch word ≡ Takes new → word ≡ crossing_word w.collector.epoch Retired
    takes_retired {new} takes = plain_takes w.collector.epoch word found_small new takes

    pub waits_other : looked w.collector.epoch word ≡ Waits → word ≢ crossing_word w.collector.epoch Retired
    waits_other stays = plain_waits w.collector.epoch word found_small stays

    pub crosses_none : {new : ℕ} → looked w.collector.epoch word ≡ Crosses new → ⊥
    crosses_none {new} crosses = plain_crosses w.collector.epoch word found_small new crosses

-- and giving a mailbox back says that it is home with a spare
pub gives_home : {dated : Bool} → (w : Core) (t : ℕ) (op : Op) (word : ℕ) → IsKept dated w → w.collector.phase ≡ Returning t → IsMutator w.config t → ◌≡◌ {A = Option Op} (Some op) (Some (ops.ReturnBox t w.collector.epoch))
    → word ≡ cell (cells_of w) op → written (ops.ReturnBox t w.collector.epoch) word ≡ crossing_word w.collector.epoch Spare
gives_home w t op word kept returning is named found =
    let its : op ≡ ops.ReturnBox t w.collector.epoch = cc in
    let held = subst (IsHandshake w.config w.epoch (mutator w t) (crossing_of w t) (box w t)) (held_stands w t kept returning) (kept.mutators.each t is).handshake in
    let at : word ≡ crossing_word w.collector.epoch WithCollector = found ∙ ap (cell (cells_of w)) its ∙ held.0.word ∙ ap (λ n. crossing_word n WithCollector) (sym kept.collector.epoch) in
    let few : w.collector.epoch < 2 ^ 24 = kept.collector.machine.epoch in
    ap (written (ops.ReturnBox t w.collector.epoch)) at ∙ plain_returned t w.collector.epoch (omega (arith, few))

-- a step that finds this word crosses for nobody
abbrev pub CrossesNone : collectors.Private → (word : ℕ) → Type 0
CrossesNone c word = (t new : ℕ) → c.phase ≡ Looking t → looked c.epoch word ≡ Crosses new → ⊥

pub none_crossed : {dated : Bool} → (w : Core) (op : Op) → IsKept dated w → ◌≡◌ {A = Option Op} (next_of w.collector) (Some op) → CrossesNone w.collector (cell (cells_of w) op)
unfolding next_of next_at
none_crossed w op kept named = λ t new looks crosses. crosses_none w t kept looks op (cell (cells_of w) op) (sym named ∙ ap (next_at w.collector) looks) refl crosses

-- a look finds a word of 32 bits
abbrev pub FindsPlain : collectors.Private → (word : ℕ) → Type 0
FindsPlain c word = (t : ℕ) → c.phase ≡ Looking t → word < 2 ^ 32

pub finds_plain : {dated : Bool} → (w : Core) (op : Op) → IsKept dated w → ◌≡◌ {A = Option Op} (next_of w.collector) (Some op) → FindsPlain w.collector (cell (cells_of w) op)
unfolding next_of next_at
finds_plain w op kept named = λ t looks. found_small w t kept looks op (cell (cells_of w) op) (sym named ∙ ap (next_at w.collector) looks) refl

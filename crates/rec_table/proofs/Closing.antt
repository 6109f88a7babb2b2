-- The world that a closed table leaves, part by part.
use Rattle.std.proofs.Common.{◌≡◌, ⊎_elim, ℕ, zero, suc, ◌+◌, ◌-◌, ◌%◌, ◌<◌, arith, Bool, true, false, true≢false, cond, List, [], ◌∷◌, map, length, nat_lt, get_or, All, Option, Some, refl, sym, ap, ◌∙◌, subst}
use Rattle.rec_collector.specs.Present.{has_left}
use Rattle.rec_collector.specs.Private as collectors
use Rattle.rec_collector.specs.Step.{IsBetween}
use Rattle.rec_collector.specs.declared.phase.Phase.{Phase}
use Rattle.rec_collector.specs.declared.phase.Phase.TheVariants.{Looking, Swapping, Returning}
use Rattle.std.specs.Option.{IfSome}
use Rattle.rec_table.proofs.Common.{Contents, Private, is_busy, IsMutator, Op, may_turn, Core, cells_of, mutator, nobody, IsKept, IsHandshake, Handshake, stand_at, stand_in, after_moves, IsWorld, world_kept, told, gathered_all, cells_of_row, boxes_at, boxes_out, CollectorSeat, config_after}
use Rattle.rec_word.specs.declared.op.Op.TheVariants as ops
use Rattle.rec_core.specs.Preconditions.{MayTurn}
use Rattle.rec_table.proofs.Turns.{held_so, returns_op}
use Rattle.rec_core.specs.declared.config.Config.{Config}
use Rattle.rec_table.specs.Ends.{IsRunOf}
use Rattle.rec_table.proofs.Ends.{same_boxes}
use Rattle.rec_core.proofs.Actors.{idle_here}
use Rattle.rec_world.proofs.Row.{cells_row}
use Rattle.rec_table.proofs.Seats.{all_home}
use Rattle.rec_table.proofs.Steps.{places_after, slots_after}

is_held : Handshake → Bool
is_held Handshake.Done = false
is_held Handshake.Held = true
is_held Handshake.Due = false
is_held Handshake.Gone = false

nothing_out : (x : ℕ × Option Contents) (l : List (ℕ × Option Contents)) → x ∷ l ≡ [] → ⊥
nothing_out x l e = let bad : suc (length l) ≡ 0 = ap length e in absurd (omega (arith, bad))

not_held : (c : collectors.Private) (t : ℕ) (phase : Phase) → IsBetween phase → boxes_at c phase ≡ [] → is_held (stand_at c.left phase t) ≡ false
unfolding is_held
not_held c t phase between none = go (has_left c.left t)
  where
    looked : (b : Bool) → is_held (cond b Handshake.Done Handshake.Due) ≡ false
    looked true = refl
    looked false = refl

    present : (at_phase : Phase) → IsBetween at_phase → boxes_at c at_phase ≡ [] → is_held (stand_in at_phase t) ≡ false
    present (Looking u) between none = looked (nat_lt t u)
    present (Swapping u) between none = absurd between
    present (Returning u) between none = absurd (nothing_out (u - 1, Some (collectors.spare c)) [] none)
    present _ between none = refl

    go : (left : Bool) → is_held (cond left Handshake.Gone (stand_in phase t)) ≡ false
    go true = refl
    go false = present phase between none

even_at : (config : Config) (requested : ℕ) (p : Private) (x : ℕ) (b : Contents) (st : Handshake) → is_held st ≡ false → is_busy p ≡ false → IsHandshake config requested p x b st → x % 2 ≡ 0
unfolding is_held
even_at config requested p x b Handshake.Done free idle h =
    ⊎_elim
    (λ done. let e = done.0.word in omega (arith, e))
    (λ ahead. ⊎_elim (λ leaving. absurd (true≢false (sym leaving.0.phase ∙ idle_here p.phase idle))) (λ retired. let e = retired.word in omega (arith, e)) ahead)
    h
even_at config requested p x b Handshake.Held free idle h = absurd (true≢false free)
even_at config requested p x b Handshake.Due free idle h =
    ⊎_elim
    (λ behind. let e = behind.word in omega (arith, e))
    (λ other. ⊎_elim (λ crossing. absurd (true≢false (sym crossing.phase ∙ idle_here p.phase idle))) (λ crossed. let e = crossed.0.word in omega (arith, e)) other)
    h
even_at config requested p x b Handshake.Gone free idle h = let e = h.word in omega (arith, e)

same_or : (l : List ℕ) (k d e : ℕ) → k < length l → get_or l k d ≡ get_or l k e
same_or [] k d e lt = absurd (omega arith)
same_or (x ∷ l) zero d e lt = refl
same_or (x ∷ l) (suc k) d e lt = same_or l k d e (omega (arith, lt))

-- where all mutators are idle and the collector holds no mailbox, every mailbox is home
pub all_even : (w : Core) → IsKept false w → ((k : ℕ) → k < w.config.mutators → is_busy (mutator w (k + 1)) ≡ false) → boxes_out w.collector ≡ [] → All (λ word. word % 2 ≡ 0) w.crossing
all_even w kept idle none = λ k d lt.
    let many = kept.mutators.words in
    let is : IsMutator w.config (k + 1) = (omega arith, omega (arith, lt, many)) in
    let actor = kept.mutators.each (k + 1) is in
    let even : get_or w.crossing (k + 1 - 1) 0 % 2 ≡ 0 =
    even_at w.config w.epoch (mutator w (k + 1)) _ _ (stand_at w.collector.left w.collector.phase (k + 1)) (not_held w.collector (k + 1) w.collector.phase kept.collector.between none) (idle k (omega (arith, lt, many))) actor.handshake in
    let at_k : k + 1 - 1 ≡ k = omega arith in
    ap (λ (n : ℕ). n % 2) (same_or w.crossing k d 0 lt) ∙ ap (λ (n : ℕ). get_or w.crossing n 0 % 2) (sym at_k) ∙ even

by_index : (xs ys : List Private) → length xs ≡ length ys → ((k : ℕ) → k < length xs → get_or xs k nobody ≡ get_or ys k nobody) → xs ≡ ys
by_index [] [] e each = refl
by_index [] (y ∷ ys) e each = absurd (omega arith)
by_index (x ∷ xs) [] e each = absurd (omega arith)
by_index (x ∷ xs) (y ∷ ys) e each = λ i. each 0 (omega arith) i ∷ by_index xs ys (omega arith) (λ k lt. each (suc k) (omega arith)) i

-- all but the births
pub record Ends (key : Core) (c : CollectorSeat) (ws : List ℕ) (xs : List (Option Contents)) (ms : List Private) (g : collectors.Private) (r : IsRunOf key c ws xs) : Type 0 where
  pub config : (after_moves key r.run).config ≡ key.config
  pub cells : cells_of (after_moves key r.run) ≡ cells_of_row (length key.words) (length key.headers) ws
  pub boxes : map (λ b. Some b) (after_moves key r.run).boxes ≡ xs
  pub mutators : (after_moves key r.run).mutators ≡ ms
  pub collector : (after_moves key r.run).collector ≡ g

pub ends : (key : Core) (c : CollectorSeat) (ws : List ℕ) (xs : List (Option Contents)) (ms : List Private) (g : collectors.Private) (r : IsRunOf key c ws xs) → IsWorld key
    → g ≡ gathered_all key.collector c.log → boxes_out g ≡ [] → length ms ≡ key.config.mutators
    → ((k : ℕ) → k < key.config.mutators → (get_or ms k nobody ≡ told (mutator key (k + 1)) (get_or c.known k [])) × (is_busy (get_or ms k nobody) ≡ false)) → Ends key c ws xs ms g r
ends key c ws xs ms g r world g_is none many each =
    let w : Core = after_moves key r.run in
    let kept : IsKept false w = world_kept w r.world in
    let key_kept : IsKept false key = world_kept key world in
    let config : w.config ≡ key.config = config_after key r.run in
    let there : w.config.mutators ≡ key.config.mutators = ap (λ (x : Config). x.mutators) config in
    let is_g : w.collector ≡ g = r.collector ∙ sym g_is in
    let at_k : (k : ℕ) → k + 1 - 1 ≡ k = λ k. omega arith in
    let one : (k : ℕ) → k < key.config.mutators → mutator w (k + 1) ≡ get_or ms k nobody = λ k lt. r.mutators k lt ∙ sym (each k lt).0 in
    let even : All (λ word. word % 2 ≡ 0) w.crossing = all_even w kept (λ k lt. ap is_busy (one k (omega (arith, lt, there))) ∙ (each k (omega (arith, lt, there))).1) (ap boxes_out is_g ∙ none) in
    let words_many = kept.mutators.words in
    let boxes_many = kept.mutators.mailboxes in
    let machines_many = kept.mutators.many in
    record {
      config = config;
      cells = sym (cells_row (cells_of w)) ∙ (λ i. cells_of_row (places_after key r.run key_kept r.fit i) (slots_after key r.run key_kept r.fit i) (sym r.words i));
      boxes = same_boxes r.homes xs r.many r.boxes (map (λ b. Some b) w.boxes) (r.homes_are ∙ all_home w.crossing w.boxes (omega (arith, words_many, boxes_many)) even);
      mutators = by_index w.mutators ms (omega (arith, machines_many, there, many)) (λ k lt. ap (λ (n : ℕ). get_or w.mutators n nobody) (sym (at_k k)) ∙ one k (omega (arith, lt, machines_many, there)));
      collector = is_g;
    }

-- and the other way: where every mailbox is home, the collector holds none
pub none_out_where_even : (w : Core) → IsKept false w → All (λ word. word % 2 ≡ 0) w.crossing → boxes_out w.collector ≡ []
none_out_where_even w kept even = by w.collector.phase refl
  where
    by : (phase : Phase) → w.collector.phase ≡ phase → boxes_at w.collector phase ≡ []
    by (Returning t) is =
        let may : MayTurn w (ops.ReturnBox t w.collector.epoch) = subst (λ (x : Option Op). IfSome x (MayTurn w)) (returns_op w.collector t is) (may_turn w kept) in
        let words_many = kept.mutators.words in
        let there : IsMutator w.config t = (may.within.0, omega (arith, may.within.1, words_many)) in
        let word = (held_so w t kept there is).0.word in
        let zero_ = even (t - 1) 0 (omega (arith, may.within.0, may.within.1)) in
        absurd (omega (arith, word, zero_))
    by _ is = refl

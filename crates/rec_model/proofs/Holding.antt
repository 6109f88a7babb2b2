-- What mutators hold is in reach, through each kind of move.
use Rattle.std.proofs.Common.{◌≡◌, ◌⊎◌, inl, inr, ℕ, ◌+◌, ◌<◌, ◌≤◌, false, ltb, List, length, sum_by, refl, sym, subst, arith}
use Rattle.std.proofs.lemmas.Bool.Decides.{nat_tests}
use Rattle.std.proofs.lemmas.Bool.{cases_lt, cases_eq}
use Rattle.std.proofs.lemmas.List.Sums.{sum_by-le-sum_by}
use Rattle.rec_model.proofs.Common.{only_if, one_if_same, node_of, epoch_of, home, Write, Dated, dated, Pending, word_in, is_at, Holds, IsInReach, opened_to, closed_from, Puts, Loads, Registers, Bears, Crosses, LetsGo, Clears, with_answer, is_wrong_write, is_wrong_register, HasEpochs, is_from, is_after, late, put_late, StandsOnce, touches, IsHeldAt, IsHeld}
use Rattle.rec_model.proofs.Sums.{get_or-le-sum_at, sum_by_le_unless, sum_by_split}
use Rattle.rec_model.proofs.Weights.{only_if_lt, only_if_le, only_if_self, none_if_not_lt, none_if_other, lt_from_only_if, one_if_self, none_if_differs, one_of_three}
use Rattle.rec_model.proofs.Counted.{opened_from, closed_out_of, edge_sum}
use Rattle.rec_model.proofs.Reaching.{root_in_reach, target_in_reach, reach_stays}
use Rattle.rec_model.proofs.Ledgers.{epoch_of_null, epoch_after}

-- what writes and registers of epochs after j name
abbrev pub held_sum : Pending → (j node : ℕ) → ℕ
held_sum w j node = sum_by (touches w.fields j node) w.writes + sum_by (is_after j node) w.registers

-- what a mutator of a later epoch has is in reach
pub held_in_reach : (w : Pending) (j epoch x : ℕ) → IsHeldAt w j → Holds w epoch x → j < epoch → 0 < x → IsInReach w j x
held_in_reach w j epoch x h has late pos = h x pos (omega (arith, has, sum_by-le-sum_by (is_at epoch x) (is_after j x) w.registers (λ d. grind (arith, nat_tests))))

-- what stands in a field of a node in reach is in reach
loaded_in_reach : (w : Pending) (j place : ℕ) → StandsOnce w → IsHeldAt w j → w.applied ≤ j → place < length w.words → IsInReach w j (home w.fields place) → 0 < node_of (word_in w place) → IsInReach w j (node_of (word_in w place))
loaded_in_reach w j place o h from inside reached pos =
    let word : ℕ = word_in w place in
    let x : ℕ = node_of word in
    let q : ℕ → ℕ → ℕ = λ i u. only_if (ltb j (epoch_of u)) (one_if_same x (node_of u)) in
    elim (cases_lt j (epoch_of word)) [
      | inl l ↦
          h x pos (omega (
            arith,
            o q,
            get_or-le-sum_at (late w.applied q) w.words place 0 inside,
            only_if_lt w.applied (epoch_of word) (q place word) (omega (arith, l, from)),
            only_if_lt j (epoch_of word) (one_if_same x x) l,
            one_if_self x,
            sum_by-le-sum_by (put_late w.applied q) (touches w.fields j x) w.writes (λ e. grind (arith, nat_tests)),
          ))
      | inr l ↦
          target_in_reach w j (home w.fields place) x pos reached (omega (
            arith,
            get_or-le-sum_at (opened_from w.fields j (home w.fields place) x) w.words place 0 inside,
            only_if_le (epoch_of word) j (one_if_same x x) l,
            one_if_self x,
            only_if_self (home w.fields place) (opened_to j x place word),
          ))
    ]

-- a write
module _ (w v : Pending) (epoch place new : ℕ) (s : Puts w v epoch place new) (ep : HasEpochs w) (o : StandsOnce w) (j : ℕ) (from : w.applied ≤ j) (below : j < w.requested) (h : IsHeldAt w j) where
  put_keeps_edge : (r x : ℕ) → edge_sum w j r x ≤ edge_sum (record w { words = v.words; writes = v.writes }) j r x
  put_keeps_edge r x =
      let after : w.applied < epoch = epoch_after w epoch (home w.fields place) ep s.source in
      let old : ℕ = word_in w place in
      omega (
        arith,
        s.words (opened_from w.fields j r x),
        s.writes (closed_out_of w.fields j r x),
        closing (only_if_le j (epoch_of new) (opened_to j x place old) (omega (arith, s.stamp, ep.near, after, below))),
      )
    where
      closing : closed_from j x (record { place = place; new = new; old = word_in w place }) ≡ opened_to j x place (word_in w place)
          → closed_out_of w.fields j r x (record { place = place; new = new; old = word_in w place }) ≡ opened_from w.fields j r x place (word_in w place)
      closing e = rw e refl

  put_keeps : (x : ℕ) → IsInReach w j x → IsInReach (record w { words = v.words; writes = v.writes }) j x
  put_keeps = reach_stays w (record w { words = v.words; writes = v.writes }) j (λ x pos q. q) (λ r x _ _ _ q. omega (arith, q, put_keeps_edge r x))

  put_names : (x : ℕ) → 0 < x → j < epoch → (x ≡ home w.fields place) ⊎ ((x ≡ node_of new) ⊎ (x ≡ node_of (word_in w place))) → IsInReach w j x
  put_names x pos late (inl e) = subst (IsInReach w j) (sym e) (held_in_reach w j epoch (home w.fields place) h s.source late (omega arith))
  put_names x pos late (inr (inl e)) = subst (IsInReach w j) (sym e) (held_in_reach w j epoch (node_of new) h (s.target (omega (arith, e, pos))) late (omega (arith, e, pos)))
  put_names x pos late (inr (inr e)) =
      subst (IsInReach w j) (sym e) (loaded_in_reach w j place o h from s.inside (held_in_reach w j epoch (home w.fields place) h s.source late (omega arith)) (omega (arith, e, pos)))

  pub put_held : IsHeldAt (record w { words = v.words; writes = v.writes }) j
  put_held x pos q =
      let e : Write = record { place = place; new = new; old = word_in w place } in
      elim (cases_lt 0 (held_sum w j x)) [
        | inl l ↦ put_keeps x (h x pos l)
        | inr l ↦
            let t : 0 < touches w.fields j x e = omega (arith, q, l, s.writes (touches w.fields j x)) in
            let late : j < epoch_of new = lt_from_only_if j (epoch_of new) (one_if_same x (home w.fields place) + one_if_same x (node_of new) + one_if_same x (node_of (word_in w place))) t in
            put_keeps x (put_names x pos (omega (arith, late, s.stamp)) (one_of_three x (home w.fields place) (node_of new) (node_of (word_in w place)) (omega (
              arith,
              t,
              only_if_lt j (epoch_of new) (one_if_same x (home w.fields place) + one_if_same x (node_of new) + one_if_same x (node_of (word_in w place))) late,
            ))))
      ]

-- a register
register_names : (w : Pending) (epoch new : ℕ) → StandsOnce w → (j : ℕ) → w.applied ≤ j → IsHeldAt w j → j < epoch → 0 < new → Holds w epoch new ⊎ Loads w epoch new → IsInReach w j new
register_names w epoch new o j from h late pos (inl has) = held_in_reach w j epoch new h has late pos
register_names w epoch new o j from h late pos (inr l) =
    subst (IsInReach w j) (sym l.target) (loaded_in_reach w j l.place o h from l.inside (held_in_reach w j epoch (home w.fields l.place) h l.source late (omega arith)) (omega (arith, l.target, pos)))

pub register_held : (w v : Pending) (epoch old new : ℕ) → Registers w v epoch old new → StandsOnce w → (j : ℕ) → w.applied ≤ j → IsHeldAt w j → IsHeldAt (record w { registers = v.registers }) j
register_held w v epoch old new s o j from h x pos q =
    elim (cases_lt 0 (held_sum w j x)) [
      | inl l ↦ h x pos l
      | inr l ↦
          let t : 0 < is_after j x (dated epoch new) = omega (arith, q, l, s.registers (is_after j x)) in
          let late : j < epoch = lt_from_only_if j epoch (one_if_same x new) t in
          elim (cases_eq x new) [
            | inl e ↦ subst (IsInReach w j) (sym e) (register_names w epoch new o j from h late (omega (arith, e, pos)) (s.value (omega (arith, e, pos))))
            | inr e ↦ absurd (omega (arith, t, only_if_lt j epoch (one_if_same x new) late, none_if_differs x new e))
          ]
    ]

-- a birth
pub birth_held : (w v : Pending) (epoch old x : ℕ) → Bears w v epoch old x → (j : ℕ) → IsHeldAt w j → IsHeldAt (record w { births = v.births; registers = v.registers; free = with_answer w.free x false; leaf = v.leaf }) j
birth_held w v epoch old x s j h y pos q =
    let u : Pending = record w { births = v.births; registers = v.registers; free = with_answer w.free x false; leaf = v.leaf } in
    elim (cases_lt 0 (held_sum w j y)) [
      | inl l ↦ reach_stays w u j (λ z _ r. omega (arith, r, s.births (is_from j z))) (λ a b _ _ _ r. r) y (h y pos l)
      | inr l ↦ root_in_reach u j y pos (omega (arith, q, l, s.registers (is_after j y), s.births (is_from j y), more (dated epoch x)))
    ]
  where
    more : (d : Dated) → is_after j y d ≤ is_from j y d
    more d = grind (arith, nat_tests)

-- a crossing
pub crossing_held : (w v : Pending) (epoch : ℕ) (ns : List ℕ) → Crosses w v epoch ns → (j : ℕ) → j < w.requested → IsHeldAt w j → IsHeldAt (record w { snapshots = v.snapshots; registers = v.registers }) j
crossing_held w v epoch ns s j below h x pos q =
    let u : Pending = record w { snapshots = v.snapshots; registers = v.registers } in
    let asked : epoch + 1 ≡ w.requested = s.asked in
    elim (cases_lt 0 (held_sum w j x)) [
      | inl l ↦ reach_stays w u j (λ z _ r. omega (arith, r, s.snapshots (is_at j z))) (λ a b _ _ _ r. r) x (h x pos l)
      | inr l ↦
          root_in_reach u j x pos (omega (
            arith,
            q,
            l,
            s.registers (is_after j x),
            s.snapshots (is_at j x),
            sum_by-le-sum_by (λ n. is_after j x (dated (epoch + 1) n)) (λ n. is_after j x (dated epoch n) + is_at j x (dated epoch n)) ns (λ n. grind (arith, nat_tests)),
            sum_by_split (λ n. is_after j x (dated epoch n) + is_at j x (dated epoch n)) (λ n. is_after j x (dated epoch n)) (λ n. is_at j x (dated epoch n)) ns (λ n. refl),
          ))
    ]

-- a mutator that leaves
pub leaving_held : (w v : Pending) → LetsGo w v → (j : ℕ) → IsHeldAt w j → IsHeldAt (record w { registers = v.registers }) j
leaving_held w v s j h x pos q = h x pos (omega (arith, q, s.registers (is_after j x)))

-- a request
pub request_held : (w : Pending) → HasEpochs w → IsHeld w → IsHeld (record w { requested = w.requested + 1 })
request_held w ep h j from below =
    elim (cases_lt j w.requested) [
      | inl l ↦ λ x pos q. h j from l x pos q
      | inr l ↦ λ x pos q. absurd (omega (
        arith,
        q,
        ep.writes,
        ep.registers,
        sum_by_le_unless (is_wrong_write w.requested) (touches w.fields j x) (is_wrong_write w.requested) w.writes ep.writes (λ e b. grind (arith, nat_tests)),
        sum_by_le_unless (is_wrong_register w.applied w.requested) (is_after j x) (is_wrong_register w.applied w.requested) w.registers ep.registers (λ d b. grind (arith, nat_tests)),
      ))
    ]

-- the node of a field that holds a word of a late epoch is in reach
pub late_home_in_reach : (w : Pending) (place : ℕ) → place < length w.words → StandsOnce w → IsHeldAt w w.applied → w.applied < epoch_of (word_in w place) → IsInReach w w.applied (home w.fields place)
late_home_in_reach w place inside o h l =
    let a : ℕ = w.applied in
    let word : ℕ = word_in w place in
    let slot : ℕ = home w.fields place in
    let r : ℕ → ℕ → ℕ = λ i u. one_if_same slot (home w.fields i) in
    h slot (omega arith) (omega (
      arith,
      o r,
      get_or-le-sum_at (late a r) w.words place 0 inside,
      only_if_lt a (epoch_of word) (r place word) l,
      one_if_self slot,
      sum_by-le-sum_by (put_late a r) (touches w.fields a slot) w.writes (λ e. grind (arith, nat_tests)),
    ))

-- a field that is cleared
pub clearing_held : (w v : Pending) (place : ℕ) → Clears w v place → (j : ℕ) → (IsInReach w j (home w.fields place) → ⊥) → IsHeldAt w j → IsHeldAt (record w { words = v.words; count = v.count }) j
clearing_held w v place s j away h x pos q = reach_stays w (record w { words = v.words; count = v.count }) j (λ z _ r. r) edge x (h x pos q)
  where
    edge : (r z : ℕ) → 0 < r → 0 < z → IsInReach w j r → 0 < edge_sum w j r z → 0 < edge_sum (record w { words = v.words; count = v.count }) j r z
    edge r z _ _ reached g =
        elim (cases_eq r (home w.fields place)) [
          | inl e ↦ absurd (away (subst (IsInReach w j) e reached))
          | inr e ↦ omega (arith, g, s.words (opened_from w.fields j r z), none_if_other r (home w.fields place) (opened_to j z place (word_in w place)) e)
        ]

pub clearing_stands : (w v : Pending) (place : ℕ) → Clears w v place → (IsInReach w w.applied (home w.fields place) → ⊥) → IsHeldAt w w.applied → StandsOnce w → StandsOnce (record w { words = v.words; count = v.count })
clearing_stands w v place s away h o q =
    let a : ℕ = w.applied in
    let word : ℕ = word_in w place in
    let slot : ℕ = home w.fields place in
    elim (cases_lt a (epoch_of word)) [
      | inr l ↦ omega (arith, o q, s.words (late a q), none_if_not_lt a (epoch_of word) (q place word) l, none_if_not_lt a (epoch_of 0) (q place 0) (omega (arith, epoch_of_null)))
      | inl l ↦ absurd (away (late_home_in_reach w place s.inside o h l))
    ]

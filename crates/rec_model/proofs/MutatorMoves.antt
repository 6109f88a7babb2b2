-- Each move of a mutator keeps what every heap that counts late keeps.
use Rattle.std.proofs.Common.{◌≡◌, inl, inr, ℕ, ◌<◌, ◌≤◌, eqb, leb, Bool, true, false, List, sum_by, sym, subst, arith, ◌∙◌, ◌+◌, ◌≢◌, refl}
use Rattle.std.proofs.lemmas.Bool.Decides.{nat_tests}
use Rattle.std.proofs.lemmas.Bool.{cases_eq}
use Rattle.rec_model.specs.Accounted.{named}
use Rattle.rec_model.proofs.Weights.{only_if-le, none_if_differs}
use Rattle.rec_model.proofs.Ledgers.{put_ledger, put_stands, birth_ledger, crossing_ledger}
use Rattle.rec_model.proofs.Epochs.{put_epochs, register_epochs, birth_epochs, crossing_epochs, leaving_epochs}
use Rattle.rec_model.proofs.Holding.{put_held, register_held, birth_held, crossing_held, leaving_held}
use Rattle.rec_model.proofs.Naming.{put_unnamed, register_unnamed, birth_unnamed, crossing_unnamed, leaving_unnamed}
use Rattle.rec_model.proofs.Changed.{after_birth, after_crossing, after_put, after_register, put_alike, register_alike, birth_alike, crossing_alike, leaving_alike}
use Rattle.rec_model.proofs.Alike.{alike_accounted}
use Rattle.std.proofs.lemmas.List.Sums.{sum_by-le-sum_by}
use Rattle.rec_model.proofs.Common.{only_if, one_if_same, Pending, Puts, Registers, Bears, Crosses, LetsGo, with_answer, is_from, is_leaf_from, is_dead, IsAccounted}

pub put_accounted : (w v : Pending) (epoch place new : ℕ) → Puts w v epoch place new → IsAccounted w → IsAccounted v
put_accounted w v epoch place new s i =
    let u : Pending = after_put w v in
    let accounted : IsAccounted u = record {
      epochs = put_epochs w v epoch place new s i.epochs;
      ledger = put_ledger w v epoch place new s i.epochs i.ledger;
      late = put_stands w v epoch place new s i.epochs i.late;
      held = λ j from below. put_held w v epoch place new s i.epochs i.late j from below (i.held j from below);
      unnamed = put_unnamed w v epoch place new s i.unnamed;
      apart = i.apart;
      single = i.single;
      born = i.born;
      leaves = i.leaves;
    } in
    alike_accounted u v (put_alike w v epoch place new s) accounted

pub register_accounted : (w v : Pending) (epoch old new : ℕ) → Registers w v epoch old new → IsAccounted w → IsAccounted v
register_accounted w v epoch old new s i =
    let u : Pending = after_register w v in
    let accounted : IsAccounted u = record {
      epochs = register_epochs w v epoch old new s i.epochs;
      ledger = i.ledger;
      late = i.late;
      held = λ j from below. register_held w v epoch old new s i.late j from (i.held j from below);
      unnamed = register_unnamed w v epoch old new s i.unnamed;
      apart = i.apart;
      single = i.single;
      born = i.born;
      leaves = i.leaves;
    } in
    alike_accounted u v (register_alike w v epoch old new s) accounted

-- a free slot has no pending birth, and its new node has one
birth_born : (w v : Pending) (epoch old x : ℕ) → Bears w v epoch old x → IsAccounted w → (y : ℕ) → 0 < y → sum_by (is_from w.applied y) v.births ≤ 1
birth_born w v epoch old x s i y pos = elim (cases_eq y x) [
  | inr other ↦ omega (arith, i.born y pos, s.births (is_from w.applied y), only_if-le (leb w.applied epoch) (one_if_same y x), none_if_differs y x other)
  | inl same ↦
      let dead : is_dead w x ≡ true = (grind (arith, s.was_free)) in
      let none : named w y ≡ 0 = subst (λ k. named w k ≡ 0) (sym same) (i.unnamed x s.is_node dead) in
      let one : one_if_same y x ≤ 1 = only_if-le (eqb y x) 1 in
      omega (arith, none, one, s.births (is_from w.applied y), only_if-le (leb w.applied epoch) (one_if_same y x))
]

-- what the slot of a new node says of it, the log says too
marked : (leaf : Bool) (n : ℕ) → 0 < only_if leaf n → leaf ≡ true
marked true n h = refl
marked false n h = absurd (omega (arith, h))

answer_same : (test : ℕ → Bool) (x y : ℕ) (b : Bool) → y ≡ x → with_answer test x b y ≡ b
answer_same test x y b e = grind (arith, nat_tests)

answer_other : (test : ℕ → Bool) (x y : ℕ) (b : Bool) → y ≢ x → with_answer test x b y ≡ test y
answer_other test x y b e = grind (arith, nat_tests)

birth_leaves : (w v : Pending) (epoch old x : ℕ) → Bears w v epoch old x → IsAccounted w → (y : ℕ) → 0 < y → 0 < sum_by (is_leaf_from w.applied y) v.births → v.leaf y ≡ true
birth_leaves w v epoch old x s i y pos some =
    let more : sum_by (is_leaf_from w.applied y) v.births ≡ sum_by (is_leaf_from w.applied y) w.births + only_if s.leaf (only_if (leb w.applied epoch) (one_if_same y x)) = s.births (is_leaf_from w.applied y) in
    elim (cases_eq y x) [
      | inr other ↦
          let none : only_if s.leaf (only_if (leb w.applied epoch) (one_if_same y x)) ≡ 0 = omega (arith, only_if-le s.leaf (only_if (leb w.applied epoch) (one_if_same y x)), only_if-le (leb w.applied epoch) (one_if_same y x), none_if_differs y x other) in
          s.leaves y pos ∙ answer_other w.leaf x y s.leaf other ∙ i.leaves y pos (omega (arith, some, more, none))
      | inl same ↦
          let dead : is_dead w x ≡ true = (grind (arith, s.was_free)) in
          let none : named w y ≡ 0 = subst (λ k. named w k ≡ 0) (sym same) (i.unnamed x s.is_node dead) in
          let old_none : sum_by (is_leaf_from w.applied y) w.births ≤ sum_by (is_from w.applied y) w.births = sum_by-le-sum_by (is_leaf_from w.applied y) (is_from w.applied y) w.births (λ d. only_if-le d.leaf (is_from w.applied y d)) in
          s.leaves y pos ∙ answer_same w.leaf x y s.leaf same ∙ marked s.leaf (only_if (leb w.applied epoch) (one_if_same y x)) (omega (arith, some, more, none, old_none))
    ]

apart_after_birth : (free released : ℕ → Bool) (x y : ℕ) → (free y ≡ true → released y ≡ false) → with_answer free x false y ≡ true → released y ≡ false
apart_after_birth free released x y h e = grind (arith, nat_tests)

free_before_birth : (free : ℕ → Bool) (x y : ℕ) → with_answer free x false y ≡ true → free y ≡ true
free_before_birth free x y e = grind (arith, nat_tests)

pub birth_accounted : (w v : Pending) (epoch old x : ℕ) → Bears w v epoch old x → IsAccounted w → IsAccounted v
birth_accounted w v epoch old x s i =
    let u : Pending = after_birth w v x in
    let accounted : IsAccounted u = record {
      epochs = birth_epochs w v epoch old x s i.epochs;
      ledger = birth_ledger w v epoch old x s i.epochs i.ledger;
      late = i.late;
      held = λ j from below. birth_held w v epoch old x s j (i.held j from below);
      unnamed = birth_unnamed w v epoch old x s (i.apart x s.is_node s.was_free) i.unnamed;
      apart = λ y pos e. apart_after_birth w.free w.released x y (i.apart y pos) e;
      single = λ y pos e. i.single y pos (free_before_birth w.free x y e);
      born = birth_born w v epoch old x s i;
      leaves = birth_leaves w v epoch old x s i;
    } in
    alike_accounted u v (birth_alike w v epoch old x s) accounted

pub crossing_accounted : (w v : Pending) (epoch : ℕ) (ns : List ℕ) → Crosses w v epoch ns → IsAccounted w → IsAccounted v
crossing_accounted w v epoch ns s i =
    let u : Pending = after_crossing w v in
    let accounted : IsAccounted u = record {
      epochs = crossing_epochs w v epoch ns s i.epochs;
      ledger = crossing_ledger w v epoch ns s i.ledger;
      late = i.late;
      held = λ j from below. crossing_held w v epoch ns s j below (i.held j from below);
      unnamed = crossing_unnamed w v epoch ns s i.unnamed;
      apart = i.apart;
      single = i.single;
      born = i.born;
      leaves = i.leaves;
    } in
    alike_accounted u v (crossing_alike w v epoch ns s) accounted

pub leaving_accounted : (w v : Pending) → LetsGo w v → IsAccounted w → IsAccounted v
leaving_accounted w v s i =
    let u : Pending = after_register w v in
    let accounted : IsAccounted u = record {
      epochs = leaving_epochs w v s i.epochs;
      ledger = i.ledger;
      late = i.late;
      held = λ j from below. leaving_held w v s j (i.held j from below);
      unnamed = leaving_unnamed w v s i.unnamed;
      apart = i.apart;
      single = i.single;
      born = i.born;
      leaves = i.leaves;
    } in
    alike_accounted u v (leaving_alike w v s) accounted

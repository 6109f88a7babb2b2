-- What lists of references and of dated nodes name, as sums of weights.
use Rattle.std.proofs.Common.{◌≡◌, length, inl, inr, ℕ, suc, ◌+◌, ◌<◌, ◌&&◌, ◌==◌, nat_lt, nat_le, Bool, true, false, cond, List, [], ◌∷◌, map, filter, sum_by, refl, ap, subst, ◌∙◌, arith, ◌++◌}
use Rattle.std.specs.List.{enumerate_from}
use Rattle.std.proofs.lemmas.Bool.Decides.{nat_tests}
use Rattle.std.proofs.lemmas.Bool.{false≢true, eqb-true}
use Rattle.std.proofs.lemmas.List.Sums.{sum_by-cons, sum_by-append}
use Rattle.rec_model.proofs.Common.{is_in, times, only_if, one_if_same, sum_at, home, Write, Dated, Pending, is_at, Reference, open_reference, closed_reference, references, is_of, references_of, nodes_of, nodes_from, roots_at, targets_at, opened_to, closed_from, is_from}
use Rattle.rec_model.proofs.Sums.{sum_by_same, sum_at_same, sum_by_none, sum_by-filter, sum_by-map}
use Rattle.rec_model.proofs.Members.{is_in-cons, is_in-head, is_in-tail}

-- how often a number stands in a list
pub times-append : (n : ℕ) (xs ys : List ℕ) → times n (xs ++ ys) ≡ times n xs + times n ys
times-append n xs ys = sum_by-append (λ m. cond (m == n) 1 0) xs ys

pub times-cons : (n m : ℕ) (ns : List ℕ) → times n (m ∷ ns) ≡ cond (m == n) 1 0 + times n ns
times-cons n m ns = sum_by-cons (λ k. cond (k == n) 1 0) m ns

-- from its head on
times_from_head : (x y : ℕ) (ns : List ℕ) → times x (y ∷ ns) ≡ one_if_same x y + times x ns
times_from_head x y ns = omega (arith, times-cons x y ns, same)
  where
    same : cond (y == x) 1 0 ≡ one_if_same x y
    same = grind (arith, nat_tests)

-- a number stands in a list where it stands there some times
pub is_in-times : (x : ℕ) (ns : List ℕ) → is_in x ns ≡ true → 0 < times x ns
is_in-times x [] h = absurd (false≢true h)
is_in-times x (y ∷ ns) h = elim (is_in-cons x y ns h) [
  | inl e ↦ let one : one_if_same x y ≡ 1 = (grind (arith, nat_tests, e)) in omega (arith, one, times_from_head x y ns)
  | inr r ↦ omega (arith, is_in-times x ns r, times_from_head x y ns)
]

pub is_in-from_times : (x : ℕ) (ns : List ℕ) → 0 < times x ns → is_in x ns ≡ true
is_in-from_times x [] h = absurd (omega (arith, h))
is_in-from_times x (y ∷ ns) h = go (y == x) refl (is_in-from_times x ns)
  where
    go : (b : Bool) → (y == x) ≡ b → (0 < times x ns → is_in x ns ≡ true) → is_in x (y ∷ ns) ≡ true
    go true e rest = subst (λ k. is_in k (y ∷ ns) ≡ true) (eqb-true y x e) (is_in-head y ns)
    go false e rest =
        let none : one_if_same x y ≡ 0 = (grind (arith, nat_tests, e)) in
        is_in-tail x y ns (rest (omega (arith, h, none, times_from_head x y ns)))

-- how often a number stands among what some elements name
times-map : {X : Type 0} (f : X → ℕ) (x : ℕ) (ys : List X) → times x (map f ys) ≡ sum_by (λ y. one_if_same x (f y)) ys
times-map f x [] = refl
times-map f x (y ∷ ys) = omega (arith, times_from_head x (f y) (map f ys), sum_by-cons (λ z. one_if_same x (f z)) y ys, times-map f x ys)

-- a weight over elements with their places
sum_by-enumerate_from : {X : Type 0} (f : ℕ × X → ℕ) (n : ℕ) (xs : List X) → sum_by f (enumerate_from n xs) ≡ sum_at (λ i x. f (n + i, x)) xs
sum_by-enumerate_from f n [] = refl
sum_by-enumerate_from {X} f n (x ∷ xs) =
    let here : f (n, x) ≡ f (n + 0, x) = ap (λ k. f (k, x)) (omega arith) in
    omega (arith, here, sum_by-cons f (n, x) (enumerate_from (n + 1) xs), sum_by-enumerate_from f (n + 1) xs, sum_at_same (λ i y. f (n + 1 + i, y)) (λ i y. f (n + suc i, y)) xs (λ i y. ap (λ k. f (k, y)) (omega arith)))

-- a weight over the references
references_sum : (w : Pending) (f : Reference → ℕ) → sum_by f (references w) ≡ sum_at (λ place word. f (open_reference w.fields (place, word))) w.words + sum_by (λ e. f (closed_reference w.fields e)) w.writes
references_sum w f =
    omega (
      arith,
      sum_by-append f (map (open_reference w.fields) (enumerate_from 0 w.words)) (map (closed_reference w.fields) w.writes),
      sum_by-map f (open_reference w.fields) (enumerate_from 0 w.words),
      sum_by-map f (closed_reference w.fields) w.writes,
      sum_by-enumerate_from (λ at. f (open_reference w.fields at)) 0 w.words,
      sum_at_same (λ i word. f (open_reference w.fields (0 + i, word))) (λ i word. f (open_reference w.fields (i, word))) w.words (λ i word. ap (λ k. f (open_reference w.fields (k, word))) (omega arith)),
    )

-- the references of an epoch to a node
abbrev pub reference_sum : Pending → (epoch node : ℕ) → ℕ
reference_sum w epoch node = sum_at (opened_to epoch node) w.words + sum_by (closed_from epoch node) w.writes

-- such words in fields of a node
abbrev pub opened_from : (fields epoch source node place word : ℕ) → ℕ
opened_from fields epoch source node place word = only_if (source == home fields place) (opened_to epoch node place word)

abbrev pub closed_out_of : (fields epoch source node : ℕ) → Write → ℕ
closed_out_of fields epoch source node write = only_if (source == home fields write.place) (closed_from epoch node write)

-- the references of an epoch from one node to another
abbrev pub edge_sum : Pending → (epoch source node : ℕ) → ℕ
edge_sum w epoch source node = sum_at (opened_from w.fields epoch source node) w.words + sum_by (closed_out_of w.fields epoch source node) w.writes

-- how often a node is a root of an epoch
abbrev pub root_sum : Pending → (epoch node : ℕ) → ℕ
root_sum w epoch node = sum_by (is_at epoch node) w.snapshots + sum_by (is_from epoch node) w.births

pub nodes_of_times : (epoch x : ℕ) (ds : List Dated) → 0 < x → times x (nodes_of epoch ds) ≡ sum_by (is_at epoch x) ds
nodes_of_times epoch x ds pos =
    times-map (λ (d : Dated). d.node) x (filter (λ d. nat_lt 0 d.node && (epoch == d.epoch)) ds)
    ∙ sum_by-filter (λ (d : Dated). nat_lt 0 d.node && (epoch == d.epoch)) (λ d. one_if_same x d.node) ds
    ∙ sum_by_same (λ (d : Dated). only_if (nat_lt 0 d.node && (epoch == d.epoch)) (one_if_same x d.node)) (is_at epoch x) ds (λ d. grind (arith, nat_tests))

pub nodes_from_times : (epoch x : ℕ) (ds : List Dated) → 0 < x → times x (nodes_from epoch ds) ≡ sum_by (is_from epoch x) ds
nodes_from_times epoch x ds pos =
    times-map (λ (d : Dated). d.node) x (filter (λ d. nat_lt 0 d.node && nat_le epoch d.epoch) ds)
    ∙ sum_by-filter (λ (d : Dated). nat_lt 0 d.node && nat_le epoch d.epoch) (λ d. one_if_same x d.node) ds
    ∙ sum_by_same (λ (d : Dated). only_if (nat_lt 0 d.node && nat_le epoch d.epoch) (one_if_same x d.node)) (is_from epoch x) ds (λ d. grind (arith, nat_tests))

pub references_times : (w : Pending) (epoch x : ℕ) → 0 < x → times x (map (λ r. r.target) (references_of w epoch)) ≡ reference_sum w epoch x
references_times w epoch x pos =
    let f : Reference → ℕ = λ r. only_if (is_of epoch r) (one_if_same x r.target) in
    times-map (λ (r : Reference). r.target) x (references_of w epoch)
    ∙ sum_by-filter (is_of epoch) (λ r. one_if_same x r.target) (references w)
    ∙ references_sum w f
    ∙ omega (
      arith,
      sum_at_same (λ place word. f (open_reference w.fields (place, word))) (opened_to epoch x) w.words (λ place word. grind (arith, nat_tests)),
      sum_by_same (λ e. f (closed_reference w.fields e)) (closed_from epoch x) w.writes (λ e. grind (arith, nat_tests)),
    )

pub targets_times : (w : Pending) (epoch s x : ℕ) → 0 < x → times x (targets_at w epoch s) ≡ edge_sum w epoch s x
targets_times w epoch s x pos =
    let f : Reference → ℕ = λ r. only_if (is_of epoch r) (only_if (r.source == s) (one_if_same x r.target)) in
    times-map (λ (r : Reference). r.target) x (filter (λ r. r.source == s) (references_of w epoch))
    ∙ sum_by-filter (λ (r : Reference). r.source == s) (λ r. one_if_same x r.target) (references_of w epoch)
    ∙ sum_by-filter (is_of epoch) (λ r. only_if (r.source == s) (one_if_same x r.target)) (references w)
    ∙ references_sum w f
    ∙ omega (
      arith,
      sum_at_same (λ place word. f (open_reference w.fields (place, word))) (opened_from w.fields epoch s x) w.words (λ place word. grind (arith, nat_tests)),
      sum_by_same (λ e. f (closed_reference w.fields e)) (closed_out_of w.fields epoch s x) w.writes (λ e. grind (arith, nat_tests)),
    )

-- null is no root, and no target of a reference
no_null : {X : Type 0} (p : X → Bool) (f : X → ℕ) (ys : List X) → ((y : X) → f y ≡ 0 → p y ≡ false) → times 0 (map f (filter p ys)) ≡ 0
no_null {X} p f ys h =
    times-map f 0 (filter p ys)
    ∙ sum_by-filter p (λ y. one_if_same 0 (f y)) ys
    ∙ sum_by_none (λ y. only_if (p y) (one_if_same 0 (f y))) ys (λ y. go y (f y == 0) refl)
  where
    go : (y : X) (b : Bool) → (f y == 0) ≡ b → only_if (p y) (one_if_same 0 (f y)) ≡ 0
    go y true e = rw (h y (eqb-true (f y) 0 e)) refl
    go y false e = grind (arith, nat_tests, e)

pub roots_times : (w : Pending) (epoch x : ℕ) → 0 < x → times x (roots_at w epoch) ≡ root_sum w epoch x
roots_times w epoch x pos = omega (arith, sum_by-append (λ m. cond (m == x) 1 0) (nodes_of epoch w.snapshots) (nodes_from epoch w.births), nodes_of_times epoch x w.snapshots pos, nodes_from_times epoch x w.births pos)

pub null_no_root : (w : Pending) (epoch : ℕ) → times 0 (roots_at w epoch) ≡ 0
null_no_root w epoch = omega (
  arith,
  sum_by-append (λ m. cond (m == 0) 1 0) (nodes_of epoch w.snapshots) (nodes_from epoch w.births),
  no_null (λ (d : Dated). nat_lt 0 d.node && (epoch == d.epoch)) (λ d. d.node) w.snapshots (λ d e. grind (arith, nat_tests)),
  no_null (λ (d : Dated). nat_lt 0 d.node && nat_le epoch d.epoch) (λ d. d.node) w.births (λ d e. grind (arith, nat_tests)),
)

pub null_no_target : (w : Pending) (epoch s : ℕ) → times 0 (targets_at w epoch s) ≡ 0
null_no_target w epoch s =
    times-map (λ (r : Reference). r.target) 0 (filter (λ r. r.source == s) (references_of w epoch))
    ∙ sum_by-filter (λ (r : Reference). r.source == s) (λ r. one_if_same 0 r.target) (references_of w epoch)
    ∙ sum_by-filter (is_of epoch) (λ r. only_if (r.source == s) (one_if_same 0 r.target)) (references w)
    ∙ sum_by_none (λ (r : Reference). only_if (is_of epoch r) (only_if (r.source == s) (one_if_same 0 r.target))) (references w) (λ r. grind (arith, nat_tests))

-- one element more has the next number
pub enumerate_from-push : {X : Type 0} (n : ℕ) (xs : List X) (x : X) → enumerate_from n (xs ++ x ∷ []) ≡ enumerate_from n xs ++ (n + length xs, x) ∷ []
enumerate_from-push n [] x = let e : n ≡ n + 0 = omega arith in ap (λ k. (k, x) ∷ []) e
enumerate_from-push n (y ∷ ys) x =
    let e : n + 1 + length ys ≡ n + length (y ∷ ys) = omega arith in
    ap (λ ps. (n, y) ∷ ps) (enumerate_from-push (n + 1) ys x ∙ ap (λ k. enumerate_from (n + 1) ys ++ (k, x) ∷ []) e)

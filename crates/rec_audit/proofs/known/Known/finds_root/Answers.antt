-- The contract of `finds_root`: a root is found from which one of some slots is reached, or none is.
use Rattle.std.proofs.Common.{◌≡◌, ◌<◌, ◌≤◌, ◌-◌, ℕ, Bool, false, List, length, map, take, drop, nat_eq, get_or, refl, sym, ap, ◌∙◌, subst, arith}
use Rattle.std.specs.List.{All, list_any}
use Rattle.std.specs.HashSet.{contains}
use Rattle.std.proofs.lemmas.List.{take_rest, take-take}
use Rattle.rec_model.specs.Reach.{is_in}
use Rattle.rec_model.proofs.Members.{all_of}
use Rattle.rec_audit.specs.declared.reach.Marks.{Marks}
use Rattle.rec_audit.specs.States.{IsMarking}
use Rattle.rec_audit.specs.Walks.{live_in}
use Rattle.rec_audit.proofs.Grown.{any_member}
use Rattle.rec_audit.proofs.Asked.{any_alike, closed_apart, in_back, in_more, known_asked, root_found}
use Rattle.rec_audit.proofs.known.Known.finds_root.Goals as goal
use Rattle.rec_audit.proofs.Marking.{or_right}

-- behind so many slots, one is a root
any_is : (roots : Marks) → IsMarking roots → (start : ℕ) (slice order : List ℕ) (b : Bool) → slice ≡ order → b ≡ list_any (λ slot. get_or roots.marked.items slot false) (take (length slice - start) (drop start slice)) → b ≡ list_any (λ n. is_in n roots.order.items) (drop start order)
any_is roots marking start slice order b same is =
    is
    ∙ ap (list_any (λ slot. get_or roots.marked.items slot false)) (take_rest slice start ∙ ap (drop start) same)
    ∙ any_alike (λ slot. get_or roots.marked.items slot false) (λ n. is_in n roots.order.items) marking.listed (drop start order)

-- the slots that were apart stand in front
front_is : (start : ℕ) (first second third : List ℕ) → start ≡ length first → length first ≤ length second → take (length first) second ≡ first → take (length second) third ≡ second → take start third ≡ first
front_is start first second third count longer front more =
    ap (λ (n : ℕ). take n third) count
    ∙ sym (take-take (length first) (length second) third longer)
    ∙ ap (take (length first)) more
    ∙ front

pub has_any-requires : goal.has_any-requires
has_any-requires c =
    let P : ℕ → Type 0 = λ n. n < length c.args.self.now.roots.marked.items in
    let order : List ℕ = c.follow.new.self.order.items in
    let size : length c.follow.new.self.marked.items ≡ length c.args.self.now.roots.marked.items =
    c.in_ok-follow.ensures.size
    ∙ c.in_ok-mark_each.ensures.size
    ∙ c.requires.roomy.apart-size
    ∙ sym c.requires.roomy.roots-size
    in
    subst (λ (xs : List ℕ). All P xs) (sym (take_rest c.deref.result.now c.len-start.result ∙ ap (drop c.len-start.result) c.deref.ensures.value))
    (all_of P (drop c.len-start.result order) (λ n there. subst (λ (k : ℕ). n < k) size (c.in_ok-follow.ensures.marking.within n (in_back n c.len-start.result order there))))

pub returns-clause-known : goal.returns-clause-known
returns-clause-known c = λ none roots children turned is.
    let walk : ℕ → List ℕ = live_in (contains nat_eq c.args.dead.now) (map (λ v. v.items) c.args.into.now.items) in
    let first : List ℕ = c.args.self.now.apart.order.items in
    let order : List ℕ = c.mark_each.new.self.order.items in
    let count : c.len-start.result ≡ length first = omega (arith, c.len-start.ensures, c.args.self.now.apart.order.ok.0) in
    let front : take c.len-start.result order ≡ first = ap (λ (n : ℕ). take n order) count ∙ c.in_ok-mark_each.ensures.front in
    known_asked roots order children walk c.args.self.now _ c.len-start.result turned refl refl
    (front_is c.len-start.result first order c.follow.new.self.order.items count c.in_ok-mark_each.ensures.longer c.in_ok-mark_each.ensures.front c.in_ok-follow.ensures.front)
    (c.in_ok-follow.ensures.reached (closed_apart roots children walk c.args.self.now order c.len-start.result is turned front))
    (sym (any_is c.args.self.now.roots c.requires.roomy.roots c.len-start.result c.deref.result.now c.follow.new.self.order.items c.has_any.result c.deref.ensures.value c.has_any.ensures) ∙ none) is

pub returns-clause-found : goal.returns-clause-found
returns-clause-found c = λ found roots children turned is.
    let walk : ℕ → List ℕ = live_in (contains nat_eq c.args.dead.now) (map (λ v. v.items) c.args.into.now.items) in
    let first : List ℕ = c.args.self.now.apart.order.items in
    let order : List ℕ = c.mark_each.new.self.order.items in
    let count : c.len-start.result ≡ length first = omega (arith, c.len-start.ensures, c.args.self.now.apart.order.ok.0) in
    let front : take c.len-start.result order ≡ first = ap (λ (n : ℕ). take n order) count ∙ c.in_ok-mark_each.ensures.front in
    let m = any_member (λ n. is_in n c.args.self.now.roots.order.items) (drop c.len-start.result c.follow.new.self.order.items)
    (sym (any_is c.args.self.now.roots c.requires.roomy.roots c.len-start.result c.deref.result.now c.follow.new.self.order.items c.has_any.result c.deref.ensures.value c.has_any.ensures) ∙ found)
    in
    root_found roots c.args.slots.now order children walk c.args.self.now is turned c.in_ok-mark_each.ensures.has m.0
    ((c.in_ok-follow.ensures.reached (closed_apart roots children walk c.args.self.now order c.len-start.result is turned front) m.0).0 (in_back m.0 c.len-start.result c.follow.new.self.order.items m.1)) m.2

pub returns-clause-apart : goal.returns-clause-apart
returns-clause-apart c = λ none slot there.
    in_more slot (length c.mark_each.new.self.order.items) c.mark_each.new.self.order.items c.follow.new.self.order.items c.in_ok-follow.ensures.front
    (c.in_ok-mark_each.ensures.has slot ∙ or_right (is_in slot c.args.self.now.apart.order.items) (is_in slot c.args.slots.now) there)

-- The contract of `bring_back`: what is reached from a slot that became a root is back.
use Rattle.std.proofs.Common.{◌≡◌, ℕ, List, length, map, take, nat_eq, refl, sym, subst, arith}
use Rattle.std.specs.HashSet.{contains}
use Rattle.rec_audit.specs.Walks.{live_in}
use Rattle.rec_audit.proofs.Asked.{closed_back, known_back}
use Rattle.rec_audit.proofs.known.Known.bring_back.Goals as goal

pub returns-clause-known : goal.returns-clause-known
returns-clause-known c = λ roots more children same wider only is.
    let walk : ℕ → List ℕ = live_in (contains nat_eq c.args.dead.now) (map (λ v. v.items) c.args.edges.now.items) in
    let order : List ℕ = c.mark.new.self.order.items in
    let count : c.len-start.result ≡ length c.args.self.now.back.order.items = omega (arith, c.len-start.ensures, c.args.self.now.back.order.ok.0) in
    let front : take c.len-start.result order ≡ c.args.self.now.back.order.items = subst (λ (n : ℕ). take n order ≡ c.args.self.now.back.order.items) (sym count) c.in_ok-mark.ensures.front in
    known_back roots more children walk c.args.self.now _ c.args.slot order same wider only refl refl c.in_ok-mark.ensures.has
    (c.in_ok-follow.ensures.reached (closed_back roots children walk c.args.self.now order c.len-start.result is same front)) is

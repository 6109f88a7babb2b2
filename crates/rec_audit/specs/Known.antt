-- What is known of the reach in a graph.
use Rattle.std.specs.Prelude.{◌≡◌, ℕ, ◌||◌, Bool, true, false, List, length}
use Rattle.rec_model.specs.Reach.{is_in}
use Rattle.rec_audit.specs.declared.known.Known.{Known}
use Rattle.rec_audit.specs.Lines.{Line}
use Rattle.rec_audit.specs.Graph.{roots, targets}
use Rattle.rec_audit.specs.States.{IsMarking}

-- it has room for so many slots
pub record IsRoomy (slots : ℕ) (k : Known) : Type 0 where
  pub roots-size : length k.roots.marked.items ≡ slots
  pub apart-size : length k.apart.marked.items ≡ slots
  pub back-size : length k.back.marked.items ≡ slots
  pub roots : IsMarking k.roots
  pub apart : IsMarking k.apart
  pub back : IsMarking k.back

-- It holds in a graph with these roots, whose references lead from a slot to these children: no slot apart was a root when it
-- was begun, and each slot from which a reference leads to one of them is apart too. Each root that came since is back, and so
-- is all that is reached from it.
pub record IsKnownOf (roots : List ℕ) (children : ℕ → List ℕ) (k : Known) : Type 0 where
  pub old : (slot : ℕ) → is_in slot k.roots.order.items ≡ true → is_in slot roots ≡ true
  pub each : (slot : ℕ) → is_in slot roots ≡ true → (is_in slot k.roots.order.items || is_in slot k.back.order.items) ≡ true
  pub apart : (slot : ℕ) → is_in slot k.apart.order.items ≡ true → is_in slot k.roots.order.items ≡ false
  pub sources : (source slot : ℕ) → is_in slot k.apart.order.items ≡ true → is_in slot (children source) ≡ true → is_in source k.apart.order.items ≡ true
  pub forth : (source slot : ℕ) → is_in source k.back.order.items ≡ true → is_in slot (children source) ≡ true → is_in slot k.back.order.items ≡ true

-- it holds of the graph behind some lines, where anything is known at all
abbrev pub AreKnown : Bool → List Line → Known → Type 0
AreKnown false lines k = Unit {0}
AreKnown true lines k = IsKnownOf (roots lines) (targets lines) k

-- The contract of `follow`: all that is reached is marked.
use Rattle.std.proofs.Common.{◌≡◌, ◌<◌, ◌≤◌, ℕ, Bool, List, [], length, map, nat_eq, get_or, set, sym, ap, ◌∙◌, subst, arith, length-set, Vec, Global}
use Rattle.std.specs.List.{All}
use Rattle.std.specs.HashSet.{contains}
use Rattle.std.proofs.lemmas.List.{get_or-map, get_or_read}
use Rattle.rec_audit.specs.declared.references.Edge.{Edge}
use Rattle.rec_audit.specs.declared.reach.Marks.{Marks}
use Rattle.rec_audit.specs.States.{MarksMore, edges_at, without}
use Rattle.rec_audit.specs.Walks.{ArePruned}
use Rattle.rec_audit.proofs.Pruning.{inside, inside_length, pruned_more, pruned_list}
use Rattle.rec_audit.proofs.Marking.{IsFollowing, few_marked, follow_none, follow_more, follow_all, slot_within}
use Rattle.rec_audit.proofs.reach.Marks.follow.Goals as goal

-- the slot that is looked at has a list
slot_in : (dead : ℕ → Bool) (old now : List (Vec Edge Global)) (start : ℕ) (m n : Marks) (i slot : ℕ) → length old ≡ length m.marked.items → IsFollowing dead (inside old) (inside now) start m n i → i < length n.order.items → slot ≡ get_or n.order.items i 0 → slot < length now
slot_in dead old now start m n i slot size follows within is = omega (arith, slot_within n i slot follows.marking within is, follows.size, follows.pruned.size, inside_length old, inside_length now, size)

-- there are as many lists behind it
as_many : (now new : List (Vec Edge Global)) (slot : ℕ) (es : List Edge) → inside new ≡ set (inside now) slot es → length new ≡ length now
as_many now new slot es is = sym (inside_length new) ∙ ap (length {A = List Edge}) is ∙ length-set (inside now) slot es ∙ inside_length now

-- the references that are looked at
list_is : (vs : List (Vec Edge Global)) (v : Vec Edge Global) (slot : ℕ) (es : List Edge) → slot < length vs → v ≡ get_or vs slot v → es ≡ v.items → es ≡ edges_at (inside vs) slot
list_is vs v slot es within is e = e ∙ ap (λ (w : Vec Edge Global). w.items) is ∙ sym (get_or-map (λ (w : Vec Edge Global). w.items) vs slot v [] within)

pub loop-i-init : goal.loop-i-init
loop-i-init c = follow_none (contains nat_eq c.args.dead.now) (inside c.args.lists.now.items) c.args.start c.args.self.now c.requires.upto c.requires.marking

pub prune_at-requires : goal.prune_at-requires
prune_at-requires c =
    let i-within : c.loop-i.i < length c.loop-i.self.order.items = omega (arith, c.len.ensures, c.loop-i.self.order.ok.0) in
    let is : c.index.result.now ≡ get_or c.loop-i.self.order.items c.loop-i.i 0 = get_or_read c.loop-i.self.order.items c.loop-i.i c.index.result.now i-within c.index.ensures 0 in
    slot_in (contains nat_eq c.args.dead.now) c.args.lists.now.items c.loop-i.lists.items c.args.start c.args.self.now c.loop-i.self c.loop-i.i c.index.result.now c.requires.size c.loop-i.invariant i-within is

pub index-requires-in-loop-i : goal.index-requires-in-loop-i
index-requires-in-loop-i c =
    let i-within : c.loop-i.i < length c.loop-i.self.order.items = omega (arith, c.len.ensures, c.loop-i.self.order.ok.0) in
    let is : c.index.result.now ≡ get_or c.loop-i.self.order.items c.loop-i.i 0 = get_or_read c.loop-i.self.order.items c.loop-i.i c.index.result.now i-within c.index.ensures 0 in
    let within : c.index.result.now < length c.loop-i.lists.items = slot_in (contains nat_eq c.args.dead.now) c.args.lists.now.items c.loop-i.lists.items c.args.start c.args.self.now c.loop-i.self c.loop-i.i c.index.result.now c.requires.size c.loop-i.invariant i-within is in
    let many : length c.prune_at.new.lists.items ≡ length c.loop-i.lists.items = as_many c.loop-i.lists.items c.prune_at.new.lists.items c.index.result.now (without (contains nat_eq c.args.dead.now) (edges_at (inside c.loop-i.lists.items) c.index.result.now)) c.prune_at.ensures in
    omega arith

pub loop-i-preserved : goal.loop-i-preserved
loop-i-preserved c =
    let dead : ℕ → Bool = contains nat_eq c.args.dead.now in
    let slot : ℕ = c.index.result.now in
    let old : List (List Edge) = inside c.args.lists.now.items in
    let now : List (List Edge) = inside c.loop-i.lists.items in
    let i-within : c.loop-i.i < length c.loop-i.self.order.items = omega (arith, c.len.ensures, c.loop-i.self.order.ok.0) in
    let is : slot ≡ get_or c.loop-i.self.order.items c.loop-i.i 0 = get_or_read c.loop-i.self.order.items c.loop-i.i slot i-within c.index.ensures 0 in
    let within : slot < length c.loop-i.lists.items = slot_in dead c.args.lists.now.items c.loop-i.lists.items c.args.start c.args.self.now c.loop-i.self c.loop-i.i slot c.requires.size c.loop-i.invariant i-within is in
    let inner : slot < length now = omega (arith, inside_length c.loop-i.lists.items) in
    let many : length c.prune_at.new.lists.items ≡ length c.loop-i.lists.items = as_many c.loop-i.lists.items c.prune_at.new.lists.items slot (without dead (edges_at now slot)) c.prune_at.ensures in
    let list : c.deref.result.now ≡ without dead (edges_at old slot) =
    list_is c.prune_at.new.lists.items c.index-in-loop-i.result.now slot c.deref.result.now (omega arith) c.index-in-loop-i.ensures c.deref.ensures.value
    ∙ ap (λ (es : List (List Edge)). edges_at es slot) c.prune_at.ensures
    ∙ pruned_list dead old now slot inner c.loop-i.invariant.pruned
    in
    follow_more dead old now (inside c.prune_at.new.lists.items) c.args.start c.args.self.now c.loop-i.self c.mark_targets.new.self c.loop-i.i slot i-within is c.loop-i.invariant
    (subst (ArePruned dead old) (sym c.prune_at.ensures) (pruned_more dead old now slot inner c.loop-i.invariant.pruned))
    (subst (λ (es : List Edge). MarksMore c.loop-i.self c.mark_targets.new.self (map (λ e. e.to) es)) list c.in_ok-mark_targets.ensures)

pub loop-i-smaller : goal.loop-i-smaller
loop-i-smaller c =
    let i-within : c.loop-i.i < length c.loop-i.self.order.items = omega (arith, c.len.ensures, c.loop-i.self.order.ok.0) in
    let few : length c.loop-i.self.order.items ≤ length c.loop-i.self.marked.items = few_marked c.loop-i.self c.loop-i.invariant.marking in
    let size : length c.mark_targets.new.self.marked.items ≡ length c.loop-i.self.marked.items = c.in_ok-mark_targets.ensures.size in
    omega arith

pub mark_targets-requires : goal.mark_targets-requires
mark_targets-requires c =
    let dead : ℕ → Bool = contains nat_eq c.args.dead.now in
    let slot : ℕ = c.index.result.now in
    let old : List (List Edge) = inside c.args.lists.now.items in
    let now : List (List Edge) = inside c.loop-i.lists.items in
    let i-within : c.loop-i.i < length c.loop-i.self.order.items = omega (arith, c.len.ensures, c.loop-i.self.order.ok.0) in
    let is : slot ≡ get_or c.loop-i.self.order.items c.loop-i.i 0 = get_or_read c.loop-i.self.order.items c.loop-i.i slot i-within c.index.ensures 0 in
    let within : slot < length c.loop-i.lists.items = slot_in dead c.args.lists.now.items c.loop-i.lists.items c.args.start c.args.self.now c.loop-i.self c.loop-i.i slot c.requires.size c.loop-i.invariant i-within is in
    let inner : slot < length now = omega (arith, inside_length c.loop-i.lists.items) in
    let many : length c.prune_at.new.lists.items ≡ length c.loop-i.lists.items = as_many c.loop-i.lists.items c.prune_at.new.lists.items slot (without dead (edges_at now slot)) c.prune_at.ensures in
    let list : c.deref.result.now ≡ edges_at (inside c.prune_at.new.lists.items) slot = list_is c.prune_at.new.lists.items c.index-in-loop-i.result.now slot c.deref.result.now (omega arith) c.index-in-loop-i.ensures c.deref.ensures.value in
    let pruned : ArePruned dead old (inside c.prune_at.new.lists.items) = subst (ArePruned dead old) (sym c.prune_at.ensures) (pruned_more dead old now slot inner c.loop-i.invariant.pruned) in
    record {
      marking = c.loop-i.invariant.marking;
      within =
          subst (λ (n : ℕ). All (λ (e : Edge). e.to < n) c.deref.result.now) (sym c.loop-i.invariant.size)
          (subst (λ (es : List Edge). All (λ (e : Edge). e.to < length c.args.self.now.marked.items) es) (sym list) (pruned.within (length c.args.self.now.marked.items) c.requires.within slot));
    }

pub returns : goal.returns
returns c =
    let past : length c.loop-i.self.order.items ≤ c.loop-i.i = omega (arith, c.len.ensures, c.loop-i.self.order.ok.0) in
    record {
      marking = c.loop-i.invariant.marking;
      size = c.loop-i.invariant.size;
      front = c.loop-i.invariant.front;
      reached = λ closed slot. follow_all (contains nat_eq c.args.dead.now) (inside c.args.lists.now.items) (inside c.loop-i.lists.items) c.args.start c.args.self.now c.loop-i.self c.loop-i.i past c.loop-i.invariant closed slot;
      pruned = c.loop-i.invariant.pruned;
    }

-- A trace that has come to a frontier: what the fields of all its slots lead to joins, and it is complete where none is left.
use Rattle.std.proofs.Common.{◌≡◌, inl, inr, ℕ, ◌*◌, ◌≤◌, ◌++◌, true, List, [], take, drop, length, refl, sym, ap, ◌∙◌, arith, append_assoc, length-append, subst}
use Rattle.std.specs.List.{flat_map}
use Rattle.std.proofs.lemmas.Grind.{flat_map-append}
use Rattle.std.proofs.lemmas.List.{take-append-drop, take-append-le, take_all}
use Rattle.rec_model.specs.Reach.{is_in}
use Rattle.rec_model.specs.Reach.IsReached.{child}
use Rattle.rec_model.specs.Numbering.{firsts, firsts_after, joined}
use Rattle.rec_model.specs.Heap.{roots}
use Rattle.rec_model.specs.Sight.{Sight, Reaches, NumbersSlots, targets_of}
use Rattle.rec_model.proofs.Firsts.{joined-append, joined-cases}
use Rattle.rec_model.proofs.Members.{of_all, all_of, in_flat_map, is_in-right}
use Rattle.rec_world.specs.Numbering.{NamesBelow}
use Rattle.rec_world.specs.World.{Core, sight, IsWorld}
use Rattle.rec_world.proofs.Filled.{IsFilled, filled_registers, reached_below}
use Rattle.rec_world.proofs.Names.{names_below}
use Rattle.rec_trace.specs.Children.{all_children, AreBelow, AreFieldsOf}

-- each slot of the list is one of those that there are
filled_below : (w : Sight) (slots next : ℕ) (list : List ℕ) → NamesBelow w slots → IsFilled w next list → AreBelow slots list
filled_below w slots next list names filled slot there = reached_below w slots names slot (of_all (Reaches w) list filled.reached slot there)

-- what the fields of the frontier lead to joined
filled_frontier : (w : Sight) (first : ℕ) (list more : List ℕ) → IsFilled w first list → more ≡ joined list (flat_map (targets_of w) (drop first list)) → IsFilled w (length list) more
filled_frontier w first list more filled joins =
    let children : ℕ → List ℕ = targets_of w in
    let frontier : List ℕ = drop first list in
    let front : List ℕ = flat_map children (take first list) in
    let taken : take (length list) more ≡ list =
    ap (take (length list)) joins
    ∙ take-append-le (length list) list (firsts_after list (flat_map children frontier)) (omega arith)
    ∙ take_all (length list) list (omega arith) in
    let met : flat_map children (take (length list) more) ≡ front ++ flat_map children frontier =
    ap (flat_map children) (taken ∙ sym (take-append-drop first list)) ∙ flat_map-append children (take first list) frontier in
    record {
      within = rw joins (omega (arith, length-append list (firsts_after list (flat_map children frontier))));
      order = joins
          ∙ ap (λ ns. joined ns (flat_map children frontier)) filled.order
          ∙ sym (joined-append [] (roots w.registers ++ front) (flat_map children frontier))
          ∙ ap firsts (append_assoc (roots w.registers) front (flat_map children frontier) ∙ ap (λ ns. roots w.registers ++ ns) (sym met));
      reached = all_of (Reaches w) more (λ n h. elim (joined-cases n list (flat_map children frontier) (rw joins at h)) [
        | inl there ↦ of_all (Reaches w) list filled.reached n there
        | inr named_there ↦
            let (slot, in_frontier, named_here) = in_flat_map children n frontier named_there in
            child slot n (of_all (Reaches w) list filled.reached slot (in_back first list slot in_frontier)) named_here
      ]);
    }
  where
    in_back : (k : ℕ) (ns : List ℕ) (n : ℕ) → is_in n (drop k ns) ≡ true → is_in n ns ≡ true
    in_back k ns n there = subst (λ ms. is_in n ms ≡ true) (take-append-drop k ns) (is_in-right n (take k ns) (drop k ns) there)

-- a trace without a frontier is the numbering of a listing
filled_whole : (w : Sight) (first : ℕ) (list : List ℕ) → IsFilled w first list → length list ≤ first → NumbersSlots w list
filled_whole w first list filled none = record {
  order = filled.order ∙ ap (λ ns. firsts (roots w.registers ++ flat_map (targets_of w) ns)) (take_all first list none);
  reached = filled.reached;
}

module _ (w : Core) (kept : IsWorld w) where
  -- registers and fields of a world name slots that there are
  names : NamesBelow (sight w) w.config.slots
  names = let below = names_below w kept.shaped in record { registers = below.registers; fields = below.fields }

  -- so do the words of its fields
  pub world_fields : (slots : ℕ) (words : List ℕ) (each : ℕ) → slots ≡ w.config.slots → words ≡ w.words → each ≡ w.config.fields → AreFieldsOf slots words each
  world_fields slots words each many same size = rw (many, same, size) (record {
    places = kept.shaped.sound.places ∙ ap (λ n. n * w.config.fields) kept.shaped.headers;
    leads = λ slot child there. names.fields slot child there;
  })

  -- and each slot of a trace is one of them
  pub world_below : (slots next : ℕ) (list : List ℕ) → slots ≡ w.config.slots → IsFilled (sight w) next list → AreBelow slots list
  world_below slots next list many filled = rw many (filled_below (sight w) w.config.slots next list names filled)

  -- A trace begins with what the registers name.
  pub world_roots : (list : List ℕ) → list ≡ joined [] (roots (sight w).registers) → IsFilled (sight w) 0 list
  world_roots list e =
      let filled = filled_registers (sight w).registers w.words w.config.fields [] list refl e in
      record { within = filled.within; order = filled.order; reached = filled.reached }

  -- Then the fields of the frontier are followed, as they were read.
  pub world_frontier : (first each : ℕ) (list more words now : List ℕ) → words ≡ w.words → each ≡ w.config.fields → now ≡ list → IsFilled (sight w) first list → more ≡ joined list (all_children words each (drop first list)) → IsFilled (sight w) (length now) more
  world_frontier first each list more words now same size read filled e =
      subst (λ ns. IsFilled (sight w) (length ns) more) (sym read)
      (filled_frontier (sight w) first list more filled (e ∙ ap (λ ws. joined list (all_children ws each (drop first list))) same ∙ ap (λ n. joined list (all_children w.words n (drop first list))) size))

  -- Where no frontier is left, the list is the numbering of a listing.
  pub world_listed : (first : ℕ) (list now result : List ℕ) → IsFilled (sight w) first list → now ≡ list → length now ≤ first → result ≡ list → NumbersSlots (sight w) result
  world_listed first list now result filled read none is = rw is (filled_whole (sight w) first list filled (subst (λ ns. length ns ≤ first) read none))

-- What a stopped heap leaves is a world again.
use Rattle.std.proofs.Common.{◌≡◌, ℕ, zero, suc, ◌+◌, ◌-◌, ◌%◌, ◌^◌, ◌<◌, ◌≤◌, All, false, List, [], length, map, take, get_or, Option, refl, sym, ap, ◌∙◌, arith}
use Rattle.std.specs.List.{sum_by}
use Rattle.std.proofs.lemmas.List.{get_or-map, length-map, take_all}
use Rattle.rec_table.proofs.Common.{Contents, Private, is_busy, Core, mutator, nobody, after_moves, IsWorld, made_small, world_kept, beats_of, births_told, gathered_all, told, AreMutatorsOf, MutatorView, Started, fresh, mutator_now, boxes_out, Beat, CollectorSeat}
use Rattle.rec_collector.specs.Private as collectors
use Rattle.rec_core.specs.Worked.{AreIdle}
use Rattle.rec_core.specs.declared.config.Config.{Config}
use Rattle.rec_world.specs.Parts.{AreParts}
use Rattle.rec_world.specs.declared.parts.Parts.{Parts}
use Rattle.rec_table.specs.Ends.{IsRunOf}
use Rattle.rec_table.proofs.Births.{births_add_up, births_all}
use Rattle.rec_table.proofs.Closing.{Ends, all_even, ends}
use Rattle.rec_table.proofs.Lists.{sum_more, take_next}

-- what is in hand as the table is closed
pub record InHand (s : Started) (c : CollectorSeat) (hs : List MutatorView) (ms : List Private) (g : collectors.Private) : Type 0 where
  pub world : IsWorld s.world
  pub mutators : AreMutatorsOf s hs
  pub known : c.known ≡ map (λ (m : MutatorView). m.log) hs
  pub machines : ms ≡ map mutator_now hs
  pub idle : All (λ (p : Private). is_busy p ≡ false) ms
  pub collector : g ≡ gathered_all s.world.collector c.log
  pub none : boxes_out g ≡ []

module _ (s : Started) (c : CollectorSeat) (hs : List MutatorView) (ms : List Private) (g : collectors.Private) (ws : List ℕ) (xs : List (Option Contents)) (r : IsRunOf s.world c ws xs) (h : InHand s c hs ms g) where
  many : length ms ≡ s.world.config.mutators
  many = ap length h.machines ∙ length-map hs mutator_now ∙ h.mutators.all

  -- the k-th of them
  opened : (k : ℕ) (d : MutatorView) → k < length hs → (get_or hs k d).opened ≡ mutator s.world (k + 1)
  opened k d lt = let e = h.mutators.each k d lt in e.0.2 ∙ ap (mutator s.world) e.1

  its_log : (k : ℕ) (d : MutatorView) → k < length hs → get_or c.known k [] ≡ (get_or hs k d).log
  its_log k d lt = ap (λ (l : List (List Beat)). get_or l k []) h.known ∙ get_or-map (λ (m : MutatorView). m.log) hs k d [] lt

  its_machine : (k : ℕ) → k < s.world.config.mutators → (get_or ms k nobody ≡ told (mutator s.world (k + 1)) (get_or c.known k [])) × (is_busy (get_or ms k nobody) ≡ false)
  its_machine k lt =
      let d : MutatorView = fresh s 0 in
      let there : k < length hs = omega (arith, lt, h.mutators.all) in (
        ap (λ (l : List Private). get_or l k nobody) h.machines ∙ get_or-map mutator_now hs k d nobody there ∙ (λ i. told (opened k d there i) (sym (its_log k d there) i)),
        h.idle k nobody (omega (arith, lt, many)),
      )

  left : Ends s.world c ws xs ms g r
  left = ends s.world c ws xs ms g r h.world h.collector h.none many its_machine

  -- the births of all lists are those of the run
  births : (n : ℕ) → n ≤ length hs → sum_by (λ (m : MutatorView). births_told m.opened m.log) (take n hs) ≡ births_all s.world r.run n
  births zero le = refl
  births (suc n) le =
      let d : MutatorView = fresh s 0 in
      let there : n < length hs = omega (arith, le) in
      let x : MutatorView = get_or hs n d in
      let rest = births n (omega (arith, le)) in
      let one : births_told x.opened x.log ≡ births_told (mutator s.world (n + 1)) (beats_of (n + 1) s.world r.run) = λ i. births_told (opened n d there i) ((sym (its_log n d there) ∙ r.theirs n) i) in
      let apart : sum_by (λ (m : MutatorView). births_told m.opened m.log) (take (suc n) hs) ≡ sum_by (λ (m : MutatorView). births_told m.opened m.log) (take n hs) + births_told x.opened x.log =
      ap (sum_by (λ (m : MutatorView). births_told m.opened m.log)) (take_next hs n d there) ∙ sum_more (λ (m : MutatorView). births_told m.opened m.log) (take n hs) x in
      omega (arith, rest, one, apart)

  pub made_right : (made : ℕ) → made ≡ (s.world.made + sum_by (λ (m : MutatorView). births_told m.opened m.log) hs) % 2 ^ 64 → made ≡ (after_moves s.world r.run).made
  made_right made is =
      let w : Core = after_moves s.world r.run in
      let small = made_small w (world_kept w r.world) in
      let total = births_add_up s.world r.run (world_kept s.world h.world) r.fit in
      let all = births (length hs) (omega arith) in
      let whole : sum_by (λ (m : MutatorView). births_told m.opened m.log) (take (length hs) hs) ≡ sum_by (λ (m : MutatorView). births_told m.opened m.log) hs = ap (sum_by (λ (m : MutatorView). births_told m.opened m.log)) (take_all (length hs) hs (omega arith)) in
      let same : births_all s.world r.run (length hs) ≡ births_all s.world r.run s.world.config.mutators = ap (births_all s.world r.run) h.mutators.all in
      let sum : s.world.made + sum_by (λ (m : MutatorView). births_told m.opened m.log) hs ≡ w.made = omega (arith, total, all, whole, same) in
      is ∙ ap (λ n. n % 2 ^ 64) sum ∙ (let low : w.made < 18446744073709551616 = omega (arith, small) in omega (arith, low))

  pub parts_right : (parts : Parts) → parts.config ≡ s.world.config → parts.row.items ≡ ws → parts.boxes.items ≡ xs → parts.machines.items ≡ ms → parts.collector ≡ g → parts.made ≡ (after_moves s.world r.run).made
      → AreParts (after_moves s.world r.run) parts
  parts_right parts config words boxes machines collector made = record {
    config = config ∙ sym left.config;
    row = words ∙ r.words;
    boxes = boxes ∙ sym left.boxes;
    machines = machines ∙ sym left.mutators;
    collector = collector ∙ sym left.collector;
    made = made;
  }

  idle_at : (k : ℕ) → k < (after_moves s.world r.run).config.mutators → is_busy (mutator (after_moves s.world r.run) (k + 1)) ≡ false
  idle_at k lt =
      let config : (after_moves s.world r.run).config.mutators ≡ s.world.config.mutators = ap (λ (x : Config). x.mutators) left.config in
      let at_k : k + 1 - 1 ≡ k = omega arith in
      ap is_busy (ap (λ (l : List Private). get_or l (k + 1 - 1) nobody) left.mutators ∙ ap (λ n. get_or ms n nobody) at_k) ∙ h.idle k nobody (omega (arith, lt, config, many))

  pub all_idle : AreIdle (after_moves s.world r.run)
  all_idle = λ t is. let e : t - 1 + 1 ≡ t = omega (arith, is.0) in ap (λ n. is_busy (mutator (after_moves s.world r.run) n)) (sym e) ∙ idle_at (t - 1) (omega (arith, is.0, is.1))

  pub boxes_even : All (λ word. word % 2 ≡ 0) (after_moves s.world r.run).crossing
  boxes_even =
      let w : Core = after_moves s.world r.run in
      all_even w (world_kept w r.world) idle_at (ap boxes_out left.collector ∙ h.none)

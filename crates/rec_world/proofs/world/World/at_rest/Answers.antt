-- Each mutator has one of the machines.
use Rattle.std.proofs.Common.{◌≡◌, ◌↔◌, ℕ, ◌+◌, ◌-◌, ◌<◌, All, IsTrue, List, false, slice_index_or, length, subst, arith}
use Rattle.std.proofs.lemmas.List.Elements.{All-get_or, All-from_get_or}
use Rattle.rec_world.proofs.Common.{Private, is_busy, IsMutator, Core, nobody, core}
use Rattle.rec_core.specs.Worked.{AreIdle}
use Rattle.rec_world.proofs.world.World.at_rest.Goals as goal

-- that none of the machines works is said machine by machine, or mutator by mutator
idle_each : (w : Core) → length w.mutators ≡ w.config.mutators → All (λ (p : Private). is_busy p ≡ false) w.mutators ↔ AreIdle w
idle_each w many = (
  (λ all t there. All-get_or (λ (p : Private). is_busy p ≡ false) w.mutators (t - 1) nobody (below t there) all),
  (λ idle. All-from_get_or (λ (p : Private). is_busy p ≡ false) w.mutators nobody (λ i in_list. one i in_list idle)),
)
  where
    below : (t : ℕ) → IsMutator w.config t → t - 1 < length w.mutators
    below t there = omega (arith, there, many)

    one : (i : ℕ) → i < length w.mutators → AreIdle w → is_busy (slice_index_or w.mutators i nobody) ≡ false
    one i in_list idle =
        let place : i + 1 - 1 ≡ i = omega arith in
        subst (λ n. is_busy (slice_index_or w.mutators n nobody) ≡ false) place (idle (i + 1) (omega arith, omega (arith, in_list, many)))

pub returns : goal.returns
returns c =
    let w : Core = core c.self.inside in
    let each : All (λ (p : Private). is_busy p ≡ false) w.mutators ↔ AreIdle c.args.self.now = subst (λ (s : Core). All (λ (p : Private). is_busy p ≡ false) w.mutators ↔ AreIdle s) c.self.view_is (idle_each w c.self.invariant.world.shaped.mutators) in
    let told : IsTrue c.are_idle.result ↔ All (λ (p : Private). is_busy p ≡ false) w.mutators = subst (λ (ps : List Private). IsTrue c.are_idle.result ↔ All (λ p. is_busy p ≡ false) ps) c.as_slice.ensures.value c.are_idle.ensures in
    ((λ rests. each.0 (told.0 rests)), (λ idle. told.1 (each.1 idle)))

-- The batch of a heap at rest: it counts what registers name, and no register names a member of a set. So nothing holds the sets still.
use Rattle.std.proofs.Common.{◌≡◌, ℕ, ◌+◌, ◌-◌, ◌<◌, Bool, false, Option, None, Some, List, [], length, map, sym, ap, subst, ◌∙◌, arith, ◌/◌, ◌≢◌, ◌∷◌, true, inl, inr, refl, slice_index_or}
use Rattle.std.proofs.lemmas.List.Sums.{get_or-le-sum_by}
use Rattle.rec_counts.specs.Batch.{applied, IsApplied, touches}
use Rattle.rec_counts.proofs.Told.{leaves_told, touches_named}
use Rattle.rec_counts.proofs.Naming.{named-nil}
use Rattle.rec_release.specs.Release.{started_of}
use Rattle.rec_collector.specs.Kept.{IsAt}
use Rattle.rec_collector.specs.Private as collectors
use Rattle.rec_collector.proofs.Following.{batched_clear, none_released, resting_cleared, rows_alike}
use Rattle.rec_settle.specs.Quiet.{IsRetired}
use Rattle.rec_core.proofs.Applying.{is_counted}
use Rattle.rec_core.proofs.Batches.{none_of}
use Rattle.rec_settle.proofs.Rest.SecondReach.{green_zeros_rest}
use Rattle.rec_settle.proofs.Rest.SettlingBetween.{unheld_batch}
use Rattle.std.proofs.lemmas.Bool.{cases_eq, cases_lt, false≢true}
use Rattle.std.proofs.lemmas.List.{get_or_past}
use Rattle.rec_core.proofs.Common.{sum_by-map, Contents, Entry, State, slot_at, added, leaf_born, leaves, named, new_target, old_target, taken, IsReady, emptied, next_from, without_first, Private, IsCleared, Parts, buffer_at, parts_of, Begun, zeros_released, releasing_at, batched, Phase, Opening, Returning, Freeing, IsMutator, Core, mutator, nobody, sight, stand_at, IsKeptBy, is_green, times, absent, is_in, Slot, field_kept, one-same, times-cons, At}
use Rattle.rec_settle.specs.Resting.{AreCounted, FreesRest, SetsRest, holds, AreLeaves}
use Rattle.rec_settle.specs.Settling.{AreUnheld}
use Rattle.rec_release.proofs.Keeping.{each_next, emptied_zeros, released_first, released_same}
use Rattle.rec_core.proofs.Begun.{batch_comes}
use Rattle.rec_core.proofs.Counts.{emptied_alike}
use Rattle.rec_settle.proofs.Rest.FirstTrial.{leaves_landed}
use Rattle.rec_settle.proofs.Rest.SettlingTests.{outside_same}

-- Between the batch and the trial of the second collection the last set passed and is freed, or nothing is begun: no slot is released.
abbrev pub FreesIn : Core → (words : List ℕ) → Parts → Option Phase → Type 0
FreesIn w words v None = SetsRest w words [] v.counts
FreesIn w words v (Some (Freeing m)) = FreesRest w words (record { machine = m; counts = v.counts })
FreesIn w words v (Some _) = ⊥

abbrev pub FreesOn : Core → (words : List ℕ) → Begun → Type 0
FreesOn w words b = FreesIn w words b.parts b.phase

-- A Green slot is released: nothing changes of the sets, as no member is Green and none of its fields leads anywhere.
unheld_leaf : (fields : ℕ) (words : List ℕ) (s t : State) (z : ℕ) → is_green (slot_at s z).colour ≡ true → AreLeaves fields words s → ((x : ℕ) → (slot_at t x).set ≡ (slot_at s x).set) → ((x : ℕ) → (slot_at t x).colour ≡ (slot_at s x).colour)
    → ((x : ℕ) → (slot_at t x).cyclic ≡ (slot_at s x).cyclic) → ((x : ℕ) → x ≢ z → (slot_at t x).released ≡ (slot_at s x).released) → ((x : ℕ) → (slot_at t x).released ≡ false → (slot_at s x).released ≡ false) → AreUnheld fields words [] s → AreUnheld fields words [] t
unheld_leaf fields words s t z green leaves set colour cyclic released live u = record {
  back = record {
    orange = λ x i e. colour x ∙ u.back.orange x i (sym (set x) ∙ e);
    unreleased = λ x i e. released x (apart x i (sym (set x) ∙ e)) ∙ u.back.unreleased x i (sym (set x) ∙ e);
    emptied = λ p l e n. elim (cases_eq (p / fields) z) [
      | inl same ↦ leaves p l (ap (λ k. is_green (slot_at s k).colour) same ∙ green)
      | inr other ↦ u.back.emptied p l (sym (released (p / fields) other) ∙ e) n
    ];
    earlier = λ p x i j l e f h. u.back.earlier p x i j l (sym (set (p / fields)) ∙ e) (sym (set x) ∙ f) h;
    members = λ p x j l n e f h. u.back.members p x j l (live (p / fields) n) (sym (set (p / fields)) ∙ e) (sym (set x) ∙ f) h;
  };
  cyclic = λ x i e. cyclic x ∙ u.cyclic x i (sym (set x) ∙ e) ∙ sym (outside_same words fields s t i x (λ n. ap (is_in i) (set n)));
}
  where
    apart : (x i : ℕ) → (slot_at s x).set ≡ Some i → x ≢ z
    apart x i e same = false≢true (sym (ap is_green (u.back.orange x i e)) ∙ (ap (λ k. is_green (slot_at s k).colour) same ∙ green))

-- Where all zeros are Green, they are released at once, and no field comes next.
record OnGreens (w : Core) (words : List ℕ) (at : Option At) (s : State) : Type 0 where
  none : at ≡ None
  rests : SetsRest w words [] s
  zeros : (x : ℕ) → 0 < times x s.zeros → is_green (slot_at s x).colour ≡ true
  leaves : AreLeaves w.config.fields words s

greens_on : (w : Core) (words : List ℕ) (s : State) (z : ℕ) (zs : List ℕ) → s.zeros ≡ z ∷ zs → is_green (slot_at s z).colour ≡ true → OnGreens w words None s → OnGreens w words None (emptied (without_first (z ∷ zs) s) z)
greens_on w words s z zs is green on =
    let t : State = without_first (z ∷ zs) s in
    let u : State = emptied t z in
    let v : Slot = record (slot_at s z) { released = true } in
    let same : (x : ℕ) → slot_at u x ≡ slot_at t x = λ x. ap (λ (ss : List Slot). slice_index_or ss x absent) (emptied_alike t z) in
    let colour : (x : ℕ) → (slot_at u x).colour ≡ (slot_at s x).colour = λ x. ap (λ (c : Slot). c.colour) (same x) ∙ field_kept (λ (c : Slot). c.colour) s.slots z v refl x in
    let set : (x : ℕ) → (slot_at u x).set ≡ (slot_at s x).set = λ x. ap (λ (c : Slot). c.set) (same x) ∙ field_kept (λ (c : Slot). c.set) s.slots z v refl x in
    let cyclic : (x : ℕ) → (slot_at u x).cyclic ≡ (slot_at s x).cyclic = λ x. ap (λ (c : Slot). c.cyclic) (same x) ∙ field_kept (λ (c : Slot). c.cyclic) s.slots z v refl x in
    let released : (x : ℕ) → x ≢ z → (slot_at u x).released ≡ (slot_at s x).released = λ x other. ap (λ (c : Slot). c.released) (same x) ∙ released_same s z x other in
    let live : (x : ℕ) → (slot_at u x).released ≡ false → (slot_at s x).released ≡ false = λ x e. elim (cases_eq x z) [
      | inr other ↦ sym (released x other) ∙ e
      | inl own ↦ elim (cases_lt z (length s.slots)) [
        | inl there ↦ absurd (false≢true (sym e ∙ (ap (λ (c : Slot). c.released) (same x) ∙ ap (λ k. (slot_at t k).released) own ∙ released_first s z there)))
        | inr past ↦ absurd (false≢true (sym (ap (λ (c : Slot). is_green c.colour) (get_or_past s.slots z absent past)) ∙ green))
      ]
    ] in
    record {
      none = refl;
      rests = record {
        unheld = unheld_leaf w.config.fields words s u z green on.leaves set colour cyclic released live on.rests.unheld;
        found = λ x unreleased other none. on.rests.found x (live x unreleased) (sym (ap is_green (colour x)) ∙ other) (sym (set x) ∙ none);
        unnamed = λ x i e. on.rests.unnamed x i (sym (set x) ∙ e);
      };
      zeros = λ x there. ap is_green (colour x) ∙ on.zeros x (omega (arith, there, ap (times x) (emptied_zeros t z), ap (times x) is, times-cons x z zs));
      leaves = λ p l e. on.leaves p l (sym (ap is_green (colour (p / w.config.fields))) ∙ e);
    }

pub greens_released : (w : Core) (words : List ℕ) (lowers : Bool) (v : Parts) → IsReady v.counts → AreLeaves w.config.fields words v.counts → ((x : ℕ) → 0 < times x v.counts.zeros → is_green (slot_at v.counts x).colour ≡ true) → SetsRest w words [] v.counts
    → FreesOn w words (zeros_released lowers v)
unfolding started_of
greens_released w words lowers v ready leaves zeros rest =
    let end = each_next (OnGreens w words) (λ s z zs is r green on. greens_on w words s z zs is green on) (λ s z zs is r other on. absurd (false≢true (sym other ∙ on.zeros z (omega (arith, ap (times z) is, times-cons z z zs, one-same z)))))
    v.counts.zeros v.counts refl ready (record { none = refl; rests = rest; zeros = zeros; leaves = leaves }) in
    by (next_from v.counts.zeros v.counts).at end.none end.rests
  where
    by : (at : Option At) → at ≡ None → SetsRest w words [] (next_from v.counts.zeros v.counts).counts → FreesIn w words (record v { counts = (next_from v.counts.zeros v.counts).counts }) (releasing_at (record { fields = v.fields; at = at; lowers = lowers }) at)
    by None e r = r
    by (Some a) e r = let not_so : ◌≡◌ {A = Option At} (Some a) None = e in absurd (cc)

-- what a buffer without entries adds and takes off is what its snapshot names
added_by : (x : ℕ) (registers : List (Option ℕ)) (b : Contents) → IsRetired registers b → named x registers ≡ 0 → named x (map new_target b.entries) + named x b.snapshot ≡ 0
added_by x registers b retired none = omega (arith, ap (λ (es : List Entry). named x (map new_target es)) retired.entries, named-nil x, ap (named x) retired.snapshot, none)

taken_by : (x : ℕ) (registers : List (Option ℕ)) (b : Contents) → IsRetired registers b → named x registers ≡ 0 → named x (map old_target b.entries) + named x b.snapshot ≡ 0
taken_by x registers b retired none = omega (arith, ap (λ (es : List Entry). named x (map old_target es)) retired.entries, named-nil x, ap (named x) retired.snapshot, none)

module _ (w : Core) (t : ℕ) (kept : IsKeptBy true (stand_at w.collector.left Opening) w) (phase : w.collector.phase ≡ Returning t)
    (retired : (s : ℕ) → IsMutator w.config s → IsRetired (mutator w s).registers (buffer_at w.collector.newer (s - 1)) × IsRetired (mutator w s).registers (buffer_at w.collector.older (s - 1)))
    (rested : SetsRest w w.words [] w.collector.counts) where
  open w use {collector as c}
  open (subst (IsAt c) phase kept.collector.machine.now) use {rest}

  -- no register names a member
  unnamed : (x i m : ℕ) → (slot_at c.counts x).set ≡ Some i → IsMutator w.config m → named x (mutator w m).registers ≡ 0
  unnamed x i m is there =
      let all : length w.mutators ≡ w.config.mutators = kept.mutators.many in
      let within : m - 1 < length w.mutators = omega (arith, there.0, there.1, all) in
      let none : holds (sight w) x ≡ 0 = rested.unnamed x i is in
      omega (arith, none, get_or-le-sum_by (λ (p : Private). named x p.registers) w.mutators (m - 1) nobody within, sum_by-map (named x) (λ (p : Private). p.registers) w.mutators)

  -- the buffers of the mutator with this place
  own : (place : ℕ) → place < w.config.mutators → IsMutator w.config (place + 1) × IsRetired (mutator w (place + 1)).registers (buffer_at c.newer place) × IsRetired (mutator w (place + 1)).registers (buffer_at c.older place)
  own place below =
      let there : IsMutator w.config (place + 1) = (omega arith, omega arith) in
      let at : place + 1 - 1 ≡ place = omega arith in
      let both = subst (λ n. IsRetired (mutator w (place + 1)).registers (buffer_at c.newer n) × IsRetired (mutator w (place + 1)).registers (buffer_at c.older n)) at (retired (place + 1) there) in
      (there, both.0, both.1)

  -- nothing was born
  unborn : (x : ℕ) → leaves x c.newer ≡ 0
  unborn x = none_of (λ (b : Contents). named x (map leaf_born b.entries)) c.newer (collectors.blank 0 0) (λ place below.
      ap (λ (es : List Entry). named x (map leaf_born es)) (own place (omega (arith, below, kept.collector.mutators))).1.entries ∙ named-nil x)

  -- and the batch touches no member
  spared : (x i : ℕ) → (slot_at c.counts x).set ≡ Some i → touches c.policy.steady x c.newer c.older ≡ 0
  spared x i is =
      let up : added x c.newer ≡ 0 = none_of (λ (b : Contents). named x (map new_target b.entries) + named x b.snapshot) c.newer (collectors.blank 0 0) (λ place below.
      let o = own place (omega (arith, below, kept.collector.mutators)) in
      added_by x (mutator w (place + 1)).registers (buffer_at c.newer place) o.1 (unnamed x i (place + 1) is o.0)) in
      let down : taken x c.older ≡ 0 = none_of (λ (b : Contents). named x (map old_target b.entries) + named x b.snapshot) c.older (collectors.blank 0 0) (λ place below.
      let o = own place (omega (arith, below, kept.collector.machine.both, kept.collector.mutators)) in
      taken_by x (mutator w (place + 1)).registers (buffer_at c.older place) o.2 (unnamed x i (place + 1) is o.0)) in
      omega (arith, up, down, unborn x, touches_named c.policy.steady x c.newer c.older (rows_alike c kept.collector.machine))

  is : IsApplied c.policy.steady c.counts c.newer c.older (batched c).counts
  is = is_counted w t kept phase

  rested_then : SetsRest w w.words [] (batched c).counts
  rested_then = record {
    unheld = unheld_batch w.config.fields w.words [] is spared rested.unheld;
    found = λ x unreleased other none. rested.found x (sym (is.rest.released x) ∙ unreleased) (sym (is.greens x (leaves_told c.policy.steady x c.newer c.older ∙ unborn x)) ∙ other) (sym (is.rest.set x) ∙ none);
    unnamed = λ x i e. rested.unnamed x i (sym (is.rest.set x) ∙ e);
  }

  -- The batch is applied. All zeros that it leaves are Green, as the counts come to what fields and registers name.
  pub frees_rest_applied : AreCounted w w.words (applied w.collector.policy.steady w.collector.counts w.collector.newer w.collector.older) → FreesOn w w.words (zeros_released false (batched w.collector))
  frees_rest_applied counted =
      let before : IsCleared (parts_of c) = resting_cleared (parts_of c) rest in
      let tidy = batched_clear is (none_released rest) before.tidy rest.counted before.ready before.work in
      greens_released w w.words false (batched c) tidy.1 (leaves_landed (batch_comes w t kept phase).landed) (green_zeros_rest w w.words [] (batched c).counts (is.rest.slots ∙ kept.collector.slots) is.zeros tidy.0.apart counted rested_then) rested_then

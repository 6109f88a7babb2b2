-- A lost slot stays lost until it is freed, what leads to it is lost and led to it before, and its count comes to the fields that lead
-- to it.
use Rattle.std.proofs.Common.{◌≡◌, inl, inr, ℕ, suc, ◌+◌, ◌-◌, ◌/◌, ◌<◌, ◌≤◌, true, false, List, [], ◌∷◌, Option, None, Some, length, map, slice_index_or, sym, ap, subst, ◌∙◌, arith}
use Rattle.std.proofs.Math.ListN.{get_or-map}
use Rattle.std.proofs.lemmas.Bool.{false≢true}
use Rattle.rec_core.proofs.Common.{place_of, target_of, AllFit, Core, EndsRun, Idle, IsConfig, IsKept, Move, Private, Reaches, after_moves, nobody, register, sight, slot_at, targets_of}
use Rattle.rec_word.specs.Bare.{bare}
use Rattle.rec_word.proofs.Bare.{target_of_bare}
use Rattle.rec_model.specs.Heap.{roots}
use Rattle.rec_model.specs.Reach.{is_in, named}
use Rattle.rec_model.proofs.Members.{is_in-cases, is_in-cons}
use Rattle.rec_model.proofs.Seen.{field_target}
use Rattle.rec_model.proofs.Within.{all_reached}
use Rattle.rec_collector.specs.Kept.{under_way}
use Rattle.rec_core.specs.Bare.{bare_core}
use Rattle.rec_core.proofs.BareSeen.{reached_too, words_alike}
use Rattle.rec_core.proofs.Dated.{Explains, end_explained, moves_explained}
use Rattle.rec_core.proofs.Moves.{home_of}
use Rattle.rec_core.proofs.Runs.{config_after}
use Rattle.rec_prompt.specs.Lost.{fields_to, IsLost, Leads}
use Rattle.rec_prompt.specs.Prompt.{freed_over, IsLeft}
use Rattle.rec_prompt.proofs.Counts.{counted_fields}
use Rattle.rec_prompt.proofs.Forgets.{counted, node_leads}
use Rattle.rec_prompt.proofs.Moves.{forgotten, lost_over}
use Rattle.rec_prompt.proofs.Prompt.{freed_behind, leads_bare, lost_behind}

-- what registers name, a register names
named_by : (slot : ℕ) (xs : List (Option ℕ)) → is_in slot (named xs) ≡ true → (r : ℕ) × (slice_index_or xs r None ≡ Some slot)
named_by slot [] there = absurd (false≢true there)
named_by slot (None ∷ xs) there = let rest = named_by slot xs there in (suc rest.0, rest.1)
named_by slot (Some m ∷ xs) there = elim (is_in-cons slot m (named xs) there) [
  | inl same ↦ (0, ap Some same)
  | inr later ↦ let rest = named_by slot xs later in (suc rest.0, rest.1)
]

root_of : (slot : ℕ) (ps : List Private) → is_in slot (roots (map (λ (p : Private). p.registers) ps)) ≡ true → (i r : ℕ) × (i < length ps) × (register (slice_index_or ps i nobody) r ≡ Some slot)
root_of slot [] there = absurd (false≢true there)
root_of slot (p ∷ ps) there = elim (is_in-cases slot (named p.registers) (roots (map (λ (x : Private). x.registers) ps)) there) [
  | inl own ↦ let (r, names) = named_by slot p.registers own in (0, r, omega arith, names)
  | inr later ↦ let (i, r, below, names) = root_of slot ps later in (suc i, r, omega (arith, below), names)
]

-- Of a heap of dated words, over any moves.
module _ (v : Core) (ms : List Move) (kept : IsKept true v) (fit : AllFit v ms) where
  open (forgotten v ms kept fit) use {f, kept_then}

  -- what leads to it
  pub still_led : (from slot : ℕ) → lost_over v ms slot → Leads (sight (after_moves v ms)) from slot → lost_over v ms from × Leads (sight v) from slot
  still_led from slot gone (field, within, leads) =
      let same : (after_moves v ms).config ≡ v.config = config_after v ms in
      let here : place_of from field (after_moves v ms).config.fields / (after_moves v ms).config.fields + 1 ≡ from + 1 = home_of from field (after_moves v ms).config.fields within in
      let source : place_of from field (after_moves v ms).config.fields / (after_moves v ms).config.fields ≡ from = omega (arith, here) in (
        subst (lost_over v ms) source (f.fields (place_of from field (after_moves v ms).config.fields) slot leads gone),
        (field, subst (λ k. field < k.fields) same within, subst (λ k. target_of (slice_index_or v.words (place_of from field k.fields) 0) ≡ Some slot) same (f.still (place_of from field (after_moves v ms).config.fields) slot leads gone)),
      )

  -- no register reaches it
  still_unreached : (slot : ℕ) → Reaches (sight (after_moves v ms)) slot → lost_over v ms slot → ⊥
  still_unreached slot from = all_reached (λ x. lost_over v ms x → ⊥) (roots (sight (after_moves v ms)).registers) (targets_of (sight (after_moves v ms))) at_root at_target slot from
    where
      at_root : (x : ℕ) → is_in x (roots (sight (after_moves v ms)).registers) ≡ true → lost_over v ms x → ⊥
      at_root x there gone =
          let (i, r, below, names) = root_of x (after_moves v ms).mutators there in
          let many : length (after_moves v ms).mutators ≡ (after_moves v ms).config.mutators = kept_then.mutators.many in
          let at : i + 1 - 1 ≡ i = omega arith in
          f.registers (i + 1) r x (omega arith, omega (arith, below, many)) (ap (λ n. register (slice_index_or (after_moves v ms).mutators n nobody) r) at ∙ names) gone

      at_target : (m n : ℕ) → Reaches (sight (after_moves v ms)) m → (lost_over v ms m → ⊥) → is_in n (targets_of (sight (after_moves v ms)) m) ≡ true → lost_over v ms n → ⊥
      at_target m n _ apart there gone =
          let (field, within, inside, node) = field_target (sight (after_moves v ms)) m n there in
          apart (still_led m n gone (field, within, node_leads (slice_index_or (after_moves v ms).words (place_of m field (after_moves v ms).config.fields) 0) n node)).0

  pub still_lost : (slot : ℕ) → lost_over v ms slot → IsLost (sight (after_moves v ms)) slot
  still_lost slot gone = record { taken = f.taken slot gone; unreached = λ from. still_unreached slot from gone }

  still_counted : (after_moves v ms).collector.phase ≡ Idle → v.epoch + 2 ≤ (after_moves v ms).epoch → (slot : ℕ) → lost_over v ms slot → (slot_at (after_moves v ms).collector.counts slot).count ≡ fields_to (sight (after_moves v ms)) slot
  still_counted idle past slot gone =
      let begun : counted (after_moves v ms) + under_way (after_moves v ms).collector.phase ≡ (after_moves v ms).epoch = kept_then.collector.begun in
      counted_fields (v.epoch + 1) v (lost_over v ms) (after_moves v ms) kept_then idle f (omega (arith, past, begun, ap under_way idle)) slot gone

-- ---- the heap itself

-- a field leads where it leads in the heap behind, and as many lead to a slot
leads_behind : (v : Core) (from to : ℕ) → Leads (sight (bare_core v)) from to → Leads (sight v) from to
leads_behind v from to (field, within, leads) =
    let word : ℕ = slice_index_or v.words (place_of from field v.config.fields) 0 in
    (field, within, sym (ap target_of (get_or-map bare v.words (place_of from field v.config.fields) 0) ∙ target_of_bare word) ∙ leads)

lost_bare : (v : Core) (slot : ℕ) → IsLost (sight v) slot → IsLost (sight (bare_core v)) slot
lost_bare v slot gone = record { taken = gone.taken; unreached = λ from. gone.unreached (reached_too v slot from) }

module _ (w : Core) (ms : List Move) (config : IsConfig w.config) (run : EndsRun w) (fit : AllFit w ms) where
  abbrev end : Core
  end = after_moves w ms

  -- what is left in the heap is left in the one behind, and the other way round
  left_behind : (v : Core) → Explains v w → (slot : ℕ) → IsLeft w ms slot → IsLost (sight v) slot × (is_in slot (freed_over v ms) ≡ false)
  left_behind v e slot gone = (lost_behind v slot (subst (λ (x : Core). IsLost (sight x) slot) (sym e.bare) gone.lost), ap (is_in slot) (sym (freed_behind v w ms e fit)) ∙ gone.unfreed)

  left_here : (v : Core) → Explains v w → (slot : ℕ) → IsLost (sight v) slot × (is_in slot (freed_over v ms) ≡ false) → IsLeft w ms slot
  left_here v e slot gone = record { lost = subst (λ (x : Core). IsLost (sight x) slot) e.bare (lost_bare v slot gone.0); unfreed = ap (is_in slot) (freed_behind v w ms e fit) ∙ gone.1 }

  pub stays_lost : (slot : ℕ) → IsLeft w ms slot → IsLost (sight end) slot
  stays_lost slot gone =
      let (v, e) = end_explained w config run in
      let all = moves_explained v w ms e fit in
      subst (λ (x : Core). IsLost (sight x) slot) all.1.bare (lost_bare (after_moves v ms) slot (still_lost v ms e.kept all.0 slot (left_behind v e slot gone)))

  pub stays_led : (slot from : ℕ) → IsLeft w ms slot → Leads (sight end) from slot → IsLeft w ms from × Leads (sight w) from slot
  stays_led slot from gone leads =
      let (v, e) = end_explained w config run in
      let all = moves_explained v w ms e fit in
      let there = still_led v ms e.kept all.0 from slot (left_behind v e slot gone) (leads_behind (after_moves v ms) from slot (subst (λ (x : Core). Leads (sight x) from slot) (sym all.1.bare) leads)) in
      (left_here v e from there.0, subst (λ (x : Core). Leads (sight x) from slot) e.bare (leads_bare v from slot there.1))

  pub stays_counted : end.collector.phase ≡ Idle → w.epoch + 2 ≤ end.epoch → (slot : ℕ) → IsLeft w ms slot → (slot_at end.collector.counts slot).count ≡ fields_to (sight end) slot
  stays_counted idle past slot gone =
      let (v, e) = end_explained w config run in
      let all = moves_explained v w ms e fit in
      let u : Core = after_moves v ms in
      let there = still_counted v ms e.kept all.0 (ap (λ (x : Core). x.collector.phase) all.1.bare ∙ idle) (omega (arith, past, ap (λ (x : Core). x.epoch) e.bare, ap (λ (x : Core). x.epoch) all.1.bare)) slot (left_behind v e slot gone) in
      subst (λ (x : Core). (slot_at x.collector.counts slot).count ≡ fields_to (sight x) slot) all.1.bare (there ∙ sym (words_alike slot u.words))

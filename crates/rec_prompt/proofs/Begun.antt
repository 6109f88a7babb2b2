-- Where forgetting begins, and where the buffers of a heap are late enough: at the end of the second collection.
use Rattle.std.proofs.Common.{◌≡◌, ◌⊎◌, inl, inr, ℕ, ◌+◌, ◌/◌, ◌%◌, ◌<◌, ◌≤◌, if◌then◌else◌, true, false, Bool, Some, map, slice_index_or, ap, subst, ◌∙◌, arith}
use Rattle.std.proofs.Math.ListN.{get_or-map}
use Rattle.std.proofs.Math.Nat.{mod-lt, div-add-mod, mul_comm}
use Rattle.rec_core.proofs.Common.{place_of, target_of, word_in, words_of, Contents, Private, is_busy, IsMutator, Core, box, mutator, sight, crossing_of, spare_of, IsKept, Idle, Handshake, IsHandshake, stand_at, epoch_at, has_let_go}
use Rattle.rec_core.specs.Kept.{LetGo}
use Rattle.rec_core.specs.declared.config.Config.{Config}
use Rattle.rec_model.specs.Reach.IsReached.{root, child}
use Rattle.rec_model.proofs.Names.{named_at, register_root}
use Rattle.rec_collector.specs.Kept.{under_way}
use Rattle.rec_collector.specs.Present.{has_left}
use Rattle.rec_core.proofs.Actors.{crossed_here, epoch_here, epoch_next, idle_here, left_let_go}
use Rattle.rec_core.proofs.Steps.{actor_of, own_register, stand_of}
use Rattle.rec_prompt.specs.Lost.{IsLost}
use Rattle.rec_prompt.proofs.Forgets.{counted, Forgets, spare_clean}
use Rattle.rec_prompt.proofs.Turns.{leads_from_taken}

-- A log is of the requested epoch or an earlier one, unless its mutator leaves or has left: then it is a spare.
log_at : (config : Config) (requested : ℕ) (p : Private) (crossing : ℕ) (b : Contents) (stand : Handshake) → (p.left ≡ true → is_busy p ≡ false) → (has_let_go p ≡ true → LetGo config p) → IsHandshake config requested p crossing b stand
    → (epoch_at p ≤ requested) ⊎ ((epoch_at p ≡ requested + 1) × (p.log ≡ spare_of config))
log_at config requested p crossing b Handshake.Done idle let_go (inl (crossed, stays, spare)) = inl (omega (arith, crossed_here crossed))
log_at config requested p crossing b Handshake.Done idle let_go (inr (inl (crosses, parting))) = inr (epoch_next p crosses.phase ∙ crosses.epoch, crosses.spare)
log_at config requested p crossing b Handshake.Done idle let_go (inr (inr retired)) = inr (epoch_here p (idle_here p.phase (idle retired.left)) ∙ retired.epoch, (let_go (left_let_go p retired.left)).log)
log_at config requested p crossing b Handshake.Held idle let_go h = inl (omega (arith, crossed_here h.0))
log_at config requested p crossing b Handshake.Due idle let_go (inl behind) = inl (omega (arith, epoch_here p behind.here, behind.epoch))
log_at config requested p crossing b Handshake.Due idle let_go (inr (inl crosses)) = inl (omega (arith, epoch_next p crosses.phase, crosses.epoch))
log_at config requested p crossing b Handshake.Due idle let_go (inr (inr (crossed, last))) = inl (omega (arith, crossed_here crossed))
log_at config requested p crossing b Handshake.Gone idle let_go gone = inl (omega (arith, epoch_here p (idle_here p.phase (idle gone.left)), gone.past))

-- Between two collections a mutator is in the requested epoch or past it, or it has left, and its log and its mailbox are spares.
log_between : (config : Config) (requested : ℕ) (p : Private) (crossing : ℕ) (b : Contents) (gone : Bool) → (p.left ≡ true → is_busy p ≡ false) → (has_let_go p ≡ true → LetGo config p) → IsHandshake config requested p crossing b (if gone then Handshake.Gone else Handshake.Done)
    → (requested ≤ epoch_at p) ⊎ ((p.log ≡ spare_of config) × (b ≡ spare_of config))
log_between config requested p crossing b true idle let_go gone = inr ((let_go (left_let_go p gone.left)).log, gone.spare)
log_between config requested p crossing b false idle let_go (inl (crossed, stays, spare)) = inl (omega (arith, crossed_here crossed))
log_between config requested p crossing b false idle let_go (inr (inl (crosses, parting))) = inl (omega (arith, epoch_next p crosses.phase, crosses.epoch))
log_between config requested p crossing b false idle let_go (inr (inr retired)) = inl (omega (arith, epoch_here p (idle_here p.phase (idle retired.left)), retired.epoch))

pub between : (v : Core) (t : ℕ) → IsKept true v → v.collector.phase ≡ Idle → IsMutator v.config t → (v.epoch ≤ epoch_at (mutator v t)) ⊎ (((mutator v t).log ≡ spare_of v.config) × (box v t ≡ spare_of v.config))
between v t kept idle is =
    let actor = actor_of v t kept is in
    log_between v.config v.epoch (mutator v t) (crossing_of v t) (box v t) (has_left v.collector.left t) actor.own.idle actor.let_go
    (subst (λ phase. IsHandshake v.config v.epoch (mutator v t) (crossing_of v t) (box v t) (stand_at v.collector.left phase t)) idle actor.handshake)

-- Every heap has forgotten its lost slots from the epoch behind the requested one on.
module _ (v : Core) (kept : IsKept true v) where
  pub begun : counted v + under_way v.collector.phase ≡ v.epoch
  begun = kept.collector.begun

  -- a register, or a field of a slot that a register reaches, leads to no lost slot
  reaches : (place slot : ℕ) → target_of (slice_index_or v.words place 0) ≡ Some slot → IsLost (sight v) slot → IsLost (sight v) (place / v.config.fields)
  reaches place slot leads gone =
      let fields : ℕ = v.config.fields in
      let source : ℕ = place / fields in
      let field : ℕ = place % fields in
      let here : place_of source field fields ≡ place = ap (λ k. k + field) (mul_comm source fields) ∙ div-add-mod place fields in
      let within : field < fields = mod-lt place kept.config.some_fields in
      record {
        taken = leads_from_taken v kept place slot leads;
        unreached = λ from. gone.unreached (child source slot from
            (named_at (map target_of (words_of (sight v) source)) field slot (get_or-map target_of (words_of (sight v) source) field 0 ∙ ap target_of (word_in (sight v) source field within ∙ ap (λ n. slice_index_or v.words n 0) here) ∙ leads)));
      }

  log_of : (t : ℕ) → IsMutator v.config t → (epoch_at (mutator v t) ≤ v.epoch) ⊎ ((epoch_at (mutator v t) ≡ v.epoch + 1) × ((mutator v t).log ≡ spare_of v.config))
  log_of t is = let actor = actor_of v t kept is in log_at v.config v.epoch (mutator v t) (crossing_of v t) (box v t) (stand_of v t) actor.own.idle actor.let_go actor.handshake

  pub starts_forgetting : Forgets (v.epoch + 1) v (IsLost (sight v)) v
  starts_forgetting = record {
    taken = λ slot gone. gone.taken;
    registers = λ t r slot is names gone. gone.unreached (root slot (register_root (sight v).registers t r slot (own_register v t r ∙ names)));
    fields = reaches;
    still = λ place slot leads gone. leads;
    logs = λ t slot is from gone. elim (log_of t is) [
      | inl early ↦ absurd (omega (arith, from, early))
      | inr ahead ↦ spare_clean slot v.config (mutator v t).log ahead.1
    ];
    boxes = λ t slot is from gone. elim (log_of t is) [
      | inl early ↦ absurd (omega (arith, from, early))
      | inr ahead ↦ absurd (omega (arith, from, ahead.0))
    ];
    newer = λ i slot below from gone. absurd (omega (arith, from, begun));
    older = λ i slot below from gone. absurd (omega (arith, from, begun));
  }

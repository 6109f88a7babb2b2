-- A collection goes on to the next mutator that it gathers from, or applies the batch: what holds before and after.
use Rattle.std.proofs.Common.{◌≡◌, ◌≢◌, ℕ, ◌+◌, ◌-◌, ◌*◌, ◌^◌, ◌<◌, ◌≤◌, Bool, false, None, Some, inl, inr, length, set, refl, arith, ap, subst, sym, ◌∙◌}
use Rattle.std.proofs.lemmas.Bool.{cases_eq}
use Rattle.std.proofs.lemmas.List.{length-set, get_or-set_same, get_or-set_other}
use Rattle.rec_log.specs.declared.contents.Contents.{Contents}
use Rattle.rec_collector.specs.Took.{crossed_for, stilled}
use Rattle.rec_collector.proofs.Common.{AreSized, blank, IsLooking, IsSized, told, HaveLeft, batch_next, batched, buffer_at, Idle, IsAt, IsMachine, IsNextPresent, IsTold, Looking, MayGatherBehind, moved, next_present, noted, Private, requested, Returning, zeros_released}
use Rattle.rec_counts.specs.Batch.{IsCovered}
use Rattle.rec_collector.proofs.Following.{begun_has, followed_lands}
use Rattle.rec_collector.proofs.Landing.{batch_none, batch_on, freed_at, landed, landed_keeps, Lands, machine_on, now_at, told_at, under_way_at}
use Rattle.rec_collector.proofs.Presence.{gone_behind, next_none, next_some}

-- the next epoch is requested
pub requested_keeps : (p : Private) → IsMachine p → p.phase ≡ Idle → p.epoch + 1 ≢ 2 ^ 24 → IsMachine (requested p)
requested_keeps p k e more = record {
  epoch = omega (arith, k.epoch, more);
  collections = omega (arith, k.collections);
  freed = k.freed;
  some_fields = k.some_fields;
  few_fields = k.few_fields;
  rows = k.rows;
  left = k.left;
  counts = k.counts;
  told = subst (λ f. IsTold (requested p) f) (sym e) (told_at p Idle k e);
  postponed = k.postponed;
  now = subst (λ f. IsAt (requested p) f) (sym e) (now_at p Idle k e);
}

pub requested_gathers : (p : Private) → IsMachine p → p.phase ≡ Idle → (HaveLeft p.left 0 → IsCovered p.counts p.newer p.older) → MayGatherBehind (requested p) 0
requested_gathers p k e covered =
    let a : IsAt p Idle = now_at p Idle k e in
    record { there = omega arith; rest = a.0; spares = a.1; turns = omega (arith, a.2); requested = omega (arith, under_way_at p Idle k e); freed = omega (arith, freed_at p Idle k e); told = omega (arith, told_at p Idle k e); covered = covered }

-- a buffer joins the newer ones
swap_sized : (p : Private) (i : ℕ) (box : Contents) → IsSized p.registers p.capacity box → AreSized p.registers p.capacity p.newer → AreSized p.registers p.capacity (set p.newer i box)
swap_sized p i box z k = λ j l.
    let m : j < length p.newer = omega (arith, l, length-set p.newer i box) in
    elim (cases_eq j i) [
      | inl q ↦ subst (λ (b : Contents). IsSized p.registers p.capacity b) (sym (ap (buffer_at (set p.newer i box)) q ∙ get_or-set_same p.newer i box (blank 0 0) (omega (arith, m, q)))) z
      | inr q ↦ subst (λ (b : Contents). IsSized p.registers p.capacity b) (sym (get_or-set_other p.newer i j box (blank 0 0) q)) (k j m)
    ]

-- and the collection goes on behind its mutator
pub joined_keeps : (p : Private) (t made : ℕ) (box : Contents) → IsSized p.registers p.capacity box → IsMachine p → IsLooking p t made → made ≤ 2 * t → p.collections + 1 ≤ p.epoch → p.freed ≤ 2 ^ 16 * p.collections
    → told p.sets + length p.counts.sets ≤ 2 ^ 16 * p.collections → IsMachine (record p { phase = Returning t; newer = set p.newer (t - 1) box })
joined_keeps p t made box z k a most requested freed tested =
    let many : length (set p.newer (t - 1) box) ≡ length p.newer = length-set p.newer (t - 1) box in
    record {
      epoch = k.epoch;
      collections = requested;
      freed = omega (arith, freed);
      some_fields = k.some_fields;
      few_fields = k.few_fields;
      rows = record { mutators = omega (arith, k.mutators, many); few = omega (arith, k.few, many); both = k.both ∙ sym many; newer = swap_sized p (t - 1) box z k.newer; older = k.older };
      left = k.left ∙ sym many;
      counts = k.counts;
      told = omega (arith, tested);
      postponed = k.postponed;
      now = record {
        rest = a.rest;
        first = a.first;
        there = omega (arith, a.there, many);
        spares = λ j f l. get_or-set_other p.newer (t - 1) j box (blank 0 0) (λ q. absurd (omega (arith, a.first, f, q))) ∙ a.spares j (omega (arith, f)) (omega (arith, l, many));
        turns = omega (arith, a.turns, most);
      };
    }

-- the collector crosses for a mutator
pub crossed_keeps : (p : Private) (t : ℕ) → IsMachine p → p.phase ≡ Looking t → IsMachine (crossed_for p t)
crossed_keeps p t k e =
    let a : IsAt p (Looking t) = now_at p (Looking t) k e in
    let here : t - 1 < length p.newer = omega (arith, a.first, a.there) in
    joined_keeps p t (2 * t - 1) (stilled (buffer_at p.newer (t - 1)) (buffer_at p.older (t - 1))) ((k.older (t - 1) (omega (arith, here, k.both))).0, (k.newer (t - 1) here).1) k a (omega arith) (under_way_at p (Looking t) k e)
    (omega (arith, freed_at p (Looking t) k e)) (omega (arith, told_at p (Looking t) k e))

pub crossed_gathers : (p : Private) (t : ℕ) → IsMachine p → p.phase ≡ Looking t → (HaveLeft p.left t → IsCovered p.counts (crossed_for p t).newer p.older) → MayGatherBehind (crossed_for p t) t
crossed_gathers p t k e covered =
    let q : Private = crossed_for p t in
    let m : IsMachine q = crossed_keeps p t k e in
    let a : IsAt q (Returning t) = now_at q (Returning t) m refl in
    record {
      there = a.there;
      rest = a.rest;
      spares = a.spares;
      turns = a.turns;
      requested = under_way_at q (Returning t) m refl;
      freed = omega (arith, freed_at q (Returning t) m refl);
      told = omega (arith, told_at q (Returning t) m refl);
      covered = covered;
    }

-- a mutator's last buffer was gathered: it has left
pub noted_keeps : (p : Private) (t : ℕ) → IsMachine p → p.phase ≡ Returning t → IsMachine (noted p t)
noted_keeps p t k e =
    let a : IsAt p (Returning t) = now_at p (Returning t) k e in
    record {
      epoch = k.epoch;
      collections = k.collections;
      freed = k.freed;
      some_fields = k.some_fields;
      few_fields = k.few_fields;
      rows = k.rows;
      left = length-set p.left (t - 1) (buffer_at p.newer (t - 1)).last ∙ k.left;
      counts = k.counts;
      told = subst (λ f. IsTold (noted p t) f) (sym e) (told_at p (Returning t) k e);
      postponed = k.postponed;
      now = subst (λ f. IsAt (noted p t) f) (sym e) (record { rest = a.rest; first = a.first; there = a.there; spares = a.spares; turns = a.turns });
    }

-- as its call tells it
pub noted_as : (p now : Private) (t n : ℕ) (last : Bool) → p ≡ now → n ≡ t → last ≡ (buffer_at p.newer (n - 1)).last → record p { left = set p.left (n - 1) last } ≡ noted now t
noted_as p now t n last v e l = ap (λ b. record p { left = set p.left (n - 1) b }) l ∙ ap (noted p) e ∙ ap (λ q. noted q t) v

pub noted_gathers : (p : Private) (t : ℕ) → IsMachine p → p.phase ≡ Returning t → (HaveLeft p.left t → IsCovered p.counts p.newer p.older) → MayGatherBehind (noted p t) t
noted_gathers p t k e covered =
    let a : IsAt p (Returning t) = now_at p (Returning t) k e in
    record {
      there = a.there;
      rest = a.rest;
      spares = a.spares;
      turns = a.turns;
      requested = under_way_at p (Returning t) k e;
      freed = omega (arith, freed_at p (Returning t) k e);
      told = omega (arith, told_at p (Returning t) k e);
      covered = λ gone. covered (gone_behind p.left t (buffer_at p.newer (t - 1)).last a.first gone);
    }

-- the mailbox of the next mutator that hasn't left follows
pub next_keeps : (p : Private) (t next : ℕ) → IsMachine p → MayGatherBehind p t → next_present p.left t ≡ Some next → IsMachine (moved p (Looking next))
next_keeps p t next k g found =
    let n : IsNextPresent p.left t next = next_some p.left t next found in
    machine_on p p.epoch p.counts p.freed (Looking next) k k.epoch g.requested (omega (arith, g.freed)) k.counts (omega (arith, g.told))
    (record {
      gathering = record { rest = g.rest; first = omega (arith, n.behind); there = omega (arith, n.there, k.left); spares = λ place from l. g.spares place (omega (arith, from, n.behind)) l; turns = omega (arith, g.turns, n.behind) };
      present = n.present;
    })

-- the batch is applied
pub batch_lands : (p : Private) (t : ℕ) → IsMachine p → MayGatherBehind p t → next_present p.left t ≡ None → Lands p (batch_next p)
batch_lands p t k g none = followed_lands p (zeros_released false (batched p)) (begun_has p t k g (g.covered (next_none p.left t none)))

pub batch_keeps : (p : Private) (t : ℕ) → IsMachine p → MayGatherBehind p t → next_present p.left t ≡ None → IsMachine (landed p (batch_next p))
batch_keeps p t k g none = landed_keeps p (batch_next p) k g.requested g.freed (batch_on p) (batch_none p) (batch_lands p t k g none)

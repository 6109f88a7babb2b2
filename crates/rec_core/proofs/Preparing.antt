-- A preparation at work loads a field of the heap, whose word leads to a slot that is there. Where it has come to is as the landing
-- of a turn wants it.
use Rattle.std.proofs.Common.{◌≡◌, ℕ, ◌*◌, ◌<◌, Option, None, Some, ◌++◌, IfSome, length, slice_index_or, refl, sym, ap, subst, ◌∙◌, arith, true}
use Rattle.rec_core.proofs.Common.{place_of, target_of, Op, Drops, Pending, KeepsOthers, LoadsWithin, loaded_at, parts_of, PreparesOn, Preparing, Turn, still, Core, AreFields, SetsStand, AreSeen, IsKept, freeing_due, release_due, pending}
use Rattle.rec_word.specs.declared.op.Op.TheVariants.{LoadChild}
use Rattle.rec_model.specs.Moves.AccountMove.{dropping}
use Rattle.rec_sigma.specs.declared.at.At.{At}
use Rattle.rec_sigma.specs.Prepare.{Machine, Work, next_of, op_at, took_of}
use Rattle.rec_sigma.proofs.Bounds.{names_place}
use Rattle.rec_sigma.proofs.Runs.{Came, came_on}
use Rattle.rec_sigma.proofs.Kept.{others_kept}
use Rattle.rec_collector.specs.Kept as collector_kept
use Rattle.rec_collector.specs.Private.{Private}
use Rattle.rec_collector.proofs.Trying.{took_others}
use Rattle.rec_core.proofs.CyclesPrepared.{fields_more}
use Rattle.rec_core.proofs.CyclesWait.{sets_stand_loaded, sets_stand_moved}
use Rattle.rec_core.proofs.Landed.{landed_pending, HasLanded}
use Rattle.rec_core.proofs.Landings.{IsAlike, IsUnswept, here_done, here_pending, landed_alike, landed_drops, landed_still, lands_here, prepared_alike, prepares_kept}
use Rattle.rec_core.proofs.Steps.{fields_many}
use Rattle.rec_core.proofs.Trying.{target_there}
use Rattle.rec_core.proofs.Turns.{alive_in, cycles_in, now_at}

-- the operation of a preparation loads the field that is due
pub loads_due : (m : Machine) (op : Op) → ◌≡◌ {A = Option Op} (next_of m) (Some op) → (a : At) × (m.at ≡ Some a) × (op ≡ LoadChild (place_of a.member.slot a.member.field m.fields))
unfolding next_of
loads_due m op named = go m.at refl
  where
    go : (at : Option At) → m.at ≡ at → (a : At) × (m.at ≡ Some a) × (op ≡ LoadChild (place_of a.member.slot a.member.field m.fields))
    go None e = let none : ◌≡◌ {A = Option Op} None (Some op) = sym (ap (op_at m.fields) e) ∙ named in absurd (cc)
    go (Some a) e = (a, e, same (LoadChild (place_of a.member.slot a.member.field m.fields)) (sym named ∙ ap (op_at m.fields) e))
      where
        same : (its : Op) → ◌≡◌ {A = Option Op} (Some op) (Some its) → op ≡ its
        same its is = cc

-- that field is one of these places
due_within : (m : Machine) (a : At) (places : ℕ) → m.at ≡ Some a → IfSome (next_of m) (LoadsWithin places) → place_of a.member.slot a.member.field m.fields < places
unfolding next_of
due_within m a places e h = go (subst (λ (at : Option At). IfSome (op_at m.fields at) (LoadsWithin places)) e h)
  where
    go : LoadsWithin places (LoadChild (place_of a.member.slot a.member.field m.fields)) → place_of a.member.slot a.member.field m.fields < places
    go (place, is, below) = let same : place_of a.member.slot a.member.field m.fields ≡ place = cc in omega (arith, same, below)

module _ (w : Core) (m : Machine) (kept : IsKept true w) (phase : w.collector.phase ≡ Preparing m) where
  open w use {collector as c}

  now : collector_kept.IsPreparing c m
  now = now_at w (Preparing m) kept phase

  unswept : IsUnswept w.epoch (Preparing m)
  unswept = record { way = refl; still = refl; applied = refl; older = refl; stands = λ s. refl; held = λ v. tt; between = tt; some = tt }

  fields : m.fields ≡ w.config.fields
  fields = now.fields ∙ kept.collector.fields

  module _ (a : At) (at : m.at ≡ Some a) where
    abbrev place : ℕ
    place = place_of a.member.slot a.member.field w.config.fields

    abbrev found : ℕ
    found = slice_index_or w.words place 0

    abbrev after : Work
    after = took_of (record { machine = m; counts = c.counts }) found

    inside : place < length w.words
    inside =
        let many : length c.counts.slots * m.fields ≡ length w.words = fields_many w (length c.counts.slots) m.fields kept kept.collector.slots fields in
        let below : place_of a.member.slot a.member.field m.fields < length c.counts.slots * m.fields = due_within m a (length c.counts.slots * m.fields) at (names_place m c.counts kept.collector.machine.counts now.kept) in
        let same : place_of a.member.slot a.member.field m.fields ≡ place = ap (place_of a.member.slot a.member.field) fields in
        omega (arith, below, many, same)

    -- its word leads to a slot that is there
    pub seen_there : IfSome (target_of found) (λ slot. slot < length c.counts.slots)
    seen_there = target_there w place kept (ap release_due phase) (ap freeing_due phase) inside

    others : KeepsOthers c.counts after.counts
    others = took_others (record { machine = m; counts = c.counts }) found

    alike : IsAlike c.counts after.counts
    alike = prepared_alike c.counts after.counts others

    seen : AreSeen (pending w) c.counts m
    seen = cycles_in w (Preparing m) kept.whole phase

    came : Came w.config.fields seen.before after (seen.loads ++ loaded_at m.at found)
    came = came_on w.config.fields seen.before (record { machine = m; counts = c.counts }) seen.loads found seen.before_kept.numbers (record { fields_kept = fields; work = now.kept; law = seen.prepares })

    -- where it has come to, words and crossing words are as they were
    pub preparing_lands : HasLanded w w.crossing w.words (still (record (parts_of c) { counts = after.counts }))
    preparing_lands =
        landed_alike (landed_still (parts_of c) c.phase (ap release_due phase) (ap freeing_due phase) (lands_here w (Preparing m) kept phase unswept)) after.counts alike (others_kept c.counts after.counts others kept.collector.machine.counts)

    -- and what it has loaded stands
    pub preparing_seen : AreSeen (landed_pending w w.words after.counts) after.counts after.machine
    preparing_seen =
        let p : Pending = landed_pending w w.words c.counts in
        let v : Pending = landed_pending w w.words after.counts in
        let drops : Drops p v = landed_drops w w.words c.counts after.counts alike in
        let stands : SetsStand p c.counts seen.loads = subst (λ (x : Pending). SetsStand x c.counts seen.loads) (here_pending w (Preparing m) phase unswept) seen.stands in
        let moved : SetsStand v c.counts seen.loads = sets_stand_moved c.counts seen.loads (dropping drops) tt (lands_here w (Preparing m) kept phase unswept).accounted (alive_in w (Preparing m) kept.whole phase) stands in
        let below : a.member.field < w.config.fields = subst (λ n. a.member.field < n) fields (subst (λ (o : Option At). IfSome o (λ (b : At). b.member.field < m.fields)) at now.kept.field) in
        record {
          before = seen.before;
          before_kept = seen.before_kept;
          loads = seen.loads ++ loaded_at m.at found;
          prepares = came.law;
          fields = subst (λ (o : Option At). AreFields w.config.fields (seen.loads ++ loaded_at o found)) (sym at) (fields_more w.config.fields seen.loads a found below seen.fields);
          stands = subst (λ (o : Option At). SetsStand v after.counts (seen.loads ++ loaded_at o found)) (sym at) (sets_stand_loaded v c.counts after.counts seen.loads a preparing_lands.accounted (here_done w kept) inside others moved);
        }

    -- whatever follows
    pub preparing_kept : (q : Private) (turn : Turn) → collector_kept.IsMachine q → PreparesOn c (parts_of c) after q turn → IsKept true (record w { collector = q })
    preparing_kept q turn machine on = prepares_kept w w.crossing w.words q machine (parts_of c) after turn preparing_lands preparing_seen on

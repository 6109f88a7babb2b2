-- What one move without a load does, case by case, and that such moves come to an end.
use Rattle.std.proofs.Common.{◌≡◌, ℕ, ◌+◌, ◌<◌, ◌≤◌, Bool, true, false, ltb, List, [], ◌∷◌, ◌++◌, length, get_or, refl, sym, arith, zero, suc, cond, ap, ◌∙◌}
use Rattle.std.proofs.lemmas.Bool.{false≢true}
use Rattle.std.proofs.lemmas.Bool.Decides.{nat_tests}
use Rattle.rec_counts.specs.declared.slot.Slot.{Slot}
use Rattle.rec_trial.specs.Moves.{touched_if, dropped_if, blackened_if, has_rest, all_whitened, joined_if, with_new_set, cleared}
use Rattle.rec_trial.proofs.Places.{ltb_no, ltb_yes}
use Rattle.std.proofs.lemmas.List.{length-append}
use Rattle.rec_trial.proofs.Common.{Colour, Purple, slot_at, without_root, is_gray, is_purple, is_white, field_kept, Phase, Idle, Marking, Scanning, Collecting, Machine, Work, begun_at, is_due_at, roots_moved, scan_moved, set_begun_if, collect_moved, moved_at, is_due, moves_left, settled_in, settled}

-- the machine in this phase, after it looked at a marked slot
abbrev pub next_try : Phase → Machine → Machine
next_try p m = record m { phase = p; tried = m.tried + 1 }

-- the marked slot that is looked at
abbrev pub tried_slot : Work → ℕ
tried_slot w = get_or w.counts.marked w.machine.tried 0

-- while marking the next phase begins, or a root leaves; while scanning and while collecting a marked slot is looked at, or
-- the next phase begins
pub data Moved (w : Work) : Phase → Work → Type 0 where
  scan_begins : w.counts.roots ≡ [] → Moved w Marking (record { machine = begun_at Scanning w.machine.fields; counts = w.counts })
  root_freed : (x : ℕ) (xs : List ℕ) → w.counts.roots ≡ x ∷ xs → (slot_at w.counts x).released ≡ true → Moved w Marking (record { machine = record w.machine { phase = Marking }; counts = record (without_root (x ∷ xs) w.counts) { free = w.counts.free ++ x ∷ [] } })
  root_marked : (x : ℕ) (xs : List ℕ) → w.counts.roots ≡ x ∷ xs → (slot_at w.counts x).released ≡ false → (slot_at w.counts x).colour ≡ Purple → Moved w Marking (record { machine = record w.machine { phase = Marking }; counts = touched_if false (without_root (x ∷ xs) w.counts) x })
  root_passed : (x : ℕ) (xs : List ℕ) → w.counts.roots ≡ x ∷ xs → (slot_at w.counts x).released ≡ false → is_purple (slot_at w.counts x).colour ≡ false → Moved w Marking (record { machine = record w.machine { phase = Marking }; counts = without_root (x ∷ xs) w.counts })
  scan_passes : w.machine.tried < length w.counts.marked → (is_gray (slot_at w.counts (tried_slot w)).colour ≡ true → (slot_at w.counts (tried_slot w)).cyclic ≡ 0) → Moved w Scanning (record { machine = next_try Scanning w.machine; counts = w.counts })
  scan_blackens : w.machine.tried < length w.counts.marked → is_gray (slot_at w.counts (tried_slot w)).colour ≡ true → 0 < (slot_at w.counts (tried_slot w)).cyclic → Moved w Scanning (record { machine = next_try Scanning w.machine; counts = blackened_if true w.counts (tried_slot w) })
  collect_begins : length w.counts.marked ≤ w.machine.tried → Moved w Scanning (record { machine = begun_at Collecting w.machine.fields; counts = all_whitened w.counts })
  set_passes : w.machine.tried < length w.counts.marked → is_white (slot_at w.counts (tried_slot w)).colour ≡ false → Moved w Collecting (record { machine = next_try Collecting w.machine; counts = w.counts })
  set_begins : w.machine.tried < length w.counts.marked → is_white (slot_at w.counts (tried_slot w)).colour ≡ true → Moved w Collecting (record { machine = record (next_try Collecting w.machine) { done = 0 }; counts = joined_if true (with_new_set w.counts) (tried_slot w) })
  ends : length w.counts.marked ≤ w.machine.tried → Moved w Collecting (record { machine = record w.machine { phase = Idle }; counts = cleared w.counts })

module _ (w : Work) where
  root_moves : (rs : List ℕ) → w.counts.roots ≡ rs → Moved w Marking (roots_moved rs w)
  root_moves [] e = scan_begins e
  root_moves (x ∷ xs) e =
      let v : Slot = record (slot_at w.counts x) { buffered = false } in
      go (slot_at (without_root (x ∷ xs) w.counts) x).released (slot_at (without_root (x ∷ xs) w.counts) x).colour
      (sym (field_kept (λ (u : Slot). u.released) w.counts.slots x v refl x)) (sym (field_kept (λ (u : Slot). u.colour) w.counts.slots x v refl x))
    where
      go : (out : Bool) (c : Colour) → (slot_at w.counts x).released ≡ out → (slot_at w.counts x).colour ≡ c → Moved w Marking (record { machine = record w.machine { phase = Marking }; counts = dropped_if out c (without_root (x ∷ xs) w.counts) x })
      go true c o k = root_freed x xs e o
      go false Purple o k = root_marked x xs e o k
      go false _ o k = root_passed x xs e o (rw k refl)

  scan_moves : (more : Bool) → ltb w.machine.tried (length w.counts.marked) ≡ more → Moved w Scanning (scan_moved more w)
  scan_moves false e = collect_begins (ltb_no w.machine.tried (length w.counts.marked) e)
  scan_moves true e = go (has_rest (slot_at w.counts (tried_slot w))) refl
    where
      was_gray : (v : Slot) → has_rest v ≡ true → is_gray v.colour ≡ true
      was_gray v h = grind (arith, nat_tests)

      is_warm : (v : Slot) → has_rest v ≡ true → 0 < v.cyclic
      is_warm v h = grind (arith, nat_tests)

      no_rest : (v : Slot) → has_rest v ≡ false → is_gray v.colour ≡ true → v.cyclic ≡ 0
      no_rest v h g = grind (arith, nat_tests)

      go : (b : Bool) → has_rest (slot_at w.counts (tried_slot w)) ≡ b → Moved w Scanning (record { machine = next_try Scanning w.machine; counts = blackened_if b w.counts (tried_slot w) })
      go true h = scan_blackens (ltb_yes w.machine.tried (length w.counts.marked) e) (was_gray (slot_at w.counts (tried_slot w)) h) (is_warm (slot_at w.counts (tried_slot w)) h)
      go false h = scan_passes (ltb_yes w.machine.tried (length w.counts.marked) e) (no_rest (slot_at w.counts (tried_slot w)) h)

  collect_moves : (more : Bool) → ltb w.machine.tried (length w.counts.marked) ≡ more → Moved w Collecting (collect_moved more w)
  collect_moves false e = ends (ltb_no w.machine.tried (length w.counts.marked) e)
  collect_moves true e = go (is_white (slot_at w.counts (tried_slot w)).colour) refl
    where
      go : (b : Bool) → is_white (slot_at w.counts (tried_slot w)).colour ≡ b → Moved w Collecting (set_begun_if b w (tried_slot w))
      go true h = set_begins (ltb_yes w.machine.tried (length w.counts.marked) e) h
      go false h = set_passes (ltb_yes w.machine.tried (length w.counts.marked) e) h

  pub moved : (p : Phase) → is_due_at p w.machine.done w.counts ≡ false → Moved w p (moved_at p w)
  moved Idle d = absurd (false≢true (sym d))
  moved Marking d = root_moves w.counts.roots refl
  moved Scanning d = scan_moves (ltb w.machine.tried (length w.counts.marked)) refl
  moved Collecting d = collect_moves (ltb w.machine.tried (length w.counts.marked)) refl

-- a move brings the next load nearer
less_by : {w v : Work} {p : Phase} → Moved w p v → moves_left v.machine.phase v < moves_left p w
less_by (root_freed x xs e o) = omega (arith, ap length e)
less_by {w} (root_marked x xs e o k) = omega (arith, ap length e, length-append w.counts.marked (x ∷ []))
less_by (root_passed x xs e o k) = omega (arith, ap length e)
less_by (scan_passes l h) = omega arith
less_by (scan_blackens l g c) = omega arith
less_by (set_passes l h) = omega arith
less_by (set_begins l h) = omega arith
less_by _ = omega arith

pub moved_less : (w : Work) → is_due w ≡ false → moves_left (moved_at w.machine.phase w).machine.phase (moved_at w.machine.phase w) < moves_left w.machine.phase w
moved_less w d = less_by (moved w w.machine.phase d)

none_left : (p : Phase) (w : Work) → moves_left p w ≤ 0 → is_due_at p w.machine.done w.counts ≡ true
none_left Idle w h = refl
none_left _ w h = absurd (omega arith)

-- one of so many moves: there is none where a load is due
settled_step : (C : Work → Type 0) (n : ℕ) (w : Work) → (is_due w ≡ true → C w) → (is_due w ≡ false → C (settled_in n (moved_at w.machine.phase w))) → C (settled_in (suc n) w)
settled_step C n w at more = go (is_due w) refl
  where
    go : (b : Bool) → is_due w ≡ b → C (cond b w (settled_in n (moved_at w.machine.phase w)))
    go true e = at e
    go false e = more e

settled_in_due : (n : ℕ) (w : Work) → moves_left w.machine.phase w ≤ n → is_due (settled_in n w) ≡ true
settled_in_due zero w h = none_left w.machine.phase w h
settled_in_due (suc n) w h = settled_step (λ v. is_due v ≡ true) n w (λ e. e) (λ e. settled_in_due n (moved_at w.machine.phase w) (omega (arith, moved_less w e)))

-- then a load is due, or the trial is over
pub settled_is_due : (w : Work) → is_due (settled w) ≡ true
unfolding settled
settled_is_due w = settled_in_due (moves_left w.machine.phase w) w (omega arith)

-- with enough moves, any number of them gives the same
settled_in_done : (n : ℕ) (w : Work) → is_due w ≡ true → settled_in n w ≡ w
settled_in_done zero w d = refl
settled_in_done (suc n) w d = rw d refl

settled_in_next : (n : ℕ) (w : Work) → is_due w ≡ false → settled_in (suc n) w ≡ settled_in n (moved_at w.machine.phase w)
settled_in_next n w d = rw d refl

settled_in_more : (n m : ℕ) (w : Work) → moves_left w.machine.phase w ≤ n → moves_left w.machine.phase w ≤ m → settled_in n w ≡ settled_in m w
settled_in_more zero m w h k = sym (settled_in_done m w (none_left w.machine.phase w h))
settled_in_more (suc n) zero w h k = settled_in_done (suc n) w (none_left w.machine.phase w k)
settled_in_more (suc n) (suc m) w h k =
    settled_step (λ v. v ≡ settled_in (suc m) w) n w (λ e. sym (settled_in_done (suc m) w e))
    (λ e. settled_in_more n m (moved_at w.machine.phase w) (omega (arith, moved_less w e)) (omega (arith, moved_less w e)) ∙ sym (settled_in_next m w e))

-- nothing moves where a load is due; else the moves are one and those after it
pub settled_at_once : (w : Work) → is_due w ≡ true → settled w ≡ w
unfolding settled
settled_at_once w d = settled_in_done (moves_left w.machine.phase w) w d

pub settled_after : (w : Work) → is_due w ≡ false → settled w ≡ settled (moved_at w.machine.phase w)
unfolding settled
settled_after w d =
    let l : moves_left (moved_at w.machine.phase w).machine.phase (moved_at w.machine.phase w) < moves_left w.machine.phase w = moved_less w d in
    settled_in_more (moves_left w.machine.phase w) (suc (moves_left w.machine.phase w)) w (omega arith) (omega arith)
    ∙ settled_in_next (moves_left w.machine.phase w) w d
    ∙ settled_in_more (moves_left w.machine.phase w) (moves_left (moved_at w.machine.phase w).machine.phase (moved_at w.machine.phase w)) (moved_at w.machine.phase w) (omega arith) (omega arith)

-- what each move keeps, all of them keep
settled_in_by : (P : Work → Type 0) → ((w : Work) → P w → is_due w ≡ false → P (moved_at w.machine.phase w)) → (n : ℕ) (w : Work) → P w → P (settled_in n w)
settled_in_by P more zero w h = h
settled_in_by P more (suc n) w h = settled_step P n w (λ e. h) (λ e. settled_in_by P more n (moved_at w.machine.phase w) (more w h e))

pub settled_by : (P : Work → Type 0) → ((w : Work) → P w → is_due w ≡ false → P (moved_at w.machine.phase w)) → (w : Work) → P w → P (settled w)
unfolding settled
settled_by P more w h = settled_in_by P more (moves_left w.machine.phase w) w h

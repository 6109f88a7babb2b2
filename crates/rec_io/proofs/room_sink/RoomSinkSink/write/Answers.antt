-- The contract of a write into a sink in memory: a call that is listed, or has no room, is counted, and else the front of the piece is taken.
use Rattle.std.proofs.Common.{◌≡◌, ◌==◌, ℕ, zero, suc, Bool, true, false, IsTrue, ◌<◌, arith, ◌-◌, ◌≤◌, List, ◌++◌, Some, Result, Ok, if◌then◌else◌, inl, inr, take, refl, sym, ap, subst, ◌∙◌}
use Rattle.std.specs.Prelude.{not}
use Rattle.std.proofs.lemmas.Bool.{eqb-true, false≢true, ne_eqb, true≢false}
use Rattle.std.specs.Result.{is_ok}
use Rattle.std.specs.declared.alloc.AllocError.{AllocError}
use Rattle.rec_io.specs.Calls.{NextFails}
use Rattle.rec_io.specs.Faults.{counted_up, last_count}
use Rattle.rec_io.specs.RoomSink.{RoomState}
use Rattle.rec_io.proofs.Faults.{counted_above, counted_within, rose_counted, same_above}
use Rattle.rec_io.proofs.Told.{told}
use Rattle.rec_io.proofs.room_sink.RoomSinkSink.write.Goals as goal
use Rattle.rec_io.proofs.room_sink.RoomSinkSink.write.Goals.{then-listed-via-then-listed, then-listed-via-else-listed+then-not-is_empty, then-self-eq0, else-self-eq0}

failed : (fails : List ℕ) (calls faults : ℕ) (before now : RoomState) → before ≡ now → fails ≡ before.fails → calls ≡ counted_up before.calls → faults ≡ counted_up before.faults →
    record { written = before.written; room = before.room; fails = fails; calls = calls; faults = faults } ≡ record now { calls = counted_up now.calls; faults = counted_up now.faults }
failed fails calls faults before now same f m h = rw (f, m, h) (ap (λ (s : RoomState). record s { calls = counted_up s.calls; faults = counted_up s.faults }) same)

took : (written piece fails : List ℕ) (calls faults count : ℕ) (before now : RoomState) → before ≡ now → written ≡ before.written ++ piece → fails ≡ before.fails → calls ≡ counted_up before.calls → faults ≡ before.faults →
    record { written = written; room = before.room - count; fails = fails; calls = calls; faults = faults } ≡ record now { written = now.written ++ piece; room = now.room - count; calls = counted_up now.calls }
took written piece fails calls faults count before now same w f m h =
    rw (w, f, m, h) (ap (λ (s : RoomState). record s { written = s.written ++ piece; room = s.room - count; calls = counted_up s.calls }) same)

-- what was written where the write succeeded
added : (r : Result (Unit {0}) AllocError) (done : Unit {0}) (written before after : List ℕ) → r ≡ Ok done → written ≡ if is_ok r then after else before → written ≡ after
added r done written before after went is = is ∙ ap (λ (q : Result (Unit {0}) AllocError). if is_ok q then after else before) went

counted : (before now : RoomState) (called faults : ℕ) → before ≡ now → called ≡ before.faults → faults ≡ counted_up called → faults ≡ counted_up now.faults
counted before now called faults same calls is = is ∙ ap counted_up (calls ∙ ap (λ (s : RoomState). s.faults) same)

pub invariant_of-self : goal.invariant_of-self
invariant_of-self c = (c.self.invariant.0, counted_within _ _ (counted _ _ _ _ c.self.view_is c.next_fails-listed.ensures.faults c.count_fault.ensures.faults))

pub returns-then-listed-clause-kept : goal.returns-then-listed-clause-kept
returns-then-listed-clause-kept c = λ x is. ap (λ (s : RoomState). Some s.written) c.self.view_is ∙ is

pub returns-then-listed-clause-rose : goal.returns-then-listed-clause-rose
returns-then-listed-clause-rose c = rose_counted _ _ (counted _ _ _ _ c.self.view_is c.next_fails-listed.ensures.faults c.count_fault.ensures.faults)

pub returns-then-listed-clause-never_falls : goal.returns-then-listed-clause-never_falls
returns-then-listed-clause-never_falls c = counted_above _ _ (subst (λ (s : RoomState). s.faults ≤ last_count) c.self.view_is c.self.invariant.1) (counted _ _ _ _ c.self.view_is c.next_fails-listed.ensures.faults c.count_fault.ensures.faults)

pub returns-then-listed-clause-within_count : goal.returns-then-listed-clause-within_count
returns-then-listed-clause-within_count c = counted_within _ _ (counted _ _ _ _ c.self.view_is c.next_fails-listed.ensures.faults c.count_fault.ensures.faults)

pub returns-then-listed-clause-stays_told : goal.returns-then-listed-clause-stays_told
returns-then-listed-clause-stays_told c = λ was. refl

pub returns-then-listed-clause-after_failed : goal.returns-then-listed-clause-after_failed
returns-then-listed-clause-after_failed c =
    failed _ _ _ _ c.args.self.now c.self.view_is (c.count_fault.ensures.fails ∙ c.next_fails-listed.ensures.fails)
    (c.count_fault.ensures.made ∙ c.next_fails-listed.ensures.made) (c.count_fault.ensures.faults ∙ ap counted_up c.next_fails-listed.ensures.faults)

pub returns-clause-appends : goal.returns-clause-appends
returns-clause-appends c =
    told (λ (xs : List ℕ). Some c.extend_from_slice.new.self.items ≡ Some (xs ++ take c.min-count.result c.args.piece.now)) c.args.self.now.written
    (ap Some (added _ _ _ _ _ c.unwrap.ensures c.extend_from_slice.ensures.items ∙ ap (λ (s : RoomState). s.written ++ take c.min-count.result c.args.piece.now) c.self.view_is))

pub returns-clause-never_falls : goal.returns-clause-never_falls
returns-clause-never_falls c = same_above _ _ (c.next_fails-listed.ensures.faults ∙ ap (λ (s : RoomState). s.faults) c.self.view_is)

pub returns-clause-within_count : goal.returns-clause-within_count
returns-clause-within_count c = subst (λ (n : ℕ). n ≤ last_count) (sym c.next_fails-listed.ensures.faults) c.self.invariant.1

pub returns-clause-stays_told : goal.returns-clause-stays_told
returns-clause-stays_told c = λ was. refl

pub returns-clause-after_bytes : goal.returns-clause-after_bytes
returns-clause-after_bytes c =
    took _ (take c.min-count.result c.args.piece.now) _ _ _ c.min-count.result _ c.args.self.now c.self.view_is (added _ _ _ _ _ c.unwrap.ensures c.extend_from_slice.ensures.items)
    c.next_fails-listed.ensures.fails c.next_fails-listed.ensures.made c.next_fails-listed.ensures.faults

-- a piece that is not empty has a byte
some_byte : (n : ℕ) (empty asked : Bool) → empty ≡ (n == 0) → asked ≡ not empty → asked ≡ true → 0 < n
some_byte zero empty asked is which so = absurd (true≢false (sym so ∙ which ∙ ap not is))
some_byte (suc n) empty asked is which so = omega arith

-- and one that is empty has none
no_byte : (n : ℕ) (empty asked : Bool) → empty ≡ (n == 0) → asked ≡ not empty → asked ≡ false → 0 < n → ⊥
no_byte zero empty asked is which so some = absurd (omega (arith, some))
no_byte (suc n) empty asked is which so some = true≢false (sym (which ∙ ap not (is ∙ ne_eqb (suc n) 0 (λ e. omega (arith, e)))) ∙ so)

-- a call that is not listed doesn't fail by its number
unlisted : (s now : RoomState) → s ≡ now → (NextFails s.fails s.calls → IsTrue false) → NextFails now.fails now.calls → ⊥
unlisted s now same l n = false≢true (l (subst (λ (t : RoomState). NextFails t.fails t.calls) (sym same) n))

pub returns-then-listed-clause-fails : goal.returns-then-listed-clause-fails
returns-then-listed-clause-fails c = elim c.then-listed.branch [
  | then-listed-via-then-listed w ↦ (λ e. inl (subst (λ (s : RoomState). NextFails s.fails s.calls) c.self.view_is (c.next_fails-listed.ensures.listed.0 w.if-listed.true)), λ e. refl)
  | then-listed-via-else-listed+then-not-is_empty w ↦ elim w.if-self-eq0.branch [
    | then-self-eq0 full ↦ (λ e. inr (subst (λ (s : RoomState). s.room ≡ 0) c.self.view_is full.if-self-eq0.true, some_byte _ _ _ full.is_empty.ensures full.value-is w.if-not-is_empty.true), λ e. refl)
    | else-self-eq0 roomy ↦ absurd (roomy.if-self-eq0.false (eqb-true c.self.inside.room 0 (sym roomy.value-is ∙ w.if-not-is_empty.true)))
  ]
]

pub returns-clause-fails : goal.returns-clause-fails
returns-clause-fails c = (
  λ e. cc,
  λ fails. elim fails [
    | inl listed ↦ absurd (unlisted _ _ c.self.view_is c.if-listed.ensures.listed.1 listed)
    | inr spent ↦ elim c.if-self-eq0.branch [
      | then-self-eq0 full ↦ absurd (no_byte _ _ _ full.is_empty.ensures full.value-is c.if-not-is_empty.false spent.1)
      | else-self-eq0 roomy ↦ absurd (roomy.if-self-eq0.false (ap (λ (s : RoomState). s.room) c.self.view_is ∙ spent.0))
    ]
  ],
)

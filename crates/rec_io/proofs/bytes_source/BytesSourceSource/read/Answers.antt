-- A read of bytes in memory fails where its number is listed, ends where nothing is left, and else gives the front of what is left.
use Rattle.std.proofs.Common.{◌≡◌, ℕ, ◌+◌, ◌-◌, ◌<◌, ◌≤◌, List, [], Some, length, take, drop, min, false, IsTrue, refl, arith, sym, ◌∙◌, ap, subst}
use Rattle.std.proofs.lemmas.Bool.{false≢true}
use Rattle.std.proofs.lemmas.List.{drop-drop, nil_from_length, take_rest}
use Rattle.rec_io.specs.BytesSource.{after_read, BytesState}
use Rattle.rec_io.specs.declared.source.Given.TheVariants.{Bytes, End, Failed}
use Rattle.rec_io.specs.Faults.{counted_up, last_count}
use Rattle.rec_io.specs.Calls.{NextFails}
use Rattle.rec_io.specs.Source.{GivesFront}
use Rattle.rec_io.proofs.Faults.{counted_above, counted_within, rose_counted, same_above}
use Rattle.rec_io.proofs.Told.{told}
use Rattle.rec_io.proofs.bytes_source.BytesSourceSource.read.Goals as goal

-- what is copied from is what is left
left : (at : ℕ) (held bytes rest : List ℕ) → held ≡ bytes → drop at bytes ≡ rest → take (length held - at) (drop at held) ≡ rest
left at held bytes rest h r = rw h (take_rest bytes at ∙ r)

none_left : (room count : ℕ) (from rest : List ℕ) → 0 < room → from ≡ rest → count ≡ min room (length from) → count ≡ 0 → rest ≡ []
none_left room count from rest l f n z = nil_from_length rest (omega (arith, ap length f))

some_left : (room count : ℕ) (from rest : List ℕ) → from ≡ rest → count ≡ min room (length from) → rest ≡ [] → count ≡ 0
some_left room count from rest f n e = omega (arith, ap length f, ap length e)

front : (at room count : ℕ) (from bytes rest into : List ℕ) → drop at bytes ≡ rest → from ≡ rest → count ≡ min room (length from) → take count into ≡ take count from → GivesFront (Some rest) (Some (drop (at + count) bytes)) count into
front at room count from bytes rest into r f n t = record {
  within = told (λ xs. count ≤ length xs) rest (omega (arith, n, ap length f));
  bytes = told (λ xs. take count into ≡ take count xs) rest (t ∙ ap (take count) f);
  moves_on = told (λ xs. Some (drop (at + count) bytes) ≡ Some (drop count xs)) rest (ap Some (sym (drop-drop count at bytes) ∙ ap (drop count) r));
}

moved : (at count : ℕ) (bytes fails : List ℕ) (calls faults : ℕ) (now : BytesState) → drop at bytes ≡ now.rest → fails ≡ now.fails → calls ≡ counted_up now.calls → faults ≡ now.faults →
    record { rest = drop (at + count) bytes; fails = fails; calls = calls; faults = faults } ≡ after_read (Bytes count) now
moved at count bytes fails calls faults now r f m h = rw (sym (drop-drop count at bytes), r, f, m, h) refl

-- a call that is not listed doesn't fail
unlisted : (s now : BytesState) (P : Type 0) → s ≡ now → (NextFails s.fails s.calls → IsTrue false) → NextFails now.fails now.calls → P
unlisted s now P v l n = absurd (false≢true (l (subst (λ (t : BytesState). NextFails t.fails t.calls) (sym v) n)))

pub returns-then-count-eq0-clause-ended : goal.returns-then-count-eq0-clause-ended
returns-then-count-eq0-clause-ended c =
    let r : drop c.self.inside.at c.self.inside.bytes.items ≡ c.args.self.now.rest = ap (λ (s : BytesState). s.rest) c.self.view_is in
    let e : c.args.self.now.rest ≡ [] = none_left _ _ _ _ c.requires (left c.self.inside.at _ _ _ c.deref.ensures.value r) c.copy_front-count.ensures.count c.if-count-eq0.true in
    record { empty = told (λ xs. xs ≡ []) c.args.self.now.rest e; told = told (λ xs. Some (drop c.self.inside.at c.self.inside.bytes.items) ≡ Some []) c.args.self.now.rest (ap Some (r ∙ e)) }

pub returns-then-count-eq0-clause-gives : goal.returns-then-count-eq0-clause-gives
returns-then-count-eq0-clause-gives c =
    let e : c.args.self.now.rest ≡ [] = none_left _ _ _ _ c.requires (left c.self.inside.at _ _ _ c.deref.ensures.value (ap (λ (s : BytesState). s.rest) c.self.view_is)) c.copy_front-count.ensures.count c.if-count-eq0.true in
    record {
      fails = (λ e. cc, unlisted _ _ _ c.self.view_is c.if-next_fails.ensures.listed.1);
      ends = (λ q. (unlisted _ _ ⊥ c.self.view_is c.if-next_fails.ensures.listed.1, e), λ q. refl);
      gives = tt;
    }

pub returns-clause-in_order : goal.returns-clause-in_order
returns-clause-in_order c =
    let r : drop c.self.inside.at c.self.inside.bytes.items ≡ c.args.self.now.rest = ap (λ (s : BytesState). s.rest) c.self.view_is in
    front c.self.inside.at _ _ _ _ _ _ r (left c.self.inside.at _ _ _ c.deref.ensures.value r) c.copy_front-count.ensures.count c.copy_front-count.ensures.bytes

pub returns-clause-gives : goal.returns-clause-gives
returns-clause-gives c =
    let r : drop c.self.inside.at c.self.inside.bytes.items ≡ c.args.self.now.rest = ap (λ (s : BytesState). s.rest) c.self.view_is in
    record {
      fails = (λ e. cc, unlisted _ _ _ c.self.view_is c.if-next_fails.ensures.listed.1);
      ends = (λ e. cc, λ p. absurd (c.if-count-eq0.false (some_left _ _ _ _ (left c.self.inside.at _ _ _ c.deref.ensures.value r) c.copy_front-count.ensures.count p.1)));
      gives = c.copy_front-count.ensures.count ∙ ap (λ xs. min (length c.args.into.now) (length xs)) (left c.self.inside.at _ _ _ c.deref.ensures.value r);
    }

pub returns-clause-after : goal.returns-clause-after
returns-clause-after c =
    let v : drop c.self.inside.at c.self.inside.bytes.items ≡ c.args.self.now.rest = ap (λ (s : BytesState). s.rest) c.self.view_is in
    moved c.self.inside.at c.copy_front-count.result c.self.inside.bytes.items _ _ _ c.args.self.now v (c.next_fails.ensures.fails ∙ ap (λ (s : BytesState). s.fails) c.self.view_is)
    (c.next_fails.ensures.made ∙ ap (λ (s : BytesState). counted_up s.calls) c.self.view_is) (c.next_fails.ensures.faults ∙ ap (λ (s : BytesState). s.faults) c.self.view_is)

pub returns-then-next_fails-clause-gives : goal.returns-then-next_fails-clause-gives
returns-then-next_fails-clause-gives c =
    let listed : NextFails c.args.self.now.fails c.args.self.now.calls = subst (λ (t : BytesState). NextFails t.fails t.calls) c.self.view_is (c.next_fails.ensures.listed.0 c.if-next_fails.true) in
    record {
      fails = (λ e. listed, λ n. refl);
      ends = (λ e. cc, λ p. absurd (p.0 listed));
      gives = tt;
    }

failed : (fails : List ℕ) (calls faults : ℕ) (before now : BytesState) → before ≡ now → fails ≡ before.fails → calls ≡ counted_up before.calls → faults ≡ counted_up before.faults →
    record { rest = before.rest; fails = fails; calls = calls; faults = faults } ≡ after_read Failed now
failed fails calls faults before now same f m h = rw (f, m, h) (ap (after_read Failed) same)

ended : (fails : List ℕ) (calls faults : ℕ) (before now : BytesState) → before ≡ now → fails ≡ before.fails → calls ≡ counted_up before.calls → faults ≡ before.faults →
    record { rest = before.rest; fails = fails; calls = calls; faults = faults } ≡ after_read End now
ended fails calls faults before now same f m h = rw (f, m, h) (ap (after_read End) same)

counted : (before now : BytesState) (called faults : ℕ) → before ≡ now → called ≡ before.faults → faults ≡ counted_up called → faults ≡ counted_up now.faults
counted before now called faults same calls is = is ∙ ap counted_up (calls ∙ ap (λ (s : BytesState). s.faults) same)

pub invariant_of-self : goal.invariant_of-self
invariant_of-self c = (c.self.invariant.0, counted_within _ _ (counted _ _ _ _ c.self.view_is c.next_fails.ensures.faults c.count_fault.ensures.faults))

pub returns-then-next_fails-clause-kept : goal.returns-then-next_fails-clause-kept
returns-then-next_fails-clause-kept c = λ x is. ap (λ (s : BytesState). Some s.rest) c.self.view_is ∙ is

pub returns-then-next_fails-clause-rose : goal.returns-then-next_fails-clause-rose
returns-then-next_fails-clause-rose c = rose_counted _ _ (counted _ _ _ _ c.self.view_is c.next_fails.ensures.faults c.count_fault.ensures.faults)

pub returns-then-next_fails-clause-never_falls : goal.returns-then-next_fails-clause-never_falls
returns-then-next_fails-clause-never_falls c = counted_above _ _ (subst (λ (s : BytesState). s.faults ≤ last_count) c.self.view_is c.self.invariant.1) (counted _ _ _ _ c.self.view_is c.next_fails.ensures.faults c.count_fault.ensures.faults)

pub returns-then-next_fails-clause-within_count : goal.returns-then-next_fails-clause-within_count
returns-then-next_fails-clause-within_count c = counted_within _ _ (counted _ _ _ _ c.self.view_is c.next_fails.ensures.faults c.count_fault.ensures.faults)

pub returns-then-next_fails-clause-stays_told : goal.returns-then-next_fails-clause-stays_told
returns-then-next_fails-clause-stays_told c = λ was. refl

pub returns-then-next_fails-clause-after : goal.returns-then-next_fails-clause-after
returns-then-next_fails-clause-after c =
    failed _ _ _ _ c.args.self.now c.self.view_is (c.count_fault.ensures.fails ∙ c.next_fails.ensures.fails)
    (c.count_fault.ensures.made ∙ c.next_fails.ensures.made) (c.count_fault.ensures.faults ∙ ap counted_up c.next_fails.ensures.faults)

pub invariant_of-self-then-count-eq0 : goal.invariant_of-self-then-count-eq0
invariant_of-self-then-count-eq0 c = (c.self.invariant.0, subst (λ (n : ℕ). n ≤ last_count) (sym c.next_fails.ensures.faults) c.self.invariant.1)

pub returns-then-count-eq0-clause-after : goal.returns-then-count-eq0-clause-after
returns-then-count-eq0-clause-after c = ended _ _ _ _ c.args.self.now c.self.view_is c.next_fails.ensures.fails c.next_fails.ensures.made c.next_fails.ensures.faults

pub returns-then-count-eq0-clause-never_falls : goal.returns-then-count-eq0-clause-never_falls
returns-then-count-eq0-clause-never_falls c = same_above _ _ (c.next_fails.ensures.faults ∙ ap (λ (s : BytesState). s.faults) c.self.view_is)

pub returns-then-count-eq0-clause-within_count : goal.returns-then-count-eq0-clause-within_count
returns-then-count-eq0-clause-within_count c = subst (λ (n : ℕ). n ≤ last_count) (sym c.next_fails.ensures.faults) c.self.invariant.1

pub returns-then-count-eq0-clause-stays_told : goal.returns-then-count-eq0-clause-stays_told
returns-then-count-eq0-clause-stays_told c = λ was. refl

pub returns-clause-never_falls : goal.returns-clause-never_falls
returns-clause-never_falls c = same_above _ _ (c.next_fails.ensures.faults ∙ ap (λ (s : BytesState). s.faults) c.self.view_is)

pub returns-clause-within_count : goal.returns-clause-within_count
returns-clause-within_count c = subst (λ (n : ℕ). n ≤ last_count) (sym c.next_fails.ensures.faults) c.self.invariant.1

pub returns-clause-stays_told : goal.returns-clause-stays_told
returns-clause-stays_told c = λ was. refl

-- What is told of buffers beside the other ones of their mutators, register by register.
use Rattle.std.proofs.Common.{◌≡◌, ◌≢◌, ℕ, ◌+◌, ◌<◌, ◌≤◌, Bool, true, false, cond, Option, None, Some, List, [], ◌∷◌, zero, suc, length, map, get_or, refl, arith, sym, ◌∙◌, ap, inl, inr}
use Rattle.std.specs.List.{sum_by}
use Rattle.std.proofs.lemmas.Bool.{cases_eq, eq-eqb, ne_eqb}
use Rattle.std.proofs.lemmas.List.Sums.{sum_by-cons}
use Rattle.rec_counts.specs.Counts.{State}
use Rattle.rec_word.specs.Word.{is_slot}
use Rattle.rec_counts.specs.Lists.{one}
use Rattle.rec_log.specs.declared.contents.Contents.{Contents}
use Rattle.rec_counts.specs.Batch.{AreAlike, blank, IsCovered, names, touches}
use Rattle.rec_counts.specs.Targets.{added, leaf_born, leaves, named, new_target, old_target, taken, told_buffer, told_buffers, told_each, told_of, told_registers, told_steadily, written}
use Rattle.rec_counts.proofs.Naming.{added_parts, named-cons}

-- two registers that differ
pub told_apart : (steady : Bool) (a b : Option ℕ) → a ≢ b → told_of steady a b ≡ a
told_apart true (Some x) (Some y) other = ap (λ q. cond q None (Some x)) (ne_eqb x y (λ e. other (ap (λ z. Some z) e)))
told_apart true (Some x) None other = refl
told_apart true None b other = refl
told_apart false a b other = refl

-- the registers of one mutator
pub told_length : (steady : Bool) (xs ys : List (Option ℕ)) → length (told_registers steady xs ys) ≡ length xs
told_length false xs ys = refl
told_length true [] ys = refl
told_length true (x ∷ xs) [] = refl
told_length true (x ∷ xs) (y ∷ ys) = ap suc (told_length true xs ys)

pub told_at : (steady : Bool) (xs ys : List (Option ℕ)) (i : ℕ) → get_or (told_registers steady xs ys) i None ≡ told_of steady (get_or xs i None) (get_or ys i None)
told_at false xs ys i = refl
told_at true [] ys i = refl
told_at true (x ∷ xs) [] i = alone (get_or (x ∷ xs) i None)
  where
    alone : (a : Option ℕ) → a ≡ told_of true a None
    alone None = refl
    alone (Some a) = refl
told_at true (x ∷ xs) (y ∷ ys) zero = refl
told_at true (x ∷ xs) (y ∷ ys) (suc i) = told_at true xs ys i

-- the buffers of all mutators
pub told_many : (steady : Bool) (bs cs : List Contents) → length (told_buffers steady bs cs) ≡ length bs
told_many false bs cs = refl
told_many true [] cs = refl
told_many true (b ∷ bs) [] = refl
told_many true (b ∷ bs) (c ∷ cs) = ap suc (told_many true bs cs)

unheard : (xs : List (Option ℕ)) → told_steadily xs [] ≡ xs
unheard [] = refl
unheard (x ∷ xs) = refl

pub told_buffer_at : (steady : Bool) (bs cs : List Contents) (i : ℕ) → get_or (told_buffers steady bs cs) i blank ≡ told_buffer steady (get_or bs i blank) (get_or cs i blank)
told_buffer_at false bs cs i = refl
told_buffer_at true [] cs i = refl
told_buffer_at true (b ∷ bs) [] i = let a : Contents = get_or (b ∷ bs) i blank in let with : List (Option ℕ) → Contents = λ rs. record a { snapshot = rs } in ap with (sym (unheard a.snapshot))
told_buffer_at true (b ∷ bs) (c ∷ cs) zero = refl
told_buffer_at true (b ∷ bs) (c ∷ cs) (suc i) = told_buffer_at true bs cs i

-- what buffers tell that isn't of registers, they tell all the same
same_each : (f : Contents → ℕ) → ((b : Contents) (rs : List (Option ℕ)) → f (record b { snapshot = rs }) ≡ f b) → (steady : Bool) (bs cs : List Contents) → sum_by f (told_buffers steady bs cs) ≡ sum_by f bs
same_each f e false bs cs = refl
same_each f e true [] cs = refl
same_each f e true (b ∷ bs) [] = refl
same_each f e true (b ∷ bs) (c ∷ cs) = omega (arith, sum_by-cons f (told_buffer true b c) (told_each bs cs), sum_by-cons f b bs, e b (told_steadily b.snapshot c.snapshot), same_each f e true bs cs)

pub leaves_told : (steady : Bool) (x : ℕ) (bs cs : List Contents) → leaves x (told_buffers steady bs cs) ≡ leaves x bs
leaves_told steady x bs cs = same_each (λ (b : Contents). named x (map leaf_born b.entries)) (λ b rs. refl) steady bs cs

pub written_told : (steady : Bool) (x : ℕ) (bs cs : List Contents) → written x (told_buffers steady bs cs) ≡ written x bs
written_told steady x bs cs = same_each (λ (b : Contents). named x (map new_target b.entries)) (λ b rs. refl) steady bs cs

-- what one register tells, and what the other one tells of it, make up for each other
even_of : (x : ℕ) (a b : Option ℕ) → (one (is_slot x a) + one (is_slot x (told_of true b a)) ≡ one (is_slot x (told_of true a b)) + one (is_slot x b)) × (one (is_slot x (told_of true a b)) ≤ one (is_slot x a))
even_of x None None = (refl, omega arith)
even_of x None (Some z) = (omega arith, omega arith)
even_of x (Some y) None = (omega arith, omega arith)
even_of x (Some y) (Some z) = elim (cases_eq y z) [
  | inl same ↦ (
    omega (arith, ap (λ q. one (is_slot x (cond q None (Some z)))) (eq-eqb z y (sym same)), ap (λ q. one (is_slot x (cond q None (Some y)))) (eq-eqb y z same), ap (λ k. one (is_slot x (Some k))) same),
    omega (arith, ap (λ q. one (is_slot x (cond q None (Some y)))) (eq-eqb y z same)),
  )
  | inr other ↦ (
    omega (arith, ap (λ q. one (is_slot x (cond q None (Some z)))) (ne_eqb z y (λ e. other (sym e))), ap (λ q. one (is_slot x (cond q None (Some y)))) (ne_eqb y z other)),
    omega (arith, ap (λ q. one (is_slot x (cond q None (Some y)))) (ne_eqb y z other)),
  )
]

even_registers : (x : ℕ) (xs ys : List (Option ℕ)) → length ys ≡ length xs → (named x xs + named x (told_steadily ys xs) ≡ named x (told_steadily xs ys) + named x ys) × (named x (told_steadily xs ys) ≤ named x xs)
even_registers x [] [] e = (refl, omega arith)
even_registers x [] (y ∷ ys) e = absurd (omega (arith, e))
even_registers x (y ∷ xs) [] e = absurd (omega (arith, e))
even_registers x (a ∷ xs) (b ∷ ys) e =
    let here = even_of x a b in
    let rest = even_registers x xs ys (omega (arith, e)) in (
      omega (arith, here.0, rest.0, named-cons x a xs, named-cons x b ys, named-cons x (told_of true a b) (told_steadily xs ys), named-cons x (told_of true b a) (told_steadily ys xs)),
      omega (arith, here.1, rest.1, named-cons x a xs, named-cons x (told_of true a b) (told_steadily xs ys)),
    )

-- what is told of the buffers: as much more added as taken off is left out, and no more is told than there is
record Even (x : ℕ) (newer older : List Contents) : Type 0 where
  even : added x newer + taken x (told_each older newer) ≡ added x (told_each newer older) + taken x older
  fewer : added x (told_each newer older) ≤ added x newer
  less : taken x (told_each older newer) ≤ taken x older

module _ (x : ℕ) where
  abbrev adds : Contents → ℕ
  adds b = named x (map new_target b.entries) + named x b.snapshot

  abbrev takes : Contents → ℕ
  takes b = named x (map old_target b.entries) + named x b.snapshot

  even_buffers : (newer older : List Contents) → length older ≡ length newer → ((place : ℕ) → place < length older → length (get_or older place blank).snapshot ≡ length (get_or newer place blank).snapshot) → Even x newer older
  even_buffers [] [] e same = record { even = refl; fewer = omega arith; less = omega arith }
  even_buffers [] (c ∷ cs) e same = absurd (omega (arith, e))
  even_buffers (b ∷ bs) [] e same = absurd (omega (arith, e))
  even_buffers (b ∷ bs) (c ∷ cs) e same =
      let here = even_registers x b.snapshot c.snapshot (same 0 (omega arith)) in
      let back = even_registers x c.snapshot b.snapshot (sym (same 0 (omega arith))) in
      let rest = even_buffers bs cs (omega (arith, e)) (λ place below. same (suc place) (omega (arith, below))) in
      record {
        even = omega (arith, here.0, rest.even, sum_by-cons adds b bs, sum_by-cons adds (told_buffer true b c) (told_each bs cs), sum_by-cons takes c cs, sum_by-cons takes (told_buffer true c b) (told_each cs bs));
        fewer = omega (arith, here.1, rest.fewer, sum_by-cons adds b bs, sum_by-cons adds (told_buffer true b c) (told_each bs cs));
        less = omega (arith, back.1, rest.less, sum_by-cons takes c cs, sum_by-cons takes (told_buffer true c b) (told_each cs bs));
      }

-- so each count comes to the same,
pub told_even : (steady : Bool) (x : ℕ) (newer older : List Contents) → AreAlike newer older → added x newer + taken x (told_buffers steady older newer) ≡ added x (told_buffers steady newer older) + taken x older
told_even false x newer older a = refl
told_even true x newer older a = (even_buffers x newer older a.both a.registers).even

-- no more is added nor taken off,
told_fewer : (steady : Bool) (x : ℕ) (newer older : List Contents) → AreAlike newer older → added x (told_buffers steady newer older) ≤ added x newer
told_fewer false x newer older a = omega arith
told_fewer true x newer older a = (even_buffers x newer older a.both a.registers).fewer

told_less : (steady : Bool) (x : ℕ) (newer older : List Contents) → AreAlike newer older → taken x (told_buffers steady older newer) ≤ taken x older
told_less false x newer older a = omega arith
told_less true x newer older a = (even_buffers x newer older a.both a.registers).less

-- nothing is touched that no buffer names,
pub touches_named : (steady : Bool) (x : ℕ) (newer older : List Contents) → AreAlike newer older → touches steady x newer older ≤ names x newer older
touches_named steady x newer older a = omega (arith, told_fewer steady x newer older a, told_less steady x newer older a, leaves_told steady x newer older)

-- what is not touched was not written,
pub written_touches : (steady : Bool) (x : ℕ) (newer older : List Contents) → written x newer ≤ touches steady x newer older
written_touches steady x newer older = omega (arith, added_parts x (told_buffers steady newer older), written_told steady x newer older)

-- and a batch that may be made may be made so.
pub told_covered : (steady : Bool) (s : State) (newer older : List Contents) → AreAlike newer older → IsCovered s newer older → IsCovered s (told_buffers steady newer older) (told_buffers steady older newer)
told_covered steady s newer older a c = record {
  in_range = λ x l. omega (arith, c.in_range x l, told_fewer steady x newer older a, told_less steady x newer older a);
  born = λ x l. leaves_told steady x newer older ∙ c.born x l;
  fits = λ x. omega (arith, c.fits x, told_fewer steady x newer older a);
  covered = λ x. omega (arith, c.covered x, told_even steady x newer older a, told_fewer steady x newer older a, told_less steady x newer older a);
}

-- What one word does to the counts, case by case.
use Rattle.std.proofs.Common.{◌≡◌, ℕ, zero, suc, ◌<◌, Bool, true, false, IfSome, IsSome, List, [], ◌∷◌, length, refl, arith}
use Rattle.std.proofs.lemmas.Bool.{false≢true}
use Rattle.rec_trial.proofs.Common.{predecessor, State, slot_at, is_gray, is_green, is_white, unreleased_within, Phase, Idle, Marking, Scanning, Collecting, Machine, next_of, is_due_at, learnt_at}
use Rattle.rec_counts.specs.Groups.{last_set}
use Rattle.rec_trial.specs.Moves.{touched_if, one_off, blackened_if, joined_if}
use Rattle.rec_trial.proofs.Places.{ltb_yes}
use Rattle.rec_trial.proofs.Views.{bits_suc}

-- a word is known by its code, 0 for null, else the slot plus one: in marking it takes one off a Gray slot, or off one that is
-- marked first; in scanning a Gray slot becomes Black; in collecting a White one joins the last set
pub data Learnt (s : State) : Phase → ℕ → State → Type 0 where
  marks_none : Learnt s Marking 0 s
  takes_one : (x : ℕ) → x < length s.slots → is_gray (slot_at s x).colour ≡ true → Learnt s Marking (suc x) (one_off s x)
  marks : (x : ℕ) → (slot_at s x).released ≡ false → is_green (slot_at s x).colour ≡ false → is_gray (slot_at s x).colour ≡ false → Learnt s Marking (suc x) (one_off (touched_if false s x) x)
  scans_none : {code : ℕ} → ((x : ℕ) → code ≡ suc x → is_gray (slot_at s x).colour ≡ false) → Learnt s Scanning code s
  blackens : (x : ℕ) → x < length s.slots → is_gray (slot_at s x).colour ≡ true → Learnt s Scanning (suc x) (blackened_if true s x)
  finds_none : {code : ℕ} → ((x : ℕ) → code ≡ suc x → is_white (slot_at s x).colour ≡ false) → Learnt s Collecting code s
  joins : (x : ℕ) → x < length s.slots → 0 < length s.sets → is_white (slot_at s x).colour ≡ true → Learnt s Collecting (suc x) (joined_if true s x)

pub some_set : (sets : List (List ℕ)) → 0 < length (last_set sets) → 0 < length sets
some_set [] h = absurd (omega arith)
some_set (xs ∷ sets) h = omega arith

pub busy_phase : (m : Machine) → m.phase ≡ Idle → IsSome (next_of m) → ⊥
unfolding next_of
busy_phase m e b = false≢true (rw e at b)

pub learnt_by : (s : State) (p : Phase) (done code : ℕ) → (p ≡ Idle → ⊥) → is_due_at p done s ≡ true → IfSome (predecessor code) (λ x. ((slot_at s x).released ≡ false) × (is_green (slot_at s x).colour ≡ false)) → Learnt s p code (learnt_at p s (predecessor code))
learnt_by s Idle done code n d a = absurd (n refl)
learnt_by s Marking done zero n d a = marks_none
learnt_by s Marking done (suc x) n d a = let live : ((slot_at s x).released ≡ false) × (is_green (slot_at s x).colour ≡ false) = rw (bits_suc x) at a in rw (bits_suc x) (go live (is_gray (slot_at s x).colour) refl)
  where
    go : ((slot_at s x).released ≡ false) × (is_green (slot_at s x).colour ≡ false) → (b : Bool) → is_gray (slot_at s x).colour ≡ b → Learnt s Marking (suc x) (one_off (touched_if b s x) x)
    go live true g = takes_one x (unreleased_within s x live.0) g
    go live false g = marks x live.0 live.1 g
learnt_by s Scanning done zero n d a = scans_none (λ x q. absurd (omega arith))
learnt_by s Scanning done (suc x) n d a = let live : ((slot_at s x).released ≡ false) × (is_green (slot_at s x).colour ≡ false) = rw (bits_suc x) at a in rw (bits_suc x) (go live (is_gray (slot_at s x).colour) refl)
  where
    go : ((slot_at s x).released ≡ false) × (is_green (slot_at s x).colour ≡ false) → (b : Bool) → is_gray (slot_at s x).colour ≡ b → Learnt s Scanning (suc x) (blackened_if b s x)
    go live true g = blackens x (unreleased_within s x live.0) g
    go live false g = scans_none (λ y q. cc)
learnt_by s Collecting done zero n d a = finds_none (λ x q. absurd (omega arith))
learnt_by s Collecting done (suc x) n d a = let live : ((slot_at s x).released ≡ false) × (is_green (slot_at s x).colour ≡ false) = rw (bits_suc x) at a in rw (bits_suc x) (go live (is_white (slot_at s x).colour) refl)
  where
    go : ((slot_at s x).released ≡ false) × (is_green (slot_at s x).colour ≡ false) → (b : Bool) → is_white (slot_at s x).colour ≡ b → Learnt s Collecting (suc x) (joined_if b s x)
    go live true g = joins x (unreleased_within s x live.0) (some_set s.sets (omega (arith, ltb_yes done (length (last_set s.sets)) d))) g
    go live false g = finds_none (λ y q. cc)

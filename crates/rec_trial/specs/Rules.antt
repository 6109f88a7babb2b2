-- Where a trial may begin, and what holds of the counts while one is at work.
use Rattle.std.specs.Prelude.{◌≡◌, ℕ, ◌<◌, ◌≤◌, true, false, if◌then◌else◌, Option, None, Some, List, [], ◌∷◌, length, IfSome}
use Rattle.std.specs.List.{concat, filter}
use Rattle.rec_word.specs.Word.{target_of}
use Rattle.rec_counts.specs.Counts.{State, slot_at}
use Rattle.rec_counts.specs.Lists.{one, times}
use Rattle.rec_counts.specs.Colour.{is_black, is_gray, is_green, is_white, is_orange}
use Rattle.rec_trial.specs.declared.phase.Phase.{Phase}
use Rattle.rec_trial.specs.declared.phase.Phase.TheVariants.{Idle, Marking, Scanning, Collecting}

-- there is no set, nothing is marked, no slot is Gray or White, and no released root is in the free list
pub record IsReady (s : State) : Type 0 where
  pub sets : s.sets ≡ []
  pub marked : s.marked ≡ []
  pub work : s.work ≡ []
  pub no_gray : (x : ℕ) → is_gray (slot_at s x).colour ≡ false
  pub no_white : (x : ℕ) → is_white (slot_at s x).colour ≡ false
  pub unlisted : (x : ℕ) → 0 < times x s.roots → (slot_at s x).released ≡ true → times x s.free ≡ 0

-- the word is null, or leads to a slot that is not released
abbrev pub LeadsToUnreleased : State → (word : ℕ) → Type 0
LeadsToUnreleased s word = IfSome (target_of word) (λ x. (slot_at s x).released ≡ false)

-- and that is not Green either
abbrev pub LeadsToVisible : State → (word : ℕ) → Type 0
LeadsToVisible s word = IfSome (target_of word) (λ x. ((slot_at s x).released ≡ false) × (is_green (slot_at s x).colour ≡ false))

abbrev pub visible_if : Option ℕ → State → (word : ℕ) → ℕ
visible_if None s word = word
visible_if (Some x) s word = if is_green (slot_at s x).colour then 0 else word

-- what a trial sees of a word: one that leads to a Green slot is null
abbrev pub visible : State → (word : ℕ) → ℕ
visible s word = visible_if (target_of word) s word

-- what a trial sees of a target: a Green one is none
abbrev pub seen_of : State → Option ℕ → Option ℕ
seen_of s None = None
seen_of s (Some x) = if is_green (slot_at s x).colour then None else Some x

-- so does each of the words
abbrev pub AllLeadToVisible : State → (words : List ℕ) → Type 0
AllLeadToVisible s [] = Unit {0}
AllLeadToVisible s (word ∷ words) = LeadsToVisible s word × AllLeadToVisible s words

-- while marking: just the Gray slots are marked, and no released root is in the free list
pub record CanMark (s : State) : Type 0 where
  pub gray : (x : ℕ) → times x s.marked ≡ one (is_gray (slot_at s x).colour)
  pub unlisted : (x : ℕ) → 0 < times x s.roots → (slot_at s x).released ≡ true → times x s.free ≡ 0

-- while scanning: what stands in the work list is Black, and what is Gray is marked
pub record CanScan (s : State) : Type 0 where
  pub work : (x : ℕ) → times x s.work ≤ one (is_black (slot_at s x).colour)
  pub gray : (x : ℕ) → is_gray (slot_at s x).colour ≡ true → 0 < times x s.marked

-- while collecting: there are no roots, the members of the sets are Orange, and there are no more sets than members
pub record CanCollect (s : State) : Type 0 where
  pub roots : s.roots ≡ []
  pub members : (x : ℕ) → times x (concat s.sets) ≤ one (is_orange (slot_at s x).colour)
  pub few : length s.sets ≤ length (concat s.sets)

abbrev pub RulesAt : Phase → State → Type 0
RulesAt Idle s = Unit {0}
RulesAt Marking s = CanMark s
RulesAt Scanning s = CanScan s
RulesAt Collecting s = CanCollect s

-- the released ones of these slots
abbrev pub released_among : State → List ℕ → List ℕ
released_among s xs = filter (λ x. (slot_at s x).released) xs

-- A trial as functions of its nodes: the theory speaks of it. A word is 0 for null, else the node plus one.
use Rattle.std.proofs.Common.{ℕ, suc, ◌-◌, Bool, true, cond, ltb, List, [], ◌∷◌, ◌++◌, length, get_or}
use Rattle.rec_trial.proofs.Common.{Colour, Black, Gray, White, Orange, is_gray, Phase, Idle, Marking, Scanning, Collecting}
use Rattle.rec_trial.proofs.Totals.{changed}

-- a field that was loaded, and the word that it gave
pub record Seen : Type 0 where
  pub node : ℕ
  pub field : ℕ
  pub word : ℕ

-- `members` are those of all sets in order, `set_of` has the number of a node's set from 1, and `at` nodes of the list at
-- work have had all their fields loaded
pub record Deletion : Type 0 where
  pub phase : Phase
  pub fields : ℕ
  pub count : ℕ → ℕ
  pub cyclic : ℕ → ℕ
  pub colour : ℕ → Colour
  pub released : ℕ → Bool
  pub roots : List ℕ
  pub marked : List ℕ
  pub work : List ℕ
  pub members : List ℕ
  pub set_of : ℕ → ℕ
  pub sets : ℕ
  pub tried : ℕ
  pub at : ℕ
  pub field : ℕ

-- the list that the phase works off
abbrev pub queue_at : Phase → Deletion → List ℕ
queue_at Idle s = []
queue_at Marking s = s.marked
queue_at Scanning s = s.work
queue_at Collecting s = s.members

-- a load is due
abbrev pub due_at : Phase → Deletion → Bool
due_at Idle s = true
due_at Marking s = ltb s.at (length s.marked)
due_at Scanning s = ltb s.at (length s.work)
due_at Collecting s = ltb s.at (length s.members)

-- the load that is due
abbrev pub seen : Phase → Deletion → ℕ → Seen
seen p s w = record { node = get_or (queue_at p s) s.at 0; field = s.field; word = w }

-- a node that is not Gray becomes Gray
abbrev pub touch : Deletion → ℕ → Deletion
touch s x = record s { colour = changed s.colour x Gray; cyclic = changed s.cyclic x (s.count x); marked = s.marked ++ x ∷ [] }

abbrev pub take_one : Deletion → ℕ → Deletion
take_one s x = record s { cyclic = changed s.cyclic x (s.cyclic x - 1) }

abbrev pub blacken : Deletion → ℕ → Deletion
blacken s x = record s { colour = changed s.colour x Black; work = s.work ++ x ∷ [] }

abbrev pub join : Deletion → ℕ → Deletion
join s x = record s { colour = changed s.colour x Orange; members = s.members ++ x ∷ []; set_of = changed s.set_of x s.sets }

-- the next place
abbrev pub next_at : Bool → ℕ → ℕ
next_at more at = cond more at (suc at)

abbrev pub next_field : Bool → ℕ → ℕ
next_field more field = cond more (suc field) 0

abbrev pub advance : Deletion → Deletion
advance s = record s { at = next_at (ltb (suc s.field) s.fields) s.at; field = next_field (ltb (suc s.field) s.fields) s.field }

-- every Gray node becomes White
abbrev pub whiten : (ℕ → Colour) → ℕ → Colour
whiten f x = cond (is_gray (f x)) White (f x)

-- the words that a trial loaded in marking, in scanning and in collecting, the last one first
pub record Loads : Type 0 where
  pub marks : List Seen
  pub blacks : List Seen
  pub finds : List Seen

abbrev pub with_load : Phase → Seen → Loads → Loads
with_load Idle l ls = ls
with_load Marking l ls = record ls { marks = l ∷ ls.marks }
with_load Scanning l ls = record ls { blacks = l ∷ ls.blacks }
with_load Collecting l ls = record ls { finds = l ∷ ls.finds }

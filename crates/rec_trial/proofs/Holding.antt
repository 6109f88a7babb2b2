-- What holds of a trial, phase by phase, on any words that name nodes which are not released.
use Rattle.std.proofs.Common.{◌≡◌, ℕ, suc, ◌+◌, ◌-◌, ◌<◌, ◌≤◌, Bool, true, false, List, [], length, get_or, eqb, cond}
use Rattle.rec_trial.proofs.Common.{Colour, Purple, Phase, Idle, Marking, Scanning, Collecting, one, is_green, is_black, is_gray, is_white, is_orange}
use Rattle.rec_trial.proofs.Totals.{total, total_of_first, total_below, same, times}
use Rattle.rec_trial.proofs.Deletion.{Seen, Deletion, Loads}

-- how many of the loaded words name a node
abbrev pub named : ℕ → List Seen → ℕ
named x ls = total (λ l. same (suc x) l.word) ls

-- how often a place was loaded
abbrev pub loaded : ℕ → ℕ → List Seen → ℕ
loaded n g ls = total (λ l. cond (eqb n l.node) (same g l.field) 0) ls

-- how often a loaded word of a node names another
abbrev pub edges : ℕ → ℕ → List Seen → ℕ
edges n x ls = total (λ l. cond (eqb n l.node) (same (suc x) l.word) 0) ls

-- a root that is marked from
pub record Seed (o : Deletion) (x : ℕ) : Type 0 where
  pub root : 0 < times x o.roots
  pub is_purple : o.colour x ≡ Purple
  pub live : o.released x ≡ false

-- on a path of loaded words from a purple root
pub data Reached (o : Deletion) (marks : List Seen) : ℕ → Type 0 where
  seed : {x : ℕ} → Seed o x → Reached o marks x
  along : {n x : ℕ} → Reached o marks n → 0 < edges n x marks → Reached o marks x

-- on a path of loaded words from a marked node with a rest
pub data Hot (marked : List ℕ) (cyclic : ℕ → ℕ) (blacks : List Seen) : ℕ → Type 0 where
  warm : {x : ℕ} → 0 < times x marked → 0 < cyclic x → Hot marked cyclic blacks x
  along : {n x : ℕ} → Hot marked cyclic blacks n → 0 < edges n x blacks → Hot marked cyclic blacks x

-- the list is worked off up to a place: by any weight, the loads are the fields of the nodes before it
pub record Placed (fields : ℕ) (xs : List ℕ) (at field : ℕ) (ls : List Seen) : Type 0 where
  pub swept : (φ : ℕ → ℕ → ℕ) → total (λ l. φ l.node l.field) ls ≡ total_of_first (λ n. total_below (φ n) fields) at xs + total_below (φ (get_or xs at 0)) field
  pub inside : at ≤ length xs
  pub below : field < fields
  pub rests : at ≡ length xs → field ≡ 0

-- a list of nodes whose fields nothing loaded, since it is empty
pub record NotBegun (xs : List ℕ) (ls : List Seen) : Type 0 where
  pub nodes : xs ≡ []
  pub loads : ls ≡ []

-- what a trial never changes
pub record SameOf (o : Deletion) (wide : ℕ) (counts : ℕ → ℕ) (out : ℕ → Bool) : Type 0 where
  pub fields : wide ≡ o.fields
  pub count : counts ≡ o.count
  pub released : out ≡ o.released

abbrev pub Same : Deletion → Deletion → Type 0
Same o s = SameOf o s.fields s.count s.released

-- the marked list, the rests
pub record BaseOf (o : Deletion) (fields : ℕ) (released : ℕ → Bool) (cyclic count : ℕ → ℕ) (marked : List ℕ) (marks : List Seen) : Type 0 where
  pub kept : SameOf o fields count released
  pub once : (x : ℕ) → times x marked ≤ 1
  pub alive : (x : ℕ) → released x ≡ true → times x marked ≡ 0
  pub no_green : (x : ℕ) → 0 < times x marked → is_green (o.colour x) ≡ false
  pub rest : (x : ℕ) → 0 < times x marked → cyclic x ≡ count x - named x marks
  pub fresh : (x : ℕ) → times x marked ≡ 0 → named x marks ≡ 0

-- just the Gray nodes are marked, and the others keep their colours
pub record GraysOf (o : Deletion) (marked : List ℕ) (colour : ℕ → Colour) : Type 0 where
  pub grays : (x : ℕ) → times x marked ≡ one (is_gray (colour x))
  pub no_white : (x : ℕ) → is_white (colour x) ≡ false
  pub colours_old : (x : ℕ) → times x marked ≡ 0 → colour x ≡ o.colour x

-- each seed is marked or still a root
pub record SeedsOf (o : Deletion) (marked roots : List ℕ) : Type 0 where
  pub roots_old : (x : ℕ) → 0 < times x roots → 0 < times x o.roots
  pub seeds : (x : ℕ) → Seed o x → 0 < times x roots + times x marked

-- while marking, with the place in the marked list
pub record WhileMarking (o s : Deletion) (ls : Loads) : Type 0 where
  pub base : BaseOf o s.fields s.released s.cyclic s.count s.marked ls.marks
  pub open base use *
  pub look : GraysOf o s.marked s.colour
  pub open look use *
  pub queue : SeedsOf o s.marked s.roots
  pub open queue use *
  pub reached : (x : ℕ) → 0 < times x s.marked → Reached o ls.marks x
  pub place : Placed s.fields s.marked s.at s.field ls.marks
  pub unscanned : NotBegun s.work ls.blacks
  pub uncollected : NotBegun s.members ls.finds

-- marking is over
pub record AllMarked (o : Deletion) (fields : ℕ) (released : ℕ → Bool) (cyclic count : ℕ → ℕ) (marked : List ℕ) (marks : List Seen) : Type 0 where
  pub base : BaseOf o fields released cyclic count marked marks
  pub open base use *
  pub seeds : (x : ℕ) → Seed o x → 0 < times x marked
  pub reached : (x : ℕ) → 0 < times x marked → Reached o marks x
  pub marks_all : Placed fields marked (length marked) 0 marks

-- a marked node is Gray or in the work list, and what is there is Black
pub record ScannedOf (o : Deletion) (marked work : List ℕ) (colour : ℕ → Colour) : Type 0 where
  pub parts : (x : ℕ) → times x marked ≡ one (is_gray (colour x)) + times x work
  pub worked : (x : ℕ) → times x work ≤ one (is_black (colour x))
  pub no_white : (x : ℕ) → is_white (colour x) ≡ false
  pub colours_old : (x : ℕ) → times x marked ≡ 0 → colour x ≡ o.colour x

-- while scanning, with the place in the work list: something outside holds what is there
pub record WhileScanning (o s : Deletion) (ls : Loads) : Type 0 where
  pub all : AllMarked o s.fields s.released s.cyclic s.count s.marked ls.marks
  pub open all use *
  pub split : ScannedOf o s.marked s.work s.colour
  pub open split use *
  pub hot : (x : ℕ) → 0 < times x s.work → Hot s.marked s.cyclic ls.blacks x
  pub unnamed : (x : ℕ) → 0 < named x ls.blacks → is_gray (s.colour x) ≡ false
  pub tested : (x : ℕ) → 0 < total_of_first (same x) s.tried s.marked → is_gray (s.colour x) ≡ true → s.cyclic x ≡ 0
  pub tries : s.tried ≤ length s.marked
  pub place : Placed s.fields s.work s.at s.field ls.blacks
  pub uncollected : NotBegun s.members ls.finds

-- scanning is over
pub record AllScanned (o : Deletion) (fields : ℕ) (released : ℕ → Bool) (cyclic count : ℕ → ℕ) (marked work : List ℕ) (marks blacks : List Seen) : Type 0 where
  pub all : AllMarked o fields released cyclic count marked marks
  pub open all use *
  pub hot : (x : ℕ) → 0 < times x work → Hot marked cyclic blacks x
  pub blacks_all : Placed fields work (length work) 0 blacks

-- a marked node is White, or in the work list, or a member, and no Black node led to a White one or a member
pub record CollectedOf (o : Deletion) (count : ℕ → ℕ) (marked work members : List ℕ) (colour : ℕ → Colour) (marks blacks : List Seen) : Type 0 where
  pub parts : (x : ℕ) → times x marked ≡ one (is_white (colour x)) + times x work + times x members
  pub worked : (x : ℕ) → times x work ≤ one (is_black (colour x))
  pub oranges : (x : ℕ) → times x members ≤ one (is_orange (colour x))
  pub unnamed : (x : ℕ) → 0 < named x blacks → one (is_white (colour x)) + times x members ≡ 0
  pub enough : (x : ℕ) → 0 < one (is_white (colour x)) + times x members → count x ≤ named x marks
  pub colours_old : (x : ℕ) → times x marked ≡ 0 → colour x ≡ o.colour x

-- sets in order of finding: no loaded word of a set names a node of a later one
pub record OrderedOf (members : List ℕ) (set_of : ℕ → ℕ) (sets at : ℕ) (finds : List Seen) : Type 0 where
  pub bounded : (x : ℕ) → 0 < times x members → set_of x ≤ sets
  pub positive : (x : ℕ) → 0 < times x members → 0 < set_of x
  pub current : (k : ℕ) → at ≤ k → k < length members → set_of (get_or members k 0) ≡ sets
  pub sources : (n x : ℕ) → 0 < edges n x finds → 0 < times n members
  pub backward : (n x : ℕ) → 0 < edges n x finds → 0 < times x members → set_of x ≤ set_of n

-- while collecting, with the place among the members
pub record WhileCollecting (o s : Deletion) (ls : Loads) : Type 0 where
  pub scanned : AllScanned o s.fields s.released s.cyclic s.count s.marked s.work ls.marks ls.blacks
  pub open scanned use *
  pub split : CollectedOf o s.count s.marked s.work s.members s.colour ls.marks ls.blacks
  pub open split use *
  pub tested : (x : ℕ) → 0 < total_of_first (same x) s.tried s.marked → is_white (s.colour x) ≡ false
  pub tries : s.tried ≤ length s.marked
  pub found : (x : ℕ) → 0 < named x ls.finds → is_white (s.colour x) ≡ false
  pub place : Placed s.fields s.members s.at s.field ls.finds
  pub order : OrderedOf s.members s.set_of s.sets s.at ls.finds

-- when all members are worked off, and all marked nodes were looked at
pub record Finished (o s : Deletion) (ls : Loads) : Type 0 where
  pub now : WhileCollecting o s ls
  pub open now use *
  pub all_found : s.at ≡ length s.members
  pub all_tried : s.tried ≡ length s.marked

-- a trial that is over, and what was marked and what became Black in it
pub record Over (o s : Deletion) (ls : Loads) : Type 0 where
  pub marked : List ℕ
  pub work : List ℕ
  pub end : Finished o (record s { marked = marked; work = work }) ls
  pub no_marked : s.marked ≡ []
  pub no_work : s.work ≡ []

-- what holds in each phase
abbrev pub inv_at : Phase → Deletion → Deletion → Loads → Type 0
inv_at Idle o s ls = Over o s ls
inv_at Marking o s ls = WhileMarking o s ls
inv_at Scanning o s ls = WhileScanning o s ls
inv_at Collecting o s ls = WhileCollecting o s ls

abbrev pub Inv : Deletion → Deletion → Loads → Type 0
Inv o s ls = inv_at s.phase o s ls

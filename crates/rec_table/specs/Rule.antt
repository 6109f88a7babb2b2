-- The rule of the table, and what each step of a mutator tells.
use Rattle.std.specs.Prelude.{◌≡◌, ◌≢◌, ℕ, ◌+◌, ◌-◌, ◌^◌, ◌<◌, ◌≤◌, false, true, Option, Some, None, IfSome, List, [], ◌∷◌, ◌++◌, length, slice_index_or}
use mathlib.Core.Option.{some}
use lib.ListN.{get_elem?}
use Rattle.atomic_table.specs.Table.{State, Me, Step, rest}
use Rattle.rec_word.specs.declared.op.Op.{Op}
use Rattle.rec_word.specs.declared.op.Op.TheVariants as ops
use Rattle.rec_log.specs.declared.contents.Contents.{Contents}
use Rattle.rec_model.specs.declared.command.Cmd.{Cmd}
use Rattle.rec_mutator.specs.Causes.{gives_back}
use Rattle.rec_mutator.specs.Next.{next_of}
use Rattle.rec_mutator.specs.Private.{Private, is_busy, IsValid}
use Rattle.rec_mutator.specs.Step.{NamesSlots}
use Rattle.rec_mutator.specs.Took.{begun_of, took_of, spare, IsBetween, IsFound}
use Rattle.rec_mutator.specs.declared.phase.Phase as phases
use Rattle.rec_mutator.specs.declared.phase.Phase.TheVariants as at
use Rattle.rec_mutator.specs.declared.work.Work.{Work}
use Rattle.rec_mutator.specs.declared.work.Work.TheVariants as works
use Rattle.rec_core.specs.Config.{HasLabel}
use Rattle.rec_core.specs.Core.{Core, cells_of, mutator, box}
use Rattle.rec_collector.specs.Private as collectors
use Rattle.rec_collector.specs.Given.{IsGiven, IsSized}
use Rattle.rec_word.specs.Header.{IsTakenHeader}
use Rattle.rec_word.specs.Mailbox.{crossing_word}
use Rattle.rec_word.specs.declared.mailbox.Mailbox.TheVariants.{Retired}
use Rattle.rec_collector.specs.Next as turning_next
use Rattle.rec_collector.specs.declared.phase.Phase as turning
use Rattle.rec_collector.specs.declared.phase.Phase.TheVariants as turn_at
use Rattle.rec_core.specs.Moves.{Move, AllFit, after_moves}
use Rattle.rec_world.specs.World.{IsWorld}
use Rattle.rec_table.specs.Beats.{beats_of, learnt, Offerless}
use Rattle.rec_table.specs.Homes.{homes_of}
use Rattle.rec_core.specs.Row.{row}
use Rattle.rec_table.specs.declared.start.Start.{Start}
use Rattle.rec_table.specs.declared.views.Beat.{Beat}
use Rattle.rec_table.specs.declared.views.Beat.TheVariants.{Begins, Saw, Took}
use Rattle.rec_table.specs.declared.views.Seated.{Seated}
use Rattle.rec_table.specs.declared.views.CollectorSeat.{CollectorSeat}
use Rattle.rec_table.specs.declared.views.View.{View}
use Rattle.rec_table.specs.declared.views.View.TheVariants.{Collects, Mutates, Spent}

module _ (key : Core) (run : List Move) (made gone : ℕ) (owner : ℕ → ℕ) where
  -- Each seat's list is its actor's list in the run, and no two seats are one mutator's. What a mutator has in hand that holds its
  -- mailbox is what lies in that.
  abbrev pub Fits : ℕ → View → Type 0
  Fits id (Collects c) = (id ≡ 0) × (c.made ≡ made) × (length c.known ≡ gone) × (c.log ≡ beats_of 0 key run) × ((k : ℕ) → k < gone → slice_index_or c.known k [] ≡ beats_of (k + 1) key run)
  Fits id (Mutates t) = (owner t.number ≡ id) × (gone < t.number) × (t.number ≤ made) × (t.log ≡ beats_of t.number key run) × (gives_back (mutator (after_moves key run) t.number).phase ≡ true → t.hand ≡ box (after_moves key run) t.number)
  Fits id Spent = Unit {0}

-- There is a run of the core from the started world, whose last state has the table's words and its mailboxes.
pub record Holds (key : Core) (s : State (Option Contents) View) : Type 0 where
  pub run : List Move
  pub made : ℕ
  pub gone : ℕ
  pub owner : ℕ → ℕ
  pub world : IsWorld key
  pub fit : AllFit key run
  pub offerless : Offerless run
  pub words : s.words ≡ row (cells_of (after_moves key run))
  pub homes : s.homes ≡ homes_of (after_moves key run).crossing (after_moves key run).boxes
  pub order : gone ≤ made
  pub room : made ≤ key.config.mutators
  pub fresh : (k : ℕ) → made < k → beats_of k key run ≡ []
  pub each : (id : ℕ) (v : View) → get_elem? s.views id ≡ some v → Fits key run made gone owner id v

-- the record with which a step is made: a work may begin first
abbrev pub ready : Private → Option Start → Private
ready p None = p
ready p (Some start) = begun_of p start.work start.from

-- a mutator may be asked this: the registers and the field are there, and it hasn't left
abbrev pub MayAsk : Private → Cmd → Type 0
MayAsk p cmd = IsValid p (works.Command cmd) × (p.left ≡ false)

-- a mutator that hasn't left may begin a work where none is unfinished
abbrev pub MayBegin : Private → Work → Type 0
MayBegin p work = (is_busy p ≡ false) × (p.left ≡ false) × IsValid p work × HasLabel work

-- so a work begins, with any slot as its scan's first one; and a step needs a work that is unfinished
abbrev pub MayGo : Private → Option Start → Type 0
MayGo p None = is_busy p ≡ true
MayGo p (Some start) = (is_busy p ≡ false) × (p.left ≡ false) × IsValid p start.work × HasLabel start.work × (start.from < p.slots)

abbrev pub beats : Option Start → (word : ℕ) → List Beat
beats None word = Saw word ∷ []
beats (Some start) word = Begins start ∷ Saw word ∷ []

abbrev pub longer : Seated → List Beat → Seated
longer t bs = record t { log = t.log ++ bs }

abbrev pub adds : View → List Beat → View
adds (Mutates t) bs = Mutates (longer t bs)
adds (Collects c) bs = Collects c
adds Spent bs = Spent

abbrev pub seated_of : View → Seated
seated_of (Mutates t) = t
seated_of (Collects c) = record { number = 0; log = []; hand = collectors.blank 0 0 }
seated_of Spent = record { number = 0; log = []; hand = collectors.blank 0 0 }

-- A step without a mailbox was made by the mutator of this record: it is in the seat's list with the word found, which is one
-- that the machine may find; and the registers that the step leaves name slots of the heap.
abbrev pub MadeBy : Private → Option Start → Step (Option Contents) → Me (Option Contents) View → ℕ → Me (Option Contents) View → Type 0
MadeBy p work st me word me' = (me' ≡ (adds me.0 (beats work word), me.1)) × IsFound (ready p work) (next_of (ready p work)) word × NamesSlots (learnt (ready p work) (Saw word))

abbrev pub first_view : View
first_view = Collects (record { log = []; made = 0; known = [] })

-- The own mailbox was taken: it holds a spare, and what was retired is left in it.
abbrev pub takes_view : View → Contents → List Beat → View
takes_view (Mutates t) hand bs = Mutates (record t { log = t.log ++ bs; hand = hand })
takes_view v hand bs = v

abbrev pub TakenBy : Private → Step (Option Contents) → Me (Option Contents) View → ℕ → Me (Option Contents) View → Type 0
TakenBy p st me word me' =
    (me' ≡ (takes_view me.0 (took_of p word).log (beats None word), (p.number - 1, Some (spare (took_of p word))) ∷ me.1)) × IsFound p (next_of p) word × NamesSlots (learnt p (Saw word))

-- and it was given back
abbrev pub GivenBy : Private → Step (Option Contents) → Me (Option Contents) View → ℕ → Me (Option Contents) View → Type 0
GivenBy p st me word me' = (me' ≡ (adds me.0 (beats None word), rest me.1)) × IsFound p (next_of p) word × NamesSlots (learnt p (Saw word))

-- A load of a header that a scan has come to: where it is taken, that is the probe's step; where it is free, nothing is told, and a
-- claim follows.
abbrev pub PassedBy : Step (Option Contents) → Me (Option Contents) View → ℕ → Me (Option Contents) View → Type 0
PassedBy st me word me' = (word ≢ 0 → me' ≡ (adds me.0 (beats None word), me.1)) × (word ≡ 0 → me' ≡ me)

abbrev pub records : View → Beat → View
records (Collects c) b = Collects (record c { log = c.log ++ b ∷ [] })
records v b = v

-- what a step that frees a slot finds is the header of a taken slot
abbrev pub FindsHeader : collectors.Private → (word : ℕ) → Type 0
FindsHeader c word = (slot : ℕ) → turning_next.next_of c ≡ Some (ops.FreeHeader slot) → IsTakenHeader word

-- A turn of the collector with this record, which takes no mailbox and gives none back.
abbrev pub TurnedBy : collectors.Private → Step (Option Contents) → Me (Option Contents) View → ℕ → Me (Option Contents) View → Type 0
TurnedBy c st me word me' = (me' ≡ (records me.0 (Saw word), me.1)) × IsGiven c word × FindsHeader c word

-- a look at the mailbox of mutator t: where it is home with what was retired, it is taken; the word found has no bit of parking
abbrev pub Looks : collectors.Private → (t : ℕ) → Me (Option Contents) View → (word : ℕ) → Me (Option Contents) View → Type 0
Looks c t me word me' =
    (word ≡ crossing_word c.epoch Retired → (b : Contents) × (me' ≡ (records me.0 (Took word b), (t - 1, Some b) ∷ me.1)) × IsSized c.registers c.capacity b)
    × (word ≢ crossing_word c.epoch Retired → me' ≡ (records me.0 (Saw word), me.1))
    × (word < 2 ^ 32)

abbrev pub LookedBy : collectors.Private → (t : ℕ) → Step (Option Contents) → Me (Option Contents) View → ℕ → Me (Option Contents) View → Type 0
LookedBy c t st me word me' = Looks c t me word me'

-- A first glance at that mailbox: where it can't be taken, that is the look; where it can, nothing is told, and a look that takes it
-- follows.
abbrev pub GlancedBy : collectors.Private → (t : ℕ) → Step (Option Contents) → Me (Option Contents) View → ℕ → Me (Option Contents) View → Type 0
GlancedBy c t st me word me' = (word ≢ crossing_word c.epoch Retired → Looks c t me word me') × (word ≡ crossing_word c.epoch Retired → me' ≡ me)

-- it is given back
abbrev pub ReturnedBy : collectors.Private → Step (Option Contents) → Me (Option Contents) View → ℕ → Me (Option Contents) View → Type 0
ReturnedBy c st me word me' = (me' ≡ (records me.0 (Saw word), rest me.1)) × IsGiven c word

-- the mailbox that a mutator has out between two steps, by phase, with what it leaves there
abbrev pub hands_at : (hand : Contents) (number : ℕ) → phases.Phase → List (ℕ × Option Contents)
hands_at hand number at.Giving = (number - 1, Some hand) ∷ []
hands_at hand number at.Parting = (number - 1, Some hand) ∷ []
hands_at hand number _ = []

abbrev pub hands : Seated → Private → List (ℕ × Option Contents)
hands t p = hands_at t.hand p.number p.phase

-- what its seat has once the step by p is made, and before the buffer in a mailbox that it takes is swapped
abbrev pub hand_after : (hand retired : Contents) → phases.Phase → Contents
hand_after hand retired at.Crossing = retired
hand_after hand retired at.Leaving = retired
hand_after hand retired _ = hand

abbrev pub taken_by : Private → (word : ℕ) → phases.Phase → List (ℕ × Option Contents)
taken_by p word at.Crossing = (p.number - 1, Some (spare (took_of p word))) ∷ []
taken_by p word at.Leaving = (p.number - 1, Some (spare (took_of p word))) ∷ []
taken_by p word _ = []

abbrev pub seated_after : Seated → Private → Option Start → (word : ℕ) → Seated
seated_after t p wk word = record t { log = t.log ++ beats wk word; hand = hand_after t.hand (took_of p word).log p.phase }

abbrev pub me_after : Seated → Private → Option Start → (word : ℕ) → Me (Option Contents) View
me_after t p wk word = (Mutates (seated_after t p wk word), taken_by p word p.phase)

-- the mailbox that the collector has out between two turns, by phase: a spare lies in it
abbrev pub boxes_at : collectors.Private → turning.Phase → List (ℕ × Option Contents)
boxes_at p (turn_at.Returning t) = (t - 1, Some (collectors.spare p)) ∷ []
boxes_at p _ = []

abbrev pub boxes_out : collectors.Private → List (ℕ × Option Contents)
boxes_out p = boxes_at p p.phase

-- the operation gives a mailbox back
abbrev pub IsReturnOp : Op → Type 0
IsReturnOp (ops.ReturnBox t epoch) = Unit {0}
IsReturnOp _ = ⊥

abbrev pub collecting_of : View → CollectorSeat
collecting_of (Collects c) = c
collecting_of (Mutates t) = record { log = []; made = 0; known = [] }
collecting_of Spent = record { log = []; made = 0; known = [] }

abbrev pub collecting_more : CollectorSeat → Beat → CollectorSeat
collecting_more c b = record c { log = c.log ++ b ∷ [] }

-- a turn that looks at no mailbox
abbrev pub NotLooking : turning.Phase → Type 0
NotLooking (turn_at.Looking t) = ⊥
NotLooking _ = Unit {0}

abbrev pub word_of : Beat → ℕ
word_of (Begins start) = 0
word_of (Saw word) = word
word_of (Took word b) = word

abbrev pub no_collector : collectors.Private
no_collector = collectors.opened 0 0 0 0 0 0 collectors.plain [] []

-- the first seat makes the seat of the next mutator
abbrev pub without : View → View
without (Collects c) = Collects (record c { made = c.made + 1 })
without v = v

abbrev pub newcomer : View → View
newcomer (Collects c) = Mutates (record { number = c.made + 1; log = []; hand = collectors.blank 0 0 })
newcomer v = Spent

-- and takes in the list of the next one
abbrev pub joined : View → View → View
joined (Collects c) (Mutates t) = Collects (record c { known = c.known ++ t.log ∷ [] })
joined v w = v

-- What a mutator's machine may be told that its step found: the step was the one due, the word is one that it can find there, and where it
-- takes the mailbox, the seat holds what the mutator hands over for it.
pub record MayLearn (p : Private) (work : Option Start) (op : Op) (word : ℕ) (me : Me (Option Contents) View) : Type 0 where
  pub busy : is_busy p ≡ true
  pub begun : IfSome work (λ start. p.phase ≡ at.Begun start.work)
  pub between : IsBetween p.phase
  pub number : 1 ≤ p.number
  pub due : op ≡ next_of p
  pub found : IsFound p op word
  pub out : me.1 ≡ taken_by p word p.phase
  pub hand : (seated_of me.0).hand ≡ hand_after (seated_of me.0).hand (took_of p word).log p.phase

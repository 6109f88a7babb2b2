-- What each call comes to, code by code: why that code came, and what the call left.
use Rattle.std.specs.Prelude.{◌≡◌, ◌⊎◌, ℕ, ◌+◌, ◌%◌, ◌<◌, ◌≤◌, Bool, false, true, All, Option, Some, None, IsSome, List, [], ◌∷◌, length, map, slice_index_or, unwrap_or}
use Rattle.std.specs.Arc.{arc_value}
use Rattle.rec_word.specs.declared.word.TheConstants.{LAST_EPOCH}
use Rattle.rec_collector.specs.declared.turn.Turn.{Turn}
use Rattle.rec_core.specs.Config.{IsConfig}
use Rattle.rec_core.specs.Core.{Core, opened, sight}
use Rattle.rec_core.specs.declared.config.Config.{Config}
use Rattle.rec_counts.specs.Counts.{slot_at}
use Rattle.rec_core.specs.Settled.{IsSettled}
use Rattle.rec_image.specs.Renewed.{IsRenewed, IsUnrenewed}
use Rattle.rec_image.specs.declared.error.RenewError.{RenewError}
use Rattle.rec_image.specs.declared.error.RenewError.TheVariants as renewals
use Rattle.rec_model.specs.Heap.{Heap}
use Rattle.rec_model.specs.Sight.{StandsBy}
use Rattle.rec_model.specs.declared.command.Cmd.{Cmd}
use Rattle.rec_model.specs.declared.told.Told.{Told}
use Rattle.rec_mutator.specs.Private.{HasOperands, answer_of}
use Rattle.rec_table.specs.Rule.{MayAsk}
use Rattle.rec_mutator.specs.declared.made.Made.TheVariants as makes
use Rattle.rec_mutator.specs.declared.work.Work.TheVariants as works
use Rattle.rec_notice.specs.Ring.{AreEnds, Hears, heard_by, room_of, sent_by, waits_for}
use Rattle.rec_notice.specs.declared.listener.Listener.{Listener}
use Rattle.rec_settle.specs.Collecting.{taken_slots}
use Rattle.rec_settle.specs.Whole as whole
use Rattle.rec_table.specs.Answered.{IsAnswered, IsPolled, Leaves}
use Rattle.rec_table.specs.Ends.{IsStopped}
use Rattle.rec_table.specs.Views.{CollectorView, MutatorView, Started, Works, fresh, fresh_collector, collector_now, mutator_now}
use Rattle.rec_table.specs.Journals.{Tells}
use Rattle.rec_table.specs.Turn.{MakesTurn, MakesTurns}
use Rattle.rec_table.specs.declared.telling.Telling.{Telling}
use Rattle.rec_world.specs.OpenError.{IsRefused}
use Rattle.rec_world.specs.World.{label_of}
use Rattle.rec_world.specs.declared.open_error.OpenError.{OpenError}
use Rattle.recycler_c.specs.Codes.{code_of}
use Rattle.recycler_c.specs.Shown.{asked_of, heard_of, slot_told}
use Rattle.recycler_c.specs.Standing.{Tellers, rests_in, collects_in, mutates_in, hears_in, tells_in, held_at}
use Rattle.recycler_c.specs.Telling.{HasMade, TellsMany, TellsOne}
use Rattle.recycler_c.specs.declared.code.Code.{Code}
use Rattle.recycler_c.specs.declared.code.Code.TheVariants as codes
use Rattle.recycler_c.specs.declared.end.Collecting.{Collecting}
use Rattle.recycler_c.specs.declared.end.End.{End}
use Rattle.recycler_c.specs.declared.end.End.TheVariants as ends
use Rattle.recycler_c.specs.declared.end.Mutating.{Mutating}
use Rattle.recycler_c.specs.declared.handle.Handle.{Handle}
use Rattle.recycler_c.specs.declared.recycler.Recycler.{Recycler}
use Rattle.recycler_c.specs.declared.told.Asked.{Asked}
use Rattle.recycler_c.specs.declared.told.Heard.{Heard}
use Rattle.recycler_c.specs.declared.told.Settled.{Settled}
use Rattle.recycler_c.specs.declared.told.Slot.{Slot}
use Rattle.recycler_c.specs.declared.told.Totals.{Totals}
use Rattle.recycler_c.specs.declared.told.Turned.{Turned}

-- what the collector's handle holds
abbrev pub held : Recycler → Option End
held r = r.collector.owned.held

-- all handles hold what they held
pub record IsSame (h : Option End) (hs : List Handle) (h' : Option End) (hs' : List Handle) : Type 0 where
  pub collector : h' ≡ h
  pub mutators : hs' ≡ hs

-- no heap is open; one rests; one runs
abbrev IsClosed : Option End → Type 0
IsClosed h = h ≡ None

abbrev Rests : Option End → Type 0
Rests h = IsSome (rests_in h)

abbrev Runs : Option End → Type 0
Runs h = IsSome (collects_in h)

-- the handle is open, and no heap runs in it
pub record IsAtRest (h : Option End) : Type 0 where
  pub is_open : IsSome h
  pub collects : collects_in h ≡ None
  pub mutates : mutates_in h ≡ None
  pub hears : hears_in h ≡ None

-- a call that is for a heap at rest is refused so: none is open, or it runs
abbrev LacksRest : Option End → Code → Type 0
LacksRest h codes.Closed = IsClosed h
LacksRest h codes.Runs = Runs h
LacksRest h _ = ⊥

-- a call that is for one end of a running heap: none is open, or it rests, or the handle holds another end
abbrev LacksEnd : (other : Type 0) → Option End → Code → Type 0
LacksEnd other h codes.Closed = IsClosed h
LacksEnd other h codes.Rests = IsAtRest h
LacksEnd other h codes.Other = other
LacksEnd other h _ = ⊥

-- a heap with these numbers was opened
pub record HasOpened (config : Config) (h : Option End) (hs : List Handle) (h' : Option End) (hs' : List Handle) : Type 0 where
  pub was : IsClosed h
  pub config_fits : IsConfig config
  pub is : rests_in h' ≡ Some (opened config)
  pub silent : tells_in h' ≡ None

-- or it was refused
pub record RefusesOpening (config : Config) (h : Option End) (hs : List Handle) (code : Code) (h' : Option End) (hs' : List Handle) : Type 0 where
  pub was : IsClosed h
  pub error : OpenError
  pub is : code ≡ code_of error
  pub cause : IsRefused config error
  pub same : IsSame h hs h' hs'

abbrev pub Opens : Config → Option End → List Handle → Code → Option End → List Handle → Type 0
Opens config h hs codes.Ok h' hs' = HasOpened config h hs h' hs'
Opens config h hs codes.Open h' hs' = IsSome h × IsSame h hs h' hs'
Opens config h hs code h' hs' = RefusesOpening config h hs code h' hs'

abbrev pub Closes : Option End → List Handle → Handle → Code → Option End → List Handle → Handle → Type 0
Closes h hs l codes.Ok h' hs' l' = Rests h × IsClosed h' × IsClosed l'.owned.held
Closes h hs l code h' hs' l' = LacksRest h code × IsSame h hs h' hs' × (l' ≡ l)

-- A new ring: nothing was sent, kept, refused or heard.
pub record AreNew (room : ℕ) (teller : Tellers) (listener : Listener) : Type 0 where
  pub ends : AreEnds teller.tube listener
  pub room_is : room_of teller.tube ≡ room
  pub sent : sent_by teller.tube ≡ []
  pub refusals : teller.tube.refusals ≡ 0
  pub kept : teller.kept ≡ None
  pub heard : heard_by listener ≡ []
  pub waits : waits_for listener ≡ []

-- Beside the heap at rest stands who tells, and the listener's handle holds who hears.
pub record HasNotices (room : ℕ) (h l h' l' : Option End) : Type 0 where
  pub within : (1 ≤ room) × (room ≤ 65535)
  pub world : Core
  pub was : rests_in h ≡ Some world
  pub silent : tells_in h ≡ None
  pub closed : IsClosed l
  pub is : rests_in h' ≡ Some world
  pub teller : Tellers
  pub tells : tells_in h' ≡ Some teller
  pub listener : Listener
  pub hears : hears_in l' ≡ Some listener
  pub new : AreNew room teller listener

-- both handles hold what they held
pub record AreSame (h l h' l' : Option End) : Type 0 where
  pub collector : h' ≡ h
  pub listener : l' ≡ l

-- notices were asked for before: the listener's handle is open, or somebody tells
abbrev WereAsked : Option End → Option End → Type 0
WereAsked h l = IsSome l ⊎ IsSome (tells_in h)

abbrev pub AsksNotices : ℕ → Option End → Option End → Code → Option End → Option End → Type 0
AsksNotices room h l codes.Ok h' l' = HasNotices room h l h' l'
AsksNotices room h l codes.Open h' l' = WereAsked h l × AreSame h l h' l'
AsksNotices room h l codes.Range h' l' = ((room ≡ 0) ⊎ (65535 < room)) × Rests h × AreSame h l h' l'
AsksNotices room h l codes.NoMemory h' l' = Rests h × AreSame h l h' l'
AsksNotices room h l code h' l' = LacksRest h code × AreSame h l h' l'

-- the listener gave an answer, and how the caller is told
pub record HasHeard (h h' : Option End) (told : Heard) : Type 0 where
  pub before : Listener
  pub was : hears_in h ≡ Some before
  pub after : Listener
  pub is : hears_in h' ≡ Some after
  pub answer : Option ℕ
  pub hears : Hears before answer after
  pub told_so : told ≡ heard_of answer

-- the handle is open, and nobody hears in it
pub record HearsNone (h : Option End) : Type 0 where
  pub is_open : IsSome h
  pub hears : hears_in h ≡ None

abbrev pub HearsIn : Option End → Heard → Code → Option End → Heard → Type 0
HearsIn h told codes.Ok h' told' = HasHeard h h' told'
HearsIn h told codes.Closed h' told' = IsClosed h × (h' ≡ h) × (told' ≡ told)
HearsIn h told codes.Other h' told' = HearsNone h × (h' ≡ h) × (told' ≡ told)
HearsIn h told _ h' told' = ⊥

-- a handle holds this mutator of this heap
pub record IsOut (s : Started) (e : MutatorView) (h : Option End) : Type 0 where
  pub mutating : Mutating
  pub is : mutates_in h ≡ Some mutating
  pub heap : arc_value mutating.heap ≡ s
  pub mutator : mutating.mutator ≡ e

-- the world that rested runs, all mutators are out, and no actor has made a move
pub record HasStarted (h : Option End) (hs : List Handle) (h' : Option End) (hs' : List Handle) : Type 0 where
  pub world : Core
  pub was : rests_in h ≡ Some world
  pub collecting : Collecting
  pub is : collects_in h' ≡ Some collecting
  pub started : (arc_value collecting.heap).world ≡ world
  pub collector : collecting.collector ≡ fresh_collector (arc_value collecting.heap)
  pub home : collecting.home.items ≡ []
  pub out : (k : ℕ) (d : Handle) → k < world.config.mutators → IsOut (arc_value collecting.heap) (fresh (arc_value collecting.heap) (k + 1)) (held_at hs' k d)
  pub teller : tells_in h' ≡ tells_in h

-- this world runs with all its mutators at home, and no actor has made a move
pub record IsFresh (world : Core) (c : Collecting) : Type 0 where
  pub started : (arc_value c.heap).world ≡ world
  pub collector : c.collector ≡ fresh_collector (arc_value c.heap)
  pub all : length c.home.items ≡ world.config.mutators
  pub home : (k : ℕ) (e : MutatorView) → k < world.config.mutators → slice_index_or c.home.items k e ≡ fresh (arc_value c.heap) (k + 1)

-- a heap that isn't set running rests as before; or it runs, with its mutators at home
abbrev pub NotRun : Core → Code → End → Type 0
NotRun world codes.NoMemory end = end ≡ ends.Resting world None
NotRun world codes.Shared end = (c : Collecting) × (end ≡ ends.Collecting c None) × IsFresh world c
NotRun world _ end = ⊥

pub record StartsHome (h : Option End) (hs : List Handle) (h' : Option End) (hs' : List Handle) : Type 0 where
  pub world : Core
  pub was : rests_in h ≡ Some world
  pub collecting : Collecting
  pub is : collects_in h' ≡ Some collecting
  pub fresh : IsFresh world collecting
  pub mutators : hs' ≡ hs
  pub teller : tells_in h' ≡ tells_in h

abbrev pub Starts : Option End → List Handle → Code → Option End → List Handle → Type 0
Starts h hs codes.Ok h' hs' = HasStarted h hs h' hs'
Starts h hs codes.NoMemory h' hs' = Rests h × IsSame h hs h' hs'
Starts h hs codes.Shared h' hs' = StartsHome h hs h' hs'
Starts h hs code h' hs' = LacksRest h code × IsSame h hs h' hs'

-- these are the mutators of the running heap, in order of number: those that are home, or else those in the handles
pub record AreGathered (c : Collecting) (hs : List Handle) (ms : List MutatorView) : Type 0 where
  pub all : length ms ≡ c.count
  pub home : 0 < length c.home.items → ms ≡ c.home.items
  pub out : length c.home.items ≡ 0 → (k : ℕ) (d : Handle) (e : MutatorView) → k < c.count → IsOut (arc_value c.heap) (slice_index_or ms k e) (held_at hs k d)

-- the heap that ran rests, as the lists of all its actors left it
pub record HasStopped (h : Option End) (hs : List Handle) (h' : Option End) (hs' : List Handle) : Type 0 where
  pub collecting : Collecting
  pub was : collects_in h ≡ Some collecting
  pub mutators : List MutatorView
  pub gathered : AreGathered collecting hs mutators
  pub world : Core
  pub is : rests_in h' ≡ Some world
  pub stopped : IsStopped (arc_value collecting.heap).world collecting.collector.collecting.log (map (λ m. m.log) mutators) world
  pub requested : world.epoch ≡ (collector_now collecting.collector).epoch
  pub home : All (λ word. word % 2 ≡ 0) world.crossing
  pub teller : tells_in h' ≡ tells_in h

-- it still runs, with all its mutators home
pub record ComesHome (h : Option End) (hs : List Handle) (h' : Option End) (hs' : List Handle) : Type 0 where
  pub collecting : Collecting
  pub was : collects_in h ≡ Some collecting
  pub mutators : List MutatorView
  pub gathered : AreGathered collecting hs mutators
  pub collecting' : Collecting
  pub is : collects_in h' ≡ Some collecting'
  pub heap : arc_value collecting'.heap ≡ arc_value collecting.heap
  pub collector : collecting'.collector ≡ collecting.collector
  pub home : collecting'.home.items ≡ mutators
  pub teller : tells_in h' ≡ tells_in h

abbrev pub Stops : Option End → List Handle → Code → Option End → List Handle → Type 0
Stops h hs codes.Ok h' hs' = HasStopped h hs h' hs'
Stops h hs codes.Shared h' hs' = ComesHome h hs h' hs'
Stops h hs codes.Closed h' hs' = IsClosed h × IsSame h hs h' hs'
Stops h hs codes.Rests h' hs' = Rests h × IsSame h hs h' hs'
Stops h hs _ h' hs' = ⊥

-- A heap at rest has settled: just the slots that registers reach hold objects, with true counts.
pub record HasSettled (h h' : Option End) (told : Settled) : Type 0 where
  pub before : Core
  pub was : rests_in h ≡ Some before
  pub after : Core
  pub is : rests_in h' ≡ Some after
  pub config : after.config ≡ before.config
  pub done : whole.HasSettled before after (record { epochs = told.epochs; freed = told.freed; live = told.live })
  pub registers : (sight after).registers ≡ (sight before).registers
  pub stands : (heap : Heap) (number : ℕ → ℕ) → StandsBy heap (sight before) number → StandsBy heap (sight after) number
  pub made : after.made ≡ before.made
  pub teller : tells_in h' ≡ tells_in h

-- fewer than four epochs are left
pub record HasFewEpochs (h : Option End) : Type 0 where
  pub world : Core
  pub is : rests_in h ≡ Some world
  pub few : LAST_EPOCH < world.epoch + 4

abbrev pub Settles : Option End → Settled → Code → Option End → Settled → Type 0
Settles h told codes.Ok h' told' = HasSettled h h' told'
Settles h told codes.EpochsSpent h' told' = HasFewEpochs h × (h' ≡ h) × (told' ≡ told)
Settles h told code h' told' = LacksRest h code × (h' ≡ h) × (told' ≡ told)

-- A heap at rest began anew, with so many slots: what registers reached is as it was (`IsRenewed`), and who tells goes on.
pub record HasRenewed (slots : ℕ) (h h' : Option End) : Type 0 where
  pub before : Core
  pub was : rests_in h ≡ Some before
  pub after : Core
  pub is : rests_in h' ≡ Some after
  pub renewed : IsRenewed before slots after
  pub settled : IsSettled after
  pub teller : tells_in h' ≡ tells_in h

-- it didn't, with the cause
pub record HasNotRenewed (slots : ℕ) (h : Option End) (error : RenewError) : Type 0 where
  pub world : Core
  pub is : rests_in h ≡ Some world
  pub cause : IsUnrenewed world slots error

abbrev pub Renews : (slots : ℕ) → Option End → Code → Option End → Type 0
Renews slots h codes.Ok h' = HasRenewed slots h h'
Renews slots h codes.Slots h' = HasNotRenewed slots h renewals.Slots × (h' ≡ h)
Renews slots h codes.FewSlots h' = HasNotRenewed slots h renewals.FewSlots × (h' ≡ h)
Renews slots h codes.NoMemory h' = HasNotRenewed slots h renewals.NoMemory × (h' ≡ h)
Renews slots h code h' = LacksRest h code × (h' ≡ h)

-- The collector made its turns: as the first relation says where nobody is told, and else as the second.
pub record HasTurned (makes : CollectorView → CollectorView → Turn → Type 0) (tells : CollectorView → Tellers → CollectorView → Tellers → Telling → Type 0) (h h' : Option End) (told : Turned) : Type 0 where
  pub before : Collecting
  pub was : collects_in h ≡ Some before
  pub after : Collecting
  pub is : collects_in h' ≡ Some after
  pub made : HasMade makes tells before (tells_in h) told after (tells_in h')

abbrev TurnsBy : (CollectorView → CollectorView → Turn → Type 0) → (CollectorView → Tellers → CollectorView → Tellers → Telling → Type 0) → Option End → Turned → Code → Option End → Turned → Type 0
TurnsBy makes tells h told codes.Ok h' told' = HasTurned makes tells h h' told'
TurnsBy makes tells h told code h' told' = LacksEnd (IsSome (mutates_in h) ⊎ IsSome (hears_in h)) h code × (h' ≡ h) × (told' ≡ told)

-- one turn
abbrev pub TurnsIn : Option End → Turned → Code → Option End → Turned → Type 0
TurnsIn = TurnsBy MakesTurn TellsOne

-- turns until one comes to something else than that it moved or a label is held, and at most so many
abbrev pub CollectsIn : Option End → (most : ℕ) → Turned → Code → Option End → Turned → Type 0
CollectsIn h most told = TurnsBy (λ before after answer. MakesTurns before after most answer) (TellsMany most) h told

-- what stays of a mutator's handle
pub record KeepsMutator (before after : Mutating) : Type 0 where
  pub heap : arc_value after.heap ≡ arc_value before.heap
  pub is : after.mutator ≡ record before.mutator { log = after.mutator.log }

-- A command was carried out: the mutator's list grew by it and its steps, and what is told is the answer that the list makes up, each
-- refusal with its cause there. The mutator has left just where that was asked, and done.
pub record HasAsked (h : Option End) (cmd : Cmd) (h' : Option End) (told : Asked) : Type 0 where
  pub before : Mutating
  pub was : mutates_in h ≡ Some before
  pub valid : MayAsk (mutator_now before.mutator) cmd
  pub after : Mutating
  pub is : mutates_in h' ≡ Some after
  pub kept : KeepsMutator before after
  pub answer : Told
  pub grows : Works (works.Command cmd) before.mutator.log after.mutator.log
  pub answered : answer_of (mutator_now after.mutator) ≡ Some (makes.Answered answer)
  pub causes : IsAnswered (mutator_now before.mutator) cmd before.mutator.log after.mutator.log (mutator_now after.mutator) answer
  pub leaves : Leaves (mutator_now before.mutator) cmd answer (mutator_now after.mutator)
  pub line : Tells (mutator_now before.mutator) before.mutator.log after.mutator.log ((cmd, answer) ∷ [])
  pub told_so : told ≡ asked_of answer.answer

-- a mutator that hasn't left may not ask this: a register or the field isn't there
pub record LacksOperand (h : Option End) (asked : Option Cmd) : Type 0 where
  pub mutating : Mutating
  pub is : mutates_in h ≡ Some mutating
  pub present : (mutator_now mutating.mutator).left ≡ false
  pub lacks : (cmd : Cmd) → asked ≡ Some cmd → HasOperands (mutator_now mutating.mutator) cmd → ⊥

-- nor may one that has left ask anything
pub record HasLeft (h : Option End) : Type 0 where
  pub mutating : Mutating
  pub is : mutates_in h ≡ Some mutating
  pub left : (mutator_now mutating.mutator).left ≡ true

abbrev pub Asks : Option End → Option Cmd → Asked → Code → Option End → Asked → Type 0
Asks h asked told codes.Ok h' told' = (cmd : Cmd) × (asked ≡ Some cmd) × HasAsked h cmd h' told'
Asks h asked told codes.Range h' told' = LacksOperand h asked × (h' ≡ h) × (told' ≡ told)
Asks h asked told codes.Left h' told' = HasLeft h × (h' ≡ h) × (told' ≡ told)
Asks h asked told code h' told' = LacksEnd (Runs h ⊎ IsSome (hears_in h)) h code × (h' ≡ h) × (told' ≡ told)

-- A command was carried out in straight code, or nothing happened.
abbrev pub Tries : Option End → Option Cmd → Asked → Bool → Option End → Asked → Type 0
Tries h asked told true h' told' = Asks h asked told codes.Ok h' told'
Tries h asked told false h' told' = (h' ≡ h) × (told' ≡ told)

-- the handle has no mutator: it is closed, the heap rests, or it has another end
abbrev pub LacksMutator : Option End → Code → Type 0
LacksMutator h code = LacksEnd (Runs h ⊎ IsSome (hears_in h)) h code

-- A mutator polled: `crossed` is the epoch that it crossed into, or 0.
pub record HasPolled (h h' : Option End) (crossed : ℕ) : Type 0 where
  pub before : Mutating
  pub was : mutates_in h ≡ Some before
  pub after : Mutating
  pub is : mutates_in h' ≡ Some after
  pub kept : KeepsMutator before after
  pub epoch : Option ℕ
  pub grows : Works works.Poll before.mutator.log after.mutator.log
  pub answered : answer_of (mutator_now after.mutator) ≡ Some (makes.Crossed epoch)
  pub cause : IsPolled (mutator_now before.mutator) before.mutator.log after.mutator.log epoch
  pub left : (mutator_now after.mutator).left ≡ (mutator_now before.mutator).left
  pub line : Tells (mutator_now before.mutator) before.mutator.log after.mutator.log []
  pub told_so : crossed ≡ unwrap_or epoch 0

abbrev pub Polls : Option End → ℕ → Code → Option End → ℕ → Type 0
Polls h crossed codes.Ok h' crossed' = HasPolled h h' crossed'
Polls h crossed codes.Left h' crossed' = HasLeft h × (h' ≡ h) × (crossed' ≡ crossed)
Polls h crossed code h' crossed' = LacksEnd (Runs h ⊎ IsSome (hears_in h)) h code × (h' ≡ h) × (crossed' ≡ crossed)

-- a slot of a heap at rest was looked at
pub record HasLooked (h : Option End) (slot : ℕ) (told : Slot) : Type 0 where
  pub world : Core
  pub is : rests_in h ≡ Some world
  pub there : slot < world.config.slots
  pub told_so : told ≡ slot_told (label_of (slice_index_or world.headers slot 0)) (slot_at world.collector.counts slot).count

-- there is no such slot
pub record LacksSlot (h : Option End) (slot : ℕ) : Type 0 where
  pub world : Core
  pub is : rests_in h ≡ Some world
  pub lacks : world.config.slots ≤ slot

abbrev pub Looks : Option End → ℕ → Slot → Code → Slot → Type 0
Looks h slot told codes.Ok told' = HasLooked h slot told'
Looks h slot told codes.Range told' = LacksSlot h slot × (told' ≡ told)
Looks h slot told code told' = LacksRest h code × (told' ≡ told)

-- its totals as C reads them
abbrev pub totals_in : Core → Totals
totals_in w = record { born = w.made; freed = w.collector.freed; epoch = w.epoch; collections = w.collector.collections; cycles_freed = w.collector.sets.freed; cycles_refused_delta = w.collector.sets.delta; cycles_refused_sigma = w.collector.sets.sigma }

-- the totals of a heap at rest
pub record HasTotals (h : Option End) (told : Totals) : Type 0 where
  pub world : Core
  pub is : rests_in h ≡ Some world
  pub told_so : told ≡ totals_in world

abbrev pub Tallies : Option End → Totals → Code → Totals → Type 0
Tallies h told codes.Ok told' = HasTotals h told'
Tallies h told code told' = LacksRest h code × (told' ≡ told)

-- how many slots of a heap at rest hold objects
pub record HasCounted (h : Option End) (taken : ℕ) : Type 0 where
  pub world : Core
  pub is : rests_in h ≡ Some world
  pub told_so : taken ≡ taken_slots world

abbrev pub Counts : Option End → ℕ → Code → ℕ → Type 0
Counts h taken codes.Ok taken' = HasCounted h taken'
Counts h taken code taken' = LacksRest h code × (taken' ≡ taken)

-- What every heap with its collector keeps.
use Rattle.std.specs.Prelude.{◌≡◌, ◌⊎◌, ℕ, ◌+◌, ◌-◌, ◌*◌, ◌%◌, ◌^◌, ◌<◌, ◌≤◌, ◌==◌, nat_lt, if◌then◌else◌, Bool, true, false, Option, None, Some, List, [], All, length, slice_index_or}
use Rattle.std.specs.List.{sum_by}
use Rattle.rec_word.specs.Header.{is_leaf, IsTakenHeader}
use Rattle.rec_word.specs.Mailbox.{crossing_word}
use Rattle.rec_word.specs.declared.mailbox.Mailbox.{Mailbox}
use Rattle.rec_word.specs.declared.mailbox.Mailbox.TheVariants.{Retired, Spare, WithCollector, WithMutator}
use Rattle.rec_word.specs.Place.{place_of}
use Rattle.rec_model.specs.Accounted.{IsAccounted, HasUncountedReleased}
use Rattle.rec_model.specs.Pending.{epoch_of}
use Rattle.rec_model.specs.Reach.{named}
use Rattle.rec_model.specs.Sight.{IsSound}
use Rattle.rec_log.specs.declared.contents.Contents.{Contents}
use Rattle.rec_log.specs.declared.entry.Entry.{Entry}
use Rattle.rec_log.specs.declared.entry.Entry.TheVariants as entries
use Rattle.rec_counts.specs.Colour.{is_green}
use Rattle.rec_counts.specs.Counts.{State, slot_at}
use Rattle.rec_counts.specs.Lists.{times}
use Rattle.rec_release.specs.declared.at.At.{At}
use Rattle.rec_word.specs.declared.member.Member.{Member}
use Rattle.rec_mutator.specs.Causes.{gives_back}
use Rattle.rec_mutator.specs.Private.{Private, IsMachine, is_busy, slot_behind}
use Rattle.rec_mutator.specs.Took.{IsBetween, is_uncollected_in}
use Rattle.rec_mutator.specs.declared.phase.Phase as phases
use Rattle.rec_mutator.specs.declared.phase.Phase.TheVariants as at
use Rattle.rec_collector.specs.Present.{has_left}
use Rattle.rec_collector.specs.Private as collectors
use Rattle.rec_collector.specs.Kept as collector_kept
use Rattle.rec_collector.specs.Step as collector_step
use Rattle.rec_collector.specs.declared.phase.Phase.{Phase}
use Rattle.rec_collector.specs.declared.phase.Phase.TheVariants.{Looking, Swapping, Returning, Releasing, Freeing, Sweeping, Closing}
use Rattle.rec_core.specs.Bare.{Behind}
use Rattle.rec_core.specs.Config.{IsConfig, IsMutator, HasLabel}
use Rattle.rec_core.specs.Core.{Core, mutator, sight, spare_of, nobody}
use Rattle.rec_core.specs.CyclesAt.{HasCyclesAt}
use Rattle.rec_core.specs.Pending.{epoch_at, has_let_go, is_parting, older_at, pending}
use Rattle.rec_core.specs.declared.config.Config.{Config}

-- a mutator whose mailbox is there, and that is neither crossing nor about to; it leaves only where no log of its own is to be collected
abbrev pub IsSettledIn : Mailbox → phases.Phase → Type 0
IsSettledIn mailbox at.Crossing = ⊥
IsSettledIn mailbox at.Swapping = ⊥
IsSettledIn mailbox at.Giving = ⊥
IsSettledIn mailbox at.Leaving = is_uncollected_in mailbox ≡ false
IsSettledIn mailbox at.Retiring = ⊥
IsSettledIn mailbox at.Parting = ⊥
IsSettledIn mailbox _ = Unit {0}

-- the label of an allocation that goes on fits a header
abbrev pub HasLabelAt : phases.Phase → Type 0
HasLabelAt (at.Begun work) = HasLabel work
HasLabelAt (at.Scanning reg label leaf before probed) = label < 2 ^ 32
HasLabelAt _ = Unit {0}

-- what is known of a mutator of a heap with these numbers, whose words are dated or not
pub record IsOwn (dated : Bool) (config : Config) (t : ℕ) (p : Private) : Type 0 where
  pub number : p.number ≡ t
  pub slots : p.slots ≡ config.slots
  pub fields : p.fields ≡ config.fields
  pub registers : length p.registers ≡ config.registers
  pub capacity : p.log.capacity ≡ config.log_entries
  pub machine : IsMachine p
  pub between : IsBetween p.phase
  pub label : HasLabelAt p.phase
  -- one that has left does nothing
  pub idle : p.left ≡ true → is_busy p ≡ false
  -- nobody is parked: no heap carries that out yet
  pub awake : p.parked ≡ false
  -- whether it dates the words that it puts
  pub dates : p.dates ≡ dated

-- said of heaps whose words are dated alone
abbrev OfDated : (dated : Bool) → Type 0 → Type 0
OfDated true P = P
OfDated false P = Unit {0}

-- A write was made in this epoch. A birth bears no stamp.
abbrev pub IsMadeIn : (epoch : ℕ) → Entry → Type 0
IsMadeIn epoch (entries.Put place new old) = epoch_of new ≡ epoch
IsMadeIn epoch (entries.Born slot leaf) = Unit {0}

-- a buffer of this heap: of its size, within its capacity, with the entries of one epoch where words are dated
pub record IsBufferOf (dated : Bool) (config : Config) (epoch : ℕ) (b : Contents) : Type 0 where
  pub snapshot : length b.snapshot ≡ config.registers
  pub capacity : b.capacity ≡ config.log_entries
  pub few : length b.entries ≤ b.capacity
  pub made : OfDated dated (All (IsMadeIn epoch) b.entries)

-- the mutator of this number is past its turn in a gathering, its mailbox is held, its turn is still to come, or it has left and its
-- last buffer was gathered
pub data Handshake : Type 0 where
  Done : Handshake
  Held : Handshake
  Due : Handshake
  Gone : Handshake

-- where a mutator that is gathered from stands in the gathering of this collection; nobody's turn is to come where none is under way
abbrev pub stand_in : Phase → (t : ℕ) → Handshake
stand_in (Looking u) t = if nat_lt t u then Handshake.Done else Handshake.Due
stand_in (Swapping u) t = if nat_lt t u then Handshake.Done else (if t == u then Handshake.Held else Handshake.Due)
stand_in (Returning u) t = if nat_lt t u then Handshake.Done else (if t == u then Handshake.Held else Handshake.Due)
stand_in _ t = Handshake.Done

-- where a mutator stands, by whether the collector knows that it has left
abbrev pub stand_at : (left : List Bool) → Phase → (t : ℕ) → Handshake
stand_at left phase t = if has_left left t then Handshake.Gone else stand_in phase t

-- the mutator is in the requested epoch, and its mailbox is there
pub record HasCrossed (requested : ℕ) (p : Private) (crossing : ℕ) (mailbox : Mailbox) : Type 0 where
  pub epoch : p.epoch ≡ requested
  pub word : crossing ≡ crossing_word requested mailbox
  pub settled : IsSettledIn mailbox p.phase

-- the mutator is in the epoch before the requested one, and its mailbox is home with a spare
pub record IsBehind (config : Config) (requested : ℕ) (p : Private) (crossing : ℕ) (box : Contents) : Type 0 where
  pub epoch : p.epoch + 1 ≡ requested
  pub word : crossing ≡ crossing_word p.epoch Spare
  pub here : gives_back p.phase ≡ false
  pub stays : p.left ≡ false
  pub spare : box ≡ spare_of config

-- the mutator holds its mailbox: it is crossing into this epoch, or leaving the one before
pub record IsCrossing (config : Config) (into : ℕ) (p : Private) (crossing : ℕ) (box : Contents) : Type 0 where
  pub epoch : p.epoch + 1 ≡ into
  pub phase : gives_back p.phase ≡ true
  pub word : crossing ≡ crossing_word into WithMutator
  pub spare : p.log ≡ spare_of config
  -- the buffer that it retired is marked where it leaves
  pub last : box.last ≡ is_parting p.phase

-- the mutator has left into this epoch, and its last buffer is in its mailbox
pub record HasRetired (into : ℕ) (p : Private) (crossing : ℕ) (box : Contents) : Type 0 where
  pub left : p.left ≡ true
  pub epoch : p.epoch ≡ into
  pub word : crossing ≡ crossing_word into Retired
  pub last : box.last ≡ true

-- the mutator leaves the requested epoch, or has left it, before the next one is requested
abbrev pub IsAhead : Config → (requested : ℕ) → Private → (crossing : ℕ) → (box : Contents) → Type 0
IsAhead config requested p crossing box = (IsCrossing config (requested + 1) p crossing box × (p.phase ≡ at.Parting)) ⊎ HasRetired (requested + 1) p crossing box

-- the mutator has left, and its mailbox is home with a spare
pub record HasGone (config : Config) (requested : ℕ) (p : Private) (crossing : ℕ) (box : Contents) : Type 0 where
  pub left : p.left ≡ true
  pub past : p.epoch ≤ requested
  pub word : crossing ≡ crossing_word p.epoch Spare
  pub spare : box ≡ spare_of config

-- How a mutator and the collector stand to each other: the mutator's epoch, its crossing word and what its mailbox holds.
abbrev pub IsHandshake : Config → (requested : ℕ) → Private → (crossing : ℕ) → (box : Contents) → Handshake → Type 0
IsHandshake config requested p crossing box Handshake.Done = (HasCrossed requested p crossing Spare × (p.left ≡ false) × (box ≡ spare_of config)) ⊎ IsAhead config requested p crossing box
IsHandshake config requested p crossing box Handshake.Held = HasCrossed requested p crossing WithCollector × (box ≡ spare_of config)
IsHandshake config requested p crossing box Handshake.Due =
    IsBehind config requested p crossing box ⊎ (IsCrossing config requested p crossing box ⊎ (HasCrossed requested p crossing Retired × (box.last ≡ p.left)))
IsHandshake config requested p crossing box Handshake.Gone = HasGone config requested p crossing box

-- a mutator that has let go: no register names anything, and its log is a spare
pub record LetGo (config : Config) (p : Private) : Type 0 where
  pub registers : named p.registers ≡ []
  pub log : p.log ≡ spare_of config

-- What is known of a mutator that stands so, of its crossing word and of its mailbox, at this epoch.
pub record IsActor (dated : Bool) (config : Config) (requested : ℕ) (stand : Handshake) (t : ℕ) (p : Private) (crossing : ℕ) (box : Contents) : Type 0 where
  pub own : IsOwn dated config t p
  pub log : IsBufferOf dated config (epoch_at p) p.log
  -- its snapshot and its mark are written as it is retired
  pub unwritten : named p.log.snapshot ≡ []
  pub unmarked : p.log.last ≡ false
  pub let_go : has_let_go p ≡ true → LetGo config p
  pub mailbox : IsBufferOf dated config (epoch_at p - 1) box
  pub handshake : IsHandshake config requested p crossing box stand

-- what is known of all mutators, each of which stands so
pub record HasMutators (dated : Bool) (config : Config) (requested : ℕ) (stands : (t : ℕ) → Handshake) (mutators : List Private) (crossing : List ℕ) (boxes : List Contents) : Type 0 where
  pub many : length mutators ≡ config.mutators
  pub words : length crossing ≡ config.mutators
  pub mailboxes : length boxes ≡ config.mutators
  pub each : (t : ℕ) → IsMutator config t → IsActor dated config requested (stands t) t (slice_index_or mutators (t - 1) nobody) (slice_index_or crossing (t - 1) 0) (slice_index_or boxes (t - 1) (collectors.blank 0 0))

-- a field of this slot that is still to be emptied by the release at work
abbrev pub IsLeft : Option At → (slot f : ℕ) → Type 0
IsLeft None slot f = ⊥
IsLeft (Some a) slot f = (slot ≡ a.slot) × (a.field ≤ f)

-- a field of a member that is still to be emptied by the freeing of a set: of the member at work, or of one behind it
abbrev pub IsLeftOf : (members : List ℕ) → Option Member → (slot f : ℕ) → Type 0
IsLeftOf members None slot f = ⊥
IsLeftOf members (Some a) slot f = (index : ℕ) × (a.index ≤ index) × (index < length members) × (slot ≡ slice_index_or members index 0) × (index ≡ a.index → a.field ≤ f)

-- the fields that are due, of a slot that is released and of a member of the set that is freed
abbrev pub release_due : Phase → Option At
release_due (Releasing release) = release.at
release_due _ = None

abbrev pub freeing_due : Phase → Option Member
freeing_due (Freeing freeing) = freeing.at
freeing_due _ = None

-- what is known of the collector: its machine is one, of the sizes of this heap; its buffers are of the last two epochs; its free
-- list has released slots, and the fields of released slots are emptied, but for those that are still to be
pub record HasCollector (dated : Bool) (config : Config) (requested : ℕ) (words : List ℕ) (c : collectors.Private) : Type 0 where
  pub machine : collector_kept.IsMachine c
  pub between : collector_step.IsBetween c.phase
  pub slots : length c.counts.slots ≡ config.slots
  pub fields : c.fields ≡ config.fields
  pub registers : c.registers ≡ config.registers
  pub capacity : c.capacity ≡ config.log_entries
  pub policy : c.policy ≡ config.policy
  pub mutators : length c.newer ≡ config.mutators
  pub epoch : c.epoch ≡ requested
  pub begun : config.first_epoch + c.collections + collector_kept.under_way c.phase ≡ requested
  pub newer : (t : ℕ) → IsMutator config t → IsBufferOf dated config (requested - 1) (collectors.buffer_at c.newer (t - 1))
  pub older : (t : ℕ) → IsMutator config t → IsBufferOf dated config (older_at requested c.phase) (collectors.buffer_at c.older (t - 1))
  pub listed : (x : ℕ) → 0 < times x c.counts.free → (slot_at c.counts x).released ≡ true
  pub emptied : (x f : ℕ) → x < config.slots → f < config.fields → (slot_at c.counts x).released ≡ true → IsLeft (release_due c.phase) x f ⊎ (IsLeftOf c.counts.work (freeing_due c.phase) x f ⊎ (slice_index_or words (place_of x f config.fields) 0 ≡ 0))

-- a sweep runs
abbrev is_sweeping : Phase → Bool
is_sweeping (Sweeping due swept) = true
is_sweeping (Closing swept) = true
is_sweeping _ = false

abbrev pub one_if_sweeping : Phase → ℕ
one_if_sweeping phase = if is_sweeping phase then 1 else 0

-- a sweep that is to end has freed a slot
abbrev pub IsSomeSwept : Phase → Type 0
IsSomeSwept (Closing swept) = 0 < swept
IsSomeSwept _ = Unit {0}

-- what is known of the freed word: it is odd exactly during a sweep, and rises by two at most in a collection; and a
-- sweep that is to end has freed a slot
pub record HasSweeps (freed : ℕ) (collections : ℕ) (phase : Phase) : Type 0 where
  pub odd : freed % 2 ≡ one_if_sweeping phase
  pub few : freed ≤ 2 * collections + one_if_sweeping phase
  pub some : IsSomeSwept phase

-- What a scan knows that began with slot `from` and has made so many probes: unless a sweep has begun or ended since it began, each slot
-- that it has probed is taken still.
abbrev pub HasPassed : (slots : ℕ) → (headers : List ℕ) → (freed from before probed : ℕ) → Type 0
HasPassed slots headers freed from before probed = (before ≤ freed) × (before ≡ freed → before % 2 ≡ 0 → (count : ℕ) → count < probed → 0 < slice_index_or headers (slot_behind slots from count) 0)

-- what is known of a work, by phase: of an allocation, which slots its scan has found taken; of a write that goes on, that its object is no leaf
abbrev pub HasLearnt : (slots : ℕ) → (headers : List ℕ) → (freed from : ℕ) → phases.Phase → Type 0
HasLearnt slots headers freed from (at.Scanning reg label leaf before probed) = HasPassed slots headers freed from before probed
HasLearnt slots headers freed from (at.Scanned reg label leaf before) = HasPassed slots headers freed from before slots
HasLearnt slots headers freed from (at.Storing src f val slot) = is_leaf (slice_index_or headers slot 0) ≡ false
HasLearnt slots headers freed from _ = Unit {0}

-- what is known of the works of all mutators
abbrev pub HaveLearnt : Config → (headers : List ℕ) → (freed : ℕ) → (mutators : List Private) → Type 0
HaveLearnt config headers freed mutators = (t : ℕ) → IsMutator config t → HasLearnt config.slots headers freed (slice_index_or mutators (t - 1) nobody).from (slice_index_or mutators (t - 1) nobody).phase

-- the entries that a mutator has made at most since the opening: a full log for each epoch that it left, and those of its log
abbrev pub entries_made : Config → Private → ℕ
entries_made config p = (epoch_at p - config.first_epoch) * config.log_entries + length p.log.entries

-- a header is 0, or that of a taken slot
abbrev pub IsHeader : (header : ℕ) → Type 0
IsHeader header = 0 < header → IsTakenHeader header

-- each Green slot has a leaf
abbrev pub HasGreens : (headers : List ℕ) → State → Type 0
HasGreens headers s = (x : ℕ) → is_green (slot_at s x).colour ≡ true → is_leaf (slice_index_or headers x 0) ≡ true

-- What every heap with its collector keeps, where its mutators stand so. Of epochs of words, and so of what is counted late, it speaks
-- only where words are dated.
pub record IsKeptBy (dated : Bool) (stands : (t : ℕ) → Handshake) (w : Core) : Type 0 where
  pub config : IsConfig w.config
  pub headers : length w.headers ≡ w.config.slots
  pub labels : All IsHeader w.headers
  pub mutators : HasMutators dated w.config w.epoch stands w.mutators w.crossing w.boxes
  pub collector : HasCollector dated w.config w.epoch w.words w.collector
  pub sweeps : HasSweeps w.freed w.collector.collections w.collector.phase
  pub learnt : HaveLearnt w.config w.headers w.freed w.mutators
  pub made : w.made ≤ w.config.slots + sum_by (entries_made w.config) w.mutators
  pub sound : IsSound (sight w)
  pub greens : HasGreens w.headers w.collector.counts
  pub accounted : OfDated dated (IsAccounted (pending w))
  -- what was given up has no count, but while a set is freed
  pub uncounted : OfDated dated (freeing_due w.collector.phase ≡ None → HasUncountedReleased (pending w))
  pub cycles : OfDated dated (HasCyclesAt (pending w) w.collector w.collector.phase)

-- While a mailbox is held, the collector doesn't know yet whether its mutator has left, and the buffer that it took from there is marked
-- just where it has.
abbrev pub IsHeldAt : Core → Phase → Type 0
IsHeldAt w (Returning t) = (has_left w.collector.left t ≡ false) × ((collectors.buffer_at w.collector.newer (t - 1)).last ≡ (mutator w t).left)
IsHeldAt w _ = Unit {0}

-- what a heap of dated words keeps
pub record IsDated (w : Core) : Type 0 where
  pub dated_whole : IsKeptBy true (stand_at w.collector.left w.collector.phase) w
  pub dated_held : IsHeldAt w w.collector.phase

-- behind a heap of bare words stands one of dated words that keeps all of this
abbrev HasBehind : (dated : Bool) → Core → Type 0
HasBehind true w = Unit {0}
HasBehind false w = Behind w IsDated

-- What every heap with its collector keeps: a heap of dated words, which the laws of counting late are said of, or one of bare words.
pub record IsKept (dated : Bool) (w : Core) : Type 0 where
  pub whole : IsKeptBy dated (stand_at w.collector.left w.collector.phase) w
  pub open whole use *
  pub held : IsHeldAt w w.collector.phase
  pub behind : HasBehind dated w

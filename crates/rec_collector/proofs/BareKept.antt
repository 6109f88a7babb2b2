-- What every machine keeps, the collector of a heap of bare words keeps too.
use Rattle.std.proofs.Common.{◌≡◌, ℕ, ◌+◌, ◌*◌, ◌^◌, ◌<◌, ◌≤◌, length, sym, ap, subst, ◌∙◌, List}
use Rattle.std.proofs.lemmas.List.{length-map}
use Rattle.rec_word.specs.Bare.{bare}
use Rattle.rec_log.specs.Words.{buffer_by}
use Rattle.rec_log.specs.declared.contents.Contents.{Contents}
use Rattle.rec_collector.specs.Bare.{bare_buffers, bare_private}
use Rattle.rec_collector.specs.Given.{IsSized}
use Rattle.rec_collector.specs.Kept.{AreRows, AreSized, AreSpare, IsAt, IsGathering, IsLooking, IsMachine, IsSweeping, IsTesting, IsTold}
use Rattle.rec_collector.specs.Private.{Private}
use Rattle.rec_collector.specs.declared.phase.Phase.{Phase}
use Rattle.rec_collector.specs.declared.phase.Phase.TheVariants.{Idle, Looking, Swapping, Returning, Releasing, Freeing, Trying, Preparing, Opening, Sweeping, Closing}
use Rattle.rec_collector.proofs.Bare.{buffer_bare}

-- there are as many buffers
pub rows_many : (bs : List Contents) → length (bare_buffers bs) ≡ length bs
rows_many bs = length-map bs (buffer_by bare)

-- of the same size
sized_bare : (registers capacity : ℕ) (bs : List Contents) → AreSized registers capacity bs → AreSized registers capacity (bare_buffers bs)
sized_bare registers capacity bs are = λ place there.
    subst (IsSized registers capacity) (sym (buffer_bare bs place)) (are place (subst (λ n. place < n) (rows_many bs) there))

rows_bare : (registers capacity : ℕ) (news olds : List Contents) → AreRows registers capacity news olds → AreRows registers capacity (bare_buffers news) (bare_buffers olds)
rows_bare registers capacity news olds r = record {
  mutators = subst (λ n. 0 < n) (sym (rows_many news)) r.mutators;
  few = subst (λ n. n < 2 ^ 8) (sym (rows_many news)) r.few;
  both = rows_many olds ∙ (r.both ∙ sym (rows_many news));
  newer = sized_bare registers capacity news r.newer;
  older = sized_bare registers capacity olds r.older;
}

-- a spare is one still
spare_bare : (p : Private) (from : ℕ) → AreSpare p from → AreSpare (bare_private p) from
spare_bare p from are = λ place past there.
    buffer_bare p.newer place ∙ ap (buffer_by bare) (are place past (subst (λ n. place < n) (rows_many p.newer) there))

-- the sets that were told
told_bare : (p : Private) (phase : Phase) → IsTold p phase → IsTold (bare_private p) phase
told_bare p Idle is = is
told_bare p (Looking t) is = is
told_bare p (Swapping t) is = is
told_bare p (Returning t) is = is
told_bare p (Releasing m) is = is
told_bare p (Freeing m) is = is
told_bare p (Trying m) is = is
told_bare p (Preparing m) is = is
told_bare p Opening is = is
told_bare p (Sweeping due swept) is = is
told_bare p (Closing swept) is = is

-- what holds in each phase
gathering_bare : (p : Private) (t given made : ℕ) → IsGathering p t given made → IsGathering (bare_private p) t given made
gathering_bare p t given made g = record { rest = g.rest; first = g.first; there = subst (λ n. t ≤ n) (sym (rows_many p.newer)) g.there; spares = spare_bare p given g.spares; turns = g.turns }

looking_bare : (p : Private) (t made : ℕ) → IsLooking p t made → IsLooking (bare_private p) t made
looking_bare p t made l = record { gathering = gathering_bare p t _ made l.gathering; present = l.present }

testing_bare : (p : Private) (phase : Phase) → IsTesting p phase → IsTesting (bare_private p) phase
testing_bare p phase t = record { clearing = t.clearing; exchanged = t.exchanged; exchanges = t.exchanges; turns = subst (λ n. p.turns ≤ 1 + 2 * n + t.exchanged) (sym (rows_many p.newer)) t.turns }

sweeping_bare : (p : Private) (swept made : ℕ) → IsSweeping p swept made → IsSweeping (bare_private p) swept made
sweeping_bare p swept made s =
    let all : ℕ = length p.counts.slots * p.fields in
    record { before = s.before; left = s.left; turns = subst (λ n. p.turns ≤ 2 + 2 * n + 5 * all + made) (sym (rows_many p.newer)) s.turns }

at_bare : (p : Private) (phase : Phase) → IsAt p phase → IsAt (bare_private p) phase
at_bare p Idle is = (is.0, spare_bare p 0 is.1, is.2)
at_bare p (Looking t) is = looking_bare p t _ is
at_bare p (Swapping t) is = looking_bare p t _ is
at_bare p (Returning t) is = gathering_bare p t t _ is
at_bare p (Releasing m) is = testing_bare p (Releasing m) is
at_bare p (Freeing m) is = testing_bare p (Freeing m) is
at_bare p (Trying m) is =
    let all : ℕ = length p.counts.slots * p.fields in
    record { fields = is.fields; on_trial = is.on_trial; busy = is.busy; turns = subst (λ n. p.turns ≤ 1 + 2 * n + all + length is.kept.words) (sym (rows_many p.newer)) is.turns }
at_bare p (Preparing m) is =
    let all : ℕ = length p.counts.slots * p.fields in
    record { fields = is.fields; preparation = is.preparation; busy = is.busy; turns = subst (λ n. p.turns ≤ 2 + 2 * n + 4 * all + length is.loads) (sym (rows_many p.newer)) is.turns }
at_bare p Opening is = (sweeping_bare p 0 0 is.0, is.1)
at_bare p (Sweeping due swept) is = (sweeping_bare p swept _ is.0, is.1, is.2)
at_bare p (Closing swept) is = (sweeping_bare p swept _ is.0, is.1)

pub machine_bare : (p : Private) → IsMachine p → IsMachine (bare_private p)
machine_bare p m = record {
  epoch = m.epoch;
  collections = m.collections;
  freed = m.freed;
  some_fields = m.some_fields;
  few_fields = m.few_fields;
  rows = rows_bare p.registers p.capacity p.newer p.older m.rows;
  left = m.left ∙ sym (rows_many p.newer);
  counts = m.counts;
  told = told_bare p p.phase m.told;
  postponed = m.postponed;
  now = at_bare p p.phase m.now;
}

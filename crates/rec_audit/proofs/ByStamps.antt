-- A heap whose words are dated by their stamps has to account for the same as the heap of dated words behind it.
use Rattle.std.proofs.Common.{◌≡◌, ℕ, ◌+◌, ◌-◌, ◌*◌, ◌/◌, ◌%◌, ◌^◌, ◌==◌, ◌||◌, if◌then◌else◌, true, suc, List, [], ◌∷◌, ◌++◌, flat_map, map, slice_index_or, refl, sym, ap, ◌∙◌, arith}
use Rattle.std.specs.List.{sum_by, zip}
use Rattle.std.proofs.lemmas.List.Sums.{sum_by-cons}
use Rattle.rec_core.proofs.Common.{Contents, Core, Entry, Filed, Private, births_in, buffers, dated_all, dated_names, dated_registers, epoch_at, epoch_of, filed, filed_box, has_let_go, is_parting, older_at, pending, stamp_of, writes_in}
use Rattle.rec_word.specs.Bare.{bare, dated_word}
use Rattle.rec_word.specs.declared.stamps.Stamp.{Stamp}
use Rattle.rec_log.specs.Words.{buffer_by, entry_by}
use Rattle.rec_log.specs.declared.entry.Entry.TheVariants as entries
use Rattle.rec_mutator.specs.Bare as mutators
use Rattle.rec_mutator.specs.Causes.{gives_back}
use Rattle.rec_mutator.proofs.BareKept.{said_bare}
use Rattle.rec_core.specs.Bare.{bare_core}
use Rattle.rec_audit.specs.ByStamps.{by_stamp, by_stamps, mutator_by_stamps, stamp_epoch}
use Rattle.rec_audit.proofs.Lasting.{wrote, wrote_in_box, writes_sum}
use Rattle.rec_audit.proofs.StampDates.{AreDatedSo, IsDatedSo, misdated, misdates, none_dated}

-- ---- words and buffers

pub bare_stamp : (word : ℕ) → stamp_of (bare word) ≡ stamp_of word
bare_stamp word = λ i. record { writer = writer i; epoch = its_epoch i; index = index i }
  where
    writer : (word % 2 ^ 64 / 2 ^ 40) % 2 ^ 6 ≡ (word / 2 ^ 40) % 2 ^ 6
    writer = omega arith

    its_epoch : (word % 2 ^ 64 / 2 ^ 16) % 2 ^ 24 ≡ (word / 2 ^ 16) % 2 ^ 24
    its_epoch = omega arith

    index : (word % 2 ^ 64 / 2 ^ 46) % 2 ^ 18 ≡ (word / 2 ^ 46) % 2 ^ 18
    index = omega arith

-- the bare word with its date is the dated one
pub dated_again : (word : ℕ) → IsDatedSo word → by_stamp (bare word) ≡ word
unfolding epoch_of
dated_again word same =
    let told : stamp_epoch (bare word) ≡ stamp_epoch word = ap (λ (s : Stamp). if s.writer == 0 then 0 else s.epoch) (bare_stamp word) in
    let date : stamp_epoch (bare word) ≡ word / 2 ^ 64 = told ∙ sym same in
    ap (λ n. dated_word true n (bare word)) date ∙ whole word
  where
    whole : (word : ℕ) → 2 ^ 64 * (word / 2 ^ 64) + word % 2 ^ 64 ≡ word
    whole word = omega arith

words_again : (words : List ℕ) → ((place : ℕ) → IsDatedSo (slice_index_or words place 0)) → map by_stamp (map bare words) ≡ words
words_again [] all = refl
words_again (word ∷ words) all =
    let first : by_stamp (bare word) ≡ word = dated_again word (all 0) in
    let rest : map by_stamp (map bare words) ≡ words = words_again words (λ place. all (suc place)) in
    (λ i. first i ∷ rest i)

entries_again : (es : List Entry) → sum_by misdates (writes_in es) ≡ 0 → map (entry_by by_stamp) (map (entry_by bare) es) ≡ es
entries_again [] none = refl
entries_again (entries.Put place new old ∷ es) none =
    let parts : misdated new + misdated old + sum_by misdates (writes_in es) ≡ 0 = sym (sum_by-cons misdates (record { place = place; new = new; old = old }) (writes_in es)) ∙ none in
    let its_new : by_stamp (bare new) ≡ new = dated_again new (none_dated new (omega (arith, parts))) in
    let its_old : by_stamp (bare old) ≡ old = dated_again old (none_dated old (omega (arith, parts))) in
    let rest : map (entry_by by_stamp) (map (entry_by bare) es) ≡ es = entries_again es (omega (arith, parts)) in
    (λ i. entries.Put place (its_new i) (its_old i) ∷ rest i)
entries_again (entries.Born slot leaf ∷ es) none = ap (λ (rest : List Entry). entries.Born slot leaf ∷ rest) (entries_again es none)

buffer_again : (b : Contents) → wrote misdates b ≡ 0 → buffer_by by_stamp (buffer_by bare b) ≡ b
buffer_again b none = ap (λ (es : List Entry). record b { entries = es }) (entries_again b.entries none)

row_again : (epoch : ℕ) (bs : List Contents) → sum_by (wrote misdates) bs ≡ 0 → map (filed epoch) (map (buffer_by by_stamp) (map (buffer_by bare) bs)) ≡ map (filed epoch) bs
row_again epoch [] none = refl
row_again epoch (b ∷ bs) none =
    let parts : wrote misdates b + sum_by (wrote misdates) bs ≡ 0 = sym (sum_by-cons (wrote misdates) b bs) ∙ none in
    let first : buffer_by by_stamp (buffer_by bare b) ≡ b = buffer_again b (omega (arith, parts)) in
    let rest : map (filed epoch) (map (buffer_by by_stamp) (map (buffer_by bare) bs)) ≡ map (filed epoch) bs = row_again epoch bs (omega (arith, parts)) in
    (λ i. filed epoch (first i) ∷ rest i)

-- ---- mutators

abbrev again : Private → Private
again p = mutator_by_stamps (mutators.bare_private p)

epoch_again : (p : Private) → epoch_at (again p) ≡ epoch_at p
epoch_again p = ap (λ b. if b then p.epoch + 1 else p.epoch) (said_bare gives_back (λ work made. refl) p.phase)

gone_again : (p : Private) → has_let_go (again p) ≡ has_let_go p
gone_again p = ap (λ b. b || p.left) (said_bare is_parting (λ work made. refl) p.phase)

registers_again : (ps : List Private) → flat_map dated_registers (map mutator_by_stamps (map mutators.bare_private ps)) ≡ flat_map dated_registers ps
registers_again [] = refl
registers_again (p ∷ ps) =
    let first : dated_registers (again p) ≡ dated_registers p = own p in
    let rest : flat_map dated_registers (map mutator_by_stamps (map mutators.bare_private ps)) ≡ flat_map dated_registers ps = registers_again ps in
    (λ i. first i ++ rest i)
  where
    own : (p : Private) → dated_registers (again p) ≡ dated_registers p
    own p = let gone = gone_again p in let epoch = epoch_again p in (λ i. if gone i then [] else dated_all (epoch i) p.registers)

abbrev filed_log : Private → Filed
filed_log p = filed (epoch_at p) p.log

logs_again : (ps : List Private) → sum_by (λ (p : Private). wrote misdates p.log) ps ≡ 0 → map filed_log (map mutator_by_stamps (map mutators.bare_private ps)) ≡ map filed_log ps
logs_again [] none = refl
logs_again (p ∷ ps) none =
    let parts : wrote misdates p.log + sum_by (λ (p : Private). wrote misdates p.log) ps ≡ 0 = sym (sum_by-cons (λ (p : Private). wrote misdates p.log) p ps) ∙ none in
    let epoch : epoch_at (again p) ≡ epoch_at p = epoch_again p in
    let log : buffer_by by_stamp (buffer_by bare p.log) ≡ p.log = buffer_again p.log (omega (arith, parts)) in
    let rest : map filed_log (map mutator_by_stamps (map mutators.bare_private ps)) ≡ map filed_log ps = logs_again ps (omega (arith, parts)) in
    (λ i. filed (epoch i) (log i) ∷ rest i)

boxes_again : (ps : List Private) (bs : List Contents) → sum_by (wrote_in_box misdates) (zip ps bs) ≡ 0
    → map filed_box (zip (map mutator_by_stamps (map mutators.bare_private ps)) (map (buffer_by by_stamp) (map (buffer_by bare) bs))) ≡ map filed_box (zip ps bs)
boxes_again [] bs none = refl
boxes_again (p ∷ ps) [] none = refl
boxes_again (p ∷ ps) (b ∷ bs) none =
    let parts : wrote misdates b + sum_by (wrote_in_box misdates) (zip ps bs) ≡ 0 = sym (sum_by-cons (wrote_in_box misdates) (p, b) (zip ps bs)) ∙ none in
    let epoch : epoch_at (again p) ≡ epoch_at p = epoch_again p in
    let log : buffer_by by_stamp (buffer_by bare b) ≡ b = buffer_again b (omega (arith, parts)) in
    let rest = boxes_again ps bs (omega (arith, parts)) in
    (λ i. filed (epoch i - 1) (log i) ∷ rest i)

-- ---- the accounts

buffers_again : (v : Core) → sum_by misdates (pending v).writes ≡ 0 → buffers (by_stamps (bare_core v)) ≡ buffers v
buffers_again v none =
    let parts = writes_sum misdates v in
    let logs : map filed_log (by_stamps (bare_core v)).mutators ≡ map filed_log v.mutators = logs_again v.mutators (omega (arith, parts, none)) in
    let boxes : map filed_box (zip (by_stamps (bare_core v)).mutators (by_stamps (bare_core v)).boxes) ≡ map filed_box (zip v.mutators v.boxes) = boxes_again v.mutators v.boxes (omega (arith, parts, none)) in
    let newer : map (filed (v.epoch - 1)) (by_stamps (bare_core v)).collector.newer ≡ map (filed (v.epoch - 1)) v.collector.newer = row_again (v.epoch - 1) v.collector.newer (omega (arith, parts, none)) in
    let older : map (filed (older_at v.epoch v.collector.phase)) (by_stamps (bare_core v)).collector.older ≡ map (filed (older_at v.epoch v.collector.phase)) v.collector.older = row_again (older_at v.epoch v.collector.phase) v.collector.older (omega (arith, parts, none)) in
    (λ i. logs i ++ (boxes i ++ (newer i ++ older i)))

pub pending_again : (v : Core) → AreDatedSo v → pending v ≡ pending (by_stamps (bare_core v))
pending_again v all =
    let words : v.words ≡ map by_stamp (map bare v.words) = sym (words_again v.words all.words) in
    let filed_in : buffers v ≡ buffers (by_stamps (bare_core v)) = sym (buffers_again v all.writes) in
    let registers : flat_map dated_registers v.mutators ≡ flat_map dated_registers (by_stamps (bare_core v)).mutators = sym (registers_again v.mutators) in
    (λ i. record (pending v) {
      words = words i;
      writes = flat_map (λ (b : Filed). writes_in b.buffer.entries) (filed_in i);
      births = flat_map (λ (b : Filed). births_in b.epoch b.buffer.entries) (filed_in i);
      snapshots = flat_map (λ (b : Filed). dated_names b.epoch b.buffer.snapshot) (filed_in i);
      registers = registers i;
    })

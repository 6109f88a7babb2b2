-- What the collector does next and what it learns is the same in a heap of bare words: it reads of a word where it leads, and nothing else.
use Rattle.std.proofs.Common.{◌≡◌, Bool, true, false, ℕ, ◌+◌, ◌-◌, ◌^◌, ◌<◌, ◌≤◌, if◌then◌else◌, List, [], ◌∷◌, ◌++◌, Option, None, Some, IfSome, flat_map, map, slice_set, refl, sym, ap, subst, ◌∙◌, arith}
use Rattle.std.specs.List.{sum_by}
use Rattle.std.proofs.Math.ListN.{get_or-map}
use Rattle.std.proofs.lemmas.List.{map-set}
use Rattle.std.proofs.lemmas.List.Sums.{sum_by-cons}
use Rattle.rec_word.specs.Bare.{bare, bare_in, bare_op}
use Rattle.rec_word.specs.Looked.{looked}
use Rattle.rec_word.specs.Op.{cell_of}
use Rattle.rec_word.specs.Word.{target_of}
use Rattle.rec_word.specs.declared.cell.Cell.{Cell}
use Rattle.rec_word.specs.declared.cell.Cell.TheVariants as cells
use Rattle.rec_word.specs.declared.looked.Looked.{Looked}
use Rattle.rec_word.specs.declared.looked.Looked.TheVariants.{Takes, Crosses, Waits}
use Rattle.rec_word.specs.declared.op.Op.{Op}
use Rattle.rec_word.specs.declared.op.Op.TheVariants as ops
use Rattle.rec_word.proofs.Bare.{target_of_bare}
use Rattle.rec_log.specs.Words.{buffer_by, entry_by}
use Rattle.rec_log.specs.declared.contents.Contents.{Contents}
use Rattle.rec_log.specs.declared.entry.Entry.{Entry}
use Rattle.rec_log.specs.declared.entry.Entry.TheVariants as entries
use Rattle.rec_counts.specs.Batch.{applied, batch, IsCovered}
use Rattle.rec_counts.specs.Targets.{added, leaf_born, leaves, named, new_target, old_target, slots_in, taken, taken_targets, told_buffer, told_buffers, told_each}
use Rattle.rec_counts.specs.Batched.{batched}
use Rattle.rec_counts.specs.Colour.{is_green}
use Rattle.rec_counts.specs.Counts.{State, slot_at}
use Rattle.rec_release.specs.CycleFree as frees
use Rattle.rec_release.specs.Release as releases
use Rattle.rec_release.specs.Sweep as sweeps
use Rattle.rec_release.specs.TakenOff.{taken_off}
use Rattle.rec_release.specs.declared.at.At.{At}
use Rattle.rec_sigma.specs.Prepare as preps
use Rattle.rec_sigma.specs.declared.at.At as loads
use Rattle.rec_trial.specs.Rules.{visible, visible_if}
use Rattle.rec_trial.specs.Trial as trials
use Rattle.rec_trial.specs.declared.phase.Phase as trying
use Rattle.rec_trial.specs.declared.phase.Phase.TheVariants as trying_at
use Rattle.rec_word.specs.declared.member.Member.{Member}
use Rattle.rec_collector.specs.Bare.{bare_buffers, bare_private}
use Rattle.rec_collector.specs.Followed.{Next, followed, prepared, tried, relieved, worked}
use Rattle.rec_collector.specs.Next.{is_spent, next_at, next_of}
use Rattle.rec_collector.specs.Parts.{Parts}
use Rattle.rec_collector.specs.Present.{next_present}
use Rattle.rec_collector.specs.Private.{Private, blank, buffer_at, parts_of, with_parts}
use Rattle.rec_collector.specs.Testing.{with_release, zeros_released}
use Rattle.rec_collector.specs.Took.{after_look, crossed_for, look_turn, stilled, batch_next, behind, came, cleared, ended, ended_if, gathering_on, moved, noted, requested, step_of, swapped_at, swapped_of, took_at, took_of, turn_at, turn_of, behind_turn, came_turn, gathering_turn}
use Rattle.rec_collector.specs.declared.phase.Phase.{Phase}
use Rattle.rec_collector.specs.declared.turn.Turn.TheVariants.{EpochsSpent}
use Rattle.rec_collector.specs.declared.phase.Phase.TheVariants.{Idle, Looking, Swapping, Returning, Releasing, Freeing, Trying, Preparing, Opening, Sweeping, Closing}

-- ---- a batch

new_bare : (es : List Entry) → map new_target (map (entry_by bare) es) ≡ map new_target es
new_bare [] = refl
new_bare (entries.Put place new old ∷ es) = let at : target_of (bare new) ≡ target_of new = target_of_bare new in let rest = new_bare es in (λ i. at i ∷ rest i)
new_bare (entries.Born slot leaf ∷ es) = let rest = new_bare es in (λ i. None ∷ rest i)

pub old_bare : (es : List Entry) → map old_target (map (entry_by bare) es) ≡ map old_target es
old_bare [] = refl
old_bare (entries.Put place new old ∷ es) = let at : target_of (bare old) ≡ target_of old = target_of_bare old in let rest = old_bare es in (λ i. at i ∷ rest i)
old_bare (entries.Born slot leaf ∷ es) = let rest = old_bare es in (λ i. Some slot ∷ rest i)

born_bare : (es : List Entry) → map leaf_born (map (entry_by bare) es) ≡ map leaf_born es
born_bare [] = refl
born_bare (entries.Put place new old ∷ es) = let rest = born_bare es in (λ i. None ∷ rest i)
born_bare (entries.Born slot true ∷ es) = let rest = born_bare es in (λ i. Some slot ∷ rest i)
born_bare (entries.Born slot false ∷ es) = let rest = born_bare es in (λ i. None ∷ rest i)

sums_bare : (f g : Contents → ℕ) → ((b : Contents) → f (buffer_by bare b) ≡ g b) → (bs : List Contents) → sum_by f (bare_buffers bs) ≡ sum_by g bs
sums_bare f g same [] = refl
sums_bare f g same (b ∷ bs) = omega (arith, same b, sums_bare f g same bs, sum_by-cons f (buffer_by bare b) (bare_buffers bs), sum_by-cons g b bs)

added_bare : (x : ℕ) (bs : List Contents) → added x (bare_buffers bs) ≡ added x bs
added_bare x bs = sums_bare (λ b. named x (map new_target b.entries) + named x b.snapshot) (λ b. named x (map new_target b.entries) + named x b.snapshot) (λ b. ap (λ ts. named x ts + named x b.snapshot) (new_bare b.entries)) bs

leaves_bare : (x : ℕ) (bs : List Contents) → leaves x (bare_buffers bs) ≡ leaves x bs
leaves_bare x bs = sums_bare (λ b. named x (map leaf_born b.entries)) (λ b. named x (map leaf_born b.entries)) (λ b. ap (named x) (born_bare b.entries)) bs

taken_bare : (bs : List Contents) → flat_map taken_targets (bare_buffers bs) ≡ flat_map taken_targets bs
taken_bare [] = refl
taken_bare (b ∷ bs) = let at : map old_target (map (entry_by bare) b.entries) ≡ map old_target b.entries = old_bare b.entries in let rest = taken_bare bs in (λ i. (at i ++ b.snapshot) ++ rest i)

batch_bare : (s : State) (newer older : List Contents) → batch s (bare_buffers newer) (bare_buffers older) ≡ batch s newer older
unfolding batch
batch_bare s newer older = λ i. batched s (λ x. leaves_bare x newer i) (λ x. added_bare x newer i) (slots_in (taken_bare older i))

off_bare : (x : ℕ) (bs : List Contents) → taken x (bare_buffers bs) ≡ taken x bs
off_bare x bs = sums_bare (λ b. named x (map old_target b.entries) + named x b.snapshot) (λ b. named x (map old_target b.entries) + named x b.snapshot) (λ b. ap (λ ts. named x ts + named x b.snapshot) (old_bare b.entries)) bs

-- of what a steady heap is told the words are bare too
each_bare : (own other : List Contents) → told_each (bare_buffers own) (bare_buffers other) ≡ bare_buffers (told_each own other)
each_bare [] others = refl
each_bare (b ∷ bs) [] = refl
each_bare (b ∷ bs) (c ∷ cs) = ap (λ (ds : List Contents). buffer_by bare (told_buffer true b c) ∷ ds) (each_bare bs cs)

told_same : (steady : Bool) (own other : List Contents) → told_buffers steady (bare_buffers own) (bare_buffers other) ≡ bare_buffers (told_buffers steady own other)
told_same false own other = refl
told_same true own other = each_bare own other

-- the batch of a heap
applied_bare : (steady : Bool) (s : State) (newer older : List Contents) → applied steady s (bare_buffers newer) (bare_buffers older) ≡ applied steady s newer older
applied_bare steady s newer older =
    ap (λ (bs : List Contents). batch s bs (told_buffers steady (bare_buffers older) (bare_buffers newer))) (told_same steady newer older)
    ∙ (ap (batch s (bare_buffers (told_buffers steady newer older))) (told_same steady older newer) ∙ batch_bare s (told_buffers steady newer older) (told_buffers steady older newer))

-- a batch that is covered is covered still
pub covered_bare : (s : State) (newer older : List Contents) → IsCovered s newer older → IsCovered s (bare_buffers newer) (bare_buffers older)
covered_bare s newer older c = record {
  in_range = λ x past. let more = added_bare x newer in let less = off_bare x older in (λ i. more i + less i) ∙ c.in_range x past;
  born = λ x past. leaves_bare x newer ∙ c.born x past;
  fits = λ x. subst (λ n. (slot_at s x).count + n < 2 ^ 64) (sym (added_bare x newer)) (c.fits x);
  covered = λ x. let more = added_bare x newer in let less = off_bare x older in subst (λ n. n ≤ (slot_at s x).count + added x (bare_buffers newer)) (sym less) (subst (λ n. taken x older ≤ (slot_at s x).count + n) (sym more) (c.covered x));
}

-- ---- what comes next

next_at_bare : (p : Private) (phase : Phase) → next_at (bare_private p) phase ≡ next_at p phase
unfolding next_at
next_at_bare p Idle = refl
next_at_bare p (Looking t) = refl
next_at_bare p (Swapping t) = refl
next_at_bare p (Returning t) = refl
next_at_bare p (Releasing release) = refl
next_at_bare p (Freeing freeing) = refl
next_at_bare p (Trying trial) = refl
next_at_bare p (Preparing prep) = refl
next_at_bare p Opening = refl
next_at_bare p (Sweeping due swept) = refl
next_at_bare p (Closing swept) = refl

pub next_bare : (p : Private) → next_of (bare_private p) ≡ next_of p
unfolding next_of
next_bare p = next_at_bare p p.phase

-- ---- what is learnt of a bare word

release_bare : (w : releases.Work) (word : ℕ) → releases.took_of w (bare word) ≡ releases.took_of w word
unfolding releases.took_of
release_bare w word = go w.machine.at
  where
    go : (at : Option At) → releases.took_at w (bare word) at ≡ releases.took_at w word at
    go None = refl
    go (Some a) = ap (λ x. releases.gone_on w.machine.fields w.machine.lowers a (taken_off w.machine.lowers w.counts x)) (target_of_bare word)

free_bare : (w : frees.Work) (word : ℕ) → frees.took_of w (bare word) ≡ frees.took_of w word
unfolding frees.took_of
free_bare w word = go w.machine.at
  where
    go : (at : Option Member) → frees.took_at w (bare word) at ≡ frees.took_at w word at
    go None = refl
    go (Some a) = ap (λ x. frees.work_of w.machine.fields (frees.gone_on w.machine.fields (taken_off true w.counts x) a)) (target_of_bare word)

prep_bare : (w : preps.Work) (word : ℕ) → preps.took_of w (bare word) ≡ preps.took_of w word
unfolding preps.took_of
prep_bare w word = go w.machine.at
  where
    go : (at : Option loads.At) → preps.took_at w (bare word) at ≡ preps.took_at w word at
    go None = refl
    go (Some a) = ap (λ x. preps.work_of w.machine.fields (preps.gone_on w.machine.fields (preps.taken_off a.set w.counts x) a)) (target_of_bare word)

-- a trial sees a word that leads where it led
visible_leads : (s : State) (word : ℕ) → target_of (visible s (bare word)) ≡ target_of (visible s word)
visible_leads s word = ap (λ x. target_of (visible_if x s (bare word))) (target_of_bare word) ∙ go (target_of word)
  where
    seen : (green : Bool) → target_of (if green then 0 else bare word) ≡ target_of (if green then 0 else word)
    seen true = refl
    seen false = target_of_bare word

    go : (x : Option ℕ) → target_of (visible_if x s (bare word)) ≡ target_of (visible_if x s word)
    go None = target_of_bare word
    go (Some x) = seen (is_green (slot_at s x).colour)

-- what is learnt of two words that lead to one slot
trial_same : (w : trials.Work) (a b : ℕ) → target_of a ≡ target_of b → trials.took_of w a ≡ trials.took_of w b
unfolding trials.took_of
trial_same w a b same = go w.machine.phase
  where
    on : trials.went_on w a ≡ trials.went_on w b
    on = ap (λ x. trials.pointed (trials.settled (record { machine = trials.advanced w.machine; counts = trials.learnt_at w.machine.phase w.counts x }))) same

    go : (phase : trying.Phase) → trials.took_at phase w a ≡ trials.took_at phase w b
    go trying_at.Idle = refl
    go trying_at.Marking = on
    go trying_at.Scanning = on
    go trying_at.Collecting = on

work_bare : (w : Parts) (word : ℕ) (phase : Phase) → worked w (bare word) phase ≡ worked w word phase
work_bare w word (Releasing m) = ap (λ v. followed (with_release w v)) (release_bare (record { machine = m; counts = w.counts }) word)
work_bare w word (Freeing m) = ap (λ v. followed (relieved w v)) (free_bare (record { machine = m; counts = w.counts }) word)
work_bare w word (Trying m) = ap (tried w) (trial_same (record { machine = m; counts = w.counts }) (visible w.counts (bare word)) (visible w.counts word) (visible_leads w.counts word))
work_bare w word (Preparing m) = ap (prepared w) (prep_bare (record { machine = m; counts = w.counts }) word)
work_bare w word Idle = refl
work_bare w word (Looking t) = refl
work_bare w word (Swapping t) = refl
work_bare w word (Returning t) = refl
work_bare w word Opening = refl
work_bare w word (Sweeping due swept) = refl
work_bare w word (Closing swept) = refl

-- ---- what is learnt with bare buffers

cleared_bare : (bs : List Contents) → map cleared (bare_buffers bs) ≡ bare_buffers (map cleared bs)
cleared_bare [] = refl
cleared_bare (b ∷ bs) = ap (λ (xs : List Contents). cleared b ∷ xs) (cleared_bare bs)

ended_bare : (p : Private) → ended (bare_private p) ≡ bare_private (ended p)
ended_bare p = ap (λ (bs : List Contents). record p { collections = p.collections + 1; turns = 0; phase = Idle; newer = bs; older = bare_buffers p.newer }) (cleared_bare p.older)

ended_if_bare : (phase : Phase) (p : Private) → ended_if phase (bare_private p) ≡ bare_private (ended_if phase p)
ended_if_bare (Closing swept) p = ended_bare p
ended_if_bare Idle p = refl
ended_if_bare (Looking t) p = refl
ended_if_bare (Swapping t) p = refl
ended_if_bare (Returning t) p = refl
ended_if_bare (Releasing m) p = refl
ended_if_bare (Freeing m) p = refl
ended_if_bare (Trying m) p = refl
ended_if_bare (Preparing m) p = refl
ended_if_bare Opening p = refl
ended_if_bare (Sweeping due swept) p = refl

came_bare : (p : Private) (n : Next) → came (bare_private p) n ≡ bare_private (came p n)
came_bare p n = ended_if_bare n.phase (moved (with_parts p n.parts) n.phase)

-- the batch
gathering_bare : (p : Private) (x : Option ℕ) → gathering_on (bare_private p) x ≡ bare_private (gathering_on p x)
gathering_bare p None = ap (λ s. came (bare_private p) (followed (zeros_released false (record (parts_of p) { counts = s })))) (applied_bare p.policy.steady p.counts p.newer p.older) ∙ came_bare p (batch_next p)
gathering_bare p (Some t) = refl

behind_bare : (p : Private) (t : ℕ) → behind (bare_private p) t ≡ bare_private (behind p t)
behind_bare p t = gathering_bare p (next_present p.left t)

-- the buffer of a mutator
pub buffer_bare : (bs : List Contents) (place : ℕ) → buffer_at (bare_buffers bs) place ≡ buffer_by bare (buffer_at bs place)
buffer_bare bs place = get_or-map (buffer_by bare) bs place (blank 0 0)

noted_bare : (p : Private) (t : ℕ) → noted (bare_private p) t ≡ bare_private (noted p t)
noted_bare p t = ap (λ (b : Contents). record (bare_private p) { left = slice_set p.left (t - 1) b.last }) (buffer_bare p.newer (t - 1))

-- what is learnt of a word found in any cell
work_in : (w : Parts) (word : ℕ) (phase : Phase) (cell : Cell) → worked w (bare_in cell word) phase ≡ worked w word phase
work_in w word phase (cells.Field place) = work_bare w word phase
work_in w word phase (cells.Header slot) = refl
work_in w word phase cells.Epoch = refl
work_in w word phase cells.Freed = refl
work_in w word phase (cells.Crossing t) = refl

came_in : (p : Private) (word : ℕ) (phase : Phase) (cell : Cell) → came (bare_private p) (worked (parts_of p) (bare_in cell word) phase) ≡ bare_private (came p (worked (parts_of p) word phase))
came_in p word phase cell = ap (came (bare_private p)) (work_in (parts_of p) word phase cell) ∙ came_bare p (worked (parts_of p) word phase)

-- the collector crosses for a mutator
pub crossed_bare : (p : Private) (t : ℕ) → crossed_for (bare_private p) t ≡ bare_private (crossed_for p t)
crossed_bare p t =
    (λ i. record (bare_private p) { phase = Returning t; newer = slice_set (bare_buffers p.newer) (t - 1) (stilled (buffer_bare p.newer (t - 1) i) (buffer_bare p.older (t - 1) i)) })
    ∙ ap (λ (bs : List Contents). record (bare_private p) { phase = Returning t; newer = bs }) (sym (map-set (buffer_by bare) p.newer (t - 1) (stilled (buffer_at p.newer (t - 1)) (buffer_at p.older (t - 1)))))

-- a look, by what comes of it
looked_bare : (p : Private) (t : ℕ) (l : Looked) → after_look (bare_private p) t l ≡ bare_private (after_look p t l)
looked_bare p t (Takes new) = refl
looked_bare p t (Crosses new) = ap (λ (q : Private). behind q t) (crossed_bare p t) ∙ behind_bare (crossed_for p t) t
looked_bare p t Waits = refl

-- a request, by whether the epochs are spent
requested_bare : (p : Private) (spent : Bool) → (if spent then bare_private p else behind (bare_private (requested p)) 0) ≡ bare_private (if spent then p else behind (requested p) 0)
requested_bare p true = refl
requested_bare p false = behind_bare (requested p) 0

took_at_bare : (p : Private) (word : ℕ) (op : Op) (phase : Phase) → ◌≡◌ {A = Option Op} (next_at p phase) (Some op) → took_at (bare_private p) (bare_in (cell_of op) word) phase ≡ bare_private (took_at p word phase)
unfolding next_at took_at sweeps.took_of
took_at_bare p word op Idle named = requested_bare p (is_spent p)
took_at_bare p word op (Looking t) named =
    let its : ops.LookBox t p.epoch ≡ op = cc in
    subst (λ o. after_look (bare_private p) t (looked p.epoch (bare_in (cell_of o) word)) ≡ bare_private (after_look p t (looked p.epoch word))) its (looked_bare p t (looked p.epoch word))
took_at_bare p word op (Swapping t) named = refl
took_at_bare p word op (Returning t) named = ap (λ (q : Private). behind q t) (noted_bare p t) ∙ behind_bare (noted p t) t
took_at_bare p word op (Releasing m) named = came_in p word (Releasing m) (cell_of op)
took_at_bare p word op (Freeing m) named = came_in p word (Freeing m) (cell_of op)
took_at_bare p word op (Trying m) named = came_in p word (Trying m) (cell_of op)
took_at_bare p word op (Preparing m) named = came_in p word (Preparing m) (cell_of op)
took_at_bare p word op Opening named = refl
took_at_bare p word op (Sweeping due swept) named = refl
took_at_bare p word op (Closing swept) named = ended_bare p

took_bare : (p : Private) (word : ℕ) (op : Op) → ◌≡◌ {A = Option Op} (next_of p) (Some op) → took_of (bare_private p) (bare_in (cell_of op) word) ≡ bare_private (took_of p word)
unfolding next_of took_of
took_bare p word op named = took_at_bare p word op p.phase named

-- the buffer of a mailbox is swapped
swapped_at_bare : (p : Private) (b : Contents) (phase : Phase) → swapped_at (bare_private p) (buffer_by bare b) phase ≡ bare_private (swapped_at p b phase)
unfolding swapped_at
swapped_at_bare p b (Swapping t) = ap (λ (bs : List Contents). record (bare_private p) { phase = Returning t; newer = bs }) (sym (map-set (buffer_by bare) p.newer (t - 1) b))
swapped_at_bare p b Idle = refl
swapped_at_bare p b (Looking t) = refl
swapped_at_bare p b (Returning t) = refl
swapped_at_bare p b (Releasing m) = refl
swapped_at_bare p b (Freeing m) = refl
swapped_at_bare p b (Trying m) = refl
swapped_at_bare p b (Preparing m) = refl
swapped_at_bare p b Opening = refl
swapped_at_bare p b (Sweeping due swept) = refl
swapped_at_bare p b (Closing swept) = refl

swapped_bare : (p : Private) (b : Contents) → swapped_of (bare_private p) (buffer_by bare b) ≡ bare_private (swapped_of p b)
unfolding swapped_of
swapped_bare p b = swapped_at_bare p b p.phase

-- a whole step
pub step_bare : (p : Private) (word : ℕ) (b : Contents) (op : Op) → ◌≡◌ {A = Option Op} (next_of p) (Some op) → step_of (bare_private p) (bare_in (cell_of op) word) (buffer_by bare b) ≡ bare_private (step_of p word b)
unfolding step_of
step_bare p word b op named = ap (λ (q : Private). swapped_of q (buffer_by bare b)) (took_bare p word op named) ∙ swapped_bare (took_of p word) b

-- ---- what a turn answers

gathering_told : (p : Private) (x : Option ℕ) → gathering_turn (bare_private p) x ≡ gathering_turn p x
gathering_told p None = ap (λ s. came_turn p.epoch (followed (zeros_released false (record (parts_of p) { counts = s }))).phase) (applied_bare p.policy.steady p.counts p.newer p.older)
gathering_told p (Some t) = refl

requested_told : (p : Private) (spent : Bool) → (if spent then EpochsSpent else behind_turn (bare_private (requested p)) 0) ≡ (if spent then EpochsSpent else behind_turn (requested p) 0)
requested_told p true = refl
requested_told p false = gathering_told (requested p) (next_present p.left 0)

looked_told : (p : Private) (t : ℕ) (l : Looked) → look_turn (bare_private p) t l ≡ look_turn p t l
looked_told p t (Takes new) = refl
looked_told p t (Crosses new) = ap (λ (q : Private). behind_turn q t) (crossed_bare p t) ∙ gathering_told (crossed_for p t) (next_present p.left t)
looked_told p t Waits = refl

came_told : (p : Private) (word : ℕ) (phase : Phase) (cell : Cell) → came_turn p.epoch (worked (parts_of p) (bare_in cell word) phase).phase ≡ came_turn p.epoch (worked (parts_of p) word phase).phase
came_told p word phase cell = ap (λ (n : Next). came_turn p.epoch n.phase) (work_in (parts_of p) word phase cell)

turn_at_bare : (p : Private) (word : ℕ) (op : Op) (phase : Phase) → ◌≡◌ {A = Option Op} (next_at p phase) (Some op) → turn_at (bare_private p) (bare_in (cell_of op) word) phase ≡ turn_at p word phase
unfolding next_at turn_at
turn_at_bare p word op Idle named = requested_told p (is_spent p)
turn_at_bare p word op (Looking t) named =
    let its : ops.LookBox t p.epoch ≡ op = cc in
    subst (λ o. look_turn (bare_private p) t (looked p.epoch (bare_in (cell_of o) word)) ≡ look_turn p t (looked p.epoch word)) its (looked_told p t (looked p.epoch word))
turn_at_bare p word op (Swapping t) named = came_told p word (Swapping t) (cell_of op)
turn_at_bare p word op (Returning t) named = ap (λ (q : Private). behind_turn q t) (noted_bare p t) ∙ gathering_told (noted p t) (next_present (noted p t).left t)
turn_at_bare p word op (Releasing m) named = came_told p word (Releasing m) (cell_of op)
turn_at_bare p word op (Freeing m) named = came_told p word (Freeing m) (cell_of op)
turn_at_bare p word op (Trying m) named = came_told p word (Trying m) (cell_of op)
turn_at_bare p word op (Preparing m) named = came_told p word (Preparing m) (cell_of op)
turn_at_bare p word op Opening named = came_told p word Opening (cell_of op)
turn_at_bare p word op (Sweeping due swept) named = came_told p word (Sweeping due swept) (cell_of op)
turn_at_bare p word op (Closing swept) named = refl

pub turn_bare : (p : Private) (word : ℕ) (op : Op) → ◌≡◌ {A = Option Op} (next_of p) (Some op) → turn_of (bare_private p) (bare_in (cell_of op) word) ≡ turn_of p word
unfolding next_of turn_of
turn_bare p word op named = turn_at_bare p word op p.phase named

-- ---- no operation of the collector puts a word with a date

puts_none_at : (p : Private) (phase : Phase) → IfSome (next_at p phase) (λ (op : Op). bare_op op ≡ op)
unfolding next_at releases.next_of frees.next_of trials.next_of preps.next_of sweeps.next_of
puts_none_at p Idle = go (is_spent p)
  where
    go : (spent : Bool) → IfSome (if spent then None else Some (ops.StoreEpoch (p.epoch + 1))) (λ (op : Op). bare_op op ≡ op)
    go true = tt
    go false = refl
puts_none_at p (Looking t) = refl
puts_none_at p (Swapping t) = refl
puts_none_at p (Returning t) = refl
puts_none_at p (Releasing m) = go m.at
  where
    go : (at : Option At) → IfSome (releases.op_at m.fields at) (λ (op : Op). bare_op op ≡ op)
    go None = tt
    go (Some a) = refl
puts_none_at p (Freeing m) = go m.at
  where
    go : (at : Option Member) → IfSome (frees.op_at m.fields at) (λ (op : Op). bare_op op ≡ op)
    go None = tt
    go (Some a) = refl
puts_none_at p (Trying m) = go m.phase
  where
    go : (phase : trying.Phase) → IfSome (trials.op_at phase m) (λ (op : Op). bare_op op ≡ op)
    go trying_at.Idle = tt
    go trying_at.Marking = refl
    go trying_at.Scanning = refl
    go trying_at.Collecting = refl
puts_none_at p (Preparing m) = go m.at
  where
    go : (at : Option loads.At) → IfSome (preps.op_at m.fields at) (λ (op : Op). bare_op op ≡ op)
    go None = tt
    go (Some a) = refl
puts_none_at p Opening = refl
puts_none_at p (Sweeping None swept) = tt
puts_none_at p (Sweeping (Some x) swept) = refl
puts_none_at p (Closing swept) = refl

pub puts_none : (p : Private) (op : Op) → ◌≡◌ {A = Option Op} (next_of p) (Some op) → bare_op op ≡ op
unfolding next_of
puts_none p op named = subst (λ x. IfSome x (λ (o : Op). bare_op o ≡ o)) named (puts_none_at p p.phase)

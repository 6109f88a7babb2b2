-- A heap of bare words keeps what the heap of dated words behind it keeps, but for what is said of epochs of words.
use Rattle.std.proofs.Common.{◌≡◌, inl, inr, true, false, ℕ, ◌+◌, ◌-◌, ◌*◌, ◌≤◌, ◌||◌, if◌then◌else◌, List, [], ◌∷◌, map, replicate, zero, suc, slice_index_or, refl, sym, ap, subst, ◌∙◌}
use Rattle.std.specs.List.{sum_by}
use Rattle.std.proofs.Math.ListN.{get_or-map}
use Rattle.std.proofs.lemmas.List.{length-map}
use Rattle.std.proofs.lemmas.List.Sums.{sum_by-cons}
use Rattle.rec_word.specs.Bare.{bare}
use Rattle.rec_word.specs.Place.{place_of}
use Rattle.rec_word.specs.declared.mailbox.Mailbox.{Mailbox}
use Rattle.rec_log.specs.Words.{buffer_by, entry_by}
use Rattle.rec_log.specs.declared.contents.Contents.{Contents}
use Rattle.rec_model.specs.Heap.{roots}
use Rattle.rec_model.specs.Reach.{is_in}
use Rattle.rec_model.specs.Sight.{IsSound}
use Rattle.rec_mutator.specs.Bare as mutators
use Rattle.rec_mutator.specs.Causes.{gives_back}
use Rattle.rec_mutator.specs.Private.{Private}
use Rattle.rec_mutator.specs.Took.{IsBetween}
use Rattle.rec_mutator.proofs.Bare.{busy_bare}
use Rattle.rec_mutator.proofs.BareKept.{entries_bare, machine_bare, phase_bare, said_bare}
use Rattle.rec_collector.specs.Bare as collectors_bare
use Rattle.rec_collector.specs.Private as collectors
use Rattle.rec_collector.specs.declared.phase.Phase.{Phase}
use Rattle.rec_collector.specs.declared.phase.Phase.TheVariants.{Idle, Looking, Swapping, Returning, Releasing, Freeing, Trying, Preparing, Opening, Sweeping, Closing}
use Rattle.rec_collector.proofs.Bare.{buffer_bare}
use Rattle.rec_collector.proofs.BareKept as collecting
use Rattle.rec_core.specs.Bare.{bare_core}
use Rattle.rec_core.specs.Core.{Core, nobody, sight}
use Rattle.rec_core.specs.Kept.{Handshake, HasCollector, HasCrossed, HasLabelAt, HasLearnt, HasMutators, HasRetired, HaveLearnt, IsActor, IsAhead, IsBufferOf, IsCrossing, IsHandshake, IsHeldAt, IsKept, IsKeptBy, IsOwn, IsSettledIn, LetGo, entries_made}
use Rattle.rec_core.specs.Pending.{epoch_at, has_let_go, is_parting}
use Rattle.rec_core.specs.declared.config.Config.{Config}
use Rattle.rec_core.proofs.Bare.{mutator_bare}
use Rattle.rec_core.proofs.BareSeen.{registers_bare, targets_bare, words_bare}

-- ---- a mutator

gives_bare : (p : Private) → gives_back (mutators.bare_private p).phase ≡ gives_back p.phase
gives_bare p = said_bare gives_back (λ work made. refl) p.phase

parting_bare : (p : Private) → is_parting (mutators.bare_private p).phase ≡ is_parting p.phase
parting_bare p = said_bare is_parting (λ work made. refl) p.phase

epoch_bare : (p : Private) → epoch_at (mutators.bare_private p) ≡ epoch_at p
epoch_bare p = ap (λ b. if b then p.epoch + 1 else p.epoch) (gives_bare p)

gone_bare : (p : Private) → has_let_go (mutators.bare_private p) ≡ has_let_go p
gone_bare p = ap (λ b. b || p.left) (parting_bare p)

own_bare : (config : Config) (t : ℕ) (p : Private) → IsOwn true config t p → IsOwn false config t (mutators.bare_private p)
own_bare config t p o = record {
  number = o.number;
  slots = o.slots;
  fields = o.fields;
  registers = o.registers;
  capacity = o.capacity;
  machine = machine_bare p o.machine;
  between = phase_bare IsBetween (λ work made is. is) p.phase o.between;
  label = phase_bare HasLabelAt (λ work made is. is) p.phase o.label;
  idle = λ left. busy_bare p ∙ o.idle left;
  awake = o.awake;
  dates = refl;
}

-- a buffer is of the heap still, whatever its epoch is called
buffer_kept : (config : Config) (epoch of : ℕ) (b : Contents) → of ≡ epoch → IsBufferOf true config epoch b → IsBufferOf false config of (buffer_by bare b)
buffer_kept config epoch of b same is = record { snapshot = is.snapshot; capacity = is.capacity; few = subst (λ n. n ≤ b.capacity) (sym (length-map b.entries (entry_by bare))) is.few; made = tt }

module _ (config : Config) (requested : ℕ) (p : Private) (crossing : ℕ) (box : Contents) where
  abbrev q : Private
  q = mutators.bare_private p

  abbrev left : Contents
  left = buffer_by bare box

  crossed_bare : (mailbox : Mailbox) → HasCrossed requested p crossing mailbox → HasCrossed requested q crossing mailbox
  crossed_bare mailbox c = record { epoch = c.epoch; word = c.word; settled = phase_bare (IsSettledIn mailbox) (λ work made is. is) p.phase c.settled }

  crossing_bare : (into : ℕ) → IsCrossing config into p crossing box → IsCrossing config into q crossing left
  crossing_bare into c = record { epoch = c.epoch; phase = gives_bare p ∙ c.phase; word = c.word; spare = ap (buffer_by bare) c.spare; last = c.last ∙ sym (parting_bare p) }

  retired_bare : (into : ℕ) → HasRetired into p crossing box → HasRetired into q crossing left
  retired_bare into r = record { left = r.left; epoch = r.epoch; word = r.word; last = r.last }

  ahead_bare : IsAhead config requested p crossing box → IsAhead config requested q crossing left
  ahead_bare (inl (crosses, parting)) = inl (crossing_bare (requested + 1) crosses, ap mutators.bare_phase parting)
  ahead_bare (inr retired) = inr (retired_bare (requested + 1) retired)

  handshake_bare : (stand : Handshake) → IsHandshake config requested p crossing box stand → IsHandshake config requested q crossing left stand
  handshake_bare Handshake.Done (inl (crossed, stays, spare)) = inl (crossed_bare _ crossed, stays, ap (buffer_by bare) spare)
  handshake_bare Handshake.Done (inr ahead) = inr (ahead_bare ahead)
  handshake_bare Handshake.Held (crossed, spare) = (crossed_bare _ crossed, ap (buffer_by bare) spare)
  handshake_bare Handshake.Due (inl b) = inl (record { epoch = b.epoch; word = b.word; here = gives_bare p ∙ b.here; stays = b.stays; spare = ap (buffer_by bare) b.spare })
  handshake_bare Handshake.Due (inr (inl crosses)) = inr (inl (crossing_bare requested crosses))
  handshake_bare Handshake.Due (inr (inr (crossed, last))) = inr (inr (crossed_bare _ crossed, last))
  handshake_bare Handshake.Gone g = record { left = g.left; past = g.past; word = g.word; spare = ap (buffer_by bare) g.spare }

  actor_bare : (stand : Handshake) (t : ℕ) → IsActor true config requested stand t p crossing box → IsActor false config requested stand t q crossing left
  actor_bare stand t a = record {
    own = own_bare config t p a.own;
    log = buffer_kept config (epoch_at p) (epoch_at q) p.log (epoch_bare p) a.log;
    unwritten = a.unwritten;
    unmarked = a.unmarked;
    let_go = λ gone. let went : LetGo config p = a.let_go (sym (gone_bare p) ∙ gone) in record { registers = went.registers; log = ap (buffer_by bare) went.log };
    mailbox = buffer_kept config (epoch_at p - 1) (epoch_at q - 1) box (ap (λ n. n - 1) (epoch_bare p)) a.mailbox;
    handshake = handshake_bare stand a.handshake;
  }

mutators_bare : (config : Config) (requested : ℕ) (stands : (t : ℕ) → Handshake) (ms : List Private) (crossing : List ℕ) (boxes : List Contents)
    → HasMutators true config requested stands ms crossing boxes → HasMutators false config requested stands (map mutators.bare_private ms) crossing (map (buffer_by bare) boxes)
mutators_bare config requested stands ms crossing boxes h = record {
  many = length-map ms mutators.bare_private ∙ h.many;
  words = h.words;
  mailboxes = length-map boxes (buffer_by bare) ∙ h.mailboxes;
  each = λ t is.
      let word : ℕ = slice_index_or crossing (t - 1) 0 in
      let p : Private = slice_index_or ms (t - 1) nobody in
      let box : Contents = slice_index_or boxes (t - 1) (collectors.blank 0 0) in
      let p_is : slice_index_or (map mutators.bare_private ms) (t - 1) nobody ≡ mutators.bare_private p = get_or-map mutators.bare_private ms (t - 1) nobody in
      let box_is : slice_index_or (map (buffer_by bare) boxes) (t - 1) (collectors.blank 0 0) ≡ buffer_by bare box = get_or-map (buffer_by bare) boxes (t - 1) (collectors.blank 0 0) in
      subst (λ (r : Private). IsActor false config requested (stands t) t r word (slice_index_or (map (buffer_by bare) boxes) (t - 1) (collectors.blank 0 0))) (sym p_is)
      (subst (λ (b : Contents). IsActor false config requested (stands t) t (mutators.bare_private p) word b) (sym box_is) (actor_bare config requested p word box (stands t) t (h.each t is)));
}

-- ---- the collector

collector_bare : (config : Config) (requested : ℕ) (words : List ℕ) (c : collectors.Private)
    → HasCollector true config requested words c → HasCollector false config requested (map bare words) (collectors_bare.bare_private c)
collector_bare config requested words c h = record {
  machine = collecting.machine_bare c h.machine;
  between = h.between;
  slots = h.slots;
  fields = h.fields;
  registers = h.registers;
  capacity = h.capacity;
  policy = h.policy;
  mutators = collecting.rows_many c.newer ∙ h.mutators;
  epoch = h.epoch;
  begun = h.begun;
  newer = λ t is. subst (IsBufferOf false config _) (sym (buffer_bare c.newer (t - 1))) (buffer_kept config _ _ (collectors.buffer_at c.newer (t - 1)) refl (h.newer t is));
  older = λ t is. subst (IsBufferOf false config _) (sym (buffer_bare c.older (t - 1))) (buffer_kept config _ _ (collectors.buffer_at c.older (t - 1)) refl (h.older t is));
  listed = h.listed;
  emptied = λ x f below within released. elim (h.emptied x f below within released) [
    | inl due ↦ inl due
    | inr (inl due) ↦ inr (inl due)
    | inr (inr none) ↦ inr (inr (get_or-map bare words (place_of x f config.fields) 0 ∙ ap bare none))
  ];
}

-- ---- what is seen, learnt and made

no_words : (n : ℕ) → map bare (replicate n 0) ≡ replicate n 0
no_words zero = refl
no_words (suc n) = ap (λ (ws : List ℕ). 0 ∷ ws) (no_words n)

sound_bare : (v : Core) → IsSound (sight v) → IsSound (sight (bare_core v))
sound_bare v s = record {
  places = length-map v.words bare ∙ s.places;
  registers = λ slot named. s.registers slot (sym (ap (λ rss. is_in slot (roots rss)) (registers_bare v)) ∙ named);
  fields = λ x slot taken named. s.fields x slot taken (sym (ap (is_in slot) (targets_bare v x)) ∙ named);
  free = λ x below free. words_bare v x ∙ (ap (map bare) (s.free x below free) ∙ no_words v.config.fields);
  leaves = λ x leaf. words_bare v x ∙ (ap (map bare) (s.leaves x leaf) ∙ no_words v.config.fields);
}

learnt_bare : (config : Config) (headers : List ℕ) (freed : ℕ) (ms : List Private) → HaveLearnt config headers freed ms → HaveLearnt config headers freed (map mutators.bare_private ms)
learnt_bare config headers freed ms h = λ t is.
    let p : Private = slice_index_or ms (t - 1) nobody in
    subst (λ (r : Private). HasLearnt config.slots headers freed r.from r.phase) (sym (get_or-map mutators.bare_private ms (t - 1) nobody))
    (phase_bare (HasLearnt config.slots headers freed p.from) (λ work made has. has) p.phase (h t is))

made_by : (config : Config) (p : Private) → entries_made config (mutators.bare_private p) ≡ entries_made config p
made_by config p = let at = epoch_bare p in let many = entries_bare p in (λ i. (at i - config.first_epoch) * config.log_entries + many i)

made_bare : (config : Config) (ms : List Private) → sum_by (entries_made config) (map mutators.bare_private ms) ≡ sum_by (entries_made config) ms
made_bare config [] = refl
made_bare config (p ∷ ps) =
    sum_by-cons (entries_made config) (mutators.bare_private p) (map mutators.bare_private ps)
    ∙ (ap (λ n. n + sum_by (entries_made config) (map mutators.bare_private ps)) (made_by config p)
    ∙ (ap (λ n. entries_made config p + n) (made_bare config ps) ∙ sym (sum_by-cons (entries_made config) p ps)))

held_bare : (v : Core) (phase : Phase) → IsHeldAt v phase → IsHeldAt (bare_core v) phase
held_bare v (Returning t) held = (held.0, ap (λ (b : Contents). b.last) (buffer_bare v.collector.newer (t - 1)) ∙ (held.1 ∙ sym (ap (λ (p : Private). p.left) (mutator_bare v t))))
held_bare v Idle held = tt
held_bare v (Looking t) held = tt
held_bare v (Swapping t) held = tt
held_bare v (Releasing m) held = tt
held_bare v (Freeing m) held = tt
held_bare v (Trying m) held = tt
held_bare v (Preparing m) held = tt
held_bare v Opening held = tt
held_bare v (Sweeping due swept) held = tt
held_bare v (Closing swept) held = tt

-- ---- the heap

whole_bare : (stands : (t : ℕ) → Handshake) (v : Core) → IsKeptBy true stands v → IsKeptBy false stands (bare_core v)
whole_bare stands v k = record {
  config = k.config;
  headers = k.headers;
  labels = k.labels;
  mutators = mutators_bare v.config v.epoch stands v.mutators v.crossing v.boxes k.mutators;
  collector = collector_bare v.config v.epoch v.words v.collector k.collector;
  sweeps = k.sweeps;
  learnt = learnt_bare v.config v.headers v.freed v.mutators k.learnt;
  made = subst (λ n. v.made ≤ v.config.slots + n) (sym (made_bare v.config v.mutators)) k.made;
  sound = sound_bare v k.sound;
  greens = k.greens;
  accounted = tt;
  uncounted = tt;
  cycles = tt;
}

-- It keeps all but what is said of epochs, and the heap of dated words stands behind it.
pub kept_bare : (v : Core) → IsKept true v → IsKept false (bare_core v)
kept_bare v k = record {
  whole = whole_bare _ v k.whole;
  held = held_bare v v.collector.phase k.held;
  behind = (v, refl, record { dated_whole = k.whole; dated_held = k.held });
}

-- What a step of a mutator does to its registers, its log, its mailbox and the words, told case by case.
use Rattle.std.proofs.Common.{◌≡◌, ◌≢◌, ◌⊎◌, inl, inr, ℕ, ◌+◌, ◌<◌, ◌==◌, false, Bool, List, [], ◌∷◌, ◌++◌, Option, None, Some, slice_set, refl, sym, ap, subst, ◌∙◌, arith}
use Rattle.std.proofs.lemmas.Bool.{cond-false, ne_eqb}
use Rattle.std.proofs.lemmas.List.{set-get_or}
use Rattle.rec_core.proofs.Common.{place_of, target_of, Op, Contents, Private, IsMachine, IsStore, HasRoom, probe_of, register, word_for, Decides, GoesOn, LeavesBox, Step, Cells, cell, with_cell, epoch_at, header_word}
use Rattle.rec_word.specs.Op.{written}
use Rattle.rec_word.specs.declared.op.Op.TheVariants as ops
use Rattle.rec_log.specs.declared.entry.Entry.TheVariants as entries
use Rattle.rec_model.specs.declared.command.Cmd.{Cmd}
use Rattle.rec_model.specs.declared.command.Cmd.TheVariants as commands
use Rattle.rec_model.specs.declared.told.Told.{Told}
use Rattle.rec_mutator.specs.Causes.{gives_back}
use Rattle.rec_mutator.specs.Step.{TakesBox}
use Rattle.rec_mutator.specs.Took.{nulls_of}
use Rattle.rec_mutator.specs.declared.phase.Phase as phases
use Rattle.rec_mutator.specs.declared.phase.Phase.TheVariants as at
use Rattle.rec_mutator.specs.declared.work.Work.TheVariants as works
use Rattle.rec_mutator.proofs.Refusals.{at_phase}
use Rattle.rec_core.proofs.Actors.{epoch_here, epoch_next}
use Rattle.rec_core.proofs.Shapes.{LeavesWords, load_leaves, box_stays}

-- an operation that leaves the headers
abbrev pub LeavesHeaders : (word : ℕ) → Op → Type 0
LeavesHeaders word op = (cells : Cells) → cell cells op ≡ word → (with_cell cells op (written op word)).headers ≡ cells.headers

-- a load of a header does, and a claim of a slot that is taken
header_leaves : (slot word : ℕ) → LeavesHeaders word (ops.LoadHeader slot)
header_leaves slot word cells e = ap (slice_set cells.headers slot) (sym e) ∙ set-get_or cells.headers slot 0

claim_leaves : (slot header word : ℕ) → word ≢ 0 → LeavesHeaders word (ops.ClaimHeader slot header)
claim_leaves slot header word taken cells e = ap (slice_set cells.headers slot) (cond-false (word == 0) header word (ne_eqb word 0 taken) ∙ sym e) ∙ set-get_or cells.headers slot 0

-- a slot that a register names, or that the operation finds in a field of such a one
pub data Finds (p : Private) (op : Op) (word slot : ℕ) : Type 0 where
  had : (r : ℕ) → register p r ≡ Some slot → Finds p op word slot
  loaded : (src f held : ℕ) → register p src ≡ Some held → f < p.fields → op ≡ ops.LoadField (place_of held f p.fields) → target_of word ≡ Some slot → Finds p op word slot

-- A step keeps the log and the mailbox, and each register names what it named, or the one that is set what is held or found;
pub record Keeps (p : Private) (word : ℕ) (box : Contents) (op : Op) (q : Private) (left : Contents) : Type 0 where
  pub epoch : epoch_at q ≡ epoch_at p
  pub log : q.log ≡ p.log
  pub mailbox : left ≡ box
  pub words : LeavesWords word op
  pub headers : LeavesHeaders word op
  pub registers : (q.registers ≡ p.registers) ⊎ ((r : ℕ) × (x : Option ℕ) × (q.registers ≡ slice_set p.registers r x) × ((slot : ℕ) → x ≡ Some slot → Finds p op word slot))

-- or it takes a free slot for an object, and logs its birth;
pub record Bears (p : Private) (word : ℕ) (box : Contents) (op : Op) (q : Private) (left : Contents) : Type 0 where
  pub reg : ℕ
  pub slot : ℕ
  pub label : ℕ
  pub leaf : Bool
  pub operation : op ≡ ops.ClaimHeader slot (header_word leaf label)
  pub free : word ≡ 0
  pub epoch : epoch_at q ≡ epoch_at p
  pub log : q.log ≡ record p.log { entries = p.log.entries ++ entries.Born slot leaf ∷ [] }
  pub mailbox : left ≡ box
  pub registers : q.registers ≡ slice_set p.registers reg (Some slot)

-- or it exchanges the word in a field of a slot that a register names, and logs the one that stood there;
pub record Puts (p : Private) (word : ℕ) (box : Contents) (op : Op) (q : Private) (left : Contents) : Type 0 where
  pub src : ℕ
  pub field : ℕ
  pub val : ℕ
  pub slot : ℕ
  pub held : register p src ≡ Some slot
  pub within : field < p.fields
  pub room : HasRoom p
  pub operation : op ≡ ops.SwapField (place_of slot field p.fields) (word_for p val)
  pub epoch : epoch_at q ≡ epoch_at p
  pub log : q.log ≡ record p.log { entries = p.log.entries ++ entries.Put (place_of slot field p.fields) (word_for p val) word ∷ [] }
  pub mailbox : left ≡ box
  pub registers : q.registers ≡ p.registers

-- or it takes its mailbox for the log, with what the registers name, or with nothing where they let go.
pub record Retires (p : Private) (word : ℕ) (box : Contents) (op : Op) (q : Private) (left : Contents) : Type 0 where
  pub takes : (p.phase ≡ at.Crossing) ⊎ (p.phase ≡ at.Leaving)
  pub words : LeavesWords word op
  pub headers : LeavesHeaders word op
  pub epoch : epoch_at q ≡ epoch_at p + 1
  pub log : q.log ≡ box
  pub entries : left.entries ≡ p.log.entries
  pub snapshot : (left.snapshot ≡ p.registers) ⊎ (left.snapshot ≡ nulls_of p)
  pub registers : (q.registers ≡ p.registers) ⊎ (q.registers ≡ nulls_of p)

pub data Sees (p : Private) (word : ℕ) (box : Contents) (op : Op) (q : Private) (left : Contents) : Type 0 where
  keeps : Keeps p word box op q left → Sees p word box op q left
  bears : Bears p word box op q left → Sees p word box op q left
  puts : Puts p word box op q left → Sees p word box op q left
  retires : Retires p word box op q left → Sees p word box op q left

-- the epoch of a mutator that holds no mailbox before and after
epoch_stays : (p q : Private) {phase : phases.Phase} → p.phase ≡ phase → gives_back phase ≡ false → gives_back q.phase ≡ false → q.epoch ≡ p.epoch → epoch_at q ≡ epoch_at p
epoch_stays p q is here next same = epoch_here q next ∙ same ∙ sym (epoch_here p (ap gives_back is ∙ here))

module _ {p q : Private} {word : ℕ} {box left : Contents} {op : Op} (leaves : LeavesBox p box left) where
  -- a command is decided
  decided : {cmd : Cmd} {phase : phases.Phase} {its_op : Op} {registers : List (Option ℕ)} {told : Told} → Decides p op q cmd phase its_op registers p.log.entries told → gives_back phase ≡ false → (TakesBox phase → ⊥) → LeavesWords word its_op → LeavesHeaders word its_op
      → (registers ≡ p.registers) ⊎ ((r : ℕ) × (x : Option ℕ) × (registers ≡ slice_set p.registers r x) × ((slot : ℕ) → x ≡ Some slot → Finds p op word slot)) → Sees p word box op q left
  decided {registers = registers} d here other words headers which = Sees.keeps (record {
    epoch = epoch_stays p q d.phase here (ap (λ (x : Private). gives_back x.phase) d.after) (ap (λ (x : Private). x.epoch) d.after);
    log = ap (λ (x : Private). x.log) d.after;
    mailbox = box_stays leaves (λ e. other (subst TakesBox d.phase e));
    words = subst (LeavesWords word) (sym d.operation) words;
    headers = subst (LeavesHeaders word) (sym d.operation) headers;
    registers = elim which [
      | inl same ↦ inl (ap (λ (x : Private). x.registers) d.after ∙ same)
      | inr some ↦ inr (some.0, some.1, ap (λ (x : Private). x.registers) d.after ∙ some.2, some.3)
    ];
  })

  -- a work goes on
  went_on : {phase next : phases.Phase} {its_op : Op} → GoesOn p op q phase its_op next → gives_back phase ≡ false → gives_back next ≡ false → (TakesBox phase → ⊥) → LeavesWords word its_op → LeavesHeaders word its_op → Sees p word box op q left
  went_on g here then other words headers = Sees.keeps (record {
    epoch = epoch_stays p q g.phase here (ap (λ (x : Private). gives_back x.phase) g.after ∙ then) (ap (λ (x : Private). x.epoch) g.after);
    log = ap (λ (x : Private). x.log) g.after;
    mailbox = box_stays leaves (λ e. other (subst TakesBox g.phase e));
    words = subst (LeavesWords word) (sym g.operation) words;
    headers = subst (LeavesHeaders word) (sym g.operation) headers;
    registers = inl (ap (λ (x : Private). x.registers) g.after);
  })

-- what the mailbox is left with
gives : {p : Private} {box left : Contents} → TakesBox p.phase → LeavesBox p box left → (left.entries ≡ p.log.entries) × ((left.snapshot ≡ p.registers) ⊎ (left.snapshot ≡ nulls_of p))
gives takes (LeavesBox.retires phase is) = (ap (λ (x : Contents). x.entries) is, inl (ap (λ (x : Contents). x.snapshot) is))
gives takes (LeavesBox.lets_go phase is) = (ap (λ (x : Contents). x.entries) is, inr (ap (λ (x : Contents). x.snapshot) is))
gives takes (LeavesBox.keeps other is) = absurd (other takes)

pub seen_step : {p q : Private} {word : ℕ} {box left : Contents} {op : Op} → IsMachine p → Step p word box op q → LeavesBox p box left → Sees p word box op q left
seen_step m (Step.null reg d) b = decided b d refl (λ e. e) (λ cells e. refl) (λ cells e. refl) (inr (reg, None, refl, λ slot e. cc))
seen_step m (Step.copy dst src d) b = decided b d refl (λ e. e) (λ cells e. refl) (λ cells e. refl) (inr (dst, _, refl, λ slot e. Finds.had src e))
seen_step m (Step.compare x y d) b = decided b d refl (λ e. e) (λ cells e. refl) (λ cells e. refl) (inl refl)
seen_step m (Step.park d) b = decided b d refl (λ e. e) (λ cells e. refl) (λ cells e. refl) (inl refl)
seen_step m (Step.unpark d) b = decided b d refl (λ e. e) (λ cells e. refl) (λ cells e. refl) (inl refl)
seen_step m (Step.get_of_null dst src f none d) b = decided b d refl (λ e. e) (λ cells e. refl) (λ cells e. refl) (inl refl)
seen_step {word = word} m (Step.get dst src f slot is d) b =
    let operands = (at_phase _ (at.Begun (works.Command (commands.Get dst src f))) m d.phase).0 in
    decided b d refl (λ e. e) (load_leaves _ word) (λ cells e. refl) (inr (dst, target_of word, refl, λ n e. Finds.loaded src f slot is operands.2 d.operation e))
seen_step m (Step.put_of_null src f val none d) b = decided b d refl (λ e. e) (λ cells e. refl) (λ cells e. refl) (inl refl)
seen_step m (Step.put_refused src f val slot is full d) b = decided b d refl (λ e. e) (λ cells e. refl) (λ cells e. refl) (inl refl)
seen_step m (Step.put_into_leaf src f val slot is room leaf d) b = decided b d refl (λ e. e) (λ cells e. refl) (header_leaves _ _) (inl refl)
seen_step m (Step.put_begins src f val slot is room unmarked d) b = went_on b d refl refl (λ e. e) (λ cells e. refl) (header_leaves _ _)
seen_step {p} {q} {word} {box} {left} m (Step.put src f val slot d) b =
    let store : IsStore p src f val slot = (at_phase p (at.Storing src f val slot) m d.phase).0 in
    Sees.puts (record {
      src = src;
      field = f;
      val = val;
      slot = slot;
      held = store.source;
      within = store.operands.1;
      room = λ full. omega (arith, store.room, full);
      operation = d.operation;
      epoch = epoch_stays p q d.phase refl (ap (λ (x : Private). gives_back x.phase) d.after) (ap (λ (x : Private). x.epoch) d.after);
      log = ap (λ (x : Private). x.log) d.after;
      mailbox = box_stays b (subst TakesBox d.phase);
      registers = ap (λ (x : Private). x.registers) d.after;
    })
seen_step m (Step.value_of_null reg none d) b = decided b d refl (λ e. e) (λ cells e. refl) (λ cells e. refl) (inl refl)
seen_step m (Step.value reg slot is d) b = decided b d refl (λ e. e) (λ cells e. refl) (header_leaves _ _) (inl refl)
seen_step m (Step.new_refused reg label leaf full d) b = decided b d refl (λ e. e) (λ cells e. refl) (λ cells e. refl) (inl refl)
seen_step m (Step.new_begins reg label leaf room d) b = went_on b d refl refl (λ e. e) (λ cells e. refl) (λ cells e. refl)
seen_step {p} {q} {word} {box} {left} m (Step.new_wins reg label leaf before probed free d) b = Sees.bears (record {
  reg = reg;
  slot = probe_of p probed;
  label = label;
  leaf = leaf;
  operation = d.operation;
  free = free;
  epoch = epoch_stays p q d.phase refl (ap (λ (x : Private). gives_back x.phase) d.after) (ap (λ (x : Private). x.epoch) d.after);
  log = ap (λ (x : Private). x.log) d.after;
  mailbox = box_stays b (subst TakesBox d.phase);
  registers = ap (λ (x : Private). x.registers) d.after;
})
seen_step m (Step.new_goes_on reg label leaf before probed taken next d) b = went_on b d refl refl (λ e. e) (λ cells e. refl) (claim_leaves _ _ _ taken)
seen_step m (Step.new_finds_none reg label leaf before probed taken last d) b = went_on b d refl refl (λ e. e) (λ cells e. refl) (claim_leaves _ _ _ taken)
seen_step m (Step.new_is_full reg label leaf before still d) b = decided b d refl (λ e. e) (λ cells e. refl) (λ cells e. refl) (inl refl)
seen_step m (Step.new_is_busy reg label leaf before swept d) b = decided b d refl (λ e. e) (λ cells e. refl) (λ cells e. refl) (inl refl)
seen_step m (Step.leave_refused uncollected d) b = decided b d refl (λ e. e) (λ cells e. refl) (λ cells e. refl) (inl refl)
seen_step m (Step.leave_begins collected d) b = went_on b d refl refl (λ e. e) (λ cells e. refl) (λ cells e. refl)
seen_step {p} {q} {word} {box} {left} m (Step.leave l) b =
    let given = gives (subst TakesBox (sym l.phase) tt) b in
    Sees.retires (record {
      takes = inr l.phase;
      words = subst (LeavesWords word) (sym l.operation) (λ cells e. refl);
      headers = subst (LeavesHeaders word) (sym l.operation) (λ cells e. refl);
      epoch = epoch_next q (ap (λ (x : Private). gives_back x.phase) l.after) ∙ ap (λ (x : Private). x.epoch + 1) l.after ∙ ap (λ n. n + 1) (sym (epoch_here p (ap gives_back l.phase)));
      log = ap (λ (x : Private). x.log) l.after;
      entries = given.0;
      snapshot = given.1;
      registers = inr (ap (λ (x : Private). x.registers) l.after);
    })
seen_step {p} {q} {word} {box} {left} m (Step.leave_ends l) b = Sees.keeps (record {
  epoch = epoch_here q (ap (λ (x : Private). gives_back x.phase) l.after) ∙ ap (λ (x : Private). x.epoch) l.after ∙ sym (epoch_next p (ap gives_back l.phase));
  log = ap (λ (x : Private). x.log) l.after;
  mailbox = box_stays b (subst TakesBox l.phase);
  words = subst (LeavesWords word) (sym l.operation) (λ cells e. refl);
  headers = subst (LeavesHeaders word) (sym l.operation) (λ cells e. refl);
  registers = inl (ap (λ (x : Private). x.registers) l.after);
})
seen_step m (Step.poll_stays own d) b = went_on b d refl refl (λ e. e) (λ cells e. refl) (λ cells e. refl)
seen_step m (Step.poll_crosses other d) b = went_on b d refl refl (λ e. e) (λ cells e. refl) (λ cells e. refl)
seen_step {p} {q} {word} {box} {left} m (Step.take_box d) b =
    let given = gives (subst TakesBox (sym d.phase) tt) b in
    Sees.retires (record {
      takes = inl d.phase;
      words = subst (LeavesWords word) (sym d.operation) (λ cells e. refl);
      headers = subst (LeavesHeaders word) (sym d.operation) (λ cells e. refl);
      epoch = epoch_next q (ap (λ (x : Private). gives_back x.phase) d.after) ∙ ap (λ (x : Private). x.epoch + 1) d.after ∙ ap (λ n. n + 1) (sym (epoch_here p (ap gives_back d.phase)));
      log = ap (λ (x : Private). x.log) d.after;
      entries = given.0;
      snapshot = given.1;
      registers = inl (ap (λ (x : Private). x.registers) d.after);
    })
seen_step {p} {q} {word} {box} {left} m (Step.give_box d) b = Sees.keeps (record {
  epoch = epoch_here q (ap (λ (x : Private). gives_back x.phase) d.after) ∙ ap (λ (x : Private). x.epoch) d.after ∙ sym (epoch_next p (ap gives_back d.phase));
  log = ap (λ (x : Private). x.log) d.after;
  mailbox = box_stays b (subst TakesBox d.phase);
  words = subst (LeavesWords word) (sym d.operation) (λ cells e. refl);
  headers = subst (LeavesHeaders word) (sym d.operation) (λ cells e. refl);
  registers = inl (ap (λ (x : Private). x.registers) d.after);
})

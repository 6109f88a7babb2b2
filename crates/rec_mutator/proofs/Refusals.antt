-- Each refusal has its cause, rule by rule.
use Rattle.std.proofs.Common.{◌≡◌, ℕ, ◌<◌, Bool, true, false, Option, None, Some, List, length, refl, sym, ap, subst, ◌∙◌, arith}
use Rattle.std.proofs.lemmas.Bool.{false≢true}
use Rattle.rec_word.specs.Word.{target_of}
use Rattle.rec_word.specs.declared.op.Op.{Op}
use Rattle.rec_model.specs.declared.answer.Answer.{Answer}
use Rattle.rec_model.specs.declared.answer.Answer.TheVariants as answers
use Rattle.rec_model.specs.declared.command.Cmd.{Cmd}
use Rattle.rec_model.specs.declared.command.Cmd.TheVariants as commands
use Rattle.rec_model.specs.declared.told.Told.{Told}
use Rattle.rec_model.specs.Asking.{null_or_object, same, yes_or_no, plain, allocation}
use Rattle.rec_log.specs.declared.contents.Contents.{Contents}
use Rattle.rec_log.specs.declared.entry.Entry.{Entry}
use Rattle.rec_mutator.specs.Causes.{AnswersBy, is_refusal, LacksObject, MakesEntry, FindsLeaf, IsAwaited, FoundNoneAt, FoundNone, HasCause}
use Rattle.rec_mutator.specs.Private.{Private, register, is_busy, work_of, work_at, answer_of, answer_at, IsAt, IsScan, IsStore, IsMachine}
use Rattle.rec_mutator.specs.Took.{took_of, swapped_at, swapped_of, step_of, IsBetween}
use Rattle.rec_mutator.specs.Step.{Step, Decides, GoesOn, IsLogFull, HasRoom, IsStill}
use Rattle.rec_mutator.proofs.Scans.{scanned_none}
use Rattle.rec_mutator.specs.declared.made.Made.{Made}
use Rattle.rec_mutator.specs.declared.made.Made.TheVariants as makes
use Rattle.rec_mutator.specs.declared.phase.Phase.{Phase}
use Rattle.rec_mutator.specs.declared.phase.Phase.TheVariants.{Begun, Scanned, Storing, Swapping, Leaving, Retiring, Parting}
use Rattle.rec_mutator.specs.declared.work.Work.{Work}
use Rattle.rec_mutator.specs.declared.work.Work.TheVariants as works
use Rattle.rec_mutator.proofs.Steps.{step_made}

-- one answer in two results
pub same_told : (s t : Told) → ◌≡◌ {A = Option Made} (Some (makes.Answered s)) (Some (makes.Answered t)) → s ≡ t
same_told s t is = cc

-- one command in two works
pub same_command : (c d : Cmd) → ◌≡◌ {A = Option Work} (Some (works.Command c)) (Some (works.Command d)) → c ≡ d
same_command c d is = cc

-- what a step decides has its cause, if the answer that it decides has
decided : {p : Private} {op : Op} {q : Private} {its_cmd : Cmd} {at : Phase} {its_op : Op} {registers : List (Option ℕ)} {entries : List Entry} {its_told : Told} (word : ℕ) (cmd : Cmd) (told : Told)
    → work_at at ≡ Some (works.Command its_cmd) → work_of p ≡ Some (works.Command cmd) → answer_of q ≡ Some (makes.Answered told)
    → (d : Decides p op q its_cmd at its_op registers entries its_told) → HasCause p q its_cmd word its_told.answer → HasCause p q cmd word told.answer
decided {p = p} {q = q} {its_cmd = its_cmd} {at = at} {its_told = its_told} word cmd told at_work work answer d cause =
    let cmds : its_cmd ≡ cmd = same_command its_cmd cmd (sym at_work ∙ sym (ap work_at d.phase) ∙ work) in
    let tolds : its_told ≡ told = same_told its_told told (sym (ap answer_of d.after) ∙ answer) in
    subst (λ (c : Cmd). HasCause p q c word told.answer) cmds (subst (λ (t : Told). HasCause p q its_cmd word t.answer) tolds cause)

-- what answers nothing answers no command
unanswered : (q : Private) (told : Told) → answer_of q ≡ None → answer_of q ≡ Some (makes.Answered told) → ⊥
unanswered q told none answer =
    let not_so : ◌≡◌ {A = Option Made} None (Some (makes.Answered told)) = sym none ∙ answer in
    (cc)

-- a step that goes on answers nothing
goes_on : {p : Private} {op : Op} {q : Private} {at : Phase} {its_op : Op} {next_phase : Phase} (told : Told)
    → answer_at next_phase ≡ None → answer_of q ≡ Some (makes.Answered told) → GoesOn p op q at its_op next_phase → ⊥
goes_on {q = q} told none answer g = unanswered q told (ap answer_of g.after ∙ none) answer

-- what a poll answers is no command's answer
crosses : (q : Private) (epoch : Option ℕ) (told : Told) → answer_of q ≡ Some (makes.Crossed epoch) → answer_of q ≡ Some (makes.Answered told) → ⊥
crosses q epoch told poll answer =
    let not_so : ◌≡◌ {A = Option Made} (Some (makes.Crossed epoch)) (Some (makes.Answered told)) = sym poll ∙ answer in
    (cc)

-- the registers and the log stay
stays : {p : Private} {op : Op} {q : Private} {cmd : Cmd} {at : Phase} {its_op : Op} {told : Told}
    → Decides p op q cmd at its_op p.registers p.log.entries told → (q.registers ≡ p.registers) × (q.log ≡ p.log)
stays d = (ap (λ (x : Private). x.registers) d.after, ap (λ (x : Private). x.log) d.after)

-- no scan ended
not_scanned : (p : Private) (at : Phase) → p.phase ≡ at → ((before : ℕ) → FoundNoneAt at before → ⊥) → (before : ℕ) → FoundNone p before → ⊥
not_scanned p at is none before found = none before (subst (λ x. FoundNoneAt x before) is found.scanned)

-- an answer that is no refusal
plain_cause : (p q : Private) (cmd : Cmd) (word : ℕ) (answer : Answer) → is_refusal answer ≡ false
    → (LacksObject p cmd → ⊥) → (IsLogFull p × MakesEntry p cmd → ⊥) → ((before : ℕ) → FoundNone p before → ⊥) → (FindsLeaf p word cmd → ⊥) → (IsAwaited p word cmd → ⊥) → HasCause p q cmd word answer
plain_cause p q cmd word answer not_so some room none plain home =
    record {
      no_object = (λ is. absurd (false≢true (sym not_so ∙ ap is_refusal is)), λ is. absurd (some is));
      log_full = (λ is. absurd (false≢true (sym not_so ∙ ap is_refusal is)), λ is. absurd (room is));
      no_field = (λ is. absurd (false≢true (sym not_so ∙ ap is_refusal is)), λ is. absurd (plain is));
      not_yet = (λ is. absurd (false≢true (sym not_so ∙ ap is_refusal is)), λ is. absurd (home is));
      full = (λ is. absurd (false≢true (sym not_so ∙ ap is_refusal is)), λ is. absurd (none is.0 is.1));
      busy = λ before after. (λ is. absurd (false≢true (sym not_so ∙ ap is_refusal is)), λ is. absurd (none before is.0));
      refused = λ is. absurd (false≢true (sym not_so ∙ is));
    }

-- the refusal of a command whose register is null
lacking_cause : (p q : Private) (cmd : Cmd) (word : ℕ) → (q.registers ≡ p.registers) × (q.log ≡ p.log) → LacksObject p cmd → (MakesEntry p cmd → ⊥) → ((before : ℕ) → FoundNone p before → ⊥) → (FindsLeaf p word cmd → ⊥) → (IsAwaited p word cmd → ⊥)
    → HasCause p q cmd word answers.NoObject
lacking_cause p q cmd word kept lacks no_entry none plain home =
    record {
      no_object = (λ _. lacks, λ _. refl);
      log_full = (λ is. cc, λ is. absurd (no_entry is.1));
      no_field = (λ is. cc, λ is. absurd (plain is));
      not_yet = (λ is. cc, λ is. absurd (home is));
      full = (λ is. cc, λ is. absurd (none is.0 is.1));
      busy = λ before after. (λ is. cc, λ is. absurd (none before is.0));
      refused = λ _. kept;
    }

-- the refusal of a command whose entry finds no room
full_log_cause : (p q : Private) (cmd : Cmd) (word : ℕ) → (q.registers ≡ p.registers) × (q.log ≡ p.log) → IsLogFull p → MakesEntry p cmd → (LacksObject p cmd → ⊥) → ((before : ℕ) → FoundNone p before → ⊥) → (FindsLeaf p word cmd → ⊥) → (IsAwaited p word cmd → ⊥)
    → HasCause p q cmd word answers.LogFull
full_log_cause p q cmd word kept full entry some none plain home =
    record {
      no_object = (λ is. cc, λ is. absurd (some is));
      log_full = (λ _. (full, entry), λ _. refl);
      no_field = (λ is. cc, λ is. absurd (plain is));
      not_yet = (λ is. cc, λ is. absurd (home is));
      full = (λ is. cc, λ is. absurd (none is.0 is.1));
      busy = λ before after. (λ is. cc, λ is. absurd (none before is.0));
      refused = λ _. kept;
    }

-- the refusal of leaving
awaited_cause : (p q : Private) (word : ℕ) → (q.registers ≡ p.registers) × (q.log ≡ p.log) → ((before : ℕ) → FoundNone p before → ⊥) → IsAwaited p word commands.Leave → HasCause p q commands.Leave word answers.NotYet
awaited_cause p q word kept none awaited =
    record {
      no_object = (λ is. cc, λ is. absurd is);
      log_full = (λ is. cc, λ is. absurd is.1);
      no_field = (λ is. cc, λ is. absurd is);
      not_yet = (λ _. awaited, λ _. refl);
      full = (λ is. cc, λ is. absurd (none is.0 is.1));
      busy = λ before after. (λ is. cc, λ is. absurd (none before is.0));
      refused = λ _. kept;
    }

-- a mutator that gives its last mailbox back has begun to leave before
not_begun : (p : Private) → p.phase ≡ Parting → p.phase ≡ Begun (works.Command commands.Leave) → ⊥
not_begun p is begun = let no : Parting ≡ Begun (works.Command commands.Leave) = sym is ∙ begun in cc

-- a register isn't null and an object at once
not_both : (x : Option ℕ) (slot : ℕ) → x ≡ Some slot → x ≡ None → ⊥
not_both x slot some none = cc

-- the refusal of a write into a leaf
leaf_cause : (p q : Private) (src f val slot word : ℕ) → (q.registers ≡ p.registers) × (q.log ≡ p.log) → register p src ≡ Some slot → HasRoom p → FindsLeaf p word (commands.Put src f val) → ((before : ℕ) → FoundNone p before → ⊥)
    → HasCause p q (commands.Put src f val) word answers.NoField
leaf_cause p q src f val slot word kept names room leaf none =
    record {
      no_object = (λ is. cc, λ is. absurd (not_both (register p src) slot names is));
      log_full = (λ is. cc, λ is. absurd (room is.0));
      no_field = (λ _. leaf, λ _. refl);
      not_yet = (λ is. cc, λ is. absurd is);
      full = (λ is. cc, λ is. absurd (none is.0 is.1));
      busy = λ before after. (λ is. cc, λ is. absurd (none before is.0));
      refused = λ _. kept;
    }

-- an allocation needs no object, makes an entry, and finds no leaf
allocation_lacks : (p : Private) (reg label : ℕ) (leaf : Bool) → LacksObject p (allocation leaf reg label) → ⊥
allocation_lacks p reg label true e = e
allocation_lacks p reg label false e = e

allocation_entry : (p : Private) (reg label : ℕ) (leaf : Bool) → MakesEntry p (allocation leaf reg label)
allocation_entry p reg label true = tt
allocation_entry p reg label false = tt

allocation_finds : (p : Private) (word reg label : ℕ) (leaf : Bool) → FindsLeaf p word (allocation leaf reg label) → ⊥
allocation_finds p word reg label true e = e
allocation_finds p word reg label false e = e

allocation_stays : (p : Private) (word reg label : ℕ) (leaf : Bool) → IsAwaited p word (allocation leaf reg label) → ⊥
allocation_stays p word reg label true e = e
allocation_stays p word reg label false e = e

-- a log that has room isn't full
has_space : (p : Private) → length p.log.entries < p.log.capacity → IsLogFull p → ⊥
has_space p room full = omega arith

has_room : (p : Private) (reg : ℕ) → IsScan p reg → IsLogFull p → ⊥
has_room p reg scan full = has_space p scan.room full

-- what holds in the phase of a machine
pub at_phase : (p : Private) (at : Phase) → IsMachine p → p.phase ≡ at → IsAt p at
at_phase p at kept is = subst (IsAt p) is kept.now

-- the freed word stays the same along an equation
still_along : (m n word : ℕ) → m ≡ n → IsStill m word → IsStill n word
still_along m n word is still = subst (λ k. IsStill k word) is still

-- a scan that found every slot taken, with no sweep
full_cause : (p q : Private) (reg label : ℕ) (leaf : Bool) (before word : ℕ) → (q.registers ≡ p.registers) × (q.log ≡ p.log) → (IsLogFull p → ⊥) → p.phase ≡ Scanned reg label leaf before → IsStill before word
    → HasCause p q (allocation leaf reg label) word answers.Full
full_cause p q reg label leaf before word kept room is still =
    record {
      no_object = (λ e. cc, λ e. absurd (allocation_lacks p reg label leaf e));
      log_full = (λ e. cc, λ e. absurd (room e.0));
      no_field = (λ e. cc, λ e. absurd (allocation_finds p word reg label leaf e));
      not_yet = (λ e. cc, λ e. absurd (allocation_stays p word reg label leaf e));
      full = (λ _. (before, scanned_none p reg label leaf before is, still), λ _. refl);
      busy = λ first after. (λ e. cc, λ e. absurd (e.2 (still_along before first word (subst (λ x. FoundNoneAt x first) is e.0.scanned) still)));
      refused = λ _. kept;
    }

-- the parts of a busy answer
busy_parts : (m n k l : ℕ) → answers.Busy m n ≡ answers.Busy k l → (m ≡ k) × (n ≡ l)
busy_parts m n k l is = let first : m ≡ k = cc in let second : n ≡ l = cc in (first, second)

-- a scan that found every slot taken, while a sweep ran, began or ended
busy_cause : (p q : Private) (reg label : ℕ) (leaf : Bool) (before word : ℕ) → (q.registers ≡ p.registers) × (q.log ≡ p.log) → (IsLogFull p → ⊥) → p.phase ≡ Scanned reg label leaf before → (IsStill before word → ⊥)
    → HasCause p q (allocation leaf reg label) word (answers.Busy before word)
busy_cause p q reg label leaf before word kept room is moves =
    record {
      no_object = (λ e. cc, λ e. absurd (allocation_lacks p reg label leaf e));
      log_full = (λ e. cc, λ e. absurd (room e.0));
      no_field = (λ e. cc, λ e. absurd (allocation_finds p word reg label leaf e));
      not_yet = (λ e. cc, λ e. absurd (allocation_stays p word reg label leaf e));
      full = (λ e. cc, λ e. absurd (moves (still_along e.0 before word (sym (subst (λ x. FoundNoneAt x e.0) is e.1.scanned)) e.2)));
      busy = λ first after. (
        λ e.
            let parts : (before ≡ first) × (word ≡ after) = busy_parts before word first after e in
            (subst (λ b. FoundNone p b) parts.0 (scanned_none p reg label leaf before is), sym parts.1, λ still. moves (still_along first before word (sym parts.0) still)),
        λ e.
            let begin : before ≡ first = subst (λ x. FoundNoneAt x first) is e.0.scanned in
            let end : word ≡ after = sym e.1 in
            (cc),
      );
      refused = λ _. kept;
    }

-- an answer of a read is no refusal
pub read_made : (x : Option ℕ) → is_refusal (null_or_object x) ≡ false
read_made None = refl
read_made (Some slot) = refl

-- nor is one of a comparison
pub compare_made : (b : Bool) → is_refusal (yes_or_no b) ≡ false
compare_made true = refl
compare_made false = refl

-- every step that answers has its cause
step_cause : {p : Private} {word : ℕ} {box : Contents} {op : Op} {q : Private} (cmd : Cmd) (told : Told) → IsMachine p → work_of p ≡ Some (works.Command cmd) → answer_of q ≡ Some (makes.Answered told)
    → Step p word box op q → HasCause p q cmd word told.answer
step_cause {p = p} {word = word} {q = q} cmd told kept work answer (Step.null reg d) =
    decided word cmd told refl work answer d (plain_cause p q (commands.Null reg) word answers.Done refl (λ e. e) (λ e. e.1) (not_scanned p _ d.phase (λ _ e. e)) (λ e. e) (λ e. e))
step_cause {p = p} {word = word} {q = q} cmd told kept work answer (Step.copy dst src d) =
    decided word cmd told refl work answer d (plain_cause p q (commands.Copy dst src) word answers.Done refl (λ e. e) (λ e. e.1) (not_scanned p _ d.phase (λ _ e. e)) (λ e. e) (λ e. e))
step_cause {p = p} {word = word} {q = q} cmd told kept work answer (Step.compare a b d) =
    decided word cmd told refl work answer d
    (plain_cause p q (commands.Same a b) word (yes_or_no (same (register p a) (register p b))) (compare_made (same (register p a) (register p b))) (λ e. e) (λ e. e.1) (not_scanned p _ d.phase (λ _ e. e)) (λ e. e) (λ e. e))
step_cause {p = p} {word = word} {q = q} cmd told kept work answer (Step.park d) =
    decided word cmd told refl work answer d (plain_cause p q commands.Park word answers.Done refl (λ e. e) (λ e. e.1) (not_scanned p _ d.phase (λ _ e. e)) (λ e. e) (λ e. e))
step_cause {p = p} {word = word} {q = q} cmd told kept work answer (Step.unpark d) =
    decided word cmd told refl work answer d (plain_cause p q commands.Unpark word answers.Done refl (λ e. e) (λ e. e.1) (not_scanned p _ d.phase (λ _ e. e)) (λ e. e) (λ e. e))
step_cause {p = p} {word = word} {q = q} cmd told kept work answer (Step.get_of_null dst src f names d) =
    decided word cmd told refl work answer d (lacking_cause p q (commands.Get dst src f) word (stays d) names (λ e. e) (not_scanned p _ d.phase (λ _ e. e)) (λ e. e) (λ e. e))
step_cause {p = p} {word = word} {q = q} cmd told kept work answer (Step.get dst src f slot names d) =
    decided word cmd told refl work answer d
    (plain_cause p q (commands.Get dst src f) word (null_or_object (target_of word)) (read_made (target_of word)) (not_both (register p src) slot names) (λ e. e.1) (not_scanned p _ d.phase (λ _ e. e)) (λ e. e) (λ e. e))
step_cause {p = p} {word = word} {q = q} cmd told kept work answer (Step.put_of_null src f val names d) =
    decided word cmd told refl work answer d (lacking_cause p q (commands.Put src f val) word (stays d) names (λ e. not_both (register p src) e.0 e.1 names) (not_scanned p _ d.phase (λ _ e. e)) (λ e. not_both (register p src) e.1.0 e.1.1 names) (λ e. e))
step_cause {p = p} {word = word} {q = q} cmd told kept work answer (Step.put_refused src f val slot names full d) =
    decided word cmd told refl work answer d
    (full_log_cause p q (commands.Put src f val) word (stays d) full (slot, names) (not_both (register p src) slot names) (not_scanned p _ d.phase (λ _ e. e)) (λ e. e.2 full) (λ e. e))
step_cause {p = p} {word = word} {q = q} cmd told kept work answer (Step.put_into_leaf src f val slot names room leaf d) =
    decided word cmd told refl work answer d (leaf_cause p q src f val slot word (stays d) names room (d.phase, (slot, names), room, leaf) (not_scanned p _ d.phase (λ _ e. e)))
step_cause cmd told kept work answer (Step.put_begins src f val slot names room leaf g) = absurd (goes_on told refl answer g)
step_cause {p = p} {word = word} {q = q} cmd told kept work answer (Step.put src f val slot d) =
    let store : IsStore p src f val slot = (at_phase p _ kept d.phase).0 in
    let begun : p.phase ≡ Begun (works.Command (commands.Put src f val)) → ⊥ = λ e. let no : Storing src f val slot ≡ Begun (works.Command (commands.Put src f val)) = sym d.phase ∙ e in cc in
    decided word cmd told refl work answer d
    (plain_cause p q (commands.Put src f val) word answers.Done refl (not_both (register p src) slot store.source) (λ e. has_space p store.room e.0) (not_scanned p _ d.phase (λ _ e. e)) (λ e. begun e.0) (λ e. e))
step_cause {p = p} {word = word} {q = q} cmd told kept work answer (Step.value_of_null reg names d) =
    decided word cmd told refl work answer d (lacking_cause p q (commands.Value reg) word (stays d) names (λ e. e) (not_scanned p _ d.phase (λ _ e. e)) (λ e. e) (λ e. e))
step_cause {p = p} {word = word} {q = q} cmd told kept work answer (Step.value reg slot names d) =
    decided word cmd told refl work answer d
    (plain_cause p q (commands.Value reg) word _ refl (not_both (register p reg) slot names) (λ e. e.1) (not_scanned p _ d.phase (λ _ e. e)) (λ e. e) (λ e. e))
step_cause {p = p} {word = word} {q = q} cmd told kept work answer (Step.new_refused reg label leaf full d) =
    decided word cmd told refl work answer d (full_log_cause p q (allocation leaf reg label) word (stays d) full (allocation_entry p reg label leaf) (allocation_lacks p reg label leaf) (not_scanned p _ d.phase (λ _ e. e)) (allocation_finds p word reg label leaf) (allocation_stays p word reg label leaf))
step_cause cmd told kept work answer (Step.new_begins reg label leaf room g) = absurd (goes_on told refl answer g)
step_cause {p = p} {word = word} {q = q} cmd told kept work answer (Step.new_wins reg label leaf before probed free d) =
    decided word cmd told refl work answer d
    (plain_cause p q (allocation leaf reg label) word answers.Done refl (allocation_lacks p reg label leaf) (λ e. has_room p reg (at_phase p _ kept d.phase).0 e.0) (not_scanned p _ d.phase (λ _ e. e)) (allocation_finds p word reg label leaf) (allocation_stays p word reg label leaf))
step_cause cmd told kept work answer (Step.new_goes_on reg label leaf before probed taken more g) = absurd (goes_on told refl answer g)
step_cause cmd told kept work answer (Step.new_finds_none reg label leaf before probed taken last g) = absurd (goes_on told refl answer g)
step_cause {p = p} {word = word} {q = q} cmd told kept work answer (Step.new_is_full reg label leaf before still d) =
    decided word cmd told refl work answer d (full_cause p q reg label leaf before word (stays d) (has_room p reg (at_phase p _ kept d.phase).0) d.phase still)
step_cause {p = p} {word = word} {q = q} cmd told kept work answer (Step.new_is_busy reg label leaf before moves d) =
    decided word cmd told refl work answer d (busy_cause p q reg label leaf before word (stays d) (has_room p reg (at_phase p _ kept d.phase).0) d.phase moves)
step_cause {p = p} {word = word} {q = q} cmd told kept work answer (Step.leave_refused uncollected d) =
    decided word cmd told refl work answer d (awaited_cause p q word (stays d) (not_scanned p _ d.phase (λ _ e. e)) (d.phase, uncollected))
step_cause cmd told kept work answer (Step.leave_begins collected g) = absurd (goes_on told refl answer g)
step_cause {q = q} cmd told kept work answer (Step.leave l) = absurd (unanswered q told (ap answer_of l.after) answer)
step_cause {p = p} {word = word} {q = q} cmd told kept work answer (Step.leave_ends l) =
    let cmds : commands.Leave ≡ cmd = same_command commands.Leave cmd (sym (ap work_at l.phase) ∙ work) in
    let tolds : plain answers.Done ≡ told = same_told (plain answers.Done) told (sym (ap answer_of l.after) ∙ answer) in
    subst (λ (c : Cmd). HasCause p q c word told.answer) cmds
    (subst (λ (t : Told). HasCause p q commands.Leave word t.answer) tolds
    (plain_cause p q commands.Leave word answers.Done refl (λ e. e) (λ e. e.1) (not_scanned p _ l.phase (λ _ e. e)) (λ e. e) (λ e. not_begun p l.phase e.0)))
step_cause {q = q} cmd told kept work answer (Step.poll_stays own g) = absurd (crosses q None told (ap answer_of g.after) answer)
step_cause cmd told kept work answer (Step.poll_crosses other g) = absurd (goes_on told refl answer g)
step_cause {q = q} cmd told kept work answer (Step.take_box c) = absurd (unanswered q told (ap answer_of c.after) answer)
step_cause {q = q} cmd told kept work answer (Step.give_box c) = absurd (crosses q _ told (ap answer_of c.after) answer)

-- the step that takes the mailbox of a mutator that leaves decides that it is done
pub leaving_cause : (p q : Private) (word : ℕ) → p.phase ≡ Leaving → HasCause p q commands.Leave word answers.Done
leaving_cause p q word is =
    plain_cause p q commands.Leave word answers.Done refl (λ e. e) (λ e. e.1) (not_scanned p Leaving is (λ _ e. e)) (λ e. e)
    (λ e. let no : Leaving ≡ Begun (works.Command commands.Leave) = sym is ∙ e.0 in (cc))

-- every answer has its cause
pub answer_cause : (p : Private) (word : ℕ) (box : Contents) (cmd : Cmd) (told : Told) → IsMachine p → AnswersBy p word box cmd told → HasCause p (step_of p word box) cmd word told.answer
answer_cause p word box cmd told kept by = step_cause cmd told kept by.work by.answer (step_made p word box by.busy by.between)

-- where a command is answered no mailbox waits to be swapped: the whole step is what is learnt of the word
unswapped : (q : Private) (box : Contents) (told : Told) (at : Phase) → answer_at at ≡ Some (makes.Answered told) → swapped_at q box at ≡ q
unfolding swapped_at
unswapped q box told Swapping answer = let not_so : ◌≡◌ {A = Option Made} None (Some (makes.Answered told)) = answer in absurd (cc)
unswapped q box told Retiring answer = let not_so : ◌≡◌ {A = Option Made} None (Some (makes.Answered told)) = answer in absurd (cc)
unswapped q box told _ answer = refl

-- so what is learnt has the cause of its answer
pub took_cause : (p : Private) (word : ℕ) (cmd : Cmd) (told : Told) → IsMachine p → is_busy p ≡ true → IsBetween p.phase → work_of p ≡ Some (works.Command cmd) → answer_of (took_of p word) ≡ Some (makes.Answered told)
    → HasCause p (took_of p word) cmd word told.answer
unfolding step_of swapped_of
took_cause p word cmd told kept busy between work answer =
    let whole : step_of p word p.log ≡ took_of p word = unswapped (took_of p word) p.log told (took_of p word).phase answer in
    subst (λ q. HasCause p q cmd word told.answer) whole (step_cause cmd told kept work (ap answer_of whole ∙ answer) (step_made p word p.log busy between))

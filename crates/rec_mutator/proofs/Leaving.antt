-- A mutator that holds its mailbox to leave was leaving before its last step.
use Rattle.std.proofs.Common.{◌≡◌, ℕ, Bool, true, false, List, Option, refl, sym, ap, ◌∙◌}
use Rattle.std.proofs.lemmas.Bool.{true≢false}
use Rattle.rec_word.specs.declared.op.Op.{Op}
use Rattle.rec_log.specs.declared.contents.Contents.{Contents}
use Rattle.rec_log.specs.declared.entry.Entry.{Entry}
use Rattle.rec_model.specs.declared.command.Cmd.{Cmd}
use Rattle.rec_model.specs.declared.told.Told.{Told}
use Rattle.rec_mutator.specs.Private.{Private}
use Rattle.rec_mutator.specs.Step.{Step, Decides, GoesOn, Crosses}
use Rattle.rec_mutator.specs.declared.phase.Phase.{Phase}
use Rattle.rec_mutator.specs.declared.phase.Phase.TheVariants.{Leaving, Parting}

abbrev is_parting : Phase → Bool
is_parting Parting = true
is_parting _ = false

-- a step that leads to another phase
elsewhere : (p q : Private) (phase : Phase) → q.phase ≡ phase → is_parting phase ≡ false → q.phase ≡ Parting → p.phase ≡ Leaving
elsewhere p q phase is other parts = absurd (true≢false (sym (ap is_parting parts) ∙ ap is_parting is ∙ other))

decided : {p : Private} {op : Op} {q : Private} {cmd : Cmd} {at : Phase} {its_op : Op} {registers : List (Option ℕ)} {entries : List Entry} {told : Told}
    → Decides p op q cmd at its_op registers entries told → q.phase ≡ Parting → p.phase ≡ Leaving
decided {p = p} {q = q} d parts = elsewhere p q _ (ap (λ (x : Private). x.phase) d.after) refl parts

goes_on : {p : Private} {op : Op} {q : Private} {at : Phase} {its_op : Op} {next_phase : Phase} → is_parting next_phase ≡ false → GoesOn p op q at its_op next_phase → q.phase ≡ Parting → p.phase ≡ Leaving
goes_on {p = p} {q = q} other g parts = elsewhere p q _ (ap (λ (x : Private). x.phase) g.after) other parts

crosses : {p : Private} {op : Op} {q : Private} {at : Phase} {its_op : Op} {epoch : ℕ} {log : Contents} {next_phase : Phase}
    → is_parting next_phase ≡ false → Crosses p op q at its_op epoch log next_phase → q.phase ≡ Parting → p.phase ≡ Leaving
crosses {p = p} {q = q} other c parts = elsewhere p q _ (ap (λ (x : Private). x.phase) c.after) other parts

pub parts_from : {p : Private} {word : ℕ} {box : Contents} {op : Op} {q : Private} → Step p word box op q → q.phase ≡ Parting → p.phase ≡ Leaving
parts_from (Step.null reg d) = decided d
parts_from (Step.copy dst src d) = decided d
parts_from (Step.compare a b d) = decided d
parts_from (Step.park d) = decided d
parts_from (Step.unpark d) = decided d
parts_from (Step.get_of_null dst src f names d) = decided d
parts_from (Step.get dst src f slot names d) = decided d
parts_from (Step.put_of_null src f val names d) = decided d
parts_from (Step.put_refused src f val slot names full d) = decided d
parts_from (Step.put_into_leaf src f val slot names room leaf d) = decided d
parts_from (Step.put_begins src f val slot names room leaf g) = goes_on refl g
parts_from (Step.put src f val slot d) = decided d
parts_from (Step.value_of_null reg names d) = decided d
parts_from (Step.value reg slot names d) = decided d
parts_from (Step.new_refused reg label leaf full d) = decided d
parts_from (Step.new_begins reg label leaf room g) = goes_on refl g
parts_from (Step.new_wins reg label leaf before probed free d) = decided d
parts_from (Step.new_goes_on reg label leaf before probed taken more g) = goes_on refl g
parts_from (Step.new_finds_none reg label leaf before probed taken last g) = goes_on refl g
parts_from (Step.new_is_full reg label leaf before still d) = decided d
parts_from (Step.new_is_busy reg label leaf before moves d) = decided d
parts_from (Step.leave_refused uncollected d) = decided d
parts_from (Step.leave_begins collected g) = goes_on refl g
parts_from (Step.leave l) = λ parts. l.phase
parts_from {p = p} {q = q} (Step.leave_ends l) = elsewhere p q _ (ap (λ (x : Private). x.phase) l.after) refl
parts_from (Step.poll_stays own g) = goes_on refl g
parts_from (Step.poll_crosses other g) = goes_on refl g
parts_from (Step.take_box c) = crosses refl c
parts_from (Step.give_box c) = crosses refl c

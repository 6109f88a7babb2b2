-- Whoever has a command left hasn't left the heap.
use Rattle.std.proofs.Common.{◌≡◌, ◌≢◌, inl, inr, ℕ, ◌+◌, ◌-◌, ◌<◌, ◌≤◌, false, Some, List, slice_index_or, slice_set, length, refl, sym, ap, subst, ◌∙◌, arith}
use Rattle.std.specs.List.{slice_get}
use Rattle.std.proofs.lemmas.Bool.{cases_eq}
use Rattle.std.proofs.lemmas.List.{get_or-set_same, get_or-set_other}
use Rattle.rec_model.specs.declared.answer.Answer.{Answer}
use Rattle.rec_model.specs.declared.command.Cmd.{Cmd}
use Rattle.rec_model.specs.declared.command.Cmd.TheVariants.{Leave}
use Rattle.rec_mutator.specs.Private.{Private}
use Rattle.rec_core.specs.Config.{IsMutator}
use Rattle.rec_collector.specs.declared.turn.Turn.{Turn}
use Rattle.rec_core.specs.Core.{Core, mutator, nobody}
use Rattle.rec_core.specs.Turn.{IsTurn}
use Rattle.rec_core.specs.declared.config.Config.{Config}
use Rattle.rec_world.specs.World.{is_leave_done}
use Rattle.rec_script.specs.Script.{ScriptContents, LeavesLast}
use Rattle.rec_play.specs.Moves.{AreThere, IsSpent, made_by}
use Rattle.rec_play.specs.Run.{HasCommand, commands_of}
use Rattle.rec_play.specs.Start.{MayBegin}
use Rattle.rec_play.proofs.Due.{has_next}

-- no command but the last one is that by which the mutator leaves
pub stays_on : (cmds : List Cmd) (made : ℕ) (cmd : Cmd) (answer : Answer) → LeavesLast cmds → slice_get cmds made ≡ Some cmd → made + 1 < length cmds → is_leave_done cmd answer ≡ false
stays_on cmds made Leave answer last is more = absurd (omega (arith, more, last made is))
stays_on cmds made _ answer last is more = refl

-- nobody has left where a run begins
pub begun_there : (script : ScriptContents) (made : List ℕ) (w : Core) → MayBegin script w → AreThere script made w
begun_there script made w begins t next =
    let is : HasCommand script t (made_by made t) = has_next script t (made_by made t) next in
    begins.present t (subst (λ (c : Config). IsMutator c t) (sym begins.config) (is.some, is.most))

-- where all commands are made, nobody has one left
pub spent_there : (script : ScriptContents) (made : List ℕ) (w : Core) → ((t : ℕ) → 1 ≤ t → t ≤ length script.commands → IsSpent script made t) → AreThere script made w
spent_there script made w all t next =
    let is : HasCommand script t (made_by made t) = has_next script t (made_by made t) next in
    absurd (omega (arith, next, all t is.some is.most))

-- a step of the collector changes no mutator
pub left_behind : (before after : Core) (answer : Turn) (t : ℕ) → IsTurn before after answer → (mutator after t).left ≡ (mutator before t).left
left_behind before after answer t turn = ap (λ (ps : List Private). (slice_index_or ps (t - 1) nobody).left) turn.mutators

pub there_behind : (script : ScriptContents) (made : List ℕ) (before after : Core) (answer : Turn) → IsTurn before after answer → AreThere script made before → AreThere script made after
there_behind script made before after answer turn there t next = left_behind before after answer t turn ∙ there t next

-- nor does a poll let anyone leave
pub polled_there : (script : ScriptContents) (made : List ℕ) (t : ℕ) (before after : Core) → ((s : ℕ) → s ≢ t → 1 ≤ s → mutator after s ≡ mutator before s) → (mutator after t).left ≡ (mutator before t).left
    → AreThere script made before → AreThere script made after
polled_there script made t before after others own all s next = elim (cases_eq s t) [
  | inl same ↦ subst (λ x. (mutator after x).left ≡ (mutator before x).left) (sym same) own ∙ all s next
  | inr other ↦ ap (λ (p : Private). p.left) (others s other (has_next script s (made_by made s) next).some) ∙ all s next
]

-- A mutator that makes a command is there until its last one, and the others go on as before.
pub made_there : (script : ScriptContents) (made : List ℕ) (t : ℕ) (before after : Core) → 1 ≤ t → t - 1 < length made → ((s : ℕ) → s ≢ t → 1 ≤ s → mutator after s ≡ mutator before s)
    → (made_by made t + 1 < length (commands_of script t) → (mutator after t).left ≡ false) → AreThere script made before → AreThere script (slice_set made (t - 1) (made_by made t + 1)) after
made_there script made t before after some within others own all s next = elim (cases_eq s t) [
  | inl same ↦
      let P : ℕ → Type 0 = λ x. made_by now x < length (commands_of script x) in
      let mine : made_by now t ≡ made_by made t + 1 = get_or-set_same made (t - 1) (made_by made t + 1) 0 within in
      subst (λ x. (mutator after x).left ≡ false) (sym same) (own (omega (arith, mine, subst P same next)))
  | inr other ↦
      let first : 1 ≤ s = (has_next script s (made_by now s) next).some in
      let stays : made_by now s ≡ made_by made s = get_or-set_other made (t - 1) (s - 1) (made_by made t + 1) 0 (λ at. other (omega (arith, at, first, some))) in
      ap (λ (p : Private). p.left) (others s other first) ∙ all s (omega (arith, stays, next))
]
  where
    now : List ℕ
    now = slice_set made (t - 1) (made_by made t + 1)

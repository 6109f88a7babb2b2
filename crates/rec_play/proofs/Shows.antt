-- What a watch was shown, as turns of the rule are made.
use Rattle.std.proofs.Common.{◌≡◌, ℕ, suc, ◌<◌, Option, None, Some, IfSome, IsNone, List, [], ◌++◌, length, refl, sym, ap, subst, ◌∙◌, arith}
use Rattle.std.proofs.lemmas.List.{append-nil}
use Rattle.rec_model.specs.declared.command.Cmd.{Cmd}
use Rattle.rec_model.specs.declared.told.Told.{Told}
use Rattle.rec_collector.specs.Shown.{Shown}
use Rattle.rec_core.specs.Core.{Core}
use Rattle.rec_core.specs.Shown.{Shows}
use Rattle.rec_core.proofs.Shows.{shows_none}
use Rattle.rec_order.specs.Naming.{Naming}
use Rattle.rec_world.specs.Journal.{Notes}
use Rattle.rec_world.specs.Order.{Turns}
use Rattle.rec_world.proofs.Calls.{world_kept}
use Rattle.rec_settle.proofs.Shows.{shows_step}
use Rattle.rec_script.specs.Script.{ScriptContents}
use Rattle.rec_play.specs.Run.{HasCommand}
use Rattle.rec_play.specs.Moves.{AreThere, Carries, IsSpent, Makes, MakesCommand, Player, made_by}
use Rattle.rec_play.specs.Playing.{Rest, to_come}
use Rattle.rec_play.specs.Shown.{IsShownTo, move_shown, told_shown}
use Rattle.rec_play.specs.declared.moves.Move.{Move}
use Rattle.rec_play.specs.declared.moves.Move.TheVariants.{Command, Step}
use Rattle.rec_play.proofs.Due.{has_command}
use Rattle.rec_play.proofs.Going.{shows_command}
use Rattle.rec_play.proofs.Rounds.{Between}

-- a run that has these parts
pub player_is : (p : Player) (script : ScriptContents) (rest : Rest) (made : List ℕ) → p.script ≡ script → p.rest ≡ rest → p.made ≡ made → p ≡ record { script = script; rest = rest; made = made }
player_is p script rest made of at so =
    ap (λ s. let q : Player = record { script = s; rest = p.rest; made = p.made } in q) of
    ∙ ap (λ r. let q : Player = record { script = script; rest = r; made = p.made } in q) at
    ∙ ap (λ m. let q : Player = record { script = script; rest = rest; made = m } in q) so

-- what a move that was told did
pub move_made : (p q : Player) (before after : Core) (told : Option Move) (move : Move) → told ≡ Some move → IfSome told (Makes p q before after) → Makes p q before after move
move_made p q before after told move is makes = subst (λ o. IfSome o (Makes p q before after)) is makes

pub command_told : (p q : Player) (before after : Core) (told : Option Move) (move : Move) (t : ℕ) (cmd : Cmd) (answer : Told) → told ≡ Some move → move ≡ Command t cmd answer → IfSome told (Makes p q before after)
    → MakesCommand p q before after t cmd answer
command_told p q before after told move t cmd answer is command makes = subst (Makes p q before after) command (move_made p q before after told move is makes)

-- where no turn was left
pub none_left : {P : Type 0} (told : Option Move) → told ≡ None → (IsNone told → P) → P
none_left told none p = p (subst IsNone (sym none) refl)

-- a turn leaves fewer to come
pub fewer_come : (p q : Player) (before after : Core) (move : Move) → Makes p q before after move → length (to_come q.rest) < length (to_come p.rest)
fewer_come p q before after (Command t cmd told) makes = let e : length (to_come p.rest) ≡ suc (length (to_come q.rest)) = ap length makes.turn in omega (arith, e)
fewer_come p q before after (Step seen turn) makes = let e : length (to_come p.rest) ≡ suc (length (to_come q.rest)) = ap length makes.turn_so in omega (arith, e)

-- what was shown of the turns so far
pub shown_more : (from : Player) (first : Core) (shown : List Shown) (p q : Player) (before after : Core) (told : Option Move) → IsShownTo from first shown p before → IfSome told (Makes p q before after)
    → (IsNone told → (q ≡ p) × (after ≡ before)) → IsShownTo from first (shown ++ told_shown before told) q after
shown_more from first shown p q before after None so makes stays =
    let same = stays refl in
    subst (λ xs. IsShownTo from first xs q after) (sym (append-nil shown)) (subst (λ x. IsShownTo from first shown x after) (sym same.0) (subst (IsShownTo from first shown p) (sym same.1) so))
shown_more from first shown p q before after (Some move) so makes stays = IsShownTo.turns shown p q before after move so makes

-- These are what a watch is shown of the moves of mutators and collector that make up a turn of the rule,
shows_move : (script : ScriptContents) (first : Core) (named : Naming) (seed turns : ℕ) (before after : Core) (journals : List Notes) (noted : Turns) (p q : Player) (move : Move) → Between script first named seed turns before journals noted p → Makes p q before after move
    → Shows before (move_shown before move) after
shows_move script first named seed turns before after journals noted p q (Command t cmd told) so makes =
    let carries : Carries script t (made_by p.made t) before cmd told after = subst (λ s. Carries s t (made_by p.made t) before cmd told after) so.of makes.carries in
    let there : HasCommand script t (made_by p.made t) = has_command script t (made_by p.made t) cmd carries.next in
    shows_command script (made_by p.made t) t before after cmd told so.went.valid so.config so.kept so.idle (subst (λ (s : ScriptContents). AreThere s p.made before) so.of so.present t there.next) carries
shows_move script first named seed turns before after journals noted p q (Step seen turn) so makes = (shows_step (IsSpent p.script p.made) before after (world_kept before so.kept) so.idle makes.steps.follows).shows

-- or of none.
pub shows_told : (script : ScriptContents) (first : Core) (named : Naming) (seed turns : ℕ) (before after : Core) (journals : List Notes) (noted : Turns) (p q : Player) (told : Option Move) → Between script first named seed turns before journals noted p → IfSome told (Makes p q before after)
    → (IsNone told → (q ≡ p) × (after ≡ before)) → Shows before (told_shown before told) after
shows_told script first named seed turns before after journals noted p q None so makes stays = subst (Shows before []) (sym (stays refl).1) (shows_none before)
shows_told script first named seed turns before after journals noted p q (Some move) so makes stays = shows_move script first named seed turns before after journals noted p q move so makes

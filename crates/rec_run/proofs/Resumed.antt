-- Where an image is cut off is one place, and bytes that are refused are no image with mutators behind it.
use Rattle.std.proofs.Common.{◌≡◌, false, inl, inr, ℕ, ◌-◌, ◌<◌, ◌≤◌, List, [], drop, length, replicate, take, sym, ap, subst, ◌∙◌, arith, length-append, get_or}
use Rattle.std.proofs.lemmas.Bool.{cases_lt}
use Rattle.std.proofs.lemmas.List.{length-replicate}
use Rattle.rec_collector.specs.Private.{plain}
use Rattle.rec_model.specs.declared.command.Cmd.{Cmd}
use Rattle.rec_script.specs.Behind.{AreMutators, IsRefusedBehind, with_all}
use Rattle.rec_script.specs.Script.{ScriptContents}
use Rattle.rec_script.specs.declared.error.Kind.{Kind}
use Rattle.rec_script.proofs.Behinds.{refused_none}
use Rattle.rec_script.proofs.Uniqueness.{refused_behind_once}
use Rattle.rec_script.proofs.Regrouping.{SameHeap, same_heap}
use Rattle.rec_image.specs.Image.{ImageContents, StopsAt, feeds}
use Rattle.rec_image.proofs.Uniqueness.{stops_once}
use Rattle.rec_image.specs.Restored.{config_of as config_in}
use Rattle.rec_play.specs.Numbers.{config_of, log_room}
use Rattle.rec_run.specs.Resuming.{CutsAt, IsRefusedAt, IsResumable, IsResumedAs, IsUnresumed, numbers_of}

-- there is one place
cut_once : (bytes : List ℕ) (a b : ℕ) → CutsAt bytes a → CutsAt bytes b → a ≡ b
cut_once bytes a b (CutsAt.behind l at is first) (CutsAt.behind m place there least) = elim (cases_lt l m) [
  | inl before ↦ absurd (least l before is)
  | inr past ↦ elim (cases_lt m l) [
    | inl before ↦ absurd (first m before there)
    | inr same ↦ omega (arith, at, place, past, same)
  ]
]
cut_once bytes a b (CutsAt.behind l at is first) (CutsAt.nowhere place none) = absurd (none l is)
cut_once bytes a b (CutsAt.nowhere at none) (CutsAt.behind m place there least) = absurd (none m there)
cut_once bytes a b (CutsAt.nowhere at none) (CutsAt.nowhere place never) = at ∙ sym place

-- bytes that are refused are none with which a heap goes on
pub unresumed_none : (bytes : List ℕ) (line : ℕ) (kind : Kind) → IsUnresumed bytes line kind → IsResumable bytes → ⊥
unresumed_none bytes line kind (inl long) (contents, given, told) = let many : 16777216 < length bytes = long.many in let few : length bytes ≤ 16777216 = told.short in omega (arith, many, few)
unresumed_none bytes line kind (inr (few, at)) (contents, given, told) = go at
  where
    go : IsRefusedAt bytes line kind → ⊥
    go (IsRefusedAt.image place cut stops named) =
        stops.no_text (contents, told.image, ap (λ n. take n bytes) (cut_once bytes place told.place cut told.cut) ∙ told.told)
    go (IsRefusedAt.mutators place other cut is refused) =
        let one : place ≡ told.place = cut_once bytes place told.place cut told.cut in
        let same : contents ≡ other = is.only contents told.image (sym (ap (λ n. take n bytes) one ∙ told.told)) in
        let behind : AreMutators (numbers_of other) (drop place bytes) =
        subst (λ (v : ImageContents). AreMutators (numbers_of v) (drop place bytes)) same (subst (λ n. AreMutators (numbers_of contents) (drop n bytes)) (sym one) (given, told.spelled)) in
        refused_none (numbers_of other) (drop place bytes) _ line kind refused behind

-- and they are refused with one line and one kind
pub unresumed_once : (bytes : List ℕ) (line other : ℕ) (kind wrong : Kind) → IsUnresumed bytes line kind → IsUnresumed bytes other wrong → (line ≡ other) × (kind ≡ wrong)
unresumed_once bytes line other kind wrong (inl x) (inl y) = (x.whole ∙ sym y.whole, x.named ∙ sym y.named)
unresumed_once bytes line other kind wrong (inl x) (inr y) = absurd (omega (arith, x.many, y.0))
unresumed_once bytes line other kind wrong (inr x) (inl y) = absurd (omega (arith, y.many, x.0))
unresumed_once bytes line other kind wrong (inr x) (inr y) = go x.1 y.1
  where
    go : IsRefusedAt bytes line kind → IsRefusedAt bytes other wrong → (line ≡ other) × (kind ≡ wrong)
    go (IsRefusedAt.image place cut stops named) (IsRefusedAt.image at there stopped is) =
        (stops_once (take place bytes) line other stops (subst (λ n. StopsAt (take n bytes) other) (cut_once bytes at place there cut) stopped), named ∙ sym is)
    go (IsRefusedAt.image place cut stops named) (IsRefusedAt.mutators at contents there are refused) =
        absurd (stops.no_text (contents, are.image, ap (λ n. take n bytes) (cut_once bytes place at cut there) ∙ sym are.told))
    go (IsRefusedAt.mutators place contents cut are refused) (IsRefusedAt.image at there stopped is) =
        absurd (stopped.no_text (contents, are.image, ap (λ n. take n bytes) (cut_once bytes at place there cut) ∙ sym are.told))
    go (IsRefusedAt.mutators place contents cut are refused) (IsRefusedAt.mutators at others there these wronged) =
        let one : at ≡ place = cut_once bytes at place there cut in
        let same : others ≡ contents = are.only others these.image (these.told ∙ ap (λ n. take n bytes) one) in
        let moved : IsRefusedBehind (numbers_of others) (drop place bytes) (feeds (take place bytes)) other wrong
        = subst (λ n. IsRefusedBehind (numbers_of others) (drop n bytes) (feeds (take n bytes)) other wrong) one wronged in
        refused_behind_once (numbers_of contents) (drop place bytes) (feeds (take place bytes)) line other kind wrong refused
        (subst (λ (v : ImageContents). IsRefusedBehind (numbers_of v) (drop place bytes) (feeds (take place bytes)) other wrong) same moved)

-- A script that goes on with an image has the image's numbers.
pub numbers_same : (bytes : List ℕ) (contents : ImageContents) (script : ScriptContents) → IsResumedAs bytes contents script → config_in contents (log_room script) plain ≡ config_of script
numbers_same bytes contents script is = subst (λ (s : ScriptContents). config_in contents (log_room s) plain ≡ config_of s) (sym is.all) same
  where
    given : ScriptContents
    given = is.given

    all : ScriptContents
    all = with_all (numbers_of contents) given

    heap : SameHeap contents.slots contents.fields contents.registers given.slots given.fields given.registers
    heap = same_heap contents.slots contents.fields contents.registers given.slots given.fields given.registers is.told.image.sized.heap is.told.spelled.limits.heap
        (ap (λ (ls : List (List (List ℕ))). get_or ls 1 []) is.told.spelled.counted_are)

    many : contents.mutators ≡ length all.commands
    many =
        let few = is.told.spelled.few in
        omega (arith, few, length-append given.commands (replicate {A = List Cmd} (contents.mutators - length given.commands) []), length-replicate {A = List Cmd} (contents.mutators - length given.commands) [])

    same : config_in contents (log_room all) plain ≡ config_of all
    same =
        ap (λ (n : ℕ). record (config_in contents (log_room all) plain) { slots = n }) heap.slots
        ∙ ap (λ (n : ℕ). record (config_of all) { fields = n; registers = contents.registers; mutators = contents.mutators }) heap.fields
        ∙ ap (λ (n : ℕ). record (config_of all) { registers = n; mutators = contents.mutators }) heap.registers
        ∙ ap (λ (n : ℕ). record (config_of all) { mutators = n }) many

-- A mutator of a heap, at a step that takes no mailbox.
use Rattle.std.proofs.Common.{◌≡◌, ℕ, List, [], ◌∷◌, ◌++◌, Option, Some, None, sym, ap, ◌∙◌}
use Rattle.atomic_table.specs.Seated.{TableId}
use Rattle.rec_table.proofs.Common.{Private, begun_of, Core, mutator, told, learnt, MutatorView, mutator_view, mutator_now, IsOf, ready, beats, Beat, Begins, Saw, Seated}
use Rattle.rec_mutator.specs.Step.{NamesSlots}
use Rattle.rec_table.specs.declared.start.Start.{Start}
use Rattle.rec_table.proofs.Beats.{told_both}

-- the record with which it works is its own in the started world
pub own_record : (z z' : TableId) (key : Core) (o p : Private) (t : Seated) (h : MutatorView) → mutator_view z' o t ≡ h → IsOf z key h → p ≡ told o t.log → p ≡ told (mutator key t.number) t.log
own_record z z' key o p t h is own at =
    let opened : o ≡ mutator key t.number = ap (λ (x : MutatorView). x.opened) is ∙ own.2 ∙ ap (λ (x : MutatorView). mutator key x.number) (sym is) in
    at ∙ ap (λ q. told q t.log) opened

pub opened_is : (z z' : TableId) (key : Core) (o : Private) (t : Seated) (h : MutatorView) → mutator_view z' o t ≡ h → IsOf z key h → o ≡ mutator key t.number
opened_is z z' key o t h is own = ap (λ (x : MutatorView). x.opened) is ∙ own.2 ∙ ap (λ (x : MutatorView). mutator key x.number) (sym is)

pub told_beats : (p : Private) (bs : List Beat) (wk : Option Start) (word : ℕ) → told p (bs ++ beats wk word) ≡ learnt (ready (told p bs) wk) (Saw word)
told_beats p bs None word = told_both p bs (Saw word ∷ [])
told_beats p bs (Some start) word = told_both p bs (Begins start ∷ Saw word ∷ [])

pub seen_record : (z z' : TableId) (key : Core) (o : Private) (t : Seated) (h : MutatorView) → mutator_view z' o t ≡ h → IsOf z key h → mutator_now h ≡ told (mutator key t.number) t.log
seen_record z z' key o t h is own = sym (ap mutator_now is) ∙ ap (λ q. told q t.log) (opened_is z z' key o t h is own)

pub ready_names : (p : Private) (wk : Option Start) → NamesSlots p → NamesSlots (ready p wk)
unfolding begun_of
ready_names p None names = names
ready_names p (Some start) names = names

-- One mutator more with its journal, at the end of those that there are.
use Rattle.std.proofs.Common.{◌≡◌, ℕ, ◌+◌, ◌<◌, List, [], ◌∷◌, ◌++◌, length, inl, inr, refl, sym, ap, subst, ◌∙◌, arith}
use Rattle.std.proofs.lemmas.Bool.{cases_lt}
use Rattle.std.proofs.lemmas.List.{get_or_append_left, get_or_push, length-append}
use Rattle.rec_model.specs.declared.command.Cmd.{Cmd}
use Rattle.rec_script.specs.Script.{ScriptContents}
use Rattle.rec_table.specs.Views.{MutatorView, Started}
use Rattle.rec_world.specs.Journal.{Notes, no_notes}
use Rattle.rec_threads.specs.Done.{AreReady, HasDone, HaveDone, IsReady, commands_at, worker_at}
use Rattle.rec_threads.specs.declared.worker.Worker.{Worker}

-- a mutator and its journal
abbrev pub together : MutatorView → Notes → Worker
together m j = record { mutator = m; journal = j }

-- a worker before the last one
before_last : (ms : List MutatorView) (js : List Notes) (m : MutatorView) (j : Notes) (k : ℕ) (d : MutatorView) → length js ≡ length ms → k < length ms → worker_at (ms ++ m ∷ []) (js ++ j ∷ []) k d ≡ worker_at ms js k d
before_last ms js m j k d each lt = λ i. together (get_or_append_left ms (m ∷ []) d k lt i) (get_or_append_left js (j ∷ []) no_notes k (omega (arith, each, lt)) i)

-- and the last one
at_last : (ms : List MutatorView) (js : List Notes) (m : MutatorView) (j : Notes) (k : ℕ) (d : MutatorView) → length js ≡ length ms → k ≡ length ms → worker_at (ms ++ m ∷ []) (js ++ j ∷ []) k d ≡ together m j
at_last ms js m j k d each is = λ i. together (get_or_push ms m d k (sym is) i) (get_or_push js j no_notes k (each ∙ sym is) i)

longer : {X : Type 0} (xs : List X) (x : X) → length (xs ++ x ∷ []) ≡ length xs + 1
longer xs x = length-append xs (x ∷ [])

-- those before the last one are ready
pub earlier_ready : (h : Started) (script : ScriptContents) (ms : List MutatorView) (js : List Notes) (m : MutatorView) (j : Notes) → AreReady h script (ms ++ m ∷ []) (js ++ j ∷ []) → AreReady h script ms js
earlier_ready h script ms js m j ready =
    let many : length (ms ++ m ∷ []) ≡ length ms + 1 = longer ms m in
    let noted : length (js ++ j ∷ []) ≡ length js + 1 = longer js j in
    let each : length js ≡ length ms = let e = ready.one_each in omega (arith, e, many, noted) in
    record {
      few = let f = ready.few in omega (arith, f, many);
      one_each = each;
      each = λ k d lt. subst (IsReady h script k) (before_last ms js m j k d each lt) (ready.each k d (omega (arith, lt, many)));
    }

-- and so is the last one
pub last_ready : (h : Started) (script : ScriptContents) (ms : List MutatorView) (js : List Notes) (m : MutatorView) (j : Notes) → AreReady h script (ms ++ m ∷ []) (js ++ j ∷ []) → IsReady h script (length ms) (together m j)
last_ready h script ms js m j ready =
    let many : length (ms ++ m ∷ []) ≡ length ms + 1 = longer ms m in
    let noted : length (js ++ j ∷ []) ≡ length js + 1 = longer js j in
    let each : length js ≡ length ms = let e = ready.one_each in omega (arith, e, many, noted) in
    subst (IsReady h script (length ms)) (at_last ms js m j (length ms) m each refl) (ready.each (length ms) m (omega (arith, many)))

-- what those before the last one have done, and what the last one has
pub done_more : (cmds : List (List Cmd)) (ms ms' : List MutatorView) (js js' : List Notes) (m m' : MutatorView) (j j' : Notes) → length js ≡ length ms → HaveDone cmds ms js ms' js' → HasDone (commands_at cmds (length ms)) (together m j) (together m' j')
    → HaveDone cmds (ms ++ m ∷ []) (js ++ j ∷ []) (ms' ++ m' ∷ []) (js' ++ j' ∷ [])
done_more cmds ms ms' js js' m m' j j' each done last =
    let each' : length js' ≡ length ms' = done.journals_all ∙ each ∙ sym done.mutators_all in
    record {
      mutators_all = longer ms' m' ∙ ap (λ n. n + 1) done.mutators_all ∙ sym (longer ms m);
      journals_all = longer js' j' ∙ ap (λ n. n + 1) done.journals_all ∙ sym (longer js j);
      each = λ k d lt. elim (cases_lt k (length ms)) [
        | inl before ↦
            let there : k < length ms' = let a = done.mutators_all in omega (arith, a, before) in
            subst (λ (w : Worker). HasDone (commands_at cmds k) w (worker_at (ms' ++ m' ∷ []) (js' ++ j' ∷ []) k d)) (sym (before_last ms js m j k d each before))
            (subst (HasDone (commands_at cmds k) (worker_at ms js k d)) (sym (before_last ms' js' m' j' k d each' there)) (done.each k d before))
        | inr past ↦
            let is : k ≡ length ms = let many = longer ms m in omega (arith, past, lt, many) in
            subst (λ (w : Worker). HasDone (commands_at cmds k) w (worker_at (ms' ++ m' ∷ []) (js' ++ j' ∷ []) k d)) (sym (at_last ms js m j k d each is))
            (subst (HasDone (commands_at cmds k) (together m j)) (sym (at_last ms' js' m' j' k d each' (is ∙ sym done.mutators_all))) (subst (λ n. HasDone (commands_at cmds n) (together m j) (together m' j')) (sym is) last))
      ];
    }

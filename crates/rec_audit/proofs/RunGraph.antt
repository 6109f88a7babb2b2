-- The graph of a run's journal follows its heap: through each move.
use Rattle.std.proofs.Common.{◌≡◌, ◌⊎◌, inl, inr, ℕ, ◌/◌, ◌<◌, ◌≤◌, true, false, List, [], ◌++◌, slice_index_or, refl, sym, ap, subst, ◌∙◌}
use Rattle.std.specs.List.{Contains}
use Rattle.rec_model.specs.Pending.{epoch_of}
use Rattle.rec_log.specs.declared.entry.Entry.{Entry}
use Rattle.rec_log.specs.declared.entry.Entry.TheVariants as entries
use Rattle.rec_collector.specs.Touched.{tried_at}
use Rattle.rec_core.specs.Core.{Core}
use Rattle.rec_core.specs.Kept.{IsKept}
use Rattle.rec_core.specs.declared.config.Config.{Config}
use Rattle.rec_core.specs.Loads.{tried_in}
use Rattle.rec_audit.specs.Logged.{last_batch}
use Rattle.rec_core.specs.Moves.{Fits, Move, after_move, stepped, IsNoTurn}
use Rattle.rec_core.specs.Pending.{applied_at, has_batched}
use Rattle.rec_audit.proofs.Journalled.{StandsIn, applied_in}
use Rattle.rec_audit.proofs.Lasting.{Keeps, Lasts, lasts_on, move_keeps}
use Rattle.rec_audit.proofs.Newborn.{IsUntold, stepped_taken, stepped_untold}
use Rattle.rec_audit.proofs.NewbornTurns.{begun_untold, offering_untold}
use Rattle.rec_core.proofs.Reach.{steps_keep_taken}
use Rattle.rec_core.proofs.Runs.{move_kept}
use Rattle.rec_audit.specs.Form.{heap_of, number}
use Rattle.rec_audit.specs.Graph.{is_dead, is_taken, opens, this_block}
use Rattle.rec_audit.specs.Journal.{parts_lines}
use Rattle.rec_audit.specs.Lines.{Line}
use Rattle.rec_audit.specs.Runs.{heap_for}
use Rattle.rec_audit.specs.declared.kind.Kind.TheVariants as kinds
use Rattle.rec_audit.proofs.Blocks.{Each, is_late}
use Rattle.rec_audit.proofs.Placing.{is_unswept}

-- What became of a word that was put at a place: no path leads along it any more; a write of this block has replaced it there; it
-- stands there; or a later write has replaced it.
pub data Status (lines : List Line) (w : Core) (place word : ℕ) : Type 0 where
  dead : is_dead lines word ≡ true → Status lines w place word
  closed : (l : Line) → Contains (this_block lines) l → l.kind ≡ kinds.Put → number 1 l ≡ place → number 3 l ≡ word → Status lines w place word
  lasts : Lasts w [] (record { place = place; word = word; epoch = tried_in w }) → Status lines w place word

-- The block that stands open tells the last batch, and what the collector did since; or there was none yet.
pub data HasBlock (lines : List Line) (w : Core) : Type 0 where
  none : has_batched w.collector.phase ≡ false → ((e : Entry) → StandsIn (last_batch w.collector) e → ⊥) → HasBlock lines w
  some : (rest : List Line) → Each is_late rest → this_block lines ≡ parts_lines (last_batch w.collector) ++ rest → HasBlock lines w

-- What some lines tell of a heap.
pub record Tells (lines : List Line) (w : Core) : Type 0 where
  pub heap : heap_of lines ≡ heap_for w.config
  pub puts : (l : Line) → Contains lines l → opens l ≡ true → Status lines w (number 1 l) (number 2 l)
  pub early : (l : Line) → Contains lines l → opens l ≡ true → epoch_of (number 2 l) ≤ applied_in w
  pub block : HasBlock lines w
  pub taken : (s : ℕ) → 0 < slice_index_or w.headers s 0 → (is_taken lines s ≡ true) ⊎ IsUntold w s
  pub homes : is_unswept w.collector.phase ≡ true → (place new old : ℕ) → StandsIn (last_batch w.collector) (entries.Put place new old) → 0 < slice_index_or w.headers (place / w.config.fields) 0

-- ---- moves of which nothing is shown

-- what such a move keeps
record KeepsGraph (w v : Core) : Type 0 where
  config : v.config ≡ w.config
  phase : v.collector.phase ≡ w.collector.phase
  epoch : v.collector.epoch ≡ w.collector.epoch
  last : last_batch v.collector ≡ last_batch w.collector
  words : Keeps w v [] (tried_in w)
  stays : (s : ℕ) → 0 < slice_index_or w.headers s 0 → 0 < slice_index_or v.headers s 0
  came : (s : ℕ) → 0 < slice_index_or v.headers s 0 → (0 < slice_index_or w.headers s 0) ⊎ IsUntold v s
  untold : (s : ℕ) → IsUntold w s → IsUntold v s

keeps_graph : (lines : List Line) (w v : Core) → IsKept true w → IsKept true v → KeepsGraph w v → Tells lines w → Tells lines v
keeps_graph lines w v kept still k t = record {
  heap = t.heap ∙ ap heap_for (sym k.config);
  puts = λ l c o. put (number 1 l) (number 2 l) (t.puts l c o);
  early = λ l c o. subst (λ n. epoch_of (number 2 l) ≤ n) (sym applied) (t.early l c o);
  block = block t.block;
  taken = λ s some. elim (k.came s some) [
    | inl before ↦ elim (t.taken s before) [ inl told ↦ inl told | inr untold ↦ inr (k.untold s untold) ]
    | inr untold ↦ inr untold
  ];
  homes = λ unswept place new old c.
      let before : 0 < slice_index_or w.headers (place / w.config.fields) 0 = t.homes (sym (ap is_unswept k.phase) ∙ unswept) place new old (subst (λ row. StandsIn row (entries.Put place new old)) k.last c) in
      subst (λ (config : Config). 0 < slice_index_or v.headers (place / config.fields) 0) (sym k.config) (k.stays (place / w.config.fields) before);
}
  where
    epoch : v.epoch ≡ w.epoch
    epoch = sym still.collector.epoch ∙ k.epoch ∙ kept.collector.epoch

    applied : applied_in v ≡ applied_in w
    applied = ap (λ e. applied_at e v.collector.phase) epoch ∙ ap (applied_at w.epoch) k.phase

    tried : tried_in v ≡ tried_in w
    tried = ap (λ e. tried_at e v.collector.phase) epoch ∙ ap (tried_at w.epoch) k.phase

    put : (place word : ℕ) → Status lines w place word → Status lines v place word
    put place word (Status.dead is) = Status.dead is
    put place word (Status.closed l c kind at old) = Status.closed l c kind at old
    put place word (Status.lasts x) = Status.lasts (subst (λ e. Lasts v [] (record { place = place; word = word; epoch = e })) (sym tried) (lasts_on w v [] (record { place = place; word = word; epoch = tried_in w }) k.words x))

    block : HasBlock lines w → HasBlock lines v
    block (HasBlock.none waits empty) = HasBlock.none (ap has_batched k.phase ∙ waits) (λ e c. empty e (subst (λ row. StandsIn row e) k.last c))
    block (HasBlock.some rest late is) = HasBlock.some rest late (is ∙ ap (λ row. parts_lines row ++ rest) (sym k.last))

pub quiet_tells : (lines : List Line) (w : Core) (m : Move) → IsNoTurn m → IsKept true w → Fits w m → Tells lines w → Tells lines (after_move w m)
quiet_tells lines w (Move.Begins t work from) quiet kept fits tells = keeps_graph lines w (after_move w (Move.Begins t work from)) kept (move_kept w (Move.Begins t work from) kept fits) (record {
  config = refl;
  phase = refl;
  epoch = refl;
  last = refl;
  words = move_keeps w (Move.Begins t work from) kept fits;
  stays = λ s some. some;
  came = λ s some. inl some;
  untold = λ s untold. begun_untold w t work from kept fits.0 s untold;
}) tells
quiet_tells lines w (Move.Steps t) quiet kept fits tells = keeps_graph lines w (stepped w t) kept (move_kept w (Move.Steps t) kept fits) (record {
  config = refl;
  phase = refl;
  epoch = refl;
  last = refl;
  words = move_keeps w (Move.Steps t) kept fits;
  stays = λ s some. subst (λ n. 0 < n) (sym (steps_keep_taken w t s some)) some;
  came = stepped_taken w t kept fits.0 fits.1;
  untold = stepped_untold w t kept fits.0 fits.1;
}) tells
quiet_tells lines w Move.Turns quiet kept fits tells = absurd quiet
quiet_tells lines w Move.Offers quiet kept fits tells = keeps_graph lines w (after_move w Move.Offers) kept (move_kept w Move.Offers kept fits) (record {
  config = refl;
  phase = refl;
  epoch = refl;
  last = refl;
  words = move_keeps w Move.Offers kept fits;
  stays = λ s some. some;
  came = λ s some. inl some;
  untold = λ s untold. offering_untold w s untold;
}) tells

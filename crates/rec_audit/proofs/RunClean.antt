-- No line of a run's journal is at fault, so it is answered yes.
use Rattle.std.proofs.Common.{◌≡◌, ◌⊎◌, inl, inr, ℕ, zero, suc, ◌-◌, ◌<◌, ◌≤◌, ◌==◌, Bool, true, false, cond, Option, None, Some, IfSome, List, [], ◌∷◌, ◌++◌, length, replicate, slice_index_or, refl, sym, ap, subst, ◌∙◌, arith, append-nil, append_assoc}
use Rattle.std.specs.List.{Contains, flat_map}
use Rattle.std.proofs.lemmas.Bool.{cases_lt, false≢true}
use Rattle.std.proofs.lemmas.List.{get_or-map, get_or-replicate, get_or_past, length-map, length-replicate}
use Rattle.std.proofs.lemmas.List.Concat.{flat_map-append}
use Rattle.std.proofs.lemmas.List.Elements.{Contains-append_cases, Contains-append_left}
use Rattle.rec_word.specs.declared.op.Op.{Op}
use Rattle.rec_word.specs.declared.op.Op.TheVariants as ops
use Rattle.rec_log.specs.declared.contents.Contents.{Contents as Buffer}
use Rattle.rec_log.specs.declared.entry.Entry.{Entry}
use Rattle.rec_collector.specs.Next.{next_of}
use Rattle.rec_collector.specs.Private.{blank, buffer_at, retired}
use Rattle.rec_collector.specs.Shown.{Batch, batch_of, completed_of, passed_of, shown_of}
use Rattle.rec_collector.specs.Step.{NamesWord}
use Rattle.rec_collector.proofs.Always.{names_word}
use Rattle.rec_core.specs.Cells.{cell}
use Rattle.rec_core.specs.Config.{IsConfig}
use Rattle.rec_core.specs.Core.{Core, cells_of, heap_by}
use Rattle.rec_core.specs.Kept.{IsKept}
use Rattle.rec_core.specs.Objects.{first_object, rows_of}
use Rattle.rec_audit.specs.Logged.{last_batch}
use Rattle.rec_core.specs.Moves.{AllFit, Fits, Move, after_move, after_moves, turned, turned_by}
use Rattle.rec_core.specs.Shown.{shown_behind, shown_in, shown_over, turn_shown}
use Rattle.rec_core.specs.Turn.{seen_at}
use Rattle.rec_core.specs.declared.config.Config.{Config}
use Rattle.rec_audit.proofs.Newborn.{none_in}
use Rattle.rec_core.proofs.Runs.{move_kept}
use Rattle.rec_core.proofs.Turning.{turn_case}
use Rattle.rec_audit.specs.Form.{number}
use Rattle.rec_audit.specs.Graph.{is_sweep, is_taken, opens, this_block}
use Rattle.rec_audit.specs.Journal.{batch_lines, completed_lines, line_of, lines_of, op_lines, opening_lines, parts_lines, passed_lines}
use Rattle.rec_audit.specs.Lines.{Line}
use Rattle.rec_audit.specs.Runs.{heap_for}
use Rattle.rec_audit.specs.Verdicts.{HasReachFault}
use Rattle.rec_audit.specs.declared.kind.Kind.{Kind}
use Rattle.rec_audit.specs.declared.kind.Kind.TheVariants as kinds
use Rattle.rec_audit.proofs.Blocks.{Each, block_more, dead_more, each_at, each_both, heap_more_lines, is_late, is_part, late_plain, parts_are, pushes, taken_push}
use Rattle.rec_audit.proofs.RunGraph.{HasBlock, Status, Tells, quiet_tells}
use Rattle.rec_audit.proofs.RunReach.{shown_unreached}
use Rattle.rec_audit.proofs.RunTurns.{behind_batch, late_shut, turned_tells}

-- ---- lines that tell nothing of the graph

-- a set that is given up, or the end of a collection
abbrev pub is_quiet : Kind → Bool
is_quiet kinds.Free = true
is_quiet kinds.End = true
is_quiet _ = false

pub quiet_late : (k : Kind) → is_quiet k ≡ true → is_late k ≡ true
quiet_late kinds.Free is = refl
quiet_late kinds.End is = refl
quiet_late _ is = absurd (false≢true is)

quiet_kept : (k : Kind) → is_quiet k ≡ true → is_sweep k ≡ false
quiet_kept kinds.Free is = refl
quiet_kept kinds.End is = refl
quiet_kept _ is = absurd (false≢true is)

each_late : (ls : List Line) → Each is_quiet ls → Each is_late ls
each_late [] each = tt
each_late (l ∷ ls) each = (quiet_late l.kind each.0, each_late ls each.1)

tells_on : (ls more : List Line) (v : Core) → Each is_quiet more → Tells ls v → Tells (ls ++ more) v
tells_on ls more v each t = record {
  heap = heap_more_lines is_late ls more (λ k l. (late_plain k l).1) late ∙ t.heap;
  puts = λ l c opened. put (number 1 l) (number 2 l) (t.puts l (before l c opened) opened);
  early = λ l c opened. t.early l (before l c opened) opened;
  block = block t.block;
  taken = λ slot some. elim (t.taken slot some) [
    | inl told ↦ inl (pushes (λ xs. is_taken xs slot ≡ true) is_quiet ls more each (λ xs l is taken. taken_push xs l slot (quiet_kept l.kind is) taken) told)
    | inr untold ↦ inr untold
  ];
  homes = t.homes;
}
  where
    late : Each is_late more
    late = each_late more each

    before : (l : Line) → Contains (ls ++ more) l → opens l ≡ true → Contains ls l
    before l c opened = elim (Contains-append_cases ls more l c) [
      | inl here ↦ here
      | inr after ↦ absurd (false≢true (sym (late_shut l (each_at is_late more l late after)) ∙ opened))
    ]

    same : this_block (ls ++ more) ≡ this_block ls ++ more
    same = block_more is_late ls more (λ k l. (late_plain k l).0) late

    put : (place word : ℕ) → Status ls v place word → Status (ls ++ more) v place word
    put place word (Status.dead is) = Status.dead (dead_more ls more word is)
    put place word (Status.closed l c kind at old) = Status.closed l (subst (λ xs. Contains xs l) (sym same) (Contains-append_left (this_block ls) more l c)) kind at old
    put place word (Status.lasts x) = Status.lasts x

    block : HasBlock ls v → HasBlock (ls ++ more) v
    block (HasBlock.none waits empty) = HasBlock.none waits empty
    block (HasBlock.some rest after is) = HasBlock.some (rest ++ more) (each_both is_late rest more after late) (same ∙ ap (λ t. t ++ more) is ∙ append_assoc (parts_lines (last_batch v.collector)) rest more)

-- ---- lines that are not at fault

-- no set among these lines, which stand behind others, has a member in reach where it is given up
abbrev pub Clear : List Line → List Line → Type 0
Clear ls [] = Unit {0}
Clear ls (l ∷ more) = (HasReachFault ls l → ⊥) × Clear (ls ++ l ∷ []) more

pub clear_both : (ls xs ys : List Line) → Clear ls xs → Clear (ls ++ xs) ys → Clear ls (xs ++ ys)
clear_both ls [] ys a b = subst (λ ts. Clear ts ys) (append-nil ls) b
clear_both ls (x ∷ xs) ys a b = (a.0, clear_both (ls ++ x ∷ []) xs ys a.1 (subst (λ ts. Clear ts ys) (sym (append_assoc ls (x ∷ []) xs)) b))

pub clear_split : (ls more before after : List Line) (l : Line) → Clear ls more → more ≡ before ++ l ∷ after → HasReachFault (ls ++ before) l → ⊥
clear_split ls [] before after l clear e fault = none before e
  where
    none : (before : List Line) → [] ≡ before ++ l ∷ after → ⊥
    none [] e = cc
    none (b ∷ bs) e = cc
clear_split ls (x ∷ more) [] after l clear e fault =
    let same : x ≡ l = cc in
    clear.0 (subst (λ (y : Line). HasReachFault ls y) (sym same) (subst (λ ts. HasReachFault ts l) (append-nil ls) fault))
clear_split ls (x ∷ more) (b ∷ before) after l clear e fault =
    let head : b ≡ x = cc in
    let tail : more ≡ before ++ l ∷ after = cc in
    clear_split (ls ++ x ∷ []) more before after l clear.1 tail
    (subst (λ ts. HasReachFault ts l) (sym (append_assoc ls (x ∷ []) before)) (subst (λ (y : Line). HasReachFault (ls ++ y ∷ before) l) head fault))

-- lines of a kind that gives nothing up
pub clear_plain : (test : Kind → Bool) (ls more : List Line) → (test kinds.Free ≡ false) → Each test more → Clear ls more
clear_plain test ls [] none each = tt
clear_plain test ls (l ∷ more) none each = (λ fault. false≢true (sym none ∙ sym (ap test fault.kind) ∙ each.0), clear_plain test (ls ++ l ∷ []) more none each.1)

-- what is no set
abbrev pub is_kept : Kind → Bool
is_kept kinds.Free = false
is_kept _ = true

parts_kept : (ls : List Line) → Each is_part ls → Each is_kept ls
parts_kept [] each = tt
parts_kept (l ∷ ls) each = (kept_part l.kind each.0, parts_kept ls each.1)
  where
    kept_part : (k : Kind) → is_part k ≡ true → is_kept k ≡ true
    kept_part kinds.Free is = absurd (false≢true is)
    kept_part _ is = refl

batch_kept : (batch : Option Batch) → Each is_kept (batch_lines batch)
batch_kept None = tt
batch_kept (Some b) = (refl, parts_kept (parts_lines b.newer) (parts_are b.newer))

op_kept : (op : Op) (word : ℕ) → Each is_kept (op_lines op word)
op_kept (ops.ClearField place) word = go (word == 0)
  where
    go : (b : Bool) → Each is_kept (cond b [] (line_of kinds.Out (place ∷ word ∷ []) ∷ []))
    go true = tt
    go false = (refl, tt)
op_kept (ops.FreeHeader slot) word = (refl, tt)
op_kept _ word = tt

completed_kept : (completed : Option ℕ) → Each is_kept (completed_lines completed)
completed_kept None = tt
completed_kept (Some epoch) = (refl, tt)

pub completed_quiet : (completed : Option ℕ) → Each is_quiet (completed_lines completed)
completed_quiet None = tt
completed_quiet (Some epoch) = (refl, tt)

pub passed_quiet : (passed : Option (List ℕ)) → Each is_quiet (passed_lines passed)
passed_quiet None = tt
passed_quiet (Some members) = (refl, tt)

-- ---- steps

-- lines are clear behind others, and all tell of a heap
pub record Goes (ls more : List Line) (v : Core) : Type 0 where
  pub clear : Clear ls more
  pub tells : Tells (ls ++ more) v

-- a batch or none
pub behind_is : (ls : List Line) (batch : Option Batch) → behind_batch ls batch ≡ ls ++ batch_lines batch
behind_is ls None = sym (append-nil ls)
behind_is ls (Some b) = refl

-- the lines of a step whose batch and operation tell of this heap
step_goes : (ls : List Line) (v : Core) (op : Op) (word : ℕ) → IsKept true v → Tells (behind_batch ls (batch_of op v.collector) ++ op_lines op word) v → Goes ls (lines_of (shown_of op word v.collector)) v
step_goes ls v op word kept tells =
    let batch : Option Batch = batch_of op v.collector in
    let a : List Line = batch_lines batch in
    let b : List Line = op_lines op word in
    let c : List Line = passed_lines (passed_of v.collector) in
    let d : List Line = completed_lines (completed_of v.collector) in
    let told : Tells ((ls ++ a) ++ b) v = subst (λ ts. Tells (ts ++ b) v) (behind_is ls batch) tells in
    let after : Tells (((ls ++ a) ++ b) ++ (c ++ d)) v = tells_on ((ls ++ a) ++ b) (c ++ d) v (each_both is_quiet c d (passed_quiet (passed_of v.collector)) (completed_quiet (completed_of v.collector))) told in
    record {
      clear =
          clear_both ls a (b ++ (c ++ d)) (clear_plain is_kept ls a refl (batch_kept batch))
          (clear_both (ls ++ a) b (c ++ d) (clear_plain is_kept (ls ++ a) b refl (op_kept op word))
          (clear_both ((ls ++ a) ++ b) c d (passed_clear ((ls ++ a) ++ b) told (passed_of v.collector) refl) (clear_plain is_kept (((ls ++ a) ++ b) ++ c) d refl (completed_kept (completed_of v.collector)))));
      tells = subst (λ ts. Tells ts v) (append_assoc (ls ++ a) b (c ++ d) ∙ append_assoc ls a (b ++ (c ++ d))) after;
    }
  where
    passed_clear : (ts : List Line) → Tells ts v → (passed : Option (List ℕ)) → passed_of v.collector ≡ passed → Clear ts (passed_lines passed)
    passed_clear ts told None is = tt
    passed_clear ts told (Some members) is = (λ fault. shown_unreached ts v members kept told is fault.reached, tt)

-- one after the other
goes_both : (ls xs ys : List Line) (u v : Core) → Goes ls xs u → Goes (ls ++ xs) ys v → Goes ls (xs ++ ys) v
goes_both ls xs ys u v a b = record { clear = clear_both ls xs ys a.clear b.clear; tells = subst (λ ts. Tells ts v) (append_assoc ls xs ys) b.tells }

goes_none : (ls : List Line) (v : Core) → Tells ls v → Goes ls [] v
goes_none ls v t = record { clear = tt; tells = subst (λ ts. Tells ts v) (sym (append-nil ls)) t }

turn_goes : (ls : List Line) (w : Core) → IsKept true w → Tells ls w → Goes ls (flat_map lines_of (turn_shown w)) (turned w)
turn_goes ls w kept tells =
    turn_case w (λ o v. IsKept true v → IfSome o (NamesWord (length w.collector.counts.slots) w.collector.fields (length w.collector.newer)) → Goes ls (flat_map lines_of (shown_behind v (seen_at w o))) v)
    (λ none still names. goes_none ls w tells)
    by
    (move_kept w Move.Turns kept tt) (names_word w.collector kept.collector.machine)
  where
    by : (op : Op) → ◌≡◌ {A = Option Op} (next_of w.collector) (Some op) → IsKept true (turned_by w op (cell (cells_of w) op)) → NamesWord (length w.collector.counts.slots) w.collector.fields (length w.collector.newer) op
        → Goes ls (flat_map lines_of (shown_behind (turned_by w op (cell (cells_of w) op)) (seen_at w (Some op)))) (turned_by w op (cell (cells_of w) op))
    by op named still names =
        let v : Core = turned_by w op (cell (cells_of w) op) in
        let one : Goes ls (lines_of (shown_of op (cell (cells_of w) op) v.collector)) v = step_goes ls v op (cell (cells_of w) op) still (turned_tells ls w op kept named still names tells) in
        subst (λ ts. Goes ls ts v) (sym (append-nil (lines_of (shown_of op (cell (cells_of w) op) v.collector)))) one

pub moves_go : (ls : List Line) (w : Core) (ms : List Move) → IsKept true w → AllFit w ms → Tells ls w → Goes ls (flat_map lines_of (shown_over w ms)) (after_moves w ms)
moves_go ls w [] kept fit tells = goes_none ls w tells
moves_go ls w (m ∷ ms) kept fit tells =
    let v : Core = after_move w m in
    let here : Goes ls (flat_map lines_of (shown_in w m)) v = first m fit.0 in
    let rest : Goes (ls ++ flat_map lines_of (shown_in w m)) (flat_map lines_of (shown_over v ms)) (after_moves v ms) = moves_go (ls ++ flat_map lines_of (shown_in w m)) v ms (move_kept w m kept fit.0) fit.1 here.tells in
    subst (λ ts. Goes ls ts (after_moves v ms)) (sym (flat_map-append lines_of (shown_in w m) (shown_over v ms))) (goes_both ls (flat_map lines_of (shown_in w m)) (flat_map lines_of (shown_over v ms)) v (after_moves v ms) here rest)
  where
    first : (m : Move) → Fits w m → Goes ls (flat_map lines_of (shown_in w m)) (after_move w m)
    first (Move.Begins t work from) fits = goes_none ls (after_move w (Move.Begins t work from)) (quiet_tells ls w (Move.Begins t work from) tt kept fits tells)
    first (Move.Steps t) fits = goes_none ls (after_move w (Move.Steps t)) (quiet_tells ls w (Move.Steps t) tt kept fits tells)
    first Move.Turns fits = turn_goes ls w kept tells
    first Move.Offers fits = goes_none ls (after_move w Move.Offers) (quiet_tells ls w Move.Offers tt kept fits tells)

-- ---- the opening

pub opening_tells : (config : Config) → IsConfig config → Tells (opening_lines (heap_for config)) (heap_by true config)
opening_tells config is = record {
  heap = refl;
  puts = λ l c opened. absurd (false≢true (sym (shut l c) ∙ opened));
  early = λ l c opened. absurd (false≢true (sym (shut l c) ∙ opened));
  block = HasBlock.none refl (λ e c. none e c.0 c.2);
  taken = λ slot some. inl (told slot some);
  homes = λ unswept. absurd (false≢true unswept);
}
  where
    shut : (l : Line) → Contains (opening_lines (heap_for config)) l → opens l ≡ false
    shut l (zero, below, there) = sym (ap opens there)
    shut l (suc zero, below, there) = sym (ap opens there)
    shut l (suc (suc k), below, there) = absurd (omega arith)

    rows : List (List (Option ℕ))
    rows = rows_of config.registers config.mutators (first_object config).registers

    none : (e : Entry) (i : ℕ) → Contains (buffer_at (heap_by true config).collector.older i).entries e → ⊥
    none e i c = elim (cases_lt i (length rows)) [
      | inl there ↦ none_in e (buffer_at (heap_by true config).collector.older i).entries (ap (λ (b : Buffer). b.entries) (get_or-map (λ own. retired own config.log_entries) rows i [] (blank 0 0) there)) c
      | inr past ↦ none_in e (buffer_at (heap_by true config).collector.older i).entries (ap (λ (b : Buffer). b.entries) (get_or_past (heap_by true config).collector.older i (blank 0 0) (omega (arith, past, length-map rows (λ own. retired own config.log_entries))))) c
    ]

    told : (slot : ℕ) → 0 < slice_index_or {A = ℕ} (1 ∷ replicate (config.slots - 1) 0) slot 0 → is_taken (opening_lines (heap_for config)) slot ≡ true
    told zero some = refl
    told (suc n) some = absurd (free (cases_lt n (config.slots - 1)))
      where
        free : (n < config.slots - 1) ⊎ (config.slots - 1 ≤ n) → ⊥
        free (inl there) = omega (arith, some, get_or-replicate {A = ℕ} (config.slots - 1) n 0 0 there)
        free (inr past) = omega (arith, some, get_or_past (replicate {A = ℕ} (config.slots - 1) 0) n 0 (omega (arith, past, length-replicate {A = ℕ} (config.slots - 1) 0)))

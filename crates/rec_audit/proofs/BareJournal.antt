-- A run's journal has the lines of the run of dated words behind it, with bare words: where that one gives up nothing in reach, it doesn't.
use Rattle.std.proofs.Common.{◌≡◌, ℕ, suc, zero, ◌+◌, ◌==◌, Bool, true, false, if◌then◌else◌, Option, None, Some, List, [], ◌∷◌, ◌++◌, map, refl, sym, ap, subst, ◌∙◌, arith, append_assoc, append-nil}
use Rattle.std.specs.List.{Contains, enumerate_from, flat_map}
use Rattle.std.specs.Option.{option_map}
use Rattle.std.proofs.lemmas.Bool.{eq-eqb, eqb-true, false≢true}
use Rattle.std.proofs.lemmas.List.Concat.{flat_map-append}
use Rattle.rec_word.specs.Bare.{bare, bare_in, bare_op}
use Rattle.rec_word.specs.Op.{cell_of}
use Rattle.rec_word.specs.declared.op.Op.{Op}
use Rattle.rec_word.specs.declared.op.Op.TheVariants as ops
use Rattle.rec_log.specs.Words.{buffer_by, entry_by}
use Rattle.rec_log.specs.declared.contents.Contents.{Contents as Buffer}
use Rattle.rec_log.specs.declared.entry.Entry.{Entry}
use Rattle.rec_log.specs.declared.entry.Entry.TheVariants as entries
use Rattle.rec_collector.specs.Bare.{bare_buffers, bare_private}
use Rattle.rec_collector.specs.Next.{next_of}
use Rattle.rec_collector.specs.Private.{Private}
use Rattle.rec_collector.specs.Shown.{Batch, Shown, applied_in, applied_newer, applied_newer_in, applied_of, batch_of, batch_with, completed_in, completed_of, passed_of, shown_of}
use Rattle.rec_collector.specs.declared.phase.Phase.{Phase}
use Rattle.rec_collector.specs.declared.phase.Phase.TheVariants.{Returning, Idle, Looking}
use Rattle.rec_collector.proofs.Bare as collecting
use Rattle.rec_core.specs.Bare.{bare_core}
use Rattle.rec_core.specs.Cells.{cell}
use Rattle.rec_core.specs.Core.{Core, cells_of}
use Rattle.rec_core.specs.Kept.{IsKept}
use Rattle.rec_core.specs.Moves.{AllFit, Move, after_move, turned}
use Rattle.rec_core.specs.Shown.{shown_behind, shown_in, shown_over, turn_shown}
use Rattle.rec_core.specs.Turn.{seen_at}
use Rattle.rec_core.proofs.Bare.{found_bare}
use Rattle.rec_core.proofs.BareSeen.{turned_behind}
use Rattle.rec_core.proofs.Dated.{Explains, move_explained}
use Rattle.rec_audit.specs.Form.{is_heap}
use Rattle.rec_audit.specs.Graph.{is_out, is_put, opens}
use Rattle.rec_audit.specs.Journal.{batch_lines, completed_lines, entry_line, line_of, lines_of, op_lines, opening_lines, part_lines, parts_lines, passed_lines}
use Rattle.rec_audit.specs.Lines.{Line}
use Rattle.rec_audit.specs.declared.form.Heap.{Heap}
use Rattle.rec_audit.specs.declared.kind.Kind.TheVariants as kinds
use Rattle.rec_audit.proofs.Bared.{Alike, has_reached_less, push_out, push_plain, push_put, push_skip}
use Rattle.rec_audit.proofs.RunClean.{Clear, clear_both}
use Rattle.rec_audit.proofs.Runs.{passed_same}

-- ---- lines side by side

-- these lines behind those, of dated words and of bare ones
pub record Beside (ls xs bs ys : List Line) : Type 0 where
  pub alike : Alike (ls ++ xs) (bs ++ ys)
  pub clear : Clear ls xs → Clear bs ys

alike_as : {ls xs bs ys : List Line} → ls ≡ xs → bs ≡ ys → Alike ls bs → Alike xs ys
alike_as {ls} {xs} {bs} {ys} a b is = subst (λ ts. Alike ts ys) a (subst (Alike ls) b is)

beside_none : (ls bs : List Line) → Alike ls bs → Beside ls [] bs []
beside_none ls bs a = record { alike = alike_as (sym (append-nil ls)) (sym (append-nil bs)) a; clear = λ c. tt }

clear_apart : (ls xs ys : List Line) → Clear ls (xs ++ ys) → Clear ls xs × Clear (ls ++ xs) ys
clear_apart ls [] ys c = (tt, subst (λ ts. Clear ts ys) (sym (append-nil ls)) c)
clear_apart ls (x ∷ xs) ys c =
    let rest = clear_apart (ls ++ x ∷ []) xs ys c.1 in
    ((c.0, rest.0), subst (λ ts. Clear ts ys) (append_assoc ls (x ∷ []) xs) rest.1)

beside_both : (ls xs zs bs ys us : List Line) → Beside ls xs bs ys → Beside (ls ++ xs) zs (bs ++ ys) us → Beside ls (xs ++ zs) bs (ys ++ us)
beside_both ls xs zs bs ys us a b = record {
  alike = alike_as (append_assoc ls xs zs) (append_assoc bs ys us) b.alike;
  clear = λ c. let both = clear_apart ls xs zs c in clear_both bs ys us (a.clear both.0) (b.clear both.1);
}

-- a line that tells no word
plain_one : (ls bs : List Line) (l : Line) → is_put l.kind ≡ false → is_out l.kind ≡ false → is_heap l.kind ≡ false → Alike ls bs → Beside ls (l ∷ []) bs (l ∷ [])
plain_one ls bs l put out heap a = record {
  alike = push_plain ls bs l put out heap a;
  clear = λ c. (λ fault. c.0 (record { kind = fault.kind; reached = has_reached_less ls bs l.numbers a fault.reached }), tt);
}

put_free : (l : Line) → l.kind ≡ kinds.Put → l.kind ≡ kinds.Free → ⊥
put_free l is free = let no : kinds.Put ≡ kinds.Free = sym is ∙ free in cc

out_free : (l : Line) → l.kind ≡ kinds.Out → l.kind ≡ kinds.Free → ⊥
out_free l is free = let no : kinds.Out ≡ kinds.Free = sym is ∙ free in cc

put_one : (ls bs : List Line) (t place new old : ℕ) → Alike ls bs → Beside ls (entry_line t (entries.Put place new old) ∷ []) bs (entry_line t (entries.Put place (bare new) (bare old)) ∷ [])
put_one ls bs t place new old a = record {
  alike = push_put ls bs (entry_line t (entries.Put place new old)) (entry_line t (entries.Put place (bare new) (bare old))) refl refl refl refl refl a;
  clear = λ c. (λ fault. put_free (entry_line t (entries.Put place (bare new) (bare old))) refl fault.kind, tt);
}

-- ---- a batch

entries_beside : (t : ℕ) (es : List Entry) (ls bs : List Line) → Alike ls bs → Beside ls (map (entry_line t) es) bs (map (entry_line t) (map (entry_by bare) es))
entries_beside t [] ls bs a = beside_none ls bs a
entries_beside t (entries.Put place new old ∷ es) ls bs a =
    let l : Line = entry_line t (entries.Put place new old) in
    let b : Line = entry_line t (entries.Put place (bare new) (bare old)) in
    let first : Beside ls (l ∷ []) bs (b ∷ []) = put_one ls bs t place new old a in
    beside_both ls (l ∷ []) (map (entry_line t) es) bs (b ∷ []) (map (entry_line t) (map (entry_by bare) es)) first (entries_beside t es (ls ++ l ∷ []) (bs ++ b ∷ []) first.alike)
entries_beside t (entries.Born slot leaf ∷ es) ls bs a =
    let l : Line = entry_line t (entries.Born slot leaf) in
    let first : Beside ls (l ∷ []) bs (l ∷ []) = plain_one ls bs l refl refl refl a in
    beside_both ls (l ∷ []) (map (entry_line t) es) bs (l ∷ []) (map (entry_line t) (map (entry_by bare) es)) first (entries_beside t es (ls ++ l ∷ []) (bs ++ l ∷ []) first.alike)

part_beside : (t : ℕ) (b : Buffer) (ls bs : List Line) → Alike ls bs → Beside ls (part_lines t b) bs (part_lines t (buffer_by bare b))
part_beside t b ls bs a =
    let its : List Line = map (entry_line t) b.entries in
    let bares : List Line = map (entry_line t) (map (entry_by bare) b.entries) in
    let first : Beside ls its bs bares = entries_beside t b.entries ls bs a in
    beside_both ls its _ bs bares _ first (plain_one (ls ++ its) (bs ++ bares) _ refl refl refl first.alike)

rows_beside : (n : ℕ) (row : List Buffer) (ls bs : List Line) → Alike ls bs
    → Beside ls (flat_map (λ (p : ℕ × Buffer). part_lines p.0 p.1) (enumerate_from n row)) bs (flat_map (λ (p : ℕ × Buffer). part_lines p.0 p.1) (enumerate_from n (bare_buffers row)))
rows_beside n [] ls bs a = beside_none ls bs a
rows_beside n (b ∷ row) ls bs a =
    let first : Beside ls (part_lines n b) bs (part_lines n (buffer_by bare b)) = part_beside n b ls bs a in
    beside_both ls (part_lines n b) _ bs (part_lines n (buffer_by bare b)) _ first (rows_beside (n + 1) row (ls ++ part_lines n b) (bs ++ part_lines n (buffer_by bare b)) first.alike)

-- the batch with bare words
abbrev pub bare_batch : Batch → Batch
bare_batch b = record b { newer = bare_buffers b.newer }

batch_beside : (x : Option Batch) (ls bs : List Line) → Alike ls bs → Beside ls (batch_lines x) bs (batch_lines (option_map bare_batch x))
batch_beside None ls bs a = beside_none ls bs a
batch_beside (Some b) ls bs a =
    let e : Line = line_of kinds.Epoch (b.epoch ∷ []) in
    let first : Beside ls (e ∷ []) bs (e ∷ []) = plain_one ls bs e refl refl refl a in
    beside_both ls (e ∷ []) (parts_lines b.newer) bs (e ∷ []) (parts_lines (bare_buffers b.newer)) first (rows_beside 1 b.newer (ls ++ e ∷ []) (bs ++ e ∷ []) first.alike)

-- ---- what the collector did

op_beside : (op : Op) (word : ℕ) (ls bs : List Line) → Alike ls bs → Beside ls (op_lines op word) bs (op_lines op (bare_in (cell_of op) word))
op_beside (ops.ClearField place) word ls bs a = go (word == 0) (bare word == 0) refl refl
  where
    l : Line
    l = line_of kinds.Out (place ∷ word ∷ [])

    b : Line
    b = line_of kinds.Out (place ∷ bare word ∷ [])

    go : (none gone : Bool) → word == 0 ≡ none → bare word == 0 ≡ gone → Beside ls (if none then [] else l ∷ []) bs (if gone then [] else b ∷ [])
    go true true is its = beside_none ls bs a
    go true false is its = absurd (false≢true (sym its ∙ eq-eqb (bare word) 0 (ap bare (eqb-true word 0 is))))
    go false true is its = record { alike = subst (Alike (ls ++ l ∷ [])) (sym (append-nil bs)) (push_skip ls bs l refl (eqb-true (bare word) 0 its) a); clear = λ c. tt }
    go false false is its = record { alike = push_out ls bs l b refl refl refl refl a; clear = λ c. (λ fault. out_free b refl fault.kind, tt) }
op_beside (ops.FreeHeader slot) word ls bs a = plain_one ls bs (line_of kinds.Sweep (slot ∷ [])) refl refl refl a
op_beside (ops.SwapField place new) word ls bs a = beside_none ls bs a
op_beside (ops.LoadField place) word ls bs a = beside_none ls bs a
op_beside (ops.LoadHeader slot) word ls bs a = beside_none ls bs a
op_beside ops.LoadEpoch word ls bs a = beside_none ls bs a
op_beside (ops.LoadCross t) word ls bs a = beside_none ls bs a
op_beside (ops.ClaimHeader slot header) word ls bs a = beside_none ls bs a
op_beside ops.LoadFreed word ls bs a = beside_none ls bs a
op_beside (ops.LoadChild place) word ls bs a = beside_none ls bs a
op_beside (ops.TakeBox t epoch) word ls bs a = beside_none ls bs a
op_beside (ops.GiveBox t epoch) word ls bs a = beside_none ls bs a
op_beside (ops.StoreEpoch epoch) word ls bs a = beside_none ls bs a
op_beside (ops.LookBox t epoch) word ls bs a = beside_none ls bs a
op_beside (ops.ReturnBox t epoch) word ls bs a = beside_none ls bs a
op_beside ops.AddFreed word ls bs a = beside_none ls bs a
op_beside (ops.ShiftBox t shift) word ls bs a = beside_none ls bs a

passed_beside : (x : Option (List ℕ)) (ls bs : List Line) → Alike ls bs → Beside ls (passed_lines x) bs (passed_lines x)
passed_beside None ls bs a = beside_none ls bs a
passed_beside (Some members) ls bs a = plain_one ls bs (line_of kinds.Free members) refl refl refl a

completed_beside : (x : Option ℕ) (ls bs : List Line) → Alike ls bs → Beside ls (completed_lines x) bs (completed_lines x)
completed_beside None ls bs a = beside_none ls bs a
completed_beside (Some epoch) ls bs a = plain_one ls bs (line_of kinds.End (epoch ∷ [])) refl refl refl a

-- ---- steps

newer_bare : (q : Private) (phase : Phase) → applied_newer_in (bare_private q) phase ≡ bare_buffers (applied_newer_in q phase)
newer_bare q Idle = refl
newer_bare q _ = refl

applied_bare : (q : Private) (phase : Phase) → applied_in (bare_private q) phase ≡ applied_in q phase
applied_bare q (Looking t) = refl
applied_bare q (Returning t) = refl
applied_bare q _ = refl

epoch_bare : (op : Op) (q : Private) → applied_of op (bare_private q) ≡ applied_of op q
epoch_bare (ops.StoreEpoch e) q = applied_bare q q.phase
epoch_bare (ops.LookBox t e) q = applied_bare q q.phase
epoch_bare (ops.ReturnBox t e) q = applied_bare q q.phase
epoch_bare _ q = refl

with_bare : (row : List Buffer) (epoch : Option ℕ) → batch_with (bare_buffers row) epoch ≡ option_map bare_batch (batch_with row epoch)
with_bare row None = refl
with_bare row (Some epoch) = refl

pub batch_is : (op : Op) (q : Private) → batch_of op (bare_private q) ≡ option_map bare_batch (batch_of op q)
batch_is op q =
    ap (λ row. batch_with row (applied_of op (bare_private q))) (newer_bare q q.phase)
    ∙ (ap (batch_with (bare_buffers (applied_newer q))) (epoch_bare op q) ∙ with_bare (applied_newer q) (applied_of op q))

completed_is : (q : Private) (phase : Phase) → completed_in (bare_private q) phase ≡ completed_in q phase
completed_is q Idle = refl
completed_is q _ = refl

step_beside : (op : Op) (word : ℕ) (q : Private) (ls bs : List Line) → Alike ls bs → Beside ls (lines_of (shown_of op word q)) bs (lines_of (shown_of op (bare_in (cell_of op) word) (bare_private q)))
step_beside op word q ls bs a =
    let x : Option Batch = batch_of op q in
    let told : Shown = record { op = op; word = bare_in (cell_of op) word; batch = option_map bare_batch x; passed = passed_of q; completed = completed_of q } in
    let same : told ≡ shown_of op (bare_in (cell_of op) word) (bare_private q)
    = (λ i. record { op = op; word = bare_in (cell_of op) word; batch = sym (batch_is op q) i; passed = sym (passed_same q q.phase) i; completed = sym (completed_is q q.phase) i }) in
    let xs : List Line = batch_lines x in
    let ys : List Line = batch_lines (option_map bare_batch x) in
    let first : Beside ls xs bs ys = batch_beside x ls bs a in
    let os : List Line = op_lines op word in
    let us : List Line = op_lines op (bare_in (cell_of op) word) in
    let second : Beside (ls ++ xs) os (bs ++ ys) us = op_beside op word (ls ++ xs) (bs ++ ys) first.alike in
    let ps : List Line = passed_lines (passed_of q) in
    let third : Beside ((ls ++ xs) ++ os) ps ((bs ++ ys) ++ us) ps = passed_beside (passed_of q) ((ls ++ xs) ++ os) ((bs ++ ys) ++ us) second.alike in
    let cs : List Line = completed_lines (completed_of q) in
    let fourth : Beside (((ls ++ xs) ++ os) ++ ps) cs (((bs ++ ys) ++ us) ++ ps) cs = completed_beside (completed_of q) (((ls ++ xs) ++ os) ++ ps) (((bs ++ ys) ++ us) ++ ps) third.alike in
    let last : Beside ((ls ++ xs) ++ os) (ps ++ cs) ((bs ++ ys) ++ us) (ps ++ cs) = beside_both ((ls ++ xs) ++ os) ps cs ((bs ++ ys) ++ us) ps cs third fourth in
    let late : Beside (ls ++ xs) (os ++ (ps ++ cs)) (bs ++ ys) (us ++ (ps ++ cs)) = beside_both (ls ++ xs) os (ps ++ cs) (bs ++ ys) us (ps ++ cs) second last in
    subst (λ (s : Shown). Beside ls (lines_of (shown_of op word q)) bs (lines_of s)) same (beside_both ls xs (os ++ (ps ++ cs)) bs ys (us ++ (ps ++ cs)) first late)

-- what a step applied and did, without what came of it
pub work_beside : (op : Op) (word : ℕ) (q : Private) (ls bs : List Line) → Alike ls bs
    → Alike (ls ++ (batch_lines (batch_of op q) ++ op_lines op word)) (bs ++ (batch_lines (batch_of op (bare_private q)) ++ op_lines op (bare_in (cell_of op) word)))
work_beside op word q ls bs a =
    let x : Option Batch = batch_of op q in
    let xs : List Line = batch_lines x in
    let ys : List Line = batch_lines (option_map bare_batch x) in
    let first : Beside ls xs bs ys = batch_beside x ls bs a in
    let os : List Line = op_lines op word in
    let us : List Line = op_lines op (bare_in (cell_of op) word) in
    let second : Beside (ls ++ xs) os (bs ++ ys) us = op_beside op word (ls ++ xs) (bs ++ ys) first.alike in
    subst (λ (y : Option Batch). Alike (ls ++ (xs ++ os)) (bs ++ (batch_lines y ++ us))) (sym (batch_is op q)) (beside_both ls xs os bs ys us first second).alike

-- ---- moves

-- what is shown of a turn of the bare heap
pub shown_bare : (u : Core) (op : Op) → IsKept true u → ◌≡◌ {A = Option Op} (next_of u.collector) (Some op) → turn_shown (bare_core u) ≡ shown_of op (bare_in (cell_of op) (cell (cells_of u) op)) (bare_private (turned u).collector) ∷ []
shown_bare u op kept named =
    let none : bare_op op ≡ op = collecting.puts_none u.collector op named in
    let finds : cell (cells_of (bare_core u)) op ≡ bare_in (cell_of op) (cell (cells_of u) op) = ap (cell (cells_of (bare_core u))) (sym none) ∙ found_bare (cells_of u) op in
    let after : turned (bare_core u) ≡ bare_core (turned u) = sym (turned_behind u (bare_core u) (record { bare = refl; kept = kept })) in
    ap (λ (o : Option Op). shown_behind (turned (bare_core u)) (seen_at (bare_core u) o)) (collecting.next_bare u.collector ∙ named)
    ∙ (λ i. shown_of op (finds i) (after i).collector ∷ [])

turn_beside : (v w : Core) (ls bs : List Line) → Explains v w → Alike ls bs → Beside ls (flat_map lines_of (turn_shown v)) bs (flat_map lines_of (turn_shown w))
turn_beside v w ls bs e a = subst (λ (u : Core). Beside ls (flat_map lines_of (turn_shown v)) bs (flat_map lines_of (turn_shown u))) e.bare go
  where
    after : turned (bare_core v) ≡ bare_core (turned v)
    after = sym (turned_behind v (bare_core v) (record { bare = refl; kept = e.kept }))

    by : (x : Option Op) → ◌≡◌ {A = Option Op} (next_of v.collector) x → Beside ls (flat_map lines_of (shown_behind (turned v) (seen_at v x))) bs (flat_map lines_of (shown_behind (turned (bare_core v)) (seen_at (bare_core v) x)))
    by None named = beside_none ls bs a
    by (Some op) named =
        let none : bare_op op ≡ op = collecting.puts_none v.collector op named in
        let finds : cell (cells_of (bare_core v)) op ≡ bare_in (cell_of op) (cell (cells_of v) op) = ap (cell (cells_of (bare_core v))) (sym none) ∙ found_bare (cells_of v) op in
        let one : Beside ls (lines_of (shown_of op (cell (cells_of v) op) (turned v).collector)) bs (lines_of (shown_of op (bare_in (cell_of op) (cell (cells_of v) op)) (bare_private (turned v).collector)))
        = step_beside op (cell (cells_of v) op) (turned v).collector ls bs a in
        let same : shown_of op (bare_in (cell_of op) (cell (cells_of v) op)) (bare_private (turned v).collector) ≡ shown_of op (cell (cells_of (bare_core v)) op) (turned (bare_core v)).collector
        = (λ i. shown_of op (sym finds i) (sym after i).collector) in
        let left : Shown = shown_of op (cell (cells_of v) op) (turned v).collector in
        subst (λ xs. Beside ls xs bs (flat_map lines_of (shown_of op (cell (cells_of (bare_core v)) op) (turned (bare_core v)).collector ∷ []))) (sym (append-nil (lines_of left)))
        (subst (λ ys. Beside ls (lines_of left) bs ys) (sym (append-nil (lines_of (shown_of op (cell (cells_of (bare_core v)) op) (turned (bare_core v)).collector))))
        (subst (λ (s : Shown). Beside ls (lines_of left) bs (lines_of s)) same one))

    go : Beside ls (flat_map lines_of (turn_shown v)) bs (flat_map lines_of (turn_shown (bare_core v)))
    go = subst (λ (x : Option Op). Beside ls (flat_map lines_of (turn_shown v)) bs (flat_map lines_of (shown_behind (turned (bare_core v)) (seen_at (bare_core v) x)))) (sym (collecting.next_bare v.collector)) (by (next_of v.collector) refl)

move_beside : (v w : Core) (m : Move) (ls bs : List Line) → Explains v w → Alike ls bs → Beside ls (flat_map lines_of (shown_in v m)) bs (flat_map lines_of (shown_in w m))
move_beside v w (Move.Begins t work from) ls bs e a = beside_none ls bs a
move_beside v w (Move.Steps t) ls bs e a = beside_none ls bs a
move_beside v w Move.Turns ls bs e a = turn_beside v w ls bs e a
move_beside v w Move.Offers ls bs e a = beside_none ls bs a

pub moves_beside : (v w : Core) (ms : List Move) (ls bs : List Line) → Explains v w → AllFit w ms → Alike ls bs → Beside ls (flat_map lines_of (shown_over v ms)) bs (flat_map lines_of (shown_over w ms))
moves_beside v w [] ls bs e fit a = beside_none ls bs a
moves_beside v w (m ∷ ms) ls bs e fit a =
    let first : Beside ls (flat_map lines_of (shown_in v m)) bs (flat_map lines_of (shown_in w m)) = move_beside v w m ls bs e a in
    let rest = moves_beside (after_move v m) (after_move w m) ms (ls ++ flat_map lines_of (shown_in v m)) (bs ++ flat_map lines_of (shown_in w m)) (move_explained v w m e fit.0).1 fit.1 first.alike in
    subst (λ xs. Beside ls xs bs (flat_map lines_of (shown_over w (m ∷ ms)))) (sym (flat_map-append lines_of (shown_in v m) (shown_over (after_move v m) ms)))
    (subst (λ ys. Beside ls (flat_map lines_of (shown_in v m) ++ flat_map lines_of (shown_over (after_move v m) ms)) bs ys) (sym (flat_map-append lines_of (shown_in w m) (shown_over (after_move w m) ms)))
    (beside_both ls (flat_map lines_of (shown_in v m)) (flat_map lines_of (shown_over (after_move v m) ms)) bs (flat_map lines_of (shown_in w m)) (flat_map lines_of (shown_over (after_move w m) ms)) first rest))

-- ---- the opening

pub opening_alike : (heap : Heap) → Alike (opening_lines heap) (opening_lines heap)
opening_alike heap = record {
  heap = refl;
  roots_named = refl;
  taken = λ slot. refl;
  dead = λ word leads dead. absurd (false≢true dead);
  closing = λ word closes. absurd (false≢true closes);
  opened = λ b c opened. absurd (false≢true (sym (shut b c) ∙ opened));
  put = λ g. refl;
  replaced = λ g. refl;
  out = λ g null. refl;
  earlier = λ g. refl;
}
  where
    shut : (l : Line) → Contains (opening_lines heap) l → opens l ≡ false
    shut l (zero, below, there) = sym (ap opens there)
    shut l (suc zero, below, there) = sym (ap opens there)
    shut l (suc (suc k), below, there) = absurd (omega arith)

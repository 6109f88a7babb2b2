-- The lines of a run cover its heap, move by move: their words come to those of the heap, and they take no slot too many.
use Rattle.std.proofs.Common.{◌≡◌, ℕ, ◌*◌, ◌<◌, ◌≤◌, nat_lt, nat_le, Bool, true, false, Option, Some, IfSome, List, [], ◌∷◌, ◌++◌, length, refl, sym, ap, subst, ◌∙◌, arith, append-nil, append_assoc}
use Rattle.std.specs.List.{flat_map, sum_by}
use Rattle.std.proofs.lemmas.Bool.{false≢true}
use Rattle.std.proofs.lemmas.Bool.Decides.{nat_tests}
use Rattle.std.proofs.lemmas.List.Concat.{flat_map-append}
use Rattle.std.proofs.lemmas.List.Sums.{sum_by-append, sum_by-cons}
use Rattle.rec_core.proofs.Common.{only_if, epoch_of, sum_at, Write, Op, cell, IsMutator, Core, cells_of, mutator, IsKept, turned_by, applied_at}
use Rattle.rec_model.specs.Accounted.{late}
use Rattle.rec_model.proofs.Sums.{sum_at-replicate_none}
use Rattle.rec_mutator.specs.Private.{is_busy}
use Rattle.rec_collector.specs.Next.{next_of}
use Rattle.rec_collector.specs.Shown.{batch_of, completed_of, passed_of, shown_of}
use Rattle.rec_collector.specs.Step.{NamesWord}
use Rattle.rec_collector.proofs.Always.{names_word}
use Rattle.rec_core.specs.Config.{IsConfig}
use Rattle.rec_core.specs.Core.{heap_by}
use Rattle.rec_core.specs.Moves.{AllFit, Fits, Move, after_move, after_moves, stepped, turned}
use Rattle.rec_core.specs.Objects.{first_object}
use Rattle.rec_core.specs.Pending.{writes_of}
use Rattle.rec_core.specs.Shown.{shown_behind, shown_in, shown_over, turn_shown}
use Rattle.rec_core.specs.Turn.{seen_at}
use Rattle.rec_core.specs.declared.config.Config.{Config}
use Rattle.rec_audit.proofs.Lasting.{begun_less}
use Rattle.rec_core.proofs.Opened.{first_labels, first_objects, words_opened}
use Rattle.rec_core.proofs.OpenedFrom.{pending_begins}
use Rattle.rec_core.proofs.Runs.{move_kept}
use Rattle.rec_core.proofs.Turning.{turn_case}
use Rattle.rec_audit.specs.Graph.{has_target, is_out, tells}
use Rattle.rec_audit.specs.Form.{number}
use Rattle.rec_audit.specs.Journal.{batch_lines, completed_lines, lines_of, op_lines, opening_lines, passed_lines}
use Rattle.rec_audit.specs.Lines.{Line}
use Rattle.rec_audit.specs.Runs.{heap_for}
use Rattle.rec_audit.specs.declared.kind.Kind.{Kind}
use Rattle.rec_audit.specs.declared.kind.Kind.TheVariants as kinds
use Rattle.rec_audit.proofs.Balance.{Balanced, BalancedAt, after, early, late_replaces, puts, replaced_by, replaces, step_weighs, takes_out}
use Rattle.rec_audit.proofs.BalanceTurns.{turned_balance}
use Rattle.rec_audit.proofs.Blocks.{Each, each_at, each_both}
use Rattle.rec_audit.proofs.Journalled.{applied_in}
use Rattle.rec_audit.proofs.RunClean.{completed_quiet, is_quiet, passed_quiet, quiet_late}
use Rattle.rec_audit.proofs.Untold.{Untaken, begun_untaken, offering_untaken, opened_untaken, stepped_untaken, taken_none, turned_untaken}

pub record Covers (lines : List Line) (w : Core) : Type 0 where
  pub balance : Balanced lines w
  pub untaken : Untaken lines w

-- ---- lines that tell nothing of it

none_each : (test : Kind → Bool) (h : Line → ℕ) (more : List Line) → Each test more → ((l : Line) → test l.kind ≡ true → h l ≡ 0) → sum_by h more ≡ 0
none_each test h [] each none = refl
none_each test h (l ∷ more) each none = omega (arith, sum_by-cons h l more, none l each.0, none_each test h more each.1 none)

quiet_out : (k : Kind) → is_quiet k ≡ true → is_out k ≡ false
quiet_out kinds.Free is = refl
quiet_out kinds.End is = refl
quiet_out _ is = absurd (false≢true is)

quiet_tells_none : (slot : ℕ) (l : Line) → is_quiet l.kind ≡ true → tells slot l ≡ false
quiet_tells_none slot l is = go l.kind refl is
  where
    at : (k : Kind) → l.kind ≡ k → tells slot l ≡ tells slot (record { kind = k; numbers = l.numbers })
    at k is = ap (λ x. tells slot (record { kind = x; numbers = l.numbers })) is

    go : (k : Kind) → l.kind ≡ k → is_quiet k ≡ true → tells slot l ≡ false
    go kinds.Free same is = at kinds.Free same
    go kinds.End same is = at kinds.End same
    go _ same is = absurd (false≢true is)

quiet_covers : (ls more : List Line) (v : Core) → Each is_quiet more → Covers ls v → Covers (ls ++ more) v
quiet_covers ls more v each c = record {
  balance = record {
    stands = λ g.
        let f : ℕ → ℕ → ℕ = early (applied_in v) g in
        omega (arith, c.balance.stands g, sum_by-append (takes_out f) ls more, sum_by-append (replaces f) ls more, sum_by-append (puts f) ls more, outs f, changes f);
    near = λ g. omega (arith, c.balance.near g, sum_by-append (replaces (late (applied_in v) g)) ls more, changes (late (applied_in v) g));
    gone = λ g. omega (arith, c.balance.gone g, sum_by-append (takes_out (late (applied_in v) g)) ls more, outs (late (applied_in v) g));
  };
  untaken = λ slot why. taken_none slot ls more (λ l there. quiet_tells_none slot l (each_at is_quiet more l each there)) ∙ c.untaken slot why;
}
  where
    outs : (f : ℕ → ℕ → ℕ) → sum_by (takes_out f) more ≡ 0
    outs f = none_each is_quiet (takes_out f) more each (λ l is. ap (λ b. only_if b (f (number 0 l) (number 1 l))) (quiet_out l.kind is))

    changes : (f : ℕ → ℕ → ℕ) → sum_by (replaces f) more ≡ 0
    changes f = none_each is_quiet (replaces f) more each (λ l is. late_replaces f l (quiet_late l.kind is))

-- ---- moves

step_covers : (ls : List Line) (w : Core) (t : ℕ) → IsKept true w → IsMutator w.config t → is_busy (mutator w t) ≡ true → Covers ls w → Covers ls (stepped w t)
step_covers ls w t kept is busy c = record {
  balance = subst (λ n. BalancedAt n ls (stepped w t)) (sym same) (record {
    stands = λ g.
        let f : ℕ → ℕ → ℕ = early (applied_in w) g in
        omega (arith, c.balance.stands g, step_weighs w t kept is busy f (after (applied_in w) (replaced_by f)) (λ place. refl) (λ place new old past. (none (applied_in w) g place new past, less (nat_lt (applied_in w) (epoch_of new)) (f place old))));
    near = c.balance.near;
    gone = c.balance.gone;
  });
  untaken = stepped_untaken ls w t kept is busy c.untaken;
}
  where
    still : IsKept true (stepped w t)
    still = move_kept w (Move.Steps t) kept (is, busy)

    same : applied_in (stepped w t) ≡ applied_in w
    same = ap (λ e. applied_at e w.collector.phase) (sym still.collector.epoch ∙ kept.collector.epoch)

    none : (a : ℕ) (g : ℕ → ℕ → ℕ) (place new : ℕ) → a < epoch_of new → early a g place new ≡ 0
    none a g place new past = go (has_target new)
      where
        shut : only_if (nat_le (epoch_of new) a) (g place new) ≡ 0
        shut = grind (arith, nat_tests)

        go : (b : Bool) → only_if b (only_if (nat_le (epoch_of new) a) (g place new)) ≡ 0
        go true = shut
        go false = refl

    less : (b : Bool) (n : ℕ) → only_if b n ≤ n
    less true n = omega arith
    less false n = omega arith

turn_covers : (ls : List Line) (w : Core) → IsKept true w → Covers ls w → Covers (ls ++ flat_map lines_of (turn_shown w)) (turned w)
turn_covers ls w kept c =
    turn_case w (λ o v. IsKept true v → IfSome o (NamesWord (length w.collector.counts.slots) w.collector.fields (length w.collector.newer)) → Covers (ls ++ flat_map lines_of (shown_behind v (seen_at w o))) v)
    (λ none still names. subst (λ ts. Covers ts w) (sym (append-nil ls)) c)
    by
    (move_kept w Move.Turns kept tt) (names_word w.collector kept.collector.machine)
  where
    by : (op : Op) → ◌≡◌ {A = Option Op} (next_of w.collector) (Some op) → IsKept true (turned_by w op (cell (cells_of w) op)) → NamesWord (length w.collector.counts.slots) w.collector.fields (length w.collector.newer) op
        → Covers (ls ++ flat_map lines_of (shown_behind (turned_by w op (cell (cells_of w) op)) (seen_at w (Some op)))) (turned_by w op (cell (cells_of w) op))
    by op named still names =
        let word : ℕ = cell (cells_of w) op in
        let v : Core = turned_by w op (cell (cells_of w) op) in
        let xs : List Line = batch_lines (batch_of op v.collector) in
        let os : List Line = op_lines op word in
        let ps : List Line = passed_lines (passed_of v.collector) in
        let cs : List Line = completed_lines (completed_of v.collector) in
        let first : Covers ((ls ++ xs) ++ os) v = record { balance = turned_balance ls w op kept named still names c.balance; untaken = turned_untaken ls w op kept named still names c.untaken } in
        let all : Covers (((ls ++ xs) ++ os) ++ (ps ++ cs)) v = quiet_covers ((ls ++ xs) ++ os) (ps ++ cs) v (each_both is_quiet ps cs (passed_quiet (passed_of v.collector)) (completed_quiet (completed_of v.collector))) first in
        let one : Covers (ls ++ lines_of (shown_of op word v.collector)) v = subst (λ ts. Covers ts v) (append_assoc (ls ++ xs) os (ps ++ cs) ∙ append_assoc ls xs (os ++ (ps ++ cs))) all in
        subst (λ ts. Covers (ls ++ ts) v) (sym (append-nil (lines_of (shown_of op word v.collector)))) one

move_covers : (ls : List Line) (w : Core) (m : Move) → IsKept true w → Fits w m → Covers ls w → Covers (ls ++ flat_map lines_of (shown_in w m)) (after_move w m)
move_covers ls w (Move.Begins t work from) kept fits c = subst (λ ts. Covers ts (after_move w (Move.Begins t work from))) (sym (append-nil ls)) (record {
  balance = record {
    stands = λ g. omega (arith, c.balance.stands g, begun_less w t work from kept fits.0 (after (applied_in w) (replaced_by (early (applied_in w) g))));
    near = c.balance.near;
    gone = c.balance.gone;
  };
  untaken = begun_untaken ls w t work from kept fits.0 c.untaken;
})
move_covers ls w (Move.Steps t) kept fits c = subst (λ ts. Covers ts (after_move w (Move.Steps t))) (sym (append-nil ls)) (step_covers ls w t kept fits.0 fits.1 c)
move_covers ls w Move.Turns kept fits c = turn_covers ls w kept c
move_covers ls w Move.Offers kept fits c = subst (λ ts. Covers ts (after_move w Move.Offers)) (sym (append-nil ls)) (record {
  balance = record { stands = c.balance.stands; near = c.balance.near; gone = c.balance.gone };
  untaken = offering_untaken ls w c.untaken;
})

pub moves_cover : (ls : List Line) (w : Core) (ms : List Move) → IsKept true w → AllFit w ms → Covers ls w → Covers (ls ++ flat_map lines_of (shown_over w ms)) (after_moves w ms)
moves_cover ls w [] kept fit c = subst (λ ts. Covers ts w) (sym (append-nil ls)) c
moves_cover ls w (m ∷ ms) kept fit c =
    let v : Core = after_move w m in
    let here : Covers (ls ++ flat_map lines_of (shown_in w m)) v = move_covers ls w m kept fit.0 c in
    let rest : Covers ((ls ++ flat_map lines_of (shown_in w m)) ++ flat_map lines_of (shown_over v ms)) (after_moves v ms) = moves_cover (ls ++ flat_map lines_of (shown_in w m)) v ms (move_kept w m kept fit.0) fit.1 here in
    subst (λ ts. Covers ts (after_moves v ms)) (append_assoc ls (flat_map lines_of (shown_in w m)) (flat_map lines_of (shown_over v ms)) ∙ ap (λ ts. ls ++ ts) (sym (flat_map-append lines_of (shown_in w m) (shown_over v ms)))) rest

-- ---- the opening

pub opening_covers : (config : Config) → IsConfig config → Covers (opening_lines (heap_for config)) (heap_by true config)
opening_covers config is = record {
  balance = record {
    stands = λ g. (let f : ℕ → ℕ → ℕ = early (applied_in (heap_by true config)) g in omega (arith, words f (λ place. refl), writes (after (applied_in (heap_by true config)) (replaced_by f))));
    near = λ g. omega arith;
    gone = λ g. refl;
  };
  untaken = opened_untaken config is;
}
  where
    words : (f : ℕ → ℕ → ℕ) → ((place : ℕ) → f place 0 ≡ 0) → sum_at f (heap_by true config).words ≡ 0
    words f null = ap (sum_at f) (words_opened config is) ∙ sum_at-replicate_none f (config.slots * config.fields) 0 null

    writes : (h : Write → ℕ) → sum_by h (writes_of (heap_by true config)) ≡ 0
    writes = (pending_begins config (first_object config) is (first_objects config is) (first_labels config)).writes

-- Mutators are read behind a heap that is told before.
use Rattle.std.proofs.Common.{◌≡◌, inl, inr, ℕ, suc, ◌+◌, ◌-◌, ◌<◌, ◌≤◌, Bool, true, false, cond, List, [], ◌∷◌, ◌++◌, length, get_or, take, drop, replicate, refl, sym, ap, subst, ◌∙◌, arith, append_assoc, append-nil, length-append, length-drop}
use Rattle.std.specs.Prelude.{codes}
use Rattle.std.specs.List.{flat_map}
use Rattle.std.specs.Str.{IsUtf8}
use Rattle.std.proofs.lemmas.List.{replicate-append-replicate, take_all, take_more, take-append-drop}
use Rattle.std.proofs.lemmas.List.Elements.{All-push}
use Rattle.rec_model.specs.declared.command.Cmd.{Cmd}
use Rattle.rec_script.specs.declared.error.Kind.{Kind}
use Rattle.rec_script.specs.declared.error.Kind.TheVariants.{NoMutator, TooManyMutators}
use Rattle.rec_script.specs.declared.draft.Draft.{Draft}
use Rattle.rec_script.specs.declared.draft.Draft.TheVariants.{Nothing, Header, Sized, Whole}
use Rattle.rec_script.specs.Lines.{AreUtf8, counted, is_counted, lines, words}
use Rattle.rec_script.specs.Script.{AreCommands, IsFault, IsNeed, IsScript, ScriptContents, mutator_line, mutator_lines, spelled}
use Rattle.rec_script.specs.Drafts.{IsDraft, IsTaken, IsWrongFirst, so_far}
use Rattle.rec_script.specs.Behind.{AreMutators, BeginsMutator, GoOn, IsRefusedBehind, IsWrongLine, Numbers, SpellsMutators, heading, mutators_in}
use Rattle.rec_script.proofs.Endings.{Next, counted_next, need_no_script, next, utf8_next}
use Rattle.rec_script.proofs.Mutators.{many_mutators, no_commands}
use Rattle.rec_script.proofs.Plainness.{ascii}
use Rattle.rec_script.proofs.Regrouping.{Groups, command_of, glue_length, grouped, no_mutator_shape, regroup, same_script, same_version}
use Rattle.rec_script.proofs.Stopping.{Behind, all_at, behind, body_line, counted-append, counted_at, nothing_fits}

-- ---- how many mutators there are

-- each mutator has a line
lines_of : (css : List (List Cmd)) → length css ≤ length (flat_map mutator_lines css)
lines_of [] = omega arith
lines_of (cmds ∷ css) = omega (arith, length-append (mutator_lines cmds) (flat_map mutator_lines css), lines_of css)

-- a script with a line more has a mutator more just where that is its line
mutators_more : (mine other : ScriptContents) (line : List (List ℕ)) (rest : List (List (List ℕ))) → IsScript other → Behind mine line rest other → length other.commands ≡ length mine.commands + length (regroup (line ∷ rest)).behind
mutators_more mine other line rest is b = omega (arith, ap (λ (g : Groups). length g.behind) b.groups, glue_length mine.commands (regroup (line ∷ rest)))

one_line : (most : ℕ) (mine other : ScriptContents) (line : List (List ℕ)) → IsScript mine → IsScript other → spelled mine ++ line ∷ [] ≡ spelled other → length mine.commands ≤ most → (line ≡ mutator_line → length mine.commands < most) → length other.commands ≤ most
one_line most mine other line is-mine is-other e few unless =
    let b : Behind mine line [] other = behind mine line [] other is-mine is-other e in
    elim (body_line mine line [] other is-other b) [
      | inl is ↦
          let one : length (regroup (line ∷ [])).behind ≡ 1 = ap (λ (t : List (List ℕ)). length (regroup (t ∷ [])).behind) is in
          omega (arith, mutators_more mine other line [] is-other b, one, unless is)
      | inr is ↦
          let none : length (regroup (line ∷ [])).behind ≡ 0
          = ap (λ (t : Bool). length (cond t (grouped [] ([] ∷ [])) (grouped (command_of line ∷ []) [])).behind) (no_mutator_shape line is.0 (ap (λ (t : List (List ℕ)). get_or t 0 []) is.3, ap length is.3)) in
          omega (arith, mutators_more mine other line [] is-other b, none, few)
    ]

-- a draft with a line more has no more mutators than there may be
few_after : (most : ℕ) (d e : Draft) (more : List (List (List ℕ))) → 1 ≤ most → IsDraft d → IsDraft e → length more ≤ 1 → so_far e ≡ so_far d ++ more → mutators_in d ≤ most → (more ≡ mutator_line ∷ [] → mutators_in d < most) → mutators_in e ≤ most
few_after most d Nothing more some is-d is-e one same few unless = omega (arith, some)
few_after most d (Header v) more some is-d is-e one same few unless = omega (arith, some)
few_after most d (Sized v h) more some is-d is-e one same few unless = omega (arith, some)
few_after most Nothing (Whole s) more some is-d is-e one same few unless = omega (arith, some, one, ap length same, lines_of s.commands)
few_after most (Header v) (Whole s) more some is-d is-e one same few unless = omega (arith, some, one, ap length same, lines_of s.commands)
few_after most (Sized v h) (Whole s) more some is-d is-e one same few unless = omega (arith, some, one, ap length same, lines_of s.commands)
few_after most (Whole r) (Whole s) [] some is-d is-e one same few unless =
    let alike : s ≡ r = same_script s r is-e is-d (same ∙ append-nil (spelled r)) in
    omega (arith, few, ap (λ (x : ScriptContents). length x.commands) alike)
few_after most (Whole r) (Whole s) (line ∷ []) some is-d is-e one same few unless = one_line most r s line is-d is-e (sym same) few (λ is. unless (ap (λ (l : List (List ℕ)). l ∷ []) is))
few_after most (Whole r) (Whole s) (line ∷ other ∷ more) some is-d is-e one same few unless = absurd (omega (arith, one))

-- nor has the script that it is closed to
few_closed : (most : ℕ) (d : Draft) (s : ScriptContents) → IsDraft d → IsScript s → so_far d ≡ spelled s → mutators_in d ≤ most → length s.commands ≤ most
few_closed most Nothing s is-d is-s same few = omega (arith, ap length same, lines_of s.commands)
few_closed most (Header v) s is-d is-s same few = omega (arith, ap length same, lines_of s.commands)
few_closed most (Sized v h) s is-d is-s same few = omega (arith, ap length same, lines_of s.commands)
few_closed most (Whole r) s is-d is-s same few = omega (arith, few, ap (λ (x : ScriptContents). length x.commands) (same_script r s is-d is-s same))

-- one with as many as there may be is a script
full_script : (most : ℕ) (d : Draft) (before : List (List (List ℕ))) → 1 ≤ most → IsDraft d → so_far d ≡ before → mutators_in d ≡ most → (contents : ScriptContents) × IsScript contents × (before ≡ spelled contents) × (length contents.commands ≡ most)
full_script most Nothing before some is same full = absurd (omega (arith, some, full))
full_script most (Header v) before some is same full = absurd (omega (arith, some, full))
full_script most (Sized v h) before some is same full = absurd (omega (arith, some, full))
full_script most (Whole s) before some is same full = (s, is, sym same, full)

-- ---- what was read so far

pub record IsReadBehind (h : Numbers) (bytes rest : List ℕ) (d : Draft) (n : ℕ) : Type 0 where
  pub draft : IsDraft d
  pub spelt : so_far d ≡ heading h ++ counted (take n (lines bytes))
  pub utf8 : AreUtf8 (take n (lines bytes))
  pub others : lines rest ≡ drop n (lines bytes)
  pub within : n ≤ length (lines bytes)
  pub few : n + length rest ≤ length bytes
  pub mutators : mutators_in d ≤ h.mutators

-- at most one line counts of one
counted_one : (line : List ℕ) → length (counted (line ∷ [])) ≤ 1
counted_one line = go (is_counted (words line))
  where
    go : (b : Bool) → length (cond b (words line ∷ []) []) ≤ 1
    go true = omega arith
    go false = omega arith

-- what counts of one line alone is that line
counted_is : (line : List ℕ) (ws : List (List ℕ)) → counted (line ∷ []) ≡ ws ∷ [] → words line ≡ ws
counted_is line ws e = go (is_counted (words line)) e
  where
    go : (b : Bool) → cond b (words line ∷ []) [] ≡ ws ∷ [] → words line ≡ ws
    go true same = ap (λ (t : List (List (List ℕ))). get_or t 0 []) same
    go false same = absurd (omega (arith, ap length same))

-- then the next line
pub read_further : (h : Numbers) (bytes rest behind : List ℕ) (before after : Draft) (n : ℕ) → 1 ≤ h.mutators → IsReadBehind h bytes rest before n → IsTaken rest behind (so_far before) (so_far after) → IsDraft after
    → (BeginsMutator (lines rest) → mutators_in before < h.mutators) → IsReadBehind h bytes behind after (n + 1)
read_further h bytes rest behind before after n some so taken is unless =
    let at : Next (lines bytes) n taken.line (lines behind) = next (lines bytes) n taken.line (lines behind) (sym taken.first ∙ so.others) in
    record {
      draft = is;
      spelt = taken.more ∙ ap (λ (b : List (List (List ℕ))). b ++ counted (taken.line ∷ [])) so.spelt ∙ append_assoc (heading h) (counted (take n (lines bytes))) (counted (taken.line ∷ [])) ∙ ap (λ (t : List (List (List ℕ))). heading h ++ t) (sym (counted_next (lines bytes) n taken.line (lines behind) at));
      utf8 = utf8_next (lines bytes) n taken.line (lines behind) at so.utf8 taken.utf8;
      others = at.others;
      within = omega (arith, at.there);
      few = omega (arith, taken.less, so.few);
      mutators = few_after h.mutators before after (counted (taken.line ∷ [])) some so.draft is (counted_one taken.line) taken.more so.mutators
          (λ is-mutator. unless (record { line = taken.line; others = lines behind; first = taken.first; is = counted_is taken.line mutator_line is-mutator }));
    }

-- ---- lines that go on

two_long : (h : Numbers) (d : Draft) (more : List (List (List ℕ))) → so_far d ≡ heading h ++ more → 2 ≤ length (so_far d)
two_long h d more e = omega (arith, ap length e, length-append (heading h) more)

mutator_utf8 : IsUtf8 (codes "mutator")
mutator_utf8 = ascii (codes "mutator") (omega arith, (omega arith, (omega arith, (omega arith, (omega arith, (omega arith, (omega arith, tt)))))))

goes_on : (h : Numbers) (d : Draft) (before : List (List ℕ)) → 1 ≤ h.mutators → IsDraft d → AreUtf8 before → so_far d ≡ heading h ++ counted before → mutators_in d ≤ h.mutators → GoOn h before
goes_on h Nothing before some is utf8 e few = absurd (omega (arith, two_long h Nothing (counted before) e))
goes_on h (Header v) before some is utf8 e few = absurd (omega (arith, two_long h (Header v) (counted before) e))
goes_on h (Sized v heap) before some is utf8 e few =
    let contents : ScriptContents = record { version = v; slots = heap.slots; fields = heap.fields; registers = heap.registers; commands = [] ∷ [] } in (
      codes "mutator" ∷ [],
      contents,
      record {
        utf8 = All-push IsUtf8 before (codes "mutator") utf8 mutator_utf8;
        counted_are = ap (λ (t : List (List (List ℕ))). heading h ++ t) (counted-append before (codes "mutator" ∷ [])) ∙ sym (append_assoc (heading h) (counted before) (mutator_line ∷ [])) ∙ ap (λ (t : List (List (List ℕ))). t ++ mutator_line ∷ []) (sym e);
        limits = record {
          version = is.0;
          heap = is.1;
          some_mutators = omega arith;
          most_mutators = omega (arith, many_mutators v);
          commands = All-push (AreCommands v heap.registers heap.fields) [] [] (λ k d lt. absurd (omega arith)) (no_commands v heap.registers heap.fields);
        };
        few = omega (arith, some);
      },
    )
goes_on h (Whole script) before some is utf8 e few = (
  [],
  script,
  record {
    utf8 = subst (λ (t : List (List ℕ)). AreUtf8 t) (sym (append-nil before)) utf8;
    counted_are = ap (λ (t : List (List ℕ)). heading h ++ counted t) (append-nil before) ∙ sym e;
    limits = is;
    few = few;
  },
)

-- ---- lines that don't

-- the words of a line behind such lines, in a script
spelled_at : (h : Numbers) (before : List (List ℕ)) (line : List ℕ) (after : List (List ℕ)) (contents : ScriptContents) → is_counted (words line) ≡ true → SpellsMutators h ((before ++ line ∷ []) ++ after) contents → (heading h ++ counted before) ++ words line ∷ counted after ≡ spelled contents
spelled_at h before line after contents counts spells =
    append_assoc (heading h) (counted before) (words line ∷ counted after) ∙ ap (λ (t : List (List (List ℕ))). heading h ++ t) (sym (counted_at before line after counts)) ∙ spells.counted_are

stops_behind : (h : Numbers) (before : List (List ℕ)) (line : List ℕ) (kind : Kind) → IsWrongLine h (heading h ++ counted before) line kind → GoOn h (before ++ line ∷ []) → ⊥
stops_behind h before line kind (IsWrongLine.fault _ (IsFault.not_utf8 none)) on =
    none (all_at IsUtf8 before line on.0 (subst (λ (t : List (List ℕ)). AreUtf8 t) (append_assoc before (line ∷ []) on.0) on.2.utf8))
stops_behind h before line kind (IsWrongLine.fault _ (IsFault.bad_words _ utf8 counts fits)) on =
    nothing_fits (heading h ++ counted before) (words line) (counted on.0) kind on.1 on.2.limits (spelled_at h before line on.0 on.1 counts on.2) fits
stops_behind h before line _ (IsWrongLine.one_more mine is-mine spelt is full) on =
    let counts : is_counted (words line) ≡ true = ap is_counted is in
    let e : spelled mine ++ words line ∷ counted on.0 ≡ spelled on.1 = ap (λ (b : List (List (List ℕ))). b ++ words line ∷ counted on.0) (sym spelt) ∙ spelled_at h before line on.0 on.1 counts on.2 in
    let b : Behind mine (words line) (counted on.0) on.1 = behind mine (words line) (counted on.0) on.1 is-mine on.2.limits e in
    let one : length (regroup (words line ∷ counted on.0)).behind ≡ suc (length (regroup (counted on.0)).behind) = ap (λ (t : List (List ℕ)). length (regroup (t ∷ counted on.0)).behind) is in
    omega (arith, mutators_more mine on.1 (words line) (counted on.0) on.2.limits b, one, on.2.few, full)

-- ---- refusals

refused_line : (h : Numbers) (bytes rest : List ℕ) (d : Draft) (n line number : ℕ) (first : List ℕ) (more : List (List ℕ)) (kind : Kind) → 1 ≤ h.mutators → IsReadBehind h bytes rest d n → number ≡ line + n + 1 → lines rest ≡ first ∷ more → IsWrongLine h (so_far d) first kind → IsRefusedBehind h bytes line number kind
refused_line h bytes rest d n line number first more kind some so at parts wrong =
    let here : Next (lines bytes) n first more = next (lines bytes) n first more (sym parts ∙ so.others) in
    let its : IsWrongLine h (heading h ++ counted (take n (lines bytes))) (get_or (lines bytes) n []) kind
    = subst (λ (l : List ℕ). IsWrongLine h (heading h ++ counted (take n (lines bytes))) l kind) (sym here.is) (subst (λ (b : List (List (List ℕ))). IsWrongLine h b first kind) so.spelt wrong) in
    inl (
      n,
      at,
      record {
        there = here.there;
        before = goes_on h d (take n (lines bytes)) some so.draft so.utf8 so.spelt so.mutators;
        not_with = subst (λ (t : List (List ℕ)). ¬ GoOn h t) (sym (take_more (lines bytes) n [] here.there)) (stops_behind h (take n (lines bytes)) (get_or (lines bytes) n []) kind its);
        wrong = its;
      },
    )

pub refused_words : (h : Numbers) (bytes rest : List ℕ) (d : Draft) (n line number : ℕ) (kind : Kind) → 1 ≤ h.mutators → IsReadBehind h bytes rest d n → number ≡ line + n + 1 → IsWrongFirst (lines rest) (so_far d) kind → IsRefusedBehind h bytes line number kind
refused_words h bytes rest d n line number kind some so at wrong = refused_line h bytes rest d n line number wrong.line wrong.others kind some so at wrong.first (IsWrongLine.fault kind wrong.fault)

pub refused_mutator : (h : Numbers) (bytes rest : List ℕ) (d : Draft) (n line number : ℕ) → 1 ≤ h.mutators → IsReadBehind h bytes rest d n → number ≡ line + n + 1 → BeginsMutator (lines rest) → mutators_in d ≡ h.mutators → IsRefusedBehind h bytes line number TooManyMutators
refused_mutator h bytes rest d n line number some so at begins full =
    let s = full_script h.mutators d (so_far d) some so.draft refl full in
    refused_line h bytes rest d n line number begins.line begins.others TooManyMutators some so at begins.first (IsWrongLine.one_more s.0 s.1 s.2 begins.is s.3)

-- ---- the end

need_is : (before : List (List (List ℕ))) (kind : Kind) → IsNeed before kind → 2 ≤ length before → kind ≡ NoMutator
need_is before _ (IsNeed.of_header none) long = absurd (omega (arith, long, ap length none))
need_is before _ (IsNeed.of_heap v known one) long = absurd (omega (arith, long, ap length one))
need_is before _ (IsNeed.of_mutator v s f r known heap two) long = refl

-- all lines were read
record IsAllRead (h : Numbers) (bytes : List ℕ) (d : Draft) (n : ℕ) : Type 0 where
  pub count : n ≡ length (lines bytes)
  pub spelt : so_far d ≡ heading h ++ counted (lines bytes)
  pub utf8 : AreUtf8 (lines bytes)

all_read : (h : Numbers) (bytes rest : List ℕ) (d : Draft) (n : ℕ) → IsReadBehind h bytes rest d n → length (lines rest) ≡ 0 → IsAllRead h bytes d n
all_read h bytes rest d n so none =
    let all : length (lines bytes) ≤ n = omega (arith, none, ap length so.others, length-drop n (lines bytes)) in
    let whole : take n (lines bytes) ≡ lines bytes = take_all n (lines bytes) all in
    record { count = omega (arith, all, so.within); spelt = so.spelt ∙ ap (λ (t : List (List ℕ)). heading h ++ counted t) whole; utf8 = subst AreUtf8 whole so.utf8 }

pub refused_end : (h : Numbers) (bytes rest : List ℕ) (d : Draft) (n line number : ℕ) (kind : Kind) → 1 ≤ h.mutators → IsReadBehind h bytes rest d n → length (lines rest) ≡ 0 → IsNeed (so_far d) kind → number ≡ line + n + 1 → IsRefusedBehind h bytes line number kind
refused_end h bytes rest d n line number kind some so none need at =
    let all = all_read h bytes rest d n so none in
    inr (
      at ∙ ap (λ (m : ℕ). line + m + 1) all.count,
      record {
        before = goes_on h d (lines bytes) some so.draft all.utf8 all.spelt so.mutators;
        not_whole = λ contents spells. need_no_script (so_far d) kind contents need spells.limits (all.spelt ∙ spells.counted_are);
        need = need_is (so_far d) kind need (two_long h d (counted (lines bytes)) all.spelt);
      },
    )

-- what was read spells the script that it is closed to
pub spells_closed : (h : Numbers) (bytes rest : List ℕ) (d : Draft) (n : ℕ) (s : ScriptContents) → IsReadBehind h bytes rest d n → length (lines rest) ≡ 0 → IsScript s → so_far d ≡ spelled s → SpellsMutators h (lines bytes) s
spells_closed h bytes rest d n s so none is same =
    let all = all_read h bytes rest d n so none in
    record { utf8 = all.utf8; counted_are = sym all.spelt ∙ same; limits = is; few = few_closed h.mutators d s so.draft is same so.mutators }

-- it is of version 3
pub third : (h : Numbers) (text : List (List ℕ)) (s : ScriptContents) → SpellsMutators h text s → s.version ≡ 3
third h text s spells = sym (same_version 3 s.version (record { some = omega arith; most = omega arith }) spells.limits.version (ap (λ (t : List (List (List ℕ))). get_or t 0 []) spells.counted_are))

-- what is refused is no mutators' text
pub refused_none : (h : Numbers) (bytes : List ℕ) (line number : ℕ) (kind : Kind) → IsRefusedBehind h bytes line number kind → AreMutators h bytes → ⊥
refused_none h bytes line number kind (inl at) (contents, spells) =
    at.2.not_with (drop (at.0 + 1) (lines bytes), contents, subst (λ (t : List (List ℕ)). SpellsMutators h t contents) (sym (take-append-drop (at.0 + 1) (lines bytes))) spells)
refused_none h bytes line number kind (inr late) (contents, spells) = late.1.not_whole contents spells

-- one mutator more without commands
pub all_more : (css : List (List Cmd)) (i : ℕ) → length css ≤ i → (css ++ replicate (i - length css) []) ++ [] ∷ [] ≡ css ++ replicate (i + 1 - length css) []
all_more css i few =
    let next : i - length css + 1 ≡ i + 1 - length css = omega arith in
    append_assoc css (replicate (i - length css) []) ([] ∷ []) ∙ ap (λ (t : List (List Cmd)). css ++ t) (replicate-append-replicate (i - length css) 1 [] ∙ ap (λ m. replicate m []) next)

-- The lines that a run of dated words would have, and those of bare words, which a journal has: a path in these is one in those.
use Rattle.std.proofs.Common.{◌≡◌, ◌⊎◌, inl, inr, ℕ, suc, zero, ◌-◌, ◌/◌, ◌==◌, ◌||◌, ◌&&◌, not, nat_lt, Bool, true, false, cond, Some, List, [], ◌∷◌, ◌++◌, map, filter, refl, sym, ap, subst, ◌∙◌, arith, append-nil}
use Rattle.std.specs.List.{Contains, flat_map, list_any, range_with_len, sum_by}
use Rattle.std.proofs.Math.Bool.{or-false}
use Rattle.std.proofs.lemmas.Bool.{eq-eqb, eqb-true, false≢true, or_cases}
use Rattle.std.proofs.lemmas.List.Concat.{flat_map-append}
use Rattle.std.proofs.lemmas.List.Elements.{Contains-append_cases, Contains-append_left, Contains-append_right}
use Rattle.std.proofs.lemmas.List.Sums.{sum_by_push}
use Rattle.rec_word.specs.Bare.{bare}
use Rattle.rec_word.specs.Word.{target_bits}
use Rattle.rec_model.specs.Reach.{is_in, IsReached}
use Rattle.rec_model.proofs.Within.{all_reached}
use Rattle.rec_audit.specs.Form.{heap_of, is_epoch, is_heap, last_that, number}
use Rattle.rec_model.specs.Sums.{only_if}
use Rattle.rec_audit.proofs.Balance.{puts, replaces, takes_out}
use Rattle.rec_audit.specs.Graph.{HasReached, IsReachedAt, closes, earlier_blocks, has_target, is_born, is_dead, is_out, is_put, is_sweep, is_taken, named_by, opens, opens_from, roots, taken_by, target_in, targets, tells, this_block}
use Rattle.rec_audit.specs.Graphs.{closing_in, named_in}
use Rattle.rec_audit.specs.Lines.{Line}
use Rattle.rec_audit.specs.declared.kind.Kind.TheVariants as kinds
use Rattle.rec_audit.proofs.LinesGrown.{any_closing, any_more, dead_epoch, dead_out, dead_same, earlier_more, earlier_new, heap_same, last_more, taken_same, this_more, this_new}
use Rattle.rec_audit.proofs.Rising.{both_of}
use Rattle.rec_audit.proofs.RunReach.{LeadsTo, target_member}
use Rattle.rec_audit.proofs.Marking.{or_left, or_right}
use Rattle.rec_word.proofs.Bare.{bits_bare}

pub leads_same : (word : ℕ) → has_target (bare word) ≡ has_target word
leads_same word = ap (λ n. nat_lt 0 n) (bits_bare word)

-- a word that leads somewhere isn't 0
bare_some : (word : ℕ) → has_target word ≡ true → bare word ≡ 0 → ⊥
bare_some word leads none = false≢true (sym (ap has_target none) ∙ (leads_same word ∙ leads))

-- a line that opened the reference which a line of bare words opens
pub record Opened (ls : List Line) (b : Line) : Type 0 where
  pub line : Line
  pub listed : Contains ls line
  pub opens_one : opens line ≡ true
  pub place : number 1 line ≡ number 1 b
  pub word : bare (number 2 line) ≡ number 2 b

-- a weight of words by what they are without a date
abbrev pub by_bare : (weight : ℕ → ℕ → ℕ) → (place word : ℕ) → ℕ
by_bare weight place word = weight place (bare word)

-- a line more, on either side
one_more : (f h : Line → ℕ) (xs ys : List Line) (l b : Line) → sum_by f ys ≡ sum_by h xs → f b ≡ h l → sum_by f (ys ++ b ∷ []) ≡ sum_by h (xs ++ l ∷ [])
one_more f h xs ys l b same both = omega (arith, same, both, sum_by_push f ys b, sum_by_push h xs l)

-- what a line that puts nothing weighs, and one that takes nothing out
put_none : (g : ℕ → ℕ → ℕ) (l : Line) → is_put l.kind ≡ false → puts g l ≡ 0
put_none g l is = ap (λ b. only_if b (g (number 1 l) (number 2 l))) is

replaced_none : (g : ℕ → ℕ → ℕ) (l : Line) → is_put l.kind ≡ false → replaces g l ≡ 0
replaced_none g l is = ap (λ b. only_if b (g (number 1 l) (number 3 l))) is

out_none : (g : ℕ → ℕ → ℕ) (l : Line) → is_out l.kind ≡ false → takes_out g l ≡ 0
out_none g l is = ap (λ b. only_if b (g (number 0 l) (number 1 l))) is

-- They tell the same heap, roots and slots; what is dead by those is dead by these; and each reference of these is one of those.
pub record Alike (ls bs : List Line) : Type 0 where
  pub heap : heap_of bs ≡ heap_of ls
  pub roots_named : named_in bs ≡ named_in ls
  pub taken : (slot : ℕ) → is_taken bs slot ≡ is_taken ls slot
  pub dead : (word : ℕ) → has_target word ≡ true → is_dead ls word ≡ true → is_dead bs (bare word) ≡ true
  pub closing : (word : ℕ) → list_any (closes word) (this_block ls) ≡ true → list_any (closes (bare word)) (this_block bs) ≡ true
  pub opened : (b : Line) → Contains bs b → opens b ≡ true → Opened ls b
  -- what they weigh by their bare words
  pub put : (g : ℕ → ℕ → ℕ) → sum_by (puts g) bs ≡ sum_by (puts (by_bare g)) ls
  pub replaced : (g : ℕ → ℕ → ℕ) → sum_by (replaces g) bs ≡ sum_by (replaces (by_bare g)) ls
  pub out : (g : ℕ → ℕ → ℕ) → ((place : ℕ) → g place 0 ≡ 0) → sum_by (takes_out g) bs ≡ sum_by (takes_out (by_bare g)) ls
  pub earlier : (g : ℕ → ℕ → ℕ) → sum_by (replaces g) (earlier_blocks bs) ≡ sum_by (replaces (by_bare g)) (earlier_blocks ls)

-- ---- a line more

abbrev named_of : Line → List ℕ
named_of l = named_by l.kind l.numbers

more_named : (xs : List Line) (l : Line) → is_epoch l.kind ≡ false → named_in (xs ++ l ∷ []) ≡ named_in xs ++ named_of l
more_named xs l within = ap (flat_map named_of) (this_more xs l within) ∙ (flat_map-append named_of (this_block xs) (l ∷ []) ∙ ap (λ ns. named_in xs ++ ns) (append-nil (named_of l)))

more_closing : (xs : List Line) (l : Line) (word : ℕ) → is_epoch l.kind ≡ false → list_any (closes word) (this_block (xs ++ l ∷ [])) ≡ (list_any (closes word) (this_block xs) || closes word l)
more_closing xs l word within = ap (list_any (closes word)) (this_more xs l within) ∙ any_more (closes word) (this_block xs) l

more_opened : (ls : List Line) (l b : Line) → Opened ls b → Opened (ls ++ l ∷ []) b
more_opened ls l b o = record { line = o.line; listed = Contains-append_left ls (l ∷ []) o.line o.listed; opens_one = o.opens_one; place = o.place; word = o.word }

-- the one line that is there
only_line : (l b : Line) → Contains (l ∷ []) b → l ≡ b
only_line l b (zero, below, there) = there
only_line l b (suc k, below, there) = absurd (omega arith)

-- the same line, which tells no word
pub push_plain : (ls bs : List Line) (l : Line) → is_put l.kind ≡ false → is_out l.kind ≡ false → is_heap l.kind ≡ false → Alike ls bs → Alike (ls ++ l ∷ []) (bs ++ l ∷ [])
push_plain ls bs l put out none a = go (is_epoch l.kind) refl
  where
    heap_too : heap_of (bs ++ l ∷ []) ≡ heap_of (ls ++ l ∷ [])
    heap_too = heap_same bs l none ∙ (a.heap ∙ sym (heap_same ls l none))

    taken_too : (slot : ℕ) → is_taken (bs ++ l ∷ []) slot ≡ is_taken (ls ++ l ∷ []) slot
    taken_too slot = ap (taken_by slot) (last_more (tells slot) bs l) ∙ (by (tells slot l) ∙ sym (ap (taken_by slot) (last_more (tells slot) ls l)))
      where
        by : (b : Bool) → taken_by slot (cond b (Some l) (last_that (tells slot) bs)) ≡ taken_by slot (cond b (Some l) (last_that (tells slot) ls))
        by true = refl
        by false = a.taken slot

    shut : opens l ≡ false
    shut = ap (λ b. b && has_target (number 2 l)) put

    no_closing : (word : ℕ) → closes word l ≡ false
    no_closing word = ap (λ b. b && (number 3 l == word)) put

    opened_too : (b : Line) → Contains (bs ++ l ∷ []) b → opens b ≡ true → Opened (ls ++ l ∷ []) b
    opened_too b c is = elim (Contains-append_cases bs (l ∷ []) b c) [
      | inl here ↦ more_opened ls l b (a.opened b here is)
      | inr last ↦ absurd (false≢true (sym shut ∙ (ap opens (only_line l b last) ∙ is)))
    ]

    put_too : (g : ℕ → ℕ → ℕ) → sum_by (puts g) (bs ++ l ∷ []) ≡ sum_by (puts (by_bare g)) (ls ++ l ∷ [])
    put_too g = one_more (puts g) (puts (by_bare g)) ls bs l l (a.put g) (put_none g l put ∙ sym (put_none (by_bare g) l put))

    replaced_too : (g : ℕ → ℕ → ℕ) → sum_by (replaces g) (bs ++ l ∷ []) ≡ sum_by (replaces (by_bare g)) (ls ++ l ∷ [])
    replaced_too g = one_more (replaces g) (replaces (by_bare g)) ls bs l l (a.replaced g) (replaced_none g l put ∙ sym (replaced_none (by_bare g) l put))

    out_too : (g : ℕ → ℕ → ℕ) → ((place : ℕ) → g place 0 ≡ 0) → sum_by (takes_out g) (bs ++ l ∷ []) ≡ sum_by (takes_out (by_bare g)) (ls ++ l ∷ [])
    out_too g null = one_more (takes_out g) (takes_out (by_bare g)) ls bs l l (a.out g null) (out_none g l out ∙ sym (out_none (by_bare g) l out))

    go : (epoch : Bool) → is_epoch l.kind ≡ epoch → Alike (ls ++ l ∷ []) (bs ++ l ∷ [])
    go true is = record {
      heap = heap_too;
      roots_named = ap (flat_map named_of) (this_new bs l is) ∙ sym (ap (flat_map named_of) (this_new ls l is));
      taken = taken_too;
      dead = λ word leads d. both word (dead_cases word leads (or_cases (is_dead ls word) (list_any (λ v. v == word) (closing_in ls)) (sym (dead_epoch ls l word out is) ∙ d)));
      closing = λ word c. absurd (false≢true (sym (ap (list_any (closes word)) (this_new ls l is)) ∙ c));
      opened = opened_too;
      put = put_too;
      replaced = replaced_too;
      out = out_too;
      earlier = λ g. ap (sum_by (replaces g)) (earlier_new bs l is) ∙ a.replaced g ∙ sym (ap (sum_by (replaces (by_bare g))) (earlier_new ls l is));
    }
      where
        dead_cases : (word : ℕ) → has_target word ≡ true → (is_dead ls word ≡ true) ⊎ (list_any (λ v. v == word) (closing_in ls) ≡ true) → (is_dead bs (bare word) ≡ true) ⊎ (list_any (closes (bare word)) (this_block bs) ≡ true)
        dead_cases word leads (inl d) = inl (a.dead word leads d)
        dead_cases word leads (inr c) = inr (a.closing word (sym (any_closing word (this_block ls)) ∙ c))

        both : (word : ℕ) → (is_dead bs (bare word) ≡ true) ⊎ (list_any (closes (bare word)) (this_block bs) ≡ true) → is_dead (bs ++ l ∷ []) (bare word) ≡ true
        both word (inl d) = dead_epoch bs l (bare word) out is ∙ or_left (is_dead bs (bare word)) (list_any (λ v. v == bare word) (closing_in bs)) d
        both word (inr c) = dead_epoch bs l (bare word) out is ∙ or_right (is_dead bs (bare word)) (list_any (λ v. v == bare word) (closing_in bs)) (any_closing (bare word) (this_block bs) ∙ c)
    go false is = record {
      heap = heap_too;
      roots_named = more_named bs l is ∙ (ap (λ ns. ns ++ named_of l) a.roots_named ∙ sym (more_named ls l is));
      taken = taken_too;
      dead = λ word leads d. dead_same bs l (bare word) out is ∙ a.dead word leads (sym (dead_same ls l word out is) ∙ d);
      closing = λ word c.
          let before : list_any (closes word) (this_block ls) ≡ true = sym (more_closing ls l word is ∙ (ap (λ b. list_any (closes word) (this_block ls) || b) (no_closing word) ∙ or-false (list_any (closes word) (this_block ls)))) ∙ c in
          more_closing bs l (bare word) is ∙ or_left (list_any (closes (bare word)) (this_block bs)) (closes (bare word) l) (a.closing word before);
      opened = opened_too;
      put = put_too;
      replaced = replaced_too;
      out = out_too;
      earlier = λ g. ap (sum_by (replaces g)) (earlier_more bs l is) ∙ a.earlier g ∙ sym (ap (sum_by (replaces (by_bare g))) (earlier_more ls l is));
    }

-- a line that puts a word, and the one with the bare words
pub push_put : (ls bs : List Line) (l b : Line) → l.kind ≡ kinds.Put → b.kind ≡ kinds.Put → number 1 b ≡ number 1 l → number 2 b ≡ bare (number 2 l) → number 3 b ≡ bare (number 3 l) → Alike ls bs → Alike (ls ++ l ∷ []) (bs ++ b ∷ [])
push_put ls bs l b is its place new old a = record {
  heap = heap_same bs b (ap is_heap its) ∙ (a.heap ∙ sym (heap_same ls l (ap is_heap is)));
  roots_named = more_named bs b (ap is_epoch its) ∙ (ap (λ ns. ns ++ named_of b) a.roots_named ∙ (ap (λ ns. named_in ls ++ ns) (ap (λ k. named_by k b.numbers) its ∙ sym (ap (λ k. named_by k l.numbers) is)) ∙ sym (more_named ls l (ap is_epoch is))));
  taken = λ slot. taken_same bs b slot (ap is_born its) (ap is_sweep its) ∙ (a.taken slot ∙ sym (taken_same ls l slot (ap is_born is) (ap is_sweep is)));
  dead = λ word leads d. dead_same bs b (bare word) (ap is_out its) (ap is_epoch its) ∙ a.dead word leads (sym (dead_same ls l word (ap is_out is) (ap is_epoch is)) ∙ d);
  closing = λ word c. more_closing bs b (bare word) (ap is_epoch its) ∙ either word (or_cases (list_any (closes word) (this_block ls)) (closes word l) (sym (more_closing ls l word (ap is_epoch is)) ∙ c));
  opened = λ x c o. elim (Contains-append_cases bs (b ∷ []) x c) [
    | inl here ↦ more_opened ls l x (a.opened x here o)
    | inr last ↦
        let same : b ≡ x = only_line b x last in
        subst (Opened (ls ++ l ∷ [])) same (record {
          line = l;
          listed = Contains-append_right ls (l ∷ []) l (0, omega arith, refl);
          opens_one = ap (λ k. is_put k && has_target (number 2 l)) is ∙ (sym (leads_same (number 2 l)) ∙ (ap has_target (sym new) ∙ (both_of (is_put b.kind) (has_target (number 2 b)) (ap opens same ∙ o)).1));
          place = sym place;
          word = sym new;
        })
  ];
  put = λ g. one_more (puts g) (puts (by_bare g)) ls bs l b (a.put g) (ap (λ k. only_if (is_put k) (g (number 1 b) (number 2 b))) its ∙ (λ i. g (place i) (new i)) ∙ sym (ap (λ k. only_if (is_put k) (g (number 1 l) (bare (number 2 l)))) is));
  replaced = λ g. one_more (replaces g) (replaces (by_bare g)) ls bs l b (a.replaced g) (ap (λ k. only_if (is_put k) (g (number 1 b) (number 3 b))) its ∙ (λ i. g (place i) (old i)) ∙ sym (ap (λ k. only_if (is_put k) (g (number 1 l) (bare (number 3 l)))) is));
  out = λ g null. one_more (takes_out g) (takes_out (by_bare g)) ls bs l b (a.out g null) (out_none g b (ap is_out its) ∙ sym (out_none (by_bare g) l (ap is_out is)));
  earlier = λ g. ap (sum_by (replaces g)) (earlier_more bs b (ap is_epoch its)) ∙ a.earlier g ∙ sym (ap (sum_by (replaces (by_bare g))) (earlier_more ls l (ap is_epoch is)));
}
  where
    either : (word : ℕ) → (list_any (closes word) (this_block ls) ≡ true) ⊎ (closes word l ≡ true) → (list_any (closes (bare word)) (this_block bs) || closes (bare word) b) ≡ true
    either word (inl c) = or_left (list_any (closes (bare word)) (this_block bs)) (closes (bare word) b) (a.closing word c)
    either word (inr c) =
        let same : number 3 l ≡ word = eqb-true (number 3 l) word (both_of (is_put l.kind) (number 3 l == word) c).1 in
        or_right (list_any (closes (bare word)) (this_block bs)) (closes (bare word) b) (ap (λ k. is_put k && (number 3 b == bare word)) its ∙ eq-eqb (number 3 b) (bare word) (old ∙ ap bare same))

-- what is dead behind a line that takes a word out
out_dead : (ls bs : List Line) (l : Line) (word : ℕ) → l.kind ≡ kinds.Out → Alike ls bs → has_target word ≡ true → is_dead (ls ++ l ∷ []) word ≡ true → (is_dead bs (bare word) ≡ true) ⊎ (number 1 l ≡ word)
out_dead ls bs l word is a leads d = elim (or_cases (is_dead ls word) (number 1 l == word) (sym (dead_out ls l word (ap is_out is) (ap is_epoch is)) ∙ d)) [
  | inl before ↦ inl (a.dead word leads before)
  | inr taken ↦ inr (eqb-true (number 1 l) word taken)
]

-- a line that takes a word out, and the one with the bare word
pub push_out : (ls bs : List Line) (l b : Line) → l.kind ≡ kinds.Out → b.kind ≡ kinds.Out → number 0 b ≡ number 0 l → number 1 b ≡ bare (number 1 l) → Alike ls bs → Alike (ls ++ l ∷ []) (bs ++ b ∷ [])
push_out ls bs l b is its place_is word_is a = record {
  heap = heap_same bs b (ap is_heap its) ∙ (a.heap ∙ sym (heap_same ls l (ap is_heap is)));
  roots_named = more_named bs b (ap is_epoch its) ∙ (ap (λ ns. ns ++ named_of b) a.roots_named ∙ (ap (λ ns. named_in ls ++ ns) (ap (λ k. named_by k b.numbers) its ∙ sym (ap (λ k. named_by k l.numbers) is)) ∙ sym (more_named ls l (ap is_epoch is))));
  taken = λ slot. taken_same bs b slot (ap is_born its) (ap is_sweep its) ∙ (a.taken slot ∙ sym (taken_same ls l slot (ap is_born is) (ap is_sweep is)));
  dead = λ word leads d. dead_out bs b (bare word) (ap is_out its) (ap is_epoch its) ∙ (elim (out_dead ls bs l word is a leads d) [
    | inl before ↦ or_left (is_dead bs (bare word)) (number 1 b == bare word) before
    | inr taken ↦ or_right (is_dead bs (bare word)) (number 1 b == bare word) (eq-eqb (number 1 b) (bare word) (word_is ∙ ap bare taken))
  ]);
  closing = λ word c. more_closing bs b (bare word) (ap is_epoch its) ∙ or_left (list_any (closes (bare word)) (this_block bs)) (closes (bare word) b) (a.closing word (out_closing ls l word is c));
  opened = λ x c o. elim (Contains-append_cases bs (b ∷ []) x c) [
    | inl here ↦ more_opened ls l x (a.opened x here o)
    | inr last ↦ absurd (false≢true (sym (ap (λ k. is_put k && has_target (number 2 b)) its) ∙ (ap opens (only_line b x last) ∙ o)))
  ];
  put = λ g. one_more (puts g) (puts (by_bare g)) ls bs l b (a.put g) (put_none g b (ap is_put its) ∙ sym (put_none (by_bare g) l (ap is_put is)));
  replaced = λ g. one_more (replaces g) (replaces (by_bare g)) ls bs l b (a.replaced g) (replaced_none g b (ap is_put its) ∙ sym (replaced_none (by_bare g) l (ap is_put is)));
  out = λ g null. one_more (takes_out g) (takes_out (by_bare g)) ls bs l b (a.out g null) (ap (λ k. only_if (is_out k) (g (number 0 b) (number 1 b))) its ∙ (λ i. g (place_is i) (word_is i)) ∙ sym (ap (λ k. only_if (is_out k) (g (number 0 l) (bare (number 1 l)))) is));
  earlier = λ g. ap (sum_by (replaces g)) (earlier_more bs b (ap is_epoch its)) ∙ a.earlier g ∙ sym (ap (sum_by (replaces (by_bare g))) (earlier_more ls l (ap is_epoch is)));
}
  where
    out_closing : (xs : List Line) (y : Line) (word : ℕ) → y.kind ≡ kinds.Out → list_any (closes word) (this_block (xs ++ y ∷ [])) ≡ true → list_any (closes word) (this_block xs) ≡ true
    out_closing xs y word at c = sym (more_closing xs y word (ap is_epoch at) ∙ (ap (λ k. list_any (closes word) (this_block xs) || (is_put k && (number 3 y == word))) at ∙ or-false (list_any (closes word) (this_block xs)))) ∙ c

-- a line that takes out a word whose bare word is 0: the journal has none
pub push_skip : (ls bs : List Line) (l : Line) → l.kind ≡ kinds.Out → bare (number 1 l) ≡ 0 → Alike ls bs → Alike (ls ++ l ∷ []) bs
push_skip ls bs l is none a = record {
  heap = a.heap ∙ sym (heap_same ls l (ap is_heap is));
  roots_named = a.roots_named ∙ (sym (append-nil (named_in ls)) ∙ (ap (λ ns. named_in ls ++ ns) (sym (ap (λ k. named_by k l.numbers) is)) ∙ sym (more_named ls l (ap is_epoch is))));
  taken = λ slot. a.taken slot ∙ sym (taken_same ls l slot (ap is_born is) (ap is_sweep is));
  dead = λ word leads d. elim (out_dead ls bs l word is a leads d) [
    | inl before ↦ before
    | inr taken ↦ absurd (bare_some word leads (sym (ap bare taken) ∙ none))
  ];
  closing = λ word c. a.closing word (sym (more_closing ls l word (ap is_epoch is) ∙ (ap (λ k. list_any (closes word) (this_block ls) || (is_put k && (number 3 l == word))) is ∙ or-false (list_any (closes word) (this_block ls)))) ∙ c);
  opened = λ x c o. more_opened ls l x (a.opened x c o);
  put = λ g. omega (arith, a.put g, sum_by_push (puts (by_bare g)) ls l, put_none (by_bare g) l (ap is_put is));
  replaced = λ g. omega (arith, a.replaced g, sum_by_push (replaces (by_bare g)) ls l, replaced_none (by_bare g) l (ap is_put is));
  out = λ g null. omega (arith, a.out g null, sum_by_push (takes_out (by_bare g)) ls l, ap (λ k. only_if (is_out k) (g (number 0 l) (bare (number 1 l)))) is, ap (g (number 0 l)) none, null (number 0 l));
  earlier = λ g. a.earlier g ∙ sym (ap (sum_by (replaces (by_bare g))) (earlier_more ls l (ap is_epoch is)));
}

-- ---- what is reached

pub target_there : (d f : Line → Bool) (ls : List Line) (l : Line) → Contains ls l → f l ≡ true → d l ≡ true → is_in (target_in l) (map target_in (filter d (filter f ls))) ≡ true
target_there d f [] l c first second = absurd (let below = c.1 in omega arith)
target_there d f (x ∷ ls) l (zero, below, there) first second =
    let fx : f x ≡ true = ap f there ∙ first in
    let dx : d x ≡ true = ap d there ∙ second in
    ap (λ b. is_in (target_in l) (map target_in (filter d (cond b (x ∷ filter f ls) (filter f ls))))) fx
    ∙ (ap (λ b. is_in (target_in l) (map target_in (cond b (x ∷ filter d (filter f ls)) (filter d (filter f ls))))) dx
    ∙ or_left (target_in x == target_in l) (is_in (target_in l) (map target_in (filter d (filter f ls)))) (eq-eqb (target_in x) (target_in l) (ap target_in there)))
target_there d f (x ∷ ls) l (suc k, below, there) first second = later (f x) (d x) refl refl (target_there d f ls l (k, omega arith, there) first second)
  where
    later : (b c : Bool) → f x ≡ b → d x ≡ c → is_in (target_in l) (map target_in (filter d (filter f ls))) ≡ true → is_in (target_in l) (map target_in (filter d (cond (f x) (x ∷ filter f ls) (filter f ls)))) ≡ true
    later false c fx dx rest = ap (λ b. is_in (target_in l) (map target_in (filter d (cond b (x ∷ filter f ls) (filter f ls))))) fx ∙ rest
    later true false fx dx rest =
        ap (λ b. is_in (target_in l) (map target_in (filter d (cond b (x ∷ filter f ls) (filter f ls))))) fx
        ∙ (ap (λ b. is_in (target_in l) (map target_in (cond b (x ∷ filter d (filter f ls)) (filter d (filter f ls))))) dx ∙ rest)
    later true true fx dx rest =
        ap (λ b. is_in (target_in l) (map target_in (filter d (cond b (x ∷ filter f ls) (filter f ls))))) fx
        ∙ (ap (λ b. is_in (target_in l) (map target_in (cond b (x ∷ filter d (filter f ls)) (filter d (filter f ls))))) dx
        ∙ or_right (target_in x == target_in l) (is_in (target_in l) (map target_in (filter d (filter f ls)))) rest)

pub roots_same : (ls bs : List Line) → Alike ls bs → roots bs ≡ roots ls
roots_same ls bs a =
    let named = a.roots_named in
    let heap = a.heap in
    let taken = a.taken in
    (λ i. named i ++ filter (λ slot. not (taken slot i)) (range_with_len 0 (heap i).slots))

not_dead : (b : Bool) → not b ≡ true → b ≡ true → ⊥
not_dead true is dead = false≢true is
not_dead false is dead = false≢true dead

alive : (b : Bool) → (b ≡ true → ⊥) → not b ≡ true
alive true none = absurd (none refl)
alive false none = refl

target_less : (ls bs : List Line) → Alike ls bs → (m n : ℕ) → is_in n (targets bs m) ≡ true → is_in n (targets ls m) ≡ true
target_less ls bs a m n there =
    let t : LeadsTo (λ line. not (is_dead bs (number 2 line))) (opens_from (heap_of bs).fields m) n bs = target_member (λ line. not (is_dead bs (number 2 line))) (opens_from (heap_of bs).fields m) n bs there in
    let both = both_of (opens t.line) (number 1 t.line / (heap_of bs).fields == m) t.first in
    let o : Opened ls t.line = a.opened t.line t.listed both.0 in
    let leads : has_target (number 2 o.line) ≡ true = (both_of (is_put o.line.kind) (has_target (number 2 o.line)) o.opens_one).1 in
    let from : opens_from (heap_of ls).fields m o.line ≡ true
    = ap (λ b. b && (number 1 o.line / (heap_of ls).fields == m)) o.opens_one ∙ (ap (λ k. k / (heap_of ls).fields == m) o.place ∙ (sym (ap (λ k. number 1 t.line / k == m) (ap (λ h. h.fields) a.heap)) ∙ both.1)) in
    let lives : not (is_dead ls (number 2 o.line)) ≡ true = alive (is_dead ls (number 2 o.line)) (λ dead. not_dead (is_dead bs (number 2 t.line)) t.second (sym (ap (is_dead bs) o.word) ∙ a.dead (number 2 o.line) leads dead)) in
    let same : target_in o.line ≡ n = ap (λ k. k - 1) (sym (bits_bare (number 2 o.line)) ∙ ap target_bits o.word) ∙ t.leads in
    subst (λ k. is_in k (targets ls m) ≡ true) same (target_there (λ line. not (is_dead ls (number 2 line))) (opens_from (heap_of ls).fields m) ls o.line o.listed from lives)

-- what a journal of bare words reaches, the one of dated words reaches
pub reached_less : (ls bs : List Line) → Alike ls bs → (n : ℕ) → IsReachedAt bs n → IsReachedAt ls n
reached_less ls bs a n reached =
    all_reached (IsReachedAt ls) (roots bs) (targets bs) (λ k there. IsReached.root k (sym (ap (is_in k) (roots_same ls bs a)) ∙ there)) (λ m k from so there. IsReached.child m k so (target_less ls bs a m k there)) n reached

pub has_reached_less : (ls bs : List Line) (members : List ℕ) → Alike ls bs → HasReached bs members → HasReached ls members
has_reached_less ls bs members a r = record { member = r.member; listed = r.listed; reached = reached_less ls bs a r.member r.reached }

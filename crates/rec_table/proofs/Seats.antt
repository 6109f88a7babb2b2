-- The table is opened, seats are made, and their lists are taken in.
use Rattle.std.proofs.Common.{◌≡◌, ◌≢◌, ◌⊎◌, inl, inr, ⊎_elim, ℕ, zero, suc, ◌+◌, ◌%◌, ◌<◌, arith, false, true≢false, cond, eqb, eq-eqb, ne_eqb, List, [], ◌∷◌, ◌++◌, map, length, get_or, set, All, Option, Some, refl, sym, ap, ◌∙◌, subst, length-append}
use mathlib.Core.Option.{some, some-injective, some-ne-none}
use mathlib.Core.Logic.{dite}
use native.Mathlib.Decide.{ℕ_discrete}
use lib.ListN.{get_elem?}
use Rattle.std.proofs.Math.Seq.{get_or-append_seam}
use Rattle.std.proofs.lemmas.List.{get_or_append_left}
use Rattle.atomic_table.specs.Table.{opening}
use Rattle.atomic_table.proofs.Lists.{at_set}
use Rattle.rec_table.proofs.Common.{Contents, Private, is_busy, gives_back, IsMutator, Core, cells_of, mutator, Move, after_moves, IsWorld, world_kept, beats_of, told, SplitsIdly, JoinsIdly, Ran, Runs, row, Holds, first_view, without, newcomer, joined, Beat, CollectorSeat, Seated, View, Collects, Mutates, Spent}
use Rattle.rec_core.proofs.Actors.{idle_here}
use Rattle.rec_collector.specs.Private as collectors
use Rattle.rec_table.specs.Homes.{homes_of}
use Rattle.rec_table.specs.Rule.{Fits}
use Rattle.rec_table.proofs.Beats.{mutator_after}
use Rattle.rec_table.proofs.Boxes.{home_even}
use Rattle.rec_table.proofs.Steps.{fits_set}

-- all mailboxes are home where all crossing words are even
pub all_home : (ws : List ℕ) (bs : List Contents) → length ws ≡ length bs → All (λ word. word % 2 ≡ 0) ws → homes_of ws bs ≡ map some (map (λ b. Some b) bs)
all_home [] [] e even = refl
all_home [] (b ∷ bs) e even = absurd (omega arith)
all_home (w ∷ ws) [] e even = absurd (omega arith)
all_home (w ∷ ws) (b ∷ bs) e even = λ i. home_even w b (even 0 0 (omega arith)) i ∷ all_home ws bs (omega arith) (λ k d lt. even (suc k) d (omega (arith, lt))) i

opens : (key : Core) (ws : List ℕ) (xs : List (Option Contents)) → IsWorld key → ws ≡ row (cells_of key) → map some xs ≡ homes_of key.crossing key.boxes → (h : Holds key (opening ws xs first_view)) × (h.run ≡ [])
opens key ws xs world words home = (
  record {
    run = [];
    made = 0;
    gone = 0;
    owner = λ _. 0;
    world = world;
    fit = tt;
    offerless = tt;
    words = words;
    homes = home;
    order = omega arith;
    room = omega arith;
    fresh = λ k le. refl;
    each = one;
  },
  refl,
)
  where
    one : (id : ℕ) (v : View) → get_elem? (first_view ∷ []) id ≡ some v → Fits key [] 0 0 (λ _. 0) id v
    one zero v e = subst (Fits key [] 0 0 (λ _. 0) 0) (some-injective first_view v e) (refl, refl, refl, refl, λ k lt. absurd (omega arith))
    one (suc id) v e = absurd (some-ne-none v (sym e))

-- and no operation has been made
pub starts : (key : Core) (ws : List ℕ) (xs : List (Option Contents)) → IsWorld key → ws ≡ row (cells_of key) → map some xs ≡ homes_of key.crossing key.boxes → Runs key (opening ws xs first_view)
starts key ws xs world words home =
    let h = opens key ws xs world words home in
    record { holds = h.0; operations = []; ran = subst (Ran key []) (sym h.1) Ran.opens }

at_snoc_at : (l : List View) (a b : View) (j : ℕ) → get_elem? (l ++ a ∷ []) j ≡ some b → (get_elem? l j ≡ some b) ⊎ ((j ≡ length l) × (a ≡ b))
at_snoc_at [] a b zero e = inr (refl, some-injective a b e)
at_snoc_at [] a b (suc j) e = absurd (some-ne-none b (sym e))
at_snoc_at (x ∷ xs) a b zero e = inl e
at_snoc_at (x ∷ xs) a b (suc j) e = ⊎_elim (λ h. inl h) (λ h. inr (ap suc h.0, h.1)) (at_snoc_at xs a b j e)

-- mutator x has the seat new
owns : (ℕ → ℕ) → ℕ → ℕ → ℕ → ℕ
owns owner x new k = cond (eqb k x) new (owner k)

owns_here : (owner : ℕ → ℕ) (x new : ℕ) → owns owner x new x ≡ new
unfolding owns
owns_here owner x new = ap (λ t. cond t new (owner x)) (eq-eqb x x refl)

owns_else : (owner : ℕ → ℕ) (x new k : ℕ) → k ≢ x → owns owner x new k ≡ owner k
unfolding owns
owns_else owner x new k n = ap (λ t. cond t new (owner k)) (ne_eqb k x n)

fits_made : (key : Core) (run : List Move) (made gone : ℕ) (owner : ℕ → ℕ) (x new id j : ℕ) → id ≡ 0 → x ≡ made + 1 → j ≢ id
    → (v : View) → Fits key run made gone owner j v → Fits key run x gone (owns owner x new) j v
fits_made key run made gone owner x new id j z is ne (Collects c) f = absurd (ne (f.0 ∙ sym z))
fits_made key run made gone owner x new id j z is ne (Mutates u) f =
    (owns_else owner x new u.number (λ e. omega (arith, e, f.2)) ∙ f.0, f.1, omega (arith, f.2), f.3, f.4)
fits_made key run made gone owner x new id j z is ne Spent f = tt

-- the first seat makes the seat of the next mutator, which was idle as the heap was started
splits : (key : Core) (id : ℕ) (c : CollectorSeat) → c.made < key.config.mutators → is_busy (mutator key (c.made + 1)) ≡ false → SplitsIdly key id (Collects c) (without (Collects c)) (newcomer (Collects c))
splits key id c lt idle s h there =
    let mine = h.each id (Collects c) there in
    let x : ℕ = c.made + 1 in
    let views' : List View = set s.views id (without (Collects c)) in
    let new : ℕ = length views' in
    let owner' : ℕ → ℕ = owns h.owner x new in
    let t : Seated = record { number = x; log = []; hand = collectors.blank 0 0 } in
    let made : c.made ≡ h.made = mine.1 in
    let none : beats_of x key h.run ≡ [] = h.fresh x (omega (arith, made)) in
    let is : IsMutator key.config x = (omega arith, omega arith) in
    let same : mutator (after_moves key h.run) x ≡ mutator key x = mutator_after key h.run x (world_kept key h.world) h.fit is ∙ ap (told (mutator key x)) none in (
      record {
        run = h.run;
        made = x;
        gone = h.gone;
        owner = owner';
        world = h.world;
        fit = h.fit;
        offerless = h.offerless;
        words = h.words;
        homes = h.homes;
        order = omega (arith, h.order, made);
        room = omega arith;
        fresh = λ k le. h.fresh k (omega (arith, made, le));
        each = λ j v e. ⊎_elim
            (λ (old : get_elem? views' j ≡ some v).
            fits_set key h.run x h.gone owner' s.views id (without (Collects c))
            (λ i u ne eu. fits_made key h.run h.made h.gone h.owner x new id i mine.0 (ap (λ (n : ℕ). n + 1) made) ne u (h.each i u eu))
            (mine.0, refl, mine.2, mine.3, mine.4)
            j v old)
            (λ (last : (j ≡ new) × (Mutates t ≡ v)).
            subst (λ (y : ℕ × View). Fits key h.run x h.gone owner' y.0 y.1) (λ i. (sym last.0 i, last.1 i))
            (owns_here h.owner x new, omega (arith, h.order, made), omega arith, sym none, λ giving. absurd (true≢false (sym giving ∙ ap (λ (p : Private). gives_back p.phase) same ∙ idle_here (mutator key x).phase idle))))
            (at_snoc_at views' (Mutates t) v j e);
      },
      refl,
    )

fits_gone : (key : Core) (run : List Move) (made gone : ℕ) (owner : ℕ → ℕ) (x id other j : ℕ) → id ≡ 0 → x ≡ gone + 1 → owner x ≡ other → j ≢ id → j ≢ other
    → (v : View) → Fits key run made gone owner j v → Fits key run made (gone + 1) owner j v
fits_gone key run made gone owner x id other j z is own ni nm (Collects c) f = absurd (ni (f.0 ∙ sym z))
fits_gone key run made gone owner x id other j z is own ni nm (Mutates u) f =
    let ne : u.number ≢ x = λ e. nm (sym f.0 ∙ ap owner e ∙ own) in
    (f.0, omega (arith, f.1), f.2, f.3, f.4)
fits_gone key run made gone owner x id other j z is own ni nm Spent f = tt

fits_set_but : (key : Core) (run : List Move) (made gone : ℕ) (owner : ℕ → ℕ) (views : List View) (id other : ℕ) (w : View)
    → ((j : ℕ) (v : View) → j ≢ id → j ≢ other → get_elem? views j ≡ some v → Fits key run made gone owner j v)
    → Fits key run made gone owner id w
    → (j : ℕ) (v : View) → j ≢ other → get_elem? (set views id w) j ≡ some v → Fits key run made gone owner j v
fits_set_but key run made gone owner views id other w others mine j v nm e =
    ⊎_elim
    (λ (x : (j ≡ id) × (w ≡ v)). subst (λ (y : ℕ × View). Fits key run made gone owner y.0 y.1) (λ i. (sym x.0 i, x.1 i)) mine)
    (λ (x : (j ≢ id) × (get_elem? views j ≡ some v)). others j v x.0 nm x.1)
    (at_set views id j w v e)

known_more : (key : Core) (known : List (List Beat)) (log : List Beat) (run : List Move) (gone x : ℕ) → length known ≡ gone → x ≡ gone + 1
    → ((k : ℕ) → k < gone → get_or known k [] ≡ beats_of (k + 1) key run) → log ≡ beats_of x key run → (k : ℕ) → k < gone + 1 → get_or (known ++ log ∷ []) k [] ≡ beats_of (k + 1) key run
known_more key known log run gone x len is below here k lt =
    dite (ℕ_discrete k gone)
    (λ (e : k ≡ gone). ap (λ (i : ℕ). get_or (known ++ log ∷ []) i []) (e ∙ sym len) ∙ (get_or-append_seam known log [] [] ∙ (here ∙ ap (λ (i : ℕ). beats_of i key run) (is ∙ ap (λ (n : ℕ). n + 1) (sym e)))))
    (λ (n : k ≢ gone). get_or_append_left known (log ∷ []) [] k (omega (arith, len)) ∙ below k (omega arith))

-- the first seat takes in the list of the next mutator
joins : (key : Core) (id : ℕ) (c : CollectorSeat) (other : ℕ) (t : Seated) → t.number ≡ length c.known + 1 → JoinsIdly key id (Collects c) other (Mutates t) (joined (Collects c) (Mutates t)) Spent
joins key id c other t next s h here apart there =
    let mine = h.each id (Collects c) here in
    let w : View = joined (Collects c) (Mutates t) in
    let its : Fits key h.run h.made h.gone h.owner other (Mutates t) =
    ⊎_elim (λ (x : (other ≡ id) × (w ≡ Mutates t)). absurd (apart x.0)) (λ (x : (other ≢ id) × (get_elem? s.views other ≡ some (Mutates t))). h.each other (Mutates t) x.1) (at_set s.views id other w (Mutates t) there) in
    let is : t.number ≡ h.gone + 1 = next ∙ ap (λ (n : ℕ). n + 1) mine.2 in (
      record {
        run = h.run;
        made = h.made;
        gone = h.gone + 1;
        owner = h.owner;
        world = h.world;
        fit = h.fit;
        offerless = h.offerless;
        words = h.words;
        homes = h.homes;
        order = omega (arith, its.2, is);
        room = h.room;
        fresh = h.fresh;
        each = fits_set key h.run h.made (h.gone + 1) h.owner (set s.views id w) other Spent
            (λ j v ne e. fits_set_but key h.run h.made (h.gone + 1) h.owner s.views id other w
            (λ i u ni nm eu. fits_gone key h.run h.made h.gone h.owner t.number id other i mine.0 is its.0 ni nm u (h.each i u eu)) (
              mine.0,
              mine.1,
              length-append c.known (t.log ∷ []) ∙ ap (λ (k : ℕ). k + 1) mine.2,
              mine.3,
              λ k lt. known_more key c.known t.log h.run h.gone t.number mine.2 is mine.4 its.3 k lt,
            )
            j v ne e)
            tt;
      },
      refl,
    )

pub splits_as : (key : Core) (id : ℕ) (v : View) (c : CollectorSeat) → v ≡ Collects c → c.made < key.config.mutators → is_busy (mutator key (c.made + 1)) ≡ false → SplitsIdly key id v (without v) (newcomer v)
splits_as key id v c is lt idle = subst (λ (u : View). SplitsIdly key id u (without u) (newcomer u)) (sym is) (splits key id c lt idle)

pub joins_as : (key : Core) (id : ℕ) (v : View) (c : CollectorSeat) (other : ℕ) (u : View) (t : Seated) → v ≡ Collects c → u ≡ Mutates t → t.number ≡ length c.known + 1
    → JoinsIdly key id v other u (joined v u) Spent
joins_as key id v c other u t is is' next =
    subst (λ (y : View × View). JoinsIdly key id y.0 other y.1 (joined y.0 y.1) Spent) (λ i. (sym is i, sym is' i)) (joins key id c other t next)

-- One word is learnt, or what a move between two loads does, as functions: what holds stays.
use Rattle.std.proofs.Common.{◌≡◌, ℕ, suc, ◌+◌, ◌-◌, ◌<◌, ◌≤◌, true, false, ltb, List, [], ◌∷◌, length, get_or, refl, sym, ap, inl, inr, ◌∙◌, arith, length-append}
use Rattle.std.proofs.Math.ListN.{get_or-append}
use Rattle.std.proofs.lemmas.Bool.{false≢true, cases_lt}
use Rattle.std.proofs.lemmas.Bool.Decides.{nat_tests}
use Rattle.rec_trial.proofs.Common.{one, Colour, Purple, is_gray, is_green, is_white, Marking, Scanning, Collecting}
use Rattle.rec_trial.proofs.Totals.{total_of_first, same, times, times_here, first_more, first_whole}
use Rattle.rec_trial.proofs.Deletion.{Seen, Deletion, Loads, with_load, touch, take_one, blacken, join, advance, seen, whiten}
use Rattle.rec_trial.proofs.Holding.{WhileMarking, WhileScanning, WhileCollecting, OrderedOf, Reached, Hot, Seed, named}
use Rattle.rec_trial.proofs.Holding as law
use Rattle.rec_trial.proofs.Marks.{hot_grow, scanned_push, collected_push, times_push, push_kept, reached_grow, edge_here, base_load, base_push, unmarked, grays_push, seeds_push, seeds_drop}
use Rattle.rec_trial.proofs.Orders.{ordered_none, ordered_word, ordered_join}
use Rattle.rec_trial.proofs.Places.{placed_grow, placed_step, placed_all, placed_begin}

-- a Gray node is marked, so that no word names one that is not
unnamed_word : (n w y : ℕ) (c : Colour) → n ≡ one (is_gray c) → (w ≡ suc y → is_gray c ≡ true) → n ≡ 0 → same (suc y) w ≡ 0
unnamed_word n w y c e g z = grind (arith, nat_tests, g)

module _ (o s : Deletion) (ls : Loads) where
  -- a word in marking that names nothing, or a Gray node
  mark_loaded : WhileMarking o s ls → s.at < length s.marked → (w : ℕ) (less : ℕ → ℕ) → ((y : ℕ) → less y ≡ s.cyclic y - same (suc y) w) → ((y : ℕ) → w ≡ suc y → is_gray (s.colour y) ≡ true) → WhileMarking o (advance (record s { cyclic = less })) (with_load Marking (seen Marking s w) ls)
  mark_loaded m d w less e g = record {
    base = base_load m.base (seen Marking s w) less e (λ y. unnamed_word (times y s.marked) w y (s.colour y) (m.grays y) (g y));
    look = m.look;
    queue = m.queue;
    reached = λ y h. reached_grow (seen Marking s w) (m.reached y h);
    place = placed_step m.place d w (ltb (suc s.field) s.fields) refl;
    unscanned = m.unscanned;
    uncollected = m.uncollected;
  }

  pub mark_none : WhileMarking o s ls → s.at < length s.marked → WhileMarking o (advance s) (with_load Marking (seen Marking s 0) ls)
  mark_none m d = mark_loaded m d 0 s.cyclic (λ y. grind (arith, nat_tests)) (λ y q. absurd (omega arith))

  pub mark_old : WhileMarking o s ls → s.at < length s.marked → (x : ℕ) → is_gray (s.colour x) ≡ true → WhileMarking o (advance (take_one s x)) (with_load Marking (seen Marking s (suc x)) ls)
  mark_old m d x e = mark_loaded m d (suc x) (take_one s x).cyclic (λ y. grind (arith, nat_tests)) (λ y q. cc)

  -- a word that names a node which is not marked yet
  pub mark_new : WhileMarking o s ls → s.at < length s.marked → (x : ℕ) → is_gray (s.colour x) ≡ false → s.released x ≡ false → is_green (s.colour x) ≡ false → WhileMarking o (advance (take_one (touch s x) x)) (with_load Marking (seen Marking s (suc x)) ls)
  mark_new m d x e live green =
      let new : times x s.marked ≡ 0 = unmarked m.look x e in
      let l : Seen = seen Marking s (suc x) in
      record {
        base = base_load (base_push m.base x new live (sym (ap is_green (m.colours_old x new)) ∙ green)) l (take_one (touch s x) x).cyclic (λ y. grind (arith, nat_tests)) (λ y h. grind (arith, nat_tests, times_push y x s.marked));
        look = grays_push m.look x new;
        queue = seeds_push m.queue x;
        reached = push_kept (Reached o (l ∷ ls.marks)) x s.marked (law.Reached.along (reached_grow l (m.reached l.node (times_here s.marked s.at d))) (edge_here l.node s.field x ls.marks)) (λ y h. reached_grow l (m.reached y h));
        place = placed_grow (placed_step m.place d (suc x) (ltb (suc s.field) s.fields) refl) (x ∷ []);
        unscanned = m.unscanned;
        uncollected = m.uncollected;
      }

  -- a word in scanning that names nothing Gray
  pub scan_loaded : WhileScanning o s ls → s.at < length s.work → (w : ℕ) → ((y : ℕ) → w ≡ suc y → is_gray (s.colour y) ≡ false) → WhileScanning o (advance s) (with_load Scanning (seen Scanning s w) ls)
  scan_loaded m d w none = record {
    all = m.all;
    split = m.split;
    hot = λ y h. hot_grow (seen Scanning s w) (m.hot y h);
    unnamed = λ y a. grind (arith, nat_tests, m.unnamed y, none y);
    tested = m.tested;
    tries = m.tries;
    place = placed_step m.place d w (ltb (suc s.field) s.fields) refl;
    uncollected = m.uncollected;
  }

  -- a word that names a Gray node
  pub scan_named : WhileScanning o s ls → s.at < length s.work → (x : ℕ) → is_gray (s.colour x) ≡ true → WhileScanning o (advance (blacken s x)) (with_load Scanning (seen Scanning s (suc x)) ls)
  scan_named m d x e = let l : Seen = seen Scanning s (suc x) in record {
    all = m.all;
    split = scanned_push m.split x e (m.once x);
    hot = push_kept (Hot s.marked s.cyclic (l ∷ ls.blacks)) x s.work (law.Hot.along (hot_grow l (m.hot l.node (times_here s.work s.at d))) (edge_here l.node s.field x ls.blacks)) (λ y h. hot_grow l (m.hot y h));
    unnamed = λ y a. grind (arith, nat_tests, m.unnamed y);
    tested = λ y a b. grind (arith, nat_tests, m.tested y a);
    tries = m.tries;
    place = placed_grow (placed_step m.place d (suc x) (ltb (suc s.field) s.fields) refl) (x ∷ []);
    uncollected = m.uncollected;
  }

  -- a White node joins, which no loaded word names
  pub joined : WhileCollecting o s ls → (x : ℕ) → is_white (s.colour x) ≡ true → (sets : ℕ) → 0 < sets → OrderedOf s.members s.set_of sets s.at ls.finds → WhileCollecting o (join (record s { sets = sets }) x) ls
  joined m x e sets some order = record {
    scanned = m.scanned;
    split = collected_push m.split x e (m.once x);
    tested = λ y a. grind (arith, nat_tests, m.tested y a);
    tries = m.tries;
    found = λ y a. grind (arith, nat_tests, m.found y a);
    place = placed_grow m.place (x ∷ []);
    order = ordered_join s.members s.set_of sets s.at ls.finds order x some unfound (unjoined (m.parts x) (m.once x));
  }
    where
      unfound : named x ls.finds ≡ 0
      unfound = elim (cases_lt 0 (named x ls.finds)) [
        | inl h ↦ absurd (false≢true (sym (m.found x h) ∙ e))
        | inr z ↦ omega (arith, z)
      ]

      unjoined : times x s.marked ≡ one (is_white (s.colour x)) + times x s.work + times x s.members → times x s.marked ≤ 1 → times x s.members ≡ 0
      unjoined a b = grind arith

  -- a word in collecting that names nothing White
  pub find_loaded : WhileCollecting o s ls → s.at < length s.members → (w : ℕ) → ((y : ℕ) → w ≡ suc y → is_white (s.colour y) ≡ false) → WhileCollecting o (advance s) (with_load Collecting (seen Collecting s w) ls)
  find_loaded m d w none = record {
    scanned = m.scanned;
    split = m.split;
    tested = m.tested;
    tries = m.tries;
    found = λ y a. grind (arith, nat_tests, m.found y, none y);
    place = placed_step m.place d w (ltb (suc s.field) s.fields) refl;
    order = ordered_word s.members s.set_of s.sets s.at ls.finds m.order d w s.field (ltb (suc s.field) s.fields);
  }

  -- a root leaves that is no seed, or marked
  pub dropped : WhileMarking o s ls → (x : ℕ) (xs : List ℕ) → s.roots ≡ x ∷ xs → (Seed o x → 0 < times x s.marked) → WhileMarking o (record s { roots = xs }) ls
  dropped m x xs r none = record {
    base = m.base;
    look = m.look;
    queue = seeds_drop m.queue x xs r none;
    reached = m.reached;
    place = m.place;
    unscanned = m.unscanned;
    uncollected = m.uncollected;
  }

  -- a seed is marked
  pub seeded : WhileMarking o s ls → (x : ℕ) → 0 < times x s.roots → s.colour x ≡ Purple → s.released x ≡ false → WhileMarking o (touch s x) ls
  seeded m x here e live =
      let new : times x s.marked ≡ 0 = unmarked m.look x (rw e refl) in
      record {
        base = base_push m.base x new live (ap is_green (sym (m.colours_old x new) ∙ e));
        look = grays_push m.look x new;
        queue = seeds_push m.queue x;
        reached = push_kept (Reached o ls.marks) x s.marked (law.Reached.seed (record { root = m.roots_old x here; is_purple = sym (m.colours_old x new) ∙ e; live = rw (← m.kept.released) live })) m.reached;
        place = placed_grow m.place (x ∷ []);
        unscanned = m.unscanned;
        uncollected = m.uncollected;
      }

  pub scan_begun : WhileMarking o s ls → length s.marked ≤ s.at → s.roots ≡ [] → WhileScanning o (record s { phase = Scanning; at = 0; field = 0; tried = 0 }) ls
  scan_begun m d r = record {
    all = record { base = m.base; seeds = λ y k. omega (arith, m.seeds y k, no_roots y); reached = m.reached; marks_all = placed_all m.place d };
    split = record {
      parts = λ y. rw m.unscanned.nodes (omega (arith, m.grays y));
      worked = λ y. rw m.unscanned.nodes (omega arith);
      no_white = m.no_white;
      colours_old = m.colours_old;
    };
    hot = λ y h. absurd (let k : 0 < times y [] = rw m.unscanned.nodes at h in omega arith);
    unnamed = λ y h. absurd (let k : 0 < named y [] = rw m.unscanned.loads at h in omega arith);
    tested = λ y a b. absurd (omega arith);
    tries = omega arith;
    place = placed_begin m.unscanned (omega (arith, m.place.below));
    uncollected = m.uncollected;
  }
    where
      no_roots : (y : ℕ) → times y s.roots ≡ 0
      no_roots y = rw r refl

  -- a marked node is blackened that has a rest
  pub blackened : WhileScanning o s ls → (x : ℕ) → is_gray (s.colour x) ≡ true → 0 < s.cyclic x → WhileScanning o (blacken s x) ls
  blackened m x e warm = record {
    all = m.all;
    split = scanned_push m.split x e (m.once x);
    hot = push_kept (Hot s.marked s.cyclic ls.blacks) x s.work (law.Hot.warm (grind (arith, m.parts x, e)) warm) m.hot;
    unnamed = λ y a. grind (arith, nat_tests, m.unnamed y a);
    tested = λ y a b. grind (arith, nat_tests, m.tested y a);
    tries = m.tries;
    place = placed_grow m.place (x ∷ []);
    uncollected = m.uncollected;
  }

  -- a marked node was looked at
  pub scan_tried : WhileScanning o s ls → s.tried < length s.marked → (is_gray (s.colour (get_or s.marked s.tried 0)) ≡ true → s.cyclic (get_or s.marked s.tried 0) ≡ 0) → WhileScanning o (record s { tried = suc s.tried }) ls
  scan_tried m h e = record {
    all = m.all;
    split = m.split;
    hot = m.hot;
    unnamed = m.unnamed;
    tested = λ y a b. grind (arith, nat_tests, m.tested y, first_more (same y) s.tried s.marked h);
    tries = h;
    place = m.place;
    uncollected = m.uncollected;
  }

  pub find_tried : WhileCollecting o s ls → s.tried < length s.marked → is_white (s.colour (get_or s.marked s.tried 0)) ≡ false → WhileCollecting o (record s { tried = suc s.tried }) ls
  find_tried m h e = record {
    scanned = m.scanned;
    split = m.split;
    tested = λ y a. grind (arith, nat_tests, m.tested y, first_more (same y) s.tried s.marked h);
    tries = h;
    found = m.found;
    place = m.place;
    order = m.order;
  }

  pub find_begun : WhileScanning o s ls → length s.work ≤ s.at → s.tried ≡ length s.marked → WhileCollecting o (record s { phase = Collecting; at = 0; field = 0; tried = 0; colour = whiten s.colour }) ls
  find_begun m d h = record {
    scanned = record { all = m.all; hot = m.hot; blacks_all = placed_all m.place d };
    split = record {
      parts = λ y. rw m.uncollected.nodes (grind (arith, nat_tests, m.parts y, m.no_white y));
      worked = λ y. grind (arith, nat_tests, m.worked y);
      oranges = λ y. rw m.uncollected.nodes (omega arith);
      unnamed = λ y a. rw m.uncollected.nodes (grind (arith, nat_tests, m.unnamed y a, m.no_white y));
      enough = λ y a. enough_at y (was_gray y a);
      colours_old = λ y h. grind (arith, nat_tests, m.colours_old y h, m.parts y);
    };
    tested = λ y a. absurd (omega arith);
    tries = omega arith;
    found = λ y a. absurd (let k : 0 < named y [] = rw m.uncollected.loads at a in omega arith);
    place = placed_begin m.uncollected (omega (arith, m.place.below));
    order = rw (m.uncollected.nodes, m.uncollected.loads) (ordered_none s.set_of s.sets);
  }
    where
      was_gray : (y : ℕ) → 0 < one (is_white (whiten s.colour y)) + times y s.members → is_gray (s.colour y) ≡ true
      was_gray y a = let b : 0 < one (is_white (whiten s.colour y)) + 0 = rw m.uncollected.nodes at a in grind (arith, nat_tests, b, m.no_white y)

      enough_at : (y : ℕ) → is_gray (s.colour y) ≡ true → s.count y ≤ named y ls.marks
      enough_at y g =
          let in_marked : 0 < times y s.marked = grind (arith, m.parts y, g) in
          let was_tried : 0 < total_of_first (same y) s.tried s.marked = rw h (omega (arith, in_marked, first_whole (same y) s.marked)) in
          omega (arith, m.tested y was_tried g, m.rest y in_marked)

-- a word in collecting that names a White node
pub find_named : (o s : Deletion) (ls : Loads) → WhileCollecting o s ls → s.at < length s.members → (x : ℕ) → is_white (s.colour x) ≡ true → WhileCollecting o (advance (join s x)) (with_load Collecting (seen Collecting s (suc x)) ls)
find_named o s ls m d x e =
    let some : 0 < s.sets = omega (arith, m.order.current s.at (omega arith) d, m.order.positive (get_or s.members s.at 0) (times_here s.members s.at d)) in
    let j : WhileCollecting o (join s x) ls = joined o s ls m x e s.sets some m.order in
    rw (get_or-append s.members (x ∷ []) 0 s.at d) at (find_loaded o (join s x) ls j (omega (arith, length-append s.members (x ∷ []))) (suc x) (λ y q. grind (arith, nat_tests)))

-- a trial that is about to begin
pub opening_kept : (s : Deletion) → 0 < s.fields → ((x : ℕ) → is_gray (s.colour x) ≡ false) → ((x : ℕ) → is_white (s.colour x) ≡ false) → s.marked ≡ [] → s.work ≡ [] → s.members ≡ [] → s.at ≡ 0 → s.field ≡ 0 → WhileMarking s s (record { marks = []; blacks = []; finds = [] })
opening_kept s wide no_gray no_white m w j a f = record {
  base = record {
    kept = record { fields = refl; count = refl; released = refl };
    once = λ x. rw m (omega arith);
    alive = λ x h. rw m refl;
    no_green = λ x h. absurd (let k : 0 < times x [] = rw m at h in omega arith);
    rest = λ x h. absurd (let k : 0 < times x [] = rw m at h in omega arith);
    fresh = λ x h. refl;
  };
  look = record { grays = λ x. rw (m, no_gray x) refl; no_white = no_white; colours_old = λ x h. refl };
  queue = record { roots_old = λ x h. h; seeds = λ x k. omega (arith, k.root) };
  reached = λ x h. absurd (let k : 0 < times x [] = rw m at h in omega arith);
  place = rw (a, f) (placed_begin (record { nodes = m; loads = refl }) wide);
  unscanned = record { nodes = w; loads = refl };
  uncollected = record { nodes = j; loads = refl };
}

-- A mutator takes its mailbox, and gives it back.
use Rattle.std.proofs.Common.{◌≡◌, ℕ, zero, suc, ◌+◌, ◌-◌, ◌%◌, ◌<◌, true, false, true≢false, cond, eq-eqb, ne_eqb, List, [], ◌∷◌, ◌++◌, length, get_or, set, Option, Some, None, refl, sym, ap, ◌∙◌, subst, arith, get_or-set_same}
use mathlib.Core.Option.{some, none}
use lib.ListN.{get_elem?}
use Rattle.atomic_table.specs.Table.{Step, takes, gives}
use Rattle.rec_table.proofs.Common.{written, Op, Contents, Private, is_busy, gives_back, TakesBox, took_of, took_at, left_of, spare, IsFound, IsSwapping, Core, cells_of, mutator, box, crossing_of, IsKept, after_moves, found_by, stepped, cell, with_cell, world_kept, actor_of, may_step, told, Kind, Operates, index_of, beats, TakenBy, GivenBy, Seated, Mutates}
use Rattle.rec_word.specs.Mailbox.{crossing_word}
use Rattle.rec_word.specs.declared.mailbox.Mailbox.TheVariants.{Retired, Spare, WithCollector, WithMutator}
use Rattle.rec_word.specs.declared.op.Op.TheVariants as ops
use Rattle.rec_mutator.specs.Next.{next_of, next_at}
use Rattle.rec_mutator.specs.declared.phase.Phase as phases
use Rattle.rec_mutator.specs.declared.phase.Phase.TheVariants as at
use Rattle.rec_mutator.proofs.Steps.{TakesNone, learnt_made, step_between, here_same}
use Rattle.rec_collector.specs.Private as collectors
use Rattle.rec_core.specs.Preconditions.{MayStep}
use Rattle.rec_core.proofs.Actors.{idle_here}
use Rattle.rec_core.proofs.Crossings.{left_same}
use Rattle.rec_world.proofs.Mailboxes.{left_log}
use Rattle.rec_table.specs.Homes.{home_of, homes_of}
use Rattle.rec_table.proofs.Steps.{before, Here, here_at, goes_on, grows_by}

pub homes_set : (ws : List ℕ) (bs : List Contents) (i c : ℕ) (b : Contents) → homes_of (set ws i c) (set bs i b) ≡ set (homes_of ws bs) i (home_of c b)
homes_set [] bs i c b = refl
homes_set (w ∷ ws) [] zero c b = refl
homes_set (w ∷ ws) [] (suc i) c b = refl
homes_set (w ∷ ws) (d ∷ bs) zero c b = refl
homes_set (w ∷ ws) (d ∷ bs) (suc i) c b = ap (λ l. home_of w d ∷ l) (homes_set ws bs i c b)

pub homes_at : (ws : List ℕ) (bs : List Contents) (i : ℕ) (d : Contents) → i < length ws → i < length bs → get_elem? (homes_of ws bs) i ≡ some (home_of (get_or ws i 0) (get_or bs i d))
homes_at [] bs i d a b = absurd (omega arith)
homes_at (w ∷ ws) [] i d a b = absurd (omega arith)
homes_at (w ∷ ws) (x ∷ bs) zero d a b = refl
homes_at (w ∷ ws) (x ∷ bs) (suc i) d a b = homes_at ws bs i d (omega arith) (omega arith)

pub home_even : (c : ℕ) (b : Contents) → c % 2 ≡ 0 → home_of c b ≡ some (Some b)
home_even c b even = ap (λ t. cond t (some (Some b)) none) (eq-eqb (c % 2) 0 even)

pub home_odd : (c : ℕ) (b : Contents) → c % 2 ≡ 1 → home_of c b ≡ none
home_odd c b odd = ap (λ t. cond t (some (Some b)) none) (ne_eqb (c % 2) 0 (λ e. omega (arith, e, odd)))

pub even_zero : (e : ℕ) → crossing_word e Spare % 2 ≡ 0
even_zero e = omega arith

odd_one : (e : ℕ) → crossing_word e WithMutator % 2 ≡ 1
odd_one e = omega arith

pub odd_three : (e : ℕ) → crossing_word e WithCollector % 2 ≡ 1
odd_three e = omega arith

pub even_two : (e : ℕ) → crossing_word e Retired % 2 ≡ 0
even_two e = omega arith

-- A step that takes the mailbox, to cross or to leave.
pub takes_op : (p : Private) → TakesBox p.phase → next_of p ≡ ops.TakeBox p.number (p.epoch + 1)
unfolding next_of next_at
takes_op p taking = by p.phase taking
  where
    by : (phase : phases.Phase) → TakesBox phase → next_at p phase ≡ ops.TakeBox p.number (p.epoch + 1)
    by at.Crossing is = refl
    by at.Leaving is = refl
    by _ is = absurd is

-- after it the mailbox waits to be swapped
pub swaps : (p : Private) (word : ℕ) → TakesBox p.phase → IsSwapping (took_of p word).phase
unfolding took_of took_at
swaps p word taking = by p.phase taking
  where
    by : (phase : phases.Phase) → TakesBox phase → IsSwapping (took_at p word phase).phase
    by at.Crossing is = tt
    by at.Leaving is = tt
    by _ is = absurd is

-- A step that gives it back.
gives_op : (p : Private) → gives_back p.phase ≡ true → next_of p ≡ ops.GiveBox p.number (p.epoch + 1)
unfolding next_of next_at
gives_op p giving = by p.phase giving
  where
    by : (phase : phases.Phase) → gives_back phase ≡ true → next_at p phase ≡ ops.GiveBox p.number (p.epoch + 1)
    by at.Giving is = refl
    by at.Parting is = refl
    by _ is = absurd (true≢false (sym is))

-- it takes none
pub gives_none : (phase : phases.Phase) → gives_back phase ≡ true → TakesNone phase
gives_none at.Giving is = tt
gives_none at.Parting is = tt
gives_none _ is = absurd (true≢false (sym is))

-- and ends the work
pub back_ends : (p : Private) (word : ℕ) → gives_back p.phase ≡ true → is_busy (took_of p word) ≡ false
unfolding took_of took_at
back_ends p word giving = by p.phase giving
  where
    by : (phase : phases.Phase) → gives_back phase ≡ true → is_busy (took_at p word phase) ≡ false
    by at.Giving is = refl
    by at.Parting is = refl
    by _ is = absurd (true≢false (sym is))

pub takes_box : (key : Core) (slots id : ℕ) (t : Seated) (p : Private) (op : Op) (f : ℕ → ℕ) (st : Step (Option Contents))
    → p ≡ told (mutator key t.number) t.log → is_busy p ≡ true → TakesBox p.phase → op ≡ next_of p → ((n : ℕ) → f n ≡ written op n)
    → Operates key (Kind.Steps None) slots id (Mutates t, []) (index_of (length key.words) (length key.headers) op) f (TakenBy p st (Mutates t, []))
takes_box key slots id t p op f st is_p busy taking is_op does s h len at_id fit =
    let x : ℕ = t.number in
    let here : Here key s h t None p op = here_at key s h id t None p op at_id is_p busy is_op in
    let v : Core = before (after_moves key h.run) x None in
    let kept : IsKept false v = world_kept v here.world in
    let n : ℕ = get_or s.words (index_of (length key.words) (length key.headers) op) 0 in
    let m : Private = mutator v x in
    let phase : TakesBox m.phase = subst (λ (q : Private). TakesBox q.phase) (sym here.is) taking in
    let may : MayStep v x = may_step v x kept here.here here.busy in
    let number : m.number ≡ x = (actor_of v x kept here.here).own.number in
    let at_x : p.number - 1 ≡ x - 1 = ap (λ (q : Private). q.number - 1) (sym here.is) ∙ ap (λ k. k - 1) number in
    let took : took_of m (found_by v x) ≡ took_of p n = λ j. took_of (here.is j) (sym here.found j) in
    let is_spare : box v x ≡ spare (took_of p n) = may.spare (swaps m (found_by v x) phase) ∙ ap spare took in
    let word : crossing_of v x ≡ crossing_word m.epoch Spare =
    sym (ap (cell (cells_of v)) (takes_op m phase) ∙ ap (crossing_of v) number) ∙ subst (λ (o : Op). IsFound m o (found_by v x)) (takes_op m phase) may.found in
    let words_many = kept.mutators.words in
    let boxes_many = kept.mutators.mailboxes in
    let home : get_elem? s.homes (p.number - 1) ≡ some (some (Some (spare (took_of p n)))) =
    (λ j. get_elem? (here.homes j) (at_x j))
    ∙ homes_at v.crossing v.boxes (x - 1) (collectors.blank 0 0) (omega (arith, words_many, here.here.0, here.here.1)) (omega (arith, boxes_many, here.here.0, here.here.1))
    ∙ ap (λ k. some k) (home_even (crossing_of v x) (box v x) (ap (λ k. k % 2) word ∙ even_zero m.epoch) ∙ ap (λ b. some (Some b)) is_spare) in
    let left : left_of (took_of m (found_by v x)) (box v x) ≡ (took_of p n).log = left_log (took_of m (found_by v x)) (box v x) (swaps m (found_by v x) phase) ∙ ap (λ (q : Private). q.log) took in
    let crossing_after : (stepped v x).crossing ≡ set v.crossing (x - 1) (crossing_word (m.epoch + 1) WithMutator) =
    ap (λ o. (with_cell (cells_of v) o (written o (found_by v x))).crossing) (takes_op m phase) ∙ ap (λ k. set v.crossing (k - 1) (crossing_word (m.epoch + 1) WithMutator)) number in
    let homes' : set s.homes (p.number - 1) none ≡ homes_of (stepped v x).crossing (stepped v x).boxes =
    (λ j. set (here.homes j) (at_x j) none)
    ∙ ap (λ k. set (homes_of v.crossing v.boxes) (x - 1) k) (sym (home_odd (crossing_word (m.epoch + 1) WithMutator) (left_of (took_of m (found_by v x)) (box v x)) (odd_one (m.epoch + 1))))
    ∙ sym (homes_set v.crossing v.boxes (x - 1) (crossing_word (m.epoch + 1) WithMutator) (left_of (took_of m (found_by v x)) (box v x)))
    ∙ ap (λ l. homes_of l (stepped v x).boxes) (sym crossing_after) in
    let hand : gives_back (mutator (stepped v x) x).phase ≡ true → (took_of p n).log ≡ box (stepped v x) x = λ giving.
    sym left ∙ sym (get_or-set_same v.boxes (x - 1) (left_of (took_of m (found_by v x)) (box v x)) (collectors.blank 0 0) (omega (arith, boxes_many, here.here.0, here.here.1))) in
    let after = goes_on key s h id t None p op (f n) (set s.homes (p.number - 1) none) (took_of p n).log at_id here (does n) homes' hand in (
      Mutates (record t { log = t.log ++ beats None n; hand = (took_of p n).log }),
      takes (p.number - 1) (Some (spare (took_of p n))),
      home,
      after.0,
      grows_by key s h t None p op f after.0.run here is_op does after.1,
      (refl, subst (λ (o : Op). IsFound p o n) is_op here.may, here.names),
    )

pub gives_box : (key : Core) (slots id : ℕ) (t : Seated) (p : Private) (op : Op) (f : ℕ → ℕ) (st : Step (Option Contents))
    → p ≡ told (mutator key t.number) t.log → is_busy p ≡ true → gives_back p.phase ≡ true → op ≡ next_of p → ((n : ℕ) → f n ≡ written op n)
    → Operates key (Kind.Steps None) slots id (Mutates t, (p.number - 1, Some t.hand) ∷ []) (index_of (length key.words) (length key.headers) op) f (GivenBy p st (Mutates t, (p.number - 1, Some t.hand) ∷ []))
gives_box key slots id t p op f st is_p busy giving is_op does s h len at_id fit =
    let x : ℕ = t.number in
    let now : Core = after_moves key h.run in
    let here : Here key s h t None p op = here_at key s h id t None p op at_id is_p busy is_op in
    let v : Core = before now x None in
    let kept : IsKept false v = world_kept v here.world in
    let n : ℕ = get_or s.words (index_of (length key.words) (length key.headers) op) 0 in
    let m : Private = mutator v x in
    let phase : gives_back m.phase ≡ true = ap (λ (q : Private). gives_back q.phase) here.is ∙ giving in
    let number : m.number ≡ x = (actor_of v x kept here.here).own.number in
    let at_x : p.number - 1 ≡ x - 1 = ap (λ (q : Private). q.number - 1) (sym here.is) ∙ ap (λ k. k - 1) number in
    let none_taken : TakesNone m.phase = gives_none m.phase phase in
    let left : left_of (took_of m (found_by v x)) (box v x) ≡ box v x = left_same (took_of m (found_by v x)) (box v x) (step_between (learnt_made m (found_by v x) (box v x) here.busy none_taken)) in
    let mine = h.each id (Mutates t) at_id in
    let hand : t.hand ≡ box v x = mine.4 phase in
    let crossing_after : (stepped v x).crossing ≡ set v.crossing (x - 1) (crossing_word (m.epoch + 1) Retired) =
    ap (λ o. (with_cell (cells_of v) o (written o (found_by v x))).crossing) (gives_op m phase) ∙ ap (λ k. set v.crossing (k - 1) (crossing_word (m.epoch + 1) Retired)) number in
    let homes' : set s.homes (p.number - 1) (some (Some t.hand)) ≡ homes_of (stepped v x).crossing (stepped v x).boxes =
    (λ j. set (here.homes j) (at_x j) (some (Some ((hand ∙ sym left) j))))
    ∙ ap (λ k. set (homes_of v.crossing v.boxes) (x - 1) k) (sym (home_even (crossing_word (m.epoch + 1) Retired) (left_of (took_of m (found_by v x)) (box v x)) (even_two (m.epoch + 1))))
    ∙ sym (homes_set v.crossing v.boxes (x - 1) (crossing_word (m.epoch + 1) Retired) (left_of (took_of m (found_by v x)) (box v x)))
    ∙ ap (λ l. homes_of l (stepped v x).boxes) (sym crossing_after) in
    let over : gives_back (mutator (stepped v x) x).phase ≡ true → t.hand ≡ box (stepped v x) x = λ again.
    absurd (true≢false (sym again ∙ ap (λ (q : Private). gives_back q.phase) (here.learns ∙ here_same p n (spare (took_of p n)) busy (gives_none p.phase giving)) ∙ idle_here (took_of p n).phase (back_ends p n giving))) in
    let after = goes_on key s h id t None p op (f n) (set s.homes (p.number - 1) (some (Some t.hand))) t.hand at_id here (does n) homes' over in (
      Mutates (record t { log = t.log ++ beats None n }),
      gives,
      tt,
      after.0,
      grows_by key s h t None p op f after.0.run here is_op does after.1,
      (refl, subst (λ (o : Op). IsFound p o n) is_op here.may, here.names),
    )

-- A run, one move after another.
use Rattle.std.proofs.Common.{◌≡◌, ◌+◌, ◌++◌, ◌∷◌, ℕ, ◌≤◌, Bool, true, false, true≢false, inl, inr, max, Option, None, Some, add-zero, append-nil, append_assoc, List, [], length, refl, sym, ◌∙◌, ap, subst, arith, length-append}
use Rattle.std.specs.Io.KnownBytes.{Appends, Keeps}
use Rattle.rec_play.specs.Watched.{Watched}
use Rattle.rec_play.specs.declared.moves.Move.{Move}
use Rattle.recycler_watch.specs.Told.{HasPassed, HasTold, IsMade, IsNext, IsTold, IsTrace, before_of, before_window, move_text}
use Rattle.recycler_watch.specs.declared.request.Asked.{Asked}
use Rattle.recycler_watch.specs.declared.request.Request.TheVariants.{Text}
use Rattle.recycler_watch.specs.Seen.{seen_of}
use Rattle.recycler_watch.specs.Told.IsTold.{none, more}

-- so many moves were passed
pub record Passes (before : Watched) (count : ℕ) (after : Watched) : Type 0 where
  pub moves : List Move
  pub text : List ℕ
  pub run : IsTold 0 before moves text after
  pub counted : length moves ≡ count

pub passes_none : (w : Watched) → Passes w 0 w
passes_none w = record { moves = []; text = []; run = none 0 w; counted = refl }

pub passes_more : (before mid after : Watched) (count : ℕ) (move : Move) → Passes before count mid → IsMade mid move after → Passes before (count + 1) after
passes_more before mid after count move p made =
    record {
      moves = p.moves ++ move ∷ [];
      text = _;
      run = more 0 before mid after p.moves move p.text p.run made;
      counted = length-append p.moves (move ∷ []) ∙ ap (λ n. n + 1) p.counted;
    }

appends_nothing : (a : Option (List ℕ)) → Appends a a []
appends_nothing None = tt
appends_nothing (Some xs) = sym (append-nil xs)

-- the moves from a number on are told
pub record Told (before : Watched) (made : ℕ) (after : Watched) (made_after : ℕ) (old new : Option (List ℕ)) : Type 0 where
  pub moves : List Move
  pub text : List ℕ
  pub run : IsTold made before moves text after
  pub counted : made_after ≡ made + length moves
  pub written : Appends old new text

pub told_none : (w : Watched) (made : ℕ) (contents : Option (List ℕ)) → Told w made w made contents contents
told_none w made contents = record { moves = []; text = []; run = none made w; counted = sym (add-zero made); written = appends_nothing contents }

told_more : (before mid after : Watched) (made made_mid made_after : ℕ) (old new newer : Option (List ℕ)) (move : Move) → Told before made mid made_mid old new → IsMade mid move after → made_after ≡ made_mid + 1 → Appends new newer (move_text made_after move (seen_of mid) (seen_of after)) → Told before made after made_after old newer
told_more before mid after made made_mid made_after old new newer move t is next writes =
    let number : made_after ≡ made + length t.moves + 1 = next ∙ ap (λ n. n + 1) t.counted in
    let text : List ℕ = move_text (made + length t.moves + 1) move (seen_of mid) (seen_of after) in
    let piece : Appends new newer text = subst (λ n. Appends new newer (move_text n move (seen_of mid) (seen_of after))) number writes in
    record {
      moves = t.moves ++ move ∷ [];
      text = t.text ++ text;
      run = more made before mid after t.moves move t.text t.run is;
      counted = number ∙ (let e : length (t.moves ++ move ∷ []) ≡ length t.moves + 1 = length-append t.moves (move ∷ []) in omega arith);
      written = appends_both old new newer t.text text t.written piece;
    }
  where
    appends_both : (a b c : Option (List ℕ)) (x y : List ℕ) → Appends a b x → Appends b c y → Appends a c (x ++ y)
    appends_both None b c x y f g = tt
    appends_both (Some us) None c x y f g = absurd f
    appends_both (Some us) (Some vs) None x y f g = absurd g
    appends_both (Some us) (Some vs) (Some ws) x y f g = g ∙ ap (λ zs. zs ++ y) f ∙ append_assoc us x y

-- the next move is told
pub told_next : (goes_on : Bool) (before mid after : Watched) (made made_mid made_after : ℕ) (old new newer : Option (List ℕ)) → goes_on ≡ true → Told before made mid made_mid old new → IsNext goes_on mid made_mid after made_after new newer → Told before made after made_after old newer
told_next true before mid after made made_mid made_after old new newer e t n = told_more before mid after made made_mid made_after old new newer n.0 t n.1 n.2 n.3
told_next false before mid after made made_mid made_after old new newer e t n = absurd (true≢false (sym e))

-- all moves are told that were asked for
pub told_all : (before after : Watched) (made to count : ℕ) (old new : Option (List ℕ)) → Told before made after count old new → count ≡ max to made → HasTold before made to after count old new
told_all before after made to count old new t all =
    record { moves = t.moves; text = t.text; last = after; run = t.run; end = inl (refl, sym t.counted ∙ all); count = t.counted; written = t.written }

-- no move is left
pub told_over : (goes_on : Bool) (before last after : Watched) (made to count made_after : ℕ) (old new newer : Option (List ℕ)) → goes_on ≡ false → Told before made last count old new → IsNext goes_on last count after made_after new newer → count ≤ max to made → HasTold before made to after made_after old newer
told_over true before last after made to count made_after old new newer e t n most = absurd (true≢false e)
told_over false before last after made to count made_after old new newer e t n most =
    record {
      moves = t.moves;
      text = t.text;
      last = last;
      run = t.run;
      end = inr (n.0, subst (λ k. k ≤ max to made) t.counted most);
      count = n.1 ∙ t.counted;
      written = subst (λ c. Appends old c t.text) (sym n.2) t.written;
    }

appends_kept : (a b c : Option (List ℕ)) (x : List ℕ) → Appends a b x → Keeps b c → Appends a c x
appends_kept None b c x f g = tt
appends_kept (Some us) None c x f g = absurd f
appends_kept (Some us) (Some vs) None x f g = absurd g
appends_kept (Some us) (Some vs) (Some ws) x f g = g ∙ f

-- what was asked is written
pub traced : (asked same : Asked) (before begin after : Watched) (passed made : ℕ) (old new newer : Option (List ℕ)) → same ≡ asked → asked.request ≡ Text → HasPassed before (before_window asked) begin passed → (same.request ≡ Text → HasTold begin passed same.to after made old new) → Keeps new newer → IsTrace before asked.from asked.to after old newer
traced asked same before begin after passed made old new newer e is passes tells kept =
    let t : HasTold begin passed asked.to after made old new = subst (λ (a : Asked). HasTold begin passed a.to after made old new) e (tells (ap (λ (a : Asked). a.request) e ∙ is)) in
    record {
      begin = begin;
      passed = passed;
      made = made;
      passes = subst (λ r. HasPassed before (before_of r asked.from asked.to) begin passed) is passes;
      tells = record { moves = t.moves; text = t.text; last = t.last; run = t.run; end = t.end; count = t.count; written = appends_kept old new newer t.text t.written kept };
    }

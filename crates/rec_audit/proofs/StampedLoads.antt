-- What the collector loads from fields of a heap, and takes out of them, is dated by its stamps as in the heap of dated words behind.
use Rattle.std.proofs.Common.{◌≡◌, ℕ, zero, suc, Option, None, Some, List, [], ◌∷◌, ◌++◌, map, slice_index_or, true, refl, sym, ap, subst, ◌∙◌, arith}
use Rattle.std.specs.List.{Contains}
use Rattle.std.proofs.Math.ListN.{get_or-map}
use Rattle.std.proofs.lemmas.List.{map-append}
use Rattle.rec_core.proofs.Common.{AllFit, Cleared, Core, IsKept, Move, Op, Pending, after_move, after_moves}
use Rattle.rec_word.specs.Bare.{bare}
use Rattle.rec_word.specs.declared.op.Op.TheVariants as ops
use Rattle.rec_collector.specs.Next.{next_of}
use Rattle.rec_collector.proofs.Bare as collecting
use Rattle.rec_core.specs.Bare.{bare_core}
use Rattle.rec_audit.specs.ByStamps.{by_stamp, by_stamps, cleared_by_stamp, load_by_stamp}
use Rattle.rec_core.specs.Loads.{IsKnown, IsReferenceStill, IsSameTrial, Loaded, cleared_by, cleared_in, cleared_over, loaded_by, loaded_in, loaded_over}
use Rattle.rec_core.proofs.Bare.{move_bare}
use Rattle.rec_audit.proofs.ByStamps.{dated_again, pending_again}
use Rattle.rec_core.proofs.Dated.{Explains, moves_explained}
use Rattle.rec_audit.proofs.Loads.{all_known}
use Rattle.rec_core.proofs.Runs.{move_kept}
use Rattle.rec_audit.proofs.StampDates.{AreDatedSo, move_dated, moves_dated}
use Rattle.rec_core.proofs.Trials.{no_trial}

-- a word in a field
word_again : (v : Core) (place : ℕ) → AreDatedSo v → by_stamp (slice_index_or (bare_core v).words place 0) ≡ slice_index_or v.words place 0
word_again v place all = ap by_stamp (get_or-map bare v.words place 0) ∙ dated_again (slice_index_or v.words place 0) (all.words place)

-- ---- one move

loads_again : (v : Core) (op : Option Op) → AreDatedSo v → map load_by_stamp (loaded_by (bare_core v) op) ≡ loaded_by v op
loads_again v None all = refl
loads_again v (Some (ops.LoadChild place)) all = ap (λ (word : ℕ). record { place = place; word = word; epoch = v.epoch } ∷ []) (word_again v place all)
loads_again v (Some _) all = refl

loaded_again : (v : Core) (m : Move) → AreDatedSo v → map load_by_stamp (loaded_in (bare_core v) m) ≡ loaded_in v m
loaded_again v Move.Turns all = ap (λ (op : Option Op). map load_by_stamp (loaded_by (bare_core v) op)) (collecting.next_bare v.collector) ∙ loads_again v (next_of v.collector) all
loaded_again v _ all = refl

clears_again : (v : Core) (op : Option Op) → AreDatedSo v → map cleared_by_stamp (cleared_by (bare_core v) op) ≡ cleared_by v op
clears_again v None all = refl
clears_again v (Some (ops.ClearField place)) all = ap (λ (word : ℕ). record { place = place; word = word } ∷ []) (word_again v place all)
clears_again v (Some _) all = refl

cleared_again : (v : Core) (m : Move) → AreDatedSo v → map cleared_by_stamp (cleared_in (bare_core v) m) ≡ cleared_in v m
cleared_again v Move.Turns all = ap (λ (op : Option Op). map cleared_by_stamp (cleared_by (bare_core v) op)) (collecting.next_bare v.collector) ∙ clears_again v (next_of v.collector) all
cleared_again v _ all = refl

-- ---- all moves

all_loaded_again : (v : Core) (ms : List Move) → IsKept true v → AllFit v ms → AreDatedSo v → map load_by_stamp (loaded_over (bare_core v) ms) ≡ loaded_over v ms
all_loaded_again v [] kept fit all = refl
all_loaded_again v (m ∷ ms) kept fit all =
    let first : map load_by_stamp (loaded_in (bare_core v) m) ≡ loaded_in v m = loaded_again v m all in
    let rest : map load_by_stamp (loaded_over (bare_core (after_move v m)) ms) ≡ loaded_over (after_move v m) ms = all_loaded_again (after_move v m) ms (move_kept v m kept fit.0) fit.1 (move_dated v m kept fit.0 all) in
    map-append load_by_stamp (loaded_in (bare_core v) m) (loaded_over (after_move (bare_core v) m) ms)
    ∙ (ap (λ (u : Core). map load_by_stamp (loaded_in (bare_core v) m) ++ map load_by_stamp (loaded_over u ms)) (move_bare v m kept fit.0) ∙ (λ i. first i ++ rest i))

all_cleared_again : (v : Core) (ms : List Move) → IsKept true v → AllFit v ms → AreDatedSo v → map cleared_by_stamp (cleared_over (bare_core v) ms) ≡ cleared_over v ms
all_cleared_again v [] kept fit all = refl
all_cleared_again v (m ∷ ms) kept fit all =
    let first : map cleared_by_stamp (cleared_in (bare_core v) m) ≡ cleared_in v m = cleared_again v m all in
    let rest : map cleared_by_stamp (cleared_over (bare_core (after_move v m)) ms) ≡ cleared_over (after_move v m) ms = all_cleared_again (after_move v m) ms (move_kept v m kept fit.0) fit.1 (move_dated v m kept fit.0 all) in
    map-append cleared_by_stamp (cleared_in (bare_core v) m) (cleared_over (after_move (bare_core v) m) ms)
    ∙ (ap (λ (u : Core). map cleared_by_stamp (cleared_in (bare_core v) m) ++ map cleared_by_stamp (cleared_over u ms)) (move_bare v m kept fit.0) ∙ (λ i. first i ++ rest i))

-- ---- what becomes of it

map_held : {X Y : Type 0} (f : X → Y) (xs : List X) (x : X) → Contains xs x → Contains (map f xs) (f x)
map_held f [] x (k, below, is) = absurd (omega (arith, below))
map_held f (y ∷ ys) x (zero, below, is) = (0, omega arith, ap f is)
map_held f (y ∷ ys) x (suc k, below, is) = let (n, there, same) = map_held f ys x (k, omega arith, is) in (suc n, omega (arith, there), same)

known_again : (v : Core) (gone : List Cleared) (l : Loaded) → AreDatedSo v → IsKnown v gone l → IsKnown (by_stamps (bare_core v)) gone l
known_again v gone l all (IsKnown.stands e) = IsKnown.stands (ap (λ (q : Pending). slice_index_or q.words l.place 0) (sym (pending_again v all)) ∙ e)
known_again v gone l all (IsKnown.replaced x held at old late) = IsKnown.replaced x (subst (λ (q : Pending). Contains q.writes x) (pending_again v all) held) at old late
known_again v gone l all (IsKnown.taken_out held) = IsKnown.taken_out held

-- said of a heap
abbrev StaysSo : Core → Type 0
StaysSo u = (moves : List Move) → AllFit u moves → (l : Loaded) → IsSameTrial u (after_moves u moves) → Contains (loaded_over u moves) l → IsReferenceStill (by_stamps (after_moves u moves)) (map cleared_by_stamp (cleared_over u moves)) (load_by_stamp l)

stays_behind : (v : Core) → IsKept true v → AreDatedSo v → StaysSo (bare_core v)
stays_behind v kept all moves fit l same held =
    let (there, e) = moves_explained v (bare_core v) moves (record { bare = refl; kept = kept }) fit in
    let end : Core = after_moves v moves in
    let same_trial : IsSameTrial v end = subst (λ (u : Core). IsSameTrial (bare_core v) u) (sym e.bare) same in
    let loaded : Contains (loaded_over v moves) (load_by_stamp l) = subst (λ (xs : List Loaded). Contains xs (load_by_stamp l)) (all_loaded_again v moves kept there all) (map_held load_by_stamp (loaded_over (bare_core v) moves) l held) in
    let still : IsReferenceStill end (cleared_over v moves) (load_by_stamp l) = all_known v moves (load_by_stamp l) kept there (no_trial v moves kept there same_trial) loaded in
    let known : IsKnown (by_stamps (bare_core end)) (cleared_over v moves) (load_by_stamp l) = known_again end (cleared_over v moves) (load_by_stamp l) (moves_dated v moves kept there all) still.known in
    record {
      opened = still.opened;
      known = subst (λ (gone : List Cleared). IsKnown (by_stamps (after_moves (bare_core v) moves)) gone (load_by_stamp l)) (sym (all_cleared_again v moves kept there all))
          (subst (λ (u : Core). IsKnown (by_stamps u) (cleared_over v moves) (load_by_stamp l)) e.bare known);
    }

pub stays_by_stamps : (v w : Core) → Explains v w → AreDatedSo v → StaysSo w
stays_by_stamps v w e all = subst StaysSo e.bare (stays_behind v e.kept all)

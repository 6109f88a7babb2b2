-- What an operation of a mutator leaves of a heap.
use Rattle.std.proofs.Common.{◌≡◌, ◌≢◌, ℕ, ◌+◌, ◌-◌, slice_set, sym, ap, subst, ◌∙◌, add-zero}
use Rattle.std.proofs.lemmas.Bool.{eq-eqb, ne_eqb}
use Rattle.std.proofs.lemmas.List.{set-get_or}
use Rattle.rec_core.proofs.Common.{crossing_word, Retired, WithMutator, Op, Contents, Private, LeavesBox, Cells, blank, cell, with_cell, Core, cells_of, box, with_mutator, performed}
use Rattle.rec_word.specs.declared.op.Op.TheVariants as ops
use Rattle.rec_word.specs.Op.{written}
use Rattle.rec_mutator.specs.Step.{TakesBox}

-- an operation that leaves the words
abbrev pub LeavesWords : (word : ℕ) → Op → Type 0
LeavesWords word op = (cells : Cells) → cell cells op ≡ word → (with_cell cells op (written op word)).words ≡ cells.words

-- a load leaves the words
pub load_leaves : (place word : ℕ) → LeavesWords word (ops.LoadField place)
load_leaves place word cells e = ap (slice_set cells.words place) (sym e) ∙ set-get_or cells.words place 0

-- the mailbox of a mutator that doesn't take it
pub box_stays : {p : Private} {box left : Contents} → LeavesBox p box left → (TakesBox p.phase → ⊥) → left ≡ box
box_stays (LeavesBox.retires phase is) other = absurd (other (subst TakesBox (sym phase) tt))
box_stays (LeavesBox.lets_go phase is) other = absurd (other (subst TakesBox (sym phase) tt))
box_stays (LeavesBox.keeps phase is) other = is

-- the mailbox as it was
pub same_boxes : (w : Core) (t : ℕ) → slice_set w.boxes (t - 1) (box w t) ≡ w.boxes
same_boxes w t = set-get_or w.boxes (t - 1) (blank 0 0)

-- what holds with the mutator replaced holds after a load of a crossing word
pub after_cross : (P : Core → Type 0) (w : Core) (t n word : ℕ) (q : Private) (op : Op) → op ≡ ops.LoadCross n → word ≡ cell (cells_of w) op → P (with_mutator w t q) → P (performed w t op word q (box w t))
after_cross P w t n word q op is found p =
    let at : word ≡ cell (cells_of w) (ops.LoadCross n) = found ∙ ap (cell (cells_of w)) is in
    let same : slice_set w.crossing (n - 1) word ≡ w.crossing = ap (slice_set w.crossing (n - 1)) at ∙ set-get_or w.crossing (n - 1) 0 in
    subst (λ o. P (performed w t o word q (box w t))) (sym is) (rw (same, same_boxes w t, add-zero w.made) p)

-- after a load of a field
pub after_field : (P : Core → Type 0) (w : Core) (t place word : ℕ) (q : Private) (op : Op) → op ≡ ops.LoadField place → word ≡ cell (cells_of w) op → P (with_mutator w t q) → P (performed w t op word q (box w t))
after_field P w t place word q op is found p =
    let at : word ≡ cell (cells_of w) (ops.LoadField place) = found ∙ ap (cell (cells_of w)) is in
    let same : slice_set w.words place word ≡ w.words = ap (slice_set w.words place) at ∙ set-get_or w.words place 0 in
    subst (λ o. P (performed w t o word q (box w t))) (sym is) (rw (same, same_boxes w t, add-zero w.made) p)

-- after a load of a header
pub after_header : (P : Core → Type 0) (w : Core) (t slot word : ℕ) (q : Private) (op : Op) → op ≡ ops.LoadHeader slot → word ≡ cell (cells_of w) op → P (with_mutator w t q) → P (performed w t op word q (box w t))
after_header P w t slot word q op is found p =
    let at : word ≡ cell (cells_of w) (ops.LoadHeader slot) = found ∙ ap (cell (cells_of w)) is in
    let same : slice_set w.headers slot word ≡ w.headers = ap (slice_set w.headers slot) at ∙ set-get_or w.headers slot 0 in
    subst (λ o. P (performed w t o word q (box w t))) (sym is) (rw (same, same_boxes w t, add-zero w.made) p)

-- after a load of the epoch word
pub after_epoch : (P : Core → Type 0) (w : Core) (t word : ℕ) (q : Private) (op : Op) → op ≡ ops.LoadEpoch → word ≡ cell (cells_of w) op → P (with_mutator w t q) → P (performed w t op word q (box w t))
after_epoch P w t word q op is found p =
    let at : word ≡ w.epoch = found ∙ ap (cell (cells_of w)) is in
    subst (λ o. P (performed w t o word q (box w t))) (sym is) (rw (at, same_boxes w t, add-zero w.made) p)

-- after a load of the freed word
pub after_freed : (P : Core → Type 0) (w : Core) (t word : ℕ) (q : Private) (op : Op) → op ≡ ops.LoadFreed → word ≡ cell (cells_of w) op → P (with_mutator w t q) → P (performed w t op word q (box w t))
after_freed P w t word q op is found p =
    let at : word ≡ w.freed = found ∙ ap (cell (cells_of w)) is in
    subst (λ o. P (performed w t o word q (box w t))) (sym is) (rw (at, same_boxes w t, add-zero w.made) p)

-- after a claim that found a taken slot
pub after_probe : (P : Core → Type 0) (w : Core) (t slot header word : ℕ) (q : Private) (op : Op) → op ≡ ops.ClaimHeader slot header → word ≡ cell (cells_of w) op → word ≢ 0 → P (with_mutator w t q) → P (performed w t op word q (box w t))
after_probe P w t slot header word q op is found taken p =
    let at : word ≡ cell (cells_of w) (ops.ClaimHeader slot header) = found ∙ ap (cell (cells_of w)) is in
    let same : slice_set w.headers slot word ≡ w.headers = ap (slice_set w.headers slot) at ∙ set-get_or w.headers slot 0 in
    subst (λ o. P (performed w t o word q (box w t))) (sym is) (rw (ne_eqb word 0 taken, same, same_boxes w t, add-zero w.made) p)

-- what holds with a word and the mutator replaced holds after an exchange of a field
pub after_swap : (P : Core → Type 0) (w : Core) (t place new word : ℕ) (q : Private) (op : Op) → op ≡ ops.SwapField place new → P (record (with_mutator w t q) { words = slice_set w.words place new }) → P (performed w t op word q (box w t))
after_swap P w t place new word q op is p = subst (λ o. P (performed w t o word q (box w t))) (sym is) (rw (same_boxes w t, add-zero w.made) p)

-- after a claim that found a free slot
pub after_claim : (P : Core → Type 0) (w : Core) (t slot header word : ℕ) (q : Private) (op : Op) → op ≡ ops.ClaimHeader slot header → word ≡ 0 → P (record (with_mutator w t q) { headers = slice_set w.headers slot header; made = w.made + 1 }) → P (performed w t op word q (box w t))
after_claim P w t slot header word q op is free p = subst (λ o. P (performed w t o word q (box w t))) (sym is) (rw (eq-eqb word 0 free, same_boxes w t) p)

-- what holds with crossing word, mutator and mailbox replaced holds after the mailbox was taken
pub after_take : (P : Core → Type 0) (w : Core) (t n epoch word : ℕ) (q : Private) (b : Contents) (op : Op) → op ≡ ops.TakeBox n epoch
    → P (record (with_mutator w t q) { crossing = slice_set w.crossing (n - 1) (crossing_word epoch WithMutator); boxes = slice_set w.boxes (t - 1) b }) → P (performed w t op word q b)
after_take P w t n epoch word q b op is p = subst (λ o. P (performed w t o word q b)) (sym is) (rw (add-zero w.made) p)

-- after it was given back
pub after_give : (P : Core → Type 0) (w : Core) (t n epoch word : ℕ) (q : Private) (op : Op) → op ≡ ops.GiveBox n epoch
    → P (record (with_mutator w t q) { crossing = slice_set w.crossing (n - 1) (crossing_word epoch Retired) }) → P (performed w t op word q (box w t))
after_give P w t n epoch word q op is p = subst (λ o. P (performed w t o word q (box w t))) (sym is) (rw (same_boxes w t, add-zero w.made) p)

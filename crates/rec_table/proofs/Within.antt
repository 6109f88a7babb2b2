-- The word of a mutator's operation is there.
use Rattle.std.proofs.Common.{◌≡◌, ℕ, ◌+◌, ◌*◌, ◌<◌, ◌≤◌, length, sym, ap, ◌∙◌, subst, arith, false}
use Rattle.rec_table.proofs.Common.{Op, Private, IsMachine, KeepsSizes, IsMutator, Core, cells_of, mutator, IsKept, IsWithin, IsWorld, world_kept, actor_of, fields_many, IsOwnOp, own_next, index_of}
use Rattle.rec_word.specs.declared.op.Op.TheVariants as ops
use Rattle.rec_mutator.specs.Next.{next_of}
use Rattle.rec_mutator.specs.Step.{NamesSlots, NamesWord}
use Rattle.rec_mutator.proofs.Words.{names_word}
use Rattle.rec_world.proofs.Row.{row_within}

record Sized (key : Core) (t : ℕ) (p : Private) : Type 0 where
  number : p.number ≡ t
  places : p.slots * p.fields ≡ length key.words
  slots : p.slots ≡ length key.headers
  crossing : t ≤ length key.crossing

within : (key : Core) (t : ℕ) (p : Private) (op : Op) → IsMutator key.config t → Sized key t p → IsOwnOp p op → NamesWord p.slots p.fields op → IsWithin (cells_of key) op
within key t p (ops.LoadField place) is z own names = subst (λ n. place < n) z.places names
within key t p (ops.SwapField place word) is z own names = subst (λ n. place < n) z.places names
within key t p (ops.LoadHeader slot) is z own names = subst (λ n. slot < n) z.slots names
within key t p (ops.ClaimHeader slot header) is z own names = (subst (λ n. slot < n) z.slots names.0, names.1)
within key t p (ops.LoadCross n) is z own names = (omega (arith, own, z.number, is.0), omega (arith, own, z.number, z.crossing))
within key t p (ops.TakeBox n e) is z own names = (omega (arith, own, z.number, is.0), omega (arith, own, z.number, z.crossing))
within key t p (ops.GiveBox n e) is z own names = (omega (arith, own, z.number, is.0), omega (arith, own, z.number, z.crossing))
within key t p (ops.ShiftBox n shift) is z own names = (omega (arith, own, z.number, is.0), omega (arith, own, z.number, z.crossing))
within key t p ops.LoadEpoch is z own names = tt
within key t p ops.LoadFreed is z own names = tt
within key t p _ is z own names = absurd own

pub there : (key : Core) (t : ℕ) (opened p : Private) (words : ℕ) → IsWorld key → IsMutator key.config t → opened ≡ mutator key t → KeepsSizes opened p → IsMachine p → NamesSlots p
    → words ≡ length key.words + length key.headers + 2 + length key.crossing → index_of (length key.words) (length key.headers) (next_of p) < words
there key t opened p words world is at keeps machine names wide =
    let kept : IsKept false key = world_kept key world in
    let own = (actor_of key t kept is).own in
    let slots : p.slots ≡ key.config.slots = keeps.slots ∙ ap (λ (q : Private). q.slots) at ∙ own.slots in
    let fields : p.fields ≡ key.config.fields = keeps.fields ∙ ap (λ (q : Private). q.fields) at ∙ own.fields in
    let all : length key.crossing ≡ key.config.mutators = kept.mutators.words in
    let z : Sized key t p = record {
      number = keeps.number ∙ ap (λ (q : Private). q.number) at ∙ own.number;
      places = fields_many key p.slots p.fields kept slots fields;
      slots = slots ∙ sym kept.headers;
      crossing = omega (arith, all, is.1);
    } in
    let low = row_within (cells_of key) (next_of p) (within key t p (next_of p) is z (own_next p) (names_word p machine names)) in
    omega (arith, low, wide)

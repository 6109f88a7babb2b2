-- A heap that never frees, with an object for each slot of a world, stands for it.
use Rattle.std.proofs.Common.{◌≡◌, ℕ, ◌<◌, map, length, get_or, refl, sym, ap, subst, arith}
use Rattle.std.specs.Prelude.{option_map}
use Rattle.std.specs.List.{range_with_len}
use Rattle.std.proofs.lemmas.List.Elements.{All-get_or}
use Rattle.std.proofs.lemmas.List.FromFn.{get_or-map-range_with_len, length-map-range_with_len}
use Rattle.rec_word.specs.Header.{is_leaf, label_of, IsHeaderOf, IsTakenHeader}
use Rattle.rec_model.specs.Heap.{Heap, Object, nothing, object}
use Rattle.rec_model.specs.Sight.{Sight, IsTaken, StandsBy, field_of, words_of}
use Rattle.rec_model.proofs.Standing.{reached_is_taken}
use Rattle.rec_model.proofs.Unfreed.{taken_within}
use Rattle.rec_core.specs.Core.{Core, sight}
use Rattle.rec_core.specs.Kept.{IsHeader}
use Rattle.rec_world.specs.World.{IsWorld}

-- the object of a slot, where each slot's number is its object's
abbrev object_of : Sight → ℕ → Object
object_of w slot = record { label = label_of (get_or w.headers slot 0); leaf = is_leaf (get_or w.headers slot 0); fields = map (field_of (λ n. n)) (words_of w slot) }

abbrev pub heap_of : Sight → Heap
heap_of w = record { objects = map (object_of w) (range_with_len 0 (length w.headers)); registers = map (map (option_map (λ n. n))) w.registers }

module _ (w : Core) (kept : IsWorld w) where
  there : (slot : ℕ) → IsTaken (sight w) slot → object (heap_of (sight w)) slot ≡ object_of (sight w) slot
  there slot taken = get_or-map-range_with_len (object_of (sight w)) 0 (length w.headers) slot slot nothing (taken_within (sight w) slot taken) (omega arith)

  header : (slot : ℕ) → IsTaken (sight w) slot → IsHeaderOf (object_of (sight w) slot).leaf (object_of (sight w) slot).label (get_or w.headers slot 0)
  header slot taken =
      let is : IsTakenHeader (get_or w.headers slot 0) = All-get_or IsHeader w.headers slot 0 (taken_within (sight w) slot taken) kept.shaped.labels taken in
      record { leaf = refl; label = omega (arith, is.some) }

  pub stands_itself : StandsBy (heap_of (sight w)) (sight w) (λ n. n)
  stands_itself = record {
    one_to_one = λ s t _ _ same. same;
    there = λ s taken. subst (λ n. s < n) (sym (length-map-range_with_len (object_of (sight w)) 0 (length w.headers))) (taken_within (sight w) s taken);
    header = λ s taken. subst (λ (x : Object). IsHeaderOf x.leaf x.label (get_or w.headers s 0)) (sym (there s taken)) (header s taken);
    registers = refl;
    fields = λ s reached. ap (λ (x : Object). x.fields) (there s (reached_is_taken (sight w) kept.shaped.sound s reached));
  }

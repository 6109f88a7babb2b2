-- What the fields of an `Image` stand for.
use Rattle.std.specs.Prelude.{◌≡◌, ◌*◌, length}
use Rattle.rec_image.specs.declared.image.Image.TheInside.{Inside}
use Rattle.rec_image.specs.Drafts.{objects_of, rows_of}
use Rattle.rec_image.specs.Image.{ImageContents, IsImage}

-- an object's fields stand one behind the other, and so do a mutator's registers
abbrev pub contents : Inside → ImageContents
contents s =
    record {
      slots = s.heap.slots;
      fields = s.heap.fields;
      registers = s.heap.registers;
      mutators = s.heap.mutators;
      objects = objects_of s.heap.fields s.nodes.items s.fields.items;
      held = rows_of s.heap.registers s.heap.mutators s.registers.items;
    }

-- what every image keeps
pub record IsKept (s : Inside) : Type 0 where
  pub image : IsImage (contents s)
  pub fields : length s.fields.items ≡ length s.nodes.items * s.heap.fields
  pub registers : length s.registers.items ≡ s.heap.mutators * s.heap.registers

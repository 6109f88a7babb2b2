-- A birth adds one object.
use Rattle.std.proofs.Common.{◌≡◌, ℕ, ◌+◌, Option, None, Some, Bool, true, false, if◌then◌else◌, not, ◌&&◌, length, arith}
use Rattle.std.proofs.lemmas.List.{length_push, length-set}
use Rattle.rec_model.proofs.Common.{Heap, Object, object, register, born}
use Rattle.rec_model.specs.declared.command.Cmd.{Cmd}
use Rattle.rec_model.specs.declared.command.Cmd.TheVariants as commands
use Rattle.rec_model.specs.declared.told.Told.{Told}
use Rattle.rec_model.specs.Asking.{asked, asks, is_done, got, put, put_to, bear, leave}
use Rattle.rec_model.specs.LegalOrder.{is_new, is_birth}

-- a read, a write and the others make none
got_births : (heap : Heap) (t dst f : ℕ) (x : Option ℕ) → length (got heap t dst f x).heap.objects ≡ length heap.objects + 0
got_births heap t dst f None = omega arith
got_births heap t dst f (Some n) = omega arith

put_to_births : (heap : Heap) (n f : ℕ) (val : Option ℕ) (left : ℕ) (made : Bool) → length (put_to heap n f val left made).heap.objects ≡ length heap.objects + 0
put_to_births heap n f val left true = omega (arith, length-set {A = Object})
put_to_births heap n f val left false = omega arith

put_births : (heap : Heap) (f : ℕ) (val : Option ℕ) (made : Bool) (left : ℕ) (x : Option ℕ) → length (put heap f val made left x).heap.objects ≡ length heap.objects + 0
put_births heap f val made left None = omega arith
put_births heap f val made left (Some n) = put_to_births heap n f val left (made && not (object heap n).leaf)

bear_births : (fields : ℕ) (heap : Heap) (t reg label : ℕ) (leaf made : Bool) → length (bear fields heap t reg label leaf made).heap.objects ≡ length heap.objects + (if made then 1 else 0)
bear_births fields heap t reg label leaf true = length_push heap.objects (born leaf fields label)
bear_births fields heap t reg label leaf false = omega arith

leave_births : (heap : Heap) (t : ℕ) (made : Bool) → length (leave heap t made).heap.objects ≡ length heap.objects + 0
leave_births heap t true = omega arith
leave_births heap t false = omega arith

births_at : (fields : ℕ) (heap : Heap) (t : ℕ) (cmd : Cmd) (made : Bool) (left : ℕ)
    → length (asks fields heap t cmd made left).heap.objects ≡ length heap.objects + (if is_new cmd && made then 1 else 0)
births_at fields heap t (commands.New reg label) made left = bear_births fields heap t reg label false made
births_at fields heap t (commands.Leaf reg label) made left = bear_births fields heap t reg label true made
births_at fields heap t (commands.Null reg) made left = omega arith
births_at fields heap t (commands.Copy dst src) made left = omega arith
births_at fields heap t (commands.Get dst src f) made left = got_births heap t dst f (register heap.registers t src)
births_at fields heap t (commands.Put src f val) made left = put_births heap f (register heap.registers t val) made left (register heap.registers t src)
births_at fields heap t (commands.Value reg) made left = omega arith
births_at fields heap t (commands.Same a b) made left = omega arith
births_at fields heap t commands.Leave made left = leave_births heap t made
births_at fields heap t commands.Park made left = omega arith
births_at fields heap t commands.Unpark made left = omega arith

pub births : (fields : ℕ) (heap : Heap) (t : ℕ) (cmd : Cmd) (told : Told) → length (asked fields heap t cmd told).heap.objects ≡ length heap.objects + (if is_birth (cmd, told) then 1 else 0)
births fields heap t cmd told = births_at fields heap t cmd (is_done told.answer) told.left

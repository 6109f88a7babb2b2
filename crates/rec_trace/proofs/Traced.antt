-- What is reached, and how it is numbered, is the same wherever one heap stands by the same numbers and the registers are the same.
use Rattle.std.proofs.Common.{◌≡◌, ℕ, List, [], ◌∷◌, ◌++◌, true, map, length, refl, sym, ap, subst, ◌∙◌}
use Rattle.std.specs.List.{flat_map}
use Rattle.rec_word.specs.Word.{target_of}
use Rattle.rec_model.specs.Heap.{Heap, Field, roots}
use Rattle.rec_model.specs.Numbering.{firsts}
use Rattle.rec_model.specs.Reach.{is_in, named}
use Rattle.rec_model.specs.Reach.IsReached.{root, child}
use Rattle.rec_model.specs.Sight.{Sight, NumbersSlots, Reaches, StandsBy, field_of, targets_of, words_of}
use Rattle.rec_model.proofs.Members.{all_of, of_all, is_in-head, is_in-tail}
use Rattle.rec_core.specs.Core.{Core, sight}
use Rattle.rec_core.specs.Worked.{AreIdle}
use Rattle.rec_settle.specs.Whole.{HasSettled}
use Rattle.rec_settle.specs.declared.whole.Settled.{Settled}
use Rattle.rec_settle.proofs.Settles.{EndsSettling, settling_settles}
use Rattle.rec_world.specs.World.{IsWorld}
use Rattle.rec_world.proofs.Calls.{world_kept}
use Rattle.rec_trace.proofs.Itself.{heap_of, stands_itself}
use Rattle.rec_trace.proofs.Taken.{traced_many}

-- fields tell the words that are in them
words_back : (number : ℕ → ℕ) (words : List ℕ) → map (λ (x : Field). x.word) (map (field_of number) words) ≡ words
words_back number [] = refl
words_back number (word ∷ words) = ap (λ ws. word ∷ ws) (words_back number words)

module _ (before after : Sight) (heap : Heap) (number : ℕ → ℕ) (stood : StandsBy heap before number) (stands : StandsBy heap after number) (registers : after.registers ≡ before.registers) where
  same_words : (slot : ℕ) → Reaches before slot → Reaches after slot → words_of after slot ≡ words_of before slot
  same_words slot was is =
      sym (words_back number (words_of after slot))
      ∙ ap (map (λ (x : Field). x.word)) (sym (stands.fields slot is) ∙ stood.fields slot was)
      ∙ words_back number (words_of before slot)

  same_targets : (slot : ℕ) → Reaches before slot → Reaches after slot → targets_of after slot ≡ targets_of before slot
  same_targets slot was is = ap (λ ws. named (map target_of ws)) (same_words slot was is)

  still_reached : (slot : ℕ) → Reaches before slot → Reaches after slot
  still_reached slot (root n there) = root n (subst (λ rs. is_in n (roots rs) ≡ true) (sym registers) there)
  still_reached slot (child m n from there) = child m n (still_reached m from) (subst (λ ns. is_in n ns ≡ true) (sym (same_targets m from (still_reached m from))) there)

  all_targets : (slots : List ℕ) → ((slot : ℕ) → is_in slot slots ≡ true → Reaches before slot) → flat_map (targets_of after) slots ≡ flat_map (targets_of before) slots
  all_targets [] reached = refl
  all_targets (slot ∷ slots) reached =
      let here : Reaches before slot = reached slot (is_in-head slot slots) in
      (λ i. same_targets slot here (still_reached slot here) i ++ all_targets slots (λ s there. reached s (is_in-tail s slot slots there)) i)

  still_numbered : (slots : List ℕ) → NumbersSlots before slots → NumbersSlots after slots
  still_numbered slots numbers =
      let reached : (slot : ℕ) → is_in slot slots ≡ true → Reaches before slot = of_all (Reaches before) slots numbers.reached in
      record {
        order = numbers.order
            ∙ ap (λ rs. firsts (roots rs ++ flat_map (targets_of before) slots)) (sym registers)
            ∙ ap (λ ns. firsts (roots after.registers ++ ns)) (sym (all_targets slots reached));
        reached = all_of (Reaches after) slots (λ slot there. still_reached slot (reached slot there));
      }

module _ (before after : Core) (told : Settled) (slots : List ℕ) (kept : IsWorld before) (idle : AreIdle before) (settled : HasSettled before after told) (numbers : NumbersSlots (sight before) slots) where
  -- settling keeps a trace
  pub settled_numbered : NumbersSlots (sight after) slots
  settled_numbered =
      let ends : EndsSettling before after = settling_settles before after (world_kept before kept) idle settled.settles in
      still_numbered (sight before) (sight after) (heap_of (sight before)) (λ n. n) (stands_itself before kept) (ends.all.stays.stands (heap_of (sight before)) (λ n. n) (stands_itself before kept)) ends.all.stays.registers slots numbers

  -- which has as many slots as are taken then
  pub settled_many : length slots ≡ told.live
  settled_many = traced_many after slots settled.settled settled_numbered ∙ sym settled.live

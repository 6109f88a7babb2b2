-- A heap stands by any numbering that agrees on the taken slots.
use Rattle.std.proofs.Common.{◌≡◌, ℕ, ◌<◌, length, slice_index_or, sym, ap, subst, ◌∙◌}
use Rattle.rec_word.specs.Header.{IsHeaderOf}
use Rattle.rec_model.specs.Explained.{GoesOnBy}
use Rattle.rec_model.specs.Heap.{Heap, object}
use Rattle.rec_model.specs.Sight.{Sight, IsTaken, words_of, StandsBy, IsSound}
use Rattle.rec_model.proofs.Standing.{fields_agree, reached_is_taken, registers_agree}

-- It stands by a numbering that agrees.
agree_stands : (heap : Heap) (w : Sight) (number next : ℕ → ℕ) → IsSound w → ((s : ℕ) → IsTaken w s → number s ≡ next s) → StandsBy heap w number → StandsBy heap w next
agree_stands heap w number next sound agree by =
    record {
      one_to_one = λ s t s_taken t_taken same. by.one_to_one s t s_taken t_taken (agree s s_taken ∙ same ∙ sym (agree t t_taken));
      there = λ s taken. subst (λ n. n < length heap.objects) (agree s taken) (by.there s taken);
      header = λ s taken. subst (λ n. IsHeaderOf (object heap n).leaf (object heap n).label (slice_index_or w.headers s 0)) (agree s taken) (by.header s taken);
      registers = by.registers ∙ registers_agree number next w.registers (λ n there. agree n (sound.registers n there));
      fields = λ s reached.
          let taken : IsTaken w s = reached_is_taken w sound s reached in
          ap (λ n. (object heap n).fields) (sym (agree s taken)) ∙ by.fields s reached ∙ fields_agree number next (words_of w s) (λ n there. agree n (sound.fields s n taken there));
    }

-- and numbers go on by it
pub agree_goes_on : (heap : Heap) (before after : Sight) (number later named_ : ℕ → ℕ) (next : ℕ) → IsSound after → ((s : ℕ) → IsTaken after s → later s ≡ named_ s)
    → GoesOnBy heap before after number later next → GoesOnBy heap before after number named_ next
agree_goes_on heap before after number later named_ next sound agree on =
    record {
      stands = agree_stands heap after later named_ sound agree on.stands;
      kept = λ s taken. ((on.kept s taken).0, sym (agree s (on.kept s taken).0) ∙ (on.kept s taken).1);
      born = λ s taken new. sym (agree s taken) ∙ on.born s taken new;
    }

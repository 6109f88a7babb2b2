-- What registers and fields name lies below the number of slots: by a test of each, and in every sound heap.
use Rattle.std.proofs.Common.{◌≡◌, inl, inr, ℕ, zero, suc, ◌+◌, ◌-◌, ◌*◌, ◌<◌, ◌≤◌, false, [], map, take, length, replicate, get_or, refl, ◌∙◌, ap, subst, arith}
use Rattle.std.proofs.lemmas.Bool.{false≢true, cases_lt, both_ways}
use Rattle.std.proofs.lemmas.List.{drop_all}
use Rattle.std.proofs.Math.Nat.{mul-le-mul_right}
use Rattle.std.proofs.Math.Seq.{take-nil}
use Rattle.rec_world.proofs.Common.{Core, sight, IsShaped}
use Rattle.rec_word.specs.Word.{target_of}
use Rattle.rec_model.specs.Reach.{named, is_in}
use Rattle.rec_model.specs.Sight.{Sight, targets_of, words_of, IsTaken, IsSound}
use Rattle.rec_model.proofs.Unfreed.{taken_within}
use Rattle.rec_world.specs.Numbering.{NamesBelow, sight_of}

-- a free slot's fields name nothing
nothing_named : (n fields : ℕ) → is_in n (named (map target_of (replicate fields 0))) ≡ false
nothing_named n zero = refl
nothing_named n (suc fields) = nothing_named n fields

-- past the last slot there are no words
no_words : (w : Sight) (s : ℕ) → IsSound w → length w.headers ≤ s → words_of w s ≡ []
no_words w s sound ge =
    let bound : length w.headers * w.fields ≤ s * w.fields = mul-le-mul_right w.fields ge in
    let past : length w.words ≤ s * w.fields = rw sound.places bound in
    ap (λ ws. take (s * w.fields + w.fields - s * w.fields) ws) (drop_all (s * w.fields) w.words past) ∙ take-nil (s * w.fields + w.fields - s * w.fields)

-- In a sound heap registers and fields name slots that there are.
pub names_sound : (w : Sight) → IsSound w → NamesBelow w (length w.headers)
names_sound w sound = record {
  registers = λ slot h. taken_within w slot (sound.registers slot h);
  fields = λ s slot h. elim (cases_lt 0 (get_or w.headers s 0)) [
    | inl taken ↦ taken_within w slot (sound.fields s slot taken h)
    | inr free ↦ elim (cases_lt s (length w.headers)) [
      | inl lt ↦ absurd (both_ways (is_in slot (targets_of w s)) (rw (sound.free s lt (λ (taken : IsTaken w s). omega arith)) (nothing_named slot w.fields)) h)
      | inr ge ↦ absurd (false≢true (rw (no_words w s sound ge) at h))
    ]
  ];
}

-- so do those of a heap
pub names_below : (w : Core) → IsShaped w → NamesBelow (sight_of (sight w).registers w.words w.config.fields) w.config.slots
names_below w shaped =
    let names : NamesBelow (sight w) (length w.headers) = names_sound (sight w) shaped.sound in
    record {
      registers = λ slot there. subst (λ n. slot < n) shaped.headers (names.registers slot there);
      fields = λ s slot there. subst (λ n. slot < n) shaped.headers (names.fields s slot there);
    }

-- What is said of a journal, from the bytes that were read of it.
use Rattle.std.proofs.Common.{◌≡◌, ◌⊎◌, inl, inr, ℕ, ◌+◌, ◌<◌, ◌≤◌, List, [], ◌++◌, Option, None, Some, length, refl, sym, ap, subst, arith, length-append}
use Rattle.std.proofs.lemmas.Bool.{cases_lt}
use Rattle.rec_io.specs.Sink.{Appends}
use Rattle.rec_io.specs.Source.{Passes}
use Rattle.rec_io.proofs.Told.{untold}
use Rattle.rec_audit.specs.declared.verdict.Verdict.{Verdict}
use Rattle.rec_audit.specs.Verdicts.{IsVerdict}
use Rattle.rec_audit.specs.Verdicts.IsVerdict.{yes, long, no as first_fault}
use Rattle.rec_run.specs.Headline.{HasRead, IsReadPast, SaysVerdict, WroteAnswer, WroteFront}
use Rattle.rec_io.specs.Whole.{IsAtEnd}
use Rattle.rec_request.specs.declared.request.Request.TheVariants as requests
use Rattle.rec_run.proofs.Endings.{all_read, read_short, some_same}

-- of bytes past the limit the same is said as of all that follow
past : (bytes more rest : List ℕ) (verdict : Verdict) → 16777216 < length bytes → rest ≡ bytes ++ more → IsVerdict bytes verdict → IsVerdict rest verdict
past bytes more rest verdict many is (yes lines few text clean whole) = absurd (omega arith)
past bytes more rest verdict many is (long beyond) = long (omega (arith, ap (length {A = ℕ}) is, length-append bytes more))
past bytes more rest verdict many is (first_fault lines behind rule few text clean fault) = absurd (omega arith)

-- all bytes that a source told, of which what is said is that of the bytes that were read
record IsSaid (rest left : Option (List ℕ)) (text : List ℕ) : Type 0 where
  bytes : List ℕ
  read : HasRead requests.Audit rest left bytes
  says : SaysVerdict bytes text

said : (rest left : Option (List ℕ)) (bytes text : List ℕ) → Passes rest left bytes → (length bytes ≤ 16777216 → IsAtEnd rest left) → length bytes ≤ 16777216 + 65536 → SaysVerdict bytes text → IsSaid rest left text
said None left bytes text passes end few says =
    record {
      bytes = bytes;
      read = (λ whole told. untold (λ w. w ≡ bytes) whole told, λ whole told. untold (λ w. ((left ≡ Some []) × (length w ≤ 16777216)) ⊎ IsReadPast w left) whole told);
      says = says;
    }
said (Some rest) left bytes text passes end few says =
    let passed = passes rest refl in
    elim (cases_lt 16777216 (length bytes)) [
      | inl many ↦
          record {
            bytes = rest;
            read = (
              λ whole told. sym (some_same rest whole told),
              λ whole told. inr (subst (λ w. IsReadPast w left) (some_same rest whole told) (record { bytes = bytes; passed = passed; many = many; few = few })),
            );
            says = record { verdict = says.verdict; said = past bytes passed.left rest says.verdict many passed.front says.said; written = says.written };
          }
      | inr short ↦
          record {
            bytes = bytes;
            read = (all_read (Some rest) left bytes passes (end short), read_short (Some rest) left bytes passes short (end short));
            says = says;
          }
    ]

-- what is said was written
pub wrote_verdict : (rest left before after : Option (List ℕ)) (bytes text : List ℕ) → Passes rest left bytes → (length bytes ≤ 16777216 → IsAtEnd rest left) → length bytes ≤ 16777216 + 65536 → SaysVerdict bytes text → Appends before after text → WroteAnswer requests.Audit rest left before after
wrote_verdict rest left before after bytes text passes end few says appends =
    let all : IsSaid rest left text = said rest left bytes text passes end few says in
    record { bytes = all.bytes; read = all.read; text = text; answer = all.says; written = appends }

-- or a front of it
pub wrote_verdict_front : (rest left before after : Option (List ℕ)) (bytes text : List ℕ) → Passes rest left bytes → (length bytes ≤ 16777216 → IsAtEnd rest left) → length bytes ≤ 16777216 + 65536 → SaysVerdict bytes text
    → (front back : List ℕ) × (text ≡ front ++ back) × Appends before after front → WroteFront requests.Audit rest left before after
wrote_verdict_front rest left before after bytes text passes end few says (front, back, cut, appends) =
    let all : IsSaid rest left text = said rest left bytes text passes end few says in
    record { bytes = all.bytes; read = all.read; text = text; answer = all.says; front = front; back = back; cut = cut; written = appends }

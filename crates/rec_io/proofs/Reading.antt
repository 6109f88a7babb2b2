-- On several reads of one source: together they give the front of its rest, in order.
use Rattle.std.proofs.Common.{◌≡◌, ℕ, List, [], ◌++◌, take, drop, Option, Result, Ok, Err, refl, sym, ◌∙◌, ap, append_assoc, arith}
use Rattle.std.proofs.lemmas.List.{take-append-drop}
use Rattle.std.proofs.lemmas.Grind.{common_steps}
use Rattle.std.specs.Option.{ForSome}
use Rattle.std.specs.Result.{IsErrAnd, IsErrOf}
use Rattle.rec_io.specs.declared.reader.ReadStop.{ReadStop}
use Rattle.rec_io.specs.declared.reader.ReadStop.TheVariants.{Fault, NoMemory}
use Rattle.rec_io.specs.Source.{GivesFront, IsSpent, Passes}
use Rattle.rec_io.specs.Told.{KeepsTold}

-- one read that gave n bytes passes them
pub passes_given : (before after : Option (List ℕ)) (n : ℕ) (into : List ℕ) → GivesFront before after n into →
    Passes before after (take n into)
passes_given before after n into gives rest told = record {
  left = drop n rest;
  told = gives.moves_on rest told;
  front = rw (gives.bytes rest told, take-append-drop) refl;
}

-- a read that failed passes nothing
pub passes_kept : (before after : Option (List ℕ)) → KeepsTold before after → Passes before after []
passes_kept before after keeps rest told = record { left = rest; told = keeps rest told; front = refl }

-- a read at the end passes nothing
pub passes_none : (before after : Option (List ℕ)) → IsSpent before after → Passes before after []
passes_none before after spent rest told = record { left = []; told = spent.told rest told; front = spent.empty rest told }

-- reads one after the other pass what each of them passes
pub passes_more : (first then last : Option (List ℕ)) (xs ys : List ℕ) → Passes first then xs → Passes then last ys →
    Passes first last (xs ++ ys)
passes_more first then last xs ys one two rest told =
    let a = one rest told in
    let b = two a.left a.told in
    record { left = b.left; told = b.told; front = a.front ∙ ap (λ left. xs ++ left) b.front ∙ sym (append_assoc xs ys b.left) }

-- memory that ran out is no fault
pub no_fault : {T : Type 0} (r : Result T ReadStop) → IsErrAnd r (λ e. e ≡ NoMemory) → IsErrOf r Fault → ⊥
no_fault (Ok x) gives is = absurd gives
no_fault (Err e) gives is = cc

-- an answer is no error
pub ok_no_err : {T E : Type 0} (x : T) (e : E) → ◌≡◌ {A = Result T E} (Ok x) (Err e) → ⊥
ok_no_err x e bad = cc

-- an error that is passed on is the one that came
pub came : {T : Type 0} (r : Result T ReadStop) (stop : ReadStop) → IsErrAnd r (λ e. e ≡ stop) → IsErrOf r Fault → stop ≡ Fault
came (Ok x) stop gives is = absurd gives
came (Err e) stop gives is = cc

pub passed_on : {T U : Type 0} (r : Result T ReadStop) (stop : ReadStop) → IsErrAnd r (λ e. e ≡ stop) → ◌≡◌ {A = Result U ReadStop} (Err stop) (Err Fault) → IsErrOf r Fault
passed_on (Ok x) stop gives is = absurd gives
passed_on (Err e) stop gives is = cc

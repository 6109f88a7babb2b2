-- A probe of a taken slot may be a load.
use Rattle.std.proofs.Common.{◌≡◌, ◌≢◌, ℕ, List, cond, ne_eqb, length, get_or, Option, None, true, refl, sym, ap, ◌∙◌, subst}
use mathlib.Core.Logic.{dite}
use native.Mathlib.Decide.{ℕ_discrete}
use Rattle.std.proofs.lemmas.List.{set-get_or}
use Rattle.atomic_table.specs.Table.{State, Step, keeps, stepped}
use Rattle.atomic_table.proofs.Lists.{set_again}
use Rattle.rec_table.proofs.Common.{written, Op, Contents, Private, is_busy, Core, mutator, told, Kind, Grows, Operates, operation, index_of, Holds, PassedBy, Seated, View, Mutates}
use Rattle.rec_word.specs.declared.op.Op.TheVariants as ops
use Rattle.rec_mutator.specs.Next.{next_of}
use Rattle.rec_table.proofs.Operations.{passes_free, passes_taken}
use Rattle.rec_table.proofs.Steps.{IsPlain, steps}

pub probes : (key : Core) (slots id slot header : ℕ) (t : Seated) (hs : List (ℕ × Option Contents)) (p : Private) (op : Op) (st : Step (Option Contents))
    → p ≡ told (mutator key t.number) t.log → is_busy p ≡ true → IsPlain p.phase → op ≡ next_of p → op ≡ ops.ClaimHeader slot header
    → Operates key Kind.Passes slots id (Mutates t, hs) (index_of (length key.words) (length key.headers) op) (λ n. n) (PassedBy st (Mutates t, hs))
probes key slots id slot header t hs p op st is_p busy plain is_op claims s h len at_id fit =
    let i : ℕ = index_of (length key.words) (length key.headers) op in
    let n : ℕ = get_or s.words i 0 in
    dite (ℕ_discrete n 0)
    (λ (zero_found : n ≡ 0).
    let same = subst (λ (u : State (Option Contents) View). (h' : Holds key u) × Grows key (operation (Mutates t) Kind.Passes i (λ k. k) n) h.run h'.run)
    (λ j. let u : State (Option Contents) View = record { words = sym (set-get_or s.words i 0) j; homes = s.homes; views = sym (set_again s.views id (Mutates t) at_id) j } in u) (h, passes_free key (Mutates t) i n h.run zero_found) in (
      Mutates t,
      keeps,
      tt,
      same.0,
      same.1,
      ((λ ne. absurd (ne zero_found)), (λ e. refl)),
    ))
    (λ (some_found : n ≢ 0).
    let all = steps key slots id t hs None p op (written op) st is_p busy plain is_op (λ k. refl) s h len at_id fit in
    let same : written op n ≡ n = ap (λ (o : Op). written o n) claims ∙ ap (λ b. cond b header n) (ne_eqb n 0 some_found) in
    let after = subst (λ z. (h' : Holds key (stepped s i z id hs all.0 all.1)) × Grows key (operation (Mutates t) Kind.Passes i (λ k. k) n) h.run h'.run) same (all.3, passes_taken key (Mutates t) i n op h.run all.3.run some_found same all.4) in (
      all.0,
      all.1,
      all.2,
      after.0,
      after.1,
      ((λ ne. all.5.0), (λ e. absurd (some_found e))),
    ))

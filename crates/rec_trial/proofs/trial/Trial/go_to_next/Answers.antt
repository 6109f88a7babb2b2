-- The contract of `Trial::go_to_next`: on to the next load, or to the end.
use Rattle.std.proofs.Common.{◌≡◌, ◌+◌, subst, sym}
use Rattle.std.proofs.lemmas.Bool.{lt-ltb}
use Rattle.rec_trial.proofs.Common.{Machine, Phase, Work, advanced, pointed, settled}
use Rattle.rec_trial.specs.Trial.{IsHere}
use Rattle.rec_trial.proofs.Staying.{next_field_due}
use Rattle.rec_trial.proofs.trial.Trial.go_to_next.Goals as goal

pub returns-then-self : goal.returns-then-self
returns-then-self c =
    let m : Machine = record { fields = c.self.inside.fields; phase = c.self.inside.phase; tried = c.self.inside.tried; done = c.self.inside.done; slot = c.self.inside.slot; field = c.self.inside.field } in
    let its : IsHere c.args.self.now.phase c.args.counts.now c.args.self.now = subst (λ (p : Phase). IsHere p c.args.counts.now c.args.self.now) c.requires.phase c.requires.here in
    let here : IsHere m.phase c.args.counts.now m = subst (λ (k : Machine). IsHere k.phase c.args.counts.now k) (sym c.self.view_is) its in
    subst (λ (k : Machine). ◌≡◌ {A = Work} (record { machine = record m { field = m.field + 1 }; counts = c.args.counts.now }) (pointed (settled (record { machine = advanced k; counts = c.args.counts.now })))) c.self.view_is (next_field_due m c.args.counts.now here (lt-ltb _ _ c.if-self.true))

-- Several answers of a listener, one after another.
use Rattle.std.specs.Prelude.{◌≡◌, List, [], ◌∷◌, ℕ, Option}
use Rattle.rec_notice.specs.Ring.{Hears}
use Rattle.rec_notice.specs.declared.listener.Listener.{Listener}

-- the listener gave these answers, in this order
abbrev pub HearsAll : (before : Listener) → List (Option ℕ) → (after : Listener) → Type 0
HearsAll before [] after = after ≡ before
HearsAll before (answer ∷ answers) after = (between : Listener) × Hears before answer between × HearsAll between answers after

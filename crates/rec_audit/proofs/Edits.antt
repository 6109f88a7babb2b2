-- Steps of loops over lists and sets.
use Rattle.std.proofs.Common.{◌≡◌, Bool, true, false, ◌||◌, refl, sym, ap, ◌∙◌}

-- a test that was passed so far, or is now
pub or_more : (n a b d e x : Bool) → a ≡ (b || d) → n ≡ (a || x) → e ≡ (d || x) → n ≡ (b || e)
or_more n a true d e x p q r = q ∙ ap (λ t. t || x) p
or_more n a false d e x p q r = q ∙ ap (λ t. t || x) p ∙ sym r

pub or_none : (b : Bool) → b ≡ (b || false)
or_none true = refl
or_none false = refl

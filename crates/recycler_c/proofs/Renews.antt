-- A heap at rest that didn't begin anew.
use Rattle.std.proofs.Common.{◌≡◌, ℕ, Option, sym, subst}
use Rattle.rec_image.specs.declared.error.RenewError.{RenewError}
use Rattle.rec_image.specs.declared.error.RenewError.TheVariants as renewals
use Rattle.recycler_c.specs.Calls.{HasNotRenewed, Renews}
use Rattle.recycler_c.specs.Codes.{renewal_code}
use Rattle.recycler_c.specs.declared.code.Code.{Code}
use Rattle.recycler_c.specs.declared.end.End.{End}

-- each cause has its code
pub not_renewed : (slots : ℕ) (h h' : Option End) (error : RenewError) (code : Code) → HasNotRenewed slots h error → h' ≡ h → code ≡ renewal_code error → Renews slots h code h'
not_renewed slots h h' renewals.Slots code cause same is = subst (λ (x : Code). Renews slots h x h') (sym is) (cause, same)
not_renewed slots h h' renewals.FewSlots code cause same is = subst (λ (x : Code). Renews slots h x h') (sym is) (cause, same)
not_renewed slots h h' renewals.NoMemory code cause same is = subst (λ (x : Code). Renews slots h x h') (sym is) (cause, same)

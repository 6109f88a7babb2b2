-- The machine value of an owner of a box, and what it owns. Assumes `Logic`.
use Rattle.std.proofs.Common.{◌≡◌, List, [], ◌∷◌, ◌++◌, refl, sym, subst}
use lib.Dec.{T}
use seplogic.Ra.Ura.{Ura}
use mir.Val.{Val, vstruct, vcons, vnil, of_list}
use types.Logic.{Logic}
use types.Kit.{Item, Goal, Seq, Step, step, ‵, ◌$◌, drop, fsplit, fjoin, fpick, fpack, feq_i, feq_l}
use denote.RattleType.{Valss}
use denote.Builtin.{RawPtr}
use denote.RawPtr.{Ptr, ptr_val}
use denote.Steps.{nothing}
use denote.Struct.Struct.{within}
use denote.Struct.Owning.{shape}
use Rattle.std.specs.Prelude.{IsSome}
use Rattle.std.specs.declared.option.Option.{Option}
use Rattle.std.specs.declared.option.Option.TheVariants.{None, Some}
use Rattle.recycler_c.specs.declared.end.End.{End}
use Rattle.recycler_c.specs.declared.owned.Owned.{Owned}
use Rattle.recycler_c.specs.contracts.owned.Owned as owned
use Rattle.recycler_c.specs.Boxed.{boxed}

abbrev pub held_in : Ptr → Val
held_in p = vstruct (vcons (ptr_val p) vnil)

pub found : (h : Option End) → IsSome h → (x : End) × (h ≡ Some x)
found None s = absurd (subst T (sym s) tt)
found (Some x) s = (x, refl)

module _ {M : Type 1} {𝓤 : Ura M} {𝓛 : Logic 𝓤} {K : Type 0} {Γ : List (Item 𝓤)} {G : Goal 𝓤 𝓛.H} where
  pub owned_out : K → (d : Owned) (vs : List Val)
      → (vs ≡ held_in d.at ∷ [] → Seq K 𝓛 (‵ (boxed d.at d.held) ∷ Γ) G)
      → Seq K 𝓛 (‵ (owned.the_row.own_val d vs) ∷ Γ) G
  owned_out t d vs k =
      fsplit t $ fpick t (λ vss. fsplit t $ feq_l t (λ ev. fsplit t $ feq_l t (λ ep. drop t $
      k (subst (λ (ps : List Val). vs ≡ vstruct (of_list (ps ++ [])) ∷ []) ep ev))))

  pub owned_in : K → (p : Ptr) (x : Option End)
      → Step K 𝓛 (‵ (owned.the_row.own_val (record { at = p; held = x }) (held_in p ∷ [])) ∷ Γ) G (‵ (boxed p x) ∷ Γ) G
  owned_in t p x = step (λ s.
      nothing t $ feq_i t (List Val) (ptr_val p ∷ []) (ptr_val p ∷ []) refl $ fjoin t $ feq_i t (List Val) (held_in p ∷ []) (held_in p ∷ []) refl $ fjoin t $
      fpack t (Valss (RawPtr ∷ [])) (within (shape owned.the_type) (p, tt) (held_in p ∷ [])) (ptr_val p ∷ [], tt) $ fjoin t $ s)

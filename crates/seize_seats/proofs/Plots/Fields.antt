-- How rows and rights are stored: a row is one address, and a right has no bytes.
use Rattle.std.proofs.Common.{T, ◌≡◌, List, [], ◌∷◌, ◌++◌, refl, ap, ◌∙◌}
use mir.Syntax.{ty_ptr, ty_struct, tcons, tnil}
use mir.Val.{Val, vstruct, vcons, vnil, of_list, has_ty, WT}
use seplogic.Ra.Ura.{Ura}
use base.Logic.{ent, emp}
use types.Logic.{Logic, sem}
use denote.Shadow.{makes_shadow}
use denote.RattleType.{RattleType}
use denote.RawPtr.{Ptr, block_ptr, null_ptr, ptr_val}
use denote.Laws.{Is}
use denote.Struct.Struct.{Struct}
use denote.Struct.Owning.{shape}
use Rattle.core.proofs.atomic.Steps.{Ptr-Good}
use Rattle.std.specs.contracts.marker.PhantomData as marker
use Rattle.seize_seats.specs.contracts.row.Row as row

-- what has no bytes
abbrev pub token : Val
token = vstruct (vcons (vstruct vnil) vnil)

-- what is known of a strip, or a right to its block, which has no bytes
module _ (X : RattleType) where
  abbrev pub Mark : RattleType
  Mark = Struct record { name = []; args = []; types = []; fields = marker.the_row X ∷ [] }

  pub mark_told : (vs : List Val) → Is Mark (record {}, tt) vs → vs ≡ token ∷ []
  mark_told vs is = is.1.0 ∙ ap (λ (ws : List Val). vstruct (of_list (ws ++ [])) ∷ []) is.1.1.0.1.0

  pub mark_made : {M : Type 1} {𝓤 : Ura M} (𝓛 : Logic 𝓤) → ent 𝓤 (emp 𝓤) (sem 𝓛 (Mark.own_val (record {}, tt) (token ∷ [])))
  mark_made 𝓛 = makes_shadow 𝓛 (Mark.own_val (record {}, tt) (token ∷ [])) (λ vss. (tt, ((λ uss. (tt, tt)), tt))) (
    (vstruct vnil ∷ [], tt),
    (
      refl,
      (
        (
          tt,
          (
            refl,
            tt,
          ),
        ),
        tt,
      ),
    ),
  )

-- an address alone
abbrev pub one_of : Ptr → Val
one_of p = vstruct (vcons (ptr_val p) vnil)

module _ (R : RattleType) where
  abbrev pub Places : RattleType
  Places = Struct (shape (row.the_type R))

  pub places_told : (p : Ptr) (vs : List Val) → Is Places (p, tt) vs → vs ≡ one_of p ∷ []
  places_told p vs is = is.1.0 ∙ ap (λ (ws : List Val). vstruct (of_list (ws ++ [])) ∷ []) is.1.1.0

  pub places_made : {M : Type 1} {𝓤 : Ura M} (𝓛 : Logic 𝓤) (p : Ptr) → ent 𝓤 (emp 𝓤) (sem 𝓛 (Places.own_val (p, tt) (one_of p ∷ [])))
  places_made 𝓛 p = makes_shadow 𝓛 (Places.own_val (p, tt) (one_of p ∷ [])) (λ vss. (tt, (tt, tt))) ((ptr_val p ∷ [], tt), (refl, (refl, tt)))

-- each of these is stored as its type says
pub one_good : (p : Ptr) → T (has_ty (ty_struct [] (tcons ty_ptr tnil)) (one_of p)) × WT (one_of p)
one_good (block_ptr b o) = (tt, (tt, tt))
one_good null_ptr = (tt, ((Ptr-Good null_ptr).1, tt))

-- How a piece and a frame are stored: a piece is one address, and a frame has no bytes.
use Rattle.std.proofs.Common.{T, ◌≡◌, List, [], ◌∷◌, ◌++◌, refl, ap, ◌∙◌}
use mir.Syntax.{ty_ptr, ty_struct, tcons, tnil}
use mir.Val.{Val, vstruct, vcons, vnil, of_list, has_ty, WT}
use seplogic.Ra.Ura.{Ura}
use base.Logic.{ent, emp, sep}
use types.Logic.{Logic, sem}
use types.Kit.{‵, ◌$◌, ◌∵◌, !, qed, move, fjoin, fpack, feq_i, done}
use denote.Steps.{nothing}
use denote.Struct.Declared.{shape as declared}
use denote.Struct.Tuple.{Tuple, tuple_type}
use denote.Shadow.{makes_shadow}
use denote.RattleType.{RattleType, Valss}
use denote.RawPtr.{Ptr, block_ptr, null_ptr, ptr_val}
use denote.Laws.{Is}
use denote.Struct.Struct.{Struct, within}
use denote.Struct.Owning.{shape}
use Rattle.core.proofs.atomic.Steps.{Ptr-Good}
use Rattle.core.specs.declared.alloc.Allocator.{Ghosts}
use Rattle.seize_words.specs.contracts.room.Room as room
use Rattle.seize_words.specs.contracts.room.Frame as frame

-- an address and no more
abbrev pub hand_of : Ptr → Val
hand_of p = vstruct (vcons (ptr_val p) (vcons (vstruct vnil) vnil))

-- no bytes
abbrev pub token : Val
token = vstruct (vcons (vstruct vnil) vnil)

module _ (R W Z : RattleType) (g : Ghosts Z.Denot) where
  abbrev pub RoomData : RattleType
  RoomData = Struct (shape (room.the_type R W Z g))

  pub room_told : (p : Ptr) (vs : List Val) → Is RoomData (p, (tt, tt)) vs → vs ≡ hand_of p ∷ []
  room_told p vs is = is.1.0 ∙ ap (λ (ws : List Val). vstruct (of_list (ws ++ (is.0.1.0 ++ []))) ∷
      []) is.1.1.0 ∙ ap (λ (ws : List Val). vstruct (of_list (ptr_val p ∷ (ws ++ []))) ∷ []) is.1.1.1.0.1.0

  pub room_made : {M : Type 1} {𝓤 : Ura M} (𝓛 : Logic 𝓤) (p : Ptr) → ent 𝓤 (emp 𝓤) (sem 𝓛 (RoomData.own_val (p, (tt, tt)) (hand_of p ∷ [])))
  room_made 𝓛 p = makes_shadow 𝓛 (RoomData.own_val (p, (tt, tt)) (hand_of p ∷ [])) (λ vss. (tt, (tt, ((λ uss. (tt, tt)), tt)))) (
    (ptr_val p ∷ [], (vstruct vnil ∷ [], tt)),
    (refl, (refl, ((tt, (refl, tt)), tt))),
  )

  abbrev pub FrameData : RattleType
  FrameData = Struct (shape (frame.the_type R W Z g))

  pub frame_made : {M : Type 1} {𝓤 : Ura M} (𝓛 : Logic 𝓤) → ent 𝓤 (emp 𝓤) (sem 𝓛 (FrameData.own_val (tt, tt) (token ∷ [])))
  frame_made 𝓛 = makes_shadow 𝓛 (FrameData.own_val (tt, tt) (token ∷ [])) (λ vss. (tt, ((λ uss. (tt, tt)), tt))) (
    (vstruct vnil ∷ [], tt),
    (refl, ((tt, (refl, tt)), tt)),
  )

  pub frame_told : (vs : List Val) → Is FrameData (tt, tt) vs → vs ≡ token ∷ []
  frame_told vs is = is.1.0 ∙ ap (λ (ws : List Val). vstruct (of_list (ws ++ [])) ∷ []) is.1.1.0.1.0

-- three parts of a tuple
abbrev pub three_val : Val → Val → Val → Val
three_val u v w = vstruct (vcons u (vcons v (vcons w vnil)))

pub three_of : {M : Type 1} {𝓤 : Ura M} (𝓛 : Logic 𝓤) (A B C : RattleType) (x : A.Denot) (y : B.Denot) (z : C.Denot) (u v w : Val)
    → ent 𝓤 (sep 𝓤 (sem 𝓛 (A.own_val x (u ∷ []))) (sep 𝓤 (sem 𝓛 (B.own_val y (v ∷ []))) (sem 𝓛 (C.own_val z (w ∷ [])))))
    (sem 𝓛 ((Tuple (A ∷ B ∷ C ∷ [])).own_val (x, y, z) (three_val u v w ∷ [])))
three_of 𝓛 A B C x y z u v w =
    qed 𝓛 (‵ (A.own_val x (u ∷ [])) ∷ ‵ (B.own_val y (v ∷ [])) ∷ ‵ (C.own_val z (w ∷ [])) ∷ []) ∵ nothing ! $ move ! (3 ∷ 0 ∷ []) $ fjoin ! $ move ! (2 ∷ 0 ∷ []) $
    fjoin ! $ move ! (1 ∷ 0 ∷ []) $ fjoin ! $ feq_i ! (List Val) (three_val u v w ∷ []) (three_val u v w ∷ []) refl $ fjoin ! $
    fpack ! (Valss (A ∷ B ∷ C ∷ [])) (within (declared (tuple_type (A ∷ B ∷ C ∷ []))) (x, (y, (z, tt))) (three_val u v w ∷ [])) (u ∷ [], (v ∷ [], (w ∷ [], tt))) $ done !

pub hand_good : (p : Ptr) → T (has_ty (ty_struct [] (tcons ty_ptr (tcons (ty_struct [] tnil) tnil))) (hand_of p)) × WT (hand_of p)
hand_good (block_ptr b o) = (tt, (tt, (tt, tt)))
hand_good null_ptr = (tt, ((Ptr-Good null_ptr).1, (tt, tt)))

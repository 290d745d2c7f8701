-- How the words and a seat are stored: the words are one address, and a seat has no bytes.
use Rattle.std.proofs.Common.{T, ◌≡◌, ℕ, ◌<◌, ◌^◌, List, [], ◌∷◌, ◌++◌, refl, ap, ◌∙◌, w64}
use mir.Syntax.{ty_ptr, ty_struct, tcons, tnil}
use mir.Val.{Val, vint, vstruct, vcons, vnil, of_list, has_ty, WT}
use seplogic.Ra.Ura.{Ura}
use base.Logic.{ent, emp}
use types.Logic.{Logic, sem}
use types.Kit.{◌$◌, ◌∵◌, !, qed, by, fjoin, fpack, feq_i, flt_i, done}
use denote.Shadow.{makes_shadow}
use denote.RattleType.{RattleType, Valss}
use denote.Builtin.{u64, RawPtr}
use denote.Param.{layout}
use Rattle.core.specs.declared.result.Result.TheVariants.{Ok, Err}
use Rattle.core.proofs.once.Made.{ok_of, err_of}
use Rattle.std.proofs.raw_atomic.PtrCalls.{Answer, answer_val, answer_good}
use denote.Steps.{nothing}
use denote.RawPtr.{Ptr, block_ptr, null_ptr, ptr_val}
use denote.Laws.{Is}
use denote.Opens.{Opens}
use denote.Copied.{Struct-Copied}
use denote.Param.Laws.{Laws, of_field}
use denote.Param.Shared.{copy_shared}
use denote.Struct.Field.{u64-field}
use denote.Struct.Laws.{RawPtr-copy, field_copy, u64-laws, u64-copy}
use denote.Struct.Struct.{Struct, within}
use denote.Struct.Owning.{shape}
use denote.Struct.Tuple.{Tuple}
use Rattle.core.proofs.atomic.Steps.{Ptr-Good}
use Rattle.std.specs.contracts.marker.PhantomData as marker
use Rattle.seize_atoms.specs.declared.rule.Rule.{Ghosts}
use Rattle.seize_atoms.specs.contracts.words.StripWords as words
use Rattle.seize_atoms.specs.contracts.seat.Seat as seat
pub use Rattle.seize_seats.proofs.Plots.Fields.{token, Mark, mark_told, mark_made, one_of, Places, places_told, places_made, one_good}
use Rattle.seize_atoms.specs.contracts.claim.Claim as claim
use Rattle.seize_atoms.specs.contracts.strip.Strip as strip
use Rattle.seize_seats.specs.contracts.place.ValuePlaces as place
use Rattle.seize_seats.specs.contracts.place.Doors as doors
use Rattle.seize_seats.specs.contracts.place.Address as address
use Rattle.seize_words.proofs.OneMemory.Stored.{hand_of}

pub word_laws : Laws u64
word_laws = of_field u64-field u64-laws refl (copy_shared u64-field u64-copy)

module _ (X R V F : RattleType) (g : Ghosts R.Denot X.Denot V.Denot F.Denot) where
  abbrev pub Data : RattleType
  Data = Struct (shape (words.the_type X R V F g))

  pub told : (p : Ptr) (vs : List Val) → Is Data (p, (tt, tt)) vs → vs ≡ hand_of p ∷ []
  told p vs is = is.1.0 ∙ ap (λ (ws : List Val). vstruct (of_list (ws ++ (is.0.1.0 ++ []))) ∷
      []) is.1.1.0 ∙ ap (λ (ws : List Val). vstruct (of_list (ptr_val p ∷ (ws ++ []))) ∷ []) is.1.1.1.0.1.0

  pub opened : {M : Type 1} {𝓤 : Ura M} (𝓛 : Logic 𝓤) → Opens 𝓛 Data
  opened {M} {𝓤 = 𝓤} 𝓛 = (Struct-Copied 𝓛 (shape (words.the_type X R V F g)) (refl, (refl, tt)) (
    RawPtr-copy.copied M 𝓤 𝓛,
    ((field_copy (marker.the_type (Tuple (X ∷ R ∷ []))) tt).copied M 𝓤 𝓛, tt),
  )).opens

module _ (X R V F : RattleType) (g : Ghosts R.Denot X.Denot V.Denot F.Denot) where
  abbrev pub Token : RattleType
  Token = Struct (shape (seat.the_type X R V F g))

  pub token_made : {M : Type 1} {𝓤 : Ura M} (𝓛 : Logic 𝓤) → ent 𝓤 (emp 𝓤) (sem 𝓛 (Token.own_val (tt, tt) (token ∷ [])))
  token_made 𝓛 = makes_shadow 𝓛 (Token.own_val (tt, tt) (token ∷ [])) (λ vss. (tt, ((λ uss. (tt, tt)), tt))) (
    (vstruct vnil ∷ [], tt),
    (
      refl,
      (
        (
          tt,
          (
            refl,
            tt,
          ),
        ),
        tt,
      ),
    ),
  )

closed_typed : (p q r : Ptr)
    → T (has_ty (ty_struct [] (tcons (ty_struct [] (tcons ty_ptr tnil)) (tcons (ty_struct [] (tcons ty_ptr tnil)) (tcons (ty_struct [] (tcons ty_ptr tnil))
    (tcons (ty_struct [] (tcons (ty_struct [] tnil) tnil)) (tcons (ty_struct [] (tcons (ty_struct [] tnil) tnil)) (tcons (ty_struct [] (tcons (ty_struct [] tnil) tnil)) tnil)))))))
    (vstruct (vcons (one_of p) (vcons (one_of q) (vcons (one_of r) (vcons token (vcons token (vcons token vnil))))))))
closed_typed (block_ptr b o) (block_ptr c u) (block_ptr d v) = tt
closed_typed (block_ptr b o) (block_ptr c u) null_ptr = tt
closed_typed (block_ptr b o) null_ptr (block_ptr d v) = tt
closed_typed (block_ptr b o) null_ptr null_ptr = tt
closed_typed null_ptr (block_ptr c u) (block_ptr d v) = tt
closed_typed null_ptr (block_ptr c u) null_ptr = tt
closed_typed null_ptr null_ptr (block_ptr d v) = tt
closed_typed null_ptr null_ptr null_ptr = tt

pub closed_good : (p q r : Ptr)
    → T (has_ty (ty_struct [] (tcons (ty_struct [] (tcons ty_ptr tnil)) (tcons (ty_struct [] (tcons ty_ptr tnil)) (tcons (ty_struct [] (tcons ty_ptr tnil))
    (tcons (ty_struct [] (tcons (ty_struct [] tnil) tnil)) (tcons (ty_struct [] (tcons (ty_struct [] tnil) tnil)) (tcons (ty_struct [] (tcons (ty_struct [] tnil) tnil)) tnil)))))))
    (vstruct (vcons (one_of p) (vcons (one_of q) (vcons (one_of r) (vcons token (vcons token (vcons token vnil))))))))
    × WT (vstruct (vcons (one_of p) (vcons (one_of q) (vcons (one_of r) (vcons token (vcons token (vcons token vnil)))))))
closed_good p q r = (closed_typed p q r, ((one_good p).1, ((one_good q).1, ((one_good r).1, ((tt, tt), ((tt, tt), ((tt, tt), tt)))))))

opened_typed : (p q r : Ptr)
    → T (has_ty (ty_struct [] (tcons (ty_struct [] (tcons ty_ptr (tcons (ty_struct [] tnil) tnil))) (tcons (ty_struct [] (tcons ty_ptr tnil)) (tcons (ty_struct [] (tcons ty_ptr tnil)) tnil))))
    (vstruct (vcons (hand_of p) (vcons (one_of q) (vcons (one_of r) vnil)))))
opened_typed (block_ptr b o) (block_ptr c u) (block_ptr d v) = tt
opened_typed (block_ptr b o) (block_ptr c u) null_ptr = tt
opened_typed (block_ptr b o) null_ptr (block_ptr d v) = tt
opened_typed (block_ptr b o) null_ptr null_ptr = tt
opened_typed null_ptr (block_ptr c u) (block_ptr d v) = tt
opened_typed null_ptr (block_ptr c u) null_ptr = tt
opened_typed null_ptr null_ptr (block_ptr d v) = tt
opened_typed null_ptr null_ptr null_ptr = tt

pub hand_good : (p : Ptr) → T (has_ty (ty_struct [] (tcons ty_ptr (tcons (ty_struct [] tnil) tnil))) (hand_of p)) × WT (hand_of p)
hand_good (block_ptr b o) = (tt, (tt, (tt, tt)))
hand_good null_ptr = (tt, ((Ptr-Good null_ptr).1, (tt, tt)))

had_typed : (p : Ptr)
    → T (has_ty (ty_struct [] (tcons (ty_struct [] (tcons ty_ptr (tcons (ty_struct [] tnil) tnil))) (tcons (ty_struct [] (tcons (ty_struct [] tnil) tnil)) tnil)))
    (vstruct (vcons (hand_of p) (vcons token vnil))))
had_typed (block_ptr b o) = tt
had_typed null_ptr = tt

-- the words with a seat
pub had_good : (p : Ptr)
    → T (has_ty (ty_struct [] (tcons (ty_struct [] (tcons ty_ptr (tcons (ty_struct [] tnil) tnil))) (tcons (ty_struct [] (tcons (ty_struct [] tnil) tnil)) tnil)))
    (vstruct (vcons (hand_of p) (vcons token vnil)))) × WT (vstruct (vcons (hand_of p) (vcons token vnil)))
had_good p = (had_typed p, ((hand_good p).1, ((tt, tt), tt)))

module _ (X R V F : RattleType) (g : Ghosts R.Denot X.Denot V.Denot F.Denot) where
  pub hand_made : {M : Type 1} {𝓤 : Ura M} (𝓛 : Logic 𝓤) (p : Ptr) → ent 𝓤 (emp 𝓤) (sem 𝓛 ((Data X R V F g).own_val (p, (tt, tt)) (hand_of p ∷ [])))
  hand_made 𝓛 p = makes_shadow 𝓛 ((Data X R V F g).own_val (p, (tt, tt)) (hand_of p ∷ [])) (λ vss. (tt, (tt, ((λ uss. (tt, tt)), tt)))) (
    (
      ptr_val p ∷ [],
      (vstruct vnil ∷ [], tt),
    ),
    (refl, (refl, ((tt, (refl, tt)), tt))),
  )

-- the address of the words of a strip
module _ (R : RattleType) where
  abbrev pub StripData : RattleType
  StripData = Struct (shape (strip.the_type R))

  pub strip_data_told : (p : Ptr) (vs : List Val) → Is StripData (p, (tt, tt)) vs → vs ≡ hand_of p ∷ []
  strip_data_told p vs is = is.1.0 ∙ ap (λ (ws : List Val). vstruct (of_list (ws ++ (is.0.1.0 ++ []))) ∷
      []) is.1.1.0 ∙ ap (λ (ws : List Val). vstruct (of_list (ptr_val p ∷ (ws ++ []))) ∷ []) is.1.1.1.0.1.0

  pub strip_opened : {M : Type 1} {𝓤 : Ura M} (𝓛 : Logic 𝓤) → Opens 𝓛 StripData
  strip_opened {M} {𝓤 = 𝓤} 𝓛 = (Struct-Copied 𝓛 (shape (strip.the_type R)) (refl, (refl, tt)) (
    RawPtr-copy.copied M 𝓤 𝓛,
    ((field_copy (marker.the_type R) tt).copied M 𝓤 𝓛, tt),
  )).opens

pub strip_made : {M : Type 1} {𝓤 : Ura M} (𝓛 : Logic 𝓤) (R : RattleType) (p : Ptr) → ent 𝓤 (emp 𝓤) (sem 𝓛 ((StripData R).own_val (p, (tt, tt)) (hand_of p ∷ [])))
strip_made 𝓛 R p = makes_shadow 𝓛 ((StripData R).own_val (p, (tt, tt)) (hand_of p ∷ [])) (λ vss. (tt, (tt, ((λ uss. (tt, tt)), tt)))) (
  (
    ptr_val p ∷ [],
    (vstruct vnil ∷ [], tt),
  ),
  (refl, (refl, ((tt, (refl, tt)), tt))),
)

pub opened_good : (p q r : Ptr)
    → T (has_ty (ty_struct [] (tcons (ty_struct [] (tcons ty_ptr (tcons (ty_struct [] tnil) tnil))) (tcons (ty_struct [] (tcons ty_ptr tnil)) (tcons (ty_struct [] (tcons ty_ptr tnil)) tnil))))
    (vstruct (vcons (hand_of p) (vcons (one_of q) (vcons (one_of r) vnil))))) × WT (vstruct (vcons (hand_of p) (vcons (one_of q) (vcons (one_of r) vnil))))
opened_good p q r = (opened_typed p q r, ((hand_good p).1, ((one_good q).1, ((one_good r).1, tt))))

-- a strip with an address
room_typed : (p q : Ptr)
    → T (has_ty (ty_struct [] (tcons (ty_struct [] (tcons ty_ptr (tcons (ty_struct [] tnil) tnil))) (tcons (ty_struct [] (tcons ty_ptr tnil)) tnil)))
    (vstruct (vcons (hand_of p) (vcons (one_of q) vnil))))
room_typed (block_ptr b o) (block_ptr c u) = tt
room_typed (block_ptr b o) null_ptr = tt
room_typed null_ptr (block_ptr c u) = tt
room_typed null_ptr null_ptr = tt

pub found_room_good : (p q : Ptr)
    → T (has_ty (ty_struct [] (tcons (ty_struct [] (tcons ty_ptr (tcons (ty_struct [] tnil) tnil))) (tcons (ty_struct [] (tcons ty_ptr tnil)) tnil)))
    (vstruct (vcons (hand_of p) (vcons (one_of q) vnil)))) × WT (vstruct (vcons (hand_of p) (vcons (one_of q) vnil)))
found_room_good p q = (room_typed p q, ((hand_good p).1, ((one_good q).1, tt)))

pub doors_made : {M : Type 1} {𝓤 : Ura M} (𝓛 : Logic 𝓤) (p : Ptr) → ent 𝓤 (emp 𝓤) (sem 𝓛 (doors.the_row.own_val record { at = p } (one_of p ∷ [])))
doors_made 𝓛 p = makes_shadow 𝓛 (doors.the_row.own_val record { at = p } (one_of p ∷ [])) (λ vss. (tt, (tt, tt))) ((ptr_val p ∷ [], tt), (refl, (refl, tt)))

pub address_made : {M : Type 1} {𝓤 : Ura M} (𝓛 : Logic 𝓤) (p : Ptr) → ent 𝓤 (emp 𝓤) (sem 𝓛 (address.the_row.own_val record { at = p } (one_of p ∷ [])))
address_made 𝓛 p = makes_shadow 𝓛 (address.the_row.own_val record { at = p } (one_of p ∷ [])) (λ vss. (tt, (tt, tt))) ((ptr_val p ∷ [], tt), (refl, (refl, tt)))

-- what an attempt to claim a number found
abbrev pub claim_of : ℕ → Val
claim_of n = vstruct (vcons (vint w64 n) vnil)

abbrev pub ClaimData : RattleType
ClaimData = Struct (shape claim.the_type)

pub claim_told : (n : ℕ) (vs : List Val) → Is ClaimData (n, tt) vs → (vs ≡ claim_of n ∷ []) × (n < 2 ^ 64)
claim_told n vs is = (is.1.0 ∙ ap (λ (ws : List Val). vstruct (of_list (ws ++ [])) ∷ []) is.1.1.0.0, is.1.1.0.1)

pub claim_made : {M : Type 1} {𝓤 : Ura M} (𝓛 : Logic 𝓤) (n : ℕ) → n < 2 ^ 64 → ent 𝓤 (emp 𝓤) (sem 𝓛 (ClaimData.own_val (n, tt) (claim_of n ∷ [])))
claim_made 𝓛 n fits = qed 𝓛 [] ∵ nothing ! $ flt_i ! n (2 ^ 64) fits $ feq_i ! (List Val) (vint w64 n ∷ []) (vint w64 n ∷ []) refl $ fjoin ! $ fjoin ! $
    feq_i ! (List Val) (claim_of n ∷ []) (claim_of n ∷ []) refl $ fjoin ! $
    fpack ! (Valss (u64 ∷ [])) (within (shape claim.the_type) (n, tt) (claim_of n ∷ [])) (vint w64 n ∷ [], tt) $ done !

-- the address of the places
module _ (R : RattleType) where
  pub place_made : {M : Type 1} {𝓤 : Ura M} (𝓛 : Logic 𝓤) (p : Ptr) → ent 𝓤 (emp 𝓤) (sem 𝓛 ((place.the_row R).own_val record { at = p } (one_of p ∷ [])))
  place_made 𝓛 p = makes_shadow 𝓛 ((place.the_row R).own_val record { at = p } (one_of p ∷ [])) (λ vss. (tt, (tt, tt))) ((ptr_val p ∷ [], tt), (refl, (refl, tt)))

-- what an exchange of addresses found, with an address and what is known of a strip
pub found_good : (r : Answer.Denot) (b o : ℕ)
    → T (has_ty (ty_struct [] (tcons (layout Answer) (tcons (ty_struct [] (tcons ty_ptr tnil)) (tcons (ty_struct [] (tcons (ty_struct [] tnil) tnil)) tnil))))
    (vstruct (vcons (answer_val r) (vcons (one_of (block_ptr b o)) (vcons token vnil)))))
    × WT (vstruct (vcons (answer_val r) (vcons (one_of (block_ptr b o)) (vcons token vnil))))
found_good (Ok (block_ptr c u)) b o = (tt, ((answer_good (Ok (block_ptr c u))).1, ((tt, tt), ((tt, tt), tt))))
found_good (Ok null_ptr) b o = (tt, ((answer_good (Ok null_ptr)).1, ((tt, tt), ((tt, tt), tt))))
found_good (Err (block_ptr c u)) b o = (tt, ((answer_good (Err (block_ptr c u))).1, ((tt, tt), ((tt, tt), tt))))
found_good (Err null_ptr) b o = (tt, ((answer_good (Err null_ptr)).1, ((tt, tt), ((tt, tt), tt))))

-- what an exchange of addresses found, with words that come back
pub offered_good : (r : Answer.Denot)
    → T (has_ty (ty_struct [] (tcons (layout Answer) (tcons (ty_struct [] (tcons (ty_struct [] tnil) tnil)) tnil))) (vstruct (vcons (answer_val r) (vcons token vnil))))
    × WT (vstruct (vcons (answer_val r) (vcons token vnil)))
offered_good (Ok (block_ptr c u)) = (tt, ((answer_good (Ok (block_ptr c u))).1, ((tt, tt), tt)))
offered_good (Ok null_ptr) = (tt, ((answer_good (Ok null_ptr)).1, ((tt, tt), tt)))
offered_good (Err (block_ptr c u)) = (tt, ((answer_good (Err (block_ptr c u))).1, ((tt, tt), tt)))
offered_good (Err null_ptr) = (tt, ((answer_good (Err null_ptr)).1, ((tt, tt), tt)))

pub answer_made : {M : Type 1} {𝓤 : Ura M} (𝓛 : Logic 𝓤) (r : Answer.Denot) → ent 𝓤 (emp 𝓤) (sem 𝓛 (Answer.own_val r (answer_val r ∷ [])))
answer_made 𝓛 (Ok p) = qed 𝓛 [] ∵ feq_i ! (List Val) (ptr_val p ∷ []) (ptr_val p ∷ []) refl $ by ! (ok_of 𝓛 RawPtr RawPtr p (ptr_val p))
answer_made 𝓛 (Err p) = qed 𝓛 [] ∵ feq_i ! (List Val) (ptr_val p ∷ []) (ptr_val p ∷ []) refl $ by ! (err_of 𝓛 RawPtr RawPtr p (ptr_val p))

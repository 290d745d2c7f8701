-- What a `&` to the words shows: the invariant, and that the words are lent on. Assumes `Logic`.
use Rattle.std.proofs.Common.{◌≡◌, ℕ, [], ◌∷◌, refl}
use seplogic.Ra.Ura.{Ura}
use base.Fraction.{full_share}
use base.Stored.{Coded}
use base.Logic.{ent, sep, snd∗, guard}
use base.Fml.{Lft, Share, Fml, ftrue, fsep, flft, flent}
use types.Logic.{Logic, sem}
use types.Kit.{‵, ◌⊛◌, ◌$◌, ◌∵◌, !, qed, move, drop, split, fsplit, fjoin, fpick, fpack, check, use1, done}
use denote.RattleType.{RattleType}
use denote.RawPtr.{Ptr, block_ptr, null_ptr, InBlock}
use denote.Sharing.{ShrLaws, one, said, beside}
use denote.SharingLaws.{beside_shr_laws, one_shr_laws}
use denote.Steps.{nothing}
use denote.Struct.Lending.{Lends, Lends-both}
use Rattle.seize_seats.specs.Seats.Errands.{ViewCode}
use Rattle.seize_seats.specs.Seats.State.{State}
use types.Keyed.{ticket}
use Rattle.seize_seats.specs.Seats.Seen.{seen}
use Rattle.seize_seats.specs.Seats.Stretches.{IsOfSeat, seats_part, stretch, stretch_shared, seat_owns, seat_shares}
use Rattle.seize_seats.proofs.Seats.Views.Stretches as Stretches
use Rattle.seize_seats.proofs.Seats.Views.Known as Known
use Rattle.seize_seats.proofs.Seats.Views.Shares as Shares
use Rattle.seize_seats.specs.Seats.Owned.{Pieces, BaseId, age, core_of, IsPlaced, everything, told, common, is_listed, strip_there, strip_known, strip_owns, words_own, words_share}

module _ (R : RattleType) (own : Pieces R.Denot) {V W : Type 0} (cv : ViewCode V) (holds : State R.Denot V W → Type 0) (p : Ptr) (z : BaseId) where
  abbrev α : Lft
  α = age z

  abbrev I : Fml
  I = everything R own cv holds (core_of z)

  abbrev C : Fml
  C = common R own cv holds p z

  abbrev Φ : Share → Fml
  Φ q = flft α q

  -- where the words lie is told, and stays
  pub placed : {M : Type 1} {𝓤 : Ura M} (𝓛 : Logic 𝓤) → ent 𝓤 (sem 𝓛 C) (guard 𝓤 (IsPlaced R p z) (sem 𝓛 C))
  placed 𝓛 = qed 𝓛 (‵ C ∷ []) ∵ fsplit ! $ fpick ! (λ i. drop ! $ check ! i $ nothing ! $ fpack ! (IsPlaced R p z) (λ _. ftrue) i $ fjoin ! $ done !)

  twice : {M : Type 1} {𝓤 : Ura M} (𝓛 : Logic 𝓤) → ent 𝓤 (sem 𝓛 C) (sep 𝓤 (sem 𝓛 C) (sem 𝓛 C))
  twice 𝓛 = let Inv : Fml = told R own cv holds p z in qed 𝓛 (‵ C ∷ []) ∵ fsplit ! $ fpick ! (λ i. drop ! $
      use1 𝓛 (‵ Inv ⊛ ‵ Inv) (Known.twice 𝓛 R own cv holds p z) $ split ! $
      nothing ! $ fpack ! (IsPlaced R p z) (λ _. ftrue) i $ fjoin ! $ move ! (1 ∷ []) $ nothing ! $ fpack ! (IsPlaced R p z) (λ _. ftrue) i $ fjoin ! $ done !)

  pub words_laws : ShrLaws (words_share R own cv holds p z)
  words_laws = beside_shr_laws (one Φ) (said C) (one_shr_laws Φ) record {
    contraction = λ M 𝓤 𝓛 ν. twice 𝓛;
    mono =
        λ M 𝓤 𝓛 μ ν. snd∗ 𝓤 (sem 𝓛 (base.Before.before μ ν)) (sem 𝓛 C);
  }

  module _ {M : Type 1} {𝓤 : Ura M} (𝓛 : Logic 𝓤) (l : Lft) where
    open 𝓛 use {H, A}

    pub lends_words : Lends 𝓛 (words_own R own cv holds p z) (words_share R own cv holds p z) l
    lends_words = Lends-both 𝓛 (Φ full_share) (fsep C (flent α I)) (one Φ) (said C) l (Shares.cut 𝓛 l Φ full_share) (Shares.told 𝓛 l C (flent α I) (twice 𝓛))

-- what a `&` to a strip shows: that it is one of a memory's
pub told_there : (R : RattleType) (p : Ptr) (z : BaseId) → InBlock p → strip_known R p z ≡ strip_there R p z
told_there R null_ptr z there = absurd there
told_there R (block_ptr b o) z there = refl

strip_twice : (R : RattleType) (p : Ptr) (z : BaseId) {M : Type 1} {𝓤 : Ura M} (𝓛 : Logic 𝓤)
    → ent 𝓤 (sem 𝓛 (strip_known R p z)) (sep 𝓤 (sem 𝓛 (strip_known R p z)) (sem 𝓛 (strip_known R p z)))
strip_twice R null_ptr z 𝓛 = qed 𝓛 (‵ ftrue ∷ []) ∵ nothing ! $ done !
strip_twice R (block_ptr b o) z 𝓛 = let p : Ptr = block_ptr b o in let L : Fml = is_listed p z in
    qed 𝓛 (‵ (strip_there R p z) ∷ []) ∵ fsplit ! $ fpick ! (λ i. drop ! $ use1 𝓛 (‵ L ⊛ ‵ L) (Known.listed_twice 𝓛 p z) $ split ! $
    nothing ! $ fpack ! (IsPlaced R p z) (λ _. ftrue) i $ fjoin ! $ move ! (1 ∷ []) $ nothing ! $ fpack ! (IsPlaced R p z) (λ _. ftrue) i $ fjoin ! $ done !)

module _ (R : RattleType) (p : Ptr) (z : BaseId) where
  abbrev B : Fml
  B = strip_known R p z

  pub strip_laws : ShrLaws (said B)
  strip_laws = record {
    contraction = λ M 𝓤 𝓛 ν. strip_twice R p z 𝓛;
    mono =
        λ M 𝓤 𝓛 μ ν. snd∗ 𝓤 (sem 𝓛 (base.Before.before μ ν)) (sem 𝓛 B);
  }

  pub lends_strip : {M : Type 1} {𝓤 : Ura M} (𝓛 : Logic 𝓤) (l : Lft) → Lends 𝓛 (strip_owns R p z) (said B) l
  lends_strip 𝓛 l = Shares.told 𝓛 l B ftrue (strip_twice R p z 𝓛)

-- what a `&` to a seat shows: that its stretch lasts, its view, and its stretch
module _ {V : Type 0} (cv : Coded V) (γ id : ℕ) (v : V) (σ θ : ℕ) where
  abbrev Tok : Share → Fml
  Tok q = flft (σ ∷ []) q

  abbrev Vw : Share → Fml
  Vw q = seen cv.code γ q id v

  abbrev St : Fml
  St = stretch cv.code γ id v σ θ

  abbrev T : Fml
  T = stretch_shared cv.code γ id v σ θ

  rest_laws : ShrLaws (beside (one Vw) (said T))
  rest_laws = beside_shr_laws (one Vw) (said T) (one_shr_laws Vw) record {
    contraction = λ M 𝓤 𝓛 ν. Stretches.twice 𝓛 (IsOfSeat id) St;
    mono =
        λ M 𝓤 𝓛 μ ν. snd∗ 𝓤 (sem 𝓛 (base.Before.before μ ν)) (sem 𝓛 T);
  }

  pub seat_laws : ShrLaws (seat_shares cv.code γ id v σ θ)
  seat_laws = beside_shr_laws (one Tok) (beside (one Vw) (said T)) (one_shr_laws Tok) rest_laws

  pub lends_seat : {M : Type 1} {𝓤 : Ura M} (𝓛 : Logic 𝓤) (l : Lft) → Lends 𝓛 (seat_owns cv.code γ id v σ θ) (seat_shares cv.code γ id v σ θ) l
  lends_seat 𝓛 l = let X : Fml = fsep T (ticket θ 0) in
      Lends-both 𝓛 (Tok full_share) (fsep (Vw seats_part) X) (one Tok) (beside (one Vw) (said T)) l (Shares.cut 𝓛 l Tok full_share)
      (Lends-both 𝓛 (Vw seats_part) X (one Vw) (said T) l (Shares.cut 𝓛 l Vw seats_part) (Shares.told 𝓛 l T (ticket θ 0) (Stretches.twice 𝓛 (IsOfSeat id) St)))

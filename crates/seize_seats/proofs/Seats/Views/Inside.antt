-- A lifetime within another one: it begins by a part of that one's token, which comes back as it ends. Assumes `Logic`.
use Rattle.std.proofs.Common.{ℕ, [], ◌∷◌}
use seplogic.Ra.Ura.{Ura}
use base.Fraction.{full_share}
use base.FractionLaws.{common}
use base.Logic.{SProp, ent, sep, wand, ex, wand_i, apply∗}
use base.Fml.{Lft, Share, flft, fdead}
use contract.BorrowLft.{meet_⊑_left}
use types.Logic.{Logic}
use types.Kit.{‵, raw, ◌⊛◌, ◌$◌, ◌∵◌, !, qed, move, split, show, use1, use2, updating, now, done}
use types.Tokens.{lft_new, lft_end, lft-common}

module _ {M : Type 1} {𝓤 : Ura M} (𝓛 : Logic 𝓤) (κ : Lft) (q : Share) where
  open 𝓛 use {H, A}

  -- the token of the one within comes back for that of the other, and it is over
  abbrev pub Ends : ℕ → Share → SProp 𝓤
  Ends a r = wand 𝓤 (A.lft (a ∷ κ) r) (H.⇛ (sep 𝓤 (A.dead (a ∷ κ)) (A.lft κ q)))

  abbrev pub Inner : ℕ × Share → SProp 𝓤
  Inner u = sep 𝓤 (A.lft (u.0 ∷ κ) u.1) (Ends u.0 u.1)

  pub begins_within : ent 𝓤 (A.lft κ q) (H.⇛ (ex 𝓤 Inner))
  begins_within = qed 𝓛 (‵ (flft κ q) ∷ []) ∵ updating ! $ lft_new ! tt (λ a.
      let r : Share = (common full_share q).0 in let Two : SProp 𝓤 = sep 𝓤 (A.lft (a ∷ []) full_share) (A.lft κ q) in
      let Back : SProp 𝓤 = wand 𝓤 (A.lft (a ∷ κ) r) Two in
      use2 𝓛 (‵ (flft (a ∷ κ) r) ⊛ raw Back) (lft-common 𝓛 (a ∷ []) κ full_share q) $ split ! $ move ! (1 ∷ []) $
      use1 𝓛 (raw (Ends a r)) (wand_i 𝓤 Back (A.lft (a ∷ κ) r) _ (qed 𝓛 (raw Back ∷ ‵ (flft (a ∷ κ) r) ∷ []) ∵ updating ! $ move ! (1 ∷ 0 ∷ []) $
      use2 𝓛 (‵ (flft (a ∷ []) full_share) ⊛ ‵ (flft κ q)) (apply∗ 𝓤 (A.lft (a ∷ κ) r) Two) $ split ! $ lft_end ! tt $
      use1 𝓛 (‵ (fdead (a ∷ κ))) (𝓛.lfts.dead-incl (a ∷ κ) (a ∷ []) (meet_⊑_left (a ∷ []) κ)) $ now ! $ done !)) $
      now ! $ show ! Inner (a, r) $ move ! (1 ∷ 0 ∷ []) $ done !)

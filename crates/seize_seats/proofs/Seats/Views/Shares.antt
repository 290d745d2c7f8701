-- How a `&` is had of what is cut and joined, and of what may be told again. Assumes `Logic`.
use Rattle.std.proofs.Common.{[], ◌∷◌}
use seplogic.Ra.Ura.{Ura}
use base.Logic.{ent, sep, wand, apply∗}
use base.Fml.{Lft, Share, Fml, fsep, fbor, fshr_bor}
use types.Logic.{Logic, sem, lfts}
use types.Kit.{‵, raw, ◌⊛◌, later, ◌$◌, !, qed, move, drop, split, fsplit, fjoin, use1, use2, updating, await, now, done}
use types.Tokens.{bor_fracture}
use denote.Sharing.{one, said}
use denote.Struct.Lending.{Lends}

module _ {M : Type 1} {𝓤 : Ura M} (𝓛 : Logic 𝓤) (l : Lft) where
  open 𝓛 use {H, A}

  pub cut : (Φ : Share → Fml) (s : Share) → Lends 𝓛 (Φ s) (one Φ) l
  cut Φ s ν ts inc sp = qed 𝓛 (‵ (fbor ν (Φ s)) ∷ raw (lfts 𝓛 ts) ∷ []) {P = H.⇛ (sep 𝓤 (sem 𝓛 (fshr_bor ν Φ)) (lfts 𝓛 ts))} (updating ! $
      bor_fracture ! tt Φ s $ now ! $ done !)

  pub told : (C X : Fml) → ent 𝓤 (sem 𝓛 C) (sep 𝓤 (sem 𝓛 C) (sem 𝓛 C)) → Lends 𝓛 (fsep C X) (said C) l
  told C X twice ν ts inc sp = let P : Fml = fsep C X in let Back = H.⇛ (sep 𝓤 (A.bor ν P) (lfts 𝓛 ts)) in
      qed 𝓛 (‵ (fbor ν P) ∷ raw (lfts 𝓛 ts) ∷ []) {P = H.⇛ (sep 𝓤 (sem 𝓛 C) (lfts 𝓛 ts))} (
      updating ! $ use2 𝓛 (later (‵ P ⊛ raw (wand 𝓤 (sem 𝓛 P) Back))) (𝓛.more.bor_acc_by ν ts P sp) $ await ! tt $ split ! $ fsplit ! $
      use1 𝓛 (‵ C ⊛ ‵ C) twice $ split ! $ move ! (0 ∷ 2 ∷ []) $ fjoin ! $ move ! (0 ∷ 2 ∷ []) $
      use2 𝓛 (later (‵ (fbor ν P) ⊛ raw (lfts 𝓛 ts))) (apply∗ 𝓤 (sem 𝓛 P) Back) $ await ! tt $ split ! $ drop ! $ move ! (1 ∷ 0 ∷ []) $ now ! $ done !)

-- What is kept of a block lives as long as its value does, and as an argument it is spent. Assumes `Logic`.
use Rattle.std.proofs.Common.{ℕ, [], ◌∷◌, ◌++◌}
use seplogic.Ra.Ura.{Ura}
use base.Fml.{ftrue, Incl, Incl-refl}
use types.Logic.{Logic}
use types.Kit.{‵, ◌$◌, ◌∵◌, !, qed, fjoin, updating, now as at_once, done}
use contract.BorrowLft.{⊑_meet, ⊑_static}
use denote.Exit.{no}
use denote.RattleType.{RattleType}
use denote.Param.{param}
use denote.Signature.{plain}
use denote.Steps.{nothing}
use denote.Triple.Walked.{Goes, stay_dropped}
use Rattle.seize_seats.specs.contracts.kept.Kept as kept_of

pub kept_lives : (R : RattleType) → Incl R.lives (kept_of.the_row R).lives
kept_lives R = ⊑_meet R.lives (R.lives ++ []) (R.lives ++ []) one one
  where
    one : Incl R.lives (R.lives ++ [])
    one = ⊑_meet R.lives R.lives [] (Incl-refl R.lives) (⊑_static R.lives)

pub kept_goes : {M : Type 1} {𝓤 : Ura M} (𝓛 : Logic 𝓤) (n : ℕ) (X : RattleType) → Goes 𝓛 n (plain (λ _. kept_of.the_row (param 0 X))) no (stay_dropped (plain (λ _. kept_of.the_row (param 0 X))) no)
kept_goes 𝓛 n X κs x f vs ok = qed 𝓛 (‵ ftrue ∷ []) ∵ updating ! $ at_once ! $ nothing ! $ fjoin ! $ done !

-- A step without an operation of the one who reclaims all that rows have left, as one who acts alone takes it; and memories that are like one another.
use Rattle.std.specs.Prelude.{◌==◌, Option, Some, None, if◌then◌else◌}
use Rattle.std.proofs.lemmas.Bool.{eq-eqb, ne_eqb}
use Rattle.seize_words.specs.OneMemory.Op.{Op, Out}
use Rattle.seize.specs.declared.advance.Advance.{Advance}
use Rattle.seize.specs.declared.advance.Advance.TheVariants as progress
use Rattle.seize.specs.declared.rows.register.Register.{Register}
use Rattle.std.proofs.Common.{◌≡◌, ℕ, Bool, refl, sym, subst, ap, ◌∙◌}
use Rattle.seize_seats.specs.Seats.Owned.{BaseId, IsLike}
use Rattle.seize_seats.specs.Seats.State.{Turns}
use Rattle.seize_reclaims.specs.Empties.Asked.{HasSought, HasTold, HasPassed, OneTells, OneMayTurn}
use Rattle.seize_reclaims.specs.Renews.One.{HoldsOne, all_of_one, none_of_one, one_observed}
use Rattle.seize_reclaims.specs.Renews.Rule.{KeepsNone, begun_by, all_of, over_of}
use Rattle.seize_reclaims.specs.declared.alone.Alone.{Alone}
use Rattle.seize_reclaims.specs.declared.alone.Alone.TheVariants.{Registers, Reclaims}
use Rattle.seize_reclaims.proofs.Renews.One.{one_turns}
use Rattle.seize_words.proofs.General.{same_some}

-- what is like one that is like a third is like that
pub like_on : (x y z : BaseId) → IsLike x y → IsLike y z → IsLike x z
like_on x y z a b =
    (a.0 ∙ b.0, a.1 ∙ b.1, a.2 ∙ b.2, a.3 ∙ b.3, a.4 ∙ b.4, a.5 ∙ b.5, a.6 ∙ b.6, a.7 ∙ b.7, a.8 ∙ b.8, a.9 ∙ b.9, a.10 ∙ b.10, a.11 ∙ b.11, a.12 ∙ b.12, a.13 ∙ b.13, a.14 ∙ b.14)

module _ {T : Type 0} (defers : T → Option ℕ) (left_over : T → Bool) where
  abbrev acts : Alone T → Option (Alone T)
  acts v = Some v

  abbrev nothing : Alone T → Unit {0}
  nothing v = tt

  -- what an operation tells
  sought : (c d : Register) (size : ℕ) (o : Advance ℕ) (w : Alone T) → begun_by size (d, o) w → HasSought acts all_of_one none_of_one size (Registers c size) (d, o) w
  sought c d size (progress.Done t) w b = (None, b.0, ap Some b.1)
  sought c d size (progress.Refused fault) w b = (
    λ first. (None, b.0, ap Some (b.1 ∙ ap (λ (t : Bool). Reclaims (if t then over_of size else all_of size) None b.0) (eq-eqb d.slot 0 first))),
    λ later. (None, b.0, ap Some (b.1 ∙ ap (λ (t : Bool). Reclaims (if t then over_of size else all_of size) None b.0) (ne_eqb d.slot 0 later))),
  )
  sought c d size progress.Goes w b = (ap Some b, ap all_of_one b)
  sought c d size progress.Waits w b = (ap Some b, ap all_of_one b)

  tells : (v w : Alone T) (op : Op T) (out : Out T) → one_observed defers left_over v op out w → HasTold acts all_of_one none_of_one defers left_over v v op out w
  tells (Registers c size) w op out is = (is.0, is.1, sought c is.0.0 size is.0.1 w is.2)
  tells (Reclaims c seen left) w op out is = (w, refl, is)

  pub tells_so : OneTells acts all_of_one none_of_one defers left_over nothing (one_observed defers left_over)
  tells_so v w a op out e is = (subst (λ (x : Alone T). HasTold acts all_of_one none_of_one defers left_over v x op out w) (same_some v a e) (tells v w op out is), refl)

  pub turns_so : OneMayTurn acts defers left_over (HoldsOne defers left_over) KeepsNone nothing
  turns_so fixed id v c c2 told seen left word is on plan =
      subst (λ (x : Alone T). Turns (HoldsOne defers left_over fixed) KeepsNone id x (HasPassed acts defers left_over nothing x)) (sym (same_some v (Reclaims c seen left) is)) turns
    where
      turns : Turns (HoldsOne defers left_over fixed) KeepsNone id (Reclaims c seen left) (HasPassed acts defers left_over nothing (Reclaims c seen left))
      turns s h at = let g = one_turns defers left_over fixed id c c2 told seen left word on plan s h at in
          (g.0, g.1, g.2, g.3, (Reclaims c seen left, g.0, refl, refl, g.4, refl))

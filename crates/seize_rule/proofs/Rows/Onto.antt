-- A block is on its way to another's list only while a row is putting it there.
use Rattle.std.proofs.Common.{◌≡◌, ℕ, ◌+◌, Bool, true, false, arith, subst, sym, ap, ◌∙◌}
use Rattle.seize_moves.specs.Given.SeizeWordsDeclared.at.At.{At}
use Rattle.seize_moves.specs.Given.SeizeDeclared.rows.register.Registering.{Registering}
use Rattle.seize_moves.specs.Given.SeizeDeclared.rows.register.Registering.TheVariants as registering
use Rattle.seize_moves.specs.Given.SeizeDeclared.rows.leave.Leaving.{Leaving}
use Rattle.seize_moves.specs.Given.SeizeDeclared.rows.leave.Leaving.TheVariants as leaving
use Rattle.seize_moves.specs.Given.SeizeDeclared.rows.defer.Deferring.{Deferring}
use Rattle.seize_moves.specs.Given.SeizeDeclared.rows.defer.Deferring.TheVariants as deferring
use Rattle.seize_moves.specs.Given.SeizeWorld.{Row, Rests, Registers, Enters, Settles, Leaves, Defers, Frees, IsOnto}
use Rattle.seize_moves.specs.Given.SeizeFurther.{IsWordOf}
use Rattle.seize_moves.proofs.Moves.State.Ghost.{State, Life, IsDeferring}
use Rattle.seize_moves.proofs.Moves.State.Rule.{Inv}
use Rattle.seize_moves.proofs.Memory.Words.View.{View}
use Rattle.seize_moves.proofs.Memory.Words.Shows.{Extra}
use Rattle.seize_rule.proofs.Points.Known.{Outside, bare}
use Rattle.seize_rule.proofs.Rows.Known.{FitsRegister, FitsLeave, FitsDefer, FitsRow, OverIs, OnWay}
use Rattle.seize_rule.proofs.Rows.Sections.{settle_outside}

module _ (n i k s c b : ℕ) (f : View) (m : State) (x : Extra) (inv : Inv n m) (on : m.life c ≡ IsDeferring i s b) where
  defers_it : m.defers i ≡ c + 1
  defers_it = (inv.logged.on_way c i s b on).1

  not_outside : Outside i m → ⊥
  not_outside o = let p = o.defers in let q = defers_it in omega (arith, p, q)

  register_onto : (t : ℕ) (p : Registering) → FitsRegister n i m x k t p → ⊥
  register_onto t registering.Begin r = not_outside r.idles.outside
  register_onto t registering.Look r = not_outside r.idles.outside
  register_onto t (registering.Widen bucket seen) r = not_outside r.sees.looks.idles.outside
  register_onto t (registering.Take seen) r = not_outside r.sees.looks.idles.outside
  register_onto t registering.Enter r = not_outside r.idles.outside
  register_onto t registering.Registered r = r
  register_onto t (registering.Refused fault) r = r

  over_onto : (t becomes : ℕ) (frees : Bool) → OverIs frees n i m x t becomes → ⊥
  over_onto t becomes true r = not_outside r.0.outside
  over_onto t becomes false r = not_outside r.2.idles.outside

  leave_onto : (t becomes : ℕ) (frees : Bool) (p : Leaving) → FitsLeave n i f m x t becomes frees p → ⊥
  leave_onto t becomes frees leaving.Swaps r = not_outside r.on.idles.outside
  leave_onto t becomes frees (leaving.Settles settle) r = not_outside (settle_outside n i f m x (bare settle) settle.stands r.settles)
  leave_onto t becomes frees leaving.Frees r = not_outside r.on.idles.outside
  leave_onto t becomes frees leaving.Over r = over_onto t becomes frees r

  way_onto : (t block : ℕ) (at : At) → OnWay n i f m x t block at → IsWordOf b at
  way_onto t block at r =
      let it = (inv.logged.on_way r.b i t r.t r.life).1 in
      let same : r.b ≡ c = (let d = defers_it in omega (arith, it, d)) in
      let there : m.life c ≡ IsDeferring i t r.t = subst (λ (y : ℕ). m.life y ≡ IsDeferring i t r.t) same r.life in
      let carrier : b ≡ r.t = lies (IsDeferring i s b) (IsDeferring i t r.t) (sym on ∙ there) in
      subst (λ (a : At). IsWordOf b a) (sym r.at_is) carrier
    where
      carrier_of : Life → ℕ
      carrier_of (IsDeferring j u t) = t
      carrier_of _ = 0

      lies : (l l2 : Life) → l ≡ l2 → carrier_of l ≡ carrier_of l2
      lies l l2 e = ap carrier_of e

  defer_onto : (t block : ℕ) (at : At) (p : Deferring) → FitsDefer n i f m x t block at p → IsWordOf b at
  defer_onto t block at deferring.Reads r = way_onto t block at r
  defer_onto t block at (deferring.Links head) r = way_onto t block at r
  defer_onto t block at (deferring.Pushes head) r = way_onto t block at r.on
  defer_onto t block at deferring.Over r = absurd (let d = defers_it in let z = r.none in omega (arith, d, z))

  -- the row of this caller puts it onto that list
  pub row_onto : (row : Row) → FitsRow n i f m x k row → IsOnto b row
  row_onto Rests r = absurd (not_outside r.outside)
  row_onto (Registers d) r = absurd (register_onto d.slot d.stands r)
  row_onto (Enters d) r = absurd (not_outside r.idles.outside)
  row_onto (Settles d) r = absurd (not_outside (settle_outside n i f m x (bare d) d.stands r))
  row_onto (Leaves d) r = absurd (leave_onto d.slot d.becomes d.frees d.stands r)
  row_onto (Defers t d) r = defer_onto t d.block d.table_word d.stands r
  row_onto (Frees d) r = absurd (not_outside r.idles.outside)

-- Who has come to rest.
use Rattle.std.specs.Prelude.{◌<◌, Result, Ok, Err, IfOk, IfErr}
use Rattle.std.proofs.Common.{◌≡◌, ℕ, sym, subst}
use Rattle.seize_views.specs.Views.Begun.{Hands}
use Rattle.seize_views.specs.Views.Promises.{IsTaker}
use Rattle.seize_views.specs.Views.Rows.{IsQuiescent}
use Rattle.seize_views.specs.declared.view.Fixed.{Fixed}
use Rattle.seize_views.specs.declared.view.SlotView.{SlotView}
use Rattle.seize_views.specs.declared.view.SlotView.TheVariants.{Rests, Outside, Owes, Inside, Bears}
use Rattle.seize_views.specs.declared.view.Has.TheVariants.{Nothing, Seen, Cut}

module _ {T : Type 0} where
  pub at_rest : (w v : SlotView T) → w ≡ v → IsQuiescent v → IsQuiescent w
  at_rest w v e rests = subst IsQuiescent (sym e) rests

  -- who has looked for a slot has one, or none
  pub registered : {E : Type 0} (w : SlotView T) (answer : Result ℕ E) → IfOk answer (λ slot. (w ≡ Outside slot) × (slot < 65536)) × IfErr answer (λ fault. w ≡ Rests)
      → IsQuiescent w
  registered w (Ok slot) is = at_rest w (Outside slot) is.0.0 tt
  registered w (Err fault) is = at_rest w Rests is.1 tt

  -- who hands a block on, and who takes it over
  pub handed : (fixed : Fixed) (b : ℕ) (u p q : SlotView T) → IsTaker u → Hands fixed (Bears b) u p q → IsQuiescent p × IsQuiescent q
  handed fixed b (Outside t) p q takes so = (at_rest p Rests so.0 tt, at_rest q (Owes t b) so.1 tt)
  handed fixed b (Inside t Nothing) p q takes so = (at_rest p Rests so.0 tt, at_rest q (Inside t (Cut b)) so.1 tt)
  handed fixed b (Inside t (Seen a)) p q takes so = (at_rest p Rests so.0 tt, at_rest q (Inside t (Cut b)) so.1 tt)
  handed fixed b _ p q takes so = absurd takes

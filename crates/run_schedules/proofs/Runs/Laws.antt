-- What the laws promise, clause by clause: the one file of lemmas that crates above cite.
use Rattle.std.proofs.Common.{◌≡◌, ℕ, true, List, subst, arith}
use Rattle.run_schedules.specs.Runs.Laws.{SameTells, NoneIsNamed, EntersCounts, DropsCounts, ForgetsCounts}
use Rattle.run_schedules.specs.Runs.Same.{is_same}
use Rattle.run_schedules.proofs.Runs.Events.Seats.{none_named, named_more, on_more, drop_named, drop_on, the_named_on, forgotten_named, forgotten_on}
use Rattle.run_schedules.proofs.Runs.Sames.{same_refl, same_is}

pub same_tells : SameTells
same_tells a b = (same_is a b, λ e. subst (λ (x : List ℕ). is_same a x ≡ true) e (same_refl a))

pub none_is_named : NoneIsNamed
none_is_named = none_named

pub enters_counts : EntersCounts
enters_counts guards g = ((λ name. named_more name guards g), λ slot. on_more slot guards g)

pub drops_counts : DropsCounts
drops_counts name guards = (
  (λ other. drop_named other name guards),
  λ g found one slot. let a = drop_on slot name guards in let b = the_named_on slot name guards g found one in omega (arith, a, b),
)

pub forgets_counts : ForgetsCounts
forgets_counts name guards = ((λ other. forgotten_named other name guards), λ slot. forgotten_on slot name guards)

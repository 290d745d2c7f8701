-- What is sheltered stays so, where sections go on and hold what they held.
use Rattle.std.specs.Prelude.{◌≡◌, ℕ, ◌≤◌, true, List, ◌⊎◌}
use Rattle.std.proofs.Common.{subst, sym, arith, inl, inr}
use Rattle.run_places.specs.Given.SeizeLaw.{holds}
use Rattle.run_places.specs.Given.SeizeWorld.{World}
use Rattle.run_places.specs.Given.TablesDeclared.node.Node.{Node}
use Rattle.run_places.specs.Given.RunsPresent.{Present}
use Rattle.run_places.specs.Given.RunsDeclared.effect.Thing.{Thing}
use Rattle.run_places.specs.Given.RunsDeclared.effect.Thing.TheVariants.{APair, ATable}
use Rattle.run_places.specs.Given.SchedulesMoment.{Sheltered}
use Rattle.run_places.specs.Given.EffectsKnown.{Known}
use Rattle.run_places.specs.Given.EffectsDeclared.role.Role.{Role}
use Rattle.run_places.proofs.Given.FollowsOnward.{IsOfMap}
use Rattle.run_histories.specs.Promises.Sheltered.{AreShelteredOn, GuardsAreOn, HasCome, IsOfThing, IsShelteredOn}
use Rattle.run_histories.proofs.Promises.Lists.{all_of}

pub of_map : (x : Thing) (r : Role) → IsOfThing x r → IsOfMap r
of_map (APair n) r is = subst IsOfMap (sym is) tt
of_map (ATable t) r is = subst IsOfMap (sym is.1) tt

come_on : (known known2 : Known) → known.stored ≤ known2.stored → (x : Thing) → HasCome known x → HasCome known2 x
come_on known known2 more (APair n) come = omega (arith, more, come)
come_on known known2 more (ATable t) come = tt

-- Sections go on and hold what they held, and a block that is such a thing then was it before, or is held at once.
pub record Lasts {K V : Type 0} (On On2 : ℕ → Type 0) (known known2 : Known) (w w2 : World (Node K V)) : Type 0 where
  pub inside : (s : ℕ) → On s → On2 s
  pub held : (s b : ℕ) → On s → IsOfMap (known2.roles b) → holds s b w.log ≡ true → holds s b w2.log ≡ true
  pub more : known.stored ≤ known2.stored
  pub back : (x : Thing) (b : ℕ) → HasCome known x → IsOfThing x (known2.roles b) → (known.roles b ≡ known2.roles b) ⊎ ((s : ℕ) → On s → holds s b w2.log ≡ true)

module _ {K V : Type 0} (On On2 : ℕ → Type 0) (there : Present) (known known2 : Known) (w w2 : World (Node K V)) (lasts : Lasts On On2 known known2 w w2) where
  one_lasts : (x : Sheltered) → IsShelteredOn On there w known x → IsShelteredOn On2 there w2 known2 x
  one_lasts x (come, g, is, inside, each) = (
    come_on known known2 lasts.more x.thing come,
    g,
    is,
    lasts.inside g.slot inside,
    λ b of. elim (lasts.back x.thing b come of) as (λ _. holds g.slot b w2.log ≡ true) [
      | inl was ↦ lasts.held g.slot b inside (of_map x.thing (known2.roles b) of) (each b (subst (IsOfThing x.thing) (sym was) of))
      | inr new ↦ new g.slot inside
    ],
  )

  pub all_last : (xs : List Sheltered) → AreShelteredOn On there w known xs → AreShelteredOn On2 there w2 known2 xs
  all_last xs all = all_of (IsShelteredOn On there w known) (IsShelteredOn On2 there w2 known2) xs one_lasts all

  pub guards_last : GuardsAreOn On there → GuardsAreOn On2 there
  guards_last inside own g is = lasts.inside g.slot (inside own g is)

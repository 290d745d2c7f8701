-- What is sheltered and protected, and what is refused as not so.
use Rattle.std.specs.Prelude.{◌≡◌, ℕ, true, false, List, [], ◌∷◌}
use Rattle.std.proofs.Common.{refl, sym, subst, ◌∙◌, arith, inl, inr}
use Rattle.std.proofs.lemmas.Bool.{cases_eq}
use Rattle.run_places.specs.Given.SeizeLaw.{Entered, Linked, holds}
use Rattle.run_places.specs.Given.SeizeWorld.{World, Inside}
use Rattle.run_places.specs.Given.TablesDeclared.node.Node.{Node}
use Rattle.run_places.specs.Given.RunsPresent.{Present, drops}
use Rattle.run_places.specs.Given.RunsDeclared.holders.NamedGuard.{NamedGuard}
use Rattle.run_places.specs.Given.RunsDeclared.effect.Effect.TheVariants.{Reclaimed}
use Rattle.run_places.specs.Given.RunsDeclared.effect.Thing.TheVariants.{APair}
use Rattle.run_places.specs.Given.RunsDeclared.event.Event.TheVariants.{Refresh, Flush}
use Rattle.run_places.specs.Given.SchedulesLists.{put}
use Rattle.run_places.specs.Given.SchedulesMoment.{Sheltered, Moment, start}
use Rattle.run_places.specs.Given.EffectsKnown.{Known}
use Rattle.run_places.specs.Given.EffectsDeclared.role.Role.TheVariants as role
use Rattle.run_places.specs.Given.ScenesDeclared.row.SlotCall.TheVariants as call
use Rattle.run_places.proofs.Given.FollowsAlike.{put_elsewhere}
use Rattle.run_histories.specs.Promises.Others.{SparesGuards}
use Rattle.run_histories.specs.Promises.Protected.{InMidst}
use Rattle.run_histories.specs.Promises.Sheltered.{GuardsAreInside, IsSheltered}
use Rattle.run_histories.specs.Promises.Shelters.{NoneIsBack}
use Rattle.run_histories.proofs.Promises.Guards.{no_guard}
use Rattle.run_places.specs.Given.ScenesScene.{at_first}

-- a guard on slot 0, and the first pair, in block 5, which left its map while that was there

abbrev name : List ℕ
name = 103 ∷ []

abbrev guard : NamedGuard
guard = record { name = name; slot = 0; forgotten = false }

abbrev there : Present
there = record { registrations = []; guards = guard ∷ [] }

abbrev pair : Sheltered
pair = record { guard = name; thing = APair 1 }

abbrev noted : Known
noted = record { roles = put 5 (role.Pair 1) (λ b. role.Free); stored = 1; buckets = 0 }

-- nobody is within a section; somebody is, and it holds nothing; and it holds that block
abbrev nowhere : World (Node ℕ ℕ)
nowhere = (at_first {K = ℕ} {V = ℕ} 1).world

abbrev inside : World (Node ℕ ℕ)
inside = record nowhere { uses = λ s. Inside 0 }

abbrev holding : World (Node ℕ ℕ)
holding = record inside { log = Entered 0 ∷ Linked 5 7 ∷ [] }

-- it is sheltered where the section holds its block,
is_sheltered : IsSheltered there holding noted pair
is_sheltered = (
  omega arith,
  guard,
  refl,
  tt,
  λ b of. elim (cases_eq b 5) as (λ _. holds 0 b (Entered 0 ∷ Linked 5 7 ∷ []) ≡ true) [
    | inl e ↦ subst (λ (c : ℕ). holds 0 c (Entered 0 ∷ Linked 5 7 ∷ []) ≡ true) (sym e) refl
    | inr ne ↦ absurd (let none : role.Free ≡ role.Pair 1 = sym (put_elsewhere 5 (role.Pair 1) (λ (c : ℕ). role.Free) b ne) ∙ of in cc none)
  ],
)

-- and not where it holds nothing,
not_held : IsSheltered there inside noted pair → ⊥
not_held (come, g, is, in_it, each) = (let held = each 5 refl in cc held)

-- nor is a guard within a section that none is open of
not_inside : GuardsAreInside there nowhere → ⊥
not_inside all = all name guard refl

-- what is sheltered may not be reclaimed, and another pair may
one_back : NoneIsBack (Reclaimed (APair 1) ∷ []) (pair ∷ []) → ⊥
one_back none = (let one = none.0 in cc one)

other_back : NoneIsBack (Reclaimed (APair 2) ∷ []) (pair ∷ [])
other_back = (refl, tt)

-- a slot is not left while a guard is there that stays
stays_there : SparesGuards call.Leave 0 there → ⊥
stays_there spares = spares name guard refl refl

leaves_so : SparesGuards call.Leave 0 (drops name there)
leaves_so own g is on = no_guard g is

-- what was sheltered may be reclaimed by an event that ends that section, and by no other
abbrev at_it : Moment ℕ ℕ
at_it = record start { there = there; sheltered = pair ∷ [] }

refreshed : InMidst (Refresh name) (Reclaimed (APair 1) ∷ []) at_it noted nowhere
refreshed = record { inside = λ own g is. no_guard g is; sheltered = tt; spared = tt }

flushed : InMidst (Flush name) (Reclaimed (APair 1) ∷ []) at_it noted holding → ⊥
flushed midst = (let none = midst.spared.0 in cc none)

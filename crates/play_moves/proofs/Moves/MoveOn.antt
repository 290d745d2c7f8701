-- Each entry of a history moves on, if each finds what it must where all is in order, and all stays in order by each.
use Rattle.std.specs.Prelude.{◌≡◌, ◌⊎◌, ℕ, List, [], ◌∷◌}
use Rattle.std.proofs.Common.{refl, sym, subst, inl, inr}
use Rattle.run_schedules.specs.Schedules.After.{AtEachEvent}
use Rattle.run_schedules.specs.Schedules.Terms.{Terms}
use Rattle.run_legal.specs.Given.FindsWithin.{AllIsInOrder}
use Rattle.run_legal.proofs.Given.FindsRuns.{all_in_order_at_first}
use Rattle.run_schedules.specs.Deeds.Deeds.{Begins, Deed, Ends, Entry, Leaves, Makes, MapComes, MapFails, MapGoes, Opens, ReclaimsAll, Registers, Replies, Shuts, Steps, Stops, Tends, moment}
use Rattle.run_schedules.specs.Deeds.History.{MovesOn}
use Rattle.play_moves.specs.EachMoves.Finds.{FindsIts, IsOther}
use Rattle.play_moves.specs.Moves.Order.{OrderStays}
use Rattle.play_moves.specs.EachMoves.Parts.{DoesIts}
use Rattle.play_moves.specs.Moves.Steps.{EachStoresOne, InOrderSoFar, OfStep, StepFinds}
use Rattle.play_moves.proofs.Moves.Steps.Kept.{order_now}

module _ {K V : Type 0} (terms : Terms) where
  -- an entry that is no step of a call finds what it must where all is in order
  abbrev pub OtherFinds : List (Entry K V) → Entry K V → Type 0
  OtherFinds log e = IsOther e.deed → AllIsInOrder (moment log) → FindsIts terms log e

  -- a deed is a step of a call or none, and of what the one says, or the other
  by_kind : (d : Deed K V) → ((i : ℕ) × (d ≡ Steps i)) ⊎ IsOther d
  by_kind (Begins i s map call) = inr tt
  by_kind (Steps i) = inl (i, refl)
  by_kind (Replies i reply) = inr tt
  by_kind (Stops i) = inr tt
  by_kind (Registers s) = inr tt
  by_kind (Opens s) = inr tt
  by_kind (Shuts s) = inr tt
  by_kind (Leaves s) = inr tt
  by_kind (Tends s) = inr tt
  by_kind (MapComes map root mode capacity) = inr tt
  by_kind (Makes map) = inr tt
  by_kind (MapFails map) = inr tt
  by_kind (Ends map) = inr tt
  by_kind (MapGoes map) = inr tt
  by_kind (ReclaimsAll last) = inr tt

  other_of_none : (So : Type 0) (d : Deed K V) → IsOther d → OfStep d So
  other_of_none So (Begins i s map call) is = tt
  other_of_none So (Steps i) is = absurd is
  other_of_none So (Replies i reply) is = tt
  other_of_none So (Stops i) is = tt
  other_of_none So (Registers s) is = tt
  other_of_none So (Opens s) is = tt
  other_of_none So (Shuts s) is = tt
  other_of_none So (Leaves s) is = tt
  other_of_none So (Tends s) is = tt
  other_of_none So (MapComes map root mode capacity) is = tt
  other_of_none So (Makes map) is = tt
  other_of_none So (MapFails map) is = tt
  other_of_none So (Ends map) is = tt
  other_of_none So (MapGoes map) is = tt
  other_of_none So (ReclaimsAll last) is = tt

  -- so each entry finds what it must, and stores what it must if it is a step of a call
  one_finds : (log : List (Entry K V)) (e : Entry K V) → InOrderSoFar log → StepFinds terms log e → OtherFinds log e → FindsIts terms log e × OfStep e.deed (EachStoresOne log e)
  one_finds log e order step other = elim (by_kind e.deed) as (λ _. FindsIts terms log e × OfStep e.deed (EachStoresOne log e)) [
    | inl its ↦
        (let so = subst (λ (d : Deed K V). OfStep d ((InOrderSoFar log → FindsIts terms log e) × EachStoresOne log e)) its.1 step in
        (so.0 order, subst (λ (d : Deed K V). OfStep d (EachStoresOne log e)) (sym its.1) so.1))
    | inr is ↦ (other is (order_now log order), other_of_none (EachStoresOne log e) e.deed is)
  ]

  pub all_move_on : (history : List (Entry K V)) → AtEachEvent (StepFinds terms) history → AtEachEvent OtherFinds history → AtEachEvent (OrderStays terms) history → AtEachEvent DoesIts history
      → AtEachEvent (MovesOn terms) history × InOrderSoFar history
  all_move_on [] steps others stays does = (tt, all_in_order_at_first K V)
  all_move_on (e ∷ log) steps others stays does =
      let before = all_move_on log steps.1 others.1 stays.1 does.1 in
      let its = one_finds log e before.1 steps.0 others.0 in (
        (
          record { finds = its.0; may = does.0.may; granted = does.0.granted; refuses = does.0.refuses; whole = does.0.whole; leaves = does.0.leaves },
          before.0,
        ),
        (stays.0 (order_now log before.1) its.0 its.1 does.0, before.1),
      )

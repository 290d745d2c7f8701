-- Each entry that is no step of a call finds what it must, by what it does, by how maps end, and by what who acts on slots, who makes maps and who reclaims all find.
use Rattle.std.specs.Prelude.{◌≡◌, Bool, false, true, List, [], ◌∷◌}
use Rattle.std.specs.List.{list_all}
use Rattle.std.proofs.Common.{refl, sym, subst}
use Rattle.run_schedules.specs.Schedules.Terms.{Terms}
use Rattle.run_schedules.specs.declared.effect.Effect.{Effect}
use Rattle.run_schedules.specs.declared.outcome.Outcome.{Outcome}
use Rattle.run_legal.specs.Given.FindsWithin.{AllIsInOrder}
use Rattle.run_schedules.specs.Deeds.Deeds.{Begins, Deed, Ends, Entry, Leaves, Makes, MapComes, MapFails, MapGoes, Opens, ReclaimsAll, Registers, Replies, Shuts, Steps, Stops, Tends, moment}
use Rattle.run_schedules.specs.Deeds.History.{may_do}
use Rattle.play_linear.specs.Endings.InOrder.{EndsInOrder}
use Rattle.play_moves.specs.EachMoves.Finds.{FindsIts, IsOther, OthersFind}
use Rattle.play_moves.specs.EachMoves.Parts.{DoesIts}

-- where nothing may be done, nothing is
none_done : (fs : List Effect) → list_all (λ f. false) fs ≡ true → fs ≡ []
none_done [] all = refl
none_done (f ∷ fs) all = absurd (cc all)

module _ {K V : Type 0} (terms : Terms) (log : List (Entry K V)) where
  -- what does nothing finds what it must
  nothing_finds : (d : Deed K V) (o : Outcome V) (fs : List Effect) (refused : Bool) → list_all (λ f. false) fs ≡ true → FindsIts terms log (record { deed = d; outcome = o; effects = fs; refused = refused })
  nothing_finds d o fs refused may = subst (λ (gs : List Effect). FindsIts terms log (record { deed = d; outcome = o; effects = gs; refused = refused })) (sym (none_done fs may)) tt

  by_deed : (d : Deed K V) (o : Outcome V) (fs : List Effect) (refused : Bool) → (let e : Entry K V = record { deed = d; outcome = o; effects = fs; refused = refused } in
      list_all (may_do d) fs ≡ true → EndsInOrder log e → OthersFind terms log e → IsOther d → AllIsInOrder (moment log) → FindsIts terms log e)
  by_deed (Begins i s map call) o fs refused may ends others is order = nothing_finds (Begins i s map call) o fs refused may
  by_deed (Steps i) o fs refused may ends others is order = absurd is
  by_deed (Replies i reply) o fs refused may ends others is order = nothing_finds (Replies i reply) o fs refused may
  by_deed (Stops i) o fs refused may ends others is order = nothing_finds (Stops i) o fs refused may
  by_deed (Registers slot) o fs refused may ends others is order = others tt order
  by_deed (Opens slot) o fs refused may ends others is order = nothing_finds (Opens slot) o fs refused may
  by_deed (Shuts slot) o fs refused may ends others is order = nothing_finds (Shuts slot) o fs refused may
  by_deed (Leaves slot) o fs refused may ends others is order = others tt order
  by_deed (Tends slot) o fs refused may ends others is order = others tt order
  by_deed (MapComes map root mode capacity) o fs refused may ends others is order = nothing_finds (MapComes map root mode capacity) o fs refused may
  by_deed (Makes map) o fs refused may ends others is order = others tt order
  by_deed (MapFails map) o fs refused may ends others is order = nothing_finds (MapFails map) o fs refused may
  by_deed (Ends map) o fs refused may ends others is order = ends
  by_deed (MapGoes map) o fs refused may ends others is order = nothing_finds (MapGoes map) o fs refused may
  by_deed (ReclaimsAll last) o fs refused may ends others is order = others tt order

  pub others_found : (e : Entry K V) → DoesIts log e → EndsInOrder log e → OthersFind terms log e → IsOther e.deed → AllIsInOrder (moment log) → FindsIts terms log e
  others_found e does ends others is order = by_deed e.deed e.outcome e.effects e.refused does.may ends others is order

-- The effects of a step by which all is reclaimed, as it is played, find what they must, where pairs behind roots are those that are left over, and no call is under way.
use Rattle.std.specs.Prelude.{◌≡◌, ℕ, Bool, true, List, [], ◌∷◌, None}
use Rattle.std.specs.List.{list_all}
use Rattle.std.proofs.Common.{refl, sym, subst}
use Rattle.std.proofs.lemmas.Bool.{and_parts}
use Rattle.run_legal.specs.AllEvents.{BehindRootsAreLeft, FindsPair}
use Rattle.seize_acts.specs.Given.SeizeDeclared.rows.reclaim_all.ReclaimAll.{ReclaimAll}
use Rattle.seize_acts.specs.Given.SeizeDeclared.rows.settle.Settled.{Settled}
use Rattle.run_legal.specs.Given.TablesDeclared.node.Node.{Node}
use Rattle.run_schedules.specs.declared.effect.Effect.{Effect}
use Rattle.run_schedules.specs.declared.effect.Effect.TheVariants.{Reclaimed}
use Rattle.run_schedules.specs.declared.effect.Thing.TheVariants.{APair, ATable}
use Rattle.run_schedules.specs.Schedules.Effects.{AtEachEffect, with_effect}
use Rattle.run_schedules.specs.Schedules.Handing.{is_reclaiming}
use Rattle.run_schedules.specs.Schedules.Moment.{Moment}
use Rattle.run_schedules.specs.Schedules.Terms.{Terms}
use Rattle.run_legal.specs.Given.EffectsEffects.{effects_of}
use Rattle.run_legal.specs.Given.EffectsDeclared.acting.Acting.TheVariants as acts
use Rattle.run_legal.specs.Given.FindsWaiting.{PairsArePlaced}
use Rattle.run_legal.specs.Given.MomentsOnSlots.{HadRetired}
use Rattle.run_legal.specs.Given.ScenesHeld.{Held}
use Rattle.run_legal.specs.Given.ScenesReclaiming.{IsReclaiming, ReclaimingLeads}
use Rattle.run_legal.specs.Given.ScenesScene.{Scene}
use Rattle.run_legal.proofs.Given.ReclaimingRest.{reclaiming_found}
use Rattle.run_legal.proofs.OfAll.Pairs.{step_finds}
use Rattle.run_legal.proofs.OfAll.Tells.{gone_by, it_reclaims}
use Rattle.run_schedules.specs.Deeds.Deeds.{Entry, ReclaimsAll, moment, named}
use Rattle.run_schedules.specs.Deeds.History.{FindsBy, past, transition}
use Rattle.play_linear.specs.Given.PlayedPlay.{State, is_over, is_refusal, settled_outcome}
use Rattle.play_linear.specs.Linear.Shown.{RefinesAnswers}
use Rattle.run_legal.proofs.OfAll.Steps.{things_reclaim as all_reclaim}

module _ {K V S : Type 0} (same : K → K → Bool) (hash : ℕ → K → ℕ) (x : State K V S) (s : Scene K V) (old new : Held K V) (all : RefinesAnswers same (past x.history) (moment x.history) x.known s)
    (i : ℕ) (lists : ℕ → List ℕ) (before next : ReclaimAll) (told : Settled (Node K V)) (at : IsReclaiming same hash old s i lists before) (leads : ReclaimingLeads same hash s i lists old new before next told)
    (placed : PairsArePlaced (moment x.history)) (none : (moment x.history).calls ≡ []) (behind : BehindRootsAreLeft old.roots (moment x.history) x.known lists) (terms : Terms) where
  abbrev m : Moment K V
  m = moment x.history

  abbrev effects : List Effect
  effects = effects_of acts.Row x.known new.changed

  abbrev entry : Entry K V
  entry = record { deed = ReclaimsAll (is_over told); outcome = settled_outcome told; effects = effects; refused = is_refusal new.changed }

  abbrev Finds : Moment K V → Effect → Type 0
  Finds v f = FindsBy terms x.history (ReclaimsAll (is_over told)) (transition x.history entry) v f

  one_finds : (v : Moment K V) (f : Effect) → is_reclaiming f ≡ true → FindsPair v f → HadRetired v f → Finds v f
  one_finds v (Reclaimed (APair n)) is pair had = pair
  one_finds v (Reclaimed (ATable t)) is pair had = had
  one_finds v _ is pair had = absurd (cc is)

  each_finds : (fs : List Effect) (v : Moment K V) → list_all is_reclaiming fs ≡ true → AtEachEffect FindsPair None None fs v → AtEachEffect HadRetired None None fs v → AtEachEffect Finds None None fs v
  each_finds [] v back pairs had = tt
  each_finds (f ∷ fs) v back pairs had =
      let both = and_parts (is_reclaiming f) (list_all is_reclaiming fs) back in (one_finds v f both.0 pairs.0 had.0, each_finds fs (with_effect None None f v) both.1 pairs.1 had.1)

  pub all_find : AtEachEffect Finds None None effects m
  all_find =
      each_finds effects m
      (subst (λ (fs : List Effect). list_all is_reclaiming fs ≡ true) (sym (it_reclaims same hash named m x.known s all.whole all.kept old new i lists before next told at leads)) (all_reclaim (gone_by x.known new.changed)))
      (step_finds same hash named m x.known s all.whole all.kept old new i lists before next told at leads old.roots refl placed none behind)
      (reclaiming_found same hash named m x.known s all.whole all.kept old new i lists before next told at leads).0

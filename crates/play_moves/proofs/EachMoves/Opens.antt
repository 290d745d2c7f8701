-- By each act, each making that is under way makes a first table for its places, if a map is made with such places.
use Rattle.std.specs.Prelude.{◌≡◌, ℕ, Bool, Option, Some, None}
use Rattle.std.proofs.Common.{refl, ap, sym, subst, ◌∙◌}
use Rattle.seize_acts.specs.Given.SeizeWorld.{World, with_at}
use Rattle.seize_acts.specs.Given.SeizeDeclared.advance.Advance.{Advance}
use Rattle.seize_acts.specs.Given.SeizeDeclared.advance.Advance.TheVariants as progress
use Rattle.seize_acts.specs.Given.SeizeDeclared.rows.settle.Settled.{Settled}
use Rattle.seize_acts.specs.Given.SeizeDeclared.rows.settle.Settled.TheVariants as settled
use Rattle.run_legal.specs.Given.TablesDeclared.node.Node.{Node}
use Rattle.run_legal.specs.Given.TablesDeclared.setting.Setting.{Setting}
use Rattle.run_schedules.specs.Given.RawDeclared.machines.end_map.EndMap.{EndMap}
use Rattle.threads_rule.specs.Given.ResizeDeclared.new_map.NewMap.{NewMap}
use Rattle.run_legal.specs.Given.EffectsDeclared.changed.Changed.TheVariants.{Nothing as NoChange}
use Rattle.run_legal.specs.Given.FinishesEndings.{Finishing}
use Rattle.run_legal.specs.Given.FinishesFactsEnds.{Deed}
use Rattle.run_legal.specs.Given.FinishesMakings.{Beginning}
use Rattle.run_legal.specs.Given.OthersMakings.{making_after}
use Rattle.run_legal.specs.Given.ScenesHeld.{Held}
use Rattle.run_legal.specs.Given.ScenesMaking.{MakingHasOutcome, making_begun}
use Rattle.run_legal.specs.Given.ScenesScene.{Scene, slot_of}
use Rattle.threads_rule.specs.Given.ActsActs.{Act, Answer, BeginsCall, StepsCall, TellsCall, AsksCall, StopsCall, BeginsMaking, StepsMaking, BeginsEnding, StepsEnding, BeginsRow, StepsRow}
use Rattle.play_linear.specs.Given.ActsAsSteps.{LeadsAs, MadeTo, changed_by, held_in}
use Rattle.play_linear.specs.Given.ActsLeads.{EndingCame, Led}
use Rattle.play_linear.proofs.Given.AgreesNumbers.{with_so}
use Rattle.run_legal.specs.Given.NeedsFirsts.{AllMakingsOpen}
use Rattle.run_legal.proofs.Given.NeedsFirsts.{makings_go_on, makings_open}
use Rattle.play_linear.specs.Given.AgreesPlaces.{ArePlaces, AsksPlaces}
use Rattle.play_moves.specs.EachMoves.Places.{OpensFor}
use Rattle.run_schedules.proofs.Given.General.{same_some}

module _ {K V : Type 0} (s n : Scene K V) (here : OpensFor s) where
  -- where makings are as they were
  pub still_open : n.makers ≡ s.makers → OpensFor n
  still_open makers = record {
    opens = λ i b it. here.opens i b (sym (ap (λ (h : ℕ → Option (Beginning K)). h i) makers) ∙ it);
    places = λ i b it. here.places i b (sym (ap (λ (h : ℕ → Option (Beginning K)). h i) makers) ∙ it);
  }

  -- where one goes on, or is over
  pub next_open : (i : ℕ) (next : Option (Beginning K)) → n.makers ≡ with_at s.makers i next → ((b : Beginning K) → next ≡ Some b → ArePlaces b.given b.places) → AllMakingsOpen n → OpensFor n
  next_open i next makers own opens = record {
    opens = opens;
    places = λ j b it.
        with_so s.makers i next (λ k d. ArePlaces d.given d.places) own here.places j b (sym (ap (λ (h : ℕ → Option (Beginning K)). h j) makers) ∙ it);
  }

module _ {K V S : Type 0} (same : K → K → Bool) (by_hasher : S → K → ℕ) (hash : ℕ → K → ℕ) (batch_size roots : ℕ) (s n : Scene K V) (here : OpensFor s) (told : Answer K V) where
  abbrev Leads : Act K V S → Type 0
  Leads act = Led same by_hasher batch_size roots slot_of act s told n

  ended : (i : ℕ) (f : Finishing K V) (w2 : World (Node K V)) (deed : Deed) (machine : EndMap) (p : Settled (Node K V))
      → EndingCame {S = S} same by_hasher batch_size roots slot_of s i f w2 deed machine n p → n.makers ≡ s.makers
  ended i f w2 deed machine settled.Goes came = ap (λ (z : Scene K V). z.makers) came.1
  ended i f w2 deed machine settled.Waits came = absurd came
  ended i f w2 deed machine (settled.Gave value) came = ap (λ (z : Scene K V). z.makers) came.3
  ended i f w2 deed machine settled.Done came = ap (λ (z : Scene K V). z.makers) came.2

  made : (old new : Held K V) (i : ℕ) (b : Beginning K) (makes : s.makers i ≡ Some b) (machine : NewMap) (w2 : World (Node K V)) (p : Advance Setting) (comes : MakingHasOutcome same hash s old new i b machine w2 p)
      → MadeTo same hash s old new i b machine w2 p comes n → AllMakingsOpen n → OpensFor n
  made old new i b makes machine w2 progress.Goes comes to opens =
      next_open s n here i (Some (record b { machine = machine })) (ap (λ (z : Scene K V). z.makers) to)
      (λ d is. subst (λ (z : Beginning K). ArePlaces z.given z.places) (same_some (record b { machine = machine }) d is) (here.places i b makes)) opens
  made old new i b makes machine w2 progress.Waits comes to opens = absurd comes
  made old new i b makes machine w2 (progress.Done setting) comes to opens = next_open s n here i None (ap (λ (z : Scene K V). z.makers) to) (λ d none. absurd (cc none)) opens
  made old new i b makes machine w2 (progress.Refused fault) comes to opens = next_open s n here i None (ap (λ (z : Scene K V). z.makers) to) (λ d none. absurd (cc none)) opens

  opened : (old new : Held K V) (i : ℕ) (b : Beginning K) (machine : NewMap) (w2 : World (Node K V)) (p : Advance Setting) (comes : MakingHasOutcome same hash s old new i b machine w2 p)
      → MadeTo same hash s old new i b machine w2 p comes n → AllMakingsOpen (making_after same hash s old new i b machine w2 p comes) → AllMakingsOpen n
  opened old new i b machine w2 progress.Goes comes to opens = subst AllMakingsOpen (sym to) opens
  opened old new i b machine w2 progress.Waits comes to opens = absurd comes
  opened old new i b machine w2 (progress.Done setting) comes to opens = subst AllMakingsOpen (sym to) opens
  opened old new i b machine w2 (progress.Refused fault) comes to opens = subst AllMakingsOpen (sym to) opens

  pub acts_open : (act : Act K V S) → AsksPlaces act → Leads act → LeadsAs same by_hasher hash act s told n (held_in batch_size roots NoChange s) (held_in batch_size roots (changed_by same act s) n) → OpensFor n
  acts_open (BeginsCall i m wanted) asks led leads = still_open s n here (ap (λ (z : Scene K V). z.makers) led.3)
  acts_open (StepsCall i m g) asks led leads = still_open s n here (ap (λ (z : Scene K V). z.makers) led.comes)
  acts_open (TellsCall i m reply) asks led leads = still_open s n here (ap (λ (z : Scene K V). z.makers) led.8)
  acts_open (AsksCall i m) asks led leads = still_open s n here (ap (λ (z : Scene K V). z.makers) led.3)
  acts_open (StopsCall i m) asks led leads = still_open s n here (ap (λ (z : Scene K V). z.makers) led.3)
  acts_open (BeginsMaking i map hasher given places) asks led leads =
      let b = making_begun (by_hasher hasher) roots map given places in
      next_open s n here i (Some b) (ap (λ (z : Scene K V). z.makers) led.1) (λ d is. subst (λ (z : Beginning K). ArePlaces z.given z.places) (same_some b d is) asks)
      (subst AllMakingsOpen (sym led.1) (makings_open K V s here.opens i b given roots places refl))
  acts_open (StepsMaking i g) asks led (said, answer, leads, goes) =
      let old = held_in batch_size roots NoChange s in
      let new = held_in batch_size roots (changed_by {S = S} same (StepsMaking i g) s) n in
      let to = leads led.0 led.1 in
      made old new i led.0 led.1 to.0 to.2.step.w2 said to.3 (goes led.0 led.1)
      (opened old new i led.0 to.0 to.2.step.w2 said to.3 (goes led.0 led.1) (makings_go_on K V same hash s old new here.opens i said leads led.0 led.1))
  acts_open (BeginsEnding i m) asks led leads = still_open s n here (ap (λ (z : Scene K V). z.makers) led.3)
  acts_open (StepsEnding i g) asks (f, ends, m2, machine, end, computed, told_is, did, came) leads = still_open s n here (ended i f did.w2 did.deed machine end came)
  acts_open (BeginsRow i request) asks led leads = still_open s n here (ap (λ (z : Scene K V). z.makers) led.5)
  acts_open (StepsRow i g) asks led leads = still_open s n here (ap (λ (z : Scene K V). z.makers) led.6)

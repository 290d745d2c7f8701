-- Each map that ends goes on to end by each step of the making of another one.
use Rattle.std.specs.Prelude.{◌≡◌, ◌≢◌, ℕ, Bool, true, false, List, ◌∷◌, Option, Some, None, if◌then◌else◌}
use Rattle.std.specs.List.{list_all}
use Rattle.std.proofs.Common.{refl, ap, ◌∙◌}
use Rattle.seize_acts.specs.Acts.Answers.{Grant}
use Rattle.seize_acts.specs.Given.SeizeWorld.{World}
use Rattle.seize_acts.specs.Given.SeizeDeclared.advance.Advance.{Advance}
use Rattle.seize_acts.specs.Given.SeizeDeclared.advance.Advance.TheVariants as progress
use Rattle.play_lists.specs.Given.TablesDeclared.node.Node.{Node}
use Rattle.play_lists.specs.Given.TablesDeclared.resize_mode.ResizeMode.{ResizeMode}
use Rattle.play_lists.specs.Given.TablesDeclared.setting.Setting.{Setting}
use Rattle.run_logged.specs.Given.ResizeNewMap.{new_map_plan}
use Rattle.run_logged.specs.Given.ResizeDeclared.new_map.NewMap.{NewMap}
use Rattle.play_lists.specs.Given.FinishesEndings.{Finishing}
use Rattle.play_lists.specs.Given.FinishesMakings.{Beginning}
use Rattle.run_schedules.specs.declared.effect.Effect.{Effect}
use Rattle.run_schedules.specs.declared.outcome.Outcome.{Outcome}
use Rattle.run_schedules.specs.Schedules.Effects.{with_effects}
use Rattle.run_schedules.specs.Schedules.Handing.{is_first_making}
use Rattle.run_schedules.specs.Schedules.Moment.{MapThere, Moment}
use Rattle.play_lists.specs.Given.EffectsEffects.{effects_of, known_after}
use Rattle.play_lists.specs.Given.EffectsDeclared.acting.Acting.TheVariants as acts
use Rattle.play_lists.specs.Given.EffectsDeclared.changed.Changed.TheVariants.{Nothing as NoChange}
use Rattle.play_lists.specs.Given.ScenesHeld.{Held, IsAt}
use Rattle.play_lists.specs.Given.ScenesMaking.{MakingHasOutcome}
use Rattle.play_lists.specs.Given.ScenesScene.{Scene, slot_of}
use Rattle.play_lists.proofs.Given.FollowsOperations.{Operated, operated}
use Rattle.play_lists.proofs.Given.ScenesMay.{may_make}
use Rattle.run_sweeps.proofs.Needs.Makings.{makings_do_theirs}
use Rattle.play_lists.specs.Given.ActsActs.{Act, Answer, StepsMaking}
use Rattle.play_lists.specs.Given.ActsAsSteps.{LeadsAs, MadeTo, changed_by, held_in}
use Rattle.play_lists.specs.Given.ActsLeads.{Led}
use Rattle.play_lists.proofs.Agrees.Elsewhere.{AllLinkElsewhere, acting_elsewhere}
use Rattle.play_lists.proofs.Agrees.Fresh.{AnyTable}
use Rattle.run_schedules.specs.Deeds.Deeds.{Deed, Entry, Makes, MapComes, MapFails, after, come, moment, named}
use Rattle.play_lists.specs.Played.Play.{Ending, State, has_root, is_refusal, making_deed, making_outcome, pairs_for}
use Rattle.play_lists.specs.Played.Reached.{IsOf}
use Rattle.play_lists.proofs.Played.PlayedAs.{PlayedAs}
use Rattle.play_linear.proofs.Linear.ComeActs.{made_enders}
use Rattle.play_linear.proofs.Linear.Coming.{come_leaves, gone_leaves}
use Rattle.play_linear.proofs.Linear.Holding.{AllHolds}
use Rattle.play_lists.proofs.Played.Tied.{MakingTied, making_tied}
use Rattle.play_lists.specs.MapsEnd.Ends.{AlikeOf, AreStored}
use Rattle.play_lists.specs.MapsEnd.Going.{ContinuesToEnd}
use Rattle.play_linear.specs.Endings.GoingOn.{EndsContinue}
use Rattle.play_lists.proofs.MapsEnd.Alike.{alike_all, alike_maps, alike_then}
use Rattle.play_lists.proofs.MapsEnd.Going.{NotedAlike}
use Rattle.play_linear.proofs.Endings.Others.{firsts_spare}
use Rattle.play_lists.proofs.MapsEnd.Places.{stored_alike}
use Rattle.play_linear.proofs.Endings.Played.{ends_stay, goes_of, noted_on}
use Rattle.play_lists.proofs.MapsEnd.Spares.{all_spared}
use Rattle.play_lists.specs.Agrees.Fresh.{AreNamed}
use Rattle.play_lists.proofs.Agrees.Names.{effects_named}

-- After each step of the making of another map all of this one is as it was.
module _ {K V : Type 0} (map own : ℕ) (ne : own ≢ map) (m : Moment K V) (stored : AreStored map m) (names : AreNamed m) (effects : List Effect) (firsts : list_all is_first_making effects ≡ true)
    (links : AllLinkElsewhere map AnyTable effects) (o : Outcome V) (refused : Bool) (root : ℕ) (mode : ResizeMode) (capacity : ℕ) where
  abbrev deed : Bool → Bool → Deed K V
  deed p q = if p then (if q then Makes own else MapFails own) else (if q then MapComes own root mode capacity else Makes own)

  abbrev then_at : Bool → Bool → Moment K V
  then_at p q = after (record { deed = deed p q; outcome = o; effects = effects; refused = refused }) m

  other : ◌≡◌ {A = Option ℕ} (Some own) (Some map) → ⊥
  other both = ne (cc both)

  abbrev w : Moment K V
  w = with_effects None (Some own) effects m

  led : AlikeOf map m w
  led = all_spared map None (Some own) other effects m stored (firsts_spare map None (Some own) effects m firsts links)

  -- the map comes
  abbrev its : MapThere
  its = record { name = named own; number = own; root = root; mode = mode; capacity = capacity; first = 0 }

  came : AlikeOf map m (come its m)
  came = alike_maps map m (come its m) (come_leaves map own ne its m refl).there refl refl refl refl

  pub making_alike : (p q : Bool) → AlikeOf map m (then_at p q)
  making_alike true true = alike_then map m w (then_at true true) led (alike_all map w (then_at true true) refl refl refl refl refl)
  making_alike false false = alike_then map m w (then_at false false) led (alike_all map w (then_at false false) refl refl refl refl refl)
  making_alike true false =
      alike_then map m w (then_at true false) led
      (alike_maps map w (then_at true false) (gone_leaves map own ne w (then_at true false) (effects_named None (Some own) effects m names) refl refl refl).there refl refl refl refl)
  making_alike false true =
      let b = come its m in
      let v = with_effects None (Some own) effects b in
      alike_then map m b (then_at false true) came
      (alike_then map b v (then_at false true) (all_spared map None (Some own) other effects b (stored_alike map m b came stored) (firsts_spare map None (Some own) effects b firsts links))
      (alike_all map v (then_at false true) refl refl refl refl refl))

module _ {K V S : Type 0} (same : K → K → Bool) (by_hasher : S → K → ℕ) (hash : ℕ → K → ℕ) (batch_size roots : ℕ) (aborts : ℕ → V) (x y : State K V S) (s n : Scene K V)
    (is : IsOf by_hasher s s.world.row x.now) (at : IsAt same hash (held_in batch_size roots NoChange s) s) (all : AllHolds same x s) (so : EndsContinue x s) (told : Answer K V) (i : ℕ) (g : Grant) where
  abbrev act : Act K V S
  act = StepsMaking i g

  abbrev old : Held K V
  old = held_in batch_size roots NoChange s

  abbrev new : Held K V
  new = held_in batch_size roots (changed_by same act s) n

  abbrev m : Moment K V
  m = moment x.history

  made_ends : (b : Beginning K) (opening : NewMap) (w2 : World (Node K V)) (p : Advance Setting) (comes : MakingHasOutcome same hash s old new i b opening w2 p) → MadeTo same hash s old new i b opening w2 p comes n → n.enders ≡ s.enders
  made_ends b opening w2 progress.Goes comes is_n = ap (λ (v : Scene K V). v.enders) is_n
  made_ends b opening w2 progress.Waits comes never = absurd never
  made_ends b opening w2 (progress.Done setting) comes is_n = ap (λ (v : Scene K V). v.enders) is_n
  made_ends b opening w2 (progress.Refused fault) comes is_n = ap (λ (v : Scene K V). v.enders) is_n

  pub making_goes : PlayedAs same by_hasher batch_size roots aborts x y (StepsMaking i g) → Led same by_hasher batch_size roots slot_of (StepsMaking i g) s told n
      → LeadsAs same by_hasher hash (StepsMaking i g) s told n old new → IsAt same hash new n → EndsContinue y n
  making_goes played (b, makes, m2, machine, said, computed, told_is, did, _) (told2, answer, leads, goes) at2 =
      ends_stay same by_hasher hash batch_size roots aborts x y s n is at all so told (known_after (acts.Making b.map) new.changed x.known) (after entry m) known_is (ap (λ (log : List (Entry K V)). moment log) history)
      (ap (λ (z : State K V S). z.now.enders) tied.comes ∙ made_enders tied.it i machine said (record x.now { memory = m2 })) ends_are each
    where
      tied : MakingTied same by_hasher batch_size roots aborts s n s.world.row x y is i g b (m2, (machine, said))
      tied = making_tied same by_hasher batch_size roots aborts s n s.world.row x y is i g b makes (m2, (machine, said)) computed played

      map_is : tied.it.map ≡ b.map
      map_is = ap (λ p. p.0) tied.its

      effects : List Effect
      effects = effects_of (acts.Making b.map) x.known new.changed

      entry : Entry K V
      entry = record { deed = making_deed b.map tied.it.machine machine; outcome = making_outcome said; effects = effects; refused = is_refusal new.changed }

      history : y.history ≡ entry ∷ x.history
      history =
          ap (λ (z : State K V S). z.history) tied.comes
          ∙ ap (λ (k : ℕ). record { deed = making_deed k tied.it.machine machine; outcome = making_outcome said; effects = effects_of (acts.Making k) x.known new.changed; refused = is_refusal new.changed } ∷ x.history) map_is

      known_is : y.known ≡ known_after (acts.Making b.map) new.changed x.known
      known_is = ap (λ (z : State K V S). z.known) tied.comes ∙ ap (λ (k : ℕ). known_after (acts.Making k) new.changed x.known) map_is

      ends_are : n.enders ≡ s.enders
      ends_are = made_ends b (leads b makes).0 (leads b makes).2.step.w2 told2 (leads b makes).3 (goes b makes)

      op : Operated old.memory new.memory new.changed
      op = operated old.memory new.memory new.changed (new_map_plan {K = K} {V = V} b.machine) ((leads b makes).0, told2) (may_make same hash old s at i b makes) (leads b makes).1

      firsts : list_all is_first_making effects ≡ true
      firsts = makings_do_theirs K V same hash named m x.known s old new at all.holds.shows.whole.all.shown i told2 leads b makes (all.holds.shows.whole.counters i b makes)

      each : (j : ℕ) (e : Ending) → x.now.enders j ≡ Some e → (f : Finishing K V) → s.enders j ≡ Some f → (go : ContinuesToEnd e.map f x.known m)
          → AlikeOf e.map m (after entry m) × NotedAlike go.rest x.known (known_after (acts.Making b.map) new.changed x.known)
      each j e ending f ends go =
          let its = goes_of same by_hasher hash batch_size roots aborts x y s n is at all so told j e ending f ends in
          let ne : b.map ≢ e.map = its.gone.not_made i b makes in (
            making_alike e.map b.map ne m go.stored all.maps.names effects firsts (acting_elsewhere e.map AnyTable (acts.Making b.map) ne x.known (λ c u len role_is. tt) new.changed) (making_outcome said)
                (is_refusal new.changed) machine.setting.root machine.setting.mode (pairs_for machine.len) (has_root tied.it.machine.stands) (has_root machine.stands),
            noted_on same by_hasher hash batch_size roots aborts x y s n is at all so told new at2 op (acts.Making b.map) j e ending f ends (ap (λ (h : ℕ → Option (Finishing K V)). h j) ends_are ∙ ends) go,
          )

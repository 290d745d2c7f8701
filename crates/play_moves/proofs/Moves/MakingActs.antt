-- By the step of a making, too, what was made for maps under way stays counted.
use Rattle.std.specs.Prelude.{◌≡◌, ◌≢◌, ◌+◌, ℕ, Bool, true, false, List, [], ◌∷◌, length, filter, Option, Some, None}
use Rattle.std.proofs.Common.{refl, ap, sym, subst, ◌∙◌}
use Rattle.seize_acts.specs.Acts.Answers.{Grant}
use Rattle.run_schedules.specs.Given.SeizeWordsMem.{Mem}
use Rattle.seize_acts.specs.Given.SeizeWorld.{World, with_at}
use Rattle.seize_acts.specs.Given.SeizeDeclared.advance.Advance.{Advance}
use Rattle.seize_acts.specs.Given.SeizeDeclared.advance.Advance.TheVariants as progress
use Rattle.run_legal.specs.Given.TablesDeclared.node.Node.{Node}
use Rattle.run_legal.specs.Given.TablesDeclared.setting.Setting.{Setting}
use Rattle.threads_rule.specs.Given.ResizeNewMap.{at_root, new_map_plan}
use Rattle.threads_rule.specs.Given.ResizeDeclared.new_map.NewMap.{NewMap}
use Rattle.threads_rule.specs.Given.ResizeDeclared.new_map.Opening.{Opening}
use Rattle.threads_rule.specs.Given.ResizeDeclared.new_map.Opening.TheVariants as openings
use Rattle.run_schedules.specs.declared.effect.Effect.{Effect}
use Rattle.run_schedules.specs.Schedules.Effects.{with_effects}
use Rattle.run_schedules.specs.Schedules.Handing.{is_table_made}
use Rattle.run_schedules.specs.Schedules.Moment.{Moment}
use Rattle.run_schedules.specs.Schedules.Views.{capacity_or, map_at, tables_of}
use Rattle.run_legal.specs.Given.EffectsDeclared.changed.Changed.TheVariants.{Nothing as NoChange}
use Rattle.run_legal.specs.Given.EffectsEffects.{effects_of, known_after}
use Rattle.run_legal.specs.Given.EffectsDeclared.acting.Acting.TheVariants as acts
use Rattle.run_legal.specs.Given.FinishesEndings.{MakingStepsWithEndings}
use Rattle.run_legal.specs.Given.FinishesMakings.{Beginning}
use Rattle.run_legal.specs.Given.OwesMaking.{making_in_opening}
use Rattle.run_legal.specs.Given.OwesTables.{table_made}
use Rattle.run_legal.specs.Given.ScenesHeld.{Held, IsAt}
use Rattle.run_legal.specs.Given.ScenesMaking.{MakingHasOutcome, MakingLeads}
use Rattle.run_legal.specs.Given.ScenesScene.{Scene, slot_of}
use Rattle.run_legal.proofs.Given.CallersTogether.At.{at_same}
use Rattle.play_linear.proofs.Given.OthersMakingGoes.{new_maps_stay}
use Rattle.threads_rule.specs.Given.ActsActs.{Answer, StepsMaking}
use Rattle.play_linear.specs.Given.ActsAsSteps.{MadeTo, changed_by, changed_of, held_in}
use Rattle.play_linear.specs.Given.ActsLeads.{MakingCame, making_steps}
use Rattle.play_linear.proofs.Given.ActsAsSteps.Told.{was_told}
use Rattle.play_linear.proofs.Given.AgreesNumbers.{NumbersHold}
use Rattle.play_linear.proofs.Given.AgreesOpenings.{rootless_quiet}
use Rattle.run_schedules.specs.Deeds.Deeds.{Entry, moment, named}
use Rattle.run_schedules.specs.Deeds.History.{made_for}
use Rattle.play_linear.specs.Given.PlayedPlay.{Making, Now, State, has_root, is_refusal, made_on, making_deed, making_outcome, pairs_for}
use Rattle.play_linear.specs.Given.PlayedReached.{IsOf, made_so, makes_so}
use Rattle.run_legal.specs.Given.NeedsMakings.{in_hand, table_left}
use Rattle.play_linear.specs.Linear.Coming.{Comes, ComesBy, MapsComeAndGo}
use Rattle.play_linear.proofs.Linear.Coming.{comes_bare}
use Rattle.play_linear.proofs.Linear.Holds.{Holds}
use Rattle.play_linear.proofs.Linear.MakesRight.{was_new}
use Rattle.play_linear.proofs.Linear.StepsPlayed.{there_alike}
use Rattle.play_moves.proofs.Moves.MadeHolds.{IsComing, MadeHolds}
use Rattle.play_moves.proofs.Moves.MadeStep.{own_then, then_made}
use Rattle.play_moves.proofs.Moves.MakingMoves.{counts as counts_made, frees_quietly}
use Rattle.play_moves.proofs.EachMoves.Rooted.{IsFreeing, Rooted, step_rooted}
use Rattle.run_schedules.proofs.Given.General.{same_some}

-- where it gives its root up it has no table in hand
freeing_none : (c : NewMap) (stands : Opening) → c.stands ≡ stands → IsFreeing stands → in_hand (table_left c progress.Goes) ≡ 0
freeing_none c (openings.Frees fault) is freeing = ap (λ (stands : Opening). in_hand (table_made (making_in_opening stands))) is
freeing_none c openings.Takes is freeing = absurd freeing
freeing_none c openings.Shards is freeing = absurd freeing
freeing_none c (openings.Tables making) is freeing = absurd freeing
freeing_none c (openings.Unmakes fault) is freeing = absurd freeing
freeing_none c openings.Over is freeing = absurd freeing
freeing_none c (openings.Refused fault) is freeing = absurd freeing

module _ {K V S : Type 0} (same : K → K → Bool) (by_hasher : S → K → ℕ) (hash : ℕ → K → ℕ) (batch_size roots : ℕ) (aborts : ℕ → V) (x y : State K V S) (s n : Scene K V) (is : IsOf by_hasher s s.world.row x.now)
    (at : IsAt same hash (held_in batch_size roots NoChange s) s) (holds : Holds same x s) (maps : MapsComeAndGo (moment x.history) x.known x.now.enders s) (numbers : NumbersHold true x) (made : MadeHolds x) (told : Answer K V)
    (i : ℕ) (g : Grant) where
  abbrev old : Held K V
  old = held_in batch_size roots NoChange s

  abbrev new : Held K V
  new = held_in batch_size roots (changed_by {S = S} same (StepsMaking i g) s) n

  abbrev m : Moment K V
  m = moment x.history

  module _ (b : Beginning K) (makes : s.makers i ≡ Some b) (m2 : Mem (Node K V)) (machine : NewMap) (end : Advance Setting)
      (computed : making_steps {S = S} same by_hasher batch_size roots slot_of s g b ≡ Some (m2, (machine, end)))
      (did : MakingStepsWithEndings V same same batch_size roots slot_of s.world s.maps s.calls s.makers s.enders i b m2 (machine, end))
      (came : MakingCame {S = S} same by_hasher batch_size roots slot_of s i b did.step.w2 machine n end) (leads : MakingLeads same hash i end s old new)
      (goes : (let to = leads b makes in MadeTo same hash s old new i b to.0 to.2.step.w2 end to.3 n)) (at2 : IsAt same hash new n) (it : Making S) (here : x.now.makers i ≡ Some it) (map_is : it.map ≡ b.map)
      (machine_is : it.machine ≡ b.machine) where
    abbrev Counted : ℕ → NewMap → Type 0
    Counted map first = (made_for map x.history ≡ in_hand (table_left first progress.Goes)) × (has_root first.stands ≡ true → capacity_or (map_at map m) ≡ pairs_for first.len)

    counted : Counted b.map b.machine
    counted = subst (λ (map : ℕ). Counted map b.machine) map_is (subst (λ (first : NewMap). Counted it.map first) machine_is (made.coming i it here))

    rooted : Rooted b.machine.stands (machine, end)
    rooted =
        step_rooted b.machine s.world.memory m2 (changed_of s.world.memory g (new_map_plan {K = K} {V = V} b.machine)) (machine, end) b.machine.stands refl
        (was_told s.world.memory g (new_map_plan {K = K} {V = V} b.machine) (m2, (machine, end)) computed)

    abbrev effects : ℕ → List Effect
    effects map = effects_of (acts.Making map) x.known new.changed

    abbrev w : ℕ → Moment K V
    w map = with_effects None (Some map) (effects map) m

    abbrev entry : Entry K V
    entry = record { deed = making_deed it.map it.machine machine; outcome = making_outcome end; effects = effects it.map; refused = is_refusal new.changed }

    had_is : (q : Bool) → has_root it.machine.stands ≡ q → has_root b.machine.stands ≡ q
    had_is q e = sym (ap (λ (c : NewMap). has_root c.stands) machine_is) ∙ e

    rootless : has_root it.machine.stands ≡ false → effects it.map ≡ []
    rootless none = rootless_quiet b.machine old.memory new.memory new.changed ((leads b makes).0, end) b.machine.stands (had_is false none) (leads b makes).1 (acts.Making it.map) x.known

    freed : has_root it.machine.stands ≡ true → has_root machine.stands ≡ false → effects it.map ≡ []
    freed was none = frees_quietly b.machine old.memory new.memory new.changed ((leads b makes).0, end) b.machine.stands (rooted.0 (had_is true was) none) (leads b makes).1 it.map x.known

    failed : has_root it.machine.stands ≡ true → has_root machine.stands ≡ false → made_for it.map x.history ≡ 0
    failed was none = (made.coming i it here).0 ∙ ap (λ (c : NewMap). in_hand (table_left c progress.Goes)) machine_is ∙ freeing_none b.machine b.machine.stands refl (rooted.0 (had_is true was) none)

    -- another making is of another map
    apart : (j : ℕ) (d : Making S) → (j ≡ i → ⊥) → x.now.makers j ≡ Some d → d.map ≢ it.map
    apart j d ne there same_map =
        (let other = there_alike (makes_so by_hasher) made_so (x.now.makers j) (s.makers j) (is.makers j) d there in
        at.together.makings.numbers j i other.0 b ne other.1 makes (sym (ap (λ (p : ℕ × ((K → ℕ) × NewMap)). p.0) other.2) ∙ same_map ∙ map_is))

    its : Comes b m
    its = maps.coming i b makes

    itself : (q : Bool) → has_root b.machine.stands ≡ q → ComesBy q b m
    itself q e = subst (λ (p : Bool). ComesBy p b m) e its

    -- while it goes on,
    module _ (on : end ≡ progress.Goes) where
      makers_by : (p : Advance Setting) → p ≡ progress.Goes → MakingCame {S = S} same by_hasher batch_size roots slot_of s i b did.step.w2 machine n p → n.makers ≡ with_at s.makers i (Some (record b { machine = machine }))
      makers_by progress.Goes e c = ap (λ (z : Scene K V). z.makers) c
      makers_by progress.Waits e c = absurd c
      makers_by (progress.Done setting) e c = absurd (cc e)
      makers_by (progress.Refused fault) e c = absurd (cc e)

      led_by : (c : NewMap) (w2 : World (Node K V)) (p : Advance Setting) → p ≡ progress.Goes → (comes : MakingHasOutcome same hash s old new i b c w2 p) → MadeTo same hash s old new i b c w2 p comes n
          → n.makers ≡ with_at s.makers i (Some (record b { machine = c }))
      led_by c w2 progress.Goes e comes to = ap (λ (z : Scene K V). z.makers) to
      led_by c w2 progress.Waits e comes to = absurd comes
      led_by c w2 (progress.Done setting) e comes to = absurd (cc e)
      led_by c w2 (progress.Refused fault) e comes to = absurd (cc e)

      then_there : (c : NewMap) → n.makers ≡ with_at s.makers i (Some (record b { machine = c })) → n.makers i ≡ Some (record b { machine = c })
      then_there c makers = ap (λ (h : ℕ → Option (Beginning K)). h i) makers ∙ at_same s.makers i (Some (record b { machine = c })) i refl

      there : n.makers i ≡ Some (record b { machine = machine })
      there = then_there machine (makers_by end on came)

      one_machine : (leads b makes).0 ≡ machine
      one_machine =
          let to = leads b makes in
          ap (λ (z : Beginning K). z.machine)
          (same_some (record b { machine = to.0 }) (record b { machine = machine }) (sym (then_there to.0 (led_by to.0 to.2.step.w2 end on to.3 goes)) ∙ there))

      len_same : machine.len ≡ it.machine.len
      len_same =
          (at2.together.makings.facts i (record b { machine = machine }) there).len_is ∙ sym (at.together.makings.facts i b makes).len_is
          ∙ sym (ap (λ (c : NewMap). c.len) machine_is)

      leads_on : MakingLeads same hash i progress.Goes s old new
      leads_on = subst (λ (p : Advance Setting). MakingLeads same hash i p s old new) on leads

      bare_by : (q : Bool) → has_root b.machine.stands ≡ q → tables_of b.map (w b.map) ≡ []
      bare_by true was =
          (new_maps_stay K V same hash named m x.known s old new at holds.shows.whole.all.shown i leads_on b makes (Some b.map) (at_root b.given b.machine.setting.root) (itself true was)).no_tables
      bare_by false none =
          ap (λ (fs : List Effect). tables_of b.map (with_effects None (Some b.map) fs m))
          (rootless_quiet b.machine old.memory new.memory new.changed ((leads b makes).0, end) b.machine.stands none (leads b makes).1 (acts.Making b.map) x.known)
          ∙ comes_bare b m its

      abbrev CountsFor : ℕ → Type 0
      CountsFor map = length (filter is_table_made (effects map)) + made_for map x.history ≡ length (tables_of map (w map)) + in_hand (table_left machine progress.Goes)

      counts : CountsFor b.map
      counts =
          subst (λ (c : NewMap). length (filter is_table_made (effects b.map)) + made_for b.map x.history ≡ length (tables_of b.map (w b.map)) + in_hand (table_left c progress.Goes)) one_machine
          (subst (λ (p : Advance Setting). length (filter is_table_made (effects b.map)) + made_for b.map x.history ≡ length (tables_of b.map (w b.map)) + in_hand (table_left (leads b makes).0 p)) on
          (counts_made same hash x s old new at holds.shows i b makes machine end leads rooted
          (was_new same by_hasher hash batch_size roots m x.known x.now.enders s n NoChange new at holds.shows.whole maps i g b m2 machine end makes computed did came leads) (comes_bare b m its) counted.0 counted.1))

      own : IsComing (entry ∷ x.history) (record it { machine = machine })
      own =
          own_then x made numbers maps.names i it here machine end new.changed apart rootless freed failed (subst CountsFor (sym map_is) counts)
          (subst (λ (map : ℕ). tables_of map (w map) ≡ []) (sym map_is) (bare_by (has_root b.machine.stands) refl)) len_same
          (λ none. ap (λ (map : ℕ). map_at map m) map_is ∙ (itself false (had_is false none)).none)

    -- So it is then.
    pub made_then : (answers : List (Answer K V))
        → MadeHolds (record { now = made_on i it machine end (record x.now { memory = m2 }); known = known_after (acts.Making it.map) new.changed x.known; history = entry ∷ x.history; told = answers })
    made_then answers = by end refl
      where
        then_at : Advance Setting → Now K V S
        then_at p = made_on i it machine p (record x.now { memory = m2 })

        as_made : (p : Advance Setting) (next : Option (Making S)) → (then_at p).makers ≡ with_at x.now.makers i next → ((d : Making S) → next ≡ Some d → IsComing (entry ∷ x.history) d)
            → MadeHolds (record { now = then_at p; known = known_after (acts.Making it.map) new.changed x.known; history = entry ∷ x.history; told = answers })
        as_made p next makers its_own =
            then_made x made numbers maps.names i it here machine end new.changed apart rootless freed failed (then_at p) (known_after (acts.Making it.map) new.changed x.known) answers next makers its_own

        by : (p : Advance Setting) → end ≡ p
            → MadeHolds (record { now = then_at p; known = known_after (acts.Making it.map) new.changed x.known; history = entry ∷ x.history; told = answers })
        by progress.Goes on =
            as_made progress.Goes (Some (record it { machine = machine })) refl (λ d is_it. subst (IsComing (entry ∷ x.history)) (same_some (record it { machine = machine }) d is_it) (own on))
        by progress.Waits on = absurd (subst (λ (p : Advance Setting). MakingCame {S = S} same by_hasher batch_size roots slot_of s i b did.step.w2 machine n p) on came)
        by (progress.Done setting) on = as_made (progress.Done setting) None refl (λ d none. absurd (cc none))
        by (progress.Refused fault) on = as_made (progress.Refused fault) None refl (λ d none. absurd (cc none))

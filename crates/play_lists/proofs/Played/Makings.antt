-- Makings and ends of maps that are played come to where they have led.
use Rattle.std.specs.Prelude.{◌++◌, Option, Some, None, option_map}
use Rattle.std.proofs.Common.{◌≡◌, ℕ, Bool, false, [], ◌∷◌, refl, ap, sym, subst, ◌∙◌}
use Rattle.run_schedules.specs.Given.SeizeWordsMem.{Mem}
use Rattle.run_schedules.specs.Given.SeizeWordsPlan.{Plan}
use Rattle.seize.specs.World.{World, Row, with_at}
use Rattle.seize.specs.declared.advance.Advance.{Advance}
use Rattle.seize.specs.declared.advance.Advance.TheVariants as progress
use Rattle.seize.specs.declared.rows.settle.Settled.{Settled}
use Rattle.seize.specs.declared.rows.settle.Settled.TheVariants as settled
use Rattle.seize_acts.specs.Acts.Answers.{Grant, stepped, then_on}
use Rattle.map_tables.specs.declared.node.Node.{Node}
use Rattle.map_tables.specs.declared.setting.Setting.{Setting}
use Rattle.run_kept.specs.Given.ResizeNewMap.{new_map_plan}
use Rattle.run_finds.specs.Given.ResizeDeclared.new_map.NewMap.{NewMap}
use Rattle.run_schedules.specs.Given.RawEndMap.{ending, end_map_plan}
use Rattle.run_finds.specs.Given.RawDeclared.machines.end_map.EndMap.{EndMap}
use Rattle.many_acts.proofs.Given.CallersTogether.Users.{events_rows}
use Rattle.many_acts.specs.Given.FinishesEndings.{Finishing, StepsOfEnding, MakingStepsWithEndings, finishing_of, waiting_by}
use Rattle.many_acts.specs.Given.FinishesMakings.{Beginning}
use Rattle.many_acts.specs.Given.FinishesMaps.{Standing}
use Rattle.many_acts.specs.Given.ScenesEnding.{ending_begun as scene_ending}
use Rattle.many_acts.specs.Given.ScenesMaking.{making_begun as begun_making}
use Rattle.many_acts.specs.Given.ScenesScene.{Scene, slot_of}
use Rattle.many_acts.specs.Acts.Acts.{Act, Answer, Nothing, OfMaking, OfEnding, BeginsMaking, StepsMaking, BeginsEnding, StepsEnding}
use Rattle.many_acts.specs.Acts.AsSteps.{changed_of}
use Rattle.many_acts.specs.Acts.Courses.{set_up}
use Rattle.many_acts.specs.Acts.Leads.{EndingCame, Led, MakingCame, making_steps, ending_steps}
use Rattle.play_lists.specs.Played.Play.{Ending, Making, Now, State, ended_on, ending_begun, ending_stepped, made_on, making_begun, making_stepped, play_act, step_ending, step_making}
use Rattle.play_lists.specs.Played.Reached.{IsOf, made_so, makes_so, stands_so}
use Rattle.play_lists.proofs.Played.Alike.{both_at, there_too}

module _ {K V S : Type 0} (same : K → K → Bool) (hash : S → K → ℕ) (batch_size roots : ℕ) (s : Scene K V) (aborts : ℕ → V) (x : State K V S) (is : IsOf hash s s.world.row x.now)
    (n : Scene K V) (i : ℕ) where
  abbrev pub Plays : Act K V S → Answer K V → Type 0
  Plays act told =
      (y : State K V S) × (play_act same hash batch_size roots aborts act x ≡ Some y) × IsOf hash n n.world.row y.now × (y.told ≡ x.told ++ told ∷ [])
      × (y.now.all ≡ x.now.all)

  to : (y : Now K V S) (z : Scene K V) → n ≡ z → IsOf hash z z.world.row y → IsOf hash n n.world.row y
  to y z e so = subst (λ (w : Scene K V). IsOf hash w w.world.row y) (sym e) so

  says : (answer told : Answer K V) → told ≡ answer → x.told ++ answer ∷ [] ≡ x.told ++ told ∷ []
  says answer told e = ap (λ (a : Answer K V). x.told ++ a ∷ []) (sym e)

  -- maps, makings and ends are other ones then, and no row has gone on
  others_then : (w2 : World (Node K V)) (maps2 : ℕ → Option (Standing K)) (makers2 : ℕ → Option (Beginning K)) (enders2 : ℕ → Option (Finishing K V)) (m2 : Mem (Node K V))
      (maps : ℕ → Option (Setting × S)) (makers : ℕ → Option (Making S)) (enders : ℕ → Option Ending) → m2 ≡ w2.memory → ((j : ℕ) → w2.row j ≡ s.world.row j)
      → ((m : ℕ) → option_map (stands_so hash) (maps m) ≡ option_map set_up (maps2 m)) → ((j : ℕ) → option_map (makes_so hash) (makers j) ≡ option_map made_so (makers2 j))
      → ((j : ℕ) → option_map (λ (f : Ending). f.machine) (enders j) ≡ option_map (λ (f : Finishing K V). f.machine) (enders2 j))
      → IsOf hash (record s { world = w2; maps = maps2; makers = makers2; enders = enders2 }) w2.row (record x.now { memory = m2; maps = maps; makers = makers; enders = enders })
  others_then w2 maps2 makers2 enders2 m2 maps makers enders memory rows so making ends = record {
    memory = memory;
    maps = so;
    calls = is.calls;
    makers = making;
    enders = ends;
    between = λ j none. is.between j none ∙ sym (rows j);
    calling = is.calling;
  }

  pub making_begins : (map places : ℕ) (hasher : S) (given : Setting) (told : Answer K V)
      → Led same hash batch_size roots slot_of (BeginsMaking i map hasher given places) s told n → Plays (BeginsMaking i map hasher given places) told
  making_begins map places hasher given told (none, comes) =
      let first = begun_making (hash hasher) roots map given places in
      let y = making_begun i roots map hasher given places x in (
        y,
        refl,
        to y.now (record s { makers = with_at s.makers i (Some first) }) comes
            (others_then s.world s.maps (with_at s.makers i (Some first)) s.enders x.now.memory x.now.maps y.now.makers x.now.enders is.memory (λ j. refl) is.maps
            (both_at (option_map (makes_so hash)) (option_map made_so) x.now.makers s.makers i (Some (record { map = map; hasher = hasher; machine = first.machine })) (Some first) refl is.makers) is.enders),
        says Nothing told none,
        refl,
      )

  -- it takes a step
  module _ (b : Beginning K) (makes : s.makers i ≡ Some b) (g : Grant) (m2 : Mem (Node K V)) (machine : NewMap) where
    it : (c : Making S) × (x.now.makers i ≡ Some c) × (makes_so hash c ≡ made_so b)
    it = there_too (makes_so hash) made_so (x.now.makers i) (s.makers i) (is.makers i) b makes

    abbrev Made : Type 0
    Made = ℕ × ((K → ℕ) × NewMap)

    abbrev making : Plan (Node K V) (NewMap × Advance Setting)
    making = new_map_plan it.0.machine

    -- it goes on as that, or not
    makers_then : (next : Option (Making S)) (next2 : Option (Beginning K)) → option_map (makes_so hash) next ≡ option_map made_so next2
        → (j : ℕ) → option_map (makes_so hash) (with_at x.now.makers i next j) ≡ option_map made_so (with_at s.makers i next2 j)
    makers_then next next2 e = both_at (option_map (makes_so hash)) (option_map made_so) x.now.makers s.makers i next next2 e is.makers

    maps_then : (setting : Setting) (standing : Standing K) → standing.setting ≡ setting → standing.hash ≡ b.hash
        → (m : ℕ) → option_map (stands_so hash) (with_at x.now.maps it.0.map (Some (setting, it.0.hasher)) m) ≡ option_map set_up (with_at s.maps b.map (Some standing) m)
    maps_then setting standing setting_is hash_is m =
        ap (λ (p : Made). option_map (stands_so hash) (with_at x.now.maps p.0 (Some (setting, it.0.hasher)) m)) it.2
        ∙ both_at (option_map (stands_so hash)) (option_map set_up) x.now.maps s.maps b.map (Some (setting, it.0.hasher)) (Some standing)
        (ap (λ (p : Made). Some (setting, p.1.0)) it.2 ∙ ap (λ (h : K → ℕ). Some (setting, h)) (sym hash_is) ∙ ap (λ (v : Setting). Some (v, standing.hash)) (sym setting_is)) is.maps m

    made : (told : Advance Setting) (did : MakingStepsWithEndings V same same batch_size roots slot_of s.world s.maps s.calls s.makers s.enders i b m2 (machine, told))
        → MakingCame same hash batch_size roots slot_of s i b did.step.w2 machine n told → IsOf hash n n.world.row (made_on i it.0 machine told (record x.now { memory = m2 }))
    made progress.Goes did comes =
        to (made_on i it.0 machine progress.Goes (record x.now { memory = m2 })) (record s { world = did.step.w2; makers = with_at s.makers i (Some (record b { machine = machine })) }) comes
        (others_then did.step.w2 s.maps (with_at s.makers i (Some (record b { machine = machine }))) s.enders m2 x.now.maps (with_at x.now.makers i (Some (record it.0 { machine = machine })))
        x.now.enders (sym did.step.memory) (λ j. ap (λ (r : ℕ → Row). r j) (events_rows batch_size did.step.events s.world did.step.w2 did.step.users did.step.runs)) is.maps
        (makers_then (Some (record it.0 { machine = machine })) (Some (record b { machine = machine })) (ap (λ (p : Made). Some (p.0, (p.1.0, machine))) it.2)) is.enders)
    made progress.Waits did never = absurd never
    made (progress.Done setting) did (standing, is_made, comes) =
        to (made_on i it.0 machine (progress.Done setting) (record x.now { memory = m2 }))
        (record s { world = did.step.w2; maps = with_at s.maps b.map (Some standing); makers = with_at s.makers i None }) comes
        (others_then did.step.w2 (with_at s.maps b.map (Some standing)) (with_at s.makers i None) s.enders m2 (with_at x.now.maps it.0.map (Some (setting, it.0.hasher)))
        (with_at x.now.makers i None) x.now.enders (sym did.step.memory)
        (λ j. ap (λ (r : ℕ → Row). r j) (events_rows batch_size did.step.events s.world did.step.w2 did.step.users did.step.runs))
        (maps_then setting standing is_made.setting_is is_made.hash_is) (makers_then None None refl) is.enders)
    made (progress.Refused fault) did comes =
        to (made_on i it.0 machine (progress.Refused fault) (record x.now { memory = m2 })) (record s { world = did.step.w2; makers = with_at s.makers i None }) comes
        (others_then did.step.w2 s.maps (with_at s.makers i None) s.enders m2 x.now.maps (with_at x.now.makers i None) x.now.enders (sym did.step.memory)
        (λ j. ap (λ (r : ℕ → Row). r j) (events_rows batch_size did.step.events s.world did.step.w2 did.step.users did.step.runs)) is.maps (makers_then None None refl) is.enders)

    -- nobody reclaims all, or who does is as far
    all_is : (told : Advance Setting) → (made_on i it.0 machine told (record x.now { memory = m2 })).all ≡ x.now.all
    all_is progress.Goes = refl
    all_is progress.Waits = refl
    all_is (progress.Done setting) = refl
    all_is (progress.Refused fault) = refl

    pub making_steps_so : (end : Advance Setting) → making_steps same hash batch_size roots slot_of s g b ≡ Some (m2, (machine, end))
        → (did : MakingStepsWithEndings V same same batch_size roots slot_of s.world s.maps s.calls s.makers s.enders i b m2 (machine, end))
        → MakingCame same hash batch_size roots slot_of s i b did.step.w2 machine n end → (told : Answer K V) → told ≡ OfMaking end → Plays (StepsMaking i g) told
    making_steps_so end computed did came told told_is =
        let comes_to : stepped x.now.memory g making ≡ Some (m2, (machine, end)) =
        ap (λ (v : Mem (Node K V)). stepped v g making) is.memory ∙ ap (λ (p : Made). stepped s.world.memory g (new_map_plan {K = K} {V = V} p.1.1)) it.2 ∙ computed in (
          making_stepped i it.0 (changed_of x.now.memory g making) x (m2, (machine, end)),
          ap (λ (o : Option (Making S)). then_on o (step_making same hash batch_size roots aborts i g x)) it.1
              ∙ ap (option_map (making_stepped i it.0 (changed_of x.now.memory g making) x)) comes_to,
          made end did came,
          says (OfMaking end) told told_is,
          all_is end,
        )

  pub ending_begins : (m : ℕ) (told : Answer K V) → Led same hash batch_size roots slot_of (BeginsEnding i m) s told n → Plays (BeginsEnding i m) told
  ending_begins m told (standing, stands, none, comes) =
      let at = there_too (stands_so hash) set_up (x.now.maps m) (s.maps m) (is.maps m) standing stands in
      let y = ending_begun i m x at.0 in
      let z = scene_ending m i standing s in (
        y,
        ap (option_map (ending_begun i m x)) at.1,
        to y.now z comes
            (others_then z.world z.maps s.makers z.enders x.now.memory y.now.maps x.now.makers y.now.enders is.memory (λ j. refl)
            (both_at (option_map (stands_so hash)) (option_map set_up) x.now.maps s.maps m None None refl is.maps) is.makers
            (both_at (option_map (λ (f : Ending). f.machine)) (option_map (λ (f : Finishing K V). f.machine)) x.now.enders s.enders i (Some (record { map = m; machine = ending at.0.0 false }))
            (Some (finishing_of standing s.world)) (ap (λ (p : Setting × (K → ℕ)). Some (ending p.0 false)) at.2) is.enders)),
        says Nothing told none,
        refl,
      )

  -- it takes a step
  module _ (f : Finishing K V) (ends : s.enders i ≡ Some f) (g : Grant) (m2 : Mem (Node K V)) (machine : EndMap) where
    its : (c : Ending) × (x.now.enders i ≡ Some c) × (c.machine ≡ f.machine)
    its = there_too (λ (e : Ending). e.machine) (λ (e : Finishing K V). e.machine) (x.now.enders i) (s.enders i) (is.enders i) f ends

    abbrev finishing : Plan (Node K V) (EndMap × Settled (Node K V))
    finishing = end_map_plan its.0.machine

    -- the end is another one then, and nothing else has changed
    module _ (told : Settled (Node K V)) (did : StepsOfEnding V same same batch_size roots slot_of s.world s.maps s.calls s.makers s.enders i f m2 (machine, told)) where
      ended_then : (next : Option (Finishing K V)) → option_map (λ (e : Ending). e.machine) (ended_on its.0 machine told) ≡ option_map (λ (e : Finishing K V). e.machine) next
          → n ≡ record s { world = did.w2; enders = with_at s.enders i next }
          → IsOf hash n n.world.row (record x.now { memory = m2; enders = with_at x.now.enders i (ended_on its.0 machine told) })
      ended_then next e comes =
          to (record x.now { memory = m2; enders = with_at x.now.enders i (ended_on its.0 machine told) }) (record s { world = did.w2; enders = with_at s.enders i next }) comes
          (others_then did.w2 s.maps s.makers (with_at s.enders i next) m2 x.now.maps x.now.makers (with_at x.now.enders i (ended_on its.0 machine told)) (sym did.memory)
          (λ j. ap (λ (r : ℕ → Row). r j) did.spares.rows) is.maps is.makers
          (both_at (option_map (λ (e : Ending). e.machine)) (option_map (λ (e : Finishing K V). e.machine)) x.now.enders s.enders i (ended_on its.0 machine told) next e is.enders))

    ended : (told : Settled (Node K V)) (did : StepsOfEnding V same same batch_size roots slot_of s.world s.maps s.calls s.makers s.enders i f m2 (machine, told))
        → EndingCame same hash batch_size roots slot_of s i f did.w2 did.deed machine n told
        → IsOf hash n n.world.row (record x.now { memory = m2; enders = with_at x.now.enders i (ended_on its.0 machine told) })
    ended settled.Goes did (none, comes) = ended_then settled.Goes did (Some (record f { machine = machine; waits = f.waits ++ waiting_by did.deed })) refl comes
    ended settled.Waits did never = absurd never
    ended (settled.Gave value) did (b, was, taken, comes) =
        ended_then (settled.Gave value) did (Some (record f { machine = machine; back = f.back ++ b ∷ []; waits = f.waits ++ waiting_by did.deed })) refl comes
    ended settled.Done did (none, finished, comes) = ended_then settled.Done did None refl comes

    pub ending_steps_so : (end : Settled (Node K V)) → ending_steps same hash batch_size roots slot_of s g f ≡ Some (m2, (machine, end))
        → (did : StepsOfEnding V same same batch_size roots slot_of s.world s.maps s.calls s.makers s.enders i f m2 (machine, end))
        → EndingCame same hash batch_size roots slot_of s i f did.w2 did.deed machine n end → (told : Answer K V) → told ≡ OfEnding end → Plays (StepsEnding i g) told
    ending_steps_so end computed did came told told_is =
        let comes_to : stepped x.now.memory g finishing ≡ Some (m2, (machine, end)) =
        ap (λ (v : Mem (Node K V)). stepped v g finishing) is.memory ∙ ap (λ (e : EndMap). stepped s.world.memory g (end_map_plan {K = K} {V = V} e)) its.2 ∙ computed in (
          ending_stepped i its.0 (changed_of x.now.memory g finishing) x (m2, (machine, end)),
          ap (λ (o : Option Ending). then_on o (step_ending same hash batch_size roots aborts i g x)) its.1
              ∙ ap (option_map (ending_stepped i its.0 (changed_of x.now.memory g finishing) x)) comes_to,
          ended end did came,
          says (OfEnding end) told told_is,
          refl,
        )

-- A step that is played is the one that has led on: of the same machine, with the same end, and what it has changed is the same.
use Rattle.std.specs.Prelude.{Option, Some, option_map}
use Rattle.std.specs.Option.{option_map_or}
use Rattle.std.proofs.Common.{◌≡◌, ℕ, Bool, ap, sym, ◌∙◌}
use Rattle.run_schedules.specs.Given.SeizeWordsMem.{Mem}
use Rattle.run_schedules.specs.Given.SeizeWordsPlan.{Plan}
use Rattle.seize.specs.World.{Row}
use Rattle.seize.specs.declared.advance.Advance.{Advance as Making'}
use Rattle.seize.specs.declared.rows.settle.Settled.{Settled}
use Rattle.map_tables.specs.declared.node.Node.{Node}
use Rattle.map_tables.specs.declared.setting.Setting.{Setting}
use Rattle.run_kept.specs.Given.ResizeNewMap.{new_map_plan}
use Rattle.run_finds.specs.Given.ResizeDeclared.new_map.NewMap.{NewMap}
use Rattle.run_schedules.specs.Given.RawEndMap.{end_map_plan}
use Rattle.run_finds.specs.Given.RawMachine.{machine_plan}
use Rattle.run_finds.specs.Given.RawDeclared.machines.end_map.EndMap.{EndMap}
use Rattle.run_finds.specs.Given.RawDeclared.machines.machine.Machine.{Machine}
use Rattle.run_finds.specs.Given.RawDeclared.machines.progress.Progress.{Progress}
use Rattle.run_kept.specs.Given.EffectsDeclared.changed.Changed.{Changed}
use Rattle.run_kept.specs.Given.EffectsDeclared.changed.Changed.TheVariants.{Nothing as NoChange}
use Rattle.many_acts.specs.Given.CallersTogether.{UnderWay}
use Rattle.many_acts.specs.Given.FinishesEndings.{Finishing}
use Rattle.many_acts.specs.Given.FinishesMachines.{machine_of}
use Rattle.many_acts.specs.Given.FinishesMakings.{Beginning}
use Rattle.many_acts.specs.Given.FinishesMaps.{Standing}
use Rattle.many_acts.specs.Given.ScenesScene.{Scene, slot_of}
use Rattle.seize_acts.specs.Acts.Answers.{Grant, stepped, then_on}
use Rattle.many_acts.specs.Acts.Acts.{Answer, StepsCall, StepsEnding, StepsMaking}
use Rattle.many_acts.specs.Acts.AsSteps.{changed_by, changed_of}
use Rattle.many_acts.specs.Acts.Courses.{set_up}
use Rattle.many_acts.specs.Acts.Leads.{CallCame, call_at, ending_steps, making_steps}
use Rattle.play_lists.specs.Played.Play.{Calling, Ending, Making, State, call_stepped, ending_stepped, making_stepped}
use Rattle.play_lists.specs.Played.Reached.{IsOf, made_so, makes_so, stands_so}
use Rattle.play_lists.proofs.Played.PlayedAs.{PlayedAs}
use Rattle.run_finds.proofs.Given.General.{same_some}

-- what is told alike of both is told alike of what is there
both_there : {A B C : Type 0} (f : A → C) (g : B → C) (o : Option A) (p : Option B) → option_map f o ≡ option_map g p → (a : A) (b : B) → o ≡ Some a → p ≡ Some b → f a ≡ g b
both_there f g o p is a b here there = same_some (f a) (g b) (sym (ap (option_map f) here) ∙ is ∙ ap (option_map g) there)

module _ {K V S : Type 0} (same : K → K → Bool) (hash : S → K → ℕ) (batch_size roots : ℕ) (aborts : ℕ → V) (s n : Scene K V) (rows : ℕ → Row) (x y : State K V S) (is : IsOf hash s rows x.now) (i : ℕ) where
  -- the step of a call
  pub record CallTied (m : ℕ) (g : Grant) (told : Answer K V) (came : CallCame same hash batch_size roots slot_of s i m g told n) : Type 0 where
    pub it : Calling K V
    pub here : x.now.calls m i ≡ Some it
    pub machine : it.machine ≡ machine_of came.call
    pub comes : y ≡ call_stepped i m it (changed_by {S = S} same (StepsCall i m g) s) x (came.memory, (came.machine, came.progress))

  module _ (m : ℕ) (g : Grant) (told : Answer K V) (came : CallCame same hash batch_size roots slot_of s i m g told n) (at : Setting × S) (at_is : x.now.maps m ≡ Some at) (c : Calling K V)
      (here : x.now.calls m i ≡ Some c) (end : Mem (Node K V) × (Machine K V K × Progress (Node K V))) (steps : stepped x.now.memory g (machine_plan same same (hash at.1) c.machine) ≡ Some end)
      (comes : y ≡ call_stepped i m c (changed_of x.now.memory g (machine_plan same same (hash at.1) c.machine)) x end) where
    abbrev plan_then : Plan (Node K V) (Machine K V K × Progress (Node K V))
    plan_then = machine_plan same same came.standing.hash (machine_of came.call)

    abbrev plan_is : Plan (Node K V) (Machine K V K × Progress (Node K V))
    plan_is = machine_plan same same (hash at.1) c.machine

    its_machine : c.machine ≡ machine_of came.call
    its_machine = both_there (λ (d : Calling K V). d.machine) machine_of (x.now.calls m i) (s.calls m i) (is.calls m i) c came.call here came.here

    one_plan : plan_is ≡ plan_then
    one_plan =
        ap (λ (p : Setting × (K → ℕ)). machine_plan same same p.1 c.machine) (both_there (stands_so hash) set_up (x.now.maps m) (s.maps m) (is.maps m) at came.standing at_is came.stands)
        ∙ ap (λ (v : Machine K V K). machine_plan same same came.standing.hash v) its_machine

    one_end : end ≡ (came.memory, (came.machine, came.progress))
    one_end =
        same_some end (came.memory, (came.machine, came.progress))
        (sym steps ∙ ap (λ (v : Mem (Node K V)). stepped v g plan_is) is.memory ∙ ap (stepped s.world.memory g) one_plan ∙ came.computed)

    its_call : call_at s i m ≡ Some (came.standing, came.call)
    its_call =
        ap (λ (o : Option (Standing K)). then_on o (λ standing. then_on (s.calls m i) (λ u. Some (standing, u)))) came.stands
        ∙ ap (λ (o : Option (UnderWay K V K)). then_on o (λ u. Some (came.standing, u))) came.here

    one_change : changed_of x.now.memory g plan_is ≡ changed_by {S = S} same (StepsCall i m g) s
    one_change =
        ap (λ (v : Mem (Node K V)). changed_of v g plan_is) is.memory ∙ ap (changed_of s.world.memory g) one_plan
        ∙ sym (ap (λ (o : Option (Standing K × UnderWay K V K)). option_map_or (λ it. changed_of s.world.memory g (machine_plan same same it.0.hash (machine_of it.1))) o NoChange) its_call)

    call_tied_so : CallTied m g told came
    call_tied_so = record {
      it = c;
      here = here;
      machine = its_machine;
      comes = comes ∙ ap (λ (z : Changed). call_stepped i m c z x end) one_change
          ∙ ap (λ (z : Mem (Node K V) × (Machine K V K × Progress (Node K V))). call_stepped i m c (changed_by {S = S} same (StepsCall i m g) s) x z) one_end;
    }

  pub call_tied : (m : ℕ) (g : Grant) (told : Answer K V) (came : CallCame same hash batch_size roots slot_of s i m g told n) → PlayedAs same hash batch_size roots aborts x y (StepsCall i m g) → CallTied m g told came
  call_tied m g told came (at, at_is, (c, here, end, steps, comes)) = call_tied_so m g told came at at_is c here end steps comes

  -- that of a making
  pub record MakingTied (g : Grant) (b : Beginning K) (end : Mem (Node K V) × (NewMap × Making' Setting)) : Type 0 where
    pub it : Making S
    pub here : x.now.makers i ≡ Some it
    pub its : makes_so hash it ≡ made_so b
    pub comes : y ≡ making_stepped i it (changed_by {S = S} same (StepsMaking i g) s) x end

  pub making_tied : (g : Grant) (b : Beginning K) → s.makers i ≡ Some b → (end : Mem (Node K V) × (NewMap × Making' Setting)) → making_steps same hash batch_size roots slot_of s g b ≡ Some end
      → PlayedAs same hash batch_size roots aborts x y (StepsMaking i g) → MakingTied g b end
  making_tied g b makes end computed (c, here, end2, steps, comes) =
      let its : makes_so hash c ≡ made_so b = both_there (makes_so hash) made_so (x.now.makers i) (s.makers i) (is.makers i) c b here makes in
      let machine : c.machine ≡ b.machine = ap (λ (p : ℕ × ((K → ℕ) × NewMap)). p.1.1) its in
      let plan = new_map_plan {K = K} {V = V} c.machine in
      let one_end : end2 ≡ end = same_some end2 end
      (sym steps ∙ ap (λ (v : Mem (Node K V)). stepped v g plan) is.memory ∙ ap (λ (v : NewMap). stepped s.world.memory g (new_map_plan {K = K} {V = V} v)) machine ∙ computed) in
      let one_change : changed_of x.now.memory g plan ≡ changed_by {S = S} same (StepsMaking i g) s =
      ap (λ (v : Mem (Node K V)). changed_of v g plan) is.memory ∙ ap (λ (v : NewMap). changed_of s.world.memory g (new_map_plan {K = K} {V = V} v)) machine
      ∙ sym (ap (λ (o : Option (Beginning K)). option_map_or (λ d. changed_of s.world.memory g (new_map_plan {K = K} {V = V} d.machine)) o NoChange) makes) in
      record {
        it = c;
        here = here;
        its = its;
        comes = comes ∙ ap (λ (z : Changed). making_stepped i c z x end2) one_change ∙ ap (λ (z : Mem (Node K V) × (NewMap × Making' Setting)). making_stepped i c (changed_by {S = S} same (StepsMaking i g) s) x z) one_end;
      }

  -- and that of an end
  pub record EndingTied (g : Grant) (f : Finishing K V) (end : Mem (Node K V) × (EndMap × Settled (Node K V))) : Type 0 where
    pub it : Ending
    pub here : x.now.enders i ≡ Some it
    pub machine : it.machine ≡ f.machine
    pub comes : y ≡ ending_stepped i it (changed_by {S = S} same (StepsEnding i g) s) x end

  pub ending_tied : (g : Grant) (f : Finishing K V) → s.enders i ≡ Some f → (end : Mem (Node K V) × (EndMap × Settled (Node K V))) → ending_steps same hash batch_size roots slot_of s g f ≡ Some end
      → PlayedAs same hash batch_size roots aborts x y (StepsEnding i g) → EndingTied g f end
  ending_tied g f ends end computed (c, here, end2, steps, comes) =
      let machine : c.machine ≡ f.machine = both_there (λ (d : Ending). d.machine) (λ (d : Finishing K V). d.machine) (x.now.enders i) (s.enders i) (is.enders i) c f here ends in
      let plan = end_map_plan {K = K} {V = V} c.machine in
      let one_end : end2 ≡ end = same_some end2 end
      (sym steps ∙ ap (λ (v : Mem (Node K V)). stepped v g plan) is.memory ∙ ap (λ (v : EndMap). stepped s.world.memory g (end_map_plan {K = K} {V = V} v)) machine ∙ computed) in
      let one_change : changed_of x.now.memory g plan ≡ changed_by {S = S} same (StepsEnding i g) s =
      ap (λ (v : Mem (Node K V)). changed_of v g plan) is.memory ∙ ap (λ (v : EndMap). changed_of s.world.memory g (end_map_plan {K = K} {V = V} v)) machine
      ∙ sym (ap (λ (o : Option (Finishing K V)). option_map_or (λ d. changed_of s.world.memory g (end_map_plan {K = K} {V = V} d.machine)) o NoChange) ends) in
      record {
        it = c;
        here = here;
        machine = machine;
        comes = comes ∙ ap (λ (z : Changed). ending_stepped i c z x end2) one_change ∙ ap (λ (z : Mem (Node K V) × (EndMap × Settled (Node K V))). ending_stepped i c (changed_by {S = S} same (StepsEnding i g) s) x z) one_end;
      }

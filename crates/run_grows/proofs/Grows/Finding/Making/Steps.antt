-- After a step of a call each copier makes a table as it is to make it.
use Rattle.std.specs.Prelude.{◌≡◌, ℕ, Bool, List, Some}
use Rattle.std.proofs.Common.{ap, sym, subst, ◌∙◌, inl, inr}
use Rattle.papaya_raw.specs.Given.TablesDeclared.lengths.Reason.TheVariants.{NoPlace}
use Rattle.papaya_raw.specs.Given.TablesDeclared.node.Node.{Node}
use Rattle.papaya_raw.specs.Given.TablesDeclared.setting.Setting.{Setting}
use Rattle.papaya_raw.specs.Given.TablesDeclared.table.Table.{Table}
use Rattle.run_finds.specs.Given.ResizeNewTable.{table_after}
use Rattle.run_finds.specs.Given.ResizeDeclared.new_table.NewTable.{NewTable}
use Rattle.papaya_raw.specs.Machine.{machine_plan}
use Rattle.papaya_raw.specs.declared.machines.machine.Machine.{Machine}
use Rattle.papaya_raw.specs.declared.machines.progress.Progress.{Progress}
use Rattle.run_schedules.specs.declared.effect.Effect.{Effect}
use Rattle.run_schedules.specs.Schedules.Effects.{with_effects}
use Rattle.run_schedules.specs.Schedules.Moment.{Moment}
use Rattle.run_finds.specs.Given.EffectsDeclared.changed.Changed.{Changed}
use Rattle.run_finds.specs.Given.EffectsDeclared.changed.Changed.TheVariants as changed
use Rattle.run_finds.specs.Given.RuleMaps.{IsTable}
use Rattle.run_finds.proofs.Given.RuleKeys.Always.{always_steps}
use Rattle.run_finds.specs.Given.CallersSights.{seen_by}
use Rattle.run_finds.specs.Given.CallersTogether.{UnderWay}
use Rattle.run_finds.specs.Given.EffectsEffects.{effects_of}
use Rattle.run_finds.specs.Given.EffectsKnown.{Known}
use Rattle.run_finds.specs.Given.EffectsDeclared.acting.Acting.TheVariants as acts
use Rattle.run_finds.specs.Given.FinishesMachines.{machine_of}
use Rattle.run_finds.specs.Given.FinishesMaps.{Standing}
use Rattle.run_finds.proofs.Given.FollowsSteps.{WentTo, went_to}
use Rattle.run_finds.proofs.Given.HandsAsking.{which}
use Rattle.run_finds.specs.Given.MomentsWhole.{RefinesWhole}
use Rattle.run_grows.specs.Grows.Further.{IsFurther, MachineMakes, RefinesFurther, lengths_of}
use Rattle.run_grows.proofs.Grows.Finding.Making.Behind.{begins_behind}
use Rattle.run_grows.proofs.Grows.Finding.Making.Lengths.{KeepsLengths, effects_keep_lengths, table_length}
use Rattle.run_grows.proofs.Grows.Finding.Making.Machines.{Ends, machine_makes}
use Rattle.run_grows.proofs.Grows.Finding.Making.Such.{further_begun, further_goes, further_more, machine_more}
use Rattle.run_finds.proofs.Given.ScenesTold.{as_step}
use Rattle.run_finds.specs.Given.ScenesHeld.{Held, IsAt}
use Rattle.run_finds.specs.Given.ScenesScene.{Scene, slot_of}
use Rattle.run_finds.specs.Given.ScenesStepping.{StepLeads, scene_after}
use Rattle.run_finds.proofs.Given.SettlesCalls.{goes_as_one}

-- where a map has had further tables
pub later : {K V Q : Type 0} (m v : Moment K V) → KeepsLengths m v → (map : ℕ) (machine : Machine K V Q) → MachineMakes (IsFurther (lengths_of map m)) machine → MachineMakes (IsFurther (lengths_of map v)) machine
later m v keeps map machine makes = machine_more (IsFurther (lengths_of map m)) (IsFurther (lengths_of map v)) (λ n so. further_more (lengths_of map m) (lengths_of map v) (keeps map) n so) machine makes

module _ {K V : Type 0} (same : K → K → Bool) (hash : ℕ → K → ℕ) (name : ℕ → List ℕ) (m : Moment K V) (known : Known) (s : Scene K V) (old new : Held K V) (at : IsAt same hash old s)
    (whole : RefinesWhole same name m known s) (further : RefinesFurther m s) (map i : ℕ) (u : UnderWay K V K) (here : s.calls map i ≡ Some u) (said : Progress (Node K V))
    (leads : StepLeads same hash i said s old new) where
  abbrev to : WentTo same hash name m known s old new at whole.all.shown map i u here said leads
  to = went_to same hash name m known s old new at whole.all.shown map i u here said leads

  abbrev st : Standing K
  st = to.0

  abbrev told : Changed
  told = new.changed

  abbrev effects : List Effect
  effects = effects_of (acts.Call i map) known told

  abbrev v : Moment K V
  v = with_effects (Some (name i)) (Some map) effects m

  abbrev led : Scene K V
  led = scene_after same s old new map i st u to.1 said to.4

  abbrev Such : NewTable → Type 0
  Such = IsFurther (lengths_of map m)

  tried : (given : Setting) (table : Table) (t : ℕ) → IsTable st.chart (seen_by st.blocks (st.sights (slot_of i))) table t → Such (table_after given table NoPlace)
  tried given table t is =
      further_begun (lengths_of map m) t table (ap (λ (x : Table). x.turn) is.is)
      (table_length map (whole.all.shown.number map) st m known (whole.all.shown.maps map st to.2) t is.made ∙ ap (λ (x : Table). Some x.len) (sym is.is)) given

  came : MachineMakes Such to.1
  came =
      always_steps (Ends Such K V K) old.memory new.memory (machine_plan same same to.0.hash (machine_of u)) (to.1, said)
      (machine_makes Such K V K (further_goes (lengths_of map m) K V) same same to.0.hash (machine_of u) (further map i u here) (begins_behind Such same hash s old at map i st to.2 tried u here))
      (as_step old.memory changed.Nothing (machine_plan same same to.0.hash (machine_of u)) new.memory told (to.1, said) to.3)

  keeps : KeepsLengths m v
  keeps = effects_keep_lengths (Some (name i)) (Some map) effects m

  pub further_then : RefinesFurther v led
  further_then n j y is = elim (which s.calls map i to.4.next n j y is) as (λ _. MachineMakes (IsFurther (lengths_of n v)) (machine_of y)) [
    | inl it ↦
        subst (λ (k : ℕ). MachineMakes (IsFurther (lengths_of k v)) (machine_of y)) (sym it.0)
        (subst (λ (z : Machine K V K). MachineMakes (IsFurther (lengths_of map v)) z) (sym (goes_as_one to.1 said to.4.next to.4.goes_on y it.2)) (later m v keeps map to.1 came))
    | inr was ↦ later m v keeps n (machine_of y) (further n j y was.1)
  ]

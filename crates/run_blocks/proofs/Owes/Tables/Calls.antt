-- A step of a call, of whichever kind: its effects find its table as they must, and each call has the table that the moment says after it.
use Rattle.std.specs.Prelude.{◌≡◌, ◌<◌, ◌≤◌, ℕ, Bool, true, List, length, Option, Some, None, option_map}
use Rattle.std.proofs.Common.{ap, sym, subst, ◌∙◌, inl, inr}
use Rattle.run_debts.specs.Given.TablesDeclared.node.Node.{Node}
use Rattle.run_debts.specs.Given.TablesDeclared.table.Table.{Table as Planned}
use Rattle.run_debts.specs.Given.RawDeclared.machines.progress.Progress.{Progress}
use Rattle.run_debts.specs.Given.RunsSame.{is_same}
use Rattle.run_debts.specs.Given.RunsDeclared.effect.Effect.{Effect}
use Rattle.run_debts.specs.Given.RunsDeclared.effect.TableId.{TableId}
use Rattle.run_debts.specs.Given.SchedulesEffects.{with_effects}
use Rattle.run_debts.specs.Given.SchedulesMoment.{UnderWay as CallThere, Moment}
use Rattle.run_debts.specs.Given.SchedulesViews.{call_of, tables_of}
use Rattle.owner_calls.specs.Given.CallersTogether.{UnderWay}
use Rattle.run_debts.specs.Given.EffectsEffects.{effects_of, known_after}
use Rattle.run_debts.specs.Given.EffectsKnown.{Known}
use Rattle.run_debts.specs.Given.EffectsDeclared.acting.Acting.{Acting}
use Rattle.run_debts.specs.Given.EffectsDeclared.acting.Acting.TheVariants as acts
use Rattle.run_debts.specs.Given.FinishesMachines.{machine_of}
use Rattle.run_debts.proofs.Given.FollowsSteps.{WentTo, went_to}
use Rattle.run_debts.proofs.Given.HandsAsking.{which}
use Rattle.run_debts.specs.Given.MomentsWhole.{RefinesWhole}
use Rattle.run_blocks.specs.Owes.Making.{making_of}
use Rattle.run_blocks.specs.Owes.Tables.{table_made, of_map, RefinesOwnTables, FindTables, CallsPreserveOwnTables}
use Rattle.run_blocks.proofs.Owes.Fields.{all_by, field_own, field_other}
use Rattle.run_blocks.proofs.Owes.Tables.Effects.{table_by, effect_table, tables_kept, none_find, made_find, given_find, linked_find}
use Rattle.run_blocks.proofs.Owes.Tables.Held.{shape_of}
use Rattle.run_blocks.proofs.Owes.Tables.Leaves.{TableGoes, Stays, IsMade, IsGivenUp, IsLinked, LeavesTables}
use Rattle.run_blocks.proofs.Owes.Tables.Step.{next_table, left_tables}
use Rattle.run_debts.specs.Given.ScenesHeld.{Held, IsAt}
use Rattle.run_debts.specs.Given.ScenesScene.{Scene}
use Rattle.run_debts.specs.Given.ScenesStepping.{StepLeads, scene_after}

-- What each call has after it, and whose tables are.
module _ {K V : Type 0} (same : K → K → Bool) (hash : ℕ → K → ℕ) (name : ℕ → List ℕ) (m : Moment K V) (known : Known) (s : Scene K V) (old new : Held K V) (at : IsAt same hash old s)
    (whole : RefinesWhole same name m known s) (tables : RefinesOwnTables name m known s) (map i : ℕ) (u : UnderWay K V K) (here : s.calls map i ≡ Some u)
    (said : Progress (Node K V)) (leads : StepLeads same hash i said s old new) where
  abbrev to : WentTo same hash name m known s old new at whole.all.shown map i u here said leads
  to = went_to same hash name m known s old new at whole.all.shown map i u here said leads

  abbrev its : Acting
  its = acts.Call i map

  abbrev effects : List Effect
  effects = effects_of its known new.changed

  abbrev known2 : Known
  known2 = known_after its new.changed known

  abbrev v : Moment K V
  v = with_effects (Some (name i)) (Some map) effects m

  abbrev led : Scene K V
  led = scene_after same s old new map i to.0 u to.1 said to.4

  abbrev had : Option Planned
  had = table_made (making_of (machine_of u))

  abbrev now : Option Planned
  now = next_table to.4.next

  abbrev many : ℕ
  many = length (tables_of map m)

  left_so : LeavesTables its known new.changed s led i had now many
  left_so = left_tables same hash name m known s old new at whole tables map i u here said leads

  abbrev Goes : Type 0
  Goes = TableGoes its known new.changed s led i had now many

  abbrev as_field : Option Planned → Option TableId
  as_field o = option_map (of_map map) o

  -- which table its call has then, and what effects find

  field_by : Goes → (h : Option TableId) → h ≡ as_field had → all_by table_by effects h ≡ as_field now
  field_by (Stays quiet as_before) h is = tables_kept effects quiet h ∙ is ∙ ap as_field (sym as_before)
  field_by (IsMade p effects_are none has in_turn) h is = ap (λ (fs : List Effect). all_by table_by fs h) effects_are ∙ ap as_field (sym has)
  field_by (IsGivenUp p effects_are had_it none in_turn) h is = ap (λ (fs : List Effect). all_by table_by fs h) effects_are ∙ ap as_field (sym none)
  field_by (IsLinked p effects_are had_it none) h is = ap (λ (fs : List Effect). all_by table_by fs h) effects_are ∙ ap as_field (sym none)

  finds_by : Goes → (c : CallThere K V) → call_of (name i) m ≡ Some c → c.map ≡ map → c.table ≡ as_field had → FindTables (name i) map effects m
  finds_by (Stays quiet as_before) c there of is = none_find (name i) map effects m c there quiet
  finds_by (IsMade p effects_are none has in_turn) c there of is =
      subst (λ (fs : List Effect). FindTables (name i) map fs m) (sym effects_are)
      (made_find (name i) map (of_map map p) m c there (is ∙ ap as_field none) (sym of) (subst (λ (n : ℕ). p.turn ≤ length (tables_of n m)) (sym of) in_turn))
  finds_by (IsGivenUp p effects_are had_it none in_turn) c there of is =
      subst (λ (fs : List Effect). FindTables (name i) map fs m) (sym effects_are)
      (given_find (name i) map (of_map map p) m c there (is ∙ ap as_field had_it) (subst (λ (n : ℕ). p.turn < length (tables_of n m)) (sym of) in_turn))
  finds_by (IsLinked p effects_are had_it none) c there of is =
      subst (λ (fs : List Effect). FindTables (name i) map fs m) (sym effects_are) (linked_find (name i) map (of_map map p) (shape_of p) m c there (is ∙ ap as_field had_it))

  -- what each call has then

  its_there : (c : CallThere K V) × (call_of (name i) m ≡ Some c) × (c.map ≡ map)
  its_there = let c = whole.all.shown.calls map i u here in (c.0, c.1, c.2)

  its_had : its_there.0.table ≡ as_field had
  its_had = tables.tables map i u here its_there.0 its_there.1

  own_field : (d : CallThere K V) → call_of (name i) v ≡ Some d → d.table ≡ as_field now
  own_field d d_is =
      field_own (λ (x : CallThere K V). x.table) table_by effect_table (name i) map effects m its_there.0 its_there.1 d d_is ∙ field_by left_so.goes its_there.0.table its_had

  tables_then : (n j : ℕ) (x : UnderWay K V K) → led.calls n j ≡ Some x → (d : CallThere K V) → call_of (name j) v ≡ Some d → d.table ≡ option_map (of_map n) (table_made (making_of (machine_of x)))
  tables_then n j x is d d_is = elim (which s.calls map i to.4.next n j x is) as (λ _. d.table ≡ option_map (of_map n) (table_made (making_of (machine_of x)))) [
    | inl it ↦
        own_field d (ap (λ (k : ℕ). call_of (name k) v) (sym it.1) ∙ d_is) ∙ ap as_field (ap next_table it.2)
        ∙ ap (λ (k : ℕ). option_map (of_map k) (table_made (making_of (machine_of x)))) (sym it.0)
    | inr was ↦
        let c = whole.all.shown.calls n j x was.1 in
        field_other (λ (y : CallThere K V). y.table) table_by effect_table (name i) map effects m (name j) (apart was.0 was.1) c.0 c.1 d d_is ∙ tables.tables n j x was.1 c.0 c.1
  ]
    where
      apart : (n ≡ map → j ≡ i → ⊥) → s.calls n j ≡ Some x → is_same (name j) (name i) ≡ true → ⊥
      apart other was names = (let both = whole.all.asked.apart n j map i x u was here names in other both.0 both.1)

  pub step_keeps_tables : FindTables (name i) map effects m × RefinesOwnTables name v known2 led × (to.4.next ≡ None → (c : CallThere K V) → call_of (name i) v ≡ Some c → c.table ≡ None)
  step_keeps_tables = (
    finds_by left_so.goes its_there.0 its_there.1 its_there.2 its_had,
    record { tables = tables_then; whose = left_so.whose },
    λ none c c_is. own_field c c_is ∙ ap as_field (ap next_table none),
  )

pub calls_keep_tables : (K V : Type 0) (same : K → K → Bool) (hash : ℕ → K → ℕ) → CallsPreserveOwnTables K V same hash
calls_keep_tables K V same hash name m known s old new at whole tables map i u here said leads = step_keeps_tables same hash name m known s old new at whole tables map i u here said leads

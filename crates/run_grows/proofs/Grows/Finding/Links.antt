-- The table that a call links by its copier follows the last one of its map; and a counting links none.
use Rattle.std.specs.Prelude.{◌≡◌, ℕ, Bool, List, [], ◌∷◌, length, Option, Some, None}
use Rattle.std.proofs.Common.{sym, subst, ◌∙◌}
use Rattle.papaya_raw.specs.Given.TablesLengths.{entries_of, next_len}
use Rattle.papaya_raw.specs.Given.TablesDeclared.lengths.Reason.TheVariants.{NoPlace}
use Rattle.papaya_raw.specs.Given.TablesDeclared.node.Node.{Node}
use Rattle.papaya_raw.specs.Given.TablesDeclared.table.Table.{Table as Planned}
use Rattle.run_finds.specs.Given.ResizeDeclared.copier.Copying.{Copying}
use Rattle.run_finds.specs.Given.ResizeDeclared.copier.Copying.TheVariants as copying
use Rattle.run_finds.specs.Given.ResizeDeclared.new_table.NewTable.{NewTable}
use Rattle.papaya_raw.specs.Given.ReservesDeclared.reserve.Reserving.{Reserving}
use Rattle.papaya_raw.specs.Given.ReservesDeclared.reserve.Reserving.TheVariants as reserving
use Rattle.papaya_raw.specs.Given.ReservesDeclared.sweep.Sweeping.{Sweeping}
use Rattle.papaya_raw.specs.Given.ReservesDeclared.sweep.Sweeping.TheVariants as sweeping
use Rattle.papaya_raw.specs.declared.machines.call.Calling.{Calling}
use Rattle.papaya_raw.specs.declared.machines.call.Calling.TheVariants as calling
use Rattle.papaya_raw.specs.declared.machines.machine.Machine.{Machine}
use Rattle.papaya_raw.specs.declared.machines.machine.Machine.TheVariants as kinds
use Rattle.papaya_raw.specs.declared.machines.progress.Progress.{Progress}
use Rattle.run_schedules.specs.declared.call.Call.{Call}
use Rattle.run_schedules.specs.declared.call.Call.TheVariants as call
use Rattle.run_schedules.specs.declared.effect.Effect.{Effect}
use Rattle.run_schedules.specs.declared.effect.Effect.TheVariants as effect
use Rattle.run_schedules.specs.declared.effect.Growth.TheVariants.{ABlock}
use Rattle.run_schedules.specs.Schedules.Effects.{AtEachEffect}
use Rattle.run_schedules.specs.Schedules.Growing.{Follows, Has, HasNext, MayMakeFor}
use Rattle.run_schedules.specs.Schedules.Lists.{OneOf}
use Rattle.run_schedules.specs.Schedules.Moment.{Moment, TableThere, UnderWay as CallThere}
use Rattle.run_schedules.specs.Schedules.Terms.{Terms}
use Rattle.run_schedules.specs.Schedules.Views.{call_of, capacity_or, last_of, map_at, tables_of}
use Rattle.run_finds.specs.Given.PointsFactsCalls.{IsCopying}
use Rattle.run_finds.specs.Given.CallersTogether.{Counting, ForRoom, OnKey, OverAll, UnderWay}
use Rattle.run_finds.specs.Given.EffectsEffects.{effects_of}
use Rattle.run_finds.specs.Given.EffectsKnown.{Known}
use Rattle.run_finds.specs.Given.EffectsDeclared.acting.Acting.TheVariants as acts
use Rattle.run_finds.specs.Given.FinishesMachines.{machine_of}
use Rattle.run_finds.specs.Given.FollowsCalls.{IsCalled}
use Rattle.run_finds.specs.Given.FollowsFinds.{FindsMap}
use Rattle.run_finds.specs.Given.MomentsWhole.{RefinesWhole}
use Rattle.run_kept.specs.Given.OwesMaking.{making_in_calling, making_in_copying, making_in_sweeping, making_of}
use Rattle.run_kept.specs.Given.OwesTables.{RefinesOwnTables, of_map, table_made}
use Rattle.run_kept.proofs.Given.OwesTables.Held.{shape_of, some_making}
use Rattle.run_kept.proofs.Given.OwesTables.Leaves.{IsGivenUp, IsLinked, IsMade, Stays}
use Rattle.run_kept.proofs.Given.OwesTables.Step.{left_tables}
use Rattle.run_finds.specs.Linking.{FindShapes, IsMadeFor}
use Rattle.run_grows.specs.Grows.Copiers.{MakesByCopier, copier_in_calling, copier_in_reserving, making_of_copier}
use Rattle.run_finds.specs.Within.{many_of}
use Rattle.run_finds.proofs.Linking.{made_so, none_shaped, one_shaped, two_shaped}
use Rattle.run_finds.proofs.Steps.{steps_find_places}
use Rattle.run_grows.specs.Grows.Further.{CallMakes, CopierMakes, FollowsFullTable, IsFurther, MachineMakes, RoomMakes, RefinesFurther, SweepMakes, lengths_in, lengths_of}
use Rattle.run_grows.proofs.Grows.Finding.Making.Lengths.{last_at}
use Rattle.run_finds.specs.Given.ScenesHeld.{Held, IsAt}
use Rattle.run_finds.specs.Given.ScenesScene.{Scene}
use Rattle.run_finds.specs.Given.ScenesStepping.{StepLeads}

-- what its call makes a copier makes, and so it is such a making
module _ (Such : NewTable → Type 0) (n : NewTable) where
  pub such_of_copier : (p : Copying) → making_in_copying p ≡ Some n → CopierMakes Such p → Such n
  such_of_copier (copying.Grows word code k) is so = let one : k ≡ n = cc is in subst Such one so
  such_of_copier (copying.Remakes k) is so = let one : k ≡ n = cc is in subst Such one so
  such_of_copier _ is so = absurd (cc is)

  such_of_call : (p : Calling) → IsCopying p → making_in_calling p ≡ Some n → CallMakes Such p → Such n × (copier_in_calling p ≡ Some n)
  such_of_call (calling.Helps copier goal) copies is so = (such_of_copier copier.stands is so, is)
  such_of_call (calling.Copies copier) copies is so = (such_of_copier copier.stands is so, is)
  such_of_call _ copies is so = absurd copies

  such_of_sweep : (p : Sweeping) → making_in_sweeping p ≡ Some n → SweepMakes Such p → Such n
  such_of_sweep (sweeping.Copies copier) is so = such_of_copier copier.stands is so
  such_of_sweep _ is so = absurd (cc is)

  -- of a copier that makes one
  such_of_copying : (p : Calling) → copier_in_calling p ≡ Some n → CallMakes Such p → Such n
  such_of_copying (calling.Helps copier goal) is so = such_of_copier copier.stands is so
  such_of_copying (calling.Copies copier) is so = such_of_copier copier.stands is so
  such_of_copying _ is so = absurd (cc is)

  such_of_reserving : (p : Reserving) → copier_in_reserving p ≡ Some n → RoomMakes Such p → Such n
  such_of_reserving (reserving.Copies copier) is so = such_of_copier copier.stands is so
  such_of_reserving _ is so = absurd (cc is)

  pub such_of_making : {K V Q : Type 0} (machine : Machine K V Q) → making_of_copier machine ≡ Some n → MachineMakes Such machine → Such n
  such_of_making (kinds.Key p) is so = such_of_copying p.stands is so
  such_of_making (kinds.Reserve r) is so = such_of_reserving r.stands is so
  such_of_making (kinds.Sweep c) is so = such_of_sweep c.stands is so
  such_of_making (kinds.Count sum) is so = absurd (cc is)

  such_of : {K V : Type 0} (u : UnderWay K V K) → MakesByCopier u → making_of (machine_of u) ≡ Some n → MachineMakes Such (machine_of u) → Such n × (making_of_copier (machine_of u) ≡ Some n)
  such_of (OnKey x) copies is so = such_of_call x.call.stands copies is so
  such_of (OverAll o) copies is so = (such_of_sweep o.sweep.stands is so, is)
  such_of (ForRoom r) copies is so = absurd copies
  such_of (Counting sum) copies is so = absurd copies

-- a table behind the last one of a map follows it, as a copy has found no place
module _ {K V : Type 0} (terms : Terms) (moments : List (Moment K V)) (c : CallThere K V) (capacity initial : ℕ) (made_for : Has (entries_of capacity) initial) (next : OneOf (HasNext c.map) moments) where
  may_make : (t : TableThere) (its : Call K V) (count : ℕ) → MayMakeFor terms c moments t its count NoPlace
  may_make t (call.On one) count = next
  may_make t (call.Reserve more) count = next
  may_make t call.Clear count = next
  may_make t call.Retain count = next
  may_make t call.Len count = next
  may_make t call.Walk count = next

  behind_follows : (p : Planned) (ts : List TableThere) → FollowsFullTable (lengths_in ts) p → p.turn ≡ length ts → Follows terms c moments capacity (shape_of p) ts
  behind_follows p [] is turn = absurd (let none = is.3 in cc none)
  behind_follows p (x ∷ ts) is turn =
      let last = last_of x ts in
      (NoPlace, 0, initial, made_for, may_make last c.call 0, subst (λ (n : ℕ). Has (next_len NoPlace n 0 0) p.len) (sym (last_at x ts is.0 is.1 is.3 (sym is.2 ∙ turn))) is.4, is.5)

module _ {K V : Type 0} (same : K → K → Bool) (hash : ℕ → K → ℕ) (name : ℕ → List ℕ) (m : Moment K V) (known : Known) (s : Scene K V) (old new : Held K V) (at : IsAt same hash old s)
    (whole : RefinesWhole same name m known s) (tables : RefinesOwnTables name m known s) (map i : ℕ) (u : UnderWay K V K) (here : s.calls map i ≡ Some u) (said : Progress (Node K V))
    (leads : StepLeads same hash i said s old new) (terms : Terms) (moments : List (Moment K V)) where
  abbrev effects : List Effect
  effects = effects_of (acts.Call i map) known new.changed

  abbrev its_call : (c : CallThere K V) × (call_of (name i) m ≡ Some c) × (c.map ≡ map) × IsCalled same u c.call
  its_call = whole.all.shown.calls map i u here

  abbrev Shapes : Type 0
  Shapes = FindShapes terms moments (name i) map effects m

  pub links_by : ((p : Planned) → effects ≡ effect.Linked (of_map map p) (shape_of p) ∷ [] → table_made (making_of (machine_of u)) ≡ Some p → Shapes) → Shapes
  links_by linked = elim ((left_tables same hash name m known s old new at whole tables map i u here said leads).goes) as (λ _. Shapes) [
    | Stays quiet as_before ↦ none_shaped terms moments (name i) map effects m its_call.0 its_call.1 quiet
    | IsMade p effects_are none has in_turn ↦
        subst (λ (fs : List Effect). FindShapes terms moments (name i) map fs m) (sym effects_are)
        (two_shaped terms moments (name i) map (effect.Asked ABlock) (effect.TableMade (of_map map p)) m its_call.0 its_call.1 tt (λ v d. tt))
    | IsGivenUp p effects_are had none in_turn ↦
        subst (λ (fs : List Effect). FindShapes terms moments (name i) map fs m) (sym effects_are)
        (one_shaped terms moments (name i) map (effect.TableGivenUp (of_map map p)) m its_call.0 its_call.1 tt)
    | IsLinked p effects_are had none ↦ linked p effects_are had
  ]

  -- what makes none links none
  pub none_links : making_of (machine_of u) ≡ None → Shapes
  none_links none = links_by (λ p effects_are had. absurd (let made : table_made None ≡ Some p = subst (λ (o : Option NewTable). table_made o ≡ Some p) none had in cc made))

  on_map : AtEachEffect (FindsMap map) (Some (name i)) (Some map) effects m
  on_map = (steps_find_places K V same hash name m known s old new at whole map i u here said leads).0

  -- whatever makes it, if that is a copier
  module _ (such : (n : NewTable) → making_of (machine_of u) ≡ Some n → IsFurther (lengths_of map m) n × (making_of_copier (machine_of u) ≡ Some n))
      (made_for : IsMadeFor map m (leads map u here).0.setting) (nexts : (n : NewTable) → making_of_copier (machine_of u) ≡ Some n → OneOf (HasNext map) (m ∷ moments)) where
    pub linked : (p : Planned) → effects ≡ effect.Linked (of_map map p) (shape_of p) ∷ [] → table_made (making_of (machine_of u)) ≡ Some p → Shapes
    linked p effects_are had =
        let making = some_making (making_of (machine_of u)) p had in
        let behind = made_so (λ before reason. ⊥) (FollowsFullTable (lengths_of map m)) making.0.stands p (such making.0 making.1).0 making.2 in
        let turn_is : p.turn ≡ many_of map m = (subst (λ (fs : List Effect). AtEachEffect (FindsMap map) (Some (name i)) (Some map) fs m) effects_are on_map).0.1 in
        subst (λ (fs : List Effect). FindShapes terms moments (name i) map fs m) (sym effects_are)
        (one_shaped terms moments (name i) map (effect.Linked (of_map map p) (shape_of p)) m its_call.0 its_call.1
        (subst (λ (k : ℕ). Follows terms its_call.0 (m ∷ moments) (capacity_or (map_at k m)) (shape_of p) (tables_of k m)) (sym its_call.2)
        (behind_follows terms (m ∷ moments) its_call.0 (capacity_or (map_at map m)) (leads map u here).0.setting.initial made_for
        (subst (λ (k : ℕ). OneOf (HasNext k) (m ∷ moments)) (sym its_call.2) (nexts making.0 (such making.0 making.1).1)) p (tables_of map m) behind turn_is)))

  pub copier_links : RefinesFurther m s → MakesByCopier u → IsMadeFor map m (leads map u here).0.setting → ((n : NewTable) → making_of_copier (machine_of u) ≡ Some n → OneOf (HasNext map) (m ∷ moments)) → Shapes
  copier_links further copies made_for nexts = links_by (linked (λ n is. such_of (IsFurther (lengths_of map m)) n u copies is (further map i u here)) made_for nexts)

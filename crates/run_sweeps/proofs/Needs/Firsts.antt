-- The first table of a map that is being made is as its capacity asks.
use Rattle.std.specs.Prelude.{◌≡◌, ◌≢◌, ℕ, ◌+◌, ◌-◌, ◌^◌, ◌==◌, nat_le, nat_lt, max, Bool, true, false, List, [], ◌∷◌, Option, Some, None, Result, Ok, Err, if◌then◌else◌}
use Rattle.std.specs.List.{list_all}
use Rattle.std.proofs.Common.{refl, ap, sym, subst, ◌∙◌, inl, inr}
use Rattle.std.proofs.lemmas.Bool.{cases_eq, and_parts}
use Rattle.run_finds.specs.Given.SeizeWordsMem.{Mem}
use Rattle.run_finds.specs.Given.SeizeWordsOp.{Out, Exchanged, Made}
use Rattle.run_finds.specs.Given.SeizeWordsDeclared.at.At.TheVariants.{Root}
use Rattle.run_finds.specs.Given.SeizeWordsDeclared.fault.Fault.{Fault}
use Rattle.run_finds.specs.Given.SeizeWordsDeclared.fault.Fault.TheVariants.{Capacity, RootsUsedUp}
use Rattle.papaya_raw.specs.Given.SeizeWorld.{World, with_at}
use Rattle.papaya_raw.specs.Given.SeizeDeclared.advance.Advance.{Advance}
use Rattle.papaya_raw.specs.Given.SeizeDeclared.advance.Advance.TheVariants as progress
use Rattle.papaya_raw.specs.Given.TablesLengths.{places_for, len_of}
use Rattle.papaya_raw.specs.Given.TablesPowers.{next_power}
use Rattle.papaya_raw.specs.Given.TablesProbes.{limit_of}
use Rattle.papaya_raw.specs.Given.TablesDeclared.node.Node.{Node}
use Rattle.papaya_raw.specs.Given.TablesDeclared.setting.Setting.{Setting}
use Rattle.papaya_raw.specs.Given.TablesDeclared.table.Table.{Table as Planned}
use Rattle.run_kept.specs.Given.ResizeNewMap.{at_root, with_counter, goes, done, refused, next_root, opened, taken, made, plan_at, new_map_plan}
use Rattle.run_finds.specs.Given.ResizeNewTable.{first_table, new_table_plan}
use Rattle.run_finds.specs.Given.ResizeDeclared.new_map.NewMap.{NewMap}
use Rattle.run_finds.specs.Given.ResizeDeclared.new_map.Opening.{Opening}
use Rattle.run_finds.specs.Given.ResizeDeclared.new_map.Opening.TheVariants as at
use Rattle.run_finds.specs.Given.ResizeDeclared.new_table.Making.TheVariants as makes
use Rattle.run_finds.specs.Given.ResizeDeclared.new_table.NewTable.{NewTable}
use Rattle.run_schedules.specs.Runs.Runs.{map_fault}
use Rattle.run_schedules.specs.declared.effect.Effect.{Effect}
use Rattle.run_schedules.specs.declared.effect.Effect.TheVariants as effect
use Rattle.run_schedules.specs.declared.effect.Growth.TheVariants.{ABlock, ABucket}
use Rattle.run_schedules.specs.Schedules.Effects.{AtEachEffect, with_effect, with_effects}
use Rattle.run_schedules.specs.Schedules.Growing.{Has}
use Rattle.run_schedules.specs.Schedules.Handing.{is_first_making}
use Rattle.run_schedules.specs.Schedules.Lives.{IsMapsFirst, EventFinds}
use Rattle.run_schedules.specs.Schedules.Moment.{MapThere, Moment}
use Rattle.run_schedules.specs.Schedules.Views.{map_at, tables_of}
use Rattle.run_finds.specs.Given.TellerTells.{StepsObserved}
use Rattle.run_finds.specs.Given.EffectsDeclared.changed.Changed.{Changed}
use Rattle.run_finds.specs.Given.EffectsDeclared.changed.Changed.TheVariants as changed
use Rattle.run_finds.proofs.Given.RuleKeys.Always.{Always, AlwaysOf, always_steps}
use Rattle.run_finds.specs.Given.RuleRule.{no_table}
use Rattle.run_finds.specs.Given.CallersTogether.{no_blocks}
use Rattle.run_finds.proofs.Given.CallersTogether.At.{at_other, at_same}
use Rattle.run_finds.specs.Given.NamedPlaces.{first_places}
use Rattle.run_finds.specs.Given.EffectsEffects.{table_at, effects_of, known_after}
use Rattle.run_finds.specs.Given.EffectsKnown.{Known}
use Rattle.run_finds.specs.Given.EffectsDeclared.acting.Acting.{Acting}
use Rattle.run_finds.specs.Given.EffectsDeclared.acting.Acting.TheVariants as acts
use Rattle.run_kept.specs.Given.FinishesMakings.{Beginning, OpeningFacts}
use Rattle.run_finds.specs.Given.FollowsShows.{Refines}
use Rattle.run_kept.specs.Given.OthersMakings.{making_after}
use Rattle.run_kept.specs.Given.OwesMaking.{making_in_opening}
use Rattle.run_kept.specs.Given.OwesTables.{table_in, table_made, RefinesOwnTables}
use Rattle.run_kept.specs.Given.OwesTablesBeside.{MakesFirst}
use Rattle.run_kept.proofs.Given.OwesTables.Held.{shape_of, some_making}
use Rattle.run_kept.proofs.Given.OwesTables.Leaves.{Stays, IsMade, IsGivenUp, IsLinked}
use Rattle.run_kept.proofs.Given.OwesTables.MakingsOfMaps.{left_tables}
use Rattle.run_kept.proofs.Given.OwesTables.Roles.{of_table, NoneOfTable}
use Rattle.run_sweeps.specs.Needs.Firsts.{IsForPlaces, OpensFor, AllMakingsOpen, FindsFirst, MakingsOpen, FirstsAreAll, MakingsPreserveOpening, MakingsLinkFirst}
use Rattle.run_sweeps.specs.Given.FindsShaping.{ShapedAt}
use Rattle.run_sweeps.proofs.Given.FindsCapacities.{few_places, no_fault}
use Rattle.run_sweeps.proofs.Given.FindsGrown.{found_of}
use Rattle.run_sweeps.proofs.Given.FindsLinking.{made_so as made_as_shaped, turn_new}
use Rattle.run_sweeps.proofs.Given.FindsLists.{each_is}
use Rattle.run_sweeps.proofs.Given.FindsShaping.{always_plan_more, goes_shaped}
use Rattle.run_finds.proofs.Given.ScenesTold.{as_step}
use Rattle.run_finds.specs.Given.ScenesHeld.{Held, IsAt}
use Rattle.run_kept.specs.Given.ScenesMaking.{MakingHasOutcome, MakingLeads}
use Rattle.run_finds.specs.Given.ScenesScene.{Scene}
use Rattle.run_finds.proofs.Given.General.{same_some as one_of, equal_so as number_is}

-- A step of the making of a map leaves it the places that its table is to have, and makes a table for those.

first_opens : (setting : Setting) (places : ℕ) → OpensFor places (at.Tables (first_table setting places))
first_opens setting places = by (nat_le (max places 8) (2 ^ 48))
  where
    by : (q : Bool)
        → ShapedAt (λ before reason. ⊥) (IsForPlaces places)
        (if q then makes.Makes (record { link = 0; len = max places 8; limit = limit_of (max places 8); turn = 0 }) else makes.Refused Capacity)
    by true = (refl, refl)
    by false = tt

module _ (c : NewMap) where
  abbrev GoesSo : NewMap × Advance Setting → Type 0
  GoesSo e = (e.0.len ≡ c.len) × OpensFor c.len e.0.stands

  by_test : (b : Bool) (x y : NewMap × Advance Setting) → GoesSo x → GoesSo y → GoesSo (if b then x else y)
  by_test true x y f g = f
  by_test false x y f g = g

  next_so : OpensFor c.len c.stands → GoesSo (next_root c)
  next_so stays =
      by_test (nat_lt c.setting.root (c.roots - 1)) (record c { setting = at_root c.setting (c.setting.root + 1) }, progress.Goes) (refused c RootsUsedUp) (refl, stays) (refl, tt)

  -- with its counter
  abbrev counted : ℕ → NewMap
  counted block = record c { setting = with_counter c.setting block }

  abbrev TableGoesSo : NewTable → NewTable × Advance Planned → Type 0
  TableGoesSo n e = (e.0.setting ≡ n.setting) × ShapedAt (λ before reason. ⊥) (IsForPlaces c.len) e.0.stands

  opened_so : (n : NewTable) (e : NewTable × Advance Planned) → TableGoesSo n e → GoesSo (opened c e)
  opened_so n (making, progress.Goes) so = (refl, so.1)
  opened_so n (making, progress.Waits) so = (refl, so.1)
  opened_so n (making, progress.Done table) so = (refl, tt)
  opened_so n (making, progress.Refused fault) so = (refl, tt)

  module _ {K V : Type 0} where
    taken_so : OpensFor c.len c.stands → (out : Out (Node K V)) → Always GoesSo (taken c out)
    taken_so stays (Exchanged (Ok free)) = (refl, tt)
    taken_so stays (Exchanged (Err used)) = next_so stays
    taken_so stays _ = (refl, stays)

    made_so : OpensFor c.len c.stands → (out : Out (Node K V)) → Always GoesSo (made c out)
    made_so stays (Made (Ok block)) =
        by_test (c.len == 0) (done (counted block)) (goes (counted block) (at.Tables (first_table (with_counter c.setting block) c.len))) (refl, tt)
        (refl, first_opens (with_counter c.setting block) c.len)
    made_so stays (Made (Err value)) = (refl, tt)
    made_so stays _ = (refl, stays)

  module _ (K V : Type 0) where
    by_point : (p : Opening) → OpensFor c.len p → OpensFor c.len c.stands → AlwaysOf GoesSo (plan_at {K = K} {V = V} c p)
    by_point at.Takes so stays = λ out. taken_so stays out
    by_point at.Shards so stays = λ out. made_so stays out
    by_point (at.Tables n) so stays =
        always_plan_more (TableGoesSo n) GoesSo (opened c) (opened_so n) (new_table_plan n)
        (goes_shaped (λ before reason. ⊥) (IsForPlaces c.len) (λ t b is. is) n (λ before reason count none. absurd none) K V so)
    by_point (at.Unmakes fault) so stays = λ out. (refl, tt)
    by_point (at.Frees fault) so stays = λ out. (refl, tt)
    by_point at.Over so stays = (refl, stays)
    by_point (at.Refused fault) so stays = (refl, stays)

  module _ {K V : Type 0} where
    step_opens : (m m2 : Mem (Node K V)) (told : Changed) (end : NewMap × Advance Setting) → OpensFor c.len c.stands
        → StepsObserved K V (NewMap × Advance Setting) m changed.Nothing (new_map_plan c) m2 told end → GoesSo end
    step_opens m m2 told end so s =
        always_steps GoesSo m m2 (new_map_plan c) end (by_point K V c.stands so so) (as_step m changed.Nothing (new_map_plan c) m2 told end s)

-- So makings are so at each moment.

module _ {K V : Type 0} (s : Scene K V) (shows : AllMakingsOpen s) (i : ℕ) where
  -- one goes on, or begins
  one_so : (b : Beginning K) → OpensFor b.machine.len b.machine.stands → AllMakingsOpen (record s { makers = with_at s.makers i (Some b) })
  one_so b so j d is = elim (cases_eq j i) as (λ _. OpensFor d.machine.len d.machine.stands) [
    | inl e ↦
        let one : b ≡ d = one_of b d (sym (at_same s.makers i (Some b) j e) ∙ is) in subst (λ (x : Beginning K). OpensFor x.machine.len x.machine.stands) one so
    | inr ne ↦ shows j d (sym (at_other s.makers i (Some b) j ne) ∙ is)
  ]

  -- one is over
  gone_so : (j : ℕ) (d : Beginning K) → with_at s.makers i None j ≡ Some d → OpensFor d.machine.len d.machine.stands
  gone_so j d is = elim (cases_eq j i) as (λ _. OpensFor d.machine.len d.machine.stands) [
    | inl e ↦ absurd (let none = at_same s.makers i None j e in cc (none, is))
    | inr ne ↦ shows j d (sym (at_other s.makers i None j ne) ∙ is)
  ]

pub makings_open : (K V : Type 0) → MakingsOpen K V
makings_open K V s shows i b given roots places opens = one_so s shows i b (subst (λ (c : NewMap). OpensFor c.len c.stands) (sym opens) tt)

module _ {K V : Type 0} (same : K → K → Bool) (hash : ℕ → K → ℕ) (s : Scene K V) (old new : Held K V) (shows : AllMakingsOpen s) (i : ℕ) (b : Beginning K) (end : NewMap)
    (so : OpensFor end.len end.stands) (w2 : World (Node K V)) where
  goes_then : (told : Advance Setting) (comes : MakingHasOutcome same hash s old new i b end w2 told) → AllMakingsOpen (making_after same hash s old new i b end w2 told comes)
  goes_then progress.Goes comes = λ j d is. one_so s shows i (record b { machine = end }) so j d is
  goes_then progress.Waits comes = absurd comes
  goes_then (progress.Done setting) comes = λ j d is. gone_so s shows i j d is
  goes_then (progress.Refused fault) comes = λ j d is. gone_so s shows i j d is

pub makings_go_on : (K V : Type 0) (same : K → K → Bool) (hash : ℕ → K → ℕ) → MakingsPreserveOpening K V same hash
makings_go_on K V same hash s old new shows i told leads b here =
    let to = leads b here in
    let so = step_opens b.machine old.memory new.memory new.changed (to.0, told) (shows i b here) to.1 in
    goes_then same hash s old new shows i b to.0 (subst (λ (n : ℕ). OpensFor n to.0.stands) (sym so.0) so.1) to.2.step.w2 told to.3

-- With the tables that are made and linked that is all.

module _ (map : ℕ) where
  -- if this one makes a table, that is the first
  abbrev MakesIt : Effect → Type 0
  MakesIt (effect.TableMade t) = (t.map ≡ map) × (t.turn ≡ 0)
  MakesIt _ = Unit {0}

  made_first : (f : Effect) (fs : List Effect) → MakesFirst map (f ∷ fs) → MakesIt f × MakesFirst map fs
  made_first (effect.TableMade t) fs firsts = ((firsts.0, firsts.1), firsts.2)
  made_first _ fs firsts = (tt, firsts)

  module _ {K V : Type 0} (everything : Bool) where
    found_so : (m : Moment K V) (f : Effect) → is_first_making f ≡ true → MakesIt f → FindsFirst map m f → EventFinds (Some map) everything m f
    found_so m (effect.Asked ABlock) kind made finds = tt
    found_so m (effect.TableMade t) kind made finds = made
    found_so m (effect.Linked t shape) kind made finds = finds
    found_so m (effect.Asked ABucket) kind made finds = absurd (cc kind)
    found_so m _ kind made finds = absurd (cc kind)

    all_found : (of : Option ℕ) (effects : List Effect) (m : Moment K V) → list_all is_first_making effects ≡ true → MakesFirst map effects → AtEachEffect (FindsFirst map) None of effects m
        → AtEachEffect (EventFinds (Some map) everything) None of effects m
    all_found of [] m kinds firsts finds = tt
    all_found of (f ∷ fs) m kinds firsts finds =
        let both = and_parts (is_first_making f) (list_all is_first_making fs) kinds in
        let its = made_first f fs firsts in (found_so m f both.0 its.0 finds.0, all_found of fs (with_effect None of f m) both.1 its.1 finds.1)

pub firsts_are_all : (K V : Type 0) → FirstsAreAll K V
firsts_are_all K V map everything of effects m kinds firsts finds = all_found map everything of effects m kinds firsts finds

-- Of the effects of a step those that link no table find nothing.

quiet_first : {K V : Type 0} (map : ℕ) (m : Moment K V) (f : Effect) → of_table f ≡ false → FindsFirst map m f
quiet_first map m (effect.Linked t shape) e = absurd (cc e)
quiet_first map m _ e = tt

none_first : {K V : Type 0} (map : ℕ) (of : Option ℕ) (effects : List Effect) (m : Moment K V) → NoneOfTable effects → AtEachEffect (FindsFirst map) None of effects m
none_first map of [] m none = tt
none_first map of (f ∷ fs) m none = (quiet_first map m f none.0, none_first map of fs (with_effect None of f m) none.1)

-- A capacity that asks for places asks for so many.

some_first : (capacity : ℕ) → first_places capacity ≢ 0 → first_places capacity ≡ next_power (places_for capacity)
some_first capacity some = by (capacity == 0) some
  where
    by : (q : Bool) → ((if q then 0 else next_power (places_for capacity)) ≡ 0 → ⊥) → (if q then 0 else next_power (places_for capacity)) ≡ next_power (places_for capacity)
    by true none = absurd (none refl)
    by false none = refl

has_len : (f : MapThere) → map_fault f.mode f.capacity ≡ None → (places len : ℕ) → places ≡ first_places f.capacity → places ≢ 0 → len ≡ max places 8 → Has (len_of f.capacity) len
has_len f none places len places_are some len_is =
    let lens : len_of f.capacity ≡ Ok (max (next_power (places_for f.capacity)) 8) =
    ap (λ (q : Bool). if q then Ok (max (next_power (places_for f.capacity)) 8) else Err Capacity) (few_places f.capacity (no_fault f.mode f.capacity none)) in
    let power : places ≡ next_power (places_for f.capacity) = places_are ∙ some_first f.capacity (λ e. some (places_are ∙ e)) in
    subst (λ (r : Result ℕ Fault). Has r len) (sym lens) (len_is ∙ ap (λ (n : ℕ). max n 8) power)

module _ {K V : Type 0} (same : K → K → Bool) (hash : ℕ → K → ℕ) (name : ℕ → List ℕ) (m : Moment K V) (known : Known) (s : Scene K V) (old new : Held K V) (at_s : IsAt same hash old s)
    (shown : Refines same name m known s) (tables : RefinesOwnTables name m known s) (shows : AllMakingsOpen s) (i : ℕ) (told : Advance Setting) (leads : MakingLeads same hash i told s old new)
    (b : Beginning K) (here : s.makers i ≡ Some b) (of : Option ℕ) (f : MapThere) (f_is : map_at b.map m ≡ Some f) (none_yet : tables_of b.map m ≡ [])
    (faultless : map_fault f.mode f.capacity ≡ None) (places_are : b.places ≡ first_places f.capacity) where
  abbrev its : Acting
  its = acts.Making b.map

  abbrev effects : List Effect
  effects = effects_of its known new.changed

  number : f.number ≡ b.map
  number = number_is f.number b.map (found_of (λ (g : MapThere). g.number == b.map) (λ g. Unit {0}) m.maps f (each_is (λ g. Unit {0}) (λ g. tt) m.maps) f_is).0

  module _ (p : Planned) where
    -- its table is the first, and for places that there are
    abbrev IsFirstOne : Type 0
    IsFirstOne = IsForPlaces b.machine.len p × (p.turn ≡ 0) × (b.machine.len ≢ 0)

    one_at : (q : Opening) (n : NewTable) → making_in_opening q ≡ Some n → table_in n.stands ≡ Some p → OpensFor b.machine.len q → OpeningFacts s.world old.roots i b.machine q → IsFirstOne
    one_at (at.Tables k) n is has opens facts =
        let one : n ≡ k = (let back : k ≡ n = cc is in sym back) in
        let its_table = subst (λ (y : NewTable). table_in y.stands ≡ Some p) one has in (
          made_as_shaped (λ before reason. ⊥) (IsForPlaces b.machine.len) k.stands p opens its_table,
          turn_new s.world i b.machine.setting (no_table {K = K}) no_blocks p (Root b.machine.setting.root) 0 k facts.2 its_table,
          facts.3,
        )
    one_at _ n is has opens facts = absurd (cc is)

    linked_finds : table_made (making_in_opening b.machine.stands) ≡ Some p → FindsFirst b.map m (effect.Linked (table_at its p.turn) (shape_of p))
    linked_finds had =
        let knows = at_s.together.makings.facts i b here in
        let making = some_making (making_in_opening b.machine.stands) p had in
        let it = one_at b.machine.stands making.0 making.1 making.2 (shows i b here) knows.point in (
          none_yet,
          subst (λ (o : Option MapThere). IsMapsFirst o (table_at its p.turn) (shape_of p)) (sym f_is)
              (sym number, it.1, (has_len f faultless b.machine.len p.len (knows.len_is ∙ places_are) it.2 it.0.0, it.0.1)),
        )

  abbrev Goal : Type 0
  Goal = AtEachEffect (FindsFirst b.map) None of effects m

  as_effects : (fs : List Effect) → effects ≡ fs → AtEachEffect (FindsFirst b.map) None of fs m → Goal
  as_effects fs are finds = subst (λ (x : List Effect). AtEachEffect (FindsFirst b.map) None of x m) (sym are) finds

  first_linked : Refines same name (with_effects None of effects m) (known_after its new.changed known)
      (making_after same hash s old new i b (leads b here).0 (leads b here).2.step.w2 told (leads b here).3) → Goal
  first_linked shown_then =
      elim ((left_tables same hash name m known s old new at_s shown tables i b here (leads b here).0 told (leads b here).1 (leads b here).2 of (leads b here).3 shown_then).goes) as (λ _. Goal) [
        | Stays quiet as_before ↦ none_first b.map of effects m quiet
        | IsMade p effects_are none has in_turn ↦ as_effects _ effects_are (tt, (tt, tt))
        | IsGivenUp p effects_are had none in_turn ↦ as_effects _ effects_are (tt, tt)
        | IsLinked p effects_are had none ↦ as_effects _ effects_are (linked_finds p had, tt)
      ]

pub makings_link_first : (K V : Type 0) (same : K → K → Bool) (hash : ℕ → K → ℕ) → MakingsLinkFirst K V same hash
makings_link_first K V same hash name m known s old new at_s shown tables shows i told leads b here of f f_is none_yet faultless places_are shown_then =
    first_linked same hash name m known s old new at_s shown tables shows i told leads b here of f f_is none_yet faultless places_are shown_then

-- Maps that stand stay made for the capacities that the moment says.
use Rattle.std.specs.Prelude.{◌≡◌, ℕ, zero, suc, ◌-◌, ◌+◌, ◌^◌, ◌≤◌, ◌==◌, nat_le, nat_lt, max, Bool, true, false, cond, List, [], ◌∷◌, find, map, Option, Some, None, Result, Ok, Err, if◌then◌else◌}
use Rattle.std.proofs.Common.{refl, ap, sym, subst, ◌∙◌, inl, inr, arith}
use Rattle.std.proofs.lemmas.Bool.{cases_eq, eqb-true, ltb-false, le-leb}
use Rattle.std.proofs.lemmas.Nat.{pow_pos}
use Rattle.run_executor.specs.Given.SeizeWorld.{World, with_at}
use Rattle.run_executor.specs.Given.SeizeWordsDeclared.fault.Fault.{Fault}
use Rattle.run_executor.specs.Given.SeizeWordsDeclared.fault.Fault.TheVariants.{Capacity}
use Rattle.run_executor.specs.Given.SeizeDeclared.advance.Advance.{Advance as Making}
use Rattle.run_executor.specs.Given.SeizeDeclared.advance.Advance.TheVariants as progress
use Rattle.run_blocks.specs.Given.TablesLengths.{places_for, entries_of}
use Rattle.run_blocks.specs.Given.TablesPowers.{floor_log2, next_power}
use Rattle.run_blocks.specs.Given.TablesDeclared.node.Node.{Node}
use Rattle.run_blocks.specs.Given.TablesDeclared.resize_mode.ResizeMode.{ResizeMode}
use Rattle.run_blocks.specs.Given.TablesDeclared.resize_mode.ResizeMode.TheVariants.{Incremental, Blocking}
use Rattle.run_blocks.specs.Given.TablesDeclared.setting.Setting.{Setting}
use Rattle.run_blocks.specs.Given.ResizeDeclared.new_map.NewMap.{NewMap}
use Rattle.run_executor.specs.Given.RunsRuns.{map_fault}
use Rattle.run_executor.specs.Given.RunsDeclared.effect.Effect.{Effect}
use Rattle.run_executor.specs.Given.RunsDeclared.effect.Effect.TheVariants as effect
use Rattle.run_executor.specs.Given.RunsDeclared.effect.TableId.{TableId}
use Rattle.run_executor.specs.Given.SchedulesEffects.{promoted, with_effect, with_effects}
use Rattle.run_executor.specs.Given.SchedulesGrowing.{Has}
use Rattle.run_executor.specs.Given.SchedulesMoment.{MapThere, Moment}
use Rattle.run_executor.specs.Given.SchedulesViews.{map_at, capacity_or}
use Rattle.run_executor.proofs.Given.CallersTogether.At.{at_other, at_same}
use Rattle.run_executor.specs.Named.Places.{first_places}
use Rattle.run_executor.specs.Given.EffectsEffects.{effects_of}
use Rattle.run_executor.specs.Given.EffectsDeclared.acting.Acting.TheVariants as acts
use Rattle.run_executor.specs.Given.FinishesMakings.{Beginning}
use Rattle.run_executor.specs.Given.FinishesMachines.{MapContinues}
use Rattle.run_executor.specs.Given.FinishesMaps.{Standing, IsSameMap}
use Rattle.run_executor.specs.Given.OthersMakings.{making_after}
use Rattle.run_finds.specs.Capacities.{RefinesCapacities, StoodSo, GivenAreFor, CapacitiesStay, EffectsPreserveCapacities, SameMapsStood, CallsPreserveCapacities, MakingsPreserveCapacities}
use Rattle.run_finds.specs.Linking.{IsMadeFor}
use Rattle.run_executor.specs.Given.ScenesHeld.{Held}
use Rattle.run_executor.specs.Given.ScenesMaking.{MakingHasOutcome}
use Rattle.run_executor.specs.Given.ScenesScene.{Scene}
use Rattle.run_executor.specs.Given.ScenesStepping.{scene_after}
use Rattle.run_executor.proofs.Given.General.{same_some as one_of}

-- A capacity that is no fault has so many places.

some_power : (number : ℕ) → 1 ≤ next_power number
some_power number = by (nat_le number 1)
  where
    by : (q : Bool) → 1 ≤ (if q then 1 else 2 ^ (floor_log2 (number - 1) + 1))
    by true = omega arith
    by false = pow_pos (floor_log2 (number - 1) + 1)

one_at_least : (n : ℕ) → 1 ≤ n → max n 1 ≡ n
one_at_least n some = omega (arith, some)

first_is : (capacity : ℕ) → max (first_places capacity) 1 ≡ next_power (places_for capacity)
first_is capacity = by (capacity == 0) refl
  where
    by : (q : Bool) → (capacity == 0) ≡ q → max (if q then 0 else next_power (places_for capacity)) 1 ≡ next_power (places_for capacity)
    by true none = subst (λ (n : ℕ). 1 ≡ next_power (places_for n)) (sym (eqb-true capacity 0 none)) refl
    by false some = one_at_least (next_power (places_for capacity)) (some_power (places_for capacity))

pub few_places : (capacity : ℕ) → map_fault Blocking capacity ≡ None → nat_le (places_for capacity) (2 ^ 48) ≡ true
few_places capacity is = by (nat_lt (2 ^ 48) (places_for capacity)) refl is
  where
    by : (q : Bool) → nat_lt (2 ^ 48) (places_for capacity) ≡ q → (if q then Some Capacity else None) ≡ None → nat_le (places_for capacity) (2 ^ 48) ≡ true
    by true many none = absurd (cc none)
    by false few none = le-leb (places_for capacity) (2 ^ 48) (ltb-false (2 ^ 48) (places_for capacity) few)

pub no_fault : (mode : ResizeMode) (capacity : ℕ) → map_fault mode capacity ≡ None → map_fault Blocking capacity ≡ None
no_fault (Incremental zero) capacity is = absurd (cc is)
no_fault (Incremental (suc chunk)) capacity is = is
no_fault Blocking capacity is = is

places_are_for : (mode : ResizeMode) (capacity : ℕ) → map_fault mode capacity ≡ None → Has (entries_of capacity) (max (first_places capacity) 1)
places_are_for mode capacity is =
    let entries : entries_of capacity ≡ Ok (next_power (places_for capacity)) =
    ap (λ (q : Bool). if q then Ok (next_power (places_for capacity)) else Err Capacity) (few_places capacity (no_fault mode capacity is)) in
    subst (λ (r : Result ℕ Fault). Has r (max (first_places capacity) 1)) (sym entries) (first_is capacity)

pub given_are_for : (K V : Type 0) → GivenAreFor K V
given_are_for K V m number f is none given initial_is =
    subst (λ (o : Option MapThere). Has (entries_of (capacity_or o)) given.initial) (sym is)
    (subst (Has (entries_of f.capacity)) (sym initial_is) (places_are_for f.mode f.capacity none))

-- So it stays.

-- it is made for a capacity with so many entries
made_as : (capacity other initial entries : ℕ) → other ≡ capacity → entries ≡ initial → Has (entries_of capacity) initial → Has (entries_of other) entries
made_as capacity other initial entries same_capacity same_entries has =
    subst (λ (n : ℕ). Has (entries_of n) entries) (sym same_capacity) (subst (Has (entries_of capacity)) (sym same_entries) has)

pub capacities_stay : (K V : Type 0) → CapacitiesStay K V
capacities_stay K V m v s t shows keeps stood map standing is =
    let was = stood map standing is in
    made_as (capacity_or (map_at map m)) (capacity_or (map_at map v)) was.0.setting.initial standing.setting.initial (keeps map was.0 was.1) was.2 (shows map was.0 was.1)

-- Effects leave what is looked at of each map, if that is not its root: at most this comes to a table.
module _ {X : Type 0} (look : Option MapThere → X) (but_root : (f : MapThere) (first : ℕ) → look (Some (record f { first = first })) ≡ look (Some f)) where
  alike : (z : Bool) (x y : MapThere) (a b : Option MapThere) → look (Some x) ≡ look (Some y) → look a ≡ look b → look (cond z (Some x) a) ≡ look (cond z (Some y) b)
  alike true x y a b one rest = one
  alike false x y a b one rest = rest

  promoted_same : (t : TableId) (of : ℕ) (fs : List MapThere) → look (find (λ f. f.number == of) (map (promoted t) fs)) ≡ look (find (λ f. f.number == of) fs)
  promoted_same t of [] = refl
  promoted_same t of (g ∷ fs) = by (g.number == t.map) (promoted_same t of fs)
    where
      by : (q : Bool) → look (find (λ f. f.number == of) (map (promoted t) fs)) ≡ look (find (λ f. f.number == of) fs)
          → look (cond ((if q then record g { first = t.turn } else g).number == of) (Some (if q then record g { first = t.turn } else g)) (find (λ f. f.number == of) (map (promoted t) fs)))
          ≡ look (cond (g.number == of) (Some g) (find (λ f. f.number == of) fs))
      by true rest = alike (g.number == of) (record g { first = t.turn }) g (find (λ f. f.number == of) (map (promoted t) fs)) (find (λ f. f.number == of) fs) (but_root g t.turn) rest
      by false rest = alike (g.number == of) g g (find (λ f. f.number == of) (map (promoted t) fs)) (find (λ f. f.number == of) fs) refl rest

  pub effect_leaves : {K V : Type 0} (caller : Option (List ℕ)) (acted : Option ℕ) (f : Effect) (m : Moment K V) (of : ℕ) → look (map_at of (with_effect caller acted f m)) ≡ look (map_at of m)
  effect_leaves caller acted (effect.Promoted t) m of = promoted_same t of m.maps
  effect_leaves caller acted _ m of = refl

pub effects_keep_capacities : (K V : Type 0) → EffectsPreserveCapacities K V
effects_keep_capacities K V caller acted [] m of = refl
effects_keep_capacities K V caller acted (f ∷ effects) m of = effects_keep_capacities K V caller acted effects (with_effect caller acted f m) of ∙ effect_leaves capacity_or (λ g n. refl) caller acted f m of

-- Maps of which fewer blocks may be looked at were made as they were.

stood_same : {K : Type 0} (o : Option (Standing K)) (after : Option (Standing K)) → IsSameMap o after → (standing : Standing K) → after ≡ Some standing
    → (before : Standing K) × (o ≡ Some before) × (standing.setting.initial ≡ before.setting.initial)
stood_same None after same standing is = absurd (let none : Some standing ≡ None = sym is ∙ same in cc none)
stood_same (Some s) after (blocks, sights, here, part) standing is =
    let one : record s { blocks = blocks; sights = sights } ≡ standing = one_of (record s { blocks = blocks; sights = sights }) standing (sym here ∙ is) in
    (s, refl, ap (λ (x : Standing _). x.setting.initial) (sym one))

pub same_maps_stood : (K V : Type 0) → SameMapsStood K V
same_maps_stood K V s t same map standing is = stood_same (s.maps map) (t.maps map) (same map) standing is

-- The map of a call stands on, and the others as they were.
stood_on : {K : Type 0} (before : Standing K) (after : Option (Standing K)) → MapContinues before after → (standing : Standing K) → after ≡ Some standing → standing.setting.initial ≡ before.setting.initial
stood_on before after (chart, blocks, sights, remembers, here) standing is =
    let one : record before { chart = chart; blocks = blocks; sights = sights } ≡ standing = one_of (record before { chart = chart; blocks = blocks; sights = sights }) standing (sym here ∙ is) in
    ap (λ (x : Standing _). x.setting.initial) (sym one)

pub calls_keep_capacities : (K V : Type 0) (same : K → K → Bool) (hash : ℕ → K → ℕ) → CallsPreserveCapacities K V same hash
calls_keep_capacities K V same hash name m known s old new shows map i u here said leads =
    capacities_stay K V m (with_effects (Some (name i)) (Some map) (effects_of (acts.Call i map) known new.changed) m) s
    (scene_after same s old new map i (leads map u here).0 u (leads map u here).1 said (leads map u here).4) shows
    (λ n standing is. effects_keep_capacities K V (Some (name i)) (Some map) (effects_of (acts.Call i map) known new.changed) m n) stood
  where
    stood : StoodSo s (scene_after same s old new map i (leads map u here).0 u (leads map u here).1 said (leads map u here).4)
    stood n standing is = elim (cases_eq n map) as (λ _. (before : Standing K) × (s.maps n ≡ Some before) × (standing.setting.initial ≡ before.setting.initial)) [
      | inl e ↦ (
        (leads map u here).0,
        ap s.maps e ∙ (leads map u here).2,
        stood_on (leads map u here).0 ((leads map u here).4.maps2 map) (leads map u here).4.its_map standing (ap (leads map u here).4.maps2 (sym e) ∙ is),
      )
      | inr ne ↦ stood_same (s.maps n) ((leads map u here).4.maps2 n) ((leads map u here).4.others n ne) standing is
    ]

-- A making leaves the maps that stand, and at its end brings one, with the setting with which it began, but for the root and the counter.
module _ {K V : Type 0} (same : K → K → Bool) (hash : ℕ → K → ℕ) (m v : Moment K V) (s : Scene K V) (old new : Held K V) (shows : RefinesCapacities m s)
    (kept : (n : ℕ) → capacity_or (map_at n v) ≡ capacity_or (map_at n m)) (i : ℕ) (b : Beginning K) (made : IsMadeFor b.map m b.given) (opening : NewMap) (w2 : World (Node K V)) where
  stays : (t : Scene K V) → t.maps ≡ s.maps → RefinesCapacities v t
  stays t maps = capacities_stay K V m v s t shows (λ n standing is. kept n) (λ n standing is. (standing, ap (λ (f : ℕ → Option (Standing K)). f n) (sym maps) ∙ is, refl))

  comes_so : (standing : Standing K) → standing.setting.initial ≡ b.given.initial → (n : ℕ) (other : Standing K) → with_at s.maps b.map (Some standing) n ≡ Some other → IsMadeFor n v other.setting
  comes_so standing initial_is n other is = elim (cases_eq n b.map) as (λ _. IsMadeFor n v other.setting) [
    | inl e ↦
        let one : standing ≡ other = one_of standing other (sym (at_same s.maps b.map (Some standing) n e) ∙ is) in
        made_as (capacity_or (map_at b.map m)) (capacity_or (map_at n v)) b.given.initial other.setting.initial (kept n ∙ ap (λ (k : ℕ). capacity_or (map_at k m)) e)
        (ap (λ (x : Standing K). x.setting.initial) (sym one) ∙ initial_is) made
    | inr ne ↦
        let was : s.maps n ≡ Some other = sym (at_other s.maps b.map (Some standing) n ne) ∙ is in
        made_as (capacity_or (map_at n m)) (capacity_or (map_at n v)) other.setting.initial other.setting.initial (kept n) refl (shows n other was)
  ]

  making_keeps : (told : Making Setting) (comes : MakingHasOutcome same hash s old new i b opening w2 told) → RefinesCapacities v (making_after same hash s old new i b opening w2 told comes)
  making_keeps progress.Goes comes = stays (making_after same hash s old new i b opening w2 progress.Goes comes) refl
  making_keeps progress.Waits comes = absurd comes
  making_keeps (progress.Done setting) comes = λ n other is. comes_so comes.0 (ap (λ (x : Setting). x.initial) (comes.1.setting_is ∙ comes.1.answer_is)) n other is
  making_keeps (progress.Refused fault) comes = stays (making_after same hash s old new i b opening w2 (progress.Refused fault) comes) refl

pub makings_keep_capacities : (K V : Type 0) (same : K → K → Bool) (hash : ℕ → K → ℕ) → MakingsPreserveCapacities K V same hash
makings_keep_capacities K V same hash m known s old new shows i told leads b here of made =
    making_keeps same hash m (with_effects None of (effects_of (acts.Making b.map) known new.changed) m) s old new shows
    (λ n. effects_keep_capacities K V None of (effects_of (acts.Making b.map) known new.changed) m n) i b made (leads b here).0 (leads b here).2.step.w2 told (leads b here).3

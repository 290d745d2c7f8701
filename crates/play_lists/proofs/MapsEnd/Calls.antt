-- A step of a call on another map leaves all of a map that ends as it was.
use Rattle.std.specs.Prelude.{◌≡◌, ◌≢◌, ◌<◌, ◌==◌, nat_le, ℕ, Bool, true, false, List, [], ◌∷◌, filter, Option, Some, None}
use Rattle.std.specs.List.{AllByRecursion, list_all}
use Rattle.std.proofs.Common.{refl, ap, sym, subst, ◌∙◌, arith, inl, inr, eqb-true}
use Rattle.std.proofs.lemmas.Bool.{and_parts, leb-true, ne_eqb}
use Rattle.std.proofs.lemmas.List.Elements.{filter_passes, recursion_from_All}
use Rattle.run_finds.specs.Given.RawDeclared.machines.progress.Progress.{Progress}
use Rattle.map_tables.specs.declared.node.Node.{Node}
use Rattle.many_acts.specs.Given.CallersTogether.{UnderWay}
use Rattle.run_schedules.specs.declared.effect.Effect.{Effect}
use Rattle.run_schedules.specs.declared.effect.Effect.TheVariants as effect
use Rattle.run_schedules.specs.declared.effect.TableId.{TableId}
use Rattle.run_schedules.specs.declared.effect.Thing.TheVariants.{APair, ATable}
use Rattle.run_schedules.specs.Schedules.Effects.{AtEachEffect, is_chunked, with_effect}
use Rattle.run_schedules.specs.Schedules.Entry.{ByCall, acting}
use Rattle.run_schedules.specs.Schedules.Handing.{is_call_effect}
use Rattle.run_schedules.specs.Schedules.Lives.{MayCopy}
use Rattle.run_schedules.specs.Schedules.Moment.{InMap, MapThere, Moment, TableThere, UnderWay as CallThere}
use Rattle.run_schedules.specs.Schedules.Things.{same_table}
use Rattle.run_schedules.specs.Schedules.Views.{first_of, first_or, is_in_map, map_at}
use Rattle.run_kept.specs.Given.EffectsEffects.{effects_of}
use Rattle.run_kept.specs.Given.EffectsKnown.{Known}
use Rattle.run_kept.specs.Given.EffectsDeclared.acting.Acting.TheVariants as acts
use Rattle.many_acts.specs.Given.FollowsFinds.{FindsMap}
use Rattle.many_acts.specs.Given.FollowsSteps.{HasLeft}
use Rattle.many_acts.specs.Given.ScenesHeld.{Held, IsAt}
use Rattle.many_acts.specs.Given.ScenesScene.{Scene}
use Rattle.many_acts.specs.Given.ScenesStepping.{StepLeads}
use Rattle.run_finds.specs.Given.MomentsWhole.{RefinesWhole}
use Rattle.run_finds.proofs.Given.MomentsCalls.{of_row}
use Rattle.run_finds.proofs.Given.HandsRowSteps.{rows_hand_theirs}
use Rattle.run_finds.proofs.Given.OthersLeads.{same_parts}
use Rattle.run_finds.proofs.Given.SpotsHanding.{AllHandNothing, HandsNothing}
use Rattle.run_finds.proofs.Given.SpotsSteps.{hands_nothing}
use Rattle.run_finds.specs.Parts.{FindPlacesOf, FindsPlace}
use Rattle.run_finds.proofs.Steps.{steps_do_theirs, steps_find_places}
use Rattle.run_schedules.specs.Deeds.History.{left_tables}
use Rattle.play_lists.specs.MapsEnd.Ends.{AreStored, IsOut, Spares}
use Rattle.play_lists.proofs.MapsEnd.Left.{by_one, stands}
use Rattle.play_lists.proofs.MapsEnd.Places.{stored_alike}
use Rattle.play_lists.proofs.MapsEnd.Spares.{one_spared}
use Rattle.many_acts.proofs.Given.OthersOutside.{not_in}

-- what hands nothing over hands over nothing that has not left its map
module _ {K V : Type 0} where
  nothing_left : (f : Effect) (m : Moment K V) → HandsNothing f → HasLeft m f
  nothing_left (effect.Deferred n t) m none = absurd none
  nothing_left (effect.Retired x) m none = absurd none
  nothing_left _ m none = tt

  none_left : (caller : Option (List ℕ)) (acted : Option ℕ) (effects : List Effect) (m : Moment K V) → AllHandNothing effects → AtEachEffect HasLeft caller acted effects m
  none_left caller acted [] m none = tt
  none_left caller acted (f ∷ effects) m none = (nothing_left f m none.0, none_left caller acted effects (with_effect caller acted f m) none.1)

module _ {K V : Type 0} (map : ℕ) where
  -- the tables that a map has from the root on are of it, and not before that
  left_its : (m : Moment K V) → AllByRecursion (λ u. stands map (first_of map m) u ≡ true) (left_tables map m)
  left_its m =
      subst (AllByRecursion (λ u. stands map (first_of map m) u ≡ true)) (sym (by_one map (first_of map m) m.tables))
      (recursion_from_All (λ u. stands map (first_of map m) u ≡ true) (filter (stands map (first_of map m)) m.tables) (filter_passes (stands map (first_of map m)) m.tables))

  -- so one that the root has passed is none of them
  passed_apart : (m : Moment K V) (g : MapThere) → map_at map m ≡ Some g → (t : TableId) → ((there : MapThere) → map_at t.map m ≡ Some there → t.turn < there.first)
      → AllByRecursion (λ u. same_table u.table t ≡ false) (left_tables map m)
  passed_apart m g there t passed = each (left_tables map m) (left_its m)
    where
      not_it : (u : TableThere) → stands map (first_of map m) u ≡ true → same_table u.table t ≡ false
      not_it u is = by (same_table u.table t) refl
        where
          by : (q : Bool) → same_table u.table t ≡ q → same_table u.table t ≡ false
          by false e = e
          by true e =
              absurd (
              let parts = same_parts u.table t e in
              let two = and_parts (u.table.map == map) _ is in
              let of : t.map ≡ map = sym parts.0 ∙ eqb-true u.table.map map two.0 in
              let less = passed g (ap (λ (x : ℕ). map_at x m) of ∙ there) in
              let from = leb-true (first_of map m) u.table.turn (and_parts (nat_le (first_of map m) u.table.turn) _ two.1).0 in
              let first : first_of map m ≡ g.first = ap first_or there in
              let turn = parts.1 in omega (arith, less, from, first, turn)
              )

      each : (us : List TableThere) → AllByRecursion (λ u. stands map (first_of map m) u ≡ true) us → AllByRecursion (λ u. same_table u.table t ≡ false) us
      each [] all = tt
      each (u ∷ us) all = (not_it u all.0, each us all.1)

  module _ (on : ℕ) (other : map ≢ on) (own : List ℕ) where
    -- what is in the other map is not in this one
    in_other : (m : Moment K V) (n : ℕ) → m.place n ≡ InMap on → IsOut map m n
    in_other m n is = ap (is_in_map map) is ∙ ne_eqb map on other

    copies_spare : (q : Bool) (m : Moment K V) (n : ℕ) (s : _) → MayCopy q on m n s → q ≡ true → IsOut map m n
    copies_spare true m n s finds is = in_other m n finds.0
    copies_spare false m n s finds is = absurd (cc is)

    copy_spares : (m : Moment K V) (n : ℕ) (s : _) (o : Option (CallThere K V)) → ByCall (FindsPlace on m (effect.Copied n s)) o → is_chunked (Some on) m ≡ true → IsOut map m n
    copy_spares m n s None finds is = absurd finds
    copy_spares m n s (Some c) finds is = copies_spare (is_chunked (Some on) m) m n s finds is

    one_spares : (f : Effect) (m : Moment K V) (g : MapThere) → map_at map m ≡ Some g → FindsMap on m f → ByCall (FindsPlace on m f) (acting (Some own) m) → HasLeft m f → is_call_effect f ≡ true
        → Spares map (Some on) m f
    one_spares (effect.Stored n s) m g there finds places left its = let new = finds.0 in omega (arith, new)
    one_spares (effect.Replaced n) m g there finds places left its = in_other m n finds
    one_spares (effect.Removed n) m g there finds places left its = in_other m n finds
    one_spares (effect.Copied n s) m g there finds places left its = copy_spares m n s (acting (Some own) m) places
    one_spares (effect.Deferred n t) m g there finds places left its = not_in map (m.place n) left
    one_spares (effect.Retired (APair n)) m g there finds places left its = not_in map (m.place n) left
    one_spares (effect.Retired (ATable t)) m g there finds places left its = passed_apart m g there t left
    one_spares (effect.Linked t shape) m g there finds places left its = λ e. other (sym e ∙ finds.0)
    one_spares (effect.Promoted t) m g there finds places left its = λ e. other (sym e ∙ finds.0)
    one_spares (effect.Reclaimed x) m g there finds places left its = absurd (cc its)
    one_spares (effect.Ended n) m g there finds places left its = absurd (cc its)
    one_spares (effect.Taken t) m g there finds places left its = absurd (cc its)
    one_spares (effect.Asked growth) m g there finds places left its = tt
    one_spares effect.PairMade m g there finds places left its = tt
    one_spares effect.PairGivenUp m g there finds places left its = tt
    one_spares (effect.TableMade t) m g there finds places left its = tt
    one_spares (effect.TableGivenUp t) m g there finds places left its = tt
    one_spares (effect.Counted s) m g there finds places left its = tt

    all_spare : (effects : List Effect) (m : Moment K V) → AreStored map m → (g : MapThere) → map_at map m ≡ Some g → AtEachEffect (FindsMap on) (Some own) (Some on) effects m → FindPlacesOf own on effects m
        → AtEachEffect HasLeft (Some own) (Some on) effects m → list_all is_call_effect effects ≡ true → AtEachEffect (Spares map (Some on)) (Some own) (Some on) effects m
    all_spare [] m stored g there finds places left its = tt
    all_spare (f ∷ effects) m stored g there finds places left its =
        let two = and_parts (is_call_effect f) (list_all is_call_effect effects) its in
        let one = one_spares f m g there finds.0 places.0 left.0 two.0 in
        let v = with_effect (Some own) (Some on) f m in
        let alike = one_spared map m stored (Some own) (Some on) (λ e. other (sym (same_number on e))) f one in
        (one, all_spare effects v (stored_alike map m v alike stored) g (alike.there ∙ there) finds.1 places.1 left.1 two.1)
      where
        same_number : (x : ℕ) → ◌≡◌ {A = Option ℕ} (Some x) (Some map) → x ≡ map
        same_number x e = cc e

module _ {K V : Type 0} (same : K → K → Bool) (hash : ℕ → K → ℕ) (name : ℕ → List ℕ) (m : Moment K V) (known : Known) (s : Scene K V) (old new : Held K V) (at : IsAt same hash old s)
    (whole : RefinesWhole same name m known s) (on i : ℕ) (u : UnderWay K V K) (here : s.calls on i ≡ Some u) (told : Progress (Node K V)) (leads : StepLeads same hash i told s old new) where
  abbrev effects : List Effect
  effects = effects_of (acts.Call i on) known new.changed

  have_left : AtEachEffect HasLeft (Some (name i)) (Some on) effects m
  have_left = elim (of_row same hash name m known s old new at whole on i u here told leads u (leads on u here).4.did) as (λ _. AtEachEffect HasLeft (Some (name i)) (Some on) effects m) [
    | inl own ↦ none_left (Some (name i)) (Some on) effects m (hands_nothing same hash name m known s old new at whole.all.shown on i u here told leads own)
    | inr row ↦ (rows_hand_theirs K V same hash name m known s old new at whole.all on i u here told leads row).0
  ]

  pub call_spares : (map : ℕ) → map ≢ on → AreStored map m → (g : MapThere) → map_at map m ≡ Some g → AtEachEffect (Spares map (Some on)) (Some (name i)) (Some on) effects m
  call_spares map other stored g there =
      let places = steps_find_places K V same hash name m known s old new at whole on i u here told leads in
      all_spare map on other (name i) effects m stored g there places.0 places.1 have_left (steps_do_theirs K V same hash name m known s old new at whole on i u here told leads)

-- All stays in order by each entry of a history that does what is its own, whose effects find what they must.
use Rattle.std.specs.Prelude.{◌≡◌, ◌≢◌, ◌==◌, ◌≤◌, ◌<◌, ℕ, nat_le, Bool, true, false, List, [], filter, length, Some, None}
use Rattle.std.specs.List.{AllByRecursion, list_any}
use Rattle.std.proofs.Common.{refl, ap, sym, subst, ◌∙◌, arith}
use Rattle.std.proofs.lemmas.Bool.{eq-eqb}
use Rattle.run_schedules.specs.Runs.Same.{is_same}
use Rattle.run_legal.specs.Given.TablesDeclared.resize_mode.ResizeMode.{ResizeMode}
use Rattle.run_schedules.specs.declared.call.Call.{Call}
use Rattle.run_schedules.specs.declared.call.Reply.{Reply}
use Rattle.run_schedules.specs.declared.effect.Effect.{Effect}
use Rattle.run_schedules.specs.declared.event.Event.TheVariants as event
use Rattle.run_schedules.specs.declared.outcome.Outcome.{Outcome}
use Rattle.run_schedules.specs.declared.outcome.Outcome.TheVariants as outcome
use Rattle.run_schedules.specs.Schedules.After.{stepped, without_call, after as after_event}
use Rattle.run_schedules.specs.Schedules.Beginning.{with_call}
use Rattle.run_schedules.specs.Schedules.Effects.{with_effects}
use Rattle.run_schedules.specs.Schedules.Entry.{IfCall}
use Rattle.run_schedules.specs.Schedules.Handing.{moments_since}
use Rattle.run_schedules.specs.Schedules.Lives.{EventFinds, Finds}
use Rattle.run_schedules.specs.Schedules.Moment.{InMap, MapThere, Moment, Place, TableThere, UnderWay as CallThere}
use Rattle.run_schedules.specs.Schedules.Terms.{Terms}
use Rattle.run_schedules.specs.Schedules.Views.{call_of, first_of, is_in_map, is_linked, map_at}
use Rattle.run_legal.specs.Given.FindsLife.{StoresOne}
use Rattle.run_legal.specs.Given.FindsWaiting.{is_unborn}
use Rattle.run_legal.specs.Given.FindsWithin.{ActsOn, AllIsInOrder, many_of}
use Rattle.run_legal.proofs.Given.FindsLife.{each_so}
use Rattle.run_legal.proofs.Given.FindsOver.{both_at, calls_stay, ended_owes_none, none_of_name}
use Rattle.run_legal.proofs.Given.FindsRuns.{life_keeps_order}
use Rattle.run_schedules.specs.Deeds.Deeds.{Begins, Deed, Ends, Entry, Leaves, Makes, MapComes, MapFails, MapGoes, Opens, ReclaimsAll, Registers, Replies, Shuts, Steps, Stops, Tends, acted_on, after, come, map_of_call, moment, named, without_map}
use Rattle.run_schedules.specs.Deeds.History.{EndFinds, past}
use Rattle.play_linear.specs.Given.AgreesFresh.{AreNamed}
use Rattle.play_linear.proofs.Given.AgreesNames.{effects_named}
use Rattle.play_linear.proofs.Linear.RowsPlayed.{IsOfRow}
use Rattle.play_linear.specs.Given.MapsEndEnds.{AreStored}
use Rattle.play_linear.proofs.Given.MapsEndPlaces.{none_in}
use Rattle.play_moves.specs.Moves.Order.{OrderStays}
use Rattle.play_moves.proofs.EachMoves.Order.Calls.{begins_in_order, stepped_in_order, stopped_in_order, told_in_order}
use Rattle.play_moves.proofs.Moves.Order.Effects.{buckets_in_order, effects_in_order, ends_find, order_like}
use Rattle.play_moves.proofs.Moves.Order.Maps.{comes_in_order, goes_in_order}

module _ {K V : Type 0} (terms : Terms) (history : List (Entry K V)) where
  abbrev m : Moment K V
  m = moment history

  abbrev pub by_deed : Deed K V → Outcome V → List Effect → Bool → Entry K V
  by_deed d o effects refused = record { deed = d; outcome = o; effects = effects; refused = refused }

  -- by who acts on a slot, and who reclaims all,
  pub rows_stay : (d : Deed K V) → IsOfRow d → (o : Outcome V) (effects : List Effect) (refused : Bool) → OrderStays terms history (by_deed d o effects refused)
  rows_stay (Registers s) is o effects refused order finds stores does =
      order_like (with_effects None None effects m) (after (by_deed (Registers s) o effects refused) m) refl refl (buckets_in_order effects m does.may order)
  rows_stay (Opens s) is o effects refused order finds stores does =
      order_like (with_effects None None effects m) (after (by_deed (Opens s) o effects refused) m) refl refl (effects_in_order terms None false effects m finds order)
  rows_stay (Shuts s) is o effects refused order finds stores does =
      order_like (with_effects None None effects m) (after (by_deed (Shuts s) o effects refused) m) refl refl (effects_in_order terms None false effects m finds order)
  rows_stay (Leaves s) is o effects refused order finds stores does =
      order_like (with_effects None None effects m) (after (by_deed (Leaves s) o effects refused) m) refl refl (effects_in_order terms None false effects m finds order)
  rows_stay (Tends s) is o effects refused order finds stores does =
      order_like (with_effects None None effects m) (after (by_deed (Tends s) o effects refused) m) refl refl (effects_in_order terms None false effects m finds order)
  rows_stay (ReclaimsAll last) is o effects refused order finds stores does =
      order_like (with_effects None None effects m) (after (by_deed (ReclaimsAll last) o effects refused) m) refl refl (effects_in_order terms None true effects m finds order)
  rows_stay _ is o effects refused order finds stores does = absurd is

  -- by a call that begins, takes a step, takes a reply, or is given up,
  pub begins_stay : (i s map : ℕ) (call : Call K V) → list_any (λ (d : CallThere K V). is_same d.caller (named i)) m.calls ≡ false → list_any (λ (f : MapThere). f.number == map) m.maps ≡ true → (o : Outcome V) (refused : Bool)
      → OrderStays terms history (by_deed (Begins i s map call) o [] refused)
  begins_stay i s map call none there o refused order finds stores does =
      order_like (with_call (named i) (named s) call (Some map) m) (after (by_deed (Begins i s map call) o [] refused) m) refl refl (begins_in_order m order (named i) (named s) call map none there)

  pub steps_stay : (i : ℕ) (o : Outcome V) (effects : List Effect) (refused : Bool) → OrderStays terms history (by_deed (Steps i) o effects refused)
  steps_stay i o effects refused order finds stores does =
      order_like (record w { calls = stepped (Some (named i)) o 1 w.calls }) (after (by_deed (Steps i) o effects refused) m) refl refl
      (stepped_in_order w then_order (named i) o (ended_owes_none (event.Next (named i)) o w then_order.waits.placed.apart does.leaves tt))
    where
      w : Moment K V
      w = with_effects (Some (named i)) (acted_on {K = K} {V = V} (Steps i) m) effects m

      moments : List (Moment K V)
      moments = moments_since terms (past history) (call_of (named i) m)

      on_its : ActsOn (Some (named i)) (acted_on {K = K} {V = V} (Steps i) m) m
      on_its own c caller_is c_is = let one : named i ≡ own = cc caller_is in ap map_of_call (ap (λ (l : List ℕ). call_of l m) one ∙ c_is)

      then_order : AllIsInOrder w
      then_order =
          life_keeps_order K V terms (Some (named i)) (acted_on {K = K} {V = V} (Steps i) m) false moments effects m
          (both_at (Finds terms (Some (named i)) (acted_on {K = K} {V = V} (Steps i) m) false moments) (StoresOne (Some (named i))) (Some (named i)) (acted_on {K = K} {V = V} (Steps i) m) effects m finds stores) on_its order

  pub replies_stay : (i : ℕ) (reply : Reply V) (refused : Bool) → OrderStays terms history (by_deed (Replies i reply) outcome.Goes [] refused)
  replies_stay i reply refused order finds stores does =
      order_like (record m { calls = (after_event (record { event = event.Replied (named i) reply; outcome = outcome.Goes; steps = 1; effects = [] }) m).calls })
      (after (by_deed (Replies i reply) outcome.Goes [] refused) m) refl refl (told_in_order m order (named i) reply)

  pub stops_stay : (i : ℕ) → IfCall (λ (c : CallThere K V). c.owes ≡ []) (call_of (named i) m) → (refused : Bool) → OrderStays terms history (by_deed (Stops i) outcome.Done [] refused)
  stops_stay i clear refused order finds stores does =
      order_like (record m { calls = without_call (named i) m.calls }) (after (by_deed (Stops i) outcome.Done [] refused) m) refl refl
      (stopped_in_order m order (named i) (none_of_name (named i) m.calls order.waits.placed.apart clear))

  -- by the making of a map, as it comes, and where it fails,
  pub makes_stay : (map : ℕ) (o : Outcome V) (effects : List Effect) (refused : Bool) → OrderStays terms history (by_deed (Makes map) o effects refused)
  makes_stay map o effects refused order finds stores does =
      order_like (with_effects None (Some map) effects m) (after (by_deed (Makes map) o effects refused) m) refl refl (effects_in_order terms (Some map) false effects m finds order)

  pub comes_stay : (map root : ℕ) (mode : ResizeMode) (capacity : ℕ) → AreNamed m → map_at map m ≡ None → (o : Outcome V) (effects : List Effect) (refused : Bool)
      → OrderStays terms history (by_deed (MapComes map root mode capacity) o effects refused)
  comes_stay map root mode capacity names none o effects refused order finds stores does =
      order_like (with_effects None (Some map) effects v) (after (by_deed (MapComes map root mode capacity) o effects refused) m) refl refl
      (effects_in_order terms (Some map) false effects v finds (comes_in_order m order names there refl refl none))
    where
      there : MapThere
      there = record { name = named map; number = map; root = root; mode = mode; capacity = capacity; first = 0 }

      v : Moment K V
      v = come there m

  -- no call is on a map of which none is under way
  still_none : (map : ℕ) (effects : List Effect) → AllByRecursion (λ (c : CallThere K V). c.map ≢ map) m.calls → AllByRecursion (λ (c : CallThere K V). c.map ≢ map) (with_effects None (Some map) effects m).calls
  still_none map effects none = subst (AllByRecursion (λ (c : CallThere K V). c.map ≢ map)) (sym (calls_stay (Some map) effects m)) none

  pub fails_stay : (map : ℕ) → AreNamed m → AllByRecursion (λ (c : CallThere K V). c.map ≢ map) m.calls → (o : Outcome V) (effects : List Effect) (refused : Bool)
      → OrderStays terms history (by_deed (MapFails map) o effects refused)
  fails_stay map names no_call o effects refused order finds stores does =
      order_like (record w { maps = without_map map w.maps }) (after (by_deed (MapFails map) o effects refused) m) refl refl
      (goes_in_order w then_order (effects_named None (Some map) effects m names) map no_pair (ap left_of does.whole.1) (still_none map effects no_call))
    where
      w : Moment K V
      w = with_effects None (Some map) effects m

      then_order : AllIsInOrder w
      then_order = effects_in_order terms (Some map) false effects m finds order

      left_of : List TableThere → List TableThere
      left_of us = filter (λ u. is_linked u.stage) (filter (λ u. nat_le (first_of map w) u.table.turn) us)

      no_pair : (n : ℕ) → 1 ≤ n → w.place n ≡ InMap map → ⊥
      no_pair n l is =
          let its = then_order.within.maps n map is in
          let stored = then_order.waits.placed.stored n (ap is_unborn is) in
          let none : many_of map w ≡ 0 = ap length does.whole.1 in
          let lies : (w.spot n).turn < many_of map w = subst (λ (of : ℕ). (w.spot n).turn < many_of of w) its.1 (then_order.within.spots n l stored) in
          omega (arith, none, lies)

  -- and by the end of a map, until it goes.
  pub ends_stay : (map : ℕ) (o : Outcome V) (effects : List Effect) (refused : Bool) → OrderStays terms history (by_deed (Ends map) o effects refused)
  ends_stay map o effects refused order finds stores does =
      order_like (with_effects None (Some map) effects m) (after (by_deed (Ends map) o effects refused) m) refl refl
      (effects_in_order terms (Some map) false effects m (each_so (EndFinds map) (EventFinds (Some map) false) (λ v f its. ends_find map v f its) None (Some map) effects m finds) order)

  pub goes_stay : (map : ℕ) → AreNamed m → AllByRecursion (λ (c : CallThere K V). c.map ≢ map) m.calls → (o : Outcome V) (effects : List Effect) (refused : Bool)
      → OrderStays terms history (by_deed (MapGoes map) o effects refused)
  goes_stay map names no_call o effects refused order finds stores does =
      order_like (record w { maps = without_map map w.maps }) (after (by_deed (MapGoes map) o effects refused) m) refl refl
      (goes_in_order w then_order (effects_named None (Some map) effects m names) map no_pair does.whole.1 (still_none map effects no_call))
    where
      w : Moment K V
      w = with_effects None (Some map) effects m

      then_order : AllIsInOrder w
      then_order = effects_in_order terms (Some map) false effects m finds order

      stored : AreStored map w
      stored k e = by (w.place k) refl e
        where
          by : (p : Place) → w.place k ≡ p → is_in_map map p ≡ true → (1 ≤ k) × (k ≤ length w.stored)
          by (InMap of) is its = ((then_order.within.maps k of is).0, then_order.waits.placed.stored k (ap is_unborn is))
          by _ is its = absurd (cc its)

      no_pair : (n : ℕ) → 1 ≤ n → w.place n ≡ InMap map → ⊥
      no_pair n l is =
          let none = none_in map w stored does.whole.0 n in let there : is_in_map map (w.place n) ≡ true = ap (is_in_map map) is ∙ eq-eqb map map refl in cc (none, there)

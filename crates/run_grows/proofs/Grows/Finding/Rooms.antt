-- The table that a reservation links is the first of its map, for so many further pairs, or follows the last one by what it has counted, or as its copier makes it; and it may ask for each block that
-- it makes.
use Rattle.std.specs.Prelude.{◌≡◌, ℕ, suc, ◌+◌, ◌^◌, nat_le, max, Bool, true, false, List, [], ◌∷◌, length, Some, Ok, Err, if◌then◌else◌}
use Rattle.std.proofs.Common.{refl, ap, sym, subst, ◌∙◌, arith, inl, inr}
use Rattle.std.proofs.lemmas.Bool.{leb-true}
use Rattle.run_finds.specs.Given.SeizeWordsMem.{Mem}
use Rattle.run_finds.specs.Given.SeizeWordsDeclared.fault.Fault.TheVariants.{Capacity}
use Rattle.papaya_raw.specs.Given.SeizeDeclared.advance.Advance.{Advance as MakingProgress}
use Rattle.papaya_raw.specs.Given.TablesLengths.{entries_of, len_of, places_for}
use Rattle.papaya_raw.specs.Given.TablesPowers.{next_power}
use Rattle.papaya_raw.specs.Given.TablesDeclared.lengths.Reason.TheVariants.{Reserved}
use Rattle.papaya_raw.specs.Given.TablesDeclared.node.Node.{Node}
use Rattle.papaya_raw.specs.Given.TablesDeclared.setting.Setting.{Setting}
use Rattle.papaya_raw.specs.Given.TablesDeclared.table.Table.{Table as Planned}
use Rattle.run_finds.specs.Given.ResizeNewTable.{new_table_plan, plan_at as making_at}
use Rattle.run_finds.specs.Given.ResizeDeclared.copier.Copier.{Copier}
use Rattle.run_finds.specs.Given.ResizeDeclared.new_table.Making.{Making}
use Rattle.run_finds.specs.Given.ResizeDeclared.new_table.Making.TheVariants as makes
use Rattle.run_finds.specs.Given.ResizeDeclared.new_table.NewTable.{NewTable}
use Rattle.run_finds.specs.Given.ResizeDeclared.yielding.Yielding.{Yielding}
use Rattle.papaya_raw.specs.Given.ReservesReserve.{made, plan_at, reserve_plan}
use Rattle.papaya_raw.specs.Given.ReservesDeclared.reserve.Reserve.{Reserve}
use Rattle.papaya_raw.specs.Given.ReservesDeclared.reserve.Reserving.{Reserving}
use Rattle.papaya_raw.specs.Given.ReservesDeclared.reserve.Reserving.TheVariants as reserving
use Rattle.papaya_raw.specs.Machine.{reserved as of_room}
use Rattle.papaya_raw.specs.declared.machines.progress.Progress.{Progress}
use Rattle.run_schedules.specs.declared.call.Call.{Call}
use Rattle.run_schedules.specs.declared.call.Call.TheVariants as call
use Rattle.run_schedules.specs.declared.effect.Effect.{Effect}
use Rattle.run_schedules.specs.declared.effect.Effect.TheVariants as effect
use Rattle.run_schedules.specs.Schedules.Counts.{Counts}
use Rattle.run_schedules.specs.Schedules.Effects.{AtEachEffect}
use Rattle.run_schedules.specs.Schedules.Growing.{Follows, Has, HasNext, IsFirstOf, MayGrow, MayMakeFor, is_too_many}
use Rattle.run_schedules.specs.Schedules.Lists.{OneOf}
use Rattle.run_schedules.specs.Schedules.Moment.{Moment, TableThere, UnderWay as CallThere}
use Rattle.run_schedules.specs.Schedules.Terms.{Terms, shards_of}
use Rattle.run_schedules.specs.Schedules.Views.{call_of, capacity_or, last_of, map_at, tables_of}
use Rattle.run_finds.specs.Given.TellerTells.{StepsObserved}
use Rattle.run_finds.specs.Given.EffectsDeclared.changed.Changed.{Changed}
use Rattle.run_finds.specs.Given.EffectsDeclared.changed.Changed.TheVariants.{Nothing}
use Rattle.run_finds.proofs.Given.OthersOutcomes.{told_in}
use Rattle.run_finds.specs.Given.RuleMaps.{IsTable}
use Rattle.run_finds.specs.Given.RuleWords.{Blocks}
use Rattle.run_finds.specs.Given.LateToldReserves.{IsRowOfReserve}
use Rattle.run_finds.specs.Given.CallersRooms.{CallForRoom}
use Rattle.run_finds.specs.Given.CallersSights.{seen_by}
use Rattle.run_finds.specs.Given.CallersTogether.{ForRoom, Together}
use Rattle.run_finds.specs.Given.EffectsEffects.{effects_of}
use Rattle.run_finds.specs.Given.EffectsKnown.{Known}
use Rattle.run_finds.specs.Given.EffectsDeclared.acting.Acting.TheVariants as acts
use Rattle.run_finds.specs.Given.FinishesMachines.{machine_of}
use Rattle.run_finds.specs.Given.FinishesMaps.{Standing}
use Rattle.run_finds.specs.Given.FollowsFinds.{FindsMap}
use Rattle.run_finds.specs.Given.MomentsWhole.{RefinesWhole}
use Rattle.run_kept.specs.Given.OwesMaking.{making_in_reserving, making_of}
use Rattle.run_kept.specs.Given.OwesTables.{RefinesOwnTables, of_map, table_in, table_made}
use Rattle.run_kept.proofs.Given.OwesTables.Held.{shape_of, some_making}
use Rattle.run_finds.specs.Growing.{FindAsked}
use Rattle.run_finds.specs.Linking.{FindShapes, IsMadeFor}
use Rattle.run_grows.specs.Grows.Copiers.{copier_in_reserving, making_of_copier}
use Rattle.run_finds.specs.Reserving.{MakesFirst}
use Rattle.run_finds.specs.Shaping.{ShapedAt}
use Rattle.run_finds.specs.Within.{many_of}
use Rattle.run_finds.proofs.Grows.Asked.{Asks, asks_some, may_ask}
use Rattle.run_finds.proofs.Linking.{made_so, one_shaped}
use Rattle.run_finds.proofs.Reserving.{rooms_may_ask}
use Rattle.run_finds.proofs.Steps.{steps_find_places}
use Rattle.run_finds.specs.Purposes.Needs.{IsFirstFor, IsLaterFor, NeedsAt}
use Rattle.run_finds.specs.Purposes.Purposes.{HasMet, IsFor, RoomAt, RefinesPurposes}
use Rattle.run_finds.proofs.Purposes.Needs.{needs_wider}
use Rattle.run_finds.proofs.Purposes.Sums.{counts_wider}
use Rattle.run_finds.proofs.Purposes.RoomFacts.{Point, StandsSo, room_point, room_setting}
use Rattle.run_grows.specs.Grows.Further.{IsFurther, RoomMakes, RefinesFurther, at_turn, lengths_in, lengths_of}
use Rattle.run_grows.proofs.Grows.Finding.Links.{linked, links_by, such_of_copier}
use Rattle.run_grows.proofs.Grows.Finding.Making.Lengths.{table_length}
use Rattle.run_finds.specs.Given.ScenesHeld.{Held, IsAt}
use Rattle.run_finds.specs.Given.ScenesScene.{Scene, slot_of}
use Rattle.run_finds.specs.Given.ScenesStepping.{StepLeads}
use Rattle.run_schedules.specs.Schedules.Transition.{Past}
use Rattle.run_finds.proofs.Given.General.{less_false as not_less, same_some as one_of}

-- what a reservation is called for
pub its_more : {K V : Type 0} (r : CallForRoom) (its : Call K V) → IsFor (ForRoom r) its → its ≡ call.Reserve r.reserve.additional
its_more r (call.Reserve more) is = ap (λ (n : ℕ). call.Reserve n) (sym is)
its_more r (call.On one) is = absurd is
its_more r call.Clear is = absurd is
its_more r call.Retain is = absurd is
its_more r call.Len is = absurd is
its_more r call.Walk is = absurd is

-- a table that it makes follows the tables of the map
module _ {K V : Type 0} (terms : Terms) (moments : List (Moment K V)) (c : CallThere K V) (p : Reserve) (its : c.call ≡ call.Reserve p.additional) (capacity initial : ℕ)
    (made_for : Has (entries_of capacity) initial) (table : Planned) where
  first_follows : IsFirstFor p table → (ts : List TableThere) → table.turn ≡ length ts → Follows terms c moments capacity (shape_of table) ts
  first_follows is [] turn = subst (λ (z : Call K V). IsFirstOf terms z c (shape_of table)) (sym its) (is.0, is.1)
  first_follows is (x ∷ ts) turn = absurd (let first = is.2 in omega (arith, turn, first))

  module _ (shards : suc p.setting.mask ≡ shards_of terms) (before : Planned) (is : IsLaterFor c.map moments p before table) where
    may_make : (t : TableThere) → MayMakeFor terms c moments t c.call is.0.0 (Reserved p.additional)
    may_make t =
        subst (λ (z : Call K V). MayMakeFor terms c moments t z is.0.0 (Reserved p.additional)) (sym its) (refl, subst (λ (n : ℕ). Counts n c.map moments is.0.0) shards is.0.1)

    later_follows : (ts : List TableThere) → table.turn ≡ length ts → at_turn (lengths_in ts) before.turn ≡ Some before.len → Follows terms c moments capacity (shape_of table) ts
    later_follows [] turn has = absurd (cc has)
    later_follows (x ∷ ts) turn has =
        (Reserved p.additional, is.0.0, initial, made_for, may_make (last_of x ts), is.0.2, is.1)

-- a first table that can be had is for no more pairs than can be

few_of : (pairs len : ℕ) → Has (len_of pairs) len → is_too_many (0 + pairs) ≡ false
few_of pairs len has = ap is_too_many (let same : 0 + pairs ≡ pairs = omega arith in same) ∙ by (nat_le (places_for pairs) (2 ^ 48)) refl has
  where
    by : (b : Bool) → nat_le (places_for pairs) (2 ^ 48) ≡ b → Has (if b then Ok (max (next_power (places_for pairs)) 8) else Err Capacity) len → is_too_many pairs ≡ false
    by true is has = not_less (2 ^ 48) (places_for pairs) (leb-true (places_for pairs) (2 ^ 48) is)
    by false is has = absurd has

few_first : {K V : Type 0} (p : Reserve) (n : NewTable) (stands : Making) (mem mem2 : Mem (Node K V)) (told : Changed) (end : NewTable × MakingProgress Planned) → ShapedAt (λ before reason. ⊥) (IsFirstFor p) stands
    → StepsObserved K V (NewTable × MakingProgress Planned) mem Nothing (making_at n stands) mem2 told end → Asks told → is_too_many (0 + p.additional) ≡ false
few_first p n (makes.Sums before reason sum) mem mem2 told end is step asks = absurd is
few_first p n (makes.Makes table) mem mem2 told end is step asks = few_of p.additional table.len is.0
few_first p n (makes.Promotes table) mem mem2 told end is step asks = few_of p.additional table.len is.0
few_first p n (makes.Links table) mem mem2 told end is step asks = few_of p.additional table.len is.0
few_first p n (makes.Drops table found) mem mem2 told end is step asks = few_of p.additional table.len is.0
few_first p n (makes.Over table) mem mem2 told end is step asks = absurd (asks_some told asks step.2)
few_first p n (makes.Refused fault) mem mem2 told end is step asks = absurd (asks_some told asks step.2)

module _ {K V : Type 0} (same : K → K → Bool) (hash : ℕ → K → ℕ) (name : ℕ → List ℕ) (log : Past K V) (m : Moment K V) (known : Known) (s : Scene K V) (old new : Held K V) (at : IsAt same hash old s)
    (whole : RefinesWhole same name m known s) (purposes : RefinesPurposes same name log m known s) (map i : ℕ) (r : CallForRoom) (here : s.calls map i ≡ Some (ForRoom r)) (said : Progress (Node K V))
    (leads : StepLeads same hash i said s old new) (terms : Terms) (c : CallThere K V) (c_is : call_of (name i) m ≡ Some c) (mask_is : (leads map (ForRoom r) here).0.setting.mask + 1 ≡ shards_of terms) where
  abbrev moments : List (Moment K V)
  moments = log.since c.begun

  abbrev st : Standing K
  st = (leads map (ForRoom r) here).0

  abbrev there : s.maps map ≡ Some (leads map (ForRoom r) here).0
  there = (leads map (ForRoom r) here).2

  abbrev seen : Blocks
  seen = seen_by st.blocks (st.sights (slot_of i))

  abbrev effects : List Effect
  effects = effects_of (acts.Call i map) known new.changed

  its_map : c.map ≡ map
  its_map = let found = whole.all.shown.calls map i (ForRoom r) here in ap (λ (x : CallThere K V). x.map) (one_of c found.0 (sym c_is ∙ found.1)) ∙ found.2

  its_call : c.call ≡ call.Reserve r.reserve.additional
  its_call = its_more r c.call (purposes.is_for map i (ForRoom r) here c c_is)

  has : HasMet map st moments r
  has = purposes.come map i (ForRoom r) here st there c c_is

  each : Together V same st.hash same st.setting slot_of s.world st.chart st.blocks st.sights (s.calls map)
  each = at.together.makings.standing.each map st there

  stands : StandsSo V same st.hash st.setting slot_of s.world st.chart seen i r
  stands = each.stand i (ForRoom r) here

  shards : suc r.reserve.setting.mask ≡ shards_of terms
  shards =
      let setting_is : r.reserve.setting.mask ≡ st.setting.mask = ap (λ (x : Setting). x.mask) (room_setting V same st.hash st.setting slot_of s.world st.chart seen i r stands) in
      omega (arith, setting_is, mask_is)

  -- it may ask for the block of a first table, since the map has counted nothing
  module _ (making : NewTable) (at_first : r.reserve.stands ≡ reserving.Makes making) where
    few : Asks new.changed → is_too_many (0 + r.reserve.additional) ≡ false
    few asks =
        let it = told_in old.memory new.memory new.changed of_room (reserve_plan (leads map (ForRoom r) here).0.hash r.reserve) ((leads map (ForRoom r) here).1, said) (leads map (ForRoom r) here).3 in
        let makes = subst (λ (q : Reserving). StepsObserved K V (Reserve × Yielding (Node K V) Unit) old.memory Nothing (plan_at (leads map (ForRoom r) here).0.hash r.reserve q) new.memory new.changed it.0) at_first it.2 in
        let step = told_in old.memory new.memory new.changed (made r.reserve) (new_table_plan making) it.0 makes in
        few_first r.reserve making making.stands old.memory new.memory new.changed step.0 (subst (NeedsAt map moments r.reserve) at_first has.needs) step.2 asks

    nothing : Counts (shards_of terms) c.map (m ∷ moments) 0
    nothing =
        subst (λ (k : ℕ). Counts (shards_of terms) k (m ∷ moments) 0) (sym its_map)
        (counts_wider map moments (m ∷ moments) (λ P it. inr it) (shards_of terms) 0 ((subst (RoomAt map moments has.low) at_first has.point).1 (shards_of terms)))

    first_asks : FindAsked terms moments (name i) map effects m
    first_asks =
        may_ask same hash name m known s old new at whole map i (ForRoom r) here said leads terms moments c c_is
        (λ asks. subst (λ (z : Call K V). MayGrow terms z c (m ∷ moments)) (sym its_call) (0, nothing, few asks))

  -- so it may ask for each block
  pub room_asks : FindAsked terms moments (name i) map effects m
  room_asks = by r.reserve.stands refl
    where
      by : (q : Reserving) → r.reserve.stands ≡ q → FindAsked terms moments (name i) map effects m
      by (reserving.Makes making) at_first = first_asks making at_first
      by q at_q = rooms_may_ask K V same hash name m known s old new at whole map i r here said leads terms moments shards c c_is its_call has.reserves (λ first. subst MakesFirst at_q first)

  -- what it knows of the table behind which it makes one
  root_there : (table : Planned) (k : NewTable) → r.reserve.stands ≡ reserving.Grows table k → (t : ℕ) × IsTable st.chart seen table t
  root_there table k is = by (subst (Point V same st.hash st.setting slot_of s.world st.chart seen i r) is (room_point V same st.hash st.setting slot_of s.world st.chart seen i r stands none))
    where
      none : IsRowOfReserve r.reserve.stands → ⊥
      none row = subst IsRowOfReserve is row

      by : Point V same st.hash st.setting slot_of s.world st.chart seen i r (reserving.Grows table k) → (t : ℕ) × IsTable st.chart seen table t
      by (inl facts) = (facts.0, facts.1)
      by (inr facts) = (facts.0, facts.1)

  -- it is as long as the moment says
  root_length : (table : Planned) (t : ℕ) → IsTable st.chart seen table t → at_turn (lengths_of map m) table.turn ≡ Some table.len
  root_length table t entered =
      subst (λ (u : ℕ). at_turn (lengths_of map m) u ≡ Some table.len) (sym (ap (λ (x : Planned). x.turn) entered.is))
      (table_length map (whole.all.shown.number map) st m known (whole.all.shown.maps map st there) t entered.made ∙ ap (λ (x : Planned). Some x.len) (sym entered.is))

  on_map : AtEachEffect (FindsMap map) (Some (name i)) (Some map) effects m
  on_map = (steps_find_places K V same hash name m known s old new at whole map i (ForRoom r) here said leads).0

  abbrev Shapes : Type 0
  Shapes = FindShapes terms moments (name i) map effects m

  module _ (tables : RefinesOwnTables name m known s) (further : RefinesFurther m s) (made_for : IsMadeFor map m (leads map (ForRoom r) here).0.setting)
      (nexts : (n : NewTable) → making_of_copier {K = K} {V = V} {Q = K} (machine_of (ForRoom r)) ≡ Some n → OneOf (HasNext map) (m ∷ moments)) where
    -- what it makes while it copies its copier makes
    copier_makes : (copier : Copier) → r.reserve.stands ≡ reserving.Copies copier → (n : NewTable) → making_of {K = K} {V = V} {Q = K} (machine_of (ForRoom r)) ≡ Some n
        → IsFurther (lengths_of map m) n × (making_of_copier {K = K} {V = V} {Q = K} (machine_of (ForRoom r)) ≡ Some n)
    copier_makes copier at_q n is =
        let its = subst (λ (q : Reserving). making_in_reserving q ≡ Some n) at_q is in (
          such_of_copier (IsFurther (lengths_of map m)) n copier.stands its (subst (RoomMakes (IsFurther (lengths_of map m))) at_q (further map i (ForRoom r) here)),
          subst (λ (q : Reserving). copier_in_reserving q ≡ Some n) (sym at_q) its,
        )

    module _ (p : Planned) (effects_are : effects ≡ effect.Linked (of_map map p) (shape_of p) ∷ []) where
      turn_is : p.turn ≡ many_of map m
      turn_is = (subst (λ (fs : List Effect). AtEachEffect (FindsMap map) (Some (name i)) (Some map) fs m) effects_are on_map).0.1

      follows_so : Follows terms c (m ∷ moments) (capacity_or (map_at map m)) (shape_of p) (tables_of map m) → Shapes
      follows_so so =
          subst (λ (fs : List Effect). FindShapes terms moments (name i) map fs m) (sym effects_are)
          (one_shaped terms moments (name i) map (effect.Linked (of_map map p) (shape_of p)) m c c_is
          (subst (λ (k : ℕ). Follows terms c (m ∷ moments) (capacity_or (map_at k m)) (shape_of p) (tables_of k m)) (sym its_map) so))

      by_point : (q : Reserving) → r.reserve.stands ≡ q → NeedsAt map (m ∷ moments) r.reserve q → (n : NewTable) → making_in_reserving q ≡ Some n → table_in n.stands ≡ Some p
          → table_made (making_of {K = K} {V = V} {Q = K} (machine_of (ForRoom r))) ≡ Some p → Shapes
      by_point (reserving.Makes k) at_q needs n is made had =
          let one : n ≡ k = (let back : k ≡ n = cc is in sym back) in
          follows_so (first_follows terms (m ∷ moments) c r.reserve its_call (capacity_or (map_at map m)) st.setting.initial made_for p
          (made_so (λ before reason. ⊥) (IsFirstFor r.reserve) k.stands p needs (subst (λ (y : NewTable). table_in y.stands ≡ Some p) one made)) (tables_of map m) turn_is)
      by_point (reserving.Grows table k) at_q needs n is made had =
          let one : n ≡ k = (let back : k ≡ n = cc is in sym back) in
          let root = root_there table k at_q in
          let later = made_so (λ before reason. ⊥) (IsLaterFor map (m ∷ moments) r.reserve table) k.stands p needs (subst (λ (y : NewTable). table_in y.stands ≡ Some p) one made) in
          follows_so (later_follows terms (m ∷ moments) c r.reserve its_call (capacity_or (map_at map m)) st.setting.initial made_for p shards table
          (subst (λ (k : ℕ). IsLaterFor k (m ∷ moments) r.reserve table p) (sym its_map) later) (tables_of map m) turn_is (root_length table root.0 root.1))
      by_point (reserving.Copies copier) at_q needs n is made had =
          linked same hash name m known s old new at whole tables map i (ForRoom r) here said leads terms moments (copier_makes copier at_q) made_for nexts p effects_are had
      by_point _ at_q needs n is made had = absurd (cc is)

    pub room_links : Shapes
    room_links = links_by same hash name m known s old new at whole tables map i (ForRoom r) here said leads terms moments (λ p effects_are had. (
        let making = some_making (making_in_reserving r.reserve.stands) p had in
        by_point p effects_are r.reserve.stands refl (needs_wider map moments (m ∷ moments) (λ P it. inr it) r.reserve r.reserve.stands has.needs) making.0 making.1 making.2 had
        ))

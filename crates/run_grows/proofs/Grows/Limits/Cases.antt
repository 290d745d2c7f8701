-- A step by which a call is refused for the length of a table comes in its case: a table of its map is at the limit, or was since it began; or a reservation has counted too many pairs.
use Rattle.std.specs.Prelude.{◌≡◌, ◌⊎◌, ◌+◌, ◌^◌, ◌<◌, ◌%◌, nat_le, max, ℕ, zero, suc, Bool, true, false, List, ◌∷◌, Ok, Err, Some, if◌then◌else◌}
use Rattle.std.proofs.Common.{refl, ap, sym, subst, ◌∙◌, inl, inr, arith}
use Rattle.std.proofs.lemmas.Bool.{leb-true, lt-ltb}
use Rattle.run_finds.specs.Given.SeizeWordsMem.{Mem, Took, value_at}
use Rattle.run_finds.specs.Given.SeizeWordsPlan.{Steps}
use Rattle.run_finds.specs.Given.SeizeWordsDeclared.fault.Fault.TheVariants.{Capacity}
use Rattle.papaya_raw.specs.Given.SeizeDeclared.advance.Advance.TheVariants as counting
use Rattle.papaya_raw.specs.Given.TablesCounts.{count_in}
use Rattle.papaya_raw.specs.Given.TablesLengths.{places_for}
use Rattle.papaya_raw.specs.Given.TablesPowers.{next_power}
use Rattle.papaya_raw.specs.Given.TablesDeclared.node.Node.{Node}
use Rattle.papaya_raw.specs.Given.TablesDeclared.setting.Setting.{Setting}
use Rattle.run_finds.specs.Given.ResizeSum.{sum_plan}
use Rattle.papaya_raw.specs.Given.ReservesReserve.{needed, or_too_long}
use Rattle.papaya_raw.specs.Given.ReservesDeclared.reserve.Reserving.{Reserving}
use Rattle.papaya_raw.specs.Given.ReservesDeclared.reserve.Reserving.TheVariants as reserving
use Rattle.papaya_raw.specs.declared.machines.progress.Progress.{Progress}
use Rattle.papaya_raw.specs.declared.machines.progress.Progress.TheVariants as progress
use Rattle.run_schedules.specs.declared.call.Call.{Call}
use Rattle.run_schedules.specs.declared.call.Call.TheVariants as call
use Rattle.run_schedules.specs.Schedules.Coming.{CountsTooMany}
use Rattle.run_schedules.specs.Schedules.Counts.{AddsUp, Counts}
use Rattle.run_schedules.specs.Schedules.Effects.{with_effects}
use Rattle.run_schedules.specs.Schedules.Growing.{is_too_many}
use Rattle.run_schedules.specs.Schedules.Lists.{OneOf}
use Rattle.run_schedules.specs.Schedules.Moment.{Moment, UnderWay as CallThere}
use Rattle.run_schedules.specs.Schedules.Terms.{Terms, shards_of}
use Rattle.run_schedules.specs.Schedules.Views.{call_of}
use Rattle.run_finds.specs.Given.CallersRooms.{CallForRoom}
use Rattle.run_finds.specs.Given.CallersSights.{seen_by}
use Rattle.run_finds.specs.Given.CallersTogether.{Counting, ForRoom, OnKey, OverAll, UnderWay}
use Rattle.run_finds.specs.Given.EffectsEffects.{effects_of}
use Rattle.run_finds.specs.Given.EffectsKnown.{Known}
use Rattle.run_finds.specs.Given.EffectsDeclared.acting.Acting.TheVariants as acts
use Rattle.papaya_raw.proofs.Given.TablesTableLens.{next-power-most}
use Rattle.run_finds.proofs.Given.LateKindsKept.Rooms.Making.{above}
use Rattle.run_finds.specs.Given.FinishesMaps.{Standing}
use Rattle.run_finds.specs.Given.MomentsWhole.{RefinesWhole}
use Rattle.run_finds.specs.Capacities.{RefinesCapacities}
use Rattle.run_finds.proofs.Reserving.{adds_after}
use Rattle.run_finds.specs.Purposes.Purposes.{RefinesPurposes}
use Rattle.run_finds.specs.Purposes.Shards.{ReadsShards}
use Rattle.run_finds.proofs.Purposes.RoomFacts.{room_setting}
use Rattle.run_finds.proofs.Purposes.RoomSteps.{counts_then}
use Rattle.run_grows.specs.Grows.Limits.{HasLimit, IsAtLimit, NeedsMore, RefinesLimits}
use Rattle.run_grows.proofs.Grows.Finding.Rooms.{its_more}
use Rattle.run_grows.proofs.Grows.Limits.Steps.{refused_for}
use Rattle.run_grows.proofs.Grows.Limits.Walk.{SummedAt}
use Rattle.run_finds.specs.Given.ScenesHeld.{Held, IsAt}
use Rattle.run_finds.specs.Given.ScenesScene.{Scene, slot_of}
use Rattle.run_finds.specs.Given.ScenesStepping.{StepLeads}
use Rattle.run_schedules.specs.Schedules.Transition.{Past}

-- Where pairs need more places than a table can have, they are too many.
module _ (count additional : ℕ) where
  abbrev pairs : ℕ
  pairs = count + additional

  needs_many : 2 ^ 48 < needed additional count → 2 ^ 48 < places_for pairs
  needs_many more = by (nat_le (places_for pairs) (2 ^ 48)) refl more
    where
      by : (b : Bool) → nat_le (places_for pairs) (2 ^ 48) ≡ b → 2 ^ 48 < or_too_long (if b then Ok (max (next_power (places_for pairs)) 8) else Err Capacity) → 2 ^ 48 < places_for pairs
      by true few more = absurd (let most = next-power-most (places_for pairs) (leb-true (places_for pairs) (2 ^ 48) few) in omega (arith, most, more))
      by false many more = above (places_for pairs) (2 ^ 48) many

  too_many : 2 ^ 48 < needed additional count → is_too_many pairs ≡ true
  too_many more = lt-ltb (2 ^ 48) (places_for pairs) (needs_many more)

-- and so they are with more
more_too_many : (n additional : ℕ) → NeedsMore additional → is_too_many (n + additional) ≡ true
more_too_many n additional more = lt-ltb (2 ^ 48) (places_for (n + additional)) (let many = needs_many 0 additional more in omega (arith, many))

module _ {K V : Type 0} (of : ℕ) (x : Moment K V) (moments : List (Moment K V)) where
  -- some count is had at a moment
  sum_at : (shards : ℕ) → (sum : ℕ) × AddsUp of (x ∷ moments) shards sum
  sum_at zero = (0, refl)
  sum_at (suc s) = let rest = sum_at s in (rest.0 + x.shards of s, inl (rest.0, rest.1, refl))

  count_at : (shards : ℕ) → (n : ℕ) × Counts shards of (x ∷ moments) n
  count_at shards = let sum = sum_at shards in (count_in (sum.0 % 2 ^ 64), (sum.0, sum.1, refl))

  count_on : (shards n : ℕ) → Counts shards of moments n → Counts shards of (x ∷ moments) n
  count_on shards n counts = (counts.0, adds_after of moments x shards counts.0 counts.1, counts.2)

-- it has as many shards as its map
pub room_shards : {K V : Type 0} (same : K → K → Bool) (hash : ℕ → K → ℕ) (s : Scene K V) (e : Held K V) → IsAt same hash e s → (map i : ℕ) (r : CallForRoom) → s.calls map i ≡ Some (ForRoom r) → (st : Standing K)
    → s.maps map ≡ Some st → (n : ℕ) → st.setting.mask + 1 ≡ n → suc r.reserve.setting.mask ≡ n
room_shards {K} {V} same hash s e at map i r here st there n mask_is =
    let each = at.together.makings.standing.each map st there in
    let setting_is : r.reserve.setting.mask ≡ st.setting.mask =
    ap (λ (x : Setting). x.mask) (room_setting V same st.hash st.setting slot_of s.world st.chart (seen_by st.blocks (st.sights (slot_of i))) i r (each.stand i (ForRoom r) here)) in
    omega (arith, setting_is, mask_is)

module _ {K V : Type 0} (same : K → K → Bool) (hash : ℕ → K → ℕ) (name : ℕ → List ℕ) (log : Past K V) (m : Moment K V) (known : Known) (s : Scene K V) (old new : Held K V) (at : IsAt same hash old s)
    (whole : RefinesWhole same name m known s) (map i : ℕ) (said : Progress (Node K V)) (leads : StepLeads same hash i said s old new) (limits : RefinesLimits name log m s) (capacities : RefinesCapacities m s)
    (purposes : RefinesPurposes same name log m known s) (terms : Terms) (c : CallThere K V) (c_is : call_of (name i) m ≡ Some c) (d : CallThere K V) (d_call : d.call ≡ c.call) (d_map : d.map ≡ map)
    (d_begun : d.begun ≡ c.begun) where
  abbrev pub v : Moment K V
  v = with_effects (Some (name i)) (Some map) (effects_of (acts.Call i map) known new.changed) m

  abbrev moments : List (Moment K V)
  moments = log.since c.begun

  -- of the call as it is once the event is over, by the moments since this event
  abbrev InCaseSince : ℕ → Type 0
  InCaseSince begun = CountsTooMany terms d.call d (v ∷ log.since begun) ⊎ OneOf (λ x. IsAtLimit d.map x) (v ∷ log.since begun)

  abbrev InCase : Type 0
  InCase = InCaseSince c.begun

  at_limit : HasLimit map c.begun log v → InCase
  at_limit (inl had) = inr (inr (subst (λ (n : ℕ). OneOf (λ x. IsAtLimit n x) moments) (sym d_map) had))
  at_limit (inr now) = inr (inl (subst (λ (n : ℕ). IsAtLimit n v) (sym d_map) now))

  none_summed : HasLimit map c.begun log v ⊎ ⊥ → InCase
  none_summed (inl limit) = at_limit limit
  none_summed (inr none) = absurd none

  -- of a reservation
  module _ (r : CallForRoom) (here : s.calls map i ≡ Some (ForRoom r)) (shards_are : suc r.reserve.setting.mask ≡ shards_of terms) (shards : ReadsShards log m s map (ForRoom r)) where
    abbrev st : Standing K
    st = (leads map (ForRoom r) here).0

    its_call : d.call ≡ call.Reserve r.reserve.additional
    its_call = d_call ∙ its_more r c.call (purposes.is_for map i (ForRoom r) here c c_is)

    counts_many : (n : ℕ) → Counts (suc r.reserve.setting.mask) map (v ∷ moments) n → is_too_many (n + r.reserve.additional) ≡ true → InCase
    counts_many n counts many =
        inl (subst (λ (z : Call K V). CountsTooMany terms z d (v ∷ moments)) (sym its_call)
        (n, subst (λ (of : ℕ). Counts (shards_of terms) of (v ∷ moments) n) (sym d_map) (subst (λ (k : ℕ). Counts k map (v ∷ moments) n) shards_are counts), many))

    summed_at : (p : Reserving) → r.reserve.stands ≡ p → SummedAt old.memory new.memory r.reserve p → InCase
    summed_at (reserving.Sums table sum) is (after, count, step, many) =
        counts_many count
        (count_on map v moments (suc r.reserve.setting.mask) count
        (counts_then same hash log purposes.past m s old new at map i r here st (leads map (ForRoom r) here).2 c (purposes.begun map i (ForRoom r) here c c_is) shards
        (purposes.come map i (ForRoom r) here st (leads map (ForRoom r) here).2 c c_is) (leads map (ForRoom r) here).1 said (leads map (ForRoom r) here).3 table sum after count is new.memory
        (subst (λ (q : Mem (Node K V)). Steps Took value_at q (sum_plan sum) new.memory (after, counting.Done count)) (sym at.memory) step)))
        (too_many count r.reserve.additional many)
    summed_at _ is summed = absurd summed

    needs_more : NeedsMore r.reserve.additional → InCase
    needs_more needs = let count = count_at map v moments (suc r.reserve.setting.mask) in counts_many count.0 count.1 (more_too_many count.0 r.reserve.additional needs)

    room_in_case : (HasLimit map c.begun log v ⊎ SummedAt old.memory new.memory r.reserve r.reserve.stands) ⊎ NeedsMore r.reserve.additional → InCase
    room_in_case (inl (inl limit)) = at_limit limit
    room_in_case (inl (inr summed)) = summed_at r.reserve.stands refl summed
    room_in_case (inr needs) = needs_more needs

  by_kind : (u : UnderWay K V K) (here : s.calls map i ≡ Some u) → ((r : CallForRoom) → u ≡ ForRoom r → suc r.reserve.setting.mask ≡ shards_of terms) → ReadsShards log m s map u → said ≡ progress.Refused Capacity → InCase
  by_kind (OnKey x) here mask shards is = none_summed (refused_for same hash name log m known s old new at whole map i (OnKey x) here said leads limits capacities c c_is is)
  by_kind (OverAll o) here mask shards is = none_summed (refused_for same hash name log m known s old new at whole map i (OverAll o) here said leads limits capacities c c_is is)
  by_kind (Counting sum) here mask shards is = none_summed (refused_for same hash name log m known s old new at whole map i (Counting sum) here said leads limits capacities c c_is is)
  by_kind (ForRoom r) here mask shards is =
      room_in_case r here (mask r refl) shards (refused_for same hash name log m known s old new at whole map i (ForRoom r) here said leads limits capacities c c_is is)

  -- The promise.
  pub steps_in_case : (u : UnderWay K V K) (here : s.calls map i ≡ Some u) → ((r : CallForRoom) → u ≡ ForRoom r → suc r.reserve.setting.mask ≡ shards_of terms) → ReadsShards log m s map u → said ≡ progress.Refused Capacity
      → CountsTooMany terms d.call d (v ∷ log.since d.begun) ⊎ OneOf (λ x. IsAtLimit d.map x) (v ∷ log.since d.begun)
  steps_in_case u here mask shards is = subst InCaseSince (sym d_begun) (by_kind u here mask shards is)

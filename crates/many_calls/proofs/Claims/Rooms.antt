-- What one step of a reservation does to claims, in blocking mode.
use Rattle.std.specs.Prelude.{◌⊎◌, ◌==◌, nat_lt, cond, ◌^◌, if◌then◌else◌}
use Rattle.std.proofs.Common.{◌≡◌, ℕ, Bool, true, false, inl, inr, refl, ap, sym, subst}
use Rattle.seize_model.specs.Given.SeizeWordsMem.{Mem, Can, Took, value_at}
use Rattle.seize_model.specs.Given.SeizeWordsOp.{Out, Found}
use Rattle.seize_model.specs.Given.SeizeWordsPlan.{May, Steps}
use Rattle.seize_model.specs.Given.SeizeWordsDeclared.fault.Fault.TheVariants.{Capacity}
use Rattle.seize_model.specs.Given.SeizeWorld.{World}
use Rattle.seize_model.specs.Given.SeizeDeclared.advance.Advance.{Advance}
use Rattle.seize_model.specs.Given.SeizeDeclared.advance.Advance.TheVariants as progress
use Rattle.map_facts_late.specs.Given.TablesChunks.{is_incremental}
use Rattle.map_facts_late.specs.Given.TablesDeclared.node.Node.{Node}
use Rattle.map_facts_late.specs.Given.TablesDeclared.setting.Setting.{Setting}
use Rattle.map_facts_late.specs.Given.TablesDeclared.table.Table.{Table}
use Rattle.map_facts_late.specs.Given.ResizeCopier.{copier_plan}
use Rattle.map_facts_late.specs.Given.ResizeNewTable.{new_table_plan}
use Rattle.map_facts_late.specs.Given.ResizeSum.{sum_plan}
use Rattle.map_facts_late.specs.Given.ResizeDeclared.copier.Copier.{Copier}
use Rattle.map_facts_late.specs.Given.ResizeDeclared.copier.Copying.TheVariants as copies
use Rattle.map_facts_late.specs.Given.ResizeDeclared.new_table.NewTable.{NewTable}
use Rattle.map_facts_late.specs.Given.ResizeDeclared.yielding.Yielding.{Yielding}
use Rattle.map_facts_late.specs.Given.ResizeDeclared.yielding.Yielding.TheVariants as outcome
use Rattle.map_facts_late.specs.Given.ResizeDeclared.sum.Sum.{Sum}
use Rattle.map_facts_late.specs.Given.ReservesReserve.{standing, refusing, enough, summed, made, grown, copied, needed, root_read, next_read, plan_at, reserve_plan}
use Rattle.map_facts_late.specs.Given.ReservesDeclared.reserve.Reserve.{Reserve}
use Rattle.map_facts_late.specs.Given.ReservesDeclared.reserve.Reserving.{Reserving}
use Rattle.map_facts_late.specs.Given.ReservesDeclared.reserve.Reserving.TheVariants as at
use Rattle.map_facts_late.specs.Given.RuleChart.{Chart}
use Rattle.map_facts_late.specs.Given.RuleMoves.{Links}
use Rattle.map_facts_late.specs.Given.RuleInWorld.{IsMapIn, StepSpec}
use Rattle.map_facts_late.specs.Given.RuleWords.{Blocks}
use Rattle.map_facts_late.proofs.Given.RuleKeys.Always.{Always, AlwaysOf, always_if, always_plan_as, always_steps}
use Rattle.map_facts_late.specs.Given.PointsFactsCopies.{CopierFacts}
use Rattle.map_facts_late.specs.Given.PointsFactsCopiesBlocking.{CopierFactsBlocking}
use Rattle.map_facts_late.specs.Given.PointsTold.{OnlyLinks, MovedBesideCopying}
use Rattle.map_facts_late.specs.FactsReserves.{CopiesPairs, IsEnding, CopiesWhole, ReservingFacts, ReserveFacts}
use Rattle.map_facts_late.specs.LateReserves.{SupersededReserving, SupersededReserveFacts}
use Rattle.map_facts_late.specs.ToldReserves.{IsRowOfReserve}
use Rattle.many_calls.specs.Claims.{ClaimsBy}
use Rattle.many_calls.specs.Rooms.{RoomClaims}
use Rattle.many_calls.proofs.Claims.Calls.{begun_other}
use Rattle.many_calls.proofs.Claims.Charts.{claim_beside}
use Rattle.many_calls.proofs.Claims.Copiers.{IsOther}
use Rattle.many_calls.proofs.Claims.Knows.{CopierKnows, fresh_knows, late_knows}
use Rattle.many_calls.proofs.Claims.Within as within

-- it is not to claim places next
abbrev IsOtherRoom : Reserving → Type 0
IsOtherRoom (at.Copies copier) = IsOther copier.stands
IsOtherRoom _ = Unit {0}

not_to : (stands : Reserving) (t : ℕ) → IsOtherRoom stands → RoomClaims t stands → ⊥
not_to (at.Copies copier) t other to = subst IsOther to.0 other
not_to _ t other to = to

module _ {K V : Type 0} where
  abbrev OtherStep : Reserve × Yielding (Node K V) Unit → Type 0
  OtherStep end = IsOtherRoom end.0.stands

  -- if it is to claim, so is the copier within it
  inner_to : (p : Reserve) (t : ℕ) (end : Copier × Yielding (Node K V) Table) → RoomClaims t (copied p end).0.stands → (end.0.stands ≡ copies.Claims) × (end.0.target.turn ≡ t)
  inner_to p t (copier, outcome.Goes) to = to
  inner_to p t (copier, outcome.Waits) to = to
  inner_to p t (copier, outcome.Gave value) to = to
  inner_to p t (copier, outcome.Done table) to = absurd to
  inner_to p t (copier, outcome.Refused fault) to = absurd to

  copied_other : (p : Reserve) (end : Copier × Yielding (Node K V) Table) → IsOther end.0.stands → OtherStep (copied p end)
  copied_other p (copier, outcome.Goes) other = other
  copied_other p (copier, outcome.Waits) other = other
  copied_other p (copier, outcome.Gave value) other = other
  copied_other p (copier, outcome.Done table) other = tt
  copied_other p (copier, outcome.Refused fault) other = tt

-- what each answer of an operation leads to, beside its copying
module _ (K V : Type 0) (hash : K → ℕ) (p : Reserve) (here : IsOtherRoom p.stands) where
  made_other : (end : NewTable × Advance Table) → OtherStep (made {K = K} {V = V} p end)
  made_other (making, progress.Goes) = tt
  made_other (making, progress.Waits) = tt
  made_other (making, progress.Done table) = tt
  made_other (making, progress.Refused fault) = tt

  grown_other : (table : Table) (end : NewTable × Advance Table) → OtherStep (grown {K = K} {V = V} p table end)
  grown_other table (making, progress.Goes) = tt
  grown_other table (making, progress.Waits) = tt
  grown_other table (making, progress.Done next) = begun_other p.setting table next
  grown_other table (making, progress.Refused fault) = tt

  enough_other : (table : Table) (need : ℕ) → OtherStep {K = K} {V = V} (enough p table need)
  enough_other table need = by (nat_lt (2 ^ 48) need) (nat_lt table.len need)
    where
      by : (a b : Bool) → OtherStep {K = K} {V = V} (if a then refusing p Capacity else (if b then (standing p (at.Follows table need), outcome.Goes) else (standing p at.Over, outcome.Done tt)))
      by true b = tt
      by false true = tt
      by false false = tt

  summed_other : (table : Table) (end : Sum × Advance ℕ) → OtherStep {K = K} {V = V} (summed p table end)
  summed_other table (sum, progress.Goes) = tt
  summed_other table (sum, progress.Waits) = tt
  summed_other table (sum, progress.Done count) = enough_other table (needed p.additional count)
  summed_other table (sum, progress.Refused fault) = tt

  on_root : (out : Out (Node K V)) → Always OtherStep (root_read p out)
  on_root (Found link) = always_if OtherStep (link == 0) _ _ tt (λ value. tt)
  on_root _ = here

  on_next : (table : Table) (need : ℕ) (out : Out (Node K V)) → Always OtherStep (next_read p table need out)
  on_next table need (Found link) = always_if OtherStep (link == 0) _ _ tt (λ value. begun_other p.setting table _)
  on_next table need _ = here

  other_plan : (stands : Reserving) → (CopiesPairs stands → ⊥) → AlwaysOf (OtherStep {K = K} {V = V}) (plan_at hash p stands)
  other_plan at.Reads none = on_root
  other_plan (at.Makes making) none = always_plan_as OtherStep (made p) made_other (new_table_plan making)
  other_plan (at.Sums table sum) none = always_plan_as OtherStep (summed p table) (summed_other table) (sum_plan sum)
  other_plan (at.Follows table need) none = on_next table need
  other_plan (at.Grows table making) none = always_plan_as OtherStep (grown p table) (grown_other table) (new_table_plan making)
  other_plan (at.Copies copier) none = absurd (none tt)
  other_plan at.Over none = here
  other_plan (at.Refused fault) none = here

module _ {K V : Type 0} where
  room_other : (hash : K → ℕ) (p : Reserve) (m m2 : Mem (Node K V)) (end : Reserve × Yielding (Node K V) Unit) → (CopiesPairs p.stands → ⊥) → Steps Took value_at m (reserve_plan hash p) m2 end → OtherStep end
  room_other hash p m m2 end none s = always_steps OtherStep m m2 (reserve_plan hash p) end (other_plan K V hash p (beside p.stands none) p.stands none) s
    where
      beside : (stands : Reserving) → (CopiesPairs stands → ⊥) → IsOtherRoom stands
      beside (at.Copies copier) none = absurd (none tt)
      beside _ none = tt

-- a table that is linked is beside a copying
links_beside : {K : Type 0} (hash : K → ℕ) (setting : Setting) (c c2 : Chart K) → OnlyLinks hash setting.mode c c2 → MovedBesideCopying hash setting.mode c c2
links_beside hash setting c c2 (inl e) = inl e
links_beside hash setting c c2 (inr (len, limit, e)) = inr (Links len limit, tt, e)

module _ {K V : Type 0} (same : K → K → Bool) (hash : K → ℕ) (w : World (Node K V)) (caller : ℕ) (setting : Setting) (c : Chart K) (blocks : Blocks)
    (blocking : is_incremental setting.mode ≡ false) (map : IsMapIn same hash setting w c blocks) (began : ℕ) (p : Reserve)
    (facts : ReserveFacts same hash w caller setting c blocks p ⊎ SupersededReserveFacts same hash w caller setting c blocks began p) (none : IsRowOfReserve p.stands → ⊥) where
  whole : (copier : Copier) → CopiesWhole same hash w caller setting c blocks copier → CopierFactsBlocking same hash w caller setting c blocks copier
  whole copier = subst
      (λ (b : Bool). cond b ((copier.whole ≡ true) × CopierFacts same hash w caller setting c blocks copier × IsEnding same hash w caller setting c blocks copier copier.stands)
      (CopierFactsBlocking same hash w caller setting c blocks copier)) blocking

  -- what its copier knows
  copier_knows : (copier : Copier) → p.stands ≡ at.Copies copier → CopierKnows w caller setting c blocks copier copier.stands × (copier.setting ≡ setting)
  copier_knows copier is = by facts
    where
      by : ReserveFacts same hash w caller setting c blocks p ⊎ SupersededReserveFacts same hash w caller setting c blocks began p → CopierKnows w caller setting c blocks copier copier.stands × (copier.setting ≡ setting)
      by (inl fresh) =
          let f = whole copier (subst (ReservingFacts same hash w caller setting c blocks) is fresh.point) in
          (fresh_knows same hash w caller setting c blocks map copier copier.stands f.point (λ row. none (subst IsRowOfReserve (sym is) row)), f.setting_is)
      by (inr late) =
          let f = subst (SupersededReserving same hash w caller setting c blocks began) is late.point in
          (late_knows same hash w caller setting c blocks map copier began copier.stands f.point (λ row. none (subst IsRowOfReserve (sym is) row)), f.setting_is)

  module _ (m2 : Mem (Node K V)) (Told : World (Node K V) → Chart K → Blocks → Type 0) (went : StepSpec same hash setting caller w c blocks m2 Told)
      (beside : (CopiesPairs p.stands → ⊥) → OnlyLinks hash setting.mode c went.c2) (p2 : Reserve) (end : Yielding (Node K V) Unit)
      (may : May Can Took value_at w.memory (reserve_plan hash p)) (steps : Steps Took value_at w.memory (reserve_plan hash p) m2 (p2, end)) where
    abbrev Claims : Type 0
    Claims = ClaimsBy c went.c2 (λ t. RoomClaims t p.stands) (λ t. RoomClaims t p2.stands)

    -- while it copies nothing
    aside : (CopiesPairs p.stands → ⊥) → Claims
    aside idle = record {
      grows = λ t made. inl (ap (λ (f : ℕ → ℕ). f t) (claim_beside hash setting.mode c went.c2 (links_beside hash setting c went.c2 (beside idle))));
      sees = λ t to. absurd (not_to p2.stands t (room_other hash p w.memory m2 (p2, end) idle steps) to);
    }

    -- while it copies
    module _ (copier : Copier) (is : p.stands ≡ at.Copies copier) where
      outer : Steps Took value_at w.memory (plan_at hash p (at.Copies copier)) m2 (p2, end)
      outer = subst (λ (s : Reserving). Steps Took value_at w.memory (plan_at hash p s) m2 (p2, end)) is steps

      may_outer : May Can Took value_at w.memory (plan_at hash p (at.Copies copier))
      may_outer = subst (λ (s : Reserving). May Can Took value_at w.memory (plan_at hash p s)) is may

      knows : CopierKnows w caller setting c blocks copier copier.stands × (copier.setting ≡ setting)
      knows = copier_knows copier is

      abbrev inner : (e : Copier × Yielding (Node K V) Table) × Steps Took value_at w.memory (copier_plan hash copier) m2 e × ((p2, end) ≡ copied p e)
      inner = within.inner same hash w caller setting c blocks blocking map m2 Told went (copied p) copier knows.0 knows.1 (p2, end) may_outer outer

      stands_is : p2.stands ≡ (copied p inner.0).0.stands
      stands_is = ap (λ (x : Reserve × Yielding (Node K V) Unit). x.0.stands) inner.2

      copying : Claims
      copying = record {
        grows = λ t made. elim (within.grows same hash w caller setting c blocks blocking map m2 Told went (copied p) copier knows.0 knows.1 (p2, end) may_outer outer t made) [
          | inl e ↦ inl e
          | inr (claims, turn, other, most) ↦ inr (
            subst (RoomClaims t) (sym is) (claims, turn),
            λ to. not_to (copied p inner.0).0.stands t (copied_other p inner.0 other) (subst (RoomClaims t) stands_is to),
            most,
          )
        ];
        sees = λ t to.
            let claims = inner_to p t inner.0 (subst (RoomClaims t) stands_is to) in
            within.sees same hash w caller setting c blocks blocking map m2 Told went (copied p) copier knows.0 knows.1 (p2, end) may_outer outer t claims.0 claims.1;
      }

    pub room_claims_by : ClaimsBy c went.c2 (λ t. RoomClaims t p.stands) (λ t. RoomClaims t p2.stands)
    room_claims_by = by p.stands refl
      where
        by : (stands : Reserving) → p.stands ≡ stands → Claims
        by (at.Copies copier) is = copying copier is
        by at.Reads is = aside (λ now. subst CopiesPairs is now)
        by (at.Makes making) is = aside (λ now. subst CopiesPairs is now)
        by (at.Sums table sum) is = aside (λ now. subst CopiesPairs is now)
        by (at.Follows table need) is = aside (λ now. subst CopiesPairs is now)
        by (at.Grows table making) is = aside (λ now. subst CopiesPairs is now)
        by at.Over is = aside (λ now. subst CopiesPairs is now)
        by (at.Refused fault) is = aside (λ now. subst CopiesPairs is now)

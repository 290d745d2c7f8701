-- A reservation knows from its counting on that a table can be had, and so it may ask for the blocks of one that follows another.
use Rattle.std.specs.Prelude.{◌≡◌, ℕ, zero, suc, ◌+◌, ◌-◌, ◌^◌, ◌==◌, nat_le, nat_lt, max, Bool, true, false, List, [], ◌∷◌, Some, Ok, Err, if◌then◌else◌}
use Rattle.std.proofs.Common.{refl, ap, sym, subst, ◌∙◌, inl, inr, arith}
use Rattle.std.proofs.lemmas.Bool.{ltb-false, leb-true}
use Rattle.run_executor.specs.Given.SeizeWordsMem.{Mem}
use Rattle.run_executor.specs.Given.SeizeWordsOp.{Out, Found}
use Rattle.run_executor.specs.Given.SeizeDeclared.advance.Advance.{Advance}
use Rattle.run_executor.specs.Given.SeizeDeclared.advance.Advance.TheVariants as progress
use Rattle.run_executor.specs.Given.SeizeWordsDeclared.fault.Fault.TheVariants.{Capacity}
use Rattle.run_blocks.specs.Given.TablesLengths.{places_for}
use Rattle.run_blocks.specs.Given.TablesPowers.{next_power}
use Rattle.run_blocks.specs.Given.TablesDeclared.node.Node.{Node}
use Rattle.run_blocks.specs.Given.TablesDeclared.table.Table.{Table}
use Rattle.run_blocks.specs.Given.ResizeCopier.{copier_plan}
use Rattle.run_blocks.specs.Given.ResizeNewTable.{new_table_plan}
use Rattle.run_blocks.specs.Given.ResizeSum.{sum_plan}
use Rattle.run_blocks.specs.Given.ResizeDeclared.copier.Copier.{Copier}
use Rattle.run_blocks.specs.Given.ResizeDeclared.new_table.NewTable.{NewTable}
use Rattle.run_blocks.specs.Given.ResizeDeclared.yielding.Yielding.{Yielding}
use Rattle.run_blocks.specs.Given.ResizeDeclared.yielding.Yielding.TheVariants as outcome
use Rattle.run_blocks.specs.Given.ResizeDeclared.sum.Sum.{Sum}
use Rattle.run_executor.specs.Given.ReservesReserve as reserves
use Rattle.run_executor.specs.Given.ReservesDeclared.reserve.Reserve.{Reserve}
use Rattle.run_executor.specs.Given.ReservesDeclared.reserve.Reserving.{Reserving}
use Rattle.run_executor.specs.Given.ReservesDeclared.reserve.Reserving.TheVariants as at
use Rattle.run_executor.specs.Given.RawMachine.{reserved as of_room}
use Rattle.run_executor.specs.Given.RunsDeclared.call.Call.{Call}
use Rattle.run_executor.specs.Given.SchedulesCounts.{AddsUp, Counts}
use Rattle.run_executor.specs.Given.SchedulesGrowing.{is_too_many, MayGrow}
use Rattle.run_executor.specs.Given.SchedulesLists.{OneOf}
use Rattle.run_executor.specs.Given.SchedulesMoment.{UnderWay as CallThere, Moment}
use Rattle.run_executor.specs.Given.TellerTells.{StepsObserved}
use Rattle.run_executor.specs.Given.EffectsDeclared.changed.Changed.{Changed}
use Rattle.run_executor.specs.Given.EffectsDeclared.changed.Changed.TheVariants as changed
use Rattle.run_executor.proofs.Given.RuleKeys.Always.{Always, AlwaysOf, always_if, always_plan_as, always_steps}
use Rattle.run_executor.specs.Given.CallersTogether.{ForRoom}
use Rattle.run_executor.proofs.Given.OthersOutcomes.{told_in}
use Rattle.run_blocks.specs.Owes.Making.{making_in_reserving}
use Rattle.run_blocks.proofs.Owes.Walks.{reserve_makes}
use Rattle.run_finds.specs.Reserving.{FitsAt, ReservesAt, SumTells, MakesFirst, RoomsPreserveCount, RoomsMayAsk}
use Rattle.run_finds.proofs.Grows.Asked.{Asks, made_of, may_ask}
use Rattle.run_executor.proofs.Given.ScenesTold.{as_step}
use Rattle.run_executor.proofs.Given.General.{less_false as not_less, same_some as one_of}

-- what is so at one of some moments is so at one of more
module _ {X : Type 0} where
  one_as : (P Q : X → Type 0) → ((x : X) → P x → Q x) → (xs : List X) → OneOf P xs → OneOf Q xs
  one_as P Q each [] one = one
  one_as P Q each (x ∷ xs) (inl here) = inl (each x here)
  one_as P Q each (x ∷ xs) (inr there) = inr (one_as P Q each xs there)

module _ {K V : Type 0} (of : ℕ) (moments : List (Moment K V)) (x : Moment K V) where
  pub adds_after : (s sum : ℕ) → AddsUp of moments s sum → AddsUp of (x ∷ moments) s sum
  adds_after zero sum adds = adds
  adds_after (suc s) sum adds =
      inr (one_as (λ m. (rest : ℕ) × AddsUp of moments s rest × (sum ≡ rest + m.shards of s)) (λ m. (rest : ℕ) × AddsUp of (x ∷ moments) s rest × (sum ≡ rest + m.shards of s))
      (λ m it. (it.0, adds_after s it.0 it.1, it.2)) moments adds)

  fits_after : (p : Reserve) → FitsAt of moments p → FitsAt of (x ∷ moments) p
  fits_after p (n, counts, few) = (n, (counts.0, adds_after (suc p.setting.mask) counts.0 counts.1, counts.2), few)

-- where the places that it needs can be had, they are not too many
few_enough : (additional count : ℕ) → nat_lt (2 ^ 48) (reserves.needed additional count) ≡ false → is_too_many (count + additional) ≡ false
few_enough additional count e = by (nat_le (places_for (count + additional)) (2 ^ 48)) refl
  where
    by : (b : Bool) → nat_le (places_for (count + additional)) (2 ^ 48) ≡ b → is_too_many (count + additional) ≡ false
    by true is = not_less (2 ^ 48) (places_for (count + additional)) (leb-true (places_for (count + additional)) (2 ^ 48) is)
    by false is = absurd (
        let long : reserves.needed additional count ≡ 2 ^ 64 - 1 =
        ap (λ (b : Bool). reserves.or_too_long (if b then Ok (max (next_power (places_for (count + additional))) 8) else Err Capacity)) is in
        let few = ltb-false (2 ^ 48) (reserves.needed additional count) e in omega (arith, long, few)
        )

-- by what a step comes to
module _ {K V : Type 0} (of : ℕ) (moments : List (Moment K V)) (p : Reserve) where
  abbrev Fits : Type 0
  Fits = FitsAt of moments p

  abbrev So : Reserve × Yielding (Node K V) Unit → Type 0
  So e = ReservesAt of moments e.0 e.0.stands

  enough_so : (table : Table) (count : ℕ) → Counts (suc p.setting.mask) of moments count → So (reserves.enough p table (reserves.needed p.additional count))
  enough_so table count counts = by (nat_lt (2 ^ 48) (reserves.needed p.additional count)) refl (nat_lt table.len (reserves.needed p.additional count))
    where
      by : (a : Bool) → nat_lt (2 ^ 48) (reserves.needed p.additional count) ≡ a → (b : Bool)
          → So (if a then reserves.refusing p Capacity else (if b then (reserves.standing p (at.Follows table (reserves.needed p.additional count)), outcome.Goes) else (reserves.standing p at.Over, outcome.Done tt)))
      by true e b = tt
      by false e true = (count, counts, few_enough p.additional count e)
      by false e false = tt

  made_so : (e : NewTable × Advance Table) → So (reserves.made p e)
  made_so (making, progress.Goes) = tt
  made_so (making, progress.Waits) = tt
  made_so (making, progress.Done table) = tt
  made_so (making, progress.Refused fault) = tt

  grown_so : Fits → (table : Table) (e : NewTable × Advance Table) → So (reserves.grown p table e)
  grown_so fits table (making, progress.Goes) = fits
  grown_so fits table (making, progress.Waits) = fits
  grown_so fits table (making, progress.Done next) = fits
  grown_so fits table (making, progress.Refused fault) = tt

  copied_so : Fits → (e : Copier × Yielding (Node K V) Table) → So (reserves.copied p e)
  copied_so fits (copier, outcome.Goes) = fits
  copied_so fits (copier, outcome.Waits) = fits
  copied_so fits (copier, outcome.Gave value) = fits
  copied_so fits (copier, outcome.Done root) = tt
  copied_so fits (copier, outcome.Refused fault) = tt

  module _ (stays : ReservesAt of moments p p.stands) where
    root_so : (out : Out (Node K V)) → Always So (reserves.root_read p out)
    root_so (Found root) = always_if So (root == 0) _ _ tt (λ value. tt)
    root_so _ = stays

    next_so : Fits → (table : Table) (need : ℕ) (out : Out (Node K V)) → Always So (reserves.next_read p table need out)
    next_so fits table need (Found link) = always_if So (link == 0) _ _ fits (λ value. fits)
    next_so fits table need _ = stays

    module _ (hash : K → ℕ) (m m2 : Mem (Node K V)) (told : Changed) (end : Reserve × Yielding (Node K V) Unit) (sums : SumTells of moments p m m2 told) where
      abbrev StepAt : Reserving → Type 0
      StepAt q = StepsObserved K V (Reserve × Yielding (Node K V) Unit) m changed.Nothing (reserves.plan_at hash p q) m2 told end

      always : (q : Reserving) → AlwaysOf So (reserves.plan_at hash p q) → StepAt q → So end
      always q all s = always_steps So m m2 (reserves.plan_at hash p q) end all (as_step m changed.Nothing (reserves.plan_at hash p q) m2 told end s)

      summed_so : (table : Table) (sum : Sum) → p.stands ≡ at.Sums table sum → (e : Sum × Advance ℕ) → StepsObserved K V (Sum × Advance ℕ) m changed.Nothing (sum_plan sum) m2 told e → So (reserves.summed p table e)
      summed_so table sum is (sum2, progress.Goes) s = tt
      summed_so table sum is (sum2, progress.Waits) s = tt
      summed_so table sum is (sum2, progress.Done count) s = enough_so table count (sums table sum sum2 count is s)
      summed_so table sum is (sum2, progress.Refused fault) s = tt

      by_point : (q : Reserving) → p.stands ≡ q → ReservesAt of moments p q → StepAt q → So end
      by_point at.Reads is so s = always at.Reads (λ out. root_so out) s
      by_point (at.Makes making) is so s = always (at.Makes making) (always_plan_as So (reserves.made p) made_so (new_table_plan making)) s
      by_point (at.Sums table sum) is so s =
          let it = told_in m m2 told (reserves.summed p table) (sum_plan sum) end s in
          subst So (sym it.1) (summed_so table sum is it.0 it.2)
      by_point (at.Follows table need) is so s = always (at.Follows table need) (λ out. next_so so table need out) s
      by_point (at.Grows table making) is so s = always (at.Grows table making) (always_plan_as So (reserves.grown p table) (grown_so so table) (new_table_plan making)) s
      by_point (at.Copies copier) is so s = always (at.Copies copier) (always_plan_as So (reserves.copied p) (copied_so so) (copier_plan hash copier)) s
      by_point at.Over is so s = always at.Over stays s
      by_point (at.Refused fault) is so s = always (at.Refused fault) stays s

pub rooms_keep_count : (K V : Type 0) → RoomsPreserveCount K V
rooms_keep_count K V hash of moments p m m2 told end so sums s = by_point of moments p so hash m m2 told end sums p.stands refl so s

-- where it has a table to make that is not the first
fits_at : {K V : Type 0} (of : ℕ) (moments : List (Moment K V)) (p : Reserve) (q : Reserving) (n : NewTable) → making_in_reserving q ≡ Some n → (MakesFirst q → ⊥) → ReservesAt of moments p q → FitsAt of moments p
fits_at of moments p (at.Makes making) n is first so = absurd (first tt)
fits_at of moments p (at.Grows table making) n is first so = so
fits_at of moments p (at.Copies copier) n is first so = so
fits_at of moments p _ n is first so = absurd (cc is)

pub rooms_may_ask : (K V : Type 0) (same : K → K → Bool) (hash : ℕ → K → ℕ) → RoomsMayAsk K V same hash
rooms_may_ask K V same hash name m known s old new at_old whole map i r here said leads terms moments shards c c_is its_call so first =
    may_ask same hash name m known s old new at_old whole map i (ForRoom r) here said leads terms moments c c_is grows
  where
    its_map : c.map ≡ map
    its_map = let there = whole.all.shown.calls map i (ForRoom r) here in ap (λ (x : CallThere K V). x.map) (one_of c there.0 (sym c_is ∙ there.1)) ∙ there.2

    grows : Asks new.changed → MayGrow terms c.call c (m ∷ moments)
    grows asks =
        let it = told_in old.memory new.memory new.changed of_room (reserves.reserve_plan (leads map (ForRoom r) here).0.hash r.reserve) ((leads map (ForRoom r) here).1, said) (leads map (ForRoom r) here).3 in
        let n = made_of (making_in_reserving r.reserve.stands) old.memory new.memory new.changed (reserves.reserve_plan (leads map (ForRoom r) here).0.hash r.reserve) it.0 it.2 (reserve_makes K V (leads map (ForRoom r) here).0.hash r.reserve) asks in
        let fits = fits_after map moments m r.reserve (fits_at map moments r.reserve r.reserve.stands n.0 n.1 first so) in
        subst (λ (z : Call K V). MayGrow terms z c (m ∷ moments)) (sym its_call)
        (fits.0, subst (λ (x : ℕ). Counts x c.map (m ∷ moments) fits.0) shards (subst (λ (x : ℕ). Counts (suc r.reserve.setting.mask) x (m ∷ moments) fits.0) (sym its_map) fits.1), fits.2)

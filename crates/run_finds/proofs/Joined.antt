-- The parts make up all that an effect of a call must find.
use Rattle.std.specs.Prelude.{◌≡◌, ℕ, true, false, List, [], ◌∷◌, Option, Some}
use Rattle.std.specs.List.{list_all}
use Rattle.std.proofs.Common.{refl, sym, subst, ◌∙◌, inl}
use Rattle.run_executor.specs.Given.RunsDeclared.effect.Effect.{Effect}
use Rattle.run_executor.specs.Given.RunsDeclared.effect.Effect.TheVariants as effect
use Rattle.run_executor.specs.Given.RunsDeclared.effect.Growth.TheVariants.{ABlock, ABucket}
use Rattle.run_executor.specs.Given.RunsDeclared.effect.Thing.TheVariants.{APair, ATable}
use Rattle.run_executor.specs.Given.SchedulesAfter.{moments_from}
use Rattle.run_executor.specs.Given.SchedulesEffects.{call_by, with_effect, AtEachEffect}
use Rattle.run_executor.specs.Given.SchedulesEntry.{ByCall, acting, caller_of}
use Rattle.run_executor.specs.Given.RunsDeclared.call.Call.{Call}
use Rattle.run_executor.specs.Given.RunsDeclared.call.Call.TheVariants as call
use Rattle.run_executor.specs.Given.SchedulesGrowing.{only_looks, has_value_for, MayGrow}
use Rattle.run_executor.specs.Given.SchedulesHanding.{is_call_effect, gives_all, moments_of}
use Rattle.run_executor.specs.Given.SchedulesLives.{CallFinds, Finds}
use Rattle.run_executor.specs.Given.SchedulesMoment.{UnderWay as CallThere, Moment}
use Rattle.run_executor.specs.Given.SchedulesTerms.{Terms}
use Rattle.run_executor.specs.Given.SchedulesViews.{call_of}
use Rattle.run_executor.specs.Given.FollowsFinds.{FindsMap}
use Rattle.run_executor.proofs.Given.FollowsCalls.{changed_same}
use Rattle.run_blocks.specs.Owes.Events.{FindsMade}
use Rattle.run_blocks.proofs.Owes.Events.{several_find}
use Rattle.run_blocks.proofs.Owes.Fields.{its_effect}
use Rattle.run_blocks.specs.Given.SettlesOwing.{FindsObligation}
use Rattle.run_blocks.specs.Given.SettlesShards.{is_counting}
use Rattle.run_finds.proofs.Life.{each_so}
use Rattle.run_finds.proofs.Over.{acts}
use Rattle.run_finds.specs.Joined.{FindParts, PartsAreAll, SeveralFindAll, EventsFindAll}
use Rattle.run_finds.specs.Parts.{FindsPlace, FindsAhead, FindsRest, FindsAll, FindObligations, FindRest, FindAll}
use Rattle.run_executor.proofs.Given.General.{both_true as and_both}

module _ {K V : Type 0} (terms : Terms) (moments : List (Moment K V)) where
  -- by the kind of effect
  joins : (m : Moment K V) (f : Effect) (c : CallThere K V) → is_call_effect f ≡ true → FindsMade terms moments m f c → FindsMap c.map m f → FindsPlace c.map m f c → FindsAhead c.map m f
      → (is_counting f ≡ true → CallFinds terms moments m f c) → FindsObligation m f c → FindsRest terms moments m f c → CallFinds terms moments m f c
  joins m (effect.Asked ABlock) c kind made on_map place ahead shard owed rest = (made, rest)
  joins m (effect.Asked ABucket) c kind made on_map place ahead shard owed rest = absurd (cc kind)
  joins m effect.PairMade c kind made on_map place ahead shard owed rest = made
  joins m effect.PairGivenUp c kind made on_map place ahead shard owed rest = made
  joins m (effect.TableMade t) c kind made on_map place ahead shard owed rest = made
  joins m (effect.TableGivenUp t) c kind made on_map place ahead shard owed rest = made
  joins m (effect.Linked t shape) c kind made on_map place ahead shard owed rest = (made, on_map.1, rest)
  joins m (effect.Promoted t) c kind made on_map place ahead shard owed rest = (on_map.0, on_map.1.0, on_map.1.1, ahead)
  joins m (effect.Copied n s) c kind made on_map place ahead shard owed rest = place
  joins m (effect.Stored n s) c kind made on_map place ahead shard owed rest = (on_map.0, made, on_map.1.0, on_map.1.1, place)
  joins m (effect.Replaced n) c kind made on_map place ahead shard owed rest = on_map
  joins m (effect.Removed n) c kind made on_map place ahead shard owed rest = on_map
  joins m (effect.Counted s) c kind made on_map place ahead shard owed rest = shard refl
  joins m (effect.Deferred n t) c kind made on_map place ahead shard owed rest = (owed, rest)
  joins m (effect.Retired (APair n)) c kind made on_map place ahead shard owed rest = (owed, rest)
  joins m (effect.Retired (ATable t)) c kind made on_map place ahead shard owed rest = owed
  joins m (effect.Reclaimed x) c kind made on_map place ahead shard owed rest = absurd (cc kind)
  joins m (effect.Ended n) c kind made on_map place ahead shard owed rest = absurd (cc kind)
  joins m (effect.Taken t) c kind made on_map place ahead shard owed rest = absurd (cc kind)

  module _ (own : List ℕ) (map : ℕ) where
    -- of the call that is found
    of_call : (P : CallThere K V → Type 0) (m : Moment K V) (c : CallThere K V) → call_of own m ≡ Some c → ByCall P (acting (Some own) m) → P c
    of_call P m c c_is by_call = subst (ByCall P) c_is by_call

    one_joined : (m : Moment K V) (f : Effect) (c : CallThere K V) → call_of own m ≡ Some c → c.map ≡ map → is_call_effect f ≡ true
        → ByCall (λ (d : CallThere K V). only_looks d.call ≡ false) (acting (Some own) m) → ByCall (FindsMade terms moments m f) (acting (Some own) m) → FindsMap map m f
        → ByCall (FindsPlace map m f) (acting (Some own) m) → FindsAhead map m f → (is_counting f ≡ true → ByCall (CallFinds terms moments m f) (acting (Some own) m))
        → ByCall (FindsObligation m f) (acting (Some own) m) → ByCall (FindsRest terms moments m f) (acting (Some own) m) → FindsAll terms moments own m f
    one_joined m f c c_is on kind work made on_map place ahead shard owed rest =
        subst (ByCall (λ (d : CallThere K V). (only_looks d.call ≡ false) × CallFinds terms moments m f d)) (sym c_is) (
          of_call (λ (d : CallThere K V). only_looks d.call ≡ false) m c c_is work,
          joins m f c kind (of_call (FindsMade terms moments m f) m c c_is made) (subst (λ (x : ℕ). FindsMap x m f) (sym on) on_map)
              (subst (λ (x : ℕ). FindsPlace x m f c) (sym on) (of_call (FindsPlace map m f) m c c_is place)) (subst (λ (x : ℕ). FindsAhead x m f) (sym on) ahead)
              (λ counts. of_call (CallFinds terms moments m f) m c c_is (shard counts)) (of_call (FindsObligation m f) m c c_is owed) (of_call (FindsRest terms moments m f) m c c_is rest),
        )

    all_joined : (effects : List Effect) (m : Moment K V) (c : CallThere K V) → call_of own m ≡ Some c → c.map ≡ map → FindParts terms moments own map effects m → FindObligations own map effects m
        → FindRest terms moments own map effects m → FindAll terms moments own map effects m
    all_joined [] m c c_is on parts owed rest = tt
    all_joined (f ∷ fs) m c c_is on parts owed rest = (
      one_joined m f c c_is on (and_both (is_call_effect f) (list_all is_call_effect fs) parts.kinds).0 parts.at_work.0 parts.made.0 parts.on_map.0 parts.places.0 parts.ahead.0 parts.shards.0 owed.0 rest.0,
      all_joined fs (with_effect (Some own) (Some map) f m) (call_by m f c) (its_effect own map f m c c_is) ((changed_same m f c).1 ∙ on)
          (record {
            kinds = (and_both (is_call_effect f) (list_all is_call_effect fs) parts.kinds).1;
            at_work = parts.at_work.1;
            made = parts.made.1;
            on_map = parts.on_map.1;
            places = parts.places.1;
            ahead = parts.ahead.1;
            shards = parts.shards.1;
          }) owed.1 rest.1,
    )

pub parts_are_all : (K V : Type 0) → PartsAreAll K V
parts_are_all K V terms moments own map effects m c c_is on parts owed rest = all_joined terms moments own map effects m c c_is on parts owed rest

pub several_find_all : (K V : Type 0) → SeveralFindAll K V
several_find_all K V terms moments own map done effects m before after = several_find (FindsAll terms moments own) own map done effects m before after

pub events_find_all : (K V : Type 0) → EventsFindAll K V
events_find_all K V terms log e b own c caller c_is all =
    subst (λ (map : Option ℕ). AllBy (caller_of e.event) map (acting (caller_of e.event) b)) (sym (acts e.event b own c caller c_is))
    (subst (λ (who : Option (List ℕ)). AllBy who (Some c.map) (acting who b)) (sym caller)
    (subst (λ (o : Option (CallThere K V)). AllBy (Some own) (Some c.map) o) (sym c_is)
    (each_so (FindsAll terms (moments_from c.begun log) own) (Finds terms (Some own) (Some c.map) (gives_all e.event) (moments_from c.begun log)) (λ m f found. found) (Some own) (Some c.map) e.effects b all)))
  where
    AllBy : Option (List ℕ) → Option ℕ → Option (CallThere K V) → Type 0
    AllBy who map o = AtEachEffect (Finds terms who map (gives_all e.event) (moments_of terms log o)) who map e.effects b

module _ {K V : Type 0} (terms : Terms) (moments : List (Moment K V)) where
  -- a call that has a value for a pair may ask for the block
  pub valued_grows : (its : Call K V) (c : CallThere K V) → has_value_for its c ≡ true → MayGrow terms its c moments
  valued_grows (call.Reserve more) c e = absurd (cc e)
  valued_grows _ c e = inl e

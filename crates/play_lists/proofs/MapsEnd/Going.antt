-- A map that ends goes on to end where all of it is as it was, and the blocks that it has still to reclaim are noted as they were.
use Rattle.std.specs.Prelude.{◌≡◌, ◌<◌, ◌++◌, ℕ, Bool, true, false, List, [], ◌∷◌, Some, None}
use Rattle.std.specs.List.{AllByRecursion}
use Rattle.std.proofs.Common.{refl, ap, sym, subst, ◌∙◌}
use Rattle.seize.specs.World.{times}
use Rattle.many_acts.proofs.Given.FinishesEnds.CountedBlocks.{some_here, some_last}
use Rattle.many_acts.specs.Given.FinishesEndings.{Finishing}
use Rattle.run_schedules.specs.declared.effect.Effect.{Effect}
use Rattle.run_schedules.specs.declared.effect.TableId.{TableId}
use Rattle.run_schedules.specs.Schedules.Effects.{AtEachEffect, with_effects}
use Rattle.run_schedules.specs.Schedules.Moment.{Moment, TableThere}
use Rattle.run_schedules.specs.Schedules.Things.{same_table}
use Rattle.run_schedules.specs.Schedules.Views.{is_in_map}
use Rattle.run_kept.specs.Given.EffectsEffects.{known_after, taken_by}
use Rattle.run_kept.specs.Given.EffectsKnown.{Known}
use Rattle.run_kept.specs.Given.EffectsDeclared.acting.Acting.{Acting}
use Rattle.run_kept.specs.Given.EffectsDeclared.acting.Acting.TheVariants as acts
use Rattle.run_kept.specs.Given.EffectsDeclared.role.Role.{Role}
use Rattle.run_kept.specs.Given.EffectsDeclared.role.Role.TheVariants as role
use Rattle.run_finds.specs.Given.SpotsDeferred.{WaitOutside}
use Rattle.run_finds.proofs.Given.SpotsDeferred.{each_waits_outside}
use Rattle.run_finds.proofs.Given.SpotsUnreclaimed.{table_is}
use Rattle.run_finds.proofs.Given.FollowsAlike.{put_here}
use Rattle.run_kept.specs.Given.EffectsDeclared.changed.Changed.TheVariants as changed
use Rattle.run_kept.specs.Ends.{ended_as}
use Rattle.run_schedules.specs.Deeds.History.{EndFinds, left_tables}
use Rattle.play_lists.specs.MapsEnd.Ends.{AlikeOf, AreStored, EndsWell, IsOther, IsOut}
use Rattle.play_lists.specs.MapsEnd.Going.{ContinuesToEnd}
use Rattle.play_lists.proofs.MapsEnd.Alike.{ended, ends_alike, ends_next}
use Rattle.play_lists.proofs.MapsEnd.Noted.{Takes, pair_ends, pair_noted, table_ends, table_noted}
use Rattle.play_lists.proofs.MapsEnd.Places.{stored_alike}
use Rattle.many_acts.proofs.Given.OthersOutside.{not_in}

-- these blocks are noted as they were
abbrev pub NotedAlike : List ℕ → Known → Known → Type 0
NotedAlike blocks known known2 = (b : ℕ) → 0 < times b blocks → known2.roles b ≡ known.roles b

pub ended_alike : (map : ℕ) (blocks : List ℕ) (known known2 : Known) → NotedAlike blocks known known2 → ended_as map known2 blocks ≡ ended_as map known blocks
ended_alike map [] known known2 same = refl
ended_alike map (b ∷ blocks) known known2 same =
    ap (λ (r : Role). taken_by (acts.Ending map) r ++ ended_as map known2 blocks) (same b (some_here b blocks))
    ∙ ap (λ (l : List Effect). taken_by (acts.Ending map) (known.roles b) ++ l) (ended_alike map blocks known known2 (λ x some. same x (some_last x (b ∷ []) blocks some)))

module _ {K V : Type 0} (map : ℕ) (f : Finishing K V) (known : Known) (m : Moment K V) (so : ContinuesToEnd map f known m) where
  pub going_alike : (known2 : Known) (v : Moment K V) → AlikeOf map m v → NotedAlike so.rest known known2 → ContinuesToEnd map f known2 v
  going_alike known2 v alike same = record {
    rest = so.rest;
    back_is = so.back_is;
    there = so.there;
    there_is = alike.there ∙ so.there_is;
    stored = stored_alike map m v alike so.stored;
    well = subst (λ (l : List Effect). EndsWell map l v) (sym (ended_alike map so.rest known known2 same)) (ends_alike map (ended_as map known so.rest) m v alike so.stored so.well);
  }

  -- Whoever takes a block away that is none of these spares the map.
  module _ (blocks_once : (b d n : ℕ) → known.roles b ≡ role.Pair n → known.roles d ≡ role.Pair n → b ≡ d)
      (tables_once : (b d len len2 : ℕ) (t : TableId) → known.roles b ≡ role.Table t len → known.roles d ≡ role.Table t len2 → b ≡ d) (outside : WaitOutside m)
      (b : ℕ) (apart : 0 < times b so.rest → ⊥) where
    -- a pair that it held is not in the map
    pub pair_out : (k : ℕ) → known.roles b ≡ role.Pair k → IsOut map m k
    pair_out k is = by (is_in_map map (m.place k)) refl
      where
        by : (q : Bool) → is_in_map map (m.place k) ≡ q → is_in_map map (m.place k) ≡ false
        by false e = e
        by true e =
            absurd (let it = pair_noted map known k so.rest (pair_ends map (ended_as map known so.rest) m so.stored so.well k e) in
            apart (subst (λ (x : ℕ). 0 < times x so.rest) (blocks_once it.0 b k it.2 is) it.1))

    -- nor is a table that it was one of those from its root on
    pub table_other : (t : TableId) (len : ℕ) → known.roles b ≡ role.Table t len → IsOther map m t
    table_other t len is = record {
      apart = each (left_tables map m) (table_ends map (ended_as map known so.rest) m so.well);
      behind_it = λ k among. not_in map (m.place k) (each_waits_outside K V m outside t k among);
    }
      where
        not_it : (u : TableThere) → Takes map u.table (ended_as map known so.rest) → same_table u.table t ≡ false
        not_it u takes = by (same_table u.table t) refl
          where
            by : (q : Bool) → same_table u.table t ≡ q → same_table u.table t ≡ false
            by false e = e
            by true e =
                absurd (let it = table_noted map known u.table so.rest takes in
                let its : known.roles it.0 ≡ role.Table t it.2.0 = it.2.1 ∙ ap (λ (x : TableId). role.Table x it.2.0) (table_is u.table t e) in
                apart (subst (λ (x : ℕ). 0 < times x so.rest) (tables_once it.0 b it.2.0 len t its is) it.1))

        each : (us : List TableThere) → AllByRecursion (λ u. Takes map u.table (ended_as map known so.rest)) us → AllByRecursion (λ u. same_table u.table t ≡ false) us
        each [] all = tt
        each (u ∷ us) all = (not_it u all.0, each us all.1)

  -- One that is noted as it was is none that was taken away, if that was noted at all.
  pub taken_apart : (its : Acting) (b : ℕ) → NotedAlike so.rest known (known_after its (changed.Took b) known) → (known.roles b ≡ role.Free → ⊥) → 0 < times b so.rest → ⊥
  taken_apart its b same noted some = noted (sym (same b some) ∙ put_here b role.Free known.roles b refl)

-- by what has ended
module _ {K V : Type 0} (map : ℕ) where
  pub ends_on : (fs gs : List Effect) (m : Moment K V) → AreStored map m → EndsWell map (fs ++ gs) m
      → AtEachEffect (EndFinds map) None (Some map) fs m × AreStored map (with_effects None (Some map) fs m) × EndsWell map gs (with_effects None (Some map) fs m)
  ends_on [] gs m stored well = (tt, stored, well)
  ends_on (f ∷ fs) gs m stored well =
      let next = ends_next map f (fs ++ gs) m stored well in let rest = ends_on fs gs (ended map f m) next.0 next.1 in ((well.finds.0, rest.0), rest.1, rest.2)

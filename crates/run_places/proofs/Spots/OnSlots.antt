-- A step of a row on a slot leaves pairs where they lie, and what waits behind tables outside of maps; and it takes away what is reclaimed.
use Rattle.std.specs.Prelude.{◌≡◌, ℕ, nat_lt, ◌&&◌, Bool, true, false, List, [], ◌∷◌, None, if◌then◌else◌}
use Rattle.std.specs.List.{list_any}
use Rattle.std.proofs.Common.{refl, ap, sym, subst, ◌∙◌}
use Rattle.run_shows.specs.Given.SeizeWordsDeclared.at.At.TheVariants.{Root, Used, Slot, Entry, Word}
use Rattle.run_shows.specs.Given.RunsDeclared.effect.Effect.{Effect}
use Rattle.run_shows.specs.Given.RunsDeclared.effect.Effect.TheVariants.{Asked}
use Rattle.run_shows.specs.Given.RunsDeclared.effect.Growth.TheVariants.{ABucket}
use Rattle.run_shows.specs.Given.SchedulesEffects.{with_effect, with_effects, AtEachEffect}
use Rattle.run_shows.specs.Given.SchedulesMoment.{Place, Handed, IsReclaimed, Moment}
use Rattle.run_shows.specs.Given.SchedulesThings.{same_table}
use Rattle.run_shows.specs.Given.SchedulesViews.{is_there}
use Rattle.run_shows.specs.Given.EffectsDeclared.changed.Changed.{Changed}
use Rattle.run_shows.specs.Given.EffectsDeclared.changed.Changed.TheVariants as changed
use Rattle.run_shows.specs.Given.EffectsEffects.{names_same, taken_by, effects_of, known_after}
use Rattle.run_shows.specs.Given.EffectsKnown.{Known, with_role}
use Rattle.run_shows.specs.Given.EffectsDeclared.acting.Acting.TheVariants.{Row}
use Rattle.run_shows.specs.Given.EffectsDeclared.role.Role.{Role}
use Rattle.run_shows.specs.Given.EffectsDeclared.role.Role.TheVariants as role
use Rattle.run_shows.specs.Follows.Shows.{Refines}
use Rattle.run_shows.proofs.Follows.Onward.{IsOfMap}
use Rattle.run_shows.proofs.Follows.Told.{roomed_as_many}
use Rattle.run_shows.proofs.Others.RowPlans.{TellsRow, row_tells}
use Rattle.run_places.specs.Spots.Deferred.{FindsNumbers}
use Rattle.run_places.specs.Spots.OnSlots.{WaitUnreclaimed, RowsLeavePlaces, RowsPreserveBlocks}
use Rattle.run_places.specs.Spots.Unreclaimed.{is_unreclaimed, RefinesUnreclaimed}
use Rattle.run_places.proofs.Spots.Calm.{put_back}
use Rattle.run_places.proofs.Spots.Deferred.{effects_leave_outside}
use Rattle.run_places.proofs.Spots.Effects.{AllAside}
use Rattle.run_places.proofs.Spots.Gone.{other_gone, pair_gone, table_gone}
use Rattle.run_places.proofs.Spots.Rows.{roomed_aside, same_pairs}
use Rattle.run_places.proofs.Spots.Stays.{WerePairs, places_stay}
use Rattle.run_places.proofs.Spots.Unreclaimed.{unreclaimed_same}
use Rattle.run_shows.specs.Scenes.Scene.{Scene}

module _ {K V : Type 0} (m : Moment K V) (known : Known) where
  -- effects that neither move a pair nor find a number
  abbrev pub IsBeside : List Effect → Type 0
  IsBeside effects = AllAside effects × AtEachEffect FindsNumbers None None effects m

  taken_beside : (r : Role) → IsBeside (taken_by Row r)
  taken_beside role.Free = (tt, tt)
  taken_beside (role.OwnPair i) = ((refl, tt), (tt, tt))
  taken_beside (role.OwnTable turn shape) = ((refl, tt), (tt, tt))
  taken_beside (role.Pair n) = ((refl, tt), (tt, tt))
  taken_beside (role.Table t len) = ((refl, tt), (tt, tt))
  taken_beside (role.Counter of) = (tt, tt)

  nothing_beside : (q : Bool) → IsBeside (if q then [] else [])
  nothing_beside true = (tt, tt)
  nothing_beside false = (tt, tt)

  roomed_numbers : (q : Bool) → AtEachEffect FindsNumbers None None (if q then [] else Asked ABucket ∷ []) m
  roomed_numbers true = tt
  roomed_numbers false = (tt, tt)

  pub row_beside : (told : Changed) → TellsRow told → IsBeside (effects_of Row known told) × WerePairs known (known_after Row told known)
  row_beside changed.Nothing is = ((tt, tt), same_pairs known known refl)
  row_beside (changed.Wrote (Slot t field) old new) is = ((tt, tt), same_pairs known known refl)
  row_beside (changed.Wrote (Entry b field) old new) is = (nothing_beside (names_same old new), same_pairs known known refl)
  row_beside (changed.Wrote (Root r) old new) is = absurd is
  row_beside (changed.Wrote (Used r) old new) is = absurd is
  row_beside (changed.Wrote (Word b field) old new) is = absurd is
  row_beside (changed.Made kind b) is = absurd is
  row_beside (changed.Unmade kind) is = absurd is
  row_beside (changed.Took b) is = (taken_beside (known.roles b), λ x k e. sym (put_back known.roles b role.Free (λ of. of) x (subst IsOfMap (sym e) tt)) ∙ e)
  row_beside (changed.Roomed bucket had) is = (
    (roomed_aside (had && nat_lt bucket known.buckets), roomed_numbers (had && nat_lt bucket known.buckets)),
    same_pairs known (known_after Row (changed.Roomed bucket had) known) (roomed_as_many Row known bucket had).0,
  )

module _ (K V : Type 0) (same : K → K → Bool) (hash : ℕ → K → ℕ) where
  pub rows_leave_places : RowsLeavePlaces K V same hash
  rows_leave_places m known s old new i told leads row here lying outside =
      let to = leads row here in
      let beside = row_beside m known new.changed (row_tells old.memory new.memory new.changed (to.0, told) row to.1) in (
        places_stay None None (effects_of Row known new.changed) m known (known_after Row new.changed known) s.maps to.2.2 beside.0.0 beside.1 to.2.3 lying,
        effects_leave_outside K V None None (effects_of Row known new.changed) m beside.0.1 outside,
      )

  -- which blocks are unreclaimed
  module _ (name : ℕ → List ℕ) (m : Moment K V) (known : Known) (s : Scene K V) (shown : Refines same name m known s) (h : RefinesUnreclaimed m known) where
    abbrev After : Changed → Type 0
    After told = AtEachEffect WaitUnreclaimed None None (effects_of Row known told) m → RefinesUnreclaimed (with_effects None None (effects_of Row known told) m) (known_after Row told known)

    as_before : (v : Moment K V) (known2 : Known) → v.place ≡ m.place → v.tables ≡ m.tables → known2.roles ≡ known.roles → RefinesUnreclaimed v known2
    as_before v known2 place tables roles = unreclaimed_same m v known known2
        (record { place = λ k. ap (λ (f : ℕ → Place). is_unreclaimed (f k)) place; tables = λ t. ap (list_any (λ u. same_table u.table t && is_there u.stage)) tables })
        (λ b of. ap (λ (f : ℕ → Role). f b) roles) (λ b of. ap (λ (f : ℕ → Role). f b) roles) h

    nothing_done : (q : Bool) → RefinesUnreclaimed (with_effects None None (if q then [] else []) m) known
    nothing_done true = h
    nothing_done false = h

    roomed_done : (q : Bool) (known2 : Known) → known2.roles ≡ known.roles → RefinesUnreclaimed (with_effects None None (if q then [] else Asked ABucket ∷ []) m) known2
    roomed_done true known2 roles = as_before m known2 refl refl roles
    roomed_done false known2 roles = as_before (with_effect None None (Asked ABucket) m) known2 refl refl roles

    taken_done : (b : ℕ) (r : Role) → known.roles b ≡ r → AtEachEffect WaitUnreclaimed None None (taken_by Row r) m → RefinesUnreclaimed (with_effects None None (taken_by Row r) m) (with_role b role.Free known)
    taken_done b role.Free e may = other_gone m m known b h (λ of. subst IsOfMap e of) (record { place = λ k. refl; tables = λ t. refl })
    taken_done b (role.OwnPair i) e may = other_gone m (with_effects None None (taken_by Row (role.OwnPair i)) m) known b h (λ of. subst IsOfMap e of) (record { place = λ k. refl; tables = λ t. refl })
    taken_done b (role.OwnTable turn shape) e may =
        other_gone m (with_effects None None (taken_by Row (role.OwnTable turn shape)) m) known b h (λ of. subst IsOfMap e of) (record { place = λ k. refl; tables = λ t. refl })
    taken_done b (role.Pair k) e may = pair_gone m (with_effects None None (taken_by Row (role.Pair k)) m) known b h k e (λ d is. shown.blocks.once d b k is e) refl refl
    taken_done b (role.Table t len) e may = table_gone m (with_effects None None (taken_by Row (role.Table t len)) m) known b len t e h Handed refl IsReclaimed refl refl refl may.0
    taken_done b (role.Counter of) e may = other_gone m m known b h (λ its. subst IsOfMap e its) (record { place = λ k. refl; tables = λ t. refl })

    pub blocks_done : (told : Changed) → TellsRow told → After told
    blocks_done changed.Nothing is may = h
    blocks_done (changed.Wrote (Slot t field) old new) is may = h
    blocks_done (changed.Wrote (Entry b field) old new) is may = nothing_done (names_same old new)
    blocks_done (changed.Wrote (Root r) old new) is may = absurd is
    blocks_done (changed.Wrote (Used r) old new) is may = absurd is
    blocks_done (changed.Wrote (Word b field) old new) is may = absurd is
    blocks_done (changed.Made kind b) is may = absurd is
    blocks_done (changed.Unmade kind) is may = absurd is
    blocks_done (changed.Took b) is may = taken_done b (known.roles b) refl may
    blocks_done (changed.Roomed bucket had) is may = roomed_done (had && nat_lt bucket known.buckets) (known_after Row (changed.Roomed bucket had) known) (roomed_as_many Row known bucket had).0

  pub rows_keep_blocks : RowsPreserveBlocks K V same hash
  rows_keep_blocks name m known s old new shown i told leads row here may h =
      let to = leads row here in blocks_done name m known s shown h new.changed (row_tells old.memory new.memory new.changed (to.0, told) row to.1) may

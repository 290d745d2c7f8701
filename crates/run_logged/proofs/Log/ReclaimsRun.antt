-- All is reclaimed by steps: what they do follows one upon another, until nothing is left.
use Rattle.std.specs.Prelude.{◌≡◌, ℕ, Bool, true, false, List, [], ◌∷◌, ◌++◌, Option, Some, None, option_map}
use Rattle.std.proofs.Common.{refl, ap, subst, sym, ◌∙◌}
use Rattle.std.proofs.lemmas.List.{append-nil, append_assoc}
use Rattle.seize.specs.declared.rows.reclaim_all.ReclaimAll.{ReclaimAll}
use Rattle.seize.specs.declared.rows.settle.Settled.{Settled}
use Rattle.seize.specs.declared.rows.settle.Settled.TheVariants as settled
use Rattle.papaya_raw.specs.Given.TablesDeclared.node.Node.{Node}
use Rattle.run_schedules.specs.declared.effect.Effect.{Effect}
use Rattle.run_schedules.specs.Schedules.Effects.{with_effect, with_effects, AtEachEffect}
use Rattle.run_schedules.specs.Schedules.Moment.{Moment}
use Rattle.run_shows.specs.Given.FinishesMaps.{IsSameMap, Standing}
use Rattle.run_shows.specs.Reclaims.Reclaims.{AllIsReclaimed}
use Rattle.run_executor.specs.ReclaimsAll.Reclaiming.{IsReclaimingThere, MayReclaim, NobodyHas, ReclaimsThere}
use Rattle.run_executor.specs.Given.SpotsOnSlots.{WaitUnreclaimed}
use Rattle.run_executor.proofs.Given.MomentsAfter.{effects_after}
use Rattle.run_executor.specs.Given.MomentsOnSlots.{HadRetired}
use Rattle.run_logged.specs.Log.Ends.{is_done}
use Rattle.run_logged.specs.Log.Reclaims.{ReclaimRetired, ReclaimingCame, ReclaimingIsShown, ReclaimingRan, ReclaimingSoFar, ReclaimingSteps, ReclaimingThen}
use Rattle.run_logged.specs.Log.Shown.{IsShown}
use Rattle.run_logged.specs.declared.logged.Logged.{Logged}
use Rattle.run_shows.specs.Scenes.Scene.{Scene}
use Rattle.run_executor.specs.Executing.IsThere.{IsThere, held_by}
use Rattle.run_shows.specs.Scenes.Reclaiming.{ReclaimingOutcomeHolds, ReclaimingLeads}

-- a map that is the same has its setting
pub same_setting : {K : Type 0} (o o2 : Option (Standing K)) → IsSameMap o o2 → option_map (λ standing. standing.setting) o2 ≡ option_map (λ standing. standing.setting) o
same_setting None o2 is = ap (option_map (λ standing. standing.setting)) is
same_setting (Some s) o2 is = ap (option_map (λ standing. standing.setting)) is.2

module _ {K V : Type 0} where
  came_first : (s : Scene K V) → ReclaimingCame s s
  came_first s = record { maps = λ n. refl; calls = refl; makers = refl; enders = refl }

  -- what is so of each effect of two lists is so of one behind the other
  each_joined : (P : Moment K V → Effect → Type 0) (xs ys : List Effect) (m : Moment K V) → AtEachEffect P None None xs m → AtEachEffect P None None ys (with_effects None None xs m)
      → AtEachEffect P None None (xs ++ ys) m
  each_joined P [] ys m each later = later
  each_joined P (f ∷ xs) ys m each later = (each.0, each_joined P xs ys (with_effect None None f m) each.1 later)

  retired_joined : (xs ys : List Effect) (m : Moment K V) → ReclaimRetired xs m → ReclaimRetired ys (with_effects None None xs m) → ReclaimRetired (xs ++ ys) m
  retired_joined xs ys m first later = (each_joined HadRetired xs ys m first.0 later.0, each_joined WaitUnreclaimed xs ys m first.1 later.1)

module _ {K V S : Type 0} where
  pub reclaims_none : (l : Logged K V S) (xs : List Effect) (first : ReclaimAll) → ReclaimingSoFar first first xs xs l l
  reclaims_none l xs first = (
    [],
    sym (append-nil xs),
    λ same hash s i lists is. (s, lists, is),
    λ same hash name m s i lists shown. (s, lists, came_first s, shown, (tt, tt)),
  )

  module _ (first now next : ReclaimAll) (old mid new : Logged K V S) (xs ys zs : List Effect) (so : ReclaimingSoFar first now xs ys old mid) (told : Settled (Node K V))
      (step : ReclaimingSteps now next told ys zs mid new)
      (stepping : (same : K → K → Bool) (hash : K → ℕ) (s : Scene K V) (i : ℕ) (lists : ℕ → List ℕ) → IsReclaimingThere same hash mid.executor s i lists now
      → ReclaimsThere same hash s i lists mid.executor new.executor now next told) where
    did_so : zs ≡ xs ++ (so.0 ++ step.0)
    did_so = step.1 ∙ ap (λ (l : List Effect). l ++ step.0) so.1 ∙ append_assoc xs so.0 step.0

    goes_to : (same : K → K → Bool) (hash : K → ℕ) (s : Scene K V) (i : ℕ) (lists : ℕ → List ℕ) (said : Settled (Node K V)) → is_done said ≡ false → (s2 : Scene K V) (lists2 : ℕ → List ℕ)
        → ReclaimingOutcomeHolds same s i lists (λ s3 lists3 all. IsReclaimingThere same hash new.executor s3 i lists3 all) (IsThere same hash new.executor) (held_by mid.executor) (held_by new.executor) s2 lists2 next said
        → IsReclaimingThere same hash new.executor s2 i lists2 next
    goes_to same hash s i lists settled.Goes more s2 lists2 comes = comes
    goes_to same hash s i lists settled.Waits more s2 lists2 comes = comes
    goes_to same hash s i lists (settled.Gave value) more s2 lists2 comes = comes
    goes_to same hash s i lists settled.Done more s2 lists2 comes = absurd (cc more)

    shown_to : (same : K → K → Bool) (hash : K → ℕ) (name : ℕ → List ℕ) (m : Moment K V) (s : Scene K V) (i : ℕ) (lists : ℕ → List ℕ) (said : Settled (Node K V)) → is_done said ≡ false → (s2 : Scene K V)
        (lists2 : ℕ → List ℕ) → ReclaimingThen same hash name m s i lists s2 lists2 next mid new said → ReclaimingIsShown same hash name m new s2 i lists2 next
    shown_to same hash name m s i lists settled.Goes more s2 lists2 comes = comes
    shown_to same hash name m s i lists settled.Waits more s2 lists2 comes = comes
    shown_to same hash name m s i lists (settled.Gave value) more s2 lists2 comes = comes
    shown_to same hash name m s i lists settled.Done more s2 lists2 comes = absurd (cc more)

    module _ (same : K → K → Bool) (hash : K → ℕ) (name : ℕ → List ℕ) (m : Moment K V) (s : Scene K V) (i : ℕ) (lists : ℕ → List ℕ) (shown : ReclaimingIsShown same hash name m old s i lists first) where
      abbrev u : (s1 : Scene K V) × (lists1 : ℕ → List ℕ) × ReclaimingCame s s1 × ReclaimingIsShown same hash name (with_effects None None so.0 m) mid s1 i lists1 now × ReclaimRetired so.0 m
      u = so.3 same hash name m s i lists shown

      abbrev leads : ReclaimingLeads same (λ map. hash) u.0 i u.1 (held_by mid.executor) (held_by new.executor) now next told
      leads = (step.2 same hash name (with_effects None None so.0 m) u.0 i u.1 u.3).0

      abbrev s2 : Scene K V
      s2 = record u.0 { world = leads.1.w2; maps = leads.1.maps2 }

      after_it : with_effects None None step.0 (with_effects None None so.0 m) ≡ with_effects None None (so.0 ++ step.0) m
      after_it = sym (effects_after None None so.0 step.0 m)

      pub came_then : ReclaimingCame s s2
      came_then = record {
        maps = λ n. same_setting (u.0.maps n) (leads.1.maps2 n) (leads.1.as_they_were n) ∙ u.2.maps n;
        calls = u.2.calls;
        makers = u.2.makers;
        enders = u.2.enders;
      }

      pub shown_then : ReclaimingThen same hash name (with_effects None None (so.0 ++ step.0) m) u.0 i u.1 s2 leads.1.lists2 next mid new told
      shown_then =
          subst (λ (x : Moment K V). ReclaimingThen same hash name x u.0 i u.1 s2 leads.1.lists2 next mid new told) after_it
          (step.2 same hash name (with_effects None None so.0 m) u.0 i u.1 u.3).2

      pub retired_then : ReclaimRetired (so.0 ++ step.0) m
      retired_then = retired_joined so.0 step.0 m u.4 (step.2 same hash name (with_effects None None so.0 m) u.0 i u.1 u.3).1

    pub reclaims_on : is_done told ≡ false → ReclaimingSoFar first next xs zs old new
    reclaims_on more = (
      so.0 ++ step.0,
      did_so,
      λ same hash s i lists is.
          (let v = so.2 same hash s i lists is in
          let to = stepping same hash v.0 i v.1 v.2 in
          let s3 : Scene K V = record v.0 { world = to.1.w2; maps = to.1.maps2 } in
          (s3, to.1.lists2, goes_to same hash v.0 i v.1 told more s3 to.1.lists2 to.2)),
      λ same hash name m s i lists shown. (
        s2 same hash name m s i lists shown,
        (leads same hash name m s i lists shown).1.lists2,
        came_then same hash name m s i lists shown,
        shown_to same hash name (with_effects None None (so.0 ++ step.0) m) (u same hash name m s i lists shown).0 i (u same hash name m s i lists shown).1 told more
            (s2 same hash name m s i lists shown) (leads same hash name m s i lists shown).1.lists2 (shown_then same hash name m s i lists shown),
        retired_then same hash name m s i lists shown,
      ),
    )

  -- by the last step nothing is left
  pub reclaims_last : (taken : Bool) (first now next : ReclaimAll) (old mid new : Logged K V S) (xs ys zs : List Effect)
      → ((same : K → K → Bool) (hash : K → ℕ) (name : ℕ → List ℕ) (m : Moment K V) (s : Scene K V) (i : ℕ) (lists : ℕ → List ℕ) → IsShown same hash name m old s
      → NobodyHas old.executor → MayReclaim old.executor s lists taken → ReclaimingIsShown same hash name m old s i lists first)
      → mid.executor.roots ≡ old.executor.roots → ReclaimingSoFar first now xs ys old mid → (told : Settled (Node K V)) → is_done told ≡ true → ReclaimingSteps now next told ys zs mid new
      → ((same : K → K → Bool) (hash : K → ℕ) (s : Scene K V) (i : ℕ) (lists : ℕ → List ℕ) → IsReclaimingThere same hash mid.executor s i lists now
      → ReclaimsThere same hash s i lists mid.executor new.executor now next told)
      → ReclaimingRan taken xs zs old new
  reclaims_last taken first now next old mid new xs ys zs begins roots so settled.Done over step stepping = (
    so.0 ++ step.0,
    did_so first now next old mid new xs ys zs so settled.Done step stepping,
    λ same hash name m s lists shown nobody may.
        (let there = begins same hash name m s 0 lists shown nobody may in
        let to = shown_then first now next old mid new xs ys zs so settled.Done step stepping same hash name m s 0 lists there in (
          s2 first now next old mid new xs ys zs so settled.Done step stepping same hash name m s 0 lists there,
          came_then first now next old mid new xs ys zs so settled.Done step stepping same hash name m s 0 lists there,
          subst (λ (r : ℕ). AllIsReclaimed r (s2 first now next old mid new xs ys zs so settled.Done step stepping same hash name m s 0 lists there).world
              (s2 first now next old mid new xs ys zs so settled.Done step stepping same hash name m s 0 lists there).maps) roots to.0,
          to.1,
          retired_then first now next old mid new xs ys zs so settled.Done step stepping same hash name m s 0 lists there,
        )),
  )
  reclaims_last taken first now next old mid new xs ys zs begins roots so settled.Goes over step stepping = absurd (cc over)
  reclaims_last taken first now next old mid new xs ys zs begins roots so settled.Waits over step stepping = absurd (cc over)
  reclaims_last taken first now next old mid new xs ys zs begins roots so (settled.Gave value) over step stepping = absurd (cc over)

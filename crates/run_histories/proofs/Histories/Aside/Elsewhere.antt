-- What stays so where what is of no call leaves calls and maps as they were, or lets one go, stays so where rows, makings and ends take steps, and a walk is given up.
use Rattle.std.specs.Prelude.{◌≡◌, ℕ, Bool, true, false, List, Option, Some, None, ◌⊎◌}
use Rattle.std.proofs.Common.{refl, ap, sym, subst, ◌∙◌, inl, inr}
use Rattle.std.proofs.lemmas.Bool.{cases_eq}
use Rattle.run_places.specs.Given.SeizeWordsDeclared.fault.Fault.TheVariants.{Memory}
use Rattle.run_places.specs.Given.SeizeWorld.{World, Hand, with_at}
use Rattle.run_places.specs.Given.SeizeDeclared.advance.Advance.{Advance}
use Rattle.run_places.specs.Given.SeizeDeclared.advance.Advance.TheVariants as progress
use Rattle.run_places.specs.Given.SeizeDeclared.rows.settle.Settled.{Settled}
use Rattle.run_places.specs.Given.SeizeDeclared.rows.settle.Settled.TheVariants as settled
use Rattle.run_places.specs.Given.TablesDeclared.node.Node.{Node}
use Rattle.run_places.specs.Given.TablesDeclared.setting.Setting.{Setting}
use Rattle.run_places.specs.Given.ResizeDeclared.new_map.NewMap.{NewMap}
use Rattle.run_places.specs.Given.SweepsSweepPoints.{after_next}
use Rattle.run_places.specs.Given.ReservesDeclared.sweep.Sweeping.{Sweeping}
use Rattle.run_places.specs.Given.ReservesDeclared.sweep.Sweeping.TheVariants as at
use Rattle.run_places.specs.Given.RawMachine.{is_ready}
use Rattle.run_places.specs.Given.RawDeclared.machines.end_map.EndMap.{EndMap}
use Rattle.run_places.specs.Given.RunsDeclared.outcome.Outcome.TheVariants.{Refused}
use Rattle.run_places.specs.Given.SchedulesMoment.{Moment}
use Rattle.run_places.specs.Given.CallersOverAll.{CallOverAll, gone_on}
use Rattle.run_places.specs.Given.CallersTogether.{UnderWay, OverAll}
use Rattle.run_places.proofs.Given.CallersTogether.At.{at_other, at_same}
use Rattle.run_places.specs.Given.EffectsEffects.{effects_of}
use Rattle.run_places.specs.Given.EffectsKnown.{Known}
use Rattle.run_places.specs.Given.EffectsDeclared.acting.Acting.TheVariants.{Row, Ending}
use Rattle.run_places.specs.Given.FinishesEndings.{Finishing}
use Rattle.run_places.specs.Given.FinishesFactsEnds.{Deed}
use Rattle.run_places.specs.Given.FinishesMakings.{Beginning}
use Rattle.run_places.specs.Given.FinishesMaps.{Standing, with_call}
use Rattle.run_places.specs.Given.FollowsCalling.{NoneNamed, come_to}
use Rattle.run_places.specs.Given.FollowsCalls.{IsCalled}
use Rattle.run_places.specs.Given.FollowsShows.{Refines}
use Rattle.run_places.specs.Hands.Hands.{IsInUse}
use Rattle.run_places.proofs.Hands.Asking.{which}
use Rattle.run_places.specs.Given.OthersAfter.{RefinesAfter}
use Rattle.run_places.specs.Given.OthersEndings.{ending_after, without_map}
use Rattle.run_places.specs.Given.OthersGone.{WasRetired, EndsWith}
use Rattle.run_places.specs.Given.OthersMakings.{making_after}
use Rattle.run_places.specs.Given.OthersWalks.{given_up}
use Rattle.run_places.proofs.Given.OthersElsewhere.{shown_elsewhere}
use Rattle.run_places.proofs.Given.OthersEndBegins.{endings_begin_shown, endings_are_over}
use Rattle.run_places.proofs.Given.OthersEnds.{endings_are_shown}
use Rattle.run_places.proofs.Given.OthersMakeBegins.{makings_begin_shown, maps_are_there}
use Rattle.run_places.proofs.Given.OthersMakes.{makings_are_shown}
use Rattle.run_places.proofs.Given.OthersRowBegins.{rows_begin_shown}
use Rattle.run_places.proofs.Given.OthersRowPlans.{row_tells}
use Rattle.run_places.proofs.Given.OthersRows.{rows_on_slots_are_shown}
use Rattle.run_places.proofs.Given.OthersStays.{same_maps}
use Rattle.run_places.proofs.Given.OthersWalks.{fewer_calls, with_calls}
use Rattle.run_places.proofs.Spots.OnSlots.{row_beside as finds_numbers}
use Rattle.run_places.specs.Moments.Endings.{IsOfIts}
use Rattle.run_places.specs.Moments.OnSlots.{HadRetired}
use Rattle.run_places.proofs.Moments.Beside.{IsBeside}
use Rattle.run_places.proofs.Moments.Ends.{end_beside, end_numbers, ends_with}
use Rattle.run_places.proofs.Moments.MakingSteps.{makings_go_beside}
use Rattle.run_places.proofs.Moments.OnSlots.{row_beside, rows_begin_beside, was_retired, with_outside}
use Rattle.run_histories.specs.Histories.Elsewhere.{StaysElsewhere}
use Rattle.run_places.specs.Given.ScenesEnding.{EndingHasOutcome, ending_begun}
use Rattle.run_places.specs.Given.ScenesHeld.{Held, IsAt}
use Rattle.run_places.specs.Given.ScenesMaking.{MakingHasOutcome}
use Rattle.run_places.specs.Given.ScenesReplying.{scene_with, unless_stopped}
use Rattle.run_places.specs.Given.ScenesScene.{Scene}
use Rattle.run_places.proofs.Given.General.{same_some as one_of}

-- where a making, and an end, has come, the scene is that of what is held
module _ {K V : Type 0} (same : K → K → Bool) (hash : ℕ → K → ℕ) (s : Scene K V) (old new : Held K V) where
  pub making_at : (i : ℕ) (b : Beginning K) (end : NewMap) (w2 : World (Node K V)) (told : Advance Setting) (it : MakingHasOutcome same hash s old new i b end w2 told)
      → IsAt same hash new (making_after same hash s old new i b end w2 told it)
  making_at i b end w2 progress.Goes it = it
  making_at i b end w2 progress.Waits it = absurd it
  making_at i b end w2 (progress.Done setting) it = it.2
  making_at i b end w2 (progress.Refused fault) it = it

  pub ending_at : (i : ℕ) (f : Finishing K V) (end : EndMap) (w2 : World (Node K V)) (deed : Deed) (told : Settled (Node K V)) (it : EndingHasOutcome same hash s new i f end w2 deed told)
      → (let s2 = ending_after same hash s new i f end w2 deed told it in (s2.world ≡ w2) × (s2.calls ≡ s.calls) × (s2.maps ≡ s.maps) × IsAt same hash new s2 × (s2.makers ≡ s.makers))
  ending_at i f end w2 deed settled.Goes it = (refl, refl, refl, it.1, refl)
  ending_at i f end w2 deed settled.Waits it = absurd it
  ending_at i f end w2 deed (settled.Gave value) it = (refl, refl, refl, it.3, refl)
  ending_at i f end w2 deed settled.Done it = (refl, refl, refl, it.2, refl)

-- what is asked for its next pair is ready
ready_is : (stands : Sweeping) → true ≡ is_ready stands → stands ≡ at.Ready
ready_is at.Ready e = refl
ready_is at.Reads e = absurd (cc e)
ready_is at.Follows e = absurd (cc e)
ready_is (at.Copies copier) e = absurd (cc e)
ready_is at.Words e = absurd (cc e)
ready_is (at.Asks word) e = absurd (cc e)
ready_is (at.Tries word) e = absurd (cc e)
ready_is (at.Counts removed) e = absurd (cc e)
ready_is (at.Disposes dispose) e = absurd (cc e)
ready_is at.Over e = absurd (cc e)
ready_is (at.Refused fault) e = absurd (cc e)

module _ {K V : Type 0} (same : K → K → Bool) (hash : ℕ → K → ℕ) (name : ℕ → List ℕ) (P : Moment K V → Known → Scene K V → Type 0) where
  -- it stays so beside what is of no call,
  abbrev pub StaysBeside : Type 0
  StaysBeside =
      (m m2 : Moment K V) (known known2 : Known) (s s2 : Scene K V) (old new : Held K V) → IsAt same hash old s → IsAt same hash new s2 → P m known s
      → ((shown : Refines same name m known s) → RefinesAfter same name m known s shown m2 known2 s2) → IsBeside m m2 known known2 s s2 → P m2 known2 s2

  -- and where the same pairs were stored, and lie where they lay, no call comes, and each map stands as it stood
  abbrev pub StaysBetween : Type 0
  StaysBetween =
      (m m2 : Moment K V) (known : Known) (s s2 : Scene K V) → P m known s → m2.place ≡ m.place → m2.stored ≡ m.stored → m2.calls ≡ m.calls
      → ((shown : Refines same name m known s) → RefinesAfter same name m known s shown m2 known s2) → ((n j : ℕ) (x : UnderWay K V K) → s2.calls n j ≡ Some x → s.calls n j ≡ Some x)
      → s2.maps ≡ s.maps → P m2 known s2

  -- and where a walk that is ready goes on
  abbrev pub StaysWalking : Type 0
  StaysWalking =
      (m : Moment K V) (known : Known) (s : Scene K V) → P m known s → (map i : ℕ) (o : CallOverAll) → s.calls map i ≡ Some (OverAll o) → o.sweep.stands ≡ at.Ready
      → P m known (scene_with map i (OverAll (gone_on o (after_next o.sweep))) s)

  abbrev pub StaysGivenUp : Type 0
  StaysGivenUp = (m : Moment K V) (known : Known) (s : Scene K V) → P m known s → (own : List ℕ) → NoneNamed name own s → P (come_to own (Refused Memory) 0 m) known s

  -- calls are as they were, blocks are in the hands in which they were, and each map that stands stood so
  same_beside : (m : Moment K V) (known : Known) (s s2 : Scene K V) → s2.world.hand ≡ s.world.hand → s2.calls ≡ s.calls → ((n : ℕ) (st : Standing K) → s2.maps n ≡ Some st → s.maps n ≡ Some st) → IsBeside m m known known s s2
  same_beside m known s s2 hand calls fewer = record {
    stored = refl;
    born = refl;
    calls = refl;
    maps = refl;
    place = λ n x e. e;
    back = λ b of. inl refl;
    roles = λ b some of. refl;
    hands = λ b some used. subst (λ (f : ℕ → Hand). IsInUse (f b)) (sym hand) used;
    same_calls = calls;
    stood = λ n st is. inl (st, fewer n st is, refl, λ t. refl);
  }

  pub stays_elsewhere : StaysBeside → StaysBetween → StaysWalking → StaysGivenUp → StaysElsewhere same hash name P
  stays_elsewhere beside between walking gives_up = record {
    rows_begin = λ m known s old new at_old whole so called i leads.
        beside m m known known s _ old new at_old leads.2.4 so (λ shown. rows_begin_shown K V same hash name m known s old new at_old shown called i leads)
        (rows_begin_beside K V same hash m known s old new called i leads);
    rows = λ m known s old new at_old whole so i told leads row here retired. (let to = leads row here in
        let tells = row_tells old.memory new.memory new.changed (to.0, told) row to.1 in
        beside m _ known _ s _ old new at_old to.2.4 so
        (λ shown. rows_on_slots_are_shown K V same hash name m known s old new at_old shown i told leads row here
        (with_outside None None HadRetired WasRetired was_retired (effects_of Row known new.changed) m (finds_numbers m known new.changed tells).0.1 whole.outside retired))
        (row_beside same hash m known s old new at_old i row here (to.0, told) to.1 to.2));
    makings_begin = λ m known s old new at_old whole so i b at_new.
        beside m m known known s (record s { makers = with_at s.makers i (Some b) }) old new at_old at_new so (λ shown. makings_begin_shown K V same name m known s shown i b)
        (same_beside m known s (record s { makers = with_at s.makers i (Some b) }) refl refl (λ n st is. is));
    maps_come = λ m known s old new at_old whole so there none. between m _ known s s so refl refl refl (λ shown. maps_are_there K V same name m known s shown there) (λ n j x is. is) refl;
    makings = λ m known s old new at_old whole so i told leads b here of is_new. (let to = leads b here in
        beside m _ known _ s _ old new at_old (making_at same hash s old new i b to.0 to.2.step.w2 told to.3) so
        (λ shown. makings_are_shown K V same hash name m known s old new at_old shown i told leads b here of (whole.counters i b here) is_new)
        (makings_go_beside K V same hash name m known s old new at_old whole i told leads b here of is_new));
    endings_begin = λ m known s old new at_old whole so map i standing there at_new.
        beside m m known known s (ending_begun map i standing s) old new at_old at_new so (λ shown. endings_begin_shown K V same name m known s shown map i standing) (ending_beside m known s map i standing);
    endings = λ m known s old new at_old whole so i told leads f here map not_there of_map. (let to = leads f here in
        let it = ending_at same hash s old new i f to.0 to.2.w2 to.2.deed told to.3 in
        let finds = end_numbers same hash name m known s old new at_old whole i f here to.0 told to.1 to.2 map not_there to.3 in
        let ends = with_outside None (Some map) (IsOfIts map) (λ v effect. EndsWith v map effect) (ends_with map) (effects_of (Ending map) known new.changed) m finds whole.outside of_map in
        beside m _ known _ s _ old new at_old it.3 so (λ shown. (endings_are_shown K V same hash name m known s old new at_old shown i told leads f here map not_there ends).1)
        (end_beside same hash name m known s old new at_old whole i f here to.0 told to.1 to.2 map not_there to.3 _ it.0 it.1 it.2));
    endings_over = λ m known s old new at_old whole so own remains others.
        between m (without_map own remains m) known s s so refl refl refl (λ shown. endings_are_over K V same name m known s shown own remains others) (λ n j x is. is) refl;
    walks = λ m known s old new at_old whole so i leads map o here is_next.
        subst (λ (x : UnderWay K V K). P m known (scene_with map i x s)) (sym is_next) (walking m known s so map i o here (ready_is o.sweep.stands (leads map (OverAll o) here).2));
    alike = λ m m2 known s so like. between m m2 known s s so like.place like.stored like.calls
        (λ shown. shown_elsewhere K V same name m m2 known s s shown like (record { memory = refl; hand = refl; maps = λ n. same_maps (s.maps n); calls = refl })) (λ n j x is. is) refl;
    walks_stop = λ m known s old new at_old whole so i stopped leads map u here none. stops m known s so i stopped map u here none;
  }
    where
      ending_beside : (m : Moment K V) (known : Known) (s : Scene K V) (map i : ℕ) (standing : Standing K) → IsBeside m m known known s (ending_begun map i standing s)
      ending_beside m known s map i standing = same_beside m known s (ending_begun map i standing s) refl refl fewer
        where
          fewer : (n : ℕ) (st : Standing K) → with_at s.maps map None n ≡ Some st → s.maps n ≡ Some st
          fewer n st is = elim (cases_eq n map) as (λ _. s.maps n ≡ Some st) [
            | inl e ↦ absurd (let none = at_same s.maps map None n e in cc (none, is))
            | inr ne ↦ sym (at_other s.maps map None n ne) ∙ is
          ]

      stops : (m : Moment K V) (known : Known) (s : Scene K V) → P m known s → (i : ℕ) (stopped : Bool) (map : ℕ) (u : UnderWay K V K) → s.calls map i ≡ Some u
          → (let after = record s { calls = with_call s.calls map i (unless_stopped stopped u) } in (stopped ≡ true → NoneNamed name (name i) after) → P (given_up (name i) stopped m) known after)
      stops m known s so i true map u here none =
          gives_up m known _ (between m m known s (record s { calls = with_call s.calls map i None }) so refl refl refl
          (λ shown. with_calls same name m known s (with_call s.calls map i None) (fewer_calls same name m s.calls map i u here None (λ x e. absurd (cc e)) shown.calls) shown)
          (λ n j x is. gone n j x (which s.calls map i None n j x is)) refl) (name i) (none refl)
        where
          gone : (n j : ℕ) (x : UnderWay K V K) → ((n ≡ map) × (j ≡ i) × (◌≡◌ {A = Option (UnderWay K V K)} None (Some x))) ⊎ ((n ≡ map → j ≡ i → ⊥) × (s.calls n j ≡ Some x)) → s.calls n j ≡ Some x
          gone n j x (inl its) = absurd (let none = its.2 in cc none)
          gone n j x (inr was) = was.1
      stops m known s so i false map u here none =
          between m m known s (record s { calls = with_call s.calls map i (Some u) }) so refl refl refl
          (λ shown. with_calls same name m known s (with_call s.calls map i (Some u)) (fewer_calls same name m s.calls map i u here (Some u)
          (λ x e its is. subst (λ (y : UnderWay K V K). IsCalled same y its) (one_of u x e) is) shown.calls) shown)
          (λ n j x is. still n j x (which s.calls map i (Some u) n j x is)) refl
        where
          still : (n j : ℕ) (x : UnderWay K V K) → ((n ≡ map) × (j ≡ i) × (◌≡◌ {A = Option (UnderWay K V K)} (Some u) (Some x))) ⊎ ((n ≡ map → j ≡ i → ⊥) × (s.calls n j ≡ Some x)) → s.calls n j ≡ Some x
          still n j x (inl its) = ap (λ (k : ℕ). s.calls k j) its.0 ∙ ap (s.calls map) its.1 ∙ here ∙ its.2
          still n j x (inr was) = was.1

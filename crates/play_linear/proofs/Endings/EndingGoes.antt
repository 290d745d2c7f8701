-- Each map that ends goes on to end where the end of one begins, and by each step of it: of its own end, and of another one's.
use Rattle.std.specs.Prelude.{map as mapped, ◌≡◌, ◌≢◌, ◌<◌, ◌⊎◌, ℕ, Bool, true, false, List, [], Option, Some, None, option_map}
use Rattle.std.proofs.Common.{refl, ap, sym, subst, ◌∙◌, inl, inr}
use Rattle.std.proofs.lemmas.Bool.{cases_eq}
use Rattle.seize_acts.specs.Given.SeizeWorld.{with_at}
use Rattle.play_lists.specs.Given.TablesChunks.{is_incremental}
use Rattle.run_schedules.specs.Given.RawEndMap.{ending}
use Rattle.run_logged.specs.Given.RawDeclared.machines.end_map.EndMap.{EndMap}
use Rattle.run_logged.proofs.Given.CallersTogether.At.{at_other, at_same}
use Rattle.play_lists.specs.Given.FinishesEndings.{AllPairsOnce, Finishing, finishing_of}
use Rattle.play_lists.specs.Given.FinishesFactsEnds.{back_of}
use Rattle.play_lists.specs.Given.FinishesMaps.{Standing}
use Rattle.play_lists.specs.Given.FinishesOrders.{pairs_of}
use Rattle.play_lists.specs.Given.RuleInWorld.{IsMapIn}
use Rattle.run_schedules.specs.declared.effect.Effect.{Effect}
use Rattle.run_schedules.specs.Schedules.Effects.{with_effects}
use Rattle.run_schedules.specs.Schedules.Handing.{in_order}
use Rattle.run_schedules.specs.Schedules.Moment.{Moment}
use Rattle.play_lists.specs.Given.EffectsEffects.{taken_by}
use Rattle.play_lists.specs.Given.EffectsKnown.{Known}
use Rattle.play_lists.specs.Given.EffectsDeclared.acting.Acting.TheVariants as acts
use Rattle.play_lists.specs.Given.EffectsDeclared.role.Role.{Role}
use Rattle.play_lists.specs.Given.EffectsDeclared.role.Role.TheVariants as role
use Rattle.play_lists.specs.Given.FollowsMaps.{RefinesMap}
use Rattle.play_lists.specs.Given.EffectsDeclared.changed.Changed.TheVariants.{Nothing as NoChange}
use Rattle.play_lists.specs.Given.ScenesHeld.{Held, IsAt}
use Rattle.play_lists.specs.Given.ScenesScene.{Scene, slot_of}
use Rattle.run_logged.specs.Given.MomentsWhole.{RefinesWhole}
use Rattle.play_lists.proofs.Given.RuleLaws.{current_is_known}
use Rattle.run_logged.specs.Log.Ends.{NotesMap}
use Rattle.run_logged.proofs.Log.EndAll.{all_end}
use Rattle.play_lists.proofs.Given.ShedsEndOrder.{pairs_ordered}
use Rattle.play_lists.specs.Given.ActsActs.{Act, Answer, BeginsEnding}
use Rattle.play_lists.specs.Given.ActsAsSteps.{changed_by, held_in}
use Rattle.play_lists.specs.Given.ActsLeads.{Led}
use Rattle.run_schedules.specs.Deeds.Deeds.{moment, named}
use Rattle.play_lists.specs.Played.Play.{Ending, State}
use Rattle.play_lists.specs.Played.Reached.{IsOf}
use Rattle.play_lists.proofs.Played.PlayedAs.{PlayedAs}
use Rattle.play_linear.proofs.Linear.ComeActs.{notes_map}
use Rattle.play_linear.proofs.Linear.Holding.{AllHolds}
use Rattle.play_lists.specs.MapsEnd.Ends.{EndsWell}
use Rattle.play_lists.specs.MapsEnd.Going.{ContinuesToEnd}
use Rattle.play_linear.specs.Endings.GoingOn.{EndsContinue}
use Rattle.play_lists.proofs.MapsEnd.Begins.{are_stored, would_end}
use Rattle.play_linear.proofs.Endings.Played.{goes_of}
use Rattle.run_schedules.proofs.Given.General.{same_some}

-- Where the end of a map begins it goes on to end.
module _ {K V : Type 0} (same : K → K → Bool) (hash : ℕ → K → ℕ) (old : Held K V) (m : Moment K V) (known : Known) (s : Scene K V) (at : IsAt same hash old s) (whole : RefinesWhole same named m known s) (map : ℕ)
    (standing : Standing K) (there : s.maps map ≡ Some standing) (each_once : AllPairsOnce (is_incremental standing.setting.mode) standing.chart) where
  abbrev number : ℕ → ℕ
  number = whole.all.shown.number map

  abbrev chunks : Bool
  chunks = is_incremental standing.setting.mode

  shows : RefinesMap map number standing m known
  shows = whole.all.shown.maps map standing there

  in_it : IsMapIn same standing.hash standing.setting s.world standing.chart standing.blocks
  in_it = (at.together.makings.standing.each map standing there).ground.map

  notes : NotesMap map number known standing.setting standing.chart standing.blocks
  notes = notes_map same hash old m known s at whole.all.shown map standing there

  ordered : in_order m (mapped number (pairs_of chunks standing.chart)) ≡ true
  ordered =
      pairs_ordered same standing.hash (at.together.makings.standing.fit map standing there).0 standing.chart m number chunks in_it.map.rule
      (λ k current. let it = current_is_known same standing.hash standing.setting s.world.memory standing.chart standing.blocks in_it.map.rule in_it.map.shows k current in
      (whole.places.each map standing there).lies k (number k) (it.0, it.1, notes.pairs k current) current)

  stored : (k : ℕ) → standing.chart.current k ≡ true → k < standing.chart.stored
  stored k current = (current_is_known same standing.hash standing.setting s.world.memory standing.chart standing.blocks in_it.map.rule in_it.map.shows k current).0

  pub begun_goes : ContinuesToEnd map (finishing_of standing s.world) known m
  begun_goes = record {
    rest = back_of standing.setting standing.chart standing.blocks (λ t. []) false;
    back_is = refl;
    there = shows.there.there;
    there_is = shows.there.is;
    stored = are_stored m known map number standing shows each_once stored ordered;
    well = subst (λ (l : List Effect). EndsWell map l m) (sym (all_end map number known standing.setting standing.chart standing.blocks notes each_once)) (would_end m known map number standing shows each_once stored ordered);
  }

-- What ends with a map leaves all maps as they are told.
pub maps_kept : {K V : Type 0} (map : ℕ) (r : Role) (m : Moment K V) → (with_effects None (Some map) (taken_by (acts.Ending map) r) m).maps ≡ m.maps
maps_kept map role.Free m = refl
maps_kept map (role.OwnPair i) m = refl
maps_kept map (role.OwnTable turn shape) m = refl
maps_kept map (role.Pair n) m = refl
maps_kept map (role.Table t len) m = refl
maps_kept map (role.Counter of) m = refl

module _ {K V S : Type 0} (same : K → K → Bool) (by_hasher : S → K → ℕ) (hash : ℕ → K → ℕ) (batch_size roots : ℕ) (aborts : ℕ → V) (x y : State K V S) (s n : Scene K V)
    (is : IsOf by_hasher s s.world.row x.now) (at : IsAt same hash (held_in batch_size roots NoChange s) s) (all : AllHolds same x s) (so : EndsContinue x s) (told : Answer K V) (i : ℕ) where
  abbrev old : Held K V
  old = held_in batch_size roots NoChange s

  abbrev m : Moment K V
  m = moment x.history

  abbrev begins : ℕ → Act K V S
  begins map = BeginsEnding i map

  -- the end of a map begins
  pub begins_going : (map : ℕ) → PlayedAs same by_hasher batch_size roots aborts x y (BeginsEnding i map) → Led same by_hasher batch_size roots slot_of (BeginsEnding i map) s told n
      → IsAt same hash (held_in batch_size roots (changed_by same (begins map) s) n) n → EndsContinue y n
  begins_going map (set, there, y_is) (standing, stands, none, n_is) at2 =
      subst (λ (z : State K V S). EndsContinue z n) (sym y_is) (record { each = λ j e ends f is_f. each j e f (cases_eq j i) ends (sym (ap (λ (z : Scene K V). z.enders j) n_is) ∙ is_f); apart = apart_so })
    where
      its : Ending
      its = record { map = map; machine = ending set.0 false }

      f2 : Finishing K V
      f2 = finishing_of standing s.world

      itself : ContinuesToEnd map f2 x.known m
      itself =
          begun_goes same hash old m x.known s at all.holds.shows.whole map standing stands
          (at2.together.facts i f2 (ap (λ (z : Scene K V). z.enders i) n_is ∙ at_same s.enders i (Some f2) i refl)).each

      each : (j : ℕ) (e : Ending) (f : Finishing K V) → (j ≡ i) ⊎ (j ≢ i) → with_at x.now.enders i (Some its) j ≡ Some e → with_at s.enders i (Some f2) j ≡ Some f → ContinuesToEnd e.map f x.known m
      each j e f (inl at_it) ends is_f =
          subst (λ (z : Ending). ContinuesToEnd z.map f x.known m) (same_some its e (sym (at_same x.now.enders i (Some its) j at_it) ∙ ends))
          (subst (λ (z : Finishing K V). ContinuesToEnd map z x.known m) (same_some f2 f (sym (at_same s.enders i (Some f2) j at_it) ∙ is_f)) itself)
      each j e f (inr ne) ends is_f = so.each j e (sym (at_other x.now.enders i (Some its) j ne) ∙ ends) f (sym (at_other s.enders i (Some f2) j ne) ∙ is_f)

      -- a map of which an end is under way does not stand
      fresh : (j : ℕ) (e : Ending) → x.now.enders j ≡ Some e → e.map ≢ map
      fresh j e ends same_map =
          by (s.enders j) refl
        where
          by : (o : Option (Finishing K V)) → s.enders j ≡ o → ⊥
          by None e_is =
              let both : ◌≡◌ {A = Option EndMap} (Some e.machine) None = sym (ap (option_map (λ (z : Ending). z.machine)) ends) ∙ is.enders j ∙ ap (option_map (λ (z : Finishing K V). z.machine)) e_is in cc both
          by (Some f) e_is = let gone = (goes_of same by_hasher hash batch_size roots aborts x y s n is at all so told j e ends f e_is).gone.not_there in let some = ap s.maps same_map ∙ stands in cc (gone, some)

      apart_so : (j k : ℕ) (e g : Ending) → j ≢ k → with_at x.now.enders i (Some its) j ≡ Some e → with_at x.now.enders i (Some its) k ≡ Some g → e.map ≢ g.map
      apart_so j k e g ne one two = by (cases_eq j i) (cases_eq k i)
        where
          map_of : (l : ℕ) (z : Ending) → l ≡ i → with_at x.now.enders i (Some its) l ≡ Some z → z.map ≡ map
          map_of l z at_it is_z = sym (ap (λ (z : Ending). z.map) (same_some its z (sym (at_same x.now.enders i (Some its) l at_it) ∙ is_z)))

          was : (l : ℕ) (z : Ending) → l ≢ i → with_at x.now.enders i (Some its) l ≡ Some z → x.now.enders l ≡ Some z
          was l z other is_z = sym (at_other x.now.enders i (Some its) l other) ∙ is_z

          by : (j ≡ i) ⊎ (j ≢ i) → (k ≡ i) ⊎ (k ≢ i) → e.map ≢ g.map
          by (inl a) (inl b) same_map = ne (a ∙ sym b)
          by (inl a) (inr b) same_map = fresh k g (was k g b two) (sym same_map ∙ map_of j e a one)
          by (inr a) (inl b) same_map = fresh j e (was j e a one) (same_map ∙ map_of k g b two)
          by (inr a) (inr b) same_map = so.apart j k e g ne (was j e a one) (was k g b two) same_map

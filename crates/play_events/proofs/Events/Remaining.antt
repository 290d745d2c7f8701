-- In whichever scene a scheduler stands for a moment, what ended maps have left over is behind the roots that the moment says: what is behind a root the memory says. So what holds of a
-- scheduler holds in each such scene.
use Rattle.std.specs.Prelude.{◌≡◌, ◌⊎◌, ◌<◌, ℕ, Bool, List, map, Option, Some, None}
use Rattle.std.specs.List.{AllByRecursion}
use Rattle.std.proofs.Common.{refl, ap, sym, subst, ◌∙◌, inl, inr}
use Rattle.run_schedules.specs.Given.SeizeWordsSlotWords.{slot_word}
use Rattle.play_stepping.specs.Given.SeizeDeclared.states.TheConstants.{HEAD}
use Rattle.play_lists.specs.Given.TablesDeclared.setting.Setting.{Setting}
use Rattle.play_stepping.specs.Given.RawDeclared.machines.end_map.EndMap.{EndMap}
use Rattle.play_stepping.specs.Given.ResizeDeclared.new_map.NewMap.{NewMap}
use Rattle.play_lists.specs.Given.FinishesEndings.{Finishing}
use Rattle.play_lists.specs.Given.FinishesMakings.{Beginning}
use Rattle.play_lists.specs.Given.FinishesMaps.{Standing}
use Rattle.play_stepping.specs.Given.MomentsNumbers.{AreFound}
use Rattle.run_schedules.specs.Schedules.Moment.{Moment}
use Rattle.play_lists.specs.Given.EffectsKnown.{known}
use Rattle.play_lists.specs.Given.EffectsDeclared.role.Role.TheVariants as role
use Rattle.run_schedules.specs.Schedules.Terms.{Terms}
use Rattle.play_stepping.specs.Given.ReclaimsLeft.{IsSomebodys, LeftWithEndings}
use Rattle.run_legal.specs.Given.ReclaimsReclaims.{IsRootOf, LeftBehind, RootLeads}
use Rattle.play_stepping.specs.Given.RemainsRemains.{AllStand, RootsAreTaken, RefinesRemains, has_some, left_at}
use Rattle.play_stepping.proofs.Given.RemainsLeads.{both_lead}
use Rattle.play_lists.proofs.Given.RemainsRests.{each_noted, rests_remain}
use Rattle.play_stepping.specs.Given.LoggedShown.{IsCounted}
use Rattle.play_stepping.proofs.Given.RowsFacts.{no_ending_of, no_making_of}
use Rattle.play_stepping.proofs.Given.RowsLists.{both_none, both_some}
use Rattle.play_stepping.specs.Given.SchedulerPlayed.{RefinesFor}
use Rattle.play_stepping.specs.Given.SchedulerReclaiming.{MayGiveAll}
use Rattle.play_stepping.specs.Given.NamedSeen.{named, named_of}
use Rattle.play_stepping.specs.Given.SchedulerDeclared.scheduler.Scheduler.{Scheduler}
use Rattle.play_stepping.proofs.Mapping.MapLists.{all_back, all_seen}
use Rattle.play_stepping.specs.Given.ExecutorIsThere.{IsThere, held_by}
use Rattle.play_lists.specs.Given.ScenesScene.{Scene}

-- a root that a standing map has in one scene of an executor it has in any
root_in : {K V S : Type 0} (same : K → K → Bool) (hash : K → ℕ) (p : Scheduler K V S) (s t : Scene K V) → IsThere same hash p.logged.executor s → IsThere same hash p.logged.executor t → (r : ℕ)
    → IsRootOf s.maps r → IsRootOf t.maps r
root_in {K} same hash p s t at_s at_t r (n, st, stands, its) =
    let setting : Standing K → Setting = λ x. x.setting in
    let x = both_some setting setting (t.maps n) (s.maps n) (at_t.maps n ∙ sym (at_s.maps n)) st stands in
    (n, x.0, x.1, ap (λ (z : Setting). z.root) x.2 ∙ its)

module _ {K V S : Type 0} (same : K → K → Bool) (hash : K → ℕ) (terms : Terms) (m : Moment K V) (p : Scheduler K V S) (plays : RefinesFor same hash terms m p) where
  abbrev t : Scene K V
  t = plays.scene

  abbrev c : RefinesRemains p.logged.executor.roots m (known p.logged.notes) t
  c = plays.shown.counted.remains

  -- nobody makes a map, or ends one
  pub nobody_makes : (j : ℕ) → t.makers j ≡ None
  nobody_makes j = by (t.makers j) refl
    where
      by : (o : Option (Beginning K)) → t.makers j ≡ o → t.makers j ≡ None
      by None is = is
      by (Some d) is = no_making_of same hash p.logged.executor t plays.shown.is_at j (plays.rests j (plays.shown.is_at.held.together.makings.alone j d is))

  pub nobody_ends : (j : ℕ) → t.enders j ≡ None
  nobody_ends j = by (t.enders j) refl
    where
      by : (o : Option (Finishing K V)) → t.enders j ≡ o → t.enders j ≡ None
      by None is = is
      by (Some f) is = no_ending_of same hash p.logged.executor t plays.shown.is_at j (plays.rests j (plays.shown.is_at.held.together.alone j f is).0)

  abbrev StandsNamed : (List ℕ × ℕ) → Type 0
  StandsNamed z = (standing : Standing K) × (t.maps z.1 ≡ Some standing)

  all_stand : AllStand m t
  all_stand = all_back named StandsNamed m.maps (subst (AllByRecursion StandsNamed) (sym plays.maps.listed) (all_seen named_of StandsNamed p.maps plays.maps.stand))

  -- so roots are taken as the moment says, and what is behind them may all be reclaimed, where each map is found by its number
  module _ (found : AreFound m) where
    pub rested : RootsAreTaken p.logged.executor.roots m p.logged.executor.memory.memory × LeftBehind p.logged.executor.roots t.world t.maps c.lists
    rested = rests_remain K V same (λ map. hash) plays.name m (known p.logged.notes) t (held_by p.logged.executor) plays.shown.is_at.held plays.shown.shows.all.shown c found all_stand nobody_makes nobody_ends

    -- and it is noted as what the moment tells
    pub noted_at : (r : ℕ) → r < p.logged.executor.roots → map (known p.logged.notes).roles (c.lists r) ≡ map role.Pair (left_at r m.remains)
    noted_at = each_noted K V same (λ map. hash) plays.name m (known p.logged.notes) t (held_by p.logged.executor) plays.shown.is_at.held plays.shown.shows.all.shown c found all_stand nobody_makes nobody_ends

    abbrev pub gives_all : MayGiveAll p t
    gives_all =
        let slots = plays.shown.counted.numbered.slots in
        record {
          lists = c.lists;
          left = rested.1;
          slots = record { some = slots.some; none = λ none. ap (λ (l : List (List ℕ)). slot_word l 0 HEAD) (slots.none none) };
        }

  module _ (s : Scene K V) (at : IsThere same hash p.logged.executor s) where
    makers_here : (j : ℕ) → s.makers j ≡ None
    makers_here j =
        let to : Beginning K → ℕ × NewMap = λ b. (b.map, b.machine) in
        both_none to to (s.makers j) (t.makers j) (at.makers j ∙ sym (plays.shown.is_at.makers j)) (nobody_makes j)

    enders_here : (j : ℕ) → s.enders j ≡ None
    enders_here j =
        let to : Finishing K V → EndMap = λ f. f.machine in
        both_none to to (s.enders j) (t.enders j) (at.enders j ∙ sym (plays.shown.is_at.enders j)) (nobody_ends j)

    -- so a root that is somebody's in one scene is that of a map that stands in both
    here_is : (r : ℕ) → IsSomebodys t.maps t.makers t.enders r → IsSomebodys s.maps s.makers s.enders r
    here_is r (inl root) = inl (root_in same hash p t s plays.shown.is_at at r root)
    here_is r (inr (inl (j, b, makes, taken, is))) = absurd (let none = nobody_makes j in cc (none, makes))
    here_is r (inr (inr (j, f, ends, is))) = absurd (let none = nobody_ends j in cc (none, ends))

    there_is : (r : ℕ) → IsSomebodys s.maps s.makers s.enders r → IsSomebodys t.maps t.makers t.enders r
    there_is r (inl root) = inl (root_in same hash p s t at plays.shown.is_at r root)
    there_is r (inr (inl (j, b, makes, taken, is))) = absurd (let none = makers_here j in cc (none, makes))
    there_is r (inr (inr (j, f, ends, is))) = absurd (let none = enders_here j in cc (none, ends))

    module _ (lists : ℕ → List ℕ) (left : LeftWithEndings p.logged.executor.roots s.world s.maps s.makers s.enders lists) where
      none_behind : (r : ℕ) → r < p.logged.executor.roots → IsSomebodys t.maps t.makers t.enders r → IsSomebodys s.maps s.makers s.enders r → c.lists r ≡ lists r
      none_behind r l there here = c.left.none r l there ∙ sym (left.none r l here)

      same_lists : (r : ℕ) → r < p.logged.executor.roots → c.lists r ≡ lists r
      same_lists r l = by (c.left.root r l) (left.root r l)
        where
          by : IsSomebodys t.maps t.makers t.enders r ⊎ RootLeads t.world r (c.lists r) → IsSomebodys s.maps s.makers s.enders r ⊎ RootLeads s.world r (lists r) → c.lists r ≡ lists r
          by (inl there) here = none_behind r l there (here_is r there)
          by (inr leads) (inl here) = none_behind r l (there_is r here) here
          by (inr leads) (inr leads_here) = both_lead t.world s.world (at.held.memory ∙ sym plays.shown.is_at.held.memory) r (c.lists r) (lists r) leads leads_here

      -- numbers, slots and roots are so there
      pub counted_in : IsCounted m p.logged s
      counted_in = record {
        numbered = plays.shown.counted.numbered;
        remains = record {
          lists = lists;
          left = left;
          told = λ r l none. c.told r l none ∙ ap has_some (same_lists r l);
          pairs = λ r l none. ap (λ (bs : List ℕ). map (known p.logged.notes).roles bs) (sym (same_lists r l)) ∙ c.pairs r l none;
          ascending = c.ascending;
          once = c.once;
          below = c.below;
          ending = λ j f is. absurd (let none = enders_here j in cc (none, is));
        };
      }

-- A moment shows the scene after a step by which all is reclaimed: nobody has a call, a making or an end under way.
use Rattle.std.specs.Prelude.{◌≡◌, ℕ, Bool, true, false, List, [], Option, Some, None, IsSome, ◌⊎◌, if◌then◌else◌}
use Rattle.std.proofs.Common.{refl, ap, sym, subst, ◌∙◌, inl, inr}
use Rattle.run_schedules.specs.Given.SeizeWordsDeclared.at.At.TheVariants.{Root, Used}
use Rattle.run_schedules.specs.Given.SeizeWordsMem.{Mem, value_at}
use Rattle.run_executor.specs.Given.SeizeWordsWord.{block_in}
use Rattle.seize.specs.declared.rows.reclaim_all.ReclaimAll.{ReclaimAll}
use Rattle.seize.specs.declared.rows.settle.Settled.{Settled}
use Rattle.seize.specs.ReclaimAll.{reclaim_all_plan}
use Rattle.seize.specs.World.{World, Hand, Event, Runs}
use Rattle.run_executor.proofs.Given.SeizeAloneHistories.Reached.{Reached, runs_reached}
use Rattle.papaya_raw.specs.Given.TablesNodes.{deferred_word, was_left}
use Rattle.papaya_raw.specs.Given.TablesDeclared.node.Node.{Node}
use Rattle.run_schedules.specs.declared.effect.Effect.{Effect}
use Rattle.run_schedules.specs.Schedules.Effects.{with_effects, AtEachEffect}
use Rattle.run_schedules.specs.Schedules.Moment.{Moment}
use Rattle.run_executor.specs.Given.EffectsDeclared.changed.Changed.{Changed}
use Rattle.run_executor.specs.Given.EffectsDeclared.changed.Changed.TheVariants as changed
use Rattle.run_executor.proofs.Given.CallersTogether.Came.{came_reached}
use Rattle.run_executor.specs.Given.EffectsEffects.{led_to, linked_on, named, names_same, effects_of, known_after}
use Rattle.run_executor.specs.Given.EffectsKnown.{Known}
use Rattle.run_executor.specs.Given.EffectsDeclared.acting.Acting.TheVariants.{Row}
use Rattle.run_executor.specs.Given.EffectsDeclared.role.Role.{Role}
use Rattle.run_executor.specs.Given.EffectsDeclared.role.Role.TheVariants as role
use Rattle.run_executor.specs.Given.CallersTogether.{UnderWay}
use Rattle.run_executor.specs.Given.FinishesFactsEnds.{TakesLeft, WritesRoot, events_of}
use Rattle.run_executor.specs.Given.FinishesMaps.{Standing}
use Rattle.run_executor.specs.Given.ReclaimsSlots.{AreItsRows}
use Rattle.run_executor.specs.Given.ScenesReclaiming.{IsReclaiming, ReclaimingLeads}
use Rattle.run_executor.proofs.Given.ScenesMay.{may_reclaim}
use Rattle.run_executor.proofs.Given.FollowsOperations.{StaysThere, LeavesBy, operated, operated_leaves}
use Rattle.run_executor.proofs.Given.FollowsWrites.{nothing_free}
use Rattle.run_executor.specs.Given.FollowsBlocks.{WasLinked}
use Rattle.run_executor.specs.Given.HandsHands.{IsInUse}
use Rattle.run_executor.specs.Given.OthersGone.{WasRetired}
use Rattle.run_executor.proofs.Given.OthersRowPlans.{TellsRow}
use Rattle.run_executor.proofs.Given.OthersRows.{row_leads}
use Rattle.run_executor.proofs.Given.OthersStays.{StaysBlock, same_there}
use Rattle.run_executor.specs.Given.SpotsOnSlots.{WaitUnreclaimed}
use Rattle.run_executor.proofs.Given.SpotsDeferred.{effects_leave_outside}
use Rattle.run_executor.proofs.Given.SpotsOnSlots.{row_beside, blocks_done}
use Rattle.run_executor.proofs.Given.SpotsStays.{places_stay}
use Rattle.run_executor.specs.Given.MomentsOnSlots.{HadRetired}
use Rattle.run_executor.specs.Given.MomentsWhole.{RefinesWhole}
use Rattle.run_executor.proofs.Given.MomentsBeside.{IsBeside, hands_beside}
use Rattle.run_executor.proofs.Given.MomentsOnSlots.{stood_same, with_outside, was_retired, row_alone, row_keeps}
use Rattle.run_kept.proofs.Sheds.Reclaiming.Rows.{KeptThere, rows_kept, left_kept, root_kept, EmptiesRoot, reclaiming_tells}
use Rattle.run_executor.specs.Given.ScenesHeld.{Held}
use Rattle.run_executor.specs.Given.ScenesScene.{Scene}

module _ {K V : Type 0} (same : K → K → Bool) (hash : ℕ → K → ℕ) (name : ℕ → List ℕ) (m : Moment K V) (known : Known) (s : Scene K V) (whole : RefinesWhole same name m known s)
    (old new : Held K V) (i : ℕ) (lists : ℕ → List ℕ) (before after : ReclaimAll) (told : Settled (Node K V)) (at : IsReclaiming same hash old s i lists before)
    (leads : ReclaimingLeads same hash s i lists old new before after told) where
  abbrev w : World (Node K V)
  w = s.world

  abbrev w2 : World (Node K V)
  w2 = leads.1.w2

  abbrev maps2 : ℕ → Option (Standing K)
  maps2 = leads.1.maps2

  abbrev s2 : Scene K V
  s2 = record s { world = leads.1.w2; maps = leads.1.maps2 }

  pub reached : Reached deferred_word old.batch_size w
  reached = came_reached old.batch_size w at.under_way.stand.together.makings.standing.came

  abbrev RunsBy : List (Event (Node K V)) → Type 0
  RunsBy events = Runs deferred_word old.batch_size events w w2

  -- what is there is as it was, in the same hands
  pub kept : KeptThere w w2
  kept = by leads.1.its
    where
      by : AreItsRows i leads.1.events ⊎ (((b : ℕ) × (leads.1.events ≡ events_of i (TakesLeft b)))
          ⊎ ((root : ℕ) × ((leads.1.events ≡ events_of i (WritesRoot (Root root) 0)) ⊎ (leads.1.events ≡ events_of i (WritesRoot (Used root) 0))))) → KeptThere w w2
      by (inl rows) = rows_kept old.batch_size i leads.1.events rows w w2 reached leads.1.runs
      by (inr (inl (b, is))) = left_kept old.batch_size i b w w2 (runs_reached deferred_word old.batch_size leads.1.events w w2 reached leads.1.runs) (subst RunsBy is leads.1.runs)
      by (inr (inr (root, inl is))) = root_kept old.batch_size i (Root root) 0 w w2 (subst RunsBy is leads.1.runs)
      by (inr (inr (root, inr is))) = root_kept old.batch_size i (Used root) 0 w w2 (subst RunsBy is leads.1.runs)

  pub left : LeavesBy w.memory w2.memory new.changed
  left =
      subst (λ (n : Mem (Node K V)). LeavesBy w.memory n new.changed) (sym leads.1.memory)
      (subst (λ (n : Mem (Node K V)). LeavesBy n new.memory new.changed) (sym at.memory)
      (operated_leaves old.memory new.memory new.changed
      (operated old.memory new.memory new.changed (reclaim_all_plan deferred_word was_left before) (after, told) (may_reclaim same hash old s i lists before at) leads.0)))

  stays : (b : ℕ) → StaysThere w.memory w2.memory b → StaysBlock w w2 b
  stays b there = by (value_at w.memory b) refl
    where
      by : (o : Option (Node K V)) → value_at w.memory b ≡ o → StaysBlock w w2 b
      by None f = record { value = there.gone f ∙ sym f; linked = λ value is linked. absurd (cc (f, is)) }
      by (Some value) f =
          let k = kept b (subst (λ (o : Option (Node K V)). IsSome o) (sym (there.there value f).1) refl) in
          record { value = k.0; linked = λ x is linked. subst (λ (h : Hand). WasLinked h) (sym k.1) linked }

  -- nobody has a call
  pub no_call : (map j : ℕ) (u : UnderWay K V K) → s.calls map j ≡ Some u → ⊥
  no_call map j u here = (let none = at.under_way.stand.no_calls map j in cc (none, here))

  -- where it tells what a step of a row does
  module _ (x : Changed) (tells : TellsRow x) (l : LeavesBy w.memory w2.memory x) where
    abbrev then_at : Moment K V
    then_at = with_effects None None (effects_of Row known x) m

    abbrev then_known : Known
    then_known = known_after Row x known

    beside : IsBeside m then_at known then_known s s2
    beside =
        let a = row_alone m known x tells in
        let k = row_keeps known w2 w x tells l in
        record {
          stored = a.stored;
          born = a.born;
          calls = a.calls;
          maps = a.maps;
          place = a.place;
          back = λ b of. inl (k.0 b of);
          roles = k.1;
          hands = λ b some used. subst IsInUse (sym (kept b some).1) used;
          same_calls = refl;
          stood = λ map st is. inl (stood_same (s.maps map) (maps2 map) (leads.1.as_they_were map) st is);
        }

    row_whole : AtEachEffect HadRetired None None (effects_of Row known x) m → AtEachEffect WaitUnreclaimed None None (effects_of Row known x) m → RefinesWhole same name then_at then_known s2
    row_whole retired unreclaimed =
        let finds = row_beside m known x tells in
        let shown = row_leads same name m known s whole.all.shown w2 maps2 leads.1.as_they_were stays
        (λ n st e. (at.under_way.stand.together.makings.standing.each n st e).ground.map) (λ n st e. (leads.1.next.stand.together.makings.standing.each n st e).ground.map)
        x tells l (with_outside None None HadRetired WasRetired was_retired (effects_of Row known x) m finds.0.1 whole.outside retired) in
        record {
          all = record {
            shown = shown.shows;
            asked = record { apart = λ n j k o a b is other names. absurd (no_call n j a is); each = λ map j u here st there c found. absurd (no_call map j u here) };
            hands = hands_beside same name m then_at known then_known s s2 whole.all.shown shown beside whole.all.hands;
            rows = record { none = λ map j u here. absurd (no_call map j u here); one = λ map j u here. absurd (no_call map j u here) };
          };
          places = places_stay None None (effects_of Row known x) m known then_known s.maps maps2 finds.0.0 finds.1 leads.1.as_they_were whole.places;
          blocks = blocks_done K V same hash name m known s whole.all.shown whole.blocks x tells unreclaimed;
          outside = effects_leave_outside K V None None (effects_of Row known x) m finds.0.1 whole.outside;
          counters = λ j b makes. absurd (let none = at.under_way.stand.no_makers j in cc (none, makes));
        }

  -- A root that is emptied is nothing to pairs and tables.
  pub root_none : (q : Bool) (was is : Role) (b : ℕ) → is ≡ role.Free → ((if q then [] else led_to Row was is) ≡ []) × ((if q then known else linked_on Row b is known) ≡ known)
  root_none true was is b free = (refl, refl)
  root_none false was is b free = (ap (led_to Row was) free, ap (λ (r : Role). linked_on Row b r known) free)

  pub nothing_there : (word : ℕ) → word ≡ 0 → named known word ≡ role.Free
  nothing_there word is = ap (λ (x : ℕ). known.roles (block_in x)) is ∙ nothing_free w m.stored known whole.all.shown.blocks.roles

  idle_whole : ((b : ℕ) → value_at w2.memory b ≡ value_at w.memory b) → RefinesWhole same name m known s2
  idle_whole same_values = row_whole changed.Nothing tt (same_there w.memory w2.memory same_values) tt tt

  root_whole : (x : Changed) → EmptiesRoot x → LeavesBy w.memory w2.memory x → RefinesWhole same name (with_effects None None (effects_of Row known x) m) (known_after Row x known) s2
  root_whole (changed.Wrote (Root r) was is) empty l =
      let none = root_none (names_same was is) (named known was) (named known is) (block_in is) (nothing_there is empty) in
      subst (λ (effects : List Effect). RefinesWhole same name (with_effects None None effects m) (if names_same was is then known else linked_on Row (block_in is) (named known is) known) s2) (sym none.0)
      (subst (λ (k : Known). RefinesWhole same name m k s2) (sym none.1) (idle_whole l.2))
  root_whole (changed.Wrote (Used r) was is) empty l = idle_whole l.2
  root_whole _ empty l = absurd empty

  abbrev effects : List Effect
  effects = effects_of Row known new.changed

  pub reclaiming_whole : AtEachEffect HadRetired None None effects m → AtEachEffect WaitUnreclaimed None None effects m
      → RefinesWhole same name (with_effects None None effects m) (known_after Row new.changed known) s2
  reclaiming_whole retired unreclaimed =
      elim (reclaiming_tells old.memory new.memory new.changed before before.stands (after, told) leads.0)
      as (λ _. RefinesWhole same name (with_effects None None effects m) (known_after Row new.changed known) s2) [
        | inl tells ↦ row_whole new.changed tells left retired unreclaimed
        | inr empties ↦ root_whole new.changed empties left
      ]

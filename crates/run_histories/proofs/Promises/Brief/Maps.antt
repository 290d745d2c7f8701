-- A step of a call, whoever's, leaves the tables that maps have had as long as they were.
use Rattle.std.specs.Prelude.{◌≡◌, ℕ, Bool, Option, Some, None}
use Rattle.std.proofs.Common.{refl, ap, sym, subst, ◌∙◌, inl, inr}
use Rattle.std.proofs.lemmas.Bool.{cases_eq}
use Rattle.run_places.specs.Given.SeizeWorld.{World, with_at, IsInside}
use Rattle.run_places.specs.Given.TablesDeclared.node.Node.{Node}
use Rattle.run_places.specs.Given.RawDeclared.machines.progress.Progress.{Progress}
use Rattle.run_places.specs.Given.RuleChart.{Chart}
use Rattle.run_places.specs.Given.RuleInWorld.{IsMapIn, StepSpec}
use Rattle.run_places.specs.Given.RuleWords.{Blocks}
use Rattle.run_places.proofs.Given.PointsMovedLasts.{moved_lasts}
use Rattle.run_places.specs.Given.CallersSights.{Visible, seen_by}
use Rattle.run_places.specs.Given.CallersTogether.{UnderWay, OnKey, ForRoom, Counting, OverAll, Together, in_slot}
use Rattle.run_places.proofs.Given.CallersSights.Seen.{map_seen}
use Rattle.run_places.proofs.Given.CallersTogether.At.{at_same}
use Rattle.run_places.proofs.Given.CallersTogether.Fits.{map_in_slot}
use Rattle.run_places.specs.Given.FinishesMachines.{DidOfKind}
use Rattle.run_places.specs.Given.FinishesMaps.{Standing, IsSameMap}
use Rattle.run_histories.specs.Promises.Brief.{TablesLast}
use Rattle.run_histories.specs.Promises.Reading.{HasStood}
use Rattle.run_histories.proofs.Promises.Brief.Stays.{same_tables}
use Rattle.run_places.specs.Given.ScenesHeld.{Held, IsAt}
use Rattle.run_places.specs.Given.ScenesScene.{Scene, slot_of}
use Rattle.run_places.specs.Given.ScenesStepping.{StepLeads}
use Rattle.run_places.proofs.Given.General.{same_some as one_of}

-- a map that is as it was
pub same_stood : {K : Type 0} (maps : ℕ → Option (Standing K)) (n : ℕ) (after : Option (Standing K)) → IsSameMap (maps n) after → (st : Standing K) → after ≡ Some st → HasStood maps n st
same_stood {K} maps n after kept st is = by (maps n) refl kept
  where
    by : (o : Option (Standing K)) → maps n ≡ o → IsSameMap o after → HasStood maps n st
    by None e none = absurd (cc (none, is))
    by (Some before) e (blocks, sights, here, part) =
        let one : st ≡ record before { blocks = blocks; sights = sights } = one_of st (record before { blocks = blocks; sights = sights }) (sym is ∙ here) in (
          before,
          e,
          ap (λ (x : Standing K). x.setting) one,
          subst (λ (x : Chart K). TablesLast before.chart x) (sym (ap (λ (x : Standing K). x.chart) one)) (same_tables before.chart),
        )

module _ {K V : Type 0} (same : K → K → Bool) (hash : ℕ → K → ℕ) (s : Scene K V) (old new : Held K V) (at_old : IsAt same hash old s) (map i : ℕ) (u : UnderWay K V K)
    (here : s.calls map i ≡ Some u) (said : Progress (Node K V)) (leads : StepLeads same hash i said s old new) where
  abbrev st : Standing K
  st = (leads map u here).0

  stand : Together V same st.hash same st.setting slot_of s.world st.chart st.blocks st.sights (s.calls map)
  stand = at_old.together.makings.standing.each map st (leads map u here).2

  is_map : IsInside (s.world.uses (slot_of i)) → IsMapIn same st.hash (in_slot st.setting (slot_of i)) s.world st.chart (seen_by st.blocks (st.sights (slot_of i)))
  is_map inside =
      map_seen same st.hash (in_slot st.setting (slot_of i)) s.world st.chart st.blocks (st.sights (slot_of i))
      (map_in_slot same st.hash st.setting s.world st.chart st.blocks (slot_of i) stand.ground.map) (stand.ground.sight (slot_of i) inside).0

  went_last : IsInside (s.world.uses (slot_of i)) → (Told : World (Node K V) → Chart K → Blocks → Type 0)
      (went : StepSpec same st.hash (in_slot st.setting (slot_of i)) i s.world st.chart (seen_by st.blocks (st.sights (slot_of i))) new.memory Told) → TablesLast st.chart went.c2
  went_last inside Told went =
      let lasts = moved_lasts same st.hash (in_slot st.setting (slot_of i)) (at_old.together.makings.standing.fit map st (leads map u here).2).0.lawful s.world st.chart went.c2
      (seen_by st.blocks (st.sights (slot_of i))) (is_map inside) went.moved in
      record { past = lasts.past; limits = λ t l. (lasts.lens t l).1 }

  moved_on : (c2 : Chart K) (blocks2 : Blocks) (sights2 : ℕ → Visible)
      → (leads map u here).4.maps2 ≡ with_at s.maps map (Some (record st { chart = c2; blocks = blocks2; sights = sights2 }))
      → TablesLast st.chart c2 → (n : ℕ) → n ≡ map → (after : Standing K) → (leads map u here).4.maps2 n ≡ Some after → HasStood s.maps n after
  moved_on c2 blocks2 sights2 maps_are last n e after is =
      let one : after ≡ record st { chart = c2; blocks = blocks2; sights = sights2 } =
      one_of after (record st { chart = c2; blocks = blocks2; sights = sights2 })
      (sym is ∙ ap (λ (f : ℕ → Option (Standing K)). f n) maps_are ∙ at_same s.maps map (Some (record st { chart = c2; blocks = blocks2; sights = sights2 })) n e) in (
        st,
        ap s.maps e ∙ (leads map u here).2,
        ap (λ (x : Standing K). x.setting) one,
        subst (λ (x : Chart K). TablesLast st.chart x) (sym (ap (λ (x : Standing K). x.chart) one)) last,
      )

  abbrev DidSo : UnderWay K V K → Type 0
  DidSo x =
      DidOfKind V same same old.batch_size old.roots slot_of s.world s.maps s.calls s.makers s.enders map st i new.memory (leads map u here).4.w2 (leads map u here).4.maps2
      (leads map u here).4.next x (leads map u here).1 said

  its : (n : ℕ) → n ≡ map → (after : Standing K) → (leads map u here).4.maps2 n ≡ Some after → (x : UnderWay K V K) → DidSo x → HasStood s.maps n after
  its n e after is (OnKey x) (p2, end, machine_is, told_is, inl (step, moved)) = moved_on step.step.went.c2 step.step.blocks2 step.step.sights2 moved.1 (went_last step.step.inside _ step.step.went) n e after is
  its n e after is (OnKey x) (p2, end, machine_is, told_is, inr (row, stayed)) = same_stood s.maps n _ (stayed.1 n) after is
  its n e after is (ForRoom x) (p2, end, machine_is, told_is, inl (step, moved)) = moved_on step.step.went.c2 step.step.blocks2 step.step.sights2 moved.1 (went_last step.step.inside _ step.step.went) n e after is
  its n e after is (ForRoom x) (p2, end, machine_is, told_is, inr (row, stayed)) = same_stood s.maps n _ (stayed.1 n) after is
  its n e after is (Counting x) (sum2, end, machine_is, told_is, still, stayed) = same_stood s.maps n _ (stayed.1 n) after is
  its n e after is (OverAll x) (p2, end, machine_is, told_is, inl (step, moved)) = moved_on step.step.went.c2 step.step.blocks2 step.step.sights2 moved.1 (went_last step.step.inside _ step.step.went) n e after is
  its n e after is (OverAll x) (p2, end, machine_is, told_is, inr (row, stayed)) = same_stood s.maps n _ (stayed.1 n) after is

  pub maps_stood : (n : ℕ) (after : Standing K) → (leads map u here).4.maps2 n ≡ Some after → HasStood s.maps n after
  maps_stood n after is = elim (cases_eq n map) as (λ _. HasStood s.maps n after) [
    | inl e ↦ its n e after is u (leads map u here).4.did
    | inr ne ↦ same_stood s.maps n ((leads map u here).4.maps2 n) ((leads map u here).4.others n ne) after is
  ]

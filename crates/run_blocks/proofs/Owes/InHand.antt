-- Wherever a moment shows it, a block for a pair that is not stored is in the hands of the caller whose it is.
use Rattle.std.specs.Prelude.{◌≡◌, ℕ, Bool, List, Some, None}
use Rattle.std.proofs.Common.{refl, ap, sym, subst, ◌∙◌, inl, inr}
use Rattle.run_debts.specs.Given.SeizeWordsMem.{value_at}
use Rattle.run_debts.specs.Given.SeizeWorld.{World}
use Rattle.run_debts.specs.Given.TablesDeclared.node.Node.{Node}
use Rattle.run_debts.specs.Given.SchedulesMoment.{Moment}
use Rattle.owner_calls.specs.Given.CallersSights.{seen_by, IsVisibility}
use Rattle.owner_calls.specs.Given.CallersTogether.{CallOnKey, UnderWay, OnKey, ForRoom, Counting, OverAll, Together}
use Rattle.run_debts.specs.Given.EffectsKnown.{Known}
use Rattle.run_debts.specs.Given.EffectsDeclared.role.Role.{Role}
use Rattle.run_debts.specs.Given.EffectsDeclared.role.Role.TheVariants as role
use Rattle.run_debts.specs.Given.FinishesMaps.{Standing}
use Rattle.run_debts.specs.Given.FollowsBlocks.{HasRole}
use Rattle.run_debts.specs.Given.FollowsShows.{Refines}
use Rattle.run_blocks.specs.Owes.Made.{IsItsBlock, RefinesMade}
use Rattle.run_blocks.proofs.Owes.Held.{IsInHand, stands_held}
use Rattle.run_debts.proofs.Given.ScenesMay.{standing_is}
use Rattle.run_debts.specs.Given.ScenesHeld.{Held, IsAt}
use Rattle.run_debts.specs.Given.ScenesScene.{Scene, slot_of}

-- a block that is not there is free
pub free_there : {K V : Type 0} (w : World (Node K V)) (stored : List (K × V)) (known : Known) → ((b : ℕ) → HasRole w stored b (known.roles b)) → (b : ℕ) → value_at w.memory b ≡ None → known.roles b ≡ role.Free
free_there {K} {V} w stored known roles b none = by (known.roles b) refl (roles b)
  where
    by : (r : Role) → known.roles b ≡ r → HasRole w stored b r → known.roles b ≡ role.Free
    by role.Free e has = e
    by (role.OwnPair i) e has = absurd (let some = has.1 in cc (some, none))
    by (role.OwnTable turn shape) e has = absurd (let some = has.1 in cc (some, none))
    by (role.Pair n) e has = absurd (let some = has.3 in cc (some, none))
    by (role.Table t len) e has = absurd (let some = has.1 in cc (some, none))
    by (role.Counter map) e has = absurd (cc (has, none))

module _ {K V : Type 0} (same : K → K → Bool) (hash : ℕ → K → ℕ) (name : ℕ → List ℕ) (m : Moment K V) (known : Known) (s : Scene K V) (e : Held K V) (at : IsAt same hash e s)
    (shown : Refines same name m known s) (made : RefinesMade name m known s) where
  -- of a call on one key
  module _ (map j : ℕ) (u : CallOnKey K V K) (here : s.calls map j ≡ Some (OnKey u)) where
    abbrev st : Standing K
    st = (standing_is same hash e s at map j (OnKey u) here).0

    there : s.maps map ≡ Some st
    there = (standing_is same hash e s at map j (OnKey u) here).1

    each : Together V same st.hash same st.setting slot_of s.world st.chart st.blocks st.sights (s.calls map)
    each = at.together.makings.standing.each map st there

    sight : IsVisibility st.chart st.blocks (st.sights (slot_of j))
    sight = (each.ground.sight (slot_of j) (each.inside j (OnKey u) here)).0

    key_in_hand : (b : ℕ) → IsItsBlock known j b → IsInHand s.world j b
    key_in_hand b is =
        let its = made.named map j (OnKey u) here in
        let names = its.1 b is in
        elim (stands_held same st.hash st.setting slot_of s.world st.chart (seen_by st.blocks (st.sights (slot_of j))) j u (at.together.makings.standing.fit map st there).0 known (shown.number map)
        (λ n l seen. (shown.maps map st there).pairs.roles n l (sight.pairs n l seen)) (λ n l seen. (each.ground.map.map.shows.pair_numbers n l (sight.pairs n l seen)).0)
        its.0 names.0 (each.stand j (OnKey u) here)) as (λ _. IsInHand s.world j b) [
          | inl held ↦ subst (IsInHand s.world j) (sym names.1) held
          | inr pair ↦ absurd (let r : role.Pair pair.0 ≡ role.OwnPair j = sym pair.1 ∙ ap known.roles (sym names.1) ∙ is in cc r)
        ]

  pub in_hand : (j b : ℕ) → IsItsBlock known j b → IsInHand s.world j b
  in_hand j b is = by (made.whose j b is)
    where
      by : ((map : ℕ) × (u : UnderWay K V K) × (s.calls map j ≡ Some u)) → IsInHand s.world j b
      by (map, OnKey u, here) = key_in_hand map j u here b is
      by (map, ForRoom r, here) = absurd (((made.named map j (ForRoom r) here).1 b is).0 refl)
      by (map, Counting sum, here) = absurd (((made.named map j (Counting sum) here).1 b is).0 refl)
      by (map, OverAll o, here) = absurd (((made.named map j (OverAll o) here).1 b is).0 refl)

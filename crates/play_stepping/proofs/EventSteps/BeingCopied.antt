-- A pair of a map that stands in the root, while a table is linked behind that, is the one that the finite map has of its key, and may be being copied, as the moment tells.
use Rattle.std.specs.Prelude.{Option, Some, None}
use Rattle.std.proofs.Common.{◌≡◌, ℕ, suc, ◌≤◌, ◌<◌, Bool, true, refl, ap, sym, ◌∙◌, arith}
use Rattle.seize.specs.World.{World}
use Rattle.papaya_raw.specs.Given.TablesDeclared.node.Node.{Node}
use Rattle.play_scheduler.specs.Given.RuleChart.{Chart, Copying, Holds}
use Rattle.play_scheduler.proofs.Given.RuleLaws.{current_is_known}
use Rattle.owner_whole.specs.Given.PointsSteps.{AreLawful}
use Rattle.owner_whole.specs.Given.CallersTogether.{Together}
use Rattle.run_schedules.specs.Schedules.Moment.{Moment}
use Rattle.run_schedules.specs.Schedules.Terms.{Terms}
use Rattle.run_schedules.specs.Schedules.Views.{finite_map, first_of}
use Rattle.run_schedules.specs.Schedules.Waiting.{is_to_be_copied}
use Rattle.run_executor.specs.Given.EffectsKnown.{known}
use Rattle.owner_whole.specs.Given.FinishesMaps.{Standing}
use Rattle.play_scheduler.specs.Given.FollowsMaps.{RefinesPairs}
use Rattle.run_executor.specs.Given.ChangesHad.{Had, HadJust}
use Rattle.run_executor.proofs.Given.ChangesNow.{now_had}
use Rattle.play_scheduler.specs.Played.{RefinesFor}
use Rattle.play_scheduler.specs.declared.scheduler.Scheduler.{Scheduler}
use Rattle.play_stepping.proofs.EventSteps.Waiting.{chain_longer, first_as}
use Rattle.play_scheduler.specs.Given.ScenesScene.{slot_of}
use Rattle.seize_words.proofs.General.{at_most_true as upto, and_true as both_true}

module _ {K V S : Type 0} (same : K → K → Bool) (hash : K → ℕ) (terms : Terms) (m : Moment K V) (p : Scheduler K V S) (stands : RefinesFor same hash terms m p) (of : ℕ)
    (st : Standing K) (is : stands.scene.maps of ≡ Some st) where
  abbrev w : World (Node K V)
  w = stands.scene.world

  abbrev c : Chart K
  c = st.chart

  -- the numbers of its pairs
  abbrev number : ℕ → ℕ
  number = stands.shown.shows.all.shown.number of

  pairs : RefinesPairs of number st m (known p.logged.notes)
  pairs = (stands.shown.shows.all.shown.maps of st is).pairs

  lawful : AreLawful same st.hash
  lawful = (stands.shown.is_at.held.together.makings.standing.fit of st is).0

  together : Together V same st.hash same st.setting slot_of w c st.blocks st.sights (stands.scene.calls of)
  together = stands.shown.is_at.held.together.makings.standing.each of st is

  module _ (k : K) (n i : ℕ) (borrowed : Bool) (held : c.place c.first i ≡ Holds n Copying borrowed) (current : c.current n ≡ true)
      (key : K) (key_is : c.key n ≡ Some key) (asked : same k key ≡ true) where
    -- it may be looked at, and its key has it now, and no other pair
    there : (n < c.stored) × (st.blocks.pair_known n ≡ true)
    there = current_is_known same st.hash st.setting w.memory c st.blocks together.ground.map.map.rule together.ground.map.map.shows n current

    had : Had same st number c.now k n
    had = (there.0, together.ground.moments.now_is n ∙ current, key, key_is, asked)

    found : finite_map same of m k ≡ Some (number n)
    found = by (finite_map same of m k)
        (now_had same of number st m (known p.logged.notes) w (stands.scene.calls of) lawful together pairs stands.shown.shows.all.shown.blocks k).just
      where
        by : (o : Option ℕ) → HadJust same st number c.now k o → o ≡ Some (number n)
        by None none = absurd (none n had)
        by (Some q) (x, was, is_q, just) = ap (λ (y : ℕ). Some y) (sym is_q ∙ ap number (sym (just n had)))

    -- it came into the map in the root's table or before
    born_before : (m.born (number n)).turn ≤ c.first
    born_before = (stands.shown.shows.places.each of st is).born n (number n) c.first i borrowed (there.0, there.1, pairs.roles n there.0 there.1) (rw held refl)

    pub may_be_copied : suc c.first < c.past → is_to_be_copied of m (finite_map same of m k) ≡ true
    may_be_copied linked =
        ap (is_to_be_copied of m) found
        ∙ both_true _ _ (chain_longer same hash terms m p stands of st is linked)
        (upto (m.born (number n)).turn (first_of of m) (let before = born_before in let first = first_as same hash terms m p stands of st is in omega (arith, before, first)))

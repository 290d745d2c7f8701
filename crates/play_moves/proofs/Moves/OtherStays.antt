-- Wherever a list of acts has led whose maps are made with places that capacities ask for, each entry of who acts on slots, makes a map, or reclaims all finds what it must, where all is in order as it comes.
use Rattle.std.specs.Prelude.{◌≡◌, ℕ, Bool, List, [], ◌∷◌, Option, None}
use Rattle.std.specs.List.{AllByRecursion}
use Rattle.std.proofs.Common.{refl, sym, subst}
use Rattle.seize_acts.specs.Given.SeizeDeclared.rows.reclaim_all.ReclaimAll.{ReclaimAll}
use Rattle.run_schedules.specs.Schedules.Moment.{Moment, UnderWay}
use Rattle.run_schedules.specs.Schedules.Terms.{Terms}
use Rattle.run_legal.specs.Given.EffectsDeclared.changed.Changed.TheVariants.{Nothing as NoChange}
use Rattle.run_legal.specs.Given.EffectsEffects.{effects_of}
use Rattle.run_legal.specs.Given.EffectsDeclared.acting.Acting.TheVariants as acts
use Rattle.run_legal.specs.Given.ScenesScene.{Scene}
use Rattle.threads_rule.specs.Given.ActsActs.{Act}
use Rattle.play_linear.specs.Given.AgreesFresh.{HasNewNumber}
use Rattle.run_schedules.specs.Deeds.Deeds.{ReclaimsAll, moment, named}
use Rattle.play_linear.specs.Given.PlayedPlay.{State, is_over, is_refusal, settled_outcome}
use Rattle.play_linear.specs.Given.PlayedReached.{IsOf, rows_beside}
use Rattle.play_linear.proofs.Given.PlayedAlong.{At, StaysSo, held, lists_at}
use Rattle.play_linear.proofs.Given.PlayedPlayedAs.{played_as, reclaimed_as}
use Rattle.play_linear.proofs.Linear.Stays.{all_tied, change}
use Rattle.play_moves.specs.Moves.Order.{AreUnderWay, IsUnderWay}
use Rattle.play_moves.proofs.Moves.AllFinds.{all_find}
use Rattle.play_moves.proofs.EachMoves.BehindFound.{behind_found}
use Rattle.play_moves.proofs.EachMoves.Buckets.{BucketsHold}
use Rattle.play_moves.proofs.Moves.BucketsStay.{buckets_hold}
use Rattle.play_moves.proofs.Moves.MapsHad.{MapsAreHad, acts_had, all_stand, reclaiming_had}
use Rattle.play_moves.proofs.Moves.OtherActs.{AllFind, acts_find, rows_its}
use Rattle.play_moves.proofs.Moves.StepsStay.{Asks, WithOrder, order_stays}

-- while nobody has a call none is under way by the history
module _ {K V : Type 0} (m : Moment K V) (s : Scene K V) (none : (map i : ℕ) → s.calls map i ≡ None) where
  none_under_way : AreUnderWay m s → m.calls ≡ []
  none_under_way all = by m.calls all
    where
      by : (cs : List (UnderWay K V)) → AllByRecursion (IsUnderWay s) cs → cs ≡ []
      by [] under = refl
      by (c ∷ cs) under = absurd (let its = under.0 in let gone = none c.map its.0 in let there = its.2.1 in cc (gone, there))

module _ {K S : Type 0} (V : Type 0) (same : K → K → Bool) (by_hasher : S → K → ℕ) (hash : ℕ → K → ℕ) (batch_size roots : ℕ) (aborts : ℕ → V) (terms : Terms) where
  abbrev Fits : State K V S → Act K V S → Type 0
  Fits x act = HasNewNumber x act × Asks V same by_hasher hash batch_size roots aborts terms x act

  -- what is so beside
  abbrev pub OthersStand : At V same by_hasher hash batch_size roots → State K V S → Type 0
  OthersStand p x = WithOrder V same by_hasher hash batch_size roots aborts terms p x × (BucketsHold x × MapsAreHad x × AllFind terms x)

  pub others_stay : StaysSo V same by_hasher hash batch_size roots aborts Fits OthersStand
  others_stay = record {
    acts = λ p n x y act told own fits none none_then is is_then at may led leads at_then played here.
        (let of : IsOf by_hasher p.0 p.0.world.row x.now = subst (λ (o : Option (ℕ × ReclaimAll)). IsOf by_hasher p.0 (rows_beside o p.0.world.row) x.now) none is.scene in
        let as_played = played_as same by_hasher batch_size roots aborts x y act played in
        let all = here.0.0 in
        let moves = here.0.1.0.0 in
        let opens = here.0.1.0.1.0.1 in (
          order.acts p n x y act told own fits none none_then is is_then at may led leads at_then played here.0,
          (
            slots.acts p n x y act told own fits none none_then is is_then at may led leads at_then played here.1.0,
            acts_had same by_hasher batch_size roots aborts x y p.0 n.0 of all.maps here.1.1 act may as_played,
            acts_find same by_hasher hash batch_size roots aborts x y p.0 n.0 of at all moves.1.0 here.1.0 opens told terms here.1.2 act as_played may led leads,
          ),
        ));
    begins = λ p n x i c none begun same_scene all_free is is_then at here. (
      order.begins p n x i c none begun same_scene all_free is is_then at here.0,
      (slots.begins p n x i c none begun same_scene all_free is is_then at here.1.0, here.1.1, here.1.2),
    );
    chooses = λ p n x choice none none_then scene is is_then at here. (
      order.chooses p n x choice none none_then scene is is_then at here.0,
      (slots.chooses p n x choice none none_then scene is is_then at here.1.0, here.1.1, here.1.2),
    );
    steps = λ p n x y told g st is is_then at leads scene played here.
        (let it = reclaimed_as same by_hasher batch_size roots aborts x y g played in
        let y_is = all_tied V same by_hasher hash batch_size roots aborts p n x y told g st is it in
        let old = held V same by_hasher hash batch_size roots NoChange p in
        let new = held V same by_hasher hash batch_size roots (change V same by_hasher hash batch_size roots aborts p n x y told g st is) n in
        let shows = here.0.0.holds.shows in
        let lists = lists_at V same by_hasher hash batch_size roots p in
        let idle = at.under_way.stand in (
          order.steps p n x y told g st is is_then at leads scene played here.0,
          (
            slots.steps p n x y told g st is is_then at leads scene played here.1.0,
            reclaiming_had same by_hasher batch_size roots aborts x y here.1.1 g it,
            subst (AllFind terms) (sym y_is) (
              λ others in_order.
                  (let none = none_under_way (moment x.history) p.0 idle.no_calls here.0.1.1.under_way in
                  rows_its terms x.history (ReclaimsAll (is_over st.end)) tt (settled_outcome st.end) (effects_of acts.Row x.known new.changed) (is_refusal new.changed)
                  (all_find same hash x p.0 old new shows st.caller lists st.machine st.next st.end at leads in_order.waits.placed none
                  (behind_found same hash named (moment x.history) x.known p.0 shows.whole shows.kept old st.caller lists st.machine at in_order none
                  (all_stand V same by_hasher hash batch_size roots aborts x p.0 _ is.scene idle.no_makers idle.no_enders here.1.1)) terms)),
              here.1.2,
            ),
          ),
        ));
  }
    where
      order : StaysSo V same by_hasher hash batch_size roots aborts Fits (WithOrder V same by_hasher hash batch_size roots aborts terms)
      order = order_stays V same by_hasher hash batch_size roots aborts terms

      slots : StaysSo V same by_hasher hash batch_size roots aborts Fits (λ p x. BucketsHold x)
      slots = buckets_hold V same by_hasher hash batch_size roots aborts Fits

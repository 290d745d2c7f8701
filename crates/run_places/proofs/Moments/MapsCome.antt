-- Where the making of a map begins, and where its map is there by its number, the moment shows all of the scene.
use Rattle.std.specs.Prelude.{◌≡◌, ℕ, ◌≤◌, ◌==◌, Bool, true, false, cond, List, [], ◌∷◌, find, Option, Some, None}
use Rattle.std.specs.Option.{option_or}
use Rattle.std.proofs.Common.{refl, ap, sym, subst, ◌∙◌}
use Rattle.std.proofs.lemmas.Bool.{eqb-true}
use Rattle.std.proofs.lemmas.List.Folds.{find-append}
use Rattle.run_shows.specs.Given.RunsSame.{is_same}
use Rattle.run_shows.specs.Given.RunsDeclared.effect.TableId.{TableId}
use Rattle.run_shows.specs.Given.SchedulesBeginning.{with_map}
use Rattle.run_shows.specs.Given.SchedulesMoment.{UnderWay as CallThere, MapThere, Moment}
use Rattle.run_shows.specs.Given.SchedulesViews.{map_at}
use Rattle.run_shows.specs.Given.EffectsKnown.{Known}
use Rattle.run_shows.specs.Given.EffectsDeclared.role.Role.TheVariants as role
use Rattle.run_shows.specs.Follows.Shows.{Refines}
use Rattle.run_places.specs.Hands.Asked.{IsAsked, RefinesAsked}
use Rattle.run_places.specs.Hands.Hands.{IsInUse}
use Rattle.run_shows.specs.Others.After.{RefinesAfter}
use Rattle.run_shows.proofs.Others.Counters.{beginnings_note_counters}
use Rattle.run_shows.proofs.Others.MakeBegins.{maps_are_there}
use Rattle.run_places.specs.Moments.Makings.{MakingsBeginWhole, MapsComeWhole}
use Rattle.run_places.proofs.Moments.Makings.{none_of_it}
use Rattle.run_shows.specs.Scenes.Scene.{Scene}

module _ {K V : Type 0} (same : K → K → Bool) (name : ℕ → List ℕ) (m m2 : Moment K V) (known : Known) (s : Scene K V) (shown : Refines same name m known s) where
  -- what calls were asked and told stays as it was where they and the maps that stand are so
  pub asked_still : (after : RefinesAfter same name m known s shown m2 known s) → m2.calls ≡ m.calls → RefinesAsked name shown.number m known s → RefinesAsked name after.shows.number m2 known s
  asked_still after calls asked = record {
    apart = asked.apart;
    each = λ map i u here st there c found.
        subst (λ (f : ℕ → ℕ). IsAsked f st.chart.stored known u c) (sym (after.numbers map st there))
        (asked.each map i u here st there c (ap (λ (cs : List (CallThere K V)). find (λ x. is_same x.caller (name i)) cs) (sym calls) ∙ found));
  }

module _ (K V : Type 0) (same : K → K → Bool) where
  pub makings_begin_whole : MakingsBeginWhole K V same
  makings_begin_whole name m known s whole i b none =
      let shown = whole.all.shown in
      let asked = whole.all.asked in
      let hands = whole.all.hands in
      let rows = whole.all.rows in
      record {
        all = record {
          shown = record { blocks = shown.blocks; number = shown.number; maps = shown.maps; calls = shown.calls };
          asked = record { apart = asked.apart; each = asked.each };
          hands = record { pairs = hands.pairs; tables = hands.tables; born = hands.born; stand = hands.stand };
          rows = record { none = rows.none; one = rows.one };
        };
        places = whole.places;
        blocks = whole.blocks;
        outside = whole.outside;
        counters = beginnings_note_counters K V known s whole.counters i b none;
      }

  pub maps_come_whole : MapsComeWhole K V same
  maps_come_whole name m known s whole there no_tables =
      let after = maps_are_there K V same name m known s whole.all.shown there in
      let hands = whole.all.hands in
      let held = whole.blocks in
      record {
        all = record {
          shown = after.shows;
          asked = asked_still same name m (with_map there m) known s whole.all.shown after refl whole.all.asked;
          hands = record { pairs = hands.pairs; tables = used; born = hands.born; stand = hands.stand };
          rows = whole.all.rows;
        };
        places = record {
          each = λ map standing is.
              (let h = whole.places.each map standing is in record { born = h.born; whole = h.whole; lies = h.lies; copied = λ e n k pair current. (let c = h.copied e n k pair current in c) });
          fresh = whole.places.fresh;
        };
        blocks = record { pairs = held.pairs; pairs_there = held.pairs_there; tables = held.tables; tables_there = held.tables_there; tables_once = held.tables_once };
        outside = whole.outside;
        counters = whole.counters;
      }
    where
      -- a table is of a map that was there before
      used : (b len : ℕ) (t : TableId) (x : MapThere) → known.roles b ≡ role.Table t len → map_at t.map (with_map there m) ≡ Some x → x.first ≤ t.turn → IsInUse (s.world.hand b)
      used b len t x is at_map from = by (find test m.maps) refl (test there) refl
        where
          test : MapThere → Bool
          test f = f.number == t.map

          found : option_or (find test m.maps) (cond (test there) (Some there) None) ≡ Some x
          found = sym (find-append test m.maps (there ∷ [])) ∙ at_map

          by : (o : Option MapThere) → find test m.maps ≡ o → (q : Bool) → test there ≡ q → IsInUse (s.world.hand b)
          by (Some y) e q f =
              whole.all.hands.tables b len t x is (e ∙ sym (ap (λ (o : Option MapThere). option_or o (cond (test there) (Some there) None)) e) ∙ found) from
          by None e true f = absurd (none_of_it m known whole.blocks there.number no_tables b len t is (sym (eqb-true there.number t.map f)))
          by None e false f =
              absurd (let none : None ≡ Some x = sym (ap (λ (z : Bool). option_or None (cond z (Some there) None)) f) ∙ sym (ap (λ (o : Option MapThere). option_or o (cond (test there) (Some there) None)) e) ∙ found in cc none)

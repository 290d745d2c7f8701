-- Where the end of a map is over, the moment shows all of the scene.
use Rattle.std.specs.Prelude.{◌≡◌, ℕ, ◌≤◌, ◌==◌, Bool, not, filter, Some}
use Rattle.std.proofs.Common.{refl, ap, sym, ◌∙◌}
use Rattle.std.proofs.lemmas.Bool.{eqb-true}
use Rattle.std.proofs.lemmas.List.Elements.{All-filter}
use Rattle.run_shows.specs.Given.RunsSame.{is_same}
use Rattle.run_shows.specs.Given.RunsDeclared.effect.TableId.{TableId}
use Rattle.run_shows.specs.Given.SchedulesMoment.{MapThere}
use Rattle.run_shows.specs.Given.SchedulesViews.{map_at}
use Rattle.run_shows.specs.Given.EffectsDeclared.role.Role.TheVariants as role
use Rattle.run_places.specs.Hands.Hands.{IsInUse}
use Rattle.run_shows.specs.Others.Endings.{without_map}
use Rattle.run_shows.proofs.Others.EndBegins.{endings_are_over}
use Rattle.run_places.specs.Moments.Endings.{EndingsAreOverWhole}
use Rattle.run_places.proofs.Moments.MapsCome.{asked_still}
use Rattle.run_places.proofs.Moments.Numbers.{found_of}

module _ (K V : Type 0) (same : K → K → Bool) where
  pub endings_are_over_whole : EndingsAreOverWhole K V same
  endings_are_over_whole name m known s whole own remains apart others =
      let after = endings_are_over K V same name m known s whole.all.shown own remains others in
      let hands = whole.all.hands in
      let held = whole.blocks in
      record {
        all = record {
          shown = after.shows;
          asked = asked_still same name m (without_map own remains m) known s whole.all.shown after refl whole.all.asked;
          hands = record { pairs = hands.pairs; tables = used; born = hands.born; stand = hands.stand };
          rows = whole.all.rows;
        };
        places = record {
          each = λ map standing is.
              (let h = whole.places.each map standing is in record { born = h.born; whole = h.whole; lies = h.lies; copied = λ e n k pair current. (let c = h.copied e n k pair current in c) });
          fresh = whole.places.fresh;
        };
        blocks = record { pairs = held.pairs; pairs_there = held.pairs_there; tables = held.tables; tables_there = held.tables_there; tables_once = held.tables_once };
        outside = whole.outside;
        counters = whole.counters;
      }
    where
      -- a map that is there still is the one that was found by its number
      used : (b len : ℕ) (t : TableId) (x : MapThere) → known.roles b ≡ role.Table t len → map_at t.map (without_map own remains m) ≡ Some x → x.first ≤ t.turn → IsInUse (s.world.hand b)
      used b len t x is at_map from =
          let it = found_of (λ there. map_at there.number m ≡ Some there) (λ f. f.number == t.map) (filter (λ f. not (is_same f.name own)) m.maps) x
          (All-filter (λ f. not (is_same f.name own)) (λ there. map_at there.number m ≡ Some there) m.maps apart) at_map in
          whole.all.hands.tables b len t x is (ap (λ n. map_at n m) (sym (eqb-true x.number t.map it.0)) ∙ it.1) from

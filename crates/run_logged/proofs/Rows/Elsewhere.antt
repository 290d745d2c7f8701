-- What is nothing to what is shown: of a moment all but its pairs, maps, tables and calls.
use Rattle.std.specs.Prelude.{◌≡◌, ℕ, Bool, List}
use Rattle.std.proofs.Common.{refl}
use Rattle.run_schedules.specs.Runs.Present.{Present}
use Rattle.run_schedules.specs.Schedules.Moment.{Remains, Sheltered, Moment}
use Rattle.run_shows.specs.Given.FinishesMaps.{Standing}
use Rattle.run_effects.specs.Effects.Known.{Known, known as noted_in}
use Rattle.run_shows.specs.Follows.Maps.{RefinesMap}
use Rattle.run_executor.specs.Given.MomentsWhole.{RefinesWhole}
use Rattle.run_kept.specs.Kept.Kept.{RefinesKept}
use Rattle.run_kept.proofs.Kept.Stays.{stays_kept}
use Rattle.run_kept.proofs.Given.RemainsStays.{stays_remain}
use Rattle.run_logged.specs.Log.Shown.{AreNumbered, IsCounted}
use Rattle.run_logged.specs.declared.logged.Logged.{Logged}
use Rattle.run_shows.specs.Scenes.Scene.{Scene}

-- the moment with other events so far, guards and sections, and with other remains of maps
abbrev pub elsewhere : {K V : Type 0} → ℕ → Bool → Bool → Bool → Present → ℕ → List Sheltered → List Remains → Moment K V → Moment K V
elsewhere events is_mapped is_closed is_alone there slots sheltered remains m =
    record m { events = events; is_mapped = is_mapped; is_closed = is_closed; is_alone = is_alone; there = there; slots = slots; sheltered = sheltered; remains = remains }

module _ {K V : Type 0} (m : Moment K V) (known : Known) (events : ℕ) (is_mapped is_closed is_alone : Bool) (there : Present) (slots : ℕ) (sheltered : List Sheltered) (remains : List Remains) where
  abbrev v : Moment K V
  v = elsewhere events is_mapped is_closed is_alone there slots sheltered remains m

  map_elsewhere : (map : ℕ) (number : ℕ → ℕ) (s : Standing K) → RefinesMap map number s m known → RefinesMap map number s v known
  map_elsewhere map number s shows = record {
    there = let t = shows.there in record { there = t.there; is = t.is; root = t.root; mode = t.mode; first = t.first };
    pairs = let p = shows.pairs in record { roles = p.roles; numbered = p.numbered; rising = p.rising; born = p.born; here = p.here; all = p.all };
    tables = let t = shows.tables in record { roles = t.roles; stage = t.stage; listed = t.listed; linked = t.linked };
    counter = shows.counter;
  }

  pub shown_elsewhere : (same : K → K → Bool) (name : ℕ → List ℕ) (s : Scene K V) → RefinesWhole same name m known s → RefinesWhole same name v known s
  shown_elsewhere same name s whole =
      let shown = whole.all.shown in
      let hands = whole.all.hands in
      let blocks = whole.blocks in
      record {
        all = record {
          shown = record {
            blocks = record { roles = shown.blocks.roles; once = shown.blocks.once; stored = shown.blocks.stored };
            number = shown.number;
            maps = λ map st is. map_elsewhere map (shown.number map) st (shown.maps map st is);
            calls = shown.calls;
          };
          asked = record { apart = whole.all.asked.apart; each = whole.all.asked.each };
          hands = record { pairs = hands.pairs; tables = hands.tables; born = hands.born; stand = hands.stand };
          rows = whole.all.rows;
        };
        places = record {
          each = λ map st is. (let h = whole.places.each map st is in record { born = h.born; whole = h.whole; lies = h.lies; copied = h.copied });
          fresh = whole.places.fresh;
        };
        blocks = record { pairs = blocks.pairs; pairs_there = blocks.pairs_there; tables = blocks.tables; tables_there = blocks.tables_there; tables_once = blocks.tables_once };
        outside = whole.outside;
        counters = whole.counters;
      }

  -- numbers are so
  pub numbered_elsewhere : {S : Type 0} (l : Logged K V S) → AreNumbered m l → AreNumbered v l
  numbered_elsewhere l n = record { numbers = (let x = n.numbers in record { found = x.found; below = x.below; tables = x.tables }); slots = n.slots }

  -- and what every step keeps is so then
  pub kept_elsewhere : (name : ℕ → List ℕ) (s : Scene K V) → RefinesKept name m known s → RefinesKept name v known s
  kept_elsewhere name s kept = stays_kept K V name m v known s s kept refl refl refl refl refl refl refl refl refl

  -- so are numbers, and what ended maps have left over, where the moment tells the same remains
  pub counted_elsewhere : {S : Type 0} (l : Logged K V S) (s : Scene K V) → remains ≡ m.remains → IsCounted m l s → IsCounted v l s
  counted_elsewhere l s alike c = record {
    numbered = numbered_elsewhere l c.numbered;
    remains = stays_remain K V l.executor.roots m v (noted_in l.notes) s s c.remains refl alike refl refl refl refl;
  }

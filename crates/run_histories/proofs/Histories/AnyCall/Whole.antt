-- What a moment shows of all, it shows, too, once other things of it have changed: how many events came, who is there, what is sheltered and what remains.
use Rattle.std.specs.Prelude.{◌≡◌, ℕ, ◌+◌, Bool, ◌&&◌, List, ◌∷◌, Some}
use Rattle.std.proofs.Common.{refl, sym, subst}
use Rattle.run_places.specs.Given.RunsPresent.{Present}
use Rattle.run_places.specs.Given.SchedulesAfter.{there_on, slots_on, sheltered_on, stepped, calls_on, maps_on, remains_on, closed_on, mapped_on, is_alone_on, moment}
use Rattle.run_places.specs.Given.SchedulesEffects.{worked}
use Rattle.run_places.specs.Given.SchedulesEntry.{Entry, caller_of}
use Rattle.run_places.specs.Given.SchedulesMoment.{MapThere, Remains, Sheltered, UnderWay as CallThere, Moment}
use Rattle.run_places.specs.Given.EffectsKnown.{Known}
use Rattle.run_places.specs.Given.FollowsCalling.{come_to}
use Rattle.run_places.specs.Given.OthersAfter.{RefinesAfter}
use Rattle.run_places.proofs.Given.OthersElsewhere.{shown_elsewhere}
use Rattle.run_places.proofs.Given.OthersStays.{same_maps}
use Rattle.run_places.specs.Moments.Whole.{RefinesWhole}
use Rattle.run_places.proofs.Moments.MapsCome.{asked_still}
use Rattle.run_histories.specs.Histories.InEvent.{AllStaysShown}
use Rattle.run_histories.proofs.Histories.AnyCall.Lasts.{calls_over, maps_over}
use Rattle.run_places.specs.Given.ScenesScene.{Scene}

module _ {K V : Type 0} (m : Moment K V) (events : ℕ) (is_mapped is_closed is_alone : Bool) (there : Present) (slots : ℕ) (sheltered : List Sheltered) (remains : List Remains) where
  abbrev other : Moment K V
  other = record m {
    events = events;
    is_mapped = is_mapped;
    is_closed = is_closed;
    is_alone = is_alone;
    there = there;
    slots = slots;
    sheltered = sheltered;
    remains = remains;
  }

  whole_still : (same : K → K → Bool) (name : ℕ → List ℕ) (known : Known) (s : Scene K V) → RefinesWhole same name m known s → RefinesWhole same name other known s
  whole_still same name known s whole =
      let hands = whole.all.hands in
      let held = whole.blocks in
      record {
        all = record {
          shown = after.shows;
          asked = asked_still same name m other known s whole.all.shown after refl whole.all.asked;
          hands = record { pairs = hands.pairs; tables = hands.tables; born = hands.born; stand = hands.stand };
          rows = whole.all.rows;
        };
        places = record {
          each = λ map standing is.
              (let h = whole.places.each map standing is in record { born = h.born; whole = h.whole; lies = h.lies; copied = λ e n k pair current. (let c = h.copied e n k pair current in c) });
          fresh = whole.places.fresh;
        };
        blocks = record { pairs = held.pairs; pairs_there = held.pairs_there; tables = held.tables; tables_there = held.tables_there; tables_once = held.tables_once };
        outside = whole.outside;
        counters = whole.counters;
      }
    where
      after : RefinesAfter same name m known s whole.all.shown other known s
      after = shown_elsewhere K V same name m other known s s whole.all.shown (record { place = refl; born = refl; stored = refl; maps = refl; tables = refl; calls = refl })
          (record { memory = refl; hand = refl; maps = λ n. same_maps (s.maps n); calls = refl })

module _ {K V : Type 0} (same : K → K → Bool) (name : ℕ → List ℕ) (log : List (Entry K V)) (e : Entry K V) (own : List ℕ) (m2 : Moment K V) (caller : caller_of e.event ≡ Some own)
    (worked_is : worked e (moment log) ≡ m2) (known : Known) (s : Scene K V) where
  -- the moment after the event, by what it worked
  abbrev after_by : Moment K V → List (CallThere K V) → List MapThere → Moment K V
  after_by w calls maps = record w {
    events = (moment log).events + 1;
    is_mapped = mapped_on e.event (moment log).is_mapped;
    is_closed = closed_on e.event e.outcome (moment log).is_closed;
    is_alone = (moment log).is_alone && is_alone_on e (moment log);
    there = there_on e.event e.outcome w.there;
    slots = slots_on e.outcome (moment log).slots;
    sheltered = sheltered_on e.event e.outcome w.sheltered;
    calls = calls;
    maps = maps;
    remains = remains_on e.event e.outcome e.effects (moment log);
  }

  pub whole_over : RefinesWhole same name (come_to own e.outcome e.steps m2) known s → RefinesWhole same name (moment (e ∷ log)) known s
  whole_over whole =
      subst (λ (w : Moment K V). RefinesWhole same name (after_by w (calls_on e.event e.outcome e.steps w.calls) (maps_on e.event e.outcome w.maps)) known s) (sym worked_is)
      (subst (λ (cs : List (CallThere K V)). RefinesWhole same name (after_by m2 cs (maps_on e.event e.outcome m2.maps)) known s) (sym (calls_over e.event e.outcome e.steps m2.calls own caller))
      (subst (λ (fs : List MapThere). RefinesWhole same name (after_by m2 (stepped (Some own) e.outcome e.steps m2.calls) fs) known s) (sym (maps_over e.event e.outcome m2.maps own caller))
      (whole_still (come_to own e.outcome e.steps m2) ((moment log).events + 1) (mapped_on e.event (moment log).is_mapped) (closed_on e.event e.outcome (moment log).is_closed)
      ((moment log).is_alone && is_alone_on e (moment log)) (there_on e.event e.outcome m2.there) (slots_on e.outcome (moment log).slots) (sheltered_on e.event e.outcome m2.sheltered)
      (remains_on e.event e.outcome e.effects (moment log)) same name known s whole)))

pub all_stays_shown : (K V : Type 0) (same : K → K → Bool) → AllStaysShown K V same
all_stays_shown K V same name m known s whole events is_mapped is_closed is_alone there slots sheltered remains =
    whole_still m events is_mapped is_closed is_alone there slots sheltered remains same name known s whole

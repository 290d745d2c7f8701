-- What a moment shows it shows, too, once other things of it have changed: how many entries came, how many maps were made, who is there, what is sheltered and what remains. So it is where an entry is over.
use Rattle.std.specs.Prelude.{◌≡◌, ℕ, suc, Bool, List}
use Rattle.std.proofs.Common.{refl, sym, subst}
use Rattle.run_schedules.specs.Runs.Present.{Present}
use Rattle.run_schedules.specs.Schedules.Moment.{Moment, Remains, Sheltered}
use Rattle.run_schedules.specs.Schedules.Transition.{Past, further}
use Rattle.play_lists.specs.Given.EffectsKnown.{Known}
use Rattle.play_lists.specs.Given.OthersAfter.{RefinesAfter}
use Rattle.play_lists.specs.Given.OthersElsewhere.{HasSame}
use Rattle.play_lists.specs.Given.ScenesScene.{Scene}
use Rattle.run_logged.specs.Given.MomentsWhole.{RefinesWhole}
use Rattle.play_lists.proofs.Given.OthersElsewhere.{shown_elsewhere}
use Rattle.play_lists.proofs.Given.OthersStays.{same_maps}
use Rattle.run_logged.proofs.Given.MomentsMapsCome.{asked_still}
use Rattle.play_lists.proofs.Given.HistoriesAside.Stays.{as_called_stays, dues_stay}
use Rattle.play_lists.proofs.Given.HistoriesDueOn.{events_keep_due}
use Rattle.play_lists.proofs.Given.KeptStays.{stays_kept}
use Rattle.run_schedules.specs.Deeds.Deeds.{named}
use Rattle.play_linear.specs.Linear.Shown.{RefinesAnswers}

-- the moment is like another one, of which it has the calls, the pairs, the maps and the tables
abbrev pub IsLike : {K V : Type 0} → Moment K V → Moment K V → Type 0
IsLike m v = v ≡ record m {
  events = v.events;
  is_mapped = v.is_mapped;
  is_closed = v.is_closed;
  is_alone = v.is_alone;
  there = v.there;
  slots = v.slots;
  sheltered = v.sheltered;
  remains = v.remains;
  made = v.made;
}

module _ {K V : Type 0} (m : Moment K V) (events : ℕ) (is_mapped is_closed is_alone : Bool) (there : Present) (slots : ℕ) (sheltered : List Sheltered) (remains : List Remains) (made : ℕ) where
  abbrev other : Moment K V
  other = record m {
    events = events;
    is_mapped = is_mapped;
    is_closed = is_closed;
    is_alone = is_alone;
    there = there;
    slots = slots;
    sheltered = sheltered;
    remains = remains;
    made = made;
  }

  abbrev alike : HasSame m other
  alike = record { place = refl; born = refl; stored = refl; maps = refl; tables = refl; calls = refl }

  whole_like : (same : K → K → Bool) (known : Known) (s : Scene K V) → RefinesWhole same named m known s → RefinesWhole same named other known s
  whole_like same known s whole =
      let hands = whole.all.hands in
      let held = whole.blocks in
      record {
        all = record {
          shown = after.shows;
          asked = asked_still same named m other known s whole.all.shown after refl whole.all.asked;
          hands = record { pairs = hands.pairs; tables = hands.tables; born = hands.born; stand = hands.stand };
          rows = whole.all.rows;
        };
        places = record {
          each = λ map standing is.
              (let h = whole.places.each map standing is in record { born = h.born; whole = h.whole; lies = h.lies; copied = λ e n k pair current. (let c = h.copied e n k pair current in c) });
          fresh = whole.places.fresh;
        };
        blocks = record { pairs = held.pairs; pairs_there = held.pairs_there; tables = held.tables; tables_there = held.tables_there; tables_once = held.tables_once };
        outside = whole.outside;
        counters = whole.counters;
      }
    where
      after : RefinesAfter same named m known s whole.all.shown other known s
      after = shown_elsewhere K V same named m other known s s whole.all.shown alike (record { memory = refl; hand = refl; maps = λ n. same_maps (s.maps n); calls = refl })

  answers_like : (same : K → K → Bool) (log : Past K V) (known : Known) (s : Scene K V) → RefinesAnswers same log m known s → RefinesAnswers same log other known s
  answers_like same log known s all = record {
    whole = whole_like same known s all.whole;
    kept = stays_kept K V named m other known s s all.kept refl refl refl refl refl refl refl refl refl;
    dues = (dues_stay K V same (λ n k. 0) named log).alike m other known s all.dues alike;
    as_called = (as_called_stays K V same (λ n k. 0) named).alike m other known s all.as_called alike;
    questions = all.questions;
  }

module _ {K V : Type 0} (same : K → K → Bool) (log : Past K V) (known : Known) (s : Scene K V) where
  pub likes_answer : (m v : Moment K V) → RefinesAnswers same log m known s → IsLike m v → RefinesAnswers same log v known s
  likes_answer m v all like =
      subst (λ (x : Moment K V). RefinesAnswers same log x known s) (sym like)
      (answers_like m v.events v.is_mapped v.is_closed v.is_alone v.there v.slots v.sheltered v.remains v.made same log known s all)

  -- where the moment is one of the history
  pub entries_come : (m : Moment K V) → RefinesAnswers same log m known s → m.events ≡ suc log.entries → RefinesAnswers same (further m log) m known s
  entries_come m all counted = record {
    whole = all.whole;
    kept = all.kept;
    dues = events_keep_due K V same named log m known s all.dues counted;
    as_called = all.as_called;
    questions = all.questions;
  }

  -- and so where an entry is over
  pub entries_are_over : (m v : Moment K V) → RefinesAnswers same log m known s → IsLike m v → v.events ≡ suc log.entries → RefinesAnswers same (further v log) v known s
  entries_are_over m v all like counted = entries_come v (likes_answer m v all like) counted

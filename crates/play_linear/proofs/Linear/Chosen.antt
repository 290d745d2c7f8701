-- A choice of a number comes: the moment shows the scene as before, and maps come and go as before.
use Rattle.std.specs.Prelude.{ℕ, Bool, Option}
use Rattle.play_lists.specs.Given.FollowsShows.{Refines}
use Rattle.run_schedules.specs.Schedules.Moment.{Moment}
use Rattle.run_schedules.specs.Schedules.Transition.{Past}
use Rattle.play_lists.specs.Given.EffectsKnown.{Known}
use Rattle.run_logged.proofs.Log.Choosing.{kept_then, whole_then}
use Rattle.play_lists.specs.Given.ActsDoings.{scene_chosen}
use Rattle.run_schedules.specs.Deeds.Deeds.{named}
use Rattle.play_linear.specs.Linear.Coming.{MapsComeAndGo}
use Rattle.play_linear.specs.Linear.Shown.{RefinesAnswers}
use Rattle.play_lists.specs.Played.Play.{Ending}
use Rattle.play_lists.specs.Given.ScenesScene.{Scene}

module _ {K V : Type 0} (same : K → K → Bool) (choice : ℕ) (log : Past K V) (m : Moment K V) (known : Known) (s : Scene K V) (so : RefinesAnswers same log m known s) where
  abbrev pub shown_chosen : Refines same named m known s → Refines same named m known (scene_chosen choice s)
  shown_chosen shows = record {
    blocks = (whole_then choice same named m known s so.whole).all.shown.blocks;
    number = shows.number;
    maps = shows.maps;
    calls = shows.calls;
  }

  pub shows_chosen : RefinesAnswers same log m known (scene_chosen choice s)
  shows_chosen = record {
    whole = whole_then choice same named m known s so.whole;
    kept = kept_then choice named m known s so.kept;
    dues = record {
      history = record {
        past = so.dues.history.past;
        shown = shown_chosen so.dues.history.shown;
        asked = record { apart = so.dues.history.asked.apart; each = so.dues.history.asked.each };
        begun = so.dues.history.begun;
        within = so.dues.history.within;
      };
      owes = so.dues.owes;
      taken = so.dues.taken;
    };
    as_called = record { shown = shown_chosen so.as_called.shown; each = so.as_called.each };
    questions = so.questions;
  }

pub maps_chosen : {K V : Type 0} (choice : ℕ) (m : Moment K V) (known : Known) (enders : ℕ → Option Ending) (s : Scene K V) → MapsComeAndGo m known enders s → MapsComeAndGo m known enders (scene_chosen choice s)
maps_chosen choice m known enders s so = record {
  count = so.count;
  numbers = so.numbers;
  below = record { standing = so.below.standing; made = so.below.made };
  names = so.names;
  coming = so.coming;
  going = λ i e has f ends. (let it = so.going i e has f ends in
      record { gone = record { not_there = it.gone.not_there; not_made = it.gone.not_made }; number = it.number; first = it.first; notes = it.notes; still = it.still });
}

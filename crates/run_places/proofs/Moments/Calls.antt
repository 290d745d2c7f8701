-- Calls keep all that a moment shows.
use Rattle.std.specs.Prelude.{◌≡◌, ℕ, Bool, List, Some, ◌⊎◌}
use Rattle.std.proofs.Common.{inl, inr}
use Rattle.run_shows.specs.Given.TablesDeclared.node.Node.{Node}
use Rattle.run_shows.specs.Given.RawDeclared.machines.progress.Progress.{Progress}
use Rattle.run_shows.specs.Given.SchedulesBeginning.{with_call}
use Rattle.run_shows.specs.Given.SchedulesEffects.{with_effects}
use Rattle.run_shows.specs.Given.SchedulesMoment.{Moment}
use Rattle.run_shows.specs.Given.CallersTogether.{UnderWay, OnKey, ForRoom, Counting, OverAll}
use Rattle.run_shows.specs.Given.EffectsEffects.{effects_of, known_after}
use Rattle.run_shows.specs.Given.EffectsKnown.{Known}
use Rattle.run_shows.specs.Given.EffectsDeclared.acting.Acting.TheVariants as acts
use Rattle.run_shows.specs.Follows.Calling.{told, come_to}
use Rattle.run_shows.specs.Follows.Steps.{TakesNone}
use Rattle.run_shows.proofs.Follows.Steps.{WentTo, went_to, DidSo, OfNoRow}
use Rattle.run_places.specs.Hands.Shows.{RefinesHeld}
use Rattle.run_places.proofs.Hands.Beginning.{runs_begin_so}
use Rattle.run_places.proofs.Hands.Calling.{calls_begin_for, calls_come_to_so}
use Rattle.run_places.proofs.Hands.RowSteps.{rows_hand_theirs}
use Rattle.run_places.proofs.Hands.Steps.{calls_store_theirs}
use Rattle.run_places.proofs.Hands.Told.{calls_take}
use Rattle.run_shows.proofs.Others.Counters.{calls_note_counters}
use Rattle.run_places.proofs.Spots.Begins.{places_begin, blocks_begin, calls_leave_places}
use Rattle.run_places.proofs.Spots.Steps.{calls_keep_places, calls_keep_blocks, calls_leave_outside}
use Rattle.run_places.specs.Moments.Whole.{RefinesWhole, WholeBegins, CallsPreserveWhole, CallsTakeWhole, CallsBeginWhole, CallsComeToWhole}
use Rattle.run_shows.specs.Scenes.Held.{Held, IsAt}
use Rattle.run_shows.specs.Scenes.Scene.{Scene}
use Rattle.run_shows.specs.Scenes.Stepping.{StepLeads, scene_after}

pub whole_begins : (K V : Type 0) → WholeBegins K V
whole_begins K V same roots name = record {
  all = runs_begin_so K V same roots name;
  places = places_begin K V roots;
  blocks = blocks_begin K V;
  outside = λ n among. absurd (cc among);
  counters = λ i b is. absurd (cc is);
}

module _ {K V : Type 0} (same : K → K → Bool) (hash : ℕ → K → ℕ) (name : ℕ → List ℕ) (m : Moment K V) (known : Known) (s : Scene K V) (old new : Held K V) (at : IsAt same hash old s)
    (whole : RefinesWhole same name m known s) (map i : ℕ) (u : UnderWay K V K) (here : s.calls map i ≡ Some u) (told : Progress (Node K V)) (leads : StepLeads same hash i told s old new) where
  abbrev to : WentTo same hash name m known s old new at whole.all.shown map i u here told leads
  to = went_to same hash name m known s old new at whole.all.shown map i u here told leads

  abbrev Did : UnderWay K V K → Type 0
  Did x = DidSo same hash name m known s old new at whole.all.shown map i u here told leads x

  abbrev NoRow : (x : UnderWay K V K) → Did x → Type 0
  NoRow x did = OfNoRow same hash name m known s old new at whole.all.shown map i u here told leads x did

  -- it was a step of a row, or none
  pub of_row : (x : UnderWay K V K) (did : Did x) → NoRow x did ⊎ (NoRow x did → ⊥)
  of_row (OnKey x) (p2, end, machine_is, told_is, inl step) = inl tt
  of_row (OnKey x) (p2, end, machine_is, told_is, inr row) = inr (λ none. none)
  of_row (ForRoom x) (p2, end, machine_is, told_is, inl step) = inl tt
  of_row (ForRoom x) (p2, end, machine_is, told_is, inr row) = inr (λ none. none)
  of_row (Counting x) did = inl tt
  of_row (OverAll x) (p2, end, machine_is, told_is, inl step) = inl tt
  of_row (OverAll x) (p2, end, machine_is, told_is, inr row) = inr (λ none. none)

  abbrev v : Moment K V
  v = with_effects (Some (name i)) (Some map) (effects_of (acts.Call i map) known new.changed) m

  abbrev after : Known
  after = known_after (acts.Call i map) new.changed known

  abbrev then_at : Scene K V
  then_at = scene_after same s old new map i to.0 u to.1 told to.4

  whole_by : RefinesHeld same name v after then_at → ((NoRow u to.4.did → ⊥) → TakesNone new.changed) → RefinesWhole same name v after then_at
  whole_by all takes = record {
    all = all;
    places = calls_keep_places K V same hash name m known s old new at whole.all.shown whole.places map i u here told leads;
    blocks = calls_keep_blocks K V same hash name m known s old new at whole.all.shown whole.blocks map i u here told leads takes;
    outside = calls_leave_outside K V same hash name m known s old new at whole.all.shown whole.outside map i u here told leads;
    counters = calls_note_counters K V same hash name m known s old new at whole.all.shown whole.counters map i u here told leads;
  }

  pub step_keeps : RefinesWhole same name v after then_at
  step_keeps = elim (of_row u to.4.did) as (λ _. RefinesWhole same name v after then_at) [
    | inl own ↦ whole_by (calls_store_theirs K V same hash name m known s old new at whole.all map i u here told leads own).2 (λ other. absurd (other own))
    | inr other ↦ let it = rows_hand_theirs K V same hash name m known s old new at whole.all map i u here told leads other in whole_by it.2 (λ row. it.1)
  ]

module _ (K V : Type 0) (same : K → K → Bool) (hash : ℕ → K → ℕ) where
  pub calls_keep_whole : CallsPreserveWhole K V same hash
  calls_keep_whole name m known s old new at whole map i u here told leads = step_keeps same hash name m known s old new at whole map i u here told leads

  pub calls_take_whole : CallsTakeWhole K V same hash
  calls_take_whole name m known s e at whole map i u here c c_is question c_asks standing there is_told next machine taken goes =
      let lie = calls_leave_places K V m known s.maps whole.places whole.blocks (told (name i) is_told m).calls in
      record {
        all = calls_take K V same hash name m known s e at whole.all map i u here c c_is question c_asks standing there is_told next machine taken goes;
        places = lie.0;
        blocks = lie.1;
        outside = whole.outside;
        counters = whole.counters;
      }

module _ (K V : Type 0) (same : K → K → Bool) where
  pub calls_begin_whole : CallsBeginWhole K V same
  calls_begin_whole name m known s whole map i u its guard apart called begun rests =
      let lie = calls_leave_places K V m known s.maps whole.places whole.blocks (with_call (name i) guard its (Some map) m).calls in
      record {
        all = calls_begin_for K V same name m known s whole.all map i u its guard apart called begun rests;
        places = lie.0;
        blocks = lie.1;
        outside = whole.outside;
        counters = whole.counters;
      }

  pub calls_come_to_whole : CallsComeToWhole K V same
  calls_come_to_whole name m known s whole own outcome steps ended just =
      let lie = calls_leave_places K V m known s.maps whole.places whole.blocks (come_to own outcome steps m).calls in
      record {
        all = calls_come_to_so K V same name m known s whole.all own outcome steps ended just;
        places = lie.0;
        blocks = lie.1;
        outside = whole.outside;
        counters = whole.counters;
      }

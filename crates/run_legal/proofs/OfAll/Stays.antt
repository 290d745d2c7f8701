-- What a moment shows of calls it shows, too, after a step by which all is reclaimed: no call is under way.
use Rattle.std.specs.Prelude.{◌≡◌, ◌⊎◌, ◌<◌, ◌≤◌, ℕ, Bool, true, false, List, [], ◌∷◌, map, Some, None, get_or, if◌then◌else◌}
use Rattle.std.specs.List.{All}
use Rattle.std.proofs.Common.{refl, ap, sym, subst, ◌∙◌, inl, inr}
use Rattle.std.proofs.lemmas.List.Elements.{All-map}
use Rattle.run_grows.specs.Given.SeizeWordsMem.{Mem, word_at}
use Rattle.run_grows.specs.Given.SeizeWordsDeclared.at.At.TheVariants.{Word}
use Rattle.run_grows.specs.Given.SeizeReclaimAll.{reclaim_all_plan}
use Rattle.run_grows.specs.Given.SeizeDeclared.rows.reclaim_all.ReclaimAll.{ReclaimAll}
use Rattle.run_grows.specs.Given.SeizeDeclared.rows.settle.Settled.{Settled}
use Rattle.run_grows.specs.Given.TablesNodes.{deferred_word, was_left}
use Rattle.run_grows.specs.Given.TablesDeclared.node.Node.{Node}
use Rattle.run_grows.specs.Given.TablesDeclared.setting.Setting.{Setting}
use Rattle.run_grows.specs.Given.RunsDeclared.effect.Effect.{Effect}
use Rattle.run_grows.specs.Given.RunsDeclared.effect.Effect.TheVariants.{Reclaimed}
use Rattle.run_grows.specs.Given.RunsDeclared.effect.TableId.{TableId}
use Rattle.run_grows.specs.Given.RunsDeclared.effect.Thing.{Thing}
use Rattle.run_grows.specs.Given.RunsDeclared.effect.Thing.TheVariants.{APair, ATable}
use Rattle.run_grows.specs.Given.SchedulesEffects.{at_stage, with_effect, with_effects}
use Rattle.run_grows.specs.Given.SchedulesMoment.{IsReclaimed, Moment, TableThere}
use Rattle.run_grows.specs.Given.SchedulesThings.{same_table}
use Rattle.run_grows.specs.Given.EffectsDeclared.changed.Changed.{Changed}
use Rattle.run_grows.specs.Given.CallersTogether.{UnderWay, OnKey}
use Rattle.run_grows.specs.Given.EffectsEffects.{effects_of, known_after}
use Rattle.run_grows.specs.Given.EffectsKnown.{Known}
use Rattle.run_grows.specs.Given.EffectsDeclared.acting.Acting.TheVariants.{Row}
use Rattle.run_grows.proofs.Given.FollowsOperations.{Operated, operated}
use Rattle.run_grows.specs.Given.MomentsNumbers.{NumbersMaps}
use Rattle.run_grows.specs.Given.MomentsWhole.{RefinesWhole}
use Rattle.run_grows.proofs.Given.MomentsNewMaps.{effects_keep_pairs}
use Rattle.run_grows.proofs.Given.OthersRowPlans.{TellsRow}
use Rattle.run_grows.proofs.Given.HistoriesQuestions.{effects_keep_questions}
use Rattle.run_grows.specs.Given.ScenesReclaiming.{IsReclaiming, ReclaimingLeads}
use Rattle.run_grows.proofs.Given.ScenesMay.{may_reclaim}
use Rattle.run_logged.proofs.Log.Reclaiming.Rest.{reclaiming_found, reclaiming_keeps}
use Rattle.run_grows.proofs.Given.ShedsReclaiming.Rows.{EmptiesRoot, reclaiming_tells}
use Rattle.run_grows.proofs.Given.ShedsReclaiming.Steps.{reclaiming_whole}
use Rattle.run_grows.specs.Given.PromisesReading.{RefinesReadings}
use Rattle.run_grows.proofs.Given.SettlesUncounted.{CountsNowhere}
use Rattle.run_grows.specs.Given.ShardsShardWords.{RefinesCounters, RefinesShards}
use Rattle.run_grows.proofs.Given.ShardsShardKept.{none_shards, same_setting, word_kept}
use Rattle.run_legal.specs.AllEvents.{scene_in}
use Rattle.run_legal.specs.Carried.{RefinesAllCalls}
use Rattle.run_grows.proofs.Given.SpotsEffects.{AllAside}
use Rattle.run_legal.proofs.Sourced.{reclaimed_aside, same_maps_aside}
use Rattle.run_grows.proofs.Grows.Finding.Others.{finding_of_none}
use Rattle.run_legal.proofs.OfAll.Tells.{gone_by, it_reclaims, none_under_way}
use Rattle.run_legal.proofs.Uncounted.{none_counted}
use Rattle.run_grows.specs.Given.ScenesHeld.{Held}
use Rattle.run_grows.specs.Given.ScenesScene.{Scene}
use Rattle.run_grows.specs.Given.SchedulesTransition.{Past}
use Rattle.run_sweeps.proofs.Purposes.Stored.{effects_stored, numbers_last}

-- Maps have their numbers still once something is reclaimed.

stage_table : (t : TableId) (u : TableThere) → (at_stage t IsReclaimed u).table ≡ u.table
stage_table t u = by (same_table u.table t)
  where
    by : (q : Bool) → (if q then record u { stage = IsReclaimed } else u).table ≡ u.table
    by true = refl
    by false = refl

staged_below : (t : TableId) (made : ℕ) (tables : List TableThere) → All (λ (u : TableThere). u.table.map < made) tables → All (λ (u : TableThere). u.table.map < made) (map (at_stage t IsReclaimed) tables)
staged_below t made tables below =
    All-map (λ (u : TableThere). u.table.map < made) (at_stage t IsReclaimed) tables (λ k d l. subst (λ (v : TableId). v.map < made) (sym (stage_table t (get_or tables k d))) (below k d l))

module _ {K V : Type 0} where
  one_numbers : (y : Thing) (m : Moment K V) → NumbersMaps m → NumbersMaps (with_effect None None (Reclaimed y) m)
  one_numbers (APair n) m numbers = record { found = numbers.found; below = numbers.below; tables = numbers.tables }
  one_numbers (ATable t) m numbers = record { found = numbers.found; below = numbers.below; tables = staged_below t m.made m.tables numbers.tables }

  numbers_stay : (ys : List Thing) (m : Moment K V) → NumbersMaps m → NumbersMaps (with_effects None None (map Reclaimed ys) m)
  numbers_stay [] m numbers = numbers
  numbers_stay (y ∷ ys) m numbers = numbers_stay ys (with_effect None None (Reclaimed y) m) (one_numbers y m numbers)

-- what is told is no word of a count
nowhere : (known : Known) (x : Changed) → TellsRow x ⊎ EmptiesRoot x → CountsNowhere known x
nowhere known x (inl tells) b field old new of is counter = absurd (subst TellsRow is tells)
nowhere known x (inr empties) b field old new of is counter = absurd (subst EmptiesRoot is empties)

module _ {K V : Type 0} (same : K → K → Bool) (hash : ℕ → K → ℕ) (name : ℕ → List ℕ) (log : Past K V) (m : Moment K V) (known : Known) (s : Scene K V) (calls : RefinesAllCalls same name log m known s)
    (old new : Held K V) (i : ℕ) (lists : ℕ → List ℕ) (before after : ReclaimAll) (told : Settled (Node K V)) (under_way : IsReclaiming same hash old s i lists before)
    (leads : ReclaimingLeads same hash s i lists old new before after told) where
  abbrev x : Changed
  x = new.changed

  abbrev effects : List Effect
  effects = effects_of Row known x

  abbrev v : Moment K V
  v = with_effects None None effects m

  abbrev t : Scene K V
  t = scene_in s leads.1.w2 leads.1.maps2

  none : {X : Type 0} (map j : ℕ) (u : UnderWay K V K) → s.calls map j ≡ Some u → X
  none map j u here = none_under_way same hash name m known s calls.whole calls.kept old new i lists before after told under_way leads map j u here

  whole_then : RefinesWhole same name v (known_after Row x known) t
  whole_then =
      let found = reclaiming_found same hash name m known s calls.whole calls.kept old new i lists before after told under_way leads in
      reclaiming_whole same hash name m known s calls.whole old new i lists before after told under_way leads found.0 found.1

  -- shards are what they were
  made : Operated s.world.memory leads.1.w2.memory x
  made =
      subst (λ (n : Mem (Node K V)). Operated s.world.memory n x) (sym leads.1.memory)
      (subst (λ (n : Mem (Node K V)). Operated n new.memory x) (sym under_way.memory)
      (operated old.memory new.memory x (reclaim_all_plan deferred_word was_left before) (after, told) (may_reclaim same hash old s i lists before under_way) leads.0))

  shards_then : RefinesShards v t
  shards_then n st is shard few =
      let was = same_setting (s.maps n) (leads.1.maps2 n) (leads.1.as_they_were n) st is in
      let counter = (calls.whole.all.shown.maps n was.0 was.1).counter in
      let held = calls.counters.shards n was.0 was.1 shard (subst (λ (z : Setting). shard ≤ z.mask) was.2 few) in
      let now = (leads.1.next.stand.together.makings.standing.each n st is).ground.map.shards shard few in
      let one = word_kept known s.world.memory leads.1.w2.memory x made
      (nowhere known x (reclaiming_tells old.memory new.memory x before before.stands (after, told) leads.0))
      st.setting.counter shard (m.shards n shard) now.0 n (ap (λ (z : Setting). known.roles z.counter) was.2 ∙ counter)
      (ap (λ (z : Setting). word_at s.world.memory (Word z.counter shard)) was.2 ∙ held) now.1 in
      now.1 ∙ ap Some one ∙ ap (λ (f : ℕ → ℕ → ℕ). Some (f n shard)) (sym (none_shards None effects m))

  counters_then : RefinesCounters name v t
  counters_then = record {
    shards = shards_then;
    makes = λ j b is. absurd (let idle = under_way.under_way.stand.no_makers j in cc (idle, is));
    adds = λ of j u is removed to_add c found. none of j u is;
  }

  pub calls_then : RefinesAllCalls same name log v (known_after Row x known) t
  calls_then = record {
    whole = whole_then;
    numbers = (
      subst (λ (fs : List Effect). NumbersMaps (with_effects None None fs m)) (sym (it_reclaims same hash name m known s calls.whole calls.kept old new i lists before after told under_way leads))
          (numbers_stay (gone_by known x) m calls.numbers.0),
      effects_keep_pairs K V m calls.numbers.1 None None effects (λ n is. absurd (cc is)),
    );
    kept = reclaiming_keeps same hash name m known s calls.whole calls.kept old new i lists before after told under_way leads;
    finding = finding_of_none K V name m known (known_after Row x known) s t (λ n j u is. none n j u is) effects leads.1.as_they_were calls.finding;
    sources = same_maps_aside K V same name m known (known_after Row x known) s t None None effects
        (subst AllAside (sym (it_reclaims same hash name m known s calls.whole calls.kept old new i lists before after told under_way leads)) (reclaimed_aside (gone_by known x))) calls.sources whole_then.all.shown
        leads.1.as_they_were;
    nexts = λ n j u is c found. absurd (none n j u is);
    limits = λ n j u is c found. absurd (none n j u is);
    tries = λ n j u is c found. absurd (none n j u is);
    counters = counters_then;
    uncounted = none_counted None None effects m calls.uncounted (none_shards None effects m);
    dues = record {
      history = record {
        past = calls.dues.history.past;
        shown = whole_then.all.shown;
        asked = record { apart = λ n j k l y z is is2 names. none n j y is; each = λ n j u is st there c found. none n j u is };
        begun = λ n j u is c found. none n j u is;
        within = λ n j u is st there c found began began_is. none n j u is;
      };
      owes = λ n j u is st there c found one one_is. none n j (OnKey u) is;
      taken = λ n j u is c found one one_is. none n j u is;
    };
    as_called = record { shown = whole_then.all.shown; each = λ n j u is st there c found. none n j u is };
    questions = effects_keep_questions K V None None effects m calls.questions;
    purposes = record {
      past = calls.purposes.past;
      lasts = numbers_last log m v (effects_stored None None effects m) calls.purposes.lasts;
      shown = whole_then.all.shown;
      begun = λ n j u is c found. none n j u is;
      is_for = λ n j u is c found. none n j u is;
      come = λ n j u is st there c found. none n j u is;
    };
  }

  pub reading_then : RefinesReadings name log (λ j. 0) v t
  reading_then = record { past = calls.dues.history.past; begun = λ n j u is c found looks. none n j u is; reads = λ n j u is c found looks st there. none n j u is }

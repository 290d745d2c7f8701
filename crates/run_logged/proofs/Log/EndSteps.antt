-- The beginning of the end of a map is written down, and a step of it.
use Rattle.std.specs.Prelude.{◌≡◌, ℕ, Bool, List, ◌++◌, Some, None}
use Rattle.std.proofs.Common.{refl, ap, subst, sym, ◌∙◌}
use Rattle.seize.specs.declared.rows.settle.Settled.{Settled}
use Rattle.seize.specs.declared.rows.settle.Settled.TheVariants as settled
use Rattle.papaya_raw.specs.Given.TablesChunks.{is_incremental}
use Rattle.papaya_raw.specs.Given.TablesDeclared.node.Node.{Node}
use Rattle.run_effects.proofs.Given.RuleLaws.{current_is_known}
use Rattle.run_schedules.specs.declared.effect.Effect.{Effect}
use Rattle.run_schedules.specs.Schedules.After.{if_any}
use Rattle.run_schedules.specs.Schedules.Effects.{with_effects}
use Rattle.run_schedules.specs.Schedules.Handing.{in_order}
use Rattle.run_schedules.specs.Schedules.Moment.{Moment}
use Rattle.run_effects.specs.Effects.Effects.{effects_of, known_after}
use Rattle.run_effects.specs.Effects.Known.{Known, known}
use Rattle.run_effects.specs.declared.notes.Notes.{Notes}
use Rattle.run_effects.specs.declared.acting.Acting.TheVariants.{Ending}
use Rattle.run_shows.specs.Given.FinishesEndings.{Finishing, AllPairsOnce, finishing_of}
use Rattle.run_shows.specs.Given.FinishesFactsEnds.{taken_by as taken_of}
use Rattle.run_shows.specs.Given.FinishesMaps.{Standing}
use Rattle.run_executor.specs.declared.executor.Executor.{Executor}
use Rattle.run_shows.specs.Others.Endings.{ending_after, without_map}
use Rattle.run_executor.proofs.Given.MomentsEnds.{endings_begin_whole, endings_keep_whole}
use Rattle.run_executor.proofs.Given.MomentsOver.{endings_are_over_whole}
use Rattle.run_executor.proofs.Given.MomentsWholeEnds.{whole_ends_take_all}
use Rattle.run_executor.specs.Given.MomentsWholeEnds.{all_ended}
use Rattle.run_executor.specs.Given.MomentsWhole.{RefinesWhole}
use Rattle.run_logged.specs.Log.Ends.{is_done, AllEnds, NotesMap, NotedStill, EndIsBegun, EndContinues, EndSteps, EndIsOver}
use Rattle.run_kept.specs.Kept.Kept.{RefinesKept}
use Rattle.run_kept.proofs.Kept.Others.{endings_begin_kept, endings_keep_kept, endings_find_kept}
use Rattle.run_kept.proofs.Kept.Stays.{stays_kept}
use Rattle.run_logged.specs.Log.Shown.{IsShown}
use Rattle.run_kept.specs.Sheds.Waits.{ReportsThen, ReportsWaiting}
use Rattle.run_logged.specs.declared.logged.Logged.{Logged}
use Rattle.run_logged.proofs.Log.Counted.{counted_end_begins, counted_end_steps, counted_goes}
use Rattle.run_kept.proofs.Sheds.LeftNoted.{endings_note_left}
use Rattle.run_kept.proofs.Sheds.EndOrder.{all_told, pairs_ordered}
use Rattle.run_kept.proofs.Sheds.EndLists.{once}
use Rattle.run_logged.proofs.Log.EndTold.{did_end, ends_alone, noted_on}
use Rattle.run_logged.proofs.Log.EndWaits.{waits_begin, waits_said}
use Rattle.run_executor.specs.Executing.Ending.{EndingBegins, EndsThere}
use Rattle.run_executor.specs.Executing.IsThere.{IsThere, PreservesSettings, held_by}
use Rattle.run_shows.specs.Scenes.Ending.{ending_begun}
use Rattle.run_shows.specs.Scenes.Scene.{Scene}
use Rattle.run_kept.proofs.Sheds.Held.{ending_held}

module _ {K V S : Type 0} (same : K → K → Bool) (hash : K → ℕ) where
  -- what is noted of a map that stands
  module _ (l : Logged K V S) (name : ℕ → List ℕ) (m : Moment K V) (s : Scene K V) (shown : IsShown same hash name m l s) (map : ℕ) (standing : Standing K) (there : s.maps map ≡ Some standing) where
    pub notes_map : NotesMap map (shown.shows.all.shown.number map) (known l.notes) standing.setting standing.chart standing.blocks
    notes_map =
        let in_it = (shown.is_at.held.together.makings.standing.each map standing there).ground.map in
        let it = shown.shows.all.shown.maps map standing there in
        record {
          pairs = λ n current. (let k = current_is_known same standing.hash standing.setting s.world.memory standing.chart standing.blocks in_it.map.rule in_it.map.shows n current in it.pairs.roles n k.0 k.1);
          tables = λ t from made. it.tables.roles t made (in_it.map.shows.linked t from made);
          counter = it.counter;
        }

    -- if all of it ended, that would be a whole end
    pub ends_all : AllPairsOnce (is_incremental standing.setting.mode) standing.chart → AllEnds map (all_ended (is_incremental standing.setting.mode) map (shown.shows.all.shown.number map) standing.chart) m
    ends_all once =
        let number = shown.shows.all.shown.number map in
        let b = is_incremental standing.setting.mode in
        let in_it = (shown.is_at.held.together.makings.standing.each map standing there).ground.map in
        let lawful = (shown.is_at.held.together.makings.standing.fit map standing there).0 in
        let whole = whole_ends_take_all K V m (known l.notes) map number standing (shown.shows.all.shown.maps map standing there) once in
        record {
          all = whole.0;
          order = ap (in_order m) (all_told b map number standing.chart)
              ∙ pairs_ordered same standing.hash lawful standing.chart m number b in_it.map.rule
              (λ n current. let k = current_is_known same standing.hash standing.setting s.world.memory standing.chart standing.blocks in_it.map.rule in_it.map.shows n current in
              (shown.shows.places.each map standing there).lies n (number n) (k.0, k.1, notes_map.pairs n current) current);
          tables = whole.1;
        }

  pub end_is_begun : (old new : Logged K V S) (map i : ℕ) → ((s : Scene K V) → IsThere same hash old.executor s → EndingBegins same hash map i s old.executor new.executor)
      → ((s : Scene K V) → IsThere same hash old.executor s → s.enders i ≡ None) → new.notes ≡ old.notes → PreservesSettings old.executor new.executor
      → (name : ℕ → List ℕ) (m : Moment K V) (s : Scene K V) → IsShown same hash name m old s → EndIsBegun same hash name m s map i old new
  end_is_begun old new map i begins yet noted given name m s shown nobody =
      let to = (begins s shown.is_at nobody).1 in (
        to.0,
        to.1,
        to.2,
        (
          shown.shows.all.shown.number map,
          subst (λ (n : Notes). NotesMap map (shown.shows.all.shown.number map) (known n) to.0.setting to.0.chart to.0.blocks) (sym noted) (notes_map old name m s shown map to.0 to.1),
          ends_all old name m s shown map to.0 to.1 to.2,
        ),
        record {
          is_at = to.4;
          shows = subst (λ (n : Notes). RefinesWhole {K = K} {V = V} same name m (known n) (ending_begun map i to.0 s)) (sym noted)
              (endings_begin_whole K V same (λ map. hash) name m (known old.notes) s (held_by new.executor) shown.shows map i to.0 to.1 to.4.held);
          kept = subst (λ (n : Notes). RefinesKept {K = K} {V = V} name m (known n) (ending_begun map i to.0 s)) (sym noted)
              (endings_begin_kept K V same (λ map. hash) name m (known old.notes) s (held_by old.executor) (held_by new.executor) shown.is_at.held shown.kept map i to.0 (yet s shown.is_at) to.4.held);
          counted = counted_end_begins same (λ map. hash) old new given noted name m s shown.is_at.held shown.shows.all.shown shown.counted map i to.0 to.1 (yet s shown.is_at) to.4.held;
        },
        subst (λ (n : Notes). ReportsWaiting {K = K} {V = V} same map i (finishing_of to.0 s.world) m m (known n) (ending_begun map i to.0 s).world) (sym noted)
            (waits_begin same map i to.0 m (known old.notes) s.world (ending_begun map i to.0 s).world),
      )

  -- the executor is there after each step
  pub end_there : (old new : Executor K V S) (s : Scene K V) (i : ℕ) (said : Settled (Node K V)) (went : EndsThere same hash i said s old new) (f : Finishing K V) (here : s.enders i ≡ Some f)
      → IsThere same hash new (ending_after same (λ map. hash) s (held_by new) i f (went f here).0 (went f here).2.w2 (went f here).2.deed said (ending_held same hash s old new i said went f here).3)
  end_there old new s i settled.Goes went f here = (went f here).3.1
  end_there old new s i settled.Waits went f here = absurd (went f here).3
  end_there old new s i (settled.Gave value) went f here = (went f here).3.3
  end_there old new s i settled.Done went f here = (went f here).3.2

  end_so : (old : Logged K V S) (stepped : Executor K V S) (notes : Notes) (i map : ℕ) (said : Settled (Node K V))
      → ((s : Scene K V) → IsThere same hash old.executor s → EndsThere same hash i said s old.executor stepped)
      → known notes ≡ known_after (Ending map) stepped.memory.changed (known old.notes) → PreservesSettings old.executor stepped
      → (name : ℕ → List ℕ) (m : Moment K V) (s : Scene K V) → IsShown same hash name m old s
      → EndContinues same hash name m s i map said (effects_of (Ending map) (known old.notes) stepped.memory.changed) old (record { executor = stepped; notes = notes })
  end_so old stepped notes i map said stepping noted given name m s shown f here not_there number first its still =
      let went = stepping s shown.is_at in
      let leads = ending_held same hash s old.executor stepped i said went in
      let to = leads f here in
      let effects = effects_of (Ending map) (known old.notes) stepped.memory.changed in (
        leads,
        did_end same (λ map. hash) name m (known old.notes) s (held_by old.executor) (held_by stepped) shown.is_at.held shown.shows i f here to.0 said to.1 to.2 map not_there to.3 number first its still,
        subst (λ (k : Known). NotedStill first k (f.back ++ taken_of to.2.deed)) (sym noted)
            (noted_on same (λ map. hash) name m (known old.notes) s (held_by old.executor) (held_by stepped) shown.is_at.held shown.shows i f here to.0 said to.1 to.2 map not_there to.3 number first its still),
        record {
          is_at = end_there old.executor stepped s i said went f here;
          shows = subst (λ (k : Known). RefinesWhole {K = K} {V = V} same name (with_effects None (Some map) effects m) k (ending_after same (λ map. hash) s (held_by stepped) i f to.0 to.2.w2 to.2.deed said to.3)) (sym noted)
              (endings_keep_whole K V same (λ map. hash) name m (known old.notes) s (held_by old.executor) (held_by stepped) shown.is_at.held shown.shows i said leads f here map not_there
              (ends_alone same (λ map. hash) name m (known old.notes) s (held_by old.executor) (held_by stepped) shown.is_at.held shown.shows i f here to.0 said to.1 to.2 map not_there to.3 number first its still)
              (endings_find_kept K V same (λ map. hash) name m (known old.notes) s (held_by old.executor) (held_by stepped) shown.is_at.held shown.shows shown.kept i said leads f here map not_there));
          kept = subst (λ (k : Known). RefinesKept {K = K} {V = V} name (with_effects None (Some map) effects m) k (ending_after same (λ map. hash) s (held_by stepped) i f to.0 to.2.w2 to.2.deed said to.3)) (sym noted)
              (endings_keep_kept K V same (λ map. hash) name m (known old.notes) s (held_by old.executor) (held_by stepped) shown.is_at.held shown.shows shown.kept i said leads f here map not_there
              (end_there old.executor stepped s i said went f here).held);
          counted = counted_end_steps same (λ map. hash) old stepped notes given m s shown.is_at.held shown.counted i map said leads f here noted first (taken_of to.2.deed)
              (did_end same (λ map. hash) name m (known old.notes) s (held_by old.executor) (held_by stepped) shown.is_at.held shown.shows i f here to.0 said to.1 to.2 map not_there to.3 number first its still)
              (endings_note_left same (λ map. hash) name m (known old.notes) s (held_by old.executor) (held_by stepped) shown.is_at.held shown.shows i map said leads f here not_there);
        },
        λ began before.
            subst (λ (k : Known). ReportsThen {K = K} {V = V} same map i f (is_done said) to.0 to.2.deed began (with_effects None (Some map) effects m) k to.2.w2) (sym noted)
            (waits_said same (λ map. hash) name m (known old.notes) s (held_by old.executor) (held_by stepped) shown.is_at.held shown.shows shown.kept i f here to.0 said to.1 to.2 map not_there to.3 number first its still
            (noted_on same (λ map. hash) name m (known old.notes) s (held_by old.executor) (held_by stepped) shown.is_at.held shown.shows i f here to.0 said to.1 to.2 map not_there to.3 number first its still) began before),
      )

-- The executor has taken the step, and then its memory was noted: the executor stayed as it was.
pub end_steps : {K V S : Type 0} (old new : Logged K V S) (stepped : Executor K V S) (i map : ℕ) (said : Settled (Node K V)) (before after : List Effect)
    → ((same : K → K → Bool) (hash : K → ℕ) (s : Scene K V) → IsThere same hash old.executor s → EndsThere same hash i said s old.executor stepped)
    → after ≡ before ++ effects_of (Ending map) (known old.notes) stepped.memory.changed
    → known new.notes ≡ known_after (Ending map) stepped.memory.changed (known old.notes)
    → new.executor ≡ stepped → PreservesSettings old.executor stepped → EndSteps i map said before after old new
end_steps {K} {V} {S} old new stepped i map said before after stepping did noted executor given =
    let effects = effects_of (Ending map) (known old.notes) stepped.memory.changed in (
      effects,
      did,
      λ same hash name m s shown. subst (λ (e : Executor K V S). EndContinues same hash name m s i map said effects old (record { executor = e; notes = new.notes })) (sym executor)
          (end_so same hash old stepped new.notes i map said (stepping same hash) noted given name m s shown),
    )

-- Without the map it is shown, too.
pub end_is_over : {K V S : Type 0} (l : Logged K V S) → EndIsOver l
end_is_over {K} {V} l same hash name m s shown own f is alone nobody pairs noted found others =
    record {
      is_at = shown.is_at;
      shows = endings_are_over_whole K V same name m (known l.notes) s shown.shows own (if_any f.root pairs m.remains) found others;
      kept = stays_kept K V name m (without_map own (if_any f.root pairs m.remains) m) (known l.notes) s s shown.kept refl refl refl refl refl refl refl refl refl;
      counted = counted_goes l m s shown.counted own f is alone nobody pairs noted;
    }

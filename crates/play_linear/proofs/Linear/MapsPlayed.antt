-- A step of the making of a map, and of its end, as it is played: the entry is linearizable, and what the moment shows of calls it shows then, while the map comes as it must and goes as it was noted.
use Rattle.std.specs.Prelude.{◌≡◌, ℕ, Bool, false, List, [], ◌∷◌, flat_map, Some, None}
use Rattle.std.proofs.Common.{refl, sym, subst}
use Rattle.seize_acts.specs.Given.SeizeDeclared.advance.Advance.{Advance as Making}
use Rattle.seize_acts.specs.Given.SeizeDeclared.rows.settle.Settled.{Settled}
use Rattle.play_lists.specs.Given.TablesDeclared.node.Node.{Node}
use Rattle.play_lists.specs.Given.TablesDeclared.setting.Setting.{Setting}
use Rattle.run_logged.specs.Given.ResizeDeclared.new_map.NewMap.{NewMap}
use Rattle.run_schedules.specs.Runs.Same.{is_same}
use Rattle.play_lists.specs.Given.FinishesEndings.{Finishing}
use Rattle.play_lists.specs.Given.FinishesFactsEnds.{taken_by as taken_of}
use Rattle.play_lists.specs.Given.FinishesMakings.{Beginning}
use Rattle.play_lists.specs.Given.FinishesMaps.{Standing}
use Rattle.run_schedules.specs.declared.effect.Effect.{Effect}
use Rattle.run_schedules.specs.declared.outcome.Outcome.{Outcome}
use Rattle.run_schedules.specs.Schedules.Beginning.{with_map}
use Rattle.run_schedules.specs.Schedules.Effects.{with_effects}
use Rattle.run_schedules.specs.Schedules.Linearizable.{shift_of}
use Rattle.run_schedules.specs.Schedules.Moment.{MapThere, Moment}
use Rattle.run_schedules.specs.Schedules.Views.{map_at, tables_of}
use Rattle.play_lists.specs.Given.EffectsEffects.{effects_of, known_after}
use Rattle.play_lists.specs.Given.EffectsKnown.{Known}
use Rattle.play_lists.specs.Given.EffectsDeclared.acting.Acting.TheVariants as acts
use Rattle.play_lists.specs.Given.OthersEndings.{ending_after, without_map}
use Rattle.play_lists.specs.Given.OthersMakings.{WasNew, making_after}
use Rattle.play_lists.specs.Given.ScenesEnding.{EndingLeads}
use Rattle.play_lists.specs.Given.ScenesHeld.{Held, IsAt}
use Rattle.play_lists.specs.Given.ScenesMaking.{MakingLeads}
use Rattle.play_lists.specs.Given.ScenesScene.{Scene}
use Rattle.run_logged.specs.Given.MomentsNumbers.{AreFound}
use Rattle.run_logged.specs.Log.Ends.{NotedStill, NotesMap}
use Rattle.run_logged.proofs.Log.EndTold.{did_end, ends_alone}
use Rattle.run_sweeps.proofs.Needs.Makings.{makings_do_theirs}
use Rattle.run_schedules.specs.Deeds.Deeds.{Deed, Ends, Entry, Makes, MapComes, MapFails, MapGoes, caller_of, come, moment, named}
use Rattle.run_schedules.specs.Deeds.History.{IsLinearizable, past}
use Rattle.play_lists.specs.Played.Play.{State, is_refusal, pairs_for}
use Rattle.play_linear.specs.Linear.Shown.{RefinesAnswers}
use Rattle.play_linear.proofs.Linear.CallEntries.{entry_answers, none_is_linearizable}
use Rattle.play_linear.proofs.Linear.Like.{likes_answer}
use Rattle.play_linear.proofs.Linear.OthersGo.{ends_step, makings_step, maps_come, maps_go}
use Rattle.play_linear.proofs.Linear.Shifts.{ends_shift_none, firsts_shift_none}

module _ {K V : Type 0} where
  -- no map that stands has this name
  abbrev pub IsApart : ℕ → Moment K V → Scene K V → Type 0
  IsApart map v t = (n : ℕ) (standing : Standing K) (there : MapThere) → t.maps n ≡ Some standing → map_at n v ≡ Some there → is_same there.name (named map) ≡ false

module _ {K V S : Type 0} (same : K → K → Bool) (hash : ℕ → K → ℕ) (x : State K V S) (s : Scene K V) (old new : Held K V) (at : IsAt same hash old s)
    (all : RefinesAnswers same (past x.history) (moment x.history) x.known s) (i : ℕ) where
  abbrev m : Moment K V
  m = moment x.history

  -- A step of a making
  module _ (said : Making Setting) (leads : MakingLeads same hash i said s old new) (b : Beginning K) (here : s.makers i ≡ Some b) (o : Outcome V) where
    abbrev effects : List Effect
    effects = effects_of (acts.Making b.map) x.known new.changed

    abbrev known_then : Known
    known_then = known_after (acts.Making b.map) new.changed x.known

    abbrev pub made : Scene K V
    made = let to = leads b here in making_after same hash s old new i b to.0 to.2.step.w2 said to.3

    -- the map that comes
    abbrev coming : NewMap → MapThere
    coming next = record { name = named b.map; number = b.map; root = next.setting.root; mode = next.setting.mode; capacity = pairs_for next.len; first = 0 }

    abbrev of : Deed K V → Entry K V
    of deed = record { deed = deed; outcome = o; effects = effects; refused = is_refusal new.changed }

    pub makings_are_linearizable : (d : Deed K V) → caller_of d ≡ None → IsLinearizable same x.history (of d)
    makings_are_linearizable d none =
        none_is_linearizable same x.history (of d) none
        (firsts_shift_none effects (makings_do_theirs K V same hash named m x.known s old new at all.whole.all.shown i said leads b here (all.whole.counters i b here)))

    -- one by which the map neither comes nor goes,
    pub makes_answer : WasNew b.map said m → RefinesAnswers same (past (of (Makes b.map) ∷ x.history)) (moment (of (Makes b.map) ∷ x.history)) known_then made
    makes_answer was_new =
        entry_answers same x.history (of (Makes b.map)) (with_effects None (Some b.map) effects m) known_then made (makings_step K V same hash (past x.history) m x.known s all old new at i said leads b here was_new) refl

    -- one by which it comes,
    pub comes_answer : (next : NewMap) → tables_of b.map m ≡ [] → WasNew b.map said (come (coming next) m)
        → (let e = of (MapComes b.map next.setting.root next.setting.mode (pairs_for next.len)) in RefinesAnswers same (past (e ∷ x.history)) (moment (e ∷ x.history)) known_then made)
    comes_answer next no_tables was_new =
        let e = of (MapComes b.map next.setting.root next.setting.mode (pairs_for next.len)) in
        let there = likes_answer same (past x.history) x.known s (with_map (coming next) m) (come (coming next) m)
        (maps_come K V same hash (past x.history) m x.known s all old new at (coming next) no_tables) refl in
        entry_answers same x.history e (with_effects None (Some b.map) effects (come (coming next) m)) known_then made
        (makings_step K V same hash (past x.history) (come (coming next) m) x.known s there old new at i said leads b here was_new) refl

    -- and one by which it is there no more
    pub fails_answer : WasNew b.map said m → AreFound (with_effects None (Some b.map) effects m) → IsApart b.map (with_effects None (Some b.map) effects m) made
        → IsAt same hash new made → RefinesAnswers same (past (of (MapFails b.map) ∷ x.history)) (moment (of (MapFails b.map) ∷ x.history)) known_then made
    fails_answer was_new found apart at2 =
        let v = with_effects None (Some b.map) effects m in
        entry_answers same x.history (of (MapFails b.map)) (without_map (named b.map) v.remains v) known_then made
        (maps_go K V same hash (past x.history) v known_then made (makings_step K V same hash (past x.history) m x.known s all old new at i said leads b here was_new) new new at2 (named b.map) v.remains found apart) refl

  -- A step of an end
  module _ (said : Settled (Node K V)) (leads : EndingLeads same hash i said s old new) (f : Finishing K V) (here : s.enders i ≡ Some f) (map : ℕ) (not_there : s.maps map ≡ None) (number : ℕ → ℕ) (first : Known)
      (notes : NotesMap map number first f.setting f.chart f.blocks) (still : NotedStill first x.known f.back) (o : Outcome V) where
    abbrev end_effects : List Effect
    end_effects = effects_of (acts.Ending map) x.known new.changed

    abbrev known_end : Known
    known_end = known_after (acts.Ending map) new.changed x.known

    abbrev pub ended : Scene K V
    ended = let to = leads f here in ending_after same hash s new i f to.0 to.2.w2 to.2.deed said to.3

    abbrev pub end_of : Deed K V → Entry K V
    end_of deed = record { deed = deed; outcome = o; effects = end_effects; refused = is_refusal new.changed }

    ends_shown : RefinesAnswers same (past x.history) (with_effects None (Some map) end_effects m) known_end ended
    ends_shown =
        ends_step K V same hash (past x.history) m x.known s all old new at i said leads f here map not_there
        (ends_alone same hash named m x.known s old new at all.whole i f here (leads f here).0 said (leads f here).1 (leads f here).2 map not_there (leads f here).3 number first notes still)

    pub ends_are_linearizable : (d : Deed K V) → caller_of d ≡ None → IsLinearizable same x.history (end_of d)
    ends_are_linearizable d none =
        none_is_linearizable same x.history (end_of d) none
        (subst (λ (l : List Effect). flat_map shift_of l ≡ [])
        (sym (did_end same hash named m x.known s old new at all.whole i f here (leads f here).0 said (leads f here).1 (leads f here).2 map not_there (leads f here).3 number first notes still))
        (ends_shift_none map first (taken_of (leads f here).2.deed)))

    pub ends_answer : RefinesAnswers same (past (end_of (Ends map) ∷ x.history)) (moment (end_of (Ends map) ∷ x.history)) known_end ended
    ends_answer = entry_answers same x.history (end_of (Ends map)) (with_effects None (Some map) end_effects m) known_end ended ends_shown refl

    pub goes_answer : AreFound (with_effects None (Some map) end_effects m) → IsApart map (with_effects None (Some map) end_effects m) ended → IsAt same hash new ended
        → RefinesAnswers same (past (end_of (MapGoes map) ∷ x.history)) (moment (end_of (MapGoes map) ∷ x.history)) known_end ended
    goes_answer found apart at2 =
        let v = with_effects None (Some map) end_effects m in
        entry_answers same x.history (end_of (MapGoes map)) (without_map (named map) v.remains v) known_end ended
        (maps_go K V same hash (past x.history) v known_end ended ends_shown new new at2 (named map) v.remains found apart) refl

-- Each entry of a history has done what its call is for, and the moment shows sweeps and counts: so it stays by each kind of step.
use Rattle.std.specs.Prelude.{◌≡◌, ℕ, suc, Bool, true, List, ◌∷◌, Option, Some, None}
use Rattle.std.proofs.Common.{refl, ap, sym, subst, ◌∙◌, arith}
use Rattle.play_lists.specs.Given.FinishesMaps.{Standing}
use Rattle.run_schedules.specs.declared.effect.Effect.{Effect}
use Rattle.run_schedules.specs.declared.outcome.Outcome.{Outcome}
use Rattle.run_schedules.specs.declared.outcome.Outcome.TheVariants as outcome
use Rattle.run_schedules.specs.Schedules.Beginning.{with_call, with_map}
use Rattle.run_schedules.specs.Schedules.Effects.{with_effects}
use Rattle.run_schedules.specs.Schedules.Entry.{IfCall, acting}
use Rattle.run_schedules.specs.Schedules.Moment.{Moment, UnderWay as CallThere}
use Rattle.run_schedules.specs.Schedules.Terms.{Terms, shards_of}
use Rattle.run_schedules.specs.Schedules.Transition.{worked_by}
use Rattle.play_lists.specs.Given.EffectsEffects.{effects_of, known_after}
use Rattle.play_lists.specs.Given.EffectsKnown.{Known}
use Rattle.play_lists.specs.Given.EffectsDeclared.acting.Acting.TheVariants as acts
use Rattle.play_lists.specs.Given.ScenesScene.{Scene, slot_of}
use Rattle.play_lists.specs.Given.ScenesStepping.{scene_after}
use Rattle.play_lists.specs.Given.FollowsCalling.{come_to, told}
use Rattle.play_lists.specs.Given.OthersEndings.{without_map}
use Rattle.play_lists.specs.Given.OthersWalks.{given_up}
use Rattle.run_sweeps.proofs.Purposes.Nothing.{no_calls_are_swept}
use Rattle.play_lists.specs.Agrees.Shards.{ShardsAre}
use Rattle.run_schedules.specs.Deeds.Deeds.{Begins, Ends, Entry, Makes, MapFails, MapGoes, ReclaimsAll, Replies, Steps, Stops, acted_on, after, caller_of, come, map_of_call, moment, named, worked}
use Rattle.run_schedules.specs.Deeds.History.{IsSwept, is_of_kind, past, transition}
use Rattle.run_logged.specs.Given.NamedSeen.{kind_of}
use Rattle.play_lists.specs.Played.Play.{call_for, is_over, is_refusal, making_outcome, outcome_of, row_deed, settled_outcome}
use Rattle.play_linear.specs.Linear.Shown.{RefinesAnswers}
use Rattle.play_linear.proofs.Linear.Like.{IsLike, likes_answer}
use Rattle.play_linear.proofs.Linear.OthersGo.{makings_step, ends_step, maps_come}
use Rattle.play_linear.proofs.Linear.RowsPlayed.{is_of_row, no_caller, rows_like}
use Rattle.play_linear.specs.Swept.Shown.{HasSwept, RefinesSweeps}
use Rattle.play_linear.proofs.Swept.Calls.{reads, sweeps_begin, sweeps_go_on, sweeps_step, sweeps_stop, sweeps_take}
use Rattle.play_linear.proofs.Swept.Kept.{IsKept, alone, coming, comes_by}
use Rattle.play_linear.proofs.Swept.Others.{sweeps_by_end, sweeps_by_end_begun, sweeps_by_making, sweeps_by_making_begun, sweeps_by_map_come, sweeps_by_map_gone, sweeps_by_reclaiming, sweeps_by_row, sweeps_by_row_begun, sweeps_chosen, sweeps_like, sweeps_over}
use Rattle.play_linear.proofs.Swept.SweptBy.{pair_words, right, shows_as_walk, walks_bring_none}
use Rattle.run_schedules.proofs.Given.General.{same_some}

module _ {K V : Type 0} (same : K → K → Bool) (terms : Terms) where
  -- an entry of no call is swept
  none_swept : (history : List (Entry K V)) (e : Entry K V) → caller_of e.deed ≡ None → IsSwept same terms history e
  none_swept history e none = (
    subst (λ (o : Option (List ℕ)). IfCall (λ (c : CallThere K V). is_of_kind c.call e.outcome ≡ true) (acting o (worked_by (transition history e)))) (sym none) tt,
    no_calls_are_swept K V same terms (past history) (transition history e) none,
  )

  -- one more entry, whose moment is like that to which its effects, and what it begins and ends, have led
  one_more : (history : List (Entry K V)) (known known2 : Known) (s t : Scene K V) → RefinesAnswers same (past history) (moment history) known s → HasSwept same terms history known s
      → (e : Entry K V) → IsSwept same terms history e → (m : Moment K V) → RefinesSweeps same (past history) m known2 t → IsLike m (after e (moment history)) → HasSwept same terms (e ∷ history) known2 t
  one_more history known known2 s t all has e swept m sweeps like = record {
    shows = sweeps_over same (past history) known2 t m (after e (moment history)) sweeps like (let before = all.dues.history.past.counted in omega (arith, before));
    each = (swept, has.each);
  }

module _ {K V : Type 0} (same : K → K → Bool) (hash : ℕ → K → ℕ) (terms : Terms) where
  abbrev pub Shards : List (Entry K V) → Known → Scene K V → Type 0
  Shards history known s = ShardsAre (shards_of terms) s

  abbrev pub P : List (Entry K V) → Known → Scene K V → Type 0
  P history known s = HasSwept same terms history known s

  pub sweeps_are_kept : IsKept same hash Shards P
  sweeps_are_kept = record {
    calls_begin = λ history known s old new at all shards has map i standing there wanted begins none rests at2 shows.
        one_more same terms history known known s _ all has (alone (Begins i (slot_of i) map (call_for wanted)) outcome.Goes)
        (none_swept same terms history (alone (Begins i (slot_of i) map (call_for wanted)) outcome.Goes) refl) (with_call (named i) (named (slot_of i)) (call_for wanted) (Some map) (moment history))
        (sweeps_begin same hash (past history) known s old new at all has.shows map i standing there wanted begins none) refl;
    calls_step = λ history known s old new at all shards has map i u here said leads d d_is called called_is value keeps ended shows.
        (let known2 = known_after (acts.Call i map) new.changed known in
        let effects : List Effect = effects_of (acts.Call i map) known new.changed in
        let o : Outcome V = outcome_of known2 (kind_of called) value said in
        let e : Entry K V = record { deed = Steps i; outcome = o; effects = effects; refused = is_refusal new.changed } in
        let shown = all.whole.all.shown.calls map i u here in
        let on_map : d.map ≡ map = ap (λ (c : CallThere K V). c.map) (same_some d shown.0 (sym d_is ∙ shown.1)) ∙ shown.2 in
        let acted : acted_on {K = K} {V = V} (Steps i) (moment history) ≡ Some map = ap map_of_call d_is ∙ ap Some on_map in
        let v : Moment K V = with_effects (Some (named i)) (Some map) effects (moment history) in
        let worked_is : worked e (moment history) ≡ v = ap (λ (a : Option ℕ). with_effects (Some (named i)) a effects (moment history)) acted in
        let masks : (standing : Standing K) → s.maps map ≡ Some standing → suc standing.setting.mask ≡ shards_of terms =
        λ standing there. (let mask = shards.standing map standing there in omega (arith, mask)) in
        let swept : IsSwept same terms history e =
        right same hash terms (past history) known s old new at all.whole has.shows.purposes map i u here said leads (reads same hash (past history) known s old new at all has.shows map i u here said leads) masks d d_is value
        (transition history e) refl worked_is (walks_bring_none same hash history known s old new at all has.shows.purposes map i u here said leads d d_is)
        (shows_as_walk same hash history known s old new at all has.shows.purposes map i u here said leads d d_is) called called_is refl in
        let sweeps = sweeps_step same hash (past history) known s old new at all has.shows map i u here said leads called value (pair_words same hash history known s old new at all has.shows.purposes map i u here said leads d d_is)
        ended in
        one_more same terms history known known2 s _ all has e swept (come_to (named i) o 1 (worked e (moment history)))
        (subst (λ (x : Moment K V). RefinesSweeps same (past history) (come_to (named i) o 1 x) known2 (let to = leads map u here in scene_after same s old new map i to.0 u to.1 said to.4)) (sym worked_is) sweeps) refl);
    calls_take = λ history known s old new at all shards has map i u here d d_is question asks standing there reply next next_is takes kind at2 shows.
        one_more same terms history known known s _ all has (alone (Replies i reply) outcome.Goes) (none_swept same terms history (alone (Replies i reply) outcome.Goes) refl) (told (named i) reply (moment history))
        (sweeps_take same hash (past history) known s old new at all has.shows map i u here d d_is question asks standing there reply next next_is takes kind) refl;
    walks_go_on = λ history known s old new at all shards has map i leads o here is shows. record { shows = sweeps_go_on same hash (past history) known s old new at all has.shows map i leads o here is; each = has.each };
    walks_stop = λ history known s old new at all shards has map i leads u here none shows.
        one_more same terms history known known s _ all has (alone (Stops i) outcome.Done) (none_swept same terms history (alone (Stops i) outcome.Done) refl) (given_up (named i) true (moment history))
        (sweeps_stop same hash (past history) known s old new at all has.shows map i leads u here none) refl;
    rows_begin = λ history known s old new at all shards has called i leads shows.
        record { shows = sweeps_by_row_begun K V same hash (past history) (moment history) known s all has.shows old new at called i leads; each = has.each };
    rows_step = λ history known s old new at all shards has i said leads row here o shows.
        (let e : Entry K V = record { deed = row_deed row; outcome = o; effects = effects_of acts.Row known new.changed; refused = is_refusal new.changed } in
        one_more same terms history known (known_after acts.Row new.changed known) s _ all has e (none_swept same terms history e (no_caller (row_deed row) (is_of_row K V row)))
        (with_effects None None e.effects (moment history)) (sweeps_by_row K V same hash (past history) (moment history) known s all has.shows old new at i said leads row here)
        (rows_like (row_deed row) (is_of_row K V row) o e.effects e.refused (moment history)));
    all_step = λ history known s old new all has i lists before next told at leads shows.
        (let e : Entry K V = record { deed = ReclaimsAll (is_over told); outcome = settled_outcome told; effects = effects_of acts.Row known new.changed; refused = is_refusal new.changed } in
        one_more same terms history known (known_after acts.Row new.changed known) s _ all has e (none_swept same terms history e refl) (with_effects None None e.effects (moment history))
        (sweeps_by_reclaiming K V same hash (past history) (moment history) known s all has.shows old new i lists before next told at leads)
        (rows_like (ReclaimsAll (is_over told)) tt (settled_outcome told) e.effects e.refused (moment history)));
    makings_begin = λ history known s old new at all shards has i b none not_made fresh at2 shows.
        record { shows = sweeps_by_making_begun K V same hash (past history) (moment history) known s all has.shows old new at i b not_made fresh.bare.no_count at2; each = has.each };
    makings_step = λ history known s old new at all shards has i said leads b here was_new at2 shows.
        (let e : Entry K V = record { deed = Makes b.map; outcome = making_outcome said; effects = effects_of (acts.Making b.map) known new.changed; refused = is_refusal new.changed } in
        one_more same terms history known (known_after (acts.Making b.map) new.changed known) s _ all has e (none_swept same terms history e refl) (with_effects None (Some b.map) e.effects (moment history))
        (sweeps_by_making K V same hash (past history) (moment history) known s all has.shows old new at i said leads b here was_new) refl);
    maps_come = λ history known s old new at all shards has i said leads b here next had on no_tables was_new at2 shows.
        (let e : Entry K V = record { deed = comes_by b next; outcome = making_outcome said; effects = effects_of (acts.Making b.map) known new.changed; refused = is_refusal new.changed } in
        let m = moment history in
        let then_all = likes_answer same (past history) known s (with_map (coming b next) m) (come (coming b next) m) (maps_come K V same hash (past history) m known s all old new at (coming b next) no_tables) refl in
        let then_sweeps = sweeps_like same (past history) known s (with_map (coming b next) m) (come (coming b next) m) (sweeps_by_map_come K V same hash (past history) m known s all has.shows old new at (coming b next) no_tables)
        refl in
        one_more same terms history known (known_after (acts.Making b.map) new.changed known) s _ all has e (none_swept same terms history e refl) (with_effects None (Some b.map) e.effects (come (coming b next) m))
        (sweeps_by_making K V same hash (past history) (come (coming b next) m) known s then_all then_sweeps old new at i said leads b here was_new) refl);
    maps_fail = λ history known s old new at all shards has i said leads b here was_new found apart at2 shows.
        (let e : Entry K V = record { deed = MapFails b.map; outcome = making_outcome said; effects = effects_of (acts.Making b.map) known new.changed; refused = is_refusal new.changed } in
        let m = moment history in
        let v : Moment K V = with_effects None (Some b.map) e.effects m in
        let known2 = known_after (acts.Making b.map) new.changed known in
        let then_all = makings_step K V same hash (past history) m known s all old new at i said leads b here was_new in
        let then_sweeps = sweeps_by_making K V same hash (past history) m known s all has.shows old new at i said leads b here was_new in
        one_more same terms history known known2 s _ all has e (none_swept same terms history e refl) (without_map (named b.map) v.remains v)
        (sweeps_by_map_gone K V same hash (past history) v known2 _ then_all then_sweeps new new at2 (named b.map) v.remains apart) refl);
    ends_begin = λ history known s old new at all shards has map i standing there none at2 shows.
        record { shows = sweeps_by_end_begun K V same hash (past history) (moment history) known s all has.shows old new at map i standing there at2; each = has.each };
    ends_step = λ history known s old new at all shards has i said leads f here map not_there its at2 shows.
        (let e : Entry K V = record { deed = Ends map; outcome = settled_outcome said; effects = effects_of (acts.Ending map) known new.changed; refused = is_refusal new.changed } in
        one_more same terms history known (known_after (acts.Ending map) new.changed known) s _ all has e (none_swept same terms history e refl) (with_effects None (Some map) e.effects (moment history))
        (sweeps_by_end K V same hash (past history) (moment history) known s all has.shows old new at i said leads f here map not_there its) refl);
    maps_go = λ history known s old new at all shards has i said leads f here map not_there its found apart at2 shows.
        (let e : Entry K V = record { deed = MapGoes map; outcome = settled_outcome said; effects = effects_of (acts.Ending map) known new.changed; refused = is_refusal new.changed } in
        let m = moment history in
        let v : Moment K V = with_effects None (Some map) e.effects m in
        let known2 = known_after (acts.Ending map) new.changed known in
        let then_all = ends_step K V same hash (past history) m known s all old new at i said leads f here map not_there its in
        let then_sweeps = sweeps_by_end K V same hash (past history) m known s all has.shows old new at i said leads f here map not_there its in
        one_more same terms history known known2 s _ all has e (none_swept same terms history e refl) (without_map (named map) v.remains v)
        (sweeps_by_map_gone K V same hash (past history) v known2 _ then_all then_sweeps new new at2 (named map) v.remains apart) refl);
    choices_come = λ history known s all has choice shows. record { shows = sweeps_chosen same (past history) known s (moment history) all has.shows choice; each = has.each };
  }

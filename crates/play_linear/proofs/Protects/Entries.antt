-- After a step of a call, of a making and of an end its entry reclaims nothing that is sheltered, and sections that are open shelter what they did.
use Rattle.std.specs.Prelude.{Bool, true, false, Option, Some, None, flat_map, if◌then◌else◌}
use Rattle.std.specs.Option.{is_none}
use Rattle.std.proofs.Common.{◌≡◌, ℕ, List, [], refl, ap, sym, subst, ◌∙◌}
use Rattle.seize_acts.specs.Given.SeizeWorld.{World}
use Rattle.seize_acts.specs.Given.SeizeDeclared.advance.Advance.{Advance}
use Rattle.seize_acts.specs.Given.SeizeDeclared.rows.settle.Settled.{Settled}
use Rattle.play_lists.specs.Given.TablesNodes.{deferred_word}
use Rattle.play_lists.specs.Given.TablesDeclared.node.Node.{Node}
use Rattle.play_lists.specs.Given.TablesDeclared.setting.Setting.{Setting}
use Rattle.run_logged.specs.Given.ResizeDeclared.new_map.NewMap.{NewMap}
use Rattle.run_logged.specs.Given.RawDeclared.machines.progress.Progress.{Progress as CallProgress}
use Rattle.run_schedules.specs.Schedules.Effects.{with_effects}
use Rattle.run_schedules.specs.Schedules.Model.{thing_back}
use Rattle.run_schedules.specs.Schedules.Moment.{Moment, UnderWay as CallThere}
use Rattle.run_schedules.specs.declared.call.Call.{Call}
use Rattle.run_schedules.specs.declared.effect.Effect.{Effect}
use Rattle.run_schedules.specs.declared.outcome.Outcome.{Outcome}
use Rattle.run_logged.specs.Given.CallersTogether.{UnderWay}
use Rattle.run_logged.proofs.Given.CallersTogether.Came.{came_reached}
use Rattle.seize_acts.proofs.Given.SeizeAloneHistories.Reached.{Reached}
use Rattle.play_lists.specs.Given.EffectsEffects.{effects_of, known_after}
use Rattle.play_lists.specs.Given.EffectsKnown.{Known}
use Rattle.play_lists.specs.Given.EffectsDeclared.acting.Acting.TheVariants as acts
use Rattle.play_lists.specs.Given.FinishesEndings.{Finishing}
use Rattle.play_lists.specs.Given.FinishesMakings.{Beginning}
use Rattle.run_logged.specs.Given.MomentsWhole.{RefinesWhole}
use Rattle.play_lists.specs.Given.OthersMakings.{WasNew}
use Rattle.play_lists.specs.Given.ScenesEnding.{EndingLeads}
use Rattle.play_lists.specs.Given.ScenesHeld.{Held, IsAt}
use Rattle.play_lists.specs.Given.ScenesMaking.{MakingLeads}
use Rattle.play_lists.specs.Given.ScenesScene.{HasNoCall, Scene, row_of}
use Rattle.play_lists.specs.Given.ScenesStepping.{StepLeads}
use Rattle.play_lists.specs.Given.ScenesDeclared.row.SlotRow.{SlotRow}
use Rattle.play_lists.specs.Given.PromisesSheltered.{AreShelteredOn, GuardsAreOn}
use Rattle.run_schedules.specs.Deeds.Deeds.{Deed, Ends, Entry, Makes, MapComes, MapFails, MapGoes, Steps, acted_on, after, at_work, begun, caller_of, map_of_call, moment, named, worked}
use Rattle.run_schedules.specs.Deeds.History.{IsProtected}
use Rattle.play_lists.specs.Played.Play.{Ending, State, ending_deed, has_root, is_over, making_deed, pairs_for}
use Rattle.play_lists.specs.Played.Reached.{IsOf, row_or_rests}
use Rattle.play_lists.proofs.Played.Noted.{IsNoted}
use Rattle.play_lists.specs.Agrees.Guards.{GuardsAgree}
use Rattle.play_linear.specs.Protects.Shelters.{IsOpen, SectionsShelter}
use Rattle.play_linear.proofs.Protects.After.{IsCalm, calm_shelters, none_back, protected_so}
use Rattle.play_linear.proofs.Protects.Guards.{all_spared, guards_spared}
use Rattle.play_linear.proofs.Protects.ByKind.{call_step_shelters, ending_step_shelters, making_step_shelters}

-- deeds by which nobody comes or goes
module _ (K V : Type 0) where
  call_calm : (i : ℕ) → IsCalm {K = K} {V = V} (Steps i)
  call_calm i = record { there = λ there. refl; sheltered = λ xs. refl }

  pub making_calm : (map : ℕ) (before next : NewMap) → IsCalm {K = K} {V = V} (making_deed map before next)
  making_calm map before next = by (has_root before.stands) (has_root next.stands)
    where
      by : (b c : Bool)
          → IsCalm {K = K} {V = V} (if b then (if c then Makes map else MapFails map) else (if c then MapComes map next.setting.root next.setting.mode (pairs_for next.len) else Makes map))
      by true true = record { there = λ there. refl; sheltered = λ xs. refl }
      by true false = record { there = λ there. refl; sheltered = λ xs. refl }
      by false true = record { there = λ there. refl; sheltered = λ xs. refl }
      by false false = record { there = λ there. refl; sheltered = λ xs. refl }

  ending_calm : {T : Type 0} (f : Ending) (told : Settled T) → IsCalm {K = K} {V = V} (ending_deed f told)
  ending_calm f told = by (is_over told)
    where
      by : (q : Bool) → IsCalm {K = K} {V = V} (if q then MapGoes f.map else Ends f.map)
      by true = record { there = λ there. refl; sheltered = λ xs. refl }
      by false = record { there = λ there. refl; sheltered = λ xs. refl }

  -- It is of no call, and begins nothing.
  pub record IsPlain (d : Deed K V) (m : Moment K V) : Type 0 where
    pub no_caller : caller_of d ≡ None
    pub begins : begun d m ≡ m

  making_plain : (map : ℕ) (before next : NewMap) (m : Moment K V) → has_root before.stands ≡ true → IsPlain (making_deed map before next) m
  making_plain map before next m rooted =
      subst (λ (b : Bool). IsPlain (if b then (if has_root next.stands then Makes map else MapFails map) else (if has_root next.stands then MapComes map next.setting.root next.setting.mode (pairs_for next.len) else Makes map)) m)
      (sym rooted) (by (has_root next.stands))
    where
      by : (c : Bool) → IsPlain (if c then Makes map else MapFails map) m
      by true = record { no_caller = refl; begins = refl }
      by false = record { no_caller = refl; begins = refl }

  ending_plain : {T : Type 0} (f : Ending) (told : Settled T) (m : Moment K V) → IsPlain (ending_deed f told) m × (acted_on (ending_deed {K = K} {V = V} f told) m ≡ Some f.map)
  ending_plain f told m = by (is_over told)
    where
      by : (q : Bool) → IsPlain (if q then MapGoes f.map else Ends f.map) m × (acted_on {K = K} {V = V} (if q then MapGoes f.map else Ends f.map) m ≡ Some f.map)
      by true = (record { no_caller = refl; begins = refl }, refl)
      by false = (record { no_caller = refl; begins = refl }, refl)

module _ {K V : Type 0} where
  -- the effects of a plain deed are on the moment before it
  plain_works : (e : Entry K V) (m : Moment K V) → IsPlain K V e.deed m → (worked e m).sheltered ≡ (with_effects None (acted_on e.deed m) e.effects m).sheltered
  plain_works e m plain =
      ap (λ (c : Option (List ℕ)). (with_effects c (acted_on e.deed (at_work e m)) e.effects (at_work e m)).sheltered) plain.no_caller
      ∙ ap (λ (v : Moment K V). (with_effects None (acted_on e.deed v) e.effects v).sheltered) plain.begins

module _ {K V S : Type 0} (same : K → K → Bool) (by_hasher : S → K → ℕ) (hash : ℕ → K → ℕ) (x : State K V S) (s : Scene K V) (is : IsOf by_hasher s s.world.row x.now) (old new : Held K V)
    (at : IsAt same hash old s) (whole : RefinesWhole same named (moment x.history) x.known s) (shelter : SectionsShelter (moment x.history) x.known s.world) where
  abbrev m : Moment K V
  m = moment x.history

  abbrev w : World (Node K V)
  w = s.world

  -- so it is after an entry
  abbrev pub Then : Entry K V → Known → World (Node K V) → Type 0
  Then e known w2 = SectionsShelter (after e m) known w2 × IsProtected x.history e

  calm_then : (e : Entry K V) (known : Known) (w2 : World (Node K V)) → IsCalm e.deed → GuardsAreOn (IsOpen w2) m.there → AreShelteredOn (IsOpen w2) m.there w2 known (worked e m).sheltered
      → flat_map thing_back e.effects ≡ [] → Then e known w2
  calm_then e known w2 calm guards held none = (calm_shelters e m known w2 calm guards held, protected_so e x.history (none_back e.effects none (after e m).sheltered))

  -- a row between calls is that of the scene
  is_row : (j : ℕ) (row : SlotRow) → x.now.rows j ≡ Some row → s.world.row j ≡ row_of row
  is_row j row has = sym (is.between j no_call) ∙ ap row_or_rests has
    where
      no_call : HasNoCall s j
      no_call map = by (s.calls map j) refl
        where
          by : (o : Option (UnderWay K V K)) → s.calls map j ≡ o → is_none o ≡ true
          by None e = refl
          by (Some u) e = absurd (let none = is.calling map j u e in cc (none, has))

  pub reached : Reached deferred_word old.batch_size w
  reached = came_reached old.batch_size w at.together.makings.standing.came

  -- A step of a call,
  pub call_entry : GuardsAgree x w.uses → (map i : ℕ) (u : UnderWay K V K) (here : s.calls map i ≡ Some u) (told : CallProgress (Node K V)) (leads : StepLeads same hash i told s old new) (call : Call K V) → IsNoted m map i call
      → (o : Outcome V) (refused : Bool)
      → Then (record { deed = Steps i; outcome = o; effects = effects_of (acts.Call i map) x.known new.changed; refused = refused }) (known_after (acts.Call i map) new.changed x.known) (leads map u here).4.w2
  call_entry guards map i u here told leads call (its, found, map_is, called) o refused =
      let effects = effects_of (acts.Call i map) x.known new.changed in
      let e : Entry K V = record { deed = Steps i; outcome = o; effects = effects; refused = refused } in
      let w2 = (leads map u here).4.w2 in
      let known2 = known_after (acts.Call i map) new.changed x.known in
      let no_row = is.calling map i u here in
      let by = call_step_shelters same hash named m x.known s old new at whole map i u here told leads (guards_spared old.batch_size w reached x.now.rows is_row m.there guards i no_row shelter.guards)
      (all_spared old.batch_size w reached x.now.rows is_row m.there guards i no_row x.known m.sheltered shelter.held) in
      let acted : acted_on {K = K} {V = V} (Steps i) m ≡ Some map = ap (λ (c : Option (CallThere K V)). map_of_call c) found ∙ ap Some map_is in
      calm_then e known2 w2 (call_calm K V i) by.0 (subst (λ (a : Option ℕ). AreShelteredOn (IsOpen w2) m.there w2 known2 (with_effects (Some (named i)) a effects m).sheltered) (sym acted) by.1) by.2

  -- of a making that has its root,
  pub making_entry : (i : ℕ) (told : Advance Setting) (leads : MakingLeads same hash i told s old new) (b : Beginning K) (here : s.makers i ≡ Some b) → WasNew b.map told m → (before next : NewMap) → has_root before.stands ≡ true
      → (o : Outcome V) (refused : Bool)
      → Then (record { deed = making_deed b.map before next; outcome = o; effects = effects_of (acts.Making b.map) x.known new.changed; refused = refused }) (known_after (acts.Making b.map) new.changed x.known)
      (leads b here).2.step.w2
  making_entry i told leads b here was_new before next rooted o refused =
      let effects = effects_of (acts.Making b.map) x.known new.changed in
      let e : Entry K V = record { deed = making_deed b.map before next; outcome = o; effects = effects; refused = refused } in
      let w2 = (leads b here).2.step.w2 in
      let known2 = known_after (acts.Making b.map) new.changed x.known in
      let by = making_step_shelters same hash named m x.known s old new at whole shelter i told leads b here (acted_on e.deed m) was_new in
      calm_then e known2 w2 (making_calm K V b.map before next) by.0
      (subst (AreShelteredOn (IsOpen w2) m.there w2 known2) (sym (plain_works e m (making_plain K V b.map before next m rooted))) by.1) by.2

  -- of an end,
  pub ending_entry : (i : ℕ) (told : Settled (Node K V)) (leads : EndingLeads same hash i told s old new) (f : Finishing K V) (here : s.enders i ≡ Some f) (its : Ending) → s.maps its.map ≡ None → (o : Outcome V) (refused : Bool)
      → Then (record { deed = ending_deed its told; outcome = o; effects = effects_of (acts.Ending its.map) x.known new.changed; refused = refused }) (known_after (acts.Ending its.map) new.changed x.known)
      (leads f here).2.w2
  ending_entry i told leads f here its not_there o refused =
      let effects = effects_of (acts.Ending its.map) x.known new.changed in
      let e : Entry K V = record { deed = ending_deed its told; outcome = o; effects = effects; refused = refused } in
      let w2 = (leads f here).2.w2 in
      let known2 = known_after (acts.Ending its.map) new.changed x.known in
      let plain = ending_plain K V its told m in
      let by = ending_step_shelters same hash named m x.known s old new at whole shelter i told leads f here its.map not_there in
      calm_then e known2 w2 (ending_calm K V its told) by.0
      (subst (AreShelteredOn (IsOpen w2) m.there w2 known2) (sym (plain_works e m plain.0 ∙ ap (λ (a : Option ℕ). (with_effects None a effects m).sheltered) plain.1)) by.1) by.2

  -- and one without effects, by which open sections go on.
  pub quiet_entry : (e : Entry K V) → e.effects ≡ [] → IsCalm e.deed → (begun e.deed m).sheltered ≡ m.sheltered → (w2 : World (Node K V)) → ((t : ℕ) → IsOpen w t → IsOpen w2 t)
      → AreShelteredOn (IsOpen w2) m.there w2 x.known m.sheltered → Then e x.known w2
  quiet_entry e none calm begins w2 on held =
      calm_then e x.known w2 calm (λ own g found. on g.slot (shelter.guards own g found))
      (subst (AreShelteredOn (IsOpen w2) m.there w2 x.known) (sym (ap (λ (fs : List Effect). (with_effects (caller_of e.deed) (acted_on e.deed (at_work e m)) fs (at_work e m)).sheltered) none ∙ begins)) held)
      (ap (λ (fs : List Effect). flat_map thing_back fs) none)

-- Maps come and go as before after each act of calls and of rows, and where a making or an end begins and takes its step.
use Rattle.std.specs.Prelude.{◌≡◌, ◌≢◌, ◌⊎◌, ◌+◌, ℕ, Bool, false, ◌∷◌, Option, Some, None}
use Rattle.std.proofs.Common.{refl, ap, sym, subst, ◌∙◌, arith, inl, inr}
use Rattle.std.proofs.lemmas.Bool.{cases_eq}
use Rattle.seize_acts.specs.Acts.Answers.{Grant}
use Rattle.seize_acts.specs.Given.SeizeWorld.{Row, World, with_at}
use Rattle.seize_acts.specs.Given.SeizeDeclared.advance.Advance.{Advance}
use Rattle.seize_acts.specs.Given.SeizeDeclared.advance.Advance.TheVariants as progress
use Rattle.seize_acts.specs.Given.SeizeDeclared.rows.settle.Settled.{Settled}
use Rattle.seize_acts.specs.Given.SeizeDeclared.rows.settle.Settled.TheVariants as settled
use Rattle.play_lists.specs.Given.TablesDeclared.node.Node.{Node}
use Rattle.play_lists.specs.Given.TablesDeclared.setting.Setting.{Setting}
use Rattle.play_lists.specs.Given.EffectsDeclared.changed.Changed.{Changed}
use Rattle.run_logged.specs.Given.ResizeNewMap.{new_map_plan}
use Rattle.run_logged.specs.Given.ResizeDeclared.new_map.NewMap.{NewMap}
use Rattle.run_schedules.specs.Given.RawEndMap.{ending}
use Rattle.play_lists.specs.Given.FinishesEndings.{Finishing, finishing_of}
use Rattle.play_lists.specs.Given.FinishesMakings.{Beginning}
use Rattle.play_lists.specs.Given.FinishesMaps.{Standing}
use Rattle.run_logged.proofs.Given.CallersTogether.At.{at_other, at_same}
use Rattle.play_lists.proofs.Given.ScenesMay.{may_make}
use Rattle.play_lists.specs.Given.ScenesHeld.{Held, IsAt}
use Rattle.play_lists.specs.Given.ScenesMaking.{MakingLeads, making_begun}
use Rattle.play_lists.specs.Given.ScenesScene.{HasNoCall, IsOnSlot, Scene, row_of, slot_of}
use Rattle.run_schedules.specs.Schedules.Moment.{Moment}
use Rattle.play_lists.specs.Given.EffectsEffects.{effects_of, known_after}
use Rattle.play_lists.specs.Given.EffectsKnown.{Known}
use Rattle.play_lists.specs.Given.EffectsDeclared.acting.Acting.TheVariants as acts
use Rattle.play_lists.specs.Given.FollowsShows.{Refines}
use Rattle.run_logged.specs.Given.MomentsNumbers.{MapsAreBelow}
use Rattle.run_logged.specs.Given.MomentsWhole.{RefinesWhole}
use Rattle.play_lists.proofs.Given.FollowsOperations.{Operated, operated}
use Rattle.play_lists.proofs.Given.RuleLaws.{current_is_known}
use Rattle.run_logged.specs.Log.Ends.{NotesMap}
use Rattle.play_lists.proofs.Given.RemainsNumbered.{more_are_counted}
use Rattle.play_lists.specs.Given.ActsActs.{Act, Answer, OfEnding, OfMaking, StepsCall, BeginsMaking, StepsMaking, BeginsEnding, StepsEnding, StepsRow}
use Rattle.play_lists.specs.Given.ActsAsSteps.{LeadsAs, changed_by, held_in, row_changed, outcome_of_row_step}
use Rattle.play_lists.specs.Given.ActsLeads.{EndingCame, Led, MakingCame}
use Rattle.run_schedules.specs.Deeds.Deeds.{Entry, Steps, acted_on, map_of_call, moment, named}
use Rattle.play_lists.specs.Played.Play.{Ending, Making, Now, State, ending_stepped, is_refusal, made_on, making_deed, making_outcome, outcome_of, row_outcome, row_stepped, settled_outcome}
use Rattle.play_lists.specs.Played.Reached.{IsOf, row_or_rests}
use Rattle.play_lists.proofs.Played.Noted.{CallsAreNoted}
use Rattle.play_lists.proofs.Played.PlayedAs.{PlayedAs}
use Rattle.run_logged.specs.Given.NamedSeen.{kind_of}
use Rattle.play_linear.specs.Linear.Coming.{Comes, Goes, IsByNewNumber, IsGone, MapsComeAndGo}
use Rattle.play_linear.proofs.Linear.AsideActs.{IsQuiet, aside_quiet, call_steps_aside, quiet_led, quiet_played, row_steps_aside}
use Rattle.play_linear.proofs.Linear.Below.{BeginsBelow, acts_stay_below, more_below}
use Rattle.play_linear.proofs.Linear.EndsRight.{ended_coming, ended_going, ended_names, ended_numbers}
use Rattle.play_linear.proofs.Linear.Going.{goes_alike, goes_beside}
use Rattle.play_linear.proofs.Linear.Gone.{BeginsOther, acts_leave_gone}
use Rattle.play_linear.proofs.Linear.MakesRight.{made_coming, made_names, made_numbers}
use Rattle.play_lists.proofs.Played.Tied.{EndingTied, MakingTied, call_tied, ending_tied, making_tied}
use Rattle.run_schedules.proofs.Given.General.{same_some}

-- What is noted of a map that stands.
module _ {K V : Type 0} (same : K → K → Bool) (hash : ℕ → K → ℕ) (old : Held K V) (m : Moment K V) (known : Known) (s : Scene K V) (at : IsAt same hash old s) (shown : Refines same named m known s) (map : ℕ) (standing : Standing K)
    (there : s.maps map ≡ Some standing) where
  pub notes_map : NotesMap map (shown.number map) known standing.setting standing.chart standing.blocks
  notes_map =
      let in_it = (at.together.makings.standing.each map standing there).ground.map in
      let it = shown.maps map standing there in
      record {
        pairs = λ n current. (let k = current_is_known same standing.hash standing.setting s.world.memory standing.chart standing.blocks in_it.map.rule in_it.map.shows n current in it.pairs.roles n k.0 k.1);
        tables = λ t from made. it.tables.roles t made (in_it.map.shows.linked t from made);
        counter = it.counter;
      }

module _ {K V S : Type 0} where
  -- a making that goes on leaves ends as they are
  pub made_enders : (b : Making S) (i : ℕ) (machine : NewMap) (told : Advance Setting) (now : Now K V S) → (made_on i b machine told now).enders ≡ now.enders
  made_enders b i machine progress.Goes now = refl
  made_enders b i machine progress.Waits now = refl
  made_enders b i machine (progress.Done setting) now = refl
  made_enders b i machine (progress.Refused fault) now = refl

module _ {K V S : Type 0} (same : K → K → Bool) (by_hasher : S → K → ℕ) (hash : ℕ → K → ℕ) (batch_size roots : ℕ) (aborts : ℕ → V) (x y : State K V S) (s n : Scene K V) (rows : ℕ → Row) (is : IsOf by_hasher s rows x.now)
    (before : Changed) (at : IsAt same hash (held_in batch_size roots before s) s) (whole : RefinesWhole same named (moment x.history) x.known s) (so : MapsComeAndGo (moment x.history) x.known x.now.enders s) (told : Answer K V) where
  abbrev old : Held K V
  old = held_in batch_size roots before s

  abbrev then_held : Act K V S → Held K V
  then_held act = held_in batch_size roots (changed_by same act s) n

  abbrev m : Moment K V
  m = moment x.history

  abbrev Leads : Act K V S → Type 0
  Leads act = Led same by_hasher batch_size roots slot_of act s told n

  abbrev Here : State K V S → Type 0
  Here z = MapsComeAndGo (moment z.history) z.known z.now.enders n

  below : (act : Act K V S) → BeginsBelow so.count act → Leads act → MapsAreBelow so.count n
  below act begins led = acts_stay_below same by_hasher hash batch_size roots so.count s n so.below at.hashes act begins told led

  gone : (act : Act K V S) → ((map : ℕ) → BeginsOther map act) → Leads act → (map : ℕ) → IsGone map s → IsGone map n
  gone act begins led map was = acts_leave_gone same by_hasher hash batch_size roots map s n was at.hashes act (begins map) told led

  -- Acts of which there is no step,
  quiet_below : (act : Act K V S) → IsQuiet act → BeginsBelow so.count act × ((map : ℕ) → BeginsOther map act)
  quiet_below (BeginsMaking i map hasher given places) quiet = absurd quiet
  quiet_below _ quiet = (tt, λ map. tt)

  pub quiet_come : (act : Act K V S) → IsQuiet act → PlayedAs same by_hasher batch_size roots aborts x y act → Leads act → Here y
  quiet_come act quiet played led =
      let was = quiet_played same by_hasher batch_size roots aborts x y act quiet played in
      let scene = quiet_led same by_hasher batch_size roots aborts x y s n act quiet told led in
      subst (λ (e : ℕ → Option Ending). MapsComeAndGo (moment y.history) y.known e n) (sym was.2)
      (aside_quiet m x.known x.now.enders s so (moment y.history) y.known n was.0 was.1 (below act (quiet_below act quiet).0 led) scene.0 scene.1 (gone act (quiet_below act quiet).1 led))

  -- the step of a call,
  pub steps_come : (i map : ℕ) (g : Grant) → CallsAreNoted x → PlayedAs same by_hasher batch_size roots aborts x y (StepsCall i map g) → Leads (StepsCall i map g)
      → LeadsAs same by_hasher hash (StepsCall i map g) s told n old (then_held (StepsCall i map g)) → IsAt same hash (then_held (StepsCall i map g)) n → Here y
  steps_come i map g noted played came (said, answer, leads, goes) at2 =
      let act : Act K V S = StepsCall i map g in
      let new = then_held act in
      let tied = call_tied same by_hasher batch_size roots aborts s n rows x y is i map g told came played in
      let its = noted map i tied.it tied.here in
      let acted : acted_on {K = K} {V = V} (Steps i) m ≡ Some map = ap map_of_call its.1 ∙ ap Some its.2 in
      subst Here (sym tied.comes)
      (call_steps_aside same hash m x.known x.now.enders s n old new whole so at at2 (below act tt came) (gone act (λ k. tt) came) (ap (λ (z : Scene K V). z.makers) came.comes) (ap (λ (z : Scene K V). z.enders) came.comes)
      (outcome_of (known_after (acts.Call i map) new.changed x.known) (kind_of tied.it.call) tied.it.value came.progress) (is_refusal new.changed) map i came.call came.here said leads acted)

  -- and that of a row.
  pub row_steps_come : (i : ℕ) (g : Grant) → IsOf by_hasher s s.world.row x.now → HasNoCall s i → PlayedAs same by_hasher batch_size roots aborts x y (StepsRow i g) → Leads (StepsRow i g)
      → LeadsAs same by_hasher hash (StepsRow i g) s told n old (then_held (StepsRow i g)) → IsAt same hash (then_held (StepsRow i g)) n → Here y
  row_steps_come i g of no_call (row, row_is, end, came, y_is) led (leads, goes) at2 =
      let act : Act K V S = StepsRow i g in
      let new = then_held act in
      let there : s.world.row i ≡ row_of row = sym (of.between i no_call) ∙ ap row_or_rests row_is in
      let here : IsOnSlot s i row = (no_call, there) in
      let change : row_changed (row_of row) g x.now.memory ≡ new.changed = ap (row_changed (row_of row) g) of.memory ∙ ap (λ (r : Row). row_changed r g s.world.memory) (sym there) in
      subst Here (sym (y_is ∙ ap (λ (c : Changed). row_stepped i row c x end) change))
      (row_steps_aside same hash m x.known x.now.enders s n old new whole so at at2 (below act tt led) (gone act (λ k. tt) led) (ap (λ (z : Scene K V). z.makers) (goes row here)) (ap (λ (z : Scene K V). z.enders) (goes row here))
      (row_outcome end.1.1) (is_refusal new.changed) i row here (outcome_of_row_step (s.world.row i) g s.world.memory) leads)

  -- A making begins, of a map that is unknown and of which no end is under way,
  pub making_begins_come : (i map : ℕ) (hasher : S) (given : Setting) (places : ℕ) → IsByNewNumber x (BeginsMaking i map hasher given places)
      → PlayedAs same by_hasher batch_size roots aborts x y (BeginsMaking i map hasher given places) → Leads (BeginsMaking i map hasher given places) → Here y
  making_begins_come i map hasher given places (unknown, none_ends) y_is led =
      subst Here (sym y_is)
      (record {
        count = so.count + (map + 1);
        numbers = more_are_counted K V m so.count (map + 1) so.numbers;
        below = acts_stay_below same by_hasher hash batch_size roots (so.count + (map + 1)) s n (more_below so.count (map + 1) s so.below) at.hashes act (omega arith) told led;
        names = so.names;
        coming = λ j c makes. by j c (cases_eq j i) (sym (ap (λ (z : Scene K V). z.makers j) led.1) ∙ makes);
        going = λ j e ending f ends.
            (let so_far = so.going j e ending f (sym (ap (λ (z : Scene K V). z.enders j) led.1) ∙ ends) in
            goes_alike e.map f x.known s so_far n (acts_leave_gone same by_hasher hash batch_size roots e.map s n so_far.gone at.hashes act (λ same_map. none_ends j e ending (sym same_map)) told led));
      })
    where
      act : Act K V S
      act = BeginsMaking i map hasher given places

      b : Beginning K
      b = making_begun (by_hasher hasher) roots map given places

      by : (j : ℕ) (c : Beginning K) → (j ≡ i) ⊎ (j ≢ i) → with_at s.makers i (Some b) j ≡ Some c → Comes c m
      by j c (inl e) makes = subst (λ (z : Beginning K). Comes z m) (same_some b c (sym (at_same s.makers i (Some b) j e) ∙ makes)) unknown
      by j c (inr ne) makes = so.coming j c (sym (at_other s.makers i (Some b) j ne) ∙ makes)

  -- and takes its step;
  module _ (i : ℕ) (g : Grant) where
    abbrev made_act : Act K V S
    made_act = StepsMaking i g

    abbrev new : Held K V
    new = then_held made_act

    abbrev step : ℕ → NewMap → NewMap → Advance Setting → Entry K V
    step map first machine said = record { deed = making_deed map first machine; outcome = making_outcome said; effects = effects_of (acts.Making map) x.known new.changed; refused = is_refusal new.changed }

    pub making_steps_come : PlayedAs same by_hasher batch_size roots aborts x y (StepsMaking i g) → Leads (StepsMaking i g) → LeadsAs same by_hasher hash (StepsMaking i g) s told n old new → IsAt same hash new n → Here y
    making_steps_come played led (said, answer, leads, goes) at2 = by led
      where
        -- the makings' ends, and what is noted
        enders_same : (b : Beginning K) (machine : NewMap) (progress : Advance Setting) (w2 : World (Node K V)) → MakingCame {S = S} same by_hasher batch_size roots slot_of s i b w2 machine n progress → n.enders ≡ s.enders
        enders_same b machine progress.Goes w2 came = ap (λ (z : Scene K V). z.enders) came
        enders_same b machine progress.Waits w2 came = absurd came
        enders_same b machine (progress.Done setting) w2 (standing, is_made, came) = ap (λ (z : Scene K V). z.enders) came
        enders_same b machine (progress.Refused fault) w2 came = ap (λ (z : Scene K V). z.enders) came

        by : Leads (StepsMaking i g) → Here y
        by (b, makes, m2, machine, progress, computed, told_is, did, came) =
            subst Here (sym tied.comes)
            (subst (λ (e : ℕ → Option Ending). MapsComeAndGo (moment (step tied.it.map tied.it.machine machine progress ∷ x.history)) (known_after (acts.Making tied.it.map) new.changed x.known) e n)
            (sym (made_enders tied.it i machine progress (record x.now { memory = m2 })))
            (subst (λ (map : ℕ). Then map tied.it.machine) (sym (ap (λ (p : ℕ × ((K → ℕ) × NewMap)). p.0) tied.its))
            (subst (Then b.map) (sym (ap (λ (p : ℕ × ((K → ℕ) × NewMap)). p.1.1) tied.its)) then_so)))
          where
            tied : MakingTied same by_hasher batch_size roots aborts s n rows x y is i g b (m2, (machine, progress))
            tied = making_tied same by_hasher batch_size roots aborts s n rows x y is i g b makes (m2, (machine, progress)) computed played

            Then : ℕ → NewMap → Type 0
            Then map first = MapsComeAndGo (moment (step map first machine progress ∷ x.history)) (known_after (acts.Making map) new.changed x.known) x.now.enders n

            its_leads : MakingLeads same hash i progress s old new
            its_leads = subst (λ (p : Advance Setting). MakingLeads same hash i p s old new) (let both : ◌≡◌ {A = Answer K V} (OfMaking said) (OfMaking progress) = sym answer ∙ told_is in cc both) leads

            op : Operated old.memory new.memory new.changed
            op = operated old.memory new.memory new.changed (new_map_plan {K = K} {V = V} b.machine) ((its_leads b makes).0, progress) (may_make same hash old s at i b makes) (its_leads b makes).1

            then_so : Then b.map b.machine
            then_so = record {
              count = so.count;
              numbers = made_numbers same by_hasher hash batch_size roots m x.known x.now.enders s n before new at whole so i g b m2 machine progress makes computed did came its_leads at2 (making_outcome progress)
                  (is_refusal new.changed);
              below = below made_act tt led;
              names = made_names same by_hasher hash batch_size roots m x.known x.now.enders s n before new at whole so i g b m2 machine progress makes computed did came its_leads at2 (making_outcome progress)
                  (is_refusal new.changed);
              coming = made_coming same by_hasher hash batch_size roots m x.known x.now.enders s n before new at whole so i g b m2 machine progress makes computed did came its_leads at2 (making_outcome progress)
                  (is_refusal new.changed);
              going = λ j e ending f ends.
                  (let was : s.enders j ≡ Some f = sym (ap (λ (h : ℕ → Option (Finishing K V)). h j) (enders_same b machine progress did.step.w2 came)) ∙ ends in
                  let so_far = so.going j e ending f was in
                  goes_beside e.map f x.known s so_far same hash m n old new at at2 whole.all.shown.blocks op (acts.Making b.map) j was ends (gone made_act (λ k. tt) led e.map so_far.gone));
            }

  -- the end of a map begins,
  pub end_begins_come : (i map : ℕ) → PlayedAs same by_hasher batch_size roots aborts x y (BeginsEnding i map) → Leads (BeginsEnding i map) → Here y
  end_begins_come i map (set, there, y_is) led = by led
    where
      act : Act K V S
      act = BeginsEnding i map

      by : Leads (BeginsEnding i map) → Here y
      by (standing, stands, none, n_is) =
          subst Here (sym y_is)
          (record {
            count = so.count;
            numbers = so.numbers;
            below = below act tt led;
            names = so.names;
            coming = λ j b makes. so.coming j b (sym (ap (λ (z : Scene K V). z.makers j) n_is) ∙ makes);
            going = λ j e ending f ends. goes j e f (cases_eq j i) ending (sym (ap (λ (z : Scene K V). z.enders j) n_is) ∙ ends);
          })
        where
          its : Ending
          its = record { map = map; machine = ending set.0 false }

          f2 : Finishing K V
          f2 = finishing_of standing s.world

          itself : Goes map f2 x.known n
          itself = record {
            gone = record {
              not_there = ap (λ (z : Scene K V). z.maps map) n_is ∙ at_same s.maps map None map refl;
              not_made = λ j b makes same_map.
                  (let was : s.makers j ≡ Some b = sym (ap (λ (z : Scene K V). z.makers j) n_is) ∙ makes in
                  let both : None ≡ Some standing = sym (at.together.makings.coming j b was) ∙ ap s.maps same_map ∙ stands in cc both);
            };
            number = whole.all.shown.number map;
            first = x.known;
            notes = notes_map same hash old m x.known s at whole.all.shown map standing stands;
            still = λ b is none. refl;
          }

          goes : (j : ℕ) (e : Ending) (f : Finishing K V) → (j ≡ i) ⊎ (j ≢ i) → with_at x.now.enders i (Some its) j ≡ Some e → with_at s.enders i (Some f2) j ≡ Some f → Goes e.map f x.known n
          goes j e f (inl at_it) ending ends =
              subst (λ (z : Ending). Goes z.map f x.known n) (same_some its e (sym (at_same x.now.enders i (Some its) j at_it) ∙ ending))
              (subst (λ (z : Finishing K V). Goes map z x.known n) (same_some f2 f (sym (at_same s.enders i (Some f2) j at_it) ∙ ends)) itself)
          goes j e f (inr ne) ending ends =
              let so_far = so.going j e (sym (at_other x.now.enders i (Some its) j ne) ∙ ending) f (sym (at_other s.enders i (Some f2) j ne) ∙ ends) in
              goes_alike e.map f x.known s so_far n (gone act (λ k. tt) led e.map so_far.gone)

  -- and takes its step.
  pub ending_steps_come : (i : ℕ) (g : Grant) → PlayedAs same by_hasher batch_size roots aborts x y (StepsEnding i g) → Leads (StepsEnding i g)
      → LeadsAs same by_hasher hash (StepsEnding i g) s told n old (then_held (StepsEnding i g)) → IsAt same hash (then_held (StepsEnding i g)) n → Here y
  ending_steps_come i g played led (said, answer, leads, goes) at2 = by led
    where
      act : Act K V S
      act = StepsEnding i g

      new : Held K V
      new = then_held act

      by : Leads (StepsEnding i g) → Here y
      by (f, ends, m2, machine, progress, computed, told_is, did, came) =
          subst Here (sym z_is)
          (record {
            count = so.count;
            numbers = ended_numbers same hash m x.known x.now.enders s n old new at whole so i tied.it tied.here f ends said leads gone_all at2 (settled_outcome said) (is_refusal new.changed);
            below = below act tt led;
            names = ended_names same hash m x.known x.now.enders s n old new at whole so i tied.it tied.here f ends said leads gone_all at2 (settled_outcome said) (is_refusal new.changed);
            coming = ended_coming same hash m x.known x.now.enders s n old new at whole so i tied.it tied.here f ends said leads gone_all at2 (settled_outcome said) (is_refusal new.changed) makers_same;
            going = ended_going same hash m x.known x.now.enders s n old new at whole so i tied.it tied.here f ends said leads gone_all at2 (settled_outcome said) (is_refusal new.changed) machine (goes f ends);
          })
        where
          tied : EndingTied same by_hasher batch_size roots aborts s n rows x y is i g f (m2, (machine, progress))
          tied = ending_tied same by_hasher batch_size roots aborts s n rows x y is i g f ends (m2, (machine, progress)) computed played

          said_is : progress ≡ said
          said_is = let both : ◌≡◌ {A = Answer K V} (OfEnding progress) (OfEnding said) = sym told_is ∙ answer in cc both

          z_is : y ≡ ending_stepped i tied.it new.changed x (m2, (machine, said))
          z_is = tied.comes ∙ ap (λ (p : Settled (Node K V)). ending_stepped i tied.it new.changed x (m2, (machine, p))) said_is

          gone_all : (map : ℕ) → IsGone map s → IsGone map n
          gone_all = gone act (λ k. tt) led

          makers_by : (p : Settled (Node K V)) → EndingCame {S = S} same by_hasher batch_size roots slot_of s i f did.w2 did.deed machine n p → n.makers ≡ s.makers
          makers_by settled.Goes c = ap (λ (z : Scene K V). z.makers) c.1
          makers_by settled.Waits c = absurd c
          makers_by (settled.Gave value) c = ap (λ (z : Scene K V). z.makers) c.3
          makers_by settled.Done c = ap (λ (z : Scene K V). z.makers) c.2

          makers_same : n.makers ≡ s.makers
          makers_same = makers_by progress came

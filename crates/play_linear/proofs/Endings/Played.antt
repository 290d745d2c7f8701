-- Each map that ends goes on to end by each act that is played of calls and of rows.
use Rattle.std.specs.Prelude.{◌≡◌, ◌≢◌, ◌<◌, ℕ, Bool, true, false, List, [], ◌∷◌, Option, Some, None, is_ok, length, if◌then◌else◌}
use Rattle.std.proofs.Common.{refl, ap, sym, subst, ◌∙◌}
use Rattle.seize_acts.specs.Acts.Answers.{Grant}
use Rattle.seize_acts.specs.Given.SeizeWorld.{Row, times}
use Rattle.run_logged.specs.Given.RawMachine.{machine_asked, machine_plan, machine_replied}
use Rattle.run_logged.specs.Given.RawDeclared.machines.asking.MachineReply.{MachineReply as Told}
use Rattle.play_lists.specs.Given.FinishesEndings.{Finishing, FinishingFacts}
use Rattle.play_lists.specs.Given.FinishesMachines.{machine_of}
use Rattle.play_lists.proofs.Given.FinishesEnds.CountedBlocks.{some_last}
use Rattle.play_lists.proofs.Given.FinishesEnds.OrdersOnce.{plain_order}
use Rattle.run_schedules.specs.declared.effect.Effect.{Effect}
use Rattle.run_schedules.specs.declared.outcome.Outcome.TheVariants as outcome
use Rattle.run_schedules.specs.Schedules.Effects.{with_effects}
use Rattle.run_schedules.specs.Schedules.Moment.{Moment}
use Rattle.play_lists.specs.Given.EffectsEffects.{effects_of, known_after}
use Rattle.play_lists.specs.Given.EffectsKnown.{Known}
use Rattle.play_lists.specs.Given.EffectsDeclared.acting.Acting.{Acting}
use Rattle.play_lists.specs.Given.EffectsDeclared.acting.Acting.TheVariants as acts
use Rattle.play_lists.specs.Given.EffectsDeclared.changed.Changed.{Changed}
use Rattle.play_lists.specs.Given.EffectsDeclared.changed.Changed.TheVariants.{Nothing as NoChange}
use Rattle.play_lists.specs.Given.ScenesHeld.{Held, IsAt}
use Rattle.play_lists.specs.Given.ScenesScene.{HasNoCall, IsOnSlot, Scene, row_of, slot_of}
use Rattle.play_lists.proofs.Given.FollowsOperations.{Operated, operated}
use Rattle.play_lists.proofs.Given.OthersRowPlans.{row_operated, row_tells}
use Rattle.play_lists.proofs.Given.ScenesMay.{may_row, may_step}
use Rattle.play_lists.specs.Given.ActsActs.{Act, Answer, AsksCall, BeginsCall, BeginsRow, StepsCall, StepsRow, StopsCall, TellsCall}
use Rattle.play_lists.specs.Given.ActsAsSteps.{LeadsAs, changed_by, held_in, row_changed, outcome_of_row_step}
use Rattle.play_lists.specs.Given.ActsLeads.{Led}
use Rattle.run_schedules.specs.Deeds.Deeds.{Entry, Replies, Steps, Stops, acted_on, after, map_of_call, moment, named}
use Rattle.play_lists.proofs.Given.ShedsEndLists.{one_of}
use Rattle.run_logged.specs.Given.NamedSeen.{kind_of}
use Rattle.play_lists.specs.Played.Play.{Ending, State, is_refusal, outcome_of, reply_for, row_deed, row_outcome, row_stepped}
use Rattle.play_lists.specs.Played.Reached.{IsOf, row_or_rests}
use Rattle.play_lists.proofs.Played.PlayedAs.{PlayedAs}
use Rattle.play_linear.specs.Linear.Coming.{Goes}
use Rattle.play_linear.proofs.Linear.AsideActs.{IsQuiet, quiet_led, quiet_played}
use Rattle.play_linear.proofs.Linear.Going.{noted_beside}
use Rattle.play_linear.proofs.Linear.Holding.{AllHolds}
use Rattle.play_linear.proofs.Linear.Like.{IsLike}
use Rattle.play_linear.proofs.Linear.RowsPlayed.{is_of_row, rows_like}
use Rattle.play_lists.proofs.Played.Tied.{CallTied, call_tied}
use Rattle.play_lists.specs.MapsEnd.Ends.{AlikeOf}
use Rattle.play_lists.specs.MapsEnd.Going.{ContinuesToEnd}
use Rattle.play_linear.specs.Endings.GoingOn.{EndsContinue}
use Rattle.play_lists.proofs.MapsEnd.Alike.{alike_all, alike_then}
use Rattle.play_lists.proofs.MapsEnd.Calls.{call_spares}
use Rattle.play_linear.proofs.Endings.EndSteps.{rest_new}
use Rattle.play_lists.proofs.MapsEnd.Going.{NotedAlike, going_alike}
use Rattle.play_linear.proofs.Endings.Others.{row_spares}
use Rattle.play_lists.proofs.MapsEnd.Spares.{all_spared}

-- of all maps all is the same
abbrev pub AllTheSame : {K V : Type 0} → Moment K V → Moment K V → Type 0
AllTheSame m v = (v.maps ≡ m.maps) × (v.place ≡ m.place) × (v.tables ≡ m.tables) × (v.spot ≡ m.spot) × (v.stored ≡ m.stored)

module _ {K V : Type 0} where
  told_same : (h : List (Entry K V)) (b : Bool) (i : ℕ) (reply : Told V) (aborts : V)
      → AllTheSame (moment h) (moment (if b then record { deed = Replies i (reply_for aborts reply); outcome = outcome.Goes; effects = []; refused = false } ∷ h else h))
  told_same h true i reply aborts = (refl, refl, refl, refl, refl)
  told_same h false i reply aborts = (refl, refl, refl, refl, refl)

  stopped_same : (h : List (Entry K V)) (b : Bool) (i : ℕ) → AllTheSame (moment h) (moment (if b then record { deed = Stops i; outcome = outcome.Done; effects = []; refused = false } ∷ h else h))
  stopped_same h true i = (refl, refl, refl, refl, refl)
  stopped_same h false i = (refl, refl, refl, refl, refl)

module _ {K V S : Type 0} where
  module _ (same : K → K → Bool) (by_hasher : S → K → ℕ) (batch_size roots : ℕ) (aborts : ℕ → V) (x y : State K V S) where
    quiet_same : (act : Act K V S) → IsQuiet act → PlayedAs same by_hasher batch_size roots aborts x y act → AllTheSame (moment x.history) (moment y.history)
    quiet_same (BeginsCall i m wanted) quiet (at, there, is) = subst (λ (z : State K V S). AllTheSame (moment x.history) (moment z.history)) (sym is) (refl, refl, refl, refl, refl)
    quiet_same (TellsCall i m reply) quiet (c, here, is) =
        subst (λ (z : State K V S). AllTheSame (moment x.history) (moment z.history)) (sym is) (told_same x.history (is_ok (machine_replied c.machine reply).1) i reply (aborts (length x.told)))
    quiet_same (AsksCall i m) quiet (c, here, is) = subst (λ (z : State K V S). AllTheSame (moment x.history) (moment z.history)) (sym is) (refl, refl, refl, refl, refl)
    quiet_same (StopsCall i m) quiet (c, here, is) = subst (λ (z : State K V S). AllTheSame (moment x.history) (moment z.history)) (sym is) (stopped_same x.history (machine_asked c.machine).1 i)
    quiet_same (BeginsRow i request) quiet (called, there, is) = subst (λ (z : State K V S). AllTheSame (moment x.history) (moment z.history)) (sym is) (refl, refl, refl, refl, refl)
    quiet_same act quiet played = absurd quiet

module _ {K V S : Type 0} (same : K → K → Bool) (by_hasher : S → K → ℕ) (hash : ℕ → K → ℕ) (batch_size roots : ℕ) (aborts : ℕ → V) (x y : State K V S) (s n : Scene K V)
    (is : IsOf by_hasher s s.world.row x.now) (at : IsAt same hash (held_in batch_size roots NoChange s) s) (all : AllHolds same x s) (so : EndsContinue x s) (told : Answer K V) where
  abbrev old : Held K V
  old = held_in batch_size roots NoChange s

  abbrev then_held : Act K V S → Held K V
  then_held act = held_in batch_size roots (changed_by same act s) n

  abbrev m : Moment K V
  m = moment x.history

  pub goes_of : (j : ℕ) (e : Ending) → x.now.enders j ≡ Some e → (f : Finishing K V) → s.enders j ≡ Some f → Goes e.map f x.known s
  goes_of j e ending f ends = all.maps.going j e ending f ends

  -- where the ends are those that they were
  pub ends_stay : (known2 : Known) (v : Moment K V) → y.known ≡ known2 → moment y.history ≡ v → y.now.enders ≡ x.now.enders → n.enders ≡ s.enders
      → ((j : ℕ) (e : Ending) → x.now.enders j ≡ Some e → (f : Finishing K V) → s.enders j ≡ Some f → (g : ContinuesToEnd e.map f x.known m) → AlikeOf e.map m v × NotedAlike g.rest x.known known2) → EndsContinue y n
  ends_stay known2 v known_is moment_is enders ends each = record {
    each = λ j e ending f ends_it.
        (let was : x.now.enders j ≡ Some e = sym (ap (λ (h : ℕ → Option Ending). h j) enders) ∙ ending in
        let was_it : s.enders j ≡ Some f = sym (ap (λ (h : ℕ → Option (Finishing K V)). h j) ends) ∙ ends_it in
        let g = so.each j e was f was_it in
        let it = each j e was f was_it g in
        subst (λ (k : Known). ContinuesToEnd e.map f k (moment y.history)) (sym known_is) (subst (ContinuesToEnd e.map f known2) (sym moment_is) (going_alike e.map f x.known m g known2 v it.0 it.1)));
    apart = λ i j e g ne ending other.
        so.apart i j e g ne (sym (ap (λ (h : ℕ → Option Ending). h i) enders) ∙ ending) (sym (ap (λ (h : ℕ → Option Ending). h j) enders) ∙ other);
  }

  -- What an end has still to reclaim is noted as it was, whoever else acts.
  module _ (new : Held K V) (at2 : IsAt same hash new n) (op : Operated old.memory new.memory new.changed) (its : Acting) (j : ℕ) (e : Ending) (ending : x.now.enders j ≡ Some e) (f : Finishing K V) (ends : s.enders j ≡ Some f)
      (ends2 : n.enders j ≡ Some f) (g : ContinuesToEnd e.map f x.known m) where
    facts : FinishingFacts same old.batch_size s.world j f
    facts = at.together.facts j f ends

    pub noted_on : NotedAlike g.rest x.known (known_after its new.changed x.known)
    noted_on b some =
        noted_beside e.map f x.known s (goes_of j e ending f ends) same hash m n old new at at2 all.holds.shows.whole.all.shown.blocks op its j ends ends2 b
        (one_of same f.hash facts.lawful f.setting f.chart f.blocks f.began (plain_order f.setting f.chart f.blocks same f.hash f.began facts.stood.map facts.stood.counter) b
        (subst (λ (l : List ℕ). 0 < times b l) (sym g.back_is) (some_last b f.back g.rest some))) (rest_new same old.batch_size s.world j f facts g.rest g.back_is b some)

  -- Acts of which there is no step,
  pub quiet_go : (act : Act K V S) → IsQuiet act → PlayedAs same by_hasher batch_size roots aborts x y act → Led same by_hasher batch_size roots slot_of act s told n → EndsContinue y n
  quiet_go act quiet played led =
      let was = quiet_played same by_hasher batch_size roots aborts x y act quiet played in
      let scene = quiet_led same by_hasher batch_size roots aborts x y s n act quiet told led in
      let one = quiet_same same by_hasher batch_size roots aborts x y act quiet played in
      ends_stay x.known (moment y.history) was.1 refl was.2 scene.1 (λ j e ending f ends g. (alike_all e.map m (moment y.history) one.0 one.1 one.2 one.3 one.4, λ b some. refl))

  -- the step of a call,
  pub step_goes : (i map : ℕ) (g : Grant) → PlayedAs same by_hasher batch_size roots aborts x y (StepsCall i map g) → Led same by_hasher batch_size roots slot_of (StepsCall i map g) s told n
      → LeadsAs same by_hasher hash (StepsCall i map g) s told n old (then_held (StepsCall i map g)) → IsAt same hash (then_held (StepsCall i map g)) n → EndsContinue y n
  step_goes i map g played led (said, answer, leads, goes) at2 =
      ends_stay (known_after (acts.Call i map) new.changed x.known) (after entry m) (ap (λ (z : State K V S). z.known) tied.comes) (ap (λ (z : State K V S). moment z.history) tied.comes)
      (ap (λ (z : State K V S). z.now.enders) tied.comes) (ap (λ (z : Scene K V). z.enders) led.comes) each
    where
      act : Act K V S
      act = StepsCall i map g

      new : Held K V
      new = then_held act

      tied : CallTied same by_hasher batch_size roots aborts s n s.world.row x y is i map g told led
      tied = call_tied same by_hasher batch_size roots aborts s n s.world.row x y is i map g told led played

      effects : List Effect
      effects = effects_of (acts.Call i map) x.known new.changed

      entry : Entry K V
      entry = record { deed = Steps i; outcome = outcome_of (known_after (acts.Call i map) new.changed x.known) (kind_of tied.it.call) tied.it.value led.progress; effects = effects; refused = is_refusal new.changed }

      acted : acted_on {K = K} {V = V} (Steps i) m ≡ Some map
      acted = let its = all.holds.noted map i tied.it tied.here in ap map_of_call its.1 ∙ ap Some its.2

      op : Operated old.memory new.memory new.changed
      op = operated old.memory new.memory new.changed (machine_plan same same (leads map led.call led.here).0.hash (machine_of led.call)) ((leads map led.call led.here).1, said)
          (may_step same hash old s at map (leads map led.call led.here).0 (leads map led.call led.here).2 i led.call led.here) (leads map led.call led.here).3

      each : (j : ℕ) (e : Ending) → x.now.enders j ≡ Some e → (f : Finishing K V) → s.enders j ≡ Some f → (go : ContinuesToEnd e.map f x.known m)
          → AlikeOf e.map m (after entry m) × NotedAlike go.rest x.known (known_after (acts.Call i map) new.changed x.known)
      each j e ending f ends go = (
        alike_then e.map m w (after entry m)
            (subst (λ (a : Option ℕ). AlikeOf e.map m (with_effects (Some (named i)) a effects m)) (sym acted)
            (all_spared e.map (Some (named i)) (Some map) (λ both. other (sym (one_number both))) effects m go.stored
            (call_spares same hash named m x.known s old new at all.holds.shows.whole map i led.call led.here said leads e.map other go.stored go.there go.there_is)))
            (alike_all e.map w (after entry m) refl refl refl refl refl),
        noted_on new at2 op (acts.Call i map) j e ending f ends (ap (λ (z : Scene K V). z.enders j) led.comes ∙ ends) go,
      )
        where
          w : Moment K V
          w = with_effects (Some (named i)) (acted_on {K = K} {V = V} (Steps i) m) effects m

          one_number : ◌≡◌ {A = Option ℕ} (Some map) (Some e.map) → map ≡ e.map
          one_number both = cc both

          other : e.map ≢ map
          other same_map = let none = (goes_of j e ending f ends).gone.not_there in let some = ap s.maps same_map ∙ (leads map led.call led.here).2 in cc (none, some)

  -- and that of a row.
  pub row_goes : (i : ℕ) (g : Grant) → HasNoCall s i → PlayedAs same by_hasher batch_size roots aborts x y (StepsRow i g) → Led same by_hasher batch_size roots slot_of (StepsRow i g) s told n
      → LeadsAs same by_hasher hash (StepsRow i g) s told n old (then_held (StepsRow i g)) → IsAt same hash (then_held (StepsRow i g)) n → EndsContinue y n
  row_goes i g no_call (row, row_is, end, came, y_is) led (leads, goes) at2 =
      ends_stay (known_after acts.Row new.changed x.known) (after entry m) (ap (λ (z : State K V S). z.known) comes) (ap (λ (z : State K V S). moment z.history) comes)
      (ap (λ (z : State K V S). z.now.enders) comes) (ap (λ (z : Scene K V). z.enders) (goes row here)) each
    where
      act : Act K V S
      act = StepsRow i g

      new : Held K V
      new = then_held act

      there : s.world.row i ≡ row_of row
      there = sym (is.between i no_call) ∙ ap row_or_rests row_is

      here : IsOnSlot s i row
      here = (no_call, there)

      change : row_changed (row_of row) g x.now.memory ≡ new.changed
      change = ap (row_changed (row_of row) g) is.memory ∙ ap (λ (r : Row). row_changed r g s.world.memory) (sym there)

      comes : y ≡ row_stepped i row new.changed x end
      comes = y_is ∙ ap (λ (c : Changed). row_stepped i row c x end) change

      effects : List Effect
      effects = effects_of acts.Row x.known new.changed

      entry : Entry K V
      entry = record { deed = row_deed row; outcome = row_outcome end.1.1; effects = effects; refused = is_refusal new.changed }

      op : Operated old.memory new.memory new.changed
      op = row_operated old.memory new.memory new.changed ((leads row here).0, outcome_of_row_step (s.world.row i) g s.world.memory) row (may_row same hash old s at i row here) (leads row here).1

      w : Moment K V
      w = with_effects None None effects m

      like : IsLike w (after entry m)
      like = rows_like (row_deed row) (is_of_row K V row) (row_outcome end.1.1) effects (is_refusal new.changed) m

      each : (j : ℕ) (e : Ending) → x.now.enders j ≡ Some e → (f : Finishing K V) → s.enders j ≡ Some f → (go : ContinuesToEnd e.map f x.known m)
          → AlikeOf e.map m (after entry m) × NotedAlike go.rest x.known (known_after acts.Row new.changed x.known)
      each j e ending f ends go =
          let still = noted_on new at2 op acts.Row j e ending f ends (ap (λ (z : Scene K V). z.enders j) (goes row here) ∙ ends) go in (
            alike_then e.map m w (after entry m)
                (all_spared e.map None None (λ both. cc both) effects m go.stored
                (row_spares same named e.map f x.known m s all.holds.shows.whole go new.changed
                (row_tells old.memory new.memory new.changed ((leads row here).0, outcome_of_row_step (s.world.row i) g s.world.memory) row (leads row here).1) still))
                (alike_all e.map w (after entry m) (ap (λ (z : Moment K V). z.maps) like) (ap (λ (z : Moment K V). z.place) like) (ap (λ (z : Moment K V). z.tables) like) (ap (λ (z : Moment K V). z.spot) like)
                (ap (λ (z : Moment K V). z.stored) like)),
            still,
          )

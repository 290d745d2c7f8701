-- Maps come and go as before by what calls and rows do, and by who reclaims all.
use Rattle.std.specs.Prelude.{◌≡◌, ◌≢◌, ℕ, Bool, true, false, List, [], ◌∷◌, Option, Some, None, is_ok, length, if◌then◌else◌}
use Rattle.std.specs.List.{All}
use Rattle.std.proofs.Common.{refl, ap, sym, subst, ◌∙◌}
use Rattle.seize_acts.specs.Given.SeizeDeclared.rows.reclaim_all.ReclaimAll.{ReclaimAll}
use Rattle.seize_acts.specs.Given.SeizeDeclared.rows.settle.Settled.{Settled}
use Rattle.play_lists.specs.Given.TablesDeclared.node.Node.{Node}
use Rattle.run_logged.specs.Given.RawMachine.{machine_asked, machine_plan, machine_replied}
use Rattle.run_logged.specs.Given.RawDeclared.machines.asking.MachineReply.{MachineReply as Told}
use Rattle.run_logged.specs.Given.RawDeclared.machines.progress.Progress.{Progress}
use Rattle.run_logged.specs.Given.CallersTogether.{UnderWay}
use Rattle.play_lists.specs.Given.FinishesEndings.{Finishing}
use Rattle.play_lists.specs.Given.FinishesMachines.{machine_of}
use Rattle.play_lists.specs.Given.FinishesMakings.{Beginning}
use Rattle.play_lists.proofs.Given.ScenesGoes.{same_map_keeps}
use Rattle.play_lists.proofs.Given.ScenesMay.{may_row, may_step}
use Rattle.play_lists.specs.Given.ScenesHeld.{Held, IsAt}
use Rattle.play_lists.specs.Given.ScenesOnSlots.{RowLeads}
use Rattle.play_lists.specs.Given.ScenesReclaiming.{IsReclaiming, ReclaimingLeads}
use Rattle.play_lists.specs.Given.ScenesScene.{IsOnSlot, Scene, slot_of}
use Rattle.play_lists.specs.Given.ScenesStepping.{StepLeads}
use Rattle.play_lists.specs.Given.ScenesDeclared.row.RowTold.{RowTold}
use Rattle.play_lists.specs.Given.ScenesDeclared.row.SlotRow.{SlotRow}
use Rattle.run_schedules.specs.declared.effect.Effect.{Effect}
use Rattle.run_schedules.specs.declared.outcome.Outcome.{Outcome}
use Rattle.run_schedules.specs.declared.outcome.Outcome.TheVariants as outcome
use Rattle.run_schedules.specs.Schedules.Effects.{with_effects}
use Rattle.run_schedules.specs.Schedules.Moment.{MapThere, Moment}
use Rattle.run_schedules.specs.Schedules.Views.{tables_of}
use Rattle.play_lists.specs.Given.EffectsEffects.{effects_of, known_after}
use Rattle.play_lists.specs.Given.EffectsKnown.{Known}
use Rattle.play_lists.specs.Given.EffectsDeclared.acting.Acting.{Acting}
use Rattle.play_lists.specs.Given.EffectsDeclared.acting.Acting.TheVariants as acts
use Rattle.run_logged.specs.Given.MomentsNumbers.{MapsAreBelow}
use Rattle.run_logged.specs.Given.MomentsWhole.{RefinesWhole}
use Rattle.play_lists.proofs.Given.FollowsOperations.{Operated, operated}
use Rattle.play_lists.proofs.Given.OthersRowPlans.{row_operated, row_tells}
use Rattle.play_lists.specs.Given.RemainsNumbered.{NumbersUpTo}
use Rattle.play_lists.proofs.Given.RemainsNumbered.{calls_keep_count, rows_keep_count}
use Rattle.play_lists.proofs.Given.ShedsReclaiming.Numbered.{reclaiming_keeps_count}
use Rattle.play_lists.specs.Given.ActsActs.{Act, Answer, BeginsCall, TellsCall, AsksCall, StopsCall, BeginsRow}
use Rattle.play_lists.specs.Given.ActsLeads.{Led}
use Rattle.play_lists.proofs.Agrees.Elsewhere.{SameOf}
use Rattle.run_schedules.specs.Deeds.Deeds.{Entry, ReclaimsAll, Replies, Steps, Stops, acted_on, after, moment, named}
use Rattle.play_lists.specs.Played.Play.{Ending, State, reply_for, row_deed}
use Rattle.play_lists.proofs.Played.PlayedAs.{PlayedAs}
use Rattle.play_linear.specs.Linear.Coming.{Goes, IsGone, MapsComeAndGo}
use Rattle.play_linear.proofs.Linear.Below.{maps_below}
use Rattle.play_linear.proofs.Linear.Coming.{comes_bare, comes_on, others_leave, rows_leave, same_of, same_then}
use Rattle.play_linear.proofs.Linear.Counted.{counted_again}
use Rattle.play_linear.proofs.Linear.Going.{goes_alike, goes_beside}
use Rattle.play_linear.proofs.Linear.Like.{IsLike}
use Rattle.play_linear.proofs.Linear.RowsPlayed.{is_of_row, rows_like}
use Rattle.play_lists.specs.Agrees.Fresh.{AreNamed, IsNamed}
use Rattle.play_lists.proofs.Agrees.Names.{effects_named}

module _ {K V : Type 0} where
  -- two moments have the same maps, pairs and tables
  abbrev pub AreAlike : Moment K V → Moment K V → Type 0
  AreAlike m v = (v.maps ≡ m.maps) × (v.place ≡ m.place) × (v.tables ≡ m.tables)

  told_alike : (h : List (Entry K V)) (b : Bool) (i : ℕ) (reply : Told V) (aborts : V)
      → AreAlike (moment h) (moment (if b then record { deed = Replies i (reply_for aborts reply); outcome = outcome.Goes; effects = []; refused = false } ∷ h else h))
  told_alike h true i reply aborts = (refl, refl, refl)
  told_alike h false i reply aborts = (refl, refl, refl)

  stopped_alike : (h : List (Entry K V)) (b : Bool) (i : ℕ) → AreAlike (moment h) (moment (if b then record { deed = Stops i; outcome = outcome.Done; effects = []; refused = false } ∷ h else h))
  stopped_alike h true i = (refl, refl, refl)
  stopped_alike h false i = (refl, refl, refl)

  names_again : (m v : Moment K V) → v.maps ≡ m.maps → AreNamed m → AreNamed v
  names_again m v maps names = subst (λ (fs : List MapThere). All IsNamed fs) (sym maps) names

-- No map comes or goes, and none begins to.
module _ {K V : Type 0} (m : Moment K V) (known : Known) (enders : ℕ → Option Ending) (s : Scene K V) (so : MapsComeAndGo m known enders s) (v : Moment K V) (known2 : Known) (n : Scene K V) where
  pub aside : NumbersUpTo so.count v → AreNamed v → MapsAreBelow so.count n → n.makers ≡ s.makers → n.enders ≡ s.enders
      → ((k j : ℕ) (b : Beginning K) → s.makers j ≡ Some b → b.map ≡ k → tables_of k m ≡ [] → SameOf k m v)
      → ((map j : ℕ) (f : Finishing K V) → s.enders j ≡ Some f → n.enders j ≡ Some f → Goes map f known s → Goes map f known2 n) → MapsComeAndGo v known2 enders n
  aside numbers names below makers ends same going = record {
    count = so.count;
    numbers = numbers;
    below = below;
    names = names;
    coming = λ j b makes.
        (let was : s.makers j ≡ Some b = sym (ap (λ (h : ℕ → Option (Beginning K)). h j) makers) ∙ makes in
        comes_on b m v (same b.map j b was refl (comes_bare b m (so.coming j b was))) (so.coming j b was));
    going = λ j e is f is_f.
        (let was : s.enders j ≡ Some f = sym (ap (λ (h : ℕ → Option (Finishing K V)). h j) ends) ∙ is_f in going e.map j f was is_f (so.going j e is f was));
  }

  -- nothing is done at all
  pub aside_quiet : AreAlike m v → known2 ≡ known → MapsAreBelow so.count n → n.makers ≡ s.makers → n.enders ≡ s.enders → ((map : ℕ) → IsGone map s → IsGone map n) → MapsComeAndGo v known2 enders n
  aside_quiet (maps, place, tables) same below makers ends gone =
      aside (counted_again so.count m v maps tables so.numbers) (names_again m v maps so.names) below makers ends (λ k j b makes on bare. same_of k m v maps place tables)
      (λ map j f ends ends2 goes. subst (λ (x : Known). Goes map f x n) (sym same) (goes_alike map f known s goes n (gone map goes.gone)))

-- Acts of which there is no step.
module _ {K V S : Type 0} where
  abbrev pub IsQuiet : Act K V S → Type 0
  IsQuiet (BeginsCall i m wanted) = Unit {0}
  IsQuiet (TellsCall i m reply) = Unit {0}
  IsQuiet (AsksCall i m) = Unit {0}
  IsQuiet (StopsCall i m) = Unit {0}
  IsQuiet (BeginsRow i request) = Unit {0}
  IsQuiet act = ⊥

  -- maps, pairs, tables, what is known, and ends are as they were
  abbrev pub Quiet : State K V S → State K V S → Type 0
  Quiet x y = AreAlike (moment x.history) (moment y.history) × (y.known ≡ x.known) × (y.now.enders ≡ x.now.enders)

  module _ (same : K → K → Bool) (by_hasher : S → K → ℕ) (batch_size roots : ℕ) (aborts : ℕ → V) (x y : State K V S) where
    pub quiet_played : (act : Act K V S) → IsQuiet act → PlayedAs same by_hasher batch_size roots aborts x y act → Quiet x y
    quiet_played (BeginsCall i m wanted) quiet (at, there, is) = subst (Quiet x) (sym is) ((refl, refl, refl), refl, refl)
    quiet_played (TellsCall i m reply) quiet (c, here, is) = subst (Quiet x) (sym is) (told_alike x.history (is_ok (machine_replied c.machine reply).1) i reply (aborts (length x.told)), refl, refl)
    quiet_played (AsksCall i m) quiet (c, here, is) = subst (Quiet x) (sym is) ((refl, refl, refl), refl, refl)
    quiet_played (StopsCall i m) quiet (c, here, is) = subst (Quiet x) (sym is) (stopped_alike x.history (machine_asked c.machine).1 i, refl, refl)
    quiet_played (BeginsRow i request) quiet (called, there, is) = subst (Quiet x) (sym is) ((refl, refl, refl), refl, refl)
    quiet_played act quiet played = absurd quiet

    pub quiet_led : (s n : Scene K V) (act : Act K V S) → IsQuiet act → (told : Answer K V) → Led same by_hasher batch_size roots slot_of act s told n → (n.makers ≡ s.makers) × (n.enders ≡ s.enders)
    quiet_led s n (BeginsCall i m wanted) quiet told (standing, stands, none, is) = (ap (λ (z : Scene K V). z.makers) is, ap (λ (z : Scene K V). z.enders) is)
    quiet_led s n (TellsCall i m reply) quiet told (standing, stands, u, next, has, machine_is, told_is, kind, is) = (ap (λ (z : Scene K V). z.makers) is, ap (λ (z : Scene K V). z.enders) is)
    quiet_led s n (AsksCall i m) quiet told (u, has, told_is, is) = (ap (λ (z : Scene K V). z.makers) is, ap (λ (z : Scene K V). z.enders) is)
    quiet_led s n (StopsCall i m) quiet told (u, has, told_is, is) = (ap (λ (z : Scene K V). z.makers) is, ap (λ (z : Scene K V). z.enders) is)
    quiet_led s n (BeginsRow i request) quiet told (w2, happens, maps2, as_they_were, none, is) = (ap (λ (z : Scene K V). z.makers) is, ap (λ (z : Scene K V). z.enders) is)
    quiet_led s n act quiet told led = absurd quiet

-- Steps of calls and of rows.
module _ {K V : Type 0} (same : K → K → Bool) (hash : ℕ → K → ℕ) (m : Moment K V) (known : Known) (enders : ℕ → Option Ending) (s n : Scene K V) (old new : Held K V) (whole : RefinesWhole same named m known s)
    (so : MapsComeAndGo m known enders s) where
  module _ (at : IsAt same hash old s) (at2 : IsAt same hash new n) (below : MapsAreBelow so.count n) (gone : (map : ℕ) → IsGone map s → IsGone map n) (makers : n.makers ≡ s.makers) (ends : n.enders ≡ s.enders)
      (o : Outcome V) (refused : Bool) where
    -- of whoever has acted so, on no map that is made
    by_acting : (its : Acting) → Operated old.memory new.memory new.changed → (v : Moment K V) → NumbersUpTo so.count v → AreNamed v
        → ((k j : ℕ) (b : Beginning K) → s.makers j ≡ Some b → b.map ≡ k → tables_of k m ≡ [] → SameOf k m v) → MapsComeAndGo v (known_after its new.changed known) enders n
    by_acting its op v numbers names same_of_it =
        aside m known enders s so v (known_after its new.changed known) n numbers names below makers ends same_of_it
        (λ map j f ends ends2 goes. goes_beside map f known s goes same hash m n old new at at2 whole.all.shown.blocks op its j ends ends2 (gone map goes.gone))

    -- of a call
    module _ (map i : ℕ) (u : UnderWay K V K) (here : s.calls map i ≡ Some u) (said : Progress (Node K V)) (leads : StepLeads same hash i said s old new) (acted : acted_on {K = K} {V = V} (Steps i) m ≡ Some map) where
      abbrev effects : List Effect
      effects = effects_of (acts.Call i map) known new.changed

      abbrev w : Moment K V
      w = with_effects (Some (named i)) (acted_on {K = K} {V = V} (Steps i) m) effects m

      abbrev then_at : Moment K V
      then_at = after (record { deed = Steps i; outcome = o; effects = effects; refused = refused }) m

      stands : s.maps map ≡ Some (leads map u here).0
      stands = (leads map u here).2

      apart_from : (k j : ℕ) (b : Beginning K) → s.makers j ≡ Some b → b.map ≡ k → map ≢ k
      apart_from k j b makes on is =
          let both : None ≡ Some (leads map u here).0 = sym (at.together.makings.coming j b makes) ∙ ap s.maps (on ∙ sym is) ∙ stands in cc both

      pub call_steps_aside : MapsComeAndGo then_at (known_after (acts.Call i map) new.changed known) enders n
      call_steps_aside =
          by_acting (acts.Call i map)
          (operated old.memory new.memory new.changed (machine_plan same same (leads map u here).0.hash (machine_of u)) ((leads map u here).1, said) (may_step same hash old s at map (leads map u here).0 stands i u here)
          (leads map u here).3) then_at
          (counted_again so.count w then_at refl refl
          (calls_keep_count K V same hash m known s old new so.count so.below so.numbers map i u here said leads (Some (named i)) (acted_on {K = K} {V = V} (Steps i) m)))
          (effects_named (Some (named i)) (acted_on {K = K} {V = V} (Steps i) m) effects m so.names)
          (λ k j b makes on bare. same_then k m w then_at
          (others_leave m known whole.blocks k bare (acts.Call i map) (apart_from k j b makes on) new.changed (Some (named i)) (acted_on {K = K} {V = V} (Steps i) m)
          (λ both. apart_from k j b makes on (let it : Some map ≡ Some k = sym acted ∙ both in cc it))) (same_of k w then_at refl refl refl))

    -- of a row
    module _ (i : ℕ) (row : SlotRow) (here : IsOnSlot s i row) (said : RowTold (Node K V)) (leads : RowLeads same hash i said s old new) where
      abbrev row_effects : List Effect
      row_effects = effects_of acts.Row known new.changed

      abbrev row_w : Moment K V
      row_w = with_effects None None row_effects m

      abbrev row_then : Moment K V
      row_then = after (record { deed = row_deed row; outcome = o; effects = row_effects; refused = refused }) m

      like : IsLike row_w row_then
      like = rows_like (row_deed row) (is_of_row K V row) o row_effects refused m

      pub row_steps_aside : MapsComeAndGo row_then (known_after acts.Row new.changed known) enders n
      row_steps_aside =
          by_acting acts.Row (row_operated old.memory new.memory new.changed ((leads row here).0, said) row (may_row same hash old s at i row here) (leads row here).1) row_then
          (counted_again so.count row_w row_then (ap (λ (z : Moment K V). z.maps) like) (ap (λ (z : Moment K V). z.tables) like) (rows_keep_count K V same hash m known s old new so.count so.numbers i said leads row here))
          (names_again row_w row_then (ap (λ (z : Moment K V). z.maps) like) (effects_named None None row_effects m so.names))
          (λ k j b makes on bare. same_then k m row_w row_then
          (rows_leave m known whole.blocks k bare new.changed (row_tells old.memory new.memory new.changed ((leads row here).0, said) row (leads row here).1))
          (same_of k row_w row_then (ap (λ (z : Moment K V). z.maps) like) (ap (λ (z : Moment K V). z.place) like) (ap (λ (z : Moment K V). z.tables) like)))

  -- and of who reclaims all, while nobody makes a map or ends one
  module _ (i : ℕ) (lists : ℕ → List ℕ) (before next : ReclaimAll) (told : Settled (Node K V)) (at : IsReclaiming same hash old s i lists before) (leads : ReclaimingLeads same hash s i lists old new before next told)
      (led : n ≡ record s { world = leads.1.w2; maps = leads.1.maps2 }) (last : Bool) (o : Outcome V) (refused : Bool) where
    abbrev all_effects : List Effect
    all_effects = effects_of acts.Row known new.changed

    abbrev all_w : Moment K V
    all_w = with_effects None None all_effects m

    abbrev all_then : Moment K V
    all_then = after (record { deed = ReclaimsAll last; outcome = o; effects = all_effects; refused = refused }) m

    no_maker : {X : Type 0} (j : ℕ) (b : Beginning K) → n.makers j ≡ Some b → X
    no_maker j b makes = absurd (let both : None ≡ Some b = sym (at.under_way.stand.no_makers j) ∙ sym (ap (λ (z : Scene K V). z.makers j) led) ∙ makes in cc both)

    no_ender : {X : Type 0} (j : ℕ) (f : Finishing K V) → n.enders j ≡ Some f → X
    no_ender j f ends = absurd (let both : None ≡ Some f = sym (at.under_way.stand.no_enders j) ∙ sym (ap (λ (z : Scene K V). z.enders j) led) ∙ ends in cc both)

    pub reclaiming_aside : MapsComeAndGo all_then (known_after acts.Row new.changed known) enders n
    reclaiming_aside = record {
      count = so.count;
      numbers = counted_again so.count all_w all_then refl refl (reclaiming_keeps_count same hash named m known s whole old new i lists before next told at leads so.count so.numbers);
      below = maps_below so.count s so.below leads.1.w2 leads.1.maps2 (λ k. (same_map_keeps (hash k) (s.maps k) (leads.1.maps2 k) (at.hashes k) (leads.1.as_they_were k)).setting) n
          (ap (λ (z : Scene K V). z.maps) led) (ap (λ (z : Scene K V). z.makers) led);
      names = effects_named None None all_effects m so.names;
      coming = λ j b makes. no_maker j b makes;
      going = λ j e is f ends. no_ender j f ends;
    }

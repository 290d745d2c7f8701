-- Wherever a list of acts has led, each map that is there by the history stands, is made, or ends.
use Rattle.std.specs.Prelude.{◌≡◌, ◌≢◌, ◌⊎◌, ◌==◌, ℕ, Bool, true, false, List, length, [], ◌∷◌, Option, Some, None, if◌then◌else◌, is_ok, option_map}
use Rattle.std.specs.List.{list_any}
use Rattle.std.proofs.Common.{refl, ap, sym, subst, ◌∙◌, inl, inr}
use Rattle.std.proofs.lemmas.Bool.{cases_eq}
use Rattle.seize_acts.specs.Acts.Answers.{Grant}
use Rattle.run_schedules.specs.Given.SeizeWordsMem.{Mem}
use Rattle.run_schedules.specs.Given.SeizeWordsDeclared.fault.Fault.{Fault}
use Rattle.run_schedules.specs.Given.RawDeclared.machines.end_map.EndMap.{EndMap}
use Rattle.seize_acts.specs.Given.SeizeWorld.{Row, with_at}
use Rattle.seize_acts.specs.Given.SeizeReclaimAll.{reclaim_all_plan}
use Rattle.seize_acts.specs.Given.SeizeDeclared.advance.Advance.{Advance}
use Rattle.seize_acts.specs.Given.SeizeDeclared.advance.Advance.TheVariants as progress
use Rattle.run_legal.specs.Given.TablesNodes.{deferred_word, was_left}
use Rattle.run_legal.specs.Given.TablesDeclared.node.Node.{Node}
use Rattle.run_legal.specs.Given.TablesDeclared.setting.Setting.{Setting}
use Rattle.run_schedules.specs.Given.RawEndMap.{end_map_plan, ending}
use Rattle.run_schedules.specs.Given.RawMachine.{machine_asked, machine_plan, machine_replied}
use Rattle.threads_rule.specs.Given.ResizeNewMap.{new_map_plan, opening}
use Rattle.threads_rule.specs.Given.ResizeDeclared.new_map.NewMap.{NewMap}
use Rattle.run_schedules.specs.declared.effect.Effect.{Effect}
use Rattle.run_schedules.specs.declared.outcome.Outcome.{Outcome}
use Rattle.run_schedules.specs.declared.outcome.Outcome.TheVariants as outcome
use Rattle.run_schedules.specs.Schedules.Moment.{MapThere, Moment}
use Rattle.run_schedules.specs.Schedules.Views.{map_at}
use Rattle.run_legal.specs.Given.EffectsDeclared.changed.Changed.{Changed}
use Rattle.run_legal.specs.Given.EffectsEffects.{effects_of, known_after}
use Rattle.run_legal.specs.Given.EffectsDeclared.acting.Acting.TheVariants as acts
use Rattle.run_legal.specs.Given.FinishesEndings.{Finishing}
use Rattle.run_legal.specs.Given.FinishesMaps.{Standing}
use Rattle.run_legal.specs.Given.NamedSeen.{kind_of}
use Rattle.run_legal.specs.Given.ScenesScene.{Scene, row_of, slot_of}
use Rattle.run_legal.proofs.Given.CallersTogether.At.{at_other, at_same}
use Rattle.run_legal.proofs.Given.ScenesNoCall.{none_is}
use Rattle.threads_rule.specs.Given.ActsActs.{Act, BeginsCall, StepsCall, TellsCall, AsksCall, StopsCall, BeginsMaking, StepsMaking, BeginsEnding, StepsEnding, BeginsRow, StepsRow}
use Rattle.play_linear.specs.Given.ActsAsSteps.{changed_of, row_changed}
use Rattle.play_linear.specs.Given.ActsCourses.{set_up}
use Rattle.play_linear.specs.Given.ActsLeads.{MayBe}
use Rattle.play_linear.proofs.Given.ActsAsSteps.Told.{was_told}
use Rattle.run_schedules.specs.Deeds.Deeds.{Begins, Deed, Ends, Entry, Leaves, Makes, MapGoes, Opens, ReclaimsAll, Registers, Replies, Shuts, Steps, Stops, Tends, moment}
use Rattle.play_linear.specs.Given.PlayedPlay.{Ending, Making, Now, State, all_stepped, call_begun, call_for, call_stepped, call_stopped, call_replied, has_root, is_over, is_refusal, made_on, making_deed, making_outcome, outcome_of, pairs_for, reply_for, row_deed, row_outcome, row_stepped, settled_outcome}
use Rattle.play_linear.specs.Given.PlayedReached.{IsOf, made_so, makes_so, stands_so}
use Rattle.play_linear.proofs.Given.PlayedPlayedAs.{PlayedAs, ReclaimedAs}
use Rattle.play_linear.specs.Linear.Coming.{ComesBy, MapsComeAndGo}
use Rattle.play_linear.proofs.Linear.MapActs.{deed_by}
use Rattle.play_linear.proofs.Linear.RowsPlayed.{IsOfRow, is_of_row}
use Rattle.play_linear.proofs.Linear.StepsPlayed.{there_alike}
use Rattle.play_moves.proofs.EachMoves.MapsIn.{AreIn, LeavesMaps, comes_in, fails_in, found_in, goes_in, none_in, still_in, then_in}
use Rattle.play_moves.proofs.EachMoves.Rooted.{Rooted, step_rooted}
use Rattle.run_schedules.proofs.Given.General.{same_some, none_mapped as nothing_told}

-- who acts on slots, or reclaims all, leaves maps
rows_leave_maps : {K V : Type 0} (d : Deed K V) → IsOfRow d → LeavesMaps d
rows_leave_maps (Registers s) is = tt
rows_leave_maps (Opens s) is = tt
rows_leave_maps (Shuts s) is = tt
rows_leave_maps (Leaves s) is = tt
rows_leave_maps (Tends s) is = tt
rows_leave_maps (ReclaimsAll last) is = tt
rows_leave_maps _ is = absurd is

module _ {K V S : Type 0} where
  -- a map with this number stands, is made, or ends
  abbrev pub IsHad : Now K V S → ℕ → Type 0
  IsHad now n =
      ((at : Setting × S) × (now.maps n ≡ Some at)) ⊎ (((i : ℕ) × (b : Making S) × (now.makers i ≡ Some b) × (b.map ≡ n)) ⊎ ((i : ℕ) × (e : Ending) × (now.enders i ≡ Some e) × (e.map ≡ n)))

  abbrev pub MapsAreHad : State K V S → Type 0
  MapsAreHad x = AreIn (IsHad x.now) (moment x.history).maps

  module _ (now : Now K V S) (i : ℕ) where
    -- where a making begins, goes on, or is over; and an end
    with_maker : (next : Option (Making S)) (n : ℕ) → ((b : Making S) → now.makers i ≡ Some b → b.map ≡ n → IsHad (record now { makers = with_at now.makers i next }) n) → IsHad now n
        → IsHad (record now { makers = with_at now.makers i next }) n
    with_maker next n own (inl stands) = inl stands
    with_maker next n own (inr (inr ends)) = inr (inr ends)
    with_maker next n own (inr (inl (j, b, makes, is))) = elim (cases_eq j i) as (λ _. IsHad (record now { makers = with_at now.makers i next }) n) [
      | inl same ↦ own b (ap now.makers (sym same) ∙ makes) is
      | inr other ↦ inr (inl (j, b, at_other now.makers i next j other ∙ makes, is))
    ]

    with_ender : (next : Option Ending) (n : ℕ) → ((e : Ending) → now.enders i ≡ Some e → e.map ≡ n → IsHad (record now { enders = with_at now.enders i next }) n) → IsHad now n
        → IsHad (record now { enders = with_at now.enders i next }) n
    with_ender next n own (inl stands) = inl stands
    with_ender next n own (inr (inl makes)) = inr (inl makes)
    with_ender next n own (inr (inr (j, e, ends, is))) = elim (cases_eq j i) as (λ _. IsHad (record now { enders = with_at now.enders i next }) n) [
      | inl same ↦ own e (ap now.enders (sym same) ∙ ends) is
      | inr other ↦ inr (inr (j, e, at_other now.enders i next j other ∙ ends, is))
    ]

-- After one more entry, or none.
module _ {K V S : Type 0} (x : State K V S) (here : MapsAreHad x) where
  abbrev m : Moment K V
  m = moment x.history

  quiet_had : (taken : Bool) (d : Deed K V) → LeavesMaps d → (o : Outcome V) (now : Now K V S) → ((n : ℕ) → IsHad x.now n → IsHad now n)
      → AreIn (IsHad now) (moment (if taken then record { deed = d; outcome = o; effects = []; refused = false } ∷ x.history else x.history)).maps
  quiet_had true d leaves o now so = still_in (IsHad now) (IsHad now) m (then_in (IsHad x.now) (IsHad now) so m.maps here) o [] false d leaves
  quiet_had false d leaves o now so = then_in (IsHad x.now) (IsHad now) so m.maps here

  works_had : (d : Deed K V) → LeavesMaps d → (o : Outcome V) (fs : List Effect) (refused : Bool) (now : Now K V S) → ((n : ℕ) → IsHad x.now n → IsHad now n)
      → AreIn (IsHad now) (moment (record { deed = d; outcome = o; effects = fs; refused = refused } ∷ x.history)).maps
  works_had d leaves o fs refused now so = still_in (IsHad now) (IsHad now) m (then_in (IsHad x.now) (IsHad now) so m.maps here) o fs refused d leaves

  -- the step of a making
  module _ (i : ℕ) (it : Making S) (makes : x.now.makers i ≡ Some it) (machine : NewMap) (said : Advance Setting) (memory : Mem (Node K V)) (fs : List Effect) (refused : Bool)
      (rooted : Rooted it.machine.stands (machine, said)) (unknown : has_root it.machine.stands ≡ false → map_at it.map m ≡ None) where
    abbrev then_at : Advance Setting → Now K V S
    then_at p = made_on i it machine p (record x.now { memory = memory })

    -- any other map is as it was
    others : (p : Advance Setting) (n : ℕ) → n ≢ it.map → IsHad x.now n → IsHad (then_at p) n
    others progress.Goes n ne had = with_maker (record x.now { memory = memory }) i (Some (record it { machine = machine })) n (λ b was is. absurd (ne (sym is ∙ ap (λ (c : Making S). c.map) (same_some b it (sym was ∙ makes))))) had
    others progress.Waits n ne had = with_maker (record x.now { memory = memory }) i (Some (record it { machine = machine })) n (λ b was is. absurd (ne (sym is ∙ ap (λ (c : Making S). c.map) (same_some b it (sym was ∙ makes))))) had
    others (progress.Refused fault) n ne had = with_maker (record x.now { memory = memory }) i None n (λ b was is. absurd (ne (sym is ∙ ap (λ (c : Making S). c.map) (same_some b it (sym was ∙ makes))))) had
    others (progress.Done setting) n ne had = by (with_maker (record x.now { memory = memory }) i None n (λ b was is. absurd (ne (sym is ∙ ap (λ (c : Making S). c.map) (same_some b it (sym was ∙ makes))))) had)
      where
        by : IsHad (record x.now { memory = memory; makers = with_at x.now.makers i None }) n → IsHad (then_at (progress.Done setting)) n
        by (inl (at, stands)) = inl (at, at_other x.now.maps it.map (Some (setting, it.hasher)) n ne ∙ stands)
        by (inr rest) = inr rest

    -- its own is made still, or stands
    own : (p : Advance Setting) → ((fault : Fault) → p ≡ progress.Refused fault → ⊥) → IsHad (then_at p) it.map
    own progress.Goes on = inr (inl (i, record it { machine = machine }, at_same x.now.makers i (Some (record it { machine = machine })) i refl, refl))
    own progress.Waits on = inr (inl (i, record it { machine = machine }, at_same x.now.makers i (Some (record it { machine = machine })) i refl, refl))
    own (progress.Done setting) on = inl ((setting, it.hasher), at_same x.now.maps it.map (Some (setting, it.hasher)) it.map refl)
    own (progress.Refused fault) on = absurd (on fault refl)

    abbrev entry : Deed K V → Entry K V
    entry d = record { deed = d; outcome = making_outcome said; effects = fs; refused = refused }

    all_on : ((fault : Fault) → said ≡ progress.Refused fault → ⊥) → (n : ℕ) → IsHad x.now n → IsHad (then_at said) n
    all_on on n had = elim (cases_eq n it.map) as (λ _. IsHad (then_at said) n) [
      | inl same ↦ subst (IsHad (then_at said)) (sym same) (own said on)
      | inr other ↦ others said n other had
    ]

    by_roots : (p q : Bool) → has_root it.machine.stands ≡ p → has_root machine.stands ≡ q → AreIn (IsHad (then_at said)) (moment (entry (deed_by it.map machine p q) ∷ x.history)).maps
    by_roots true false was is = fails_in (IsHad x.now) (IsHad (then_at said)) m here (making_outcome said) fs refused it.map (others said)
    by_roots true true was is =
        works_had (Makes it.map) tt (making_outcome said) fs refused (then_at said) (all_on (λ fault says. let none = rooted.1 fault says in cc (none, is)))
    by_roots false true was is =
        comes_in (IsHad x.now) (IsHad (then_at said)) m here (making_outcome said) fs refused it.map machine.setting.root machine.setting.mode (pairs_for machine.len)
        (all_on (λ fault says. let none = rooted.1 fault says in cc (none, is))) (own said (λ fault says. let none = rooted.1 fault says in cc (none, is)))
    by_roots false false was is =
        still_in (IsHad (then_at said)) (IsHad (then_at said)) m (none_in (IsHad x.now) (IsHad (then_at said)) it.map (others said) m.maps (unknown was) here) (making_outcome said) fs refused (Makes it.map) tt

    pub makes_had : AreIn (IsHad (then_at said)) (moment (entry (making_deed it.map it.machine machine) ∷ x.history)).maps
    makes_had = by_roots (has_root it.machine.stands) (has_root machine.stands) refl refl

  -- the step of an end
  module _ (i : ℕ) (it : Ending) (ends : x.now.enders i ≡ Some it) (o : Outcome V) (fs : List Effect) (refused : Bool) (memory : Mem (Node K V)) where
    other_end : (next : Option Ending) (n : ℕ) → n ≢ it.map → IsHad x.now n → IsHad (record x.now { memory = memory; enders = with_at x.now.enders i next }) n
    other_end next n ne had = with_ender (record x.now { memory = memory }) i next n (λ e was is. absurd (ne (sym is ∙ ap (λ (c : Ending). c.map) (same_some e it (sym was ∙ ends))))) had

    pub ends_had : (q : Bool) (machine : EndMap)
        → AreIn (IsHad (record x.now { memory = memory; enders = with_at x.now.enders i (if q then None else Some (record it { machine = machine })) }))
        (moment (record { deed = if q then MapGoes it.map else Ends it.map; outcome = o; effects = fs; refused = refused } ∷ x.history)).maps
    ends_had true machine =
        goes_in (IsHad x.now) (IsHad (record x.now { memory = memory; enders = with_at x.now.enders i None })) m here o fs refused it.map (other_end None)
    ends_had false machine = works_had (Ends it.map) tt o fs refused (record x.now { memory = memory; enders = with_at x.now.enders i next }) on
      where
        next : Option Ending
        next = Some (record it { machine = machine })

        on : (n : ℕ) → IsHad x.now n → IsHad (record x.now { memory = memory; enders = with_at x.now.enders i (Some (record it { machine = machine })) }) n
        on n had = elim (cases_eq n it.map) as (λ _. IsHad (record x.now { memory = memory; enders = with_at x.now.enders i (Some (record it { machine = machine })) }) n) [
          | inl same ↦ inr (inr (i, record it { machine = machine }, at_same x.now.enders i (Some (record it { machine = machine })) i refl, sym same))
          | inr other ↦ other_end (Some (record it { machine = machine })) n other had
        ]

module _ {K V S : Type 0} (same : K → K → Bool) (by_hasher : S → K → ℕ) (batch_size roots : ℕ) (aborts : ℕ → V) (x y : State K V S) (s n : Scene K V) (is : IsOf by_hasher s s.world.row x.now)
    (maps : MapsComeAndGo (moment x.history) x.known x.now.enders s) (here : MapsAreHad x) where
  abbrev Played : Act K V S → Type 0
  Played act = PlayedAs same by_hasher batch_size roots aborts x y act

  abbrev May : Act K V S → Type 0
  May act = MayBe same by_hasher batch_size roots slot_of act s

  then_had : (z : State K V S) → y ≡ z → MapsAreHad z → MapsAreHad y
  then_had z is_z had = subst MapsAreHad (sym is_z) had

  -- a making begins, by who has none
  making_begins : (i map : ℕ) (hasher : S) (given : Setting) (places : ℕ) → May (BeginsMaking i map hasher given places) → Played (BeginsMaking i map hasher given places) → MapsAreHad y
  making_begins i map hasher given places may y_is =
      then_had _ y_is
      (then_in (IsHad x.now) (IsHad (record x.now { makers = with_at x.now.makers i (Some (record { map = map; hasher = hasher; machine = opening given roots places })) }))
      (λ k had. with_maker x.now i (Some (record { map = map; hasher = hasher; machine = opening given roots places })) k (λ b was of. absurd (cc (was, none))) had) (moment x.history).maps here)
    where
      none : x.now.makers i ≡ None
      none = nothing_told (makes_so by_hasher) (x.now.makers i) (is.makers i ∙ ap (option_map made_so) (none_is (s.makers i) may.0.no_making))

  -- an end begins, of a map that stands
  end_begins : (i map : ℕ) → May (BeginsEnding i map) → Played (BeginsEnding i map) → MapsAreHad y
  end_begins i map may (set, there, y_is) = then_had _ y_is (then_in (IsHad x.now) (IsHad now2) on (moment x.history).maps here)
    where
      it : Ending
      it = record { map = map; machine = ending set.0 false }

      now2 : Now K V S
      now2 = record x.now { maps = with_at x.now.maps map None; enders = with_at x.now.enders i (Some it) }

      none : x.now.enders i ≡ None
      none = nothing_told (λ (f : Ending). f.machine) (x.now.enders i) (is.enders i ∙ ap (option_map (λ f. f.machine)) (none_is (s.enders i) may.0.no_ending))

      on : (k : ℕ) → IsHad x.now k → IsHad now2 k
      on k (inr (inl makes)) = inr (inl makes)
      on k (inr (inr (j, e, ends, of))) = elim (cases_eq j i) as (λ _. IsHad now2 k) [
        | inl same ↦ absurd (let was = ap x.now.enders (sym same) ∙ ends in cc (was, none))
        | inr other ↦ inr (inr (j, e, at_other x.now.enders i (Some it) j other ∙ ends, of))
      ]
      on k (inl (at, stands)) = elim (cases_eq k map) as (λ _. IsHad now2 k) [
        | inl same ↦ inr (inr (i, it, at_same x.now.enders i (Some it) i refl, sym same))
        | inr other ↦ inl (at, at_other x.now.maps map None k other ∙ stands)
      ]

  making_steps : (i : ℕ) (g : Grant) → Played (StepsMaking i g) → MapsAreHad y
  making_steps i g (it, makes, end, computed, y_is) =
      then_had _ y_is
      (makes_had x here i it makes end.1.0 end.1.1 end.0 (effects_of (acts.Making it.map) x.known change) (is_refusal change)
      (step_rooted it.machine x.now.memory end.0 change end.1 it.machine.stands refl (was_told x.now.memory g (new_map_plan {K = K} {V = V} it.machine) end computed)) unknown)
    where
      change : Changed
      change = changed_of x.now.memory g (new_map_plan {K = K} {V = V} it.machine)

      unknown : has_root it.machine.stands ≡ false → map_at it.map (moment x.history) ≡ None
      unknown none =
          let other = there_alike (makes_so by_hasher) made_so (x.now.makers i) (s.makers i) (is.makers i) it makes in
          let map_is : it.map ≡ other.0.map = ap (λ (p : ℕ × ((K → ℕ) × NewMap)). p.0) other.2 in
          let machine_is : it.machine ≡ other.0.machine = ap (λ (p : ℕ × ((K → ℕ) × NewMap)). p.1.1) other.2 in
          ap (λ (map : ℕ). map_at map (moment x.history)) map_is
          ∙ (subst (λ (q : Bool). ComesBy q other.0 (moment x.history)) (sym (ap (λ (c : NewMap). has_root c.stands) machine_is) ∙ none) (maps.coming i other.0 other.1)).none

  pub acts_had : (act : Act K V S) → May act → Played act → MapsAreHad y
  acts_had (BeginsCall i m wanted) may (at, there, y_is) =
      then_had _ y_is (quiet_had x here true (Begins i (slot_of i) m (call_for wanted)) tt outcome.Goes (call_begun i m by_hasher (call_for wanted) x at).now (λ k had. had))
  acts_had (StepsCall i m g) may (at, stands, (c, has, end, came, y_is)) =
      let change = changed_of x.now.memory g (machine_plan same same (by_hasher at.1) c.machine) in
      then_had _ y_is
      (works_had x here (Steps i) tt (outcome_of (known_after (acts.Call i m) change x.known) (kind_of c.call) c.value end.1.1) (effects_of (acts.Call i m) x.known change) (is_refusal change) (call_stepped i m c change x end).now
      (λ k had. had))
  acts_had (TellsCall i m reply) may (c, has, y_is) =
      then_had _ y_is (quiet_had x here (is_ok (machine_replied c.machine reply).1) (Replies i (reply_for (aborts (length x.told)) reply)) tt outcome.Goes (call_replied i m aborts reply x c).now (λ k had. had))
  acts_had (AsksCall i m) may (c, has, y_is) = then_had _ y_is here
  acts_had (StopsCall i m) may (c, has, y_is) = then_had _ y_is (quiet_had x here (machine_asked c.machine).1 (Stops i) tt outcome.Done (call_stopped i m x c).now (λ k had. had))
  acts_had (BeginsMaking i map hasher given places) may played = making_begins i map hasher given places may played
  acts_had (StepsMaking i g) may played = making_steps i g played
  acts_had (BeginsEnding i map) may played = end_begins i map may played
  acts_had (StepsEnding i g) may (f, has, end, came, y_is) =
      let change = changed_of x.now.memory g (end_map_plan {K = K} {V = V} f.machine) in
      then_had _ y_is (ends_had x here i f has (settled_outcome end.1.1) (effects_of (acts.Ending f.map) x.known change) (is_refusal change) end.0 (is_over end.1.1) end.1.0)
  acts_had (BeginsRow i request) may (called, there, y_is) = then_had _ y_is here
  acts_had (StepsRow i g) may (row, has, end, came, y_is) =
      let change = row_changed (row_of row) g x.now.memory in
      then_had _ y_is
      (works_had x here (row_deed row) (rows_leave_maps (row_deed row) (is_of_row K V row)) (row_outcome end.1.1) (effects_of acts.Row x.known change) (is_refusal change) (row_stepped i row change x end).now (λ k had. had))

-- And so it is where all is reclaimed.
module _ {K V S : Type 0} (same : K → K → Bool) (by_hasher : S → K → ℕ) (batch_size roots : ℕ) (aborts : ℕ → V) (x y : State K V S) (here : MapsAreHad x) where
  pub reclaiming_had : (g : Grant) → ReclaimedAs same by_hasher batch_size roots aborts x y g → MapsAreHad y
  reclaiming_had g (c, has, end, came, y_is) =
      let change = changed_of x.now.memory g (reclaim_all_plan deferred_word was_left c) in
      subst MapsAreHad (sym y_is)
      (works_had x here (ReclaimsAll (is_over end.1.1)) tt (settled_outcome end.1.1) (effects_of acts.Row x.known change) (is_refusal change) (all_stepped change x end).now (λ k had. had))

module _ {K S : Type 0} (V : Type 0) (same : K → K → Bool) (by_hasher : S → K → ℕ) (hash : ℕ → K → ℕ) (batch_size roots : ℕ) (aborts : ℕ → V) where
  -- where all is reclaimed each of them stands
  pub all_stand : (x : State K V S) (s : Scene K V) (rows : ℕ → Row) → IsOf by_hasher s rows x.now → ((j : ℕ) → s.makers j ≡ None) → ((j : ℕ) → s.enders j ≡ None) → MapsAreHad x
      → (n : ℕ) → list_any (λ (f : MapThere). f.number == n) (moment x.history).maps ≡ true → (standing : Standing K) × (s.maps n ≡ Some standing)
  all_stand x s rows is no_makers no_enders had n there = by (found_in (IsHad x.now) n (moment x.history).maps had there)
    where
      by : IsHad x.now n → (standing : Standing K) × (s.maps n ≡ Some standing)
      by (inl (at, stands)) = let other = there_alike (stands_so by_hasher) set_up (x.now.maps n) (s.maps n) (is.maps n) at stands in (other.0, other.1)
      by (inr (inl (j, b, makes, of))) = absurd (let other = there_alike (makes_so by_hasher) made_so (x.now.makers j) (s.makers j) (is.makers j) b makes in cc (other.1, no_makers j))
      by (inr (inr (j, e, ends, of))) =
          absurd (let other = there_alike (λ (f : Ending). f.machine) (λ (f : Finishing K V). f.machine) (x.now.enders j) (s.enders j) (is.enders j) e ends in cc (other.1, no_enders j))

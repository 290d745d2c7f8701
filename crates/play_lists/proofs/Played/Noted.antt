-- Of each call under way that is played the history says so: by its caller, on its map, and what was called.
use Rattle.std.specs.Prelude.{◌≢◌, ◌⊎◌, ◌+◌, ◌==◌, cond, not, ◌&&◌, find, map, Option, Some, None, option_map, is_ok, length, if◌then◌else◌}
use Rattle.std.proofs.Common.{◌≡◌, ℕ, Bool, true, false, List, [], ◌∷◌, inl, inr, refl, ap, sym, subst, ◌∙◌, arith}
use Rattle.std.proofs.lemmas.Bool.{cases_eq}
use Rattle.seize.specs.declared.advance.Advance.{Advance}
use Rattle.seize.specs.declared.advance.Advance.TheVariants as progress
use Rattle.seize.specs.declared.rows.leave.Leave.{Leave}
use Rattle.seize.specs.declared.rows.leave.Leaving.{Leaving}
use Rattle.seize.specs.declared.rows.leave.Leaving.TheVariants as leaves
use Rattle.seize.specs.declared.rows.register.Registering.{Registering}
use Rattle.seize.specs.declared.rows.register.Registering.TheVariants as registers
use Rattle.seize.specs.declared.rows.settle.Settled.{Settled}
use Rattle.seize.specs.declared.states.TheConstants.{ACTIVE}
use Rattle.map_tables.specs.declared.node.Node.{Node}
use Rattle.map_tables.specs.declared.setting.Setting.{Setting}
use Rattle.run_finds.specs.Given.ResizeDeclared.new_map.NewMap.{NewMap}
use Rattle.seize.specs.ReclaimAll.{reclaim_all_plan}
use Rattle.map_tables.specs.Nodes.{deferred_word, was_left}
use Rattle.run_kept.specs.Given.ResizeNewMap.{new_map_plan}
use Rattle.run_schedules.specs.Given.RawEndMap.{end_map_plan}
use Rattle.run_finds.specs.Given.RawMachine.{machine_asked, machine_plan, machine_replied}
use Rattle.run_finds.specs.Given.RawDeclared.machines.progress.Progress.{Progress as CallProgress}
use Rattle.run_finds.specs.Given.RawDeclared.machines.progress.Progress.TheVariants as comes
use Rattle.many_acts.specs.Given.FinishesMaps.{with_call}
use Rattle.many_acts.proofs.Given.CallersTogether.At.{at_other}
use Rattle.seize.specs.World.{with_at}
use Rattle.many_acts.specs.Given.FinishesMachines.{machine_of}
use Rattle.many_acts.proofs.Given.ScenesNoCall.{none_is}
use Rattle.many_acts.specs.Given.ScenesReplying.{unless_stopped}
use Rattle.seize_acts.specs.Acts.Answers.{Grant}
use Rattle.many_acts.specs.Given.ScenesScene.{row_of, slot_of}
use Rattle.many_acts.specs.Given.ScenesStepping.{has_ended}
use Rattle.many_acts.specs.Given.ScenesDeclared.row.SlotRow.{SlotRow}
use Rattle.many_acts.specs.Given.ScenesDeclared.row.SlotRow.TheVariants as rows
use Rattle.run_schedules.specs.Runs.Same.{is_same}
use Rattle.run_schedules.specs.declared.call.Call.{Call}
use Rattle.run_schedules.specs.declared.call.Reply.{Reply}
use Rattle.run_schedules.specs.declared.effect.Effect.{Effect}
use Rattle.run_schedules.specs.declared.outcome.Outcome.{Outcome}
use Rattle.run_schedules.specs.declared.outcome.Outcome.TheVariants as outcome
use Rattle.run_schedules.specs.Schedules.After.{with_outcome, replied, without_call}
use Rattle.run_schedules.specs.Schedules.Beginning.{fresh_call}
use Rattle.run_schedules.specs.Schedules.Effects.{call_by, with_effect, with_effects}
use Rattle.run_schedules.specs.Schedules.Entry.{ends_call}
use Rattle.run_schedules.specs.Schedules.Moment.{UnderWay, Moment}
use Rattle.run_schedules.specs.Schedules.Views.{call_of}
use Rattle.run_kept.specs.Given.EffectsEffects.{effects_of, known_after}
use Rattle.run_kept.specs.Given.EffectsKnown.{Known}
use Rattle.run_kept.specs.Given.EffectsDeclared.acting.Acting.TheVariants as acting
use Rattle.many_acts.proofs.Given.FollowsCalling.{apart_back, found_kept, found_passes, is_same_is, is_same_refl, come_same, replied_same}
use Rattle.many_acts.proofs.Given.FollowsCalls.{IsOfSame, changed, changed_same, found, of_same}
use Rattle.run_finds.specs.Given.ExecutorDeclared.kind.CallKind.{CallKind}
use Rattle.run_finds.specs.Given.NamedSeen.{kind_of}
use Rattle.run_schedules.specs.Deeds.Deeds.{Deed, Begins, Steps, Replies, Stops, Registers, Opens, Leaves, MapComes, Makes, MapFails, Ends, MapGoes, ReclaimsAll, Entry, acted_on, after, at_work, begun, caller_of, calls_on, moment, named, worked}
use Rattle.many_acts.specs.Acts.Acts.{Act, BeginsCall, StepsCall, TellsCall, AsksCall, StopsCall, BeginsMaking, StepsMaking, BeginsEnding, StepsEnding, BeginsRow, StepsRow}
use Rattle.many_acts.specs.Acts.AsSteps.{changed_of, row_changed}
use Rattle.many_acts.specs.Acts.Leads.{MayBe}
use Rattle.play_lists.specs.Played.Play.{Calling, Making, Ending, Now, State, begun_call, call_for, ending_deed, has_root, is_over, keeps, leaves_as, made_on, making_deed, making_outcome, outcome_of, pairs_for, registers_as, reply_for, row_deed, row_outcome, settled_outcome, replied_call}
use Rattle.play_lists.proofs.Played.Alike.{its_call, others_call}
use Rattle.play_lists.proofs.Played.PlayedAs.{PlayedAs, ReclaimedAs, played_as, reclaimed_as}
use Rattle.play_lists.proofs.Played.Along.{At, Is, StaysSo}
use Rattle.run_finds.proofs.Given.General.{same_some}

-- numbers that differ are names that do
pub apart : (i j : ℕ) → j ≢ i → is_same (named i) (named j) ≡ false
apart i j ne = by (i == j) refl
  where
    by : (q : Bool) → (i == j) ≡ q → is_same (named i) (named j) ≡ false
    by true e = absurd (let same : i ≡ j = grind (arith, e) in ne (sym same))
    by false e = ap (λ (b : Bool). b && true) e

module _ {K V : Type 0} where
  -- the moment has a call of this caller, on this map, and this was called
  abbrev pub IsNoted : Moment K V → ℕ → ℕ → Call K V → Type 0
  IsNoted m on i call = (u : UnderWay K V) × (call_of (named i) m ≡ Some u) × (u.map ≡ on) × (u.call ≡ call)

  -- a caller has one call
  pub one_call : (m : Moment K V) (on other i : ℕ) (call called : Call K V) → IsNoted m on i call → IsNoted m other i called → on ≡ other
  one_call m on other i call called (u, here, map_is, call_is) (v, there, other_is, called_is) =
      let same : u ≡ v = (let both : Some u ≡ Some v = sym here ∙ there in cc both) in sym map_is ∙ ap (λ (w : UnderWay K V). w.map) same ∙ other_is

  -- calls of one caller have changed, but not in what they are
  changed_noted : (change : UnderWay K V → UnderWay K V) (is_of : (u : UnderWay K V) → IsOfSame u (change u)) (own : List ℕ) (m : Moment K V) (on i : ℕ) (call : Call K V) → IsNoted m on i call
      → IsNoted (record m { calls = map (changed change is_of own) m.calls }) on i call
  changed_noted change is_of own m on i call (u, here, map_is, call_is) =
      (changed change is_of own u, found change is_of own (named i) m.calls u here, (of_same change is_of own u).1 ∙ map_is, (of_same change is_of own u).2 ∙ call_is)

  -- so after effects
  effect_noted : (caller : Option (List ℕ)) (acted : Option ℕ) (f : Effect) (m : Moment K V) (on i : ℕ) (call : Call K V) → IsNoted m on i call → IsNoted (with_effect caller acted f m) on i call
  effect_noted None acted f m on i call noted = noted
  effect_noted (Some own) acted f m on i call noted = changed_noted (call_by m f) (changed_same m f) own m on i call noted

  effects_noted : (caller : Option (List ℕ)) (acted : Option ℕ) (effects : List Effect) (m : Moment K V) (on i : ℕ) (call : Call K V) → IsNoted m on i call
      → IsNoted (with_effects caller acted effects m) on i call
  effects_noted caller acted [] m on i call noted = noted
  effects_noted caller acted (f ∷ effects) m on i call noted =
      effects_noted caller acted effects (with_effect caller acted f m) on i call (effect_noted caller acted f m on i call noted)

  -- the call of another caller is gone
  others_noted : (m : Moment K V) (own on i : ℕ) (call : Call K V) → is_same (named own) (named i) ≡ false → IsNoted m on i call → IsNoted (record m { calls = without_call (named own) m.calls }) on i call
  others_noted m own on i call apart (u, here, map_is, call_is) =
      let is_its = is_same_is u.caller (named i) (found_passes (λ c. is_same c.caller (named i)) (λ c. true) m.calls u here) in
      let kept : not (is_same u.caller (named own)) ≡ true = ap (λ (l : List ℕ). not (is_same l (named own))) is_its ∙ ap not (apart_back (named own) (named i) apart) in
      (u, found_kept (λ c. is_same c.caller (named i)) (λ c. not (is_same c.caller (named own))) m.calls u here kept, map_is, call_is)

  -- one that is of no call leaves calls as they are
  abbrev pub OfNoCall : Deed K V → Type 0
  OfNoCall d = ((o : Outcome V) (calls : List (UnderWay K V)) → calls_on d o calls ≡ calls) × ((m : Moment K V) → (begun d m).calls ≡ m.calls)

  of_none : (e : Entry K V) (m : Moment K V) → OfNoCall e.deed → (on i : ℕ) (call : Call K V) → IsNoted m on i call → IsNoted (after e m) on i call
  of_none e m (leaves_them, begins_none) on i call (u, here, map_is, call_is) =
      let at : IsNoted (at_work e m) on i call = (u, ap (λ (l : List (UnderWay K V)). find (λ c. is_same c.caller (named i)) l) (begins_none m) ∙ here, map_is, call_is) in
      let w = effects_noted (caller_of e.deed) (acted_on e.deed (at_work e m)) e.effects (at_work e m) on i call at in
      (w.0, ap (λ (l : List (UnderWay K V)). find (λ c. is_same c.caller (named i)) l) (leaves_them e.outcome (worked e m).calls) ∙ w.1, w.2, w.3)

  if_none : (b : Bool) (d other : Deed K V) → OfNoCall d → OfNoCall other → OfNoCall (if b then d else other)
  if_none true d other one two = one
  if_none false d other one two = two

  opens : (s : ℕ) → OfNoCall (Opens s)
  opens s = (λ o calls. refl, λ m. refl)

  leaves_slot : (s : ℕ) → OfNoCall (Leaves s)
  leaves_slot s = (λ o calls. refl, λ m. refl)

  registers_at : (s : ℕ) → OfNoCall (Registers s)
  registers_at s = (λ o calls. refl, λ m. refl)

  pub making_none : (on : ℕ) (before next : NewMap) → OfNoCall (making_deed on before next)
  making_none on before next = by (has_root before.stands) (has_root next.stands)
    where
      by : (b c : Bool)
          → OfNoCall (if b then (if c then Makes on else MapFails on) else (if c then MapComes on next.setting.root next.setting.mode (pairs_for next.len) else Makes on))
      by true true = (λ o calls. refl, λ m. refl)
      by true false = (λ o calls. refl, λ m. refl)
      by false true = (λ o calls. refl, λ m. refl)
      by false false = (λ o calls. refl, λ m. refl)

  pub ending_none : {T : Type 0} (f : Ending) (told : Settled T) → OfNoCall (ending_deed f told)
  ending_none f told = if_none (is_over told) (MapGoes f.map) (Ends f.map) (λ o calls. refl, λ m. refl) (λ o calls. refl, λ m. refl)

  registers_none : (stands : Registering) (s : ℕ) → OfNoCall (registers_as stands s)
  registers_none registers.Begin s = registers_at s
  registers_none registers.Look s = registers_at s
  registers_none (registers.Widen bucket head) s = registers_at s
  registers_none (registers.Take head) s = registers_at s
  registers_none registers.Enter s = opens s
  registers_none registers.Registered s = registers_at s
  registers_none (registers.Refused fault) s = registers_at s

  leaves_none : (c : Leave) (stands : Leaving) → OfNoCall (leaves_as c stands)
  leaves_none c leaves.Swaps = (λ o calls. refl, λ m. refl)
  leaves_none c (leaves.Settles settle) = leaves_slot c.slot
  leaves_none c leaves.Frees = leaves_slot c.slot
  leaves_none c leaves.Over = if_none (c.becomes == ACTIVE) (Opens c.slot) (Leaves c.slot) (opens c.slot) (leaves_slot c.slot)

  pub row_none : (row : SlotRow) → OfNoCall (row_deed row)
  row_none (rows.Registers c) = registers_none c.stands c.slot
  row_none (rows.Enters c) = opens c.slot
  row_none (rows.Leaves c) = leaves_none c c.stands
  row_none (rows.Flushes c) = (λ o calls. refl, λ m. refl)
  row_none (rows.Frees c) = (λ o calls. refl, λ m. refl)

  -- A step of a call, one that it is told, and one that is given up.
  stepped_after : (own : ℕ) (o : Outcome V) (effects : List Effect) (m : Moment K V) (on i : ℕ) (call : Call K V) → (ends_call o ≡ true → is_same (named own) (named i) ≡ false) → IsNoted m on i call
      → IsNoted (after (record { deed = Steps own; outcome = o; effects = effects; refused = false }) m) on i call
  stepped_after own o effects m on i call apart noted = by (ends_call o) refl
    where
      w : Moment K V
      w = worked (record { deed = Steps own; outcome = o; effects = effects; refused = false }) m

      at : IsNoted w on i call
      at = effects_noted (Some (named own)) (acted_on {K = K} {V = V} (Steps own) m) effects m on i call noted

      Then : Bool → Type 0
      Then b = IsNoted (record w { calls = if b then without_call (named own) w.calls else map (λ c. if is_same c.caller (named own) then with_outcome o (record c { steps = c.steps + 1 }) else c) w.calls }) on i call

      by : (b : Bool) → ends_call o ≡ b → Then (ends_call o)
      by true ends = subst Then (sym ends) (others_noted w own on i call (apart ends) at)
      by false ends = subst Then (sym ends) (changed_noted (λ c. with_outcome o (record c { steps = c.steps + 1 })) (λ c. come_same o (record c { steps = c.steps + 1 })) (named own) w on i call at)

  replied_after : (own : ℕ) (reply : Reply V) (m : Moment K V) (on i : ℕ) (call : Call K V) → IsNoted m on i call
      → IsNoted (after (record { deed = Replies own reply; outcome = outcome.Goes; effects = []; refused = false }) m) on i call
  replied_after own reply m on i call noted = changed_noted (λ c. replied reply c c.stands) (λ c. replied_same reply c c.stands) (named own) m on i call noted

  stopped_after : (own : ℕ) (m : Moment K V) (on i : ℕ) (call : Call K V) → is_same (named own) (named i) ≡ false → IsNoted m on i call
      → IsNoted (after (record { deed = Stops own; outcome = outcome.Done; effects = []; refused = false }) m) on i call
  stopped_after own m on i call apart noted = others_noted m own on i call apart noted

  -- one that begins
  others_begin : (own guard to : ℕ) (its : Call K V) (m : Moment K V) (on i : ℕ) (call : Call K V) → is_same (named own) (named i) ≡ false → IsNoted m on i call
      → IsNoted (after (record { deed = Begins own guard to its; outcome = outcome.Goes; effects = []; refused = false }) m) on i call
  others_begin own guard to its m on i call apart (u, here, map_is, call_is) =
      (u, ap (λ z. cond z (Some (fresh_call (named own) (named guard) its to m.events)) (find (λ c. is_same c.caller (named i)) m.calls)) apart ∙ here, map_is, call_is)

  itself_begins : (own guard to : ℕ) (its : Call K V) (m : Moment K V) → IsNoted (after (record { deed = Begins own guard to its; outcome = outcome.Goes; effects = []; refused = false }) m) to own its
  itself_begins own guard to its m = (
    fresh_call (named own) (named guard) its to m.events,
    ap (λ z. cond z (Some (fresh_call (named own) (named guard) its to m.events)) (find (λ c. is_same c.caller (named own)) m.calls)) (is_same_refl (named own)),
    refl,
    refl,
  )

  -- a step that goes on tells no end
  pub not_over : (known : Known) (kind : CallKind) (value : Option V) (told : CallProgress (Node K V)) → has_ended told ≡ false → ends_call (outcome_of known kind value told) ≡ false
  not_over known kind value comes.Goes e = refl
  not_over known kind value (comes.Gave back) e = refl
  not_over known kind value (comes.Unstored back) e = refl
  not_over known kind value comes.Waits e = refl
  not_over known kind value (comes.Asks word) e = refl
  not_over known kind value comes.Ready e = refl
  not_over known kind value (comes.Pair word) e = refl
  not_over known kind value (comes.Done said) e = absurd (cc e)
  not_over known kind value (comes.Refused fault) e = absurd (cc e)

  -- a call at its place
  moved : (m : Moment K V) (on other i j : ℕ) (call called : Call K V) → on ≡ other → i ≡ j → call ≡ called → IsNoted m other j called → IsNoted m on i call
  moved m on other i j call called e f is (u, here, map_is, call_is) = (u, ap (λ (k : ℕ). call_of (named k) m) f ∙ here, map_is ∙ sym e, call_is ∙ sym is)

module _ {K V : Type 0} where
  -- it has gone on, and is what it was
  went_on : (c c2 d : Calling K V) (told : CallProgress (Node K V)) → c2.call ≡ c.call → (if has_ended told then None else Some c2) ≡ Some d → (has_ended told ≡ false) × (d.call ≡ c.call)
  went_on c c2 d told is has = by (has_ended told) refl has
    where
      by : (b : Bool) → has_ended told ≡ b → (if b then None else Some c2) ≡ Some d → (has_ended told ≡ false) × (d.call ≡ c.call)
      by true e none = absurd (let both : None ≡ Some d = none in cc both)
      by false e some = (e, ap (λ (v : Calling K V). v.call) (sym (same_some c2 d some)) ∙ is)

module _ {X : Type 0} (calls : ℕ → ℕ → Option X) (m i : ℕ) (it : Option X) (on j : ℕ) where
  pub at_it : on ≡ m → j ≡ i → with_call calls m i it on j ≡ it
  at_it e f = ap (λ (k : ℕ). with_call calls m i it k j) e ∙ ap (λ (k : ℕ). with_call calls m i it m k) f ∙ its_call calls m i it

  pub at_other_map : on ≢ m → with_call calls m i it on j ≡ calls on j
  at_other_map ne = ap (λ (f : ℕ → Option X). f j) (at_other calls m (with_at (calls m) i it) on ne)

module _ {K V S : Type 0} where
  abbrev pub CallsAreNoted : State K V S → Type 0
  CallsAreNoted x = (on i : ℕ) (c : Calling K V) → x.now.calls on i ≡ Some c → IsNoted (moment x.history) on i c.call

  -- who begins a call has none
  abbrev pub IsFreeToBegin : State K V S → Act K V S → Type 0
  IsFreeToBegin x (BeginsCall i m wanted) = (k : ℕ) → x.now.calls k i ≡ None
  IsFreeToBegin x act = Unit {0}

  module _ (x : State K V S) (noted : CallsAreNoted x) where
    -- an entry of no call
    worked_noted : (calls : ℕ → ℕ → Option (Calling K V)) (d : Deed K V) (o : Outcome V) (effects : List Effect) → OfNoCall d → ((on i : ℕ) → calls on i ≡ x.now.calls on i)
        → (on i : ℕ) (c : Calling K V) → calls on i ≡ Some c → IsNoted (after (record { deed = d; outcome = o; effects = effects; refused = false }) (moment x.history)) on i c.call
    worked_noted calls d o effects none as_before on i c has =
        of_none (record { deed = d; outcome = o; effects = effects; refused = false }) (moment x.history) none on i c.call (noted on i c (sym (as_before on i) ∙ has))

    module _ (i m : ℕ) where
      begins_noted : (call : Call K V) (c : Calling K V) → c.call ≡ call → ((k : ℕ) → x.now.calls k i ≡ None) → (on j : ℕ) (d : Calling K V) → with_call x.now.calls m i (Some c) on j ≡ Some d
          → IsNoted (after (record { deed = Begins i (slot_of i) m call; outcome = outcome.Goes; effects = []; refused = false }) (moment x.history)) on j d.call
      begins_noted call c is free on j d has = by (cases_eq j i) (cases_eq on m)
        where
          Goal : Type 0
          Goal = IsNoted (after (record { deed = Begins i (slot_of i) m call; outcome = outcome.Goes; effects = []; refused = false }) (moment x.history)) on j d.call

          by : (j ≡ i) ⊎ (j ≢ i) → (on ≡ m) ⊎ (on ≢ m) → Goal
          by (inr ne) at =
              others_begin i (slot_of i) m call (moment x.history) on j d.call (apart i j ne) (noted on j d (sym (others_call x.now.calls m i (Some c) on j ne) ∙ has))
          by (inl e) (inr ne) = absurd (let both : None ≡ Some d = sym (ap (x.now.calls on) e ∙ free on) ∙ sym (at_other_map x.now.calls m i (Some c) on j ne) ∙ has in cc both)
          by (inl e) (inl f) =
              let same : c ≡ d = same_some c d (sym (at_it x.now.calls m i (Some c) on j f e) ∙ has) in
              moved (after (record { deed = Begins i (slot_of i) m call; outcome = outcome.Goes; effects = []; refused = false }) (moment x.history)) on m j i d.call call f e
              (ap (λ (v : Calling K V). v.call) (sym same) ∙ is) (itself_begins i (slot_of i) m call (moment x.history))

      module _ (c : Calling K V) (here : x.now.calls m i ≡ Some c) where
        -- the caller has no call on another map
        no_other : (on j : ℕ) (d : Calling K V) → j ≡ i → on ≢ m → x.now.calls on j ≡ Some d → ⊥
        no_other on j d e ne there =
            ne (sym (one_call (moment x.history) m on i c.call d.call (noted m i c here) (noted on i d (sym (ap (x.now.calls on) e) ∙ there))))

        -- a call that goes on is what it was
        same_call : (c2 : Calling K V) → c2.call ≡ c.call → (on j : ℕ) (d : Calling K V) → with_call x.now.calls m i (Some c2) on j ≡ Some d → IsNoted (moment x.history) on j d.call
        same_call c2 is on j d has = by (cases_eq j i) (cases_eq on m)
          where
            by : (j ≡ i) ⊎ (j ≢ i) → (on ≡ m) ⊎ (on ≢ m) → IsNoted (moment x.history) on j d.call
            by (inr ne) at = noted on j d (sym (others_call x.now.calls m i (Some c2) on j ne) ∙ has)
            by (inl e) (inr ne) = noted on j d (sym (at_other_map x.now.calls m i (Some c2) on j ne) ∙ has)
            by (inl e) (inl f) =
                let same : c2 ≡ d = same_some c2 d (sym (at_it x.now.calls m i (Some c2) on j f e) ∙ has) in
                moved (moment x.history) on m j i d.call c.call f e (ap (λ (v : Calling K V). v.call) (sym same) ∙ is) (noted m i c here)

        steps_noted : (known : Known) (told : CallProgress (Node K V)) (effects : List Effect) (c2 : Calling K V) → c2.call ≡ c.call → (on j : ℕ) (d : Calling K V)
            → with_call x.now.calls m i (if has_ended told then None else Some c2) on j ≡ Some d
            → IsNoted (after (record { deed = Steps i; outcome = outcome_of known (kind_of c.call) c.value told; effects = effects; refused = false }) (moment x.history)) on j d.call
        steps_noted known told effects c2 is on j d has = by (cases_eq j i) (cases_eq on m)
          where
            o : Outcome V
            o = outcome_of known (kind_of c.call) c.value told

            next : Option (Calling K V)
            next = if has_ended told then None else Some c2

            by : (j ≡ i) ⊎ (j ≢ i) → (on ≡ m) ⊎ (on ≢ m) → IsNoted (after (record { deed = Steps i; outcome = o; effects = effects; refused = false }) (moment x.history)) on j d.call
            by (inr ne) at = stepped_after i o effects (moment x.history) on j d.call (λ ends. apart i j ne) (noted on j d (sym (others_call x.now.calls m i next on j ne) ∙ has))
            by (inl e) (inr ne) = absurd (no_other on j d e ne (sym (at_other_map x.now.calls m i next on j ne) ∙ has))
            by (inl e) (inl f) =
                let on_so = went_on c c2 d told is (sym (at_it x.now.calls m i next on j f e) ∙ has) in
                moved (after (record { deed = Steps i; outcome = o; effects = effects; refused = false }) (moment x.history)) on m j i d.call c.call f e on_so.1
                (stepped_after i o effects (moment x.history) m i c.call
                (λ ends. absurd (let both : true ≡ false = sym ends ∙ not_over known (kind_of c.call) c.value told on_so.0 in cc both)) (noted m i c here))

        tells_noted : (taken : Bool) (reply : Reply V) (c2 : Calling K V) → c2.call ≡ c.call → (on j : ℕ) (d : Calling K V) → with_call x.now.calls m i (Some c2) on j ≡ Some d
            → IsNoted (moment (if taken then record { deed = Replies i reply; outcome = outcome.Goes; effects = []; refused = false } ∷ x.history else x.history)) on j d.call
        tells_noted true reply c2 is on j d has = replied_after i reply (moment x.history) on j d.call (same_call c2 is on j d has)
        tells_noted false reply c2 is on j d has = same_call c2 is on j d has

        stops_noted : (ready : Bool) (on j : ℕ) (d : Calling K V) → with_call x.now.calls m i (unless_stopped ready c) on j ≡ Some d
            → IsNoted (moment (if ready then record { deed = Stops i; outcome = outcome.Done; effects = []; refused = false } ∷ x.history else x.history)) on j d.call
        stops_noted false on j d has = same_call c refl on j d has
        stops_noted true on j d has = by (cases_eq j i) (cases_eq on m)
          where
            by : (j ≡ i) ⊎ (j ≢ i) → (on ≡ m) ⊎ (on ≢ m) → IsNoted (after (record { deed = Stops i; outcome = outcome.Done; effects = []; refused = false }) (moment x.history)) on j d.call
            by (inr ne) at = stopped_after i (moment x.history) on j d.call (apart i j ne) (noted on j d (sym (others_call x.now.calls m i None on j ne) ∙ has))
            by (inl e) (inr ne) = absurd (no_other on j d e ne (sym (at_other_map x.now.calls m i None on j ne) ∙ has))
            by (inl e) (inl f) = absurd (let both : None ≡ Some d = sym (at_it x.now.calls m i None on j f e) ∙ has in cc both)

  -- a making that goes on leaves calls as they are
  pub made_calls : (i : ℕ) (b : Making S) (machine : NewMap) (told : Advance Setting) (now : Now K V S) (on j : ℕ) → (made_on i b machine told now).calls on j ≡ now.calls on j
  made_calls i b machine progress.Goes now on j = refl
  made_calls i b machine progress.Waits now on j = refl
  made_calls i b machine (progress.Done setting) now on j = refl
  made_calls i b machine (progress.Refused fault) now on j = refl

module _ {K V S : Type 0} (same : K → K → Bool) (hash : S → K → ℕ) (batch_size roots : ℕ) (aborts : ℕ → V) (x y : State K V S) (noted : CallsAreNoted x) where
  -- So it is after each act.
  pub acts_note : (act : Act K V S) → PlayedAs same hash batch_size roots aborts x y act → IsFreeToBegin x act → CallsAreNoted y
  acts_note (BeginsCall i m wanted) (at, there, is) free = subst CallsAreNoted (sym is) (begins_noted x noted i m (call_for wanted) (begun_call i m hash (call_for wanted) at) refl free)
  acts_note (StepsCall i m g) (at, stands, (c, here, end, came, is)) free =
      let change = changed_of x.now.memory g (machine_plan same same (hash at.1) c.machine) in
      subst CallsAreNoted (sym is)
      (steps_noted x noted i m c here (known_after (acting.Call i m) change x.known) end.1.1 (effects_of (acting.Call i m) x.known change)
      (record c { machine = end.1.0; value = keeps (kind_of c.call) end.1.1 c.value }) refl)
  acts_note (TellsCall i m reply) (c, here, is) free =
      subst CallsAreNoted (sym is)
      (tells_noted x noted i m c here (is_ok (machine_replied c.machine reply).1) (reply_for (aborts (length x.told)) reply) (replied_call (machine_replied c.machine reply) (reply_for (aborts (length x.told)) reply) c) refl)
  acts_note (AsksCall i m) (c, here, is) free = subst CallsAreNoted (sym is) (same_call x noted i m c here (record c { machine = (machine_asked c.machine).0 }) refl)
  acts_note (StopsCall i m) (c, here, is) free = subst CallsAreNoted (sym is) (stops_noted x noted i m c here (machine_asked c.machine).1)
  acts_note (BeginsMaking i on hasher given places) is free = subst CallsAreNoted (sym is) noted
  acts_note (StepsMaking i g) (b, here, end, came, is) free =
      let next = made_on i b end.1.0 end.1.1 (record x.now { memory = end.0 }) in
      subst CallsAreNoted (sym is)
      (worked_noted x noted next.calls (making_deed b.map b.machine end.1.0) (making_outcome end.1.1)
      (effects_of (acting.Making b.map) x.known (changed_of x.now.memory g (new_map_plan {K = K} {V = V} b.machine))) (making_none b.map b.machine end.1.0)
      (made_calls i b end.1.0 end.1.1 (record x.now { memory = end.0 })))
  acts_note (BeginsEnding i m) (at, there, is) free = subst CallsAreNoted (sym is) noted
  acts_note (StepsEnding i g) (f, here, end, came, is) free =
      subst CallsAreNoted (sym is)
      (worked_noted x noted x.now.calls (ending_deed f end.1.1) (settled_outcome end.1.1)
      (effects_of (acting.Ending f.map) x.known (changed_of x.now.memory g (end_map_plan {K = K} {V = V} f.machine))) (ending_none f end.1.1) (λ on j. refl))
  acts_note (BeginsRow i request) (called, there, is) free = subst CallsAreNoted (sym is) noted
  acts_note (StepsRow i g) (row, here, end, came, is) free =
      subst CallsAreNoted (sym is)
      (worked_noted x noted x.now.calls (row_deed row) (row_outcome end.1.1) (effects_of acting.Row x.known (row_changed (row_of row) g x.now.memory)) (row_none row) (λ on j. refl))

  pub reclaiming_notes : (g : Grant) → ReclaimedAs same hash batch_size roots aborts x y g → CallsAreNoted y
  reclaiming_notes g (c, here, end, came, is) =
      subst CallsAreNoted (sym is)
      (worked_noted x noted x.now.calls (ReclaimsAll (is_over end.1.1)) (settled_outcome end.1.1)
      (effects_of acting.Row x.known (changed_of x.now.memory g (reclaim_all_plan deferred_word was_left c))) (λ o calls. refl, λ m. refl) (λ on j. refl))

-- So it is wherever a list has led.
module _ {K S : Type 0} (V : Type 0) (same : K → K → Bool) (by_hasher : S → K → ℕ) (hash : ℕ → K → ℕ) (batch_size roots : ℕ) (aborts : ℕ → V) where
  abbrev pub Anything : State K V S → Act K V S → Type 0
  Anything x act = Unit {0}

  none_mapped : (o : Option (Calling K V)) → option_map (λ (c : Calling K V). c.machine) o ≡ None → o ≡ None
  none_mapped None e = refl
  none_mapped (Some c) e = absurd (cc e)

  free : (p : At V same by_hasher hash batch_size roots) (x : State K V S) → Is V same by_hasher hash batch_size roots aborts p x → (act : Act K V S) → MayBe same by_hasher batch_size roots slot_of act p.0
      → IsFreeToBegin x act
  free p x is (BeginsCall i m wanted) may =
      λ k. none_mapped (x.now.calls k i) (is.scene.calls k i ∙ ap (option_map machine_of) (none_is (p.0.calls k i) (may.0.no_call k)))
  free p x is act may = tt

  pub notes_stay : StaysSo V same by_hasher hash batch_size roots aborts Anything (λ p x. CallsAreNoted x)
  notes_stay = record {
    acts = λ p n x y act told own fits none none_then is is_then at may led leads at_then played noted.
        acts_note same by_hasher batch_size roots aborts x y noted act (played_as same by_hasher batch_size roots aborts x y act played) (free p x is act may);
    begins = λ p n x i c none begun same_scene all_free is is_then at noted. noted;
    steps = λ p n x y told g st is is_then at leads comes played noted.
        reclaiming_notes same by_hasher batch_size roots aborts x y noted g (reclaimed_as same by_hasher batch_size roots aborts x y g played);
    chooses = λ p n x choice none none_then same_scene is is_then at noted. noted;
  }

-- What a moment says that a caller's call was told, and whether it asks, while the call keeps its value and may take a reply: after each kind of entry.
use Rattle.std.specs.Prelude.{◌+◌, cond, not, find, map, Option, Some, None, if◌then◌else◌}
use Rattle.std.proofs.Common.{◌≡◌, ◌⊎◌, ℕ, Bool, true, false, List, [], ◌∷◌, refl, ap, sym, subst, ◌∙◌}
use Rattle.run_logged.specs.Given.RawDeclared.machines.machine.Machine.{Machine}
use Rattle.run_schedules.specs.Runs.Same.{is_same}
use Rattle.run_schedules.specs.declared.call.Call.{Call}
use Rattle.run_schedules.specs.declared.call.Reply.{Reply}
use Rattle.run_schedules.specs.declared.effect.Effect.{Effect}
use Rattle.run_schedules.specs.declared.outcome.Outcome.{Outcome}
use Rattle.run_schedules.specs.declared.outcome.Outcome.TheVariants as outcome
use Rattle.run_schedules.specs.Schedules.After.{asks_on, with_outcome, replied, without_call}
use Rattle.run_schedules.specs.Schedules.Beginning.{fresh_call}
use Rattle.run_schedules.specs.Schedules.Effects.{with_effect, with_effects}
use Rattle.run_schedules.specs.Schedules.Entry.{ends_call}
use Rattle.run_schedules.specs.Schedules.Moment.{Asking, Moment, CallState, Told, UnderWay}
use Rattle.run_schedules.specs.Schedules.Views.{call_of}
use Rattle.play_lists.proofs.Given.FollowsCalling.{apart_back, come_same, found_kept, found_passes, is_same_is, is_same_refl, replied_same}
use Rattle.play_lists.proofs.Given.FollowsCalls.{IsOfSame, changed, found}
use Rattle.run_logged.proofs.Given.HandsReplacing.{calls_after}
use Rattle.play_lists.specs.Given.ValuesValues.{KeepsValue}
use Rattle.run_schedules.specs.Deeds.Deeds.{Begins, Entry, Replies, Steps, Stops, acted_on, after, at_work, caller_of, named, worked}
use Rattle.play_lists.proofs.Played.Noted.{OfNoCall}
use Rattle.play_linear.proofs.Linear.TakesReply.{TakesNone}

module _ {K V : Type 0} where
  -- the moment has a call of this caller, this was called, whose caller keeps what it must; and the call takes no reply, or the moment says that it asks
  pub record IsHeard (m : Moment K V) (i : ℕ) (call : Call K V) (machine : Machine K V K) (value : Option V) : Type 0 where
    pub there : UnderWay K V
    pub is : call_of (named i) m ≡ Some there
    pub called : there.call ≡ call
    pub keeps : KeepsValue there.call there.replies machine value
    pub asks : TakesNone machine ⊎ ((question : Option ℕ) × (there.stands ≡ Asking question))

  -- the call was told the same, and stands so
  abbrev pub IsSaid : UnderWay K V → UnderWay K V → Type 0
  IsSaid u w = (w.call ≡ u.call) × (w.replies ≡ u.replies) × (w.stands ≡ u.stands)

  -- that of this caller
  abbrev pub SaidOn : Moment K V → Moment K V → ℕ → Type 0
  SaidOn m v i = (u : UnderWay K V) → call_of (named i) m ≡ Some u → (w : UnderWay K V) × (call_of (named i) v ≡ Some w) × IsSaid u w

  pub heard_on : (m v : Moment K V) (i : ℕ) → SaidOn m v i → (call : Call K V) (machine : Machine K V K) (value : Option V) → IsHeard m i call machine value → IsHeard v i call machine value
  heard_on m v i said call machine value heard =
      let w = said heard.there heard.is in
      record {
        there = w.0;
        is = w.1;
        called = w.2.0 ∙ heard.called;
        keeps = subst (λ (c : Call K V). KeepsValue c w.0.replies machine value) (sym w.2.0) (subst (λ (rs : List (Option ℕ × Reply V)). KeepsValue heard.there.call rs machine value) (sym w.2.1) heard.keeps);
        asks = subst (λ (st : CallState). TakesNone machine ⊎ ((question : Option ℕ) × (st ≡ Asking question))) (sym w.2.2) heard.asks;
      }

  same_said : (m v : Moment K V) (i : ℕ) → v.calls ≡ m.calls → SaidOn m v i
  same_said m v i same u is = (u, ap (λ (cs : List (UnderWay K V)). find (λ c. is_same c.caller (named i)) cs) same ∙ is, (refl, refl, refl))

  then_said : (m v w : Moment K V) (i : ℕ) → SaidOn m v i → SaidOn v w i → SaidOn m w i
  then_said m v w i first second u is =
      let x = first u is in
      let y = second x.0 x.1 in
      (y.0, y.1, (y.2.0 ∙ x.2.0, y.2.1 ∙ x.2.1, y.2.2 ∙ x.2.2))

  -- effects of no call leave calls as they are
  none_calls : (acted : Option ℕ) (effects : List Effect) (m : Moment K V) → (with_effects None acted effects m).calls ≡ m.calls
  none_calls acted [] m = refl
  none_calls acted (f ∷ effects) m = none_calls acted effects (with_effect None acted f m)

  -- an entry of no call
  pub none_said : (e : Entry K V) (m : Moment K V) → OfNoCall e.deed → caller_of e.deed ≡ None → (i : ℕ) → SaidOn m (after e m) i
  none_said e m (leaves_them, begins_none) of_none i =
      same_said m (after e m) i
      (leaves_them e.outcome (worked e m).calls
      ∙ ap (λ (o : Option (List ℕ)). (with_effects o (acted_on e.deed (at_work e m)) e.effects (at_work e m)).calls) of_none
      ∙ none_calls (acted_on e.deed (at_work e m)) e.effects (at_work e m) ∙ begins_none m)

  -- calls of one caller have changed, but not another's
  aside_same : (change : UnderWay K V → UnderWay K V) (is_of : (u : UnderWay K V) → IsOfSame u (change u)) (own : List ℕ) (m : Moment K V) (i : ℕ) → is_same own (named i) ≡ false
      → SaidOn m (record m { calls = map (changed change is_of own) m.calls }) i
  aside_same change is_of own m i other u is =
      let its : u.caller ≡ named i = is_same_is u.caller (named i) (found_passes (λ c. is_same c.caller (named i)) (λ c. true) m.calls u is) in
      let kept : is_same u.caller own ≡ false = ap (λ (l : List ℕ). is_same l own) its ∙ apart_back own (named i) other in
      (u, found change is_of own (named i) m.calls u is ∙ ap (λ (q : Bool). Some (if q then change u else u)) kept, (refl, refl, refl))

  -- one call is gone, but not another's
  aside_gone : (own : List ℕ) (m : Moment K V) (i : ℕ) → is_same own (named i) ≡ false → SaidOn m (record m { calls = without_call own m.calls }) i
  aside_gone own m i other u is =
      let its : u.caller ≡ named i = is_same_is u.caller (named i) (found_passes (λ c. is_same c.caller (named i)) (λ c. true) m.calls u is) in
      let kept : not (is_same u.caller own) ≡ true = ap (λ (l : List ℕ). not (is_same l own)) its ∙ ap not (apart_back own (named i) other) in
      (u, found_kept (λ c. is_same c.caller (named i)) (λ c. not (is_same c.caller own)) m.calls u is kept, (refl, refl, refl))

  -- A step of a call, on its map
  module _ (own on : ℕ) (o : Outcome V) (effects : List Effect) (refused : Bool) (m : Moment K V) (acted : acted_on {K = K} {V = V} (Steps own) m ≡ Some on) where
    abbrev step : Entry K V
    step = record { deed = Steps own; outcome = o; effects = effects; refused = refused }

    abbrev w : Moment K V
    w = worked step m

    worked_said : (i : ℕ) → SaidOn m w i
    worked_said i u is =
        let d = calls_after (named own) on (named i) effects m u is in
        let on_so = d.2.0 in
        (d.0, subst (λ (a : Option ℕ). call_of (named i) (with_effects (Some (named own)) a effects m) ≡ Some d.0) (sym acted) d.1, (on_so.call, on_so.replies, on_so.stands))

    -- others are as they were,
    pub steps_aside : (i : ℕ) → is_same (named own) (named i) ≡ false → SaidOn m (after step m) i
    steps_aside i other = then_said m w (after step m) i (worked_said i) (by (ends_call o))
      where
        by : (b : Bool) → SaidOn w (record w { calls = if b then without_call (named own) w.calls else map (λ c. if is_same c.caller (named own) then with_outcome o (record c { steps = c.steps + 1 }) else c) w.calls }) i
        by true = aside_gone (named own) w i other
        by false = aside_same (λ c. with_outcome o (record c { steps = c.steps + 1 })) (λ c. come_same o (record c { steps = c.steps + 1 })) (named own) w i other

    -- and its own has come to that
    pub steps_itself : ends_call o ≡ false → (u : UnderWay K V) → call_of (named own) m ≡ Some u
        → (d : UnderWay K V) × IsSaid u d × (call_of (named own) (after step m) ≡ Some (with_outcome o (record d { steps = d.steps + 1 })))
    steps_itself goes u is =
        let x = worked_said own u is in
        let its : x.0.caller ≡ named own = is_same_is x.0.caller (named own) (found_passes (λ c. is_same c.caller (named own)) (λ c. true) w.calls x.0 x.1) in
        let here : is_same x.0.caller (named own) ≡ true = ap (λ (l : List ℕ). is_same l (named own)) its ∙ is_same_refl (named own) in
        let then_is : call_of (named own) (record w { calls = map (λ c. if is_same c.caller (named own) then with_outcome o (record c { steps = c.steps + 1 }) else c) w.calls })
        ≡ Some (with_outcome o (record x.0 { steps = x.0.steps + 1 })) =
        found (λ c. with_outcome o (record c { steps = c.steps + 1 })) (λ c. come_same o (record c { steps = c.steps + 1 })) (named own) (named own) w.calls x.0 x.1
        ∙ ap (λ (q : Bool). Some (if q then with_outcome o (record x.0 { steps = x.0.steps + 1 }) else x.0)) here in (
          x.0,
          x.2,
          subst (λ (b : Bool). call_of (named own)
              (record w { calls = if b then without_call (named own) w.calls else map (λ c. if is_same c.caller (named own) then with_outcome o (record c { steps = c.steps + 1 }) else c) w.calls })
              ≡ Some (with_outcome o (record x.0 { steps = x.0.steps + 1 }))) (sym goes) then_is,
        )

  -- what comes to something was called so, and was told the same
  pub come_said : (o : Outcome V) (d : UnderWay K V) → ((with_outcome o d).call ≡ d.call) × ((with_outcome o d).replies ≡ d.replies)
  come_said outcome.Goes d = (refl, refl)
  come_said outcome.Waits d = (refl, refl)
  come_said (outcome.Asks question) d = by d.stands
    where
      by : (st : CallState) → ((asks_on question d st).call ≡ d.call) × ((asks_on question d st).replies ≡ d.replies)
      by (Asking q) = (refl, refl)
      by _ = (refl, refl)
  come_said outcome.Ready d = (refl, refl)
  come_said (outcome.Shows n) d = (refl, refl)
  come_said _ d = (refl, refl)

  -- and if it asks, it stands so
  pub come_asks : (question : Option ℕ) (d : UnderWay K V) → (q : Option ℕ) × ((with_outcome (outcome.Asks question) d).stands ≡ Asking q)
  come_asks question d = by d.stands refl
    where
      by : (st : CallState) → d.stands ≡ st → (q : Option ℕ) × ((asks_on question d st).stands ≡ Asking q)
      by (Asking q) is = (q, is)
      by _ is = (question, refl)

  -- One that is told something, on others and on itself
  pub replies_aside : (own : ℕ) (reply : Reply V) (m : Moment K V) (i : ℕ) → is_same (named own) (named i) ≡ false
      → SaidOn m (after (record { deed = Replies own reply; outcome = outcome.Goes; effects = []; refused = false }) m) i
  replies_aside own reply m i other = aside_same (λ c. replied reply c c.stands) (λ c. replied_same reply c c.stands) (named own) m i other

  pub replies_itself : (own : ℕ) (reply : Reply V) (m : Moment K V) (u : UnderWay K V) → call_of (named own) m ≡ Some u → (question : Option ℕ) → u.stands ≡ Asking question
      → call_of (named own) (after (record { deed = Replies own reply; outcome = outcome.Goes; effects = []; refused = false }) m) ≡ Some (record u { stands = Told; replies = (question, reply) ∷ u.replies })
  replies_itself own reply m u is question asks =
      let its : u.caller ≡ named own = is_same_is u.caller (named own) (found_passes (λ c. is_same c.caller (named own)) (λ c. true) m.calls u is) in
      let here : is_same u.caller (named own) ≡ true = ap (λ (l : List ℕ). is_same l (named own)) its ∙ is_same_refl (named own) in
      found (λ c. replied reply c c.stands) (λ c. replied_same reply c c.stands) (named own) (named own) m.calls u is ∙ ap (λ (q : Bool). Some (if q then replied reply u u.stands else u)) here
      ∙ ap (λ (st : CallState). Some (replied reply u st)) asks

  -- One that is given up
  pub stops_aside : (own : ℕ) (m : Moment K V) (i : ℕ) → is_same (named own) (named i) ≡ false
      → SaidOn m (after (record { deed = Stops own; outcome = outcome.Done; effects = []; refused = false }) m) i
  stops_aside own m i other = aside_gone (named own) m i other

  -- One that begins
  pub begins_aside : (own guard to : ℕ) (its : Call K V) (m : Moment K V) (i : ℕ) → is_same (named own) (named i) ≡ false
      → SaidOn m (after (record { deed = Begins own guard to its; outcome = outcome.Goes; effects = []; refused = false }) m) i
  begins_aside own guard to its m i other u is =
      (u, ap (λ z. cond z (Some (fresh_call (named own) (named guard) its to m.events)) (find (λ c. is_same c.caller (named i)) m.calls)) other ∙ is, (refl, refl, refl))

  pub begins_itself : (own guard to : ℕ) (its : Call K V) (m : Moment K V)
      → call_of (named own) (after (record { deed = Begins own guard to its; outcome = outcome.Goes; effects = []; refused = false }) m) ≡ Some (fresh_call (named own) (named guard) its to m.events)
  begins_itself own guard to its m =
      ap (λ z. cond z (Some (fresh_call (named own) (named guard) its to m.events)) (find (λ c. is_same c.caller (named own)) m.calls)) (is_same_refl (named own))

-- What lookups under way have read, where calls begin, step and come to an outcome meanwhile.
use Rattle.std.specs.Prelude.{◌≡◌, ℕ, ◌+◌, ◌≤◌, Bool, true, false, cond, not, List, [], ◌∷◌, find, map, Option, Some, None, ◌⊎◌, if◌then◌else◌}
use Rattle.std.proofs.Common.{refl, ap, sym, subst, ◌∙◌, arith, inl, inr}
use Rattle.run_places.specs.Given.RunsSame.{is_same}
use Rattle.run_places.specs.Given.RunsDeclared.call.Call.{Call}
use Rattle.run_places.specs.Given.RunsDeclared.call.Call.TheVariants as call
use Rattle.run_places.specs.Given.RunsDeclared.effect.Effect.{Effect}
use Rattle.run_places.specs.Given.RunsDeclared.effect.Effect.TheVariants as effect
use Rattle.run_places.specs.Given.RunsDeclared.outcome.Outcome.{Outcome}
use Rattle.run_places.specs.Given.RunsDeclared.outcome.Outcome.TheVariants as outcome
use Rattle.run_places.specs.Given.TablesChunks.{is_incremental}
use Rattle.run_places.specs.Given.RuleChart.{Chart}
use Rattle.run_places.specs.Given.SchedulesAfter.{asks_on, with_outcome, without_call, replied}
use Rattle.run_places.specs.Given.SchedulesBeginning.{fresh_call, with_call}
use Rattle.run_places.specs.Given.SchedulesEffects.{due_for, call_by, with_effect, with_effects}
use Rattle.run_places.specs.Given.SchedulesEntry.{ends_call}
use Rattle.run_places.specs.Given.SchedulesMoment.{CallState, Going, Asking, Told, IsReady, UnderWay as CallThere, Moment}
use Rattle.run_places.specs.Given.SchedulesViews.{call_of}
use Rattle.run_places.specs.Given.CallersTogether.{UnderWay}
use Rattle.run_places.specs.Given.EffectsEffects.{effects_of}
use Rattle.run_places.specs.Given.EffectsDeclared.acting.Acting.TheVariants as acts
use Rattle.run_places.specs.Given.RunsDeclared.call.Reply.{Reply}
use Rattle.run_places.specs.Given.FinishesMaps.{Standing}
use Rattle.run_places.specs.Given.FollowsCalling.{NoneNamed, come_to, told}
use Rattle.run_places.proofs.Given.FollowsCalling.{is_same_refl, apart_back, come, come_of_same, found_kept, replied_same}
use Rattle.run_places.proofs.Given.FollowsCalls.{changed_same, changed, of_same, found}
use Rattle.run_places.proofs.Hands.Asking.{which}
use Rattle.run_places.proofs.Hands.Calling.{caller_is}
use Rattle.run_places.proofs.Changes.Begun.{effects_begun, comes_begun, if_begun, replied_begun}
use Rattle.run_places.specs.Given.OthersRows.{scene_then}
use Rattle.run_histories.specs.Promises.Brief.{ReadsSince}
use Rattle.run_histories.specs.Promises.Meanwhile.{CallsComeToReadings, CallsBeginReadings, OthersPreserveReadings, OtherWorkPreservesReadings, RowsPreserveReadings, CallsTakeReadings}
use Rattle.run_histories.specs.Promises.Reading.{looks, HasLooked, HasStood}
use Rattle.run_histories.proofs.Promises.Brief.Maps.{same_stood, maps_stood}
use Rattle.run_histories.proofs.Promises.Brief.Stays.{same_tables, readings_stay}
use Rattle.run_places.specs.Given.ScenesReplying.{scene_with}
use Rattle.run_places.specs.Given.ScenesScene.{Scene}
use Rattle.run_places.specs.Given.ScenesStepping.{scene_after}
use Rattle.run_places.proofs.Given.General.{same_some as one_of}

module _ {K V : Type 0} where
  asks_steps : (question : Option ℕ) (c : CallThere K V) (stands : CallState) → (asks_on question c stands).steps ≡ c.steps
  asks_steps question c Going = refl
  asks_steps question c (Asking q) = refl
  asks_steps question c Told = refl
  asks_steps question c IsReady = refl

  -- an outcome leaves the number of its steps
  comes_steps : (o : Outcome V) (c : CallThere K V) → (with_outcome o c).steps ≡ c.steps
  comes_steps outcome.Done c = refl
  comes_steps (outcome.Slot n) c = refl
  comes_steps outcome.Goes c = refl
  comes_steps (outcome.Asks question) c = asks_steps question c c.stands
  comes_steps outcome.Waits c = refl
  comes_steps outcome.Ready c = refl
  comes_steps (outcome.Shows n) c = refl
  comes_steps (outcome.Answered a) c = refl
  comes_steps (outcome.Shape tables) c = refl
  comes_steps (outcome.Refused fault) c = refl

  due_steps : (its : Call K V) (c : CallThere K V) (old : Option ℕ) (new : ℕ) → (due_for its c old new).steps ≡ c.steps
  due_steps (call.On one) c old new = refl
  due_steps (call.Reserve n) c old new = refl
  due_steps call.Clear c old new = refl
  due_steps call.Retain c old new = refl
  due_steps call.Len c old new = refl
  due_steps call.Walk c old new = refl

  -- and so does an effect
  by_steps : (m : Moment K V) (f : Effect) (c : CallThere K V) → (call_by m f c).steps ≡ c.steps
  by_steps m (effect.Asked growth) c = refl
  by_steps m effect.PairMade c = refl
  by_steps m effect.PairGivenUp c = refl
  by_steps m (effect.TableMade t) c = refl
  by_steps m (effect.TableGivenUp t) c = refl
  by_steps m (effect.Linked t shape) c = refl
  by_steps m (effect.Promoted t) c = refl
  by_steps m (effect.Copied n s) c = refl
  by_steps m (effect.Stored n s) c = due_steps c.call c c.replacing n
  by_steps m (effect.Replaced n) c = refl
  by_steps m (effect.Removed n) c = due_steps c.call c (Some n) _
  by_steps m (effect.Counted s) c = refl
  by_steps m (effect.Deferred n t) c = refl
  by_steps m (effect.Retired x) c = refl
  by_steps m (effect.Reclaimed x) c = refl
  by_steps m (effect.Ended n) c = refl
  by_steps m (effect.Taken t) c = refl

  if_steps : (change : CallThere K V → CallThere K V) → ((c : CallThere K V) → (change c).steps ≡ c.steps) → (c : CallThere K V) (q : Bool) → (if q then change c else c).steps ≡ c.steps
  if_steps change kept c true = kept c
  if_steps change kept c false = refl

  -- each call is found after effects, with its steps
  pub effects_steps : (own : List ℕ) (acted : ℕ) (name : List ℕ) (effects : List Effect) (m : Moment K V) (c : CallThere K V) → call_of name m ≡ Some c
      → (d : CallThere K V) × (call_of name (with_effects (Some own) (Some acted) effects m) ≡ Some d) × (d.steps ≡ c.steps) × (d.call ≡ c.call)
  effects_steps own acted name [] m c is = (c, is, refl, refl)
  effects_steps own acted name (f ∷ effects) m c is =
      let d = changed (call_by m f) (changed_same m f) own c in
      let rest = effects_steps own acted name effects (with_effect (Some own) (Some acted) f m) d (found (call_by m f) (changed_same m f) own name m.calls c is) in
      (rest.0, rest.1, rest.2 ∙ if_steps (call_by m f) (by_steps m f) c (is_same c.caller own), rest.3 ∙ (of_same (call_by m f) (changed_same m f) own c).2)

-- a map that stands as it does
pub stands_so : {K : Type 0} (maps : ℕ → Option (Standing K)) (n : ℕ) (st : Standing K) → maps n ≡ Some st → HasStood maps n st
stands_so maps n st is = (st, is, refl, same_tables st.chart)

module _ {K V : Type 0} (name : ℕ → List ℕ) (m : Moment K V) (s : Scene K V) (own : List ℕ) (o : Outcome V) (steps : ℕ) (ended : ends_call o ≡ true → NoneNamed name own s) where
  -- a call that is under way has come to the outcome, or is another one
  came : (n j : ℕ) (x : UnderWay K V K) → s.calls n j ≡ Some x → (c : CallThere K V) → call_of (name j) m ≡ Some c → (d : CallThere K V) → call_of (name j) (come_to own o steps m) ≡ Some d
      → d ≡ (if is_same (name j) own then come o steps c else c)
  came n j x is c c_is d d_is = by (ends_call o) refl
    where
      found_then : (q : Bool) → ends_call o ≡ q → find (λ y. is_same y.caller (name j)) (if q then without_call own m.calls else map (λ y. if is_same y.caller own then come o steps y else y) m.calls) ≡ Some d
      found_then q e = sym (ap (λ z. find (λ y. is_same y.caller (name j)) (if z then without_call own m.calls else map (λ y. if is_same y.caller own then come o steps y else y) m.calls)) e) ∙ d_is

      named : c.caller ≡ name j
      named = caller_is (name j) m c c_is

      by : (q : Bool) → ends_call o ≡ q → d ≡ (if is_same (name j) own then come o steps c else c)
      by true e =
          let other : is_same (name j) own ≡ false = apart_back own (name j) (ended e n j x is) in
          let kept : not (is_same c.caller own) ≡ true = ap (λ (l : List ℕ). not (is_same l own)) named ∙ ap not other in
          one_of d c (sym (found_then true e) ∙ found_kept (λ y. is_same y.caller (name j)) (λ y. not (is_same y.caller own)) m.calls c c_is kept)
          ∙ sym (ap (λ (q : Bool). if q then come o steps c else c) other)
      by false e =
          one_of d (if is_same c.caller own then come o steps c else c) (sym (found_then false e) ∙ found (come o steps) (come_of_same o steps) own (name j) m.calls c c_is)
          ∙ ap (λ (l : List ℕ). if is_same l own then come o steps c else c) named

  -- it is the same one, with its steps
  came_same : (c : CallThere K V) (q : Bool) → (if q then come o steps c else c).call ≡ c.call
  came_same c true = (come_of_same o steps c).2
  came_same c false = refl

  came_as : (c : CallThere K V) (made : ℕ) (q : Bool) → made ≡ (if q then steps else 0)
      → (((if q then come o steps c else c).begun) ≡ c.begun) × (((if q then come o steps c else c).steps) + 0 ≡ c.steps + made)
  came_as c made true e = (
    comes_begun o (record c { steps = c.steps + steps }),
    (let it = comes_steps o (record c { steps = c.steps + steps }) in omega (arith, it, e)),
  )
  came_as c made false e = (refl, omega (arith, e))

pub calls_come_to_readings : (K V : Type 0) (same : K → K → Bool) → CallsComeToReadings K V same
calls_come_to_readings K V same name log made m known s whole reading own o steps ended counts =
    readings_stay K V name log made (λ i. 0) m (come_to own o steps m) s s (record { calls = calls; maps = λ n j x here st is. stands_so s.maps n st is }) reading
  where
    calls : (n j : ℕ) (x : UnderWay K V K) → s.calls n j ≡ Some x → (d : CallThere K V) → call_of (name j) (come_to own o steps m) ≡ Some d → looks d.call ≡ true
        → (s.calls n j ≡ Some x) × (c : CallThere K V) × (call_of (name j) m ≡ Some c) × (looks c.call ≡ true) × (d.begun ≡ c.begun) × (d.steps + 0 ≡ c.steps + made j)
    calls n j x is d d_is d_looks =
        let was = whole.all.shown.calls n j x is in
        let d_as = came name m s own o steps ended n j x is was.0 was.1 d d_is in
        let looks_so : looks was.0.call ≡ true = ap looks (sym (ap (λ (y : CallThere K V). y.call) d_as ∙ came_same name m s own o steps ended was.0 (is_same (name j) own))) ∙ d_looks in
        let same_so = came_as name m s own o steps ended was.0 (made j) (is_same (name j) own) (counts n j x is was.0 was.1 looks_so) in (
          is,
          was.0,
          was.1,
          looks_so,
          ap (λ (y : CallThere K V). y.begun) d_as ∙ same_so.0,
          ap (λ (y : CallThere K V). y.steps + 0) d_as ∙ same_so.1,
        )

pub calls_begin_readings : (K V : Type 0) (same : K → K → Bool) → CallsBeginReadings K V same
calls_begin_readings K V same name log m known s whole reading map i u its guard apart begins events = record {
  past = reading.past;
  begun = λ n j x is d d_is d_looks. begun_then n j x d d_is d_looks (which s.calls map i (Some u) n j x is);
  reads = λ n j x is d d_is d_looks standing there. reads_then n j x d d_is d_looks standing there (which s.calls map i (Some u) n j x is);
}
  where
    fresh : CallThere K V
    fresh = fresh_call (name i) guard its map m.events

    found_now : (j : ℕ) (q : Bool) → is_same (name i) (name j) ≡ q → (d : CallThere K V) → call_of (name j) (with_call (name i) guard its (Some map) m) ≡ Some d
        → cond q (Some (fresh_call (name i) guard its map m.events)) (call_of (name j) m) ≡ Some d
    found_now j q e d d_is = sym (ap (λ z. cond z (Some (fresh_call (name i) guard its map m.events)) (find (λ c. is_same c.caller (name j)) m.calls)) e) ∙ d_is

    -- the call that begins
    is_fresh : (j : ℕ) → j ≡ i → (d : CallThere K V) → call_of (name j) (with_call (name i) guard its (Some map) m) ≡ Some d → d ≡ fresh_call (name i) guard its map m.events
    is_fresh j e d d_is =
        one_of d (fresh_call (name i) guard its map m.events) (sym (found_now j true (ap (λ (k : ℕ). is_same (name i) (name k)) e ∙ is_same_refl (name i)) d d_is))

    begun_then : (n j : ℕ) (x : UnderWay K V K) (d : CallThere K V) → call_of (name j) (with_call (name i) guard its (Some map) m) ≡ Some d → looks d.call ≡ true
        → ((n ≡ map) × (j ≡ i) × (◌≡◌ {A = Option (UnderWay K V K)} (Some u) (Some x))) ⊎ ((n ≡ map → j ≡ i → ⊥) × (s.calls n j ≡ Some x))
        → d.begun ≤ log.entries
    begun_then n j x d d_is d_looks (inl now) = let one = ap (λ (y : CallThere K V). y.begun) (is_fresh j now.1 d d_is) in omega (arith, one, events)
    begun_then n j x d d_is d_looks (inr was) = reading.begun n j x was.1 d (found_now j false (apart n j x was.1) d d_is) d_looks

    looks_first : (incremental : Bool) (n : ℕ) (c : Chart K) (moments : List (Moment K V)) (steps : ℕ) → steps ≡ 0 → looks its ≡ true → HasLooked incremental n c moments steps u
    looks_first incremental n c moments steps none looks_for =
        let begun = begins looks_for in
        subst (HasLooked incremental n c moments steps) (sym begun.2) (begun.1, begun.3, subst (ReadsSince incremental n c moments steps) (sym begun.4) none)

    reads_then : (n j : ℕ) (x : UnderWay K V K) (d : CallThere K V) → call_of (name j) (with_call (name i) guard its (Some map) m) ≡ Some d → looks d.call ≡ true
        → (standing : Standing K) → s.maps n ≡ Some standing
        → ((n ≡ map) × (j ≡ i) × (◌≡◌ {A = Option (UnderWay K V K)} (Some u) (Some x))) ⊎ ((n ≡ map → j ≡ i → ⊥) × (s.calls n j ≡ Some x))
        → HasLooked (is_incremental standing.setting.mode) n standing.chart (log.since d.begun) (d.steps + 0) x
    reads_then n j x d d_is d_looks standing there (inl now) =
        let one = is_fresh j now.1 d d_is in
        subst (HasLooked (is_incremental standing.setting.mode) n standing.chart (log.since d.begun) (d.steps + 0)) (one_of u x now.2)
        (looks_first (is_incremental standing.setting.mode) n standing.chart (log.since d.begun) (d.steps + 0)
        (let none = ap (λ (y : CallThere K V). y.steps) one in omega (arith, none)) (ap (λ (y : CallThere K V). looks y.call) (sym one) ∙ d_looks))
    reads_then n j x d d_is d_looks standing there (inr was) = reading.reads n j x was.1 d (found_now j false (apart n j x was.1) d d_is) d_looks standing there

module _ (K V : Type 0) (same : K → K → Bool) (hash : ℕ → K → ℕ) where
  pub others_keep_readings : OthersPreserveReadings K V same hash
  others_keep_readings name log made m known s old new at_old whole reading map i u here said leads c c_is no_look =
      readings_stay K V name log made made m (with_effects (Some (name i)) (Some map) (effects_of (acts.Call i map) known new.changed) m) s
      (scene_after same s old new map i (leads map u here).0 u (leads map u here).1 said (leads map u here).4)
      (record { calls = calls; maps = λ n j x there after is. maps_stood same hash s old new at_old map i u here said leads n after is }) reading
    where
      effects : List Effect
      effects = effects_of (acts.Call i map) known new.changed

      calls : (n j : ℕ) (x : UnderWay K V K) → (scene_after same s old new map i (leads map u here).0 u (leads map u here).1 said (leads map u here).4).calls n j ≡ Some x
          → (d : CallThere K V) → call_of (name j) (with_effects (Some (name i)) (Some map) (effects_of (acts.Call i map) known new.changed) m) ≡ Some d → looks d.call ≡ true
          → (s.calls n j ≡ Some x) × (b : CallThere K V) × (call_of (name j) m ≡ Some b) × (looks b.call ≡ true) × (d.begun ≡ b.begun) × (d.steps + made j ≡ b.steps + made j)
      calls n j x is d d_is d_looks = by (which s.calls map i (leads map u here).4.next n j x is)
        where
          as_it_was : (b : CallThere K V) → call_of (name j) m ≡ Some b → (looks b.call ≡ true) × (d.begun ≡ b.begun) × (d.steps ≡ b.steps)
          as_it_was b b_is =
              let kept = effects_steps (name i) map (name j) (effects_of (acts.Call i map) known new.changed) m b b_is in
              let begun = effects_begun (name i) map (name j) (effects_of (acts.Call i map) known new.changed) m b b_is in
              let one : d ≡ kept.0 = one_of d kept.0 (sym d_is ∙ kept.1) in
              let two : d ≡ begun.0 = one_of d begun.0 (sym d_is ∙ begun.1) in (
                ap looks (sym (ap (λ (y : CallThere K V). y.call) one ∙ kept.3)) ∙ d_looks,
                ap (λ (y : CallThere K V). y.begun) two ∙ begun.2,
                ap (λ (y : CallThere K V). y.steps) one ∙ kept.2,
              )

          by : ((n ≡ map) × (j ≡ i) × ((leads map u here).4.next ≡ Some x)) ⊎ ((n ≡ map → j ≡ i → ⊥) × (s.calls n j ≡ Some x))
              → (s.calls n j ≡ Some x) × (b : CallThere K V) × (call_of (name j) m ≡ Some b) × (looks b.call ≡ true) × (d.begun ≡ b.begun) × (d.steps + made j ≡ b.steps + made j)
          by (inl its) =
              absurd (let looks_so = (as_it_was c (ap (λ (k : ℕ). call_of (name k) m) its.1 ∙ c_is)).0 in cc (looks_so, no_look))
          by (inr other) =
              let was = whole.all.shown.calls n j x other.1 in
              let kept = as_it_was was.0 was.1 in (other.1, was.0, was.1, kept.0, kept.1, ap (λ (k : ℕ). k + made j) kept.2)

-- what no caller's call does leaves the calls
calls_left : {K V : Type 0} (name : List ℕ) (of : Option ℕ) (effects : List Effect) (m : Moment K V) → call_of name (with_effects None of effects m) ≡ call_of name m
calls_left name of [] m = refl
calls_left name of (f ∷ effects) m = calls_left name of effects (with_effect None of f m)

pub other_work_keeps_readings : (K V : Type 0) → OtherWorkPreservesReadings K V
other_work_keeps_readings K V name log made m s s2 of effects kept stood reading =
    readings_stay K V name log made made m (with_effects None of effects m) s s2 (record { calls = calls; maps = λ n j x is st there. stood n j x is st there }) reading
  where
    calls : (n j : ℕ) (x : UnderWay K V K) → s2.calls n j ≡ Some x → (d : CallThere K V) → call_of (name j) (with_effects None of effects m) ≡ Some d → looks d.call ≡ true
        → (s.calls n j ≡ Some x) × (c : CallThere K V) × (call_of (name j) m ≡ Some c) × (looks c.call ≡ true) × (d.begun ≡ c.begun) × (d.steps + made j ≡ c.steps + made j)
    calls n j x is d d_is d_looks = (kept n j x is, d, sym (calls_left (name j) of effects m) ∙ d_is, d_looks, refl, refl)

pub rows_keep_readings : (K V : Type 0) (same : K → K → Bool) (hash : ℕ → K → ℕ) → RowsPreserveReadings K V same hash
rows_keep_readings K V same hash name log made m s old new event happened effects reading =
    other_work_keeps_readings K V name log made m s (scene_then same hash event s old new happened) None effects (λ n j x is. is)
    (λ n j x is st there. same_stood s.maps n (happened.2 n) (happened.3 n) st there) reading

-- a reply leaves what began the call, and its steps
reply_steps : {K V : Type 0} (reply : Reply V) (c : CallThere K V) (stands : CallState) → (replied reply c stands).steps ≡ c.steps
reply_steps reply c Going = refl
reply_steps reply c (Asking q) = refl
reply_steps reply c Told = refl
reply_steps reply c IsReady = refl

pub calls_take_readings : (K V : Type 0) → CallsTakeReadings K V
calls_take_readings K V name log made m s reading shown map i c c_is no_look is_told next =
    readings_stay K V name log made made m (told (name i) is_told m) s (scene_with map i next s) (record { calls = calls; maps = λ n j x here st is. stands_so s.maps n st is }) reading
  where
    tells : CallThere K V → CallThere K V
    tells y = replied is_told y y.stands

    as_it_was : (j : ℕ) (d b : CallThere K V) → call_of (name j) m ≡ Some b → call_of (name j) (told (name i) is_told m) ≡ Some d → (d.call ≡ b.call) × (d.begun ≡ b.begun) × (d.steps ≡ b.steps)
    as_it_was j d b b_is d_is =
        let one : d ≡ (if is_same b.caller (name i) then tells b else b) =
        one_of d (if is_same b.caller (name i) then tells b else b) (sym d_is ∙ found tells (λ y. replied_same is_told y y.stands) (name i) (name j) m.calls b b_is) in (
          ap (λ (y : CallThere K V). y.call) one ∙ (of_same tells (λ y. replied_same is_told y y.stands) (name i) b).2,
          ap (λ (y : CallThere K V). y.begun) one ∙ if_begun tells (λ y. replied_begun is_told y y.stands) b (is_same b.caller (name i)),
          ap (λ (y : CallThere K V). y.steps) one ∙ if_steps tells (λ y. reply_steps is_told y y.stands) b (is_same b.caller (name i)),
        )

    calls : (n j : ℕ) (x : UnderWay K V K) → (scene_with map i next s).calls n j ≡ Some x → (d : CallThere K V) → call_of (name j) (told (name i) is_told m) ≡ Some d → looks d.call ≡ true
        → (s.calls n j ≡ Some x) × (b : CallThere K V) × (call_of (name j) m ≡ Some b) × (looks b.call ≡ true) × (d.begun ≡ b.begun) × (d.steps + made j ≡ b.steps + made j)
    calls n j x is d d_is d_looks = by (which s.calls map i (Some next) n j x is)
      where
        by : ((n ≡ map) × (j ≡ i) × (◌≡◌ {A = Option (UnderWay K V K)} (Some next) (Some x))) ⊎ ((n ≡ map → j ≡ i → ⊥) × (s.calls n j ≡ Some x))
            → (s.calls n j ≡ Some x) × (b : CallThere K V) × (call_of (name j) m ≡ Some b) × (looks b.call ≡ true) × (d.begun ≡ b.begun) × (d.steps + made j ≡ b.steps + made j)
        by (inl its) =
            absurd (let kept = as_it_was j d c (ap (λ (k : ℕ). call_of (name k) m) its.1 ∙ c_is) d_is in
            let looks_so : looks c.call ≡ true = ap looks (sym kept.0) ∙ d_looks in cc (looks_so, no_look))
        by (inr other) =
            let was = shown n j x other.1 in
            let kept = as_it_was j d was.0 was.1 d_is in
            (other.1, was.0, was.1, ap looks (sym kept.0) ∙ d_looks, kept.1, ap (λ (k : ℕ). k + made j) kept.2)

-- The values that callers keep, from one moment to another: at which each call under way is one as before, with the replies that it had.
use Rattle.std.specs.Prelude.{◌≡◌, ◌≤◌, ◌+◌, ℕ, zero, suc, Bool, true, false, not, ◌||◌, cond, if◌then◌else◌, List, [], ◌∷◌, filter, find, length, map, slice_get, slice_set, Option, Some, None}
use Rattle.std.specs.List.{AllByRecursion, list_any, remove}
use Rattle.std.proofs.Common.{refl, ap, sym, subst, ◌∙◌, arith}
use Rattle.run_schedules.specs.Given.SeizeWordsDeclared.fault.Fault.TheVariants.{Busy}
use Rattle.run_schedules.specs.Runs.Same.{is_same}
use Rattle.run_schedules.specs.declared.call.Call.{Call}
use Rattle.run_schedules.specs.declared.call.Call.TheVariants.{On}
use Rattle.run_schedules.specs.declared.call.Reply.{Reply}
use Rattle.run_schedules.specs.declared.effect.Effect.{Effect}
use Rattle.run_schedules.specs.declared.effect.Effect.TheVariants.{Stored, Removed}
use Rattle.run_schedules.specs.declared.event.Event.{Event}
use Rattle.run_schedules.specs.declared.event.Event.TheVariants.{Begin, MakeMap, OneCall, Replied, Stop}
use Rattle.run_schedules.specs.declared.outcome.Outcome.{Outcome}
use Rattle.run_schedules.specs.declared.outcome.Outcome.TheVariants.{Done, Goes, Waits, Asks, Ready, Shows, Refused}
use Rattle.run_schedules.specs.Schedules.After.{after, asks_on, calls_on, with_outcome, stepped, without_call}
use Rattle.run_schedules.specs.Schedules.Beginning.{at_work, begun}
use Rattle.run_schedules.specs.Schedules.Effects.{call_by, due_for, with_effect, with_effects, worked}
use Rattle.run_schedules.specs.Schedules.Entry.{Entry, acted_on, caller_of, ends_call}
use Rattle.run_schedules.specs.Schedules.Moment.{Asking, Moment, CallState, UnderWay as CallThere}
use Rattle.play_stepping.specs.Given.CallersTogether.{UnderWay}
use Rattle.play_lists.specs.Given.FinishesMachines.{machine_of}
use Rattle.play_lists.proofs.Given.FollowsCalling.{apart_back, is_same_is}
use Rattle.play_stepping.specs.Given.NamedSeen.{is_named}
use Rattle.play_stepping.specs.Given.ExecutorDeclared.caller.NamedCaller.{NamedCaller}
use Rattle.play_stepping.proofs.Given.Lists.{all_but}
use Rattle.play_stepping.proofs.Given.RowsLists.{both_some, found_alike, unseen}
use Rattle.play_stepping.proofs.Given.SchedulerRights.{quiet}
use Rattle.play_lists.specs.Given.ValuesValues.{KeepsValue}
use Rattle.play_events.specs.Events.Asked.{is_of_calls}
use Rattle.play_events.specs.Events.OfCalls.{HaveValues, IsWorth}
use Rattle.play_lists.specs.Given.ScenesScene.{Scene}

module _ {X : Type 0} where
  -- of those that are left it is so,
  pub all_left : (P : X → Type 0) (xs : List X) (place : ℕ) → AllByRecursion P xs → AllByRecursion P (remove xs place)
  all_left P [] zero all = tt
  all_left P [] (suc place) all = tt
  all_left P (x ∷ xs) zero all = all.1
  all_left P (x ∷ xs) (suc place) all = (all.0, all_left P xs place all.1)

  -- and where one is put in the place of another
  pub all_set : (P : X → Type 0) (xs : List X) (place : ℕ) (new : X) → P new → AllByRecursion P xs → AllByRecursion P (slice_set xs place new)
  all_set P [] zero new its all = tt
  all_set P [] (suc place) new its all = tt
  all_set P (x ∷ xs) zero new its all = (its, all.1)
  all_set P (x ∷ xs) (suc place) new its all = (all.0, all_set P xs place new its all.1)

  module _ (p : X → Bool) where
    none_passes : (xs : List X) → length (filter p xs) ≤ 0 → list_any p xs ≡ false
    none_passes [] few = refl
    none_passes (x ∷ xs) few = one (p x) few (none_passes xs)
      where
        one : (b : Bool) → length (cond b (x ∷ filter p xs) (filter p xs)) ≤ 0 → (length (filter p xs) ≤ 0 → list_any p xs ≡ false) → (b || list_any p xs) ≡ false
        one true l ih = absurd (omega (arith, l))
        one false l ih = ih l

    one_passes : (xs : List X) (k : ℕ) (x : X) → slice_get xs k ≡ Some x → p x ≡ true → list_any p xs ≡ true
    one_passes [] k x at passes = absurd (cc at)
    one_passes (y ∷ xs) zero x at passes = let e : y ≡ x = cc at in ap (λ (b : Bool). b || list_any p xs) (ap p e ∙ passes)
    one_passes (y ∷ xs) (suc k) x at passes = one (p y) (one_passes xs k x at passes)
      where
        one : (b : Bool) → list_any p xs ≡ true → (b || list_any p xs) ≡ true
        one true ih = refl
        one false ih = ih

    -- what is so of the one that passes, and of all that do not, is so of all
    pub all_once : (P : X → Type 0) (xs : List X) (k : ℕ) (x : X) → slice_get xs k ≡ Some x → p x ≡ true → P x → length (filter p xs) ≤ 1 → AllByRecursion (λ y. p y ≡ false → P y) xs → AllByRecursion P xs
    all_once P [] k x at passes its once all = tt
    all_once P (y ∷ xs) zero x at passes its once all = (subst P (sym e) its, all_but (λ z. p z ≡ false → P z) P p (λ z fails so. so fails) xs (none_passes xs few) all.1)
      where
        e : y ≡ x
        e = cc at

        few : length (filter p xs) ≤ 0
        few = let l = subst (λ (b : Bool). length (cond b (y ∷ filter p xs) (filter p xs)) ≤ 1) (ap p e ∙ passes) once in omega (arith, l)
    all_once P (y ∷ xs) (suc k) x at passes its once all = one (p y) refl once (λ l. all_once P xs k x at passes its l all.1)
      where
        one : (b : Bool) → p y ≡ b → length (cond b (y ∷ filter p xs) (filter p xs)) ≤ 1 → (length (filter p xs) ≤ 1 → AllByRecursion P xs) → P y × AllByRecursion P xs
        one true is l ih = absurd (let none = none_passes xs (omega (arith, l)) in let some = one_passes xs k x at passes in cc (none, some))
        one false is l ih = (all.0 is, ih l)

    -- and so it is of all that are left without that one
    pub all_gone : (P : X → Type 0) (xs : List X) (k : ℕ) (x : X) → slice_get xs k ≡ Some x → p x ≡ true → length (filter p xs) ≤ 1 → AllByRecursion (λ y. p y ≡ false → P y) xs → AllByRecursion P (remove xs k)
    all_gone P [] k x at passes once all = absurd (cc at)
    all_gone P (y ∷ xs) zero x at passes once all = all_but (λ z. p z ≡ false → P z) P p (λ z fails so. so fails) xs (none_passes xs few) all.1
      where
        e : y ≡ x
        e = cc at

        few : length (filter p xs) ≤ 0
        few = let l = subst (λ (b : Bool). length (cond b (y ∷ filter p xs) (filter p xs)) ≤ 1) (ap p e ∙ passes) once in omega (arith, l)
    all_gone P (y ∷ xs) (suc k) x at passes once all = one (p y) refl once (λ l. all_gone P xs k x at passes l all.1)
      where
        one : (b : Bool) → p y ≡ b → length (cond b (y ∷ filter p xs) (filter p xs)) ≤ 1 → (length (filter p xs) ≤ 1 → AllByRecursion P (remove xs k)) → P y × AllByRecursion P (remove xs k)
        one true is l ih = absurd (let none = none_passes xs (omega (arith, l)) in let some = one_passes xs k x at passes in cc (none, some))
        one false is l ih = (all.0 is, ih l)

-- what is told of a call
pub record Said (K V : Type 0) : Type 0 where
  pub name : List ℕ
  pub call : Call K V
  pub replies : List (Option ℕ × Reply V)

-- each caller of another name keeps its value
abbrev pub AreWorth : {K V : Type 0} → List ℕ → Moment K V → Scene K V → List (NamedCaller V) → Type 0
AreWorth own m s calls = AllByRecursion (λ d. is_named own d ≡ false → IsWorth m s d) calls

module _ {K V : Type 0} where
  abbrev pub said_of : CallThere K V → Said K V
  said_of c = record { name = c.caller; call = c.call; replies = c.replies }

  -- each call that is found in the second list is found in the first one, with the same replies
  abbrev pub SaidIn : (before after : List (CallThere K V)) → Type 0
  SaidIn before after =
      (own : List ℕ) (c : CallThere K V) → find (λ x. is_same x.caller own) after ≡ Some c
      → (d : CallThere K V) × (find (λ x. is_same x.caller own) before ≡ Some d) × (d.call ≡ c.call) × (d.replies ≡ c.replies)

  pub said_same : (xs : List (CallThere K V)) → SaidIn xs xs
  said_same xs own c is = (c, is, refl, refl)

  pub said_then : (xs ys zs : List (CallThere K V)) → SaidIn xs ys → SaidIn ys zs → SaidIn xs zs
  said_then xs ys zs first second own c is =
      let d = second own c is in
      let e = first own d.0 d.1 in
      (e.0, e.1, e.2 ∙ d.2, e.3 ∙ d.3)

  said_alike : (xs ys : List (CallThere K V)) → map said_of ys ≡ map said_of xs → SaidIn xs ys
  said_alike xs ys alike own c is =
      let d = both_some said_of said_of (find (λ x. is_same x.caller own) xs) (find (λ x. is_same x.caller own) ys) (sym (found_alike said_of said_of ys xs alike (λ z. is_same z.name own))) c is in
      (d.0, d.1, ap (λ (z : Said K V). z.call) d.2, ap (λ (z : Said K V). z.replies) d.2)

  -- effects leave that
  due_said : (call : Call K V) (c : CallThere K V) (old : Option ℕ) (new : ℕ) → said_of (due_for call c old new) ≡ said_of c
  due_said (On one) c old new = refl
  due_said _ c old new = refl

  effect_said : (m : Moment K V) (f : Effect) (c : CallThere K V) → said_of (call_by m f c) ≡ said_of c
  effect_said m (Stored n s) c = due_said c.call c c.replacing n
  effect_said m (Removed n) c = due_said c.call c (Some n) _
  effect_said m _ c = refl

  change_said : (own : List ℕ) (change : CallThere K V → CallThere K V) → ((c : CallThere K V) → said_of (change c) ≡ said_of c) → (c : CallThere K V) → said_of (if is_same c.caller own then change c else c) ≡ said_of c
  change_said own change same c = by (is_same c.caller own)
    where
      by : (b : Bool) → said_of (if b then change c else c) ≡ said_of c
      by true = same c
      by false = refl

  pub effects_say : (who : Option (List ℕ)) (acted : Option ℕ) (effects : List Effect) (m : Moment K V) → SaidIn m.calls (with_effects who acted effects m).calls
  effects_say None acted [] m = said_same m.calls
  effects_say None acted (f ∷ effects) m = effects_say None acted effects (with_effect None acted f m)
  effects_say (Some own) acted effects m = said_alike m.calls (with_effects (Some own) acted effects m).calls (by effects m)
    where
      by : (effects : List Effect) (m : Moment K V) → map said_of (with_effects (Some own) acted effects m).calls ≡ map said_of m.calls
      by [] m = refl
      by (f ∷ effects) m = by effects (with_effect (Some own) acted f m) ∙ unseen said_of (λ c. if is_same c.caller own then call_by m f c else c) (change_said own (call_by m f) (effect_said m f)) m.calls

  -- and so does what a call comes to
  asks_said : (question : Option ℕ) (c : CallThere K V) (stands : CallState) → said_of (asks_on question c stands) ≡ said_of c
  asks_said question c (Asking q) = refl
  asks_said question c _ = refl

  comes_said : (outcome : Outcome V) (steps : ℕ) (c : CallThere K V) → said_of (with_outcome outcome (record c { steps = steps })) ≡ said_of c
  comes_said Goes steps c = refl
  comes_said Waits steps c = refl
  comes_said (Asks question) steps c = asks_said question (record c { steps = steps }) c.stands
  comes_said Ready steps c = refl
  comes_said (Shows n) steps c = refl
  comes_said _ steps c = refl

  -- none of its name is left
  none_left : (own : List ℕ) (ys : List (CallThere K V)) → find (λ x. is_same x.caller own) (without_call own ys) ≡ None
  none_left own [] = refl
  none_left own (y ∷ ys) = one (is_same y.caller own) refl (none_left own ys)
    where
      one : (b : Bool) → is_same y.caller own ≡ b → find (λ x. is_same x.caller own) (without_call own ys) ≡ None
          → find (λ x. is_same x.caller own) (cond (not b) (y ∷ without_call own ys) (without_call own ys)) ≡ None
      one true e ih = ih
      one false e ih = ap (λ (b : Bool). cond b (Some y) (find (λ x. is_same x.caller own) (without_call own ys))) e ∙ ih

  found_left : (own other : List ℕ) (c : CallThere K V) (ys : List (CallThere K V)) → find (λ x. is_same x.caller other) (without_call own ys) ≡ Some c → find (λ x. is_same x.caller other) ys ≡ Some c
  found_left own other c [] at = absurd (cc at)
  found_left own other c (y ∷ ys) at = one (is_same y.caller own) (is_same y.caller other) refl refl at (found_left own other c ys)
    where
      Found : Bool → Type 0
      Found b = cond b (Some y) (find (λ x. is_same x.caller other) ys) ≡ Some c

      Left : Bool → Type 0
      Left b = cond b (Some y) (find (λ x. is_same x.caller other) (without_call own ys)) ≡ Some c

      one : (a b : Bool) → is_same y.caller own ≡ a → is_same y.caller other ≡ b → find (λ x. is_same x.caller other) (cond (not a) (y ∷ without_call own ys) (without_call own ys)) ≡ Some c
          → (find (λ x. is_same x.caller other) (without_call own ys) ≡ Some c → find (λ x. is_same x.caller other) ys ≡ Some c) → find (λ x. is_same x.caller other) (y ∷ ys) ≡ Some c
      one false true e f is ih = subst Found (sym f) (subst Left f is)
      one false false e f is ih = subst Found (sym f) (ih (subst Left f is))
      one true false e f is ih = subst Found (sym f) (ih is)
      one true true e f is ih = absurd (
          let names : other ≡ own = sym (is_same_is y.caller other f) ∙ is_same_is y.caller own e in
          let gone = sym (ap (λ (l : List ℕ). find (λ x. is_same x.caller l) (without_call own ys)) names ∙ none_left own ys) ∙ is in cc gone)

  pub left_say : (own : List ℕ) (xs : List (CallThere K V)) → SaidIn xs (without_call own xs)
  left_say own xs other c is = (c, found_left own other c xs is, refl, refl)

  steps_say : (who : Option (List ℕ)) (outcome : Outcome V) (steps : ℕ) (xs : List (CallThere K V)) → SaidIn xs (stepped who outcome steps xs)
  steps_say None outcome steps xs = said_same xs
  steps_say (Some own) outcome steps xs = by (ends_call outcome)
    where
      by : (b : Bool) → SaidIn xs (if b then without_call own xs else map (λ c. if is_same c.caller own then with_outcome outcome (record c { steps = c.steps + steps }) else c) xs)
      by true = left_say own xs
      by false =
          said_alike xs (map (λ c. if is_same c.caller own then with_outcome outcome (record c { steps = c.steps + steps }) else c) xs)
          (unseen said_of (λ c. if is_same c.caller own then with_outcome outcome (record c { steps = c.steps + steps }) else c)
          (change_said own (λ c. with_outcome outcome (record c { steps = c.steps + steps })) (λ c. comes_said outcome (c.steps + steps) c)) xs)

-- a change of the call of one name, which keeps that: it is found changed,
module _ {K V : Type 0} (own : List ℕ) (change : CallThere K V → CallThere K V) (same_name : (c : CallThere K V) → (change c).caller ≡ c.caller) where
  abbrev changed : CallThere K V → CallThere K V
  changed c = if is_same c.caller own then change c else c

  pub found_changed : (xs : List (CallThere K V)) (c : CallThere K V) → find (λ x. is_same x.caller own) xs ≡ Some c → find (λ x. is_same x.caller own) (map changed xs) ≡ Some (change c)
  found_changed [] c is = absurd (cc is)
  found_changed (x ∷ xs) c is = one (is_same x.caller own) refl is (found_changed xs c)
    where
      one : (b : Bool) → is_same x.caller own ≡ b → cond b (Some x) (find (λ y. is_same y.caller own) xs) ≡ Some c
          → (find (λ y. is_same y.caller own) xs ≡ Some c → find (λ y. is_same y.caller own) (map changed xs) ≡ Some (change c))
          → cond (is_same (if b then change x else x).caller own) (Some (if b then change x else x)) (find (λ y. is_same y.caller own) (map changed xs)) ≡ Some (change c)
      one true e f ih =
          ap (λ (q : Bool). cond q (Some (change x)) (find (λ y. is_same y.caller own) (map changed xs))) (ap (λ (l : List ℕ). is_same l own) (same_name x) ∙ e)
          ∙ (let it : x ≡ c = cc f in ap (λ (y : CallThere K V). Some (change y)) it)
      one false e f ih = ap (λ (q : Bool). cond q (Some x) (find (λ y. is_same y.caller own) (map changed xs))) e ∙ ih f

-- and others as they were
module _ {K V : Type 0} (own other : List ℕ) (apart : is_same other own ≡ false) (change : CallThere K V → CallThere K V) (same_name : (c : CallThere K V) → (change c).caller ≡ c.caller) where
  pub found_unchanged : (xs : List (CallThere K V)) → find (λ x. is_same x.caller other) (map (changed own change same_name) xs) ≡ find (λ x. is_same x.caller other) xs
  found_unchanged [] = refl
  found_unchanged (x ∷ xs) = one (is_same x.caller own) refl (found_unchanged xs)
    where
      Rest : Bool → CallThere K V → Option (CallThere K V)
      Rest q y = cond q (Some y) (find (λ z. is_same z.caller other) (map (changed own change same_name) xs))

      one : (b : Bool) → is_same x.caller own ≡ b → find (λ z. is_same z.caller other) (map (changed own change same_name) xs) ≡ find (λ z. is_same z.caller other) xs
          → Rest (is_same (if b then change x else x).caller other) (if b then change x else x) ≡ cond (is_same x.caller other) (Some x) (find (λ z. is_same z.caller other) xs)
      one false e ih = ap (λ (o : Option (CallThere K V)). cond (is_same x.caller other) (Some x) o) ih
      one true e ih =
          ap (λ (q : Bool). Rest q (change x)) (ap (λ (l : List ℕ). is_same l other) (same_name x) ∙ not_it) ∙ ih
          ∙ sym (ap (λ (q : Bool). cond q (Some x) (find (λ z. is_same z.caller other) xs)) not_it)
        where
          not_it : is_same x.caller other ≡ false
          not_it = ap (λ (l : List ℕ). is_same l other) (is_same_is x.caller own e) ∙ apart_back other own apart

-- no reply is told
abbrev pub TellsNone : {K V : Type 0} → Event K V → Outcome V → Type 0
TellsNone (Replied caller reply) Goes = ⊥
TellsNone event outcome = Unit {0}

module _ {K V : Type 0} where
  calls_say : (event : Event K V) (outcome : Outcome V) → TellsNone event outcome → (steps : ℕ) (xs : List (CallThere K V)) → SaidIn xs (calls_on event outcome steps xs)
  calls_say (Replied caller reply) Goes none steps xs = absurd none
  calls_say (Stop caller) Done none steps xs = left_say caller xs
  calls_say event outcome none steps xs = steps_say (caller_of event) outcome steps xs

  -- after an event that tells none each call is as it was when the event had begun what it begins;
  pub event_says : (e : Entry K V) (m : Moment K V) → TellsNone e.event e.outcome → SaidIn (at_work e m).calls (after e m).calls
  event_says e m none =
      said_then (at_work e m).calls (worked e m).calls (after e m).calls (effects_say (caller_of e.event) (acted_on e.event (at_work e m)) e.effects (at_work e m))
      (calls_say e.event e.outcome none e.steps (worked e m).calls)

  -- so it is after one that is of no call,
  begins_none : (event : Event K V) (outcome : Outcome V) (m : Moment K V) → is_of_calls event ≡ false → (begun event outcome m).calls ≡ m.calls
  begins_none (Begin caller guard map call) outcome m none = absurd (cc none)
  begins_none (OneCall guard map call) outcome m none = absurd (cc none)
  begins_none (MakeMap map mode capacity) Done m none = refl
  begins_none _ _ m none = refl

  tells_none : (event : Event K V) (outcome : Outcome V) → is_of_calls event ≡ false → TellsNone event outcome
  tells_none (Replied caller reply) outcome none = absurd (cc none)
  tells_none _ _ none = tt

  pub nobody_says : (e : Entry K V) (m : Moment K V) → is_of_calls e.event ≡ false → SaidIn m.calls (after e m).calls
  nobody_says e m none = subst (λ (xs : List (CallThere K V)). SaidIn xs (after e m).calls) (begins_none e.event e.outcome m none) (event_says e m (tells_none e.event e.outcome none))

  -- and after one that was refused as out of turn
  busy_begins_none : (event : Event K V) (m : Moment K V) → (begun event (Refused Busy) m).calls ≡ m.calls
  busy_begins_none (Begin caller guard map call) m = refl
  busy_begins_none (OneCall guard map call) m = refl
  busy_begins_none (MakeMap map mode capacity) m = refl
  busy_begins_none _ m = refl

  busy_tells_none : (event : Event K V) → TellsNone {K = K} {V = V} event (Refused Busy)
  busy_tells_none (Replied caller reply) = tt
  busy_tells_none _ = tt

  pub busy_says : (event : Event K V) (m : Moment K V) → SaidIn m.calls (after (quiet event (Refused Busy)) m).calls
  busy_says event m =
      subst (λ (xs : List (CallThere K V)). SaidIn xs (after (quiet event (Refused Busy)) m).calls) (busy_begins_none event m) (event_says (quiet event (Refused Busy)) m (busy_tells_none event))

  -- a caller keeps its value where its machine and what is said of calls are as they were,
  pub is_worth_then : (m v : Moment K V) → SaidIn m.calls v.calls → (s t : Scene K V) (d : NamedCaller V) → ((u : UnderWay K V K) → t.calls d.map d.number ≡ Some u → s.calls d.map d.number ≡ Some u)
      → IsWorth m s d → IsWorth v t d
  is_worth_then m v said s t d there worth u here c is =
      let was = said d.name c is in
      subst (λ (l : List (Option ℕ × Reply V)). KeepsValue c.call l (machine_of u) d.value) was.3
      (subst (λ (x : Call K V). KeepsValue x was.0.replies (machine_of u) d.value) was.2 (worth u (there u here) was.0 was.1))

  -- and all do
  pub have_values_then : (m v : Moment K V) → SaidIn m.calls v.calls → (s t : Scene K V) → t.calls ≡ s.calls → (calls : List (NamedCaller V)) → HaveValues m s calls → HaveValues v t calls
  have_values_then m v said s t there [] all = tt
  have_values_then m v said s t there (d ∷ calls) all =
      (is_worth_then m v said s t d (λ u here. sym (ap (λ (f : ℕ → ℕ → Option (UnderWay K V K)). f d.map d.number) there) ∙ here) all.0, have_values_then m v said s t there calls all.1)

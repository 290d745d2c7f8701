-- Effects by which a call changes its map as it means to: each that stores a pair stores one, what is replaced gives way to the next that is stored, and in the end nothing is to be replaced.
use Rattle.std.specs.Prelude.{◌≡◌, ℕ, ◌+◌, Bool, true, false, List, [], ◌∷◌, ◌++◌, flat_map, length, map, Option, Some, None, if◌then◌else◌}
use Rattle.std.specs.List.{AllByRecursion}
use Rattle.std.proofs.Common.{refl, ap, sym, subst, ◌∙◌, arith, length-append, inl, inr}
use Rattle.std.proofs.lemmas.List.{length-map}
use Rattle.std.proofs.lemmas.List.Concat.{flat_map-cons}
use Rattle.run_finds.specs.Given.RunsSame.{is_same}
use Rattle.run_finds.specs.Given.RunsDeclared.call.Call.{Call}
use Rattle.run_finds.specs.Given.RunsDeclared.call.Call.TheVariants as call
use Rattle.run_finds.specs.Given.RunsDeclared.call.OneKey.{OneKey}
use Rattle.run_finds.specs.Given.RunsDeclared.call.Response.{Response}
use Rattle.run_finds.specs.Given.RunsDeclared.call.Reply.{Reply}
use Rattle.run_finds.specs.Given.RunsDeclared.effect.Effect.{Effect}
use Rattle.run_finds.specs.Given.RunsDeclared.effect.Effect.TheVariants as effect
use Rattle.run_finds.specs.Given.SchedulesEffects.{AtEachEffect, call_by, due_for, new_pair, stored_by, with_effect, with_effects}
use Rattle.run_finds.specs.Given.SchedulesEntry.{ByCall}
use Rattle.run_finds.specs.Given.SchedulesLinearizable.{Changes, MayRemove, RemovesOnly, shift_of, there_for}
use Rattle.run_finds.specs.Given.SchedulesMoment.{UnderWay, Moment}
use Rattle.run_finds.specs.Given.SchedulesSequential.{Deed, Leaves, Puts, Takes, Meaning, Answers, Shift, ComesIn, GivesWay, GoesOut, key_of, means, shifts, value_put}
use Rattle.run_finds.specs.Given.SchedulesViews.{call_of, reply_to}
use Rattle.run_finds.proofs.Given.FollowsCalls.{changed_same}
use Rattle.run_finds.proofs.Given.ChangesChanges.{acted_on}
use Rattle.run_finds.specs.Life.{StoresOne}
use Rattle.run_finds.proofs.Tables.{all_under}
use Rattle.run_sweeps.proofs.Sizes.Balance.{ReplacesFirst}
use Rattle.run_sweeps.proofs.Sizes.Counting.{replacing_by, worth}

module _ {K V : Type 0} where
  -- how many pairs a call stores under this number, in the place of this one or of none
  abbrev many_put : Call K V → List (Option ℕ × Reply V) → Option ℕ → ℕ → ℕ
  many_put (call.On one) replies old n = length (value_put (means one (reply_to old replies) old n))
  many_put _ replies old n = 0

  many_new : (its : Call K V) (c : UnderWay K V) (n : ℕ) → length (new_pair its c n) ≡ many_put its c.replies c.replacing n
  many_new (call.On one) c n = length-map (value_put (means one (reply_to c.replacing c.replies) c.replacing n)) (λ v. (key_of one, v))
  many_new (call.Reserve more) c n = refl
  many_new call.Clear c n = refl
  many_new call.Retain c n = refl
  many_new call.Len c n = refl
  many_new call.Walk c n = refl

  -- what is to come, where this pair or none is to be replaced: a pair that is stored is one, and what gives way does so first
  abbrev pub Awaits : Call K V → List (Option ℕ × Reply V) → List Shift → Option ℕ → Type 0
  Awaits its replies [] old = old ≡ None
  Awaits its replies (ComesIn n ∷ []) old = many_put its replies old n ≡ 1
  Awaits its replies (GivesWay p ∷ ComesIn n ∷ []) old = (old ≡ None) × (many_put its replies (Some p) n ≡ 1)
  Awaits its replies (GoesOut p ∷ done) old = Awaits its replies done old
  Awaits its replies _ old = ⊥

  -- it is so by what the call means
  shifts_await : (one : OneKey K V) (replies : List (Option ℕ × Reply V)) (a : Response V) (old : Option ℕ) (n : ℕ) (d : Deed V) → means one (reply_to old replies) old n ≡ Answers a d
      → Awaits (call.On one) replies (shifts old n d) None
  shifts_await one replies a None n Leaves is = refl
  shifts_await one replies a (Some p) n Leaves is = refl
  shifts_await one replies a None n (Puts v) is = ap (λ (m : Meaning V). length (value_put m)) is
  shifts_await one replies a (Some p) n (Puts v) is = (refl, ap (λ (m : Meaning V). length (value_put m)) is)
  shifts_await one replies a None n Takes is = refl
  shifts_await one replies a (Some p) n Takes is = refl

  module _ (eq : K → K → Bool) where
    comes_none : (its : Call K V) (c : UnderWay K V) (n : ℕ) → MayRemove eq its c (ComesIn n) → ⊥
    comes_none (call.On one) c n may = may
    comes_none (call.Reserve more) c n may = may
    comes_none call.Clear c n may = may
    comes_none call.Retain c n may = may
    comes_none call.Len c n may = may
    comes_none call.Walk c n may = may

    gives_none : (its : Call K V) (c : UnderWay K V) (n : ℕ) → MayRemove eq its c (GivesWay n) → ⊥
    gives_none (call.On one) c n may = may
    gives_none (call.Reserve more) c n may = may
    gives_none call.Clear c n may = may
    gives_none call.Retain c n may = may
    gives_none call.Len c n may = may
    gives_none call.Walk c n may = may

    removes_await : (its : Call K V) (c : UnderWay K V) (done : List Shift) → RemovesOnly eq its c done → Awaits its c.replies done None
    removes_await its c [] all = refl
    removes_await its c (ComesIn n ∷ done) all = absurd (comes_none its c n all.0)
    removes_await its c (GivesWay p ∷ done) all = absurd (gives_none its c p all.0)
    removes_await its c (GoesOut p ∷ done) all = removes_await its c done all.1

    pub changes_await : (its : Call K V) (c : UnderWay K V) (m : Moment K V) (done : List Shift) → Changes eq its c m done → Awaits its c.replies done None
    changes_await (call.On one) c m done (inl none) = subst (λ (l : List Shift). Awaits (call.On one) c.replies l None) (sym none) refl
    changes_await (call.On one) c m done (inr its) =
        subst (λ (l : List Shift). Awaits (call.On one) c.replies l None) (sym its.4) (shifts_await one c.replies its.1 (there_for eq one c m) (length m.stored + 1) its.2 its.3)
    changes_await (call.Reserve more) c m done all = removes_await (call.Reserve more) c done all
    changes_await call.Clear c m done all = removes_await call.Clear c done all
    changes_await call.Retain c m done all = removes_await call.Retain c done all
    changes_await call.Len c m done all = removes_await call.Len c done all
    changes_await call.Walk c m done all = removes_await call.Walk c done all

  -- effect by effect

  due_replies : (its : Call K V) (c : UnderWay K V) (old : Option ℕ) (new : ℕ) → (due_for its c old new).replies ≡ c.replies
  due_replies (call.On one) c old new = refl
  due_replies (call.Reserve more) c old new = refl
  due_replies call.Clear c old new = refl
  due_replies call.Retain c old new = refl
  due_replies call.Len c old new = refl
  due_replies call.Walk c old new = refl

  same_replies : (m : Moment K V) (f : Effect) (c : UnderWay K V) → (call_by m f c).replies ≡ c.replies
  same_replies m (effect.Stored n s) c = due_replies c.call c c.replacing n
  same_replies m (effect.Removed p) c = due_replies c.call c (Some p) _
  same_replies m _ c = refl

  awaits_on : (its : Call K V) (replies : List (Option ℕ × Reply V)) (f : Effect) (done : List Shift) (c : UnderWay K V) → Awaits its replies (shift_of f ++ done) c.replacing → Awaits its replies done (replacing_by f c)
  awaits_on its replies (effect.Stored n s) [] c h = refl
  awaits_on its replies (effect.Stored n s) (x ∷ done) c h = absurd h
  awaits_on its replies (effect.Replaced p) (ComesIn n ∷ []) c h = h.1
  awaits_on its replies (effect.Replaced p) [] c h = absurd h
  awaits_on its replies (effect.Replaced p) (ComesIn n ∷ x ∷ done) c h = absurd h
  awaits_on its replies (effect.Replaced p) (GivesWay n ∷ done) c h = absurd h
  awaits_on its replies (effect.Replaced p) (GoesOut n ∷ done) c h = absurd h
  awaits_on its replies (effect.Removed p) done c h = h
  awaits_on its replies _ done c h = h

  then_awaits : (m : Moment K V) (f : Effect) (done : List Shift) (c : UnderWay K V) → Awaits c.call c.replies (shift_of f ++ done) c.replacing
      → (let d = call_by m f c in Awaits d.call d.replies done d.replacing)
  then_awaits m f done c h =
      let d = call_by m f c in
      subst (λ (its : Call K V). Awaits its d.replies done d.replacing) (sym (changed_same m f c).2)
      (subst (λ (rs : List (Option ℕ × Reply V)). Awaits c.call rs done d.replacing) (sym (same_replies m f c))
      (subst (λ (o : Option ℕ). Awaits c.call c.replies done o) (sym (worth m f c).replacing) (awaits_on c.call c.replies f done c h)))

  module _ (own : List ℕ) where
    -- all calls of the caller await what is to come, of which there is one at most, and in the end they have nothing to replace
    abbrev pub AllAwait : List Shift → List (UnderWay K V) → Type 0
    AllAwait done calls = AllByRecursion (λ c. is_same c.caller own ≡ true → Awaits c.call c.replies done c.replacing) calls

    one_awaits : (m : Moment K V) (f : Effect) (done : List Shift) → AllAwait (shift_of f ++ done) m.calls → AllAwait done (map (λ c. if is_same c.caller own then call_by m f c else c) m.calls)
    one_awaits m f done all =
        all_under (λ (c : UnderWay K V). if is_same c.caller own then call_by m f c else c) (λ c. is_same c.caller own ≡ true → Awaits c.call c.replies (shift_of f ++ done) c.replacing)
        (λ c. is_same c.caller own ≡ true → Awaits c.call c.replies done c.replacing) (λ c its. by c its (is_same c.caller own) refl) m.calls all
      where
        Goal : UnderWay K V → Bool → Type 0
        Goal c q = (let d = if q then call_by m f c else c in is_same d.caller own ≡ true → Awaits d.call d.replies done d.replacing)

        by : (c : UnderWay K V) → (is_same c.caller own ≡ true → Awaits c.call c.replies (shift_of f ++ done) c.replacing) → (q : Bool) → is_same c.caller own ≡ q → Goal c (is_same c.caller own)
        by c its true is = subst (Goal c) (sym is) (λ same. then_awaits m f done c (its is))
        by c its false is = subst (Goal c) (sym is) (λ same. absurd (cc (sym is ∙ same)))

    pub all_end : (acted : Option ℕ) (effects : List Effect) (m : Moment K V) → AllAwait (flat_map shift_of effects) m.calls
        → AllByRecursion (λ (c : UnderWay K V). is_same c.caller own ≡ true → c.replacing ≡ None) (with_effects (Some own) acted effects m).calls
    all_end acted [] m all = all
    all_end acted (f ∷ effects) m all =
        all_end acted effects (with_effect (Some own) acted f m) (one_awaits m f (flat_map shift_of effects) (subst (λ (l : List Shift). AllAwait l m.calls) (flat_map-cons shift_of f effects) all))

    stores_one : (m : Moment K V) (c : UnderWay K V) → call_of own m ≡ Some c → (f : Effect) (done : List Shift) → Awaits c.call c.replies (shift_of f ++ done) c.replacing → StoresOne (Some own) m f
    stores_one m c is (effect.Stored n s) [] h =
        let long : length (stored_by (call_of own m) (effect.Stored n s) m.stored) ≡ length (m.stored ++ new_pair c.call c n) =
        ap (λ (o : Option (UnderWay K V)). length (stored_by o (effect.Stored n s) m.stored)) is in
        let parts = length-append m.stored (new_pair c.call c n) in
        let one : length (new_pair c.call c n) ≡ 1 = many_new c.call c n ∙ h in
        omega (arith, long, parts, one)
    stores_one m c is (effect.Stored n s) (x ∷ done) h = absurd h
    stores_one m c is _ done h = tt

    replaces_first : (m : Moment K V) (c : UnderWay K V) → call_of own m ≡ Some c → (f : Effect) (done : List Shift) → Awaits c.call c.replies (shift_of f ++ done) c.replacing → ReplacesFirst (Some own) m f
    replaces_first m c is (effect.Replaced p) (ComesIn n ∷ []) h = subst (ByCall (λ d. d.replacing ≡ None)) (sym is) h.0
    replaces_first m c is (effect.Replaced p) [] h = absurd h
    replaces_first m c is (effect.Replaced p) (ComesIn n ∷ x ∷ done) h = absurd h
    replaces_first m c is (effect.Replaced p) (GivesWay n ∷ done) h = absurd h
    replaces_first m c is (effect.Replaced p) (GoesOut n ∷ done) h = absurd h
    replaces_first m c is _ done h = tt

    -- and so over all of an event
    pub all_store : (acted : Option ℕ) (effects : List Effect) (m : Moment K V) (c : UnderWay K V) → call_of own m ≡ Some c → Awaits c.call c.replies (flat_map shift_of effects) c.replacing
        → AtEachEffect (λ v f. StoresOne (Some own) v f × ReplacesFirst (Some own) v f) (Some own) acted effects m
    all_store acted [] m c is h = tt
    all_store acted (f ∷ effects) m c is h =
        let now = subst (λ (l : List Shift). Awaits c.call c.replies l c.replacing) (flat_map-cons shift_of f effects) h in (
          (stores_one m c is f (flat_map shift_of effects) now, replaces_first m c is f (flat_map shift_of effects) now),
          all_store acted effects (with_effect (Some own) acted f m) (call_by m f c) (acted_on own 0 f m c is) (then_awaits m f (flat_map shift_of effects) c now),
        )

  -- where no pair comes or gives way nothing is stored, nor replaced
  pub none_store : (acted : Option ℕ) (effects : List Effect) (m : Moment K V) → flat_map shift_of effects ≡ [] → (caller : Option (List ℕ)) → AtEachEffect (λ v f. StoresOne caller v f × ReplacesFirst caller v f) caller acted effects m
  none_store acted [] m none caller = tt
  none_store acted (f ∷ effects) m none caller = (one f now, none_store acted effects (with_effect caller acted f m) (rest f now) caller)
    where
      now : shift_of f ++ flat_map shift_of effects ≡ []
      now = sym (flat_map-cons shift_of f effects) ∙ none

      rest : (g : Effect) → shift_of g ++ flat_map shift_of effects ≡ [] → flat_map shift_of effects ≡ []
      rest (effect.Stored n s) e = absurd (cc e)
      rest (effect.Replaced p) e = absurd (cc e)
      rest (effect.Removed p) e = absurd (cc e)
      rest _ e = e

      one : (g : Effect) → shift_of g ++ flat_map shift_of effects ≡ [] → StoresOne caller m g × ReplacesFirst caller m g
      one (effect.Stored n s) e = absurd (cc e)
      one (effect.Replaced p) e = absurd (cc e)
      one _ e = (tt, tt)

-- What calls on one key were told, and ask, lasts by steps of calls, whoever takes them.
use Rattle.std.specs.Prelude.{◌≡◌, ◌≢◌, ℕ, ◌<◌, ◌≤◌, Bool, List, [], ◌∷◌, Option, Some, None, ◌⊎◌}
use Rattle.std.proofs.Common.{refl, ap, sym, subst, ◌∙◌, arith, inl, inr}
use Rattle.std.proofs.lemmas.Bool.{cases_eq}
use Rattle.run_shows.specs.Given.SeizeWordsPlan.{plan_as}
use Rattle.run_shows.specs.Given.SeizeWordsWord.{block_in}
use Rattle.run_shows.specs.Given.SeizeWorld.{World, with_at}
use Rattle.run_shows.specs.Given.TablesDeclared.node.Node.{Node}
use Rattle.run_shows.specs.Given.RawCall.{plan_at}
use Rattle.run_shows.specs.Given.RawMachine.{called}
use Rattle.run_shows.specs.Given.RawDeclared.machines.asking.Asking.{Asking as AskingAt}
use Rattle.run_shows.specs.Given.RawDeclared.machines.asking.Asking.TheVariants as asking
use Rattle.run_shows.specs.Given.RawDeclared.machines.answer.Called.{Called}
use Rattle.run_shows.specs.Given.RawDeclared.machines.call.KeyCall.{KeyCall}
use Rattle.run_shows.specs.Given.RawDeclared.machines.call.Calling.{Calling}
use Rattle.run_shows.specs.Given.RawDeclared.machines.call.Calling.TheVariants as at
use Rattle.run_shows.specs.Given.RawDeclared.machines.machine.Machine.{Machine}
use Rattle.run_shows.specs.Given.RawDeclared.machines.machine.Machine.TheVariants as kinds
use Rattle.run_shows.specs.Given.RawDeclared.machines.progress.Progress.{Progress}
use Rattle.run_shows.specs.Given.RunsDeclared.call.Call.{Call}
use Rattle.run_shows.specs.Given.RunsDeclared.call.Call.TheVariants as call
use Rattle.run_shows.specs.Given.RunsDeclared.call.OneKey.{OneKey}
use Rattle.run_shows.specs.Given.RunsDeclared.call.Reply.{Reply}
use Rattle.run_shows.specs.Given.SchedulesMoment.{UnderWay as CallThere}
use Rattle.run_shows.specs.Given.TellerTells.{StepsObserved}
use Rattle.run_shows.specs.Given.EffectsDeclared.changed.Changed.TheVariants.{Nothing}
use Rattle.run_shows.specs.Given.PointsFactsCalls.{Change}
use Rattle.run_shows.specs.Given.CallersAsked.{Asked}
use Rattle.run_shows.specs.Given.CallersOverAll.{come_to, gone_on}
use Rattle.run_shows.specs.Given.CallersTogether.{CallOnKey, UnderWay, OnKey, ForRoom, Counting, OverAll, next_of, change_observed}
use Rattle.run_shows.proofs.Given.CallersTogether.At.{at_other, at_same}
use Rattle.run_shows.specs.Given.EffectsKnown.{Known}
use Rattle.run_shows.specs.Given.FinishesEndings.{Finishing}
use Rattle.run_shows.specs.Given.FinishesMachines.{machine_of}
use Rattle.run_shows.specs.Given.FinishesMakings.{Beginning}
use Rattle.run_shows.specs.Given.FinishesMaps.{Standing, with_call}
use Rattle.run_shows.specs.Follows.Steps.{Did}
use Rattle.run_shows.proofs.Follows.Called.{key_goes_on, room_goes_on, counting_goes_on, sweep_goes_on}
use Rattle.run_shows.proofs.Follows.Onward.{IsLasting, KeepsRoles}
use Rattle.run_places.specs.Hands.Asked.{IsSameQuestion, AreReplies, IsQuestion, IsAskedOn, IsAskedAs, IsAsked}
use Rattle.run_places.proofs.Hands.Replacing.{IsOn}
use Rattle.run_shows.specs.Scenes.Held.{Held}
use Rattle.run_shows.specs.Scenes.Scene.{slot_of}
use Rattle.run_shows.specs.Scenes.Stepping.{StepsFrom}

module _ (known known2 : Known) (keeps : KeepsRoles known known2) where
  question_kept : (it : AskingAt) (q : Option ℕ) → IsQuestion known it q → IsQuestion known2 it q
  question_kept (asking.Absent gap) None is = tt
  question_kept (asking.Absent gap) (Some k) is = absurd is
  question_kept (asking.Present word) None is = absurd is
  question_kept (asking.Present word) (Some k) is = keeps (block_in word) (subst IsLasting (sym is) tt) ∙ is
  question_kept (asking.Fills word) None is = absurd is
  question_kept (asking.Fills word) (Some k) is = absurd is
  question_kept (asking.GivesUp word) None is = absurd is
  question_kept (asking.GivesUp word) (Some k) is = absurd is

  -- what asks goes on standing there
  abbrev pub StaysAsking : Calling → Calling → Type 0
  StaysAsking stands stands2 = (it : AskingAt) (q : Option ℕ) → stands ≡ at.Asks it → IsQuestion known it q → stands2 ≡ at.Asks it

  module _ (number number2 : ℕ → ℕ) (stored stored2 : ℕ) (more : stored ≤ stored2) (numbers : (n : ℕ) → n < stored → number2 n ≡ number n) where
    same_kept : (a r : Option ℕ) → IsSameQuestion number stored a r → IsSameQuestion number2 stored2 a r
    same_kept None None is = tt
    same_kept None (Some k) is = absurd is
    same_kept (Some n) None is = absurd is
    same_kept (Some n) (Some k) is = let l = is.0 in (omega (arith, l, more), numbers n is.0 ∙ is.1)

    replies_kept : {V : Type 0} (asked : List (Asked V)) (replies : List (Option ℕ × Reply V)) → AreReplies number stored asked replies → AreReplies number2 stored2 asked replies
    replies_kept [] [] are = tt
    replies_kept [] (r ∷ replies) are = absurd are
    replies_kept (a ∷ asked) [] are = absurd are
    replies_kept (a ∷ asked) (r ∷ replies) are = (same_kept a.about r.0 are.0, are.1, replies_kept asked replies are.2)

    module _ {K V : Type 0} (u v : CallOnKey K V K) (pair : v.pair ≡ u.pair) (stays : StaysAsking u.call.stands v.call.stands) (c d : CallThere K V) (on : IsOn c d)
        (replacing : c.replacing ≡ None → d.replacing ≡ None) where
      one_kept : (one : OneKey K V) → IsAskedOn number stored known u one c → IsAskedOn number2 stored2 known2 v one d
      one_kept one h = record {
        asked = h.asked;
        given = pair ∙ h.given;
        replies = subst (AreReplies number2 stored2 h.asked) (sym on.replies) (replies_kept h.asked c.replies h.replies);
        first = h.first;
        replacing = replacing h.replacing;
        asks = λ q stands.
            let was = h.asks q (sym on.stands ∙ stands) in (was.0, stays was.0 q was.1 was.2, question_kept was.0 q was.2);
      }

      as_kept : (x : Call K V) → IsAskedAs number stored known u x c → IsAskedAs number2 stored2 known2 v x d
      as_kept (call.On one) h = one_kept one h
      as_kept (call.Reserve additional) h = tt
      as_kept call.Clear h = tt
      as_kept call.Retain h = tt
      as_kept call.Len h = tt
      as_kept call.Walk h = tt

      pub key_kept : IsAsked number stored known (OnKey u) c → IsAsked number2 stored2 known2 (OnKey v) d
      key_kept h = subst (λ (x : Call K V). IsAskedAs number2 stored2 known2 v x d) (sym on.call) (as_kept c.call h)

    -- a call that takes no step is as it was
    pub asked_kept : {K V : Type 0} (x : UnderWay K V K) (c d : CallThere K V) → IsOn c d → (c.replacing ≡ None → d.replacing ≡ None) → IsAsked number stored known x c → IsAsked number2 stored2 known2 x d
    asked_kept (OnKey u) c d on replacing h = key_kept u u refl (λ it q is question. is) c d on replacing h
    asked_kept (ForRoom r) c d on replacing h = tt
    asked_kept (Counting sum) c d on replacing h = tt
    asked_kept (OverAll o) c d on replacing h = tt

-- a call that asks goes on asking, by each step that it takes meanwhile
module _ {K V : Type 0} (same : K → K → Bool) (hash : K → ℕ) (old new : Held K V) (machine : Machine K V K) (told : Progress (Node K V)) (p : KeyCall K V K) where
  abbrev StepsAt : Calling → Type 0
  StepsAt stands =
      StepsObserved K V (Machine K V K × Progress (Node K V)) old.memory Nothing (plan_as called (plan_at same same hash p stands)) new.memory new.changed (machine, told)

  asks_on : (known : Known) (it : AskingAt) (q : Option ℕ) → IsQuestion known it q → StepsAt (at.Asks it) → machine ≡ kinds.Key p
  asks_on known (asking.Absent gap) q is steps = ap (λ (x : Machine K V K × Progress (Node K V)). x.0) steps.1
  asks_on known (asking.Present word) q is steps = ap (λ (x : Machine K V K × Progress (Node K V)). x.0) steps.1
  asks_on known (asking.Fills word) None is steps = absurd is
  asks_on known (asking.Fills word) (Some k) is steps = absurd is
  asks_on known (asking.GivesUp word) None is steps = absurd is
  asks_on known (asking.GivesUp word) (Some k) is steps = absurd is

  pub stays_asking : (known : Known) (p2 : KeyCall K V K) → machine ≡ kinds.Key p2 → StepsFrom same hash (kinds.Key p) old new machine told
      → (it : AskingAt) (q : Option ℕ) → p.stands ≡ at.Asks it → IsQuestion known it q → p2.stands ≡ at.Asks it
  stays_asking known p2 is steps it q stands question =
      let same_machine : machine ≡ kinds.Key p = asks_on known it q question (subst StepsAt stands steps) in
      let same_call : p2 ≡ p = cc (same_machine, is) in ap (λ (x : KeyCall K V K). x.stands) same_call ∙ stands

module _ {K V : Type 0} (same : K → K → Bool) (batch_size roots : ℕ) (w : World (Node K V)) (maps : ℕ → Option (Standing K)) (calls : ℕ → ℕ → Option (UnderWay K V K))
    (makers : ℕ → Option (Beginning K)) (enders : ℕ → Option (Finishing K V)) (m : ℕ) (s : Standing K) (i : ℕ) (w2 : World (Node K V)) (maps2 : ℕ → Option (Standing K)) (next : Option (UnderWay K V K))
    (old new : Held K V) (machine : Machine K V K) (told : Progress (Node K V)) (known known2 : Known) (keeps : KeepsRoles known known2) (number number2 : ℕ → ℕ) (stored stored2 : ℕ)
    (more : stored ≤ stored2) (numbers : (n : ℕ) → n < stored → number2 n ≡ number n) (c d : CallThere K V) (on : IsOn c d) (replacing : c.replacing ≡ None → d.replacing ≡ None)
    (x : UnderWay K V K) (goes_on : next ≡ Some x) where
  -- the call with what it has changed, as this machine
  abbrev later : CallOnKey K V K → Change → KeyCall K V K → CallOnKey K V K
  later u change p2 = record { keys = u.keys; pair = u.pair; began = u.began; change = change; call = p2 }

  on_key : (u : CallOnKey K V K) (change : Change) (p2 : KeyCall K V K) (end : Called (Node K V)) → next ≡ next_of (later u change p2) end → machine ≡ kinds.Key p2 → StepsFrom same s.hash (kinds.Key u.call) old new machine told
      → IsAsked number stored known (OnKey u) c → IsAsked number2 stored2 known2 x d
  on_key u change p2 end is machine_is steps h =
      subst (λ (z : UnderWay K V K). IsAsked number2 stored2 known2 z d) (sym (key_goes_on (later u change p2) end x (sym is ∙ goes_on)))
      (key_kept known known2 keeps number number2 stored stored2 more numbers u (later u change p2) refl (stays_asking same s.hash old new machine told u.call known p2 machine_is steps) c d on replacing h)

  as_one : (y : UnderWay K V K) → x ≡ y → IsAsked number2 stored2 known2 y d → IsAsked number2 stored2 known2 x d
  as_one y e h = subst (λ (z : UnderWay K V K). IsAsked number2 stored2 known2 z d) (sym e) h

  -- the one that has taken the step
  pub own_asked : (u : UnderWay K V K) → StepsFrom same s.hash (machine_of u) old new machine told → Did same batch_size roots w maps calls makers enders m s i new.memory w2 maps2 next u machine told
      → IsAsked number stored known u c → IsAsked number2 stored2 known2 x d
  own_asked (OnKey u) steps (p2, end, machine_is, told_is, inl (to, moved)) h =
      on_key u (change_observed V same s.hash same s.setting slot_of to.step.went.told) p2 end moved.2 machine_is steps h
  own_asked (OnKey u) steps (p2, end, machine_is, told_is, inr (to, stayed)) h = on_key u u.change p2 end stayed.2 machine_is steps h
  own_asked (ForRoom r) steps (p2, end, machine_is, told_is, inl (to, moved)) h = as_one (ForRoom (record { began = r.began; reserve = p2 })) (room_goes_on (record { began = r.began; reserve = p2 }) end x (sym moved.2 ∙ goes_on)) tt
  own_asked (ForRoom r) steps (p2, end, machine_is, told_is, inr (to, stayed)) h = as_one (ForRoom (record { began = r.began; reserve = p2 })) (room_goes_on (record { began = r.began; reserve = p2 }) end x (sym stayed.2 ∙ goes_on)) tt
  own_asked (Counting sum) steps (sum2, end, machine_is, told_is, still, stayed) h = as_one (Counting sum2) (counting_goes_on sum2 end x (sym stayed.2 ∙ goes_on)) tt
  own_asked (OverAll o) steps (p2, end, machine_is, told_is, inl (to, moved)) h = as_one (OverAll (come_to o to.step.entered2 to.step.done2 p2)) (sweep_goes_on (come_to o to.step.entered2 to.step.done2 p2) end x (sym moved.2 ∙ goes_on)) tt
  own_asked (OverAll o) steps (p2, end, machine_is, told_is, inr (to, stayed)) h = as_one (OverAll (gone_on o p2)) (sweep_goes_on (gone_on o p2) end x (sym stayed.2 ∙ goes_on)) tt

-- which call is under way after one of them is another one
module _ {K V : Type 0} (calls : ℕ → ℕ → Option (UnderWay K V K)) (map i : ℕ) (next : Option (UnderWay K V K)) where
  abbrev Which : ℕ → ℕ → UnderWay K V K → Type 0
  Which n j x = ((n ≡ map) × (j ≡ i) × (next ≡ Some x)) ⊎ ((n ≡ map → j ≡ i → ⊥) × (calls n j ≡ Some x))

  pub which : (n j : ℕ) (x : UnderWay K V K) → with_call calls map i next n j ≡ Some x → Which n j x
  which n j x is = by (cases_eq n map) (cases_eq j i)
    where
      its_map : n ≡ map → with_at (calls map) i next j ≡ Some x
      its_map e = ap (λ (g : ℕ → Option (UnderWay K V K)). g j) (sym (at_same calls map (with_at (calls map) i next) n e)) ∙ is

      by : (n ≡ map) ⊎ (n ≢ map) → (j ≡ i) ⊎ (j ≢ i) → Which n j x
      by (inl e) (inl f) = inl (e, f, sym (at_same (calls map) i next j f) ∙ its_map e)
      by (inl e) (inr ne) = inr (λ same f. ne f, ap (λ (k : ℕ). calls k j) e ∙ sym (at_other (calls map) i next j ne) ∙ its_map e)
      by (inr ne) f = inr (λ same f. ne same, ap (λ (g : ℕ → Option (UnderWay K V K)). g j) (sym (at_other calls map (with_at (calls map) i next) n ne)) ∙ is)

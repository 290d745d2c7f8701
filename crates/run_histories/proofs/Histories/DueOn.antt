-- What calls owe they owe on between their steps.
use Rattle.std.specs.Prelude.{◌≡◌, ℕ, ◌+◌, Bool, true, false, cond, List, [], ◌∷◌, find, Option, Some, ◌⊎◌, if◌then◌else◌}
use Rattle.std.proofs.Common.{refl, ap, sym, subst, ◌∙◌, arith, inl, inr}
use Rattle.run_places.specs.Given.RunsSame.{is_same}
use Rattle.run_places.specs.Given.RawDeclared.machines.asking.Asking.{Asking as AskingAt}
use Rattle.run_places.specs.Given.RawDeclared.machines.asking.MachineReply.{MachineReply}
use Rattle.run_places.specs.Given.RawDeclared.machines.call.Calling.TheVariants as at
use Rattle.run_places.specs.Given.RunsDeclared.call.Call.{Call}
use Rattle.run_places.specs.Given.RunsDeclared.call.Call.TheVariants.{On}
use Rattle.run_places.specs.Given.RunsDeclared.call.OneKey.{OneKey}
use Rattle.run_places.specs.Given.RunsDeclared.call.Reply.{Reply}
use Rattle.run_places.specs.Given.RunsDeclared.outcome.Outcome.{Outcome}
use Rattle.run_places.specs.Given.RunsDeclared.outcome.Outcome.TheVariants as outcome
use Rattle.run_places.specs.Given.SchedulesAfter.{asks_on, with_outcome, replied}
use Rattle.run_places.specs.Given.SchedulesBeginning.{fresh_call, with_call}
use Rattle.run_places.specs.Given.SchedulesThings.{same_question}
use Rattle.run_places.specs.Given.SchedulesMoment.{CallState, Going, Asking, Told, IsReady, UnderWay as CallThere, Moment}
use Rattle.run_places.specs.Given.SchedulesViews.{call_of, reply_to}
use Rattle.run_places.specs.Given.PointsFactsCalls.{Change, Unchanged, Seeks}
use Rattle.run_places.specs.Given.PointsTold.{IsRowOfCall}
use Rattle.run_places.specs.Given.CallersSights.{seen_by}
use Rattle.run_places.specs.Given.CallersTogether.{CallOnKey, UnderWay, OnKey, ForRoom, Counting, OverAll, Knows, IsAtPoint as StandsAt, in_slot}
use Rattle.run_places.specs.Given.FinishesMachines.{RepliedOfKind}
use Rattle.run_places.specs.Given.FinishesMaps.{Standing}
use Rattle.run_places.specs.Given.FollowsCalling.{told}
use Rattle.run_places.proofs.Given.FollowsCalling.{is_same_refl, replied_same, come}
use Rattle.run_places.proofs.Given.FollowsCalls.{found}
use Rattle.run_places.specs.Hands.Asked.{reply_to_machine, IsAskedAs}
use Rattle.run_places.proofs.Hands.Asking.{which}
use Rattle.run_places.proofs.Hands.Calling.{caller_is}
use Rattle.run_places.specs.Changes.Changes.{IsTaken, AreTaken}
use Rattle.run_histories.specs.Histories.Due.{HasPendingAnswer, PendingAnswersBegin, CallsComeToDue, EventsPreservePendingAnswers, CallsBeginDue, CallsTakeDue}
use Rattle.run_places.specs.Changes.Histories.{StaysWithin}
use Rattle.run_histories.proofs.Histories.Calling.{came_so, histories_begin, calls_begin_histories, calls_take_histories, calls_come_to_histories, events_keep_histories}
use Rattle.run_histories.proofs.Histories.Due.{owes_on, same_change}
use Rattle.run_places.specs.Given.ScenesHeld.{Held, IsAt}
use Rattle.run_places.specs.Given.ScenesReplying.{scene_with}
use Rattle.run_places.specs.Given.ScenesScene.{Scene, slot_of}
use Rattle.run_places.proofs.Given.General.{same_some as one_of}

module _ {K V : Type 0} where
  -- what a call owes, was told and was called with
  abbrev pub IsAsOwed : CallThere K V → CallThere K V → Type 0
  IsAsOwed c d = (d.due ≡ c.due) × (d.replies ≡ c.replies) × (d.call ≡ c.call)

  asks_owed : (question : Option ℕ) (c : CallThere K V) (stands : CallState) → IsAsOwed c (asks_on question c stands)
  asks_owed question c Going = (refl, refl, refl)
  asks_owed question c (Asking q) = (refl, refl, refl)
  asks_owed question c Told = (refl, refl, refl)
  asks_owed question c IsReady = (refl, refl, refl)

  pub comes_owed : (o : Outcome V) (c : CallThere K V) → IsAsOwed c (with_outcome o c)
  comes_owed outcome.Done c = (refl, refl, refl)
  comes_owed (outcome.Slot n) c = (refl, refl, refl)
  comes_owed outcome.Goes c = (refl, refl, refl)
  comes_owed (outcome.Asks question) c = asks_owed question c c.stands
  comes_owed outcome.Waits c = (refl, refl, refl)
  comes_owed outcome.Ready c = (refl, refl, refl)
  comes_owed (outcome.Shows n) c = (refl, refl, refl)
  comes_owed (outcome.Answered a) c = (refl, refl, refl)
  comes_owed (outcome.Shape tables) c = (refl, refl, refl)
  comes_owed (outcome.Refused fault) c = (refl, refl, refl)

  came_owed : {Own : Type 0} (o : Outcome V) (steps : ℕ) (c d : CallThere K V) → (d ≡ c) ⊎ ((d ≡ come o steps c) × Own) → IsAsOwed c d
  came_owed o steps c d (inl e) = (ap (λ (z : CallThere K V). z.due) e, ap (λ (z : CallThere K V). z.replies) e, ap (λ (z : CallThere K V). z.call) e)
  came_owed o steps c d (inr (e, own)) =
      let it = comes_owed o (record c { steps = c.steps + steps }) in
      (ap (λ (z : CallThere K V). z.due) e ∙ it.0, ap (λ (z : CallThere K V). z.replies) e ∙ it.1, ap (λ (z : CallThere K V). z.call) e ∙ it.2)

module _ (K V : Type 0) (same : K → K → Bool) where
  pub dues_begin : PendingAnswersBegin K V same
  dues_begin roots name =
      record { history = histories_begin K V same roots name; owes = λ map i u is st there c found one one_is. absurd (cc is); taken = λ map i u is c found one one_is. absurd (cc is) }

  pub events_keep_due : EventsPreservePendingAnswers K V same
  events_keep_due name log m known s dues counted =
      let on = events_keep_histories K V same name log m known s dues.history counted in
      record {
        history = on.0;
        owes = λ map i u is st there c found one one_is. subst (λ (f : ℕ → ℕ → ℕ). HasPendingAnswer (f map) st.chart.stored one c u.change) (sym on.1) (dues.owes map i u is st there c found one one_is);
        taken = dues.taken;
      }

  pub calls_come_to_due : CallsComeToDue K V same
  calls_come_to_due name log m known s dues own o steps ended just =
      let on = calls_come_to_histories K V same name log m known s dues.history own o steps ended just in
      record {
        history = on.0;
        owes = λ map i u is st there d found one one_is. subst (λ (f : ℕ → ℕ → ℕ). HasPendingAnswer (f map) st.chart.stored one d u.change) (sym on.1)
            (let was = dues.history.shown.calls map i (OnKey u) is in
            let kept = came_owed o steps was.0 d (came_so same name m s own o steps ended map i (OnKey u) is was.0 was.1 d found) in
            owes_on (dues.history.shown.number map) (dues.history.shown.number map) st.chart.stored st.chart.stored (λ n l. refl) (omega arith) one was.0 d kept.0 kept.1 u.change
            (dues.owes map i u is st there was.0 was.1 one (sym kept.2 ∙ one_is)));
        taken = λ map i u is d found one one_is. (let was = dues.history.shown.calls map i u is in
            let kept = came_owed o steps was.0 d (came_so same name m s own o steps ended map i u is was.0 was.1 d found) in
            subst (AreTaken one) (sym kept.1) (dues.taken map i u is was.0 was.1 one (sym kept.2 ∙ one_is)));
      }

-- a call that begins got no reply
none_taken : {K V : Type 0} (one : OneKey K V) → AreTaken one []
none_taken one question r e = absurd (cc e)

-- and one that takes one more has got such ones alone
more_taken : {K V : Type 0} (one : OneKey K V) (question : Option ℕ) (reply : Reply V) (replies : List (Option ℕ × Reply V)) → IsTaken one reply → AreTaken one replies → AreTaken one ((question, reply) ∷ replies)
more_taken one question reply replies its rest asked r = by (same_question asked question) refl
  where
    by : (q : Bool) → same_question asked question ≡ q → (if q then Some reply else reply_to asked replies) ≡ Some r → IsTaken one r
    by true same_one e = let is : reply ≡ r = cc e in subst (IsTaken one) is its
    by false other e = rest asked r e

module _ {K V : Type 0} (same : K → K → Bool) (hash : ℕ → K → ℕ) where
  -- a call that asks has changed nothing
  asks_unchanged : (s : Scene K V) (e : Held K V) → IsAt same hash e s → (map i : ℕ) (st : Standing K) → s.maps map ≡ Some st → (x : CallOnKey K V K) → s.calls map i ≡ Some (OnKey x) → (it : AskingAt)
      → x.call.stands ≡ at.Asks it → x.change ≡ Unchanged
  asks_unchanged s e is_at map i st there x here it stands = by ((is_at.together.makings.standing.each map st there).stand i (OnKey x) here)
    where
      known : Knows V same st.hash same st.setting slot_of s.world st.chart (seen_by st.blocks (st.sights (slot_of i))) i x x.call → x.change ≡ Unchanged
      known k = elim k.facts as (λ _. x.change ≡ Unchanged) [
        | inl facts ↦ facts.unchanged (subst (Seeks same st.hash same s.world i (in_slot st.setting (slot_of i)) st.chart (seen_by st.blocks (st.sights (slot_of i))) x.keys x.change) (sym stands) tt)
        | inr late ↦ late.0
      ]

      by : StandsAt V same st.hash same st.setting slot_of s.world st.chart (seen_by st.blocks (st.sights (slot_of i))) i (OnKey x) → x.change ≡ Unchanged
      by (inl k) = known k.1
      by (inr k) = absurd (subst IsRowOfCall stands k.1)

module _ {K V : Type 0} (same : K → K → Bool) where
  -- a call that was told something has changed what it had changed
  told_change : (batch_size roots : ℕ) (st : Standing K) (i : ℕ) (u : UnderWay K V K) (reply : MachineReply V) (x : CallOnKey K V K) → RepliedOfKind V same same batch_size roots slot_of st i u reply (OnKey x)
      → (y : CallOnKey K V K) × (u ≡ OnKey y) × (x.change ≡ y.change)
  told_change batch_size roots st i (OnKey y) reply x (inl (asks_at, about, stands, asked, is)) = (y, refl, same_change x _ is)
  told_change batch_size roots st i (OnKey y) reply x (inr is) = (y, refl, same_change x y is)
  told_change batch_size roots st i (ForRoom r) reply x is = absurd (cc is)
  told_change batch_size roots st i (Counting sum) reply x is = absurd (cc is)
  told_change batch_size roots st i (OverAll o) reply x (inl (word, n, stands, names, inl (kept, is))) = absurd (cc is)
  told_change batch_size roots st i (OverAll o) reply x (inl (word, n, stands, names, inr (left, is))) = absurd (cc is)
  told_change batch_size roots st i (OverAll o) reply x (inr is) = absurd (cc is)

module _ (K V : Type 0) (same : K → K → Bool) (hash : ℕ → K → ℕ) where
  pub calls_begin_due : CallsBeginDue K V same hash
  calls_begin_due name log m known s e is_at dues map i u its guard standing there begins unchanged apart called begun_for events = record {
    history = on.0;
    owes = λ n j x is st st_is d d_is one one_is. subst (λ (f : ℕ → ℕ → ℕ). HasPendingAnswer (f n) st.chart.stored one d x.change) (sym on.1) (owes n j x d d_is one one_is st st_is (which s.calls map i (Some u) n j (OnKey x) is));
    taken = λ n j x is d d_is one one_is. taken n j x d d_is one one_is (which s.calls map i (Some u) n j x is);
  }
    where
      m2 : Moment K V
      m2 = with_call (name i) guard its (Some map) m

      fresh : CallThere K V
      fresh = fresh_call (name i) guard its map m.events

      on : StaysWithin same name log m known s dues.history log m2 (scene_with map i u s)
      on = calls_begin_histories K V same hash name log m known s e is_at dues.history map i u its guard standing there begins apart called begun_for events

      found_now : (j : ℕ) (q : Bool) → is_same (name i) (name j) ≡ q → (d : CallThere K V) → call_of (name j) m2 ≡ Some d → cond q (Some fresh) (call_of (name j) m) ≡ Some d
      found_now j q same_name d d_is = sym (ap (λ z. cond z (Some fresh) (find (λ c. is_same c.caller (name j)) m.calls)) same_name) ∙ d_is

      is_fresh : (j : ℕ) → j ≡ i → (d : CallThere K V) → call_of (name j) m2 ≡ Some d → d ≡ fresh
      is_fresh j j_is d d_is = one_of d fresh (sym (found_now j true (ap (λ (k : ℕ). is_same (name i) (name k)) j_is ∙ is_same_refl (name i)) d d_is))

      owes : (n j : ℕ) (x : CallOnKey K V K) (d : CallThere K V) → call_of (name j) m2 ≡ Some d → (one : OneKey K V) → d.call ≡ On one → (st : Standing K) → s.maps n ≡ Some st
          → ((n ≡ map) × (j ≡ i) × (◌≡◌ {A = Option (UnderWay K V K)} (Some u) (Some (OnKey x)))) ⊎ ((n ≡ map → j ≡ i → ⊥) × (s.calls n j ≡ Some (OnKey x)))
          → HasPendingAnswer (dues.history.shown.number n) st.chart.stored one d x.change
      owes n j x d d_is one one_is st st_is (inl a) =
          subst (λ (y : Change). HasPendingAnswer (dues.history.shown.number n) st.chart.stored one d y) (sym (unchanged x (one_of u (OnKey x) a.2))) (ap (λ (y : CallThere K V). y.due) (is_fresh j a.1 d d_is))
      owes n j x d d_is one one_is st st_is (inr a) = dues.owes n j x a.1 st st_is d (found_now j false (apart n j (OnKey x) a.1) d d_is) one one_is

      taken : (n j : ℕ) (x : UnderWay K V K) (d : CallThere K V) → call_of (name j) m2 ≡ Some d → (one : OneKey K V) → d.call ≡ On one
          → ((n ≡ map) × (j ≡ i) × (◌≡◌ {A = Option (UnderWay K V K)} (Some u) (Some x))) ⊎ ((n ≡ map → j ≡ i → ⊥) × (s.calls n j ≡ Some x)) → AreTaken one d.replies
      taken n j x d d_is one one_is (inl a) = subst (AreTaken one) (ap (λ (y : CallThere K V). y.replies) (sym (is_fresh j a.1 d d_is))) (none_taken one)
      taken n j x d d_is one one_is (inr a) = dues.taken n j x a.1 d (found_now j false (apart n j x a.1) d d_is) one one_is

  pub calls_take_due : CallsTakeDue K V same hash
  calls_take_due name log m known s e is_at dues map i u here c c_is question c_asks standing there is_told next machine takes goes its_taken = record {
    history = on.0;
    owes = λ n j x is st st_is d d_is one one_is. subst (λ (f : ℕ → ℕ → ℕ). HasPendingAnswer (f n) st.chart.stored one d x.change) (sym on.1) (owes n j x d d_is one one_is st st_is (which s.calls map i (Some next) n j (OnKey x) is));
    taken = λ n j x is d d_is one one_is. taken n j x d d_is one one_is (which s.calls map i (Some next) n j x is);
  }
    where
      v : Moment K V
      v = told (name i) is_told m

      tells : CallThere K V → CallThere K V
      tells y = replied is_told y y.stands

      after : CallThere K V
      after = record c { stands = Told; replies = (question, is_told) ∷ c.replies }

      on : StaysWithin same name log m known s dues.history log v (scene_with map i next s)
      on = calls_take_histories K V same hash name log m known s e is_at dues.history map i u here c c_is question c_asks standing there is_told next machine takes goes

      own_then : (j : ℕ) → j ≡ i → (d : CallThere K V) → call_of (name j) v ≡ Some d → d ≡ after
      own_then j j_is d d_is =
          one_of d after (sym (ap (λ (k : ℕ). call_of (name k) v) (sym j_is) ∙ d_is) ∙ found tells (λ y. replied_same is_told y y.stands) (name i) (name i) m.calls c c_is
          ∙ ap Some (ap (λ q. if q then tells c else c) (ap (λ (l : List ℕ). is_same l (name i)) (caller_is (name i) m c c_is) ∙ is_same_refl (name i)) ∙ ap (replied is_told c) c_asks))

      other_then : (n j : ℕ) (x : UnderWay K V K) → (n ≡ map → j ≡ i → ⊥) → s.calls n j ≡ Some x → (d : CallThere K V) → call_of (name j) v ≡ Some d → call_of (name j) m ≡ Some d
      other_then n j x ne is d d_is =
          let was = dues.history.shown.calls n j x is in
          let now = found tells (λ y. replied_same is_told y y.stands) (name i) (name j) m.calls was.0 was.1 in
          was.1 ∙ ap Some (sym (ap (λ q. if q then tells was.0 else was.0) (ap (λ (l : List ℕ). is_same l (name i)) (caller_is (name j) m was.0 was.1) ∙ other_name n j x ne is (is_same (name j) (name i)) refl))
          ∙ sym (one_of d (if is_same was.0.caller (name i) then tells was.0 else was.0) (sym d_is ∙ now)))
        where
          other_name : (n j : ℕ) (x : UnderWay K V K) → (n ≡ map → j ≡ i → ⊥) → s.calls n j ≡ Some x → (q : Bool) → is_same (name j) (name i) ≡ q → is_same (name j) (name i) ≡ false
          other_name n j x ne is false same_name = same_name
          other_name n j x ne is true same_name = absurd (let both = dues.history.asked.apart n j map i x u is here same_name in ne both.0 both.1)

      owes : (n j : ℕ) (x : CallOnKey K V K) (d : CallThere K V) → call_of (name j) v ≡ Some d → (one : OneKey K V) → d.call ≡ On one → (st : Standing K) → s.maps n ≡ Some st
          → ((n ≡ map) × (j ≡ i) × (◌≡◌ {A = Option (UnderWay K V K)} (Some next) (Some (OnKey x)))) ⊎ ((n ≡ map → j ≡ i → ⊥) × (s.calls n j ≡ Some (OnKey x)))
          → HasPendingAnswer (dues.history.shown.number n) st.chart.stored one d x.change
      owes n j x d d_is one one_is st st_is (inl a) =
          let y = told_change same e.batch_size e.roots standing i u (reply_to_machine is_told) x (subst (RepliedOfKind V same same e.batch_size e.roots slot_of standing i u (reply_to_machine is_told)) (one_of next (OnKey x) a.2) goes) in
          let y_here : s.calls map i ≡ Some (OnKey y.0) = here ∙ ap Some y.1 in
          let d_after = own_then j a.1 d d_is in
          let c_one : c.call ≡ On one = ap (λ (z : CallThere K V). z.call) (sym d_after) ∙ one_is in
          let none = asks_unchanged same hash s e is_at map i standing there y.0 y_here in
          let asks = asks_at y.0 y_here one c_one in
          let unchanged : y.0.change ≡ Unchanged = none asks.0 asks.1 in
          subst (λ (z : Change). HasPendingAnswer (dues.history.shown.number n) st.chart.stored one d z) (sym (y.2 ∙ unchanged))
          (ap (λ (z : CallThere K V). z.due) d_after ∙ subst (λ (z : Change). HasPendingAnswer (dues.history.shown.number map) standing.chart.stored one c z) unchanged (dues.owes map i y.0 y_here standing there c c_is one c_one))
        where
          asks_at : (y : CallOnKey K V K) → s.calls map i ≡ Some (OnKey y) → (one : OneKey K V) → c.call ≡ On one → (it : AskingAt) × (y.call.stands ≡ at.Asks it)
          asks_at y y_here one c_one =
              let asked = subst (λ (z : Call K V). IsAskedAs (dues.history.shown.number map) standing.chart.stored known y z c) c_one (dues.history.asked.each map i (OnKey y) y_here standing there c c_is) in
              let it = asked.asks question c_asks in (it.0, it.1)
      owes n j x d d_is one one_is st st_is (inr a) = dues.owes n j x a.1 st st_is d (other_then n j (OnKey x) a.0 a.1 d d_is) one one_is

      taken : (n j : ℕ) (x : UnderWay K V K) (d : CallThere K V) → call_of (name j) v ≡ Some d → (one : OneKey K V) → d.call ≡ On one
          → ((n ≡ map) × (j ≡ i) × (◌≡◌ {A = Option (UnderWay K V K)} (Some next) (Some x))) ⊎ ((n ≡ map → j ≡ i → ⊥) × (s.calls n j ≡ Some x)) → AreTaken one d.replies
      taken n j x d d_is one one_is (inl a) =
          let d_after = own_then j a.1 d d_is in
          let c_one : c.call ≡ On one = ap (λ (z : CallThere K V). z.call) (sym d_after) ∙ one_is in
          subst (AreTaken one) (ap (λ (z : CallThere K V). z.replies) (sym d_after)) (more_taken one question is_told c.replies (its_taken one c_one) (dues.taken map i u here c c_is one c_one))
      taken n j x d d_is one one_is (inr a) = dues.taken n j x a.1 d (other_then n j x a.0 a.1 d d_is) one one_is

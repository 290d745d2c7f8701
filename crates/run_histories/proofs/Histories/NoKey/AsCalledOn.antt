-- Calls on no key are as the moment says before all events, and between the steps of calls: where one begins, is told a reply, or has come to an outcome.
use Rattle.std.specs.Prelude.{◌≡◌, ℕ, ◌+◌, nat_lt, Bool, true, false, ◌&&◌, cond, List, [], ◌∷◌, find, Option, Some, None, Ok, if◌then◌else◌, ◌⊎◌}
use Rattle.std.proofs.Common.{refl, ap, sym, subst, ◌∙◌, inl, inr}
use Rattle.std.proofs.lemmas.Bool.{eq-eqb}
use Rattle.run_places.specs.Given.SeizeWordsWord.{block_in}
use Rattle.run_places.specs.Given.RunsSame.{is_same}
use Rattle.run_places.specs.Given.SweepsSweepPoints.{removes, past, reply_at, after_reply}
use Rattle.run_places.specs.Given.ReservesDeclared.sweep.Sweep.{Sweep}
use Rattle.run_places.specs.Given.ReservesDeclared.sweep.Sweeping.{Sweeping}
use Rattle.run_places.specs.Given.ReservesDeclared.sweep.Sweeping.TheVariants as at
use Rattle.run_places.specs.Given.RawMachine.{machine_replied, sweep_with_reply, sweep_replied}
use Rattle.run_places.specs.Given.RawDeclared.machines.asking.MachineReply.{MachineReply}
use Rattle.run_places.specs.Given.RawDeclared.machines.asking.MachineReply.TheVariants as reply
use Rattle.run_places.specs.Given.RunsDeclared.call.Call.{Call}
use Rattle.run_places.specs.Given.RunsDeclared.call.Reply.{Reply}
use Rattle.run_places.specs.Given.RunsDeclared.call.Reply.TheVariants.{Gives, Removes, Aborts, Decides}
use Rattle.run_places.specs.Given.RunsDeclared.outcome.Outcome.{Outcome}
use Rattle.run_places.specs.Given.RunsDeclared.outcome.Outcome.TheVariants as outcome
use Rattle.run_places.specs.Given.SchedulesAfter.{asks_on, with_outcome, replied}
use Rattle.run_places.specs.Given.SchedulesBeginning.{fresh_call, with_call}
use Rattle.run_places.specs.Given.SchedulesMoment.{CallState, Going, Asking, Told, IsReady, UnderWay as CallThere, Moment}
use Rattle.run_places.specs.Given.SchedulesViews.{call_of, reply_to}
use Rattle.run_places.specs.Given.PointsSteps.{AreLawful}
use Rattle.run_places.specs.Given.LateCovers.{NamesPair as NamesIn}
use Rattle.run_places.specs.Given.CallersOverAll.{Verdict, CallOverAll, with_verdict}
use Rattle.run_places.specs.Given.CallersSights.{seen_by, IsVisibility}
use Rattle.run_places.specs.Given.CallersTogether.{UnderWay, OnKey, ForRoom, Counting, OverAll, Together}
use Rattle.run_places.specs.Given.EffectsKnown.{Known}
use Rattle.run_places.specs.Given.EffectsDeclared.role.Role.TheVariants as role
use Rattle.run_places.specs.Given.FinishesMachines.{machine_of, RepliedOfKind}
use Rattle.run_places.specs.Given.FinishesMaps.{Standing}
use Rattle.run_places.specs.Given.FollowsCalling.{told, come_to}
use Rattle.run_places.specs.Given.FollowsShows.{Refines}
use Rattle.run_places.proofs.Given.FollowsCalling.{is_same_refl, replied_same, come, begins_with, told_with, come_with}
use Rattle.run_places.proofs.Given.FollowsCalls.{found}
use Rattle.run_places.specs.Hands.Asked.{reply_to_machine}
use Rattle.run_places.proofs.Hands.Asking.{which}
use Rattle.run_places.proofs.Hands.Calling.{caller_is}
use Rattle.run_histories.specs.Histories.AsCalled.{purpose_of, SweepAsks, IsLastReply, IsSweptAs, IsAsCalled, RefinesAsCalled, IsBegunAs, AsksAsCalled, CallsBeginAsCalled, CallsComeToAsCalled, CallsTakeAsCalled}
use Rattle.run_histories.proofs.Histories.Calling.{came_so}
use Rattle.run_histories.proofs.Histories.DueOn.{comes_owed}
use Rattle.run_histories.proofs.Histories.Roles.{named_by}
use Rattle.run_places.specs.Given.ScenesHeld.{Held, IsAt}
use Rattle.run_places.specs.Given.ScenesReplying.{scene_with}
use Rattle.run_places.specs.Given.ScenesScene.{Scene, slot_of}
use Rattle.run_places.proofs.Given.General.{same_some as one_of}

-- where one begins

module _ {K V : Type 0} (number : ℕ → ℕ) (stored : ℕ) (known : Known) where
  fresh_as_called : (u : UnderWay K V K) (its : Call K V) (caller guard : List ℕ) (map events : ℕ) → IsBegunAs u its → IsAsCalled number stored known u (fresh_call caller guard its map events)
  fresh_as_called (OnKey u) its caller guard map events begun = tt
  fresh_as_called (ForRoom r) its caller guard map events begun = λ q stands. absurd (let no : Going ≡ Asking q = stands in cc no)
  fresh_as_called (Counting sum) its caller guard map events begun = λ q stands. absurd (let no : Going ≡ Asking q = stands in cc no)
  fresh_as_called (OverAll o) its caller guard map events begun = record {
    purpose = begun.0;
    last = subst (λ (v : Option Verdict). IsLastReply number stored {V = V} v []) (sym begun.1) tt;
    asks = λ q stands. absurd (let no : Going ≡ Asking q = stands in cc no);
  }

module _ (K V : Type 0) (same : K → K → Bool) where
  pub calls_begin_as_called : CallsBeginAsCalled K V same
  calls_begin_as_called name m known s all map i u its guard apart called begun = record {
    shown = b.0;
    each = λ n j x is st there c found. subst (λ (f : ℕ → ℕ → ℕ). IsAsCalled (f n) st.chart.stored known x c) (sym b.1) (one n j x st there c found (which s.calls map i (Some u) n j x is));
  }
    where
      m2 : Moment K V
      m2 = with_call (name i) guard its (Some map) m

      fresh : CallThere K V
      fresh = fresh_call (name i) guard its map m.events

      b : (after : Refines same name m2 known (scene_with map i u s)) × (after.number ≡ all.shown.number)
      b = begins_with same name m known s all.shown map i u its guard apart called

      found_now : (j : ℕ) (q : Bool) → is_same (name i) (name j) ≡ q → (c : CallThere K V) → call_of (name j) m2 ≡ Some c → cond q (Some fresh) (call_of (name j) m) ≡ Some c
      found_now j q named c c_is = sym (ap (λ z. cond z (Some fresh) (find (λ y. is_same y.caller (name j)) m.calls)) named) ∙ c_is

      one : (n j : ℕ) (x : UnderWay K V K) (st : Standing K) → s.maps n ≡ Some st → (c : CallThere K V) → call_of (name j) m2 ≡ Some c
          → ((n ≡ map) × (j ≡ i) × (◌≡◌ {A = Option (UnderWay K V K)} (Some u) (Some x))) ⊎ ((n ≡ map → j ≡ i → ⊥) × (s.calls n j ≡ Some x)) → IsAsCalled (all.shown.number n) st.chart.stored known x c
      one n j x st there c c_is (inl a) =
          let first = found_now j true (ap (λ (k : ℕ). is_same (name i) (name k)) a.1 ∙ is_same_refl (name i)) c c_is in
          subst (λ (y : UnderWay K V K). IsAsCalled (all.shown.number n) st.chart.stored known y c) (one_of u x a.2)
          (subst (λ (y : CallThere K V). IsAsCalled (all.shown.number n) st.chart.stored known u y) (one_of fresh c first)
          (fresh_as_called (all.shown.number n) st.chart.stored known u its (name i) guard map m.events begun))
      one n j x st there c c_is (inr a) = all.each n j x a.1 st there c (found_now j false (apart n j x a.1) c c_is)

-- where one comes to an outcome

module _ {K V : Type 0} where
  -- it asks what it asked, or what it is said to ask
  asked_or_said : (question q : Option ℕ) (c : CallThere K V) (stands : CallState) → c.stands ≡ stands → (asks_on question c stands).stands ≡ Asking q
      → (c.stands ≡ Asking q) ⊎ (◌≡◌ {A = Outcome V} (outcome.Asks question) (outcome.Asks q))
  asked_or_said question q c (Asking p) is e = inl e
  asked_or_said question q c Going is e = inr (let same_one : Asking question ≡ Asking q = e in let its : question ≡ q = cc same_one in ap outcome.Asks its)
  asked_or_said question q c Told is e = inr (let same_one : Asking question ≡ Asking q = e in let its : question ≡ q = cc same_one in ap outcome.Asks its)
  asked_or_said question q c IsReady is e = inr (let same_one : Asking question ≡ Asking q = e in let its : question ≡ q = cc same_one in ap outcome.Asks its)

  comes_asking : (o : Outcome V) (q : Option ℕ) (c : CallThere K V) → (with_outcome o c).stands ≡ Asking q → (c.stands ≡ Asking q) ⊎ (o ≡ outcome.Asks q)
  comes_asking outcome.Done q c e = inl e
  comes_asking (outcome.Slot n) q c e = inl e
  comes_asking outcome.Goes q c e = absurd (let no : Going ≡ Asking q = e in cc no)
  comes_asking (outcome.Asks question) q c e = asked_or_said question q c c.stands refl e
  comes_asking outcome.Waits q c e = absurd (let no : Going ≡ Asking q = e in cc no)
  comes_asking outcome.Ready q c e = absurd (let no : IsReady ≡ Asking q = e in cc no)
  comes_asking (outcome.Shows n) q c e = inl e
  comes_asking (outcome.Answered a) q c e = inl e
  comes_asking (outcome.Shape tables) q c e = inl e
  comes_asking (outcome.Refused fault) q c e = inl e

module _ {K V : Type 0} (number : ℕ → ℕ) (stored : ℕ) (known : Known) (o : Outcome V) (steps : ℕ) (c : CallThere K V) where
  comes_quiet : (x : UnderWay K V K) → ((q : Option ℕ) → AsksAsCalled known x (outcome.Asks q) → ⊥) → AsksAsCalled known x o → ((q : Option ℕ) → c.stands ≡ Asking q → ⊥)
      → (q : Option ℕ) → (come o steps c).stands ≡ Asking q → ⊥
  comes_quiet x never just h q e = elim (comes_asking o q (record c { steps = c.steps + steps }) e) as (λ _. ⊥) [
    | inl was ↦ h q was
    | inr asks ↦ never q (subst (AsksAsCalled known x) asks just)
  ]

  pub comes_as_called : (x : UnderWay K V K) → AsksAsCalled known x o → IsAsCalled number stored known x c → IsAsCalled number stored known x (come o steps c)
  comes_as_called (OnKey u) just h = tt
  comes_as_called (ForRoom r) just h = comes_quiet (ForRoom r) (λ q asks. asks) just h
  comes_as_called (Counting sum) just h = comes_quiet (Counting sum) (λ q asks. asks) just h
  comes_as_called (OverAll v) just h =
      let kept = comes_owed o (record c { steps = c.steps + steps }) in
      record {
        purpose = ap purpose_of kept.2 ∙ h.purpose;
        last = subst (λ (r : List (Option ℕ × Reply V)). IsLastReply number stored v.told r) (sym kept.1) h.last;
        asks = λ q e. elim (comes_asking o q (record c { steps = c.steps + steps }) e) as (λ _. SweepAsks known v.sweep.stands q) [
          | inl was ↦ h.asks q was
          | inr asks ↦ subst (λ (y : Outcome V). AsksAsCalled {K = K} known (OverAll v) y) asks just
        ];
      }

module _ (K V : Type 0) (same : K → K → Bool) where
  pub calls_come_to_as_called : CallsComeToAsCalled K V same
  calls_come_to_as_called name m known s all own o steps ended just = record {
    shown = b.0;
    each = λ n j x is st there d found. subst (λ (f : ℕ → ℕ → ℕ). IsAsCalled (f n) st.chart.stored known x d) (sym b.1)
        (let was = all.shown.calls n j x is in one n j x is st was.0 (all.each n j x is st there was.0 was.1) d (came_so same name m s own o steps ended n j x is was.0 was.1 d found));
  }
    where
      b : (after : Refines same name (come_to own o steps m) known s) × (after.number ≡ all.shown.number)
      b = come_with same name m known s all.shown own o steps ended

      one : (n j : ℕ) (x : UnderWay K V K) → s.calls n j ≡ Some x → (st : Standing K) (c : CallThere K V) → IsAsCalled (all.shown.number n) st.chart.stored known x c → (d : CallThere K V)
          → (d ≡ c) ⊎ ((d ≡ come o steps c) × (is_same (name j) own ≡ true)) → IsAsCalled (all.shown.number n) st.chart.stored known x d
      one n j x is st c h d (inl e) = subst (IsAsCalled (all.shown.number n) st.chart.stored known x) (sym e) h
      one n j x is st c h d (inr (e, named)) =
          subst (IsAsCalled (all.shown.number n) st.chart.stored known x) (sym e) (comes_as_called (all.shown.number n) st.chart.stored known o steps c x (just n j x is named) h)

-- where one is told a reply

module _ {V : Type 0} where
  yes_is : (r : Reply V) → reply_to_machine r ≡ reply.Yes → r ≡ Decides true
  yes_is (Gives v) e = absurd (cc e)
  yes_is Removes e = absurd (cc e)
  yes_is (Aborts w) e = absurd (cc e)
  yes_is (Decides true) e = refl
  yes_is (Decides false) e = absurd (cc e)

  no_is : (r : Reply V) → reply_to_machine r ≡ reply.No → r ≡ Decides false
  no_is (Gives v) e = absurd (cc e)
  no_is Removes e = absurd (cc e)
  no_is (Aborts w) e = absurd (cc e)
  no_is (Decides true) e = absurd (cc e)
  no_is (Decides false) e = refl

  -- the last reply about a pair is the one that has come just now
  reply_first : (q : ℕ) (r : Reply V) (replies : List (Option ℕ × Reply V)) → reply_to (Some q) ((Some q, r) ∷ replies) ≡ Some r
  reply_first q r replies = ap (λ (z : Bool). if z then Some r else reply_to (Some q) replies) (eq-eqb q q refl)

-- a sweep that is told whether to keep a pair asks no more
module _ (p : Sweep) (word : ℕ) (stands : p.stands ≡ at.Asks word) where
  not_asks : (a b : Bool) → (if a then at.Words else (if b then at.Follows else at.Over)) ≡ at.Asks word → ⊥
  not_asks true b e = absurd (cc e)
  not_asks false true e = absurd (cc e)
  not_asks false false e = absurd (cc e)

  at_reply : (keeps : Bool) → (reply_at (at.Asks word) p keeps).stands ≡ at.Asks word → ⊥
  at_reply true e = not_asks (nat_lt (past p).place p.table.len) (removes p.purpose && p.met) e
  at_reply false e = absurd (let no : at.Tries word ≡ at.Asks word = e in cc no)

  leaves : (keeps : Bool) → (after_reply p keeps).stands ≡ at.Asks word → ⊥
  leaves keeps e = at_reply keeps (subst (λ (z : Sweeping). (reply_at z p keeps).stands ≡ at.Asks word) stands e)

  taken_leaves : {V : Type 0} (r : MachineReply V) → (sweep_replied p r).1 ≡ Ok tt → (sweep_replied p r).0 ≡ p → ⊥
  taken_leaves {V} r ok same =
      by r (subst (λ (z : Sweeping). (sweep_with_reply z p r).1 ≡ Ok tt) stands ok) (subst (λ (z : Sweeping). (sweep_with_reply z p r).0.stands ≡ at.Asks word) stands (ap (λ (q : Sweep). q.stands) same ∙ stands))
    where
      by : (r : MachineReply V) → (sweep_with_reply (at.Asks word) p r).1 ≡ Ok tt → (sweep_with_reply (at.Asks word) p r).0.stands ≡ at.Asks word → ⊥
      by reply.Yes ok e = leaves true e
      by reply.No ok e = leaves false e
      by (reply.Insert v) ok e = absurd (cc ok)
      by reply.Remove ok e = absurd (cc ok)
      by reply.Abort ok e = absurd (cc ok)

-- and keeps its purpose
told_purpose : (p : Sweep) (stands : Sweeping) (keeps : Bool) → (reply_at stands p keeps).purpose ≡ p.purpose
told_purpose p (at.Asks word) true = refl
told_purpose p (at.Asks word) false = refl
told_purpose p _ keeps = refl

module _ {K V : Type 0} (same : K → K → Bool) (hash : ℕ → K → ℕ) (name : ℕ → List ℕ) (m : Moment K V) (known : Known) (s : Scene K V) (e : Held K V) (at_e : IsAt same hash e s)
    (all : RefinesAsCalled same name m known s) (map i : ℕ) (st : Standing K) (there : s.maps map ≡ Some st) (c : CallThere K V) (c_is : call_of (name i) m ≡ Some c)
    (question : Option ℕ) (c_asks : c.stands ≡ Asking question) (is_told : Reply V) where
  abbrev number : ℕ → ℕ
  number = all.shown.number map

  abbrev stored : ℕ
  stored = st.chart.stored

  abbrev after : CallThere K V
  after = record c { stands = Told; replies = (question, is_told) ∷ c.replies }

  no_more : (q : Option ℕ) → after.stands ≡ Asking q → ⊥
  no_more q e = absurd (let no : Told ≡ Asking q = e in cc no)

  module _ (o : CallOverAll) (here : s.calls map i ≡ Some (OverAll o)) where
    h : IsSweptAs number stored known o c
    h = all.each map i (OverAll o) here st there c c_is

    -- its question is about the pair that it was told about
    about : (word n : ℕ) → o.sweep.stands ≡ at.Asks word → NamesIn st.hash st.chart (seen_by st.blocks (st.sights (slot_of i))) word n → (q : Option ℕ) → SweepAsks known o.sweep.stands q → q ≡ Some (number n)
    about word n stands names None asks = absurd asks.2
    about word n stands (l, seen, phase, borrowed, word_is) (Some q) asks =
        let same_word : asks.0 ≡ word = (let same_at : at.Asks asks.0 ≡ at.Asks word = sym asks.1 ∙ stands in cc same_at) in
        let each : Together V same st.hash same st.setting slot_of s.world st.chart st.blocks st.sights (s.calls map) = at_e.together.makings.standing.each map st there in
        let sight : IsVisibility st.chart st.blocks (st.sights (slot_of i)) = (each.ground.sight (slot_of i) (each.inside i (OverAll o) here)).0 in
        let lawful : AreLawful same st.hash = (at_e.together.makings.standing.fit map st there).0 in
        let names_it = named_by same st.hash lawful st.chart (seen_by st.blocks (st.sights (slot_of i))) word n phase borrowed word_is in
        let its_role = (all.shown.maps map st there).pairs.roles n l (sight.pairs n l seen) in
        let same_role : role.Pair q ≡ role.Pair (number n) = sym asks.2 ∙ ap (λ (z : ℕ). known.roles (block_in z)) same_word ∙ ap known.roles names_it ∙ its_role in
        ap Some (cc same_role)

    swept_told : (word n : ℕ) → o.sweep.stands ≡ at.Asks word → NamesIn st.hash st.chart (seen_by st.blocks (st.sights (slot_of i))) word n → (keeps : Bool) → is_told ≡ Decides keeps
        → IsSweptAs number stored known (with_verdict o n keeps) after
    swept_told word n stands names keeps told_is = record {
      purpose = h.purpose ∙ ap Some (sym (told_purpose o.sweep o.sweep.stands keeps));
      last = (
        names.0,
        ap (λ (q : Option ℕ). reply_to (Some (number n)) ((q, is_told) ∷ c.replies)) (about word n stands names question (h.asks question c_asks)) ∙ reply_first (number n) is_told c.replies ∙ ap Some told_is,
      );
      asks = λ q asks. absurd (no_more q asks);
    }

  pub own_told_as : (u next : UnderWay K V K) → s.calls map i ≡ Some u → machine_of next ≡ (machine_replied (machine_of u) (reply_to_machine is_told)).0 → (machine_replied (machine_of u) (reply_to_machine is_told)).1 ≡ Ok tt
      → RepliedOfKind V same same e.batch_size e.roots slot_of st i u (reply_to_machine is_told) next → IsAsCalled number stored known next after
  own_told_as (OnKey u) next here machine taken (inl (asks_at, about_it, stands, asks, is)) = subst (λ (x : UnderWay K V K). IsAsCalled number stored known x after) (sym is) tt
  own_told_as (OnKey u) next here machine taken (inr is) = subst (λ (x : UnderWay K V K). IsAsCalled number stored known x after) (sym is) tt
  own_told_as (ForRoom r) next here machine taken is = subst (λ (x : UnderWay K V K). IsAsCalled number stored known x after) (sym is) no_more
  own_told_as (Counting sum) next here machine taken is = subst (λ (x : UnderWay K V K). IsAsCalled number stored known x after) (sym is) no_more
  own_told_as (OverAll o) next here machine taken (inl (word, n, stands, names, inl (agrees, is))) =
      subst (λ (x : UnderWay K V K). IsAsCalled number stored known x after) (sym is) (swept_told o here word n stands names true (yes_is is_told agrees))
  own_told_as (OverAll o) next here machine taken (inl (word, n, stands, names, inr (denies, is))) =
      subst (λ (x : UnderWay K V K). IsAsCalled number stored known x after) (sym is) (swept_told o here word n stands names false (no_is is_told denies))
  own_told_as (OverAll o) next here machine taken (inr is) =
      let asks = (h o here).asks question c_asks in
      let same_sweep : (sweep_replied o.sweep (reply_to_machine is_told)).0 ≡ o.sweep = (let one = sym machine ∙ ap machine_of is in cc one) in
      absurd (taken_leaves o.sweep asks.0 asks.1 (reply_to_machine is_told) taken same_sweep)

module _ (K V : Type 0) (same : K → K → Bool) (hash : ℕ → K → ℕ) where
  pub calls_take_as_called : CallsTakeAsCalled K V same hash
  calls_take_as_called name m known s e at_e whole all map i u here c c_is question c_asks st there is_told next machine taken goes = record {
    shown = b.0;
    each = λ n j x is st2 st_is d d_is. subst (λ (f : ℕ → ℕ → ℕ). IsAsCalled (f n) st2.chart.stored known x d) (sym b.1) (one n j x st2 st_is d d_is (which s.calls map i (Some next) n j x is));
  }
    where
      v : Moment K V
      v = told (name i) is_told m

      tells : CallThere K V → CallThere K V
      tells y = replied is_told y y.stands

      then_call : CallThere K V
      then_call = record c { stands = Told; replies = (question, is_told) ∷ c.replies }

      b : (then_shown : Refines same name v known (scene_with map i next s)) × (then_shown.number ≡ all.shown.number)
      b = told_with same name m known s all.shown map i u here e.batch_size e.roots st (reply_to_machine is_told) next goes is_told

      own_found : call_of (name i) v ≡ Some then_call
      own_found = found tells (λ y. replied_same is_told y y.stands) (name i) (name i) m.calls c c_is
          ∙ ap Some (ap (λ q. if q then tells c else c) (ap (λ (l : List ℕ). is_same l (name i)) (caller_is (name i) m c c_is) ∙ is_same_refl (name i)) ∙ ap (replied is_told c) c_asks)

      other_found : (n j : ℕ) (x : UnderWay K V K) → (n ≡ map → j ≡ i → ⊥) → s.calls n j ≡ Some x → (d : CallThere K V) → call_of (name j) v ≡ Some d → call_of (name j) m ≡ Some d
      other_found n j x ne is d d_is =
          let was = all.shown.calls n j x is in
          let now = found tells (λ y. replied_same is_told y y.stands) (name i) (name j) m.calls was.0 was.1 in
          was.1 ∙ ap Some (sym (ap (λ q. if q then tells was.0 else was.0) (ap (λ (l : List ℕ). is_same l (name i)) (caller_is (name j) m was.0 was.1) ∙ other_name (is_same (name j) (name i)) refl))
          ∙ sym (one_of d (if is_same was.0.caller (name i) then tells was.0 else was.0) (sym d_is ∙ now)))
        where
          other_name : (q : Bool) → is_same (name j) (name i) ≡ q → is_same (name j) (name i) ≡ false
          other_name false same_name = same_name
          other_name true same_name = absurd (let both = whole.all.asked.apart n j map i x u is here same_name in ne both.0 both.1)

      one : (n j : ℕ) (x : UnderWay K V K) (st2 : Standing K) → s.maps n ≡ Some st2 → (d : CallThere K V) → call_of (name j) v ≡ Some d
          → ((n ≡ map) × (j ≡ i) × (◌≡◌ {A = Option (UnderWay K V K)} (Some next) (Some x))) ⊎ ((n ≡ map → j ≡ i → ⊥) × (s.calls n j ≡ Some x)) → IsAsCalled (all.shown.number n) st2.chart.stored known x d
      one n j x st2 st_is d d_is (inl a) =
          subst (λ (k : ℕ). IsAsCalled (all.shown.number k) st2.chart.stored known x d) (sym a.0)
          (subst (λ (y : UnderWay K V K). IsAsCalled (all.shown.number map) st2.chart.stored known y d) (one_of next x a.2)
          (subst (λ (y : Standing K). IsAsCalled (all.shown.number map) y.chart.stored known next d) (one_of st st2 (sym there ∙ ap s.maps (sym a.0) ∙ st_is))
          (subst (λ (y : CallThere K V). IsAsCalled (all.shown.number map) st.chart.stored known next y) (one_of then_call d (sym own_found ∙ ap (λ (k : ℕ). call_of (name k) v) (sym a.1) ∙ d_is))
          (own_told_as same hash name m known s e at_e all map i st there c c_is question c_asks is_told u next here machine taken goes))))
      one n j x st2 st_is d d_is (inr a) = all.each n j x a.1 st2 st_is d (other_found n j x a.0 a.1 d d_is)

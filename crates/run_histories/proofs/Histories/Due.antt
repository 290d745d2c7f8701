-- What a call on one key owes as an answer is what it means by the change that it has made, after each step of a call, whoever's.
use Rattle.std.specs.Prelude.{◌≡◌, ℕ, ◌+◌, ◌<◌, ◌≤◌, Bool, true, List, [], ◌∷◌, length, flat_map, Option, Some, None}
use Rattle.std.proofs.Common.{refl, ap, sym, subst, ◌∙◌, arith, inl, inr}
use Rattle.std.proofs.lemmas.Bool.{cases_lt, eq-eqb}
use Rattle.run_places.specs.Given.TablesChunks.{is_incremental}
use Rattle.run_places.specs.Given.TablesDeclared.node.Node.{Node}
use Rattle.run_places.specs.Given.RawDeclared.machines.progress.Progress.{Progress}
use Rattle.run_places.specs.Given.RunsSame.{is_same}
use Rattle.run_places.specs.Given.RunsDeclared.call.Response.{Response}
use Rattle.run_places.specs.Given.RunsDeclared.call.Call.{Call}
use Rattle.run_places.specs.Given.RunsDeclared.call.Call.TheVariants.{On}
use Rattle.run_places.specs.Given.RunsDeclared.call.OneKey.{OneKey}
use Rattle.run_places.specs.Given.RunsDeclared.call.Reply.{Reply}
use Rattle.run_places.specs.Given.RunsDeclared.effect.Effect.{Effect}
use Rattle.run_places.specs.Given.RunsDeclared.effect.Effect.TheVariants as effect
use Rattle.run_places.specs.Given.RunsDeclared.effect.Spot.{Spot}
use Rattle.run_places.specs.Given.SchedulesEffects.{due_for, call_by, with_effect, with_effects}
use Rattle.run_places.specs.Given.SchedulesLinearizable.{shift_of}
use Rattle.run_places.specs.Given.SchedulesMoment.{InMap, UnderWay as CallThere, Moment}
use Rattle.run_places.specs.Given.SchedulesSequential.{Meaning, Answers, Deed, Puts, Takes, means, answer_due}
use Rattle.run_places.specs.Given.SchedulesViews.{is_in_map, call_of, reply_to}
use Rattle.run_places.specs.Given.RuleChart.{Chart}
use Rattle.run_places.specs.Given.PointsFactsCalls.{Change, Unchanged, Stored, Replaced, Removed}
use Rattle.run_places.specs.Given.CallersTogether.{CallOnKey, UnderWay, OnKey, ForRoom, Counting, OverAll, change_observed}
use Rattle.run_places.specs.Given.FinishesMaps.{Standing}
use Rattle.run_places.specs.Given.EffectsEffects.{effects_of}
use Rattle.run_places.specs.Given.EffectsKnown.{Known}
use Rattle.run_places.specs.Given.EffectsDeclared.acting.Acting.TheVariants as acts
use Rattle.run_places.specs.Given.FollowsMaps.{RefinesPairs}
use Rattle.run_places.specs.Given.FollowsShows.{Refines}
use Rattle.run_places.proofs.Given.FollowsCalled.{room_goes_on, counting_goes_on, sweep_goes_on, key_goes_on}
use Rattle.run_places.proofs.Given.FollowsSteps.{WentTo, DidSo, LeadsThere}
use Rattle.run_places.proofs.Hands.Asking.{which}
use Rattle.run_places.proofs.Hands.Calling.{caller_is}
use Rattle.run_places.proofs.Hands.Replacing.{calls_after}
use Rattle.run_places.specs.Moments.Whole.{RefinesWhole}
use Rattle.run_places.specs.Given.CallersPairs.{kind_of}
use Rattle.run_places.specs.Given.FollowsSteps.{named_now, HasToStore, TakesNone}
use Rattle.run_places.proofs.Given.FollowsAlike.{put_here}
use Rattle.run_places.specs.Hands.Asked.{IsAskedOn}
use Rattle.run_places.proofs.Hands.Puts.{MayDo}
use Rattle.run_places.proofs.Hands.RowSteps.{rows_hand_theirs}
use Rattle.run_places.proofs.Hands.Steps.{calls_store_theirs}
use Rattle.run_places.proofs.Spots.Shifts.{Shifts}
use Rattle.run_places.specs.Changes.Changes.{AreTaken}
use Rattle.run_places.proofs.Changes.Changes.{acted_on, Stores, has_to, replacing, there, asked_on, takes_now, Did, ToldOnce, told_once, none_by, its_shifts, its_done, by_row, DidSoHere, NoRow}
use Rattle.run_places.proofs.Changes.Meanings.{ToRemove}
use Rattle.run_places.proofs.Changes.Which.{DidOnce, DidNone, DidStore, DidReplace, DidRemove, did_once}
use Rattle.run_histories.specs.Histories.Due.{HasPendingAnswer, RefinesPendingAnswers, CallsPreservePendingAnswers}
use Rattle.run_places.specs.Changes.Kept.{ChangesFirst}
use Rattle.run_places.proofs.Changes.Dues.{effects_due}
use Rattle.run_places.proofs.Changes.Later.{IsLater}
use Rattle.run_places.proofs.Changes.Steps.{to, led_on, v, s2, after, maps_later, moved_chart, was_under_way, step_history}
use Rattle.run_places.specs.Given.ScenesHeld.{Held, IsAt}
use Rattle.run_places.specs.Given.ScenesScene.{Scene, slot_of}
use Rattle.run_places.specs.Given.ScenesStepping.{StepLeads}
use Rattle.run_places.specs.Given.SchedulesTransition.{Past}
use Rattle.run_places.proofs.Given.General.{same_some as one_of}

module _ {K V : Type 0} (number number2 : ℕ → ℕ) (stored stored2 : ℕ) (numbers : (n : ℕ) → n < stored → number2 n ≡ number n) (more : stored ≤ stored2) (one : OneKey K V) (c d : CallThere K V)
    (due_is : d.due ≡ c.due) (replies_are : d.replies ≡ c.replies) where
  abbrev Said : Option ℕ → ℕ → List (Option ℕ × Reply V) → Meaning V → Type 0
  Said o n replies meaning = means one (reply_to o replies) o n ≡ meaning

  said_on : (o p : Option ℕ) (n q : ℕ) (meaning : Meaning V) → p ≡ o → q ≡ n → Said o n c.replies meaning → Said p q d.replies meaning
  said_on o p n q meaning same_one same_new said =
      ap (λ (z : Option ℕ). means one (reply_to z d.replies) z q) same_one
      ∙ ap (λ (z : ℕ). means one (reply_to o d.replies) o z) same_new
      ∙ ap (λ (z : List (Option ℕ × Reply V)). means one (reply_to o z) o n) replies_are ∙ said

  -- what is owed is owed on
  pub owes_on : (change : Change) → HasPendingAnswer number stored one c change → HasPendingAnswer number2 stored2 one d change
  owes_on Unchanged h = due_is ∙ h
  owes_on (Stored n) (l, a, v, said, due) = (omega (arith, l, more), a, v, said_on None None (number n) (number2 n) (Answers a (Puts v)) refl (numbers n l) said, due_is ∙ due)
  owes_on (Replaced o n) (l, l2, a, v, said, due) = (
    omega (arith, l, more),
    omega (arith, l2, more),
    a,
    v,
    said_on (Some (number o)) (Some (number2 o)) (number n) (number2 n) (Answers a (Puts v)) (ap Some (numbers o l)) (numbers n l2) said,
    due_is ∙ due,
  )
  owes_on (Removed o) (l, a, new, said, due) =
      (omega (arith, l, more), a, new, said_on (Some (number o)) (Some (number2 o)) new new (Answers a Takes) (ap Some (numbers o l)) refl said, due_is ∙ due)

-- of what a call means, what it owes
due_of : {V : Type 0} (meaning : Meaning V) (a : Response V) (d : Deed V) → meaning ≡ Answers a d → answer_due meaning ≡ Some a
due_of meaning a d is = ap (λ (z : Meaning _). answer_due z) is

due_when : {K V : Type 0} (its : Call K V) (c : CallThere K V) (one : OneKey K V) (old : Option ℕ) (new : ℕ) → its ≡ On one → (due_for its c old new).due ≡ answer_due (means one (reply_to old c.replies) old new)
due_when its c one old new is = ap (λ (z : Call _ _). (due_for z c old new).due) is

pub same_change : {K V : Type 0} (x y : CallOnKey K V K) → ◌≡◌ {A = UnderWay K V K} (OnKey x) (OnKey y) → x.change ≡ y.change
same_change x y e = let one : x ≡ y = cc e in ap (λ (z : CallOnKey _ _ _). z.change) one

module _ {K V : Type 0} (same : K → K → Bool) (hash : ℕ → K → ℕ) (name : ℕ → List ℕ) (log : Past K V) (m : Moment K V) (known : Known) (s : Scene K V) (old new : Held K V)
    (at : IsAt same hash old s) (whole : RefinesWhole same name m known s) (dues : RefinesPendingAnswers same name log m known s) (map i : ℕ) (u : UnderWay K V K) (here : s.calls map i ≡ Some u)
    (said : Progress (Node K V)) (leads : StepLeads same hash i said s old new) where
  abbrev shown : Refines same name m known s
  shown = dues.history.shown

  abbrev went : WentTo same hash name m known s old new at shown map i u here said leads
  went = to same hash name m known s old new at whole shown map i u here said leads

  abbrev on : LeadsThere same hash name m known s old new at shown map i u here said leads
  on = led_on same hash name m known s old new at whole shown map i u here said leads

  abbrev effects : List Effect
  effects = effects_of (acts.Call i map) known new.changed

  abbrev v2 : Moment K V
  v2 = v same hash name m known s old new at whole shown map i u here said leads

  abbrev scene2 : Scene K V
  scene2 = s2 same hash name m known s old new at whole shown map i u here said leads

  abbrev number2 : ℕ → ℕ → ℕ
  number2 = on.shows.number

  -- a call that is there then was there, with the replies that it got
  pub was_there : (j : ℕ) (c d : CallThere K V) → call_of (name j) m ≡ Some c → call_of (name j) v2 ≡ Some d → (d.call ≡ c.call) × (d.replies ≡ c.replies)
  was_there j c d c_is d_is =
      let now = calls_after (name i) map (name j) effects m c c_is in
      let one : d ≡ now.0 = one_of d now.0 (sym d_is ∙ now.1) in
      (ap (λ (z : CallThere K V). z.call) one ∙ now.2.0.call, ap (λ (z : CallThere K V). z.replies) one ∙ now.2.0.replies)

  due_kept : (j : ℕ) (c d : CallThere K V) → call_of (name j) m ≡ Some c → call_of (name j) v2 ≡ Some d → (is_same c.caller (name i) ≡ true → flat_map shift_of effects ≡ []) → d.due ≡ c.due
  due_kept j c d c_is d_is none =
      let now = effects_due (name i) map (name j) effects m c c_is none in ap (λ (z : CallThere K V). z.due) (one_of d now.0 (sym d_is ∙ now.1)) ∙ now.2

  -- of another call nothing has changed
  other : (n j : ℕ) (x : CallOnKey K V K) → (n ≡ map → j ≡ i → ⊥) → s.calls n j ≡ Some (OnKey x) → (st2 : Standing K) → went.4.maps2 n ≡ Some st2 → (d : CallThere K V) → call_of (name j) v2 ≡ Some d
      → (one : OneKey K V) → d.call ≡ On one → HasPendingAnswer (number2 n) st2.chart.stored one d x.change
  other n j x apart is st2 there d found one one_is =
      let c = shown.calls n j (OnKey x) is in
      let before = maps_later same hash name m known s old new at whole shown map i u here said leads n st2 there in
      let was = was_there j c.0 d c.1 found in
      owes_on (shown.number n) (number2 n) before.0.chart.stored st2.chart.stored (on.numbers n before.0 before.1) before.2.stored one c.0 d
      (due_kept j c.0 d c.1 found (λ e. absurd (let both = dues.history.asked.apart n j map i (OnKey x) u is here (ap (λ (l : List ℕ). is_same l (name i)) (sym (caller_is (name j) m c.0 c.1)) ∙ e) in apart both.0 both.1)))
      was.1 x.change (dues.owes n j x is before.0 before.1 c.0 c.1 one (sym was.0 ∙ one_is))

  -- the call itself, where its effects shift no pair
  pub kept : (z : CallOnKey K V K) → s.calls map i ≡ Some (OnKey z) → (st2 : Standing K) → went.4.maps2 map ≡ Some st2 → flat_map shift_of effects ≡ [] → (d : CallThere K V) → call_of (name i) v2 ≡ Some d
      → (one : OneKey K V) → d.call ≡ On one → HasPendingAnswer (number2 map) st2.chart.stored one d z.change
  kept z is st2 there none d found one one_is =
      let c = shown.calls map i (OnKey z) is in
      let before = maps_later same hash name m known s old new at whole shown map i u here said leads map st2 there in
      let was = was_there i c.0 d c.1 found in
      owes_on (shown.number map) (number2 map) before.0.chart.stored st2.chart.stored (on.numbers map before.0 before.1) before.2.stored one c.0 d
      (due_kept i c.0 d c.1 found (λ e. none)) was.1 z.change (dues.owes map i z is before.0 before.1 c.0 c.1 one (sym was.0 ∙ one_is))

  abbrev pub Own : Type 0
  Own =
      (x : CallOnKey K V K) → went.4.next ≡ Some (OnKey x) → (st2 : Standing K) → went.4.maps2 map ≡ Some st2 → (d : CallThere K V) → call_of (name i) v2 ≡ Some d → (one : OneKey K V) → d.call ≡ On one
      → HasPendingAnswer (number2 map) st2.chart.stored one d x.change

  -- so it is for all, where it is for the call itself
  module _ (own : Own) (changes : ChangesFirst log m same map v2) where
    owes_then : (n j : ℕ) (x : CallOnKey K V K) → scene2.calls n j ≡ Some (OnKey x) → (st2 : Standing K) → went.4.maps2 n ≡ Some st2 → (d : CallThere K V) → call_of (name j) v2 ≡ Some d
        → (one : OneKey K V) → d.call ≡ On one → HasPendingAnswer (number2 n) st2.chart.stored one d x.change
    owes_then n j x is st2 there d found one one_is = elim (which s.calls map i went.4.next n j (OnKey x) is) as (λ _. HasPendingAnswer (number2 n) st2.chart.stored one d x.change) [
      | inl its ↦
          subst (λ (z : ℕ). HasPendingAnswer (number2 z) st2.chart.stored one d x.change) (sym its.0)
          (own x its.2 st2 (ap went.4.maps2 (sym its.0) ∙ there) d (ap (λ (z : ℕ). call_of (name z) v2) (sym its.1) ∙ found) one one_is)
      | inr was ↦ other n j x was.0 was.1 st2 there d found one one_is
    ]

    taken_then : (n j : ℕ) (x : UnderWay K V K) → scene2.calls n j ≡ Some x → (d : CallThere K V) → call_of (name j) v2 ≡ Some d → (one : OneKey K V) → d.call ≡ On one → AreTaken one d.replies
    taken_then n j x is d found one one_is =
        let under_way = was_under_way same hash name m known s old new at whole shown map i u here said leads n j x is in
        let c = shown.calls n j under_way.0 under_way.1 in
        let was = was_there j c.0 d c.1 found in
        subst (AreTaken one) (sym was.1) (dues.taken n j under_way.0 under_way.1 c.0 c.1 one (sym was.0 ∙ one_is))

    pub dues_then : RefinesPendingAnswers same name log v2 (after same hash name m known s old new at whole shown map i u here said leads) scene2
    dues_then = record {
      history = step_history same hash name log m known s old new at whole dues.history map i u here said leads changes;
      owes = owes_then;
      taken = taken_then;
    }

  abbrev pub DidIt : UnderWay K V K → Type 0
  DidIt y = DidSo same hash name m known s old new at shown map i u here said leads y

  -- a call of another kind goes on as one of another kind
  pub no_key : (y : UnderWay K V K) → ((z : CallOnKey K V K) → y ≡ OnKey z → ⊥) → DidIt y → (x : CallOnKey K V K) → went.4.next ≡ Some (OnKey x) → ⊥
  no_key (OnKey z) none did x e = none z refl
  no_key (ForRoom r) none (p2, end, machine_is, told_is, inl (step, moved)) x e = cc (room_goes_on _ end (OnKey x) (sym moved.2 ∙ e))
  no_key (ForRoom r) none (p2, end, machine_is, told_is, inr (row, stayed)) x e = cc (room_goes_on _ end (OnKey x) (sym stayed.2 ∙ e))
  no_key (Counting sum) none (sum2, end, machine_is, told_is, still, stayed) x e = cc (counting_goes_on sum2 end (OnKey x) (sym stayed.2 ∙ e))
  no_key (OverAll o) none (p2, end, machine_is, told_is, inl (step, moved)) x e = cc (sweep_goes_on _ end (OnKey x) (sym moved.2 ∙ e))
  no_key (OverAll o) none (p2, end, machine_is, told_is, inr (row, stayed)) x e = cc (sweep_goes_on _ end (OnKey x) (sym stayed.2 ∙ e))

-- a call on one key
module _ {K V : Type 0} (same : K → K → Bool) (hash : ℕ → K → ℕ) (name : ℕ → List ℕ) (log : Past K V) (m : Moment K V) (known : Known) (s : Scene K V) (old new : Held K V)
    (at : IsAt same hash old s) (whole : RefinesWhole same name m known s) (dues : RefinesPendingAnswers same name log m known s) (map i : ℕ) (z : CallOnKey K V K) (here : s.calls map i ≡ Some (OnKey z))
    (said : Progress (Node K V)) (leads : StepLeads same hash i said s old new) where
  abbrev shown1 : Refines same name m known s
  shown1 = dues.history.shown

  abbrev went1 : WentTo same hash name m known s old new at shown1 map i (OnKey z) here said leads
  went1 = to same hash name m known s old new at whole shown1 map i (OnKey z) here said leads

  abbrev ch : Chart K
  ch = went1.0.chart

  abbrev its_effects : List Effect
  its_effects = effects_of (acts.Call i map) known new.changed

  abbrev v1 : Moment K V
  v1 = v same hash name m known s old new at whole shown1 map i (OnKey z) here said leads

  abbrev on1 : LeadsThere same hash name m known s old new at shown1 map i (OnKey z) here said leads
  on1 = led_on same hash name m known s old new at whole shown1 map i (OnKey z) here said leads

  abbrev num : ℕ → ℕ
  num = shown1.number map

  abbrev num2 : ℕ → ℕ
  num2 = on1.shows.number map

  abbrev q : ℕ
  q = known.stored + 1

  module _ (c : CallThere K V) (c_is : call_of (name i) m ≡ Some c) (one : OneKey K V) (one_is : c.call ≡ On one) (st2 : Standing K) (st2_is : went1.4.maps2 map ≡ Some st2)
      (d : CallThere K V) (d_is : call_of (name i) v1 ≡ Some d) where
    later : IsLater ch st2.chart
    later =
        let it = maps_later same hash name m known s old new at whole shown1 map i (OnKey z) here said leads map st2 st2_is in
        subst (λ (x : Standing K). IsLater x.chart st2.chart) (one_of it.0 went1.0 (sym it.1 ∙ went1.2)) it.2

    pairs2 : RefinesPairs map num2 st2 v1 (after same hash name m known s old new at whole shown1 map i (OnKey z) here said leads)
    pairs2 = (on1.shows.maps map st2 st2_is).pairs

    replies_are : d.replies ≡ c.replies
    replies_are = (was_there same hash name log m known s old new at whole dues map i (OnKey z) here said leads i c d c_is d_is).1

    pub taken : AreTaken one c.replies
    taken = dues.taken map i (OnKey z) here c c_is one one_is

    owed : HasPendingAnswer num ch.stored one c z.change
    owed = dues.owes map i z here went1.0 went1.2 c c_is one one_is

    pub nothing_due : z.change ≡ Unchanged → c.due ≡ None
    nothing_due e = subst (HasPendingAnswer num ch.stored one c) e owed

    -- the pair that has come has the number that was next
    new_number : v1.place q ≡ InMap map → ((n : ℕ) → st2.chart.current n ≡ true → ch.stored ≤ n → n ≡ ch.stored) → (q ≡ num2 ch.stored) × (ch.stored < st2.chart.stored)
    new_number in_map comes =
        let it = pairs2.all q in_map in
        let is : st2.chart.current it.0 ≡ true = sym (pairs2.here it.0 it.1) ∙ ap (λ (x : ℕ). is_in_map map (v1.place x)) (sym it.2) ∙ ap (is_in_map map) in_map ∙ eq-eqb map map refl in
        let one_more : it.0 ≡ ch.stored = comes it.0 is (not_old it.0 it.1 it.2) in (it.2 ∙ ap num2 one_more, subst (λ (x : ℕ). x < st2.chart.stored) one_more it.1)
      where
        not_old : (n : ℕ) → n < st2.chart.stored → q ≡ num2 n → ch.stored ≤ n
        not_old n l is = elim (cases_lt n ch.stored) as (λ _. ch.stored ≤ n) [
          | inl before ↦
              absurd (let was = (shown1.maps map went1.0 went1.2).pairs.numbered n before in let kept = on1.numbers map went1.0 went1.2 n before in let many = shown1.blocks.stored in omega (arith, was, kept, many, is))
          | inr from ↦ from
        ]

    abbrev StoresIts : List Effect → Type 0
    StoresIts l = Stores same hash name m known s old new at whole shown1 dues.history.asked map i z here said leads c c_is one one_is taken nothing_due l

    abbrev asked : IsAskedOn num ch.stored known z one c
    asked = asked_on same hash name m known s old new at whole shown1 dues.history.asked map i z here said leads c c_is one one_is taken nothing_due

    abbrev block : ℕ
    block = named_now new.changed

    -- what was stored where there was none
    owes_stored : (sp : Spot) → its_effects ≡ effect.Stored q sp ∷ [] → StoresIts its_effects → ((n : ℕ) → st2.chart.current n ≡ true → ch.stored ≤ n → n ≡ ch.stored) → HasPendingAnswer num2 st2.chart.stored one d (Stored ch.stored)
    owes_stored sp is stores comes =
        let has = (subst (λ (l : List Effect). StoresIts l) is stores).0 in
        let it = has_to same hash name m known s old new at whole shown1 dues.history.asked map i z here said leads c c_is one one_is taken nothing_due block q None c refl refl asked.replacing
        (subst (λ (o : Option (CallThere K V)). HasToStore s.world.memory block o q) c_is has) in
        let v_is : v1 ≡ with_effect (Some (name i)) (Some map) (effect.Stored q sp) m = ap (λ (l : List Effect). with_effects (Some (name i)) (Some map) l m) is in
        let d_is2 : d ≡ call_by m (effect.Stored q sp) c = one_of d (call_by m (effect.Stored q sp) c) (sym d_is ∙ ap (call_of (name i)) v_is ∙ acted_on (name i) map (effect.Stored q sp) m c c_is) in
        let nn = new_number (ap (λ (w : Moment K V). w.place q) v_is ∙ put_here q (InMap map) m.place q refl) comes in (
          nn.1,
          it.0,
          it.1,
          ap (λ (r : List (Option ℕ × Reply V)). means one (reply_to None r) None (num2 ch.stored)) replies_are ∙ ap (λ (x : ℕ). means one (reply_to None c.replies) None x) (sym nn.0) ∙ it.2,
          ap (λ (x : CallThere K V). x.due) d_is2 ∙ due_when c.call c one c.replacing q one_is
              ∙ ap (λ (o : Option ℕ). answer_due (means one (reply_to o c.replies) o q)) asked.replacing ∙ due_of (means one (reply_to None c.replies) None q) it.0 (Puts it.1) it.2,
        )

    -- in the place of a pair
    owes_replaced : (n : ℕ) (sp : Spot) → its_effects ≡ effect.Replaced (num n) ∷ effect.Stored q sp ∷ [] → StoresIts its_effects → ch.current n ≡ true
        → ((n : ℕ) → st2.chart.current n ≡ true → ch.stored ≤ n → n ≡ ch.stored) → HasPendingAnswer num2 st2.chart.stored one d (Replaced n ch.stored)
    owes_replaced n sp is stores current comes =
        let m1 = with_effect (Some (name i)) (Some map) (effect.Replaced (num n)) m in
        let c1 = call_by m (effect.Replaced (num n)) c in
        let has = (subst (λ (l : List Effect). StoresIts l) is stores).1.0 in
        let it = has_to same hash name m known s old new at whole shown1 dues.history.asked map i z here said leads c c_is one one_is taken nothing_due block q (Some (num n)) c1 refl refl refl
        (subst (λ (o : Option (CallThere K V)). HasToStore s.world.memory block o q) (replacing same hash name m known s old new at whole shown1 dues.history.asked map i z here said leads c c_is one one_is taken nothing_due (num n)) has) in
        let v_is : v1 ≡ with_effect (Some (name i)) (Some map) (effect.Stored q sp) m1 = ap (λ (l : List Effect). with_effects (Some (name i)) (Some map) l m) is in
        let d_is2 : d ≡ call_by m1 (effect.Stored q sp) c1 =
        one_of d (call_by m1 (effect.Stored q sp) c1) (sym d_is ∙ ap (call_of (name i)) v_is ∙ acted_on (name i) map (effect.Stored q sp) m1 c1 (replacing same hash name m known s old new at whole shown1 dues.history.asked map i z here said leads c c_is one one_is taken nothing_due (num n))) in
        let nn = new_number (ap (λ (w : Moment K V). w.place q) v_is ∙ put_here q (InMap map) m1.place q refl) comes in
        let l = there same hash name m known s old new at whole shown1 dues.history.asked map i z here said leads c c_is one one_is taken nothing_due n current in
        let number_is : num2 n ≡ num n = on1.numbers map went1.0 went1.2 n l in
        let more = later.stored in (
          omega (arith, l, more),
          nn.1,
          it.0,
          it.1,
          ap (λ (r : List (Option ℕ × Reply V)). means one (reply_to (Some (num2 n)) r) (Some (num2 n)) (num2 ch.stored)) replies_are
              ∙ ap (λ (x : ℕ). means one (reply_to (Some x) c.replies) (Some x) (num2 ch.stored)) number_is
              ∙ ap (λ (x : ℕ). means one (reply_to (Some (num n)) c.replies) (Some (num n)) x) (sym nn.0) ∙ it.2,
          ap (λ (x : CallThere K V). x.due) d_is2 ∙ due_when c1.call c1 one c1.replacing q one_is ∙ due_of (means one (reply_to (Some (num n)) c.replies) (Some (num n)) q) it.0 (Puts it.1) it.2,
        )

    -- and what was removed
    owes_removed : (n : ℕ) → its_effects ≡ effect.Removed (num n) ∷ [] → ch.current n ≡ true → MayDo (kind_of z.pair) (Removed n) → ToRemove n z.pair → HasPendingAnswer num2 st2.chart.stored one d (Removed n)
    owes_removed n is current may told =
        let it = takes_now same hash name m known s old new at whole shown1 dues.history.asked map i z here said leads c c_is one one_is taken nothing_due n current may told in
        let v_is : v1 ≡ with_effect (Some (name i)) (Some map) (effect.Removed (num n)) m = ap (λ (l : List Effect). with_effects (Some (name i)) (Some map) l m) is in
        let d_is2 : d ≡ call_by m (effect.Removed (num n)) c =
        one_of d (call_by m (effect.Removed (num n)) c) (sym d_is ∙ ap (call_of (name i)) v_is ∙ acted_on (name i) map (effect.Removed (num n)) m c c_is) in
        let l = there same hash name m known s old new at whole shown1 dues.history.asked map i z here said leads c c_is one one_is taken nothing_due n current in
        let number_is : num2 n ≡ num n = on1.numbers map went1.0 went1.2 n l in
        let more = later.stored in (
          omega (arith, l, more),
          it.0,
          length m.stored + 1,
          ap (λ (r : List (Option ℕ × Reply V)). means one (reply_to (Some (num2 n)) r) (Some (num2 n)) (length m.stored + 1)) replies_are
              ∙ ap (λ (x : ℕ). means one (reply_to (Some x) c.replies) (Some x) (length m.stored + 1)) number_is ∙ it.1,
          ap (λ (x : CallThere K V). x.due) d_is2 ∙ due_when c.call c one (Some (num n)) (length m.stored + 1) one_is
              ∙ due_of (means one (reply_to (Some (num n)) c.replies) (Some (num n)) (length m.stored + 1)) it.0 Takes it.1,
        )

    abbrev Then : Change → Type 0
    Then change = HasPendingAnswer num2 st2.chart.stored one d change

    stays : flat_map shift_of its_effects ≡ [] → Then z.change
    stays none = kept same hash name log m known s old new at whole dues map i (OnKey z) here said leads z here st2 st2_is none d d_is one
        ((was_there same hash name log m known s old new at whole dues map i (OnKey z) here said leads i c d c_is d_is).0 ∙ one_is)

    by_once : (c2 : Chart K) → st2.chart ≡ c2 → (change : Change) → z.change ≡ Unchanged
        → DidOnce same went1.0.hash (is_incremental went1.0.setting.mode) z.keys ch c2 num known.stored its_effects change → StoresIts its_effects → Did same hash name m known s old new at whole shown1 dues.history.asked map i z here said leads c c_is one one_is taken nothing_due change → Then change
    by_once c2 c2_is change unchanged (DidNone e none) stores did = subst Then (unchanged ∙ sym e) (stays none)
    by_once c2 c2_is change unchanged (DidStore sp is e absent comes) stores did =
        subst Then (sym e) (owes_stored sp is stores (λ n now from. comes n (ap (λ (x : Chart K). x.current n) (sym c2_is) ∙ now) from))
    by_once c2 c2_is change unchanged (DidReplace n sp is e pair comes) stores did =
        subst Then (sym e) (owes_replaced n sp is stores pair.0 (λ n now from. comes n (ap (λ (x : Chart K). x.current n) (sym c2_is) ∙ now) from))
    by_once c2 c2_is change unchanged (DidRemove n is e pair) stores did = elim (subst (λ (x : Change). Did same hash name m known s old new at whole shown1 dues.history.asked map i z here said leads c c_is one one_is taken nothing_due x) e did) as (λ _. Then change) [
      | inl none ↦ absurd (cc none)
      | inr may ↦ subst Then (sym e) (owes_removed n is pair.0 may.0 may.1)
    ]

    by_told : (c2 : Chart K) → st2.chart ≡ c2 → Shifts ch c2 num known.stored its_effects → StoresIts its_effects → (change : Change)
        → ToldOnce same hash name m known s old new at whole shown1 dues.history.asked map i z here said leads c c_is one one_is taken nothing_due c2 change → Did same hash name m known s old new at whole shown1 dues.history.asked map i z here said leads c c_is one one_is taken nothing_due change → Then change
    by_told c2 c2_is shifts stores change (inl (e, same_pairs)) did = subst Then (sym e) (stays (none_by same hash name m known s old new at whole shown1 dues.history.asked map i z here said leads c c_is one one_is taken nothing_due c2 shifts same_pairs))
    by_told c2 c2_is shifts stores change (inr (unchanged, told)) did =
        by_once c2 c2_is change unchanged
        (did_once same went1.0.hash (is_incremental went1.0.setting.mode) z.keys ch c2 num known.stored its_effects (there same hash name m known s old new at whole shown1 dues.history.asked map i z here said leads c c_is one one_is taken nothing_due) shifts change told) stores did

    abbrev DidHere : Type 0
    DidHere = DidSoHere same hash name m known s old new at whole shown1 dues.history.asked map i z here said leads c c_is one one_is taken nothing_due

    -- what the call has changed by its step
    abbrev pub change_by : DidHere → Change
    change_by (p2, end, machine_is, told_is, inl (step, moved)) = change_observed V same went1.0.hash same went1.0.setting slot_of step.step.went.told
    change_by (p2, end, machine_is, told_is, inr (row, stayed)) = z.change

    -- it owes what it means by that
    pub owes_now : (did : DidHere) → (NoRow same hash name m known s old new at whole shown1 dues.history.asked map i z here said leads c c_is one one_is taken nothing_due did → StoresIts its_effects) → ((NoRow same hash name m known s old new at whole shown1 dues.history.asked map i z here said leads c c_is one one_is taken nothing_due did → ⊥) → TakesNone new.changed) → Then (change_by did)
    owes_now (p2, end, machine_is, told_is, inl (step, moved)) stores takes =
        by_told step.step.went.c2 (moved_chart same hash name m known s old new at whole shown1 map i (OnKey z) here said leads step.step.went.c2 step.step.blocks2 step.step.sights2 moved.1 st2 st2_is)
        (its_shifts same hash name m known s old new at whole shown1 dues.history.asked map i z here said leads c c_is one one_is taken nothing_due p2 end step) (stores tt) (change_observed V same went1.0.hash same went1.0.setting slot_of step.step.went.told)
        (told_once same hash name m known s old new at whole shown1 dues.history.asked map i z here said leads c c_is one one_is taken nothing_due step.step.went.told) (its_done same hash name m known s old new at whole shown1 dues.history.asked map i z here said leads c c_is one one_is taken nothing_due p2 end step)
    owes_now (p2, end, machine_is, told_is, inr (row, stayed)) stores takes = stays (by_row same hash name m known s old new at whole shown1 dues.history.asked map i z here said leads c c_is one one_is taken nothing_due (takes (λ no. no)) (p2, end, machine_is, told_is, inr (row, stayed)) (λ no. no))

    pub goes_on : (x : CallOnKey K V K) → went1.4.next ≡ Some (OnKey x) → (did : DidHere) → x.change ≡ change_by did
    goes_on x e (p2, end, machine_is, told_is, inl (step, moved)) = same_change x _ (key_goes_on _ end (OnKey x) (sym moved.2 ∙ e))
    goes_on x e (p2, end, machine_is, told_is, inr (row, stayed)) = same_change x _ (key_goes_on _ end (OnKey x) (sym stayed.2 ∙ e))

    -- so it is for the step that was made
    pub owes_then_by : Then (change_by went1.4.did)
    owes_then_by = owes_now went1.4.did (λ own. (calls_store_theirs K V same hash name m known s old new at whole.all map i (OnKey z) here said leads own).0)
        (λ other. (rows_hand_theirs K V same hash name m known s old new at whole.all map i (OnKey z) here said leads other).1)

  own_key : Own same hash name log m known s old new at whole dues map i (OnKey z) here said leads
  own_key x e st2 st2_is d d_is one one_is =
      let c = shown1.calls map i (OnKey z) here in
      let was = was_there same hash name log m known s old new at whole dues map i (OnKey z) here said leads i c.0 d c.1 d_is in
      subst (λ (y : Change). HasPendingAnswer num2 st2.chart.stored one d y) (sym (goes_on c.0 c.1 one (sym was.0 ∙ one_is) st2 st2_is d d_is x e went1.4.did))
      (owes_then_by c.0 c.1 one (sym was.0 ∙ one_is) st2 st2_is d d_is)

pub calls_keep_due : (K V : Type 0) (same : K → K → Bool) (hash : ℕ → K → ℕ) → CallsPreservePendingAnswers K V same hash
calls_keep_due K V same hash name log m known s old new at whole dues map i (OnKey z) here said leads changes =
    dues_then same hash name log m known s old new at whole dues map i (OnKey z) here said leads (own_key same hash name log m known s old new at whole dues map i z here said leads) changes
calls_keep_due K V same hash name log m known s old new at whole dues map i (ForRoom r) here said leads changes =
    dues_then same hash name log m known s old new at whole dues map i (ForRoom r) here said leads
    (λ x e. absurd (no_key same hash name log m known s old new at whole dues map i (ForRoom r) here said leads (ForRoom r) (λ z e. cc e) (leads map (ForRoom r) here).4.did x e)) changes
calls_keep_due K V same hash name log m known s old new at whole dues map i (Counting sum) here said leads changes =
    dues_then same hash name log m known s old new at whole dues map i (Counting sum) here said leads
    (λ x e. absurd (no_key same hash name log m known s old new at whole dues map i (Counting sum) here said leads (Counting sum) (λ z e. cc e) (leads map (Counting sum) here).4.did x e)) changes
calls_keep_due K V same hash name log m known s old new at whole dues map i (OverAll o) here said leads changes =
    dues_then same hash name log m known s old new at whole dues map i (OverAll o) here said leads
    (λ x e. absurd (no_key same hash name log m known s old new at whole dues map i (OverAll o) here said leads (OverAll o) (λ z e. cc e) (leads map (OverAll o) here).4.did x e)) changes

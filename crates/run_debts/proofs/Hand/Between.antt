-- Between the steps of calls, and as others take steps: each call owes just what it has in hand where one begins, is told a reply, or has come to an outcome.
use Rattle.std.specs.Prelude.{◌≡◌, ◌+◌, ℕ, Bool, true, false, cond, not, List, find, map, Option, Some, None, if◌then◌else◌}
use Rattle.std.proofs.Common.{refl, ap, sym, subst, ◌∙◌, inl, inr}
use Rattle.run_places.specs.Given.RunsSame.{is_same}
use Rattle.run_places.specs.Given.RawMachine.{machine_replied, machine_asked}
use Rattle.run_places.specs.Given.RawDeclared.machines.machine.Machine.{Machine}
use Rattle.run_places.specs.Given.RunsDeclared.call.Reply.{Reply}
use Rattle.run_places.specs.Given.RunsDeclared.outcome.Outcome.{Outcome}
use Rattle.run_places.specs.Given.RunsDeclared.outcome.Outcome.TheVariants as outcome
use Rattle.run_places.specs.Given.SchedulesAfter.{asks_on, with_outcome, replied, without_call}
use Rattle.run_places.specs.Given.SchedulesBeginning.{fresh_call, with_call}
use Rattle.run_places.specs.Given.SchedulesEntry.{ends_call}
use Rattle.run_places.specs.Given.SchedulesMoment.{CallState, Going, Asking, Told as WasTold, IsReady, UnderWay as CallThere, Moment}
use Rattle.run_places.specs.Given.SchedulesViews.{call_of}
use Rattle.owner_facts.specs.Given.CallersTogether.{UnderWay}
use Rattle.run_places.specs.Given.EffectsKnown.{Known}
use Rattle.owner_facts.specs.Given.FinishesMachines.{machine_of}
use Rattle.owner_facts.specs.Given.FinishesMaps.{with_call as with_in}
use Rattle.run_places.specs.Given.FollowsCalling.{NoneNamed}
use Rattle.run_places.specs.Given.FollowsCalls.{RefinesCalls}
use Rattle.run_places.proofs.Given.FollowsCalling.{is_same_refl, apart_back, found_kept, come, come_of_same, replied_same}
use Rattle.run_places.proofs.Given.FollowsCalls.{IsOfSame, changed, found}
use Rattle.run_places.proofs.Hands.Asking.{which}
use Rattle.run_places.proofs.Hands.Calling.{caller_is}
use Rattle.run_places.specs.Given.OthersWalks.{given_up}
use Rattle.run_debts.specs.Hand.{in_hand, NotesPending, RefinesObligations}
use Rattle.run_debts.specs.Owed.{ObligationsBegin, ObligationsStay, EffectsLeaveObligations, CallsBeginObligations, CallsTakeObligations, OutcomesPreserveObligations, WalksPreserveObligations, WalksStopObligations}
use Rattle.run_debts.proofs.Gains.{none_changed}
use Rattle.run_debts.proofs.Hand.Asked.{told_stays, asked_stays}
use Rattle.run_debts.proofs.Hand.Roles.{hand_same, hand_noted}
use Rattle.run_places.specs.Given.ScenesScene.{Scene}
use Rattle.run_places.proofs.Given.General.{same_some as one_of}

-- As a run begins there is no call.
pub owed_begins : (K V : Type 0) → ObligationsBegin K V
owed_begins K V roots name = record { owed = λ map i u is c c_is. absurd (cc is); noted = λ map i u is. absurd (cc is) }

-- So it is as long as calls are as they were, and what they have in hand.
pub stays_owed : (K V : Type 0) → ObligationsStay K V
stays_owed K V name m v known known2 s t shows same under_way in_hand_same = record { owed = owes_then; noted = λ n j x is. hand_noted known known2 (machine_of x) (in_hand_same n j x (was n j x is)) (shows.noted n j x (was n j x is)) }
  where
    was : (n j : ℕ) (x : UnderWay K V K) → t.calls n j ≡ Some x → s.calls n j ≡ Some x
    was n j x is = ap (λ (f : ℕ → ℕ → Option (UnderWay K V K)). f n j) (sym under_way) ∙ is

    owes_then : (n j : ℕ) (x : UnderWay K V K) → t.calls n j ≡ Some x → (c : CallThere K V) → call_of (name j) v ≡ Some c → c.owes ≡ in_hand known2 (machine_of x)
    owes_then n j x is c c_is =
        shows.owed n j x (was n j x is) c (ap (λ (l : List (CallThere K V)). find (λ y. is_same y.caller (name j)) l) (sym same) ∙ c_is)
        ∙ sym (hand_same known known2 (machine_of x) (in_hand_same n j x (was n j x is)))

pub effects_leave_owed : (K V : Type 0) → EffectsLeaveObligations K V
effects_leave_owed K V name m known known2 s t shows under_way in_hand_same acted effects = stays_owed K V name m _ known known2 s t shows (none_changed acted effects m) under_way in_hand_same

-- where a call begins that has nothing in hand
pub calls_begin_owed : (K V : Type 0) → CallsBeginObligations K V
calls_begin_owed K V name m known s shows of i u call guard apart none = record { owed = begun; noted = notes }
  where
    fresh : CallThere K V
    fresh = fresh_call (name i) guard call of m.events

    v : Moment K V
    v = with_call (name i) guard call (Some of) m

    Goal : UnderWay K V K → CallThere K V → Type 0
    Goal x c = c.owes ≡ in_hand known (machine_of x)

    -- another one is found as before
    beside : (j : ℕ) → is_same (name i) (name j) ≡ false → call_of (name j) v ≡ call_of (name j) m
    beside j e = ap (λ z. cond z (Some fresh) (find (λ c. is_same c.caller (name j)) m.calls)) e

    its : call_of (name i) v ≡ Some fresh
    its = ap (λ z. cond z (Some fresh) (find (λ c. is_same c.caller (name i)) m.calls)) (is_same_refl (name i))

    begun : (n j : ℕ) (x : UnderWay K V K) → with_in s.calls of i (Some u) n j ≡ Some x → (c : CallThere K V) → call_of (name j) v ≡ Some c → Goal x c
    begun n j x is c c_is = elim (which s.calls of i (Some u) n j x is) as (λ _. Goal x c) [
      | inl it ↦
          let one : fresh ≡ c = one_of fresh c (sym its ∙ ap (λ (k : ℕ). call_of (name k) v) (sym it.1) ∙ c_is) in
          let its_call : u ≡ x = one_of u x it.2 in
          subst (λ (z : CallThere K V). Goal x z) one (subst (λ (z : UnderWay K V K). Goal z fresh) its_call (sym (none known).0))
      | inr was ↦ shows.owed n j x was.1 c (sym (beside j (apart n j x was.1)) ∙ c_is)
    ]

    notes : (n j : ℕ) (x : UnderWay K V K) → with_in s.calls of i (Some u) n j ≡ Some x → NotesPending known (machine_of x)
    notes n j x is = elim (which s.calls of i (Some u) n j x is) as (λ _. NotesPending known (machine_of x)) [
      | inl it ↦ subst (λ (z : UnderWay K V K). NotesPending known (machine_of z)) (one_of u x it.2) (none known).1
      | inr was ↦ shows.noted n j x was.1
    ]

module _ {K V : Type 0} where
  -- what a call is told, and what it comes to, leaves it owing as much
  replied_owes : (reply : Reply V) (c : CallThere K V) (stands : CallState) → (replied reply c stands).owes ≡ c.owes
  replied_owes reply c Going = refl
  replied_owes reply c (Asking q) = refl
  replied_owes reply c WasTold = refl
  replied_owes reply c IsReady = refl

  asks_owes : (question : Option ℕ) (c : CallThere K V) (stands : CallState) → (asks_on question c stands).owes ≡ c.owes
  asks_owes question c Going = refl
  asks_owes question c (Asking q) = refl
  asks_owes question c WasTold = refl
  asks_owes question c IsReady = refl

  comes_owes : (o : Outcome V) (c : CallThere K V) → (with_outcome o c).owes ≡ c.owes
  comes_owes outcome.Done c = refl
  comes_owes (outcome.Slot n) c = refl
  comes_owes outcome.Goes c = refl
  comes_owes (outcome.Asks question) c = asks_owes question c c.stands
  comes_owes outcome.Waits c = refl
  comes_owes outcome.Ready c = refl
  comes_owes (outcome.Shows n) c = refl
  comes_owes (outcome.Answered a) c = refl
  comes_owes (outcome.Shape tables) c = refl
  comes_owes (outcome.Refused fault) c = refl

  come_owes : (o : Outcome V) (steps : ℕ) (c : CallThere K V) → (come o steps c).owes ≡ c.owes
  come_owes o steps c = comes_owes o (record c { steps = c.steps + steps })

  -- calls of which one is changed, which owes as much
  module _ (change : CallThere K V → CallThere K V) (same : (c : CallThere K V) → IsOfSame c (change c)) (keeps : (c : CallThere K V) → (change c).owes ≡ c.owes) (own : List ℕ)
      (name : ℕ → List ℕ) (m v : Moment K V) (calls_are : v.calls ≡ map (changed change same own) m.calls) where
    changed_owes : (c : CallThere K V) → (changed change same own c).owes ≡ c.owes
    changed_owes c = by (is_same c.caller own)
      where
        by : (q : Bool) → (if q then change c else c).owes ≡ c.owes
        by true = keeps c
        by false = refl

    owes_changed : (j : ℕ) (c d : CallThere K V) → call_of (name j) m ≡ Some c → call_of (name j) v ≡ Some d → d.owes ≡ c.owes
    owes_changed j c d c_is d_is =
        let now = found change same own (name j) m.calls c c_is in
        let there = ap (λ (l : List (CallThere K V)). find (λ x. is_same x.caller (name j)) l) (sym calls_are) ∙ d_is in
        ap (λ (x : CallThere K V). x.owes) (one_of d (changed change same own c) (sym there ∙ now)) ∙ changed_owes c

-- where one that asks is told a reply
pub calls_take_owed : (K V : Type 0) → CallsTakeObligations K V
calls_take_owed K V same name m known s whole shows of i u here reply next is is_told = record { owed = then_owes; noted = notes }
  where
    change : CallThere K V → CallThere K V
    change c = replied is_told c c.stands

    v : Moment K V
    v = record m { calls = map (changed change (λ c. replied_same is_told c c.stands) (name i)) m.calls }

    has : (j : ℕ) (c d : CallThere K V) → call_of (name j) m ≡ Some c → call_of (name j) v ≡ Some d → d.owes ≡ c.owes
    has = owes_changed change (λ c. replied_same is_told c c.stands) (λ c. replied_owes is_told c c.stands) (name i) name m v refl

    -- the machine of the call that goes on
    its : (x : UnderWay K V K) → Some next ≡ Some x → machine_of x ≡ (machine_replied (machine_of u) reply).0
    its x e = ap machine_of (sym (one_of next x e)) ∙ is

    then_owes : (n j : ℕ) (x : UnderWay K V K) → with_in s.calls of i (Some next) n j ≡ Some x → (d : CallThere K V) → call_of (name j) v ≡ Some d → d.owes ≡ in_hand known (machine_of x)
    then_owes n j x there d d_is = elim (which s.calls of i (Some next) n j x there) as (λ _. d.owes ≡ in_hand known (machine_of x)) [
      | inl it ↦
          let c = whole.all.shown.calls of i u here in
          has i c.0 d c.1 (ap (λ (k : ℕ). call_of (name k) v) (sym it.1) ∙ d_is) ∙ shows.owed of i u here c.0 c.1
          ∙ sym (told_stays known (machine_of u) reply).0 ∙ ap (in_hand known) (sym (its x it.2))
      | inr was ↦
          let c = whole.all.shown.calls n j x was.1 in
          has j c.0 d c.1 d_is ∙ shows.owed n j x was.1 c.0 c.1
    ]

    notes : (n j : ℕ) (x : UnderWay K V K) → with_in s.calls of i (Some next) n j ≡ Some x → NotesPending known (machine_of x)
    notes n j x there = elim (which s.calls of i (Some next) n j x there) as (λ _. NotesPending known (machine_of x)) [
      | inl it ↦ subst (λ (z : Machine K V K). NotesPending known z) (sym (its x it.2)) ((told_stays known (machine_of u) reply).1 (shows.noted of i u here))
      | inr was ↦ shows.noted n j x was.1
    ]

-- where one comes to an outcome
module _ {K V : Type 0} (same : K → K → Bool) (name : ℕ → List ℕ) (m v : Moment K V) (known : Known) (s : Scene K V) (shown : RefinesCalls same name m s.calls) (shows : RefinesObligations name m known s) where
  -- the calls that are under way are there, but for that of this name
  fewer_owe : (own : List ℕ) → NoneNamed name own s → v.calls ≡ without_call own m.calls → RefinesObligations name v known s
  fewer_owe own apart calls_are = record { owed = owes_still; noted = shows.noted }
    where
      owes_still : (n j : ℕ) (x : UnderWay K V K) → s.calls n j ≡ Some x → (d : CallThere K V) → call_of (name j) v ≡ Some d → d.owes ≡ in_hand known (machine_of x)
      owes_still n j x is d d_is =
          let there = shown n j x is in
          let is_its = caller_is (name j) m there.0 there.1 in
          let kept : not (is_same there.0.caller own) ≡ true = ap (λ (l : List ℕ). not (is_same l own)) is_its ∙ ap not (apart_back own (name j) (apart n j x is)) in
          let found_now = ap (λ (l : List (CallThere K V)). find (λ x. is_same x.caller (name j)) l) calls_are ∙ found_kept (λ c. is_same c.caller (name j)) (λ c. not (is_same c.caller own)) m.calls there.0 there.1 kept in
          subst (λ (z : CallThere K V). z.owes ≡ in_hand known (machine_of x)) (one_of there.0 d (sym found_now ∙ d_is)) (shows.owed n j x is there.0 there.1)

  changed_owe : (change : CallThere K V → CallThere K V) (is_of : (c : CallThere K V) → IsOfSame c (change c)) → ((c : CallThere K V) → (change c).owes ≡ c.owes) → (own : List ℕ)
      → v.calls ≡ map (changed change is_of own) m.calls → RefinesObligations name v known s
  changed_owe change is_of keeps own calls_are = record {
    owed = λ n j x is d d_is. (let there = shown n j x is in owes_changed change is_of keeps own name m v calls_are j there.0 d there.1 d_is ∙ shows.owed n j x is there.0 there.1);
    noted = shows.noted;
  }

pub calls_come_to_owed : (K V : Type 0) → OutcomesPreserveObligations K V
calls_come_to_owed K V same name m known s whole shows own o steps ended = by (ends_call o) refl
  where
    by : (q : Bool) → ends_call o ≡ q → RefinesObligations name (record m { calls = if q then without_call own m.calls else map (λ c. if is_same c.caller own then come o steps c else c) m.calls }) known s
    by true e = fewer_owe same name m _ known s whole.all.shown.calls shows own (ended e) refl
    by false e = changed_owe same name m _ known s whole.all.shown.calls shows (come o steps) (come_of_same o steps) (come_owes o steps) own refl

-- a walk goes on to its next pair
pub walks_go_on_owed : (K V : Type 0) (same : K → K → Bool) (hash : ℕ → K → ℕ) → WalksPreserveObligations K V same hash
walks_go_on_owed K V same hash name m known s old new shows i leads of u here = record { owed = then_owes; noted = notes }
  where
    next : UnderWay K V K
    next = (leads of u here).0

    its : (x : UnderWay K V K) → Some next ≡ Some x → machine_of x ≡ (machine_asked (machine_of u)).0
    its x e = ap machine_of (sym (one_of next x e)) ∙ (leads of u here).1

    then_owes : (n j : ℕ) (x : UnderWay K V K) → with_in s.calls of i (Some next) n j ≡ Some x → (d : CallThere K V) → call_of (name j) m ≡ Some d → d.owes ≡ in_hand known (machine_of x)
    then_owes n j x there d d_is = elim (which s.calls of i (Some next) n j x there) as (λ _. d.owes ≡ in_hand known (machine_of x)) [
      | inl it ↦
          shows.owed of i u here d (ap (λ (k : ℕ). call_of (name k) m) (sym it.1) ∙ d_is)
          ∙ sym (asked_stays known (machine_of u)).0 ∙ ap (in_hand known) (sym (its x it.2))
      | inr was ↦ shows.owed n j x was.1 d d_is
    ]

    notes : (n j : ℕ) (x : UnderWay K V K) → with_in s.calls of i (Some next) n j ≡ Some x → NotesPending known (machine_of x)
    notes n j x there = elim (which s.calls of i (Some next) n j x there) as (λ _. NotesPending known (machine_of x)) [
      | inl it ↦ subst (λ (z : Machine K V K). NotesPending known z) (sym (its x it.2)) ((asked_stays known (machine_of u)).1 (shows.noted of i u here))
      | inr was ↦ shows.noted n j x was.1
    ]

-- or is given up
pub walks_stop_owed : (K V : Type 0) (same : K → K → Bool) (hash : ℕ → K → ℕ) → WalksStopObligations K V same hash
walks_stop_owed K V same hash name m known s old new shown shows i true leads of u here apart = record { owed = left; noted = λ n j x is. shows.noted n j x (was n j x is) }
  where
    after : Scene K V
    after = record s { calls = with_in s.calls of i None }

    was : (n j : ℕ) (x : UnderWay K V K) → after.calls n j ≡ Some x → s.calls n j ≡ Some x
    was n j x is = elim (which s.calls of i None n j x is) as (λ _. s.calls n j ≡ Some x) [
      | inl it ↦ absurd (let none = it.2 in cc none)
      | inr before ↦ before.1
    ]

    left : (n j : ℕ) (x : UnderWay K V K) → after.calls n j ≡ Some x → (d : CallThere K V) → call_of (name j) (given_up (name i) true m) ≡ Some d → d.owes ≡ in_hand known (machine_of x)
    left n j x is d d_is =
        let there = shown.calls n j x (was n j x is) in
        let is_its = caller_is (name j) m there.0 there.1 in
        let kept : not (is_same there.0.caller (name i)) ≡ true = ap (λ (l : List ℕ). not (is_same l (name i))) is_its ∙ ap not (apart_back (name i) (name j) (apart refl n j x is)) in
        let found_now = found_kept (λ c. is_same c.caller (name j)) (λ c. not (is_same c.caller (name i))) m.calls there.0 there.1 kept in
        subst (λ (z : CallThere K V). z.owes ≡ in_hand known (machine_of x)) (one_of there.0 d (sym found_now ∙ d_is)) (shows.owed n j x (was n j x is) there.0 there.1)
walks_stop_owed K V same hash name m known s old new shown shows i false leads of u here apart = record { owed = left; noted = notes }
  where
    left : (n j : ℕ) (x : UnderWay K V K) → with_in s.calls of i (Some u) n j ≡ Some x → (d : CallThere K V) → call_of (name j) (given_up (name i) false m) ≡ Some d → d.owes ≡ in_hand known (machine_of x)
    left n j x is d d_is = elim (which s.calls of i (Some u) n j x is) as (λ _. d.owes ≡ in_hand known (machine_of x)) [
      | inl it ↦
          subst (λ (z : UnderWay K V K). d.owes ≡ in_hand known (machine_of z)) (one_of u x it.2) (shows.owed of i u here d (ap (λ (k : ℕ). call_of (name k) m) (sym it.1) ∙ d_is))
      | inr was ↦ shows.owed n j x was.1 d d_is
    ]

    notes : (n j : ℕ) (x : UnderWay K V K) → with_in s.calls of i (Some u) n j ≡ Some x → NotesPending known (machine_of x)
    notes n j x is = elim (which s.calls of i (Some u) n j x is) as (λ _. NotesPending known (machine_of x)) [
      | inl it ↦ subst (λ (z : UnderWay K V K). NotesPending known (machine_of z)) (one_of u x it.2) (shows.noted of i u here)
      | inr was ↦ shows.noted n j x was.1
    ]

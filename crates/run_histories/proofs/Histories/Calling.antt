-- Before all events, between the steps of calls, and where an event is over, histories stay within the moments of the run.
use Rattle.std.specs.Prelude.{◌≡◌, ℕ, ◌+◌, ◌≤◌, Bool, true, false, cond, not, List, ◌∷◌, find, map, Option, Some, if◌then◌else◌, ◌⊎◌}
use Rattle.std.proofs.Common.{refl, ap, sym, subst, ◌∙◌, arith, inl, inr}
use Rattle.run_places.specs.Given.RunsSame.{is_same}
use Rattle.run_places.specs.Given.RawDeclared.machines.asking.MachineReply.{MachineReply}
use Rattle.run_places.specs.Given.RunsDeclared.outcome.Outcome.{Outcome}
use Rattle.run_places.specs.Given.SchedulesAfter.{replied, without_call}
use Rattle.run_places.specs.Given.SchedulesBeginning.{fresh_call, with_call}
use Rattle.run_places.specs.Given.SchedulesEntry.{ends_call}
use Rattle.run_places.specs.Given.SchedulesLists.{OneOf}
use Rattle.run_places.specs.Given.SchedulesMoment.{UnderWay as CallThere, Moment}
use Rattle.run_places.specs.Given.SchedulesViews.{call_of, finite_map}
use Rattle.run_places.specs.Given.CallersTogether.{UnderWay, OnKey, ForRoom, Counting, OverAll}
use Rattle.run_places.specs.Given.EffectsKnown.{Known}
use Rattle.run_places.specs.Given.FinishesMachines.{RepliedOfKind}
use Rattle.run_places.specs.Given.FinishesMaps.{Standing, with_call as with_in}
use Rattle.run_places.specs.Given.FollowsCalling.{NoneNamed, told, come_to}
use Rattle.run_places.specs.Given.FollowsShows.{Refines}
use Rattle.run_places.proofs.Given.FollowsCalling.{is_same_refl, apart_back, replied_same, come, come_of_same, found_kept, begins_with, told_with, come_with}
use Rattle.run_places.proofs.Given.FollowsCalls.{found}
use Rattle.run_places.specs.Hands.Asked.{reply_to_machine, RefinesAsked}
use Rattle.run_places.proofs.Hands.Asking.{which}
use Rattle.run_places.proofs.Hands.Beginning.{runs_begin_so}
use Rattle.run_places.proofs.Hands.Calling.{caller_is, begins_asked, come_asked}
use Rattle.run_places.proofs.Hands.Told.{own_told, told_asked}
use Rattle.run_places.specs.Changes.Had.{HadThen}
use Rattle.run_places.specs.Changes.Histories.{began_of, since, IsWithin, RefinesHistory, StaysWithin}
use Rattle.run_places.specs.Changes.Kept.{HistoriesBegin, CallsBeginHistories, CallsTakeHistories, CallsComeToHistories, EventsPreserveHistories, FirstStepsChangeFirst}
use Rattle.run_places.proofs.Changes.Begun.{if_begun, replied_begun, comes_begun}
use Rattle.run_places.proofs.Changes.Found.{map_alike}
use Rattle.run_places.proofs.Changes.Logs.{first_is_past, further_is_past, grows}
use Rattle.run_places.proofs.Changes.Now.{now_had}
use Rattle.run_places.proofs.Changes.Within.{within_alike}
use Rattle.run_places.specs.Given.ScenesReplying.{scene_with}
use Rattle.run_places.specs.Given.ScenesScene.{Scene, slot_of}
use Rattle.run_places.specs.Given.SchedulesTransition.{Past, further}
use Rattle.run_places.proofs.Given.General.{same_some as one_of}

pub histories_begin : (K V : Type 0) → HistoriesBegin K V
histories_begin K V same roots name =
    let all = runs_begin_so K V same roots name in record {
      past = first_is_past;
      shown = all.shown;
      asked = all.asked;
      begun = λ n i u is c found. absurd (cc is);
      within = λ n i u is st there c found began began_is. absurd (cc is);
    }

pub first_steps_change_first : (K V : Type 0) (same : K → K → Bool) → FirstStepsChangeFirst K V same
first_steps_change_first K V same log m v map begun k = inr (map_alike same map k log.now m begun.0 begun.1)

pub events_keep_histories : (K V : Type 0) (same : K → K → Bool) → EventsPreserveHistories K V same
events_keep_histories K V same name log m known s history counted = (
  record {
    past = further_is_past m log counted;
    shown = history.shown;
    asked = history.asked;
    begun = λ n i u is c found. (let b = history.begun n i u is c found in omega (arith, b));
    within = λ n i u is st there c found began began_is time from to k.
        more c (history.begun n i u is c found) (λ x. HadThen same st (history.shown.number n) time k (finite_map same n x k)) (history.within n i u is st there c found began began_is time from to k);
  },
  refl,
)
  where
    more : (c : CallThere K V) → c.begun ≤ log.entries → (P : Moment K V → Type 0) → OneOf P (since log m c) → OneOf P (since (further m log) m c)
    more c b P (inl here) = inl here
    more c b P (inr there) = inr (subst (OneOf P) (sym (grows m log c.begun (omega (arith, b)))) (inr there))

-- a call that was told something began when it began
told_began : {K V : Type 0} (same : K → K → Bool) (batch_size roots : ℕ) (standing : Standing K) (i : ℕ) (u : UnderWay K V K) (reply : MachineReply V) (next : UnderWay K V K)
    → RepliedOfKind V same same batch_size roots slot_of standing i u reply next → began_of next ≡ began_of u
told_began same batch_size roots standing i (OnKey u) reply next (inl (asks_at, about, stands, asked, is)) = ap (λ (z : UnderWay _ _ _). began_of z) is
told_began same batch_size roots standing i (OnKey u) reply next (inr is) = ap (λ (z : UnderWay _ _ _). began_of z) is
told_began same batch_size roots standing i (ForRoom r) reply next is = ap (λ (z : UnderWay _ _ _). began_of z) is
told_began same batch_size roots standing i (Counting sum) reply next is = ap (λ (z : UnderWay _ _ _). began_of z) is
told_began same batch_size roots standing i (OverAll o) reply next (inl (word, n, stands, names, inl (kept, is))) = ap (λ (z : UnderWay _ _ _). began_of z) is
told_began same batch_size roots standing i (OverAll o) reply next (inl (word, n, stands, names, inr (left, is))) = ap (λ (z : UnderWay _ _ _). began_of z) is
told_began same batch_size roots standing i (OverAll o) reply next (inr is) = ap (λ (z : UnderWay _ _ _). began_of z) is

-- Only calls have changed: each that is there then was there, begun by the same event and at the same moment of its map, or it begins now.
module _ {K V : Type 0} (same : K → K → Bool) (name : ℕ → List ℕ) (log : Past K V) (m m2 : Moment K V) (known : Known) (s : Scene K V) (history : RefinesHistory same name log m known s)
    (place : m2.place ≡ m.place) (stored : m2.stored ≡ m.stored) (calls2 : ℕ → ℕ → Option (UnderWay K V K))
    (after : Refines same name m2 known (record s { calls = calls2 })) (numbers : after.number ≡ history.shown.number)
    (asked : RefinesAsked name history.shown.number m2 known (record s { calls = calls2 })) where
  abbrev pub IsAsBefore : ℕ → ℕ → UnderWay K V K → CallThere K V → Type 0
  IsAsBefore n j x d = (y : UnderWay K V K) × (s.calls n j ≡ Some y) × (began_of x ≡ began_of y) × (c : CallThere K V) × (call_of (name j) m ≡ Some c) × (d.begun ≡ c.begun)

  abbrev pub BeginsNow : ℕ → UnderWay K V K → CallThere K V → Type 0
  BeginsNow n x d =
      (d.begun ≤ log.entries)
      × ((st : Standing K) → s.maps n ≡ Some st → (began : ℕ) → began_of x ≡ Some began → IsWithin same n st (after.number n) (since log m2 d) began)

  module _ (which_is : (n j : ℕ) (x : UnderWay K V K) → calls2 n j ≡ Some x → (d : CallThere K V) → call_of (name j) m2 ≡ Some d → IsAsBefore n j x d ⊎ BeginsNow n x d) where
    begun_then : (n j : ℕ) (x : UnderWay K V K) (d : CallThere K V) → IsAsBefore n j x d ⊎ BeginsNow n x d → d.begun ≤ log.entries
    begun_then n j x d (inl was) = subst (λ (b : ℕ). b ≤ log.entries) (sym was.5) (history.begun n j was.0 was.1 was.3 was.4)
    begun_then n j x d (inr now) = now.0

    within_then : (n j : ℕ) (x : UnderWay K V K) (d : CallThere K V) → IsAsBefore n j x d ⊎ BeginsNow n x d → (st : Standing K) → s.maps n ≡ Some st → (began : ℕ) → began_of x ≡ Some began
        → IsWithin same n st (after.number n) (since log m2 d) began
    within_then n j x d (inl was) st there began began_is =
        subst (λ (f : ℕ → ℕ → ℕ). IsWithin same n st (f n) (since log m2 d) began) (sym numbers)
        (subst (λ (b : ℕ). IsWithin same n st (history.shown.number n) (since log m2 (record d { begun = b })) began) (sym was.5)
        (within_alike same n st (history.shown.number n) (log.since was.3.begun) m m2 began (λ k. map_alike same n k m m2 place stored)
        (history.within n j was.0 was.1 st there was.3 was.4 began (sym was.2 ∙ began_is))))
    within_then n j x d (inr now) st there began began_is = now.1 st there began began_is

    pub calls_changed : StaysWithin same name log m known s history log m2 (record s { calls = calls2 })
    calls_changed = (
      record {
        past = history.past;
        shown = after;
        asked = subst (λ (f : ℕ → ℕ → ℕ). RefinesAsked name f m2 known (record s { calls = calls2 })) (sym numbers) asked;
        begun = λ n j x is d d_is. begun_then n j x d (which_is n j x is d d_is);
        within = λ n j x is st there d d_is began began_is. within_then n j x d (which_is n j x is d d_is) st there began began_is;
      },
      numbers,
    )

module _ (K V : Type 0) (same : K → K → Bool) (hash : ℕ → K → ℕ) where
  pub calls_take_histories : CallsTakeHistories K V same hash
  calls_take_histories name log m known s e at history map i u here c c_is question c_asks standing there is_told next machine taken goes =
      let b = told_with same name m known s history.shown map i u here e.batch_size e.roots standing (reply_to_machine is_told) next goes is_told in
      calls_changed same name log m (told (name i) is_told m) known s history refl refl (with_in s.calls map i (Some next)) b.0 b.1
      (told_asked same hash name m known s e at history.shown history.asked map i standing there c c_is question c_asks is_told u next here
      (own_told same hash name m known s e at history.shown history.asked map i standing there c c_is question c_asks is_told u next here machine taken goes))
      (λ n j x is d d_is. inl (as_before n j x d d_is (which s.calls map i (Some next) n j x is)))
    where
      tells : CallThere K V → CallThere K V
      tells y = replied is_told y y.stands

      same_event : (j : ℕ) (c0 d : CallThere K V) → call_of (name j) m ≡ Some c0 → call_of (name j) (told (name i) is_told m) ≡ Some d → d.begun ≡ c0.begun
      same_event j c0 d c0_is d_is =
          ap (λ (z : CallThere K V). z.begun) (one_of d (if is_same c0.caller (name i) then tells c0 else c0) (sym d_is ∙ found tells (λ y. replied_same is_told y y.stands) (name i) (name j) m.calls c0 c0_is))
          ∙ if_begun tells (λ y. replied_begun is_told y y.stands) c0 (is_same c0.caller (name i))

      as_before : (n j : ℕ) (x : UnderWay K V K) (d : CallThere K V) → call_of (name j) (told (name i) is_told m) ≡ Some d
          → ((n ≡ map) × (j ≡ i) × (◌≡◌ {A = Option (UnderWay K V K)} (Some next) (Some x))) ⊎ ((n ≡ map → j ≡ i → ⊥) × (s.calls n j ≡ Some x))
          → (y : UnderWay K V K) × (s.calls n j ≡ Some y) × (began_of x ≡ began_of y) × (c0 : CallThere K V) × (call_of (name j) m ≡ Some c0) × (d.begun ≡ c0.begun)
      as_before n j x d d_is (inl its) =
          let is = ap (λ (k : ℕ). s.calls k j) its.0 ∙ ap (s.calls map) its.1 ∙ here in
          let was = history.shown.calls n j u is in (
            u,
            is,
            ap (λ (z : UnderWay K V K). began_of z) (one_of x next (sym its.2)) ∙ told_began same e.batch_size e.roots standing i u (reply_to_machine is_told) next goes,
            was.0,
            was.1,
            same_event j was.0 d was.1 d_is,
          )
      as_before n j x d d_is (inr was_so) = let was = history.shown.calls n j x was_so.1 in (x, was_so.1, refl, was.0, was.1, same_event j was.0 d was.1 d_is)

  pub calls_begin_histories : CallsBeginHistories K V same hash
  calls_begin_histories name log m known s e at history map i u its guard standing there begins apart called begun_for events =
      calls_changed same name log m m2 known s history refl refl (with_in s.calls map i (Some u)) b.0 b.1
      (begins_asked same name m known s history.shown history.asked map i u its guard apart begun_for)
      (λ n j x is d d_is. one n j x d d_is (which s.calls map i (Some u) n j x is))
    where
      m2 : Moment K V
      m2 = with_call (name i) guard its (Some map) m

      fresh : CallThere K V
      fresh = fresh_call (name i) guard its map m.events

      b : (after : Refines same name m2 known (scene_with map i u s)) × (after.number ≡ history.shown.number)
      b = begins_with same name m known s history.shown map i u its guard apart called

      found_now : (j : ℕ) (q : Bool) → is_same (name i) (name j) ≡ q → (d : CallThere K V) → call_of (name j) m2 ≡ Some d → cond q (Some fresh) (call_of (name j) m) ≡ Some d
      found_now j q e d d_is = sym (ap (λ z. cond z (Some fresh) (find (λ c. is_same c.caller (name j)) m.calls)) e) ∙ d_is

      -- it begins within the next event, at the present moment of its map
      new : (n : ℕ) → n ≡ map → (x : UnderWay K V K) → x ≡ u → (d : CallThere K V) → d ≡ fresh
          → (d.begun ≤ log.entries) × ((st : Standing K) → s.maps n ≡ Some st → (began : ℕ) → began_of x ≡ Some began → IsWithin same n st (b.0.number n) (since log m2 d) began)
      new n n_is x x_is d d_is = (
        (let one = ap (λ (z : CallThere K V). z.begun) d_is in omega (arith, one, events)),
        λ st st_is began began_is time from to k.
            inl (subst (λ (z : ℕ). HadThen same st (b.0.number n) z k (finite_map same n m2 k)) (is_now st st_is began began_is time from to)
            (now_had same n (b.0.number n) st m2 known s.world (s.calls n) (at.together.makings.standing.fit n st st_is).0 (at.together.makings.standing.each n st st_is) (b.0.maps n st st_is).pairs b.0.blocks k)),
      )
        where
          is_now : (st : Standing K) → s.maps n ≡ Some st → (began : ℕ) → began_of x ≡ Some began → (time : ℕ) → began ≤ time → time ≤ st.chart.now → st.chart.now ≡ time
          is_now st st_is began began_is time from to =
              let same_st : st ≡ standing = one_of st standing (sym st_is ∙ ap s.maps n_is ∙ there) in
              let begun_now : began ≡ standing.chart.now = begins began (ap (λ (z : UnderWay K V K). began_of z) (sym x_is) ∙ began_is) in
              let same_now = ap (λ (z : Standing K). z.chart.now) same_st in omega (arith, begun_now, same_now, from, to)

      one : (n j : ℕ) (x : UnderWay K V K) (d : CallThere K V) → call_of (name j) m2 ≡ Some d
          → ((n ≡ map) × (j ≡ i) × (◌≡◌ {A = Option (UnderWay K V K)} (Some u) (Some x))) ⊎ ((n ≡ map → j ≡ i → ⊥) × (s.calls n j ≡ Some x))
          → ((y : UnderWay K V K) × (s.calls n j ≡ Some y) × (began_of x ≡ began_of y) × (c : CallThere K V) × (call_of (name j) m ≡ Some c) × (d.begun ≡ c.begun))
          ⊎ ((d.begun ≤ log.entries) × ((st : Standing K) → s.maps n ≡ Some st → (began : ℕ) → began_of x ≡ Some began → IsWithin same n st (b.0.number n) (since log m2 d) began))
      one n j x d d_is (inl its_is) =
          inr (new n its_is.0 x (one_of x u (sym its_is.2)) d
          (one_of d fresh (sym (found_now j true (ap (λ (k : ℕ). is_same (name i) (name k)) its_is.1 ∙ is_same_refl (name i)) d d_is))))
      one n j x d d_is (inr was) = inl (x, was.1, refl, d, found_now j false (apart n j x was.1) d d_is, refl)

-- a call that has come to an outcome, and goes on, or is another one
module _ {K V : Type 0} (same : K → K → Bool) (name : ℕ → List ℕ) (m : Moment K V) (s : Scene K V) (own : List ℕ) (o : Outcome V) (steps : ℕ) (ended : ends_call o ≡ true → NoneNamed name own s) where
  pub came_so : (n j : ℕ) (x : UnderWay K V K) → s.calls n j ≡ Some x → (c : CallThere K V) → call_of (name j) m ≡ Some c → (d : CallThere K V) → call_of (name j) (come_to own o steps m) ≡ Some d
      → (d ≡ c) ⊎ ((d ≡ come o steps c) × (is_same (name j) own ≡ true))
  came_so n j x is c c_is d d_is = by (ends_call o) refl
    where
      found_then : (q : Bool) → ends_call o ≡ q → find (λ y. is_same y.caller (name j)) (if q then without_call own m.calls else map (λ y. if is_same y.caller own then come o steps y else y) m.calls) ≡ Some d
      found_then q e = sym (ap (λ z. find (λ y. is_same y.caller (name j)) (if z then without_call own m.calls else map (λ y. if is_same y.caller own then come o steps y else y) m.calls)) e) ∙ d_is

      by_name : (q : Bool) → is_same c.caller own ≡ q → d ≡ (if q then come o steps c else c) → (d ≡ c) ⊎ ((d ≡ come o steps c) × (is_same (name j) own ≡ true))
      by_name true named e = inr (e, ap (λ (l : List ℕ). is_same l own) (sym (caller_is (name j) m c c_is)) ∙ named)
      by_name false named e = inl e

      by : (q : Bool) → ends_call o ≡ q → (d ≡ c) ⊎ ((d ≡ come o steps c) × (is_same (name j) own ≡ true))
      by true e =
          let kept : not (is_same c.caller own) ≡ true = ap (λ (l : List ℕ). not (is_same l own)) (caller_is (name j) m c c_is) ∙ ap not (apart_back own (name j) (ended e n j x is)) in
          inl (one_of d c (sym (found_then true e) ∙ found_kept (λ y. is_same y.caller (name j)) (λ y. not (is_same y.caller own)) m.calls c c_is kept))
      by false e =
          by_name (is_same c.caller own) refl (one_of d (if is_same c.caller own then come o steps c else c) (sym (found_then false e) ∙ found (come o steps) (come_of_same o steps) own (name j) m.calls c c_is))

module _ (K V : Type 0) (same : K → K → Bool) where
  pub calls_come_to_histories : CallsComeToHistories K V same
  calls_come_to_histories name log m known s history own o steps ended just =
      calls_changed same name log m (come_to own o steps m) known s history refl refl s.calls b.0 b.1
      (come_asked same name m known s history.shown history.asked own o steps ended just) (λ n j x is d d_is. inl (as_before n j x is d d_is))
    where
      b : (after : Refines same name (come_to own o steps m) known s) × (after.number ≡ history.shown.number)
      b = come_with same name m known s history.shown own o steps ended

      as_before : (n j : ℕ) (x : UnderWay K V K) → s.calls n j ≡ Some x → (d : CallThere K V) → call_of (name j) (come_to own o steps m) ≡ Some d
          → (y : UnderWay K V K) × (s.calls n j ≡ Some y) × (began_of x ≡ began_of y) × (c : CallThere K V) × (call_of (name j) m ≡ Some c) × (d.begun ≡ c.begun)
      as_before n j x is d d_is = let was = history.shown.calls n j x is in (x, is, refl, was.0, was.1, same_event was.0 (came_so same name m s own o steps ended n j x is was.0 was.1 d d_is))
        where
          same_event : (c : CallThere K V) → (d ≡ c) ⊎ ((d ≡ come o steps c) × (is_same (name j) own ≡ true)) → d.begun ≡ c.begun
          same_event c (inl e) = ap (λ (y : CallThere K V). y.begun) e
          same_event c (inr (e, named)) = ap (λ (y : CallThere K V). y.begun) e ∙ comes_begun o (record c { steps = c.steps + steps })

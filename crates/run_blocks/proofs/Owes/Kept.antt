-- Between the steps of calls: where a call begins, is told a reply, or has come to an outcome, each that is there has made as much as before.
use Rattle.std.specs.Prelude.{◌≡◌, ◌≢◌, ℕ, ◌+◌, Bool, true, false, cond, not, List, find, map, Option, Some, None, if◌then◌else◌}
use Rattle.std.proofs.Common.{refl, ap, sym, subst, ◌∙◌, inl, inr}
use Rattle.std.proofs.lemmas.Bool.{cases_eq}
use Rattle.run_debts.specs.Given.SeizeWorld.{with_at}
use Rattle.run_debts.specs.Given.RunsSame.{is_same}
use Rattle.run_debts.specs.Given.RunsDeclared.call.Call.{Call}
use Rattle.run_debts.specs.Given.RunsDeclared.call.Reply.{Reply}
use Rattle.run_debts.specs.Given.RunsDeclared.outcome.Outcome.{Outcome}
use Rattle.run_debts.specs.Given.RunsDeclared.outcome.Outcome.TheVariants as outcome
use Rattle.run_debts.specs.Given.SchedulesAfter.{asks_on, with_outcome, replied, without_call}
use Rattle.run_debts.specs.Given.SchedulesBeginning.{fresh_call, with_call}
use Rattle.run_debts.specs.Given.SchedulesEntry.{ends_call}
use Rattle.run_debts.specs.Given.SchedulesMoment.{CallState, Going, Asking, Told, IsReady, UnderWay as CallThere, Moment}
use Rattle.run_debts.specs.Given.SchedulesViews.{call_of}
use Rattle.owner_calls.specs.Given.CallersTogether.{UnderWay}
use Rattle.owner_calls.proofs.Given.CallersTogether.At.{at_other, at_same}
use Rattle.run_debts.specs.Given.FinishesMaps.{with_call as with_in}
use Rattle.run_debts.specs.Given.FollowsCalling.{told, come_to}
use Rattle.run_debts.specs.Given.FollowsCalls.{RefinesCalls}
use Rattle.run_debts.proofs.Given.FollowsCalling.{is_same_refl, apart_back, found_kept, come, come_of_same, replied_same}
use Rattle.run_debts.proofs.Given.FollowsCalls.{IsOfSame, changed, found}
use Rattle.run_debts.proofs.Given.HandsAsking.{which}
use Rattle.run_debts.proofs.Given.HandsCalling.{caller_is}
use Rattle.run_debts.proofs.Given.General.{same_some as one_of}

-- the calls of other callers are as they were
pub calls_beside : {X : Type 0} (calls : ℕ → ℕ → Option X) (of i : ℕ) (next : Option X) (n j : ℕ) → j ≢ i → with_in calls of i next n j ≡ calls n j
calls_beside calls of i next n j ne = elim (cases_eq n of) as (λ _. with_in calls of i next n j ≡ calls n j) [
  | inl e ↦
      ap (λ (g : ℕ → Option _). g j) (at_same calls of (with_at (calls of) i next) n e) ∙ at_other (calls of) i next j ne ∙ ap (λ (k : ℕ). calls k j) (sym e)
  | inr other ↦ ap (λ (g : ℕ → Option _). g j) (at_other calls of (with_at (calls of) i next) n other)
]

-- and the one of this caller goes on so
pub calls_its : {X : Type 0} (calls : ℕ → ℕ → Option X) (of i : ℕ) (next : Option X) → with_in calls of i next of i ≡ next
calls_its calls of i next = ap (λ (g : ℕ → Option _). g i) (at_same calls of (with_at (calls of) i next) of refl) ∙ at_same (calls of) i next i refl

-- one that is under way without it was so with it
pub calls_without : {K V : Type 0} (calls : ℕ → ℕ → Option (UnderWay K V K)) (of i n j : ℕ) (x : UnderWay K V K) → with_in calls of i None n j ≡ Some x → calls n j ≡ Some x
calls_without calls of i n j x is = elim (which calls of i None n j x is) as (λ _. calls n j ≡ Some x) [
  | inl it ↦ absurd (let none = it.2 in cc none)
  | inr was ↦ was.1
]

module _ {K V : Type 0} where
  -- a call has made as much as another one: a block for a pair, and a table; and it is as short, and as it was called
  abbrev pub HasAsMuch : CallThere K V → CallThere K V → Type 0
  HasAsMuch c d = (d.has_block ≡ c.has_block) × (d.table ≡ c.table) × (d.is_short ≡ c.is_short) × (d.call ≡ c.call)

  -- what it is told, and what it comes to, leaves that

  replied_keeps : (reply : Reply V) (c : CallThere K V) (stands : CallState) → HasAsMuch c (replied reply c stands)
  replied_keeps reply c Going = (refl, refl, refl, refl)
  replied_keeps reply c (Asking q) = (refl, refl, refl, refl)
  replied_keeps reply c Told = (refl, refl, refl, refl)
  replied_keeps reply c IsReady = (refl, refl, refl, refl)

  asks_keeps : (question : Option ℕ) (c : CallThere K V) (stands : CallState) → HasAsMuch c (asks_on question c stands)
  asks_keeps question c Going = (refl, refl, refl, refl)
  asks_keeps question c (Asking q) = (refl, refl, refl, refl)
  asks_keeps question c Told = (refl, refl, refl, refl)
  asks_keeps question c IsReady = (refl, refl, refl, refl)

  comes_keeps : (o : Outcome V) (c : CallThere K V) → HasAsMuch c (with_outcome o c)
  comes_keeps outcome.Done c = (refl, refl, refl, refl)
  comes_keeps (outcome.Slot n) c = (refl, refl, refl, refl)
  comes_keeps outcome.Goes c = (refl, refl, refl, refl)
  comes_keeps (outcome.Asks question) c = asks_keeps question c c.stands
  comes_keeps outcome.Waits c = (refl, refl, refl, refl)
  comes_keeps outcome.Ready c = (refl, refl, refl, refl)
  comes_keeps (outcome.Shows n) c = (refl, refl, refl, refl)
  comes_keeps (outcome.Answered a) c = (refl, refl, refl, refl)
  comes_keeps (outcome.Shape tables) c = (refl, refl, refl, refl)
  comes_keeps (outcome.Refused fault) c = (refl, refl, refl, refl)

  come_keeps : (o : Outcome V) (steps : ℕ) (c : CallThere K V) → HasAsMuch c (come o steps c)
  come_keeps o steps c = comes_keeps o (record c { steps = c.steps + steps })

module _ {K V : Type 0} (name : ℕ → List ℕ) (m : Moment K V) where
  -- the call of this caller had as much at the moment before
  abbrev pub HadAsMuch : ℕ → CallThere K V → Type 0
  HadAsMuch j d = (c : CallThere K V) × (call_of (name j) m ≡ Some c) × HasAsMuch c d

  -- of one that has begun
  module _ (of i : ℕ) (its : Call K V) (guard : List ℕ) where
    abbrev pub begun : Moment K V
    begun = with_call (name i) guard its (Some of) m

    abbrev fresh : CallThere K V
    fresh = fresh_call (name i) guard its of m.events

    abbrev among : ℕ → Bool → Option (CallThere K V)
    among j q = cond q (Some fresh) (find (λ y. is_same y.caller (name j)) m.calls)

    pub fresh_has : (j : ℕ) → j ≡ i → (d : CallThere K V) → call_of (name j) begun ≡ Some d → (d.has_block ≡ false) × (d.table ≡ None) × (d.is_short ≡ false) × (d.call ≡ its)
    fresh_has j e d d_is =
        let first : ◌≡◌ {A = Option (CallThere K V)} (Some fresh) (Some d) =
        sym (ap (among j) (ap (λ (k : ℕ). is_same (name i) (name k)) e ∙ is_same_refl (name i))) ∙ d_is in
        subst (HasAsMuch fresh) (one_of fresh d first) (refl, refl, refl, refl)

    pub others_there : (j : ℕ) → is_same (name i) (name j) ≡ false → (d : CallThere K V) → call_of (name j) begun ≡ Some d → call_of (name j) m ≡ Some d
    others_there j apart d d_is = sym (ap (among j) apart) ∙ d_is

  -- of one of which calls go on as themselves
  module _ (same : K → K → Bool) (calls : ℕ → ℕ → Option (UnderWay K V K)) (shown : RefinesCalls same name m calls) where
    module _ (own : List ℕ) (change : CallThere K V → CallThere K V) (is_of : (c : CallThere K V) → IsOfSame c (change c)) (kept : (c : CallThere K V) → HasAsMuch c (change c)) where
      changed_kept : (c : CallThere K V) → HasAsMuch c (changed change is_of own c)
      changed_kept c = by (is_same c.caller own)
        where
          by : (q : Bool) → HasAsMuch c (if q then change c else c)
          by true = kept c
          by false = (refl, refl, refl, refl)

      changed_had : (n j : ℕ) (x : UnderWay K V K) → calls n j ≡ Some x → (d : CallThere K V) → find (λ y. is_same y.caller (name j)) (map (changed change is_of own) m.calls) ≡ Some d → HadAsMuch j d
      changed_had n j x is d d_is =
          let c = shown n j x is in
          let one : changed change is_of own c.0 ≡ d = one_of (changed change is_of own c.0) d (sym (found change is_of own (name j) m.calls c.0 c.1) ∙ d_is) in
          (c.0, c.1, subst (HasAsMuch c.0) one (changed_kept c.0))

    pub told_had : (own : List ℕ) (reply : Reply V) (n j : ℕ) (x : UnderWay K V K) → calls n j ≡ Some x → (d : CallThere K V) → call_of (name j) (told own reply m) ≡ Some d → HadAsMuch j d
    told_had own reply n j x is d d_is =
        changed_had own (λ c. replied reply c c.stands) (λ c. replied_same reply c c.stands) (λ c. replied_keeps reply c c.stands) n j x is d d_is

    -- one that has ended is there no more
    pub left_had : (own : List ℕ) (n j : ℕ) (x : UnderWay K V K) → calls n j ≡ Some x → is_same own (name j) ≡ false → (d : CallThere K V)
        → find (λ y. is_same y.caller (name j)) (without_call own m.calls) ≡ Some d → HadAsMuch j d
    left_had own n j x is apart d d_is =
        let c = shown n j x is in
        let stays : not (is_same c.0.caller own) ≡ true = ap (λ (l : List ℕ). not (is_same l own)) (caller_is (name j) m c.0 c.1) ∙ ap not (apart_back own (name j) apart) in
        let here = found_kept (λ y. is_same y.caller (name j)) (λ y. not (is_same y.caller own)) m.calls c.0 c.1 stays in
        (c.0, c.1, subst (HasAsMuch c.0) (one_of c.0 d (sym here ∙ d_is)) (refl, refl, refl, refl))

    pub come_had : (own : List ℕ) (o : Outcome V) (steps : ℕ) (n j : ℕ) (x : UnderWay K V K) → calls n j ≡ Some x → (ends_call o ≡ true → is_same own (name j) ≡ false) → (d : CallThere K V)
        → call_of (name j) (come_to own o steps m) ≡ Some d → HadAsMuch j d
    come_had own o steps n j x is ended d d_is = by (ends_call o) refl
      where
        found_in : Bool → Option (CallThere K V)
        found_in q = find (λ y. is_same y.caller (name j)) (if q then without_call own m.calls else map (changed (come o steps) (come_of_same o steps) own) m.calls)

        by : (q : Bool) → ends_call o ≡ q → HadAsMuch j d
        by true e = left_had own n j x is (ended e) d (sym (ap found_in e) ∙ d_is)
        by false e = changed_had own (come o steps) (come_of_same o steps) (come_keeps o steps) n j x is d (sym (ap found_in e) ∙ d_is)

-- Between the steps of calls, and as others take steps: where a call begins, is told a reply, or has come to an outcome, each has to count what the moment says.
use Rattle.std.specs.Prelude.{◌≡◌, ◌==◌, ◌+◌, ℕ, Bool, true, false, cond, not, List, find, map, Option, Some, None, if◌then◌else◌}
use Rattle.std.proofs.Common.{refl, ap, sym, subst, ◌∙◌, inl, inr}
use Rattle.run_places.specs.Given.SweepsSweepPoints.{next_at, reply_at, after_reply, further}
use Rattle.run_places.specs.Given.ReservesDeclared.sweep.Sweep.{Sweep}
use Rattle.run_places.specs.Given.ReservesDeclared.sweep.Sweeping.{Sweeping}
use Rattle.run_places.specs.Given.ReservesDeclared.sweep.Sweeping.TheVariants as sweeping
use Rattle.run_places.specs.Given.RunsSame.{is_same}
use Rattle.run_places.specs.Given.RawCallAsks.{with_absent, with_present, absent_replied, present_replied, replied_at}
use Rattle.run_places.specs.Given.RawCallPoints.{going, over, ending, storing, burying, at_gap}
use Rattle.run_places.specs.Given.RawMachine.{sweep_with_reply, machine_replied, machine_asked}
use Rattle.run_places.specs.Given.RawDeclared.machines.answer.Called.{Called}
use Rattle.run_places.specs.Given.RawDeclared.machines.answer.End.{End}
use Rattle.run_places.specs.Given.RawDeclared.machines.answer.End.TheVariants as ends
use Rattle.run_places.specs.Given.RawDeclared.machines.answer.KeyAnswer.TheVariants as answers
use Rattle.run_places.specs.Given.RawDeclared.machines.asking.Asking.TheVariants as asking
use Rattle.run_places.specs.Given.RawDeclared.machines.asking.Gap.{Gap}
use Rattle.run_places.specs.Given.RawDeclared.machines.asking.Gap.TheVariants as gaps
use Rattle.run_places.specs.Given.RawDeclared.machines.asking.MachineReply.{MachineReply}
use Rattle.run_places.specs.Given.RawDeclared.machines.asking.MachineReply.TheVariants as reply
use Rattle.run_places.specs.Given.RawDeclared.machines.asking.Takes.{Takes}
use Rattle.run_places.specs.Given.RawDeclared.machines.asking.Takes.TheVariants as takes
use Rattle.run_places.specs.Given.RawDeclared.machines.asking.Told.{Told}
use Rattle.run_places.specs.Given.RawDeclared.machines.asking.Told.TheVariants as tells
use Rattle.run_places.specs.Given.RawDeclared.machines.call.Calling.{Calling}
use Rattle.run_places.specs.Given.RawDeclared.machines.call.Calling.TheVariants as at
use Rattle.run_places.specs.Given.RawDeclared.machines.call.KeyCall.{KeyCall}
use Rattle.run_places.specs.Given.RawDeclared.machines.machine.Machine.{Machine}
use Rattle.run_places.specs.Given.RawDeclared.machines.machine.Machine.TheVariants as kinds
use Rattle.run_places.specs.Given.TablesDeclared.marks.TheConstants.{TOMBSTONE}
use Rattle.run_places.specs.Given.TablesDeclared.node.Node.{Node}
use Rattle.run_places.specs.Given.RunsDeclared.call.Reply.{Reply}
use Rattle.run_places.specs.Given.RunsDeclared.outcome.Outcome.{Outcome}
use Rattle.run_places.specs.Given.RunsDeclared.outcome.Outcome.TheVariants as outcome
use Rattle.run_places.specs.Given.SchedulesAfter.{asks_on, with_outcome, replied, without_call}
use Rattle.run_places.specs.Given.SchedulesBeginning.{fresh_call, with_call}
use Rattle.run_places.specs.Given.SchedulesEntry.{ends_call}
use Rattle.run_places.specs.Given.SchedulesMoment.{CallState, Going, Asking, Told as WasTold, IsReady, UnderWay as CallThere, Moment}
use Rattle.run_places.specs.Given.SchedulesViews.{call_of}
use Rattle.owner_facts.specs.Given.CallersTogether.{UnderWay, Gets, Removes, Inserts, TriesToInsert, Computes, Updates, UpdatesOrInserts, TriesToInsertWith, RemovesIf}
use Rattle.owner_facts.specs.Given.FinishesMachines.{machine_of}
use Rattle.owner_facts.specs.Given.FinishesMaps.{with_call as with_in}
use Rattle.run_places.specs.Given.FollowsCalling.{NoneNamed}
use Rattle.run_places.specs.Given.FollowsCalls.{RefinesCalls}
use Rattle.run_places.proofs.Given.FollowsCalling.{is_same_refl, apart_back, found_kept, come, come_of_same, replied_same}
use Rattle.run_places.proofs.Given.FollowsCalls.{IsOfSame, changed, found}
use Rattle.run_places.proofs.Hands.Asking.{which}
use Rattle.run_places.proofs.Hands.Calling.{caller_is}
use Rattle.run_places.specs.Given.OthersWalks.{given_up}
use Rattle.run_debts.specs.Beside.{StaysCounts, EffectsLeaveCounts, WalksPreserveCounts, WalksStopCounts}
use Rattle.run_debts.specs.Counts.{counts_in_calling, counts_in_sweeping, is_to_count, HasToCount, RefinesCounts}
use Rattle.run_debts.specs.Keeping.{CountsBegin, CallsBeginCounts, CallsBeginUncounted, CallsTakeCounts, CallsComeToCounts}
use Rattle.run_debts.proofs.Gains.{to_count, none_changed}
use Rattle.run_debts.proofs.Points.{points_apart, further_idle}
use Rattle.run_places.specs.Given.ScenesScene.{Scene}
use Rattle.run_places.proofs.Given.General.{same_some as one_of}

-- As a run begins there is no call.
pub counts_begin : (K V : Type 0) → CountsBegin K V
counts_begin K V roots name = record { counts = λ map i u is c c_is. absurd (cc is) }

-- No call on one key begins with something to count.
pub calls_begin_uncounted : (K V : Type 0) → CallsBeginUncounted K V
calls_begin_uncounted K V same hash setting slot i keys given call (Gets q code few class) = refl
calls_begin_uncounted K V same hash setting slot i keys given call (Removes q code few class) = refl
calls_begin_uncounted K V same hash setting slot i keys given call (Inserts key value) = refl
calls_begin_uncounted K V same hash setting slot i keys given call (TriesToInsert key value) = refl
calls_begin_uncounted K V same hash setting slot i keys given call (Computes key) = refl
calls_begin_uncounted K V same hash setting slot i keys given call (Updates key) = refl
calls_begin_uncounted K V same hash setting slot i keys given call (UpdatesOrInserts key absent) = refl
calls_begin_uncounted K V same hash setting slot i keys given call (TriesToInsertWith key) = refl
calls_begin_uncounted K V same hash setting slot i keys given call (RemovesIf q code few class) = refl

-- a machine that is told something, or asked for its next pair, is as much to count as before

either_sweep : (b : Bool) (x y : Sweep) → counts_in_sweeping x.stands ≡ false → counts_in_sweeping y.stands ≡ false → counts_in_sweeping (if b then x else y).stands ≡ false
either_sweep true x y f g = f
either_sweep false x y f g = g

replied_so : (p : Sweep) (keeps : Bool) (word : ℕ) → p.stands ≡ sweeping.Asks word → counts_in_sweeping (after_reply p keeps).stands ≡ false
replied_so p keeps word is =
    subst (λ (q : Sweeping). counts_in_sweeping (reply_at q p keeps).stands ≡ false) (sym is) (either_sweep keeps (further p) (record p { stands = sweeping.Tries word }) (further_idle p) refl)

next_so : (p : Sweep) (stands : Sweeping) → p.stands ≡ stands → counts_in_sweeping (next_at stands p).stands ≡ counts_in_sweeping p.stands
next_so p sweeping.Ready is = points_apart _ sweeping.Words sweeping.Over refl refl ∙ sym (ap counts_in_sweeping is)
next_so p _ is = refl

sweep_told_so : {V : Type 0} (p : Sweep) (stands : Sweeping) (told : MachineReply V) → p.stands ≡ stands → counts_in_sweeping (sweep_with_reply stands p told).0.stands ≡ counts_in_sweeping p.stands
sweep_told_so p (sweeping.Asks word) reply.Yes is = replied_so p true word is ∙ sym (ap counts_in_sweeping is)
sweep_told_so p (sweeping.Asks word) reply.No is = replied_so p false word is ∙ sym (ap counts_in_sweeping is)
sweep_told_so p _ told is = refl

module _ {K V : Type 0} where
  abbrev NoneToCount : KeyCall K V K → Type 0
  NoneToCount p = counts_in_calling p.stands ≡ false

  either : (b : Bool) (x y : KeyCall K V K × Called (Node K V)) → NoneToCount x.0 → NoneToCount y.0 → NoneToCount (if b then x else y).0
  either true x y f g = f
  either false x y f g = g

  ending_none : (p : KeyCall K V K) (end : End) → NoneToCount (ending p end).0
  ending_none p end = either (p.own == 0) (over p end) (going p (at.Drops end)) refl refl

  burying_none : (p : KeyCall K V K) (word : ℕ) → NoneToCount (burying p word).0
  burying_none p word = either (p.own == 0) (going p (at.Tries word TOMBSTONE)) (going p (at.Asks (asking.GivesUp word))) refl refl

  storing_none : (p : KeyCall K V K) (t : Told V) (word : ℕ) → NoneToCount (storing t p word).0
  storing_none p tells.Own word = refl
  storing_none p tells.Nothing word = refl
  storing_none p (tells.Value value) word = refl
  storing_none p tells.Removes word = refl

  gap_none : (p : KeyCall K V K) (gap : Gap) → NoneToCount (at_gap gap p).0
  gap_none p gaps.NoTable = refl
  gap_none p gaps.Free = storing_none p p.replies.absent 0
  gap_none p gaps.Past = refl
  gap_none p gaps.Last = refl

  absent_none : (t : Takes) (p : KeyCall K V K) (gap : Gap) (told : MachineReply V) → NoneToCount p → NoneToCount (absent_replied t p gap told).0
  absent_none takes.Values p gap (reply.Insert value) none = gap_none (with_absent p value) gap
  absent_none takes.Changes p gap (reply.Insert value) none = gap_none (with_absent p value) gap
  absent_none takes.Changes p gap reply.Remove none = ending_none p _
  absent_none takes.Changes p gap reply.Abort none = ending_none p (ends.Answered answers.Absent)
  absent_none _ p gap told none = none

  present_none : (t : Takes) (p : KeyCall K V K) (word : ℕ) (told : MachineReply V) → NoneToCount p → NoneToCount (present_replied t p word told).0
  present_none takes.Values p word (reply.Insert value) none = refl
  present_none takes.Changes p word (reply.Insert value) none = refl
  present_none takes.Changes p word reply.Remove none = burying_none (with_present p word tells.Removes) word
  present_none takes.Changes p word reply.Abort none = ending_none p (ends.Answered (answers.Found word))
  present_none takes.Choices p word reply.Yes none = burying_none p word
  present_none takes.Choices p word reply.No none = ending_none p (ends.Answered (answers.Found word))
  present_none _ p word told none = none

  key_told : (p : KeyCall K V K) (stands : Calling) (told : MachineReply V) → p.stands ≡ stands → counts_in_calling (replied_at stands p told).0.stands ≡ counts_in_calling p.stands
  key_told p (at.Asks (asking.Absent gap)) told is = let none = ap counts_in_calling is in absent_none p.replies.takes p gap told none ∙ sym none
  key_told p (at.Asks (asking.Present word)) told is = let none = ap counts_in_calling is in present_none p.replies.takes p word told none ∙ sym none
  key_told p _ told is = refl

  pub told_same : (machine : Machine K V K) (told : MachineReply V) → is_to_count (machine_replied machine told).0 ≡ is_to_count machine
  told_same (kinds.Key p) told = key_told p p.stands told refl
  told_same (kinds.Sweep c) told = sweep_told_so c c.stands told refl
  told_same (kinds.Reserve r) told = refl
  told_same (kinds.Count sum) told = refl

  asked_same : (machine : Machine K V K) → is_to_count (machine_asked machine).0 ≡ is_to_count machine
  asked_same (kinds.Key p) = refl
  asked_same (kinds.Sweep c) = next_so c c.stands refl
  asked_same (kinds.Reserve r) = refl
  asked_same (kinds.Count sum) = refl

module _ {K V : Type 0} where
  -- what a call is told, and what it comes to, leaves it as much to count
  replied_keeps : (reply : Reply V) (c : CallThere K V) (stands : CallState) → to_count (replied reply c stands) ≡ to_count c
  replied_keeps reply c Going = refl
  replied_keeps reply c (Asking q) = refl
  replied_keeps reply c WasTold = refl
  replied_keeps reply c IsReady = refl

  asks_keeps : (question : Option ℕ) (c : CallThere K V) (stands : CallState) → to_count (asks_on question c stands) ≡ to_count c
  asks_keeps question c Going = refl
  asks_keeps question c (Asking q) = refl
  asks_keeps question c WasTold = refl
  asks_keeps question c IsReady = refl

  comes_keeps : (o : Outcome V) (c : CallThere K V) → to_count (with_outcome o c) ≡ to_count c
  comes_keeps outcome.Done c = refl
  comes_keeps (outcome.Slot n) c = refl
  comes_keeps outcome.Goes c = refl
  comes_keeps (outcome.Asks question) c = asks_keeps question c c.stands
  comes_keeps outcome.Waits c = refl
  comes_keeps outcome.Ready c = refl
  comes_keeps (outcome.Shows n) c = refl
  comes_keeps (outcome.Answered a) c = refl
  comes_keeps (outcome.Shape tables) c = refl
  comes_keeps (outcome.Refused fault) c = refl

  come_keeps : (o : Outcome V) (steps : ℕ) (c : CallThere K V) → to_count (come o steps c) ≡ to_count c
  come_keeps o steps c = comes_keeps o (record c { steps = c.steps + steps })

  -- calls of which one is changed, with as much to count
  module _ (change : CallThere K V → CallThere K V) (same : (c : CallThere K V) → IsOfSame c (change c)) (keeps : (c : CallThere K V) → to_count (change c) ≡ to_count c) (own : List ℕ)
      (name : ℕ → List ℕ) (m v : Moment K V) (calls_are : v.calls ≡ map (changed change same own) m.calls) where
    changed_keeps : (c : CallThere K V) → to_count (changed change same own c) ≡ to_count c
    changed_keeps c = by (is_same c.caller own)
      where
        by : (q : Bool) → to_count (if q then change c else c) ≡ to_count c
        by true = keeps c
        by false = refl

    pub has_changed : (j : ℕ) (c d : CallThere K V) → call_of (name j) m ≡ Some c → call_of (name j) v ≡ Some d → to_count d ≡ to_count c
    has_changed j c d c_is d_is =
        let now = found change same own (name j) m.calls c c_is in
        let there = ap (λ (l : List (CallThere K V)). find (λ x. is_same x.caller (name j)) l) (sym calls_are) ∙ d_is in
        ap to_count (one_of d (changed change same own c) (sym there ∙ now)) ∙ changed_keeps c

  -- it has as much to count still
  still : (machine machine2 : Machine K V K) (n k : ℕ) → is_to_count machine2 ≡ is_to_count machine → k ≡ n → HasToCount (is_to_count machine) n → HasToCount (is_to_count machine2) k
  still machine machine2 n k e f has = subst (λ (q : Bool). HasToCount q k) (sym e) (subst (HasToCount (is_to_count machine)) (sym f) has)

-- where a call begins that has nothing to count
pub calls_begin_counts : (K V : Type 0) → CallsBeginCounts K V
calls_begin_counts K V name m s shows of i u call guard apart none = record { counts = begun }
  where
    fresh : CallThere K V
    fresh = fresh_call (name i) guard call of m.events

    v : Moment K V
    v = with_call (name i) guard call (Some of) m

    Goal : UnderWay K V K → CallThere K V → Type 0
    Goal x c = HasToCount (is_to_count (machine_of x)) (c.gained + c.lost)

    -- another one is found as before
    beside : (j : ℕ) → is_same (name i) (name j) ≡ false → call_of (name j) v ≡ call_of (name j) m
    beside j e = ap (λ z. cond z (Some fresh) (find (λ c. is_same c.caller (name j)) m.calls)) e

    its : call_of (name i) v ≡ Some fresh
    its = ap (λ z. cond z (Some fresh) (find (λ c. is_same c.caller (name i)) m.calls)) (is_same_refl (name i))

    begun : (n j : ℕ) (x : UnderWay K V K) → with_in s.calls of i (Some u) n j ≡ Some x → (c : CallThere K V) → call_of (name j) v ≡ Some c → Goal x c
    begun n j x is c c_is = elim (which s.calls of i (Some u) n j x is) as (λ _. Goal x c) [
      | inl it ↦
          let one : fresh ≡ c = one_of fresh c (sym its ∙ ap (λ (k : ℕ). call_of (name k) v) (sym it.1) ∙ c_is) in
          let its_call : u ≡ x = one_of u x it.2 in
          subst (λ (z : CallThere K V). Goal x z) one (subst (λ (z : UnderWay K V K). Goal z fresh) its_call (subst (λ (q : Bool). HasToCount q (fresh.gained + fresh.lost)) (sym none) refl))
      | inr was ↦ shows.counts n j x was.1 c (sym (beside j (apart n j x was.1)) ∙ c_is)
    ]

-- where one that asks is told a reply
pub calls_take_counts : (K V : Type 0) → CallsTakeCounts K V
calls_take_counts K V same name m known s whole shows of i u here reply next is is_told = record { counts = then_has }
  where
    change : CallThere K V → CallThere K V
    change c = replied is_told c c.stands

    has : (j : ℕ) (c d : CallThere K V) → call_of (name j) m ≡ Some c → call_of (name j) (record m { calls = map (changed change (λ c. replied_same is_told c c.stands) (name i)) m.calls }) ≡ Some d → to_count d ≡ to_count c
    has = has_changed change (λ c. replied_same is_told c c.stands) (λ c. replied_keeps is_told c c.stands) (name i) name m
        (record m { calls = map (changed change (λ c. replied_same is_told c c.stands) (name i)) m.calls }) refl

    then_has : (n j : ℕ) (x : UnderWay K V K) → with_in s.calls of i (Some next) n j ≡ Some x
        → (d : CallThere K V) → call_of (name j) (record m { calls = map (changed change (λ c. replied_same is_told c c.stands) (name i)) m.calls }) ≡ Some d → HasToCount (is_to_count (machine_of x)) (to_count d)
    then_has n j x there d d_is = elim (which s.calls of i (Some next) n j x there) as (λ _. HasToCount (is_to_count (machine_of x)) (to_count d)) [
      | inl it ↦
          let c = whole.all.shown.calls of i u here in
          let machine : machine_of x ≡ (machine_replied (machine_of u) reply).0 = ap machine_of (sym (one_of next x it.2)) ∙ is in
          still (machine_of u) (machine_of x) (to_count c.0) (to_count d) (ap is_to_count machine ∙ told_same (machine_of u) reply)
          (has i c.0 d c.1 (ap (λ (k : ℕ). call_of (name k) (record m { calls = map (changed change (λ c. replied_same is_told c c.stands) (name i)) m.calls })) (sym it.1) ∙ d_is)) (shows.counts of i u here c.0 c.1)
      | inr was ↦
          let c = whole.all.shown.calls n j x was.1 in
          still (machine_of x) (machine_of x) (to_count c.0) (to_count d) refl (has j c.0 d c.1 d_is) (shows.counts n j x was.1 c.0 c.1)
    ]

-- where one comes to an outcome
module _ {K V : Type 0} (same : K → K → Bool) (name : ℕ → List ℕ) (m v : Moment K V) (s : Scene K V) (shown : RefinesCalls same name m s.calls) (shows : RefinesCounts name m s) where
  -- the calls that are under way are there, but for that of this name
  fewer_have : (own : List ℕ) → NoneNamed name own s → v.calls ≡ without_call own m.calls → RefinesCounts name v s
  fewer_have own apart calls_are = record { counts = λ n j x is c c_is. still_there n j x is c c_is }
    where
      still_there : (n j : ℕ) (x : UnderWay K V K) → s.calls n j ≡ Some x → (d : CallThere K V) → call_of (name j) v ≡ Some d → HasToCount (is_to_count (machine_of x)) (to_count d)
      still_there n j x is d d_is =
          let there = shown n j x is in
          let is_its = caller_is (name j) m there.0 there.1 in
          let kept : not (is_same there.0.caller own) ≡ true = ap (λ (l : List ℕ). not (is_same l own)) is_its ∙ ap not (apart_back own (name j) (apart n j x is)) in
          let found_now = ap (λ (l : List (CallThere K V)). find (λ x. is_same x.caller (name j)) l) calls_are ∙ found_kept (λ c. is_same c.caller (name j)) (λ c. not (is_same c.caller own)) m.calls there.0 there.1 kept in
          subst (λ (z : CallThere K V). HasToCount (is_to_count (machine_of x)) (to_count z)) (one_of there.0 d (sym found_now ∙ d_is)) (shows.counts n j x is there.0 there.1)

  changed_have : (change : CallThere K V → CallThere K V) (is_of : (c : CallThere K V) → IsOfSame c (change c)) → ((c : CallThere K V) → to_count (change c) ≡ to_count c) → (own : List ℕ)
      → v.calls ≡ map (changed change is_of own) m.calls → RefinesCounts name v s
  changed_have change is_of keeps own calls_are = record {
    counts = λ n j x is d d_is. (let there = shown n j x is in
        still (machine_of x) (machine_of x) (to_count there.0) (to_count d) refl (has_changed change is_of keeps own name m v calls_are j there.0 d there.1 d_is) (shows.counts n j x is there.0 there.1));
  }

pub calls_come_to_counts : (K V : Type 0) → CallsComeToCounts K V
calls_come_to_counts K V same name m known s whole shows own o steps ended = by (ends_call o) refl
  where
    by : (q : Bool) → ends_call o ≡ q → RefinesCounts name (record m { calls = if q then without_call own m.calls else map (λ c. if is_same c.caller own then come o steps c else c) m.calls }) s
    by true e = fewer_have same name m _ s whole.all.shown.calls shows own (ended e) refl
    by false e = changed_have same name m _ s whole.all.shown.calls shows (come o steps) (come_of_same o steps) (come_keeps o steps) own refl

-- So it is as long as calls are as they were, and after effects of no call.
pub stays_counts : (K V : Type 0) → StaysCounts K V
stays_counts K V name m v s t shows same under_way = record {
  counts = λ n j x is c c_is. shows.counts n j x (ap (λ (f : ℕ → ℕ → Option (UnderWay K V K)). f n j) (sym under_way) ∙ is) c
      (ap (λ (l : List (CallThere K V)). find (λ y. is_same y.caller (name j)) l) (sym same) ∙ c_is);
}

pub effects_leave_counts : (K V : Type 0) → EffectsLeaveCounts K V
effects_leave_counts K V name m s t shows under_way acted effects = stays_counts K V name m _ s t shows (none_changed acted effects m) under_way

-- a walk goes on to its next pair
pub walks_go_on_counts : (K V : Type 0) (same : K → K → Bool) (hash : ℕ → K → ℕ) → WalksPreserveCounts K V same hash
walks_go_on_counts K V same hash name m s old new shows i leads of u here = record { counts = then_has }
  where
    next : UnderWay K V K
    next = (leads of u here).0

    then_has : (n j : ℕ) (x : UnderWay K V K) → with_in s.calls of i (Some next) n j ≡ Some x → (d : CallThere K V) → call_of (name j) m ≡ Some d → HasToCount (is_to_count (machine_of x)) (to_count d)
    then_has n j x there d d_is = elim (which s.calls of i (Some next) n j x there) as (λ _. HasToCount (is_to_count (machine_of x)) (to_count d)) [
      | inl it ↦
          let machine : machine_of x ≡ (machine_asked (machine_of u)).0 = ap machine_of (sym (one_of next x it.2)) ∙ (leads of u here).1 in
          still (machine_of u) (machine_of x) (to_count d) (to_count d) (ap is_to_count machine ∙ asked_same (machine_of u)) refl
          (shows.counts of i u here d (ap (λ (k : ℕ). call_of (name k) m) (sym it.1) ∙ d_is))
      | inr was ↦ shows.counts n j x was.1 d d_is
    ]

-- or is given up
pub walks_stop_counts : (K V : Type 0) (same : K → K → Bool) (hash : ℕ → K → ℕ) → WalksStopCounts K V same hash
walks_stop_counts K V same hash name m known s old new shown shows i true leads of u here apart = record { counts = left }
  where
    after : Scene K V
    after = record s { calls = with_in s.calls of i None }

    was : (n j : ℕ) (x : UnderWay K V K) → after.calls n j ≡ Some x → s.calls n j ≡ Some x
    was n j x is = elim (which s.calls of i None n j x is) as (λ _. s.calls n j ≡ Some x) [
      | inl it ↦ absurd (let none = it.2 in cc none)
      | inr before ↦ before.1
    ]

    left : (n j : ℕ) (x : UnderWay K V K) → after.calls n j ≡ Some x → (d : CallThere K V) → call_of (name j) (given_up (name i) true m) ≡ Some d → HasToCount (is_to_count (machine_of x)) (to_count d)
    left n j x is d d_is =
        let there = shown.calls n j x (was n j x is) in
        let is_its = caller_is (name j) m there.0 there.1 in
        let kept : not (is_same there.0.caller (name i)) ≡ true = ap (λ (l : List ℕ). not (is_same l (name i))) is_its ∙ ap not (apart_back (name i) (name j) (apart refl n j x is)) in
        let found_now = found_kept (λ c. is_same c.caller (name j)) (λ c. not (is_same c.caller (name i))) m.calls there.0 there.1 kept in
        subst (λ (z : CallThere K V). HasToCount (is_to_count (machine_of x)) (to_count z)) (one_of there.0 d (sym found_now ∙ d_is)) (shows.counts n j x (was n j x is) there.0 there.1)
walks_stop_counts K V same hash name m known s old new shown shows i false leads of u here apart = record { counts = left }
  where
    left : (n j : ℕ) (x : UnderWay K V K) → with_in s.calls of i (Some u) n j ≡ Some x → (d : CallThere K V) → call_of (name j) (given_up (name i) false m) ≡ Some d → HasToCount (is_to_count (machine_of x)) (to_count d)
    left n j x is d d_is = elim (which s.calls of i (Some u) n j x is) as (λ _. HasToCount (is_to_count (machine_of x)) (to_count d)) [
      | inl it ↦
          subst (λ (z : UnderWay K V K). HasToCount (is_to_count (machine_of z)) (to_count d)) (one_of u x it.2) (shows.counts of i u here d (ap (λ (k : ℕ). call_of (name k) m) (sym it.1) ∙ d_is))
      | inr was ↦ shows.counts n j x was.1 d d_is
    ]

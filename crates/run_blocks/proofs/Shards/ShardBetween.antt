-- Between the steps of calls: where one begins, is told a reply, or has come to an outcome, shards are what they were, and so is what each is about to add.
use Rattle.std.specs.Prelude.{◌≡◌, ℕ, ◌+◌, Bool, true, false, cond, not, List, find, map, Option, Some, if◌then◌else◌}
use Rattle.std.proofs.Common.{refl, ap, sym, subst, ◌∙◌, inl, inr}
use Rattle.run_debts.specs.Given.SeizeWordsMem.{Mem, word_at}
use Rattle.run_debts.specs.Given.SeizeWordsDeclared.at.At.TheVariants.{Word}
use Rattle.run_debts.specs.Given.TablesDeclared.node.Node.{Node}
use Rattle.run_debts.specs.Given.RunsSame.{is_same}
use Rattle.run_debts.specs.Given.ReservesDeclared.sweep.Sweep.{Sweep}
use Rattle.run_debts.specs.Given.ReservesDeclared.sweep.Sweeping.{Sweeping}
use Rattle.run_debts.specs.Given.ReservesDeclared.sweep.Sweeping.TheVariants as sweeping
use Rattle.owner_calls.specs.Given.RawCallAsks.{replied_at}
use Rattle.run_debts.specs.Given.RawMachine.{sweep_with_reply, machine_replied}
use Rattle.run_debts.specs.Given.RawDeclared.machines.asking.MachineReply.{MachineReply}
use Rattle.run_debts.specs.Given.RawDeclared.machines.call.Calling.{Calling}
use Rattle.run_debts.specs.Given.RawDeclared.machines.call.Calling.TheVariants as at
use Rattle.run_debts.specs.Given.RawDeclared.machines.call.KeyCall.{KeyCall}
use Rattle.run_debts.specs.Given.RawDeclared.machines.machine.Machine.{Machine}
use Rattle.run_debts.specs.Given.RawDeclared.machines.machine.Machine.TheVariants as kinds
use Rattle.run_debts.specs.Given.RunsDeclared.call.Reply.{Reply}
use Rattle.run_debts.specs.Given.RunsDeclared.outcome.Outcome.{Outcome}
use Rattle.run_debts.specs.Given.RunsDeclared.outcome.Outcome.TheVariants as outcome
use Rattle.run_debts.specs.Given.SchedulesAfter.{asks_on, with_outcome, replied, without_call}
use Rattle.run_debts.specs.Given.SchedulesBeginning.{fresh_call, with_call}
use Rattle.run_debts.specs.Given.SchedulesEntry.{ends_call}
use Rattle.run_debts.specs.Given.SchedulesMoment.{CallState, Going, Asking, Told as WasTold, IsReady, UnderWay as CallThere, Moment}
use Rattle.run_debts.specs.Given.SchedulesViews.{call_of}
use Rattle.owner_calls.specs.Given.CallersTogether.{UnderWay}
use Rattle.run_debts.specs.Given.FinishesMachines.{machine_of}
use Rattle.run_debts.specs.Given.FinishesMakings.{Beginning}
use Rattle.run_debts.specs.Given.FinishesMaps.{Standing, with_call as with_in}
use Rattle.run_debts.specs.Given.FollowsCalling.{NoneNamed}
use Rattle.run_debts.specs.Given.FollowsCalls.{RefinesCalls}
use Rattle.run_debts.proofs.Given.FollowsCalling.{apart_back, found_kept, come, come_of_same, replied_same}
use Rattle.run_debts.proofs.Given.FollowsCalls.{IsOfSame, changed, found}
use Rattle.run_debts.proofs.Given.HandsAsking.{which}
use Rattle.run_debts.proofs.Given.HandsCalling.{caller_is}
use Rattle.run_blocks.specs.Shards.Adds.{adds_in_calling, adds_in_sweeping, adds_of, Adds, RefinesAdds}
use Rattle.run_debts.specs.Counts.{counts_in_calling, counts_in_sweeping, is_to_count}
use Rattle.run_blocks.specs.Shards.ShardSteps.{CallsBeginCounters, CallsTakeCounters, CallsComeToCounters, CountersStay}
use Rattle.run_blocks.specs.Shards.ShardWords.{RefinesShards, MakesUncounted}
use Rattle.run_blocks.proofs.Shards.Adds.{machine_adds}
use Rattle.run_debts.proofs.Between.{told_same}
use Rattle.run_debts.specs.Given.ScenesScene.{Scene}
use Rattle.run_debts.proofs.Given.General.{same_some as one_of}

-- a machine that is about to add something takes no reply
key_told : {K V : Type 0} (p : KeyCall K V K) (stands : Calling) (told : MachineReply V) → p.stands ≡ stands → counts_in_calling stands ≡ true → adds_in_calling (replied_at stands p told).0.stands ≡ adds_in_calling p.stands
key_told p (at.Counts removed) told is counts = refl
key_told p _ told is counts = absurd (cc counts)

swept_told : {V : Type 0} (p : Sweep) (stands : Sweeping) (told : MachineReply V) → p.stands ≡ stands → counts_in_sweeping stands ≡ true → adds_in_sweeping (sweep_with_reply stands p told).0.stands ≡ adds_in_sweeping p.stands
swept_told p (sweeping.Counts removed) told is counts = refl
swept_told p _ told is counts = absurd (cc counts)

module _ {K V : Type 0} where
  counting_told : (machine : Machine K V K) (told : MachineReply V) → is_to_count machine ≡ true → adds_of (machine_replied machine told).0 ≡ adds_of machine
  counting_told (kinds.Key p) told counts = key_told p p.stands told refl counts
  counting_told (kinds.Sweep c) told counts = swept_told c c.stands told refl counts
  counting_told (kinds.Reserve r) told counts = refl
  counting_told (kinds.Count sum) told counts = refl

  -- so what one adds that was told something it was about to add
  told_adds : (machine : Machine K V K) (told : MachineReply V) (removed : ℕ) → adds_of (machine_replied machine told).0 ≡ Some removed → adds_of machine ≡ Some removed
  told_adds machine told removed is =
      let counts = sym (told_same machine told) ∙ machine_adds (machine_replied machine told).0 removed is in sym (counting_told machine told counts) ∙ is

  -- what a call is told, and what it comes to, leaves it what it has gained and lost
  abbrev Keeps : CallThere K V → CallThere K V → Type 0
  Keeps c d = (d.gained ≡ c.gained) × (d.lost ≡ c.lost)

  replied_keeps : (reply : Reply V) (c : CallThere K V) (stands : CallState) → Keeps c (replied reply c stands)
  replied_keeps reply c Going = (refl, refl)
  replied_keeps reply c (Asking q) = (refl, refl)
  replied_keeps reply c WasTold = (refl, refl)
  replied_keeps reply c IsReady = (refl, refl)

  asks_keeps : (question : Option ℕ) (c : CallThere K V) (stands : CallState) → Keeps c (asks_on question c stands)
  asks_keeps question c Going = (refl, refl)
  asks_keeps question c (Asking q) = (refl, refl)
  asks_keeps question c WasTold = (refl, refl)
  asks_keeps question c IsReady = (refl, refl)

  comes_keeps : (o : Outcome V) (c : CallThere K V) → Keeps c (with_outcome o c)
  comes_keeps outcome.Done c = (refl, refl)
  comes_keeps (outcome.Slot n) c = (refl, refl)
  comes_keeps outcome.Goes c = (refl, refl)
  comes_keeps (outcome.Asks question) c = asks_keeps question c c.stands
  comes_keeps outcome.Waits c = (refl, refl)
  comes_keeps outcome.Ready c = (refl, refl)
  comes_keeps (outcome.Shows n) c = (refl, refl)
  comes_keeps (outcome.Answered a) c = (refl, refl)
  comes_keeps (outcome.Shape tables) c = (refl, refl)
  comes_keeps (outcome.Refused fault) c = (refl, refl)

  come_keeps : (o : Outcome V) (steps : ℕ) (c : CallThere K V) → Keeps c (come o steps c)
  come_keeps o steps c = comes_keeps o (record c { steps = c.steps + steps })

  adds_on : (removed : ℕ) (c d : CallThere K V) → Keeps c d → Adds removed c → Adds removed d
  adds_on removed c d keeps adds = (keeps.0 ∙ adds.0, keeps.1 ∙ adds.1)

  -- calls of which one is changed, that keeps what it has gained and lost
  module _ (change : CallThere K V → CallThere K V) (same : (c : CallThere K V) → IsOfSame c (change c)) (keeps : (c : CallThere K V) → Keeps c (change c)) (own : List ℕ)
      (name : ℕ → List ℕ) (m v : Moment K V) (calls_are : v.calls ≡ map (changed change same own) m.calls) where
    changed_keeps : (c : CallThere K V) → Keeps c (changed change same own c)
    changed_keeps c = by (is_same c.caller own)
      where
        by : (q : Bool) → Keeps c (if q then change c else c)
        by true = keeps c
        by false = (refl, refl)

    adds_changed : (removed j : ℕ) (c d : CallThere K V) → call_of (name j) m ≡ Some c → call_of (name j) v ≡ Some d → Adds removed c → Adds removed d
    adds_changed removed j c d c_is d_is adds =
        let now = found change same own (name j) m.calls c c_is in
        let there = ap (λ (l : List (CallThere K V)). find (λ x. is_same x.caller (name j)) l) (sym calls_are) ∙ d_is in
        subst (Adds removed) (one_of (changed change same own c) d (sym now ∙ there)) (adds_on removed c (changed change same own c) (changed_keeps c) adds)

-- where a call begins that has nothing to count
pub calls_begin_counters : (K V : Type 0) → CallsBeginCounters K V
calls_begin_counters K V name m s counters of i u call guard apart none = record { shards = counters.shards; makes = counters.makes; adds = adds_then }
  where
    v : Moment K V
    v = with_call (name i) guard call (Some of) m

    adds_then : (n j : ℕ) (x : UnderWay K V K) → with_in s.calls of i (Some u) n j ≡ Some x → (removed : ℕ) → adds_of (machine_of x) ≡ Some removed → (c : CallThere K V) → call_of (name j) v ≡ Some c → Adds removed c
    adds_then n j x is removed to_add c c_is = elim (which s.calls of i (Some u) n j x is) as (λ _. Adds removed c) [
      | inl it ↦
          absurd (let counts = machine_adds (machine_of u) removed (ap (λ (y : UnderWay K V K). adds_of (machine_of y)) (one_of u x it.2) ∙ to_add) in cc (counts, none))
      | inr was ↦
          let beside : call_of (name j) v ≡ call_of (name j) m =
          ap (λ z. cond z (Some (fresh_call (name i) guard call of m.events)) (find (λ c. is_same c.caller (name j)) m.calls)) (apart n j x was.1) in
          counters.adds n j x was.1 removed to_add c (sym beside ∙ c_is)
    ]

-- where one that asks is told a reply
pub calls_take_counters : (K V : Type 0) → CallsTakeCounters K V
calls_take_counters K V same name m known s whole counters of i u here reply next is is_told = record { shards = counters.shards; makes = counters.makes; adds = adds_then }
  where
    change : CallThere K V → CallThere K V
    change c = replied is_told c c.stands

    v : Moment K V
    v = record m { calls = map (changed change (λ c. replied_same is_told c c.stands) (name i)) m.calls }

    on : (removed j : ℕ) (c d : CallThere K V) → call_of (name j) m ≡ Some c → call_of (name j) v ≡ Some d → Adds removed c → Adds removed d
    on = adds_changed change (λ c. replied_same is_told c c.stands) (λ c. replied_keeps is_told c c.stands) (name i) name m v refl

    adds_then : (n j : ℕ) (x : UnderWay K V K) → with_in s.calls of i (Some next) n j ≡ Some x → (removed : ℕ) → adds_of (machine_of x) ≡ Some removed → (d : CallThere K V) → call_of (name j) v ≡ Some d → Adds removed d
    adds_then n j x there removed to_add d d_is = elim (which s.calls of i (Some next) n j x there) as (λ _. Adds removed d) [
      | inl it ↦
          let c = whole.all.shown.calls of i u here in
          let machine : machine_of x ≡ (machine_replied (machine_of u) reply).0 = ap machine_of (sym (one_of next x it.2)) ∙ is in
          let before = told_adds (machine_of u) reply removed (ap adds_of (sym machine) ∙ to_add) in
          on removed i c.0 d c.1 (ap (λ (k : ℕ). call_of (name k) v) (sym it.1) ∙ d_is) (counters.adds of i u here removed before c.0 c.1)
      | inr was ↦
          let c = whole.all.shown.calls n j x was.1 in
          on removed j c.0 d c.1 d_is (counters.adds n j x was.1 removed to_add c.0 c.1)
    ]

-- where one comes to an outcome
module _ {K V : Type 0} (same : K → K → Bool) (name : ℕ → List ℕ) (m v : Moment K V) (s : Scene K V) (shown : RefinesCalls same name m s.calls) (adds : RefinesAdds name m s) where
  -- the calls that are under way are there, but for that of this name
  pub fewer_add : (own : List ℕ) → NoneNamed name own s → v.calls ≡ without_call own m.calls → RefinesAdds name v s
  fewer_add own apart calls_are n j x is removed to_add d d_is =
      let there = shown n j x is in
      let is_its = caller_is (name j) m there.0 there.1 in
      let kept : not (is_same there.0.caller own) ≡ true = ap (λ (l : List ℕ). not (is_same l own)) is_its ∙ ap not (apart_back own (name j) (apart n j x is)) in
      let found_now = ap (λ (l : List (CallThere K V)). find (λ x. is_same x.caller (name j)) l) calls_are ∙ found_kept (λ c. is_same c.caller (name j)) (λ c. not (is_same c.caller own)) m.calls there.0 there.1 kept in
      subst (Adds removed) (one_of there.0 d (sym found_now ∙ d_is)) (adds n j x is removed to_add there.0 there.1)

  changed_add : (change : CallThere K V → CallThere K V) (is_of : (c : CallThere K V) → IsOfSame c (change c)) → ((c : CallThere K V) → Keeps c (change c)) → (own : List ℕ)
      → v.calls ≡ map (changed change is_of own) m.calls → RefinesAdds name v s
  changed_add change is_of keeps own calls_are n j x is removed to_add d d_is =
      let there = shown n j x is in adds_changed change is_of keeps own name m v calls_are removed j there.0 d there.1 d_is (adds n j x is removed to_add there.0 there.1)

pub calls_come_to_counters : (K V : Type 0) → CallsComeToCounters K V
calls_come_to_counters K V same name m known s whole counters own o steps ended = record { shards = counters.shards; makes = counters.makes; adds = by (ends_call o) refl }
  where
    by : (q : Bool) → ends_call o ≡ q → RefinesAdds name (record m { calls = if q then without_call own m.calls else map (λ c. if is_same c.caller own then come o steps c else c) m.calls }) s
    by true e = fewer_add same name m (record m { calls = without_call own m.calls }) s whole.all.shown.calls counters.adds own (ended e) refl
    by false e = changed_add same name m (record m { calls = map (λ c. if is_same c.caller own then come o steps c else c) m.calls }) s whole.all.shown.calls counters.adds (come o steps) (come_of_same o steps) (come_keeps o steps) own refl

-- it is so at another moment that has the same calls and shards
pub counters_stay : (K V : Type 0) → CountersStay K V
counters_stay K V name m v s t counters calls shards memory maps makers fewer = record { shards = shards_then; makes = makes_then; adds = adds_then }
  where
    shards_then : RefinesShards v t
    shards_then n st is shard few =
        ap (λ (x : Mem (Node K V)). word_at x (Word st.setting.counter shard)) memory
        ∙ counters.shards n st (subst (λ (f : ℕ → Option (Standing K)). f n ≡ Some st) maps is) shard few ∙ ap (λ (f : ℕ → ℕ → ℕ). Some (f n shard)) (sym shards)

    makes_then : MakesUncounted v t
    makes_then i b is =
        let was = counters.makes i b (subst (λ (f : ℕ → Option (Beginning K)). f i ≡ Some b) makers is) in (
          λ shard. ap (λ (f : ℕ → ℕ → ℕ). f b.map shard) shards ∙ was.0 shard,
          λ has_made shard few. ap (λ (x : Mem (Node K V)). word_at x (Word b.machine.setting.counter shard)) memory ∙ was.1 has_made shard few,
        )

    adds_then : RefinesAdds name v t
    adds_then n i u is removed to_add c found_now =
        let before = fewer n i u is removed to_add in
        counters.adds n i before.0 before.1 removed before.2 c (ap (λ (cs : List (CallThere K V)). find (λ x. is_same x.caller (name i)) cs) (sym calls) ∙ found_now)

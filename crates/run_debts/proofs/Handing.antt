-- Each call whose row is under way hands something over: after each step of a call, as others take steps, and where a call begins, is told a reply, or has come to an outcome.
use Rattle.std.specs.Prelude.{◌≡◌, ◌≢◌, ◌+◌, ◌++◌, ◌||◌, ℕ, Bool, true, false, cond, not, List, [], ◌∷◌, find, length, map, Option, Some, None, if◌then◌else◌}
use Rattle.std.proofs.Common.{refl, ap, sym, subst, ◌∙◌, inl, inr}
use Rattle.run_places.specs.Given.SeizeWorld.{World, Row, Rests, Event, Runs}
use Rattle.run_places.specs.Given.TablesNodes.{deferred_word}
use Rattle.run_places.specs.Given.TablesDeclared.node.Node.{Node}
use Rattle.run_places.specs.Given.RunsSame.{is_same}
use Rattle.run_places.specs.Given.RawDeclared.machines.progress.Progress.{Progress}
use Rattle.run_places.specs.Given.RunsDeclared.call.Reply.{Reply}
use Rattle.run_places.specs.Given.RunsDeclared.effect.Effect.{Effect}
use Rattle.run_places.specs.Given.RunsDeclared.effect.Effect.TheVariants as effect
use Rattle.run_places.specs.Given.RunsDeclared.effect.Thing.{Thing}
use Rattle.run_places.specs.Given.RunsDeclared.outcome.Outcome.{Outcome}
use Rattle.run_places.specs.Given.RunsDeclared.outcome.Outcome.TheVariants as outcome
use Rattle.run_places.specs.Given.SchedulesAfter.{asks_on, with_outcome, replied, without_call}
use Rattle.run_places.specs.Given.SchedulesBeginning.{fresh_call}
use Rattle.run_places.specs.Given.SchedulesEffects.{call_by, due_for, out_by, with_effect, with_effects}
use Rattle.run_places.specs.Given.SchedulesEntry.{ends_call}
use Rattle.run_places.specs.Given.SchedulesInUse.{is_handing}
use Rattle.run_places.specs.Given.SchedulesLists.{is_empty}
use Rattle.run_places.specs.Given.SchedulesMoment.{CallState, Going, Asking, Told as WasTold, IsReady, UnderWay as CallThere, Moment}
use Rattle.run_places.specs.Given.SchedulesViews.{call_of}
use Rattle.run_places.specs.Given.RuleInWorld.{AllUsers}
use Rattle.owner_facts.specs.Given.CallersTogether.{UnderWay, OnKey, ForRoom, Counting, OverAll}
use Rattle.owner_facts.proofs.Given.CallersTogether.Users.{events_rows}
use Rattle.run_places.specs.Given.EffectsEffects.{effects_of}
use Rattle.run_places.specs.Given.EffectsKnown.{Known}
use Rattle.run_places.specs.Given.EffectsDeclared.acting.Acting.TheVariants as acts
use Rattle.run_places.specs.Given.FollowsCalls.{IsCalled, RefinesCalls}
use Rattle.run_places.specs.Given.FollowsShows.{Refines}
use Rattle.run_places.proofs.Given.FollowsCalling.{apart_back, found_kept, come, come_of_same, replied_same}
use Rattle.run_places.proofs.Given.FollowsCalls.{IsOfSame, changed, found}
use Rattle.run_places.proofs.Given.FollowsSteps.{DidSo, WentTo, went_to}
use Rattle.run_places.proofs.Hands.Asking.{which}
use Rattle.run_places.proofs.Hands.Calling.{caller_is}
use Rattle.run_places.proofs.Changes.Changes.{acted_on}
use Rattle.run_places.specs.Moments.Whole.{RefinesWhole}
use Rattle.run_places.specs.Given.OthersWalks.{given_up}
use Rattle.run_debts.specs.Hand.{RefinesObligations}
use Rattle.run_debts.specs.Handing.{RowsAreHandingOver, CallsBeginHanding, CallsComeToHanding, CallsPreserveHanding, CallsTakeHanding, HandingBegins, OthersLeaveHanding, WalksPreserveHanding, WalksStopHanding}
use Rattle.run_debts.proofs.Gains.{others_stay}
use Rattle.run_debts.proofs.HandingRows.{IsInRow, is_in_row, row_hands}
use Rattle.run_debts.proofs.Owing.{due_owes}
use Rattle.run_places.specs.Given.ScenesHeld.{Held, IsAt}
use Rattle.run_places.specs.Given.ScenesScene.{Scene}
use Rattle.run_places.specs.Given.ScenesStepping.{StepLeads, scene_after}
use Rattle.run_places.proofs.Given.General.{same_some as one_of}

-- A call that hands something over does so after whatever effects of it.
abbrev hands : List Thing → Bool → Bool
hands owes handed = not (is_empty owes) || handed

grown : (owes more : List Thing) (handed : Bool) → hands owes handed ≡ true → hands (owes ++ more) handed ≡ true
grown [] [] handed e = e
grown [] (x ∷ more) handed e = refl
grown (x ∷ owes) more handed e = refl

or_true : (b : Bool) → (b || true) ≡ true
or_true true = refl
or_true false = refl

module _ {K V : Type 0} where
  -- with what a call on one key is to answer
  due_hands : (c d : CallThere K V) → d.owes ≡ c.owes → d.has_handed ≡ c.has_handed → is_handing d ≡ is_handing c
  due_hands c d owes handed = ap (λ (l : List Thing). hands l d.has_handed) owes ∙ ap (hands c.owes) handed

  one_hands : (m : Moment K V) (f : Effect) (c : CallThere K V) → is_handing c ≡ true → is_handing (call_by m f c) ≡ true
  one_hands m (effect.Asked growth) c e = e
  one_hands m effect.PairMade c e = e
  one_hands m effect.PairGivenUp c e = e
  one_hands m (effect.TableMade t) c e = e
  one_hands m (effect.TableGivenUp t) c e = e
  one_hands m (effect.Linked t shape) c e = e
  one_hands m (effect.Promoted t) c e = grown c.owes (out_by m (effect.Promoted t)) c.has_handed e
  one_hands m (effect.Copied n s) c e = e
  one_hands m (effect.Stored n s) c e = let due = due_owes c.call c c.replacing n in due_hands c (due_for c.call c c.replacing n) due.0 due.1 ∙ e
  one_hands m (effect.Replaced n) c e = grown c.owes _ c.has_handed e
  one_hands m (effect.Removed n) c e =
      ap (hands _) (due_owes c.call c (Some n) (length m.stored + 1)).1 ∙ grown c.owes _ c.has_handed e
  one_hands m (effect.Counted s) c e = e
  one_hands m (effect.Deferred n t) c e = or_true _
  one_hands m (effect.Retired x) c e = or_true _
  one_hands m (effect.Reclaimed x) c e = e
  one_hands m (effect.Ended n) c e = e
  one_hands m (effect.Taken t) c e = e

  all_hand : (own : List ℕ) (map : ℕ) (effects : List Effect) (m : Moment K V) (c : CallThere K V) → call_of own m ≡ Some c → is_handing c ≡ true
      → (d : CallThere K V) × (call_of own (with_effects (Some own) (Some map) effects m) ≡ Some d) × (is_handing d ≡ true)
  all_hand own map [] m c is e = (c, is, e)
  all_hand own map (f ∷ fs) m c is e = all_hand own map fs (with_effect (Some own) (Some map) f m) (call_by m f c) (acted_on own map f m c is) (one_hands m f c e)

  -- what a call is told, and what it comes to, leaves that as it was
  replied_hands : (reply : Reply V) (c : CallThere K V) (stands : CallState) → is_handing (replied reply c stands) ≡ is_handing c
  replied_hands reply c Going = refl
  replied_hands reply c (Asking q) = refl
  replied_hands reply c WasTold = refl
  replied_hands reply c IsReady = refl

  asks_hands : (question : Option ℕ) (c : CallThere K V) (stands : CallState) → is_handing (asks_on question c stands) ≡ is_handing c
  asks_hands question c Going = refl
  asks_hands question c (Asking q) = refl
  asks_hands question c WasTold = refl
  asks_hands question c IsReady = refl

  comes_hands : (o : Outcome V) (c : CallThere K V) → is_handing (with_outcome o c) ≡ is_handing c
  comes_hands outcome.Done c = refl
  comes_hands (outcome.Slot n) c = refl
  comes_hands outcome.Goes c = refl
  comes_hands (outcome.Asks question) c = asks_hands question c c.stands
  comes_hands outcome.Waits c = refl
  comes_hands outcome.Ready c = refl
  comes_hands (outcome.Shows n) c = refl
  comes_hands (outcome.Answered a) c = refl
  comes_hands (outcome.Shape tables) c = refl
  comes_hands (outcome.Refused fault) c = refl

-- before all events there is no call
pub handing_begins : (K V : Type 0) → HandingBegins K V
handing_begins K V roots name map i u is moves c c_is = absurd (cc is)

-- A step of a call.
module _ {K V : Type 0} (same : K → K → Bool) (hash : ℕ → K → ℕ) (name : ℕ → List ℕ) (m : Moment K V) (known : Known) (s : Scene K V) (old new : Held K V) (at : IsAt same hash old s)
    (whole : RefinesWhole same name m known s) (owed : RefinesObligations name m known s) (told : RowsAreHandingOver name m s) (map i : ℕ) (u : UnderWay K V K) (here : s.calls map i ≡ Some u) (said : Progress (Node K V))
    (leads : StepLeads same hash i said s old new) where
  abbrev shown : Refines same name m known s
  shown = whole.all.shown

  abbrev to : WentTo same hash name m known s old new at shown map i u here said leads
  to = went_to same hash name m known s old new at shown map i u here said leads

  abbrev effects : List Effect
  effects = effects_of (acts.Call i map) known new.changed

  abbrev v : Moment K V
  v = with_effects (Some (name i)) (Some map) effects m

  abbrev led : Scene K V
  led = scene_after same s old new map i to.0 u to.1 said to.4

  abbrev its : (c : CallThere K V) × (call_of (name i) m ≡ Some c) × (c.map ≡ map) × IsCalled same u c.call
  its = shown.calls map i u here

  -- a step that is none of a row leaves rows as they were
  rows_stay : to.4.w2.row i ≡ s.world.row i → (to.4.w2.row i ≡ Rests → ⊥) → is_handing its.0 ≡ true
  rows_stay row moves = told map i u here (λ rests. moves (row ∙ rests)) its.0 its.1

  users_stay : (size : ℕ) (events : List (Event (Node K V))) (w2 : World (Node K V)) → AllUsers events → Runs deferred_word size events s.world w2 → to.4.w2 ≡ w2 → to.4.w2.row i ≡ s.world.row i
  users_stay size events w2 users runs is =
      ap (λ (w : World (Node K V)). w.row i) is ∙ ap (λ (f : ℕ → Row). f i) (events_rows size events s.world w2 users runs)

  own_hands : (to.4.w2.row i ≡ Rests → ⊥) → is_handing its.0 ≡ true
  own_hands moves = by u refl to.4.did
    where
      in_row : (x : UnderWay K V K) → u ≡ x → IsInRow x → is_handing its.0 ≡ true
      in_row x is row = row_hands same hash name m known s old at map i u here owed told its.0 its.1 (subst IsInRow (sym is) row)

      by : (x : UnderWay K V K) → u ≡ x → (did : DidSo same hash name m known s old new at shown map i u here said leads x) → is_handing its.0 ≡ true
      by (OnKey x) is (p2, end, machine_is, told_is, inl (step, moved)) = rows_stay (users_stay _ step.step.went.events step.step.went.w2 step.step.went.users step.step.went.runs moved.0) moves
      by (OnKey x) is (p2, end, machine_is, told_is, inr (row, stayed)) = in_row (OnKey x) is row.is_row
      by (ForRoom x) is (p2, end, machine_is, told_is, inl (step, moved)) = rows_stay (users_stay _ step.step.went.events step.step.went.w2 step.step.went.users step.step.went.runs moved.0) moves
      by (ForRoom x) is (p2, end, machine_is, told_is, inr (row, stayed)) = in_row (ForRoom x) is row.is_row
      by (Counting x) is (sum2, end, machine_is, told_is, memory, stayed) = rows_stay (ap (λ (w : World (Node K V)). w.row i) stayed.0) moves
      by (OverAll x) is (p2, end, machine_is, told_is, inl (step, moved)) = rows_stay (users_stay _ step.step.went.events step.step.went.w2 step.step.went.users step.step.went.runs moved.0) moves
      by (OverAll x) is (p2, end, machine_is, told_is, inr (row, stayed)) = in_row (OverAll x) is row.is_row

  own_then : (to.4.w2.row i ≡ Rests → ⊥) → (d : CallThere K V) → call_of (name i) v ≡ Some d → is_handing d ≡ true
  own_then moves d d_is =
      let after = all_hand (name i) map effects m its.0 its.1 (own_hands moves) in ap (λ (x : CallThere K V). is_handing x) (one_of d after.0 (sym d_is ∙ after.1)) ∙ after.2

  -- others do as they did
  other_then : (n j : ℕ) (x : UnderWay K V K) → (n ≡ map → j ≡ i → ⊥) → s.calls n j ≡ Some x → (to.4.w2.row j ≡ Rests → ⊥) → (d : CallThere K V) → call_of (name j) v ≡ Some d → is_handing d ≡ true
  other_then n j x apart was moves d d_is =
      let c = shown.calls n j x was in
      let stays = others_stay (name i) map (name j) effects m c.0 (by c.0 c.1 (is_same c.0.caller (name i)) refl) c.1 in
      ap (λ (y : CallThere K V). is_handing y) (one_of d c.0 (sym d_is ∙ stays)) ∙ told n j x was (λ rests. moves (to.4.rows j ne ∙ rests)) c.0 c.1
    where
      ne : j ≢ i
      ne e =
          let was_i : s.calls n i ≡ Some x = ap (s.calls n) (sym e) ∙ was in
          apart (at.together.makings.standing.once n map i (λ z. cc (was_i, z)) (λ z. cc (here, z))) e

      by : (c : CallThere K V) → call_of (name j) m ≡ Some c → (q : Bool) → is_same c.caller (name i) ≡ q → is_same c.caller (name i) ≡ false
      by c c_is true e =
          absurd (let names : is_same (name j) (name i) ≡ true = ap (λ (l : List ℕ). is_same l (name i)) (sym (caller_is (name j) m c c_is)) ∙ e in
          let both = whole.all.asked.apart n j map i x u was here names in apart both.0 both.1)
      by c c_is false e = e

  pub kept : RowsAreHandingOver name v led
  kept n j x is moves d d_is = elim (which s.calls map i to.4.next n j x is) as (λ _. is_handing d ≡ true) [
    | inl it ↦ own_then (λ rests. moves (ap to.4.w2.row it.1 ∙ rests)) d (ap (λ (k : ℕ). call_of (name k) v) (sym it.1) ∙ d_is)
    | inr was ↦ other_then n j x was.0 was.1 moves d d_is
  ]

pub calls_keep_handing : (K V : Type 0) (same : K → K → Bool) (hash : ℕ → K → ℕ) → CallsPreserveHanding K V same hash
calls_keep_handing K V same hash name m known s old new at whole owed told map i u here said leads = kept same hash name m known s old new at whole owed told map i u here said leads

-- What is no call leaves it as it was: whose row is under way then is within a row, and was.
pub others_leave_handing : (K V : Type 0) (same : K → K → Bool) (hash : ℕ → K → ℕ) → OthersLeaveHanding K V same hash
others_leave_handing K V same hash name m v known s t old new at at_then owed told same_calls under_way map i u is moves c c_is =
    row_hands same hash name m known s old at map i u was owed told c (ap (λ (l : List (CallThere K V)). find (λ y. is_same y.caller (name i)) l) (sym same_calls) ∙ c_is)
    (is_in_row same hash name v known t new at_then map i u is moves)
  where
    was : s.calls map i ≡ Some u
    was = ap (λ (f : ℕ → ℕ → Option (UnderWay K V K)). f map i) (sym under_way) ∙ is

-- A walk goes on to its next pair,
pub walks_go_on_handing : (K V : Type 0) (same : K → K → Bool) (hash : ℕ → K → ℕ) → WalksPreserveHanding K V same hash
walks_go_on_handing K V same hash name m s old new told i leads of u here n j x is moves c c_is = elim (which s.calls of i (Some (leads of u here).0) n j x is) as (λ _. is_handing c ≡ true) [
  | inl it ↦ told of i u here (λ rests. moves (ap s.world.row it.1 ∙ rests)) c (ap (λ (k : ℕ). call_of (name k) m) (sym it.1) ∙ c_is)
  | inr was ↦ told n j x was.1 moves c c_is
]

-- The calls that are under way are there, but for that of a name.
module _ {K V : Type 0} (same : K → K → Bool) (name : ℕ → List ℕ) (m v : Moment K V) (calls : ℕ → ℕ → Option (UnderWay K V K)) (shown : RefinesCalls same name m calls) where
  fewer : (own : List ℕ) → v.calls ≡ without_call own m.calls → (n j : ℕ) (x : UnderWay K V K) → calls n j ≡ Some x → is_same own (name j) ≡ false
      → (d : CallThere K V) → call_of (name j) v ≡ Some d → call_of (name j) m ≡ Some d
  fewer own calls_are n j x is apart d d_is =
      let there = shown n j x is in
      let is_its = caller_is (name j) m there.0 there.1 in
      let kept : not (is_same there.0.caller own) ≡ true = ap (λ (l : List ℕ). not (is_same l own)) is_its ∙ ap not (apart_back own (name j) apart) in
      let found_now =
      ap (λ (l : List (CallThere K V)). find (λ y. is_same y.caller (name j)) l) calls_are
      ∙ found_kept (λ c. is_same c.caller (name j)) (λ c. not (is_same c.caller own)) m.calls there.0 there.1 kept in
      there.1 ∙ ap Some (one_of there.0 d (sym found_now ∙ d_is))

  -- or one of them is changed, and hands over as before
  one_changed : (change : CallThere K V → CallThere K V) (is_of : (c : CallThere K V) → IsOfSame c (change c)) → ((c : CallThere K V) → is_handing (change c) ≡ is_handing c) → (own : List ℕ)
      → v.calls ≡ map (changed change is_of own) m.calls → (n j : ℕ) (x : UnderWay K V K) → calls n j ≡ Some x → (d : CallThere K V) → call_of (name j) v ≡ Some d
      → (c : CallThere K V) × (call_of (name j) m ≡ Some c) × (is_handing d ≡ is_handing c)
  one_changed change is_of keeps own calls_are n j x is d d_is =
      let there = shown n j x is in
      let now = found change is_of own (name j) m.calls there.0 there.1 in
      let found_then = ap (λ (l : List (CallThere K V)). find (λ y. is_same y.caller (name j)) l) (sym calls_are) ∙ d_is in
      (there.0, there.1, ap (λ (y : CallThere K V). is_handing y) (one_of d (changed change is_of own there.0) (sym found_then ∙ now)) ∙ by there.0 (is_same there.0.caller own))
    where
      by : (c : CallThere K V) (q : Bool) → is_handing (if q then change c else c) ≡ is_handing c
      by c true = keeps c
      by c false = refl

-- or is given up
pub walks_stop_handing : (K V : Type 0) (same : K → K → Bool) (hash : ℕ → K → ℕ) → WalksStopHanding K V same hash
walks_stop_handing K V same hash name m s old new shown told i true leads of u here apart n j x is moves d d_is =
    told n j x was moves d (fewer same name m (given_up (name i) true m) s.calls shown (name i) refl n j x was (apart refl n j x is) d d_is)
  where
    was : s.calls n j ≡ Some x
    was = elim (which s.calls of i None n j x is) as (λ _. s.calls n j ≡ Some x) [
      | inl it ↦ absurd (let none = it.2 in cc none)
      | inr before ↦ before.1
    ]
walks_stop_handing K V same hash name m s old new shown told i false leads of u here apart n j x is moves d d_is = elim (which s.calls of i (Some u) n j x is) as (λ _. is_handing d ≡ true) [
  | inl it ↦ told of i u here (λ rests. moves (ap s.world.row it.1 ∙ rests)) d (ap (λ (k : ℕ). call_of (name k) m) (sym it.1) ∙ d_is)
  | inr was ↦ told n j x was.1 moves d d_is
]

-- where a call begins, whose row rests
pub calls_begin_handing : (K V : Type 0) → CallsBeginHanding K V
calls_begin_handing K V name m s told of i u call guard apart rests n j x is moves c c_is = elim (which s.calls of i (Some u) n j x is) as (λ _. is_handing c ≡ true) [
  | inl it ↦ absurd (moves (ap s.world.row it.1 ∙ rests))
  | inr was ↦
      told n j x was.1 moves c
      (sym (ap (λ z. cond z (Some (fresh_call (name i) guard call of m.events)) (find (λ y. is_same y.caller (name j)) m.calls)) (apart n j x was.1)) ∙ c_is)
]

-- where one that asks is told a reply
pub calls_take_handing : (K V : Type 0) → CallsTakeHanding K V
calls_take_handing K V same name m s shown told of i u here next is_told n j x is moves d d_is = elim (which s.calls of i (Some next) n j x is) as (λ _. is_handing d ≡ true) [
  | inl it ↦
      let d_its : call_of (name i) v ≡ Some d = ap (λ (k : ℕ). call_of (name k) v) (sym it.1) ∙ d_is in
      let was = one_changed same name m v s.calls shown change (λ c. replied_same is_told c c.stands) (λ c. replied_hands is_told c c.stands) (name i) refl of i u here d d_its in
      was.2 ∙ told of i u here (λ rests. moves (ap s.world.row it.1 ∙ rests)) was.0 was.1
  | inr was ↦
      let before = one_changed same name m v s.calls shown change (λ c. replied_same is_told c c.stands) (λ c. replied_hands is_told c c.stands) (name i) refl n j x was.1 d d_is in
      before.2 ∙ told n j x was.1 moves before.0 before.1
]
  where
    change : CallThere K V → CallThere K V
    change c = replied is_told c c.stands

    v : Moment K V
    v = record m { calls = map (changed change (λ c. replied_same is_told c c.stands) (name i)) m.calls }

-- and where one comes to an outcome
pub calls_come_to_handing : (K V : Type 0) → CallsComeToHanding K V
calls_come_to_handing K V same name m s shown told own o steps ended = by (ends_call o) refl
  where
    by : (q : Bool) → ends_call o ≡ q → RowsAreHandingOver name (record m { calls = if q then without_call own m.calls else map (λ c. if is_same c.caller own then come o steps c else c) m.calls }) s
    by true e n j x is moves d d_is = told n j x is moves d (fewer same name m (record m { calls = without_call own m.calls }) s.calls shown own refl n j x is (ended e n j x is) d d_is)
    by false e n j x is moves d d_is =
        let before = one_changed same name m (record m { calls = map (changed (come o steps) (come_of_same o steps) own) m.calls }) s.calls shown (come o steps) (come_of_same o steps) (λ c. comes_hands o (record c { steps = c.steps + steps })) own refl n j x is d d_is in
        before.2 ∙ told n j x is moves before.0 before.1

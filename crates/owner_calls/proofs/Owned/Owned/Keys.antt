-- A call on one key of one owner's map, run to its end.
use Rattle.std.specs.Prelude.{◌≡◌, ℕ, ◌^◌, ◌<◌, ◌≤◌, Bool, true, Option, Some, Result, Ok, Err}
use Rattle.std.specs.Int.{IsPowerOfTwo}
use Rattle.std.proofs.Common.{refl, sym, ◌∙◌, ap, subst, arith}
use denote.Ref.{Bor}
use Rattle.seize_words.specs.OneMemory.Mem.{Mem, Can, Took, value_at}
use Rattle.seize_words.specs.OneMemory.Op.{Op, Out}
use Rattle.seize_words.specs.OneMemory.Plan.{Plan, Then, Turn, Do, Now, Seeing, Sure, May, MaySee, Steps, plan_as, then_as}
use Rattle.seize_words.specs.declared.fault.Fault.{Fault}
use Rattle.seize_words.specs.declared.fault.Fault.TheVariants.{RemoveNothing}
use Rattle.seize.specs.World.{World}
use Rattle.seize.specs.declared.advance.Advance.{Advance}
use Rattle.map_straight.proofs.Given.SeizeRuleRows.Leaving.{steps_back}
use Rattle.map_tables.specs.Chunks.{is_incremental}
use Rattle.map_tables.specs.declared.node.Node.{Node}
use Rattle.map_tables.specs.declared.setting.Setting.{Setting}
use Rattle.papaya_raw.specs.Call.{call_plan}
use Rattle.papaya_raw.specs.declared.machines.answer.Called.{Called}
use Rattle.papaya_raw.specs.declared.machines.answer.Called.TheVariants as called
use Rattle.papaya_raw.specs.declared.machines.answer.KeyAnswer.{KeyAnswer}
use Rattle.papaya_raw.specs.declared.machines.asking.Asking.{Asking}
use Rattle.papaya_raw.specs.declared.machines.call.KeyCall.{KeyCall}
use Rattle.papaya_raw.specs.declared.machines.call.Calling.TheVariants as points
use Rattle.map_straight.specs.Given.RuleChart.{Chart}
use Rattle.map_straight.specs.Given.RuleMaps.{spot_of}
use Rattle.map_straight.specs.Given.RuleRule.{Rule}
use Rattle.map_straight.specs.Given.RuleWords.{Blocks}
use Rattle.owner_whole.specs.Given.PointsFactsCalls.{Change, Unchanged}
use Rattle.owner_whole.specs.Given.PointsSteps.{AreLawful}
use Rattle.owner_whole.specs.Given.AloneCounted.{HasAdded, counted_at, counted_for}
use Rattle.owner_whole.specs.Given.AloneEndings.{RunsEnd, runs_end}
use Rattle.owner_whole.specs.Given.CallersPairs.{Given, RemovesNone, kind_of}
use Rattle.owner_whole.specs.Given.LateFaults.{HoldsInCalling}
use Rattle.owner_whole.specs.Given.LateKinds.{IsFit, StepFits, FaultFits, OutcomeFits}
use Rattle.owner_whole.proofs.Given.LateKindsKept.Laws.{calls_keep_their_kind}
use Rattle.owner_whole.specs.Given.CallersSights.{Visible}
use Rattle.owner_whole.specs.Given.CallersTogether.{CallOnKey, OnKey as OnKeyOf, AnswersOnce, in_slot}
use Rattle.map_straight.specs.Given.RuleInWorld.{IsMapIn}
use Rattle.owner_whole.specs.Whole.Contents.{HasRun}
use Rattle.owner_whole.specs.Whole.Limits.{IsForTheLast, IsTheLast}
use Rattle.owner_whole.specs.Whole.Owner.{IsQuiescent, IsAlone}
use Rattle.owner_whole.specs.Whole.Whole.{Continues as CallGoesOn, StepsOn, StepLeads}
use Rattle.owner_whole.proofs.Whole.Keys.Whole.{calls_go_on_alone}
use Rattle.owner_whole.proofs.Whole.Keys.Ends.{calls_come_to_an_end}
use Rattle.owner_whole.specs.Strides.Ending.{Continues, Ends, all_end, RunsTo}
use Rattle.owner_calls.specs.Owned.Machines.{on_key_settled, on_key_after, on_key_plan}
use Rattle.owner_calls.specs.declared.machines.OnKey.{OnKey}
use Rattle.owner_calls.specs.declared.machines.Stop.{Stop}
use Rattle.owner_calls.specs.declared.machines.Stop.TheVariants as stop
use Rattle.owner_whole.proofs.Strides.Runs.Comes.{NextOf, run_comes}

-- a step whose outcome is turned into another may be taken where the step may
module _ {T A B M : Type 0} (f : A → B) (can : M → Op T → Type 0) (took : M → Op T → Out T → M → Type 0) (shown : M → ℕ → Option T) where
  see_turned : (look : ℕ → Option T) (rest : Then T A) → MaySee look rest → MaySee look (then_as f rest)
  see_turned look (Now end) may = tt
  see_turned look (Seeing block rest) may = (may.0, λ value is. see_turned look (rest value) (may.1 value is))
  see_turned look (Sure fact rest) may = (may.0, see_turned look rest may.1)

  pub may_turned : (m : M) (plan : Plan T A) → May can took shown m plan → May can took shown m (plan_as f plan)
  may_turned m (Turn rest) may = see_turned (shown m) rest may
  may_turned m (Do op rest) may = (may.0, λ out n t. see_turned (shown n) (rest out) (may.1 out n t))

module _ {K V Q S : Type 0} (same : K → K → Bool) (asks : Q → K → Bool) (hashes : S → K → ℕ) (b : Bor S) (setting : Setting) (lawful : AreLawful same (hashes b.now)) (initial : IsPowerOfTwo setting.initial)
    (m0 : Mem (Node K V)) (c0 : Chart K) (blocks0 : Blocks) (rule0 : Rule same (spot_of (hashes b.now)) (is_incremental setting.mode) c0) (keys : K → Bool) (given : Given K V) where
  abbrev pub hash : K → ℕ
  hash = hashes b.now

  abbrev pub slot_of : ℕ → ℕ
  slot_of i = setting.slot

  abbrev pub it : KeyCall K V Q → Option (Node K V) → OnKey K V Q S
  it p unstored = record { call = p; hasher = b; unstored = unstored }

  abbrev pub going : Change → KeyCall K V Q → CallOnKey K V Q
  going change p = record { keys = keys; pair = given; began = c0.now; change = change; call = p }

  -- it is of its kind
  abbrev pub OfKind : KeyCall K V Q → Type 0
  OfKind p = IsFit (kind_of given).present (kind_of given).absent (kind_of given).takes p

  -- what could be looked at as the map rested can be still, in the same blocks, with the same values
  abbrev pub StillLooked : Mem (Node K V) → Blocks → Type 0
  StillLooked m blocks =
      (o : ℕ) → o < c0.stored → blocks0.pair_known o ≡ true → (blocks.pair_known o ≡ true) × (blocks.pair o ≡ blocks0.pair o) × (value_at m (blocks0.pair o) ≡ value_at m0 (blocks0.pair o))

  -- where it has to tell that a table would be too long, none can follow the last one
  abbrev pub EndsAtLast : Chart K → KeyCall K V Q → Type 0
  EndsAtLast c p = is_incremental setting.mode ≡ true → setting.initial ≤ 2 ^ 48 → HoldsInCalling (IsForTheLast c) (IsTheLast c) p.trial.table p.stands

  -- it is under way, and alone, since the map rested
  pub record Course (p : KeyCall K V Q) (m : Mem (Node K V)) : Type 0 where
    pub w : World (Node K V)
    pub c : Chart K
    pub blocks : Blocks
    pub sights : ℕ → Visible
    pub change : Change
    pub alone : IsAlone same hash asks setting slot_of w c blocks sights (OnKeyOf (going change p))
    pub memory : w.memory ≡ m
    pub runs : HasRun same hash setting keys m0 c0 blocks0 change w.memory c blocks
    pub counts : HasAdded setting m0 (counted_at p.stands) w.memory
    pub fit : OfKind p
    pub looks : StillLooked w.memory blocks
    pub ends : EndsAtLast c p

  -- it has answered, and the map rests
  pub record Answered (m : Mem (Node K V)) (answer : KeyAnswer) : Type 0 where
    pub w : World (Node K V)
    pub c : Chart K
    pub blocks : Blocks
    pub sights : ℕ → Visible
    pub change : Change
    pub call : KeyCall K V Q
    pub rests : IsQuiescent {K = K} {V = V} {Q = Q} same hash asks setting slot_of w c blocks sights
    pub memory : w.memory ≡ m
    pub seen : Blocks
    pub seen_map : IsMapIn same hash (in_slot setting setting.slot) w c seen
    pub sees : (o : ℕ) → o < c.stored → seen.pair_known o ≡ true → seen.pair o ≡ blocks.pair o
    pub looks : StillLooked w.memory blocks
    pub answers : AnswersOnce V same hash asks setting slot_of w c seen 0 (going change call) change answer
    pub runs : HasRun same hash setting keys m0 c0 blocks0 change w.memory c blocks
    pub counts : HasAdded setting m0 (counted_for answer) w.memory

  -- it was refused for this, and has changed nothing
  pub record IsRefused (m : Mem (Node K V)) (fault : Fault) : Type 0 where
    pub w : World (Node K V)
    pub c : Chart K
    pub blocks : Blocks
    pub sights : ℕ → Visible
    pub rests : IsQuiescent {K = K} {V = V} {Q = Q} same hash asks setting slot_of w c blocks sights
    pub memory : w.memory ≡ m
    pub runs : HasRun same hash setting keys m0 c0 blocks0 Unchanged w.memory c blocks
    pub counts : HasAdded setting m0 0 w.memory
    pub ends : is_incremental setting.mode ≡ true → setting.initial ≤ 2 ^ 48 → IsForTheLast c fault

  -- for what it may be refused: the removal of what is not there, where it was told to remove that
  abbrev pub RefusalFits : Fault → Type 0
  RefusalFits fault = FaultFits (kind_of given).present (kind_of given).absent (kind_of given).takes fault × (fault ≡ RemoveNothing → RemovesNone given)

  -- where a step leads, by what the call tells
  abbrev pub CourseTo : KeyCall K V Q → Mem (Node K V) → Called (Node K V) → Type 0
  CourseTo p m called.Waits = ⊥
  CourseTo p m (called.Asks asked) =
      Course p m × OutcomeFits (kind_of given).present (kind_of given).absent (kind_of given).takes {T = Node K V} (called.Asks asked) × (asks_at : Asking) × (p.stands ≡ points.Asks asks_at)
  CourseTo p m (called.Done answer) = Answered m answer
  CourseTo p m (called.Refused fault) = IsRefused m fault × RefusalFits fault
  CourseTo p m _ = Course p m

  module _ (p : KeyCall K V Q) (m : Mem (Node K V)) (at : Course p m) where
    abbrev pub Leading : Mem (Node K V) → KeyCall K V Q → Called (Node K V) → Type 0
    Leading m2 p2 told = StepLeads same hash asks setting slot_of at.w at.c at.blocks (going at.change p) m2 p2 told

    pub course_may : May Can Took value_at m (call_plan asks same hash p)
    course_may =
        subst (λ (x : Mem (Node K V)). May Can Took value_at x (call_plan asks same hash p)) at.memory
        (calls_go_on_alone same hash asks setting slot_of lawful initial at.w at.c at.blocks at.sights (going at.change p) at.alone).0

    pub leading : (m2 : Mem (Node K V)) (p2 : KeyCall K V Q) (told : Called (Node K V)) → Steps Took value_at m (call_plan asks same hash p) m2 (p2, told) → Leading m2 p2 told
    leading m2 p2 told s =
        (calls_go_on_alone same hash asks setting slot_of lawful initial at.w at.c at.blocks at.sights (going at.change p) at.alone).1 m2 p2 told
        (subst (λ (x : Mem (Node K V)). Steps Took value_at x (call_plan asks same hash p) m2 (p2, told)) (sym at.memory) s)

    fits : (m2 : Mem (Node K V)) (p2 : KeyCall K V Q) (told : Called (Node K V)) → Steps Took value_at m (call_plan asks same hash p) m2 (p2, told)
        → StepFits (kind_of given).present (kind_of given).absent (kind_of given).takes (p2, told)
    fits m2 p2 told s = calls_keep_their_kind asks same hash (kind_of given).present (kind_of given).absent (kind_of given).takes p at.fit m m2 (p2, told) s

    looks_on : (m2 : Mem (Node K V)) (p2 : KeyCall K V Q) (told : Called (Node K V)) → (l : Leading m2 p2 told) → StillLooked l.w2.memory l.blocks2
    looks_on m2 p2 told l o low known =
        let now = at.looks o low known in
        let next = l.looks o (let more = at.runs.keeps.stored in omega (arith, low, more)) now.0 in
        (next.0, next.1 ∙ now.1, ap (value_at l.w2.memory) (sym now.1) ∙ next.2 ∙ ap (value_at at.w.memory) now.1 ∙ now.2)

    course_of : (m2 : Mem (Node K V)) (p2 : KeyCall K V Q) (told : Called (Node K V)) → (l : Leading m2 p2 told) → IsAlone same hash asks setting slot_of l.w2 l.c2 l.blocks2 l.sights2 (OnKeyOf (going l.change2 p2)) → OfKind p2 → Course p2 m2
    course_of m2 p2 told l alone fit = record {
      w = l.w2;
      c = l.c2;
      blocks = l.blocks2;
      sights = l.sights2;
      change = l.change2;
      alone = alone;
      memory = l.memory;
      runs = l.runs m0 c0 blocks0 rule0 at.runs;
      counts = l.counts m0 at.counts;
      fit = fit;
      looks = looks_on m2 p2 told l;
      ends = λ bits few. (l.ends bits few (at.ends bits few)).0;
    }

    course_by : (m2 : Mem (Node K V)) (p2 : KeyCall K V Q) (told : Called (Node K V)) → Leading m2 p2 told → StepFits (kind_of given).present (kind_of given).absent (kind_of given).takes (p2, told) → CourseTo p2 m2 told
    course_by m2 p2 called.Goes l f = course_of m2 p2 called.Goes l l.leads f.0
    course_by m2 p2 called.Waits l f = l.leads
    course_by m2 p2 (called.Gave value) l f = course_of m2 p2 (called.Gave value) l l.leads.0 f.0
    course_by m2 p2 (called.Unstored value) l f = course_of m2 p2 (called.Unstored value) l l.leads f.0
    course_by m2 p2 (called.Asks asked) l f = (course_of m2 p2 (called.Asks asked) l l.leads.0 f.0, f.1, l.leads.1, l.leads.2)
    course_by m2 p2 (called.Done answer) l f = record {
      w = l.w2;
      c = l.c2;
      blocks = l.blocks2;
      sights = l.sights2;
      change = l.change2;
      call = p2;
      rests = l.leads.0;
      memory = l.memory;
      seen = l.leads.1;
      seen_map = l.leads.2;
      sees = l.leads.3;
      looks = looks_on m2 p2 (called.Done answer) l;
      answers = l.leads.4;
      runs = l.runs m0 c0 blocks0 rule0 at.runs;
      counts = subst (λ x. HasAdded setting m0 x l.w2.memory) (l.answered answer refl) (l.counts m0 at.counts);
    }
    course_by m2 p2 (called.Refused fault) l f = (
      record {
        w = l.w2;
        c = l.c2;
        blocks = l.blocks2;
        sights = l.sights2;
        rests = l.leads.0;
        memory = l.memory;
        runs = subst (λ x. HasRun same hash setting keys m0 c0 blocks0 x l.w2.memory l.c2 l.blocks2) l.leads.1 (l.runs m0 c0 blocks0 rule0 at.runs);
        counts = l.refused fault refl m0 at.counts;
        ends = λ bits few. (l.ends bits few (at.ends bits few)).1;
      },
      (f.1, l.removes fault refl),
    )

    pub course_step : (m2 : Mem (Node K V)) (p2 : KeyCall K V Q) (told : Called (Node K V)) → Steps Took value_at m (call_plan asks same hash p) m2 (p2, told) → CourseTo p2 m2 told
    course_step m2 p2 told s = course_by m2 p2 told (leading m2 p2 told s) (fits m2 p2 told s)

    pub course_ends : RunsEnd (KeyCall K V Q × Mem (Node K V)) (StepsOn same hash asks) (p, m)
    course_ends =
        subst (λ (x : Mem (Node K V)). RunsEnd (KeyCall K V Q × Mem (Node K V)) (StepsOn same hash asks) (p, x)) at.memory
        (calls_come_to_an_end same hash asks setting slot_of lawful initial at.w at.c at.blocks at.sights (going at.change p) at.alone)

  -- the machine of the call is there, and it is under way
  pub record Under (x : OnKey K V Q S) (m : Mem (Node K V)) : Type 0 where
    pub p : KeyCall K V Q
    pub unstored : Option (Node K V)
    pub is : x ≡ it p unstored
    pub course : Course p m

  -- it has come to a question
  pub record AsksAt (x : OnKey K V Q S) (m : Mem (Node K V)) (asked : Option ℕ) : Type 0 where
    pub under : Under x m
    pub fit : OutcomeFits (kind_of given).present (kind_of given).absent (kind_of given).takes {T = Node K V} (called.Asks asked)
    pub asks_at : Asking
    pub stands : under.p.stands ≡ points.Asks asks_at

  -- what it comes to
  abbrev pub StopsAt : OnKey K V Q S → Mem (Node K V) → Result Stop Fault → Type 0
  StopsAt x m (Ok (stop.Answered answer)) = Answered m answer
  StopsAt x m (Ok (stop.Asks asked)) = AsksAt x m asked
  StopsAt x m (Err fault) = IsRefused m fault × RefusalFits fault

  -- where a step of that machine leads, by what it tells
  abbrev pub Next : OnKey K V Q S → Mem (Node K V) → Advance Stop → Type 0
  Next = NextOf Under StopsAt

  next_by : (p : KeyCall K V Q) (o : Option (Node K V)) (m : Mem (Node K V)) (told : Called (Node K V)) → CourseTo p m told → Next (on_key_settled (it p o) told).0 m (on_key_settled (it p o) told).1
  next_by p o m called.Goes c = record { p = p; unstored = o; is = refl; course = c }
  next_by p o m called.Waits c = absurd c
  next_by p o m (called.Gave value) c = record { p = p; unstored = o; is = refl; course = c }
  next_by p o m (called.Unstored value) c = record { p = p; unstored = Some value; is = refl; course = c }
  next_by p o m (called.Asks asked) c = record { under = record { p = p; unstored = o; is = refl; course = c.0 }; fit = c.1; asks_at = c.2; stands = c.3 }
  next_by p o m (called.Done answer) c = c
  next_by p o m (called.Refused fault) c = c

  abbrev pub the_plan : OnKey K V Q S → Plan (Node K V) (OnKey K V Q S × Advance Stop)
  the_plan = on_key_plan asks same hashes

  module _ (x : OnKey K V Q S) (m : Mem (Node K V)) (u : Under x m) where
    pub under_may : May Can Took value_at m (the_plan x)
    under_may =
        subst (λ y. May Can Took value_at m (the_plan y)) (sym u.is)
        (may_turned (on_key_after (it u.p u.unstored)) Can Took value_at m (call_plan asks same hash u.p) (course_may u.p m u.course))

    pub under_back : (m2 : Mem (Node K V)) (end : OnKey K V Q S × Advance Stop) → Steps Took value_at m (the_plan x) m2 end
        → (e : KeyCall K V Q × Called (Node K V)) × Steps Took value_at m (call_plan asks same hash u.p) m2 e × (end ≡ on_key_after (it u.p u.unstored) e)
    under_back m2 end s =
        steps_back (on_key_after (it u.p u.unstored)) m m2 (call_plan asks same hash u.p) end (subst (λ y. Steps Took value_at m (the_plan y) m2 end) u.is s)

    pub under_step : (m2 : Mem (Node K V)) (end : OnKey K V Q S × Advance Stop) → Steps Took value_at m (the_plan x) m2 end → Next end.0 m2 end.1
    under_step m2 end s =
        let k = under_back m2 end s in
        subst (λ y. Next y.0 m2 y.1) (sym k.2) (next_by k.0.0 u.unstored m2 k.0.1 (course_step u.p m u.course m2 k.0.0 k.0.1 k.1))

  OnTo : KeyCall K V Q → Option (Node K V) → Mem (Node K V) → Called (Node K V) → Type 0
  OnTo p2 o m2 cl = CallGoesOn cl × (v : Under (on_key_settled (it p2 o) cl).0 m2) × (v.p ≡ p2)

  on_called : (p2 : KeyCall K V Q) (o : Option (Node K V)) (m2 : Mem (Node K V)) (cl : Called (Node K V)) → CourseTo p2 m2 cl → Continues (on_key_settled (it p2 o) cl).1 → OnTo p2 o m2 cl
  unfolding OnTo
  on_called p2 o m2 called.Goes c on = (tt, record { p = p2; unstored = o; is = refl; course = c }, refl)
  on_called p2 o m2 called.Waits c on = absurd c
  on_called p2 o m2 (called.Gave value) c on = (tt, record { p = p2; unstored = o; is = refl; course = c }, refl)
  on_called p2 o m2 (called.Unstored value) c on = (tt, record { p = p2; unstored = Some value; is = refl; course = c }, refl)
  on_called p2 o m2 (called.Asks asked) c on = absurd on
  on_called p2 o m2 (called.Done answer) c on = absurd on
  on_called p2 o m2 (called.Refused fault) c on = absurd on

  ends_from : (y : KeyCall K V Q × Mem (Node K V)) → RunsEnd (KeyCall K V Q × Mem (Node K V)) (StepsOn same hash asks) y → (x : OnKey K V Q S) (u : Under x y.1) → u.p ≡ y.0 → Ends the_plan x y.1
  unfolding OnTo
  ends_from y (runs_end _ next) x u e =
      all_end x y.1 (under_may x y.1 u) (λ m2 x2 told on s.
      let k = under_back x y.1 u m2 (x2, told) s in
      let g = on_called k.0.0 u.unstored m2 k.0.1 (course_step u.p y.1 u.course m2 k.0.0 k.0.1 k.1) (subst (Continues {A = Stop}) (ap (λ z. z.1) k.2) on) in
      subst (λ z. Ends the_plan z m2) (sym (ap (λ z. z.0) k.2))
      (ends_from (k.0.0, m2) (next (k.0.0, m2) (k.0.1, g.0, subst (λ p. Steps Took value_at y.1 (call_plan asks same hash p) m2 (k.0.0, k.0.1)) e k.1))
      (on_key_settled (it k.0.0 u.unstored) k.0.1).0 g.1 g.2))

  -- it comes to its end
  pub under_ends : (x : OnKey K V Q S) (m : Mem (Node K V)) → Under x m → Ends the_plan x m
  under_ends x m u = ends_from (u.p, m) (course_ends u.p m u.course) x u refl

  -- what it comes to, but for the machine
  abbrev pub ComesTo : Mem (Node K V) → Result Stop Fault → Type 0
  ComesTo m (Ok (stop.Answered answer)) = Answered m answer
  ComesTo m (Ok (stop.Asks asked)) = OutcomeFits (kind_of given).present (kind_of given).absent (kind_of given).takes {T = Node K V} (called.Asks asked)
  ComesTo m (Err fault) = IsRefused m fault × FaultFits (kind_of given).present (kind_of given).absent (kind_of given).takes fault

  pub stops_at : (x : OnKey K V Q S) (m : Mem (Node K V)) (x2 : OnKey K V Q S) (m2 : Mem (Node K V)) (result : Result Stop Fault) → RunsTo the_plan x m x2 m2 result → Under x m → StopsAt x2 m2 result
  stops_at x m x2 m2 result runs u = run_comes Under StopsAt the_plan under_step x m u x2 m2 result runs

  comes_by : (x2 : OnKey K V Q S) (m2 : Mem (Node K V)) (result : Result Stop Fault) → StopsAt x2 m2 result → ComesTo m2 result
  comes_by x2 m2 (Ok (stop.Answered answer)) s = s
  comes_by x2 m2 (Ok (stop.Asks asked)) s = s.fit
  comes_by x2 m2 (Err fault) s = (s.0, s.1.0)

  pub comes_to : (x : OnKey K V Q S) (m : Mem (Node K V)) (x2 : OnKey K V Q S) (m2 : Mem (Node K V)) (result : Result Stop Fault) → RunsTo the_plan x m x2 m2 result → Under x m → ComesTo m2 result
  comes_to x m x2 m2 result runs u = comes_by x2 m2 result (stops_at x m x2 m2 result runs u)

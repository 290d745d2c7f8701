-- A sweep over the pairs of one owner's map that removes pairs, run to its end or to a question.
use Rattle.std.specs.Prelude.{◌≡◌, ℕ, Bool, true, List, [], Result, Ok, Err}
use Rattle.std.proofs.Common.{refl, sym, ◌∙◌, ap, subst, inl}
use denote.Ref.{Bor}
use Rattle.seize_words.specs.OneMemory.Mem.{Mem, Can, Took, value_at}
use Rattle.seize_words.specs.OneMemory.Plan.{Plan, May, Steps}
use Rattle.seize_words.specs.declared.fault.Fault.{Fault}
use Rattle.seize_words.specs.declared.fault.Fault.TheVariants.{Capacity}
use Rattle.seize.specs.World.{World}
use Rattle.seize.specs.declared.advance.Advance.{Advance}
use Rattle.map_straight.proofs.Given.SeizeRuleRows.Leaving.{steps_back}
use Rattle.map_tables.specs.Chunks.{is_incremental}
use Rattle.map_tables.specs.declared.node.Node.{Node}
use Rattle.map_tables.specs.declared.setting.Setting.{Setting}
use Rattle.papaya_raw.specs.Given.SweepsSweep.{sweep_plan}
use Rattle.papaya_raw.specs.Given.SweepsSweepPoints.{sweeping}
use Rattle.papaya_raw.specs.Given.ReservesDeclared.sweep.Purpose.{Purpose}
use Rattle.papaya_raw.specs.Given.ReservesDeclared.sweep.Purpose.TheVariants.{Walks, Clears, Retains}
use Rattle.papaya_raw.specs.Given.ReservesDeclared.sweep.Sweep.{Sweep}
use Rattle.papaya_raw.specs.Given.ReservesDeclared.sweep.Sweeping.{Sweeping}
use Rattle.papaya_raw.specs.Given.ReservesDeclared.sweep.Sweeping.TheVariants as at
use Rattle.papaya_raw.specs.Given.ReservesDeclared.sweep.Swept.{Swept}
use Rattle.papaya_raw.specs.Given.ReservesDeclared.sweep.Swept.TheVariants as swept
use Rattle.map_straight.specs.Given.RuleChart.{Chart}
use Rattle.map_straight.specs.Given.RuleWords.{Blocks}
use Rattle.owner_whole.specs.Given.PointsSteps.{AreLawful}
use Rattle.owner_whole.specs.Given.AloneCounting.{IsCounted}
use Rattle.owner_whole.specs.Given.AloneEndings.{RunsEnd, runs_end}
use Rattle.owner_whole.specs.Given.LateCovers.{Came}
use Rattle.owner_whole.specs.Given.LateFactsSweeps.{SweepingFacts}
use Rattle.owner_whole.specs.Given.LateFaults.{HoldsInSweeping}
use Rattle.owner_whole.specs.Given.LateToldSweeps.{IsRowOfSweep}
use Rattle.owner_whole.specs.Given.CallersOverAll.{CallOverAll, begun_over_all, come_to}
use Rattle.owner_whole.specs.Given.CallersSights.{Visible}
use Rattle.owner_whole.specs.Given.CallersTogether.{OverAll, in_slot}
use Rattle.map_straight.specs.Shown.Chain.{CannotGrowIn}
use Rattle.owner_whole.specs.Whole.Contents.{AreContents}
use Rattle.owner_whole.specs.Whole.Limits.{IsForTheLast, IsTheLast}
use Rattle.owner_whole.specs.Whole.LoneSweeps.{goes_once}
use Rattle.owner_whole.specs.Whole.Owner.{IsQuiescent, IsAlone}
use Rattle.owner_whole.specs.Whole.SweptPairs.{HasSwept, AreNumbered, pairs_of, left_by}
use Rattle.owner_whole.specs.Whole.WholeSweeps.{SweepsOn, SweepStepLeads, IsCountedBut, AdvancesFrom}
use Rattle.owner_whole.proofs.Whole.Contents.Numbered.{numbers_are, numbers_go}
use Rattle.owner_whole.proofs.Whole.Contents.Swept.{swept_begins, refused, sweeps_leave}
use Rattle.owner_whole.proofs.Whole.Sweeps.Begins.{sweeps_begin_alone}
use Rattle.owner_whole.proofs.Whole.Sweeps.Counting.{swept_pairs_counted}
use Rattle.owner_whole.proofs.Whole.Sweeps.Ends.{sweeps_come_to_an_end}
use Rattle.owner_whole.proofs.Whole.Sweeps.Leads.{sweeps_go_on_alone}
use Rattle.owner_whole.proofs.Whole.Sweeps.Own as own
use Rattle.owner_whole.specs.Strides.Ending.{Continues, Ends, all_end, RunsTo}
use Rattle.owner_calls.specs.Owned.Owned.{Holds}
use Rattle.owner_calls.specs.Sifts.Sweeping.{over_pairs_plan, over_pairs_after, over_pairs_settled}
use Rattle.owner_calls.specs.declared.sweeping.OverPairs.{OverPairs}
use Rattle.owner_calls.specs.declared.sweeping.Pause.{Pause}
use Rattle.owner_calls.specs.declared.sweeping.Pause.TheVariants as pause
use Rattle.owner_calls.proofs.Owned.Owned.Keys.{may_turned}
use Rattle.owner_calls.proofs.Owned.Owned.Lasts.{last_shown}
use Rattle.owner_whole.proofs.Strides.Runs.Comes.{NextOf, run_comes}

-- only a walk is ready for the next pair, and only a retaining asks
module _ {K V Q : Type 0} (same : K → K → Bool) (hash : K → ℕ) (asks : Q → K → Bool) (setting : Setting) (slot : ℕ → ℕ) (lawful : AreLawful same hash)
    (w : World (Node K V)) (c : Chart K) (blocks : Blocks) (sights : ℕ → Visible) (o : CallOverAll) (a : IsAlone {Q = Q} same hash asks setting slot w c blocks sights (OverAll o)) where
  facts_at : (x : Sweeping) → o.sweep.stands ≡ x → (IsRowOfSweep x → ⊥)
      → SweepingFacts same hash w 0 (in_slot setting (slot 0)) c (own.seen same hash asks setting slot lawful w c blocks sights o a) o.began o.sweep x
  facts_at x is none =
      subst (λ (y : Sweeping). SweepingFacts same hash w 0 (in_slot setting (slot 0)) c (own.seen same hash asks setting slot lawful w c blocks sights o a) o.began o.sweep y) is
      (own.knows_here same hash asks setting slot lawful w c blocks sights o a (λ r. none (subst IsRowOfSweep is r))).knows.facts.point

  pub ready_walks : o.sweep.stands ≡ at.Ready → o.sweep.purpose ≡ Walks
  ready_walks is = (facts_at at.Ready is (λ r. r)).0

  pub asks_retains : (word : ℕ) → o.sweep.stands ≡ at.Asks word → o.sweep.purpose ≡ Retains
  asks_retains word is = (facts_at (at.Asks word) is (λ r. r)).0

-- the pairs that a sweep was told about, the last one first, and those of them that it was told to keep
pub record Said : Type 0 where
  pub asked : List ℕ
  pub done : List ℕ

-- it was told nothing
abbrev pub nothing : Said
nothing = record { asked = []; done = [] }

-- from what the map held
module _ {K V S : Type 0} (same : K → K → Bool) (hashes : S → K → ℕ) (b : Bor S) (setting : Setting) (m0 : Mem (Node K V)) (xs : List (K × V)) (h : Holds same (hashes b.now) setting m0 xs)
    (purpose : Purpose) (removes : purpose ≡ Walks → ⊥) where
  abbrev hash : K → ℕ
  hash = hashes b.now

  abbrev slot_of : ℕ → ℕ
  slot_of i = setting.slot

  abbrev pub it : Sweep → OverPairs S
  it p = record { sweep = p; hasher = b }

  abbrev AloneIn : World (Node K V) → Chart K → Blocks → (ℕ → Visible) → CallOverAll → Type 0
  AloneIn w c blocks sights o = IsAlone {Q = K} same hash same setting slot_of w c blocks sights (OverAll o)

  abbrev RestsIn : World (Node K V) → Chart K → Blocks → (ℕ → Visible) → Type 0
  RestsIn w c blocks sights = IsQuiescent {K = K} {V = V} {Q = K} same hash same setting slot_of w c blocks sights

  abbrev Since : Said → CallOverAll → Mem (Node K V) → Chart K → Blocks → Type 0
  Since said o m c blocks = HasSwept (is_incremental setting.mode) h.world.memory h.chart h.blocks said.asked o m c blocks

  -- it is under way, and alone, since the map rested, and was told this
  pub record Course (said : Said) (o : CallOverAll) (m : Mem (Node K V)) : Type 0 where
    pub w : World (Node K V)
    pub c : Chart K
    pub blocks : Blocks
    pub sights : ℕ → Visible
    pub alone : AloneIn w c blocks sights o
    pub memory : w.memory ≡ m
    pub runs : Since said o w.memory c blocks
    pub done_is : o.done ≡ said.done
    pub counts : IsCountedBut setting w.memory c o.sweep.stands
    pub purpose_is : o.sweep.purpose ≡ purpose
    pub ends : HoldsInSweeping (IsForTheLast c) (IsTheLast c) o.sweep.stands

  -- it has ended, and the map rests
  pub record HasEnded (said : Said) (o : CallOverAll) (m : Mem (Node K V)) : Type 0 where
    pub w : World (Node K V)
    pub c : Chart K
    pub blocks : Blocks
    pub sights : ℕ → Visible
    pub rests : RestsIn w c blocks sights
    pub memory : w.memory ≡ m
    pub runs : Since said o w.memory c blocks
    pub done_is : o.done ≡ said.done
    pub counted : IsCounted setting w.memory c
    pub purpose_is : o.sweep.purpose ≡ purpose

  -- it is done
  pub record IsDone (said : Said) (o : CallOverAll) (m : Mem (Node K V)) : Type 0 where
    pub ended : HasEnded said o m
    pub over : o.sweep.stands ≡ at.Over
    pub came : Came ended.c o.entered o.sweep.purpose o.done

  -- it was refused for this
  pub record IsRefused (said : Said) (o : CallOverAll) (m : Mem (Node K V)) (fault : Fault) : Type 0 where
    pub ended : HasEnded said o m
    pub refused : o.sweep.stands ≡ at.Refused fault
    pub ends : IsForTheLast ended.c fault

  -- it asks about the pair of this word
  pub record IsAsking (said : Said) (o : CallOverAll) (m : Mem (Node K V)) (word : ℕ) : Type 0 where
    pub course : Course said o m
    pub asks : o.sweep.stands ≡ at.Asks word

  -- where a step leads, by what the sweep tells
  abbrev pub CourseTo : Said → CallOverAll → Mem (Node K V) → Swept (Node K V) → Type 0
  CourseTo said o m swept.Goes = Course said o m
  CourseTo said o m (swept.Gave value) = Course said o m
  CourseTo said o m (swept.Asks word) = IsAsking said o m word
  CourseTo said o m swept.Done = IsDone said o m
  CourseTo said o m (swept.Refused fault) = IsRefused said o m fault
  CourseTo said o m _ = ⊥

  -- it goes over one table alone
  pub goes_over_one : (p : Purpose) → goes_once (is_incremental setting.mode) p ≡ true
  goes_over_one Walks = refl
  goes_over_one Clears = h.incremental
  goes_over_one Retains = h.incremental

  module _ (said : Said) (o : CallOverAll) (m : Mem (Node K V)) (here : Course said o m) where
    once_here : goes_once (is_incremental setting.mode) o.sweep.purpose ≡ true
    once_here = goes_over_one o.sweep.purpose

    abbrev Leading : Mem (Node K V) → Sweep → Swept (Node K V) → Type 0
    Leading m2 p2 told = SweepStepLeads {Q = K} same hash same setting slot_of here.w here.c here.blocks o m2 p2 told

    pub course_may : May Can Took value_at m (sweep_plan hash o.sweep)
    course_may =
        subst (λ (x : Mem (Node K V)). May Can Took value_at x (sweep_plan hash o.sweep)) here.memory
        (sweeps_go_on_alone same hash same setting slot_of h.lawful h.initial here.w here.c here.blocks here.sights o here.alone).0

    leading : (m2 : Mem (Node K V)) (p2 : Sweep) (told : Swept (Node K V)) → Steps Took value_at m (sweep_plan hash o.sweep) m2 (p2, told) → Leading m2 p2 told
    leading m2 p2 told s =
        (sweeps_go_on_alone same hash same setting slot_of h.lawful h.initial here.w here.c here.blocks here.sights o here.alone).1 m2 p2 told
        (subst (λ (x : Mem (Node K V)). Steps Took value_at x (sweep_plan hash o.sweep) m2 (p2, told)) (sym here.memory) s)

    module _ (m2 : Mem (Node K V)) (p2 : Sweep) (told : Swept (Node K V)) (l : Leading m2 p2 told) where
      abbrev pub o2 : CallOverAll
      o2 = come_to o l.entered2 l.done2 p2

      course_of : AloneIn l.w2 l.c2 l.blocks2 l.sights2 o2 → l.done2 ≡ o.done → Course said o2 m2
      course_of alone kept = record {
        w = l.w2;
        c = l.c2;
        blocks = l.blocks2;
        sights = l.sights2;
        alone = alone;
        memory = l.memory;
        runs = l.runs h.world.memory h.chart h.blocks said.asked here.runs;
        done_is = kept ∙ here.done_is;
        counts = l.counts here.counts;
        purpose_is = l.purpose ∙ here.purpose_is;
        ends = (l.ends h.incremental h.few here.ends).0;
      }

      ended_of : RestsIn l.w2 l.c2 l.blocks2 l.sights2 → IsCounted setting l.w2.memory l.c2 → l.done2 ≡ o.done → HasEnded said o2 m2
      ended_of rests counted kept = record {
        w = l.w2;
        c = l.c2;
        blocks = l.blocks2;
        sights = l.sights2;
        rests = rests;
        memory = l.memory;
        runs = l.runs h.world.memory h.chart h.blocks said.asked here.runs;
        done_is = kept ∙ here.done_is;
        counted = counted;
        purpose_is = l.purpose ∙ here.purpose_is;
      }

      never_ready : AloneIn l.w2 l.c2 l.blocks2 l.sights2 o2 → p2.stands ≡ at.Ready → ⊥
      never_ready alone is = removes (sym here.purpose_is ∙ sym l.purpose ∙ ready_walks same hash same setting slot_of h.lawful l.w2 l.c2 l.blocks2 l.sights2 o2 alone is)

      counts_at : (x : Sweeping) → p2.stands ≡ x → IsCountedBut setting l.w2.memory l.c2 x
      counts_at x is = subst (IsCountedBut setting l.w2.memory l.c2) is (l.counts here.counts)

    course_by : (m2 : Mem (Node K V)) (p2 : Sweep) (told : Swept (Node K V)) → (l : Leading m2 p2 told) → CourseTo said (o2 m2 p2 told l) m2 told
    unfolding ended_of
    course_by m2 p2 swept.Goes l = course_of m2 p2 swept.Goes l l.leads (l.tells once_here)
    course_by m2 p2 swept.Waits l = l.leads
    course_by m2 p2 (swept.Gave value) l = course_of m2 p2 (swept.Gave value) l l.leads.0 (l.tells once_here)
    course_by m2 p2 swept.Ready l = never_ready m2 p2 swept.Ready l l.leads.0 l.leads.1
    course_by m2 p2 (swept.Pair word) l = never_ready m2 p2 (swept.Pair word) l l.leads.0 l.leads.1
    course_by m2 p2 (swept.Asks word) l = record { course = course_of m2 p2 (swept.Asks word) l l.leads.0 (l.tells.1 once_here); asks = l.leads.1 }
    course_by m2 p2 swept.Done l = record {
      ended = ended_of m2 p2 swept.Done l l.leads.0 ((swept_pairs_counted setting l.w2.memory l.c2).1 (counts_at m2 p2 swept.Done l at.Over l.leads.1)) (l.tells once_here);
      over = l.leads.1;
      came = l.comes refl;
    }
    course_by m2 p2 (swept.Refused fault) l = record {
      ended = ended_of m2 p2 (swept.Refused fault) l l.leads.0 ((swept_pairs_counted setting l.w2.memory l.c2).2 fault (counts_at m2 p2 (swept.Refused fault) l (at.Refused fault) l.leads.1)) (l.tells once_here);
      refused = l.leads.1;
      ends = (l.ends h.incremental h.few here.ends).1;
    }

    pub course_step : (m2 : Mem (Node K V)) (p2 : Sweep) (told : Swept (Node K V)) → Steps Took value_at m (sweep_plan hash o.sweep) m2 (p2, told)
        → (o2 : CallOverAll) × (o2.sweep ≡ p2) × CourseTo said o2 m2 told
    course_step m2 p2 told s = (o2 m2 p2 told (leading m2 p2 told s), refl, course_by m2 p2 told (leading m2 p2 told s))

    pub course_ends : RunsEnd (Sweep × Mem (Node K V)) (SweepsOn hash) (o.sweep, m)
    course_ends =
        subst (λ (x : Mem (Node K V)). RunsEnd (Sweep × Mem (Node K V)) (SweepsOn hash) (o.sweep, x)) here.memory
        (sweeps_come_to_an_end same hash same setting slot_of h.lawful h.initial here.w here.c here.blocks here.sights o here.alone)

  -- the machine of the sweep is there, and it is under way
  pub record Under (said : Said) (x : OverPairs S) (m : Mem (Node K V)) : Type 0 where
    pub o : CallOverAll
    pub is : x ≡ it o.sweep
    pub course : Course said o m

  -- it asks
  pub record UnderAsking (said : Said) (x : OverPairs S) (m : Mem (Node K V)) (word : ℕ) : Type 0 where
    pub o : CallOverAll
    pub is : x ≡ it o.sweep
    pub asking : IsAsking said o m word

  -- what it comes to
  abbrev pub ComesTo : Said → OverPairs S → Mem (Node K V) → Result Pause Fault → Type 0
  ComesTo said x m (Ok pause.Ended) = (o : CallOverAll) × IsDone said o m
  ComesTo said x m (Ok (pause.Asks word)) = UnderAsking said x m word
  ComesTo said x m (Ok _) = ⊥
  ComesTo said x m (Err fault) = (o : CallOverAll) × IsRefused said o m fault

  -- where a step of that machine leads, by what it tells
  abbrev pub Next : Said → OverPairs S → Mem (Node K V) → Advance Pause → Type 0
  Next said = NextOf (Under said) (ComesTo said)

  next_by : (said : Said) (o : CallOverAll) (m : Mem (Node K V)) (told : Swept (Node K V)) → CourseTo said o m told → Next said (over_pairs_settled (it o.sweep) told).0 m (over_pairs_settled (it o.sweep) told).1
  next_by said o m swept.Goes c = record { o = o; is = refl; course = c }
  next_by said o m swept.Waits c = absurd c
  next_by said o m (swept.Gave value) c = record { o = o; is = refl; course = c }
  next_by said o m swept.Ready c = c
  next_by said o m (swept.Pair word) c = c
  next_by said o m (swept.Asks word) c = record { o = o; is = refl; asking = c }
  next_by said o m swept.Done c = (o, c)
  next_by said o m (swept.Refused fault) c = (o, c)

  abbrev pub the_plan : OverPairs S → Plan (Node K V) (OverPairs S × Advance Pause)
  the_plan = over_pairs_plan hashes

  module _ (said : Said) (x : OverPairs S) (m : Mem (Node K V)) (u : Under said x m) where
    pub under_may : May Can Took value_at m (the_plan x)
    under_may =
        subst (λ y. May Can Took value_at m (the_plan y)) (sym u.is)
        (may_turned (over_pairs_after (it u.o.sweep)) Can Took value_at m (sweep_plan hash u.o.sweep) (course_may said u.o m u.course))

    pub under_back : (m2 : Mem (Node K V)) (end : OverPairs S × Advance Pause) → Steps Took value_at m (the_plan x) m2 end
        → (e : Sweep × Swept (Node K V)) × Steps Took value_at m (sweep_plan hash u.o.sweep) m2 e × (end ≡ over_pairs_after (it u.o.sweep) e)
    under_back m2 end s =
        steps_back (over_pairs_after (it u.o.sweep)) m m2 (sweep_plan hash u.o.sweep) end (subst (λ y. Steps Took value_at m (the_plan y) m2 end) u.is s)

    pub under_step : (m2 : Mem (Node K V)) (end : OverPairs S × Advance Pause) → Steps Took value_at m (the_plan x) m2 end → Next said end.0 m2 end.1
    under_step m2 end s =
        let k = under_back m2 end s in
        let d = course_step said u.o m u.course m2 k.0.0 k.0.1 k.1 in
        subst (λ y. Next said y.0 m2 y.1) (sym k.2) (subst (λ p. Next said (over_pairs_settled (it p) k.0.1).0 m2 (over_pairs_settled (it p) k.0.1).1) d.1 (next_by said d.0 m2 k.0.1 d.2))

  OnTo : Said → Sweep → Mem (Node K V) → Sweeping → Swept (Node K V) → Type 0
  OnTo said p2 m2 stands told = AdvancesFrom stands told × (v : Under said (over_pairs_settled (it p2) told).0 m2) × (v.o.sweep ≡ p2)

  on_told : (said : Said) (o : CallOverAll) (p2 : Sweep) → o.sweep ≡ p2 → (m2 : Mem (Node K V)) (stands : Sweeping) (told : Swept (Node K V)) → CourseTo said o m2 told
      → Continues (over_pairs_settled (it p2) told).1 → OnTo said p2 m2 stands told
  unfolding OnTo
  on_told said o p2 e m2 stands swept.Goes c on = (tt, record { o = o; is = ap it (sym e); course = c }, e)
  on_told said o p2 e m2 stands swept.Waits c on = absurd c
  on_told said o p2 e m2 stands (swept.Gave value) c on = (tt, record { o = o; is = ap it (sym e); course = c }, e)
  on_told said o p2 e m2 stands swept.Ready c on = absurd on
  on_told said o p2 e m2 stands (swept.Pair word) c on = absurd on
  on_told said o p2 e m2 stands (swept.Asks word) c on = absurd on
  on_told said o p2 e m2 stands swept.Done c on = absurd on
  on_told said o p2 e m2 stands (swept.Refused fault) c on = absurd on

  ends_from : (said : Said) (y : Sweep × Mem (Node K V)) → RunsEnd (Sweep × Mem (Node K V)) (SweepsOn hash) y → (x : OverPairs S) (u : Under said x y.1) → u.o.sweep ≡ y.0 → Ends the_plan x y.1
  unfolding OnTo
  ends_from said y (runs_end _ next) x u e =
      all_end x y.1 (under_may said x y.1 u) (λ m2 x2 told on s.
      let k = under_back said x y.1 u m2 (x2, told) s in
      let d = course_step said u.o y.1 u.course m2 k.0.0 k.0.1 k.1 in
      let g = on_told said d.0 k.0.0 d.1 m2 y.0.stands k.0.1 d.2 (subst (Continues {A = Pause}) (ap (λ z. z.1) k.2) on) in
      subst (λ z. Ends the_plan z m2) (sym (ap (λ z. z.0) k.2))
      (ends_from said (k.0.0, m2) (next (k.0.0, m2) (inl (k.0.1, g.0, subst (λ p. Steps Took value_at y.1 (sweep_plan hash p) m2 (k.0.0, k.0.1)) e k.1)))
      (over_pairs_settled (it k.0.0) k.0.1).0 g.1 g.2))

  -- it comes to its end, or to a question
  pub under_ends : (said : Said) (x : OverPairs S) (m : Mem (Node K V)) → Under said x m → Ends the_plan x m
  under_ends said x m u = ends_from said (u.o.sweep, m) (course_ends said u.o m u.course) x u refl

  pub comes_to : (said : Said) (x : OverPairs S) (m : Mem (Node K V)) (x2 : OverPairs S) (m2 : Mem (Node K V)) (result : Result Pause Fault) → RunsTo the_plan x m x2 m2 result → Under said x m → ComesTo said x2 m2 result
  comes_to said x m x2 m2 result runs u = run_comes (Under said) (ComesTo said) the_plan (under_step said) x m u x2 m2 result runs

  -- it begins
  pub begins_under : Under nothing (it (sweeping (in_slot setting setting.slot) purpose)) m0
  begins_under = record {
    o = begun_over_all h.chart.now (in_slot setting setting.slot) purpose;
    is = refl;
    course = record {
      w = h.world;
      c = h.chart;
      blocks = h.blocks;
      sights = h.sights;
      alone = sweeps_begin_alone same hash same setting slot_of h.world h.chart h.blocks h.sights h.rests purpose;
      memory = h.memory;
      done_is = refl;
      runs = swept_begins (is_incremental setting.mode) h.world.memory h.chart h.blocks h.rests.together.ground.moments (in_slot setting setting.slot) purpose;
      counts = (swept_pairs_counted setting h.world.memory h.chart).0 (in_slot setting setting.slot) purpose h.counted;
      purpose_is = refl;
      ends = tt;
    };
  }

  module _ (said : Said) (o : CallOverAll) (m : Mem (Node K V)) (e : HasEnded said o m) where
    -- the map holds what its list is then
    pub holds_at : (ys : List (K × V)) → AreContents e.w.memory e.c e.blocks ys → Holds same hash setting m ys
    holds_at ys are = record {
      lawful = h.lawful;
      initial = h.initial;
      few = h.few;
      one_shard = h.one_shard;
      incremental = h.incremental;
      size = h.size;
      world = e.w;
      chart = e.c;
      blocks = e.blocks;
      sights = e.sights;
      memory = e.memory;
      rests = e.rests;
      counted = e.counted;
      are = are;
    }

    pub once : goes_once (is_incremental setting.mode) o.sweep.purpose ≡ true
    once = goes_over_one o.sweep.purpose

  numbered : (ns : List (ℕ × (K × V))) × AreNumbered h.world.memory h.chart h.blocks ns × (pairs_of ns ≡ xs)
  numbered = numbers_are h.world.memory h.chart h.blocks xs h.are

  -- refused, it has left all pairs
  pub refused_holds : (said : Said) (o : CallOverAll) (m : Mem (Node K V)) (fault : Fault) → IsRefused said o m fault → Holds same hash setting m xs
  refused_holds said o m fault r =
      let e = r.ended in let n = numbered in
      holds_at said o m e xs (subst (AreContents e.w.memory e.c e.blocks) n.2 (numbers_go e.w.memory e.c e.blocks n.0
      (refused (is_incremental setting.mode) h.world.memory e.w.memory h.chart e.c h.blocks e.blocks said.asked o e.runs (once said o m e) fault r.refused n.0 n.1)))

  -- and for the length of a table only where none can follow the last one
  pub refused_ends : (said : Said) (o : CallOverAll) (m : Mem (Node K V)) (fault : Fault) → IsRefused said o m fault → fault ≡ Capacity → CannotGrowIn m setting
  refused_ends said o m fault r is = let e = r.ended in last_shown same hash h.lawful setting e.w e.c e.blocks e.rests.together.ground.map m e.memory (r.ends is)

  -- done, a clearing has left none
  pub cleared_holds : purpose ≡ Clears → (said : Said) (o : CallOverAll) (m : Mem (Node K V)) → IsDone said o m → Holds same hash setting m []
  cleared_holds clears said o m d =
      let e = d.ended in let n = numbered in
      holds_at said o m e [] (numbers_go e.w.memory e.c e.blocks [] (subst (λ (p : Purpose). AreNumbered e.w.memory e.c e.blocks (left_by p o.done n.0)) (e.purpose_is ∙ clears)
      (sweeps_leave (is_incremental setting.mode) h.world.memory e.w.memory h.chart e.c h.blocks e.blocks said.asked o e.runs d.came d.over n.0 n.1).0))

  -- and it never asks
  pub never_asks : purpose ≡ Clears → (said : Said) (x : OverPairs S) (m : Mem (Node K V)) (word : ℕ) → UnderAsking said x m word → ⊥
  never_asks clears said x m word u =
      let c = u.asking.course in
      let retains = asks_retains same hash same setting slot_of h.lawful c.w c.c c.blocks c.sights u.o c.alone word u.asking.asks in
      let e : Clears ≡ Retains = sym clears ∙ sym c.purpose_is ∙ retains in cc e

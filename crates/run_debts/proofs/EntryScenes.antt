-- Whoever takes a step, entries are blank still of what somebody has, and of the one block that the row within a call is to retire.
use Rattle.std.specs.Prelude.{◌≡◌, ◌≢◌, ℕ, Bool, List, [], ◌∷◌, Option, Some, None, ◌⊎◌}
use Rattle.std.proofs.Common.{refl, ap, sym, subst, ◌∙◌, inl, inr}
use Rattle.std.proofs.lemmas.Bool.{cases_eq}
use Rattle.run_places.specs.Given.SeizeWordsMem.{Mem, word_at}
use Rattle.run_places.specs.Given.SeizeWordsDeclared.at.At.{At}
use Rattle.run_places.specs.Given.SeizeWordsDeclared.at.At.TheVariants.{Entry}
use Rattle.run_places.specs.Given.SeizeDeclared.states.TheConstants.{NEXT, FIRST}
use Rattle.run_places.specs.Given.SeizeDeclared.rows.settle.Settling.{Settling}
use Rattle.run_places.specs.Given.SeizeDeclared.rows.settle.Settling.TheVariants as at
use Rattle.run_places.specs.Given.SeizeWorld.{World, Row, Rests, Settles, Request, Register', Enter', Leave', LeaveOwned, Refresh, Unregister', Retire, Flush, Defer', Event, Begin, Happens, Runs, Steps'}
use Rattle.owner_facts.proofs.Given.SeizeMemoryWords.Named.{or_zero, words_of}
use Rattle.owner_facts.proofs.Given.SeizeAloneHistories.Reached.{Reached, happens_reached}
use Rattle.run_places.specs.Given.TablesNodes.{deferred_word}
use Rattle.run_places.specs.Given.TablesDeclared.node.Node.{Node}
use Rattle.run_places.specs.Given.TablesDeclared.setting.Setting.{Setting}
use Rattle.run_places.specs.Given.RawDeclared.machines.progress.Progress.{Progress}
use Rattle.run_places.specs.Given.RuleInWorld.{AllUsers}
use Rattle.run_places.specs.Given.SchedulesMoment.{Moment}
use Rattle.owner_facts.specs.Given.CallersTogether.{UnderWay, OnKey, ForRoom, Counting, OverAll, HandsOver, IsOneStep}
use Rattle.owner_facts.proofs.Given.CallersTogether.Came.{came_reached}
use Rattle.run_places.specs.Given.EffectsKnown.{Known}
use Rattle.owner_facts.specs.Given.FinishesFactsEnds.{events_of}
use Rattle.owner_facts.specs.Given.FinishesMaps.{with_call}
use Rattle.run_places.specs.Given.FollowsShows.{Refines}
use Rattle.run_places.proofs.Given.FollowsSteps.{WentTo, went_to, DidSo}
use Rattle.run_places.specs.Hands.Rows.{ReclaimsNone, RowsReclaimNone}
use Rattle.run_places.proofs.Hands.Asking.{which}
use Rattle.run_debts.specs.Entries.{IsBlank, OneAt, RetiresOne, EntriesAreBlank, EntriesBegin, CallsPreserveEntries, CallsContinueEntries, RowsBeginEntries, RowsPreserveEntries, MakingsPreserveEntries, EndingsBeginEntries, EndingsPreserveEntries}
use Rattle.run_debts.proofs.EntryUsers.{IsZero, AllZero, event_zeros}
use Rattle.run_debts.proofs.EntryWorlds.{event_one, step_zeros, step_one, begin_zeros, begin_one, HandsOne, begin_own, own_one}
use Rattle.run_places.specs.Given.ScenesHeld.{Held, IsAt}
use Rattle.run_places.specs.Given.ScenesRows.{request_of}
use Rattle.run_places.proofs.Given.ScenesNoCall.{no_call}
use Rattle.run_places.specs.Given.ScenesScene.{Scene, slot_of}
use Rattle.run_places.specs.Given.ScenesStepping.{StepLeads, scene_after}
use Rattle.owner_facts.proofs.Given.SeizeAloneHistories.UsersTurn.{AreBetween}
use Rattle.owner_facts.proofs.Given.CallersTogether.Slots.{all_between}
use Rattle.run_places.proofs.Given.ScenesBetween.{deed_between}

-- a blank entry has zeros, and the other way round
module _ {T : Type 0} (m : Mem T) where
  zero_of : (a : At) → ((word : ℕ) → word_at m a ≡ Some word → word ≡ 0) → words_of m a ≡ 0
  zero_of a none = by (word_at m a) refl
    where
      by : (o : Option ℕ) → word_at m a ≡ o → words_of m a ≡ 0
      by None is = ap or_zero is
      by (Some word) is = ap or_zero is ∙ none word is

  pub as_zero : (b : ℕ) → IsBlank m b → IsZero m b
  as_zero b blank = (zero_of (Entry b NEXT) blank.next, zero_of (Entry b FIRST) blank.first)

  pub as_blank : (b : ℕ) → IsZero m b → IsBlank m b
  as_blank b zero = record { next = λ word is. sym (ap or_zero is) ∙ zero.0; first = λ word is. sym (ap or_zero is) ∙ zero.1 }

-- where blocks of which one is so are so as another says
pub one_as : (A B : ℕ → Type 0) → ((b : ℕ) → A b → B b) → (row : Row) → RetiresOne A row → RetiresOne B row
one_as A B turn (Settles c) one = by c.stands one
  where
    by : (p : Settling) → OneAt A c p → OneAt B c p
    by at.Sees k = (k.0, turn _ k.1)
    by at.Holds k = (k.0, turn _ k.1)
    by at.Pops k = (k.0, turn _ k.1)
    by (at.Firsts block) k = (k.0, k.1, turn _ k.2)
    by (at.Batches block) k = (k.0, turn _ k.1)
    by _ k = k
one_as A B turn _ one = tt

-- who is meant has one block to retire, or none
module _ {T : Type 0} (defers : T → Option ℕ) (size : ℕ) (Who : ℕ → Type 0) where
  abbrev pub Holds : World T → Type 0
  Holds w = AllZero w × ((j : ℕ) → Who j → RetiresOne (IsZero w.memory) (w.row j))

  runs_hold : (events : List (Event T)) (w v : World T) → Reached defers size w → AreBetween events → Runs defers size events w v → Holds w → Holds v
  runs_hold [] w v r u runs holds = subst Holds (sym runs) holds
  runs_hold (e ∷ events) w v r u runs holds =
      runs_hold events runs.0 v (happens_reached defers size e w runs.0 r runs.1) u.1 runs.2
      (event_zeros defers w runs.0 r holds.0 e u.0 runs.1, λ j its. event_one defers w r runs.0 e u.0 runs.1 j (holds.1 j its))

  -- a step of a row, which reclaims nothing if it is of one who is meant
  step_holds : (w v : World T) → Reached defers size w → (i : ℕ) → (Who i → ReclaimsNone (w.row i)) → Steps' defers i (w.row i) w v → Holds w → Holds v
  step_holds w v r i none step holds = (step_zeros defers w r i v step holds.0, λ j its. by j its (cases_eq j i))
    where
      by : (j : ℕ) → Who j → (j ≡ i) ⊎ (j ≢ i) → RetiresOne (IsZero v.memory) (v.row j)
      by j its (inl e) =
          let its_own = subst Who e its in
          subst (λ (k : ℕ). RetiresOne (IsZero v.memory) (v.row k)) (sym e) (own_one defers w r i v (none its_own) (holds.1 i its_own) step)
      by j its (inr ne) = step_one defers w r i v step j ne (holds.1 j its)

  -- a row that begins hands one block over, if it is of one who is meant
  begin_holds : (w v : World T) (r : Reached defers size w) (i : ℕ) (request : Request) → (Who i → HandsOne defers w r i v request) → Happens defers size (Begin i request) w v → Holds w → Holds v
  begin_holds w v r i request hands h holds = (begin_zeros defers w r i v request h.1 holds.0, λ j its. by j its (cases_eq j i))
    where
      by : (j : ℕ) → Who j → (j ≡ i) ⊎ (j ≢ i) → RetiresOne (IsZero v.memory) (v.row j)
      by j its (inl e) = subst (λ (k : ℕ). RetiresOne (IsZero v.memory) (v.row k)) (sym e) (begin_own defers w r i v request (hands (subst Who e its)) holds.0 h.1).1
      by j its (inr ne) = begin_one defers w r i v request h.1 j ne (holds.1 j its)

-- what a call's row does in one step
module _ {K V : Type 0} (setting : Setting) (Who : ℕ → Type 0) where
  hands_one : (w v : World (Node K V)) (r : Reached deferred_word setting.batch_size w) (i : ℕ) (request : Request) → HandsOver setting i w request → HandsOne deferred_word w r i v request
  hands_one w v r i (Retire s b) hands = tt
  hands_one w v r i (Defer' s b t) hands = tt
  hands_one w v r i (Register' enters) hands = absurd hands
  hands_one w v r i (Enter' s) hands = absurd hands
  hands_one w v r i (Leave' s) hands = absurd hands
  hands_one w v r i (LeaveOwned s) hands = absurd hands
  hands_one w v r i (Refresh s) hands = absurd hands
  hands_one w v r i (Unregister' s) hands = absurd hands
  hands_one w v r i (Flush s) hands = absurd hands

  one_step_holds : (w w2 : World (Node K V)) → Reached deferred_word setting.batch_size w → (i : ℕ) → ReclaimsNone (w.row i) → IsOneStep setting i w w2
      → Holds deferred_word setting.batch_size Who w → Holds deferred_word setting.batch_size Who w2
  one_step_holds w w2 r i none (inl step) holds = step_holds deferred_word setting.batch_size Who w w2 r i (λ its. none) step holds
  one_step_holds w w2 r i none (inr (request, begun, hands, begins, step)) holds =
      let r2 = happens_reached deferred_word setting.batch_size (Begin i request) w begun r begins in
      step_holds deferred_word setting.batch_size Who begun w2 r2 i (λ its. (begin_own deferred_word w r i begun request (hands_one w begun r i request hands) holds.0 begins.1).0) step
      (begin_holds deferred_word setting.batch_size Who w begun r i request (λ its. hands_one w begun r i request hands) begins holds)

-- by scenes
module _ {K V : Type 0} where
  -- who has a call
  abbrev HasCall : Scene K V → ℕ → Type 0
  HasCall s j = (n : ℕ) × (x : UnderWay K V K) × (s.calls n j ≡ Some x)

  abbrev HoldsIn : Scene K V → ℕ → World (Node K V) → Type 0
  HoldsIn s size w = Holds deferred_word size (HasCall s) w

  holds_of : (size : ℕ) (s : Scene K V) → EntriesAreBlank s → HoldsIn s size s.world
  holds_of size s shows = (
    λ b its. as_zero s.world.memory b (shows.blank b its),
    λ j (n, x, is). one_as (IsBlank s.world.memory) (IsZero s.world.memory) (as_zero s.world.memory) (s.world.row j) (shows.one n j x is),
  )

  shows_of : (size : ℕ) (s t : Scene K V) → ((j : ℕ) → HasCall t j → HasCall s j) → HoldsIn s size t.world → EntriesAreBlank t
  shows_of size s t fewer holds = record {
    blank = λ b its. as_blank t.world.memory b (holds.0 b its);
    one = λ n j x is. one_as (IsZero t.world.memory) (IsBlank t.world.memory) (as_blank t.world.memory) (t.world.row j) (holds.1 j (fewer j (n, x, is)));
  }

pub entries_begin : (K V : Type 0) → EntriesBegin K V
entries_begin K V roots = record { blank = λ b its. absurd its; one = λ n i u is. absurd (cc is) }

module _ {K V : Type 0} (same : K → K → Bool) (hash : ℕ → K → ℕ) (name : ℕ → List ℕ) (m : Moment K V) (known : Known) (s : Scene K V) (old new : Held K V) (at_old : IsAt same hash old s)
    (shown : Refines same name m known s) (rows : RowsReclaimNone s) (shows : EntriesAreBlank s) (map i : ℕ) (u : UnderWay K V K) (here : s.calls map i ≡ Some u) (said : Progress (Node K V)) (leads : StepLeads same hash i said s old new) where
  abbrev to : WentTo same hash name m known s old new at_old shown map i u here said leads
  to = went_to same hash name m known s old new at_old shown map i u here said leads

  abbrev size : ℕ
  size = to.0.setting.batch_size

  reached_here : Reached deferred_word size s.world
  reached_here = came_reached size s.world (at_old.together.makings.standing.each map to.0 to.2).ground.came

  by_events : (w2 : World (Node K V)) → to.4.w2 ≡ w2 → (events : List (Event (Node K V))) → AllUsers events → Runs deferred_word size events s.world w2 → HoldsIn s size to.4.w2
  by_events w2 is events users runs =
      subst (HoldsIn s size) (sym is)
      (runs_hold deferred_word size (HasCall s) events s.world w2 reached_here (all_between events users) runs (holds_of size s shows))

  by_row : (w2 : World (Node K V)) → to.4.w2 ≡ w2 → IsOneStep to.0.setting i s.world w2 → HoldsIn s size to.4.w2
  by_row w2 is step =
      subst (HoldsIn s size) (sym is) (one_step_holds to.0.setting (HasCall s) s.world w2 reached_here i (rows.none map i u here) step (holds_of size s shows))

  call_holds : HoldsIn s size to.4.w2
  call_holds = by u to.4.did
    where
      by : (x : UnderWay K V K) → DidSo same hash name m known s old new at_old shown map i u here said leads x → HoldsIn s size to.4.w2
      by (OnKey x) (p2, end, machine_is, told_is, inl (step, moved)) = by_events step.step.went.w2 moved.0 step.step.went.events step.step.went.users step.step.went.runs
      by (OnKey x) (p2, end, machine_is, told_is, inr (row, stayed)) = by_row row.step.w2 stayed.0 row.step.happened
      by (ForRoom x) (p2, end, machine_is, told_is, inl (step, moved)) = by_events step.step.went.w2 moved.0 step.step.went.events step.step.went.users step.step.went.runs
      by (ForRoom x) (p2, end, machine_is, told_is, inr (row, stayed)) = by_row row.step.w2 stayed.0 row.step.happened
      by (Counting x) (p2, end, machine_is, told_is, still, stayed) = by_events s.world stayed.0 [] tt refl
      by (OverAll x) (p2, end, machine_is, told_is, inl (step, moved)) = by_events step.step.went.w2 moved.0 step.step.went.events step.step.went.users step.step.went.runs
      by (OverAll x) (p2, end, machine_is, told_is, inr (row, stayed)) = by_row row.step.w2 stayed.0 row.step.happened

  fewer_after : (j : ℕ) → HasCall (scene_after same s old new map i to.0 u to.1 said to.4) j → HasCall s j
  fewer_after j (n, x, is) = elim (which s.calls map i to.4.next n j x is) as (λ _. HasCall s j) [
    | inl its ↦ (map, u, ap (s.calls map) its.1 ∙ here)
    | inr was ↦ (n, x, was.1)
  ]

  pub call_shows : EntriesAreBlank (scene_after same s old new map i to.0 u to.1 said to.4)
  call_shows = shows_of size s (scene_after same s old new map i to.0 u to.1 said to.4) fewer_after call_holds

pub calls_keep_entries : (K V : Type 0) (same : K → K → Bool) (hash : ℕ → K → ℕ) → CallsPreserveEntries K V same hash
calls_keep_entries K V same hash name m known s old new at_old shown rows shows map i u here said leads =
    call_shows same hash name m known s old new at_old shown rows shows map i u here said leads

-- where a call begins, whose row rests, or goes on
pub calls_go_on_entries : (K V : Type 0) → CallsContinueEntries K V
calls_go_on_entries K V s shows map i next own = record { blank = shows.blank; one = λ n j x is. one_so n j x is }
  where
    one_so : (n j : ℕ) (x : UnderWay K V K) → with_call s.calls map i next n j ≡ Some x → RetiresOne (IsBlank s.world.memory) (s.world.row j)
    one_so n j x is = elim (which s.calls map i next n j x is) as (λ _. RetiresOne (IsBlank s.world.memory) (s.world.row j)) [
      | inl its ↦ subst (λ (k : ℕ). RetiresOne (IsBlank s.world.memory) (s.world.row k)) (sym its.1) (rests own)
      | inr was ↦ shows.one n j x was.1
    ]
      where
        rests : ((u : UnderWay K V K) × (s.calls map i ≡ Some u)) ⊎ (s.world.row i ≡ Rests) → RetiresOne (IsBlank s.world.memory) (s.world.row i)
        rests (inl (u, here)) = shows.one map i u here
        rests (inr rest) = subst (RetiresOne (IsBlank s.world.memory)) (sym rest) tt

module _ (K V : Type 0) (same : K → K → Bool) (hash : ℕ → K → ℕ) where
  reached : (s : Scene K V) (e : Held K V) → IsAt same hash e s → Reached deferred_word e.batch_size s.world
  reached s e at_e = came_reached e.batch_size s.world at_e.together.makings.standing.came

  pub rows_begin_entries : RowsBeginEntries K V same hash
  rows_begin_entries s old new at_old shows called i leads =
      let to = leads.2 in
      let after = record s { world = to.0; maps = to.2 } in
      shows_of old.batch_size s after (λ j its. its)
      (begin_holds deferred_word old.batch_size (HasCall s) s.world to.0 (reached s old at_old) i (request_of (slot_of i) called)
      (λ its. absurd (no_call s i leads.1 its)) to.1 (holds_of old.batch_size s shows))

  pub rows_keep_entries : RowsPreserveEntries K V same hash
  rows_keep_entries s old new at_old shows i told leads row here =
      let to = (leads row here).2 in
      shows_of old.batch_size s (record s { world = to.0; maps = to.2 }) (λ j its. its)
      (step_holds deferred_word old.batch_size (HasCall s) s.world to.0 (reached s old at_old) i (λ its. absurd (no_call s i here.0 its)) to.1 (holds_of old.batch_size s shows))

  pub makings_keep_entries : MakingsPreserveEntries K V same hash
  makings_keep_entries s old new at_old shows i told leads b here =
      let step = (leads b here).2.step in
      shows_of old.batch_size s (record s { world = step.w2 }) (λ j its. its)
      (runs_hold deferred_word old.batch_size (HasCall s) step.events s.world step.w2 (reached s old at_old) (all_between step.events step.users) step.runs
      (holds_of old.batch_size s shows))

  pub endings_keep_entries : EndingsPreserveEntries K V same hash
  endings_keep_entries s old new at_old shows i told leads f here =
      let ended = (leads f here).2 in
      shows_of old.batch_size s (record s { world = ended.w2 }) (λ j its. its)
      (runs_hold deferred_word old.batch_size (HasCall s) (events_of i ended.deed) s.world ended.w2 (reached s old at_old) (deed_between (Node K V) i ended.deed) ended.runs (holds_of old.batch_size s shows))

pub endings_begin_entries : (K V : Type 0) → EndingsBeginEntries K V
endings_begin_entries K V s shows map i standing = record { blank = shows.blank; one = shows.one }

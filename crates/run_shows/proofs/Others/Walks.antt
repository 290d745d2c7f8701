-- A walk goes on, or is given up: nothing else has changed.
use Rattle.std.specs.Prelude.{◌≡◌, ℕ, Bool, true, false, List, Option, Some, None}
use Rattle.std.proofs.Common.{refl, sym}
use Rattle.seize_words.specs.declared.fault.Fault.TheVariants.{Memory}
use Rattle.run_effects.specs.Given.RawMachine.{machine_asked}
use Rattle.run_effects.specs.Given.RunsDeclared.outcome.Outcome.TheVariants.{Refused}
use Rattle.run_effects.specs.Given.SchedulesMoment.{Moment}
use Rattle.many_maps.specs.Given.CallersTogether.{UnderWay, OnKey, ForRoom, Counting, OverAll}
use Rattle.many_maps.specs.Machines.{machine_of}
use Rattle.many_maps.specs.Maps.{with_call}
use Rattle.run_effects.specs.Effects.Known.{Known}
use Rattle.run_shows.specs.Follows.Calling.{NoneNamed}
use Rattle.run_shows.specs.Follows.Calls.{RefinesCalls}
use Rattle.run_shows.specs.Follows.Shows.{Refines}
use Rattle.run_shows.proofs.Follows.Alike.{alike_same}
use Rattle.run_shows.proofs.Follows.Called.{some_is, called_as, sweep_called}
use Rattle.run_shows.proofs.Follows.Calling.{calls_come_to}
use Rattle.run_shows.proofs.Follows.Calls.{CalledOn, was_there}
use Rattle.run_shows.proofs.Follows.Onward.{tables_same, pairs_same, blocks_same, map_on}
use Rattle.run_shows.specs.Others.After.{RefinesAfter}
use Rattle.run_shows.specs.Others.Walks.{given_up, WalksContinue, WalksAreGivenUp}
use Rattle.run_shows.specs.Scenes.Replying.{unless_stopped}
use Rattle.run_shows.specs.Scenes.Scene.{Scene}

module _ {K V : Type 0} (same : K → K → Bool) where
  -- calls of which one goes on, or is under way no more, are shown
  pub fewer_calls : (name : ℕ → List ℕ) (m : Moment K V) (calls : ℕ → ℕ → Option (UnderWay K V K)) (map i : ℕ) (u : UnderWay K V K) → calls map i ≡ Some u → (next : Option (UnderWay K V K))
      → ((x : UnderWay K V K) → next ≡ Some x → CalledOn same u x) → RefinesCalls same name m calls → RefinesCalls same name m (with_call calls map i next)
  fewer_calls name m calls map i u here next on shown n j x is =
      let before = was_there same calls map i u here next on n j x is in
      let there = shown n j before.0 before.1 in (there.0, there.1, there.2, before.2 there.0.call there.3)

  -- nothing else has changed
  pub with_calls : (name : ℕ → List ℕ) (m : Moment K V) (known : Known) (s : Scene K V) (calls : ℕ → ℕ → Option (UnderWay K V K)) → RefinesCalls same name m calls → (shown : Refines same name m known s)
      → RefinesAfter same name m known s shown m known (record s { calls = calls })
  with_calls name m known s calls there shown = record { shows = record { blocks = shown.blocks; number = shown.number; maps = shown.maps; calls = there }; numbers = λ n st e. refl }

  -- a machine of a walk is that of one call over the map
  walk_on : (u next : UnderWay K V K) → (machine_asked (machine_of u)).1 ≡ true → machine_of next ≡ (machine_asked (machine_of u)).0 → CalledOn same u next
  walk_on (OnKey x) next ready is = absurd (cc ready)
  walk_on (ForRoom x) next ready is = absurd (cc ready)
  walk_on (Counting x) next ready is = absurd (cc ready)
  walk_on (OverAll o) (OnKey y) ready is = absurd (cc is)
  walk_on (OverAll o) (ForRoom y) ready is = absurd (cc is)
  walk_on (OverAll o) (Counting y) ready is = absurd (cc is)
  walk_on (OverAll o) (OverAll p) ready is = λ its called. sweep_called same o p its called

module _ (K V : Type 0) (same : K → K → Bool) (hash : ℕ → K → ℕ) where
  pub walks_go_on : WalksContinue K V same hash
  walks_go_on name m known s old new shown i leads map u here =
      let to = leads map u here in
      with_calls same name m known s (with_call s.calls map i (Some to.0))
      (fewer_calls same name m s.calls map i u here (Some to.0)
      (λ x e its called. called_as same x to.0 its (some_is to.0 x e) (walk_on same u to.0 (sym to.2) to.1 its called)) shown.calls) shown

  pub walks_are_given_up : WalksAreGivenUp K V same hash
  walks_are_given_up name m known s old new shown i stopped leads map u here = by stopped
    where
      same_call : (x : UnderWay K V K) → ◌≡◌ {A = Option (UnderWay K V K)} (Some u) (Some x) → CalledOn same u x
      same_call x e its called = called_as same x u its (some_is u x e) called

      by : (q : Bool) → (let after = record s { calls = with_call s.calls map i (unless_stopped q u) } in
          (q ≡ true → NoneNamed name (name i) after) → RefinesAfter same name m known s shown (given_up (name i) q m) known after)
      by true none =
          let without = record s { calls = with_call s.calls map i None } in
          let before = with_calls same name m known s (with_call s.calls map i None) (fewer_calls same name m s.calls map i u here None (λ x e. absurd (cc e)) shown.calls) shown in
          let over = calls_come_to K V same name m known without before.shows (name i) (Refused Memory) 0 (λ ends. none refl) in
          record {
            shows = record {
              blocks = record { roles = shown.blocks.roles; once = shown.blocks.once; stored = shown.blocks.stored };
              number = shown.number;
              maps = λ n st is.
                  map_on n (shown.number n) st st m (given_up (name i) true m) known known (blocks_same st.chart st.blocks) (λ b lasting. refl) refl (tables_same st.chart) (pairs_same st.chart)
                  (alike_same n m (given_up (name i) true m) (record { place = refl; born = refl; maps = refl; tables = refl; stored = refl })) (shown.maps n st is);
              calls = over.calls;
            };
            numbers = λ n st e. refl;
          }
      by false none =
          with_calls same name m known s (with_call s.calls map i (Some u)) (fewer_calls same name m s.calls map i u here (Some u) same_call shown.calls) shown

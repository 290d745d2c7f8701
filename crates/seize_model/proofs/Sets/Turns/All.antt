-- Rows one after another reclaim what the waiting sets say, in that order.
use Rattle.std.specs.Prelude.{Option}
use Rattle.std.proofs.Common.{◌≡◌, ℕ, zero, suc, ◌+◌, ◌<◌, ◌^◌, Bool, List, [], ◌∷◌, ◌++◌, refl, subst, sym, ap, ◌∙◌}
use Rattle.std.proofs.lemmas.List.{append-nil}
use Rattle.seize.specs.declared.states.TheConstants.{LAST_SLOT}
use Rattle.seize.specs.declared.rows.register.Registering.TheVariants as registering
use Rattle.seize.specs.Sequence.{Turn, Whole, Between, IsBetween, RunsOn, Calls, TakesTurns, taken_in, entered_as, entered_at, changes, RowsFollowTheSets, ended_by}
use Rattle.seize.specs.WaitingSets.{Change, Enters as EntersSet, Leaves as LeavesSet, Refreshes, Retires, Flushes, Defers as DefersSet, Sets, After, changed, all_changed, at_start as sets_at_start, ended}
use Rattle.seize.specs.World.{World, Row, Rests, Registers, Use, Vacant, Outside, Inside, Request, Register', Enter', Leave', LeaveOwned, Refresh, Unregister', Retire, Flush, Defer', Event, Step, Happens, with_at, at_start, LeavesOver, Begin, Makes, Drops, Links, Parts, Unlinks, Rewrites, Operates, Relinks, Clears, Chooses, Ends}
use Rattle.seize_rule.proofs.Given.SeizeMovesState.Ghost.{State}
use Rattle.seize_rule.proofs.Given.SeizeMovesSets.Shown.{Models, models_start}
use Rattle.seize_rule.proofs.Rows.SizesKept.{happens_sized}
use Rattle.seize_rule.proofs.World.Start.{start_good, start_state}
use Rattle.seize_rule.proofs.World.Kept.{steps_next, users_good, IsStill}
use Rattle.seize_rule.proofs.Rows.Others.{steps_others, users_rows, with_here}
use Rattle.seize_rule.proofs.World.Rested.{Lone, Rested, resting_sized, lone_rested}
use Rattle.seize_model.proofs.Sets.Slots.Least.{least_taken, refused_changes}
use Rattle.seize_rule.proofs.Given.SeizeMovesSets.Unmoved.{unmoved_models}
use Rattle.seize_rule.proofs.Rows.Told.{RowTold}
use Rattle.seize_model.proofs.Sets.Turns.Middle.{Ended, EndedAs, Mid, step_mid}
use Rattle.seize_model.proofs.Sets.Turns.Begins.{NoNewSlot, target_of, Shown, Started, starts, as_before, begins_mid}
use Rattle.seize_model.proofs.Sets.Turns.Register.{MidRegister, Registered, NoneTaken, OneTaken, IsOutside, IsInside, step_registers}
use Rattle.seize_rule.proofs.World.Events.{leaves_over_good}
use Rattle.seize_rule.proofs.Given.SeizeMovesSets.Moved.{left_over_models}

module _ {T : Type 0} (defers : T → Option ℕ) (n size : ℕ) (last : n ≡ LAST_SLOT + 1) (word : size < 2 ^ 64) where
  module _ (i : ℕ) where
    module _ (P : Row → State → (ℕ → Use) → Type 0)
        (step : (w v : World T) (lone : Lone defers n size i w) (lone2 : Lone defers n size i v) → RowTold n i (w.row i) lone.good.state w.uses (v.row i) lone2.good.state v.uses
        → P (w.row i) lone.good.state w.uses → P (v.row i) lone2.good.state v.uses) where
      -- what each of its steps keeps holds once the row rests
      runs_keep : (steps : ℕ) (w v : World T) (lone : Lone defers n size i w) → P (w.row i) lone.good.state w.uses → RunsOn defers steps i w v
          → (r : Rested defers n size v) × P Rests r.good.state v.uses
      runs_keep zero w v lone p h =
          subst (λ (u : World T). (r : Rested defers n size u) × P Rests r.good.state u.uses) (sym h.1)
          (record { good = lone.good; rests = (lone_rested defers n size last i w lone h.0).rests }, subst (λ (r : Row). P r lone.good.state w.uses) h.0 p)
      runs_keep (suc steps) w v lone p h =
          let next = steps_next defers n size last w h.0 lone.good lone.sized i (w.row i) refl h.1 in
          let lone2 : Lone defers n size i h.0 = record {
            good = next.good;
            sized = happens_sized defers size w h.0 lone.sized (Step i) h.1;
            others = λ j ne. steps_others defers size w h.0 i j ne (w.row i) h.1 ∙ lone.others j ne;
          } in
          runs_keep steps h.0 v lone2 (step w h.0 lone lone2 next.told p) h.2

    -- a whole call came to this
    pub record Came (w v : World T) (target : After) : Type 0 where
      pub shown : Shown defers n size v target.sets
      pub taken : taken_in v.log ≡ taken_in w.log ++ target.reclaimed

    came_as : (w v : World T) (a b : After) → a ≡ b → Came w v a → Came w v b
    came_as w v a b e h = subst (λ (t : After). Came w v t) e h

    ended_came : (w v : World T) (sets : Sets) (shown : Shown defers n size w sets) (target : After) (r : Rested defers n size v)
        → EndedAs n r.good.state (taken_in shown.rested.good.state.log) target → Came w v target
    ended_came w v sets shown target r h = record {
      shown = record { rested = r; order = h.order; models = h.models };
      taken = sym (ap taken_in r.good.logged) ∙ h.taken ∙ ap (λ (l : List ℕ). l ++ target.reclaimed) (ap taken_in shown.rested.good.logged);
    }

    one_changed : (c : Change) (sets : Sets) → all_changed size (c ∷ []) sets ≡ changed size c sets
    one_changed c sets = ap (λ (l : List ℕ). after (changed size c sets).sets l) (append-nil (changed size c sets).reclaimed)
      where
        after : Sets → List ℕ → After
        after s l = record { sets = s; reclaimed = l }

    -- one that takes no slot

    whole : (request : Request) (uses uses2 : ℕ → Use) (sets : Sets) → NoNewSlot request → target_of size request sets ≡ all_changed size (changes request uses uses2) sets
    whole (Register' enters) uses uses2 sets k = absurd k
    whole (Enter' s) uses uses2 sets k = sym (one_changed (EntersSet s) sets)
    whole (Leave' s) uses uses2 sets k = sym (one_changed (LeavesSet s) sets)
    whole (LeaveOwned s) uses uses2 sets k = sym (one_changed (LeavesSet s) sets)
    whole (Refresh s) uses uses2 sets k = sym (one_changed (Refreshes s) sets)
    whole (Unregister' s) uses uses2 sets k = refl
    whole (Retire s b) uses uses2 sets k = sym (one_changed (Retires s b) sets)
    whole (Flush s) uses uses2 sets k = sym (one_changed (Flushes s) sets)
    whole (Defer' s b t) uses uses2 sets k = sym (one_changed (DefersSet b t) sets)

    call_comes : (request : Request) → NoNewSlot request → (w v : World T) (sets : Sets) → Shown defers n size w sets → Calls defers size i request w v
        → Came w v (all_changed size (changes request w.uses v.uses) sets)
    call_comes request k w v sets shown h =
        let st = starts defers n size last i w sets shown request h.0 h.3 in
        let before = taken_in shown.rested.good.state.log in
        let target = target_of size request sets in
        let end = runs_keep (λ r m u. Mid size n i before sets target r m)
        (λ a b lone lone2 told p. step_mid defers n size last word i before sets target a b lone lone2 told p)
        h.1 h.0 v st.lone (begins_mid defers n size last i w sets shown h.0 request k h.3 st) h.4 in
        came_as w v target (all_changed size (changes request w.uses v.uses) sets) (whole request w.uses v.uses sets k) (ended_came w v sets shown target end.0 end.1)

    -- and one that registers
    register_comes : (enters : Bool) (w v : World T) (sets : Sets) → Shown defers n size w sets → Calls defers size i (Register' enters) w v
        → Came w v (all_changed size (changes (Register' enters) w.uses v.uses) sets)
    register_comes enters w v sets shown h =
        let st = starts defers n size last i w sets shown (Register' enters) h.0 h.3 in
        let end = runs_keep (λ r m u. MidRegister size n i before sets w.uses r m u)
        (λ a b lone lone2 told p. step_registers size n i before sets w.uses (a.row i) (b.row i) lone.good.state lone2.good.state a.uses b.uses told p)
        h.1 h.0 v st.lone (begun st) h.4 in
        by end.0 end.1
      where
        before : List ℕ
        before = taken_in shown.rested.good.state.log

        begun : (st : Started defers n size last i w sets shown (Register' enters) h.0) → MidRegister size n i before sets w.uses (h.0.row i) st.lone.good.state h.0.uses
        begun st =
            let now = as_before defers n size last i w sets shown st.lone.good.state st.told in
            subst (λ (q : Row). MidRegister size n i before sets w.uses q st.lone.good.state h.0.uses)
            (sym (ap (λ (u : World T). u.row i) h.3 ∙ with_here w.row i (Registers (record { slot = 0; enters = enters; stands = registering.Begin }))))
            (now, ap (λ (u : World T). u.uses) h.3, tt)

        as_target : (r : Rested defers n size v) (all : List Change) → changes (Register' enters) w.uses v.uses ≡ all → EndedAs n r.good.state before (all_changed size all sets)
            → Came w v (all_changed size (changes (Register' enters) w.uses v.uses) sets)
        as_target r all e k =
            came_as w v (all_changed size all sets) (all_changed size (changes (Register' enters) w.uses v.uses) sets) (ap (λ (l : List Change). all_changed size l sets) (sym e))
            (ended_came w v sets shown (all_changed size all sets) r k)

        unchanged : (m : State) → Ended n m before sets → EndedAs n m before (all_changed size [] sets)
        unchanged m k = record { order = k.order; models = k.models; taken = k.taken ∙ sym (append-nil before) }

        use_here : (s : ℕ) (u : Use) → v.uses ≡ with_at w.uses s u → v.uses s ≡ u
        use_here s u e = ap (λ (f : ℕ → Use). f s) e ∙ with_here w.uses s u

        -- the change that it makes where it has taken slot s
        taken_change : (s : ℕ) (u : Use) → w.uses s ≡ Vacant → v.uses ≡ with_at w.uses s u → (u ≡ Vacant → ⊥) → changes (Register' enters) w.uses v.uses ≡ entered_as s u
        taken_change s u vacant e ne =
            ap (λ o. entered_at o v.uses) (least_taken defers n size last i s (Register' enters) w v shown.rested h vacant (λ z. ne (sym (use_here s u e) ∙ z)))
            ∙ ap (entered_as s) (use_here s u e)

        by : (r : Rested defers n size v) → Registered size n i before sets w.uses r.good.state v.uses → Came w v (all_changed size (changes (Register' enters) w.uses v.uses) sets)
        by r (NoneTaken e k) = as_target r [] (ap (λ (u : ℕ → Use). changes (Register' enters) w.uses u) e ∙ refused_changes enters w.uses) (unchanged r.good.state k)
        by r (OneTaken s vacant (IsOutside e k)) = as_target r [] (taken_change s (Outside 0) vacant e (λ z. absurd (cc z))) (unchanged r.good.state k)
        by r (OneTaken s vacant (IsInside e k)) =
            as_target r (EntersSet s ∷ []) (taken_change s (Inside 0) vacant e (λ z. absurd (cc z)))
            (subst (λ (t : After). EndedAs n r.good.state before t) (sym (one_changed (EntersSet s) sets)) k)

    pub calls_come : (request : Request) (w v : World T) (sets : Sets) → Shown defers n size w sets → Calls defers size i request w v
        → Came w v (all_changed size (changes request w.uses v.uses) sets)
    calls_come (Register' enters) w v sets shown h = register_comes enters w v sets shown h
    calls_come (Enter' s) w v sets shown h = call_comes (Enter' s) tt w v sets shown h
    calls_come (Leave' s) w v sets shown h = call_comes (Leave' s) tt w v sets shown h
    calls_come (LeaveOwned s) w v sets shown h = call_comes (LeaveOwned s) tt w v sets shown h
    calls_come (Refresh s) w v sets shown h = call_comes (Refresh s) tt w v sets shown h
    calls_come (Unregister' s) w v sets shown h = call_comes (Unregister' s) tt w v sets shown h
    calls_come (Retire s b) w v sets shown h = call_comes (Retire s b) tt w v sets shown h
    calls_come (Flush s) w v sets shown h = call_comes (Flush s) tt w v sets shown h
    calls_come (Defer' s b t) w v sets shown h = call_comes (Defer' s b t) tt w v sets shown h

  -- users' events leave the sets as they are, but for further values that are left over

  still_shown : (e : Event T) (w v : World T) (sets : Sets) → IsStill e → IsBetween e → Shown defers n size w sets → Happens defers size e w v → Shown defers n size v sets
  still_shown e w v sets still u shown h =
      let g = users_good defers n size last w v shown.rested.good (resting_sized defers n size last w shown.rested.rests) e still h in
      record {
        rested = record { good = g.0; rests = λ j. ap (λ (rows : ℕ → Row). rows j) (users_rows defers size w v e u h) ∙ shown.rested.rests j };
        order = shown.order;
        models = unmoved_models n shown.rested.good.state g.0.state shown.order sets g.1 shown.models;
      }

  left_shown : (i b : ℕ) (further : List ℕ) (w v : World T) (sets : Sets) → Shown defers n size w sets → Happens defers size (LeavesOver i b further) w v
      → Shown defers n size v (ended b sets)
  left_shown i b further w v sets shown h =
      let g = leaves_over_good defers n size w v shown.rested.good i b further h in
      record {
        rested = record { good = g.0; rests = λ j. ap (λ (rows : ℕ → Row). rows j) (users_rows defers size w v (LeavesOver i b further) tt h) ∙ shown.rested.rests j };
        order = shown.order;
        models = subst (λ (m : State). Models n m shown.order (ended b sets)) (sym g.1) (left_over_models n i b shown.rested.good.state shown.order sets shown.models);
      }

  users_shown : (e : Event T) (w v : World T) (sets : Sets) → IsBetween e → Shown defers n size w sets → Happens defers size e w v
      → Shown defers n size v (all_changed size (ended_by e) sets).sets
  users_shown (Begin i request) w v sets u shown h = absurd u
  users_shown (Step i) w v sets u shown h = absurd u
  users_shown (Makes i value words) w v sets u shown h = still_shown (Makes i value words) w v sets tt tt shown h
  users_shown (Drops i b) w v sets u shown h = still_shown (Drops i b) w v sets tt tt shown h
  users_shown (Links i b o) w v sets u shown h = still_shown (Links i b o) w v sets tt tt shown h
  users_shown (Parts i b) w v sets u shown h = still_shown (Parts i b) w v sets tt tt shown h
  users_shown (Unlinks i b) w v sets u shown h = still_shown (Unlinks i b) w v sets tt tt shown h
  users_shown (Rewrites i b value) w v sets u shown h = still_shown (Rewrites i b value) w v sets tt tt shown h
  users_shown (Operates op) w v sets u shown h = still_shown (Operates op) w v sets tt tt shown h
  users_shown (Ends i o) w v sets u shown h = still_shown (Ends i o) w v sets tt tt shown h
  users_shown (LeavesOver i b []) w v sets u shown h = still_shown (LeavesOver i b []) w v sets tt tt shown h
  users_shown (LeavesOver i b (c ∷ further)) w v sets u shown h = left_shown i b (c ∷ further) w v sets shown h
  users_shown (Relinks i b word) w v sets u shown h = still_shown (Relinks i b word) w v sets tt tt shown h
  users_shown (Clears i b) w v sets u shown h = still_shown (Clears i b) w v sets tt tt shown h
  users_shown (Chooses choice) w v sets u shown h = still_shown (Chooses choice) w v sets tt tt shown h

  -- some changes, and then others
  pub changed_then : (a b : List Change) (sets : Sets) → (all_changed size (a ++ b) sets).sets ≡ (all_changed size b (all_changed size a sets).sets).sets
  changed_then [] b sets = refl
  changed_then (c ∷ a) b sets = changed_then a b (changed size c sets).sets

  pub turns_shown : (turns : List (Turn T)) (w v : World T) (all : List Change) (sets : Sets) → Shown defers n size w sets → TakesTurns defers size turns w v all
      → Shown defers n size v (all_changed size all sets).sets
  turns_shown [] w v all sets shown h =
      subst (λ (l : List Change). Shown defers n size v (all_changed size l sets).sets) (sym h.1) (subst (λ (u : World T). Shown defers n size u sets) (sym h.0) shown)
  turns_shown (Whole i request ∷ turns) w v all sets shown h =
      let now = calls_come i request w h.0 sets shown h.2 in
      let a = changes request w.uses h.0.uses in
      subst (λ (l : List Change). Shown defers n size v (all_changed size l sets).sets) (sym h.4)
      (subst (λ (s : Sets). Shown defers n size v s) (sym (changed_then a h.1 sets)) (turns_shown turns h.0 v h.1 (all_changed size a sets).sets now.shown h.3))
  turns_shown (Between e ∷ turns) w v all sets shown h =
      let a = ended_by e in
      subst (λ (l : List Change). Shown defers n size v (all_changed size l sets).sets) (sym h.5)
      (subst (λ (s : Sets). Shown defers n size v s) (sym (changed_then a h.1 sets)) (turns_shown turns h.0 v h.1 (all_changed size a sets).sets (users_shown e w h.0 sets h.2 shown h.3) h.4))

  pub start_shown : (roots : ℕ) → Shown defers n size (at_start defers roots) sets_at_start
  start_shown roots = record {
    rested = record { good = start_good defers n size roots; rests = λ j. refl };
    order = [];
    models = subst (λ (m : State). Models n m [] sets_at_start) (sym (start_state defers n size roots)) (models_start n);
  }

pub rows_follow : {T : Type 0} (defers : T → Option ℕ) → RowsFollowTheSets defers
rows_follow defers size roots turns w v before i request word turned h =
    let n = LAST_SLOT + 1 in
    let shown = turns_shown defers n size refl word turns (at_start defers roots) w before sets_at_start (start_shown defers n size refl word roots) turned in
    (calls_come defers n size refl word i request w v (all_changed size before sets_at_start).sets shown h).taken

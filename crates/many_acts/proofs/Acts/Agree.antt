-- By any two courses a list leads to what is alike: so do acts, and so do the steps of a caller that reclaims all.
use Rattle.std.specs.Prelude.{◌≢◌, ◌++◌, Option}
use Rattle.std.proofs.Common.{◌≡◌, ℕ, Bool, List, [], ◌∷◌, ◌⊎◌, inl, inr, refl, ap, sym, subst, ◌∙◌}
use Rattle.std.proofs.lemmas.Bool.{cases_eq}
use Rattle.run_shows.specs.Given.SeizeWordsMem.{Mem}
use Rattle.run_shows.specs.Given.SeizeWordsDeclared.at.At.{At}
use Rattle.run_shows.specs.Given.SeizeWordsDeclared.at.At.TheVariants.{Root, Used}
use Rattle.run_shows.specs.Given.SeizeReclaimAll.{reclaiming_all, clearing, reclaim_all_plan}
use Rattle.run_shows.specs.Given.SeizeWorld.{World, Row, Rests, Settles, Leaves, Event, Begin, Step, Happens, Runs}
use Rattle.run_shows.specs.Given.SeizeDeclared.rows.reclaim_all.ReclaimAll.{ReclaimAll}
use Rattle.run_shows.specs.Given.SeizeDeclared.rows.reclaim_all.Reclaiming.{Reclaiming}
use Rattle.run_shows.specs.Given.SeizeDeclared.rows.reclaim_all.Reclaiming.TheVariants as at
use Rattle.run_shows.specs.Given.SeizeDeclared.rows.settle.Settled.{Settled}
use Rattle.seize_acts.specs.Acts.Answers.{Grant, stepped}
use Rattle.seize_acts.proofs.Given.SeizeRuleRows.Others.{begins_others, steps_others}
use Rattle.run_shows.specs.Given.TablesNodes.{deferred_word, was_left}
use Rattle.run_shows.specs.Given.TablesDeclared.node.Node.{Node}
use Rattle.owner_facts.specs.Given.FinishesFactsEnds.{TakesLeft, WritesRoot, events_of}
use Rattle.owner_facts.specs.Given.FinishesMaps.{Standing}
use Rattle.run_shows.specs.Reclaims.Reclaims.{ReclaimingAt}
use Rattle.run_shows.specs.Reclaims.Slots.{AreItsRows}
use Rattle.many_acts.specs.Acts.Acts.{Answer, OfReclaiming}
use Rattle.many_acts.specs.Acts.Courses.{AreAlike, CoursesAgree}
use Rattle.many_acts.specs.Acts.Doings.{Doing, Does, BeginsReclaiming, BeginsClearing, StepsReclaiming, Chooses, memory_chosen, scene_chosen, still, Stage, reclaiming, behind, MayDo, HasBegun, HasStepped, HasDone}
use Rattle.many_acts.specs.Acts.Lists.{Course, Reached, LedOn, nothing_done, on_by}
use Rattle.many_acts.specs.Acts.Reclaiming.{ReclaimedOn}
use Rattle.many_acts.proofs.Acts.Courses.{by_act, same_set_up}
use Rattle.run_shows.specs.Scenes.Scene.{Scene, HasNoCall}
use Rattle.run_shows.proofs.Given.General.{same_some}

module _ {K V : Type 0} (size i : ℕ) where
  -- who reclaims all leaves the rows of others as they are
  rows_others : (events : List (Event (Node K V))) → AreItsRows i events → (w w2 : World (Node K V)) → Runs deferred_word size events w w2 → (j : ℕ) → j ≢ i → w2.row j ≡ w.row j
  rows_others [] own w w2 runs j ne = ap (λ (x : World (Node K V)). x.row j) runs
  rows_others (Begin k request ∷ events) own w w2 runs j ne =
      rows_others events own.2 runs.0 w2 runs.2 j ne ∙ begins_others deferred_word size w runs.0 i j ne request ((subst (λ (x : ℕ). Happens deferred_word size (Begin x request) w runs.0) own.0 runs.1).1)
  rows_others (Step k ∷ events) own w w2 runs j ne =
      rows_others events own.1 runs.0 w2 runs.2 j ne ∙ steps_others deferred_word size w runs.0 i j ne (w.row i) (subst (λ (x : ℕ). Happens deferred_word size (Step x) w runs.0) own.0 runs.1)
  rows_others (e ∷ events) own w w2 runs j ne = absurd own

  -- so it does where it takes away what was left over, or writes a word of a root
  clears_rows : (x : ℕ) (w w2 : World (Node K V)) → Runs deferred_word size (events_of i (TakesLeft x)) w w2 → (j : ℕ) → w2.row j ≡ w.row j
  clears_rows x w w2 (v, h, e) j = ap (λ (y : World (Node K V)). y.row j) e ∙ ap (λ (y : World (Node K V)). y.row j) h.5

  writes_rows : (name : At) (w w2 : World (Node K V)) → Runs deferred_word size (events_of i (WritesRoot name 0)) w w2 → (j : ℕ) → w2.row j ≡ w.row j
  writes_rows name w w2 (v, h, e) j = ap (λ (y : World (Node K V)). y.row j) e ∙ ap (λ (y : World (Node K V)). y.row j) h.4

-- its own row is told by its point
abbrev row_at : Reclaiming → Row
row_at (at.Leaves s leave) = Leaves leave
row_at (at.Flushes s settle) = Settles settle
row_at _ = Rests

module _ {K V : Type 0} (batch_size roots i : ℕ) (c : ReclaimAll) (w : World (Node K V)) (maps : ℕ → Option (Standing K)) (lists : ℕ → List ℕ) where
  row_is : (p : Reclaiming) → ReclaimingAt batch_size roots i c w maps lists p → w.row i ≡ row_at p
  row_is (at.Heads s) (size, left, (none, last, so, there)) = so.rests i
  row_is (at.Retakes s) (size, left, (none, last, so, free)) = so.rests i
  row_is (at.Leaves s leave) (size, left, (none, last, within)) = within.row_is
  row_is (at.Batches s) (size, left, (last, so)) = so.rests i
  row_is (at.Flushes s settle) (size, left, (last, within)) = within.row_is
  row_is (at.Frees s) (size, left, (last, so)) = so.rests i
  row_is (at.Roots root) is = is.0.rests i
  row_is (at.Nexts root block) is = is.0.rests i
  row_is (at.Takes root block next) is = is.0.rests i
  row_is (at.Empties root) is = is.0.rests i
  row_is (at.Unuses root) is = is.0.rests i
  row_is at.Over is = is.0.rests i

module _ {K S : Type 0} (V : Type 0) (same : K → K → Bool) (hash : S → K → ℕ) (batch_size roots : ℕ) (slot : ℕ → ℕ) where
  -- the rows of others, by a step of who reclaims all
  others_rest : (s n : Scene K V) (i : ℕ) (lists lists2 : ℕ → List ℕ) (c c2 : ReclaimAll) (g : Grant) (told : Settled (Node K V))
      (on : ReclaimedOn V same batch_size roots slot s i lists c g told n lists2 c2) (j : ℕ) → j ≢ i → on.did.w2.row j ≡ s.world.row j
  others_rest s n i lists lists2 c c2 g told on j ne = by on.did.its
    where
      by : AreItsRows i on.did.events ⊎ (((b : ℕ) × (on.did.events ≡ events_of i (TakesLeft b)))
          ⊎ ((root : ℕ) × ((on.did.events ≡ events_of i (WritesRoot (Root root) 0)) ⊎ (on.did.events ≡ events_of i (WritesRoot (Used root) 0)))))
          → on.did.w2.row j ≡ s.world.row j
      by (inl own) = rows_others batch_size i on.did.events own s.world on.did.w2 on.did.runs j ne
      by (inr (inl (b, is))) = clears_rows batch_size i b s.world on.did.w2 (subst (λ (l : List (Event (Node K V))). Runs deferred_word batch_size l s.world on.did.w2) is on.did.runs) j
      by (inr (inr (root, inl is))) =
          writes_rows batch_size i (Root root) s.world on.did.w2 (subst (λ (l : List (Event (Node K V))). Runs deferred_word batch_size l s.world on.did.w2) is on.did.runs) j
      by (inr (inr (root, inr is))) =
          writes_rows batch_size i (Used root) s.world on.did.w2 (subst (λ (l : List (Event (Node K V))). Runs deferred_word batch_size l s.world on.did.w2) is on.did.runs) j

  abbrev Its : Type 0
  Its = ℕ × ReclaimAll

  abbrev Agreed : Stage V same hash batch_size roots slot → Stage V same hash batch_size roots slot → Answer K V → Answer K V → Type 0
  Agreed n o told told2 = AreAlike n.0 o.0 × (told ≡ told2) × (reclaiming V same hash batch_size roots slot n ≡ reclaiming V same hash batch_size roots slot o)

  module _ (p q n o : Stage V same hash batch_size roots slot) (alike : AreAlike p.0 q.0) (as_far : reclaiming V same hash batch_size roots slot p ≡ reclaiming V same hash batch_size roots slot q) where
    begun_agree : (i : ℕ) (c : ReclaimAll) (told told2 : Answer K V) → HasBegun V same hash batch_size roots slot i c p told n → HasBegun V same hash batch_size roots slot i c q told2 o → Agreed n o told told2
    begun_agree i c told told2 (none, is, lists, begun) (none2, is2, lists2, begun2) = (
      subst (λ (x : Scene K V). AreAlike x o.0) (sym is) (subst (AreAlike p.0) (sym is2) alike),
      none ∙ sym none2,
      begun ∙ sym begun2,
    )

    module _ (g : Grant) (told told2 : Answer K V) (one : HasStepped V same hash batch_size roots slot g p told n) (two : HasStepped V same hash batch_size roots slot g q told2 o) where
      abbrev End : Type 0
      End = Mem (Node K V) × (ReclaimAll × Settled (Node K V))

      it : ◌≡◌ {A = Its} (one.caller, one.machine) (two.caller, two.machine)
      it = same_some (one.caller, one.machine) (two.caller, two.machine) (sym one.here ∙ as_far ∙ two.here)

      step : ◌≡◌ {A = End} (one.did.memory, (one.next, one.end)) (two.did.memory, (two.next, two.end))
      step = same_some (one.did.memory, (one.next, one.end)) (two.did.memory, (two.next, two.end))
          (sym one.did.computed ∙ ap (λ (x : Mem (Node K V)). stepped x g (reclaim_all_plan deferred_word was_left one.machine)) alike.memory
          ∙ ap (λ (x : Its). stepped q.0.world.memory g (reclaim_all_plan deferred_word was_left x.1)) it ∙ two.did.computed)

      own : one.did.did.w2.row one.caller ≡ two.did.did.w2.row two.caller
      own = row_is batch_size roots one.caller one.next one.did.did.w2 one.did.did.maps2 one.did.did.lists2 one.next.stands one.did.did.next.point
          ∙ ap (λ (x : End). row_at x.1.0.stands) step
          ∙ sym (row_is batch_size roots two.caller two.next two.did.did.w2 two.did.did.maps2 two.did.did.lists2 two.next.stands two.did.did.next.point)

      rows : (j : ℕ) → HasNoCall p.0 j → (j ≡ one.caller) ⊎ (j ≢ one.caller) → one.did.did.w2.row j ≡ two.did.did.w2.row j
      rows j none (inl at) = ap one.did.did.w2.row at ∙ own ∙ ap two.did.did.w2.row (sym (at ∙ ap (λ (x : Its). x.0) it))
      rows j none (inr ne) =
          others_rest p.0 n.0 one.caller (behind V same hash batch_size roots slot p) one.lists one.machine one.next g one.end one.did j ne ∙ alike.rows j none
          ∙ sym (others_rest q.0 o.0 two.caller (behind V same hash batch_size roots slot q) two.lists two.machine two.next g two.end two.did j (λ e. ne (e ∙ ap (λ (x : Its). x.0) (sym it))))

      alike_then : AreAlike (record p.0 { world = one.did.did.w2; maps = one.did.did.maps2 }) (record q.0 { world = two.did.did.w2; maps = two.did.did.maps2 })
      alike_then = record {
        memory = one.did.did.memory ∙ ap (λ (x : End). x.0) step ∙ sym two.did.did.memory;
        maps = λ m. same_set_up (p.0.maps m) (one.did.did.maps2 m) (one.did.did.as_they_were m) ∙ alike.maps m ∙ sym (same_set_up (q.0.maps m) (two.did.did.maps2 m) (two.did.did.as_they_were m));
        calls = alike.calls;
        makers = alike.makers;
        enders = alike.enders;
        rows = λ j none. rows j none (cases_eq j one.caller);
      }

      stepped_agree : Agreed n o told told2
      stepped_agree = (
        subst (λ (x : Scene K V). AreAlike x o.0) (sym one.did.comes) (subst (AreAlike (record p.0 { world = one.did.did.w2; maps = one.did.did.maps2 })) (sym two.did.comes) alike_then),
        one.tells ∙ ap (λ (x : End). OfReclaiming x.1.1) step ∙ sym two.tells,
        one.goes_on ∙ ap (λ (x : End). still x.1.1 (one.caller, x.1.0)) step ∙ ap (λ (x : Its). still two.end (x.0, two.next)) it ∙ sym two.goes_on,
      )

    by_doing : (doing : Doing K V S) → MayDo V same hash batch_size roots slot doing p → (told told2 : Answer K V) → HasDone V same hash batch_size roots slot doing p told n
        → HasDone V same hash batch_size roots slot doing q told2 o → Agreed n o told told2
    by_doing (Does act) may told told2 (led, idle) (led2, idle2) =
        let so = by_act same hash batch_size roots slot p.0 q.0 n.0 o.0 p.1 q.1 alike act may.1 told told2 led led2 in (so.0, so.1, idle ∙ sym idle2)
    by_doing (BeginsReclaiming i) may told told2 begun begun2 = begun_agree i (reclaiming_all batch_size roots) told told2 begun begun2
    by_doing (BeginsClearing i) may told told2 begun begun2 = begun_agree i (clearing roots) told told2 begun begun2
    by_doing (StepsReclaiming g) may told told2 one two = stepped_agree g told told2 one two
    by_doing (Chooses choice) may told told2 (none, is, lists, idle) (none2, is2, lists2, idle2) = (
      subst (λ (x : Scene K V). AreAlike x o.0) (sym is) (subst (AreAlike (scene_chosen choice p.0)) (sym is2) (record {
        memory = ap (memory_chosen choice) alike.memory;
        maps = alike.maps;
        calls = alike.calls;
        makers = alike.makers;
        enders = alike.enders;
        rows = alike.rows;
      })),
      none ∙ sym none2,
      idle ∙ sym idle2,
    )

abbrev SoFar : {K S : Type 0} (V : Type 0) (same : K → K → Bool) (hash : S → K → ℕ) (batch_size roots : ℕ) (slot : ℕ → ℕ) (x y : Reached V same hash batch_size roots slot) → Type 0
SoFar V same hash batch_size roots slot x y = AreAlike x.0.0 y.0.0 × (x.1 ≡ y.1) × (reclaiming V same hash batch_size roots slot x.0 ≡ reclaiming V same hash batch_size roots slot y.0)

module _ {K S : Type 0} (V : Type 0) (same : K → K → Bool) (hash : S → K → ℕ) (batch_size roots : ℕ) (slot : ℕ → ℕ) (one other : Course V same hash batch_size roots slot) where
  agree_on : (doings : List (Doing K V S)) (x y x2 y2 : Reached V same hash batch_size roots slot) → SoFar V same hash batch_size roots slot x y
      → LedOn V same hash batch_size roots slot one doings x x2 → LedOn V same hash batch_size roots slot other doings y y2 → SoFar V same hash batch_size roots slot x2 y2
  agree_on [] x y x2 y2 so led led2 =
      subst (λ (z : Reached V same hash batch_size roots slot). SoFar V same hash batch_size roots slot z y2) (sym led) (subst (SoFar V same hash batch_size roots slot x) (sym led2) so)
  agree_on (doing ∷ doings) x y x2 y2 so (may, led) (may2, led2) =
      let then = by_doing V same hash batch_size roots slot x.0 y.0 (one.next x.0 doing may) (other.next y.0 doing may2) so.0 so.2 doing may (one.told x.0 doing may) (other.told y.0 doing may2)
      (one.leads x.0 doing may) (other.leads y.0 doing may2) in
      agree_on doings (on_by V same hash batch_size roots slot one x doing may) (on_by V same hash batch_size roots slot other y doing may2) x2 y2
      (then.0, ap (λ (a : Answer K V). x.1 ++ a ∷ []) then.1 ∙ ap (λ (l : List (Answer K V)). l ++ other.told y.0 doing may2 ∷ []) so.1, then.2) led led2

  at_first_alike : SoFar V same hash batch_size roots slot (nothing_done V same hash batch_size roots slot one) (nothing_done V same hash batch_size roots slot other)
  at_first_alike = (record { memory = refl; maps = λ m. refl; calls = λ m i. refl; makers = λ i. refl; enders = λ i. refl; rows = λ i none. refl }, refl, refl)

pub courses_agree : {K S : Type 0} (V : Type 0) (same : K → K → Bool) (hash : S → K → ℕ) (batch_size roots : ℕ) (slot : ℕ → ℕ) → CoursesAgree V same hash batch_size roots slot
courses_agree V same hash batch_size roots slot one other doings x y led led2 =
    agree_on V same hash batch_size roots slot one other doings (nothing_done V same hash batch_size roots slot one) (nothing_done V same hash batch_size roots slot other) x y
    (at_first_alike V same hash batch_size roots slot one other) led led2

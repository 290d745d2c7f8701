-- Whatever a caller does, a block that is unlinked by it can't be reached then.
use Rattle.std.specs.Prelude.{Option, Some}
use Rattle.std.proofs.Common.{◌≡◌, ◌≢◌, ◌⊎◌, ℕ, suc, Bool, true, false, cond, eqb, List, [], ◌∷◌, inl, inr, refl, ap, sym, subst, ◌∙◌}
use Rattle.std.proofs.lemmas.Bool.{cases_eq, eq-eqb, ne_eqb}
use Rattle.run_shows.specs.Given.SeizeWordsMem.{Mem}
use Rattle.run_shows.specs.Given.SeizeLaw.{Effect, Nowhere, where_is, is_somewhere, reachable, without, Unlinked, Dropped, LeftOver}
use Rattle.run_shows.specs.Given.SeizeWorld.{World, Event, Begin, Step, MayCut, Runs}
use Rattle.seize_acts.proofs.Given.SeizeAloneHistories.Reached.{Reached, happens_reached}
use Rattle.run_shows.specs.Given.TablesNodes.{deferred_word}
use Rattle.run_shows.specs.Given.TablesDeclared.node.Node.{Node}
use Rattle.run_shows.specs.Given.TablesDeclared.setting.Setting.{Setting}
use Rattle.run_shows.specs.Given.RawDeclared.machines.machine.Machine.{Machine}
use Rattle.run_shows.specs.Given.RawDeclared.machines.progress.Progress.{Progress}
use Rattle.owner_facts.specs.Given.CallersSights.{seen_by}
use Rattle.owner_facts.specs.Given.CallersTogether.{UnderWay, OnKey, ForRoom, Counting, OverAll, IsOneStep, in_slot}
use Rattle.owner_facts.proofs.Given.CallersTogether.Came.{came_reached}
use Rattle.owner_facts.specs.Given.FinishesEndings.{Finishing}
use Rattle.owner_facts.specs.Given.FinishesFactsEnds.{Deed, Looks, TakesPair, LeavesTable, JoinsPair, TakesLeft, TakesCounter, WritesRoot, events_of}
use Rattle.owner_facts.specs.Given.FinishesMachines.{DidOfKind}
use Rattle.owner_facts.specs.Given.FinishesMakings.{Beginning}
use Rattle.owner_facts.specs.Given.FinishesMaps.{Standing, MapsTogether}
use Rattle.many_acts.proofs.Carries.Steps.{map_here}
use Rattle.run_shows.specs.Reclaims.Slots.{AreItsRows}
use Rattle.many_acts.specs.Links.Tied.{unlinkings}
use Rattle.many_acts.proofs.Links.Before.{went_cut_off}
use Rattle.many_acts.proofs.Links.Places.{cut_standing}
use Rattle.many_acts.proofs.Links.Unlinked.{IsCutOff, begin_none, step_none}

-- what was unlinked, and is not linked again
module _ (b c : ℕ) where
  cut_place : (log : List Effect) → b ≡ c → where_is b (Unlinked c ∷ log) ≡ Nowhere
  cut_place log e = ap (λ (q : Bool). cond q Nowhere (without c (where_is b log))) (eq-eqb b c e)

  other_count : (log : List Effect) → b ≢ c → unlinkings b (Unlinked c ∷ log) ≡ unlinkings b log
  other_count log ne = ap (λ (q : Bool). cond q (suc (unlinkings b log)) (unlinkings b log)) (ne_eqb b c ne)

  dropped_place : (d : ℕ) (log : List Effect) → where_is b log ≡ Nowhere → where_is b (Dropped d ∷ log) ≡ Nowhere
  dropped_place d log none = by (eqb b d)
    where
      by : (q : Bool) → cond q Nowhere (where_is b log) ≡ Nowhere
      by true = refl
      by false = none

module _ {K V : Type 0} (size b : ℕ) (w : World (Node K V)) (r : Reached deferred_word size w) where
  may_reach : (i c : ℕ) → b ≡ c → MayCut i (w.hand c) → reachable b w.log ≡ true
  may_reach i c e may = ap is_somewhere (cut_standing deferred_word size w r b i (subst (λ (x : ℕ). MayCut i (w.hand x)) (sym e) may))

  -- an end of a map takes a pair away, or leaves a table over
  pub deed_cut : (i : ℕ) (deed : Deed) (w2 : World (Node K V)) → Runs deferred_word size (events_of i deed) w w2 → IsCutOff b w w2
  deed_cut i Looks w2 runs = inl (ap (λ (x : World (Node K V)). unlinkings b x.log) runs)
  deed_cut i (TakesPair c) w2 (v1, h1, (v2, h2, (v3, h3, e))) = by (cases_eq b c)
    where
      first : v1.log ≡ Unlinked c ∷ w.log
      first = ap (λ (x : World (Node K V)). x.log) h1.1

      second : v2.log ≡ LeftOver c [] ∷ v1.log
      second = ap (λ (x : World (Node K V)). x.log) h2.4

      third : w2.log ≡ Dropped c ∷ v2.log
      third = ap (λ (x : World (Node K V)). x.log) e ∙ ap (λ (x : World (Node K V)). x.log) h3.5

      all : w2.log ≡ Dropped c ∷ LeftOver c [] ∷ Unlinked c ∷ w.log
      all = third ∙ ap (λ (l : List Effect). Dropped c ∷ l) (second ∙ ap (λ (l : List Effect). LeftOver c [] ∷ l) first)

      by : (b ≡ c) ⊎ (b ≢ c) → IsCutOff b w w2
      by (inl same) = inr (may_reach i c same h1.0, ap (reachable b) all ∙ ap is_somewhere (dropped_place b c c (LeftOver c [] ∷ Unlinked c ∷ w.log) (cut_place b c w.log same)))
      by (inr ne) = inl (ap (unlinkings b) all ∙ other_count b c w.log ne)
  deed_cut i (LeavesTable c further) w2 (v1, h1, (v2, h2, e)) = by (cases_eq b c)
    where
      first : v1.log ≡ Unlinked c ∷ w.log
      first = ap (λ (x : World (Node K V)). x.log) h1.1

      all : w2.log ≡ LeftOver c further ∷ Unlinked c ∷ w.log
      all =
          ap (λ (x : World (Node K V)). x.log) e ∙ ap (λ (x : World (Node K V)). x.log) h2.4
          ∙ ap (λ (l : List Effect). LeftOver c further ∷ l) first

      by : (b ≡ c) ⊎ (b ≢ c) → IsCutOff b w w2
      by (inl same) = inr (may_reach i c same h1.0, ap (reachable b) all ∙ ap is_somewhere (cut_place b c w.log same))
      by (inr ne) = inl (ap (unlinkings b) all ∙ other_count b c w.log ne)
  deed_cut i (JoinsPair c word) w2 (v, h, e) = inl (ap (λ (x : World (Node K V)). unlinkings b x.log) e ∙ ap (λ (x : World (Node K V)). unlinkings b x.log) h.4)
  deed_cut i (TakesLeft c) w2 (v, h, e) = inl (ap (λ (x : World (Node K V)). unlinkings b x.log) e ∙ ap (λ (x : World (Node K V)). unlinkings b x.log) h.5)
  deed_cut i (TakesCounter c) w2 (v, h, e) = inl (ap (λ (x : World (Node K V)). unlinkings b x.log) e ∙ ap (λ (x : World (Node K V)). unlinkings b x.log) h.4)
  deed_cut i (WritesRoot name word) w2 (v, h, e) = inl (ap (λ (x : World (Node K V)). unlinkings b x.log) e ∙ ap (λ (x : World (Node K V)). unlinkings b x.log) h.4)

module _ {K V : Type 0} (size b : ℕ) where
  -- rows unlink nothing
  pub rows_none : (i : ℕ) (events : List (Event (Node K V))) → AreItsRows i events → (w w2 : World (Node K V)) → Reached deferred_word size w → Runs deferred_word size events w w2
      → unlinkings b w2.log ≡ unlinkings b w.log
  rows_none i [] own w w2 r runs = ap (λ (x : World (Node K V)). unlinkings b x.log) runs
  rows_none i (Begin j request ∷ events) own w w2 r runs =
      rows_none i events own.2 runs.0 w2 (happens_reached deferred_word size (Begin j request) w runs.0 r runs.1) runs.2
      ∙ begin_none deferred_word size b j request w runs.0 runs.1.1
  rows_none i (Step j ∷ events) own w w2 r runs =
      rows_none i events own.1 runs.0 w2 (happens_reached deferred_word size (Step j) w runs.0 r runs.1) runs.2
      ∙ step_none deferred_word size b j w runs.0 r runs.1
  rows_none i (e ∷ events) own w w2 r runs = absurd own

-- a step of a row within a call
one_none : {K V : Type 0} (b : ℕ) (setting : Setting) (i : ℕ) (w w2 : World (Node K V)) → Reached deferred_word setting.batch_size w → IsOneStep setting i w w2 → IsCutOff b w w2
one_none {K} {V} b setting i w w2 r (inl step) = inl (step_none deferred_word setting.batch_size b i w w2 r step)
one_none {K} {V} b setting i w w2 r (inr (request, begun, over, begins, step)) =
    inl (step_none deferred_word setting.batch_size b i begun w2 (happens_reached deferred_word setting.batch_size (Begin i request) w begun r begins) step
    ∙ begin_none deferred_word setting.batch_size b i request w begun begins.1)

module _ {K Q : Type 0} (V : Type 0) (same : K → K → Bool) (asks : Q → K → Bool) (batch_size roots : ℕ) (slot : ℕ → ℕ)
    (w : World (Node K V)) (maps : ℕ → Option (Standing K)) (calls : ℕ → ℕ → Option (UnderWay K V Q)) (makers : ℕ → Option (Beginning K)) (enders : ℕ → Option (Finishing K V))
    (m : ℕ) (s : Standing K) (i b : ℕ) (m2 : Mem (Node K V)) (w2 : World (Node K V)) (maps2 : ℕ → Option (Standing K)) (next : Option (UnderWay K V Q))
    (all : MapsTogether V same asks batch_size slot w maps calls) (here : maps m ≡ Some s) where
  r : Reached deferred_word s.setting.batch_size w
  r = came_reached s.setting.batch_size w (all.each m s here).ground.came

  come : (v : World (Node K V)) → w2 ≡ v → IsCutOff b w v → IsCutOff b w w2
  come v is so = subst (IsCutOff b w) (sym is) so

  -- So it is over a step of what is under way on a map, whichever its kind.
  pub kind_cut : (u : UnderWay K V Q) → calls m i ≡ Some u → (machine : Machine K V Q) (told : Progress (Node K V)) → DidOfKind V same asks batch_size roots slot w maps calls makers enders m s i m2 w2 maps2 next u machine told
      → IsCutOff b w w2
  kind_cut (OnKey u) has machine told (p2, end, is, tells, inl (st, moved)) =
      come _ moved.0 (went_cut_off same s.hash (in_slot s.setting (slot i)) i b w s.chart (seen_by s.blocks (s.sights (slot i))) m2 _ r
      (map_here V same asks batch_size slot w maps calls enders all m s here i (OnKey u) has ((all.each m s here).inside i (OnKey u) has)) st.step.went)
  kind_cut (OnKey u) has machine told (p2, end, is, tells, inr (st, stayed)) = come _ stayed.0 (one_none b s.setting i w st.step.w2 r st.step.happened)
  kind_cut (ForRoom k) has machine told (p2, end, is, tells, inl (st, moved)) =
      come _ moved.0 (went_cut_off same s.hash (in_slot s.setting (slot i)) i b w s.chart (seen_by s.blocks (s.sights (slot i))) m2 _ r
      (map_here V same asks batch_size slot w maps calls enders all m s here i (ForRoom k) has ((all.each m s here).inside i (ForRoom k) has)) st.step.went)
  kind_cut (ForRoom k) has machine told (p2, end, is, tells, inr (st, stayed)) = come _ stayed.0 (one_none b s.setting i w st.step.w2 r st.step.happened)
  kind_cut (Counting sum) has machine told (sum2, end, is, tells, still, stayed) = inl (ap (λ (x : World (Node K V)). unlinkings b x.log) stayed.0)
  kind_cut (OverAll o) has machine told (p2, end, is, tells, inl (st, moved)) =
      come _ moved.0 (went_cut_off same s.hash (in_slot s.setting (slot i)) i b w s.chart (seen_by s.blocks (s.sights (slot i))) m2 _ r
      (map_here V same asks batch_size slot w maps calls enders all m s here i (OverAll o) has ((all.each m s here).inside i (OverAll o) has)) st.step.went)
  kind_cut (OverAll o) has machine told (p2, end, is, tells, inr (st, stayed)) = come _ stayed.0 (one_none b s.setting i w st.step.w2 r st.step.happened)

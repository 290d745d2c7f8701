-- A step of whatever is under way that is none of a row leaves each block somebody's behind which something may be put: it is its copier's step, if one is within
-- it, or leaves the root's table.
use Rattle.std.specs.Prelude.{Option, Some, None}
use Rattle.std.proofs.Common.{◌≡◌, ℕ, ◌<◌, ◌≤◌, Bool, false, inl, inr, refl, arith, ap, sym, subst, ◌∙◌}
use Rattle.run_shows.specs.Given.SeizeWordsMem.{Mem, Took, value_at}
use Rattle.run_shows.specs.Given.SeizeWordsPlan.{Steps}
use Rattle.run_shows.specs.Given.SeizeWorld.{World, Rests, IsInside}
use Rattle.run_shows.specs.Given.TablesChunks.{is_incremental}
use Rattle.run_shows.specs.Given.TablesDeclared.node.Node.{Node}
use Rattle.run_shows.specs.Given.TablesDeclared.table.Table.{Table}
use Rattle.run_shows.specs.Given.ResizeCopier.{copier_plan}
use Rattle.run_shows.specs.Given.ResizeDeclared.copier.Copier.{Copier}
use Rattle.run_shows.specs.Given.ResizeDeclared.yielding.Yielding.{Yielding}
use Rattle.run_shows.specs.Given.RuleChart.{Chart}
use Rattle.run_shows.specs.Given.RuleInWorld.{IsMapIn, StepSpec}
use Rattle.run_shows.specs.Given.RuleWords.{Blocks}
use Rattle.owner_facts.specs.Given.PointsTold.{IsRowOfCopier}
use Rattle.owner_facts.specs.Given.CallersSights.{Visible, IsGrown, seen_by}
use Rattle.owner_facts.specs.Given.CallersTogether.{UnderWay, in_slot}
use Rattle.owner_facts.proofs.Given.CallersSights.Seen.{map_seen}
use Rattle.owner_facts.proofs.Given.CallersTogether.Fits.{map_in_slot}
use Rattle.owner_facts.specs.Given.FinishesEndings.{Finishing}
use Rattle.owner_facts.specs.Given.FinishesMaps.{Standing, MapsTogether}
use Rattle.many_acts.specs.Carries.Theirs.{IsAhead, next_of_them, copier_of, IsToHandOver, AllAreTheirs}
use Rattle.many_acts.proofs.Carries.Calls.{Due, calls2, maps2, owes_after, went_theirs}
use Rattle.many_acts.proofs.Carries.Copiers.{GoesOwing, IsItsNext, copier_left, copier_stays}
use Rattle.many_acts.proofs.Carries.Known.{CopierKnows}
use Rattle.many_acts.proofs.Carries.Owed.{one_some}
use Rattle.owner_facts.specs.Maps.EndingsReserves.{HasMore as IsOn}

module _ {K Q : Type 0} (V : Type 0) (same : K → K → Bool) (asks : Q → K → Bool) (size : ℕ) (slot : ℕ → ℕ)
    (w : World (Node K V)) (maps : ℕ → Option (Standing K)) (calls : ℕ → ℕ → Option (UnderWay K V Q)) (enders : ℕ → Option (Finishing K V)) (all : MapsTogether V same asks size slot w maps calls)
    (m : ℕ) (s : Standing K) (here : maps m ≡ Some s) (i : ℕ) (u : UnderWay K V Q) (has : calls m i ≡ Some u) (in_it : IsInside (w.uses (slot i))) where
  -- the map, as the caller sees it
  pub map_here : IsMapIn same s.hash (in_slot s.setting (slot i)) w s.chart (seen_by s.blocks (s.sights (slot i)))
  map_here =
      map_seen same s.hash (in_slot s.setting (slot i)) w s.chart s.blocks (s.sights (slot i))
      (map_in_slot same s.hash s.setting w s.chart s.blocks (slot i) (all.each m s here).ground.map)
      ((all.each m s here).ground.sight (slot i) in_it).0

  module _ (m2 : Mem (Node K V)) (Told : World (Node K V) → Chart K → Blocks → Type 0)
      (went : StepSpec same s.hash (in_slot s.setting (slot i)) i w s.chart (seen_by s.blocks (s.sights (slot i))) m2 Told)
      (blocks2 : Blocks) (grown : IsGrown s.chart s.blocks went.blocks2 blocks2) (sights2 : ℕ → Visible) (next : Option (UnderWay K V Q)) where
    -- it is a step of this copier, which knows of its tables, and stands at none of a row; what is under way goes on with it
    pub record StepsBy (x : Copier) : Type 0 where
      pub no_row : IsRowOfCopier x.stands → ⊥
      pub knows : CopierKnows same s.hash w i (in_slot s.setting (slot i)) s.chart (seen_by s.blocks (s.sights (slot i))) x
      pub end : Copier × Yielding (Node K V) Table
      pub steps : Steps Took value_at w.memory (copier_plan s.hash x) m2 end
      pub goes : IsOn end.1 → (u2 : UnderWay K V Q) × (next ≡ Some u2) × (copier_of u2 ≡ Some end.0)

    abbrev DueThen : ℕ → Type 0
    DueThen b = Due V same asks size slot w maps calls enders all m s here i u has m2 Told went blocks2 grown sights2 next b

    module _ (x : Copier) (st : StepsBy x) (rests : w.row i ≡ Rests) where
      -- what a copier is to hand over, by the tables as they stood
      abbrev Next : Copier → ℕ → Type 0
      Next q b =
          IsItsNext same s.hash (in_slot s.setting (slot i)) w s.chart (seen_by s.blocks (s.sights (slot i))) map_here i x st.knows m2 st.end q b

      to_hand : (q : Copier) (b : ℕ) → Next q b → IsToHandOver w maps m i q b
      to_hand q b (inl due) = inl (rests, due)
      to_hand q b (inr (blocking, ahead)) = inr (s, here, blocking, ahead)

      abbrev Later : ℕ → Standing K → Type 0
      Later b y = (is_incremental y.setting.mode ≡ false) × IsAhead y.chart.past y.blocks.table (next_of_them x x.stands) x.target.turn b

      from_hand : (b : ℕ) → IsToHandOver w maps m i x b → Next x b
      from_hand b (inl (row, due)) = inl due
      from_hand b (inr (r, is, blocking, ahead)) = inr (subst (Later b) (one_some (maps m) r s is here) (blocking, ahead))

      due_then : (b : ℕ) → GoesOwing same s.hash (in_slot s.setting (slot i)) w s.chart (seen_by s.blocks (s.sights (slot i))) map_here i x st.knows m2 st.end b → DueThen b
      due_then b (q, is, hands) =
          let on = st.goes (subst (λ (e : Copier × Yielding (Node K V) Table). IsOn e.1) (sym is) tt) in
          owes_after V same asks size slot w maps calls enders all m s here i u has m2 Told went blocks2 grown sights2 next on.0 q on.1
          (on.2 ∙ ap (λ (e : Copier × Yielding (Node K V) Table). Some e.0) is) b (to_hand q b hands)

      keeps_by : (b : ℕ) → IsToHandOver w maps m i x b → DueThen b
      keeps_by b hands =
          due_then b (copier_stays same s.hash (in_slot s.setting (slot i)) w s.chart (seen_by s.blocks (s.sights (slot i))) map_here i x st.knows m2 st.end st.no_row st.steps b (from_hand b hands))

      passes_by : (t : ℕ) → s.chart.first ≤ t → t < went.c2.first → DueThen (s.blocks.table t)
      passes_by t from to =
          due_then (s.blocks.table t)
          (copier_left same s.hash (in_slot s.setting (slot i)) w s.chart (seen_by s.blocks (s.sights (slot i))) map_here i x st.knows m2 st.end went.w2 went.c2 went.blocks2 went.map
          went.moved went.blocks_same went.memory t from to st.no_row st.steps)

    -- So all are somebody's then.
    pub step_theirs : w.row i ≡ Rests → (copier_of u ≡ None → went.c2.first ≡ s.chart.first) → ((x : Copier) → copier_of u ≡ Some x → StepsBy x)
        → AllAreTheirs w maps calls enders
        → AllAreTheirs went.w2 (maps2 V same asks size slot w maps calls enders all m s here i u has m2 Told went blocks2 grown sights2 next)
        (calls2 V same asks size slot w maps calls enders all m s here i u has m2 Told went blocks2 grown sights2 next) enders
    step_theirs rests without within theirs =
        went_theirs V same asks size slot w maps calls enders all m s here i u has m2 Told went blocks2 grown sights2 next in_it theirs
        (λ b t from to at. subst DueThen (sym at) (passes (copier_of u) refl t from to))
        (λ b owes. keeps_by owes.0 (within owes.0 owes.1) rests b owes.2)
      where
        passes : (o : Option Copier) → copier_of u ≡ o → (t : ℕ) → s.chart.first ≤ t → t < went.c2.first → DueThen (s.blocks.table t)
        passes None is t from to = absurd (let kept = without is in omega (arith, kept, from, to))
        passes (Some x) is t from to = passes_by x (within x is) rests t from to

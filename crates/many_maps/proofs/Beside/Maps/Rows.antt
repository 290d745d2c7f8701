-- Whoever takes a step of a row, within a call on one map or between calls, all maps stand together again.
use Rattle.std.specs.Prelude.{◌≡◌, ◌≢◌, ℕ, ◌+◌, Bool, Option, Some, None}
use Rattle.std.proofs.Common.{refl, ap, sym, subst, ◌∙◌, inl, inr}
use Rattle.std.proofs.lemmas.Bool.{cases_eq}
use Rattle.many_calls.specs.Given.SeizeDeclared.states.TheConstants.{LAST_SLOT}
use Rattle.many_calls.specs.Given.SeizeWorld.{World, Begin, Step, Happens, with_at}
use Rattle.many_calls.proofs.Given.SeizeRuleWorld.Kept.{row_may}
use Rattle.many_calls.specs.Given.TablesNodes.{deferred_word}
use Rattle.many_calls.specs.Given.TablesDeclared.node.Node.{Node}
use Rattle.many_maps.specs.Maps.{AllMapsStand, Standing, with_call, MapsTogether, RowsStandInMaps, GuardsStandInMaps}
use Rattle.many_calls.specs.Together.{OnKey, UnderWay, CameAbout, IsOneStep, Together, GuardsOf}
use Rattle.many_maps.proofs.Beside.Maps.All.{not_none, StandsSo, StandsSomehow, all_stand, calls_only, calls_once, its_calls, others_calls}
use Rattle.many_maps.proofs.Beside.Maps.OtherBegins.{other_begun}
use Rattle.many_maps.proofs.Beside.Maps.Steps.{no_other}
use Rattle.many_calls.proofs.Sights.Parts.{part_same}
use Rattle.many_calls.proofs.Together.Came.{came_next, came_reached}
use Rattle.many_calls.proofs.Together.Guards.{guards_stand_together}
use Rattle.many_calls.proofs.Together.Stepped.{rows_stand_together}
use Rattle.many_calls.proofs.Given.General.{same_some as one_of}

module _ {K Q : Type 0} (V : Type 0) (same : K → K → Bool) (asks : Q → K → Bool) (size : ℕ) (slot : ℕ → ℕ)
    (w : World (Node K V)) (maps : ℕ → Option (Standing K)) (calls : ℕ → ℕ → Option (UnderWay K V Q)) (all : MapsTogether V same asks size slot w maps calls)
    (m : ℕ) (s : Standing K) (here : maps m ≡ Some s) (i : ℕ) (u : UnderWay K V Q) (has : calls m i ≡ Some u) where
  -- a step of the row leaves each other map standing, and so does one that begins it
  stepped : (n : ℕ) (r : Standing K) → n ≢ m → maps n ≡ Some r → (v w2 : World (Node K V)) → StandsSo V same asks size slot v r (calls n) → Happens deferred_word r.setting.batch_size (Step i) v w2
      → StandsSomehow V same asks size slot w2 r (calls n)
  stepped n r ne is v w2 stands h =
      (guards_stand_together same r.hash asks r.setting slot (all.fit n r is).0 v r.chart r.blocks r.sights (calls n) stands i (no_other V same asks size slot w maps calls all m s here i u has n ne)).2 w2 h

  other : (n : ℕ) (r : Standing K) → n ≢ m → maps n ≡ Some r → (w2 : World (Node K V)) → IsOneStep s.setting i w w2 → StandsSomehow V same asks size slot w2 r (calls n)
  other n r ne is w2 (inl step) = stepped n r ne is w w2 (all.each n r is) step
  other n r ne is w2 (inr (request, begun, hands, begins, step)) =
      stepped n r ne is begun w2
      (other_begun same r.hash asks r.setting slot (all.fit n r is).0 w r.chart r.blocks r.sights (calls n) (all.each n r is) i (no_other V same asks size slot w maps calls all m s here i u has n ne)
      s.setting (all.counters n m r s ne is here) begun request hands
      (subst (λ (k : ℕ). Happens deferred_word k (Begin i request) w begun) ((all.fit m s here).2 ∙ sym (all.fit n r is).2) begins))
      step

  module _ (w2 : World (Node K V)) (goes_on : Option (UnderWay K V Q)) (happened : IsOneStep s.setting i w w2)
      (mine : Together V same s.hash asks s.setting slot w2 s.chart s.blocks s.sights (with_at (calls m) i goes_on)) where
    stands : (n : ℕ) (r : Standing K) → maps n ≡ Some r → StandsSomehow V same asks size slot w2 r (with_call calls m i goes_on n)
    stands n r is = elim (cases_eq n m) as (λ _. StandsSomehow V same asks size slot w2 r (with_call calls m i goes_on n)) [
      | inl e ↦ subst (StandsSomehow V same asks size slot w2 r) (sym (ap (with_call calls m i goes_on) e ∙ its_calls V same asks size slot maps calls m i goes_on))
          (subst (λ (x : Standing K). StandsSomehow V same asks size slot w2 x (with_at (calls m) i goes_on)) (one_of s r (sym here ∙ ap maps (sym e) ∙ is)) (s.blocks, s.sights, mine, part_same s.chart s.blocks))
      | inr ne ↦ subst (StandsSomehow V same asks size slot w2 r) (sym (others_calls V same asks size slot maps calls m i goes_on n ne)) (other n r ne is w2 happened)
    ]

    pub row_all_together : AllMapsStand V same asks size slot w2 maps (with_call calls m i goes_on)
    row_all_together = all_stand V same asks size slot w maps calls all w2 (with_call calls m i goes_on) (subst (λ (n : ℕ). CameAbout n w2) (all.fit m s here).2 mine.ground.came) stands
        (calls_only V same asks size slot maps calls m i goes_on all.only (not_none s (maps m) here))
        (calls_once V same asks size slot maps calls m i goes_on all.once (no_other V same asks size slot w maps calls all m s here i u has))

module _ {K Q : Type 0} (V : Type 0) (same : K → K → Bool) (asks : Q → K → Bool) (size : ℕ) (slot : ℕ → ℕ) where
  pub rows_stand_in_maps : RowsStandInMaps V same asks size slot
  rows_stand_in_maps w maps calls all m s here i u has is_row =
      let leads = rows_stand_together same s.hash asks s.setting slot (all.fit m s here).0 w s.chart s.blocks s.sights (calls m) (all.each m s here) i u has is_row in (
        leads.0,
        λ m2 p2 progress st.
            let step = leads.1 m2 p2 progress st in
            record { step = step; together = row_all_together V same asks size slot w maps calls all m s here i (OnKey u) has step.w2 _ step.happened step.together },
      )

  -- each map for itself
  abbrev guards : (w : World (Node K V)) (maps : ℕ → Option (Standing K)) (calls : ℕ → ℕ → Option (UnderWay K V Q)) (all : MapsTogether V same asks size slot w maps calls)
      (i : ℕ) (alone : (n : ℕ) → calls n i ≡ None) (n : ℕ) (r : Standing K) (is : maps n ≡ Some r) → GuardsOf V same r.hash asks r.setting slot w r.chart r.blocks (calls n) i
  guards w maps calls all i alone n r is = guards_stand_together same r.hash asks r.setting slot (all.fit n r is).0 w r.chart r.blocks r.sights (calls n) (all.each n r is) i (alone n)

  pub guards_stand_in_maps : GuardsStandInMaps V same asks size slot
  guards_stand_in_maps w maps calls all i alone = (
    λ request of apart w2 h. all_stand V same asks size slot w maps calls all w2 calls (came_next size w w2 (Begin i request) all.came h)
        (λ n r is. (guards w maps calls all i alone n r is).0 request of (apart n) w2 (subst (λ (k : ℕ). Happens deferred_word k (Begin i request) w w2) (sym (all.fit n r is).2) h)) all.only all.once,
    row_may deferred_word (LAST_SLOT + 1) size refl w (came_reached size w all.came).good i (w.row i) refl,
    λ w2 h. all_stand V same asks size slot w maps calls all w2 calls (came_next size w w2 (Step i) all.came h) (λ n r is. (guards w maps calls all i alone n r is).2 w2 h) all.only all.once,
  )

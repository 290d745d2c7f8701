-- The beginning of a row that defers a pair to a table: a table that is linked carries it, so it can be reached; else it is forgotten.
use Rattle.std.specs.Prelude.{Option}
use Rattle.std.proofs.Common.{◌≡◌, ◌≢◌, ℕ, suc, ◌<◌, ◌≤◌, Bool, true, false, cond, ◌∷◌, inl, inr, refl, arith, ap, sym, subst, ◌∙◌}
use Rattle.std.proofs.lemmas.Bool.{cases_eq, eq-eqb, ne_eqb}
use Rattle.seize_model.specs.Given.SeizeLaw.{Place, Standing, Nowhere, With, Deferred, where_is, is_standing}
use Rattle.seize_model.specs.Given.SeizeWorld.{World, Row, Use, Hand, InUse, Parting, Handed, Defer', Begins, with_at}
use Rattle.seize_model.proofs.Given.SeizeMovesState.Ghost.{place_of}
use Rattle.seize_model.proofs.Given.SeizeRulePoints.Aside.{HandFits, IsStanding, standing_life}
use Rattle.seize_model.proofs.Alone.Histories.Reached.{Reached}
use Rattle.map_facts_late.specs.Given.TablesNodes.{deferred_word}
use Rattle.map_facts_late.specs.Given.TablesDeclared.node.Node.{Node}
use Rattle.map_facts_late.specs.Given.TablesDeclared.setting.Setting.{Setting}
use Rattle.map_facts_late.specs.Given.RuleChart.{Phase, Holds, Chart}
use Rattle.map_facts_late.specs.Given.RuleWords.{Blocks}
use Rattle.map_facts_late.specs.Given.RuleInWorld.{IsOut, StandsIn, IsReached, IsMapIn}
use Rattle.map_facts_late.specs.Given.PointsFactsDisposes.{LiesBefore, LiesNowhere}
use Rattle.map_facts_late.proofs.Given.RuleWorld.Hands.{Hands, at_cases, hand_kept, standing_kept, current_known, named_known}
use Rattle.map_facts_late.proofs.Given.RuleWords.TablesSeen.{pair_apart}
use Rattle.map_facts_late.proofs.Given.RuleWorld.WentWrote.{map_in, counter_of}

-- what is in use, or parting, can be reached from a root
stands_at : {T : Type 0} (defers : T → Option ℕ) (size : ℕ) (w : World T) → Reached defers size w → (b : ℕ) (hand : Hand) → w.hand b ≡ hand → IsStanding hand → where_is b w.log ≡ Standing
stands_at defers size w r b hand is stands =
    ap (where_is b) (sym r.good.logged) ∙ r.good.inv.logged.reaches b
    ∙ ap (place_of r.good.state.life) (standing_life hand (r.good.state.life b) stands (subst (λ (h : Hand). HandFits h (r.good.state.life b)) is (r.good.hands b)))

pub used_stands : {T : Type 0} (defers : T → Option ℕ) (size : ℕ) (w : World T) → Reached defers size w → (b : ℕ) → {o : ℕ} → w.hand b ≡ InUse o → where_is b w.log ≡ Standing
used_stands defers size w r b {o} used = stands_at defers size w r b (InUse o) used tt

pub standing_stands : {T : Type 0} (defers : T → Option ℕ) (size : ℕ) (w : World T) → Reached defers size w → (b : ℕ) → {o : ℕ} → StandsIn o (w.hand b) → where_is b w.log ≡ Standing
standing_stands defers size w r b {o} (inl used) = stands_at defers size w r b (InUse o) used tt
standing_stands defers size w r b {o} (inr parting) = stands_at defers size w r b (Parting parting.0) parting.1 tt

module _ {K V : Type 0} (same : K → K → Bool) (hash : K → ℕ) (setting : Setting) (w : World (Node K V)) (c : Chart K) (blocks : Blocks)
    (map : IsMapIn same hash setting w c blocks) (n t : ℕ) (was : n < c.stored) (known : blocks.pair_known n ≡ true) (left : c.current n ≡ false) where
  abbrev its_block : ℕ
  its_block = blocks.pair n

  -- the world in which the pair is deferred to a block
  abbrev pub deferred : (ℕ → Row) → (ℕ → Use) → World (Node K V)
  deferred row uses = record w { row = row; uses = uses; hand = with_at w.hand (blocks.pair n) Handed; log = Deferred (blocks.pair n) t ∷ w.log }

  pub elsewhere : (x : ℕ) → x ≢ blocks.pair n → where_is x (Deferred (blocks.pair n) t ∷ w.log) ≡ where_is x w.log
  elsewhere x ne = ap (λ (e : Bool). cond e (cond (is_standing (where_is t w.log)) (With t) Nowhere) (where_is x w.log)) (ne_eqb x its_block ne)

  pub handed_here : with_at w.hand (blocks.pair n) Handed (blocks.pair n) ≡ Handed
  handed_here = at_cases (λ (h : Hand). h ≡ Handed) w.hand its_block Handed its_block (λ e. refl) (λ ne. absurd (ne refl))

  -- a linked table that names it can reach it
  module _ (row : ℕ → Row) (uses : ℕ → Use)
      (reach : (v j : ℕ) (phase : Phase) (borrowed : Bool) → c.first ≤ v → v < c.past → c.place v j ≡ Holds n phase borrowed → IsReached same hash setting (deferred row uses) c blocks v n) where
    moved : (v p : ℕ) → blocks.pair p ≢ its_block → IsReached same hash setting w c blocks v p → IsReached same hash setting (deferred row uses) c blocks v p
    moved v p ne (inl stands) = inl (standing_kept w.hand its_block Handed (blocks.pair p) ne stands)
    moved v p ne (inr at) = inr (at.0, at.1, at.2, hand_kept w.hand its_block Handed Handed (blocks.pair p) ne at.3, elsewhere (blocks.pair p) ne ∙ at.4)

    apart : (p : ℕ) → p < c.stored → blocks.pair_known p ≡ true → p ≢ n → blocks.pair p ≢ its_block
    apart p stored seen ne e = ne (map.map.shows.pairs_apart p n stored was seen known e)

    through : (v j p : ℕ) (phase : Phase) (borrowed : Bool) → c.first ≤ v → v < c.past → c.place v j ≡ Holds p phase borrowed → IsReached same hash setting (deferred row uses) c blocks v p
    through v j p phase borrowed later there e = elim (cases_eq p n) as (λ _. IsReached same hash setting (deferred row uses) c blocks v p) [
      | inl is ↦ subst (λ (q : ℕ). IsReached same hash setting (deferred row uses) c blocks v q) (sym is)
          (reach v j phase borrowed later there (e ∙ ap (λ (q : ℕ). Holds q phase borrowed) is))
      | inr ne ↦
          let k = named_known same hash setting w c blocks map.map.rule map.map.shows v j p phase borrowed later e in
          moved v p (apart p k.0 k.1 ne) (map.named v j p phase borrowed later there e)
    ]

    hands_deferred : Hands same hash setting (deferred row uses) c blocks
    hands_deferred = record {
      tables = λ v later there.
          hand_kept w.hand its_block Handed (InUse setting.counter) (blocks.table v)
          (pair_apart hash w.memory c blocks setting.root map.map.shows v n there (map.map.shows.linked v later there) was known) (map.tables v later there);
      pairs = λ p is.
          let k = current_known same hash setting w c blocks map.map.rule map.map.shows p is in
          hand_kept w.hand its_block Handed (InUse setting.counter) (blocks.pair p) (apart p k.0 k.1 (λ e. absurd (gone p is e))) (map.pairs p is);
      named = through;
      tables_out = λ v there seen. at_cases IsOut w.hand its_block Handed (blocks.table v) (λ e. tt) (λ _. map.tables_out v there seen);
      pairs_out = λ p stored seen. at_cases IsOut w.hand its_block Handed (blocks.pair p) (λ e. tt) (λ _. map.pairs_out p stored seen);
    }
      where
        gone : (p : ℕ) → c.current p ≡ true → p ≡ n → ⊥
        gone p is e = let h : c.current n ≡ true = subst (λ (q : ℕ). c.current q ≡ true) e is in absurd (cc (h, left))

    pub deferred_in : IsMapIn same hash setting (deferred row uses) c blocks
    deferred_in = map_in same hash setting (deferred row uses) c blocks map.map (counter_of same hash setting w c blocks map) hands_deferred

-- to a table that is linked
module _ {K V : Type 0} (same : K → K → Bool) (hash : K → ℕ) (setting : Setting) (w : World (Node K V)) (c : Chart K) (blocks : Blocks)
    (r : Reached deferred_word setting.batch_size w) (map : IsMapIn same hash setting w c blocks) (n u : ℕ) (was : n < c.stored) (known : blocks.pair_known n ≡ true)
    (left : c.current n ≡ false) (l : c.first ≤ u) (made : u < c.past) where
  abbrev b : ℕ
  b = blocks.pair n

  abbrev t : ℕ
  t = blocks.table u

  put_behind : where_is b (Deferred b t ∷ w.log) ≡ With t
  put_behind =
      ap (λ (e : Bool). cond e (cond (is_standing (where_is t w.log)) (With t) Nowhere) (where_is b w.log)) (eq-eqb b b refl)
      ∙ ap (λ (p : Place). cond (is_standing p) (With t) Nowhere) (used_stands deferred_word setting.batch_size w r t (map.tables u l made))

  module _ (i s : ℕ) (w2 : World (Node K V)) (before : LiesBefore w i setting c blocks n (suc u))
      (begins : Begins deferred_word setting.batch_size i (Defer' s (blocks.pair n) (blocks.table u)) w w2) where
    below : (v : ℕ) → v < suc u → v ≤ u
    below v h = omega (arith, h)

    -- it can be reached through that table from then on
    pub defer_linked_in : IsMapIn same hash setting w2 c blocks
    defer_linked_in =
        subst (λ (v : World (Node K V)). IsMapIn same hash setting v c blocks) (sym begins.7)
        (deferred_in same hash setting w c blocks map n t was known left _ _
        (λ v j phase borrowed later there e. inr (u, below v (before v j phase borrowed e), made, handed_here same hash setting w c blocks map n t was known left, put_behind)))

-- to any block, where no linked table names it
module _ {K V : Type 0} (same : K → K → Bool) (hash : K → ℕ) (setting : Setting) (w : World (Node K V)) (c : Chart K) (blocks : Blocks)
    (map : IsMapIn same hash setting w c blocks) (n t : ℕ) (was : n < c.stored) (known : blocks.pair_known n ≡ true) (left : c.current n ≡ false) (i s : ℕ) (w2 : World (Node K V))
    (begins : Begins deferred_word setting.batch_size i (Defer' s (blocks.pair n) t) w w2) where
  pub defer_old_in : LiesNowhere w i setting c blocks n → IsMapIn same hash setting w2 c blocks
  defer_old_in nowhere =
      subst (λ (v : World (Node K V)). IsMapIn same hash setting v c blocks) (sym begins.7)
      (deferred_in same hash setting w c blocks map n t was known left _ _ (λ v j phase borrowed later there e. absurd (nowhere v j phase borrowed later there e)))

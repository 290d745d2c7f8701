-- Where all stand together, and each block behind which something may be put is somebody's, whatever links lead to can be reached.
use Rattle.std.specs.Prelude.{◌^◌, Option, Some, None}
use Rattle.std.proofs.Common.{◌≡◌, ◌⊎◌, ℕ, zero, suc, ◌<◌, ◌≤◌, Bool, cond, true, false, inl, inr, refl, arith, ap, sym, subst, ◌∙◌}
use Rattle.std.proofs.lemmas.Bool.{ne_eqb}
use Rattle.run_shows.specs.Given.SeizeWordsMem.{value_at}
use Rattle.run_shows.specs.Given.SeizeLaw.{Place, Nowhere, Standing as Stands, With, where_is, is_somewhere, reachable, is_over}
use Rattle.run_shows.specs.Given.SeizeWorld.{World, times}
use Rattle.seize_acts.proofs.Given.SeizeMovesState.Logs.{reached_held}
use Rattle.seize_acts.proofs.Given.SeizeAloneHistories.Reached.{Reached}
use Rattle.seize_acts.proofs.Given.SeizeAloneHistories.Uses.{inside_open}
use Rattle.run_shows.specs.Given.TablesNodes.{deferred_word}
use Rattle.run_shows.specs.Given.TablesDeclared.node.Node.{Node}
use Rattle.run_shows.specs.Given.TablesDeclared.node.Node.TheVariants as node
use Rattle.run_shows.specs.Given.TablesDeclared.table_words.TheConstants.{DEFERRED}
use Rattle.owner_facts.specs.Given.CallersTogether.{UnderWay}
use Rattle.owner_facts.proofs.Given.CallersTogether.Came.{came_reached}
use Rattle.owner_facts.proofs.Given.CallersTogether.Opened.{used_reached, named_reached}
use Rattle.run_shows.specs.Given.RuleInWorld.{IsMapIn}
use Rattle.owner_facts.specs.Given.FinishesEndings.{Finishing, EndingsTogether}
use Rattle.owner_facts.specs.Given.FinishesMakings.{Beginning}
use Rattle.owner_facts.specs.Given.FinishesMaps.{Standing}
use Rattle.run_shows.specs.Reclaims.Deferred.{IsLinkedTable}
use Rattle.many_acts.specs.Carries.Theirs.{IsTheirs, AllAreTheirs}
use Rattle.many_acts.specs.Links.Lists.{ScenesAreTied}
use Rattle.many_acts.specs.Links.Tied.{RootNames, TableNames, LeadBy, IsTied, IsHeldInside}
use Rattle.many_acts.proofs.Links.Named.{HoldsPair, no_pair, root_first, table_names, pair_there}
use Rattle.many_acts.proofs.Links.Owed.{owed_cut}
use Rattle.many_acts.proofs.Links.Places.{standing_had, cut_nowhere, behind_no_list}

-- a table that has places carries pairs
has_list : (K V : Type 0) (len limit turn : ℕ) → deferred_word {K = K} {V = V} (node.Table (suc len) limit turn) ≡ Some DEFERRED
has_list K V len limit turn = ap (λ (q : Bool). cond q None (Some DEFERRED)) (ne_eqb (suc len) 0 (λ e. omega (arith, e)))

module _ {K Q : Type 0} (V : Type 0) (same : K → K → Bool) (asks : Q → K → Bool) (batch_size roots : ℕ) (slot : ℕ → ℕ)
    (w : World (Node K V)) (maps : ℕ → Option (Standing K)) (calls : ℕ → ℕ → Option (UnderWay K V Q)) (makers : ℕ → Option (Beginning K)) (enders : ℕ → Option (Finishing K V))
    (all : EndingsTogether V same asks batch_size roots slot w maps calls makers enders) where
  reached : Reached deferred_word batch_size w
  reached = came_reached batch_size w all.makings.standing.came

  module _ (m : ℕ) (s : Standing K) (here : maps m ≡ Some s) where
    map : IsMapIn same s.hash s.setting w s.chart s.blocks
    map = (all.makings.standing.each m s here).ground.map

    its_reached : Reached deferred_word s.setting.batch_size w
    its_reached = came_reached s.setting.batch_size w (all.makings.standing.each m s here).ground.came

    fits : (k : K) → s.hash k < 2 ^ 64
    fits = (all.makings.standing.fit m s here).0.fits

    linked_reached : (t : ℕ) → s.chart.first ≤ t → t < s.chart.past → reachable (s.blocks.table t) w.log ≡ true
    linked_reached t from made = used_reached same s.hash s.setting w s.chart s.blocks its_reached map (s.blocks.table t) (map.tables t from made)

  -- it can be reached, and is a linked table, or a pair
  abbrev IsLinked : ℕ → Type 0
  IsLinked b = (reachable b w.log ≡ true) × (IsLinkedTable w maps b ⊎ ((key : K) × (value : V) × (value_at w.memory b ≡ Some (node.Pair key value))))

  root_linked : (b : ℕ) → RootNames w maps b → IsLinked b
  root_linked b (m, s, here, names) =
      let k = root_first same s.hash (fits m s here) s.setting w s.chart s.blocks (map m s here) b names in
      (subst (λ (x : ℕ). reachable x w.log ≡ true) (sym k.1) (linked_reached m s here s.chart.first (omega arith) k.0), inl (m, s, here, s.chart.first, omega arith, k.0, k.1))

  table_linked : (t b : ℕ) → IsLinkedTable w maps t → TableNames w.memory t b → IsLinked b
  table_linked t b (m, s, here, u, from, made, at) names =
      by (table_names same s.hash (fits m s here) s.setting w s.chart s.blocks (map m s here) u made known b (subst (λ (x : ℕ). TableNames w.memory x b) at names))
    where
      known : s.blocks.table_known u ≡ true
      known = (map m s here).map.shows.linked u from made

      by : ((suc u < s.chart.past) × (b ≡ s.blocks.table (suc u))) ⊎ HoldsPair s.chart s.blocks u b → IsLinked b
      by (inl (more, is)) =
          let low : s.chart.first ≤ suc u = omega (arith, from) in
          (subst (λ (x : ℕ). reachable x w.log ≡ true) (sym is) (linked_reached m s here (suc u) low more), inl (m, s, here, suc u, low, more, is))
      by (inr pair) =
          let k = pair_there same s.hash (fits m s here) s.setting w s.chart s.blocks (map m s here) u made known pair.0 pair.1 pair.2 pair.3 pair.4 in (
            subst (λ (x : ℕ). reachable x w.log ≡ true) (sym pair.5)
                (named_reached same s.hash s.setting w s.chart s.blocks (its_reached m s here) (map m s here) u pair.0 pair.1 pair.2 pair.3 from made pair.4),
            inr (k.2, k.3, ap (value_at w.memory) pair.5 ∙ k.4),
          )

  -- a table that names something is no pair
  from_linked : (t b : ℕ) → IsLinked t → TableNames w.memory t b → IsLinked b
  from_linked t b (there, inl linked) names = table_linked t b linked names
  from_linked t b (there, inr (key, value, is)) names = absurd (no_pair (value_at w.memory t) key value (suc names.0) names.1 names.2 is names.4)

  lead_linked : (n b : ℕ) → LeadBy w maps n b → IsLinked b
  lead_linked zero b names = root_linked b names
  lead_linked (suc n) b (t, lead, names) = from_linked t b (lead_linked n t lead) names

  module _ (theirs : AllAreTheirs w maps calls enders) where
    -- A table that stands is a linked one of a map, or it was over as its owner ended: what a call is to hand over does not stand.
    standing_table : (t len limit turn : ℕ) → where_is t w.log ≡ Stands → is_over t w.log ≡ false → value_at w.memory t ≡ Some (node.Table (suc len) limit turn) → IsLinkedTable w maps t
    standing_table t len limit turn at over value = by (theirs t (standing_had deferred_word batch_size w reached t at, DEFERRED, node.Table (suc len) limit turn, value, has_list K V len limit turn))
      where
        by : IsTheirs w maps calls enders t → IsLinkedTable w maps t
        by (inl linked) = linked
        by (inr (inl owed)) =
            absurd (let k = owed_cut V same asks batch_size slot w maps calls all.makings.standing enders t owed in
            let none = cut_nowhere deferred_word batch_size w reached t k.0 k.1 in cc (at, none))
        by (inr (inr (i, f, ends, u, from, made, is, back))) =
            absurd (let yet = (all.facts i f ends).facts.since.tables u from made (subst (λ (x : ℕ). times x f.back ≡ 0) is back) in
            let gone = ap (λ (x : ℕ). is_over x w.log) is ∙ yet.still.over in cc (over, gone))

    reached_table : (t len limit turn : ℕ) → reachable t w.log ≡ true → is_over t w.log ≡ false → value_at w.memory t ≡ Some (node.Table (suc len) limit turn) → IsLinkedTable w maps t
    reached_table t len limit turn there over value = by (where_is t w.log) refl
      where
        by : (p : Place) → where_is t w.log ≡ p → IsLinkedTable w maps t
        by Nowhere at = absurd (let none = ap is_somewhere at in cc (there, none))
        by Stands at = standing_table t len limit turn at over value
        by (With u) at = absurd (behind_no_list deferred_word batch_size w reached t u DEFERRED (node.Table (suc len) limit turn) at value (has_list K V len limit turn))

    pub is_tied : IsTied w maps
    is_tied b (inl (n, lead)) = (lead_linked n b lead).0
    is_tied b (inr (t, there, over, names)) = (table_linked t b (reached_table t names.0 names.1 names.2 there over names.4) names).0

    -- a section that is open holds what can be reached
    pub is_held_inside : IsHeldInside w maps
    is_held_inside x inside b lead = reached_held x b w.log (is_tied b lead) (inside_open deferred_word batch_size w reached x inside)

pub scenes_are_tied : {K S : Type 0} (V : Type 0) (same : K → K → Bool) (hash : S → K → ℕ) (batch_size roots : ℕ) (slot : ℕ → ℕ) → ScenesAreTied V same hash batch_size roots slot
scenes_are_tied V same hash batch_size roots slot s all theirs = is_tied V same same batch_size roots slot s.world s.maps s.calls s.makers s.enders all theirs

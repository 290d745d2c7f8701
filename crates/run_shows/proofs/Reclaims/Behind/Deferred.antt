-- What is put behind the tables of maps that stand, while nobody has a call on one, are pairs of theirs, in resizes that are unfinished.
use Rattle.std.specs.Prelude.{Option, Some, None}
use Rattle.std.proofs.Common.{◌≡◌, ℕ, zero, suc, ◌<◌, ◌≤◌, Bool, true, List, refl, arith, sym, subst, ◌∙◌}
use Rattle.seize_words.specs.declared.at.At.TheVariants.{Word}
use Rattle.seize_words.specs.OneMemory.Mem.{value_at, word_at}
use Rattle.seize.specs.Further.{ListFrom, FurtherFrom, FurtherAre}
use Rattle.seize.specs.WaitingSets.{is_one_of}
use Rattle.seize.specs.World.{World, times}
use Rattle.seize_acts.specs.Acts.Reclaimed.{IsStillHad}
use Rattle.seize_acts.proofs.Reclaims.Roots.Once.{list_once}
use Rattle.run_effects.specs.Given.TablesNodes.{deferred_word}
use Rattle.run_effects.specs.Given.TablesDeclared.node.Node.{Node}
use Rattle.many_maps.specs.Given.CallersTogether.{UnderWay, Together}
use Rattle.many_maps.specs.Endings.{Finishing}
use Rattle.many_maps.specs.FactsEnds.{HasDeferred}
use Rattle.many_maps.specs.Makings.{Beginning}
use Rattle.many_maps.specs.Maps.{Standing}
use Rattle.many_maps.proofs.Among.Begins.{lists_then, may_end_now}
use Rattle.many_maps.proofs.Ends.Worlds.{none_of}
use Rattle.run_shows.specs.Reclaims.Deferred.{IsDeferredOn, TablesCarryPairs}
use Rattle.run_shows.specs.Reclaims.Reclaims.{AllStandIdle, WaitsOnTables}

same_some : {X : Type 0} (o p : Option X) (a b : X) → o ≡ p → o ≡ Some a → p ≡ Some b → a ≡ b
same_some o p a b e f g = cc (e, f, g)

-- what is one of a list stands there
stands_there : (x : ℕ) (l : List ℕ) → is_one_of x l ≡ true → 0 < times x l
stands_there x l is = by (times x l) refl
  where
    by : (k : ℕ) → times x l ≡ k → 0 < times x l
    by zero e = absurd (let none = none_of x l e in cc (none, is))
    by (suc k) e = omega (arith, e)

-- the further values of a block are one list
module _ {K V : Type 0} (w : World (Node K V)) (b : ℕ) where
  same_from : (o : Option ℕ) (l k : List ℕ) → FurtherFrom w.memory b o l → FurtherFrom w.memory b o k → l ≡ k
  same_from None l k f g = f ∙ sym g
  same_from (Some field) l k f g =
      list_once w.memory f.0 l k f.2 (subst (λ (word : ℕ). ListFrom w.memory word k) (same_some (word_at w.memory (Word b field)) (word_at w.memory (Word b field)) g.0 f.0 refl g.1 f.1) g.2)

  same_further : (l k : List ℕ) → FurtherAre deferred_word w.memory b l → FurtherAre deferred_word w.memory b k → l ≡ k
  same_further l k f g =
      same_from (deferred_word f.0) l k f.2
      (subst (λ (value : Node K V). FurtherFrom w.memory b (deferred_word value) k) (same_some (value_at w.memory b) (value_at w.memory b) g.0 f.0 refl g.1 f.1) g.2)

module _ {K Q : Type 0} (V : Type 0) (same : K → K → Bool) (asks : Q → K → Bool) (batch_size roots : ℕ) (slot : ℕ → ℕ)
    (maps : ℕ → Option (Standing K)) (calls : ℕ → ℕ → Option (UnderWay K V Q)) (makers : ℕ → Option (Beginning K)) (enders : ℕ → Option (Finishing K V))
    (w : World (Node K V)) (idle : AllStandIdle V same asks batch_size roots slot maps calls makers enders w) where
  module _ (m : ℕ) (s : Standing K) (here : maps m ≡ Some s) where
    abbrev stands : Together V same s.hash asks s.setting slot w s.chart s.blocks s.sights (calls m)
    stands = idle.together.makings.standing.each m s here

    abbrev list_at : ℕ → List ℕ
    list_at = lists_then same asks slot w s (calls m) stands (idle.no_calls m)

    behind_at : (t : ℕ) → s.chart.first ≤ t → t < s.chart.past → HasDeferred w (s.blocks.table t) (list_at t)
    behind_at t from made = (may_end_now same asks slot w s (calls m) stands (idle.no_calls m) (idle.together.makings.used m s here)).carries t from made

    on_list : (t b : ℕ) → s.chart.first ≤ t → t < s.chart.past → 0 < times b (list_at t) → IsDeferredOn w s t b
    on_list t b from made on =
        let at = ((behind_at t from made).theirs b on).1 in
        let k = stands.ground.behind t b from made at in
        record { linked = from; unfinished = k.1; behind = at; pair = k.0 }

  pub tables_carry : TablesCarryPairs w maps
  tables_carry m s here t from made further are b is =
      on_list m s here t b from made
      (subst (λ (l : List ℕ). 0 < times b l) (same_further w (s.blocks.table t) further (list_at m s here t) are (behind_at m s here t from made).are) (stands_there b further is))

-- so all that waits is deferred on them, if nothing can be put behind another block
pub waits_on_tables : (K V : Type 0) → WaitsOnTables K V
waits_on_tables K V roots w maps all only b handed = by put.3.0 put.3.1 (deferred_word put.3.0) refl put.3.2
  where
    put : (t : ℕ) × (further : List ℕ) × IsStillHad (w.hand t) × FurtherAre deferred_word w.memory t further × (is_one_of b further ≡ true)
    put = all.nothing.4 b handed

    by : (value : Node K V) → value_at w.memory put.0 ≡ Some value → (o : Option ℕ) → deferred_word value ≡ o → FurtherFrom w.memory put.0 o put.1
        → (m : ℕ) × (s : Standing K) × (maps m ≡ Some s) × (t : ℕ) × IsDeferredOn w s t b
    by value is None none from = absurd (let one = put.4 in subst (λ (l : List ℕ). is_one_of b l ≡ true → ⊥) (sym from) (λ is_one. cc is_one) one)
    by value is (Some field) some from =
        let table = only put.0 field value put.2 is some in
        (table.0, table.1, table.2, table.3, all.carry table.0 table.1 table.2 table.3 table.4 table.5 put.1 (subst (λ (x : ℕ). FurtherAre deferred_word w.memory x put.1) table.6 put.3) b put.4)

-- A block is retired that its caller has unlinked: the map stands as it stood.
use Rattle.std.proofs.Common.{◌≡◌, ℕ, Bool, inl, inr, refl, sym, subst}
use Rattle.seize_model.specs.Given.SeizeWorld.{World, Row, Use, Hand, InUse, Handed, Retire, Begins, with_at}
use Rattle.map_facts_late.specs.Given.TablesNodes.{deferred_word}
use Rattle.map_facts_late.specs.Given.TablesDeclared.node.Node.{Node}
use Rattle.map_facts_late.specs.Given.TablesDeclared.setting.Setting.{Setting}
use Rattle.map_facts_late.specs.Given.RuleChart.{Chart}
use Rattle.map_facts_late.specs.Given.RuleWords.{Blocks}
use Rattle.map_facts_late.specs.Given.RuleInWorld.{IsOut, StandsIn, IsReached, IsMapIn}
use Rattle.map_facts_late.proofs.Given.RuleWorld.Hands.{at_cases}
use Rattle.map_facts_late.proofs.Given.RuleWorld.WentWrote.{map_in, counter_of}

module _ {K V : Type 0} (same : K → K → Bool) (hash : K → ℕ) (setting : Setting) (w : World (Node K V)) (c : Chart K) (blocks : Blocks) (map : IsMapIn same hash setting w c blocks)
    (i s b : ℕ) (w2 : World (Node K V)) (begins : Begins deferred_word setting.batch_size i (Retire s b) w w2) where
  used_stays : (x : ℕ) → w.hand x ≡ InUse setting.counter → with_at w.hand b Handed x ≡ InUse setting.counter
  used_stays x is = at_cases (λ (h : Hand). h ≡ InUse setting.counter) w.hand b Handed x
      (λ e. let used : w.hand b ≡ InUse setting.counter = subst (λ (y : ℕ). w.hand y ≡ InUse setting.counter) e is in let cut = begins.1.1 in absurd (cc (used, cut))) (λ _. is)

  stands_stays : (x : ℕ) → StandsIn setting.counter (w.hand x) → StandsIn setting.counter (with_at w.hand b Handed x)
  stands_stays x stands = at_cases (StandsIn setting.counter) w.hand b Handed x (λ e. absurd (cut (subst (λ (y : ℕ). StandsIn setting.counter (w.hand y)) e stands))) (λ _. stands)
    where
      cut : StandsIn setting.counter (w.hand b) → ⊥
      cut (inl used) = let cutting = begins.1.1 in absurd (cc (used, cutting))
      cut (inr parting) = let cutting = begins.1.1 in let is = parting.1 in absurd (cc (is, cutting))

  handed_stays : (x : ℕ) → w.hand x ≡ Handed → with_at w.hand b Handed x ≡ Handed
  handed_stays x is = at_cases (λ (h : Hand). h ≡ Handed) w.hand b Handed x (λ _. refl) (λ _. is)

  abbrev retired : (ℕ → Row) → (ℕ → Use) → World (Node K V)
  retired row uses = record w { row = row; uses = uses; hand = with_at w.hand b Handed }

  reached_stays : (row : ℕ → Row) (uses : ℕ → Use) (t n : ℕ) → IsReached same hash setting w c blocks t n → IsReached same hash setting (retired row uses) c blocks t n
  reached_stays row uses t n (inl stands) = inl (stands_stays (blocks.pair n) stands)
  reached_stays row uses t n (inr at) = inr (at.0, at.1, at.2, handed_stays (blocks.pair n) at.3, at.4)

  retired_in : (row : ℕ → Row) (uses : ℕ → Use) → IsMapIn same hash setting (retired row uses) c blocks
  retired_in row uses = map_in same hash setting (retired row uses) c blocks map.map (counter_of same hash setting w c blocks map) (record {
    tables = λ t l made. used_stays (blocks.table t) (map.tables t l made);
    pairs = λ n is. used_stays (blocks.pair n) (map.pairs n is);
    named = λ t j n phase borrowed l made e. reached_stays row uses t n (map.named t j n phase borrowed l made e);
    tables_out = λ t made known. at_cases IsOut w.hand b Handed (blocks.table t) (λ e. tt) (λ _. map.tables_out t made known);
    pairs_out = λ n was known. at_cases IsOut w.hand b Handed (blocks.pair n) (λ e. tt) (λ _. map.pairs_out n was known);
  })

  pub retire_in : IsMapIn same hash setting w2 c blocks
  retire_in = subst (λ (v : World (Node K V)). IsMapIn same hash setting v c blocks) (sym begins.2) (retired_in _ _)

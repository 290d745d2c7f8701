-- What no step on one map may do to another one, and maps that are none: refused.
use Rattle.std.specs.Prelude.{◌≡◌, ◌≢◌, ◌<◌, ◌*◌, ℕ, Bool, cond, Option, Some}
use Rattle.std.proofs.Common.{ap, sym, ◌∙◌, arith}
use Rattle.std.proofs.lemmas.Bool.{ne_eqb}
use Rattle.many_calls.specs.Given.SeizeWordsDeclared.at.At.TheVariants.{Root}
use Rattle.many_calls.specs.Given.SeizeWordsMem.{Mem, Took, value_at, word_at}
use Rattle.many_calls.specs.Given.SeizeWordsOp.{Store}
use Rattle.many_calls.specs.Given.SeizeWordsPlan.{Plan, Do, Now, Steps}
use Rattle.many_calls.proofs.Given.SeizeWordsOneOwner.Operations.{stored}
use Rattle.many_calls.specs.Given.SeizeWorld.{World, Retire, Defer'}
use Rattle.many_calls.specs.Given.TablesDeclared.node.Node.{Node}
use Rattle.many_calls.specs.Given.TablesDeclared.setting.Setting.{Setting}
use Rattle.many_calls.specs.Given.RuleChart.{Chart}
use Rattle.many_calls.specs.Given.RuleInWorld.{IsKnownBlock}
use Rattle.many_calls.specs.Given.RuleWords.{Blocks, root_word}
use Rattle.many_maps.specs.Maps.{Standing, MapsTogether}
use Rattle.many_calls.specs.Sights.{Visible}
use Rattle.many_calls.specs.Together.{UnderWay, HandsOver, Together}
use Rattle.many_maps.proofs.Beside.Maps.OtherSteps.{known_owner}
use Rattle.many_calls.proofs.Given.LateSamples.Plans.{written, there}

module _ {K V Q : Type 0} (same : K → K → Bool) (hash : K → ℕ) (asks : Q → K → Bool) (setting : Setting) (slot : ℕ → ℕ)
    (w : World (Node K V)) (c : Chart K) (blocks : Blocks) (sights : ℕ → Visible) (calls : ℕ → Option (UnderWay K V Q)) (s : Together V same hash asks setting slot w c blocks sights calls) where
  -- A call on another map writes this one's root, as if it had no table.
  abbrev clears_anothers_root : Plan (Node K V) Unit
  clears_anothers_root = Do (Store (Root setting.root) 0) (λ out. Now tt)

  -- the map, which has one, doesn't stand then, whatever may be looked at
  clears_the_root : 0 < c.past → (m2 : Mem (Node K V)) → Steps Took value_at w.memory clears_anothers_root m2 tt → (w2 : World (Node K V)) → w2.memory ≡ m2
      → (blocks2 : Blocks) (sights2 : ℕ → Visible) → Together V same hash asks setting slot w2 c blocks2 sights2 calls → ⊥
  clears_the_root made m2 st w2 memory blocks2 sights2 stands = let at = leads in let none = both in omega (arith, at, none)
    where
      rooted : c.first < c.past
      rooted = s.ground.map.map.rule.common.rooted made

      leads : 0 < blocks2.table c.first
      leads = (stands.ground.map.map.shows.table_numbers c.first rooted (stands.ground.map.map.shows.linked c.first (omega arith) rooted)).0

      now : word_at w2.memory (Root setting.root) ≡ Some 0
      now =
          let l = stored w.memory (λ out. Now tt) (Root setting.root) 0 m2 tt st in
          ap (λ (x : Mem (Node K V)). word_at x (Root setting.root)) (memory ∙ l.0)
          ∙ written w.memory (Root setting.root) 0 (there w.memory (Root setting.root) (root_word hash c blocks) s.ground.map.map.shows.root_there)

      root_is : root_word hash c blocks2 ≡ blocks2.table c.first * 2048
      root_is = ap (λ (z : Bool). cond z 0 (blocks2.table c.first * 2048)) (ne_eqb c.past 0 (λ e. omega (arith, e, made)))

      both : blocks2.table c.first * 2048 ≡ 0
      both = some_is (sym (ap Some root_is) ∙ sym stands.ground.map.map.shows.root_there ∙ now)
        where
          some_is : {a b : ℕ} → Some a ≡ Some b → a ≡ b
          some_is e = cc e

  -- a row within a call on another map, which has another counter, retires none of this one's blocks
  retires_anothers : (other : Setting) → setting.counter ≢ other.counter → (b : ℕ) → IsKnownBlock c blocks b → (i t : ℕ) → HandsOver other i w (Retire t b) → ⊥
  retires_anothers other counters b known i t hands = counters (sym (known_owner same hash asks setting slot w c blocks sights calls s b known) ∙ hands.0)

  -- nor does it put anything behind one of them
  defers_behind_anothers : (other : Setting) → setting.counter ≢ other.counter → (t : ℕ) → IsKnownBlock c blocks t → (i r b : ℕ) → HandsOver other i w (Defer' r b t) → ⊥
  defers_behind_anothers other counters t known i r b hands = counters (sym (known_owner same hash asks setting slot w c blocks sights calls s t known) ∙ hands.2)

-- Two maps on one root are none.
two_on_one_root : {K V Q : Type 0} (same : K → K → Bool) (asks : Q → K → Bool) (size : ℕ) (slot : ℕ → ℕ) (w : World (Node K V)) (maps : ℕ → Option (Standing K)) (calls : ℕ → ℕ → Option (UnderWay K V Q))
    → MapsTogether V same asks size slot w maps calls → (s r : Standing K) → maps 0 ≡ Some s → maps 1 ≡ Some r → s.setting.root ≡ r.setting.root → ⊥
two_on_one_root same asks size slot w maps calls all s r first second e = all.roots 0 1 s r (λ one. omega (arith, one)) first second e

-- A step of a call that replaced the value of a block of its own.
use Rattle.std.specs.Prelude.{◌≡◌, ◌≢◌, ℕ, zero, suc, Bool, [], ◌∷◌, Option, Some, None, IsSome, if◌then◌else◌}
use Rattle.std.proofs.Common.{arith, subst, refl, ap, sym, ◌∙◌, inl, inr}
use Rattle.std.proofs.lemmas.Bool.{ne_eqb, eq-eqb, cases_eq}
use Rattle.map_machines.specs.Given.SeizeWordsDeclared.at.At.TheVariants.{Root, Word}
use Rattle.map_machines.specs.Given.SeizeWordsMem.{Mem, value_at, with_value}
use Rattle.map_machines.proofs.Given.SeizeWordsOneOwner.AfterWrites.{word_at-with_value, value_at-with_value}
use Rattle.seize_rule.specs.Given.SeizeWorld.{World, Making, Rewrites}
use Rattle.map_machines.specs.Given.TablesNodes.{deferred_word}
use Rattle.map_machines.proofs.Given.TablesLists.{table_list}
use Rattle.map_machines.specs.Given.TablesDeclared.node.Node.{Node}
use Rattle.map_machines.specs.Given.TablesDeclared.node.Node.TheVariants as node
use Rattle.map_machines.specs.Given.TablesDeclared.setting.Setting.{Setting}
use Rattle.map_machines.specs.Given.TablesDeclared.table_words.TheConstants.{DEFERRED}
use Rattle.map_rule.specs.Chart.{Chart}
use Rattle.map_rule.specs.Words.{Blocks}
use Rattle.map_rule.specs.InWorld.{IsHeldBy, PreservesBlocks, StaysTable, IsFramed, IsMapIn, StepSpec}
use Rattle.map_rule.proofs.World.Footprints.{stays_so}
use Rattle.map_rule.proofs.World.Framed.{shows_framed}
use Rattle.map_rule.proofs.World.FramedSteps.{IsOutside}
use Rattle.map_rule.proofs.World.Hands.{hands_of, own_outside}
use Rattle.map_rule.proofs.World.WentWrote.{map_in}
use Rattle.map_rule.proofs.Words.LinksOwn.{outs_same, known_same, links_none}
use Rattle.map_rule.proofs.World.MovesKnown.{tables_same}
use Rattle.map_rule.proofs.World.OthersSpared.{held_once}
use Rattle.map_rule.proofs.World.CounterSpared.{counter_apart}
use Rattle.map_machines.proofs.Given.General.{some_is as is_some_of}

module _ {K V : Type 0} (same : K → K → Bool) (hash : K → ℕ) (setting : Setting) (w : World (Node K V)) (c : Chart K) (blocks : Blocks) (map : IsMapIn same hash setting w c blocks)
    (b i : ℕ) (before new : Node K V) (making : w.hand b ≡ Making i) (is : value_at w.memory b ≡ Some before) (other : before ≢ node.Shards) where
  -- the world after it
  abbrev pub world_rewritten : World (Node K V)
  world_rewritten = record w { memory = with_value w.memory b new }

  there : IsSome (value_at w.memory b)
  there = is_some_of _ _ is

  -- all other values are as they were
  pub value_beside : (x : ℕ) → x ≢ b → value_at (with_value w.memory b new) x ≡ value_at w.memory x
  value_beside x ne = value_at-with_value w.memory b new x there ∙ ap (λ q. if q then Some new else value_at w.memory x) (ne_eqb x b ne)

  outside : IsOutside c blocks b
  outside = own_outside same hash setting w c blocks b i making (hands_of same hash setting w c blocks map)

  -- its block is neither the map's nor its counter's
  rewritten_in : IsMapIn same hash setting world_rewritten c blocks
  rewritten_in =
      map_in same hash setting world_rewritten c blocks
      (record {
        rule = map.map.rule;
        later = map.map.later;
        shows = shows_framed hash w.memory (with_value w.memory b new) c blocks setting.root map.map.shows (record {
          root_word = word_at-with_value w.memory b new (Root setting.root) there;
          table_values = λ t made known. value_beside (blocks.table t) (outside.tables t made known);
          pair_values = λ n was known. value_beside (blocks.pair n) (outside.pairs n was known);
          words = λ t d made known rest. word_at-with_value w.memory b new (Word (blocks.table t) d) there;
        });
      })
      (record {
        counter = value_beside setting.counter (counter_apart same hash setting w c blocks map b before is other) ∙ map.counter;
        shards = λ shard l. let s = map.shards shard l in (s.0, word_at-with_value w.memory b new (Word setting.counter shard) there ∙ s.1);
      })
      (record { tables = map.tables; pairs = map.pairs; named = map.named; tables_out = map.tables_out; pairs_out = map.pairs_out })

  -- what carries no list is no table with places
  stays_rewritten : (value : Node K V) → deferred_word new ≡ deferred_word value → deferred_word new ≡ None → StaysTable (Some value) (Some new)
  stays_rewritten (node.Pair k v) lists none = none
  stays_rewritten (node.Table zero limit turn) lists none = none
  stays_rewritten (node.Table (suc len) limit turn) lists none = absurd (let some : deferred_word new ≡ Some DEFERRED = lists ∙ table_list K V (suc len) limit turn (omega arith) in cc (some, none))
  stays_rewritten node.Shards lists none = none

  here : value_at (with_value w.memory b new) b ≡ Some new
  here = value_at-with_value w.memory b new b there ∙ ap (λ q. if q then Some new else value_at w.memory b) (eq-eqb b b refl)

  framed : deferred_word new ≡ deferred_word before → deferred_word new ≡ None → IsFramed setting i w c blocks (with_value w.memory b new)
  framed lists none = record {
    words = λ at word is rest. word_at-with_value w.memory b new at there ∙ is;
    values = λ x value is mine. value_beside x (λ e. mine (its x e)) ∙ is;
    tables = λ x. elim (cases_eq x b) [
      | inl e ↦ subst (λ (y : ℕ). StaysTable (value_at w.memory y) (value_at (with_value w.memory b new) y)) (sym e)
          (subst (λ (o : Option (Node K V)). StaysTable o (value_at (with_value w.memory b new) b)) (sym is)
          (subst (StaysTable (Some before)) (sym here) (stays_rewritten before lists none)))
      | inr ne ↦ stays_so (value_at w.memory x) (value_at (with_value w.memory b new) x) (value_beside x ne)
    ];
  }
    where
      its : (x : ℕ) → x ≡ b → (w.hand x ≡ Making i) × (value_at w.memory x ≢ Some node.Shards)
      its x e = (ap w.hand e ∙ making, λ shards. other (let here = ap (value_at w.memory) e ∙ is in cc (here, shards)))

  spared : (j : ℕ) → j ≢ i → PreservesBlocks j w.memory w.hand (with_value w.memory b new) w.hand
  spared j apart = record {
    blocks = λ x value here unlike held. (refl, value_beside x (λ e. apart (held_once j i (w.hand b) (subst (λ (y : ℕ). IsHeldBy j (w.hand y)) e held) (subst (IsHeldBy i) (sym making) refl))) ∙ here);
    words = λ x field value here unlike made. word_at-with_value w.memory b new (Word x field) there;
  }

  pub went_rewritten : deferred_word new ≡ deferred_word before → deferred_word new ≡ None → (m2 : Mem (Node K V)) → m2 ≡ with_value w.memory b new → (Told : World (Node K V) → Chart K → Blocks → Type 0)
      → Told world_rewritten c blocks → StepSpec same hash setting i w c blocks m2 Told
  went_rewritten lists none m2 after Told told = record {
    w2 = world_rewritten;
    c2 = c;
    blocks2 = blocks;
    events = Rewrites i b new ∷ [];
    users = (tt, tt);
    its = (inl (making, λ shards. other (cc (is, shards))), tt);
    runs = (world_rewritten, (before, with_value w.memory b new, (i, making), (is, refl), lists, refl), refl);
    memory = sym after;
    tables = tables_same c blocks;
    links = links_none i w world_rewritten c c blocks refl refl (outs_same w.memory w.hand) (known_same i w.hand c blocks);
    frame = subst (IsFramed setting i w c blocks) (sym after) (framed lists none);
    spares = spared;
    moved = inl refl;
    map = rewritten_in;
    blocks_same = record { tables = λ t made known. (refl, known); pairs = λ n was known. (refl, known); tables_back = λ t made known. known; pairs_back = λ n was known. known };
    told = told;
  }

-- What a making knows lasts while others take steps that leave it what it has.
use Rattle.std.specs.Prelude.{◌≡◌, ℕ, Bool, Some}
use Rattle.std.proofs.Common.{refl, sym, subst, ◌∙◌, inl, arith}
use Rattle.many_calls.specs.Given.SeizeWordsDeclared.at.At.TheVariants.{Root, Used, Word}
use Rattle.many_calls.specs.Given.SeizeWordsMem.{value_at, word_at}
use Rattle.many_calls.specs.Given.SeizeWorld.{World}
use Rattle.many_calls.specs.Given.TablesChunks.{is_incremental}
use Rattle.many_calls.specs.Given.TablesDeclared.node.Node.{Node}
use Rattle.many_calls.specs.Given.TablesDeclared.setting.Setting.{Setting}
use Rattle.many_calls.specs.Given.ResizeDeclared.new_map.NewMap.{NewMap}
use Rattle.many_calls.specs.Given.ResizeDeclared.new_map.Opening.{Opening}
use Rattle.many_calls.specs.Given.ResizeDeclared.new_map.Opening.TheVariants as at
use Rattle.many_calls.specs.Given.ResizeDeclared.new_table.NewTable.{NewTable}
use Rattle.many_calls.specs.Given.ResizeDeclared.new_table.Making.{Making as Point}
use Rattle.many_calls.specs.Given.ResizeDeclared.new_table.Making.TheVariants as makes
use Rattle.many_calls.specs.Given.RuleInWorld.{PreservesBlocks}
use Rattle.many_calls.specs.Given.RuleMaps.{spot_of}
use Rattle.many_calls.specs.Given.RuleRule.{no_table}
use Rattle.many_calls.proofs.Given.RuleHistory.LeavingOn.{leaves_same}
use Rattle.many_calls.specs.Given.PointsFactsTables.{MakingFacts as TableFacts, NewTableFacts}
use Rattle.many_calls.specs.Given.PointsOthers.{OthersStep}
use Rattle.many_calls.proofs.Given.LateKnown.Tables.{own_table_on}
use Rattle.many_maps.specs.Makings.{Beginning, HasTaken, HasMade, IsTakenRoot, HasOwnCounter, OpeningFacts, MakingFacts}
use Rattle.many_calls.specs.Together.{no_blocks}

module _ {K V : Type 0} (same : K → K → Bool) (j : ℕ) (w w2 : World (Node K V)) where
  -- what is left to the caller that has this making: its root, its blocks, its counter
  pub record IsLeftTo (n : NewMap) : Type 0 where
    pub used : HasTaken n.stands → word_at w.memory (Used n.setting.root) ≡ Some 1 → word_at w2.memory (Used n.setting.root) ≡ Some 1
    pub root : HasTaken n.stands → word_at w.memory (Root n.setting.root) ≡ Some 0 → word_at w2.memory (Root n.setting.root) ≡ Some 0
    pub own : PreservesBlocks j w.memory w.hand w2.memory w2.hand
    pub counter : HasMade n.stands → HasOwnCounter w j n.setting → HasOwnCounter w2 j n.setting

  -- the making of its table: no other table is there
  module _ (hash : K → ℕ) (setting : Setting) (own : PreservesBlocks j w.memory w.hand w2.memory w2.hand) where
    others : OthersStep same hash setting j w no_table no_blocks w2 no_table no_blocks
    others = record {
      leaves = leaves_same same (spot_of hash) (is_incremental setting.mode) j no_table;
      tables = λ t made known. absurd (cc known);
      pairs = λ n was known. absurd (cc known);
      values = λ n was known. absurd (cc known);
      own = own;
    }

    table_on : (stands : Point) → TableFacts w j setting (no_table {K = K}) no_blocks (Root setting.root) 0 stands → TableFacts w2 j setting (no_table {K = K}) no_blocks (Root setting.root) 0 stands
    table_on (makes.Sums before reason sum) h = absurd (let made = h.0.1.made in omega (arith, made))
    table_on (makes.Makes table) h = h
    table_on (makes.Promotes table) h = (own_table_on same hash setting j w w2 no_table no_table no_blocks no_blocks others table _ h.0, h.1, h.2)
    table_on (makes.Links table) h = (own_table_on same hash setting j w w2 no_table no_table no_blocks no_blocks others table _ h.0, h.1)
    table_on (makes.Drops table found) h = absurd (let made = h.3 in omega (arith, made))
    table_on (makes.Over table) h = absurd (let made = h.2.made in omega (arith, made))
    table_on (makes.Refused fault) h = h

    pub new_table_on : (n : NewTable) → NewTableFacts w j setting (no_table {K = K}) no_blocks (Root setting.root) 0 n → NewTableFacts w2 j setting (no_table {K = K}) no_blocks (Root setting.root) 0 n
    new_table_on n h = record { setting_is = h.setting_is; link_is = h.link_is; link_of = inl (refl, refl); point = table_on n.stands h.point }

  module _ (batch_size roots : ℕ) (b : Beginning K) (left : IsLeftTo b.machine) where
    root_on : HasTaken b.machine.stands → IsTakenRoot w b.machine.setting.root → IsTakenRoot w2 b.machine.setting.root
    root_on taken h = (left.used taken h.0, left.root taken h.1)

    point_on : (stands : Opening) → b.machine.stands ≡ stands → OpeningFacts w roots j b.machine stands → OpeningFacts w2 roots j b.machine stands
    point_on at.Takes e h = h
    point_on at.Shards e h = root_on (subst HasTaken (sym e) tt) h
    point_on (at.Tables making) e h =
        (root_on (subst HasTaken (sym e) tt) h.0, left.counter (subst HasMade (sym e) tt) h.1, new_table_on b.hash b.machine.setting left.own making h.2, h.3, h.4)
    point_on (at.Unmakes fault) e h = (root_on (subst HasTaken (sym e) tt) h.0, left.counter (subst HasMade (sym e) tt) h.1)
    point_on (at.Frees fault) e h = root_on (subst HasTaken (sym e) tt) h
    point_on at.Over e h = h
    point_on (at.Refused fault) e h = h

    pub facts_last : MakingFacts w same batch_size roots j b → MakingFacts w2 same batch_size roots j b
    facts_last f = record {
      lawful = f.lawful;
      initial = f.initial;
      batches = f.batches;
      mask = f.mask;
      setting_is = f.setting_is;
      roots_are = f.roots_are;
      len_is = f.len_is;
      len = f.len;
      point = point_on b.machine.stands refl f.point;
    }

  -- a counter is one's own still, if its value, its hand and its words are as they were
  pub counter_on : (setting : Setting) → value_at w2.memory setting.counter ≡ value_at w.memory setting.counter → w2.hand setting.counter ≡ w.hand setting.counter
      → ((field word : ℕ) → word_at w.memory (Word setting.counter field) ≡ Some word → word_at w2.memory (Word setting.counter field) ≡ Some word)
      → HasOwnCounter w j setting → HasOwnCounter w2 j setting
  counter_on setting value hand words h =
      record { hand = hand ∙ h.hand; value = value ∙ h.value; shards = λ shard l. let is = h.shards shard l in (is.0, words shard is.0 is.1) }

  -- its point says that it has the root, and the counter
  pub taken_root : (roots : ℕ) (n : NewMap) (stands : Opening) → HasTaken stands → OpeningFacts w roots j n stands → IsTakenRoot w n.setting.root
  taken_root roots n at.Takes taken h = absurd taken
  taken_root roots n at.Shards taken h = h
  taken_root roots n (at.Tables making) taken h = h.0
  taken_root roots n (at.Unmakes fault) taken h = h.0
  taken_root roots n (at.Frees fault) taken h = h
  taken_root roots n at.Over taken h = absurd taken
  taken_root roots n (at.Refused fault) taken h = absurd taken

  pub made_counter : (roots : ℕ) (n : NewMap) (stands : Opening) → HasMade stands → OpeningFacts w roots j n stands → HasOwnCounter w j n.setting
  made_counter roots n at.Takes made h = absurd made
  made_counter roots n at.Shards made h = absurd made
  made_counter roots n (at.Tables making) made h = h.1
  made_counter roots n (at.Unmakes fault) made h = h.1
  made_counter roots n (at.Frees fault) made h = absurd made
  made_counter roots n at.Over made h = absurd made
  made_counter roots n (at.Refused fault) made h = absurd made

-- The words of a map's tables are its own, but for the heads of their lists: they may be written.
use Rattle.std.proofs.Common.{refl, inl, ◌≡◌, true, ◌≢◌, sym, subst, arith}
use Rattle.std.specs.Prelude.{ℕ, ◌+◌, ◌<◌, Bool}
use Rattle.map_machines.specs.Given.SeizeWordsDeclared.at.At.TheVariants.{Word}
use Rattle.seize_rule.specs.Given.SeizeWorld.{World}
use Rattle.map_machines.specs.Given.TablesTablePlaces.{at_word, at_place}
use Rattle.map_machines.specs.Given.TablesDeclared.node.Node.{Node}
use Rattle.map_machines.specs.Given.TablesDeclared.setting.Setting.{Setting}
use Rattle.map_machines.specs.Given.TablesDeclared.table.Table.{Table}
use Rattle.map_machines.specs.Given.TablesDeclared.table_words.TheConstants.{DEFERRED, PLACES}
use Rattle.map_rule.specs.Chart.{Chart}
use Rattle.map_rule.specs.InWorld.{IsMapIn}
use Rattle.map_rule.specs.Maps.{IsTable}
use Rattle.map_rule.specs.Words.{Blocks}
use Rattle.map_rule.proofs.World.Footprints.{MayWrite}
use Rattle.map_rule.proofs.Words.TablesSeen.{word_stands, place_stands}
use Rattle.map_rule.proofs.World.WentWrote.{own_word}

module _ {K V : Type 0} (same : K → K → Bool) (hash : K → ℕ) (setting : Setting) (w : World (Node K V)) (c : Chart K) (blocks : Blocks)
    (map : IsMapIn same hash setting w c blocks) where
  -- a word of a known table, but for the head of its list: it may be written, and so may this caller
  pub own_table_word : (caller t d : ℕ) → t < c.past → blocks.table_known t ≡ true → d ≢ DEFERRED → MayWrite setting caller w c blocks (Word (blocks.table t) d)
  own_table_word caller t d made known other =
      (own_word hash w.memory c blocks setting.root map.map.shows t d made known other, inl (t, made, known, refl))

  pub own_at_word : (caller : ℕ) (table : Table) (t number : ℕ) → IsTable c blocks table t → number ≢ DEFERRED → MayWrite setting caller w c blocks (at_word table number)
  own_at_word caller table t number entered other =
      subst (MayWrite setting caller w c blocks) (sym (word_stands hash w.memory c blocks setting.root map.map.shows table t entered number))
      (own_table_word caller t number entered.made entered.known other)

  pub own_at_place : (caller : ℕ) (table : Table) (t i : ℕ) → IsTable c blocks table t → i < c.len t → MayWrite setting caller w c blocks (at_place table i)
  own_at_place caller table t i entered inside =
      subst (MayWrite setting caller w c blocks) (sym (place_stands hash w.memory c blocks setting.root map.map.shows table t entered i inside))
      (own_table_word caller t (i + PLACES) entered.made entered.known (omega arith))

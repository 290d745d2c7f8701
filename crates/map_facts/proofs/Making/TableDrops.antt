-- The step of a making of a table that takes it away, since another table was linked there.
use Rattle.std.specs.Prelude.{◌≡◌, ℕ, ◌*◌, ◌/◌, ◌<◌, Bool, true, ◌∷◌, Some, None, IsSome}
use Rattle.std.proofs.Common.{refl, ap, sym, subst, ◌∙◌, inl, arith}
use Rattle.map_rule.specs.Given.SeizeWordsMem.{Mem, Can, Took, value_at, with_block}
use Rattle.map_rule.specs.Given.SeizeWordsPlan.{May, MaySee, Ends, Steps}
use Rattle.map_rule.specs.Given.SeizeWordsDeclared.at.At.{At}
use Rattle.map_rule.proofs.Given.SeizeWordsOneOwner.Operations.{may_take, taken}
use Rattle.papaya_raw.specs.Given.SeizeLaw.{Dropped}
use Rattle.papaya_raw.specs.Given.SeizeWorld.{World, NoBlock}
use Rattle.papaya_raw.specs.Given.SeizeDeclared.advance.Advance.{Advance}
use Rattle.papaya_raw.specs.Given.TablesNodes.{table_seen}
use Rattle.map_rule.specs.Given.ResizeNewTable.{done, other, drops}
use Rattle.papaya_raw.specs.Given.TablesDeclared.node.Node.{Node}
use Rattle.papaya_raw.specs.Given.TablesDeclared.node.Node.TheVariants as node
use Rattle.papaya_raw.specs.Given.TablesDeclared.setting.Setting.{Setting}
use Rattle.papaya_raw.specs.Given.TablesDeclared.table.Table.{Table}
use Rattle.map_rule.specs.Given.ResizeDeclared.new_table.NewTable.{NewTable}
use Rattle.map_rule.specs.Chart.{Chart}
use Rattle.map_rule.specs.Words.{Blocks}
use Rattle.map_rule.specs.Maps.{IsTable}
use Rattle.map_rule.specs.InWorld.{IsMapIn, StepSpec, SparesPairs}
use Rattle.map_facts.specs.FactsTables.{IsOwnTable, StandsAs}
use Rattle.map_rule.proofs.Words.TablesSeen.{link_seen, table_is}
use Rattle.map_rule.proofs.World.WentMade.{world_dropped, dropped_in, went_dropped}
use Rattle.map_rule.proofs.World.WentStill.{spares_taken}
use Rattle.map_facts.proofs.Making.TableMade.{NewTableTells, NewTableWent}
use Rattle.map_rule.proofs.Given.General.{some_is as is_some_of}

module _ {K V : Type 0} (same : K → K → Bool) (hash : K → ℕ) (w : World (Node K V)) (caller : ℕ) (setting : Setting) (c : Chart K) (blocks : Blocks)
    (map : IsMapIn same hash setting w c blocks) (n : NewTable) (table : Table) (status : ℕ) (own : IsOwnTable w caller table status)
    (found u : ℕ) (made : u < c.past) (known : blocks.table_known u ≡ true) (found_is : found ≡ blocks.table u * 2048) where
  abbrev left : World (Node K V)
  left = world_dropped same hash setting w c blocks map own.block

  left_in : IsMapIn same hash setting left c blocks
  left_in = dropped_in same hash setting w c blocks map own.block caller (node.Table table.len table.limit table.turn) own.hand own.value (λ e. absurd (cc e))

  block_is : table.link / 2048 ≡ own.block
  block_is = let l = own.link in omega (arith, l)

  there : IsSome (value_at w.memory own.block)
  there = is_some_of _ _ own.value

  seen : IsSome (value_at left.memory (found / 2048))
  seen = subst (λ (x : ℕ). IsSome (value_at left.memory (x / 2048))) (sym found_is) (link_seen hash left.memory c blocks setting.root left_in.map.shows u made known)

  pub may_drops : May Can Took value_at w.memory (drops n table found)
  may_drops = may_take w.memory (λ out. other n found) (table.link / 2048) (subst (λ (b : ℕ). IsSome (value_at w.memory b)) (sym block_is) there)
      (λ value is. subst (λ (b : ℕ). MaySee (value_at (with_block w.memory b None)) (other n found)) (sym block_is) (seen, λ v e. tt))

  found_table : (value : Node K V) → value_at left.memory (found / 2048) ≡ Some value → IsTable c blocks (table_seen found value) u
  found_table value is =
      subst (λ (x : ℕ). IsTable c blocks (table_seen x value) u) (sym found_is)
      (table_is hash left.memory c blocks setting.root left_in.map.shows u made known value (sym (ap (λ (x : ℕ). value_at left.memory (x / 2048)) found_is) ∙ is))

  -- Whatever is so of the end with the table that was found is so of where this step leads.
  pub drops_tell : (Told : World (Node K V) → Chart K → Blocks → NewTable × Advance Table → Type 0)
      → ((w2 : World (Node K V)) → IsMapIn same hash setting w2 c blocks → SparesPairs w w2 → (found_one : Table) → IsTable c blocks found_one u → Told w2 c blocks (done n found_one))
      → (m2 : Mem (Node K V)) (end : NewTable × Advance Table) → Steps Took value_at w.memory (drops n table found) m2 end
      → StepSpec same hash setting caller w c blocks m2 (λ w2 c2 blocks2. Told w2 c2 blocks2 end)
  drops_tell Told tells m2 end s =
      let d = taken w.memory (λ out. other n found) (table.link / 2048) m2 end s in
      let ends : Ends (value_at left.memory) (other n found) end = subst (λ (b : ℕ). Ends (value_at (with_block w.memory b None)) (other n found) end) block_is d.3 in
      went_dropped same hash setting w c blocks map own.block caller (node.Table table.len table.limit table.turn) own.hand own.value (λ e. absurd (cc e)) m2
      (d.2 ∙ ap (λ b. with_block w.memory b None) block_is)
      (λ w2 c2 blocks2. Told w2 c2 blocks2 end)
      (subst (λ (e : NewTable × Advance Table). Told left c blocks e) (sym ends.2)
      (tells left left_in (spares_taken w own.block NoBlock (Dropped own.block ∷ w.log) there (λ k v e. let is = own.value in absurd (cc)))
      (table_seen found ends.0) (found_table ends.0 ends.1)))

  pub went_drops : (link : At) (turn : ℕ) → StandsAs setting c link turn u → (m2 : Mem (Node K V)) (end : NewTable × Advance Table) → Steps Took value_at w.memory (drops n table found) m2 end
      → NewTableWent same hash w caller setting c blocks link turn m2 end
  went_drops link turn at_turn =
      drops_tell (λ w2 c2 blocks2 end. NewTableTells same hash w caller setting c blocks link turn end w2 c2 blocks2)
      (λ w2 map2 spares found_one is. (spares, inl refl, (u, at_turn, is)))

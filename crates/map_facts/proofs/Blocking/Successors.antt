-- In blocking mode, a copier reads which table comes after one that it is to retire, whichever table its target is.
use Rattle.std.specs.Prelude.{Some}
use Rattle.std.proofs.Common.{◌≡◌, ◌≢◌, ℕ, suc, ◌*◌, ◌/◌, ◌<◌, ◌≤◌, ◌==◌, Bool, true, false, cond, refl, ap, ◌∙◌, arith}
use Rattle.std.proofs.lemmas.Bool.{eq-eqb, ne_eqb, lt-ltb}
use Rattle.map_rule.specs.Given.SeizeWordsDeclared.at.At.TheVariants.{Word}
use Rattle.map_rule.specs.Given.SeizeWordsMem.{Can, Took, value_at, word_at}
use Rattle.map_rule.specs.Given.SeizeWordsPlan.{May}
use Rattle.map_rule.proofs.Given.SeizeWordsOneOwner.Operations.{may_load}
use Rattle.papaya_raw.specs.Given.SeizeSettle.{retiring}
use Rattle.papaya_raw.specs.Given.SeizeWorld.{World, Cutting}
use Rattle.papaya_raw.specs.Given.TablesDeclared.node.Node.{Node}
use Rattle.papaya_raw.specs.Given.TablesDeclared.setting.Setting.{Setting}
use Rattle.papaya_raw.specs.Given.TablesDeclared.table.Table.{Table}
use Rattle.papaya_raw.specs.Given.TablesDeclared.table_words.TheConstants.{NEXT}
use Rattle.map_rule.specs.Given.ResizeCopierPromotes.{also_retired, successor_read, succeeds}
use Rattle.map_rule.specs.Given.ResizeDeclared.copier.Copier.{Copier}
use Rattle.map_rule.specs.Chart.{Chart}
use Rattle.map_rule.specs.InWorld.{IsMapIn}
use Rattle.map_rule.specs.Maps.{IsTable}
use Rattle.map_rule.specs.Words.{Blocks}
use Rattle.map_rule.proofs.Words.TablesSeen.{block_of_link}
use Rattle.map_facts.specs.FactsDisposes.{IsToRetire}
use Rattle.map_rule.proofs.Given.General.{some_is as is_some_of}

module _ {K V : Type 0} (same : K → K → Bool) (hash : K → ℕ) (caller : ℕ) (setting : Setting) (w : World (Node K V)) (c : Chart K) (blocks : Blocks)
    (map : IsMapIn same hash setting w c blocks) (p : Copier) (setting_is : p.setting ≡ setting) (s t : ℕ) (before : s < t)
    (target : IsTable c blocks p.target t)
    (unlinked : (u : ℕ) → s ≤ u → u < t → (blocks.table_known u ≡ true) × (w.hand (blocks.table u) ≡ Cutting caller)) (table : ℕ)
    (table_is : table ≡ blocks.table s * 2048) where
  pub successor_made : suc s < c.past
  successor_made = let there = target.made in omega (arith, there, before)

  pub table_known : blocks.table_known s ≡ true
  table_known = (unlinked s (omega arith) before).0

  next_is : word_at w.memory (Word (table / 2048) NEXT) ≡ Some (blocks.table (suc s) * 2048)
  next_is =
      ap (λ (x : ℕ). word_at w.memory (Word (x / 2048) NEXT)) table_is ∙ ap (λ (x : ℕ). word_at w.memory (Word x NEXT)) (block_of_link (blocks.table s))
      ∙ (map.map.shows.tables s (omega (arith, successor_made)) table_known).next
      ∙ ap (λ (b : Bool). Some (cond b (blocks.table (suc s) * 2048) 0)) (lt-ltb (suc s) c.past successor_made)

  pub may_succeed : May Can Took value_at w.memory (succeeds p table)
  may_succeed = may_load w.memory (successor_read p table) (Word (table / 2048) NEXT) (is_some_of _ _ next_is) (λ link read. tt)

  -- what was read is the link to the table behind
  pub next_read : (link : ℕ) → word_at w.memory (Word (table / 2048) NEXT) ≡ Some link → link ≡ blocks.table (suc s) * 2048
  next_read link read = cc (read, next_is)

  pub is_to_retire : IsToRetire w caller setting (retiring p.setting.slot p.setting.batch_size table) (blocks.table s)
  is_to_retire = (
    ap (λ (x : Setting). retiring x.slot x.batch_size table) setting_is ∙ ap (retiring setting.slot setting.batch_size) table_is,
    (unlinked s (omega arith) before).1,
  )

  target_is : p.target.link ≡ blocks.table t * 2048
  target_is = ap (λ (x : Table). x.link) target.is

  -- the table behind is retired next, up to the target
  pub rest_between : (link : ℕ) → link ≡ blocks.table (suc s) * 2048 → suc s < t → also_retired p link ≡ blocks.table (suc s) * 2048
  rest_between link e l =
      let apart : blocks.table (suc s) ≢ blocks.table t =
      (λ one. let turn = map.map.shows.tables_apart (suc s) t successor_made target.made (unlinked (suc s) (omega arith) l).0 target.known one in omega (arith, turn, l)) in
      let other : (link / 2048 == p.target.link / 2048) ≡ false = ne_eqb (link / 2048) (p.target.link / 2048) (λ one. apart (omega (arith, one, e, target_is))) in
      rw other e

  pub rest_last : (link : ℕ) → link ≡ blocks.table (suc s) * 2048 → suc s ≡ t → also_retired p link ≡ 0
  rest_last link e turn =
      let block : blocks.table (suc s) ≡ blocks.table t = ap blocks.table turn in
      let one : (link / 2048 == p.target.link / 2048) ≡ true = eq-eqb (link / 2048) (p.target.link / 2048) (omega (arith, e, target_is, block)) in
      rw one refl

-- A copier at an old table: fewer are left once the link to the next one is read.
use Rattle.std.specs.Prelude.{◌/◌, ◌==◌, if◌then◌else◌}
use Rattle.std.proofs.Common.{◌≡◌, ℕ, suc, ◌-◌, ◌*◌, ◌<◌, Bool, true, false, cond, Some, refl, ap, sym, ◌∙◌, arith}
use Rattle.seize_words.specs.declared.at.At.TheVariants.{Word}
use Rattle.seize_words.specs.OneMemory.Mem.{Mem, word_at}
use Rattle.map_tables.specs.declared.node.Node.{Node}
use Rattle.map_tables.specs.declared.setting.Setting.{Setting}
use Rattle.map_tables.specs.declared.table.Table.{Table}
use Rattle.map_tables.specs.declared.table_words.TheConstants.{NEXT}
use Rattle.map_machines.specs.CopierPromotes.{also_retired}
use Rattle.map_machines.specs.declared.copier.Copier.{Copier}
use Rattle.many_calls.specs.Given.RuleChart.{Chart}
use Rattle.many_calls.specs.Given.RuleWords.{Blocks}
use Rattle.many_calls.proofs.Given.PointsSteps.TurnsFound.{turn_found}
use Rattle.many_calls.specs.Given.PointsMeasuresDisposes.{turn_of}
use Rattle.map_measures.specs.Falls.Copies.{old_tables}
use Rattle.map_measures.proofs.Falls.Onward.{Onward, grows, known_on, link_behind}
use Rattle.map_measures.proofs.Falls.Stands.{AtOld}

module _ {K V : Type 0} (same : K → K → Bool) (hash : K → ℕ) (setting : Setting) (m : Mem (Node K V)) (c : Chart K) (blocks : Blocks) (m2 : Mem (Node K V)) (c2 : Chart K) (blocks2 : Blocks)
    (on : Onward same hash setting m c blocks m2 c2 blocks2) (p : Copier) (link : ℕ) (old : AtOld setting m c blocks p link) (next : ℕ) (read : word_at m (Word (link / 2048) NEXT) ≡ Some next) where
  abbrev s : ℕ
  s = old.0

  abbrev t : ℕ
  t = old.1

  target_made : t < c.past
  target_made = old.3.made

  before_target : s < t
  before_target = old.2

  behind : (next ≡ blocks.table (suc s) * 2048) × (suc s < c.past) × (blocks.table_known (suc s) ≡ true)
  behind = link_behind same hash setting m c blocks on.map s (omega (arith, target_made, before_target)) old.4 link old.5 next read

  turn : p.target.turn ≡ t
  turn = ap (λ (x : Table). x.turn) old.3.is

  here : turn_of blocks link c.past ≡ s
  here = turn_found hash m c blocks setting.root on.map.shows link s (omega (arith, target_made, before_target)) old.4 old.5

  there : turn_of blocks2 next c2.past ≡ suc s
  there =
      let kept = known_on same hash setting m c blocks m2 c2 blocks2 on (suc s) behind.1 behind.2 in
      let up = grows same hash setting m c blocks m2 c2 blocks2 on in
      let made = behind.1 in
      turn_found hash m2 c2 blocks2 setting.root on.map2.shows next (suc s) (omega (arith, made, up)) kept.1 (behind.0 ∙ ap (λ b. b * 2048) (sym kept.0))

  pub fewer_old : cond (also_retired p next == 0) 0 (old_tables c2 blocks2 p (also_retired p next)) < old_tables c blocks p link
  fewer_old = by (next / 2048 == p.target.link / 2048) refl
    where
      rest : (q : Bool) → cond q 0 (p.target.turn - turn_of blocks2 next c2.past) < p.target.turn - turn_of blocks link c.past
      rest true = omega (arith, turn, here, before_target)
      rest false = omega (arith, turn, here, there, before_target)

      by : (q : Bool) → (next / 2048 == p.target.link / 2048) ≡ q
          → cond ((if q then 0 else next) == 0) 0 (p.target.turn - turn_of blocks2 (if q then 0 else next) c2.past) < p.target.turn - turn_of blocks link c.past
      by true e = omega (arith, turn, here, before_target)
      by false e = rest (next == 0)

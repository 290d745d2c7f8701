-- Behind a table that a step of a call has linked nothing lies, and no row is onto it: what lies behind linked tables is the map's, as before.
use Rattle.std.specs.Prelude.{◌≡◌, suc, ◌≤◌, ◌<◌, ℕ, Bool, Option, ◌⊎◌}
use Rattle.std.proofs.Common.{ap, subst, ◌∙◌, inl, inr, arith}
use Rattle.std.proofs.lemmas.Bool.{cases_lt}
use Rattle.seize_model.specs.Given.SeizeWordsMem.{Mem, value_at}
use Rattle.seize_model.specs.Given.SeizeLaw.{With, where_is, owner_of}
use Rattle.seize_model.specs.Given.SeizeWorld.{World, Row, Making, IsOnto}
use Rattle.map_facts_late.specs.Given.TablesNodes.{deferred_word}
use Rattle.map_facts_late.specs.Given.TablesDeclared.node.Node.{Node}
use Rattle.map_facts_late.specs.Given.TablesDeclared.setting.Setting.{Setting}
use Rattle.map_facts_late.specs.Given.RuleChart.{Chart}
use Rattle.map_facts_late.specs.Given.RuleWords.{Blocks}
use Rattle.map_facts_late.specs.Given.RuleInWorld.{StepSpec}
use Rattle.many_calls.specs.Kept.{IsPairOf, DeferredIsOwned}
use Rattle.many_calls.specs.Together.{UnderWay, HasCall, PutsWithin, CameAbout}
use Rattle.many_calls.proofs.Rows.Behind.{carrier_not_made, events_back, pair_on}
use Rattle.many_calls.proofs.Together.Came.{came_reached, none_onto_made}
use Rattle.many_calls.proofs.Together.Users.{events_rows}

module _ {K V : Type 0} (same : K → K → Bool) (hash : K → ℕ) (setting : Setting) (i : ℕ) (w : World (Node K V)) (c : Chart K) (seen : Blocks)
    (m2 : Mem (Node K V)) (Told : World (Node K V) → Chart K → Blocks → Type 0) (went : StepSpec same hash setting i w c seen m2 Told) (came : CameAbout setting.batch_size w) (first : c.first ≤ went.c2.first) (past : c.past ≤ went.c2.past)
    (blocks blocks2 : Blocks) (old : (t : ℕ) → t < c.past → blocks2.table t ≡ blocks.table t) (new : (t : ℕ) → c.past ≤ t → blocks2.table t ≡ went.blocks2.table t) where
  linked_before : (t : ℕ) → went.c2.first ≤ t → c.first ≤ t
  linked_before t l = omega (arith, first, l)

  -- a table that it has linked its maker had before
  new_made : (t : ℕ) → c.past ≤ t → t < went.c2.past → w.hand (blocks2.table t) ≡ Making i
  new_made t l made = ap w.hand (new t l) ∙ went.links.tables t l made

  pub behind_went : (owner : ℕ) → DeferredIsOwned w c blocks owner → DeferredIsOwned went.w2 went.c2 blocks2 owner
  behind_went owner behind t x l made at = by (cases_lt t c.past)
    where
      lay : (where_is x w.log ≡ With (blocks2.table t)) × (owner_of x went.w2.log ≡ owner_of x w.log) × (value_at went.w2.memory x ≡ value_at w.memory x)
      lay = events_back deferred_word setting.batch_size x (blocks2.table t) went.events w went.w2 (came_reached setting.batch_size w came) went.users went.runs at

      by : (t < c.past) ⊎ (c.past ≤ t) → IsPairOf went.w2 owner x × (suc t < went.c2.past)
      by (inl was) = let k = behind t x (linked_before t l) was (lay.0 ∙ ap With (old t was)) in (pair_on owner x w went.w2 lay.1 lay.2 k.0, let more = k.1 in omega (arith, more, past))
      by (inr is_new) = absurd (carrier_not_made deferred_word setting.batch_size w (came_reached setting.batch_size w came) x (blocks2.table t) lay.0 i (new_made t is_new made))

  pub puts_went : {Q : Type 0} (calls : ℕ → Option (UnderWay K V Q)) → PutsWithin calls w c blocks → PutsWithin calls went.w2 went.c2 blocks2
  puts_went calls puts t j l made on = by (cases_lt t c.past)
    where
      onto : IsOnto (blocks2.table t) (w.row j)
      onto = subst (IsOnto (blocks2.table t)) (ap (λ (f : ℕ → Row). f j) (events_rows setting.batch_size went.events w went.w2 went.users went.runs)) on

      by : (t < c.past) ⊎ (c.past ≤ t) → HasCall calls j
      by (inl was) = puts t j (linked_before t l) was (subst (λ (b : ℕ). IsOnto b (w.row j)) (old t was) onto)
      by (inr is_new) = absurd (none_onto_made setting.batch_size w came j (blocks2.table t) i onto (new_made t is_new made))

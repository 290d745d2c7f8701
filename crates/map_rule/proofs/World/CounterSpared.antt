-- A block that a caller makes, links or takes away is not the counter of a map, so no step of a call takes that from its maker.
use Rattle.std.specs.Prelude.{◌≡◌, ◌≢◌, ℕ, Bool, Some}
use Rattle.std.proofs.Common.{sym, subst, inl, inr, ◌∙◌}
use Rattle.map_machines.specs.Given.SeizeWordsMem.{Mem, value_at, IsFreeNumber}
use Rattle.seize_rule.specs.Given.SeizeWorld.{World, Making}
use Rattle.map_machines.specs.Given.TablesDeclared.node.Node.{Node}
use Rattle.map_machines.specs.Given.TablesDeclared.node.Node.TheVariants as node
use Rattle.map_machines.specs.Given.TablesDeclared.setting.Setting.{Setting}
use Rattle.map_rule.specs.Chart.{Chart}
use Rattle.map_rule.specs.Words.{Blocks}
use Rattle.map_rule.specs.Counters.{SparesCounter}
use Rattle.map_rule.specs.InWorld.{IsOut, IsIts, IsMapIn, StepSpec}
use Rattle.map_rule.proofs.World.BesideKept.{events_kept}
use Rattle.map_rule.proofs.Words.BlocksApart.{values_apart, new_apart}

module _ {K V : Type 0} (same : K → K → Bool) (hash : K → ℕ) (setting : Setting) (w : World (Node K V)) (c : Chart K) (blocks : Blocks) (map : IsMapIn same hash setting w c blocks) where
  pub counter_apart : (b : ℕ) (value : Node K V) → value_at w.memory b ≡ Some value → value ≢ node.Shards → setting.counter ≢ b
  counter_apart b value is other = values_apart w.memory setting.counter b node.Shards value map.counter is (λ e. other (sym e))

  pub counter_made_apart : (b : ℕ) → IsFreeNumber w.memory b → setting.counter ≢ b
  counter_made_apart b free = new_apart w.memory setting.counter b node.Shards map.counter free

  -- nobody has it but its maker, whatever a step of a call does
  not_its : (caller : ℕ) → {j : ℕ} → w.hand setting.counter ≡ Making j → IsIts caller w c blocks setting.counter → ⊥
  not_its caller making (inl own) = own.1 map.counter
  not_its caller making (inr (inl (t, made, known, is))) = subst IsOut making (subst (λ (b : ℕ). IsOut (w.hand b)) (sym is) (map.tables_out t made known))
  not_its caller making (inr (inr (n, was, known, is))) = subst IsOut making (subst (λ (b : ℕ). IsOut (w.hand b)) (sym is) (map.pairs_out n was known))

  pub spares_counter : (caller : ℕ) (m2 : Mem (Node K V)) (Told : World (Node K V) → Chart K → Blocks → Type 0) (went : StepSpec same hash setting caller w c blocks m2 Told) → SparesCounter setting w went.w2
  spares_counter caller m2 Told went j making =
      (events_kept caller w c blocks setting setting.counter (not_its caller making) node.Shards setting.batch_size went.events w went.w2 map.counter went.its went.runs).hand ∙ making

-- What a step of a reservation tells that is taken in a table that the root has left, in blocking mode.
use Rattle.std.specs.Prelude.{◌≡◌, ℕ, Bool, ◌⊎◌}
use Rattle.map_facts.specs.Given.SeizeWorld.{World}
use Rattle.map_facts.specs.Given.TablesDeclared.node.Node.{Node}
use Rattle.map_facts.specs.Given.TablesDeclared.setting.Setting.{Setting}
use Rattle.map_facts.specs.Given.ResizeDeclared.yielding.Yielding.{Yielding}
use Rattle.map_facts.specs.Given.ResizeDeclared.yielding.Yielding.TheVariants as outcome
use Rattle.map_facts.specs.Given.ReservesDeclared.reserve.Reserve.{Reserve}
use Rattle.map_facts.specs.Given.RuleChart.{Chart}
use Rattle.map_facts.specs.Given.RuleWords.{Blocks}
use Rattle.map_facts.specs.FactsCopiesBlocking.{HasNoShares}
use Rattle.map_facts.specs.Told.{OnlyLinks}
use Rattle.map_facts_late.specs.FactsReserves.{CopiesPairs, ReserveFacts}
use Rattle.map_facts_late.specs.LateReserves.{SupersededReserveFacts}

module _ {K V : Type 0} (same : K → K → Bool) (hash : K → ℕ) (caller : ℕ) (setting : Setting) (began : ℕ) where
  -- it goes on there, or in the root's table; at its end it has no part in a copying
  abbrev pub SupersededReserveAfter : World (Node K V) → Chart K → Blocks → Reserve × Yielding (Node K V) Unit → Type 0
  SupersededReserveAfter w c blocks (p, outcome.Goes) = ReserveFacts same hash w caller setting c blocks p ⊎ SupersededReserveFacts same hash w caller setting c blocks began p
  SupersededReserveAfter w c blocks (p, outcome.Waits) = SupersededReserveFacts same hash w caller setting c blocks began p
  SupersededReserveAfter w c blocks (p, outcome.Gave value) = ⊥
  SupersededReserveAfter w c blocks (p, outcome.Done end) = HasNoShares same hash w caller setting c blocks
  SupersededReserveAfter w c blocks (p, outcome.Refused fault) = HasNoShares same hash w caller setting c blocks

  -- it changes no pair of the map there, and beside its copying it links a table at most
  pub record SupersededReserveOutcome (c : Chart K) (p : Reserve) (w2 : World (Node K V)) (c2 : Chart K) (blocks2 : Blocks) (p2 : Reserve) (end : Yielding (Node K V) Unit) : Type 0 where
    pub facts : SupersededReserveAfter w2 c2 blocks2 (p2, end)
    pub same_pairs : c2.current ≡ c.current
    pub beside : (CopiesPairs p.stands → ⊥) → OnlyLinks hash setting.mode c c2

-- What a copier knows, in blocking mode, where no other caller has a part in the copying: a table that was given up says so, and a count that is
-- full is its own to go on from.
use Rattle.std.specs.Prelude.{◌≡◌, ◌≢◌, ℕ, ◌<◌, ◌≤◌, true, false}
use Rattle.map_rule.specs.Given.ResizeDeclared.yielding.Yielding.{Yielding}
use Rattle.map_rule.specs.Given.ResizeDeclared.yielding.Yielding.TheVariants as outcome
use Rattle.papaya_raw.specs.Given.TablesDeclared.status.TheConstants.Status.{ABORTED}
use Rattle.papaya_raw.specs.Given.TablesDeclared.table.Table.{Table}
use Rattle.map_rule.specs.Given.ResizeDeclared.copier.Copier.{Copier}
use Rattle.map_rule.specs.Given.ResizeDeclared.copier.Copying.{Copying as Point}
use Rattle.map_rule.specs.Given.ResizeDeclared.copier.Copying.TheVariants as at
use Rattle.map_rule.specs.Chart.{Lost, Chart}
use Rattle.map_facts.specs.Measures.{OthersIdle}

module _ {K : Type 0} (c : Chart K) where
  -- each table behind the root that was given up is said to be aborted
  abbrev pub AllAborted : Type 0
  AllAborted = (u j : ℕ) → c.first < u → c.share u j ≡ Lost → c.status u ≡ ABORTED

  -- or this one is still to be
  abbrev pub AllAbortedBut : ℕ → Type 0
  AllAbortedBut t = (u j : ℕ) → c.first < u → u ≢ t → c.share u j ≡ Lost → c.status u ≡ ABORTED

  -- for each table behind the root, places are still to be counted
  abbrev pub AllUncounted : Type 0
  AllUncounted = (u : ℕ) → c.first < u → u < c.past → c.copied u < c.len c.first

  -- Standing there. It waits only once all places are claimed.
  abbrev pub AloneBlocking : Copier → Point → Type 0
  AloneBlocking p at.Asks = AllAborted × AllUncounted × (p.spent ≡ true → c.len c.first ≤ c.claim p.target.turn)
  AloneBlocking p at.Aborts = AllAbortedBut p.target.turn × AllUncounted × (p.spent ≡ false)
  AloneBlocking p at.Promotes = AllAborted
  AloneBlocking p at.Announces = AllAborted × AllUncounted
  AloneBlocking p (at.Succeeds table) = AllAborted × AllUncounted
  AloneBlocking p (at.Retires settle rest) = AllAborted × AllUncounted
  AloneBlocking p at.Over = AllAborted × AllUncounted
  AloneBlocking p (at.Refused fault) = AllAborted × AllUncounted
  AloneBlocking p _ = AllAborted × AllUncounted × (p.spent ≡ false)

  -- where a step of a caller that is alone leads: it never waits
  abbrev pub LeadsAlone : {T : Type 0} → ℕ → Copier × Yielding T Table → Type 0
  LeadsAlone caller (p, outcome.Goes) = OthersIdle caller c × AloneBlocking p p.stands
  LeadsAlone caller (p, outcome.Waits) = ⊥
  LeadsAlone caller (p, outcome.Gave value) = ⊥
  LeadsAlone caller (p, outcome.Done table) = OthersIdle caller c × AllAborted × AllUncounted
  LeadsAlone caller (p, outcome.Refused fault) = OthersIdle caller c × AllAborted × AllUncounted

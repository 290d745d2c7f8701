-- What a copier knows, in incremental mode, where no other caller has a part in the copying: what is marked is settled or its own, and a count
-- that is full is its own to go on from.
use Rattle.std.specs.Prelude.{◌≡◌, ◌≢◌, ℕ, suc, ◌<◌, ◌≤◌}
use Rattle.many_maps.specs.Given.TablesDeclared.status.TheConstants.Status.{PROMOTED}
use Rattle.many_maps.specs.Given.ResizeDeclared.copier.Copier.{Copier}
use Rattle.many_maps.specs.Given.ResizeDeclared.copier.Copying.{Copying as Point}
use Rattle.many_maps.specs.Given.ResizeDeclared.copier.Copying.TheVariants as at
use Rattle.many_maps.specs.Given.RuleChart.{Chart}
use Rattle.many_maps.specs.Given.PointsMeasures.{OthersIdle}

module _ {K : Type 0} (c : Chart K) where
  -- each table up to the root is said to be promoted
  abbrev pub AllAnnounced : Type 0
  AllAnnounced = (t : ℕ) → t ≤ c.first → t < c.past → c.status t ≡ PROMOTED

  -- or this one is still to be
  abbrev pub AllAnnouncedBut : ℕ → Type 0
  AllAnnouncedBut u = (t : ℕ) → t ≤ c.first → t < c.past → t ≢ u → c.status t ≡ PROMOTED

  -- places of the root are still to be counted
  abbrev pub IsUncounted : Type 0
  IsUncounted = c.first < c.past → c.copied (suc c.first) < c.len c.first

  -- the caller that counts the last places promotes the next table, and says so
  abbrev pub AloneAt : Copier → Point → Type 0
  AloneAt p at.Promotes = AllAnnounced × (p.source.turn ≡ c.first)
  AloneAt p at.Announces = AllAnnouncedBut p.target.turn × IsUncounted
  AloneAt p _ = AllAnnounced × IsUncounted

  pub record FactsAlone (caller : ℕ) (p : Copier) : Type 0 where
    pub idle : OthersIdle caller c
    pub point : AloneAt p p.stands

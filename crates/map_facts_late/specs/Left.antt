-- A table that the root has left since a call began, in blocking mode.
use Rattle.std.specs.Prelude.{◌≡◌, ◌≢◌, ℕ, ◌<◌, ◌≤◌, ◌^◌, ◌⊎◌}
use Rattle.map_facts.specs.Given.TablesDeclared.status.TheConstants.Status.{ABORTED}
use Rattle.map_facts.specs.Given.RuleChart.{Chart}

module _ {K : Type 0} (c : Chart K) where
  -- the root was there, and has left it at this moment or since
  pub record Left (began t : ℕ) : Type 0 where
    pub behind : t < c.first
    pub was_root : c.status t ≢ ABORTED
    pub since : began ≤ c.passed t

  -- the table is the root's, or was so since then
  abbrev pub Entered : ℕ → ℕ → Type 0
  Entered began t = (t ≡ c.first) ⊎ Left began t

  -- no claim comes near to the end of a word
  abbrev pub ClaimsAreFew : Type 0
  ClaimsAreFew = (t : ℕ) → t < c.past → c.claim t < 2 ^ 63

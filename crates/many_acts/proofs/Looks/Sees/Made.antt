-- The own pair of a call is in the hands of its caller, who has made its block.
use Rattle.std.specs.Prelude.{◌≢◌, ◌/◌, Option, Some}
use Rattle.std.proofs.Common.{◌≡◌, ℕ, Bool, inl, inr, sym, subst}
use Rattle.run_shows.specs.Given.SeizeWordsMem.{value_at}
use Rattle.run_shows.specs.Given.SeizeWorld.{World, Making}
use Rattle.run_shows.specs.Given.TablesDeclared.node.Node.{Node}
use Rattle.run_shows.specs.Given.TablesDeclared.node.Node.TheVariants.{Shards}
use Rattle.run_shows.specs.Given.TablesDeclared.setting.Setting.{Setting}
use Rattle.run_shows.specs.Given.RuleWords.{Blocks}
use Rattle.owner_facts.specs.Given.CallersSights.{seen_by}
use Rattle.owner_facts.specs.Given.CallersTogether.{UnderWay, OnKey, ForRoom, Counting, OverAll, Together, IsAtPoint, in_slot}
use Rattle.owner_facts.specs.Given.FinishesEndings.{Finishing, EndingsTogether}
use Rattle.owner_facts.specs.Given.FinishesMachines.{machine_of}
use Rattle.owner_facts.specs.Given.FinishesMakings.{Beginning}
use Rattle.owner_facts.specs.Given.FinishesMaps.{Standing}
use Rattle.many_acts.specs.Looks.Sees.{IsOwnOf, OwnPairsAreMade}
use Rattle.many_acts.proofs.Looks.Sees.Own.{mine_at, late_mine, no_row}

module _ {K Q : Type 0} (V : Type 0) (same : K → K → Bool) (asks : Q → K → Bool) (batch_size roots : ℕ) (slot : ℕ → ℕ) where
  module _ (w : World (Node K V)) (maps : ℕ → Option (Standing K)) (calls : ℕ → ℕ → Option (UnderWay K V Q)) (makers : ℕ → Option (Beginning K)) (enders : ℕ → Option (Finishing K V))
      (all : EndingsTogether V same asks batch_size roots slot w maps calls makers enders) (m : ℕ) (s : Standing K) (stands : maps m ≡ Some s) (i b : ℕ) where
    together : Together V same s.hash asks s.setting slot w s.chart s.blocks s.sights (calls m)
    together = all.makings.standing.each m s stands

    abbrev here : Setting
    here = in_slot s.setting (slot i)

    abbrev its_seen : Blocks
    its_seen = seen_by s.blocks (s.sights (slot i))

    abbrev IsMade : ℕ → Type 0
    IsMade x = (w.hand x ≡ Making i) × (value : Node K V) × (value_at w.memory x ≡ Some value) × (value ≢ Shards)

    -- where a call has a pair of its own, its caller has made that
    own_made : (u : UnderWay K V Q) → calls m i ≡ Some u → IsOwnOf (machine_of u) b → IsMade b
    own_made (OnKey u) has (to_store, some, is) = subst IsMade (sym is) (by (together.stand i (OnKey u) has))
      where
        by : IsAtPoint V same s.hash asks s.setting slot w s.chart its_seen i (OnKey u) → IsMade (u.call.own / 2048)
        by (inl (rests, knows)) = elim knows.facts as (λ _. IsMade (u.call.own / 2048)) [
          | inl facts ↦ mine_at same s.hash asks w i here s.chart its_seen u.keys u.change u.call facts.code some u.call.stands to_store facts.point
          | inr late ↦ late_mine same s.hash asks w i here s.chart its_seen u.keys u.change u.call late.1.code some u.began u.call.stands to_store late.1.point late.0
        ]
        by (inr (row, is_row, knows)) = absurd (no_row u.call.stands to_store is_row)
    own_made (ForRoom r) has own = absurd own
    own_made (Counting sum) has own = absurd own
    own_made (OverAll o) has own = absurd own

  pub own_pairs_made : OwnPairsAreMade V same asks batch_size roots slot
  own_pairs_made w maps calls makers enders all m s stands i u has b own = own_made w maps calls makers enders all m s stands i b u has own

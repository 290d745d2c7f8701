-- What is known of a map where one caller alone has a part in its copying: at each point of a call, and where no call is under way.
use Rattle.std.specs.Prelude.{◌≡◌, ℕ, Bool, true, false}
use Rattle.many_maps.specs.Given.RawDeclared.machines.answer.Called.{Called}
use Rattle.many_maps.specs.Given.RawDeclared.machines.answer.Called.TheVariants as called
use Rattle.many_maps.specs.Given.RawDeclared.machines.answer.End.{End}
use Rattle.many_maps.specs.Given.RawDeclared.machines.asking.Asking.{Asking}
use Rattle.many_maps.specs.Given.RawDeclared.machines.call.KeyCall.{KeyCall}
use Rattle.many_maps.specs.Given.RawDeclared.machines.call.Calling.{Calling}
use Rattle.many_maps.specs.Given.RawDeclared.machines.call.Calling.TheVariants as at
use Rattle.many_maps.specs.Given.RuleChart.{Chart}
use Rattle.many_maps.specs.Given.PointsMeasures.{OthersIdle}
use Rattle.many_maps.specs.Given.PointsFactsAloneBlocking.{AllAborted, AllUncounted, AloneBlocking}
use Rattle.owner_facts.specs.Alone.FactsAlone.{AllAnnounced, IsUncounted, AloneAt}

module _ {K : Type 0} where
  -- Nobody is to promote a table, nor to say that one was promoted or given up.
  abbrev pub TablesAlone : Bool → Chart K → Type 0
  TablesAlone true c = AllAnnounced c × IsUncounted c
  TablesAlone false c = AllAborted c × AllUncounted c

  -- So it is at each point, but where the call itself copies.
  abbrev pub AloneAtPoint : Bool → Chart K → Calling → Type 0
  AloneAtPoint incremental c (at.Helps copier goal) = AloneAt c copier copier.stands
  AloneAtPoint incremental c (at.Copies copier) = AloneBlocking c copier copier.stands
  AloneAtPoint incremental c _ = TablesAlone incremental c

  -- a call of this caller stands there, and no other caller has a part in a copying
  pub record IsLone (incremental : Bool) (caller : ℕ) (c : Chart K) (stands : Calling) : Type 0 where
    pub idle : OthersIdle caller c
    pub point : AloneAtPoint incremental c stands

  -- no call of it is under way
  pub record AloneBetweenCalls (incremental : Bool) (caller : ℕ) (c : Chart K) : Type 0 where
    pub idle : OthersIdle caller c
    pub tables : TablesAlone incremental c

-- where a step of a call that is alone leads: it never waits, stands at a question where it asks, and gives its own pair back at its end alone
abbrev pub LeadsLone : {K V Q T : Type 0} → Bool → ℕ → Chart K → KeyCall K V Q × Called T → Type 0
LeadsLone incremental caller c (p, called.Goes) = IsLone incremental caller c p.stands
LeadsLone incremental caller c (p, called.Waits) = ⊥
LeadsLone incremental caller c (p, called.Gave value) = IsLone incremental caller c p.stands
LeadsLone incremental caller c (p, called.Unstored value) = IsLone incremental caller c p.stands × (end : End) × (p.stands ≡ at.Over end)
LeadsLone incremental caller c (p, called.Asks asked) = IsLone incremental caller c p.stands × (asks_at : Asking) × (p.stands ≡ at.Asks asks_at)
LeadsLone incremental caller c (p, called.Done answer) = AloneBetweenCalls incremental caller c
LeadsLone incremental caller c (p, called.Refused fault) = AloneBetweenCalls incremental caller c

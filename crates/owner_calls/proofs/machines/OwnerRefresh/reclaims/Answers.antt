-- Each block that is reclaimed is two steps of the refresh.
use Rattle.std.specs.Prelude.{◌≡◌}
use Rattle.std.proofs.Common.{ap, sym, subst}
use Rattle.owner_whole.specs.Strides.Ending.{Ends, Leads, none_taken}
use Rattle.owner_calls.specs.Owned.Machines.{refreshes_plan}
use Rattle.owner_calls.specs.declared.machines.OwnerRefresh.{OwnerRefresh}
use Rattle.owner_calls.proofs.Owned.Straight.{counting, counts_lead, counts_run}
use Rattle.owner_calls.proofs.machines.OwnerRefresh.reclaims.Given as given
use Rattle.owner_calls.proofs.machines.OwnerRefresh.reclaims.Goals as goal
use Rattle.owner_calls.proofs.machines.OwnerRefresh.reclaims.Goals.{In-Settles}

-- it counts its list down
here : (g : given.Over) (c : goal.In-Settles g) → c.args.self.now ≡ counting c.args.self.now c.in-Settles.settle
here g c = ap (λ s. record { leave = record c.args.self.now.leave { stands = s } }) c.in-Settles.is

pub returns-in_default : goal.returns-in_default
returns-in_default g c = none_taken _ _

pub reclaims-requires : goal.reclaims-requires
reclaims-requires g c =
    counts_run g.T.Defers.defers c.args.self.now c.in-Settles.settle c.args.memory.now
    (subst (λ (r : OwnerRefresh). Ends (refreshes_plan g.T.Defers.defers) r c.args.memory.now) (here g (goal.at.reclaims-requires g c).In-Settles) c.requires)

pub returns : goal.returns
returns g c =
    subst (λ (r : OwnerRefresh). Leads (refreshes_plan g.T.Defers.defers) r c.args.memory.now (counting c.args.self.now c.reclaims.new.settle) c.reclaims.new.memory)
    (sym (here g (goal.at.returns g c).In-Settles))
    (counts_lead g.T.Defers.defers c.args.self.now c.in-Settles.settle c.reclaims.new.settle c.args.memory.now c.reclaims.new.memory c.reclaims.ensures)

-- To which end a step comes whose outcome is turned into another one.
use Rattle.std.specs.Prelude.{◌≡◌, ℕ, Option}
use Rattle.seize_words.specs.OneMemory.Plan.{Plan, Turn, Do, plan_as}
use Rattle.threads_kinds.specs.CallKinds.Leads.{Leads}
use Rattle.threads_kinds.proofs.CallKinds.Plans.{ends_as}

pub leads_as : {T A B : Type 0} (f : A → B) (shown : ℕ → Option T) (plan : Plan T A) (end : B) → Leads shown (plan_as f plan) end → (e : A) × Leads shown plan e × (end ≡ f e)
leads_as f shown (Turn rest) end e = ends_as f shown rest end e
leads_as f shown (Do op rest) end e = let k = ends_as f shown (rest e.0) end e.2 in (k.0, (e.0, e.1, k.1), k.2)

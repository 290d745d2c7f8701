-- What straight code has made of a call on a key are steps of a run by the one owner.
use Rattle.std.specs.Prelude.{◌≡◌, ℕ, Bool, true, false, Ok, Option, Result}
use Rattle.std.proofs.Common.{refl, sym, subst}
use denote.Ref.{Bor}
use Rattle.seize_words.specs.OneMemory.Mem.{Mem, Can, Took, value_at}
use Rattle.seize_words.specs.OneMemory.Plan.{Plan, Steps}
use Rattle.seize_words.specs.declared.fault.Fault.{Fault}
use Rattle.seize_words.proofs.OneMemory.Plans.{may_as}
use Rattle.seize.proofs.StepsInto.{steps_into}
use Rattle.seize.specs.declared.advance.Advance.{Advance}
use Rattle.seize.specs.declared.advance.Advance.TheVariants as progress
use Rattle.seize.specs.Leave.{leave_plan, settled as leave_settled}
use Rattle.seize.specs.Settle.{settle_plan}
use Rattle.seize.specs.declared.rows.leave.Leaving.TheVariants as leaving
use Rattle.seize.specs.declared.rows.settle.Settle.{Settle}
use Rattle.seize.specs.declared.rows.settle.Settled.{Settled}
use Rattle.seize.specs.declared.rows.settle.Settled.TheVariants as settled
use Rattle.map_tables.specs.Nodes.{deferred_word}
use Rattle.map_tables.specs.declared.node.Node.{Node}
use Rattle.map_tables.specs.declared.table.Table.{Table}
use Rattle.map_straight.specs.Given.ResizeCopier.{copier_plan}
use Rattle.map_straight.specs.Given.ResizeDeclared.copier.Copier.{Copier}
use Rattle.map_straight.specs.Given.ResizeDeclared.dispose.Dispose.{Dispose}
use Rattle.map_straight.specs.Given.ResizeDeclared.yielding.Yielding.{Yielding}
use Rattle.map_straight.specs.Given.ResizeDeclared.yielding.Yielding.TheVariants as outcome
use Rattle.papaya_raw.specs.Call.{call_plan}
use Rattle.papaya_raw.specs.declared.machines.answer.Called.{Called}
use Rattle.papaya_raw.specs.declared.machines.answer.Called.TheVariants as called
use Rattle.papaya_raw.specs.declared.machines.answer.KeyAnswer.{KeyAnswer}
use Rattle.papaya_raw.specs.declared.machines.call.KeyCall.{KeyCall}
use Rattle.seize_straight.specs.Going.{DropGoes, DropLeads, MayDrop}
use Rattle.map_straight.specs.Straight.Going.{CallGoes, CopyGoes}
use Rattle.seize_straight.specs.Runs as Straight
use Rattle.seize_straight.specs.Runs.{MayRun}
use Rattle.seize_straight.proofs.Running.{by_law}
use Rattle.owner_whole.specs.Strides.Ending.{Ends, Leads, RunsTo, none_taken, one_more, stops}
use Rattle.owner_calls.specs.Owned.Inside.{has_ended, helping, retiring, takes_more}
use Rattle.owner_calls.specs.Owned.Machines.{on_call, on_key_after, on_key_plan, refreshes_after, refreshes_plan}
use Rattle.owner_calls.specs.declared.machines.OwnerRefresh.{OwnerRefresh}
use Rattle.owner_calls.specs.declared.machines.OnKey.{OnKey}
use Rattle.owner_calls.specs.declared.machines.Stop.{Stop}
use Rattle.owner_calls.specs.declared.machines.Stop.TheVariants as stop
use Rattle.owner_calls.proofs.Owned.Inner.{copier_may, helps_on, settle_may, settles_on}
use Rattle.owner_whole.proofs.Strides.Runs.Leading.{ends_along, runs_along}
use Rattle.owner_whole.proofs.Strides.Runs.Steps.{ends_on, may_step}

module _ {K V Q S : Type 0} (asks : Q → K → Bool) (same : K → K → Bool) (hashes : S → K → ℕ) (hasher : Bor S) where
  abbrev plan_of : OnKey K V Q S → Plan (Node K V) (OnKey K V Q S × Advance Stop)
  plan_of = on_key_plan asks same hashes

  abbrev call_steps : KeyCall K V Q → Plan (Node K V) (KeyCall K V Q × Called (Node K V))
  call_steps = call_plan asks same (hashes hasher.now)

  abbrev on : KeyCall K V Q → OnKey K V Q S
  on = on_call hasher

  goes_on : (c d : KeyCall K V Q) (m n : Mem (Node K V)) (told : Called (Node K V)) → CallGoes told → Steps Took value_at m (call_steps c) n (d, told)
      → Steps Took value_at m (plan_of (on c)) n (on d, progress.Goes)
  goes_on c d m n called.Goes so s = steps_into (on_key_after (on c)) Can Took value_at m n (call_steps c) (d, called.Goes) (on d, progress.Goes) refl s
  goes_on c d m n called.Waits so s = steps_into (on_key_after (on c)) Can Took value_at m n (call_steps c) (d, called.Waits) (on d, progress.Goes) refl s
  goes_on c d m n (called.Gave value) so s = absurd so
  goes_on c d m n (called.Unstored value) so s = absurd so
  goes_on c d m n (called.Asks asked) so s = absurd so
  goes_on c d m n (called.Done answer) so s = absurd so
  goes_on c d m n (called.Refused fault) so s = absurd so

  -- where each run of it comes to an end it may be run
  pub may_run : (c : KeyCall K V Q) (m : Mem (Node K V)) → Ends plan_of (on c) m → MayRun (CallGoes {T = Node K V}) Took value_at call_steps Can c m
  may_run =
      by_law CallGoes Took value_at call_steps Can (λ c m. Ends plan_of (on c) m)
      (λ c m ends. may_as (on_key_after (on c)) Can Took value_at m (call_steps c) (may_step plan_of (on c) m ends))
      (λ c m ends n d told so s. ends_on plan_of (on c) m ends n (on d) progress.Goes tt (goes_on c d m n told so s))

  leads_to : (c d : KeyCall K V Q) (m n : Mem (Node K V)) → Straight.Leads (CallGoes {T = Node K V}) Took value_at call_steps c m d n → Leads plan_of (on c) m (on d) n
  leads_to c d m n (Straight.none_taken _ _) = none_taken (on c) m
  leads_to c d m n (Straight.one_more _ _ x k l told so _ _ s) = one_more (on c) m (on x) k (leads_to c x m k l) progress.Goes tt (on d) n (goes_on x d k n told so s)

  -- where it has told an answer, a run has ended with that
  pub runs_out : (c : KeyCall K V Q) (m n : Mem (Node K V)) (answer : KeyAnswer) → Straight.EndsTelling (CallGoes {T = Node K V}) Took value_at call_steps c m n (called.Done answer)
      → (d : KeyCall K V Q) × RunsTo plan_of (on c) m (on d) n (Ok (stop.Answered answer))
  runs_out c m n answer (x, k, d, l, s, _) = (
    d,
    runs_along plan_of (on c) (on x) m k (leads_to c x m k l) (on d) n (Ok (stop.Answered answer))
        (stops (on x) k (on d) n (progress.Done (stop.Answered answer)) (Ok (stop.Answered answer))
        (steps_into (on_key_after (on x)) Can Took value_at k n (call_steps x) (d, called.Done answer) (on d, progress.Done (stop.Answered answer)) refl s) refl),
  )

  -- where it stands at a point, a run goes on from there
  module _ (c d : KeyCall K V Q) (m n : Mem (Node K V)) (l : Straight.Leads (CallGoes {T = Node K V}) Took value_at call_steps c m d n) where
    pub ends_there : Ends plan_of (on c) m → Ends plan_of (on d) n
    ends_there ends = ends_along plan_of (on c) (on d) m n (leads_to c d m n l) ends

    pub runs_there : (x : OnKey K V Q S) (k : Mem (Node K V)) (result : Result Stop Fault) → RunsTo plan_of (on d) n x k result → RunsTo plan_of (on c) m x k result
    runs_there x k result r = runs_along plan_of (on c) (on d) m n (leads_to c d m n l) x k result r

  -- the retirement of a pair, within a call
  module _ (u : OnKey K V Q S) (answer : KeyAnswer) (dispose : Dispose) where
    not_ended : (told : Settled (Node K V)) → DropGoes told → has_ended told ≡ false
    not_ended settled.Goes so = refl
    not_ended settled.Waits so = refl
    not_ended (settled.Gave value) so = refl
    not_ended settled.Done so = absurd so

    pub settles_run : (s : Settle) (m : Mem (Node K V)) → Ends plan_of (retiring u answer dispose s) m → MayDrop deferred_word Took value_at Can s m
    settles_run =
        by_law DropGoes Took value_at (settle_plan deferred_word) Can (λ s m. Ends plan_of (retiring u answer dispose s) m)
        (λ s m ends. settle_may asks same hashes m u answer dispose s ends)
        (λ s m ends n t told so x. ends_on plan_of (retiring u answer dispose s) m ends n (retiring u answer dispose t) progress.Goes tt
        (settles_on asks same hashes m u answer dispose s n t told (not_ended told so) x))

    pub settles_lead : (s t : Settle) (m n : Mem (Node K V)) → DropLeads deferred_word Took value_at s m t n → Leads plan_of (retiring u answer dispose s) m (retiring u answer dispose t) n
    settles_lead s t m n (Straight.none_taken _ _) = none_taken (retiring u answer dispose s) m
    settles_lead s t m n (Straight.one_more _ _ x k l told so _ _ y) =
        one_more (retiring u answer dispose s) m (retiring u answer dispose x) k (settles_lead s x m k l) progress.Goes tt (retiring u answer dispose t) n
        (settles_on asks same hashes k u answer dispose x n t told (not_ended told so) y)

  -- the help with a resize, within a call
  module _ (u : OnKey K V Q S) (goal : Table) where
    abbrev copier_steps : Copier → Plan (Node K V) (Copier × Yielding (Node K V) Table)
    copier_steps = copier_plan (hashes u.hasher.now)

    more_of : (told : Yielding (Node K V) Table) → CopyGoes told → takes_more told ≡ true
    more_of outcome.Goes so = refl
    more_of outcome.Waits so = refl
    more_of (outcome.Gave value) so = absurd so
    more_of (outcome.Done table) so = absurd so
    more_of (outcome.Refused fault) so = absurd so

    pub copies_run : (c : Copier) (m : Mem (Node K V)) → Ends plan_of (helping u goal c) m → MayRun (CopyGoes {T = Node K V} {A = Table}) Took value_at copier_steps Can c m
    copies_run =
        by_law CopyGoes Took value_at copier_steps Can (λ c m. Ends plan_of (helping u goal c) m) (λ c m ends. copier_may asks same hashes m u goal c ends)
        (λ c m ends n d told so s. ends_on plan_of (helping u goal c) m ends n (helping u goal d) progress.Goes tt (helps_on asks same hashes m u goal c n d told (more_of told so) s))

    pub copies_lead : (c d : Copier) (m n : Mem (Node K V)) → Straight.Leads (CopyGoes {T = Node K V} {A = Table}) Took value_at copier_steps c m d n
        → Leads plan_of (helping u goal c) m (helping u goal d) n
    copies_lead c d m n (Straight.none_taken _ _) = none_taken (helping u goal c) m
    copies_lead c d m n (Straight.one_more _ _ x k l told so _ _ s) =
        one_more (helping u goal c) m (helping u goal x) k (copies_lead c x m k l) progress.Goes tt (helping u goal d) n (helps_on asks same hashes k u goal x n d told (more_of told so) s)

-- so it is by another reference to the same hasher
pub places_on : {K V Q S : Type 0} (asks : Q → K → Bool) (same : K → K → Bool) (hashes : S → K → ℕ) (u : OnKey K V Q S) (goal : Table) (hasher : S) → u.hasher.now ≡ hasher
    → (c d : Copier) (m n : Mem (Node K V)) → Straight.Leads (CopyGoes {T = Node K V} {A = Table}) Took value_at (copier_plan (hashes hasher)) c m d n
    → Leads (on_key_plan asks same hashes) (helping u goal c) m (helping u goal d) n
places_on {K} {V} asks same hashes u goal hasher is c d m n l =
    copies_lead asks same hashes u.hasher u goal c d m n
    (subst (λ h. Straight.Leads (CopyGoes {T = Node K V} {A = Table}) Took value_at (copier_plan (hashes h)) c m d n) (sym is) l)

-- a refresh counts its list down
abbrev pub counting : OwnerRefresh → Settle → OwnerRefresh
counting r s = record { leave = record r.leave { stands = leaving.Settles s } }

module _ {T : Type 0} (defers : T → Option ℕ) (r : OwnerRefresh) where
  counts_on : (s t : Settle) (m n : Mem T) (told : Settled T) → DropGoes told → Steps Took value_at m (settle_plan defers s) n (t, told)
      → Steps Took value_at m (refreshes_plan defers (counting r s)) n (counting r t, progress.Goes)
  counts_on s t m n settled.Goes so x =
      steps_into (refreshes_after (counting r s)) Can Took value_at m n (leave_plan defers (counting r s).leave) (leave_settled (counting r s).leave (t, settled.Goes)) (counting r t, progress.Goes) refl
      (steps_into (leave_settled (counting r s).leave) Can Took value_at m n (settle_plan defers s) (t, settled.Goes) (leave_settled (counting r s).leave (t, settled.Goes)) refl x)
  counts_on s t m n settled.Waits so x =
      steps_into (refreshes_after (counting r s)) Can Took value_at m n (leave_plan defers (counting r s).leave) (leave_settled (counting r s).leave (t, settled.Waits)) (counting r t, progress.Goes) refl
      (steps_into (leave_settled (counting r s).leave) Can Took value_at m n (settle_plan defers s) (t, settled.Waits) (leave_settled (counting r s).leave (t, settled.Waits)) refl x)
  counts_on s t m n (settled.Gave value) so x =
      steps_into (refreshes_after (counting r s)) Can Took value_at m n (leave_plan defers (counting r s).leave) (leave_settled (counting r s).leave (t, settled.Gave value)) (counting r t, progress.Goes) refl
      (steps_into (leave_settled (counting r s).leave) Can Took value_at m n (settle_plan defers s) (t, settled.Gave value) (leave_settled (counting r s).leave (t, settled.Gave value)) refl x)
  counts_on s t m n settled.Done so x = absurd so

  pub counts_run : (s : Settle) (m : Mem T) → Ends (refreshes_plan defers) (counting r s) m → MayDrop defers Took value_at Can s m
  counts_run =
      by_law DropGoes Took value_at (settle_plan defers) Can (λ s m. Ends (refreshes_plan defers) (counting r s) m)
      (λ s m ends. may_as (leave_settled (counting r s).leave) Can Took value_at m (settle_plan defers s)
      (may_as (refreshes_after (counting r s)) Can Took value_at m (leave_plan defers (counting r s).leave) (may_step (refreshes_plan defers) (counting r s) m ends)))
      (λ s m ends n t told so x. ends_on (refreshes_plan defers) (counting r s) m ends n (counting r t) progress.Goes tt (counts_on s t m n told so x))

  pub counts_lead : (s t : Settle) (m n : Mem T) → DropLeads defers Took value_at s m t n → Leads (refreshes_plan defers) (counting r s) m (counting r t) n
  counts_lead s t m n (Straight.none_taken _ _) = none_taken (counting r s) m
  counts_lead s t m n (Straight.one_more _ _ x k l told so _ _ y) =
      one_more (counting r s) m (counting r x) k (counts_lead s x m k l) progress.Goes tt (counting r t) n (counts_on x t k n told so y)

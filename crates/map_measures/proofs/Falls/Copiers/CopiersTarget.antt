-- A copier of a whole table copies into the same one from its first step to its last, but where that is given up.
use Rattle.std.specs.Prelude.{◌≡◌, ℕ, ◌+◌, ◌%◌, ◌^◌, ◌-◌, ◌/◌, ◌==◌, Bool, true, false, nat_lt, Ok, Err, if◌then◌else◌}
use Rattle.std.proofs.Common.{refl}
use Rattle.seize_words.specs.OneMemory.Mem.{Mem, value_at, Took}
use Rattle.seize_words.specs.OneMemory.Op.{Out, Found, Stored, Exchanged, Made, Taken, Roomed}
use Rattle.seize_words.specs.OneMemory.Plan.{Then, Steps}
use Rattle.seize.specs.declared.advance.Advance.{Advance}
use Rattle.seize.specs.declared.advance.Advance.TheVariants as progress
use Rattle.seize.specs.declared.rows.settle.Settle.{Settle}
use Rattle.seize.specs.declared.rows.settle.Settled.{Settled}
use Rattle.seize.specs.declared.rows.settle.Settled.TheVariants as settled
use Rattle.seize.specs.Settle.{settle_plan}
use Rattle.seize_words.specs.declared.fault.Fault.{Fault}
use Rattle.map_tables.specs.Probes.{probe_after}
use Rattle.map_tables.specs.Chunks.{is_incremental}
use Rattle.map_tables.specs.Nodes.{deferred_word}
use Rattle.map_machines.specs.NewTable.{new_table_plan}
use Rattle.map_machines.specs.Copier.{plan_at, copier_plan}
use Rattle.map_machines.specs.CopierStates.{standing, behind, none_left, next_place, place_done}
use Rattle.map_machines.specs.CopierPlaces.{next_try, place_read, after_put}
use Rattle.map_machines.specs.CopierMarks.{is_mine, is_awaited, mine_marked, marked}
use Rattle.map_machines.specs.CopierClaims.{status_read, claim_read, claimed}
use Rattle.map_machines.specs.CopierCounts.{refusing, counted}
use Rattle.map_machines.specs.CopierFurther.{further_read, grown}
use Rattle.map_machines.specs.CopierPromotes.{promoted, table_retired, successor_read, retired}
use Rattle.map_tables.specs.declared.node.Node.{Node}
use Rattle.map_machines.specs.declared.yielding.Yielding.{Yielding}
use Rattle.map_tables.specs.declared.probe.Probe.{Probe}
use Rattle.map_tables.specs.declared.status.TheConstants.Status.{PROMOTED, ABORTED}
use Rattle.map_tables.specs.declared.table.Table.{Table}
use Rattle.map_machines.specs.declared.copier.Copier.{Copier}
use Rattle.map_machines.specs.declared.copier.Copying.{Copying}
use Rattle.map_machines.specs.declared.copier.Copying.TheVariants as at
use Rattle.map_machines.specs.declared.new_table.NewTable.{NewTable}
use Rattle.many_calls.proofs.Given.RuleKeys.Always.{Always, AlwaysOf, always_if, always_plan_as, always_steps}

-- it copies into the table that it has
abbrev pub keeps_target : Copying → Bool
keeps_target at.Begins = false
keeps_target at.Follows = false
keeps_target at.Replaces = false
keeps_target (at.Remakes making) = false
keeps_target _ = true

module _ (target : Table) where
  abbrev IsOf : Copier → Type 0
  IsOf p = p.target ≡ target

  either : (b : Bool) (x y : Copier) → IsOf x → IsOf y → IsOf (if b then x else y)
  either true x y f g = f
  either false x y f g = g

  module _ (p : Copier) (is : p.target ≡ target) where
    so_behind : IsOf (behind p)
    so_behind = either p.whole (record p { place = 0; end = 0; spent = is_incremental p.setting.mode; stands = at.Asks }) (standing p at.Over) is is

    so_none_left : IsOf (none_left p)
    so_none_left = either p.whole (record p { spent = true; stands = at.Asks }) (standing p at.Over) is is

    so_next_place : IsOf (next_place p)
    so_next_place =
        either (nat_lt p.place (p.end - 1)) (record p { place = p.place + 1; stands = at.Marks }) (if p.done == 0 then behind p else standing p at.Counts) is
        (either (p.done == 0) (behind p) (standing p at.Counts) so_behind is)

    so_refusing : (word : ℕ) (fault : Fault) → IsOf (refusing p word fault)
    so_refusing word fault = either (p.done == 0) (standing p (at.Unmarks word fault)) (standing p (at.Tallies word fault)) is is

    so_retired : (rest : ℕ) → IsOf (table_retired p rest)
    so_retired rest = either (rest == 0) (standing p at.Over) (standing p (at.Succeeds rest)) is is

  module _ (p : Copier) (is : p.target ≡ target) where
    so_place_done : IsOf (place_done p)
    so_place_done = so_next_place (record p { done = (p.done + 1) % 2 ^ 64 }) is

  module _ {K : Type 0} (V : Type 0) (hash : K → ℕ) where
    abbrev IsSo : Copier × Yielding (Node K V) Table → Type 0
    IsSo end = IsOf end.0

    abbrev So : Then (Node K V) (Copier × Yielding (Node K V) Table) → Type 0
    So rest = Always IsSo rest

    so_if : (b : Bool) (x y : Then (Node K V) (Copier × Yielding (Node K V) Table)) → So x → So y → So (if b then x else y)
    so_if b x y f g = always_if IsSo b x y f g

    -- what each operation's answer leads to
    module _ (p : Copier) (here : p.target ≡ target) where
      on_status : (out : Out (Node K V)) → So (status_read p out)
      on_status (Found status) = so_if (status == PROMOTED) _ _ here (so_if (status == ABORTED) _ _ here (so_if p.spent _ _ here here))
      on_status Stored = here
      on_status (Exchanged r) = here
      on_status (Made r) = here
      on_status (Taken value) = here
      on_status (Roomed r) = here

      on_claim : (out : Out (Node K V)) → So (claim_read p out)
      on_claim (Found claim) = so_if (nat_lt claim p.source.len) _ _ here (so_none_left p here)
      on_claim Stored = here
      on_claim (Exchanged r) = here
      on_claim (Made r) = here
      on_claim (Taken value) = here
      on_claim (Roomed r) = here

      on_claimed : (out : Out (Node K V)) → So (claimed p out)
      on_claimed (Found claim) = so_if (nat_lt claim p.source.len) _ _ here (so_none_left p here)
      on_claimed Stored = here
      on_claimed (Exchanged r) = here
      on_claimed (Made r) = here
      on_claimed (Taken value) = here
      on_claimed (Roomed r) = here

      on_marked : (out : Out (Node K V)) → So (marked hash p out)
      on_marked (Found word) =
          so_if (is_mine p word) (mine_marked hash p word) _
          (so_if (word / 2048 == 0) _ _ (so_place_done p here) (λ value. here))
          (so_if (is_awaited p word) _ _ here (so_next_place p here))
      on_marked Stored = here
      on_marked (Exchanged r) = here
      on_marked (Made r) = here
      on_marked (Taken value) = here
      on_marked (Roomed r) = here

      module _ (word code : ℕ) (table : Table) where
        so_next_try : (probe : Probe) → IsOf (next_try p word code table probe)
        so_next_try probe =
            either (nat_lt probe.len table.limit) (standing p (at.Probes word code table (probe_after probe (table.len - 1))))
            (if is_incremental p.setting.mode then standing p (at.Passes word code table) else record p { place = 0; end = 0; done = 0; stands = at.Aborts }) here
            (either (is_incremental p.setting.mode) (standing p (at.Passes word code table)) (record p { place = 0; end = 0; done = 0; stands = at.Aborts }) here here)

        on_place : (probe : Probe) (out : Out (Node K V)) → So (place_read p word code table probe out)
        on_place probe (Found found) = so_if (found == 0) _ _ here (so_next_try probe)
        on_place probe Stored = here
        on_place probe (Exchanged r) = here
        on_place probe (Made r) = here
        on_place probe (Taken value) = here
        on_place probe (Roomed r) = here

        on_put : (probe : Probe) (out : Out (Node K V)) → So (after_put p word code table probe out)
        on_put probe (Exchanged (Ok found)) = either (is_incremental p.setting.mode) (standing p (at.Covers word)) (place_done p) here (so_place_done p here)
        on_put probe (Exchanged (Err found)) = (so_next_try probe)
        on_put probe (Found found) = here
        on_put probe Stored = here
        on_put probe (Made r) = here
        on_put probe (Taken value) = here
        on_put probe (Roomed r) = here

        on_further : (out : Out (Node K V)) → So (further_read p word code table out)
        on_further (Found link) = so_if (link == 0) _ _ here (λ value. here)
        on_further Stored = here
        on_further (Exchanged r) = here
        on_further (Made r) = here
        on_further (Taken value) = here
        on_further (Roomed r) = here

      on_grown : (word code : ℕ) (end : NewTable × Advance Table) → IsSo (grown p word code end)
      on_grown word code (making, progress.Goes) = here
      on_grown word code (making, progress.Waits) = here
      on_grown word code (making, progress.Done table) = here
      on_grown word code (making, progress.Refused fault) = so_refusing p here word fault

      on_counted : (out : Out (Node K V)) → So (counted p out)
      on_counted (Found count) = so_if ((count + p.done) % 2 ^ 64 == p.source.len) _ _ here (so_behind (record p { done = 0 }) here)
      on_counted Stored = here
      on_counted (Exchanged r) = here
      on_counted (Made r) = here
      on_counted (Taken value) = here
      on_counted (Roomed r) = here

      on_promoted : (out : Out (Node K V)) → So (promoted p out)
      on_promoted (Exchanged (Ok found)) = here
      on_promoted (Exchanged (Err found)) = so_behind p here
      on_promoted (Found found) = here
      on_promoted Stored = here
      on_promoted (Made r) = here
      on_promoted (Taken value) = here
      on_promoted (Roomed r) = here

      on_successor : (table : ℕ) (out : Out (Node K V)) → So (successor_read p table out)
      on_successor table (Found link) = here
      on_successor table Stored = here
      on_successor table (Exchanged r) = here
      on_successor table (Made r) = here
      on_successor table (Taken value) = here
      on_successor table (Roomed r) = here

      on_retired : (rest : ℕ) (end : Settle × Settled (Node K V)) → IsSo (retired p rest end)
      on_retired rest (settle, settled.Goes) = here
      on_retired rest (settle, settled.Waits) = here
      on_retired rest (settle, settled.Gave value) = here
      on_retired rest (settle, settled.Done) = so_retired p here rest

      -- at each point
      target_at : (spot : Copying) → keeps_target spot ≡ true → AlwaysOf IsSo (plan_at hash p spot)
      target_at at.Begins keeps = absurd (cc keeps)
      target_at at.Follows keeps = absurd (cc keeps)
      target_at at.Asks keeps = on_status
      target_at at.Sees keeps = on_claim
      target_at at.Claims keeps = on_claimed
      target_at at.Marks keeps = on_marked
      target_at (at.Probes word code table probe) keeps = on_place word code table probe
      target_at (at.Puts word code table probe) keeps = on_put word code table probe
      target_at (at.Covers word) keeps = λ out. (so_place_done p here)
      target_at (at.Passes word code table) keeps = on_further word code table
      target_at (at.Grows word code making) keeps = always_plan_as IsSo (grown p word code) (on_grown word code) (new_table_plan making)
      target_at at.Aborts keeps = λ out. here
      target_at at.Replaces keeps = absurd (cc keeps)
      target_at (at.Remakes making) keeps = absurd (cc keeps)
      target_at at.Counts keeps = on_counted
      target_at (at.Tallies word fault) keeps = λ out. here
      target_at (at.Unmarks word fault) keeps = λ out. here
      target_at (at.Unclaims fault) keeps = λ out. here
      target_at at.Promotes keeps = on_promoted
      target_at at.Announces keeps = λ out. here
      target_at (at.Succeeds table) keeps = on_successor table
      target_at (at.Retires settle rest) keeps = always_plan_as IsSo (retired p rest) (on_retired rest) (settle_plan deferred_word settle)
      target_at at.Over keeps = here
      target_at (at.Refused fault) keeps = here

-- whatever its step comes to
pub target_stays : {K V : Type 0} (hash : K → ℕ) (p : Copier) (m m2 : Mem (Node K V)) (end : Copier × Yielding (Node K V) Table) → Steps Took value_at m (copier_plan hash p) m2 end
    → keeps_target p.stands ≡ true → end.0.target ≡ p.target
target_stays {K} {V} hash p m m2 end s keeps = always_steps (IsSo p.target V hash) m m2 (copier_plan hash p) end (target_at p.target V hash p refl p.stands keeps) s

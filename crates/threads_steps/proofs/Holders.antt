-- A copying that holds others up does so until it has let them on.
use Rattle.std.specs.Prelude.{◌≡◌, ℕ, suc, ◌<◌, ◌+◌, ◌-◌, ◌%◌, ◌^◌, ◌==◌, ◌||◌, Bool, true, false, nat_lt, Ok, Err, if◌then◌else◌}
use Rattle.std.proofs.Common.{refl, sym, subst, ap, arith}
use Rattle.std.proofs.lemmas.Bool.{ne_eqb}
use Rattle.seize_words.specs.OneMemory.Mem.{Mem, value_at, Took}
use Rattle.seize_words.specs.OneMemory.Op.{Out, Found, Stored, Exchanged, Made, Taken, Roomed}
use Rattle.seize_words.specs.OneMemory.Plan.{Then, Steps}
use Rattle.seize.specs.declared.advance.Advance.{Advance}
use Rattle.seize.specs.declared.advance.Advance.TheVariants as progress
use Rattle.seize_words.specs.declared.fault.Fault.{Fault}
use Rattle.map_tables.specs.Chunks.{is_incremental}
use Rattle.map_tables.specs.Probes.{probe_after}
use Rattle.map_tables.specs.declared.node.Node.{Node}
use Rattle.map_tables.specs.declared.probe.Probe.{Probe}
use Rattle.map_tables.specs.declared.table.Table.{Table}
use Rattle.map_machines.specs.declared.yielding.Yielding.{Yielding}
use Rattle.map_machines.specs.declared.new_table.NewTable.{NewTable}
use Rattle.map_machines.specs.declared.copier.Copier.{Copier}
use Rattle.map_machines.specs.declared.copier.Copying.{Copying}
use Rattle.map_machines.specs.declared.copier.Copying.TheVariants as at
use Rattle.map_machines.specs.Copier.{plan_at, copier_plan}
use Rattle.map_machines.specs.CopierStates.{standing, behind, place_done}
use Rattle.map_machines.specs.CopierPlaces.{next_try, pair_put, place_read, after_put}
use Rattle.map_machines.specs.CopierCounts.{refusing}
use Rattle.map_machines.specs.CopierFurther.{further_read, grown}
use Rattle.map_machines.specs.NewTable.{new_table_plan}
use Rattle.map_straight.proofs.Given.RuleKeys.Always.{Always, AlwaysOf, always_if, always_plan_as, always_steps}
use Rattle.threads_steps.specs.Waiting.{point_holds_up, copying_holds_up, copying_has_let_on, holds_up_or_has_let_on}

-- it holds others up, or has let them on
abbrev Says : Copier → Type 0
Says n = holds_up_or_has_let_on n ≡ true

either : (b : Bool) (x y : Copier) → Says x → Says y → Says (if b then x else y)
either true x y f g = f
either false x y f g = g

module _ (p : Copier) (inc : is_incremental p.setting.mode ≡ true) where
  -- at a point at which it holds others up in incremental mode
  up : (is_incremental p.setting.mode || false) ≡ true
  up = ap (λ b. b || false) inc

  up_done : suc p.done < 2 ^ 64 → Says (place_done p)
  up_done small =
      let q = record p { done = (p.done + 1) % 2 ^ 64 } in
      either (nat_lt p.place (p.end - 1)) (record q { place = p.place + 1; stands = at.Marks }) (if (p.done + 1) % 2 ^ 64 == 0 then behind q else standing q at.Counts) inc
      (subst (λ b. Says (if b then behind q else standing q at.Counts)) (sym some) inc)
    where
      some : ((p.done + 1) % 2 ^ 64 == 0) ≡ false
      some = ne_eqb ((p.done + 1) % 2 ^ 64) 0 (omega (arith, small))

  up_try : (word key : ℕ) (table : Table) (probe : Probe) → Says (next_try p word key table probe)
  up_try word key table probe =
      either (nat_lt probe.len table.limit) (standing p (at.Probes word key table (probe_after probe (table.len - 1))))
      (if is_incremental p.setting.mode then standing p (at.Passes word key table) else record p { place = 0; end = 0; done = 0; stands = at.Aborts }) up
      (either (is_incremental p.setting.mode) (standing p (at.Passes word key table)) (record p { place = 0; end = 0; done = 0; stands = at.Aborts }) up refl)

  up_put : (word : ℕ) → Says (pair_put p word)
  up_put word = subst (λ b. Says (if b then standing p (at.Covers word) else place_done p)) (sym inc) up

  up_refusing : (word : ℕ) (fault : Fault) → Says (refusing p word fault)
  up_refusing word fault = either (p.done == 0) (standing p (at.Unmarks word fault)) (standing p (at.Tallies word fault)) up up

module _ {K : Type 0} (V : Type 0) (hash : K → ℕ) (p : Copier) (small : suc p.done < 2 ^ 64) (here : Says p) where
  abbrev IsSo : Copier × Yielding (Node K V) Table → Type 0
  IsSo end = Says end.0

  abbrev So : Then (Node K V) (Copier × Yielding (Node K V) Table) → Type 0
  So rest = Always IsSo rest

  module _ (inc : is_incremental p.setting.mode ≡ true) where
    on_place : (word key : ℕ) (table : Table) (probe : Probe) (out : Out (Node K V)) → So (place_read p word key table probe out)
    on_place word key table probe (Found found) = always_if IsSo (found == 0) _ _ (up p inc) (up_try p inc word key table probe)
    on_place word key table probe Stored = here
    on_place word key table probe (Exchanged r) = here
    on_place word key table probe (Made r) = here
    on_place word key table probe (Taken value) = here
    on_place word key table probe (Roomed r) = here

    on_put : (word key : ℕ) (table : Table) (probe : Probe) (out : Out (Node K V)) → So (after_put p word key table probe out)
    on_put word key table probe (Exchanged (Ok found)) = up_put p inc word
    on_put word key table probe (Exchanged (Err found)) = up_try p inc word key table probe
    on_put word key table probe (Found found) = here
    on_put word key table probe Stored = here
    on_put word key table probe (Made r) = here
    on_put word key table probe (Taken value) = here
    on_put word key table probe (Roomed r) = here

    on_further : (word key : ℕ) (table : Table) (out : Out (Node K V)) → So (further_read p word key table out)
    on_further word key table (Found link) = always_if IsSo (link == 0) _ _ (up p inc) (λ value. up p inc)
    on_further word key table Stored = here
    on_further word key table (Exchanged r) = here
    on_further word key table (Made r) = here
    on_further word key table (Taken value) = here
    on_further word key table (Roomed r) = here

    on_grown : (word key : ℕ) (end : NewTable × Advance Table) → IsSo (grown p word key end)
    on_grown word key (making, progress.Goes) = up p inc
    on_grown word key (making, progress.Waits) = up p inc
    on_grown word key (making, progress.Done table) = up p inc
    on_grown word key (making, progress.Refused fault) = up_refusing p inc word fault

  -- at each point at which it holds others up
  lets_at : (stands : Copying) → point_holds_up (is_incremental p.setting.mode) stands ≡ true → AlwaysOf IsSo (plan_at hash p stands)
  lets_at (at.Probes word key table probe) inc = on_place inc word key table probe
  lets_at (at.Puts word key table probe) inc = on_put inc word key table probe
  lets_at (at.Covers word) inc = λ out. up_done p inc small
  lets_at (at.Passes word key table) inc = on_further inc word key table
  lets_at (at.Grows word key making) inc = always_plan_as IsSo (grown p word key) (on_grown inc word key) (new_table_plan making)
  lets_at (at.Tallies word fault) inc = λ out. up p inc
  lets_at (at.Unmarks word fault) inc = λ out. up p inc
  lets_at (at.Unclaims fault) inc = λ out. refl
  lets_at at.Aborts is = λ out. refl
  lets_at at.Announces is = λ out. refl
  lets_at at.Begins is = absurd (cc is)
  lets_at at.Follows is = absurd (cc is)
  lets_at at.Asks is = absurd (cc is)
  lets_at at.Sees is = absurd (cc is)
  lets_at at.Claims is = absurd (cc is)
  lets_at at.Marks is = absurd (cc is)
  lets_at at.Replaces is = absurd (cc is)
  lets_at (at.Remakes making) is = absurd (cc is)
  lets_at at.Counts is = absurd (cc is)
  lets_at at.Promotes is = absurd (cc is)
  lets_at (at.Succeeds table) is = absurd (cc is)
  lets_at (at.Retires settle rest) is = absurd (cc is)
  lets_at at.Over is = absurd (cc is)
  lets_at (at.Refused fault) is = absurd (cc is)

pub holders_let_on : {K : Type 0} (V : Type 0) (hash : K → ℕ) (p : Copier) (m m2 : Mem (Node K V)) (end : Copier × Yielding (Node K V) Table) → suc p.done < 2 ^ 64
    → copying_holds_up p ≡ true → Steps Took value_at m (copier_plan hash p) m2 end → holds_up_or_has_let_on end.0 ≡ true
holders_let_on {K} V hash p m m2 end small holds s =
    always_steps (IsSo V hash p small (ap (λ b. b || copying_has_let_on p) holds)) m m2 (copier_plan hash p) end
    (lets_at V hash p small (ap (λ b. b || copying_has_let_on p) holds) p.stands holds) s

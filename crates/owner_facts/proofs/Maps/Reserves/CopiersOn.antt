-- Where no table is to be retired, each step of a copier but the promotion leads to a point where none is, either; and what its target is like stays
-- so, where it goes to no further one.
use Rattle.std.specs.Prelude.{ℕ, ◌+◌, ◌-◌, ◌/◌, ◌%◌, ◌^◌, ◌==◌, Bool, true, false, nat_lt, Ok, Err, if◌then◌else◌}
use Rattle.many_maps.specs.Given.SeizeWordsMem.{Mem, value_at, Took}
use Rattle.many_maps.specs.Given.SeizeWordsOp.{Out, Found, Stored, Exchanged, Made, Taken, Roomed}
use Rattle.many_maps.specs.Given.SeizeWordsPlan.{Then, Steps}
use Rattle.many_maps.specs.Given.SeizeWordsDeclared.fault.Fault.{Fault}
use Rattle.many_maps.specs.Given.SeizeDeclared.advance.Advance.{Advance}
use Rattle.many_maps.specs.Given.SeizeDeclared.advance.Advance.TheVariants as progress
use Rattle.many_maps.specs.Given.TablesChunks.{is_incremental}
use Rattle.many_maps.specs.Given.ResizeNewTable.{new_table_plan}
use Rattle.many_maps.specs.Given.TablesProbes.{probe_after}
use Rattle.many_maps.specs.Given.ResizeCopier.{plan_at}
use Rattle.many_maps.specs.Given.ResizeCopierStates.{standing, behind, none_left, next_place, place_done}
use Rattle.many_maps.specs.Given.ResizeCopierPlaces.{next_try, place_read, after_put}
use Rattle.many_maps.specs.Given.ResizeCopierMarks.{is_mine, is_awaited, mine_marked, marked}
use Rattle.many_maps.specs.Given.ResizeCopierClaims.{root_read, next_read, status_read, claim_read, claimed}
use Rattle.many_maps.specs.Given.ResizeCopierCounts.{refusing, counted}
use Rattle.many_maps.specs.Given.ResizeCopierFurther.{further_read, grown, replacement_read, remade}
use Rattle.many_maps.specs.Given.TablesDeclared.node.Node.{Node}
use Rattle.many_maps.specs.Given.ResizeDeclared.yielding.Yielding.{Yielding}
use Rattle.many_maps.specs.Given.ResizeDeclared.yielding.Yielding.TheVariants as outcome
use Rattle.many_maps.specs.Given.TablesDeclared.probe.Probe.{Probe}
use Rattle.many_maps.specs.Given.TablesDeclared.status.TheConstants.Status.{PROMOTED, ABORTED}
use Rattle.many_maps.specs.Given.TablesDeclared.table.Table.{Table}
use Rattle.many_maps.specs.Given.ResizeDeclared.copier.Copier.{Copier}
use Rattle.many_maps.specs.Given.ResizeDeclared.copier.Copying.{Copying}
use Rattle.many_maps.specs.Given.ResizeDeclared.copier.Copying.TheVariants as at
use Rattle.many_maps.specs.Given.ResizeDeclared.new_table.NewTable.{NewTable}
use Rattle.many_maps.proofs.Given.RuleKeys.Always.{Always, AlwaysOf, always_if, always_plan_as, always_steps}

-- no table is to be retired
abbrev pub RetiresNone : Copying → Type 0
RetiresNone at.Announces = ⊥
RetiresNone (at.Succeeds table) = ⊥
RetiresNone (at.Retires settle rest) = ⊥
RetiresNone _ = Unit {0}

-- nor is one in the next step
abbrev pub PromotesNone : Copying → Type 0
PromotesNone at.Promotes = ⊥
PromotesNone stands = RetiresNone stands

-- it goes to a further table
abbrev pub Turns : Copying → Type 0
Turns at.Follows = Unit {0}
Turns at.Replaces = Unit {0}
Turns (at.Remakes making) = Unit {0}
Turns _ = ⊥

-- what is to be so of its target
module _ (Fits : Table → Type 0) where
  abbrev pub GoesOn : Copier → Type 0
  GoesOn p = RetiresNone p.stands × Fits p.target

  -- if it ends with a table, that is so of this one, too
  abbrev pub Gives : {T : Type 0} → Yielding T Table → Type 0
  Gives (outcome.Done table) = Fits table
  Gives _ = Unit {0}

  either : (b : Bool) (x y : Copier) → GoesOn x → GoesOn y → GoesOn (if b then x else y)
  either true x y f g = f
  either false x y f g = g

  module _ (p : Copier) (fits : Fits p.target) where
    pub on_behind : GoesOn (behind p)
    on_behind = either p.whole (record p { place = 0; end = 0; spent = is_incremental p.setting.mode; stands = at.Asks }) (standing p at.Over) (tt, fits) (tt, fits)

    on_none_left : GoesOn (none_left p)
    on_none_left = either p.whole (record p { spent = true; stands = at.Asks }) (standing p at.Over) (tt, fits) (tt, fits)

    on_next_place : GoesOn (next_place p)
    on_next_place =
        either (nat_lt p.place (p.end - 1)) (record p { place = p.place + 1; stands = at.Marks }) (if p.done == 0 then behind p else standing p at.Counts) (tt, fits)
        (either (p.done == 0) (behind p) (standing p at.Counts) on_behind (tt, fits))

    on_refusing : (word : ℕ) (fault : Fault) → GoesOn (refusing p word fault)
    on_refusing word fault = either (p.done == 0) (standing p (at.Unmarks word fault)) (standing p (at.Tallies word fault)) (tt, fits) (tt, fits)

  on_place_done : (p : Copier) → Fits p.target → GoesOn (place_done p)
  on_place_done p fits = on_next_place (record p { done = (p.done + 1) % 2 ^ 64 }) fits

  module _ {K : Type 0} (V : Type 0) (hash : K → ℕ) (p : Copier) (here : RetiresNone p.stands) (fits : Fits p.target) where
    abbrev EndsOn : Copier × Yielding (Node K V) Table → Type 0
    EndsOn end = GoesOn end.0 × Gives end.1

    abbrev On : Then (Node K V) (Copier × Yielding (Node K V) Table) → Type 0
    On rest = Always EndsOn rest

    on_if : (b : Bool) (x y : Then (Node K V) (Copier × Yielding (Node K V) Table)) → On x → On y → On (if b then x else y)
    on_if b x y f g = always_if EndsOn b x y f g

    -- what each operation's answer leads to
    on_root : (out : Out (Node K V)) → On (root_read p out)
    on_root (Found link) = λ value. ((tt, fits), tt)
    on_root Stored = ((here, fits), tt)
    on_root (Exchanged r) = ((here, fits), tt)
    on_root (Made r) = ((here, fits), tt)
    on_root (Taken value) = ((here, fits), tt)
    on_root (Roomed r) = ((here, fits), tt)

    on_status : (out : Out (Node K V)) → On (status_read p out)
    on_status (Found status) = on_if (status == PROMOTED) _ _ ((tt, fits), tt) (on_if (status == ABORTED) _ _ ((tt, fits), tt) (on_if p.spent _ _ ((here, fits), tt) ((tt, fits), tt)))
    on_status Stored = ((here, fits), tt)
    on_status (Exchanged r) = ((here, fits), tt)
    on_status (Made r) = ((here, fits), tt)
    on_status (Taken value) = ((here, fits), tt)
    on_status (Roomed r) = ((here, fits), tt)

    on_claim : (out : Out (Node K V)) → On (claim_read p out)
    on_claim (Found claim) = on_if (nat_lt claim p.source.len) _ _ ((tt, fits), tt) (on_none_left p fits, tt)
    on_claim Stored = ((here, fits), tt)
    on_claim (Exchanged r) = ((here, fits), tt)
    on_claim (Made r) = ((here, fits), tt)
    on_claim (Taken value) = ((here, fits), tt)
    on_claim (Roomed r) = ((here, fits), tt)

    on_claimed : (out : Out (Node K V)) → On (claimed p out)
    on_claimed (Found claim) = on_if (nat_lt claim p.source.len) _ _ ((tt, fits), tt) (on_none_left p fits, tt)
    on_claimed Stored = ((here, fits), tt)
    on_claimed (Exchanged r) = ((here, fits), tt)
    on_claimed (Made r) = ((here, fits), tt)
    on_claimed (Taken value) = ((here, fits), tt)
    on_claimed (Roomed r) = ((here, fits), tt)

    on_marked : (out : Out (Node K V)) → On (marked hash p out)
    on_marked (Found word) =
        on_if (is_mine p word) (mine_marked hash p word) _
        (on_if (word / 2048 == 0) _ _ (on_place_done p fits, tt) (λ value. ((tt, fits), tt)))
        (on_if (is_awaited p word) _ _ ((here, fits), tt) (on_next_place p fits, tt))
    on_marked Stored = ((here, fits), tt)
    on_marked (Exchanged r) = ((here, fits), tt)
    on_marked (Made r) = ((here, fits), tt)
    on_marked (Taken value) = ((here, fits), tt)
    on_marked (Roomed r) = ((here, fits), tt)

    module _ (word code : ℕ) (table : Table) where
      on_next_try : (probe : Probe) → GoesOn (next_try p word code table probe)
      on_next_try probe =
          either (nat_lt probe.len table.limit) (standing p (at.Probes word code table (probe_after probe (table.len - 1))))
          (if is_incremental p.setting.mode then standing p (at.Passes word code table) else record p { place = 0; end = 0; done = 0; stands = at.Aborts }) (tt, fits)
          (either (is_incremental p.setting.mode) (standing p (at.Passes word code table)) (record p { place = 0; end = 0; done = 0; stands = at.Aborts }) (tt, fits) (tt, fits))

      on_place : (probe : Probe) (out : Out (Node K V)) → On (place_read p word code table probe out)
      on_place probe (Found found) = on_if (found == 0) _ _ ((tt, fits), tt) (on_next_try probe, tt)
      on_place probe Stored = ((here, fits), tt)
      on_place probe (Exchanged r) = ((here, fits), tt)
      on_place probe (Made r) = ((here, fits), tt)
      on_place probe (Taken value) = ((here, fits), tt)
      on_place probe (Roomed r) = ((here, fits), tt)

      on_put : (probe : Probe) (out : Out (Node K V)) → On (after_put p word code table probe out)
      on_put probe (Exchanged (Ok found)) = (either (is_incremental p.setting.mode) (standing p (at.Covers word)) (place_done p) (tt, fits) (on_place_done p fits), tt)
      on_put probe (Exchanged (Err found)) = (on_next_try probe, tt)
      on_put probe (Found found) = ((here, fits), tt)
      on_put probe Stored = ((here, fits), tt)
      on_put probe (Made r) = ((here, fits), tt)
      on_put probe (Taken value) = ((here, fits), tt)
      on_put probe (Roomed r) = ((here, fits), tt)

      on_further : (out : Out (Node K V)) → On (further_read p word code table out)
      on_further (Found link) = on_if (link == 0) _ _ ((tt, fits), tt) (λ value. ((tt, fits), tt))
      on_further Stored = ((here, fits), tt)
      on_further (Exchanged r) = ((here, fits), tt)
      on_further (Made r) = ((here, fits), tt)
      on_further (Taken value) = ((here, fits), tt)
      on_further (Roomed r) = ((here, fits), tt)

    on_grown : (word code : ℕ) (end : NewTable × Advance Table) → EndsOn (grown p word code end)
    on_grown word code (making, progress.Goes) = ((tt, fits), tt)
    on_grown word code (making, progress.Waits) = ((tt, fits), tt)
    on_grown word code (making, progress.Done table) = ((tt, fits), tt)
    on_grown word code (making, progress.Refused fault) = (on_refusing p fits word fault, tt)

    on_counted : (out : Out (Node K V)) → On (counted p out)
    on_counted (Found count) = on_if ((count + p.done) % 2 ^ 64 == p.source.len) _ _ ((tt, fits), tt) (on_behind (record p { done = 0 }) fits, tt)
    on_counted Stored = ((here, fits), tt)
    on_counted (Exchanged r) = ((here, fits), tt)
    on_counted (Made r) = ((here, fits), tt)
    on_counted (Taken value) = ((here, fits), tt)
    on_counted (Roomed r) = ((here, fits), tt)

    -- to a further table
    module _ (any : (table : Table) → Fits table) where
      on_next : (out : Out (Node K V)) → On (next_read p out)
      on_next (Found link) = on_if (link == 0) _ _ ((tt, fits), tt) (λ value. ((tt, any _), tt))
      on_next Stored = ((here, fits), tt)
      on_next (Exchanged r) = ((here, fits), tt)
      on_next (Made r) = ((here, fits), tt)
      on_next (Taken value) = ((here, fits), tt)
      on_next (Roomed r) = ((here, fits), tt)

      on_replacement : (out : Out (Node K V)) → On (replacement_read p out)
      on_replacement (Found link) = on_if (link == 0) _ _ ((tt, fits), tt) (λ value. ((tt, any _), tt))
      on_replacement Stored = ((here, fits), tt)
      on_replacement (Exchanged r) = ((here, fits), tt)
      on_replacement (Made r) = ((here, fits), tt)
      on_replacement (Taken value) = ((here, fits), tt)
      on_replacement (Roomed r) = ((here, fits), tt)

      on_remade : (end : NewTable × Advance Table) → EndsOn (remade p end)
      on_remade (making, progress.Goes) = ((tt, fits), tt)
      on_remade (making, progress.Waits) = ((tt, fits), tt)
      on_remade (making, progress.Done table) = ((tt, any table), tt)
      on_remade (making, progress.Refused fault) = ((tt, fits), tt)

    -- at each point
    on_at : (stands : Copying) → PromotesNone stands → (Turns stands → (table : Table) → Fits table) → AlwaysOf EndsOn (plan_at hash p stands)
    on_at at.Begins none any = on_root
    on_at at.Follows none any = on_next (any tt)
    on_at at.Asks none any = on_status
    on_at at.Sees none any = on_claim
    on_at at.Claims none any = on_claimed
    on_at at.Marks none any = on_marked
    on_at (at.Probes word code table probe) none any = on_place word code table probe
    on_at (at.Puts word code table probe) none any = on_put word code table probe
    on_at (at.Covers word) none any = λ out. (on_place_done p fits, tt)
    on_at (at.Passes word code table) none any = on_further word code table
    on_at (at.Grows word code making) none any = always_plan_as EndsOn (grown p word code) (on_grown word code) (new_table_plan making)
    on_at at.Aborts none any = λ out. ((tt, fits), tt)
    on_at at.Replaces none any = on_replacement (any tt)
    on_at (at.Remakes making) none any = always_plan_as EndsOn (remade p) (on_remade (any tt)) (new_table_plan making)
    on_at at.Counts none any = on_counted
    on_at (at.Tallies word fault) none any = λ out. ((tt, fits), tt)
    on_at (at.Unmarks word fault) none any = λ out. ((tt, fits), tt)
    on_at (at.Unclaims fault) none any = λ out. ((tt, fits), tt)
    on_at at.Promotes none any = absurd none
    on_at at.Announces none any = absurd none
    on_at (at.Succeeds table) none any = absurd none
    on_at (at.Retires settle rest) none any = absurd none
    on_at at.Over none any = ((here, fits), fits)
    on_at (at.Refused fault) none any = ((here, fits), tt)

    pub copier_goes_on : (stands : Copying) → PromotesNone stands → (Turns stands → (table : Table) → Fits table) → (m m2 : Mem (Node K V)) (end : Copier × Yielding (Node K V) Table)
        → Steps Took value_at m (plan_at hash p stands) m2 end → GoesOn end.0 × Gives end.1
    copier_goes_on stands none any m m2 end s = always_steps EndsOn m m2 (plan_at hash p stands) end (on_at stands none any) s

-- A copier copies a whole table, or does not, from its first step to its last; and it has unlinked no table until it promotes one.
use Rattle.std.specs.Prelude.{◌≡◌, ℕ, ◌+◌, ◌%◌, ◌^◌, ◌-◌, ◌/◌, ◌==◌, Bool, true, false, nat_lt, Ok, Err, if◌then◌else◌}
use Rattle.std.proofs.Common.{◌⊎◌, inl, inr, refl}
use Rattle.map_rule.specs.Given.SeizeWordsMem.{Mem, value_at, Took}
use Rattle.map_rule.specs.Given.SeizeWordsOp.{Out, Found, Stored, Exchanged, Made, Taken, Roomed}
use Rattle.map_rule.specs.Given.SeizeWordsPlan.{Then, Steps}
use Rattle.papaya_raw.specs.Given.SeizeDeclared.advance.Advance.{Advance}
use Rattle.papaya_raw.specs.Given.SeizeDeclared.advance.Advance.TheVariants as progress
use Rattle.papaya_raw.specs.Given.SeizeDeclared.rows.settle.Settle.{Settle}
use Rattle.papaya_raw.specs.Given.SeizeDeclared.rows.settle.Settled.{Settled}
use Rattle.papaya_raw.specs.Given.SeizeDeclared.rows.settle.Settled.TheVariants as settled
use Rattle.papaya_raw.specs.Given.SeizeSettle.{settle_plan}
use Rattle.map_rule.specs.Given.SeizeWordsDeclared.fault.Fault.{Fault}
use Rattle.papaya_raw.specs.Given.TablesProbes.{probe_after}
use Rattle.papaya_raw.specs.Given.TablesChunks.{is_incremental}
use Rattle.papaya_raw.specs.Given.TablesNodes.{deferred_word}
use Rattle.map_rule.specs.Given.ResizeNewTable.{new_table_plan}
use Rattle.map_rule.specs.Given.ResizeCopier.{plan_at, copier_plan}
use Rattle.map_rule.specs.Given.ResizeCopierStates.{standing, behind, none_left, next_place, place_done}
use Rattle.map_rule.specs.Given.ResizeCopierPlaces.{next_try, place_read, after_put}
use Rattle.map_rule.specs.Given.ResizeCopierMarks.{is_mine, is_awaited, mine_marked, marked}
use Rattle.map_rule.specs.Given.ResizeCopierClaims.{root_read, next_read, status_read, claim_read, claimed}
use Rattle.map_rule.specs.Given.ResizeCopierCounts.{refusing, counted}
use Rattle.map_rule.specs.Given.ResizeCopierFurther.{further_read, grown, replacement_read, remade}
use Rattle.map_rule.specs.Given.ResizeCopierPromotes.{promoted, table_retired, successor_read, retired}
use Rattle.papaya_raw.specs.Given.TablesDeclared.node.Node.{Node}
use Rattle.map_rule.specs.Given.ResizeDeclared.yielding.Yielding.{Yielding}
use Rattle.papaya_raw.specs.Given.TablesDeclared.probe.Probe.{Probe}
use Rattle.papaya_raw.specs.Given.TablesDeclared.status.TheConstants.Status.{PROMOTED, ABORTED}
use Rattle.papaya_raw.specs.Given.TablesDeclared.table.Table.{Table}
use Rattle.map_rule.specs.Given.ResizeDeclared.copier.Copier.{Copier}
use Rattle.map_rule.specs.Given.ResizeDeclared.copier.Copying.{Copying}
use Rattle.map_rule.specs.Given.ResizeDeclared.copier.Copying.TheVariants as at
use Rattle.map_rule.specs.Given.ResizeDeclared.new_table.NewTable.{NewTable}
use Rattle.map_facts.specs.Unlinked.{has_unlinked}
use Rattle.map_facts.proofs.Steps.RootSteps.{is_promoting}
use Rattle.map_rule.proofs.Keys.Always.{Always, AlwaysOf, always_if, always_plan_as, always_steps}

module _ (whole may : Bool) where
  -- it copies a whole table, or does not, and has unlinked none, unless it may have
  abbrev IsOf : Copier → Type 0
  IsOf p = (p.whole ≡ whole) × ((may ≡ true) ⊎ (has_unlinked p.stands ≡ false))

  either : (b : Bool) (x y : Copier) → IsOf x → IsOf y → IsOf (if b then x else y)
  either true x y f g = f
  either false x y f g = g

  module _ (p : Copier) (is : p.whole ≡ whole) where
    so_behind : IsOf (behind p)
    so_behind = either p.whole (record p { place = 0; end = 0; spent = is_incremental p.setting.mode; stands = at.Asks }) (standing p at.Over) (is, inr refl) (is, inr refl)

    so_none_left : IsOf (none_left p)
    so_none_left = either p.whole (record p { spent = true; stands = at.Asks }) (standing p at.Over) (is, inr refl) (is, inr refl)

    so_next_place : IsOf (next_place p)
    so_next_place =
        either (nat_lt p.place (p.end - 1)) (record p { place = p.place + 1; stands = at.Marks }) (if p.done == 0 then behind p else standing p at.Counts) (is, inr refl)
        (either (p.done == 0) (behind p) (standing p at.Counts) so_behind (is, inr refl))

    so_refusing : (word : ℕ) (fault : Fault) → IsOf (refusing p word fault)
    so_refusing word fault = either (p.done == 0) (standing p (at.Unmarks word fault)) (standing p (at.Tallies word fault)) (is, inr refl) (is, inr refl)

    so_retired : may ≡ true → (rest : ℕ) → IsOf (table_retired p rest)
    so_retired m rest = either (rest == 0) (standing p at.Over) (standing p (at.Succeeds rest)) (is, inl m) (is, inl m)

  module _ (p : Copier) (is : p.whole ≡ whole) where
    so_place_done : IsOf (place_done p)
    so_place_done = so_next_place (record p { done = (p.done + 1) % 2 ^ 64 }) is

  module _ {K : Type 0} (V : Type 0) (hash : K → ℕ) where
    abbrev IsSo : Copier × Yielding (Node K V) Table → Type 0
    IsSo end = IsOf end.0

    abbrev So : Then (Node K V) (Copier × Yielding (Node K V) Table) → Type 0
    So rest = Always IsSo rest

    so_if : (b : Bool) (x y : Then (Node K V) (Copier × Yielding (Node K V) Table)) → So x → So y → So (if b then x else y)
    so_if b x y f g = always_if IsSo b x y f g

    -- what each operation's answer leads to
    module _ (p : Copier) (here : IsOf p) where
      on : (p.whole ≡ whole) × ((may ≡ true) ⊎ (false ≡ false))
      on = (here.0, inr refl)

      on_root : (out : Out (Node K V)) → So (root_read p out)
      on_root (Found link) = λ value. on
      on_root Stored = here
      on_root (Exchanged r) = here
      on_root (Made r) = here
      on_root (Taken value) = here
      on_root (Roomed r) = here

      on_next : (out : Out (Node K V)) → So (next_read p out)
      on_next (Found link) = so_if (link == 0) _ _ on (λ value. on)
      on_next Stored = here
      on_next (Exchanged r) = here
      on_next (Made r) = here
      on_next (Taken value) = here
      on_next (Roomed r) = here

      on_status : (out : Out (Node K V)) → So (status_read p out)
      on_status (Found status) = so_if (status == PROMOTED) _ _ on (so_if (status == ABORTED) _ _ on (so_if p.spent _ _ here on))
      on_status Stored = here
      on_status (Exchanged r) = here
      on_status (Made r) = here
      on_status (Taken value) = here
      on_status (Roomed r) = here

      on_claim : (out : Out (Node K V)) → So (claim_read p out)
      on_claim (Found claim) = so_if (nat_lt claim p.source.len) _ _ on (so_none_left p here.0)
      on_claim Stored = here
      on_claim (Exchanged r) = here
      on_claim (Made r) = here
      on_claim (Taken value) = here
      on_claim (Roomed r) = here

      on_claimed : (out : Out (Node K V)) → So (claimed p out)
      on_claimed (Found claim) = so_if (nat_lt claim p.source.len) _ _ on (so_none_left p here.0)
      on_claimed Stored = here
      on_claimed (Exchanged r) = here
      on_claimed (Made r) = here
      on_claimed (Taken value) = here
      on_claimed (Roomed r) = here

      on_marked : (out : Out (Node K V)) → So (marked hash p out)
      on_marked (Found word) =
          so_if (is_mine p word) (mine_marked hash p word) _
          (so_if (word / 2048 == 0) _ _ (so_place_done p here.0) (λ value. on))
          (so_if (is_awaited p word) _ _ here (so_next_place p here.0))
      on_marked Stored = here
      on_marked (Exchanged r) = here
      on_marked (Made r) = here
      on_marked (Taken value) = here
      on_marked (Roomed r) = here

      module _ (word code : ℕ) (table : Table) where
        so_next_try : (probe : Probe) → IsOf (next_try p word code table probe)
        so_next_try probe =
            either (nat_lt probe.len table.limit) (standing p (at.Probes word code table (probe_after probe (table.len - 1))))
            (if is_incremental p.setting.mode then standing p (at.Passes word code table) else record p { place = 0; end = 0; done = 0; stands = at.Aborts }) on
            (either (is_incremental p.setting.mode) (standing p (at.Passes word code table)) (record p { place = 0; end = 0; done = 0; stands = at.Aborts }) on on)

        on_place : (probe : Probe) (out : Out (Node K V)) → So (place_read p word code table probe out)
        on_place probe (Found found) = so_if (found == 0) _ _ on (so_next_try probe)
        on_place probe Stored = here
        on_place probe (Exchanged r) = here
        on_place probe (Made r) = here
        on_place probe (Taken value) = here
        on_place probe (Roomed r) = here

        on_put : (probe : Probe) (out : Out (Node K V)) → So (after_put p word code table probe out)
        on_put probe (Exchanged (Ok found)) = either (is_incremental p.setting.mode) (standing p (at.Covers word)) (place_done p) on (so_place_done p here.0)
        on_put probe (Exchanged (Err found)) = so_next_try probe
        on_put probe (Found found) = here
        on_put probe Stored = here
        on_put probe (Made r) = here
        on_put probe (Taken value) = here
        on_put probe (Roomed r) = here

        on_further : (out : Out (Node K V)) → So (further_read p word code table out)
        on_further (Found link) = so_if (link == 0) _ _ on (λ value. on)
        on_further Stored = here
        on_further (Exchanged r) = here
        on_further (Made r) = here
        on_further (Taken value) = here
        on_further (Roomed r) = here

      on_grown : (word code : ℕ) (end : NewTable × Advance Table) → IsSo (grown p word code end)
      on_grown word code (making, progress.Goes) = on
      on_grown word code (making, progress.Waits) = on
      on_grown word code (making, progress.Done table) = on
      on_grown word code (making, progress.Refused fault) = so_refusing p here.0 word fault

      on_replacement : (out : Out (Node K V)) → So (replacement_read p out)
      on_replacement (Found link) = so_if (link == 0) _ _ on (λ value. on)
      on_replacement Stored = here
      on_replacement (Exchanged r) = here
      on_replacement (Made r) = here
      on_replacement (Taken value) = here
      on_replacement (Roomed r) = here

      on_remade : (end : NewTable × Advance Table) → IsSo (remade p end)
      on_remade (making, progress.Goes) = on
      on_remade (making, progress.Waits) = on
      on_remade (making, progress.Done table) = on
      on_remade (making, progress.Refused fault) = on

      on_counted : (out : Out (Node K V)) → So (counted p out)
      on_counted (Found count) = so_if ((count + p.done) % 2 ^ 64 == p.source.len) _ _ on (so_behind (record p { done = 0 }) here.0)
      on_counted Stored = here
      on_counted (Exchanged r) = here
      on_counted (Made r) = here
      on_counted (Taken value) = here
      on_counted (Roomed r) = here

      on_promoted : may ≡ true → (out : Out (Node K V)) → So (promoted p out)
      on_promoted m (Exchanged (Ok found)) = (here.0, inl m)
      on_promoted m (Exchanged (Err found)) = so_behind p here.0
      on_promoted m (Found found) = here
      on_promoted m Stored = here
      on_promoted m (Made r) = here
      on_promoted m (Taken value) = here
      on_promoted m (Roomed r) = here

      on_successor : may ≡ true → (table : ℕ) (out : Out (Node K V)) → So (successor_read p table out)
      on_successor m table (Found link) = (here.0, inl m)
      on_successor m table Stored = here
      on_successor m table (Exchanged r) = here
      on_successor m table (Made r) = here
      on_successor m table (Taken value) = here
      on_successor m table (Roomed r) = here

      on_retired : may ≡ true → (rest : ℕ) (end : Settle × Settled (Node K V)) → IsSo (retired p rest end)
      on_retired m rest (settle, settled.Goes) = (here.0, inl m)
      on_retired m rest (settle, settled.Waits) = (here.0, inl m)
      on_retired m rest (settle, settled.Gave value) = (here.0, inl m)
      on_retired m rest (settle, settled.Done) = so_retired p here.0 m rest

      -- at each point
      whole_at : (stands : Copying) → (has_unlinked stands ≡ true → may ≡ true) → (is_promoting stands ≡ true → may ≡ true) → AlwaysOf IsSo (plan_at hash p stands)
      whole_at at.Begins unlinks promotes = on_root
      whole_at at.Follows unlinks promotes = on_next
      whole_at at.Asks unlinks promotes = on_status
      whole_at at.Sees unlinks promotes = on_claim
      whole_at at.Claims unlinks promotes = on_claimed
      whole_at at.Marks unlinks promotes = on_marked
      whole_at (at.Probes word code table probe) unlinks promotes = on_place word code table probe
      whole_at (at.Puts word code table probe) unlinks promotes = on_put word code table probe
      whole_at (at.Covers word) unlinks promotes = λ out. so_place_done p here.0
      whole_at (at.Passes word code table) unlinks promotes = on_further word code table
      whole_at (at.Grows word code making) unlinks promotes = always_plan_as IsSo (grown p word code) (on_grown word code) (new_table_plan making)
      whole_at at.Aborts unlinks promotes = λ out. on
      whole_at at.Replaces unlinks promotes = on_replacement
      whole_at (at.Remakes making) unlinks promotes = always_plan_as IsSo (remade p) on_remade (new_table_plan making)
      whole_at at.Counts unlinks promotes = on_counted
      whole_at (at.Tallies word fault) unlinks promotes = λ out. on
      whole_at (at.Unmarks word fault) unlinks promotes = λ out. on
      whole_at (at.Unclaims fault) unlinks promotes = λ out. on
      whole_at at.Promotes unlinks promotes = on_promoted (promotes refl)
      whole_at at.Announces unlinks promotes = λ out. (here.0, inl (unlinks refl))
      whole_at (at.Succeeds table) unlinks promotes = on_successor (unlinks refl) table
      whole_at (at.Retires settle rest) unlinks promotes = always_plan_as IsSo (retired p rest) (on_retired (unlinks refl) rest) (settle_plan deferred_word settle)
      whole_at at.Over unlinks promotes = here
      whole_at (at.Refused fault) unlinks promotes = here

module _ {K V : Type 0} (hash : K → ℕ) where
  -- whatever its step comes to
  pub whole_stays : (p : Copier) (m m2 : Mem (Node K V)) (end : Copier × Yielding (Node K V) Table) → Steps Took value_at m (copier_plan hash p) m2 end
      → end.0.whole ≡ p.whole
  whole_stays p m m2 end s =
      (always_steps (IsSo p.whole true V hash) m m2 (copier_plan hash p) end (whole_at p.whole true V hash p (refl, inl refl) p.stands (λ e. refl) (λ e. refl)) s).0

  -- it unlinks no table, but by a promotion
  pub unlinks_none : (p : Copier) (m m2 : Mem (Node K V)) (end : Copier × Yielding (Node K V) Table) → Steps Took value_at m (copier_plan hash p) m2 end
      → has_unlinked p.stands ≡ false → is_promoting p.stands ≡ false → has_unlinked end.0.stands ≡ false
  unlinks_none p m m2 end s none other =
      by (always_steps (IsSo p.whole false V hash) m m2 (copier_plan hash p) end
      (whole_at p.whole false V hash p (refl, inr none) p.stands (λ e. absurd (cc (e, none))) (λ e. absurd (cc (e, other)))) s).1
    where
      by : (false ≡ true) ⊎ (has_unlinked end.0.stands ≡ false) → has_unlinked end.0.stands ≡ false
      by (inl e) = absurd (cc e)
      by (inr e) = e

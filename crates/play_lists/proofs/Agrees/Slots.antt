-- Where rows begin, and step, the guards that are there then are those of the slots within sections.
use Rattle.std.specs.Prelude.{◌≢◌, ◌⊎◌, ◌==◌, ◌+◌, Bool, true, false, Option, Some, if◌then◌else◌}
use Rattle.std.proofs.Common.{◌≡◌, ℕ, List, [], ◌∷◌, ◌++◌, inl, inr, refl, ap, sym, subst, ◌∙◌}
use Rattle.std.proofs.lemmas.Bool.{cases_eq}
use Rattle.seize.specs.World.{World, Begins as BeginsSo, Vacant, Outside, Inside, Changing, IsInside, Use, Steps', one_more, with_at}
use Rattle.seize.specs.declared.rows.leave.Leave.{Leave}
use Rattle.seize.specs.declared.rows.leave.Leaving.{Leaving}
use Rattle.seize.specs.declared.rows.leave.Leaving.TheVariants as leaves
use Rattle.seize.specs.declared.rows.register.Register.{Register}
use Rattle.seize.specs.declared.rows.register.Registering.{Registering}
use Rattle.seize.specs.declared.rows.register.Registering.TheVariants as registers
use Rattle.seize.specs.declared.states.TheConstants.{ACTIVE}
use Rattle.map_tables.specs.Nodes.{deferred_word}
use Rattle.map_tables.specs.declared.node.Node.{Node}
use Rattle.many_acts.specs.Given.CallersRows.{IsUsedAlike}
use Rattle.many_acts.proofs.Given.CallersTogether.At.{at_other, at_same}
use Rattle.seize_acts.proofs.Given.SeizeAloneHistories.Reached.{Reached}
use Rattle.seize_acts.proofs.Given.SeizeAloneHistories.Uses.{inside_kept, inside_shared}
use Rattle.seize_acts.proofs.Given.SeizeRuleRows.Known.{leaving_on, works_on}
use Rattle.seize_acts.proofs.Given.SeizeRuleRows.Teams.{is_shared, shares}
use Rattle.many_acts.specs.Given.ScenesRows.{begun_row, request_of}
use Rattle.many_acts.specs.Given.ScenesScene.{row_of}
use Rattle.many_acts.specs.Given.ScenesDeclared.row.SlotCall.{SlotCall}
use Rattle.many_acts.specs.Given.ScenesDeclared.row.SlotCall.TheVariants as call
use Rattle.many_acts.specs.Given.ScenesDeclared.row.SlotRow.{SlotRow}
use Rattle.many_acts.specs.Given.ScenesDeclared.row.SlotRow.TheVariants as rows
use Rattle.run_schedules.specs.Runs.Present.{Present}
use Rattle.run_schedules.specs.declared.holders.NamedGuard.{NamedGuard}
use Rattle.run_schedules.specs.Deeds.Deeds.{Leaves, Opens, moment, there_on}
use Rattle.play_lists.specs.Played.Play.{State, leaves_as, registers_as, row_deed}
use Rattle.play_lists.specs.Agrees.Guards.{GuardsAgree, GuardsAre, IsLeaving, IsOpen, guard_on}
use Rattle.play_lists.proofs.Agrees.Opens.{opened, same_guards, shut}
use Rattle.play_lists.proofs.Agrees.Rows.{InsideBy, StaysInside, outside_at}
use Rattle.run_finds.proofs.Given.CallersTogether.Handed.{more_inside as inside_more, more_back as more_inside}
use Rattle.run_finds.proofs.Given.General.{same_some}

-- Slots that are in use alike

alike_same : (u v : Use) → v ≡ u → IsUsedAlike u v
alike_same Vacant v e = e
alike_same (Outside n) v e = (n, e)
alike_same (Inside n) v e = (n, e)
alike_same Changing v e = e

alike_on : (u v : Use) → IsUsedAlike u v → IsInside u → IsInside v
alike_on Vacant v is in_it = absurd in_it
alike_on (Outside n) v is in_it = absurd in_it
alike_on (Inside n) v (k, is) in_it = subst IsInside (sym is) tt
alike_on Changing v is in_it = absurd in_it

alike_back : (u v : Use) → IsUsedAlike u v → IsInside v → IsInside u
alike_back Vacant v is in_it = subst IsInside is in_it
alike_back (Outside n) v (k, is) in_it = absurd (subst IsInside is in_it)
alike_back (Inside n) v is in_it = tt
alike_back Changing v is in_it = subst IsInside is in_it

module _ {K V S : Type 0} (x : State K V S) (uses : ℕ → Use) (here : GuardsAgree x uses) where
  -- Rows are as they were, slots are in use alike, and the same guards are there.
  pub quiet : (y : State K V S) (uses2 : ℕ → Use) → y.now.rows ≡ x.now.rows → ((t : ℕ) → IsUsedAlike (uses t) (uses2 t)) → (moment y.history).there ≡ (moment x.history).there → GuardsAgree y uses2
  quiet y uses2 rows_are alike there_is =
      subst (λ (there : Present). GuardsAre y.now.rows uses2 there.guards) (sym there_is)
      (same_guards x.now.rows y.now.rows uses uses2 (moment x.history).there.guards here on (λ t in_it. alike_back (uses t) (uses2 t) (alike t) in_it))
    where
      on : (t : ℕ) → IsOpen x.now.rows uses t → IsOpen y.now.rows uses2 t
      on t (inl in_it) = inl (alike_on (uses t) (uses2 t) (alike t) in_it)
      on t (inr (j, c, has, at, is)) = inr (j, c, ap (λ (f : ℕ → Option SlotRow). f j) rows_are ∙ has, at, is)

  -- nothing has happened to slots
  pub still : (y : State K V S) (w : World (Node K V)) → y.now.rows ≡ x.now.rows → w.uses ≡ uses → (moment y.history).there ≡ (moment x.history).there → GuardsAgree y w.uses
  still y w rows_are same there_is = quiet y w.uses rows_are (λ t. alike_same (uses t) (w.uses t) (ap (λ (f : ℕ → Use). f t) same)) there_is

  -- The row of one caller steps, in a world of these slots.
  module _ (i : ℕ) (w w2 : World (Node K V)) (size : ℕ) (reached : Reached deferred_word size w) (uses_are : w.uses ≡ uses) (row : SlotRow) (has_row : x.now.rows i ≡ Some row)
      (its : w.row i ≡ row_of row) (step : Steps' deferred_word i (w.row i) w w2) (next : Option SlotRow) where
    abbrev rows2 : ℕ → Option SlotRow
    rows2 = with_at x.now.rows i next

    abbrev guards : List NamedGuard
    guards = (moment x.history).there.guards

    kept : (t : ℕ) → IsInside (uses t) → IsInside (w2.uses t)
    kept t in_it = inside_kept deferred_word size w reached i w2 step t (subst (λ (f : ℕ → Use). IsInside (f t)) (sym uses_are) in_it)

    -- sections go on, unless the row is the one that ends them
    on_unless : (t : ℕ) → ((c : Leave) → row ≡ rows.Leaves c → c.stands ≡ leaves.Swaps → c.slot ≡ t → ⊥) → IsOpen x.now.rows uses t → IsOpen rows2 w2.uses t
    on_unless t not (inl in_it) = inl (kept t in_it)
    on_unless t not (inr (j, c, has, at, is)) = by (cases_eq j i)
      where
        by : (j ≡ i) ⊎ (j ≢ i) → IsOpen rows2 w2.uses t
        by (inl e) = absurd (not c (same_some row (rows.Leaves c) (sym has_row ∙ sym (ap x.now.rows e) ∙ has)) at is)
        by (inr ne) = inr (j, c, at_other x.now.rows i next j ne ∙ has, at, is)

    module _ (by : InsideBy uses w2.uses (row_deed {K = K} {V = V} row)) where
      abbrev Goal : SlotRow → Type 0
      Goal r = InsideBy uses w2.uses (row_deed {K = K} {V = V} r) → row ≡ r → GuardsAre rows2 w2.uses (there_on (row_deed {K = K} {V = V} r) (moment x.history).there).guards

      quietly : ((c : Leave) → row ≡ rows.Leaves c → c.stands ≡ leaves.Swaps → ⊥) → StaysInside uses w2.uses → GuardsAre rows2 w2.uses guards
      quietly not stays = same_guards x.now.rows rows2 uses w2.uses guards here (λ t. on_unless t (λ c is at on. not c is at)) stays

      begins : (t : ℕ) → ((c : Leave) → row ≡ rows.Leaves c → c.stands ≡ leaves.Swaps → ⊥) → InsideBy uses w2.uses {K = K} {V = V} (Opens t) → GuardsAre rows2 w2.uses (guards ++ guard_on t ∷ [])
      begins t not so = opened x.now.rows rows2 uses w2.uses guards here t (λ s. on_unless s (λ c is at on. not c is at)) so.0 so.1

      registers_so : (c : Register) (stands : Registering) → row ≡ rows.Registers c → InsideBy uses w2.uses (registers_as {K = K} {V = V} stands c.slot)
          → GuardsAre rows2 w2.uses (there_on (registers_as {K = K} {V = V} stands c.slot) (moment x.history).there).guards
      registers_so c registers.Enter is so = begins c.slot (λ d other. absurd (cc (is, other))) so
      registers_so c registers.Begin is so = quietly (λ d other. absurd (cc (is, other))) so
      registers_so c registers.Look is so = quietly (λ d other. absurd (cc (is, other))) so
      registers_so c (registers.Widen bucket seen) is so = quietly (λ d other. absurd (cc (is, other))) so
      registers_so c (registers.Take seen) is so = quietly (λ d other. absurd (cc (is, other))) so
      registers_so c registers.Registered is so = quietly (λ d other. absurd (cc (is, other))) so
      registers_so c (registers.Refused fault) is so = quietly (λ d other. absurd (cc (is, other))) so

      module _ (c : Leave) (is : row ≡ rows.Leaves c) where
        one : (d : Leave) → row ≡ rows.Leaves d → c ≡ d
        one d other = cc (is, other)

        past : (stands : Leaving) → c.stands ≡ stands → (stands ≡ leaves.Swaps → ⊥) → (d : Leave) → row ≡ rows.Leaves d → d.stands ≡ leaves.Swaps → ⊥
        past stands at not d other swaps = not (sym at ∙ ap (λ (l : Leave). l.stands) (one d other) ∙ swaps)

        -- the section ends: nobody else is within it, as the row works on its slot alone
        ends : c.stands ≡ leaves.Swaps → StaysInside uses w2.uses → (t : ℕ) → IsInside (w2.uses t) → IsInside (uses t) × (t ≢ c.slot)
        ends at stays t in_it = (stays t in_it, alone)
          where
            works : works_on (w.row i) ≡ c.slot + 1
            works = ap works_on (its ∙ ap row_of is) ∙ ap (leaving_on c.slot c.frees) at

            alone : t ≢ c.slot
            alone e =
                let kinds : shares (w.row i) ≡ is_shared (w.uses c.slot) = reached.good.used.kinds i c.slot works in
                let not : shares (w.row i) ≡ false = ap shares (its ∙ ap row_of is) in
                let shared : is_shared (w.uses c.slot) ≡ true = inside_shared (w.uses c.slot) (subst (λ (f : ℕ → Use). IsInside (f c.slot)) (sym uses_are) (subst (λ (k : ℕ). IsInside (uses k)) e (stays t in_it))) in
                cc (sym not ∙ kinds, shared)

        leaves_so : (stands : Leaving) → c.stands ≡ stands → InsideBy uses w2.uses (leaves_as {K = K} {V = V} c stands)
            → GuardsAre rows2 w2.uses (there_on (leaves_as {K = K} {V = V} c stands) (moment x.history).there).guards
        leaves_so leaves.Swaps at so =
            shut x.now.rows rows2 uses w2.uses guards here c.slot (λ t ne. on_unless t (λ d other swaps on. ne (sym on ∙ sym (ap (λ (l : Leave). l.slot) (one d other))))) (ends at so)
        leaves_so (leaves.Settles settle) at so = quietly (past (leaves.Settles settle) at (λ e. cc e)) so
        leaves_so leaves.Frees at so = quietly (past leaves.Frees at (λ e. cc e)) so
        leaves_so leaves.Over at so = over (c.becomes == ACTIVE) so
          where
            over : (q : Bool) → InsideBy uses w2.uses {K = K} {V = V} (if q then Opens c.slot else Leaves c.slot)
                → GuardsAre rows2 w2.uses (there_on {K = K} {V = V} (if q then Opens c.slot else Leaves c.slot) (moment x.history).there).guards
            over true open_so = begins c.slot (past leaves.Over at (λ e. cc e)) open_so
            over false stays = quietly (past leaves.Over at (λ e. cc e)) stays

      steps_so : (r : SlotRow) → Goal r
      steps_so (rows.Registers c) so is = registers_so c c.stands is so
      steps_so (rows.Enters c) so is = begins c.slot (λ d other. absurd (cc (is, other))) so
      steps_so (rows.Leaves c) so is = leaves_so c is c.stands refl so
      steps_so (rows.Flushes c) so is = quietly (λ d other. absurd (cc (is, other))) so
      steps_so (rows.Frees c) so is = quietly (λ d other. absurd (cc (is, other))) so

      pub row_so : GuardsAre rows2 w2.uses (there_on (row_deed {K = K} {V = V} row) (moment x.history).there).guards
      row_so = steps_so row by refl

  -- The row of one caller begins.
  module _ (i slot size : ℕ) (w w2 : World (Node K V)) (uses_are : w.uses ≡ uses) (idle : (row : SlotRow) → x.now.rows i ≡ Some row → ⊥) (called : SlotCall)
      (begins_so : BeginsSo deferred_word size i (request_of slot called) w w2) where
    abbrev begun : ℕ → Option SlotRow
    begun = with_at x.now.rows i (Some (begun_row slot size called))

    -- a section whose leaving begins is open still
    goes_on : (c : Leave) → begun_row slot size called ≡ rows.Leaves c → c.stands ≡ leaves.Swaps → c.slot ≡ slot → IsLeaving begun w2.uses slot
    goes_on c is at on = (i, c, at_same x.now.rows i (Some (begun_row slot size called)) i refl ∙ ap Some is, at, on)

    others : (t : ℕ) → IsLeaving x.now.rows uses t → IsLeaving begun w2.uses t
    others t (j, c, has, at, is) = by (cases_eq j i)
      where
        by : (j ≡ i) ⊎ (j ≢ i) → IsLeaving begun w2.uses t
        by (inl e) = absurd (idle (rows.Leaves c) (sym (ap x.now.rows e) ∙ has))
        by (inr ne) = (j, c, at_other x.now.rows i (Some (begun_row slot size called)) j ne ∙ has, at, is)

    -- all is as the uses are
    by_uses : ((t : ℕ) → IsInside (uses t) → IsOpen begun w2.uses t) → StaysInside uses w2.uses → GuardsAre begun w2.uses (moment x.history).there.guards
    by_uses on stays = same_guards x.now.rows begun uses w2.uses (moment x.history).there.guards here open_on stays
      where
        open_on : (t : ℕ) → IsOpen x.now.rows uses t → IsOpen begun w2.uses t
        open_on t (inl in_it) = on t in_it
        open_on t (inr leaving) = inr (others t leaving)

    -- the slot is between uses from then on
    changing : w2.uses ≡ with_at w.uses slot Changing → (IsInside (uses slot) → IsOpen begun w2.uses slot) → GuardsAre begun w2.uses (moment x.history).there.guards
    changing is at_slot =
        by_uses (λ t in_it. on t in_it (cases_eq t slot))
        (λ t in_it. outside_at uses slot Changing (λ in_c. absurd in_c) t (subst (λ (f : ℕ → Use). IsInside (f t)) (is ∙ ap (λ (f : ℕ → Use). with_at f slot Changing) uses_are) in_it))
      where
        on : (t : ℕ) → IsInside (uses t) → (t ≡ slot) ⊎ (t ≢ slot) → IsOpen begun w2.uses t
        on t in_it (inl e) = subst (IsOpen begun w2.uses) (sym e) (at_slot (subst (λ (k : ℕ). IsInside (uses k)) e in_it))
        on t in_it (inr ne) =
            inl (subst (λ (f : ℕ → Use). IsInside (f t)) (sym is) (subst IsInside (sym (at_other w.uses slot Changing t ne)) (subst (λ (f : ℕ → Use). IsInside (f t)) (sym uses_are) in_it)))

    -- where nobody is within the slot's section
    outside : w.uses slot ≡ Outside 0 → IsInside (uses slot) → IsOpen begun w2.uses slot
    outside is in_it = absurd (subst IsInside is (subst (λ (f : ℕ → Use). IsInside (f slot)) (sym uses_are) in_it))

    uses_of : (v : World (Node K V)) → w2 ≡ v → w2.uses ≡ v.uses
    uses_of v is = ap (λ (z : World (Node K V)). z.uses) is

    begun_so : (it : SlotCall) → called ≡ it → BeginsSo deferred_word size i (request_of slot it) w w2 → GuardsAre begun w2.uses (moment x.history).there.guards
    begun_so (call.Register enters) e h =
        by_uses (λ t in_it. inl (subst (λ (f : ℕ → Use). IsInside (f t)) (sym (uses_of _ h ∙ uses_are)) in_it)) (λ t in_it. subst (λ (f : ℕ → Use). IsInside (f t)) (uses_of _ h ∙ uses_are) in_it)
    begun_so call.Enter e h = changing (uses_of _ h.1) (outside h.0)
    begun_so call.Leave e h = changing (uses_of _ h.1) (λ in_it. inr (goes_on _ (ap (begun_row slot size) e) refl refl))
    begun_so call.LeaveOwned e h = changing (uses_of _ h.1) (λ in_it. inr (goes_on _ (ap (begun_row slot size) e) refl refl))
    begun_so call.Refresh e h = changing (uses_of _ h.1) (λ in_it. inr (goes_on _ (ap (begun_row slot size) e) refl refl))
    begun_so call.Unregister e h = changing (uses_of _ h.1) (outside h.0)
    begun_so call.Flush e h =
        let more : w2.uses ≡ with_at uses slot (one_more (uses slot)) = uses_of _ h.1 ∙ ap (λ (f : ℕ → Use). with_at f slot (one_more (f slot))) uses_are in
        by_uses (λ t in_it. inl (subst (λ (f : ℕ → Use). IsInside (f t)) (sym more) (still_inside t in_it (cases_eq t slot))))
        (λ t in_it. outside_at uses slot (one_more (uses slot)) (more_inside (uses slot)) t (subst (λ (f : ℕ → Use). IsInside (f t)) more in_it))
      where
        still_inside : (t : ℕ) → IsInside (uses t) → (t ≡ slot) ⊎ (t ≢ slot) → IsInside (with_at uses slot (one_more (uses slot)) t)
        still_inside t in_it (inl at) = subst IsInside (sym (at_same uses slot (one_more (uses slot)) t at)) (inside_more (uses slot) (subst (λ (k : ℕ). IsInside (uses k)) at in_it))
        still_inside t in_it (inr ne) = subst IsInside (sym (at_other uses slot (one_more (uses slot)) t ne)) in_it

    pub row_begun_so : GuardsAre begun w2.uses (moment x.history).there.guards
    row_begun_so = begun_so called refl begins_so

-- After the step of a row the open sections of those who are there shelter what they did, and nothing of that was reclaimed.
use Rattle.std.specs.Prelude.{◌≢◌, ◌==◌, ◌&&◌, nat_lt, Bool, true, false, if◌then◌else◌}
use Rattle.std.specs.List.{AllByRecursion}
use Rattle.std.proofs.Common.{◌≡◌, ℕ, List, [], ◌∷◌, refl, ap, sym, subst, ◌∙◌}
use Rattle.run_schedules.specs.Given.SeizeWordsDeclared.at.At.TheVariants.{Entry as AtEntry, Root, Slot, Used, Word}
use Rattle.seize_acts.specs.Given.SeizeWorld.{IsInside, Leaves as LeavesRow, World}
use Rattle.seize_acts.specs.Given.SeizeDeclared.rows.leave.Leave.{Leave}
use Rattle.seize_acts.specs.Given.SeizeDeclared.rows.leave.Leaving.{Leaving}
use Rattle.seize_acts.specs.Given.SeizeDeclared.rows.leave.Leaving.TheVariants as leaving
use Rattle.seize_acts.specs.Given.SeizeDeclared.rows.register.Register.{Register}
use Rattle.seize_acts.specs.Given.SeizeDeclared.rows.register.Registering.{Registering}
use Rattle.seize_acts.specs.Given.SeizeDeclared.rows.register.Registering.TheVariants as registers
use Rattle.seize_acts.specs.Given.SeizeDeclared.states.TheConstants.{ACTIVE}
use Rattle.play_lists.specs.Given.TablesNodes.{deferred_word}
use Rattle.play_lists.specs.Given.TablesDeclared.node.Node.{Node}
use Rattle.play_lists.specs.Given.EffectsDeclared.changed.Changed.{Changed}
use Rattle.play_lists.specs.Given.EffectsDeclared.changed.Changed.TheVariants as changed
use Rattle.run_schedules.specs.Runs.Present.{Present, drops, enters_slot}
use Rattle.run_schedules.specs.declared.holders.NamedGuard.{NamedGuard}
use Rattle.run_schedules.specs.Schedules.After.{unsheltered}
use Rattle.run_schedules.specs.Schedules.Moment.{Moment, Sheltered}
use Rattle.run_schedules.specs.declared.effect.Effect.{Effect}
use Rattle.play_lists.specs.Given.EffectsEffects.{effects_of, known_after, names_same, taken_by}
use Rattle.play_lists.specs.Given.EffectsKnown.{Known}
use Rattle.play_lists.specs.Given.EffectsDeclared.acting.Acting.TheVariants as acts
use Rattle.play_lists.specs.Given.EffectsDeclared.role.Role.{Role}
use Rattle.play_lists.specs.Given.EffectsDeclared.role.Role.TheVariants as role
use Rattle.play_lists.specs.Given.ScenesHeld.{Held, IsAt}
use Rattle.play_lists.specs.Given.ScenesOnSlots.{RowLeads}
use Rattle.play_lists.specs.Given.ScenesScene.{IsOnSlot, Scene, row_of}
use Rattle.play_lists.specs.Given.ScenesDeclared.row.RowTold.{RowTold}
use Rattle.run_logged.proofs.Given.CallersTogether.Came.{came_reached}
use Rattle.seize_acts.proofs.Given.SeizeAloneHistories.Reached.{Reached}
use Rattle.seize_acts.proofs.Given.SeizeAloneHistories.Uses.{inside_open}
use Rattle.play_lists.proofs.Given.OthersRowPlans.{TellsRow, row_tells}
use Rattle.play_lists.specs.Given.PromisesSheltered.{AreShelteredOn, GuardsAreOn, IsShelteredOn}
use Rattle.play_lists.specs.Given.PromisesShelters.{NoneIsBack}
use Rattle.play_lists.proofs.Given.PromisesLists.{all_of}
use Rattle.play_lists.proofs.Given.PromisesShelters.Outs.{KeepsIn, keep_all}
use Rattle.play_lists.specs.Given.ScenesDeclared.row.SlotRow.{SlotRow}
use Rattle.play_lists.specs.Given.ScenesDeclared.row.SlotRow.TheVariants as rows
use Rattle.run_schedules.specs.Deeds.Deeds.{Begins, Deed, Entry, Leaves, MapComes, Opens, Registers, Shuts, acted_on, after, at_work, begun, caller_of, named, sheltered_on, there_on, worked}
use Rattle.play_lists.specs.Played.Play.{leaves_as, registers_as, row_deed}
use Rattle.play_lists.specs.Agrees.Guards.{guard_on}
use Rattle.play_lists.proofs.Agrees.Rows.{InsideBy}
use Rattle.play_linear.specs.Protects.Shelters.{IsOpen, SectionsShelter}
use Rattle.play_linear.proofs.Protects.After.{IsCalm, opened_guards, opened_held, shelter_then, shut_guards, shut_held}
use Rattle.play_linear.proofs.Protects.Goes.{IsSpared}
use Rattle.play_linear.proofs.Protects.ByKind.{row_step_shelters}

-- a row takes nothing out of a map
module _ (known : Known) where
  if_keep : (q : Bool) (effects : List Effect) → AllByRecursion KeepsIn effects → AllByRecursion KeepsIn (if q then [] else effects)
  if_keep true effects all = tt
  if_keep false effects all = all

  taken_keep : (r : Role) → AllByRecursion KeepsIn (taken_by acts.Row r)
  taken_keep (role.OwnPair c) = (tt, tt)
  taken_keep (role.OwnTable turn shape) = (tt, tt)
  taken_keep (role.Pair n) = (tt, tt)
  taken_keep (role.Table t len) = (tt, tt)
  taken_keep role.Free = tt
  taken_keep (role.Counter map) = tt

  row_keeps : (told : Changed) → TellsRow told → AllByRecursion KeepsIn (effects_of acts.Row known told)
  row_keeps changed.Nothing is = tt
  row_keeps (changed.Wrote (Slot t field) before now) is = tt
  row_keeps (changed.Wrote (AtEntry b field) before now) is = if_keep (names_same before now) [] tt
  row_keeps (changed.Wrote (Root r) before now) is = absurd is
  row_keeps (changed.Wrote (Used r) before now) is = absurd is
  row_keeps (changed.Wrote (Word b field) before now) is = absurd is
  row_keeps (changed.Made kind b) is = absurd is
  row_keeps (changed.Unmade kind) is = absurd is
  row_keeps (changed.Took b) is = taken_keep (known.roles b)
  row_keeps (changed.Roomed bucket had) is = if_keep (had && nat_lt bucket known.buckets) (_ ∷ []) (tt, tt)

-- no section ends by the next step of a row
abbrev pub EndsNone : SlotRow → Type 0
EndsNone row = (c : Leave) → row_of row ≡ LeavesRow c → c.stands ≡ leaving.Swaps → ⊥

module _ (K V : Type 0) where
  -- It begins a section, or ends one, or neither.
  pub data RowKind (row : SlotRow) : Type 0 where
    OpensOne : (t : ℕ) → row_deed {K = K} {V = V} row ≡ Opens t → EndsNone row → RowKind row
    ShutsOne : (c : Leave) → row_of row ≡ LeavesRow c → row_deed {K = K} {V = V} row ≡ Shuts c.slot → RowKind row
    DoesNeither : IsCalm (row_deed {K = K} {V = V} row) → EndsNone row → RowKind row

  calm_registers : (s : ℕ) → IsCalm {K = K} {V = V} (Registers s)
  calm_registers s = record { there = λ there. refl; sheltered = λ xs. refl }

  registers_kind : (c : Register) (stands : Registering) → c.stands ≡ stands → RowKind (rows.Registers c)
  registers_kind c registers.Enter e = OpensOne c.slot (ap (λ (z : Registering). registers_as {K = K} {V = V} z c.slot) e) (λ d is at. cc is)
  registers_kind c registers.Begin e =
      DoesNeither (subst (λ (z : Registering). IsCalm (registers_as {K = K} {V = V} z c.slot)) (sym e) (calm_registers c.slot)) (λ d is at. cc is)
  registers_kind c registers.Look e =
      DoesNeither (subst (λ (z : Registering). IsCalm (registers_as {K = K} {V = V} z c.slot)) (sym e) (calm_registers c.slot)) (λ d is at. cc is)
  registers_kind c (registers.Widen bucket head) e =
      DoesNeither (subst (λ (z : Registering). IsCalm (registers_as {K = K} {V = V} z c.slot)) (sym e) (calm_registers c.slot)) (λ d is at. cc is)
  registers_kind c (registers.Take head) e =
      DoesNeither (subst (λ (z : Registering). IsCalm (registers_as {K = K} {V = V} z c.slot)) (sym e) (calm_registers c.slot)) (λ d is at. cc is)
  registers_kind c registers.Registered e =
      DoesNeither (subst (λ (z : Registering). IsCalm (registers_as {K = K} {V = V} z c.slot)) (sym e) (calm_registers c.slot)) (λ d is at. cc is)
  registers_kind c (registers.Refused fault) e =
      DoesNeither (subst (λ (z : Registering). IsCalm (registers_as {K = K} {V = V} z c.slot)) (sym e) (calm_registers c.slot)) (λ d is at. cc is)

  calm_leaves : (s : ℕ) → IsCalm {K = K} {V = V} (Leaves s)
  calm_leaves s = record { there = λ there. refl; sheltered = λ xs. refl }

  -- a leaving that is past its swap
  past : (c : Leave) (stands : Leaving) → c.stands ≡ stands → (stands ≡ leaving.Swaps → ⊥) → EndsNone (rows.Leaves c)
  past c stands e not d is at = not (sym e ∙ ap (λ (l : Leave). l.stands) (one is) ∙ at)
    where
      one : LeavesRow c ≡ LeavesRow d → c ≡ d
      one same = cc same

  leaves_kind : (c : Leave) (stands : Leaving) → c.stands ≡ stands → RowKind (rows.Leaves c)
  leaves_kind c leaving.Swaps e = ShutsOne c refl (ap (leaves_as {K = K} {V = V} c) e)
  leaves_kind c (leaving.Settles settle) e = DoesNeither (subst (λ (z : Leaving). IsCalm (leaves_as {K = K} {V = V} c z)) (sym e) (calm_leaves c.slot)) (past c (leaving.Settles settle) e (λ k. cc k))
  leaves_kind c leaving.Frees e = DoesNeither (subst (λ (z : Leaving). IsCalm (leaves_as {K = K} {V = V} c z)) (sym e) (calm_leaves c.slot)) (past c leaving.Frees e (λ k. cc k))
  leaves_kind c leaving.Over e = by (c.becomes == ACTIVE) refl
    where
      by : (q : Bool) → (c.becomes == ACTIVE) ≡ q → RowKind (rows.Leaves c)
      by true k = OpensOne c.slot (ap (leaves_as {K = K} {V = V} c) e ∙ ap (λ (q : Bool). if q then Opens c.slot else Leaves c.slot) k) (past c leaving.Over e (λ z. cc z))
      by false k =
          DoesNeither (subst IsCalm (sym (ap (leaves_as {K = K} {V = V} c) e ∙ ap (λ (q : Bool). if q then Opens c.slot else Leaves c.slot) k)) (calm_leaves c.slot)) (past c leaving.Over e (λ z. cc z))

  pub row_kind : (row : SlotRow) → RowKind row
  row_kind (rows.Registers c) = registers_kind c c.stands refl
  row_kind (rows.Enters c) = OpensOne c.slot refl (λ d is at. cc is)
  row_kind (rows.Leaves c) = leaves_kind c c.stands refl
  row_kind (rows.Flushes c) = DoesNeither (record { there = λ there. refl; sheltered = λ xs. refl }) (λ d is at. cc is)
  row_kind (rows.Frees c) = DoesNeither (record { there = λ there. refl; sheltered = λ xs. refl }) (λ d is at. cc is)

module _ {K V : Type 0} where
  pub begun_sheltered : (d : Deed K V) (m : Moment K V) → (begun d m).sheltered ≡ m.sheltered
  begun_sheltered (Begins i s map call) m = refl
  begun_sheltered (MapComes map root mode capacity) m = refl
  begun_sheltered _ m = refl

-- of each guard that is so what is so of all
both : (P Q R : NamedGuard → Type 0) → ((g : NamedGuard) → P g → Q g → R g) → (gs : List NamedGuard) → AllByRecursion P gs → AllByRecursion Q gs → AllByRecursion R gs
both P Q R so [] one two = tt
both P Q R so (g ∷ gs) one two = (so g one.0 two.0, both P Q R so gs one.1 two.1)

module _ {K V : Type 0} (same : K → K → Bool) (hash : ℕ → K → ℕ) (m : Moment K V) (known : Known) (s : Scene K V) (old new : Held K V) (at : IsAt same hash old s) (i : ℕ) (told : RowTold (Node K V))
    (leads : RowLeads same hash i told s old new) (row : SlotRow) (here : IsOnSlot s i row) (each : AllByRecursion (λ (g : NamedGuard). g ≡ guard_on g.slot) m.there.guards)
    (opens : AllByRecursion (λ (g : NamedGuard). IsOpen s.world g.slot) m.there.guards) (shelter : SectionsShelter m known s.world) (e : Entry K V) (deed_is : e.deed ≡ row_deed row)
    (effects_are : e.effects ≡ effects_of acts.Row known new.changed) where
  abbrev w : World (Node K V)
  w = s.world

  abbrev w2 : World (Node K V)
  w2 = (leads row here).2.0

  abbrev known2 : Known
  known2 = known_after acts.Row new.changed known

  abbrev Then : Type 0
  Then = SectionsShelter (after e m) known2 w2 × NoneIsBack e.effects (after e m).sheltered

  tells : TellsRow new.changed
  tells = row_tells old.memory new.memory new.changed ((leads row here).0, told) row (leads row here).1

  -- nothing more is sheltered
  as_before : (worked e m).sheltered ≡ m.sheltered
  as_before =
      keep_all (caller_of e.deed) (acted_on e.deed (at_work e m)) e.effects (at_work e m) (subst (AllByRecursion KeepsIn) (sym effects_are) (row_keeps known new.changed tells)) ∙ begun_sheltered e.deed m

  spared_by : EndsNone row → (t : ℕ) → IsOpen w t → IsSpared i w t
  spared_by none t o = (o, λ c is at_swap on. none c (sym here.1 ∙ is) at_swap)

  -- where no section ends
  on_still : EndsNone row → GuardsAreOn (IsOpen w2) m.there × AreShelteredOn (IsOpen w2) m.there w2 known2 m.sheltered × NoneIsBack (effects_of acts.Row known new.changed) m.sheltered
  on_still none =
      let by = row_step_shelters same hash m known s old new at i told leads row here m.there m.sheltered
      (all_of (IsShelteredOn (IsOpen w) m.there w known) (IsShelteredOn (IsSpared i w) m.there w known) m.sheltered
      (λ x so. (so.0, so.1, so.2, spared_by none so.1.slot so.3, so.4)) shelter.held) in
      (by.0 (λ own g found. spared_by none g.slot (shelter.guards own g found)), by.1, by.2)

  then_by : (there : Present) → there_on (row_deed {K = K} {V = V} row) m.there ≡ there → (xs : List Sheltered) → sheltered_on (row_deed {K = K} {V = V} row) m.sheltered ≡ xs → GuardsAreOn (IsOpen w2) there
      → AreShelteredOn (IsOpen w2) there w2 known2 xs → NoneIsBack (effects_of acts.Row known new.changed) xs → Then
  then_by there there_is xs xs_are guards held none =
      let left : (after e m).sheltered ≡ xs = ap (sheltered_on e.deed) as_before ∙ ap (λ (d : Deed K V). sheltered_on d m.sheltered) deed_is ∙ xs_are in (
        shelter_then e m known2 w2 there (ap (λ (d : Deed K V). there_on d m.there) deed_is ∙ there_is) xs left guards held,
        subst (NoneIsBack e.effects) (sym left) (subst (λ (fs : List Effect). NoneIsBack fs xs) (sym effects_are) none),
      )

  reached : Reached deferred_word new.batch_size w2
  reached = came_reached new.batch_size w2 (leads row here).2.4.together.makings.standing.came

  by_kind : RowKind K V row → InsideBy w.uses w2.uses (row_deed {K = K} {V = V} row) → Then
  by_kind (DoesNeither calm none) inside =
      let on = on_still none in then_by m.there (calm.there m.there) m.sheltered (calm.sheltered m.sheltered) on.0 on.1 on.2
  by_kind (OpensOne t is none) inside =
      let on = on_still none in
      let in_it : IsInside (w2.uses t) = (subst (λ (d : Deed K V). InsideBy w.uses w2.uses d) is inside).1 in
      then_by (enters_slot (named t) t m.there) (ap (λ (d : Deed K V). there_on d m.there) is) m.sheltered (ap (λ (d : Deed K V). sheltered_on d m.sheltered) is)
      (opened_guards (IsOpen w2) m.there w2 known2 t (inside_open deferred_word new.batch_size w2 reached t in_it) on.0) (opened_held (IsOpen w2) m.there w2 known2 t m.sheltered on.1) on.2
  by_kind (ShutsOne c is shuts) inside =
      let there : Present = drops (named c.slot) m.there in
      let xs : List Sheltered = unsheltered (named c.slot) m.sheltered in
      let by = row_step_shelters same hash m known s old new at i told leads row here there xs
      (all_of (IsShelteredOn (λ t. IsOpen w t × (t ≢ c.slot)) there w known) (IsShelteredOn (IsSpared i w) there w known) xs (λ x so. (so.0, so.1, so.2, spared so.1.slot so.3, so.4))
      (shut_held (IsOpen w) m.there w known c.slot each m.sheltered shelter.held)) in
      then_by there (ap (λ (d : Deed K V). there_on d m.there) shuts) xs (ap (λ (d : Deed K V). sheltered_on d m.sheltered) shuts)
      (by.0 (λ own g found. spared g.slot (shut_guards (IsOpen w) m.there w known c.slot (both_open m.there.guards each opens) own g found))) by.1 by.2
    where
      both_open : (gs : List NamedGuard) → AllByRecursion (λ (g : NamedGuard). g ≡ guard_on g.slot) gs → AllByRecursion (λ (g : NamedGuard). IsOpen w g.slot) gs
          → AllByRecursion (λ (g : NamedGuard). (g ≡ guard_on g.slot) × IsOpen w g.slot) gs
      both_open gs one two = both (λ g. g ≡ guard_on g.slot) (λ g. IsOpen w g.slot) (λ g. (g ≡ guard_on g.slot) × IsOpen w g.slot) (λ g a b. (a, b)) gs one two

      spared : (t : ℕ) → IsOpen w t × (t ≢ c.slot) → IsSpared i w t
      spared t (o, ne) = (o, λ d also at_swap on. ne (sym on ∙ ap (λ (l : Leave). l.slot) (one (sym also ∙ here.1 ∙ is))))
        where
          one : {d : Leave} → LeavesRow d ≡ LeavesRow c → d ≡ c
          one same_row = cc same_row

  -- So it is.
  pub row_entry_shelters : InsideBy w.uses w2.uses (row_deed {K = K} {V = V} row) → Then
  row_entry_shelters inside = by_kind (row_kind K V row) inside

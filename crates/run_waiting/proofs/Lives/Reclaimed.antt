-- A table that a row on a slot reclaims was retired; and the tables that the collector has then are retired still, or rows within calls are to retire them.
use Rattle.std.specs.Prelude.{◌≡◌, ◌⊎◌, ℕ, ◌+◌, nat_lt, ◌&&◌, Bool, true, false, List, [], ◌∷◌, length, Option, None, if◌then◌else◌}
use Rattle.std.proofs.Common.{refl, ap, sym, subst, ◌∙◌, inl, inr}
use Rattle.std.proofs.lemmas.Bool.{ne_eqb}
use Rattle.run_debts.specs.Given.SeizeWordsDeclared.at.At.TheVariants.{Root, Used, Slot, Entry, Word}
use Rattle.run_debts.specs.Given.SeizeLaw.{is_retired as was_retired}
use Rattle.run_debts.specs.Given.SeizeWorld.{World, Row as Under, Begins, Hand, with_at}
use Rattle.run_debts.specs.Given.SeizeDeclared.states.TheConstants.{LAST_SLOT}
use Rattle.run_debts.proofs.Given.SeizeMovesState.Ghost.{Life, IsPending, IsIn, IsDoomed, is_given}
use Rattle.run_debts.proofs.Given.SeizeMemoryWords.Shows.{lives}
use Rattle.run_debts.proofs.Given.SeizeMemoryWords.There.{live_pos}
use Rattle.run_debts.proofs.Given.SeizeMemoryWords.View.{view}
use Rattle.run_debts.proofs.Given.SeizeAloneHistories.Reached.{Reached}
use Rattle.run_debts.specs.Given.TablesNodes.{deferred_word}
use Rattle.run_debts.specs.Given.TablesDeclared.node.Node.{Node}
use Rattle.run_debts.specs.Given.RunsDeclared.effect.Effect.{Effect}
use Rattle.run_debts.specs.Given.RunsDeclared.effect.Effect.TheVariants.{Asked}
use Rattle.run_debts.specs.Given.RunsDeclared.effect.Growth.TheVariants.{ABucket}
use Rattle.run_debts.specs.Given.RunsDeclared.effect.TableId.{TableId}
use Rattle.run_debts.specs.Given.SchedulesEffects.{with_effects, AtEachEffect}
use Rattle.run_debts.specs.Given.SchedulesMoment.{Moment}
use Rattle.run_debts.specs.Given.SchedulesViews.{is_stage, is_retired}
use Rattle.run_debts.specs.Given.EffectsDeclared.changed.Changed.{Changed}
use Rattle.run_debts.specs.Given.EffectsDeclared.changed.Changed.TheVariants as changed
use Rattle.run_debts.specs.Given.CallersTogether.{CameAbout}
use Rattle.run_debts.specs.Given.EffectsEffects.{names_same, taken_by, effects_of, known_after}
use Rattle.run_debts.specs.Given.EffectsKnown.{Known, with_role}
use Rattle.run_debts.specs.Given.EffectsDeclared.acting.Acting.TheVariants.{Row}
use Rattle.run_debts.specs.Given.EffectsDeclared.role.Role.{Role}
use Rattle.run_debts.specs.Given.EffectsDeclared.role.Role.TheVariants as role
use Rattle.run_debts.specs.Given.ScenesDeclared.row.RowTold.{RowTold}
use Rattle.run_debts.specs.Given.ScenesDeclared.row.SlotCall.{SlotCall}
use Rattle.run_debts.specs.Given.ScenesDeclared.row.SlotCall.TheVariants as call
use Rattle.run_debts.specs.Given.ScenesDeclared.row.SlotRow.{SlotRow}
use Rattle.run_debts.proofs.Given.FollowsAlike.{put_here}
use Rattle.run_debts.proofs.Given.FollowsOnward.{IsOfMap}
use Rattle.run_debts.proofs.Given.FollowsOperations.{LeavesBy}
use Rattle.run_debts.proofs.Given.FollowsTold.{roomed_as_many}
use Rattle.run_debts.proofs.Given.OthersRowPlans.{TellsRow, row_tells}
use Rattle.run_debts.specs.Given.SpotsUnreclaimed.{RefinesUnreclaimed}
use Rattle.run_debts.proofs.Given.SpotsCalm.{put_back}
use Rattle.run_debts.specs.Given.MomentsOnSlots.{HadRetired}
use Rattle.run_debts.specs.Given.MomentsWhole.{RefinesWhole}
use Rattle.run_debts.proofs.Given.MomentsOnSlots.{begun_hands}
use Rattle.run_waiting.specs.Lives.Retired.{IsToRetire, RefinesRetiredTables, RetiredBegins, OthersLeaveRetired, EndingsBeginRetired, RowsBeginRetired, RowsPreserveRetired, RowsFindRetired}
use Rattle.run_waiting.proofs.Lives.Retires.{row_life, given_hand, handed_before}
use Rattle.run_waiting.proofs.Lives.Stages.{NoneEnds, still_retired, taken_ends}
use Rattle.run_waiting.proofs.Lives.Taken.{kept, it, told_retired}
use Rattle.run_waiting.proofs.Lives.Waiting.{left, reached}
use Rattle.run_waiting.proofs.Lives.Worlds.{Kept}
use Rattle.run_debts.specs.Given.ScenesHeld.{Held, IsAt}
use Rattle.run_debts.specs.Given.ScenesOnSlots.{RowLeads}
use Rattle.run_debts.specs.Given.ScenesRows.{request_of}
use Rattle.run_debts.proofs.Given.ScenesNoCall.{no_call}
use Rattle.run_debts.specs.Given.ScenesScene.{HasCall, IsOnSlot, Scene, slot_of}

pub given_lives : (l : Life) → is_given l ≡ true → lives l ≡ true
given_lives (IsIn x) given = refl
given_lives (IsDoomed i) given = refl
given_lives _ given = absurd (cc given)

-- what was retired no row is to retire
pub none_to_retire : {T : Type 0} (defers : T → Option ℕ) (size : ℕ) (w : World T) (k : Kept defers size w) (j b : ℕ) → was_retired b w.log ≡ true → IsToRetire b (w.row j) → ⊥
none_to_retire defers size w k j b retired due =
    let given : is_given (k.good.state.life b) ≡ true = sym (k.good.inv.logged.given b) ∙ ap (was_retired b) k.good.logged ∙ retired in
    let some = live_pos w.memory b (k.good.shows.lists.lived b ∙ given_lives (k.good.state.life b) given) in
    let pending = row_life (LAST_SLOT + 1) j (view defers w.memory) k.good.state k.good.extra k.good.inv k.good.shows b some (length w.memory.slots) (w.row j) (k.good.rows j) due in
    let not_given : is_given (k.good.state.life b) ≡ is_given (IsPending j) = ap is_given pending in
    cc (given, not_given)

-- what a row tells leaves tables
module _ {K V : Type 0} (m : Moment K V) (known : Known) (blocks : RefinesUnreclaimed m known) where
  -- A table was one before, and none that is reclaimed.
  abbrev pub StaysSo : Changed → Type 0
  StaysSo x =
      (b len : ℕ) (t : TableId) → (known_after Row x known).roles b ≡ role.Table t len → (known.roles b ≡ role.Table t len) × NoneEnds t (effects_of Row known x)

  same_roles : (known3 : Known) (effects : List Effect) → known3.roles ≡ known.roles → ((t : TableId) → NoneEnds t effects)
      → (b len : ℕ) (t : TableId) → known3.roles b ≡ role.Table t len → (known.roles b ≡ role.Table t len) × NoneEnds t effects
  same_roles known3 effects roles none b len t is = (sym (ap (λ (f : ℕ → Role). f b) roles) ∙ is, none t)

  nothing_ends : (q : Bool) (t : TableId) → NoneEnds t (if q then [] else [])
  nothing_ends true t = tt
  nothing_ends false t = tt

  roomed_ends : (q : Bool) (t : TableId) → NoneEnds t (if q then [] else Asked ABucket ∷ [])
  roomed_ends true t = tt
  roomed_ends false t = (λ z. z, tt)

  pub stays_so : (x : Changed) → TellsRow x → StaysSo x
  stays_so changed.Nothing is = same_roles known [] refl (λ t. tt)
  stays_so (changed.Wrote (Slot t field) before after) is = same_roles known [] refl (λ t. tt)
  stays_so (changed.Wrote (Entry b field) before after) is = same_roles known (if names_same before after then [] else []) refl (nothing_ends (names_same before after))
  stays_so (changed.Wrote (Root r) before after) is = absurd is
  stays_so (changed.Wrote (Used r) before after) is = absurd is
  stays_so (changed.Wrote (Word b field) before after) is = absurd is
  stays_so (changed.Made kind b) is = absurd is
  stays_so (changed.Unmade kind) is = absurd is
  stays_so (changed.Took x) is = λ b len t e.
      let of_map : IsOfMap ((with_role x role.Free known).roles b) = subst IsOfMap (sym e) tt in
      let was = sym (put_back known.roles x role.Free (λ of. of) b of_map) ∙ e in (
        was,
        taken_ends t Row (known.roles x) (λ u n its_table one.
            subst IsOfMap (put_here x role.Free known.roles b (blocks.tables_once b x len n t was (its_table ∙ ap (λ (y : TableId). role.Table y n) one))) of_map),
      )
  stays_so (changed.Roomed bucket had) is =
      same_roles (known_after Row (changed.Roomed bucket had) known) (if had && nat_lt bucket known.buckets then [] else Asked ABucket ∷ []) (roomed_as_many Row known bucket had).0
      (roomed_ends (had && nat_lt bucket known.buckets))

module _ {K V : Type 0} (same : K → K → Bool) (hash : ℕ → K → ℕ) (name : ℕ → List ℕ) (m : Moment K V) (known : Known) (s : Scene K V) (old new : Held K V) (at : IsAt same hash old s)
    (whole : RefinesWhole same name m known s) (shows : RefinesRetiredTables m known s) (i : ℕ) (said : RowTold (Node K V)) (leads : RowLeads same hash i said s old new) (row : SlotRow)
    (here : IsOnSlot s i row) where
  abbrev w : World (Node K V)
  w = s.world

  abbrev w2 : World (Node K V)
  w2 = (leads row here).2.0

  abbrev told : Changed
  told = new.changed

  abbrev v : Moment K V
  v = with_effects None None (effects_of Row known told) m

  abbrev known2 : Known
  known2 = known_after Row told known

  came : CameAbout old.batch_size w
  came = at.together.makings.standing.came

  pub there : Reached deferred_word old.batch_size w
  there = (let to = leads row here in reached K V same hash s old new at i row here (to.0, said) to.1 to.2)

  tells : TellsRow told
  tells = (let to = leads row here in row_tells old.memory new.memory told (to.0, said) row to.1)

  pub leaves : LeavesBy w.memory w2.memory told
  leaves = (let to = leads row here in left K V same hash s old new at i row here (to.0, said) to.1 to.2)

  its : Kept deferred_word old.batch_size w
  its = kept old.batch_size w came there i w2 (leads row here).2.1

  -- the table that is taken
  had_retired : (x len : ℕ) (t : TableId) → told ≡ changed.Took x → known.roles x ≡ role.Table t len → is_stage is_retired t m ≡ true
  had_retired x len t is table =
      let retired = told_retired old.batch_size w came there i w2 (leads row here).2.1 told leaves x is in
      let given : is_given (its.good.state.life x) ≡ true = sym (its.good.inv.logged.given x) ∙ ap (was_retired x) its.good.logged ∙ retired in
      let handed = given_hand (w.hand x) (its.good.state.life x) given (its.good.hands x) in
      elim (shows.tables x len t table handed) as (λ _. is_stage is_retired t m ≡ true) [
        | inl so ↦ so
        | inr due ↦ absurd (none_to_retire deferred_word old.batch_size w its due.0 x retired due.2)
      ]

  taken_finds : (x : ℕ) (r : Role) → told ≡ changed.Took x → known.roles x ≡ r → AtEachEffect HadRetired None None (taken_by Row r) m
  taken_finds x role.Free is e = tt
  taken_finds x (role.OwnPair j) is e = (tt, tt)
  taken_finds x (role.OwnTable turn shape) is e = (tt, tt)
  taken_finds x (role.Pair n) is e = (tt, tt)
  taken_finds x (role.Table t len) is e = (had_retired x len t is e, tt)
  taken_finds x (role.Counter of) is e = tt

  nothing_finds : (q : Bool) → AtEachEffect HadRetired None None (if q then [] else []) m
  nothing_finds true = tt
  nothing_finds false = tt

  roomed_finds : (q : Bool) → AtEachEffect HadRetired None None (if q then [] else Asked ABucket ∷ []) m
  roomed_finds true = tt
  roomed_finds false = (tt, tt)

  pub finds : (x : Changed) → told ≡ x → TellsRow x → AtEachEffect HadRetired None None (effects_of Row known x) m
  finds changed.Nothing e is = tt
  finds (changed.Wrote (Slot t field) before after) e is = tt
  finds (changed.Wrote (Entry b field) before after) e is = nothing_finds (names_same before after)
  finds (changed.Wrote (Root r) before after) e is = absurd is
  finds (changed.Wrote (Used r) before after) e is = absurd is
  finds (changed.Wrote (Word b field) before after) e is = absurd is
  finds (changed.Made kind b) e is = absurd is
  finds (changed.Unmade kind) e is = absurd is
  finds (changed.Took x) e is = taken_finds x (known.roles x) e refl
  finds (changed.Roomed bucket had) e is = roomed_finds (had && nat_lt bucket known.buckets)

  pub keeps : RefinesRetiredTables v known2 (record s { world = w2; maps = (leads row here).2.2 })
  keeps = record {
    tables = λ b len t e handed.
        let was = stays_so m known whole.blocks told tells b len t e in
        let stepped = it old.batch_size w came there i w2 (leads row here).2.1 in
        let before = handed_before stepped.effects w.hand b (sym (ap (λ (h : ℕ → Hand). h b) stepped.hands) ∙ handed) in
        elim (shows.tables b len t was.0 before) as (λ _. (is_stage is_retired t v ≡ true) ⊎ ((j : ℕ) × HasCall s j × IsToRetire b (w2.row j))) [
          | inl so ↦ inl (still_retired t None None (effects_of Row known told) m was.1 so)
          | inr due ↦ inr (due.0, due.1, subst (IsToRetire b) (sym (stepped.rows due.0 (λ same_one. no_call s i here.0 (subst (HasCall s) same_one due.1)))) due.2)
        ];
    lengths = λ b len t e. shows.lengths b len t (stays_so m known whole.blocks told tells b len t e).0;
  }

-- a row that begins leaves the rows of others as they are
pub begun_rows : {K V : Type 0} (size slot i : ℕ) (w v : World (Node K V)) (called : SlotCall) → Begins deferred_word size i (request_of slot called) w v → (j : ℕ) → (j ≡ i → ⊥) → v.row j ≡ w.row j
begun_rows size slot i w v called h j ne = by called h
  where
    other : (row : Under) → with_at w.row i row j ≡ w.row j
    other row = ap (λ (q : Bool). if q then row else w.row j) (ne_eqb j i ne)

    by : (called : SlotCall) → Begins deferred_word size i (request_of slot called) w v → v.row j ≡ w.row j
    by (call.Register enters) h = ap (λ (x : World (Node _ _)). x.row j) h ∙ other _
    by call.Enter h = ap (λ (x : World (Node _ _)). x.row j) h.1 ∙ other _
    by call.Leave h = ap (λ (x : World (Node _ _)). x.row j) h.1 ∙ other _
    by call.LeaveOwned h = ap (λ (x : World (Node _ _)). x.row j) h.1 ∙ other _
    by call.Refresh h = ap (λ (x : World (Node _ _)). x.row j) h.1 ∙ other _
    by call.Flush h = ap (λ (x : World (Node _ _)). x.row j) h.1 ∙ other _
    by call.Unregister h = ap (λ (x : World (Node _ _)). x.row j) h.1 ∙ other _

pub retired_begins : (K V : Type 0) → RetiredBegins K V
retired_begins K V roots = record { tables = λ b len t is handed. absurd (cc is); lengths = λ b len t is. absurd (cc is) }

pub others_leave_retired : (K V : Type 0) → OthersLeaveRetired K V
others_leave_retired K V m v known s t shows tables world stay = record {
  tables = λ b len x is handed.
      elim (shows.tables b len x is (sym (ap (λ (z : World (Node K V)). z.hand b) world) ∙ handed)) as (λ _. (is_stage is_retired x v ≡ true) ⊎ ((j : ℕ) × HasCall t j × IsToRetire b (t.world.row j))) [
        | inl so ↦ inl (ap (λ ts. is_stage is_retired x (record m { tables = ts })) tables ∙ so)
        | inr due ↦
            let row = subst (λ (z : World (Node K V)). IsToRetire b (z.row due.0)) (sym world) due.2 in
            elim (stay due.0 due.1) as (λ _. (is_stage is_retired x v ≡ true) ⊎ ((j : ℕ) × HasCall t j × IsToRetire b (t.world.row j))) [
              | inl has ↦ inr (due.0, has, row)
              | inr rests ↦ absurd (subst (IsToRetire b) rests row)
            ]
      ];
  lengths = shows.lengths;
}

pub endings_begin_retired : (K V : Type 0) → EndingsBeginRetired K V
endings_begin_retired K V m known s shows map i standing = record { tables = shows.tables; lengths = shows.lengths }

module _ (K V : Type 0) (same : K → K → Bool) (hash : ℕ → K → ℕ) where
  pub rows_begin_retired : RowsBeginRetired K V same hash
  rows_begin_retired m known s old new at shows called i leads = record {
    tables = λ b len t is handed.
        let to = leads.2 in
        let hands = begun_hands old.batch_size (slot_of i) i s.world to.0 called to.1.1 in
        elim (shows.tables b len t is (sym (ap (λ (h : ℕ → Hand). h b) hands) ∙ handed)) as (λ _. (is_stage is_retired t m ≡ true) ⊎ ((j : ℕ) × HasCall s j × IsToRetire b (to.0.row j))) [
          | inl so ↦ inl so
          | inr due ↦
              let other : due.0 ≡ i → ⊥ = (λ e. subst (IsToRetire b) (ap s.world.row e ∙ to.1.0) due.2) in
              inr (due.0, due.1, subst (IsToRetire b) (sym (begun_rows old.batch_size (slot_of i) i s.world to.0 called to.1.1 due.0 other)) due.2)
        ];
    lengths = shows.lengths;
  }

  pub rows_keep_retired : RowsPreserveRetired K V same hash
  rows_keep_retired name m known s old new at whole shows i told leads row here = keeps same hash name m known s old new at whole shows i told leads row here

  pub rows_find_retired : RowsFindRetired K V same hash
  rows_find_retired name m known s old new at whole shows i told leads row here =
      let to = leads row here in
      finds same hash name m known s old new at whole shows i told leads row here new.changed refl (row_tells old.memory new.memory new.changed (to.0, told) row to.1)

-- What a call has in hand nobody else takes: a row on a slot takes what was retired, the end of a map what was in use or left over, and the making of one nothing of a map.
use Rattle.std.specs.Prelude.{◌≡◌, ◌⊎◌, ◌<◌, ◌+◌, ℕ, Bool, true, List, Option, Some, None, is_some}
use Rattle.std.proofs.Common.{refl, ap, sym, subst, ◌∙◌, inl, inr}
use Rattle.run_schedules.specs.Given.SeizeWordsMem.{value_at}
use Rattle.run_executor.specs.Given.SeizeWordsWord.{block_in}
use Rattle.run_schedules.specs.Given.SeizeWordsDeclared.at.At.TheVariants.{Root, Used, Slot, Entry, Word}
use Rattle.seize.specs.Law.{is_retired}
use Rattle.seize.specs.declared.advance.Advance.{Advance}
use Rattle.seize.specs.declared.rows.defer.Defer.{Defer}
use Rattle.seize.specs.declared.rows.defer.Deferring.{Deferring}
use Rattle.seize.specs.declared.rows.defer.Deferring.TheVariants as deferring
use Rattle.seize.specs.declared.rows.settle.Settle.{Settle}
use Rattle.seize.specs.declared.rows.settle.Settled.{Settled}
use Rattle.seize.specs.declared.rows.settle.Settling.{Settling}
use Rattle.seize.specs.declared.rows.settle.Settling.TheVariants as settling
use Rattle.seize.specs.declared.states.TheConstants.{LAST_SLOT}
use Rattle.seize.specs.World.{World, Hand, InUse, LeftTo, Handed, Row, Rests, Registers, Enters, Settles, Leaves, Defers, Frees}
use Rattle.run_executor.proofs.Given.SeizeMovesState.Ghost.{Life, IsDeferring, State, is_given}
use Rattle.run_blocks.proofs.Given.SeizeMovesSets.Unmoved.{is_in_wait}
use Rattle.run_executor.proofs.Given.SeizeRuleRows.Known.{FitsDefer, FitsRow}
use Rattle.run_executor.proofs.Given.SeizeRuleRows.Told.{IsOnWay}
use Rattle.run_executor.proofs.Given.SeizeMemoryWords.Named.{link-block}
use Rattle.run_executor.proofs.Given.SeizeMemoryWords.Shows.{Extra}
use Rattle.run_executor.proofs.Given.SeizeMemoryWords.There.{live_pos}
use Rattle.run_executor.proofs.Given.SeizeMemoryWords.View.{View, view}
use Rattle.papaya_raw.specs.Given.TablesNodes.{deferred_word}
use Rattle.papaya_raw.specs.Given.TablesDeclared.node.Node.{Node}
use Rattle.papaya_raw.specs.Given.TablesDeclared.node.Node.TheVariants as node
use Rattle.papaya_raw.specs.Given.TablesDeclared.setting.Setting.{Setting}
use Rattle.run_schedules.specs.Schedules.Moment.{Moment}
use Rattle.run_executor.specs.Given.EffectsDeclared.changed.Changed.{Changed}
use Rattle.run_executor.specs.Given.EffectsDeclared.changed.Changed.TheVariants as changed
use Rattle.run_executor.specs.Given.RuleWords.{byte_of}
use Rattle.run_executor.proofs.Given.RuleLaws.{words_name_pairs, bytes_are_few}
use Rattle.run_executor.specs.Given.CallersSights.{seen_by}
use Rattle.run_executor.specs.Given.CallersTogether.{UnderWay, CameAbout}
use Rattle.run_executor.specs.Given.EffectsEffects.{known_after}
use Rattle.run_executor.specs.Given.EffectsKnown.{Known}
use Rattle.run_executor.specs.Given.EffectsDeclared.acting.Acting.TheVariants as acts
use Rattle.run_executor.specs.Given.EffectsDeclared.role.Role.{Role}
use Rattle.run_executor.specs.Given.EffectsDeclared.role.Role.TheVariants as role
use Rattle.run_executor.specs.Given.ScenesDeclared.row.RowTold.{RowTold}
use Rattle.run_executor.specs.Given.ScenesDeclared.row.SlotRow.{SlotRow}
use Rattle.run_executor.specs.Given.FinishesEndings.{Finishing}
use Rattle.run_executor.specs.Given.FinishesMachines.{machine_of}
use Rattle.run_executor.specs.Given.FinishesMakings.{Beginning}
use Rattle.run_executor.specs.Given.FollowsBlocks.{HasRole}
use Rattle.run_executor.proofs.Given.FollowsAlike.{put_elsewhere}
use Rattle.run_executor.proofs.Given.FollowsOnward.{IsOfMap}
use Rattle.run_executor.proofs.Given.FollowsTold.{roomed_as_many}
use Rattle.run_executor.specs.Given.OthersMakings.{WasNew}
use Rattle.run_executor.proofs.Given.OthersRowPlans.{TellsRow, row_tells}
use Rattle.run_executor.specs.Given.MomentsWhole.{RefinesWhole}
use Rattle.run_blocks.proofs.Owes.Lasting.{IsAside, ending_says, ending_spares}
use Rattle.run_blocks.specs.Given.SettlesDue.{due_in_settle, due_in_defer}
use Rattle.run_blocks.specs.Given.SettlesHand.{HoldsOfPending, IsPairRole, IsTableRole, IsPairAt, IsTableAt, IsSameRole, NotesPending, SamePending}
use Rattle.run_blocks.proofs.Given.SettlesHand.Held.{IsTakenOut, IsDueBlock, IsHeld, HeldOut, HeldByRow, Held as HeldBy, due_of_row, held_in_hand}
use Rattle.run_blocks.proofs.Given.SettlesHand.Roles.{hand_both}
use Rattle.run_waiting.specs.Lives.Retired.{IsPendingRetirement, IsToRetire, RefinesRetiredTables}
use Rattle.run_waiting.proofs.Lives.Makings.{role_kept}
use Rattle.run_waiting.proofs.Lives.Reclaimed.{leaves, none_to_retire, there}
use Rattle.run_waiting.proofs.Lives.Retires.{given_hand, row_life}
use Rattle.run_waiting.proofs.Lives.Rows.{on_the_way}
use Rattle.run_waiting.proofs.Lives.Taken.{told_retired}
use Rattle.run_waiting.proofs.Lives.Worlds.{Kept, runs_kept, start_kept, waiting_hand}
use Rattle.run_executor.proofs.Given.ScenesMay.{standing_is}
use Rattle.run_executor.specs.Given.ScenesEnding.{EndingLeads}
use Rattle.run_executor.specs.Given.ScenesHeld.{Held, IsAt}
use Rattle.run_executor.specs.Given.ScenesMaking.{MakingLeads}
use Rattle.run_executor.specs.Given.ScenesOnSlots.{RowLeads}
use Rattle.run_executor.specs.Given.ScenesScene.{IsOnSlot, Scene, slot_of}

-- what a row is to retire, or to put behind another block

settle_due : (b : ℕ) (c : Settle) (p : Settling) → IsDueBlock b (due_in_settle c p) → IsPendingRetirement b (due_in_settle c p)
settle_due b c settling.Sees due = due
settle_due b c settling.Holds due = due
settle_due b c settling.Pops due = due
settle_due b c (settling.Firsts block) due = due
settle_due b c (settling.Batches block) due = due
settle_due b c _ due = absurd due

module _ (n i : ℕ) (f : View) (m : State) (x : Extra) (b : ℕ) where
  defer_on : (s : ℕ) (c : Defer) (p : Deferring) → IsOnWay p → FitsDefer n i f m x s c.block c.table_word p → block_in c.block ≡ b → (t : ℕ) × (m.life b ≡ IsDeferring i s t)
  defer_on s c p on fits names =
      let way = on_the_way n i f m x s c.block c.table_word p on fits in
      let one : b ≡ way.b = sym names ∙ ap block_in way.block_is ∙ link-block way.b in (way.t, ap m.life one ∙ way.life)

  defer_life : (s : ℕ) (c : Defer) (p : Deferring) → FitsDefer n i f m x s c.block c.table_word p → IsDueBlock b (due_in_defer c p) → (t : ℕ) × (m.life b ≡ IsDeferring i s t)
  defer_life s c deferring.Reads fits due = defer_on s c deferring.Reads tt fits due
  defer_life s c (deferring.Links head) fits due = defer_on s c (deferring.Links head) tt fits due
  defer_life s c (deferring.Pushes head) fits due = defer_on s c (deferring.Pushes head) tt fits due
  defer_life s c deferring.Over fits due = absurd due

-- what is out, or due, was not retired; the collector has it just if it is due
module _ {T : Type 0} (defers : T → Option ℕ) (size : ℕ) (w : World T) (k : Kept defers size w) (i b : ℕ) where
  abbrev life : Life
  life = k.good.state.life b

  given : is_retired b w.log ≡ true → is_given life ≡ true
  given retired = sym (k.good.inv.logged.given b) ∙ ap (is_retired b) k.good.logged ∙ retired

  pub held_unretired : IsHeld w i b → is_retired b w.log ≡ true → ⊥
  held_unretired (HeldOut out) retired = subst IsTakenOut (given_hand (w.hand b) life (given retired) (k.good.hands b)) out
  held_unretired (HeldByRow due) retired = by (w.row i) refl due
    where
      by : (row : Row) → w.row i ≡ row → IsDueBlock b (due_of_row row) → ⊥
      by (Settles c) is its_due = none_to_retire defers size w k i b retired (subst (IsToRetire b) (sym is) (settle_due b c c.stands its_due))
      by (Defers s c) is its_due =
          let fits = subst (FitsRow (LAST_SLOT + 1) i (view defers w.memory) k.good.state k.good.extra _) is (k.good.rows i) in
          let deferred = defer_life (LAST_SLOT + 1) i (view defers w.memory) k.good.state k.good.extra b s c c.stands fits its_due in
          (let yes = given retired in let no : is_given life ≡ is_given (IsDeferring i s deferred.0) = ap is_given deferred.1 in cc (yes, no))
      by Rests is its_due = absurd its_due
      by (Registers c) is its_due = absurd its_due
      by (Enters c) is its_due = absurd its_due
      by (Leaves c) is its_due = absurd its_due
      by (Frees c) is its_due = absurd its_due

  -- where it is there
  module _ (value : T) (there_is : value_at w.memory b ≡ Some value) where
    alive : 0 < b
    alive = live_pos w.memory b (ap is_some there_is)

    handed : is_in_wait life ≡ true → w.hand b ≡ Handed
    handed waits = waiting_hand (w.hand b) life waits (k.good.hands b)

    pub held_hand : IsHeld w i b → IsTakenOut (w.hand b) ⊎ (w.hand b ≡ Handed)
    held_hand (HeldOut out) = inl out
    held_hand (HeldByRow due) = inr (by (w.row i) refl due)
      where
        by : (row : Row) → w.row i ≡ row → IsDueBlock b (due_of_row row) → w.hand b ≡ Handed
        by (Settles c) is its_due =
            handed (ap is_in_wait (row_life (LAST_SLOT + 1) i (view defers w.memory) k.good.state k.good.extra k.good.inv k.good.shows b alive _ (w.row i) (k.good.rows i)
            (subst (IsToRetire b) (sym is) (settle_due b c c.stands its_due))))
        by (Defers s c) is its_due =
            let fits = subst (FitsRow (LAST_SLOT + 1) i (view defers w.memory) k.good.state k.good.extra _) is (k.good.rows i) in
            handed (ap is_in_wait (defer_life (LAST_SLOT + 1) i (view defers w.memory) k.good.state k.good.extra b s c c.stands fits its_due).1)
        by Rests is its_due = absurd its_due
        by (Registers c) is its_due = absurd its_due
        by (Enters c) is its_due = absurd its_due
        by (Leaves c) is its_due = absurd its_due
        by (Frees c) is its_due = absurd its_due

-- it is neither in use nor left over
not_used : (h : Hand) (o : ℕ) → IsTakenOut h ⊎ (h ≡ Handed) → h ≡ InUse o → ⊥
not_used h o (inl out) is = subst IsTakenOut is out
not_used h o (inr handed) is = cc (handed, is)

not_over : (h : Hand) (j : ℕ) → IsTakenOut h ⊎ (h ≡ Handed) → h ≡ LeftTo j → ⊥
not_over h j (inl out) is = subst IsTakenOut is out
not_over h j (inr handed) is = cc (handed, is)

module _ {K V : Type 0} (same : K → K → Bool) (hash : ℕ → K → ℕ) (name : ℕ → List ℕ) (m : Moment K V) (known : Known) (s : Scene K V) (old new : Held K V) (at : IsAt same hash old s)
    (whole : RefinesWhole same name m known s) (retired : RefinesRetiredTables m known s) where
  abbrev w : World (Node K V)
  w = s.world

  abbrev told : Changed
  told = new.changed

  abbrev size : ℕ
  size = old.batch_size

  kept_world : Kept deferred_word size w
  kept_world = (let about : CameAbout size w = at.together.makings.standing.came in runs_kept deferred_word size about.1 _ w (start_kept deferred_word size about.0) about.2)

  -- of a call
  module _ (map j : ℕ) (u : UnderWay K V K) (call : s.calls map j ≡ Some u) where
    holds : HoldsOfPending (HeldBy w j) (HeldBy w j) (machine_of u)
    holds =
        let its_map = standing_is same hash old s at map j u call in
        let st = its_map.0 in
        held_in_hand same st.hash st.setting w j st.chart (seen_by st.blocks (st.sights (slot_of j)))
        (λ n phase borrowed.
        words_name_pairs (seen_by st.blocks (st.sights (slot_of j))).pair (λ k. byte_of st.hash (st.chart.key k)) n phase borrowed
        (bytes_are_few st.hash (at.together.makings.standing.fit map st its_map.1).0.fits (st.chart.key n)))
        u ((at.together.makings.standing.each map st its_map.1).stand j u call)

    -- blocks that are held, and noted as pairs and tables, are what they were where this is so of each such block
    in_hand_so : (known2 : Known) → ((b : ℕ) → IsHeld w j b → IsOfMap (known.roles b) → known2.roles b ≡ known.roles b) → NotesPending known (machine_of u) → SamePending known known2 (machine_of u)
    in_hand_so known2 each noted =
        hand_both (IsPairAt known) (HeldBy w j) (IsSameRole known known2) (IsTableAt known) (HeldBy w j) (IsSameRole known known2)
        (λ b is held. each b held (pair_of_map (known.roles b) is)) (λ b is held. each b held (table_of_map (known.roles b) is)) (machine_of u) noted holds
      where
        pair_of_map : (r : Role) → IsPairRole r → IsOfMap r
        pair_of_map (role.Pair n) is = tt
        pair_of_map _ is = absurd is

        table_of_map : (r : Role) → IsTableRole r → IsOfMap r
        table_of_map (role.Table t len) is = tt
        table_of_map _ is = absurd is

  -- a block of a pair, or of a table, is there, and no counter
  record IsThere (b : ℕ) : Type 0 where
    pub value : Node K V
    pub is : value_at w.memory b ≡ Some value
    pub other : value ≡ node.Shards → ⊥

  of_map_there : (b : ℕ) → IsOfMap (known.roles b) → IsThere b
  of_map_there b its_map = by (known.roles b) its_map (whole.all.shown.blocks.roles b)
    where
      by : (r : Role) → IsOfMap r → HasRole w m.stored b r → IsThere b
      by (role.Pair n) of has = record { value = node.Pair has.0 has.1; is = has.3; other = λ e. cc e }
      by (role.Table t len) of has = record { value = node.Table len has.0 t.turn; is = has.1; other = λ e. cc e }
      by role.Free of has = absurd of
      by (role.OwnPair caller) of has = absurd of
      by (role.OwnTable turn shape) of has = absurd of
      by (role.Counter c) of has = absurd of

  -- a row on a slot
  module _ (i : ℕ) (said : RowTold (Node K V)) (leads : RowLeads same hash i said s old new) (row : SlotRow) (here : IsOnSlot s i row) where
    untaken : (j b : ℕ) → IsHeld w j b → told ≡ changed.Took b → ⊥
    untaken j b held is =
        held_unretired deferred_word size w kept_world j b held
        (told_retired size w at.together.makings.standing.came (there same hash name m known s old new at whole retired i said leads row here) i (leads row here).2.0 (leads row here).2.1 told
        (leaves same hash name m known s old new at whole retired i said leads row here) b is)

    row_role : (j b : ℕ) → IsHeld w j b → (x : Changed) → told ≡ x → TellsRow x → (known_after acts.Row x known).roles b ≡ known.roles b
    row_role j b held changed.Nothing e is = refl
    row_role j b held (changed.Wrote (Slot t field) before after) e is = refl
    row_role j b held (changed.Wrote (Entry x field) before after) e is = refl
    row_role j b held (changed.Wrote (Root r) before after) e is = absurd is
    row_role j b held (changed.Wrote (Used r) before after) e is = absurd is
    row_role j b held (changed.Wrote (Word x field) before after) e is = absurd is
    row_role j b held (changed.Made kind x) e is = absurd is
    row_role j b held (changed.Unmade kind) e is = absurd is
    row_role j b held (changed.Took x) e is = put_elsewhere x role.Free known.roles b (λ one. untaken j b held (e ∙ ap changed.Took (sym one)))
    row_role j b held (changed.Roomed bucket had) e is = ap (λ (f : ℕ → Role). f b) (roomed_as_many acts.Row known bucket had).0

    pub rows_leave_in_hand : (map j : ℕ) (u : UnderWay K V K) → s.calls map j ≡ Some u → NotesPending known (machine_of u) → SamePending known (known_after acts.Row told known) (machine_of u)
    rows_leave_in_hand map j u call noted =
        let to = leads row here in
        in_hand_so map j u call (known_after acts.Row told known)
        (λ b held of. row_role j b held told refl (row_tells old.memory new.memory told (to.0, said) row to.1)) noted

  -- the making of a map
  pub makings_leave_in_hand : (i : ℕ) (said : Advance Setting) (leads : MakingLeads same hash i said s old new) (b : Beginning K) (here : s.makers i ≡ Some b) (of : Option ℕ) → WasNew b.map said m
      → (map j : ℕ) (u : UnderWay K V K) → s.calls map j ≡ Some u → NotesPending known (machine_of u) → SamePending known (known_after (acts.Making b.map) told known) (machine_of u)
  makings_leave_in_hand i said leads b here of was_new map j u call noted =
      in_hand_so map j u call (known_after (acts.Making b.map) told known)
      (λ x held its_map. role_kept same hash name m known s old new at whole i said leads b here of was_new x (known.roles x) refl its_map) noted

  -- the end of a map, that does not stand then
  pub endings_leave_in_hand : (i : ℕ) (said : Settled (Node K V)) (leads : EndingLeads same hash i said s old new) (f : Finishing K V) (here : s.enders i ≡ Some f) (ended : ℕ) → s.maps ended ≡ None
      → (map j : ℕ) (u : UnderWay K V K) → s.calls map j ≡ Some u → NotesPending known (machine_of u) → SamePending known (known_after (acts.Ending ended) told known) (machine_of u)
  endings_leave_in_hand i said leads f here ended not_there map j u call noted = in_hand_so map j u call (known_after (acts.Ending ended) told known) each noted
    where
      aside : (b : ℕ) → IsHeld w j b → IsOfMap (known.roles b) → IsAside w b
      aside b held of =
          let it = of_map_there b of in
          let hand = held_hand deferred_word size w kept_world j b it.value it.is held in
          record { used = λ o is. not_used (w.hand b) o hand is; over = λ k is. not_over (w.hand b) k hand is; value = it.value; there = it.is; other = it.other }

      each : (b : ℕ) → IsHeld w j b → IsOfMap (known.roles b) → (known_after (acts.Ending ended) told known).roles b ≡ known.roles b
      each b held of =
          let went = leads f here in
          elim (ending_says same hash name m known s old new at whole.all.shown i f here went.0 said went.1 went.2 ended not_there went.3)
          as (λ _. (known_after (acts.Ending ended) told known).roles b ≡ known.roles b) [
            | inl it ↦ ap (λ (g : ℕ → Role). g b) it.1
            | inr it ↦
                ap (λ (x : Changed). (known_after (acts.Ending ended) x known).roles b) it.1
                ∙ put_elsewhere it.0 role.Free known.roles b (λ one.
                ending_spares same hash name m known s old new at whole.all.shown i f here went.0 said went.1 went.2 ended not_there went.3 b (aside b held of) (it.1 ∙ ap changed.Took (sym one)))
          ]

-- What is handed over, where rows begin and step on slots, and where nothing happens: a pair that a row reclaims was handed over, and what waits behind a table that it reclaims is so
-- then; while no row is under way, all that is handed over was retired.
use Rattle.std.specs.Prelude.{◌≡◌, ◌⊎◌, ℕ, nat_lt, ◌&&◌, Bool, true, false, List, [], ◌∷◌, Option, Some, None, IsSome, if◌then◌else◌}
use Rattle.std.proofs.Common.{refl, ap, sym, subst, ◌∙◌, inl, inr}
use Rattle.run_debts.specs.Given.SeizeWordsMem.{value_at}
use Rattle.run_debts.specs.Given.SeizeWordsDeclared.at.At.TheVariants.{Root, Used, Slot, Entry, Word}
use Rattle.run_debts.specs.Given.SeizeLaw.{is_retired as was_retired}
use Rattle.run_debts.specs.Given.SeizeSequence.{taken_in}
use Rattle.run_debts.specs.Given.SeizeWorld.{World, Hand, Handed, times}
use Rattle.run_debts.proofs.Given.SeizeMovesState.Ghost.{is_given}
use Rattle.run_debts.proofs.Given.SeizeRuleRows.Effects.{hand_kept}
use Rattle.run_debts.proofs.Given.SeizeAloneHistories.Reached.{Reached}
use Rattle.run_debts.proofs.Given.SeizeAloneSpared.Rows.{RowStepped}
use Rattle.run_debts.specs.Given.TablesNodes.{deferred_word}
use Rattle.run_debts.specs.Given.TablesDeclared.node.Node.{Node}
use Rattle.run_debts.specs.Given.RunsDeclared.effect.Effect.TheVariants.{Asked}
use Rattle.run_debts.specs.Given.RunsDeclared.effect.Growth.TheVariants.{ABucket}
use Rattle.run_debts.specs.Given.RunsDeclared.effect.TableId.{TableId}
use Rattle.run_debts.specs.Given.SchedulesEffects.{with_effects, AtEachEffect}
use Rattle.run_debts.specs.Given.SchedulesLists.{is_among}
use Rattle.run_debts.specs.Given.SchedulesMoment.{Place, Behind, TableThere, Moment}
use Rattle.run_debts.specs.Given.SchedulesReclaims.{is_handed}
use Rattle.run_debts.specs.Given.SchedulesViews.{behind, is_stage, is_retired}
use Rattle.run_debts.specs.Given.EffectsDeclared.changed.Changed.{Changed}
use Rattle.run_debts.specs.Given.EffectsDeclared.changed.Changed.TheVariants as changed
use Rattle.run_debts.specs.Given.CallersTogether.{CameAbout}
use Rattle.run_debts.specs.Given.EffectsEffects.{names_same, taken_by, effects_of, known_after}
use Rattle.run_debts.specs.Given.EffectsKnown.{Known}
use Rattle.run_debts.specs.Given.EffectsDeclared.acting.Acting.TheVariants.{Row}
use Rattle.run_debts.specs.Given.EffectsDeclared.role.Role.{Role}
use Rattle.run_debts.specs.Given.EffectsDeclared.role.Role.TheVariants as role
use Rattle.run_debts.specs.Given.ScenesDeclared.row.RowTold.{RowTold}
use Rattle.run_debts.specs.Given.ScenesDeclared.row.SlotRow.{SlotRow}
use Rattle.run_debts.proofs.Given.FollowsOperations.{LeavesBy}
use Rattle.run_debts.proofs.Given.OthersRowPlans.{TellsRow, row_tells}
use Rattle.run_debts.specs.Given.MomentsWhole.{RefinesWhole}
use Rattle.run_debts.proofs.Given.MomentsOnSlots.{begun_hands}
use Rattle.run_waiting.specs.Lives.Behind.{IsLeft, IsDeferredTo, RefinesWaiting}
use Rattle.run_waiting.specs.Lives.Handed.{IsToHand, IsHandedOver, HasGone, is_deferred, RefinesHanded, HadHanded, HandedBegins, OthersLeaveHanded, EndingsBeginHanded, HandedAtQuiescence, RowsBeginHanded, RowsPreserveHanded, RowsFindHanded}
use Rattle.run_waiting.specs.Lives.Waiting.{waits_behind}
use Rattle.run_waiting.proofs.Lives.Each.{WaitsAt, found}
use Rattle.run_waiting.proofs.Lives.HandedEffects.{deferred_at}
use Rattle.run_waiting.proofs.Lives.HandedMeant.{none_to_hand}
use Rattle.run_waiting.proofs.Lives.HandedOver.{came_listed, steps_over}
use Rattle.run_waiting.proofs.Lives.HandedTaken.{taking_keeps}
use Rattle.run_waiting.proofs.Lives.Listed.{retired_at_rest}
use Rattle.run_waiting.proofs.Lives.Logs.{waits_no_more}
use Rattle.run_debts.proofs.Given.ScenesNoCall.{no_call}
use Rattle.run_waiting.proofs.Lives.Reclaimed.{begun_rows}
use Rattle.run_waiting.proofs.Lives.Retires.{given_hand, handed_before}
use Rattle.run_waiting.proofs.Lives.Taken.{kept, it, left_unretired, not_taken, told_retired, told_taken}
use Rattle.run_waiting.proofs.Lives.Waiting.{begun_log, left, reached}
use Rattle.run_waiting.proofs.Lives.Worlds.{Kept, unretired, has_it}
use Rattle.run_debts.specs.Given.ScenesHeld.{Held, IsAt}
use Rattle.run_debts.specs.Given.ScenesOnSlots.{RowLeads}
use Rattle.run_debts.specs.Given.ScenesScene.{HasCall, IsOnSlot, Scene, slot_of}

module _ {K V : Type 0} (same : K → K → Bool) (hash : ℕ → K → ℕ) (name : ℕ → List ℕ) (m : Moment K V) (known : Known) (s : Scene K V) (old new : Held K V) (at : IsAt same hash old s)
    (whole : RefinesWhole same name m known s) (waiting : RefinesWaiting m known s.world) (shows : RefinesHanded m known s) (i : ℕ) (said : RowTold (Node K V)) (leads : RowLeads same hash i said s old new)
    (row : SlotRow) (here : IsOnSlot s i row) where
  abbrev w : World (Node K V)
  w = s.world

  abbrev w2 : World (Node K V)
  w2 = (leads row here).2.0

  abbrev s2 : Scene K V
  s2 = record s { world = w2; maps = (leads row here).2.2 }

  abbrev told : Changed
  told = new.changed

  abbrev size : ℕ
  size = old.batch_size

  came : CameAbout size w
  came = at.together.makings.standing.came

  there : Reached deferred_word size w
  there = (let to = leads row here in reached K V same hash s old new at i row here (to.0, said) to.1 to.2)

  tells : TellsRow told
  tells = (let to = leads row here in row_tells old.memory new.memory told (to.0, said) row to.1)

  leaves : LeavesBy w.memory w2.memory told
  leaves = (let to = leads row here in left K V same hash s old new at i row here (to.0, said) to.1 to.2)

  its : Kept deferred_word size w
  its = kept size w came there i w2 (leads row here).2.1

  abbrev stepped : RowStepped deferred_word i w w2
  stepped = it size w came there i w2 (leads row here).2.1

  had : (b : ℕ) → w2.hand b ≡ Handed → w.hand b ≡ Handed
  had b handed = handed_before stepped.effects w.hand b (sym (ap (λ (h : ℕ → Hand). h b) stepped.hands) ∙ handed)

  -- a block that is there is not taken
  untaken : (b : ℕ) → IsSome (value_at w2.memory b) → times b (taken_in stepped.effects) ≡ 0
  untaken b some = by (value_at w2.memory b) refl some
    where
      by : (o : Option (Node K V)) → value_at w2.memory b ≡ o → IsSome o → times b (taken_in stepped.effects) ≡ 0
      by (Some value) is there_is = not_taken size w came there i w2 (leads row here).2.1 b value is
      by None is there_is = absurd (cc there_is)

  over_then : (b : ℕ) → times b (taken_in stepped.effects) ≡ 0 → IsHandedOver w b → IsHandedOver w2 b
  over_then b none over = steps_over deferred_word size i w w2 b over stepped none

  -- the row of a call is under way as it was
  abbrev Due : Scene K V → ℕ → Type 0
  Due x b = (j : ℕ) × HasCall x j × IsToHand b (x.world.row j)

  due_then : (b : ℕ) → Due s b → Due s2 b
  due_then b due = (due.0, due.1, subst (IsToHand b) (sym (stepped.rows due.0 (λ same_one. no_call s i here.0 (subst (HasCall s) same_one due.1)))) due.2)

  over_on : (b : ℕ) → IsSome (value_at w2.memory b) → IsHandedOver w b → IsHandedOver w2 b
  over_on b some over = over_then b (untaken b some) over

  freed_on : (x b : ℕ) → told ≡ changed.Took x → IsSome (value_at w2.memory b) → waits_behind b w.log ≡ Some x → IsHandedOver w2 b
  freed_on x b is some waits = (
    ap (λ (h : ℕ → Hand). h b) stepped.hands ∙ hand_kept b stepped.effects w.hand (untaken b some) stepped.one ∙ has_it deferred_word size w its b x waits,
    ap (waits_behind b) stepped.logged ∙ waits_no_more b x stepped.effects w.log stepped.one (told_taken size w came there i w2 (leads row here).2.1 told leaves x is) waits,
  )

  not_left : (x len : ℕ) (t : TableId) → told ≡ changed.Took x → known.roles x ≡ role.Table t len → IsLeft (w.hand x) → ⊥
  not_left x len t is table over =
      (let none = left_unretired size w came there i w2 (leads row here).2.1 x over in let some = told_retired size w came there i w2 (leads row here).2.1 told leaves x is in cc (some, none))

  pub keeps : RefinesHanded (with_effects None None (effects_of Row known told) m) (known_after Row told known) s2
  keeps = taking_keeps same name m known s s2 whole waiting shows told tells leaves had over_on freed_on not_left due_then

  -- a pair that is reclaimed was handed over
  had_handed : (x n : ℕ) → told ≡ changed.Took x → known.roles x ≡ role.Pair n → is_handed (m.place n) ≡ true
  had_handed x n e its_role = by (shows.pairs x n its_role has)
    where
      retired : was_retired x w.log ≡ true
      retired = told_retired size w came there i w2 (leads row here).2.1 told leaves x e

      given : is_given (its.good.state.life x) ≡ true
      given = sym (its.good.inv.logged.given x) ∙ ap (was_retired x) its.good.logged ∙ retired

      has : w.hand x ≡ Handed
      has = given_hand (w.hand x) (its.good.state.life x) given (its.good.hands x)

      no_wait : (t : TableId) → is_among n (behind t m.deferred) ≡ true → ⊥
      no_wait t among = at_table l.waits
        where
          a : WaitsAt (λ k u. (m.place k ≡ Behind) × IsDeferredTo known w k u) n t
          a = found (λ k u. (m.place k ≡ Behind) × IsDeferredTo known w k u) n t m.deferred waiting among

          l : IsDeferredTo known w n a.one.behind
          l = subst (λ (k : ℕ). IsDeferredTo known w k a.one.behind) a.number a.so.1

          same_pair : l.pair ≡ x
          same_pair = whole.all.shown.blocks.once l.pair x n l.is_pair its_role

          at_table : (waits_behind l.pair w.log ≡ Some l.table) ⊎ (IsLeft (w.hand l.pair) × IsLeft (w.hand l.table)) → ⊥
          at_table (inl waits) =
              (let none = unretired deferred_word size w its l.pair l.table waits in let some : was_retired l.pair w.log ≡ true = ap (λ (k : ℕ). was_retired k w.log) same_pair ∙ retired in cc (some, none))
          at_table (inr both) = subst IsLeft (ap w.hand same_pair ∙ has) both.0

      by : HasGone m s x n → is_handed (m.place n) ≡ true
      by (inl so) = so
      by (inr (inl waits)) = (let a = deferred_at n m.deferred waits in absurd (no_wait a.0 a.1))
      by (inr (inr due)) = absurd (none_to_hand deferred_word size w its due.0 x retired due.2)

  taken_finds : (x : ℕ) (r : Role) → told ≡ changed.Took x → known.roles x ≡ r → AtEachEffect HadHanded None None (taken_by Row r) m
  taken_finds x role.Free e its_role = tt
  taken_finds x (role.OwnPair j) e its_role = (tt, tt)
  taken_finds x (role.OwnTable turn shape) e its_role = (tt, tt)
  taken_finds x (role.Pair n) e its_role = (had_handed x n e its_role, tt)
  taken_finds x (role.Table t len) e its_role = (tt, tt)
  taken_finds x (role.Counter of) e its_role = tt

  nothing_finds : (q : Bool) → AtEachEffect HadHanded None None (if q then [] else []) m
  nothing_finds true = tt
  nothing_finds false = tt

  roomed_finds : (q : Bool) → AtEachEffect HadHanded None None (if q then [] else Asked ABucket ∷ []) m
  roomed_finds true = tt
  roomed_finds false = (tt, tt)

  pub finds : (x : Changed) → told ≡ x → TellsRow x → AtEachEffect HadHanded None None (effects_of Row known x) m
  finds changed.Nothing e is = tt
  finds (changed.Wrote (Slot t field) before after) e is = tt
  finds (changed.Wrote (Entry b field) before after) e is = nothing_finds (names_same before after)
  finds (changed.Wrote (Root r) before after) e is = absurd is
  finds (changed.Wrote (Used r) before after) e is = absurd is
  finds (changed.Wrote (Word b field) before after) e is = absurd is
  finds (changed.Made kind b) e is = absurd is
  finds (changed.Unmade kind) e is = absurd is
  finds (changed.Took x) e is = taken_finds x (known.roles x) e refl
  finds (changed.Roomed bucket had_room) e is = roomed_finds (had_room && nat_lt bucket known.buckets)

pub handed_begins : (K V : Type 0) → HandedBegins K V
handed_begins K V roots = record { pairs = λ b n is handed. absurd (cc is); handed = λ n is. absurd (cc is); tables = λ t is. absurd (cc is) }

pub others_leave_handed : (K V : Type 0) → OthersLeaveHanded K V
others_leave_handed K V m v known s t shows place deferred tables world stay = record {
  pairs = λ b n is handed. by b n (shows.pairs b n is (sym (ap (λ (z : World (Node K V)). z.hand b) world) ∙ handed));
  handed = λ n is. let one = shows.handed n (sym (ap (λ (f : ℕ → Place). is_handed (f n)) place) ∙ is) in (one.0, one.1, subst (λ (z : World (Node K V)). IsHandedOver z one.0) (sym world) one.2);
  tables = λ x is.
      let one = shows.tables x (sym (ap (λ (ts : List TableThere). is_stage is_retired x (record m { tables = ts })) tables) ∙ is) in
      (one.0, one.1, one.2, subst (λ (z : World (Node K V)). IsHandedOver z one.0) (sym world) one.3);
}
  where
    by : (b n : ℕ) → HasGone m s b n → HasGone v t b n
    by b n (inl is) = inl (ap (λ (f : ℕ → Place). is_handed (f n)) place ∙ is)
    by b n (inr (inl is)) = inr (inl (ap (is_deferred n) deferred ∙ is))
    by b n (inr (inr due)) =
        let row = subst (λ (z : World (Node K V)). IsToHand b (z.row due.0)) (sym world) due.2 in
        elim (stay due.0 due.1) as (λ _. HasGone v t b n) [
          | inl has ↦ inr (inr (due.0, has, row))
          | inr rests ↦ absurd (subst (IsToHand b) rests row)
        ]

pub endings_begin_handed : (K V : Type 0) → EndingsBeginHanded K V
endings_begin_handed K V m known s shows map i standing = record { pairs = shows.pairs; handed = shows.handed; tables = shows.tables }

pub handed_at_rest : (K V : Type 0) → HandedAtQuiescence K V
handed_at_rest K V size m known s came shows rests = (
  λ n is. let one = shows.handed n is in (one.0, one.1, retired_at_rest deferred_word size s.world (came_listed size s.world came) rests one.0 one.2.0 one.2.1),
  λ t is. let one = shows.tables t is in (one.0, one.1, one.2, retired_at_rest deferred_word size s.world (came_listed size s.world came) rests one.0 one.3.0 one.3.1),
)

module _ (K V : Type 0) (same : K → K → Bool) (hash : ℕ → K → ℕ) where
  pub rows_begin_handed : RowsBeginHanded K V same hash
  rows_begin_handed m known s old new at shows called i leads = record {
    pairs = λ b n is handed. by b n (shows.pairs b n is (sym (ap (λ (h : ℕ → Hand). h b) hands) ∙ handed));
    handed = λ n is. let one = shows.handed n is in (one.0, one.1, over one.0 one.2);
    tables = λ t is. let one = shows.tables t is in (one.0, one.1, one.2, over one.0 one.3);
  }
    where
      w3 : World (Node K V)
      w3 = leads.2.0

      hands : w3.hand ≡ s.world.hand
      hands = begun_hands old.batch_size (slot_of i) i s.world leads.2.0 called leads.2.1.1

      over : (b : ℕ) → IsHandedOver s.world b → IsHandedOver w3 b
      over b its = (
        ap (λ (h : ℕ → Hand). h b) hands ∙ its.0,
        ap (waits_behind b) (begun_log old.batch_size (slot_of i) i s.world leads.2.0 called leads.2.1.1) ∙ its.1,
      )

      by : (b n : ℕ) → HasGone m s b n → (is_handed (m.place n) ≡ true) ⊎ (is_deferred n m.deferred ≡ true) ⊎ ((j : ℕ) × HasCall s j × IsToHand b (w3.row j))
      by b n (inl is) = inl is
      by b n (inr (inl is)) = inr (inl is)
      by b n (inr (inr due)) =
          let other : due.0 ≡ i → ⊥ = (λ e. subst (IsToHand b) (ap s.world.row e ∙ leads.2.1.0) due.2) in
          inr (inr (due.0, due.1, subst (IsToHand b) (sym (begun_rows old.batch_size (slot_of i) i s.world leads.2.0 called leads.2.1.1 due.0 other)) due.2))

  pub rows_keep_handed : RowsPreserveHanded K V same hash
  rows_keep_handed name m known s old new at whole waiting shows i told leads row here =
      keeps same hash name m known s old new at whole waiting shows i told leads row here

  pub rows_find_handed : RowsFindHanded K V same hash
  rows_find_handed name m known s old new at whole waiting shows i told leads row here =
      let to = leads row here in
      finds same hash name m known s old new at whole waiting shows i told leads row here new.changed refl (row_tells old.memory new.memory new.changed (to.0, told) row to.1)

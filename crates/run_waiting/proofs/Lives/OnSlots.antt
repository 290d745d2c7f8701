-- A step of a row on a slot leaves what waits behind tables there: of the blocks of what waits it takes none, and with a table it takes what waits behind that off
-- the list.
use Rattle.std.specs.Prelude.{◌≡◌, ◌⊎◌, ℕ, nat_lt, ◌&&◌, Bool, true, false, not, List, [], ◌∷◌, filter, Option, Some, None, if◌then◌else◌}
use Rattle.std.proofs.Common.{refl, ap, sym, subst, ◌∙◌, inl, inr}
use Rattle.run_debts.specs.Given.SeizeWordsDeclared.at.At.TheVariants.{Root, Used, Slot, Entry, Word}
use Rattle.run_debts.specs.Given.SeizeWordsMem.{value_at}
use Rattle.run_debts.specs.Given.SeizeLaw.{is_retired}
use Rattle.run_debts.specs.Given.SeizeSequence.{taken_in}
use Rattle.run_debts.specs.Given.SeizeWorld.{World, Hand, Handed, Steps', times}
use Rattle.run_debts.proofs.Given.SeizeRuleRows.Effects.{hand_kept}
use Rattle.run_debts.proofs.Given.SeizeAloneHistories.NotTaken.{did}
use Rattle.run_debts.proofs.Given.SeizeAloneHistories.Reached.{Reached}
use Rattle.run_debts.proofs.Given.SeizeAloneSpared.Rows.{RowStepped}
use Rattle.run_debts.specs.Given.TablesNodes.{deferred_word}
use Rattle.run_debts.specs.Given.TablesDeclared.node.Node.{Node}
use Rattle.run_debts.specs.Given.RunsDeclared.effect.Effect.TheVariants.{Asked}
use Rattle.run_debts.specs.Given.RunsDeclared.effect.Growth.TheVariants.{ABucket}
use Rattle.run_debts.specs.Given.RunsDeclared.effect.TableId.{TableId}
use Rattle.run_debts.specs.Given.SchedulesEffects.{all_at, with_effects}
use Rattle.run_debts.specs.Given.SchedulesLists.{is_among, put}
use Rattle.run_debts.specs.Given.SchedulesMoment.{Place, Behind, Handed as IsHanded, GivenBack, Deferral, Moment}
use Rattle.run_debts.specs.Given.SchedulesThings.{same_table}
use Rattle.run_debts.specs.Given.SchedulesViews.{behind}
use Rattle.run_debts.specs.Given.EffectsDeclared.changed.Changed.{Changed}
use Rattle.run_debts.specs.Given.EffectsDeclared.changed.Changed.TheVariants as changed
use Rattle.run_debts.specs.Given.CallersTogether.{CameAbout}
use Rattle.run_debts.specs.Given.EffectsEffects.{names_same, taken_by, effects_of, known_after}
use Rattle.run_debts.specs.Given.EffectsKnown.{Known, with_role}
use Rattle.run_debts.specs.Given.EffectsDeclared.acting.Acting.TheVariants.{Row}
use Rattle.run_debts.specs.Given.EffectsDeclared.role.Role.{Role}
use Rattle.run_debts.specs.Given.EffectsDeclared.role.Role.TheVariants as role
use Rattle.run_debts.specs.Given.FollowsBlocks.{HasRole}
use Rattle.run_debts.specs.Given.FollowsShows.{Refines}
use Rattle.run_debts.proofs.Given.FollowsAlike.{put_elsewhere}
use Rattle.run_debts.proofs.Given.FollowsOperations.{LeavesBy}
use Rattle.run_debts.proofs.Given.FollowsTold.{roomed_as_many}
use Rattle.run_debts.proofs.Given.OthersRowPlans.{TellsRow}
use Rattle.run_debts.specs.Given.SpotsUnreclaimed.{RefinesUnreclaimed}
use Rattle.run_debts.proofs.Given.SpotsUnreclaimed.{table_is, same_itself}
use Rattle.run_waiting.specs.Lives.Behind.{IsLeft, IsDeferredTo, EachWaits, RefinesWaiting}
use Rattle.run_waiting.specs.Lives.Waiting.{waits_behind}
use Rattle.run_waiting.proofs.Lives.Each.{WaitsAt, each_on, each_kept, found}
use Rattle.run_waiting.proofs.Lives.Logs.{waits_on}
use Rattle.run_waiting.proofs.Lives.Taken.{there_still, kept as its_kept, not_taken as its_not_taken, left_unretired, told_retired}
use Rattle.run_waiting.proofs.Lives.Worlds.{Kept, unretired, has_it}
use Rattle.run_debts.specs.Given.ScenesScene.{Scene}

-- what is left over the collector has not
left_no_handed : (h : Hand) → IsLeft h → h ≡ Handed → ⊥
left_no_handed h left is = subst IsLeft is left

module _ {K V : Type 0} (same : K → K → Bool) (name : ℕ → List ℕ) (size : ℕ) (m : Moment K V) (known : Known) (s : Scene K V) (shown : Refines same name m known s) (blocks : RefinesUnreclaimed m known)
    (waiting : RefinesWaiting m known s.world) (came : CameAbout size s.world) (reached : Reached deferred_word size s.world) (i : ℕ) (w2 : World (Node K V)) (step : Steps' deferred_word i (s.world.row i) s.world w2)
    (told : Changed) (tells : TellsRow told) (left : LeavesBy s.world.memory w2.memory told) where
  abbrev w : World (Node K V)
  w = s.world

  kept : Kept deferred_word size w
  kept = its_kept size w came reached i w2 step

  abbrev it : RowStepped deferred_word i w w2
  it = did deferred_word size w reached i w2 step

  not_taken : (x : ℕ) (after : Node K V) → value_at w2.memory x ≡ Some after → times x (taken_in it.effects) ≡ 0
  not_taken = its_not_taken size w came reached i w2 step

  -- one that is told to be taken was retired
  was_retired : (x : ℕ) → told ≡ changed.Took x → is_retired x w.log ≡ true
  was_retired = told_retired size w came reached i w2 step told left

  left_is : (x : ℕ) → IsLeft (w.hand x) → is_retired x w.log ≡ false
  left_is = left_unretired size w came reached i w2 step

  -- the block of what waits was not
  pair_unretired : (n : ℕ) (t : TableId) (l : IsDeferredTo known w n t) → is_retired l.pair w.log ≡ false
  pair_unretired n t l = by l.waits
    where
      by : (waits_behind l.pair w.log ≡ Some l.table) ⊎ (IsLeft (w.hand l.pair) × IsLeft (w.hand l.table)) → is_retired l.pair w.log ≡ false
      by (inl waits) = unretired deferred_word size w kept l.pair l.table waits
      by (inr both) = left_is l.pair both.0

  pair_stays : (n : ℕ) (t : TableId) (l : IsDeferredTo known w n t) → told ≡ changed.Took l.pair → ⊥
  pair_stays n t l is = (let yes = was_retired l.pair is in let no = pair_unretired n t l in cc (yes, no))

  value_of_pair : (n : ℕ) (t : TableId) (l : IsDeferredTo known w n t) → (value : Node K V) × (value_at w.memory l.pair ≡ Some value)
  value_of_pair n t l = (let has = subst (λ (r : Role). HasRole w m.stored l.pair r) l.is_pair (shown.blocks.roles l.pair) in (_, has.3))

  value_of_table : (n : ℕ) (t : TableId) (l : IsDeferredTo known w n t) → (value : Node K V) × (value_at w.memory l.table ≡ Some value)
  value_of_table n t l = (let has = subst (λ (r : Role). HasRole w m.stored l.table r) l.is_table (shown.blocks.roles l.table) in (_, has.1))

  -- where neither its block nor the table's is taken, it lies behind it still
  lies_still : (known2 : Known) (n : ℕ) (t : TableId) (l : IsDeferredTo known w n t) → known2.roles l.pair ≡ known.roles l.pair → known2.roles l.table ≡ known.roles l.table
      → (told ≡ changed.Took l.table → ⊥) → IsDeferredTo known2 w2 n t
  lies_still known2 n t l pair_same table_same apart = record {
    pair = l.pair;
    is_pair = pair_same ∙ l.is_pair;
    table = l.table;
    len = l.len;
    is_table = table_same ∙ l.is_table;
    waits = by l.waits;
  }
    where
      pair_kept : times l.pair (taken_in it.effects) ≡ 0
      pair_kept =
          let value = value_of_pair n t l in
          let after = there_still w.memory w2.memory told tells left l.pair value.0 value.1 (pair_stays n t l) in
          not_taken l.pair after.0 after.1

      table_kept : times l.table (taken_in it.effects) ≡ 0
      table_kept =
          let value = value_of_table n t l in
          let after = there_still w.memory w2.memory told tells left l.table value.0 value.1 apart in
          not_taken l.table after.0 after.1

      hand_same : (x : ℕ) → times x (taken_in it.effects) ≡ 0 → w2.hand x ≡ w.hand x
      hand_same x none = ap (λ (h : ℕ → Hand). h x) it.hands ∙ hand_kept x it.effects w.hand none it.one

      by : (waits_behind l.pair w.log ≡ Some l.table) ⊎ (IsLeft (w.hand l.pair) × IsLeft (w.hand l.table))
          → (waits_behind l.pair w2.log ≡ Some l.table) ⊎ (IsLeft (w2.hand l.pair) × IsLeft (w2.hand l.table))
      by (inl waits) = inl (ap (waits_behind l.pair) it.logged ∙ waits_on l.pair l.table it.effects w.log it.one waits table_kept)
      by (inr both) = inr (subst IsLeft (sym (hand_same l.pair pair_kept)) both.0, subst IsLeft (sym (hand_same l.table table_kept)) both.1)

  abbrev Waits : Moment K V → Known → World (Node K V) → ℕ → TableId → Type 0
  Waits v known2 x n t = (v.place n ≡ Behind) × IsDeferredTo known2 x n t

  -- a table that is taken is none of theirs
  other_table : (x : ℕ) → told ≡ changed.Took x → (n : ℕ) (t : TableId) (l : IsDeferredTo known w n t) → (l.table ≡ x → ⊥) → told ≡ changed.Took l.table → ⊥
  other_table x is n t l ne its = ne (let one : changed.Took l.table ≡ changed.Took x = sym its ∙ is in cc one)

  -- where nothing else is told than a block that was none of a map
  none_moved : (v : Moment K V) (known2 : Known) → v.place ≡ m.place → v.deferred ≡ m.deferred
      → ((n : ℕ) (t : TableId) (l : IsDeferredTo known w n t) → (known2.roles l.pair ≡ known.roles l.pair) × (known2.roles l.table ≡ known.roles l.table) × (told ≡ changed.Took l.table → ⊥))
      → RefinesWaiting v known2 w2
  none_moved v known2 place deferred roles =
      subst (EachWaits (Waits v known2 w2)) (sym deferred)
      (each_on (Waits m known w) (Waits v known2 w2)
      (λ n t p. let k = roles n t p.1 in (ap (λ (f : ℕ → Place). f n) place ∙ p.0, lies_still known2 n t p.1 k.0 k.1 k.2)) m.deferred waiting)

  -- no block is told to be taken
  pub quiet : (v : Moment K V) (known2 : Known) → v.place ≡ m.place → v.deferred ≡ m.deferred → known2.roles ≡ known.roles → ((x : ℕ) → told ≡ changed.Took x → ⊥) → RefinesWaiting v known2 w2
  quiet v known2 place deferred roles none =
      none_moved v known2 place deferred (λ n t l. (ap (λ (f : ℕ → Role). f l.pair) roles, ap (λ (f : ℕ → Role). f l.table) roles, none l.table))

  -- a block is taken
  module _ (x : ℕ) (is : told ≡ changed.Took x) where
    abbrev known2 : Known
    known2 = with_role x role.Free known

    role_same : (b : ℕ) → (b ≡ x → ⊥) → known2.roles b ≡ known.roles b
    role_same b ne = put_elsewhere x role.Free known.roles b ne

    took_pair : (n : ℕ) (t : TableId) (l : IsDeferredTo known w n t) → l.pair ≡ x → ⊥
    took_pair n t l e = pair_stays n t l (is ∙ ap changed.Took (sym e))

    -- that of nothing of a map
    took_other : (r : Role) → known.roles x ≡ r → ((t : TableId) (len : ℕ) → r ≡ role.Table t len → ⊥) → (v : Moment K V) → v.place ≡ m.place → v.deferred ≡ m.deferred → RefinesWaiting v known2 w2
    took_other r e never v place deferred =
        none_moved v known2 place deferred
        (λ n t l. let apart : l.table ≡ x → ⊥ = (λ z. never t l.len (sym e ∙ ap known.roles (sym z) ∙ l.is_table)) in
        (role_same l.pair (took_pair n t l), role_same l.table apart, other_table x is n t l apart))

    -- that of a pair
    took_a_pair : (k : ℕ) → known.roles x ≡ role.Pair k → (v : Moment K V) → v.place ≡ put k GivenBack m.place → v.deferred ≡ m.deferred → RefinesWaiting v known2 w2
    took_a_pair k e v place deferred =
        subst (EachWaits (Waits v known2 w2)) (sym deferred)
        (each_on (Waits m known w) (Waits v known2 w2)
        (λ n t p. let l = p.1 in
        let apart : l.table ≡ x → ⊥ = (λ z. (let one : role.Pair k ≡ role.Table t l.len = sym e ∙ ap known.roles (sym z) ∙ l.is_table in cc one)) in (
          ap (λ (f : ℕ → Place). f n) place
              ∙ put_elsewhere k GivenBack m.place n (λ z. took_pair n t l (shown.blocks.once l.pair x n l.is_pair (e ∙ ap role.Pair (sym z)))) ∙ p.0,
          lies_still known2 n t l (role_same l.pair (took_pair n t l)) (role_same l.table apart) (other_table x is n t l apart),
        )) m.deferred waiting)

    -- that of a table
    took_a_table : (u : TableId) (len : ℕ) → known.roles x ≡ role.Table u len → (v : Moment K V) → v.place ≡ all_at IsHanded (behind u m.deferred) m.place
        → v.deferred ≡ filter (λ (d : Deferral). not (same_table d.behind u)) m.deferred → RefinesWaiting v known2 w2
    took_a_table u len e v place deferred =
        subst (EachWaits (Waits v known2 w2)) (sym deferred)
        (each_kept (Waits m known w) (Waits v known2 w2) (λ d. not (same_table d.behind u)) (λ d other p. kept_one d.pair d.behind other p) m.deferred waiting)
      where
        -- the table of what stays is another one
        apart : (n : ℕ) (t : TableId) → not (same_table t u) ≡ true → (l : IsDeferredTo known w n t) → l.table ≡ x → ⊥
        apart n t other l z =
            let one : role.Table t l.len ≡ role.Table u len = sym l.is_table ∙ ap known.roles z ∙ e in
            let t_is : t ≡ u = cc one in
            let yes : same_table t u ≡ true = ap (λ (y : TableId). same_table y u) t_is ∙ same_itself u in
            let none = ap not yes in
            cc (other, none)

        -- so it does not wait behind this one, too
        not_both : (n : ℕ) (t : TableId) → not (same_table t u) ≡ true → (l : IsDeferredTo known w n t) → WaitsAt (Waits m known w) n u → ⊥
        not_both n t other l a = clash l.waits b.waits
          where
            b : IsDeferredTo known w n u
            b = subst (IsDeferredTo known w n) (table_is a.one.behind u a.its) (subst (λ (k : ℕ). IsDeferredTo known w k a.one.behind) a.number a.so.1)

            same_pair : l.pair ≡ b.pair
            same_pair = shown.blocks.once l.pair b.pair n l.is_pair b.is_pair

            its_table : b.table ≡ x
            its_table = blocks.tables_once b.table x b.len len u b.is_table e

            clash : (waits_behind l.pair w.log ≡ Some l.table) ⊎ (IsLeft (w.hand l.pair) × IsLeft (w.hand l.table))
                → (waits_behind b.pair w.log ≡ Some b.table) ⊎ (IsLeft (w.hand b.pair) × IsLeft (w.hand b.table)) → ⊥
            clash first (inr both) =
                (let yes = was_retired x is in let no = left_is x (subst (λ (k : ℕ). IsLeft (w.hand k)) its_table both.1) in cc (yes, no))
            clash (inl first) (inl second) =
                apart n t other l
                (let one : ◌≡◌ {A = Option ℕ} (Some l.table) (Some b.table) = sym first ∙ ap (λ (k : ℕ). waits_behind k w.log) same_pair ∙ second in let alike : l.table ≡ b.table = cc one in alike ∙ its_table)
            clash (inr first) (inl second) =
                left_no_handed (w.hand l.pair) first.0 (ap w.hand same_pair ∙ has_it deferred_word size w kept b.pair b.table second)

        place_kept : (n : ℕ) (t : TableId) → not (same_table t u) ≡ true → (l : IsDeferredTo known w n t) → m.place n ≡ Behind → all_at IsHanded (behind u m.deferred) m.place n ≡ Behind
        place_kept n t other l was = by (is_among n (behind u m.deferred)) refl
          where
            by : (q : Bool) → is_among n (behind u m.deferred) ≡ q → (if q then IsHanded else m.place n) ≡ Behind
            by true among = absurd (not_both n t other l (found (Waits m known w) n u m.deferred waiting among))
            by false among = was

        kept_one : (n : ℕ) (t : TableId) → not (same_table t u) ≡ true → Waits m known w n t → Waits v known2 w2 n t
        kept_one n t other p =
            let l = p.1 in (
              ap (λ (f : ℕ → Place). f n) place ∙ place_kept n t other l p.0,
              lies_still known2 n t l (role_same l.pair (took_pair n t l)) (role_same l.table (apart n t other l)) (other_table x is n t l (apart n t other l)),
            )

    took : (r : Role) → known.roles x ≡ r → RefinesWaiting (with_effects None None (taken_by Row r) m) known2 w2
    took role.Free e = took_other role.Free e (λ t len z. cc z) m refl refl
    took (role.OwnPair j) e = took_other (role.OwnPair j) e (λ t len z. cc z) (with_effects None None (taken_by Row (role.OwnPair j)) m) refl refl
    took (role.OwnTable turn shape) e = took_other (role.OwnTable turn shape) e (λ t len z. cc z) (with_effects None None (taken_by Row (role.OwnTable turn shape)) m) refl refl
    took (role.Counter of) e = took_other (role.Counter of) e (λ t len z. cc z) m refl refl
    took (role.Pair k) e = took_a_pair k e (with_effects None None (taken_by Row (role.Pair k)) m) refl refl
    took (role.Table u len) e = took_a_table u len e (with_effects None None (taken_by Row (role.Table u len)) m) refl refl

-- by what it tells
module _ {K V : Type 0} (same : K → K → Bool) (name : ℕ → List ℕ) (size : ℕ) (m : Moment K V) (known : Known) (s : Scene K V) (shown : Refines same name m known s) (blocks : RefinesUnreclaimed m known)
    (waiting : RefinesWaiting m known s.world) (came : CameAbout size s.world) (reached : Reached deferred_word size s.world) (i : ℕ) (w2 : World (Node K V)) (step : Steps' deferred_word i (s.world.row i) s.world w2) where
  abbrev Then : Changed → Type 0
  Then told = RefinesWaiting (with_effects None None (effects_of Row known told) m) (known_after Row told known) w2

  pub row_waiting : (told : Changed) → TellsRow told → LeavesBy s.world.memory w2.memory told → Then told
  row_waiting changed.Nothing is l = quiet same name size m known s shown blocks waiting came reached i w2 step changed.Nothing is l m known refl refl refl (λ x e. cc e)
  row_waiting (changed.Wrote (Slot t field) old new) is l =
      quiet same name size m known s shown blocks waiting came reached i w2 step (changed.Wrote (Slot t field) old new) is l m known refl refl refl (λ x e. cc e)
  row_waiting (changed.Wrote (Entry b field) old new) is l = by (names_same old new)
    where
      by : (q : Bool) → RefinesWaiting (with_effects None None (if q then [] else []) m) known w2
      by true = quiet same name size m known s shown blocks waiting came reached i w2 step (changed.Wrote (Entry b field) old new) is l m known refl refl refl (λ x e. cc e)
      by false = quiet same name size m known s shown blocks waiting came reached i w2 step (changed.Wrote (Entry b field) old new) is l m known refl refl refl (λ x e. cc e)
  row_waiting (changed.Wrote (Root r) old new) is l = absurd is
  row_waiting (changed.Wrote (Used r) old new) is l = absurd is
  row_waiting (changed.Wrote (Word b field) old new) is l = absurd is
  row_waiting (changed.Made kind b) is l = absurd is
  row_waiting (changed.Unmade kind) is l = absurd is
  row_waiting (changed.Took x) is l = took same name size m known s shown blocks waiting came reached i w2 step (changed.Took x) is l x refl (known.roles x) refl
  row_waiting (changed.Roomed bucket had) is l = by (had && nat_lt bucket known.buckets)
    where
      known2 : Known
      known2 = known_after Row (changed.Roomed bucket had) known

      by : (q : Bool) → RefinesWaiting (with_effects None None (if q then [] else Asked ABucket ∷ []) m) known2 w2
      by true = quiet same name size m known s shown blocks waiting came reached i w2 step (changed.Roomed bucket had) is l m known2 refl refl (roomed_as_many Row known bucket had).0 (λ x e. cc e)
      by false = quiet same name size m known s shown blocks waiting came reached i w2 step (changed.Roomed bucket had) is l (with_effects None None (Asked ABucket ∷ []) m) known2 refl refl (roomed_as_many Row known bucket had).0 (λ x e. cc e)

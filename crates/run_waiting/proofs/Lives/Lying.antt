-- What lies behind tables does so where nothing is put there, where rows begin and step on slots, and where maps are made.
use Rattle.std.specs.Prelude.{◌≡◌, ◌⊎◌, ℕ, ◌==◌, nat_lt, ◌&&◌, ◌||◌, Bool, true, false, not, List, [], ◌∷◌, map, filter, Some, None, if◌then◌else◌}
use Rattle.std.proofs.Common.{refl, ap, sym, subst, ◌∙◌, inl, inr}
use Rattle.std.proofs.lemmas.Bool.{cases_eq, eq-eqb}
use Rattle.run_debts.specs.Given.SeizeWordsMem.{value_at}
use Rattle.run_debts.specs.Given.SeizeWordsDeclared.at.At.TheVariants.{Root, Used, Slot, Entry, Word}
use Rattle.run_debts.specs.Given.SeizeLaw.{Effect as LogEffect, With, where_is}
use Rattle.run_debts.specs.Given.SeizeWorld.{World, Row as Under, Steps'}
use Rattle.run_debts.proofs.Given.SeizeAloneHistories.NotTaken.{did}
use Rattle.run_debts.proofs.Given.SeizeAloneHistories.Reached.{Reached}
use Rattle.run_debts.specs.Given.TablesNodes.{deferred_word}
use Rattle.run_debts.specs.Given.TablesDeclared.node.Node.{Node}
use Rattle.run_debts.specs.Given.RunsDeclared.effect.Effect.TheVariants.{Asked}
use Rattle.run_debts.specs.Given.RunsDeclared.effect.Growth.TheVariants.{ABucket}
use Rattle.run_debts.specs.Given.RunsDeclared.effect.TableId.{TableId}
use Rattle.run_debts.specs.Given.SchedulesEffects.{with_effects}
use Rattle.run_debts.specs.Given.SchedulesLists.{is_among}
use Rattle.run_debts.specs.Given.SchedulesMoment.{Deferral, Moment}
use Rattle.run_debts.specs.Given.SchedulesThings.{same_table}
use Rattle.run_debts.specs.Given.SchedulesViews.{behind}
use Rattle.run_debts.specs.Given.EffectsDeclared.changed.Changed.{Changed}
use Rattle.run_debts.specs.Given.EffectsDeclared.changed.Changed.TheVariants as changed
use Rattle.run_debts.proofs.Given.CallersRows.Behind.{carrier_not_made, events_back, row_back}
use Rattle.run_debts.proofs.Given.CallersTogether.Came.{came_reached}
use Rattle.run_debts.proofs.Given.CallersTogether.Users.{events_rows}
use Rattle.run_debts.specs.Given.EffectsEffects.{names_same, taken_by, effects_of, known_after}
use Rattle.run_debts.specs.Given.EffectsKnown.{Known, with_role}
use Rattle.run_debts.specs.Given.EffectsDeclared.acting.Acting.TheVariants.{Making, Row}
use Rattle.run_debts.specs.Given.EffectsDeclared.role.Role.{Role}
use Rattle.run_debts.specs.Given.EffectsDeclared.role.Role.TheVariants as role
use Rattle.run_debts.specs.Given.ScenesDeclared.row.SlotRow.{SlotRow}
use Rattle.run_debts.specs.Given.ScenesDeclared.row.SlotRow.TheVariants as rows
use Rattle.run_debts.specs.Given.FollowsBlocks.{HasRole}
use Rattle.run_debts.proofs.Given.FollowsAlike.{put_here, put_elsewhere}
use Rattle.run_debts.proofs.Given.FollowsOnward.{IsOfMap}
use Rattle.run_debts.proofs.Given.FollowsOperations.{LeavesBy}
use Rattle.run_debts.proofs.Given.FollowsTold.{roomed_as_many}
use Rattle.run_debts.proofs.Given.OthersRowPlans.{TellsRow, row_tells}
use Rattle.run_debts.proofs.Given.SpotsUnreclaimed.{table_is, same_itself}
use Rattle.run_debts.specs.Given.MomentsWhole.{RefinesWhole}
use Rattle.run_waiting.specs.Lives.Lying.{IsNotedDeferred, IsPutThere, RefinesLying, LyingBegins, OthersLeaveLying, EndingsBeginLying, RowsBeginLying, RowsPreserveLying, MakingsPreserveLying}
use Rattle.run_waiting.specs.Lives.Waiting.{IsPutting}
use Rattle.run_waiting.proofs.Lives.Makings.{role_kept, apart}
use Rattle.run_waiting.proofs.Lives.Reclaimed.{begun_rows, stays_so}
use Rattle.run_waiting.proofs.Lives.Stages.{WasTable, role_back}
use Rattle.run_waiting.proofs.Lives.Waiting.{begun_log, reached, left}
use Rattle.run_debts.specs.Given.ScenesScene.{Scene, row_of, slot_of}

-- what waits behind one table does so still where what waits behind another one goes
module _ (n : ℕ) (t u : TableId) (other : t ≡ u → ⊥) where
  abbrev Stays : Deferral → Bool
  Stays d = not (same_table d.behind u)

  abbrev Among : List Deferral → Type 0
  Among ds = is_among n (behind t ds) ≡ true

  pub behind_other : (ds : List Deferral) → Among ds → Among (filter Stays ds)
  behind_other [] among = among
  behind_other (d ∷ ds) among = by (same_table d.behind u) refl (same_table d.behind t) refl among (behind_other ds)
    where
      Rest : List Deferral
      Rest = filter (λ (x : Deferral). same_table x.behind t) (filter Stays ds)

      one_more : (q : Bool) → (q || is_among n (behind t ds)) ≡ true → (Among ds → Among (filter Stays ds)) → (q || is_among n (behind t (filter Stays ds))) ≡ true
      one_more true e further = refl
      one_more false e further = further e

      kept : (q : Bool) → is_among n (map (λ (x : Deferral). x.pair) (if q then d ∷ filter (λ (x : Deferral). same_table x.behind t) ds else filter (λ (x : Deferral). same_table x.behind t) ds)) ≡ true
          → (Among ds → Among (filter Stays ds)) → is_among n (map (λ (x : Deferral). x.pair) (if q then d ∷ Rest else Rest)) ≡ true
      kept true e further = one_more (n == d.pair) e further
      kept false e further = further e

      by : (p : Bool) → same_table d.behind u ≡ p → (q : Bool) → same_table d.behind t ≡ q
          → is_among n (map (λ (x : Deferral). x.pair) (if q then d ∷ filter (λ (x : Deferral). same_table x.behind t) ds else filter (λ (x : Deferral). same_table x.behind t) ds)) ≡ true
          → (Among ds → Among (filter Stays ds)) → Among (if not p then d ∷ filter Stays ds else filter Stays ds)
      by true its true here e further = absurd (other (sym (table_is d.behind t here) ∙ table_is d.behind u its))
      by true its false here e further = further e
      by false its q here e further = ap (λ (z : Bool). is_among n (map (λ (x : Deferral). x.pair) (if z then d ∷ Rest else Rest))) here ∙ kept q e further

-- one that is put behind a table is among what waits there
pub now_among : (n : ℕ) (t : TableId) (ds : List Deferral) → is_among n (behind t (record { pair = n; behind = t } ∷ ds)) ≡ true
now_among n t ds =
    ap (λ (q : Bool). is_among n (map (λ (x : Deferral). x.pair)
    (if q then record { pair = n; behind = t } ∷ filter (λ (x : Deferral). same_table x.behind t) ds else filter (λ (x : Deferral). same_table x.behind t) ds))) (same_itself t)
    ∙ ap (λ (q : Bool). q || is_among n (behind t ds)) (eq-eqb n n refl)

-- where what lies behind a table did so before
module _ {K V : Type 0} (m v : Moment K V) (known known2 : Known) (w w2 : World (Node K V)) (shows : RefinesLying m known w) where
  pub lying_on : ((b c : ℕ) → where_is b w2.log ≡ With c → where_is b w.log ≡ With c)
      → ((b c len : ℕ) (t : TableId) → where_is b w.log ≡ With c → known2.roles c ≡ role.Table t len → known.roles c ≡ role.Table t len)
      → ((b c n : ℕ) → where_is b w2.log ≡ With c → known.roles b ≡ role.Pair n → known2.roles b ≡ role.Pair n)
      → ((c len n : ℕ) (t : TableId) → known2.roles c ≡ role.Table t len → known.roles c ≡ role.Table t len → is_among n (behind t m.deferred) ≡ true → is_among n (behind t v.deferred) ≡ true)
      → ((i b c : ℕ) → IsPutting b c (w.row i) → IsPutting b c (w2.row i))
      → RefinesLying v known2 w2
  lying_on back tables pairs among puts b c len t is at = elim (shows b c len t was (back b c at)) as (λ _. IsNotedDeferred v known2 b t ⊎ IsPutThere w2 b c) [
    | inl its ↦ inl (its.0, pairs b c its.0 at its.1, among c len its.0 t is was its.2)
    | inr row ↦ inr (row.0, puts row.0 b c row.1)
  ]
    where
      was : known.roles c ≡ role.Table t len
      was = tables b c len t (back b c at) is

pub lying_begins : (K V : Type 0) → LyingBegins K V
lying_begins K V roots b c len t is at = absurd (cc is)

pub others_leave_lying : (K V : Type 0) → OthersLeaveLying K V
others_leave_lying K V m v known w shows deferred b c len t is at =
    subst (λ (ds : List Deferral). ((n : ℕ) × (known.roles b ≡ role.Pair n) × (is_among n (behind t ds) ≡ true)) ⊎ IsPutThere w b c) (sym deferred) (shows b c len t is at)

pub endings_begin_lying : (K V : Type 0) → EndingsBeginLying K V
endings_begin_lying K V m known s shows map i standing b c len t is at = shows b c len t is at

-- A row on a slot puts nothing behind a block.
pub no_slot_puts : (b c : ℕ) (row : SlotRow) → IsPutting b c (row_of row) → ⊥
no_slot_puts b c (rows.Registers register) puts = puts
no_slot_puts b c (rows.Enters enter) puts = puts
no_slot_puts b c (rows.Leaves leave) puts = puts
no_slot_puts b c (rows.Flushes settle) puts = puts
no_slot_puts b c (rows.Frees unregister) puts = puts

-- what a row on a slot tells leaves what waits behind each table that is left, and the pairs that are there
module _ {K V : Type 0} (m : Moment K V) (known : Known) (w w2 : World (Node K V)) (once : (b c len n : ℕ) (t : TableId) → known.roles b ≡ role.Table t len → known.roles c ≡ role.Table t n → b ≡ c) where
  abbrev AmongThen : Changed → ℕ → TableId → Type 0
  AmongThen x n t = is_among n (behind t (with_effects None None (effects_of Row known x) m).deferred) ≡ true

  module _ (c len n : ℕ) (t : TableId) (was : known.roles c ≡ role.Table t len) (among : is_among n (behind t m.deferred) ≡ true) where
    taken_among : (x : ℕ) (r : Role) → known.roles x ≡ r → (with_role x role.Free known).roles c ≡ role.Table t len
        → is_among n (behind t (with_effects None None (taken_by Row r) m).deferred) ≡ true
    taken_among x role.Free e is = among
    taken_among x (role.OwnPair j) e is = among
    taken_among x (role.OwnTable turn shape) e is = among
    taken_among x (role.Pair k) e is = among
    taken_among x (role.Counter of) e is = among
    taken_among x (role.Table u k) e is = behind_other n t u other m.deferred among
      where
        other : t ≡ u → ⊥
        other one =
            let here : c ≡ x = once c x len k t was (e ∙ ap (λ (y : TableId). role.Table y k) (sym one)) in
            subst IsOfMap (put_here x role.Free known.roles c here) (subst IsOfMap (sym is) tt)

    nothing_among : (q : Bool) → is_among n (behind t (with_effects None None (if q then [] else []) m).deferred) ≡ true
    nothing_among true = among
    nothing_among false = among

    roomed_among : (q : Bool) → is_among n (behind t (with_effects None None (if q then [] else Asked ABucket ∷ []) m).deferred) ≡ true
    roomed_among true = among
    roomed_among false = among

    pub row_among : (x : Changed) → TellsRow x → (known_after Row x known).roles c ≡ role.Table t len → AmongThen x n t
    row_among changed.Nothing is e = among
    row_among (changed.Wrote (Slot s field) before after) is e = among
    row_among (changed.Wrote (Entry x field) before after) is e = nothing_among (names_same before after)
    row_among (changed.Wrote (Root r) before after) is e = absurd is
    row_among (changed.Wrote (Used r) before after) is e = absurd is
    row_among (changed.Wrote (Word x field) before after) is e = absurd is
    row_among (changed.Made kind x) is e = absurd is
    row_among (changed.Unmade kind) is e = absurd is
    row_among (changed.Took x) is e = taken_among x (known.roles x) refl e
    row_among (changed.Roomed bucket had) is e = roomed_among (had && nat_lt bucket known.buckets)

-- and a pair whose block is there is noted still
module _ {K V : Type 0} (known : Known) (w w2 : World (Node K V)) where
  pub row_pair : (b n : ℕ) → known.roles b ≡ role.Pair n → ((value : Node K V) × (value_at w2.memory b ≡ Some value)) → (x : Changed) → TellsRow x → LeavesBy w.memory w2.memory x
      → (known_after Row x known).roles b ≡ role.Pair n
  row_pair b n noted there changed.Nothing is l = noted
  row_pair b n noted there (changed.Wrote (Slot s field) before after) is l = noted
  row_pair b n noted there (changed.Wrote (Entry x field) before after) is l = noted
  row_pair b n noted there (changed.Wrote (Root r) before after) is l = absurd is
  row_pair b n noted there (changed.Wrote (Used r) before after) is l = absurd is
  row_pair b n noted there (changed.Wrote (Word x field) before after) is l = absurd is
  row_pair b n noted there (changed.Made kind x) is l = absurd is
  row_pair b n noted there (changed.Unmade kind) is l = absurd is
  row_pair b n noted there (changed.Took x) is l =
      put_elsewhere x role.Free known.roles b (λ e. (let gone = l.1 in let still = ap (value_at w2.memory) (sym e) ∙ there.1 in cc (gone, still))) ∙ noted
  row_pair b n noted there (changed.Roomed bucket had) is l = ap (λ (f : ℕ → Role). f b) (roomed_as_many Row known bucket had).0 ∙ noted

-- by a step of a row on a slot
module _ {K V : Type 0} (same : K → K → Bool) (name : ℕ → List ℕ) (size : ℕ) (m : Moment K V) (known : Known) (s : Scene K V) (whole : RefinesWhole same name m known s)
    (shows : RefinesLying m known s.world) (r : Reached deferred_word size s.world) (i : ℕ) (none : (b c : ℕ) → IsPutting b c (s.world.row i) → ⊥) where
  pub row_lies : (w2 : World (Node K V)) → Steps' deferred_word i (s.world.row i) s.world w2 → (told : Changed) → TellsRow told → LeavesBy s.world.memory w2.memory told
      → RefinesLying (with_effects None None (effects_of Row known told) m) (known_after Row told known) w2
  row_lies w2 step told tells leaves =
      lying_on m (with_effects None None (effects_of Row known told) m) known (known_after Row told known) s.world w2 shows
      (λ b c at. (row_back deferred_word size b c s.world w2 r i step at).0)
      (λ b c len t at is. (stays_so m known whole.blocks told tells c len t is).0)
      (λ b c n at is. row_pair known s.world w2 b n is (there b c n at is) told tells leaves)
      (λ c len n t is was among. row_among m known s.world w2 whole.blocks.tables_once c len n t was among told tells is)
      puts
    where
      there : (b c n : ℕ) → where_is b w2.log ≡ With c → known.roles b ≡ role.Pair n → (value : Node K V) × (value_at w2.memory b ≡ Some value)
      there b c n at is =
          (let has = subst (HasRole s.world m.stored b) is (whole.all.shown.blocks.roles b) in (_, (row_back deferred_word size b c s.world w2 r i step at).2 ∙ has.3))

      puts : (j b c : ℕ) → IsPutting b c (s.world.row j) → IsPutting b c (w2.row j)
      puts j b c its = elim (cases_eq j i) as (λ _. IsPutting b c (w2.row j)) [
        | inl e ↦ absurd (none b c (subst (λ (k : ℕ). IsPutting b c (s.world.row k)) e its))
        | inr ne ↦ subst (IsPutting b c) (sym ((did deferred_word size s.world r i w2 step).rows j ne)) its
      ]

module _ (K V : Type 0) (same : K → K → Bool) (hash : ℕ → K → ℕ) where
  pub rows_begin_lying : RowsBeginLying K V same hash
  rows_begin_lying m known s old new shows called i leads =
      let to = leads.2 in
      let logs = begun_log old.batch_size (slot_of i) i s.world to.0 called to.1.1 in
      lying_on m m known known s.world to.0 shows
      (λ b c at. sym (ap (λ (l : List LogEffect). where_is b l) logs) ∙ at)
      (λ b c len t at is. is)
      (λ b c n at is. is)
      (λ c len n t is was among. among)
      (λ j b c its.
      let other : j ≡ i → ⊥ = (λ e. subst (IsPutting b c) (ap s.world.row e ∙ to.1.0) its) in
      subst (IsPutting b c) (sym (begun_rows old.batch_size (slot_of i) i s.world to.0 called to.1.1 j other)) its)

  pub rows_keep_lying : RowsPreserveLying K V same hash
  rows_keep_lying name m known s old new at whole shows i told leads row here =
      let to = leads row here in
      row_lies same name old.batch_size m known s whole shows (reached K V same hash s old new at i row here (to.0, told) to.1 to.2) i
      (λ b c puts. no_slot_puts b c row (subst (IsPutting b c) on_slot puts)) to.2.0 to.2.1 new.changed
      (row_tells old.memory new.memory new.changed (to.0, told) row to.1)
      (left K V same hash s old new at i row here (to.0, told) to.1 to.2)
    where
      on_slot : s.world.row i ≡ row_of row
      on_slot = here.1

  pub makings_keep_lying : MakingsPreserveLying K V same hash
  makings_keep_lying name m known s old new at whole owning shows i told leads b here of was_new =
      let step = (leads b here).2.step in
      lying_on m v known known2 s.world step.w2 shows
      (λ x c lies. (events_back deferred_word old.batch_size x c step.events s.world step.w2 there step.users step.runs lies).0)
      (λ x c len t lies is. noted x c len t lies (role_back (Making b.map) known c len t new.changed is))
      (λ x c n lies is. role_kept same hash name m known s old new at whole i told leads b here of was_new x (role.Pair n) is tt)
      (λ c len n t is was among. ap (λ (ds : List Deferral). is_among n (behind t ds)) (apart same hash name m known s old new at whole i told leads b here of was_new).0 ∙ among)
      (λ j x c its. subst (λ (f : ℕ → Under). IsPutting x c (f j)) (sym (events_rows old.batch_size step.events s.world step.w2 step.users step.runs)) its)
    where
      v : Moment K V
      v = with_effects None of (effects_of (Making b.map) known new.changed) m

      known2 : Known
      known2 = known_after (Making b.map) new.changed known

      there : Reached deferred_word old.batch_size s.world
      there = came_reached old.batch_size s.world at.together.makings.standing.came

      noted : (x c len : ℕ) (t : TableId) → where_is x s.world.log ≡ With c → WasTable known c t len → known.roles c ≡ role.Table t len
      noted x c len t lies (inl is) = is
      noted x c len t lies (inr (turn, shape, own, e)) =
          absurd (let made = owning c turn shape own in carrier_not_made deferred_word old.batch_size s.world there x c lies made.0 made.1)

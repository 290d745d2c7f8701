-- Pairs lie behind tables in the order in which they wait there, where nothing is put there, where rows begin and step on slots, and where maps are made.
use Rattle.std.specs.Prelude.{◌≡◌, ◌<◌, ℕ, nat_lt, ◌&&◌, Bool, true, false, not, List, [], ◌∷◌, map, filter, Option, Some, None, IsSome, if◌then◌else◌}
use Rattle.std.proofs.Common.{refl, ap, sym, subst, ◌∙◌, inl, inr}
use Rattle.run_debts.specs.Given.SeizeWordsMem.{Mem, value_at}
use Rattle.run_debts.specs.Given.SeizeWordsDeclared.at.At.TheVariants.{Root, Used, Slot, Entry, Word}
use Rattle.run_debts.specs.Given.SeizeFurther.{FurtherAre}
use Rattle.run_debts.specs.Given.SeizeWorld.{World, Hand, InUse, Event, Begins, Runs, Steps', times}
use Rattle.run_debts.proofs.Given.SeizeAloneHistories.Reached.{Reached, steps_reached}
use Rattle.run_debts.specs.Given.RunsDeclared.shapes.TableShape.{TableShape}
use Rattle.run_debts.specs.Given.TablesNodes.{deferred_word}
use Rattle.run_debts.specs.Given.TablesDeclared.node.Node.{Node}
use Rattle.run_debts.specs.Given.RunsDeclared.effect.Effect.TheVariants.{Asked}
use Rattle.run_debts.specs.Given.RunsDeclared.effect.Growth.TheVariants.{ABucket}
use Rattle.run_debts.specs.Given.RunsDeclared.effect.TableId.{TableId}
use Rattle.run_debts.specs.Given.SchedulesEffects.{with_effects}
use Rattle.run_debts.specs.Given.SchedulesMoment.{Behind, Deferral, Moment}
use Rattle.run_debts.specs.Given.SchedulesThings.{same_table}
use Rattle.run_debts.specs.Given.SchedulesViews.{behind}
use Rattle.run_debts.specs.Given.EffectsDeclared.changed.Changed.{Changed}
use Rattle.run_debts.specs.Given.EffectsDeclared.changed.Changed.TheVariants as changed
use Rattle.run_debts.specs.Given.RuleInWorld.{AllUsers}
use Rattle.run_debts.proofs.Given.CallersTogether.Came.{came_reached}
use Rattle.run_debts.specs.Given.EffectsEffects.{names_same, taken_by, effects_of, known_after}
use Rattle.run_debts.specs.Given.EffectsKnown.{Known, with_role}
use Rattle.run_debts.specs.Given.EffectsDeclared.acting.Acting.TheVariants.{Making as OfMaking, Row}
use Rattle.run_debts.specs.Given.EffectsDeclared.role.Role.{Role}
use Rattle.run_debts.specs.Given.EffectsDeclared.role.Role.TheVariants as role
use Rattle.run_debts.specs.Given.ScenesDeclared.row.SlotCall.{SlotCall}
use Rattle.run_debts.specs.Given.ScenesDeclared.row.SlotCall.TheVariants as calls
use Rattle.run_debts.proofs.Given.FinishesEnds.CountedBlocks.{some_here, some_last}
use Rattle.run_debts.specs.Given.FollowsBlocks.{HasRole, WasLinked}
use Rattle.run_debts.proofs.Given.FollowsAlike.{put_here}
use Rattle.run_debts.proofs.Given.FollowsOnward.{IsOfMap}
use Rattle.run_debts.proofs.Given.FollowsOperations.{LeavesBy}
use Rattle.run_debts.proofs.Given.OthersRowPlans.{TellsRow, row_tells}
use Rattle.run_debts.proofs.Given.SpotsUnreclaimed.{table_is}
use Rattle.run_debts.specs.Given.MomentsWhole.{RefinesWhole}
use Rattle.run_debts.proofs.Given.MomentsMakings.{makings_keep_blocks}
use Rattle.run_debts.specs.Due.{OwnAreMade}
use Rattle.run_waiting.specs.Lives.Behind.{IsDeferredTo, EachWaits, RefinesWaiting}
use Rattle.run_waiting.specs.Lives.Order.{RefinesOrder, OrderBegins, OthersLeaveOrder, EndingsBeginOrder, RowsBeginOrder, RowsPreserveOrder, MakingsPreserveOrder}
use Rattle.run_waiting.specs.Lives.Waiting.{IsPutting}
use Rattle.run_waiting.proofs.Lives.Each.{each_on}
use Rattle.run_waiting.proofs.Lives.InUse.{listed_there, step_goes, used_then, users_leave_list, users_make_none}
use Rattle.run_waiting.proofs.Lives.Lying.{no_slot_puts, row_pair}
use Rattle.run_waiting.proofs.Lives.Makings.{role_kept, apart}
use Rattle.run_waiting.proofs.Lives.Reclaimed.{stays_so}
use Rattle.run_waiting.proofs.Lives.Stages.{WasTable, role_back}
use Rattle.run_waiting.proofs.Lives.Waiting.{reached, left}
use Rattle.run_debts.specs.Given.ScenesRows.{request_of}
use Rattle.run_debts.specs.Given.ScenesScene.{Scene, row_of, slot_of}

-- blocks that are noted as these pairs are so still
pub noted_still : (known known2 : Known) (blocks pairs : List ℕ) → map known.roles blocks ≡ map role.Pair pairs
    → ((b n : ℕ) → 0 < times b blocks → known.roles b ≡ role.Pair n → known2.roles b ≡ role.Pair n) → map known2.roles blocks ≡ map role.Pair pairs
noted_still known known2 [] pairs is still = is
noted_still known known2 (b ∷ blocks) [] is still = absurd (cc is)
noted_still known known2 (b ∷ blocks) (n ∷ pairs) is still =
    let first : known.roles b ≡ role.Pair n = cc is in
    let others : map known.roles blocks ≡ map role.Pair pairs = cc is in
    let rest = noted_still known known2 blocks pairs others (λ x k some. still x k (some_last x (b ∷ []) blocks some)) in
    ap (λ (r : Role). r ∷ map known2.roles blocks) (still b n (some_here b blocks) first) ∙ ap (λ (rs : List Role). role.Pair n ∷ rs) rest

-- what waits behind one table does so where what waits behind another one goes
module _ (t u : TableId) (other : t ≡ u → ⊥) where
  abbrev IsKept : Deferral → Bool
  IsKept d = not (same_table d.behind u)

  abbrev IsIts : Deferral → Bool
  IsIts d = same_table d.behind t

  pub behind_apart : (ds : List Deferral) → behind t (filter IsKept ds) ≡ behind t ds
  behind_apart [] = refl
  behind_apart (d ∷ ds) = by (same_table d.behind u) refl (same_table d.behind t) refl (behind_apart ds)
    where
      by : (p : Bool) → same_table d.behind u ≡ p → (q : Bool) → same_table d.behind t ≡ q → behind t (filter IsKept ds) ≡ behind t ds
          → behind t (if not p then d ∷ filter IsKept ds else filter IsKept ds) ≡ map (λ (x : Deferral). x.pair) (if q then d ∷ filter IsIts ds else filter IsIts ds)
      by true its true here rest = absurd (other (sym (table_is d.behind t here) ∙ table_is d.behind u its))
      by true its false here rest = rest
      by false its true here rest =
          ap (λ (z : Bool). map (λ (x : Deferral). x.pair) (if z then d ∷ filter IsIts (filter IsKept ds) else filter IsIts (filter IsKept ds))) here ∙ ap (λ (l : List ℕ). d.pair ∷ l) rest
      by false its false here rest =
          ap (λ (z : Bool). map (λ (x : Deferral). x.pair) (if z then d ∷ filter IsIts (filter IsKept ds) else filter IsIts (filter IsKept ds))) here ∙ rest

-- nothing waits behind a table that is none of those behind which something does
pub none_behind : (t : TableId) (ds : List Deferral) → EachWaits (λ n u. u ≡ t → ⊥) ds → behind t ds ≡ []
none_behind t [] each = refl
none_behind t (d ∷ ds) each = by (same_table d.behind t) refl (none_behind t ds each.1)
  where
    by : (q : Bool) → same_table d.behind t ≡ q → behind t ds ≡ []
        → map (λ (x : Deferral). x.pair) (if q then d ∷ filter (λ (x : Deferral). same_table x.behind t) ds else filter (λ (x : Deferral). same_table x.behind t) ds) ≡ []
    by true is rest = absurd (each.0 (table_is d.behind t is))
    by false is rest = rest

pub order_begins : (K V : Type 0) → OrderBegins K V
order_begins K V roots c len o t blocks is used are = absurd (cc is)

pub others_leave_order : (K V : Type 0) → OthersLeaveOrder K V
others_leave_order K V m v known w shows deferred c len o t blocks is used are =
    subst (λ (ds : List Deferral). map known.roles blocks ≡ map role.Pair (behind t ds)) (sym deferred) (shows c len o t blocks is used are)

pub endings_begin_order : (K V : Type 0) → EndingsBeginOrder K V
endings_begin_order K V m known s shows map i standing c len o t blocks is used are = shows c len o t blocks is used are

-- where a table has the list that it had, its pairs are noted as they were, and the same ones wait behind it
module _ {K V : Type 0} (m v : Moment K V) (known known2 : Known) (w : World (Node K V)) (shows : RefinesOrder m known w) where
  pub order_as : (c len o : ℕ) (t : TableId) (blocks : List ℕ) → known.roles c ≡ role.Table t len → w.hand c ≡ InUse o → FurtherAre deferred_word w.memory c blocks
      → ((b n : ℕ) → 0 < times b blocks → known.roles b ≡ role.Pair n → known2.roles b ≡ role.Pair n) → behind t v.deferred ≡ behind t m.deferred
      → map known2.roles blocks ≡ map role.Pair (behind t v.deferred)
  order_as c len o t blocks is used are still same =
      noted_still known known2 blocks (behind t v.deferred) (shows c len o t blocks is used are ∙ ap (λ (ns : List ℕ). map role.Pair ns) (sym same)) still

-- what users do leaves it, where they put nothing behind a table: one that they link is a new one
module _ {K V : Type 0} (size : ℕ) (m v : Moment K V) (known known2 : Known) (w w2 : World (Node K V)) (r : Reached deferred_word size w) (shows : RefinesOrder m known w) (waiting : RefinesWaiting m known w)
    (roles : (b : ℕ) → HasRole w m.stored b (known.roles b)) (owning : OwnAreMade known w) (events : List (Event (Node K V))) (users : AllUsers events) (runs : Runs deferred_word size events w w2)
    (tables : (c len : ℕ) (t : TableId) → known2.roles c ≡ role.Table t len → WasTable known c t len)
    (keeps : (b : ℕ) (x : Role) → known.roles b ≡ x → IsOfMap x → known2.roles b ≡ x)
    (once : (b d len len2 : ℕ) (t : TableId) → known2.roles b ≡ role.Table t len → known2.roles d ≡ role.Table t len2 → b ≡ d)
    (list : v.deferred ≡ m.deferred) where
  -- nothing waits behind a table that is linked anew
  new_behind : (c len turn : ℕ) (shape : TableShape) (t : TableId) → known2.roles c ≡ role.Table t len → known.roles c ≡ role.OwnTable turn shape → behind t v.deferred ≡ []
  new_behind c len turn shape t is own =
      ap (behind t) list
      ∙ none_behind t m.deferred (each_on (λ n u. (m.place n ≡ Behind) × IsDeferredTo known w n u) (λ n u. u ≡ t → ⊥) (λ n u p e.
      (let l = p.1 in
      let there : known.roles l.table ≡ role.Table t l.len = l.is_table ∙ ap (λ (x : TableId). role.Table x l.len) e in
      let one = once l.table c l.len len t (keeps l.table (role.Table t l.len) there tt) is in
      let both : role.Table t l.len ≡ role.OwnTable turn shape = sym there ∙ ap known.roles one ∙ own in
      cc both)) m.deferred waiting)

  pub users_keep_order : RefinesOrder v known2 w2
  users_keep_order c len o t blocks is used are = by (tables c len t is)
    where
      by : WasTable known c t len → map known2.roles blocks ≡ map role.Pair (behind t v.deferred)
      by (inl was) =
          let linked : WasLinked (w.hand c) = (subst (HasRole w m.stored c) was (roles c)).2 in
          let same = users_leave_list deferred_word size events w w2 r users runs c o used blocks are linked in
          order_as m v known known2 w shows c len same.0 t blocks was same.1 same.2 (λ b n some noted. keeps b (role.Pair n) noted tt) (ap (behind t) list)
      by (inr (turn, shape, own, e)) =
          let made = owning c turn shape own in
          ap (λ (l : List ℕ). map known2.roles l) (users_make_none deferred_word size events w w2 r users runs c o used blocks are made.0 made.1)
          ∙ ap (λ (l : List ℕ). map role.Pair l) (sym (new_behind c len turn shape t is own))

-- What a row on a slot tells leaves what waits behind each table that is left.
module _ {K V : Type 0} (m : Moment K V) (known : Known) (once : (b c len n : ℕ) (t : TableId) → known.roles b ≡ role.Table t len → known.roles c ≡ role.Table t n → b ≡ c)
    (c len : ℕ) (t : TableId) (was : known.roles c ≡ role.Table t len) where
  abbrev SameThen : Changed → Type 0
  SameThen x = behind t (with_effects None None (effects_of Row known x) m).deferred ≡ behind t m.deferred

  taken_behind : (x : ℕ) (r : Role) → known.roles x ≡ r → (with_role x role.Free known).roles c ≡ role.Table t len → behind t (with_effects None None (taken_by Row r) m).deferred ≡ behind t m.deferred
  taken_behind x role.Free e is = refl
  taken_behind x (role.OwnPair j) e is = refl
  taken_behind x (role.OwnTable turn shape) e is = refl
  taken_behind x (role.Pair k) e is = refl
  taken_behind x (role.Counter of) e is = refl
  taken_behind x (role.Table u k) e is = behind_apart t u other m.deferred
    where
      other : t ≡ u → ⊥
      other one =
          let here : c ≡ x = once c x len k t was (e ∙ ap (λ (y : TableId). role.Table y k) (sym one)) in
          subst IsOfMap (put_here x role.Free known.roles c here) (subst IsOfMap (sym is) tt)

  nothing_behind : (q : Bool) → behind t (with_effects None None (if q then [] else []) m).deferred ≡ behind t m.deferred
  nothing_behind true = refl
  nothing_behind false = refl

  roomed_behind : (q : Bool) → behind t (with_effects None None (if q then [] else Asked ABucket ∷ []) m).deferred ≡ behind t m.deferred
  roomed_behind true = refl
  roomed_behind false = refl

  pub row_behind : (x : Changed) → TellsRow x → (known_after Row x known).roles c ≡ role.Table t len → SameThen x
  row_behind changed.Nothing is e = refl
  row_behind (changed.Wrote (Slot s field) before after) is e = refl
  row_behind (changed.Wrote (Entry x field) before after) is e = nothing_behind (names_same before after)
  row_behind (changed.Wrote (Root r) before after) is e = absurd is
  row_behind (changed.Wrote (Used r) before after) is e = absurd is
  row_behind (changed.Wrote (Word x field) before after) is e = absurd is
  row_behind (changed.Made kind x) is e = absurd is
  row_behind (changed.Unmade kind) is e = absurd is
  row_behind (changed.Took x) is e = taken_behind x (known.roles x) refl e
  row_behind (changed.Roomed bucket had) is e = roomed_behind (had && nat_lt bucket known.buckets)

-- by a step of a row on a slot
module _ {K V : Type 0} (same : K → K → Bool) (name : ℕ → List ℕ) (size : ℕ) (m : Moment K V) (known : Known) (s : Scene K V) (whole : RefinesWhole same name m known s)
    (shows : RefinesOrder m known s.world) (r : Reached deferred_word size s.world) (i : ℕ) (none : (b c : ℕ) → IsPutting b c (s.world.row i) → ⊥) where
  pub row_order : (w2 : World (Node K V)) → Steps' deferred_word i (s.world.row i) s.world w2 → (told : Changed) → TellsRow told → LeavesBy s.world.memory w2.memory told
      → RefinesOrder (with_effects None None (effects_of Row known told) m) (known_after Row told known) w2
  row_order w2 step told tells leaves c len o t blocks is used are =
      elim (step_goes deferred_word size i s.world w2 r step c o used blocks are) as (λ _. map (known_after Row told known).roles blocks ≡ map role.Pair (behind t v.deferred)) [
        | inl same_list ↦
            order_as m v known (known_after Row told known) s.world shows c len o t blocks was (used_then deferred_word size i s.world w2 r step c o used blocks are) same_list.0
            (λ b n some noted. row_pair known s.world w2 b n noted (there b some) told tells leaves)
            (row_behind m known whole.blocks.tables_once c len t was told tells is)
        | inr put ↦ absurd (none put.0 c put.2)
      ]
    where
      v : Moment K V
      v = with_effects None None (effects_of Row known told) m

      was : known.roles c ≡ role.Table t len
      was = (stays_so m known whole.blocks told tells c len t is).0

      there : (b : ℕ) → 0 < times b blocks → (value : Node K V) × (value_at w2.memory b ≡ Some value)
      there b some = of (value_at w2.memory b) (listed_there deferred_word w2 (steps_reached deferred_word size i s.world w2 r step).good c o used blocks are b some) refl
        where
          of : (p : Option (Node K V)) → IsSome p → value_at w2.memory b ≡ p → (value : Node K V) × (value_at w2.memory b ≡ Some value)
          of None is_some e = absurd (cc is_some)
          of (Some value) is_some e = (value, e)

-- a row that begins on a slot leaves the memory, and who has what
begun_same : {K V : Type 0} (size slot i : ℕ) (w v : World (Node K V)) (called : SlotCall) → Begins deferred_word size i (request_of slot called) w v → (v.memory ≡ w.memory) × (v.hand ≡ w.hand)
begun_same size slot i w v (calls.Register enters) h = (ap (λ (x : World (Node _ _)). x.memory) h, ap (λ (x : World (Node _ _)). x.hand) h)
begun_same size slot i w v calls.Enter h = (ap (λ (x : World (Node _ _)). x.memory) h.1, ap (λ (x : World (Node _ _)). x.hand) h.1)
begun_same size slot i w v calls.Leave h = (ap (λ (x : World (Node _ _)). x.memory) h.1, ap (λ (x : World (Node _ _)). x.hand) h.1)
begun_same size slot i w v calls.LeaveOwned h = (ap (λ (x : World (Node _ _)). x.memory) h.1, ap (λ (x : World (Node _ _)). x.hand) h.1)
begun_same size slot i w v calls.Refresh h = (ap (λ (x : World (Node _ _)). x.memory) h.1, ap (λ (x : World (Node _ _)). x.hand) h.1)
begun_same size slot i w v calls.Flush h = (ap (λ (x : World (Node _ _)). x.memory) h.1, ap (λ (x : World (Node _ _)). x.hand) h.1)
begun_same size slot i w v calls.Unregister h = (ap (λ (x : World (Node _ _)). x.memory) h.1, ap (λ (x : World (Node _ _)). x.hand) h.1)

-- where the memory is the same, and who has what
pub order_in : {K V : Type 0} (m : Moment K V) (known : Known) (w w2 : World (Node K V)) → w2.memory ≡ w.memory → w2.hand ≡ w.hand → RefinesOrder m known w → RefinesOrder m known w2
order_in {K} {V} m known w w2 memory hands shows c len o t blocks is used are =
    shows c len o t blocks is (ap (λ (h : ℕ → Hand). h c) (sym hands) ∙ used) (subst (λ (x : Mem (Node K V)). FurtherAre deferred_word x c blocks) memory are)

module _ (K V : Type 0) (same : K → K → Bool) (hash : ℕ → K → ℕ) where
  pub rows_begin_order : RowsBeginOrder K V same hash
  rows_begin_order m known s old new shows called i leads =
      let to = leads.2 in
      let it = begun_same old.batch_size (slot_of i) i s.world to.0 called to.1.1 in
      order_in m known s.world to.0 it.0 it.1 shows

  pub rows_keep_order : RowsPreserveOrder K V same hash
  rows_keep_order name m known s old new at whole shows i told leads row here =
      let to = leads row here in
      row_order same name old.batch_size m known s whole shows (reached K V same hash s old new at i row here (to.0, told) to.1 to.2) i
      (λ b c puts. no_slot_puts b c row (subst (IsPutting b c) on_slot puts)) to.2.0 to.2.1 new.changed
      (row_tells old.memory new.memory new.changed (to.0, told) row to.1)
      (left K V same hash s old new at i row here (to.0, told) to.1 to.2)
    where
      on_slot : s.world.row i ≡ row_of row
      on_slot = here.1

  pub makings_keep_order : MakingsPreserveOrder K V same hash
  makings_keep_order name m known s old new at whole owning waiting shows i told leads b here of was_new =
      let step = (leads b here).2.step in
      users_keep_order old.batch_size m (with_effects None of (effects_of (OfMaking b.map) known new.changed) m) known (known_after (OfMaking b.map) new.changed known) s.world step.w2
      (came_reached old.batch_size s.world at.together.makings.standing.came) shows waiting whole.all.shown.blocks.roles owning step.events step.users step.runs
      (λ c len t is. role_back (OfMaking b.map) known c len t new.changed is)
      (λ x r noted its. role_kept same hash name m known s old new at whole i told leads b here of was_new x r noted its)
      (makings_keep_blocks K V same hash name m known s old new at whole.all.shown whole.blocks i told leads b here of was_new).tables_once
      (apart same hash name m known s old new at whole i told leads b here of was_new).0

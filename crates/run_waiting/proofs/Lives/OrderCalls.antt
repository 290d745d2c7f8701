-- After a step of a call pairs lie behind tables in the order in which they wait there: a row that puts a block in front of a table's list tells that its pair waits behind the table.
use Rattle.std.specs.Prelude.{◌≡◌, ◌⊎◌, ◌+◌, ℕ, Bool, true, false, List, [], ◌∷◌, map as each_of, filter, Some, None, if◌then◌else◌}
use Rattle.std.proofs.Common.{refl, ap, sym, subst, ◌∙◌, inl, inr}
use Rattle.run_debts.specs.Given.SeizeWordsMem.{Mem}
use Rattle.run_debts.specs.Given.SeizeWordsWord.{block_in}
use Rattle.run_debts.specs.Given.SeizeWordsDeclared.at.At.{At}
use Rattle.run_debts.specs.Given.SeizeFurther.{IsWordOf, FurtherAre}
use Rattle.run_debts.specs.Given.SeizeDeclared.states.TheConstants.{LAST_SLOT}
use Rattle.run_debts.specs.Given.SeizeWorld.{World, Rests, Hand, InUse, Handed, Request, Register', Enter', Leave', LeaveOwned, Refresh, Unregister', Retire, Flush, Defer', Event, Begin, Begins, Runs, Steps', with_at}
use Rattle.run_debts.proofs.Given.SeizeMemoryWords.Named.{link-block}
use Rattle.run_debts.proofs.Given.SeizeRuleWorld.Kept.{steps_next}
use Rattle.run_debts.proofs.Given.SeizeAloneHistories.Reached.{Reached, happens_reached}
use Rattle.run_debts.specs.Given.TablesNodes.{deferred_word}
use Rattle.run_debts.specs.Given.TablesDeclared.node.Node.{Node}
use Rattle.run_debts.specs.Given.RawDeclared.machines.progress.Progress.{Progress}
use Rattle.run_debts.specs.Given.RunsDeclared.effect.Effect.{Effect}
use Rattle.run_debts.specs.Given.RunsDeclared.effect.Effect.TheVariants.{Deferred}
use Rattle.run_debts.specs.Given.RunsDeclared.effect.TableId.{TableId}
use Rattle.run_debts.specs.Given.SchedulesEffects.{with_effects}
use Rattle.run_debts.specs.Given.SchedulesMoment.{Deferral, Moment}
use Rattle.run_debts.specs.Given.SchedulesThings.{same_table}
use Rattle.run_debts.specs.Given.SchedulesViews.{behind}
use Rattle.run_debts.specs.Given.RuleInWorld.{AllUsers}
use Rattle.run_debts.proofs.Given.RuleWorld.Hands.{at_cases}
use Rattle.run_debts.specs.Given.CallersSights.{seen_by}
use Rattle.run_debts.specs.Given.CallersTogether.{UnderWay, OnKey, ForRoom, Counting, OverAll, Together, HandsOver, IsOneStep}
use Rattle.run_debts.proofs.Given.CallersTogether.Came.{came_reached}
use Rattle.run_debts.specs.Given.EffectsEffects.{carried, named, effects_of, known_after}
use Rattle.run_debts.specs.Given.EffectsKnown.{Known}
use Rattle.run_debts.specs.Given.EffectsDeclared.acting.Acting.TheVariants.{Call}
use Rattle.run_debts.specs.Given.EffectsDeclared.role.Role.{Role}
use Rattle.run_debts.specs.Given.EffectsDeclared.role.Role.TheVariants as role
use Rattle.run_debts.specs.Given.FinishesMachines.{machine_of}
use Rattle.run_debts.proofs.Given.FollowsOnward.{IsLasting, KeepsRoles}
use Rattle.run_debts.proofs.Given.FollowsSteps.{WentTo, went_to, DidSo, OfNoRow, step_shown}
use Rattle.run_debts.proofs.Given.HandsSteps.{calls_store_theirs}
use Rattle.run_debts.proofs.Given.SpotsUnreclaimed.{table_is, same_itself, of_map_lasts as lasting_of}
use Rattle.run_debts.specs.Given.MomentsWhole.{RefinesWhole}
use Rattle.run_debts.proofs.Given.MomentsCalls.{calls_keep_whole}
use Rattle.run_debts.specs.Due.{ToPut, due_in_row, retired_effects, RowTells, TellsNone, TellsRetired, TellsDeferred, OwnAreMade}
use Rattle.run_debts.specs.Entries.{EntriesAreBlank}
use Rattle.run_debts.specs.Hand.{IsPairRole, RefinesObligations}
use Rattle.run_debts.proofs.DueCalls.{rows_tell_due}
use Rattle.run_debts.proofs.Hand.All.{own_or_row}
use Rattle.run_waiting.specs.Lives.Behind.{RefinesWaiting}
use Rattle.run_waiting.specs.Lives.Lying.{RefinesLying}
use Rattle.run_waiting.specs.Lives.Order.{RefinesOrder, CallsPreserveOrder}
use Rattle.run_waiting.specs.Lives.Waiting.{IsPutting}
use Rattle.run_waiting.proofs.Lives.CallRows.{looked, puts_it, retired_list, role_kept, under_way}
use Rattle.run_waiting.proofs.Lives.Calls.{calls_keep_list}
use Rattle.run_waiting.proofs.Lives.InUse.{step_goes, used_then}
use Rattle.run_waiting.proofs.Lives.LyingCalls.{none_after, yet_due}
use Rattle.run_waiting.proofs.Lives.LyingRows.{HasPut, put_on, PutsSo, puts_so, same_word, put_due, puts_pair}
use Rattle.run_waiting.proofs.Lives.Order.{order_as, users_keep_order}
use Rattle.run_waiting.proofs.Lives.Stages.{WasTable, role_back}
use Rattle.run_debts.specs.Given.ScenesHeld.{Held, IsAt}
use Rattle.run_debts.specs.Given.ScenesScene.{Scene, slot_of}
use Rattle.run_debts.specs.Given.ScenesStepping.{StepLeads}

-- one more waits behind this table, and no more behind another one
more_behind : (n : ℕ) (t : TableId) (ds : List Deferral) → behind t (record { pair = n; behind = t } ∷ ds) ≡ n ∷ behind t ds
more_behind n t ds =
    ap (λ (q : Bool). each_of (λ (x : Deferral). x.pair)
    (if q then record { pair = n; behind = t } ∷ filter (λ (x : Deferral). same_table x.behind t) ds else filter (λ (x : Deferral). same_table x.behind t) ds)) (same_itself t)

no_more_behind : (n : ℕ) (t x : TableId) (ds : List Deferral) → (x ≡ t → ⊥) → behind t (record { pair = n; behind = x } ∷ ds) ≡ behind t ds
no_more_behind n t x ds other = by (same_table x t) refl
  where
    by : (q : Bool) → same_table x t ≡ q
        → each_of (λ (d : Deferral). d.pair) (if q then record { pair = n; behind = x } ∷ filter (λ (d : Deferral). same_table d.behind t) ds else filter (λ (d : Deferral). same_table d.behind t) ds) ≡ behind t ds
    by true is = absurd (other (table_is x t is))
    by false is = refl

module _ {K V : Type 0} (same : K → K → Bool) (hash : ℕ → K → ℕ) (name : ℕ → List ℕ) (m : Moment K V) (known : Known) (s : Scene K V) (old new : Held K V) (at : IsAt same hash old s)
    (whole : RefinesWhole same name m known s) (owning : OwnAreMade known s.world) (waiting : RefinesWaiting m known s.world) (lying : RefinesLying m known s.world) (shows : RefinesOrder m known s.world)
    (map i : ℕ) (u : UnderWay K V K) (here : s.calls map i ≡ Some u) (said : Progress (Node K V)) (leads : StepLeads same hash i said s old new) where
  abbrev to : WentTo same hash name m known s old new at whole.all.shown map i u here said leads
  to = went_to same hash name m known s old new at whole.all.shown map i u here said leads

  abbrev w : World (Node K V)
  w = s.world

  abbrev effects : List Effect
  effects = effects_of (Call i map) known new.changed

  abbrev v : Moment K V
  v = with_effects (Some (name i)) (Some map) effects m

  abbrev known2 : Known
  known2 = known_after (Call i map) new.changed known

  abbrev size : ℕ
  size = to.0.setting.batch_size

  abbrev each : Together V same to.0.hash same to.0.setting slot_of w to.0.chart to.0.blocks to.0.sights (s.calls map)
  each = at.together.makings.standing.each map to.0 to.2

  reached : Reached deferred_word size w
  reached = came_reached size w each.ground.came

  -- none of a row
  module _ (own : OfNoRow same hash name m known s old new at whole.all.shown map i u here said leads u (leads map u here).4.did) where
    keeps : KeepsRoles known known2
    keeps =
        let stores = (calls_store_theirs K V same hash name m known s old new at whole.all map i u here said leads own).0 in
        (step_shown same hash name m known s old new at whole.all.shown map i u here said leads own stores).1.keeps

    by_events : (w2 : World (Node K V)) → to.4.w2 ≡ w2 → (events : List (Event (Node K V))) → AllUsers events → Runs deferred_word size events w w2 → RefinesOrder v known2 to.4.w2
    by_events w2 is events users runs =
        subst (RefinesOrder v known2) (sym is)
        (users_keep_order size m v known known2 w w2 reached shows waiting whole.all.shown.blocks.roles owning events users runs
        (λ c len t noted. role_back (Call i map) known c len t new.changed noted)
        (λ b r noted its. keeps b (subst IsLasting (sym noted) (lasting_of r its)) ∙ noted)
        (calls_keep_whole K V same hash name m known s old new at whole map i u here said leads).blocks.tables_once
        (calls_keep_list same hash name m known s old new at whole map i u here said leads own))

    pub own_order : RefinesOrder v known2 to.4.w2
    own_order = by u to.4.did own
      where
        by : (x : UnderWay K V K) (step : DidSo same hash name m known s old new at whole.all.shown map i u here said leads x)
            → OfNoRow same hash name m known s old new at whole.all.shown map i u here said leads x step → RefinesOrder v known2 to.4.w2
        by (OnKey x) (p2, end, machine_is, told_is, inl (step, moved)) none = by_events step.step.went.w2 moved.0 step.step.went.events step.step.went.users step.step.went.runs
        by (OnKey x) (p2, end, machine_is, told_is, inr (row, stayed)) none = absurd none
        by (ForRoom x) (p2, end, machine_is, told_is, inl (step, moved)) none = by_events step.step.went.w2 moved.0 step.step.went.events step.step.went.users step.step.went.runs
        by (ForRoom x) (p2, end, machine_is, told_is, inr (row, stayed)) none = absurd none
        by (Counting x) (p2, end, machine_is, told_is, still, stayed) none = by_events w stayed.0 [] tt refl
        by (OverAll x) (p2, end, machine_is, told_is, inl (step, moved)) none = by_events step.step.went.w2 moved.0 step.step.went.events step.step.went.users step.step.went.runs
        by (OverAll x) (p2, end, machine_is, told_is, inr (row, stayed)) none = absurd none

  -- of a row
  module _ (entries : EntriesAreBlank s) (owed : RefinesObligations name m known s)
      (other : OfNoRow same hash name m known s old new at whole.all.shown map i u here said leads u (leads map u here).4.did → ⊥) where
    abbrev Tells : Type 0
    Tells = RowTells i map known effects (due_in_row (machine_of u)) (due_in_row to.1)

    tells : Tells
    tells = rows_tell_due K V same hash name m known s old new at whole.all.shown whole.all.rows entries owning map i u here said leads other

    noted : (b : ℕ) (r : Role) → known.roles b ≡ r → IsLasting r → known2.roles b ≡ r
    noted = role_kept same hash name m known s old new at whole entries owning waiting map i u here said leads other

    abbrev deferred_then : List Effect → List Deferral
    deferred_then fs = (with_effects (Some (name i)) (Some map) fs m).deferred

    was_table : (c len : ℕ) (t : TableId) → known2.roles c ≡ role.Table t len → (o : ℕ) → w.hand c ≡ InUse o → known.roles c ≡ role.Table t len
    was_table c len t is o used = by (role_back (Call i map) known c len t new.changed is)
      where
        by : WasTable known c t len → known.roles c ≡ role.Table t len
        by (inl was) = was
        by (inr (turn, shape, own, e)) = absurd (let made = owning c turn shape own in let making = made.1 in cc (used, making))

    module _ (w3 : World (Node K V)) (is : to.4.w2 ≡ w3) (memory : w3.memory ≡ new.memory) (c len o : ℕ) (t : TableId) (blocks : List ℕ) (table2 : known2.roles c ≡ role.Table t len)
        (used : w3.hand c ≡ InUse o) (are : FurtherAre deferred_word w3.memory c blocks) where
      abbrev Lies : Type 0
      Lies = each_of known2.roles blocks ≡ each_of role.Pair (behind t v.deferred)

      as_told : (fs : List Effect) → effects ≡ fs → (ns : List ℕ) → behind t (deferred_then fs) ≡ ns → behind t v.deferred ≡ ns
      as_told fs told ns its = ap (λ (gs : List Effect). behind t (deferred_then gs)) told ∙ its

      -- the list is the one that it was, and the same pairs wait behind the table
      same_order : known.roles c ≡ role.Table t len → w.hand c ≡ InUse o → FurtherAre deferred_word w.memory c blocks → behind t v.deferred ≡ behind t m.deferred → Lies
      same_order was used_was are_was list = order_as m v known known2 w shows c len o t blocks was used_was are_was (λ b n some e. noted b (role.Pair n) e tt) list

      -- where no pair is told to wait behind the table
      none_more : ((word block : ℕ) (place : At) (x : TableId) (k n : ℕ) → due_in_row (machine_of u) ≡ Some (ToPut word place) → IsWordOf block place → due_in_row to.1 ≡ None → known.roles block ≡ role.Table x k
          → effects ≡ Deferred n x ∷ [] → x ≡ t → ⊥) → behind t v.deferred ≡ behind t m.deferred
      none_more never = by tells
        where
          Told : Type 0
          Told = behind t v.deferred ≡ behind t m.deferred

          put_more : (word block : ℕ) (place : At) (x : TableId) (k : ℕ) (r : Role) → due_in_row (machine_of u) ≡ Some (ToPut word place) → IsWordOf block place → due_in_row to.1 ≡ None
              → known.roles block ≡ role.Table x k → effects ≡ carried x r → Told
          put_more word block place x k (role.Pair n) due its gone table told =
              as_told (Deferred n x ∷ []) told (behind t m.deferred) (no_more_behind n t x m.deferred (never word block place x k n due its gone table told))
          put_more word block place x k role.Free due its gone table told = as_told [] told (behind t m.deferred) refl
          put_more word block place x k (role.OwnPair j) due its gone table told = as_told [] told (behind t m.deferred) refl
          put_more word block place x k (role.OwnTable turn shape) due its gone table told = as_told [] told (behind t m.deferred) refl
          put_more word block place x k (role.Table y many) due its gone table told = as_told [] told (behind t m.deferred) refl
          put_more word block place x k (role.Counter of) due its gone table told = as_told [] told (behind t m.deferred) refl

          by : Tells → Told
          by (TellsNone none alike) = as_told [] none (behind t m.deferred) refl
          by (TellsRetired word due gone told) = as_told (retired_effects (known.roles (block_in word))) told (behind t m.deferred) (ap (behind t) (retired_list same hash name m known s old new at whole entries owning waiting map i u here said leads other w3 is (known.roles (block_in word))))
          by (TellsDeferred word block place x k due its gone table told) = put_more word block place x k (named known word) due its gone table told

      -- it takes a step
      module _ (step : Steps' deferred_word i (w.row i) w w3) where
        used_was : w.hand c ≡ InUse o
        used_was = used_then deferred_word size i w w3 reached step c o used blocks are

        was : known.roles c ≡ role.Table t len
        was = was_table c len t table2 o used_was

        row_then : (b : ℕ) → IsPutting b c (w.row i) → IsPutting b c (w3.row i) ⊎ HasPut (w3.row i)
        row_then b puts =
            let next = steps_next deferred_word (LAST_SLOT + 1) size refl w w3 reached.good reached.sized i (w.row i) refl step in
            put_on (LAST_SLOT + 1) i b c (w.row i) (w3.row i) w.uses w3.uses reached.good.state next.good.state puts next.told

        -- one that puts nothing there tells of none that waits there
        never : ((b : ℕ) → IsPutting b c (w.row i) → HasPut (w3.row i) → ⊥) → (word block : ℕ) (place : At) (x : TableId) (k n : ℕ) → due_in_row (machine_of u) ≡ Some (ToPut word place) → IsWordOf block place
            → due_in_row to.1 ≡ None → known.roles block ≡ role.Table x k → effects ≡ Deferred n x ∷ [] → x ≡ t → ⊥
        never none word block place x k n due its gone table told one = elim (row_then (block_in word) puts) as (λ _. ⊥) [
          | inl on ↦
              yet_due same hash name m known s old new at whole owning lying map i u here said leads entries owed other (block_in word) c
              (subst (λ (z : World (Node K V)). IsPutting (block_in word) c (z.row i)) (sym is) on) gone
          | inr over ↦ none (block_in word) puts over
        ]
          where
            same_block : block ≡ c
            same_block = whole.blocks.tables_once block c k len t (table ∙ ap (λ (y : TableId). role.Table y k) one) was

            puts : IsPutting (block_in word) c (w.row i)
            puts =
                subst (λ (y : ℕ). IsPutting (block_in word) y (w.row i)) same_block
                (puts_it same hash name m known s old new at whole entries owning waiting map i u here said leads other w3 is memory (inl step) word block place n x due its told)

        -- one that puts its block in front tells of its pair
        put_so : (b : ℕ) (rest : List ℕ) → IsPutting b c (w.row i) → HasPut (w3.row i) → blocks ≡ b ∷ rest → FurtherAre deferred_word w.memory c rest → Lies
        put_so b rest puts over is_first are_rest = by tells
          where
            its : PutsSo b c (w.row i)
            its = puts_so b c (w.row i) puts

            due_is : due_in_row (machine_of u) ≡ Some (ToPut its.word its.place)
            due_is = put_due same to.0.hash to.0.setting w to.0.chart (seen_by to.0.blocks (to.0.sights (slot_of i))) i its.word its.place u (each.stand i u here) its.is

            names : block_in its.word ≡ b
            names = ap block_in its.block ∙ link-block b

            over_there : HasPut (to.4.w2.row i)
            over_there = subst (λ (z : World (Node K V)). HasPut (z.row i)) (sym is) over

            put_now : (word block : ℕ) (place : At) (x : TableId) (k : ℕ) (r : Role) → due_in_row (machine_of u) ≡ Some (ToPut word place) → IsWordOf block place → known.roles block ≡ role.Table x k
                → named known word ≡ r → IsPairRole r → effects ≡ carried x r → Lies
            put_now word block place x k (role.Pair n) due one table is_named pair told =
                let alike : Some (ToPut word place) ≡ Some (ToPut its.word its.place) = sym due ∙ due_is in
                let words : word ≡ its.word = cc alike in
                let places : place ≡ its.place = cc alike in
                let same_block : block ≡ c = same_word block c its.place (subst (IsWordOf block) places one) its.its in
                let tables : role.Table x k ≡ role.Table t len = sym table ∙ ap known.roles same_block ∙ was in
                let same_one : x ≡ t = cc tables in
                let pair_is : known.roles b ≡ role.Pair n = ap known.roles (sym names ∙ ap block_in (sym words)) ∙ is_named in
                let waits : behind t v.deferred ≡ n ∷ behind t m.deferred =
                as_told (Deferred n x ∷ []) told (n ∷ behind t m.deferred)
                (ap (λ (y : TableId). behind t (record { pair = n; behind = y } ∷ m.deferred)) same_one ∙ more_behind n t m.deferred) in
                let rest_is : each_of known2.roles rest ≡ each_of role.Pair (behind t m.deferred) =
                order_as m m known known2 w shows c len o t rest was used_was are_rest (λ d k some e. noted d (role.Pair k) e tt) refl in
                ap (λ (l : List ℕ). each_of known2.roles l) is_first ∙ ap (λ (r : Role). r ∷ each_of known2.roles rest) (noted b (role.Pair n) pair_is tt)
                ∙ ap (λ (rs : List Role). role.Pair n ∷ rs) rest_is ∙ ap (λ (ns : List ℕ). each_of role.Pair ns) (sym waits)
            put_now word block place x k role.Free due one table is_named pair told = absurd pair
            put_now word block place x k (role.OwnPair j) due one table is_named pair told = absurd pair
            put_now word block place x k (role.OwnTable turn shape) due one table is_named pair told = absurd pair
            put_now word block place x k (role.Table y many) due one table is_named pair told = absurd pair
            put_now word block place x k (role.Counter of) due one table is_named pair told = absurd pair

            by : Tells → Lies
            by (TellsNone none alike) =
                absurd (none_after same hash name m known s old new at whole owning lying map i u here said leads entries owed other its.word its.place over_there (alike ∙ due_is))
            by (TellsRetired word due gone told) = absurd (let both = sym due ∙ due_is in cc both)
            by (TellsDeferred word block place x k due one gone table told) =
                put_now word block place x k (named known word) due one table refl (puts_pair known (machine_of u) (owed.noted map i u here) word place due) told

        stepped : Lies
        stepped = elim (step_goes deferred_word size i w w3 reached step c o used blocks are) as (λ _. Lies) [
          | inl same_list ↦ same_order was used_was same_list.0 (none_more (never same_list.1))
          | inr put ↦ put_so put.0 put.1 put.2 put.3 put.4 put.5
        ]

      -- or begins with it
      module _ (request : Request) (begun : World (Node K V)) (over : HandsOver to.0.setting i w request) (begins : (w.row i ≡ Rests) × Begins deferred_word size i request w begun)
          (step : Steps' deferred_word i (begun.row i) begun w3) where
        used_begun : begun.hand c ≡ InUse o
        used_begun = used_then deferred_word size i begun w3 (happens_reached deferred_word size (Begin i request) w begun reached begins) step c o used blocks are

        not_handed : (b : ℕ) → begun.hand c ≡ with_at w.hand b Handed c → w.hand c ≡ InUse o
        not_handed b hands = at_cases (λ (h : Hand). h ≡ InUse o → w.hand c ≡ InUse o) w.hand b Handed c (λ e none. absurd (cc none)) (λ ne same_hand. same_hand) (sym hands ∙ used_begun)

        used_first : w.hand c ≡ InUse o
        used_first = by request over begins.1
          where
            by : (r : Request) → HandsOver to.0.setting i w r → Begins deferred_word size i r w begun → w.hand c ≡ InUse o
            by (Retire slot b) its h = not_handed b (ap (λ (z : World (Node K V)). z.hand c) h.2)
            by (Defer' slot b d) its h = not_handed b (ap (λ (z : World (Node K V)). z.hand c) h.7)
            by (Register' enters) its h = absurd its
            by (Enter' slot) its h = absurd its
            by (Leave' slot) its h = absurd its
            by (LeaveOwned slot) its h = absurd its
            by (Refresh slot) its h = absurd its
            by (Unregister' slot) its h = absurd its
            by (Flush slot) its h = absurd its

        began : Lies
        began =
            let same_memory = looked same hash name m known s old new at whole entries owning waiting map i u here said leads other w3 is request begun over begins.1 step in
            same_order (was_table c len t table2 o used_first) used_first (subst (λ (x : Mem (Node K V)). FurtherAre deferred_word x c blocks) same_memory are)
            (none_more (λ word block place x k n due its gone table told one.
            under_way same hash name m known s old new at whole entries owning waiting map i u here said leads other w3 is memory (inr (request, begun, over, begins, step)) n x told begins.0))

      one_lies : IsOneStep to.0.setting i w w3 → Lies
      one_lies (inl step) = stepped step
      one_lies (inr (request, begun, over, begins, step)) = began request begun over begins step

    row_lies : (w3 : World (Node K V)) → to.4.w2 ≡ w3 → w3.memory ≡ new.memory → IsOneStep to.0.setting i w w3 → RefinesOrder v known2 to.4.w2
    row_lies w3 is memory step c len o t blocks table2 used are =
        one_lies w3 is memory c len o t blocks table2 (ap (λ (z : World (Node K V)). z.hand c) (sym is) ∙ used) (subst (λ (z : World (Node K V)). FurtherAre deferred_word z.memory c blocks) is are) step

    pub row_order : RefinesOrder v known2 to.4.w2
    row_order = by u to.4.did other
      where
        by : (x : UnderWay K V K) (step : DidSo same hash name m known s old new at whole.all.shown map i u here said leads x)
            → (OfNoRow same hash name m known s old new at whole.all.shown map i u here said leads x step → ⊥) → RefinesOrder v known2 to.4.w2
        by (OnKey x) (p2, end, machine_is, told_is, inl step) none = absurd (none tt)
        by (OnKey x) (p2, end, machine_is, told_is, inr (row, stayed)) none = row_lies row.step.w2 stayed.0 row.step.memory row.step.happened
        by (ForRoom x) (p2, end, machine_is, told_is, inl step) none = absurd (none tt)
        by (ForRoom x) (p2, end, machine_is, told_is, inr (row, stayed)) none = row_lies row.step.w2 stayed.0 row.step.memory row.step.happened
        by (Counting x) step none = absurd (none tt)
        by (OverAll x) (p2, end, machine_is, told_is, inl step) none = absurd (none tt)
        by (OverAll x) (p2, end, machine_is, told_is, inr (row, stayed)) none = row_lies row.step.w2 stayed.0 row.step.memory row.step.happened

pub calls_keep_order : (K V : Type 0) (same : K → K → Bool) (hash : ℕ → K → ℕ) → CallsPreserveOrder K V same hash
calls_keep_order K V same hash name m known s old new at whole entries owning owed waiting lying shows map i u here said leads =
    elim (own_or_row same hash name m known s old new at whole.all.shown map i u here said leads u (went_to same hash name m known s old new at whole.all.shown map i u here said leads).4.did)
    as (λ _. RefinesOrder (with_effects (Some (name i)) (Some map) (effects_of (Call i map) known new.changed) m) (known_after (Call i map) new.changed known) (leads map u here).4.w2) [
      | inl own ↦ own_order same hash name m known s old new at whole owning waiting lying shows map i u here said leads own
      | inr other ↦ row_order same hash name m known s old new at whole owning waiting lying shows map i u here said leads entries owed other
    ]

-- What lies behind tables after a step of a call waits there by the moment, or a row is putting it there: the call's own, which tells it once it has put it there.
use Rattle.std.specs.Prelude.{◌≡◌, ◌≢◌, ◌⊎◌, ℕ, eqb, Bool, true, cond, ◌+◌, List, [], ◌∷◌, Option, Some, None}
use Rattle.std.proofs.Common.{refl, ap, sym, subst, ◌∙◌, inl, inr}
use Rattle.std.proofs.lemmas.Bool.{cases_eq, eq-eqb, ne_eqb}
use Rattle.run_debts.specs.Given.SeizeWordsWord.{block_in}
use Rattle.run_debts.specs.Given.SeizeWordsDeclared.at.At.{At}
use Rattle.run_debts.specs.Given.SeizeFurther.{IsWordOf}
use Rattle.run_debts.specs.Given.SeizeLaw.{With, Nowhere, is_standing, where_is}
use Rattle.run_debts.specs.Given.SeizeDeclared.states.TheConstants.{LAST_SLOT}
use Rattle.run_debts.specs.Given.SeizeWorld.{World, Row, Rests, Registers, Enters, Settles, Leaves, Defers, Frees, Request, Register', Enter', Leave', LeaveOwned, Refresh, Unregister', Retire, Flush, Defer', Event, Begin, Begins, Runs, Steps', with_at}
use Rattle.run_debts.proofs.Given.SeizeRuleWorld.Kept.{steps_next}
use Rattle.run_debts.proofs.Given.SeizeMemoryWords.Named.{link-block}
use Rattle.run_debts.proofs.Given.SeizeAloneHistories.Reached.{Reached, happens_reached}
use Rattle.run_debts.specs.Given.TablesNodes.{deferred_word}
use Rattle.run_debts.specs.Given.TablesDeclared.node.Node.{Node}
use Rattle.run_debts.specs.Given.RawDeclared.machines.machine.Machine.{Machine}
use Rattle.run_debts.specs.Given.RawDeclared.machines.progress.Progress.{Progress}
use Rattle.run_debts.specs.Given.RawDeclared.machines.progress.Progress.TheVariants as progress
use Rattle.run_debts.specs.Given.RunsDeclared.effect.Effect.{Effect}
use Rattle.run_debts.specs.Given.RunsDeclared.effect.TableId.{TableId}
use Rattle.run_debts.specs.Given.SchedulesEffects.{with_effects}
use Rattle.run_debts.specs.Given.SchedulesLists.{is_among}
use Rattle.run_debts.specs.Given.SchedulesMoment.{Deferral, Moment}
use Rattle.run_debts.specs.Given.SchedulesViews.{behind}
use Rattle.run_debts.specs.Given.RuleInWorld.{AllUsers}
use Rattle.run_debts.specs.Given.CallersSights.{seen_by}
use Rattle.run_debts.specs.Given.CallersTogether.{UnderWay, OnKey, ForRoom, Counting, OverAll, Together, HandsOver, IsOneStep}
use Rattle.run_debts.proofs.Given.CallersRows.Behind.{carrier_not_made, deferred_behind, events_back, row_back}
use Rattle.run_debts.proofs.Given.CallersTogether.At.{at_same}
use Rattle.run_debts.proofs.Given.CallersTogether.Came.{came_reached}
use Rattle.run_debts.proofs.Given.CallersTogether.Users.{events_rows}
use Rattle.run_debts.specs.Given.EffectsEffects.{carried, named, effects_of, known_after}
use Rattle.run_debts.specs.Given.EffectsKnown.{Known}
use Rattle.run_debts.specs.Given.EffectsDeclared.acting.Acting.TheVariants.{Call}
use Rattle.run_debts.specs.Given.EffectsDeclared.role.Role.{Role}
use Rattle.run_debts.specs.Given.EffectsDeclared.role.Role.TheVariants as role
use Rattle.run_debts.specs.Given.FinishesMachines.{machine_of, ContinuesAs}
use Rattle.run_debts.specs.Given.FinishesMaps.{Standing}
use Rattle.run_debts.proofs.Given.FollowsOnward.{IsLasting, KeepsRoles}
use Rattle.run_debts.proofs.Given.FollowsRowSteps.{row_step_shown}
use Rattle.run_debts.proofs.Given.FollowsSteps.{WentTo, went_to, DidSo, OfNoRow, step_shown}
use Rattle.run_debts.proofs.Given.HandsRowSteps.{rows_hand_theirs}
use Rattle.run_debts.proofs.Given.HandsSteps.{calls_store_theirs}
use Rattle.run_debts.specs.Given.MomentsWhole.{RefinesWhole}
use Rattle.run_debts.specs.Due.{ToPut, due_in_row, retired_effects, RowTells, TellsNone, TellsRetired, TellsDeferred, OwnAreMade}
use Rattle.run_debts.specs.Entries.{EntriesAreBlank}
use Rattle.run_debts.specs.Hand.{IsPairRole, RefinesObligations}
use Rattle.run_debts.proofs.DueCalls.{rows_tell_due}
use Rattle.run_debts.proofs.Hand.All.{own_or_row}
use Rattle.run_waiting.specs.Lives.Lying.{IsNotedDeferred, IsPutThere, RefinesLying, CallsPreserveLying}
use Rattle.run_waiting.specs.Lives.Waiting.{IsPutting}
use Rattle.run_waiting.proofs.Lives.Calls.{calls_keep_list}
use Rattle.run_waiting.proofs.Lives.Lying.{lying_on, now_among}
use Rattle.run_waiting.proofs.Lives.LyingRows.{HasPut, put_on, begun_puts, PutsSo, puts_so, put_none, same_word, put_due, puts_pair}
use Rattle.run_waiting.proofs.Lives.Once.{more}
use Rattle.run_waiting.proofs.Lives.Puts.{to_put}
use Rattle.run_waiting.proofs.Lives.Stages.{WasTable, role_back}
use Rattle.run_debts.specs.Given.ScenesHeld.{Held, IsAt}
use Rattle.run_debts.specs.Given.ScenesScene.{Scene, slot_of}
use Rattle.run_debts.specs.Given.ScenesStepping.{StepLeads, scene_after}

-- a row that has put its block rests not yet
put_busy : (row : Row) → HasPut row → row ≡ Rests → ⊥
put_busy (Defers s c) over is = cc is
put_busy Rests over is = over
put_busy (Registers c) over is = over
put_busy (Enters c) over is = over
put_busy (Settles c) over is = over
put_busy (Leaves c) over is = over
put_busy (Frees c) over is = over

module _ {K V : Type 0} (same : K → K → Bool) (hash : ℕ → K → ℕ) (name : ℕ → List ℕ) (m : Moment K V) (known : Known) (s : Scene K V) (old new : Held K V) (at : IsAt same hash old s)
    (whole : RefinesWhole same name m known s) (owning : OwnAreMade known s.world) (shows : RefinesLying m known s.world) (map i : ℕ) (u : UnderWay K V K) (here : s.calls map i ≡ Some u)
    (said : Progress (Node K V)) (leads : StepLeads same hash i said s old new) where
  abbrev to : WentTo same hash name m known s old new at whole.all.shown map i u here said leads
  to = went_to same hash name m known s old new at whole.all.shown map i u here said leads

  abbrev w : World (Node K V)
  w = s.world

  abbrev effects : List Effect
  effects = effects_of (Call i map) known new.changed

  abbrev v : Moment K V
  v = with_effects (Some (name i)) (Some map) effects m

  abbrev known2 : Known
  known2 = known_after (Call i map) new.changed known

  abbrev size : ℕ
  size = to.0.setting.batch_size

  abbrev each : Together V same to.0.hash same to.0.setting slot_of w to.0.chart to.0.blocks to.0.sights (s.calls map)
  each = at.together.makings.standing.each map to.0 to.2

  reached : Reached deferred_word size w
  reached = came_reached size w each.ground.came

  -- what carries a block is none of somebody's own
  was_table : (b c len : ℕ) (t : TableId) → where_is b w.log ≡ With c → known2.roles c ≡ role.Table t len → known.roles c ≡ role.Table t len
  was_table b c len t lies is = by (role_back (Call i map) known c len t new.changed is)
    where
      by : WasTable known c t len → known.roles c ≡ role.Table t len
      by (inl noted) = noted
      by (inr (turn, shape, own, e)) = absurd (let made = owning c turn shape own in carrier_not_made deferred_word size w reached b c lies made.0 made.1)

  -- none of a row
  module _ (own : OfNoRow same hash name m known s old new at whole.all.shown map i u here said leads u (leads map u here).4.did) where
    keeps : KeepsRoles known known2
    keeps =
        let stores = (calls_store_theirs K V same hash name m known s old new at whole.all map i u here said leads own).0 in
        (step_shown same hash name m known s old new at whole.all.shown map i u here said leads own stores).1.keeps

    by_events : (w2 : World (Node K V)) → to.4.w2 ≡ w2 → (events : List (Event (Node K V))) → AllUsers events → Runs deferred_word size events w w2 → RefinesLying v known2 to.4.w2
    by_events w2 is events users runs =
        subst (RefinesLying v known2) (sym is)
        (lying_on m v known known2 w w2 shows
        (λ b c lies. (events_back deferred_word size b c events w w2 reached users runs lies).0)
        was_table
        (λ b c n lies noted. keeps b (subst IsLasting (sym noted) tt) ∙ noted)
        (λ c len n t is was among.
        ap (λ (ds : List Deferral). is_among n (behind t ds)) (calls_keep_list same hash name m known s old new at whole map i u here said leads own) ∙ among)
        (λ j b c its. subst (λ (f : ℕ → Row). IsPutting b c (f j)) (sym (events_rows size events w w2 users runs)) its))

    pub own_lies : RefinesLying v known2 to.4.w2
    own_lies = by u to.4.did own
      where
        by : (x : UnderWay K V K) (step : DidSo same hash name m known s old new at whole.all.shown map i u here said leads x)
            → OfNoRow same hash name m known s old new at whole.all.shown map i u here said leads x step → RefinesLying v known2 to.4.w2
        by (OnKey x) (p2, end, machine_is, told_is, inl (step, moved)) none = by_events step.step.went.w2 moved.0 step.step.went.events step.step.went.users step.step.went.runs
        by (OnKey x) (p2, end, machine_is, told_is, inr (row, stayed)) none = absurd none
        by (ForRoom x) (p2, end, machine_is, told_is, inl (step, moved)) none = by_events step.step.went.w2 moved.0 step.step.went.events step.step.went.users step.step.went.runs
        by (ForRoom x) (p2, end, machine_is, told_is, inr (row, stayed)) none = absurd none
        by (Counting x) (p2, end, machine_is, told_is, still, stayed) none = by_events w stayed.0 [] tt refl
        by (OverAll x) (p2, end, machine_is, told_is, inl (step, moved)) none = by_events step.step.went.w2 moved.0 step.step.went.events step.step.went.users step.step.went.runs
        by (OverAll x) (p2, end, machine_is, told_is, inr (row, stayed)) none = absurd none

  -- of a row
  module _ (entries : EntriesAreBlank s) (owed : RefinesObligations name m known s)
      (other : OfNoRow same hash name m known s old new at whole.all.shown map i u here said leads u (leads map u here).4.did → ⊥) where
    abbrev Tells : Type 0
    Tells = RowTells i map known effects (due_in_row (machine_of u)) (due_in_row to.1)

    tells : Tells
    tells = rows_tell_due K V same hash name m known s old new at whole.all.shown whole.all.rows entries owning map i u here said leads other

    role_kept : (b : ℕ) (r : Role) → known.roles b ≡ r → IsLasting r → known2.roles b ≡ r
    role_kept b r e its =
        let theirs = rows_hand_theirs K V same hash name m known s old new at whole.all map i u here said leads other in
        (row_step_shown same hash name m known s old new at whole.all.shown map i u here said leads other theirs.1 theirs.0).keeps b (subst IsLasting (sym e) its) ∙ e

    abbrev deferred_then : List Effect → List Deferral
    deferred_then fs = (with_effects (Some (name i)) (Some map) fs m).deferred

    abbrev Lies : ℕ → ℕ → TableId → Type 0
    Lies b c t = IsNotedDeferred v known2 b t ⊎ IsPutThere to.4.w2 b c

    -- what waited does so still
    still_among : (n : ℕ) (t : TableId) → is_among n (behind t m.deferred) ≡ true → is_among n (behind t v.deferred) ≡ true
    still_among n t among = by tells
      where
        retired : (r : Role) → is_among n (behind t (deferred_then (retired_effects r))) ≡ true
        retired (role.Pair k) = among
        retired (role.Table x len) = among
        retired role.Free = among
        retired (role.OwnPair k) = among
        retired (role.OwnTable turn shape) = among
        retired (role.Counter of) = among

        put_more : (x : TableId) (r : Role) → is_among n (behind t (deferred_then (carried x r))) ≡ true
        put_more x (role.Pair k) = more n t (record { pair = k; behind = x }) m.deferred among
        put_more x role.Free = among
        put_more x (role.OwnPair k) = among
        put_more x (role.OwnTable turn shape) = among
        put_more x (role.Table y len) = among
        put_more x (role.Counter of) = among

        as_told : (fs : List Effect) → effects ≡ fs → is_among n (behind t (deferred_then fs)) ≡ true → is_among n (behind t v.deferred) ≡ true
        as_told fs are its = ap (λ (gs : List Effect). is_among n (behind t (deferred_then gs))) are ∙ its

        by : Tells → is_among n (behind t v.deferred) ≡ true
        by (TellsNone none alike) = as_told [] none among
        by (TellsRetired word due gone are) = as_told (retired_effects (known.roles (block_in word))) are (retired (known.roles (block_in word)))
        by (TellsDeferred word block place x len due its gone noted are) = as_told (carried x (named known word)) are (put_more x (named known word))

    still_told : (b : ℕ) (t : TableId) → IsNotedDeferred m known b t → IsNotedDeferred v known2 b t
    still_told b t (n, noted, among) = (n, role_kept b (role.Pair n) noted tt, still_among n t among)

    still_put : (j b c : ℕ) → j ≢ i → IsPutting b c (w.row j) → IsPutThere to.4.w2 b c
    still_put j b c ne its = (j, subst (IsPutting b c) (sym (to.4.rows j ne)) its)

    -- it goes on where its row does
    goes_on : (to.4.w2.row i ≡ Rests → ⊥) → (u2 : UnderWay K V K) × (to.4.next ≡ Some u2) × (machine_of u2 ≡ to.1)
    goes_on on = by said to.4.goes_on
      where
        by : (x : Progress (Node K V)) → ContinuesAs to.1 x to.4.next → (u2 : UnderWay K V K) × (to.4.next ≡ Some u2) × (machine_of u2 ≡ to.1)
        by (progress.Done answer) none = absurd (on (to.4.rests none))
        by (progress.Refused fault) none = absurd (on (to.4.rests none))
        by _ goes = goes

    abbrev s2 : Scene K V
    s2 = scene_after same s old new map i to.0 u to.1 said to.4

    its_call : (u2 : UnderWay K V K) → to.4.next ≡ Some u2 → s2.calls map i ≡ Some u2
    its_call u2 e =
        ap (λ (f : ℕ → Option (UnderWay K V K)). f i) (at_same s.calls map (with_at (s.calls map) i to.4.next) map refl) ∙ at_same (s.calls map) i to.4.next i refl ∙ e

    -- once its row has put its block there, its machine is to put none
    pub none_after : (word : ℕ) (place : At) → HasPut (to.4.w2.row i) → due_in_row to.1 ≡ Some (ToPut word place) → ⊥
    none_after word place over due =
        let next = goes_on (put_busy (to.4.w2.row i) over) in
        let st2 : Standing K = record to.0 { chart = to.4.its_map.0; blocks = to.4.its_map.1; sights = to.4.its_map.2 } in
        let stands = (to.4.together.makings.standing.each map st2 to.4.its_map.4).stand i next.0 (its_call next.0 next.1) in
        let due2 = subst (λ (z : Machine K V K). due_in_row z ≡ Some (ToPut word place)) (sym next.2) due in
        put_none word place (to.4.w2.row i) over
        (to_put same to.0.hash to.0.setting to.4.w2 st2.chart (seen_by st2.blocks (st2.sights (slot_of i))) i word place next.0 stands (put_busy (to.4.w2.row i) over) due2)

    -- and as long as it is putting one there, its machine is to
    pub yet_due : (b c : ℕ) → IsPutting b c (to.4.w2.row i) → due_in_row to.1 ≡ None → ⊥
    yet_due b c puts gone =
        let its : PutsSo b c (to.4.w2.row i) = puts_so b c (to.4.w2.row i) puts in
        let next = goes_on (λ rests. subst (IsPutting b c) rests puts) in
        let st2 : Standing K = record to.0 { chart = to.4.its_map.0; blocks = to.4.its_map.1; sights = to.4.its_map.2 } in
        let stands = (to.4.together.makings.standing.each map st2 to.4.its_map.4).stand i next.0 (its_call next.0 next.1) in
        let due = put_due same to.0.hash to.0.setting to.4.w2 st2.chart (seen_by st2.blocks (st2.sights (slot_of i))) i its.word its.place next.0 stands its.is in
        let due2 = subst (λ (z : Machine K V K). due_in_row z ≡ Some (ToPut its.word its.place)) next.2 due in
        cc (due2, gone)

    -- it tells that it has put it there
    told_put : (b c len : ℕ) (t : TableId) → known.roles c ≡ role.Table t len → IsPutting b c (w.row i) → HasPut (to.4.w2.row i) → IsNotedDeferred v known2 b t
    told_put b c len t table puts over = by tells
      where
        its : PutsSo b c (w.row i)
        its = puts_so b c (w.row i) puts

        due_is : due_in_row (machine_of u) ≡ Some (ToPut its.word its.place)
        due_is = put_due same to.0.hash to.0.setting w to.0.chart (seen_by to.0.blocks (to.0.sights (slot_of i))) i its.word its.place u (each.stand i u here) its.is

        names : block_in its.word ≡ b
        names = ap block_in its.block ∙ link-block b

        put_now : (word block : ℕ) (place : At) (x : TableId) (k : ℕ) (r : Role) → due_in_row (machine_of u) ≡ Some (ToPut word place) → IsWordOf block place → known.roles block ≡ role.Table x k
            → named known word ≡ r → IsPairRole r → effects ≡ carried x r → IsNotedDeferred v known2 b t
        put_now word block place x k (role.Pair n) due one noted is pair are =
            let alike : Some (ToPut word place) ≡ Some (ToPut its.word its.place) = sym due ∙ due_is in
            let words : word ≡ its.word = cc alike in
            let places : place ≡ its.place = cc alike in
            let same_block : block ≡ c = same_word block c its.place (subst (IsWordOf block) places one) its.its in
            let tables : role.Table x k ≡ role.Table t len = sym noted ∙ ap known.roles same_block ∙ table in
            let same_table : x ≡ t = cc tables in
            let pair_is : known.roles b ≡ role.Pair n = ap known.roles (sym names ∙ ap block_in (sym words)) ∙ is in (
              n,
              role_kept b (role.Pair n) pair_is tt,
              ap (λ (fs : List Effect). is_among n (behind t (deferred_then fs))) are
                  ∙ subst (λ (y : TableId). is_among n (behind t (record { pair = n; behind = y } ∷ m.deferred)) ≡ true) (sym same_table) (now_among n t m.deferred),
            )
        put_now word block place x k role.Free due one noted is pair are = absurd pair
        put_now word block place x k (role.OwnPair j) due one noted is pair are = absurd pair
        put_now word block place x k (role.OwnTable turn shape) due one noted is pair are = absurd pair
        put_now word block place x k (role.Table y many) due one noted is pair are = absurd pair
        put_now word block place x k (role.Counter of) due one noted is pair are = absurd pair

        by : Tells → IsNotedDeferred v known2 b t
        by (TellsNone none alike) = absurd (none_after its.word its.place over (alike ∙ due_is))
        by (TellsRetired word due gone are) = absurd (let both = sym due ∙ due_is in cc both)
        by (TellsDeferred word block place x k due one gone noted are) =
            put_now word block place x k (named known word) due one noted refl (puts_pair known (machine_of u) (owed.noted map i u here) word place due) are

    module _ (w3 : World (Node K V)) (is : to.4.w2 ≡ w3) where
      -- it takes a step
      stepped : Steps' deferred_word i (w.row i) w w3 → (b c len : ℕ) (t : TableId) → known2.roles c ≡ role.Table t len → where_is b w3.log ≡ With c → Lies b c t
      stepped step b c len t noted lies = elim (shows b c len t table before) as (λ _. Lies b c t) [
        | inl told ↦ inl (still_told b t told)
        | inr its ↦ elim (cases_eq its.0 i) as (λ _. Lies b c t) [
          | inl e ↦ mine (subst (λ (j : ℕ). IsPutting b c (w.row j)) e its.1)
          | inr ne ↦ inr (still_put its.0 b c ne its.1)
        ]
      ]
        where
          before : where_is b w.log ≡ With c
          before = (row_back deferred_word size b c w w3 reached i step lies).0

          table : known.roles c ≡ role.Table t len
          table = was_table b c len t before noted

          mine : IsPutting b c (w.row i) → Lies b c t
          mine puts =
              let next = steps_next deferred_word (LAST_SLOT + 1) size refl w w3 reached.good reached.sized i (w.row i) refl step in
              elim (put_on (LAST_SLOT + 1) i b c (w.row i) (w3.row i) w.uses w3.uses reached.good.state next.good.state puts next.told) as (λ _. Lies b c t) [
                | inl on ↦ inr (i, subst (λ (z : World (Node K V)). IsPutting b c (z.row i)) (sym is) on)
                | inr over ↦ inl (told_put b c len t table puts (subst (λ (z : World (Node K V)). HasPut (z.row i)) (sym is) over))
              ]

      -- or begins with it
      module _ (request : Request) (begun : World (Node K V)) (begins : (w.row i ≡ Rests) × Begins deferred_word size i request w begun) (step : Steps' deferred_word i (begun.row i) begun w3)
          (b c len : ℕ) (t : TableId) (noted : known2.roles c ≡ role.Table t len) (lies : where_is b w3.log ≡ With c) where
        in_begun : where_is b begun.log ≡ With c
        in_begun = (row_back deferred_word size b c begun w3 (happens_reached deferred_word size (Begin i request) w begun reached begins) i step lies).0

        lay_so : where_is b w.log ≡ With c → Lies b c t
        lay_so before = elim (shows b c len t (was_table b c len t before noted) before) as (λ _. Lies b c t) [
          | inl told ↦ inl (still_told b t told)
          | inr its ↦ inr (still_put its.0 b c (λ e. subst (IsPutting b c) (ap w.row e ∙ begins.0) its.1) its.1)
        ]

        same_log : begun.log ≡ w.log → Lies b c t
        same_log logs = lay_so (sym (ap (where_is b) logs) ∙ in_begun)

        began : (r : Request) → request ≡ r → HandsOver to.0.setting i w r → Begins deferred_word size i r w begun → Lies b c t
        began (Retire slot x) e over h = same_log (ap (λ (z : World (Node K V)). z.log) h.2)
        began (Defer' slot x d) e over h = elim (cases_eq b x) as (λ _. Lies b c t) [
          | inl one ↦
              let behind_it : d ≡ c = deferred_behind (eqb b x) (is_standing (where_is d w.log)) d c (where_is b w.log) (eq-eqb b x one) lies_new in
              inr (
                i,
                subst (λ (z : World (Node K V)). IsPutting b c (z.row i)) (sym is)
                    (subst (λ (k : ℕ). IsPutting b k (w3.row i)) behind_it (subst (λ (k : ℕ). IsPutting k d (w3.row i)) (sym one) (begun_puts deferred_word size i w begun w3 slot x d h step))),
              )
          | inr ne ↦ lay_so (sym (ap (λ (q : Bool). cond q (cond (is_standing (where_is d w.log)) (With d) Nowhere) (where_is b w.log)) (ne_eqb b x ne)) ∙ lies_new)
        ]
          where
            lies_new : cond (eqb b x) (cond (is_standing (where_is d w.log)) (With d) Nowhere) (where_is b w.log) ≡ With c
            lies_new = sym (ap (λ (z : World (Node K V)). where_is b z.log) h.7) ∙ in_begun
        began (Register' enters) e over h = absurd over
        began (Enter' slot) e over h = absurd over
        began (Leave' slot) e over h = absurd over
        began (LeaveOwned slot) e over h = absurd over
        began (Refresh slot) e over h = absurd over
        began (Unregister' slot) e over h = absurd over
        began (Flush slot) e over h = absurd over

      one_lies : IsOneStep to.0.setting i w w3 → RefinesLying v known2 to.4.w2
      one_lies (inl step) b c len t noted lies = stepped step b c len t noted (sym (ap (λ (z : World (Node K V)). where_is b z.log) is) ∙ lies)
      one_lies (inr (request, begun, over, begins, step)) b c len t noted lies =
          began request begun begins step b c len t noted (sym (ap (λ (z : World (Node K V)). where_is b z.log) is) ∙ lies) request refl over begins.1

    pub row_lies : RefinesLying v known2 to.4.w2
    row_lies = by u to.4.did other
      where
        by : (x : UnderWay K V K) (step : DidSo same hash name m known s old new at whole.all.shown map i u here said leads x)
            → (OfNoRow same hash name m known s old new at whole.all.shown map i u here said leads x step → ⊥) → RefinesLying v known2 to.4.w2
        by (OnKey x) (p2, end, machine_is, told_is, inl step) none = absurd (none tt)
        by (OnKey x) (p2, end, machine_is, told_is, inr (row, stayed)) none = one_lies row.step.w2 stayed.0 row.step.happened
        by (ForRoom x) (p2, end, machine_is, told_is, inl step) none = absurd (none tt)
        by (ForRoom x) (p2, end, machine_is, told_is, inr (row, stayed)) none = one_lies row.step.w2 stayed.0 row.step.happened
        by (Counting x) step none = absurd (none tt)
        by (OverAll x) (p2, end, machine_is, told_is, inl step) none = absurd (none tt)
        by (OverAll x) (p2, end, machine_is, told_is, inr (row, stayed)) none = one_lies row.step.w2 stayed.0 row.step.happened

pub calls_keep_lying : (K V : Type 0) (same : K → K → Bool) (hash : ℕ → K → ℕ) → CallsPreserveLying K V same hash
calls_keep_lying K V same hash name m known s old new at whole entries owning owed shows map i u here said leads =
    elim (own_or_row same hash name m known s old new at whole.all.shown map i u here said leads u (went_to same hash name m known s old new at whole.all.shown map i u here said leads).4.did)
    as (λ _. RefinesLying (with_effects (Some (name i)) (Some map) (effects_of (Call i map) known new.changed) m) (known_after (Call i map) new.changed known) (leads map u here).4.w2) [
      | inl own ↦ own_lies same hash name m known s old new at whole owning shows map i u here said leads own
      | inr other ↦ row_lies same hash name m known s old new at whole owning shows map i u here said leads entries owed other
    ]

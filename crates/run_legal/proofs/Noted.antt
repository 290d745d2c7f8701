-- What a row hands over that begins with a step of a call: its call's machine has it in hand, so it is noted; and all that is noted came into a map.
use Rattle.std.specs.Prelude.{◌≡◌, ◌⊎◌, ℕ, ◌==◌, zero, suc, ◌+◌, Bool, true, false, ◌&&◌, List, length, Option, Some, None, if◌then◌else◌}
use Rattle.std.proofs.Common.{refl, ap, sym, subst, ◌∙◌, arith, inl, inr}
use Rattle.std.proofs.lemmas.Bool.{and_parts, eq-eqb, ne_eqb}
use Rattle.run_grows.specs.Given.SeizeWordsMem.{value_at}
use Rattle.run_grows.specs.Given.SeizeWordsWord.{link_to}
use Rattle.run_grows.specs.Given.SeizeWordsDeclared.at.At.TheVariants.{Word}
use Rattle.run_grows.specs.Given.SeizeDefer.{deferring}
use Rattle.run_grows.specs.Given.SeizeSettle.{retiring}
use Rattle.run_grows.specs.Given.SeizeWorld.{World, Row, Rests, Registers, Enters, Settles, Leaves, Defers, Frees, Hand, Making, Handed, Request, Register', Enter', Leave', LeaveOwned, Refresh, Unregister', Retire, Flush, Defer', Begin, Step, Begins, Steps', Happens, with_at}
use Rattle.run_grows.specs.Given.SeizeDeclared.states.TheConstants.{LAST_SLOT}
use Rattle.run_grows.proofs.Given.SeizeMovesState.Ghost.{IsOwned, can_carry, lies_with}
use Rattle.run_grows.proofs.Given.SeizeRulePoints.Aside.{HandFits}
use Rattle.run_grows.proofs.Given.SeizeRuleRows.Known.{FitsRow}
use Rattle.run_grows.proofs.Given.SeizeRuleRows.Teams.{shares}
use Rattle.run_grows.proofs.Given.SeizeMemoryWords.View.{view}
use Rattle.run_grows.proofs.Given.SeizeAloneHistories.Reached.{Reached, happens_reached}
use Rattle.run_grows.specs.Given.TablesNodes.{deferred_word}
use Rattle.run_grows.specs.Given.TablesDeclared.table_words.TheConstants.{DEFERRED}
use Rattle.run_grows.specs.Given.TablesDeclared.node.Node.{Node}
use Rattle.run_grows.specs.Given.TablesDeclared.node.Node.TheVariants as node
use Rattle.run_grows.specs.Given.ResizeDeclared.copier.Copier.{Copier}
use Rattle.run_grows.specs.Given.ResizeDeclared.copier.Copying.{Copying}
use Rattle.run_grows.specs.Given.ResizeDeclared.copier.Copying.TheVariants as copying
use Rattle.run_grows.specs.Given.ResizeDeclared.dispose.Dispose.{Dispose}
use Rattle.run_grows.specs.Given.ResizeDeclared.dispose.Disposing.{Disposing}
use Rattle.run_grows.specs.Given.ResizeDeclared.dispose.Disposing.TheVariants as disposing
use Rattle.run_grows.specs.Given.ReservesDeclared.reserve.Reserving.{Reserving}
use Rattle.run_grows.specs.Given.ReservesDeclared.reserve.Reserving.TheVariants as reserving
use Rattle.run_grows.specs.Given.ReservesDeclared.sweep.Sweeping.{Sweeping}
use Rattle.run_grows.specs.Given.ReservesDeclared.sweep.Sweeping.TheVariants as sweeping
use Rattle.run_grows.specs.Given.RawDeclared.machines.call.Calling.{Calling}
use Rattle.run_grows.specs.Given.RawDeclared.machines.call.Calling.TheVariants as calling
use Rattle.run_grows.specs.Given.RawDeclared.machines.machine.Machine.{Machine}
use Rattle.run_grows.specs.Given.RawDeclared.machines.machine.Machine.TheVariants as kinds
use Rattle.run_grows.specs.Given.RawDeclared.machines.progress.Progress.{Progress}
use Rattle.run_grows.specs.Given.RunsDeclared.shapes.TableShape.{TableShape}
use Rattle.run_grows.specs.Given.RunsDeclared.effect.TableId.{TableId}
use Rattle.run_grows.specs.Given.RunsDeclared.effect.Thing.{Thing}
use Rattle.run_grows.specs.Given.RunsDeclared.effect.Thing.TheVariants.{APair, ATable}
use Rattle.run_grows.specs.Given.SchedulesLists.{is_in}
use Rattle.run_grows.specs.Given.SchedulesModel.{number_in}
use Rattle.run_grows.specs.Given.SchedulesMoment.{Moment, TableThere}
use Rattle.run_grows.specs.Given.SchedulesThings.{same_table, same_thing}
use Rattle.run_grows.specs.Given.SchedulesViews.{is_there}
use Rattle.run_grows.specs.Given.CallersRows.{IsRowOn}
use Rattle.run_grows.specs.Given.CallersSights.{seen_by}
use Rattle.run_grows.specs.Given.CallersTogether.{UnderWay, CameAbout, HandsOver}
use Rattle.run_grows.proofs.Given.CallersTogether.Came.{came_reached}
use Rattle.run_grows.proofs.Given.CallersTogether.Slots.{step_leaves}
use Rattle.run_grows.specs.Given.EffectsKnown.{Known}
use Rattle.run_grows.specs.Given.EffectsDeclared.role.Role.{Role}
use Rattle.run_grows.specs.Given.EffectsDeclared.role.Role.TheVariants as role
use Rattle.run_grows.specs.Given.FinishesMaps.{Standing}
use Rattle.run_grows.specs.Given.FollowsBlocks.{HasRole}
use Rattle.run_grows.proofs.Given.FollowsContents.{pair_within}
use Rattle.run_grows.proofs.Given.SpotsUnreclaimed.{table_is}
use Rattle.run_grows.specs.Given.MomentsWhole.{RefinesWhole}
use Rattle.run_grows.specs.Given.SettlesDue.{RowObligation, ToRetire, ToPut, OwnAreMade, due_in_calling, due_in_copying, due_in_disposing, due_in_reserving, due_in_row, due_in_settle, due_in_sweeping, word_due}
use Rattle.run_grows.specs.Given.SettlesHand.{HoldsAt, IsPairAt, IsPairRole, IsTableAt, IsTableRole, NotesPending, NotesOfCall, NotesOfRoom, NotesOfSweep, NotesTables}
use Rattle.run_grows.specs.Given.SettlesInHand.{pair_in_disposing}
use Rattle.run_grows.proofs.Given.SettlesHand.All.{calls_go_in_hand}
use Rattle.run_grows.specs.Given.LivesHanded.{IsMeant, IsToHand}
use Rattle.run_grows.specs.Given.LivesRetired.{IsToRetire}
use Rattle.run_grows.proofs.Given.LivesHandedMeant.{begun_put, meant_of, retire_meant}
use Rattle.run_grows.proofs.Given.LivesRetiredCalls.{goes_on, its_call}
use Rattle.run_grows.proofs.Given.LivesRetires.{begun_due}
use Rattle.run_grows.proofs.Given.LivesRows.{new_way}
use Rattle.run_grows.specs.Given.KeptKept.{RefinesKept}
use Rattle.run_grows.proofs.Given.KeptCalls.{own_made}
use Rattle.run_grows.specs.Given.ModelsCallEvents.{IsNoted}
use Rattle.run_grows.specs.Given.ModelsNumbers.{HasNumber}
use Rattle.run_grows.proofs.Given.FindsLists.{one_of_them}
use Rattle.run_legal.specs.Noted.{HaveCome, CallsHandNoted}
use Rattle.run_grows.specs.Given.ScenesHeld.{Held, IsAt}
use Rattle.run_grows.specs.Given.ScenesScene.{Scene, slot_of}
use Rattle.run_grows.specs.Given.ScenesStepping.{StepLeads}

-- What a call has in hand, and its row is to hand over, is noted.

module _ (known : Known) (b : ℕ) where
  -- as a pair, or as a table
  abbrev IsOfMap : Type 0
  IsOfMap = IsPairRole (known.roles b) ⊎ IsTableRole (known.roles b)

  holds_it : (P : ℕ → Type 0) (due : Option RowObligation) → IsMeant b due → HoldsAt P (word_due due) → P b
  holds_it P (Some (ToRetire word)) meant holds = subst P meant holds
  holds_it P (Some (ToPut word place)) meant holds = subst P meant holds
  holds_it P None meant holds = absurd meant

  of_disposal : (d : Dispose) (p : Disposing) → IsMeant b (due_in_disposing p) → HoldsAt (IsPairAt known) (pair_in_disposing d p) → IsOfMap
  of_disposal d (disposing.Settles settle) meant notes = inl (holds_it (IsPairAt known) (due_in_disposing (disposing.Settles settle)) meant notes)
  of_disposal d (disposing.Defers defer) meant notes = inl (holds_it (IsPairAt known) (due_in_disposing (disposing.Defers defer)) meant notes)
  of_disposal d _ meant notes = absurd meant

  of_copier : (c : Copier) (p : Copying) → IsMeant b (due_in_copying p) → NotesTables known c p → IsOfMap
  of_copier c (copying.Retires settle rest) meant notes = inr (holds_it (IsTableAt known) (due_in_settle settle settle.stands) meant notes.0)
  of_copier c _ meant notes = absurd meant

  of_call : (p : Calling) → IsMeant b (due_in_calling p) → NotesOfCall known p → IsOfMap
  of_call (calling.Disposes dispose answer) meant notes = of_disposal dispose dispose.stands meant notes
  of_call (calling.Helps copier goal) meant notes = of_copier copier copier.stands meant notes
  of_call (calling.Copies copier) meant notes = of_copier copier copier.stands meant notes
  of_call _ meant notes = absurd meant

  of_room : (p : Reserving) → IsMeant b (due_in_reserving p) → NotesOfRoom known p → IsOfMap
  of_room (reserving.Copies copier) meant notes = of_copier copier copier.stands meant notes
  of_room _ meant notes = absurd meant

  of_sweep : (p : Sweeping) → IsMeant b (due_in_sweeping p) → NotesOfSweep known p → IsOfMap
  of_sweep (sweeping.Copies copier) meant notes = of_copier copier copier.stands meant notes
  of_sweep (sweeping.Disposes dispose) meant notes = of_disposal dispose dispose.stands meant notes
  of_sweep _ meant notes = absurd meant

  of_machine : {K V : Type 0} (machine : Machine K V K) → IsMeant b (due_in_row machine) → NotesPending known machine → IsOfMap
  of_machine (kinds.Key p) meant notes = of_call p.stands meant notes
  of_machine (kinds.Reserve r) meant notes = of_room r.stands meant notes
  of_machine (kinds.Sweep c) meant notes = of_sweep c.stands meant notes
  of_machine (kinds.Count sum) meant notes = absurd meant

-- a row that is to retire a block settles, and works on one slot
one_slot : (b s t : ℕ) (row : Row) → IsToRetire b row → IsRowOn s row → IsRowOn t row → s ≡ t
one_slot b s t (Settles c) due on there = sym on ∙ there
one_slot b s t Rests due on there = absurd due
one_slot b s t (Registers c) due on there = absurd due
one_slot b s t (Enters c) due on there = absurd due
one_slot b s t (Leaves c) due on there = absurd due
one_slot b s t (Defers u c) due on there = absurd due
one_slot b s t (Frees c) due on there = absurd due

module _ {K V : Type 0} (same : K → K → Bool) (hash : ℕ → K → ℕ) (name : ℕ → List ℕ) (m : Moment K V) (known : Known) (s : Scene K V) (old new : Held K V) (at : IsAt same hash old s)
    (whole : RefinesWhole same name m known s) (kept : RefinesKept name m known s) (map i : ℕ) (u : UnderWay K V K) (here : s.calls map i ≡ Some u) (said : Progress (Node K V))
    (leads : StepLeads same hash i said s old new) (things : List Thing) (come : HaveCome things m) where
  abbrev w : World (Node K V)
  w = s.world

  abbrev to2 : World (Node K V)
  to2 = (leads map u here).4.w2

  abbrev size : ℕ
  size = old.batch_size

  owning : OwnAreMade known w
  owning = own_made K V same hash name m known s old at whole kept

  came : CameAbout size w
  came = at.together.makings.standing.came

  reached : Reached deferred_word size w
  reached = came_reached size w came

  -- what is noted came into a map
  pair_came : (b n : ℕ) → known.roles b ≡ role.Pair n → is_in same_thing (APair n) things ≡ true
  pair_came b n is = by n (subst (HasRole w m.stored b) is (whole.all.shown.blocks.roles b))
    where
      by : (n : ℕ) → HasRole w m.stored b (role.Pair n) → is_in same_thing (APair n) things ≡ true
      by zero has = absurd (let none = has.2 in cc none)
      by (suc k) has = (let l = pair_within m.stored (suc k) (has.0, has.1) has.2 in come.pairs (suc k) (omega arith) l)

  table_came : (b len : ℕ) (t : TableId) → known.roles b ≡ role.Table t len → is_in same_thing (ATable t) things ≡ true
  table_came b len t is =
      let one = one_of_them (λ (x : TableThere). same_table x.table t && is_there x.stage) (λ (x : TableThere). is_in same_thing (ATable x.table) things ≡ true) m.tables (whole.blocks.tables b len t is) come.tables in
      subst (λ (y : TableId). is_in same_thing (ATable y) things ≡ true) (table_is one.0.table t (and_parts (same_table one.0.table t) (is_there one.0.stage) one.1).0) one.2

  -- what its row is to hand over after the step
  in_hand : (b : ℕ) → IsToHand b (to2.row i) → IsOfMap known b
  in_hand b meant =
      let to = leads map u here in
      let on : to2.row i ≡ Rests → ⊥ = λ rests. subst (IsToHand b) rests meant in
      let next = goes_on same hash name m known s old new at whole kept.entries owning kept.retired map i u here said leads on in
      let st2 : Standing K = record to.0 { chart = to.4.its_map.0; blocks = to.4.its_map.1; sights = to.4.its_map.2 } in
      let its = its_call same hash name m known s old new at whole kept.entries owning kept.retired map i u here said leads next.0 next.1 in
      let stands = (to.4.together.makings.standing.each map st2 to.4.its_map.4).stand i next.0 its in
      let due = meant_of same to.0.hash to.0.setting to2 st2.chart (seen_by st2.blocks (st2.sights (slot_of i))) i b next.0 stands meant in
      of_machine known b to.1 (subst (λ (z : Machine K V K). IsMeant b (due_in_row z)) next.2 due)
      (calls_go_in_hand K V same hash name m known s old new at whole.all.shown whole.all.rows kept.entries owning map i u here said leads (kept.owed.noted map i u here)).1

  -- it has a number among the things
  numbered : (b : ℕ) (r : Role) → known.roles b ≡ r → IsPairRole r ⊎ IsTableRole r → (k : ℕ) × HasNumber known things b k
  numbered b (role.Pair n) is of = (number_in things (APair n), (APair n, is, pair_came b n is, refl))
  numbered b (role.Table t len) is of = (number_in things (ATable t), (ATable t, (len, is), table_came b len t is, refl))
  numbered b role.Free is (inl no_pair) = absurd no_pair
  numbered b role.Free is (inr no_table) = absurd no_table
  numbered b (role.OwnPair j) is (inl no_pair) = absurd no_pair
  numbered b (role.OwnPair j) is (inr no_table) = absurd no_table
  numbered b (role.OwnTable turn shape) is (inl no_pair) = absurd no_pair
  numbered b (role.OwnTable turn shape) is (inr no_table) = absurd no_table
  numbered b (role.Counter of_map) is (inl no_pair) = absurd no_pair
  numbered b (role.Counter of_map) is (inr no_table) = absurd no_table

  module _ (begun : World (Node K V)) where
    -- a block is retired
    retires : (t b : ℕ) → Begins deferred_word size i (Retire t b) w begun → Happens deferred_word size (Begin i (Retire t b)) w begun → Steps' deferred_word i (begun.row i) begun to2
        → IsNoted things known (slot_of i) (Retire t b)
    retires t b begins begin step =
        let due = begun_due deferred_word size i w begun to2 t b begins step in
        let number = numbered b (known.roles b) refl (in_hand b (retire_meant b (to2.row i) due)) in (
          one_slot b t (slot_of i) (to2.row i) due ((step_leaves deferred_word size begun there i to2 t shared step).on_slot on) ((leads map u here).5.on_slots i),
          number.0,
          number.1,
        )
      where
        there : Reached deferred_word size begun
        there = happens_reached deferred_word size (Begin i (Retire t b)) w begun reached begin

        row : begun.row i ≡ Settles (retiring t size (link_to b))
        row = ap (λ (z : World (Node K V)). z.row i) begins.2 ∙ ap (λ (q : Bool). if q then Settles (retiring t size (link_to b)) else w.row i) (eq-eqb i i refl)

        on : IsRowOn t (begun.row i)
        on = subst (IsRowOn t) (sym row) refl

        shared : shares (begun.row i) ≡ true
        shared = ap shares row

    -- a block is put behind another one: that one is a table's, and this one is none
    module _ (t b d : ℕ) (begins : Begins deferred_word size i (Defer' t b d) w begun) (begin : Happens deferred_word size (Begin i (Defer' t b d)) w begun)
        (step : Steps' deferred_word i (begun.row i) begun to2) where
      there : Reached deferred_word size begun
      there = happens_reached deferred_word size (Begin i (Defer' t b d)) w begun reached begin

      row : begun.row i ≡ Defers t (deferring (link_to b) (Word d begins.0))
      row = ap (λ (z : World (Node K V)). z.row i) begins.7 ∙ ap (λ (q : Bool). if q then Defers t (deferring (link_to b) (Word d begins.0)) else w.row i) (eq-eqb i i refl)

      -- the one carries it
      carries : can_carry (there.good.state.life d) ≡ true
      carries =
          let fits = subst (λ (r : Row). FitsRow (LAST_SLOT + 1) i (view deferred_word begun.memory) there.good.state there.good.extra (length begun.memory.slots) r) row (there.good.rows i) in
          let life = new_way (LAST_SLOT + 1) i (view deferred_word begun.memory) there.good.state there.good.extra (length begun.memory.slots) t b d begins.0 fits in
          (there.good.inv.places.carries b d (ap (lies_with d) life ∙ eq-eqb d d refl)).2

      -- they are two
      apart : d ≡ b → ⊥
      apart e =
          let none = begins.3 in let list = begins.4 in
          let values : Some none.0 ≡ Some list.0 = sym none.1 ∙ ap (value_at w.memory) (sym e) ∙ list.1 in
          let same_value : none.0 ≡ list.0 = cc values in
          let both : None ≡ Some begins.0 = sym none.2 ∙ ap deferred_word same_value ∙ list.2 in
          cc both

      not_own : (turn : ℕ) (shape : TableShape) → known.roles d ≡ role.OwnTable turn shape → ⊥
      not_own turn shape is =
          let made = owning d turn shape is in
          let hand : begun.hand d ≡ Making made.0 = ap (λ (z : World (Node K V)). z.hand d) begins.7 ∙ other (d == b) refl ∙ made.1 in
          let life : there.good.state.life d ≡ IsOwned made.0 = subst (λ (h : Hand). HandFits h (there.good.state.life d)) hand (there.good.hands d) in
          let never : can_carry (there.good.state.life d) ≡ false = ap can_carry life in
          let some = carries in
          cc (never, some)
        where
          other : (q : Bool) → (d == b) ≡ q → with_at w.hand b Handed d ≡ w.hand d
          other true e = absurd (apart (grind (arith, e)))
          other false e = ap (λ (q : Bool). if q then Handed else w.hand d) e

      no_list : (value : Node K V) → value_at w.memory d ≡ Some value → deferred_word value ≡ None → ⊥
      no_list value at_it none =
          let list = begins.4 in
          let values : Some value ≡ Some list.0 = sym at_it ∙ list.1 in
          let same_value : value ≡ list.0 = cc values in
          let both : None ≡ Some begins.0 = sym none ∙ ap deferred_word same_value ∙ list.2 in
          cc both

      -- what has a list is a table's
      its_table : (r : Role) → known.roles d ≡ r → HasRole w m.stored d r → (x : TableId) × (len : ℕ) × (known.roles d ≡ role.Table x len)
      its_table (role.Table x len) is has = (x, len, is)
      its_table role.Free is has = absurd (let list = begins.4 in let both : None ≡ Some list.0 = sym has ∙ list.1 in cc both)
      its_table (role.OwnPair j) is has = absurd (no_list has.0 has.1 has.2)
      its_table (role.OwnTable turn shape) is has = absurd (not_own turn shape is)
      its_table (role.Pair n) is has = absurd (no_list (node.Pair has.0 has.1) has.3 refl)
      its_table (role.Counter of_map) is has = absurd (no_list node.Shards has refl)

      its_pair : (r : Role) → known.roles b ≡ r → HasRole w m.stored b r → IsPairRole r ⊎ IsTableRole r → (n : ℕ) × (known.roles b ≡ role.Pair n)
      its_pair (role.Pair n) is has of = (n, is)
      its_pair (role.Table x len) is has of =
          absurd (let none = begins.3 in
          let values : Some none.0 ≡ Some (node.Table len has.0 x.turn) = sym none.1 ∙ has.1 in
          let same_value : none.0 ≡ node.Table len has.0 x.turn = cc values in
          let lists : deferred_word {K = K} {V = V} (node.Table len has.0 x.turn) ≡ Some DEFERRED = ap (λ (q : Bool). if q then None else Some DEFERRED) (ne_eqb len 0 (kept.retired.lengths b len x is)) in
          let not_so : Some DEFERRED ≡ None = sym lists ∙ sym (ap deferred_word same_value) ∙ none.2 in
          cc not_so)
      its_pair role.Free is has (inl no_pair) = absurd no_pair
      its_pair role.Free is has (inr no_table) = absurd no_table
      its_pair (role.OwnPair j) is has (inl no_pair) = absurd no_pair
      its_pair (role.OwnPair j) is has (inr no_table) = absurd no_table
      its_pair (role.OwnTable turn shape) is has (inl no_pair) = absurd no_pair
      its_pair (role.OwnTable turn shape) is has (inr no_table) = absurd no_table
      its_pair (role.Counter of_map) is has (inl no_pair) = absurd no_pair
      its_pair (role.Counter of_map) is has (inr no_table) = absurd no_table

      puts : IsNoted things known (slot_of i) (Defer' t b d)
      puts =
          let pair = its_pair (known.roles b) refl (whole.all.shown.blocks.roles b) (in_hand b (begun_put deferred_word size i w begun to2 t b d begins step)) in
          let table = its_table (known.roles d) refl (whole.all.shown.blocks.roles d) in
          record {
            n = pair.0;
            len = table.1;
            table = table.0;
            pair_is = pair.1;
            table_is = table.2;
            pair_came = pair_came b pair.0 pair.1;
            table_came = table_came d table.1 table.0 table.2;
          }

  pub hands_noted : (request : Request) (begun : World (Node K V)) → HandsOver (leads map u here).0.setting i w request → Happens deferred_word size (Begin i request) w begun
      → Happens deferred_word size (Step i) begun to2 → IsNoted things known (slot_of i) request
  hands_noted (Retire t b) begun hands begin step = retires begun t b begin.1 begin step
  hands_noted (Defer' t b d) begun hands begin step = puts begun t b d begin.1 begin step
  hands_noted (Register' enters) begun hands begin step = absurd hands
  hands_noted (Enter' t) begun hands begin step = absurd hands
  hands_noted (Leave' t) begun hands begin step = absurd hands
  hands_noted (LeaveOwned t) begun hands begin step = absurd hands
  hands_noted (Refresh t) begun hands begin step = absurd hands
  hands_noted (Unregister' t) begun hands begin step = absurd hands
  hands_noted (Flush t) begun hands begin step = absurd hands

module _ (K V : Type 0) (same : K → K → Bool) (hash : ℕ → K → ℕ) where
  pub calls_hand_noted : CallsHandNoted K V same hash
  calls_hand_noted name m known s old new at whole kept map i u here said leads things come =
      hands_noted same hash name m known s old new at whole kept map i u here said leads things come

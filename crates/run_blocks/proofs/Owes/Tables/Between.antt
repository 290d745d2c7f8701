-- Between the steps of calls: where a call begins, is told a reply, or has come to an outcome, each has made the table that the moment says.
use Rattle.std.specs.Prelude.{◌≡◌, ◌≢◌, ℕ, Bool, true, false, List, Option, Some, None, option_map, if◌then◌else◌, nat_lt}
use Rattle.std.proofs.Common.{refl, ap, sym, subst, ◌∙◌, inl, inr}
use Rattle.std.proofs.lemmas.Bool.{cases_eq}
use Rattle.run_debts.specs.Given.SeizeWordsWord.{block_in}
use Rattle.run_debts.specs.Given.SeizeWorld.{Making as MadeBy}
use Rattle.run_debts.specs.Given.TablesDeclared.table.Table.{Table as Planned}
use Rattle.owner_calls.specs.Given.ResizeDeclared.new_table.NewTable.{NewTable}
use Rattle.run_debts.specs.Given.RunsDeclared.shapes.TableShape.{TableShape}
use Rattle.owner_calls.specs.Given.RawCallAsks.{replied_at}
use Rattle.run_debts.specs.Given.RawMachine.{machine_replied, sweep_with_reply, machine_asked, is_ready}
use Rattle.run_debts.specs.Given.RawDeclared.machines.asking.MachineReply.{MachineReply}
use Rattle.run_debts.specs.Given.RawDeclared.machines.call.Calling.{Calling}
use Rattle.run_debts.specs.Given.RawDeclared.machines.call.Calling.TheVariants as calling
use Rattle.run_debts.specs.Given.RawDeclared.machines.call.KeyCall.{KeyCall}
use Rattle.run_debts.specs.Given.RawDeclared.machines.machine.Machine.{Machine}
use Rattle.run_debts.specs.Given.RawDeclared.machines.machine.Machine.TheVariants as kinds
use Rattle.run_debts.specs.Given.ReservesDeclared.sweep.Sweep.{Sweep}
use Rattle.run_debts.specs.Given.ReservesDeclared.sweep.Sweeping.{Sweeping}
use Rattle.run_debts.specs.Given.ReservesDeclared.sweep.Sweeping.TheVariants as sweeping
use Rattle.owner_calls.specs.Given.SweepsSweepPoints.{next_at}
use Rattle.run_debts.specs.Given.RunsDeclared.call.Call.{Call}
use Rattle.run_debts.specs.Given.RunsDeclared.effect.TableId.{TableId}
use Rattle.run_debts.specs.Given.SchedulesBeginning.{with_call}
use Rattle.run_debts.specs.Given.SchedulesMoment.{UnderWay as CallThere, Moment}
use Rattle.run_debts.specs.Given.SchedulesViews.{call_of}
use Rattle.owner_calls.specs.Given.CallersTogether.{UnderWay}
use Rattle.run_debts.specs.Given.EffectsKnown.{Known}
use Rattle.run_debts.specs.Given.EffectsDeclared.role.Role.TheVariants as role
use Rattle.run_debts.specs.Given.FinishesMachines.{machine_of}
use Rattle.run_debts.specs.Given.FinishesMaps.{with_call as with_in}
use Rattle.run_debts.specs.Given.FollowsCalling.{NoneNamed}
use Rattle.run_debts.specs.Given.FollowsShows.{Refines}
use Rattle.run_debts.proofs.Given.FollowsCalling.{is_same_refl}
use Rattle.run_debts.proofs.Given.HandsAsking.{which}
use Rattle.run_debts.specs.Given.MomentsWhole.{RefinesWhole}
use Rattle.run_blocks.specs.Owes.Making.{making_of, making_in_calling, making_in_sweeping}
use Rattle.run_blocks.specs.Owes.Tables.{table_made, of_map, IsOfCall, IsOfMaker, RefinesOwnTables, CallsBeginTables, CallsTakeTables, CallsComeToTables, HoldsTable}
use Rattle.run_blocks.specs.Owes.TablesBeside.{WalksPreserveOwnTables, WalksStopTables}
use Rattle.run_blocks.proofs.Owes.Kept.{calls_beside, calls_its, calls_without, HadAsMuch, fresh_has, others_there, told_had, left_had, come_had}
use Rattle.run_blocks.proofs.Owes.Tables.Held.{shape_of, some_making, its_block, role_there, call_hands, held_by}
use Rattle.run_debts.specs.Given.OthersWalks.{given_up}
use Rattle.run_debts.specs.Given.ScenesHeld.{Held, IsAt}
use Rattle.run_debts.specs.Given.ScenesReplying.{scene_with, unless_stopped}
use Rattle.run_debts.specs.Given.ScenesScene.{Scene}
use Rattle.run_debts.proofs.Given.General.{same_some as one_of}

-- a sweep that makes a table takes no reply; one that is asked for its next pair makes none; and one that is ready has none

sweep_same : {V : Type 0} (q : Sweeping) (c : Sweep) (reply : MachineReply V) (n : NewTable) → making_in_sweeping q ≡ Some n → (sweep_with_reply q c reply).0 ≡ c
sweep_same (sweeping.Copies copier) c reply n is = refl
sweep_same _ c reply n is = absurd (cc is)

asked_sweep : (q : Sweeping) (c : Sweep) → c.stands ≡ q → making_in_sweeping (next_at q c).stands ≡ making_in_sweeping q
asked_sweep sweeping.Ready c is = by (nat_lt c.place c.table.len)
  where
    by : (further : Bool) → making_in_sweeping (if further then sweeping.Words else sweeping.Over) ≡ None
    by true = refl
    by false = refl
asked_sweep _ c is = ap making_in_sweeping is

ready_sweep : (q : Sweeping) → true ≡ is_ready q → making_in_sweeping q ≡ None
ready_sweep sweeping.Ready e = refl
ready_sweep _ e = absurd (cc e)

module _ {K V : Type 0} where
  -- a machine that makes a table takes no reply
  key_same : (q : Calling) (p : KeyCall K V K) (reply : MachineReply V) (n : NewTable) → making_in_calling q ≡ Some n → (replied_at q p reply).0 ≡ p
  key_same (calling.Firsts k) p reply n is = refl
  key_same (calling.Allocs k) p reply n is = refl
  key_same (calling.Helps copier goal) p reply n is = refl
  key_same (calling.Copies copier) p reply n is = refl
  key_same _ p reply n is = absurd (cc is)

  machine_same : (y : Machine K V K) (reply : MachineReply V) (n : NewTable) → making_of y ≡ Some n → (machine_replied y reply).0 ≡ y
  machine_same (kinds.Key p) reply n is = ap kinds.Key (key_same p.stands p reply n is)
  machine_same (kinds.Sweep c) reply n is = ap kinds.Sweep (sweep_same c.stands c reply n is)
  machine_same (kinds.Reserve r) reply n is = refl
  machine_same (kinds.Count sum) reply n is = refl

  -- nor does a walk that goes on, or is ready

  pub asked_making : (y : Machine K V K) → making_of (machine_asked y).0 ≡ making_of y
  asked_making (kinds.Sweep c) = asked_sweep c.stands c refl
  asked_making (kinds.Key p) = refl
  asked_making (kinds.Reserve r) = refl
  asked_making (kinds.Count sum) = refl

  pub ready_making : (y : Machine K V K) → true ≡ (machine_asked y).1 → making_of y ≡ None
  ready_making (kinds.Sweep c) e = ready_sweep c.stands e
  ready_making (kinds.Key p) e = absurd (cc e)
  ready_making (kinds.Reserve r) e = absurd (cc e)
  ready_making (kinds.Count sum) e = refl

module _ {K V : Type 0} (name : ℕ → List ℕ) (m : Moment K V) (known : Known) (s : Scene K V) (tables : RefinesOwnTables name m known s) where
  abbrev TableOf : ℕ → UnderWay K V K → Option TableId
  TableOf n x = option_map (of_map n) (table_made (making_of (machine_of x)))

  -- who had as much has the same table still
  has_as_much : (n j : ℕ) (x : UnderWay K V K) → s.calls n j ≡ Some x → (d : CallThere K V) → HadAsMuch name m j d → d.table ≡ TableOf n x
  has_as_much n j x is d had = had.2.1 ∙ tables.tables n j x is had.0 had.1

  -- where a call has come, or has gone on, what its machine has then was this caller's
  module _ (same : K → K → Bool) (hash : ℕ → K → ℕ) (old new : Held K V) (at : IsAt same hash old s) (whole : RefinesWhole same name m known s) (of i : ℕ) (next : UnderWay K V K) (v : Moment K V)
      (at_new : IsAt same hash new (scene_with of i next s)) (shown_new : Refines same name v known (scene_with of i next s)) where
    own_next : (t : Planned) → table_made (making_of (machine_of next)) ≡ Some t → HoldsTable s i (block_in t.link)
    own_next t has =
        let h = call_hands same hash name v known (scene_with of i next s) new at_new shown_new of i next (calls_its s.calls of i (Some next)) t has in
        let is = role_there same hash name v known (scene_with of i next s) new at_new shown_new i t h in
        let it = tables.whose (block_in t.link) t.turn (shape_of t) is in
        let theirs = (held_by same hash name m known s old at whole.all.shown it.0 (block_in t.link) it.1).hand in
        let mine : s.world.hand (block_in t.link) ≡ MadeBy i = ap s.world.hand (its_block s.world i t h) ∙ h.hand in
        let who : it.0 ≡ i = cc (theirs, mine) in subst (λ (j : ℕ). HoldsTable s j (block_in t.link)) who it.1

    -- it makes no map
    no_maker : (b : ℕ) → IsOfMaker s i b → ⊥
    no_maker b (d, is, t, has, named) = (let none = at_new.together.makings.alone i d is of in let there = calls_its s.calls of i (Some next) in cc (none, there))

    -- so it has none where this caller had none
    next_none : ((b : ℕ) → IsOfCall s i b → ⊥) → table_made (making_of (machine_of next)) ≡ None
    next_none none = by (table_made (making_of (machine_of next))) refl
      where
        by : (o : Option Planned) → table_made (making_of (machine_of next)) ≡ o → o ≡ None
        by None e = refl
        by (Some t) e = absurd (elim (own_next t e) as (λ _. ⊥) [
          | inl call ↦ none (block_in t.link) call
          | inr maker ↦ no_maker (block_in t.link) maker
        ])

    others_still : (j b : ℕ) → j ≢ i → HoldsTable s j b → HoldsTable (scene_with of i next s) j b
    others_still j b ne (inl (n, x, there, t, has, named)) = inl (n, x, calls_beside s.calls of i (Some next) n j ne ∙ there, t, has, named)
    others_still j b ne (inr maker) = inr maker

  -- a call that begins
  module _ (same : K → K → Bool) (hash : ℕ → K → ℕ) (old new : Held K V) (at : IsAt same hash old s) (whole : RefinesWhole same name m known s) (of i : ℕ) (u : UnderWay K V K) (its : Call K V)
      (guard : List ℕ) (apart : NoneNamed name (name i) s) (at_new : IsAt same hash new (scene_with of i u s)) (shown_new : Refines same name (with_call (name i) guard its (Some of) m) known (scene_with of i u s)) where
    no_call : (b : ℕ) → IsOfCall s i b → ⊥
    no_call b call = (let no = apart call.0 i call.1 call.2 in let yes = is_same_refl (name i) in cc (no, yes))

    its_none : table_made (making_of (machine_of u)) ≡ None
    its_none = next_none same hash old new at whole of i u (with_call (name i) guard its (Some of) m) at_new shown_new no_call

    begins_has : (n j : ℕ) (x : UnderWay K V K) → with_in s.calls of i (Some u) n j ≡ Some x → (c : CallThere K V) → call_of (name j) (with_call (name i) guard its (Some of) m) ≡ Some c → c.table ≡ TableOf n x
    begins_has n j x is c c_is = elim (which s.calls of i (Some u) n j x is) as (λ _. c.table ≡ TableOf n x) [
      | inl it ↦
          (fresh_has name m of i its guard j it.1 c c_is).1 ∙ ap (option_map (of_map n)) (sym its_none) ∙ ap (λ (y : UnderWay K V K). TableOf n y) (one_of u x it.2)
      | inr was ↦ tables.tables n j x was.1 c (others_there name m of i its guard j (apart n j x was.1) c c_is)
    ]

    begins_whose : (b turn : ℕ) (shape : TableShape) → known.roles b ≡ role.OwnTable turn shape → (j : ℕ) × HoldsTable (scene_with of i u s) j b
    begins_whose b turn shape is = by (tables.whose b turn shape is)
      where
        by : (j : ℕ) × HoldsTable s j b → (j : ℕ) × HoldsTable (scene_with of i u s) j b
        by (j, inr maker) = (j, inr maker)
        by (j, inl call) = elim (cases_eq j i) as (λ _. (k : ℕ) × HoldsTable (scene_with of i u s) k b) [
          | inl e ↦ absurd (no_call b (subst (λ (k : ℕ). IsOfCall s k b) e call))
          | inr ne ↦ (j, others_still same hash old new at whole of i u (with_call (name i) guard its (Some of) m) at_new shown_new j b ne (inl call))
        ]

  -- a call that goes on as a machine with the same table
  module _ (of i : ℕ) (u : UnderWay K V K) (here : s.calls of i ≡ Some u) (only : (n : ℕ) (x : UnderWay K V K) → s.calls n i ≡ Some x → x ≡ u) (next : UnderWay K V K)
      (goes : table_made (making_of (machine_of next)) ≡ table_made (making_of (machine_of u))) where
    on_whose : (b turn : ℕ) (shape : TableShape) → known.roles b ≡ role.OwnTable turn shape → (j : ℕ) × HoldsTable (scene_with of i next s) j b
    on_whose b turn shape is = by (tables.whose b turn shape is)
      where
        by : (j : ℕ) × HoldsTable s j b → (j : ℕ) × HoldsTable (scene_with of i next s) j b
        by (j, inr maker) = (j, inr maker)
        by (j, inl (n, x, there, t, has, named)) = elim (cases_eq j i) as (λ _. (k : ℕ) × HoldsTable (scene_with of i next s) k b) [
          | inl e ↦
              let same_call : x ≡ u = only n x (ap (s.calls n) (sym e) ∙ there) in
              (i, inl (of, next, calls_its s.calls of i (Some next), t, goes ∙ ap (λ (y : UnderWay K V K). table_made (making_of (machine_of y))) (sym same_call) ∙ has, named))
          | inr ne ↦ (j, inl (n, x, calls_beside s.calls of i (Some next) n j ne ∙ there, t, has, named))
        ]

    -- whose table it is by the scene before
    on_there : (n j : ℕ) (x : UnderWay K V K) → with_in s.calls of i (Some next) n j ≡ Some x → (y : UnderWay K V K) × (s.calls n j ≡ Some y) × (TableOf n y ≡ TableOf n x)
    on_there n j x is = elim (which s.calls of i (Some next) n j x is) as (λ _. (y : UnderWay K V K) × (s.calls n j ≡ Some y) × (TableOf n y ≡ TableOf n x)) [
      | inl it ↦ (
        u,
        ap (λ (k : ℕ). s.calls k j) it.0 ∙ ap (s.calls of) it.1 ∙ here,
        ap (option_map (of_map n)) (sym goes) ∙ ap (λ (y : UnderWay K V K). TableOf n y) (one_of next x it.2),
      )
      | inr was ↦ (x, was.1, refl)
    ]

  -- a call without a table that is there no more
  module _ (of i : ℕ) (u : UnderWay K V K) (only : (n : ℕ) (x : UnderWay K V K) → s.calls n i ≡ Some x → x ≡ u) (without : table_made (making_of (machine_of u)) ≡ None) where
    off_whose : (b turn : ℕ) (shape : TableShape) → known.roles b ≡ role.OwnTable turn shape → (j : ℕ) × HoldsTable (record s { calls = with_in s.calls of i None }) j b
    off_whose b turn shape is = by (tables.whose b turn shape is)
      where
        by : (j : ℕ) × HoldsTable s j b → (j : ℕ) × HoldsTable (record s { calls = with_in s.calls of i None }) j b
        by (j, inr maker) = (j, inr maker)
        by (j, inl (n, x, there, t, has, named)) = elim (cases_eq j i) as (λ _. (k : ℕ) × HoldsTable (record s { calls = with_in s.calls of i None }) k b) [
          | inl e ↦ absurd (
              let same_call : x ≡ u = only n x (ap (s.calls n) (sym e) ∙ there) in
              let its : table_made (making_of (machine_of u)) ≡ Some t = ap (λ (y : UnderWay K V K). table_made (making_of (machine_of y))) (sym same_call) ∙ has in cc (its, without)
              )
          | inr ne ↦ (j, inl (n, x, calls_beside s.calls of i None n j ne ∙ there, t, has, named))
        ]

-- a caller has one call
one_call : {K V : Type 0} (same : K → K → Bool) (name : ℕ → List ℕ) (m : Moment K V) (known : Known) (s : Scene K V) → RefinesWhole same name m known s → (of i : ℕ) (u : UnderWay K V K) → s.calls of i ≡ Some u
    → (n : ℕ) (x : UnderWay K V K) → s.calls n i ≡ Some x → x ≡ u
one_call same name m known s whole of i u here n x is =
    let both = whole.all.asked.apart n i of i x u is here (is_same_refl (name i)) in one_of x u (sym is ∙ ap (λ (k : ℕ). s.calls k i) both.0 ∙ here)

pub calls_come_to_tables : (K V : Type 0) → CallsComeToTables K V
calls_come_to_tables K V same name m known s whole tables own o steps ended = record {
  tables = λ n j x is d d_is. has_as_much name m known s tables n j x is d (come_had name m same s.calls whole.all.shown.calls own o steps n j x is (λ e. ended e n j x is) d d_is);
  whose = tables.whose;
}

module _ (K V : Type 0) (same : K → K → Bool) (hash : ℕ → K → ℕ) where
  pub calls_begin_tables : CallsBeginTables K V same hash
  calls_begin_tables name m known s old new at whole tables of i u its guard apart at_new shown_new = record {
    tables = begins_has name m known s tables same hash old new at whole of i u its guard apart at_new shown_new;
    whose = begins_whose name m known s tables same hash old new at whole of i u its guard apart at_new shown_new;
  }

  pub calls_take_tables : CallsTakeTables K V same hash
  calls_take_tables name m known s old new at whole tables of i u here reply next goes is_told at_new shown_new =
      let only = one_call same name m known s whole of i u here in
      record {
        tables = λ n j x is d d_is.
            let was = on_there name m known s tables of i u here only next same_table n j x is in
            has_as_much name m known s tables n j was.0 was.1 d (told_had name m same s.calls whole.all.shown.calls (name i) is_told n j was.0 was.1 d d_is) ∙ was.2;
        whose = on_whose name m known s tables of i u here only next same_table;
      }
    where
      same_table : table_made (making_of (machine_of next)) ≡ table_made (making_of (machine_of u))
      same_table = by (table_made (making_of (machine_of u))) refl
        where
          by : (o : Option Planned) → table_made (making_of (machine_of u)) ≡ o → table_made (making_of (machine_of next)) ≡ table_made (making_of (machine_of u))
          by (Some t) e =
              let n = some_making (making_of (machine_of u)) t e in ap (λ (y : Machine K V K). table_made (making_of y)) (goes ∙ machine_same (machine_of u) reply n.0 n.1)
          by None e =
              next_none name m known s tables same hash old new at whole of i next _ at_new shown_new
              (λ b call. (let same_call = one_call same name m known s whole of i u here call.0 call.1 call.2 in
              let has : table_made (making_of (machine_of u)) ≡ Some call.3 = ap (λ (y : UnderWay K V K). table_made (making_of (machine_of y))) (sym same_call) ∙ call.4 in cc (e, has)))
              ∙ sym e

  goes_tables : (name : ℕ → List ℕ) (m : Moment K V) (known : Known) (s : Scene K V) → RefinesWhole same name m known s → RefinesOwnTables name m known s → (of i : ℕ) (u : UnderWay K V K) → s.calls of i ≡ Some u
      → (next : UnderWay K V K) → table_made (making_of (machine_of next)) ≡ table_made (making_of (machine_of u)) → RefinesOwnTables name m known (scene_with of i next s)
  goes_tables name m known s whole tables of i u here next goes =
      let only = one_call same name m known s whole of i u here in
      record {
        tables = λ n j x is c c_is. let was = on_there name m known s tables of i u here only next goes n j x is in tables.tables n j was.0 was.1 c c_is ∙ was.2;
        whose = on_whose name m known s tables of i u here only next goes;
      }

  pub walks_go_on_tables : WalksPreserveOwnTables K V same hash
  walks_go_on_tables name m known s old new whole tables i leads map u here =
      let to = leads map u here in
      goes_tables name m known s whole tables map i u here to.0 (ap (λ (y : Machine K V K). table_made (making_of y)) to.1 ∙ ap table_made (asked_making (machine_of u)))

  pub walks_stop_tables : WalksStopTables K V same hash
  walks_stop_tables name m known s old new whole tables i stopped leads map u here = by stopped (leads map u here).0
    where
      at_end : Bool → Scene K V
      at_end q = record s { calls = with_in s.calls map i (unless_stopped q u) }

      by : (q : Bool) → q ≡ (machine_asked (machine_of u)).1 → (q ≡ true → NoneNamed name (name i) (at_end q)) → RefinesOwnTables name (given_up (name i) q m) known (at_end q)
      by true e none = record {
        tables = λ n j x is d d_is.
            let was = calls_without s.calls map i n j x is in
            has_as_much name m known s tables n j x was d (left_had name m same s.calls whole.all.shown.calls (name i) n j x was (none refl n j x is) d d_is);
        whose = off_whose name m known s tables map i u (one_call same name m known s whole map i u here) (ap table_made (ready_making (machine_of u) e));
      }
      by false e none = goes_tables name m known s whole tables map i u here u refl

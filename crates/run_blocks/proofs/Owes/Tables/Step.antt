-- What a step of a call leaves of the calls' tables, by what it did.
use Rattle.std.specs.Prelude.{◌≡◌, ◌≢◌, ◌≤◌, ℕ, Bool, List, length, Option, Some, None}
use Rattle.std.proofs.Common.{refl, ap, sym, subst, ◌∙◌, inl, inr}
use Rattle.run_debts.specs.Given.SeizeWordsWord.{block_in}
use Rattle.run_debts.specs.Given.SeizeWorld.{World}
use Rattle.run_debts.specs.Given.SeizeDeclared.advance.Advance.TheVariants as progress
use Rattle.run_debts.specs.Given.TablesDeclared.node.Node.{Node}
use Rattle.run_debts.specs.Given.TablesDeclared.node.Node.TheVariants as node
use Rattle.run_debts.specs.Given.TablesDeclared.table.Table.{Table as Planned}
use Rattle.owner_calls.specs.Given.ResizeDeclared.new_table.Making.{Making}
use Rattle.owner_calls.specs.Given.ResizeDeclared.new_table.Making.TheVariants as making
use Rattle.owner_calls.specs.Given.ResizeDeclared.new_table.NewTable.{NewTable}
use Rattle.run_debts.specs.Given.RawDeclared.machines.machine.Machine.{Machine}
use Rattle.run_debts.specs.Given.RawDeclared.machines.progress.Progress.{Progress}
use Rattle.run_debts.specs.Given.RawDeclared.machines.progress.Progress.TheVariants as said_so
use Rattle.run_debts.specs.Given.SchedulesEffects.{with_effects}
use Rattle.run_debts.specs.Given.SchedulesMoment.{Moment}
use Rattle.run_debts.specs.Given.SchedulesViews.{tables_of}
use Rattle.run_debts.specs.Given.TellerChanged.{kind_of}
use Rattle.run_debts.specs.Given.EffectsDeclared.changed.Changed.{Changed}
use Rattle.run_debts.specs.Given.EffectsDeclared.changed.Changed.TheVariants as changed
use Rattle.run_debts.specs.Given.EffectsDeclared.changed.Kind.TheVariants as kind
use Rattle.owner_calls.specs.Given.CallersTogether.{UnderWay}
use Rattle.run_debts.specs.Given.EffectsEffects.{effects_of, known_after}
use Rattle.run_debts.specs.Given.EffectsKnown.{Known}
use Rattle.run_debts.specs.Given.EffectsDeclared.acting.Acting.{Acting}
use Rattle.run_debts.specs.Given.EffectsDeclared.acting.Acting.TheVariants as acts
use Rattle.run_debts.specs.Given.FinishesMachines.{machine_of, ContinuesAs}
use Rattle.run_debts.specs.Given.FollowsShows.{Refines}
use Rattle.run_debts.proofs.Given.FollowsCalling.{is_same_refl}
use Rattle.run_debts.proofs.Given.FollowsOperations.{LeavesBy, operated_leaves}
use Rattle.run_debts.proofs.Given.FollowsSteps.{WentTo, went_to, made_so}
use Rattle.run_debts.specs.Given.MomentsWhole.{RefinesWhole}
use Rattle.run_debts.proofs.Given.MomentsCalls.{calls_keep_whole}
use Rattle.run_blocks.specs.Owes.Making.{making_of}
use Rattle.run_blocks.specs.Owes.Tables.{table_in, table_made, HoldsTable, RefinesOwnTables}
use Rattle.run_blocks.proofs.Owes.Kept.{calls_beside, calls_its}
use Rattle.run_blocks.proofs.Owes.InHand.{free_there}
use Rattle.run_blocks.proofs.Owes.Planned.{IsMadeBy}
use Rattle.run_blocks.proofs.Owes.Tables.Goes.{with_table, with_made}
use Rattle.run_blocks.proofs.Owes.Tables.Held.{MadeThere, some_making, role_there, call_made, call_hands, held_by, noted_by, call_unmade}
use Rattle.run_blocks.proofs.Owes.Tables.Hosts.{Within, CallGoes, CallRefuses, step_within}
use Rattle.run_blocks.proofs.Owes.Tables.Kinds.{which_made}
use Rattle.run_blocks.proofs.Owes.Tables.Leaves.{IsOneStep, LeavesTables, left_without}
use Rattle.run_blocks.proofs.Owes.Tables.Roles.{FreeBefore, does_to_tables}
use Rattle.run_debts.specs.Given.ScenesHeld.{Held, IsAt}
use Rattle.run_debts.specs.Given.ScenesScene.{Scene}
use Rattle.run_debts.specs.Given.ScenesStepping.{StepLeads, scene_after}
use Rattle.run_debts.proofs.Given.General.{same_some as one_of}

-- the table that a call has made, if it is under way
abbrev pub next_table : {K V : Type 0} → Option (UnderWay K V K) → Option Planned
next_table None = None
next_table (Some x) = table_made (making_of (machine_of x))

module _ {K V : Type 0} (same : K → K → Bool) (hash : ℕ → K → ℕ) (name : ℕ → List ℕ) (m : Moment K V) (known : Known) (s : Scene K V) (old new : Held K V) (at : IsAt same hash old s)
    (whole : RefinesWhole same name m known s) (tables : RefinesOwnTables name m known s) (map i : ℕ) (u : UnderWay K V K) (here : s.calls map i ≡ Some u)
    (said : Progress (Node K V)) (leads : StepLeads same hash i said s old new) where
  abbrev to : WentTo same hash name m known s old new at whole.all.shown map i u here said leads
  to = went_to same hash name m known s old new at whole.all.shown map i u here said leads

  abbrev w : World (Node K V)
  w = s.world

  abbrev told : Changed
  told = new.changed

  abbrev its : Acting
  its = acts.Call i map

  abbrev known2 : Known
  known2 = known_after its told known

  abbrev v : Moment K V
  v = with_effects (Some (name i)) (Some map) (effects_of its known told) m

  abbrev led : Scene K V
  led = scene_after same s old new map i to.0 u to.1 said to.4

  abbrev had : Option Planned
  had = table_made (making_of (machine_of u))

  abbrev now : Option Planned
  now = next_table to.4.next

  -- how many tables the map has had
  abbrev many : ℕ
  many = length (tables_of map m)

  leaves : LeavesBy w.memory new.memory told
  leaves = operated_leaves w.memory new.memory told (made_so same hash name m known s old new at whole.all.shown map i u here said leads)

  shown_then : Refines same name v known2 led
  shown_then = (calls_keep_whole K V same hash name m known s old new at whole map i u here said leads).all.shown

  -- this caller has one call, and makes no map: what is its own is the table of this call

  its_call : (n : ℕ) (x : UnderWay K V K) → s.calls n i ≡ Some x → x ≡ u
  its_call n x is =
      let both = whole.all.asked.apart n i map i x u is here (is_same_refl (name i)) in one_of x u (sym is ∙ ap (λ (k : ℕ). s.calls k i) both.0 ∙ here)

  its_own : (b : ℕ) → HoldsTable s i b → (t : Planned) × (had ≡ Some t) × (b ≡ block_in t.link)
  its_own b (inl (n, x, is, t, has, named)) = (t, subst (λ (y : UnderWay K V K). table_made (making_of (machine_of y)) ≡ Some t) (its_call n x is) has, named)
  its_own b (inr (d, is, t, has, named)) = absurd (let none = at.together.makings.alone i d is map in cc (none, here))

  others_still : (j b : ℕ) → j ≢ i → HoldsTable s j b → HoldsTable led j b
  others_still j b ne (inl (n, x, is, t, has, named)) = inl (n, x, calls_beside s.calls map i to.4.next n j ne ∙ is, t, has, named)
  others_still j b ne (inr maker) = inr maker

  now_holds : (t : Planned) → now ≡ Some t → HoldsTable led i (block_in t.link)
  now_holds t is = by to.4.next refl is
    where
      by : (o : Option (UnderWay K V K)) → to.4.next ≡ o → next_table o ≡ Some t → HoldsTable led i (block_in t.link)
      by None e has = absurd (cc has)
      by (Some x) e has = inl (map, x, calls_its s.calls map i to.4.next ∙ e, t, has, refl)

  one : IsOneStep its known told s led i had now many
  one = record {
    whose = tables.whose;
    own = its_own;
    others = others_still;
    now_holds = now_holds;
    hands = λ j b holds. held_by same hash name v known2 led new to.5 shown_then j b holds;
    noted = λ j b holds. noted_by same hash name v known2 led new to.5 shown_then j b holds;
  }

  abbrev Left : Type 0
  Left = LeavesTables its known told s led i had now many

  -- a call that goes on is this machine
  next_is : said ≡ said_so.Goes → now ≡ table_made (making_of to.1)
  next_is goes =
      let next = subst (λ (p : Progress (Node K V)). ContinuesAs to.1 p to.4.next) goes to.4.goes_on in ap next_table next.1 ∙ ap (λ (y : Machine K V K). table_made (making_of y)) next.2

  -- where the step is one of this making, it goes on so
  module _ (n : NewTable) (making_is : making_of (machine_of u) ≡ Some n) where
    abbrev inner : Within old.memory new.memory told n (CallGoes old.memory new.memory told same same to.0.hash to.1 said) (CallRefuses old.memory new.memory told same same to.0.hash to.1 said)
    inner = step_within old.memory new.memory told same same to.0.hash to.1 said (machine_of u) n making_is to.3

    its_making : MadeThere same hash name m known s old at whole.all.shown map i n
    its_making = call_made same hash name m known s old at whole.all.shown map i u here n making_is

    goes_on : inner.0.1 ≡ progress.Goes → now ≡ table_in inner.0.0.stands
    goes_on goes = let so = inner.2.0 goes in next_is so.1 ∙ ap table_made so.0

    with_its_table : (t : Planned) → table_in n.stands ≡ Some t → Left
    with_its_table t has =
        let had_is : had ≡ Some t = ap table_made making_is ∙ has in
        let hands = call_hands same hash name m known s old at whole.all.shown map i u here t had_is in
        with_table its known told s led i had now many one old.memory new.memory n inner.0 inner.1 goes_on its_making.2
        t has had_is hands (role_there same hash name m known s old at whole.all.shown i t hands) its_making.1

    made_its : had ≡ None → (table : Planned) → n.stands ≡ making.Makes table → (b len limit turn : ℕ) → told ≡ changed.Made (kind.Table len limit turn) b
        → kind_of {K = K} {V = V} (node.Table table.len table.limit table.turn) ≡ kind.Table len limit turn → Left
    made_its none table stands b len limit turn made_it kind_is =
        let places : 8 ≤ table.len = subst (λ (p : Making). IsMadeBy w i p) stands its_making.0 in
        with_made its known told s led i had now many one old.memory new.memory n inner.0 inner.1 goes_on its_making.2
        none table stands places b len limit turn made_it kind_is

  -- a table that it makes
  made_table : had ≡ None → (b len limit turn : ℕ) → told ≡ changed.Made (kind.Table len limit turn) b → Left
  made_table none b len limit turn made_it =
      elim (which_made same same to.0.hash old.memory new.memory told to.1 said (machine_of u) (call_unmade same hash name m known s old at whole.all.shown map i u here) to.3 (kind.Table len limit turn) b made_it) as (λ _. Left) [
        | inl pair ↦ absurd (cc pair)
        | inr (value, (n, table, making_is, stands, value_is), kind_is) ↦ made_its n making_is none table stands b len limit turn made_it (ap kind_of (sym value_is) ∙ kind_is)
      ]

  makes_free : (x : Changed) → LeavesBy w.memory new.memory x → FreeBefore its known x
  makes_free (changed.Made k b) l = free_there w m.stored known whole.all.shown.blocks.roles b l.0
  makes_free changed.Nothing l = tt
  makes_free (changed.Wrote place before after) l = tt
  makes_free (changed.Unmade k) l = tt
  makes_free (changed.Took b) l = tt
  makes_free (changed.Roomed bucket had_one) l = tt

  pub left_tables : Left
  left_tables = by had refl
    where
      by : (o : Option Planned) → had ≡ o → Left
      by None e = left_without its known told s led i had now many one e (made_table e) (does_to_tables its known told (makes_free told leaves))
      by (Some t) e = let n = some_making (making_of (machine_of u)) t e in with_its_table n.0 n.1 t n.2

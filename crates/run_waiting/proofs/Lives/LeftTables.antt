-- No step but one of the end of a map leaves a block over; so a table that is left over is to be reclaimed by the same end still.
use Rattle.std.specs.Prelude.{◌≡◌, ℕ, Bool, List, [], ◌∷◌, Option, Some, Ok, Err}
use Rattle.std.proofs.Common.{refl, ap, sym, subst, ◌∙◌, inl, inr}
use Rattle.run_debts.specs.Given.SeizeWordsMem.{Mem}
use Rattle.run_debts.specs.Given.SeizeWordsOp.{Out, Found, Stored, Exchanged, Made, Taken, Roomed}
use Rattle.run_debts.specs.Given.SeizeLaw.{Effect, Taken as TakenBlock}
use Rattle.run_debts.specs.Given.SeizeSequence.{IsUsers}
use Rattle.run_debts.specs.Given.SeizeWorld.{World, Hand, NoBlock, Making as IsMade, InUse, Parting, Cutting, Handed, LeftTo, Request, Register', Enter', Leave', LeaveOwned, Refresh, Unregister', Retire, Flush, Defer', Event, Begin, Step, Makes, Drops, Links, Parts, Unlinks, Rewrites, Operates, Ends, LeavesOver, Relinks, Clears, Chooses, Begins, Steps', Happens, Runs, handed_by, with_at, made_by}
use Rattle.run_debts.proofs.Given.SeizeAloneHistories.NotTaken.{did}
use Rattle.run_debts.proofs.Given.SeizeAloneHistories.Reached.{Reached, happens_reached}
use Rattle.run_debts.specs.Given.TablesNodes.{deferred_word}
use Rattle.run_debts.specs.Given.TablesDeclared.node.Node.{Node}
use Rattle.run_debts.specs.Given.TablesDeclared.setting.Setting.{Setting}
use Rattle.run_debts.specs.Given.RawDeclared.machines.progress.Progress.{Progress}
use Rattle.run_debts.specs.Given.RunsDeclared.effect.TableId.{TableId}
use Rattle.run_debts.specs.Given.SchedulesMoment.{Moment}
use Rattle.run_debts.specs.Given.RuleInWorld.{AllUsers}
use Rattle.run_debts.proofs.Given.RuleWorld.Hands.{at_cases}
use Rattle.run_debts.specs.Given.CallersTogether.{UnderWay, OnKey, ForRoom, Counting, OverAll, IsOneStep}
use Rattle.run_debts.proofs.Given.CallersTogether.At.{at_other}
use Rattle.run_debts.proofs.Given.CallersTogether.Came.{came_reached}
use Rattle.run_debts.specs.Given.EffectsEffects.{known_after}
use Rattle.run_debts.specs.Given.EffectsKnown.{Known}
use Rattle.run_debts.specs.Given.EffectsDeclared.acting.Acting.TheVariants.{Call, Making, Row}
use Rattle.run_debts.specs.Given.EffectsDeclared.role.Role.TheVariants as role
use Rattle.run_debts.specs.Given.FinishesEndings.{Finishing, finishing_of}
use Rattle.run_debts.proofs.Given.FollowsSteps.{WentTo, went_to, DidSo}
use Rattle.run_debts.proofs.Given.OthersRowPlans.{row_tells}
use Rattle.run_debts.specs.Given.MomentsWhole.{RefinesWhole}
use Rattle.run_debts.proofs.Given.MomentsOnSlots.{begun_hands}
use Rattle.run_debts.specs.Due.{OwnAreMade}
use Rattle.run_waiting.specs.Lives.Behind.{IsLeft}
use Rattle.run_waiting.specs.Lives.LeftTables.{IsToTake, RefinesLeft, LeftBegins, OthersPreserveLeft, EndingsBeginLeft, NoneIsLeftTo, NoneIsLeft, WhereNoneIsLeft, RowsBeginLeft, RowsPreserveLeft, MakingsPreserveLeft, CallsPreserveLeft}
use Rattle.run_waiting.proofs.Lives.Reclaimed.{stays_so}
use Rattle.run_waiting.proofs.Lives.Stages.{WasTable, role_back}
use Rattle.run_debts.specs.Given.ScenesEnding.{ending_begun}
use Rattle.run_debts.specs.Given.ScenesHeld.{Held, IsAt}
use Rattle.run_debts.specs.Given.ScenesScene.{Scene, slot_of}
use Rattle.run_debts.specs.Given.ScenesStepping.{StepLeads, scene_after}

-- what is left over to somebody then was so before
module _ {T : Type 0} (defers : T → Option ℕ) (size b j : ℕ) where
  abbrev Back : World T → World T → Type 0
  Back w w2 = w2.hand b ≡ LeftTo j → w.hand b ≡ LeftTo j

  by_world : (w w2 v : World T) → w2 ≡ v → Back w v → Back w w2
  by_world w w2 v is back left = back (sym (ap (λ (z : World T). z.hand b) is) ∙ left)

  -- another hand was put in one place
  put_back : (hand : ℕ → Hand) (c : ℕ) (h : Hand) → (h ≡ LeftTo j → ⊥) → with_at hand c h b ≡ LeftTo j → hand b ≡ LeftTo j
  put_back hand c h none = at_cases (λ (x : Hand). x ≡ LeftTo j → hand b ≡ LeftTo j) hand c h b (λ e is. absurd (none is)) (λ ne is. is)

  makes_back : (w : World T) (i : ℕ) (out : Out T) (made : Mem T) → Back w (made_by defers w i made out)
  makes_back w i (Made (Ok c)) made = put_back w.hand c (IsMade i) (λ e. cc e)
  makes_back w i (Made (Err back)) made = λ is. is
  makes_back w i (Found a) made = λ is. is
  makes_back w i Stored made = λ is. is
  makes_back w i (Exchanged r) made = λ is. is
  makes_back w i (Taken a) made = λ is. is
  makes_back w i (Roomed r) made = λ is. is

  -- whatever users do
  event_back : (e : Event T) → IsUsers e → (w w2 : World T) → Happens defers size e w w2 → Back w w2
  event_back (Begin i request) u w w2 h = absurd u
  event_back (Step i) u w w2 h = absurd u
  event_back (LeavesOver i c further) u w w2 h = absurd u
  event_back (Makes i value words) u w w2 h = by_world w w2 (made_by defers w i h.1 h.0) h.4 (makes_back w i h.0 h.1)
  event_back (Drops i c) u w w2 h = by_world w w2 _ h.4 (put_back w.hand c NoBlock (λ e. cc e))
  event_back (Links i c o) u w w2 h = by_world w w2 _ h.1 (put_back w.hand c (InUse o) (λ e. cc e))
  event_back (Parts i c) u w w2 h = by_world w w2 _ h.1 (put_back w.hand c (Parting i) (λ e. cc e))
  event_back (Unlinks i c) u w w2 h = by_world w w2 _ h.1 (put_back w.hand c (Cutting i) (λ e. cc e))
  event_back (Rewrites i c value) u w w2 h = by_world w w2 _ h.5 (λ is. is)
  event_back (Operates op) u w w2 h = by_world w w2 _ h.4 (λ is. is)
  event_back (Ends i o) u w w2 h = absurd u
  event_back (Relinks i c word) u w w2 h = absurd u
  event_back (Clears i c) u w w2 h = absurd u
  event_back (Chooses choice) u w w2 h = by_world w w2 _ h (λ is. is)

  pub users_back : (events : List (Event T)) → AllUsers events → (w w2 : World T) → Runs defers size events w w2 → Back w w2
  users_back [] u w w2 runs = by_world w w2 w runs (λ is. is)
  users_back (e ∷ events) u w w2 runs = λ left. event_back e u.0 w runs.0 runs.1 (users_back events u.1 runs.0 w2 runs.2 left)

  -- a row that begins
  begun_back : (i : ℕ) (request : Request) (w v : World T) → Begins defers size i request w v → Back w v
  begun_back i (Register' enters) w v h = by_world w v _ h (λ is. is)
  begun_back i (Enter' s) w v h = by_world w v _ h.1 (λ is. is)
  begun_back i (Leave' s) w v h = by_world w v _ h.1 (λ is. is)
  begun_back i (LeaveOwned s) w v h = by_world w v _ h.1 (λ is. is)
  begun_back i (Refresh s) w v h = by_world w v _ h.1 (λ is. is)
  begun_back i (Unregister' s) w v h = by_world w v _ h.1 (λ is. is)
  begun_back i (Flush s) w v h = by_world w v _ h.1 (λ is. is)
  begun_back i (Retire s c) w v h = by_world w v _ h.2 (put_back w.hand c Handed (λ e. cc e))
  begun_back i (Defer' s c t) w v h = by_world w v _ h.7 (put_back w.hand c Handed (λ e. cc e))

  -- and a step of one
  hands_back : (effects : List Effect) (hand : ℕ → Hand) → handed_by effects hand b ≡ LeftTo j → hand b ≡ LeftTo j
  hands_back [] hand is = is
  hands_back (TakenBlock c ∷ effects) hand is = hands_back effects hand (put_back (handed_by effects hand) c NoBlock (λ e. cc e) is)
  hands_back (_ ∷ effects) hand is = hands_back effects hand is

  pub step_back : (i : ℕ) (w v : World T) → Reached defers size w → Steps' defers i (w.row i) w v → Back w v
  step_back i w v r step left =
      let it = did defers size w r i v step in
      hands_back it.effects w.hand (sym (ap (λ (h : ℕ → Hand). h b) it.hands) ∙ left)

-- a row within a call, which may begin with the step
pub one_back : {K V : Type 0} (setting : Setting) (i b j : ℕ) (w w2 : World (Node K V)) → Reached deferred_word setting.batch_size w → IsOneStep setting i w w2 → w2.hand b ≡ LeftTo j → w.hand b ≡ LeftTo j
one_back setting i b j w w2 r (inl step) left = step_back deferred_word setting.batch_size b j i w w2 r step left
one_back setting i b j w w2 r (inr (request, begun, over, begins, step)) left =
    begun_back deferred_word setting.batch_size b j i request w begun begins.1
    (step_back deferred_word setting.batch_size b j i begun w2 (happens_reached deferred_word setting.batch_size (Begin i request) w begun r begins) step left)

module _ {K V : Type 0} (known known2 : Known) (s t : Scene K V) (enders : t.enders ≡ s.enders) (shows : RefinesLeft known s) where
  -- the same end is to reclaim it
  taken_as : (i b : ℕ) → IsToTake s i b → IsToTake t i b
  taken_as i b k = record { f = k.f; ends = ap (λ (g : ℕ → Option (Finishing K V)). g i) enders ∙ k.ends; fresh = k.fresh; turn = k.turn; from = k.from; made = k.made; is = k.is }

  -- by the same notes
  pub left_as : ((b len : ℕ) (x : TableId) → known2.roles b ≡ role.Table x len → known.roles b ≡ role.Table x len) → ((b j : ℕ) → t.world.hand b ≡ LeftTo j → s.world.hand b ≡ LeftTo j) → RefinesLeft known2 t
  left_as was back b len x j is left = taken_as j b (shows b len x j (was b len x is) (back b j left))

  -- and where somebody's own table may have been linked
  left_then : OwnAreMade known s.world → ((b len : ℕ) (x : TableId) → known2.roles b ≡ role.Table x len → WasTable known b x len)
      → ((b j : ℕ) → t.world.hand b ≡ LeftTo j → s.world.hand b ≡ LeftTo j) → RefinesLeft known2 t
  left_then owning was back b len x j is left = by (was b len x is) (back b j left)
    where
      by : WasTable known b x len → s.world.hand b ≡ LeftTo j → IsToTake t j b
      by (inl noted) before = taken_as j b (shows b len x j noted before)
      by (inr (turn, shape, own, e)) before = absurd (let made = (owning b turn shape own).1 in cc (made, before))

pub left_begins : (K V : Type 0) → LeftBegins K V
left_begins K V roots b len t i is left = absurd (cc is)

pub others_keep_left : (K V : Type 0) → OthersPreserveLeft K V
others_keep_left K V known s t shows world enders =
    left_as known known s t enders shows (λ b len x is. is) (λ b j left. sym (ap (λ (z : World (Node K V)). z.hand b) world) ∙ left)

pub endings_begin_left : (K V : Type 0) → EndingsBeginLeft K V
endings_begin_left K V known s shows map i standing none b len t j is left = by (shows b len t j is left)
  where
    by : IsToTake s j b → IsToTake (ending_begun map i standing s) j b
    by k = record {
      f = k.f;
      ends = at_other s.enders i (Some (finishing_of standing s.world)) j (λ e. let here = ap s.enders (sym e) ∙ k.ends in cc (none, here)) ∙ k.ends;
      fresh = k.fresh;
      turn = k.turn;
      from = k.from;
      made = k.made;
      is = k.is;
    }

pub none_is_left_to : (K V : Type 0) → NoneIsLeftTo K V
none_is_left_to K V known s shows i none b len t is left = (let ends = (shows b len t i is left).ends in cc (none, ends))

pub none_is_left : (K V : Type 0) → NoneIsLeft K V
none_is_left K V known s shows nobody b len t is left = by (s.world.hand b) refl left
  where
    by : (h : Hand) → s.world.hand b ≡ h → IsLeft h → ⊥
    by (LeftTo i) e its = none_is_left_to K V known s shows i (nobody i) b len t is e
    by _ e its = its

pub where_none_is_left : (K V : Type 0) → WhereNoneIsLeft K V
where_none_is_left K V known s none b len t i is left = absurd (none b len t is (subst IsLeft (sym left) tt))

module _ (K V : Type 0) (same : K → K → Bool) (hash : ℕ → K → ℕ) where
  pub rows_begin_left : RowsBeginLeft K V same hash
  rows_begin_left known s old new shows called i leads =
      let to = leads.2 in
      let hands = begun_hands old.batch_size (slot_of i) i s.world to.0 called to.1.1 in
      left_as known known s (record s { world = to.0; maps = to.2 }) refl shows (λ b len x is. is) (λ b j left. sym (ap (λ (h : ℕ → Hand). h b) hands) ∙ left)

  pub rows_keep_left : RowsPreserveLeft K V same hash
  rows_keep_left name m known s old new at whole shows i told leads row here =
      let to = leads row here in
      let tells = row_tells old.memory new.memory new.changed (to.0, told) row to.1 in
      left_as known (known_after Row new.changed known) s (record s { world = to.2.0; maps = to.2.2 }) refl shows (λ b len x is. (stays_so m known whole.blocks new.changed tells b len x is).0)
      (λ b j left. step_back deferred_word old.batch_size b j i s.world to.2.0 (came_reached old.batch_size s.world at.together.makings.standing.came) to.2.1 left)

  pub makings_keep_left : MakingsPreserveLeft K V same hash
  makings_keep_left known s old new owning shows i told leads d here =
      let step = (leads d here).2.step in
      left_then known (known_after (Making d.map) new.changed known) s (record s { world = step.w2 }) refl shows owning (λ b len x is. role_back (Making d.map) known b len x new.changed is)
      (λ b j left. users_back deferred_word old.batch_size b j step.events step.users s.world step.w2 step.runs left)

  module _ (name : ℕ → List ℕ) (m : Moment K V) (known : Known) (s : Scene K V) (old new : Held K V) (at : IsAt same hash old s) (whole : RefinesWhole same name m known s) (map i : ℕ)
      (u : UnderWay K V K) (here : s.calls map i ≡ Some u) (said : Progress (Node K V)) (leads : StepLeads same hash i said s old new) (b j : ℕ) where
    abbrev to : WentTo same hash name m known s old new at whole.all.shown map i u here said leads
    to = went_to same hash name m known s old new at whole.all.shown map i u here said leads

    abbrev size : ℕ
    size = to.0.setting.batch_size

    reached : Reached deferred_word size s.world
    reached = came_reached size s.world (at.together.makings.standing.each map to.0 to.2).ground.came

    by_events : (w2 : World (Node K V)) → to.4.w2 ≡ w2 → (events : List (Event (Node K V))) → AllUsers events → Runs deferred_word size events s.world w2 → to.4.w2.hand b ≡ LeftTo j → s.world.hand b ≡ LeftTo j
    by_events w2 is events users runs left = users_back deferred_word size b j events users s.world w2 runs (sym (ap (λ (z : World (Node K V)). z.hand b) is) ∙ left)

    by_step : (w2 : World (Node K V)) → to.4.w2 ≡ w2 → IsOneStep to.0.setting i s.world w2 → to.4.w2.hand b ≡ LeftTo j → s.world.hand b ≡ LeftTo j
    by_step w2 is step left = one_back to.0.setting i b j s.world w2 reached step (sym (ap (λ (z : World (Node K V)). z.hand b) is) ∙ left)

    call_back : to.4.w2.hand b ≡ LeftTo j → s.world.hand b ≡ LeftTo j
    call_back = by u to.4.did
      where
        by : (x : UnderWay K V K) → DidSo same hash name m known s old new at whole.all.shown map i u here said leads x → to.4.w2.hand b ≡ LeftTo j → s.world.hand b ≡ LeftTo j
        by (OnKey x) (p2, end, machine_is, told_is, inl (step, moved)) = by_events step.step.went.w2 moved.0 step.step.went.events step.step.went.users step.step.went.runs
        by (OnKey x) (p2, end, machine_is, told_is, inr (row, stayed)) = by_step row.step.w2 stayed.0 row.step.happened
        by (ForRoom x) (p2, end, machine_is, told_is, inl (step, moved)) = by_events step.step.went.w2 moved.0 step.step.went.events step.step.went.users step.step.went.runs
        by (ForRoom x) (p2, end, machine_is, told_is, inr (row, stayed)) = by_step row.step.w2 stayed.0 row.step.happened
        by (Counting x) (p2, end, machine_is, told_is, still_there, stayed) = by_events s.world stayed.0 [] tt refl
        by (OverAll x) (p2, end, machine_is, told_is, inl (step, moved)) = by_events step.step.went.w2 moved.0 step.step.went.events step.step.went.users step.step.went.runs
        by (OverAll x) (p2, end, machine_is, told_is, inr (row, stayed)) = by_step row.step.w2 stayed.0 row.step.happened

  pub calls_keep_left : CallsPreserveLeft K V same hash
  calls_keep_left name m known s old new at whole owning shows map i u here told leads =
      let to = leads map u here in
      left_then known (known_after (Call i map) new.changed known) s (scene_after same s old new map i to.0 u to.1 told to.4) refl shows owning (λ b len x is. role_back (Call i map) known b len x new.changed is)
      (λ b j left. call_back name m known s old new at whole map i u here told leads b j left)

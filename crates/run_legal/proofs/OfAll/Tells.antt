-- What a step does by which all is reclaimed: it reclaims what was noted in the block that it takes away, and does nothing else.
use Rattle.std.specs.Prelude.{◌≡◌, ◌⊎◌, ℕ, Bool, true, false, List, [], map, Some, Ok, Err, if◌then◌else◌}
use Rattle.std.proofs.Common.{refl, ap, sym, subst, inl, inr}
use Rattle.run_grows.specs.Given.SeizeWordsMem.{Mem}
use Rattle.run_grows.specs.Given.SeizeWordsOp.{Op, Out, Load, Store, Swap, Add, Or, Exchange, Make, Take, Rewrite, Room, Found, Exchanged, Made}
use Rattle.run_grows.specs.Given.SeizeWordsPlan.{Plan, Turn, Do, plan_as}
use Rattle.run_grows.specs.Given.SeizeWordsWord.{block_in}
use Rattle.run_grows.specs.Given.SeizeWordsDeclared.at.At.TheVariants.{Root, Used, Slot, Entry, Word}
use Rattle.run_grows.specs.Given.SeizeLeave as leave
use Rattle.run_grows.specs.Given.SeizeReclaimAll as all
use Rattle.run_grows.specs.Given.SeizeSettle as settle
use Rattle.run_grows.specs.Given.SeizeSequence.{taken_in}
use Rattle.run_grows.specs.Given.SeizeWorld.{World}
use Rattle.run_grows.specs.Given.SeizeDeclared.rows.leave.Leave.{Leave}
use Rattle.run_grows.specs.Given.SeizeDeclared.rows.leave.Leaving.{Leaving}
use Rattle.run_grows.specs.Given.SeizeDeclared.rows.leave.Leaving.TheVariants as leaving
use Rattle.run_grows.specs.Given.SeizeDeclared.rows.reclaim_all.ReclaimAll.{ReclaimAll}
use Rattle.run_grows.specs.Given.SeizeDeclared.rows.reclaim_all.Reclaiming.{Reclaiming}
use Rattle.run_grows.specs.Given.SeizeDeclared.rows.reclaim_all.Reclaiming.TheVariants as at
use Rattle.run_grows.specs.Given.SeizeDeclared.rows.settle.Settle.{Settle}
use Rattle.run_grows.specs.Given.SeizeDeclared.rows.settle.Settled.{Settled}
use Rattle.run_grows.specs.Given.SeizeDeclared.rows.settle.Settled.TheVariants as settled
use Rattle.run_grows.specs.Given.SeizeDeclared.rows.settle.Settling.{Settling}
use Rattle.run_grows.specs.Given.SeizeDeclared.rows.settle.Settling.TheVariants as settling
use Rattle.run_grows.specs.Given.TablesNodes.{deferred_word, was_left}
use Rattle.run_grows.specs.Given.TablesDeclared.node.Node.{Node}
use Rattle.run_grows.specs.Given.RunsDeclared.effect.Effect.TheVariants.{Reclaimed}
use Rattle.run_grows.specs.Given.RunsDeclared.effect.Thing.{Thing}
use Rattle.run_grows.specs.Given.SchedulesMoment.{Moment}
use Rattle.run_grows.specs.Given.TellsSeen.{seen_of}
use Rattle.run_grows.specs.Given.TellerTells.{StepsObserved, observed_of}
use Rattle.run_grows.specs.Given.EffectsDeclared.changed.Changed.{Changed}
use Rattle.run_grows.specs.Given.EffectsDeclared.changed.Changed.TheVariants as changed
use Rattle.run_grows.specs.Given.CallersTogether.{UnderWay}
use Rattle.run_grows.specs.Given.EffectsEffects.{effects_of, known_after, named, names_same, taken_by}
use Rattle.run_grows.specs.Given.EffectsKnown.{Known}
use Rattle.run_grows.specs.Given.EffectsDeclared.acting.Acting.TheVariants.{Row}
use Rattle.run_grows.specs.Given.EffectsDeclared.role.Role.{Role}
use Rattle.run_grows.specs.Given.EffectsDeclared.role.Role.TheVariants as role
use Rattle.run_grows.specs.Given.FollowsSteps.{TakesNone}
use Rattle.run_grows.proofs.Given.FollowsTold.{roomed_as_many}
use Rattle.run_grows.proofs.Given.OthersRowPlans.{TellsRow}
use Rattle.run_grows.specs.Given.MomentsWhole.{RefinesWhole}
use Rattle.run_grows.specs.Given.OwesTables.{HoldsTable}
use Rattle.run_grows.specs.Given.ReclaimsReclaims.{HasTaken, ReclaimingOutcome}
use Rattle.run_grows.specs.Given.ScenesReclaiming.{IsReclaiming, ReclaimingLeads}
use Rattle.run_grows.proofs.Given.ShedsReclaimGives.{GivesOr, reclaiming_gives, taken_gone}
use Rattle.run_grows.proofs.Given.ShedsReclaiming.Rows.{EmptiesRoot, reclaiming_tells}
use Rattle.run_grows.proofs.Given.ShedsReclaiming.Steps.{left, no_call, nothing_there, root_none}
use Rattle.run_grows.specs.Given.KeptKept.{RefinesKept}
use Rattle.run_grows.specs.Given.ModelsNumbers.{things_of}
use Rattle.run_grows.proofs.Given.ModelsRowSteps.{roles_after}
use Rattle.run_grows.specs.Given.ScenesHeld.{Held}
use Rattle.run_grows.specs.Given.ScenesScene.{Scene}
use Rattle.run_sweeps.proofs.Needs.Steps.{IsNoOwn}

-- It asks for no room.

module _ {T : Type 0} where
  abbrev AsksNoRoom : Op T → Type 0
  AsksNoRoom (Room bucket) = ⊥
  AsksNoRoom _ = Unit {0}

  abbrev NoRoom : {R : Type 0} → Plan T R → Type 0
  NoRoom (Turn rest) = Unit {0}
  NoRoom (Do op rest) = AsksNoRoom op

  so_as : {A B : Type 0} (f : A → B) (plan : Plan T A) → NoRoom plan → NoRoom (plan_as f plan)
  so_as f (Turn rest) is = tt
  so_as f (Do op rest) is = is

abbrev IsNotRoomed : Changed → Type 0
IsNotRoomed (changed.Roomed bucket had) = ⊥
IsNotRoomed _ = Unit {0}

module _ {K V : Type 0} where
  op_no_room : (m : Mem (Node K V)) (op : Op (Node K V)) (out : Out (Node K V)) → AsksNoRoom op → IsNotRoomed (observed_of op out (seen_of m op out))
  op_no_room m (Load place) out is = tt
  op_no_room m (Store place word) out is = tt
  op_no_room m (Swap place word) (Found before) is = tt
  op_no_room m (Swap place word) _ is = tt
  op_no_room m (Add place more) (Found before) is = tt
  op_no_room m (Add place more) _ is = tt
  op_no_room m (Or place bits) (Found before) is = tt
  op_no_room m (Or place bits) _ is = tt
  op_no_room m (Exchange place old new) (Exchanged (Ok word)) is = tt
  op_no_room m (Exchange place old new) _ is = tt
  op_no_room m (Make value words) (Made (Ok b)) is = tt
  op_no_room m (Make value words) (Made (Err back)) is = tt
  op_no_room m (Make value words) _ is = tt
  op_no_room m (Take b) out is = tt
  op_no_room m (Rewrite b value) out is = tt
  op_no_room m (Room bucket) out is = absurd is

  plan_no_room : {R : Type 0} (m m2 : Mem (Node K V)) (told : Changed) (plan : Plan (Node K V) R) (end : R) → StepsObserved K V R m changed.Nothing plan m2 told end → NoRoom plan → IsNotRoomed told
  plan_no_room m m2 told (Turn rest) end s is = subst IsNotRoomed (sym s.2) tt
  plan_no_room m m2 told (Do op rest) end s is = subst IsNotRoomed (sym s.1.1) (op_no_room m op s.0 is)

settle_no_room : (K V : Type 0) (c : Settle) (p : Settling) → NoRoom (settle.plan_at (deferred_word {K = K} {V = V}) c p)
settle_no_room K V c (settling.Takes next) = tt
settle_no_room K V c _ = tt

leave_no_room : (K V : Type 0) (c : Leave) (p : Leaving) → NoRoom (leave.plan_at (deferred_word {K = K} {V = V}) c p)
leave_no_room K V c leaving.Swaps = tt
leave_no_room K V c (leaving.Settles it) = so_as (leave.settled c) (settle.settle_plan (deferred_word {K = K} {V = V}) it) (settle_no_room K V it it.stands)
leave_no_room K V c leaving.Frees = tt
leave_no_room K V c leaving.Over = tt

all_no_room : (K V : Type 0) (c : ReclaimAll) (p : Reclaiming) → NoRoom (all.plan_at (deferred_word {K = K} {V = V}) was_left c p)
all_no_room K V c (at.Leaves slot it) =
    so_as (all.within (λ (l : Leave). all.standing c (at.Leaves slot l)) (all.next_head c slot)) (leave.leave_plan (deferred_word {K = K} {V = V}) it) (leave_no_room K V it it.stands)
all_no_room K V c (at.Flushes slot it) =
    so_as (all.within (λ (l : Settle). all.standing c (at.Flushes slot l)) (all.next_batch (record c { again = true }) slot)) (settle.settle_plan (deferred_word {K = K} {V = V}) it) (settle_no_room K V it it.stands)
all_no_room K V c _ = tt

-- What it reclaims.

-- what was noted in the block that was taken away
abbrev pub gone_by : Known → Changed → List Thing
gone_by known (changed.Took b) = things_of (known.roles b)
gone_by known _ = []

pub none_gone : (known : Known) (x : Changed) → TakesNone x → gone_by known x ≡ []
none_gone known (changed.Took b) none = absurd none
none_gone known _ none = refl

taken_reclaims : (r : Role) → IsNoOwn r → taken_by Row r ≡ map Reclaimed (things_of r)
taken_reclaims role.Free own = refl
taken_reclaims (role.OwnPair j) own = absurd own
taken_reclaims (role.OwnTable turn shape) own = absurd own
taken_reclaims (role.Pair n) own = refl
taken_reclaims (role.Table t len) own = refl
taken_reclaims (role.Counter of) own = refl

module _ (known : Known) where
  nothing : (q : Bool) → (if q then [] else []) ≡ map Reclaimed []
  nothing true = refl
  nothing false = refl

  row_reclaims : (x : Changed) → TellsRow x → IsNotRoomed x → ((b : ℕ) → x ≡ changed.Took b → IsNoOwn (known.roles b)) → effects_of Row known x ≡ map Reclaimed (gone_by known x)
  row_reclaims changed.Nothing tells room own = refl
  row_reclaims (changed.Wrote (Slot t field) was now) tells room own = refl
  row_reclaims (changed.Wrote (Entry b field) was now) tells room own = nothing (names_same was now)
  row_reclaims (changed.Wrote (Root r) was now) tells room own = absurd tells
  row_reclaims (changed.Wrote (Used r) was now) tells room own = absurd tells
  row_reclaims (changed.Wrote (Word b field) was now) tells room own = absurd tells
  row_reclaims (changed.Made kind b) tells room own = absurd tells
  row_reclaims (changed.Unmade kind) tells room own = absurd tells
  row_reclaims (changed.Took b) tells room own = taken_reclaims (known.roles b) (own b refl)
  row_reclaims (changed.Roomed bucket had) tells room own = absurd room

  -- where no block is taken away each is noted as it was
  row_notes : (x : Changed) → TellsRow x → TakesNone x → (b : ℕ) → (known_after Row x known).roles b ≡ known.roles b
  row_notes changed.Nothing tells none b = refl
  row_notes (changed.Wrote (Slot t field) was now) tells none b = refl
  row_notes (changed.Wrote (Entry c field) was now) tells none b = refl
  row_notes (changed.Wrote (Root r) was now) tells none b = absurd tells
  row_notes (changed.Wrote (Used r) was now) tells none b = absurd tells
  row_notes (changed.Wrote (Word c field) was now) tells none b = absurd tells
  row_notes (changed.Made kind c) tells none b = absurd tells
  row_notes (changed.Unmade kind) tells none b = absurd tells
  row_notes (changed.Took c) tells none b = absurd none
  row_notes (changed.Roomed bucket had) tells none b = ap (λ (f : ℕ → Role). f b) (roomed_as_many Row known bucket had).0

module _ {K V : Type 0} (same : K → K → Bool) (hash : ℕ → K → ℕ) (name : ℕ → List ℕ) (m : Moment K V) (known : Known) (s : Scene K V) (whole : RefinesWhole same name m known s)
    (kept : RefinesKept name m known s) (old new : Held K V) (i : ℕ) (lists : ℕ → List ℕ) (before after : ReclaimAll) (told : Settled (Node K V)) (under_way : IsReclaiming same hash old s i lists before)
    (leads : ReclaimingLeads same hash s i lists old new before after told) where
  abbrev x : Changed
  x = new.changed

  tells : TellsRow x ⊎ EmptiesRoot x
  tells = reclaiming_tells old.memory new.memory x before before.stands (after, told) leads.0

  not_roomed : IsNotRoomed x
  not_roomed =
      plan_no_room old.memory new.memory x (all.reclaim_all_plan (deferred_word {K = K} {V = V}) was_left before) (after, told) leads.0 (all_no_room K V before before.stands)

  pub none_under_way : {X : Type 0} (map j : ℕ) (u : UnderWay K V K) → s.calls map j ≡ Some u → X
  none_under_way map j u here = absurd (no_call same hash name m known s whole old new i lists before after told under_way leads map j u here)

  no_own : (b : ℕ) → IsNoOwn (known.roles b)
  no_own b = by (known.roles b) refl
    where
      held : (j : ℕ) → HoldsTable s j b → ⊥
      held j (inl its) = none_under_way its.0 j its.1 its.2
      held j (inr its) = (let none = under_way.under_way.stand.no_makers j in let here = its.1 in cc (none, here))

      by : (r : Role) → known.roles b ≡ r → IsNoOwn r
      by role.Free is = tt
      by (role.OwnPair j) is = (let its = kept.made.whose j b is in none_under_way its.0 j its.1 its.2)
      by (role.OwnTable turn shape) is = (let its = kept.tables.whose b turn shape is in absurd (held its.0 its.1))
      by (role.Pair n) is = tt
      by (role.Table t len) is = tt
      by (role.Counter of) is = tt

  root_emptied : (root was now : ℕ) → now ≡ 0 → (effects_of Row known (changed.Wrote (Root root) was now) ≡ []) × (known_after Row (changed.Wrote (Root root) was now) known ≡ known)
  root_emptied root was now empty =
      root_none same hash name m known s whole old new i lists before after told under_way leads (names_same was now) (named known was) (named known now) (block_in now)
      (nothing_there same hash name m known s whole old new i lists before after told under_way leads now empty)

  -- what it does is to reclaim that
  pub it_reclaims : effects_of Row known x ≡ map Reclaimed (gone_by known x)
  it_reclaims = elim tells as (λ _. effects_of Row known x ≡ map Reclaimed (gone_by known x)) [
    | inl row ↦ row_reclaims known x row not_roomed (λ b is. no_own b)
    | inr empties ↦ by x empties
  ]
    where
      by : (y : Changed) → EmptiesRoot y → effects_of Row known y ≡ map Reclaimed (gone_by known y)
      by (changed.Wrote (Root root) was now) empty = (root_emptied root was now empty).0
      by (changed.Wrote (Used root) was now) empty = refl
      by _ empty = absurd empty

  -- each block is noted as it was, but for one that it takes away
  pub noted_or_free : (b : ℕ) → ((known_after Row x known).roles b ≡ known.roles b) ⊎ ((known_after Row x known).roles b ≡ role.Free)
  noted_or_free b = elim tells as (λ _. ((known_after Row x known).roles b ≡ known.roles b) ⊎ ((known_after Row x known).roles b ≡ role.Free)) [
    | inl row ↦ roles_after known x row b
    | inr empties ↦ inl (by x empties)
  ]
    where
      by : (y : Changed) → EmptiesRoot y → (known_after Row y known).roles b ≡ known.roles b
      by (changed.Wrote (Root root) was now) empty = ap (λ (k : Known). k.roles b) (root_emptied root was now empty).1
      by (changed.Wrote (Used root) was now) empty = refl
      by _ empty = absurd empty

  pub noted_still : TakesNone x → (b : ℕ) → (known_after Row x known).roles b ≡ known.roles b
  noted_still none b = elim tells as (λ _. (known_after Row x known).roles b ≡ known.roles b) [
    | inl row ↦ row_notes known x row none b
    | inr empties ↦ by x empties
  ]
    where
      by : (y : Changed) → EmptiesRoot y → (known_after Row y known).roles b ≡ known.roles b
      by (changed.Wrote (Root root) was now) empty = ap (λ (k : Known). k.roles b) (root_emptied root was now empty).1
      by (changed.Wrote (Used root) was now) empty = refl
      by _ empty = absurd empty

  -- It has taken no block away, and nothing behind roots; or it has taken one away: that was retired, or was the first one behind the roots.
  abbrev pub HasDone : Type 0
  HasDone = (TakesNone x × (leads.1.lists2 ≡ lists) × (taken_in leads.1.w2.log ≡ taken_in s.world.log)) ⊎ ((b : ℕ) × (x ≡ changed.Took b) × HasTaken s.world leads.1.w2 lists leads.1.lists2 b)

  pub has_done : HasDone
  has_done = by told leads.1.told (reclaiming_gives old.memory new.memory x before (after, told) before.stands leads.0)
    where
      by : (t : Settled (Node K V)) → ReclaimingOutcome s.world leads.1.w2 lists leads.1.lists2 t → GivesOr old.memory new.memory x t → HasDone
      by settled.Goes say none = inl (none, say.0, say.1)
      by settled.Waits say none = absurd say
      by (settled.Gave value) say gives =
          inr (say.0, taken_gone s.world.memory leads.1.w2.memory x (left same hash name m known s whole old new i lists before after told under_way leads) say.0 value say.1 say.2, say.3)
      by settled.Done say none = inl (none, say.0, ap (λ (w : World (Node K V)). taken_in w.log) say.1)

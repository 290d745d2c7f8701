-- Between the steps of calls: where a call begins, takes a reply, goes on as a walk, or is under way no more, each that makes a table has what it stores.
use Rattle.std.specs.Prelude.{◌≡◌, ℕ, Bool, Some}
use Rattle.std.proofs.Common.{ap, sym, subst, ◌∙◌, inl, inr}
use Rattle.run_executor.specs.Given.RawCallAsks.{replied}
use Rattle.run_executor.specs.Given.RawMachine.{machine_asked, machine_replied, sweep_asked, sweep_replied}
use Rattle.run_executor.specs.Given.RawDeclared.machines.call.KeyCall.{KeyCall}
use Rattle.run_executor.specs.Given.RawDeclared.machines.machine.Machine.{Machine}
use Rattle.run_executor.specs.Given.RawDeclared.machines.machine.Machine.TheVariants as kinds
use Rattle.run_executor.specs.Given.SchedulesMoment.{Moment}
use Rattle.run_executor.specs.Given.CallersPairs.{Given}
use Rattle.run_executor.specs.Given.CallersTogether.{CallOnKey, UnderWay, OnKey, ForRoom, Counting, OverAll, IsBegun, Gets, Removes, Inserts, TriesToInsert, Computes, Updates, UpdatesOrInserts, TriesToInsertWith, RemovesIf}
use Rattle.run_executor.specs.Given.FinishesMachines.{machine_of}
use Rattle.run_executor.specs.Given.FinishesMaps.{Standing}
use Rattle.run_executor.proofs.Given.HandsAsking.{which}
use Rattle.run_finds.specs.Growing.{GrowsAt, RefinesGrowing, GrowingStays, CallsBeginGrowing, CallsTakeGrowing, WalksPreserveGrowing}
use Rattle.run_finds.specs.Within.{many_of}
use Rattle.run_finds.proofs.Grows.On.{grows_later, reply_grows}
use Rattle.run_executor.specs.Given.ScenesBeginning.{Begins}
use Rattle.run_executor.specs.Given.ScenesReplying.{scene_with}
use Rattle.run_executor.specs.Given.ScenesScene.{Scene, slot_of}

pub growing_stays : (K V : Type 0) → GrowingStays K V
growing_stays K V m v s t growing later keeps map i u is =
    let was = keeps map i u is in
    let before = subst (λ (p : KeyCall K V K). GrowsAt (many_of map m) p p.stands) was.2 (growing map i was.0 was.1) in
    grows_later (many_of map v) (many_of map m) (later map) u.call u.call.stands before

module _ {K V : Type 0} (m : Moment K V) (s : Scene K V) (growing : RefinesGrowing m s) (map i : ℕ) where
  -- one call goes on as another machine
  goes_on : (next : UnderWay K V K) → ((y : CallOnKey K V K) → next ≡ OnKey y → GrowsAt (many_of map m) y.call y.call.stands) → RefinesGrowing m (scene_with map i next s)
  goes_on next so n j y is = elim (which s.calls map i (Some next) n j (OnKey y) is) as (λ _. GrowsAt (many_of n m) y.call y.call.stands) [
    | inl it ↦ subst (λ (k : ℕ). GrowsAt (many_of k m) y.call y.call.stands) (sym it.0) (so y (let one : next ≡ OnKey y = cc (it.2) in one))
    | inr was ↦ growing n j y was.1
  ]

-- A call that begins makes no table yet.
begins_so : {K V : Type 0} (same : K → K → Bool) (standing : Standing K) (i many : ℕ) (keys : K → Bool) (pair : Given K V) (p : KeyCall K V K)
    → IsBegun V same standing.hash same standing.setting slot_of i keys pair p → GrowsAt many p p.stands
begins_so same standing i many _ _ _ (Gets q code few class) = tt
begins_so same standing i many _ _ _ (Removes q code few class) = tt
begins_so same standing i many _ _ _ (Inserts key value) = tt
begins_so same standing i many _ _ _ (TriesToInsert key value) = tt
begins_so same standing i many _ _ _ (Computes key) = tt
begins_so same standing i many _ _ _ (Updates key) = tt
begins_so same standing i many _ _ _ (UpdatesOrInserts key absent) = tt
begins_so same standing i many _ _ _ (TriesToInsertWith key) = tt
begins_so same standing i many _ _ _ (RemovesIf q code few class) = tt

pub calls_begin_growing : (K V : Type 0) → CallsBeginGrowing K V
calls_begin_growing K V same m s growing standing map i u begins = goes_on m s growing map i u (by u begins)
  where
    by : (x : UnderWay K V K) → Begins same standing i x → (y : CallOnKey K V K) → x ≡ OnKey y → GrowsAt (many_of map m) y.call y.call.stands
    by (OnKey x) begun y e =
        let one : x ≡ y = cc e in
        subst (λ (z : CallOnKey K V K). GrowsAt (many_of map m) z.call z.call.stands) one (begins_so same standing i (many_of map m) x.keys x.pair x.call begun.0)
    by (ForRoom r) begun y e = absurd (cc e)
    by (Counting sum) begun y e = absurd (cc e)
    by (OverAll o) begun y e = absurd (cc e)

-- of one that goes on as the same kind of machine
module _ {K V : Type 0} (many : ℕ) where
  abbrev Goes : UnderWay K V K → Machine K V K → Type 0
  Goes next machine = machine_of next ≡ machine → (y : CallOnKey K V K) → next ≡ OnKey y → GrowsAt many y.call y.call.stands

  as_key : (next : UnderWay K V K) (p : KeyCall K V K) → GrowsAt many p p.stands → Goes next (kinds.Key p)
  as_key next p so goes y e =
      let machine : ◌≡◌ {A = Machine K V K} (kinds.Key p) (kinds.Key y.call) = sym goes ∙ ap (λ (x : UnderWay K V K). machine_of x) e in
      let one : p ≡ y.call = cc machine in subst (λ (q : KeyCall K V K). GrowsAt many q q.stands) one so

  no_key : (next : UnderWay K V K) (machine : Machine K V K) → ((p : KeyCall K V K) → ◌≡◌ {A = Machine K V K} machine (kinds.Key p) → ⊥) → Goes next machine
  no_key next machine other goes y e = absurd (other y.call (sym goes ∙ ap (λ (x : UnderWay K V K). machine_of x) e))

pub calls_take_growing : (K V : Type 0) → CallsTakeGrowing K V
calls_take_growing K V m s growing map i u here reply next goes = goes_on m s growing map i next (by u here goes)
  where
    by : (x : UnderWay K V K) → s.calls map i ≡ Some x → machine_of next ≡ (machine_replied (machine_of x) reply).0 → (y : CallOnKey K V K) → next ≡ OnKey y → GrowsAt (many_of map m) y.call y.call.stands
    by (OnKey x) is on = as_key (many_of map m) next (replied x.call reply).0 (reply_grows (many_of map m) x.call reply (growing map i x is)) on
    by (ForRoom r) is on = no_key (many_of map m) next (kinds.Reserve r.reserve) (λ p e. cc e) on
    by (Counting sum) is on = no_key (many_of map m) next (kinds.Count sum) (λ p e. cc e) on
    by (OverAll o) is on = no_key (many_of map m) next (kinds.Sweep (sweep_replied o.sweep reply).0) (λ p e. cc e) on

pub walks_go_on_growing : (K V : Type 0) → WalksPreserveGrowing K V
walks_go_on_growing K V m s growing map i u here next goes = goes_on m s growing map i next (by u here goes)
  where
    by : (x : UnderWay K V K) → s.calls map i ≡ Some x → machine_of next ≡ (machine_asked (machine_of x)).0 → (y : CallOnKey K V K) → next ≡ OnKey y → GrowsAt (many_of map m) y.call y.call.stands
    by (OnKey x) is on = as_key (many_of map m) next x.call (growing map i x is) on
    by (ForRoom r) is on = no_key (many_of map m) next (kinds.Reserve r.reserve) (λ p e. cc e) on
    by (Counting sum) is on = no_key (many_of map m) next (kinds.Count sum) (λ p e. cc e) on
    by (OverAll o) is on = no_key (many_of map m) next (kinds.Sweep (sweep_asked o.sweep).0) (λ p e. cc e) on

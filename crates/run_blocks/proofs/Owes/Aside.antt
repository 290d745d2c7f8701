-- A step that is of no call leaves blocks for pairs alone, if it neither makes, nor takes, nor stores one.
use Rattle.std.specs.Prelude.{◌≡◌, ℕ, Bool, true, false, List, [], ◌∷◌, find, Option, Some, Ok, Err}
use Rattle.std.proofs.Common.{refl, ap, sym, ◌∙◌}
use Rattle.run_debts.specs.Given.SeizeWordsMem.{Mem}
use Rattle.run_debts.specs.Given.SeizeWordsOp.{Op, Out, Load, Store, Swap, Add, Or, Exchange, Make, Take, Rewrite, Room, Found, Exchanged, Made, Roomed}
use Rattle.run_debts.specs.Given.SeizeWordsPlan.{Plan, Turn, Do, plan_as}
use Rattle.run_debts.specs.Given.TablesDeclared.node.Node.{Node}
use Rattle.run_debts.specs.Given.RunsSame.{is_same}
use Rattle.run_debts.specs.Given.RunsDeclared.effect.Effect.{Effect}
use Rattle.run_debts.specs.Given.RunsDeclared.effect.Effect.TheVariants as effect
use Rattle.run_debts.specs.Given.SchedulesMoment.{UnderWay as CallThere, Moment}
use Rattle.run_debts.specs.Given.SchedulesViews.{call_of}
use Rattle.run_debts.specs.Given.TellerTells.{observed_of, StepsObserved}
use Rattle.run_debts.specs.Given.EffectsDeclared.changed.Changed.{Changed}
use Rattle.run_debts.specs.Given.EffectsDeclared.changed.Changed.TheVariants as changed
use Rattle.run_debts.specs.Given.EffectsDeclared.changed.Kind.TheVariants as kind
use Rattle.run_debts.specs.Given.TellsSeen.{seen_of}
use Rattle.owner_calls.specs.Given.CallersTogether.{UnderWay}
use Rattle.run_debts.specs.Given.EffectsEffects.{taken_by, effects_of, known_after}
use Rattle.run_debts.specs.Given.EffectsKnown.{Known}
use Rattle.run_debts.specs.Given.EffectsDeclared.acting.Acting.{Acting}
use Rattle.run_debts.specs.Given.EffectsDeclared.role.Role.{Role}
use Rattle.run_debts.specs.Given.EffectsDeclared.role.Role.TheVariants as role
use Rattle.run_debts.proofs.Given.FollowsAlike.{is_calm, AllCalm}
use Rattle.run_blocks.specs.Owes.Beside.{of_block, NoneOfBlock, StaysMade}
use Rattle.run_blocks.specs.Owes.Made.{OwnsSo, own_word, IsItsBlock, HasBlock, NamesBlock, RefinesMade}
use Rattle.run_blocks.proofs.Owes.Roles.{own_of, own_is, IsStoring, StoresNew, StoresOver, DoesSo, Leaves, Makes, GivesUp, Stores, no_block}
use Rattle.run_blocks.proofs.Owes.Quiet.{pair_back, table_back}
use Rattle.run_debts.specs.Given.FinishesMachines.{machine_of}
use Rattle.run_debts.specs.Given.ScenesScene.{Scene}

-- Blocks are as much whose they were.
abbrev pub AreTheirs : Known → Known → Type 0
AreTheirs known known2 = (b : ℕ) → own_of (known2.roles b) ≡ own_of (known.roles b)

module _ {K V : Type 0} (name : ℕ → List ℕ) (m v : Moment K V) (known known2 : Known) (s t : Scene K V) (made : RefinesMade name m known s) (calls : v.calls ≡ m.calls) (under_way : t.calls ≡ s.calls)
    (theirs : AreTheirs known known2) where
  back : (j b : ℕ) → IsItsBlock known2 j b → IsItsBlock known j b
  back j b is = own_is (known.roles b) j (sym (theirs b) ∙ ap own_of is)

  on : (j b : ℕ) → IsItsBlock known j b → IsItsBlock known2 j b
  on j b is = own_is (known2.roles b) j (theirs b ∙ ap own_of is)

  has_still : (j : ℕ) (h : Bool) → HasBlock known j h → HasBlock known2 j h
  has_still j true has = (has.0, on j has.0 has.1)
  has_still j false none = λ b is. none b (back j b is)

  there : (n j : ℕ) (x : UnderWay K V K) → t.calls n j ≡ Some x → s.calls n j ≡ Some x
  there n j x is = sym (ap (λ (f : ℕ → ℕ → Option (UnderWay K V K)). f n j) under_way) ∙ is

  its_call : (j : ℕ) (c : CallThere K V) → call_of (name j) v ≡ Some c → call_of (name j) m ≡ Some c
  its_call j c is = sym (ap (λ (l : List (CallThere K V)). find (λ x. is_same x.caller (name j)) l) calls) ∙ is

  named_still : (n j : ℕ) (x : UnderWay K V K) → t.calls n j ≡ Some x → OwnsSo (machine_of x) × NamesBlock known2 j (own_word (machine_of x))
  named_still n j x is = let before = made.named n j x (there n j x is) in (before.0, λ b its_block. before.1 b (back j b its_block))

  whose_still : (j b : ℕ) → IsItsBlock known2 j b → (n : ℕ) × (x : UnderWay K V K) × (t.calls n j ≡ Some x)
  whose_still j b is =
      let before = made.whose j b (back j b is) in (before.0, before.1, ap (λ (f : ℕ → ℕ → Option (UnderWay K V K)). f before.0 j) under_way ∙ before.2)

  pub made_still : RefinesMade name v known2 t
  made_still = record {
    has = λ n j x is c c_is. has_still j c.has_block (made.has n j x (there n j x is) c (its_call j c c_is));
    named = named_still;
    whose = whose_still;
  }

pub stays_made : (K V : Type 0) → StaysMade K V
stays_made K V name m v known s t made calls under_way = made_still name m v known known s t made calls under_way (λ b. refl)

-- effects that store no pair

abbrev is_stored : Effect → Bool
is_stored (effect.Stored n s) = true
is_stored _ = false

abbrev pub NoneStored : List Effect → Type 0
NoneStored [] = Unit {0}
NoneStored (f ∷ fs) = (is_stored f ≡ false) × NoneStored fs

pub not_storing : (effects : List Effect) → IsStoring effects → NoneStored effects → ⊥
not_storing _ (StoresNew n s) none = (let no = none.0 in cc no)
not_storing _ (StoresOver p n s) none = (let no = none.1.0 in cc no)

none_is : (f : Effect) → of_block f ≡ false → is_stored f ≡ false
none_is (effect.Stored n s) e = absurd (cc e)
none_is _ e = refl

pub none_of : (effects : List Effect) → NoneOfBlock effects → NoneStored effects
none_of [] none = tt
none_of (f ∷ fs) none = (none_is f none.0, none_of fs none.1)

calm_is : (f : Effect) → is_calm f ≡ true → is_stored f ≡ false
calm_is (effect.Stored n s) e = absurd (cc e)
calm_is _ e = refl

pub calm_none : (effects : List Effect) → AllCalm effects → NoneStored effects
calm_none [] calm = tt
calm_none (f ∷ fs) calm = (calm_is f calm.0, calm_none fs calm.1)

pub taken_none : (its : Acting) (r : Role) → NoneStored (taken_by its r)
taken_none its role.Free = tt
taken_none its (role.OwnPair j) = (refl, tt)
taken_none its (role.OwnTable turn shape) = (refl, tt)
taken_none its (role.Pair n) = (none_is _ (pair_back of_block no_block its n), tt)
taken_none its (role.Table t len) = (none_is _ (table_back of_block no_block its t), tt)
taken_none its (role.Counter of) = tt

-- What is made, taken and stored is none for a pair: blocks are whose they were, and the effects say nothing of such a block.
module _ (its : Acting) (known : Known) where
  abbrev pub LeavesAlone : Changed → Type 0
  LeavesAlone told = AreTheirs known (known_after its told known) × NoneOfBlock (effects_of its known told)

  pub left_alone : (told : Changed) → DoesSo its known told → ((b : ℕ) → told ≡ changed.Made kind.Pair b → ⊥) → ((b j : ℕ) → told ≡ changed.Took b → known.roles b ≡ role.OwnPair j → ⊥)
      → (IsStoring (effects_of its known told) → ⊥) → LeavesAlone told
  left_alone told (Leaves same none) unmade untaken unstored = (same, none)
  left_alone told (Makes b e free) unmade untaken unstored = absurd (unmade b e)
  left_alone told (GivesUp b j e was) unmade untaken unstored = absurd (untaken b j e was)
  left_alone told (Stores b j was is others storing) unmade untaken unstored = absurd (unstored storing)

-- which block a plan takes with its next operation
module _ {K V : Type 0} where
  abbrev TakesThat : Op (Node K V) → ℕ → Type 0
  TakesThat (Take b) x = b ≡ x
  TakesThat _ x = ⊥

  abbrev pub TakesIn : {R : Type 0} → Plan (Node K V) R → ℕ → Type 0
  TakesIn (Turn rest) x = ⊥
  TakesIn (Do op rest) x = TakesThat op x

  pub takes_within : {A B : Type 0} (f : A → B) (plan : Plan (Node K V) A) (x : ℕ) → TakesIn (plan_as f plan) x → TakesIn plan x
  takes_within f (Turn rest) x takes = takes
  takes_within f (Do op rest) x takes = takes

  op_took : (m : Mem (Node K V)) (op : Op (Node K V)) (out : Out (Node K V)) (x : ℕ) → observed_of op out (seen_of m op out) ≡ changed.Took x → TakesThat op x
  op_took m (Load at) out x e = absurd (cc e)
  op_took m (Store at word) out x e = absurd (cc e)
  op_took m (Swap at word) (Found before) x e = absurd (cc e)
  op_took m (Swap at word) _ x e = absurd (cc e)
  op_took m (Add at by) (Found before) x e = absurd (cc e)
  op_took m (Add at by) _ x e = absurd (cc e)
  op_took m (Or at bits) (Found before) x e = absurd (cc e)
  op_took m (Or at bits) _ x e = absurd (cc e)
  op_took m (Exchange at before word) (Exchanged (Ok found)) x e = absurd (cc e)
  op_took m (Exchange at before word) _ x e = absurd (cc e)
  op_took m (Make value words) (Made (Ok b)) x e = absurd (cc e)
  op_took m (Make value words) (Made (Err back)) x e = absurd (cc e)
  op_took m (Make value words) _ x e = absurd (cc e)
  op_took m (Take b) out x e = let same : b ≡ x = cc e in same
  op_took m (Rewrite b value) out x e = absurd (cc e)
  op_took m (Room bucket) (Roomed roomed) x e = absurd (cc e)
  op_took m (Room bucket) _ x e = absurd (cc e)

  pub plan_took : {R : Type 0} (m m2 : Mem (Node K V)) (told : Changed) (plan : Plan (Node K V) R) (end : R) → StepsObserved K V R m changed.Nothing plan m2 told end → (x : ℕ) → told ≡ changed.Took x → TakesIn plan x
  plan_took m m2 told (Turn rest) end steps x is = absurd (let nothing = steps.2 in cc (nothing, is))
  plan_took m m2 told (Do op rest) end steps x is = op_took m op steps.0 x (sym steps.1.1 ∙ is)

-- Of the effects of a step that makes a block, or is refused one, the one that asks for it finds what it must, if the call may ask; of the others nothing is left.
use Rattle.std.specs.Prelude.{◌≡◌, ℕ, Bool, false, List, [], ◌∷◌, Option, Some}
use Rattle.std.proofs.Common.{refl, sym, subst}
use Rattle.run_executor.specs.Given.SeizeWordsMem.{Mem}
use Rattle.run_executor.specs.Given.SeizeWordsPlan.{Plan}
use Rattle.run_blocks.specs.Given.TablesDeclared.node.Node.{Node}
use Rattle.run_blocks.specs.Given.ResizeDeclared.new_table.NewTable.{NewTable}
use Rattle.run_executor.specs.Given.RawDeclared.machines.progress.Progress.{Progress}
use Rattle.run_executor.specs.Given.RunsDeclared.effect.Effect.{Effect}
use Rattle.run_executor.specs.Given.RunsDeclared.effect.Effect.TheVariants as effect
use Rattle.run_executor.specs.Given.RunsDeclared.effect.Growth.TheVariants.{ABlock, ABucket}
use Rattle.run_executor.specs.Given.SchedulesEffects.{call_by, with_effect}
use Rattle.run_executor.specs.Given.SchedulesEntry.{ByCall}
use Rattle.run_executor.specs.Given.SchedulesGrowing.{MayGrow}
use Rattle.run_executor.specs.Given.SchedulesMoment.{UnderWay as CallThere, Moment}
use Rattle.run_executor.specs.Given.SchedulesTerms.{Terms}
use Rattle.run_executor.specs.Given.SchedulesViews.{call_of}
use Rattle.run_executor.specs.Given.TellerTells.{StepsObserved}
use Rattle.run_executor.specs.Given.EffectsDeclared.changed.Changed.{Changed}
use Rattle.run_executor.specs.Given.EffectsDeclared.changed.Changed.TheVariants as changed
use Rattle.run_executor.specs.Given.EffectsDeclared.changed.Kind.{Kind}
use Rattle.run_executor.specs.Given.EffectsDeclared.changed.Kind.TheVariants as kind
use Rattle.run_executor.specs.Given.CallersTogether.{UnderWay}
use Rattle.run_executor.specs.Given.EffectsEffects.{table_at, effects_of}
use Rattle.run_executor.specs.Given.EffectsKnown.{Known}
use Rattle.run_executor.specs.Given.EffectsDeclared.acting.Acting.{Acting}
use Rattle.run_executor.specs.Given.EffectsDeclared.acting.Acting.TheVariants as acts
use Rattle.run_executor.specs.Given.FinishesMachines.{machine_of}
use Rattle.run_executor.proofs.Given.FollowsSteps.{WentTo, went_to}
use Rattle.run_executor.specs.Given.MomentsWhole.{RefinesWhole}
use Rattle.run_blocks.proofs.Owes.Fields.{its_effect}
use Rattle.run_blocks.proofs.Owes.Short.Effects.{of_growth, NoneOfGrowth, none_asked}
use Rattle.run_blocks.proofs.Owes.Tables.Held.{call_unmade}
use Rattle.run_blocks.proofs.Owes.Tables.Kinds.{no_room}
use Rattle.run_blocks.proofs.Owes.Walks.{IsToMake, PlanMakes, plan_made, plan_unmade_so}
use Rattle.run_finds.specs.Growing.{FindsAsked, FindAsked}
use Rattle.run_executor.specs.Given.ScenesHeld.{Held, IsAt}
use Rattle.run_executor.specs.Given.ScenesScene.{Scene}
use Rattle.run_executor.specs.Given.ScenesStepping.{StepLeads}

-- of a call that may ask for a block
module _ {K V : Type 0} (terms : Terms) (moments : List (Moment K V)) (own : List ℕ) (map : ℕ) where
  abbrev Finds : List Effect → Moment K V → Type 0
  Finds effects m = FindAsked terms moments own map effects m

  finds_by : (f : Effect) (m : Moment K V) (c : CallThere K V) → call_of own m ≡ Some c → FindsAsked terms moments m f c → ByCall (FindsAsked terms moments m f) (call_of own m)
  finds_by f m c is finds = subst (ByCall (FindsAsked terms moments m f)) (sym is) finds

  quiet_finds : (f : Effect) (m : Moment K V) (c : CallThere K V) → of_growth f ≡ false → FindsAsked terms moments m f c
  quiet_finds (effect.Asked ABlock) m c e = absurd (cc e)
  quiet_finds (effect.Asked ABucket) m c e = tt
  quiet_finds _ m c e = tt

  none_finds : (effects : List Effect) (m : Moment K V) (c : CallThere K V) → call_of own m ≡ Some c → NoneOfGrowth effects → Finds effects m
  none_finds [] m c is none = tt
  none_finds (f ∷ fs) m c is none = (
    finds_by f m c is (quiet_finds f m c none.0),
    none_finds fs (with_effect (Some own) (Some map) f m) (call_by m f c) (its_effect own map f m c is) none.1,
  )

  asked_finds : (m : Moment K V) (c : CallThere K V) → call_of own m ≡ Some c → MayGrow terms c.call c (m ∷ moments) → Finds (effect.Asked ABlock ∷ []) m
  asked_finds m c is grows = (finds_by (effect.Asked ABlock) m c is grows, tt)

  -- and what is made of it
  made_finds : (f : Effect) → ((n : Moment K V) (d : CallThere K V) → FindsAsked terms moments n f d) → (m : Moment K V) (c : CallThere K V) → call_of own m ≡ Some c → MayGrow terms c.call c (m ∷ moments)
      → Finds (effect.Asked ABlock ∷ f ∷ []) m
  made_finds f finds m c is grows = (
    finds_by (effect.Asked ABlock) m c is grows,
    (
      finds_by f (with_effect (Some own) (Some map) (effect.Asked ABlock) m) (call_by m (effect.Asked ABlock) c) (its_effect own map (effect.Asked ABlock) m c is)
          (finds (with_effect (Some own) (Some map) (effect.Asked ABlock) m) (call_by m (effect.Asked ABlock) c)),
      tt,
    ),
  )

-- something was made, or asked for
abbrev pub Asks : Changed → Type 0
Asks (changed.Made k b) = Unit {0}
Asks (changed.Unmade k) = Unit {0}
Asks _ = ⊥

pub asks_some : (x : Changed) → Asks x → x ≡ changed.Nothing → ⊥
asks_some (changed.Made k b) asks e = cc e
asks_some (changed.Unmade k) asks e = cc e
asks_some changed.Nothing asks e = asks
asks_some (changed.Wrote at before after) asks e = asks
asks_some (changed.Took b) asks e = asks
asks_some (changed.Roomed bucket had) asks e = asks

-- the table that a step was to make is that of the making
pub made_of : {K V R : Type 0} (o : Option NewTable) (m m2 : Mem (Node K V)) (told : Changed) (plan : Plan (Node K V) R) (end : R) → StepsObserved K V R m changed.Nothing plan m2 told end → PlanMakes o plan → Asks told
    → (n : NewTable) × (o ≡ Some n)
made_of o m m2 told plan end steps so asks = by told refl asks
  where
    by : (y : Changed) → told ≡ y → Asks y → (n : NewTable) × (o ≡ Some n)
    by (changed.Made k b) told_is asked = let its = plan_made o m m2 told plan end steps so k b told_is in (its.1.0, its.1.2)
    by (changed.Unmade k) told_is asked = let its = plan_unmade_so (IsToMake o) m m2 told plan end steps so k told_is in (its.1.0, its.1.2)
    by changed.Nothing told_is asked = absurd asked
    by (changed.Wrote at before after) told_is asked = absurd asked
    by (changed.Took b) told_is asked = absurd asked
    by (changed.Roomed bucket had) told_is asked = absurd asked

module _ {K V : Type 0} (same : K → K → Bool) (hash : ℕ → K → ℕ) (name : ℕ → List ℕ) (m : Moment K V) (known : Known) (s : Scene K V) (old new : Held K V) (at : IsAt same hash old s)
    (whole : RefinesWhole same name m known s) (map i : ℕ) (u : UnderWay K V K) (here : s.calls map i ≡ Some u) (said : Progress (Node K V)) (leads : StepLeads same hash i said s old new) where
  abbrev to : WentTo same hash name m known s old new at whole.all.shown map i u here said leads
  to = went_to same hash name m known s old new at whole.all.shown map i u here said leads

  abbrev told : Changed
  told = new.changed

  abbrev its : Acting
  its = acts.Call i map

  module _ (terms : Terms) (moments : List (Moment K V)) (c : CallThere K V) (c_is : call_of (name i) m ≡ Some c) (grows : Asks new.changed → MayGrow terms c.call c (m ∷ moments)) where
    abbrev FindsSo : Changed → Type 0
    FindsSo y = FindAsked terms moments (name i) map (effects_of its known y) m

    grows_by : (y : Changed) → told ≡ y → Asks y → MayGrow terms c.call c (m ∷ moments)
    grows_by y told_is asks = grows (subst Asks (sym told_is) asks)

    made_find : (k : Kind) (b : ℕ) → told ≡ changed.Made k b → FindsSo (changed.Made k b)
    made_find kind.Pair b told_is = made_finds terms moments (name i) map effect.PairMade (λ n d. tt) m c c_is (grows_by (changed.Made kind.Pair b) told_is tt)
    made_find (kind.Table len limit turn) b told_is =
        made_finds terms moments (name i) map (effect.TableMade (table_at its turn)) (λ n d. tt) m c c_is (grows_by (changed.Made (kind.Table len limit turn) b) told_is tt)
    made_find kind.Shards b told_is = asked_finds terms moments (name i) map m c c_is (grows_by (changed.Made kind.Shards b) told_is tt)

    find_by : (y : Changed) → told ≡ y → FindsSo y
    find_by changed.Nothing told_is = tt
    find_by (changed.Wrote place before after) told_is =
        none_finds terms moments (name i) map (effects_of its known (changed.Wrote place before after)) m c c_is (none_asked its known (changed.Wrote place before after) tt)
    find_by (changed.Took b) told_is = none_finds terms moments (name i) map (effects_of its known (changed.Took b)) m c c_is (none_asked its known (changed.Took b) tt)
    find_by (changed.Made k b) told_is = made_find k b told_is
    find_by (changed.Unmade k) told_is = asked_finds terms moments (name i) map m c c_is (grows_by (changed.Unmade k) told_is tt)
    find_by (changed.Roomed bucket had) told_is = absurd (
        no_room same same to.0.hash old.memory new.memory told to.1 said (machine_of u) (call_unmade same hash name m known s old at whole.all.shown map i u here) to.3 bucket had
        told_is
        )

    pub may_ask : FindAsked terms moments (name i) map (effects_of (acts.Call i map) known new.changed) m
    may_ask = find_by told refl

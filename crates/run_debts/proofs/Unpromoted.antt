-- A step makes no table the root but by the exchange that promotes one: each other step writes no root that names a table.
use Rattle.std.specs.Prelude.{◌≡◌, ℕ, Bool, true, false, Ok, Err, List, [], ◌∷◌}
use Rattle.std.proofs.Common.{refl, ap, sym, subst, ◌∙◌, inl, inr}
use Rattle.run_places.specs.Given.SeizeWordsMem.{Mem, Took}
use Rattle.run_places.specs.Given.SeizeWordsOp.{Op, Out, Load, Store, Swap, Add, Or, Exchange, Make, Take, Rewrite, Room, Found, Exchanged, Made, Roomed}
use Rattle.run_places.specs.Given.SeizeWordsPlan.{Plan, Turn, Do}
use Rattle.run_places.specs.Given.SeizeWordsWord.{block_in}
use Rattle.run_places.specs.Given.SeizeWordsDeclared.at.At.{At}
use Rattle.run_places.specs.Given.SeizeWordsDeclared.at.At.TheVariants.{Root}
use Rattle.run_places.specs.Given.TablesDeclared.node.Node.{Node}
use Rattle.run_places.specs.Given.RunsDeclared.effect.Effect.{Effect}
use Rattle.run_places.specs.Given.RunsDeclared.effect.Effect.TheVariants as effect
use Rattle.run_places.specs.Given.TellerTells.{StepsObserved, observed_of}
use Rattle.run_places.specs.Given.EffectsDeclared.changed.Changed.{Changed}
use Rattle.run_places.specs.Given.EffectsDeclared.changed.Changed.TheVariants as changed
use Rattle.run_places.specs.Given.TellsSeen.{seen_of}
use Rattle.run_places.specs.Given.EffectsEffects.{led_to, named, effects_of}
use Rattle.run_places.specs.Given.EffectsKnown.{Known}
use Rattle.run_places.specs.Given.EffectsDeclared.acting.Acting.{Acting}
use Rattle.run_places.specs.Given.EffectsDeclared.acting.Acting.TheVariants as acts
use Rattle.run_places.specs.Given.EffectsDeclared.role.Role.{Role}
use Rattle.run_places.specs.Given.EffectsDeclared.role.Role.TheVariants as role
use Rattle.run_places.proofs.Given.RuleWorld.RootSpared.{IsNoRoot, SparesRoot, PlanSparesRoot}
use Rattle.run_places.proofs.Given.FollowsOfEach.{OfEach, taken_so, operation_so}

-- the effect makes a table the root
abbrev pub is_promotion : Effect → Bool
is_promotion (effect.Promoted t) = true
is_promotion _ = false

-- none does
abbrev pub NonePromotes : List Effect → Type 0
NonePromotes [] = Unit {0}
NonePromotes (f ∷ fs) = (is_promotion f ≡ false) × NonePromotes fs

-- a root that is written named nothing
abbrev pub WritesNoRoot : Changed → Type 0
WritesNoRoot told = (r old new : ℕ) → told ≡ changed.Wrote (Root r) old new → old ≡ 0

module _ {K V : Type 0} (m m2 : Mem (Node K V)) where
  wrote_other : (at : At) (x y r old new : ℕ) → IsNoRoot at → changed.Wrote at x y ≡ changed.Wrote (Root r) old new → old ≡ 0
  wrote_other at x y r old new other e = absurd (let same : at ≡ Root r = cc e in subst IsNoRoot same other)

  spared_op : (op : Op (Node K V)) (out : Out (Node K V)) → SparesRoot op → Took m op out m2 → WritesNoRoot (observed_of op out (seen_of m op out))
  spared_op (Load at) out spares took r old new e = absurd (cc e)
  spared_op (Store at word) out spares took r old new e = wrote_other at _ _ r old new spares e
  spared_op (Swap at word) (Found before) spares took r old new e = wrote_other at _ _ r old new spares e
  spared_op (Swap at word) _ spares took r old new e = absurd (cc e)
  spared_op (Add at by) (Found before) spares took r old new e = wrote_other at _ _ r old new spares e
  spared_op (Add at by) _ spares took r old new e = absurd (cc e)
  spared_op (Or at bits) (Found before) spares took r old new e = wrote_other at _ _ r old new spares e
  spared_op (Or at bits) _ spares took r old new e = absurd (cc e)
  spared_op (Exchange at before word) (Exchanged (Ok found)) spares took r old new e = elim spares as (λ _. old ≡ 0) [
    | inl other ↦ wrote_other at _ _ r old new other e
    | inr none ↦ (let same : found ≡ old = cc e in sym same ∙ took.0.1 ∙ none)
  ]
  spared_op (Exchange at before word) (Exchanged (Err found)) spares took r old new e = absurd (cc e)
  spared_op (Exchange at before word) _ spares took r old new e = absurd (cc e)
  spared_op (Make value words) (Made (Ok b)) spares took r old new e = absurd (cc e)
  spared_op (Make value words) (Made (Err back)) spares took r old new e = absurd (cc e)
  spared_op (Make value words) _ spares took r old new e = absurd (cc e)
  spared_op (Take x) out spares took r old new e = absurd (cc e)
  spared_op (Rewrite x value) out spares took r old new e = absurd (cc e)
  spared_op (Room bucket) (Roomed result) spares took r old new e = absurd (cc e)
  spared_op (Room bucket) _ spares took r old new e = absurd (cc e)

  pub spared_tells : {R : Type 0} (told : Changed) (plan : Plan (Node K V) R) (end : R) → PlanSparesRoot plan → StepsObserved K V R m changed.Nothing plan m2 told end → WritesNoRoot told
  spared_tells told (Turn rest) end spares steps r old new e = absurd (let nothing = steps.2 in cc (nothing, e))
  spared_tells told (Do op rest) end spares steps r old new e = spared_op op steps.0 spares steps.1.0 r old new (sym steps.1.1 ∙ e)

module _ (caller map : ℕ) (known : Known) (free : known.roles 0 ≡ role.Free) where
  abbrev its : Acting
  its = acts.Call caller map

  each_none : OfEach its known NonePromotes
  each_none = record {
    nothing = tt;
    linked = λ turn shape. (refl, tt);
    deferred = λ n t. (refl, tt);
    stored = λ s. (refl, tt);
    replaced = λ old s. (refl, (refl, tt));
    removed = λ n. (refl, tt);
    copied = λ n s. (refl, tt);
    retired = λ x. (refl, tt);
    asked = (refl, tt);
    pair_made = (refl, (refl, tt));
    table_made = λ turn. (refl, (refl, tt));
    pair_given_up = (refl, tt);
    table_given_up = λ turn. (refl, tt);
  }

  led_none : (is : Role) → NonePromotes (led_to its role.Free is)
  led_none (role.OwnTable turn shape) = (refl, tt)
  led_none _ = tt

  -- so its effects make none the root
  pub none_promotes : (told : Changed) → WritesNoRoot told → NonePromotes (effects_of its known told)
  none_promotes told no_root =
      operation_so its known NonePromotes each_none told
      (λ r old new e.
      let was : known.roles (block_in old) ≡ role.Free = ap (λ (x : ℕ). known.roles (block_in x)) (no_root r old new e) ∙ free in
      subst (λ (x : Role). NonePromotes (led_to its x (named known new))) (sym was) (led_none (named known new)))
      (λ b field old new of e is. (refl, tt)) (λ b e of_map. taken_so its known NonePromotes each_none (λ n. (refl, tt)) (λ t. (refl, tt)) (known.roles b) of_map) (λ bucket had e. (refl, tt))

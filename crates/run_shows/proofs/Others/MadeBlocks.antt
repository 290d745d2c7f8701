-- A block that the making of a map has made is what it is told as, and was none that lasts.
use Rattle.std.specs.Prelude.{◌≡◌, ℕ, zero, suc, List, ◌∷◌, Some, None, if◌then◌else◌}
use Rattle.std.proofs.Common.{refl, ap, sym, subst, arith}
use Rattle.std.proofs.lemmas.Bool.{ne_eqb}
use Rattle.seize_words.specs.OneMemory.Mem.{value_at}
use Rattle.seize.specs.World.{World}
use Rattle.run_effects.specs.Given.TablesDeclared.node.Node.{Node}
use Rattle.run_effects.specs.Given.TablesDeclared.node.Node.TheVariants as node
use Rattle.run_effects.specs.Given.RunsDeclared.effect.Effect.TheVariants.{Asked}
use Rattle.run_effects.specs.Given.RunsDeclared.effect.Growth.TheVariants.{ABlock}
use Rattle.run_effects.specs.ReportingMemory.Changed.{kind_of}
use Rattle.run_effects.specs.declared.changed.Kind.{Kind}
use Rattle.run_effects.specs.declared.changed.Kind.TheVariants as kind
use Rattle.run_effects.specs.Effects.Effects.{made_by, made_role}
use Rattle.run_effects.specs.declared.acting.Acting.{Acting}
use Rattle.run_effects.specs.declared.role.Role.{Role}
use Rattle.run_effects.specs.declared.role.Role.TheVariants as role
use Rattle.run_shows.specs.Follows.Blocks.{HasRole}
use Rattle.run_shows.proofs.Follows.Alike.{AllStill}
use Rattle.run_shows.proofs.Follows.Onward.{IsLasting}

-- a new block is no pair that was stored, and makes none
pub not_pair : (its : Acting) (k : Kind) (n : ℕ) → made_role its k ≡ role.Pair n → ⊥
not_pair its kind.Pair n e = cc e
not_pair its (kind.Table len limit turn) n e = cc e
not_pair its kind.Shards n e = cc e

pub still_made : (its : Acting) (k : Kind) → AllStill (Asked ABlock ∷ made_by its k)
still_made its kind.Pair = (refl, (refl, tt))
still_made its (kind.Table len limit turn) = (refl, (refl, tt))
still_made its kind.Shards = (refl, tt)

module _ {K V : Type 0} (w : World (Node K V)) (stored : List (K × V)) where
  -- it is what it is told as
  pub made_has : (its : Acting) (b : ℕ) (value : Node K V) → value_at w.memory b ≡ Some value → HasRole w stored b (made_role its (kind_of value))
  made_has its b (node.Pair k v) is = (node.Pair k v, is, refl)
  made_has its b (node.Table zero limit turn) is = (node.Table zero limit turn, is, refl)
  made_has its b (node.Table (suc len) limit turn) is =
      subst (λ (k : Kind). HasRole w stored b (made_role its k)) (sym (ap (λ q. if q then kind.Pair else kind.Table (suc len) limit turn) (ne_eqb (suc len) 0 (λ e. omega (arith, e)))))
      (λ e. omega (arith, e), is)
  made_has its b node.Shards is = is

  -- what was linked, or is a counter, is there
  pub lasting_there : (b : ℕ) (r : Role) → HasRole w stored b r → IsLasting r → value_at w.memory b ≡ None → ⊥
  lasting_there b role.Free has last none = last
  lasting_there b (role.OwnPair caller) has last none = last
  lasting_there b (role.OwnTable turn shape) has last none = last
  lasting_there b (role.Pair n) has last none = (let there = has.3 in cc (there, none))
  lasting_there b (role.Table t len) has last none = (let there = has.1 in cc (there, none))
  lasting_there b (role.Counter map) has last none = cc (has, none)

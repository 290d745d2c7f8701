-- What the one operation of a step has changed is told of it.
use Rattle.std.proofs.Common.{◌≡◌, refl, ap, subst}
use Rattle.std.specs.Prelude.{Option, Some}
use Rattle.std.specs.Option.{option_map_or}
use Rattle.run_shows.specs.Given.SeizeWordsMem.{Mem, after, value_at}
use Rattle.run_shows.specs.Given.SeizeWordsPlan.{Plan, Turn, Do}
use Rattle.seize_acts.specs.Acts.Answers.{Grant, answer, ends, stepped, then_on}
use Rattle.seize_acts.proofs.Acts.Answers.{answer_gives, ended, some}
use Rattle.run_shows.specs.Given.TablesDeclared.node.Node.{Node}
use Rattle.run_shows.specs.Given.TellerTells.{StepsObserved}
use Rattle.run_shows.specs.Given.EffectsDeclared.changed.Changed.TheVariants.{Nothing as NoChange}
use Rattle.many_acts.specs.Acts.AsSteps.{changed_as, changed_of}
use Rattle.run_shows.proofs.Given.General.{same_some}

module _ {K V R : Type 0} (m : Mem (Node K V)) (g : Grant) where
  pub was_told : (plan : Plan (Node K V) R) (p : Mem (Node K V) × R) → stepped m g plan ≡ Some p → StepsObserved K V R m NoChange plan p.0 (changed_of m g plan) p.1
  was_told (Turn rest) p e =
      let s = some (ends (value_at m) rest) (λ x. Some (m, x)) p e in
      subst (λ (q : Mem (Node K V) × R). StepsObserved K V R m NoChange (Turn rest) q.0 NoChange q.1) (same_some (m, s.0) p s.2) (refl, ended (value_at m) rest s.0 s.1, refl)
  was_told (Do op rest) p e =
      let s = some (answer m g op) (λ out. then_on (ends (value_at (after m op out)) (rest out)) (λ x. Some (after m op out, x))) p e in
      let t = some (ends (value_at (after m op s.0)) (rest s.0)) (λ x. Some (after m op s.0, x)) p s.2 in
      subst (λ (q : Mem (Node K V) × R). StepsObserved K V R m NoChange (Do op rest) q.0 (changed_as m op (answer m g op)) q.1) (same_some (after m op s.0, t.0) p t.2)
      (s.0, ((answer_gives m g op s.0 s.1, refl), ap (changed_as m op) s.1), ended (value_at (after m op s.0)) (rest s.0) t.0 t.1)

-- of what is there
pub of_some : {X Y : Type 0} (f : X → Y) (none : Y) (o : Option X) (x : X) → o ≡ Some x → option_map_or f o none ≡ f x
of_some f none o x is = ap (λ (it : Option _). option_map_or f it none) is

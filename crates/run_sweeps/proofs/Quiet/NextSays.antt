-- What a step of a walk says that was asked for its next pair: it goes on to the next place, shows a pair, or has shown all; and it changes nothing.
use Rattle.std.specs.Prelude.{◌≡◌, ◌<◌, ◌≤◌, ◌^◌, ◌==◌, ◌&&◌, ℕ, nat_lt, Bool, true, false, if◌then◌else◌}
use Rattle.std.proofs.Common.{refl, sym, ap, subst, arith}
use Rattle.run_schedules.specs.Given.SeizeWordsMem.{Mem, Gives, value_at}
use Rattle.run_schedules.specs.Given.SeizeWordsOp.{Out, Load, Found, Stored, Exchanged, Made, Taken, Roomed}
use Rattle.run_schedules.specs.Given.SeizeWordsPlan.{Ends, plan_as, then_as}
use Rattle.run_schedules.specs.Given.SeizeWordsWord.{block_in}
use Rattle.papaya_raw.specs.Given.TablesMarks.{has_mark}
use Rattle.papaya_raw.specs.Given.TablesTablePlaces.{at_place}
use Rattle.papaya_raw.specs.Given.TablesDeclared.marks.TheConstants.{COPYING}
use Rattle.papaya_raw.specs.Given.TablesDeclared.node.Node.{Node}
use Rattle.papaya_raw.specs.Given.SweepsSweep.{plan_at, word_found}
use Rattle.papaya_raw.specs.Given.SweepsSweepPoints.{at_pair, further, past, removes, seen, standing, telling}
use Rattle.papaya_raw.specs.Given.ReservesDeclared.sweep.Purpose.{Purpose}
use Rattle.papaya_raw.specs.Given.ReservesDeclared.sweep.Purpose.TheVariants.{Walks}
use Rattle.papaya_raw.specs.Given.ReservesDeclared.sweep.Sweep.{Sweep}
use Rattle.papaya_raw.specs.Given.ReservesDeclared.sweep.Sweeping.{Sweeping}
use Rattle.papaya_raw.specs.Given.ReservesDeclared.sweep.Sweeping.TheVariants as at
use Rattle.papaya_raw.specs.Machine.{swept}
use Rattle.papaya_raw.specs.declared.machines.machine.Machine.{Machine}
use Rattle.papaya_raw.specs.declared.machines.machine.Machine.TheVariants as kinds
use Rattle.papaya_raw.specs.declared.machines.progress.Answer.TheVariants as answers
use Rattle.papaya_raw.specs.declared.machines.progress.Progress.{Progress}
use Rattle.papaya_raw.specs.declared.machines.progress.Progress.TheVariants as progress
use Rattle.run_finds.specs.Given.TellerTells.{StepsObserved}
use Rattle.run_finds.specs.Given.EffectsDeclared.changed.Changed.TheVariants.{Nothing}
use Rattle.run_finds.specs.Given.ScenesHeld.{Held}
use Rattle.run_finds.specs.Given.ScenesStepping.{StepsFrom}

module _ {K V : Type 0} where
  abbrev pub NextSays : Sweep → Progress (Node K V) → Sweep → Type 0
  NextSays q progress.Goes next = (next.stands ≡ at.Words) × (q.place < next.place)
  NextSays q (progress.Pair word) next = next.stands ≡ at.Ready
  NextSays q (progress.Done answers.Swept) next = Unit {0}
  NextSays q _ next = ⊥

  abbrev pub IsNextSaying : Sweep → Machine K V K × Progress (Node K V) → Type 0
  IsNextSaying q (kinds.Sweep next, said) = (next.purpose ≡ q.purpose) × NextSays q said next
  IsNextSaying q (_, said) = ⊥

module _ (K V : Type 0) (q : Sweep) (walks : q.purpose ≡ Walks) where
  abbrev So : Machine K V K × Progress (Node K V) → Type 0
  So end = IsNextSaying q end

  keeps_all : (b : Bool) → (removes q.purpose && b) ≡ false
  keeps_all b = ap (λ (x : Purpose). removes x && b) walks

  -- at a place of its table
  module _ (place : q.place < q.table.len) (fits : q.table.len ≤ 2 ^ 48) where
    further_so : So (swept (telling (further q)))
    further_so = by (nat_lt (past q).place q.table.len) (removes q.purpose && q.met) (keeps_all q.met)
      where
        by : (b c : Bool) → c ≡ false → So (swept (telling (standing (past q) (if b then at.Words else (if c then at.Follows else at.Over)))))
        by true c fails = (refl, (refl, omega (arith, place, fits)))
        by false true fails = absurd (cc fails)
        by false false fails = (refl, tt)

    seen_so : (word : ℕ) → So (swept (seen q word))
    seen_so word = by (removes q.purpose && has_mark word COPYING) (block_in word == 0) q.purpose (keeps_all (has_mark word COPYING)) walks
      where
        by : (a z : Bool) (x : Purpose) → a ≡ false → x ≡ Walks → So (swept (if a then telling (further (record q { met = true })) else (if z then telling (further q) else at_pair x q word)))
        by true z x fails is = absurd (cc fails)
        by false true x fails is = further_so
        by false false x fails is = subst (λ (y : Purpose). So (swept (at_pair y q word))) (sym is) (refl, refl)

    found_so : (m n : Mem (Node K V)) (out : Out (Node K V)) (end : Machine K V K × Progress (Node K V)) → Gives m (Load (at_place q.table q.place)) out
        → Ends (value_at n) (then_as swept (word_found q out)) end → So end
    found_so m n (Found word) end gives ends = subst So (sym ends) (seen_so word)
    found_so m n Stored end gives ends = absurd gives
    found_so m n (Exchanged r) end gives ends = absurd gives
    found_so m n (Made r) end gives ends = absurd gives
    found_so m n (Taken value) end gives ends = absurd gives
    found_so m n (Roomed r) end gives ends = absurd gives

module _ {K V : Type 0} (same : K → K → Bool) (hash : K → ℕ) (old new : Held K V) (q : Sweep) (walks : q.purpose ≡ Walks) (machine : Machine K V K) (said : Progress (Node K V))
    (steps : StepsFrom same hash (kinds.Sweep q) old new machine said) where
  abbrev At : Sweeping → Type 0
  At stands = StepsObserved K V (Machine K V K × Progress (Node K V)) old.memory Nothing (plan_as swept (plan_at hash q stands)) new.memory new.changed (machine, said)

  pub words_say : q.stands ≡ at.Words → q.place < q.table.len → q.table.len ≤ 2 ^ 48 → IsNextSaying q (machine, said)
  words_say is place fits = let s = subst At is steps in found_so K V q walks place fits old.memory new.memory s.0 (machine, said) s.1.0.0 s.2

  pub over_says : q.stands ≡ at.Over → IsNextSaying q (machine, said)
  over_says is = let s = subst At is steps in subst (λ (end : Machine K V K × Progress (Node K V)). IsNextSaying q end) (sym s.1) (refl, tt)

  -- and nothing is told of it
  pub words_idle : q.stands ≡ at.Words → new.changed ≡ Nothing
  words_idle is = let s = subst At is steps in s.1.1

  pub over_idle : q.stands ≡ at.Over → new.changed ≡ Nothing
  over_idle is = let s = subst At is steps in s.2

-- A caller that reclaims all may go on to its end: there are steps, and what the memory may choose at each.
use Rattle.std.specs.Prelude.{Option, Some, None, Ok, Err, ◌==◌}
use Rattle.std.specs.Option.{is_none}
use Rattle.std.proofs.Common.{◌≡◌, ℕ, ◌<◌, ◌^◌, Bool, true, false, List, [], ◌∷◌, inl, inr, refl, arith, ap, subst, ◌∙◌}
use Rattle.run_shows.specs.Given.SeizeWordsMem.{Mem, Can, Took, after, value_at, word_at}
use Rattle.run_shows.specs.Given.SeizeWordsOp.{Op, Out, Load, Store, Swap, Add, Or, Exchange, Make, Take, Rewrite, Room, Found, Stored, Exchanged, Made, Taken, Roomed}
use Rattle.run_shows.specs.Given.SeizeWordsPlan.{Plan, Turn, Do, May, Steps}
use Rattle.run_shows.specs.Given.SeizeReclaimAll.{reclaim_all_plan}
use Rattle.run_shows.specs.Given.SeizeDeclared.rows.reclaim_all.ReclaimAll.{ReclaimAll}
use Rattle.run_shows.specs.Given.SeizeDeclared.rows.settle.Settled.{Settled}
use Rattle.run_shows.specs.Given.SeizeDeclared.rows.settle.Settled.TheVariants as settled
use Rattle.seize_acts.specs.Acts.Answers.{Grant, then_on, answer, compared, ends, exchanged, found, stored, taken, stepped}
use Rattle.seize_acts.proofs.Acts.Answers.{was_stepped}
use Rattle.seize_acts.proofs.Acts.Steps.{sees_end}
use Rattle.run_shows.specs.Given.TablesNodes.{deferred_word, was_left}
use Rattle.run_shows.specs.Given.TablesDeclared.node.Node.{Node}
use Rattle.run_shows.specs.Reclaims.Ends.{Terminates, Comes}
use Rattle.run_shows.proofs.Reclaims.Ends.All.{reclaiming_ends}
use Rattle.many_acts.specs.Acts.Reclaiming.{IsReclaimingAll, ReclaimedOn, reclaiming_steps}
use Rattle.many_acts.proofs.Acts.Reclaiming.{reclaiming_is_by_acts}
use Rattle.many_acts.specs.Carries.Lists.{ReclaimsTo, ReclaimingTerminates}
use Rattle.run_shows.specs.Scenes.Scene.{Scene}
use Rattle.run_shows.proofs.Given.General.{some_there}

module _ {T : Type 0} (m : Mem T) where
  abbrev Answered : Op T → Type 0
  Answered op = (g : Grant) × (out : Out T) × (answer m g op ≡ Some out) × Took m op out (after m op out)

  -- an operation that may be made gives some answer
  answered : (op : Op T) → Can m op → Answered op
  answered (Load at) can = let k = some_there (word_at m at) can in (None, Found k.0, ap found k.1, (k.1, refl))
  answered (Store at word) can = let k = some_there (word_at m at) can in (None, Stored, ap stored k.1, (tt, refl))
  answered (Swap at word) can = let k = some_there (word_at m at) can in (None, Found k.0, ap found k.1, (k.1, refl))
  answered (Add at by) can = let k = some_there (word_at m at) can in (None, Found k.0, ap found k.1, (k.1, refl))
  answered (Or at bits) can = let k = some_there (word_at m at) can in (None, Found k.0, ap found k.1, (k.1, refl))
  answered (Exchange at old new) can = let k = some_there (word_at m at) can in by k.0 k.1 (k.0 == old) refl
    where
      by : (w : ℕ) → word_at m at ≡ Some w → (b : Bool) → (w == old) ≡ b → Answered (Exchange at old new)
      by w is true e = (None, Exchanged (Ok w), ap (exchanged old) is ∙ ap (λ (x : Bool). Some (compared w x)) e, ((is, grind (arith, e)), refl))
      by w is false e = (None, Exchanged (Err w), ap (exchanged old) is ∙ ap (λ (x : Bool). Some (compared w x)) e, ((is, grind (arith, e)), refl))
  answered (Make value words) can = (None, Made (Err value), refl, (refl, refl))
  answered (Take b) can = let k = some_there (value_at m b) can in (None, Taken k.0, ap taken k.1, (k.1, refl))
  answered (Rewrite b value) can = let k = some_there (value_at m b) can in (None, Taken k.0, ap taken k.1, (k.1, refl))
  answered (Room bucket) can = (Some 0, Roomed (Ok tt), refl, (tt, refl))

  -- so does a step that may be taken
  pub may_be_stepped : {R : Type 0} (plan : Plan T R) → May Can Took value_at m plan → (g : Grant) × (p : Mem T × R) × (stepped m g plan ≡ Some p)
  may_be_stepped {R} (Turn rest) may =
      let k = sees_end (value_at m) rest may in (None, (m, k.0), ap (λ (o : Option R). then_on o (λ x. Some (m, x))) k.1)
  may_be_stepped {R} (Do op rest) may =
      let a = answered op may.0 in
      let k = sees_end (value_at (after m op a.1)) (rest a.1) (may.1 a.1 (after m op a.1) a.3) in (
        a.0,
        (after m op a.1, k.0),
        ap (λ (o : Option (Out T)). then_on o (λ out. then_on (ends (value_at (after m op out)) (rest out)) (λ x. Some (after m op out, x)))) a.2
            ∙ ap (λ (o : Option R). then_on o (λ x. Some (after m op a.1, x))) k.1,
      )

pub some_is_there : {X : Type 0} (o : Option X) (x : X) → o ≡ Some x → is_none o ≡ false
some_is_there o x e = ap is_none e

module _ {K S : Type 0} (V : Type 0) (same : K → K → Bool) (hash : S → K → ℕ) (batch_size roots : ℕ) (slot : ℕ → ℕ) (i : ℕ) where
  abbrev Ends : Scene K V → (ℕ → List ℕ) → ReclaimAll → Type 0
  Ends s lists c = (grants : List Grant) × (n : Scene K V) × ReclaimsTo V same hash batch_size roots slot i grants s lists c n

  -- by one step more
  one_more : (s : Scene K V) (lists : ℕ → List ℕ) (c : ReclaimAll) (g : Grant) (told : Settled (Node K V)) (v : Scene K V) (lists2 : ℕ → List ℕ) (c2 : ReclaimAll)
      → ReclaimedOn V same batch_size roots slot s i lists c g told v lists2 c2 → ((told ≡ settled.Done → ⊥) → Ends v lists2 c2) → Ends s lists c
  one_more s lists c g settled.Done v lists2 c2 on later = (g ∷ [], v, (settled.Done, v, lists2, c2, on, inl (refl, refl)))
  one_more s lists c g settled.Goes v lists2 c2 on later = let k = later (λ e. cc e) in (g ∷ k.0, k.1, (settled.Goes, v, lists2, c2, on, inr k.2))
  one_more s lists c g settled.Waits v lists2 c2 on later = let k = later (λ e. cc e) in (g ∷ k.0, k.1, (settled.Waits, v, lists2, c2, on, inr k.2))
  one_more s lists c g (settled.Gave value) v lists2 c2 on later = let k = later (λ e. cc e) in (g ∷ k.0, k.1, (settled.Gave value, v, lists2, c2, on, inr k.2))

  -- the next step
  abbrev Next : Scene K V → (ℕ → List ℕ) → ReclaimAll → Type 0
  Next s lists c =
      (g : Grant) × (told : Settled (Node K V)) × (v : Scene K V) × (lists2 : ℕ → List ℕ) × (c2 : ReclaimAll) × ReclaimedOn V same batch_size roots slot s i lists c g told v lists2 c2
      × IsReclaimingAll V same batch_size roots slot v i lists2 c2

  next_step : batch_size < 2 ^ 64 → (s : Scene K V) (lists : ℕ → List ℕ) (c : ReclaimAll) → IsReclaimingAll V same batch_size roots slot s i lists c → Next s lists c
  next_step word s lists c idle =
      let acts = reclaiming_is_by_acts V same batch_size roots slot word s i lists c idle in
      let step = may_be_stepped s.world.memory (reclaim_all_plan deferred_word was_left c) acts.0 in
      let led = acts.2 step.0 (some_is_there (reclaiming_steps s step.0 c) step.1 step.2) in (step.0, led.0, led.1, led.2, led.3, led.4, led.5)

  to_end : batch_size < 2 ^ 64 → (m : Mem (Node K V)) (c : ReclaimAll) → Terminates m c → (s : Scene K V) → s.world.memory ≡ m → (lists : ℕ → List ℕ)
      → IsReclaimingAll V same batch_size roots slot s i lists c → Ends s lists c
  to_end word m c (Comes _ _ more) s at lists idle =
      let k = next_step word s lists c idle in
      one_more s lists c k.0 k.1 k.2 k.3 k.4 k.5
      (λ not_done. to_end word k.5.memory k.4
      (more k.5.memory k.4 k.1 (subst (λ (x : Mem (Node K V)). Steps Took value_at x (reclaim_all_plan deferred_word was_left c) k.5.memory (k.4, k.1)) at
      (was_stepped s.world.memory k.0 (reclaim_all_plan deferred_word was_left c) (k.5.memory, (k.4, k.1)) k.5.computed)) not_done)
      k.2 (ap (λ (x : Scene K V). x.world.memory) k.5.comes ∙ k.5.did.memory) k.3 k.6)

  pub reclaiming_comes_to_end : ReclaimingTerminates V same hash batch_size roots slot i
  reclaiming_comes_to_end word s lists c idle =
      to_end word s.world.memory c (reclaiming_ends V same same batch_size roots slot s.maps s.calls s.makers s.enders s.world i lists c word idle) s refl lists idle

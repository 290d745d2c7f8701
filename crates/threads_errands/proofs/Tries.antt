-- While a disposal tries its slot's batch each step goes on.
use Rattle.std.specs.Prelude.{◌==◌, ◌≡◌, ◌+◌, ◌%◌, ◌^◌, ℕ, nat_lt, Bool, true, false, if◌then◌else◌, Option, Result, Ok, Err}
use Rattle.std.proofs.Common.{refl, sym, subst}
use Rattle.seize_words.specs.OneMemory.Op.{Op, Out, Found, Stored, Exchanged, Made, Taken, Roomed}
use Rattle.seize_words.specs.OneMemory.Plan.{Plan, Then, Turn, Do, Now, Seeing, Sure, Steps, Ends, then_as, plan_as}
use Rattle.seize_words.specs.declared.fault.Fault.{Fault}
use Rattle.seize.specs.Settle as settle
use Rattle.seize.specs.declared.rows.settle.Settle.{Settle}
use Rattle.seize.specs.declared.rows.settle.Settled.{Settled}
use Rattle.seize.specs.declared.rows.settle.Settled.TheVariants.{Goes}
use Rattle.seize.specs.declared.rows.settle.Settling.{Settling}
use Rattle.seize.specs.declared.rows.settle.Settling.TheVariants as at
use Rattle.seize.specs.declared.states.TheConstants.{NEVER, ACTIVE}
use Rattle.seize_straight.specs.Going.{SettleGoes}
use Rattle.map_tables.specs.Nodes.{deferred_word}
use Rattle.map_tables.specs.declared.node.Node.{Node}
use Rattle.map_machines.specs.Dispose.{dispose_plan, plan_at, settled}
use Rattle.map_machines.specs.declared.dispose.Dispose.{Dispose}
use Rattle.map_machines.specs.declared.dispose.Disposing.{Disposing}
use Rattle.map_machines.specs.declared.dispose.Disposing.TheVariants as disposing
use Rattle.threads_errands.specs.Tries.{tries, tries_batch}

-- what is left of a step of a settling
abbrev Rest : Type 0 → Type 0
Rest T = Then T (Settle × Settled T)

module _ {T : Type 0} where
  -- whatever a step comes to, it goes on
  abbrev Goes' : Rest T → Type 0
  Goes' (Now end) = end.1 ≡ Goes
  Goes' (Seeing block rest) = (value : T) → Goes' (rest value)
  Goes' (Sure fact rest) = Goes' rest

  either : (b : Bool) (x y : Rest T) → Goes' x → Goes' y → Goes' (if b then x else y)
  either true x y p q = p
  either false x y p q = q

  -- by the word that was found, by what was exchanged, or whatever else was answered
  by_answer : (f : Out T → Rest T) → ((word : ℕ) → Goes' (f (Found word))) → ((r : Result ℕ ℕ) → Goes' (f (Exchanged r))) → Goes' (f Stored)
      → ((value : T) → Goes' (f (Taken value))) → ((r : Result ℕ T) → Goes' (f (Made r))) → ((r : Result Unit Fault) → Goes' (f (Roomed r))) → (out : Out T) → Goes' (f out)
  by_answer f a b c d e g (Found word) = a word
  by_answer f a b c d e g (Exchanged r) = b r
  by_answer f a b c d e g Stored = c
  by_answer f a b c d e g (Taken value) = d value
  by_answer f a b c d e g (Made r) = e r
  by_answer f a b c d e g (Roomed r) = g r

  abbrev PlanGoes : Plan T (Settle × Settled T) → Type 0
  PlanGoes (Turn rest) = Goes' rest
  PlanGoes (Do op rest) = (out : Out T) → Goes' (rest out)

  module _ (of : T → Option ℕ) (c : Settle) where
    pushed_goes : (block left pushed slot : ℕ) (r : Result ℕ ℕ) → Goes' (settle.after_push {T = T} c block left pushed slot (Exchanged r))
    pushed_goes block left pushed slot (Ok word) = refl
    pushed_goes block left pushed slot (Err head) = either (settle.needs_none c head) _ _ refl refl

    try_goes : (p : Settling) → tries p ≡ true → PlanGoes (settle.plan_at of c p)
    try_goes (at.Scans slot block marks) is =
        by_answer (settle.scanned c slot block marks) (λ w. either (w == NEVER) _ _ refl (either (nat_lt w ACTIVE) _ _ refl (either (block == 0) _ _ refl refl))) (λ r. refl) refl
        (λ v. refl) (λ r. refl) (λ r. refl)
    try_goes (at.Marks slot block marks) is = λ out. refl
    try_goes (at.Marked slot block marks) is = by_answer (settle.marked_next c slot marks) (λ w. refl) (λ r. refl) refl (λ v. refl) (λ r. refl) (λ r. refl)
    try_goes (at.Closes marks) is = λ out. refl
    try_goes (at.Reads block left pushed) is = by_answer (settle.slot_read c block left pushed) (λ w. refl) (λ r. refl) refl (λ v. refl) (λ r. refl) (λ r. refl)
    try_goes (at.Links block left pushed slot head) is = λ out. refl
    try_goes (at.Pushes block left pushed slot head) is =
        by_answer (settle.after_push c block left pushed slot) (λ w. refl) (λ r. pushed_goes block left pushed slot r) refl (λ v. refl) (λ r. refl) (λ r. refl)
    try_goes (at.Pushed block left pushed) is = by_answer (settle.next_pushed c left pushed) (λ w. refl) (λ r. refl) refl (λ v. refl) (λ r. refl) (λ r. refl)
    try_goes (at.Sums pushed) is =
        by_answer (settle.summed c pushed) (λ w. either ((w + pushed) % 2 ^ 64 == 0) _ _ refl refl) (λ r. refl) refl (λ v. refl) (λ r. refl) (λ r. refl)
    try_goes at.Gives is = λ out. refl
    try_goes at.Sees is = absurd (cc is)
    try_goes at.Holds is = absurd (cc is)
    try_goes at.Pops is = absurd (cc is)
    try_goes (at.Firsts block) is = absurd (cc is)
    try_goes (at.Batches block) is = absurd (cc is)
    try_goes (at.Ends block) is = absurd (cc is)
    try_goes (at.Appends block) is = absurd (cc is)
    try_goes (at.Counts block) is = absurd (cc is)
    try_goes at.Nexts is = absurd (cc is)
    try_goes (at.Drains next word) is = absurd (cc is)
    try_goes (at.Joins next more) is = absurd (cc is)
    try_goes (at.Tails next) is = absurd (cc is)
    try_goes (at.Takes next) is = absurd (cc is)
    try_goes at.Puts is = absurd (cc is)
    try_goes at.Lists is = absurd (cc is)
    try_goes (at.Owns next) is = absurd (cc is)
    try_goes (at.Downs next batch) is = absurd (cc is)
    try_goes at.Over is = absurd (cc is)

  module _ (d : Dispose) where
    so : (c : Settle) (told : Settled T) → told ≡ Goes → SettleGoes (settled d (c, told)).1
    so c told is = subst (λ (t : Settled T). SettleGoes (settled d (c, t)).1) (sym is) tt

    ends_so : (shown : ℕ → Option T) (rest : Rest T) (end : Dispose × Settled T) → Goes' rest → Ends shown (then_as (settled d) rest) end → SettleGoes end.1
    ends_so shown (Now (c, told)) end goes ends = subst (λ (e : Dispose × Settled T). SettleGoes e.1) (sym ends) (so c told goes)
    ends_so shown (Seeing block rest) end goes ends = ends_so shown (rest ends.0) end (goes ends.0) ends.2
    ends_so shown (Sure fact rest) end goes ends = ends_so shown rest end goes ends

    steps_so : {M : Type 0} (took : M → Op T → Out T → M → Type 0) (shown : M → ℕ → Option T) (m n : M) (plan : Plan T (Settle × Settled T)) (end : Dispose × Settled T) → PlanGoes plan
        → Steps took shown m (plan_as (settled d) plan) n end → SettleGoes end.1
    steps_so took shown m n (Turn rest) end goes s = ends_so (shown n) rest end goes s.1
    steps_so took shown m n (Do op rest) end goes s = ends_so (shown n) (rest s.0) end (goes s.0) s.2

module _ {K V M : Type 0} (took : M → Op (Node K V) → Out (Node K V) → M → Type 0) (shown : M → ℕ → Option (Node K V)) (d : Dispose) (m n : M) (end : Dispose × Settled (Node K V)) where
  at_point : (p : Disposing) → tries_batch p ≡ true → Steps took shown m (plan_at {K = K} {V = V} d p) n end → SettleGoes end.1
  at_point (disposing.Settles c) is s = steps_so d took shown m n (settle.settle_plan deferred_word c) end (try_goes deferred_word c c.stands is) s
  at_point disposing.Reads is s = absurd (cc is)
  at_point (disposing.Walks table) is s = absurd (cc is)
  at_point (disposing.Defers defer) is s = absurd (cc is)
  at_point disposing.Over is s = absurd (cc is)

  pub try_goes_on : tries_batch d.stands ≡ true → Steps took shown m (dispose_plan {K = K} {V = V} d) n end → SettleGoes end.1
  try_goes_on is s = at_point d.stands is s

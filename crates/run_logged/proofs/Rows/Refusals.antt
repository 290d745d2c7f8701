-- A row that registers is refused for want of memory just by the operation that found no room for a bucket.
use Rattle.std.specs.Prelude.{nat_lt, Ok, Err, Option, Some, None, if◌then◌else◌}
use Rattle.std.proofs.Common.{◌≡◌, ℕ, ◌+◌, Bool, true, false, refl, ap}
use Rattle.run_schedules.specs.Given.SeizeWordsDeclared.fault.Fault.{Fault}
use Rattle.run_schedules.specs.Given.SeizeWordsDeclared.fault.Fault.TheVariants.{Memory, SlotsUsedUp}
use Rattle.run_schedules.specs.Given.SeizeWordsMem.{Mem, value_at}
use Rattle.run_schedules.specs.Given.SeizeWordsOp.{Out, Room, Found, Stored, Exchanged, Made, Taken, Roomed}
use Rattle.run_schedules.specs.Given.SeizeWordsPlan.{Ends}
use Rattle.seize.specs.declared.states.TheConstants.{LAST_SLOT}
use Rattle.seize.specs.declared.advance.Advance.{Advance}
use Rattle.seize.specs.declared.advance.Advance.TheVariants as progress
use Rattle.seize.specs.declared.rows.register.Register.{Register}
use Rattle.seize.specs.declared.rows.register.Registering.{Registering}
use Rattle.seize.specs.declared.rows.register.Registering.TheVariants as at
use Rattle.seize.specs.Register.{begun, looked, widened, taken, further, taking, going, refused, registered, can_be_taken, bucket_needed, plan_at}
use Rattle.papaya_raw.specs.Given.TablesDeclared.node.Node.{Node}
use Rattle.run_effects.specs.Tells.Seen.{seen_of}
use Rattle.run_effects.specs.ReportingMemory.Tells.{StepsObserved, observed_of}
use Rattle.run_effects.specs.declared.changed.Changed.{Changed}
use Rattle.run_effects.specs.declared.changed.Changed.TheVariants as changed

abbrev is_memory : Advance ℕ → Bool
is_memory (progress.Refused Memory) = true
is_memory _ = false

fine_end : (end x : Register × Advance ℕ) → end ≡ x → is_memory x.1 ≡ false → end.1 ≡ progress.Refused Memory → ⊥
fine_end end x e fine is =
    let a = ap (λ (q : Register × Advance ℕ). is_memory q.1) e in
    let b = ap is_memory is in
    cc (a, b, fine)

further_fine : (c : Register) → is_memory (further c).1 ≡ false
further_fine c = by (nat_lt c.slot LAST_SLOT)
  where
    by : (b : Bool) → is_memory (if b then going (record c { slot = c.slot + 1 }) at.Look else refused c SlotsUsedUp).1 ≡ false
    by true = refl
    by false = refl

looked_fine : (c : Register) (head : ℕ) → is_memory (if can_be_taken head then taking c head (bucket_needed c.slot) else further c).1 ≡ false
looked_fine c head = by (can_be_taken head)
  where
    taking_fine : (o : Option ℕ) → is_memory (taking c head o).1 ≡ false
    taking_fine (Some bucket) = refl
    taking_fine None = refl

    by : (b : Bool) → is_memory (if b then taking c head (bucket_needed c.slot) else further c).1 ≡ false
    by true = taking_fine (bucket_needed c.slot)
    by false = further_fine c

won_fine : (c : Register) → is_memory (if c.enters then going c at.Enter else registered c).1 ≡ false
won_fine c = by c.enters
  where
    by : (b : Bool) → is_memory (if b then going c at.Enter else registered c).1 ≡ false
    by true = refl
    by false = refl

module _ {K V : Type 0} (m m2 : Mem (Node K V)) (told_so : Changed) (c : Register) (end : Register × Advance ℕ) (is : end.1 ≡ progress.Refused Memory) where
  -- a bucket was asked for, and no memory was found for it
  abbrev FoundNone : Type 0
  FoundNone = (bucket : ℕ) × (told_so ≡ changed.Roomed bucket false)

  none_begun : (out : Out (Node K V)) → told_so ≡ observed_of (Room 0) out (seen_of m (Room 0) out) → Ends (value_at m2) (begun c out) end → FoundNone
  none_begun (Roomed (Err fault)) so ends = (0, so)
  none_begun (Roomed (Ok made)) so ends = absurd (fine_end end (going c at.Look) ends refl is)
  none_begun (Found word) so ends = absurd (fine_end end (c, progress.Goes) ends refl is)
  none_begun Stored so ends = absurd (fine_end end (c, progress.Goes) ends refl is)
  none_begun (Exchanged word) so ends = absurd (fine_end end (c, progress.Goes) ends refl is)
  none_begun (Made block) so ends = absurd (fine_end end (c, progress.Goes) ends refl is)
  none_begun (Taken value) so ends = absurd (fine_end end (c, progress.Goes) ends refl is)

  none_widened : (bucket seen : ℕ) (out : Out (Node K V)) → told_so ≡ observed_of (Room bucket) out (seen_of m (Room bucket) out) → Ends (value_at m2) (widened c seen out) end → FoundNone
  none_widened bucket seen (Roomed (Err fault)) so ends = (bucket, so)
  none_widened bucket seen (Roomed (Ok made)) so ends = absurd (fine_end end (going c (at.Take seen)) ends refl is)
  none_widened bucket seen (Found word) so ends = absurd (fine_end end (c, progress.Goes) ends refl is)
  none_widened bucket seen Stored so ends = absurd (fine_end end (c, progress.Goes) ends refl is)
  none_widened bucket seen (Exchanged word) so ends = absurd (fine_end end (c, progress.Goes) ends refl is)
  none_widened bucket seen (Made block) so ends = absurd (fine_end end (c, progress.Goes) ends refl is)
  none_widened bucket seen (Taken value) so ends = absurd (fine_end end (c, progress.Goes) ends refl is)

  -- a look, and an exchange, are refused for no such thing
  not_looked : (out : Out (Node K V)) → Ends (value_at m2) (looked c out) end → ⊥
  not_looked (Found head) ends = fine_end end (if can_be_taken head then taking c head (bucket_needed c.slot) else further c) ends (looked_fine c head) is
  not_looked (Roomed bucket) ends = fine_end end (c, progress.Goes) ends refl is
  not_looked Stored ends = fine_end end (c, progress.Goes) ends refl is
  not_looked (Exchanged word) ends = fine_end end (c, progress.Goes) ends refl is
  not_looked (Made block) ends = fine_end end (c, progress.Goes) ends refl is
  not_looked (Taken value) ends = fine_end end (c, progress.Goes) ends refl is

  not_taken : (out : Out (Node K V)) → Ends (value_at m2) (taken c out) end → ⊥
  not_taken (Exchanged (Ok found)) ends = fine_end end (if c.enters then going c at.Enter else registered c) ends (won_fine c) is
  not_taken (Exchanged (Err found)) ends = fine_end end (further c) ends (further_fine c) is
  not_taken (Found word) ends = fine_end end (c, progress.Goes) ends refl is
  not_taken (Roomed bucket) ends = fine_end end (c, progress.Goes) ends refl is
  not_taken Stored ends = fine_end end (c, progress.Goes) ends refl is
  not_taken (Made block) ends = fine_end end (c, progress.Goes) ends refl is
  not_taken (Taken value) ends = fine_end end (c, progress.Goes) ends refl is

  pub found_none : (p : Registering) → ((fault : Fault) → p ≡ at.Refused fault → ⊥) → StepsObserved K V (Register × Advance ℕ) m changed.Nothing (plan_at c p) m2 told_so end → FoundNone
  found_none at.Begin under st = none_begun st.0 st.1.1 st.2
  found_none at.Look under st = absurd (not_looked st.0 st.2)
  found_none (at.Widen bucket seen) under st = none_widened bucket seen st.0 st.1.1 st.2
  found_none (at.Take seen) under st = absurd (not_taken st.0 st.2)
  found_none at.Enter under st = absurd (fine_end end (registered c) st.2 refl is)
  found_none at.Registered under st = absurd (fine_end end (c, progress.Done c.slot) st.1 refl is)
  found_none (at.Refused fault) under st = absurd (under fault refl)

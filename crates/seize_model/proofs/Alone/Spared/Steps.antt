-- Each step of a row makes an operation that leaves its users' words as they are, and takes just the block that it tells of.
use Rattle.std.specs.Prelude.{Option, if◌then◌else◌, ◌==◌}
use Rattle.std.proofs.Common.{◌≡◌, ℕ, ◌<◌, Bool, true, false, List, [], ◌∷◌, refl, arith, sym, subst, ◌∙◌}
use Rattle.seize.specs.Given.SeizeWordsMem.{Mem, Can, Took, value_at}
use Rattle.seize.specs.Given.SeizeWordsPlan.{May, Steps}
use Rattle.seize.specs.declared.states.TheConstants.{ACTIVE}
use Rattle.seize.specs.declared.advance.Advance.{Advance}
use Rattle.seize.specs.declared.rows.settle.Settle.{Settle}
use Rattle.seize.specs.declared.rows.settle.Settling.{Settling}
use Rattle.seize.specs.declared.rows.settle.Settling.TheVariants as at
use Rattle.seize.specs.declared.rows.settle.Settled.{Settled}
use Rattle.seize.specs.declared.rows.settle.Settled.TheVariants.{Done}
use Rattle.seize.specs.declared.rows.leave.Leave.{Leave}
use Rattle.seize.specs.declared.rows.leave.Leaving.{Leaving}
use Rattle.seize.specs.declared.rows.leave.Leaving.TheVariants as leaving
use Rattle.seize.specs.declared.rows.register.Register.{Register}
use Rattle.seize.specs.declared.rows.register.Registering.{Registering}
use Rattle.seize.specs.declared.rows.register.Registering.TheVariants as registering
use Rattle.seize.specs.declared.rows.enter.Enter.{Enter}
use Rattle.seize.specs.declared.rows.enter.Unregister.{Unregister}
use Rattle.seize.specs.Settle.{settle_plan, plan_at}
use Rattle.seize.specs.Leave as leave
use Rattle.seize.specs.Register as register
use Rattle.seize.specs.Enter.{enter_plan, unregister_plan}
use Rattle.seize.specs.World.{settle_effects, leave_effects}
use Rattle.seize.specs.Law.{Entered}
use Rattle.seize.specs.Sequence.{taken_in}
use Rattle.seize_model.specs.Alone.Alone.{Spares}
use Rattle.seize_rule.proofs.Given.SeizeMovesState.Ghost.{State}
use Rattle.seize_rule.proofs.Given.SeizeMovesState.Rule.{Inv}
use Rattle.seize_rule.proofs.Given.SeizeMemoryWords.View.{view}
use Rattle.seize_rule.proofs.Given.SeizeMemoryWords.Named.{link}
use Rattle.seize_rule.proofs.Given.SeizeMemoryWords.There.{live_pos}
use Rattle.seize_rule.proofs.Given.SeizeMemoryWords.Shows.{Extra, Shows}
use Rattle.seize_rule.proofs.Points.Known.{FitsAt, Pushes, bare}
use Rattle.seize_rule.proofs.Rows.Known.{FitsLeave, word_of}
use Rattle.seize_rule.proofs.Points.Entries.{block_lives}
use Rattle.seize_model.proofs.Alone.Spared.Operations.{IsSparingPlan, plan_takes, plan_spares, sparing_as, takes_as}

link_some : (a d : ℕ) → a ≡ link d → 0 < d → 0 < a
link_some a d e lt = omega (arith, e, lt)

pub word_some : (again : Bool) → 0 < word_of again
word_some true = omega arith
word_some false = omega arith

module _ {T : Type 0} (defers : T → Option ℕ) (n i : ℕ) (mem mem2 : Mem T) (m : State) (x : Extra) (inv : Inv n m) (v : Shows n (view defers mem) m x) where
  -- a block that is pushed is one
  pushes_some : (c : Settle) (block left pushed slot head : ℕ) → Pushes n i (view defers mem) m x (bare c) block left pushed slot head → 0 < block
  pushes_some c block left pushed slot head r =
      let reads = r.links.reads in
      link_some block reads.d reads.block_is (live_pos mem reads.d (block_lives defers n i mem mem2 m x c (c, Done) inv v block left pushed true reads))

  settle_sparing : (c : Settle) (p : Settling) → FitsAt n i (view defers mem) m x (bare c) p → IsSparingPlan (plan_at defers c p)
  settle_sparing c at.Sees r = tt
  settle_sparing c at.Holds r = λ e. absurd (omega (arith, e))
  settle_sparing c at.Pops r = tt
  settle_sparing c (at.Firsts block) r = tt
  settle_sparing c (at.Batches block) r = tt
  settle_sparing c (at.Ends block) r = tt
  settle_sparing c (at.Appends block) r = tt
  settle_sparing c (at.Counts block) r = λ v. tt
  settle_sparing c (at.Scans slot block marks) r = tt
  settle_sparing c (at.Marks slot block marks) r = tt
  settle_sparing c (at.Marked slot block marks) r = tt
  settle_sparing c (at.Closes marks) r = tt
  settle_sparing c (at.Reads block left pushed) r = tt
  settle_sparing c (at.Links block left pushed slot head) r = tt
  settle_sparing c (at.Pushes block left pushed slot head) r = λ e. pushes_some c block left pushed slot head r
  settle_sparing c (at.Pushed block left pushed) r = tt
  settle_sparing c (at.Sums pushed) r = λ v. tt
  settle_sparing c at.Nexts r = tt
  settle_sparing c (at.Drains next word) r = tt
  settle_sparing c (at.Joins next more) r = tt
  settle_sparing c (at.Tails next) r = tt
  settle_sparing c (at.Takes next) r = tt
  settle_sparing c at.Puts r = tt
  settle_sparing c at.Lists r = tt
  settle_sparing c (at.Owns next) r = tt
  settle_sparing c (at.Downs next batch) r = λ v. tt
  settle_sparing c at.Gives r = λ e. absurd (omega (arith, e))
  settle_sparing c at.Over r = tt

  settle_takes : (c : Settle) (p : Settling) → plan_takes (plan_at defers c p) ≡ taken_in (settle_effects c p)
  settle_takes c at.Sees = refl
  settle_takes c at.Holds = refl
  settle_takes c at.Pops = refl
  settle_takes c (at.Firsts block) = refl
  settle_takes c (at.Batches block) = refl
  settle_takes c (at.Ends block) = refl
  settle_takes c (at.Appends block) = refl
  settle_takes c (at.Counts block) = refl
  settle_takes c (at.Scans slot block marks) = refl
  settle_takes c (at.Marks slot block marks) = refl
  settle_takes c (at.Marked slot block marks) = refl
  settle_takes c (at.Closes marks) = refl
  settle_takes c (at.Reads block left pushed) = refl
  settle_takes c (at.Links block left pushed slot head) = refl
  settle_takes c (at.Pushes block left pushed slot head) = refl
  settle_takes c (at.Pushed block left pushed) = refl
  settle_takes c (at.Sums pushed) = refl
  settle_takes c at.Nexts = refl
  settle_takes c (at.Drains next word) = refl
  settle_takes c (at.Joins next more) = refl
  settle_takes c (at.Tails next) = refl
  settle_takes c (at.Takes next) = refl
  settle_takes c at.Puts = refl
  settle_takes c at.Lists = refl
  settle_takes c (at.Owns next) = refl
  settle_takes c (at.Downs next batch) = refl
  settle_takes c at.Gives = refl
  settle_takes c at.Over = refl

  pub settle_spares : (c : Settle) (end : Settle × Settled T) → FitsAt n i (view defers mem) m x (bare c) c.stands → May Can Took value_at mem (settle_plan defers c)
      → Steps Took value_at mem (settle_plan defers c) mem2 end → Spares mem mem2 (taken_in (settle_effects c c.stands))
  settle_spares c end fits may st =
      subst (λ (l : List ℕ). Spares mem mem2 l) (settle_takes c c.stands)
      (plan_spares mem (settle_plan defers c) mem2 end (settle_sparing c c.stands fits) may st)

  leave_sparing : (c : Leave) (p : Leaving) → FitsLeave n i (view defers mem) m x c.slot c.becomes c.frees p → IsSparingPlan (leave.plan_at defers c p)
  leave_sparing c leaving.Swaps r = λ e. subst (λ (k : ℕ). 0 < k) (sym r.ends.word) (word_some r.again)
  leave_sparing c (leaving.Settles settle) r = sparing_as (leave.settled c) (settle_plan defers settle) (settle_sparing settle settle.stands r.settles)
  leave_sparing c leaving.Frees r = λ e. omega arith
  leave_sparing c leaving.Over r = tt

  leave_takes : (c : Leave) (p : Leaving) → plan_takes (leave.plan_at defers c p) ≡ taken_in (leave_effects c p)
  leave_takes c leaving.Swaps = refl
  leave_takes c (leaving.Settles settle) = takes_as (leave.settled c) (settle_plan defers settle) ∙ settle_takes settle settle.stands
  leave_takes c leaving.Frees = refl
  leave_takes c leaving.Over = sym (over_taken (c.becomes == ACTIVE))
    where
      over_taken : (t : Bool) → taken_in (if t then Entered c.slot ∷ [] else []) ≡ []
      over_taken true = refl
      over_taken false = refl

  pub leave_spares : (c : Leave) (end : Leave × Settled T) → FitsLeave n i (view defers mem) m x c.slot c.becomes c.frees c.stands → May Can Took value_at mem (leave.leave_plan defers c)
      → Steps Took value_at mem (leave.leave_plan defers c) mem2 end → Spares mem mem2 (taken_in (leave_effects c c.stands))
  leave_spares c end fits may st =
      subst (λ (l : List ℕ). Spares mem mem2 l) (leave_takes c c.stands)
      (plan_spares mem (leave.leave_plan defers c) mem2 end (leave_sparing c c.stands fits) may st)

module _ {T : Type 0} (m m2 : Mem T) where
  register_sparing : (c : Register) (p : Registering) → IsSparingPlan (register.plan_at {T = T} c p)
  register_sparing c registering.Begin = tt
  register_sparing c registering.Look = tt
  register_sparing c (registering.Widen bucket seen) = tt
  register_sparing c (registering.Take seen) = λ e. omega arith
  register_sparing c registering.Enter = λ e. omega arith
  register_sparing c registering.Registered = tt
  register_sparing c (registering.Refused fault) = tt

  register_takes : (c : Register) (p : Registering) → plan_takes (register.plan_at {T = T} c p) ≡ []
  register_takes c registering.Begin = refl
  register_takes c registering.Look = refl
  register_takes c (registering.Widen bucket seen) = refl
  register_takes c (registering.Take seen) = refl
  register_takes c registering.Enter = refl
  register_takes c registering.Registered = refl
  register_takes c (registering.Refused fault) = refl

  pub register_spares : (c : Register) (end : Register × Advance ℕ) → May Can Took value_at m (register.register_plan c) → Steps Took value_at m (register.register_plan c) m2 end → Spares m m2 []
  register_spares c end may st =
      subst (λ (l : List ℕ). Spares m m2 l) (register_takes c c.stands) (plan_spares m (register.register_plan c) m2 end (register_sparing c c.stands) may st)

  pub enter_spares : (c : Enter) (end : Enter × Advance Unit) → May Can Took value_at m (enter_plan c) → Steps Took value_at m (enter_plan c) m2 end → Spares m m2 []
  enter_spares c end may st = plan_spares m (enter_plan c) m2 end (λ e. omega arith) may st

  pub unregister_spares : (c : Unregister) (end : Unregister × Advance Unit) → May Can Took value_at m (unregister_plan c) → Steps Took value_at m (unregister_plan c) m2 end → Spares m m2 []
  unregister_spares c end may st = plan_spares m (unregister_plan c) m2 end (λ e. omega arith) may st

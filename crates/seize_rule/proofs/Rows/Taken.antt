-- A step tells of a value that is reclaimed just where it takes a block away.
use Rattle.std.specs.Prelude.{Option, Some, None, if◌then◌else◌, nat_lt, ◌==◌, ◌/◌, ◌%◌, ◌^◌, ◌-◌}
use Rattle.std.proofs.Common.{◌≡◌, ℕ, ◌+◌, Bool, true, false, List, [], ◌∷◌, refl, inl, inr, sym, subst}
use Rattle.seize_moves.specs.Given.SeizeWordsDeclared.at.At.TheVariants.{Slot, Entry, Word}
use Rattle.seize_moves.specs.Given.SeizeWordsMem.{Mem, Took, value_at, with_word, with_block}
use Rattle.seize_moves.specs.Given.SeizeWordsPlan.{Then, Steps, Ends}
use Rattle.seize_moves.proofs.Given.SeizeWordsOneOwner.Operations.{loaded, stored, added, exchanged, taken as taken_value}
use Rattle.seize_moves.specs.Given.SeizeDeclared.states.TheConstants.{HEAD, BATCH, NEXT, LINK, FIRST, COUNT, NEVER, ACTIVE, HELD}
use Rattle.seize_moves.specs.Given.SeizeDeclared.rows.settle.Settle.{Settle}
use Rattle.seize_moves.specs.Given.SeizeDeclared.rows.settle.Settling.{Settling}
use Rattle.seize_moves.specs.Given.SeizeDeclared.rows.settle.Settling.TheVariants as at
use Rattle.seize_moves.specs.Given.SeizeDeclared.rows.settle.Settled.{Settled}
use Rattle.seize_moves.specs.Given.SeizeDeclared.rows.settle.Settled.TheVariants.{Goes, Waits, Gave, Done}
use Rattle.seize_moves.specs.Given.SeizeSettle as plans
use Rattle.seize_moves.specs.Given.SeizeLaw.{Effect, Taken}
use Rattle.seize_moves.specs.Given.SeizeWorld.{settle_effects}
use Rattle.seize_moves.specs.Given.SeizeSequence.{taken_in}

module _ {T : Type 0} where
  -- what a step tells, by what it does
  abbrev pub TellsTaken : Mem T → Mem T → List Effect → Settled T → Type 0
  TellsTaken m m2 effects Goes = taken_in effects ≡ []
  TellsTaken m m2 effects Waits = taken_in effects ≡ []
  TellsTaken m m2 effects (Gave value) = (b : ℕ) × (taken_in effects ≡ b ∷ []) × (value_at m b ≡ Some value) × (m2 ≡ with_block m b None)
  TellsTaken m m2 effects Done = taken_in effects ≡ []

  -- no value
  abbrev pub IsSilent : Settled T → Type 0
  IsSilent Goes = Unit {0}
  IsSilent Waits = Unit {0}
  IsSilent (Gave value) = ⊥
  IsSilent Done = ⊥

  pub tells_silent : (m m2 : Mem T) (effects : List Effect) → taken_in effects ≡ [] → (p : Settled T) → IsSilent p → TellsTaken m m2 effects p
  tells_silent m m2 effects none Goes h = none
  tells_silent m m2 effects none Waits h = none
  tells_silent m m2 effects none (Gave value) h = absurd h
  tells_silent m m2 effects none Done h = absurd h

module _ {T : Type 0} (defers : T → Option ℕ) (mem mem2 : Mem T) (c : Settle) (end : Settle × Settled T) where
  is : (r : Settle × Settled T) → IsSilent r.1 → end ≡ r → IsSilent end.1
  is r h e = subst (λ (q : Settle × Settled T). IsSilent q.1) (sym e) h

  either : (shown : ℕ → Option T) (t : Bool) (a b : Then T (Settle × Settled T)) → (Ends shown a end → IsSilent end.1) → (Ends shown b end → IsSilent end.1)
      → Ends shown (if t then a else b) end → IsSilent end.1
  either shown true a b f g e = f e
  either shown false a b f g e = g e

  goes : (d : Settle) → end ≡ (d, Goes) → IsSilent end.1
  goes d e = is (d, Goes) tt e

  sees_silent : Steps Took value_at mem (plans.sees c) mem2 end → IsSilent end.1
  sees_silent st =
      let d = loaded mem (plans.seen c) (Slot c.slot BATCH) mem2 end st in
      either (value_at mem) (d.0 == HELD) _ _ (is (c, Waits) tt) (goes _) d.3

  holds_silent : Steps Took value_at mem (plans.holds c) mem2 end → IsSilent end.1
  holds_silent st = elim (exchanged mem (plans.taken_hold c) (Slot c.slot BATCH) c.last HELD mem2 end st) as (λ _. IsSilent end.1) [
    | inl d ↦ goes _ d.3
    | inr d ↦ goes _ d.3
  ]

  pops_silent : Steps Took value_at mem (plans.pops c) mem2 end → IsSilent end.1
  pops_silent st =
      let d = loaded mem (plans.popped c) (Entry (c.pending / 2048) NEXT) mem2 end st in
      either (value_at mem) (c.last == 0) _ _ (goes _) (goes _) d.3

  firsts_silent : (block : ℕ) → Steps Took value_at mem (plans.firsts c block) mem2 end → IsSilent end.1
  firsts_silent block st =
      let d = loaded mem (plans.first_read c block) (Entry (c.last / 2048) FIRST) mem2 end st in
      either (value_at mem) (block == 0) _ _ (goes _) (goes _) d.3

  pushes_silent : (block left pushed slot head : ℕ) → Steps Took value_at mem (plans.pushes c block left pushed slot head) mem2 end → IsSilent end.1
  pushes_silent block left pushed slot head st =
      elim (exchanged mem (plans.after_push c block left pushed slot) (Slot slot HEAD) head block mem2 end st) as (λ _. IsSilent end.1) [
        | inl d ↦ goes _ d.3
        | inr d ↦ either (value_at mem) (plans.needs_none c d.0) _ _ (goes _) (goes _) d.3
      ]

  counts_silent : (block : ℕ) → Steps Took value_at mem (plans.counts c block) mem2 end → IsSilent end.1
  counts_silent block st =
      let d = added mem (plans.counted c block) (Entry (c.first / 2048) COUNT) 1 mem2 end st in
      either (value_at (with_word mem (Entry (c.first / 2048) COUNT) ((d.0 + 1) % 2 ^ 64))) (nat_lt ((d.0 + 1) % 2 ^ 64) c.batch_size) _ _ (goes _) (goes _) d.3

  scans_silent : (slot block marks : ℕ) → Steps Took value_at mem (plans.scans c slot block marks) mem2 end → IsSilent end.1
  scans_silent slot block marks st =
      let d = loaded mem (plans.scanned c slot block marks) (Slot slot HEAD) mem2 end st in
      either (value_at mem) (d.0 == NEVER) _ _ (goes _) (either (value_at mem) (nat_lt d.0 ACTIVE) _ _ (goes _) (either (value_at mem) (block == 0) _ _ (goes _) (goes _))) d.3

  sums_silent : (pushed : ℕ) → Steps Took value_at mem (plans.sums c pushed) mem2 end → IsSilent end.1
  sums_silent pushed st =
      let d = added mem (plans.summed c pushed) (Entry (c.first / 2048) COUNT) pushed mem2 end st in
      either (value_at (with_word mem (Entry (c.first / 2048) COUNT) ((d.0 + pushed) % 2 ^ 64))) ((d.0 + pushed) % 2 ^ 64 == 0) _ _ (goes _) (goes _) d.3

  drained_silent : (next : ℕ) (o : Option ℕ) → Ends (value_at mem) (plans.drained_first c next o) end → IsSilent end.1
  drained_silent next None e = goes _ e
  drained_silent next (Some word) e = goes _ e

  nexts_silent : Steps Took value_at mem (plans.nexts defers c) mem2 end → IsSilent end.1
  nexts_silent st =
      let d = loaded mem (plans.next_read defers c) (Entry (c.reclaiming / 2048) NEXT) mem2 end st in
      drained_silent d.0 (defers d.3.0) d.3.2

  drains_silent : (next word : ℕ) → Steps Took value_at mem (plans.drains c next word) mem2 end → IsSilent end.1
  drains_silent next word st =
      let d = loaded mem (plans.drained c next) (Word (c.reclaiming / 2048) word) mem2 end st in
      either (value_at mem) (d.0 == 0) _ _ (goes _) (either (value_at mem) (c.put_first == 0) _ _ (goes _) (goes _)) d.3

  tails_silent : (next : ℕ) → Steps Took value_at mem (plans.tails c next) mem2 end → IsSilent end.1
  tails_silent next st =
      let d = loaded mem (plans.tail_read c next) (Entry (c.put_last / 2048) NEXT) mem2 end st in
      either (value_at mem) (d.0 == 0) _ _ (goes _) (goes _) d.3

  downs_silent : (next batch : ℕ) → Steps Took value_at mem (plans.downs c next batch) mem2 end → IsSilent end.1
  downs_silent next batch st =
      let d = added mem (plans.counted_down c next batch) (Entry (batch / 2048) COUNT) (2 ^ 64 - 1) mem2 end st in
      either (value_at (with_word mem (Entry (batch / 2048) COUNT) ((d.0 + (2 ^ 64 - 1)) % 2 ^ 64))) (d.0 == 1) _ _ (goes _) (goes _) d.3

  silent : (effects : List Effect) → taken_in effects ≡ [] → IsSilent end.1 → TellsTaken mem mem2 effects end.1
  silent effects none h = tells_silent mem mem2 effects none end.1 h

  tells_at : (p : Settling) → Steps Took value_at mem (plans.plan_at defers c p) mem2 end → TellsTaken mem mem2 (settle_effects c p) end.1
  tells_at at.Sees st = silent [] refl (sees_silent st)
  tells_at at.Holds st = silent [] refl (holds_silent st)
  tells_at at.Pops st = silent [] refl (pops_silent st)
  tells_at (at.Firsts block) st = silent [] refl (firsts_silent block st)
  tells_at (at.Batches block) st = silent [] refl (goes _ (stored {R = Settle × Settled T} mem (λ out. plans.goes c (at.Ends block)) (Entry (block / 2048) FIRST) c.first mem2 end st).1)
  tells_at (at.Ends block) st = silent [] refl (goes _ (stored {R = Settle × Settled T} mem (λ out. plans.goes c (plans.ended c block)) (Entry (block / 2048) NEXT) 0 mem2 end st).1)
  tells_at (at.Appends block) st = silent [] refl (goes _ (stored {R = Settle × Settled T} mem (λ out. plans.goes c (at.Counts block)) (Entry (c.last / 2048) NEXT) block mem2 end st).1)
  tells_at (at.Counts block) st = silent (settle_effects c (at.Counts block)) refl (counts_silent block st)
  tells_at (at.Scans slot block marks) st = silent [] refl (scans_silent slot block marks st)
  tells_at (at.Marks slot block marks) st = silent [] refl (goes _ (stored {R = Settle × Settled T} mem (λ out. plans.goes c (at.Marked slot block marks)) (Entry (block / 2048) LINK) slot mem2 end st).1)
  tells_at (at.Marked slot block marks) st = silent [] refl (goes _ (loaded mem (plans.marked_next c slot marks) (Entry (block / 2048) NEXT) mem2 end st).3)
  tells_at (at.Closes marks) st = silent [] refl (goes _ (stored {R = Settle × Settled T} mem (λ out. plans.to (plans.closed c marks)) (Entry (c.first / 2048) COUNT) 0 mem2 end st).1)
  tells_at (at.Reads block left pushed) st = silent [] refl (goes _ (loaded mem (plans.slot_read c block left pushed) (Entry (block / 2048) LINK) mem2 end st).3)
  tells_at (at.Links block left pushed slot head) st =
      silent [] refl (goes _ (stored {R = Settle × Settled T} mem (λ out. plans.goes c (at.Pushes block left pushed slot head)) (Entry (block / 2048) LINK) head mem2 end st).1)
  tells_at (at.Pushes block left pushed slot head) st = silent [] refl (pushes_silent block left pushed slot head st)
  tells_at (at.Pushed block left pushed) st = silent [] refl (goes _ (loaded mem (plans.next_pushed c left pushed) (Entry (block / 2048) NEXT) mem2 end st).3)
  tells_at (at.Sums pushed) st = silent [] refl (sums_silent pushed st)
  tells_at at.Nexts st = silent [] refl (nexts_silent st)
  tells_at (at.Drains next word) st = silent [] refl (drains_silent next word st)
  tells_at (at.Joins next more) st =
      silent [] refl (goes _ (stored {R = Settle × Settled T} mem (λ out. plans.to (record c { put_last = more; stands = at.Tails next })) (Entry (c.put_last / 2048) NEXT) more mem2 end st).1)
  tells_at (at.Tails next) st = silent [] refl (tails_silent next st)
  tells_at (at.Takes next) st =
      let d = taken_value {R = Settle × Settled T} mem (plans.given_back c next) (c.reclaiming / 2048) mem2 end st in
      subst (λ (q : Settle × Settled T). TellsTaken mem mem2 (Taken (c.reclaiming / 2048) ∷ []) q.1) (sym d.3) (c.reclaiming / 2048, refl, d.1, d.2)
  tells_at at.Puts st = silent [] refl (goes _ (stored {R = Settle × Settled T} mem (λ out. plans.to (plans.with_put c)) (Entry (c.put_last / 2048) NEXT) c.pending mem2 end st).1)
  tells_at at.Lists st = silent [] refl (goes _ (loaded mem (plans.entry_read c) (Entry (c.list / 2048) LINK) mem2 end st).3)
  tells_at (at.Owns next) st = silent [] refl (goes _ (loaded mem (plans.batch_read c next) (Entry (c.list / 2048) FIRST) mem2 end st).3)
  tells_at (at.Downs next batch) st = silent [] refl (downs_silent next batch st)
  tells_at at.Gives st =
      silent [] refl (goes _ (stored {R = Settle × Settled T} mem (λ out. plans.to (record c { held = false; stands = at.Over })) (Slot c.slot BATCH) c.last mem2 end st).1)
  tells_at at.Over st = subst (λ (q : Settle × Settled T). TellsTaken mem mem2 [] q.1) (sym st.1) refl

  pub settle_tells : Steps Took value_at mem (plans.settle_plan defers c) mem2 end → TellsTaken mem mem2 (settle_effects c c.stands) end.1
  settle_tells st = tells_at c.stands st

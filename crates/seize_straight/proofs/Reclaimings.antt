-- The steps that reclaim a block, over any memory.
use Rattle.std.specs.Prelude.{◌≡◌, ◌≢◌, ℕ, Option, Some, None}
use Rattle.std.proofs.Common.{refl, sym, subst, ap}
use Rattle.std.proofs.lemmas.Bool.{ne_eqb}
use Rattle.seize_words.specs.OneMemory.Op.{Op, Out, Load, Take, Found, Taken}
use Rattle.seize_words.specs.OneMemory.Plan.{Steps}
use Rattle.seize_words.specs.OneMemory.Word.{block_in}
use Rattle.seize_words.specs.declared.at.At.TheVariants.{Entry}
use Rattle.seize.specs.Settle.{settle_plan, standing}
use Rattle.seize.specs.declared.rows.settle.Settle.{Settle}
use Rattle.seize.specs.declared.rows.settle.Settled.{Settled}
use Rattle.seize.specs.declared.rows.settle.Settled.TheVariants as settled
use Rattle.seize.specs.declared.rows.settle.Settling.TheVariants as at
use Rattle.seize.specs.declared.states.TheConstants.{NEXT}
use Rattle.seize_straight.specs.Going.{DropGoes, DropLeads, MayDrop, MaySettle, SettleGoes, SettleLeads}
use Rattle.seize_straight.specs.Runs.{none_taken, one_more}
use Rattle.seize_straight.specs.Reclaiming.{Reclaims}
use Rattle.seize_straight.proofs.Running.{Led, begins, by_law, may_step, runs_on, steps_to}

module _ {T M : Type 0} (defers : T → Option ℕ) (can : M → Op T → Type 0) (took : M → Op T → Out T → M → Type 0) (shown : M → ℕ → Option T) where
  -- a settling that is to reclaim a block has come to this point
  abbrev pub Comes : Settle → M → Settle → M → Type 0
  Comes = Led (SettleGoes {T = T}) took shown (settle_plan defers) can

  -- it has read which block comes next, and looked at the value of this one
  pub record HasSeen (c : Settle) (m n : M) (further : ℕ) (value : T) : Type 0 where
    pub stands : c.stands ≡ at.Nexts
    pub run : MaySettle defers took shown can c m
    pub loads : took m (Load (Entry (block_in c.reclaiming) NEXT)) (Found further) n
    pub shows : shown n (block_in c.reclaiming) ≡ Some value

module _ {T M : Type 0} (defers : T → Option ℕ) {can : M → Op T → Type 0} {took : M → Op T → Out T → M → Type 0} {shown : M → ℕ → Option T} {c : Settle} {m : M} where
  pub to_read : c.stands ≡ at.Nexts → MaySettle defers took shown can c m → Comes defers can took shown c m (standing c at.Nexts) m
  to_read is h = subst (λ (d : Settle). Comes defers can took shown c m d m) (ap (λ s. standing c s) is) (begins h)

module _ {T M : Type 0} {defers : T → Option ℕ} {can : M → Op T → Type 0} {took : M → Op T → Out T → M → Type 0} {shown : M → ℕ → Option T}
    {c : Settle} {m n : M} {further : ℕ} {value : T} (h : HasSeen defers can took shown c m n further value) where
  -- the block holds further values
  pub to_drain : (word : ℕ) → defers value ≡ Some word → Comes defers can took shown c m (standing c (at.Drains further word)) n
  to_drain word is =
      steps_to (to_read defers h.stands h.run) settled.Goes tt (standing c (at.Drains further word)) n (Found further, h.loads, (value, h.shows, rw is refl))

  -- it holds none, and is taken
  pub to_take : defers value ≡ None → Comes defers can took shown c m (standing c (at.Takes further)) n
  to_take is = steps_to (to_read defers h.stands h.run) settled.Goes tt (standing c (at.Takes further)) n (Found further, h.loads, (value, h.shows, rw is refl))

  -- and a further one follows it
  pub was_taken : defers value ≡ None → further ≢ 0 → (k : M) (given : T) → took n (Take (block_in c.reclaiming)) (Taken given) k
      → Reclaims defers took shown c m (record c { reclaiming = further }) k (Some given)
  was_taken is more k given takes = (
    standing c (at.Takes further),
    n,
    (to_take is).leads,
    subst (λ s. Steps took shown n (settle_plan defers (standing c (at.Takes further))) k (record c { reclaiming = further; stands = s }, settled.Gave given)) (sym h.stands)
        (Taken given, takes, rw (ne_eqb further 0 more) refl),
  )

-- blocks are reclaimed, and their values dropped
module _ {T M : Type 0} (defers : T → Option ℕ) (can : M → Op T → Type 0) (took : M → Op T → Out T → M → Type 0) (shown : M → ℕ → Option T) where
  drops : (told : Settled T) → SettleGoes told → DropGoes told
  drops settled.Goes so = tt
  drops settled.Waits so = tt
  drops (settled.Gave value) so = absurd so
  drops settled.Done so = absurd so

  pub may_once : (s : Settle) (m : M) → MayDrop defers took shown can s m → MaySettle defers took shown can s m
  may_once =
      by_law SettleGoes took shown (settle_plan defers) can (λ s m. MayDrop defers took shown can s m) (λ s m h. may_step DropGoes took shown (settle_plan defers) can s m h)
      (λ s m h n t told so x. runs_on DropGoes took shown (settle_plan defers) can s m h n t told (drops told so) x)

  pub leads_once : (s t : Settle) (m n : M) → SettleLeads defers took shown s m t n → DropLeads defers took shown s m t n
  leads_once s t m n (none_taken _ _) = none_taken s m
  leads_once s t m n (one_more _ _ x k l told so _ _ y) = one_more s m x k (leads_once s x m k l) told (drops told so) t n y

  pub reclaims_on : (s t : Settle) (m n : M) (result : Option T) → Reclaims defers took shown s m t n result → DropLeads defers took shown s m t n
  reclaims_on s t m n None l = leads_once s t m n l
  reclaims_on s t m n (Some value) (x, k, l, y) = one_more s m x k (leads_once s x m k l) (settled.Gave value) tt t n y

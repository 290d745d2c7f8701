-- What is so of a machine is so, too, where some steps that go on have led from there.
use Rattle.std.specs.Prelude.{◌≡◌, ◌<◌, ◌≤◌, ℕ, true, Result}
use Rattle.std.proofs.Common.{sym, ◌∙◌, ap, subst, arith}
use Rattle.seize_words.specs.OneMemory.Mem.{Mem}
use Rattle.seize_words.specs.OneMemory.Plan.{Plan}
use Rattle.seize_words.specs.declared.fault.Fault.{Fault}
use Rattle.seize.specs.declared.advance.Advance.{Advance}
use Rattle.owner_whole.specs.Strides.Ending.{Ends, Continues, EndsWith, Leads, Strides, none_taken, one_more, RunsTo, goes, stops}
use Rattle.owner_whole.specs.Strides.Within.{IsLeast, within}
use Rattle.owner_whole.proofs.Strides.Runs.Steps.{ends_on, lower, within_on}

module _ {T X A : Type 0} (plan : X → Plan T (X × Advance A)) where
  pub ends_along : (x y : X) (m n : Mem T) → Leads plan x m y n → Ends plan x m → Ends plan y n
  ends_along x y m n (none_taken _ _) h = h
  ends_along x y m n (one_more _ _ z k l told on _ _ s) h = ends_on plan z k (ends_along x z m k l h) n y told on s

  pub runs_along : (x y : X) (m n : Mem T) → Leads plan x m y n → (x2 : X) (m2 : Mem T) (result : Result A Fault) → RunsTo plan y n x2 m2 result → RunsTo plan x m x2 m2 result
  runs_along x y m n (none_taken _ _) x2 m2 result r = r
  runs_along x y m n (one_more _ _ z k l told on _ _ s) x2 m2 result r = runs_along x z m k l x2 m2 result (goes z k y n told on s x2 m2 result r)

  pub leads_on : (x y z : X) (m n k : Mem T) → Leads plan x m y n → Leads plan y n z k → Leads plan x m z k
  leads_on x y z m n k l (none_taken _ _) = l
  leads_on x y z m n k l (one_more _ _ w j l2 told on _ _ s) = one_more x m w j (leads_on x y w m n j l l2) told on z k s

  within_along : (x y : X) (m n : Mem T) → Leads plan x m y n → (b : ℕ) → within plan b x m ≡ true → (k : ℕ) × (k ≤ b) × (within plan k y n ≡ true)
  within_along x y m n (none_taken _ _) b e = (b, omega arith, e)
  within_along x y m n (one_more _ _ z j l told on _ _ s) b e =
      let p = within_along x z m j l b e in let o = within_on plan p.0 z j p.2 y n told on s in
      let a = p.1 in let c = o.1 in (o.0, omega (arith, a, c), o.2)

  -- the least bound is lower after these and one step
  pub less_along : (b : ℕ) (x x0 : X) (m m0 : Mem T) → x0 ≡ x → m0 ≡ m → IsLeast (λ j. within plan j x0 m0) b → (x2 x3 : X) (m2 m3 : Mem T) (told : Advance A) → Continues told
      → Strides plan x m m2 (x2, told) → (k : ℕ) → x3 ≡ x2 → m3 ≡ m2 → IsLeast (λ j. within plan j x3 m3) k → k < b
  less_along b x x0 m m0 e e2 least x2 x3 m2 m3 told on (y, n, l, s) k e3 e4 least2 =
      let p = within_along x y m n l b (ap (λ z. within plan b z m) (sym e) ∙ ap (λ z. within plan b x0 z) (sym e2) ∙ least.0) in
      let low = lower plan p.0 y n p.2 k x2 m2
      (subst (λ (z : X). IsLeast (λ j. within plan j z m2) k) e3 (subst (λ (z : Mem T). IsLeast (λ j. within plan j x3 z) k) e4 least2)) told on s in
      let a = p.1 in omega (arith, low, a)

  pub strides_end : (x x2 : X) (m m2 : Mem T) (told : Advance A) → Continues told → Strides plan x m m2 (x2, told) → Ends plan x m → Ends plan x2 m2
  strides_end x x2 m m2 told on (y, n, l, s) h = ends_on plan y n (ends_along x y m n l h) m2 x2 told on s

  pub strides_run : (x x2 : X) (m m2 : Mem T) (told : Advance A) → Continues told → Strides plan x m m2 (x2, told)
      → (x3 : X) (m3 : Mem T) (result : Result A Fault) → RunsTo plan x2 m2 x3 m3 result → RunsTo plan x m x3 m3 result
  strides_run x x2 m m2 told on (y, n, l, s) x3 m3 result r = runs_along x y m n l x3 m3 result (goes y n x2 m2 told on s x3 m3 result r)

  pub strides_stop : (x x2 : X) (m m2 : Mem T) (told : Advance A) (result : Result A Fault) → Strides plan x m m2 (x2, told) → EndsWith told result → RunsTo plan x m x2 m2 result
  strides_stop x x2 m m2 told result (y, n, l, s) tells = runs_along x y m n l x2 m2 result (stops y n x2 m2 told result s tells)

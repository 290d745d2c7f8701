-- What a seat knows that stands so.
use Rattle.std.specs.Prelude.{Some, None, ◌==◌, if◌then◌else◌}
use Rattle.std.proofs.Common.{◌≡◌, ℕ, Bool, true, false, refl, ap, sym, ◌∙◌}
use Rattle.std.proofs.lemmas.Bool.{eqb-false}
use Rattle.seize_shared.specs.OnThreads.Standing.{standing}
use Rattle.seize_views.specs.Views.Promises.{IsLooking}
use Rattle.seize_views.specs.declared.view.SlotView.{SlotView}
use Rattle.seize_views.specs.declared.view.SlotView.TheVariants.{Rests, Registers, Outside, Owes, Enters, Inside, Settles, Leaves, Left, Frees, Brings, Bears, Watches, Under, Joins, Defers, Busy}
use Rattle.seize_views.specs.declared.view.Has.{Has}
use Rattle.seize_views.specs.declared.view.Has.TheVariants.{Nothing, Made, Seen, Both, Cut, Walks}
use Rattle.seize_words.proofs.General.{same_some}

abbrev Standing : Type 0
Standing = ℕ × Bool × ℕ

abbrev stands : ℕ → Bool → ℕ → Standing
stands t inside seen = (t, inside, seen)

-- the same slot, and as open, and the same block was seen
same : (t s k b : ℕ) (x y : Bool) → Some (stands s x b) ≡ Some (stands t y k) → (s ≡ t) × (x ≡ y) × (b ≡ k)
same t s k b x y e =
    let p = same_some (stands s x b) (stands t y k) e in (ap (λ (q : Standing). q.0) p, ap (λ (q : Standing). q.1) p, ap (λ (q : Standing). q.2) p)

-- which block a seat has seen, 0 for none
abbrev Knows : {T : Type 0} → Has T → ℕ → Type 0
Knows Nothing k = k ≡ 0
Knows (Seen b) k = (b ≡ k) × (b ≡ 0 → ⊥)
Knows _ k = ⊥

looking : {T : Type 0} (has : Has T) (k : ℕ) → Knows has k → IsLooking has
looking Nothing k knows = tt
looking (Seen b) k knows = tt
looking (Made b x) k knows = knows
looking (Both b x a) k knows = knows
looking (Cut b) k knows = knows
looking (Walks b next) k knows = knows

module _ {T : Type 0} (t : ℕ) where
  inside : (k : ℕ) (v : SlotView T) → standing v ≡ Some (stands t true k) → (has : Has T) × Knows has k × (v ≡ Inside t has)
  inside k (Inside s Nothing) e = let p = same t s k 0 true true e in (Nothing, sym p.2, ap (λ (n : ℕ). Inside n Nothing) p.0)
  inside k (Inside s (Seen b)) e = by (Inside s (Seen b)) refl (b == 0) refl e
    where
      by : (v : SlotView T) → v ≡ Inside s (Seen b) → (y : Bool) → (b == 0) ≡ y → (if y then None else Some (stands s true b)) ≡ Some (stands t true k)
          → (has : Has T) × Knows has k × (v ≡ Inside t has)
      by v at true is f = absurd (cc f)
      by v at false is f = let p = same t s k b true true f in (Seen b, (p.2, eqb-false b 0 is), at ∙ ap (λ (n : ℕ). Inside n (Seen b)) p.0)
  inside k (Outside s) e = absurd (let p = (same t s k 0 false true e).1 in cc p)
  inside k (Inside s (Made b x)) e = absurd (cc e)
  inside k (Inside s (Both b x a)) e = absurd (cc e)
  inside k (Inside s (Cut b)) e = absurd (cc e)
  inside k (Inside s (Walks b next)) e = absurd (cc e)
  inside k (Owes s b) e = absurd (cc e)
  inside k Rests e = absurd (cc e)
  inside k (Registers c) e = absurd (cc e)
  inside k (Enters s) e = absurd (cc e)
  inside k (Settles c why seen left) e = absurd (cc e)
  inside k (Leaves s size way) e = absurd (cc e)
  inside k (Left s size way) e = absurd (cc e)
  inside k (Frees s) e = absurd (cc e)
  inside k (Brings b x) e = absurd (cc e)
  inside k (Bears b) e = absurd (cc e)
  inside k (Watches s b) e = absurd (cc e)
  inside k (Under n s b) e = absurd (cc e)
  inside k (Joins block) e = absurd (cc e)
  inside k (Defers s c) e = absurd (cc e)
  inside k (Busy s) e = absurd (cc e)

  pub is_inside : (k : ℕ) (v : SlotView T) → standing v ≡ Some (stands t true k) → (has : Has T) × IsLooking has × (v ≡ Inside t has)
  is_inside k v e = let i = inside k v e in (i.0, looking i.0 k i.1, i.2)

  -- and what is said of who is within a section, or is not, is so of who stands so

  pub takes_inside : (k : ℕ) (v : SlotView T) (X : Type 0) → standing v ≡ Some (stands t true k) → ((has : Has T) → IsLooking has → v ≡ Inside t has → X) → X
  takes_inside k v X e so = let i = is_inside k v e in so i.0 i.1 i.2

-- What the one knows of his registering once an operation of it is answered: where it stands then, or that reclaiming begins.
use Rattle.std.proofs.lemmas.Bool.{ne_eqb}
use Rattle.std.specs.Prelude.{◌==◌, ◌||◌, Option, Some, None, Result, Ok, Err, nat_lt, if◌then◌else◌}
use Rattle.std.proofs.Common.{◌≡◌, ℕ, ◌+◌, Bool, true, false, ◌⊎◌, inl, inr, refl, sym, subst, ap, ◌∙◌, arith}
use Rattle.seize_words.specs.OneMemory.Op.{Op, Out, Load, Exchange, Room, Found, Exchanged, Roomed}
use Rattle.seize_words.specs.declared.at.At.TheVariants.{Slot}
use Rattle.seize_words.specs.declared.fault.Fault.{Fault}
use Rattle.seize_words.specs.declared.fault.Fault.TheVariants.{SlotsUsedUp}
use Rattle.seize.specs.declared.advance.Advance.{Advance}
use Rattle.seize.specs.declared.states.TheConstants.{HEAD, NEVER, FREE, IDLE, LAST_SLOT}
use Rattle.seize.specs.declared.rows.register.Register.{Register}
use Rattle.seize.specs.declared.rows.register.Registering.{Registering}
use Rattle.seize.specs.declared.rows.register.Registering.TheVariants as at
use Rattle.seize.specs.Register.{further, taking, can_be_taken, bucket_needed, going, refused, registered}
use Rattle.seize.specs.declared.rows.reclaim_all.ReclaimAll.{ReclaimAll}
use Rattle.seize_views.specs.Views.Begun.{seeker_at}
use Rattle.seize_reclaims.specs.declared.alone.Alone.{Alone}
use Rattle.seize_reclaims.specs.declared.alone.Alone.TheVariants.{Registers}
use Rattle.core.specs.Result.{is_ok, is_err}
use Rattle.seize_reclaims.specs.Empties.Asked.{HasSought, HasTold, OneTells}
use Rattle.seize_reclaims.specs.Empties.Emptying.{IsUnderWay, IsSeeking, Seeks, SeeksBy}

-- a head that says that its slot can be taken, and one that does not
pub free_head : (seen : ℕ) → ((seen ≡ NEVER → ⊥) × (seen ≡ FREE)) ⊎ (seen ≡ NEVER) → can_be_taken seen ≡ true
free_head seen (inl e) = subst (λ (k : ℕ). can_be_taken k ≡ true) (sym e.1) refl
free_head seen (inr e) = subst (λ (k : ℕ). can_be_taken k ≡ true) (sym e) refl

-- and one that says that its slot is taken
pub taken_head : (seen : ℕ) → (seen ≡ NEVER → ⊥) → (seen ≡ FREE → ⊥) → can_be_taken seen ≡ false
taken_head seen not_never not_free = ap (λ (b : Bool). b || (seen == FREE)) (ne_eqb seen NEVER not_never) ∙ ne_eqb seen FREE not_free

module _ {T V X : Type 0} (defers : T → Option ℕ) (left_over : T → Bool) (acts : V → Option (Alone T)) (all : V → ReclaimAll) (none : ReclaimAll → ReclaimAll) (beside : V → X) (then_ : V → Op T → Out T → V → Type 0)
    (tells : OneTells acts all none defers left_over beside then_) (v w : V) (row : ReclaimAll) where
  abbrev size : ℕ
  size = row.batch_size

  known : (c : Register) (op : Op T) (out : Out T) → acts v ≡ Some (Registers c size) → then_ v op out w → HasTold acts all none defers left_over v (Registers c size) op out w
  known c op out is so = (tells v w (Registers c size) op out is so).0

  pub stays : (c : Register) (op : Op T) (out : Out T) → acts v ≡ Some (Registers c size) → then_ v op out w → beside w ≡ beside v
  stays c op out is so = (tells v w (Registers c size) op out is so).1

  abbrev Ended : Register × Advance ℕ → Type 0
  Ended end = HasSought acts all none size v end w

  abbrev SeeksNow : ℕ → Type 0
  SeeksNow slot = Seeks row slot (acts w) (all w)

  abbrev Was : ℕ → Registering → Type 0
  Was slot stands = IsSeeking row slot stands (acts v) (all v)

  abbrev Is : ℕ → Registering → Type 0
  Is slot stands = IsSeeking row slot stands (acts w) (all w)

  under : all v ≡ row → IsUnderWay (all v) (acts w) → IsUnderWay row (acts w)
  under by_it is = subst (λ (r : ReclaimAll). IsUnderWay r (acts w)) by_it is

  -- the first bucket has its words
  begun_there : (u : _) → Was 0 at.Begin → then_ v (Room 0) (Roomed (Ok u)) w → SeeksNow 0
  begun_there u is so =
      let k = known (seeker_at 0 at.Begin) (Room 0) (Roomed (Ok u)) is.0 so in
      let e : Ended (going (seeker_at 0 at.Begin) at.Look) = subst Ended k.1.3 k.2 in (e.0, e.1 ∙ is.1)

  begun_refused : (f : Fault) → Was 0 at.Begin → then_ v (Room 0) (Roomed (Err f)) w → IsUnderWay (none row) (acts w)
  begun_refused f is so =
      let k = known (seeker_at 0 at.Begin) (Room 0) (Roomed (Err f)) is.0 so in
      let e : Ended (refused (seeker_at 0 at.Begin) f) = subst Ended k.1.3 k.2 in subst (λ (r : ReclaimAll). IsUnderWay (none r) (acts w)) is.1 (e.0 refl)

  pub has_begun : (r : Result _ Fault) → Was 0 at.Begin → then_ v (Room 0) (Roomed r) w → (is_ok r ≡ true → SeeksNow 0) × (is_ok r ≡ false → IsUnderWay (none row) (acts w))
  has_begun (Ok u) is so = (λ yes. begun_there u is so, λ no. absurd (cc no))
  has_begun (Err f) is so = (λ yes. absurd (cc yes), λ no. begun_refused f is so)

  module _ (slot : ℕ) where
    -- the next slot, if there is one
    past : (stands : Registering) → all v ≡ row → (b : Bool) → nat_lt slot LAST_SLOT ≡ b → Ended (further (seeker_at slot stands)) → SeeksNow (slot + 1)
    past stands by_it true lt is =
        let here : nat_lt (slot + 1) (LAST_SLOT + 1) ≡ true = grind (arith, lt) in
        let e : Ended (going (seeker_at (slot + 1) stands) at.Look) =
        subst (λ (t : Bool). Ended (if t then going (seeker_at (slot + 1) stands) at.Look else refused (seeker_at slot stands) SlotsUsedUp)) lt is in
        subst (λ (t : Bool). SeeksBy t row (slot + 1) (acts w) (all w)) (sym here) (e.0, e.1 ∙ by_it)
    past stands by_it false lt is =
        let here : nat_lt (slot + 1) (LAST_SLOT + 1) ≡ false = grind (arith, lt) in
        let e : Ended (refused (seeker_at slot stands) SlotsUsedUp) =
        subst (λ (t : Bool). Ended (if t then going (seeker_at (slot + 1) stands) at.Look else refused (seeker_at slot stands) SlotsUsedUp)) lt is in
        subst (λ (t : Bool). SeeksBy t row (slot + 1) (acts w) (all w)) (sym here) (under by_it (e.1 (λ first. absurd (grind (arith, lt, first)))))

    looked : (seen : ℕ) (b : Bool) → can_be_taken seen ≡ b → Was slot at.Look → then_ v (Load (Slot slot HEAD)) (Found seen) w
        → Ended (if b then taking (seeker_at slot at.Look) seen (bucket_needed slot) else further (seeker_at slot at.Look))
    looked seen b free is so =
        let k = known (seeker_at slot at.Look) (Load (Slot slot HEAD)) (Found seen) is.0 so in
        subst (λ (t : Bool). Ended (if t then taking (seeker_at slot at.Look) seen (bucket_needed slot) else further (seeker_at slot at.Look))) free
        (subst Ended k.1.3 k.2)

    -- one that can be taken is taken, once the bucket that it needs has its words
    pub seen_needs : (seen bucket : ℕ) → Some bucket ≡ bucket_needed slot → can_be_taken seen ≡ true → Was slot at.Look
        → then_ v (Load (Slot slot HEAD)) (Found seen) w → Is slot (at.Widen bucket seen)
    seen_needs seen bucket needs free is so =
        let e : Ended (taking (seeker_at slot at.Look) seen (Some bucket)) =
        subst (λ (o : Option ℕ). Ended (taking (seeker_at slot at.Look) seen o)) (sym needs) (looked seen true free is so) in (e.0, e.1 ∙ is.1)

    pub seen_free : (seen : ℕ) → bucket_needed slot ≡ None → can_be_taken seen ≡ true → Was slot at.Look
        → then_ v (Load (Slot slot HEAD)) (Found seen) w → Is slot (at.Take seen)
    seen_free seen needs free is so =
        let e : Ended (taking (seeker_at slot at.Look) seen None) =
        subst (λ (o : Option ℕ). Ended (taking (seeker_at slot at.Look) seen o)) needs (looked seen true free is so) in (e.0, e.1 ∙ is.1)

    pub seen_taken : (seen : ℕ) → can_be_taken seen ≡ false → Was slot at.Look → then_ v (Load (Slot slot HEAD)) (Found seen) w → SeeksNow (slot + 1)
    seen_taken seen free is so = past at.Look is.1 (nat_lt slot LAST_SLOT) refl (looked seen false free is so)

    -- the bucket that it needs has its words, or is refused
    widened_there : (seen bucket : ℕ) (u : _) → Was slot (at.Widen bucket seen) → then_ v (Room bucket) (Roomed (Ok u)) w
        → Is slot (at.Take seen)
    widened_there seen bucket u is so =
        let k = known (seeker_at slot (at.Widen bucket seen)) (Room bucket) (Roomed (Ok u)) is.0 so in
        let e : Ended (going (seeker_at slot (at.Widen bucket seen)) (at.Take seen)) = subst Ended k.1.3 k.2 in (e.0, e.1 ∙ is.1)

    widened_refused : (seen bucket : ℕ) (f : Fault) → Some bucket ≡ bucket_needed slot → Was slot (at.Widen bucket seen)
        → then_ v (Room bucket) (Roomed (Err f)) w → IsUnderWay row (acts w)
    widened_refused seen bucket f needs is so =
        let k = known (seeker_at slot (at.Widen bucket seen)) (Room bucket) (Roomed (Err f)) is.0 so in
        let e : Ended (refused (seeker_at slot (at.Widen bucket seen)) f) = subst Ended k.1.3 k.2 in under is.1 (e.1 (λ first. (let nothing : bucket_needed slot ≡ None = ap bucket_needed first in cc (needs, nothing))))

    pub widened : (seen bucket : ℕ) (r : Result _ Fault) → Some bucket ≡ bucket_needed slot → Was slot (at.Widen bucket seen) → then_ v (Room bucket) (Roomed r) w
        → (is_err r ≡ true → IsUnderWay row (acts w)) × (is_err r ≡ false → Is slot (at.Take seen))
    widened seen bucket (Ok u) needs is so = (λ yes. absurd (cc yes), λ no. widened_there seen bucket u is so)
    widened seen bucket (Err f) needs is so = (λ yes. widened_refused seen bucket f needs is so, λ no. absurd (cc no))

    -- it was taken, or somebody was faster
    taken_there : (seen found : ℕ) → Was slot (at.Take seen) → then_ v (Exchange (Slot slot HEAD) seen IDLE) (Exchanged (Ok found)) w → IsUnderWay row (acts w)
    taken_there seen found is so =
        let c : Register = seeker_at slot (at.Take seen) in let k = known c (Exchange (Slot slot HEAD) seen IDLE) (Exchanged (Ok found)) is.0 so in
        let e : Ended (registered c) = subst Ended k.1.3 k.2 in under is.1 e

    taken_lost : (seen found : ℕ) → Was slot (at.Take seen) → then_ v (Exchange (Slot slot HEAD) seen IDLE) (Exchanged (Err found)) w → SeeksNow (slot + 1)
    taken_lost seen found is so =
        let c : Register = seeker_at slot (at.Take seen) in let k = known c (Exchange (Slot slot HEAD) seen IDLE) (Exchanged (Err found)) is.0 so in
        past (at.Take seen) is.1 (nat_lt slot LAST_SLOT) refl (subst Ended k.1.3 k.2)

    -- whatever was answered
    pub occupied : (seen : ℕ) (r : Result ℕ ℕ) → Was slot (at.Take seen) → then_ v (Exchange (Slot slot HEAD) seen IDLE) (Exchanged r) w
        → (is_ok r ≡ true → IsUnderWay row (acts w)) × (is_ok r ≡ false → SeeksNow (slot + 1))
    occupied seen (Ok found) is so = (λ yes. taken_there seen found is so, λ no. absurd (cc no))
    occupied seen (Err found) is so = (λ yes. absurd (cc yes), λ no. taken_lost seen found is so)

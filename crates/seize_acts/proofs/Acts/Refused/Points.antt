-- What a registering row has seen at each of its points, and what its step is refused for.
use Rattle.std.specs.Prelude.{Option, Some, None, nat_lt, if◌then◌else◌}
use Rattle.std.proofs.Common.{◌≡◌, ℕ, ◌+◌, ◌<◌, ◌≤◌, Bool, true, false, ◌⊎◌, inl, inr, refl, arith, ap, sym, subst, ◌∙◌}
use Rattle.std.proofs.lemmas.Bool.{cases_lt}
use Rattle.seize_words.specs.declared.at.At.TheVariants.{Slot}
use Rattle.seize_words.specs.declared.fault.Fault.TheVariants.{SlotsUsedUp, Memory}
use Rattle.seize_words.specs.OneMemory.Mem.{Mem, Took, value_at, word_at, with_room}
use Rattle.seize_words.specs.OneMemory.Plan.{Steps, Now}
use Rattle.seize_words.proofs.OneMemory.OneOwner.Operations.{loaded, stored, exchanged, roomed}
use Rattle.seize.specs.declared.states.TheConstants.{HEAD, IDLE, ACTIVE, LAST_SLOT}
use Rattle.seize.specs.declared.advance.Advance.{Advance}
use Rattle.seize.specs.declared.advance.Advance.TheVariants.{Goes, Waits, Done, Refused}
use Rattle.seize.specs.declared.rows.register.Register.{Register}
use Rattle.seize.specs.declared.rows.register.Registering.{Registering}
use Rattle.seize.specs.declared.rows.register.Registering.TheVariants as at
use Rattle.seize.specs.Register.{begun, looked, widened, taken, further, taking, going, refused, registered, can_be_taken, bucket_needed, plan_at}
use Rattle.seize_model.proofs.Given.SeizeMemoryWords.Named.{words_of, word_found}
use Rattle.seize_model.proofs.Given.SeizeMemoryWords.View.{View}
use Rattle.seize_model.proofs.Given.SeizeRuleRows.Register.{room_view}
use Rattle.seize_acts.specs.Acts.Refused.{IsHad}

module _ {T : Type 0} where
  -- a head that says so is one that is there
  pub had_is : (s : ℕ) (m : Mem T) → can_be_taken (words_of m (Slot s HEAD)) ≡ false → IsHad s m
  had_is s m = by (word_at m (Slot s HEAD)) refl
    where
      none : can_be_taken 0 ≡ false → ⊥
      none e = cc e

      by : (o : Option ℕ) → word_at m (Slot s HEAD) ≡ o → can_be_taken (words_of m (Slot s HEAD)) ≡ false → IsHad s m
      by None e had = absurd (none (ap can_be_taken (sym (none_found e)) ∙ had))
        where
          none_found : word_at m (Slot s HEAD) ≡ None → words_of m (Slot s HEAD) ≡ 0
          none_found f = rw f refl
      by (Some head) e had = (head, e, ap can_be_taken (sym (word_found m (Slot s HEAD) head e)) ∙ had)

  -- All slots below were had, K says when. A slot that it found free is so still, or was had, too.
  abbrev pub Found' : (ℕ → Type 0) → Mem T → ℕ → ℕ → Type 0
  Found' K m s seen = ((t : ℕ) → t < s → K t) × (can_be_taken seen ≡ true) × ((words_of m (Slot s HEAD) ≡ seen) ⊎ K s)

  abbrev pub Known : (ℕ → Type 0) → Mem T → ℕ → Registering → Type 0
  Known K m s at.Begin = s ≡ 0
  Known K m s at.Look = (t : ℕ) → t < s → K t
  Known K m s (at.Widen bucket seen) = Found' K m s seen
  Known K m s (at.Take seen) = Found' K m s seen
  Known K m s at.Enter = Unit {0}
  Known K m s at.Registered = Unit {0}
  Known K m s (at.Refused fault) = fault ≡ SlotsUsedUp → (t : ℕ) → t ≤ LAST_SLOT → K t

  -- what a step comes to
  abbrev pub KnownEnd : (ℕ → Type 0) → Mem T → Register × Advance ℕ → Type 0
  KnownEnd K m (d, Goes) = Known K m d.slot d.stands
  KnownEnd K m (d, Waits) = Known K m d.slot d.stands
  KnownEnd K m (d, Done s) = Unit {0}
  KnownEnd K m (d, Refused fault) = fault ≡ SlotsUsedUp → (t : ℕ) → t ≤ LAST_SLOT → K t

module _ {T : Type 0} (defers : T → Option ℕ) (m m2 : Mem T) (c : Register) (K : ℕ → Type 0) where
  no_memory : Memory ≡ SlotsUsedUp → (t : ℕ) → t ≤ LAST_SLOT → K t
  no_memory e = absurd (cc e)

  as_end : (end want : Register × Advance ℕ) → end ≡ want → KnownEnd K m2 want → KnownEnd K m2 end
  as_end end want e h = subst (λ (q : Register × Advance ℕ). KnownEnd K m2 q) (sym e) h

  -- this slot was had, too
  one_more : ((t : ℕ) → t < c.slot → K t) → K c.slot → (t : ℕ) → t < c.slot + 1 → K t
  one_more below here t l = elim (cases_lt t c.slot) as (λ _. K t) [
    | inl less ↦ below t less
    | inr le ↦ let same : c.slot ≡ t = omega (arith, l, le) in subst K same here
  ]

  further_known : ((t : ℕ) → t < c.slot + 1 → K t) → (y : Bool) → nat_lt c.slot LAST_SLOT ≡ y
      → KnownEnd K m2 (if y then going (record c { slot = c.slot + 1 }) at.Look else refused c SlotsUsedUp)
  further_known below true e = below
  further_known below false e = λ is t le. let last : LAST_SLOT ≤ c.slot = grind (arith, e) in below t (omega (arith, le, last))

  taking_known : (seen : ℕ) → Found' K m2 c.slot seen → (o : Option ℕ) → KnownEnd K m2 (taking c seen o)
  taking_known seen found None = found
  taking_known seen found (Some bucket) = found

  looked_known : (head : ℕ) → ((t : ℕ) → t < c.slot → K t) → words_of m2 (Slot c.slot HEAD) ≡ head → (y : Bool) → can_be_taken head ≡ y
      → (can_be_taken head ≡ false → K c.slot)
      → KnownEnd K m2 (if y then taking c head (bucket_needed c.slot) else further c)
  looked_known head below is true e had = taking_known head (below, e, inl is) (bucket_needed c.slot)
  looked_known head below is false e had = further_known (one_more below (had e)) (nat_lt c.slot LAST_SLOT) refl

  taken_known : (y : Bool) → KnownEnd K m2 (if y then going c at.Enter else registered c)
  taken_known true = tt
  taken_known false = tt

  room_same : (bucket s : ℕ) → words_of (with_room m bucket) (Slot s HEAD) ≡ words_of m (Slot s HEAD)
  room_same bucket s = ap (λ (g : View). g.heads s) (room_view defers m bucket)

  was_had : (seen found : ℕ) → (words_of m (Slot c.slot HEAD) ≡ seen) ⊎ K c.slot → word_at m (Slot c.slot HEAD) ≡ Some found → (found ≡ seen → ⊥) → K c.slot
  was_had seen found (inl is) e ne = absurd (ne (sym (word_found m (Slot c.slot HEAD) found e) ∙ is))
  was_had seen found (inr k) e ne = k

  -- the step of a row that knows this
  pub ends_known : (p : Registering) → Known K m c.slot p → (p ≡ at.Look → IsHad c.slot m → K c.slot) → (end : Register × Advance ℕ)
      → Steps Took value_at m (plan_at c p) m2 end
      → KnownEnd K m2 end
  ends_known at.Begin h look end st = elim (roomed m (begun c) 0 m2 end st) as (λ _. KnownEnd K m2 end) [
    | inl d ↦ as_end end (going c at.Look) d.1 (λ t l. absurd (omega (arith, l, h)))
    | inr d ↦ as_end end (refused c Memory) d.1 no_memory
  ]
  ends_known at.Look h look end st =
      let d = loaded m (looked c) (Slot c.slot HEAD) m2 end st in
      as_end end (if can_be_taken d.0 then taking c d.0 (bucket_needed c.slot) else further c) d.3
      (looked_known d.0 h (ap (λ (k : Mem T). words_of k (Slot c.slot HEAD)) d.2 ∙ word_found m (Slot c.slot HEAD) d.0 d.1)
      (can_be_taken d.0) refl (λ e. look refl (d.0, d.1, e)))
  ends_known (at.Widen bucket seen) h look end st = elim (roomed m (widened c seen) bucket m2 end st) as (λ _. KnownEnd K m2 end) [
    | inl d ↦ as_end end (going c (at.Take seen)) d.1 (h.0, h.1, by d.0 h.2)
    | inr d ↦ as_end end (refused c Memory) d.1 no_memory
  ]
    where
      by : m2 ≡ with_room m bucket → (words_of m (Slot c.slot HEAD) ≡ seen) ⊎ K c.slot → (words_of m2 (Slot c.slot HEAD) ≡ seen) ⊎ K c.slot
      by is (inl same) = inl (ap (λ (k : Mem T). words_of k (Slot c.slot HEAD)) is ∙ room_same bucket c.slot ∙ same)
      by is (inr k) = inr k
  ends_known (at.Take seen) h look end st = elim (exchanged m (taken c) (Slot c.slot HEAD) seen IDLE m2 end st) as (λ _. KnownEnd K m2 end) [
    | inl d ↦ as_end end (if c.enters then going c at.Enter else registered c) d.3 (taken_known c.enters)
    | inr d ↦ as_end end (further c) d.3 (further_known (one_more h.0 (was_had seen d.0 h.2 d.1.0 d.1.1)) (nat_lt c.slot LAST_SLOT) refl)
  ]
  ends_known at.Enter h look end st =
      let d = stored {R = Register × Advance ℕ} m (λ out. Now (registered c)) (Slot c.slot HEAD) ACTIVE m2 end st in as_end end (registered c) d.1 tt
  ends_known at.Registered h look end st = as_end end (c, Done c.slot) st.1 tt
  ends_known (at.Refused fault) h look end st = as_end end (c, Refused fault) st.1 h

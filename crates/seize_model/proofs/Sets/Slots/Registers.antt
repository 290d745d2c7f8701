-- A row that registers while no other row takes or frees a slot takes the first vacant one, or none.
use Rattle.std.specs.Prelude.{Option, Some, None, slice_get, if◌then◌else◌, nat_lt}
use Rattle.std.proofs.Common.{◌≡◌, ℕ, ◌+◌, ◌<◌, ◌≤◌, Bool, true, false, cond, eqb, eqb-true, List, [], length, ◌⊎◌, inl, inr, refl, arith, sym, subst, ap, ◌∙◌}
use Rattle.std.proofs.lemmas.Bool.{cases_eq}
use Rattle.std.proofs.Math.ListN.{get_or-eq_default}
use Rattle.seize.specs.Given.SeizeWordsDeclared.at.At.TheVariants as at
use Rattle.seize.specs.Given.SeizeWordsDeclared.fault.Fault.{Fault}
use Rattle.seize.specs.Given.SeizeWordsDeclared.fault.Fault.TheVariants.{Memory, SlotsUsedUp}
use Rattle.seize.specs.Given.SeizeWordsMem.{Mem, value_at, word_at, with_room, Took}
use Rattle.seize.specs.Given.SeizeWordsPlace.{capacity}
use Rattle.seize.specs.Given.SeizeWordsPlan.{Steps, Now}
use Rattle.seize.proofs.Given.SeizeWordsOneOwner.Operations.{loaded, stored, exchanged, roomed}
use Rattle.seize.specs.declared.states.TheConstants.{HEAD, NEVER, IDLE, ACTIVE, LAST_SLOT}
use Rattle.seize.specs.declared.advance.Advance.{Advance}
use Rattle.seize.specs.declared.advance.Advance.TheVariants.{Goes, Done, Refused}
use Rattle.seize.specs.declared.rows.register.Register.{Register}
use Rattle.seize.specs.declared.rows.register.Registering.{Registering}
use Rattle.seize.specs.declared.rows.register.Registering.TheVariants as stands
use Rattle.seize.specs.Register.{begun, looked, widened, taken, further, taking, going, refused, registered, can_be_taken, bucket_needed, MayNeedRoom, plan_at, register_plan}
use Rattle.seize.specs.Room.{NeedsRoom}
use Rattle.seize.specs.Law.{is_open}
use Rattle.seize.specs.World.{World, Row, Rests, Registers, Use, Vacant, Outside, Inside, Changing, with_at, registered_use, registered_as, registers_on}
use Rattle.seize.specs.Sequence.{new_slot}
use Rattle.seize_rule.specs.Given.SeizeWaitingHeld.{same}
use Rattle.seize_rule.proofs.Given.SeizeMovesState.Ghost.{Head, Never, Free, Idle, Active, is_never, emptied}
use Rattle.seize_rule.proofs.Given.SeizeMemoryWords.Named.{words_of, word_found}
use Rattle.seize_rule.proofs.Given.SeizeMemoryWords.View.{View, view}
use Rattle.seize_rule.proofs.Given.SeizeMemoryWords.Shows.{HeadIs}
use Rattle.seize_rule.proofs.Rows.Known.{works_on, registering_on, FitsRegister, FitsRow}
use Rattle.seize_rule.proofs.Given.SeizeMemoryWords.Room.{needed_is, needed_not}
use Rattle.seize_rule.proofs.Rows.Teams.{UseFits, VacantHead}
use Rattle.seize_rule.proofs.World.Good.{Good}
use Rattle.seize_rule.proofs.Rows.Register.{room_view, taken_use}
use Rattle.seize_rule.proofs.Rows.Others.{OthersRest, with_here}
use Rattle.seize_model.proofs.Sets.Slots.Vacant.{NoneVacant, none_more, new_slot_is, new_slot_none}
use Rattle.seize.proofs.Beginnings.{begun_is as begun_some}
use Rattle.seize_model.proofs.Sets.Turns.Heads.{nobody as no_team}

-- how a slot is used that a row has taken
abbrev pub use_taken : Bool → Use
use_taken true = Inside 0
use_taken false = Outside 0

-- why a row is refused: there is no more memory for the words that a slot needs, or no slot was vacant
abbrev pub WhyRefused : {T : Type 0} → Mem T → (ℕ → Use) → Fault → Type 0
WhyRefused m uses fault = ((fault ≡ Memory) × NeedsRoom m uses) ⊎ ((fault ≡ SlotsUsedUp) × (new_slot uses ≡ None))

module _ {T : Type 0} where
  -- The slots below the one that it looks at are not vacant, and the head that it read is still there. Where it is to enter the slot,
  -- it has taken the first that was vacant.
  abbrev pub LooksAt : (ℕ → Use) → Bool → Mem T → ℕ → Registering → Type 0
  LooksAt uses enters m s stands.Begin = NoneVacant uses 0 s
  LooksAt uses enters m s stands.Look = NoneVacant uses 0 s
  LooksAt uses enters m s (stands.Widen bucket seen) = NoneVacant uses 0 s × (words_of m (at.Slot s HEAD) ≡ seen)
  LooksAt uses enters m s (stands.Take seen) = NoneVacant uses 0 s × (words_of m (at.Slot s HEAD) ≡ seen)
  LooksAt uses enters m s stands.Enter = (new_slot uses ≡ Some s) × (enters ≡ true)
  LooksAt uses enters m s stands.Registered = ⊥
  LooksAt uses enters m s (stands.Refused fault) = ⊥

  -- a row in the middle of registering: until its last step the slots are used as when it began
  pub record RegistersOn (uses : ℕ → Use) (enters : Bool) (w : World T) (c : Register) : Type 0 where
    pub uses_same : w.uses ≡ uses
    pub enters_same : c.enters ≡ enters
    pub looks : LooksAt uses enters w.memory c.slot c.stands

  -- what a step of it comes to: it goes on, or it is refused, or it has taken the first slot that was vacant
  pub data Comes (uses : ℕ → Use) (enters : Bool) (i : ℕ) (w2 : World T) (end : Register × Advance ℕ) : Type 0 where
    GoesOn : (c2 : Register) → end ≡ (c2, Goes) → w2.row i ≡ Registers c2 → RegistersOn uses enters w2 c2 → Comes uses enters i w2 end
    IsRefused : (c2 : Register) (fault : Fault) → end ≡ (c2, Refused fault) → w2.row i ≡ Rests → w2.uses ≡ uses → WhyRefused w2.memory uses fault → Comes uses enters i w2 end
    TakesFirst : (c2 : Register) (s : ℕ) → end ≡ (c2, Done s) → w2.row i ≡ Rests → new_slot uses ≡ Some s → w2.uses ≡ with_at uses s (use_taken enters) → Comes uses enters i w2 end

not_free : (v a : ℕ) → v ≡ a → can_be_taken a ≡ true → can_be_taken v ≡ false → ⊥
not_free v a e h f = let k : can_be_taken v ≡ true = ap can_be_taken e ∙ h in cc (k, f)

-- no other row works on a vacant slot
abbrev pub NoneOnVacant : {T : Type 0} → ℕ → World T → Type 0
NoneOnVacant i w = (j t : ℕ) → (j ≡ i → ⊥) → works_on (w.row j) ≡ t + 1 → w.uses t ≡ Vacant → ⊥

-- so it is while all others rest
rest_apart : {T : Type 0} (i : ℕ) (w : World T) → OthersRest i w → NoneOnVacant i w
rest_apart i w others j t other on vacant = let k : works_on (w.row j) ≡ 0 = ap works_on (others j other) in omega (arith, k, on)

not_same : (a b : ℕ) → (b ≡ a → ⊥) → same a b ≡ 0
not_same a b ne = by (eqb a b) refl
  where
    by : (q : Bool) → eqb a b ≡ q → same a b ≡ 0
    by true e = absurd (ne (sym (eqb-true a b e)))
    by false e = ap {B = ℕ} (λ (q : Bool). cond q 1 0) e

-- a slot that was never taken is vacant
pub never_used : (u : Use) (h : Head) (k : ℕ) (o : Bool) → h ≡ Never → UseFits u (emptied h) k o → u ≡ Vacant
never_used u h k o e f = by u (subst (λ (x : Head). UseFits u (emptied x) k o) e f)
  where
    by : (u : Use) → UseFits u Never k o → u ≡ Vacant
    by Vacant f = refl
    by (Outside j) f = absurd (let z = f.0 in cc z)
    by (Inside j) f = absurd (let z = f.0 in cc z)
    by Changing f = absurd (let z = f.0 in cc z)

-- a slot that can't be taken, and that nobody works on, is not vacant
not_vacant_head : (links : ℕ → ℕ) (v : ℕ) (h : Head) (k : ℕ) → HeadIs links v h → can_be_taken v ≡ false → k ≡ 0 → VacantHead (emptied h) k → ⊥
not_vacant_head links v Never k e f none u = not_free v 0 e refl f
not_vacant_head links v Free k e f none u = not_free v 1 e refl f
not_vacant_head links v Idle k e f none u = cc (none, u)
not_vacant_head links v (Active es) k e f none u = u

module _ {T : Type 0} {size : ℕ} (defers : T → Option ℕ) (n : ℕ) (last : n ≡ LAST_SLOT + 1) (w : World T) (good : Good defers n size w) (i : ℕ) (c : Register) (is : w.row i ≡ Registers c)
    (apart : NoneOnVacant i w) (uses : ℕ → Use) (enters : Bool) (on : RegistersOn uses enters w c) where
  -- how it ends

  goes : (mem2 : Mem T) (c2 : Register) (end : Register × Advance ℕ) → end ≡ (c2, Goes) → c2.enters ≡ c.enters → LooksAt uses enters mem2 c2.slot c2.stands
      → Comes uses enters i (registers_on w i c mem2 end) end
  goes mem2 c2 end e keeps looks =
      subst (λ (q : Register × Advance ℕ). Comes uses enters i (registers_on w i c mem2 q) q) (sym e)
      (GoesOn c2 refl (with_here w.row i (Registers c2)) (record { uses_same = on.uses_same; enters_same = keeps ∙ on.enters_same; looks = looks }))

  refuses : (mem2 : Mem T) (c2 : Register) (fault : Fault) (end : Register × Advance ℕ) → end ≡ (c2, Refused fault) → WhyRefused mem2 uses fault
      → Comes uses enters i (registers_on w i c mem2 end) end
  refuses mem2 c2 fault end e none =
      subst (λ (q : Register × Advance ℕ). Comes uses enters i (registers_on w i c mem2 q) q) (sym e)
      (IsRefused c2 fault refl (with_here w.row i Rests) on.uses_same none)

  takes : (mem2 : Mem T) (c2 : Register) (end : Register × Advance ℕ) → end ≡ (c2, Done c.slot) → new_slot uses ≡ Some c.slot → registered_as c ≡ use_taken enters
      → Comes uses enters i (registers_on w i c mem2 end) end
  takes mem2 c2 end e first used =
      subst (λ (q : Register × Advance ℕ). Comes uses enters i (registers_on w i c mem2 q) q) (sym e)
      (TakesFirst c2 c.slot refl (with_here w.row i Rests) first
      (ap (λ (f : ℕ → Use). with_at f c.slot (registered_as c)) on.uses_same ∙ ap (λ (u : Use). with_at uses c.slot u) used))

  -- nobody works on a slot that it looks at

  no_work : works_on (w.row i) ≡ 0 → w.uses c.slot ≡ Vacant → (j : ℕ) → works_on (w.row j) ≡ c.slot + 1 → ⊥
  no_work mine vacant j at_it = elim (cases_eq j i) as (λ _. ⊥) [
    | inl same_row ↦ (let k : works_on (w.row j) ≡ 0 = ap (λ k. works_on (w.row k)) same_row ∙ mine in omega (arith, k, at_it))
    | inr other ↦ apart j c.slot other at_it vacant
  ]

  no_one : works_on (w.row i) ≡ 0 → w.uses c.slot ≡ Vacant → length (good.used.team c.slot) ≡ 0
  no_one mine vacant =
      no_team (good.used.team c.slot) (λ j. good.used.teamed c.slot j ∙ not_same (c.slot + 1) (works_on (w.row j)) (no_work mine vacant j))

  not_vacant : (v : ℕ) → works_on (w.row i) ≡ 0 → words_of w.memory (at.Slot c.slot HEAD) ≡ v → can_be_taken v ≡ false → uses c.slot ≡ Vacant → ⊥
  not_vacant v mine e f u =
      let k : w.uses c.slot ≡ Vacant = ap (λ (g : ℕ → Use). g c.slot) on.uses_same ∙ u in
      not_vacant_head (view defers w.memory).links v (good.state.head c.slot) (length (good.used.team c.slot))
      (subst (λ (x : ℕ). HeadIs (view defers w.memory).links x (good.state.head c.slot)) e (good.shows.entries.headed c.slot)) f (no_one mine k)
      (rw k at (good.used.fits c.slot))

  -- it passes over a slot that isn't vacant
  passes : (mem2 : Mem T) (end : Register × Advance ℕ) → NoneVacant uses 0 c.slot → (uses c.slot ≡ Vacant → ⊥) → (t : Bool) → nat_lt c.slot LAST_SLOT ≡ t
      → end ≡ (if t then going (record c { slot = c.slot + 1 }) stands.Look else refused c SlotsUsedUp) → Comes uses enters i (registers_on w i c mem2 end) end
  passes mem2 end none here true lt e = goes mem2 (record c { slot = c.slot + 1; stands = stands.Look }) end e refl (none_more uses 0 c.slot none here)
  passes mem2 end none here false lt e =
      refuses mem2 (record c { stands = stands.Refused SlotsUsedUp }) SlotsUsedUp end e
      (inr (refl, new_slot_none n (c.slot + 1) uses last (past lt) (none_more uses 0 c.slot none here)))
    where
      past : nat_lt c.slot LAST_SLOT ≡ false → n ≤ c.slot + 1
      past h = let k : LAST_SLOT ≤ c.slot = grind arith in omega (arith, k, last)

  -- it is to take the slot, once there is room
  turns_to : (seen : ℕ) (mem2 : Mem T) (end : Register × Advance ℕ) → NoneVacant uses 0 c.slot → words_of mem2 (at.Slot c.slot HEAD) ≡ seen → (o : Option ℕ)
      → end ≡ taking c seen o → Comes uses enters i (registers_on w i c mem2 end) end
  turns_to seen mem2 end none word (Some bucket) e = goes mem2 (record c { stands = stands.Widen bucket seen }) end e refl (none, word)
  turns_to seen mem2 end none word None e = goes mem2 (record c { stands = stands.Take seen }) end e refl (none, word)

  looks_at : (v : ℕ) (mem2 : Mem T) (end : Register × Advance ℕ) → works_on (w.row i) ≡ 0 → NoneVacant uses 0 c.slot → words_of w.memory (at.Slot c.slot HEAD) ≡ v → mem2 ≡ w.memory
      → (t : Bool) → can_be_taken v ≡ t → end ≡ (if t then taking c v (bucket_needed c.slot) else further c) → Comes uses enters i (registers_on w i c mem2 end) end
  looks_at v mem2 end mine none word unchanged true f e = turns_to v mem2 end none (ap (λ (m : Mem T). words_of m (at.Slot c.slot HEAD)) unchanged ∙ word) (bucket_needed c.slot) e
  looks_at v mem2 end mine none word unchanged false f e = passes mem2 end none (not_vacant v mine word f) (nat_lt c.slot LAST_SLOT) refl e

  -- it has taken the slot
  wins : (mem2 : Mem T) (end : Register × Advance ℕ) (seen : ℕ) → c.stands ≡ stands.Take seen → new_slot uses ≡ Some c.slot → (t : Bool) → c.enters ≡ t
      → end ≡ (if t then going c stands.Enter else registered c) → Comes uses enters i (registers_on w i c mem2 end) end
  wins mem2 end seen s first true k e = goes mem2 (record c { stands = stands.Enter }) end e refl (first, sym on.enters_same ∙ k)
  wins mem2 end seen s first false k e =
      takes mem2 (record c { stands = stands.Registered }) end e first (ap registered_use s ∙ sym (ap use_taken (sym on.enters_same ∙ k)))

  room_word : (bucket seen : ℕ) (mem2 : Mem T) → mem2 ≡ with_room w.memory bucket → words_of w.memory (at.Slot c.slot HEAD) ≡ seen → words_of mem2 (at.Slot c.slot HEAD) ≡ seen
  room_word bucket seen mem2 e word =
      ap (λ (m : Mem T). words_of m (at.Slot c.slot HEAD)) e ∙ (ap (λ (f : View). f.heads c.slot) (room_view defers w.memory bucket) ∙ word)

  -- it needs room

  no_words : (s : ℕ) → length w.memory.slots ≤ s → word_at w.memory (at.Slot s HEAD) ≡ None
  no_words s past = ap (λ (words : List ℕ). slice_get words HEAD) (get_or-eq_default w.memory.slots [] past)

  never : (s : ℕ) → length w.memory.slots ≤ s + 1 → s + 1 < n → good.state.head s ≡ Never
  never s past lt = at_head (good.state.head s) (λ k. let there = good.room.enough s (s + 1) k (omega arith) lt in omega (arith, there, past))
    where
      at_head : (h : Head) → (is_never h ≡ false → ⊥) → h ≡ Never
      at_head Never had = refl
      at_head Free had = absurd (had refl)
      at_head Idle had = absurd (had refl)
      at_head (Active es) had = absurd (had refl)

  never_taken : (s : ℕ) → good.state.head s ≡ Never → (head : ℕ) → word_at w.memory (at.Slot s HEAD) ≡ Some head → head ≡ NEVER
  never_taken s e head found =
      let h : HeadIs (view defers w.memory).links (words_of w.memory (at.Slot s HEAD)) Never =
      subst (λ (x : Head). HeadIs (view defers w.memory).links (words_of w.memory (at.Slot s HEAD)) x) e (good.shows.entries.headed s) in
      sym (word_found w.memory (at.Slot s HEAD) head found) ∙ h

  needs : (s : ℕ) → MayNeedRoom s → NoneVacant uses 0 s → uses s ≡ Vacant → s < n → s + 1 < n → length w.memory.slots ≤ s + 1 → NeedsRoom w.memory uses
  needs s may none vacant lt next past = (s, new_slot_is n s uses last lt none vacant, may, never_taken s (never s past next), no_words (s + 1) past)

  -- no slot has words
  first_needs : NoneVacant uses 0 0 → length w.memory.slots ≡ 0 → NeedsRoom w.memory uses
  first_needs none long =
      needs 0 (inl refl) none
      (sym (ap (λ (g : ℕ → Use). g 0) on.uses_same) ∙ never_used (w.uses 0) (good.state.head 0) (length (good.used.team 0)) (is_open 0 good.state.log) (never 0 (omega (arith, long)) (omega (arith, last))) (good.used.fits 0))
      (omega (arith, last)) (omega (arith, last)) (omega (arith, long))

  -- those behind it have none
  behind_all : (bucket : ℕ) → bucket_needed c.slot ≡ Some bucket → length w.memory.slots + 32 ≡ capacity bucket → length w.memory.slots ≤ c.slot + 1
  behind_all bucket some long =
      let k = begun_some 59 0 (c.slot + 1) bucket (needed_is c.slot (Some bucket) some (needed_not c.slot bucket some)) in omega (arith, k.0, long)

  on_at : (p : Registering) (k : ℕ) → c.stands ≡ p → registering_on c.slot p ≡ k → works_on (w.row i) ≡ k
  on_at p k s h = ap works_on is ∙ ap (registering_on c.slot) s ∙ h

  steps_at : (p : Registering) → c.stands ≡ p → FitsRegister n i good.state good.extra (length w.memory.slots) c.slot p → LooksAt uses enters w.memory c.slot p
      → (mem2 : Mem T) (end : Register × Advance ℕ) → Steps Took value_at w.memory (plan_at c p) mem2 end → Comes uses enters i (registers_on w i c mem2 end) end
  steps_at stands.Begin s r l mem2 end st =
      elim (roomed w.memory (begun c) 0 mem2 end st) as (λ _. Comes uses enters i (registers_on w i c mem2 end) end) [
        | inl d ↦ goes mem2 (record c { stands = stands.Look }) end d.1 refl l
        | inr d ↦ refuses mem2 (record c { stands = stands.Refused Memory }) Memory end d.1
            (inl (
              refl,
              subst (λ (m : Mem T). NeedsRoom m uses) (sym d.0)
                  (first_needs (subst (λ (s : ℕ). NoneVacant uses 0 s) r.first l) (let long = d.2 in omega (arith, long))),
            ))
      ]
  steps_at stands.Look s r l mem2 end st =
      let d = loaded w.memory (looked c) (at.Slot c.slot HEAD) mem2 end st in
      looks_at d.0 mem2 end (on_at stands.Look 0 s refl) l (word_found w.memory (at.Slot c.slot HEAD) d.0 d.1) d.2 (can_be_taken d.0) refl d.3
  steps_at (stands.Widen bucket seen) s r l mem2 end st =
      elim (roomed w.memory (widened c seen) bucket mem2 end st) as (λ _. Comes uses enters i (registers_on w i c mem2 end) end) [
        | inl d ↦ goes mem2 (record c { stands = stands.Take seen }) end d.1 refl (l.0, room_word bucket seen mem2 d.0 l.1)
        | inr d ↦ refuses mem2 (record c { stands = stands.Refused Memory }) Memory end d.1
            (inl (
              refl,
              subst (λ (m : Mem T). NeedsRoom m uses) (sym d.0)
                  (needs c.slot (inr (λ none. let some = r.needed in cc (none, some))) l.0 (sym (ap (λ (g : ℕ → Use). g c.slot) on.uses_same) ∙ (taken_use defers n last w good i c is seen r.sees.free l.1).2) r.sees.looks.slot_lt
                  (let next = needed_not c.slot bucket r.needed in omega (arith, next, last)) (behind_all bucket r.needed d.2)),
            ))
      ]
  steps_at (stands.Take seen) s r l mem2 end st =
      elim (exchanged w.memory (taken c) (at.Slot c.slot HEAD) seen IDLE mem2 end st) as (λ _. Comes uses enters i (registers_on w i c mem2 end) end) [
        | inl d ↦
            (let k = taken_use defers n last w good i c is seen r.sees.free l.1 in
            wins mem2 end seen s
            (new_slot_is n c.slot uses last r.sees.looks.slot_lt l.0 (sym (ap (λ (g : ℕ → Use). g c.slot) on.uses_same) ∙ k.2)) c.enters refl d.3)
        | inr d ↦ absurd (d.1.1 (sym (word_found w.memory (at.Slot c.slot HEAD) d.0 d.1.0) ∙ l.1))
      ]
  steps_at stands.Enter s r l mem2 end st =
      let d = stored {R = Register × Advance ℕ} w.memory (λ out. Now (registered c)) (at.Slot c.slot HEAD) ACTIVE mem2 end st in
      takes mem2 (record c { stands = stands.Registered }) end d.1 l.0 (ap registered_use s ∙ sym (ap use_taken l.1))
  steps_at stands.Registered s r l mem2 end st = absurd r
  steps_at (stands.Refused fault) s r l mem2 end st = absurd r

  fits_here : FitsRegister n i good.state good.extra (length w.memory.slots) c.slot c.stands
  fits_here = subst (λ (row : Row). FitsRow n i (view defers w.memory) good.state good.extra (length w.memory.slots) row) is (good.rows i)

  pub registers_apart : (w2 : World T) (mem2 : Mem T) (end : Register × Advance ℕ) → Steps Took value_at w.memory (register_plan c) mem2 end → w2 ≡ registers_on w i c mem2 end
      → Comes uses enters i w2 end
  registers_apart w2 mem2 end st e = subst (λ (v : World T). Comes uses enters i v end) (sym e) (steps_at c.stands refl fits_here on.looks mem2 end st)

-- while all others rest
pub registers_alone : {T : Type 0} {size : ℕ} (defers : T → Option ℕ) (n : ℕ) (last : n ≡ LAST_SLOT + 1) (w : World T) (good : Good defers n size w) (i : ℕ) (c : Register) (is : w.row i ≡ Registers c)
    (others : OthersRest i w) (uses : ℕ → Use) (enters : Bool) (on : RegistersOn uses enters w c) (w2 : World T) (mem2 : Mem T) (end : Register × Advance ℕ)
    → Steps Took value_at w.memory (register_plan c) mem2 end → w2 ≡ registers_on w i c mem2 end → Comes uses enters i w2 end
registers_alone defers n last w good i c is others uses enters on w2 mem2 end st e = registers_apart defers n last w good i c is (rest_apart i w others) uses enters on w2 mem2 end st e

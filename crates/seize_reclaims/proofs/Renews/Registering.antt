-- The seat that acts takes a slot first: each of its operations may be made, and where that has ended it begins to reclaim all.
use Rattle.std.specs.Prelude.{◌≢◌, Option, Some, None, IsSome, Ok, Err, nat_lt, ◌==◌, if◌then◌else◌, length}
use Rattle.std.proofs.Common.{◌≡◌, ℕ, ◌+◌, ◌*◌, ◌<◌, ◌≤◌, ◌^◌, Bool, true, false, List, [], ◌∷◌, ◌⊎◌, inl, inr, refl, sym, subst, ap, ◌∙◌, arith, eqb-true}
use Rattle.std.proofs.lemmas.Bool.{cases_eq, eqb-false}
use Rattle.seize_words.specs.OneMemory.Mem.{Mem, Can, Took, value_at, word_at}
use Rattle.seize_words.specs.OneMemory.SlotWords.{slot_word}
use Rattle.seize_words.specs.declared.fault.Fault.TheVariants.{SlotsUsedUp}
use Rattle.seize_words.specs.OneMemory.Op.{Op, Out, Load, Exchange, Room, Found, Stored, Exchanged, Made, Taken, Roomed}
use Rattle.seize_words.specs.OneMemory.Plan.{Plan, Then, Do, Ends, Steps, May}
use Rattle.seize_words.specs.declared.at.At.TheVariants.{Slot}
use Rattle.seize.specs.declared.states.TheConstants.{HEAD, IDLE, LAST_SLOT}
use Rattle.seize.specs.declared.advance.Advance.{Advance}
use Rattle.seize.specs.declared.advance.Advance.TheVariants as progress
use Rattle.seize.specs.declared.rows.register.Register.{Register}
use Rattle.seize.specs.declared.rows.register.Registering.{Registering}
use Rattle.seize.specs.declared.rows.register.Registering.TheVariants as at
use Rattle.seize.specs.declared.rows.reclaim_all.ReclaimAll.{ReclaimAll}
use Rattle.seize.specs.Register.{register_plan, plan_at, begun, looked, widened, taken, further, taking, going, refused, registered, can_be_taken, bucket_needed}
use Rattle.seize.specs.World.{World, Step, Steps', registers_on, registered_use, registered_as}
use Rattle.seize.specs.World as world
use Rattle.seize_model.proofs.Ends.Batches.Rows.{registers_memory}
use Rattle.seize_rule.proofs.Rows.Others.{with_here, with_other}
use Rattle.seize_rule.proofs.Given.SeizeMemoryWords.Room.{first_there, slots_grow, slot_there}
use Rattle.seize_rule.proofs.World.Kept.{row_may}
use Rattle.seize_seats.specs.Seats.State.{State, view_of, Goes}
use Rattle.seize_acts.specs.Quiet.Slots.{IsQuiescent, Stage}
use Rattle.seize_acts.proofs.Quiet.Ends.Counted.{slots_end}
use Rattle.seize_acts.proofs.Quiet.Promised.{slots_begin}
use Rattle.seize_views.specs.Views.Promises.{op_in}
use Rattle.seize_views.specs.Views.Rows.{IsSeeking, Came}
use Rattle.seize_views.specs.Views.Told.{HasOutcome}
use Rattle.seize_views.specs.declared.view.Fixed.{Fixed}
use Rattle.seize_views.proofs.Views.Came.{reached, came_then}
use Rattle.seize_reclaims.specs.Renews.Rule.{SeeksAt, all_of, over_of, IsAtPoint, HoldsAlone, KeepsNone, told}
use Rattle.seize_reclaims.specs.Renews.Promises.{RegisteringContinues}
use Rattle.seize_reclaims.specs.declared.alone.Alone.{Alone}
use Rattle.seize_reclaims.specs.declared.alone.Alone.TheVariants.{Registers, Reclaims}
use Rattle.seize_reclaims.proofs.Renews.Moved.{moved}
use Rattle.seize_reclaims.proofs.Renews.Roots.{came_quiet, step_stays}
use Rattle.seize_words.proofs.General.{same_some}

-- where there are no slots, none has a word
pub no_word : (slots : List (List ℕ)) → length slots ≡ 0 → slot_word slots 0 HEAD ≡ None
no_word [] none = refl
no_word (x ∷ slots) none = absurd (omega (arith, none))

-- taking a slot has come so far, in this memory
abbrev pub IsWell : {T : Type 0} → Mem T → Register × Advance ℕ → Type 0
IsWell m (d, progress.Done t) = Unit {0}
IsWell m (d, progress.Refused fault) = ((d.slot ≡ 0) × (length m.slots ≡ 0)) ⊎ ((d.slot ≢ 0) × (0 < length m.slots))
IsWell m (d, _) = (d.enters ≡ false) × IsSeeking d.stands × SeeksAt m d d.stands

module _ {T : Type 0} (m : Mem T) where
  pub well_either : (b : Bool) (x y : Register × Advance ℕ) → IsWell m x → IsWell m y → IsWell m (if b then x else y)
  well_either true x y p q = p
  well_either false x y p q = q

  pub well_further : (c : Register) → c.enters ≡ false → 0 < length m.slots → IsWell m (further c)
  well_further c short there = by (nat_lt c.slot LAST_SLOT) refl
    where
      by : (b : Bool) → nat_lt c.slot LAST_SLOT ≡ b → IsWell m (if b then going (record c { slot = c.slot + 1 }) at.Look else refused c SlotsUsedUp)
      by true e = (short, tt, there)
      by false e = inr ((λ z. let k : LAST_SLOT ≤ c.slot = grind (arith, e) in omega (arith, k, z)), there)

  pub well_taking : (c : Register) (seen : ℕ) (bucket : Option ℕ) → bucket_needed c.slot ≡ bucket → c.enters ≡ false → 0 < length m.slots → IsWell m (taking c seen bucket)
  well_taking c seen (Some bucket) is short there = (short, tt, ((λ z. first_needs_none (ap bucket_needed (sym z) ∙ is)), there))
    where
      first_needs_none : bucket_needed 0 ≡ Some bucket → ⊥
      first_needs_none e = cc e
  well_taking c seen None is short there = (short, tt, there)

module _ {T : Type 0} (defers : T → Option ℕ) (left_over : T → Bool) (fixed : Fixed) (word : fixed.batch_size < 2 ^ 64) (s : State T (Alone T) (World T)) (id : ℕ)
    (c : Register) (size : ℕ) (h : HoldsAlone defers left_over fixed s) (at_id : view_of s id ≡ Some (Registers c size)) where
  abbrev w : World T
  w = s.world

  stands : IsAtPoint defers left_over fixed w id (Registers c size)
  stands = h.seats id (Registers c size) at_id

  abbrev Gone : Op T → Out T → Mem T → Type 0
  Gone op out m = Took s.memory op out m → Goes (HoldsAlone defers left_over fixed) KeepsNone s m id (told defers left_over (Registers c size) op out)

  -- a step of its plan that ends so
  module _ (m : Mem T) (d : Register) (o : Advance ℕ) (steps : Steps Took value_at w.memory (register_plan c) m (d, o)) (well : IsWell m (d, o)) where
    abbrev n : World T
    n = registers_on w id c m (d, o)

    step : Steps' defers id (w.row id) w n
    step = subst (λ (row : world.Row). Steps' defers id row w n) (sym stands.1) (m, (d, o), steps, refl)

    came : Came defers fixed n
    came = came_then defers fixed w n (Step id) h.came step

    memory : n.memory ≡ m
    memory = registers_memory w id m c d o

    goes_to : (u : Alone T) → IsAtPoint defers left_over fixed n id u → (so : Alone T → Type 0) → so u → Goes (HoldsAlone defers left_over fixed) KeepsNone s m id so
    goes_to u own so is =
        moved defers left_over fixed s id (Registers c size) u h at_id m n came memory (step_stays defers fixed id w n h.came step) own so is

    -- with so many steps before it
    abbrev Begins : ReclaimAll → Type 0
    Begins k = (left : ℕ) × IsAtPoint defers left_over fixed n id (Reclaims k None left)

    counted : (k : ReclaimAll) → Stage defers fixed.batch_size id 0 k n → Begins k
    counted k stage = let e = slots_end defers left_over fixed.batch_size 0 id k n word (came_quiet defers fixed n came) stage in (e.0, (stage, e.1, tt))

    -- where no row is under way any more
    module _ (rests : (k : ℕ) → n.row k ≡ world.Rests) where
      all_may : IsSome (word_at n.memory (Slot 0 HEAD)) → Begins (all_of size)
      all_may there =
          subst (λ (x : ℕ). Begins (all_of x)) (sym stands.0)
          (counted (all_of fixed.batch_size) ((slots_begin defers fixed.batch_size 0 id n word (came_quiet defers fixed n came) rests).0 there))

      quiet_if : word_at n.memory (Slot 0 HEAD) ≡ None → IsQuiescent n
      quiet_if none = (slots_begin defers fixed.batch_size 0 id n word (came_quiet defers fixed n came) rests).1 none

      over_may : IsQuiescent n → Begins (over_of size)
      over_may quiet = subst (λ (x : ℕ). Begins (over_of x)) (sym stands.0) (counted (over_of fixed.batch_size) (record { size_is = refl; roots_are = refl; here = (refl, quiet) }))

      words_there : 0 < length m.slots → IsSome (word_at n.memory (Slot 0 HEAD))
      words_there some =
          slot_there n.memory 0 HEAD (reached defers fixed n came).good.room.bucketed (subst (λ (x : Mem T). 0 < length x.slots) (sym memory) some) (omega arith)

  rests_then : (m : Mem T) (d : Register) (t : ℕ) → (k : ℕ) → (registers_on w id c m (d, progress.Done t)).row k ≡ world.Rests
  rests_then m d t k = elim (cases_eq k id) as (λ _. (registers_on w id c m (d, progress.Done t)).row k ≡ world.Rests) [
    | inl same ↦ ap (registers_on w id c m (d, progress.Done t)).row same ∙ with_here w.row id world.Rests
    | inr ne ↦ with_other w.row id k world.Rests ne ∙ stands.2 k ne
  ]

  rests_refused : (m : Mem T) (d : Register) (fault : _) → (k : ℕ) → (registers_on w id c m (d, progress.Refused fault)).row k ≡ world.Rests
  rests_refused m d fault k = elim (cases_eq k id) as (λ _. (registers_on w id c m (d, progress.Refused fault)).row k ≡ world.Rests) [
    | inl same ↦ ap (registers_on w id c m (d, progress.Refused fault)).row same ∙ with_here w.row id world.Rests
    | inr ne ↦ with_other w.row id k world.Rests ne ∙ stands.2 k ne
  ]

  -- so it is registered, and no section is open
  outside : (p : Registering) → IsSeeking p → registered_use p ≡ world.Outside 0
  outside at.Begin seeks = refl
  outside at.Look seeks = refl
  outside (at.Widen bucket seen) seeks = refl
  outside (at.Take seen) seeks = refl
  outside at.Enter seeks = absurd seeks
  outside at.Registered seeks = absurd seeks
  outside (at.Refused fault) seeks = absurd seeks

  -- a slot that was taken has words
  taken_there : (m : Mem T) (d : Register) (t : ℕ) (steps : Steps Took value_at w.memory (register_plan c) m (d, progress.Done t))
      → IsSome (word_at (registers_on w id c m (d, progress.Done t)).memory (Slot 0 HEAD))
  taken_there m d t steps = by (word_at (registers_on w id c m (d, progress.Done t)).memory (Slot 0 HEAD)) refl
    where
      by : (o : Option ℕ) → word_at (registers_on w id c m (d, progress.Done t)).memory (Slot 0 HEAD) ≡ o → IsSome (word_at (registers_on w id c m (d, progress.Done t)).memory (Slot 0 HEAD))
      by (Some x) e = subst (λ (p : Option ℕ). IsSome p) (sym e) refl
      by None e =
          let vacant = (quiet_if m d (progress.Done t) steps tt (rests_then m d t) e).vacant t in
          let used = with_here w.uses t (registered_as c) ∙ outside c.stands stands.4 in
          absurd (cc (vacant, used))

  goes : (op : Op T) (out : Out T) (m : Mem T) (d : Register) (o : Advance ℕ) → Steps Took value_at w.memory (register_plan c) m (d, o) → HasOutcome (register_plan {T = T} c) out (d, o)
      → IsWell m (d, o) → Goes (HoldsAlone defers left_over fixed) KeepsNone s m id (told defers left_over (Registers c size) op out)
  goes op out m d progress.Goes steps comes well =
      goes_to m d progress.Goes steps well (Registers d size)
      (stands.0, with_here w.row id (world.Registers d), (λ k ne. with_other w.row id k (world.Registers d) ne ∙ stands.2 k ne), well.0, well.1, well.2)
      (told defers left_over (Registers c size) op out) ((d, progress.Goes), comes, refl)
  goes op out m d progress.Waits steps comes well =
      goes_to m d progress.Waits steps well (Registers d size)
      (stands.0, with_here w.row id (world.Registers d), (λ k ne. with_other w.row id k (world.Registers d) ne ∙ stands.2 k ne), well.0, well.1, well.2)
      (told defers left_over (Registers c size) op out) ((d, progress.Waits), comes, refl)
  goes op out m d (progress.Done t) steps comes well =
      let k = all_may m d (progress.Done t) steps well (rests_then m d t) (taken_there m d t steps) in
      goes_to m d (progress.Done t) steps well (Reclaims (all_of size) None k.0) k.1 (told defers left_over (Registers c size) op out) ((d, progress.Done t), comes, (k.0, refl))
  goes op out m d (progress.Refused fault) steps comes well = by (d.slot == 0) (eqb-true d.slot 0) (eqb-false d.slot 0) refl
    where
      behind : (k : ReclaimAll) → k ≡ (if d.slot == 0 then over_of size else all_of size)
          → (left : ℕ) × IsAtPoint defers left_over fixed (registers_on w id c m (d, progress.Refused fault)) id (Reclaims k None left)
          → Goes (HoldsAlone defers left_over fixed) KeepsNone s m id (told defers left_over (Registers c size) op out)
      behind k is b =
          goes_to m d (progress.Refused fault) steps well (Reclaims k None b.0) b.1 (told defers left_over (Registers c size) op out)
          ((d, progress.Refused fault), comes, (b.0, ap (λ (x : ReclaimAll). Reclaims x None b.0) is))

      none_at : length m.slots ≡ 0 → word_at m (Slot 0 HEAD) ≡ None
      none_at none = no_word m.slots none

      by : (b : Bool) → (b ≡ true → d.slot ≡ 0) → (b ≡ false → d.slot ≡ 0 → ⊥) → d.slot == 0 ≡ b
          → Goes (HoldsAlone defers left_over fixed) KeepsNone s m id (told defers left_over (Registers c size) op out)
      by true z ne e = behind (over_of size) (ap (λ (b : Bool). if b then over_of size else all_of size) (sym e)) (elim well as (λ _. (left : ℕ) × IsAtPoint defers left_over fixed (registers_on w id c m (d, progress.Refused fault)) id (Reclaims (over_of size) None left)) [
        | inl (first, none) ↦ over_may m d (progress.Refused fault) steps well (rests_refused m d fault) (quiet_if m d (progress.Refused fault) steps well (rests_refused m d fault) (ap (λ (x : Mem T). word_at x (Slot 0 HEAD)) (registers_memory w id m c d (progress.Refused fault)) ∙ none_at none))
        | inr (other, some) ↦ absurd (other (z refl))
      ])
      by false z ne e = behind (all_of size) (ap (λ (b : Bool). if b then over_of size else all_of size) (sym e)) (elim well as (λ _. (left : ℕ) × IsAtPoint defers left_over fixed (registers_on w id c m (d, progress.Refused fault)) id (Reclaims (all_of size) None left)) [
        | inl (first, none) ↦ absurd (ne refl first)
        | inr (other, some) ↦ all_may m d (progress.Refused fault) steps well (rests_refused m d fault) (words_there m d (progress.Refused fault) steps well (rests_refused m d fault) some)
      ])

  module _ (p : Registering) (is : c.stands ≡ p) where
    abbrev P : Plan T (Register × Advance ℕ)
    P = plan_at c p

    can : May Can Took value_at w.memory P
    can =
        subst (λ (q : Registering). May Can Took value_at w.memory (plan_at c q)) is
        (row_may defers (LAST_SLOT + 1) fixed.batch_size refl w (reached defers fixed w h.came).good id (world.Registers c) stands.1)

    -- the step ends so after this answer
    goes_at : (op : Op T) (rest : Out T → Then T (Register × Advance ℕ)) (out : Out T) (m : Mem T) (end : Register × Advance ℕ) → P ≡ Do op rest
        → Took s.memory op out m → ((shown : ℕ → Option T) → Ends shown (rest out) end) → IsWell m end
        → Goes (HoldsAlone defers left_over fixed) KeepsNone s m id (told defers left_over (Registers c size) op out)
    goes_at op rest out m end plan took ends well =
        goes op out m end.0 end.1
        (subst (λ (q : Plan T (Register × Advance ℕ)). Steps Took value_at w.memory q m end) (sym plan_is)
        (out, subst (λ (x : Mem T). Took x op out m) h.memory took, ends (value_at m)))
        (subst (λ (q : Plan T (Register × Advance ℕ)). HasOutcome q out end) (sym plan_is) (s.memory, m, took, ends (value_at m))) well
      where
        plan_is : register_plan {T = T} c ≡ Do op rest
        plan_is = ap (plan_at {T = T} c) is ∙ plan

  seeks_at : (p : Registering) → c.stands ≡ p → SeeksAt s.memory c p
  seeks_at p is = subst (λ (q : Registering). SeeksAt s.memory c q) is (subst (λ (x : Mem T). SeeksAt x c c.stands) (sym h.memory) stands.5)

  short : c.enters ≡ false
  short = stands.3

  no_slots : (k : ℕ) → k + 32 ≡ 32 * 2 ^ 0 → k ≡ 0
  no_slots k e = omega (arith, e)

  begins : c.stands ≡ at.Begin → (out : Out T) (m : Mem T) → Gone (Room 0) out m
  begins e (Roomed (Ok done)) m took =
      goes_at at.Begin e (Room 0) (begun c) (Roomed (Ok done)) m (going c at.Look) refl took (λ shown. refl)
      (short, tt, subst (λ (x : Mem T). 0 < length x.slots) (sym took.1) (first_there s.memory))
  begins e (Roomed (Err fault)) m took =
      goes_at at.Begin e (Room 0) (begun c) (Roomed (Err fault)) m (refused c fault) refl took (λ shown. refl)
      (inl (seeks_at at.Begin e, ap (λ (x : Mem T). length x.slots) took.1 ∙ no_slots (length s.memory.slots) took.0.1))
  begins e (Found x) m took = absurd took.0
  begins e Stored m took = absurd took.0
  begins e (Exchanged x) m took = absurd took.0
  begins e (Made x) m took = absurd took.0
  begins e (Taken x) m took = absurd took.0

  same_there : (m : Mem T) → m ≡ s.memory → 0 < length s.memory.slots → 0 < length m.slots
  same_there m e lt = subst (λ (x : Mem T). 0 < length x.slots) (sym e) lt

  looks : c.stands ≡ at.Look → (out : Out T) (m : Mem T) → Gone (Load (Slot c.slot HEAD)) out m
  looks e (Found head) m took =
      let there = same_there m took.1 (seeks_at at.Look e) in
      goes_at at.Look e (Load (Slot c.slot HEAD)) (looked c) (Found head) m (if can_be_taken head then taking c head (bucket_needed c.slot) else further c) refl took (λ shown. refl)
      (well_either m (can_be_taken head) (taking c head (bucket_needed c.slot)) (further c) (well_taking m c head (bucket_needed c.slot) refl short there) (well_further m c short there))
  looks e Stored m took = absurd took.0
  looks e (Exchanged x) m took = absurd took.0
  looks e (Made x) m took = absurd took.0
  looks e (Taken x) m took = absurd took.0
  looks e (Roomed x) m took = absurd took.0

  widens : (bucket seen : ℕ) → c.stands ≡ at.Widen bucket seen → (out : Out T) (m : Mem T) → Gone (Room bucket) out m
  widens bucket seen e (Roomed (Ok done)) m took =
      goes_at (at.Widen bucket seen) e (Room bucket) (widened c seen) (Roomed (Ok done)) m (going c (at.Take seen)) refl took (λ shown. refl)
      (short, tt, subst (λ (x : Mem T). 0 < length x.slots) (sym took.1) (slots_grow s.memory bucket 0 (seeks_at (at.Widen bucket seen) e).1))
  widens bucket seen e (Roomed (Err fault)) m took =
      goes_at (at.Widen bucket seen) e (Room bucket) (widened c seen) (Roomed (Err fault)) m (refused c fault) refl took (λ shown. refl)
      (inr ((seeks_at (at.Widen bucket seen) e).0, same_there m took.1 (seeks_at (at.Widen bucket seen) e).1))
  widens bucket seen e (Found x) m took = absurd took.0
  widens bucket seen e Stored m took = absurd took.0
  widens bucket seen e (Exchanged x) m took = absurd took.0
  widens bucket seen e (Made x) m took = absurd took.0
  widens bucket seen e (Taken x) m took = absurd took.0

  takes : (seen : ℕ) → c.stands ≡ at.Take seen → (out : Out T) (m : Mem T) → Gone (Exchange (Slot c.slot HEAD) seen IDLE) out m
  takes seen e (Exchanged (Ok found)) m took =
      goes_at (at.Take seen) e (Exchange (Slot c.slot HEAD) seen IDLE) (taken c) (Exchanged (Ok found)) m (registered c) refl took (λ shown. rw short refl) tt
  takes seen e (Exchanged (Err found)) m took =
      goes_at (at.Take seen) e (Exchange (Slot c.slot HEAD) seen IDLE) (taken c) (Exchanged (Err found)) m (further c) refl took (λ shown. refl)
      (well_further m c short (same_there m took.1 (seeks_at (at.Take seen) e)))
  takes seen e (Found x) m took = absurd took.0
  takes seen e Stored m took = absurd took.0
  takes seen e (Made x) m took = absurd took.0
  takes seen e (Taken x) m took = absurd took.0
  takes seen e (Roomed x) m took = absurd took.0

  -- each operation of its plan
  abbrev Allowed : Op T → Type 0
  Allowed op = Can s.memory op × ((out : Out T) (m : Mem T) → Gone op out m)

  to_memory : (op : Op T) → Can w.memory op → Can s.memory op
  to_memory op k = subst (λ (m : Mem T). Can m op) (sym h.memory) k

  by : (p : Registering) → c.stands ≡ p → (op : Op T) → op_in (plan_at {T = T} c p) ≡ Some op → Allowed op
  by at.Begin e op is = subst Allowed (same_some (Room 0) op is) (to_memory (Room 0) (can at.Begin e).0, λ out m. begins e out m)
  by at.Look e op is = subst Allowed (same_some (Load (Slot c.slot HEAD)) op is) (to_memory (Load (Slot c.slot HEAD)) (can at.Look e).0, λ out m. looks e out m)
  by (at.Widen bucket seen) e op is =
      subst Allowed (same_some (Room bucket) op is) (to_memory (Room bucket) (can (at.Widen bucket seen) e).0, λ out m. widens bucket seen e out m)
  by (at.Take seen) e op is =
      subst Allowed (same_some (Exchange (Slot c.slot HEAD) seen IDLE) op is)
      (to_memory (Exchange (Slot c.slot HEAD) seen IDLE) (can (at.Take seen) e).0, λ out m. takes seen e out m)
  by at.Enter e op is = absurd (subst IsSeeking e stands.4)
  by at.Registered e op is = absurd (cc is)
  by (at.Refused fault) e op is = absurd (cc is)

  pub registers : (op : Op T) → op_in (register_plan {T = T} c) ≡ Some op → Allowed op
  registers op is = by c.stands refl op is

pub registering_goes_on : {T : Type 0} (defers : T → Option ℕ) (left_over : T → Bool) → RegisteringContinues defers left_over
registering_goes_on defers left_over fixed id c size op word is s h at_id = registers defers left_over fixed word s id c size h at_id op is

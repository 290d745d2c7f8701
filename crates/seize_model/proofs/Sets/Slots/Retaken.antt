-- A slot that was given up is taken again: the store that does it is all that a whole registering call writes, which takes just this slot.
use Rattle.std.specs.Prelude.{Option, Some, None, nat_lt, if◌then◌else◌, Ok}
use Rattle.std.proofs.Common.{◌≡◌, ◌≢◌, ℕ, zero, suc, ◌+◌, ◌<◌, Bool, true, false, eqb, List, [], ◌++◌, length, inl, inr, refl, arith, subst, sym, ap, ◌∙◌}
use Rattle.seize.specs.Given.SeizeWordsDeclared.at.At.TheVariants as name
use Rattle.seize.specs.Given.SeizeWordsDeclared.fault.Fault.TheVariants.{SlotsUsedUp}
use Rattle.seize.specs.Given.SeizeWordsOp.{Found, Exchanged, Roomed}
use Rattle.seize.specs.Given.SeizeWordsMem.{Mem, Took, value_at, word_at, with_word, with_room}
use Rattle.seize.specs.Given.SeizeWordsPlace.{capacity}
use Rattle.seize.specs.Given.SeizeWordsPlan.{Steps}
use Rattle.seize.proofs.Given.SeizeWordsPlaces.Words.{with_bucket_there}
use Rattle.seize.specs.declared.states.TheConstants.{HEAD, FREE, IDLE, LAST_SLOT}
use Rattle.seize.specs.declared.advance.Advance.{Advance}
use Rattle.seize.specs.declared.advance.Advance.TheVariants.{Goes}
use Rattle.seize.specs.declared.rows.register.Register.{Register}
use Rattle.seize.specs.declared.rows.register.Registering.{Registering}
use Rattle.seize.specs.declared.rows.register.Registering.TheVariants as stands
use Rattle.seize.specs.Register.{going, refused, registered, further, taking, bucket_needed, plan_at}
use Rattle.seize.specs.Law.{Effect}
use Rattle.seize.specs.World.{World, Row, Rests, Registers, Use, Outside, Register', Steps', with_row, registers_on, register_effects, handed_by}
use Rattle.seize.specs.Sequence.{RunsOn, Calls}
use Rattle.seize_rule.proofs.Given.SeizeMemoryWords.Named.{words_of, word_found}
use Rattle.seize_rule.proofs.Given.SeizeMemoryWords.Room.{needed_is, needed_not}
use Rattle.seize_rule.proofs.Rows.Others.{with_here}
use Rattle.seize_rule.proofs.World.Rested.{Rested}
use Rattle.seize_model.proofs.Sets.Slots.Registers.{use_taken}
use Rattle.seize_model.proofs.Sets.Slots.Least.{calls_registered}
use Rattle.seize_model.proofs.Sets.Turns.Heads.{idle_word, has_word, has_words}
use Rattle.seize.proofs.Beginnings.{begun_is as begun_some}

-- the row registers, at this slot, and stands here
abbrev pub registering : ℕ → Registering → Register
registering t p = record { slot = t; enters = false; stands = p }

module _ {T : Type 0} (defers : T → Option ℕ) (n size : ℕ) (last : n ≡ LAST_SLOT + 1) (i : ℕ) (w : World T) (r : Rested defers n size w) (s : ℕ) (lt : s < n)
    (free : word_at w.memory (name.Slot s HEAD) ≡ Some FREE) (idle : (t : ℕ) → t < s → w.uses t ≡ Outside 0) where
  abbrev mem_after : Mem T
  mem_after = with_word w.memory (name.Slot s HEAD) IDLE

  abbrev At : ℕ → Registering → World T → Type 0
  At t p v = (v.row i ≡ Registers (registering t p)) × (v.memory ≡ w.memory)

  -- it comes to its end with this memory, and nothing else has happened
  abbrev Gets : World T → Type 0
  Gets v = (steps : ℕ) × (u : World T) × RunsOn defers steps i v u × (u.memory ≡ mem_after) × (u.hand ≡ v.hand) × (u.log ≡ v.log)

  steps_on : (v : World T) (t : ℕ) (p : Registering) (m2 : Mem T) (end : Register × Advance ℕ) → At t p v → Steps Took value_at w.memory (plan_at (registering t p) p) m2 end
      → Steps' defers i (v.row i) v (registers_on v i (registering t p) m2 end)
  steps_on v t p m2 end at st =
      subst (λ (row : Row). Steps' defers i row v (registers_on v i (registering t p) m2 end)) (sym at.0)
      (m2, end, subst (λ (x : Mem T). Steps Took value_at x (plan_at (registering t p) p) m2 end) (sym at.1) st, refl)

  goes_on : (v : World T) (t : ℕ) (p : Registering) (d : Register) → register_effects (registering t p) p ≡ [] → At t p v
      → Steps Took value_at w.memory (plan_at (registering t p) p) w.memory (d, Goes) → ((v2 : World T) → v2.row i ≡ Registers d → v2.memory ≡ w.memory → Gets v2) → Gets v
  goes_on v t p d none at st rest =
      let v2 = registers_on v i (registering t p) w.memory (d, Goes) in
      let g = rest v2 (with_here v.row i (Registers d)) refl in (
        suc g.0,
        g.1,
        (v2, steps_on v t p w.memory (d, Goes) at st, g.2),
        g.3,
        g.4 ∙ ap (λ (effects : List Effect). handed_by effects v.hand) none,
        g.5 ∙ ap (λ (effects : List Effect). effects ++ v.log) none,
      )

  -- room for a bucket that is there changes nothing
  room_same : (bucket : ℕ) → length w.memory.slots + 32 ≢ capacity bucket → w.memory ≡ with_room w.memory bucket
  room_same bucket ne =
      ap (λ (slots : List (List ℕ)). record { roots = w.memory.roots; used = w.memory.used; slots = slots; blocks = w.memory.blocks; choices = w.memory.choices })
      (sym (with_bucket_there w.memory.slots bucket ne))

  not_zero : words_of w.memory (name.Slot s HEAD) ≡ 0 → ⊥
  not_zero z = let k = word_found w.memory (name.Slot s HEAD) FREE free in cc (k, z)

  there : s < length w.memory.slots
  there = has_word defers n size last w r s not_zero lt

  take_gets : (v : World T) → At s (stands.Take FREE) v → Gets v
  take_gets v at =
      let c = registering s (stands.Take FREE) in
      let v2 = registers_on v i c mem_after (registered c) in
      (1, v2, (v2, steps_on v s (stands.Take FREE) mem_after (registered c) at (Exchanged (Ok FREE), ((free, refl), refl), refl), (with_here v.row i Rests, refl)), refl, refl, refl)

  widen_gets : (v : World T) (bucket : ℕ) → bucket_needed s ≡ Some bucket → At s (stands.Widen bucket FREE) v → Gets v
  widen_gets v bucket e at =
      goes_on v s (stands.Widen bucket FREE) (registering s (stands.Take FREE)) refl at (Roomed (Ok tt), (tt, room_same bucket behind), refl) (λ v2 is same. take_gets v2 (is, same))
    where
      behind : length w.memory.slots + 32 ≢ capacity bucket
      behind k =
          let l = needed_not s bucket e in
          let p = (begun_some 59 0 (s + 1) bucket (needed_is s (Some bucket) e l)).0 in
          let q = has_words defers n size last w r s not_zero (omega (arith, l, last)) in
          omega (arith, k, p, q)

  look_gets : (v : World T) → At s stands.Look v → Gets v
  look_gets v at = by (bucket_needed s) refl
    where
      by : (o : Option ℕ) → bucket_needed s ≡ o → Gets v
      by (Some bucket) e =
          goes_on v s stands.Look (registering s (stands.Widen bucket FREE)) refl at (Found FREE, (free, refl), ap (taking (registering s stands.Look) FREE) (sym e))
          (λ v2 is same. widen_gets v2 bucket e (is, same))
      by None e =
          goes_on v s stands.Look (registering s (stands.Take FREE)) refl at (Found FREE, (free, refl), ap (taking (registering s stands.Look) FREE) (sym e)) (λ v2 is same. take_gets v2 (is, same))

  further_is : (t : ℕ) → t < s → going (registering (t + 1) stands.Look) stands.Look ≡ further (registering t stands.Look)
  further_is t l = by (nat_lt t LAST_SLOT) refl
    where
      by : (b : Bool) → nat_lt t LAST_SLOT ≡ b
          → going (registering (t + 1) stands.Look) stands.Look ≡ (if b then going (registering (t + 1) stands.Look) stands.Look else refused (registering t stands.Look) SlotsUsedUp)
      by true e = refl
      by false e = absurd (let k : LAST_SLOT < t + 1 = grind (arith, e) in omega (arith, k, l, lt, last))

  looks_get : (left t : ℕ) → t + left ≡ s → (v : World T) → At t stands.Look v → Gets v
  looks_get zero t e v at = look_gets v (subst (λ (x : ℕ). At x stands.Look v) (let k : t ≡ s = omega (arith, e) in k) at)
  looks_get (suc left) t e v at =
      let l : t < s = omega (arith, e) in
      goes_on v t stands.Look (registering (t + 1) stands.Look) refl at
      (Found 2, (idle_word defers n size last w r t (idle t l) (omega (arith, l, lt)), refl), further_is t l)
      (λ v2 is same. looks_get left (t + 1) (omega (arith, e)) v2 (is, same))

  begin_gets : (v : World T) → At 0 stands.Begin v → Gets v
  begin_gets v at =
      goes_on v 0 stands.Begin (registering 0 stands.Look) refl at (Roomed (Ok tt), (tt, room_same 0 (λ k. let l = there in absurd (omega (arith, k, l)))), refl)
      (λ v2 is same. looks_get s 0 (omega arith) v2 (is, same))

  -- the whole call
  pub retaken : (u : World T) × Calls defers size i (Register' false) w u × (u.memory ≡ mem_after) × (u.hand ≡ w.hand) × (u.log ≡ w.log)
  retaken =
      let v = with_row w i (Registers (registering 0 stands.Begin)) in
      let g = begin_gets v (with_here w.row i (Registers (registering 0 stands.Begin)), refl) in
      (g.1, (v, g.0, r.rests i, refl, g.2), g.3, g.4, g.5)

  -- and the slots before it are taken still
  pub retaken_idle : (u : World T) → Calls defers size i (Register' false) w u → (t : ℕ) → t < s → u.uses t ≡ Outside 0
  retaken_idle u h t l = elim (calls_registered defers n size last i false w u r h) as (λ _. u.uses t ≡ Outside 0) [
    | inl same ↦ ap (λ (f : ℕ → Use). f t) same ∙ idle t l
    | inr k ↦ ap (λ (f : ℕ → Use). f t) k.2 ∙ at (eqb t k.0)
  ]
    where
      at : (b : Bool) → (if b then use_taken false else w.uses t) ≡ Outside 0
      at true = refl
      at false = idle t l

-- What the heads of slots say while every row rests: how each slot is used.
use Rattle.std.specs.Prelude.{Option, Some, None, IsSome}
use Rattle.std.proofs.Common.{◌≡◌, ℕ, ◌+◌, ◌<◌, ◌≤◌, Bool, true, false, List, [], ◌∷◌, length, refl, arith, subst, sym, ap, ◌∙◌}
use Rattle.seize.specs.Given.SeizeWordsDeclared.at.At.TheVariants as name
use Rattle.seize.specs.Given.SeizeWordsMem.{word_at}
use Rattle.seize.specs.declared.states.TheConstants.{HEAD, LAST_SLOT}
use Rattle.seize.specs.Law.{is_open}
use Rattle.seize.specs.World.{World, Use, Vacant, Outside, Inside, Changing, SlotsTaken}
use Rattle.seize_rule.specs.Given.SeizeWaitingHeld.{count}
use Rattle.seize_rule.proofs.Given.SeizeMovesState.Ghost.{Head, Never, Free, Idle, Active, emptied, is_never}
use Rattle.seize_rule.proofs.Given.SeizeMemoryWords.Named.{words_of, word_found}
use Rattle.seize_rule.proofs.Given.SeizeMemoryWords.View.{view}
use Rattle.seize_rule.proofs.Given.SeizeMemoryWords.Chains.{Chain, blocks_of}
use Rattle.seize_rule.proofs.Given.SeizeMemoryWords.Shows.{HeadIs}
use Rattle.seize_rule.proofs.Rows.Known.{works_on}
use Rattle.seize_rule.proofs.Rows.Teams.{UseFits}
use Rattle.seize_rule.proofs.Given.SeizeMemoryWords.Room.{slot_there}
use Rattle.seize_rule.proofs.World.Rested.{Rested}
use Rattle.seize_rule.proofs.Points.Try.{never_word as zero_never}

-- a slot used like this has a head of this word
abbrev pub WordOf : Use → ℕ → Type 0
WordOf Vacant v = v < 2
WordOf (Outside rows) v = (v ≡ 2) × (rows ≡ 0)
WordOf (Inside rows) v = (2 < v) × (rows ≡ 0)
WordOf Changing v = ⊥

above : (links : ℕ → ℕ) (v : ℕ) (l : List ℕ) → Chain 3 links v l → 2 < v
above links v [] k = omega (arith, k)
above links v (c ∷ l) k = let p = k.0 in let q = k.1 in omega (arith, p, q)

word_of : (links : ℕ → ℕ) (v k : ℕ) (u : Use) (h : Head) (open_now : Bool) → k ≡ 0 → UseFits u (emptied h) k open_now → HeadIs links v h → WordOf u v
word_of links v k Vacant Never o none f w = omega (arith, w)
word_of links v k Vacant Free o none f w = omega (arith, w)
word_of links v k Vacant Idle o none f w = absurd (omega (arith, f, none))
word_of links v k Vacant (Active es) o none f w = absurd f
word_of links v k (Outside j) Never o none f w = absurd (let e = f.0 in cc e)
word_of links v k (Outside j) Free o none f w = absurd (let e = f.0 in cc e)
word_of links v k (Outside j) Idle o none f w = (w, sym f.1 ∙ none)
word_of links v k (Outside j) (Active es) o none f w = absurd (let e = f.0 in cc e)
word_of links v k (Inside j) Never o none f w = absurd (let e = f.0 in cc e)
word_of links v k (Inside j) Free o none f w = absurd (let e = f.0 in cc e)
word_of links v k (Inside j) Idle o none f w = absurd (let e = f.0 in cc e)
word_of links v k (Inside j) (Active es) o none f w = (above links v (blocks_of es) w, sym f.1 ∙ none)
word_of links v k Changing h o none f w = absurd (let e = f.1 in omega (arith, e, none))

pub nobody : (l : List ℕ) → ((j : ℕ) → count j l ≡ 0) → length l ≡ 0
nobody [] h = refl
nobody (j ∷ l) h = absurd (let k = h j in grind (arith, k))

-- and the other way round

pub vacant_by : (u : Use) (v : ℕ) → WordOf u v → v < 2 → u ≡ Vacant
vacant_by Vacant v w l = refl
vacant_by (Outside j) v w l = absurd (let e = w.0 in omega (arith, e, l))
vacant_by (Inside j) v w l = absurd (let e = w.0 in omega (arith, e, l))
vacant_by Changing v w l = absurd w

pub outside_by : (u : Use) (v : ℕ) → WordOf u v → v ≡ 2 → u ≡ Outside 0
outside_by Vacant v w l = absurd (omega (arith, w, l))
outside_by (Outside j) v w l = ap Outside w.1
outside_by (Inside j) v w l = absurd (let e = w.0 in omega (arith, e, l))
outside_by Changing v w l = absurd w

pub inside_by : (u : Use) (v : ℕ) → WordOf u v → 2 < v → u ≡ Inside 0
inside_by Vacant v w l = absurd (omega (arith, w, l))
inside_by (Outside j) v w l = absurd (let e = w.0 in omega (arith, e, l))
inside_by (Inside j) v w l = ap Inside w.1
inside_by Changing v w l = absurd w

idle_by : (u : Use) (v : ℕ) → WordOf u v → u ≡ Outside 0 → v ≡ 2
idle_by Vacant v w e = absurd (cc e)
idle_by (Outside j) v w e = w.0
idle_by (Inside j) v w e = absurd (cc e)
idle_by Changing v w e = absurd w

pub never_zero : (links : ℕ → ℕ) (v : ℕ) (h : Head) → HeadIs links v h → is_never h ≡ true → v ≡ 0
never_zero links v Never w e = w
never_zero links v Free w e = absurd (cc e)
never_zero links v Idle w e = absurd (cc e)
never_zero links v (Active es) w e = absurd (cc e)

some_word : (o : Option ℕ) → IsSome o → (v : ℕ) × (o ≡ Some v)
some_word None h = absurd (cc h)
some_word (Some v) h = (v, refl)

module _ {T : Type 0} (defers : T → Option ℕ) (n size : ℕ) (last : n ≡ LAST_SLOT + 1) (w : World T) (r : Rested defers n size w) where
  pub no_team : (s : ℕ) → length (r.good.used.team s) ≡ 0
  no_team s = nobody (r.good.used.team s) (λ j. let k = r.good.used.teamed s j in let q = ap works_on (r.rests j) in grind (arith, k, q))

  pub head_word : (s : ℕ) → WordOf (w.uses s) (words_of w.memory (name.Slot s HEAD))
  head_word s =
      word_of (view defers w.memory).links (words_of w.memory (name.Slot s HEAD)) (length (r.good.used.team s)) (w.uses s) (r.good.state.head s) (is_open s r.good.state.log)
      (no_team s) (r.good.used.fits s) (r.good.shows.entries.headed s)

  -- the head of a slot says how it is used
  pub word_says : (s v : ℕ) → word_at w.memory (name.Slot s HEAD) ≡ Some v → WordOf (w.uses s) v
  word_says s v e = subst (λ (x : ℕ). WordOf (w.uses s) x) (word_found w.memory (name.Slot s HEAD) v e) (head_word s)

  not_never : (s : ℕ) → (words_of w.memory (name.Slot s HEAD) ≡ 0 → ⊥) → is_never (r.good.state.head s) ≡ false
  not_never s ne = by (is_never (r.good.state.head s)) refl
    where
      by : (t : Bool) → is_never (r.good.state.head s) ≡ t → is_never (r.good.state.head s) ≡ false
      by true e = absurd (ne (never_zero (view defers w.memory).links (words_of w.memory (name.Slot s HEAD)) (r.good.state.head s) (r.good.shows.entries.headed s) e))
      by false e = e

  -- a slot that was ever taken has its words, and so has the one behind it
  pub has_words : (s : ℕ) → (words_of w.memory (name.Slot s HEAD) ≡ 0 → ⊥) → s + 1 < n → s + 1 < length w.memory.slots
  has_words s ne l = r.good.room.enough s (s + 1) (not_never s ne) (omega arith) l

  pub has_word : (s : ℕ) → (words_of w.memory (name.Slot s HEAD) ≡ 0 → ⊥) → s < n → s < length w.memory.slots
  has_word s ne l = r.good.room.enough s s (not_never s ne) (omega arith) l

  -- the head of a slot that is taken, and not active
  pub idle_word : (s : ℕ) → w.uses s ≡ Outside 0 → s < n → word_at w.memory (name.Slot s HEAD) ≡ Some 2
  idle_word s e l =
      let two : words_of w.memory (name.Slot s HEAD) ≡ 2 = idle_by (w.uses s) (words_of w.memory (name.Slot s HEAD)) (head_word s) e in
      let k = some_word (word_at w.memory (name.Slot s HEAD)) (slot_there w.memory s HEAD r.good.room.bucketed (has_word s (λ z. absurd (cc (z, two))) l) (omega arith)) in
      k.1 ∙ ap Some (sym (word_found w.memory (name.Slot s HEAD) k.0 k.1) ∙ two)

  -- a slot that was never taken has none behind it that was
  pub never_behind : (s t v : ℕ) → word_at w.memory (name.Slot s HEAD) ≡ Some 0 → s ≤ t → word_at w.memory (name.Slot t HEAD) ≡ Some v → v ≡ 0
  never_behind s t v none le e =
      let k = zero_never (view defers w.memory).links (words_of w.memory (name.Slot s HEAD)) (r.good.state.head s) (r.good.shows.entries.headed s) (word_found w.memory (name.Slot s HEAD) 0 none) in
      let never : is_never (r.good.state.head t) ≡ true = grind (arith, r.good.inv.slots.prefix s t, k, le) in
      sym (word_found w.memory (name.Slot t HEAD) v e)
      ∙ never_zero (view defers w.memory).links (words_of w.memory (name.Slot t HEAD)) (r.good.state.head t) (r.good.shows.entries.headed t) never

  pub none_past : (t v : ℕ) → n ≤ t → word_at w.memory (name.Slot t HEAD) ≡ Some v → v ≡ 0
  none_past t v le e =
      let never : is_never (r.good.state.head t) ≡ true = ap is_never (r.good.inv.slots.outside t le) in
      sym (word_found w.memory (name.Slot t HEAD) v e)
      ∙ never_zero (view defers w.memory).links (words_of w.memory (name.Slot t HEAD)) (r.good.state.head t) (r.good.shows.entries.headed t) never

  -- the slots ever taken are those below a number, where all of these are taken, and none from there on ever was
  pub taken_so : (slots : ℕ) → slots ≤ n → ((t : ℕ) → t < slots → w.uses t ≡ Outside 0)
      → ((t v : ℕ) → slots ≤ t → word_at w.memory (name.Slot t HEAD) ≡ Some v → v ≡ 0) → SlotsTaken w.memory slots
  taken_so slots le idle none = (λ t l. (2, idle_word t (idle t l) (omega (arith, l, le)), omega arith), none)

-- At rest the garbage is bounded: it waits in the open batches of slots ever taken, which are short.
use Rattle.std.specs.Prelude.{Option, Some, None, ◌++◌, max}
use Rattle.std.proofs.Common.{◌≡◌, ℕ, zero, suc, ◌+◌, ◌-◌, ◌*◌, ◌^◌, ◌<◌, ◌≤◌, Bool, true, false, cond, eqb, List, [], ◌∷◌, length, refl, arith, subst, sym, ap, ◌∙◌, eqb-true, inl, inr}
use Rattle.std.proofs.lemmas.Bool.{cases_lt, eqb-false}
use Rattle.seize_moves.specs.Given.SeizeWordsDeclared.at.At.TheVariants as name
use Rattle.seize_moves.specs.Given.SeizeWordsMem.{word_at}
use Rattle.seize_moves.specs.Given.SeizeDeclared.states.TheConstants.{HEAD, LAST_SLOT}
use Rattle.seize_moves.specs.Given.SeizeLaw.{Effect, is_open, is_retired}
use Rattle.seize_moves.specs.Given.SeizeWorld.{World, Row, Rests, Use, Vacant, Outside, Inside, Changing, at_start, IsOutside, times, SlotsTaken, GarbageIsBounded}
use Rattle.seize_moves.specs.Waiting.Held.{same, count}
use Rattle.seize_moves.proofs.Waiting.Counts.{count-append}
use Rattle.seize_moves.proofs.Moves.State.Ghost.{State, Head, Never, Free, Idle, Active, emptied, is_active, is_never}
use Rattle.seize_moves.proofs.Moves.State.Rule.{open_length}
use Rattle.seize_moves.proofs.Moves.Sets.Quiescent.{IsQuiescent, all_wait}
use Rattle.seize_moves.proofs.Memory.Words.Named.{word_found}
use Rattle.seize_moves.proofs.Memory.Words.View.{view}
use Rattle.seize_moves.proofs.Memory.Words.Shows.{HeadIs}
use Rattle.seize_rule.proofs.Rows.Known.{Idles, FitsRow}
use Rattle.seize_rule.proofs.Rows.Teams.{UseFits}
use Rattle.seize_rule.proofs.World.Good.{Good}
use Rattle.seize_rule.proofs.World.Start.{start_good}
use Rattle.seize_rule.proofs.Points.Try.{never_word}
use Rattle.seize_rule.proofs.Rows.Short.{tries_on, IsShort}
use Rattle.seize_rule.proofs.World.Kept.{runs_good}

-- l without one c
abbrev less : ℕ → List ℕ → List ℕ
less c [] = []
less c (d ∷ l) = cond (eqb c d) l (d ∷ less c l)

length_less : (c : ℕ) (l : List ℕ) → 0 < count c l → length l ≡ length (less c l) + 1
length_less c [] h = absurd (omega (arith, h))
length_less c (d ∷ l) h = by (eqb c d) h (λ k. length_less c l k)
  where
    by : (t : Bool) → 0 < cond t 1 0 + count c l → (0 < count c l → length l ≡ length (less c l) + 1) → length (d ∷ l) ≡ length (cond t l (d ∷ less c l)) + 1
    by true k rest = omega arith
    by false k rest = let e = rest (omega (arith, k)) in omega (arith, e)

count_less : (b c : ℕ) (l : List ℕ) → count b l ≤ count b (less c l) + same b c
count_less b c [] = omega arith
count_less b c (d ∷ l) = by (eqb c d) (eqb-true c d) (count_less b c l)
  where
    by : (t : Bool) → (t ≡ true → c ≡ d) → count b l ≤ count b (less c l) + same b c → count b (d ∷ l) ≤ count b (cond t l (d ∷ less c l)) + same b c
    by true e rest = let k = e refl in grind (arith, k)
    by false e rest = let k : same b d + count b l ≤ same b d + (count b (less c l) + same b c) = omega (arith, rest) in omega (arith, k)

-- a list with no block more often than another is no longer
no_longer : (bs l : List ℕ) → ((b : ℕ) → times b bs ≤ count b l) → length bs ≤ length l
no_longer [] l h = omega arith
no_longer (c ∷ bs) l h =
    let one : 0 < count c l = (let k = h c in let e = here c in omega (arith, k, e)) in
    let e = length_less c l one in
    let rest = no_longer bs (less c l) (λ b. let k = h b in let p = count_less b c l in let q = equal b c in omega (arith, k, p, q)) in
    omega (arith, e, rest)
  where
    here : (a : ℕ) → times a (a ∷ bs) ≡ times a bs + 1
    here a = grind arith

    equal : (a b : ℕ) → times a (b ∷ bs) ≡ same a b + times a bs
    equal a b = grind arith

-- what waits in the open batches of the slots below s
abbrev open_below : State → ℕ → List ℕ
open_below m zero = []
open_below m (suc s) = open_below m s ++ m.blocks (m.open_batch s)

length-append : (a b : List ℕ) → length (a ++ b) ≡ length a + length b
length-append [] b = omega arith
length-append (c ∷ a) b = let k = length-append a b in omega (arith, k)

length_below : (m : State) (s k : ℕ) → ((t : ℕ) → t < s → open_length m t ≤ k) → length (open_below m s) ≤ s * k
length_below m zero k h = omega arith
length_below m (suc s) k h =
    let a = length_below m s k (λ t l. h t (omega (arith, l))) in
    let b = h s (omega arith) in
    let e = length-append (open_below m s) (m.blocks (m.open_batch s)) in
    let p : suc s * k ≡ k + s * k = grind arith in
    omega (arith, a, b, e, p)

found_below : (m : State) (b t s : ℕ) → t < s → 0 < count b (m.blocks (m.open_batch t)) → 0 < count b (open_below m s)
found_below m b t zero l h = absurd (omega (arith, l))
found_below m b t (suc s) l h = by (eqb t s) (eqb-true t s) (eqb-false t s) (λ lt. found_below m b t s lt h)
  where
    apart : (t ≡ s → ⊥) → t < s
    apart ne = elim (cases_lt t s) as (λ _. t < s) [
      | inl lt ↦ lt
      | inr le ↦ absurd (ne (omega (arith, l, le)))
    ]

    by : (z : Bool) → (z ≡ true → t ≡ s) → (z ≡ false → t ≡ s → ⊥) → (t < s → 0 < count b (open_below m s)) → 0 < count b (open_below m s ++ m.blocks (m.open_batch s))
    by true e f rest =
        let k : 0 < count b (m.blocks (m.open_batch s)) = subst (λ (u : ℕ). 0 < count b (m.blocks (m.open_batch u))) (e refl) h in
        let a = count-append b (open_below m s) (m.blocks (m.open_batch s)) in omega (arith, k, a)
    by false e f rest =
        let k = rest (apart (f refl)) in
        let a = count-append b (open_below m s) (m.blocks (m.open_batch s)) in omega (arith, k, a)

none_counted : (b : ℕ) (l : List ℕ) → length l ≡ 0 → 0 < count b l → ⊥
none_counted b [] e h = omega (arith, h)
none_counted b (c ∷ l) e h = omega (arith, e)

-- no section of a slot is open where nobody is inside
pub outside_head : (u : Use) (h : Head) (k : ℕ) (now : Bool) → IsOutside u → UseFits u (emptied h) k now → is_active h ≡ false
outside_head Vacant Never k now o f = refl
outside_head Vacant Free k now o f = refl
outside_head Vacant Idle k now o f = refl
outside_head Vacant (Active es) k now o f = absurd f
outside_head (Outside j) h k now o f = let p = f.0 in grind (arith, p)
outside_head (Inside j) h k now o f = absurd o
outside_head Changing h k now o f = absurd o

module _ {T : Type 0} {size : ℕ} (defers : T → Option ℕ) (n : ℕ) (w : World T) (good : Good defers n size w) (rests : (i : ℕ) → w.row i ≡ Rests)
    (outside : (s : ℕ) → IsOutside (w.uses s)) where
  idles : (i : ℕ) → Idles i good.state good.extra
  idles i = subst (λ (r : Row). FitsRow n i (view defers w.memory) good.state good.extra (length w.memory.slots) r) (rests i) (good.rows i)

  pub quiescent : IsQuiescent good.state
  quiescent = record {
    rows = λ i. let e = (idles i).empty in record { loose = e.loose; left = e.left; pending = e.pending; puts = e.puts; closing = e.closing };
    slots = λ t. outside_head (w.uses t) (good.state.head t) (length (good.used.team t)) (is_open t good.state.log) (outside t) (good.used.fits t);
  }

  short_at : (t : ℕ) → t < n → IsShort size good.state t
  short_at t l = good.short t l (λ j. ap (λ (r : Row). tries_on r t) (rests j))

  module _ (slots : ℕ) (taken : SlotsTaken w.memory slots) where
    never : (t : ℕ) → slots ≤ t → is_never (good.state.head t) ≡ true
    never t l = by (good.state.head t) (word_at w.memory (name.Slot t HEAD)) refl (good.shows.entries.headed t)
      where
        zero_word : (o : Option ℕ) → word_at w.memory (name.Slot t HEAD) ≡ o → (view defers w.memory).heads t ≡ 0
        zero_word None e = grind (arith, e)
        zero_word (Some a) e = word_found w.memory (name.Slot t HEAD) a e ∙ taken.1 t a l e

        by : (h : Head) (o : Option ℕ) → word_at w.memory (name.Slot t HEAD) ≡ o → HeadIs (view defers w.memory).links ((view defers w.memory).heads t) h → is_never h ≡ true
        by h o e k = one (is_never h) refl
          where
            one : (z : Bool) → is_never h ≡ z → is_never h ≡ true
            one true q = q
            one false q = never_word (view defers w.memory).links ((view defers w.memory).heads t) h k (zero_word o e)

    below : (t : ℕ) → is_never (good.state.head t) ≡ false → t < slots
    below t e = elim (cases_lt t slots) as (λ _. t < slots) [
      | inl l ↦ l
      | inr l ↦ absurd (let k = never t l in cc (k, e))
    ]

    slots_le : slots ≤ n
    slots_le = elim (cases_lt n slots) as (λ _. slots ≤ n) [
      | inl l ↦ absurd (
          let k = taken.0 n l in
          let h = good.inv.slots.outside n (omega arith) in
          let z : (view defers w.memory).heads n ≡ 0 = subst (λ (g : Head). HeadIs (view defers w.memory).links ((view defers w.memory).heads n) g) h (good.shows.entries.headed n) in
          let f = word_found w.memory (name.Slot n HEAD) k.0 k.1 in
          let p = k.2 in
          omega (arith, z, f, p))
      | inr l ↦ l
    ]

    -- each block that is retired stands in the open batch of a slot ever taken
    waits : (b : ℕ) → is_retired b w.log ≡ true → 0 < count b (open_below good.state slots)
    waits b r =
        let q = all_wait n b good.state good.inv good.pending quiescent (subst (λ (l : List Effect). is_retired b l ≡ true) (sym good.logged) r) in
        found_below good.state b q.0 slots
        (elim (cases_lt q.0 slots) as (λ _. q.0 < slots) [
          | inl l ↦ l
          | inr l ↦ absurd (none_counted b (good.state.blocks (good.state.open_batch q.0)) ((short_at q.0 q.1).untaken (never q.0 l)) q.2)
        ]) q.2

    pub bounded : size < 2 ^ 64 → (limit : ℕ) → 0 < limit → size ≤ limit → slots ≤ limit → (blocks : List ℕ) → ((b : ℕ) → times b blocks ≤ 1)
        → ((b : ℕ) → 0 < times b blocks → is_retired b w.log ≡ true) → length blocks ≤ slots * (limit - 1)
    bounded word limit pos big many blocks once retired =
        let a = no_longer blocks (open_below good.state slots) (λ b. at_most (times b blocks) (count b (open_below good.state slots)) (once b) (λ p. waits b (retired b p))) in
        let b = length_below good.state slots (limit - 1)
        (λ t l. let k = (short_at t (let s = slots_le in omega (arith, l, s))).below limit word pos big (λ u e. let q = below u e in omega (arith, q, many)) in omega (arith, k)) in
        omega (arith, a, b)
      where
        at_most : (a b : ℕ) → a ≤ 1 → (0 < a → 0 < b) → a ≤ b
        at_most zero b l h = omega arith
        at_most (suc a) b l h = let k = h (omega arith) in omega (arith, l, k)

pub garbage_bounded : {T : Type 0} (defers : T → Option ℕ) → GarbageIsBounded defers
garbage_bounded defers size roots events w word runs rests outside slots taken blocks once retired =
    let good = runs_good defers (LAST_SLOT + 1) size refl events (at_start defers roots) w (start_good defers (LAST_SLOT + 1) size roots) (λ i. tt) runs in
    bounded defers (LAST_SLOT + 1) w good rests outside slots taken word (max (max size slots) 1) (omega arith) (omega arith) (omega arith) blocks once retired

-- What a retirement gives was in a block that no open section held.
use Rattle.std.specs.Prelude.{Bool, false, Some, None, Option, IsSome, if◌then◌else◌}
use Rattle.std.proofs.Common.{◌≡◌, ℕ, ◌+◌, List, [], ◌∷◌, ◌++◌, refl, ap, sym, subst, ◌∙◌}
use Rattle.std.proofs.lemmas.Bool.{eq-eqb}
use Rattle.seize_model.specs.Given.SeizeWordsMem.{Mem, block_of, value_in, value_at, with_block, Took}
use Rattle.seize_model.specs.Given.SeizeWordsPlan.{Steps}
use Rattle.seize_model.proofs.Given.SeizeWordsOneOwner.AfterWrites.{block_of-with_block}
use Rattle.seize_model.proofs.Given.SeizeMemoryWords.Named.{block_there}
use Rattle.seize_model.specs.Given.SeizeLaw.{Effect, holds, IsSound}
use Rattle.seize_model.specs.Given.SeizeSequence.{taken_in}
use Rattle.seize_model.specs.Given.SeizeSettle.{settle_plan}
use Rattle.seize_model.specs.Given.SeizeWorld.{World, Row, Settles, Steps', times, settle_effects, settles_on}
use Rattle.seize_model.specs.Given.SeizeDeclared.rows.settle.Settle.{Settle}
use Rattle.seize_model.specs.Given.SeizeDeclared.rows.settle.Settling.{Settling}
use Rattle.seize_model.specs.Given.SeizeDeclared.rows.settle.Settling.TheVariants as at
use Rattle.seize_model.specs.Given.SeizeDeclared.rows.settle.Settled.TheVariants.{Gave}
use Rattle.seize_model.proofs.Given.SeizeRuleRows.Effects.{settle_one, taken_hand}
use Rattle.seize_model.proofs.Given.SeizeRuleRows.Taken.{settle_tells}
use Rattle.seize_model.proofs.Alone.Histories.Reached.{Reached, steps_reached}
use Rattle.many_calls.specs.Together.{IsReclaimed}

-- the block that a step takes no section holds
module _ (c : Settle) (b : ℕ) (log : List Effect) where
  none_holds : (p : Settling) → taken_in (settle_effects c p) ≡ b ∷ [] → IsSound (settle_effects c p ++ log) → (t : ℕ) → holds t b log ≡ false
  none_holds (at.Takes next) e sound t = subst (λ (x : ℕ). holds t x log ≡ false) (one e) (sound.2 t)
    where
      one : {x y : ℕ} → x ∷ [] ≡ y ∷ [] → x ≡ y
      one q = cc q
  none_holds at.Sees e sound t = absurd (cc e)
  none_holds at.Holds e sound t = absurd (cc e)
  none_holds at.Pops e sound t = absurd (cc e)
  none_holds (at.Firsts x) e sound t = absurd (cc e)
  none_holds (at.Batches x) e sound t = absurd (cc e)
  none_holds (at.Ends x) e sound t = absurd (cc e)
  none_holds (at.Appends x) e sound t = absurd (cc e)
  none_holds (at.Counts x) e sound t = absurd (cc e)
  none_holds (at.Scans x y z) e sound t = absurd (cc e)
  none_holds (at.Marks x y z) e sound t = absurd (cc e)
  none_holds (at.Marked x y z) e sound t = absurd (cc e)
  none_holds (at.Closes x) e sound t = absurd (cc e)
  none_holds (at.Reads x y z) e sound t = absurd (cc e)
  none_holds (at.Links x y z r q) e sound t = absurd (cc e)
  none_holds (at.Pushes x y z r q) e sound t = absurd (cc e)
  none_holds (at.Pushed x y z) e sound t = absurd (cc e)
  none_holds (at.Sums x) e sound t = absurd (cc e)
  none_holds at.Nexts e sound t = absurd (cc e)
  none_holds (at.Drains x y) e sound t = absurd (cc e)
  none_holds (at.Joins x y) e sound t = absurd (cc e)
  none_holds (at.Tails x) e sound t = absurd (cc e)
  none_holds at.Puts e sound t = absurd (cc e)
  none_holds at.Lists e sound t = absurd (cc e)
  none_holds (at.Owns x) e sound t = absurd (cc e)
  none_holds (at.Downs x y) e sound t = absurd (cc e)
  none_holds at.Gives e sound t = absurd (cc e)
  none_holds at.Over e sound t = absurd (cc e)

module _ {T : Type 0} (m : Mem T) (b : ℕ) (value : T) where
  taken_away : value_at m b ≡ Some value → value_at (with_block m b None) b ≡ None
  taken_away is =
      let there = block_there m b (some is) in
      ap value_in (block_of-with_block m b b there.0 None there.1 ∙ ap (λ (z : Bool). if z then None else block_of m b) (eq-eqb b b refl))
    where
      some : {o : Option T} → o ≡ Some value → IsSome o
      some e = rw e refl

module _ {T : Type 0} (defers : T → Option ℕ) (size : ℕ) (w : World T) (r : Reached defers size w) (i : ℕ) (c : Settle) (is : w.row i ≡ Settles c) (m2 : Mem T) (d : Settle) (value : T)
    (st : Steps Took value_at w.memory (settle_plan defers c) m2 (d, Gave value)) where
  abbrev w2 : World T
  w2 = settles_on w i c m2 (d, Gave value)

  step : Steps' defers i (w.row i) w w2
  step = subst (λ (x : Row). Steps' defers i x w w2) (sym is) (m2, (d, Gave value), st, refl)

  sound : IsSound w2.log
  sound = let good2 = (steps_reached defers size i w w2 r step).good in subst IsSound good2.logged good2.inv.logged.sound

  pub gives : IsReclaimed w w2 value
  gives =
      let tells = settle_tells defers w.memory m2 c (d, Gave value) st in (
        tells.0,
        tells.2,
        none_holds c tells.0 w.log c.stands tells.1 sound,
        taken_hand tells.0 (settle_effects c c.stands) w.hand (settle_one c c.stands) (λ none. once tells.0 (taken_in (settle_effects c c.stands)) tells.1 none),
        subst (λ (m : Mem T). value_at m tells.0 ≡ None) (sym tells.3) (taken_away w.memory tells.0 value tells.2),
      )
    where
      once : (b : ℕ) (l : List ℕ) → l ≡ b ∷ [] → times b l ≡ 0 → ⊥
      once b l e none = by (times b (b ∷ [])) (ap (λ (z : Bool). (if z then 1 else 0) + 0) (eq-eqb b b refl)) (ap (times b) (sym e) ∙ none)
        where
          by : (k : ℕ) → k ≡ 1 → k ≡ 0 → ⊥
          by k one zero = cc (one, zero)

-- Whole calls reclaim some blocks, and leave all else as it was.
use Rattle.std.specs.Prelude.{Option, Some, None, IsSome}
use Rattle.std.proofs.Common.{◌≡◌, ℕ, zero, suc, ◌<◌, false, List, [], ◌++◌, inl, inr, refl, arith, ap, sym, subst, ◌∙◌}
use Rattle.seize_words.specs.declared.at.At.TheVariants.{Slot}
use Rattle.seize_words.specs.OneMemory.Mem.{Mem, Took, value_at, word_at, with_word}
use Rattle.seize_words.specs.OneMemory.Plan.{Steps}
use Rattle.seize.specs.declared.states.TheConstants.{HEAD, FREE, IDLE}
use Rattle.seize.specs.declared.advance.Advance.{Advance}
use Rattle.seize.specs.declared.rows.enter.Unregister.{Unregister}
use Rattle.seize.specs.Enter.{unregister_plan}
use Rattle.seize.specs.Law.{is_somewhere}
use Rattle.seize.specs.World.{Hand, Outside, LeftTo, times}
use Rattle.seize_model.specs.Alone.Alone.{IsOfUsers, History, IsHistory, registered, given_up}
use Rattle.seize_acts.specs.Reclaims.AllReclaimed.{IsKnown, OnlyReclaims}
use Rattle.seize_acts.proofs.Reclaims.Roots.Listed.{times_append}
use Rattle.seize_model.proofs.Alone.Spared.Operations.{none_first, none_last, spares_same, spares_twice, spares_written}
use Rattle.seize_model.proofs.Alone.Spared.Steps.{unregister_spares}
use Rattle.seize_model.proofs.Alone.Spared.Links.{unregister_links}
use Rattle.seize_model.proofs.Alone.Whole.Enter.{unregister_may}

module _ {T : Type 0} where
  pub only_same : (m : Mem T) (h : History) → OnlyReclaims m h m h []
  only_same m h = record {
    spares = spares_same m;
    gone = λ b some. absurd (omega (arith, some));
    links = λ b e. refl;
    hands = λ b e. refl;
    known = λ b k. (refl, refl);
  }

  module _ (m m1 : Mem T) (h h1 : History) (a : List ℕ) (x : OnlyReclaims m h m1 h1 a) where
    -- a block that was known is so still
    pub known_on : (b : ℕ) → IsKnown h b → IsKnown h1 b
    known_on b (inl reached) = inl (ap is_somewhere (x.known b (inl reached)).1 ∙ reached)
    known_on b (inr had) = inr (subst (λ (k : Hand). IsOfUsers k) (sym (x.hands b (x.known b (inr had)).0)) had)

    pub known_value : (b : ℕ) → IsKnown h b → value_at m1 b ≡ value_at m b
    known_value b k = x.spares.values b (x.known b k).0

    pub known_hand : (b : ℕ) → IsKnown h b → h1.hand b ≡ h.hand b
    known_hand b k = x.hands b (x.known b k).0

    pub left_known : (b : ℕ) → h.hand b ≡ LeftTo 0 → IsKnown h b
    left_known b e = inr (subst (λ (k : Hand). IsOfUsers k) (sym e) tt)

    -- these calls, and then those
    pub only_twice : (m2 : Mem T) (h2 : History) (c : List ℕ) → OnlyReclaims m1 h1 m2 h2 c → OnlyReclaims m h m2 h2 (a ++ c)
    only_twice m2 h2 c y = record {
      spares = spares_twice m m1 m2 a c x.spares y.spares;
      gone = λ b some. by b some (times b c) refl;
      links = λ b e. (let e1 : h1.hand b ≡ LeftTo 0 = known_hand b (left_known b e) ∙ e in y.links b e1 ∙ x.links b e);
      hands = λ b e. y.hands b (none_last b a c e) ∙ x.hands b (none_first b a c e);
      known = λ b k.
          let p = x.known b k in
          let q = y.known b (known_on b k) in
          let s = times_append b a c in
          let none_a = p.0 in
          let none_c = q.0 in (omega (arith, s, none_a, none_c), q.1 ∙ p.1);
    }
      where
        by : (b : ℕ) → 0 < times b (a ++ c) → (k : ℕ) → times b c ≡ k → value_at m2 b ≡ None
        by b some zero e = y.spares.values b e ∙ x.gone b (let s = times_append b a c in omega (arith, s, some, e))
        by b some (suc k) e = y.gone b (omega (arith, e))

  -- a slot is taken again that was given up
  pub only_retaken : (m : Mem T) (h : History) (s : ℕ) → word_at m (Slot s HEAD) ≡ Some FREE → OnlyReclaims m h (with_word m (Slot s HEAD) IDLE) (registered false s h) []
  only_retaken m h s free = record {
    spares = spares_written m (Slot s HEAD) IDLE (subst (λ (o : Option ℕ). IsSome o) (sym free) refl) (λ e. omega arith);
    gone = λ b some. absurd (omega (arith, some));
    links = λ b e. refl;
    hands = λ b e. refl;
    known = λ b k. (refl, refl);
  }

  -- and one is given up
  pub only_given_up : (defers : T → Option ℕ) (batch_size roots : ℕ) (m : Mem T) (h : History) → IsHistory defers batch_size roots m h → (s : ℕ) → h.uses s ≡ Outside 0
      → (m2 : Mem T) (end : Unregister × Advance Unit) → Steps Took value_at m (unregister_plan (record { slot = s })) m2 end → OnlyReclaims m h m2 (given_up s h) []
  only_given_up defers batch_size roots m h had s out m2 end st =
      let may = unregister_may defers batch_size roots m h had s out in
      record {
        spares = unregister_spares m m2 (record { slot = s }) end may st;
        gone = λ b some. absurd (omega (arith, some));
        links = λ b e. unregister_links m m2 (record { slot = s }) end may st b;
        hands = λ b e. refl;
        known = λ b k. (refl, refl);
      }

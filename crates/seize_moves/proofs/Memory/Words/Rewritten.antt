-- A block's value is rewritten: its words and those of all others stay, and so does what the collector sees.
use Rattle.std.specs.Prelude.{Option, Some, IsSome, is_some, if◌then◌else◌}
use Rattle.std.proofs.Common.{◌≡◌, ℕ, Bool, true, false, cond, eqb, refl, subst, sym, ap, ◌∙◌, eqb-true}
use Rattle.std.proofs.Math.Path.{fun_ext}
use Rattle.seize.specs.Given.SeizeWordsDeclared.at.At.{At}
use Rattle.seize.specs.Given.SeizeWordsDeclared.at.At.TheVariants.{Entry, Word}
use Rattle.seize.specs.Given.SeizeWordsMem.{Mem, value_at, with_value}
use Rattle.seize.proofs.Given.SeizeWordsOneOwner.AfterWrites.{word_at-with_value, value_at-with_value}
use Rattle.seize_moves.proofs.Moves.State.Ghost.{put}
use Rattle.seize_moves.proofs.Memory.Words.Named.{or_zero, words_of, has}
use Rattle.seize_moves.proofs.Memory.Words.View.{View, view, view_of, list_in}
use Rattle.seize_moves.proofs.Memory.Words.There.{Stocked}

module _ {T : Type 0} (m : Mem T) (b : ℕ) (new old : T) (h : value_at m b ≡ Some old) where
  there : IsSome (value_at m b)
  there = rw h refl

  pub rewritten_words : (a : At) → words_of (with_value m b new) a ≡ words_of m a
  rewritten_words a = ap or_zero (word_at-with_value m b new a there)

  pub rewritten_had : (a : At) → has (with_value m b new) a ≡ has m a
  rewritten_had a = ap is_some (word_at-with_value m b new a there)

  pub rewritten_values : (c : ℕ) → value_at (with_value m b new) c ≡ put (value_at m) b (Some new) c
  rewritten_values c = value_at-with_value m b new c there ∙ one (eqb c b)
    where
      one : (t : Bool) → (if t then Some new else value_at m c) ≡ cond t (Some new) (value_at m c)
      one true = refl
      one false = refl

  -- a value that may have the same list
  pub view_rewritten : (defers : T → Option ℕ) → defers new ≡ defers old → view defers (with_value m b new) ≡ view defers m
  view_rewritten defers same = seen ∙ fields
    where
      seen : view defers (with_value m b new) ≡ view_of defers (words_of m) (put (value_at m) b (Some new))
      seen i = view_of defers (fun_ext rewritten_words i) (fun_ext rewritten_values i)

      live : (c : ℕ) → is_some (put (value_at m) b (Some new) c) ≡ is_some (value_at m c)
      live c = one (eqb c b) (eqb-true c b)
        where
          one : (t : Bool) → (t ≡ true → c ≡ b) → is_some (cond t (Some new) (value_at m c)) ≡ is_some (value_at m c)
          one true e = sym (ap is_some (ap (value_at m) (e refl) ∙ h))
          one false e = refl

      list : (c : ℕ) → list_in defers (put (value_at m) b (Some new) c) ≡ list_in defers (value_at m c)
      list c = one (eqb c b) (eqb-true c b)
        where
          one : (t : Bool) → (t ≡ true → c ≡ b) → list_in defers (cond t (Some new) (value_at m c)) ≡ list_in defers (value_at m c)
          one true e = same ∙ sym (ap (list_in defers) (ap (value_at m) (e refl) ∙ h))
          one false e = refl

      fields : view_of defers (words_of m) (put (value_at m) b (Some new)) ≡ view defers m
      fields i = record (view defers m) { live = fun_ext live i; lists = fun_ext list i }

  pub stocked_rewritten : (defers : T → Option ℕ) → defers new ≡ defers old → Stocked defers m → Stocked defers (with_value m b new)
  stocked_rewritten defers same s = record {
    entries = λ c i k l. rewritten_had (Entry c i) ∙ s.entries c i (subst (λ (v : View). v.live c ≡ true) (view_rewritten defers same) k) l;
    lists = λ c d k. rewritten_had (Word c d) ∙ s.lists c d (subst (λ (v : View). v.lists c ≡ Some d) (view_rewritten defers same) k);
    few = λ c k. s.few c (subst (λ (v : View). v.live c ≡ true) (view_rewritten defers same) k);
  }

-- What rows leave of their users' words: the roots, and the values and the words of blocks that are not taken, save the words that hold further values.
use Rattle.std.specs.Prelude.{Option, Some, None, IsSome, if◌then◌else◌}
use Rattle.std.proofs.Common.{◌≡◌, ◌≢◌, ℕ, ◌<◌, Bool, true, false, List, [], refl, sym, subst, ap, ◌∙◌}
use Rattle.seize.specs.Given.SeizeWordsDeclared.at.At.TheVariants as name
use Rattle.seize.specs.Given.SeizeWordsMem.{Mem, same_at, value_at, word_at, with_word}
use Rattle.seize.proofs.Given.SeizeWordsOneOwner.AfterWrites.{word_at-with_word, value_at-with_word}
use Rattle.seize.specs.declared.states.TheConstants.{HEAD}
use Rattle.seize.specs.World.{times, IsOwn}
use Rattle.seize_model.specs.Alone.Alone.{Spares}
use Rattle.seize_rule.proofs.Given.SeizeMemoryWords.View.{list_in}
use Rattle.seize_rule.proofs.Given.SeizeMemoryWords.Named.{same_at-true}

module _ {T : Type 0} (defers : T → Option ℕ) where
  -- no list of further values begins with the word
  abbrev pub IsNoList : Mem T → ℕ → ℕ → Type 0
  IsNoList m b f = (value : T) → value_at m b ≡ Some value → defers value ≢ Some f

  -- a memory has become another one, and these blocks were taken
  pub record Frames (m m2 : Mem T) (back : List ℕ) : Type 0 where
    pub roots : m2.roots ≡ m.roots
    pub used : m2.used ≡ m.used
    pub values : (b : ℕ) → times b back ≡ 0 → value_at m2 b ≡ value_at m b
    pub words : (b f : ℕ) → times b back ≡ 0 → IsNoList m b f → word_at m2 (name.Word b f) ≡ word_at m (name.Word b f)
    pub slots : (s head : ℕ) → word_at m (name.Slot s HEAD) ≡ Some head → 0 < head → (head2 : ℕ) × (word_at m2 (name.Slot s HEAD) ≡ Some head2) × (0 < head2)

  pub frames_spared : (m m2 : Mem T) (back : List ℕ) → Spares m m2 back → Frames m m2 back
  frames_spared m m2 back h = record { roots = h.roots; used = h.used; values = h.values; words = λ b f none no. h.words b f none; slots = h.taken }

  -- a list begins with another value
  pub frames_list : (m : Mem T) (t d w : ℕ) → list_in defers (value_at m t) ≡ Some d → IsSome (word_at m (name.Word t d)) → Frames m (with_word m (name.Word t d) w) []
  frames_list m t d w list some = record {
    roots = refl;
    used = refl;
    values = λ b e. value_at-with_word m (name.Word t d) w b some;
    words = λ b f e apart. by b f apart (same_at (name.Word b f) (name.Word t d)) (same_at-true (name.Word b f) (name.Word t d)) (word_at-with_word m (name.Word t d) w (name.Word b f) some);
    slots = λ s head e pos. (head, e, pos);
  }
    where
      none : (o : Option T) → list_in defers o ≡ Some d → ((value : T) → o ≡ Some value → defers value ≢ Some d) → ⊥
      none None l apart = cc l
      none (Some value) l apart = apart value refl l

      by : (b f : ℕ) → IsNoList m b f → (z : Bool) → (z ≡ true → name.Word b f ≡ name.Word t d)
          → word_at (with_word m (name.Word t d) w) (name.Word b f) ≡ (if z then Some w else word_at m (name.Word b f))
          → word_at (with_word m (name.Word t d) w) (name.Word b f) ≡ word_at m (name.Word b f)
      by b f apart true same k =
          let e = parts (same refl) in
          absurd (none (value_at m t) list (λ value v. subst (λ (c : ℕ). defers value ≢ Some c) e.1 (apart value (ap (value_at m) e.0 ∙ v))))
        where
          parts : name.Word b f ≡ name.Word t d → (b ≡ t) × (f ≡ d)
          parts q = (cc q, cc q)
      by b f apart false same k = k

  -- a word that users write is such a word
  pub own_is_no_list : (m : Mem T) (b f : ℕ) → IsOwn defers m (name.Word b f) → IsNoList m b f
  own_is_no_list m b f own value v = subst (λ (x : T). defers x ≢ Some f) (some_is (sym own.1 ∙ v)) own.2
    where
      some_is : Some own.0 ≡ Some value → own.0 ≡ value
      some_is e = cc e

  -- it stays the same, and the users' own
  pub own_kept : (m m2 : Mem T) (back : List ℕ) (b f : ℕ) → Frames m m2 back → times b back ≡ 0 → IsOwn defers m (name.Word b f)
      → (word_at m2 (name.Word b f) ≡ word_at m (name.Word b f)) × IsOwn defers m2 (name.Word b f)
  own_kept m m2 back b f h none own = (h.words b f none (own_is_no_list m b f own), (own.0, h.values b none ∙ own.1, own.2))

-- What has been seen after an operation, by what that has answered.
use Rattle.std.specs.Prelude.{Option, Some, Ok, Err, if◌then◌else◌}
use Rattle.std.proofs.Common.{◌≡◌, ℕ, Bool, true, false, ◌⊎◌, inl, inr}
use Rattle.run_shows.specs.Given.SeizeWordsDeclared.at.At.{At}
use Rattle.run_shows.specs.Given.SeizeWordsMem.{Mem, value_at, word_at}
use Rattle.run_shows.specs.Given.SeizeWordsOp.{Out, Load, Add, Or, Exchange, Make, Take, Rewrite, Found, Stored, Exchanged, Made, Taken, Roomed}
use Rattle.run_shows.specs.Given.SeizeWordsPlan.{Then, Do, Ends}
use Rattle.many_acts.specs.Looks.Blocks.{MayLookAt}
use Rattle.many_acts.specs.Looks.Sees.{HasSeen}

module _ {T R : Type 0} (b : ℕ) where
  -- neither of two ways sees it
  pub none_if : (shown : ℕ → Option T) (x : Bool) (first other : Then T R) → (MayLookAt b shown first → ⊥) → (MayLookAt b shown other → ⊥) → MayLookAt b shown (if x then first else other) → ⊥
  none_if shown true first other f g sees = f sees
  none_if shown false first other f g sees = g sees

  module _ (m n : Mem T) (at : At) (end : R) (rest : Out T → Then T R) where
    -- what is left once this was answered has seen it, and comes to this end
    abbrev SeenBy : Out T → Type 0
    SeenBy out = Ends (value_at n) (rest out) end × MayLookAt b (value_at n) (rest out)

    pub loads : HasSeen b m (Do (Load at) rest) n end → (word : ℕ) × (word_at m at ≡ Some word) × (n ≡ m) × SeenBy (Found word)
    loads (Found word, took, ends, sees) = (word, took.0, took.1, (ends, sees))
    loads (Stored, took, ends, sees) = absurd took.0
    loads (Exchanged r, took, ends, sees) = absurd took.0
    loads (Made r, took, ends, sees) = absurd took.0
    loads (Taken x, took, ends, sees) = absurd took.0
    loads (Roomed r, took, ends, sees) = absurd took.0

    pub adds : (by : ℕ) → HasSeen b m (Do (Add at by) rest) n end → (word : ℕ) × (word_at m at ≡ Some word) × SeenBy (Found word)
    adds by (Found word, took, ends, sees) = (word, took.0, (ends, sees))
    adds by (Stored, took, ends, sees) = absurd took.0
    adds by (Exchanged r, took, ends, sees) = absurd took.0
    adds by (Made r, took, ends, sees) = absurd took.0
    adds by (Taken x, took, ends, sees) = absurd took.0
    adds by (Roomed r, took, ends, sees) = absurd took.0

    pub ors : (bits : ℕ) → HasSeen b m (Do (Or at bits) rest) n end → (word : ℕ) × (word_at m at ≡ Some word) × SeenBy (Found word)
    ors bits (Found word, took, ends, sees) = (word, took.0, (ends, sees))
    ors bits (Stored, took, ends, sees) = absurd took.0
    ors bits (Exchanged r, took, ends, sees) = absurd took.0
    ors bits (Made r, took, ends, sees) = absurd took.0
    ors bits (Taken x, took, ends, sees) = absurd took.0
    ors bits (Roomed r, took, ends, sees) = absurd took.0

    -- an exchange that was made, or one that found another word
    pub exchanges : (old new : ℕ) → HasSeen b m (Do (Exchange at old new) rest) n end
        → ((word : ℕ) × SeenBy (Exchanged (Ok word))) ⊎ ((word : ℕ) × (word_at m at ≡ Some word) × (n ≡ m) × SeenBy (Exchanged (Err word)))
    exchanges old new (Found word, took, ends, sees) = absurd took.0
    exchanges old new (Stored, took, ends, sees) = absurd took.0
    exchanges old new (Exchanged (Ok word), took, ends, sees) = inl (word, (ends, sees))
    exchanges old new (Exchanged (Err word), took, ends, sees) = inr (word, took.0.0, took.1, (ends, sees))
    exchanges old new (Made r, took, ends, sees) = absurd took.0
    exchanges old new (Taken x, took, ends, sees) = absurd took.0
    exchanges old new (Roomed r, took, ends, sees) = absurd took.0

  module _ (m n : Mem T) (end : R) (rest : Out T → Then T R) where
    abbrev SeenAs : Out T → Type 0
    SeenAs out = Ends (value_at n) (rest out) end × MayLookAt b (value_at n) (rest out)

    pub makes : (value : T) (words : ℕ) → HasSeen b m (Do (Make value words) rest) n end → ((block : ℕ) × SeenAs (Made (Ok block))) ⊎ ((back : T) × SeenAs (Made (Err back)))
    makes value words (Found word, took, ends, sees) = absurd took.0
    makes value words (Stored, took, ends, sees) = absurd took.0
    makes value words (Exchanged r, took, ends, sees) = absurd took.0
    makes value words (Made (Ok block), took, ends, sees) = inl (block, (ends, sees))
    makes value words (Made (Err back), took, ends, sees) = inr (back, (ends, sees))
    makes value words (Taken x, took, ends, sees) = absurd took.0
    makes value words (Roomed r, took, ends, sees) = absurd took.0

    pub takes : (block : ℕ) → HasSeen b m (Do (Take block) rest) n end → (value : T) × SeenAs (Taken value)
    takes block (Found word, took, ends, sees) = absurd took.0
    takes block (Stored, took, ends, sees) = absurd took.0
    takes block (Exchanged r, took, ends, sees) = absurd took.0
    takes block (Made r, took, ends, sees) = absurd took.0
    takes block (Taken x, took, ends, sees) = (x, (ends, sees))
    takes block (Roomed r, took, ends, sees) = absurd took.0

    pub rewrites : (block : ℕ) (value : T) → HasSeen b m (Do (Rewrite block value) rest) n end → (before : T) × SeenAs (Taken before)
    rewrites block value (Found word, took, ends, sees) = absurd took.0
    rewrites block value (Stored, took, ends, sees) = absurd took.0
    rewrites block value (Exchanged r, took, ends, sees) = absurd took.0
    rewrites block value (Made r, took, ends, sees) = absurd took.0
    rewrites block value (Taken x, took, ends, sees) = (x, (ends, sees))
    rewrites block value (Roomed r, took, ends, sees) = absurd took.0

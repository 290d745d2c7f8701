-- What an event leaves of the values of blocks that the collector has: they are as they were, or gone.
use Rattle.std.specs.Prelude.{Option, IsSome}
use Rattle.std.proofs.Common.{◌≡◌, ◌≢◌, ℕ, ◌+◌, ◌⊎◌, inl, inr, refl, arith, ap, sym, subst, ◌∙◌}
use Rattle.std.proofs.lemmas.Bool.{cases_eq}
use Rattle.seize_words.specs.declared.at.At.TheVariants.{Entry}
use Rattle.seize_words.specs.OneMemory.Mem.{Mem, value_at, word_at, with_word}
use Rattle.seize_words.proofs.OneMemory.OneOwner.AfterWrites.{value_at-with_word}
use Rattle.seize.specs.declared.states.TheConstants.{NEXT, LAST_SLOT}
use Rattle.seize.specs.Sequence.{taken_in}
use Rattle.seize.specs.World.{World, Event, Begin, Step, Makes, Drops, Links, Parts, Unlinks, Rewrites, Operates, Ends, LeavesOver, Relinks, Clears, Chooses, Happens, Hand, Handed, Making, LeftTo, Steps', times}
use Rattle.seize_model.proofs.Given.SeizeMovesState.Ghost.{IsLeft}
use Rattle.seize_model.proofs.Given.SeizeMemoryWords.Shows.{lives}
use Rattle.seize_model.proofs.Given.SeizeMemoryWords.There.{entry_there}
use Rattle.seize_model.proofs.Given.SeizeRulePoints.Aside.{HandFits}
use Rattle.seize_model.proofs.Given.SeizeRuleWorld.Values.{own_op_value, taken_value, made_value, rewritten_value}
use Rattle.seize_model.proofs.Alone.Spared.Rows.{RowStepped}
use Rattle.seize_model.proofs.Alone.Histories.Reached.{Reached}
use Rattle.seize_model.proofs.Alone.Histories.NotTaken.{did, taken_gone}
use Rattle.seize_model.proofs.Ends.Batches.Rows.{begins_memory, made_memory}
use Rattle.seize_acts.specs.Bounds.Bounds.{ArePlain}
use Rattle.seize_acts.proofs.Bounds.Bounds.Entries.{apart_made, apart_left}

module _ {T : Type 0} (defers : T → Option ℕ) (size : ℕ) (w v : World T) (r : Reached defers size w) where
  -- by the step of a row
  pub step_value : (i : ℕ) → Steps' defers i (w.row i) w v → (c : ℕ) → IsSome (value_at v.memory c) → value_at v.memory c ≡ value_at w.memory c
  step_value i step c some = by (cases_eq (times c (taken_in d.effects)) 0)
    where
      d : RowStepped defers i w v
      d = did defers size w r i v step

      by : (times c (taken_in d.effects) ≡ 0) ⊎ (times c (taken_in d.effects) ≢ 0) → value_at v.memory c ≡ value_at w.memory c
      by (inl e) = d.frames.values c e
      by (inr ne) = let none = taken_gone defers size w r i v step c ne in absurd (cc (some, none))

  -- no step of a row leaves a value that keeps a list where none was
  pub plain_kept : (i : ℕ) → Steps' defers i (w.row i) w v → ArePlain defers w → ArePlain defers v
  plain_kept i step plain b value is = plain b value (sym (step_value i step b (subst IsSome (sym is) refl)) ∙ is)

  -- a block that is left over has the word that links it to the next one
  pub left_there : (b i : ℕ) → w.hand b ≡ LeftTo i → IsSome (word_at w.memory (Entry b NEXT))
  left_there b i e =
      let life : r.good.state.life b ≡ IsLeft i = subst (λ (k : Hand). HandFits k (r.good.state.life b)) e (r.good.hands b) in
      entry_there defers (LAST_SLOT + 1) w.memory r.good.state r.good.extra b NEXT r.good.stocked r.good.shows (ap lives life) (omega arith)

  module _ (c : ℕ) (handed : w.hand c ≡ Handed) (there : IsSome (value_at w.memory c)) where
    abbrev Same : Mem T → Type 0
    Same m = value_at m c ≡ value_at w.memory c

    at : (m : Mem T) → v.memory ≡ m → Same m → Same v.memory
    at m e so = subst Same (sym e) so

    not_made : (b : ℕ) → ((h : ℕ) × (w.hand b ≡ Making h)) → c ≡ b → ⊥
    not_made b k e = apart_made w.hand b c k.0 k.1 handed e

    not_left : (b : ℕ) → ((h : ℕ) × (w.hand b ≡ LeftTo h)) → c ≡ b → ⊥
    not_left b k e = apart_left w.hand b c k.0 k.1 handed e

    -- the word that links a block is no value
    linked : (b word : ℕ) → IsSome (word_at w.memory (Entry b NEXT)) → Same (with_word w.memory (Entry b NEXT) word)
    linked b word some = value_at-with_word w.memory (Entry b NEXT) word c some

    pub value_kept : (e : Event T) → Happens defers size e w v → IsSome (value_at v.memory c) → Same v.memory
    value_kept (Begin i request) h some = at w.memory (begins_memory defers size i request w v h.1) refl
    value_kept (Step i) h some = step_value i h c some
    value_kept (Makes i value words) h some =
        at h.1 (ap (λ (x : World T). x.memory) h.4 ∙ made_memory defers w i h.1 h.0) (made_value defers w.memory c value words h.0 h.1 there h.3)
    value_kept (Drops i b) h some =
        at h.1 (ap (λ (x : World T). x.memory) h.4) (taken_value defers w.memory c b h.0 h.1 h.3 (not_made b h.2))
    value_kept (Links i b o) h some = at w.memory (ap (λ (x : World T). x.memory) h.1) refl
    value_kept (Parts i b) h some = at w.memory (ap (λ (x : World T). x.memory) h.1) refl
    value_kept (Unlinks i b) h some = at w.memory (ap (λ (x : World T). x.memory) h.1) refl
    value_kept (Rewrites i b value) h some =
        at h.1 (ap (λ (x : World T). x.memory) h.5) (rewritten_value defers w.memory c b value h.0 h.1 h.3 (not_made b h.2))
    value_kept (Operates op) h some =
        at h.1 (ap (λ (x : World T). x.memory) h.4) (ap (λ (m : Mem T). value_at m c) h.3.1 ∙ own_op_value defers w.memory c op h.0 h.2)
    value_kept (Ends i o) h some = at w.memory (ap (λ (x : World T). x.memory) h) refl
    value_kept (LeavesOver i b further) h some = at w.memory (ap (λ (x : World T). x.memory) h.4) refl
    value_kept (Relinks i b word) h some =
        at h.1 (ap (λ (x : World T). x.memory) h.4) (ap (λ (m : Mem T). value_at m c) h.3.1 ∙ linked b word (left_there b h.2.0 h.2.1))
    value_kept (Clears i b) h some =
        at h.1 (ap (λ (x : World T). x.memory) h.5) (taken_value defers w.memory c b h.0 h.1 h.4 (not_left b h.2))
    value_kept (Chooses choice) h some = at _ (ap (λ (x : World T). x.memory) h) refl

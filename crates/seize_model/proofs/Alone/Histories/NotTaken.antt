-- A block that can be reached, that an open section holds, or that a caller has, is there, and no row takes it with its next step.
use Rattle.std.specs.Prelude.{Option, Some, None, IsSome, is_some}
use Rattle.std.proofs.Common.{◌≡◌, ℕ, ◌+◌, true, false, List, ◌∷◌, ◌++◌, refl, ap, sym, subst, ◌∙◌}
use Rattle.seize.specs.Given.SeizeWordsDeclared.at.At.TheVariants as name
use Rattle.seize.specs.Given.SeizeWordsMem.{value_at, word_at}
use Rattle.seize.specs.declared.states.TheConstants.{LAST_SLOT}
use Rattle.seize.specs.Law.{Effect, Taken, is_somewhere, where_is, reachable, is_retired, holds, IsSound}
use Rattle.seize.specs.World.{World, Steps', times, IsInside, IsOwn, Hand, NoBlock, Making, InUse, Parting, Cutting, Handed, LeftTo}
use Rattle.seize.specs.Sequence.{taken_in}
use Rattle.seize_rule.proofs.Given.SeizeMovesState.Ghost.{State, Life, IsFree, IsOwned, IsLinked, IsUnlinked, IsDeferring, IsDeferred, IsPending, IsIn, IsDoomed, IsLeft, is_given, place_of}
use Rattle.seize_rule.proofs.Given.SeizeMovesState.Rule.{IsGuarded}
use Rattle.seize_rule.proofs.Given.SeizeMemoryWords.Shows.{lives}
use Rattle.seize_rule.proofs.Given.SeizeMemoryWords.There.{value_there}
use Rattle.seize_rule.proofs.Points.Aside.{HandFits}
use Rattle.seize_rule.proofs.Given.SeizeMovesState.Held.{held_through}
use Rattle.seize_model.specs.Alone.Alone.{IsOfUsers}
use Rattle.seize_model.proofs.Alone.Spared.Users.{own_kept}
use Rattle.seize_rule.proofs.Rows.Effects.{one_not_taken, hand_kept, place_kept, taken_hand}
use Rattle.seize_model.proofs.Alone.Spared.Rows.{RowStepped, row_stepped}
use Rattle.seize_model.proofs.Alone.Histories.Reached.{Reached, steps_reached}
use Rattle.seize_rule.proofs.Rows.KnownLasts.{guarded_live as guarded_lives}

-- a block that can be reached lives, and the collector doesn't have it

reached_lives : (life : ℕ → Life) (l : Life) → is_somewhere (place_of life l) ≡ true → lives l ≡ true
reached_lives life IsFree h = absurd (cc h)
reached_lives life (IsOwned i) h = refl
reached_lives life IsLinked h = refl
reached_lives life (IsUnlinked i) h = refl
reached_lives life (IsDeferring i s t) h = refl
reached_lives life (IsDeferred t) h = refl
reached_lives life (IsPending i) h = refl
reached_lives life (IsIn x) h = refl
reached_lives life (IsDoomed i) h = refl
reached_lives life (IsLeft i) h = refl

reached_kept : (life : ℕ → Life) (l : Life) → is_somewhere (place_of life l) ≡ true → is_given l ≡ false
reached_kept life IsFree h = refl
reached_kept life (IsOwned i) h = refl
reached_kept life IsLinked h = refl
reached_kept life (IsUnlinked i) h = refl
reached_kept life (IsDeferring i s t) h = refl
reached_kept life (IsDeferred t) h = refl
reached_kept life (IsPending i) h = refl
reached_kept life (IsIn x) h = absurd (cc h)
reached_kept life (IsDoomed i) h = absurd (cc h)
reached_kept life (IsLeft i) h = refl

users_live : (h : Hand) (l : Life) → IsOfUsers h → HandFits h l → lives l ≡ true
users_live NoBlock l u f = absurd u
users_live (Making i) l u f = ap lives f
users_live (InUse o) l u f = ap lives f
users_live (Parting i) l u f = ap lives f
users_live (Cutting i) l u f = ap lives f
users_live Handed l u f = absurd u
users_live (LeftTo i) l u f = ap lives f

-- what isn't the collector's it doesn't have
not_given : (h : Hand) (l : Life) → (h ≡ Handed → ⊥) → HandFits h l → is_given l ≡ false
not_given NoBlock l u f = ap is_given f
not_given (Making i) l u f = ap is_given f
not_given (InUse o) l u f = ap is_given f
not_given (Parting i) l u f = ap is_given f
not_given (Cutting i) l u f = ap is_given f
not_given Handed l u f = absurd (u refl)
not_given (LeftTo i) l u f = ap is_given f

not_handed : (h : Hand) → IsOfUsers h → h ≡ Handed → ⊥
not_handed h u e = subst (λ (k : Hand). IsOfUsers k) e u

-- The block can be reached, or an open section holds it, or a caller has it.
pub data IsKept {T : Type 0} (b : ℕ) (w : World T) : Type 0 where
  CanBeReached : reachable b w.log ≡ true → IsKept b w
  IsHeld : (s : ℕ) → holds s b w.log ≡ true → IsKept b w
  IsHad : IsOfUsers (w.hand b) → IsKept b w

module _ {T : Type 0} (defers : T → Option ℕ) (size : ℕ) (w : World T) (r : Reached defers size w) where
  abbrev m : State
  m = r.good.state

  place_is : (b : ℕ) → reachable b w.log ≡ true → is_somewhere (place_of m.life (m.life b)) ≡ true
  place_is b h = ap is_somewhere (sym (r.good.inv.logged.reaches b)) ∙ ap (reachable b) r.good.logged ∙ h

  guarded : (s b : ℕ) → holds s b w.log ≡ true → IsGuarded (m.life b) m.debt s
  guarded s b h = r.good.inv.logged.guarded s b (ap (holds s b) r.good.logged ∙ h)

  pub kept_there : (b : ℕ) → IsKept b w → IsSome (value_at w.memory b)
  kept_there b kept = value_there defers (LAST_SLOT + 1) w.memory m r.good.extra b r.good.shows (lives_on kept)
    where
      lives_on : IsKept b w → lives (m.life b) ≡ true
      lives_on (CanBeReached h) = reached_lives m.life (m.life b) (place_is b h)
      lives_on (IsHeld s h) = guarded_lives (m.life b) m.debt s (guarded s b h)
      lives_on (IsHad h) = users_live (w.hand b) (m.life b) h (r.good.hands b)

  -- a number that is nobody's names no block
  pub nobodys : (b : ℕ) → w.hand b ≡ NoBlock → value_at w.memory b ≡ None
  nobodys b e = none_is (value_at w.memory b) (r.good.shows.lists.lived b ∙ ap lives (subst (λ (h : Hand). HandFits h (m.life b)) e (r.good.hands b)))
    where
      none_is : (o : Option T) → is_some o ≡ false → o ≡ None
      none_is None k = refl
      none_is (Some value) k = absurd (cc k)

  -- what the collector isn't given it doesn't take
  never_given : (b : ℕ) → is_given (m.life b) ≡ false → IsSound (Taken b ∷ w.log) → ⊥
  never_given b none sound = let same = ap (is_retired b) r.good.logged in cc (sound.0, same, r.good.inv.logged.given b, none)

  never_taken : (b : ℕ) → IsKept b w → IsSound (Taken b ∷ w.log) → ⊥
  never_taken b (CanBeReached h) sound = never_given b (reached_kept m.life (m.life b) (place_is b h)) sound
  never_taken b (IsHeld s h) sound = cc (sound.2 s, h)
  never_taken b (IsHad h) sound = never_given b (not_given (w.hand b) (m.life b) (not_handed (w.hand b) h) (r.good.hands b)) sound

  module _ (i : ℕ) (w2 : World T) (step : Steps' defers i (w.row i) w w2) where
    abbrev pub did : RowStepped defers i w w2
    did = row_stepped defers w r.good i w2 step

    sound : IsSound (did.effects ++ w.log)
    sound = let good2 = (steps_reached defers size i w w2 r step).good in subst (λ (l : List Effect). IsSound l) (good2.logged ∙ did.logged) good2.inv.logged.sound

    pub not_taken : (b : ℕ) → IsKept b w → times b (taken_in did.effects) ≡ 0
    not_taken b kept = one_not_taken b did.effects w.log did.one (never_taken b kept) sound

    -- it has its value, and the words of its users theirs
    pub kept_value : (b : ℕ) → IsKept b w → value_at w2.memory b ≡ value_at w.memory b
    kept_value b kept = did.frames.values b (not_taken b kept)

    pub kept_word : (b f : ℕ) → IsKept b w → IsOwn defers w.memory (name.Word b f) → (word_at w2.memory (name.Word b f) ≡ word_at w.memory (name.Word b f)) × IsOwn defers w2.memory (name.Word b f)
    kept_word b f kept own = own_kept defers w.memory w2.memory (taken_in did.effects) b f did.frames (not_taken b kept) own

    pub kept_hand : (b : ℕ) → IsKept b w → w2.hand b ≡ w.hand b
    kept_hand b kept = ap (λ (h : ℕ → Hand). h b) did.hands ∙ hand_kept b did.effects w.hand (not_taken b kept) did.one

    -- blocks can be reached as before, and a section that somebody is inside holds what it held
    pub still_reached : (b : ℕ) → reachable b w2.log ≡ reachable b w.log
    still_reached b = ap is_somewhere (ap (where_is b) did.logged ∙ place_kept b did.effects w.log did.one)

    pub still_held : (s b : ℕ) → IsInside (w.uses s) → holds s b w.log ≡ true → holds s b w2.log ≡ true
    still_held s b inside h = ap (holds s b) did.logged ∙ held_through s b did.effects w.log (did.goes_on s inside) h

module _ {T : Type 0} (defers : T → Option ℕ) (size : ℕ) (w : World T) (r : Reached defers size w) (i : ℕ) (w2 : World T) (step : Steps' defers i (w.row i) w w2) where
  -- a block that is taken is gone
  pub taken_gone : (b : ℕ) → (times b (taken_in (did defers size w r i w2 step).effects) ≡ 0 → ⊥) → value_at w2.memory b ≡ None
  taken_gone b some =
      let s = did defers size w r i w2 step in
      nobodys defers size w2 (steps_reached defers size i w w2 r step) b (ap (λ (h : ℕ → Hand). h b) s.hands ∙ taken_hand b s.effects w.hand s.one some)

-- What a step of a call leaves of the history of its map: a moment passes, or none, and what was so at earlier ones was so.
use Rattle.std.specs.Prelude.{◌≡◌, ℕ, suc, ◌<◌, ◌≤◌, Bool, ◌⊎◌}
use Rattle.std.proofs.Common.{refl, ap, ◌∙◌, arith, inl, inr}
use Rattle.run_shows.specs.Given.TablesDeclared.resize_mode.ResizeMode.{ResizeMode}
use Rattle.run_shows.specs.Given.TablesChunks.{is_incremental}
use Rattle.run_shows.specs.Given.RuleChart.{Chart}
use Rattle.run_shows.specs.Given.RuleInWorld.{Moved}
use Rattle.run_shows.specs.Given.RuleLasts.{Lasts}
use Rattle.run_shows.specs.Given.RuleMaps.{spot_of}
use Rattle.run_shows.specs.Given.RuleMoments.{Remembers}
use Rattle.run_shows.specs.Given.RuleMoves.{Move, Links, Stores, Replaces, Removes, Marks, MarksBlocking, Skips, Unmarks, Puts, Covers, PutsLate, Claims, Reclaims, Counts, GivesUp, Aborts, Promotes, Announces, after}

pub record IsLater {K : Type 0} (c c2 : Chart K) : Type 0 where
  pub now : (c2.now ≡ c.now) ⊎ (c2.now ≡ suc c.now)
  pub was : (time : ℕ) → time ≤ c.now → c2.was time ≡ c.was time
  pub stored : c.stored ≤ c2.stored
  pub keys : (n : ℕ) → n < c.stored → c2.key n ≡ c.key n

pub same_later : {K : Type 0} (c : Chart K) → IsLater c c
same_later c = record { now = inl refl; was = λ time l. refl; stored = omega arith; keys = λ n l. refl }

-- by a move, one moment passes, or none
module _ {K : Type 0} (spot : ℕ → K → ℕ → ℕ) (incremental : Bool) where
  now_moved : (move : Move K) (c : Chart K) → ((after spot incremental move c).now ≡ c.now) ⊎ ((after spot incremental move c).now ≡ suc c.now)
  now_moved (Links len limit) c = inl refl
  now_moved (Stores t k j) c = inr refl
  now_moved (Replaces t i k) c = inr refl
  now_moved (Removes t i) c = inr refl
  now_moved (Marks caller i) c = inl refl
  now_moved (MarksBlocking i) c = inl refl
  now_moved (Skips caller t i) c = inl refl
  now_moved (Unmarks caller i) c = inl refl
  now_moved (Puts caller i t k j) c = inl refl
  now_moved (Covers caller i) c = inl refl
  now_moved (PutsLate t i n) c = inl refl
  now_moved (Claims caller t chunk) c = inl refl
  now_moved (Reclaims t claim) c = inl refl
  now_moved (Counts caller t number) c = inl refl
  now_moved (GivesUp caller t) c = inl refl
  now_moved (Aborts t) c = inl refl
  now_moved (Promotes t) c = inl refl
  now_moved (Announces t) c = inl refl

module _ {K : Type 0} (same : K → K → Bool) (hash : K → ℕ) (mode : ResizeMode) (c c2 : Chart K) where
  now_then : (caller : ℕ) → Moved same hash mode caller c c2 → (c2.now ≡ c.now) ⊎ (c2.now ≡ suc c.now)
  now_then caller (inl e) = inl (ap (λ (x : Chart K). x.now) e)
  now_then caller (inr (move, allowed, e, its)) = elim (now_moved (spot_of hash) (is_incremental mode) move c) as (λ _. (c2.now ≡ c.now) ⊎ (c2.now ≡ suc c.now)) [
    | inl kept ↦ inl (ap (λ (x : Chart K). x.now) e ∙ kept)
    | inr on ↦ inr (ap (λ (x : Chart K). x.now) e ∙ on)
  ]

  pub moved_later : (caller : ℕ) → Moved same hash mode caller c c2 → Lasts same (spot_of hash) (is_incremental mode) c c2 → Remembers (is_incremental mode) c c2 → IsLater c c2
  moved_later caller moved lasts remembers = record { now = now_then caller moved; was = remembers.was; stored = lasts.stored; keys = lasts.keys }

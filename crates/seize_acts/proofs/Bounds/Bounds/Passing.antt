-- What is so of a row that settles is so after what the others do meanwhile; and each step of it lowers how many are left.
use Rattle.std.specs.Prelude.{◌++◌, Option}
use Rattle.std.proofs.Common.{◌≡◌, ℕ, zero, suc, ◌<◌, List, [], ◌∷◌, inl, inr, refl, arith, ap, sym, subst, ◌∙◌}
use Rattle.seize.specs.World.{World, Row, Event, Begin, Step, Makes, Drops, Links, Parts, Unlinks, Rewrites, Operates, Ends, LeavesOver, Relinks, Clears, Chooses, Happens, Steps'}
use Rattle.seize.specs.Sequence.{IsBetween}
use Rattle.seize_model.proofs.Given.SeizeRuleRows.Others.{begins_others, steps_others, users_rows}
use Rattle.seize_acts.specs.Bounds.Bounds.{IsOfOthers, Meanwhile, Within}

module _ {T : Type 0} (defers : T → Option ℕ) (so : World T → Type 0) (size j : ℕ) where
  -- one after another
  pub both : (a b : List (Event T)) (w v n : World T) → Meanwhile defers so size j a w v → Meanwhile defers so size j b v n
      → Meanwhile defers so size j (a ++ b) w n
  both [] b w v n h k = subst (λ (x : World T). Meanwhile defers so size j b x n) h k
  both (e ∷ a) b w v n h k = (h.0, h.1, h.2, h.3, both a b h.0 v n h.4 k)

module _ {T : Type 0} (defers : T → Option ℕ) (size j : ℕ) where
  -- the row is as it was

  between_row : (e : Event T) (w v : World T) → IsBetween e → Happens defers size e w v → v.row j ≡ w.row j
  between_row e w v is h = ap (λ f. f j) (users_rows defers size w v e is h)

  pub event_row : (e : Event T) (w v : World T) → IsOfOthers j e → Happens defers size e w v → v.row j ≡ w.row j
  event_row (Begin i request) w v ne h = begins_others defers size w v i j (λ z. ne (sym z)) request h.1
  event_row (Step i) w v ne h = steps_others defers size w v i j (λ z. ne (sym z)) (w.row i) h
  event_row (Makes i value words) w v ne h = between_row (Makes i value words) w v tt h
  event_row (Drops i b) w v ne h = between_row (Drops i b) w v tt h
  event_row (Links i b o) w v ne h = between_row (Links i b o) w v tt h
  event_row (Parts i b) w v ne h = between_row (Parts i b) w v tt h
  event_row (Unlinks i b) w v ne h = between_row (Unlinks i b) w v tt h
  event_row (Rewrites i b value) w v ne h = between_row (Rewrites i b value) w v tt h
  event_row (Operates op) w v ne h = between_row (Operates op) w v tt h
  event_row (Ends i o) w v ne h = between_row (Ends i o) w v tt h
  event_row (LeavesOver i b further) w v ne h = between_row (LeavesOver i b further) w v tt h
  event_row (Relinks i b word) w v ne h = between_row (Relinks i b word) w v tt h
  event_row (Clears i b) w v ne h = between_row (Clears i b) w v tt h
  event_row (Chooses choice) w v ne h = between_row (Chooses choice) w v tt h

module _ {T : Type 0} (defers : T → Option ℕ) (so : World T → Type 0) (done : Row → Type 0) (size j : ℕ) where
  row_kept : (events : List (Event T)) (w n : World T) → Meanwhile defers so size j events w n → n.row j ≡ w.row j
  row_kept [] w n h = ap (λ (x : World T). x.row j) h
  row_kept (e ∷ events) w n h = row_kept events h.0 n h.4 ∙ event_row defers size j e w h.0 h.1 h.2

  pub still_within : (k : ℕ) (w n : World T) (events : List (Event T)) → Meanwhile defers so size j events w n → Within defers so done size j k w
      → Within defers so done size j k n
  still_within zero w n events h c = subst done (sym (row_kept events w n h)) c
  still_within (suc k) w n events h (inl c) = inl (subst done (sym (row_kept events w n h)) c)
  still_within (suc k) w n events h (inr f) = inr (λ more v m g step. f (events ++ more) v m (both defers so size j events more w n v h g) step)

  -- a step of its own
  pub steps_within : (k : ℕ) (w n : World T) → Within defers so done size j k w → (done (w.row j) → ⊥) → Steps' defers j (w.row j) w n
      → (l : ℕ) × (l < k) × Within defers so done size j l n
  steps_within zero w n c ne step = absurd (ne c)
  steps_within (suc k) w n (inl c) ne step = absurd (ne c)
  steps_within (suc k) w n (inr f) ne step = (k, omega arith, f [] w n refl step)

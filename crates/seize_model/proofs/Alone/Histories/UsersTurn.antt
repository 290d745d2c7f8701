-- What users do, one event after another where every row rests, leaves the uses of slots and what has changed in the waiting sets.
use Rattle.std.specs.Prelude.{Option, Ok, Err}
use Rattle.std.proofs.Common.{◌≡◌, ℕ, List, [], ◌∷◌, refl, subst, sym, ap}
use Rattle.seize.specs.Given.SeizeWordsOp.{Out, Found, Stored, Exchanged, Made, Taken, Roomed}
use Rattle.seize.specs.Given.SeizeWordsMem.{Mem}
use Rattle.seize.specs.World.{World, Rests, Event, Begin, Step, Makes, Drops, Links, Parts, Unlinks, Rewrites, Operates, Chooses, Happens, Runs, made_by, LeavesOver, Relinks, Clears, Ends}
use Rattle.seize.specs.Sequence.{IsUsers, IsBetween, ended_by}
use Rattle.seize_model.specs.Alone.Alone.{History, IsHistory, at_rest}
use Rattle.seize_rule.proofs.Rows.Others.{users_rows}
use Rattle.seize_model.proofs.Alone.Histories.Calls.{happened_history}

-- none of these is a step of a row or begins one
abbrev pub AreUsers : {T : Type 0} → List (Event T) → Type 0
AreUsers [] = Unit {0}
AreUsers (e ∷ events) = IsUsers e × AreUsers events

-- nor of these, which leave further values over, too
abbrev pub AreBetween : {T : Type 0} → List (Event T) → Type 0
AreBetween [] = Unit {0}
AreBetween (e ∷ events) = IsBetween e × AreBetween events

-- users leave nothing over
users_end_none : {T : Type 0} (e : Event T) → IsUsers e → ended_by e ≡ []
users_end_none (Begin i request) u = refl
users_end_none (Step i) u = refl
users_end_none (Makes i value words) u = refl
users_end_none (Drops i b) u = refl
users_end_none (Links i b o) u = refl
users_end_none (Parts i b) u = refl
users_end_none (Unlinks i b) u = refl
users_end_none (Rewrites i b value) u = refl
users_end_none (Operates op) u = refl
users_end_none (Ends i o) u = refl
users_end_none (LeavesOver i b further) u = absurd u
users_end_none (Relinks i b word) u = refl
users_end_none (Clears i b) u = refl
users_end_none (Chooses choice) u = refl

-- what is of users may happen between rows
pub users_between : {T : Type 0} (e : Event T) → IsUsers e → IsBetween e
users_between (Begin i request) u = u
users_between (Step i) u = u
users_between (Makes i value words) u = tt
users_between (Drops i b) u = tt
users_between (Links i b o) u = tt
users_between (Parts i b) u = tt
users_between (Unlinks i b) u = tt
users_between (Rewrites i b value) u = tt
users_between (Operates op) u = tt
users_between (Ends i o) u = tt
users_between (LeavesOver i b further) u = absurd u
users_between (Relinks i b word) u = tt
users_between (Clears i b) u = tt
users_between (Chooses choice) u = tt

module _ {T : Type 0} (defers : T → Option ℕ) (size : ℕ) (w w2 : World T) where
  made_uses : (i : ℕ) (m : Mem T) (out : Out T) → (made_by defers w i m out).uses ≡ w.uses
  made_uses i m (Found x) = refl
  made_uses i m Stored = refl
  made_uses i m (Exchanged r) = refl
  made_uses i m (Made (Ok b)) = refl
  made_uses i m (Made (Err b)) = refl
  made_uses i m (Taken x) = refl
  made_uses i m (Roomed r) = refl

  -- the slots are used as before

  pub between_uses : (e : Event T) → IsBetween e → Happens defers size e w w2 → w2.uses ≡ w.uses
  between_uses (Begin i request) u e = absurd u
  between_uses (Step i) u e = absurd u
  between_uses (Makes i value words) u e = subst (λ (v : World T). v.uses ≡ w.uses) (sym e.4) (made_uses i e.1 e.0)
  between_uses (Drops i b) u e = subst (λ (v : World T). v.uses ≡ w.uses) (sym e.4) refl
  between_uses (Links i b o) u e = subst (λ (v : World T). v.uses ≡ w.uses) (sym e.1) refl
  between_uses (Parts i b) u e = subst (λ (v : World T). v.uses ≡ w.uses) (sym e.1) refl
  between_uses (Unlinks i b) u e = subst (λ (v : World T). v.uses ≡ w.uses) (sym e.1) refl
  between_uses (Rewrites i b value) u e = subst (λ (v : World T). v.uses ≡ w.uses) (sym e.5) refl
  between_uses (Operates op) u e = subst (λ (v : World T). v.uses ≡ w.uses) (sym e.4) refl
  between_uses (Ends i o) u e = subst (λ (v : World T). v.uses ≡ w.uses) (sym e) refl
  between_uses (LeavesOver i b further) u e = subst (λ (v : World T). v.uses ≡ w.uses) (sym e.4) refl
  between_uses (Relinks i b word) u e = subst (λ (v : World T). v.uses ≡ w.uses) (sym e.4) refl
  between_uses (Clears i b) u e = subst (λ (v : World T). v.uses ≡ w.uses) (sym e.5) refl
  between_uses (Chooses choice) u e = subst (λ (v : World T). v.uses ≡ w.uses) (sym e) refl

  pub users_uses : (e : Event T) → IsUsers e → Happens defers size e w w2 → w2.uses ≡ w.uses
  users_uses e u h = between_uses e (users_between e u) h

module _ {T : Type 0} (defers : T → Option ℕ) (size roots : ℕ) where
  -- what has happened up to this world, in which every row rests
  abbrev pub since : History → World T → History
  since h w = record { before = h.before; uses = h.uses; hand = w.hand; log = w.log }

  rests_there : (h : History) (w : World T) → w.row ≡ (λ i. Rests) → w.uses ≡ h.uses → w ≡ at_rest defers w.memory (since h w)
  rests_there h w rows uses = λ i. record { memory = w.memory; row = rows i; uses = uses i; hand = w.hand; log = w.log }

  -- every row rests again, and it has happened since the start
  pub users_turn : (events : List (Event T)) (m : Mem T) (h : History) (w : World T) → AreUsers events → Runs defers size events (at_rest defers m h) w
      → (w ≡ at_rest defers w.memory (since h w)) × (IsHistory defers size roots m h → IsHistory defers size roots w.memory (since h w))
  users_turn [] m h w u r = (
    rests_there h w (ap (λ (v : World T). v.row) r) (ap (λ (v : World T). v.uses) r),
    λ had. subst (λ (v : World T). IsHistory defers size roots v.memory (since h v)) (sym r) had,
  )
  users_turn (e ∷ events) m h w u r =
      let v = r.0 in
      let rests = rests_there h v (users_rows defers size (at_rest defers m h) v e (users_between e u.0) r.1) (users_uses defers size (at_rest defers m h) v e u.0 r.1) in
      let further = users_turn events v.memory (since h v) w u.1 (subst (λ (x : World T). Runs defers size events x w) rests r.2) in (
        further.0,
        λ had. further.1
            (happened_history defers size roots m v.memory h (since h v) had e (users_between e u.0) (users_end_none e u.0) (subst (λ (x : World T). Happens defers size e (at_rest defers m h) x) rests r.1) refl),
      )

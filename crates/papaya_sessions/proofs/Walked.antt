-- The keys or values that a session has listed are clones of those that a walk has told; and a walk by steps goes on, one key after another.
use Rattle.std.specs.Prelude.{List, [], ◌∷◌, ◌++◌, false, Option, None, Result, Ok, Err, IfErr, IfOk, IsSome, Vec}
use Rattle.std.specs.List.{AllZip, FoldsTo}
use Rattle.std.proofs.Common.{◌≡◌, ◌∙◌, ℕ, Bool, Global, refl, sym, ap, subst, inl, inr, append-nil}
use Rattle.std.proofs.lemmas.List.{append_assoc}
use Rattle.papaya_sessions.specs.OneMap.{MapWasShown, WasRefused}
use Rattle.papaya_sessions.specs.Under.{HasGotPairUnder}
use Rattle.papaya_sessions.specs.Walked.{GoesOn, HasListedAll, PutsClone, WasNotListed}
use Rattle.play_moves.specs.Given.ViewsDeclared.view.View.{View}
use Rattle.seize_words.specs.declared.fault.Fault.{Fault}
use Rattle.seize_words.specs.declared.fault.Fault.TheVariants.{Memory}
use Rattle.threads_sweeps.specs.Onlookers.{HasBeenShown}
use Rattle.threads_sweeps.specs.Swept.{walks}
use Rattle.threads_updates.specs.Given.CallersDeclared.caller.MapCaller.{MapCaller}

module _ {K V W T : Type 0} (part : K × V → T) (clone : T → T → Type 0) (refused : W → Bool) (items : W → List T) where
  -- what was put, one after another, are clones of that part of what was told
  all_cloned : (pairs : List (K × V)) (first last : W) → FoldsTo (λ w pair next. PutsClone clone (part pair) (refused w) (items w) (refused next) (items next)) first pairs last → refused last ≡ false
      → (refused first ≡ false) × (more : List T) × AllZip (λ (pair : K × V) (item : T). clone (part pair) item) pairs more × (items last ≡ items first ++ more)
  all_cloned [] first last is clean = (ap refused is ∙ clean, [], tt, sym (ap items is) ∙ sym (append-nil (items first)))
  all_cloned (pair ∷ pairs) first last (next, one, folds) clean =
      let rest = all_cloned pairs next last folds clean in
      let put = one rest.0 in
      (put.0, put.1 ∷ rest.1, (put.2, rest.2), rest.3 ∙ ap (λ xs. xs ++ rest.1) put.3 ∙ append_assoc (items first) (put.1 ∷ []) rest.1)

  module _ {S : Type 0} (same : K → K → Bool) (hash : S → K → ℕ) (c n : MapCaller K V S) where
    -- those are listed
    pub has_listed : (first last : W) → items first ≡ []
        → HasBeenShown same hash (λ w key x next. PutsClone clone (part (key, x)) (refused w) (items w) (refused next) (items next)) first last c.seat.view n.seat.view
        → (end : Result (Unit {0}) Fault) (done : Unit {0}) → end ≡ Ok done → IfOk end (λ _. MapWasShown same hash c n) → (r : Result (Vec T Global) Fault)
        → IfOk r (λ listed. (refused last ≡ false) × (listed.items ≡ items last)) → IfOk r (λ listed. HasListedAll same hash part clone listed.items c n)
    has_listed first last none (pairs, was, folds) end done is shown (Err fault) all = tt
    has_listed first last none (pairs, was, folds) end done is shown (Ok listed) all =
        let it = all_cloned pairs first last folds all.0 in record {
          pairs = pairs;
          told = was;
          shown = subst (λ (e : Result (Unit {0}) Fault). IfOk e (λ _. MapWasShown same hash c n)) is shown;
          each = subst (λ xs. AllZip (λ (pair : K × V) (item : T). clone (part pair) item) pairs xs) (sym (all.1 ∙ it.3 ∙ ap (λ xs. xs ++ it.1) none)) it.2;
        }

module _ {K V S : Type 0} (same : K → K → Bool) (hash : S → K → ℕ) (c n : MapCaller K V S) where
  -- none were where the walk was refused,
  pub not_told : (end : Result (Unit {0}) Fault) (fault : Fault) → end ≡ Err fault → IfErr end (λ f. WasRefused same hash walks f c n) → WasNotListed same hash fault c n
  not_told end fault is refused = inl (subst (λ (e : Result (Unit {0}) Fault). IfErr e (λ f. WasRefused same hash walks f c n)) is refused)

  -- or it has ended, and memory was refused
  pub not_listed : {T : Type 0} (end : Result (Unit {0}) Fault) (done : Unit {0}) → end ≡ Ok done → IfOk end (λ _. MapWasShown same hash c n) → (r : Result (Vec T Global) Fault) → IfErr r (λ f. f ≡ Memory)
      → IfErr r (λ f. WasNotListed same hash f c n)
  not_listed end done is shown (Ok listed) none = tt
  not_listed end done is shown (Err fault) none = inr (none, subst (λ (e : Result (Unit {0}) Fault). IfOk e (λ _. MapWasShown same hash c n)) is shown)

module _ {K V S Q : Type 0} (same : K → K → Bool) (hash : S → K → ℕ) (stands : Q → K) (c : MapCaller K V S) (all keys : List Q) (key : Q) (is : all ≡ key ∷ keys) where
  -- the pair of the first key was lent,
  pub was_lent : (v w : View K V S) (found : Option (K × V)) → IsSome found → HasGotPairUnder same hash (stands key) c found v w → GoesOn same hash stands c found all v keys w
  was_lent v w found some lent = subst (λ (ks : List Q). GoesOn same hash stands c found ks v keys w) (sym is) (inl (some, lent, refl))

  -- or the map had none, and the walk has gone on with the others
  pub went_on : (v u w : View K V S) (found : Option (K × V)) (rest : List Q) → HasGotPairUnder same hash (stands key) c None v u → GoesOn same hash stands c found keys u rest w
      → GoesOn same hash stands c found all v rest w
  went_on v u w found rest missed on = subst (λ (ks : List Q). GoesOn same hash stands c found ks v rest w) (sym is) (inr (u, missed, on))

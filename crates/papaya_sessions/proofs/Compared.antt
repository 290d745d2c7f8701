-- What was compared of all that a walk has told: each pair, up to the first that was not there.
use Rattle.std.specs.Prelude.{List, [], ◌∷◌, Result, Ok, IfOk}
use Rattle.std.specs.List.{FoldsTo}
use Rattle.std.proofs.Common.{◌≡◌, ◌∙◌, ℕ, Bool, true, false, ap, inl, inr, refl, sym, subst}
use Rattle.papaya_sessions.specs.Compared.{ComparesOnce, HasCompared, HasComparedAll, HasComparedPair}
use Rattle.papaya_sessions.specs.OneMap.{MapWasShown}
use Rattle.play_moves.specs.Given.ViewsDeclared.view.View.{View}
use Rattle.seize_words.specs.declared.fault.Fault.{Fault}
use Rattle.threads_sweeps.specs.Onlookers.{HasBeenShown}
use Rattle.threads_updates.specs.Given.CallersDeclared.caller.MapCaller.{MapCaller}

module _ {K V T U W : Type 0} (same : K → K → Bool) (by : T → K → ℕ) (equal : V → V → Bool) (caller : U → MapCaller K V T) (under : W → U) (alike : W → Bool) (view : W → View K V T) where
  abbrev along : W → K → V → W → Type 0
  along w key value n = (under n ≡ under w) × ComparesOnce same by equal (caller (under w)) (key, value) (alike w) (view w) (alike n) (view n)

  abbrev alongs : W → K × V → W → Type 0
  alongs w x n = along w x.0 x.1 n

  -- after the first that was not there no more is looked up
  no_more : (xs : List (K × V)) (w last : W) → FoldsTo alongs w xs last → alike w ≡ false → (alike last ≡ false) × (view last ≡ view w)
  no_more [] w last is was = (sym (ap alike is) ∙ was, sym (ap view is))
  no_more (x ∷ xs) w last (j, one, folds) was =
      let here = subst (λ (b : Bool). ComparesOnce same by equal (caller (under w)) (x.0, x.1) b (view w) (alike j) (view j)) was one.1 in let rest = no_more xs j last folds here.0 in
      (rest.0, rest.1 ∙ here.1)

  -- the first of these, and the others
  with_rest : (x : K × V) (xs : List (K × V)) (w j last : W) (b : Bool) → alike j ≡ b → HasComparedPair same by equal (caller (under w)) x b (view w) (view j) → FoldsTo alongs j xs last
      → (alike j ≡ true → HasComparedAll same by equal (caller (under w)) xs (alike last) (view j) (view last)) → HasComparedAll same by equal (caller (under w)) (x ∷ xs) (alike last) (view w) (view last)
  with_rest x xs w j last true was here folds rest = (view j, inl (here, rest was))
  with_rest x xs w j last false was here folds rest = let others = no_more xs j last folds was in (view j, inr (here, others.0, others.1))

  all_compared : (xs : List (K × V)) (w last : W) → FoldsTo alongs w xs last → alike w ≡ true → HasComparedAll same by equal (caller (under w)) xs (alike last) (view w) (view last)
  all_compared [] w last is was = (sym (ap alike is) ∙ was, sym (ap view is))
  all_compared (x ∷ xs) w last (j, one, folds) was =
      with_rest x xs w j last (alike j) refl (subst (λ (b : Bool). ComparesOnce same by equal (caller (under w)) (x.0, x.1) b (view w) (alike j) (view j)) was one.1) folds
      (λ so. subst (λ (u : U). HasComparedAll same by equal (caller u) xs (alike last) (view j) (view last)) one.0 (all_compared xs j last folds so))

  -- the walk has ended
  pub compared_all : {S : Type 0} (hash : S → K → ℕ) (c n : MapCaller K V S) (o : MapCaller K V T) (first last : W) → HasBeenShown same hash along first last c.seat.view n.seat.view → alike first ≡ true
      → (view first).calls ≡ [] → caller (under first) ≡ o → (end : Result (Unit {0}) Fault) (done : Unit {0}) → end ≡ Ok done → IfOk end (λ _. MapWasShown same hash c n)
      → HasCompared same hash by equal (alike last) c n o
  compared_all hash c n o first last (pairs, told, folds) was none its end done is shown = record {
    pairs = pairs;
    told = told;
    shown = subst (λ (e : Result (Unit {0}) Fault). IfOk e (λ _. MapWasShown same hash c n)) is shown;
    first = view first;
    none = none;
    last = view last;
    compared = subst (λ (m : MapCaller K V T). HasComparedAll same by equal m pairs (alike last) (view first) (view last)) its (all_compared pairs first last folds was);
  }

-- What a walk by steps has done: which keys or values a session has listed by what a walk has told it, and how far one has come that looks listed keys up.
use Rattle.std.specs.Prelude.{◌≡◌, ◌⊎◌, ◌++◌, ◌∷◌, ℕ, Bool, false, List, [], Option, None, IsSome}
use Rattle.std.specs.List.{AllZip}
use Rattle.papaya_sessions.specs.OneMap.{MapWasShown, WasRefused}
use Rattle.papaya_sessions.specs.Under.{HasGotPairUnder}
use Rattle.play_moves.specs.Given.ViewsDeclared.view.View.{View}
use Rattle.seize_words.specs.declared.fault.Fault.{Fault}
use Rattle.seize_words.specs.declared.fault.Fault.TheVariants.{Memory}
use Rattle.threads_sweeps.specs.Onlookers.{HasTold}
use Rattle.threads_sweeps.specs.Swept.{walks}
use Rattle.threads_updates.specs.Given.CallersDeclared.caller.MapCaller.{MapCaller}

-- Where none was refused by then, none was before, and a clone of this one was put after these.
abbrev pub PutsClone : {T : Type 0} → (T → T → Type 0) → T → Bool → List T → Bool → List T → Type 0
PutsClone {T} clone one refused before now after = (now ≡ false) → (refused ≡ false) × (own : T) × clone one own × (after ≡ before ++ (own ∷ []))

module _ {K V S : Type 0} (same : K → K → Bool) (hash : S → K → ℕ) where
  -- The session has gone over its map, and these are clones of a part of each of the pairs that it was told, one by one, in their order:
  pub record HasListedAll {T : Type 0} (part : K × V → T) (clone : T → T → Type 0) (items : List T) (c n : MapCaller K V S) : Type 0 where
    pub pairs : List (K × V)
    pub told : HasTold same hash pairs c.seat.view n.seat.view
    pub shown : MapWasShown same hash c n
    pub each : AllZip (λ (pair : K × V) (item : T). clone (part pair) item) pairs items

  -- of the keys,
  abbrev pub HasListed : (K → K → Type 0) → List K → MapCaller K V S → MapCaller K V S → Type 0
  HasListed clone keys c n = HasListedAll (λ pair. pair.0) clone keys c n

  -- or of the values.
  abbrev pub HasListedValues : (V → V → Type 0) → List V → MapCaller K V S → MapCaller K V S → Type 0
  HasListedValues clone values c n = HasListedAll (λ pair. pair.1) clone values c n

  -- Nothing was: the walk was refused so, or it has ended, and there was no memory for what it has told.
  abbrev pub WasNotListed : Fault → MapCaller K V S → MapCaller K V S → Type 0
  WasNotListed fault c n = WasRefused same hash walks fault c n ⊎ ((fault ≡ Memory) × MapWasShown same hash c n)

  -- Of these keys it has looked the first one up, under that session, and was lent its pair; or the map had none, and so it went on with the others; or there was no key left.
  abbrev pub GoesOn : {Q : Type 0} → (Q → K) → MapCaller K V S → Option (K × V) → List Q → View K V S → List Q → View K V S → Type 0
  GoesOn stands c found [] v rest w = (found ≡ None) × (rest ≡ []) × (w ≡ v)
  GoesOn stands c found (key ∷ keys) v rest w =
      (IsSome found × HasGotPairUnder same hash (stands key) c found v w × (rest ≡ keys))
      ⊎ ((u : View K V S) × HasGotPairUnder same hash (stands key) c None v u × GoesOn stands c found keys u rest w)

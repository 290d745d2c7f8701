-- A closure over a map's pairs that calls one of elements with the key of each: what it was called with, the other one was.
use Rattle.std.specs.Prelude.{ℕ, zero, suc, Bool, Some, None}
use Rattle.std.specs.Fn.{Called, Mut}
use Rattle.std.proofs.Common.{ap}
use denote.Ref.{Bor}
use Rattle.map_tables.specs.declared.node.Node.{Node}
use Rattle.papaya.specs.Swept.{of_keys}
use Rattle.papaya_map.specs.Given.ActsActs.{Wanted}
use Rattle.papaya_map.specs.Given.ViewsDeclared.view.View.{View}
use Rattle.papaya_raw.specs.declared.machines.progress.Progress.{Progress}
use Rattle.papaya_raw.specs.declared.machines.progress.Progress.TheVariants as progress
use Rattle.papaya_map.specs.Given.Closures.{HasGoneWith, HasHeeded, HasShownEach, HeedsSo, ShowsSo, TakesSteps, WasCalledWith}
use Rattle.papaya_map.specs.Given.Swept.{retains, walks}

module _ {F C K V S : Type 0} (inner : C → F) where
  module _ (same : K → K → Bool) (hash : S → K → ℕ) (outer : Progress (Node K V) → C → View K V S → C → View K V S → Type 0) (follows : Progress (Node K V) → F → View K V S → F → View K V S → Type 0)
      (carries : (told : Progress (Node K V)) (s : C) (v : View K V S) (next : C) (w : View K V S) → outer told s v next w → follows told (inner s) v (inner next) w) where
    -- where on each step the same follows with the one as with the other, it does on so many
    steps_inner : (n : ℕ) (s : C) (v : View K V S) (last : C) (w : View K V S) → TakesSteps same hash outer n s v last w → TakesSteps same hash follows n (inner s) v (inner last) w
    steps_inner zero s v last w (is, stays) = (ap inner is, stays)
    steps_inner (suc n) s v last w (e, u, before, (x, told, stepped, progressed, so)) =
        (inner e, u, steps_inner n s v e u before, (x, told, stepped, progressed, carries told e x last w so))

    gone_inner : (wanted : Wanted K V) (s : C) (v w : View K V S) → HasGoneWith same hash outer wanted s v w → HasGoneWith same hash follows wanted (inner s) v w
    gone_inner wanted s v w (u, n, last, begun, steps) = (u, n, inner last, begun, steps_inner n s u last w steps)

  module _ {A : Type 0} (asks : Mut C (Bor K × (Bor V × Unit {0})) A) (g : Mut F (Bor K × Unit {0}) A)
      (through : (s next : C) (p : Bor K) (q : Bor V) (answer : A) → Called asks s (p, (q, tt)) answer next → Called g (inner s) (p, tt) answer (inner next)) where
    called_inner : (word : ℕ) (v : View K V S) (s : C) (answer : A) (next : C) → WasCalledWith asks word v s answer next → WasCalledWith (of_keys g) word v (inner s) answer (inner next)
    called_inner word v s answer next was =
        record { key = was.key; value = was.value; shown = was.shown; called = record { met = (through s next was.key was.value answer was.called).met } }

  module _ (asks : Mut C (Bor K × (Bor V × Unit {0})) (Unit {0})) (g : Mut F (Bor K × Unit {0}) (Unit {0}))
      (through : (s next : C) (p : Bor K) (q : Bor V) (answer : Unit {0}) → Called asks s (p, (q, tt)) answer next → Called g (inner s) (p, tt) answer (inner next)) where
    shows_inner : (told : Progress (Node K V)) (s : C) (v : View K V S) (next : C) (w : View K V S) → ShowsSo asks told s v next w → ShowsSo (of_keys g) told (inner s) v (inner next) w
    shows_inner (progress.Pair word) s v next w (called, asked) = (called_inner asks g through word v s tt next called, asked)
    shows_inner progress.Ready s v next w (is, asked) = (ap inner is, asked)
    shows_inner progress.Goes s v next w (is, stays) = (ap inner is, stays)
    shows_inner progress.Waits s v next w (is, stays) = (ap inner is, stays)
    shows_inner (progress.Gave value) s v next w (is, stays) = (ap inner is, stays)
    shows_inner (progress.Unstored value) s v next w (is, stays) = (ap inner is, stays)
    shows_inner (progress.Asks pair) s v next w (is, stays) = (ap inner is, stays)
    shows_inner (progress.Done answer) s v next w (is, stays) = (ap inner is, stays)
    shows_inner (progress.Refused fault) s v next w (is, stays) = (ap inner is, stays)

    -- each pair that was shown to the one, its key was to the other
    pub elements_shown : (same : K → K → Bool) (hash : S → K → ℕ) (s : C) (v w : View K V S) → HasShownEach same hash asks s v w → HasShownEach same hash (of_keys g) (inner s) v w
    elements_shown same hash s v w gone = gone_inner same hash (ShowsSo asks) (ShowsSo (of_keys g)) shows_inner walks s v w gone

  module _ (asks : Mut C (Bor K × (Bor V × Unit {0})) Bool) (g : Mut F (Bor K × Unit {0}) Bool)
      (through : (s next : C) (p : Bor K) (q : Bor V) (answer : Bool) → Called asks s (p, (q, tt)) answer next → Called g (inner s) (p, tt) answer (inner next)) where
    heeds_inner : (told : Progress (Node K V)) (s : C) (v : View K V S) (next : C) (w : View K V S) → HeedsSo asks told s v next w → HeedsSo (of_keys g) told (inner s) v (inner next) w
    heeds_inner (progress.Asks (Some word)) s v next w (keeps, called, heard) = (keeps, called_inner asks g through word v s keeps next called, heard)
    heeds_inner (progress.Asks None) s v next w (is, stays) = (ap inner is, stays)
    heeds_inner progress.Ready s v next w (is, stays) = (ap inner is, stays)
    heeds_inner progress.Goes s v next w (is, stays) = (ap inner is, stays)
    heeds_inner progress.Waits s v next w (is, stays) = (ap inner is, stays)
    heeds_inner (progress.Gave value) s v next w (is, stays) = (ap inner is, stays)
    heeds_inner (progress.Unstored value) s v next w (is, stays) = (ap inner is, stays)
    heeds_inner (progress.Pair word) s v next w (is, stays) = (ap inner is, stays)
    heeds_inner (progress.Done answer) s v next w (is, stays) = (ap inner is, stays)
    heeds_inner (progress.Refused fault) s v next w (is, stays) = (ap inner is, stays)

    -- and about each about which the one was asked the other was, and the same was answered
    pub elements_heeded : (same : K → K → Bool) (hash : S → K → ℕ) (s : C) (v w : View K V S) → HasHeeded same hash asks s v w → HasHeeded same hash (of_keys g) (inner s) v w
    elements_heeded same hash s v w gone = gone_inner same hash (HeedsSo asks) (HeedsSo (of_keys g)) heeds_inner retains s v w gone

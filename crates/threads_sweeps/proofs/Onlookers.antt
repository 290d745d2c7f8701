-- What follows with the onlooker on what a step of a walk tells; which pairs it was shown in all; and a closure as an onlooker.
use Rattle.std.specs.Prelude.{List, [], ◌∷◌, ◌++◌, zero, suc, Some, Result}
use Rattle.std.specs.Fn.{Called, Mut}
use Rattle.std.specs.List.{FoldsTo}
use Rattle.std.proofs.Common.{◌≡◌, ℕ, Bool, refl, sym, subst, ap}
use Rattle.std.proofs.lemmas.Fn.{FoldsTo-push}
use denote.Ref.{Bor}
use Rattle.seize_words.specs.OneMemory.Word.{block_in}
use Rattle.seize_words.specs.declared.fault.Fault.{Fault}
use Rattle.map_tables.specs.declared.node.Node.{Node}
use Rattle.map_tables.specs.declared.node.Node.TheVariants.{Pair}
use Rattle.papaya_raw.specs.declared.machines.progress.Progress.{Progress}
use Rattle.papaya_raw.specs.declared.machines.progress.Progress.TheVariants as progress
use Rattle.threads_calls.specs.Given.ViewsLooks.{shown_in}
use Rattle.threads_calls.specs.Given.ViewsDeclared.view.View.{View}
use Rattle.threads_calls.specs.Given.ErrandsCalling.{IsGoing, IsNoQuestion, outcome_of}
use Rattle.threads_calls.specs.Given.ErrandsSweeping.{swept_by}
use Rattle.threads_sweeps.specs.Closures.{CalledOn, HasShownEach, ShowsSo, TakesSteps, WasCalledWith}
use Rattle.threads_sweeps.specs.Onlookers.{HasBeenShown, HasShownTo, SeesSo, WasShown}
use Rattle.threads_sweeps.proofs.Closures.{called_with, where_it_ends, where_it_goes}

-- the onlooker was shown what the seat shows
pub was_shown : {T K V S : Type 0} (sees : T → K → V → T → Type 0) (word : ℕ) (v : View K V S) (t : T) (key : K) (value : V) (next : T) → sees t key value next
    → shown_in v.held (block_in word) ≡ Some (Pair key value) → WasShown sees word v t next
was_shown sees word v t key value next seen shown = record { key = key; value = value; shown = shown; seen = seen }

module _ {T K V S : Type 0} (sees : T → K → V → T → Type 0) (t : T) (v : View K V S) (told : Progress (Node K V)) where
  -- nothing follows for the onlooker of a walk where that goes on, or has ended
  pub sees_none : IsGoing told × IsNoQuestion told → SeesSo sees told t v t v
  sees_none goes = where_it_goes (λ (x : Progress (Node K V)). SeesSo sees x t v t v) (refl, refl) (refl, refl) (λ value. (refl, refl)) (λ value. (refl, refl)) told goes

  pub sees_no_more : (end : Result Unit Fault) → told ≡ outcome_of (swept_by end) → SeesSo sees told t v t v
  sees_no_more end e = where_it_ends (λ (x : Progress (Node K V)). SeesSo sees x t v t v) (refl, refl) (λ fault. (refl, refl)) told end e

-- the onlooker that lists the pairs that it is shown
abbrev lists : {K V : Type 0} → List (K × V) → K → V → List (K × V) → Type 0
lists xs key value ys = ys ≡ xs ++ ((key, value) ∷ [])

-- what it has seen of a pair
abbrev along : {T K V : Type 0} → (T → K → V → T → Type 0) → T → K × V → T → Type 0
along sees t pair next = sees t pair.0 pair.1 next

module _ {T K V S : Type 0} (sees : T → K → V → T → Type 0) where
  module _ (t e : T) (pairs : List (K × V)) (v : View K V S) (next : T) (w : View K V S) where
    -- what a step has told is a pair more, or none
    abbrev So : Progress (Node K V) → Type 0
    So told = (ys : List (K × V)) × SeesSo lists told pairs v ys w × (FoldsTo (along sees) t pairs e → FoldsTo (along sees) t ys next)

    stays_listed : (told : Progress (Node K V)) → (next ≡ e) → ((ys : List (K × V)) → ys ≡ pairs → SeesSo lists told pairs v ys w) → So told
    stays_listed told is listed = (pairs, listed pairs refl, λ folds. subst (λ (x : T). FoldsTo (along sees) t pairs x) (sym is) folds)

    step_lists : (told : Progress (Node K V)) → SeesSo sees told e v next w → So told
    step_lists (progress.Pair word) (was, asked) = (
      pairs ++ ((was.key, was.value) ∷ []),
      (record { key = was.key; value = was.value; shown = was.shown; seen = refl }, asked),
      λ folds. FoldsTo-push (along sees) t pairs e (was.key, was.value) next folds was.seen,
    )
    step_lists progress.Ready (is, asked) = stays_listed progress.Ready is (λ ys s. (s, asked))
    step_lists progress.Goes (is, stays) = stays_listed progress.Goes is (λ ys s. (s, stays))
    step_lists progress.Waits (is, stays) = stays_listed progress.Waits is (λ ys s. (s, stays))
    step_lists (progress.Gave value) (is, stays) = stays_listed (progress.Gave value) is (λ ys s. (s, stays))
    step_lists (progress.Unstored value) (is, stays) = stays_listed (progress.Unstored value) is (λ ys s. (s, stays))
    step_lists (progress.Asks pair) (is, stays) = stays_listed (progress.Asks pair) is (λ ys s. (s, stays))
    step_lists (progress.Done answer) (is, stays) = stays_listed (progress.Done answer) is (λ ys s. (s, stays))
    step_lists (progress.Refused fault) (is, stays) = stays_listed (progress.Refused fault) is (λ ys s. (s, stays))

  module _ (same : K → K → Bool) (hash : S → K → ℕ) where
    steps_list : (n : ℕ) (t : T) (v : View K V S) (last : T) (w : View K V S) → TakesSteps same hash (SeesSo sees) n t v last w
        → (pairs : List (K × V)) × TakesSteps same hash (SeesSo lists) n [] v pairs w × FoldsTo (along sees) t pairs last
    steps_list zero t v last w (is, stays) = ([], (refl, stays), sym is)
    steps_list (suc n) t v last w (e, u, before, (x, told, stepped, progressed, so)) =
        let have = steps_list n t v e u before in let more = step_lists t e have.0 x last w told so in
        (more.0, (have.0, u, have.1, (x, told, stepped, progressed, more.1)), more.2 have.2)

    -- The walk has told just some pairs, and the onlooker has come to what it is by these, one after another.
    pub has_told : (t last : T) (v w : View K V S) → HasShownTo same hash sees t last v w → HasBeenShown same hash sees t last v w
    has_told t last v w (u, n, begun, steps) = let have = steps_list n t u last w steps in (have.0, (u, n, begun, have.1), have.2)

-- a closure was called so
pub called_on : {F K V : Type 0} (g : Mut F (Bor K × (Bor V × Unit {0})) (Unit {0})) (f : F) (p : Bor K) (q : Bor V) (next : F) → Called g f (p, (q, tt)) tt next → CalledOn g f p.now q.now next
called_on g f p q next called = (p, q, refl, refl, called)

-- what an onlooker has seen that calls a closure which it has
abbrev pub calls : {C F K V : Type 0} → (C → F) → Mut F (Bor K × (Bor V × Unit {0})) (Unit {0}) → C → K → V → C → Type 0
calls inner g c key value n = CalledOn g (inner c) key value (inner n)

module _ {C F K V S : Type 0} (inner : C → F) (g : Mut F (Bor K × (Bor V × Unit {0})) (Unit {0})) where
  was_called : (word : ℕ) (v : View K V S) (c next : C) → WasShown (calls inner g) word v c next → WasCalledWith g word v (inner c) tt (inner next)
  was_called word v c next was =
      let p = was.seen.0 in let q = was.seen.1 in
      called_with g word v (inner c) p q tt (inner next) was.seen.4
      (subst (λ (k : K). shown_in v.held (block_in word) ≡ Some (Pair k q.now)) (sym was.seen.2)
      (subst (λ (x : V). shown_in v.held (block_in word) ≡ Some (Pair was.key x)) (sym was.seen.3) was.shown))

  -- a closure that is called with what an onlooker is shown
  called_so : (told : Progress (Node K V)) (c : C) (v : View K V S) (next : C) (w : View K V S) → SeesSo (calls inner g) told c v next w → ShowsSo g told (inner c) v (inner next) w
  called_so (progress.Pair word) c v next w (was, asked) = (was_called word v c next was, asked)
  called_so progress.Ready c v next w (is, asked) = (ap inner is, asked)
  called_so progress.Goes c v next w (is, stays) = (ap inner is, stays)
  called_so progress.Waits c v next w (is, stays) = (ap inner is, stays)
  called_so (progress.Gave value) c v next w (is, stays) = (ap inner is, stays)
  called_so (progress.Unstored value) c v next w (is, stays) = (ap inner is, stays)
  called_so (progress.Asks pair) c v next w (is, stays) = (ap inner is, stays)
  called_so (progress.Done answer) c v next w (is, stays) = (ap inner is, stays)
  called_so (progress.Refused fault) c v next w (is, stays) = (ap inner is, stays)

  module _ (same : K → K → Bool) (hash : S → K → ℕ) where
    steps_call : (n : ℕ) (c : C) (v : View K V S) (last : C) (w : View K V S) → TakesSteps same hash (SeesSo (calls inner g)) n c v last w → TakesSteps same hash (ShowsSo g) n (inner c) v (inner last) w
    steps_call zero c v last w (is, stays) = (ap inner is, stays)
    steps_call (suc n) c v last w (e, u, before, (x, told, stepped, progressed, so)) =
        (inner e, u, steps_call n c v e u before, (x, told, stepped, progressed, called_so told e x last w so))

    pub shown_each : (c last : C) (v w : View K V S) → HasShownTo same hash (calls inner g) c last v w → HasShownEach same hash g (inner c) v w
    shown_each c last v w (u, n, begun, steps) = (u, n, inner last, begun, steps_call n c u last w steps)

-- What calls on a key that go by closures have done, as their callers see it.
use Rattle.std.specs.Prelude.{◌≡◌, ℕ, Bool, List, ◌++◌, ◌∷◌, [], Result, Ok, Err, Option, Some, None, IfOk, IfErr, OnErr}
use Rattle.std.specs.List.Sorted.{IsPermutation}
use Rattle.std.proofs.lemmas.List.Sorted.{IsPermutation-append_left}
use Rattle.std.proofs.Common.{sym, ◌∙◌, subst, inl, inr}
use Rattle.seize_words.specs.OneMemory.Mem.{Mem}
use Rattle.seize_words.specs.declared.fault.Fault.{Fault}
use Rattle.map_tables.specs.declared.node.Node.{Node}
use Rattle.map_tables.specs.declared.setting.Setting.{Setting}
use Rattle.papaya_raw.specs.declared.machines.asking.MachineReply.{MachineReply}
use Rattle.papaya_raw.specs.declared.machines.asking.MachineReply.TheVariants as reply
use Rattle.owner_calls.specs.Given.LateFaults.{IsRoom}
use Rattle.owner_asks.specs.Asks.Closures.{Computing}
use Rattle.seize_words.specs.declared.operation.Operation.{Operation}
use Rattle.seize_words.specs.declared.operation.Operation.TheVariants as operation
use Rattle.owner_rests.specs.Given.{found_by, left_by}
use Rattle.map_straight.specs.Shown.Chain.{CountsTables, root_link}
use Rattle.owner_rests.specs.Rests.Asking.{HasDone, HasComputed, IsRefusedFor, ChangeHasOutcome, ComputesToIt}
use Rattle.owner_rests.specs.Rests.Lasts.{QuiescentWith}
use Rattle.owner_rests.specs.declared.last.Last.{Last}
use Rattle.owner_rests.proofs.Rests.Lasts.{met_shown, taken_shown}
use Rattle.owner_rests.specs.ShowsPairs.Maps.{pairs_shown}
use Rattle.owner_rests.specs.declared.change.Change.{Change}
use Rattle.owner_rests.specs.declared.change.Change.TheVariants as change
use Rattle.owner_rests.specs.declared.change.ComputedChange.{ComputedChange}
use Rattle.owner_rests.specs.declared.change.ComputedChange.TheVariants as compute
use Rattle.owner_asks.proofs.Pairs.Orders.{left_same, left_and}
use Rattle.owner_rests.proofs.ShowsPairs.Kept.{Rested, Shown, rested}
use Rattle.owner_rests.proofs.ShowsPairs.Shows.{shown_as}

-- the map rests with some pairs, whatever was done, and what its words name can be looked at
module _ {K V : Type 0} (same : K → K → Bool) (hash : K → ℕ) (setting : Setting) (m : Mem (Node K V)) (last : Last) (keys : K → Bool) (its : Option K) (xs : List (K × V)) where
  abbrev With : List (K × V) → Option (K × V) → Option (K × V) → Type 0
  With = QuiescentWith same hash setting m last

  module _ (Told : Option (K × V) → MachineReply V → Type 0) where
    done_rests : (done : Change) → HasDone keys its Told xs With done → Rested same hash setting m last
    done_rests change.Missing d = rested same hash setting m last xs None None d.2
    done_rests change.Kept d = rested same hash setting m last xs None (Some d.0) d.3
    done_rests change.Stored d = rested same hash setting m last (xs ++ ((d.0, d.1) ∷ [])) None (Some (d.0, d.1)) d.5
    done_rests change.Replaced d = rested same hash setting m last (left_by keys xs ++ ((d.1, d.2) ∷ [])) (Some d.0) (Some (d.1, d.2)) d.6
    done_rests change.Removed d = rested same hash setting m last (left_by keys xs) (Some d.0) None d.3

    pub comes_rests : {E : Type 0} (fault_of : E → Fault) (r : Result Change E) → ChangeHasOutcome keys its Told xs With fault_of r → Rested same hash setting m last
    comes_rests fault_of (Ok done) d = done_rests done d
    comes_rests fault_of (Err e) d = rested same hash setting m last xs None None d.1

  pub computes_rests : {T E : Type 0} (Gives : Option (K × V) → Operation V T → Type 0) (fault_of : E → Fault) (r : Result (ComputedChange T) E)
      → ComputesToIt keys its Gives xs With fault_of r → Rested same hash setting m last
  computes_rests Gives fault_of (Ok (compute.Changed done)) d = done_rests (Computing Gives) done d
  computes_rests Gives fault_of (Ok (compute.Aborted end)) d = rested same hash setting m last xs None (found_by keys xs) d.1
  computes_rests Gives fault_of (Err e) d = rested same hash setting m last xs None None d.1

  -- and shows them, in whatever order, and these two pairs
  module _ (tables : CountsTables m (root_link m setting)) (zs : List (K × V)) (is : found_by keys zs ≡ found_by keys xs) (order : IsPermutation xs zs) where
    abbrev shows : List (K × V) → Option (K × V) → Option (K × V) → Type 0
    shows ys taken met = IsPermutation (pairs_shown m setting tables) ys × Shown same hash setting m last taken met

    shows_with : (ys ws : List (K × V)) (taken met : Option (K × V)) → With ys taken met → IsPermutation ys ws → shows ws taken met
    shows_with ys ws taken met r order = (
      shown_as same hash setting m ys r.holds tables ws order,
      (taken_shown same hash setting m last ys taken met r, met_shown same hash setting m last ys taken met r),
    )

    module _ (Told : Option (K × V) → MachineReply V → Type 0) where
      shows_change : (done : Change) → HasDone keys its Told xs With done → HasDone keys its Told zs shows done
      shows_change change.Missing d = (is ∙ d.0, d.1, shows_with xs zs None None d.2 order)
      shows_change change.Kept d = (d.0, is ∙ d.1, d.2, shows_with xs zs None (Some d.0) d.3 order)
      shows_change change.Stored d = (
        d.0,
        d.1,
        is ∙ d.2,
        d.3,
        d.4,
        shows_with (xs ++ ((d.0, d.1) ∷ [])) (zs ++ ((d.0, d.1) ∷ [])) None (Some (d.0, d.1)) d.5 (IsPermutation-append_left ((d.0, d.1) ∷ []) xs zs order),
      )
      shows_change change.Replaced d = (
        d.0,
        d.1,
        d.2,
        is ∙ d.3,
        d.4,
        d.5,
        shows_with (left_by keys xs ++ ((d.1, d.2) ∷ [])) (left_by keys zs ++ ((d.1, d.2) ∷ [])) (Some d.0) (Some (d.1, d.2)) d.6 (left_and keys xs zs ((d.1, d.2) ∷ []) order),
      )
      shows_change change.Removed d = (d.0, is ∙ d.1, d.2, shows_with (left_by keys xs) (left_by keys zs) (Some d.0) None d.3 (left_same keys xs zs order))

      pub shows_changed : {E : Type 0} (fault_of : E → Fault) (r : Result Change E) → ChangeHasOutcome keys its Told xs With fault_of r → IfOk r (λ done. HasDone keys its Told zs shows done)
      shows_changed fault_of (Ok done) d = shows_change done d
      shows_changed fault_of (Err e) d = tt

      pub shows_unchanged : {E : Type 0} (fault_of : E → Fault) (r : Result Change E) → ChangeHasOutcome keys its Told xs With fault_of r → OnErr r (shows zs None None)
      shows_unchanged fault_of (Ok done) d = tt
      shows_unchanged fault_of (Err e) d = shows_with xs zs None None d.1 order

    module _ {T : Type 0} (Gives : Option (K × V) → Operation V T → Type 0) {E : Type 0} (fault_of : E → Fault) where
      pub shows_computed : (r : Result (ComputedChange T) E) → ComputesToIt keys its Gives xs With fault_of r → IfOk r (λ done. HasComputed keys its Gives zs shows done)
      shows_computed (Ok (compute.Changed done)) d = shows_change (Computing Gives) done d
      shows_computed (Ok (compute.Aborted end)) d = (subst (λ about. Gives about (operation.Abort end)) (sym is) d.0, subst (shows zs None) (sym is) (shows_with xs zs None (found_by keys xs) d.1 order))
      shows_computed (Err e) d = tt

      pub shows_uncomputed : (r : Result (ComputedChange T) E) → ComputesToIt keys its Gives xs With fault_of r → OnErr r (shows zs None None)
      shows_uncomputed (Ok (compute.Changed done)) d = tt
      shows_uncomputed (Ok (compute.Aborted end)) d = tt
      shows_uncomputed (Err e) d = shows_with xs zs None None d.1 order

-- why a computing was refused is told of the pairs in whatever order
module _ {K V T : Type 0} (same : K → K → Bool) (hash : K → ℕ) (setting : Setting) (m : Mem (Node K V)) (last : Last) (keys : K → Bool) (its : Option K) (xs zs : List (K × V)) (is : found_by keys zs ≡ found_by keys xs)
    (Gives : Option (K × V) → Operation V T → Type 0) where
  why_so : (fault : Fault) → IsRefusedFor keys (Computing Gives) xs fault → IsRefusedFor keys (Computing Gives) zs fault
  why_so fault (inl room) = inl room
  why_so fault (inr so) = inr (so.0, is ∙ so.1, so.2)

  pub shows_why : {E : Type 0} (fault_of : E → Fault) (r : Result (ComputedChange T) E) → ComputesToIt keys its Gives xs (QuiescentWith same hash setting m last) fault_of r → IfErr r (λ e. IsRefusedFor keys (Computing Gives) zs (fault_of e))
  shows_why fault_of (Ok (compute.Changed done)) d = tt
  shows_why fault_of (Ok (compute.Aborted end)) d = tt
  shows_why fault_of (Err e) d = why_so (fault_of e) d.0

-- a call that is never told to remove what is not there is refused for room
module _ {K V : Type 0} (same : K → K → Bool) (hash : K → ℕ) (setting : Setting) (m : Mem (Node K V)) (last : Last) (keys : K → Bool) (its : Option K) (xs : List (K × V)) (Told : Option (K × V) → MachineReply V → Type 0) where
  why_room : (fault : Fault) → IsRefusedFor keys Told xs fault → (Told None reply.Remove → ⊥) → IsRoom fault
  why_room fault (inl room) never = room
  why_room fault (inr so) never = absurd (never so.2)

  pub room_alone : {E : Type 0} (fault_of : E → Fault) (r : Result Change E) → ChangeHasOutcome keys its Told xs (QuiescentWith same hash setting m last) fault_of r → (Told None reply.Remove → ⊥) → IfErr r (λ e. IsRoom (fault_of e))
  room_alone fault_of (Ok done) d never = tt
  room_alone fault_of (Err e) d never = why_room (fault_of e) d.0 never

-- A seat leans on one that is within its section, looks a key up there, and comes back: that it may, and what that has come to.
use Rattle.std.specs.Prelude.{List, Option, Some, None, IfSome, IfNone, ◌∷◌}
use Rattle.std.proofs.Common.{◌≡◌, ◌⊎◌, ℕ, Bool, inl, inr, true, sym, subst, ap, ◌∙◌}
use Rattle.threads_errands.specs.Given.ViewsBegun.{leaning, machine_for, shown_map}
use Rattle.threads_errands.specs.Given.ActsActs.{Wanted, Get}
use Rattle.papaya_raw.specs.declared.machines.progress.Progress.{Progress}
use Rattle.map_machines.specs.declared.lookup.Lookup.{Lookup}
use Rattle.seize_seats.specs.Seats.State.{Learns}
use Rattle.seize_views.specs.declared.view.Fixed.{Fixed}
use Rattle.seize_views.specs.declared.view.SlotView.{SlotView}
use Rattle.seize_views.specs.declared.view.SlotView.TheVariants.{Rests}
use Rattle.seize_words.specs.OneMemory.Word.{block_in}
use Rattle.map_tables.specs.declared.node.Node.{Node}
use Rattle.map_tables.specs.declared.node.Node.TheVariants.{Pair}
use Rattle.threads_errands.specs.Given.ViewsLooks.{shown_in}
use Rattle.threads_errands.specs.Given.ViewsNotes.{SeatIsQuiescent}
use Rattle.threads_errands.specs.Given.ViewsPromises.{LeaningsBegin}
use Rattle.threads_errands.specs.Given.ViewsRule.{Holds, IsBy, KeepsFor, Leans, LeansOn, section_of}
use Rattle.threads_errands.specs.Given.ViewsDeclared.view.Map.{Map}
use Rattle.threads_errands.specs.Given.ViewsDeclared.view.BegunCall.{BegunCall}
use Rattle.threads_errands.specs.Given.ViewsDeclared.view.View.{View}
use Rattle.threads_errands.specs.Given.ErrandsLooking.{HasFound, HasRun, MayLook, HasLookedAt, StaysThere, found_of}
use Rattle.threads_callers.specs.Passing.{BeginsUnder, LeansNoMore, HasFoundUnder, HasRunUnder, IsBack, IsLentBy}
use Rattle.threads_callers.proofs.Rows.{own_inside, rests_so}

module _ {K V S : Type 0} (same : K → K → Bool) (hash : S → K → ℕ) (fixed : Fixed) where
  -- a seat that has nothing under way may lean on one that may look a key up within its own section
  pub may_lean : LeaningsBegin V same hash → (i j : ℕ) (v u : View K V S) (key : K) (lookup : Lookup) → IsBack v → u.under ≡ None → MayLook hash key lookup u
      → Learns (Holds same hash fixed) KeepsFor i v j u (BeginsUnder v j u)
  may_lean law i j v u key lookup back lone may s h at_i at_j ne =
      let inside = own_inside u may.slot lone may.inside in
      let g = law fixed i j may.slot v u back.rests back.lone back.free inside s h at_i at_j ne in
      (g.0, g.1, g.2, g.3, (may.slot, inside, g.4))

-- who has come to lean on another one, or on none, leans on that one, or on whom it leant
pub leans_so : {K V S : Type 0} (v w : View K V S) (under : Option (ℕ × ℕ)) (n : ℕ) {X : Type 0} → w ≡ leaning v under → (LeansOn under n → X) → Leans w n → Leans v n ⊎ X
leans_so {K} {V} {S} v w under n is lent (inl leans) = inr (lent (subst (λ (x : View K V S). LeansOn x.under n) is leans))
leans_so {K} {V} {S} v w under n is lent (inr leans) = inl (inr (subst (λ (x : View K V S). IsBy x.by n) is leans))

-- the key of a pair
abbrev key_in : {K V : Type 0} → K → Option (Node K V) → K
key_in other (Some (Pair key value)) = key
key_in other _ = other

-- what is shown of a word that shows a pair of this key has a key that equals it
equal_to : {K V S : Type 0} (same : K → K → Bool) (v : View K V S) (key : K) (word : ℕ) (pair : K × V) → HasLookedAt same key v word
    → shown_in v.held (block_in word) ≡ Some (Pair pair.0 pair.1) → same key pair.0 ≡ true
equal_to {K} {V} {S} same v key word pair shows is =
    subst (λ (k : K). same key k ≡ true) (ap (λ (o : Option (Node K V)). key_in key o) (sym shows.3 ∙ is)) shows.2

module _ {K V S : Type 0} (hash : S → K → ℕ) (key : K) (lookup : Lookup) (u v m : View K V S) (n : ℕ) (lone : u.under ≡ None) (may : MayLook hash key lookup u)
    (begins : BeginsUnder v n u m) where
  -- it leans on that one in the slot in which that one may look the key up
  leant_in : section_of m.under m.slot ≡ Some may.slot
  leant_in =
      ap (λ (x : View K V S). section_of x.under x.slot) begins.2
      ∙ sym (ap (λ (x : SlotView (Node K V)). section_of None x) begins.1) ∙ sym (ap (λ (o : Option (ℕ × ℕ)). section_of o u.slot) lone) ∙ may.inside

  -- and may look it up, too
  pub may_look_under : IsBack v → u.map ≡ v.map → MayLook hash key lookup m
  may_look_under back maps = record {
    slot = may.slot;
    map = may.map;
    inside = leant_in;
    knows = ap (λ (x : View K V S). x.map) begins.2 ∙ sym maps ∙ may.knows;
    free = ap (λ (x : View K V S). x.work) begins.2 ∙ back.free;
    begins = may.begins;
  }

  module _ (same : K → K → Bool) (maps : u.map ≡ v.map) (f w : View K V S) (comes : LeansNoMore f w) where
    -- the call that it has run meanwhile was one under that one
    ran_under : (wanted : Wanted K V) (told : Progress (Node K V)) → StaysThere m f → HasRun same hash wanted told m f → HasRunUnder same hash wanted told u v w
    ran_under wanted told stays ran = record {
      map = ran.0;
      slot = ran.1;
      knows = maps ∙ sym (ap (λ (x : View K V S). x.map) begins.2) ∙ ran.2;
      inside = may.inside ∙ sym leant_in ∙ ran.3;
      calls =
          ap (λ (x : View K V S). x.calls) comes ∙ ran.4
          ∙ ap (λ (x : View K V S). record { map = ran.0.number; began = machine_for same hash ran.0 ran.1 wanted; told = told } ∷ x.calls) begins.2;
      knew = f;
      knew_map = stays.map ∙ ran.2;
      knew_section = ap (λ (p : (SlotView (Node K V) × Option (ℕ × ℕ)) × Option ℕ). section_of p.0.1 p.0.0) stays.slot ∙ ran.3;
      knew_calls = sym (ap (λ (x : View K V S). x.calls) comes);
    }

    -- and what it was lent then is the pair found
    pub found_under : (fixed : Fixed) (i : ℕ) (found : Option ℕ) → HasFound same hash key found m f → {A : Type 0} (now : A → K × V) (answer : Option A)
        → IfSome answer (λ x. (word : ℕ) × (found ≡ Some word) × IsLentBy same hash fixed i f n u word (now x)) → IfNone answer (found ≡ None)
        → IfSome answer (λ x. HasFoundUnder same hash fixed key n u v w (now x)) × IfNone answer (HasRunUnder same hash (Get key) (found_of None) u v w)
    unfolding ran_under
    found_under fixed i found has now None lent none =
        (tt, ran_under (Get key) (found_of None) has.stays (subst (λ (o : Option ℕ). HasRun same hash (Get key) (found_of o) m f) none has.ran))
    found_under fixed i found has now (Some x) lent none = (
      record {
        word = lent.0;
        ran = ran_under (Get key) (found_of (Some lent.0)) has.stays (subst (λ (o : Option ℕ). HasRun same hash (Get key) (found_of o) m f) lent.1 has.ran);
        id = i;
        equal = equal_to same f key lent.0 (now x) (subst (λ (o : Option ℕ). IfSome o (HasLookedAt same key f)) lent.1 has.looked.shows) lent.2.0;
        lent = lent.2;
      },
      tt,
    )

  -- it comes back with nothing under way
  pub comes_back : (same : K → K → Bool) (found : Option ℕ) (f w : View K V S) → IsBack v → HasFound same hash key found m f → LeansNoMore f w → IsBack w
  comes_back same found f w back has comes = record {
    rests = ap (λ (x : View K V S). x.slot) comes ∙ ap (λ (p : (SlotView (Node K V) × Option (ℕ × ℕ)) × Option ℕ). p.0.0) has.stays.slot ∙ ap (λ (x : View K V S). x.slot) begins.2 ∙ back.rests;
    free = ap (λ (x : View K V S). x.work) comes ∙ has.looked.free;
    lone = ap (λ (x : View K V S). x.under) comes;
    good = ap (λ (x : View K V S). x.by) comes ∙ ap (λ (p : (SlotView (Node K V) × Option (ℕ × ℕ)) × Option ℕ). p.1) has.stays.slot ∙ ap (λ (x : View K V S). x.by) begins.2 ∙ back.good;
  }

  -- before that it stands where it did
  pub stands_under : (same : K → K → Bool) (found : Option ℕ) (f : View K V S) → HasFound same hash key found m f → (f.under ≡ Some (n, begins.0)) × (f.slot ≡ v.slot)
  stands_under same found f has = (
    ap (λ (p : (SlotView (Node K V) × Option (ℕ × ℕ)) × Option ℕ). p.0.1) has.stays.slot ∙ ap (λ (x : View K V S). x.under) begins.2,
    ap (λ (p : (SlotView (Node K V) × Option (ℕ × ℕ)) × Option ℕ). p.0.0) has.stays.slot ∙ ap (λ (x : View K V S). x.slot) begins.2,
  )

module _ {K V S : Type 0} (same : K → K → Bool) (hash : S → K → ℕ) (fixed : Fixed) (key : K) (n : ℕ) (u v p w : View K V S) (calls : v.calls ≡ p.calls) where
  -- and so it is since before it has learnt the map
  pub run_since : (wanted : Wanted K V) (told : Progress (Node K V)) → HasRunUnder same hash wanted told u v w → HasRunUnder same hash wanted told u p w
  run_since wanted told ran = record {
    map = ran.map;
    slot = ran.slot;
    knows = ran.knows;
    inside = ran.inside;
    calls = ran.calls ∙ ap (λ (l : List (BegunCall K V)). record { map = ran.map.number; began = machine_for same hash ran.map ran.slot wanted; told = told } ∷ l) calls;
    knew = ran.knew;
    knew_map = ran.knew_map;
    knew_section = ran.knew_section;
    knew_calls = ran.knew_calls;
  }

  pub found_since : {A : Type 0} (now : A → K × V) (answer : Option A) → IfSome answer (λ x. HasFoundUnder same hash fixed key n u v w (now x))
      → IfSome answer (λ x. HasFoundUnder same hash fixed key n u p w (now x))
  unfolding run_since
  found_since now None found = tt
  found_since now (Some x) found = record {
    word = found.word;
    ran = run_since (Get key) (found_of (Some found.word)) found.ran;
    id = found.id;
    equal = found.equal;
    lent = found.lent;
  }

  pub none_since : {A : Type 0} (answer : Option A) → IfNone answer (HasRunUnder same hash (Get key) (found_of None) u v w)
      → IfNone answer (HasRunUnder same hash (Get key) (found_of None) u p w)
  none_since None none = run_since (Get key) (found_of None) none
  none_since (Some x) none = tt

module _ {K V S : Type 0} where
  -- who has nothing under way, and leans on nobody, rests, and still does so once it has learnt a map
  pub back_rests : (w : View K V S) → IsBack w → SeatIsQuiescent w
  back_rests w back = rests_so w Rests back.lone back.good back.rests back.free tt

  pub still_back : (v w : View K V S) (map : Map S) → w ≡ shown_map v map → IsBack v → IsBack w
  still_back v w map e back = record {
    rests = ap (λ (x : View K V S). x.slot) e ∙ back.rests;
    free = ap (λ (x : View K V S). x.work) e ∙ back.free;
    lone = ap (λ (x : View K V S). x.under) e ∙ back.lone;
    good = ap (λ (x : View K V S). x.by) e;
  }

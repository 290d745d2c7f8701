-- Effects leave each stored pair somewhere, and where it is in a map, that is there.
use Rattle.std.specs.Prelude.{◌≡◌, ◌≢◌, ℕ, ◌≤◌, ◌==◌, Bool, true, false, ◌||◌, List, [], ◌∷◌, length, map as each, Option, Some, None, if◌then◌else◌}
use Rattle.std.specs.List.{list_any}
use Rattle.std.proofs.Common.{refl, ap, sym, subst, ◌∙◌, arith, inl, inr}
use Rattle.std.proofs.lemmas.Bool.{cases_eq}
use Rattle.run_executor.specs.Given.RunsDeclared.effect.Effect.{Effect}
use Rattle.run_executor.specs.Given.RunsDeclared.effect.Effect.TheVariants as effect
use Rattle.run_executor.specs.Given.RunsDeclared.effect.Spot.{Spot}
use Rattle.run_executor.specs.Given.RunsDeclared.effect.TableId.{TableId}
use Rattle.run_executor.specs.Given.RunsDeclared.effect.Thing.TheVariants.{APair, ATable}
use Rattle.run_executor.specs.Given.SchedulesEffects.{all_at, place_by, stored_by, promoted, maps_by, with_effect}
use Rattle.run_executor.specs.Given.SchedulesEntry.{acting}
use Rattle.run_executor.specs.Given.SchedulesLists.{is_among, put}
use Rattle.run_executor.specs.Given.SchedulesMoment.{Place, InMap, Out, Handed, Behind, Left, GivenBack, UnderWay, MapThere, Moment}
use Rattle.run_executor.specs.Given.SchedulesViews.{behind}
use Rattle.run_executor.proofs.Given.FollowsAlike.{put_here, put_elsewhere}
use Rattle.run_finds.specs.Waiting.{is_unborn, FindsPlaced}
use Rattle.run_finds.specs.TornDown.{StoredAreSomewhere, FindsItsMap, EffectsPreserveSomewhere, OthersPreserveSomewhere}

-- a place in no map, and of a pair that was stored
record IsElsewhere (to : Place) : Type 0 where
  pub in_none : (map : ℕ) → to ≡ InMap map → ⊥
  pub born : is_unborn to ≡ false

out_is : IsElsewhere Out
out_is = record { in_none = λ map e. cc e; born = refl }

handed_is : IsElsewhere Handed
handed_is = record { in_none = λ map e. cc e; born = refl }

behind_is : IsElsewhere Behind
behind_is = record { in_none = λ map e. cc e; born = refl }

left_is : IsElsewhere Left
left_is = record { in_none = λ map e. cc e; born = refl }

back_is : IsElsewhere GivenBack
back_is = record { in_none = λ map e. cc e; born = refl }

-- places of which none comes into a map, and none is unborn that was not
pub record LeadsOn (before after : ℕ → Place) : Type 0 where
  pub in_map : (k map : ℕ) → after k ≡ InMap map → before k ≡ InMap map
  pub born : (k : ℕ) → is_unborn (before k) ≡ false → is_unborn (after k) ≡ false

same_leads : (place : ℕ → Place) → LeadsOn place place
same_leads place = record { in_map = λ k map e. e; born = λ k e. e }

put_leads : (n : ℕ) (to : Place) (place : ℕ → Place) → IsElsewhere to → LeadsOn place (put n to place)
put_leads n to place is = record {
  in_map = λ k map e. elim (cases_eq k n) as (λ _. place k ≡ InMap map) [
    | inl same ↦ absurd (is.in_none map (sym (put_here n to place k same) ∙ e))
    | inr ne ↦ sym (put_elsewhere n to place k ne) ∙ e
  ];
  born = λ k e. elim (cases_eq k n) as (λ _. is_unborn (put n to place k) ≡ false) [
    | inl same ↦ ap is_unborn (put_here n to place k same) ∙ is.born
    | inr ne ↦ ap is_unborn (put_elsewhere n to place k ne) ∙ e
  ];
}

all_lead : (to : Place) (numbers : List ℕ) (place : ℕ → Place) → IsElsewhere to → LeadsOn place (all_at to numbers place)
all_lead to numbers place is = record { in_map = λ k map. into k map (is_among k numbers); born = λ k. some k (is_among k numbers) }
  where
    into : (k map : ℕ) (q : Bool) → (if q then to else place k) ≡ InMap map → place k ≡ InMap map
    into k map true e = absurd (is.in_none map e)
    into k map false e = e

    some : (k : ℕ) (q : Bool) → is_unborn (place k) ≡ false → is_unborn (if q then to else place k) ≡ false
    some k true e = is.born
    some k false e = e

-- maps keep their numbers
numbered : (map : ℕ) (t : TableId) (fs : List MapThere) → list_any (λ (f : MapThere). f.number == map) (each (promoted t) fs) ≡ list_any (λ (f : MapThere). f.number == map) fs
numbered map t [] = refl
numbered map t (f ∷ fs) = by (f.number == t.map) (numbered map t fs)
  where
    by : (q : Bool) → list_any (λ (g : MapThere). g.number == map) (each (promoted t) fs) ≡ list_any (λ (g : MapThere). g.number == map) fs
        → (((if q then record f { first = t.turn } else f).number == map) || list_any (λ (g : MapThere). g.number == map) (each (promoted t) fs)) ≡ ((f.number == map) || list_any (λ (g : MapThere). g.number == map) fs)
    by true rest = ap (λ (b : Bool). (f.number == map) || b) rest
    by false rest = ap (λ (b : Bool). (f.number == map) || b) rest

pub maps_there : (map : ℕ) (f : Effect) (fs : List MapThere) → list_any (λ (g : MapThere). g.number == map) fs ≡ true → list_any (λ (g : MapThere). g.number == map) (maps_by f fs) ≡ true
maps_there map (effect.Promoted t) fs e = numbered map t fs ∙ e
maps_there map _ fs e = e

-- the effect stores a pair
abbrev pub is_storing : Effect → Bool
is_storing (effect.Stored n s) = true
is_storing _ = false

module _ {K V : Type 0} where
  -- any other effect leaves pairs stored as they were, and leads on from where they are
  pub none_stored : (o : Option (UnderWay K V)) (f : Effect) (stored : List (K × V)) → is_storing f ≡ false → stored_by o f stored ≡ stored
  none_stored None f stored e = refl
  none_stored (Some c) (effect.Stored n s) stored e = absurd (cc e)
  none_stored (Some c) _ stored e = refl

  pub leads : (acted : Option ℕ) (m : Moment K V) (f : Effect) → is_storing f ≡ false → LeadsOn m.place (place_by acted m.deferred f m.place)
  leads acted m (effect.Stored n s) e = absurd (cc e)
  leads acted m (effect.Replaced n) e = put_leads n Out m.place out_is
  leads acted m (effect.Removed n) e = put_leads n Out m.place out_is
  leads acted m (effect.Retired (APair n)) e = put_leads n Handed m.place handed_is
  leads acted m (effect.Retired (ATable t)) e = same_leads m.place
  leads acted m (effect.Deferred n t) e = put_leads n Behind m.place behind_is
  leads acted m (effect.Reclaimed (APair n)) e = put_leads n GivenBack m.place back_is
  leads acted m (effect.Reclaimed (ATable t)) e = all_lead Handed (behind t m.deferred) m.place handed_is
  leads acted m (effect.Ended n) e = put_leads n GivenBack m.place back_is
  leads acted m (effect.Taken t) e = all_lead Left (behind t m.deferred) m.place left_is
  leads acted m (effect.Asked growth) e = same_leads m.place
  leads acted m effect.PairMade e = same_leads m.place
  leads acted m effect.PairGivenUp e = same_leads m.place
  leads acted m (effect.TableMade t) e = same_leads m.place
  leads acted m (effect.TableGivenUp t) e = same_leads m.place
  leads acted m (effect.Linked t shape) e = same_leads m.place
  leads acted m (effect.Promoted t) e = same_leads m.place
  leads acted m (effect.Copied n s) e = same_leads m.place
  leads acted m (effect.Counted s) e = same_leads m.place

  module _ (caller : Option (List ℕ)) (acted : Option ℕ) (m : Moment K V) (h : StoredAreSomewhere m) where
    others : (f : Effect) → is_storing f ≡ false → StoredAreSomewhere (with_effect caller acted f m)
    others f e = record {
      born = λ n l u. on.born n (h.born n l (subst (λ (xs : List (K × V)). n ≤ length xs) (none_stored (acting caller m) f m.stored e) u));
      there = λ n map l is. maps_there map f m.maps (h.there n map l (on.in_map n map is));
    }
      where
        on : LeadsOn m.place (place_by acted m.deferred f m.place)
        on = leads acted m f e

  -- a pair that is stored comes into a map that is there
  stores : (caller : Option (List ℕ)) (acted : Option ℕ) (m : Moment K V) (h : StoredAreSomewhere m) (n : ℕ) (s : Spot) → FindsPlaced caller m (effect.Stored n s) → FindsItsMap acted m (effect.Stored n s)
      → StoredAreSomewhere (with_effect caller acted (effect.Stored n s) m)
  stores caller None m h n s finds its = absurd its
  stores caller (Some to) m h n s finds its = record {
    born = λ k l u. elim (cases_eq k n) as (λ _. is_unborn (put n (InMap to) m.place k) ≡ false) [
      | inl same ↦ ap is_unborn (put_here n (InMap to) m.place k same)
      | inr ne ↦ ap is_unborn (put_elsewhere n (InMap to) m.place k ne) ∙ h.born k l (before k u ne)
    ];
    there = λ k map l is. elim (cases_eq k n) as (λ _. list_any (λ (f : MapThere). f.number == map) m.maps ≡ true) [
      | inl same ↦ (let it : InMap to ≡ InMap map = sym (put_here n (InMap to) m.place k same) ∙ is in let one : to ≡ map = cc it in
          subst (λ (q : ℕ). list_any (λ (f : MapThere). f.number == q) m.maps ≡ true) one its)
      | inr ne ↦ h.there k map l (sym (put_elsewhere n (InMap to) m.place k ne) ∙ is)
    ];
  }
    where
      now : List (K × V)
      now = stored_by (acting caller m) (effect.Stored n s) m.stored

      before : (k : ℕ) → k ≤ length now → k ≢ n → k ≤ length m.stored
      before k u ne = let next = finds.0 in let last : length now ≡ n = finds.1 in omega (arith, u, ne, next, last)

  one_keeps : (caller : Option (List ℕ)) (acted : Option ℕ) (m : Moment K V) (f : Effect) → FindsPlaced caller m f → FindsItsMap acted m f → StoredAreSomewhere m → StoredAreSomewhere (with_effect caller acted f m)
  one_keeps caller acted m (effect.Stored n s) finds its h = stores caller acted m h n s finds its
  one_keeps caller acted m (effect.Asked growth) finds its h = others caller acted m h (effect.Asked growth) refl
  one_keeps caller acted m effect.PairMade finds its h = others caller acted m h effect.PairMade refl
  one_keeps caller acted m effect.PairGivenUp finds its h = others caller acted m h effect.PairGivenUp refl
  one_keeps caller acted m (effect.TableMade t) finds its h = others caller acted m h (effect.TableMade t) refl
  one_keeps caller acted m (effect.TableGivenUp t) finds its h = others caller acted m h (effect.TableGivenUp t) refl
  one_keeps caller acted m (effect.Linked t shape) finds its h = others caller acted m h (effect.Linked t shape) refl
  one_keeps caller acted m (effect.Promoted t) finds its h = others caller acted m h (effect.Promoted t) refl
  one_keeps caller acted m (effect.Copied n s) finds its h = others caller acted m h (effect.Copied n s) refl
  one_keeps caller acted m (effect.Replaced n) finds its h = others caller acted m h (effect.Replaced n) refl
  one_keeps caller acted m (effect.Removed n) finds its h = others caller acted m h (effect.Removed n) refl
  one_keeps caller acted m (effect.Counted s) finds its h = others caller acted m h (effect.Counted s) refl
  one_keeps caller acted m (effect.Deferred n t) finds its h = others caller acted m h (effect.Deferred n t) refl
  one_keeps caller acted m (effect.Retired x) finds its h = others caller acted m h (effect.Retired x) refl
  one_keeps caller acted m (effect.Reclaimed x) finds its h = others caller acted m h (effect.Reclaimed x) refl
  one_keeps caller acted m (effect.Ended n) finds its h = others caller acted m h (effect.Ended n) refl
  one_keeps caller acted m (effect.Taken t) finds its h = others caller acted m h (effect.Taken t) refl

pub effects_keep_somewhere : (K V : Type 0) → EffectsPreserveSomewhere K V
effects_keep_somewhere K V caller acted [] m finds h = h
effects_keep_somewhere K V caller acted (f ∷ effects) m finds h =
    effects_keep_somewhere K V caller acted effects (with_effect caller acted f m) finds.1 (one_keeps caller acted m f finds.0.0 finds.0.1 h)

pub others_keep_somewhere : (K V : Type 0) → OthersPreserveSomewhere K V
others_keep_somewhere K V m v h place stored more = record {
  born = λ n l u. ap is_unborn (place n) ∙ h.born n l (subst (λ (xs : List (K × V)). n ≤ length xs) stored u);
  there = λ n map l is. let was : m.place n ≡ InMap map = sym (place n) ∙ is in more n map l was (h.there n map l was);
}

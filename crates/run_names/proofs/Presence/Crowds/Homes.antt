-- Names lead home, where an item comes, changes or leaves.
use Rattle.std.specs.Prelude.{find, is_some, Bool, IsTrue, ◌↔◌, slice_get, slice_index_or, slice_set, MatchOption, Option, Some, None}
use Rattle.std.specs.Bool.{then_some}
use Rattle.std.proofs.Common.{◌≡◌, ℕ, zero, suc, ◌+◌, ◌<◌, ◌≤◌, ◌⊎◌, inl, inr, true, false, List, [], ◌∷◌, ◌++◌, length, refl, sym, ap, subst, arith, ◌∙◌}
use Rattle.run_names.specs.Presence.Places.{IsElsewhere, place_of}
use Rattle.run_names.specs.Presence.Crowd.{IsAbsent, IsHome, LeadsHome, StandsAt, is_named, kept}
use Rattle.run_names.specs.declared.name_index.NameIndex.{NameIndex}
use Rattle.run_names.proofs.Presence.Crowds.Kept.{IsAlone, home_found, home_left, others}
use Rattle.run_names.proofs.Presence.Crowds.Weights.{counted_left}

module _ {T : Type 0} where
  -- an item of a list that was changed at a place is that of the place, or stood there before
  pub set_stands : (comers : List (Option T)) (place : ℕ) (y : Option T) (p : ℕ) (t : T) → StandsAt (slice_set comers place y) p t
      → ((p ≡ place) × (y ≡ Some t)) ⊎ ((p ≡ place → ⊥) × StandsAt comers p t)
  set_stands [] place y p t s = absurd (cc s)
  set_stands (x ∷ comers) zero y zero t s = inl (refl, cc s)
  set_stands (x ∷ comers) zero y (suc p) t s = inr (λ e. absurd (omega (arith, e)), s)
  set_stands (x ∷ comers) (suc place) y zero t s = inr (λ e. absurd (omega (arith, e)), s)
  set_stands (x ∷ comers) (suc place) y (suc p) t s = next (set_stands comers place y p t s)
    where
      next : ((p ≡ place) × (y ≡ Some t)) ⊎ ((p ≡ place → ⊥) × StandsAt comers p t)
          → ((suc p ≡ suc place) × (y ≡ Some t)) ⊎ ((suc p ≡ suc place → ⊥) × StandsAt comers p t)
      next (inl h) = inl (ap suc h.0, h.1)
      next (inr h) = inr (λ e. h.0 (omega (arith, e)), h.1)

  -- and one of a list that has grown is the new one, or stood there before
  pub more_stands : (comers : List (Option T)) (y : Option T) (p : ℕ) (t : T) → StandsAt (comers ++ y ∷ []) p t
      → ((p ≡ length comers) × (y ≡ Some t)) ⊎ StandsAt comers p t
  more_stands [] y zero t s = inl (refl, cc s)
  more_stands [] y (suc p) t s = absurd (cc s)
  more_stands (x ∷ comers) y zero t s = inr s
  more_stands (x ∷ comers) y (suc p) t s = next (more_stands comers y p t s)
    where
      next : ((p ≡ length comers) × (y ≡ Some t)) ⊎ StandsAt comers p t → ((suc p ≡ suc (length comers)) × (y ≡ Some t)) ⊎ StandsAt comers p t
      next (inl h) = inl (ap suc h.0, h.1)
      next (inr h) = inr h

  pub stands_within : (comers : List (Option T)) (place : ℕ) (t : T) → StandsAt comers place t → place < length comers
  stands_within [] place t s = absurd (cc s)
  stands_within (x ∷ comers) zero t s = omega arith
  stands_within (x ∷ comers) (suc place) t s = omega (arith, stands_within comers place t s)

  -- what is read where an item stands is the item
  pub stands_read : (comers : List (Option T)) (place : ℕ) (t : T) (x : Option T) → StandsAt comers place t → x ≡ slice_index_or comers place x → x ≡ Some t
  stands_read [] place t x s e = absurd (cc s)
  stands_read (y ∷ comers) zero t x s e = e ∙ cc s
  stands_read (y ∷ comers) (suc place) t x s e = stands_read comers place t x s e

  -- and what is read of a place that the list has stands there
  pub reads : (comers : List (Option T)) (place : ℕ) (x : Option T) → place < length comers → x ≡ slice_index_or comers place x
      → slice_get comers place ≡ Some x
  reads [] place x within e = absurd (omega (arith, within))
  reads (y ∷ comers) zero x within e = ap (λ (z : Option T). Some z) (sym e)
  reads (y ∷ comers) (suc place) x within e = reads comers place x (omega (arith, within)) e

  module _ (name_of : T → List ℕ) where
    -- no item has a name that leads nowhere, out of the list, or to a place where none of that name stands
    pub leads_nowhere : (comers : List (Option T)) (places : NameIndex) (name : List ℕ) → LeadsHome name_of comers places → place_of name places ≡ None
        → IsAbsent name_of name comers
    leads_nowhere comers places name leads none p t s e =
        let led : place_of name places ≡ Some p = ap (λ (l : List ℕ). place_of l places) (sym e) ∙ leads.home p t s in
        cc (none, led)

    leads_there : (comers : List (Option T)) (places : NameIndex) (name : List ℕ) (place : ℕ) → LeadsHome name_of comers places
        → place_of name places ≡ Some place → ((t : T) → StandsAt comers place t → name_of t ≡ name → ⊥) → IsAbsent name_of name comers
    leads_there comers places name place leads told other p t s e =
        let led : place_of name places ≡ Some p = ap (λ (l : List ℕ). place_of l places) (sym e) ∙ leads.home p t s in
        let same : p ≡ place = cc (told, led) in
        other t (subst (λ (k : ℕ). StandsAt comers k t) same s) e

    pub leads_out : (comers : List (Option T)) (places : NameIndex) (name : List ℕ) (place : ℕ) → LeadsHome name_of comers places
        → place_of name places ≡ Some place → length comers ≤ place → IsAbsent name_of name comers
    leads_out comers places name place leads told out =
        leads_there comers places name place leads told (λ t s e. absurd (omega (arith, stands_within comers place t s, out)))

    pub leads_to_other : (comers : List (Option T)) (places : NameIndex) (name : List ℕ) (place : ℕ) (x : Option T) → LeadsHome name_of comers places
        → place_of name places ≡ Some place → place < length comers → x ≡ slice_index_or comers place x → ((t : T) → x ≡ Some t → name_of t ≡ name → ⊥)
        → IsAbsent name_of name comers
    leads_to_other comers places name place x leads told within read other =
        leads_there comers places name place leads told (λ t s e. other t (held t (sym (reads comers place x within read) ∙ s)) e)
      where
        held : (t : T) → Some x ≡ Some (Some t) → x ≡ Some t
        held t h = cc h

    -- whether the item to which a name leads has it tells where the item of this name stands
    pub told_by_name : (comers : List (Option T)) (places : NameIndex) (name : List ℕ) (place : ℕ) (x : Option T) (t : T) (told : List ℕ) (is : Bool)
        → LeadsHome name_of comers places → place_of name places ≡ Some place → place < length comers → x ≡ slice_index_or comers place x → Some t ≡ x
        → told ≡ name_of t → (IsTrue is ↔ (told ≡ name)) → MatchOption (then_some is place) (IsAbsent name_of name comers) (IsHome name_of name comers)
    told_by_name comers places name place x t told true leads led within read held names same =
        (t, reads comers place x within read ∙ ap (λ (z : Option T). Some z) (sym held), sym names ∙ same.0 refl)
    told_by_name comers places name place x t told false leads led within read held names same =
        leads_to_other comers places name place x leads led within read (λ u e named. never (same.1 (names ∙ ap (λ (z : T). name_of z) (one u (held ∙ e)) ∙ named)))
      where
        never : IsTrue false → ⊥
        never h = cc

        one : (u : T) → Some t ≡ Some u → t ≡ u
        one u h = cc h

    pub home_alone : (comers : List (Option T)) (places : NameIndex) (name : List ℕ) (place : ℕ) → LeadsHome name_of comers places
        → IsHome name_of name comers place → IsAlone name_of name comers place
    home_alone comers places name place leads h p t s e =
        let one : place_of name places ≡ Some p = ap (λ (l : List ℕ). place_of l places) (sym e) ∙ leads.home p t s in
        let two : place_of name places ≡ Some place = ap (λ (l : List ℕ). place_of l places) (sym h.2) ∙ leads.home place h.0 h.1 in
        cc (one, two)

    -- the names of others lead where they did
    abbrev pub OthersLead : List ℕ → NameIndex → NameIndex → Type 0
    OthersLead name old new = (other : List ℕ) → IsElsewhere name other → place_of other new ≡ place_of other old

    pub put_leads : (comers : List (Option T)) (old new : NameIndex) (name : List ℕ) → LeadsHome name_of comers old → IsAbsent name_of name comers
        → OthersLead name old new → LeadsHome name_of comers new
    put_leads comers old new name leads absent others =
        record { home = λ p t s. others (name_of t) (λ e. absent p t s (sym e)) ∙ leads.home p t s }

    pub come_leads : (comers : List (Option T)) (places : NameIndex) (t : T) → LeadsHome name_of comers places
        → place_of (name_of t) places ≡ Some (length comers) → LeadsHome name_of (comers ++ (Some t ∷ [])) places
    come_leads comers places t leads here = record { home = λ p u s. at p u (more_stands comers (Some t) p u s) }
      where
        at : (p : ℕ) (u : T) → ((p ≡ length comers) × (Some t ≡ Some u)) ⊎ StandsAt comers p u → place_of (name_of u) places ≡ Some p
        at p u (inl h) =
            let same : u ≡ t = let e = h.1 in cc e in
            ap (λ (x : T). place_of (name_of x) places) same ∙ here ∙ ap (λ (k : ℕ). Some k) (sym h.0)
        at p u (inr s) = leads.home p u s

    pub left_leads : (comers : List (Option T)) (old new : NameIndex) (name : List ℕ) (place : ℕ) → LeadsHome name_of comers old
        → IsHome name_of name comers place → OthersLead name old new
        → LeadsHome name_of (slice_set comers place None) new
    left_leads comers old new name place leads h others = record { home = λ p u s. at p u (set_stands comers place None p u s) }
      where
        at : (p : ℕ) (u : T) → ((p ≡ place) × (None ≡ Some u)) ⊎ ((p ≡ place → ⊥) × StandsAt comers p u) → place_of (name_of u) new ≡ Some p
        at p u (inl k) = let e = k.1 in absurd (cc e)
        at p u (inr k) = others (name_of u) (λ e. k.0 (home_alone comers old name place leads h p u k.1 (sym e))) ∙ leads.home p u k.1

    pub changed_leads : (comers : List (Option T)) (places : NameIndex) (place : ℕ) (t n : T) → LeadsHome name_of comers places → StandsAt comers place t
        → name_of n ≡ name_of t
        → LeadsHome name_of (slice_set comers place (Some n)) places
    changed_leads comers places place t n leads s same = record { home = λ p u k. at p u (set_stands comers place (Some n) p u k) }
      where
        at : (p : ℕ) (u : T) → ((p ≡ place) × (Some n ≡ Some u)) ⊎ ((p ≡ place → ⊥) × StandsAt comers p u) → place_of (name_of u) places ≡ Some p
        at p u (inl k) =
            let e = k.1 in
            let is : u ≡ n = cc e in
            ap (λ (x : T). place_of (name_of x) places) is ∙ ap (λ (l : List ℕ). place_of l places) same ∙ leads.home place t s
            ∙ ap (λ (j : ℕ). Some j) (sym k.0)
        at p u (inr k) = leads.home p u k.1

-- where no place is told there is none, and what holds of what is told
pub none_told : {A : Type 0} (B : ℕ → Type 0) (r : Option ℕ) → is_some r ≡ false → MatchOption r A B → A
none_told B None e m = m
none_told B (Some place) e m = absurd (cc e)

pub none_held : {A : Type 0} (B : ℕ → Type 0) (r : Option ℕ) → r ≡ None → A → MatchOption r A B
none_held {A} B r e a = let Q : Option ℕ → Type 0 = λ o. MatchOption o A B in subst Q (sym e) a

pub some_told : (A : Type 0) {T : Type 0} (P : T → Type 0) (r : Option T) (t : T) → r ≡ Some t → P t → MatchOption r A P
some_told A {T} P r t e p = let Q : Option T → Type 0 = λ o. MatchOption o A P in subst Q (sym e) p

-- the item of a name stands at this place of the list that is shown
module _ {T : Type 0} (name_of : T → List ℕ) (shown comers : List (Option T)) (places : NameIndex) (name : List ℕ) (place : ℕ) (same : shown ≡ comers)
    (leads : LeadsHome name_of comers places) (home : IsHome name_of name shown place) where
  pub here : StandsAt comers place home.0
  here = ap (λ (l : List (Option T)). slice_get l place) (sym same) ∙ home.1

  pub is_home : IsHome name_of name comers place
  is_home = (home.0, here, home.2)

  pub here_alone : IsAlone name_of name comers place
  here_alone = home_alone name_of comers places name place leads is_home

  pub here_found : find (is_named name_of name) (kept comers) ≡ Some home.0
  here_found = home_found name_of name comers place home.0 here home.2 here_alone

  pub here_left : kept (slice_set comers place None) ≡ others name_of name (kept comers)
  here_left = home_left name_of name comers place home.0 here home.2 here_alone

  pub here_leads : (new : NameIndex) → OthersLead name_of name places new → LeadsHome name_of (slice_set comers place None) new
  here_leads new lead = left_leads name_of comers places new name place leads is_home lead

  pub here_counted : 1 + length (kept (slice_set comers place None)) ≡ length (kept comers)
  here_counted = counted_left comers place home.0 here

  -- one that takes its place under the same name
  pub here_kept : (n : T) → name_of n ≡ name_of home.0 → LeadsHome name_of (slice_set comers place (Some n)) places
  here_kept n e = changed_leads name_of comers places place home.0 n leads here e

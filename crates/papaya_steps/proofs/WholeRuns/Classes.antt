-- No key has two pairs: a call stores only where its key's class has none in the map just then, or in the place of the one that it has.
use Rattle.std.specs.Prelude.{◌≡◌, ◌≢◌, ℕ, zero, suc, ◌+◌, ◌<◌, ◌≤◌, ◌==◌, Bool, true, false, ◌&&◌, List, [], ◌∷◌, ◌++◌, length, flat_map, map, Option, Some, None, if◌then◌else◌, ◌⊎◌}
use Rattle.std.specs.Cmp.{IsEquivalence}
use Rattle.std.proofs.Common.{refl, ap, sym, subst, ◌∙◌, arith, inl, inr}
use Rattle.std.proofs.lemmas.List.{append-nil}
use Rattle.run_schedules.specs.Runs.Log.{pair_at, is_key}
use Rattle.run_schedules.specs.declared.call.Call.{Call}
use Rattle.run_schedules.specs.declared.call.Call.TheVariants as call
use Rattle.run_schedules.specs.declared.call.OneKey.{OneKey}
use Rattle.run_schedules.specs.declared.effect.Effect.{Effect}
use Rattle.run_schedules.specs.declared.effect.Effect.TheVariants as effect
use Rattle.run_schedules.specs.declared.effect.Spot.{Spot}
use Rattle.run_schedules.specs.declared.effect.Thing.TheVariants.{APair, ATable}
use Rattle.run_schedules.specs.declared.event.Event.{Event}
use Rattle.run_schedules.specs.declared.event.Event.TheVariants.{MakeMap, Begin, OneCall}
use Rattle.run_schedules.specs.declared.outcome.Outcome.{Outcome}
use Rattle.run_schedules.specs.declared.outcome.Outcome.TheVariants.{Done, Goes}
use Rattle.run_schedules.specs.Schedules.After.{after, moment}
use Rattle.run_schedules.specs.Schedules.Beginning.{at_work, begun, with_call}
use Rattle.run_schedules.specs.Schedules.Effects.{call_by, new_pair, place_by, stored_by, with_effect, with_effects, worked, AtEachEffect}
use Rattle.run_schedules.specs.Schedules.Entry.{ByCall, Entry, acted_on, acting, caller_of, is_busy, nameless}
use Rattle.run_schedules.specs.Schedules.Handing.{moments_of, gives_all, AllFind}
use Rattle.run_schedules.specs.Schedules.Linearizable.{ActsOf, Changes, ChangesOnce, IsLinearizable, MayRemove, RemovesOnly, shift_of, there_for}
use Rattle.run_schedules.specs.Schedules.Lists.{is_among, put}
use Rattle.run_schedules.specs.Schedules.Lives.{CallFinds, Finds}
use Rattle.run_schedules.specs.Schedules.Growing.{only_looks}
use Rattle.run_schedules.specs.Schedules.Moment.{Place, InMap, Out, Handed, Behind, Left, GivenBack, Deferral, UnderWay, Moment}
use Rattle.run_schedules.specs.Schedules.Runs.{IsLegalLog}
use Rattle.run_schedules.specs.Schedules.Sequential.{Deed, Leaves, Puts, Takes, Meaning, Answers, Refuses, Wants, Shift, ComesIn, GivesWay, GoesOut, key_of, means, shifts, value_put}
use Rattle.run_schedules.specs.Schedules.Terms.{Terms}
use Rattle.run_schedules.specs.Schedules.Views.{behind, call_of, is_in_map, number_of, reply_to}
use Rattle.play_events.proofs.Given.ChangesFound.{FoundIn, found}
use Rattle.play_events.proofs.Given.FollowsContents.{pair_next}
use Rattle.play_events.proofs.Given.FollowsCalls.{changed, changed_same, of_same, found as found_on}
use Rattle.play_events.proofs.Given.FindsOver.{acts}
use Rattle.papaya_steps.specs.WholeRuns.Classes.{Has, HaveTheirOwn}
use Rattle.seize_words.proofs.General.{both_true as and_both}

number_is : (a b : ℕ) → (a == b) ≡ true → a ≡ b
number_is a b e = grind (arith, e)

apart : (a b : ℕ) → (a == b) ≡ false → a ≡ b → ⊥
apart a b e is = grind (arith, e, is)

-- pairs come into maps by what is stored alone

abbrev stores : Effect → Bool
stores (effect.Stored n s) = true
stores _ = false

-- of these changes none brings a pair
abbrev Spares : List Shift → Type 0
Spares [] = Unit {0}
Spares (ComesIn n ∷ done) = ⊥
Spares (GivesWay p ∷ done) = Spares done
Spares (GoesOut p ∷ done) = Spares done

spared : (f : Effect) (done : List Shift) → Spares (shift_of f ++ done) → (stores f ≡ false) × Spares done
spared (effect.Stored n s) done h = absurd h
spared (effect.Replaced n) done h = (refl, h)
spared (effect.Removed n) done h = (refl, h)
spared _ done h = (refl, h)

-- a pair that is in a map is where it was, if it was not put elsewhere
elsewhere : (map : ℕ) (b : Bool) (to at : Place) → is_in_map map to ≡ false → is_in_map map (if b then to else at) ≡ true → is_in_map map at ≡ true
elsewhere map true to at out is = absurd (cc (out, is))
elsewhere map false to at out is = is

fewer_places : (acted : Option ℕ) (deferred : List Deferral) (f : Effect) (place : ℕ → Place) (map n : ℕ) → stores f ≡ false → is_in_map map (place_by acted deferred f place n) ≡ true
    → is_in_map map (place n) ≡ true
fewer_places acted deferred (effect.Stored k s) place map n none is = absurd (cc none)
fewer_places acted deferred (effect.Replaced k) place map n none is = elsewhere map (n == k) Out (place n) refl is
fewer_places acted deferred (effect.Removed k) place map n none is = elsewhere map (n == k) Out (place n) refl is
fewer_places acted deferred (effect.Retired (APair k)) place map n none is = elsewhere map (n == k) Handed (place n) refl is
fewer_places acted deferred (effect.Retired (ATable t)) place map n none is = is
fewer_places acted deferred (effect.Deferred k t) place map n none is = elsewhere map (n == k) Behind (place n) refl is
fewer_places acted deferred (effect.Reclaimed (APair k)) place map n none is = elsewhere map (n == k) GivenBack (place n) refl is
fewer_places acted deferred (effect.Reclaimed (ATable t)) place map n none is = elsewhere map (is_among n (behind t deferred)) Handed (place n) refl is
fewer_places acted deferred (effect.Ended k) place map n none is = elsewhere map (n == k) GivenBack (place n) refl is
fewer_places acted deferred (effect.Taken t) place map n none is = elsewhere map (is_among n (behind t deferred)) Left (place n) refl is
fewer_places acted deferred _ place map n none is = is

-- what a meaning stores is one value, or none
one_value : {V : Type 0} (m : Meaning V) → (value_put m ≡ []) ⊎ ((v : V) × (value_put m ≡ v ∷ []))
one_value (Answers a (Puts v)) = inr (v, refl)
one_value (Answers a Leaves) = inl refl
one_value (Answers a Takes) = inl refl
one_value Refuses = inl refl
one_value Wants = inl refl

module _ {K V : Type 0} where
  -- a pair that comes behind others leaves these as they are
  pair_past : (stored : List (K × V)) → pair_at stored (suc (length stored)) ≡ None
  pair_past [] = refl
  pair_past (s ∷ stored) = pair_past stored

  pair_other : (stored : List (K × V)) (x : K × V) (n : ℕ) → n ≢ suc (length stored) → pair_at (stored ++ x ∷ []) n ≡ pair_at stored n
  pair_other stored x zero other = refl
  pair_other [] x (suc zero) other = absurd (other refl)
  pair_other [] x (suc (suc n)) other = refl
  pair_other (s ∷ stored) x (suc zero) other = refl
  pair_other (s ∷ stored) x (suc (suc n)) other = pair_other stored x (suc n) (λ e. other (ap suc e))

  stored_still : (o : Option (UnderWay K V)) (f : Effect) (stored : List (K × V)) → stores f ≡ false → stored_by o f stored ≡ stored
  stored_still (Some c) (effect.Stored n s) stored none = absurd (cc none)
  stored_still None (effect.Stored n s) stored none = refl
  stored_still (Some c) _ stored none = refl
  stored_still None _ stored none = refl

  -- what begins has no part in it
  abbrev Same : Moment K V → Moment K V → Type 0
  Same v m = (v.place ≡ m.place) × (v.stored ≡ m.stored)

  called : (own guard : List ℕ) (its : Call K V) (number : Option ℕ) (m : Moment K V) → Same (with_call own guard its number m) m
  called own guard its None m = (refl, refl)
  called own guard its (Some k) m = (refl, refl)

  begins : (event : Event K V) (o : Outcome V) (m : Moment K V) → Same (begun event o m) m
  begins (Begin caller guard name its) Goes m = called caller guard its (number_of name m) m
  begins (MakeMap name mode capacity) Done m = (refl, refl)
  begins (OneCall guard name its) o m = by (is_busy o)
    where
      by : (b : Bool) → Same (if b then m else with_call nameless guard its (number_of name m) m) m
      by true = (refl, refl)
      by false = called nameless guard its (number_of name m) m
  begins _ o m = (refl, refl)

module _ {K V : Type 0} (same : K → K → Bool) where
  no_coming : (its : Call K V) (c : UnderWay K V) (n : ℕ) → MayRemove same its c (ComesIn n) → ⊥
  no_coming (call.On one) c n h = h
  no_coming (call.Reserve more) c n h = h
  no_coming call.Clear c n h = h
  no_coming call.Retain c n h = h
  no_coming call.Len c n h = h
  no_coming call.Walk c n h = h

  -- a sweep brings none
  removes_spare : (its : Call K V) (c : UnderWay K V) (done : List Shift) → RemovesOnly same its c done → Spares done
  removes_spare its c [] h = tt
  removes_spare its c (ComesIn n ∷ done) h = no_coming its c n h.0
  removes_spare its c (GivesWay p ∷ done) h = removes_spare its c done h.1
  removes_spare its c (GoesOut p ∷ done) h = removes_spare its c done h.1

  -- of the second moment maps have no pair that they had not at the first
  pub record Fewer (x y : Moment K V) : Type 0 where
    pub stored : y.stored ≡ x.stored
    pub fewer : (map n : ℕ) → is_in_map map (y.place n) ≡ true → is_in_map map (x.place n) ≡ true

  one_fewer : (caller : Option (List ℕ)) (acted : Option ℕ) (f : Effect) (x : Moment K V) → stores f ≡ false → Fewer x (with_effect caller acted f x)
  one_fewer caller acted f x none = record { stored = stored_still (acting caller x) f x.stored none; fewer = λ map n is. fewer_places acted x.deferred f x.place map n none is }

  has_still : (x y : Moment K V) → Fewer x y → (map : ℕ) (k : K) (n : ℕ) → Has same y map k n → Has same x map k n
  has_still x y fewer map k n its = (fewer.fewer map n its.0, subst (λ (xs : List (K × V)). is_key same (pair_at xs n) k ≡ true) fewer.stored its.1)

  own_still : (x y : Moment K V) → Fewer x y → HaveTheirOwn same x → HaveTheirOwn same y
  own_still x y fewer owns map n p k its other = owns map n p k (has_still x y fewer map k n its) (has_still x y fewer map k p other)

  none_come : (caller : Option (List ℕ)) (acted : Option ℕ) (effects : List Effect) (x : Moment K V) → Spares (flat_map shift_of effects) → HaveTheirOwn same x
      → HaveTheirOwn same (with_effects caller acted effects x)
  none_come caller acted [] x h owns = owns
  none_come caller acted (f ∷ effects) x h owns =
      let rest = spared f (flat_map shift_of effects) h in
      let next : Moment K V = with_effect caller acted f x in none_come caller acted effects next rest.1 (own_still x next (one_fewer caller acted f x rest.0) owns)

  -- the number of a pair with a key is one of those that were stored
  is_stored : (xs : List (K × V)) (n : ℕ) (k : K) → is_key same (pair_at xs n) k ≡ true → (0 < n) × (n ≤ length xs)
  is_stored xs zero k h = absurd (cc h)
  is_stored [] (suc n) k h = absurd (cc h)
  is_stored (x ∷ xs) (suc zero) k h = (omega arith, omega arith)
  is_stored (x ∷ xs) (suc (suc n)) k h = (let rest = is_stored xs (suc n) k h in let l = rest.1 in (omega arith, omega (arith, l)))

  module _ (acted : ℕ) (one : OneKey K V) where
    -- the class of the key has none in the map
    abbrev IsFree : Moment K V → Type 0
    IsFree x = (n : ℕ) → Has same x acted (key_of one) n → ⊥

    -- where a pair is to come in, the class has none, or just the one that gives way before
    abbrev Awaits : List Shift → Moment K V → Type 0
    Awaits [] x = Unit {0}
    Awaits (ComesIn n ∷ []) x = IsFree x
    Awaits (GivesWay p ∷ ComesIn n ∷ []) x = (q : ℕ) → Has same x acted (key_of one) q → q ≡ p
    Awaits (GoesOut p ∷ []) x = Unit {0}
    Awaits _ x = ⊥

    awaits_still : (done : List Shift) (x y : Moment K V) → Fewer x y → Awaits done x → Awaits done y
    awaits_still [] x y fewer h = tt
    awaits_still (ComesIn n ∷ []) x y fewer h = λ q its. h q (has_still x y fewer acted (key_of one) q its)
    awaits_still (GivesWay p ∷ ComesIn n ∷ []) x y fewer h = λ q its. h q (has_still x y fewer acted (key_of one) q its)
    awaits_still (GoesOut p ∷ []) x y fewer h = tt
    awaits_still _ x y fewer h = h

    -- what the call means just then is so
    awaits_first : (x : Moment K V) → HaveTheirOwn same x → (d : Deed V) (n : ℕ) (o : Option ℕ) → FoundIn same acted (key_of one) x (length x.stored) o → Awaits (shifts o n d) x
    awaits_first x owns Leaves n None none = tt
    awaits_first x owns Takes n None none = tt
    awaits_first x owns (Puts v) n None none = λ q its. (let some = is_stored x.stored q (key_of one) its.1 in none q some.0 some.1 (both q its))
      where
        both : (q : ℕ) → Has same x acted (key_of one) q → (is_in_map acted (x.place q) && is_key same (pair_at x.stored q) (key_of one)) ≡ true
        both q its = (let a = its.0 in let b = its.1 in grind (arith, a, b))
    awaits_first x owns Leaves n (Some p) here = tt
    awaits_first x owns Takes n (Some p) here = tt
    awaits_first x owns (Puts v) n (Some p) here = λ q its. owns acted q p (key_of one) its (and_both (is_in_map acted (x.place p)) (is_key same (pair_at x.stored p) (key_of one)) here.2)

    module _ (laws : IsEquivalence same) where
      -- a pair with a key of this one's class
      of_class : (x : Moment K V) (map : ℕ) (k : K) (n : ℕ) → same (key_of one) k ≡ true → Has same x map k n → Has same x map (key_of one) n
      of_class x map k n e its = (its.0, by (pair_at x.stored n) its.1)
        where
          by : (o : Option (K × V)) → is_key same o k ≡ true → is_key same o (key_of one) ≡ true
          by None h = absurd (cc h)
          by (Some p) h = laws.congr p.0 k (key_of one) h ∙ laws.symm k (key_of one) ∙ e

      -- a pair comes in under the next number
      module _ (x : Moment K V) (new : ℕ) (next : new ≡ suc (length x.stored)) (stored : List (K × V)) where
        abbrev Came : ℕ → K → ℕ → Type 0
        Came map k n = (is_in_map map (put new (InMap acted) x.place n) ≡ true) × (is_key same (pair_at stored n) k ≡ true)

        abbrev WasOrIs : ℕ → K → ℕ → Type 0
        WasOrIs map k n = Has same x map k n ⊎ ((n ≡ new) × (map ≡ acted) × (same (key_of one) k ≡ true))

        module _ (others : (n : ℕ) → n ≢ new → pair_at stored n ≡ pair_at x.stored n) (its : (k : K) → is_key same (pair_at stored new) k ≡ true → same (key_of one) k ≡ true) where
          was_or_is : (map n : ℕ) (k : K) → Came map k n → WasOrIs map k n
          was_or_is map n k came = by (n == new) refl came.0
            where
              by : (b : Bool) → (n == new) ≡ b → is_in_map map (if b then InMap acted else x.place n) ≡ true → WasOrIs map k n
              by true e there =
                  let here : n ≡ new = number_is n new e in
                  inr (here, number_is map acted there, its k (subst (λ (i : ℕ). is_key same (pair_at stored i) k ≡ true) here came.1))
              by false e there = inl (there, subst (λ (o : Option (K × V)). is_key same o k ≡ true) (others n (apart n new e)) came.1)

          own_new : IsFree x → HaveTheirOwn same x → (map n p : ℕ) (k : K) → Came map k n → Came map k p → n ≡ p
          own_new free owns map n p k one_is other_is = by (was_or_is map n k one_is) (was_or_is map p k other_is)
            where
              by : WasOrIs map k n → WasOrIs map k p → n ≡ p
              by (inl a) (inl b) = owns map n p k a b
              by (inr a) (inr b) = a.0 ∙ sym b.0
              by (inl a) (inr b) = absurd (free n (subst (λ (i : ℕ). Has same x i (key_of one) n) b.1 (of_class x map k n b.2 a)))
              by (inr a) (inl b) = absurd (free p (subst (λ (i : ℕ). Has same x i (key_of one) p) a.1 (of_class x map k p a.2 b)))

      module _ (own : List ℕ) (terms : Terms) (everything : Bool) (moments : List (Moment K V)) where
        -- after what the call stores
        module _ (x : Moment K V) (c : UnderWay K V) (is : call_of own x ≡ Some c) (its : c.call ≡ call.On one) (new : ℕ) (s : Spot) (next : new ≡ length x.stored + 1) where
          abbrev then_at : Moment K V
          then_at = with_effect (Some own) (Some acted) (effect.Stored new s) x

          abbrev value : List V
          value = value_put (means one (reply_to c.replacing c.replies) c.replacing new)

          is_next : new ≡ suc (length x.stored)
          is_next = omega (arith, next)

          stored_is : then_at.stored ≡ x.stored ++ map (λ v. (key_of one, v)) value
          stored_is = ap (λ (o : Option (UnderWay K V)). stored_by o (effect.Stored new s) x.stored) is ∙ ap (λ (d : Call K V). x.stored ++ new_pair d c new) its

          others : (n : ℕ) → n ≢ new → pair_at then_at.stored n ≡ pair_at x.stored n
          others n other = ap (λ (xs : List (K × V)). pair_at xs n) stored_is ∙ by (one_value (means one (reply_to c.replacing c.replies) c.replacing new))
            where
              by : (value ≡ []) ⊎ ((v : V) × (value ≡ v ∷ [])) → pair_at (x.stored ++ map (λ v. (key_of one, v)) value) n ≡ pair_at x.stored n
              by (inl none) = ap (λ (vs : List V). pair_at (x.stored ++ map (λ v. (key_of one, v)) vs) n) none ∙ ap (λ (xs : List (K × V)). pair_at xs n) (append-nil x.stored)
              by (inr some) = ap (λ (vs : List V). pair_at (x.stored ++ map (λ v. (key_of one, v)) vs) n) some.1 ∙ pair_other x.stored (key_of one, some.0) n (λ e. other (e ∙ sym is_next))

          its_key : (k : K) → is_key same (pair_at then_at.stored new) k ≡ true → same (key_of one) k ≡ true
          its_key k has = by (one_value (means one (reply_to c.replacing c.replies) c.replacing new))
            where
              key_at : (o : Option (K × V)) → pair_at then_at.stored new ≡ o → is_key same o k ≡ true
              key_at o at = subst (λ (p : Option (K × V)). is_key same p k ≡ true) at has

              by : (value ≡ []) ⊎ ((v : V) × (value ≡ v ∷ [])) → same (key_of one) k ≡ true
              by (inl none) =
                  let at : pair_at then_at.stored new ≡ None =
                  ap (λ (xs : List (K × V)). pair_at xs new) stored_is ∙ ap (λ (vs : List V). pair_at (x.stored ++ map (λ v. (key_of one, v)) vs) new) none
                  ∙ ap (λ (xs : List (K × V)). pair_at xs new) (append-nil x.stored) ∙ ap (pair_at x.stored) is_next ∙ pair_past x.stored in
                  let it : false ≡ true = key_at None at in absurd (cc it)
              by (inr some) =
                  key_at (Some (key_of one, some.0)) (ap (λ (xs : List (K × V)). pair_at xs new) stored_is
                  ∙ ap (λ (vs : List V). pair_at (x.stored ++ map (λ v. (key_of one, v)) vs) new) some.1
                  ∙ pair_next x.stored (key_of one, some.0) new next)

          after_store : IsFree x → HaveTheirOwn same x → HaveTheirOwn same then_at
          after_store free owns = own_new x new is_next then_at.stored others its_key free owns

        abbrev FindsOn : Effect → Moment K V → Type 0
        FindsOn f x = Finds terms (Some own) (Some acted) everything moments x f

        numbered : (n : ℕ) (s : Spot) (x : Moment K V) (c : UnderWay K V) → call_of own x ≡ Some c → FindsOn (effect.Stored n s) x → n ≡ length x.stored + 1
        numbered n s x c is finds = (subst (ByCall (λ d. (only_looks d.call ≡ false) × CallFinds terms moments x (effect.Stored n s) d)) is finds).1.0

        one_on : (f : Effect) (done : List Shift) (x : Moment K V) (c : UnderWay K V) → call_of own x ≡ Some c → c.call ≡ call.On one → FindsOn f x → Awaits (shift_of f ++ done) x → HaveTheirOwn same x
            → HaveTheirOwn same (with_effect (Some own) (Some acted) f x) × Awaits done (with_effect (Some own) (Some acted) f x)
        one_on (effect.Stored n s) [] x c is its finds awaits owns = (after_store x c is its n s (numbered n s x c is finds) awaits owns, tt)
        one_on (effect.Stored n s) (d ∷ done) x c is its finds awaits owns = absurd awaits
        one_on (effect.Replaced p) (ComesIn n ∷ []) x c is its finds awaits owns = (own_still x next fewer owns, λ q has. gone q (q == p) refl has.0 (awaits q (has_still x next fewer acted (key_of one) q has)))
          where
            next : Moment K V
            next = with_effect (Some own) (Some acted) (effect.Replaced p) x

            fewer : Fewer x next
            fewer = one_fewer (Some own) (Some acted) (effect.Replaced p) x refl

            gone : (q : ℕ) (b : Bool) → (q == p) ≡ b → is_in_map acted (if b then Out else x.place q) ≡ true → q ≡ p → ⊥
            gone q true e there is_it = cc there
            gone q false e there is_it = apart q p e is_it
        one_on (effect.Replaced p) [] x c is its finds awaits owns = absurd awaits
        one_on (effect.Replaced p) (GivesWay q ∷ done) x c is its finds awaits owns = absurd awaits
        one_on (effect.Replaced p) (GoesOut q ∷ done) x c is its finds awaits owns = absurd awaits
        one_on (effect.Replaced p) (ComesIn n ∷ d ∷ done) x c is its finds awaits owns = absurd awaits
        one_on (effect.Removed p) [] x c is its finds awaits owns = (own_still x (with_effect (Some own) (Some acted) (effect.Removed p) x) (one_fewer (Some own) (Some acted) (effect.Removed p) x refl) owns, tt)
        one_on (effect.Removed p) (d ∷ done) x c is its finds awaits owns = absurd awaits
        one_on f done x c is its finds awaits owns =
            let next : Moment K V = with_effect (Some own) (Some acted) f x in
            let fewer : Fewer x next = one_fewer (Some own) (Some acted) f x refl in (own_still x next fewer owns, awaits_still done x next fewer awaits)

        keeps : (effects : List Effect) (x : Moment K V) (c : UnderWay K V) → call_of own x ≡ Some c → c.call ≡ call.On one
            → AtEachEffect (Finds terms (Some own) (Some acted) everything moments) (Some own) (Some acted) effects x → Awaits (flat_map shift_of effects) x → HaveTheirOwn same x
            → HaveTheirOwn same (with_effects (Some own) (Some acted) effects x)
        keeps [] x c is its finds awaits owns = owns
        keeps (f ∷ effects) x c is its finds awaits owns =
            let more = one_on f (flat_map shift_of effects) x c is its finds.0 awaits owns in
            keeps effects (with_effect (Some own) (Some acted) f x) (changed (call_by x f) (changed_same x f) own c) (found_on (call_by x f) (changed_same x f) own own x.calls c is)
            ((of_same (call_by x f) (changed_same x f) own c).2 ∙ its) finds.1 more.1 more.0

  module _ (laws : IsEquivalence same) (terms : Terms) (log : List (Entry K V)) (e : Entry K V) where
    abbrev b : Moment K V
    b = at_work e (moment log)

    abbrev done : List Shift
    done = flat_map shift_of e.effects

    begins_own : HaveTheirOwn same (moment log) → HaveTheirOwn same b
    begins_own owns = own_still (moment log) b (record { stored = same_then.1; fewer = λ map n is. ap (λ (place : ℕ → Place). is_in_map map (place n)) (sym same_then.0) ∙ is }) owns
      where
        same_then : Same b (moment log)
        same_then = begins e.event e.outcome (moment log)

    -- where no pair comes in
    spares : Spares done → HaveTheirOwn same b → HaveTheirOwn same (after e (moment log))
    spares none owns = none_come (caller_of e.event) (acted_on e.event b) e.effects b none owns

    abbrev OwnsThen : Option (List ℕ) → Option ℕ → Type 0
    OwnsThen o acted = AtEachEffect (Finds terms o acted (gives_all e.event) (moments_of terms log (acting (caller_of e.event) b))) o acted e.effects b → HaveTheirOwn same (with_effects o acted e.effects b)

    -- by a call on one key
    on_one : (own : List ℕ) (c : UnderWay K V) (one : OneKey K V) → caller_of e.event ≡ Some own → call_of own b ≡ Some c → c.call ≡ call.On one → ChangesOnce same one c b done → AllFind terms log e b
        → HaveTheirOwn same b → HaveTheirOwn same (after e (moment log))
    on_one own c one caller_is is its changes finds owns =
        subst (λ (o : Option (List ℕ)). OwnsThen o (acted_on e.event b)) (sym caller_is)
        (subst (OwnsThen (Some own)) (sym (acts e.event b own c caller_is is)) (λ find. keeps c.map one laws own terms (gives_all e.event) (moments_of terms log (acting (caller_of e.event) b)) e.effects b c is its find (awaits changes) owns)) finds
      where
        awaits : ChangesOnce same one c b done → Awaits c.map one done b
        awaits (inl none) = subst (λ (l : List Shift). Awaits c.map one l b) (sym none) tt
        awaits (inr one_does) =
            subst (λ (l : List Shift). Awaits c.map one l b) (sym one_does.4)
            (awaits_first c.map one b owns one_does.2 (length b.stored + 1) (there_for same one c b) (found same c.map (key_of one) b (length b.stored)))

    kept : IsLinearizable same log e → AllFind terms log e b → HaveTheirOwn same (moment log) → HaveTheirOwn same (after e (moment log))
    kept changes finds before = by (caller_of e.event) refl (acting (caller_of e.event) b) refl (acting (caller_of e.event) (worked e (moment log))) changes
      where
        owns : HaveTheirOwn same b
        owns = begins_own before

        nothing : done ≡ [] → HaveTheirOwn same (after e (moment log))
        nothing none = spares (subst Spares (sym none) tt) owns

        its : (own : List ℕ) (c : UnderWay K V) → caller_of e.event ≡ Some own → call_of own b ≡ Some c → (what : Call K V) → c.call ≡ what → Changes same what c b done → HaveTheirOwn same (after e (moment log))
        its own c caller_is is (call.On one) e_is h = on_one own c one caller_is is e_is h finds owns
        its own c caller_is is (call.Reserve more) e_is h = spares (removes_spare (call.Reserve more) c done h) owns
        its own c caller_is is call.Clear e_is h = spares (removes_spare call.Clear c done h) owns
        its own c caller_is is call.Retain e_is h = spares (removes_spare call.Retain c done h) owns
        its own c caller_is is call.Len e_is h = spares (removes_spare call.Len c done h) owns
        its own c caller_is is call.Walk e_is h = spares (removes_spare call.Walk c done h) owns

        by : (o : Option (List ℕ)) → caller_of e.event ≡ o → (there : Option (UnderWay K V)) → acting (caller_of e.event) b ≡ there → (then_there : Option (UnderWay K V))
            → ActsOf same log e there then_there → HaveTheirOwn same (after e (moment log))
        by o caller_is None is then_there h = nothing h
        by o caller_is (Some c) is None h = nothing h
        by None caller_is (Some c) is (Some d) h = absurd (cc (sym (ap (λ (who : Option (List ℕ)). acting who b) caller_is) ∙ is))
        by (Some own) caller_is (Some c) is (Some d) h = its own c caller_is (sym (ap (λ (who : Option (List ℕ)). acting who b) caller_is) ∙ is) c.call refl h.changes

  -- so it is after each event of a run
  pub keys_have_one_pair : IsEquivalence same → (terms : Terms) (log : List (Entry K V)) → IsLegalLog same terms log → HaveTheirOwn same (moment log)
  keys_have_one_pair laws terms [] legal = λ map n p k its other. absurd (cc its.0)
  keys_have_one_pair laws terms (e ∷ log) legal = kept laws terms log e legal.0.linearizable legal.0.life.finds (keys_have_one_pair laws terms log legal.1)

-- A map comes with a root that was not used, and goes, and leaves something over, or nothing; and once all is reclaimed nothing is.
use Rattle.std.specs.Prelude.{◌≤◌, ◌<◌, ◌⊎◌, ◌==◌, ◌||◌, ◌++◌, not, filter, length, map, Some, None, if◌then◌else◌}
use Rattle.std.proofs.Common.{◌≡◌, ℕ, ◌+◌, Bool, true, false, List, [], ◌∷◌, inl, inr, refl, ap, sym, subst, ◌∙◌, arith, eqb-true}
use Rattle.std.proofs.lemmas.Bool.{eq-eqb}
use Rattle.std.proofs.lemmas.List.{map-append}
use Rattle.run_debts.specs.Given.RunsLifeCycle.{times}
use Rattle.run_debts.proofs.Given.RunsPairs.Held.{times-append}
use Rattle.run_debts.specs.Given.RunsSame.{is_same}
use Rattle.run_debts.specs.Given.SchedulesAfter.{if_any}
use Rattle.run_debts.specs.Given.SchedulesBeginning.{used_roots, with_map}
use Rattle.run_debts.specs.Given.SchedulesLists.{is_among}
use Rattle.run_debts.specs.Given.SchedulesMoment.{MapThere, Moment, Remains}
use Rattle.run_debts.specs.Given.SchedulesViews.{map_of}
use Rattle.run_debts.specs.Given.EffectsKnown.{Known}
use Rattle.run_debts.specs.Given.EffectsDeclared.role.Role.TheVariants as role
use Rattle.run_debts.specs.Given.FinishesMakings.{IsFreeRoot}
use Rattle.run_debts.specs.Given.OthersEndings.{without_map}
use Rattle.run_debts.specs.Given.ReclaimsLeft.{IsSomebodys}
use Rattle.run_debts.proofs.Given.ReclaimsLeft.Stays.{nothing_is_left}
use Rattle.run_waiting.specs.Remains.Remains.{AscendFrom, RefinesRemains, has_some, left_at, left_roots, map_roots}
use Rattle.run_waiting.specs.Remains.Steps.{MapsComeRemain, MapsGoRemain, ReclaimedRemain}
use Rattle.run_waiting.proofs.Remains.Lists.{among_append, among_remains, ascends, either, left_new, left_none, left_other, none_times, not_among, some_noted, some_times, taken_out, times_remains}
use Rattle.run_debts.specs.Given.ScenesScene.{Scene}
use Rattle.run_debts.proofs.Given.General.{or_second as or_true, or_first, both_false as neither}

module _ {K V : Type 0} (m : Moment K V) where
  -- how often a root is used, and where one is
  used_times : (r : ℕ) → times r (used_roots m) ≡ times r (map_roots m) + times r (left_roots m)
  used_times r = times-append r (map_roots m) (left_roots m)

  used_among : (r : ℕ) → is_among r (used_roots m) ≡ (is_among r (map_roots m) || is_among r (left_roots m))
  used_among r = among_append r (map_roots m) (left_roots m)

module _ (K V : Type 0) where
  pub maps_come_remain : MapsComeRemain K V
  maps_come_remain roots m known s shows there unused below = record {
    lists = shows.lists;
    left = shows.left;
    told = λ r l none. shows.told r l (neither (is_among r (map_roots m)) (is_among r (there.root ∷ [])) (sym (roots_among r) ∙ none)).0;
    pairs = λ r l none. shows.pairs r l (neither (is_among r (map_roots m)) (is_among r (there.root ∷ [])) (sym (roots_among r) ∙ none)).0;
    ascending = shows.ascending;
    once = λ r. (
        let sum = used_times (with_map there m) r in
        let more = ap (times r) roots_then ∙ times-append r (map_roots m) (there.root ∷ []) in
        let before = used_times m r in
        let one = once_more r in
        omega (arith, sum, more, before, one));
    below = below_then;
    ending = λ j f is. roots_among f.setting.root ∙ or_first (is_among f.setting.root (map_roots m)) (is_among f.setting.root (there.root ∷ [])) (shows.ending j f is);
  }
    where
      roots_then : map_roots (with_map there m) ≡ map_roots m ++ there.root ∷ []
      roots_then = map-append (λ (f : MapThere). f.root) m.maps (there ∷ [])

      roots_among : (r : ℕ) → is_among r (map_roots (with_map there m)) ≡ (is_among r (map_roots m) || is_among r (there.root ∷ []))
      roots_among r = ap (is_among r) roots_then ∙ among_append r (map_roots m) (there.root ∷ [])

      once_more : (r : ℕ) → times r (used_roots m) + times r (there.root ∷ []) ≤ 1
      once_more r = by (r == there.root) refl
        where
          by : (q : Bool) → (r == there.root) ≡ q → times r (used_roots m) + ((if q then 1 else 0) + 0) ≤ 1
          by true e =
              let none : times r (used_roots m) ≡ 0 = ap (λ (x : ℕ). times x (used_roots m)) (eqb-true r there.root e) ∙ none_times there.root (used_roots m) unused in
              omega (arith, none)
          by false e = (let one = shows.once r in omega (arith, one))

      below_then : (r : ℕ) → is_among r (used_roots (with_map there m)) ≡ true → r < roots
      below_then r is = by (r == there.root) refl
        where
          by : (q : Bool) → (r == there.root) ≡ q → r < roots
          by true e = subst (λ (x : ℕ). x < roots) (sym (eqb-true r there.root e)) below
          by false e =
              shows.below r (used_among m r ∙ old (is_among r (map_roots m)) (is_among r (left_roots m))
              (sym (used_among (with_map there m) r ∙ ap (λ (q : Bool). q || is_among r (left_roots m)) (roots_among r ∙ ap (λ (q : Bool). is_among r (map_roots m) || (q || false)) e)) ∙ is))
            where
              old : (a b : Bool) → ((a || (false || false)) || b) ≡ true → (a || b) ≡ true
              old true b used = refl
              old false b used = used

  module _ (roots : ℕ) (m : Moment K V) (known : Known) (s : Scene K V) (shows : RefinesRemains roots m known s) (own : List ℕ) (f : MapThere) (found : map_of own m ≡ Some f)
      (alone : length (filter (λ g. is_same g.name own) m.maps) ≤ 1) where
    abbrev kept : List ℕ
    kept = map (λ g. g.root) (filter (λ g. not (is_same g.name own)) m.maps)

    kept_times : (r : ℕ) → times r kept + (if r == f.root then 1 else 0) ≡ times r (map_roots m)
    kept_times r = taken_out (λ g. is_same g.name own) (λ g. g.root) r m.maps f found alone

    its_root : times f.root (map_roots m) ≡ times f.root kept + 1
    its_root =
        let sum = kept_times f.root in
        let one : ◌≡◌ {A = ℕ} (if f.root == f.root then 1 else 0) 1 = ap (λ (q : Bool). if q then 1 else 0) (eq-eqb f.root f.root refl) in
        omega (arith, sum, one)

    -- its root is that of no other map, and nothing was left over behind it
    none_left : is_among f.root (left_roots m) ≡ false
    none_left = not_among f.root (left_roots m) (let once = shows.once f.root in let sum = used_times m f.root in let its = its_root in omega (arith, once, sum, its))

    kept_among : (r : ℕ) → is_among r kept ≡ true → is_among r (map_roots m) ≡ true
    kept_among r is = by (is_among r (map_roots m)) refl
      where
        by : (q : Bool) → is_among r (map_roots m) ≡ q → is_among r (map_roots m) ≡ true
        by true e = e
        by false e = absurd (let some = some_times r kept is in let none = none_times r (map_roots m) e in let sum = kept_times r in omega (arith, some, none, sum))

    -- any other root that no map has, has none before, either
    other_none : (r : ℕ) → (r == f.root) ≡ false → is_among r kept ≡ false → is_among r (map_roots m) ≡ false
    other_none r ne none =
        not_among r (map_roots m)
        (let sum = kept_times r in
        let zero : ◌≡◌ {A = ℕ} (if r == f.root then 1 else 0) 0 = ap (λ (q : Bool). if q then 1 else 0) ne in
        let kept_none = none_times r kept none in
        omega (arith, sum, zero, kept_none))

    module _ (no_ends : (j : ℕ) → s.enders j ≡ None) where
      goes_with : (remains : List Remains) → ((r : ℕ) → r < roots → is_among r kept ≡ false → is_among r (map (λ x. x.root) remains) ≡ has_some (shows.lists r))
          → ((r : ℕ) → r < roots → is_among r kept ≡ false → map known.roles (shows.lists r) ≡ map role.Pair (left_at r remains)) → AscendFrom 0 remains
          → ((r : ℕ) → times r (map (λ x. x.root) remains) ≤ times r (left_roots m) + (if r == f.root then 1 else 0))
          → ((r : ℕ) → is_among r (map (λ x. x.root) remains) ≡ true → r < roots) → RefinesRemains roots (without_map own remains m) known s
      goes_with remains told pairs ascending few below = record {
        lists = shows.lists;
        left = shows.left;
        told = told;
        pairs = pairs;
        ascending = ascending;
        once = λ r. (
            let then_sum = used_times (without_map own remains m) r in
            let sum = used_times m r in
            let less = few r in
            let taken = kept_times r in
            let once = shows.once r in
            omega (arith, then_sum, sum, less, taken, once));
        below = λ r is. by r (is_among r kept) refl (sym (used_among (without_map own remains m) r) ∙ is);
        ending = λ j g is. absurd (let none = no_ends j in cc (none, is));
      }
        where
          by : (r : ℕ) (q : Bool) → is_among r kept ≡ q → (is_among r kept || is_among r (map (λ x. x.root) remains)) ≡ true → r < roots
          by r true e is = shows.below r (used_among m r ∙ or_first (is_among r (map_roots m)) (is_among r (left_roots m)) (kept_among r e))
          by r false e is = below r (either (is_among r kept) (is_among r (map (λ x. x.root) remains)) is e)

      its_below : f.root < roots
      its_below =
          shows.below f.root (used_among m f.root ∙ or_first (is_among f.root (map_roots m)) (is_among f.root (left_roots m)) is_there)
        where
          is_there : is_among f.root (map_roots m) ≡ true
          is_there = by (is_among f.root (map_roots m)) refl
            where
              by : (q : Bool) → is_among f.root (map_roots m) ≡ q → is_among f.root (map_roots m) ≡ true
              by true e = e
              by false e = absurd (let none = none_times f.root (map_roots m) e in let its = its_root in omega (arith, none, its))

      goes : (pairs : List ℕ) → map known.roles (shows.lists f.root) ≡ map role.Pair pairs → RefinesRemains roots (without_map own (if_any f.root pairs m.remains) m) known s
      goes [] none =
          goes_with m.remains told left shows.ascending (λ r. omega arith) (λ r is. shows.below r (used_among m r ∙ or_true (is_among r (map_roots m)) (is_among r (left_roots m)) is))
        where
          told : (r : ℕ) → r < roots → is_among r kept ≡ false → is_among r (left_roots m) ≡ has_some (shows.lists r)
          told r l out = by (r == f.root) refl
            where
              by : (q : Bool) → (r == f.root) ≡ q → is_among r (left_roots m) ≡ has_some (shows.lists r)
              by true e =
                  (let same : r ≡ f.root = eqb-true r f.root e in
                  ap (λ (x : ℕ). is_among x (left_roots m)) same ∙ none_left ∙ sym (some_noted known.roles (shows.lists f.root) [] none) ∙ ap (λ (x : ℕ). has_some (shows.lists x)) (sym same))
              by false e = shows.told r l (other_none r e out)

          left : (r : ℕ) → r < roots → is_among r kept ≡ false → map known.roles (shows.lists r) ≡ map role.Pair (left_at r m.remains)
          left r l out = by (r == f.root) refl
            where
              by : (q : Bool) → (r == f.root) ≡ q → map known.roles (shows.lists r) ≡ map role.Pair (left_at r m.remains)
              by true e =
                  (let same : r ≡ f.root = eqb-true r f.root e in
                  ap (λ (x : ℕ). map known.roles (shows.lists x)) same ∙ none
                  ∙ sym (ap (λ (x : ℕ). map role.Pair (left_at x m.remains)) same ∙ ap (λ (ns : List ℕ). map role.Pair ns) (left_none f.root m.remains none_left)))
              by false e = shows.pairs r l (other_none r e out)
      goes (n ∷ pairs) some =
          goes_with (if_any f.root (n ∷ pairs) m.remains) told left (ascends new 0 m.remains shows.ascending (omega arith) none_left)
          (λ r. (let sum = times_remains r new m.remains in omega (arith, sum))) (λ r is. below r (r == f.root) refl (sym (among_remains r new m.remains) ∙ is))
        where
          new : Remains
          new = record { root = f.root; pairs = n ∷ pairs }

          told : (r : ℕ) → r < roots → is_among r kept ≡ false → is_among r (map (λ x. x.root) (if_any f.root (n ∷ pairs) m.remains)) ≡ has_some (shows.lists r)
          told r l out = among_remains r new m.remains ∙ by (r == f.root) refl
            where
              by : (q : Bool) → (r == f.root) ≡ q → (q || is_among r (left_roots m)) ≡ has_some (shows.lists r)
              by true e = sym (some_noted known.roles (shows.lists f.root) (n ∷ pairs) some) ∙ ap (λ (x : ℕ). has_some (shows.lists x)) (sym (eqb-true r f.root e))
              by false e = shows.told r l (other_none r e out)

          left : (r : ℕ) → r < roots → is_among r kept ≡ false → map known.roles (shows.lists r) ≡ map role.Pair (left_at r (if_any f.root (n ∷ pairs) m.remains))
          left r l out = by (r == f.root) refl
            where
              by : (q : Bool) → (r == f.root) ≡ q → map known.roles (shows.lists r) ≡ map role.Pair (left_at r (if_any f.root (n ∷ pairs) m.remains))
              by true e =
                  (let same : r ≡ f.root = eqb-true r f.root e in
                  ap (λ (x : ℕ). map known.roles (shows.lists x)) same ∙ some
                  ∙ sym (ap (λ (x : ℕ). map role.Pair (left_at x (if_any f.root (n ∷ pairs) m.remains))) same ∙ ap (λ (ns : List ℕ). map role.Pair ns) (left_new new m.remains none_left)))
              by false e =
                  shows.pairs r l (other_none r e out)
                  ∙ ap (λ (ns : List ℕ). map role.Pair ns) (sym (left_other new r (by_ne (f.root == r) refl (λ other. (let yes = eq-eqb r f.root (sym (eqb-true f.root r other)) in cc (yes, e)))) m.remains))
                where
                  by_ne : (q : Bool) → (f.root == r) ≡ q → ((f.root == r) ≡ true → ⊥) → (f.root == r) ≡ false
                  by_ne true is never = absurd (never is)
                  by_ne false is never = is

          below : (r : ℕ) (q : Bool) → (r == f.root) ≡ q → (q || is_among r (left_roots m)) ≡ true → r < roots
          below r true e is = subst (λ (x : ℕ). x < roots) (sym (eqb-true r f.root e)) its_below
          below r false e is = shows.below r (used_among m r ∙ or_true (is_among r (map_roots m)) (is_among r (left_roots m)) is)

  pub maps_go_remain : MapsGoRemain K V
  maps_go_remain roots m known s shows own f found alone no_ends pairs so = goes roots m known s shows own f found alone no_ends pairs so

  pub reclaimed_remain : ReclaimedRemain K V
  reclaimed_remain roots m v known known2 s t shows maps none no_makers no_enders all = record {
    lists = λ r. [];
    left = nothing_is_left K V roots t.world t.maps t.makers t.enders (λ r l. elim (all.free r l) as (λ _. IsSomebodys t.maps t.makers t.enders r ⊎ IsFreeRoot t.world r) [
      | inl is ↦ inl (inl is)
      | inr free ↦ inr free
    ]);
    told = λ r l out. ap (λ (xs : List Remains). is_among r (map (λ x. x.root) xs)) none;
    pairs = λ r l out. ap (λ (xs : List Remains). map role.Pair (left_at r xs)) (sym none);
    ascending = subst (AscendFrom 0) (sym none) tt;
    once = λ r. (let few = used_few r in let before = used_times m r in let once = shows.once r in omega (arith, few, before, once));
    below = λ r is. shows.below r (used_among m r ∙ or_first (is_among r (map_roots m)) (is_among r (left_roots m)) (sym (used_is r) ∙ is));
    ending = λ j f is. absurd (let no_end = no_enders j in cc (no_end, is));
  }
    where
      used_few : (r : ℕ) → times r (used_roots v) ≡ times r (map_roots m) + 0
      used_few r =
          (let sum = used_times v r in
          let same = ap (times r) maps in
          let empty : times r (left_roots v) ≡ 0 = ap (λ (xs : List Remains). times r (map (λ x. x.root) xs)) none in
          omega (arith, sum, same, empty))

      used_is : (r : ℕ) → is_among r (used_roots v) ≡ is_among r (map_roots m)
      used_is r =
          used_among v r ∙ ap (λ (rs : List ℕ). is_among r rs || is_among r (left_roots v)) maps
          ∙ ap (λ (xs : List Remains). is_among r (map_roots m) || is_among r (map (λ x. x.root) xs)) none ∙ or_false (is_among r (map_roots m))
        where
          or_false : (a : Bool) → (a || false) ≡ a
          or_false true = refl
          or_false false = refl

-- Where no map is made, and none ends, roots are taken as the moment says, and what is behind them is what a caller finds there that reclaims all.
use Rattle.std.specs.Prelude.{◌<◌, ◌||◌, ◌==◌, map, Some, None, if◌then◌else◌}
use Rattle.std.specs.List.{All, AllByRecursion}
use Rattle.std.proofs.Common.{◌≡◌, ℕ, suc, Bool, true, false, List, [], ◌∷◌, inl, inr, refl, ap, sym, subst, ◌∙◌, arith, eqb-true}
use Rattle.run_debts.specs.Given.SeizeWordsDeclared.at.At.TheVariants.{Used}
use Rattle.run_debts.specs.Given.SeizeWordsMem.{Mem, word_at}
use Rattle.run_debts.specs.Given.TablesDeclared.node.Node.{Node}
use Rattle.run_debts.specs.Given.SchedulesBeginning.{used_roots}
use Rattle.run_debts.specs.Given.SchedulesLists.{is_among}
use Rattle.run_debts.specs.Given.SchedulesMoment.{MapThere, Moment}
use Rattle.run_debts.specs.Given.SchedulesViews.{map_at}
use Rattle.run_debts.specs.Given.EffectsKnown.{Known}
use Rattle.run_debts.specs.Given.EffectsDeclared.role.Role.TheVariants as role
use Rattle.run_debts.specs.Given.FinishesMaps.{Standing}
use Rattle.run_debts.specs.Given.FollowsShows.{Refines}
use Rattle.run_debts.proofs.Given.RunsPairs.Held.{times-append}
use Rattle.run_debts.specs.Given.MomentsNumbers.{AreFound}
use Rattle.run_debts.specs.Given.ReclaimsLeft.{IsSomebodys}
use Rattle.run_debts.specs.Given.ReclaimsReclaims.{IsRootOf, RootLeads}
use Rattle.run_debts.proofs.Given.ReclaimsLeft.Stays.{left_is_left_behind}
use Rattle.run_waiting.specs.Remains.Remains.{AllStand, RootsAreTaken, RefinesRemains, has_some, left_at, left_roots, map_roots}
use Rattle.run_waiting.specs.Remains.Steps.{QuiescentAreNoted, QuiescentRemain}
use Rattle.run_waiting.proofs.Remains.Lists.{among_append, found_among, left_none, not_among, some_times}
use Rattle.run_debts.specs.Given.ScenesHeld.{Held, IsAt}
use Rattle.run_debts.specs.Given.ScenesScene.{Scene}

-- a root that is there is that of one that is there
root_there : (P Q : MapThere → Type 0) (r : ℕ) (fs : List MapThere) → is_among r (map (λ f. f.root) fs) ≡ true → All P fs → AllByRecursion Q fs → (f : MapThere) × (f.root ≡ r) × P f × Q f
root_there P Q r [] e all each = absurd (cc e)
root_there P Q r (f ∷ fs) e all each = by (r == f.root) refl e (λ later. root_there P Q r fs later (λ k d l. all (suc k) d (omega (arith, l))) each.1)
  where
    by : (q : Bool) → (r == f.root) ≡ q → (q || is_among r (map (λ g. g.root) fs)) ≡ true → (is_among r (map (λ g. g.root) fs) ≡ true → (g : MapThere) × (g.root ≡ r) × P g × Q g)
        → (g : MapThere) × (g.root ≡ r) × P g × Q g
    by true same is ih = (f, sym (eqb-true r f.root same), all 0 f (omega arith), each.0)
    by false other is ih = ih is

module _ {K V : Type 0} (same : K → K → Bool) (hash : ℕ → K → ℕ) (name : ℕ → List ℕ) (m : Moment K V) (known : Known) (s : Scene K V) (e : Held K V) (at : IsAt same hash e s)
    (shown : Refines same name m known s) (shows : RefinesRemains e.roots m known s) (found : AreFound m) (stand : AllStand m s) (no_makers : (j : ℕ) → s.makers j ≡ None) (no_enders : (j : ℕ) → s.enders j ≡ None) where
  -- roots of maps that are there are those of maps that stand
  stands_there : (r : ℕ) → is_among r (map_roots m) ≡ true → IsRootOf s.maps r
  stands_there r is =
      let f = root_there (λ f. map_at f.number m ≡ Some f) (λ f. (standing : Standing K) × (s.maps f.number ≡ Some standing)) r m.maps is found stand in
      let there = (shown.maps f.0.number f.3.0 f.3.1).there in
      let both : Some f.0 ≡ Some there.there = sym f.2 ∙ there.is in
      let one : f.0 ≡ there.there = cc both in
      (f.0.number, f.3.0, f.3.1, sym there.root ∙ ap (λ (x : MapThere). x.root) (sym one) ∙ f.1)

  is_there : (r : ℕ) → IsRootOf s.maps r → is_among r (map_roots m) ≡ true
  is_there r (n, st, here, is) =
      let there = (shown.maps n st here).there in
      subst (λ (x : ℕ). is_among x (map_roots m) ≡ true) (there.root ∙ is) (found_among (λ f. f.number == n) (λ f. f.root) m.maps there.there there.is)

  map_taken : (r : ℕ) → IsRootOf s.maps r → word_at s.world.memory (Used r) ≡ Some 1
  map_taken r (n, st, here, is) = subst (λ (x : ℕ). word_at s.world.memory (Used x) ≡ Some 1) is (at.together.makings.used n st here)

  of_map : (r : ℕ) → IsSomebodys s.maps s.makers s.enders r → IsRootOf s.maps r
  of_map r (inl is) = is
  of_map r (inr (inl (j, b, makes, taken, is))) = absurd (let none = no_makers j in cc (none, makes))
  of_map r (inr (inr (j, f, ends, is))) = absurd (let none = no_enders j in cc (none, ends))

  abbrev TakenAs : ℕ → Bool → Type 0
  TakenAs r q = word_at s.world.memory (Used r) ≡ Some (if q then 1 else 0)

  used_among : (r : ℕ) → is_among r (used_roots m) ≡ (is_among r (map_roots m) || is_among r (left_roots m))
  used_among r = among_append r (map_roots m) (left_roots m)

  -- behind a root that is nobody's, something or nothing
  word_so : (r : ℕ) (l : List ℕ) → RootLeads s.world r l → TakenAs r (has_some l)
  word_so r [] free = free.0
  word_so r (b ∷ l) leads = leads.2

  -- it is no map's
  no_map : (r : ℕ) → r < e.roots → (l : List ℕ) → shows.lists r ≡ l → RootLeads s.world r l → IsRootOf s.maps r → ⊥
  no_map r below [] is free its = (let one = map_taken r its in let none = free.0 in cc (one, none))
  no_map r below (b ∷ l) is leads its = (let none = shows.left.none r below (inl its) in cc (none, is))

  nobodys : (r : ℕ) → r < e.roots → RootLeads s.world r (shows.lists r) → is_among r (map_roots m) ≡ false
  nobodys r below leads = by (is_among r (map_roots m)) refl
    where
      by : (q : Bool) → is_among r (map_roots m) ≡ q → is_among r (map_roots m) ≡ false
      by true is = absurd (no_map r below (shows.lists r) refl leads (stands_there r is))
      by false is = is

  taken : (r : ℕ) → r < e.roots → TakenAs r (is_among r (used_roots m))
  taken r below = elim (shows.left.root r below) as (λ _. TakenAs r (is_among r (used_roots m))) [
    | inl is ↦
        (let its = of_map r is in
        subst (TakenAs r) (sym (used_among r ∙ ap (λ (q : Bool). q || is_among r (left_roots m)) (is_there r its))) (map_taken r its))
    | inr leads ↦
        (let none = nobodys r below leads in
        subst (TakenAs r) (sym (used_among r ∙ ap (λ (q : Bool). q || is_among r (left_roots m)) none ∙ shows.told r below none)) (word_so r (shows.lists r) leads))
  ]

  in_memory : RootsAreTaken e.roots m e.memory
  in_memory r below = subst (λ (x : Mem (Node K V)). word_at x (Used r) ≡ Some (if is_among r (used_roots m) then 1 else 0)) at.memory (taken r below)

pub rests_remain : (K V : Type 0) (same : K → K → Bool) (hash : ℕ → K → ℕ) → QuiescentRemain K V same hash
rests_remain K V same hash name m known s e at shown shows found stand no_makers no_enders = (
  in_memory same hash name m known s e at shown shows found stand no_makers no_enders,
  (left_is_left_behind K V e.roots s.world s.maps s.makers s.enders shows.lists no_makers no_enders).0 shows.left,
)

-- And what is behind each root then, also behind that of a map, is noted as what is told.
pub each_noted : (K V : Type 0) (same : K → K → Bool) (hash : ℕ → K → ℕ) → QuiescentAreNoted K V same hash
each_noted K V same hash name m known s e at shown shows found stand no_makers no_enders r below = by (is_among r (map_roots m)) refl
  where
    none_told : is_among r (map_roots m) ≡ true → is_among r (left_roots m) ≡ false
    none_told is =
        not_among r (left_roots m)
        (let once = shows.once r in let both = times-append r (map_roots m) (left_roots m) in let some = some_times r (map_roots m) is in omega (arith, once, both, some))

    by : (q : Bool) → is_among r (map_roots m) ≡ q → map known.roles (shows.lists r) ≡ map role.Pair (left_at r m.remains)
    by true is =
        let its = stands_there same hash name m known s e at shown shows found stand no_makers no_enders r is in
        ap (λ (bs : List ℕ). map known.roles bs) (shows.left.none r below (inl its)) ∙ sym (ap (λ (ns : List ℕ). map role.Pair ns) (left_none r m.remains (none_told is)))
    by false is = shows.pairs r below is

-- Maps keep their names, and as one ends its tables and its pairs go with it.
use Rattle.std.specs.Prelude.{◌≡◌, ℕ, zero, suc, ◌≤◌, ◌⊎◌, ◌==◌, nat_le, Bool, true, false, not, cond, ◌&&◌, ◌||◌, List, [], ◌∷◌, ◌++◌, length, filter, find, map, flat_map, Option, Some, None, option_map, if◌then◌else◌}
use Rattle.std.specs.List.{AllByRecursion, list_any, list_all}
use Rattle.std.specs.Option.{option_or}
use Rattle.std.proofs.Common.{refl, ap, sym, subst, ◌∙◌, arith, inl, inr, le-leb}
use Rattle.std.proofs.lemmas.Bool.{and_parts, cases_eq, eq-eqb, leb-true}
use Rattle.std.proofs.lemmas.List.Elements.{recursion_from_All, All-from_recursion}
use Rattle.std.proofs.lemmas.List.Folds.{find-append}
use Rattle.run_executor.specs.Given.RunsSame.{is_same}
use Rattle.run_executor.specs.Given.RunsDeclared.effect.Effect.{Effect}
use Rattle.run_executor.specs.Given.RunsDeclared.effect.Effect.TheVariants as effect
use Rattle.run_executor.specs.Given.RunsDeclared.effect.TableId.{TableId}
use Rattle.run_executor.specs.Given.RunsDeclared.event.Event.{Event}
use Rattle.run_executor.specs.Given.RunsDeclared.event.Event.TheVariants.{MakeMap, EndMap, Begin, OneCall}
use Rattle.run_executor.specs.Given.RunsDeclared.outcome.Outcome.{Outcome}
use Rattle.run_executor.specs.Given.RunsDeclared.outcome.Outcome.TheVariants.{Done, Goes}
use Rattle.run_executor.specs.Given.SchedulesAfter.{tables_taken, maps_on, after}
use Rattle.run_executor.specs.Given.SchedulesBeginning.{with_call, begun}
use Rattle.run_executor.specs.Given.SchedulesEffects.{at_stage, promoted, with_effect, with_effects, worked}
use Rattle.run_executor.specs.Given.SchedulesEntry.{Entry, is_busy, nameless, caller_of, acted_on}
use Rattle.run_executor.specs.Given.SchedulesHanding.{is_ending, may_do, EndsMap, EndsNamed, IsWhole}
use Rattle.run_executor.specs.Given.SchedulesMoment.{Place, InMap, MapThere, IsTaken, TableThere, Moment}
use Rattle.run_executor.specs.Given.SchedulesReclaims.{is_kept}
use Rattle.run_executor.specs.Given.SchedulesThings.{same_table}
use Rattle.run_executor.specs.Given.SchedulesViews.{is_in_map, places_below, map_of, number_of, map_at, first_or, first_of, is_linked, tables_of, chain_of}
use Rattle.run_executor.specs.Given.MomentsNumbers.{AreFound}
use Rattle.run_executor.proofs.Given.FollowsCalling.{is_same_refl, is_same_is}
use Rattle.run_executor.proofs.Given.OthersEndBegins.{found_still}
use Rattle.run_executor.proofs.Given.OthersLeads.{same_parts}
use Rattle.run_executor.proofs.Given.SpotsUnreclaimed.{same_itself}
use Rattle.run_finds.specs.Endings.{AreNamed, MakesNew, EventsPreserveNamed, EventsPreserveRoots, EventsPreserveSomewhere}
use Rattle.run_finds.specs.TornDown.{StoredAreSomewhere}
use Rattle.run_finds.specs.Waiting.{is_unborn, once_if, PairsArePlaced}
use Rattle.run_finds.proofs.Lists.{any_kept, any_kept_among, all_so, all_both, each_is, each_among}
use Rattle.run_finds.proofs.Somewhere.{others_keep_somewhere}
use Rattle.run_finds.proofs.Tables.{all_under, any_under, all_append, all_kept}

-- maps are found by their names, and by their numbers

module _ {X : Type 0} (of : MapThere → X) (same : X → X → Bool) where
  -- each of these is the one that is found by what it has
  abbrev pub FoundBy : List MapThere → Type 0
  FoundBy fs = AllByRecursion (λ f. find (λ g. same (of g) (of f)) fs ≡ Some f) fs

  module _ (t : TableId) (stays : (f : MapThere) → of (promoted t f) ≡ of f) where
    found_promoted : (x : X) (fs : List MapThere) → find (λ f. same (of f) x) (map (promoted t) fs) ≡ option_map (promoted t) (find (λ f. same (of f) x) fs)
    found_promoted x [] = refl
    found_promoted x (f ∷ fs) =
        ap (λ (y : X). cond (same y x) (Some (promoted t f)) (find (λ g. same (of g) x) (map (promoted t) fs))) (stays f) ∙ by (same (of f) x) (found_promoted x fs)
      where
        by : (q : Bool) → find (λ g. same (of g) x) (map (promoted t) fs) ≡ option_map (promoted t) (find (λ g. same (of g) x) fs)
            → cond q (Some (promoted t f)) (find (λ g. same (of g) x) (map (promoted t) fs)) ≡ option_map (promoted t) (cond q (Some f) (find (λ g. same (of g) x) fs))
        by true rest = refl
        by false rest = rest

    promoted_found : (fs : List MapThere) → FoundBy fs → FoundBy (map (promoted t) fs)
    promoted_found fs found =
        all_under (promoted t) (λ f. find (λ g. same (of g) (of f)) fs ≡ Some f) (λ f. find (λ g. same (of g) (of f)) (map (promoted t) fs) ≡ Some f)
        (λ f is. found_promoted (of (promoted t f)) fs ∙ (ap (λ (x : X). option_map (promoted t) (find (λ g. same (of g) x) fs)) (stays f) ∙ ap (option_map (promoted t)) is)) fs found

  pub more_found : (fs : List MapThere) (f : MapThere) → same (of f) (of f) ≡ true → find (λ g. same (of g) (of f)) fs ≡ None → FoundBy fs → FoundBy (fs ++ f ∷ [])
  more_found fs f itself none found =
      all_append (λ g. find (λ x. same (of x) (of g)) (fs ++ f ∷ []) ≡ Some g) fs f
      (all_so (λ g. find (λ x. same (of x) (of g)) fs ≡ Some g) (λ g. find (λ x. same (of x) (of g)) (fs ++ f ∷ []) ≡ Some g)
      (λ g is. find-append (λ x. same (of x) (of g)) fs (f ∷ []) ∙ ap (λ (o : Option MapThere). option_or o (find (λ x. same (of x) (of g)) (f ∷ []))) is) fs found)
      (find-append (λ x. same (of x) (of f)) fs (f ∷ []) ∙ (ap (λ (o : Option MapThere). option_or o (find (λ x. same (of x) (of f)) (f ∷ []))) none
      ∙ ap (λ (q : Bool). cond q (Some f) None) itself))

  pub fewer_found : (keep : MapThere → Bool) (fs : List MapThere) → FoundBy fs → FoundBy (filter keep fs)
  fewer_found keep fs found =
      all_so (λ f. (find (λ g. same (of g) (of f)) fs ≡ Some f) × (keep f ≡ true)) (λ f. find (λ g. same (of g) (of f)) (filter keep fs) ≡ Some f)
      (λ f its. found_still (λ g. same (of g) (of f)) keep fs f its.0 its.1) (filter keep fs) (all_kept (λ f. find (λ g. same (of g) (of f)) fs ≡ Some f) keep fs found)

name_same : (t : TableId) (f : MapThere) → (promoted t f).name ≡ f.name
name_same t f = by (f.number == t.map)
  where
    by : (q : Bool) → (if q then record f { first = t.turn } else f).name ≡ f.name
    by true = refl
    by false = refl

pub number_same : (t : TableId) (f : MapThere) → (promoted t f).number ≡ f.number
number_same t f = by (f.number == t.map)
  where
    by : (q : Bool) → (if q then record f { first = t.turn } else f).number ≡ f.number
    by true = refl
    by false = refl

abbrev pub name_of : MapThere → List ℕ
name_of f = f.name

abbrev pub number_at : MapThere → ℕ
number_at f = f.number

abbrev pub same_number : ℕ → ℕ → Bool
same_number a b = a == b

module _ {K V : Type 0} where
  pub one_named : (caller : Option (List ℕ)) (acted : Option ℕ) (f : Effect) (m : Moment K V) → AreNamed m → AreNamed (with_effect caller acted f m)
  one_named caller acted (effect.Promoted t) m named = promoted_found name_of is_same t (name_same t) m.maps named
  one_named caller acted _ m named = named

  -- so are they by their numbers
  pub numbers_stay : (caller : Option (List ℕ)) (acted : Option ℕ) (f : Effect) (m : Moment K V) → AreFound m → AreFound (with_effect caller acted f m)
  numbers_stay caller acted (effect.Promoted t) m found =
      All-from_recursion (λ g. map_at g.number (with_effect caller acted (effect.Promoted t) m) ≡ Some g) (map (promoted t) m.maps)
      (promoted_found number_at same_number t (number_same t) m.maps (recursion_from_All (λ g. map_at g.number m ≡ Some g) m.maps found))
  numbers_stay caller acted _ m found = found

  all_named : (caller : Option (List ℕ)) (acted : Option ℕ) (effects : List Effect) (m : Moment K V) → AreNamed m → AreNamed (with_effects caller acted effects m)
  all_named caller acted [] m named = named
  all_named caller acted (f ∷ effects) m named = all_named caller acted effects (with_effect caller acted f m) (one_named caller acted f m named)

  begun_named : (event : Event K V) (outcome : Outcome V) (m : Moment K V) → AreNamed m → MakesNew event outcome m → AreNamed (begun event outcome m)
  begun_named (MakeMap name mode capacity) Done m named new = more_found name_of is_same m.maps _ (is_same_refl name) new named
  begun_named (Begin caller guard name call) Goes m named new = by (number_of name m)
    where
      by : (o : Option ℕ) → AreNamed (with_call caller guard call o m)
      by None = named
      by (Some number) = named
  begun_named (OneCall guard name call) outcome m named new = by (is_busy outcome) (number_of name m)
    where
      by : (q : Bool) (o : Option ℕ) → AreNamed (if q then m else with_call nameless guard call o m)
      by true o = named
      by false None = named
      by false (Some number) = named
  begun_named _ _ m named new = named

  maps_named : (event : Event K V) (outcome : Outcome V) (fs : List MapThere) → FoundBy name_of is_same fs → FoundBy name_of is_same (maps_on event outcome fs)
  maps_named (EndMap own) Done fs named = fewer_found name_of is_same (λ f. not (is_same f.name own)) fs named
  maps_named _ _ fs named = named

pub events_keep_named : (K V : Type 0) → EventsPreserveNamed K V
events_keep_named K V e m named new =
    let b = begun e.event e.outcome m in
    maps_named e.event e.outcome (worked e m).maps (all_named (caller_of e.event) (acted_on e.event b) e.effects b (begun_named e.event e.outcome m named new))

-- as a map ends

-- one table of the list is this one
abbrev is_one : List TableId → TableId → Bool
is_one tables t = list_any (same_table t) tables

-- no table is linked that is none of these
abbrev LinkedAre : (TableId → Type 0) → List TableThere → Type 0
LinkedAre Q tables = AllByRecursion (λ u. is_linked u.stage ≡ true → Q u.table) tables

module _ {K V : Type 0} where
  -- such effects leave maps as they are, and no table linked that is taken
  pub ends_leave_maps : (acted : Option ℕ) (effects : List Effect) (m : Moment K V) → list_all is_ending effects ≡ true → (with_effects None acted effects m).maps ≡ m.maps
  ends_leave_maps acted [] m all = refl
  ends_leave_maps acted (f ∷ effects) m all =
      let two = and_parts (is_ending f) (list_all is_ending effects) all in ends_leave_maps acted effects (with_effect None acted f m) two.1 ∙ one f two.0
    where
      one : (g : Effect) → is_ending g ≡ true → (with_effect None acted g m).maps ≡ m.maps
      one (effect.Promoted t) e = absurd (cc e)
      one _ e = refl

  ends_take : (acted : Option ℕ) (Q : TableId → Type 0) (effects : List Effect) (m : Moment K V) → list_all is_ending effects ≡ true → LinkedAre Q m.tables
      → LinkedAre (λ t. Q t × (is_one (flat_map tables_taken effects) t ≡ false)) (with_effects None acted effects m).tables
  ends_take acted Q [] m all linked = all_so (λ u. is_linked u.stage ≡ true → Q u.table) (λ u. is_linked u.stage ≡ true → Q u.table × (false ≡ false)) (λ u its e. (its e, refl)) m.tables linked
  ends_take acted Q (effect.Ended n ∷ effects) m all linked = ends_take acted Q effects (with_effect None acted (effect.Ended n) m) all linked
  ends_take acted Q (effect.Taken t ∷ effects) m all linked =
      all_so (λ u. is_linked u.stage ≡ true → (Q u.table × (same_table u.table t ≡ false)) × (is_one (flat_map tables_taken effects) u.table ≡ false))
      (λ u. is_linked u.stage ≡ true → Q u.table × ((same_table u.table t || is_one (flat_map tables_taken effects) u.table) ≡ false))
      (λ u its e. (let it = its e in (it.0.0, ap (λ (q : Bool). q || is_one (flat_map tables_taken effects) u.table) it.0.1 ∙ it.1)))
      (with_effects None acted effects (with_effect None acted (effect.Taken t) m)).tables
      (ends_take acted (λ u. Q u × (same_table u t ≡ false)) effects (with_effect None acted (effect.Taken t) m) all
      (all_under (at_stage t IsTaken) (λ u. is_linked u.stage ≡ true → Q u.table) (λ u. is_linked u.stage ≡ true → Q u.table × (same_table u.table t ≡ false)) one m.tables linked))
    where
      one : (u : TableThere) → (is_linked u.stage ≡ true → Q u.table) → is_linked (at_stage t IsTaken u).stage ≡ true → Q (at_stage t IsTaken u).table × (same_table (at_stage t IsTaken u).table t ≡ false)
      one u its = by (same_table u.table t) refl
        where
          Goal : Bool → Type 0
          Goal q = is_linked (if q then record u { stage = IsTaken } else u).stage ≡ true
              → Q (if q then record u { stage = IsTaken } else u).table × (same_table (if q then record u { stage = IsTaken } else u).table t ≡ false)

          by : (q : Bool) → same_table u.table t ≡ q → Goal (same_table u.table t)
          by true is = subst Goal (sym is) (λ e. absurd (cc e))
          by false is = subst Goal (sym is) (λ e. (its e, is))
  ends_take acted Q (_ ∷ effects) m all linked = absurd (cc all)

  module _ (m w : Moment K V) (name : List ℕ) (effects : List Effect) (named : AreNamed m) (found : AreFound m) (whole : EndsNamed (number_of name m) effects m w) where
    abbrev Stands : MapThere → Type 0
    Stands f = (map_of f.name m ≡ Some f) × (map_at f.number m ≡ Some f)

    stand : AllByRecursion Stands m.maps
    stand = all_both (λ f. map_of f.name m ≡ Some f) (λ f. map_at f.number m ≡ Some f) m.maps named (recursion_from_All (λ f. map_at f.number m ≡ Some f) m.maps found)

    -- the map of this name ends by its number
    ends : (f : MapThere) → Stands f → is_same f.name name ≡ true → EndsMap f.number effects m w
    ends f its same =
        let name_is = is_same_is f.name name same in
        let here : map_of name m ≡ Some f = subst (λ (l : List ℕ). map_of l m ≡ Some f) name_is its.0 in
        let number : number_of name m ≡ Some f.number = ap (option_map (λ (g : MapThere). g.number)) here in
        subst (λ (o : Option ℕ). EndsNamed o effects m w) number whole

    -- a table from its root on is taken
    taken : (f : MapThere) → Stands f → is_same f.name name ≡ true → (t : TableId) → ((f.number == t.map) && nat_le f.first t.turn) ≡ true → list_any (λ v. same_table t v.table) m.tables ≡ true
        → is_one (flat_map tables_taken effects) t ≡ true
    taken f its same t rooted there =
        ap (λ (l : List TableId). is_one l t) (ends f its same).tables
        ∙ any_under (λ (v : TableThere). v.table) (λ v. same_table t v.table) (same_table t) (λ v e. e) (chain_of f.number m) in_chain
      where
        two : ((f.number == t.map) ≡ true) × (nat_le f.first t.turn ≡ true)
        two = and_parts (f.number == t.map) (nat_le f.first t.turn) rooted

        number_is : (a b : ℕ) → (a == b) ≡ true → a ≡ b
        number_is a b e = grind (arith, e)

        maps : (v : TableThere) → same_table t v.table ≡ true → (v.table.map == f.number) ≡ true
        maps v e = eq-eqb v.table.map f.number (sym (number_is f.number t.map two.0 ∙ (same_parts t v.table e).0))

        turns : (v : TableThere) → same_table t v.table ≡ true → nat_le (first_of f.number m) v.table.turn ≡ true
        turns v e =
            let first : first_of f.number m ≡ f.first = ap first_or its.1 in
            let less : f.first ≤ t.turn = leb-true f.first t.turn two.1 in
            let turn = (same_parts t v.table e).1 in
            le-leb (first_of f.number m) v.table.turn (omega (arith, first, less, turn))

        in_chain : list_any (λ v. same_table t v.table) (chain_of f.number m) ≡ true
        in_chain =
            any_kept (λ v. same_table t v.table) (λ v. nat_le (first_of f.number m) v.table.turn) turns (tables_of f.number m)
            (any_kept (λ v. same_table t v.table) (λ v. v.table.map == f.number) maps m.tables there)

    abbrev keep : MapThere → Bool
    keep f = not (is_same f.name name)

    -- one that is linked still has a root that stays
    roots_stay : (u : TableThere) → w.maps ≡ m.maps
        → (is_linked u.stage ≡ true → (list_any (λ v. same_table u.table v.table) m.tables ≡ true) × (is_one (flat_map tables_taken effects) u.table ≡ false))
        → is_kept w u ≡ true → (not (is_linked u.stage) || list_any (λ f. (f.number == u.table.map) && nat_le f.first u.table.turn) (filter keep w.maps)) ≡ true
    roots_stay u maps its e = by (is_linked u.stage) refl
      where
        at_root : MapThere → Bool
        at_root f = (f.number == u.table.map) && nat_le f.first u.table.turn

        by : (q : Bool) → is_linked u.stage ≡ q → (not (is_linked u.stage) || list_any at_root (filter keep w.maps)) ≡ true
        by false is = ap (λ (q : Bool). not q || list_any at_root (filter keep w.maps)) is
        by true is =
            let rooted : list_any at_root m.maps ≡ true = ap (list_any at_root) (sym maps) ∙ (ap (λ (q : Bool). not q || list_any at_root w.maps) (sym is) ∙ e) in
            ap (λ (q : Bool). not q || list_any at_root (filter keep w.maps)) is ∙ (ap (λ (l : List MapThere). list_any at_root (filter keep l)) maps
            ∙ any_kept_among at_root keep Stands (λ f at stands. one f at stands (is_same f.name name) refl) m.maps rooted stand)
          where
            one : (f : MapThere) → at_root f ≡ true → Stands f → (q : Bool) → is_same f.name name ≡ q → keep f ≡ true
            one f at stands true same = absurd (let two = its is in let gone = taken f stands same u.table at two.0 in let not_gone = two.1 in cc (gone, not_gone))
            one f at stands false same = ap not same

-- of so many numbers none is at such a place
none_at : (test : Place → Bool) (place : ℕ → Place) (n : ℕ) → places_below test place n ≡ 0 → (k : ℕ) → 1 ≤ k → k ≤ n → test (place k) ≡ false
none_at test place zero e k l u = absurd (omega (arith, l, u))
none_at test place (suc n) e k l u = by (test (place (suc n))) refl (cases_eq k (suc n)) (none_at test place n)
  where
    Below : Type 0
    Below = places_below test place n ≡ 0 → (j : ℕ) → 1 ≤ j → j ≤ n → test (place j) ≡ false

    by : (q : Bool) → test (place (suc n)) ≡ q → (k ≡ suc n) ⊎ (k ≡ suc n → ⊥) → Below → test (place k) ≡ false
    by true is at rest = absurd (let one : once_if (test (place (suc n))) ≡ 1 = ap once_if is in omega (arith, e, one))
    by false is (inl same) rest = ap (λ (j : ℕ). test (place j)) same ∙ is
    by false is (inr ne) rest = rest (omega (arith, e)) k l (omega (arith, u, ne))

module _ {K V : Type 0} where
  abbrev pub entry : Event K V → Outcome V → ℕ → List Effect → Entry K V
  entry event outcome steps effects = record { event = event; outcome = outcome; steps = steps; effects = effects }

  roots_go : (event : Event K V) (outcome : Outcome V) (steps : ℕ) (effects : List Effect) (m : Moment K V) → AreNamed m → AreFound m → list_all (may_do event m) effects ≡ true
      → IsWhole event outcome effects m (worked (entry event outcome steps effects) m)
      → AllByRecursion (λ u. is_kept (worked (entry event outcome steps effects) m) u ≡ true → is_kept (after (entry event outcome steps effects) m) u ≡ true)
      (worked (entry event outcome steps effects) m).tables
  roots_go (EndMap name) Done steps effects m named found may whole =
      all_so (λ u. is_linked u.stage ≡ true → Its u.table × (is_one (flat_map tables_taken effects) u.table ≡ false)) (λ u. is_kept w u ≡ true → is_kept (after (entry (EndMap name) Done steps effects) m) u ≡ true)
      (λ u its e. roots_stay m w name effects named found whole u (ends_leave_maps (number_of name m) effects m may) its e) w.tables
      (ends_take (number_of name m) Its effects m may
      (all_so (λ u. Its u.table) (λ u. is_linked u.stage ≡ true → Its u.table) (λ u e linked. e) m.tables (each_among (λ u v. same_table u.table v.table) (λ u. same_itself u.table) m.tables)))
    where
      w : Moment K V
      w = with_effects None (number_of name m) effects m

      Its : TableId → Type 0
      Its t = list_any (λ v. same_table t v.table) m.tables ≡ true
  roots_go event outcome steps effects m named found may whole =
      each_is (λ u. is_kept (worked (entry event outcome steps effects) m) u ≡ true → is_kept (after (entry event outcome steps effects) m) u ≡ true) (λ u e. e)
      (worked (entry event outcome steps effects) m).tables

  pairs_go : (event : Event K V) (outcome : Outcome V) (steps : ℕ) (effects : List Effect) (m : Moment K V) → AreNamed m → AreFound m → list_all (may_do event m) effects ≡ true
      → IsWhole event outcome effects m (worked (entry event outcome steps effects) m) → PairsArePlaced (worked (entry event outcome steps effects) m)
      → StoredAreSomewhere (worked (entry event outcome steps effects) m) → StoredAreSomewhere (after (entry event outcome steps effects) m)
  pairs_go (EndMap name) Done steps effects m named found may whole placed h =
      others_keep_somewhere K V w (after (entry (EndMap name) Done steps effects) m) h (λ n. refl) refl stays
    where
      w : Moment K V
      w = with_effects None (number_of name m) effects m

      maps : w.maps ≡ m.maps
      maps = ends_leave_maps (number_of name m) effects m may

      stays : (n number : ℕ) → 1 ≤ n → w.place n ≡ InMap number → list_any (λ (f : MapThere). f.number == number) w.maps ≡ true
          → list_any (λ (f : MapThere). f.number == number) (filter (λ f. not (is_same f.name name)) w.maps) ≡ true
      stays n number l is there =
          ap (λ (fs : List MapThere). list_any (λ (f : MapThere). f.number == number) (filter (λ f. not (is_same f.name name)) fs)) maps
          ∙ any_kept_among (λ (f : MapThere). f.number == number) (λ f. not (is_same f.name name)) (Stands m w name effects named found whole)
          (λ f at stands. one f at stands (is_same f.name name) refl) m.maps (ap (list_any (λ (f : MapThere). f.number == number)) (sym maps) ∙ there) (stand m w name effects named found whole)
        where
          one : (f : MapThere) → (f.number == number) ≡ true → Stands m w name effects named found whole f → (q : Bool) → is_same f.name name ≡ q → not (is_same f.name name) ≡ true
          one f at stands true same = absurd (
              let below : n ≤ length w.stored = placed.stored n (ap is_unborn is) in
              let none = none_at (is_in_map f.number) w.place (length w.stored) (ends m w name effects named found whole f stands same).all n l below in
              let there : is_in_map f.number (w.place n) ≡ true = ap (is_in_map f.number) is ∙ at in
              cc (none, there)
              )
          one f at stands false same = ap not same
  pairs_go event outcome steps effects m named found may whole placed h =
      others_keep_somewhere K V (worked (entry event outcome steps effects) m) (after (entry event outcome steps effects) m) h (λ n. refl) refl (λ n number l is e. e)

pub events_keep_roots : (K V : Type 0) → EventsPreserveRoots K V
events_keep_roots K V e m ends = roots_go e.event e.outcome e.steps e.effects m ends.named ends.found ends.may ends.whole

pub events_keep_somewhere : (K V : Type 0) → EventsPreserveSomewhere K V
events_keep_somewhere K V e m ends placed h = pairs_go e.event e.outcome e.steps e.effects m ends.named ends.found ends.may ends.whole placed h

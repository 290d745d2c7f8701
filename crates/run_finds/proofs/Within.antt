-- Effects that find what the promise `life` asks leave tables, pairs and calls within what their maps have had.
use Rattle.std.specs.Prelude.{◌≡◌, ◌≢◌, ℕ, ◌+◌, ◌<◌, ◌≤◌, ◌==◌, nat_le, nat_lt, Bool, true, false, cond, ◌&&◌, List, [], ◌∷◌, ◌++◌, length, filter, map, Option, Some, None, if◌then◌else◌}
use Rattle.std.specs.List.{AllByRecursion, list_any}
use Rattle.std.proofs.Common.{refl, ap, sym, subst, ◌∙◌, arith, inl, inr, length-append, le-leb}
use Rattle.std.proofs.lemmas.Bool.{and_from, and_parts, cases_eq, eq-eqb, ne_eqb}
use Rattle.std.proofs.lemmas.List.Elements.{filter-append}
use Rattle.run_executor.specs.Given.RunsSame.{is_same}
use Rattle.run_executor.specs.Given.RunsDeclared.shapes.TableShape.{TableShape}
use Rattle.run_executor.specs.Given.RunsDeclared.effect.Effect.{Effect}
use Rattle.run_executor.specs.Given.RunsDeclared.effect.Effect.TheVariants as effect
use Rattle.run_executor.specs.Given.RunsDeclared.effect.Spot.{Spot}
use Rattle.run_executor.specs.Given.RunsDeclared.effect.TableId.{TableId}
use Rattle.run_executor.specs.Given.RunsDeclared.effect.Thing.TheVariants.{APair, ATable}
use Rattle.run_executor.specs.Given.SchedulesEffects.{in_map, calls_by, born_by, later, spot_by, is_chunked, at_stage, promoted, call_by, with_effect}
use Rattle.run_executor.specs.Given.SchedulesEntry.{ByCall, acting}
use Rattle.run_executor.specs.Given.SchedulesGrowing.{only_looks}
use Rattle.run_executor.specs.Given.SchedulesLists.{is_in, put, without_one}
use Rattle.run_executor.specs.Given.SchedulesLives.{MayCopy, MayDefer, IsMapsFirst, CallFinds, EventFinds, Finds}
use Rattle.run_executor.specs.Given.SchedulesMoment.{Place, InMap, UnderWay, MapThere, Stage, IsRetired, IsReclaimed, IsTaken, TableThere, Moment}
use Rattle.run_executor.specs.Given.SchedulesTerms.{Terms}
use Rattle.run_executor.specs.Given.SchedulesThings.{same_table, same_thing}
use Rattle.run_executor.specs.Given.SchedulesViews.{is_in_map, call_of, map_at, first_or, first_of, grows_in_chunks, is_linked, is_stage, is_place, tables_of}
use Rattle.run_executor.proofs.Given.FollowsAlike.{put_here, put_elsewhere}
use Rattle.run_executor.proofs.Given.FollowsCalls.{IsOfSame, changed_same, changed}
use Rattle.run_executor.proofs.Given.OthersLeads.{same_parts}
use Rattle.run_executor.proofs.Given.SpotsElsewhere.{stored_grows}
use Rattle.run_executor.specs.Given.MomentsNumbers.{AreFound}
use Rattle.run_finds.specs.Bounded.{TablesApart}
use Rattle.run_finds.specs.Life.{StoresOne}
use Rattle.run_finds.specs.Tables.{FindsTables}
use Rattle.run_finds.specs.TornDown.{FindsItsMap}
use Rattle.run_finds.specs.Waiting.{is_unborn, once_if, owed_in, FindsPlaced}
use Rattle.run_finds.specs.Within.{many_of, HasItsMap, LiesNext, AllIsInOrder, ActsOn}
use Rattle.run_finds.proofs.Apart.{apart_append, apart_under}
use Rattle.run_finds.proofs.Behind.{none_links, none_promotes, none_copies, none_defers, all_lie, event_numbers, event_onward, event_next, call_numbers, call_onward, call_next}
use Rattle.run_finds.proofs.Endings.{number_same, one_named, numbers_stay}
use Rattle.run_finds.proofs.Life.{life_finds_placed}
use Rattle.run_finds.proofs.Lists.{one_of_them, any_so, all_so, all_both, each_is}
use Rattle.run_finds.proofs.Owed.{due_keeps, owed_append, owed_without, owed_there}
use Rattle.run_finds.proofs.Placed.{keeps_owed, its_same, effects_keep_placed}
use Rattle.run_finds.proofs.Somewhere.{is_storing, none_stored, leads, maps_there, effects_keep_somewhere}
use Rattle.run_finds.proofs.Tables.{all_under, all_append, effects_keep_tables}
use Rattle.run_finds.proofs.Grown.{found_of, found_any, any_found, only_one, many_grow, born_same, linked_as, comes_on, is_moving, spot_same, stores_none}
use Rattle.run_executor.proofs.Given.General.{equal_so as number_is}
use Rattle.run_executor.proofs.Given.MomentsNumbers.{stage_same}

module _ {K V : Type 0} (terms : Terms) (everything : Bool) (moments : List (Moment K V)) (caller : Option (List ℕ)) (acted : Option ℕ) (m : Moment K V) (h : AllIsInOrder m) (on : ActsOn caller acted m) where
  abbrev many : ℕ → ℕ
  many of = many_of of m

  -- the effect is of this call, which finds what it must
  record OfCall (f : Effect) : Type 0 where
    pub own : List ℕ
    pub c : UnderWay K V
    pub caller_is : caller ≡ Some own
    pub found : call_of own m ≡ Some c
    pub acts : acted ≡ Some c.map
    pub its : HasItsMap m c
    pub finds : CallFinds terms moments m f c

  -- or of none
  data Whose (f : Effect) : Type 0 where
    ACalls : OfCall f → Whose f
    NoCalls : caller ≡ None → EventFinds acted everything m f → Whose f

  whose : (f : Effect) → Finds terms caller acted everything moments m f → Whose f
  whose f finds = by caller refl finds
    where
      by : (o : Option (List ℕ)) → caller ≡ o → Finds terms o acted everything moments m f → Whose f
      by None is its = NoCalls is its
      by (Some own) is its = of (call_of own m) refl its
        where
          of : (d : Option (UnderWay K V)) → call_of own m ≡ d → ByCall (λ (c : UnderWay K V). (only_looks c.call ≡ false) × CallFinds terms moments m f c) d → Whose f
          of None found none = absurd none
          of (Some c) found all = ACalls (record {
            own = own;
            c = c;
            caller_is = is;
            found = found;
            acts = on own c is found;
            its = (found_of (λ (d : UnderWay K V). is_same d.caller own) (HasItsMap m) m.calls c h.within.calls found).1;
            finds = all.1;
          })

  -- tables that are there have turns that their maps have had
  below_many : (test : Stage → Bool) (t : TableId) → is_stage test t m ≡ true → t.turn < many t.map
  below_many test t any =
      let it = one_of_them (λ u. same_table u.table t && test u.stage) (λ u. u.table.turn < many u.table.map) m.tables any h.within.tables in
      let parts = same_parts it.0.table t (and_parts (same_table it.0.table t) (test it.0.stage) it.1).0 in
      subst (λ (q : ℕ). t.turn < many q) parts.0 (subst (λ (q : ℕ). q < many it.0.table.map) parts.1 it.2)

  pub place_below : (test : Stage → Bool) (of : ℕ) (s : Spot) → is_place test of s m ≡ true → s.turn < many of
  place_below test of s any =
      let t : TableId = record { map = of; turn = s.turn } in
      let it = one_of_them (λ u. same_table u.table t && test u.stage && nat_lt s.place u.shape.len) (λ u. u.table.turn < many u.table.map) m.tables any h.within.tables in
      let parts = same_parts it.0.table t (and_parts (same_table it.0.table t) (test it.0.stage) (and_parts (same_table it.0.table t && test it.0.stage) (nat_lt s.place it.0.shape.len) it.1).0).0 in
      subst (λ (q : ℕ). s.turn < many q) parts.0 (subst (λ (q : ℕ). q < many it.0.table.map) parts.1 it.2)

  -- a table that is linked is the next one of a map that is there
  record LinksNext (t : TableId) : Type 0 where
    pub there : list_any (λ (f : MapThere). f.number == t.map) m.maps ≡ true
    pub turn : t.turn ≡ many t.map

  links_next : (t : TableId) (shape : TableShape) → Whose (effect.Linked t shape) → LinksNext t
  links_next t shape (ACalls b) =
      let map_is = b.its.table t b.finds.0 in
      record { there = subst (λ (q : ℕ). list_any (λ (f : MapThere). f.number == q) m.maps ≡ true) (sym map_is) b.its.there; turn = b.finds.1 ∙ ap many (sym map_is) }
  links_next t shape (NoCalls none finds) = by acted finds
    where
      by : (o : Option ℕ) → EventFinds o everything m (effect.Linked t shape) → LinksNext t
      by None its = absurd its
      by (Some of) its = first (map_at of m) refl its.1
        where
          first : (o : Option MapThere) → map_at of m ≡ o → IsMapsFirst o t shape → LinksNext t
          first None is no_map = absurd no_map
          first (Some f) is its_first =
              let number = number_is f.number of (found_of (λ (g : MapThere). g.number == of) (λ g. Unit {0}) m.maps f (each_is (λ g. Unit {0}) (λ g. tt) m.maps) is).0 in
              let map_is : t.map ≡ of = its_first.0 ∙ number in
              record {
                there = subst (λ (q : ℕ). list_any (λ (g : MapThere). g.number == q) m.maps ≡ true) (sym map_is) (found_any (λ (g : MapThere). g.number == of) m.maps f is);
                turn = its_first.1 ∙ (sym (ap length its.0) ∙ ap many (sym map_is));
              }

  finds_tables : (f : Effect) → Whose f → FindsTables caller m f
  finds_tables (effect.Linked t shape) b =
      let next = links_next t shape b in
      any_so (λ (f : MapThere). f.number == t.map) (λ f. (f.number == t.map) && nat_le f.first t.turn) (λ f. f.first ≤ many f.number)
      (λ f e l. and_from (f.number == t.map) (nat_le f.first t.turn) e (le-leb f.first t.turn (
      let turn = next.turn in let here : f.first ≤ many t.map = subst (λ (q : ℕ). f.first ≤ many q) (number_is f.number t.map e) l in omega (arith, here, turn)
      ))) m.maps next.there h.within.roots
  finds_tables (effect.Promoted t) (NoCalls none finds) = absurd (none_promotes everything m t acted finds)
  finds_tables (effect.Promoted t) (ACalls b) =
      let some = any_found (λ (f : MapThere). f.number == b.c.map) m.maps b.its.there in
      let first : first_of b.c.map m ≡ some.0.first = ap first_or some.1 in
      let less = comes_on (grows_in_chunks (map_at b.c.map m)) (first_of b.c.map m) t.turn (tables_of b.c.map m) b.finds.2 in (
        subst (λ (o : Option (List ℕ)). ByCall (λ (c : UnderWay K V). Unit {0}) (acting o m)) (sym b.caller_is) (subst (ByCall (λ (c : UnderWay K V). Unit {0})) (sym b.found) tt),
        h.waits.found,
        some.0,
        subst (λ (q : ℕ). map_at q m ≡ Some some.0) (sym b.finds.0) some.1,
        omega (arith, first, less),
      )
  finds_tables (effect.Deferred n t) (NoCalls none finds) = absurd (none_defers everything m n t acted finds)
  finds_tables (effect.Deferred n t) (ACalls b) =
      let may : MayDefer b.c.map m n t = b.finds.1 in
      let owed = owed_there n b.c.owes b.finds.0 in
      let its = b.its.owes n owed.0 owed.1 in
      let lies = subst (λ (q : ℕ). (m.spot n).turn < many q) (its.2 ∙ sym may.0) (h.within.spots n its.0 its.1) in
      let turn = may.1 in
      (may.3, omega (arith, lies, turn))
  finds_tables _ b = tt

  finds_map : (o : Option ℕ) → acted ≡ o → (f : Effect) → Whose f → FindsItsMap o m f
  finds_map None is (effect.Stored n s) (ACalls b) = absurd (let two : None ≡ Some b.c.map = sym is ∙ b.acts in cc two)
  finds_map (Some of) is (effect.Stored n s) (ACalls b) =
      let two : Some of ≡ Some b.c.map = sym is ∙ b.acts in let one : of ≡ b.c.map = cc two in
      subst (λ (q : ℕ). list_any (λ (f : MapThere). f.number == q) m.maps ≡ true) (sym one) b.its.there
  finds_map o is (effect.Stored n s) (NoCalls none finds) = absurd (none_links everything m n s acted finds)
  finds_map None is _ b = tt
  finds_map (Some of) is _ b = tt

  -- what the moment has after the effect

  abbrev then_at : Effect → Moment K V
  then_at f = with_effect caller acted f m

  grown_tables : (f : Effect) → AllByRecursion (λ u. u.table.turn < many_of u.table.map (then_at f)) m.tables
  grown_tables f = all_so (λ u. u.table.turn < many u.table.map) (λ u. u.table.turn < many_of u.table.map (then_at f))
      (λ u l. (let more = many_grow caller acted m f u.table.map in omega (arith, l, more))) m.tables h.within.tables

  staged_tables : (f : Effect) (t : TableId) (to : Stage) → AllByRecursion (λ u. u.table.turn < many_of u.table.map (then_at f)) (map (at_stage t to) m.tables)
  staged_tables f t to =
      all_under (at_stage t to) (λ u. u.table.turn < many_of u.table.map (then_at f)) (λ u. u.table.turn < many_of u.table.map (then_at f))
      (λ u l. subst (λ (x : TableId). x.turn < many_of x.map (then_at f)) (sym (stage_same t to u)) l) m.tables (grown_tables f)

  tables_within : (f : Effect) → Whose f → AllByRecursion (λ u. u.table.turn < many_of u.table.map (then_at f)) (then_at f).tables
  tables_within (effect.Linked t shape) b =
      all_append (λ u. u.table.turn < many_of u.table.map (then_at (effect.Linked t shape))) m.tables (linked_as t shape) (grown_tables (effect.Linked t shape)) (
      let turn = (links_next t shape b).turn in
      let one : length (filter (λ (u : TableThere). u.table.map == t.map) (linked_as t shape ∷ [])) ≡ 1 = ap (λ (q : Bool). length (cond q (linked_as t shape ∷ []) [])) (eq-eqb t.map t.map refl) in
      let parts : many_of t.map (then_at (effect.Linked t shape)) ≡ length (tables_of t.map m ++ filter (λ (u : TableThere). u.table.map == t.map) (linked_as t shape ∷ [])) =
      ap length (filter-append (λ (u : TableThere). u.table.map == t.map) m.tables (linked_as t shape ∷ [])) in
      let sum = length-append (tables_of t.map m) (filter (λ (u : TableThere). u.table.map == t.map) (linked_as t shape ∷ [])) in
      omega (arith, turn, one, parts, sum)
      )
  tables_within (effect.Retired (ATable t)) b = staged_tables (effect.Retired (ATable t)) t IsRetired
  tables_within (effect.Retired (APair n)) b = grown_tables (effect.Retired (APair n))
  tables_within (effect.Reclaimed (ATable t)) b = staged_tables (effect.Reclaimed (ATable t)) t IsReclaimed
  tables_within (effect.Reclaimed (APair n)) b = grown_tables (effect.Reclaimed (APair n))
  tables_within (effect.Taken t) b = staged_tables (effect.Taken t) t IsTaken
  tables_within f b = grown_tables f

  apart_within : (f : Effect) → Whose f → TablesApart (then_at f).tables
  apart_within (effect.Linked t shape) b =
      apart_append m.tables (linked_as t shape) h.within.apart
      (all_so (λ u. u.table.turn < many u.table.map) (λ u. same_table t u.table ≡ false) (λ u l. none u l (same_table t u.table) refl) m.tables h.within.tables)
    where
      none : (u : TableThere) → u.table.turn < many u.table.map → (q : Bool) → same_table t u.table ≡ q → same_table t u.table ≡ false
      none u l true is =
          let parts = same_parts t u.table is in
          let turn = (links_next t shape b).turn in
          let here : many t.map ≡ many u.table.map = ap many parts.0 in
          absurd (omega (arith, l, turn, here, parts))
      none u l false is = is
  apart_within (effect.Retired (ATable t)) b = apart_under (at_stage t IsRetired) (stage_same t IsRetired) m.tables h.within.apart
  apart_within (effect.Retired (APair n)) b = h.within.apart
  apart_within (effect.Reclaimed (ATable t)) b = apart_under (at_stage t IsReclaimed) (stage_same t IsReclaimed) m.tables h.within.apart
  apart_within (effect.Reclaimed (APair n)) b = h.within.apart
  apart_within (effect.Taken t) b = apart_under (at_stage t IsTaken) (stage_same t IsTaken) m.tables h.within.apart
  apart_within f b = h.within.apart

  grown_roots : (f : Effect) → AllByRecursion (λ g. g.first ≤ many_of g.number (then_at f)) m.maps
  grown_roots f = all_so (λ g. g.first ≤ many g.number) (λ g. g.first ≤ many_of g.number (then_at f))
      (λ g l. (let more = many_grow caller acted m f g.number in omega (arith, l, more))) m.maps h.within.roots

  roots_within : (f : Effect) → Whose f → AllByRecursion (λ g. g.first ≤ many_of g.number (then_at f)) (then_at f).maps
  roots_within (effect.Promoted t) (NoCalls none finds) = absurd (none_promotes everything m t acted finds)
  roots_within (effect.Promoted t) (ACalls b) = all_under (promoted t) (λ g. g.first ≤ many g.number) (λ g. g.first ≤ many g.number) one m.maps h.within.roots
    where
      one : (g : MapThere) → g.first ≤ many g.number → (promoted t g).first ≤ many (promoted t g).number
      one g l = by (g.number == t.map) refl
        where
          Goal : Bool → Type 0
          Goal q = (if q then record g { first = t.turn } else g).first ≤ many (if q then record g { first = t.turn } else g).number

          by : (q : Bool) → (g.number == t.map) ≡ q → Goal (g.number == t.map)
          by true is = subst Goal (sym is) (
              let below = below_many is_linked t b.finds.1 in
              let here : t.turn < many g.number = subst (λ (q : ℕ). t.turn < many q) (sym (number_is g.number t.map is)) below in
              omega (arith, here)
              )
          by false is = subst Goal (sym is) l
  roots_within f b = grown_roots f

  made_within : (f : Effect) → AllByRecursion (λ g. g.number < m.made) (then_at f).maps
  made_within (effect.Promoted t) = all_under (promoted t) (λ g. g.number < m.made) (λ g. g.number < m.made) (λ g l. subst (λ (q : ℕ). q < m.made) (sym (number_same t g)) l) m.maps h.within.made
  made_within f = h.within.made

  -- pairs

  stored_born : (k : ℕ) → k ≤ length m.stored → (f : Effect) → FindsPlaced caller m f → ((then_at f).born k).map ≡ (m.born k).map
  stored_born k l (effect.Stored n s) placed = by acted
    where
      apart : k ≢ n
      apart e = let next = placed.0 in omega (arith, l, e, next)

      by : (o : Option ℕ) → (born_by o (effect.Stored n s) m.born k).map ≡ (m.born k).map
      by None = refl
      by (Some of) = ap (λ (t : TableId). t.map) (put_elsewhere n (record { map = of; turn = s.turn }) m.born k apart)
  stored_born k l (effect.Retired x) placed = ap (λ (g : ℕ → TableId). (g k).map) (born_same acted (effect.Retired x) m.born refl)
  stored_born k l (effect.Reclaimed x) placed = ap (λ (g : ℕ → TableId). (g k).map) (born_same acted (effect.Reclaimed x) m.born refl)
  stored_born k l f placed = ap (λ (g : ℕ → TableId). (g k).map) (born_same acted f m.born refl)

  -- one that stays where it lies
  lies_within : (f : Effect) (k : ℕ) → 1 ≤ k → k ≤ length m.stored → FindsPlaced caller m f → (then_at f).spot k ≡ m.spot k → ((then_at f).spot k).turn < many_of ((then_at f).born k).map (then_at f)
  lies_within f k l u placed same =
      let was = h.within.spots k l u in
      let more = many_grow caller acted m f (m.born k).map in
      subst (λ (q : ℕ). ((then_at f).spot k).turn < many_of q (then_at f)) (sym (stored_born k u f placed))
      (subst (λ (x : Spot). x.turn < many_of (m.born k).map (then_at f)) (sym same) (omega (arith, was, more)))

  still_lies : (f : Effect) → is_moving f ≡ false → FindsPlaced caller m f → (k : ℕ) → 1 ≤ k → k ≤ length (then_at f).stored → ((then_at f).spot k).turn < many_of ((then_at f).born k).map (then_at f)
  still_lies f stays placed k l u =
      lies_within f k l (subst (λ (xs : List (K × V)). k ≤ length xs) (none_stored (acting caller m) f m.stored (stores_none f stays)) u) placed
      (ap (λ (g : ℕ → Spot). g k) (spot_same (is_chunked acted m) m.place m.copy f m.spot stays))

  spots_within : (f : Effect) → Whose f → FindsPlaced caller m f → (k : ℕ) → 1 ≤ k → k ≤ length (then_at f).stored → ((then_at f).spot k).turn < many_of ((then_at f).born k).map (then_at f)
  spots_within (effect.Stored n s) (NoCalls none finds) placed k l u = absurd (none_links everything m n s acted finds)
  spots_within (effect.Stored n s) (ACalls b) placed k l u = elim (cases_eq k n) as (λ _. (put n s m.spot k).turn < many_of ((then_at (effect.Stored n s)).born k).map m) [
    | inl e ↦ subst (λ (o : Option ℕ). (put n s m.spot k).turn < many (born_by o (effect.Stored n s) m.born k).map) (sym b.acts)
        (subst (λ (x : Spot). x.turn < many (put n (record { map = b.c.map; turn = s.turn }) m.born k).map) (sym (put_here n s m.spot k e))
        (subst (λ (t : TableId). s.turn < many t.map) (sym (put_here n (record { map = b.c.map; turn = s.turn }) m.born k e)) (place_below is_linked b.c.map s b.finds.2)))
    | inr ne ↦ lies_within (effect.Stored n s) k l (let next = placed.0 in let last = placed.1 in omega (arith, u, ne, next, last)) placed (put_elsewhere n s m.spot k ne)
  ]
  spots_within (effect.Copied n s) (NoCalls none finds) placed k l u = absurd (none_copies everything m n s acted finds)
  spots_within (effect.Copied n s) (ACalls b) placed k l u = by (is_chunked acted m) refl
    where
      stored : k ≤ length m.stored
      stored = subst (λ (xs : List (K × V)). k ≤ length xs) (none_stored (acting caller m) (effect.Copied n s) m.stored refl) u

      Goal : Bool → Type 0
      Goal q = (spot_by q m.place m.copy (effect.Copied n s) m.spot k).turn < many ((then_at (effect.Copied n s)).born k).map

      was : (m.spot k).turn < many ((then_at (effect.Copied n s)).born k).map
      was = subst (λ (q : ℕ). (m.spot k).turn < many q) (sym (stored_born k stored (effect.Copied n s) placed)) (h.within.spots k l stored)

      -- it lies where its copy lies then, which is in the same map
      copied : k ≡ n → is_chunked acted m ≡ true → (later (m.spot n) s).turn < many ((then_at (effect.Copied n s)).born k).map
      copied e chunks = one (nat_lt (m.spot n).turn s.turn)
        where
          may : MayCopy true b.c.map m n s
          may = subst (λ (q : Bool). MayCopy q b.c.map m n s) (ap (λ (o : Option ℕ). is_chunked o m) (sym b.acts) ∙ chunks) b.finds

          here : many b.c.map ≡ many ((then_at (effect.Copied n s)).born k).map
          here = ap many (sym (stored_born k stored (effect.Copied n s) placed ∙ (ap (λ (x : ℕ). (m.born x).map) e ∙ (h.within.maps n b.c.map may.0).1)))

          one : (q : Bool) → (if q then s else m.spot n).turn < many ((then_at (effect.Copied n s)).born k).map
          one true = subst (λ (x : ℕ). s.turn < x) here (place_below is_linked b.c.map s may.3)
          one false = subst (λ (x : ℕ). (m.spot x).turn < many ((then_at (effect.Copied n s)).born k).map) e was

      by : (q : Bool) → is_chunked acted m ≡ q → Goal (is_chunked acted m)
      by false is = subst Goal (sym is) was
      by true is = subst Goal (sym is) (elim (cases_eq k n) as (λ _. Goal true) [
        | inl e ↦ subst (λ (x : Spot). x.turn < many ((then_at (effect.Copied n s)).born k).map) (sym (put_here n (later (m.spot n) s) m.spot k e)) (copied e is)
        | inr ne ↦ subst (λ (x : Spot). x.turn < many ((then_at (effect.Copied n s)).born k).map) (sym (put_elsewhere n (later (m.spot n) s) m.spot k ne)) was
      ])
  spots_within (effect.Promoted t) (NoCalls none finds) placed k l u = absurd (none_promotes everything m t acted finds)
  spots_within (effect.Promoted t) (ACalls b) placed k l u = by (is_chunked acted m)
    where
      stored : k ≤ length m.stored
      stored = subst (λ (xs : List (K × V)). k ≤ length xs) (none_stored (acting caller m) (effect.Promoted t) m.stored refl) u

      was : (m.spot k).turn < many ((then_at (effect.Promoted t)).born k).map
      was = subst (λ (q : ℕ). (m.spot k).turn < many q) (sym (stored_born k stored (effect.Promoted t) placed)) (h.within.spots k l stored)

      there : (p : Place) → m.place k ≡ p → is_in_map t.map p ≡ true → ((m.copy k).turn == t.turn) ≡ true → (m.copy k).turn < many ((then_at (effect.Promoted t)).born k).map
      there (InMap of) is in_it same =
          let of_is : t.map ≡ of = number_is t.map of in_it in
          let born : ((then_at (effect.Promoted t)).born k).map ≡ t.map = stored_born k stored (effect.Promoted t) placed ∙ ((h.within.maps k of is).1 ∙ sym of_is) in
          subst (λ (q : ℕ). q < many ((then_at (effect.Promoted t)).born k).map) (sym (number_is (m.copy k).turn t.turn same))
          (subst (λ (q : ℕ). t.turn < many q) (sym born) (below_many is_linked t b.finds.1))
      there _ is in_it same = absurd (cc in_it)

      by : (q : Bool) → (spot_by q m.place m.copy (effect.Promoted t) m.spot k).turn < many ((then_at (effect.Promoted t)).born k).map
      by true = was
      by false = one (is_in_map t.map (m.place k)) refl ((m.copy k).turn == t.turn) refl
        where
          Goal : Bool → Type 0
          Goal q = (if q then m.copy k else m.spot k).turn < many ((then_at (effect.Promoted t)).born k).map

          one : (x : Bool) → is_in_map t.map (m.place k) ≡ x → (y : Bool) → ((m.copy k).turn == t.turn) ≡ y → Goal (is_in_map t.map (m.place k) && ((m.copy k).turn == t.turn))
          one true in_it true same = subst Goal (sym (and_from (is_in_map t.map (m.place k)) ((m.copy k).turn == t.turn) in_it same)) (there (m.place k) refl in_it same)
          one true in_it false other = subst Goal (sym (ap (λ (x : Bool). x && ((m.copy k).turn == t.turn)) in_it ∙ other)) was
          one false out y e = subst Goal (sym (ap (λ (x : Bool). x && ((m.copy k).turn == t.turn)) out)) was
  spots_within (effect.Retired x) b placed k l u = still_lies (effect.Retired x) refl placed k l u
  spots_within (effect.Reclaimed x) b placed k l u = still_lies (effect.Reclaimed x) refl placed k l u
  spots_within f b placed k l u = still_lies f refl placed k l u

  maps_stay : (f : Effect) → is_storing f ≡ false → (k of : ℕ) → (then_at f).place k ≡ InMap of → (1 ≤ k) × (((then_at f).born k).map ≡ of)
  maps_stay f stores k of is =
      let was = h.within.maps k of ((leads acted m f stores).in_map k of is) in (was.0, ap (λ (g : ℕ → TableId). (g k).map) (born_same acted f m.born stores) ∙ was.1)

  maps_within : (f : Effect) → Whose f → FindsPlaced caller m f → (k of : ℕ) → (then_at f).place k ≡ InMap of → (1 ≤ k) × (((then_at f).born k).map ≡ of)
  maps_within (effect.Stored n s) (NoCalls none finds) placed k of is = absurd (none_links everything m n s acted finds)
  maps_within (effect.Stored n s) (ACalls b) placed k of is =
      subst (λ (o : Option ℕ). put n (in_map o) m.place k ≡ InMap of → (1 ≤ k) × ((born_by o (effect.Stored n s) m.born k).map ≡ of)) (sym b.acts) its is
    where
      its : put n (InMap b.c.map) m.place k ≡ InMap of → (1 ≤ k) × ((put n (record { map = b.c.map; turn = s.turn }) m.born k).map ≡ of)
      its at = elim (cases_eq k n) as (λ _. (1 ≤ k) × ((put n (record { map = b.c.map; turn = s.turn }) m.born k).map ≡ of)) [
        | inl e ↦ (
          (let next = placed.0 in omega (arith, e, next)),
          ap (λ (t : TableId). t.map) (put_here n (record { map = b.c.map; turn = s.turn }) m.born k e)
              ∙ (let two : InMap b.c.map ≡ InMap of = sym (put_here n (InMap b.c.map) m.place k e) ∙ at in let one : b.c.map ≡ of = cc two in one),
        )
        | inr ne ↦
            (let was = h.within.maps k of (sym (put_elsewhere n (InMap b.c.map) m.place k ne) ∙ at) in
            (was.0, ap (λ (t : TableId). t.map) (put_elsewhere n (record { map = b.c.map; turn = s.turn }) m.born k ne) ∙ was.1))
      ]
  maps_within (effect.Retired x) b placed k of is = maps_stay (effect.Retired x) refl k of is
  maps_within (effect.Reclaimed x) b placed k of is = maps_stay (effect.Reclaimed x) refl k of is
  maps_within f b placed k of is = maps_stay f refl k of is

  -- calls

  more_stored : (f : Effect) (k : ℕ) → k ≤ length m.stored → k ≤ length (then_at f).stored
  more_stored f k l = let more : length m.stored ≤ length (then_at f).stored = stored_grows caller acted (f ∷ []) m in omega (arith, l, more)

  same_call : (f : Effect) (c : UnderWay K V) → FindsPlaced caller m f → HasItsMap m c → HasItsMap (then_at f) c
  same_call f c placed its = record {
    there = maps_there c.map f m.maps its.there;
    table = its.table;
    owes = λ n k e. (let it = its.owes n k e in (it.0, more_stored f n it.1, stored_born n it.1 f placed ∙ it.2));
  }

  table_within : (f : Effect) (c : UnderWay K V) → HasItsMap m c → CallFinds terms moments m f c → (t : TableId) → (call_by m f c).table ≡ Some t → t.map ≡ c.map
  table_within (effect.TableMade u) c its finds t is = let one : u ≡ t = cc is in ap (λ (x : TableId). x.map) (sym one) ∙ finds.2
  table_within (effect.TableGivenUp u) c its finds t is = absurd (cc is)
  table_within (effect.Linked u shape) c its finds t is = absurd (cc is)
  table_within (effect.Stored n s) c its finds t is = its.table t (sym (due_keeps c.call c c.replacing n).1 ∙ is)
  table_within (effect.Removed p) c its finds t is = its.table t (sym (due_keeps c.call c (Some p) (length m.stored + 1)).1 ∙ is)
  table_within _ c its finds t is = its.table t is

  -- a pair that a call takes out was stored in its map, and what it hands over it owes no more often than before
  module _ (f : Effect) (c : UnderWay K V) (its : HasItsMap m c) where
    abbrev Owes : ℕ → Type 0
    Owes n = (1 ≤ n) × (n ≤ length m.stored) × ((m.born n).map ≡ c.map)

    takes_its : (p : ℕ) → m.place p ≡ InMap c.map → (n k : ℕ) → owed_in n (c.owes ++ APair p ∷ []) ≡ 1 + k → Owes n
    takes_its p there n k e = elim (cases_eq n p) as (λ _. Owes n) [
      | inl same ↦
          (let at : m.place n ≡ InMap c.map = ap m.place same ∙ there in let was = h.within.maps n c.map at in
          (was.0, h.waits.placed.stored n (ap is_unborn at), was.1))
      | inr ne ↦
          (let sum = owed_append n c.owes (APair p ∷ []) in let none : once_if (n == p) ≡ 0 = ap once_if (ne_eqb n p ne) in
          its.owes n k (omega (arith, e, sum, none)))
    ]

    hands_its : (p : ℕ) → is_in same_thing (APair p) c.owes ≡ true → (n k : ℕ) → owed_in n (without_one same_thing (APair p) c.owes) ≡ 1 + k → Owes n
    hands_its p there n k e = let less = owed_without p n c.owes there in its.owes n (k + once_if (same_thing (APair n) (APair p))) (omega (arith, e, less))

    keeps_its : keeps_owed f ≡ true → (n k : ℕ) → owed_in n (call_by m f c).owes ≡ 1 + k → Owes n
    keeps_its keeps n k e = its.owes n k (sym (its_same m f c n keeps) ∙ e)

  owed_within : (f : Effect) (c : UnderWay K V) (its : HasItsMap m c) → CallFinds terms moments m f c → (n k : ℕ) → owed_in n (call_by m f c).owes ≡ 1 + k → (1 ≤ n) × (n ≤ length m.stored) × ((m.born n).map ≡ c.map)
  owed_within (effect.Replaced p) c its finds n k e = takes_its (effect.Replaced p) c its p finds n k e
  owed_within (effect.Removed p) c its finds n k e = takes_its (effect.Removed p) c its p finds n k e
  owed_within (effect.Deferred p t) c its finds n k e = hands_its (effect.Deferred p t) c its p finds.0 n k e
  owed_within (effect.Retired (APair p)) c its finds n k e = hands_its (effect.Retired (APair p)) c its p finds.0 n k e
  owed_within (effect.Retired (ATable t)) c its finds n k e = keeps_its (effect.Retired (ATable t)) c its refl n k e
  owed_within f c its finds n k e = keeps_its f c its refl n k e

  its_call : (f : Effect) (b : OfCall f) → FindsPlaced caller m f → HasItsMap (then_at f) (call_by m f b.c)
  its_call f b placed = record {
    there = subst (λ (q : ℕ). list_any (λ (g : MapThere). g.number == q) (then_at f).maps ≡ true) (sym same.1) (maps_there b.c.map f m.maps b.its.there);
    table = λ t is. table_within f b.c b.its b.finds t is ∙ sym same.1;
    owes = λ n k e. (let it = owed_within f b.c b.its b.finds n k e in (it.0, more_stored f n it.1, stored_born n it.1 f placed ∙ (it.2 ∙ sym same.1)));
  }
    where
      same : IsOfSame b.c (call_by m f b.c)
      same = changed_same m f b.c

  calls_within : (f : Effect) → Whose f → FindsPlaced caller m f → AllByRecursion (HasItsMap (then_at f)) (then_at f).calls
  calls_within f (NoCalls none finds) placed =
      subst (λ (o : Option (List ℕ)). AllByRecursion (HasItsMap (then_at f)) (calls_by o (call_by m f) m.calls)) (sym none)
      (all_so (HasItsMap m) (HasItsMap (then_at f)) (λ c its. same_call f c placed its) m.calls h.within.calls)
  calls_within f (ACalls b) placed =
      subst (λ (o : Option (List ℕ)). AllByRecursion (HasItsMap (then_at f)) (calls_by o (call_by m f) m.calls)) (sym b.caller_is)
      (all_under (changed (call_by m f) (changed_same m f) b.own) (λ c. HasItsMap m c × (is_same c.caller b.own ≡ true → c ≡ b.c)) (HasItsMap (then_at f)) one m.calls
      (all_both (HasItsMap m) (λ c. is_same c.caller b.own ≡ true → c ≡ b.c) m.calls h.within.calls (only_one b.own m.calls b.c h.waits.placed.apart b.found)))
    where
      one : (c : UnderWay K V) → HasItsMap m c × (is_same c.caller b.own ≡ true → c ≡ b.c) → HasItsMap (then_at f) (changed (call_by m f) (changed_same m f) b.own c)
      one c its = by (is_same c.caller b.own) refl
        where
          Goal : Bool → Type 0
          Goal q = HasItsMap (then_at f) (if q then call_by m f c else c)

          by : (q : Bool) → is_same c.caller b.own ≡ q → Goal (is_same c.caller b.own)
          by true is = subst Goal (sym is) (subst (λ (x : UnderWay K V). HasItsMap (then_at f) (call_by m f x)) (sym (its.1 is)) (its_call f b placed))
          by false is = subst Goal (sym is) (same_call f c placed its.0)

  -- what waits behind tables

  behind_within : (f : Effect) → Whose f → FindsPlaced caller m f → AllByRecursion (LiesNext (then_at f)) (then_at f).deferred
  behind_within f (NoCalls none finds) placed =
      all_lie m h.waits.placed caller acted f (event_numbers everything m acted caller f finds placed) (event_onward everything m acted f finds) (event_next everything m acted f finds) h.within.behind
  behind_within f (ACalls b) placed =
      all_lie m h.waits.placed caller acted f (call_numbers terms moments acted m b.c b.acts b.its caller f b.finds placed) (call_onward terms moments acted m b.c b.acts b.its f b.finds)
      (call_next terms moments acted m b.c b.acts b.its f b.finds) h.within.behind

  -- so all is in order after the effect
  module _ (f : Effect) (finds : Finds terms caller acted everything moments m f) (one : StoresOne caller m f) where
    its_whose : Whose f
    its_whose = whose f finds

    its_placed : FindsPlaced caller m f
    its_placed = life_finds_placed K V terms caller acted everything moments m f finds one

    found_then : AreFound (then_at f)
    found_then = numbers_stay caller acted f m h.waits.found

    pub in_order : AllIsInOrder (then_at f)
    in_order = record {
      waits = record {
        placed = effects_keep_placed K V caller acted (f ∷ []) m (its_placed, tt) h.waits.placed;
        tables = effects_keep_tables K V caller acted (f ∷ []) m (finds_tables f its_whose, tt) h.waits.tables;
        found = found_then;
      };
      named = one_named caller acted f m h.named;
      somewhere = effects_keep_somewhere K V caller acted (f ∷ []) m ((its_placed, finds_map acted refl f its_whose), tt) h.somewhere;
      within = record {
        tables = tables_within f its_whose;
        apart = apart_within f its_whose;
        roots = roots_within f its_whose;
        made = made_within f;
        spots = spots_within f its_whose its_placed;
        maps = maps_within f its_whose its_placed;
        calls = calls_within f its_whose its_placed;
        behind = behind_within f its_whose its_placed;
      };
    }

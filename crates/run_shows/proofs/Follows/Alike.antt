-- Moments that are alike to a map: which effects leave it so, its own and those of other maps.
use Rattle.std.specs.Prelude.{◌≡◌, ◌≢◌, ℕ, ◌+◌, ◌≤◌, ◌==◌, Bool, true, false, cond, List, [], ◌∷◌, ◌++◌, length, filter, find, map, Option, Some, None, if◌then◌else◌}
use Rattle.std.proofs.Common.{refl, ap, sym, ◌∙◌, arith, inl, inr}
use Rattle.std.proofs.lemmas.Bool.{ne_eqb, eq-eqb, cases_eq}
use Rattle.std.proofs.lemmas.List.Elements.{filter-append}
use Rattle.run_effects.specs.Given.RunsDeclared.shapes.TableShape.{TableShape}
use Rattle.run_effects.specs.Given.RunsDeclared.effect.Effect.{Effect}
use Rattle.run_effects.specs.Given.RunsDeclared.effect.Effect.TheVariants.{Asked, PairMade, PairGivenUp, TableMade, TableGivenUp, Linked, Promoted, Copied, Stored, Replaced, Removed, Counted, Deferred, Retired, Reclaimed, Ended, Taken}
use Rattle.run_effects.specs.Given.RunsDeclared.effect.Spot.{Spot}
use Rattle.run_effects.specs.Given.RunsDeclared.effect.TableId.{TableId}
use Rattle.run_effects.specs.Given.SchedulesEntry.{acting}
use Rattle.run_effects.specs.Given.SchedulesEffects.{promoted, stored_by, with_effect, with_effects}
use Rattle.run_effects.specs.Given.SchedulesLists.{put}
use Rattle.run_effects.specs.Given.SchedulesMoment.{Place, InMap, Out, IsLinked, MapThere, TableThere, UnderWay, Moment}
use Rattle.run_effects.specs.Given.SchedulesViews.{is_in_map, map_at, tables_of}

-- the effect moves no pair, and no table
abbrev pub is_still : Effect → Bool
is_still (Asked growth) = true
is_still PairMade = true
is_still PairGivenUp = true
is_still (TableMade t) = true
is_still (TableGivenUp t) = true
is_still (Copied n s) = true
is_still (Counted s) = true
is_still _ = false

abbrev pub AllStill : List Effect → Type 0
AllStill [] = Unit {0}
AllStill (f ∷ effects) = (is_still f ≡ true) × AllStill effects

-- nor does it copy one
abbrev pub is_calm : Effect → Bool
is_calm (Copied n s) = false
is_calm f = is_still f

abbrev pub AllCalm : List Effect → Type 0
AllCalm [] = Unit {0}
AllCalm (f ∷ effects) = (is_calm f ≡ true) × AllCalm effects

calm_is_still : (f : Effect) → is_calm f ≡ true → is_still f ≡ true
calm_is_still (Copied n s) e = absurd (cc e)
calm_is_still f e = e

pub calm_still : (effects : List Effect) → AllCalm effects → AllStill effects
calm_still [] all = tt
calm_still (f ∷ effects) all = (calm_is_still f all.0, calm_still effects all.1)

-- a place that was put
pub put_here : {X : Type 0} (k : ℕ) (x : X) (f : ℕ → X) (n : ℕ) → n ≡ k → put k x f n ≡ x
put_here k x f n e = ap (λ q. if q then x else f n) (eq-eqb n k e)

pub put_elsewhere : {X : Type 0} (k : ℕ) (x : X) (f : ℕ → X) (n : ℕ) → n ≢ k → put k x f n ≡ f n
put_elsewhere k x f n ne = ap (λ q. if q then x else f n) (ne_eqb n k ne)

-- of the maps another one is found as before
pub others_found : (t : TableId) (other : ℕ) → t.map ≢ other → (fs : List MapThere) → find (λ f. f.number == other) (map (promoted t) fs) ≡ find (λ f. f.number == other) fs
others_found t other apart [] = refl
others_found t other apart (f ∷ fs) = by (f.number == t.map) refl (others_found t other apart fs)
  where
    rest : Option MapThere
    rest = find (λ g. g.number == other) (map (promoted t) fs)

    by : (q : Bool) → (f.number == t.map) ≡ q → find (λ g. g.number == other) (map (promoted t) fs) ≡ find (λ g. g.number == other) fs
        → cond ((if f.number == t.map then record f { first = t.turn } else f).number == other) (Some (if f.number == t.map then record f { first = t.turn } else f)) rest
        ≡ cond (f.number == other) (Some f) (find (λ g. g.number == other) fs)
    by true e later =
        let not : (f.number == other) ≡ false = ne_eqb f.number other (λ same. apart (let at : f.number ≡ t.map = grind (arith, e) in sym at ∙ same)) in
        ap (λ q. cond ((if q then record f { first = t.turn } else f).number == other) (Some (if q then record f { first = t.turn } else f)) rest) e
        ∙ ap (λ z. cond z (Some (record f { first = t.turn })) rest) not ∙ later ∙ sym (ap (λ z. cond z (Some f) (find (λ g. g.number == other) fs)) not)
    by false e later =
        ap (λ q. cond ((if q then record f { first = t.turn } else f).number == other) (Some (if q then record f { first = t.turn } else f)) rest) e
        ∙ ap (cond (f.number == other) (Some f)) later

-- nothing more at the end
nothing_more : {X : Type 0} (xs : List X) → xs ++ [] ≡ xs
nothing_more [] = refl
nothing_more (x ∷ xs) = ap (λ ys. x ∷ ys) (nothing_more xs)

in_map_is : (a b : ℕ) → InMap a ≡ InMap b → a ≡ b
in_map_is a b e = cc e

module _ {K V : Type 0} where
  -- no pair was stored or has moved, and no table has come or passed
  pub record AreSame (m m2 : Moment K V) : Type 0 where
    pub place : m2.place ≡ m.place
    pub born : m2.born ≡ m.born
    pub maps : m2.maps ≡ m.maps
    pub tables : m2.tables ≡ m.tables
    pub stored : m2.stored ≡ m.stored

  -- the map's pairs are those that they were
  pub record AlikePairs (map : ℕ) (m m2 : Moment K V) : Type 0 where
    pub place : (k : ℕ) → k ≤ length m.stored → is_in_map map (m2.place k) ≡ is_in_map map (m.place k)
    pub all : (k : ℕ) → m2.place k ≡ InMap map → m.place k ≡ InMap map
    pub born : (k : ℕ) → k ≤ length m.stored → (m2.born k).map ≡ (m.born k).map
    pub stored : length m.stored ≤ length m2.stored

  -- and so are its tables
  pub record AlikeTables (map : ℕ) (m m2 : Moment K V) : Type 0 where
    pub there : map_at map m2 ≡ map_at map m
    pub tables : tables_of map m2 ≡ tables_of map m

  pub record IsAlike (map : ℕ) (m m2 : Moment K V) : Type 0 where
    pub pairs : AlikePairs map m m2
    pub tables : AlikeTables map m m2

  pub alike_same : (map : ℕ) (m m2 : Moment K V) → AreSame m m2 → IsAlike map m m2
  alike_same map m m2 same = record {
    pairs = record {
      place = λ k l. ap (λ (f : ℕ → Place). is_in_map map (f k)) same.place;
      all = λ k is. ap (λ (f : ℕ → Place). f k) (sym same.place) ∙ is;
      born = λ k l. ap (λ (f : ℕ → TableId). (f k).map) same.born;
      stored = let e = ap length same.stored in omega (arith, e);
    };
    tables = record {
      there = ap (find (λ f. f.number == map)) same.maps;
      tables = ap (filter (λ t. t.table.map == map)) same.tables;
    };
  }

  pub pairs_then : (map : ℕ) (m m2 m3 : Moment K V) → AlikePairs map m m2 → AlikePairs map m2 m3 → AlikePairs map m m3
  pairs_then map m m2 m3 a b = record {
    place = λ k l. b.place k (let s = a.stored in omega (arith, s, l)) ∙ a.place k l;
    all = λ k is. a.all k (b.all k is);
    born = λ k l. b.born k (let s = a.stored in omega (arith, s, l)) ∙ a.born k l;
    stored = let s = a.stored in let t = b.stored in omega (arith, s, t);
  }

  pub alike_then : (map : ℕ) (m m2 m3 : Moment K V) → IsAlike map m m2 → IsAlike map m2 m3 → IsAlike map m m3
  alike_then map m m2 m3 a b = record {
    pairs = pairs_then map m m2 m3 a.pairs b.pairs;
    tables = record { there = b.tables.there ∙ a.tables.there; tables = b.tables.tables ∙ a.tables.tables };
  }

  stored_still : (o : Option (UnderWay K V)) (f : Effect) (stored : List (K × V)) → is_still f ≡ true → stored_by o f stored ≡ stored
  stored_still None f stored e = refl
  stored_still (Some c) (Asked growth) stored e = refl
  stored_still (Some c) PairMade stored e = refl
  stored_still (Some c) PairGivenUp stored e = refl
  stored_still (Some c) (TableMade t) stored e = refl
  stored_still (Some c) (TableGivenUp t) stored e = refl
  stored_still (Some c) (Linked t shape) stored e = absurd (cc e)
  stored_still (Some c) (Promoted t) stored e = absurd (cc e)
  stored_still (Some c) (Copied n s) stored e = refl
  stored_still (Some c) (Stored n s) stored e = absurd (cc e)
  stored_still (Some c) (Replaced n) stored e = absurd (cc e)
  stored_still (Some c) (Removed n) stored e = absurd (cc e)
  stored_still (Some c) (Counted s) stored e = refl
  stored_still (Some c) (Deferred n t) stored e = absurd (cc e)
  stored_still (Some c) (Retired x) stored e = absurd (cc e)
  stored_still (Some c) (Reclaimed x) stored e = absurd (cc e)
  stored_still (Some c) (Ended n) stored e = absurd (cc e)
  stored_still (Some c) (Taken t) stored e = absurd (cc e)

  still_one : (caller : Option (List ℕ)) (map : ℕ) (f : Effect) (m : Moment K V) → is_still f ≡ true → AreSame m (with_effect caller (Some map) f m)
  still_one caller map (Asked growth) m e = record { place = refl; born = refl; maps = refl; tables = refl; stored = stored_still (acting caller m) (Asked growth) m.stored e }
  still_one caller map PairMade m e = record { place = refl; born = refl; maps = refl; tables = refl; stored = stored_still (acting caller m) PairMade m.stored e }
  still_one caller map PairGivenUp m e = record { place = refl; born = refl; maps = refl; tables = refl; stored = stored_still (acting caller m) PairGivenUp m.stored e }
  still_one caller map (TableMade t) m e = record { place = refl; born = refl; maps = refl; tables = refl; stored = stored_still (acting caller m) (TableMade t) m.stored e }
  still_one caller map (TableGivenUp t) m e = record { place = refl; born = refl; maps = refl; tables = refl; stored = stored_still (acting caller m) (TableGivenUp t) m.stored e }
  still_one caller map (Copied n s) m e = record { place = refl; born = refl; maps = refl; tables = refl; stored = stored_still (acting caller m) (Copied n s) m.stored e }
  still_one caller map (Counted s) m e = record { place = refl; born = refl; maps = refl; tables = refl; stored = stored_still (acting caller m) (Counted s) m.stored e }
  still_one caller map (Linked t shape) m e = absurd (cc e)
  still_one caller map (Promoted t) m e = absurd (cc e)
  still_one caller map (Stored n s) m e = absurd (cc e)
  still_one caller map (Replaced n) m e = absurd (cc e)
  still_one caller map (Removed n) m e = absurd (cc e)
  still_one caller map (Deferred n t) m e = absurd (cc e)
  still_one caller map (Retired x) m e = absurd (cc e)
  still_one caller map (Reclaimed x) m e = absurd (cc e)
  still_one caller map (Ended n) m e = absurd (cc e)
  still_one caller map (Taken t) m e = absurd (cc e)

  same_then : (m m2 m3 : Moment K V) → AreSame m m2 → AreSame m2 m3 → AreSame m m3
  same_then m m2 m3 a b = record { place = b.place ∙ a.place; born = b.born ∙ a.born; maps = b.maps ∙ a.maps; tables = b.tables ∙ a.tables; stored = b.stored ∙ a.stored }

  -- such effects change nothing of that
  pub still_all : (caller : Option (List ℕ)) (map : ℕ) (effects : List Effect) (m : Moment K V) → AllStill effects → AreSame m (with_effects caller (Some map) effects m)
  still_all caller map [] m all = record { place = refl; born = refl; maps = refl; tables = refl; stored = refl }
  still_all caller map (f ∷ effects) m all =
      same_then m (with_effect caller (Some map) f m) (with_effects caller (Some map) effects (with_effect caller (Some map) f m)) (still_one caller map f m all.0)
      (still_all caller map effects (with_effect caller (Some map) f m) all.1)

  -- what else an effect does on a map is nothing to another one
  module _ (caller : Option (List ℕ)) (map other : ℕ) (apart : other ≢ map) (m : Moment K V) where
    pub stored_other : (n : ℕ) (s : Spot) → n ≡ length m.stored + 1 → length m.stored ≤ length (stored_by (acting caller m) (Stored n s) m.stored) → IsAlike other m (with_effect caller (Some map) (Stored n s) m)
    stored_other n s is more = record {
      pairs = record {
        place = λ k l. ap (is_in_map other) (put_elsewhere n (InMap map) m.place k (λ e. omega (arith, e, is, l)));
        all = λ k at. elim (cases_eq k n) as (λ _. m.place k ≡ InMap other) [
          | inl e ↦ absurd (apart (in_map_is other map (sym at ∙ put_here n (InMap map) m.place k e)))
          | inr ne ↦ sym (put_elsewhere n (InMap map) m.place k ne) ∙ at
        ];
        born = λ k l. ap (λ (t : TableId). t.map) (put_elsewhere n (record { map = map; turn = s.turn }) m.born k (λ e. omega (arith, e, is, l)));
        stored = more;
      };
      tables = record {
        there = refl;
        tables = refl;
      };
    }

    -- a pair leaves its map
    out_other : (n : ℕ) → m.place n ≡ InMap map → (k : ℕ) → (is_in_map other (put n Out m.place k) ≡ is_in_map other (m.place k)) × (put n Out m.place k ≡ InMap other → m.place k ≡ InMap other)
    out_other n was k = elim (cases_eq k n) as (λ _. (is_in_map other (put n Out m.place k) ≡ is_in_map other (m.place k)) × (put n Out m.place k ≡ InMap other → m.place k ≡ InMap other)) [
      | inl e ↦ (
        ap (is_in_map other) (put_here n Out m.place k e) ∙ sym (ap (is_in_map other) (ap m.place e ∙ was) ∙ ne_eqb other map apart),
        λ at. absurd (let never : Out ≡ InMap other = sym (put_here n Out m.place k e) ∙ at in cc never),
      )
      | inr ne ↦ (ap (is_in_map other) (put_elsewhere n Out m.place k ne), λ at. sym (put_elsewhere n Out m.place k ne) ∙ at)
    ]

    pub replaced_other : (n : ℕ) → m.place n ≡ InMap map → length m.stored ≤ length (stored_by (acting caller m) (Replaced n) m.stored) → IsAlike other m (with_effect caller (Some map) (Replaced n) m)
    replaced_other n was more = record {
      pairs = record {
        place = λ k l. (out_other n was k).0;
        all = λ k at. (out_other n was k).1 at;
        born = λ k l. refl;
        stored = more;
      };
      tables = record {
        there = refl;
        tables = refl;
      };
    }

    pub removed_other : (n : ℕ) → m.place n ≡ InMap map → length m.stored ≤ length (stored_by (acting caller m) (Removed n) m.stored) → IsAlike other m (with_effect caller (Some map) (Removed n) m)
    removed_other n was more = record {
      pairs = record {
        place = λ k l. (out_other n was k).0;
        all = λ k at. (out_other n was k).1 at;
        born = λ k l. refl;
        stored = more;
      };
      tables = record {
        there = refl;
        tables = refl;
      };
    }

    pub linked_other : (turn : ℕ) (shape : TableShape) → length m.stored ≤ length (stored_by (acting caller m) (Linked (record { map = map; turn = turn }) shape) m.stored)
        → IsAlike other m (with_effect caller (Some map) (Linked (record { map = map; turn = turn }) shape) m)
    linked_other turn shape more = record {
      pairs = record {
        place = λ k l. refl;
        all = λ k at. at;
        born = λ k l. refl;
        stored = more;
      };
      tables = record {
        there = refl;
        tables = filter-append (λ t. t.table.map == other) m.tables (new ∷ []) ∙ ap (λ ts. filter (λ t. t.table.map == other) m.tables ++ ts) (none_new) ∙ nothing_more (filter (λ t. t.table.map == other) m.tables);
      };
    }
      where
        new : TableThere
        new = record { table = record { map = map; turn = turn }; shape = shape; stage = IsLinked }

        none_new : filter (λ t. t.table.map == other) (new ∷ []) ≡ []
        none_new = ap (λ q. if q then new ∷ [] else []) (ne_eqb map other (λ e. apart (sym e)))

    pub promoted_other : (turn : ℕ) → length m.stored ≤ length (stored_by (acting caller m) (Promoted (record { map = map; turn = turn })) m.stored)
        → IsAlike other m (with_effect caller (Some map) (Promoted (record { map = map; turn = turn })) m)
    promoted_other turn more = record {
      pairs = record {
        place = λ k l. refl;
        all = λ k at. at;
        born = λ k l. refl;
        stored = more;
      };
      tables = record {
        there = others_found (record { map = map; turn = turn }) other (λ e. apart (sym e)) m.maps;
        tables = refl;
      };
    }

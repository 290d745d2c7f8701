-- What who acts on one map does leaves another one as it is: the map, its pairs, and that it has no table.
use Rattle.std.specs.Prelude.{◌≢◌, ◌⊎◌, ◌==◌, cond, filter, find, map, Option, Some, None, if◌then◌else◌}
use Rattle.std.proofs.Common.{◌≡◌, ℕ, Bool, true, false, List, [], ◌∷◌, ◌++◌, inl, inr, refl, ap, sym, ◌∙◌}
use Rattle.std.proofs.lemmas.Bool.{eqb-true, ne_eqb}
use Rattle.std.proofs.lemmas.List.Elements.{filter-append}
use Rattle.run_schedules.specs.declared.effect.Effect.{Effect}
use Rattle.run_schedules.specs.declared.effect.Effect.TheVariants as effect
use Rattle.run_schedules.specs.declared.effect.TableId.{TableId}
use Rattle.run_schedules.specs.declared.effect.Thing.TheVariants.{APair, ATable}
use Rattle.run_schedules.specs.Schedules.Effects.{all_at, at_stage, in_map, place_by, promoted, with_effect, with_effects}
use Rattle.run_schedules.specs.Schedules.Lists.{is_among, put}
use Rattle.run_schedules.specs.Schedules.Moment.{Place, InMap, Out, Handed, Behind, Left, GivenBack, Deferral, MapThere, Moment, Stage, IsLinked, IsRetired, IsReclaimed, IsTaken, TableThere}
use Rattle.run_schedules.specs.Schedules.Things.{same_table}
use Rattle.run_schedules.specs.Schedules.Views.{behind, map_at, tables_of}
use Rattle.run_schedules.specs.Given.SeizeWordsWord.{block_in}
use Rattle.run_schedules.specs.Given.SeizeWordsDeclared.at.At.TheVariants.{Root, Used, Slot, Entry, Word}
use Rattle.run_kept.specs.Given.EffectsDeclared.changed.Changed.{Changed}
use Rattle.run_kept.specs.Given.EffectsDeclared.changed.Changed.TheVariants as changed
use Rattle.run_kept.specs.Given.EffectsEffects.{effects_of, led_to, map_of, named, names_same, pair_taken, table_taken, taken_by}
use Rattle.run_kept.specs.Given.EffectsKnown.{Known}
use Rattle.run_kept.specs.Given.EffectsDeclared.acting.Acting.{Acting}
use Rattle.run_kept.specs.Given.EffectsDeclared.acting.Acting.TheVariants as acting
use Rattle.run_kept.specs.Given.EffectsDeclared.role.Role.{Role}
use Rattle.run_kept.specs.Given.EffectsDeclared.role.Role.TheVariants as role
use Rattle.many_acts.proofs.Given.FollowsOfEach.{OfEach, operation_so, taken_so}
use Rattle.many_acts.proofs.Given.OthersRowPlans.{TellsRow}

-- Tables that are linked are of other maps, and of those that become the root's this is so.
module _ (n : ℕ) (Promotes : TableId → Type 0) where
  abbrev pub LinksElsewhere : Effect → Type 0
  LinksElsewhere (effect.Linked t shape) = t.map ≢ n
  LinksElsewhere (effect.Promoted t) = Promotes t
  LinksElsewhere f = Unit {0}

  abbrev pub AllLinkElsewhere : List Effect → Type 0
  AllLinkElsewhere [] = Unit {0}
  AllLinkElsewhere (f ∷ effects) = LinksElsewhere f × AllLinkElsewhere effects

module _ (n : ℕ) where
  -- what is done is done to other maps
  abbrev pub Elsewhere : Effect → Type 0
  Elsewhere f = LinksElsewhere n (λ t. t.map ≢ n) f

  abbrev pub AllElsewhere : List Effect → Type 0
  AllElsewhere effects = AllLinkElsewhere n (λ t. t.map ≢ n) effects

  -- Of this map, all is the same then.
  pub record SameOf {K V : Type 0} (m v : Moment K V) : Type 0 where
    pub there : map_at n v ≡ map_at n m
    pub pairs : (k : ℕ) → v.place k ≡ InMap n → m.place k ≡ InMap n
    pub tables : tables_of n m ≡ [] → tables_of n v ≡ []

-- A map whose root's table is another one has its number, and others are as they were.
module _ (n : ℕ) (t : TableId) where
  pub number_same : (f : MapThere) → (promoted t f).number ≡ f.number
  number_same f = by (f.number == t.map)
    where
      by : (q : Bool) → (if q then record f { first = t.turn } else f).number ≡ f.number
      by true = refl
      by false = refl

  pub none_promoted : (fs : List MapThere) → find (λ f. f.number == n) fs ≡ None → find (λ f. f.number == n) (map (promoted t) fs) ≡ None
  none_promoted [] none = refl
  none_promoted (f ∷ fs) none = ap (λ (k : ℕ). cond (k == n) (Some (promoted t f)) (find (λ g. g.number == n) (map (promoted t) fs))) (number_same f) ∙ by (f.number == n) (none_promoted fs) none
    where
      by : (q : Bool) → (find (λ g. g.number == n) fs ≡ None → find (λ g. g.number == n) (map (promoted t) fs) ≡ None) → cond q (Some f) (find (λ g. g.number == n) fs) ≡ None
          → cond q (Some (promoted t f)) (find (λ g. g.number == n) (map (promoted t) fs)) ≡ None
      by true rest is = absurd (cc is)
      by false rest is = rest is

  found_other : t.map ≢ n → (fs : List MapThere) → find (λ f. f.number == n) (map (promoted t) fs) ≡ find (λ f. f.number == n) fs
  found_other other [] = refl
  found_other other (f ∷ fs) = by (f.number == t.map) refl (found_other other fs)
    where
      rest : Option MapThere
      rest = find (λ g. g.number == n) (map (promoted t) fs)

      by : (q : Bool) → (f.number == t.map) ≡ q → rest ≡ find (λ g. g.number == n) fs
          → cond ((if q then record f { first = t.turn } else f).number == n) (Some (if q then record f { first = t.turn } else f)) rest ≡ cond (f.number == n) (Some f) (find (λ g. g.number == n) fs)
      by true e later =
          let not : (f.number == n) ≡ false = ne_eqb f.number n (λ is. other (sym (eqb-true f.number t.map e) ∙ is)) in
          ap (λ (q : Bool). cond q (Some (record f { first = t.turn })) rest) not ∙ later ∙ sym (ap (λ (q : Bool). cond q (Some f) (find (λ g. g.number == n) fs)) not)
      by false e later = ap (λ (o : Option MapThere). cond (f.number == n) (Some f) o) later

-- a map without tables has none at another stage either
module _ (n : ℕ) (t : TableId) (stage : Stage) where
  none_staged : (us : List TableThere) → filter (λ u. u.table.map == n) us ≡ [] → filter (λ u. u.table.map == n) (map (at_stage t stage) us) ≡ []
  none_staged [] none = refl
  none_staged (u ∷ us) none = by (same_table u.table t) ∙ at (u.table.map == n) (none_staged us) none
    where
      rest : List TableThere
      rest = filter (λ v. v.table.map == n) (map (at_stage t stage) us)

      by : (q : Bool) → (if (if q then record u { stage = stage } else u).table.map == n then (if q then record u { stage = stage } else u) ∷ rest else rest)
          ≡ (if u.table.map == n then (if q then record u { stage = stage } else u) ∷ rest else rest)
      by true = refl
      by false = refl

      at : (q : Bool) → (filter (λ v. v.table.map == n) us ≡ [] → rest ≡ []) → (if q then u ∷ filter (λ v. v.table.map == n) us else filter (λ v. v.table.map == n) us) ≡ []
          → (if q then at_stage t stage u ∷ rest else rest) ≡ []
      at true later is = absurd (cc is)
      at false later is = later is

-- where pairs are
module _ (n : ℕ) (acted : Option ℕ) where
  -- a pair that is stored is stored in another map
  abbrev pub StoresElsewhere : Effect → Type 0
  StoresElsewhere (effect.Stored k s) = acted ≢ Some n
  StoresElsewhere f = Unit {0}

  pub stores_elsewhere : acted ≢ Some n → (f : Effect) → StoresElsewhere f
  stores_elsewhere other (effect.Stored k s) = other
  stores_elsewhere other _ = tt

  not_born : (o : Option ℕ) → o ≢ Some n → in_map o ≢ InMap n
  not_born None ne e = cc e
  not_born (Some k) ne e = ne (let same : k ≡ n = (cc e) in ap Some same)

  put_other : (k : ℕ) (there : Place) → there ≢ InMap n → (place : ℕ → Place) (j : ℕ) → put k there place j ≡ InMap n → place j ≡ InMap n
  put_other k there not place j is = by (j == k) is
    where
      by : (q : Bool) → (if q then there else place j) ≡ InMap n → place j ≡ InMap n
      by true e = absurd (not e)
      by false e = e

  all_other : (there : Place) → there ≢ InMap n → (numbers : List ℕ) (place : ℕ → Place) (j : ℕ) → all_at there numbers place j ≡ InMap n → place j ≡ InMap n
  all_other there not numbers place j is = by (is_among j numbers) is
    where
      by : (q : Bool) → (if q then there else place j) ≡ InMap n → place j ≡ InMap n
      by true e = absurd (not e)
      by false e = e

  pub pairs_other : (deferred : List Deferral) (f : Effect) → StoresElsewhere f → (place : ℕ → Place) (j : ℕ) → place_by acted deferred f place j ≡ InMap n → place j ≡ InMap n
  pairs_other deferred (effect.Stored k s) other place j is = put_other k (in_map acted) (not_born acted other) place j is
  pairs_other deferred (effect.Replaced k) other place j is = put_other k Out (λ e. cc e) place j is
  pairs_other deferred (effect.Removed k) other place j is = put_other k Out (λ e. cc e) place j is
  pairs_other deferred (effect.Retired (APair k)) other place j is = put_other k Handed (λ e. cc e) place j is
  pairs_other deferred (effect.Retired (ATable t)) other place j is = is
  pairs_other deferred (effect.Deferred k t) other place j is = put_other k Behind (λ e. cc e) place j is
  pairs_other deferred (effect.Reclaimed (APair k)) other place j is = put_other k GivenBack (λ e. cc e) place j is
  pairs_other deferred (effect.Reclaimed (ATable t)) other place j is = all_other Handed (λ e. cc e) (behind t deferred) place j is
  pairs_other deferred (effect.Ended k) other place j is = put_other k GivenBack (λ e. cc e) place j is
  pairs_other deferred (effect.Taken t) other place j is = all_other Left (λ e. cc e) (behind t deferred) place j is
  pairs_other deferred _ other place j is = is

-- a table that is linked is of another map
linked_other : (n : ℕ) (us : List TableThere) (u : TableThere) → u.table.map ≢ n → filter (λ v. v.table.map == n) us ≡ [] → filter (λ v. v.table.map == n) (us ++ u ∷ []) ≡ []
linked_other n us u other none =
    filter-append (λ (v : TableThere). v.table.map == n) us (u ∷ []) ∙ ap (λ (l : List TableThere). l ++ filter (λ v. v.table.map == n) (u ∷ [])) none
    ∙ ap (λ (q : Bool). if q then u ∷ [] else []) (ne_eqb u.table.map n other)

module _ {K V : Type 0} (n : ℕ) where
  -- A map without tables gets none by what links other tables.
  pub no_tables_by : (Promotes : TableId → Type 0) (caller : Option (List ℕ)) (acted : Option ℕ) (f : Effect) (m : Moment K V) → LinksElsewhere n Promotes f → tables_of n m ≡ [] → tables_of n (with_effect caller acted f m) ≡ []
  no_tables_by Promotes caller acted (effect.Linked t shape) m other none = linked_other n m.tables (record { table = t; shape = shape; stage = IsLinked }) other none
  no_tables_by Promotes caller acted (effect.Retired (ATable t)) m other none = none_staged n t IsRetired m.tables none
  no_tables_by Promotes caller acted (effect.Retired (APair k)) m other none = none
  no_tables_by Promotes caller acted (effect.Reclaimed (ATable t)) m other none = none_staged n t IsReclaimed m.tables none
  no_tables_by Promotes caller acted (effect.Reclaimed (APair k)) m other none = none
  no_tables_by Promotes caller acted (effect.Taken t) m other none = none_staged n t IsTaken m.tables none
  no_tables_by Promotes caller acted _ m other none = none

  there_by : (caller : Option (List ℕ)) (acted : Option ℕ) (f : Effect) (m : Moment K V) → Elsewhere n f → map_at n (with_effect caller acted f m) ≡ map_at n m
  there_by caller acted (effect.Promoted t) m other = found_other n t other m.maps
  there_by caller acted _ m other = refl

  -- What acts on another map leaves all of this one.
  pub effects_elsewhere : (caller : Option (List ℕ)) (acted : Option ℕ) → acted ≢ Some n → (effects : List Effect) (m : Moment K V) → AllElsewhere n effects → SameOf n m (with_effects caller acted effects m)
  effects_elsewhere caller acted other [] m all = record { there = refl; pairs = λ k is. is; tables = λ none. none }
  effects_elsewhere caller acted other (f ∷ effects) m all =
      let rest = effects_elsewhere caller acted other effects (with_effect caller acted f m) all.1 in
      record {
        there = rest.there ∙ there_by caller acted f m all.0;
        pairs = λ k is. pairs_other n acted m.deferred f (stores_elsewhere n acted other f) m.place k (rest.pairs k is);
        tables = λ none. rest.tables (no_tables_by (λ t. t.map ≢ n) caller acted f m all.0 none);
      }

-- a root is emptied, or given up
abbrev pub EmptiesRoot : Changed → Type 0
EmptiesRoot (changed.Wrote (Root r) old new) = new ≡ 0
EmptiesRoot (changed.Wrote (Used r) old new) = Unit {0}
EmptiesRoot told = ⊥

-- What who acts links is of the map on which it acts.
module _ (n : ℕ) (Promotes : TableId → Type 0) where
  abbrev All : List Effect → Type 0
  All effects = AllLinkElsewhere n Promotes effects

  pair_so : (who : Acting) (k : ℕ) → LinksElsewhere n Promotes (pair_taken who k)
  pair_so (acting.Ending map) k = tt
  pair_so _ k = tt

  table_so : (who : Acting) (t : TableId) → LinksElsewhere n Promotes (table_taken who t)
  table_so (acting.Ending map) t = tt
  table_so _ t = tt

  each_so : (who : Acting) (known : Known) → map_of who ≢ n → OfEach who known All
  each_so who known other = record {
    nothing = tt;
    linked = λ turn shape. (other, tt);
    deferred = λ k t. (tt, tt);
    stored = λ s. (tt, tt);
    replaced = λ old s. (tt, (tt, tt));
    removed = λ k. (tt, tt);
    copied = λ k s. (tt, tt);
    retired = λ x. (tt, tt);
    asked = (tt, tt);
    pair_made = (tt, (tt, tt));
    table_made = λ turn. (tt, (tt, tt));
    pair_given_up = (tt, tt);
    table_given_up = λ turn. (tt, tt);
  }

  -- where each table that is known may become the root's
  led_elsewhere : (who : Acting) → map_of who ≢ n → (was is : Role) → ((u : TableId) (len : ℕ) → is ≡ role.Table u len → Promotes u) → All (led_to who was is)
  led_elsewhere who other _ (role.OwnTable turn shape) so = (other, tt)
  led_elsewhere who other (role.Table t len) (role.Table u more) so = (so u more refl, tt)
  led_elsewhere who other _ _ so = tt

  pub acting_elsewhere : (who : Acting) → map_of who ≢ n → (known : Known) → ((b : ℕ) (u : TableId) (len : ℕ) → known.roles b ≡ role.Table u len → Promotes u) → (told : Changed) → All (effects_of who known told)
  acting_elsewhere who other known so told =
      operation_so who known All (each_so who known other) told (λ r old new e. led_elsewhere who other (named known old) (named known new) (λ u len is. so (block_in new) u len is))
      (λ b field old new map e is. (tt, tt)) (λ b e is. taken_so who known All (each_so who known other) (λ k. (pair_so who k, tt)) (λ t. (table_so who t, tt)) (known.roles b) is)
      (λ bucket had e. (tt, tt))

  -- A row, and who reclaims all, link none.
  row_taken : (r : Role) → All (taken_by acting.Row r)
  row_taken (role.OwnPair c) = (tt, tt)
  row_taken (role.OwnTable turn shape) = (tt, tt)
  row_taken (role.Pair k) = (tt, tt)
  row_taken (role.Table t len) = (tt, tt)
  row_taken _ = tt

  if_none : (q : Bool) (effects : List Effect) → All effects → All (if q then [] else effects)
  if_none true effects all = tt
  if_none false effects all = all

  emptied : (known : Known) → known.roles 0 ≡ role.Free → (was : Role) (new : ℕ) → new ≡ 0 → All (led_to acting.Row was (named known new))
  emptied known free was new is = by (named known new) (ap (λ (x : ℕ). known.roles (block_in x)) is ∙ free)
    where
      by : (r : Role) → r ≡ role.Free → All (led_to acting.Row was r)
      by role.Free e = none_led was
        where
          none_led : (r : Role) → All (led_to acting.Row r role.Free)
          none_led role.Free = tt
          none_led _ = tt
      by _ e = absurd (cc e)

  pub rows_elsewhere : (known : Known) (told : Changed) → TellsRow told → All (effects_of acting.Row known told)
  rows_elsewhere known changed.Nothing is = tt
  rows_elsewhere known (changed.Wrote (Slot t field) before after) is = tt
  rows_elsewhere known (changed.Wrote (Entry x field) before after) is = if_none (names_same before after) [] tt
  rows_elsewhere known (changed.Wrote (Root r) before after) is = absurd is
  rows_elsewhere known (changed.Wrote (Used r) before after) is = absurd is
  rows_elsewhere known (changed.Wrote (Word x field) before after) is = absurd is
  rows_elsewhere known (changed.Made k x) is = absurd is
  rows_elsewhere known (changed.Unmade k) is = absurd is
  rows_elsewhere known (changed.Took x) is = row_taken (known.roles x)
  rows_elsewhere known (changed.Roomed bucket had) is = acting_rooms
    where
      acting_rooms : All (effects_of acting.Row known (changed.Roomed bucket had))
      acting_rooms = if_none _ (effect.Asked _ ∷ []) (tt, tt)

  pub reclaiming_elsewhere : (known : Known) → known.roles 0 ≡ role.Free → (told : Changed) → TellsRow told ⊎ EmptiesRoot told → All (effects_of acting.Row known told)
  reclaiming_elsewhere known free told (inl row) = rows_elsewhere known told row
  reclaiming_elsewhere known free (changed.Wrote (Root r) old new) (inr empties) =
      if_none (names_same old new) (led_to acting.Row (named known old) (named known new)) (emptied known free (named known old) new empties)
  reclaiming_elsewhere known free (changed.Wrote (Used r) old new) (inr empties) = tt
  reclaiming_elsewhere known free _ (inr empties) = absurd empties

-- Maps have numbers of their own, whatever happens.
use Rattle.std.specs.Prelude.{◌&&◌, ◌≡◌, ℕ, suc, ◌+◌, ◌<◌, ◌==◌, nat_lt, Bool, true, false, not, cond, List, [], ◌∷◌, ◌++◌, filter, find, map, Option, Some, None, option_map, if◌then◌else◌}
use Rattle.std.specs.List.{All}
use Rattle.std.specs.Option.{option_or}
use Rattle.std.proofs.Common.{refl, ap, sym, subst, ◌∙◌, arith}
use Rattle.std.proofs.lemmas.Bool.{eq-eqb, eqb-true, ne_eqb}
use Rattle.std.proofs.lemmas.List.Elements.{All-append, All-cons, All-filter, All-map}
use Rattle.std.proofs.lemmas.List.Folds.{find-append}
use Rattle.run_shows.specs.Given.SeizeWordsDeclared.at.At.TheVariants.{Root, Used, Slot, Entry, Word}
use Rattle.run_shows.specs.Given.RunsSame.{is_same}
use Rattle.run_shows.specs.Given.RunsDeclared.effect.Effect.{Effect}
use Rattle.run_shows.specs.Given.RunsDeclared.effect.Effect.TheVariants.{Asked, Linked, Promoted, Retired, Reclaimed, Taken}
use Rattle.run_shows.specs.Given.RunsDeclared.effect.Growth.TheVariants.{ABucket}
use Rattle.run_shows.specs.Given.RunsDeclared.effect.TableId.{TableId}
use Rattle.run_shows.specs.Given.RunsDeclared.effect.Thing.TheVariants.{APair, ATable}
use Rattle.run_shows.specs.Given.SchedulesBeginning.{with_map}
use Rattle.run_shows.specs.Given.SchedulesEffects.{at_stage, promoted, with_effect, with_effects}
use Rattle.run_shows.specs.Given.SchedulesMoment.{MapThere, Stage, IsLinked, IsRetired, IsReclaimed, IsTaken, TableThere, Moment}
use Rattle.run_shows.specs.Given.SchedulesThings.{same_table}
use Rattle.run_shows.specs.Given.SchedulesViews.{map_at}
use Rattle.run_shows.specs.Given.EffectsDeclared.changed.Changed.{Changed}
use Rattle.run_shows.specs.Given.EffectsDeclared.changed.Changed.TheVariants as changed
use Rattle.run_shows.specs.Given.EffectsEffects.{map_of, pair_taken, table_taken, names_same, taken_by, effects_of}
use Rattle.run_shows.specs.Given.EffectsKnown.{Known}
use Rattle.run_shows.specs.Given.EffectsDeclared.acting.Acting.{Acting}
use Rattle.run_shows.specs.Given.EffectsDeclared.acting.Acting.TheVariants as acts
use Rattle.run_shows.specs.Given.EffectsDeclared.role.Role.{Role}
use Rattle.run_shows.specs.Given.EffectsDeclared.role.Role.TheVariants as role
use Rattle.run_shows.proofs.Others.EndBegins.{found_still}
use Rattle.run_shows.proofs.Others.RowPlans.{TellsRow, row_tells}
use Rattle.run_places.specs.Moments.Numbers.{NumbersMaps, NumbersBegin, MapsComeByNumber, MapsGo, StepsPreserveNumbers, NumbersAreBelow, RowsPreserveNumbers}
use Rattle.run_shows.proofs.Follows.OfEach.{OfEach, each_operation_so}

module _ {X : Type 0} where
  none_listed : (P : X → Type 0) → All P []
  none_listed P k d l = absurd (omega (arith, l))

  all_so : (P Q : X → Type 0) → ((x : X) → P x → Q x) → (xs : List X) → All P xs → All Q xs
  all_so P Q so xs all k d l = so _ (all k d l)

  -- what is found passes the test, and is one of the list
  pub found_of : (P : X → Type 0) (test : X → Bool) (xs : List X) (x : X) → All P xs → find test xs ≡ Some x → (test x ≡ true) × P x
  found_of P test [] x all is = absurd (cc is)
  found_of P test (y ∷ ys) x all is = by (test y) refl (λ later. found_of P test ys x (λ k d l. all (suc k) d (omega (arith, l))) later)
    where
      by : (q : Bool) → test y ≡ q → (find test ys ≡ Some x → (test x ≡ true) × P x) → (test x ≡ true) × P x
      by true e rest =
          let it : y ≡ x = (let here : cond true (Some y) (find test ys) ≡ Some x = ap (λ z. cond z (Some y) (find test ys)) (sym e) ∙ is in cc here) in
          (ap test (sym it) ∙ e, subst P it (all 0 y (omega arith)))
      by false e rest = rest (ap (λ z. cond z (Some y) (find test ys)) (sym e) ∙ is)

  -- what is so of those that are kept
  kept_so : (P Q : X → Type 0) (keep : X → Bool) → ((x : X) → P x → keep x ≡ true → Q x) → (xs : List X) → All P xs → All Q (filter keep xs)
  kept_so P Q keep so [] all = none_listed Q
  kept_so P Q keep so (y ∷ ys) all = by (keep y) refl (kept_so P Q keep so ys (λ k d l. all (suc k) d (omega (arith, l))))
    where
      by : (q : Bool) → keep y ≡ q → All Q (filter keep ys) → All Q (if q then y ∷ filter keep ys else filter keep ys)
      by true e rest = All-cons Q y (filter keep ys) (so y (all 0 y (omega arith)) e) rest
      by false e rest = rest

  -- where none passes, none is found, or kept
  none_found : (test : X → Bool) (xs : List X) → All (λ x. test x ≡ false) xs → find test xs ≡ None
  none_found test [] all = refl
  none_found test (y ∷ ys) all =
      ap (λ z. cond z (Some y) (find test ys)) (all 0 y (omega arith)) ∙ none_found test ys (λ k d l. all (suc k) d (omega (arith, l)))

  none_kept : (test : X → Bool) (xs : List X) → All (λ x. test x ≡ false) xs → filter test xs ≡ []
  none_kept test [] all = refl
  none_kept test (y ∷ ys) all =
      ap (λ z. if z then y ∷ filter test ys else filter test ys) (all 0 y (omega arith)) ∙ none_kept test ys (λ k d l. all (suc k) d (omega (arith, l)))

-- a map whose root's table is another one has its number
module _ (t : TableId) where
  number_same : (f : MapThere) → (promoted t f).number ≡ f.number
  number_same f = by (f.number == t.map)
    where
      by : (q : Bool) → (if q then record f { first = t.turn } else f).number ≡ f.number
      by true = refl
      by false = refl

  found_promoted : (number : ℕ) (fs : List MapThere) → find (λ f. f.number == number) (map (promoted t) fs) ≡ option_map (promoted t) (find (λ f. f.number == number) fs)
  found_promoted number [] = refl
  found_promoted number (f ∷ fs) =
      ap (λ n. cond (n == number) (Some (promoted t f)) (find (λ f. f.number == number) (map (promoted t) fs))) (number_same f) ∙ by (f.number == number) (found_promoted number fs)
    where
      by : (q : Bool) → find (λ f. f.number == number) (map (promoted t) fs) ≡ option_map (promoted t) (find (λ f. f.number == number) fs)
          → cond q (Some (promoted t f)) (find (λ f. f.number == number) (map (promoted t) fs)) ≡ option_map (promoted t) (cond q (Some f) (find (λ f. f.number == number) fs))
      by true rest = refl
      by false rest = rest

-- and a table at another stage is that table
pub stage_same : (t : TableId) (stage : Stage) (u : TableThere) → (at_stage t stage u).table ≡ u.table
stage_same t stage u = by (same_table u.table t)
  where
    by : (q : Bool) → (if q then record u { stage = stage } else u).table ≡ u.table
    by true = refl
    by false = refl

staged : (t : TableId) (stage : Stage) (made : ℕ) (tables : List TableThere) → All (λ u. u.table.map < made) tables → All (λ u. u.table.map < made) (map (at_stage t stage) tables)
staged t stage made tables all =
    All-map (λ u. u.table.map < made) (at_stage t stage) tables
    (all_so (λ u. u.table.map < made) (λ u. (at_stage t stage u).table.map < made) (λ u l. subst (λ (v : TableId). v.map < made) (sym (stage_same t stage u)) l) tables all)

-- a table that is linked is of a map that was made
abbrev LinksMade : ℕ → Effect → Type 0
LinksMade made (Linked t shape) = t.map < made
LinksMade made _ = Unit {0}

abbrev AllLinkMade : ℕ → List Effect → Type 0
AllLinkMade made [] = Unit {0}
AllLinkMade made (f ∷ effects) = LinksMade made f × AllLinkMade made effects

module _ {K V : Type 0} (caller : Option (List ℕ)) (acted : Option ℕ) where
  one_kept : (f : Effect) (m : Moment K V) → LinksMade m.made f → NumbersMaps m → NumbersMaps (with_effect caller acted f m)
  one_kept (Linked t shape) m l n = record {
    found = n.found;
    below = n.below;
    tables = All-append (λ u. u.table.map < m.made) m.tables (record { table = t; shape = shape; stage = IsLinked } ∷ []) n.tables
        (All-cons (λ u. u.table.map < m.made) (record { table = t; shape = shape; stage = IsLinked }) [] l (none_listed (λ u. u.table.map < m.made)));
  }
  one_kept (Promoted t) m l n = record {
    found = All-map (λ f. find (λ g. g.number == f.number) (map (promoted t) m.maps) ≡ Some f) (promoted t) m.maps
        (all_so (λ f. map_at f.number m ≡ Some f) (λ f. find (λ g. g.number == (promoted t f).number) (map (promoted t) m.maps) ≡ Some (promoted t f))
        (λ f is. found_promoted t (promoted t f).number m.maps ∙ ap (λ k. option_map (promoted t) (map_at k m)) (number_same t f) ∙ ap (option_map (promoted t)) is) m.maps n.found);
    below = All-map (λ f. f.number < m.made) (promoted t) m.maps
        (all_so (λ f. f.number < m.made) (λ f. (promoted t f).number < m.made) (λ f l. subst (λ k. k < m.made) (sym (number_same t f)) l) m.maps n.below);
    tables = n.tables;
  }
  one_kept (Retired (ATable t)) m l n = record { found = n.found; below = n.below; tables = staged t IsRetired m.made m.tables n.tables }
  one_kept (Retired (APair k)) m l n = record { found = n.found; below = n.below; tables = n.tables }
  one_kept (Reclaimed (ATable t)) m l n = record { found = n.found; below = n.below; tables = staged t IsReclaimed m.made m.tables n.tables }
  one_kept (Reclaimed (APair k)) m l n = record { found = n.found; below = n.below; tables = n.tables }
  one_kept (Taken t) m l n = record { found = n.found; below = n.below; tables = staged t IsTaken m.made m.tables n.tables }
  one_kept _ m l n = record { found = n.found; below = n.below; tables = n.tables }

  all_kept : (effects : List Effect) (m : Moment K V) → AllLinkMade m.made effects → NumbersMaps m → NumbersMaps (with_effects caller acted effects m)
  all_kept [] m l n = n
  all_kept (f ∷ effects) m l n = all_kept effects (with_effect caller acted f m) l.1 (one_kept f m l.0 n)

-- what steps link is of their map
module _ (made : ℕ) where
  pair_links : (acting : Acting) (n : ℕ) → LinksMade made (pair_taken acting n)
  pair_links (acts.Ending map) n = tt
  pair_links _ n = tt

  table_links : (acting : Acting) (t : TableId) → LinksMade made (table_taken acting t)
  table_links (acts.Ending map) t = tt
  table_links _ t = tt

  module _ (acting : Acting) (l : map_of acting < made) (known : Known) where
    each_links : OfEach acting known (AllLinkMade made)
    each_links = record {
      nothing = tt;
      linked = λ turn shape. (l, tt);
      deferred = λ n t. (tt, tt);
      stored = λ s. (tt, tt);
      replaced = λ old s. (tt, (tt, tt));
      removed = λ n. (tt, tt);
      copied = λ n s. (tt, tt);
      retired = λ x. (tt, tt);
      asked = (tt, tt);
      pair_made = (tt, (tt, tt));
      table_made = λ turn. (tt, (tt, tt));
      pair_given_up = (tt, tt);
      table_given_up = λ turn. (tt, tt);
    }

    acting_links : (told : Changed) → AllLinkMade made (effects_of acting known told)
    acting_links told =
        each_operation_so acting known (AllLinkMade made) each_links (λ t. (tt, tt)) (λ field. (tt, tt)) (λ n. (pair_links acting n, tt)) (λ t. (table_links acting t, tt)) (tt, tt) told

  -- a row links none
  row_taken : (r : Role) → AllLinkMade made (taken_by acts.Row r)
  row_taken (role.OwnPair c) = (tt, tt)
  row_taken (role.OwnTable turn shape) = (tt, tt)
  row_taken (role.Pair k) = (tt, tt)
  row_taken (role.Table t len) = (tt, tt)
  row_taken _ = tt

  row_if : (q : Bool) (a : List Effect) → AllLinkMade made a → AllLinkMade made (if q then [] else a)
  row_if true a all = tt
  row_if false a all = all

  row_links : (known : Known) (told : Changed) → TellsRow told → AllLinkMade made (effects_of acts.Row known told)
  row_links known changed.Nothing is = tt
  row_links known (changed.Wrote (Slot t field) before after) is = tt
  row_links known (changed.Wrote (Entry x field) before after) is = row_if (names_same before after) [] tt
  row_links known (changed.Wrote (Root r) before after) is = absurd is
  row_links known (changed.Wrote (Used r) before after) is = absurd is
  row_links known (changed.Wrote (Word x field) before after) is = absurd is
  row_links known (changed.Made k x) is = absurd is
  row_links known (changed.Unmade k) is = absurd is
  row_links known (changed.Took x) is = row_taken (known.roles x)
  row_links known (changed.Roomed bucket had) is = row_if (had && nat_lt bucket known.buckets) (Asked ABucket ∷ []) (tt, tt)

pub numbers_begin : (K V : Type 0) → NumbersBegin K V
numbers_begin K V = record { found = λ k d l. absurd (omega (arith, l)); below = λ k d l. absurd (omega (arith, l)); tables = λ k d l. absurd (omega (arith, l)) }

pub steps_keep_numbers : (K V : Type 0) → StepsPreserveNumbers K V
steps_keep_numbers K V m n caller acted acting known told l = all_kept caller acted (effects_of acting known told) m (acting_links m.made acting l known told) n

pub numbers_are_below : (K V : Type 0) → NumbersAreBelow K V
numbers_are_below K V m n number there is =
    let it = found_of (λ f. f.number < m.made) (λ f. f.number == number) m.maps there n.below is in
    subst (λ k. k < m.made) (eqb-true there.number number it.0) it.1

module _ {K V : Type 0} (m : Moment K V) (n : NumbersMaps m) (there : MapThere) (next : there.number ≡ m.made) where
  abbrev test : ℕ → MapThere → Bool
  test number f = f.number == number

  none_before : find (test there.number) m.maps ≡ None
  none_before =
      none_found (test there.number) m.maps
      (all_so (λ f. f.number < m.made) (λ f. test there.number f ≡ false) (λ f l. ne_eqb f.number there.number (λ e. omega (arith, l, e, next))) m.maps n.below)

  -- a map that comes is the one of its number
  pub itself : map_at there.number (with_map there m) ≡ Some there
  itself =
      find-append (test there.number) m.maps (there ∷ []) ∙ ap (λ o. option_or o (find (test there.number) (there ∷ []))) none_before
      ∙ ap (λ z. cond z (Some there) None) (eq-eqb there.number there.number refl)

pub maps_come_by_number : (K V : Type 0) → MapsComeByNumber K V
maps_come_by_number K V m n there next = (
  record {
    found = All-append Then m.maps (there ∷ [])
        (all_so (λ f. map_at f.number m ≡ Some f) Then
        (λ f is. find-append (λ (g : MapThere). g.number == f.number) m.maps (there ∷ []) ∙ ap (λ o. option_or o (find (λ (g : MapThere). g.number == f.number) (there ∷ []))) is) m.maps n.found)
        (All-cons Then there [] (itself m n there next) (none_listed Then));
    below = All-append Below m.maps (there ∷ []) (all_so (λ f. f.number < m.made) Below (λ f l. omega (arith, l)) m.maps n.below)
        (All-cons Below there [] (omega (arith, next)) (none_listed Below));
    tables = all_so (λ t. t.table.map < m.made) (λ t. t.table.map < m.made + 1) (λ t l. omega (arith, l)) m.tables n.tables;
  },
  none_kept (λ t. t.table.map == there.number) m.tables (all_so (λ t. t.table.map < m.made) (λ t. (t.table.map == there.number) ≡ false) (λ t l. ne_eqb t.table.map there.number (λ e. omega (arith, l, e, next))) m.tables n.tables),
)
  where
    Then : MapThere → Type 0
    Then f = find (λ g. g.number == f.number) (m.maps ++ there ∷ []) ≡ Some f

    Below : MapThere → Type 0
    Below f = f.number < m.made + 1

pub maps_go : (K V : Type 0) → MapsGo K V
maps_go K V m n own remains = record {
  found = kept_so (λ f. map_at f.number m ≡ Some f) (λ f. find (λ g. g.number == f.number) (filter keep m.maps) ≡ Some f) keep
      (λ f is kept. found_still (λ g. g.number == f.number) keep m.maps f is kept) m.maps n.found;
  below = All-filter keep (λ f. f.number < m.made) m.maps n.below;
  tables = n.tables;
}
  where
    keep : MapThere → Bool
    keep f = not (is_same f.name own)

module _ (K V : Type 0) (same : K → K → Bool) (hash : ℕ → K → ℕ) where
  pub rows_keep_numbers : RowsPreserveNumbers K V same hash
  rows_keep_numbers m n known s old new i told leads row here =
      let to = leads row here in
      all_kept None None (effects_of acts.Row known new.changed) m
      (row_links m.made known new.changed (row_tells old.memory new.memory new.changed (to.0, told) row to.1)) n

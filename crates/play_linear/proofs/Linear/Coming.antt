-- A map that is being made stays unknown, or new, by what others do on other maps.
use Rattle.std.specs.Prelude.{◌≡◌, ◌≢◌, ◌==◌, ◌&&◌, ◌||◌, ℕ, Bool, true, false, not, cond, List, [], ◌∷◌, filter, find, Option, Some, None, if◌then◌else◌}
use Rattle.std.specs.List.{list_any}
use Rattle.std.specs.Option.{option_or}
use Rattle.std.proofs.Common.{refl, ap, sym, ◌∙◌}
use Rattle.std.proofs.lemmas.Bool.{eq-eqb, eqb-true, ne_eqb}
use Rattle.std.proofs.lemmas.List.Folds.{find-append}
use Rattle.run_schedules.specs.Runs.Same.{is_same}
use Rattle.play_lists.specs.Given.TablesDeclared.setting.Setting.{Setting}
use Rattle.play_lists.specs.Given.FinishesMakings.{Beginning}
use Rattle.run_schedules.specs.declared.effect.TableId.{TableId}
use Rattle.run_schedules.specs.Schedules.Effects.{with_effects}
use Rattle.run_schedules.specs.Schedules.Moment.{MapThere, Moment, Place, TableThere}
use Rattle.run_schedules.specs.Schedules.Things.{same_table}
use Rattle.run_schedules.specs.Schedules.Views.{is_there, map_at, tables_of}
use Rattle.play_lists.specs.Given.EffectsDeclared.changed.Changed.{Changed}
use Rattle.play_lists.specs.Given.EffectsEffects.{effects_of, map_of}
use Rattle.play_lists.specs.Given.EffectsKnown.{Known}
use Rattle.play_lists.specs.Given.EffectsDeclared.acting.Acting.{Acting}
use Rattle.play_lists.specs.Given.EffectsDeclared.acting.Acting.TheVariants as acts
use Rattle.play_lists.specs.Given.EffectsDeclared.role.Role.TheVariants as role
use Rattle.play_lists.specs.Given.OthersMakings.{IsNew}
use Rattle.run_logged.specs.Given.SpotsUnreclaimed.{RefinesUnreclaimed}
use Rattle.play_lists.proofs.Given.OthersEndBegins.{found_still}
use Rattle.play_lists.proofs.Given.OthersRowPlans.{TellsRow}
use Rattle.run_logged.proofs.Given.MomentsNumbers.{found_of}
use Rattle.play_lists.proofs.Agrees.Elsewhere.{SameOf, acting_elsewhere, effects_elsewhere, rows_elsewhere}
use Rattle.run_schedules.specs.Deeds.Deeds.{come, named, without_map}
use Rattle.play_lists.specs.Played.Play.{has_root}
use Rattle.play_lists.proofs.Played.Noted.{apart}
use Rattle.play_linear.specs.Linear.Coming.{Comes, ComesBy, IsUnknown}
use Rattle.play_lists.specs.Agrees.Fresh.{AreNamed, IsNamed}

module _ {K V : Type 0} where
  pub unknown_on : (map : ℕ) (m v : Moment K V) → SameOf map m v → IsUnknown map m → IsUnknown map v
  unknown_on map m v same unknown = record {
    none = same.there ∙ unknown.none;
    no_pairs = λ n at. unknown.no_pairs n (same.pairs n at);
    no_tables = same.tables unknown.no_tables;
  }

  pub new_on : (map : ℕ) (setting : Setting) (m v : Moment K V) → SameOf map m v → IsNew map setting m → IsNew map setting v
  new_on map setting m v same new = record {
    there = new.there;
    is = same.there ∙ new.is;
    root = new.root;
    mode = new.mode;
    first = new.first;
    no_pairs = λ n at. new.no_pairs n (same.pairs n at);
    no_tables = same.tables new.no_tables;
  }

  pub comes_on : (b : Beginning K) (m v : Moment K V) → SameOf b.map m v → Comes b m → Comes b v
  comes_on b m v same = by (has_root b.machine.stands)
    where
      by : (q : Bool) → ComesBy q b m → ComesBy q b v
      by true new = new_on b.map _ m v same new
      by false unknown = unknown_on b.map m v same unknown

  -- it has no table
  pub comes_bare : (b : Beginning K) (m : Moment K V) → Comes b m → tables_of b.map m ≡ []
  comes_bare b m = by (has_root b.machine.stands)
    where
      by : (q : Bool) → ComesBy q b m → tables_of b.map m ≡ []
      by true new = new.no_tables
      by false unknown = unknown.no_tables

  -- of another moment with the same maps, pairs and tables all is the same
  pub same_of : (map : ℕ) (m v : Moment K V) → v.maps ≡ m.maps → v.place ≡ m.place → v.tables ≡ m.tables → SameOf map m v
  same_of map m v maps place tables = record {
    there = ap (λ (fs : List MapThere). map_at map (record m { maps = fs })) maps;
    pairs = λ k is. sym (ap (λ (f : ℕ → Place). f k) place) ∙ is;
    tables = λ none. ap (λ (ts : List TableThere). tables_of map (record m { tables = ts })) tables ∙ none;
  }

  pub same_then : (map : ℕ) (m v w : Moment K V) → SameOf map m v → SameOf map v w → SameOf map m w
  same_then map m v w first second = record {
    there = second.there ∙ first.there;
    pairs = λ k is. first.pairs k (second.pairs k is);
    tables = λ none. second.tables (first.tables none);
  }

-- A map without tables has none that is noted.
module _ (map : ℕ) (t : TableId) (here : t.map ≡ map) where
  none_so : (us : List TableThere) → filter (λ u. u.table.map == map) us ≡ [] → list_any (λ u. same_table u.table t && is_there u.stage) us ≡ true → ⊥
  none_so [] none any = cc any
  none_so (u ∷ us) none any = by (u.table.map == map) refl none (none_so us)
    where
      by : (q : Bool) → (u.table.map == map) ≡ q → (if q then u ∷ filter (λ v. v.table.map == map) us else filter (λ v. v.table.map == map) us) ≡ []
          → (filter (λ v. v.table.map == map) us ≡ [] → list_any (λ v. same_table v.table t && is_there v.stage) us ≡ true → ⊥) → ⊥
      by true e is later = cc is
      by false e is later =
          let other : (u.table.map == t.map) ≡ false = ap (λ (k : ℕ). u.table.map == k) here ∙ e in
          later is (sym (ap (λ (q : Bool). ((q && (u.table.turn == t.turn)) && is_there u.stage) || list_any (λ v. same_table v.table t && is_there v.stage) us) other) ∙ any)

module _ {K V : Type 0} (m : Moment K V) (known : Known) (held : RefinesUnreclaimed m known) (map : ℕ) (none : tables_of map m ≡ []) where
  pub no_table_of : (b : ℕ) (t : TableId) (len : ℕ) → known.roles b ≡ role.Table t len → t.map ≢ map
  no_table_of b t len is here = none_so map t here m.tables none (held.tables b len t is)

  -- Who acts on another map leaves it,
  pub others_leave : (who : Acting) → map_of who ≢ map → (told : Changed) (caller : Option (List ℕ)) (acted : Option ℕ) → acted ≢ Some map → SameOf map m (with_effects caller acted (effects_of who known told) m)
  others_leave who other told caller acted elsewhere =
      effects_elsewhere map caller acted elsewhere (effects_of who known told) m (acting_elsewhere map (λ (t : TableId). t.map ≢ map) who other known no_table_of told)

  -- and so does a row.
  pub rows_leave : (told : Changed) → TellsRow told → SameOf map m (with_effects None None (effects_of acts.Row known told) m)
  rows_leave told tells = effects_elsewhere map None None (λ e. cc e) (effects_of acts.Row known told) m (rows_elsewhere map (λ (t : TableId). t.map ≢ map) known told tells)

-- among those that are kept none is found either
none_kept : (map : ℕ) (keep : MapThere → Bool) (fs : List MapThere) → find (λ f. f.number == map) fs ≡ None → find (λ f. f.number == map) (filter keep fs) ≡ None
none_kept map keep [] none = refl
none_kept map keep (f ∷ fs) none = by (f.number == map) refl (keep f) none (none_kept map keep fs)
  where
    by : (p : Bool) → (f.number == map) ≡ p → (q : Bool) → cond p (Some f) (find (λ g. g.number == map) fs) ≡ None
        → (find (λ g. g.number == map) fs ≡ None → find (λ g. g.number == map) (filter keep fs) ≡ None)
        → find (λ g. g.number == map) (if q then f ∷ filter keep fs else filter keep fs) ≡ None
    by true e q is later = absurd (cc is)
    by false e true is later = ap (λ (p : Bool). cond p (Some f) (find (λ g. g.number == map) (filter keep fs))) e ∙ later is
    by false e false is later = later is

-- So it is where another map comes, or is there no more.
module _ {K V : Type 0} (map own : ℕ) (other : own ≢ map) where
  pub come_leaves : (f : MapThere) (m : Moment K V) → f.number ≡ own → SameOf map m (come f m)
  come_leaves f m is = record {
    there = find-append (λ (g : MapThere). g.number == map) m.maps (f ∷ [])
        ∙ ap (λ (q : Bool). option_or (map_at map m) (cond q (Some f) None)) (ne_eqb f.number map (λ e. other (sym is ∙ e))) ∙ none_more (map_at map m);
    pairs = λ k at. at;
    tables = λ none. none;
  }
    where
      none_more : (o : Option MapThere) → option_or o None ≡ o
      none_more None = refl
      none_more (Some g) = refl

  pub gone_leaves : (m v : Moment K V) → AreNamed m → v.maps ≡ without_map own m.maps → v.place ≡ m.place → v.tables ≡ m.tables → SameOf map m v
  gone_leaves m v names maps place tables = record {
    there = ap (λ (fs : List MapThere). find (λ f. f.number == map) fs) maps ∙ by (map_at map m) refl;
    pairs = λ k is. sym (ap (λ (f : ℕ → Place). f k) place) ∙ is;
    tables = λ none. ap (λ (ts : List TableThere). filter (λ t. t.table.map == map) ts) tables ∙ none;
  }
    where
      keep : MapThere → Bool
      keep f = not (is_same f.name (named own))

      by : (o : Option MapThere) → map_at map m ≡ o → find (λ f. f.number == map) (filter keep m.maps) ≡ map_at map m
      by None is = none_kept map keep m.maps is ∙ sym is
      by (Some there) is =
          let found = found_of IsNamed (λ f. f.number == map) m.maps there names is in
          let name : there.name ≡ named map = found.1 ∙ ap named (eqb-true there.number map found.0) in
          found_still (λ f. f.number == map) keep m.maps there is (ap (λ (l : List ℕ). not (is_same l (named own))) name ∙ ap not (apart map own other)) ∙ sym is

-- A map that comes is the one of its number.
pub come_there : {K V : Type 0} (f : MapThere) (m : Moment K V) → map_at f.number m ≡ None → map_at f.number (come f m) ≡ Some f
come_there f m none =
    find-append (λ (g : MapThere). g.number == f.number) m.maps (f ∷ []) ∙ ap (λ (o : Option MapThere). option_or o (find (λ g. g.number == f.number) (f ∷ []))) none
    ∙ ap (λ (q : Bool). cond q (Some f) None) (eq-eqb f.number f.number refl)

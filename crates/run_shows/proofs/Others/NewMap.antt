-- A map that stands as a new one, without a pair, and with one table at most, is shown.
use Rattle.std.specs.Prelude.{◌≡◌, ℕ, ◌==◌, [], ◌∷◌, find}
use Rattle.std.proofs.Common.{refl, ap, sym, subst, ◌∙◌, arith}
use Rattle.run_effects.specs.Given.TablesDeclared.setting.Setting.{Setting}
use Rattle.run_effects.specs.Given.SchedulesMoment.{Place, Stage, IsLinked, Moment}
use Rattle.run_effects.specs.Given.SchedulesViews.{tables_of}
use Rattle.many_maps.specs.Maps.{Standing}
use Rattle.run_effects.specs.Effects.Known.{Known}
use Rattle.run_effects.specs.declared.role.Role.TheVariants as role
use Rattle.run_shows.specs.Follows.Maps.{table_of, shape_at, tables_to, RefinesTables, RefinesMap}
use Rattle.run_shows.specs.Others.Makings.{IsNew}

module _ {K V : Type 0} (map : ℕ) (st : Standing K) (m v : Moment K V) (after : Known) where
  abbrev linked_all : ℕ → Stage
  linked_all t = IsLinked

  -- it has no table
  pub no_tables_shown : st.chart.past ≡ 0 → tables_of map v ≡ [] → RefinesTables map st v after
  no_tables_shown none listed = record {
    roles = λ t l seen. absurd (omega (arith, l, none));
    stage = linked_all;
    listed = listed ∙ sym (ap (tables_to map st.chart linked_all) none);
    linked = λ t l made. refl;
  }

  -- or one, with this block
  pub one_table_shown : st.chart.past ≡ 1 → after.roles (st.blocks.table 0) ≡ role.Table (table_of map 0) (st.chart.len 0)
      → tables_of map v ≡ record { table = table_of map 0; shape = shape_at map st.chart 0; stage = IsLinked } ∷ [] → RefinesTables map st v after
  one_table_shown one its listed = record {
    roles = λ t l seen. (let first : t ≡ 0 = omega (arith, l, one) in subst (λ (x : ℕ). after.roles (st.blocks.table x) ≡ role.Table (table_of map x) (st.chart.len x)) (sym first) its);
    stage = linked_all;
    listed = listed ∙ sym (ap (tables_to map st.chart linked_all) one);
    linked = λ t l made. refl;
  }

  pub new_shown : (setting : Setting) → IsNew map setting m → st.setting ≡ setting → st.chart.stored ≡ 0 → st.chart.first ≡ 0 → v.place ≡ m.place → v.maps ≡ m.maps
      → after.roles setting.counter ≡ role.Counter map → RefinesTables map st v after → RefinesMap map (λ n. 0) st v after
  new_shown setting new setting_is none first place maps counter tables = record {
    there = record {
      there = new.there;
      is = ap (λ fs. find (λ f. f.number == map) fs) maps ∙ new.is;
      root = new.root ∙ sym (ap (λ (x : Setting). x.root) setting_is);
      mode = new.mode ∙ sym (ap (λ (x : Setting). x.mode) setting_is);
      first = new.first ∙ sym first;
    };
    pairs = record {
      roles = λ n l seen. absurd (omega (arith, l, none));
      numbered = λ n l. absurd (omega (arith, l, none));
      rising = λ n o less l. absurd (omega (arith, l, none));
      born = λ n l. absurd (omega (arith, l, none));
      here = λ n l. absurd (omega (arith, l, none));
      all = λ k at. absurd (new.no_pairs k (ap (λ (f : ℕ → Place). f k) (sym place) ∙ at));
    };
    tables = tables;
    counter = ap (λ (x : Setting). after.roles x.counter) setting_is ∙ counter;
  }

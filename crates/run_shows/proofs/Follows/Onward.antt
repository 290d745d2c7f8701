-- A map that is as it was, at a moment that is alike to it, is shown as before.
use Rattle.std.specs.Prelude.{◌≡◌, ℕ, zero, suc, ◌<◌, true, List, ◌∷◌, ◌++◌, []}
use Rattle.std.proofs.Common.{refl, ap, sym, subst, ◌∙◌, arith}
use Rattle.run_effects.specs.Given.TablesDeclared.setting.Setting.{Setting}
use Rattle.run_effects.specs.Given.SchedulesMoment.{Stage, TableThere, Moment}
use Rattle.run_effects.specs.Given.RuleChart.{Chart}
use Rattle.run_effects.specs.Given.RuleWords.{Blocks}
use Rattle.many_maps.specs.Given.CallersSights.{IsPartOf, IsGrown}
use Rattle.many_maps.specs.Maps.{Standing}
use Rattle.run_effects.specs.Effects.Known.{Known}
use Rattle.run_effects.specs.declared.role.Role.{Role}
use Rattle.run_effects.specs.declared.role.Role.TheVariants as role
use Rattle.run_shows.specs.Follows.Maps.{table_of, shape_at, tables_to, RefinesPairs, RefinesTables, RefinesPresence, RefinesMap}
use Rattle.run_shows.proofs.Follows.Alike.{AlikePairs, AlikeTables, IsAlike}

-- a block that was linked, or that is a counter
abbrev pub IsLasting : Role → Type 0
IsLasting (role.Pair n) = Unit {0}
IsLasting (role.Table t len) = Unit {0}
IsLasting (role.Counter map) = Unit {0}
IsLasting _ = ⊥

-- a pair, or a table, of a map
abbrev pub IsOfMap : Role → Type 0
IsOfMap (role.Pair n) = Unit {0}
IsOfMap (role.Table t len) = Unit {0}
IsOfMap _ = ⊥

-- such blocks are what they were
abbrev pub KeepsRoles : Known → Known → Type 0
KeepsRoles known known2 = (b : ℕ) → IsLasting (known.roles b) → known2.roles b ≡ known.roles b

module _ {K : Type 0} where
  -- no table has come or passed
  pub record StaysTables (c c2 : Chart K) : Type 0 where
    pub past : c2.past ≡ c.past
    pub first : c2.first ≡ c.first
    pub lens : (t : ℕ) → t < c.past → (c2.len t ≡ c.len t) × (c2.limit t ≡ c.limit t)

  -- and no pair
  pub record StaysPairs (c c2 : Chart K) : Type 0 where
    pub stored : c2.stored ≡ c.stored
    pub current : (n : ℕ) → n < c.stored → c2.current n ≡ c.current n

  -- what may be looked at then could be before
  pub record StaysBlocks (c : Chart K) (blocks blocks2 : Blocks) : Type 0 where
    pub tables : (t : ℕ) → t < c.past → blocks2.table_known t ≡ true → (blocks2.table t ≡ blocks.table t) × (blocks.table_known t ≡ true)
    pub pairs : (n : ℕ) → n < c.stored → blocks2.pair_known n ≡ true → (blocks2.pair n ≡ blocks.pair n) × (blocks.pair_known n ≡ true)

  pub tables_same : (c : Chart K) → StaysTables c c
  tables_same c = record { past = refl; first = refl; lens = λ t l. (refl, refl) }

  pub pairs_same : (c : Chart K) → StaysPairs c c
  pairs_same c = record { stored = refl; current = λ n l. refl }

  pub blocks_same : (c : Chart K) (blocks : Blocks) → StaysBlocks c blocks blocks
  blocks_same c blocks = record { tables = λ t l known. (refl, known); pairs = λ n l known. (refl, known) }

  pub blocks_part : (c : Chart K) (blocks blocks2 : Blocks) → IsPartOf c blocks2 blocks → StaysBlocks c blocks blocks2
  blocks_part c blocks blocks2 part = record {
    tables = λ t l known. (part.tables t, part.tables_known t l known);
    pairs = λ n l known. (part.pairs n, part.pairs_known n l known);
  }

  pub blocks_grown : (c : Chart K) (blocks seen blocks2 : Blocks) → IsGrown c blocks seen blocks2 → StaysBlocks c blocks blocks2
  blocks_grown c blocks seen blocks2 grown = record {
    tables = λ t l known. ((grown.tables t l).0, sym (grown.tables t l).1 ∙ known);
    pairs = λ n l known. ((grown.pairs n l).0, sym (grown.pairs n l).1 ∙ known);
  }

  -- tables that are as long are told so
  pub tables_as_long : (map : ℕ) (c c2 : Chart K) (stage : ℕ → Stage) (n : ℕ) → ((t : ℕ) → t < n → (c2.len t ≡ c.len t) × (c2.limit t ≡ c.limit t))
      → tables_to map c stage n ≡ tables_to map c2 stage n
  tables_as_long map c c2 stage zero same = refl
  tables_as_long map c c2 stage (suc t) same =
      let rest = tables_as_long map c c2 stage t (λ u l. same u (omega (arith, l))) in
      let here = same t (omega arith) in
      ap (λ (ts : List TableThere). ts ++ record { table = table_of map t; shape = shape_at map c t; stage = stage t } ∷ []) rest
      ∙ ap (λ (n : ℕ). tables_to map c2 stage t ++ record { table = table_of map t; shape = record { len = n; limit = c.limit t }; stage = stage t } ∷ []) (sym here.0)
      ∙ ap (λ (n : ℕ). tables_to map c2 stage t ++ record { table = table_of map t; shape = record { len = c2.len t; limit = n }; stage = stage t } ∷ []) (sym here.1)

module _ {K V : Type 0} (map : ℕ) (number : ℕ → ℕ) (s s2 : Standing K) (m m2 : Moment K V) (known known2 : Known)
    (blocks : StaysBlocks s.chart s.blocks s2.blocks) (keeps : KeepsRoles known known2) where
  module _ (chart : StaysPairs s.chart s2.chart) (alike : AlikePairs map m m2) where
    before : (n : ℕ) → n < s2.chart.stored → n < s.chart.stored
    before n l = let e = chart.stored in omega (arith, l, e)

    pub pairs_on : RefinesPairs map number s m known → RefinesPairs map number s2 m2 known2
    pairs_on h = record {
      roles = λ n l seen.
          let k = blocks.pairs n (before n l) seen in
          let was = h.roles n (before n l) k.1 in
          ap known2.roles k.0 ∙ keeps (s.blocks.pair n) (subst IsLasting (sym was) tt) ∙ was;
      numbered = λ n l. let k = h.numbered n (before n l) in (k.0, let more = alike.stored in let le = k.1 in omega (arith, more, le));
      rising = λ n o l lo. h.rising n o l (before o lo);
      born = λ n l. alike.born (number n) (h.numbered n (before n l)).1 ∙ h.born n (before n l);
      here = λ n l. alike.place (number n) (h.numbered n (before n l)).1 ∙ h.here n (before n l) ∙ sym (chart.current n (before n l));
      all = λ k at. let q = h.all k (alike.all k at) in (q.0, (let e = chart.stored in let l = q.1 in omega (arith, e, l)), q.2);
    }

  module _ (setting : s2.setting ≡ s.setting) (chart : StaysTables s.chart s2.chart) (alike : AlikeTables map m m2) where
    pub there_on : RefinesPresence map s m known → RefinesPresence map s2 m2 known2
    there_on h = record {
      there = h.there;
      is = alike.there ∙ h.is;
      root = h.root ∙ ap (λ (x : Setting). x.root) (sym setting);
      mode = h.mode ∙ ap (λ (x : Setting). x.mode) (sym setting);
      first = h.first ∙ sym chart.first;
    }

    table_before : (t : ℕ) → t < s2.chart.past → t < s.chart.past
    table_before t l = let e = chart.past in omega (arith, l, e)

    pub tables_on : RefinesTables map s m known → RefinesTables map s2 m2 known2
    tables_on h = record {
      roles = λ t l seen.
          let k = blocks.tables t (table_before t l) seen in
          let was = h.roles t (table_before t l) k.1 in
          ap known2.roles k.0 ∙ keeps (s.blocks.table t) (subst IsLasting (sym was) tt) ∙ was ∙ ap (role.Table (table_of map t)) (sym (chart.lens t (table_before t l)).0);
      stage = h.stage;
      listed = alike.tables ∙ h.listed ∙ tables_as_long map s.chart s2.chart h.stage s.chart.past chart.lens ∙ ap (tables_to map s2.chart h.stage) (sym chart.past);
      linked = λ t l made. h.linked t (let e = chart.first in omega (arith, l, e)) (table_before t made);
    }

  pub counter_on : s2.setting ≡ s.setting → known.roles s.setting.counter ≡ role.Counter map → known2.roles s2.setting.counter ≡ role.Counter map
  counter_on setting is = ap (λ (x : Setting). known2.roles x.counter) setting ∙ keeps s.setting.counter (subst IsLasting (sym is) tt) ∙ is

  pub map_on : s2.setting ≡ s.setting → StaysTables s.chart s2.chart → StaysPairs s.chart s2.chart → IsAlike map m m2 → RefinesMap map number s m known → RefinesMap map number s2 m2 known2
  map_on setting tables pairs alike h = record {
    there = there_on setting tables alike.tables h.there;
    pairs = pairs_on pairs alike.pairs h.pairs;
    tables = tables_on setting tables alike.tables h.tables;
    counter = counter_on setting h.counter;
  }

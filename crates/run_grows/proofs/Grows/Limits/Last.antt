-- A table that none is linked behind is the last of its map; and a moment that shows the map has it in its chain: at the limit, where none can follow it.
use Rattle.std.specs.Prelude.{◌≡◌, ◌⊎◌, ℕ, zero, suc, ◌^◌, ◌<◌, ◌≤◌, ◌&&◌, ◌||◌, nat_le, Bool, true, false, List, [], ◌∷◌, ◌++◌, filter, Some, if◌then◌else◌}
use Rattle.std.specs.List.{list_any}
use Rattle.std.proofs.Common.{refl, ap, subst, ◌∙◌, inl, inr, arith}
use Rattle.std.proofs.lemmas.Bool.{cases_lt, le-leb}
use Rattle.run_finds.specs.Given.SeizeWordsMem.{word_at}
use Rattle.papaya_raw.specs.Given.SeizeWorld.{World}
use Rattle.papaya_raw.specs.Given.TablesLengths.{CannotBeFollowed, IsTableLen}
use Rattle.papaya_raw.specs.Given.TablesTablePlaces.{at_word}
use Rattle.papaya_raw.specs.Given.TablesDeclared.node.Node.{Node}
use Rattle.papaya_raw.specs.Given.TablesDeclared.setting.Setting.{Setting}
use Rattle.papaya_raw.specs.Given.TablesDeclared.table.Table.{Table}
use Rattle.papaya_raw.specs.Given.TablesDeclared.table_words.TheConstants.{NEXT}
use Rattle.run_finds.specs.Given.RuleChart.{Chart}
use Rattle.run_finds.specs.Given.RuleInWorld.{IsMapIn}
use Rattle.run_finds.specs.Given.RuleMaps.{IsTable}
use Rattle.run_finds.specs.Given.RuleWords.{Blocks}
use Rattle.run_schedules.specs.Schedules.Moment.{Moment, Stage, TableThere}
use Rattle.run_schedules.specs.Schedules.Views.{first_of, tables_of}
use Rattle.run_finds.specs.Given.EffectsKnown.{Known}
use Rattle.run_finds.specs.Given.FinishesMaps.{Standing}
use Rattle.run_finds.specs.Given.FollowsMaps.{RefinesMap, shape_at, table_of, tables_to}
use Rattle.papaya_raw.proofs.Given.TablesEnds.{longest}
use Rattle.run_finds.proofs.Given.FollowsFinds.{first_is}
use Rattle.run_finds.proofs.Grows.There.{last_has_none}
use Rattle.run_grows.specs.Grows.Limits.{IsAtLimit}
use Rattle.run_finds.proofs.Given.General.{or_either as or_one}

-- as long as a table can be, or with the last turn
abbrev pub is_longest : TableThere → Bool
is_longest t = nat_le (2 ^ 48) t.shape.len || nat_le (2 ^ 63) t.table.turn

-- a list in which one is so, as far as it is looked at, has one
pub any_ahead : (q : TableThere → Bool) (xs ys : List TableThere) → list_any q xs ≡ true → list_any q (xs ++ ys) ≡ true
any_ahead q [] ys is = absurd (cc is)
any_ahead q (x ∷ xs) ys is = by (q x) (any_ahead q xs ys) is
  where
    by : (b : Bool) → (list_any q xs ≡ true → list_any q (xs ++ ys) ≡ true) → (b || list_any q xs) ≡ true → (b || list_any q (xs ++ ys)) ≡ true
    by true rest is = refl
    by false rest is = rest is

any_last : (q : TableThere → Bool) (xs : List TableThere) (y : TableThere) → q y ≡ true → list_any q (xs ++ y ∷ []) ≡ true
any_last q [] y is = ap (λ (b : Bool). b || false) is
any_last q (x ∷ xs) y is = by (q x) (any_last q xs y is)
  where
    by : (b : Bool) → list_any q (xs ++ y ∷ []) ≡ true → (b || list_any q (xs ++ y ∷ [])) ≡ true
    by true rest = refl
    by false rest = rest

-- so is one that passes a test, too
any_filtered : (p q : TableThere → Bool) (xs : List TableThere) → list_any (λ t. p t && q t) xs ≡ true → list_any q (filter p xs) ≡ true
any_filtered p q [] is = absurd (cc is)
any_filtered p q (x ∷ xs) is = by (p x) (q x) refl (any_filtered p q xs) is
  where
    by : (a b : Bool) → q x ≡ b → (list_any (λ t. p t && q t) xs ≡ true → list_any q (filter p xs) ≡ true) → ((a && b) || list_any (λ t. p t && q t) xs) ≡ true
        → list_any q (if a then x ∷ filter p xs else filter p xs) ≡ true
    by true true here rest is = ap (λ (b : Bool). b || list_any q (filter p xs)) here
    by true false here rest is = ap (λ (b : Bool). b || list_any q (filter p xs)) here ∙ rest is
    by false b here rest is = rest is

-- one of so many tables
any_of : {K : Type 0} (map : ℕ) (c : Chart K) (stage : ℕ → Stage) (q : TableThere → Bool) (t n : ℕ) → t < n → q (record { table = table_of map t; shape = shape_at map c t; stage = stage t }) ≡ true
    → list_any q (tables_to map c stage n) ≡ true
any_of map c stage q t zero less is = absurd (omega (arith, less))
any_of map c stage q t (suc n) less is = elim (cases_lt t n) as (λ _. list_any q (tables_to map c stage (suc n)) ≡ true) [
  | inl below ↦ any_ahead q (tables_to map c stage n) (record { table = table_of map n; shape = shape_at map c n; stage = stage n } ∷ []) (any_of map c stage q t n below is)
  | inr above ↦
      any_last q (tables_to map c stage n) (record { table = table_of map n; shape = shape_at map c n; stage = stage n })
      (let same : t ≡ n = omega (arith, less, above) in subst (λ (k : ℕ). q (record { table = table_of map k; shape = shape_at map c k; stage = stage k }) ≡ true) same is)
]

-- So a table of the map from its root on that none can follow is shown at the limit.
pub limit_there : {K V : Type 0} (map : ℕ) (number : ℕ → ℕ) (s : Standing K) (m : Moment K V) (known : Known) → RefinesMap map number s m known → (t : ℕ) → s.chart.first ≤ t → t < s.chart.past → IsTableLen (s.chart.len t)
    → CannotBeFollowed (s.chart.len t) t → IsAtLimit map m
limit_there {K} map number s m known shown t from made sized none =
    any_filtered (λ (u : TableThere). nat_le (first_of map m) u.table.turn) is_longest (tables_of map m)
    (ap (λ (l : List TableThere). list_any both l) shown.tables.listed ∙ any_of map s.chart shown.tables.stage both t s.chart.past made is_both)
  where
    both : TableThere → Bool
    both u = nat_le (first_of map m) u.table.turn && is_longest u

    long : CannotBeFollowed (s.chart.len t) t → (nat_le (2 ^ 48) (s.chart.len t) ≡ true) ⊎ (nat_le (2 ^ 63) t ≡ true)
    long (inl more) = inl (le-leb (2 ^ 48) (s.chart.len t) (longest (s.chart.len t) sized more))
    long (inr late) = inr (le-leb (2 ^ 63) t late)

    is_both : (nat_le (first_of map m) t && (nat_le (2 ^ 48) (s.chart.len t) || nat_le (2 ^ 63) t)) ≡ true
    is_both =
        ap (λ (b : Bool). b && (nat_le (2 ^ 48) (s.chart.len t) || nat_le (2 ^ 63) t))
        (ap (λ (f : ℕ). nat_le f t) (first_is map number s m known shown) ∙ le-leb s.chart.first t from)
        ∙ or_one (nat_le (2 ^ 48) (s.chart.len t)) (nat_le (2 ^ 63) t) (long none)

module _ {K V : Type 0} (same : K → K → Bool) (hash : K → ℕ) (setting : Setting) (w : World (Node K V)) (c : Chart K) (blocks : Blocks) (map : IsMapIn same hash setting w c blocks) where
  -- what is so of each table of the map from the root on that none can follow
  abbrev pub LastIsFor : Type 0 → Type 0
  LastIsFor Why = (t : ℕ) → c.first ≤ t → t < c.past → IsTableLen (c.len t) → CannotBeFollowed (c.len t) t → Why

  -- is so of one that none is linked behind
  pub last_for : (Why : Type 0) → LastIsFor Why → (table : Table) (t : ℕ) → IsTable c blocks table t → word_at w.memory (at_word table NEXT) ≡ Some 0 → CannotBeFollowed table.len table.turn → Why
  last_for Why ends table t entered read none =
      ends t from entered.made (map.map.shows.sized t entered.made)
      (subst (λ (n : ℕ). CannotBeFollowed n t) (ap (λ (x : Table). x.len) entered.is) (subst (λ (n : ℕ). CannotBeFollowed table.len n) (ap (λ (x : Table). x.turn) entered.is) none))
    where
      from : c.first ≤ t
      from = elim (cases_lt (suc t) c.past) as (λ _. c.first ≤ t) [
        | inl before ↦ absurd (last_has_none same hash setting w c blocks map table t entered read before)
        | inr last ↦ (let made = entered.made in let rooted = map.map.rule.common.rooted (omega (arith, made)) in omega (arith, last, made, rooted))
      ]

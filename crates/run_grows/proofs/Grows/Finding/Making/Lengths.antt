-- Tables of a map keep their lengths: whatever effects there are, each that it has had is as long after them.
use Rattle.std.specs.Prelude.{◌≡◌, ℕ, zero, suc, ◌<◌, ◌==◌, ◌⊎◌, ◌≢◌, Bool, true, false, ◌++◌, List, [], ◌∷◌, filter, length, map as list_map, Option, Some, if◌then◌else◌}
use Rattle.std.proofs.Common.{refl, ap, sym, subst, ◌∙◌, arith, inl, inr, length-append}
use Rattle.std.proofs.lemmas.Bool.{cases_eq}
use Rattle.std.proofs.lemmas.List.{map-append}
use Rattle.std.proofs.lemmas.List.Elements.{filter-append}
use Rattle.run_schedules.specs.declared.effect.Effect.{Effect}
use Rattle.run_schedules.specs.declared.effect.Effect.TheVariants as effect
use Rattle.run_schedules.specs.declared.effect.TableId.{TableId}
use Rattle.run_schedules.specs.declared.effect.Thing.TheVariants.{APair, ATable}
use Rattle.run_schedules.specs.Schedules.Effects.{at_stage, with_effect, with_effects}
use Rattle.run_schedules.specs.Schedules.Moment.{IsReclaimed, IsRetired, IsTaken, Moment, Stage, TableThere}
use Rattle.run_schedules.specs.Schedules.Things.{same_table}
use Rattle.run_schedules.specs.Schedules.Views.{last_of, tables_of}
use Rattle.run_finds.specs.Given.RuleChart.{Chart}
use Rattle.run_finds.specs.Given.EffectsKnown.{Known}
use Rattle.run_finds.specs.Given.FinishesMaps.{Standing}
use Rattle.run_finds.specs.Given.FollowsMaps.{RefinesMap, shape_at, table_of, tables_to}
use Rattle.run_finds.proofs.Grown.{linked_as}
use Rattle.run_grows.specs.Grows.Further.{at_turn, lengths_in, lengths_of}

-- The one of a turn stays where further ones follow; and the last one has the last turn.

at_before : (xs ys : List ℕ) (t n : ℕ) → at_turn xs t ≡ Some n → at_turn (xs ++ ys) t ≡ Some n
at_before [] ys t n e = absurd (cc e)
at_before (x ∷ xs) ys zero n e = e
at_before (x ∷ xs) ys (suc t) n e = at_before xs ys t n e

at_last : (xs : List ℕ) (x : ℕ) → at_turn (xs ++ x ∷ []) (length xs) ≡ Some x
at_last [] x = refl
at_last (y ∷ xs) x = at_last xs x

pub last_at : (x : TableThere) (ts : List TableThere) (t n : ℕ) → at_turn (lengths_in (x ∷ ts)) t ≡ Some n → suc t ≡ length (x ∷ ts) → (last_of x ts).shape.len ≡ n
last_at x [] zero n e l = let one : x.shape.len ≡ n = cc e in one
last_at x [] (suc t) n e l = absurd (cc e)
last_at x (y ∷ ts) zero n e l = absurd (omega (arith, l))
last_at x (y ∷ ts) (suc t) n e l = last_at y ts t n e (omega (arith, l))

-- of a map that is shown, the table of each turn

module _ {K : Type 0} (map : ℕ) (c : Chart K) (stage : ℕ → Stage) where
  abbrev lengths_to : ℕ → List ℕ
  lengths_to n = lengths_in (tables_to map c stage n)

  one_longer : (n : ℕ) → lengths_to (suc n) ≡ lengths_to n ++ c.len n ∷ []
  one_longer n = map-append (λ (u : TableThere). u.shape.len) (tables_to map c stage n) (record { table = table_of map n; shape = shape_at map c n; stage = stage n } ∷ [])

  many_lengths : (n : ℕ) → length (lengths_to n) ≡ n
  many_lengths zero = refl
  many_lengths (suc n) = let rest = many_lengths n in let longer = ap length (one_longer n) in let sum = length-append (lengths_to n) (c.len n ∷ []) in omega (arith, rest, longer, sum)

  length_to : (t n : ℕ) → t < n → at_turn (lengths_to n) t ≡ Some (c.len t)
  length_to t zero l = absurd (omega (arith, l))
  length_to t (suc n) l = by (cases_eq t n) (λ m. length_to t n m)
    where
      same : t ≡ n → at_turn (lengths_to (suc n)) t ≡ Some (c.len t)
      same e =
          subst (λ (k : ℕ). at_turn (lengths_to (suc n)) k ≡ Some (c.len k)) (sym e)
          (ap (λ (ls : List ℕ). at_turn ls n) (one_longer n) ∙ subst (λ (k : ℕ). at_turn (lengths_to n ++ c.len n ∷ []) k ≡ Some (c.len n)) (many_lengths n) (at_last (lengths_to n) (c.len n)))

      before : at_turn (lengths_to n) t ≡ Some (c.len t) → at_turn (lengths_to (suc n)) t ≡ Some (c.len t)
      before rest = ap (λ (ls : List ℕ). at_turn ls t) (one_longer n) ∙ at_before (lengths_to n) (c.len n ∷ []) t (c.len t) rest

      by : (t ≡ n) ⊎ (t ≢ n) → (t < n → at_turn (lengths_to n) t ≡ Some (c.len t)) → at_turn (lengths_to (suc n)) t ≡ Some (c.len t)
      by (inl e) rest = same e
      by (inr other) rest = before (rest (omega (arith, l, other)))

pub table_length : {K V : Type 0} (map : ℕ) (number : ℕ → ℕ) (st : Standing K) (m : Moment K V) (known : Known) → RefinesMap map number st m known → (t : ℕ) → t < st.chart.past → at_turn (lengths_of map m) t ≡ Some (st.chart.len t)
table_length map number st m known shown t l = ap (λ (ts : List TableThere). at_turn (lengths_in ts) t) shown.tables.listed ∙ length_to map st.chart shown.tables.stage t st.chart.past l

-- Effects.

-- a table at another stage is as long
stage_lengths : (t : TableId) (to : Stage) (of : ℕ) (ts : List TableThere)
    → lengths_in (filter (λ u. u.table.map == of) (list_map (at_stage t to) ts)) ≡ lengths_in (filter (λ u. u.table.map == of) ts)
stage_lengths t to of [] = refl
stage_lengths t to of (u ∷ ts) = by (same_table u.table t) (stage_lengths t to of ts)
  where
    alike : (z : Bool) (x y : TableThere) (xs ys : List TableThere) → x.shape.len ≡ y.shape.len → lengths_in xs ≡ lengths_in ys → lengths_in (if z then x ∷ xs else xs) ≡ lengths_in (if z then y ∷ ys else ys)
    alike true x y xs ys one rest = ap (λ (n : ℕ). n ∷ lengths_in xs) one ∙ ap (λ (ns : List ℕ). y.shape.len ∷ ns) rest
    alike false x y xs ys one rest = rest

    by : (q : Bool) → lengths_in (filter (λ x. x.table.map == of) (list_map (at_stage t to) ts)) ≡ lengths_in (filter (λ x. x.table.map == of) ts)
        → lengths_in (if ((if q then record u { stage = to } else u).table.map == of) then (if q then record u { stage = to } else u) ∷ filter (λ x. x.table.map == of) (list_map (at_stage t to) ts) else filter (λ x. x.table.map == of) (list_map (at_stage t to) ts))
        ≡ lengths_in (if (u.table.map == of) then u ∷ filter (λ x. x.table.map == of) ts else filter (λ x. x.table.map == of) ts)
    by true rest =
        alike (u.table.map == of) (record u { stage = to }) u (filter (λ x. x.table.map == of) (list_map (at_stage t to) ts)) (filter (λ x. x.table.map == of) ts) refl rest
    by false rest = alike (u.table.map == of) u u (filter (λ x. x.table.map == of) (list_map (at_stage t to) ts)) (filter (λ x. x.table.map == of) ts) refl rest

-- each table that a map has had is as long at another moment
abbrev pub KeepsLengths : {K V : Type 0} → Moment K V → Moment K V → Type 0
KeepsLengths m v = (map t n : ℕ) → at_turn (lengths_of map m) t ≡ Some n → at_turn (lengths_of map v) t ≡ Some n

-- as it is of the same tables
pub lengths_same : {K V : Type 0} (m v : Moment K V) → v.tables ≡ m.tables → KeepsLengths m v
lengths_same m v tables map t n is = ap (λ (ts : List TableThere). at_turn (lengths_in (filter (λ u. u.table.map == map) ts)) t) tables ∙ is

module _ {K V : Type 0} where
  effect_keeps_lengths : (caller : Option (List ℕ)) (acted : Option ℕ) (f : Effect) (m : Moment K V) → KeepsLengths m (with_effect caller acted f m)
  effect_keeps_lengths caller acted (effect.Linked t shape) m map u n is =
      let new : TableThere = linked_as t shape in
      let parts : lengths_in (filter (λ (x : TableThere). x.table.map == map) (m.tables ++ new ∷ [])) ≡ lengths_of map m ++ lengths_in (filter (λ (x : TableThere). x.table.map == map) (new ∷ [])) =
      ap lengths_in (filter-append (λ (x : TableThere). x.table.map == map) m.tables (new ∷ []))
      ∙ map-append (λ (x : TableThere). x.shape.len) (tables_of map m) (filter (λ (x : TableThere). x.table.map == map) (new ∷ [])) in
      ap (λ (ls : List ℕ). at_turn ls u) parts ∙ at_before (lengths_of map m) (lengths_in (filter (λ (x : TableThere). x.table.map == map) (new ∷ []))) u n is
  effect_keeps_lengths caller acted (effect.Retired (ATable t)) m map u n is = ap (λ (ls : List ℕ). at_turn ls u) (stage_lengths t IsRetired map m.tables) ∙ is
  effect_keeps_lengths caller acted (effect.Reclaimed (ATable t)) m map u n is = ap (λ (ls : List ℕ). at_turn ls u) (stage_lengths t IsReclaimed map m.tables) ∙ is
  effect_keeps_lengths caller acted (effect.Taken t) m map u n is = ap (λ (ls : List ℕ). at_turn ls u) (stage_lengths t IsTaken map m.tables) ∙ is
  effect_keeps_lengths caller acted (effect.Retired (APair k)) m map u n is = is
  effect_keeps_lengths caller acted (effect.Reclaimed (APair k)) m map u n is = is
  effect_keeps_lengths caller acted _ m map u n is = is

  pub effects_keep_lengths : (caller : Option (List ℕ)) (acted : Option ℕ) (effects : List Effect) (m : Moment K V) → KeepsLengths m (with_effects caller acted effects m)
  effects_keep_lengths caller acted [] m map t n is = is
  effects_keep_lengths caller acted (f ∷ fs) m map t n is = effects_keep_lengths caller acted fs (with_effect caller acted f m) map t n (effect_keeps_lengths caller acted f m map t n is)

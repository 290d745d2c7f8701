-- How many tables were made for a map, as its making goes on: so many as it has in hand; and the map has the capacity for the places that it is to have.
use Rattle.std.specs.Prelude.{◌≡◌, ◌≢◌, ◌==◌, ℕ, zero, suc, Bool, true, false, List, [], ◌∷◌, length, filter, if◌then◌else◌}
use Rattle.std.proofs.Common.{refl, ap, sym, ◌∙◌, arith}
use Rattle.std.proofs.lemmas.Bool.{eq-eqb, ne_eqb}
use Rattle.threads_rule.specs.Given.ResizeDeclared.new_map.Opening.{Opening}
use Rattle.threads_rule.specs.Given.ResizeDeclared.new_map.Opening.TheVariants as openings
use Rattle.run_schedules.specs.declared.effect.Effect.{Effect}
use Rattle.run_schedules.specs.declared.effect.Effect.TheVariants.{TableMade}
use Rattle.run_schedules.specs.Schedules.Handing.{is_table_made}
use Rattle.run_schedules.specs.Schedules.Moment.{Moment}
use Rattle.run_schedules.specs.Schedules.Views.{capacity_or, map_at}
use Rattle.run_legal.specs.Given.OwesMaking.{making_in_opening}
use Rattle.run_legal.specs.Given.OwesTables.{table_made}
use Rattle.run_legal.proofs.Given.FindsCapacities.{effects_keep_capacities}
use Rattle.run_schedules.specs.Deeds.Deeds.{Deed, Entry, Makes, MapComes, MapFails, MapGoes, acted_on, after, begun, caller_of}
use Rattle.run_schedules.specs.Deeds.History.{made_by}
use Rattle.play_linear.specs.Given.PlayedPlay.{pairs_for}
use Rattle.run_legal.specs.Given.NeedsMakings.{in_hand}
use Rattle.play_moves.proofs.EachMoves.Rooted.{IsFreeing}

-- as many effects that make tables
abbrev pub so_many : ℕ → List Effect
so_many zero = []
so_many (suc n) = TableMade (record { map = 0; turn = 0 }) ∷ so_many n

pub are_so_many : (n : ℕ) → length (filter is_table_made (so_many n)) ≡ n
are_so_many zero = refl
are_so_many (suc n) = ap suc (are_so_many n)

-- one that frees its root has no table in hand
pub freeing_has_none : (stands : Opening) → IsFreeing stands → in_hand (table_made (making_in_opening stands)) ≡ 0
freeing_has_none (openings.Frees fault) is = refl
freeing_has_none _ is = absurd is

-- for no places a map is made for no pairs, and else for some
none_at_none : (n : ℕ) → n ≢ 0 → ◌≡◌ {A = ℕ} (if n == 0 then 0 else 1) 1
none_at_none n some = ap (λ (q : Bool). if q then 0 else 1) (ne_eqb n 0 some)

pub places_as_pairs : (places : ℕ) → ◌≡◌ {A = ℕ} (if pairs_for places == 0 then 0 else 1) (if places == 0 then 0 else 1)
places_as_pairs zero = refl
places_as_pairs (suc n) = none_at_none (pairs_for (suc n)) (λ none. omega (arith, none)) ∙ sym (none_at_none (suc n) (λ none. omega (arith, none)))

module _ (K V : Type 0) where
  -- its own making makes as many as the effects say, and another one none
  pub own_made : (n : ℕ) (fs : List Effect) → made_by {K = K} {V = V} n (Makes n) fs ≡ length (filter is_table_made fs)
  own_made n fs = ap (λ (q : Bool). if q then length (filter is_table_made fs) else 0) (eq-eqb n n refl)

  pub other_made : (n on : ℕ) (fs : List Effect) → n ≢ on → made_by {K = K} {V = V} n (Makes on) fs ≡ 0
  other_made n on fs ne = ap (λ (q : Bool). if q then length (filter is_table_made fs) else 0) (ne_eqb n on ne)

module _ {K V : Type 0} where
  -- by a deed that makes no map no table is made
  abbrev pub MakesNone : Deed K V → Type 0
  MakesNone (Makes map) = ⊥
  MakesNone d = Unit {0}

  pub none_made : (n : ℕ) (d : Deed K V) → MakesNone d → (fs : List Effect) → made_by n d fs ≡ 0
  none_made n (Makes map) none fs = absurd none
  none_made n _ none fs = refl

  -- where nothing is done no table is made
  pub nothing_made : (n : ℕ) (d : Deed K V) (fs : List Effect) → fs ≡ [] → made_by n d fs ≡ 0
  nothing_made n d fs none = ap (made_by n d) none ∙ by d
    where
      by : (d : Deed K V) → made_by n d [] ≡ 0
      by (Makes on) = none_at (n == on)
        where
          none_at : (q : Bool) → ◌≡◌ {A = ℕ} (if q then 0 else 0) 0
          none_at true = refl
          none_at false = refl
      by _ = refl

  -- by it no map comes or goes
  abbrev pub IsStill : Deed K V → Type 0
  IsStill (MapComes map root mode capacity) = ⊥
  IsStill (MapFails map) = ⊥
  IsStill (MapGoes map) = ⊥
  IsStill d = Unit {0}

  -- then each map has the capacity that it had
  pub capacity_still : (n : ℕ) (e : Entry K V) (m : Moment K V) → IsStill e.deed → capacity_or (map_at n (after e m)) ≡ capacity_or (map_at n m)
  capacity_still n e m still = by e.deed still
    where
      by : (d : Deed K V) → IsStill d → capacity_or (map_at n (after (record e { deed = d }) m)) ≡ capacity_or (map_at n m)
      by (MapComes map root mode capacity) is = absurd is
      by (MapFails map) is = absurd is
      by (MapGoes map) is = absurd is
      by d is = effects_keep_capacities K V (caller_of d) (acted_on d (begun d m)) e.effects (begun d m) n

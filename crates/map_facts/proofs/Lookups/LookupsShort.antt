-- How many loads a lookup makes: one for the root, and in each table that it enters one for each try and one for the link to the table behind.
use Rattle.std.specs.Prelude.{◌≡◌, ℕ, suc, ◌+◌, ◌≤◌, Bool, List, [], ◌∷◌, Option}
use Rattle.std.proofs.Common.{refl, ap, sym, subst, ◌∙◌, arith}
use Rattle.papaya_raw.specs.Given.SeizeDeclared.advance.Advance.{Advance}
use Rattle.papaya_raw.specs.Given.SeizeDeclared.advance.Advance.TheVariants as progress
use Rattle.papaya_raw.specs.Given.TablesDeclared.table.Table.{Table}
use Rattle.map_rule.specs.Given.ResizeDeclared.lookup.Lookup.{Lookup}
use Rattle.map_rule.specs.Given.ResizeDeclared.lookup.Looking.{Looking}
use Rattle.map_rule.specs.Given.ResizeDeclared.lookup.Looking.TheVariants as at
use Rattle.map_rule.specs.Given.ResizeLookup.{plan_at}
use Rattle.map_facts.specs.MeasuresLooks.{IsLoad, HasEnded, LoadLeads, LookupLeads, entered, HasLooked, begun, further, most_loads, OneBehindTheOther, LookupsAreShort}
use Rattle.map_facts.specs.Looks.{LookupsLoad, LookupsLookOn}
use Rattle.map_facts.proofs.Lookups.Points.{went_lookup_leads}

-- it is in this table, the newest, at so many loads after those of the tables before
record IsIn (table : Table) (tables : List Table) (loads most : ℕ) : Type 0 where
  before : List Table
  newest : tables ≡ table ∷ before
  few : loads ≤ most_loads before + most
  rising : OneBehindTheOther tables

-- what is so of a lookup, by where it stands
abbrev Short : Looking → List Table → ℕ → Type 0
Short at.Roots tables loads = (tables ≡ []) × (loads ≡ 0)
Short (at.Probes trial) tables loads = IsIn trial.table tables loads trial.probe.len × (trial.probe.len ≤ trial.table.limit)
Short (at.Nexts table) tables loads = IsIn table tables loads (suc table.limit)
Short (at.Over found) tables loads = ⊥

short : (here there : Looking) (tables : List Table) (loads : ℕ) → Short here tables loads → LoadLeads here there → Short there (entered here there tables) (suc loads)
short at.Roots at.Roots tables loads h leads = absurd leads
short at.Roots (at.Nexts table) tables loads h leads = absurd leads
short at.Roots (at.Over found) tables loads h leads = absurd leads
short (at.Probes trial) at.Roots tables loads h leads = absurd leads
short (at.Probes trial) (at.Over found) tables loads h leads = absurd leads
short (at.Nexts table) at.Roots tables loads h leads = absurd leads
short (at.Nexts table) (at.Nexts other) tables loads h leads = absurd leads
short (at.Nexts table) (at.Over found) tables loads h leads = absurd leads
short (at.Over found) there tables loads h leads = absurd h
short at.Roots (at.Probes trial) tables loads h leads =
    let first : tables ≡ [] = h.0 in
    let none : loads ≡ 0 = h.1 in (
      record {
        before = [];
        newest = ap (λ (l : List Table). trial.table ∷ l) first;
        few = omega (arith, none);
        rising = subst (λ (l : List Table). OneBehindTheOther (trial.table ∷ l)) (sym first) tt;
      },
      omega (arith, leads),
    )
short (at.Probes trial) (at.Probes other) tables loads h leads =
    let few = h.0.few in
    let next = leads.1 in
    let limit : other.table.limit ≡ trial.table.limit = ap (λ (t : Table). t.limit) leads.0 in
    let most = leads.2 in (
      record { before = h.0.before; newest = h.0.newest ∙ ap (λ (t : Table). t ∷ h.0.before) (sym leads.0); few = omega (arith, few, next); rising = h.0.rising },
      omega (arith, limit, most),
    )
short (at.Probes trial) (at.Nexts table) tables loads h leads =
    let few = h.0.few in
    let limit : table.limit ≡ trial.table.limit = ap (λ (t : Table). t.limit) leads.0 in
    let most = leads.1 in
    record { before = h.0.before; newest = h.0.newest ∙ ap (λ (t : Table). t ∷ h.0.before) (sym leads.0); few = omega (arith, few, limit, most); rising = h.0.rising }
short (at.Nexts table) (at.Probes trial) tables loads h leads =
    let few = h.few in
    let none = leads.1 in
    let all : most_loads tables ≡ (table.limit + 2) + most_loads h.before = ap most_loads h.newest in (
      record {
        before = tables;
        newest = refl;
        few = omega (arith, few, none, all);
        rising = subst (λ (l : List Table). OneBehindTheOther (trial.table ∷ l)) (sym h.newest) (leads.0, subst OneBehindTheOther h.newest h.rising);
      },
      omega (arith, none),
    )

all_short : (stands : Looking) (tables : List Table) (loads : ℕ) → HasLooked stands tables loads → Short stands tables loads
all_short stands tables loads begun = (refl, refl)
all_short stands tables loads (further here there before fewer looked leads) = short here there before fewer (all_short here before fewer looked) leads

ends_short : (stands : Looking) (tables : List Table) (loads : ℕ) → Short stands tables loads → (suc loads ≤ most_loads tables) × OneBehindTheOther tables
ends_short at.Roots tables loads h =
    let none : loads ≡ 0 = h.1 in
    let all : most_loads tables ≡ 1 = ap most_loads h.0 in (omega (arith, none, all), subst OneBehindTheOther (sym h.0) tt)
ends_short (at.Probes trial) tables loads h =
    let few = h.0.few in
    let most = h.1 in
    let all : most_loads tables ≡ (trial.table.limit + 2) + most_loads h.0.before = ap most_loads h.0.newest in (omega (arith, few, most, all), h.0.rising)
ends_short (at.Nexts table) tables loads h =
    let few = h.few in
    let all : most_loads tables ≡ (table.limit + 2) + most_loads h.before = ap most_loads h.newest in (omega (arith, few, all), h.rising)
ends_short (at.Over found) tables loads h = absurd h

pub lookups_are_short : LookupsAreShort
lookups_are_short stands tables loads looked = ends_short stands tables loads (all_short stands tables loads looked)

-- a step of a lookup that goes on is one load more
looked_further : (here : Looking) (tables : List Table) (loads : ℕ) → HasLooked here tables loads → (end : Lookup × Advance (Option ℕ)) → LookupLeads here end
    → end.1 ≡ progress.Goes → HasLooked end.0.stands (entered here end.0.stands tables) (suc loads)
looked_further here tables loads looked (l, progress.Goes) leads goes = further here l.stands tables loads looked leads
looked_further here tables loads looked (l, progress.Waits) leads goes = absurd (cc goes)
looked_further here tables loads looked (l, progress.Done found) leads goes = absurd (cc goes)
looked_further here tables loads looked (l, progress.Refused fault) leads goes = absurd (cc goes)

module _ (K V : Type 0) where
  loads_at : (keys : K → Bool) (l : Lookup) (stands : Looking) → (HasEnded stands → ⊥) → IsLoad (plan_at {V = V} keys l stands)
  loads_at keys l at.Roots going = (_, refl)
  loads_at keys l (at.Probes trial) going = (_, refl)
  loads_at keys l (at.Nexts table) going = (_, refl)
  loads_at keys l (at.Over found) going = absurd (going tt)

  pub lookups_load : LookupsLoad K V
  lookups_load keys l going = loads_at keys l l.stands going

module _ {K : Type 0} (V : Type 0) (same : K → K → Bool) (hash : K → ℕ) where
  pub lookups_look_on : LookupsLookOn V same hash
  lookups_look_on are mode root keys code m c blocks l class map facts tables loads looked m2 end s goes =
      let went = went_lookup_leads same hash are.lawful are.fits mode root keys code class m c blocks map l facts m2 end s in
      looked_further l.stands tables loads looked end went.2 goes

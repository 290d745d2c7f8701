-- The tables of a map from its root on are those that a moment of the run has.
use Rattle.std.specs.Prelude.{◌-◌, ◌⊎◌, ◌^◌, ◌&&◌, nat_le, filter, map, is_some, Option, Some, None}
use Rattle.std.proofs.Common.{◌≡◌, ℕ, zero, suc, ◌+◌, ◌≤◌, ◌<◌, Bool, false, cond, List, [], ◌∷◌, ◌++◌, refl, ap, sym, subst, ◌∙◌, inl, inr, arith}
use Rattle.std.proofs.lemmas.Bool.{cases_lt}
use Rattle.std.proofs.lemmas.List.{map-append}
use Rattle.std.proofs.lemmas.List.Elements.{filter-append}
use Rattle.seize_words.specs.OneMemory.Mem.{Mem}
use Rattle.seize_words.specs.declared.fault.Fault.TheVariants.{Busy}
use Rattle.papaya_raw.specs.Given.TablesDeclared.node.Node.{Node}
use Rattle.papaya_raw.specs.Given.TablesDeclared.setting.Setting.{Setting}
use Rattle.papaya_raw.specs.Given.TablesDeclared.table.Table.{Table}
use Rattle.map_straight.specs.Given.RuleChart.{Chart}
use Rattle.map_straight.specs.Given.RuleMaps.{IsMap}
use Rattle.map_straight.specs.Given.RuleWords.{Blocks}
use Rattle.run_schedules.specs.declared.shapes.TableShape.{TableShape}
use Rattle.map_straight.specs.Shown.Shown.{HasMap, table_of, tables_on}
use Rattle.run_schedules.specs.declared.event.Event.TheVariants.{ShowShape}
use Rattle.run_schedules.specs.declared.outcome.Outcome.{Outcome}
use Rattle.run_schedules.specs.declared.outcome.Outcome.TheVariants.{Refused, Shape}
use Rattle.run_schedules.specs.Schedules.After.{is_alone_on, moment}
use Rattle.run_schedules.specs.Schedules.Entry.{Entry}
use Rattle.run_schedules.specs.Schedules.InTurn.{IsShapeOf, chain_named}
use Rattle.run_schedules.specs.Schedules.Moment.{Stage, TableThere, Moment}
use Rattle.run_schedules.specs.Schedules.Terms.{Terms}
use Rattle.run_schedules.specs.Schedules.Views.{first_of, first_or, map_of, number_of, tables_of}
use Rattle.run_shows.specs.Given.FinishesMaps.{Standing}
use Rattle.run_shows.specs.Follows.Maps.{tables_to}
use Rattle.play_scheduler.specs.Played.{IsInTurn, Plays, RefinesFor}
use Rattle.run_executor.specs.Named.Seen.{setting_named}
use Rattle.play_scheduler.specs.Shapes.{shape_of}
use Rattle.play_scheduler.specs.declared.scheduler.Scheduler.{Scheduler}
use Rattle.play_scheduler.proofs.Maps.{setting_of_it, setting_some}
use Rattle.play_scheduler.proofs.Quiet.{stands_on}
use Rattle.play_scheduler.proofs.Rights.{in_turn, out_of_turn, plays, quiet}
use Rattle.seize_words.proofs.General.{at_most_true as below}

module _ {K : Type 0} (c : Chart K) (blocks : Blocks) where
  -- one table more at the end
  one_more : (t k : ℕ) → tables_on c blocks t (suc k) ≡ tables_on c blocks t k ++ table_of c blocks (t + k) ∷ []
  one_more t zero = ap (λ (x : ℕ). table_of c blocks x ∷ []) (omega arith)
  one_more t (suc k) =
      ap (λ (l : List Table). table_of c blocks t ∷ l) (one_more (suc t) k)
      ∙ ap (λ (x : ℕ). table_of c blocks t ∷ (tables_on c blocks (suc t) k ++ table_of c blocks x ∷ [])) (omega arith)

  module _ (number : ℕ) (stage : ℕ → Stage) where
    abbrev is_from : ℕ → TableThere → Bool
    is_from f t = nat_le f t.table.turn

    above : (a b : ℕ) → b < a → nat_le a b ≡ false
    above a b l = grind (arith, l)

    abbrev last : ℕ → List TableThere
    last t = record { table = record { map = number; turn = t }; shape = record { len = c.len t; limit = c.limit t }; stage = stage t } ∷ []

    -- none is so late
    none_from : (f p : ℕ) → p ≤ f → filter (is_from f) (tables_to number c stage p) ≡ []
    none_from f zero l = refl
    none_from f (suc q) l =
        filter-append (is_from f) (tables_to number c stage q) (last q) ∙ ap (λ (xs : List TableThere). xs ++ filter (is_from f) (last q)) (none_from f q (omega (arith, l)))
        ∙ ap (λ (b : Bool). cond b (last q) []) (above f q (omega (arith, l)))

    -- those from a turn on
    pub shapes_from : (f p : ℕ) → f ≤ p → map (λ t. t.shape) (filter (is_from f) (tables_to number c stage p)) ≡ map shape_of (tables_on c blocks f (p - f))
    shapes_from f zero l = ap (λ (k : ℕ). map shape_of (tables_on c blocks f k)) (let e : 0 ≡ 0 - f = omega arith in e)
    shapes_from f (suc q) l = by (cases_lt q f) (shapes_from f q)
      where
        Goal : Type 0
        Goal = map (λ t. t.shape) (filter (is_from f) (tables_to number c stage (suc q))) ≡ map shape_of (tables_on c blocks f (suc q - f))

        by : (q < f) ⊎ (f ≤ q) → (f ≤ q → map (λ t. t.shape) (filter (is_from f) (tables_to number c stage q)) ≡ map shape_of (tables_on c blocks f (q - f))) → Goal
        by (inl late) ih =
            ap (map (λ t. t.shape)) (none_from f (suc q) (omega (arith, late)))
            ∙ ap (λ (k : ℕ). map shape_of (tables_on c blocks f k)) (let e : 0 ≡ suc q - f = omega (arith, late, l) in e)
        by (inr early) ih =
            ap (map (λ t. t.shape)) (filter-append (is_from f) (tables_to number c stage q) (last q))
            ∙ ap (λ (b : Bool). map (λ t. t.shape) (filter (is_from f) (tables_to number c stage q) ++ cond b (last q) [])) (below f q early)
            ∙ map-append (λ t. t.shape) (filter (is_from f) (tables_to number c stage q)) (last q)
            ∙ ap (λ (xs : List TableShape). xs ++ map (λ t. t.shape) (last q)) (ih early)
            ∙ ap (λ (x : ℕ). map shape_of (tables_on c blocks f (q - f)) ++ map shape_of (table_of c blocks x ∷ [])) (let e : q ≡ f + (q - f) = omega (arith, early) in e)
            ∙ sym (map-append shape_of (tables_on c blocks f (q - f)) (table_of c blocks (f + (q - f)) ∷ []))
            ∙ ap (map shape_of) (sym (one_more f (q - f))) ∙ ap (λ (k : ℕ). map shape_of (tables_on c blocks f k)) (let e : suc (q - f) ≡ suc q - f = omega (arith, early) in e)

-- the root is none of the tables that are not made yet
root_before : {K V : Type 0} (same : K → K → Bool) (hash : K → ℕ) (m : Mem (Node K V)) (setting : Setting) (c : Chart K) (blocks : Blocks) → HasMap same hash m setting c blocks → c.first ≤ c.past
root_before same hash m setting c blocks stands = by (cases_lt 0 c.past)
  where
    by : (0 < c.past) ⊎ (c.past ≤ 0) → c.first ≤ c.past
    by (inl l) = let r = stands.map.rule.common.rooted l in omega (arith, r)
    by (inr l) = let r = stands.map.rule.common.rootless (omega (arith, l)) in omega (arith, r)

module _ {K V S : Type 0} (same : K → K → Bool) (hash : K → ℕ) (terms : Terms) (log : List (Entry K V)) (p : Scheduler K V S) (own : List ℕ) where
  abbrev m : Moment K V
  m = moment log

  abbrev found : Option (ℕ × Setting)
  found = setting_named own p.maps p.logged.executor.maps.items

  module _ (stands : RefinesFor same hash terms m p) (number : ℕ) (setting : Setting) (is : found ≡ Some (number, setting)) where
    abbrev its : (number_of own m ≡ Some number) × (standing : Standing K) × (stands.scene.maps number ≡ Some standing) × (standing.setting ≡ setting)
    its = setting_of_it same hash terms m p stands own number setting is

    abbrev st : Standing K
    st = its.1

    abbrev pub chart_there : Chart K
    chart_there = st.chart

    abbrev pub blocks_there : Blocks
    blocks_there = st.blocks

    -- the words of the map are those of its tables
    pub stands_there : HasMap same hash p.logged.executor.memory.memory setting chart_there blocks_there
    stands_there =
        let at = stands.shown.is_at in
        let maps = at.held.together.makings.standing in
        let fit = (maps.fit number st its.2).0 in
        record {
          map = subst (λ (x : Setting). IsMap same hash x.mode x.root p.logged.executor.memory.memory st.chart st.blocks) its.3
              (subst (λ (h : K → ℕ). IsMap same h st.setting.mode st.setting.root p.logged.executor.memory.memory st.chart st.blocks) (at.held.hashes number st its.2)
              (subst (λ (x : Mem (Node K V)). IsMap same st.hash st.setting.mode st.setting.root x st.chart st.blocks) at.held.memory (maps.each number st its.2).ground.map.map));
          classes = fit.lawful.classes;
          fits = subst (λ (h : K → ℕ). (k : K) → h k < 2 ^ 64) (at.held.hashes number st its.2) fit.fits;
        }

    pub shapes_are : map (λ t. t.shape) (chain_named (number_of own m) m) ≡ map shape_of (tables_on chart_there blocks_there chart_there.first (chart_there.past - chart_there.first))
    shapes_are =
        let shows = stands.shown.shows.all.shown.maps number st its.2 in
        let first : first_of number m ≡ st.chart.first = ap first_or shows.there.is ∙ shows.there.first in
        ap (λ (o : Option ℕ). map (λ t. t.shape) (chain_named o m)) its.0
        ∙ ap (λ (f : ℕ). map (λ t. t.shape) (filter (λ t. nat_le f t.table.turn) (tables_of number m))) first
        ∙ ap (λ (xs : List TableThere). map (λ t. t.shape) (filter (λ t. nat_le st.chart.first t.table.turn) xs)) shows.tables.listed
        ∙ shapes_from st.chart st.blocks number shows.tables.stage st.chart.first st.chart.past
        (root_before same hash p.logged.executor.memory.memory setting st.chart st.blocks stands_there)

  module _ (due : IsInTurn same hash terms log (ShowShape own) p) where
    pub shown : (number : ℕ) (setting : Setting) → found ≡ Some (number, setting) → (outcome : Outcome V) → IsShapeOf (chain_named (number_of own m) m) outcome
        → Plays same hash terms log (quiet (ShowShape own) outcome) p
    shown number setting is outcome shaped = by outcome shaped
      where
        by : (o : Outcome V) → IsShapeOf (chain_named (number_of own m) m) o → Plays same hash terms log (quiet (ShowShape own) o) p
        by (Shape shapes) it =
            let e = quiet (ShowShape own) (Shape shapes) in
            plays same hash terms log (ShowShape own) p due e refl
            (in_turn (IsShapeOf (chain_named (number_of own m) m)) (is_some (map_of own m)) (Shape shapes) (sym (setting_some same hash terms m p due.played own) ∙ ap is_some is) it)
            (stands_on same hash terms m p due.played (m.events + 1) (m.is_alone && is_alone_on e m) m.slots m.sheltered)
        by _ it = absurd it

    pub not_there : found ≡ None → Plays same hash terms log (quiet (ShowShape own) (Refused Busy)) p
    not_there none =
        let e = quiet (ShowShape own) (Refused Busy) in
        plays same hash terms log (ShowShape own) p due e refl
        (out_of_turn (IsShapeOf (chain_named (number_of own m) m)) (is_some (map_of own m)) (Refused Busy) (sym (setting_some same hash terms m p due.played own) ∙ ap is_some none) refl)
        (stands_on same hash terms m p due.played (m.events + 1) (m.is_alone && is_alone_on e m) m.slots m.sheltered)

-- The table that a call on one key links has the shape that it must have.
use Rattle.std.specs.Prelude.{◌≡◌, ℕ, suc, ◌<◌, ◌++◌, Bool, false, List, [], ◌∷◌, length, Option, Some}
use Rattle.std.proofs.Common.{refl, ap, sym, subst, ◌∙◌, inl, inr, arith}
use Rattle.run_executor.specs.Given.SeizeWorld.{World}
use Rattle.run_executor.specs.Given.SeizeWordsDeclared.at.At.{At}
use Rattle.run_blocks.specs.Given.TablesLengths.{entries_of, next_len, next_limit}
use Rattle.run_blocks.specs.Given.TablesDeclared.lengths.Reason.{Reason}
use Rattle.run_blocks.specs.Given.TablesDeclared.lengths.Reason.TheVariants.{Full}
use Rattle.run_blocks.specs.Given.TablesDeclared.node.Node.{Node}
use Rattle.run_blocks.specs.Given.TablesDeclared.setting.Setting.{Setting}
use Rattle.run_blocks.specs.Given.TablesDeclared.table.Table.{Table as Planned}
use Rattle.run_blocks.specs.Given.ResizeDeclared.new_table.Making.{Making}
use Rattle.run_blocks.specs.Given.ResizeDeclared.new_table.Making.TheVariants as makes
use Rattle.run_blocks.specs.Given.ResizeDeclared.new_table.NewTable.{NewTable}
use Rattle.run_executor.specs.Given.RawDeclared.machines.call.Calling.{Calling}
use Rattle.run_executor.specs.Given.RawDeclared.machines.call.Calling.TheVariants as at_point
use Rattle.run_executor.specs.Given.RawDeclared.machines.call.KeyCall.{KeyCall}
use Rattle.run_executor.specs.Given.RawDeclared.machines.progress.Progress.{Progress}
use Rattle.run_executor.specs.Given.RunsDeclared.shapes.TableShape.{TableShape}
use Rattle.run_executor.specs.Given.RunsDeclared.call.Call.{Call}
use Rattle.run_executor.specs.Given.RunsDeclared.call.Call.TheVariants as call
use Rattle.run_executor.specs.Given.RunsDeclared.effect.Effect.{Effect}
use Rattle.run_executor.specs.Given.RunsDeclared.effect.Effect.TheVariants as effect
use Rattle.run_executor.specs.Given.RunsDeclared.effect.Growth.TheVariants.{ABlock}
use Rattle.run_executor.specs.Given.SchedulesEffects.{call_by, with_effect, AtEachEffect}
use Rattle.run_executor.specs.Given.SchedulesEntry.{ByCall}
use Rattle.run_executor.specs.Given.SchedulesGrowing.{Has, IsFirstOf, MayMakeFor, IsNextShape, Follows}
use Rattle.run_executor.specs.Given.SchedulesMoment.{UnderWay as CallThere, Stage, TableThere, Moment}
use Rattle.run_executor.specs.Given.SchedulesTerms.{Terms}
use Rattle.run_executor.specs.Given.SchedulesTries.{IsFull}
use Rattle.run_executor.specs.Given.SchedulesViews.{map_at, capacity_or, call_of, tables_of, last_of}
use Rattle.run_executor.specs.Given.RuleChart.{Chart}
use Rattle.run_executor.specs.Given.RuleWords.{Blocks}
use Rattle.run_executor.specs.Given.RuleMaps.{IsTable}
use Rattle.run_executor.specs.Given.PointsFactsCalls.{Change, CallingFacts, IsCopying}
use Rattle.run_executor.specs.Given.PointsFactsTables.{MakingFacts, NewTableFacts}
use Rattle.run_executor.specs.Given.LateLateCalls.{SupersededFirst, SupersededCalling}
use Rattle.run_executor.specs.Given.CallersSights.{seen_by}
use Rattle.run_executor.specs.Given.CallersTogether.{CallOnKey, OnKey, in_slot, Together}
use Rattle.run_executor.specs.Given.EffectsEffects.{effects_of}
use Rattle.run_executor.specs.Given.EffectsKnown.{Known}
use Rattle.run_executor.specs.Given.EffectsDeclared.acting.Acting.TheVariants as acts
use Rattle.run_executor.specs.Given.FinishesMaps.{Standing}
use Rattle.run_executor.specs.Given.FollowsCalls.{IsCalled}
use Rattle.run_executor.specs.Given.FollowsFinds.{FindsMap}
use Rattle.run_executor.specs.Given.FollowsMaps.{table_of, shape_at, tables_to}
use Rattle.run_executor.proofs.Given.FollowsFinds.{tables_many}
use Rattle.run_executor.specs.Given.HandsAsked.{IsAskedAs}
use Rattle.run_executor.proofs.Given.HandsSteps.{numbers_apart}
use Rattle.run_executor.specs.Given.MomentsWhole.{RefinesWhole}
use Rattle.run_blocks.specs.Owes.Making.{making_in_calling}
use Rattle.run_blocks.specs.Owes.Tables.{table_in, table_made, of_map, RefinesOwnTables}
use Rattle.run_blocks.proofs.Owes.Fields.{its_effect}
use Rattle.run_blocks.proofs.Owes.Machines.{call_none}
use Rattle.run_blocks.proofs.Owes.Tables.Held.{shape_of, some_making}
use Rattle.run_blocks.proofs.Owes.Tables.Leaves.{Stays, IsMade, IsGivenUp, IsLinked}
use Rattle.run_blocks.proofs.Owes.Tables.Roles.{of_table, NoneOfTable}
use Rattle.run_blocks.proofs.Owes.Tables.Step.{left_tables}
use Rattle.run_finds.specs.Growing.{GrowsAt, RefinesGrowing}
use Rattle.run_finds.specs.Linking.{FindsShape, FindShapes, there_of, HasFoundFull, IsMadeFor, KeyCallsLink}
use Rattle.run_finds.specs.Shaping.{ShapedAt, IsFirstTable, IsNextTable}
use Rattle.run_finds.specs.Within.{many_of}
use Rattle.run_finds.proofs.Grows.Given.{HasGivenForNone, called_valued, knows_for_none}
use Rattle.run_finds.proofs.Steps.{steps_find_places}
use Rattle.run_finds.proofs.StoresNone.{given_stores}
use Rattle.run_executor.specs.Given.ScenesHeld.{Held, IsAt}
use Rattle.run_executor.specs.Given.ScenesScene.{Scene, slot_of}
use Rattle.run_executor.specs.Given.ScenesStepping.{StepLeads}

-- the newest table is the last one

last_added : (y : TableThere) (ys : List TableThere) (x : TableThere) → last_of y (ys ++ x ∷ []) ≡ x
last_added y [] x = refl
last_added y (z ∷ ys) x = last_added z ys x

abbrev newest_of : {K : Type 0} → ℕ → Chart K → (ℕ → Stage) → ℕ → TableThere
newest_of map c stage t = record { table = table_of map t; shape = shape_at map c t; stage = stage t }

-- so what comes after it follows them all
module _ {K V : Type 0} (terms : Terms) (moments : List (Moment K V)) (c : CallThere K V) (capacity : ℕ) (shape : TableShape) where
  follows_last : (xs : List TableThere) (x : TableThere) → IsNextShape terms c moments capacity x shape → Follows terms c moments capacity shape (xs ++ x ∷ [])
  follows_last [] x next = next
  follows_last (y ∷ ys) x next = subst (λ (t : TableThere). IsNextShape terms c moments capacity t shape) (sym (last_added y ys x)) next

  follows_newest : (map : ℕ) (chart : Chart K) (stage : ℕ → Stage) (t n : ℕ) → n ≡ suc t → IsNextShape terms c moments capacity (newest_of map chart stage t) shape
      → Follows terms c moments capacity shape (tables_to map chart stage n)
  follows_newest map chart stage t n e next =
      subst (λ (k : ℕ). Follows terms c moments capacity shape (tables_to map chart stage k)) (sym e) (follows_last (tables_to map chart stage t) (newest_of map chart stage t) next)

-- The table that a making has made is as it was to be, and has the turn that it was to have.

pub made_so : (Sums : Planned → Reason → Type 0) (Is : Planned → Type 0) (stands : Making) (p : Planned) → ShapedAt Sums Is stands → table_in stands ≡ Some p → Is p
made_so Sums Is (makes.Promotes t) p so has = let one : t ≡ p = cc has in subst Is one so
made_so Sums Is (makes.Links t) p so has = let one : t ≡ p = cc has in subst Is one so
made_so Sums Is (makes.Drops t found) p so has = let one : t ≡ p = cc has in subst Is one so
made_so Sums Is (makes.Sums before reason sum) p so has = absurd (cc has)
made_so Sums Is (makes.Makes t) p so has = absurd (cc has)
made_so Sums Is (makes.Over t) p so has = absurd (cc has)
made_so Sums Is (makes.Refused fault) p so has = absurd (cc has)

turn_same : (t p : Planned) (turn : ℕ) → ◌≡◌ {A = Option Planned} (Some t) (Some p) → t.turn ≡ turn → p.turn ≡ turn
turn_same t p turn has is = let one : t ≡ p = cc has in subst (λ (x : Planned). x.turn ≡ turn) one is

module _ {K V : Type 0} (w : World (Node K V)) (i : ℕ) (setting : Setting) (c : Chart K) (seen : Blocks) (p : Planned) where
  turn_made : (link : At) (turn : ℕ) (stands : Making) → MakingFacts w i setting c seen link turn stands → table_in stands ≡ Some p → p.turn ≡ turn
  turn_made link turn (makes.Promotes t) facts has = turn_same t p turn has facts.1.turn_is
  turn_made link turn (makes.Links t) facts has = turn_same t p turn has facts.1.turn_is
  turn_made link turn (makes.Drops t found) facts has = turn_same t p turn has facts.6.turn_is
  turn_made link turn (makes.Sums before reason sum) facts has = absurd (cc has)
  turn_made link turn (makes.Makes t) facts has = absurd (cc has)
  turn_made link turn (makes.Over t) facts has = absurd (cc has)
  turn_made link turn (makes.Refused fault) facts has = absurd (cc has)

  pub turn_new : (link : At) (turn : ℕ) (n : NewTable) → NewTableFacts w i setting c seen link turn n → table_in n.stands ≡ Some p → p.turn ≡ turn
  turn_new link turn n facts has = turn_made link turn n.stands facts.point has

  turn_late : (began : ℕ) (stands : Making) → SupersededFirst w i setting c seen began stands → table_in stands ≡ Some p → p.turn ≡ 0
  turn_late began (makes.Drops t found) facts has = turn_same t p 0 has facts.1.turn_is
  turn_late began (makes.Promotes t) facts has = absurd facts
  turn_late began (makes.Links t) facts has = absurd facts
  turn_late began (makes.Sums before reason sum) facts has = absurd (cc has)
  turn_late began (makes.Makes t) facts has = absurd (cc has)
  turn_late began (makes.Over t) facts has = absurd (cc has)
  turn_late began (makes.Refused fault) facts has = absurd (cc has)

  -- Which table it is, by the point of a call: the first, or the one after that which the call has tried.

  abbrev After : KeyCall K V K → Type 0
  After x = (t : ℕ) × IsTable c seen x.trial.table t × (p.turn ≡ suc t)

  abbrev IsWhich : KeyCall K V K → Calling → Type 0
  IsWhich x (at_point.Firsts n) = p.turn ≡ 0
  IsWhich x (at_point.Allocs n) = After x
  IsWhich x _ = Unit {0}

  module _ (same : K → K → Bool) (hash : K → ℕ) (keys : K → Bool) where
    which_now : (change : Change) (x : KeyCall K V K) (q : Calling) (n : NewTable) → CallingFacts same hash same w i setting c seen keys change x q → making_in_calling q ≡ Some n → table_in n.stands ≡ Some p
        → IsWhich x q
    which_now change x (at_point.Firsts k) n facts is has =
        let one : n ≡ k = (let back : k ≡ n = cc is in sym back) in turn_new _ 0 k facts.2 (subst (λ (y : NewTable). table_in y.stands ≡ Some p) one has)
    which_now change x (at_point.Allocs k) n facts is has =
        let one : n ≡ k = (let back : k ≡ n = cc is in sym back) in
        (facts.1, facts.2.0, turn_new _ (suc facts.1) k facts.3 (subst (λ (y : NewTable). table_in y.stands ≡ Some p) one has))
    which_now change x (at_point.Helps copier goal) n facts is has = tt
    which_now change x (at_point.Copies copier) n facts is has = tt
    which_now change x _ n facts is has = absurd (cc is)

    which_late : (began : ℕ) (x : KeyCall K V K) (q : Calling) (n : NewTable) → SupersededCalling same hash same w i setting c seen keys began x q → making_in_calling q ≡ Some n → table_in n.stands ≡ Some p → IsWhich x q
    which_late began x (at_point.Firsts k) n late is has =
        let one : n ≡ k = (let back : k ≡ n = cc is in sym back) in turn_late began k.stands late.2.point (subst (λ (y : NewTable). table_in y.stands ≡ Some p) one has)
    which_late began x (at_point.Allocs k) n late is has =
        let one : n ≡ k = (let back : k ≡ n = cc is in sym back) in
        (late.1, late.2, turn_new _ (suc late.1) k late.4 (subst (λ (y : NewTable). table_in y.stands ≡ Some p) one has))
    which_late began x (at_point.Helps copier goal) n late is has = tt
    which_late began x (at_point.Copies copier) n late is has = tt
    which_late began x _ n late is has = absurd (cc is)

-- So it follows, in a map that was made for what the moment says.

module _ {K V : Type 0} (same : K → K → Bool) (terms : Terms) (moments : List (Moment K V)) (u : CallOnKey K V K) (c : CallThere K V) (number : ℕ → ℕ) (stored : ℕ)
    (apart : (n o : ℕ) → n < stored → o < stored → number n ≡ number o → n ≡ o) (known : Known) (has : HasGivenForNone u.pair) where
  -- it has a value, and stores where its key is missing

  may_make : (t : TableThere) (its : Call K V) → IsCalled same (OnKey u) its → IsAskedAs number stored known u its c → (count met most : ℕ) → IsFull c.map t moments met
      → MayMakeFor terms c moments t its count (Full met most)
  may_make t (call.On one) is asked count met most full = (called_valued same number stored known u c (call.On one) is asked has, full)
  may_make t (call.Reserve more) is asked count met most full = absurd is
  may_make t call.Clear is asked count met most full = absurd is
  may_make t call.Retain is asked count met most full = absurd is
  may_make t call.Len is asked count met most full = absurd is
  may_make t call.Walk is asked count met most full = absurd is

  first_follows : (p : Planned) → IsFirstTable p → (its : Call K V) → IsCalled same (OnKey u) its → IsAskedAs number stored known u its c → IsFirstOf terms its c (shape_of p)
  first_follows p so (call.On one) is asked = (given_stores number stored apart c.replies u.pair has one asked.asked asked.replies asked.given, so)
  first_follows p so (call.Reserve more) is asked = absurd is
  first_follows p so call.Clear is asked = absurd is
  first_follows p so call.Retain is asked = absurd is
  first_follows p so call.Len is asked = absurd is
  first_follows p so call.Walk is asked = absurd is

  module _ (its_call : IsCalled same (OnKey u) c.call) (asked : IsAskedAs number stored known u c.call c) (capacity : ℕ) (setting : Setting) (made_for : Has (entries_of capacity) setting.initial) where
    next_follows : (before p : Planned) (met : ℕ) → IsNextTable setting before met p → (t : TableThere) → t.shape.len ≡ before.len → t.shape.limit ≡ before.limit → IsFull c.map t moments met
        → IsNextShape terms c moments capacity t (shape_of p)
    next_follows before p met next t len_is limit_is full = (
      Full met next.1,
      next.0,
      setting.initial,
      made_for,
      may_make t c.call its_call asked next.0 met next.1 full,
      subst (λ (n : ℕ). Has (next_len (Full met next.1) n next.0 setting.initial) p.len) (sym len_is) next.2,
      next.3 ∙ ap (λ (n : ℕ). next_limit (Full met next.1) n before.limit p.len) (sym len_is) ∙ ap (λ (n : ℕ). next_limit (Full met next.1) t.shape.len n p.len) (sym limit_is),
    )

    follows_first : (p : Planned) → IsFirstTable p → (tables : List TableThere) → length tables ≡ 0 → Follows terms c moments capacity (shape_of p) tables
    follows_first p so [] e = first_follows p so c.call its_call asked
    follows_first p so (t ∷ tables) e = absurd (omega (arith, e))

-- what effects find that link no table
module _ {K V : Type 0} (terms : Terms) (moments : List (Moment K V)) (own : List ℕ) (map : ℕ) where
  shape_by : (f : Effect) (m : Moment K V) (c : CallThere K V) → call_of own m ≡ Some c → FindsShape terms moments m f c → ByCall (FindsShape terms moments m f) (call_of own m)
  shape_by f m c is finds = subst (ByCall (FindsShape terms moments m f)) (sym is) finds

  quiet_shape : (f : Effect) (m : Moment K V) (c : CallThere K V) → of_table f ≡ false → FindsShape terms moments m f c
  quiet_shape (effect.Linked t shape) m c e = absurd (cc e)
  quiet_shape _ m c e = tt

  pub none_shaped : (effects : List Effect) (m : Moment K V) (c : CallThere K V) → call_of own m ≡ Some c → NoneOfTable effects → FindShapes terms moments own map effects m
  none_shaped [] m c is none = tt
  none_shaped (f ∷ fs) m c is none =
      (shape_by f m c is (quiet_shape f m c none.0), none_shaped fs (with_effect (Some own) (Some map) f m) (call_by m f c) (its_effect own map f m c is) none.1)

  pub one_shaped : (f : Effect) (m : Moment K V) (c : CallThere K V) → call_of own m ≡ Some c → FindsShape terms moments m f c → FindShapes terms moments own map (f ∷ []) m
  one_shaped f m c is finds = (shape_by f m c is finds, tt)

  pub two_shaped : (f g : Effect) (m : Moment K V) (c : CallThere K V) → call_of own m ≡ Some c → FindsShape terms moments m f c → ((v : Moment K V) (d : CallThere K V) → FindsShape terms moments v g d)
      → FindShapes terms moments own map (f ∷ g ∷ []) m
  two_shaped f g m c is finds further = (
    shape_by f m c is finds,
    (
      shape_by g (with_effect (Some own) (Some map) f m) (call_by m f c) (its_effect own map f m c is) (further (with_effect (Some own) (Some map) f m) (call_by m f c)),
      tt,
    ),
  )

module _ {K V : Type 0} (same : K → K → Bool) (hash : ℕ → K → ℕ) (name : ℕ → List ℕ) (m : Moment K V) (known : Known) (s : Scene K V) (old new : Held K V) (at : IsAt same hash old s)
    (whole : RefinesWhole same name m known s) (tables : RefinesOwnTables name m known s) (growing : RefinesGrowing m s) (map i : ℕ) (u : CallOnKey K V K) (here : s.calls map i ≡ Some (OnKey u))
    (said : Progress (Node K V)) (leads : StepLeads same hash i said s old new) (copies_none : IsCopying u.call.stands → ⊥) (made_for : IsMadeFor map m (leads map (OnKey u) here).0.setting)
    (terms : Terms) (moments : List (Moment K V)) (found_full : HasFoundFull map (many_of map m) (m ∷ moments) u.call u.call.stands) where
  abbrev st : Standing K
  st = (leads map (OnKey u) here).0

  abbrev st_is : s.maps map ≡ Some (leads map (OnKey u) here).0
  st_is = (leads map (OnKey u) here).2

  abbrev effects : List Effect
  effects = effects_of (acts.Call i map) known new.changed

  abbrev its_call : (c : CallThere K V) × (call_of (name i) m ≡ Some c) × (c.map ≡ map) × IsCalled same (OnKey u) c.call
  its_call = whole.all.shown.calls map i (OnKey u) here

  abbrev c : CallThere K V
  c = its_call.0

  abbrev seen : Blocks
  seen = seen_by st.blocks (st.sights (slot_of i))

  each : Together V same st.hash same st.setting slot_of s.world st.chart st.blocks st.sights (s.calls map)
  each = at.together.makings.standing.each map st st_is

  many_now : st.chart.past ≡ many_of map m
  many_now = tables_many map (whole.all.shown.number map) st m known (whole.all.shown.maps map st st_is)

  asked : IsAskedAs (whole.all.shown.number map) st.chart.stored known u c.call c
  asked = whole.all.asked.each map i (OnKey u) here st st_is c its_call.1

  on_map : AtEachEffect (FindsMap map) (Some (name i)) (Some map) effects m
  on_map = (steps_find_places K V same hash name m known s old new at whole map i (OnKey u) here said leads).0

  module _ (p : Planned) (effects_are : effects ≡ effect.Linked (of_map map p) (shape_of p) ∷ []) (had : table_made (making_in_calling u.call.stands) ≡ Some p) where
    -- it comes next
    turn_is : p.turn ≡ many_of map m
    turn_is = (subst (λ (fs : List Effect). AtEachEffect (FindsMap map) (Some (name i)) (Some map) fs m) effects_are on_map).0.1

    abbrev Shape : Type 0
    Shape = Follows terms c (m ∷ moments) (capacity_or (map_at map m)) (shape_of p) (tables_of map m)

    module _ (has : HasGivenForNone u.pair) (setting_is : u.call.setting ≡ in_slot st.setting (slot_of i)) where
      abbrev follow_first : (q : Planned) → IsFirstTable q → (ts : List TableThere) → length ts ≡ 0 → Follows terms c (m ∷ moments) (capacity_or (map_at map m)) (shape_of q) ts
      follow_first =
          follows_first same terms (m ∷ moments) u c (whole.all.shown.number map) st.chart.stored (numbers_apart map (whole.all.shown.number map) st m known (whole.all.shown.maps map st st_is).pairs) known has
          its_call.3 asked (capacity_or (map_at map m)) st.setting made_for

      -- the table that the call has tried is the newest, and it follows that
      module _ (t : ℕ) (entered : IsTable st.chart seen u.call.trial.table t) (turn : p.turn ≡ suc t) where
        abbrev tried : Planned
        tried = u.call.trial.table

        newest : suc tried.turn ≡ many_of map m
        newest = ap (λ (x : Planned). suc x.turn) entered.is ∙ sym turn ∙ turn_is

        follow_next : IsNextTable u.call.setting tried u.call.trial.met p → (suc tried.turn ≡ many_of map m → IsFull map (there_of map tried) (m ∷ moments) u.call.trial.met) → Shape
        follow_next next full =
            subst (λ (ts : List TableThere). Follows terms c (m ∷ moments) (capacity_or (map_at map m)) (shape_of p) ts) (sym (whole.all.shown.maps map st st_is).tables.listed)
            (follows_newest terms (m ∷ moments) c (capacity_or (map_at map m)) (shape_of p) map st.chart (whole.all.shown.maps map st st_is).tables.stage t st.chart.past (many_now ∙ sym turn_is ∙ turn)
            (next_follows same terms (m ∷ moments) u c (whole.all.shown.number map) st.chart.stored (numbers_apart map (whole.all.shown.number map) st m known (whole.all.shown.maps map st st_is).pairs) known has
            its_call.3 asked (capacity_or (map_at map m)) st.setting made_for tried p u.call.trial.met (subst (λ (x : Setting). IsNextTable x tried u.call.trial.met p) setting_is next)
            (newest_of map st.chart (whole.all.shown.maps map st st_is).tables.stage t) (sym (ap (λ (x : Planned). x.len) entered.is)) (sym (ap (λ (x : Planned). x.limit) entered.is))
            (subst (λ (k : ℕ). IsFull k (newest_of map st.chart (whole.all.shown.maps map st st_is).tables.stage t) (m ∷ moments) u.call.trial.met) (sym its_call.2)
            (subst (λ (x : Planned). IsFull map (there_of map x) (m ∷ moments) u.call.trial.met) entered.is (full newest)))))

      by_point : (q : Calling) (n : NewTable) → making_in_calling q ≡ Some n → table_in n.stands ≡ Some p → (IsCopying q → ⊥) → GrowsAt (many_of map m) u.call q → HasFoundFull map (many_of map m) (m ∷ moments) u.call q → IsWhich s.world i (in_slot st.setting (slot_of i)) st.chart seen p u.call q → Shape
      by_point (at_point.Firsts k) n is made other grows full turn =
          let one : n ≡ k = (let back : k ≡ n = cc is in sym back) in
          follow_first p (made_so (λ before reason. ⊥) IsFirstTable k.stands p grows.1 (subst (λ (y : NewTable). table_in y.stands ≡ Some p) one made)) (tables_of map m) (sym turn_is ∙ turn)
      by_point (at_point.Allocs k) n is made other grows full after =
          let one : n ≡ k = (let back : k ≡ n = cc is in sym back) in
          let next = made_so (λ b reason. (b ≡ u.call.trial.table) × (most : ℕ) × (reason ≡ Full u.call.trial.met most)) (IsNextTable u.call.setting u.call.trial.table u.call.trial.met) k.stands p grows.1.1
          (subst (λ (y : NewTable). table_in y.stands ≡ Some p) one made) in
          follow_next after.0 after.1 after.2 next full
      by_point (at_point.Helps copier goal) n is made other grows full turn = absurd (other tt)
      by_point (at_point.Copies copier) n is made other grows full turn = absurd (other tt)
      by_point _ n is made other grows full turn = absurd (cc is)

    -- by what it knows
    follows_so : Shape
    follows_so = by (some_making (making_in_calling u.call.stands) p had)
      where
        by : (n : NewTable) × (making_in_calling u.call.stands ≡ Some n) × (table_in n.stands ≡ Some p) → Shape
        by (n, is, made) = elim (each.stand i (OnKey u) here) as (λ _. Shape) [
          | inr k ↦ absurd (let none = call_none u.call.stands k.1 in cc (none, is))
          | inl k ↦
              (let has = knows_for_none same st.hash st.setting slot_of s.world st.chart seen i u u.call k.1 (many_of map m) (growing map i u here) n is copies_none in
              elim (k.1.facts) as (λ _. Shape) [
                | inl facts ↦
                    by_point has facts.setting_is u.call.stands n is made copies_none (growing map i u here) found_full
                    (which_now s.world i (in_slot st.setting (slot_of i)) st.chart seen p same st.hash u.keys u.change u.call u.call.stands n facts.point is made)
                | inr late ↦
                    by_point has late.1.setting_is u.call.stands n is made copies_none (growing map i u here) found_full
                    (which_late s.world i (in_slot st.setting (slot_of i)) st.chart seen p same st.hash u.keys u.began u.call u.call.stands n late.1.point is made)
              ])
        ]

    linked_finds : FindShapes terms moments (name i) map effects m
    linked_finds =
        subst (λ (fs : List Effect). FindShapes terms moments (name i) map fs m) (sym effects_are)
        (one_shaped terms moments (name i) map (effect.Linked (of_map map p) (shape_of p)) m c its_call.1
        (subst (λ (k : ℕ). Follows terms c (m ∷ moments) (capacity_or (map_at k m)) (shape_of p) (tables_of k m)) (sym its_call.2) follows_so))

  pub key_links : FindShapes terms moments (name i) map effects m
  key_links = elim ((left_tables same hash name m known s old new at whole tables map i (OnKey u) here said leads).goes) as (λ _. FindShapes terms moments (name i) map effects m) [
    | Stays quiet as_before ↦ none_shaped terms moments (name i) map effects m c its_call.1 quiet
    | IsMade p effects_are none has in_turn ↦
        subst (λ (fs : List Effect). FindShapes terms moments (name i) map fs m) (sym effects_are)
        (two_shaped terms moments (name i) map (effect.Asked ABlock) (effect.TableMade (of_map map p)) m c its_call.1 tt (λ v d. tt))
    | IsGivenUp p effects_are had none in_turn ↦
        subst (λ (fs : List Effect). FindShapes terms moments (name i) map fs m) (sym effects_are)
        (one_shaped terms moments (name i) map (effect.TableGivenUp (of_map map p)) m c its_call.1 tt)
    | IsLinked p effects_are had none ↦ linked_finds p effects_are had
  ]

pub key_calls_link : (K V : Type 0) (same : K → K → Bool) (hash : ℕ → K → ℕ) → KeyCallsLink K V same hash
key_calls_link K V same hash name m known s old new at whole tables growing map i u here said leads copies_none made_for terms moments found_full =
    key_links same hash name m known s old new at whole tables growing map i u here said leads copies_none made_for terms moments found_full

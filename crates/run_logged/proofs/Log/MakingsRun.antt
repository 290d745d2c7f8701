-- The making of a map runs on: what its steps do follows one upon another, and each that goes on leaves less to do.
use Rattle.std.specs.Prelude.{◌≡◌, ◌≢◌, ◌<◌, ◌==◌, ◌&&◌, ℕ, zero, suc, Bool, true, false, List, [], ◌∷◌, ◌++◌, length, Option, Some, None, option_map, if◌then◌else◌}
use Rattle.std.specs.List.{list_all}
use Rattle.std.proofs.Common.{refl, sym, ap, subst, ◌∙◌, inl, inr, arith, length-append}
use Rattle.std.proofs.lemmas.Bool.{eq-eqb, ne_eqb}
use Rattle.std.proofs.lemmas.List.{append-nil, append_assoc}
use Rattle.std.proofs.lemmas.List.Folds.{list_all-append}
use Rattle.seize.specs.World.{with_at}
use Rattle.seize.specs.declared.advance.Advance.{Advance}
use Rattle.seize.specs.declared.advance.Advance.TheVariants as progress
use Rattle.papaya_raw.specs.Given.TablesDeclared.setting.Setting.{Setting}
use Rattle.run_effects.specs.Given.RuleChart.{Chart}
use Rattle.run_effects.specs.Given.ResizeNewMap.{new_map_plan}
use Rattle.run_effects.specs.Given.ResizeDeclared.new_map.NewMap.{NewMap}
use Rattle.run_schedules.specs.declared.effect.Effect.{Effect}
use Rattle.run_schedules.specs.Schedules.Effects.{with_effects}
use Rattle.run_schedules.specs.Schedules.InTurn.{is_growth}
use Rattle.run_schedules.specs.Schedules.Moment.{Stage, TableThere, Moment}
use Rattle.run_effects.specs.declared.changed.Changed.TheVariants.{Nothing}
use Rattle.run_shows.proofs.Given.CallersTogether.At.{at_other, at_same}
use Rattle.run_shows.proofs.Given.CallersTogether.Users.{events_rows, events_uses}
use Rattle.run_shows.specs.Follows.Maps.{shape_at, table_of, tables_to}
use Rattle.run_shows.specs.Given.FinishesMakings.{Beginning, IsNewChart, StepsOfMaking}
use Rattle.run_shows.specs.Given.FinishesMaps.{Standing}
use Rattle.run_kept.specs.Given.MapsMeasuresBegins.{new_map_left}
use Rattle.run_kept.proofs.Given.MapsBegins.ComesToEnd.{beginnings_leave_less}
use Rattle.run_executor.specs.declared.executor.Executor.{Executor}
use Rattle.run_executor.specs.declared.worker.Work.{Work}
use Rattle.run_executor.specs.declared.worker.Work.TheVariants as work
use Rattle.run_shows.specs.Others.Makings.{WasNew, making_after}
use Rattle.run_executor.proofs.Given.MomentsAfter.{effects_after}
use Rattle.run_logged.specs.Log.Makings.{BelowIfRefused, is_over, HasTable, IsBare, JustAsks, StaysNew, CameBare, MakingCame, MakingSteps, MakingIsAt, MakingRan}
use Rattle.run_logged.specs.Log.Shown.{IsShown}
use Rattle.run_logged.specs.declared.logged.Logged.{Logged}
use Rattle.run_logged.proofs.Log.MakingSteps.{is_there}
use Rattle.run_executor.specs.Executing.IsThere.{IsThere, held_by, making_in, work_of}
use Rattle.run_executor.specs.Executing.Making.{MakesThere}
use Rattle.run_shows.proofs.Scenes.Told.{as_step}
use Rattle.run_shows.specs.Scenes.Scene.{IsMaking, Scene, slot_of}
use Rattle.run_kept.proofs.Sheds.Held.{making_held}
use Rattle.run_shows.specs.Scenes.Held.{Held}
use Rattle.run_shows.specs.Scenes.Making.{MakingLeads}

-- how many steps are left at most of what a caller has under way, if that is the making of a map
abbrev pub making_left_of : {K V : Type 0} → Option (Work K V) → ℕ
making_left_of (Some (work.Making map opening)) = new_map_left opening
making_left_of _ = 0

-- what a caller has under way, if it is a making
pub making_of : {K V : Type 0} (x : Option (Work K V)) (map : ℕ) (opening : NewMap) → making_in x ≡ Some (map, opening) → x ≡ Some (work.Making map opening)
making_of None map opening is = absurd (cc is)
making_of (Some (work.Call other machine)) map opening is = absurd (cc is)
making_of (Some (work.Making other machine)) map opening is =
    let both : ◌≡◌ {A = ℕ × NewMap} (other, machine) (map, opening) = cc is in
    ap (λ (z : ℕ × NewMap). Some (work.Making z.0 z.1)) both
making_of (Some (work.Ending ending)) map opening is = absurd (cc is)
making_of (Some (work.OnSlot row)) map opening is = absurd (cc is)

module _ {K V : Type 0} (s : Scene K V) (i : ℕ) (b : Beginning K) where
  -- it has not gone on yet
  came_first : s.makers i ≡ Some b → MakingCame s s i b progress.Goes
  came_first here = record { maker = (b.machine, here); makers = λ j ne. refl; maps = refl; calls = refl; enders = refl; rows = refl; uses = refl }

  -- from where it has come, a step leads on
  module _ (s1 : Scene K V) (came : MakingCame s s1 i b progress.Goes) where
    -- as which machine it goes on there
    abbrev pub b1 : Beginning K
    b1 = record b { machine = came.maker.0 }

    abbrev pub here1 : s1.makers i ≡ Some b1
    here1 = came.maker.1

    others : (next : Option (Beginning K)) (j : ℕ) → j ≢ i → with_at s1.makers i next j ≡ s.makers j
    others next j ne = at_other s1.makers i next j ne ∙ came.makers j ne

    module _ (same : K → K → Bool) (hash : ℕ → K → ℕ) (mid new : Held K V) where
      -- a step leaves rows and uses of slots as they are
      module _ (told : Advance Setting) (leads : MakingLeads same hash i told s1 mid new) where
        abbrev step : StepsOfMaking V same same mid.batch_size mid.roots slot_of s1.world s1.maps s1.calls s1.makers i b1 new.memory ((leads b1 here1).0, told)
        step = (leads b1 here1).2.step

        rows_on : step.w2.row ≡ s.world.row
        rows_on = events_rows mid.batch_size step.events s1.world step.w2 step.users step.runs ∙ came.rows

        uses_on : step.w2.uses ≡ s.world.uses
        uses_on = events_uses mid.batch_size step.events s1.world step.w2 step.users step.runs ∙ came.uses

      pub came_on : (told : Advance Setting) (leads : MakingLeads same hash i told s1 mid new)
          → MakingCame s (making_after same hash s1 mid new i b1 (leads b1 here1).0 (leads b1 here1).2.step.w2 told (leads b1 here1).3) i b told
      came_on progress.Goes leads = record {
        maker = ((leads b1 here1).0, at_same s1.makers i (Some (record b { machine = (leads b1 here1).0 })) i refl);
        makers = others (Some (record b { machine = (leads b1 here1).0 }));
        maps = came.maps;
        calls = came.calls;
        enders = came.enders;
        rows = rows_on progress.Goes leads;
        uses = uses_on progress.Goes leads;
      }
      came_on progress.Waits leads = absurd (leads b1 here1).3
      came_on (progress.Done setting) leads =
          let st : Standing K = (leads b1 here1).3.0 in
          let made = (leads b1 here1).3.1 in
          record {
            maker = at_same s1.makers i None i refl;
            makers = others None;
            maps = record {
              standing = st;
              there = at_same s1.maps b.map (Some st) b.map refl;
              setting_is = made.setting_is;
              answer_is = made.answer_is;
              hash_is = made.hash_is;
              chart_is = made.chart_is;
              others = λ n ne. at_other s1.maps b.map (Some st) n ne ∙ ap (λ (f : ℕ → Option (Standing K)). f n) came.maps;
            };
            calls = came.calls;
            enders = came.enders;
            rows = rows_on (progress.Done setting) leads;
            uses = uses_on (progress.Done setting) leads;
          }
      came_on (progress.Refused fault) leads = record {
        maker = at_same s1.makers i None i refl;
        makers = others None;
        maps = came.maps;
        calls = came.calls;
        enders = came.enders;
        rows = rows_on (progress.Refused fault) leads;
        uses = uses_on (progress.Refused fault) leads;
      }

      -- if it has made no table there, neither has its machine
      pub bare_on : (told : Advance Setting) (leads : MakingLeads same hash i told s1 mid new)
          → CameBare s (making_after same hash s1 mid new i b1 (leads b1 here1).0 (leads b1 here1).2.step.w2 told (leads b1 here1).3) i b told (came_on told leads).maker
          → IsBare told (leads b1 here1).0
      unfolding came_on
      bare_on progress.Goes leads bare = bare
      bare_on progress.Waits leads bare = bare
      bare_on (progress.Done setting) leads bare = bare
      bare_on (progress.Refused fault) leads bare = tt

    module _ {S : Type 0} (same : K → K → Bool) (hash : K → ℕ) (mid new : Executor K V S) (at : IsThere same hash mid s1) where
      -- it was under way, and it is still, with less to do
      pub was_under : work_of mid i ≡ Some (work.Making b.map came.maker.0)
      was_under = making_of (work_of mid i) b.map came.maker.0 (sym (at.makers i) ∙ ap (option_map (λ (x : Beginning K). (x.map, x.machine))) here1)

      module _ (leads : MakesThere same hash i progress.Goes s1 mid new) where
        pub is_under : work_of new i ≡ Some (work.Making b.map (leads b1 here1).0)
        is_under =
            making_of (work_of new i) b.map (leads b1 here1).0
            (sym ((leads b1 here1).3.makers i) ∙ ap (option_map (λ (x : Beginning K). (x.map, x.machine))) (at_same s1.makers i (Some (record b { machine = (leads b1 here1).0 })) i refl))

        less : new_map_left (leads b1 here1).0 < new_map_left came.maker.0
        less = beginnings_leave_less K V came.maker.0 (leads b1 here1).0 (
          mid.memory.memory,
          new.memory.memory,
          as_step mid.memory.memory Nothing (new_map_plan came.maker.0) new.memory.memory new.memory.changed ((leads b1 here1).0, progress.Goes) (leads b1 here1).1,
        )

        pub left_falls : making_left_of (work_of new i) < making_left_of (work_of mid i)
        left_falls =
            subst (λ (x : Option (Work K V)). making_left_of x < making_left_of (work_of mid i)) (sym is_under)
            (subst (λ (x : Option (Work K V)). new_map_left (leads b1 here1).0 < making_left_of x) (sym was_under) less)

-- the tables of a new map
pub new_past : {K : Type 0} (hash : K → ℕ) (setting : Setting) (places : ℕ) (chart : Chart K) → IsNewChart hash setting places chart → chart.past ≡ (if places == 0 then 0 else 1)
new_past {K} hash setting places chart (inl it) = ap (λ (c : Chart K). c.past) it.1 ∙ ap (λ (q : Bool). if q then 0 else 1) (sym (eq-eqb places 0 it.0))
new_past {K} hash setting places chart (inr it) = ap (λ (c : Chart K). c.past) it.2 ∙ ap (λ (q : Bool). if q then 0 else 1) (sym (ne_eqb places 0 it.0))

so_many : {K : Type 0} (map : ℕ) (c : Chart K) (stage : ℕ → Stage) (past : ℕ) → length (tables_to map c stage past) ≡ past
so_many map c stage zero = refl
so_many map c stage (suc t) =
    let one : TableThere = record { table = table_of map t; shape = shape_at map c t; stage = stage t } in
    let e = length-append (tables_to map c stage t) (one ∷ []) in
    let k = so_many map c stage t in
    omega (arith, e, k)

has_its_table : {K V S : Type 0} (same : K → K → Bool) (hash : K → ℕ) (name : ℕ → List ℕ) (w : Moment K V) (l : Logged K V S) (s s2 : Scene K V) (i : ℕ) (b : Beginning K) (told : Advance Setting)
    → MakingCame s s2 i b told → IsShown same hash name w l s2 → HasTable told b w
has_its_table same hash name w l s s2 i b progress.Goes came shown = tt
has_its_table same hash name w l s s2 i b progress.Waits came shown = tt
has_its_table same hash name w l s s2 i b (progress.Done setting) came shown =
    let st = came.maps.standing in
    let tables = (shown.shows.all.shown.maps b.map st came.maps.there).tables in
    ap length tables.listed ∙ so_many b.map st.chart tables.stage st.chart.past ∙ new_past b.hash setting b.places st.chart came.maps.chart_is
has_its_table same hash name w l s s2 i b (progress.Refused fault) came shown = tt

-- effects that just ask, one after another
both_ask : (xs ys : List Effect) → list_all is_growth xs ≡ true → list_all is_growth ys ≡ true → list_all is_growth (xs ++ ys) ≡ true
both_ask xs ys first later = list_all-append is_growth xs ys ∙ ap (λ (q : Bool). q && list_all is_growth ys) first ∙ later

-- what was new where the run began is new where its last step is taken
module _ {K V : Type 0} (map : ℕ) (m v : Moment K V) (stays : StaysNew map progress.Goes m v) where
  new_there : (told : Advance Setting) → WasNew map told m → WasNew map told v
  new_there progress.Goes was = tt
  new_there progress.Waits was = tt
  new_there (progress.Done setting) was = stays setting was
  new_there (progress.Refused fault) was = tt

  stays_on : (told : Advance Setting) (u : Moment K V) → StaysNew map told v u → StaysNew map told m u
  stays_on progress.Goes u later = λ setting is_new. later setting (stays setting is_new)
  stays_on progress.Waits u later = tt
  stays_on (progress.Done setting) u later = tt
  stays_on (progress.Refused fault) u later = tt

module _ {K V S : Type 0} (i map : ℕ) where
  pub makes_none : (l : Logged K V S) (xs : List Effect) → MakingRan i map progress.Goes xs xs l l
  unfolding came_first
  makes_none l xs = (
    [],
    sym (append-nil xs),
    λ same hash s at b here of_map. (s, came_first s i b here, at),
    λ same hash name m s shown b here of_map of. (λ setting is_new. is_new, λ was_new below. (s, came_first s i b here, shown, λ bare. (bare, refl), tt)),
  )

  -- and one step more
  module _ (old mid new : Logged K V S) (xs ys zs : List Effect) (told : Advance Setting) (ran : MakingRan i map progress.Goes xs ys old mid) (step : MakingSteps i map told ys zs mid new)
      (stepping : (same : K → K → Bool) (hash : K → ℕ) (s : Scene K V) → IsThere same hash mid.executor s → MakesThere same hash i told s mid.executor new.executor) where
    there_on : (same : K → K → Bool) (hash : K → ℕ) (s : Scene K V) → IsThere same hash old.executor s → MakingIsAt same hash s i map told (ran.0 ++ step.0) old new
    there_on same hash s at b here of_map =
        let u = ran.2 same hash s at b here of_map in
        let went = stepping same hash u.0 u.2 in
        let leads = making_held same hash u.0 mid.executor new.executor i told went in
        let b1 : Beginning K = record b { machine = u.1.maker.0 } in (
          making_after same (λ map. hash) u.0 (held_by mid.executor) (held_by new.executor) i b1 (leads b1 u.1.maker.1).0 (leads b1 u.1.maker.1).2.step.w2 told (leads b1 u.1.maker.1).3,
          came_on s i b u.0 u.1 same (λ map. hash) (held_by mid.executor) (held_by new.executor) told leads,
          is_there same hash mid.executor new.executor u.0 i told went b1 u.1.maker.1,
        )

    module _ (same : K → K → Bool) (hash : K → ℕ) (name : ℕ → List ℕ) (m : Moment K V) (s : Scene K V) (shown : IsShown same hash name m old s) (b : Beginning K) (here : s.makers i ≡ Some b)
        (of_map : b.map ≡ map) (of : Option ℕ) where
      abbrev v : Moment K V
      v = with_effects None of ran.0 m

      was : StaysNew map progress.Goes m v
          × (Unit {0} → Unit {0} → (s1 : Scene K V) × (came : MakingCame s s1 i b progress.Goes) × IsShown same hash name v mid s1 × (CameBare s s1 i b progress.Goes came.maker → JustAsks b ran.0) × HasTable progress.Goes b v)
      was = ran.3 same hash name m s shown b here of_map of

      after_it : with_effects None of (ran.0 ++ step.0) m ≡ with_effects None of step.0 v
      after_it = effects_after None of ran.0 step.0 m

      shown_on : StaysNew map told m (with_effects None of (ran.0 ++ step.0) m)
          × (WasNew map told m → BelowIfRefused map told m
          → (s2 : Scene K V) × (came : MakingCame s s2 i b told) × IsShown same hash name (with_effects None of (ran.0 ++ step.0) m) new s2
          × (CameBare s s2 i b told came.maker → JustAsks b (ran.0 ++ step.0)) × HasTable told b (with_effects None of (ran.0 ++ step.0) m))
      shown_on =
          let u = was.1 tt tt in
          let b1 : Beginning K = record b { machine = u.1.maker.0 } in
          let to = step.2 same hash name v u.0 u.2 b1 u.1.maker.1 of_map in
          let leads = to.0 in
          let goes = to.2 of in
          let s2 : Scene K V = making_after same (λ map. hash) u.0 (held_by mid.executor) (held_by new.executor) i b1 (leads b1 u.1.maker.1).0 (leads b1 u.1.maker.1).2.step.w2 told (leads b1 u.1.maker.1).3 in (
            stays_on map m v was.0 told (with_effects None of (ran.0 ++ step.0) m) (subst (λ (x : Moment K V). StaysNew map told v x) (sym after_it) goes.0),
            λ was_new below. (
                let came : MakingCame s s2 i b told = came_on s i b u.0 u.1 same (λ map. hash) (held_by mid.executor) (held_by new.executor) told leads in
                let there : IsShown same hash name (with_effects None of (ran.0 ++ step.0) m) new s2 =
                subst (λ (x : Moment K V). IsShown same hash name x new s2) (sym after_it) (goes.1 (new_there map m v was.0 told was_new)) in (
                  s2,
                  came,
                  there,
                  λ bare. (let it = to.1 (bare_on s i b u.0 u.1 same (λ map. hash) (held_by mid.executor) (held_by new.executor) told leads bare) in let before = u.3 it.0 in (before.0, both_ask ran.0 step.0 before.1 it.1)),
                  has_its_table same hash name (with_effects None of (ran.0 ++ step.0) m) new s s2 i b told came there,
                )),
          )

    pub makes_on : MakingRan i map told xs zs old new
    makes_on = (
      ran.0 ++ step.0,
      step.1 ∙ ap (λ (l : List Effect). l ++ step.0) ran.1 ∙ append_assoc xs ran.0 step.0,
      there_on,
      λ same hash name m s shown b here of_map of. shown_on same hash name m s shown b here of_map of,
    )

  -- the executor is there at a scene at which the making is under way still
  pub still_making : (same : K → K → Bool) (hash : K → ℕ) (s : Scene K V) (old mid : Logged K V S) (xs ys : List Effect) → IsThere same hash old.executor s → (b : Beginning K) → s.makers i ≡ Some b → b.map ≡ map
      → MakingRan i map progress.Goes xs ys old mid → (s1 : Scene K V) × IsThere same hash mid.executor s1 × IsMaking s1 i
  still_making same hash s old mid xs ys at b here of_map ran =
      let u = ran.2 same hash s at b here of_map in (u.0, u.2, (record b { machine = u.1.maker.0 }, u.1.maker.1))

  -- as it is noted of the caller
  pub still_under : (same : K → K → Bool) (hash : K → ℕ) (s : Scene K V) (old mid : Logged K V S) (xs ys : List Effect) → IsThere same hash old.executor s → (b : Beginning K) → s.makers i ≡ Some b → b.map ≡ map
      → MakingRan i map progress.Goes xs ys old mid → (opening : NewMap) × (making_in (work_of mid.executor i) ≡ Some (map, opening))
  still_under same hash s old mid xs ys at b here of_map ran =
      let u = ran.2 same hash s at b here of_map in (
        u.1.maker.0,
        sym (u.2.makers i) ∙ ap (option_map (λ (d : Beginning K). (d.map, d.machine))) u.1.maker.1 ∙ ap (λ (n : ℕ). Some (n, u.1.maker.0)) of_map,
      )

  -- a step that is not the last one goes on
  only_goes : (same : K → K → Bool) (hash : K → ℕ) (s : Scene K V) (mid new : Executor K V S) (b : Beginning K) (here : s.makers i ≡ Some b) (told : Advance Setting)
      → MakesThere same hash i told s mid new → is_over told ≡ false → told ≡ progress.Goes
  only_goes same hash s mid new b here progress.Goes leads more = refl
  only_goes same hash s mid new b here progress.Waits leads more = absurd (leads b here).3
  only_goes same hash s mid new b here (progress.Done setting) leads more = absurd (cc more)
  only_goes same hash s mid new b here (progress.Refused fault) leads more = absurd (cc more)

  -- so it runs on, with less to do
  module _ (same : K → K → Bool) (hash : K → ℕ) (s : Scene K V) (old mid new : Logged K V S) (xs ys zs : List Effect) (told : Advance Setting) (at : IsThere same hash old.executor s) (b : Beginning K) (here : s.makers i ≡ Some b) (of_map : b.map ≡ map)
      (ran : MakingRan i map progress.Goes xs ys old mid) (step : MakingSteps i map told ys zs mid new)
      (stepping : (same : K → K → Bool) (hash : K → ℕ) (s : Scene K V) → IsThere same hash mid.executor s → MakesThere same hash i told s mid.executor new.executor) (more : is_over told ≡ false) where
    abbrev there : (s1 : Scene K V) × MakingCame s s1 i b progress.Goes × IsThere same hash mid.executor s1
    there = ran.2 same hash s at b here of_map

    goes : told ≡ progress.Goes
    goes = only_goes same hash there.0 mid.executor new.executor (record b { machine = there.1.maker.0 }) there.1.maker.1 told (stepping same hash there.0 there.2) more

    pub ran_goes : MakingRan i map progress.Goes xs zs old new
    ran_goes = subst (λ (t : Advance Setting). MakingRan i map t xs zs old new) goes (makes_on old mid new xs ys zs told ran step stepping)

    pub making_less : making_left_of (work_of new.executor i) < making_left_of (work_of mid.executor i)
    making_less =
        left_falls s i b there.0 there.1 same hash mid.executor new.executor there.2
        (subst (λ (t : Advance Setting). MakesThere same hash i t there.0 mid.executor new.executor) goes (stepping same hash there.0 there.2))

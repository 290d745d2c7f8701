-- The end of a map runs on: what its steps do follows one upon another, and each that is not the last one leaves less to do.
use Rattle.std.specs.Prelude.{◌≡◌, ◌≢◌, ◌<◌, ◌≤◌, ◌+◌, ◌^◌, ℕ, Bool, true, false, List, [], ◌∷◌, ◌++◌, Option, Some, None, option_map}
use Rattle.std.proofs.Common.{refl, sym, ap, subst, ◌∙◌}
use Rattle.std.proofs.lemmas.List.{append-nil, append_assoc}
use Rattle.std.proofs.lemmas.Grind.{flat_map-append}
use Rattle.run_schedules.specs.Given.SeizeWordsMem.{Mem, Took, value_at}
use Rattle.run_schedules.specs.Given.SeizeWordsPlan.{Steps}
use Rattle.seize.specs.World.{World, with_at}
use Rattle.seize.specs.declared.rows.settle.Settled.{Settled}
use Rattle.seize.specs.declared.rows.settle.Settled.TheVariants as settled
use Rattle.papaya_raw.specs.Given.TablesDeclared.node.Node.{Node}
use Rattle.papaya_raw.specs.EndMap.{end_map_plan}
use Rattle.papaya_raw.specs.declared.machines.end_map.EndMap.{EndMap}
use Rattle.run_schedules.specs.declared.effect.Effect.{Effect}
use Rattle.run_schedules.specs.Schedules.Effects.{with_effects}
use Rattle.run_schedules.specs.Schedules.Moment.{Moment}
use Rattle.run_effects.specs.declared.changed.Changed.TheVariants.{Nothing}
use Rattle.run_effects.specs.Effects.Effects.{taken_by}
use Rattle.run_effects.specs.Effects.Known.{Known, known}
use Rattle.run_effects.specs.declared.acting.Acting.TheVariants.{Ending}
use Rattle.run_shows.proofs.Given.CallersTogether.At.{at_other, at_same}
use Rattle.run_shows.specs.Given.FinishesEndings.{Finishing, FinishingFacts, waiting_by}
use Rattle.run_shows.specs.Given.FinishesFactsEnds.{taken_by as taken_of}
use Rattle.run_shows.specs.Given.FinishesMaps.{Standing}
use Rattle.run_shows.proofs.Given.FinishesAmong.Own.Steps.{endings_stand}
use Rattle.run_kept.specs.Given.MapsEndingsEnds.{HasMore}
use Rattle.run_kept.specs.Given.MapsMeasuresEnds.{end_map_left, most_blocks, tables_left, steps_left}
use Rattle.run_kept.proofs.Given.MapsEnds.Lower.{end_falls, fits_in_one}
use Rattle.run_executor.specs.declared.executor.Executor.{Executor}
use Rattle.run_executor.specs.declared.worker.Work.{Work}
use Rattle.run_executor.specs.declared.worker.Work.TheVariants as work
use Rattle.run_shows.specs.Others.Endings.{ending_after}
use Rattle.run_executor.proofs.Given.MomentsAfter.{effects_after}
use Rattle.run_logged.specs.Log.Ends.{is_done, ReportsCame, NotedStill, EndCame, EndSteps, EndIsAt, EndIsShown, EndRan}
use Rattle.run_kept.specs.Ends.{ended_as}
use Rattle.run_logged.specs.Log.Shown.{IsShown}
use Rattle.run_kept.specs.Sheds.Waits.{ReportsThen, ReportsWaiting}
use Rattle.run_logged.specs.declared.logged.Logged.{Logged}
use Rattle.run_logged.proofs.Log.EndAll.{all_end}
use Rattle.run_logged.proofs.Log.EndSteps.{end_there}
use Rattle.run_executor.specs.Executing.Ending.{EndsThere}
use Rattle.run_executor.specs.Executing.IsThere.{IsThere, ending_in, held_by, work_of}
use Rattle.run_shows.proofs.Scenes.Told.{as_step}
use Rattle.run_shows.specs.Scenes.Scene.{IsEnding, Scene, slot_of}
use Rattle.run_kept.proofs.Sheds.Held.{ending_held}
use Rattle.run_shows.specs.Scenes.Ending.{EndingLeads}
use Rattle.run_shows.specs.Scenes.Held.{Held, IsAt}

-- how many steps are left at most of what a caller has under way, if that is the end of a map
abbrev pub end_left_of : {K V : Type 0} → Mem (Node K V) → Option (Work K V) → ℕ
end_left_of m (Some (work.Ending e)) = end_map_left m e
end_left_of m _ = 0

-- what a caller has under way, if it is an end
ending_of : {K V : Type 0} (x : Option (Work K V)) (e : EndMap) → ending_in x ≡ Some e → x ≡ Some (work.Ending e)
ending_of None e is = absurd (cc is)
ending_of (Some (work.Call other machine)) e is = absurd (cc is)
ending_of (Some (work.Making other machine)) e is = absurd (cc is)
ending_of (Some (work.Ending ending)) e is = let same : ending ≡ e = cc is in ap (λ (z : EndMap). Some (work.Ending z)) same
ending_of (Some (work.OnSlot row)) e is = absurd (cc is)

module _ {K V : Type 0} (s : Scene K V) (i : ℕ) (f : Finishing K V) where
  -- it has not gone on yet
  came_first : s.enders i ≡ Some f → EndCame s s i f [] false
  came_first here = record {
    ender = (f.machine, f.waits, here ∙ ap (λ (l : List ℕ). Some (record f { back = l })) (sym (append-nil f.back)));
    enders = λ j ne. refl;
    maps = refl;
    calls = refl;
    makers = refl;
    rows = refl;
    uses = refl;
  }

  -- from where it has come, a step leads on
  module _ (s1 : Scene K V) (gone : List ℕ) (came : EndCame s s1 i f gone false) where
    -- as which end it goes on there
    abbrev pub f1 : Finishing K V
    f1 = record f { machine = came.ender.0; back = f.back ++ gone; waits = came.ender.1 }

    abbrev pub here1 : s1.enders i ≡ Some f1
    here1 = came.ender.2

    others : (next : Option (Finishing K V)) (j : ℕ) → j ≢ i → with_at s1.enders i next j ≡ s.enders j
    others next j ne = at_other s1.enders i next j ne ∙ came.enders j ne

    none_more : (taken : List ℕ) → taken ≡ [] → f.back ++ gone ≡ f.back ++ (gone ++ taken)
    none_more taken none = ap (λ (l : List ℕ). f.back ++ l) (sym (append-nil gone)) ∙ ap (λ (l : List ℕ). f.back ++ (gone ++ l)) (sym none)

    module _ (e : EndMap) (waits : List ℕ) (back : List ℕ) (taken : List ℕ) (long : back ≡ f.back ++ (gone ++ taken)) where
      goes_there : with_at s1.enders i (Some (record f { machine = e; back = back; waits = waits })) i ≡ Some (record f { machine = e; back = f.back ++ (gone ++ taken); waits = waits })
      goes_there =
          at_same s1.enders i (Some (record f { machine = e; back = back; waits = waits })) i refl
          ∙ ap (λ (l : List ℕ). Some (record f { machine = e; back = l; waits = waits })) long

    module _ (same : K → K → Bool) (hash : ℕ → K → ℕ) (mid new : Held K V) where
      pub came_on : (said : Settled (Node K V)) (leads : EndingLeads same hash i said s1 mid new)
          → EndCame s (ending_after same hash s1 new i f1 (leads f1 here1).0 (leads f1 here1).2.w2 (leads f1 here1).2.deed said (leads f1 here1).3) i f (gone ++ taken_of (leads f1 here1).2.deed) (is_done said)
      came_on settled.Goes leads =
          let to = leads f1 here1 in
          let waits = came.ender.1 ++ waiting_by to.2.deed in
          record {
            ender = (to.0, waits, goes_there to.0 waits (f.back ++ gone) (taken_of to.2.deed) (none_more (taken_of to.2.deed) to.3.0));
            enders = others (Some (record f { machine = to.0; back = f.back ++ gone; waits = waits }));
            maps = came.maps;
            calls = came.calls;
            makers = came.makers;
            rows = to.2.spares.rows ∙ came.rows;
            uses = to.2.spares.uses ∙ came.uses;
          }
      came_on settled.Waits leads = absurd (leads f1 here1).3
      came_on (settled.Gave value) leads =
          let to = leads f1 here1 in
          let b : ℕ = to.3.0 in
          let waits = came.ender.1 ++ waiting_by to.2.deed in
          let long = append_assoc f.back gone (b ∷ []) ∙ ap (λ (l : List ℕ). f.back ++ (gone ++ l)) (sym to.3.2) in
          record {
            ender = (to.0, waits, goes_there to.0 waits ((f.back ++ gone) ++ b ∷ []) (taken_of to.2.deed) long);
            enders = others (Some (record f { machine = to.0; back = (f.back ++ gone) ++ b ∷ []; waits = waits }));
            maps = came.maps;
            calls = came.calls;
            makers = came.makers;
            rows = to.2.spares.rows ∙ came.rows;
            uses = to.2.spares.uses ∙ came.uses;
          }
      came_on settled.Done leads =
          let to = leads f1 here1 in
          record {
            ender = (at_same s1.enders i None i refl, sym (none_more (taken_of to.2.deed) to.3.0) ∙ to.3.1.back_is, (came.ender.1, to.3.1.root));
            enders = others None;
            maps = came.maps;
            calls = came.calls;
            makers = came.makers;
            rows = to.2.spares.rows ∙ came.rows;
            uses = to.2.spares.uses ∙ came.uses;
          }

      -- what it has left over by then
      pub waits_on : (of : ℕ) (began x : Moment K V) (noted : Known) (said : Settled (Node K V)) (leads : EndingLeads same hash i said s1 mid new)
          → ReportsThen same of i f1 (is_done said) (leads f1 here1).0 (leads f1 here1).2.deed began x noted (leads f1 here1).2.w2
          → (let s2 = ending_after same hash s1 new i f1 (leads f1 here1).0 (leads f1 here1).2.w2 (leads f1 here1).2.deed said (leads f1 here1).3 in
          ReportsCame s s2 i f (gone ++ taken_of (leads f1 here1).2.deed) same of began x noted (is_done said) (came_on said leads).ender)
      unfolding came_on
      waits_on of began x noted settled.Goes leads tells =
          let to = leads f1 here1 in
          subst (λ (l : List ℕ). ReportsWaiting same of i (record f { machine = to.0; back = l; waits = came.ender.1 ++ waiting_by to.2.deed }) began x noted to.2.w2)
          (append_assoc f.back gone (taken_of to.2.deed)) tells
      waits_on of began x noted settled.Waits leads tells = absurd (leads f1 here1).3
      waits_on of began x noted (settled.Gave value) leads tells =
          let to = leads f1 here1 in
          subst (λ (l : List ℕ). ReportsWaiting same of i (record f { machine = to.0; back = l; waits = came.ender.1 ++ waiting_by to.2.deed }) began x noted to.2.w2)
          (append_assoc f.back gone (taken_of to.2.deed)) tells
      waits_on of began x noted settled.Done leads tells = tells

      module _ (at : IsAt same hash mid s1) (said : Settled (Node K V)) (leads : EndingLeads same hash i said s1 mid new) where
        abbrev e2 : EndMap
        e2 = (leads f1 here1).0

        facts : FinishingFacts same mid.batch_size s1.world i f1
        facts = at.together.facts i f1 here1

        steps : Steps Took value_at s1.world.memory (end_map_plan came.ender.0) new.memory (e2, said)
        steps =
            subst (λ (x : Mem (Node K V)). Steps Took value_at x (end_map_plan came.ender.0) new.memory (e2, said)) (sym at.memory)
            (as_step mid.memory Nothing (end_map_plan came.ender.0) new.memory new.changed (e2, said) (leads f1 here1).1)

        -- where it stands then, with what it knows there
        module _ (f2 : Finishing K V) (is : f2.machine ≡ e2) (w2 : World (Node K V)) (memory : w2.memory ≡ new.memory) (after : FinishingFacts same new.batch_size w2 i f2) where
          fits : (tables_left new.memory e2 e2.stands ≤ most_blocks new.memory) × (steps_left new.memory e2 e2.stands < most_blocks new.memory + 2 ^ 49)
          fits =
              subst (λ (e : EndMap). (tables_left new.memory e e.stands ≤ most_blocks new.memory) × (steps_left new.memory e e.stands < most_blocks new.memory + 2 ^ 49)) is
              (subst (λ (x : Mem (Node K V)). (tables_left x f2.machine f2.machine.stands ≤ most_blocks x) × (steps_left x f2.machine f2.machine.stands < most_blocks x + 2 ^ 49)) memory
              (fits_in_one same f2.hash after.lawful f2.setting f2.chart f2.blocks after.lists false i f2.began after.stood w2 f2.machine after.past f2.back after.facts))

          falls : HasMore said → (said ≡ settled.Waits → ⊥) → end_map_left new.memory e2 < end_map_left mid.memory came.ender.0
          falls more goes =
              subst (λ (x : Mem (Node K V)). end_map_left new.memory e2 < end_map_left x came.ender.0) at.memory
              (end_falls same f.hash facts.lawful f.setting f.chart f.blocks facts.lists false i f.began facts.stood s1.world came.ender.0 facts.past (f.back ++ gone) facts.facts
              (endings_stand {Q = K} V same same mid.batch_size mid.roots slot_of s1.world s1.maps s1.calls s1.makers s1.enders at.together i f1 here1).0
              new.memory e2 said more goes steps fits)

    module _ {S : Type 0} (same : K → K → Bool) (hash : K → ℕ) (mid new : Executor K V S) (at : IsThere same hash mid s1) where
      -- it was under way, and it is still, with less to do
      pub was_under : work_of mid i ≡ Some (work.Ending came.ender.0)
      was_under = ending_of (work_of mid i) came.ender.0 (sym (at.enders i) ∙ ap (option_map (λ (x : Finishing K V). x.machine)) here1)

      less : (said : Settled (Node K V)) (leads : EndsThere same hash i said s1 mid new) → is_done said ≡ false
          → (work_of new i ≡ Some (work.Ending (leads f1 here1).0)) × (end_map_left new.memory.memory (leads f1 here1).0 < end_map_left mid.memory.memory came.ender.0)
      less settled.Goes leads more =
          let to = leads f1 here1 in
          let g : Finishing K V = record f { machine = to.0; back = f.back ++ gone; waits = came.ender.1 ++ waiting_by to.2.deed } in
          let there = at_same s1.enders i (Some g) i refl in (
            ending_of (work_of new i) to.0 (sym (to.3.1.enders i) ∙ ap (option_map (λ (x : Finishing K V). x.machine)) there),
            falls same (λ map. hash) (held_by mid) (held_by new) at.held settled.Goes (ending_held same hash s1 mid new i settled.Goes leads) g refl to.2.w2 to.2.memory (to.3.1.held.together.facts i g there) tt (λ e. cc e),
          )
      less settled.Waits leads more = absurd (leads f1 here1).3
      less (settled.Gave value) leads more =
          let to = leads f1 here1 in
          let g : Finishing K V = record f { machine = to.0; back = (f.back ++ gone) ++ to.3.0 ∷ []; waits = came.ender.1 ++ waiting_by to.2.deed } in
          let there = at_same s1.enders i (Some g) i refl in (
            ending_of (work_of new i) to.0 (sym (to.3.3.enders i) ∙ ap (option_map (λ (x : Finishing K V). x.machine)) there),
            falls same (λ map. hash) (held_by mid) (held_by new) at.held (settled.Gave value) (ending_held same hash s1 mid new i (settled.Gave value) leads) g refl to.2.w2 to.2.memory (to.3.3.held.together.facts i g there) tt (λ e. cc e),
          )
      less settled.Done leads more = absurd (cc more)

      pub left_falls : (said : Settled (Node K V)) (leads : EndsThere same hash i said s1 mid new) → is_done said ≡ false
          → end_left_of new.memory.memory (work_of new i) < end_left_of mid.memory.memory (work_of mid i)
      left_falls said leads more =
          let it = less said leads more in
          subst (λ (x : Option (Work K V)). end_left_of new.memory.memory x < end_left_of mid.memory.memory (work_of mid i)) (sym it.0)
          (subst (λ (x : Option (Work K V)). end_map_left new.memory.memory (leads f1 here1).0 < end_left_of mid.memory.memory x) (sym was_under) it.1)

module _ {K V S : Type 0} (i map : ℕ) where
  pub ends_none : (l : Logged K V S) (xs : List Effect) → EndRan i map false xs xs l l
  unfolding came_first
  ends_none l xs = (
    [],
    sym (append-nil xs),
    λ same hash s at f here. (s, [], came_first s i f here, at),
    λ same hash name m s shown f here not_there number first notes still. (
      s,
      [],
      came_first s i f here,
      refl,
      subst (NotedStill first (known l.notes)) (sym (append-nil f.back)) still,
      shown,
      λ over none. absurd (cc over),
      λ began before. subst (λ (bs : List ℕ). ReportsWaiting same map i (record f { back = bs }) began m (known l.notes) s.world) (sym (append-nil f.back)) before,
    ),
  )

  -- and one step more
  module _ (old mid new : Logged K V S) (xs ys zs : List Effect) (said : Settled (Node K V)) (ran : EndRan i map false xs ys old mid) (step : EndSteps i map said ys zs mid new)
      (stepping : (same : K → K → Bool) (hash : K → ℕ) (s : Scene K V) → IsThere same hash mid.executor s → EndsThere same hash i said s mid.executor new.executor) where
    there_on : (same : K → K → Bool) (hash : K → ℕ) (s : Scene K V) → IsThere same hash old.executor s → EndIsAt same hash s i (is_done said) new
    there_on same hash s at f here =
        let u = ran.2 same hash s at f here in
        let went = stepping same hash u.0 u.3 in
        let leads = ending_held same hash u.0 mid.executor new.executor i said went in
        let g : Finishing K V = record f { machine = u.2.ender.0; back = f.back ++ u.1; waits = u.2.ender.1 } in
        let to = leads g u.2.ender.2 in (
          ending_after same (λ map. hash) u.0 (held_by new.executor) i g to.0 to.2.w2 to.2.deed said to.3,
          u.1 ++ taken_of to.2.deed,
          came_on s i f u.0 u.1 u.2 same (λ map. hash) (held_by mid.executor) (held_by new.executor) said leads,
          end_there same hash mid.executor new.executor u.0 i said went g u.2.ender.2,
        )

    module _ (same : K → K → Bool) (hash : K → ℕ) (name : ℕ → List ℕ) (m : Moment K V) (s : Scene K V) (shown : IsShown same hash name m old s) where
      shown_on : EndIsShown same hash s i (is_done said) new name map old (ran.0 ++ step.0) m
      shown_on f here not_there number first notes still =
          let u = ran.3 same hash name m s shown f here not_there number first notes still in
          let g : Finishing K V = record f { machine = u.2.ender.0; back = f.back ++ u.1; waits = u.2.ender.1 } in
          let to = step.2 same hash name (with_effects None (Some map) ran.0 m) u.0 u.5 g u.2.ender.2 (ap (λ (h : ℕ → Option (Standing K)). h map) u.2.maps ∙ not_there) number first notes u.4 in
          let leads = to.0 in
          let taken : List ℕ = taken_of (leads g u.2.ender.2).2.deed in
          let its = leads g u.2.ender.2 in
          let s2 : Scene K V = ending_after same (λ map. hash) u.0 (held_by new.executor) i g its.0 its.2.w2 its.2.deed said its.3 in
          let came = came_on s i f u.0 u.1 u.2 same (λ map. hash) (held_by mid.executor) (held_by new.executor) said leads in
          let did_so : ran.0 ++ step.0 ≡ ended_as map first (u.1 ++ taken) =
          ap (λ (l : List Effect). l ++ step.0) u.3 ∙ ap (λ (l : List Effect). ended_as map first u.1 ++ l) to.1 ∙ sym (flat_map-append (λ b. taken_by (Ending map) (first.roles b)) u.1 taken) in (
            s2,
            u.1 ++ taken,
            came,
            did_so,
            subst (NotedStill first (known new.notes)) (append_assoc f.back u.1 taken) to.2,
            subst (λ (x : Moment K V). IsShown same hash name x new s2) (sym (effects_after None (Some map) ran.0 step.0 m)) to.3,
            λ over none.
                (let ender = (subst (λ (q : Bool). EndCame s s2 i f (u.1 ++ taken) q) over came).ender in
                let all = ap (λ (l : List ℕ). l ++ (u.1 ++ taken)) (sym none) ∙ ender.1 in
                did_so ∙ ap (ended_as map first) all ∙ all_end map number first f.setting f.chart f.blocks notes (shown.is_at.held.together.facts i f here).each),
            λ began before.
                waits_on s i f u.0 u.1 u.2 same (λ map. hash) (held_by mid.executor) (held_by new.executor) map began (with_effects None (Some map) (ran.0 ++ step.0) m) (known new.notes) said leads
                (subst (λ (x : Moment K V). ReportsThen same map i g (is_done said) its.0 its.2.deed began x (known new.notes) its.2.w2)
                (sym (effects_after None (Some map) ran.0 step.0 m)) (to.4 began (u.7 began before))),
          )

    pub ends_on : EndRan i map (is_done said) xs zs old new
    ends_on = (
      ran.0 ++ step.0,
      step.1 ∙ ap (λ (l : List Effect). l ++ step.0) ran.1 ∙ append_assoc xs ran.0 step.0,
      there_on,
      λ same hash name m s shown. shown_on same hash name m s shown,
    )

    -- by the last one it is over
    pub ends_last : is_done said ≡ true → EndRan i map true xs zs old new
    ends_last over = subst (λ (q : Bool). EndRan i map q xs zs old new) over ends_on

  -- the executor is there at a scene at which the end is under way still
  pub still_ending : (same : K → K → Bool) (hash : K → ℕ) (s : Scene K V) (old mid : Logged K V S) (xs ys : List Effect) → IsThere same hash old.executor s → IsEnding s i
      → EndRan i map false xs ys old mid → (s1 : Scene K V) × IsThere same hash mid.executor s1 × IsEnding s1 i
  still_ending same hash s old mid xs ys at it ran =
      let u = ran.2 same hash s at it.0 it.1 in (u.0, u.3, (record it.0 { machine = u.2.ender.0; back = it.0.back ++ u.1; waits = u.2.ender.1 }, u.2.ender.2))

  -- as it is noted of the caller
  pub ending_under : (same : K → K → Bool) (hash : K → ℕ) (s : Scene K V) (old mid : Logged K V S) (xs ys : List Effect) → IsThere same hash old.executor s → IsEnding s i
      → EndRan i map false xs ys old mid → (ending : EndMap) × (ending_in (work_of mid.executor i) ≡ Some ending)
  ending_under same hash s old mid xs ys at it ran =
      let t = still_ending same hash s old mid xs ys at it ran in
      (t.2.0.machine, sym (t.1.enders i) ∙ ap (option_map (λ (f : Finishing K V). f.machine)) t.2.1)

  -- so it runs on, with less to do
  module _ (same : K → K → Bool) (hash : K → ℕ) (s : Scene K V) (old mid new : Logged K V S) (xs ys zs : List Effect) (said : Settled (Node K V)) (at : IsThere same hash old.executor s) (it : IsEnding s i)
      (ran : EndRan i map false xs ys old mid) (step : EndSteps i map said ys zs mid new)
      (stepping : (same : K → K → Bool) (hash : K → ℕ) (s : Scene K V) → IsThere same hash mid.executor s → EndsThere same hash i said s mid.executor new.executor) (more : is_done said ≡ false) where
    pub ran_goes : EndRan i map false xs zs old new
    ran_goes = subst (λ (q : Bool). EndRan i map q xs zs old new) more (ends_on old mid new xs ys zs said ran step stepping)

    pub ending_less : end_left_of new.executor.memory.memory (work_of new.executor i) < end_left_of mid.executor.memory.memory (work_of mid.executor i)
    ending_less =
        let u = ran.2 same hash s at it.0 it.1 in
        left_falls s i it.0 u.0 u.1 u.2 same hash mid.executor new.executor u.3 said (stepping same hash u.0 u.3) more

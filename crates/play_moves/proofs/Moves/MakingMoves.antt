-- The step of the making of a map, as it is played, does what it may: the map has just the table that was made for it where it has a capacity, and where it is refused none was made.
use Rattle.std.specs.Prelude.{◌≡◌, ◌==◌, ◌+◌, ℕ, Bool, true, false, List, [], length, filter, Some, None, if◌then◌else◌}
use Rattle.std.specs.List.{list_all}
use Rattle.std.proofs.Common.{refl, ap, sym, ◌∙◌, arith, length-append}
use Rattle.std.proofs.lemmas.List.Elements.{filter-append}
use Rattle.run_schedules.specs.Given.SeizeWordsMem.{Mem}
use Rattle.seize_acts.specs.Given.SeizeDeclared.advance.Advance.{Advance}
use Rattle.seize_acts.specs.Given.SeizeDeclared.advance.Advance.TheVariants as progress
use Rattle.run_legal.specs.Given.TablesDeclared.node.Node.{Node}
use Rattle.run_legal.specs.Given.TablesDeclared.setting.Setting.{Setting}
use Rattle.threads_rule.specs.Given.ResizeNewMap.{plan_at}
use Rattle.threads_rule.specs.Given.ResizeDeclared.new_map.NewMap.{NewMap}
use Rattle.threads_rule.specs.Given.ResizeDeclared.new_map.Opening.{Opening}
use Rattle.threads_rule.specs.Given.ResizeDeclared.new_map.Opening.TheVariants as openings
use Rattle.run_legal.specs.Given.TellerTells.{StepsObserved}
use Rattle.run_legal.specs.Given.EffectsDeclared.changed.Changed.{Changed}
use Rattle.run_legal.specs.Given.EffectsDeclared.changed.Changed.TheVariants as changed
use Rattle.run_schedules.specs.declared.effect.Effect.{Effect}
use Rattle.run_schedules.specs.Schedules.Effects.{with_effects}
use Rattle.run_schedules.specs.Schedules.Handing.{is_first_making, is_granted, is_table_made}
use Rattle.run_schedules.specs.Schedules.Moment.{Moment}
use Rattle.run_schedules.specs.Schedules.Transition.{worked_by}
use Rattle.run_schedules.specs.Schedules.Views.{capacity_or, map_at, tables_of}
use Rattle.run_legal.specs.Given.EffectsEffects.{effects_of, known_after}
use Rattle.run_legal.specs.Given.EffectsKnown.{Known}
use Rattle.run_legal.specs.Given.EffectsDeclared.acting.Acting.TheVariants as acts
use Rattle.run_legal.specs.Given.FinishesMakings.{Beginning, MakingFacts}
use Rattle.run_legal.specs.Given.FollowsShows.{Refines}
use Rattle.run_legal.specs.Given.OthersMakings.{WasNew, making_after}
use Rattle.run_legal.specs.Given.ScenesHeld.{Held, IsAt}
use Rattle.run_legal.specs.Given.ScenesMaking.{MakingHasOutcome, MakingLeads}
use Rattle.run_legal.specs.Given.ScenesScene.{Scene}
use Rattle.run_legal.proofs.Given.CallersTogether.At.{at_same}
use Rattle.run_legal.proofs.Given.FindsCapacities.{effects_keep_capacities}
use Rattle.play_linear.proofs.Given.FollowsFinds.{tables_many}
use Rattle.play_linear.proofs.Given.AgreesOpenings.{rootless_quiet}
use Rattle.run_schedules.specs.Deeds.Deeds.{Entry, Makes, MapComes, MapFails, moment, named}
use Rattle.run_schedules.specs.Deeds.History.{IsWhole, Refuses, made_by, made_for, may_do, past, transition}
use Rattle.play_linear.specs.Given.PlayedPlay.{State, has_root, is_refusal, making_outcome, pairs_for}
use Rattle.run_legal.proofs.Given.NeedsMakings.{makings_do_theirs}
use Rattle.run_legal.proofs.Given.NeedsTablesMade.{makings_count_tables}
use Rattle.run_legal.specs.Given.NeedsMakings.{CountsTables, in_hand, table_left}
use Rattle.play_linear.specs.Linear.Shown.{RefinesAnswers}
use Rattle.play_linear.proofs.Linear.MapActs.{deed_by}
use Rattle.play_linear.proofs.Linear.OthersGo.{makings_step}
use Rattle.play_moves.specs.EachMoves.Parts.{DoesIts}
use Rattle.play_moves.proofs.EachMoves.Counted.{are_so_many, freeing_has_none, own_made, places_as_pairs, so_many}
use Rattle.play_moves.proofs.EachMoves.Parts.{all_also, granted_so, none_may}
use Rattle.play_moves.proofs.EachMoves.Rooted.{IsFreeing, Rooted}
use Rattle.play_linear.proofs.Given.AgreesGrants.{refusals_so as refuses_so}
use Rattle.run_legal.proofs.Given.LogMakingsRun.{new_past as new_tables}

-- where it frees its root nothing else is done
pub frees_quietly : {K V : Type 0} (c : NewMap) (m n : Mem (Node K V)) (told : Changed) (end : NewMap × Advance Setting) (stands : Opening) → IsFreeing stands
    → StepsObserved K V (NewMap × Advance Setting) m changed.Nothing (plan_at c stands) n told end → (map : ℕ) (known : Known) → effects_of (acts.Making map) known told ≡ []
frees_quietly c m n told end (openings.Frees fault) is s map known = ap (effects_of (acts.Making map) known) s.1.1
frees_quietly c m n told end _ is s map known = absurd is

module _ {K V S : Type 0} (same : K → K → Bool) (hash : ℕ → K → ℕ) (x : State K V S) (s : Scene K V) (old new : Held K V) (at : IsAt same hash old s)
    (all : RefinesAnswers same (past x.history) (moment x.history) x.known s) (i : ℕ) (b : Beginning K) (makes : s.makers i ≡ Some b) (machine : NewMap) (said : Advance Setting)
    (leads : MakingLeads same hash i said s old new) (rooted : Rooted b.machine.stands (machine, said)) (was_new : WasNew b.map said (moment x.history))
    (bare : tables_of b.map (moment x.history) ≡ []) (made : made_for b.map x.history ≡ in_hand (table_left b.machine progress.Goes))
    (capacity : has_root b.machine.stands ≡ true → capacity_or (map_at b.map (moment x.history)) ≡ pairs_for b.machine.len) where
  abbrev m : Moment K V
  m = moment x.history

  abbrev effects : List Effect
  effects = effects_of (acts.Making b.map) x.known new.changed

  abbrev known_then : Known
  known_then = known_after (acts.Making b.map) new.changed x.known

  abbrev w : Moment K V
  w = with_effects None (Some b.map) effects m

  abbrev had : Bool
  had = has_root b.machine.stands

  abbrev has : Bool
  has = has_root machine.stands

  facts : MakingFacts s.world same old.batch_size old.roots i b
  facts = at.together.makings.facts i b makes

  pub rootless : had ≡ false → effects ≡ []
  rootless none = rootless_quiet b.machine old.memory new.memory new.changed ((leads b makes).0, said) b.machine.stands none (leads b makes).1 (acts.Making b.map) x.known

  freed : had ≡ true → has ≡ false → effects ≡ []
  freed was none = frees_quietly b.machine old.memory new.memory new.changed ((leads b makes).0, said) b.machine.stands (rooted.0 was none) (leads b makes).1 b.map x.known

  firsts : list_all is_first_making effects ≡ true
  firsts = makings_do_theirs K V same hash named m x.known s old new at all.whole.all.shown i said leads b makes (all.whole.counters i b makes)

  shown_then : (let to = leads b makes in Refines same named w known_then (making_after same hash s old new i b to.0 to.2.step.w2 said to.3))
  shown_then = (makings_step K V same hash (past x.history) m x.known s all old new at i said leads b makes was_new).whole.all.shown

  -- so many tables are made then, and those that the map has then, and the one in hand
  pub counts : length (filter is_table_made effects) + made_for b.map x.history ≡ length (tables_of b.map w) + in_hand (table_left (leads b makes).0 said)
  counts =
      let before : CountsTables b.map (so_many (made_for b.map x.history)) m (table_left b.machine progress.Goes) =
      (let many = are_so_many (made_for b.map x.history) in let none = ap length bare in omega (arith, many, made, none)) in
      let then_so = makings_count_tables K V same hash named m x.known s old new at all.whole.all.shown all.kept.tables i said leads b makes (all.whole.counters i b makes) (Some b.map)
      (so_many (made_for b.map x.history)) before shown_then in
      let parts = ap length (filter-append is_table_made (so_many (made_for b.map x.history)) effects)
      ∙ length-append (filter is_table_made (so_many (made_for b.map x.history))) (filter is_table_made effects) in
      let many = are_so_many (made_for b.map x.history) in omega (arith, then_so, parts, many)

  -- a map that stands then has the one table, if it is to have one
  stands_with : (told : Advance Setting) (comes : MakingHasOutcome same hash s old new i b (leads b makes).0 (leads b makes).2.step.w2 told)
      → Refines same named w known_then (making_after same hash s old new i b (leads b makes).0 (leads b makes).2.step.w2 told comes) → (setting : Setting) → told ≡ progress.Done setting
      → length (tables_of b.map w) ≡ (if b.places == 0 then 0 else 1)
  stands_with progress.Goes comes shown setting is = absurd (cc is)
  stands_with progress.Waits comes shown setting is = absurd comes
  stands_with (progress.Refused fault) comes shown setting is = absurd (cc is)
  stands_with (progress.Done answer) comes shown setting is =
      let its = shown.maps b.map comes.0 (at_same s.maps b.map (Some comes.0) b.map refl) in
      sym (tables_many b.map (shown.number b.map) comes.0 w known_then its) ∙ new_tables b.hash answer b.places comes.0.chart comes.1.chart_is

  granted_then : is_granted false effects ≡ true
  granted_then = granted_so (acts.Making b.map) x.known new.changed

  refuses_then : Refuses (is_refusal new.changed) effects
  refuses_then = refuses_so (acts.Making b.map) x.known new.changed

  -- by which deed it is
  abbrev pub entry_by : Bool → Bool → Entry K V
  entry_by p q = record { deed = deed_by b.map machine p q; outcome = making_outcome said; effects = effects; refused = is_refusal new.changed }

  may_by : (p q : Bool) → had ≡ p → has ≡ q → list_all (may_do (deed_by {K = K} {V = V} b.map machine p q)) effects ≡ true
  may_by true true was is = all_also is_first_making (may_do {K = K} {V = V} (Makes b.map)) (λ f its. its) effects firsts
  may_by false false was is = all_also is_first_making (may_do {K = K} {V = V} (Makes b.map)) (λ f its. its) effects firsts
  may_by true false was is = none_may {K = K} {V = V} (MapFails b.map) effects (freed was is)
  may_by false true was is = none_may {K = K} {V = V} (MapComes b.map machine.setting.root machine.setting.mode (pairs_for machine.len)) effects (rootless was)

  done_well : (setting : Setting) → said ≡ progress.Done setting → had ≡ true
      → (length (tables_of b.map w) ≡ made_by {K = K} {V = V} b.map (Makes b.map) effects + made_for b.map x.history) × (length (tables_of b.map w) ≡ (if capacity_or (map_at b.map w) == 0 then 0 else 1))
  done_well setting done was = (
    (let none = ap (λ (p : Advance Setting). in_hand (table_left (leads b makes).0 p)) done in let own = own_made K V b.map effects in omega (arith, counts, none, own)),
    stands_with said (leads b makes).3 shown_then setting done ∙ ap (λ (n : ℕ). if n == 0 then 0 else 1) (sym facts.len_is) ∙ sym (places_as_pairs b.machine.len)
        ∙ ap (λ (n : ℕ). if n == 0 then 0 else 1) (sym (effects_keep_capacities K V None (Some b.map) effects m b.map ∙ capacity was)),
  )

  failed : had ≡ true → has ≡ false → (made_for b.map x.history ≡ 0) × (tables_of b.map w ≡ [])
  failed was none = (
    made ∙ freeing_has_none b.machine.stands (rooted.0 was none),
    ap (λ (fs : List Effect). tables_of b.map (with_effects None (Some b.map) fs m)) (freed was none) ∙ bare,
  )

  whole_made : (told : Advance Setting) → said ≡ told → had ≡ true → has ≡ true → IsWhole x.history (Makes b.map) (making_outcome told) effects w
  whole_made progress.Goes is was rooted_then = tt
  whole_made progress.Waits is was rooted_then = tt
  whole_made (progress.Done setting) is was rooted_then = done_well setting is was
  whole_made (progress.Refused fault) is was rooted_then = absurd (let none = rooted.1 fault is in cc (none, rooted_then))

  whole_rootless : (told : Advance Setting) → said ≡ told → had ≡ false → has ≡ false → IsWhole x.history (Makes b.map) (making_outcome told) effects w
  whole_rootless progress.Goes is was none = tt
  whole_rootless progress.Waits is was none = tt
  whole_rootless (progress.Done setting) is was none = absurd (let rooted_then = rooted.2 setting is in cc (none, rooted_then))
  whole_rootless (progress.Refused fault) is was none = rootless was

  whole_by : (p q : Bool) → had ≡ p → has ≡ q → IsWhole x.history (deed_by b.map machine p q) (making_outcome said) effects (worked_by (transition x.history (entry_by p q)))
  whole_by true true was is = whole_made said refl was is
  whole_by false false was is = whole_rootless said refl was is
  whole_by true false was is = failed was is
  whole_by false true was is = tt

  moves_by : (p q : Bool) → had ≡ p → has ≡ q → DoesIts x.history (entry_by p q)
  moves_by true true was is = record { may = may_by true true was is; granted = granted_then; refuses = refuses_then; whole = whole_by true true was is; leaves = tt }
  moves_by false false was is = record { may = may_by false false was is; granted = granted_then; refuses = refuses_then; whole = whole_by false false was is; leaves = tt }
  moves_by true false was is = record { may = may_by true false was is; granted = granted_then; refuses = refuses_then; whole = whole_by true false was is; leaves = tt }
  moves_by false true was is = record { may = may_by false true was is; granted = granted_then; refuses = refuses_then; whole = tt; leaves = tt }

  pub makings_move : DoesIts x.history (entry_by had has)
  makings_move = moves_by had has refl refl

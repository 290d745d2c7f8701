-- Whichever act is made, each block behind which something may be put is somebody's then.
use Rattle.std.specs.Prelude.{◌++◌, Option, Some}
use Rattle.std.proofs.Common.{◌≡◌, ℕ, Bool, List, [], ◌∷◌, refl, sym, subst}
use Rattle.run_shows.specs.Given.SeizeWordsMem.{Mem}
use Rattle.run_shows.specs.Given.SeizeLaw.{Ended}
use Rattle.run_shows.specs.Given.SeizeWorld.{with_at, with_effect}
use Rattle.run_shows.specs.Given.SeizeDeclared.advance.Advance.{Advance}
use Rattle.run_shows.specs.Given.SeizeDeclared.advance.Advance.TheVariants as progress
use Rattle.run_shows.specs.Given.SeizeDeclared.rows.settle.Settled.{Settled}
use Rattle.run_shows.specs.Given.SeizeDeclared.rows.settle.Settled.TheVariants as settled
use Rattle.seize_acts.proofs.Acts.Answers.{was_stepped}
use Rattle.run_shows.specs.Given.TablesDeclared.node.Node.{Node}
use Rattle.run_shows.specs.Given.TablesDeclared.setting.Setting.{Setting}
use Rattle.run_shows.specs.Given.ResizeDeclared.new_map.NewMap.{NewMap}
use Rattle.run_shows.specs.Given.ResizeDeclared.copier.Copier.{Copier}
use Rattle.run_shows.specs.Given.RawMachine.{machine_plan, machine_asked}
use Rattle.run_shows.specs.Given.RawDeclared.machines.end_map.EndMap.{EndMap}
use Rattle.owner_facts.specs.Given.CallersTogether.{UnderWay}
use Rattle.owner_facts.specs.Given.FinishesEndings.{Finishing, MakingStepsWithEndings, StepsOfEnding, waiting_by}
use Rattle.owner_facts.specs.Given.FinishesFactsEnds.{taken_by}
use Rattle.owner_facts.specs.Given.FinishesMachines.{machine_of}
use Rattle.owner_facts.specs.Given.FinishesMakings.{Beginning}
use Rattle.owner_facts.specs.Given.FinishesMaps.{with_call}
use Rattle.many_acts.specs.Acts.Acts.{Act, Answer, begun, BeginsCall, StepsCall, TellsCall, AsksCall, StopsCall, BeginsMaking, StepsMaking, BeginsEnding, StepsEnding, BeginsRow, StepsRow}
use Rattle.many_acts.specs.Acts.Leads.{MayBe, AllStand, Led, MakingCame, EndingCame, asked_on}
use Rattle.many_acts.proofs.Acts.Calls.{asked_machine}
use Rattle.many_acts.proofs.Acts.Left.{goes_on_by, goes_on_same}
use Rattle.run_shows.proofs.Scenes.NoCall.{none_is}
use Rattle.many_acts.specs.Carries.Lists.{AreTheirs, ActsPreserveTheirs}
use Rattle.many_acts.specs.Carries.Theirs.{copier_of, AllAreTheirs}
use Rattle.many_acts.proofs.Carries.Endings.{endings_begin_and_keep_theirs, endings_keep_theirs}
use Rattle.many_acts.proofs.Carries.Guards.{changes_keep_theirs, guards_keep_theirs}
use Rattle.many_acts.proofs.Carries.Machines.{kind_theirs}
use Rattle.many_acts.proofs.Carries.Makings.{makings_keep_theirs}
use Rattle.many_acts.proofs.Carries.Owed.{one_some}
use Rattle.many_acts.proofs.Carries.Told.{told_on, next_on, not_stopped}
use Rattle.run_shows.specs.Scenes.Replying.{unless_stopped}
use Rattle.run_shows.specs.Scenes.Scene.{Scene}

module _ {K V S : Type 0} (same : K → K → Bool) (hash : S → K → ℕ) (batch_size roots : ℕ) (slot : ℕ → ℕ) (s n : Scene K V) (all : AllStand same hash batch_size roots slot s)
    (stand : AllStand same hash batch_size roots slot n) (theirs : AreTheirs s) where
  to : (x : Scene K V) → n ≡ x → AreTheirs x → AreTheirs n
  to x is so = subst AreTheirs (sym is) so

  -- what is under way is another thing, with the copier that was within it
  changed : (m i : ℕ) (next : Option (UnderWay K V K))
      → ((u : UnderWay K V K) (p : Copier) → s.calls m i ≡ Some u → copier_of u ≡ Some p → (u2 : UnderWay K V K) × (next ≡ Some u2) × (copier_of u2 ≡ Some p))
      → AreTheirs (record s { calls = with_call s.calls m i next })
  changed m i next still =
      changes_keep_theirs V same same batch_size roots slot s.world s.maps s.calls s.makers s.enders m i next
      (λ u b here owes. let k = still u owes.0 here owes.1 in (k.0, k.1, (owes.0, k.2, owes.2))) theirs

  of_call : (m i : ℕ) (u : UnderWay K V K) → s.calls m i ≡ Some u → (v : UnderWay K V K) (p : Copier) → s.calls m i ≡ Some v → copier_of v ≡ Some p → copier_of u ≡ Some p
  of_call m i u here v p there has = subst (λ (x : UnderWay K V K). copier_of x ≡ Some p) (one_some (s.calls m i) v u there here) has

  -- by what a making tells
  made : (i : ℕ) (b : Beginning K) → s.makers i ≡ Some b → (m2 : Mem (Node K V)) (machine : NewMap) (end : Advance Setting)
      (did : MakingStepsWithEndings V same same batch_size roots slot s.world s.maps s.calls s.makers s.enders i b m2 (machine, end)) → MakingCame same hash batch_size roots slot s i b did.step.w2 machine n end → AreTheirs n
  made i b makes m2 machine progress.Goes did is = to _ is (makings_keep_theirs V same same batch_size roots slot s.world s.maps s.calls s.makers s.enders all theirs i b makes m2 (machine, progress.Goes) did.step)
  made i b makes m2 machine progress.Waits did never = absurd never
  made i b makes m2 machine (progress.Done setting) did (standing, is_made, is) =
      to _ is (makings_keep_theirs V same same batch_size roots slot s.world s.maps s.calls s.makers s.enders all theirs i b makes m2 (machine, progress.Done setting) did.step standing is_made
      (subst (AllStand same hash batch_size roots slot) is stand).makings.standing)
  made i b makes m2 machine (progress.Refused fault) did is =
      to _ is (makings_keep_theirs V same same batch_size roots slot s.world s.maps s.calls s.makers s.enders all theirs i b makes m2 (machine, progress.Refused fault) did.step)

  -- by what an end tells
  ended : (i : ℕ) (f : Finishing K V) → s.enders i ≡ Some f → (m2 : Mem (Node K V)) (machine : EndMap) (end : Settled (Node K V))
      (did : StepsOfEnding V same same batch_size roots slot s.world s.maps s.calls s.makers s.enders i f m2 (machine, end)) → EndingCame same hash batch_size roots slot s i f did.w2 did.deed machine n end → AreTheirs n
  ended i f ends m2 machine end did came = by end did came
    where
      goes : (e : Settled (Node K V)) (d : StepsOfEnding V same same batch_size roots slot s.world s.maps s.calls s.makers s.enders i f m2 (machine, e)) (back : List ℕ) → taken_by d.deed ≡ back
          → AllAreTheirs d.w2 s.maps s.calls (with_at s.enders i (Some (record f { machine = machine; back = f.back ++ back; waits = f.waits ++ waiting_by d.deed })))
      goes e d back taken =
          (endings_keep_theirs V same same batch_size roots slot s.world s.maps s.calls s.makers s.enders theirs i f ends m2 (machine, e) d).0
          (record f { machine = machine; back = f.back ++ back; waits = f.waits ++ waiting_by d.deed })
          (goes_on_by same same batch_size roots slot s.world s.maps s.calls s.makers s.enders f machine d.deed back taken)

      by : (e : Settled (Node K V)) (d : StepsOfEnding V same same batch_size roots slot s.world s.maps s.calls s.makers s.enders i f m2 (machine, e)) → EndingCame same hash batch_size roots slot s i f d.w2 d.deed machine n e → AreTheirs n
      by settled.Goes d (none, is) =
          to _ is (subst (λ (x : Finishing K V). AllAreTheirs d.w2 s.maps s.calls (with_at s.enders i (Some x))) (goes_on_same f machine (f.waits ++ waiting_by d.deed)) (goes settled.Goes d [] none))
      by settled.Waits d never = absurd never
      by (settled.Gave value) d (b, was, taken, is) = to _ is (goes (settled.Gave value) d (b ∷ []) taken)
      by settled.Done d (none, finished, is) =
          to _ is ((endings_keep_theirs V same same batch_size roots slot s.world s.maps s.calls s.makers s.enders theirs i f ends m2 (machine, settled.Done) d).1 finished)

  pub by_act : (act : Act K V S) → MayBe same hash batch_size roots slot act s → (told : Answer K V) → Led same hash batch_size roots slot act s told n → AreTheirs n
  by_act (BeginsCall i m wanted) may told (standing, stands, none, is) =
      to _ is (changed m i (Some (begun same slot standing i wanted)) (λ u p here has. absurd (let free = none_is (s.calls m i) (may.0.no_call m) in cc (free, here))))
  by_act (StepsCall i m g) may told led =
      to _ led.comes (kind_theirs V same same batch_size roots slot s.world s.maps s.calls s.makers s.enders all theirs m led.standing led.stands i led.memory led.did.w2 led.did.maps2 led.did.next
      led.call led.here led.machine led.progress
      (was_stepped s.world.memory g (machine_plan same same led.standing.hash (machine_of led.call)) (led.memory, (led.machine, led.progress)) led.computed) led.did.did)
  by_act (TellsCall i m reply) may told (standing, stands, u, next, here, machine_is, told_is, kind, is) =
      to _ is (changed m i (Some next) (λ v p there has. (next, refl, told_on p u next reply machine_is (of_call m i u here v p there has))))
  by_act (AsksCall i m) may told (u, here, told_is, is) =
      to _ is (changed m i (Some (asked_on u)) (λ v p there has. (asked_on u, refl, next_on p u (asked_on u) (asked_machine u) (of_call m i u here v p there has))))
  by_act (StopsCall i m) may told (u, here, told_is, is) =
      to _ is (changed m i (unless_stopped (machine_asked (machine_of u)).1 u)
      (λ v p there has. let k = of_call m i u here v p there has in (u, not_stopped p u (machine_asked (machine_of u)).1 refl k, k)))
  by_act (BeginsMaking i map hasher given places) may told (told_is, is) = to _ is theirs
  by_act (StepsMaking i g) may told (b, makes, m2, machine, end, computed, told_is, did, came) = made i b makes m2 machine end did came
  by_act (BeginsEnding i m) may told (standing, stands, told_is, is) =
      to _ is (endings_begin_and_keep_theirs V same same batch_size roots slot s.world s.maps s.calls s.makers s.enders theirs i (none_is (s.enders i) may.0.no_ending) m standing stands
      (λ j. none_is (s.calls m j) (may.2 j)) (with_effect s.world (Ended standing.setting.counter)) refl)
  by_act (StepsEnding i g) may told (f, ends, m2, machine, end, computed, told_is, did, came) = ended i f ends m2 machine end did came
  by_act (BeginsRow i request) may told (w2, happens, maps2, same_maps, told_is, is) =
      to _ is ((guards_keep_theirs V same same batch_size roots slot s.world s.maps s.calls s.makers s.enders all theirs i (λ m. none_is (s.calls m i) (may.0 m)) w2 maps2 same_maps).0 request may.2 happens)
  by_act (StepsRow i g) may told (w2, computed, happens, maps2, same_maps, told_is, is) =
      to _ is ((guards_keep_theirs V same same batch_size roots slot s.world s.maps s.calls s.makers s.enders all theirs i (λ m. none_is (s.calls m i) (may.0 m)) w2 maps2 same_maps).1 happens)

pub acts_keep_theirs : {K S : Type 0} (V : Type 0) (same : K → K → Bool) (hash : S → K → ℕ) (batch_size roots : ℕ) (slot : ℕ → ℕ) → ActsPreserveTheirs V same hash batch_size roots slot
acts_keep_theirs V same hash batch_size roots slot s n all stand act may told led theirs = by_act same hash batch_size roots slot s n all stand theirs act may told led

-- Whichever act is made, what ended maps have left is behind roots that are nobody's.
use Rattle.std.specs.Prelude.{◌≢◌, ◌⊎◌, ◌++◌, Option, Some, None}
use Rattle.std.proofs.Common.{◌≡◌, ℕ, Bool, List, [], ◌∷◌, inl, inr, refl, ap, sym, subst, ◌∙◌}
use Rattle.std.proofs.lemmas.Bool.{cases_eq}
use Rattle.std.proofs.lemmas.List.{append-nil}
use Rattle.run_shows.specs.Given.SeizeWordsMem.{Mem}
use Rattle.run_shows.specs.Given.SeizeLaw.{Ended}
use Rattle.run_shows.specs.Given.SeizeWorld.{World, with_at, with_effect}
use Rattle.run_shows.specs.Given.SeizeDeclared.advance.Advance.{Advance}
use Rattle.run_shows.specs.Given.SeizeDeclared.advance.Advance.TheVariants as progress
use Rattle.run_shows.specs.Given.SeizeDeclared.rows.settle.Settled.{Settled}
use Rattle.run_shows.specs.Given.SeizeDeclared.rows.settle.Settled.TheVariants as settled
use Rattle.run_shows.specs.Given.TablesDeclared.node.Node.{Node}
use Rattle.run_shows.specs.Given.TablesDeclared.setting.Setting.{Setting}
use Rattle.run_shows.specs.Given.ResizeDeclared.new_map.NewMap.{NewMap}
use Rattle.run_shows.specs.Given.RawDeclared.machines.end_map.EndMap.{EndMap}
use Rattle.owner_facts.proofs.Given.CallersTogether.At.{at_other, at_same}
use Rattle.owner_facts.specs.Given.CallersTogether.{UnderWay}
use Rattle.owner_facts.specs.Given.FinishesEndings.{Finishing, MakingStepsWithEndings, StepsOfEnding, waiting_by}
use Rattle.owner_facts.specs.Given.FinishesFactsEnds.{Deed, taken_by}
use Rattle.owner_facts.specs.Given.FinishesMakings.{Beginning}
use Rattle.owner_facts.specs.Given.FinishesMaps.{Standing}
use Rattle.run_shows.specs.Reclaims.Left.{ContinuesBy, IsSomebodys, LeftWithEndings}
use Rattle.run_shows.specs.Reclaims.Reclaims.{IsRootOf, RootLeads}
use Rattle.run_shows.proofs.Reclaims.Left.Calls.{machines_leave_it, guards_leave_it}
use Rattle.run_shows.proofs.Reclaims.Left.Endings.{endings_begin_and_leave_it, endings_leave_it}
use Rattle.run_shows.proofs.Reclaims.Left.Makings.{makings_begin_and_leave_it, makings_leave_it}
use Rattle.run_shows.specs.Scenes.Making.{making_begun}
use Rattle.many_acts.specs.Acts.Acts.{Act, Answer, BeginsCall, StepsCall, TellsCall, AsksCall, StopsCall, BeginsMaking, StepsMaking, BeginsEnding, StepsEnding, BeginsRow, StepsRow}
use Rattle.many_acts.specs.Acts.Doings.{IsLeft, ActsLeaveIt}
use Rattle.many_acts.specs.Acts.Leads.{MayBe, AllStand, Led, MakingCame, EndingCame}
use Rattle.run_shows.proofs.Scenes.NoCall.{none_is}
use Rattle.run_shows.specs.Scenes.Scene.{Scene}
use Rattle.run_shows.proofs.Given.General.{same_some}

-- an end goes on, with what it has reclaimed by now, and what waits
pub goes_on_by : {K V Q : Type 0} (same : K → K → Bool) (asks : Q → K → Bool) (batch_size roots : ℕ) (slot : ℕ → ℕ) (w : World (Node K V)) (maps : ℕ → Option (Standing K))
    (calls : ℕ → ℕ → Option (UnderWay K V Q)) (makers : ℕ → Option (Beginning K)) (enders : ℕ → Option (Finishing K V)) (f : Finishing K V) (machine : EndMap) (deed : Deed) (back : List ℕ)
    → taken_by deed ≡ back → ContinuesBy V same asks batch_size roots slot w maps calls makers enders f deed (record f { machine = machine; back = f.back ++ back; waits = f.waits ++ waiting_by deed })
goes_on_by same asks batch_size roots slot w maps calls makers enders f machine deed back taken =
    record { setting_is = refl; chart_is = refl; blocks_are = refl; back_is = ap (λ (l : List ℕ). f.back ++ l) (sym taken); waits_are = refl }

-- one that has taken nothing has reclaimed what it had
pub goes_on_same : {K V : Type 0} (f : Finishing K V) (machine : EndMap) (waits : List ℕ)
    → ◌≡◌ {A = Finishing K V} (record f { machine = machine; back = f.back ++ []; waits = waits }) (record f { machine = machine; waits = waits })
goes_on_same f machine waits = ap (λ (l : List ℕ). record f { machine = machine; back = l; waits = waits }) (append-nil f.back)

-- a map that came has that root, whatever else is said of it
module _ {K V : Type 0} (roots : ℕ) (w : World (Node K V)) (maps : ℕ → Option (Standing K)) (makers : ℕ → Option (Beginning K)) (enders : ℕ → Option (Finishing K V)) (k : ℕ) where
  root_as : (s r : Standing K) → s.setting ≡ r.setting → (root : ℕ) → IsRootOf (with_at maps k (Some s)) root → IsRootOf (with_at maps k (Some r)) root
  root_as s r e root (m, it, here, is) = by (cases_eq m k)
    where
      by : (m ≡ k) ⊎ (m ≢ k) → IsRootOf (with_at maps k (Some r)) root
      by (inl at) = (
        k,
        r,
        at_same maps k (Some r) k refl,
        ap (λ (x : Setting). x.root) (sym e) ∙ ap (λ (x : Standing K). x.setting.root) (same_some s it (sym (at_same maps k (Some s) m at) ∙ here)) ∙ is,
      )
      by (inr ne) = (m, it, at_other maps k (Some r) m ne ∙ sym (at_other maps k (Some s) m ne) ∙ here, is)

  somebodys_as : (s r : Standing K) → s.setting ≡ r.setting → (root : ℕ) → IsSomebodys (with_at maps k (Some s)) makers enders root → IsSomebodys (with_at maps k (Some r)) makers enders root
  somebodys_as s r e root (inl is) = inl (root_as s r e root is)
  somebodys_as s r e root (inr other) = inr other

  left_as : (s r : Standing K) → s.setting ≡ r.setting → (lists : ℕ → List ℕ) → LeftWithEndings roots w (with_at maps k (Some s)) makers enders lists → LeftWithEndings roots w (with_at maps k (Some r)) makers enders lists
  left_as s r e lists left = record {
    root = λ root below. (elim (left.root root below) as (λ _. IsSomebodys (with_at maps k (Some r)) makers enders root ⊎ RootLeads w root (lists root)) [
      | inl is ↦ inl (somebodys_as s r e root is)
      | inr leads ↦ inr leads
    ]);
    none = λ root below is. left.none root below (somebodys_as r s (sym e) root is);
    left = left.left;
    once = left.once;
    apart = left.apart;
  }

module _ {K V S : Type 0} (same : K → K → Bool) (hash : S → K → ℕ) (batch_size roots : ℕ) (slot : ℕ → ℕ) (s n : Scene K V) (all : AllStand same hash batch_size roots slot s)
    (lists : ℕ → List ℕ) (left : IsLeft roots s lists) where
  abbrev Is : Scene K V → (ℕ → List ℕ) → Type 0
  Is x lists2 = IsLeft roots x lists2

  abbrev Then : Type 0
  Then = (lists2 : ℕ → List ℕ) × Is n lists2

  to : (x : Scene K V) → n ≡ x → Is x lists → Then
  to x is so = (lists, subst (λ (y : Scene K V). Is y lists) (sym is) so)

  made : (i : ℕ) (b : Beginning K) → s.makers i ≡ Some b → (m2 : Mem (Node K V)) (machine : NewMap) (end : Advance Setting)
      (did : MakingStepsWithEndings V same same batch_size roots slot s.world s.maps s.calls s.makers s.enders i b m2 (machine, end)) → MakingCame same hash batch_size roots slot s i b did.step.w2 machine n end → Then
  made i b makes m2 machine progress.Goes did is =
      to _ is (makings_leave_it V same same batch_size roots slot s.world s.maps s.calls s.makers s.enders lists all left i b makes m2 (machine, progress.Goes) did)
  made i b makes m2 machine progress.Waits did never = absurd never
  made i b makes m2 machine (progress.Done setting) did (standing, is_made, is) =
      to _ is (left_as roots did.step.w2 s.maps (with_at s.makers i None) s.enders b.map did.told.0 standing (did.told.1.setting_is ∙ sym is_made.setting_is) lists
      (makings_leave_it V same same batch_size roots slot s.world s.maps s.calls s.makers s.enders lists all left i b makes m2 (machine, progress.Done setting) did))
  made i b makes m2 machine (progress.Refused fault) did is =
      to _ is (makings_leave_it V same same batch_size roots slot s.world s.maps s.calls s.makers s.enders lists all left i b makes m2 (machine, progress.Refused fault) did)

  ended : (i : ℕ) (f : Finishing K V) → s.enders i ≡ Some f → (m2 : Mem (Node K V)) (machine : EndMap) (end : Settled (Node K V))
      (did : StepsOfEnding V same same batch_size roots slot s.world s.maps s.calls s.makers s.enders i f m2 (machine, end)) → EndingCame same hash batch_size roots slot s i f did.w2 did.deed machine n end → Then
  ended i f ends m2 machine end did came = by end did came
    where
      goes : (e : Settled (Node K V)) (d : StepsOfEnding V same same batch_size roots slot s.world s.maps s.calls s.makers s.enders i f m2 (machine, e)) (back : List ℕ) → taken_by d.deed ≡ back
          → LeftWithEndings roots d.w2 s.maps s.makers (with_at s.enders i (Some (record f { machine = machine; back = f.back ++ back; waits = f.waits ++ waiting_by d.deed }))) lists
      goes e d back taken =
          (endings_leave_it V same same batch_size roots slot s.world s.maps s.calls s.makers s.enders lists all left i f ends m2 (machine, e) d).0
          (record f { machine = machine; back = f.back ++ back; waits = f.waits ++ waiting_by d.deed })
          (goes_on_by same same batch_size roots slot s.world s.maps s.calls s.makers s.enders f machine d.deed back taken)

      by : (e : Settled (Node K V)) (d : StepsOfEnding V same same batch_size roots slot s.world s.maps s.calls s.makers s.enders i f m2 (machine, e)) → EndingCame same hash batch_size roots slot s i f d.w2 d.deed machine n e → Then
      by settled.Goes d (none, is) =
          to _ is (subst (λ (x : Finishing K V). LeftWithEndings roots d.w2 s.maps s.makers (with_at s.enders i (Some x)) lists) (goes_on_same f machine (f.waits ++ waiting_by d.deed)) (goes settled.Goes d [] none))
      by settled.Waits d never = absurd never
      by (settled.Gave value) d (b, was, taken, is) = to _ is (goes (settled.Gave value) d (b ∷ []) taken)
      by settled.Done d (none, finished, is) = (
        with_at lists f.setting.root f.waits,
        subst (λ (y : Scene K V). Is y (with_at lists f.setting.root f.waits)) (sym is)
            ((endings_leave_it V same same batch_size roots slot s.world s.maps s.calls s.makers s.enders lists all left i f ends m2 (machine, settled.Done) d).1 finished),
      )

  pub by_act : (act : Act K V S) → MayBe same hash batch_size roots slot act s → (told : Answer K V) → Led same hash batch_size roots slot act s told n → Then
  by_act (BeginsCall i m wanted) may told (standing, stands, none, is) = to _ is left
  by_act (StepsCall i m g) may told led =
      to _ led.comes (machines_leave_it V same same batch_size roots slot s.world s.maps s.calls s.makers s.enders lists all left m led.standing led.stands i led.call led.here led.memory led.machine led.progress
      led.did)
  by_act (TellsCall i m reply) may told (standing, stands, u, next, here, machine_is, told_is, kind, is) = to _ is left
  by_act (AsksCall i m) may told (u, here, told_is, is) = to _ is left
  by_act (StopsCall i m) may told (u, here, told_is, is) = to _ is left
  by_act (BeginsMaking i map hasher given places) may told (told_is, is) =
      to _ is (makings_begin_and_leave_it V same same batch_size roots slot s.world s.maps s.calls s.makers s.enders lists left i (none_is (s.makers i) may.0.no_making) (making_begun (hash hasher) roots map given places)
      (λ taken. taken))
  by_act (StepsMaking i g) may told (b, makes, m2, machine, end, computed, told_is, did, came) = made i b makes m2 machine end did came
  by_act (BeginsEnding i m) may told (standing, stands, told_is, is) =
      to _ is (endings_begin_and_leave_it V same same batch_size roots slot s.world s.maps s.calls s.makers s.enders lists all left i (none_is (s.enders i) may.0.no_ending) m standing stands
      (with_effect s.world (Ended standing.setting.counter)) refl)
  by_act (StepsEnding i g) may told (f, ends, m2, machine, end, computed, told_is, did, came) = ended i f ends m2 machine end did came
  by_act (BeginsRow i request) may told (w2, happens, maps2, same_maps, told_is, is) =
      to _ is ((guards_leave_it V same same batch_size roots slot s.world s.maps s.calls s.makers s.enders lists all left i w2 maps2 same_maps).0 request may.2 happens)
  by_act (StepsRow i g) may told (w2, computed, happens, maps2, same_maps, told_is, is) =
      to _ is ((guards_leave_it V same same batch_size roots slot s.world s.maps s.calls s.makers s.enders lists all left i w2 maps2 same_maps).1 happens)

pub acts_leave_it : {K S : Type 0} (V : Type 0) (same : K → K → Bool) (hash : S → K → ℕ) (batch_size roots : ℕ) (slot : ℕ → ℕ) → ActsLeaveIt V same hash batch_size roots slot
acts_leave_it V same hash batch_size roots slot s n all act may told led lists left = by_act same hash batch_size roots slot s n all lists left act may told led

-- A walk that is ready is asked for its next pair: with which sweep it goes on.
use Rattle.std.specs.Prelude.{◌≡◌, ◌==◌, ℕ, Bool, true, false, Option, Some, option_map, if◌then◌else◌}
use Rattle.std.proofs.Common.{refl, ap, sym, subst, ◌∙◌}
use Rattle.play_stepping.specs.Given.SeizeWorld.{with_at}
use Rattle.play_stepping.specs.Given.SweepsSweepPoints.{after_next}
use Rattle.play_stepping.specs.Given.CallersOverAll.{CallOverAll, gone_on}
use Rattle.play_stepping.specs.Given.CallersTogether.{UnderWay, OverAll}
use Rattle.play_stepping.specs.Given.ExecutorDeclared.executor.Executor.{Executor}
use Rattle.play_lists.specs.Given.FinishesEndings.{EndingsTogether}
use Rattle.play_lists.specs.Given.FinishesMachines.{machine_of}
use Rattle.play_lists.specs.Given.FinishesMaps.{with_call}
use Rattle.play_lists.proofs.Given.FinishesAmong.Sweeps.{sweeps_told_among}
use Rattle.play_lists.proofs.Given.ScenesMay.{standing_is}
use Rattle.play_stepping.specs.Given.ExecutorIsThere.{IsThere, PreservesSettings, held_by}
use Rattle.play_stepping.specs.Given.ExecutorReplying.{AsksThere}
use Rattle.play_lists.specs.Given.ScenesReplying.{AskLeads, scene_with}
use Rattle.play_lists.specs.Given.ScenesScene.{Scene, slot_of}
use Rattle.play_lists.proofs.Given.ShedsHeld.{ask_held}

-- another one with the same machine in the place of a call
same_call : {K V : Type 0} (calls : ℕ → ℕ → Option (UnderWay K V K)) (map i : ℕ) (x y : UnderWay K V K) → machine_of x ≡ machine_of y → (n j : ℕ)
    → option_map machine_of (with_call calls map i (Some x) n j) ≡ option_map machine_of (with_call calls map i (Some y) n j)
same_call {K} {V} calls map i x y alike n j = by (n == map)
  where
    in_map : (r : Bool) → option_map machine_of (if r then Some x else calls map j) ≡ option_map machine_of (if r then Some y else calls map j)
    in_map true = ap Some alike
    in_map false = refl

    by : (q : Bool) → option_map machine_of ((if q then with_at (calls map) i (Some x) else calls n) j) ≡ option_map machine_of ((if q then with_at (calls map) i (Some y) else calls n) j)
    by true = in_map (j == i)
    by false = refl

module _ {K V S : Type 0} (same : K → K → Bool) (hash : K → ℕ) (i : ℕ) (s : Scene K V) (old new : Executor K V S) (at : IsThere same hash old s) (given : PreservesSettings old new)
    (leads : AsksThere same hash i true s old new) where
  -- the sweep goes on to its next place, and all stand together
  pub next_at : (map : ℕ) (o : CallOverAll) → s.calls map i ≡ Some (OverAll o) → IsThere same hash new (scene_with map i (OverAll (gone_on o (after_next o.sweep))) s)
  next_at map o here =
      let was = leads.1 map (OverAll o) here in
      let st = standing_is same (λ map. hash) (held_by old) s at.held map i (OverAll o) here in
      record {
        held = record {
          memory = was.4.held.memory;
          together =
              subst (λ (batches : ℕ). EndingsTogether V same same batches new.roots slot_of s.world s.maps (with_call s.calls map i (Some (OverAll (gone_on o (after_next o.sweep))))) s.makers s.enders)
              (sym given.1)
              (subst (λ (roots : ℕ). EndingsTogether V same same old.batch_size roots slot_of s.world s.maps (with_call s.calls map i (Some (OverAll (gone_on o (after_next o.sweep))))) s.makers s.enders)
              (sym given.2)
              (sweeps_told_among V same same old.batch_size old.roots slot_of s.world s.maps s.calls s.makers s.enders at.held.together map st.0 st.1 i o here).next);
          hashes = was.4.held.hashes;
          hashes_made = was.4.held.hashes_made;
          on_slots = was.4.held.on_slots;
          small = was.4.held.small;
        };
        maps = was.4.maps;
        calls = λ n j. same_call s.calls map i (OverAll (gone_on o (after_next o.sweep))) was.0 (sym was.1) n j ∙ was.4.calls n j;
        makers = was.4.makers;
        enders = was.4.enders;
        numbers = was.4.numbers;
        rows = was.4.rows;
        slots = was.4.slots;
        uses = was.4.uses;
      }

  -- so it is led there
  abbrev pub leads_next : AskLeads same (λ map. hash) i true s (held_by old) (held_by new)
  leads_next map (OverAll o) here = (OverAll (gone_on o (after_next o.sweep)), refl, (leads.1 map (OverAll o) here).2, (leads.1 map (OverAll o) here).3, (next_at map o here).held)
  leads_next map u here = ask_held same hash s old new i true leads map u here

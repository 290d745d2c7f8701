-- What a caller begins in an executor, as what it wants of a map.
use Rattle.std.specs.Prelude.{◌≡◌, ℕ, Bool, [], None}
use Rattle.std.proofs.Common.{refl, sym, ap, ◌∙◌}
use Rattle.run_finds.specs.Given.RawDeclared.machines.call.KeyCall.{KeyCall}
use Rattle.run_kept.specs.Given.RawCallAsks.{removing_if}
use Rattle.run_kept.specs.Given.RawCallPoints.{getting, removing}
use Rattle.run_finds.specs.Given.RuleMaps.{IsClass}
use Rattle.many_acts.specs.Given.PointsSteps.{AreLawful}
use Rattle.many_acts.specs.Given.CallersKind.{gets, removes, removes_if}
use Rattle.many_acts.specs.Given.CallersPairs.{Given, Begun, IsTold}
use Rattle.many_acts.specs.Given.CallersTogether.{UnderWay, OnKey, ForRoom, Counting, OverAll, IsBegun}
use Rattle.many_acts.specs.Given.CallersTogether as begins
use Rattle.many_acts.specs.Given.FinishesMaps.{Standing}
use Rattle.many_acts.specs.Acts.Acts.{Wanted, Get, Remove, Insert, TryToInsert, Compute, Update, UpdateOrInsert, TryToInsertWith, RemoveIf, MakeRoom, Count, GoOver, its, on_key, begun}
use Rattle.many_acts.specs.Given.ScenesBeginning.{Begins}
use Rattle.many_acts.specs.Given.ScenesScene.{slot_of}

-- what a call is asked with that stands for the class of a key
code_is : {K : Type 0} (same : K → K → Bool) (s : Standing K) → AreLawful same s.hash → (q : K) (code : ℕ) → IsClass same s.hash (same q) code → s.hash q ≡ code
code_is same s lawful q code class = class.hashes q (lawful.lawful.classes.refl q)

module _ {K V : Type 0} (same : K → K → Bool) (s : Standing K) (lawful : AreLawful same s.hash) (i : ℕ) where
  abbrev Wants : UnderWay K V K → Type 0
  Wants u = (wanted : Wanted K V) × (begun same slot_of s i wanted ≡ u)

  on_keys : (keys : K → Bool) (pair : Given K V) (call : KeyCall K V K) → IsBegun V same s.hash same s.setting slot_of i keys pair call → Wants (on_key same slot_of s i keys pair call)
  on_keys keys pair call (begins.Gets q code fits class) =
      (Get q, ap (λ (x : ℕ). on_key same slot_of s i (same q) (Begun gets None) (getting (its slot_of s i) x q)) (code_is same s lawful q code class))
  on_keys keys pair call (begins.Removes q code fits class) =
      (Remove q, ap (λ (x : ℕ). on_key same slot_of s i (same q) (Begun removes None) (removing (its slot_of s i) x q)) (code_is same s lawful q code class))
  on_keys keys pair call (begins.Inserts key value) = (Insert key value, refl)
  on_keys keys pair call (begins.TriesToInsert key value) = (TryToInsert key value, refl)
  on_keys keys pair call (begins.Computes key) = (Compute key, refl)
  on_keys keys pair call (begins.Updates key) = (Update key, refl)
  on_keys keys pair call (begins.UpdatesOrInserts key absent) = (UpdateOrInsert key absent, refl)
  on_keys keys pair call (begins.TriesToInsertWith key) = (TryToInsertWith key, refl)
  on_keys keys pair call (begins.RemovesIf q code fits class) =
      (RemoveIf q, ap (λ (x : ℕ). on_key same slot_of s i (same q) (IsTold removes_if None []) (removing_if (its slot_of s i) x q)) (code_is same s lawful q code class))

  pub wants : (u : UnderWay K V K) → Begins same s i u → Wants u
  wants (OnKey u) (is, same_call) = let k = on_keys u.keys u.pair u.call is in (k.0, k.1 ∙ ap OnKey (sym same_call))
  wants (ForRoom r) (additional, is) = (MakeRoom additional, ap ForRoom (sym is))
  wants (Counting sum) is = (Count, ap Counting (sym is))
  wants (OverAll o) (purpose, is) = (GoOver purpose, ap OverAll (sym is))

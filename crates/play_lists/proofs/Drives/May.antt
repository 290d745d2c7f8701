-- What an executor begins may be begun: a caller whose place comes next has nothing under way, and is one of few.
use Rattle.std.specs.Prelude.{◌≢◌, ◌⊎◌, Option, Some, None, length}
use Rattle.std.specs.Option.{is_none}
use Rattle.std.proofs.Common.{◌≡◌, ℕ, Bool, true, false, inl, inr, refl, ap, subst, arith, ◌∙◌}
use Rattle.std.proofs.lemmas.Bool.{cases_eq}
use Rattle.std.proofs.lemmas.List.{get_or_past}
use Rattle.seize.specs.World.{Begins, Use, Inside, World, with_at}
use Rattle.seize_acts.specs.Acts.Acts.{begun as row_begun, is_inside, is_outside, is_taken, is_within, rests}
use Rattle.seize_acts.specs.Acts.Answers.{given}
use Rattle.many_acts.specs.Given.CallersTogether.{MayWrite, IsWriter, UnderWay}
use Rattle.many_acts.proofs.Given.CallersTogether.At.{at_other, at_same}
use Rattle.many_acts.specs.Given.FinishesMachines.{machine_of}
use Rattle.many_acts.specs.Given.FinishesMakings.{Beginning}
use Rattle.many_acts.specs.Given.FinishesMaps.{Standing, with_call}
use Rattle.many_acts.specs.Given.ScenesReplying.{scene_with}
use Rattle.many_acts.specs.Given.ScenesRows.{request_of}
use Rattle.many_acts.specs.Given.ScenesScene.{Scene, slot_of}
use Rattle.many_acts.specs.Given.ScenesDeclared.row.SlotCall.{SlotCall}
use Rattle.many_acts.specs.Given.ScenesDeclared.row.SlotCall.TheVariants as call
use Rattle.many_acts.specs.Given.ScenesDeclared.row.SlotUse.{SlotUse}
use Rattle.many_acts.specs.Given.ScenesDeclared.row.SlotUse.TheVariants as used
use Rattle.run_finds.specs.Given.ExecutorDeclared.executor.Executor.{Executor}
use Rattle.run_finds.specs.Given.ExecutorDeclared.worker.Work.{Work}
use Rattle.run_finds.specs.Given.ExecutorIsThere.{HasRow, IsThere, IsUsedAs, call_in, ending_in, making_in, use_at, work_of}
use Rattle.many_acts.specs.Acts.Acts.{UnlessToCount, begun, Wanted, Get, Remove, Insert, TryToInsert, Compute, Update, UpdateOrInsert, TryToInsertWith, RemoveIf, GetKeyValue, ContainsKey, GetOrInsert, GetOrInsertWith, RemoveEntry, MakeRoom, Count, GoOver}
use Rattle.many_acts.specs.Acts.Leads.{AllStand, AreFewWith, IsFree}
use Rattle.run_finds.proofs.Given.General.{none_mapped as none_of}
use Rattle.seize_acts.proofs.Acts.Reclaimed.Whole.{taken_so}

-- what is so is asked of a counting, too
pub unless_to_count : {K V A : Type 0} (wanted : Wanted K V) → A → UnlessToCount wanted A
unless_to_count Count so = tt
unless_to_count (Get key) so = so
unless_to_count (Remove key) so = so
unless_to_count (Insert key value) so = so
unless_to_count (TryToInsert key value) so = so
unless_to_count (Compute key) so = so
unless_to_count (Update key) so = so
unless_to_count (UpdateOrInsert key absent) so = so
unless_to_count (TryToInsertWith key) so = so
unless_to_count (RemoveIf key) so = so
unless_to_count (GetKeyValue key) so = so
unless_to_count (ContainsKey key) so = so
unless_to_count (GetOrInsert key value) so = so
unless_to_count (GetOrInsertWith key) so = so
unless_to_count (RemoveEntry key) so = so
unless_to_count (MakeRoom additional) so = so
unless_to_count (GoOver purpose) so = so

within_so : (u : Use) → IsUsedAs used.Inside u → is_within u ≡ true
within_so u is = ap is_within is.1

given_there : {X : Type 0} (b : Bool) (x : X) → b ≡ true → is_none (given b x) ≡ false
given_there true x e = refl
given_there false x e = absurd (cc e)

module _ {T : Type 0} (defers : T → Option ℕ) (size i slot : ℕ) (w w2 : World T) where
  pub begun_there : (called : SlotCall) → Begins defers size i (request_of slot called) w w2 → is_none (row_begun defers size i (request_of slot called) w) ≡ false
  begun_there (call.Register enters) h = refl
  begun_there call.Enter h = given_there (is_outside (w.uses slot)) _ (ap is_outside h.0)
  begun_there call.Leave h = given_there (is_inside (w.uses slot)) _ (ap is_inside h.0)
  begun_there call.LeaveOwned h = given_there (is_inside (w.uses slot)) _ (ap is_inside h.0)
  begun_there call.Refresh h = given_there (is_inside (w.uses slot)) _ (ap is_inside h.0)
  begun_there call.Unregister h = given_there (is_outside (w.uses slot)) _ (ap is_outside h.0)
  begun_there call.Flush h = given_there (is_taken (w.uses slot)) _ (taken_so (w.uses slot) h.0)

module _ {K V S : Type 0} (same : K → K → Bool) (hash : K → ℕ) (e : Executor K V S) (s : Scene K V) (at : IsThere same hash e s) (i : ℕ) where
  module _ (fresh : work_of e i ≡ None) where
    pub none_called : (m : ℕ) → s.calls m i ≡ None
    none_called m = none_of machine_of (s.calls m i) (at.calls m i ∙ ap (λ (x : Option (Work K V)). call_in x m) fresh)

    pub is_free : IsFree s i
    is_free = record {
      no_call = λ m. ap is_none (none_called m);
      no_making = ap is_none (none_of _ (s.makers i) (at.makers i ∙ ap making_in fresh));
      no_ending = ap is_none (none_of _ (s.enders i) (at.enders i ∙ ap ending_in fresh));
    }

    pub at_rest : rests (s.world.row i) ≡ true
    at_rest = ap rests (subst (λ (x : Option (Work K V)). HasRow x (s.world.row i)) fresh (at.rows i))

  pub is_entered : use_at e (slot_of i) ≡ used.Inside → is_within (s.world.uses (slot_of i)) ≡ true
  is_entered inside = within_so (s.world.uses (slot_of i)) (subst (λ (v : SlotUse). IsUsedAs v (s.world.uses (slot_of i))) inside (at.uses (slot_of i)))

  -- a map with the number that comes next is neither there nor made
  pub no_map_yet : is_none (s.maps (length e.maps.items)) ≡ true
  no_map_yet = ap is_none (none_of _ (s.maps (length e.maps.items)) (at.maps (length e.maps.items) ∙ get_or_past e.maps.items (length e.maps.items) None (omega arith)))

  pub none_makes_it : (j : ℕ) (d : Beginning K) → s.makers j ≡ Some d → length e.maps.items ≢ d.map
  none_makes_it j d makes is = omega (arith, at.numbers j d makes, is)

-- where the call of one more stands together with all others, few calls may write with it
module _ {K V S : Type 0} (same : K → K → Bool) (hash : S → K → ℕ) (batch_size roots : ℕ) (s : Scene K V) (m i : ℕ) (u : UnderWay K V K) (all : AllStand same hash batch_size roots slot_of (scene_with m i u s))
    (none : s.calls m i ≡ None) (wanted : Wanted K V) (writes : (standing : Standing K) → s.maps m ≡ Some standing → MayWrite (begun same slot_of standing i wanted) → MayWrite u) where
  writer : (standing : Standing K) → s.maps m ≡ Some standing → (j : ℕ) → ((j ≡ i) × MayWrite (begun same slot_of standing i wanted)) ⊎ IsWriter (s.calls m) j
      → IsWriter (with_call s.calls m i (Some u) m) j
  writer standing stands j such = by (cases_eq j i) such
    where
      here : with_call s.calls m i (Some u) m j ≡ with_at (s.calls m) i (Some u) j
      here = ap (λ (f : ℕ → Option (UnderWay K V K)). f j) (at_same s.calls m (with_at (s.calls m) i (Some u)) m refl)

      by : (j ≡ i) ⊎ (j ≢ i) → ((j ≡ i) × MayWrite (begun same slot_of standing i wanted)) ⊎ IsWriter (s.calls m) j → IsWriter (with_call s.calls m i (Some u) m) j
      by (inl is) (inl its) = (u, here ∙ at_same (s.calls m) i (Some u) j is, writes standing stands its.1)
      by (inl is) (inr has) = absurd (let it = has.1 in let no = ap (s.calls m) is ∙ none in cc (it, no))
      by (inr ne) (inl its) = absurd (ne its.0)
      by (inr ne) (inr has) = (has.0, here ∙ at_other (s.calls m) i (Some u) j ne ∙ has.1, has.2)

  pub few_with : AreFewWith same hash batch_size roots slot_of s i m wanted
  few_with standing stands blocking callers apart each =
      ((all.makings.standing.each m standing stands).few blocking).few callers apart (λ k c l. writer standing stands _ (each k c l))

-- A try of a call on a key that passes a word which can be none of the key.
use Rattle.std.specs.Prelude.{◌≡◌, ◌==◌, ℕ, Bool, true, false, Option, Some, None, IfSome, IsSome, if◌then◌else◌}
use Rattle.std.proofs.Common.{refl, sym, ◌∙◌, ap, subst}
use Rattle.std.proofs.lemmas.Bool.{true≢false}
use Rattle.seize_words.specs.OneMemory.Mem.{Mem, Can, Took, value_at, word_at}
use Rattle.seize_words.specs.OneMemory.Op.{Found}
use Rattle.seize_words.specs.OneMemory.Plan.{Now, May, Steps, Ends, then_as, plan_as}
use Rattle.seize_words.specs.OneMemory.Word.{block_in}
use Rattle.seize_words.specs.declared.at.At.{At}
use Rattle.seize.specs.declared.advance.Advance.TheVariants as progress
use Rattle.map_tables.specs.Chunks.{is_incremental}
use Rattle.map_tables.specs.Finding.{finding, may_name, shut, vacant}
use Rattle.map_tables.specs.Trials.{place_tried, next_trial, with_met}
use Rattle.map_tables.specs.declared.finding.Aim.{Aim}
use Rattle.map_tables.specs.declared.finding.Aim.TheVariants.{Looks}
use Rattle.map_tables.specs.declared.finding.Finding.{Finding}
use Rattle.map_tables.specs.declared.finding.Finding.TheVariants as is
use Rattle.map_tables.specs.declared.marks.TheConstants.{COPYING}
use Rattle.map_tables.specs.declared.node.Node.{Node}
use Rattle.map_tables.specs.declared.resize_mode.ResizeMode.{ResizeMode}
use Rattle.map_tables.specs.declared.trial.Trial.{Trial}
use Rattle.papaya_raw.specs.Call.{pair_read, plan_at}
use Rattle.papaya_raw.specs.CallPoints.{aim_of, told, after_finding, passed, having_met}
use Rattle.papaya_raw.specs.declared.machines.call.Calling.{Calling}
use Rattle.papaya_raw.specs.declared.machines.call.Calling.TheVariants as at
use Rattle.owner_calls.specs.Owned.Machines.{at_trial, on_key_after, on_key_plan}
use Rattle.owner_calls.specs.declared.machines.OnKey.{OnKey}

abbrev is_passed : Finding → Type 0
is_passed is.Passed = Unit {0}
is_passed _ = ⊥

-- who looks passes no word that another would not pass
vacant_passed : (incremental : Bool) (aim : Aim) (w : ℕ) → vacant incremental Looks w ≡ is.Passed → vacant incremental aim w ≡ is.Passed
vacant_passed incremental aim w = by (w == 0) (w == COPYING) incremental aim
  where
    by : (zero copying incremental : Bool) (aim : Aim)
        → (if zero then is.Free else (if copying then (if incremental then is.Passed else is.Free) else is.Passed)) ≡ is.Passed
        → (if zero then is.Free else (if copying then (if incremental then is.Passed else shut aim) else is.Passed)) ≡ is.Passed
    by true copying incremental aim e = absurd (subst is_passed (sym e) tt)
    by false true true aim e = refl
    by false true false aim e = absurd (subst is_passed (sym e) tt)
    by false false incremental aim e = refl

passed_by : (mode : ResizeMode) (aim : Aim) (w : ℕ) → finding mode Looks w false ≡ is.Passed → finding mode aim w false ≡ is.Passed
passed_by mode aim w = by (block_in w == 0)
  where
    by : (b : Bool) → (if b then vacant (is_incremental mode) Looks w else is.Passed) ≡ is.Passed → (if b then vacant (is_incremental mode) aim w else is.Passed) ≡ is.Passed
    by true e = vacant_passed (is_incremental mode) aim w e
    by false e = refl

module _ {K V Q S : Type 0} (asks : Q → K → Bool) (same : K → K → Bool) (hashes : S → K → ℕ) (m : Mem (Node K V)) (u : OnKey K V Q S) (w : ℕ) (n : Trial) where
  -- the step that makes this try is the one to the next
  passes : u.call.stands ≡ at.Probes → word_at m (place_tried u.call.trial) ≡ Some w → may_name u.call.hash w ≡ false
      → finding u.call.setting.mode Looks w false ≡ is.Passed → next_trial (with_met u.call.trial w) ≡ Some n
      → Steps Took value_at m (on_key_plan asks same hashes u) m (at_trial u n, progress.Goes)
  passes stands found other so next =
      subst (λ (s : Calling). Steps Took value_at m (plan_as (on_key_after u) (plan_at asks same (hashes u.hasher.now) u.call s)) m (at_trial u n, progress.Goes)) (sym stands)
      (Found w, (found, refl), by (may_name u.call.hash w) other)
    where
      ends : (at_trial u n, progress.Goes) ≡ on_key_after u (told true u.call w false)
      ends =
          sym (ap (λ (f : Finding). on_key_after u (after_finding true u.call w f)) (passed_by u.call.setting.mode (aim_of u.call.missing) w so)
          ∙ ap (λ x. on_key_after u (passed (having_met u.call w) x)) next
          ∙ ap (λ (s : Calling). (record u { call = record u.call { trial = n; stands = s } }, progress.Goes)) (sym stands))

      by : (b : Bool) → b ≡ false
          → Ends (value_at m) (then_as (on_key_after u) (if b then pair_read asks same true u.call w u.call.asked else Now (told true u.call w false))) (at_trial u n, progress.Goes)
      by true e = absurd (true≢false e)
      by false e = ends

module _ {K V Q S : Type 0} (asks : Q → K → Bool) (same : K → K → Bool) (hashes : S → K → ℕ) (m : Mem (Node K V)) (u : OnKey K V Q S) (trial : Trial) where
  -- if there is a next one
  pub passes_if : (w : ℕ) → u.call.stands ≡ at.Probes → word_at m (place_tried trial) ≡ Some w → may_name u.call.hash w ≡ false
      → finding u.call.setting.mode Looks w false ≡ is.Passed → (next : Option Trial) → next ≡ next_trial (with_met trial w)
      → IfSome next (λ n. Steps Took value_at m (on_key_plan asks same hashes (at_trial u trial)) m (at_trial u n, progress.Goes))
  passes_if w stands found other so None is = tt
  passes_if w stands found other so (Some n) is = passes asks same hashes m (at_trial u trial) w n stands found other so (sym is)

  -- its word can be read, by the names of its memory and its place
  pub try_can : u.call.stands ≡ at.Probes → May Can Took value_at m (on_key_plan asks same hashes (at_trial u trial))
      → (m0 : Mem (Node K V)) (at0 : At) → m0 ≡ m → at0 ≡ place_tried trial → IsSome (word_at m0 at0)
  try_can stands may m0 at0 is so =
      subst (λ (x : Mem (Node K V)). IsSome (word_at x at0)) (sym is)
      (subst (λ a. IsSome (word_at m a)) (sym so)
      (subst (λ (s : Calling). May Can Took value_at m (plan_as (on_key_after (at_trial u trial)) (plan_at asks same (hashes u.hasher.now) (at_trial u trial).call s))) stands may).0)

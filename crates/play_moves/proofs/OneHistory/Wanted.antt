-- The machine of a call that begins tells what is wanted, but for how that is answered, of which map, and in which slot.
use Rattle.std.specs.Prelude.{Option, Some, None}
use Rattle.std.proofs.Common.{◌≡◌, ℕ, Bool, refl, sym, ap, ◌∙◌}
use Rattle.run_legal.specs.Given.TablesDeclared.node.Node.{Node}
use Rattle.run_legal.specs.Given.TablesDeclared.node.Node.TheVariants as node
use Rattle.run_legal.specs.Given.TablesDeclared.setting.Setting.{Setting}
use Rattle.run_schedules.specs.Given.RawDeclared.machines.answer.There.{There}
use Rattle.run_schedules.specs.Given.RawDeclared.machines.answer.There.TheVariants as there
use Rattle.run_schedules.specs.Given.RawDeclared.machines.answer.Missing.{Missing}
use Rattle.run_schedules.specs.Given.RawDeclared.machines.answer.Missing.TheVariants as missing
use Rattle.run_schedules.specs.Given.RawDeclared.machines.asking.Takes.{Takes}
use Rattle.run_schedules.specs.Given.RawDeclared.machines.asking.Takes.TheVariants as takes
use Rattle.run_schedules.specs.Given.RawDeclared.machines.asking.Told.{Told}
use Rattle.run_schedules.specs.Given.RawDeclared.machines.asking.Told.TheVariants as tells
use Rattle.run_schedules.specs.Given.RawDeclared.machines.machine.Machine.{Machine}
use Rattle.run_schedules.specs.Given.RawDeclared.machines.machine.Machine.TheVariants as kinds
use Rattle.threads_rule.specs.Views.Begun.{machine_for}
use Rattle.threads_rule.specs.Views.Listed.{plain}
use Rattle.threads_rule.specs.declared.view.Map.{Map}
use Rattle.threads_rule.specs.Given.ActsActs.{Wanted, Get, Remove, Insert, TryToInsert, Compute, Update, UpdateOrInsert, TryToInsertWith, RemoveIf, MakeRoom, Count, GoOver}
use Rattle.run_schedules.proofs.Given.General.{same_some}

module _ {K V : Type 0} where
  -- by what it does where the key is there and where it is missing, by what stands for the key, the pair that it has, and what it takes and was told
  abbrev key_wanted : There → Missing → Option K → Option (Node K V) → Takes → Option K → Told V → Option (Wanted K V)
  key_wanted there.Answers missing.Answers (Some key) pair kind own absent = Some (Get key)
  key_wanted there.Removes missing.Answers (Some key) pair kind own absent = Some (Remove key)
  key_wanted there.Puts missing.Puts asked (Some (node.Pair key value)) kind own absent = Some (Insert key value)
  key_wanted there.Answers missing.Puts asked (Some (node.Pair key value)) kind own absent = Some (TryToInsert key value)
  key_wanted there.Answers missing.Asks asked pair kind (Some key) absent = Some (TryToInsertWith key)
  key_wanted there.Asks missing.Asks asked pair takes.Changes (Some key) absent = Some (Compute key)
  key_wanted there.Asks missing.Asks asked pair takes.Values (Some key) (tells.Value value) = Some (UpdateOrInsert key (Some value))
  key_wanted there.Asks missing.Asks asked pair takes.Values (Some key) tells.Nothing = Some (UpdateOrInsert key None)
  key_wanted there.Asks missing.Answers (Some key) pair takes.Choices own absent = Some (RemoveIf key)
  key_wanted there.Asks missing.Answers asked pair takes.Values (Some key) absent = Some (Update key)
  key_wanted _ _ _ _ _ _ _ = None

  abbrev wanted_in : Machine K V K → Option (Wanted K V)
  wanted_in (kinds.Key c) = key_wanted c.there c.missing c.asked c.unmade c.replies.takes c.replies.key c.replies.absent
  wanted_in (kinds.Reserve r) = Some (MakeRoom r.additional)
  wanted_in (kinds.Sweep sweep) = Some (GoOver sweep.purpose)
  wanted_in (kinds.Count sum) = Some Count

  abbrev setting_in : Machine K V K → Setting
  setting_in (kinds.Key c) = c.setting
  setting_in (kinds.Reserve r) = r.setting
  setting_in (kinds.Sweep sweep) = sweep.setting
  setting_in (kinds.Count sum) = sum.setting

module _ {K V S : Type 0} (same : K → K → Bool) (hash : S → K → ℕ) (map : Map S) (t : ℕ) where
  abbrev machine : Wanted K V → Machine K V K
  machine wanted = machine_for same hash map t wanted

  wanted_is : (wanted : Wanted K V) → wanted_in (machine wanted) ≡ Some (plain wanted)
  wanted_is (Get key) = refl
  wanted_is (UpdateOrInsert key None) = refl
  wanted_is (UpdateOrInsert key (Some value)) = refl
  wanted_is _ = refl

  slot_is : (wanted : Wanted K V) → (setting_in (machine wanted)).slot ≡ t
  slot_is (Get key) = refl
  slot_is _ = refl

-- One machine is for one thing, in one slot.
module _ {K V S : Type 0} (same : K → K → Bool) (hash : S → K → ℕ) (map other : Map S) (t u : ℕ) (wanted asked : Wanted K V)
    (one : machine_for same hash map t wanted ≡ machine_for same hash other u asked) where
  pub one_wanted : plain wanted ≡ plain asked
  one_wanted = same_some (plain wanted) (plain asked) (sym (wanted_is same hash map t wanted) ∙ ap wanted_in one ∙ wanted_is same hash other u asked)

  pub one_slot : t ≡ u
  one_slot = sym (slot_is same hash map t wanted) ∙ ap (λ (m : Machine K V K). (setting_in m).slot) one ∙ slot_is same hash other u asked

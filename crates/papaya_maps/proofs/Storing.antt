-- A pass may store a pair on a map of an owner: also in the place of one of its key, or only where there is none.
use Rattle.std.specs.Prelude.{◌<◌, ◌^◌, Some, None}
use Rattle.std.proofs.Common.{◌≡◌, ℕ, Bool, refl}
use Rattle.map_tables.specs.declared.node.Node.TheVariants.{Pair}
use Rattle.map_tables.specs.declared.setting.Setting.{Setting}
use Rattle.papaya_raw.specs.CallPoints.{inserting, trying_to_insert}
use Rattle.papaya_raw.specs.declared.machines.answer.There.{There}
use Rattle.papaya_raw.specs.declared.machines.answer.There.TheVariants as there
use Rattle.papaya_raw.specs.declared.machines.machine.Machine.TheVariants.{Key}
use Rattle.seize_views.specs.declared.view.Has.TheVariants.{Nothing as NoBlock}
use Rattle.seize_views.specs.declared.view.SlotView.TheVariants.{Inside}
use Rattle.threads_calls.proofs.Keys.{may_insert, may_try}
use Rattle.threads_callers.specs.Given.ErrandsCalling.{MayCall, PutsOrLeaves}
use Rattle.threads_callers.specs.Given.StepsStoring.{making}
use Rattle.threads_callers.specs.Given.ViewsDeclared.view.View.{View}
use Rattle.threads_callers.specs.Given.ViewsDeclared.view.SeatWork.TheVariants.{Nothing}
use Rattle.threads_callers.specs.Standing.{known_by}

module _ {K V S : Type 0} (same : K → K → Bool) (hash : S → K → ℕ) (v : View K V S) (setting its : Setting) (hasher : S) (key : K) (hashed t : ℕ) (lone : v.under ≡ None) (inside : v.slot ≡ Inside t NoBlock) (free : v.work ≡ Nothing)
    (knows : known_by v ≡ Some (setting, hasher)) (is : its ≡ record setting { slot = t }) (word : hashed ≡ hash hasher key) (fits : hashed < 2 ^ 64) (value : V) where
  pub may_store : (how : There) → PutsOrLeaves how → MayCall same hash hasher (Key (making its hashed how (Pair key value))) v
  may_store there.Puts puts = may_insert same hash v setting its hasher key hashed t (inserting its hashed key value) lone inside free knows is word fits value refl
  may_store there.Answers puts = may_try same hash v setting its hasher key hashed t (trying_to_insert its hashed key value) lone inside free knows is word fits value refl
  may_store there.Asks puts = absurd puts
  may_store there.Removes puts = absurd puts

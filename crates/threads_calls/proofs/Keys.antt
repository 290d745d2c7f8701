-- A session may store a pair, store one where its key is missing, and remove one: calls on one key that ask nothing.
use Rattle.std.specs.Prelude.{◌<◌, ◌^◌, Some, None}
use Rattle.std.proofs.Common.{◌≡◌, ℕ, Bool, inr, refl, sym, subst}
use Rattle.map_tables.specs.declared.node.Node.{Node}
use Rattle.map_tables.specs.declared.setting.Setting.{Setting}
use Rattle.threads_callers.specs.Given.ActsActs.{Insert, Remove, TryToInsert}
use Rattle.papaya_raw.specs.CallPoints.{inserting, removing, trying_to_insert}
use Rattle.papaya_raw.specs.declared.machines.answer.There.TheVariants as there
use Rattle.papaya_raw.specs.declared.machines.answer.Missing.TheVariants as missing
use Rattle.papaya_raw.specs.declared.machines.asking.Takes.TheVariants as takes
use Rattle.papaya_raw.specs.declared.machines.call.KeyCall.{KeyCall}
use Rattle.papaya_raw.specs.declared.machines.machine.Machine.TheVariants.{Key}
use Rattle.seize_views.specs.declared.view.Has.TheVariants.{Nothing as NoBlock}
use Rattle.seize_views.specs.declared.view.SlotView.TheVariants.{Inside}
use Rattle.threads_callers.specs.Given.ViewsDeclared.view.View.{View}
use Rattle.threads_callers.specs.Given.ViewsDeclared.view.SeatWork.TheVariants.{Nothing}
use Rattle.threads_callers.specs.Given.ErrandsCalling.{AsksNone, AsksNothing, IsToStore, MachineStores, MayCall, pair_wanted, wanted_of}
use Rattle.threads_callers.specs.Given.CallKindsKinds.{Kind, Continues}
use Rattle.threads_callers.specs.Standing.{known_by}
use Rattle.threads_calls.proofs.Sessions.{may_do}
use Rattle.threads_calls.proofs.Asks.{testing as quiet}

abbrev stores : Kind
stores = record { present = there.Puts; absent = missing.Puts; takes = takes.Nothing }

abbrev tries : Kind
tries = record { present = there.Answers; absent = missing.Puts; takes = takes.Nothing }

abbrev removes : Kind
removes = record { present = there.Removes; absent = missing.Answers; takes = takes.Nothing }

module _ {K V S : Type 0} (same : K → K → Bool) (hash : S → K → ℕ) (v : View K V S) (setting its : Setting) (hasher : S) (key : K) (hashed t : ℕ) (call : KeyCall K V K) (lone : v.under ≡ None) (inside : v.slot ≡ Inside t NoBlock) (free : v.work ≡ Nothing) (knows : known_by v ≡ Some (setting, hasher)) (is : its ≡ record setting { slot = t }) (word : hashed ≡ hash hasher key) (fits : hashed < 2 ^ 64) where
  -- it is to store a pair where that is wanted
  stores_so : (made : KeyCall K V K) → call ≡ made → ((other : Node K V) → pair_wanted (wanted_of (Key made)) ≡ Some other → IsToStore other made)
      → (other : Node K V) → pair_wanted (wanted_of (Key call)) ≡ Some other → MachineStores other (Key call)
  stores_so made made_so is other e =
      subst (IsToStore other) (sym made_so) (is other (subst (λ (c : KeyCall K V K). pair_wanted (wanted_of (Key c)) ≡ Some other) made_so e))

  -- it asks nothing, and goes on as a call of its kind
  none_so : (k : Kind) → AsksNothing k → (made : KeyCall K V K) → call ≡ made → Continues k quiet made → AsksNone (Key call)
  none_so k none made made_so goes = (k, quiet, none, subst (Continues k quiet) (sym made_so) goes)

  pub may_insert : (value : V) → call ≡ inserting its hashed key value → MayCall same hash hasher (Key call) v
  may_insert value made = record {
    may =
        may_do same hash (Insert key value) key (λ x h. inserting x h key value) (λ map s. refl) (λ x h. refl) v setting its hasher hashed t call lone inside free knows is word
        made;
    none =
        none_so stores (record { present = tt; absent = tt }) (inserting its hashed key value) made
        record { so = record { kind = refl; holds = (tt, inr (tt, tt)); gap = tt }; here = (refl, tt, tt) };
    stores =
        stores_so (inserting its hashed key value) made
        (λ pair e. record { here = refl; unmade = e; absent = refl; present = tt; none = refl; word = fits; untold = refl });
  }

  pub may_try : (value : V) → call ≡ trying_to_insert its hashed key value → MayCall same hash hasher (Key call) v
  may_try value made = record {
    may =
        may_do same hash (TryToInsert key value) key (λ x h. trying_to_insert x h key value) (λ map s. refl) (λ x h. refl) v setting its hasher hashed t call lone inside free knows
        is word made;
    none =
        none_so tries (record { present = tt; absent = tt }) (trying_to_insert its hashed key value) made
        record { so = record { kind = refl; holds = (tt, inr (tt, tt)); gap = tt }; here = (refl, tt, tt) };
    stores =
        stores_so (trying_to_insert its hashed key value) made
        (λ pair e. record { here = refl; unmade = e; absent = refl; present = tt; none = refl; word = fits; untold = refl });
  }

  pub may_remove : call ≡ removing its hashed key → MayCall same hash hasher (Key call) v
  may_remove made = record {
    may = may_do same hash (Remove key) key (λ x h. removing x h key) (λ map s. refl) (λ x h. refl) v setting its hasher hashed t call lone inside free knows is word made;
    none =
        none_so removes (record { present = tt; absent = tt }) (removing its hashed key) made record { so = record { kind = refl; holds = (tt, inr (tt, tt)); gap = tt }; here = tt };
    stores = stores_so (removing its hashed key) made (λ pair e. absurd (cc e));
  }

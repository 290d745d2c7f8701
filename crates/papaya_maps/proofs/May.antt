-- A pass may begin calls on the map of an owner, within the section of a guard: what who acts in a section of its own may begin, so may it, where the map copies bit by bit.
use Rattle.std.specs.Prelude.{Option, Some, None}
use Rattle.std.proofs.Common.{◌≡◌, ◌∙◌, ℕ, Bool, true, sym, ap}
use Rattle.map_tables.specs.Chunks.{is_incremental}
use Rattle.map_machines.specs.declared.lookup.Lookup.{Lookup}
use Rattle.map_tables.specs.declared.setting.Setting.{Setting}
use Rattle.papaya_raw.specs.declared.machines.machine.Machine.{Machine}
use Rattle.seize_words.proofs.General.{same_some}
use Rattle.seize_views.specs.declared.view.Has.TheVariants.{Nothing as NoBlock}
use Rattle.seize_views.specs.declared.view.SlotView.TheVariants.{Inside}
use Rattle.threads_callers.specs.Given.ActsActs.{Wanted}
use Rattle.threads_callers.specs.Given.ErrandsCalling.{MayCall, MayDo, wanted_of}
use Rattle.threads_callers.specs.Given.ErrandsCounting.{MayCount}
use Rattle.threads_callers.specs.Given.ErrandsLooking.{MayLook}
use Rattle.threads_callers.specs.Given.ViewsDeclared.view.Map.{Map}
use Rattle.threads_callers.specs.Given.ViewsDeclared.view.View.{View}
use Rattle.threads_callers.specs.Given.ViewsRule.{MayWant, section_of}
use Rattle.threads_callers.proofs.Known.{known}
use Rattle.threads_owners.specs.Loans.{MayDoOn, within}
use Rattle.threads_callers.specs.declared.caller.MapCaller.{MapCaller}
use Rattle.papaya_maps.specs.Calls.{own_by}

-- one that knows the same, within a section of its own
abbrev pub alone_in : {K V S : Type 0} → View K V S → ℕ → View K V S
alone_in x t = record { slot = Inside t NoBlock; under = None; map = x.map; by = x.by; own = x.own; work = x.work; looks = x.looks; held = x.held; began = x.began; calls = x.calls }

module _ {K V S : Type 0} (same : K → K → Bool) (hash : S → K → ℕ) where
  -- on a map that copies bit by bit anything may be wanted
  any_wanted : (under : Option (ℕ × ℕ)) (map : Map S) (wanted : Wanted K V) → is_incremental map.setting.mode ≡ true → MayWant same hash under map wanted
  any_wanted None map wanted bits t = tt
  any_wanted (Some leant) map wanted bits t = λ blocks writes. absurd (cc (sym bits ∙ blocks))

  module _ (x : View K V S) (t : ℕ) (it : section_of x.under x.slot ≡ Some t) (bits : (map : Map S) → x.map ≡ Some map → is_incremental map.setting.mode ≡ true) (hasher : S) (machine : Machine K V K) where
    do_too : MayDo same hash hasher machine (alone_in x t) → MayDo same hash hasher machine x
    do_too may = record {
      slot = may.slot;
      map = may.map;
      inside = it ∙ may.inside;
      knows = may.knows;
      hashes = may.hashes;
      only = any_wanted x.under may.map (wanted_of machine) (bits may.map may.knows);
      free = may.free;
      begins = may.begins;
    }

    pub call_too : MayCall same hash hasher machine (alone_in x t) → MayCall same hash hasher machine x
    call_too may = record { may = do_too may.may; none = may.none; stores = may.stores }

    pub count_too : MayCount same hash hasher machine (alone_in x t) → MayCount same hash hasher machine x
    count_too may = record { may = do_too may.may; setting = may.setting; counts = may.counts }

  pub look_too : (x : View K V S) (t : ℕ) → section_of x.under x.slot ≡ Some t → (key : K) (lookup : Lookup) → MayLook hash key lookup (alone_in x t) → MayLook hash key lookup x
  look_too x t it key lookup may = record { slot = may.slot; map = may.map; inside = it ∙ may.inside; knows = may.knows; free = may.free; begins = may.begins }

-- what is asked of a pass that has come to lean on both it may be asked
module _ {K V S : Type 0} (guard owner : MapCaller K V S) (setting : Setting) (hasher : S) (slot : ℕ) (owns : own_by owner.seat.view ≡ Some (setting, hasher))
    (inside : guard.seat.view.slot ≡ Inside slot NoBlock) (v : View K V S) where
  abbrev pub its_map : Map S
  its_map = (known owner.seat.view.own (setting, hasher) owns).0

  -- it is of this setting and this hasher
  pub its_known : ◌≡◌ {A = Setting × S} (its_map.setting, its_map.hasher) (setting, hasher)
  its_known = (known owner.seat.view.own (setting, hasher) owns).2

  abbrev pub on_both : View K V S
  on_both = within v guard.seat.id slot owner.seat.id its_map

  pub may_on : (asks : View K V S → Type 0) → asks on_both → MayDoOn asks guard owner v
  may_on asks asked = record { map = its_map; slot = slot; owned = (known owner.seat.view.own (setting, hasher) owns).1; inside = inside; asked = asked }

  -- and its map copies bit by bit, if that does
  pub its_bits : is_incremental setting.mode ≡ true → (map : Map S) → on_both.map ≡ Some map → is_incremental map.setting.mode ≡ true
  its_bits bits map is =
      ap (λ (m : Map S). is_incremental m.setting.mode) (same_some map its_map (sym is)) ∙ ap (λ (p : Setting × S). is_incremental p.0.mode) its_known ∙ bits

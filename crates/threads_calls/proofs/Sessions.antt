-- A session may look a key up in the map that it knows, and begin a call on one key, or on the whole map.
use Rattle.std.specs.Prelude.{Some, None}
use Rattle.std.proofs.Common.{◌≡◌, ℕ, Bool, sym, ap, ◌∙◌}
use Rattle.map_tables.specs.declared.setting.Setting.{Setting}
use Rattle.map_machines.specs.Lookup.{looking}
use Rattle.map_machines.specs.declared.lookup.Lookup.{Lookup}
use Rattle.threads_callers.specs.Given.ViewsDeclared.view.Map.{Map}
use Rattle.threads_callers.specs.Given.ViewsDeclared.view.View.{View}
use Rattle.threads_callers.specs.Given.ViewsDeclared.view.SeatWork.TheVariants.{Nothing}
use Rattle.seize_views.specs.declared.view.Has.TheVariants.{Nothing as NoBlock}
use Rattle.seize_views.specs.declared.view.SlotView.TheVariants.{Inside}
use Rattle.threads_callers.specs.Given.ActsActs.{Wanted}
use Rattle.papaya_raw.specs.declared.machines.call.KeyCall.{KeyCall}
use Rattle.papaya_raw.specs.declared.machines.machine.Machine.{Machine}
use Rattle.papaya_raw.specs.declared.machines.machine.Machine.TheVariants.{Key}
use Rattle.threads_callers.specs.Given.ViewsBegun.{machine_for}
use Rattle.threads_callers.specs.Given.ErrandsCalling.{MayDo, wanted_of}
use Rattle.threads_callers.specs.Given.ErrandsLooking.{MayLook}
use Rattle.threads_callers.specs.Standing.{known_by}
use Rattle.threads_callers.proofs.Given.ErrandsBeginnings.{may_alone}
use Rattle.threads_callers.proofs.Known.{known}
use Rattle.threads_callers.proofs.Rows.{section_own}

module _ {K V S : Type 0} (hash : S → K → ℕ) where
  -- it may look a key up, within its section
  pub may_look : (v : View K V S) (setting : Setting) (hasher : S) (key : K) (lookup : Lookup) (t : ℕ) → v.under ≡ None → v.slot ≡ Inside t NoBlock → v.work ≡ Nothing
      → known_by v ≡ Some (setting, hasher) → lookup ≡ looking setting.root setting.mode (hash hasher key) → MayLook hash key lookup v
  may_look v setting hasher key lookup t lone inside free knows is = let k = known v.map (setting, hasher) knows in record {
    slot = t;
    map = k.0;
    inside = section_own v t lone inside;
    knows = k.1;
    free = free;
    begins = is ∙ ap (λ (p : Setting × S). looking p.0.root p.0.mode (hash p.1 key)) (sym k.2);
  }

module _ {K V S : Type 0} (same : K → K → Bool) (hash : S → K → ℕ) (wanted : Wanted K V) (key : K) (made : Setting → ℕ → KeyCall K V K) where
  -- it may begin a call on this key, by what it works with in this slot
  pub may_do : ((map : Map S) (t : ℕ) → machine_for same hash map t wanted ≡ Key (made (record map.setting { slot = t }) (hash map.hasher key)))
      → ((x : Setting) (h : ℕ) → wanted_of (Key (made x h)) ≡ wanted)
      → (v : View K V S) (setting its : Setting) (hasher : S) (hashed t : ℕ) (call : KeyCall K V K) → v.under ≡ None → v.slot ≡ Inside t NoBlock → v.work ≡ Nothing
      → known_by v ≡ Some (setting, hasher) → its ≡ record setting { slot = t } → hashed ≡ hash hasher key → call ≡ made its hashed
      → MayDo same hash hasher (Key call) v
  may_do machine wants v setting its hasher hashed t call lone inside free knows is word made_so =
      let m = known v.map (setting, hasher) knows in
      let setting_is : its ≡ record m.0.setting { slot = t } = is ∙ ap (λ (p : Setting × S). record p.0 { slot = t }) (sym m.2) in
      let word_is : hashed ≡ hash m.0.hasher key = word ∙ ap (λ (p : Setting × S). hash p.1 key) (sym m.2) in
      let call_is : call ≡ made (record m.0.setting { slot = t }) (hash m.0.hasher key) =
      made_so ∙ ap (λ (x : Setting). made x hashed) setting_is ∙ ap (made (record m.0.setting { slot = t })) word_is in
      let wanted_is : wanted_of (Key call) ≡ wanted = ap (λ (c : KeyCall K V K). wanted_of (Key c)) made_so ∙ wants its hashed in record {
        slot = t;
        map = m.0;
        inside = section_own v t lone inside;
        knows = m.1;
        hashes = ap (λ (p : Setting × S). p.1) m.2;
        only = may_alone same hash v.under m.0 (wanted_of (Key call)) lone;
        free = free;
        begins = ap (λ (c : KeyCall K V K). Key c) call_is ∙ sym (machine m.0 t) ∙ ap (machine_for same hash m.0 t) (sym wanted_is);
      }

module _ {K V S : Type 0} (same : K → K → Bool) (hash : S → K → ℕ) (wanted : Wanted K V) (made : Setting → Machine K V K) where
  -- it may begin a call on the whole map, by what it works with in this slot
  pub may_do_all : ((map : Map S) (t : ℕ) → machine_for same hash map t wanted ≡ made (record map.setting { slot = t })) → ((x : Setting) → wanted_of (made x) ≡ wanted)
      → (v : View K V S) (setting its : Setting) (hasher : S) (t : ℕ) (machine : Machine K V K) → v.under ≡ None → v.slot ≡ Inside t NoBlock → v.work ≡ Nothing
      → known_by v ≡ Some (setting, hasher) → its ≡ record setting { slot = t } → machine ≡ made its → MayDo same hash hasher machine v
  may_do_all machine_is wants v setting its hasher t machine lone inside free knows is made_so =
      let m = known v.map (setting, hasher) knows in
      let setting_is : its ≡ record m.0.setting { slot = t } = is ∙ ap (λ (p : Setting × S). record p.0 { slot = t }) (sym m.2) in
      let its_machine : machine ≡ made (record m.0.setting { slot = t }) = made_so ∙ ap made setting_is in
      let wanted_is : wanted_of machine ≡ wanted = ap (λ (c : Machine K V K). wanted_of c) made_so ∙ wants its in record {
        slot = t;
        map = m.0;
        inside = section_own v t lone inside;
        knows = m.1;
        hashes = ap (λ (p : Setting × S). p.1) m.2;
        only = may_alone same hash v.under m.0 (wanted_of machine) lone;
        free = free;
        begins = its_machine ∙ sym (machine_is m.0 t) ∙ ap (machine_for same hash m.0 t) (sym wanted_is);
      }

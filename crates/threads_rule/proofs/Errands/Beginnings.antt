-- The turns of a seat of maps, and the lookup that has begun.
use Rattle.std.specs.Prelude.{max, Result, Ok, Err, IfErr, Option, None}
use Rattle.std.proofs.Common.{true, false, ◌≡◌, ℕ, ◌≤◌, ◌^◌, Bool, Some, ◌⊎◌, inl, inr, refl, sym, subst, ap, ◌∙◌, arith}
use Rattle.seize_seats.specs.Seats.State.{Turns}
use Rattle.seize_words.specs.declared.fault.Fault.{Fault}
use Rattle.map_tables.specs.Lengths.{IsTableLen}
use Rattle.map_tables.specs.declared.setting.Setting.{Setting}
use Rattle.map_machines.specs.Lookup.{looking}
use Rattle.map_machines.specs.declared.lookup.Lookup.{Lookup}
use Rattle.map_machines.specs.declared.new_map.NewMap.{NewMap}
use Rattle.papaya_raw.specs.CallPoints.{getting, standing}
use Rattle.papaya_raw.specs.declared.machines.call.Calling.TheVariants.{Looks}
use Rattle.papaya_raw.specs.declared.machines.asking.MachineReply.{MachineReply}
use Rattle.papaya_raw.specs.declared.machines.call.KeyCall.{KeyCall}
use Rattle.papaya_raw.specs.declared.machines.machine.Machine.{Machine}
use Rattle.papaya_raw.specs.declared.machines.machine.Machine.TheVariants.{Key}
use Rattle.many_acts.specs.Acts.Acts.{Wanted, Get}
use Rattle.seize_views.specs.declared.view.Fixed.{Fixed}
use Rattle.seize_views.specs.declared.view.SlotView.TheVariants.{Rests}
use Rattle.threads_rule.specs.Views.Begun.{machine_for, asked, making, replied}
use Rattle.threads_rule.specs.Views.Rule.{Holds, KeepsFor, Leans, LeansOn, LooksAside, MayWant, section_of, stand_of, IsBy, side_of}
use Rattle.threads_rule.specs.Views.Told.{turned, turned_by}
use Rattle.threads_rule.specs.declared.view.Map.{Map}
use Rattle.threads_rule.specs.declared.view.View.{View}
use Rattle.threads_rule.specs.declared.view.SeatWork.{SeatWork}
use Rattle.threads_rule.specs.declared.view.SeatWork.TheVariants.{Nothing, Calls, Makes, Ends}
use Rattle.threads_rule.proofs.Views.Laws.{calls_are_asked, calls_are_told, calls_begin, makings_begin}
use Rattle.threads_rule.specs.Errands.Calling.{IsUnderWay, MayDo, MayDoAs, Works, wanted_of}
use Rattle.threads_kinds.specs.CallKinds.Kinds.{Kind, Stage}
use Rattle.threads_kinds.specs.Makings.{IsEarly}
use Rattle.threads_rule.specs.Errands.Looking.{Begins, IsOn, LooksFor, MayLook, StaysThere}
use Rattle.threads_rule.specs.Errands.Making.{BeginsMaking, HasComeSo, IsThis, MakesMap, MayBegin, PlansJust}
use Rattle.seize_words.proofs.General.{same_some}

module _ {K S : Type 0} (V : Type 0) (same : K → K → Bool) (hash : S → K → ℕ) where
  -- who leans on another seat may look keys up, and who leans on none may begin anything
  pub may_look_aside : (under : Option (ℕ × ℕ)) (map : Map S) (key : K) → MayWant {V = V} same hash under map (Get key)
  may_look_aside None map key t = tt
  may_look_aside (Some leant) map key t = λ blocking writes. writes

module _ {K V S : Type 0} (same : K → K → Bool) (hash : S → K → ℕ) where
  pub may_alone : (under : Option (ℕ × ℕ)) (map : Map S) (wanted : Wanted K V) → under ≡ None → MayWant same hash under map wanted
  may_alone under map wanted lone t = subst (λ (u : Option (ℕ × ℕ)). LooksAside u (Some map) (Calls (machine_for same hash map t wanted))) (sym lone) tt

module _ {K V S : Type 0} (same : K → K → Bool) (hash : S → K → ℕ) (fixed : Fixed) (id : ℕ) (v : View K V S) where
  -- who may come to know one thing may come to know what that is of
  turns_to : (so other : View K V S → Type 0) → ((w : View K V S) → so w → other w) → Turns (Holds same hash fixed) KeepsFor id v so → Turns (Holds same hash fixed) KeepsFor id v other
  turns_to so other is may s h at = let g = may s h at in (g.0, g.1, g.2, g.3, is g.0 g.4)

  pub may_begin : (t : ℕ) (map : Map S) (wanted : Wanted K V) → section_of v.under v.slot ≡ Some t → v.map ≡ Some map → MayWant same hash v.under map wanted → v.work ≡ Nothing
      → Turns (Holds same hash fixed) KeepsFor id v (Begins same hash wanted v)
  may_begin t map wanted inside knows only free =
      turns_to _ (Begins same hash wanted v) (λ w e. (map, t, knows, inside, e)) (calls_begin V same hash fixed id t v map wanted inside knows free (only t))

  -- a table of eight places is one
  eight : max 0 8 ≤ 2 ^ 48 → IsTableLen (max 0 8)
  eight few = record { power = (3, refl); least = omega arith; most = omega arith }

  pub may_make : (plans : Bool → S → NewMap → Type 0) (own : Bool) (hasher : S) (c : NewMap) → PlansJust plans own hasher c → MayBegin fixed c → v.slot ≡ Rests → v.work ≡ Nothing
      → Turns (Holds same hash fixed) KeepsFor id v (BeginsMaking plans v)
  may_make plans own hasher c just may rests free =
      turns_to _ (BeginsMaking plans v) (λ w e. (e.0, own, hasher, c, just.0, e.1 ∙ ap (making v own e.0 hasher) (sym may.is)))
      (makings_begin V same hash fixed id v own hasher may.given 0 rests free may.sized may.masked may.rooted may.initial eight)

-- what has begun is this making
pub makes_it : {K V S : Type 0} (own : Bool) (hasher : S) (c : NewMap) (u v : View K V S) → BeginsMaking (IsThis own hasher c) u v → (fixed : Fixed) → MayBegin fixed c → (own ≡ true → u.own ≡ None)
    → MakesMap own hasher c v
makes_it {K} {V} {S} own hasher c u v (m, o, h, d, (same_own, same_hasher, same_plan), view) fixed may yet = record {
  number = m;
  works =
      ap (λ (x : View K V S). x.work) view ∙ ap (λ (x : Bool). Makes x m h d) same_own ∙ ap (λ (x : S). Makes own m x d) same_hasher ∙ ap (λ (x : NewMap). Makes own m hasher x) same_plan;
  early = subst (λ (x : NewMap). IsEarly x.stands) (sym may.is) tt;
  none = ap (λ (x : NewMap). x.len) may.is;
  yet = λ is. ap (λ (x : View K V S). x.own) view ∙ yet is;
}

-- what a making has come to, from where it began
module _ {K V S : Type 0} (plans : Bool → S → NewMap → Type 0) (hasher : S) (opening : NewMap) (u v w : View K V S) (begins : BeginsMaking plans u v) where
  refused_there : (answer : Result Setting Fault) → IfErr answer (λ fault. (w.work ≡ Nothing) × (w.map ≡ v.map)) → IfErr answer (λ fault. (w.work ≡ Nothing) × (w.map ≡ u.map))
  refused_there (Ok setting) is = tt
  refused_there (Err fault) is = (is.0, is.1 ∙ ap (λ (x : View K V S). x.map) begins.5)

  pub came_from : (own : Bool) (answer : Result Setting Fault) → HasComeSo own hasher opening answer v w → HasComeSo own hasher opening answer u w
  came_from true answer came = record {
    made = came.made;
    refused = came.refused;
    slot = came.slot ∙ ap (λ (x : View K V S). side_of x) begins.5;
    map = came.map ∙ ap (λ (x : View K V S). x.map) begins.5;
    by = came.by ∙ ap (λ (x : View K V S). x.by) begins.5;
    calls = came.calls ∙ ap (λ (x : View K V S). x.calls) begins.5;
  }
  came_from false answer came = record {
    made = came.made;
    refused = refused_there answer came.refused;
    slot = came.slot ∙ ap (λ (x : View K V S). side_of x) begins.5;
    good = λ e. came.good (ap (λ (x : View K V S). x.by) begins.5 ∙ e);
    calls = came.calls ∙ ap (λ (x : View K V S). x.calls) begins.5;
  }

module _ {K V S : Type 0} (same : K → K → Bool) (hash : S → K → ℕ) (fixed : Fixed) (id : ℕ) (v : View K V S) where
  -- its call may be told this,
  pub may_tell : (map : Map S) (machine : Machine K V K) (reply : MachineReply V) → v.map ≡ Some map → v.work ≡ Calls machine
      → Turns (Holds same hash fixed) KeepsFor id v (λ w. (v.work ≡ Calls machine) × (w ≡ replied v machine reply))
  may_tell map machine reply knows works =
      turns_to same hash fixed id v _ (λ w. (v.work ≡ Calls machine) × (w ≡ replied v machine reply)) (λ w e. (works, e)) (calls_are_told V same hash fixed id v map machine reply knows works)

  -- or asked for its next pair
  pub may_ask : (map : Map S) (machine : Machine K V K) → v.map ≡ Some map → v.work ≡ Calls machine
      → Turns (Holds same hash fixed) KeepsFor id v (λ w. (v.work ≡ Calls machine) × (w ≡ asked v machine))
  may_ask map machine knows works =
      turns_to same hash fixed id v _ (λ w. (v.work ≡ Calls machine) × (w ≡ asked v machine)) (λ w e. (works, e)) (calls_are_asked V same hash fixed id v map machine knows works)

module _ {K V S : Type 0} (same : K → K → Bool) (hash : S → K → ℕ) (key : K) where
  -- what has begun is a lookup of this key
  pub looks_for : (lookup : Lookup) (v w : View K V S) → MayLook hash key lookup v → Begins same hash (Get key) v w → LooksFor key lookup w
  looks_for lookup v w may begins =
      let map : Map S = begins.0 in
      let one : may.map ≡ map = same_some may.map map (sym may.knows ∙ begins.2) in
      let call : KeyCall K V K = getting (record map.setting { slot = begins.1 }) (hash map.hasher key) key in
      let is : lookup ≡ looking map.setting.root map.setting.mode (hash map.hasher key) =
      may.begins ∙ ap (λ (m : Map S). looking m.setting.root m.setting.mode (hash m.hasher key)) one in record {
        map = map;
        call = call;
        knows = ap (λ (u : View K V S). u.map) begins.4 ∙ begins.2;
        asked = refl;
        works = ap (λ (u : View K V S). u.work) begins.4 ∙ ap (λ (l : Lookup). Calls (Key (standing call (Looks l)))) (sym is);
        on = subst (λ (l : Lookup). IsOn l.stands) (sym is) tt;
      }

  -- it looks from the root on
  pub from_root : (lookup : Lookup) (v : View K V S) → MayLook hash key lookup v → MayLook hash key (looking lookup.root lookup.mode lookup.hash) v
  from_root lookup v may = subst (λ (l : Lookup). MayLook hash key l v) (subst (λ (l : Lookup). l ≡ looking l.root l.mode l.hash) (sym may.begins) refl) may

-- where a seat stands, and its map, stay as a call begins
pub stays_begun : {K V S : Type 0} (same : K → K → Bool) (hash : S → K → ℕ) (wanted : Wanted K V) (v w : View K V S) → Begins same hash wanted v w → StaysThere v w
stays_begun {K} {V} {S} same hash wanted v w begins =
    record { slot = ap (λ (u : View K V S). stand_of u) begins.4; map = ap (λ (u : View K V S). u.map) begins.4 }

module _ {K V S : Type 0} (same : K → K → Bool) (hash : S → K → ℕ) where
  -- what has begun is this call
  pub is_begun : (hasher : S) (machine : Machine K V K) (v w : View K V S) → MayDo same hash hasher machine v → Begins same hash (wanted_of machine) v w → Works hasher machine w
  is_begun hasher machine v w may begins =
      let map : Map S = begins.0 in
      let one : may.map ≡ map = same_some may.map map (sym may.knows ∙ begins.2) in
      let slot : may.slot ≡ begins.1 = same_some may.slot begins.1 (sym may.inside ∙ begins.3) in
      let its : machine ≡ machine_for same hash map begins.1 (wanted_of machine) =
      may.begins ∙ ap (λ (m : Map S). machine_for same hash m may.slot (wanted_of machine)) one ∙ ap (λ (t : ℕ). machine_for same hash map t (wanted_of machine)) slot in record {
        map = map;
        knows = ap (λ (u : View K V S). u.map) begins.4 ∙ begins.2;
        hashes = ap (λ (m : Map S). m.hasher) (sym one) ∙ may.hashes;
        works = ap (λ (u : View K V S). u.work) begins.4 ∙ ap (λ (x : Machine K V K). Calls x) (sym its);
      }

  pub begun_as : (k : Kind) (s : Stage) (hasher : S) (machine : Machine K V K) (v w : View K V S) → MayDoAs same hash k s hasher machine v → Begins same hash (wanted_of machine) v w
      → IsUnderWay k s hasher machine w
  begun_as k s hasher machine v w may begins = record { at = is_begun hasher machine v w may.may begins; goes = may.goes }

-- what stays in one course stays in both
pub stays_on : {K V S : Type 0} (u v w : View K V S) → StaysThere u v → StaysThere v w → StaysThere u w
stays_on u v w one other = record { slot = other.slot ∙ one.slot; map = other.map ∙ one.map }

-- who has begun a call or a making, or has taken a step without an operation, leans on whom it did
module _ {K V S : Type 0} where
  leans_still : (v w : View K V S) (n : ℕ) (X : Type 0) → w.under ≡ v.under → w.by ≡ v.by → Leans w n → Leans v n ⊎ X
  leans_still v w n X is lone (inl leans) = inl (inl (subst (λ (o : Option (ℕ × ℕ)). LeansOn o n) is leans))
  leans_still v w n X is lone (inr leans) = inl (inr (subst (λ (o : Option ℕ). IsBy o n) lone leans))

  pub begun_leans : (same : K → K → Bool) (hash : S → K → ℕ) (wanted : Wanted K V) (v w : View K V S) (n : ℕ) {X : Type 0} → Begins same hash wanted v w → Leans w n → Leans v n ⊎ X
  begun_leans same hash wanted v w n {X} begins leans = leans_still v w n X (ap (λ (u : View K V S). u.under) begins.4) (ap (λ (u : View K V S). u.by) begins.4) leans

  pub making_leans : (plans : Bool → S → NewMap → Type 0) (v w : View K V S) (n : ℕ) {X : Type 0} → BeginsMaking plans v w → Leans w n → Leans v n ⊎ X
  making_leans plans v w n {X} begins leans = leans_still v w n X (ap (λ (u : View K V S). u.under) begins.5) (ap (λ (u : View K V S). u.by) begins.5) leans

  pub told_leans : (machine : Machine K V K) (reply : MachineReply V) (v w : View K V S) (n : ℕ) {X : Type 0} → w ≡ replied v machine reply → Leans w n → Leans v n ⊎ X
  told_leans machine reply v w n {X} told leans = leans_still v w n X (ap (λ (u : View K V S). u.under) told) (ap (λ (u : View K V S). u.by) told) leans

  pub asked_leans : (machine : Machine K V K) (v w : View K V S) (n : ℕ) {X : Type 0} → w ≡ asked v machine → Leans w n → Leans v n ⊎ X
  asked_leans machine v w n {X} was leans = leans_still v w n X (ap (λ (u : View K V S). u.under) was) (ap (λ (u : View K V S). u.by) was) leans

  pub turned_leans : (same : K → K → Bool) (hash : S → K → ℕ) (v w : View K V S) (n : ℕ) {X : Type 0} → turned same hash v w → Leans w n → Leans v n ⊎ X
  turned_leans same hash v w n {X} turns leans = leans_still v w n X (by v.map v.work turns).0 (by v.map v.work turns).1 leans
    where
      by : (map : Option (Map S)) (work : SeatWork K V S) → turned_by same hash v map work w → (w.under ≡ v.under) × (w.by ≡ v.by)
      by (Some map) (Calls machine) is = (ap (λ (u : View K V S). u.under) is.2, ap (λ (u : View K V S). u.by) is.2)
      by (Some map) Nothing is = absurd is
      by (Some map) (Makes mine m hasher opening) is = absurd is
      by (Some map) (Ends machine) is = absurd is
      by None Nothing is = absurd is
      by None (Calls machine) is = absurd is
      by None (Makes mine m hasher opening) is = absurd is
      by None (Ends machine) is = absurd is

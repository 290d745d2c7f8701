-- Which maps are there by a history: after an entry those that were, but for one that goes, and one that comes.
use Rattle.std.specs.Prelude.{◌≡◌, ◌≢◌, ◌==◌, ◌||◌, ℕ, Bool, true, false, not, cond, List, [], ◌∷◌, ◌++◌, find, map, Option, Some, None, if◌then◌else◌}
use Rattle.std.specs.List.{AllByRecursion, list_any}
use Rattle.std.proofs.Common.{refl, ap, sym, subst, ◌∙◌, eqb-true}
use Rattle.std.proofs.lemmas.Bool.{eq-eqb}
use Rattle.run_schedules.specs.Runs.Same.{is_same}
use Rattle.run_legal.specs.Given.TablesDeclared.resize_mode.ResizeMode.{ResizeMode}
use Rattle.run_schedules.specs.Schedules.Effects.{maps_by, promoted, with_effect, with_effects}
use Rattle.run_schedules.specs.Schedules.Moment.{MapThere, Moment}
use Rattle.run_schedules.specs.declared.effect.Effect.{Effect}
use Rattle.run_schedules.specs.declared.effect.Effect.TheVariants.{Promoted}
use Rattle.run_schedules.specs.declared.effect.TableId.{TableId}
use Rattle.run_schedules.specs.declared.outcome.Outcome.{Outcome}
use Rattle.run_legal.proofs.Given.FollowsCalling.{is_same_refl}
use Rattle.play_linear.proofs.Given.AgreesLists.{all_kept}
use Rattle.run_schedules.specs.Deeds.Deeds.{Begins, Deed, Entry, MapComes, MapFails, MapGoes, acted_on, after, begun, caller_of, named, without_map}

-- each is one of these, by its name, too
abbrev pub IsIn : (ℕ → Type 0) → MapThere → Type 0
IsIn P f = (f.name ≡ named f.number) × P f.number

abbrev pub AreIn : (ℕ → Type 0) → List MapThere → Type 0
AreIn P maps = AllByRecursion (IsIn P) maps

module _ (P : ℕ → Type 0) where
  promoted_in : (t : TableId) (maps : List MapThere) → AreIn P maps → AreIn P (map (promoted t) maps)
  promoted_in t [] all = tt
  promoted_in t (f ∷ maps) all = (by (f.number == t.map), promoted_in t maps all.1)
    where
      by : (q : Bool) → IsIn P (if q then record f { first = t.turn } else f)
      by true = all.0
      by false = all.0

  one_in : (f : Effect) (maps : List MapThere) → AreIn P maps → AreIn P (maps_by f maps)
  one_in (Promoted t) maps all = promoted_in t maps all
  one_in _ maps all = all

  more_in : (f : MapThere) → IsIn P f → (maps : List MapThere) → AreIn P maps → AreIn P (maps ++ f ∷ [])
  more_in f its [] all = (its, tt)
  more_in f its (g ∷ maps) all = (all.0, more_in f its maps all.1)

  -- one that is found by its number is one of these
  pub found_in : (n : ℕ) (maps : List MapThere) → AreIn P maps → list_any (λ (f : MapThere). f.number == n) maps ≡ true → P n
  found_in n [] all some = absurd (cc some)
  found_in n (f ∷ maps) all some = by (f.number == n) refl (found_in n maps all.1)
    where
      by : (q : Bool) → (f.number == n) ≡ q → (list_any (λ (g : MapThere). g.number == n) maps ≡ true → P n) → P n
      by true e rest = subst P (eqb-true f.number n e) all.0.1
      by false e rest = rest (sym (ap (λ (q : Bool). q || list_any (λ (g : MapThere). g.number == n) maps) e) ∙ some)

module _ (P Q : ℕ → Type 0) where
  pub then_in : ((n : ℕ) → P n → Q n) → (maps : List MapThere) → AreIn P maps → AreIn Q maps
  then_in so [] all = tt
  then_in so (f ∷ maps) all = ((all.0.0, so f.number all.0.1), then_in so maps all.1)

  -- without one of this number, or where none has it
  others_in : (own : ℕ) → ((n : ℕ) → n ≢ own → P n → Q n) → (maps : List MapThere) → AreIn P maps → AreIn Q (without_map own maps)
  others_in own so maps all =
      all_kept (IsIn P) (IsIn Q) (λ (f : MapThere). not (is_same f.name (named own))) maps
      (λ f kept its. (
        its.0,
        so f.number
            (λ same.
            let here : is_same f.name (named own) ≡ true = ap (λ (l : List ℕ). is_same l (named own)) (its.0 ∙ ap named same) ∙ is_same_refl (named own) in
            let not_kept : not true ≡ true = ap not (sym here) ∙ kept in cc not_kept) its.1,
      )) all

  pub none_in : (own : ℕ) → ((n : ℕ) → n ≢ own → P n → Q n) → (maps : List MapThere) → find (λ (f : MapThere). f.number == own) maps ≡ None → AreIn P maps → AreIn Q maps
  none_in own so [] none all = tt
  none_in own so (f ∷ maps) none all = by (f.number == own) refl none (λ later. none_in own so maps later all.1)
    where
      by : (q : Bool) → (f.number == own) ≡ q → cond q (Some f) (find (λ (g : MapThere). g.number == own) maps) ≡ None
          → (find (λ (g : MapThere). g.number == own) maps ≡ None → AreIn Q maps) → AreIn Q (f ∷ maps)
      by true e gone rest = absurd (cc gone)
      by false e gone rest = ((all.0.0, so f.number (λ same. let yes = eq-eqb f.number own same in cc (yes, e)) all.0.1), rest gone)

module _ {K V : Type 0} where
  effects_in : (P : ℕ → Type 0) (caller : Option (List ℕ)) (acted : Option ℕ) (fs : List Effect) (m : Moment K V) → AreIn P m.maps → AreIn P (with_effects caller acted fs m).maps
  effects_in P caller acted [] m all = all
  effects_in P caller acted (f ∷ fs) m all = effects_in P caller acted fs (with_effect caller acted f m) (one_in P f m.maps all)

  -- no map comes or goes by it
  abbrev pub LeavesMaps : Deed K V → Type 0
  LeavesMaps (MapComes map root mode capacity) = ⊥
  LeavesMaps (MapFails map) = ⊥
  LeavesMaps (MapGoes map) = ⊥
  LeavesMaps deed = Unit {0}

  module _ (P Q : ℕ → Type 0) (m : Moment K V) (all : AreIn P m.maps) (o : Outcome V) (fs : List Effect) (refused : Bool) where
    abbrev entry : Deed K V → Entry K V
    entry d = record { deed = d; outcome = o; effects = fs; refused = refused }

    pub still_in : (d : Deed K V) → LeavesMaps d → AreIn P (after (entry d) m).maps
    still_in (MapComes on root mode capacity) leaves = absurd leaves
    still_in (MapFails on) leaves = absurd leaves
    still_in (MapGoes on) leaves = absurd leaves
    still_in (Begins i s on call) leaves = effects_in P None (acted_on {K = K} {V = V} (Begins i s on call) (begun (Begins i s on call) m)) fs (begun (Begins i s on call) m) all
    still_in d leaves = effects_in P (caller_of d) (acted_on d m) fs m all

    -- one comes
    pub comes_in : (on root : ℕ) (mode : ResizeMode) (capacity : ℕ) → ((n : ℕ) → P n → Q n) → Q on → AreIn Q (after (entry (MapComes on root mode capacity)) m).maps
    comes_in on root mode capacity so its =
        effects_in Q None (Some on) fs (begun (MapComes on root mode capacity) m)
        (more_in Q (record { name = named on; number = on; root = root; mode = mode; capacity = capacity; first = 0 }) (refl, its) m.maps (then_in P Q so m.maps all))

    -- one goes
    pub fails_in : (on : ℕ) → ((n : ℕ) → n ≢ on → P n → Q n) → AreIn Q (after (entry (MapFails on)) m).maps
    fails_in on so = others_in P Q on so (with_effects None (Some on) fs m).maps (effects_in P None (Some on) fs m all)

    pub goes_in : (on : ℕ) → ((n : ℕ) → n ≢ on → P n → Q n) → AreIn Q (after (entry (MapGoes on)) m).maps
    goes_in on so = others_in P Q on so (with_effects None (Some on) fs m).maps (effects_in P None (Some on) fs m all)

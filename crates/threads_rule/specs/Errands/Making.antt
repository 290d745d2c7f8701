-- What a seat knows while it makes a map of no table, and once that is there.
use Rattle.std.specs.Prelude.{true, false, ◌≡◌, ℕ, Bool, ◌+◌, ◌^◌, ◌<◌, Some, None, Result, IfOk, IfErr}
use Rattle.std.specs.Int.{IsPowerOfTwo}
use Rattle.seize_words.specs.declared.fault.Fault.{Fault}
use Rattle.seize.specs.declared.advance.Advance.{Advance}
use Rattle.seize.specs.declared.advance.Advance.TheVariants as progress
use Rattle.map_tables.specs.declared.setting.Setting.{Setting}
use Rattle.map_machines.specs.NewMap.{opening}
use Rattle.map_machines.specs.declared.new_map.NewMap.{NewMap}
use Rattle.seize_views.specs.declared.view.Fixed.{Fixed}
use Rattle.threads_kinds.specs.Makings.{IsEarly, chosen_of}
use Rattle.threads_rule.specs.Views.Begun.{making}
use Rattle.threads_rule.specs.Views.Rule.{side_of}
use Rattle.threads_rule.specs.declared.view.View.{View}
use Rattle.threads_rule.specs.declared.view.SeatWork.TheVariants.{Nothing, Makes}

-- a map of no table may be made so: by the size of batches and the roots of its memory
pub record MayBegin (fixed : Fixed) (c : NewMap) : Type 0 where
  pub given : Setting
  pub is : c ≡ opening given fixed.roots 0
  pub sized : given.batch_size ≡ fixed.batch_size
  pub masked : given.mask + 1 < 2 ^ 64
  pub initial : IsPowerOfTwo given.initial
  pub rooted : 0 < fixed.roots

-- for itself or for good, by this one, with this hasher
abbrev pub IsThis : {S : Type 0} → Bool → S → NewMap → Bool → S → NewMap → Type 0
IsThis own hasher c o h d = (o ≡ own) × (h ≡ hasher) × (d ≡ c)

-- these plans are for just that
abbrev pub PlansJust : {S : Type 0} → (Bool → S → NewMap → Type 0) → Bool → S → NewMap → Type 0
PlansJust {S} plans own hasher c = plans own hasher c × ((o : Bool) (h : S) (d : NewMap) → plans o h d → IsThis own hasher c o h d)

module _ {K V S : Type 0} where
  -- it begins to make a map by one of these machines, with a hasher
  abbrev pub BeginsMaking : (Bool → S → NewMap → Type 0) → View K V S → View K V S → Type 0
  BeginsMaking plans v w = (m : ℕ) × (own : Bool) × (hasher : S) × (c : NewMap) × plans own hasher c × (w ≡ making v own m hasher c)

  -- it makes a map of no table by this machine, which has not ended, with this hasher: for itself, who has none yet, or for good
  pub record MakesMap (own : Bool) (hasher : S) (opening : NewMap) (v : View K V S) : Type 0 where
    pub number : ℕ
    pub works : v.work ≡ Makes own number hasher opening
    pub yet : own ≡ true → v.own ≡ None
    pub early : IsEarly opening.stands
    pub none : opening.len ≡ 0

  -- it has nothing under way, and knows the map, which has this setting and this hasher
  pub record HasMap (hasher : S) (setting : Setting) (v : View K V S) : Type 0 where
    pub number : ℕ
    pub free : v.work ≡ Nothing
    pub knows : v.map ≡ Some record { number = number; setting = setting; hasher = hasher }

  -- or the map is its own
  pub record OwnsMap (hasher : S) (setting : Setting) (v : View K V S) : Type 0 where
    pub number : ℕ
    pub free : v.work ≡ Nothing
    pub owns : v.own ≡ Some record { number = number; setting = setting; hasher = hasher }

  abbrev pub HasIt : Bool → S → Setting → View K V S → Type 0
  HasIt true hasher setting v = OwnsMap hasher setting v
  HasIt false hasher setting v = HasMap hasher setting v

  -- what a step of the making tells: it goes on, the map is there, or it was refused
  abbrev pub MadeSo : Bool → S → NewMap → Advance Setting → View K V S → Type 0
  MadeSo own hasher c progress.Goes v = MakesMap own hasher c v
  MadeSo own hasher c progress.Waits v = ⊥
  MadeSo own hasher c (progress.Done setting) v = HasIt own hasher setting v
  MadeSo own hasher c (progress.Refused fault) v = v.work ≡ Nothing

  -- What a making has come to: the map is there, with what was chosen, or nothing was made, and the seat knows what it has known. It leans on no owner, if it leant on none. No call has begun.
  pub record HasOutcome (hasher : S) (opening : NewMap) (answer : Result Setting Fault) (v w : View K V S) : Type 0 where
    pub made : IfOk answer (λ setting. HasMap hasher setting w × (chosen_of setting ≡ chosen_of opening.setting))
    pub refused : IfErr answer (λ fault. (w.work ≡ Nothing) × (w.map ≡ v.map))
    pub slot : side_of w ≡ side_of v
    pub good : v.by ≡ None → w.by ≡ None
    pub calls : w.calls ≡ v.calls

  -- What a making of its own has come to: the map is its own, with what was chosen, or it has none. It knows the map that it has known, and leans on whom it leant.
  pub record HasOwnOutcome (hasher : S) (opening : NewMap) (answer : Result Setting Fault) (v w : View K V S) : Type 0 where
    pub made : IfOk answer (λ setting. OwnsMap hasher setting w × (chosen_of setting ≡ chosen_of opening.setting))
    pub refused : IfErr answer (λ fault. (w.work ≡ Nothing) × (w.own ≡ None))
    pub slot : side_of w ≡ side_of v
    pub map : w.map ≡ v.map
    pub by : w.by ≡ v.by
    pub calls : w.calls ≡ v.calls

  abbrev pub HasComeSo : Bool → S → NewMap → Result Setting Fault → View K V S → View K V S → Type 0
  HasComeSo true = HasOwnOutcome
  HasComeSo false = HasOutcome

  -- Of maps it knows what it knew,
  abbrev pub KnowsAlike : View K V S → View K V S → Type 0
  KnowsAlike v w = (w.map ≡ v.map) × (w.by ≡ v.by) × (w.own ≡ v.own)

  -- but for the one that it has made.
  abbrev pub KnowsElse : Bool → View K V S → View K V S → Type 0
  KnowsElse true v w = (w.map ≡ v.map) × (w.by ≡ v.by)
  KnowsElse false v w = (w.by ≡ None) × (w.own ≡ v.own)

  abbrev pub KnowsStill : Bool → Advance Setting → View K V S → View K V S → Type 0
  KnowsStill own (progress.Done setting) v w = KnowsElse own v w
  KnowsStill own _ v w = KnowsAlike v w

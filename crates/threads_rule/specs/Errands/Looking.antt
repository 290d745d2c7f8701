-- What a seat knows while its call looks for a key, and once it has ended.
use Rattle.std.specs.Prelude.{◌≡◌, ℕ, Bool, true, ◌∷◌, Some, None, IfSome, Option}
use Rattle.seize_words.specs.OneMemory.Word.{block_in}
use Rattle.seize.specs.declared.advance.Advance.{Advance as Told}
use Rattle.seize.specs.declared.advance.Advance.TheVariants as told_as
use Rattle.map_tables.specs.declared.node.Node.{Node}
use Rattle.map_tables.specs.declared.node.Node.TheVariants.{Pair}
use Rattle.map_machines.specs.Lookup.{looking}
use Rattle.map_machines.specs.declared.lookup.Lookup.{Lookup}
use Rattle.map_machines.specs.declared.lookup.Looking.{Looking}
use Rattle.map_machines.specs.declared.lookup.Looking.TheVariants as at
use Rattle.papaya_raw.specs.CallPoints.{standing}
use Rattle.papaya_raw.specs.declared.machines.call.Calling.TheVariants.{Looks}
use Rattle.papaya_raw.specs.declared.machines.call.KeyCall.{KeyCall}
use Rattle.papaya_raw.specs.declared.machines.machine.Machine.TheVariants.{Key}
use Rattle.papaya_raw.specs.declared.machines.answer.KeyAnswer.{KeyAnswer}
use Rattle.papaya_raw.specs.declared.machines.answer.KeyAnswer.TheVariants as answers
use Rattle.papaya_raw.specs.declared.machines.progress.Answer.TheVariants.{Key as OfKey}
use Rattle.papaya_raw.specs.declared.machines.progress.Progress.{Progress}
use Rattle.papaya_raw.specs.declared.machines.progress.Progress.TheVariants as progress
use Rattle.many_acts.specs.Acts.Acts.{Wanted, Get}
use Rattle.threads_rule.specs.Views.Begun.{machine_for, calling}
use Rattle.threads_rule.specs.Views.Told.{newest_progress}
use Rattle.threads_rule.specs.Views.Looks.{shown_in}
use Rattle.threads_rule.specs.Views.Rule.{section_of, stand_of}
use Rattle.threads_rule.specs.declared.view.Map.{Map}
use Rattle.threads_rule.specs.declared.view.View.{View}
use Rattle.threads_rule.specs.declared.view.SeatWork.TheVariants.{Nothing, Calls}
use Rattle.map_straight.specs.Straight.Looking.{looks}
use Rattle.map_straight.specs.declared.looking.Sight.{Sight}
use Rattle.map_straight.specs.declared.looking.Sight.TheVariants as sight
use Rattle.map_tables.specs.declared.resize_mode.ResizeMode.{ResizeMode}

-- the lookup has not ended
abbrev pub IsOn : Looking → Type 0
IsOn (at.Over found) = ⊥
IsOn _ = Unit {0}

-- the pair of this word was found, or the key was not there
abbrev pub answer_of : Option ℕ → KeyAnswer
answer_of None = answers.Absent
answer_of (Some word) = answers.Found word

-- what a call has answered then
abbrev pub found_of : {T : Type 0} → Option ℕ → Progress T
found_of found = progress.Done (OfKey (answer_of found))

-- what a call tells whose lookup tells this
abbrev pub progress_of_lookup : {T : Type 0} → Told (Option ℕ) → Progress T
progress_of_lookup told_as.Goes = progress.Goes
progress_of_lookup told_as.Waits = progress.Waits
progress_of_lookup (told_as.Done found) = found_of found
progress_of_lookup (told_as.Refused fault) = progress.Refused fault

module _ {K V S : Type 0} where
  -- within its section, or that of the seat that it leans on, it begins to do this with the map that it knows
  abbrev pub Begins : (K → K → Bool) → (S → K → ℕ) → Wanted K V → View K V S → View K V S → Type 0
  Begins same hash wanted v w = (map : Map S) × (t : ℕ) × (v.map ≡ Some map) × (section_of v.under v.slot ≡ Some t) × (w ≡ calling v map (machine_for same hash map t wanted))

  -- its call looks for this key in the map that it knows, and stands at this lookup, which has not ended
  pub record LooksFor (key : K) (lookup : Lookup) (v : View K V S) : Type 0 where
    pub map : Map S
    pub call : KeyCall K V K
    pub knows : v.map ≡ Some map
    pub asked : call.asked ≡ Some key
    pub works : v.work ≡ Calls (Key (standing call (Looks lookup)))
    pub on : IsOn lookup.stands

  -- it has nothing under way, and its last step has looked at the pair of this word, of a key that is equal
  abbrev pub HasLookedAt : (K → K → Bool) → K → View K V S → ℕ → Type 0
  HasLookedAt same key v word = (found : K) × (value : V) × (same key found ≡ true) × (shown_in v.held (block_in word) ≡ Some (Pair found value))

  pub record HasLooked (same : K → K → Bool) (key : K) (found : Option ℕ) (v : View K V S) : Type 0 where
    pub free : v.work ≡ Nothing
    pub shows : IfSome found (HasLookedAt same key v)

  -- its calls are those of before, of which the newest has told this last
  abbrev pub HasProgressed : Progress (Node K V) → View K V S → View K V S → Type 0
  HasProgressed told v w = w.calls ≡ newest_progress told v.calls

  -- its calls are those of before, whatever the newest has told last
  abbrev pub IsOfThem : View K V S → View K V S → Type 0
  IsOfThem v w = (told : Progress (Node K V)) → newest_progress told w.calls ≡ newest_progress told v.calls

  -- straight code for the lookup of its call has come to this: its call has ended, or its lookup stands there
  abbrev pub HasCome : (K → K → Bool) → K → ℕ → ResizeMode → ℕ → Sight → View K V S → View K V S → Type 0
  HasCome same key root mode hashed (sight.Ends found) v w = HasLooked same key found w × HasProgressed (found_of found) v w
  HasCome same key root mode hashed (sight.Stands stands) v w = LooksFor key (looks root mode hashed stands) w × IsOfThem v w

  -- It has begun one call more, within its section: to do this with the map that it knows. That has told this last.
  abbrev pub HasRun : (K → K → Bool) → (S → K → ℕ) → Wanted K V → Progress (Node K V) → View K V S → View K V S → Type 0
  HasRun same hash wanted told v w =
      (map : Map S) × (t : ℕ) × (v.map ≡ Some map) × (section_of v.under v.slot ≡ Some t) × (w.calls ≡ record { map = map.number; began = machine_for same hash map t wanted; told = told } ∷ v.calls)

  -- within its section, with nothing else under way, it may look for the key by this lookup, in the map that it knows
  pub record MayLook (hash : S → K → ℕ) (key : K) (lookup : Lookup) (v : View K V S) : Type 0 where
    pub slot : ℕ
    pub map : Map S
    pub inside : section_of v.under v.slot ≡ Some slot
    pub knows : v.map ≡ Some map
    pub free : v.work ≡ Nothing
    pub begins : lookup ≡ looking map.setting.root map.setting.mode (hash map.hasher key)

  -- what a step of the lookup tells: it goes on, or has ended
  abbrev pub LookedSo : (K → K → Bool) → K → Lookup → Told (Option ℕ) → View K V S → Type 0
  LookedSo same key lookup told_as.Goes v = LooksFor key lookup v
  LookedSo same key lookup told_as.Waits v = ⊥
  LookedSo same key lookup (told_as.Done found) v = HasLooked same key found v
  LookedSo same key lookup (told_as.Refused fault) v = ⊥

  -- it stands where it stood, and its map is as it was
  pub record StaysThere (v w : View K V S) : Type 0 where
    pub slot : stand_of w ≡ stand_of v
    pub map : w.map ≡ v.map

  -- what a call has come to that has looked this key up
  pub record HasFound (same : K → K → Bool) (hash : S → K → ℕ) (key : K) (found : Option ℕ) (v w : View K V S) : Type 0 where
    pub looked : HasLooked same key found w
    pub stays : StaysThere v w
    pub ran : HasRun same hash (Get key) (found_of found) v w

  -- it has begun to look this key up, and straight code has come to this since then
  abbrev pub HasSeen : (K → K → Bool) → (S → K → ℕ) → K → ℕ → ResizeMode → ℕ → Sight → View K V S → View K V S → Type 0
  HasSeen same hash key root mode hashed (sight.Ends found) v w = HasFound same hash key found v w
  HasSeen same hash key root mode hashed (sight.Stands stands) v w =
      LooksFor key (looks root mode hashed stands) w × StaysThere v w × (u : View K V S) × Begins same hash (Get key) v u × IsOfThem u w

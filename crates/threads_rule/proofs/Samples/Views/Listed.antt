-- Short lists of acts: the calls of a seat are told, each by its own steps, and seen; and makings that are out of order are refused.
use Rattle.std.specs.Prelude.{Option, Some}
use Rattle.std.proofs.Common.{◌≡◌, ℕ, List, [], ◌∷◌, refl}
use Rattle.seize_words.specs.OneMemory.Mem.{Mem}
use Rattle.map_tables.specs.declared.node.Node.{Node}
use Rattle.map_tables.specs.declared.setting.Setting.{Setting}
use Rattle.papaya_raw.specs.declared.machines.answer.KeyAnswer.TheVariants.{Absent, Stored}
use Rattle.papaya_raw.specs.declared.machines.progress.Answer.TheVariants.{Key}
use Rattle.papaya_raw.specs.declared.machines.progress.Progress.TheVariants.{Done}
use Rattle.many_acts.specs.Acts.Acts.{Answer, Nothing, OfCall, Get, Insert, BeginsCall, StepsCall, BeginsMaking}
use Rattle.many_acts.specs.Acts.Doings.{Doing, Does}
use Rattle.seize_acts.specs.Acts.Answers.{Grant}
use Rattle.threads_rule.specs.Views.Listed.{AreNumbered, calls_of, seen_then}

-- seat 0 looks a key up in slot 2, and then stores a pair in slot 3; seat 1, in slot 2, looks another key up
module _ (g : Grant) where
  abbrev acts : List (Doing ℕ ℕ ℕ)
  acts =
      Does (BeginsCall 2 7 (Get 5)) ∷ Does (BeginsCall 65538 7 (Get 6)) ∷ Does (StepsCall 2 7 g) ∷ Does (BeginsCall 3 7 (Insert 5 9)) ∷ Does (StepsCall 65538 7 g) ∷ Does (StepsCall 3 7 g) ∷ []

  abbrev answers : List (Answer ℕ ℕ)
  answers = Nothing ∷ Nothing ∷ OfCall (Done (Key Absent)) ∷ Nothing ∷ OfCall (Done (Key Absent)) ∷ OfCall (Done (Key (Stored 8))) ∷ []

  -- both calls of the one, the newest first
  its_calls : calls_of 0 acts answers []
      ≡ record { caller = 3; map = 7; wanted = Insert 5 9; told = Done (Key (Stored 8)) } ∷ record { caller = 2; map = 7; wanted = Get 5; told = Done (Key Absent) } ∷ []
  its_calls = refl

  -- the call of the other one
  others_calls : calls_of 1 acts answers [] ≡ record { caller = 65538; map = 7; wanted = Get 6; told = Done (Key Absent) } ∷ []
  others_calls = refl

  -- a seat that has begun none has none
  no_calls : calls_of 2 acts answers [] ≡ []
  no_calls = refl

  -- A step of a call of the seat is seen, by whose call it was and with the memory after it;
  own_step_seen : (memory : Mem (Node ℕ ℕ)) (before : Option (ℕ × Mem (Node ℕ ℕ))) → seen_then {S = ℕ} 0 (Does (StepsCall 3 7 g)) memory before ≡ Some (3, memory)
  own_step_seen memory before = refl

  -- a step of another seat's, and a call that begins, leave what was seen.
  others_step_aside : (memory : Mem (Node ℕ ℕ)) (before : Option (ℕ × Mem (Node ℕ ℕ))) → seen_then {S = ℕ} 0 (Does (StepsCall 65538 7 g)) memory before ≡ before
  others_step_aside memory before = refl

  beginning_aside : (memory : Mem (Node ℕ ℕ)) (before : Option (ℕ × Mem (Node ℕ ℕ))) → seen_then {S = ℕ} 0 (Does (BeginsCall 3 7 (Get 5))) memory before ≡ before
  beginning_aside memory before = refl

-- makings have the numbers from 0 on, in order
module _ (given : Setting) where
  in_order : AreNumbered {K = ℕ} {V = ℕ} {S = ℕ} 0 (Does (BeginsMaking 2 0 0 given 0) ∷ Does (BeginsMaking 3 1 0 given 0) ∷ []) 2
  in_order = (refl, (refl, refl))

  not_twice : AreNumbered {K = ℕ} {V = ℕ} {S = ℕ} 0 (Does (BeginsMaking 2 0 0 given 0) ∷ Does (BeginsMaking 3 0 0 given 0) ∷ []) 2 → ⊥
  not_twice are = let second = are.1.0 in cc second

-- That callers go by their numbers, and their calls are played; and that a log is the grouping of the history that was played.
use Rattle.std.specs.Prelude.{◌≡◌, ◌≤◌, ◌==◌, ℕ, false, List, Some, filter, length}
use Rattle.std.specs.List.{AllByRecursion}
use Rattle.run_schedules.specs.Schedules.After.{moment}
use Rattle.run_schedules.specs.Schedules.Entry.{Entry}
use Rattle.run_finds.specs.Given.NamedSeen.{kind_of}
use Rattle.run_finds.specs.Given.ExecutorDeclared.caller.NamedCaller.{NamedCaller}
use Rattle.play_lists.specs.Agrees.Fresh.{is_taken}
use Rattle.play_lists.specs.Played.Play.{Calling, State}
use Rattle.play_lists.specs.Grouped.Grouping.{IsGroupingOf, Names, number_called}

module _ {K V S : Type 0} where
  -- a caller goes by its number, and its call is played, as one of its kind that keeps the value that it is to tell back
  pub record IsCalledAs (names : Names) (x : State K V S) (d : NamedCaller V) : Type 0 where
    pub name : number_called d.name names ≡ Some d.number
    pub call : Calling K V
    pub here : x.now.calls d.map d.number ≡ Some call
    pub kind : kind_of call.call ≡ d.kind
    pub value : call.value ≡ d.value

  -- so is each caller, and each has a number of its own
  pub record CallersAre (names : Names) (calls : List (NamedCaller V)) (x : State K V S) : Type 0 where
    pub each : AllByRecursion (λ d. IsCalledAs names x d) calls
    pub once : (i : ℕ) → length (filter (λ d. d.number == i) calls) ≤ 1

  -- The log is the grouping of the history that was played, callers are as they were played, and the numbers of maps that are to come are not taken.
  pub record PlaysSo (log : List (Entry K V)) (calls : List (NamedCaller V)) (x : State K V S) : Type 0 where
    pub names : Names
    pub grouping : IsGroupingOf log x.history names
    pub callers : CallersAre names calls x
    pub fresh : (n : ℕ) → (moment log).made ≤ n → is_taken n x.history ≡ false

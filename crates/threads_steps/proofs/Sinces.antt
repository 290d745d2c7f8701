-- A call that was to store a pair has it, or has handed it back, for as long as it goes on; and where it has ended that is in the map, or has come back.
use Rattle.std.specs.Prelude.{Option, Some}
use Rattle.std.proofs.Common.{◌≡◌, ℕ, Bool, List, [], ◌∷◌, sym, ◌∙◌}
use Rattle.map_tables.specs.declared.node.Node.{Node}
use Rattle.papaya_raw.specs.Machine.{machine_plan, called as as_machine}
use Rattle.papaya_raw.specs.declared.machines.answer.Called.{Called}
use Rattle.papaya_raw.specs.declared.machines.answer.Called.TheVariants as tells
use Rattle.papaya_raw.specs.declared.machines.call.KeyCall.{KeyCall}
use Rattle.papaya_raw.specs.declared.machines.machine.Machine.{Machine}
use Rattle.papaya_raw.specs.declared.machines.machine.Machine.TheVariants as kinds
use Rattle.papaya_raw.specs.declared.machines.progress.Progress.{Progress}
use Rattle.papaya_raw.specs.declared.machines.progress.Progress.TheVariants as progress
use Rattle.seize_words.proofs.General.{same_some}
use Rattle.threads_rule.specs.Views.Told.{HandsBack, MayCome, pair_in, untold}
use Rattle.threads_rule.specs.declared.view.BegunCall.{BegunCall}
use Rattle.map_straight.specs.Straight.Going.{CallGoes}
use Rattle.threads_rule.specs.Errands.Calling.{MachineStores}
use Rattle.threads_steps.specs.Storing.{HandsIt, Since, first, further}
use Rattle.threads_steps.proofs.Handing.{HasNext, StillHas, TellsOne, has_it, has_next, still_has}
use Rattle.threads_steps.proofs.Storings.{Storing, next_storing, stores_it}

module _ {K V : Type 0} where
  -- the pair with which a call began that was to store it
  pub begun_with_it : (pair : Node K V) (m : Machine K V K) → MachineStores pair m → pair_in (record { map = 0; began = m; told = untold } ∷ []) ≡ Some pair
  begun_with_it pair (kinds.Key c) is = is.unmade
  begun_with_it pair (kinds.Reserve r) is = absurd is
  begun_with_it pair (kinds.Sweep s) is = absurd is
  begun_with_it pair (kinds.Count s) is = absurd is

  hands_to : (pair : Node K V) (runs : List (BegunCall K V)) (told : Progress (Node K V)) → pair_in runs ≡ Some pair → HandsIt pair told → HandsBack runs told
  hands_to pair runs (progress.Unstored value) is hands = λ other its. hands ∙ same_some pair other (sym is ∙ its)
  hands_to pair runs progress.Goes is hands = tt
  hands_to pair runs progress.Waits is hands = tt
  hands_to pair runs (progress.Gave value) is hands = tt
  hands_to pair runs (progress.Asks asked) is hands = tt
  hands_to pair runs progress.Ready is hands = tt
  hands_to pair runs (progress.Pair asked) is hands = tt
  hands_to pair runs (progress.Done answer) is hands = tt
  hands_to pair runs (progress.Refused fault) is hands = tt

  -- and so the pair that comes back is that of the newest call
  pub hands_it : (pair : Node K V) (runs : List (BegunCall K V)) (told : Progress (Node K V)) → pair_in runs ≡ Some pair → HandsBack runs told → HandsIt pair told
  hands_it pair runs (progress.Unstored value) is hands = hands pair is
  hands_it pair runs progress.Goes is hands = tt
  hands_it pair runs progress.Waits is hands = tt
  hands_it pair runs (progress.Gave value) is hands = tt
  hands_it pair runs (progress.Asks asked) is hands = tt
  hands_it pair runs progress.Ready is hands = tt
  hands_it pair runs (progress.Pair asked) is hands = tt
  hands_it pair runs (progress.Done answer) is hands = tt
  hands_it pair runs (progress.Refused fault) is hands = tt

  module _ (same : K → K → Bool) (hashes : K → ℕ) (pair : Node K V) where
    pub record HasAll (m : Machine K V K) (back : Option (Node K V)) : Type 0 where
      pub has : StillHas pair m back
      pub storing : Storing m
      pub runs : List (BegunCall K V)
      pub its : pair_in runs ≡ Some pair

    next_has : (m n : Machine K V K) (back : Option (Node K V)) (told : Progress (Node K V)) → HasAll m back → MayCome (machine_plan same same hashes m) (n, told) → HandsIt pair told
        → HasNext pair n back told
    next_has m n back told h step hands = has_next pair back same hashes h.runs h.its m (n, told) step (hands_to pair h.runs told h.its hands) h.has

    since_has : (m : Machine K V K) (back : Option (Node K V)) → Since same hashes pair m back → HasAll m back
    since_has m back (first _ _ is) =
        record { has = has_it pair m back is; storing = stores_it pair m is; runs = record { map = 0; began = m; told = untold } ∷ []; its = begun_with_it pair m is }
    since_has m back (further k _ before told s step hands on) = let h = since_has k before s in record {
      has = still_has pair m before told on (next_has k m before told h step hands);
      storing = (next_storing same hashes k (m, told) step h.storing).0;
      runs = h.runs;
      its = h.its;
    }

    pub since_last : (m n : Machine K V K) (back : Option (Node K V)) (told : Progress (Node K V)) → Since same hashes pair m back → MayCome (machine_plan same same hashes m) (n, told)
        → HandsIt pair told → HasNext pair n back told × TellsOne told
    since_last m n back told s step hands =
        let h = since_has m back s in (next_has m n back told h step hands, (next_storing same hashes m (n, told) step h.storing).1)

    pub since_on : (x y : KeyCall K V K) (back : Option (Node K V)) (told : Called (Node K V)) → CallGoes told → Since same hashes pair (kinds.Key x) back
        → MayCome (machine_plan same same hashes (kinds.Key x)) (as_machine (y, told)) → Since same hashes pair (kinds.Key y) back
    since_on x y back tells.Goes on s step = further (kinds.Key x) (kinds.Key y) back progress.Goes s step tt tt
    since_on x y back tells.Waits on s step = further (kinds.Key x) (kinds.Key y) back progress.Waits s step tt tt
    since_on x y back (tells.Gave value) on s step = absurd on
    since_on x y back (tells.Unstored value) on s step = absurd on
    since_on x y back (tells.Asks asked) on s step = absurd on
    since_on x y back (tells.Done answer) on s step = absurd on
    since_on x y back (tells.Refused fault) on s step = absurd on

-- A session may store what is made where a key is missing, and remove a pair of which a test says yes.
use Rattle.std.specs.Prelude.{Option, Some, None, Result}
use Rattle.std.proofs.Common.{◌≡◌, ℕ, Bool, true, false, inr, refl, sym, subst, ◌∙◌}
use Rattle.papaya_raw.specs.CallAsks.{removing_if, trying_to_insert_with}
use Rattle.seize_words.specs.declared.fault.Fault.{Fault}
use Rattle.map_tables.specs.declared.node.Node.{Node}
use Rattle.map_tables.specs.declared.setting.Setting.{Setting}
use Rattle.threads_callers.specs.Given.ActsActs.{RemoveIf, TryToInsertWith}
use Rattle.papaya_raw.specs.declared.machines.asking.MachineReply.{MachineReply}
use Rattle.papaya_raw.specs.declared.machines.progress.Answer.{Answer}
use Rattle.papaya_raw.specs.declared.machines.call.KeyCall.{KeyCall}
use Rattle.papaya_raw.specs.declared.machines.machine.Machine.TheVariants.{Key}
use Rattle.seize_views.specs.declared.view.Has.TheVariants.{Nothing as NoBlock}
use Rattle.seize_views.specs.declared.view.SlotView.TheVariants.{Inside}
use Rattle.threads_callers.specs.Given.ViewsDeclared.view.View.{View}
use Rattle.threads_callers.specs.Given.ViewsDeclared.view.SeatWork.TheVariants.{Nothing}
use Rattle.threads_callers.specs.Given.StepsAsking.{HasAnswered, HasAsked, makes_pair, removes_if}
use Rattle.threads_callers.specs.Given.ErrandsCalling.{MayDoAs, outcome_of, wanted_of}
use Rattle.threads_callers.specs.Given.CallKindsKinds.{Continues, Stage}
use Rattle.threads_callers.specs.Given.CallKindsShows.{AnsweredAreVisible}
use Rattle.threads_callers.specs.Given.ViewsLooks.{shown_in}
use Rattle.threads_callers.specs.Given.ErrandsLooking.{HasRun}
use Rattle.threads_callers.specs.Standing.{known_by}
use Rattle.threads_calls.proofs.Sessions.{may_do}

-- it was told no value yet
abbrev pub first : Stage
first = record { told = false; gap = false }

-- a test is told no value
abbrev pub testing : Stage
testing = record { told = true; gap = false }

module _ {K V S : Type 0} (same : K → K → Bool) (hash : S → K → ℕ) (v : View K V S) (setting its : Setting) (hasher : S) (key : K) (hashed t : ℕ) (call : KeyCall K V K) (lone : v.under ≡ None) (inside : v.slot ≡ Inside t NoBlock) (free : v.work ≡ Nothing) (knows : known_by v ≡ Some (setting, hasher)) (is : its ≡ record setting { slot = t }) (word : hashed ≡ hash hasher key) where
  pub may_make : call ≡ trying_to_insert_with its hashed key → MayDoAs same hash makes_pair first hasher (Key call) v
  may_make made =
      record {
        may = may_do same hash (TryToInsertWith key) key (λ x h. trying_to_insert_with x h key) (λ map s. refl) (λ x h. refl) v setting its hasher hashed t call lone inside free knows is word made;
        goes = subst (λ (c : KeyCall K V K). Continues makes_pair first c) (sym made) record { so = record { kind = refl; holds = ((key, refl, refl), tt, tt); gap = tt }; here = tt };
      }

  pub may_test : call ≡ removing_if its hashed key → MayDoAs same hash removes_if testing hasher (Key call) v
  may_test made =
      record {
        may = may_do same hash (RemoveIf key) key (λ x h. removing_if x h key) (λ map s. refl) (λ x h. refl) v setting its hasher hashed t call lone inside free knows is word made;
        goes = subst (λ (c : KeyCall K V K). Continues removes_if testing c) (sym made) record { so = record { kind = refl; holds = (tt, inr (tt, tt)); gap = tt }; here = tt };
      }

module _ {K V S : Type 0} (same : K → K → Bool) (hash : S → K → ℕ) (says : Option (K × V) → MachineReply V → Type 0) {call made : KeyCall K V K} (v w : View K V S) (is : call ≡ made) where
  -- what a call has come to is said of who wanted it,
  pub answered_by : {answer so told : Result Answer Fault} → so ≡ answer → so ≡ told → HasAnswered same hash says (wanted_of (Key call)) answer v w → HasRun same hash (wanted_of (Key made)) (outcome_of told) v w
  answered_by {answer} {so} {told} its its_told answered =
      subst (λ (c : KeyCall K V K). HasRun same hash (wanted_of (Key c)) (outcome_of told) v w) is
      (subst (λ (r : Result Answer Fault). HasRun same hash (wanted_of (Key call)) (outcome_of r) v w) (sym its ∙ its_told) answered.ran)

  -- the pairs with which it has answered are shown,
  pub shows_asked : {answer so told : Result Answer Fault} → so ≡ answer → so ≡ told → HasAnswered same hash says (wanted_of (Key call)) answer v w
      → AnsweredAreVisible (outcome_of {T = Node K V} told) (shown_in w.held)
  shows_asked its its_told answered =
      subst (λ (r : Result Answer Fault). AnsweredAreVisible (outcome_of {T = Node K V} r) (shown_in w.held)) (sym its ∙ its_told) answered.shows

  -- and so is what it has asked
  pub asked_by : {answer : Result Answer Fault} → HasAnswered same hash says (wanted_of (Key call)) answer v w → HasAsked same hash says (wanted_of (Key made)) v w
  asked_by answered = subst (λ (c : KeyCall K V K). HasAsked same hash says (wanted_of (Key c)) v w) is answered.asked

-- A call that is run on until it asks or has ended, and the steps that its seat has taken by then.
use Rattle.std.specs.Prelude.{zero, suc, Option, Some, None, Result, Ok, Err}
use Rattle.std.specs.Fn.{Shared}
use denote.Ref.{Bor}
use Rattle.std.proofs.Common.{◌≡◌, ◌⊎◌, ℕ, Bool, true, false, List, inl, inr, refl, sym, subst, ap, ◌∙◌}
use Rattle.seize_words.specs.OneMemory.Word.{block_in}
use Rattle.seize_words.specs.declared.fault.Fault.{Fault}
use Rattle.map_tables.specs.declared.node.Node.{Node}
use Rattle.map_tables.specs.declared.node.Node.TheVariants.{Pair}
use Rattle.threads_rule.specs.Given.ActsActs.{Wanted}
use Rattle.papaya_raw.specs.declared.machines.asking.MachineReply.{MachineReply}
use Rattle.papaya_raw.specs.declared.machines.asking.MachineReply.TheVariants as reply
use Rattle.papaya_raw.specs.declared.machines.asking.Takes.TheVariants.{Choices}
use Rattle.papaya_raw.specs.declared.machines.asking.Told.{Told}
use Rattle.papaya_raw.specs.declared.machines.asking.Told.TheVariants as tells
use Rattle.papaya_raw.specs.declared.machines.machine.Machine.{Machine}
use Rattle.papaya_raw.specs.declared.machines.machine.Machine.TheVariants as kinds
use Rattle.papaya_raw.specs.declared.machines.progress.Answer.{Answer}
use Rattle.papaya_raw.specs.declared.machines.progress.Progress.{Progress}
use Rattle.papaya_raw.specs.declared.machines.progress.Progress.TheVariants as progress
use Rattle.threads_rule.specs.Views.Begun.{replied}
use Rattle.threads_rule.specs.Views.Looks.{shown_in}
use Rattle.threads_rule.specs.Views.Rule.{stand_of}
use Rattle.threads_rule.specs.Views.Told.{newest_progress}
use Rattle.threads_rule.specs.declared.view.View.{View}
use Rattle.threads_rule.specs.declared.view.SeatWork.TheVariants.{Nothing}
use Rattle.threads_steps.specs.Asking.{HasAnswered, HasGone, IsOfCall, MakingSays, MayTest, NoneSaid, PausedSo, TestSays, WasReplied, makes_pair, removes_if, reply_of, progress_at}
use Rattle.threads_rule.specs.Errands.Calling.{HasEnded, IsAsking, IsGoing, IsNoQuestion, IsUnderWay, StepOutcome, outcome_of}
use Rattle.threads_kinds.specs.CallKinds.Kinds.{Kind, Stage, IsFit, IsReplied, IsUntold, PairIsVisible, stage_after}
use Rattle.threads_kinds.specs.CallKinds.Shows.{AnsweredAreVisible}
use Rattle.threads_rule.specs.Errands.Looking.{Begins, HasProgressed, IsOfThem, StaysThere}
use Rattle.threads_steps.specs.Steps.{HasStepped}
use Rattle.threads_steps.specs.declared.within.asking.Halt.{Halt}
use Rattle.threads_steps.specs.declared.within.asking.Halt.TheVariants as pause
use Rattle.threads_rule.proofs.Errands.Beginnings.{stays_begun, stays_on}
use Rattle.threads_rule.proofs.Errands.Runs.{has_run, told_last}
use Rattle.seize_words.proofs.General.{same_some}

module _ {K V S : Type 0} (k : Kind) (s : Stage) (hasher : S) (machine : Machine K V K) where
  -- a step of a call on one key tells what such a call may tell,
  pub of_call : (told : Progress (Node K V)) (w : View K V S) → StepOutcome k s hasher machine told w → IsOfCall told
  of_call progress.Goes w is = tt
  of_call progress.Waits w is = tt
  of_call (progress.Gave value) w is = tt
  of_call (progress.Unstored value) w is = tt
  of_call (progress.Asks pair) w is = tt
  of_call progress.Ready w is = is
  of_call (progress.Pair pair) w is = is
  of_call (progress.Done answer) w is = tt
  of_call (progress.Refused fault) w is = tt

  -- and goes on where it does not pause
  pub goes_still : (told : Progress (Node K V)) (w : View K V S) → StepOutcome k s hasher machine told w → IsGoing told → IsNoQuestion told → IsUnderWay k s hasher machine w
  goes_still progress.Goes w is on none = is
  goes_still progress.Waits w is on none = is
  goes_still (progress.Gave value) w is on none = is
  goes_still (progress.Unstored value) w is on none = is
  goes_still (progress.Asks pair) w is on none = absurd none
  goes_still progress.Ready w is on none = absurd is
  goes_still (progress.Pair pair) w is on none = absurd is
  goes_still (progress.Done answer) w is on none = absurd on
  goes_still (progress.Refused fault) w is on none = absurd on

  -- what is known where it pauses
  free_at : (answer : Result Answer Fault) (w : View K V S) → StepOutcome k s hasher machine (outcome_of answer) w → w.work ≡ Nothing
  free_at (Ok answer) w is = is
  free_at (Err fault) w is = is

  pub paused_so : (told : Progress (Node K V)) (at : Halt) (u v w : View K V S) → told ≡ progress_at at → StepOutcome k s hasher machine told w → IsOfThem u v → HasProgressed told v w
      → AnsweredAreVisible told (shown_in w.held) → PausedSo k s hasher machine at u w
  paused_so told (pause.Asks pair) u v w e is them has shows = subst (λ (t : Progress (Node K V)). StepOutcome k s hasher machine t w) e is
  paused_so told (pause.Ended answer) u v w e is them has shows = record {
    free = free_at answer w (subst (λ (t : Progress (Node K V)). StepOutcome k s hasher machine t w) e is);
    told = told_last u v w (outcome_of answer) them (subst (λ (t : Progress (Node K V)). HasProgressed t v w) e has);
    shows = subst (λ (t : Progress (Node K V)). AnsweredAreVisible t (shown_in w.held)) e shows;
  }

module _ {K V S : Type 0} (same : K → K → Bool) (hash : S → K → ℕ) (says : Option (K × V) → MachineReply V → Type 0) where
  -- one step,
  pub gone_once : (v w : View K V S) → (HasStepped same hash v w ⊎ WasReplied says v w) → HasGone same hash says 1 v w
  gone_once v w step = (v, refl, step)

  -- so many more,
  pub gone_on : (n m : ℕ) (u v w : View K V S) → HasGone same hash says n u v → HasGone same hash says m v w → (l : ℕ) × HasGone same hash says l u w
  gone_on n zero u v w gone more = (n, subst (HasGone same hash says n u) (sym more) gone)
  gone_on n (suc m) u v w gone more = let k = gone_on n m u v more.0 gone more.1 in (suc k.0, (more.0, k.1, more.2))

  -- and those in which nothing was told are such, too
  pub none_said : (n : ℕ) (v w : View K V S) → HasGone same hash NoneSaid n v w → HasGone same hash says n v w
  none_said zero v w gone = gone
  none_said (suc n) v w gone = (
    gone.0,
    none_said n v gone.0 gone.1,
    elim gone.2 as (λ _. HasStepped same hash gone.0 w ⊎ WasReplied says gone.0 w) [
      | inl step ↦ inl step
      | inr told ↦ absurd told.5
    ],
  )

-- what is told is said of more
pub gone_as : {K V S : Type 0} (same : K → K → Bool) (hash : S → K → ℕ) (says more : Option (K × V) → MachineReply V → Type 0) → ((pair : Option (K × V)) (told : MachineReply V) → says pair told → more pair told) → (n : ℕ) (v w : View K V S)
    → HasGone same hash says n v w → HasGone same hash more n v w
gone_as same hash says more is zero v w gone = gone
gone_as same hash says more is (suc n) v w gone = (
  gone.0,
  gone_as same hash says more is n v gone.0 gone.1,
  elim gone.2 as (λ _. HasStepped same hash gone.0 w ⊎ WasReplied more gone.0 w) [
    | inl step ↦ inl step
    | inr told ↦ inr (told.0, told.1, told.2, told.3, told.4, is told.1 told.2 told.5, told.6)
  ],
)

module _ {K V S : Type 0} (s : Stage) (hasher : S) (v : View K V S) where
  -- a call that makes its value asks where the key is missing alone,
  pub asks_missing : (pair : Option ℕ) (machine : Machine K V K) → IsAsking makes_pair s hasher pair machine v → pair ≡ None
  asks_missing None machine is = refl
  asks_missing (Some word) (kinds.Key c) is = absurd (cc is.asks.1.asks)
  asks_missing (Some word) (kinds.Reserve r) is = absurd is.asks
  asks_missing (Some word) (kinds.Sweep r) is = absurd is.asks
  asks_missing (Some word) (kinds.Count r) is = absurd is.asks

  -- and one that tests asks with a pair, which is shown
  pub asks_there : (pair : Option ℕ) (machine : Machine K V K) → IsAsking removes_if s hasher pair machine v → (word : ℕ) × (pair ≡ Some word) × PairIsVisible (shown_in v.held) word
  asks_there (Some word) (kinds.Key c) is = (word, refl, is.asks.1.shows)
  asks_there (Some word) (kinds.Reserve r) is = absurd is.asks
  asks_there (Some word) (kinds.Sweep r) is = absurd is.asks
  asks_there (Some word) (kinds.Count r) is = absurd is.asks
  asks_there None (kinds.Key c) is = absurd (cc is.asks.1.asks)
  asks_there None (kinds.Reserve r) is = absurd is.asks
  asks_there None (kinds.Sweep r) is = absurd is.asks
  asks_there None (kinds.Count r) is = absurd is.asks

-- a call that was told its value asks no more
told_gap : {V : Type 0} (told : Told V) → IsReplied told → IsUntold told → ⊥
told_gap tells.Nothing is none = is
told_gap (tells.Value value) is none = none
told_gap tells.Own is none = none
told_gap tells.Removes is none = none

pub asks_no_more : {K V S : Type 0} (s : Stage) (hasher : S) (machine : Machine K V K) (value : V) (v u w : View K V S) (at : Halt) → PausedSo makes_pair (stage_after s None (reply.Insert value)) hasher machine at u w
    → (answer : Result Answer Fault) × (at ≡ pause.Ended answer)
asks_no_more s hasher machine value v u w (pause.Ended answer) is = (answer, refl)
asks_no_more s hasher (kinds.Key c) value v u w (pause.Asks None) is = absurd (told_gap c.replies.absent is.asks.0.gap is.asks.1.untold)
asks_no_more s hasher (kinds.Reserve r) value v u w (pause.Asks None) is = absurd is.asks
asks_no_more s hasher (kinds.Sweep r) value v u w (pause.Asks None) is = absurd is.asks
asks_no_more s hasher (kinds.Count r) value v u w (pause.Asks None) is = absurd is.asks
asks_no_more s hasher (kinds.Key c) value v u w (pause.Asks (Some word)) is = absurd (cc is.asks.1.asks)
asks_no_more s hasher (kinds.Reserve r) value v u w (pause.Asks (Some word)) is = absurd is.asks
asks_no_more s hasher (kinds.Sweep r) value v u w (pause.Asks (Some word)) is = absurd is.asks
asks_no_more s hasher (kinds.Count r) value v u w (pause.Asks (Some word)) is = absurd is.asks

-- a yes and a no leave a call as far as it has come
pub same_stage : {V : Type 0} (s : Stage) (word : ℕ) (said : MachineReply V) → IsFit Choices s.told (Some word) said → stage_after s (Some word) said ≡ s
same_stage s word reply.Yes fit = refl
same_stage s word reply.No fit = refl
same_stage s word (reply.Insert value) fit = absurd fit.0
same_stage s word reply.Remove fit = absurd fit
same_stage s word reply.Abort fit = absurd fit

-- what a call is told leaves its seat where it is, and its calls as they were
pub stays_told : {K V S : Type 0} (machine : Machine K V K) (said : MachineReply V) (v w : View K V S) → w ≡ replied v machine said → StaysThere v w
stays_told {K} {V} {S} machine said v w e = record { slot = ap (λ (u : View K V S). stand_of u) e; map = ap (λ (u : View K V S). u.map) e }

pub calls_told : {K V S : Type 0} (machine : Machine K V K) (said : MachineReply V) (v w : View K V S) → w ≡ replied v machine said → IsOfThem v w
calls_told {K} {V} {S} machine said v w e = λ told. ap (λ (u : View K V S). newest_progress told u.calls) e

-- what is made is what the closure has given
pub made_so : {K V : Type 0} (makes : V → Type 0) (value : V) → makes value → (pair : Option (K × V)) (said : MachineReply V) → MakingSays (λ (made : V). made ≡ value) pair said → MakingSays makes pair said
made_so makes value is None (reply.Insert made) e = subst makes (sym e) is
made_so makes value is None reply.Remove e = absurd e
made_so makes value is None reply.Abort e = absurd e
made_so makes value is None reply.Yes e = absurd e
made_so makes value is None reply.No e = absurd e
made_so makes value is (Some pair) said e = absurd e

-- who has ended since a later moment has ended since an earlier one
pub ended_on : {K V S : Type 0} (answer : Result Answer Fault) (u v w : View K V S) → IsOfThem u v → HasEnded answer v w → HasEnded answer u w
ended_on answer u v w them ended = record { free = ended.free; told = told_last u v w (outcome_of answer) them ended.told; shows = ended.shows }

-- so it has run one call more, which has asked so
pub answered : {K V S : Type 0} (same : K → K → Bool) (hash : S → K → ℕ) (says : Option (K × V) → MachineReply V → Type 0) (wanted : Wanted K V) (answer : Result Answer Fault) (u v w : View K V S) (n : ℕ)
    → Begins same hash wanted u v → HasEnded answer v w → StaysThere v w → HasGone same hash says n v w → HasAnswered same hash says wanted answer u w
answered same hash says wanted answer u v w n begins ended stays gone = record {
  free = ended.free;
  stays = stays_on u v w (stays_begun same hash wanted u v begins) stays;
  ran = has_run same hash wanted (outcome_of answer) u v w begins ended.told;
  asked = (v, n, begins, gone);
  shows = ended.shows;
}

module _ {K V S : Type 0} (says : Option (K × V) → MachineReply V → Type 0) (v w : View K V S) (told : WasReplied says v w) where
  pub stays_there_told : StaysThere v w
  stays_there_told = stays_told told.0 told.2 v w told.6

  pub calls_stay_told : IsOfThem v w
  calls_stay_told = calls_told told.0 told.2 v w told.6

pub them_on : {K V S : Type 0} (u v w : View K V S) → IsOfThem u v → IsOfThem v w → IsOfThem u w
them_on u v w one other = λ told. other told ∙ one told

-- a test is called with the pair that is shown, and says yes or no of that
pub shown_pair : {K V : Type 0} (node : Node K V) (key : K) (value : V) → Some node ≡ Some (Pair key value) → node ≡ Pair key value
shown_pair node key value e = same_some node (Pair key value) e

pub same_word : (pair : Option ℕ) (one other : ℕ) → pair ≡ Some one → pair ≡ Some other → one ≡ other
same_word pair one other e f = same_some one other (sym e ∙ f)

pub shown_at : {K V : Type 0} (held : List (ℕ × Node K V)) (one other : ℕ) → one ≡ other → (key : K) (value : V) → shown_in held (block_in one) ≡ Some (Pair key value)
    → shown_in held (block_in other) ≡ Some (Pair key value)
shown_at held one other is key value e = subst (λ (w : ℕ). shown_in held (block_in w) ≡ Some (Pair key value)) is e

pub test_at : {F K V : Type 0} (g : Shared F (Bor K × (Bor V × Unit {0})) Bool) (f : F) (p : Bor K) (q : Bor V) (answer : Bool) → g.post f (p, (q, tt)) answer → (key : K) (value : V)
    → Pair p.now q.now ≡ Pair key value → MayTest g f key value answer
test_at g f p q answer said key value e = (p, q, record { met = said }, cc e, cc e)

pub test_fits : (V : Type 0) (told : Bool) (word : ℕ) (yes : Bool) → IsFit {V = V} Choices told (Some word) (reply_of yes)
test_fits V told word true = tt
test_fits V told word false = tt

pub test_says : {K V : Type 0} (test : K → V → Bool → Type 0) (pair : K × V) (yes : Bool) → test pair.0 pair.1 yes → TestSays test (Some pair) (reply_of yes)
test_says test pair true is = is
test_says test pair false is = is

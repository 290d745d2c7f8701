-- What a seat may say of its newest call where that was one on a whole map.
use Rattle.std.specs.Prelude.{◌<◌, ◌^◌, Option, Some}
use Rattle.std.proofs.Common.{◌≡◌, ℕ, Bool, true, false, List, [], ◌∷◌, refl, sym, subst, ap, ◌∙◌}
use Rattle.threads_rule.proofs.Views.Leaves.{section_place}
use Rattle.run_schedules.proofs.Given.General.{same_some}
use Rattle.threads_rule.specs.Given.SeizeViewsDeclared.view.Fixed.{Fixed}
use Rattle.run_legal.specs.Given.TablesDeclared.node.Node.{Node}
use Rattle.run_schedules.specs.Given.RawDeclared.machines.progress.Answer.{Answer as Said}
use Rattle.run_schedules.specs.Given.RawDeclared.machines.progress.Answer.TheVariants as said
use Rattle.run_schedules.specs.Given.RawDeclared.machines.progress.Progress.{Progress}
use Rattle.run_schedules.specs.Given.RawDeclared.machines.progress.Progress.TheVariants as progress
use Rattle.threads_rule.specs.Views.Begun.{machine_for}
use Rattle.threads_rule.specs.Views.Listed.{plain}
use Rattle.threads_rule.specs.Views.Rule.{caller_at, section_of}
use Rattle.threads_rule.specs.declared.view.Map.{Map}
use Rattle.threads_rule.specs.declared.view.BegunCall.{BegunCall}
use Rattle.threads_rule.specs.declared.view.View.{View}
use Rattle.run_schedules.specs.Schedules.After.{AtEachEvent}
use Rattle.run_schedules.specs.declared.call.Response.{Response}
use Rattle.run_schedules.specs.declared.call.Response.TheVariants as answers
use Rattle.run_schedules.specs.declared.outcome.Outcome.{Outcome}
use Rattle.run_schedules.specs.declared.outcome.Outcome.TheVariants.{Answered}
use Rattle.run_legal.specs.Given.NamedSeen.{kind_of}
use Rattle.run_legal.specs.Given.ScenesStepping.{has_ended}
use Rattle.threads_rule.specs.Given.ActsActs.{Wanted, Count, GoOver, MakeRoom}
use Rattle.run_legal.specs.Given.EffectsKnown.{Known}
use Rattle.play_linear.specs.Given.PlayedPlay.{State as Played, call_for, outcome_of}
use Rattle.run_schedules.specs.Given.ReservesDeclared.sweep.Purpose.TheVariants.{Clears, Retains, Walks}
use Rattle.run_schedules.specs.Deeds.Deeds.{Entry}
use Rattle.run_schedules.specs.Deeds.History.{is_of}
use Rattle.play_moves.specs.Moves.Legal.{KeepsAll}
use Rattle.play_moves.specs.OneHistory.Answered.{ByNewest, IfElse, IsItsEnd}
use Rattle.play_moves.specs.OneHistory.Whole.{EndsDone, HasCleared, HasCounted, HasDone, HasMadeRoom, HasRetained, HasWalked}
use Rattle.play_moves.specs.OneHistory.Calls.{ItsCall}
use Rattle.play_moves.proofs.OneHistory.Answered.{tell}
use Rattle.play_moves.proofs.OneHistory.Calls.{by_newest, ends, history}
use Rattle.play_moves.proofs.OneHistory.Legal.{histories_keep_all}
use Rattle.play_moves.proofs.OneHistory.Order.{newest_as}
use Rattle.play_moves.proofs.OneHistory.Tells.{EndsAs}

-- what is so of each entry is so of the newest one of a caller's calls
newest_with : {K V : Type 0} (i : ℕ) (P So : List (Entry K V) → Entry K V → Type 0) (log : List (Entry K V)) → AtEachEvent P log → ByNewest i So log → ByNewest i (λ l e. So l e × P l e) log
newest_with i P So [] all is = absurd is
newest_with i P So (e ∷ log) all is = by (is_of i e.deed) (λ rest. newest_with i P So log all.1 rest) is
  where
    by : (q : Bool) → (ByNewest i So log → ByNewest i (λ l x. So l x × P l x) log) → IfElse q (So log e) (ByNewest i So log)
        → IfElse q (So log e × P log e) (ByNewest i (λ l x. So l x × P l x) log)
    by true later so = (so, all.0)
    by false later rest = later rest

module _ {K V S : Type 0} (same : K → K → Bool) (hash : S → K → ℕ) (fixed : Fixed) (small : fixed.batch_size < 2 ^ 64) (id t : ℕ) (v : View K V S) (map : Map S) (run : BegunCall K V)
    (before : List (BegunCall K V)) (knows : v.map ≡ Some map) (section : section_of v.under v.slot ≡ Some t) (calls_are : v.calls ≡ run ∷ before) (on_it : run.map ≡ map.number) where
  -- A call that was told an answer has ended so, and has done what it is for.
  module _ (wanted : Wanted K V) (simple : plain wanted ≡ wanted) (began : run.began ≡ machine_for same hash map t wanted) (it : Said) (told : run.told ≡ progress.Done it) (answer : Response V)
      (as_answered : (known : Known) (value : Option V) → outcome_of {K = K} known (kind_of (call_for wanted)) value (progress.Done it) ≡ Answered answer) where
    ended : has_ended run.told ≡ true
    ended = ap has_ended told

    -- by what it was told
    its_end : (m : ℕ) (log : List (Entry K V)) (e : Entry K V) → EndsAs same (caller_at id t) m wanted run.told log e → IsItsEnd same (caller_at id t) m (call_for wanted) (Answered answer) log e
    its_end m log e as_told =
        subst (λ (o : Outcome V). IsItsEnd same (caller_at id t) m (call_for wanted) o log e)
        (ap (λ (p : Progress (Node K V)). outcome_of as_told.0 (kind_of (call_for wanted)) as_told.1 p) told ∙ as_answered as_told.0 as_told.1) as_told.2

    ends_so : ItsCall same hash fixed id v (λ i m. IsItsEnd same i m (call_for wanted) (Answered answer))
    ends_so =
        by_newest same hash fixed small id t v map run before knows section calls_are on_it wanted simple began ended (λ i m. IsItsEnd same i m (call_for wanted) (Answered answer))
        (λ log e as_told. its_end map.number log e as_told)

    pub has_done : HasDone same hash fixed id v (call_for wanted) answer
    has_done = (
      ends_so,
      λ terms. (
        map,
        knows,
        λ aborts s h at_id asks.
            let all = histories_keep_all V same hash terms fixed small aborts s h asks in
            let first = tell same hash fixed small aborts id t v map wanted run [] before knows calls_are on_it simple began ended s h at_id in
            let so = newest_as (caller_at id t) (EndsAs same (caller_at id t) map.number wanted run.told) (IsItsEnd same (caller_at id t) map.number (call_for wanted) (Answered answer))
            (λ log e as_told. its_end map.number log e as_told) (history same hash fixed small id t v map run before knows section calls_are on_it wanted simple began ended aborts s h at_id)
            (ends same hash fixed small id t v map run before knows section calls_are on_it wanted simple began ended aborts s h at_id) in
            let in_all = subst (λ (x : Played K V S). ByNewest (caller_at id t) (IsItsEnd same (caller_at id t) map.number (call_for wanted) (Answered answer)) x.history)
            (same_some first.0 all.0 (sym first.1 ∙ all.1)) so in
            let both = newest_with (caller_at id t) (KeepsAll same terms) (IsItsEnd same (caller_at id t) map.number (call_for wanted) (Answered answer)) all.0.history all.2 in_all in (
              all.0,
              all.1,
              all.2,
              subst (λ (a : ℕ). ByNewest (caller_at id a) (EndsDone same terms (caller_at id a) map.number (call_for wanted) answer) all.0.history) (sym (section_place v.under v.slot t section))
                  (newest_as (caller_at id t) (λ log e. IsItsEnd same (caller_at id t) map.number (call_for wanted) (Answered answer) log e × KeepsAll same terms log e)
                  (EndsDone same terms (caller_at id t) map.number (call_for wanted) answer) (λ log e is. (is.0, is.1.swept)) all.0.history both),
            ),
      ),
    )

  -- So it has counted,
  pub has_counted : (count : ℕ) → run.began ≡ machine_for same hash map t Count → run.told ≡ progress.Done (said.Count count) → HasCounted same hash fixed id v count
  has_counted count began told = has_done Count refl began (said.Count count) told (answers.Counted count) (λ known value. refl)

  -- made room,
  pub has_made_room : (additional : ℕ) → run.began ≡ machine_for same hash map t (MakeRoom additional) → run.told ≡ progress.Done said.Reserved → HasMadeRoom same hash fixed id v additional
  has_made_room additional began told = has_done (MakeRoom additional) refl began said.Reserved told answers.Completed (λ known value. refl)

  -- removed all pairs,
  pub has_cleared : run.began ≡ machine_for same hash map t (GoOver Clears) → run.told ≡ progress.Done said.Swept → HasCleared same hash fixed id v
  has_cleared began told = has_done (GoOver Clears) refl began said.Swept told answers.Completed (λ known value. refl)

  -- or all but those that it was told to keep,
  pub has_retained : run.began ≡ machine_for same hash map t (GoOver Retains) → run.told ≡ progress.Done said.Swept → HasRetained same hash fixed id v
  has_retained began told = has_done (GoOver Retains) refl began said.Swept told answers.Completed (λ known value. refl)

  -- or has shown all.
  pub has_walked : run.began ≡ machine_for same hash map t (GoOver Walks) → run.told ≡ progress.Done said.Swept → HasWalked same hash fixed id v
  has_walked began told = has_done (GoOver Walks) refl began said.Swept told answers.Absent (λ known value. refl)

-- What has happened to the memory of one owner goes on with each whole call, and with each event of the users.
use Rattle.std.specs.Prelude.{Option, if◌then◌else◌, ◌==◌}
use Rattle.std.proofs.Common.{◌≡◌, ℕ, ◌+◌, Bool, true, false, List, [], ◌∷◌, ◌++◌, refl, ap, sym, subst, ◌∙◌}
use Rattle.std.proofs.Math.Path.{fun_ext}
use Rattle.std.proofs.lemmas.List.{append-nil}
use Rattle.seize.specs.Given.SeizeWordsMem.{Mem}
use Rattle.seize.specs.declared.states.TheConstants.{LAST_SLOT}
use Rattle.seize.specs.WaitingSets.{Change}
use Rattle.seize.specs.World.{Row, Rests, Request, Event, Happens, with_at, at_start}
use Rattle.seize.specs.Sequence.{Turn, Whole, Between, IsBetween, Calls, TakesTurns, changes, ended_by}
use Rattle.seize_model.specs.Alone.Alone.{History, IsHistory, at_rest}
use Rattle.seize_rule.proofs.World.Rested.{Rested, start_rested, turns_rested}
use Rattle.seize_model.proofs.Sets.Turns.Append.{turns_append}

-- the last value put counts
pub with_anew : {X : Type 0} (f : ℕ → X) (k : ℕ) (a b : X) → with_at (with_at f k a) k b ≡ with_at f k b
with_anew f k a b = fun_ext (λ j. at j (j == k))
  where
    at : (j : ℕ) (t : Bool) → (if t then b else (if t then a else f j)) ≡ (if t then b else f j)
    at j true = refl
    at j false = refl

-- the row of caller 0 has ended, and no other was under way
pub rests_anew : (row : Row) → with_at (with_at (λ i. Rests) 0 row) 0 Rests ≡ (λ i. Rests)
rests_anew row = fun_ext (λ j. at (j == 0))
  where
    at : (t : Bool) → (if t then Rests else (if t then row else Rests)) ≡ Rests
    at true = refl
    at false = refl

module _ {T : Type 0} (defers : T → Option ℕ) (batch_size : ℕ) where
  module _ (roots : ℕ) (m m2 : Mem T) (h h2 : History) (had : IsHistory defers batch_size roots m h) where
    goes_on : (turns : List (Turn T)) (further : List Change) → TakesTurns defers batch_size turns (at_rest defers m h) (at_rest defers m2 h2) further → h2.before ≡ h.before ++ further
        → IsHistory defers batch_size roots m2 h2
    goes_on turns further k e = (
      had.0 ++ turns,
      subst (λ (a : List Change). TakesTurns defers batch_size (had.0 ++ turns) (at_start defers roots) (at_rest defers m2 h2) a) (sym e)
          (turns_append defers batch_size had.0 turns (at_start defers roots) (at_rest defers m h) (at_rest defers m2 h2) h.before further had.1 k),
    )

    pub called_history : (request : Request) → Calls defers batch_size 0 request (at_rest defers m h) (at_rest defers m2 h2) → h2.before ≡ h.before ++ changes request h.uses h2.uses
        → IsHistory defers batch_size roots m2 h2
    called_history request k e =
        goes_on (Whole 0 request ∷ []) (changes request h.uses h2.uses) (at_rest defers m2 h2, [], k, (refl, refl), sym (append-nil (changes request h.uses h2.uses))) e

    -- an event between calls
    pub ended_history : (event : Event T) → IsBetween event → Happens defers batch_size event (at_rest defers m h) (at_rest defers m2 h2) → h2.before ≡ h.before ++ ended_by event
        → IsHistory defers batch_size roots m2 h2
    ended_history event users k e =
        goes_on (Between event ∷ []) (ended_by event) (at_rest defers m2 h2, [], users, k, (refl, refl), sym (append-nil (ended_by event))) e

    -- which leaves no further values over
    pub happened_history : (event : Event T) → IsBetween event → ended_by event ≡ [] → Happens defers batch_size event (at_rest defers m h) (at_rest defers m2 h2) → h2.before ≡ h.before
        → IsHistory defers batch_size roots m2 h2
    happened_history event users none k e = ended_history event users k (e ∙ sym (append-nil h.before) ∙ ap (λ (l : List Change). h.before ++ l) (sym none))

  pub history_rested : (roots : ℕ) (m : Mem T) (h : History) → IsHistory defers batch_size roots m h → Rested defers (LAST_SLOT + 1) batch_size (at_rest defers m h)
  history_rested roots m h had =
      turns_rested defers (LAST_SLOT + 1) batch_size refl had.0 (at_start defers roots) (at_rest defers m h) h.before (start_rested defers (LAST_SLOT + 1) batch_size refl roots) had.1

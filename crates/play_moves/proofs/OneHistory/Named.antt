-- The pair that a call's answer names, by the word that links to it, is the one that was stored under the number with which the call is answered in the history. And a call that
-- asks and names none is answered that it has changed none.
use Rattle.std.specs.Prelude.{◌<◌, ◌^◌, Option, Some, None, if◌then◌else◌}
use Rattle.std.proofs.Common.{ℕ, Bool, true, false, List, ◌∷◌, inl, inr, refl, sym, subst, ap, ◌≡◌}
use Rattle.threads_rule.specs.Given.SeizeViewsDeclared.view.Fixed.{Fixed}
use Rattle.run_schedules.specs.Given.SeizeWordsWord.{block_in}
use Rattle.run_legal.specs.Given.TablesDeclared.node.Node.{Node}
use Rattle.run_legal.specs.Given.TablesDeclared.node.Node.TheVariants.{Pair}
use Rattle.run_schedules.specs.Given.RawDeclared.machines.answer.KeyAnswer.TheVariants as says
use Rattle.run_schedules.specs.Given.RawDeclared.machines.progress.Answer.{Answer as Said}
use Rattle.run_schedules.specs.Given.RawDeclared.machines.progress.Answer.TheVariants as said
use Rattle.run_schedules.specs.Given.RawDeclared.machines.progress.Progress.{Progress}
use Rattle.run_schedules.specs.Given.RawDeclared.machines.progress.Progress.TheVariants as progress
use Rattle.threads_rule.specs.Views.Begun.{machine_for}
use Rattle.threads_rule.specs.Views.Listed.{plain}
use Rattle.threads_rule.specs.Views.Looks.{shown_in}
use Rattle.threads_rule.specs.Views.Rule.{caller_at, section_of}
use Rattle.threads_rule.specs.declared.view.Map.{Map}
use Rattle.threads_rule.specs.declared.view.BegunCall.{BegunCall}
use Rattle.threads_rule.specs.declared.view.View.{View}
use Rattle.threads_rule.specs.Errands.Calling.{pair_there}
use Rattle.threads_rule.specs.Given.ActsActs.{Wanted, Compute, Insert, RemoveIf, TryToInsertWith}
use Rattle.run_schedules.specs.Schedules.Sequential.{Answers, Leaves, Puts, Takes, computes, computes_none, puts_reply, removes_if}
use Rattle.run_schedules.specs.declared.call.Response.{Response}
use Rattle.run_schedules.specs.declared.call.Response.TheVariants as answers
use Rattle.run_schedules.specs.declared.call.Call.{Call}
use Rattle.run_schedules.specs.declared.call.Call.TheVariants.{On}
use Rattle.run_schedules.specs.declared.call.OneKey.{OneKey}
use Rattle.run_schedules.specs.declared.call.OneKey.TheVariants as one_key
use Rattle.run_schedules.specs.declared.call.Reply.{Reply}
use Rattle.run_schedules.specs.declared.call.Reply.TheVariants.{Gives, Removes, Aborts, Decides}
use Rattle.run_schedules.specs.declared.outcome.Outcome.{Outcome}
use Rattle.run_schedules.specs.declared.outcome.Outcome.TheVariants.{Answered}
use Rattle.run_schedules.specs.Deeds.Deeds.{Entry}
use Rattle.run_legal.specs.Given.NamedSeen.{kind_of}
use Rattle.run_legal.specs.Given.ScenesStepping.{has_ended}
use Rattle.run_legal.specs.Given.EffectsKnown.{Known}
use Rattle.run_legal.specs.Given.EffectsDeclared.role.Role.TheVariants as role
use Rattle.run_legal.specs.Given.HistoriesEvents.{HasOutcome}
use Rattle.play_linear.specs.Given.PlayedPlay.{call_for, outcome_of}
use Rattle.play_moves.specs.OneHistory.Answered.{IsItsEnd}
use Rattle.play_moves.specs.OneHistory.Calls.{Became, CameIn, TookItsPlace, GaveWay, WentOut, HasAborted, HasComputedPair, HasKept, HasOneWith, HasRemovedIfPair, HasReplacedPair, ItsCall, WasNamed, computed_so, kept}
use Rattle.play_moves.proofs.OneHistory.Calls.{by_newest, by_seen}
use Rattle.run_schedules.proofs.Given.General.{same_some}

-- What a call means that stores a value or removes a pair, as it was replied, is answered so.
module _ {V : Type 0} (a : Response V) where
  given_so : (reply : Option (Reply V)) (is : Response V) (v : V) → puts_reply reply is ≡ Answers a (Puts v) → a ≡ is
  given_so (Some (Gives x)) is v e = let one : is ≡ a = cc e in sym one
  given_so (Some Removes) is v e = absurd (cc e)
  given_so (Some (Aborts x)) is v e = absurd (cc e)
  given_so (Some (Decides x)) is v e = absurd (cc e)
  given_so None is v e = absurd (cc e)

  removed_so : (reply : Option (Reply V)) (p : ℕ) → removes_if reply p ≡ Answers a Takes → a ≡ answers.Found p
  removed_so (Some (Decides true)) p e = let one : answers.Found p ≡ a = cc e in sym one
  removed_so (Some (Decides false)) p e = absurd (cc e)
  removed_so (Some (Gives x)) p e = absurd (cc e)
  removed_so (Some Removes) p e = absurd (cc e)
  removed_so (Some (Aborts x)) p e = absurd (cc e)
  removed_so None p e = absurd (cc e)

  came_in : (reply : Option (Reply V)) (n : ℕ) (v : V) → computes_none reply n ≡ Answers a (Puts v) → a ≡ answers.Inserted n
  came_in (Some (Gives x)) n v e = let one : answers.Inserted n ≡ a = cc e in sym one
  came_in (Some Removes) n v e = absurd (cc e)
  came_in (Some (Aborts x)) n v e = absurd (cc e)
  came_in (Some (Decides x)) n v e = absurd (cc e)
  came_in None n v e = absurd (cc e)

  took_its_place : (reply : Option (Reply V)) (p n : ℕ) (v : V) → computes reply p n ≡ Answers a (Puts v) → a ≡ answers.Updated p n
  took_its_place (Some (Gives x)) p n v e = let one : answers.Updated p n ≡ a = cc e in sym one
  took_its_place (Some Removes) p n v e = absurd (cc e)
  took_its_place (Some (Aborts x)) p n v e = absurd (cc e)
  took_its_place (Some (Decides x)) p n v e = absurd (cc e)
  took_its_place None p n v e = absurd (cc e)

  went_out : (reply : Option (Reply V)) (p n : ℕ) → computes reply p n ≡ Answers a Takes → a ≡ answers.Removed p
  went_out (Some Removes) p n e = let one : answers.Removed p ≡ a = cc e in sym one
  went_out (Some (Gives x)) p n e = absurd (cc e)
  went_out (Some (Aborts x)) p n e = absurd (cc e)
  went_out (Some (Decides x)) p n e = absurd (cc e)
  went_out None p n e = absurd (cc e)

  -- One that changes nothing is answered so.
  left_so : (reply : Option (Reply V)) (p : ℕ) → removes_if reply p ≡ Answers a Leaves → a ≡ answers.Kept p
  left_so (Some (Decides false)) p e = let one : answers.Kept p ≡ a = cc e in sym one
  left_so (Some (Decides true)) p e = absurd (cc e)
  left_so (Some (Gives x)) p e = absurd (cc e)
  left_so (Some Removes) p e = absurd (cc e)
  left_so (Some (Aborts x)) p e = absurd (cc e)
  left_so None p e = absurd (cc e)

  puts_none : (reply : Option (Reply V)) (p : ℕ) (v : V) → removes_if reply p ≡ Answers a (Puts v) → ⊥
  puts_none (Some (Decides true)) p v e = absurd (cc e)
  puts_none (Some (Decides false)) p v e = absurd (cc e)
  puts_none (Some (Gives x)) p v e = absurd (cc e)
  puts_none (Some Removes) p v e = absurd (cc e)
  puts_none (Some (Aborts x)) p v e = absurd (cc e)
  puts_none None p v e = absurd (cc e)

  aborted_none : (reply : Option (Reply V)) (n : ℕ) → computes_none reply n ≡ Answers a Leaves → (end : V) × (a ≡ answers.Aborted end)
  aborted_none (Some (Aborts x)) n e = (x, let one : answers.Aborted x ≡ a = cc e in sym one)
  aborted_none (Some (Gives x)) n e = absurd (cc e)
  aborted_none (Some Removes) n e = absurd (cc e)
  aborted_none (Some (Decides x)) n e = absurd (cc e)
  aborted_none None n e = absurd (cc e)

  aborted_one : (reply : Option (Reply V)) (p n : ℕ) → computes reply p n ≡ Answers a Leaves → (end : V) × (a ≡ answers.Aborted end)
  aborted_one (Some (Aborts x)) p n e = (x, let one : answers.Aborted x ≡ a = cc e in sym one)
  aborted_one (Some (Gives x)) p n e = absurd (cc e)
  aborted_one (Some Removes) p n e = absurd (cc e)
  aborted_one (Some (Decides x)) p n e = absurd (cc e)
  aborted_one None p n e = absurd (cc e)

-- an answer tells this of the pair of this word
abbrev pub TellsOf : Became → ℕ → Said → Type 0
TellsOf CameIn word (said.Key (says.Stored new)) = new ≡ word
TellsOf TookItsPlace word (said.Key (says.Replaced old new)) = new ≡ word
TellsOf GaveWay word (said.Key (says.Replaced old new)) = old ≡ word
TellsOf WentOut word (said.Key (says.Removed old)) = old ≡ word
TellsOf became word it = ⊥

-- the call is answered so with the number of the pair of this word
abbrev IsAnsweredBy : {V A : Type 0} → Known → (A → ℕ → Response V) → ℕ → Outcome V → Type 0
IsAnsweredBy {V} {A} known answer word o = (a : A) × (n : ℕ) × (known.roles (block_in word) ≡ role.Pair n) × (o ≡ Answered (answer a n))

called : (known : Known) (n word other : ℕ) → other ≡ word → known.roles (block_in other) ≡ role.Pair n → known.roles (block_in word) ≡ role.Pair n
called known n word other is names = subst (λ (w : ℕ). known.roles (block_in w) ≡ role.Pair n) is names

module _ {K V : Type 0} (known : Known) (replies : List (Option ℕ × Reply V)) where
  -- one that was replaced,
  given_way : (key : K) (value : V) (old new : ℕ) (o : Outcome V) → HasOutcome known (one_key.Insert key value) replies (progress.Done (said.Key (says.Replaced old new))) o
      → IsAnsweredBy {A = Unit {0}} known (λ _. answers.Found) old o
  given_way key value old new (Answered a) (inr (p, n, was, names, v, means)) = (tt, p, was, ap Answered (let one : answers.Found p ≡ a = cc means in sym one))
  given_way key value old new (Answered a) (inl so) = absurd so
  given_way key value old new _ comes = absurd comes

  -- one of which a test has said yes,
  taken_if : (key : K) (word : ℕ) (o : Outcome V) → HasOutcome known (one_key.RemoveIf key) replies (progress.Done (said.Key (says.Removed word))) o → IsAnsweredBy {A = Unit {0}} known (λ _. answers.Found) word o
  taken_if key word (Answered a) (inr (p, names, means)) = (tt, p, names, ap Answered (removed_so a _ p (means 0)))
  taken_if key word (Answered a) (inl so) = absurd so
  taken_if key word _ comes = absurd comes

  -- one that is there where what is made was to be stored,
  put_with : (key : K) (word : ℕ) (it : Said) (o : Outcome V) → HasOutcome known (one_key.TryInsertWith key) replies (progress.Done it) o → pair_there it ≡ Some word
      → IsAnsweredBy {A = Bool} known (λ stored n. if stored then answers.Stored n else answers.Kept n) word o
  put_with key word (said.Key (says.Stored new)) (Answered a) (inr (n, names, v, means)) is =
      (true, n, called known n word new (same_some new word is) names, ap Answered (given_so a _ (answers.Stored n) v means))
  put_with key word (said.Key (says.Found old)) (Answered a) (inl (n, names, means)) is =
      (false, n, called known n word old (same_some old word is) names, ap Answered (let so = means 0 in let one : answers.Kept n ≡ a = cc so in sym one))
  put_with key word (said.Key (says.Replaced old new)) (Answered a) (inr (o, n, was, names, v, means)) is = absurd (cc means)
  put_with key word (said.Key (says.Found old)) (Answered a) (inr done) is = absurd done
  put_with key word (said.Key (says.Stored new)) (Answered a) (inl so) is = absurd so
  put_with key word (said.Key (says.Replaced old new)) (Answered a) (inl so) is = absurd so
  put_with key word (said.Key (says.Removed old)) o comes is = absurd (cc is)
  put_with key word (said.Key says.Absent) o comes is = absurd (cc is)
  put_with key word _ _ comes is = absurd comes

  -- and one of which this became
  became_so : (became : Became) (key : K) (word : ℕ) (it : Said) (o : Outcome V) → HasOutcome known (one_key.Compute key) replies (progress.Done it) o → TellsOf became word it
      → IsAnsweredBy {A = ℕ} known (computed_so became) word o
  became_so CameIn key word (said.Key (says.Stored new)) (Answered a) (inr (n, names, v, means)) is = (0, n, called known n word new is names, ap Answered (came_in a _ n v means))
  became_so TookItsPlace key word (said.Key (says.Replaced old new)) (Answered a) (inr (p, n, was, names, v, means)) is =
      (p, n, called known n word new is names, ap Answered (took_its_place a _ p n v means))
  became_so GaveWay key word (said.Key (says.Replaced old new)) (Answered a) (inr (p, n, was, names, v, means)) is =
      (n, p, called known p word old is was, ap Answered (took_its_place a _ p n v means))
  became_so WentOut key word (said.Key (says.Removed old)) (Answered a) (inr (p, names, means)) is = (0, p, called known p word old is names, ap Answered (went_out a _ p 0 (means 0)))
  became_so CameIn key word (said.Key (says.Stored new)) (Answered a) (inl so) is = absurd so
  became_so TookItsPlace key word (said.Key (says.Replaced old new)) (Answered a) (inl so) is = absurd so
  became_so GaveWay key word (said.Key (says.Replaced old new)) (Answered a) (inl so) is = absurd so
  became_so WentOut key word (said.Key (says.Removed old)) (Answered a) (inl so) is = absurd so
  became_so CameIn key word (said.Key (says.Stored new)) _ comes is = absurd comes
  became_so TookItsPlace key word (said.Key (says.Replaced old new)) _ comes is = absurd comes
  became_so GaveWay key word (said.Key (says.Replaced old new)) _ comes is = absurd comes
  became_so WentOut key word (said.Key (says.Removed old)) _ comes is = absurd comes
  became_so _ key word _ o comes is = absurd is

  -- Where none was removed, none was to be, or there was none;
  kept_so : (key : K) (it : Said) (o : Outcome V) → HasOutcome known (one_key.RemoveIf key) replies (progress.Done it) o → (Left : Said → Type 0) → ((word : ℕ) → Left (said.Key (says.Removed word)) → ⊥)
      → Left it → (pair : Option ℕ) × (o ≡ Answered (kept pair))
  kept_so key (said.Key says.Absent) (Answered a) (inl means) Left gone left = (None, ap Answered (let is = means 0 in let one : answers.Absent ≡ a = cc is in sym one))
  kept_so key (said.Key (says.Found word)) (Answered a) (inl (n, names, means)) Left gone left = (Some n, ap Answered (left_so a _ n (means 0)))
  kept_so key (said.Key (says.Removed word)) o comes Left gone left = absurd (gone word left)
  kept_so key (said.Key (says.Stored new)) (Answered a) (inr (n, names, v, means)) Left gone left = absurd (cc means)
  kept_so key (said.Key (says.Replaced old new)) (Answered a) (inr (o, n, was, names, v, means)) Left gone left = absurd (puts_none a _ o v means)
  kept_so key (said.Key says.Absent) (Answered a) (inr done) Left gone left = absurd done
  kept_so key (said.Key (says.Found word)) (Answered a) (inr done) Left gone left = absurd done
  kept_so key (said.Key (says.Stored new)) (Answered a) (inl so) Left gone left = absurd so
  kept_so key (said.Key (says.Replaced old new)) (Answered a) (inl so) Left gone left = absurd so
  kept_so key _ _ comes Left gone left = absurd comes

  -- and where a closure has changed nothing, it has said so.
  aborted_so : (key : K) (it : Said) (o : Outcome V) → HasOutcome known (one_key.Compute key) replies (progress.Done it) o → (Left : Said → Type 0) → ((new : ℕ) → Left (said.Key (says.Stored new)) → ⊥)
      → ((old new : ℕ) → Left (said.Key (says.Replaced old new)) → ⊥) → ((word : ℕ) → Left (said.Key (says.Removed word)) → ⊥) → Left it → (end : V) × (o ≡ Answered (answers.Aborted end))
  aborted_so key (said.Key says.Absent) (Answered a) (inl means) Left none other gone left = let is = aborted_none a _ 0 (means 0) in (is.0, ap Answered is.1)
  aborted_so key (said.Key (says.Found word)) (Answered a) (inl (n, names, means)) Left none other gone left = let is = aborted_one a _ n 0 (means 0) in (is.0, ap Answered is.1)
  aborted_so key (said.Key (says.Stored new)) o comes Left none other gone left = absurd (none new left)
  aborted_so key (said.Key (says.Replaced old new)) o comes Left none other gone left = absurd (other old new left)
  aborted_so key (said.Key (says.Removed word)) o comes Left none other gone left = absurd (gone word left)
  aborted_so key (said.Key says.Absent) (Answered a) (inr done) Left none other gone left = absurd done
  aborted_so key (said.Key (says.Found word)) (Answered a) (inr done) Left none other gone left = absurd done
  aborted_so key _ _ comes Left none other gone left = absurd comes

module _ {K V S : Type 0} (same : K → K → Bool) (hash : S → K → ℕ) (fixed : Fixed) (small : fixed.batch_size < 2 ^ 64) (id t : ℕ) (v : View K V S) (map : Map S) (run : BegunCall K V)
    (before : List (BegunCall K V)) (knows : v.map ≡ Some map) (section : section_of v.under v.slot ≡ Some t) (calls_are : v.calls ≡ run ∷ before) (on_it : run.map ≡ map.number) where
  -- A call on one key has ended, and the seat shows the pair of a word with which it has answered.
  module _ (one : OneKey K V) (wanted : Wanted K V) (simple : plain wanted ≡ wanted) (call_is : call_for wanted ≡ On one) (it : Said) (began : run.began ≡ machine_for same hash map t wanted)
      (told : run.told ≡ progress.Done it) (word : ℕ) (stored : K) (value : V) (shown : shown_in v.held (block_in word) ≡ Some (Pair stored value)) where
    named : {A : Type 0} (answer : A → ℕ → Response V)
        → ((known : Known) (replies : List (Option ℕ × Reply V)) (o : Outcome V) → HasOutcome known one replies (progress.Done it) o → IsAnsweredBy known answer word o)
        → (So : ℕ → ℕ → List (Entry K V) → Entry K V → Type 0)
        → ((i m : ℕ) (log : List (Entry K V)) (e : Entry K V) (a : A) → WasNamed same i m (On one) (answer a) (stored, value) log e → So i m log e) → ItsCall same hash fixed id v So
    named answer by So so =
        by_seen same hash fixed small id t v map run before knows section calls_are on_it wanted simple began (ap has_ended told) word stored value shown So (λ log e ends names.
        let o = outcome_of ends.0 (kind_of (call_for wanted)) ends.1 run.told in
        let on = ends.4 one call_is in
        let is = by ends.0 on.0 o (subst (λ (p : Progress (Node K V)). HasOutcome ends.0 one on.0 p o) told on.1) in
        so (caller_at id t) map.number log e is.0 (
          is.1,
          subst (λ (c : Call K V). IsItsEnd same (caller_at id t) map.number c (Answered (answer is.0 is.1)) log e) call_is
              (subst (λ (a : Outcome V). IsItsEnd same (caller_at id t) map.number (call_for wanted) a log e) is.3 ends.2),
          names is.1 is.2,
        ))

  -- It has replaced this pair,
  pub has_replaced_pair : (key : K) (value : V) (old new : ℕ) (stored : K) (was : V) → run.began ≡ machine_for same hash map t (Insert key value)
      → run.told ≡ progress.Done (said.Key (says.Replaced old new)) → shown_in v.held (block_in old) ≡ Some (Pair stored was) → HasReplacedPair same hash fixed id v key value (stored, was)
  has_replaced_pair key value old new stored was began told shown =
      named (one_key.Insert key value) (Insert key value) refl refl (said.Key (says.Replaced old new)) began told old stored was shown (λ _. answers.Found)
      (λ known replies o comes. given_way known replies key value old new o comes) (λ i m. WasNamed same i m (On (one_key.Insert key value)) answers.Found (stored, was)) (λ i m log e a so. so)

  -- or removed it, as a test said yes of it,
  pub has_removed_if_pair : (key : K) (word : ℕ) (stored : K) (value : V) → run.began ≡ machine_for same hash map t (RemoveIf key) → run.told ≡ progress.Done (said.Key (says.Removed word))
      → shown_in v.held (block_in word) ≡ Some (Pair stored value) → HasRemovedIfPair same hash fixed id v key (stored, value)
  has_removed_if_pair key word stored value began told shown =
      named (one_key.RemoveIf key) (RemoveIf key) refl refl (said.Key (says.Removed word)) began told word stored value shown (λ _. answers.Found)
      (λ known replies o comes. taken_if known replies key word o comes) (λ i m. WasNamed same i m (On (one_key.RemoveIf key)) answers.Found (stored, value)) (λ i m log e a so. so)

  -- or come upon it where what is made was to be stored,
  pub has_one_with : (key : K) (it : Said) (word : ℕ) (stored : K) (value : V) → run.began ≡ machine_for same hash map t (TryToInsertWith key) → run.told ≡ progress.Done it → pair_there it ≡ Some word
      → shown_in v.held (block_in word) ≡ Some (Pair stored value) → HasOneWith same hash fixed id v key (stored, value)
  has_one_with key it word stored value began told there shown =
      named (one_key.TryInsertWith key) (TryToInsertWith key) refl refl it began told word stored value shown (λ (own : Bool) n. if own then answers.Stored n else answers.Kept n)
      (λ known replies o comes. put_with known replies key word it o comes there)
      (λ i m log e. (own : Bool) × WasNamed same i m (On (one_key.TryInsertWith key)) (λ n. if own then answers.Stored n else answers.Kept n) (stored, value) log e) (λ i m log e a so. (a, so))

  -- or done with its key what a closure has said, so that this became of it.
  pub has_computed_pair : (became : Became) (key : K) (it : Said) (word : ℕ) (stored : K) (value : V) → run.began ≡ machine_for same hash map t (Compute key) → run.told ≡ progress.Done it
      → TellsOf became word it → shown_in v.held (block_in word) ≡ Some (Pair stored value) → HasComputedPair same hash fixed id v became key (stored, value)
  has_computed_pair became key it word stored value began told tells shown =
      named (one_key.Compute key) (Compute key) refl refl it began told word stored value shown (computed_so became) (λ known replies o comes. became_so known replies became key word it o comes tells)
      (λ i m log e. (other : ℕ) × WasNamed same i m (On (one_key.Compute key)) (computed_so became other) (stored, value) log e) (λ i m log e a so. (a, so))

  -- It has left the pair of a key, of which no test said yes, or there was none,
  pub has_kept : (key : K) (it : Said) → run.began ≡ machine_for same hash map t (RemoveIf key) → run.told ≡ progress.Done it → (Left : Said → Type 0)
      → ((word : ℕ) → Left (said.Key (says.Removed word)) → ⊥) → Left it → HasKept same hash fixed id v key
  has_kept key it began told Left gone left =
      by_newest same hash fixed small id t v map run before knows section calls_are on_it (RemoveIf key) refl began (ap has_ended told)
      (λ i m log e. (pair : Option ℕ) × IsItsEnd same i m (On (one_key.RemoveIf key)) (Answered (kept pair)) log e) (λ log e ends.
      let o = outcome_of ends.0 (kind_of (call_for {K = K} {V = V} (RemoveIf key))) ends.1 run.told in
      let on = ends.4 (one_key.RemoveIf key) refl in
      let by = kept_so ends.0 on.0 key it o (subst (λ (p : Progress (Node K V)). HasOutcome ends.0 (one_key.RemoveIf key) on.0 p o) told on.1) Left gone left in
      (by.0, subst (λ (a : Outcome V). IsItsEnd same (caller_at id t) map.number (On (one_key.RemoveIf key)) a log e) by.1 ends.2))

  -- or was to change nothing.
  pub has_aborted : (key : K) (it : Said) → run.began ≡ machine_for same hash map t (Compute key) → run.told ≡ progress.Done it → (Left : Said → Type 0) → ((new : ℕ) → Left (said.Key (says.Stored new)) → ⊥)
      → ((old new : ℕ) → Left (said.Key (says.Replaced old new)) → ⊥) → ((word : ℕ) → Left (said.Key (says.Removed word)) → ⊥) → Left it → HasAborted same hash fixed id v key
  has_aborted key it began told Left none other gone left =
      by_newest same hash fixed small id t v map run before knows section calls_are on_it (Compute key) refl began (ap has_ended told)
      (λ i m log e. (end : V) × IsItsEnd same i m (On (one_key.Compute key)) (Answered (answers.Aborted end)) log e) (λ log e ends.
      let o = outcome_of ends.0 (kind_of (call_for {K = K} {V = V} (Compute key))) ends.1 run.told in
      let on = ends.4 (one_key.Compute key) refl in
      let by = aborted_so ends.0 on.0 key it o (subst (λ (p : Progress (Node K V)). HasOutcome ends.0 (one_key.Compute key) on.0 p o) told on.1) Left none other gone left in
      (by.0, subst (λ (a : Outcome V). IsItsEnd same (caller_at id t) map.number (On (one_key.Compute key)) a log e) by.1 ends.2))
